pub mod Structs
pub mod FileText
pub mod Codes
pub mod Laws
