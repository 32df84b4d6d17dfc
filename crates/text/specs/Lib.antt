pub mod Ascii
pub mod Text
pub mod Laws
