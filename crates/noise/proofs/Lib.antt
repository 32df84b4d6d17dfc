pub mod BitLaws
pub mod Groups
pub mod Opened
pub mod Calls
