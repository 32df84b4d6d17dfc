pub mod Rows
pub mod Shift
pub mod Settles
