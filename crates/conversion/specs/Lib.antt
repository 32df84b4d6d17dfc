pub mod Conversion
pub mod Arrays
pub mod Secrecy
pub mod Accepted
pub mod Written
