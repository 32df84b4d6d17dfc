pub mod Laws
pub mod Sum
pub mod Integers
pub mod Wrapped
pub mod Signed
