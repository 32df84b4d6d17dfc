pub mod Search
pub mod Checks
pub mod Width
pub mod Answers
pub mod Laws
pub mod Refusals
pub mod FromBits
