pub mod Polynomial
pub mod Secrecy
pub mod Accepted
pub mod Calls
pub mod Area
pub mod SecrecyProof
