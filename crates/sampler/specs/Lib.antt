pub mod Sampler
pub mod Secrecy
pub mod Laws
pub mod Accepted
pub mod Translation
