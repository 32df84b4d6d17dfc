pub mod Sharing
pub mod Answers
pub mod Xor
