pub mod Report
pub mod Counted
pub mod Room
pub mod Sums
