pub mod Tally
pub mod Counted
pub mod LineLaws
pub mod Bounds
pub mod OneMore
