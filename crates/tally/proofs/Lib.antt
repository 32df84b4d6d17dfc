pub mod Signed
pub mod LineLaws
pub mod OneMore
