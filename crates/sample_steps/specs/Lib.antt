pub mod SampleSteps
pub mod Calls
