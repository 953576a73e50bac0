pub mod ClassSteps
pub mod Splits
