pub mod Main
pub mod Passes
