pub mod Ops
pub mod Passes
