pub mod Answers
pub mod Calls
pub mod Exprs
pub mod Heads
pub mod Operations
pub mod Parts
pub mod Shapes
pub mod Vertices
