pub mod ChainMain
pub mod Keyless
pub mod PlainUniform
pub mod PlainValid
pub mod Vertices
