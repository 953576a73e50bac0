pub mod Keeping
pub mod Keyless
pub mod Walking
