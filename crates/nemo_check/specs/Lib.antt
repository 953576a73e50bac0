pub mod Finds
pub mod Tables
