pub mod Judging
pub mod Numbered
pub mod Standing
