pub mod Depths
pub mod Fitting
pub mod FoldingWords
pub mod Fronts
pub mod Lengths
pub mod Members
pub mod Passing
