pub mod Answering
pub mod Chains
pub mod Completing
pub mod Leading
pub mod Running
