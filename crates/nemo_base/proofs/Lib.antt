mod EvenCuts
pub mod BucketTasks
pub mod Finding
pub mod NeededTasks
pub mod NewCuts
pub mod SoundGraphs
