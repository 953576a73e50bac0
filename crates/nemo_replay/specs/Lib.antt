pub mod EndSink
pub mod StageRun
pub mod StageStates
