pub mod Emits
pub mod FrameLaws
pub mod StepLaws
pub mod LoopLaws
pub mod QueueLaws
pub mod QueueLoops
