pub mod Hands
pub mod HandLaws
pub mod QueueLaws
pub mod Place
