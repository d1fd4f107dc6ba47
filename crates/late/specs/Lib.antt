pub mod Later
pub mod Flagged
pub mod ReachedLaws
pub mod FlaggedLaws
pub mod LaterLaws
