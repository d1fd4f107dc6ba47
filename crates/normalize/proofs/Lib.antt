pub mod Turns
pub mod Visits
