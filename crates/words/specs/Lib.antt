pub mod Words
pub mod Laws
pub mod Runs
pub mod Bytes
