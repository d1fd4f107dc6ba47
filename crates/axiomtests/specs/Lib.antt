pub mod Lines
pub mod Breaking
pub mod Lists
pub mod Chains
