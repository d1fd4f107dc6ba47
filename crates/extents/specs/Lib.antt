pub mod Ready
pub mod ReadyLaws
pub mod Sets
