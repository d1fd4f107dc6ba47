pub mod Index
pub mod IndexLaws
pub mod Kinds
pub mod Records
pub mod Rows
pub mod TabLaws
