pub mod SearchLaws
pub mod FittingLaws
pub mod RowLaws
pub mod PlaceLaws
pub mod RunLaws
pub mod BreakLaws
pub mod VerdictLaws
