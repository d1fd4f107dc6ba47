pub mod LineLaws
pub mod StageLaws
