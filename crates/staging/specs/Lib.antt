pub mod BlankLaws
pub mod RoleLaws
pub mod Stage
pub mod StageLaws
