pub mod PartLaws
pub mod RebuildLaws
