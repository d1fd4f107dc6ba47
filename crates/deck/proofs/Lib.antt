pub mod ConceptLaws
mod EnterLaws
pub mod KindLaws
pub mod LineLaws
mod NameLaws
mod RowLaws
mod TableLaws
