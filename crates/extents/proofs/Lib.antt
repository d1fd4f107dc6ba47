pub mod Laws
pub mod ConceptLaws
pub mod ThereLaws
pub mod SetsLaws
