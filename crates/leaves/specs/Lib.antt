pub mod Leaves
pub mod LeafLaws
pub mod Classes
pub mod Reading
pub mod Made
pub mod ReadLaws
pub mod StepLaws
pub mod NamedLaws
