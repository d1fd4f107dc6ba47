pub mod Layout
pub mod Laws
pub mod BuildLaws
pub mod Following
pub mod FollowingLaws
pub mod AxiomLaws
