pub mod Flags
pub mod Steps
pub mod FlagLaws
pub mod IdLaws
pub mod EdgeLaws
pub mod AxiomLaws
pub mod WalkLaws
pub mod RoundLaws
