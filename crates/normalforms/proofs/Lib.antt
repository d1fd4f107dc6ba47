pub mod AxiomLaws
pub mod LineLaws
pub mod RoomLaws
pub mod FormLaws
