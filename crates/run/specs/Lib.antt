pub mod Before
pub mod LateLaws
pub mod Ran
pub mod RunLaws
