pub mod Layout
pub mod Lines
pub mod Loads
pub mod KeptAxioms
pub mod Rows
