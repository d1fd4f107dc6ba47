pub mod Read
pub mod Lines
pub mod Numbers
pub mod Drawn
