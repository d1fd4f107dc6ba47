pub mod Drawn
pub mod DrawnLaws
pub mod Good
pub mod Tabled
pub mod TabledLaws
pub mod AtomLaws
pub mod ClauseLaws
pub mod Lending
