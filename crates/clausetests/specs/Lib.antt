pub mod Vars
pub mod Given
pub mod VarLaws
pub mod ScanCode
pub mod SetLaws
pub mod Fitting
pub mod Search
pub mod Clauses
