pub mod Kept
pub mod KeptLaws
pub mod Places
pub mod Laid
pub mod Verdicts
pub mod FoldLaws
