pub mod Entry
pub mod Replies
pub mod NumberLaws
pub mod MeaningLaws
pub mod Sessions
pub mod Trials
