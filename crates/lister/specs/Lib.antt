pub mod Cut
pub mod ReplyLaws
pub mod Text
