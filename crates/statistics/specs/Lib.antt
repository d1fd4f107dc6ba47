pub mod Counted
pub mod Counting
pub mod CountLaws
pub mod ExistsLaws
pub mod AddLaws
