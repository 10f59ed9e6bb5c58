pub mod RunLaws
pub mod Accepted
pub mod Worked
pub mod WrittenLaws
pub mod WrittenRead
pub mod ReadWritten
pub mod FetchLaws
