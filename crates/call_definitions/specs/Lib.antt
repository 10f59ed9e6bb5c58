pub mod Window
pub mod Occurrence
pub mod Utc
pub mod Bytes
pub mod Answer
pub mod Call
pub mod Agree
pub mod Results
