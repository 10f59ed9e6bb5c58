pub mod SpanLaws
pub mod UploadLoops
pub mod OrderLaws
pub mod ClearLaws
pub mod TallyLaws
pub mod RangeLaws
pub mod CallLaws
