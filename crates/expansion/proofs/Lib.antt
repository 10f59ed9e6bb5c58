pub mod CallLaws
pub mod AcceptedLaws
pub mod PutLaws
pub mod VisibleLaws
