pub mod CountLaws
pub mod FewLaws
pub mod ListedLaws
pub mod MarkedLaws
pub mod RoomLaws
