pub mod Letter
pub mod Grammar
