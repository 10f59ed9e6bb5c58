pub mod RuleLaws
pub mod PlaceLaws
pub mod PatchLaws
pub mod WindowLaws
pub mod YearLaws
pub mod KeptLaws
pub mod LoadLaws
pub mod CallerLaws
