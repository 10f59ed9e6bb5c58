pub mod DetailsLaws
pub mod TableLaws
pub mod EventLaws
pub mod WritesLaws
pub mod RecordsLaws
pub mod WroteLaws
