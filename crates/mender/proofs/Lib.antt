mod PartLaws
mod SearchLaws
mod TableLaws
mod MendingLaws
