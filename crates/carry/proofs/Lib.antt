mod CarriedLaws
mod StagedLaws
