mod AdmitLaws
mod CommandLaws
