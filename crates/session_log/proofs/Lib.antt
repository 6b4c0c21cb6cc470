mod LogCheckLaws
mod FindLaws
mod LogWriteLaws
