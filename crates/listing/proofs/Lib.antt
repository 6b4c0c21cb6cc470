mod LineLaws
mod ListedLaws
