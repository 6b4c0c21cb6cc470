mod ConfigurationLaws
mod ResetLaws
