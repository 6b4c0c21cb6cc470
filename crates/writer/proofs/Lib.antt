mod PartsCheckLaws
mod SessionPutLaws
