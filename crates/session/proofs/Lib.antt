mod SessionWriteLaws
mod RunLaws
