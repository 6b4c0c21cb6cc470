-- Theorems and laws that rest on a definition which an edit changes: there the edit is refused, and specs/ can still be read.

-- final statements
pub mod SessionAcceptance
pub mod CallAcceptance
pub mod BoxAcceptance
pub mod BoxSecrecy
pub mod SessionWriting
pub mod SessionMending
-- what proves them
pub mod SessionRefusalLaws
pub mod CallConditionsLaws
pub mod BoxLaws
pub mod BoxSecrecyLaws
pub mod WriterConditionsLaws
pub mod SessionMendingLaws
