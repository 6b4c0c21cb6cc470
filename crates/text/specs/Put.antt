-- What every put leaves: the text in its place, as far as the space goes, and the place past it.
use Rattle.std.specs.Prelude.{ℕ, ◌+◌, List, ◌≡◌, length}
use Rattle.std.proofs.lemmas.List.Edits.{sets}
use Rattle.text.specs.declared.Page.{Page}

pub record Put (space : List ℕ) (place : ℕ) (text space' : List ℕ) (place' : ℕ) : Type 0 where
  pub bytes : space' ≡ sets space place text
  pub past : place' ≡ place + length text

-- on a page, which stays that of the same space
pub record Puts (page : Page) (text : List ℕ) (page' : Page) : Type 0 where
  pub same_space : page'.space.ghost_name ≡ page.space.ghost_name
  pub put : Put page.space.now page.at text page'.space.now page'.at
