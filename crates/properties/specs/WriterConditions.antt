-- When the session writer refuses: each number's condition by itself, from what it is given and the length of the lent space alone, and
-- in order.
use Rattle.std.specs.Prelude.{ℕ, zero, suc, not, List, [], ◌∷◌, ◌++◌, ltb, eqb, length, drop}
use Rattle.model.specs.Sizes.{card_size, fuse_at, greatest_session, most_records, most_title}
use Rattle.model.specs.Lists.{at}
use Rattle.model.specs.Record.{record_length}
use Rattle.model.specs.Refusal.{session_length, too_many_records, fuse_byte, staging_bytes, bytes_left, no_space, card_length, title_length}
use Rattle.model.specs.Single.{is_fuse_byte, staging_fits}
use Rattle.model.specs.Writer.{Parts, session_bytes}
use Rattle.properties.specs.Conditions.{Condition, when, record_conditions}

-- what stands behind n records at the front of a part: each begins where the one before it ends
abbrev pub behind : ℕ → List ℕ → List ℕ
behind zero part = part
behind (suc n) part = behind n (drop (record_length part) part)

-- those records in turn
abbrev pub end_to_end : ℕ → List ℕ → List Condition
end_to_end zero part = []
end_to_end (suc n) part = record_conditions part ++ end_to_end n (drop (record_length part) part)

-- 9 and 10
abbrev pub last_of : Parts → List ℕ → List Condition
last_of p space =
    when bytes_left (not (eqb (length (behind p.count p.records)) 0))
    ∷ when no_space (ltb (length space) (length (session_bytes p)))
    ∷ []

-- 11, 1, 4, 5, 16, 15, the records in turn, 9, 10
abbrev pub writer_conditions : Parts → List ℕ → List Condition
writer_conditions p space =
    when card_length (not (eqb (length p.card) card_size))
    ∷ when session_length (ltb greatest_session (length (session_bytes p)))
    ∷ when too_many_records (ltb most_records p.count)
    ∷ when fuse_byte (not (is_fuse_byte (at p.card fuse_at)))
    ∷ when staging_bytes (not (staging_fits p.card))
    ∷ when title_length (ltb most_title (length p.title))
    ∷ (end_to_end p.count p.records ++ last_of p space)
