-- What bytes that may not be read answer ("The byte shown for a closed zone"), computed on whole cards: one table, one theorem.
use Rattle.std.specs.Prelude.{ℕ, List, [], ◌∷◌, map, ◌≡◌, refl, set, replicate}
use Rattle.model.specs.At88sc1608.{register_at}
use Rattle.tables.specs.Trials.{blank, spaces, Case}
use Rattle.tables.specs.Computed.{computed}

-- a card of $FF bytes with a fuse byte and a register of zone 0, which holds 1 at $FE, 2 at $FF and 3 at $00
abbrev zoned : ℕ → ℕ → List ℕ
zoned f register = set (set (set (set (blank f) (register_at 0) register) 0xFE 1) 0xFF 2) 0x00 3

-- registers that ask for the read password of set 3, and for authentication
abbrev read_password : ℕ
read_password = 0xAF

abbrev authentication : ℕ
authentication = 0xDF

-- three bytes from $FE on
abbrev rolling : List ℕ
rolling = 4 ∷ 0xFE ∷ 3 ∷ []

-- a password, $FF $FF $FF on these cards, presented for a selector
abbrev verifying : ℕ → List ℕ
verifying selector = 10 ∷ selector ∷ 0xFF ∷ 0xFF ∷ 0xFF ∷ []

-- a response space of four bytes that hold $99, with the same byte thrice at its front
abbrev thrice : ℕ → List ℕ
thrice byte = byte ∷ byte ∷ byte ∷ 0x99 ∷ []

unfoldable pub closed_bytes : List Case
closed_bytes =
    -- a zone without its password, past $FF too, at F = 6, 4 and 0; at F = 7 it is open
    (spaces (zoned 6 read_password) (rolling ∷ []), thrice 6 ∷ [])
    ∷ (spaces (zoned 4 read_password) (rolling ∷ []), thrice 4 ∷ [])
    ∷ (spaces (zoned 0 read_password) (rolling ∷ []), thrice 0 ∷ [])
    ∷ (spaces (zoned 7 read_password) (rolling ∷ []), (1 ∷ 2 ∷ 3 ∷ 0x99 ∷ []) ∷ [])
    -- without authentication, likewise
    ∷ (spaces (zoned 6 authentication) (rolling ∷ []), thrice 6 ∷ [])
    ∷ (spaces (zoned 4 authentication) (rolling ∷ []), thrice 4 ∷ [])
    ∷ (spaces (zoned 0 authentication) (rolling ∷ []), thrice 0 ∷ [])
    -- the read password opens the zone
    ∷ (spaces (zoned 6 read_password) (verifying 11 ∷ rolling ∷ []), replicate 4 0x99 ∷ (1 ∷ 2 ∷ 3 ∷ 0x99 ∷ []) ∷ [])
    -- a fuse blown between two reads
    ∷ (
      spaces (zoned 6 read_password) (verifying 7 ∷ rolling ∷ (9 ∷ []) ∷ rolling ∷ (9 ∷ []) ∷ rolling ∷ []),
      replicate 4 0x99 ∷ thrice 6 ∷ replicate 4 0x99 ∷ thrice 4 ∷ replicate 4 0x99 ∷ thrice 0 ∷ [],
    )
    -- a password behind its counter, which is free, and the secret seed: $00 at F = 6 and 4
    ∷ (spaces (blank 6) ((6 ∷ 0x40 ∷ 4 ∷ []) ∷ (6 ∷ 0x30 ∷ 4 ∷ []) ∷ []), (0xFF ∷ 0 ∷ 0 ∷ 0 ∷ []) ∷ replicate 4 0 ∷ [])
    ∷ (spaces (blank 4) ((6 ∷ 0x40 ∷ 4 ∷ []) ∷ (6 ∷ 0x30 ∷ 4 ∷ []) ∷ []), (0xFF ∷ 0 ∷ 0 ∷ 0 ∷ []) ∷ replicate 4 0 ∷ [])
    ∷ []

pub closed_bytes_shown : map (λ (r : Case). r.0) closed_bytes ≡ map (λ (r : Case). r.1) closed_bytes
unfolding closed_bytes computed
closed_bytes_shown = refl
