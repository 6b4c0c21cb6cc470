-- Who may read or write what on the AT88SC1608 ("Who may read or write what").
use Rattle.std.specs.Prelude.{ℕ, ◌+◌, ◌-◌, ◌*◌, ◌/◌, ◌%◌, Bool, true, false, cond, not, ◌&&◌, ◌||◌, List, [], ◌∷◌, ltb, eqb, get_or}
use Rattle.std.specs.Int.Bits.{bit_and}
use Rattle.model.specs.Lists.{at}
use Rattle.model.specs.Volatile.{Volatile, Active, is_active, is_granted}

-- ---- the access register of a zone

-- a field is enabled where its bit, given by its weight, is 0
abbrev pub enabled : ℕ → ℕ → Bool
enabled weight r = eqb (r / weight % 2) 0

-- write password, read password, authentication, modify forbidden, program only
abbrev pub wpe : ℕ → Bool
wpe r = enabled 128 r

abbrev pub rpe : ℕ → Bool
rpe r = enabled 64 r

abbrev pub ate : ℕ → Bool
ate r = enabled 32 r

abbrev pub mdf : ℕ → Bool
mdf r = enabled 2 r

abbrev pub pgo : ℕ → Bool
pgo r = enabled 1 r

-- the password set
abbrev pub password_set : ℕ → ℕ
password_set r = r / 4 % 8

-- ---- a zone, by its access register and the volatile state

-- what is needed is given
abbrev pub met : (needed given : Bool) → Bool
met needed given = not needed || given

-- for F below 7: authentication, and the read or the write password of the set
abbrev pub zone_reads : ℕ → Volatile → Bool
zone_reads r s =
    met (ate r) (is_granted s.authentication)
    && met (rpe r) (is_active s.active (password_set r) || is_active s.active (8 + password_set r))

-- for F below 7: authentication, the write password of the set where WPE is enabled or F is not 0, and never with MDF
abbrev pub zone_writes : ℕ → ℕ → Volatile → Bool
zone_writes f r s =
    met (ate r) (is_granted s.authentication)
    && (met (wpe r || not (eqb f 0)) (is_active s.active (password_set r)) && not (mdf r))

-- with F = 7 all is free
abbrev pub zone_readable : ℕ → ℕ → Volatile → Bool
zone_readable f r s = eqb f 7 || zone_reads r s

abbrev pub zone_writable : ℕ → ℕ → Volatile → Bool
zone_writable f r s = eqb f 7 || zone_writes f r s

-- PGO: old AND new
abbrev pub zone_merge : ℕ → ℕ → ℕ → ℕ → ℕ
zone_merge f r old new = cond (not (eqb f 7) && pgo r) (bit_and old new) new

-- ---- the configuration: one table of areas against fuse stages

-- the codes of its entries: free, write password 7 (SC), the write password of the byte's set (WP), no
abbrev pub free : ℕ
free = 0

abbrev pub sc : ℕ
sc = 1

abbrev pub wp : ℕ
wp = 2

abbrev pub forbidden : ℕ
forbidden = 3

-- a row for each area; read and write at F = 7, at 6, at 4, at 0
unfoldable pub permissions : List (List ℕ)
permissions =
    -- $00-$0B
    (free ∷ free ∷ free ∷ forbidden ∷ free ∷ forbidden ∷ free ∷ forbidden ∷ [])
    -- $0C-$0F
    ∷ (free ∷ free ∷ free ∷ sc ∷ free ∷ forbidden ∷ free ∷ forbidden ∷ [])
    -- $10-$2F
    ∷ (free ∷ free ∷ free ∷ sc ∷ free ∷ sc ∷ free ∷ forbidden ∷ [])
    -- $30-$37
    ∷ (free ∷ free ∷ sc ∷ sc ∷ sc ∷ sc ∷ forbidden ∷ forbidden ∷ [])
    -- $38-$3F
    ∷ (free ∷ free ∷ free ∷ free ∷ free ∷ free ∷ free ∷ free ∷ [])
    -- passwords
    ∷ (free ∷ free ∷ sc ∷ sc ∷ sc ∷ sc ∷ wp ∷ wp ∷ [])
    -- PACs
    ∷ (free ∷ free ∷ free ∷ sc ∷ free ∷ sc ∷ free ∷ wp ∷ [])
    ∷ []

-- the row of a configuration address
unfoldable pub area_of : ℕ → ℕ
area_of a =
    cond (ltb a 12) 0
    (cond (ltb a 16) 1 (cond (ltb a 48) 2 (cond (ltb a 56) 3 (cond (ltb a 64) 4 (cond (eqb (a % 4) 0) 6 5)))))

-- the fuse stage of F: 7, 6, 4, 0
unfoldable pub stage_of : ℕ → ℕ
stage_of f = cond (eqb f 7) 0 (cond (eqb f 6) 1 (cond (eqb f 4) 2 3))

-- an entry: write is 0 for reading, 1 for writing
unfoldable pub permission : ℕ → ℕ → ℕ → ℕ
permission area stage write = at (get_or permissions area []) (stage * 2 + write)

-- the password set of a configuration address from $40 on
abbrev pub set_of : ℕ → ℕ
set_of a = (a - 64) / 8 % 8

-- whether a code lets through, for a byte of a set
unfoldable pub permits : ℕ → ℕ → Active → Bool
permits code p a =
    cond (eqb code free) true (cond (eqb code sc) (is_active a 7) (cond (eqb code wp) (is_active a p) false))

-- whether a configuration address may be reached
abbrev pub configuration_allows : ℕ → ℕ → ℕ → Active → Bool
configuration_allows write f a active = permits (permission (area_of a) (stage_of f) write) (set_of a) active
