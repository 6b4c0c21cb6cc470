-- Laws of the entries of a log: how long a header is, how long the entry of an instruction is in full, that an ignored one names the
-- zone where it would otherwise, and that the zone stays selected where it is named.
use Rattle.std.specs.Prelude.{ℕ, ◌+◌, ◌≤◌, Bool, true, false, cond, List, ◌≡◌, refl}
use Rattle.std.proofs.Common.{true≢false, sym, ap, arith}
use Rattle.model.specs.Instruction.{reset, select, read_zone, write_zone, read_configuration, write_configuration, read_fuses, write_fuses, verify_password}
use Rattle.model.specs.Instruction.{begin_authentication, verify_authentication, Instruction, power_cycle, issue, wait, poll, write_staged, arm, kind_of}
use Rattle.model.specs.Device.{Device}
use Rattle.model.specs.Apply.{apply}
use Rattle.model.specs.State.{State}
use Rattle.model.specs.Act.{perform, act}
use Rattle.model.specs.Busy as any
use Rattle.model.specs.At88sc1608.{at88sc1608}
use Rattle.model.specs.Single.{answered_kind}
use Rattle.model.specs.Log.{Ending, zoned, names_zone, header_length}
use Rattle.laws.specs.BoolLaws.{choice}
use Rattle.laws.specs.BusyLaws.{full_answer, either_way}

-- a header has three bytes, or four
pub header_least : (E : Ending) (kind : ℕ) → 3 ≤ header_length E kind
unfolding header_length
header_least E kind = choice (λ n. 3 ≤ n) (E.names kind) 4 3 (omega arith) (omega arith)

pub header_most : (E : Ending) (kind : ℕ) → header_length E kind ≤ 4
unfolding header_length
header_most E kind = choice (λ n. n ≤ 4) (E.names kind) 4 3 (omega arith) (omega arith)

pub header_short : (E : Ending) (kind h : ℕ) → h ≡ header_length E kind → (3 ≤ h) × (h ≤ 4)
header_short E kind h e = (rw e (header_least E kind), rw e (header_most E kind))

module _ (E : Ending) (kind : ℕ) (t : Bool) (tested : t ≡ E.names kind) where
  pub header_four : t ≡ true → 4 ≡ header_length E kind
  unfolding header_length
  header_four e = rw (← tested, e)

  pub header_three : t ≡ false → 3 ≡ header_length E kind
  unfolding header_length
  header_three e = rw (← tested, e)

-- the length of an entry whose instruction is answered in full
abbrev pub full_entry : Instruction → ℕ
full_entry k = header_length zoned (kind_of k) + full_answer at88sc1608 k

ignored_names : (k : Instruction) → names_zone (kind_of k + 128) ≡ names_zone (kind_of k)
ignored_names power_cycle = refl
ignored_names (issue reset) = refl
ignored_names (issue (select z)) = refl
ignored_names (issue (read_zone a n)) = refl
ignored_names (issue (write_zone a xs)) = refl
ignored_names (issue (read_configuration a n)) = refl
ignored_names (issue (write_configuration a xs)) = refl
ignored_names (issue read_fuses) = refl
ignored_names (issue write_fuses) = refl
ignored_names (issue (verify_password i xs)) = refl
ignored_names (issue begin_authentication) = refl
ignored_names (issue (verify_authentication v xs)) = refl
ignored_names (wait n) = refl
ignored_names poll = refl
ignored_names (write_staged a xs) = refl
ignored_names (arm k junk) = refl

pub answered_names : (c : List ℕ) (s : State) (k : Instruction) → names_zone (answered_kind c s k) ≡ names_zone (kind_of k)
answered_names c s k = go (any.ignores at88sc1608 c s k)
  where
    go : (t : Bool) → names_zone (cond t (kind_of k + 128) (kind_of k)) ≡ names_zone (kind_of k)
    go true = ignored_names k
    go false = refl

pub answered_header : (c : List ℕ) (s : State) (k : Instruction) → header_length zoned (answered_kind c s k) ≡ header_length zoned (kind_of k)
unfolding header_length
answered_header c s k = ap (λ (t : Bool). cond t 4 3) (answered_names c s k)

-- a record that names the zone leaves it selected, ignored or not
pub named_keeps : (D : Device) (c : List ℕ) (s : State) (k : Instruction) → names_zone (kind_of k) ≡ true
    → (act D c s k).report.state.volatile.zone ≡ s.volatile.zone
unfolding perform apply
named_keeps D c s power_cycle e = absurd (true≢false (sym e))
named_keeps D c s (issue reset) e = absurd (true≢false (sym e))
named_keeps D c s (issue (select z)) e = absurd (true≢false (sym e))
named_keeps D c s (issue (read_zone a n)) e =
    either_way D (λ m. m.report.state.volatile.zone ≡ s.volatile.zone) c s (issue (read_zone a n)) (λ i. refl) (λ p. refl)
named_keeps D c s (issue (write_zone a xs)) e =
    either_way D (λ m. m.report.state.volatile.zone ≡ s.volatile.zone) c s (issue (write_zone a xs)) (λ i. refl) (λ p. refl)
named_keeps D c s (issue (read_configuration a n)) e = absurd (true≢false (sym e))
named_keeps D c s (issue (write_configuration a xs)) e = absurd (true≢false (sym e))
named_keeps D c s (issue read_fuses) e = absurd (true≢false (sym e))
named_keeps D c s (issue write_fuses) e = absurd (true≢false (sym e))
named_keeps D c s (issue (verify_password i xs)) e = absurd (true≢false (sym e))
named_keeps D c s (issue begin_authentication) e = absurd (true≢false (sym e))
named_keeps D c s (issue (verify_authentication v xs)) e = absurd (true≢false (sym e))
named_keeps D c s (wait n) e = absurd (true≢false (sym e))
named_keeps D c s poll e = absurd (true≢false (sym e))
named_keeps D c s (write_staged a xs) e = absurd (true≢false (sym e))
named_keeps D c s (arm k junk) e = absurd (true≢false (sym e))
