-- Survival said of the code, by the contract of `command`: a run of the code that begins with a staged write, on a good card that is on, not busy
-- and has nothing to finish, and goes on while the card is off, has left all of the write or none of it once the card is on, and the rest of
-- the zones, the configuration and the fuse byte as they were.
use Rattle.std.specs.Prelude.{ℕ, ◌≤◌, true, false, List, [], ◌∷◌, ◌≡◌, length}
use Rattle.std.proofs.Common.{sym, subst}
use Rattle.model.specs.Instruction.{write_staged}
use Rattle.model.specs.Call.{Call, powered, whole}
use Rattle.model.specs.Record.{decode}
use Rattle.laws.specs.Sane.{Good}
use Rattle.properties.specs.Survival.{Stageable, values_of, Survived, CalledUntilOn}
use Rattle.properties.specs.StagedWrites.{calls_survived}
use Rattle.busy.specs.TimedState.{state_of}
use Rattle.busy.specs.declared.State.{State}
use Rattle.command.specs.Reply.{state_after}
use Rattle.command.specs.CodeSecrecy.{Given, Run, none, one_more, run_model, next_powered}

-- the state before each call is off, and the one that the last call gave back is on
abbrev pub OffThenOn : State → List Given → Type 0
OffThenOn s [] = s.power.off ≡ false
OffThenOn s (g ∷ gs) = (s.power.off ≡ true) × OffThenOn (state_after s g.reply) gs

until_on : {xs : List Call} {c e : List ℕ} {s : State} {gs : List Given} → Run xs c s gs e → OffThenOn s gs → CalledUntilOn xs (powered c (state_of s))
unfolding CalledUntilOn
until_on none o = o
until_on (one_more {x = x} {xs = xs} {c = c} {d = d} {s = s} {g = g} call rest) o =
    let m = next_powered s g.reply c d g.space x call in
    (o.0, subst (CalledUntilOn xs) m (until_on rest o.1))

pub survives : (c : List ℕ) (s : State) (a : ℕ) (xs : List ℕ) → Good c (state_of s) → Stageable (powered c (state_of s)) a → length xs ≤ 8
    → (x : Call) → decode x.sent ≡ whole (write_staged a xs) (length x.sent) → (ys : List Call) (g : Given) (gs : List Given) (e : List ℕ)
    → Run (x ∷ ys) c s (g ∷ gs) e → OffThenOn (state_after s g.reply) gs
    → Survived c s.volatile.zone.0 a (values_of (powered c (state_of s)) a xs) e
survives c s a xs good writes few x decodes ys g gs e (one_more {d = d} call rest) o =
    let m = next_powered s g.reply c d g.space x call in
    subst (Survived c s.volatile.zone.0 a (values_of (powered c (state_of s)) a xs)) (sym (run_model (one_more {s = s} {g = g} call rest)).1)
    (calls_survived (powered c (state_of s)) a xs good writes few x decodes ys (subst (CalledUntilOn ys) m (until_on rest o)))
