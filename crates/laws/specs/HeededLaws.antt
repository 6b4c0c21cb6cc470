-- A command that a card does not ignore does what it does on a ready card, and only its time is added: of any device, and of a single command.
use Rattle.std.specs.Prelude.{ℕ, ◌≤◌, false, List, ◌≡◌, length}
use Rattle.std.proofs.Common.{ap, ◌∙◌, le_refl, arith}
use Rattle.model.specs.Instruction.{Command, Instruction, issue, kind_of}
use Rattle.model.specs.Device.{Device}
use Rattle.model.specs.At88sc1608.{at88sc1608}
use Rattle.model.specs.Call.{Acted, Called, replying, whole, calling}
use Rattle.model.specs.State.{State}
use Rattle.model.specs.Apply as any
use Rattle.model.specs.Busy.{makes_busy, ignores}
use Rattle.model.specs.Act.{busied}
use Rattle.model.specs.Act as any-act
use Rattle.model.specs.Record.{decode}
use Rattle.model.specs.Single.{check, answered_kind, apply, act, command}
use Rattle.laws.specs.CallLaws.{carried_out}
use Rattle.laws.specs.Effects.{answer_length, answer_length_lem}
use Rattle.laws.specs.BusyLaws.{act_performed}

pub issued : (D : Device) (c : List ℕ) (s : State) (k : Command) → ignores D c s (issue k) ≡ false
    → any-act.act D c s (issue k) ≡ busied D (makes_busy D c s.volatile k) s (any.apply D c s.volatile k)
unfolding any-act.perform
issued D c s k = act_performed D c s (issue k)

-- what a call gives back and leaves that carries out an act, by the kind that it answers
abbrev pub called_with : ℕ → List ℕ → Acted State → Called State
called_with kind space m = record { card = m.card; reply = replying kind space m.report }

-- a call with the bytes of an instruction and room for its answer does what the instruction does, ignored or not
pub acting_call : (c : List ℕ) (s : State) (i : Instruction) (bytes space : List ℕ) → check c s ≡ 0 → decode bytes ≡ whole i (length bytes)
    → length (act c s i).report.answer ≤ length space → command c s (calling bytes space) ≡ called_with (answered_kind c s i) space (act c s i)
acting_call c s i bytes space checked decoded room =
    carried_out check decode act answered_kind c s (calling bytes space) i (length bytes)
    (record { checks = checked; decodes = decoded; exactly = le_refl _; fits = room })

pub issued_call : (c : List ℕ) (s : State) (k : Command) (bytes space : List ℕ) → check c s ≡ 0 → decode bytes ≡ whole (issue k) (length bytes)
    → ignores at88sc1608 c s (issue k) ≡ false → answer_length at88sc1608 k ≤ length space
    → command c s (calling bytes space)
    ≡ called_with (kind_of (issue k)) space (busied at88sc1608 (makes_busy at88sc1608 c s.volatile k) s (apply c s.volatile k))
issued_call c s k bytes space checked decoded e room =
    let a = issued at88sc1608 c s k e in
    let l = answer_length_lem at88sc1608 c s.volatile k in
    let m : Acted State = busied at88sc1608 (makes_busy at88sc1608 c s.volatile k) s (apply c s.volatile k) in
    let n : answered_kind c s (issue k) ≡ kind_of (issue k) = rw e in
    acting_call c s (issue k) bytes space checked decoded (rw a (omega arith))
    ∙ ap (called_with (answered_kind c s (issue k)) space) a
    ∙ ap (λ (i : ℕ). called_with i space m) n
