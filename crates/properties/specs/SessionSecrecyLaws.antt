-- Of two sessions that agree outside secret places of their cards: from demand 3 of lists of calls, their runs are alike.
use Rattle.std.specs.Prelude.{ℕ, zero, suc, ◌+◌, ◌-◌, ◌≤◌, ◌<◌, min, Bool, true, false, cond, not, ◌&&◌, List, [], ◌∷◌, ◌++◌, ◌≡◌, refl, ltb, leb, eqb, length, drop}
use Rattle.std.proofs.Common.{append_assoc, sym, ap, ◌∙◌, arith, ltb-true, ltb-false, leb-true, leb-false, le-leb, eqb-true, length-append, length-take, get_or-append-add, length-take-le, get_or-take}
use Rattle.std.proofs.Math.Path.{subst}
use Rattle.std.proofs.Math.ListN.{get_or-append, get_or-eq_default}
use Rattle.model.specs.Sizes.{card_size, fuse_at, least_log}
use Rattle.model.specs.Lists.{at}
use Rattle.model.specs.Instruction.{Command, Instruction}
use Rattle.model.specs.Device.{counter_place}
use Rattle.model.specs.At88sc1608.{at88sc1608}
use Rattle.model.specs.Access.{rpe, ate, password_set}
use Rattle.model.specs.Call.{Call, Powered}
use Rattle.model.specs.Record.{decode}
use Rattle.model.specs.State.{untorn, State}
use Rattle.model.specs.Log.{Entry, zoned, entries_bytes, log_trailer, log_bytes}
use Rattle.model.specs.Reader.{records_end}
use Rattle.model.specs.Refusal.{bytes_left, no_space}
use Rattle.model.specs.Session.{card_of, start_of, count_of, frame, Read, stopped, all, instructions_in, read_from, after, entries_of, end_of, log_of, full_entries}
use Rattle.model.specs.Session.{initial, rejected, written, ended, framed, run}
use Rattle.model.specs.Single.{check, answered_kind, act, replies, final}
use Rattle.secrecy.specs.Along.{Along}
use Rattle.secrecy.specs.Secret.{Sealed, Idle, register, in_zone, in_zone_or_passwords, or_staged, AgreeOutside}
use Rattle.secrecy.specs.Secret.{PresentsNeither, AcceptsNot, OnCommand, Indistinguishable}
use Rattle.secrecy.specs.ReadPassword as read
use Rattle.secrecy.specs.Authentication as authentication
use Rattle.secrecy.specs.CardSecrecy as calls
use Rattle.properties.specs.AcceptedSession.{Accepts, Every, accepting}
use Rattle.properties.specs.SessionSecret.{in_final_card, RunAlike, tries_in, states_in, RecordsAlike, SessionsAlike, EveryAlong, EveryRecord}
use Rattle.properties.specs.SessionSecret.{EveryElsewhere}
use Rattle.properties.specs.SessionLaws.{end_length, full_total_lem}
use Rattle.properties.specs.AcceptedSessionLaws.{framed_well, card_good}
use Rattle.properties.specs.AsCalls.{calls_from, entries_from, tries_from, states_from, Same, as_calls}
use Rattle.properties.specs.Alike.{frame_same, read_same, calls_same, start_same, count_same}

-- ---- lists that agree outside a part in their midst

module _ (hidden : ℕ → Bool) where
  at_front : (c₁ c₂ x : List ℕ) → AgreeOutside hidden c₁ c₂ → (i : ℕ) → hidden i ≡ false → at (c₁ ++ x) i ≡ at (c₂ ++ x) i
  at_front c₁ c₂ x a i h = go (ltb i (length c₁)) refl
    where
      go : (t : Bool) → ltb i (length c₁) ≡ t → at (c₁ ++ x) i ≡ at (c₂ ++ x) i
      go true e =
          let l : i < length c₁ = ltb-true _ _ e in
          let w = a.long in
          get_or-append c₁ x 0 i l ∙ a.same i h ∙ sym (get_or-append c₂ x 0 i (omega arith))
      go false e =
          let l : length c₁ ≤ i = ltb-false _ _ e in
          let w = a.long in
          let k : ℕ = i - length c₁ in
          ap (at (c₁ ++ x)) (let q : i ≡ length c₁ + k = omega arith in q) ∙ get_or-append-add c₁ x k 0
          ∙ sym (ap (at (c₂ ++ x)) (let q : i ≡ length c₂ + k = omega arith in q) ∙ get_or-append-add c₂ x k 0)

  pub agree_within : (e c₁ c₂ x : List ℕ) → AgreeOutside hidden c₁ c₂
      → AgreeOutside (λ i. leb (length e) i && hidden (i - length e)) (e ++ (c₁ ++ x)) (e ++ (c₂ ++ x))
  agree_within e c₁ c₂ x a =
      record {
        long = simp (length-append, a.long);
        same = λ i h. go i (leb (length e) i) refl h;
      }
    where
      go : (i : ℕ) (t : Bool) → leb (length e) i ≡ t → (t && hidden (i - length e)) ≡ false → at (e ++ (c₁ ++ x)) i ≡ at (e ++ (c₂ ++ x)) i
      go i true q h =
          let l : length e ≤ i = leb-true _ _ q in
          let k : ℕ = i - length e in
          let w : i ≡ length e + k = omega arith in
          ap (at (e ++ (c₁ ++ x))) w ∙ get_or-append-add e (c₁ ++ x) k 0 ∙ at_front c₁ c₂ x a k h
          ∙ sym (ap (at (e ++ (c₂ ++ x))) w ∙ get_or-append-add e (c₂ ++ x) k 0)
      go i false q h =
          let l : i < length e = leb-false _ _ q in
          get_or-append e (c₁ ++ x) 0 i l ∙ sym (get_or-append e (c₂ ++ x) 0 i l)

-- ---- from lists of calls to sessions

agree_self : (hidden : ℕ → Bool) (l : List ℕ) → AgreeOutside hidden l l
agree_self hidden l = record { long = refl; same = λ i h. refl }

pub rejected_alike : (hidden : ℕ → Bool) (n : ℕ) (space : List ℕ) → RunAlike hidden (rejected n space) (rejected n space)
rejected_alike hidden n space = record { refusal = refl; size = refl; outside = agree_self _ space }

places : (hidden : ℕ → Bool) (f n i : ℕ) → n ≡ f + least_log → in_final_card hidden n i ≡ (leb f i && hidden (i - f))
places hidden f n i e = let q : n - least_log ≡ f = omega arith in rw (q, le-leb least_log n (omega arith))

-- equal entries around cards that agree
accepted_alike : (hidden : ℕ → Bool) (es₁ es₂ : List Entry) (c₁ c₂ space : List ℕ) → es₁ ≡ es₂ → length c₁ ≡ card_size → AgreeOutside hidden c₁ c₂
    → RunAlike hidden (accepting (log_bytes zoned es₁ c₁) space) (accepting (log_bytes zoned es₂ c₂) space)
accepted_alike hidden es₁ es₂ c₁ c₂ space e l a =
    subst (λ (es : List Entry). RunAlike hidden (accepting (log_bytes zoned es₁ c₁) space) (accepting (log_bytes zoned es c₂) space)) e same
  where
    front : List ℕ
    front = entries_bytes zoned es₁

    back : List ℕ
    back = log_trailer zoned (length front) (length es₁)

    log_length_lem : (c : List ℕ) → length (log_bytes zoned es₁ c) ≡ length front + (length c + 8)
    log_length_lem c = simp length-append

    lengths : length (log_bytes zoned es₁ c₁) ≡ length (log_bytes zoned es₁ c₂)
    lengths = log_length_lem c₁ ∙ ap (λ (n : ℕ). length front + (n + 8)) a.long ∙ sym (log_length_lem c₂)

    behind : List ℕ
    behind = back ++ drop (length (log_bytes zoned es₁ c₁)) space

    joined : (c : List ℕ) → length (log_bytes zoned es₁ c₁) ≡ length (log_bytes zoned es₁ c)
        → (accepting (log_bytes zoned es₁ c) space).space ≡ front ++ (c ++ behind)
    joined c q =
        ap (λ (n : ℕ). log_bytes zoned es₁ c ++ drop n space) (sym q) ∙ append_assoc front (c ++ back) _
        ∙ ap (λ (x : List ℕ). front ++ x) (append_assoc c back _)

    within : AgreeOutside (λ i. leb (length front) i && hidden (i - length front)) (front ++ (c₁ ++ behind)) (front ++ (c₂ ++ behind))
    within = agree_within hidden front c₁ c₂ behind a

    same : RunAlike hidden (accepting (log_bytes zoned es₁ c₁) space) (accepting (log_bytes zoned es₁ c₂) space)
    same =
        let p₁ = joined c₁ refl in
        let p₂ = joined c₂ lengths in
        record {
          refusal = refl;
          size = lengths;
          outside = record {
            long = ap length p₁ ∙ within.long ∙ sym (ap length p₂);
            same = λ i h. ap (λ (x : List ℕ). at x i) p₁
                ∙ within.same i (sym (places hidden (length front) (length (log_bytes zoned es₁ c₁)) i (log_length_lem c₁ ∙ (omega arith))) ∙ h)
                ∙ sym (ap (λ (x : List ℕ). at x i) p₂);
          };
        }

module _ (hidden : ℕ → Bool) (in-card : (i : ℕ) → fuse_at ≤ i → hidden i ≡ false) (s₁ s₂ : List ℕ) (agree : AgreeOutside hidden s₁ s₂)
    (final-hidden : ℕ → Bool) (Ok : List ℕ → State → Instruction → Type 0)
    (claim : (xs : List Call) → Along check decode act answered_kind Ok xs (initial s₁) → Indistinguishable final-hidden untorn xs (card_of s₁) (card_of s₂))
    (space : List ℕ) (every : (ks : List Instruction) → Accepts s₁ space ks → EveryAlong Ok ks (initial s₁)) where
  -- both sessions run the same instructions
  module _ (ks : List Instruction) (accepts : Accepts s₁ space ks) (reads₂ : read_from (count_of s₂) s₂ (start_of s₂) ≡ all ks (records_end (length s₁))) where
    long : least_log ≤ length s₁
    long = (framed_well s₁ accepts.frames).long

    abbrev xs₁ : List Call
    xs₁ = calls_from (count_of s₁) s₁ (start_of s₁)

    abbrev xs₂ : List Call
    xs₂ = calls_from (count_of s₂) s₂ (start_of s₂)

    xs_same : xs₁ ≡ xs₂
    xs_same =
        calls_same hidden in-card s₁ s₂ agree (count_of s₁) (start_of s₁) (let l = (framed_well s₁ accepts.frames).low in omega arith)
        ∙ (λ t. calls_from (count_same hidden in-card s₁ s₂ agree long t) s₂ (start_same hidden in-card s₁ s₂ agree long t))

    same₁ : Same xs₁ ks (initial s₁)
    same₁ = as_calls (count_of s₁) s₁ (start_of s₁) ks (records_end (length s₁)) accepts.reads (initial s₁) (card_good s₁ (framed_well s₁ accepts.frames))

    same₂ : Same xs₂ ks (initial s₂)
    same₂ =
        as_calls (count_of s₂) s₂ (start_of s₂) ks (records_end (length s₁)) reads₂ (initial s₂)
        (card_good s₂ (framed_well s₂ (sym (frame_same hidden in-card s₁ s₂ agree) ∙ accepts.frames)))

    indistinguishable : Indistinguishable final-hidden untorn xs₁ (card_of s₁) (card_of s₂)
    indistinguishable = claim xs₁ (same₁.along Ok (every ks accepts))

    entries_same : entries_of ks (initial s₁) ≡ entries_of ks (initial s₂)
    entries_same =
        sym same₁.entries ∙ ap (entries_from 0) indistinguishable.observed
        ∙ ap (λ (xs : List Call). entries_from 0 (replies xs (initial s₂))) xs_same ∙ same₂.entries

    tries_same : tries_in ks (initial s₁) ≡ tries_in ks (initial s₂)
    tries_same =
        sym same₁.tries ∙ ap tries_from indistinguishable.observed
        ∙ ap (λ (xs : List Call). tries_from (replies xs (initial s₂))) xs_same ∙ same₂.tries

    states_same : states_in ks (initial s₁) ≡ states_in ks (initial s₂)
    states_same =
        sym same₁.states ∙ ap states_from indistinguishable.observed
        ∙ ap (λ (xs : List Call). states_from (replies xs (initial s₂))) xs_same ∙ same₂.states

    card_long : length (end_of ks (initial s₁)).card ≡ card_size
    card_long = end_length ks (initial s₁) ∙ length-take-le card_size s₁ (let l = long in omega arith)

    -- what the lists of calls leave alike at a place, the sessions do
    place_same : (i : ℕ) → at (final xs₁ (initial s₁)).card i ≡ at (final xs₁ (initial s₂)).card i
        → at (end_of ks (initial s₁)).card i ≡ at (end_of ks (initial s₂)).card i
    place_same i e =
        (λ t. at (sym same₁.ends t).card i) ∙ e ∙ (λ t. at (final (xs_same t) (initial s₂)).card i) ∙ (λ t. at (same₂.ends t).card i)

    cards_agree : AgreeOutside final-hidden (end_of ks (initial s₁)).card (end_of ks (initial s₂)).card
    cards_agree =
        record {
          long = card_long ∙ sym (end_length ks (initial s₂) ∙ length-take-le card_size s₂ (let l = long in let w = agree.long in omega arith));
          same = λ i h. place_same i (indistinguishable.outside i h);
        }

    records_alike : RecordsAlike final-hidden ks ks (initial s₁) (initial s₂)
    records_alike =
        record {
          entries = entries_same;
          tries = tries_same;
          states = states_same;
          counters = λ n. place_same (counter_place at88sc1608 n) (indistinguishable.counters n);
          cards = cards_agree;
        }

    logs_alike : RunAlike final-hidden (accepting (log_of s₁ ks) space) (accepting (log_of s₂ ks) space)
    logs_alike =
        accepted_alike final-hidden (entries_of ks (initial s₁)) (entries_of ks (initial s₂)) (end_of ks (initial s₁)).card (end_of ks (initial s₂)).card space
        entries_same card_long cards_agree

  -- ---- the runs

  abbrev full : List ℕ → List Instruction → ℕ
  full s ks = full_entries ks (initial s) + least_log

  full_same : (ks : List Instruction) → full s₁ ks ≡ full s₂ ks
  full_same ks = ap (λ (n : ℕ). n + least_log) (full_total_lem ks (initial s₁) ∙ sym (full_total_lem ks (initial s₂)))

  on_room : (ks : List Instruction) (t : Bool) → frame s₁ ≡ 0 → read_from (count_of s₁) s₁ (start_of s₁) ≡ all ks (records_end (length s₁))
      → read_from (count_of s₂) s₂ (start_of s₂) ≡ all ks (records_end (length s₁)) → ltb (length space) (full s₁ ks) ≡ t
      → RunAlike final-hidden (cond t (rejected no_space space) (accepting (log_of s₁ ks) space))
      (cond t (rejected no_space space) (accepting (log_of s₂ ks) space))
  on_room ks true f r₁ r₂ q = rejected_alike final-hidden no_space space
  on_room ks false f r₁ r₂ q = logs_alike ks (record { frames = f; reads = r₁; room = ltb-false _ _ q }) r₂

  on_end : (ks : List Instruction) (j : ℕ) (t : Bool) → frame s₁ ≡ 0 → read_from (count_of s₁) s₁ (start_of s₁) ≡ all ks j
      → read_from (count_of s₂) s₂ (start_of s₂) ≡ all ks j → eqb j (records_end (length s₁)) ≡ t
      → RunAlike final-hidden (cond (not t) (rejected bytes_left space) (written (full s₁ ks) (log_of s₁ ks) space))
      (cond (not t) (rejected bytes_left space) (written (full s₂ ks) (log_of s₂ ks) space))
  on_end ks j true f r₁ r₂ q =
      let w : j ≡ records_end (length s₁) = eqb-true _ _ q in
      subst (λ (n : ℕ). RunAlike final-hidden (written (full s₁ ks) (log_of s₁ ks) space)
      (cond (ltb (length space) n) (rejected no_space space) (accepting (log_of s₂ ks) space))) (full_same ks)
      (on_room ks (ltb (length space) (full s₁ ks)) f (r₁ ∙ ap (all ks) w) (r₂ ∙ ap (all ks) w) refl)
  on_end ks j false f r₁ r₂ q = rejected_alike final-hidden bytes_left space

  on_read : (r : Read) → frame s₁ ≡ 0 → read_from (count_of s₁) s₁ (start_of s₁) ≡ r → read_from (count_of s₂) s₂ (start_of s₂) ≡ r
      → RunAlike final-hidden (ended s₁ space r) (ended s₂ space r)
  on_read (stopped n) f r₁ r₂ = rejected_alike final-hidden n space
  on_read (all ks j) f r₁ r₂ =
      subst (λ (n : ℕ). RunAlike final-hidden (ended s₁ space (all ks j))
      (cond (not (eqb j (records_end n))) (rejected bytes_left space) (written (full s₂ ks) (log_of s₂ ks) space))) agree.long
      (on_end ks j (eqb j (records_end (length s₁))) f r₁ r₂ refl)

  reads_same : frame s₁ ≡ 0 → read_from (count_of s₁) s₁ (start_of s₁) ≡ read_from (count_of s₂) s₂ (start_of s₂)
  reads_same f =
      let w = framed_well s₁ f in
      let l : least_log ≤ length s₁ = w.long in
      let low = w.low in
      read_same hidden in-card s₁ s₂ agree (count_of s₁) (start_of s₁) (omega arith)
      ∙ (λ t. read_from (count_same hidden in-card s₁ s₂ agree l t) s₂ (start_same hidden in-card s₁ s₂ agree l t))

  on_frame_lem : (n : ℕ) → frame s₁ ≡ n → RunAlike final-hidden (framed s₁ space n) (framed s₂ space n)
  on_frame_lem zero f =
      let q = reads_same f in
      subst (λ (r : Read). RunAlike final-hidden (framed s₁ space 0) (ended s₂ space r)) q (on_read (read_from (count_of s₁) s₁ (start_of s₁)) f refl (sym q))
  on_frame_lem (suc n) f = rejected_alike final-hidden (suc n) space

  runs_alike : RunAlike final-hidden (run s₁ space) (run s₂ space)
  unfolding run
  runs_alike =
      subst (λ (n : ℕ). RunAlike final-hidden (framed s₁ space (frame s₁)) (framed s₂ space n)) (frame_same hidden in-card s₁ s₂ agree)
      (on_frame_lem (frame s₁) refl)

  pub alike : SessionsAlike final-hidden s₁ s₂ space
  alike = record { runs = runs_alike; records = λ ks₁ ks₂ a₁ a₂. same_records ks₁ ks₂ a₁ a₂ }
    where
      same_records : (ks₁ ks₂ : List Instruction) → Accepts s₁ space ks₁ → Accepts s₂ space ks₂ → RecordsAlike final-hidden ks₁ ks₂ (initial s₁) (initial s₂)
      same_records ks₁ ks₂ a₁ a₂ =
          let q = sym (reads_same a₁.frames) ∙ a₁.reads in
          subst (λ (ks : List Instruction). RecordsAlike final-hidden ks₁ ks (initial s₁) (initial s₂)) (ap instructions_in (sym q ∙ a₂.reads))
          (records_alike ks₁ a₁ q)

-- ---- the AT88SC1608

start_agree : (hidden : ℕ → Bool) (s₁ s₂ : List ℕ) → AgreeOutside hidden s₁ s₂ → AgreeOutside hidden (card_of s₁) (card_of s₂)
start_agree hidden s₁ s₂ a =
    record {
      long = length-take card_size s₁ ∙ ap (min card_size) a.long ∙ sym (length-take card_size s₂);
      same = λ i h. at_card s₁ i ∙ ap (λ (n : ℕ). cond (ltb i card_size) n 0) (a.same i h) ∙ sym (at_card s₂ i);
    }
  where
    at_card : (s : List ℕ) (i : ℕ) → at (card_of s) i ≡ cond (ltb i card_size) (at s i) 0
    at_card s i = go (ltb i card_size) refl
      where
        go : (t : Bool) → ltb i card_size ≡ t → at (card_of s) i ≡ cond t (at s i) 0
        go true e = get_or-take card_size s i 0 (ltb-true _ _ e)
        go false e =
            let l : card_size ≤ i = ltb-false _ _ e in
            let w = length-take card_size s in
            get_or-eq_default (card_of s) 0 (omega arith)

-- a condition on commands alone, along the run
every_along : (Ok : Command → Type 0) (ks : List Instruction) (m : Powered State) → Every (OnCommand Ok) ks → EveryAlong (λ c s k. OnCommand Ok k) ks m
every_along Ok [] m e = tt
every_along Ok (k ∷ ks) m e = (e.0, every_along Ok ks (after m k) e.1)

module _ (z : ℕ) (zl : z < 8) (s₁ s₂ : List ℕ) (sealed₁ : Sealed (card_of s₁)) (sealed₂ : Sealed (card_of s₂)) (idle : Idle (card_of s₁))
    (demanded : rpe (register (card_of s₁) z) ≡ true) (agree : AgreeOutside (in_zone_or_passwords z (password_set (register (card_of s₁) z))) s₁ s₂)
    (space : List ℕ) where
  abbrev p : ℕ
  p = password_set (register (card_of s₁) z)

  pub hidden_before : (i : ℕ) → fuse_at ≤ i → in_zone_or_passwords z p i ≡ false
  hidden_before i h = read.not_hidden z p zl (omega arith) i (omega arith) (λ k n q e. omega arith)

  pub read_claim : EveryRecord (PresentsNeither p (card_of s₁) (card_of s₂)) s₁ space → SessionsAlike (or_staged (in_zone_or_passwords z p)) s₁ s₂ space
  read_claim every =
      alike (in_zone_or_passwords z p) hidden_before s₁ s₂ agree (or_staged (in_zone_or_passwords z p)) _
      (calls.read_password_lem z zl (card_of s₁) (card_of s₂) sealed₁ sealed₂ idle demanded (start_agree (in_zone_or_passwords z p) s₁ s₂ agree) untorn) space
      (λ ks a. every_along (PresentsNeither p (card_of s₁) (card_of s₂)) ks (initial s₁) (every ks a))

  pub read_claim_elsewhere : EveryElsewhere z (PresentsNeither p (card_of s₁) (card_of s₂)) s₁ space → SessionsAlike (in_zone_or_passwords z p) s₁ s₂ space
  read_claim_elsewhere =
      alike (in_zone_or_passwords z p) hidden_before s₁ s₂ agree (in_zone_or_passwords z p) _
      (calls.read_password_elsewhere z zl (card_of s₁) (card_of s₂) sealed₁ sealed₂ idle demanded (start_agree (in_zone_or_passwords z p) s₁ s₂ agree) untorn)
      space

module _ (z : ℕ) (zl : z < 8) (s₁ s₂ : List ℕ) (sealed₁ : Sealed (card_of s₁)) (sealed₂ : Sealed (card_of s₂)) (idle : Idle (card_of s₁))
    (demanded : ate (register (card_of s₁) z) ≡ true) (agree : AgreeOutside (in_zone z) s₁ s₂) (space : List ℕ) where
  pub zone_before : (i : ℕ) → fuse_at ≤ i → in_zone z i ≡ false
  zone_before i h = authentication.not_hidden z i zl (omega arith)

  pub authentication_claim : EveryRecord AcceptsNot s₁ space → SessionsAlike (or_staged (in_zone z)) s₁ s₂ space
  authentication_claim every =
      alike (in_zone z) zone_before s₁ s₂ agree (or_staged (in_zone z)) _
      (calls.authentication_demanded z zl (card_of s₁) (card_of s₂) sealed₁ sealed₂ idle demanded (start_agree (in_zone z) s₁ s₂ agree) untorn) space
      (λ ks a. every_along AcceptsNot ks (initial s₁) (every ks a))

  pub authentication_claim_elsewhere : EveryElsewhere z AcceptsNot s₁ space → SessionsAlike (in_zone z) s₁ s₂ space
  authentication_claim_elsewhere =
      alike (in_zone z) zone_before s₁ s₂ agree (in_zone z) _
      (calls.authentication_demanded_elsewhere z zl (card_of s₁) (card_of s₂) sealed₁ sealed₂ idle demanded (start_agree (in_zone z) s₁ s₂ agree) untorn) space
