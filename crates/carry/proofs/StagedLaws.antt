-- What a power cycle and a staged write leave, from the cells that were written while the fuel lasted.
use Prim.Native.Nat.{ℕ, ◌+◌, ◌-◌, ◌≤◌, ◌<◌}
use mathlib.Core.Bool.{Bool, true, false, cond, not}
use mathlib.Core.List.{List, ◌++◌}
use mathlib.Core.Path.{◌≡◌, refl, sym, ap, ◌∙◌}
use native.Mathlib.Omega.{arith}
use borrow.Author.Tests.{eq-eqb, ne_eqb, not-true, not-false}
use lib.Dec.{eqb}
use lib.ListN.{length, take, drop}
use lib.Seq.{take_at, take-take}
use Rattle.model.specs.Sizes.{card_size, flag_at}
use Rattle.model.specs.Lists.{at}
use Rattle.model.specs.Cells.{Cell, write_cells}
use Rattle.model.specs.Instruction.{Instruction, power_cycle, write_staged}
use Rattle.model.specs.At88sc1608.{at88sc1608}
use Rattle.model.specs.Staging.{ready_flag, is_ready, staged_zone, staged_address, staged_values, pending_cells, finish_cells}
use Rattle.model.specs.Staging.{may_stage, final_values, stage_cells, tears_in}
use Rattle.model.specs.State.{Tear, untorn, State, make_state, timed, powered_up, power_on, power_lost, write_time}
use Rattle.model.specs.Call.{Acted}
use Rattle.model.specs.Act.{laid, cycled, staged}
use Rattle.model.specs.Act as any
use Rattle.model.specs.Single.{staging_fits, perform}
use Rattle.laws.specs.ListLaws.{length_tab, tab_cong, tab_part}
use Rattle.laws.specs.StagingLaws.{fits_ready, finish_count, stage_count}
use Rattle.staging.specs.Fuel.{fueled, Writes, fuel_of, junk_of, fueled_under, fuel_out}
use Rattle.staging.specs.declared.cells.Fuel.{Fuel}
use Rattle.carry.specs.Carried.{Performed}

-- what an act leaves that hands out nothing
performed : (c : List ℕ) (s : State) (i : Instruction) (m : Acted State) → perform c s i ≡ m → (c' : List ℕ) (s' : State) (tries : ℕ) → c' ≡ m.card
    → s' ≡ m.report.state → tries ≡ m.report.tries → Performed c s i c' s' tries
performed c s i m e c' s' tries p q r =
    record { card = p ∙ (λ j. (sym e j).card); state = q ∙ (λ j. (sym e j).report.state); handed = r ∙ (λ j. (sym e j).report.tries) }

-- ---- cells written while the fuel lasts

module _ (c : List ℕ) (tear : Tear) (t : State) (ws : List Cell) (few : length ws < 256) (f f' : Fuel) (cells : f.cells ≡ fuel_of tear)
    (junk : f.junk ≡ junk_of tear) (c' : List ℕ) (w : Writes f ws c f' c') where
  laid_card : c' ≡ (laid at88sc1608 c tear t ws).card
  laid_card = w.cells ∙ (λ j. write_cells (fueled (junk j) (cells j) ws) c) ∙ ap (λ (us : List Cell). write_cells us c) (fueled_under tear ws few)

  out : eqb f'.cells 0 ≡ tears_in tear (length ws)
  out = ap (λ (n : ℕ). eqb n 0) (w.lasts ∙ ap (λ (n : ℕ). n - length ws) cells) ∙ fuel_out tear (length ws) few

  -- an act that writes these cells: without fuel the power is lost
  pub act_laid : (s : State) (i : Instruction) → perform c s i ≡ laid at88sc1608 c tear t ws → (lost : Bool) → eqb f'.cells 0 ≡ lost
      → (s' : State) (tries : ℕ) → s' ≡ cond lost power_lost t → tries ≡ 0 → Performed c s i c' s' tries
  act_laid s i e lost q s' tries p z =
      performed c s i _ e c' s' tries laid_card (p ∙ ap (λ (x : Bool). cond x power_lost t) (sym q ∙ out)) z

-- ---- a power cycle

module _ (c : List ℕ) (s : State) where
  cycle_is : (b : Bool) → is_ready at88sc1608 c ≡ b → perform c s power_cycle ≡ cycled at88sc1608 b c s
  unfolding any.perform
  cycle_is b e = ap (λ (x : Bool). cycled at88sc1608 x c s) e

  pub cycle_idle : (s' t : State) (tries : ℕ) → (at c flag_at ≡ ready_flag → ⊥) → s' ≡ t → tries ≡ 0 → t ≡ powered_up s.tear
      → Performed c s power_cycle c s' tries
  cycle_idle s' t tries n e z p = performed c s power_cycle _ (cycle_is false (ne_eqb _ _ n)) c s' tries refl (e ∙ p) z

  module _ (fits : staging_fits c ≡ true) (long : length c ≡ card_size) (ready : at c flag_at ≡ ready_flag) where
    is_ready_lem : is_ready at88sc1608 c ≡ true
    is_ready_lem = eq-eqb _ _ ready

    pub ready_zone : at c 2178 < 8
    ready_zone = (fits_ready at88sc1608 c fits is_ready_lem).0

    pub ready_length : at c 2180 ≤ 8
    ready_length = (fits_ready at88sc1608 c fits is_ready_lem).1

    -- the values that were copied
    module _ (values : List ℕ) (copied : values ≡ take 8 (drop 2181 c)) where
      pub copied_are : take (at c 2180) values ≡ staged_values at88sc1608 c
      copied_are =
          let l = ready_length in
          ap (take (at c 2180)) copied ∙ take-take (at c 2180) 8 (drop 2181 c) l
          ∙ sym (tab_part c 2181 (at c 2180) (omega arith))
          ∙ tab_cong _ _ (at c 2180) (λ k h. ap (at c) (let e : 2181 + k ≡ 2178 + (3 + k) = omega arith in e))

      module _ (f f' : Fuel) (c' : List ℕ) (cells : f.cells ≡ fuel_of s.tear) (junk : f.junk ≡ junk_of s.tear)
          (w : Writes f (finish_cells at88sc1608 (at c 2178) (at c 2179) (take (at c 2180) values)) c f' c') where
        few : length (pending_cells at88sc1608 c) < 256
        few =
            let e = finish_count at88sc1608 (staged_zone at88sc1608 c) (staged_address at88sc1608 c) (staged_values at88sc1608 c) in
            let l = ready_length in
            let q = length_tab (λ k. at c (2178 + (3 + k))) (at c 2180) in omega arith

        pub cycle_laid : (lost : Bool) → eqb f'.cells 0 ≡ lost → (s' : State) (tries : ℕ) → s' ≡ cond lost power_lost power_on → tries ≡ 0
            → Performed c s power_cycle c' s' tries
        cycle_laid =
            act_laid c s.tear power_on (pending_cells at88sc1608 c) few f f' cells junk c' (rw copied_are at w) s power_cycle
            (cycle_is true is_ready_lem)

-- ---- a staged write

module _ (c : List ℕ) (s : State) (a : ℕ) (xs : List ℕ) where
  stage_is : (b : Bool) → may_stage at88sc1608 c s.volatile a ≡ b → perform c s (write_staged a xs) ≡ staged at88sc1608 b c s a xs
  unfolding any.perform
  stage_is b e = ap (λ (x : Bool). staged at88sc1608 x c s a xs) e

  pub stage_forbidden : (may : Bool) (s' t : State) (tries : ℕ) → may ≡ may_stage at88sc1608 c s.volatile a → not may ≡ true → s' ≡ t → tries ≡ 0
      → t ≡ timed s s.volatile write_time → Performed c s (write_staged a xs) c s' tries
  stage_forbidden may s' t tries e n p z q = performed c s (write_staged a xs) _ (stage_is false (sym e ∙ not-true may n)) c s' tries refl (p ∙ q) z

  module _ (may : Bool) (right : may ≡ may_stage at88sc1608 c s.volatile a) (allowed : not may ≡ false) (short : length xs ≤ 8) (blank values : List ℕ)
      (eight : length blank ≡ 8) (valued : values ≡ final_values at88sc1608 c s.volatile.zone a xs ++ drop (length xs) blank) where
    abbrev z : ℕ
    z = s.volatile.zone

    abbrev vs : List ℕ
    vs = final_values at88sc1608 c z a xs

    values_are : take (length xs) values ≡ vs
    values_are = ap (take (length xs)) valued ∙ take_at vs _ (length xs) (length_tab _ (length xs))

    module _ (f f' : Fuel) (c' : List ℕ) (cells : f.cells ≡ fuel_of s.tear) (junk : f.junk ≡ junk_of s.tear)
        (w : Writes f (stage_cells at88sc1608 z a (take (length xs) values)) c f' c') where
      fewer : length (stage_cells at88sc1608 z a vs) < 256
      fewer = let e = stage_count at88sc1608 z a vs in let q : length vs ≡ length xs = length_tab _ (length xs) in omega arith

      abbrev uncut : State
      uncut = make_state s.volatile write_time s.off untorn

      is_allowed : may_stage at88sc1608 c s.volatile a ≡ true
      is_allowed = sym right ∙ not-false may allowed

      pub stage_laid : (lost : Bool) → eqb f'.cells 0 ≡ lost → (s' : State) (tries : ℕ) → s' ≡ cond lost power_lost uncut → tries ≡ 0
          → Performed c s (write_staged a xs) c' s' tries
      stage_laid =
          act_laid c s.tear uncut (stage_cells at88sc1608 z a vs) fewer f f' cells junk c' (rw values_are at w) s (write_staged a xs)
          (stage_is true is_allowed)
