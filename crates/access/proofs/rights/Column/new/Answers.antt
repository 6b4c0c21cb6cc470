-- The table of the code is the model's, stage by stage.
use Rattle.std.specs.Prelude.{ℕ, [], ◌≡◌, refl, eqb, slice_index_or}
use Rattle.laws.specs.AccessLaws.{stage_below}
use Rattle.laws.specs.BoolLaws.{choice}
use Rattle.model.specs.Lists.{tab}
use Rattle.model.specs.Access.{stage_of, permission, permissions}
use Rattle.access.specs.Column.{column_of}
use Rattle.access.specs.Permissions.{codes_of, write_of}
use Rattle.access.specs.contracts.rights.Access.{the_type}
use Rattle.access.specs.declared.rights.Access.{Access}
use Rattle.access.specs.declared.rights.Access.TheVariants.{Read, Write}
use Rattle.access.specs.declared.rights.TheConstants.{PERMISSIONS}
use Rattle.access.proofs.rights.Column.new.Goals as goal
use denote.Enum.Declared.{tag_of}

stage_right : (access : Access) (f : ℕ)
    → codes_of (slice_index_or (slice_index_or PERMISSIONS (stage_of f) []) (tag_of the_type access) []) ≡ column_of (write_of access) f
unfolding stage_of tab permission permissions
stage_right Read f =
    let P : ℕ → Type 0 = λ k. codes_of (slice_index_or (slice_index_or PERMISSIONS k []) 0 []) ≡ tab (λ area. permission area k 0) 7 in
    choice P (eqb f 7) _ _ refl (choice P (eqb f 6) _ _ refl (choice P (eqb f 4) _ _ refl refl))
stage_right Write f =
    let P : ℕ → Type 0 = λ k. codes_of (slice_index_or (slice_index_or PERMISSIONS k []) 1 []) ≡ tab (λ area. permission area k 1) 7 in
    choice P (eqb f 7) _ _ refl (choice P (eqb f 6) _ _ refl (choice P (eqb f 4) _ _ refl refl))

pub bounds-stage : goal.bounds-stage
bounds-stage c = rw c.stage.ensures (stage_below c.args.fuses)

pub returns-clause-permissions : goal.returns-clause-permissions
returns-clause-permissions c = rw c.stage.ensures (stage_right c.args.access c.args.fuses)
