-- The names of a copy are those that are told.
use Rattle.std.proofs.Common.{◌≡◌, ℕ, ◌+◌, ◌<◌, ◌≤◌, ◌^◌, Bool, true, false, cond, if◌then◌else◌, List, length, nat_lt, Option, Some, None, refl, ap, ◌∙◌, arith}
use Rattle.std.specs.Prelude.{bytes_eq}
use Rattle.std.specs.List.{position_or_len, slice_get}
use Rattle.std.proofs.lemmas.Bool.{ltb-false, ltb-true, ne_eqb}
use Rattle.std.proofs.lemmas.Option.{slice_get_past}
use Rattle.f77_tree.specs.declared.statements.Labelled.{Labelled}
use Rattle.program_units.specs.Copies.{change_in}
use Rattle.program_units.specs.Entities.{entity_at, entity_of, stands_for}
use Rattle.program_units.specs.declared.entity.Entity.{Entity}
use Rattle.program_units.specs.Names.{name_for}
use Rattle.program_units.specs.Units.{dummies_of, unit_at}
use Rattle.program_units.specs.NewNames.{new_name}
use Rattle.program_units.specs.declared.new_name.NewName.TheVariants.{Argument as Place, Fixed}
use Rattle.copied_names.specs.CopiedNames.{HasNextPlace, becomes, becomes_as, becomes_by}
use Rattle.copied_names.specs.declared.copied.Becomes.TheVariants.{Argument, Named}

-- what a name becomes is what is told of it
pub becomes-is : (us : List (List Labelled)) (k : ℕ) (x : List ℕ) → becomes_as (new_name us k x) ≡ becomes us k x
becomes-is us k x = by (nat_lt (position_or_len (bytes_eq x) (dummies_of (unit_at us k))) (length (dummies_of (unit_at us k))))
  where
    place : ℕ
    place = position_or_len (bytes_eq x) (dummies_of (unit_at us k))

    by : (b : Bool) → becomes_as (if b then Place place else Fixed (name_for us (entity_of us k x))) ≡ becomes_by us k x (cond b (Some place) None)
    by true = refl
    by false = refl

-- the place of a dummy has a next one
pub next-place : (us : List (List Labelled)) (k : ℕ) (x : List ℕ) → length (dummies_of (unit_at us k)) < 2 ^ 32 → HasNextPlace (new_name us k x)
next-place us k x few = by (nat_lt place (length (dummies_of (unit_at us k)))) refl
  where
    place : ℕ
    place = position_or_len (bytes_eq x) (dummies_of (unit_at us k))

    by : (b : Bool) → nat_lt place (length (dummies_of (unit_at us k))) ≡ b → HasNextPlace (if b then Place place else Fixed (name_for us (entity_of us k x)))
    by true is = let below = ltb-true place (length (dummies_of (unit_at us k))) is in omega (arith, below, few)
    by false is = tt

module _ (us : List (List Labelled)) (depth k base : ℕ) (arguments : List Entity) (x : List ℕ) (copied : 0 < k) where
  abbrev changed_name : List ℕ
  changed_name = (change_in us depth k base arguments).name x

  abbrev dummies : List (List ℕ)
  dummies = dummies_of (unit_at us k)

  abbrev spot : ℕ
  spot = position_or_len (bytes_eq x) dummies

  abbrev name_by : Option Entity → List ℕ
  name_by passed = name_for us (entity_at (entity_of us k x) passed)

  changed-is : changed_name ≡ name_by (slice_get arguments spot)
  changed-is = ap (λ (b : Bool). if b then x else name_for us (stands_for us k arguments x)) (ne_eqb k 0 (λ e. absurd (omega (arith, e, copied))))

  pub named : (new : List ℕ) → length arguments ≤ length dummies → becomes us k x ≡ Named new → changed_name ≡ new
  named new few is = by_test (nat_lt spot (length dummies)) refl is
    where
      by_test : (b : Bool) → nat_lt spot (length dummies) ≡ b → becomes_by us k x (cond b (Some spot) None) ≡ Named new → changed_name ≡ new
      by_test true there told = let e : Argument (spot + 1) ≡ Named new = told in absurd cc
      by_test false none told =
          let over : length dummies ≤ spot = ltb-false spot (length dummies) none in
          let e : Named (name_for us (entity_of us k x)) ≡ Named new = told in
          let same : name_for us (entity_of us k x) ≡ new = cc in
          changed-is ∙ ap name_by (slice_get_past arguments spot (omega (arith, few, over))) ∙ same

  pub passed : (place : ℕ) (e : Entity) → becomes us k x ≡ Argument (place + 1) → slice_get arguments place ≡ Some e → changed_name ≡ name_for us e
  passed place e is at = by_test (nat_lt spot (length dummies)) is
    where
      by_test : (b : Bool) → becomes_by us k x (cond b (Some spot) None) ≡ Argument (place + 1) → changed_name ≡ name_for us e
      by_test true told =
          let same : Argument (spot + 1) ≡ Argument (place + 1) = told in
          let next : spot + 1 ≡ place + 1 = cc in
          let here : spot ≡ place = omega (arith, next) in
          changed-is ∙ ap name_by (ap (slice_get arguments) here ∙ at)
      by_test false told = let other : Named (name_for us (entity_of us k x)) ≡ Argument (place + 1) = told in absurd cc
