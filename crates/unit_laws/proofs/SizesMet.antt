-- The refusals that speak of the size of the expansion, one by one.
use Rattle.std.proofs.Common.{◌≡◌, ℕ, Bool, true, false, List, [], ◌∷◌, Option, Some, None, refl, ap}
use Rattle.f77_tree.specs.declared.statements.Labelled.{Labelled}
use Rattle.layout_rules.specs.Faults.{first_answer}
use Rattle.layout_rules.specs.Layout.{last_line}
use Rattle.program_units.specs.declared.sub_end.SubEnd.{SubEnd}
use Rattle.program_units.specs.declared.sub_end.SubEnd.TheVariants.{TooManyStatements, TooManyNames}
use Rattle.program_units.specs.Refusals.{end_at, main_line_if}
use Rattle.program_units.specs.Units.{unit_at}

module _ (us : List (List Labelled)) where
  -- the refusal, where the list is too long, or a number too great
  abbrev pub size_end : (wide great : Bool) → Option SubEnd
  size_end wide great = first_answer (λ r. r) (end_at TooManyStatements (main_line_if us wide) ∷ end_at TooManyNames (main_line_if us great) ∷ [])

  pub wide-told : (wide great : Bool) (line : ℕ) → wide ≡ true → line ≡ last_line (unit_at us 0) → Some (TooManyStatements line) ≡ size_end wide great
  wide-told true great line is at = ap (λ (n : ℕ). Some (TooManyStatements n)) at
  wide-told false great line is at = let e : false ≡ true = is in absurd cc

  pub great-told : (wide great : Bool) (line : ℕ) → wide ≡ false → great ≡ true → line ≡ last_line (unit_at us 0) → Some (TooManyNames line) ≡ size_end wide great
  great-told false true line narrow is at = ap (λ (n : ℕ). Some (TooManyNames n)) at
  great-told false false line narrow is at = let e : false ≡ true = is in absurd cc
  great-told true great line narrow is at = let e : true ≡ false = narrow in absurd cc

  pub none-told : (wide great : Bool) → wide ≡ false → great ≡ false → None ≡ size_end wide great
  none-told false false narrow small = refl
  none-told false true narrow small = let e : true ≡ false = small in absurd cc
  none-told true great narrow small = let e : true ≡ false = narrow in absurd cc

  -- no refusal: no number is too great
  pub none-great : (wide great : Bool) → size_end wide great ≡ None → great ≡ false
  none-great true great none = let e : Some (TooManyStatements (last_line (unit_at us 0))) ≡ None = none in absurd cc
  none-great false true none = let e : Some (TooManyNames (last_line (unit_at us 0))) ≡ None = none in absurd cc
  none-great false false none = refl

  -- no refusal: the list isn't too long
  pub none-wide : (wide great : Bool) → size_end wide great ≡ None → wide ≡ false
  none-wide true great none = let e : Some (TooManyStatements (last_line (unit_at us 0))) ≡ None = none in absurd cc
  none-wide false great none = refl
