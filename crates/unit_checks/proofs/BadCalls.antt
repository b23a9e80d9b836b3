-- Statements with wrong CALLs or wrong dummies, by what is kept of each unit.
use Rattle.std.proofs.Common.{◌≡◌, ℕ, zero, suc, ◌+◌, ◌<◌, ◌≤◌, Bool, true, false, not, cond, List, [], ◌∷◌, length, get_or, take, refl, sym, ap, subst, ◌∙◌, arith}
use Rattle.std.specs.Prelude.{if◌then◌else◌}
use Rattle.std.proofs.lemmas.List.Sums.{count_by_more_no, count_by_more_yes, sum_by-cons}
use Rattle.f77_tree.specs.declared.statements.Labelled.{Labelled}
use Rattle.declared_names.specs.Described.{Described, described}
use Rattle.declared_names.specs.KeptDeclarations.{said_by}
use Rattle.unit_checks.specs.declared.unit_interface.UnitInterface.{UnitInterface}
use Rattle.program_units.specs.Units.{in_first, is_end, units, dummies_of}
use Rattle.program_units.specs.Refusals.{are_alike, unit_below}
use Rattle.unit_checks.specs.Alike.{are_alike_told}
use Rattle.unit_checks.specs.Interfaces.{IsInterfaceOf}
use Rattle.unit_checks.proofs.AlikeOnes.{alike-told}

abbrev ends : Labelled → Bool
ends s = is_end s.stmt

abbrev if_ends : Bool → ℕ → ℕ
if_ends b k = if b then k + 1 else k

-- ---- the unit in which a statement stands

below-by : (stmts : List Labelled) (i : ℕ) (s : Labelled) → i < length stmts → s ≡ get_or stmts i s → (b : Bool) → ends s ≡ b → unit_below (take (i + 1) stmts) ≡ if_ends b (unit_below (take i stmts))
below-by stmts i s inside stands true is = count_by_more_yes ends stmts i s inside (ap ends (sym stands) ∙ is)
below-by stmts i s inside stands false is = count_by_more_no ends stmts i s inside (ap ends (sym stands) ∙ is)

pub below-more : (stmts : List Labelled) (i : ℕ) (s : Labelled) → i < length stmts → s ≡ get_or stmts i s → unit_below (take (i + 1) stmts) ≡ (if is_end s.stmt then unit_below (take i stmts) + 1 else unit_below (take i stmts))
below-more stmts i s inside stands = below-by stmts i s inside stands (ends s) refl

first-more : (s : Labelled) (us : List (List Labelled)) → length us ≤ length (in_first s us)
first-more s [] = omega arith
first-more s (u ∷ us) = omega arith

one-more : (s : Labelled) (us : List (List Labelled)) (b : Bool) → cond b 1 0 + length us ≤ length (if b then (s ∷ []) ∷ us else in_first s us)
one-more s us true = omega arith
one-more s us false = let a = first-more s us in omega (arith, a)

-- there are as many units as ENDs, at least
pub units-enough : (stmts : List Labelled) (n : ℕ) → unit_below (take n stmts) ≤ length (units stmts)
units-enough [] zero = omega arith
units-enough [] (suc n) = omega arith
units-enough (s ∷ rest) zero = omega arith
units-enough (s ∷ rest) (suc n) =
    let a : unit_below (s ∷ take n rest) ≡ cond (ends s) 1 0 + unit_below (take n rest) = sum_by-cons (λ (y : Labelled). cond (ends y) 1 0) s (take n rest) in
    let b = units-enough rest n in
    let c = one-more s (units rest) (ends s) in
    subst (λ k. k ≤ length (units (s ∷ rest))) (sym a) (omega (arith, b, c))

pub end-inside : (stmts : List Labelled) (i : ℕ) (s : Labelled) → i < length stmts → s ≡ get_or stmts i s → is_end s.stmt ≡ true → unit_below (take i stmts) < length (units stmts)
end-inside stmts i s inside stands is =
    let a : unit_below (take (i + 1) stmts) ≡ unit_below (take i stmts) + 1 = below-by stmts i s inside stands true is in
    let b = units-enough stmts (i + 1) in
    omega (arith, a, b)

-- ---- what is kept of each unit

pub wrong-by : (u v : List Labelled) (here there : UnitInterface) (arguments : List (List ℕ)) → IsInterfaceOf u here → IsInterfaceOf v there
    → not (are_alike_told (said_by here.declared) (said_by there.declared) arguments there.dummies.items) ≡ not (are_alike u v arguments (dummies_of v))
wrong-by u v here there arguments a b =
    ap not (ap (λ (d : Described). are_alike_told d (said_by there.declared) arguments there.dummies.items) a.declared
    ∙ ap (λ (d : Described). are_alike_told (described u) d arguments there.dummies.items) b.declared
    ∙ ap (are_alike_told (described u) (described v) arguments) b.dummies
    ∙ alike-told u v arguments (dummies_of v))
