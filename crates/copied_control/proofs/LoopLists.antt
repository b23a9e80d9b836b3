-- The places of DOs in lists.
use Rattle.std.proofs.Common.{◌≡◌, ℕ, suc, ◌+◌, Bool, true, false, List, [], ◌∷◌, ◌++◌, length, drop, filter, reverse, refl, ap, arith}
use Rattle.std.specs.List.{slice_get, range_with_len}
use Rattle.f77_tree.specs.declared.statements.Labelled.{Labelled}
use Rattle.layout_rules.specs.Executables.{is_do_to, is_do_in, loops_to}
use Rattle.program_units.specs.CopiedLoops.{loop_if, loops_from}
use Rattle.copied_control.proofs.MappedArms.{first_here, rest_here}

loop-if-append : (b : Bool) (place : ℕ) (xs ys all : List ℕ) → all ≡ xs ++ ys → loop_if b place all ≡ loop_if b place xs ++ ys
loop-if-append true place xs ys all is = ap (λ (zs : List ℕ). place ∷ zs) is
loop-if-append false place xs ys all is = is

pub loops-append : (label : ℕ) (xs ys : List Labelled) (place : ℕ) → loops_from label (xs ++ ys) place ≡ loops_from label xs place ++ loops_from label ys (place + length xs)
loops-append label [] ys place = ap (λ (n : ℕ). loops_from label ys n) (let e : place ≡ place + 0 = omega arith in e)
loops-append label (s ∷ xs) ys place =
    grind (arith, loop-if-append (is_do_to label s.stmt) place (loops_from label xs (place + 1)) (loops_from label ys (place + suc (length xs))) (loops_from label (xs ++ ys) (place + 1)), loops-append label xs ys (place + 1))

filtered : (stmts : List Labelled) (label : ℕ) (xs : List Labelled) (place : ℕ) → drop place stmts ≡ xs → filter (λ d. is_do_in label (slice_get stmts d)) (range_with_len place (length xs)) ≡ loops_from label xs place
filtered stmts label [] place is = refl
filtered stmts label (s ∷ xs) place is =
    grind (arith, first_here stmts place s xs is, filtered stmts label xs (place + 1) (rest_here stmts place s xs is), rest_here stmts place s xs is)

pub loops-are : (stmts : List Labelled) (label : ℕ) → loops_to stmts label ≡ reverse (loops_from label stmts 0)
loops-are stmts label = ap (λ (xs : List ℕ). reverse xs) (filtered stmts label stmts 0 refl)
