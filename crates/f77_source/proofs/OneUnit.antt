-- A text of one unit without subroutines can be laid out as it stands.
use Rattle.std.proofs.Common.{◌≡◌, ℕ, zero, suc, ◌+◌, ◌-◌, ◌<◌, Bool, true, false, not, ◌&&◌, List, [], ◌∷◌, length, take, slice_get, Some, All, get_or, refl, ap, ◌∙◌, arith}
use Rattle.std.specs.List.{list_all}
use Rattle.std.proofs.lemmas.Bool.{and_parts}
use Rattle.f77_tree.specs.declared.statements.Labelled.{Labelled}
use Rattle.f77_tree.specs.declared.statements.Stmt.TheVariants.{End}
use Rattle.f77_tree.specs.StatementGrammar.{is_of_subroutines}
use Rattle.f77_tree.proofs.AllLemmas.{All-nil, All-cons}
use Rattle.layout_rules.specs.Source.{EndsWithEnd, IsSource}
use Rattle.f77_layout.proofs.GivenTrees.{given-IsTree}
use Rattle.program_units.specs.Texts.{IsText}
use Rattle.program_units.specs.Units.{is_end}
use Rattle.f77_source.specs.Listed.{stays_in_unit, is_one_unit}

pub some-statement : (stmts : List Labelled) → EndsWithEnd stmts → 0 < length stmts
some-statement [] ended = cc
some-statement (s ∷ stmts) ended = omega arith

abbrev IsPlain : Labelled → Type 0
IsPlain s = is_of_subroutines s.stmt ≡ false

abbrev stays : Labelled → Bool
stays s = stays_in_unit s.stmt

no-second : (a b : Bool) → (not a && not b) ≡ true → b ≡ false
no-second a false h = refl
no-second true true h = absurd cc
no-second false true h = absurd cc

plain : (n : ℕ) (stmts : List Labelled) (last : Labelled) → length stmts ≡ n + 1 → slice_get stmts n ≡ Some last → last.stmt ≡ End → list_all stays (take n stmts) ≡ true → All IsPlain stmts
plain n [] last count at is stay = All-nil IsPlain
plain zero (s ∷ []) last count at is stay =
    let same : s ≡ last = cc in
    All-cons IsPlain s [] (ap (λ (t : Labelled). is_of_subroutines t.stmt) same ∙ ap is_of_subroutines is) (All-nil IsPlain)
plain zero (s ∷ next ∷ rest) last count at is stay = absurd (omega (arith, count))
plain (suc n) (s ∷ rest) last count at is stay =
    let parts = and_parts (stays s) (list_all stays (take n rest)) stay in
    All-cons IsPlain s rest (no-second (is_end s.stmt) (is_of_subroutines s.stmt) parts.0) (plain n rest last (omega (arith, count)) at is parts.1)

pub one-unit-source : (stmts : List Labelled) → IsText stmts → is_one_unit stmts ≡ true → IsSource stmts
one-unit-source stmts text one =
    let some = some-statement stmts text.ended in
    let free = plain (length stmts - 1) stmts text.ended.last (omega (arith, some)) text.ended.stands text.ended.is one in
    record {
      trees = λ k s lt. given-IsTree (get_or stmts k s).stmt (text.given k s lt) (free k s lt);
      no_subroutines = free;
      labels = text.labels;
      few = text.few;
      ended = text.ended;
    }
