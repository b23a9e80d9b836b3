-- The search for the lowest line with a fault, statement by statement. A loop over the statements keeps
-- `lowest_line fault stmts ≡ lower_line lowest (lowest_after fault (take i stmts) (drop i stmts))`.
use Rattle.std.proofs.Common.{◌≡◌, ℕ, ◌+◌, ◌<◌, ◌≤◌, suc, Bool, true, false, cond, List, [], ◌∷◌, ◌++◌, length, get_or, take, drop, Option, Some, None, refl, sym, ap, ◌∙◌, add-one, drop-cons, arith}
use Rattle.std.proofs.Math.Seq.{take-suc}
use Rattle.std.proofs.lemmas.Bool.Decides.{nat_tests}
use Rattle.std.proofs.lemmas.List.{drop_all}
use Rattle.f77_tree.specs.declared.statements.Labelled.{Labelled}
use Rattle.layout_rules.specs.Faults.{first_after}
use Rattle.layout_rules.specs.LowestLines.{lower_line, lower_or, lowest_after}

lower-assoc : (a b : ℕ) (o : Option ℕ) → lower_or (lower_or a (Some b)) o ≡ lower_or a (Some (lower_or b o))
lower-assoc a b None = refl
lower-assoc a b (Some c) = grind (arith, nat_tests)

-- a line more
lower_line-one : (low : Option ℕ) (line : ℕ) (rest : Option ℕ) → lower_line low (Some (lower_or line rest)) ≡ lower_line (lower_line low (Some line)) rest
lower_line-one None line rest = refl
lower_line-one (Some l) line rest = ap Some (sym (lower-assoc l line rest))

pub lower_line-none : (low : Option ℕ) → lower_line low None ≡ low
lower_line-none None = refl
lower_line-none (Some line) = refl

module _ (fault : List Labelled → Labelled → Bool) (stmts : List Labelled) (low : Option ℕ) (i : ℕ) where
  step : (b : Bool) (line : ℕ) (rest : Option ℕ) → lower_line low (cond b (Some (lower_or line rest)) rest) ≡ lower_line (cond b (lower_line low (Some line)) low) rest
  step true line rest = lower_line-one low line rest
  step false line rest = refl

  pub lowest-next : (s : Labelled) → i < length stmts → s ≡ get_or stmts i s
      → lower_line low (lowest_after fault (take i stmts) (drop i stmts)) ≡ lower_line (cond (fault (take i stmts) s) (lower_line low (Some s.line)) low) (lowest_after fault (take (i + 1) stmts) (drop (i + 1) stmts))
  lowest-next s lt is = rw (add-one, take-suc stmts i s lt, drop-cons stmts i s lt, ← is) (step (fault (take i stmts) s) s.line (lowest_after fault (take i stmts ++ s ∷ []) (drop (suc i) stmts)))

  pub lowest-end : length stmts ≤ i → lower_line low (lowest_after fault (take i stmts) (drop i stmts)) ≡ low
  lowest-end le = ap (λ rest. lower_line low (lowest_after fault (take i stmts) rest)) (drop_all i stmts le) ∙ lower_line-none low

-- no line is the lowest exactly where none is the first
pub lowest-none : (fault : List Labelled → Labelled → Bool) (above stmts : List Labelled) → lowest_after fault above stmts ≡ None → first_after fault above stmts ≡ None
lowest-none fault above [] none = refl
lowest-none fault above (s ∷ rest) none = grind (arith, none, lowest-none fault (above ++ s ∷ []) rest)

pub first-none : (fault : List Labelled → Labelled → Bool) (above stmts : List Labelled) → first_after fault above stmts ≡ None → lowest_after fault above stmts ≡ None
first-none fault above [] none = refl
first-none fault above (s ∷ rest) none = grind (arith, none, first-none fault (above ++ s ∷ []) rest)
