-- What is collected of expressions. No public clause cites this module.
use Rattle.std.specs.Prelude.{◌≡◌, Bool, List, [], ◌∷◌, ◌++◌, flat_map}
use Rattle.std.specs.List.{list_all}
use Rattle.f77_tree.specs.declared.expressions.Expr.{Expr}
use Rattle.f77_tree.specs.declared.programs.NameInfo.{NameInfo}
use Rattle.redundancy.specs.Candidates.{is_plain, IsCandidate, subexpressions}

abbrev pub all_plain : List Expr → Bool
all_plain es = list_all is_plain es

-- all that stands in some expressions
abbrev pub all_subexpressions : List Expr → List Expr
all_subexpressions es = flat_map subexpressions es

-- the candidates of a list, in order
pub data AreCandidatesIn (names : List NameInfo) : List Expr → List Expr → Type 0 where
  none : AreCandidatesIn names [] []
  take : (e : Expr) (es found : List Expr) → IsCandidate names e → AreCandidatesIn names es found → AreCandidatesIn names (e ∷ es) (e ∷ found)
  skip : (e : Expr) (es found : List Expr) → (IsCandidate names e → ⊥) → AreCandidatesIn names es found → AreCandidatesIn names (e ∷ es) found

-- the candidates of the list stand after the old ones
pub record IsGrown (names : List NameInfo) (es old new : List Expr) : Type 0 where
  pub more : List Expr
  pub are : AreCandidatesIn names es more
  pub after : new ≡ old ++ more
