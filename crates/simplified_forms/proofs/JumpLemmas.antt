-- Where items jump to.
use Rattle.std.proofs.Common.{◌≡◌, ℕ, suc, ◌<◌, ◌≤◌, List, [], ◌∷◌, ◌++◌, length, All, Option, Some, None, ⊎_elim, arith}
use Rattle.std.specs.Prelude.{IfSome, slice_index}
use Rattle.std.proofs.lemmas.Bool.{cases_lt}
use Rattle.std.proofs.lemmas.List.{get_or_past}
use Rattle.f77_tree.specs.declared.programs.ExecKind.{ExecKind}
use Rattle.f77_tree.specs.declared.programs.ExecKind.TheVariants.{Assign, Print, Pass, Test, Sign, Pick, DoStart, DoNext, End}
use Rattle.f77_tree.specs.Control.{successors}
use Rattle.simplified_forms.specs.Simplified.{rest}

module _ (n : ℕ) (some : 0 < n) where
  -- a place of a list of numbers below n, or past its end
  index-below : (xs : List ℕ) (i : ℕ) → All (λ s. s < n) xs → slice_index xs i < n
  index-below xs i all =
      ⊎_elim
      (λ (less : i < length xs). all i 0 less)
      (λ (past : length xs ≤ i). let none = get_or_past xs i 0 past in omega (arith, none, some))
      (cases_lt i (length xs))

  last-below : (xs : List ℕ) (x : ℕ) → All (λ s. s < n) (xs ++ x ∷ []) → x < n
  last-below [] x all = all 0 0 (omega arith)
  last-below (y ∷ ys) x all = last-below ys x (λ k d less. all (suc k) d (omega (arith, less)))

  -- where control goes on is a successor
  pub rest-below : (kind : ExecKind) (decided : Option ℕ) → All (λ s. s < n) (successors kind) → IfSome (rest kind decided) (λ s. s < n)
  rest-below (Assign target value next) None all = all 0 0 (omega arith)
  rest-below (Assign target value next) (Some i) all = all 0 0 (omega arith)
  rest-below (Print items next) None all = all 0 0 (omega arith)
  rest-below (Print items next) (Some i) all = all 0 0 (omega arith)
  rest-below (Pass next) None all = all 0 0 (omega arith)
  rest-below (Pass next) (Some i) all = all 0 0 (omega arith)
  rest-below (Test c if_true if_false) None all = all 1 0 (omega arith)
  rest-below (Test c if_true if_false) (Some i) all = index-below (if_true ∷ if_false ∷ []) i all
  rest-below (Sign value below at above) None all = tt
  rest-below (Sign value below at above) (Some i) all = index-below (below ∷ at ∷ above ∷ []) i all
  rest-below (Pick value targets other) None all = last-below targets other all
  rest-below (Pick value targets other) (Some i) all = index-below (targets ++ other ∷ []) i all
  rest-below (DoStart loop_no var first last step body exit) None all = tt
  rest-below (DoStart loop_no var first last step body exit) (Some i) all = tt
  rest-below (DoNext loop_no var body exit) None all = all 1 0 (omega arith)
  rest-below (DoNext loop_no var body exit) (Some i) all = all 1 0 (omega arith)
  rest-below End None all = tt
  rest-below End (Some i) all = tt

-- the same where it is told where control goes on
pub some-rest-below : (n k s : ℕ) (kind : ExecKind) (decided : Option ℕ) → k < n → All (λ x. x < n) (successors kind) → rest kind decided ≡ Some s → s < n
some-rest-below n k s kind decided less all is =
    let some : 0 < n = omega (arith, less) in
    rw is at (rest-below n some kind decided all)
