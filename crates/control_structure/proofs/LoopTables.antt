-- The DOs above a place, one statement on.
use Rattle.std.proofs.Common.{◌≡◌, ℕ, ◌+◌, ◌≤◌, Bool, false, cond, List, [], ◌∷◌, ◌++◌, length, refl, sym, ap, ◌∙◌, arith, Option, Some, append-nil, ◌<◌, true, All}
use Rattle.std.specs.Prelude.{◌==◌, slice_get, filter}
use Rattle.std.specs.List.{range_with_len}
use Rattle.std.proofs.lemmas.List.{map-id}
use Rattle.std.proofs.lemmas.List.FromFn.{map-range_with_len_more, length-range_with_len, get_or-range_with_len}
use Rattle.std.proofs.lemmas.List.Elements.{filter-append, All-filter, filter_passes}
use Rattle.std.proofs.lemmas.List.Sums.{length-filter, count_by-le-length}
use Rattle.f77_tree.specs.declared.statements.Labelled.{Labelled}
use Rattle.f77_tree.specs.declared.statements.Stmt.{Stmt}
use Rattle.f77_tree.specs.declared.statements.Stmt.TheVariants.{Do}
use Rattle.f77_tree.specs.declared.statements.RawExpr.{RawExpr}
use Rattle.layout_rules.specs.Executables.{is_do_to, is_do_in, loops_above}
use Rattle.layout_rules.specs.Tables.{AreLoops, rank_of, rank_at, rank}

pub range-more : (n : ℕ) → range_with_len 0 (n + 1) ≡ range_with_len 0 n ++ n ∷ []
range-more n =
    sym (map-id (range_with_len 0 (n + 1))) ∙ map-range_with_len_more (λ (k : ℕ). k) 0 n n (omega arith) ∙ ap (λ (ks : List ℕ). ks ++ n ∷ []) (map-id (range_with_len 0 n))

pub loops_above-next : (stmts : List Labelled) (label place : ℕ) → loops_above stmts label (place + 1) ≡ loops_above stmts label place ++ cond (is_do_in label (slice_get stmts place)) (place ∷ []) []
loops_above-next stmts label place =
    let p : ℕ → Bool = λ d. is_do_in label (slice_get stmts d) in
    ap (filter p) (range-more place) ∙ filter-append p (range_with_len 0 place) (place ∷ [])

pub loops_above-more : (stmts : List Labelled) (label place : ℕ) (s : Labelled) → slice_get stmts place ≡ Some s → loops_above stmts label (place + 1) ≡ loops_above stmts label place ++ cond (is_do_to label s.stmt) (place ∷ []) []
loops_above-more stmts label place s at =
    loops_above-next stmts label place ∙ ap (λ (o : Option Labelled). loops_above stmts label place ++ cond (is_do_in label o) (place ∷ []) []) at

-- ---- a statement that is no DO, and one that is

abbrev pub IsNoDo : Stmt → Type 0
IsNoDo stmt = (label : ℕ) (variable : List ℕ) (first last : RawExpr) (step : Option RawExpr) → stmt ≡ Do label variable first last step → ⊥

is_do_to-none : (stmt : Stmt) → IsNoDo stmt → (label : ℕ) → is_do_to label stmt ≡ false
is_do_to-none (Do terminal variable first last step) other label = absurd (other terminal variable first last step refl)
is_do_to-none _ other label = refl

rank_of-none : (stmts : List Labelled) (place : ℕ) (stmt : Stmt) → IsNoDo stmt → rank_of stmts place stmt ≡ 0
rank_of-none stmts place (Do terminal variable first last step) other = absurd (other terminal variable first last step refl)
rank_of-none stmts place _ other = refl

module _ (stmts : List Labelled) (place : ℕ) (s : Labelled) (at : slice_get stmts place ≡ Some s) where
  -- no list grows
  pub AreLoops-pass : (lists : ℕ → List ℕ) → IsNoDo s.stmt → AreLoops stmts place lists → AreLoops stmts (place + 1) lists
  AreLoops-pass lists other are label =
      are label
      ∙ sym (append-nil (loops_above stmts label place))
      ∙ ap (λ (b : Bool). loops_above stmts label place ++ cond b (place ∷ []) []) (sym (is_do_to-none s.stmt other label))
      ∙ sym (loops_above-more stmts label place s at)

  pub rank-pass : IsNoDo s.stmt → rank stmts place ≡ 0
  rank-pass other = ap (rank_at stmts place) at ∙ rank_of-none stmts place s.stmt other

  module _ (terminal : ℕ) (variable : List ℕ) (first last : RawExpr) (step : Option RawExpr) (is : s.stmt ≡ Do terminal variable first last step) where
    pub rank-enter : rank stmts place ≡ length (loops_above stmts terminal place)
    rank-enter = ap (rank_at stmts place) at ∙ ap (rank_of stmts place) is

    -- the list of its label grows
    pub AreLoops-enter : (old new : ℕ → List ℕ) → ((label : ℕ) → new label ≡ old label ++ cond (terminal == label) (place ∷ []) []) → AreLoops stmts place old → AreLoops stmts (place + 1) new
    AreLoops-enter old new entered are label =
        entered label
        ∙ ap (λ (xs : List ℕ). xs ++ cond (terminal == label) (place ∷ []) []) (are label)
        ∙ sym (ap (λ stmt. loops_above stmts label place ++ cond (is_do_to label stmt) (place ∷ []) []) is)
        ∙ sym (loops_above-more stmts label place s at)

-- there are no more DOs than statements above
pub loops_above-few : (stmts : List Labelled) (label place : ℕ) → length (loops_above stmts label place) ≤ place
loops_above-few stmts label place =
    let p : ℕ → Bool = λ d. is_do_in label (slice_get stmts d) in
    omega (arith, length-filter p (range_with_len 0 place), count_by-le-length p (range_with_len 0 place), length-range_with_len 0 place)

-- ---- the DOs that end at a label

-- they are DOs, and stand among the statements
pub loops_above-dos : (stmts : List Labelled) (label place : ℕ) → All (λ d. is_do_in label (slice_get stmts d) ≡ true) (loops_above stmts label place)
loops_above-dos stmts label place = filter_passes (λ d. is_do_in label (slice_get stmts d)) (range_with_len 0 place)

pub loops_above-within : (stmts : List Labelled) (label place : ℕ) → All (λ d. d < place) (loops_above stmts label place)
loops_above-within stmts label place =
    All-filter (λ d. is_do_in label (slice_get stmts d)) (λ d. d < place) (range_with_len 0 place)
    (λ k d below. let inside : k < place = omega (arith, length-range_with_len 0 place) in omega (arith, get_or-range_with_len 0 place k d inside))
