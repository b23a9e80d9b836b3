-- Where control goes after a DO, by how many DOs above it end at the same label.
use Rattle.std.proofs.Common.{◌≡◌, ℕ, suc, zero, ◌+◌, ◌-◌, ◌<◌, Bool, true, false, eqb, cond, List, [], ◌∷◌, ◌++◌, length, refl, sym, ap, subst, ◌∙◌, arith, Some, append-nil, length-append, ◌≤◌, get_or, Option, None}
use Rattle.std.specs.Prelude.{slice_get, reverse, sum_by}
use Rattle.std.proofs.Math.Dec.{eqb-suc-zero}
use Rattle.std.proofs.lemmas.Bool.{eq-eqb, ne_eqb, eqb-true}
use Rattle.std.proofs.lemmas.List.{reverse-append, length-reverse}
use Rattle.std.proofs.lemmas.Option.{slice_get_within, get_or_from_slice_get}
use Rattle.std.proofs.lemmas.List.Sums.{sum_by_more_le}
use Rattle.f77_tree.specs.declared.statements.Labelled.{Labelled}
use Rattle.layout_rules.specs.Labels.{statement_of}
use Rattle.layout_rules.specs.Executables.{is_do_in, loops_above, loops_to, met, exit_after, exit_among, own_executables, executables_with_ends, is_do_to, is_else_at, first_of, when_false, increments_at, exit_of}
use Rattle.f77_tree.specs.declared.statements.Stmt.{Stmt}
use Rattle.f77_tree.specs.declared.statements.Stmt.TheVariants.{Do}
use Rattle.layout_rules.specs.Jumps.{end_of_arm}
use Rattle.layout_rules.specs.Tables.{rank, rank_at, rank_of}
use Rattle.control_structure.proofs.LabelLemmas.{position-passes}
use Rattle.control_structure.proofs.LoopTables.{loops_above-next}

-- the statement with a label has that label
pub label-of_statement : (stmts : List Labelled) (label : ℕ) (s : Labelled) → slice_get stmts (statement_of stmts label) ≡ Some s → s.label ≡ label
label-of_statement stmts label s at = eqb-true s.label label (position-passes (λ (a : Labelled). eqb a.label label) stmts s at)

abbrev pub AllOf : (ℕ → Type 0) → List ℕ → Type 0
AllOf P [] = Unit {0}
AllOf P (x ∷ xs) = P x × AllOf P xs

-- the DOs that end at the label with the one at the place d among them
pub record EndsAmong (whole : List Labelled) (label d : ℕ) (ds : List ℕ) : Type 0 where
  pub inner : List ℕ
  pub is : ds ≡ inner ++ d ∷ reverse (loops_above whole label d)
  pub beyond : AllOf (λ x. d < x) inner

module _ (whole : List Labelled) (label : ℕ) where
  grown : (b : Bool) (xs : List ℕ) (n : ℕ) → reverse (xs ++ cond b (n ∷ []) []) ≡ cond b (n ∷ reverse xs) (reverse xs)
  grown true xs n = reverse-append xs (n ∷ [])
  grown false xs n = ap (λ (ys : List ℕ). reverse ys) (append-nil xs)

  pub more : (n : ℕ) (b : Bool) → is_do_in label (slice_get whole n) ≡ b → reverse (loops_above whole label (n + 1)) ≡ cond b (n ∷ reverse (loops_above whole label n)) (reverse (loops_above whole label n))
  more n b is =
      ap (λ (xs : List ℕ). reverse xs) (loops_above-next whole label n ∙ ap (λ c. loops_above whole label n ++ cond c (n ∷ []) []) is) ∙ grown b (loops_above whole label n) n

  among-step : (d n : ℕ) → d < n → EndsAmong whole label d (reverse (loops_above whole label n)) → EndsAmong whole label d (reverse (loops_above whole label (n + 1)))
  among-step d n lt a = by (is_do_in label (slice_get whole n)) refl
    where
      by : (b : Bool) → is_do_in label (slice_get whole n) ≡ b → EndsAmong whole label d (reverse (loops_above whole label (n + 1)))
      by true is = record { inner = n ∷ a.inner; is = more n true is ∙ ap (λ (xs : List ℕ). n ∷ xs) a.is; beyond = (lt, a.beyond) }
      by false is = record { inner = a.inner; is = more n false is ∙ a.is; beyond = a.beyond }

  among-from : (d m : ℕ) → is_do_in label (slice_get whole d) ≡ true → EndsAmong whole label d (reverse (loops_above whole label (d + 1 + m)))
  among-from d zero is = subst (λ (n : ℕ). EndsAmong whole label d (reverse (loops_above whole label n))) (let e : d + 1 ≡ d + 1 + 0 = omega arith in e) (record { inner = []; is = more d true is; beyond = tt })
  among-from d (suc m) is = subst (λ (n : ℕ). EndsAmong whole label d (reverse (loops_above whole label n))) (let e : d + 1 + m + 1 ≡ d + 1 + suc m = omega arith in e) (among-step d (d + 1 + m) (omega arith) (among-from d m is))

  pub ends_among : (d n : ℕ) → d < n → is_do_in label (slice_get whole d) ≡ true → EndsAmong whole label d (reverse (loops_above whole label n))
  ends_among d n above is = subst (λ (k : ℕ). EndsAmong whole label d (reverse (loops_above whole label k))) (let e : d + 1 + (n - (d + 1)) ≡ n = omega (arith, above) in e) (among-from d (n - (d + 1)) is)

  pub among-length : (d : ℕ) {ds : List ℕ} (a : EndsAmong whole label d ds) → length ds ≡ length a.inner + 1 + length (loops_above whole label d)
  among-length d a = ap (λ (xs : List ℕ). length xs) a.is ∙ length-append a.inner (d ∷ reverse (loops_above whole label d)) ∙ omega (arith, length-reverse (loops_above whole label d))

  exit-passes : (d terminal increment : ℕ) (xs : List ℕ) → AllOf (λ x. d < x) xs → exit_among whole terminal increment (xs ++ d ∷ reverse (loops_above whole label d)) d ≡ exit_after whole terminal (increment + length xs) (reverse (loops_above whole label d))
  exit-passes d terminal increment [] all =
      ap (λ b. cond b (exit_after whole terminal increment (reverse (loops_above whole label d))) (exit_among whole terminal (increment + 1) (reverse (loops_above whole label d)) d)) (eq-eqb d d refl)
      ∙ ap (λ k. exit_after whole terminal k (reverse (loops_above whole label d))) (let e : increment ≡ increment + 0 = omega arith in e)
  exit-passes d terminal increment (x ∷ xs) all =
      ap (λ b. cond b (exit_after whole terminal increment (xs ++ d ∷ reverse (loops_above whole label d))) (exit_among whole terminal (increment + 1) (xs ++ d ∷ reverse (loops_above whole label d)) d)) (ne_eqb x d (λ e. absurd (omega (arith, all.0, e))))
      ∙ exit-passes d terminal (increment + 1) xs all.1
      ∙ ap (λ k. exit_after whole terminal k (reverse (loops_above whole label d))) (let e : increment + 1 + length xs ≡ increment + length (x ∷ xs) = omega arith in e)

  pub among-exit : (d : ℕ) {ds : List ℕ} (a : EndsAmong whole label d ds) (terminal increment : ℕ) → exit_among whole terminal increment ds d ≡ exit_after whole terminal (increment + length a.inner) (reverse (loops_above whole label d))
  among-exit d a terminal increment = ap (λ (xs : List ℕ). exit_among whole terminal increment xs d) a.is ∙ exit-passes d terminal increment a.inner a.beyond

module _ (stmts : List Labelled) (label terminal : ℕ) where
  after-empty : (k : ℕ) (ds : List ℕ) → exit_after stmts terminal k ds ≡ cond (eqb (length ds) 0) (met stmts (terminal + 1)) (k + 1)
  after-empty k [] = refl
  after-empty k (d ∷ ds) = ap (λ b. cond b (met stmts (terminal + 1)) (k + 1)) (sym (eqb-suc-zero (length ds)))

  -- the exit, by numbers
  pub exit-by_rank : (d increment : ℕ) → d < length stmts → is_do_in label (slice_get stmts d) ≡ true → exit_among stmts terminal increment (loops_to stmts label) d ≡ cond (eqb (length (loops_above stmts label d)) 0) (met stmts (terminal + 1)) (increment + (length (loops_to stmts label) - length (loops_above stmts label d)))
  exit-by_rank d increment inside is =
      let a = ends_among stmts label d (length stmts) inside is in
      among-exit stmts label d a terminal increment
      ∙ after-empty (increment + length a.inner) (reverse (loops_above stmts label d))
      ∙ ap (λ n. cond (eqb n 0) (met stmts (terminal + 1)) (increment + length a.inner + 1)) (length-reverse (loops_above stmts label d))
      ∙ ap (λ n. cond (eqb (length (loops_above stmts label d)) 0) (met stmts (terminal + 1)) n) (omega (arith, among-length stmts label d a))

-- a DO further down has more above it
pub ends-more : (stmts : List Labelled) (label c d : ℕ) → is_do_in label (slice_get stmts c) ≡ true → c < d → length (loops_above stmts label c) < length (loops_above stmts label d)
ends-more stmts label c d is above = omega (arith, among-length stmts label c (ends_among stmts label c d above is), length-reverse (loops_above stmts label d))

-- ---- what is looked up in the tables

pub when_false-is : (stmts : List Labelled) (place end : ℕ) (b : Bool) → end ≡ end_of_arm stmts place → is_else_at (slice_get stmts end) ≡ b → cond b (met stmts (end + 1)) (first_of stmts end) ≡ when_false stmts place
when_false-is stmts place end b is other =
    sym (ap (λ e. cond (is_else_at (slice_get stmts e)) (met stmts (e + 1)) (first_of stmts e)) (sym is) ∙ ap (λ b. cond b (met stmts (end + 1)) (first_of stmts end)) other)

-- the executables up to and with a statement's
pub executables-within : (stmts : List Labelled) (place : ℕ) (s : Labelled) → place < length stmts → s ≡ get_or stmts place s → first_of stmts place + (own_executables s.stmt + length (loops_to stmts s.label)) ≤ sum_by (executables_with_ends stmts) stmts
executables-within stmts place s inside is =
    let more = sum_by_more_le (executables_with_ends stmts) stmts place s inside in
    omega (arith, more, ap (executables_with_ends stmts) is)

module _ (stmts : List Labelled) (label place : ℕ) (inside : place < length stmts) (is : is_do_in label (slice_get stmts place) ≡ true) where
  pub exit-outermost : length (loops_above stmts label place) ≡ 0 → met stmts (statement_of stmts label + 1) ≡ exit_of stmts label place
  exit-outermost none =
      let terminal = statement_of stmts label in
      let increment = increments_at stmts terminal (slice_get stmts terminal) in
      sym (exit-by_rank stmts label terminal place increment inside is ∙ ap (λ b. cond b (met stmts (terminal + 1)) (increment + (length (loops_to stmts label) - length (loops_above stmts label place)))) (eq-eqb _ 0 none))

  pub exit-inner : (s : Labelled) → slice_get stmts (statement_of stmts label) ≡ Some s → 0 < length (loops_above stmts label place) → first_of stmts (statement_of stmts label) + own_executables s.stmt + (length (loops_to stmts label) - length (loops_above stmts label place)) ≡ exit_of stmts label place
  exit-inner s at some =
      let terminal = statement_of stmts label in
      let increment = increments_at stmts terminal (slice_get stmts terminal) in
      sym (exit-by_rank stmts label terminal place increment inside is
      ∙ ap (λ b. cond b (met stmts (terminal + 1)) (increment + (length (loops_to stmts label) - length (loops_above stmts label place)))) (ne_eqb _ 0 (λ e. absurd (omega arith)))
      ∙ ap (λ o. increments_at stmts terminal o + (length (loops_to stmts label) - length (loops_above stmts label place))) at)

-- ranks of DOs
pub rank-do : (stmts : List Labelled) (label place : ℕ) → is_do_in label (slice_get stmts place) ≡ true → rank stmts place ≡ length (loops_above stmts label place)
rank-do stmts label place is = by (slice_get stmts place) is
  where
    of : (stmt : Stmt) → is_do_to label stmt ≡ true → rank_of stmts place stmt ≡ length (loops_above stmts label place)
    of (Do terminal variable first last step) e = ap (λ l. length (loops_above stmts l place)) (eqb-true terminal label e)
    of _ e = let h : false ≡ true = e in absurd cc

    by : (o : Option Labelled) → is_do_in label o ≡ true → rank_at stmts place o ≡ length (loops_above stmts label place)
    by None e = let h : false ≡ true = e in absurd cc
    by (Some s) e = of s.stmt e

-- the exit of a DO in numbers that are looked up
pub record IsExit (stmts : List Labelled) (label place first own len outer : ℕ) : Type 0 where
  pub inner : outer < len
  pub fits : first + own + len ≤ sum_by (executables_with_ends stmts) stmts
  pub exit : 0 < outer → first + own + (len - outer) ≡ exit_of stmts label place

pub exit-numbers : (stmts : List Labelled) (label place first own len outer : ℕ) (s : Labelled) → place < length stmts → is_do_in label (slice_get stmts place) ≡ true → slice_get stmts (statement_of stmts label) ≡ Some s → first ≡ first_of stmts (statement_of stmts label) → own ≡ own_executables s.stmt → len ≡ length (loops_above stmts label (length stmts)) → outer ≡ length (loops_above stmts label place) → IsExit stmts label place first own len outer
exit-numbers stmts label place first own len outer s inside is at first_is own_is len_is outer_is =
    let terminal = statement_of stmts label in
    let all = length-reverse (loops_above stmts label (length stmts)) in
    let there = slice_get_within stmts terminal s at in
    let same : s ≡ get_or stmts terminal s = sym (get_or_from_slice_get stmts terminal s s at) in
    let e = executables-within stmts terminal s there same in
    let l = ap (λ k. length (loops_to stmts k)) (label-of_statement stmts label s at) in
    record {
      inner = omega (arith, ends-more stmts label place (length stmts) is inside);
      fits = omega (arith, e, l, all);
      exit = λ some.
          let value = exit-inner stmts label place inside is s at (omega arith) in
          omega (arith, value, all);
    }
