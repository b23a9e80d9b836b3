-- What stands for a statement begins behind what stands for those before it.
use Rattle.std.proofs.Common.{◌≡◌, ℕ, zero, suc, ◌+◌, ◌-◌, ◌<◌, ◌≤◌, ⊎_elim, Bool, true, false, ◌&&◌, cond, List, [], ◌∷◌, length, filter, reverse, Option, Some, None, refl, sym, ap, ◌∙◌, arith}
use Rattle.std.specs.List.{slice_get, list_all, range_with_len}
use Rattle.std.proofs.lemmas.Bool.{and_from, and_parts, cases_order}
use Rattle.std.proofs.lemmas.List.{reverse-append}
use Rattle.std.proofs.lemmas.List.Folds.{list_all-append}
use Rattle.f77_tree.specs.declared.statements.Labelled.{Labelled}
use Rattle.layout_rules.specs.Executables.{is_do_in, is_do_to, loops_to}
use Rattle.program_units.specs.Units.{unit_at}
use Rattle.program_units.specs.Widths.{is_kept}
use Rattle.program_units.specs.Copies.{Context}
use Rattle.program_units.specs.ListedCopies.{piece_at}
use Rattle.called_runs.proofs.Grounds.{AreLaid, IsCopied}
use Rattle.called_runs.proofs.LastPieces.{last-one}

-- ---- lists

pub item-at : (xs : List Labelled) (i : ℕ) → i < length xs → (s : Labelled) × (slice_get xs i ≡ Some s)
item-at [] i below = absurd (omega (arith, below))
item-at (x ∷ xs) zero below = (x, refl)
item-at (x ∷ xs) (suc i) below = item-at xs i (omega (arith, below))

all-filter : (p : ℕ → Bool) (xs : List ℕ) → list_all p (filter p xs) ≡ true
all-filter p [] = refl
all-filter p (x ∷ xs) = by_test (p x) refl (all-filter p xs)
  where
    by_test : (b : Bool) → p x ≡ b → list_all p (filter p xs) ≡ true → list_all p (cond b (x ∷ filter p xs) (filter p xs)) ≡ true
    by_test true is rest = and_from (p x) (list_all p (filter p xs)) is rest
    by_test false is rest = rest

all-reverse : (p : ℕ → Bool) (xs : List ℕ) → list_all p xs ≡ true → list_all p (reverse xs) ≡ true
all-reverse p [] all = refl
all-reverse p (x ∷ xs) all =
    let both = and_parts (p x) (list_all p xs) all in
    ap (λ (ys : List ℕ). list_all p ys) (reverse-append (x ∷ []) xs)
    ∙ list_all-append p (reverse xs) (x ∷ [])
    ∙ and_from (list_all p (reverse xs)) (p x && true) (all-reverse p xs both.1) (and_from (p x) true both.0 refl)

got-passes : (p : ℕ → Bool) (xs : List ℕ) (i x : ℕ) → list_all p xs ≡ true → slice_get xs i ≡ Some x → p x ≡ true
got-passes p [] i x all is = let e : None ≡ Some x = is in absurd cc
got-passes p (y ∷ xs) zero x all is =
    let e : Some y ≡ Some x = is in
    let same : y ≡ x = cc in
    ap p (sym same) ∙ (and_parts (p y) (list_all p xs) all).0
got-passes p (y ∷ xs) (suc i) x all is = got-passes p xs i x (and_parts (p y) (list_all p xs) all).1 is

-- each of the DOs that end at a label is one
pub loop-does : (stmts : List Labelled) (label i d : ℕ) → slice_get (loops_to stmts label) i ≡ Some d → is_do_in label (slice_get stmts d) ≡ true
loop-does stmts label i d is =
    let p : ℕ → Bool = λ k. is_do_in label (slice_get stmts k) in
    got-passes p (loops_to stmts label) i d (all-reverse p (filter p (range_with_len 0 (length stmts))) (all-filter p (range_with_len 0 (length stmts)))) is

pub record IsDo (stmts : List Labelled) (label d : ℕ) : Type 0 where
  pub s : Labelled
  pub is : slice_get stmts d ≡ Some s
  pub does : is_do_to label s.stmt ≡ true

pub is-do : (stmts : List Labelled) (label d : ℕ) → is_do_in label (slice_get stmts d) ≡ true → IsDo stmts label d
is-do stmts label d does = by_item (slice_get stmts d) refl does
  where
    by_item : (o : Option Labelled) → slice_get stmts d ≡ o → is_do_in label o ≡ true → IsDo stmts label d
    by_item None is does = let e : false ≡ true = does in absurd cc
    by_item (Some s) is does = record { s = s; is = is; does = does }

-- ---- places

module _ (us : List (List Labelled)) (list : List Labelled) (laid : AreLaid us list) (c : Context) (at : ℕ → ℕ) (held : IsCopied us list c at) where
  abbrev unit : List Labelled
  unit = unit_at us c.unit

  pub at-next : (place : ℕ) (s : Labelled) → slice_get unit place ≡ Some s → at place + length (piece_at us c place s) ≤ at (place + 1)
  at-next place s is = let next = (held.stands.next place s is).behind in omega (arith, next)

  pub at-rises : (n place : ℕ) → place + n ≤ length unit → at place ≤ at (place + n)
  at-rises zero place within = let e : at place ≡ at (place + 0) = ap at (let z : place ≡ place + 0 = omega arith in z) in omega (arith, e)
  at-rises (suc n) place within =
      let here = item-at unit (place + n) (omega (arith, within)) in
      let last = at-next (place + n) here.0 here.1 in
      let rest = at-rises n place (omega (arith, within)) in
      let same : at (place + suc n) ≡ at (place + n + 1) = ap at (let e : place + suc n ≡ place + n + 1 = omega arith in e) in
      omega (arith, last, rest, same)

  pub at-apart : (place other : ℕ) (s : Labelled) → slice_get unit place ≡ Some s → is_kept c.unit s.stmt ≡ true → place < other → other ≤ length unit → at place < at other
  at-apart place other s is kept below within =
      let some = (last-one us list laid c at held place s is kept).some in
      let next = at-next place s is in
      let rest = at-rises (other - (place + 1)) (place + 1) (omega (arith, below, within)) in
      let same : at (place + 1 + (other - (place + 1))) ≡ at other = ap at (let e : place + 1 + (other - (place + 1)) ≡ other = omega (arith, below) in e) in
      omega (arith, some, next, rest, same)

  pub at-same : (place other : ℕ) (s t : Labelled) → slice_get unit place ≡ Some s → slice_get unit other ≡ Some t → is_kept c.unit s.stmt ≡ true → is_kept c.unit t.stmt ≡ true → place < length unit → other < length unit → at place ≡ at other → place ≡ other
  at-same place other s t is there kept kept_too in_it in_too same =
      ⊎_elim (λ (e : place ≡ other). e) (λ o. ⊎_elim
      (λ (below : place < other). let less = at-apart place other s is kept below (omega (arith, in_too)) in absurd (omega (arith, less, same)))
      (λ (above : other < place). let less = at-apart other place t there kept_too above (omega (arith, in_it)) in absurd (omega (arith, less, same)))
      o) (cases_order place other)
