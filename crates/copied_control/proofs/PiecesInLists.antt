-- What stands for each statement of a unit stands in the list where what stands for all of them does.
use Rattle.std.proofs.Common.{◌≡◌, ℕ, zero, suc, ◌+◌, List, [], ◌∷◌, ◌++◌, length, take, Some, None, sum_by, sym, ap, ◌∙◌, arith}
use Rattle.std.specs.List.{slice_get}
use Rattle.std.proofs.lemmas.List.{append_assoc}
use Rattle.std.proofs.lemmas.List.Sums.{sum_by-cons}
use Rattle.f77_tree.specs.declared.statements.Labelled.{Labelled}
use Rattle.program_units.specs.Units.{unit_at}
use Rattle.program_units.specs.Widths.{width, body_width, labels, body_labels}
use Rattle.program_units.specs.Copies.{Copying, Context, piece, pieces, copy}
use Rattle.program_units.specs.ListedCopies.{HasAt, piece_at}
use Rattle.unit_laws.proofs.CopyWidths.{pieces_length, copy_length}
use Rattle.unit_laws.proofs.Having.{moved, alike, has_first, has_second, sum-front}

-- the pieces, cut at one of them
cut : (body : Copying) (us : List (List Labelled)) (c : Context) (before : ℕ) (xs : List Labelled) (j : ℕ) (s : Labelled) → slice_get xs j ≡ Some s
    → (rest : List Labelled) × (pieces body us c before xs ≡ pieces body us c before (take j xs) ++ (piece body us c (c.base + (before + sum_by (labels (body_labels us c.depth) us c.unit) (take j xs)) + 1) s ++ rest))
cut body us c before [] j s is = let e : None ≡ Some s = is in absurd cc
cut body us c before (x ∷ xs) zero s is =
    let e : Some x ≡ Some s = is in
    let same : x ≡ s = cc in
    let next = before + labels (body_labels us c.depth) us c.unit x in
    let m : c.base + before + 1 ≡ c.base + (before + 0) + 1 = omega arith in
    (pieces body us c next xs, ap (λ (n : ℕ). piece body us c n x ++ pieces body us c next xs) m ∙ ap (λ (y : Labelled). piece body us c (c.base + (before + 0) + 1) y ++ pieces body us c next xs) same)
cut body us c before (x ∷ xs) (suc j) s is =
    let here = labels (body_labels us c.depth) us c.unit in
    let next = before + here x in
    let more = cut body us c next xs j s is in
    let sum = sum_by-cons here x (take j xs) in
    let m : c.base + (next + sum_by here (take j xs)) + 1 ≡ c.base + (before + sum_by here (x ∷ take j xs)) + 1 = omega (arith, sum) in
    let first = piece body us c (c.base + before + 1) x in (
      more.0,
      ap (λ (ys : List Labelled). first ++ ys) (more.1 ∙ ap (λ (n : ℕ). pieces body us c next (take j xs) ++ (piece body us c n s ++ more.0)) m)
          ∙ sym (append_assoc first (pieces body us c next (take j xs)) (piece body us c (c.base + (before + sum_by here (x ∷ take j xs)) + 1) s ++ more.0)),
    )

-- statements of a unit, what stands before them and behind them
pub record Stretch (unit : List Labelled) (xs : List Labelled) (from : ℕ) : Type 0 where
  pub front : List Labelled
  pub back : List Labelled
  pub is : unit ≡ front ++ (xs ++ back)
  pub first : length front ≡ from

module _ (us : List (List Labelled)) (list : List Labelled) (c : Context) (xs : List Labelled) (from begin : ℕ) (stretch : Stretch (unit_at us c.unit) xs from) where
  pub before : (f : Labelled → ℕ) (j : ℕ) (s : Labelled) → slice_get xs j ≡ Some s → sum_by f (take (from + j) (unit_at us c.unit)) ≡ sum_by f stretch.front + sum_by f (take j xs)
  before f j s is = grind (arith, sum_by f, sum-front f stretch.front xs stretch.back j s is)

  abbrev here : Labelled → ℕ
  here = labels (body_labels us c.depth) us c.unit

  pub piece_stands : HasAt list begin (pieces (copy us c.depth) us c (sum_by here stretch.front) xs) → (j place : ℕ) (s : Labelled) → from + j ≡ place → slice_get xs j ≡ Some s → HasAt list (begin + sum_by (width (body_width us c.depth) us c.unit) (take j xs)) (piece_at us c place s)
  piece_stands has j place s there is =
      grind (arith, cut (copy us c.depth) us c (sum_by here stretch.front) xs j s is, sum_by here stretch.front, sum_by here (take j xs), has_second list, alike list (pieces (copy us c.depth) us c (sum_by here stretch.front) xs), has_first list, sum_by (width (body_width us c.depth) us c.unit) (take j xs), pieces_length us (copy us c.depth) (body_width us c.depth) (copy_length us c.depth) c (sum_by here stretch.front) (take j xs), copy_length us c.depth, moved list (piece_at us c place s), alike list, before here j s is, sum_by here)
