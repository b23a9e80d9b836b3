-- The labels of the pieces of a copy, and of the whole list.
use Rattle.std.proofs.Common.{◌≡◌, ℕ, suc, ◌+◌, ◌<◌, ◌≤◌, ◌==◌, Bool, true, List, [], ◌∷◌, ◌++◌, take, drop, length, Some, if◌then◌else◌, sum_by, refl, sym, ap, subst, ◌∙◌, arith}
use Rattle.std.specs.List.{slice_get, range_with_len, list_all}
use Rattle.std.proofs.lemmas.Bool.{and_parts}
use Rattle.std.proofs.lemmas.List.{append-nil, take-take}
use Rattle.std.proofs.lemmas.List.Sums.{sum_by-take-drop, sum_by-take-le}
use Rattle.f77_tree.specs.declared.statements.Labelled.{Labelled}
use Rattle.program_units.specs.Units.{unit_at}
use Rattle.program_units.specs.Widths.{labels, body_labels, labels_before, labels_written}
use Rattle.program_units.specs.Copies.{Context, number_at, copy}
use Rattle.program_units.specs.Expansion.{merged, declared_first, main_context, main_pieces, whole_list}
use Rattle.program_units.specs.ListedCopies.{piece_at}
use Rattle.unit_laws.proofs.CopyLabels.{row_split, written-append, piece_labels, pieces_labels, copy_labels}
use Rattle.unit_laws.proofs.Having.{sum-next}
use Rattle.unit_laws.proofs.MergedDeclared.{merged-unlabelled}

module _ (us : List (List Labelled)) (c : Context) where
  abbrev unit : List Labelled
  unit = unit_at us c.unit

  abbrev number : ℕ → ℕ
  number place = number_at us c.depth c.unit c.base place

  abbrev count : Labelled → ℕ
  count = labels (body_labels us c.depth) us c.unit

  pub piece-labels : (place : ℕ) (s : Labelled) → labels_written (piece_at us c place s) ≡ range_with_len (number place) (count s)
  piece-labels place s = piece_labels us (copy us c.depth) c (copy_labels us c.depth) (number place) s (let e : 0 < number place = omega arith in e)

  -- more of a unit has as many labels at least
  pub before-mono : (place other : ℕ) → place ≤ other → labels_before us c.depth c.unit place ≤ labels_before us c.depth c.unit other
  before-mono place other le =
      subst (λ (xs : List Labelled). sum_by count xs ≤ sum_by count (take other unit)) (take-take place other unit le) (sum_by-take-le count (take other unit) place)

  pub number-next : (place : ℕ) (s : Labelled) → slice_get unit place ≡ Some s → number (place + 1) ≡ number place + count s
  number-next place s is = let e = sum-next count unit place s is in omega (arith, e)

  pub number-apart : (place other : ℕ) (s : Labelled) → slice_get unit place ≡ Some s → place < other → number place + count s ≤ number other
  number-apart place other s is below =
      let e = number-next place s is in
      let more = before-mono (place + 1) other (omega (arith, below)) in
      omega (arith, e, more)

  pub number-above : (place : ℕ) → c.base < number place
  number-above place = omega arith

  pub number-within : (place : ℕ) (s : Labelled) → slice_get unit place ≡ Some s → number place + count s ≤ c.base + body_labels us (suc c.depth) c.unit + 1
  number-within place s is =
      let e = number-next place s is in
      let most : labels_before us c.depth c.unit (place + 1) ≤ body_labels us (suc c.depth) c.unit = sum_by-take-le count unit (place + 1) in
      omega (arith, e, most)

pub none-written : (list : List Labelled) → list_all (λ s. s.label == 0) list ≡ true → labels_written list ≡ []
none-written [] all = refl
none-written (s ∷ rest) all =
    let both = and_parts (s.label == 0) (list_all (λ s. s.label == 0) rest) all in
    ap (λ (blank : Bool). if blank then labels_written rest else s.label ∷ labels_written rest) both.0 ∙ none-written rest both.1

pub whole-labels : (us : List (List Labelled)) → labels_written (whole_list us) ≡ range_with_len 1 (body_labels us (suc (length us)) 0)
whole-labels us =
    let n = length us in
    let main = unit_at us 0 in
    let p = declared_first main in
    let c = main_context us in
    let count = labels (body_labels us n) us 0 in
    let early = main_pieces us 0 (take p main) in
    let before = labels_before us n 0 p in
    let late = main_pieces us before (drop p main) in
    let rest = sum_by count (drop p main) in
    let first : labels_written early ≡ range_with_len 1 before = pieces_labels us (copy us n) c (copy_labels us n) 0 (take p main) ∙ ap (λ (m : ℕ). range_with_len m before) (let e : 0 + 0 + 1 ≡ 1 = refl in e) in
    let last : labels_written late ≡ range_with_len (1 + before) rest = pieces_labels us (copy us n) c (copy_labels us n) before (drop p main) ∙ ap (λ (m : ℕ). range_with_len m rest) (let e : 0 + before + 1 ≡ 1 + before = omega arith in e) in
    let all : before + rest ≡ body_labels us (suc n) 0 = sum_by-take-drop count main p in
    written-append (early ++ merged us) late
    ∙ ap (λ (ls : List ℕ). ls ++ labels_written late) (written-append early (merged us) ∙ ap (λ (ls : List ℕ). labels_written early ++ ls) (none-written (merged us) (merged-unlabelled us)) ∙ append-nil (labels_written early) ∙ first)
    ∙ ap (λ (ls : List ℕ). range_with_len 1 before ++ ls) last
    ∙ sym (row_split 1 before rest)
    ∙ ap (λ (m : ℕ). range_with_len 1 m) all
