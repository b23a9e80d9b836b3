-- The list of a text is short enough to be laid out, its labels have at most five digits, and END stands last.
use Rattle.std.proofs.Common.{◌≡◌, ℕ, zero, suc, ◌+◌, ◌<◌, ◌≤◌, ◌==◌, Bool, true, false, not, cond, All, List, [], ◌∷◌, ◌++◌, length, take, drop, Option, Some, None, if◌then◌else◌, refl, sym, ap, subst, ◌∙◌, arith}
use Rattle.std.specs.Prelude.{Ok, nat_lt}
use Rattle.std.specs.List.{list_all, position_or_len, range_with_len, slice_get}
use Rattle.std.proofs.lemmas.Bool.{and_from, and_parts, eqb-true, lt-ltb, ltb-false, ltb-true}
use Rattle.std.proofs.lemmas.List.FromFn.{length-range_with_len}
use Rattle.f77_tree.specs.declared.statements.Labelled.{Labelled}
use Rattle.f77_tree.specs.declared.statements.Stmt.{Stmt}
use Rattle.f77_tree.specs.declared.statements.Stmt.TheVariants.{End}
use Rattle.layout_rules.specs.Faults.{first_answer}
use Rattle.layout_rules.specs.Order.{rank}
use Rattle.layout_rules.specs.Source.{EndsWithEnd}
use Rattle.layout_rules.proofs.FirstLine.{first_answer-append}
use Rattle.program_units.specs.declared.sub_end.SubEnd.{SubEnd}
use Rattle.program_units.specs.Copies.{Copying, copy, piece, pieces}
use Rattle.program_units.specs.Expansion.{declared_first, main_context, main_pieces, merged, total_width, whole_list}
use Rattle.program_units.specs.Refusals.{expansion, form_refusals, has_great_name, list_unless, size_refusals, unit_refusal}
use Rattle.program_units.specs.Texts.{IsText}
use Rattle.program_units.specs.Units.{unit_at, units}
use Rattle.program_units.specs.Widths.{body_labels, labels, labels_before, labels_written}
use Rattle.unit_laws.proofs.AcceptedTexts.{some-unit}
use Rattle.unit_laws.proofs.NoAnswer.{answer-none}
use Rattle.unit_laws.proofs.CopyWidths.{whole_length}
use Rattle.unit_laws.proofs.PieceLabels.{whole-labels}
use Rattle.unit_laws.proofs.SizesMet.{none-wide}
use Rattle.unit_laws.proofs.UnitSources.{IsUnit, LastIsEnd, all-of, from-last, last-more, text-unit}
use Rattle.program_units.proofs.UnitsMet.{unit-there}

-- ---- what an answer tells

same-list : (w list : List Labelled) → list_unless None w ≡ Ok list → w ≡ list
same-list w list is = let e : list_unless None w ≡ Ok list = is in cc

pub none-refuses : (o : Option SubEnd) (w list : List Labelled) → list_unless o w ≡ Ok list → (o ≡ None) × (w ≡ list)
none-refuses None w list is = (refl, same-list w list is)
none-refuses (Some end) w list is = absurd cc

pub accepted-narrow : (stmts : List Labelled) (checked : Bool) → unit_refusal stmts checked ≡ None → total_width (units stmts) ≤ 4000
accepted-narrow stmts checked accepted =
    let us : List (List Labelled) = units stmts in
    let both = answer-none (first_answer (λ r. r) (form_refusals stmts us checked)) (first_answer (λ r. r) (size_refusals us)) (sym (first_answer-append (λ r. r) (form_refusals stmts us checked) (size_refusals us)) ∙ accepted) in
    few us 4000 (none-wide us (nat_lt 4000 (total_width us)) (has_great_name us) both.1)
  where
    few : (us : List (List Labelled)) (most : ℕ) → nat_lt most (total_width us) ≡ false → total_width us ≤ most
    few us most none = ltb-false most (total_width us) none

-- ---- labels

pub written-few : (xs : List Labelled) → length (labels_written xs) ≤ length xs
written-few [] = omega arith
written-few (s ∷ rest) = by (s.label == 0) (written-few rest)
  where
    by : (b : Bool) → length (labels_written rest) ≤ length rest → length (if b then labels_written rest else s.label ∷ labels_written rest) ≤ suc (length rest)
    by true few = omega (arith, few)
    by false few = omega (arith, few)

all-below : (top a n : ℕ) → a + n ≤ top → list_all (λ l. nat_lt l top) (range_with_len a n) ≡ true
all-below top a zero fits = refl
all-below top a (suc n) fits =
    and_from (nat_lt a top) (list_all (λ l. nat_lt l top) (range_with_len (a + 1) n)) (lt-ltb a top (omega (arith, fits))) (all-below top (a + 1) n (omega (arith, fits)))

label-below : (top : ℕ) → 0 < top → (xs : List Labelled) → list_all (λ l. nat_lt l top) (labels_written xs) ≡ true → (j : ℕ) (s : Labelled) → slice_get xs j ≡ Some s → s.label < top
label-below top some [] all j s here = let e : None ≡ Some s = here in absurd cc
label-below top some (x ∷ xs) all j s here = by (x.label == 0) refl all j here (λ rest i e. label-below top some xs rest i s e)
  where
    first : (l : ℕ) → x.label ≡ l → l < top → Some x ≡ Some s → s.label < top
    first l is below e = let same : x ≡ s = cc in let f : x.label ≡ s.label = ap (λ (t : Labelled). t.label) same in omega (arith, is, below, f)

    by : (b : Bool) → (x.label == 0) ≡ b → list_all (λ l. nat_lt l top) (if b then labels_written xs else x.label ∷ labels_written xs) ≡ true → (j : ℕ) → slice_get (x ∷ xs) j ≡ Some s
        → (list_all (λ l. nat_lt l top) (labels_written xs) ≡ true → (i : ℕ) → slice_get xs i ≡ Some s → s.label < top) → s.label < top
    by true zero_is rest zero e more = first 0 (eqb-true x.label 0 zero_is) some e
    by true zero_is rest (suc j) e more = more rest j e
    by false other rest zero e more = first x.label refl (ltb-true x.label top (and_parts (nat_lt x.label top) (list_all (λ l. nat_lt l top) (labels_written xs)) rest).0) e
    by false other rest (suc j) e more = more (and_parts (nat_lt x.label top) (list_all (λ l. nat_lt l top) (labels_written xs)) rest).1 j e

pub labels-few : (us : List (List Labelled)) (top : ℕ) → length (whole_list us) + 1 < top → (j : ℕ) (s : Labelled) → slice_get (whole_list us) j ≡ Some s → s.label < top
labels-few us top fits j s here =
    let n : ℕ = body_labels us (suc (length us)) 0 in
    let long : length (labels_written (whole_list us)) ≡ n = ap length (whole-labels us) ∙ length-range_with_len 1 n in
    let few = written-few (whole_list us) in
    let all : list_all (λ l. nat_lt l top) (labels_written (whole_list us)) ≡ true = ap (list_all (λ l. nat_lt l top)) (whole-labels us) ∙ all-below top 1 n (omega (arith, long, few, fits)) in
    label-below top (omega (arith, fits)) (whole_list us) all j s here

-- ---- END

last-behind : (xs ys : List Labelled) → LastIsEnd ys → LastIsEnd (xs ++ ys)
last-behind [] ys e = e
last-behind (x ∷ xs) ys e = last-more x (xs ++ ys) (last-behind xs ys e)

abbrev is_late : Labelled → Bool
is_late s = nat_lt 2 (rank s.stmt)

late-end : (s : Labelled) → s.stmt ≡ End → is_late s ≡ true
late-end s is = ap (λ (t : Stmt). nat_lt 2 (rank t)) is

late-part : (u : List Labelled) → LastIsEnd u → LastIsEnd (drop (position_or_len is_late u) u)
late-part [] e = absurd e
late-part (s ∷ []) e = subst (λ (b : Bool). LastIsEnd (drop (cond (not b) (1 + 0) 0) (s ∷ []))) (sym (late-end s e)) e
late-part (s ∷ t ∷ rest) e = by (is_late s) (late-part (t ∷ rest) e)
  where
    by : (b : Bool) → LastIsEnd (drop (position_or_len is_late (t ∷ rest)) (t ∷ rest)) → LastIsEnd (drop (cond (not b) (1 + position_or_len is_late (t ∷ rest)) 0) (s ∷ t ∷ rest))
    by true more = e
    by false more =
        let n : ℕ = position_or_len is_late (t ∷ rest) in
        let step : suc n ≡ 1 + n = omega arith in
        subst (λ (k : ℕ). LastIsEnd (drop k (s ∷ t ∷ rest))) step more

module _ (us : List (List Labelled)) (body : Copying) where
  end-piece : (m label line : ℕ) (stmt : Stmt) → stmt ≡ End → LastIsEnd (piece body us (main_context us) m (record { label = label; line = line; stmt = stmt }) ++ [])
  end-piece m label line stmt is = subst (λ (t : Stmt). LastIsEnd (piece body us (main_context us) m (record { label = label; line = line; stmt = t }) ++ [])) (sym is) refl

  last-piece : (before : ℕ) (u : List Labelled) → LastIsEnd u → LastIsEnd (pieces body us (main_context us) before u)
  last-piece before [] e = absurd e
  last-piece before (s ∷ []) e = end-piece (0 + before + 1) s.label s.line s.stmt e
  last-piece before (s ∷ t ∷ rest) e = last-behind (piece body us (main_context us) (0 + before + 1) s) (pieces body us (main_context us) (before + labels (body_labels us (length us)) us 0 s) (t ∷ rest)) (last-piece (before + labels (body_labels us (length us)) us 0 s) (t ∷ rest) e)

whole-last : (us : List (List Labelled)) → LastIsEnd (unit_at us 0) → LastIsEnd (whole_list us)
whole-last us e =
    let main = unit_at us 0 in
    let p = declared_first main in
    let before = labels_before us (length us) 0 p in
    let front = main_pieces us 0 (take p main) in
    last-behind (front ++ merged us) (main_pieces us before (drop p main)) (last-piece us (copy us (length us)) before (drop p main) (late-part main e))

-- ---- a text

module _ (stmts list : List Labelled) (checked : Bool) (text : IsText stmts) (made : expansion stmts checked ≡ Ok list) where
  abbrev us : List (List Labelled)
  us = units stmts

  told : (unit_refusal stmts checked ≡ None) × (whole_list us ≡ list)
  told = none-refuses (unit_refusal stmts checked) (whole_list us) list made

  whole-few : length (whole_list us) ≤ 4000
  whole-few = let e = whole_length us in let f = accepted-narrow stmts checked told.0 in omega (arith, e, f)

  pub list-few : length list ≤ 4000
  list-few = subst (λ (xs : List Labelled). length xs ≤ 4000) told.1 whole-few

  pub fits : (top : ℕ) → 4001 < top → length (whole_list us) + 1 < top
  fits top room = let f = whole-few in omega (arith, f, room)

  pub list-labels : All (λ s. s.label ≤ 99999) list
  list-labels = subst (λ (xs : List Labelled). All (λ s. s.label ≤ 99999) xs) told.1 (all-of (λ s. s.label ≤ 99999) (whole_list us) (λ j s here. below s.label 99999 (labels-few us 100000 (fits 100000 (omega arith)) j s here)))
    where
      below : (a n : ℕ) → a < n + 1 → a ≤ n
      below a n less = omega (arith, less)

  main-ends : LastIsEnd (unit_at us 0)
  main-ends = IsUnit.ended (text-unit stmts text 0 (unit_at us 0) (unit-there us 0 (some-unit stmts text.ended)))

  pub list-ended : EndsWithEnd list
  list-ended = subst EndsWithEnd told.1 (from-last (whole_list us) (whole-last us main-ends))
