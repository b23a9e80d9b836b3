-- What is put, statement by statement.
use Rattle.std.proofs.Common.{◌≡◌, ℕ, zero, suc, ◌+◌, ◌-◌, ◌<◌, ◌≤◌, ◌⊎◌, inl, inr, List, [], ◌∷◌, ◌++◌, Some, refl, slice_get, length, get_or, drop, sym, ap, ◌∙◌, arith, append_assoc, drop-cons}
use Rattle.std.proofs.lemmas.List.{append-nil, drop_all}
use Rattle.std.proofs.lemmas.List.Sums.{sum_by-cons}
use Rattle.std.proofs.lemmas.Option.{slice_get_past}
use Rattle.f77_tree.specs.declared.statements.Labelled.{Labelled}
use Rattle.inlined_copies.specs.declared.unit_table.UnitTable.{UnitTable}
use Rattle.program_units.specs.Units.{unit_at}
use Rattle.program_units.specs.Widths.{labels}
use Rattle.program_units.specs.Copies.{Change}
use Rattle.inlined_copies.specs.Changes.{change_by}
use Rattle.inlined_copies.specs.LabelCounts.{count_at, labels_of}
use Rattle.inlined_copies.specs.PutCopies.{Putting, put_copy, put_piece, put_pieces, put_unit}

-- the rest of the statements from a place on
pub rest-at : (stmts : List Labelled) (i : ℕ) (s : Labelled) → i < length stmts → s ≡ get_or stmts i s → drop i stmts ≡ s ∷ drop (i + 1) stmts
rest-at stmts i s inside is =
    let next : suc i ≡ i + 1 = omega arith in
    let front : drop i stmts ≡ get_or stmts i s ∷ drop (suc i) stmts = drop-cons stmts i s inside in
    front ∙ ap (λ (x : Labelled). x ∷ drop (suc i) stmts) (sym is) ∙ ap (λ (n : ℕ). s ∷ drop n stmts) next

module _ (us : List (List Labelled)) (counts : List ℕ) (k : ℕ) (stmts : List Labelled) (i : ℕ) (s : Labelled) (inside : i < length stmts) (is : s ≡ get_or stmts i s) where
  pub labels-split : labels_of us counts k (drop i stmts) ≡ labels (count_at counts) us k s + labels_of us counts k (drop (i + 1) stmts)
  labels-split = ap (labels_of us counts k) (rest-at stmts i s inside is) ∙ sum_by-cons (labels (count_at counts) us k) s (drop (i + 1) stmts)

  pub put-next : (body : Putting) (c : Change) (before : ℕ) (out more : List Labelled) → more ≡ out ++ put_piece us counts body k c (before + 1) s
      → more ++ put_pieces us counts body k c (before + labels (count_at counts) us k s) (drop (i + 1) stmts) ≡ out ++ put_pieces us counts body k c before (drop i stmts)
  put-next body c before out more put =
      let next = put_pieces us counts body k c (before + labels (count_at counts) us k s) (drop (i + 1) stmts) in
      ap (λ (xs : List Labelled). xs ++ next) put
      ∙ append_assoc out (put_piece us counts body k c (before + 1) s) next
      ∙ ap (λ (xs : List Labelled). out ++ put_pieces us counts body k c before xs) (sym (rest-at stmts i s inside is))

-- all statements were put
pub put-end : (us : List (List Labelled)) (counts : List ℕ) (k : ℕ) (body : Putting) (c : Change) (stood : ℕ) (stmts : List Labelled) (i : ℕ) (out all : List Labelled) → length stmts ≤ i → out ++ put_pieces us counts body k c stood (drop i stmts) ≡ all → out ≡ all
put-end us counts k body c stood stmts i out all past same =
    sym (append-nil out) ∙ ap (λ (xs : List Labelled). out ++ put_pieces us counts body k c stood xs) (sym (drop_all i stmts past)) ∙ same

-- ---- the copy of a unit

module _ (us : List (List Labelled)) (counts : List ℕ) (tables : List UnitTable) (k : ℕ) (arguments : List (List ℕ)) (base : ℕ) where
  pub put-deep : (depth : ℕ) (table : UnitTable) → 0 < depth → slice_get tables k ≡ Some table
      → put_copy us counts tables depth k arguments base ≡ put_pieces us counts (put_copy us counts tables (depth - 1)) k (change_by table arguments base) base (unit_at us k)
  put-deep zero table some stands = absurd (omega (arith, some))
  put-deep (suc d) table some stands =
      let e : d ≡ suc d - 1 = omega arith in
      ap (put_unit us counts (put_copy us counts tables d) k arguments base) stands
      ∙ ap (λ (n : ℕ). put_pieces us counts (put_copy us counts tables n) k (change_by table arguments base) base (unit_at us k)) e

  pub put-none : (depth : ℕ) → (depth ≡ 0) ⊎ (length tables ≤ k) → put_copy us counts tables depth k arguments base ≡ []
  put-none zero either = refl
  put-none (suc d) (inl e) = absurd (omega (arith, e))
  put-none (suc d) (inr past) = ap (put_unit us counts (put_copy us counts tables d) k arguments base) (slice_get_past tables k past)

  pub put-nothing : (depth : ℕ) (out : List Labelled) → (depth ≡ 0) ⊎ (length tables ≤ k) → out ≡ out ++ put_copy us counts tables depth k arguments base
  put-nothing depth out either = sym (ap (λ (xs : List Labelled). out ++ xs) (put-none depth either) ∙ append-nil out)
