-- Tables of edges, row after row.
use Rattle.std.proofs.Common.{◌≡◌, ◌≢◌, ℕ, ◌+◌, ◌<◌, ◌≤◌, Bool, true, false, ◌==◌, ◌||◌, ◌&&◌, refl, sym, ap, ◌∙◌, ⊎_elim, arith}
use Rattle.std.specs.Prelude.{nat_lt}
use Rattle.std.proofs.lemmas.Bool.{cases_eq, cases_lt}
use Rattle.std.proofs.lemmas.Bool.Decides.{nat_tests}
use Rattle.class_set.specs.ClassSet.{holds}
use Rattle.class_set.specs.declared.ClassSet.{ClassSet}
use Rattle.set_columns.specs.Marks.{marked}
use Rattle.set_columns.specs.declared.columns.Columns.{Columns}
use Rattle.graph_texts.specs.EdgeTables.{IsTableOf}

-- So many edges are marked where they pass the test, and no others.
pub record AreMarked (lines edges : ℕ) (test : (line edge : ℕ) → Bool) (count : ℕ) (t : Columns) : Type 0 where
  pub columns : t.columns ≡ lines
  pub rows : t.rows ≡ edges
  pub marks : (line edge : ℕ) → line < lines → marked t line edge ≡ (nat_lt edge count && test line edge)

module _ (lines edges : ℕ) (test : (line edge : ℕ) → Bool) where
  pub none_yet : (t : Columns) → t.columns ≡ lines → t.rows ≡ edges → ((line edge : ℕ) → marked t line edge ≡ false) → AreMarked lines edges test 0 t
  none_yet t columns rows none = record {
    columns = columns;
    rows = rows;
    marks = λ line edge within.
        let low : nat_lt edge 0 ≡ false = grind (arith, nat_tests) in
        none line edge ∙ sym (rw low refl);
  }

  -- one row more
  one_more : (row line edge : ℕ) → ((edge == row && test line row) || (nat_lt edge row && test line edge)) ≡ (nat_lt edge (row + 1) && test line edge)
  one_more row line edge = ⊎_elim
      (λ (h : edge < row).
      let a : (edge == row) ≡ false = grind (arith, nat_tests) in
      let b : nat_lt edge row ≡ true = grind (arith, nat_tests) in
      let c : nat_lt edge (row + 1) ≡ true = grind (arith, nat_tests) in
      rw (a, b, c) refl)
      (λ (h : row ≤ edge). ⊎_elim
      (λ (same : edge ≡ row).
      let a : (edge == row) ≡ true = grind (arith, nat_tests) in
      let b : nat_lt edge row ≡ false = grind (arith, nat_tests) in
      let c : nat_lt edge (row + 1) ≡ true = grind (arith, nat_tests) in
      rw (a, b, c) (or_false (test line row) ∙ ap (test line) (sym same)))
      (λ (differ : edge ≢ row).
      let a : (edge == row) ≡ false = grind (arith, nat_tests) in
      let b : nat_lt edge row ≡ false = grind (arith, nat_tests) in
      let c : nat_lt edge (row + 1) ≡ false = grind (arith, nat_tests) in
      rw (a, b, c) refl)
      (cases_eq edge row))
      (cases_lt edge row)
    where
      or_false : (b : Bool) → (b || false) ≡ b
      or_false false = refl
      or_false true = refl

  pub row_more : {W : ℕ} (row : ℕ) (set : ClassSet W) (old new : Columns) → AreMarked lines edges test row old → new.columns ≡ old.columns → new.rows ≡ old.rows
      → ((line : ℕ) → line < lines → holds set line ≡ test line row) → ((line edge : ℕ) → marked new line edge ≡ ((edge == row && holds set line) || marked old line edge)) → AreMarked lines edges test (row + 1) new
  row_more row set old new before columns rows has marks = record {
    columns = columns ∙ before.columns;
    rows = rows ∙ before.rows;
    marks = λ line edge within.
        marks line edge
        ∙ ap (λ b. (edge == row && b) || marked old line edge) (has line within)
        ∙ ap (λ b. (edge == row && test line row) || b) (before.marks line edge within)
        ∙ one_more row line edge;
  }

  pub all_rows : (count : ℕ) (t : Columns) → edges ≤ count → AreMarked lines edges test count t → IsTableOf lines edges test t
  all_rows count t end are = record {
    columns = are.columns;
    marks = λ line edge within below.
        let low : nat_lt edge count ≡ true = grind (arith, nat_tests) in
        are.marks line edge within ∙ rw low refl;
  }
