-- The rows of a piece, of which those from some number on are linked.
use Rattle.std.proofs.Common.{◌≡◌, ⊎_elim, ℕ, ◌+◌, ◌<◌, ◌≤◌, List, length, set, get_or, Some, slice_get, sym, ap, ◌∙◌, subst, arith}
use Rattle.std.proofs.lemmas.Bool.{cases_eq}
use Rattle.std.proofs.lemmas.List.{get_or-set_same, get_or-set_other, length-set}
use Rattle.std.proofs.lemmas.Option.{get_or_from_slice_get, slice_get-get_or, slice_get_within}
use Rattle.op_board.specs.OperationNets.{OperationNet, operation_count}
use Rattle.operation_tables.specs.declared.rows.Row.{Row}
use Rattle.operation_tables.specs.OperationRows.{HasRows, IsCountedHop, IsHop, IsRowWith}

pub record AreHalfLinked (x : OperationNet) (piece i : ℕ) (rows : List Row) : Type 0 where
  pub front : (k : ℕ) (row : Row) → slice_get rows k ≡ Some row → k < i → IsRowWith (IsCountedHop x piece k) x piece k row
  pub back : (k : ℕ) (row : Row) → slice_get rows k ≡ Some row → i ≤ k → IsRowWith (IsHop x piece k) x piece k row

module _ (x : OperationNet) (piece : ℕ) where
  pub half_begin : (rows : List Row) (i : ℕ) → i ≡ operation_count x piece → HasRows (IsCountedHop x piece) x piece rows → AreHalfLinked x piece i rows
  half_begin rows i is has = record {
    front = λ k row at low. has.rows k row at;
    back = λ k row at high. let inside = slice_get_within rows k row at in let count = has.count in absurd (omega (arith, inside, count, is, high));
  }

  pub half_end : (rows : List Row) (i : ℕ) → i ≡ 0 → length rows ≡ operation_count x piece → AreHalfLinked x piece i rows → HasRows (IsHop x piece) x piece rows
  half_end rows i is count half = record { count = count; rows = λ k row at. half.back k row at (omega (arith, is)) }

  -- the row before those that are linked is linked
  pub half_more : (rows : List Row) (i : ℕ) (row : Row) → i < length rows → AreHalfLinked x piece (i + 1) rows → IsRowWith (IsHop x piece i) x piece i row → AreHalfLinked x piece i (set rows i row)
  half_more rows i row low half is = record {
    front = λ k other at below. half.front k other (same_other k other (λ e. omega (arith, below, e)) at) (omega (arith, below));
    back = λ k other at above. ⊎_elim
        (λ (e : k ≡ i). subst (λ (j : ℕ). IsRowWith (IsHop x piece j) x piece j other) (sym e) (subst (IsRowWith (IsHop x piece i) x piece i) (same_here k other e at) is))
        (λ apart. half.back k other (same_other k other apart at) (omega (arith, above, apart)))
        (cases_eq k i);
  }
    where
      inside : (k : ℕ) (other : Row) → slice_get (set rows i row) k ≡ Some other → k < length rows
      inside k other at = let in_set = slice_get_within (set rows i row) k other at in let size = length-set rows i row in omega (arith, in_set, size)

      same_other : (k : ℕ) (other : Row) → (k ≡ i → ⊥) → slice_get (set rows i row) k ≡ Some other → slice_get rows k ≡ Some other
      same_other k other apart at = slice_get-get_or rows k row (inside k other at) ∙ ap (λ (r : Row). Some r) (sym (get_or-set_other rows i k row row apart) ∙ get_or_from_slice_get (set rows i row) k other row at)

      same_here : (k : ℕ) (other : Row) → k ≡ i → slice_get (set rows i row) k ≡ Some other → row ≡ other
      same_here k other e at = sym (get_or-set_same rows i row row low) ∙ ap (λ j. get_or (set rows i row) j row) (sym e) ∙ get_or_from_slice_get (set rows i row) k other row at
