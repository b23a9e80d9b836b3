-- What the row of an operation tells, where that is known to be true.
use Rattle.std.proofs.Common.{◌≡◌, ◌<◌, ℕ, ℤ, List, [], ◌∷◌, length, get_or, map, Option, Some, None, slice_get, refl, sym, ap, ◌∙◌, arith}
use Rattle.std.proofs.Math.Logic.{∥∥₁_elim, ∥∥₁_map}
use Rattle.std.proofs.Props.{props}
use Rattle.std.specs.Option.{option_map}
use Rattle.std.proofs.lemmas.List.{length-map}
use Rattle.std.proofs.lemmas.Option.{slice_get-map, slice_get_read}
use Rattle.op_board.specs.OperationNets.{OperationNet, needed, operation_at}
use Rattle.op_board.specs.Operations.{Operand, Known, From}
use Rattle.operation_lists.specs.Seen.{operand_seen}
use Rattle.operation_lists.specs.declared.operations.Operand as kept
use Rattle.operation_tables.specs.OperationRows.{IsHop, IsRow, first_three}
use Rattle.operation_tables.specs.declared.hops.Hop.{Hop}
use Rattle.operation_tables.specs.declared.rows.Row.{Row}

-- ---- operands as pairs, of which an equation has one proof

abbrev as_pair : Operand → Option ℤ × ℕ
as_pair (Known z) = (Some z, 0)
as_pair (From number) = (None, number)

abbrev of_pair : Option ℤ → ℕ → Operand
of_pair (Some z) number = Known z
of_pair None number = From number

abbrev back : List (Option ℤ × ℕ) → List Operand
back [] = []
back (pair ∷ pairs) = of_pair pair.0 pair.1 ∷ back pairs

same_pair : (operand : Operand) → of_pair (as_pair operand).0 (as_pair operand).1 ≡ operand
same_pair (Known z) = refl
same_pair (From number) = refl

same_operands : (operands : List Operand) → back (map as_pair operands) ≡ operands
same_operands [] = refl
same_operands (operand ∷ operands) = ap (λ o. o ∷ back (map as_pair operands)) (same_pair operand) ∙ ap (λ os. operand ∷ os) (same_operands operands)

module _ (x : OperationNet) (piece i : ℕ) (row : Row) (is : ∥ IsRow x piece i row ∥₁) where
  pairs_same : map as_pair (map operand_seen row.operands.items) ≡ map as_pair (operation_at x piece i).operands
  pairs_same = ∥∥₁_elim is (Prim.hlevel props) (λ (r : IsRow x piece i row). ap (map as_pair) r.operands)

  pub row_operands : map operand_seen row.operands.items ≡ (operation_at x piece i).operands
  row_operands = sym (same_operands (map operand_seen row.operands.items)) ∙ ap back pairs_same ∙ same_operands (operation_at x piece i).operands

  few_pairs : map as_pair (map operand_seen row.few) ≡ map as_pair (first_three (operation_at x piece i).operands)
  few_pairs = ∥∥₁_elim is (Prim.hlevel props) (λ (r : IsRow x piece i row). ap (map as_pair) r.few)

  pub row_few : map operand_seen row.few ≡ first_three (operation_at x piece i).operands
  row_few = sym (same_operands (map operand_seen row.few)) ∙ ap back few_pairs ∙ same_operands (first_three (operation_at x piece i).operands)

  pub row_lines : map (λ (hop : Hop). hop.line) row.hops.items ≡ needed x piece i
  row_lines = ∥∥₁_elim is (Prim.hlevel props) (λ (r : IsRow x piece i row). r.lines)

  pub row_line_count : length row.hops.items ≡ length (needed x piece i)
  row_line_count = sym (length-map row.hops.items (λ (hop : Hop). hop.line)) ∙ ap length row_lines

  pub row_line_at : (j : ℕ) (hop : Hop) → j < length (needed x piece i) → hop ≡ get_or row.hops.items j hop → slice_get (needed x piece i) j ≡ Some hop.line
  row_line_at j hop low at =
      let count = row_line_count in
      ap (λ (lines : List ℕ). slice_get lines j) (sym row_lines)
      ∙ slice_get-map (λ (hop : Hop). hop.line) row.hops.items j
      ∙ ap (option_map (λ (hop : Hop). hop.line)) (slice_get_read row.hops.items (length row.hops.items) j hop refl (omega (arith, low, count)) at)

  pub row_operand_count : length row.operands.items ≡ length (operation_at x piece i).operands
  row_operand_count = sym (length-map row.operands.items operand_seen) ∙ ap length row_operands

  pub row_operand_at : (j : ℕ) (o : kept.Operand) → j < length (operation_at x piece i).operands → o ≡ get_or row.operands.items j o → slice_get (operation_at x piece i).operands j ≡ Some (operand_seen o)
  row_operand_at j o low at =
      let count = row_operand_count in
      ap (λ (operands : List Operand). slice_get operands j) (sym row_operands)
      ∙ slice_get-map operand_seen row.operands.items j
      ∙ ap (option_map operand_seen) (slice_get_read row.operands.items (length row.operands.items) j o refl (omega (arith, low, count)) at)

  pub row_hop : (j : ℕ) (hop : Hop) → j < length row.hops.items → hop ≡ get_or row.hops.items j hop → ∥ IsHop x piece i hop ∥₁
  row_hop j hop low at = ∥∥₁_map is (λ (r : IsRow x piece i row). Rattle.std.proofs.Common.subst (IsHop x piece i) (sym at) (r.hops j hop low))
