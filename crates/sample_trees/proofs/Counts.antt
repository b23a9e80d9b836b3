-- The operations of A(J) = A(J) + 1.
use Rattle.std.proofs.Common.{◌≡◌, ℕ, ◌+◌, pos, [], ◌∷◌, arith}
use Rattle.std.proofs.lemmas.List.Sums.{sum_by-cons}
use Rattle.op_table.specs.declared.Op.TheVariants.{Add}
use Rattle.f77_tree.specs.declared.expressions.Expr.TheVariants.{Const, Read}
use Rattle.f77_tree.specs.Operations.{operations, access_operations, exec_operations}
use Rattle.f77_tree.proofs.OperationLaws.{operations-Apply, operations-Read}
use Rattle.sample_trees.specs.Whole.{variable, element_j, add}

-- a scalar is read by one operation
scalar-one : (k : ℕ) → operations (Read (variable k)) ≡ 1
scalar-one k = operations-Read (variable k)

-- the word of A(J) takes four: one for J, two to check and to place it, and one to read or to store
element-four : access_operations element_j ≡ 4
element-four =
    let here = sum_by-cons (λ e. 2 + operations e) (Read (variable 1)) [] in
    let j = scalar-one 1 in
    omega (arith, here, j)

pub add-nine : exec_operations add ≡ 9
add-nine =
    let both = operations-Apply Add (Read element_j ∷ Const (pos 1) ∷ []) in
    let first = sum_by-cons operations (Read element_j) (Const (pos 1) ∷ []) in
    let next = sum_by-cons operations (Const (pos 1)) [] in
    let read = operations-Read element_j in
    let target = element-four in
    omega (arith, both, first, next, read, target)
