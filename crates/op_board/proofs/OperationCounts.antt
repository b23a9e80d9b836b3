-- No piece has more operations than a statement may ask.
use Rattle.std.proofs.Common.{◌≡◌, ℕ, suc, ◌+◌, ◌*◌, ◌≤◌, max, ℤ, pos, ◌*ℤ◌, List, [], ◌∷◌, ◌++◌, length, map, fold, sum_by, Option, Some, None, slice_get, refl, arith}
use Rattle.std.proofs.lemmas.List.Sums.{sum_by-cons}
use Rattle.op_table.specs.declared.Op.{Op}
use Rattle.op_table.specs.declared.Op.TheVariants.{Bound, Place, Step}
use Rattle.op_table.specs.Known.{folded}
use Rattle.f77_tree.specs.declared.declarations.Dim.{Dim}
use Rattle.f77_tree.specs.declared.expressions.Access.{Access}
use Rattle.f77_tree.specs.declared.expressions.Expr.{Expr, Row_of-Expr, end_of-Expr, more_of-Expr}
use Rattle.f77_tree.specs.declared.expressions.Expr.TheVariants.{Const, Truth, Input, Read, Read', Apply'}
use Rattle.f77_tree.specs.declared.programs.Exec.{Exec}
use Rattle.f77_tree.specs.declared.programs.ExecKind.{ExecKind}
use Rattle.f77_tree.specs.declared.programs.ExecKind.TheVariants.{Assign, Print, Pass, Test, Sign, Pick, DoStart, DoNext, End}
use Rattle.f77_tree.specs.declared.programs.Item.{Item}
use Rattle.f77_tree.specs.declared.programs.Item.TheVariants.{Value, Chars}
use Rattle.f77_tree.specs.declared.programs.NameInfo.{NameInfo}
use Rattle.f77_tree.specs.declared.programs.Program.{Program}
use Rattle.f77_tree.specs.Known.{known, row_known}
use Rattle.f77_tree.specs.Operations.{access_operations, exec_operations, increments, item_operations, most_operations, operations, row_operations, statement_operations, statements_of}
use Rattle.f77_tree.specs.Value.{dims_of, extent, row_length}
use Rattle.f77_tree.proofs.ExpressionLemmas.{row_of}
use Rattle.f77_tree.proofs.OperationBounds.{most-asked}
use Rattle.f77_tree.proofs.OperationLaws.{operations-Read}
use Rattle.cfg_build.specs.declared.pieces.PieceKind.{PieceKind}
use Rattle.cfg_build.specs.declared.pieces.PieceKind.TheVariants as kind
use Rattle.cfg_build.specs.Passes.{kind_in}
use Rattle.dep_routing.specs.Touches.{exec_at, exec_kind}
use Rattle.op_board.specs.Operations.{Operand, Known, Work, Load, Operate, Store, Take, Write, Begin, DecideTruth, DecideSign, DecideNumber, Operation, known_of, Compiled, operated_by, operated, place_moved, place_operands, compiled, row_compiled, place_compiled, place_of_read, items_compiled, ended, assign_operations, print_operations, begin_operations, decide_operations, act_operations, branch_operations, operations_of}
use Rattle.op_board.proofs.ValueTaking.{length_end}

length_ended : (done : List Operation) (work : Work) (operands : List Operand) → length (ended done work operands) ≡ suc (length done)
length_ended done work operands = length_end done (record { work = work; operands = operands })

operated_by_few : (done : List Operation) (op : Op) (operands : List Operand) (o : Option ℤ) → length (operated_by done op operands o).done ≤ suc (length done)
operated_by_few done op operands None = let e = length_end done (record { work = Operate op; operands = operands }) in omega (arith, e)
operated_by_few done op operands (Some z) = omega arith

operated_few : (done : List Operation) (op : Op) (operands : List Operand) → length (operated done op operands).done ≤ suc (length done)
operated_few done op operands = operated_by_few done op operands (folded op (map known_of operands))

moved_few : (place : Operand) (dim : Dim) (size : ℤ) (sub : Compiled) → length (place_moved place dim size sub).done ≤ 2 + length sub.done
moved_few place dim size sub =
    let bounds : List Operand = sub.operand ∷ Known dim.lo ∷ Known dim.hi ∷ [] in
    let offset = operated sub.done Bound bounds in
    let first = operated_few sub.done Bound bounds in
    let second = operated_few offset.done Place (place ∷ offset.operand ∷ Known size ∷ []) in
    omega (arith, first, second)

module _ (names : List NameInfo) where
  mutual
    -- an expression has as many operations as are counted, or fewer
    compiled_few : (e : Expr) (done : List Operation) → length (compiled names done e).done ≤ length done + operations e
    compiled_few (Const z) done = omega arith
    compiled_few (Truth b) done = omega arith
    compiled_few Input done = let e = length_end done (record { work = Take; operands = [] }) in omega (arith, e)
    compiled_few (Read' name shape subs) done =
        let place = place_compiled names done (dims_of names name) (pos 1) (Known (pos 0)) subs in
        let few = place_few _ subs done (dims_of names name) (pos 1) (Known (pos 0)) in
        let e = length_end place.done (record { work = Load name (row_known subs); operands = place_operands (row_known subs) place.operand }) in
        omega (arith, few, e)
    compiled_few (Apply' op shape args) done =
        let row = row_compiled names done args in
        let few = row_few _ args done in
        let one = operated_few row.done op row.operands in
        omega (arith, few, one)

    row_few : (m : _) (row : Row_of-Expr m) (done : List Operation) → length (row_compiled names done row).done ≤ length done + row_operations row
    row_few m end_of-Expr done = omega arith
    row_few m (more_of-Expr e rest) done =
        let here = compiled_few e done in
        let later = row_few _ rest (compiled names done e).done in
        omega (arith, here, later)

    place_few : (m : _) (row : Row_of-Expr m) (done : List Operation) (dims : List Dim) (size : ℤ) (place : Operand) → length (place_compiled names done dims size place row).done ≤ length done + (2 * row_length row + row_operations row)
    place_few m end_of-Expr done dims size place = omega arith
    place_few m (more_of-Expr e rest) done [] size place = omega arith
    place_few m (more_of-Expr e rest) done (dim ∷ dims) size place =
        let sub = compiled names done e in
        let next = place_moved place dim size sub in
        let here = compiled_few e done in
        let moves = moved_few place dim size sub in
        let later = place_few _ rest next.done dims (size *ℤ extent dim) next.operand in
        omega (arith, here, moves, later)

  items_few : (items : List Item) (done : List Operation) → length (items_compiled names done items).done + length items ≤ length done + sum_by item_operations items
  items_few [] done = omega arith
  items_few (Chars text ∷ items) done =
      let later = items_few items done in
      let sum = sum_by-cons item_operations (Chars text) items in
      omega (arith, later, sum)
  items_few (Value e ∷ items) done =
      let here = compiled_few e done in
      let later = items_few items (compiled names done e).done in
      let sum = sum_by-cons item_operations (Value e) items in
      omega (arith, here, later, sum)

  module _ (most : ℕ) (some : 1 ≤ most) where
    assign_few : (target : Access) (e : Expr) → access_operations target + operations e ≤ most → length (assign_operations names target e) ≤ most
    assign_few target e asked =
        let row = row_of (Read target) in
        let place = place_of_read names [] (Read target) in
        let value = compiled names place.done e in
        let same = operations-Read target in
        let first : length place.done ≤ 0 + (2 * row_length row.1 + row_operations row.1) = place_few row.0 row.1 [] (dims_of names target.name) (pos 1) (Known (pos 0)) in
        let second = compiled_few e place.done in
        let third = length_ended value.done (Store target.name (map known target.subs)) (place_operands target.subs place.operand ++ value.operand ∷ []) in
        omega (arith, asked, same, first, second, third)

    print_few : (items : List Item) → sum_by item_operations items ≤ most → length (print_operations names items) ≤ most
    print_few [] asked = omega (arith, some)
    print_few (item ∷ items) asked =
        let s = items_compiled names [] (item ∷ items) in
        let few = items_few (item ∷ items) [] in
        let one = length_ended s.done (Write (item ∷ items)) s.operands in
        omega (arith, asked, few, one)

    begin_few : (loop_no var : ℕ) (first last step : Expr) → 4 + operations first + operations last + operations step ≤ most → length (begin_operations names loop_no var first last step) ≤ most
    begin_few loop_no var first last step asked =
        let a = compiled names [] first in
        let b = compiled names a.done last in
        let s = compiled names b.done step in
        let d = operated s.done Step (s.operand ∷ []) in
        let at_a = compiled_few first [] in
        let at_b = compiled_few last a.done in
        let at_s = compiled_few step b.done in
        let at_d = operated_few s.done Step (s.operand ∷ []) in
        let at_end = length_ended d.done (Begin loop_no var) (a.operand ∷ b.operand ∷ d.operand ∷ []) in
        omega (arith, asked, at_a, at_b, at_s, at_d, at_end)

    decide_few : (work : Work) (selector : Expr) → 1 + operations selector ≤ most → length (decide_operations names work selector) ≤ most
    decide_few work selector asked =
        let s = compiled names [] selector in
        let few = compiled_few selector [] in
        let one = length_ended s.done work (s.operand ∷ []) in
        omega (arith, asked, few, one)

    act_few : (exec : ExecKind) → exec_operations exec ≤ most → length (act_operations names exec) ≤ most
    act_few (Assign target e next) asked = assign_few target e asked
    act_few (Print items next) asked = print_few items asked
    act_few (DoStart loop_no var first last step body exit) asked = begin_few loop_no var first last step asked
    act_few (DoNext loop_no var body exit) asked = omega (arith, some)
    act_few (Pass next) asked = omega arith
    act_few (Test cond if_true if_false) asked = omega arith
    act_few (Sign e neg zero' pos') asked = omega arith
    act_few (Pick e targets other) asked = omega arith
    act_few End asked = omega arith

    branch_few : (exec : ExecKind) → exec_operations exec ≤ most → length (branch_operations names exec) ≤ most
    branch_few (Test cond if_true if_false) asked = decide_few DecideTruth cond asked
    branch_few (Sign e neg zero' pos') asked = decide_few DecideSign e asked
    branch_few (Pick e targets other) asked = decide_few (DecideNumber (length targets)) e asked
    branch_few (DoStart loop_no var first last step body exit) asked = omega (arith, some)
    branch_few (Assign target e next) asked = omega arith
    branch_few (Print items next) asked = omega arith
    branch_few (DoNext loop_no var body exit) asked = omega arith
    branch_few (Pass next) asked = omega arith
    branch_few End asked = omega arith

    operations_few : (piece : PieceKind) (exec : ExecKind) → exec_operations exec ≤ most → length (operations_of names piece exec) ≤ most
    operations_few kind.Act exec asked = act_few exec asked
    operations_few kind.Branch exec asked = branch_few exec asked
    operations_few kind.Hold exec asked = omega (arith, some)
    operations_few kind.Start exec asked = omega arith
    operations_few kind.Pass exec asked = omega arith
    operations_few kind.Join exec asked = omega arith
    operations_few kind.End exec asked = omega arith

max_start : (a : ℕ) (xs : List ℕ) → a ≤ fold max a xs
max_start a [] = omega arith
max_start a (x ∷ xs) = let more = max_start (max a x) xs in omega (arith, more)

most_some : (p : Program) → 1 ≤ most_operations p
most_some p = max_start 1 (map statement_operations (statements_of p.execs) ++ map (λ exec. exec_operations exec.kind) (increments p.execs))

asked_in : (p : Program) (k : ℕ) (o : Option Exec) → slice_get p.execs k ≡ o → exec_operations (kind_in o) ≤ most_operations p
asked_in p k None at = omega arith
asked_in p k (Some exec) at = most-asked p k exec at

-- the operations of each piece of a program
pub piece_few : (p : Program) (piece : ℕ) (of_kind : PieceKind) → length (operations_of p.names of_kind (exec_kind p piece)) ≤ most_operations p
piece_few p piece of_kind = operations_few p.names (most_operations p) (most_some p) of_kind (exec_kind p piece) (asked_in p (exec_at p piece) (slice_get p.execs (exec_at p piece)) refl)
