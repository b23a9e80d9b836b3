-- The operations of a piece fit their program, and have as many operands as they take.
use Rattle.std.proofs.Common.{◌≡◌, ℕ, suc, ◌<◌, ℤ, pos, ◌*ℤ◌, List, [], ◌∷◌, ◌++◌, length, map, Option, Some, None, All, refl, ap, ◌∙◌}
use Rattle.op_table.specs.declared.Op.{Op}
use Rattle.op_table.specs.declared.Op.TheVariants.{Bound, Place, Step}
use Rattle.op_table.specs.Known.{folded}
use Rattle.op_table.specs.Operators.{arity_of}
use Rattle.f77_tree.specs.declared.declarations.Dim.{Dim}
use Rattle.f77_tree.specs.declared.expressions.Access.{Access}
use Rattle.f77_tree.specs.declared.expressions.Expr.{Expr, Row_of-Expr, end_of-Expr, more_of-Expr}
use Rattle.f77_tree.specs.declared.expressions.Expr.TheVariants.{Const, Truth, Input, Read, Read', Apply'}
use Rattle.f77_tree.specs.declared.programs.ExecKind.{ExecKind}
use Rattle.f77_tree.specs.declared.programs.ExecKind.TheVariants.{Assign, Print, Pass, Test, Sign, Pick, DoStart, DoNext, End}
use Rattle.f77_tree.specs.declared.programs.Item.{Item}
use Rattle.f77_tree.specs.declared.programs.Item.TheVariants.{Value, Chars}
use Rattle.f77_tree.specs.declared.programs.NameInfo.{NameInfo}
use Rattle.f77_tree.specs.declared.programs.Program.{Program}
use Rattle.f77_tree.specs.CanRun.{CanExecute, CanPrint}
use Rattle.f77_tree.specs.Known.{known, row_known}
use Rattle.f77_tree.specs.Value.{dims_of, extent, row_length, IsExpression, AllExpressions, IsAccess}
use Rattle.f77_tree.proofs.AllLemmas.{All-first, All-rest}
use Rattle.f77_tree.proofs.ExpressionLemmas.{row_of, Read-IsExpression}
use Rattle.cfg_build.specs.declared.pieces.PieceKind.{PieceKind}
use Rattle.cfg_build.specs.declared.pieces.PieceKind.TheVariants as kind
use Rattle.op_board.specs.Operations.{Operand, Known, Work, Load, Operate, Store, Take, Write, Begin, Advance, DecideTruth, DecideSign, DecideNumber, DecideTrips, DecideFirst, Operation, known_of, Compiled, operated_by, operated, place_moved, place_operands, compiled, row_compiled, place_compiled, place_of_read, items_compiled, ended, assign_operations, begin_operations, decide_operations, act_operations, branch_operations, operations_of}
use Rattle.op_board.proofs.OwnNeeds.{AllAre, none_are, one_more}
use Rattle.operation_effects.specs.Works.{FitsProgram, HasOperands, OperationFits}

-- how many operands an access has
load_count : (name : ℕ) (subs : List (Option ℤ)) (place : Operand) → HasOperands (Load name subs) (length (place_operands subs place))
load_count name [] place = refl
load_count name (sub ∷ subs) place = refl

store_count : (name : ℕ) (subs : List Expr) (place value : Operand) → HasOperands (Store name (map known subs)) (length (place_operands subs place ++ value ∷ []))
store_count name [] place value = refl
store_count name (sub ∷ subs) place value = refl

-- and a row
row_count : (m : _) (names : List NameInfo) (row : Row_of-Expr m) (done : List Operation) → length (row_compiled names done row).operands ≡ row_length row
row_count m names end_of-Expr done = refl
row_count m names (more_of-Expr e rest) done = ap suc (row_count _ names rest (compiled names done e).done)

module _ (p : Program) where
  abbrev names : List NameInfo
  names = p.names

  abbrev AllFit : List Operation → Type 0
  AllFit ops = AllAre (OperationFits p) ops

  -- ---- expressions

  operated_by_fits : (done : List Operation) (op : Op) (operands : List Operand) (o : Option ℤ) → length operands ≡ arity_of op → AllFit done → AllFit (operated_by done op operands o).done
  operated_by_fits done op operands None count all = one_more (OperationFits p) done (record { work = Operate op; operands = operands }) all (tt, count)
  operated_by_fits done op operands (Some z) count all = all

  operated_fits : (done : List Operation) (op : Op) (operands : List Operand) → length operands ≡ arity_of op → AllFit done → AllFit (operated done op operands).done
  operated_fits done op operands count all = operated_by_fits done op operands (folded op (map known_of operands)) count all

  moved_fits : (place : Operand) (dim : Dim) (size : ℤ) (sub : Compiled) → AllFit sub.done → AllFit (place_moved place dim size sub).done
  moved_fits place dim size sub all =
      let bounds : List Operand = sub.operand ∷ Known dim.lo ∷ Known dim.hi ∷ [] in
      let offset = operated sub.done Bound bounds in
      operated_fits offset.done Place (place ∷ offset.operand ∷ Known size ∷ []) refl (operated_fits sub.done Bound bounds refl all)

  mutual
    compiled_fits : (e : Expr) (done : List Operation) → IsExpression names e → AllFit done → AllFit (compiled names done e).done
    compiled_fits (Const z) done is all = all
    compiled_fits (Truth b) done is all = all
    compiled_fits Input done is all = one_more (OperationFits p) done (record { work = Take; operands = [] }) all (tt, tt)
    compiled_fits (Read' name shape subs) done is all =
        let place = place_compiled names done (dims_of names name) (pos 1) (Known (pos 0)) subs in
        one_more (OperationFits p) place.done (record { work = Load name (row_known subs); operands = place_operands (row_known subs) place.operand })
        (places_fit _ subs done (dims_of names name) (pos 1) (Known (pos 0)) is.2 all)
        (is.0, load_count name (row_known subs) place.operand)
    compiled_fits (Apply' op shape args) done is all =
        let row = row_compiled names done args in
        operated_fits row.done op row.operands (row_count _ names args done ∙ is.0) (row_fits _ args done is.1 all)

    row_fits : (m : _) (row : Row_of-Expr m) (done : List Operation) → AllExpressions names row → AllFit done → AllFit (row_compiled names done row).done
    row_fits m end_of-Expr done is all = all
    row_fits m (more_of-Expr e rest) done is all = row_fits _ rest (compiled names done e).done is.1 (compiled_fits e done is.0 all)

    places_fit : (m : _) (row : Row_of-Expr m) (done : List Operation) (dims : List Dim) (size : ℤ) (place : Operand) → AllExpressions names row → AllFit done → AllFit (place_compiled names done dims size place row).done
    places_fit m end_of-Expr done dims size place is all = all
    places_fit m (more_of-Expr e rest) done [] size place is all = all
    places_fit m (more_of-Expr e rest) done (dim ∷ dims) size place is all =
        let next = place_moved place dim size (compiled names done e) in
        places_fit _ rest next.done dims (size *ℤ extent dim) next.operand is.1 (moved_fits place dim size (compiled names done e) (compiled_fits e done is.0 all))

  items_fit : (items : List Item) (done : List Operation) → All (CanPrint names) items → AllFit done → AllFit (items_compiled names done items).done
  items_fit [] done can all = all
  items_fit (Chars text ∷ items) done can all = items_fit items done (All-rest (CanPrint names) (Chars text) items can) all
  items_fit (Value e ∷ items) done can all = items_fit items (compiled names done e).done (All-rest (CanPrint names) (Value e) items can) (compiled_fits e done (All-first (CanPrint names) (Value e) items can) all)

  -- ---- executables

  ended_fits : (done : List Operation) (work : Work) (operands : List Operand) → AllFit done → FitsProgram p work × HasOperands work (length operands) → AllFit (ended done work operands)
  ended_fits done work operands all is = one_more (OperationFits p) done (record { work = work; operands = operands }) all is

  assign_fits : (target : Access) (e : Expr) → IsAccess names target → IsExpression names e → AllFit (assign_operations names target e)
  assign_fits target e is fits =
      let place = place_of_read names [] (Read target) in
      let value = compiled names place.done e in
      let row = row_of (Read target) in
      ended_fits value.done (Store target.name (map known target.subs)) (place_operands target.subs place.operand ++ value.operand ∷ [])
      (compiled_fits e place.done fits (places_fit row.0 row.1 [] (dims_of names target.name) (pos 1) (Known (pos 0)) (Read-IsExpression names target is).2 (none_are (OperationFits p))))
      (is.known, store_count target.name target.subs place.operand value.operand)

  begin_fits : (loop_no var : ℕ) (first last step : Expr) → loop_no < p.loops → var < length names → IsExpression names first → IsExpression names last → IsExpression names step → AllFit (begin_operations names loop_no var first last step)
  begin_fits loop_no var first last step loop exists a_fits b_fits c_fits =
      let a = compiled names [] first in
      let b = compiled names a.done last in
      let c = compiled names b.done step in
      let d = operated c.done Step (c.operand ∷ []) in
      ended_fits d.done (Begin loop_no var) (a.operand ∷ b.operand ∷ d.operand ∷ [])
      (operated_fits c.done Step (c.operand ∷ []) refl (compiled_fits step b.done c_fits (compiled_fits last a.done b_fits (compiled_fits first [] a_fits (none_are (OperationFits p))))))
      ((loop, exists), refl)

  decide_fits : (work : Work) (selector : Expr) → FitsProgram p work × HasOperands work 1 → IsExpression names selector → AllFit (decide_operations names work selector)
  decide_fits work selector decides fits = let s = compiled names [] selector in ended_fits s.done work (s.operand ∷ []) (compiled_fits selector [] fits (none_are (OperationFits p))) decides

  lone_fits : (work : Work) → FitsProgram p work × HasOperands work 0 → AllFit (ended [] work [])
  lone_fits work is = ended_fits [] work [] (none_are (OperationFits p)) is

  act_fits : (e : ExecKind) → CanExecute p e → AllFit (act_operations names e)
  act_fits (Assign target e next) can = assign_fits target e can.0 can.1
  act_fits (Print items next) can =
      let s = items_compiled names [] items in
      ended_fits s.done (Write items) s.operands (items_fit items [] can.0 (none_are (OperationFits p))) (can.0, tt)
  act_fits (DoStart loop_no var first last step body exit) can = begin_fits loop_no var first last step can.0.loop can.0.name can.1 can.2 can.3
  act_fits (DoNext loop_no var body exit) can = lone_fits (Advance loop_no var) ((can.loop, can.name), tt)
  act_fits (Pass next) can = none_are (OperationFits p)
  act_fits (Test cond if_true if_false) can = none_are (OperationFits p)
  act_fits (Sign e neg zero' pos') can = none_are (OperationFits p)
  act_fits (Pick e targets other) can = none_are (OperationFits p)
  act_fits End can = none_are (OperationFits p)

  branch_fits : (e : ExecKind) → CanExecute p e → AllFit (branch_operations names e)
  branch_fits (Test cond if_true if_false) can = decide_fits DecideTruth cond (tt, refl) can.0
  branch_fits (Sign e neg zero' pos') can = decide_fits DecideSign e (tt, refl) can.0
  branch_fits (Pick e targets other) can = decide_fits (DecideNumber (length targets)) e (tt, refl) can.0
  branch_fits (DoStart loop_no var first last step body exit) can = lone_fits (DecideTrips loop_no) (can.0.loop, tt)
  branch_fits (Assign target e next) can = none_are (OperationFits p)
  branch_fits (Print items next) can = none_are (OperationFits p)
  branch_fits (DoNext loop_no var body exit) can = none_are (OperationFits p)
  branch_fits (Pass next) can = none_are (OperationFits p)
  branch_fits End can = none_are (OperationFits p)

  pub operations_fit : (piece : PieceKind) (exec : ExecKind) → CanExecute p exec → AllAre (OperationFits p) (operations_of p.names piece exec)
  operations_fit kind.Act exec can = act_fits exec can
  operations_fit kind.Branch exec can = branch_fits exec can
  operations_fit kind.Hold exec can = lone_fits DecideFirst (tt, tt)
  operations_fit kind.Start exec can = none_are (OperationFits p)
  operations_fit kind.Pass exec can = none_are (OperationFits p)
  operations_fit kind.Join exec can = none_are (OperationFits p)
  operations_fit kind.End exec can = none_are (OperationFits p)
