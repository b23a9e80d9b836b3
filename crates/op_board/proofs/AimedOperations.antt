-- Each operation of a piece works on words of its names, and on those that its subscripts are known to name.
use Rattle.std.proofs.Common.{◌≡◌, ℕ, ◌<◌, ℤ, pos, ◌*ℤ◌, List, [], ◌∷◌, ◌++◌, length, map, Option, Some, None, All, refl, sym, ap, ◌∙◌, subst}
use Rattle.op_table.specs.declared.Op.{Op}
use Rattle.op_table.specs.declared.Op.TheVariants.{Bound, Place, Step}
use Rattle.op_table.specs.Known.{folded}
use Rattle.f77_tree.specs.declared.declarations.Dim.{Dim}
use Rattle.f77_tree.specs.declared.expressions.Access.{Access}
use Rattle.f77_tree.specs.declared.expressions.Expr.{Expr, Row_of-Expr, end_of-Expr, more_of-Expr, items-the_row-Expr, items_hidden-the_row-Expr-0}
use Rattle.f77_tree.specs.declared.expressions.Expr.TheVariants.{Const, Truth, Input, Read, Read', Apply'}
use Rattle.f77_tree.specs.declared.programs.ExecKind.{ExecKind}
use Rattle.f77_tree.specs.declared.programs.ExecKind.TheVariants.{Assign, Print, Pass, Test, Sign, Pick, DoStart, DoNext, End}
use Rattle.f77_tree.specs.declared.programs.Item.{Item}
use Rattle.f77_tree.specs.declared.programs.Item.TheVariants.{Value, Chars}
use Rattle.f77_tree.specs.declared.programs.NameInfo.{NameInfo}
use Rattle.f77_tree.specs.declared.programs.Program.{Program}
use Rattle.f77_tree.specs.CanRun.{CanExecute, CanPrint, CanRun}
use Rattle.f77_tree.specs.Known.{known, row_known}
use Rattle.f77_tree.specs.Value.{dims_of, extent, IsExpression, AllExpressions, IsAccess}
use Rattle.f77_tree.proofs.AllLemmas.{All-first, All-rest}
use Rattle.f77_tree.proofs.ExpressionLemmas.{row_of, Read-IsExpression}
use Rattle.alias_classes.specs.Classes.{ClassTable, class_of_loop}
use Rattle.cfg_build.specs.declared.pieces.PieceKind.{PieceKind}
use Rattle.cfg_build.specs.declared.pieces.PieceKind.TheVariants as kind
use Rattle.dep_routing.specs.Touches.{KindNeeds}
use Rattle.op_board.specs.Operations.{Operand, Known, Work, Load, Operate, Store, Take, Write, Begin, Advance, DecideTruth, DecideSign, DecideNumber, DecideTrips, DecideFirst, Operation, known_of, Compiled, operated_by, operated, place_moved, place_operands, compiled, row_compiled, place_compiled, place_of_read, items_compiled, ended, assign_operations, begin_operations, decide_operations, act_operations, branch_operations, operations_of}
use Rattle.op_board.proofs.AimedAccesses.{IsAimed, access_aimed}
use Rattle.op_board.proofs.OwnNeeds.{AllAre, none_are, one_more}

-- the place of a store, where it has one, comes before the value
abbrev pub IsAimedStore : List NameInfo → (name : ℕ) → List (Option ℤ) → List Operand → Type 0
IsAimedStore names name subs [] = Unit {0}
IsAimedStore names name subs (z ∷ []) = IsAimed names name subs []
IsAimedStore names name subs (place ∷ z ∷ more) = IsAimed names name subs (place ∷ [])

-- An operation of a piece of this kind works on a name of the table, and on the word that is known to be named; and a piece that
-- looks at the count of a DO needs that.
abbrev pub WorkIsAimed : List NameInfo → PieceKind → ExecKind → Work → List Operand → Type 0
WorkIsAimed names piece exec (Load name subs) operands = (name < length names) × IsAimed names name subs operands
WorkIsAimed names piece exec (Store name subs) operands = (name < length names) × IsAimedStore names name subs operands
WorkIsAimed names piece exec (Begin loop_no var) operands = var < length names
WorkIsAimed names piece exec (Advance loop_no var) operands = var < length names
WorkIsAimed names piece exec (DecideTrips loop_no) operands = (c : ClassTable) → KindNeeds c piece exec (class_of_loop c loop_no)
WorkIsAimed names piece exec _ operands = Unit {0}

abbrev pub OperationIsAimed : List NameInfo → PieceKind → ExecKind → Operation → Type 0
OperationIsAimed names piece exec op = WorkIsAimed names piece exec op.work op.operands

module _ (p : Program) (run : CanRun p) (piece : PieceKind) (exec : ExecKind) where
  abbrev names : List NameInfo
  names = p.names

  abbrev AllAimed : List Operation → Type 0
  AllAimed ops = AllAre (OperationIsAimed names piece exec) ops

  -- ---- expressions

  operated_by_aimed : (done : List Operation) (op : Op) (operands : List Operand) (o : Option ℤ) → AllAimed done → AllAimed (operated_by done op operands o).done
  operated_by_aimed done op operands None all = one_more (OperationIsAimed names piece exec) done (record { work = Operate op; operands = operands }) all tt
  operated_by_aimed done op operands (Some z) all = all

  operated_aimed : (done : List Operation) (op : Op) (operands : List Operand) → AllAimed done → AllAimed (operated done op operands).done
  operated_aimed done op operands all = operated_by_aimed done op operands (folded op (map known_of operands)) all

  moved_aimed : (place : Operand) (dim : Dim) (size : ℤ) (sub : Compiled) → AllAimed sub.done → AllAimed (place_moved place dim size sub).done
  moved_aimed place dim size sub all =
      let bounds : List Operand = sub.operand ∷ Known dim.lo ∷ Known dim.hi ∷ [] in
      let offset = operated sub.done Bound bounds in
      operated_aimed offset.done Place (place ∷ offset.operand ∷ Known size ∷ []) (operated_aimed sub.done Bound bounds all)

  mutual
    compiled_aimed : (e : Expr) (done : List Operation) → IsExpression names e → AllAimed done → AllAimed (compiled names done e).done
    compiled_aimed (Const z) done is all = all
    compiled_aimed (Truth b) done is all = all
    compiled_aimed Input done is all = one_more (OperationIsAimed names piece exec) done (record { work = Take; operands = [] }) all tt
    compiled_aimed (Read' name shape subs) done is all =
        let place = place_compiled names done (dims_of names name) (pos 1) (Known (pos 0)) subs in
        one_more (OperationIsAimed names piece exec) place.done (record { work = Load name (row_known subs); operands = place_operands (row_known subs) place.operand })
        (place_all_aimed _ subs done (dims_of names name) (pos 1) (Known (pos 0)) is.2 all)
        (is.0, access_aimed names p.words run.placed name subs done is.0 is.1)
    compiled_aimed (Apply' op shape args) done is all =
        let row = row_compiled names done args in
        operated_aimed row.done op row.operands (row_aimed _ args done is.1 all)

    row_aimed : (m : _) (row : Row_of-Expr m) (done : List Operation) → AllExpressions names row → AllAimed done → AllAimed (row_compiled names done row).done
    row_aimed m end_of-Expr done is all = all
    row_aimed m (more_of-Expr e rest) done is all = row_aimed _ rest (compiled names done e).done is.1 (compiled_aimed e done is.0 all)

    place_all_aimed : (m : _) (row : Row_of-Expr m) (done : List Operation) (dims : List Dim) (size : ℤ) (place : Operand) → AllExpressions names row → AllAimed done → AllAimed (place_compiled names done dims size place row).done
    place_all_aimed m end_of-Expr done dims size place is all = all
    place_all_aimed m (more_of-Expr e rest) done [] size place is all = all
    place_all_aimed m (more_of-Expr e rest) done (dim ∷ dims) size place is all =
        let next = place_moved place dim size (compiled names done e) in
        place_all_aimed _ rest next.done dims (size *ℤ extent dim) next.operand is.1 (moved_aimed place dim size (compiled names done e) (compiled_aimed e done is.0 all))

  items_aimed : (items : List Item) (done : List Operation) → All (CanPrint names) items → AllAimed done → AllAimed (items_compiled names done items).done
  items_aimed [] done can all = all
  items_aimed (Chars text ∷ items) done can all = items_aimed items done (All-rest (CanPrint names) (Chars text) items can) all
  items_aimed (Value e ∷ items) done can all = items_aimed items (compiled names done e).done (All-rest (CanPrint names) (Value e) items can) (compiled_aimed e done (All-first (CanPrint names) (Value e) items can) all)

  -- ---- executables

  ended_aimed : (done : List Operation) (work : Work) (operands : List Operand) → AllAimed done → WorkIsAimed names piece exec work operands → AllAimed (ended done work operands)
  ended_aimed done work operands all is = one_more (OperationIsAimed names piece exec) done (record { work = work; operands = operands }) all is

  known_items : (m : _) (row : Row_of-Expr m) → row_known row ≡ map known (items-the_row-Expr m row)
  known_items m end_of-Expr = refl
  known_items m (more_of-Expr e rest) = ap (λ ks. known e ∷ ks) (known_items _ rest)

  store_by : (name : ℕ) (subs : List Expr) (ks : List (Option ℤ)) (place value : Operand) → ks ≡ map known subs → IsAimed names name ks (place_operands ks place) → IsAimedStore names name (map known subs) (place_operands subs place ++ value ∷ [])
  store_by name [] ks place value are aimed = subst (λ ks. IsAimed names name ks (place_operands ks place)) are aimed
  store_by name (sub ∷ subs) ks place value are aimed = subst (λ ks. IsAimed names name ks (place_operands ks place)) are aimed

  store_aimed : (target : Access) (value : Operand) → IsAccess names target → WorkIsAimed names piece exec (Store target.name (map known target.subs)) (place_operands target.subs (place_of_read names [] (Read target)).operand ++ value ∷ [])
  store_aimed target value is =
      let row = row_of (Read target) in
      let fits = Read-IsExpression names target is in (
        is.known,
        store_by target.name target.subs (row_known row.1) (place_of_read names [] (Read target)).operand value
            (known_items row.0 row.1 ∙ ap (map known) (items_hidden-the_row-Expr-0 target.subs))
            (access_aimed names p.words run.placed target.name row.1 [] is.known fits.1),
      )

  assign_aimed : (target : Access) (e : Expr) → IsAccess names target → IsExpression names e → AllAimed (assign_operations names target e)
  assign_aimed target e is fits =
      let place = place_of_read names [] (Read target) in
      let value = compiled names place.done e in
      let row = row_of (Read target) in
      ended_aimed value.done (Store target.name (map known target.subs)) (place_operands target.subs place.operand ++ value.operand ∷ [])
      (compiled_aimed e place.done fits (place_all_aimed row.0 row.1 [] (dims_of names target.name) (pos 1) (Known (pos 0)) (Read-IsExpression names target is).2 (none_are (OperationIsAimed names piece exec))))
      (store_aimed target value.operand is)

  begin_aimed : (loop_no var : ℕ) (first last step : Expr) → var < length names → IsExpression names first → IsExpression names last → IsExpression names step → AllAimed (begin_operations names loop_no var first last step)
  begin_aimed loop_no var first last step exists a_fits b_fits c_fits =
      let a = compiled names [] first in
      let b = compiled names a.done last in
      let c = compiled names b.done step in
      let d = operated c.done Step (c.operand ∷ []) in
      ended_aimed d.done (Begin loop_no var) (a.operand ∷ b.operand ∷ d.operand ∷ [])
      (operated_aimed c.done Step (c.operand ∷ []) (compiled_aimed step b.done c_fits (compiled_aimed last a.done b_fits (compiled_aimed first [] a_fits (none_are (OperationIsAimed names piece exec))))))
      exists

  decide_aimed : (work : Work) (selector : Expr) → WorkIsAimed names piece exec work ((compiled names [] selector).operand ∷ []) → IsExpression names selector → AllAimed (decide_operations names work selector)
  decide_aimed work selector decides fits = let s = compiled names [] selector in ended_aimed s.done work (s.operand ∷ []) (compiled_aimed selector [] fits (none_are (OperationIsAimed names piece exec))) decides

  lone_aimed : (work : Work) → WorkIsAimed names piece exec work [] → AllAimed (ended [] work [])
  lone_aimed work is = ended_aimed [] work [] (none_are (OperationIsAimed names piece exec)) is

  act_aimed : (e : ExecKind) → CanExecute p e → AllAimed (act_operations names e)
  act_aimed (Assign target e next) can = assign_aimed target e can.0 can.1
  act_aimed (Print items next) can =
      let s = items_compiled names [] items in
      ended_aimed s.done (Write items) s.operands (items_aimed items [] can.0 (none_are (OperationIsAimed names piece exec))) tt
  act_aimed (DoStart loop_no var first last step body exit) can = begin_aimed loop_no var first last step can.0.name can.1 can.2 can.3
  act_aimed (DoNext loop_no var body exit) can = lone_aimed (Advance loop_no var) can.name
  act_aimed (Pass next) can = none_are (OperationIsAimed names piece exec)
  act_aimed (Test cond if_true if_false) can = none_are (OperationIsAimed names piece exec)
  act_aimed (Sign e neg zero' pos') can = none_are (OperationIsAimed names piece exec)
  act_aimed (Pick e targets other) can = none_are (OperationIsAimed names piece exec)
  act_aimed End can = none_are (OperationIsAimed names piece exec)

  branch_aimed : (e : ExecKind) → CanExecute p e → ((loop_no var : ℕ) (first last step : Expr) (body exit : ℕ) → e ≡ DoStart loop_no var first last step body exit → (c : ClassTable) → KindNeeds c piece exec (class_of_loop c loop_no)) → AllAimed (branch_operations names e)
  branch_aimed (Test cond if_true if_false) can trips = decide_aimed DecideTruth cond tt can.0
  branch_aimed (Sign e neg zero' pos') can trips = decide_aimed DecideSign e tt can.0
  branch_aimed (Pick e targets other) can trips = decide_aimed (DecideNumber (length targets)) e tt can.0
  branch_aimed (DoStart loop_no var first last step body exit) can trips = lone_aimed (DecideTrips loop_no) (trips loop_no var first last step body exit refl)
  branch_aimed (Assign target e next) can trips = none_are (OperationIsAimed names piece exec)
  branch_aimed (Print items next) can trips = none_are (OperationIsAimed names piece exec)
  branch_aimed (DoNext loop_no var body exit) can trips = none_are (OperationIsAimed names piece exec)
  branch_aimed (Pass next) can trips = none_are (OperationIsAimed names piece exec)
  branch_aimed End can trips = none_are (OperationIsAimed names piece exec)

-- the operations of each piece are aimed
pub operations_aimed : (p : Program) → CanRun p → (piece : PieceKind) (exec : ExecKind) → CanExecute p exec → AllAre (OperationIsAimed p.names piece exec) (operations_of p.names piece exec)
operations_aimed p run kind.Act exec can = act_aimed p run kind.Act exec exec can
operations_aimed p run kind.Branch exec can = branch_aimed p run kind.Branch exec exec can (λ loop_no var first last step body exit is c. subst (λ e. KindNeeds c kind.Branch e (class_of_loop c loop_no)) (sym is) refl)
operations_aimed p run kind.Hold exec can = lone_aimed p run kind.Hold exec DecideFirst tt
operations_aimed p run kind.Start exec can = none_are (OperationIsAimed p.names kind.Start exec)
operations_aimed p run kind.Pass exec can = none_are (OperationIsAimed p.names kind.Pass exec)
operations_aimed p run kind.Join exec can = none_are (OperationIsAimed p.names kind.Join exec)
operations_aimed p run kind.End exec can = none_are (OperationIsAimed p.names kind.End exec)
