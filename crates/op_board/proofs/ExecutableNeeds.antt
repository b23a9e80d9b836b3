-- What the operations of a piece need is what its executable needs, for each executable.
use Rattle.std.proofs.Common.{◌⊎◌, ℕ, List, [], ◌∷◌, ◌++◌, length, map, Any, All, inl, inr}
use Rattle.op_table.specs.declared.Op.TheVariants.{Step}
use Rattle.f77_tree.specs.declared.declarations.Kind.{Kind}
use Rattle.f77_tree.specs.declared.declarations.Kind.TheVariants.{Integer}
use Rattle.f77_tree.specs.declared.expressions.Access.{Access}
use Rattle.f77_tree.specs.declared.expressions.Expr.{Expr, Row_of-Expr, end_of-Expr, more_of-Expr}
use Rattle.f77_tree.specs.declared.expressions.Expr.TheVariants.{Const, Truth, Input, Read, Read', Apply'}
use Rattle.f77_tree.specs.declared.programs.ExecKind.{ExecKind}
use Rattle.f77_tree.specs.declared.programs.ExecKind.TheVariants.{Assign, Print, Pass, Test, Sign, Pick, DoStart, DoNext, End}
use Rattle.f77_tree.specs.declared.programs.Item.{Item}
use Rattle.f77_tree.specs.declared.programs.Item.TheVariants.{Value, Chars}
use Rattle.f77_tree.specs.declared.programs.NameInfo.{NameInfo}
use Rattle.f77_tree.specs.declared.programs.Program.{Program}
use Rattle.f77_tree.specs.CanRun.{CanExecute, CanPrint}
use Rattle.f77_tree.specs.Kinds.{IsProper, AllOfKind, IsOfKind}
use Rattle.f77_tree.specs.Known.{known}
use Rattle.f77_tree.specs.Touched.{ExecReadsData, ReadsData, SomeReadsData}
use Rattle.f77_tree.specs.Value.{IsExpression}
use Rattle.f77_tree.specs.WellFormed.{IsExecutable}
use Rattle.f77_tree.proofs.AllLemmas.{All-first, All-rest, Any-first, Any-rest}
use Rattle.alias_classes.specs.Classes.{ClassTable}
use Rattle.alias_classes.specs.Needs.{ExecNeeds, ExprNeeds, ItemNeeds}
use Rattle.cfg_build.specs.declared.pieces.PieceKind.{PieceKind}
use Rattle.cfg_build.specs.declared.pieces.PieceKind.TheVariants as kind
use Rattle.dep_routing.specs.Touches.{KindNeeds, Prints}
use Rattle.op_board.specs.Operations.{Operand, Work, Store, Write, Begin, Advance, DecideTruth, DecideSign, DecideNumber, DecideTrips, DecideFirst, Operation, operated, place_operands, compiled, place_of_read, items_compiled, ended, assign_operations, begin_operations, decide_operations, act_operations, branch_operations, operations_of}
use Rattle.op_board.proofs.OwnNeeds.{AllOwn, HasClasses, IsOwn, WorkIsOwn, compiled_own, none_are, one_more, operated_own, target_own}

-- no expression of a program takes data
mutual
  proper_data : (names : List NameInfo) (e : Expr) → IsProper names e → ReadsData e → ⊥
  proper_data names (Const z) is reads = reads
  proper_data names (Truth b) is reads = reads
  proper_data names Input is reads = is
  proper_data names (Read' name shape subs) is reads = row_data names Integer _ subs is.2 reads
  proper_data names (Apply' op shape args) is reads = row_data names _ _ args is.2 reads

  row_data : (names : List NameInfo) (of_kind : Kind) (m : _) (row : Row_of-Expr m) → AllOfKind names of_kind row → SomeReadsData row → ⊥
  row_data names of_kind m end_of-Expr is some = some
  row_data names of_kind m (more_of-Expr e rest) is (inl here) = proper_data names e is.0 here
  row_data names of_kind m (more_of-Expr e rest) is (inr later) = row_data names of_kind _ rest is.2 later

-- what an act touches the line of output for
abbrev pub WritesOrTakes : PieceKind → ExecKind → Type 0
WritesOrTakes kind.Act exec = Prints exec ⊎ ExecReadsData exec
WritesOrTakes _ exec = ⊥

module _ (p : Program) (c : ClassTable) (has : HasClasses p.names c) (own : ℕ → Type 0) (out : Type 0) where
  abbrev names : List NameInfo
  names = p.names

  abbrev OwnList : List Operation → Type 0
  OwnList ops = AllOwn names c has own out ops

  ended_own : (done : List Operation) (work : Work) (operands : List Operand) → OwnList done → WorkIsOwn c own out work operands → OwnList (ended done work operands)
  ended_own done work operands all is = one_more (IsOwn c own out) done (record { work = work; operands = operands }) all is

  expression_own : (e : Expr) (done : List Operation) → IsExpression names e → ((n : ℕ) → ExprNeeds c e n → own n) → (ReadsData e → out) → OwnList done → OwnList (compiled names done e).done
  expression_own e done is needs reads all = compiled_own names c has own out e done is needs reads all

  items_own : (items : List Item) (done : List Operation) → All (CanPrint names) items → ((n : ℕ) → Any (λ item. ItemNeeds c item n) items → own n) → out → OwnList done → OwnList (items_compiled names done items).done
  items_own [] done can needs prints all = all
  items_own (Chars text ∷ items) done can needs prints all =
      items_own items done (All-rest (CanPrint names) (Chars text) items can) (λ n some. needs n (Any-rest (λ item. ItemNeeds c item n) (Chars text) items some)) prints all
  items_own (Value e ∷ items) done can needs prints all =
      items_own items (compiled names done e).done (All-rest (CanPrint names) (Value e) items can) (λ n some. needs n (Any-rest (λ item. ItemNeeds c item n) (Value e) items some)) prints
      (expression_own e done (All-first (CanPrint names) (Value e) items can) (λ n need. needs n (Any-first (λ item. ItemNeeds c item n) (Value e) items need)) (λ reads. prints) all)

  assign_own : (target : Access) (e : Expr) (next : ℕ) → CanExecute p (Assign target e next) → ((n : ℕ) → ExecNeeds c (Assign target e next) n → own n) → (ExecReadsData (Assign target e next) → out) → OwnList (assign_operations names target e)
  assign_own target e next can needs reads =
      let place = place_of_read names [] (Read target) in
      let value = compiled names place.done e in
      let hit = has target.name (map known target.subs) can.0.known in
      ended_own value.done (Store target.name (map known target.subs)) (place_operands target.subs place.operand ++ value.operand ∷ [])
      (expression_own e place.done can.1 (λ n need. needs n (inr need)) (λ takes. reads (inr takes))
      (target_own names c has own out target [] can.0 (λ n need. needs n (inl need)) (λ takes. reads (inl takes)) (none_are (IsOwn c own out))))
      (record { one = hit.0; hits = hit.1; all = λ n hits. needs n (inl (inr hits)) })

  begin_own : (loop_no var body exit : ℕ) (first last step : Expr) → IsExecutable names (DoStart loop_no var first last step body exit) → CanExecute p (DoStart loop_no var first last step body exit) → ((n : ℕ) → ExecNeeds c (DoStart loop_no var first last step body exit) n → own n) → OwnList (begin_operations names loop_no var first last step)
  begin_own loop_no var body exit first last step is can needs =
      let a = compiled names [] first in
      let b = compiled names a.done last in
      let s = compiled names b.done step in
      let d = operated s.done Step (s.operand ∷ []) in
      let all = is.integers in
      let later = All-rest (IsOfKind names Integer) first (last ∷ step ∷ []) all in
      let first_proper = All-first (IsOfKind names Integer) first (last ∷ step ∷ []) all in
      let last_proper = All-first (IsOfKind names Integer) last (step ∷ []) later in
      let step_proper = All-first (IsOfKind names Integer) step [] (All-rest (IsOfKind names Integer) last (step ∷ []) later) in
      ended_own d.done (Begin loop_no var) (a.operand ∷ b.operand ∷ d.operand ∷ [])
      (operated_own names c has own out s.done Step (s.operand ∷ [])
      (expression_own step b.done can.3 (λ n need. needs n (inl (inr (inr need)))) (λ takes. absurd (proper_data names step step_proper.proper takes))
      (expression_own last a.done can.2 (λ n need. needs n (inl (inr (inl need)))) (λ takes. absurd (proper_data names last last_proper.proper takes))
      (expression_own first [] can.1 (λ n need. needs n (inl (inl need))) (λ takes. absurd (proper_data names first first_proper.proper takes)) (none_are (IsOwn c own out))))))
      (λ n need. needs n (inr need))

  decide_own : (work : Work) (selector : Expr) → WorkIsOwn c own out work ((compiled names [] selector).operand ∷ []) → IsExpression names selector → IsProper names selector → ((n : ℕ) → ExprNeeds c selector n → own n) → OwnList (decide_operations names work selector)
  decide_own work selector decides is proper needs =
      let s = compiled names [] selector in
      ended_own s.done work (s.operand ∷ []) (expression_own selector [] is needs (λ takes. absurd (proper_data names selector proper takes)) (none_are (IsOwn c own out))) decides

  lone_own : (work : Work) → WorkIsOwn c own out work [] → OwnList (ended [] work [])
  lone_own work is = ended_own [] work [] (none_are (IsOwn c own out)) is

  act_own : (exec : ExecKind) → IsExecutable names exec → CanExecute p exec → ((n : ℕ) → ExecNeeds c exec n → own n) → (Prints exec ⊎ ExecReadsData exec → out) → OwnList (act_operations names exec)
  act_own (Assign target e next) is can needs touched = assign_own target e next can needs (λ takes. touched (inr takes))
  act_own (Print items next) is can needs touched =
      let s = items_compiled names [] items in
      ended_own s.done (Write items) s.operands (items_own items [] can.0 needs (touched (inl tt)) (none_are (IsOwn c own out))) (touched (inl tt))
  act_own (DoStart loop_no var first last step body exit) is can needs touched = begin_own loop_no var body exit first last step is can needs
  act_own (DoNext loop_no var body exit) is can needs touched = lone_own (Advance loop_no var) needs
  act_own (Pass next) is can needs touched = none_are (IsOwn c own out)
  act_own (Test cond if_true if_false) is can needs touched = none_are (IsOwn c own out)
  act_own (Sign e neg zero' pos') is can needs touched = none_are (IsOwn c own out)
  act_own (Pick e targets other) is can needs touched = none_are (IsOwn c own out)
  act_own End is can needs touched = none_are (IsOwn c own out)

  branch_own : (exec : ExecKind) → IsExecutable names exec → CanExecute p exec → ((n : ℕ) → KindNeeds c kind.Branch exec n → own n) → OwnList (branch_operations names exec)
  branch_own (Test cond if_true if_false) is can needs = decide_own DecideTruth cond tt can.0 is.proper needs
  branch_own (Sign e neg zero' pos') is can needs = decide_own DecideSign e tt can.0 is.proper needs
  branch_own (Pick e targets other) is can needs = decide_own (DecideNumber (length targets)) e tt can.0 is.0.proper needs
  branch_own (DoStart loop_no var first last step body exit) is can needs = lone_own (DecideTrips loop_no) tt
  branch_own (Assign target e next) is can needs = none_are (IsOwn c own out)
  branch_own (Print items next) is can needs = none_are (IsOwn c own out)
  branch_own (DoNext loop_no var body exit) is can needs = none_are (IsOwn c own out)
  branch_own (Pass next) is can needs = none_are (IsOwn c own out)
  branch_own End is can needs = none_are (IsOwn c own out)

  pub operations_own : (piece : PieceKind) (exec : ExecKind) → IsExecutable names exec → CanExecute p exec → ((n : ℕ) → KindNeeds c piece exec n → own n) → (WritesOrTakes piece exec → out) → OwnList (operations_of names piece exec)
  operations_own kind.Act exec is can needs touched = act_own exec is can needs touched
  operations_own kind.Branch exec is can needs touched = branch_own exec is can needs
  operations_own kind.Hold exec is can needs touched = lone_own DecideFirst tt
  operations_own kind.Start exec is can needs touched = none_are (IsOwn c own out)
  operations_own kind.Pass exec is can needs touched = none_are (IsOwn c own out)
  operations_own kind.Join exec is can needs touched = none_are (IsOwn c own out)
  operations_own kind.End exec is can needs touched = none_are (IsOwn c own out)
