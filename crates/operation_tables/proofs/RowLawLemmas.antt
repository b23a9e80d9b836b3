-- Which lines the operations of a piece need, and how much they write.
use Rattle.std.proofs.Common.{◌≡◌, ◌<◌, ◌≤◌, ℕ, zero, suc, true, List, [], ◌∷◌, ◌++◌, length, map, get_or, Option, Some, None, slice_get, refl, sym, ap, ◌∙◌, subst, inr, ⊎_elim, arith}
use Rattle.std.proofs.lemmas.Bool.{cases_lt, false≢true}
use Rattle.std.proofs.lemmas.Option.{slice_get-get_or}
use Rattle.f77_tree.specs.declared.programs.Exec.{Exec}
use Rattle.f77_tree.specs.declared.programs.ExecKind.{ExecKind}
use Rattle.f77_tree.specs.declared.programs.ExecKind.TheVariants.{Assign, Print, Pass, Test, Sign, Pick, DoStart, DoNext, End}
use Rattle.f77_tree.specs.declared.programs.NameInfo.{NameInfo}
use Rattle.f77_tree.specs.declared.programs.Program.{Program}
use Rattle.f77_tree.specs.CanRun.{CanExecute, CanRun}
use Rattle.f77_tree.specs.Known.{known}
use Rattle.f77_meaning.specs.Room.{kind_room, most_room}
use Rattle.alias_classes.specs.Classes.{ClassTable, class_count}
use Rattle.alias_classes.specs.Needs.{ExecNeeds}
use Rattle.cfg_build.specs.declared.pieces.PieceKind.{PieceKind}
use Rattle.cfg_build.specs.declared.pieces.PieceKind.TheVariants as kind
use Rattle.cfg_build.specs.Passes.{kind_in as exec_in}
use Rattle.dep_routing.specs.Touches.{BranchNeeds, KindNeeds, exec_at, exec_kind}
use Rattle.net_board.specs.Nodes.{graph_in, is_acting, kind_in}
use Rattle.op_board.specs.OperationLists.{IsOperationList}
use Rattle.op_board.specs.OperationNets.{OperationNet, operation_at, operation_count, operation_in, operations_at}
use Rattle.op_board.specs.Operations.{Operand, Operation, Work, Load, Operate, Store, Take, Write, Begin, Advance, DecideTruth, DecideSign, DecideNumber, DecideTrips, DecideFirst, ended, gives_value, operations_of}
use Rattle.op_board.specs.SoundOperationNets.{IsOperationNet}
use Rattle.operation_tables.specs.RowRoom.{work_room}

-- ---- executables of pieces

can_in : (p : Program) (can : CanRun p) (k : ℕ) (o : Option Exec) → slice_get p.execs k ≡ o → CanExecute p (exec_in o)
can_in p can k None at = tt
can_in p can k (Some exec) at = can.executes k exec at

pub piece_can : (p : Program) → CanRun p → (piece : ℕ) → CanExecute p (exec_kind p piece)
piece_can p can piece = can_in p can (exec_at p piece) (slice_get p.execs (exec_at p piece)) refl

-- ---- lines

branch_needs : (c : ClassTable) (exec : ExecKind) (n : ℕ) → BranchNeeds c exec n → ExecNeeds c exec n
branch_needs c (DoStart loop_no var first last step body exit) n need = inr (inr need)
branch_needs c (Assign target e next) n need = need
branch_needs c (Print items next) n need = need
branch_needs c (Pass next) n need = need
branch_needs c (Test cond if_true if_false) n need = need
branch_needs c (Sign e neg zero' pos') n need = need
branch_needs c (Pick e targets other) n need = need
branch_needs c (DoNext loop_no var body exit) n need = need
branch_needs c End n need = need

piece_needs : (c : ClassTable) (piece : PieceKind) (exec : ExecKind) (n : ℕ) → KindNeeds c piece exec n → ExecNeeds c exec n
piece_needs c kind.Act exec n need = need
piece_needs c kind.Branch exec n need = branch_needs c exec n need
piece_needs c kind.Hold exec n need = absurd need
piece_needs c kind.Start exec n need = absurd need
piece_needs c kind.Pass exec n need = absurd need
piece_needs c kind.Join exec n need = absurd need
piece_needs c kind.End exec n need = absurd need

-- the lines that a piece touches are lines of the net, where what executables need are classes
pub touched_line : (x : OperationNet) (is : IsOperationNet x) → ((exec : ExecKind) (n : ℕ) → CanExecute x.net.program exec → ExecNeeds is.is_net.classes exec n → (1 ≤ n) × (n ≤ class_count is.is_net.classes)) → (piece line : ℕ) → piece < (graph_in x.net).nodes → x.net.touches piece line ≡ true → line < x.net.routing.lines
touched_line x is numbered piece zero exists touches = let count = is.is_net.own_routing.count in omega (arith, count)
touched_line x is numbered piece (suc n) exists touches =
    let p = x.net.program in
    let need = (is.is_net.sound_touches.classes piece n exists).0 touches in
    let within = (numbered (exec_kind p piece) (suc n) (piece_can p is.is_net.can_run piece) (piece_needs is.is_net.classes (kind_in x.net piece) (exec_kind p piece) (suc n) need)).1 in
    let count = is.is_net.own_routing.count in
    omega (arith, count, within)

-- ---- operations

pub operation_found : (x : OperationNet) (piece i : ℕ) → i < operation_count x piece → slice_get (operations_at x piece) i ≡ Some (operation_at x piece i)
operation_found x piece i inside =
    let at : slice_get (operations_at x piece) i ≡ Some (get_or (operations_at x piece) i (operation_in None)) = slice_get-get_or (operations_at x piece) i (operation_in None) inside in
    at ∙ ap (λ (op : Operation). Some op) (sym (ap operation_in at))

-- pieces that have operations act, branch or hold
acts_by : (names : List NameInfo) (piece : PieceKind) (exec : ExecKind) (i : ℕ) → i < length (operations_of names piece exec) → is_acting piece ≡ true
acts_by names kind.Act exec i inside = refl
acts_by names kind.Branch exec i inside = refl
acts_by names kind.Hold exec i inside = refl
acts_by names kind.Start exec i inside = absurd (omega (arith, inside))
acts_by names kind.Pass exec i inside = absurd (omega (arith, inside))
acts_by names kind.Join exec i inside = absurd (omega (arith, inside))
acts_by names kind.End exec i inside = absurd (omega (arith, inside))

pub piece_acts : (x : OperationNet) (piece i : ℕ) → i < operation_count x piece → is_acting (kind_in x.net piece) ≡ true
piece_acts x piece i inside = acts_by x.net.program.names (kind_in x.net piece) (exec_kind x.net.program piece) i inside

-- ---- room

last_item : (done : List Operation) (added op : Operation) (i : ℕ) → slice_get (done ++ added ∷ []) i ≡ Some op → suc i ≡ length (done ++ added ∷ []) → added ≡ op
last_item [] added op zero at last = same at
  where
    same : Some added ≡ Some op → added ≡ op
    same e = cc
last_item [] added op (suc i) at last = absurd (omega (arith, last))
last_item (x ∷ done) added op zero at last = absurd (let e = none done last in e)
  where
    none : (done : List Operation) → 1 ≡ suc (length (done ++ added ∷ [])) → ⊥
    none [] last = omega (arith, last)
    none (y ∷ done) last = omega (arith, last)
last_item (x ∷ done) added op (suc i) at last = last_item done added op i at (omega (arith, last))

ended_room : (done : List Operation) (work : Work) (operands : List Operand) (room i : ℕ) (op : Operation) → slice_get (ended done work operands) i ≡ Some op → suc i ≡ length (ended done work operands) → work_room work ≤ room → work_room op.work ≤ room
ended_room done work operands room i op at last within = subst (λ (o : Operation). work_room o.work ≤ room) (last_item done (record { work = work; operands = operands }) op i at last) within

-- the last operation of a piece writes no more than its executable may
last_room : (names : List NameInfo) (piece : PieceKind) (exec : ExecKind) (i : ℕ) (op : Operation) → slice_get (operations_of names piece exec) i ≡ Some op → suc i ≡ length (operations_of names piece exec) → work_room op.work ≤ kind_room exec
last_room names kind.Act (Assign target e next) i op at last = ended_room _ (Store target.name (map known target.subs)) _ 0 i op at last (omega arith)
last_room names kind.Act (Print items next) i op at last = ended_room _ (Write items) _ (kind_room (Print items next)) i op at last (omega arith)
last_room names kind.Act (Pass next) i op at last = absurd (omega (arith, last))
last_room names kind.Act (Test cond if_true if_false) i op at last = absurd (omega (arith, last))
last_room names kind.Act (Sign e neg zero' pos') i op at last = absurd (omega (arith, last))
last_room names kind.Act (Pick e targets other) i op at last = absurd (omega (arith, last))
last_room names kind.Act (DoStart loop_no var first last' step body exit) i op at last = ended_room _ (Begin loop_no var) _ 0 i op at last (omega arith)
last_room names kind.Act (DoNext loop_no var body exit) i op at last = ended_room [] (Advance loop_no var) [] 0 i op at last (omega arith)
last_room names kind.Act End i op at last = absurd (omega (arith, last))
last_room names kind.Branch (Assign target e next) i op at last = absurd (omega (arith, last))
last_room names kind.Branch (Print items next) i op at last = absurd (omega (arith, last))
last_room names kind.Branch (Pass next) i op at last = absurd (omega (arith, last))
last_room names kind.Branch (Test cond if_true if_false) i op at last = ended_room _ DecideTruth _ 0 i op at last (omega arith)
last_room names kind.Branch (Sign e neg zero' pos') i op at last = ended_room _ DecideSign _ 0 i op at last (omega arith)
last_room names kind.Branch (Pick e targets other) i op at last = ended_room _ (DecideNumber (length targets)) _ 0 i op at last (omega arith)
last_room names kind.Branch (DoStart loop_no var first last' step body exit) i op at last = ended_room [] (DecideTrips loop_no) [] 0 i op at last (omega arith)
last_room names kind.Branch (DoNext loop_no var body exit) i op at last = absurd (omega (arith, last))
last_room names kind.Branch End i op at last = absurd (omega (arith, last))
last_room names kind.Hold exec i op at last = let none : work_room op.work ≤ 0 = ended_room [] DecideFirst [] 0 i op at last (omega arith) in omega (arith, none)
last_room names kind.Start exec i op at last = absurd (omega (arith, last))
last_room names kind.Pass exec i op at last = absurd (omega (arith, last))
last_room names kind.Join exec i op at last = absurd (omega (arith, last))
last_room names kind.End exec i op at last = absurd (omega (arith, last))

-- an operation that gives a value writes nothing
giving_room : (work : Work) → gives_value work ≡ true → work_room work ≡ 0
giving_room (Load name subs) gives = refl
giving_room (Operate op) gives = refl
giving_room Take gives = refl
giving_room (Store name subs) gives = absurd (false≢true gives)
giving_room (Write items) gives = absurd (false≢true gives)
giving_room (Begin loop_no var) gives = absurd (false≢true gives)
giving_room (Advance loop_no var) gives = absurd (false≢true gives)
giving_room DecideTruth gives = absurd (false≢true gives)
giving_room DecideSign gives = absurd (false≢true gives)
giving_room (DecideNumber count) gives = absurd (false≢true gives)
giving_room (DecideTrips loop_no) gives = absurd (false≢true gives)
giving_room DecideFirst gives = absurd (false≢true gives)

room_within : (execs : List Exec) (k : ℕ) (exec : Exec) → slice_get execs k ≡ Some exec → kind_room exec.kind ≤ most_room execs
room_within [] k exec at = let no : None ≡ Some exec = at in absurd cc
room_within (e ∷ execs) zero exec at = subst (λ (x : Exec). kind_room x.kind ≤ most_room (e ∷ execs)) (same at) (omega arith)
  where
    same : Some e ≡ Some exec → e ≡ exec
    same h = cc
room_within (e ∷ execs) (suc k) exec at = let rest = room_within execs k exec at in omega (arith, rest)

room_in : (p : Program) (k : ℕ) (o : Option Exec) → slice_get p.execs k ≡ o → kind_room (exec_in o) ≤ most_room p.execs
room_in p k None at = omega arith
room_in p k (Some exec) at = room_within p.execs k exec at

-- an operation of a list that ends so writes no more than the longest line has room for
pub room_of : (x : OperationNet) (piece i : ℕ) → IsOperationList (operations_at x piece) → i < operation_count x piece → work_room (operation_at x piece i).work ≤ most_room x.net.program.execs
room_of x piece i is inside = ⊎_elim
    (λ (low : suc i < operation_count x piece). let none = giving_room op.work (is.gives i op at low) in omega (arith, none))
    (λ (high : operation_count x piece ≤ suc i).
    let last = last_room p.names (kind_in x.net piece) (exec_kind p piece) i op at (omega (arith, high, inside)) in
    let most = room_in p (exec_at p piece) (slice_get p.execs (exec_at p piece)) refl in
    omega (arith, last, most))
    (cases_lt (suc i) (operation_count x piece))
  where
    p : Program
    p = x.net.program

    op : Operation
    op = operation_at x piece i

    at : slice_get (operations_at x piece) i ≡ Some op
    at = operation_found x piece i inside
