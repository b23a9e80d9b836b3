-- Where an operator of a piece traps at the known values of its operands, its executable is known to trap.
use Rattle.std.proofs.Common.{◌≡◌, ℕ, ◌<◌, ℤ, pos, ◌*ℤ◌, true, List, [], ◌∷◌, ◌++◌, length, map, Option, Some, None, Any, refl, sym, ap, subst, inl, inr}
use Rattle.op_table.specs.declared.Op.{Op}
use Rattle.op_table.specs.declared.Op.TheVariants.{Bound, Place, Step}
use Rattle.op_table.specs.Known.{folded}
use Rattle.op_table.proofs.Trapping.{never_can}
use Rattle.f77_tree.specs.declared.declarations.Dim.{Dim}
use Rattle.f77_tree.specs.declared.expressions.Expr.{Expr, Row_of-Expr, end_of-Expr, more_of-Expr}
use Rattle.f77_tree.specs.declared.expressions.Expr.TheVariants.{Const, Truth, Input, Read, Read', Apply'}
use Rattle.f77_tree.specs.declared.programs.ExecKind.{ExecKind}
use Rattle.f77_tree.specs.declared.programs.ExecKind.TheVariants.{Assign, Print, Pass, Test, Sign, Pick, DoStart, DoNext, End}
use Rattle.f77_tree.specs.declared.programs.Item.{Item}
use Rattle.f77_tree.specs.declared.programs.Item.TheVariants.{Value, Chars}
use Rattle.f77_tree.specs.declared.programs.NameInfo.{NameInfo}
use Rattle.f77_tree.specs.declared.programs.Program.{Program}
use Rattle.f77_tree.specs.Known.{known, row_known}
use Rattle.f77_tree.specs.Value.{dims_of, extent}
use Rattle.f77_tree.proofs.AllLemmas.{Any-first, Any-rest}
use Rattle.f77_tree.proofs.ExpressionLemmas.{row_of}
use Rattle.cfg_build.specs.declared.pieces.PieceKind.{PieceKind}
use Rattle.cfg_build.specs.declared.pieces.PieceKind.TheVariants as kind
use Rattle.dep_routing.specs.KnownTraps.{ExecKnownToTrap, IsKnownToTrap, ItemKnownToTrap, KindKnownToTrap, SomeKnownToTrap, SubscriptsKnownToTrap, TrapsAt}
use Rattle.dep_routing.specs.Touches.{BranchTraps, exec_kind}
use Rattle.dep_routing.proofs.KnownRisks.{operator_known}
use Rattle.net_board.specs.Nodes.{graph_in, kind_in}
use Rattle.net_board.specs.SoundNets.{IsNet}
use Rattle.net_board.proofs.ListPrefixes.{item_at}
use Rattle.op_board.specs.Needs.{TrapsAsKnown}
use Rattle.op_board.specs.OperationNets.{OperationNet, operation_at, operation_count, operation_in, operations_at}
use Rattle.op_board.specs.Operations.{Operand, Known, Work, Load, Operate, Store, Take, Write, Begin, Advance, DecideTruth, DecideSign, DecideNumber, DecideTrips, DecideFirst, Operation, known_of, operated_by, operated, place_moved, place_operands, compiled, row_compiled, place_compiled, place_of_read, items_compiled, act_operations, branch_operations, decide_operations, operations_of}
use Rattle.op_board.proofs.NeededOperations.{known_row, known_same}
use Rattle.op_board.proofs.OwnNeeds.{AllAre, none_are, one_more}

-- the work is an operator that traps at the known values of its operands
abbrev pub WorkKnownToTrap : Work → List Operand → Type 0
WorkKnownToTrap (Operate op) operands = TrapsAt op (map known_of operands)
WorkKnownToTrap _ operands = ⊥

abbrev pub OperationKnownToTrap : Operation → Type 0
OperationKnownToTrap op = WorkKnownToTrap op.work op.operands

module _ (names : List NameInfo) (trap : Type 0) where
  -- none of these operations is known to trap, but where that is so
  abbrev pub Foreseen : List Operation → Type 0
  Foreseen ops = AllAre (λ op. OperationKnownToTrap op → trap) ops

  more_foreseen : (done : List Operation) (work : Work) (operands : List Operand) → Foreseen done → (WorkKnownToTrap work operands → trap) → Foreseen (done ++ (record { work = work; operands = operands }) ∷ [])
  more_foreseen done work operands all told = one_more (λ op. OperationKnownToTrap op → trap) done (record { work = work; operands = operands }) all told

  operated_by_foreseen : (done : List Operation) (op : Op) (operands : List Operand) (o : Option ℤ) → Foreseen done → (TrapsAt op (map known_of operands) → trap) → Foreseen (operated_by done op operands o).done
  operated_by_foreseen done op operands None all told = more_foreseen done (Operate op) operands all told
  operated_by_foreseen done op operands (Some z) all told = all

  operated_foreseen : (done : List Operation) (op : Op) (operands : List Operand) → Foreseen done → (TrapsAt op (map known_of operands) → trap) → Foreseen (operated done op operands).done
  operated_foreseen done op operands all told = operated_by_foreseen done op operands (folded op (map known_of operands)) all told

  moved_foreseen : (place : Operand) (dim : Dim) (size : ℤ) (e : Expr) (done : List Operation) → Foreseen (compiled names done e).done → (TrapsAt Bound (known e ∷ Some dim.lo ∷ Some dim.hi ∷ []) → trap) → Foreseen (place_moved place dim size (compiled names done e)).done
  moved_foreseen place dim size e done all told =
      let sub = compiled names done e in
      let bounds : List Operand = sub.operand ∷ Known dim.lo ∷ Known dim.hi ∷ [] in
      let offset = operated sub.done Bound bounds in
      operated_foreseen offset.done Place (place ∷ offset.operand ∷ Known size ∷ [])
      (operated_foreseen sub.done Bound bounds all (λ can. told (subst (λ k. TrapsAt Bound (k ∷ Some dim.lo ∷ Some dim.hi ∷ [])) (known_same names e done) can)))
      (λ can. let operands = map known_of (place ∷ offset.operand ∷ Known size ∷ []) in absurd (never_can Place operands refl (operator_known Place operands can)))

  mutual
    compiled_foreseen : (e : Expr) (done : List Operation) → (IsKnownToTrap names e → trap) → Foreseen done → Foreseen (compiled names done e).done
    compiled_foreseen (Const z) done told all = all
    compiled_foreseen (Truth b) done told all = all
    compiled_foreseen Input done told all = more_foreseen done Take [] all (λ can. absurd can)
    compiled_foreseen (Read' name shape subs) done told all =
        let place = place_compiled names done (dims_of names name) (pos 1) (Known (pos 0)) subs in
        more_foreseen place.done (Load name (row_known subs)) (place_operands (row_known subs) place.operand) (place_foreseen _ subs done (dims_of names name) (pos 1) (Known (pos 0)) told all) (λ can. absurd can)
    compiled_foreseen (Apply' op shape args) done told all =
        let row = row_compiled names done args in
        operated_foreseen row.done op row.operands (row_foreseen _ args done (λ some. told (inl some)) all) (λ can. told (inr (subst (TrapsAt op) (known_row names _ args done) can)))

    row_foreseen : (m : _) (row : Row_of-Expr m) (done : List Operation) → (SomeKnownToTrap names row → trap) → Foreseen done → Foreseen (row_compiled names done row).done
    row_foreseen m end_of-Expr done told all = all
    row_foreseen m (more_of-Expr e rest) done told all = row_foreseen _ rest (compiled names done e).done (λ later. told (inr later)) (compiled_foreseen e done (λ here. told (inl here)) all)

    place_foreseen : (m : _) (row : Row_of-Expr m) (done : List Operation) (dims : List Dim) (size : ℤ) (place : Operand) → (SubscriptsKnownToTrap names dims row → trap) → Foreseen done → Foreseen (place_compiled names done dims size place row).done
    place_foreseen m end_of-Expr done dims size place told all = all
    place_foreseen m (more_of-Expr e rest) done [] size place told all = all
    place_foreseen m (more_of-Expr e rest) done (dim ∷ dims) size place told all =
        let next = place_moved place dim size (compiled names done e) in
        place_foreseen _ rest next.done dims (size *ℤ extent dim) next.operand (λ later. told (inr later))
        (moved_foreseen place dim size e done (compiled_foreseen e done (λ here. told (inl (inl here))) all) (λ can. told (inl (inr can))))

  items_foreseen : (items : List Item) (done : List Operation) → (Any (ItemKnownToTrap names) items → trap) → Foreseen done → Foreseen (items_compiled names done items).done
  items_foreseen [] done told all = all
  items_foreseen (Chars text ∷ items) done told all = items_foreseen items done (λ some. told (Any-rest (ItemKnownToTrap names) (Chars text) items some)) all
  items_foreseen (Value e ∷ items) done told all =
      items_foreseen items (compiled names done e).done (λ some. told (Any-rest (ItemKnownToTrap names) (Value e) items some)) (compiled_foreseen e done (λ may. told (Any-first (ItemKnownToTrap names) (Value e) items may)) all)

  nothing_yet : Foreseen []
  nothing_yet = none_are (λ op. OperationKnownToTrap op → trap)

  act_foreseen : (exec : ExecKind) → (ExecKnownToTrap names exec → trap) → Foreseen (act_operations names exec)
  act_foreseen (Assign target e next) told =
      let row = row_of (Read target) in
      let place = place_of_read names [] (Read target) in
      let value = compiled names place.done e in
      more_foreseen value.done (Store target.name (map known target.subs)) (place_operands target.subs place.operand ++ value.operand ∷ [])
      (compiled_foreseen e place.done (λ may. told (inr may)) (place_foreseen row.0 row.1 [] (dims_of names target.name) (pos 1) (Known (pos 0)) (λ may. told (inl may)) nothing_yet))
      (λ can. absurd can)
  act_foreseen (Print items next) told =
      let s = items_compiled names [] items in
      more_foreseen s.done (Write items) s.operands (items_foreseen items [] told nothing_yet) (λ can. absurd can)
  act_foreseen (DoStart loop_no var first last step body exit) told =
      let a = compiled names [] first in
      let b = compiled names a.done last in
      let s = compiled names b.done step in
      let d = operated s.done Step (s.operand ∷ []) in
      more_foreseen d.done (Begin loop_no var) (a.operand ∷ b.operand ∷ d.operand ∷ [])
      (operated_foreseen s.done Step (s.operand ∷ [])
      (compiled_foreseen step b.done (λ may. told (inr (inr (inl may)))) (compiled_foreseen last a.done (λ may. told (inr (inl may))) (compiled_foreseen first [] (λ may. told (inl may)) nothing_yet)))
      (λ can. told (inr (inr (inr (subst (λ k. TrapsAt Step (k ∷ [])) (known_same names step b.done) can))))))
      (λ can. absurd can)
  act_foreseen (DoNext loop_no var body exit) told = more_foreseen [] (Advance loop_no var) [] nothing_yet (λ can. absurd can)
  act_foreseen (Pass next) told = nothing_yet
  act_foreseen (Test cond if_true if_false) told = nothing_yet
  act_foreseen (Sign e neg zero' pos') told = nothing_yet
  act_foreseen (Pick e targets other) told = nothing_yet
  act_foreseen End told = nothing_yet

  decide_foreseen : (work : Work) (selector : Expr) → (WorkKnownToTrap work ((compiled names [] selector).operand ∷ []) → ⊥) → (IsKnownToTrap names selector → trap) → Foreseen (decide_operations names work selector)
  decide_foreseen work selector cannot told =
      let s = compiled names [] selector in
      more_foreseen s.done work (s.operand ∷ []) (compiled_foreseen selector [] told nothing_yet) (λ can. absurd (cannot can))

  branch_foreseen : (exec : ExecKind) → (BranchTraps (ExecKnownToTrap names exec) exec → trap) → Foreseen (branch_operations names exec)
  branch_foreseen (Test cond if_true if_false) told = decide_foreseen DecideTruth cond (λ can. can) told
  branch_foreseen (Sign e neg zero' pos') told = decide_foreseen DecideSign e (λ can. can) told
  branch_foreseen (Pick e targets other) told = decide_foreseen (DecideNumber (length targets)) e (λ can. can) told
  branch_foreseen (DoStart loop_no var first last step body exit) told = more_foreseen [] (DecideTrips loop_no) [] nothing_yet (λ can. absurd can)
  branch_foreseen (Assign target e next) told = nothing_yet
  branch_foreseen (Print items next) told = nothing_yet
  branch_foreseen (DoNext loop_no var body exit) told = nothing_yet
  branch_foreseen (Pass next) told = nothing_yet
  branch_foreseen End told = nothing_yet

module _ (p : Program) where
  -- a piece of which an operator traps as known is known to trap
  pub operations_foreseen : (of_kind : PieceKind) (exec : ExecKind) → AllAre (λ op. OperationKnownToTrap op → KindKnownToTrap p.names of_kind exec) (operations_of p.names of_kind exec)
  operations_foreseen kind.Act exec = act_foreseen p.names (KindKnownToTrap p.names kind.Act exec) exec (λ known. known)
  operations_foreseen kind.Branch exec = branch_foreseen p.names (KindKnownToTrap p.names kind.Branch exec) exec (λ known. known)
  operations_foreseen kind.Hold exec = more_foreseen p.names (KindKnownToTrap p.names kind.Hold exec) [] DecideFirst [] (nothing_yet p.names (KindKnownToTrap p.names kind.Hold exec)) (λ can. absurd can)
  operations_foreseen kind.Start exec = nothing_yet p.names (KindKnownToTrap p.names kind.Start exec)
  operations_foreseen kind.Pass exec = nothing_yet p.names (KindKnownToTrap p.names kind.Pass exec)
  operations_foreseen kind.Join exec = nothing_yet p.names (KindKnownToTrap p.names kind.Join exec)
  operations_foreseen kind.End exec = nothing_yet p.names (KindKnownToTrap p.names kind.End exec)

-- an operation that traps as known
pub known_traps : (op : Operation) → TrapsAsKnown op → OperationKnownToTrap op
known_traps op traps =
    subst (λ work. WorkKnownToTrap work op.operands) (sym traps.is) (record { args = traps.args; are_known = traps.known; traps = traps.traps })

pub traps_touch : (x : OperationNet) → IsNet x.net → (piece i : ℕ) → piece < (graph_in x.net).nodes → i < operation_count x piece → TrapsAsKnown (operation_at x piece i) → x.net.touches piece 0 ≡ true
traps_touch x is piece i exists inside traps =
    let p = x.net.program in
    let item = item_at (operations_at x piece) i inside in
    let at : TrapsAsKnown item.item = subst TrapsAsKnown (ap operation_in item.at) traps in
    is.sound_touches.known piece exists (operations_foreseen p (kind_in x.net piece) (exec_kind p piece) i item.item item.at (known_traps item.item at))
