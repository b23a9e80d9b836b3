-- Which token lines an operation needs.
use Rattle.std.proofs.Common.{zero, suc}
use Rattle.std.specs.Prelude.{◌≡◌, ℕ, ℤ, Bool, true, List, map, Some, IsErr}
use Rattle.op_table.specs.declared.Op.{Op}
use Rattle.op_table.specs.Known.{CanTrap, all_known}
use Rattle.op_table.specs.Operators.{applied}
use Rattle.alias_classes.specs.Classes.{ClassTable}
use Rattle.alias_classes.specs.Needs.{HitsName, IsOfLoop}
use Rattle.op_board.specs.Operations.{Operand, known_of, Work, Load, Operate, Store, Take, Write, Begin, Advance, DecideTruth, DecideSign, DecideNumber, DecideTrips, DecideFirst, Operation}

-- What is told of the piece: the lines that it touches. A load and a store need the classes that their access hits, what its
-- subscripts need left out. An operator needs the line of output where it can trap, if its piece touches that at all. A decision
-- needs all that its piece touches, so that no line goes on before it.
abbrev pub WorkNeeds : ClassTable → (touches : ℕ → Bool) → Work → List Operand → (line : ℕ) → Type 0
WorkNeeds c touches (Load name subs) operands zero = ⊥
WorkNeeds c touches (Load name subs) operands (suc n) = HitsName c name subs (suc n)
WorkNeeds c touches (Operate op) operands zero = CanTrap op (map known_of operands) × (touches 0 ≡ true)
WorkNeeds c touches (Operate op) operands (suc n) = ⊥
WorkNeeds c touches (Store name subs) operands zero = ⊥
WorkNeeds c touches (Store name subs) operands (suc n) = HitsName c name subs (suc n)
WorkNeeds c touches Take operands zero = Unit {0}
WorkNeeds c touches Take operands (suc n) = ⊥
WorkNeeds c touches (Write items) operands zero = Unit {0}
WorkNeeds c touches (Write items) operands (suc n) = ⊥
WorkNeeds c touches (Begin loop_no var) operands zero = ⊥
WorkNeeds c touches (Begin loop_no var) operands (suc n) = IsOfLoop c loop_no var (suc n)
WorkNeeds c touches (Advance loop_no var) operands zero = ⊥
WorkNeeds c touches (Advance loop_no var) operands (suc n) = IsOfLoop c loop_no var (suc n)
WorkNeeds c touches DecideTruth operands line = touches line ≡ true
WorkNeeds c touches DecideSign operands line = touches line ≡ true
WorkNeeds c touches (DecideNumber count) operands line = touches line ≡ true
WorkNeeds c touches (DecideTrips loop_no) operands line = touches line ≡ true
WorkNeeds c touches DecideFirst operands line = touches line ≡ true

-- the operation needs the line
abbrev pub OperationNeeds : ClassTable → (touches : ℕ → Bool) → Operation → (line : ℕ) → Type 0
OperationNeeds c touches op line = WorkNeeds c touches op.work op.operands line

-- an operator whose operands are all known, and that traps at them
pub record TrapsAsKnown (op : Operation) : Type 0 where
  pub operator : Op
  pub is : op.work ≡ Operate operator
  pub args : List ℤ
  pub known : all_known (map known_of op.operands) ≡ Some args
  pub traps : IsErr (applied operator args)
