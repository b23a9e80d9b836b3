-- What the operations of a piece have in common: each value goes to one later operation, and together they do what the piece does.
use Rattle.std.specs.Prelude.{◌≡◌, ◌<◌, ◌+◌, ℕ, zero, suc, true, false, List, [], ◌∷◌, length, Some, slice_get}
use Rattle.cfg_build.specs.Passes.{Passed, Along, Traps}
use Rattle.op_board.specs.Operations.{Operand, Known, From, Operation, gives_value}
use Rattle.op_board.specs.Effects.{Ran, All_done, Stopped}

-- ---- who takes which value

-- one more, where the two numbers are the same
abbrev pub takes_one : (other number more : ℕ) → ℕ
takes_one zero zero more = suc more
takes_one zero (suc n) more = more
takes_one (suc o) zero more = more
takes_one (suc o) (suc n) more = takes_one o n more

-- how many of the operands are the value of this operation
abbrev pub takes_by : List Operand → (number : ℕ) → ℕ
takes_by [] number = 0
takes_by (Known z ∷ operands) number = takes_by operands number
takes_by (From other ∷ operands) number = takes_one other number (takes_by operands number)

-- how often the operations take the value of this one
abbrev pub takes_of : List Operation → (number : ℕ) → ℕ
takes_of [] number = 0
takes_of (op ∷ ops) number = takes_by op.operands number + takes_of ops number

-- The last operation of a list gives no value. Each other one gives one, and one operand is that, of a later operation.
pub record IsOperationList (ops : List Operation) : Type 0 where
  pub some : 0 < length ops
  pub gives : (i : ℕ) (op : Operation) → slice_get ops i ≡ Some op → suc i < length ops → gives_value op.work ≡ true
  pub last : (i : ℕ) (op : Operation) → slice_get ops i ≡ Some op → suc i ≡ length ops → gives_value op.work ≡ false
  pub once : (i : ℕ) → suc i < length ops → takes_of ops i ≡ 1
  pub later : (i number : ℕ) (op : Operation) → slice_get ops i ≡ Some op → 0 < takes_by op.operands number → number < i

-- ---- what they do

-- The operations do what the pass of their piece does: the last effect has its memory, its text and the edge that it takes, which is
-- the out-edge of that number; or one of them has its trap.
abbrev pub DoesAsPass : (out : ℕ → ℕ) → Ran → Passed → Type 0
DoesAsPass out (All_done last) (Along edge memory text) = (out last.choice ≡ edge) × (last.memory ≡ memory) × (last.text ≡ text)
DoesAsPass out (Stopped at memory trap) (Traps other) = trap ≡ other
DoesAsPass out _ _ = ⊥
