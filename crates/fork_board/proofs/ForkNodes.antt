-- Loads and other nodes: when they are ready, what they do, and what a part of a marking without its lines tells.
use Rattle.std.proofs.Common.{◌≡◌, ℕ, ℤ, true, false, if◌then◌else◌, List, map, Ok, Result, refl, ap}
use Rattle.op_table.specs.declared.Trap.{Trap as Kind_of_trap}
use Rattle.f77_tree.specs.declared.programs.NameInfo.{NameInfo}
use Rattle.f77_tree.specs.Execution.{Memory}
use Rattle.firing.specs.declared.system.NodeName.{NodeName}
use Rattle.firing.specs.declared.system.NodeName.TheVariants.{Act, Merge, Switch, Op}
use Rattle.net_board.specs.Footprints.{Line, Left, Word, Count, StepOf, Taken, Trap}
use Rattle.op_board.specs.Effects.{Effect, gives, loaded, performed}
use Rattle.op_board.specs.OperationFootprints.{OperationPart, Token, Passed, Given, part_at}
use Rattle.op_board.specs.OperationNets.{OperationNet, operation_at}
use Rattle.op_board.specs.Operations.{Work, Load, Operate, Store, Take, Write, Begin, Advance, DecideTruth, DecideSign, DecideNumber, DecideTrips, DecideFirst}
use Rattle.op_board.specs.OperationTokens.{OperationTokens, fired_as, operand_in, operated, operated_on, performed_at, ready_as}
use Rattle.fork_board.specs.LoadGroups.{is_load}
use Rattle.fork_board.specs.ForkTokens.{ForkTokens, can_load, fork_fired_as, fork_ready_as, is_load_node, loaded_on, unforked}
use Rattle.fork_board.specs.ForkFootprints.{rest_at, tells_line}

-- ---- the forms of nodes

pub record IsLoadNamed (x : OperationNet) (name : NodeName) : Type 0 where
  pub piece : ℕ
  pub number : ℕ
  pub is : name ≡ Op piece number
  pub loads : is_load (operation_at x piece number).work ≡ true

pub load_named : (x : OperationNet) (name : NodeName) → is_load_node x name ≡ true → IsLoadNamed x name
load_named x (Op piece i) loads = record { piece = piece; number = i; is = refl; loads = loads }
load_named x (Switch piece line) loads = absurd cc
load_named x (Merge piece line) loads = absurd cc
load_named x (Act piece) loads = absurd cc

module _ (x : OperationNet) (m : ForkTokens) (k : ℕ) where
  pub other_ready : (name : NodeName) → is_load_node x name ≡ false → fork_ready_as x m k name ≡ ready_as x m.operations k name
  other_ready (Op piece i) not_load = ap (λ b. if b then can_load x m k piece i (operation_at x piece i) else ready_as x m.operations k (Op piece i)) not_load
  other_ready (Switch piece line) not_load = refl
  other_ready (Merge piece line) not_load = refl
  other_ready (Act piece) not_load = refl

  pub other_fired : (name : NodeName) → is_load_node x name ≡ false → fork_fired_as x m k name ≡ unforked m (fired_as x m.operations k name)
  other_fired (Op piece i) not_load = ap (λ b. if b then loaded_on x m piece i (fired_as x m.operations k (Op piece i)) else unforked m (fired_as x m.operations k (Op piece i))) not_load
  other_fired (Switch piece line) not_load = refl
  other_fired (Merge piece line) not_load = refl
  other_fired (Act piece) not_load = refl

  pub load_ready : (piece i : ℕ) → is_load (operation_at x piece i).work ≡ true → fork_ready_as x m k (Op piece i) ≡ can_load x m k piece i (operation_at x piece i)
  load_ready piece i loads = ap (λ b. if b then can_load x m k piece i (operation_at x piece i) else ready_as x m.operations k (Op piece i)) loads

  pub load_fired : (piece i : ℕ) → is_load (operation_at x piece i).work ≡ true → fork_fired_as x m k (Op piece i) ≡ loaded_on x m piece i (fired_as x m.operations k (Op piece i))
  load_fired piece i loads = ap (λ b. if b then loaded_on x m piece i (fired_as x m.operations k (Op piece i)) else unforked m (fired_as x m.operations k (Op piece i))) loads

-- ---- what a load does

pub record IsGiven (names : List NameInfo) (input : List ℤ) (m : Memory) (work : Work) (args : List ℤ) : Type 0 where
  pub value : ℤ
  pub is : performed names input m work args ≡ Ok (gives m value)

pub performed_load : (names : List NameInfo) (input : List ℤ) (m : Memory) (work : Work) (args : List ℤ) → is_load work ≡ true → IsGiven names input m work args
performed_load names input m (Load name subs) args loads = record { value = loaded names m.store name args; is = refl }
performed_load names input m (Operate op) args loads = absurd cc
performed_load names input m (Store name subs) args loads = absurd cc
performed_load names input m Take args loads = absurd cc
performed_load names input m (Write items) args loads = absurd cc
performed_load names input m (Begin loop_no var) args loads = absurd cc
performed_load names input m (Advance loop_no var) args loads = absurd cc
performed_load names input m DecideTruth args loads = absurd cc
performed_load names input m DecideSign args loads = absurd cc
performed_load names input m (DecideNumber count) args loads = absurd cc
performed_load names input m (DecideTrips loop_no) args loads = absurd cc
performed_load names input m DecideFirst args loads = absurd cc

pub record IsLoadDone (x : OperationNet) (m : OperationTokens) (k piece i : ℕ) : Type 0 where
  pub value : ℤ
  pub performs : performed_at x m piece (operation_at x piece i) ≡ Ok (gives m.tokens.memory value)
  pub is : fired_as x m k (Op piece i) ≡ operated_on x m k piece i (operation_at x piece i) (gives m.tokens.memory value)

pub load_done : (x : OperationNet) (m : OperationTokens) (k piece i : ℕ) → is_load (operation_at x piece i).work ≡ true → IsLoadDone x m k piece i
load_done x m k piece i loads =
    let r : IsGiven x.net.program.names x.net.input m.tokens.memory (operation_at x piece i).work (map (operand_in x m piece) (operation_at x piece i).operands) =
    performed_load x.net.program.names x.net.input m.tokens.memory (operation_at x piece i).work (map (operand_in x m piece) (operation_at x piece i).operands) loads in
    record { value = r.value; performs = r.is; is = ap (λ (done : Result Effect Kind_of_trap). operated x m k piece i (operation_at x piece i) done) r.is }

-- ---- parts that don't tell where lines stand

pub rest_told : (m n : OperationTokens) (part : OperationPart) → tells_line part ≡ true → rest_at m part ≡ rest_at n part
rest_told m n (Token (Line line)) tells = refl
rest_told m n (Token (Left node)) tells = absurd cc
rest_told m n (Token (Word word)) tells = absurd cc
rest_told m n (Token (Count loop_no)) tells = absurd cc
rest_told m n (Token (StepOf loop_no)) tells = absurd cc
rest_told m n (Token Taken) tells = absurd cc
rest_told m n (Token Trap) tells = absurd cc
rest_told m n (Passed line) tells = refl
rest_told m n (Given j) tells = absurd cc

pub rest_same : (m n : OperationTokens) (part : OperationPart) → part_at m part ≡ part_at n part → rest_at m part ≡ rest_at n part
rest_same m n (Token (Line line)) same = refl
rest_same m n (Token (Left node)) same = same
rest_same m n (Token (Word word)) same = same
rest_same m n (Token (Count loop_no)) same = same
rest_same m n (Token (StepOf loop_no)) same = same
rest_same m n (Token Taken) same = same
rest_same m n (Token Trap) same = same
rest_same m n (Passed line) same = refl
rest_same m n (Given j) same = same

pub rest_back : (m n : OperationTokens) (part : OperationPart) → tells_line part ≡ false → rest_at m part ≡ rest_at n part → part_at m part ≡ part_at n part
rest_back m n (Token (Line line)) not same = absurd cc
rest_back m n (Token (Left node)) not same = same
rest_back m n (Token (Word word)) not same = same
rest_back m n (Token (Count loop_no)) not same = same
rest_back m n (Token (StepOf loop_no)) not same = same
rest_back m n (Token Taken) not same = same
rest_back m n (Token Trap) not same = same
rest_back m n (Passed line) not same = absurd cc
rest_back m n (Given j) not same = same

-- beside the lines a load leaves what it leaves in a net of operations
pub rest_loaded : (x : OperationNet) (m : ForkTokens) (piece i : ℕ) (done : OperationTokens) (part : OperationPart) → rest_at (loaded_on x m piece i done).operations part ≡ rest_at done part
rest_loaded x m piece i done (Token (Line line)) = refl
rest_loaded x m piece i done (Token (Left node)) = refl
rest_loaded x m piece i done (Token (Word word)) = refl
rest_loaded x m piece i done (Token (Count loop_no)) = refl
rest_loaded x m piece i done (Token (StepOf loop_no)) = refl
rest_loaded x m piece i done (Token Taken) = refl
rest_loaded x m piece i done (Token Trap) = refl
rest_loaded x m piece i done (Passed line) = refl
rest_loaded x m piece i done (Given j) = refl
