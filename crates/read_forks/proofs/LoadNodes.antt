-- What code sees of the firings of nodes: of a load, and of another one.
use Rattle.std.proofs.Common.{◌≡◌, ◌<◌, ℕ, true, false, List, [], ◌∷◌, None, length, map, refl, sym, ap, ◌∙◌}
use Rattle.firing.specs.Moves.{FiredIs}
use Rattle.firing.specs.declared.system.Fired.{Fired}
use Rattle.firing.specs.declared.system.Fired.TheVariants.{Line, Moved, Trapped}
use Rattle.firing.specs.declared.system.NodeName.TheVariants.{Op}
use Rattle.op_board.specs.OperationNets.{OperationNet, all_operation_nodes, needed, operation_at, operation_node}
use Rattle.op_board.specs.OperationTokens.{line_as, operand_in, operation_moves, text_written}
use Rattle.fork_board.specs.ForkTokens.{ForkTokens, fork_moves, is_load_node, unforked}
use Rattle.fork_board.specs.LoadGroups.{is_load}
use Rattle.fork_board.proofs.ForkNodes.{IsGiven, other_fired, performed_load}
use Rattle.fork_board.specs.SoundForks.{ForksCanCome}
use Rattle.read_forks.specs.LoadSteps.{line_read, lines_read, load_performed}
use Rattle.read_forks.proofs.StepLaws.{in_steps}

module _ (x : OperationNet) (m : ForkTokens) (k : ℕ) where
  -- ---- a node that is no load

  module _ (other : is_load_node x (operation_node x k) ≡ false) where
    pub other_marking : unforked m ((operation_moves x).fired m.operations k) ≡ (fork_moves x).fired m k
    other_marking = sym (other_fired x m k (operation_node x k) other)

    other_trap : (fork_moves x).trap ((fork_moves x).fired m k) ≡ (operation_moves x).trap ((operation_moves x).fired m.operations k)
    other_trap = ap (λ (n : ForkTokens). n.operations.tokens.trap) (sym other_marking)

    pub other_answer : (fired : Fired) → FiredIs (operation_moves x) m.operations k fired → FiredIs (fork_moves x) m k fired
    other_answer Moved is = record { line = is.line; trap = other_trap ∙ is.trap }
    other_answer Line is = (is.0, other_trap ∙ is.1)
    other_answer Trapped is = (is.0, λ none. is.1 (sym other_trap ∙ none))

  -- ---- a load

  module _ (piece i : ℕ) (name : operation_node x k ≡ Op piece i) (loads : is_load (operation_at x piece i).work ≡ true) where
    -- it writes nothing
    pub load_line : (fork_moves x).line m k ≡ None
    load_line =
        let o = operation_at x piece i in
        let g : IsGiven x.net.program.names x.net.input m.operations.tokens.memory o.work (map (operand_in x m.operations piece) o.operands) = performed_load x.net.program.names x.net.input m.operations.tokens.memory o.work (map (operand_in x m.operations piece) o.operands) loads in
        ap (line_as x m.operations) name ∙ ap text_written g.is

-- reading lines traps nothing
pub no_trap_reading : (x : OperationNet) (piece i : ℕ) (m : ForkTokens) (lines : List ℕ) → (lines_read x piece i m lines).operations.tokens.trap ≡ m.operations.tokens.trap
no_trap_reading x piece i m [] = refl
no_trap_reading x piece i m (line ∷ lines) = no_trap_reading x piece i (line_read x piece i m line) lines

pub load_trap : (x : OperationNet) (m : ForkTokens) (k piece i : ℕ) → ForksCanCome x m → k < length (all_operation_nodes x) → operation_node x k ≡ Op piece i → is_load (operation_at x piece i).work ≡ true → (fork_moves x).trap ((fork_moves x).fired m k) ≡ m.operations.tokens.trap
load_trap x m k piece i comes below name loads =
    ap (λ (n : ForkTokens). n.operations.tokens.trap) (in_steps x m k piece i comes below name loads) ∙ no_trap_reading x piece i (load_performed x m k piece i) (needed x piece i)
