-- The marking while the nodes of a piece fire.
use Rattle.std.specs.Prelude.{◌≡◌, ◌<◌, ◌≤◌, ℕ, zero, suc, ◌+◌, List, [], ◌∷◌, length, take, flat_map, Some, None}
use Rattle.f77_tree.specs.Execution.{Memory}
use Rattle.cfg_build.specs.Passes.{Passed, Along, Traps, Done, out}
use Rattle.dep_routing.specs.Sound.{DoesTrap}
use Rattle.firing.specs.declared.system.NodeName.{NodeName}
use Rattle.firing.specs.declared.system.NodeName.TheVariants.{Act, Merge, Switch, Op}
use Rattle.net_board.specs.ControlCourse.{edge_or}
use Rattle.net_board.specs.Nodes.{NetOf, graph_in, kind_in, touched, nodes_at, first_node, switch_lines}
use Rattle.net_board.specs.Tokens.{Tokens, left_for, with_all, led_from}

-- the lines that a node moves
abbrev pub moved_by : NetOf → NodeName → List ℕ
moved_by net (Act piece) = touched net piece
moved_by net (Switch piece line) = line ∷ []
moved_by net (Merge piece line) = line ∷ []
moved_by net (Op piece i) = []

-- the lines that so many of the nodes move
abbrev pub moved_first : NetOf → List NodeName → (fired : ℕ) → List ℕ
moved_first net nodes fired = flat_map (moved_by net) (take fired nodes)

-- the edge by which control leaves the piece with this pass
abbrev pub leaving : NetOf → (piece : ℕ) → Passed → ℕ
leaving net piece made = edge_or (out (graph_in net) piece 0) made

-- the memory after a pass
abbrev pub memory_or : (other : Memory) → Passed → Memory
memory_or other (Along edge memory text) = memory
memory_or other (Traps trap) = other
memory_or other Done = other

-- the first node of a piece does what the pass does to the memory
abbrev pub memory_amid : Memory → Passed → (fired : ℕ) → Memory
memory_amid memory made zero = memory
memory_amid memory made (suc fired) = memory_or memory made

-- the text that a pass writes
abbrev pub text_in : Passed → List ℕ
text_in (Along edge memory text) = text
text_in (Traps trap) = []
text_in Done = []

-- the first node of a piece writes it
abbrev pub text_amid : Passed → (fired : ℕ) → List ℕ
text_amid made zero = []
text_amid made (suc fired) = text_in made

abbrev pub switch_count : NetOf → ℕ → ℕ
switch_count net piece = length (switch_lines net piece (kind_in net piece))

-- Of the nodes of a piece so many have fired since the marking `start`, with this memory there, in the order of their numbers: the
-- lines of these have been led along the edge of the pass, which is left for those switches that haven't fired.
pub record IsAmid (net : NetOf) (start m : Tokens) (piece fired : ℕ) (memory : Memory) (made : Passed) : Type 0 where
  pub lines : m.lines ≡ with_all start.lines (moved_first net (nodes_at net piece) fired) (led_from net (leaving net piece made))
  pub at_first : fired ≡ 0 → (k : ℕ) → left_for m k ≡ None
  pub before : (k : ℕ) → k < first_node net piece + fired → left_for m k ≡ None
  pub left : (k : ℕ) → 0 < fired → first_node net piece + fired ≤ k → k ≤ first_node net piece + switch_count net piece → left_for m k ≡ Some (leaving net piece made)
  pub after : (k : ℕ) → first_node net piece + switch_count net piece < k → left_for m k ≡ None
  pub memory_is : m.memory ≡ memory_amid memory made fired
  pub trap_is : m.trap ≡ None
  pub no_trap : 0 < fired → DoesTrap made → ⊥
