-- The parts of a marking, and those on which the firings of each node depend.
use Rattle.std.specs.Prelude.{ℕ, ◌==◌, ℤ, Bool, false, Option, slice_get}
use Rattle.std.specs.List.{list_any}
use Rattle.op_table.specs.declared.Trap.{Trap as Kind_of_trap}
use Rattle.alias_classes.specs.Classes.{ClassTable, class_of_word, class_of_loop}
use Rattle.firing.specs.declared.system.NodeName.{NodeName}
use Rattle.firing.specs.declared.system.NodeName.TheVariants.{Act, Merge, Switch}
use Rattle.net_board.specs.Nodes.{NetOf, node_at, switches}
use Rattle.net_board.specs.Tokens.{Tokens}

-- where a line stands, what is left for a node, a word, the count and the step of a DO, how much of the data was taken, and the
-- trap
pub data Part : Type 0 where
  Line : (line : ℕ) → Part
  Left : (node : ℕ) → Part
  Word : (word : ℕ) → Part
  Count : (loop_no : ℕ) → Part
  StepOf : (loop_no : ℕ) → Part
  Taken : Part
  Trap : Part

abbrev pub Value : Part → Type 0
Value (Line line) = Option (Option ℕ)
Value (Left node) = Option (Option ℕ)
Value (Word word) = Option ℤ
Value (Count loop_no) = Option ℕ
Value (StepOf loop_no) = Option ℤ
Value Taken = ℕ
Value Trap = Option (Kind_of_trap × ℕ)

abbrev pub at : Tokens → (part : Part) → Value part
at m (Line line) = slice_get m.lines line
at m (Left node) = slice_get m.edges node
at m (Word word) = slice_get m.memory.store word
at m (Count loop_no) = slice_get m.memory.counts loop_no
at m (StepOf loop_no) = slice_get m.memory.steps loop_no
at m Taken = m.memory.taken
at m Trap = m.trap

-- one of the switches of a piece
abbrev pub is_switch : NetOf → (piece k : ℕ) → Bool
is_switch net piece k = list_any (λ switch. switch == k) (switches net piece)

-- An act depends on the lines that its piece touches, on what it left for its switches, and on what belongs to these lines: words,
-- counts and steps to their classes, the data and the trap to the line of output.
abbrev pub foot_as : NetOf → ClassTable → ℕ → NodeName → Part → Bool
foot_as net c k (Act piece) (Line line) = net.touches piece line
foot_as net c k (Act piece) (Left node) = is_switch net piece node
foot_as net c k (Act piece) (Word word) = net.touches piece (class_of_word c word)
foot_as net c k (Act piece) (Count loop_no) = net.touches piece (class_of_loop c loop_no)
foot_as net c k (Act piece) (StepOf loop_no) = net.touches piece (class_of_loop c loop_no)
foot_as net c k (Act piece) Taken = net.touches piece 0
foot_as net c k (Act piece) Trap = net.touches piece 0
foot_as net c k (Switch piece line) (Line other) = line == other
foot_as net c k (Switch piece line) (Left node) = k == node
foot_as net c k (Merge piece line) (Line other) = line == other
foot_as net c k _ _ = false

abbrev pub foot : NetOf → ClassTable → ℕ → Part → Bool
foot net c k part = foot_as net c k (node_at net k) part
