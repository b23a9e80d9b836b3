-- Reading a dataflow graph and a trace from left to right: what is left of a text after a part of it.
use Rattle.std.specs.Prelude.{ℕ, ◌==◌, Bool, List, [], ◌∷◌, length, drop, Option, Some, None, option_map, if◌then◌else◌, codes}
use Rattle.std.specs.List.{list_any}
use Rattle.std.specs.Str.{bytes_eq}
use Rattle.op_table.specs.declared.Op.TheVariants as op
use Rattle.op_table.specs.declared.Trap.{Trap}
use Rattle.op_table.specs.declared.Trap.TheVariants as trap
use Rattle.printed_graphs.specs.declared.dataflow.Work.{Work}
use Rattle.printed_graphs.specs.declared.dataflow.Work.TheVariants as work
use Rattle.printed_graphs.specs.declared.dataflow_lines.Size.{Size}
use Rattle.printed_graphs.specs.Names.{work_text, trap_text}
use Rattle.printed_graphs.specs.Reading.{◌>>=◌, choose, after_word, begins_with, digit_at, long_number_at, number_at, after_number, after_short, after_signed, field_at, word_length, after_name, after_numbers, all_at, lines_at, flow_at}

abbrev pub works : List Work
works = work.Load ∷ work.Store ∷ work.Apply op.Add ∷ work.Apply op.Bound ∷ work.Apply op.Place ∷ work.Decide ∷ work.Apply op.Mul ∷ work.Apply op.Sub ∷ work.Write ∷ work.Begin ∷ work.Advance ∷ work.Take ∷ work.Apply op.Div ∷ work.Apply op.Pow ∷ work.Apply op.Neg ∷ work.Apply op.Lt ∷ work.Apply op.Le ∷ work.Apply op.Eq ∷ work.Apply op.Ne ∷ work.Apply op.Ge ∷ work.Apply op.Gt ∷ work.Apply op.Not ∷ work.Apply op.And ∷ work.Apply op.Or ∷ work.Apply op.Eqv ∷ work.Apply op.Neqv ∷ work.Apply op.Mod ∷ work.Apply op.Abs ∷ work.Apply op.Sign ∷ work.Apply op.Max ∷ work.Apply op.Min ∷ work.Apply op.Truth ∷ work.Apply op.Three ∷ work.Apply op.Pick ∷ work.Apply op.Step ∷ work.Apply op.AddChecked ∷ work.Apply op.SubChecked ∷ work.Apply op.MulChecked ∷ work.Apply op.NegChecked ∷ work.Apply op.AbsChecked ∷ work.Apply op.PowChecked ∷ []

unfoldable pub is_work : (word : List ℕ) → Bool
is_work word = list_any (λ work. bytes_eq (work_text work) word) works

abbrev pub traps : List Trap
traps = trap.Divide ∷ trap.Subscript ∷ trap.Step ∷ trap.Input ∷ trap.Overflow ∷ []

unfoldable pub is_trap : (word : List ℕ) → Bool
is_trap word = list_any (λ trap. bytes_eq (trap_text trap) word) traps

-- ---- token lines

unfoldable pub size_at : List ℕ → Option (Size × List ℕ)
size_at text = do
  number ← after_word (codes "LINES ") text
  lines ← number_at number
  number ← after_word (codes " NODES ") lines.1
  nodes ← number_at number
  end ← after_word (codes "\n") nodes.1
  Some (record { lines = lines.0; nodes = nodes.0 }, end)

-- any letters and digits
abbrev pub after_letters : List ℕ → Option (List ℕ)
after_letters text = Some (drop (word_length text) text)

-- names, each after a blank
abbrev pub after_names : List ℕ → Option (List ℕ)
after_names text = all_at (after_word (codes " ")) after_letters text

unfoldable pub line_name_at : List ℕ → Option (List ℕ)
line_name_at text = choose (after_word (codes " *OUT") text) (λ end. Some end) (choose (after_word (codes " *DO") text) after_short (after_names text))

unfoldable pub token_line_at : (number : ℕ) → List ℕ → Option (List ℕ)
token_line_at k text = do
  number ← after_word (codes "L ") text
  name ← after_number k number
  end ← line_name_at name
  after_word (codes "\n") end

-- ---- nodes

-- a number, and another after a blank
unfoldable pub after_two : List ℕ → Option (List ℕ)
after_two text = do
  first ← number_at text
  second ← field_at first.1
  Some second.1

unfoldable pub operation_at : List ℕ → Option (List ℕ)
operation_at text = do
  piece ← after_word (codes " OP ") text
  number ← number_at piece
  blank ← field_at number.1
  work ← after_word (codes " ") blank.1
  lines ← after_name is_work work
  after_numbers lines

unfoldable pub node_at : List ℕ → Option (List ℕ)
node_at text = choose (after_word (codes " SWITCH ") text) after_two (choose (after_word (codes " MERGE ") text) after_two (operation_at text))

unfoldable pub node_line_at : (number : ℕ) → List ℕ → Option (List ℕ)
node_line_at k text = do
  number ← after_word (codes "N ") text
  node ← after_number k number
  end ← node_at node
  after_word (codes "\n") end

-- ---- values and wires

-- an operand after its blank
unfoldable pub operand_at : List ℕ → Option (List ℕ)
operand_at text = choose (after_word (codes "=") text) after_signed (after_short text)

abbrev pub after_operands : List ℕ → Option (List ℕ)
after_operands text = all_at (after_word (codes " ")) operand_at text

-- a value after its letter
unfoldable pub value_at : List ℕ → Option (List ℕ)
value_at text = do
  node ← number_at text
  end ← after_operands node.1
  after_word (codes "\n") end

abbrev pub after_values : List ℕ → Option (List ℕ)
after_values text = all_at (after_word (codes "V ")) value_at text

unfoldable pub wires_at : (number : ℕ) → List ℕ → Option (List ℕ)
wires_at k text = do
  number ← after_word (codes "W ") text
  edges ← after_number k number
  end ← after_numbers edges
  after_word (codes "\n") end

-- a bypass after its letter
unfoldable pub bypass_at : List ℕ → Option (List ℕ)
bypass_at text = do
  line ← number_at text
  edge ← field_at line.1
  next ← field_at edge.1
  after_word (codes "\n") next.1

abbrev pub after_bypasses : List ℕ → Option (List ℕ)
after_bypasses text = all_at (after_word (codes "H ")) bypass_at text

unfoldable pub graph_at : List ℕ → Option (List ℕ)
graph_at text = do
  size ← size_at text
  lines ← lines_at token_line_at 0 size.0.lines size.1
  nodes ← lines_at node_line_at 0 size.0.nodes lines
  values ← after_values nodes
  wires ← lines_at wires_at 0 size.0.lines values
  after_bypasses wires

-- ---- traces

unfoldable pub node_name_at : List ℕ → Option (List ℕ)
node_name_at text = choose (after_word (codes " OP ") text) after_two (choose (after_word (codes " SWITCH ") text) after_two (after_word (codes " MERGE ") text >>= after_two))

unfoldable pub firing_at : List ℕ → Option (List ℕ)
firing_at text = do
  name ← number_at text
  end ← node_name_at name.1
  after_word (codes "\n") end

-- a text that begins with a digit
abbrev pub at_digit : List ℕ → Option (List ℕ)
at_digit text = option_map (λ _. text) (digit_at text)

abbrev pub after_firings : List ℕ → Option (List ℕ)
after_firings text = all_at at_digit firing_at text

-- a trap after its first word
unfoldable pub trapped_at : List ℕ → Option (List ℕ)
trapped_at text = do
  name ← after_name is_trap text
  line ← after_word (codes " LINE ") name
  end ← number_at line
  after_word (codes "\n") end.1

-- a limit after its first word
unfoldable pub limit_at : List ℕ → Option (List ℕ)
limit_at text = do
  end ← long_number_at text
  after_word (codes "\n") end.1

unfoldable pub end_at : List ℕ → Option (List ℕ)
end_at text = choose (after_word (codes "TRAP ") text) trapped_at (choose (after_word (codes "LIMIT ") text) limit_at (Some text))

unfoldable pub trace_at : List ℕ → Option (List ℕ)
trace_at text = do
  end ← after_firings text
  end_at end

-- ---- one text after another

unfoldable pub flow_part_at : List ℕ → Option (List ℕ)
flow_part_at text = if begins_with (codes "PIECES") text then flow_at text else Some text

unfoldable pub graph_part_at : List ℕ → Option (List ℕ)
graph_part_at text = if begins_with (codes "LINES") text then graph_at text else Some text

unfoldable pub trace_part_at : List ℕ → Option (List ℕ)
trace_part_at text = if length text == 0 then Some text else trace_at text

-- all of a text
unfoldable pub printed_at : List ℕ → Option (List ℕ)
printed_at text = do
  graph ← flow_part_at text
  trace ← graph_part_at graph
  end ← trace_part_at trace
  if length end == 0 then Some end else None
