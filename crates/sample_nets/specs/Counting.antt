-- What the counters do: a feeder gives to a counter and to a writer, and too many lines trap.
use Rattle.std.specs.Prelude.{◌+◌, ◌-◌, ◌<◌, ◌%◌, ◌^◌, ◌&&◌, ℕ, zero, suc, Bool, true, false, nat_lt, nat_eq, List, [], ◌∷◌, Option, Some, None}
use Rattle.op_table.specs.declared.Trap.{Trap}
use Rattle.op_table.specs.declared.Trap.TheVariants.{Overflow}
use Rattle.firing.specs.declared.system.NodeName.{NodeName}
use Rattle.firing.specs.declared.system.NodeName.TheVariants.{Act, Merge, Switch, Op}
use Rattle.firing.specs.Moves.{Moves}
use Rattle.sample_nets.specs.declared.counts.Counts.{Counts}

-- the line number n, counted from 0: a letter
abbrev pub letter_line : ℕ → List ℕ
letter_line n = (65 + n % 26) ∷ 10 ∷ []

abbrev pub name_of : ℕ → NodeName
name_of zero = Act 5
name_of (suc zero) = Op 5 1
name_of (suc (suc zero)) = Merge 6 2
name_of _ = Switch 7 3

-- the writer and the node that traps
abbrev pub is_serial : ℕ → Bool
is_serial zero = false
is_serial (suc zero) = false
is_serial _ = true

abbrev pub is_ready : Counts → ℕ → Bool
is_ready m zero = nat_lt 0 m.supply
is_ready m (suc zero) = nat_lt 0 m.left
is_ready m (suc (suc zero)) = nat_lt 0 m.right && nat_lt 0 m.lines
is_ready m _ = nat_lt 0 m.right && nat_eq m.lines 0

abbrev pub after_node : Counts → ℕ → Counts
after_node m zero = record m { supply = m.supply - 1; left = m.left + 1; right = m.right + 1 }
after_node m (suc zero) = record m { left = m.left - 1; counted = m.counted + 1 }
after_node m (suc (suc zero)) = record m { right = m.right - 1; lines = m.lines - 1; written = m.written + 1 }
after_node m _ = record m { trapped = true }

abbrev pub line_of : Counts → ℕ → Option (List ℕ)
line_of m (suc (suc zero)) = Some (letter_line m.written)
line_of m _ = None

abbrev pub trap_of : Bool → Option (Trap × ℕ)
trap_of true = Some (Overflow, 12)
trap_of false = None

abbrev pub counter_moves : Moves Counts
counter_moves = record {
  nodes = 4;
  name = name_of;
  serial = is_serial;
  ready = is_ready;
  fired = after_node;
  line = line_of;
  trap = λ m. trap_of m.trapped;
}

-- the sums fit
pub record AreSmall (m : Counts) : Type 0 where
  pub counter_side : m.supply + m.left + m.counted < 2 ^ 32
  pub writer_side : m.supply + m.right + m.written < 2 ^ 32

-- what firing a node can make ready
abbrev pub woken_by : ℕ → List ℕ
woken_by zero = 1 ∷ 2 ∷ 3 ∷ []
woken_by (suc (suc zero)) = 3 ∷ []
woken_by _ = []
