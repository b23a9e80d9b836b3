-- What contracts see of the places of lines, decisions and values.
use Rattle.std.specs.Prelude.{◌≡◌, ◌≤◌, ◌==◌, ◌+◌, ℕ, ℤ, true, false, [], All, length, map, Option, None, slice_set, vec_capacity}
use Rattle.std.specs.List.{range_with_len}
use Rattle.f77_tree.specs.Execution.{Memory}
use Rattle.firing.specs.ReadySet.{has}
use Rattle.op_board.specs.OperationNets.{OperationNet}
use Rattle.op_board.specs.OperationTokens.{OperationTokens}
use Rattle.operation_places.specs.declared.places.Places.{Places}
use Rattle.operation_places.specs.Counts.{AreMarksBut, more_of}
use Rattle.operation_places.specs.Leads.{IsLead}
use Rattle.operation_tables.specs.Waits.{awaits, node_total}

abbrev no_memory : Memory
no_memory = record { store = []; counts = []; steps = []; taken = 0 }

-- the marking, but for its memory and trap, on which it doesn't depend what nodes wait for
abbrev pub standing : Places → OperationTokens
standing s = record {
  tokens = record { lines = s.lines.items; edges = s.edges.items; memory = no_memory; trap = None };
  passed = s.passed.items;
  values = s.values.items;
}

-- the line stands on this edge, and has passed so many of the operations that need it
abbrev pub line_put : OperationTokens → (line : ℕ) (edge : Option ℕ) (passed : ℕ) → OperationTokens
line_put m line edge passed = record m { tokens = record m.tokens { lines = slice_set m.tokens.lines line edge }; passed = slice_set m.passed line passed }

abbrev pub value_put : OperationTokens → (k : ℕ) (value : Option ℤ) → OperationTokens
value_put m k value = record m { values = slice_set m.values k value }

abbrev pub edge_put : OperationTokens → (switch : ℕ) (edge : Option ℕ) → OperationTokens
edge_put m switch edge = record m { tokens = record m.tokens { edges = slice_set m.tokens.edges switch edge } }

-- While it is asked for, it is counted for how much each node waits, and those are marked that wait for nothing. The marks of the nodes
-- that another game leads are its own: since they wait for that too, their counts are never 0. What is remembered of lines is right.
pub record IsCounted (x : OperationNet) (s : Places) : Type 0 where
  pub counts : s.counted ≡ true → s.counts.items ≡ map (awaits x s.apart.items (standing s)) (range_with_len 0 (node_total x))
  pub marks : s.counted ≡ true → AreMarksBut (node_total x) (has s.apart.items) (λ k. awaits x s.apart.items (standing s) k == 0) s.set
  pub none : s.counted ≡ false → s.counts.items ≡ []
  pub leads : All (IsLead x) s.leads.items

-- The same while node k fires. For what it waits anew is counted at once, so its count is ahead of what it waits for by as much as its
-- firing has still to change.
pub record IsCountedAhead (x : OperationNet) (s : Places) (k ahead : ℕ) : Type 0 where
  pub counts : s.counted ≡ true → s.counts.items ≡ map (more_of (awaits x s.apart.items (standing s)) k ahead) (range_with_len 0 (node_total x))
  pub marks : s.counted ≡ true → AreMarksBut (node_total x) (has s.apart.items) (λ j. more_of (awaits x s.apart.items (standing s)) k ahead j == 0) s.set
  pub none : s.counted ≡ false → s.counts.items ≡ []
  pub leads : All (IsLead x) s.leads.items

-- the count of k is ahead by so much at least
pub record IsAheadBy (x : OperationNet) (s : Places) (k least : ℕ) : Type 0 where
  pub rest : ℕ
  pub counted : IsCountedAhead x s k (least + rest)

-- a change makes up for so much of what the count of k is ahead by
abbrev pub MakesUp : OperationNet → (old new : Places) (k much : ℕ) → Type 0
MakesUp x old new k much = (rest : ℕ) → IsCountedAhead x old k (much + rest) → IsCountedAhead x new k rest

-- it is counted after a change as it was before, and the marks of the nodes that another game leads are as they were
pub record KeepsCounts (old new : Places) : Type 0 where
  pub counted : new.counted ≡ old.counted
  pub marks : length new.set ≡ length old.set
  pub room : vec_capacity old.counts ≤ vec_capacity new.counts
  pub apart : new.apart.items ≡ old.apart.items
  pub flags : (k : ℕ) → has old.apart.items k ≡ true → has new.set k ≡ has old.set k
