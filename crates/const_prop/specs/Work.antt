-- A table in the making, and what waits to be passed on. No public clause cites this module.
use Rattle.std.proofs.Common.{zero, suc}
use Rattle.std.specs.Prelude.{◌≡◌, ◌<◌, ◌≤◌, ◌+◌, ◌*◌, ◌⊎◌, ◌||◌, ℕ, Bool, true, false, if◌then◌else◌, length, sum_by, replicate}
use Rattle.class_set.specs.ClassSet.{holds}
use Rattle.class_set.specs.declared.ClassSet.{ClassSet}
use Rattle.closed_walks.specs.Graph.{edge_count, to}
use Rattle.f77_tree.specs.declared.programs.Program.{Program}
use Rattle.f77_tree.specs.Value.{word_at}
use Rattle.alias_classes.specs.Classes.{ClassTable, class_of_word}
use Rattle.cfg_build.specs.Joined.{FlowGraph}
use Rattle.dep_routing.specs.Routing.{Routing, next_at, wire_at}
use Rattle.const_prop.specs.declared.known.Known.{Known}
use Rattle.const_prop.specs.declared.known.Known.TheVariants.{Nothing, One, Any}
use Rattle.const_prop.specs.declared.work.Work.{Work}
use Rattle.const_prop.specs.Closed.{IsClosed, IsReady, IsWay, WritesAfter, written_after, decided_after, kind_after, led_to, is_switch, is_merge, is_one_word}
use Rattle.const_prop.specs.Known.{AtMost, IsNotOne}
use Rattle.const_prop.specs.EdgeSet.{edge_holds}
use Rattle.const_prop.specs.KnownRows.{edges_of, value_in}
use Rattle.const_prop.specs.Rise.{room}
use Rattle.const_prop.specs.SparseSets.{keys_of, set_holds}
use Rattle.const_prop.specs.Table.{Knowns, IsBelow, knowns}

-- the sum of the first terms
abbrev pub sum_below : (term : ℕ → ℕ) → (n : ℕ) → ℕ
sum_below term zero = 0
sum_below term (suc n) = sum_below term n + term n

-- how often all that is known can rise
abbrev pub rooms : (value : ℕ → ℕ → Known) → (lines edges : ℕ) → ℕ
rooms value lines edges = sum_below (λ e. sum_below (λ line. room (value line e)) lines) edges

-- one for each that waits
abbrev pub one_if : Bool → ℕ
one_if waits = if waits then 1 else 0

module _ {W : ℕ} where
  -- what is known so far
  abbrev pub so_far : Work W → Knowns
  so_far w = knowns w.known w.decisions.items

  -- more is known of the line on the edge than was passed on
  abbrev pub is_pending : Work W → (line e : ℕ) → Bool
  is_pending w line e = set_holds w.pending e line

  abbrev pub is_waiting : Work W → (e : ℕ) → Bool
  is_waiting w e = edge_holds w.waits e

  -- a bound for the visits that are still to be made
  abbrev pub work_left : FlowGraph → (lines : ℕ) → Work W → ℕ
  work_left f lines w = rooms (value_in w.known) lines (edge_count f.graph) + sum_by room w.decisions.items + sum_below (λ e. one_if (is_waiting w e)) (edge_count f.graph)

  -- a work on so many lines, of the edges and pieces of the graph
  pub record IsSized (f : FlowGraph) (lines : ℕ) (w : Work W) : Type 0 where
    pub lines_are : w.known.lines ≡ lines
    pub edges_are : edges_of w.known ≡ edge_count f.graph
    pub decisions : length w.decisions.items ≡ f.graph.nodes
    pub pending : keys_of w.pending ≡ edge_count f.graph
    pub waits : edge_count f.graph ≤ 64 * length w.waits

  -- no edge waits from an edge on
  abbrev pub NoneWaits : FlowGraph → Work W → (from : ℕ) → Type 0
  NoneWaits f w from = (e : ℕ) → from ≤ e → e < edge_count f.graph → is_waiting w e ≡ false

  -- the least edge that waits, from an edge on
  pub record IsNextWaiting (f : FlowGraph) (w : Work W) (from next : ℕ) : Type 0 where
    pub edge : next < edge_count f.graph
    pub after : from ≤ next
    pub waits : is_waiting w next ≡ true
    pub least : (e : ℕ) → from ≤ e → e < next → is_waiting w e ≡ false

  -- More is known: where it is, the line is to be passed on, and the edge waits.
  pub record Rises (f : FlowGraph) (lines : ℕ) (old new : Work W) : Type 0 where
    pub sized : IsSized f lines new
    pub decisions : new.decisions.items ≡ old.decisions.items
    pub grows : (line e : ℕ) → line < lines → e < edge_count f.graph → AtMost ((so_far old).value line e) ((so_far new).value line e)
    pub moved : (line e : ℕ) → line < lines → e < edge_count f.graph → (is_pending new line e ≡ true) ⊎ ((so_far new).value line e ≡ (so_far old).value line e)
    pub kept : (line e : ℕ) → is_pending old line e ≡ true → is_pending new line e ≡ true
    pub waiting : (e : ℕ) → is_waiting old e ≡ true → is_waiting new e ≡ true
    pub woken : (line e : ℕ) → is_pending new line e ≡ true → (is_pending old line e ≡ true) ⊎ (is_waiting new e ≡ true)
    pub bounded : work_left f lines new ≤ work_left f lines old

module _ (p : Program) (f : FlowGraph) (c : ClassTable) (touches : ℕ → ℕ → Bool) (r : Routing) where
  -- what is known is below every closed table
  pub record IsFound (t : Knowns) : Type 0 where
    pub words : (line e : ℕ) → line < r.lines → e < edge_count f.graph → is_one_word c line ≡ false → IsNotOne (t.value line e)
    pub below : (b : Knowns) → IsClosed p f c touches r b → IsBelow r.lines (edge_count f.graph) f.graph.nodes t b

  -- the rules of the opening hold for the first words and lines
  pub record IsOpenedFor (words lines : ℕ) (t : Knowns) : Type 0 where
    pub initial : (word : ℕ) → word < p.words → word < words → is_one_word c (class_of_word c word) ≡ true → AtMost (One (word_at p.initial word)) (t.value (class_of_word c word) (next_at r (class_of_word c word) 1))
    pub others : (line : ℕ) → line < r.lines → line < lines → is_one_word c line ≡ false → AtMost Any (t.value line (next_at r line 1))

  -- the line was passed on at a switch or a merge that doesn't touch it
  abbrev pub IsPassedOn : Knowns → (line e : ℕ) → Type 0
  IsPassedOn t line e = (i : ℕ) → IsWay f t e i → (is_switch (kind_after f e) || is_merge (kind_after f e)) ≡ true → wire_at r line e ≡ true → AtMost (t.value line e) (t.value line (led_to f r e line i))

  -- what the piece leaves on a line that it touches was passed on
  pub record IsLeft (t : Knowns) (e line i : ℕ) : Type 0 where
    pub writes : WritesAfter p f c e line → AtMost (written_after p f c t e line) (t.value line (led_to f r e line i))
    pub reads : (WritesAfter p f c e line → ⊥) → AtMost (t.value line e) (t.value line (led_to f r e line i))

  -- the rules of the piece to which the edge comes hold, for the lines among these
  pub record IsSeenFor (among : ℕ → Type 0) (t : Knowns) (e : ℕ) : Type 0 where
    pub decision : IsReady f touches r.lines t e → is_switch (kind_after f e) ≡ true → AtMost (decided_after p f c t e) (t.decision (to f.graph e))
    pub left : (line i : ℕ) → IsReady f touches r.lines t e → IsWay f t e i → line < r.lines → touches (to f.graph e) line ≡ true → among line → IsLeft t e line i

  abbrev pub IsSeen : Knowns → (e : ℕ) → Type 0
  IsSeen t e = IsSeenFor (λ line. Unit {0}) t e

  -- All rules hold, but for what waits: lines on edges, edges to pieces, and what is open besides; those of the opening hold for
  -- the first words and lines.
  pub record IsSettlingFrom {W : ℕ} (words first_lines : ℕ) (open_lines : ℕ → ℕ → Type 0) (open_edges : ℕ → Type 0) (w : Work W) : Type 0 where
    pub sized : IsSized f r.lines w
    pub found : IsFound (so_far w)
    pub opened : IsOpenedFor words first_lines (so_far w)
    pub lines : (line e : ℕ) → line < r.lines → e < edge_count f.graph → touches (to f.graph e) line ≡ false → open_lines line e ⊎ ((is_pending w line e ≡ true) ⊎ IsPassedOn (so_far w) line e)
    pub pieces : (e : ℕ) → e < edge_count f.graph → open_edges e ⊎ ((is_waiting w e ≡ true) ⊎ IsSeen (so_far w) e)
    pub waits : (line e : ℕ) → is_pending w line e ≡ true → is_waiting w e ≡ true

  abbrev pub IsSettling : {W : ℕ} → (ℕ → ℕ → Type 0) → (ℕ → Type 0) → Work W → Type 0
  IsSettling open_lines open_edges w = IsSettlingFrom p.words r.lines open_lines open_edges w

-- nothing is open
abbrev pub no_line : ℕ → ℕ → Type 0
no_line line e = ⊥

abbrev pub no_piece : ℕ → Type 0
no_piece e = ⊥

-- these lines on this edge, this edge
abbrev pub these_lines : {W : ℕ} → ClassSet W → (e : ℕ) → ℕ → ℕ → Type 0
these_lines set e l k = (k ≡ e) × (holds set l ≡ true)

abbrev pub this_piece : (e : ℕ) → ℕ → Type 0
this_piece e k = k ≡ e

-- all lines on this edge
abbrev pub all_lines : (e : ℕ) → ℕ → ℕ → Type 0
all_lines e l k = k ≡ e

-- nothing comes anywhere, and each edge waits
pub record IsBlank {W : ℕ} (f : FlowGraph) (r : Routing) (w : Work W) : Type 0 where
  pub sized : IsSized f r.lines w
  pub values : (line e : ℕ) → value_in w.known line e ≡ Nothing
  pub decisions : w.decisions.items ≡ replicate f.graph.nodes Nothing
  pub pending : (line e : ℕ) → is_pending w line e ≡ false
  pub waits : (e : ℕ) → e < edge_count f.graph → is_waiting w e ≡ true
