-- Closed tables of constants: what is known where a piece is entered goes on, as the piece changes it, to where it is left.
use Rattle.std.specs.Prelude.{◌≡◌, ◌<◌, ℕ, ℤ, pos, Bool, true, false, ◌==◌, ◌&&◌, not, if◌then◌else◌, List, length, map, count_by, Option, is_some, slice_get}
use Rattle.op_table.specs.Operators.{which_of_three, picked}
use Rattle.op_table.specs.Trips.{at_least_zero}
use Rattle.op_table.specs.Words.{is_true}
use Rattle.closed_walks.specs.Graph.{edge_count, to}
use Rattle.f77_tree.specs.declared.expressions.Access.{Access}
use Rattle.f77_tree.specs.declared.programs.ExecKind.{ExecKind}
use Rattle.f77_tree.specs.declared.programs.ExecKind.TheVariants.{Assign, Test, Sign, Pick, DoStart}
use Rattle.f77_tree.specs.declared.programs.NameInfo.{NameInfo}
use Rattle.f77_tree.specs.declared.programs.Program.{Program}
use Rattle.f77_tree.specs.Known.{known}
use Rattle.f77_tree.specs.KnownWith.{known_word, known_with}
use Rattle.f77_tree.specs.Value.{word_at}
use Rattle.alias_classes.specs.Classes.{ClassTable, class_of_word}
use Rattle.alias_classes.specs.Writes.{ExecWritesOrCounts}
use Rattle.cfg_build.specs.declared.pieces.PieceKind.{PieceKind}
use Rattle.cfg_build.specs.declared.pieces.PieceKind.TheVariants.{Act, Branch, Join, Hold, End}
use Rattle.cfg_build.specs.Flow.{piece_at}
use Rattle.cfg_build.specs.Joined.{FlowGraph}
use Rattle.cfg_build.specs.Passes.{outs, out, kind_in}
use Rattle.cfg_build.specs.Shape.{kind_at}
use Rattle.dep_routing.specs.Routing.{Routing, next_at, wire_at}
use Rattle.const_prop.specs.declared.known.Known.{Known}
use Rattle.const_prop.specs.declared.known.Known.TheVariants.{Nothing, One, Any}
use Rattle.const_prop.specs.Known.{AtMost, IsSomething, IsNotOne, one_of, as_known, as_index}
use Rattle.const_prop.specs.Table.{Knowns, IsBelow}

-- ---- kinds of pieces

-- the piece reads and changes what its lines bring
abbrev pub is_action : PieceKind → Bool
is_action Act = true
is_action Branch = true
is_action Hold = true
is_action _ = false

-- control decides at the piece, which has several out-edges
abbrev pub is_switch : PieceKind → Bool
is_switch Branch = true
is_switch Hold = true
is_switch _ = false

-- control comes together at the piece
abbrev pub is_merge : PieceKind → Bool
is_merge Join = true
is_merge End = true
is_merge _ = false

-- the decision lets control take the out-edge i
abbrev pub Allows : Known → (i : ℕ) → Type 0
Allows Nothing i = ⊥
Allows (One v) i = v ≡ pos i
Allows Any i = Unit {0}

-- so does the kind of the piece, where nothing is decided at it
abbrev pub KindAllows : PieceKind → Known → (i : ℕ) → Type 0
KindAllows Branch decision i = Allows decision i
KindAllows Hold decision i = Allows decision i
KindAllows _ decision i = Unit {0}

-- ---- lines

-- the line is a class of words with one word
abbrev pub is_one_word : ClassTable → (line : ℕ) → Bool
is_one_word c line = not (line == 0) && (count_by (λ n. n == line) c.numbers == 1)

-- what is known of words on an edge: those of lines that have one value there
abbrev pub words_on : ClassTable → Knowns → (edge word : ℕ) → Option ℤ
words_on c t edge word = one_of (t.value (class_of_word c word) edge)

-- ---- what pieces write, and decide

-- the piece writes to a word of the line, or may do so: an act alone does
abbrev pub KindWrites : ClassTable → PieceKind → ExecKind → (line : ℕ) → Type 0
KindWrites c Act kind line = ExecWritesOrCounts c kind line
KindWrites c _ kind line = ⊥

-- an access surely hits the one word of its class, where its subscripts are known without the table
abbrev pub is_sure : List NameInfo → Access → Bool
is_sure names access = is_some (known_word names access.name (map known access.subs))

-- what is known of a line that is written: the value, where that is known, of a one-word class that is surely hit; the class of
-- the count and the step of a DO has no word
abbrev pub written : List NameInfo → ClassTable → (words : ℕ → Option ℤ) → ExecKind → (line : ℕ) → Known
written names c words (Assign target e next) line = if is_sure names target && is_one_word c line then as_known (known_with names words e) else Any
written names c words (DoStart loop_no var first last step body exit) line = if is_one_word c line then as_known (known_with names words first) else Any
written names c words _ line = Any

-- the index of the out-edge that the known selector of a branch takes; the test of a DO has none
abbrev pub selected : List NameInfo → (words : ℕ → Option ℤ) → ExecKind → Known
selected names words (Test cond if_true if_false) = as_index (λ z. if is_true z then 0 else 1) (known_with names words cond)
selected names words (Sign e neg zero pos') = as_index (λ z. at_least_zero (which_of_three z)) (known_with names words e)
selected names words (Pick e targets other) = as_index (λ z. at_least_zero (picked z (pos (length targets)))) (known_with names words e)
selected names words _ = Any

-- a hold always takes its first out-edge
abbrev pub decided : List NameInfo → (words : ℕ → Option ℤ) → PieceKind → ExecKind → Known
decided names words Hold kind = One (pos 0)
decided names words _ kind = selected names words kind

-- ---- the rules

-- the piece at which an edge of the flow graph ends
abbrev pub kind_after : FlowGraph → (e : ℕ) → PieceKind
kind_after f e = kind_at f (to f.graph e)

abbrev pub exec_after : Program → FlowGraph → (e : ℕ) → ExecKind
exec_after p f e = kind_in (slice_get p.execs (piece_at f.pieces (to f.graph e)).exec)

-- where the line stands that leaves this piece by its out-edge i
abbrev pub led_to : FlowGraph → Routing → (e line i : ℕ) → ℕ
led_to f r e line i = next_at r line (out f.graph (to f.graph e) i)

-- an edge to a piece, and an out-edge of the piece that control may take
pub record IsWay (f : FlowGraph) (t : Knowns) (e i : ℕ) : Type 0 where
  pub edge : e < edge_count f.graph
  pub exists : i < length (outs f.graph (to f.graph e))
  pub allowed : KindAllows (kind_after f e) (t.decision (to f.graph e)) i

-- an edge to a piece, on which each line that the piece touches brings something
pub record IsReady (f : FlowGraph) (touches : ℕ → ℕ → Bool) (lines : ℕ) (t : Knowns) (e : ℕ) : Type 0 where
  pub edge : e < edge_count f.graph
  pub action : is_action (kind_after f e) ≡ true
  pub each : (line : ℕ) → line < lines → touches (to f.graph e) line ≡ true → IsSomething (t.value line e)

-- the piece writes to a word of the line, or may do so
abbrev pub WritesAfter : Program → FlowGraph → ClassTable → (e line : ℕ) → Type 0
WritesAfter p f c e line = KindWrites c (kind_after f e) (exec_after p f e) line

-- what it leaves there
abbrev pub written_after : Program → FlowGraph → ClassTable → Knowns → (e line : ℕ) → Known
written_after p f c t e line = written p.names c (words_on c t e) (exec_after p f e) line

-- what it decides
abbrev pub decided_after : Program → FlowGraph → ClassTable → Knowns → (e : ℕ) → Known
decided_after p f c t e = decided p.names (words_on c t e) (kind_after f e) (exec_after p f e)

-- A table over the flow graph, the classes and the wires of a program.
module _ (p : Program) (f : FlowGraph) (c : ClassTable) (touches : ℕ → ℕ → Bool) (r : Routing) where
  pub record IsClosed (t : Knowns) : Type 0 where
    -- one value may be known of lines of one-word classes alone
    pub words : (line e : ℕ) → line < r.lines → e < edge_count f.graph → is_one_word c line ≡ false → IsNotOne (t.value line e)
    -- opening: a one-word class has its initial word, and every other line any
    pub initial : (word : ℕ) → word < p.words → is_one_word c (class_of_word c word) ≡ true → AtMost (One (word_at p.initial word)) (t.value (class_of_word c word) (next_at r (class_of_word c word) 1))
    pub others : (line : ℕ) → line < r.lines → is_one_word c line ≡ false → AtMost Any (t.value line (next_at r line 1))
    -- decisions, of pieces on whose touched lines something comes
    pub decisions : (e : ℕ) → IsReady f touches r.lines t e → is_switch (kind_after f e) ≡ true → AtMost (decided_after p f c t e) (t.decision (to f.graph e))
    -- such a piece leaves on the lines that it writes what it writes, and passes on what it only reads
    pub writes : (e line i : ℕ) → IsReady f touches r.lines t e → IsWay f t e i → line < r.lines → touches (to f.graph e) line ≡ true → WritesAfter p f c e line → AtMost (written_after p f c t e line) (t.value line (led_to f r e line i))
    pub reads : (e line i : ℕ) → IsReady f touches r.lines t e → IsWay f t e i → line < r.lines → touches (to f.graph e) line ≡ true → (WritesAfter p f c e line → ⊥) → AtMost (t.value line e) (t.value line (led_to f r e line i))
    -- switches: a line that stands where control decides goes where control may go
    pub switches : (e line i : ℕ) → IsWay f t e i → is_switch (kind_after f e) ≡ true → line < r.lines → touches (to f.graph e) line ≡ false → wire_at r line e ≡ true → AtMost (t.value line e) (t.value line (led_to f r e line i))
    -- merges: a line that stands where control comes together goes on
    pub merges : (e line i : ℕ) → IsWay f t e i → is_merge (kind_after f e) ≡ true → line < r.lines → wire_at r line e ≡ true → AtMost (t.value line e) (t.value line (led_to f r e line i))

  -- The constants of a program: the least closed table.
  pub record IsConstants (t : Knowns) : Type 0 where
    pub closed : IsClosed t
    pub least : (s : Knowns) → IsClosed s → IsBelow r.lines (edge_count f.graph) f.graph.nodes t s
