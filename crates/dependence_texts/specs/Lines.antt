-- Dependences as lines of text. The numbers are those of lines of the program's text.
use Rattle.std.specs.Prelude.{ℕ, ◌==◌, Bool, true, false, ◌&&◌, if◌then◌else◌, List, [], ◌++◌, Option, None, Some, Vec, codes, flat_map, slice_get}
use Rattle.std.specs.Fmt.{decimal}
use Rattle.std.specs.declared.alloc.Global.{Global}
use Rattle.printed_graphs.specs.declared.dataflow.PrintedGraph.{PrintedGraph}
use Rattle.printed_graphs.specs.declared.dataflow.TokenLine.{TokenLine}
use Rattle.printed_graphs.specs.declared.dataflow.TokenLine.TheVariants as token_line
use Rattle.graph_dependences.specs.declared.dependence.Dependence.{Dependence}
use Rattle.graph_dependences.specs.declared.kinds.Kind.{Kind}
use Rattle.graph_dependences.specs.declared.kinds.Kind.TheVariants as kind
use Rattle.graph_dependences.specs.declared.waiting.Wait.{Wait}
use Rattle.graph_dependences.specs.declared.waiting.Wait.TheVariants as wait

abbrev pub kind_text : Kind → List ℕ
kind_text kind.Flow = codes "FLOW"
kind_text kind.Anti = codes "ANTI"
kind_text kind.Output = codes "OUTPUT"
kind_text kind.Order = codes "ORDER"
kind_text kind.Control = codes "CONTROL"

-- the token line by which a statement depends, if it does by one
abbrev pub line_of : PrintedGraph → Option ℕ → Option TokenLine
line_of g None = None
line_of g (Some line) = slice_get g.lines.items line

-- a name after a space
abbrev pub spaced : Vec ℕ Global → List ℕ
spaced name = codes " " ++ name.items

-- what a token line stands for, as `dfc graph` prints it; that of output is told by the kind
abbrev pub names_text : Option TokenLine → List ℕ
names_text (Some (token_line.Class names)) = flat_map spaced names.items
names_text (Some (token_line.Loop line)) = codes " *DO" ++ decimal line
names_text (Some token_line.Output) = []
names_text None = []

abbrev pub end_text : (is_carried : Bool) → List ℕ
end_text is_carried = if is_carried then codes " CARRIED\n" else codes "\n"

abbrev pub dependence_text : PrintedGraph → Dependence → List ℕ
dependence_text g d =
    (decimal d.from ++ codes " -> " ++ decimal d.to ++ codes " " ++ kind_text d.kind)
    ++ names_text (line_of g d.token_line) ++ end_text d.is_carried

-- ---- independence

-- how a statement waits for another, if it does
abbrev pub wait_text : (who whom : ℕ) → Wait → List ℕ
wait_text who whom wait.Never = []
wait_text who whom wait.Carried = decimal who ++ codes " WAITS FOR " ++ decimal whom ++ codes " CARRIED\n"
wait_text who whom wait.Always = decimal who ++ codes " WAITS FOR " ++ decimal whom ++ codes "\n"

abbrev pub is_never : Wait → Bool
is_never wait.Never = true
is_never _ = false

-- how the first statement waits for the second, where it is another one
abbrev pub back_text : (first second : ℕ) → (back : Wait) → List ℕ
back_text first second back = if first == second then [] else wait_text first second back

-- how two statements wait for one another: the second for the first, and the first for the second
abbrev pub independence_text : (first second : ℕ) → (forth back : Wait) → List ℕ
independence_text first second forth back = if is_never forth && is_never back then codes "INDEPENDENT\n" else wait_text second first forth ++ back_text first second back
