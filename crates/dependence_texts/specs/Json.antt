-- Dependences as JSON. docs/dependences.schema.json is its schema.
use Rattle.std.specs.Prelude.{ℕ, Bool, if◌then◌else◌, List, [], ◌∷◌, ◌++◌, Option, None, Some, Vec, codes, flat_map}
use Rattle.std.specs.Fmt.{decimal}
use Rattle.std.specs.declared.alloc.Global.{Global}
use Rattle.printed_graphs.specs.declared.dataflow.PrintedGraph.{PrintedGraph}
use Rattle.printed_graphs.specs.declared.dataflow.TokenLine.{TokenLine}
use Rattle.printed_graphs.specs.declared.dataflow.TokenLine.TheVariants as token_line
use Rattle.graph_dependences.specs.declared.dependence.Dependence.{Dependence}
use Rattle.dependence_texts.specs.Lines.{kind_text, line_of}

-- texts with this between them
abbrev pub separated : {A : Type 0} → (between : List ℕ) → (A → List ℕ) → List A → List ℕ
separated between text [] = []
separated between text (x ∷ xs) = text x ++ flat_map (λ y. between ++ text y) xs

abbrev pub quoted : Vec ℕ Global → List ℕ
quoted name = codes "\"" ++ name.items ++ codes "\""

-- what a token line stands for; that of output is told by the kind
abbrev pub names_json : Option TokenLine → List ℕ
names_json (Some (token_line.Class names)) = separated (codes ",") quoted names.items
names_json (Some (token_line.Loop line)) = codes "\"*DO" ++ decimal line ++ codes "\""
names_json (Some token_line.Output) = []
names_json None = []

abbrev pub carried_json : (is_carried : Bool) → List ℕ
carried_json is_carried = if is_carried then codes "],\"carried\":true}" else codes "],\"carried\":false}"

unfoldable pub head_json : Dependence → List ℕ
head_json d = codes "{\"from\":" ++ decimal d.from ++ codes ",\"to\":" ++ decimal d.to ++ codes ",\"kind\":\"" ++ kind_text d.kind ++ codes "\",\"by\":["

abbrev pub dependence_json : PrintedGraph → Dependence → List ℕ
dependence_json g d = head_json d ++ names_json (line_of g d.token_line) ++ carried_json d.is_carried

unfoldable pub dependences_json : PrintedGraph → List Dependence → List ℕ
dependences_json g all = codes "{\"format\":1,\"dependences\":[\n " ++ separated (codes ",\n ") (dependence_json g) all ++ codes "]}\n"
