-- What tables of edges tell of a line of tokens.
use Rattle.std.proofs.Common.{◌≡◌, ◌<◌, ℕ, ap, arith}
use Rattle.std.specs.Prelude.{flat_map}
use Rattle.closed_walks.specs.Graph.{Graph, edge_count}
use Rattle.alias_classes.proofs.CountingLemmas.{same_pass}
use Rattle.dep_routing.specs.FreeLines.{is_bypass}
use Rattle.dep_routing.specs.Routing.{Routing, wire_at}
use Rattle.set_columns.specs.Marks.{marked}
use Rattle.set_columns.specs.declared.columns.Columns.{Columns}
use Rattle.graph_texts.specs.EdgeTables.{AreBypasses, AreWires}
use Rattle.graph_texts.specs.GraphText.{hop_line, hops_text, numbers_text, wires_of}
use Rattle.graph_texts.proofs.SetNumbers.{members}

pub wires_are : (g : Graph) (r : Routing) (t : Columns) (line : ℕ) → AreWires g r t → line < r.lines → numbers_text (members (marked t line) (edge_count g)) ≡ numbers_text (wires_of g r line)
wires_are g r t line is within = ap numbers_text (same_pass (marked t line) (wire_at r line) 0 (edge_count g) (λ edge low below. is.marks line edge within (omega (arith, below))))

pub hops_are : (g : Graph) (r : Routing) (t : Columns) (line : ℕ) → AreBypasses g r t → line < r.lines → flat_map (hop_line r line) (members (marked t line) (edge_count g)) ≡ hops_text g r line
hops_are g r t line is within = ap (flat_map (hop_line r line)) (same_pass (marked t line) (λ edge. is_bypass g r edge line) 0 (edge_count g) (λ edge low below. is.marks line edge within (omega (arith, below))))
