-- The first lines of the texts of regions and graphs.
use Rattle.std.proofs.Common.{◌≡◌, ℕ, ◌==◌, Bool, true, false, List, [], ◌∷◌, ◌++◌, length, filter, codes, refl, ap, ◌∙◌, append_assoc, arith, if◌then◌else◌}
use Rattle.std.specs.Fmt.{decimal}
use Rattle.f77_tree.specs.declared.programs.Program.{Program}
use Rattle.alias_classes.specs.Classes.{ClassTable}
use Rattle.cfg_build.specs.Joined.{FlowGraph}
use Rattle.closed_walks.specs.Graph.{edge_count}
use Rattle.closed_walks.specs.Numbering.{fresh}
use Rattle.net_board.specs.Nodes.{graph_in}
use Rattle.op_board.specs.OperationNets.{OperationNet, all_operation_nodes}
use Rattle.region_tree.specs.Tree.{Tree, region_count}
use Rattle.sample_jobs.specs.DueSamples.{first_line}
use Rattle.job_terms.specs.Due.{lines_in}
use Rattle.graph_texts.specs.GraphText.{graph_text, hop_lines, line_lines, node_lines, size_line, value_lines, wire_lines}
use Rattle.graph_jobs.specs.Regions.{counts_line, edge_lines, piece_lines, region_lines, regions_text}
use Rattle.game_jobs.proofs.NameLines.{in_four, in_number, lines_append}

-- a line that others follow
abbrev line_before : (line rest : List ℕ) → List ℕ
line_before line rest = line ++ 10 ∷ [] ++ rest

-- a text without a line feed is all of the first line, before one
first_of : (line rest : List ℕ) → lines_in line ≡ 0 → first_line (line_before line rest) ≡ line ++ 10 ∷ []
first_of [] rest none = refl
first_of (c ∷ line) rest none = on (c == 10) none (λ less. first_of line rest less)
  where
    on : (ends : Bool) → length (if ends then c ∷ filter (λ x. x == 10) line else filter (λ x. x == 10) line) ≡ 0 → (lines_in line ≡ 0 → first_line (line_before line rest) ≡ line ++ 10 ∷ []) → (if ends then c ∷ [] else c ∷ first_line (line_before line rest)) ≡ c ∷ (line ++ 10 ∷ [])
    on true some later = absurd cc
    on false less later = ap (λ text. c ∷ text) (later less)

-- ---- regions

in_counts : (p e k r : ℕ) → lines_in (codes "PIECES " ++ decimal p ++ codes " EDGES " ++ decimal e ++ codes " CLASSES " ++ decimal k ++ codes " REGIONS " ++ decimal r) ≡ 0
in_counts p e k r =
    let first = in_four (codes "PIECES ") (decimal p) (codes " EDGES ") (decimal e) in
    let more = lines_append (codes "PIECES " ++ decimal p ++ codes " EDGES " ++ decimal e) (codes " CLASSES ") in
    let third = lines_append (codes "PIECES " ++ decimal p ++ codes " EDGES " ++ decimal e ++ codes " CLASSES ") (decimal k) in
    let fifth = lines_append (codes "PIECES " ++ decimal p ++ codes " EDGES " ++ decimal e ++ codes " CLASSES " ++ decimal k) (codes " REGIONS ") in
    let last = lines_append (codes "PIECES " ++ decimal p ++ codes " EDGES " ++ decimal e ++ codes " CLASSES " ++ decimal k ++ codes " REGIONS ") (decimal r) in
    let pieces : lines_in (codes "PIECES ") ≡ 0 = refl in
    let edges : lines_in (codes " EDGES ") ≡ 0 = refl in
    let classes : lines_in (codes " CLASSES ") ≡ 0 = refl in
    let regions : lines_in (codes " REGIONS ") ≡ 0 = refl in
    let np = in_number p in
    let ne = in_number e in
    let nk = in_number k in
    let nr = in_number r in
    omega (arith, first, more, third, fifth, last, pieces, edges, classes, regions, np, ne, nk, nr)

pub first_of_regions : (f : FlowGraph) (classes : List ℕ) (t : Tree) → first_line (regions_text f classes t) ≡ counts_line (length f.pieces) (edge_count f.graph) (fresh classes) (region_count t)
first_of_regions f classes t =
    let counts = counts_line (length f.pieces) (edge_count f.graph) (fresh classes) (region_count t) in
    let a = piece_lines f.pieces (length f.pieces) in
    let b = edge_lines f.graph classes (edge_count f.graph) in
    let c = region_lines t (region_count t) in
    ap first_line (append_assoc (counts ++ a) b c ∙ append_assoc counts a (b ++ c))
    ∙ first_of (codes "PIECES " ++ decimal (length f.pieces) ++ codes " EDGES " ++ decimal (edge_count f.graph) ++ codes " CLASSES " ++ decimal (fresh classes) ++ codes " REGIONS " ++ decimal (region_count t)) (a ++ (b ++ c))
    (in_counts (length f.pieces) (edge_count f.graph) (fresh classes) (region_count t))

-- ---- graphs

pub first_of_graph : (p : Program) (c : ClassTable) (x : OperationNet) → first_line (graph_text p c x) ≡ size_line x
first_of_graph p c x =
    let nodes = length (all_operation_nodes x) in
    let lines = x.net.routing.lines in
    let size = size_line x in
    let a = line_lines p c in
    let b = node_lines x in
    let d = value_lines x in
    let e = wire_lines (graph_in x.net) x.net.routing in
    let f = hop_lines (graph_in x.net) x.net.routing in
    let four = in_four (codes "LINES ") (decimal lines) (codes " NODES ") (decimal nodes) in
    let word : lines_in (codes "LINES ") ≡ 0 = refl in
    let other : lines_in (codes " NODES ") ≡ 0 = refl in
    let nl = in_number lines in
    let nn = in_number nodes in
    ap first_line (append_assoc (size ++ a ++ b ++ d) e f ∙ append_assoc (size ++ a ++ b) d (e ++ f) ∙ append_assoc (size ++ a) b (d ++ (e ++ f)) ∙ append_assoc size a (b ++ (d ++ (e ++ f))))
    ∙ first_of (codes "LINES " ++ decimal lines ++ codes " NODES " ++ decimal nodes) (a ++ (b ++ (d ++ (e ++ f)))) (omega (arith, four, word, other, nl, nn))
