-- The parts of the text of a net, by what was found of its program.
use Rattle.std.proofs.Common.{◌≡◌, ℕ, [], ◌∷◌, ◌++◌, List, length, codes, sym, ap, ◌∙◌, append_assoc}
use Rattle.std.specs.Fmt.{decimal}
use Rattle.closed_walks.specs.Graph.{Graph}
use Rattle.dep_routing.specs.Routing.{Routing}
use Rattle.net_board.specs.Nodes.{graph_in}
use Rattle.op_board.specs.OperationNets.{OperationNet, all_operation_nodes}
use Rattle.graph_texts.specs.GraphText.{hop_lines, size_line, wire_lines}

-- how many lines and nodes there are
abbrev pub size_text : (lines nodes : ℕ) → List ℕ
size_text lines nodes = codes "LINES " ++ decimal lines ++ (codes " NODES " ++ decimal nodes) ++ 10 ∷ []

pub size_told : (x : OperationNet) (lines nodes : ℕ) → lines ≡ x.net.routing.lines → nodes ≡ length (all_operation_nodes x) → size_text lines nodes ≡ size_line x
size_told x lines nodes all count =
    let total = length (all_operation_nodes x) in
    ap (λ n. size_text n nodes) all
    ∙ ap (size_text x.net.routing.lines) count
    ∙ ap (λ (text : List ℕ). text ++ 10 ∷ []) (sym (append_assoc (codes "LINES " ++ decimal x.net.routing.lines) (codes " NODES ") (decimal total)))

pub wires_told : (x : OperationNet) (g : Graph) (r : Routing) → g ≡ graph_in x.net → r ≡ x.net.routing → wire_lines g r ≡ wire_lines (graph_in x.net) x.net.routing
wires_told x g r graph routing = ap (λ (h : Graph). wire_lines h r) graph ∙ ap (wire_lines (graph_in x.net)) routing

pub hops_told : (x : OperationNet) (g : Graph) (r : Routing) → g ≡ graph_in x.net → r ≡ x.net.routing → hop_lines g r ≡ hop_lines (graph_in x.net) x.net.routing
hops_told x g r graph routing = ap (λ (h : Graph). hop_lines h r) graph ∙ ap (hop_lines (graph_in x.net)) routing
