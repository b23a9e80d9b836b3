-- The lines of wires and of bypasses, as both sides write them.
use Rattle.std.proofs.Common.{◌≡◌, ℕ, Bool, ◌*◌, ◌<◌, ◌≤◌, ◌^◌, List, [], ◌∷◌, ◌++◌, length, map, filter, flat_map, codes, All, ap, sym, ◌∙◌, subst, arith}
use Rattle.std.specs.Fmt.{decimal}
use Rattle.std.specs.List.{range_with_len}
use Rattle.std.proofs.Math.Nat.{lt_trans}
use Rattle.std.proofs.lemmas.List.{length-map}
use Rattle.std.proofs.lemmas.List.Elements.{All-filter, All-map, All-weaker}
use Rattle.std.proofs.lemmas.List.Folds.{flat_map-map}
use Rattle.std.proofs.lemmas.List.FromFn.{length-range_with_len, length-map-range_with_len}
use Rattle.closed_walks.specs.Graph.{Graph, edge_count}
use Rattle.dep_routing.specs.FreeLines.{is_bypass}
use Rattle.dep_routing.specs.Routing.{Routing, next_at, wire_at}
use Rattle.graph_texts.specs.GraphText.{hop_lines, hops_of, hops_text, numbers_text, wire_line, wire_lines, wires_of}
use Rattle.printed_graphs.specs.declared.dataflow.Bypass.{Bypass}
use Rattle.printed_graphs.specs.declared.dataflow.Wires.{Wires}
use Rattle.printed_graphs.specs.DataflowText.{bypass_text, wires_text}
use Rattle.printed_graphs.specs.Printable.{AreShort, IsPrintableBypass, IsPrintableWires}
use Rattle.printed_graphs.specs.Words.{lines_from}
use Rattle.printed_laws.proofs.Lines.{all_made_below, each_below, each_of_parts, filtered_most, lines_same, nested_parts, parts_most}
use Rattle.printed_laws.proofs.Rows.{vec_with, capped_is, short_is_small}

edges_exist : (g : Graph) (test : ℕ → Bool) → All (λ e. e < edge_count g) (filter test (range_with_len 0 (edge_count g)))
edges_exist g test = All-filter test (λ e. e < edge_count g) (range_with_len 0 (edge_count g)) (each_below (edge_count g))

edges_few : (g : Graph) (test : ℕ → Bool) → length (filter test (range_with_len 0 (edge_count g))) ≤ edge_count g
edges_few g test =
    let most = filtered_most test (range_with_len 0 (edge_count g)) in
    let all = length-range_with_len 0 (edge_count g) in
    omega (arith, most, all)

-- ---- wires

abbrev pub wires_at : Graph → Routing → (line : ℕ) → Wires
wires_at g r line = record { edges = vec_with (wires_of g r line) }

wires_kept : (g : Graph) (r : Routing) (line top : ℕ) → edge_count g < top → length (wires_of g r line) < top
wires_kept g r line top few = let most = edges_few g (wire_at r line) in omega (arith, most, few)

wires_same : (g : Graph) (r : Routing) (line : ℕ) → edge_count g < 2 ^ 63 → wires_text line (wires_at g r line) ≡ wire_line g r line
wires_same g r line few =
    ap (λ edges. codes "W " ++ decimal line ++ numbers_text edges ++ (10 ∷ [])) (capped_is (wires_of g r line) (wires_kept g r line (2 ^ 63) few))

abbrev pub wires_told_of : Graph → Routing → List Wires
wires_told_of g r = map (wires_at g r) (range_with_len 0 r.lines)

pub wires_told : (g : Graph) (r : Routing) → edge_count g < 2 ^ 63 → lines_from wires_text 0 (wires_told_of g r) ≡ wire_lines g r
wires_told g r few =
    lines_same wires_text (wires_at g r) (wire_line g r) 0 0 0 r.lines (omega arith)
    (λ i k at low lt. let same : i ≡ k = omega (arith, at) in ap (λ n. wires_text n (wires_at g r k)) same ∙ wires_same g r k few)

pub wires_counted : (g : Graph) (r : Routing) → length (wires_told_of g r) ≡ r.lines
wires_counted g r = length-map-range_with_len (wires_at g r) 0 r.lines

wires_short : (g : Graph) (r : Routing) (line : ℕ) → edge_count g < 2 ^ 32 → IsPrintableWires (wires_at g r line)
wires_short g r line few =
    subst AreShort (sym (capped_is (wires_of g r line) (wires_kept g r line (2 ^ 63) (lt_trans few short_is_small))))
    (All-weaker (λ e. e < edge_count g) (λ e. e < 2 ^ 32) (λ e lt. lt_trans lt few) (wires_of g r line) (edges_exist g (wire_at r line)))

pub wires_printable : (g : Graph) (r : Routing) → edge_count g < 2 ^ 32 → All IsPrintableWires (wires_told_of g r)
wires_printable g r few =
    all_made_below IsPrintableWires (wires_at g r) r.lines (λ line lt. wires_short g r line few)

-- ---- bypasses

abbrev pub bypass_at : Routing → (line e : ℕ) → Bypass
bypass_at r line e = record { line = line; edge = e; next = next_at r line e }

abbrev pub bypasses_at : Graph → Routing → (line : ℕ) → List Bypass
bypasses_at g r line = map (bypass_at r line) (hops_of g r line)

abbrev pub bypasses_told_of : Graph → Routing → List Bypass
bypasses_told_of g r = flat_map (bypasses_at g r) (range_with_len 0 r.lines)

pub bypasses_told : (g : Graph) (r : Routing) → flat_map bypass_text (bypasses_told_of g r) ≡ hop_lines g r
bypasses_told g r =
    nested_parts (λ line. line < r.lines) bypass_text (bypasses_at g r) (hops_text g r) (range_with_len 0 r.lines)
    (λ line lt. flat_map-map bypass_text (bypass_at r line) (hops_of g r line))
    (each_below r.lines)

pub bypasses_few : (g : Graph) (r : Routing) → length (bypasses_told_of g r) ≤ r.lines * edge_count g
bypasses_few g r =
    let most = parts_most (bypasses_at g r) (range_with_len 0 r.lines) (edge_count g) (λ line. let same = length-map (hops_of g r line) (bypass_at r line) in let few = edges_few g (λ e. is_bypass g r e line) in omega (arith, same, few)) in
    subst (λ n. length (bypasses_told_of g r) ≤ n * edge_count g) (length-range_with_len 0 r.lines) most

-- a line is led to an edge of the graph
abbrev pub AreLed : Graph → Routing → Type 0
AreLed g r = (line e : ℕ) → line < r.lines → e < edge_count g → next_at r line e < edge_count g

bypass_short : (g : Graph) (r : Routing) (line e : ℕ) → r.lines < 2 ^ 32 → edge_count g < 2 ^ 32 → AreLed g r → line < r.lines → e < edge_count g → IsPrintableBypass (bypass_at r line e)
bypass_short g r line e few_lines few led exists lt = record { line = lt_trans exists few_lines; edge = lt_trans lt few; next = lt_trans (led line e exists lt) few }

bypasses_short : (g : Graph) (r : Routing) (line : ℕ) → r.lines < 2 ^ 32 → edge_count g < 2 ^ 32 → AreLed g r → line < r.lines → All IsPrintableBypass (bypasses_at g r line)
bypasses_short g r line few_lines few led exists =
    All-map IsPrintableBypass (bypass_at r line) (hops_of g r line)
    (All-weaker (λ e. e < edge_count g) (λ e. IsPrintableBypass (bypass_at r line e)) (λ e lt. bypass_short g r line e few_lines few led exists lt) (hops_of g r line) (edges_exist g (λ e. is_bypass g r e line)))

pub bypasses_printable : (g : Graph) (r : Routing) → r.lines < 2 ^ 32 → edge_count g < 2 ^ 32 → AreLed g r → All IsPrintableBypass (bypasses_told_of g r)
bypasses_printable g r few_lines few led =
    each_of_parts (λ line. line < r.lines) IsPrintableBypass (bypasses_at g r) (range_with_len 0 r.lines)
    (λ line exists. bypasses_short g r line few_lines few led exists)
    (each_below r.lines)
