use Rattle.std.proofs.Common.{◌≡◌, ◌<◌, ◌∙◌, length, get_or, replicate, sym, ap, arith}
use Rattle.std.proofs.lemmas.List.{get_or_read, length-replicate}
use Rattle.closed_walks.specs.Graph.{edge_count, from}
use Rattle.region_tree.specs.Listing.{IsListedAt}
use Rattle.region_tree.specs.Nesting.{table}
use Rattle.region_tree.specs.Tree.{IsLeastOrNone, exit_of}
use Rattle.closed_walks.proofs.Held.{Holds-at, zero_of}
use Rattle.region_tree.proofs.Within.{IsOuter}
use Rattle.region_tree.proofs.Nestings.{IsNested-begin, IsNested-none, IsNested-entered, here_row, outer_right_stays, outer_right_leaves}
use Rattle.region_tree.proofs.nesting.nest.Goals as goal
use Rattle.region_tree.proofs.nesting.nest.Goals.{then-index-e, else-index-e, then-entered-eq0, else-entered-eq0}

pub loop-e-init : goal.loop-e-init
loop-e-init c =
    let g = c.args.g.now in
    let t = table c.args.listing.now.entries.items c.args.listing.now.exits.items in
    let parents : c.in_ok-parents.parents.items ≡ replicate c.len.result 0 = c.in_ok-parents.ensures.items_if_clones_equal (λ y same. same) in
    let innermost : c.in_ok-innermost.innermost.items ≡ replicate c.nodes.result 0 = c.in_ok-innermost.ensures.items_if_clones_equal (λ y same. same) in
    let size : length c.in_ok-parents.parents.items ≡ length c.args.listing.now.entries.items = ap length parents ∙ (length-replicate c.len.result 0 ∙ omega (arith, c.len.ensures, c.args.listing.now.entries.ok.0)) in
    IsNested-begin g c.requires.flow (c.region_facts.ensures g c.requires.flow) t c.requires.regions c.in_ok-parents.parents.items c.in_ok-innermost.innermost.items
    size (zero_of c.in_ok-parents.parents.items c.len.result parents)
    (ap length innermost ∙ (length-replicate c.nodes.result 0 ∙ c.nodes.ensures.count)) (zero_of c.in_ok-innermost.innermost.items c.nodes.result innermost)

pub from-requires : goal.from-requires
from-requires c = c.requires.scan.exist (get_or c.args.edges.now c.loop-e.e-index 0) (Holds-at c.args.edges.now c.loop-e.e-index c.loop-e-test.true)

pub index-entered-requires : goal.index-entered-requires
index-entered-requires c = omega (arith, c.requires.scan.exist (get_or c.args.edges.now c.loop-e.e-index 0) (Holds-at c.args.edges.now c.loop-e.e-index c.loop-e-test.true), c.requires.numbers.size)

pub to-requires : goal.to-requires
to-requires c = c.requires.scan.exist (get_or c.args.edges.now c.loop-e.e-index 0) (Holds-at c.args.edges.now c.loop-e.e-index c.loop-e-test.true)

pub index-requires : goal.index-requires
index-requires c =
    let g = c.args.g.now in
    let t = table c.args.listing.now.entries.items c.args.listing.now.exits.items in
    let edges = c.args.edges.now in
    let k = c.loop-e.e-index in
    let e = get_or edges k 0 in
    let innermost = c.loop-e.innermost.items in
    let parents = c.loop-e.parents.items in
    let facts = c.region_facts.ensures g c.requires.flow in
    let read : c.index-here.result.now ≡ get_or innermost (from g e) 0 =
    get_or_read innermost c.from.result c.index-here.result.now (omega (arith, c.from.ensures.exists, c.loop-e.invariant.nodes)) c.index-here.ensures 0 ∙ ap (λ n. get_or innermost n 0) c.from.ensures.node in
    let row = here_row g c.requires.flow facts t c.requires.regions edges c.requires.scan k c.loop-e-test.true parents innermost c.loop-e.invariant in
    omega (arith, read, row, c.requires.regions.size)

pub index-requires-then-index-e : goal.index-requires-then-index-e
index-requires-then-index-e c =
    let g = c.args.g.now in
    let t = table c.args.listing.now.entries.items c.args.listing.now.exits.items in
    let edges = c.args.edges.now in
    let k = c.loop-e.e-index in
    let e = get_or edges k 0 in
    let innermost = c.loop-e.innermost.items in
    let parents = c.loop-e.parents.items in
    let facts = c.region_facts.ensures g c.requires.flow in
    let read : c.index-here.result.now ≡ get_or innermost (from g e) 0 =
    get_or_read innermost c.from.result c.index-here.result.now (omega (arith, c.from.ensures.exists, c.loop-e.invariant.nodes)) c.index-here.ensures 0 ∙ ap (λ n. get_or innermost n 0) c.from.ensures.node in
    let row = here_row g c.requires.flow facts t c.requires.regions edges c.requires.scan k c.loop-e-test.true parents innermost c.loop-e.invariant in
    omega (arith, read, row, c.loop-e.invariant.parents_size)

pub index_mut-requires : goal.index_mut-requires
index_mut-requires c =
    let e = get_or c.args.edges.now c.loop-e.e-index 0 in
    let numbers = c.args.listing.now.numbers.items in
    let edge : e < edge_count c.args.g.now = c.requires.scan.exist e (Holds-at c.args.edges.now c.loop-e.e-index c.loop-e-test.true) in
    let read : c.index-entered.result.now ≡ get_or numbers e 0 = get_or_read numbers e c.index-entered.result.now (omega (arith, edge, c.requires.numbers.size)) c.index-entered.ensures 0 in
    let at : IsListedAt c.args.listing.now.entries.items e (get_or numbers e 0) = c.requires.numbers.entered e edge (λ none. c.if-entered-eq0.false (read ∙ none)) in
    let within = at.within in
    omega (arith, read, within, c.loop-e.invariant.parents_size)

pub loop-e-preserved : goal.loop-e-preserved
loop-e-preserved c =
    let g = c.args.g.now in
    let t = table c.args.listing.now.entries.items c.args.listing.now.exits.items in
    let edges = c.args.edges.now in
    let k = c.loop-e.e-index in
    let e = get_or edges k 0 in
    let innermost = c.loop-e.innermost.items in
    let parents = c.loop-e.parents.items in
    let facts = c.region_facts.ensures g c.requires.flow in
    let read : c.index-here.result.now ≡ get_or innermost (from g e) 0 =
    get_or_read innermost c.from.result c.index-here.result.now (omega (arith, c.from.ensures.exists, c.loop-e.invariant.nodes)) c.index-here.ensures 0 ∙ ap (λ n. get_or innermost n 0) c.from.ensures.node in
    let row = here_row g c.requires.flow facts t c.requires.regions edges c.requires.scan k c.loop-e-test.true parents innermost c.loop-e.invariant in
    let numbers = c.args.listing.now.numbers.items in
    let edge : e < edge_count g = c.requires.scan.exist e (Holds-at edges k c.loop-e-test.true) in
    let exit : c.index.result.now ≡ exit_of t (get_or innermost (from g e) 0) =
    get_or_read t.exits c.index-here.result.now c.index.result.now (omega (arith, read, row, c.requires.regions.size)) c.index.ensures 0 ∙ ap (λ n. get_or t.exits n 0) read in
    let outer : IsLeastOrNone g t (λ q. IsOuter g t e q) c.if-index-e.outer = elim c.if-index-e.branch [
      | then-index-e w ↦
          let parent : w.index-then-index-e.result.now ≡ get_or parents (get_or innermost (from g e) 0) 0 =
          get_or_read parents c.index-here.result.now w.index-then-index-e.result.now (omega (arith, read, row, c.loop-e.invariant.parents_size)) w.index-then-index-e.ensures 0 ∙ ap (λ n. get_or parents n 0) read in
          rw (w.outer-is, parent) (outer_right_leaves g c.requires.flow facts t c.requires.regions edges c.requires.scan k c.loop-e-test.true parents innermost c.loop-e.invariant (sym exit ∙ w.if-index-e.true))
      | else-index-e w ↦
          rw (w.outer-is, read) (outer_right_stays g c.requires.flow facts t c.requires.regions edges c.requires.scan k c.loop-e-test.true parents innermost c.loop-e.invariant (λ same. w.if-index-e.false (exit ∙ same)))
    ] in
    let entered : c.index-entered.result.now ≡ get_or numbers e 0 = get_or_read numbers e c.index-entered.result.now (omega (arith, edge, c.requires.numbers.size)) c.index-entered.ensures 0 in
    rw c.to.ensures.node
    (elim c.if-entered-eq0.branch [
      | then-entered-eq0 w ↦
          rw (w.parents-is, w.there-is)
          (IsNested-none g c.requires.flow facts t c.requires.regions edges c.requires.scan k c.loop-e-test.true parents innermost c.loop-e.invariant c.if-index-e.outer outer
          (λ q number is_entry. c.requires.numbers.none e q edge (sym entered ∙ w.if-entered-eq0.true) (record { some = number.0; within = number.1; entry = is_entry })))
      | else-entered-eq0 w ↦
          let at : IsListedAt c.args.listing.now.entries.items e (get_or numbers e 0) = c.requires.numbers.entered e edge (λ none. w.if-entered-eq0.false (entered ∙ none)) in
          rw (w.parents-is, w.there-is, entered)
          (IsNested-entered g c.requires.flow facts t c.requires.regions edges c.requires.scan k c.loop-e-test.true parents innermost c.loop-e.invariant c.if-index-e.outer (get_or numbers e 0) outer (at.some, at.within) at.entry)
    ])
