use Rattle.std.proofs.Common.{◌≡◌, ◌<◌, ◌∙◌, ℕ, List, Option, length, get_or, sym, ap, subst, arith}
use Rattle.closed_walks.specs.Graph.{edge_count}
use Rattle.region_tree.specs.Classes.{next_of}
use Rattle.region_tree.specs.Listing.{IsListing, next_at}
use Rattle.region_tree.specs.Nesting.{IsNested, table}
use Rattle.region_tree.specs.Tree.{AreRegions}
use Rattle.region_tree.proofs.ClassNumbers.{class_below}
use Rattle.region_tree.proofs.Listed.{AreRegions-listed, IsRegionTree-whole}
use Rattle.region_tree.proofs.Listings.{AreEntryNumbers-all}
use Rattle.region_tree.proofs.making.region_tree.Goals as goal

pub next_edges-requires-clause-below : goal.next_edges-requires-clause-below
next_edges-requires-clause-below c =
    subst (λ (xs : List ℕ). (e : ℕ) → e < length xs → get_or xs e 0 < length xs) (sym c.as_slice.ensures.value)
    (λ e within. let below = class_below c.args.g.now c.args.classes.now.items c.requires.classes e (omega (arith, within, c.requires.classes.edges)) in omega (arith, below, c.requires.classes.edges))

pub list-requires : goal.list-requires
list-requires c = record {
  few = c.edges.ensures.few;
  size = ap length c.as_slice-3.ensures.value ∙ (c.in_ok-next.ensures.size ∙ (ap length c.as_slice.ensures.value ∙ (c.requires.classes.edges ∙ sym c.edges.ensures.count)));
}

pub nest-requires-clause-regions : goal.nest-requires-clause-regions
nest-requires-clause-regions c =
    let g = c.args.g.now in
    let classes = c.args.classes.now.items in
    let edges = c.in_ok-edges.edges.items in
    let l = c.in_ok-listing.listing in
    let size : length c.as_slice.result.now ≡ edge_count g = ap length c.as_slice.ensures.value ∙ c.requires.classes.edges in
    let nexts : (e : ℕ) → e < edge_count g → next_at c.as_slice-3.result.now e ≡ next_of classes e edges =
    λ e edge. ap (λ (xs : List (Option ℕ)). next_at xs e) c.as_slice-3.ensures.value ∙ (c.in_ok-next.ensures.next e (omega (arith, edge, size)) ∙ (ap (λ (xs : List ℕ). next_of xs e c.as_slice-2.result.now) c.as_slice.ensures.value ∙ ap (λ (xs : List ℕ). next_of classes e xs) c.as_slice-2.ensures.value)) in
    let listing : IsListing c.as_slice-3.result.now (edge_count g) l.numbers.items l.entries.items l.exits.items = subst (λ n. IsListing c.as_slice-3.result.now n l.numbers.items l.entries.items l.exits.items) c.edges.ensures.count c.in_ok-listing.ensures in
    AreRegions-listed g c.requires.flow (c.region_facts.ensures g c.requires.flow) edges c.in_ok-edges.ensures classes c.requires.classes c.as_slice-3.result.now nexts l.numbers.items l.entries.items l.exits.items listing

pub nest-requires-clause-numbers : goal.nest-requires-clause-numbers
nest-requires-clause-numbers c =
    let l = c.in_ok-listing.listing in
    AreEntryNumbers-all c.as_slice-3.result.now (edge_count c.args.g.now) l.numbers.items l.entries.items l.exits.items
    (subst (λ n. IsListing c.as_slice-3.result.now n l.numbers.items l.entries.items l.exits.items) c.edges.ensures.count c.in_ok-listing.ensures)

pub invariant_of-result : goal.invariant_of-result
invariant_of-result c =
    let l = c.in_ok-listing.ensures in
    let few = l.few in
    record {
      some = l.some;
      few = omega (arith, few, c.edges.ensures.few);
      exits = l.exits_size;
      parents = c.in_ok-nesting.ensures.parents_size;
    }

pub returns : goal.returns
returns c =
    let g = c.args.g.now in
    let classes = c.args.classes.now.items in
    let edges = c.in_ok-edges.edges.items in
    let l = c.in_ok-listing.listing in
    let size : length c.as_slice.result.now ≡ edge_count g = ap length c.as_slice.ensures.value ∙ c.requires.classes.edges in
    let nexts : (e : ℕ) → e < edge_count g → next_at c.as_slice-3.result.now e ≡ next_of classes e edges =
    λ e edge. ap (λ (xs : List (Option ℕ)). next_at xs e) c.as_slice-3.ensures.value ∙ (c.in_ok-next.ensures.next e (omega (arith, edge, size)) ∙ (ap (λ (xs : List ℕ). next_of xs e c.as_slice-2.result.now) c.as_slice.ensures.value ∙ ap (λ (xs : List ℕ). next_of classes e xs) c.as_slice-2.ensures.value)) in
    let listing : IsListing c.as_slice-3.result.now (edge_count g) l.numbers.items l.entries.items l.exits.items = subst (λ n. IsListing c.as_slice-3.result.now n l.numbers.items l.entries.items l.exits.items) c.edges.ensures.count c.in_ok-listing.ensures in
    let n = c.in_ok-nesting.nesting in
    let regions : AreRegions g (table l.entries.items l.exits.items) = AreRegions-listed g c.requires.flow (c.region_facts.ensures g c.requires.flow) edges c.in_ok-edges.ensures classes c.requires.classes c.as_slice-3.result.now nexts l.numbers.items l.entries.items l.exits.items listing in
    IsRegionTree-whole g c.requires.flow (c.region_facts.ensures g c.requires.flow) edges c.in_ok-edges.ensures classes c.requires.classes l.entries.items l.exits.items n.parents.items n.innermost.items regions
    (subst (λ (xs : List ℕ). IsNested g (table l.entries.items l.exits.items) xs n.parents.items n.innermost.items) c.as_slice-4.ensures.value c.in_ok-nesting.ensures)
