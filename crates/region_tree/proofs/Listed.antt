-- The listed entries and exits are the regions of the graph.
use Rattle.std.proofs.Common.{◌≡◌, ℕ, ◌<◌, List, Option, Some, None, get_or, sym, ◌∙◌, subst, inl, inr}
use Rattle.closed_walks.specs.Graph.{Graph, edge_count}
use Rattle.closed_walks.specs.Numbering.{IsNumbering}
use Rattle.closed_walks.specs.Region.{IsFlowGraph, IsRegion}
use Rattle.region_tree.specs.Classes.{next_of}
use Rattle.region_tree.specs.Scan.{IsScan}
use Rattle.region_tree.specs.Facts.{RegionFacts}
use Rattle.region_tree.specs.Listing.{next_at, IsListedAt, HasListed, IsListing}
use Rattle.region_tree.specs.Nesting.{IsNested, table}
use Rattle.region_tree.specs.Tree.{Tree, IsNumbered, AreRegions, IsRegionTree, IsLeastOrNone, IsAround, IsIn}
use Rattle.region_tree.proofs.ClassRegions.{next_region, region_next}
use Rattle.region_tree.proofs.Nestings.{start_or_head}

listed_at : (entries : List ℕ) (e r b : ℕ) (n : Option ℕ) → n ≡ Some b → HasListed entries e r n → IsListedAt entries e r
listed_at entries e r b None is h = absurd cc
listed_at entries e r b (Some x) is h = h

module _ (g : Graph) (flow : IsFlowGraph g) (f : RegionFacts g) (edges : List ℕ) (scan : IsScan g edges) (classes : List ℕ) (numbering : IsNumbering g classes) where
  module _ (next : List (Option ℕ)) (nexts : (e : ℕ) → e < edge_count g → next_at next e ≡ next_of classes e edges) (numbers entries exits : List ℕ) (l : IsListing next (edge_count g) numbers entries exits) where
    numbered : (a b : ℕ) → IsRegion g a b → IsNumbered (table entries exits) a b
    numbered a b r =
        let edge : a < edge_count g = r.pair.first in
        let is : next_at next a ≡ Some b = nexts a edge ∙ region_next g f edges scan classes numbering a b r in
        let at : IsListedAt entries a (get_or numbers a 0) = listed_at entries a (get_or numbers a 0) b (next_at next a) is (l.numbered a edge) in
        let listed : next_at next (get_or entries (get_or numbers a 0) 0) ≡ Some (get_or exits (get_or numbers a 0) 0) = (l.listed (get_or numbers a 0) at.some at.within).1 in
        let there : next_at next a ≡ Some (get_or exits (get_or numbers a 0) 0) = subst (λ x. next_at next x ≡ Some (get_or exits (get_or numbers a 0) 0)) at.entry listed in
        let both : Some (get_or exits (get_or numbers a 0) 0) ≡ Some b = sym there ∙ is in
        record { number = get_or numbers a 0; exists = (at.some, at.within); entry = at.entry; exit = cc }

    pub AreRegions-listed : AreRegions g (table entries exits)
    AreRegions-listed = record {
      some = l.some;
      size = l.exits_size;
      no_entry = l.no_entry;
      no_exit = l.no_exit;
      sound = λ r number.
          let p = l.listed r number.0 number.1 in
          next_region g f edges scan classes numbering (get_or entries r 0) (get_or exits r 0) p.0 (sym (nexts (get_or entries r 0) p.0) ∙ p.1);
      complete = numbered;
      rises = l.rises;
    }

  -- ---- the whole tree

  module _ (entries exits parents innermost : List ℕ) (s : AreRegions g (table entries exits)) (n : IsNested g (table entries exits) edges parents innermost) where
    abbrev whole : Tree
    whole = record { entries = entries; exits = exits; parents = parents; innermost = innermost }

    whole_regions : AreRegions g whole
    whole_regions = record {
      some = s.some;
      size = s.size;
      no_entry = s.no_entry;
      no_exit = s.no_exit;
      sound = s.sound;
      complete = λ a b r. let c : IsNumbered (table entries exits) a b = s.complete a b r in record { number = c.number; exists = c.exists; entry = c.entry; exit = c.exit };
      rises = s.rises;
    }

    whole_least : (asked : ℕ → Type 0) (r : ℕ) → IsLeastOrNone g (table entries exits) asked r → IsLeastOrNone g whole asked r
    whole_least asked r (inl none) = inl none
    whole_least asked r (inr l) = inr (record { number = l.number; has = l.has; least = l.least })

    pub IsRegionTree-whole : IsRegionTree g whole
    IsRegionTree-whole = record {
      regions = whole_regions;
      parents_size = n.parents_size;
      no_parent = n.no_parent;
      parents = λ r number. whole_least (λ q. IsAround g (table entries exits) r q) (get_or parents r 0) (n.right_parents r number (scan.all (get_or entries r 0) (s.sound r number).pair.first));
      nodes = n.nodes;
      innermost = λ node exists. whole_least (λ q. IsIn g (table entries exits) q node) (get_or innermost node 0) (n.right_innermost node exists (start_or_head g flow edges scan node exists));
    }
