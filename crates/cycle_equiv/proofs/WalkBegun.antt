-- The walk, where it begins.
use Rattle.std.proofs.Common.{◌≡◌, ℕ, ◌<◌, Bool, true, false, ◌&&◌, ltb, List, [], replicate, None, refl, ap, arith}
use Rattle.std.proofs.lemmas.Bool.{false≢true, le-ltb}
use Rattle.std.proofs.lemmas.List.Folds.{sum_by-replicate}
use Rattle.closed_walks.specs.Graph.{Graph, edge_count}
use Rattle.cycle_equiv.specs.CapLists.{caps_total}
use Rattle.cycle_equiv.specs.Walking.{beginning}
use Rattle.cycle_equiv.specs.TrailReaches.{Reaches}
use Rattle.cycle_equiv.specs.WalkTables.{IsTreeTable, IsReachTable}
use Rattle.cycle_equiv.specs.WalkState.{IsPaidWalk, IsCountable}
use Rattle.cycle_equiv.specs.WalkSteps.{saved}
use Rattle.cycle_equiv.specs.declared.walk.BracketWalk.{BracketWalk}
use Rattle.cycle_equiv.proofs.Beginning.{begin_counted, begin_trail, begin_reaches, begin_lists, begin_left_lists, begin_caps, begin_places}
use Rattle.cycle_equiv.proofs.Spending.{one_if}
use Rattle.cycle_equiv.proofs.Sums.{sum_none, sum_same}
use Rattle.cycle_equiv.proofs.Tables.{table_full}

abbrev level : Reaches
level = record { own = λ x. 0; first = λ x. 0; second = λ x. 0 }

pub no_caps_total : (n : ℕ) (caps : List (List ℕ)) → caps ≡ replicate n [] → caps_total caps ≡ 0
no_caps_total n caps is = grind (arith, sum_by-replicate)

none_back : (a b : Bool) → b ≡ false → one_if (a && b) ≡ 0
none_back true b none = ap one_if none
none_back false b none = refl

begin_saved : (g : Graph) (root : ℕ) → saved g (beginning root) ≡ 1
begin_saved g root = grind (arith, sum_same, one_if, none_back, ltb, le-ltb, sum_none g.nodes)

pub begun_walk : (g : Graph) (root : ℕ) → root < g.nodes → IsCountable g → (c : BracketWalk) → IsTreeTable g.nodes c.tree (beginning root)
    → IsReachTable g.nodes c.reaches (record { own = λ x. 0; first = λ x. 0; second = λ x. 0 }) → c.lists ≡ replicate (edge_count g) [] → c.caps.items ≡ replicate g.nodes []
    → c.names.tops.items ≡ replicate (edge_count g) 0 → c.names.sizes.items ≡ replicate (edge_count g) 0 → (start : ℕ) → IsPaidWalk g c root start start
begun_walk g root node countable c tree reach lists caps tops sizes start = record {
  walk = record {
    trail = beginning root;
    reaches = level;
    lists = λ l. [];
    caps = λ k. [];
    final = λ x. [];
    tops = λ e. None;
    sizes = λ e. 0;
    kept = record {
      tree_table = tree;
      reach_table = reach;
      list_table = rw lists (table_full (edge_count g) [] []);
      cap_table = rw caps (table_full g.nodes [] []);
      top_table = rw tops (table_full (edge_count g) 0 0);
      size_table = rw sizes (table_full (edge_count g) 0 0);
    };
    graph = countable;
    is_trail = begin_trail g root node;
    counted = begin_counted g root node;
    places = begin_places g root node;
    none_taken = λ x hidden. refl;
    few_taken = λ x inside. omega arith;
    are_reaches = begin_reaches g root node;
    open_lists = begin_lists g root node level;
    left_lists = begin_left_lists g root node level (λ x. []);
    are_caps = begin_caps g root node level;
    caps_once = λ k. tt;
    named = record {
      back_edge = λ e x z found taken joins order none. let early = taken.early in absurd (omega (arith, early));
      tree_edge = λ c left other. absurd (false≢true left);
    };
    told = λ e. refl;
    few_caps = record { caps = let none = sum_none g.nodes in omega (arith, none) };
  };
  paid =
      let none = no_caps_total g.nodes c.caps.items caps in
      let save = begin_saved g root in
      omega (arith, none, save);
}
