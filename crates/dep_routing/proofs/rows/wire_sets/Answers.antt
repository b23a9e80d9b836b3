use Rattle.std.proofs.Common.{◌≡◌, ◌<◌, ◌&&◌, ◌↔◌, ◌∙◌, ℕ, Bool, true, length, sym, ap, arith, subst}
use Rattle.std.proofs.lemmas.Bool.{and_parts, ltb-true, lt-ltb}
use Rattle.closed_walks.specs.Graph.{edge_count, to}
use Rattle.class_set.specs.ClassSet.{holds}
use Rattle.region_tree.specs.Tree.{innermost_of}
use Rattle.dep_routing.specs.Facts.{TreeFacts}
use Rattle.dep_routing.specs.LineTable.{wire_in}
use Rattle.dep_routing.specs.Noise.{marks_of}
use Rattle.dep_routing.specs.Quiet.{IsWire}
use Rattle.dep_routing.specs.Rows.{is_noisy}
use Rattle.dep_routing.specs.Touch.{touches_in}
use Rattle.dep_routing.proofs.Noises.{innermost_within}
use Rattle.dep_routing.proofs.RowSteps.{free_told}
use Rattle.dep_routing.proofs.rows.wire_sets.Goals as goal

pub returns-clause-sets : goal.returns-clause-sets
returns-clause-sets g c =
    let graph = c.args.g.now in
    let t = c.args.t.now in
    let noisy = c.args.noisy.items in
    let sets = c.keep_lines.new.sets.items in
    let numbers = c.in_ok-set_of.set_of.items in
    let f : TreeFacts graph t = c.tree_facts.ensures graph t c.requires.flow c.requires.tree in
    let region : (e : ℕ) → e < edge_count graph → innermost_of t (to graph e) < length noisy = λ e edge.
    let low = innermost_within graph t f (to graph e) (f.flow.sound.ends e edge) in omega (arith, low, c.requires.size) in
    record {
      size = c.in_ok-set_of.ensures.count;
      there = λ e edge. let low = region e edge in let is = c.in_ok-set_of.ensures.each e edge in let size = c.keep_lines.ensures.size in omega (arith, low, is, size);
      within = λ line e edge member.
          let told : wire_in sets numbers line e ≡ (holds c.lines_below.result line && is_noisy (marks_of noisy line) (innermost_of t (to graph e))) =
          ap (λ r. touches_in sets r line) (c.in_ok-set_of.ensures.each e edge) ∙ c.keep_lines.ensures.each (innermost_of t (to graph e)) line (region e edge) in
          ltb-true line c.args.lines (sym (c.lines_below.ensures line) ∙ (and_parts (holds c.lines_below.result line) (is_noisy (marks_of noisy line) (innermost_of t (to graph e))) (sym told ∙ member)).0);
    }

pub returns-clause-wires : goal.returns-clause-wires
returns-clause-wires g c = λ touches line e n low edge.
    let graph = c.args.g.now in
    let t = c.args.t.now in
    let noisy = c.args.noisy.items in
    let sets = c.keep_lines.new.sets.items in
    let numbers = c.in_ok-set_of.set_of.items in
    let f : TreeFacts graph t = c.tree_facts.ensures graph t c.requires.flow c.requires.tree in
    let member : holds c.lines_below.result line ≡ true = c.lines_below.ensures line ∙ lt-ltb line c.args.lines low in
    let region : innermost_of t (to graph e) < length noisy = let within = innermost_within graph t f (to graph e) (f.flow.sound.ends e edge) in omega (arith, within, c.requires.size) in
    let told : wire_in sets numbers line e ≡ is_noisy (marks_of noisy line) (innermost_of t (to graph e)) =
    ap (λ r. touches_in sets r line) (c.in_ok-set_of.ensures.each e edge) ∙ c.keep_lines.ensures.each (innermost_of t (to graph e)) line region
    ∙ ap (λ b. b && is_noisy (marks_of noisy line) (innermost_of t (to graph e))) member in
    subst (λ (b : Bool). (b ≡ true) ↔ IsWire graph t touches line e) (sym told)
    (free_told graph t f touches line (marks_of noisy line) n (to graph e) (f.flow.sound.ends e edge))
