use Rattle.std.proofs.Common.{◌<◌, ℕ, arith}
use Rattle.closed_walks.specs.Graph.{edge_count}
use Rattle.region_tree.specs.Tree.{IsNumber, entry_of, exit_of}
use Rattle.dep_routing.specs.Facts.{TreeFacts}
use Rattle.dep_routing.proofs.Numbering.{AreNumbersBelow-step}
use Rattle.dep_routing.proofs.Quietness.{edges}
use Rattle.dep_routing.proofs.borders.borders_of.Goals as goal

pub loop-r-preserved : goal.loop-r-preserved
loop-r-preserved c =
    let g = c.args.g.now in
    let t = c.args.t.now in
    let f : TreeFacts g t = c.tree_facts.ensures g t c.requires.flow c.requires.tree in
    let k = c.loop-r.r in
    let some : 0 < k = omega (arith, c.loop-r.auto.r) in
    let number : IsNumber t k = (some, omega (arith, c.loop-r-test.true, c.count-r-end.ensures.count, f.tree.regions.some)) in
    let lower : (r : ℕ) → 0 < r → r < k → IsNumber t r = λ r away less. (away, omega (arith, less, number.1)) in
    rw (c.entry.ensures, c.exit.ensures) record {
      entered = AreNumbersBelow-step (edge_count g) (entry_of t) k c.loop-r.entered.items some (edges g t f k number).0
          (λ r away less same. let one = f.one_entry r k (lower r away less) number same in omega (arith, one, less)) c.loop-r.invariant.entered;
      left = AreNumbersBelow-step (edge_count g) (exit_of t) k c.loop-r.left.items some (edges g t f k number).1
          (λ r away less same. let one = f.one_exit r k (lower r away less) number same in omega (arith, one, less)) c.loop-r.invariant.left;
    }
