use Rattle.std.proofs.lemmas.Nat.{or_lt}
use Rattle.std.proofs.Common.{rules, ◌<◌, ◌≤◌, ◌^◌, ◌+◌, ◌∙◌, ◌∷◌, [], ◌++◌, ap, sym, subst, get_or, set, length, bit_or, arith}
use Rattle.redundancy.proofs.Solves.{IsSpreading, spread-skip, spread-grow, spread-done, edge_exists, word_read, after_read}
use Rattle.redundancy.proofs.solve.spread.Goals as goal
use Rattle.redundancy.proofs.solve.spread.Goals.{then-from-node+then-all-before+in_ok-push, else-from-node, else-from-node-via-then-from-node+else-all-before, else-from-node-via-else-from-node}

pub to-to-requires : goal.to-to-requires
to-to-requires c = edge_exists c.args.g.now c.args.node c.edges_at-e-items.result.now c.loop-e.e-index (c.edges_of_nodes.ensures.touch c.args.g.now) c.loop-e.invariant.edges_are c.loop-e-test.true

pub from-requires : goal.from-requires
from-requires c = edge_exists c.args.g.now c.args.node c.edges_at-e-items.result.now c.loop-e.e-index (c.edges_of_nodes.ensures.touch c.args.g.now) c.loop-e.invariant.edges_are c.loop-e-test.true

pub loop-e-preserved : goal.loop-e-preserved
loop-e-preserved c =
    let g = c.args.g.now in
    let edges = c.edges_at-e-items.result.now in
    let k = c.loop-e.e-index in
    let missing = c.loop-e.missing.items in
    let waiting = c.loop-e.waiting.items in
    let n = c.to-to.result in
    let word = c.after-after.result in
    let first : c.args.node < length c.args.missing.now.items = omega (arith, c.requires.node, c.requires.solving.nodes) in
    let read = word_read c.args.missing.now.items c.args.node c.index.result.now first c.index.ensures in
    let after = after_read c.args.computes.now c.args.kills.now c.args.missing.now.items c.args.node word c.index.result.now read c.after-after.ensures in
    let inside : n < length missing = omega (arith, c.to-to.ensures.exists, c.loop-e.invariant.solving.nodes) in
    let old = word_read missing n c.index-before.result.now inside c.index-before.ensures in
    elim c.if-from-node.branch [
      | then-from-node+then-all-before+in_ok-push w ↦
          rw (w.missing-is, w.waiting-is, w.in_ok-push.ensures.items)
          (subst (λ x. IsSpreading g c.args.computes.now c.args.kills.now c.args.node edges (k + 1) c.args.missing.now.items c.args.waiting.now.items (set missing n (bit_or x word)) (waiting ++ n ∷ [])) old
          (spread-grow g c.args.computes.now c.args.kills.now c.args.node c.args.missing.now.items c.args.waiting.now.items edges k missing waiting c.loop-e.invariant c.loop-e-test.true word after n
          c.requires.flow c.requires.node c.requires.solving (edge_exists g c.args.node edges k (c.edges_of_nodes.ensures.touch g) c.loop-e.invariant.edges_are c.loop-e-test.true)
          (sym c.from.ensures.node ∙ w.if-from-node.true) c.to-to.ensures.node c.to-to.ensures.exists
          (λ same. w.if-all-before.true (ap (λ x. bit_or x word) (sym old) ∙ same ∙ old))
          (let low : c.index-before.result.now < 2 ^ 64 = search rules in
          let high : c.after-after.result < 2 ^ 64 = search rules in
          let fits = or_lt 64 c.index-before.result.now word low high in
          subst (λ x. bit_or x word ≤ 2 ^ 64) (sym old) (omega (arith, fits)))))
      | else-from-node w ↦
          rw (w.missing-is, w.waiting-is)
          (spread-skip g c.args.computes.now c.args.kills.now c.args.node c.args.missing.now.items c.args.waiting.now.items edges k missing waiting c.loop-e.invariant c.loop-e-test.true word after
          (λ begins. elim w.else-from-node.branch [
            | else-from-node-via-then-from-node+else-all-before x ↦ ap (λ y. bit_or (get_or missing y 0) word) (sym c.to-to.ensures.node) ∙ ap (λ y. bit_or y word) old ∙ x.if-all-before.false ∙ sym old ∙ ap (λ y. get_or missing y 0) c.to-to.ensures.node
            | else-from-node-via-else-from-node x ↦ absurd (x.if-from-node.false (c.from.ensures.node ∙ begins))
          ]))
    ]

pub returns-clause-solving : goal.returns-clause-solving
returns-clause-solving c = spread-done c.args.g.now c.args.computes.now c.args.kills.now c.args.node c.args.missing.now.items c.args.waiting.now.items c.edges_at-e-items.result.now c.loop-e.e-index c.loop-e.missing.items c.loop-e.waiting.items c.loop-e.invariant c.loop-e-test.false
