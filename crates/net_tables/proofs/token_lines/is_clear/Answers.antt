use Rattle.std.proofs.Common.{◌≡◌, ℕ, true, false, not, is_some, sym, ap, ◌∙◌, arith, rules}
use Rattle.net_board.specs.TokenEdges.{edge_at}
use Rattle.net_tables.proofs.TokenLineLemmas.{read_edge, each_in_row, each_next, not_each_in_row}
use Rattle.net_tables.proofs.token_lines.is_clear.Goals as goal

pub returns-then-is_some : goal.returns-then-is_some
returns-then-is_some c =
    let at : edge_at c.args.edges.now.items c.loop-k.k ≡ c.index.result.now = read_edge c.args.edges.now.items c.loop-k.k c.index.result.now (search rules) c.index.ensures in
    let some : is_some c.index.result.now ≡ true = search rules in
    sym (not_each_in_row (λ (k : ℕ). not (is_some (edge_at c.args.edges.now.items k))) c.args.first c.args.end c.loop-k.k (omega arith) (omega arith) (ap (λ o. not (is_some o)) at ∙ ap not some))

pub loop-k-preserved : goal.loop-k-preserved
loop-k-preserved c =
    let at : edge_at c.args.edges.now.items c.loop-k.k ≡ c.index.result.now = read_edge c.args.edges.now.items c.loop-k.k c.index.result.now (search rules) c.index.ensures in
    let none : is_some c.index.result.now ≡ false = search rules in
    each_next (λ (k : ℕ). not (is_some (edge_at c.args.edges.now.items k))) c.args.first c.loop-k.k c.loop-k.invariant (ap (λ o. not (is_some o)) at ∙ ap not none)

pub returns : goal.returns
returns c =
    sym (each_in_row (λ (k : ℕ). not (is_some (edge_at c.args.edges.now.items k))) c.args.first c.args.end c.requires.some (λ j low high. c.loop-k.invariant j low (omega (arith, high, c.loop-k-test.false))))
