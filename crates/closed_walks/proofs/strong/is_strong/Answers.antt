use Rattle.std.proofs.Common.{◌<◌, ◌∙◌, sym, arith}
use Rattle.std.proofs.lemmas.Bool.{false≢true}
use Rattle.closed_walks.proofs.Reversals.{IsStrong-both, ToAll-strong, ToAll-back}
use Rattle.closed_walks.proofs.strong.is_strong.Goals as goal
use Rattle.closed_walks.proofs.strong.is_strong.Goals.{then-to_all, else-to_all}

pub returns : goal.returns
returns c =
    let g = c.args.g.now in
    let back = c.in_ok-back.back in
    let some : 0 < g.nodes = omega (arith, c.if-nodes-eq0.false, c.nodes.ensures.count) in
    elim c.if-to_all.branch [
      | then-to_all w ↦ (
        λ both. IsStrong-both g back c.in_ok-back.ensures (c.in_ok-to_all.ensures.0 w.if-to_all.true) (c.in_ok-from_all.ensures.0 (sym w.result-is ∙ both)),
        λ strong. w.result-is ∙ c.in_ok-from_all.ensures.1 (ToAll-back g back some c.in_ok-back.ensures strong),
      )
      | else-to_all w ↦ (
        λ both. absurd (false≢true (sym w.if-to_all.false ∙ (sym w.result-is ∙ both))),
        λ strong. absurd (false≢true (sym w.if-to_all.false ∙ c.in_ok-to_all.ensures.1 (ToAll-strong g some strong))),
      )
    ]
