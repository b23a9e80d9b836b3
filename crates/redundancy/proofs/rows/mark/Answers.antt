use Rattle.std.proofs.Common.{◌≡◌, zero, replicate, length, ap, ◌∙◌, arith, rules}
use Rattle.redundancy.proofs.Marking.{IsRoomy, roomy_new, roomy_old, marked_in}
use Rattle.redundancy.proofs.rows.mark.Goals as goal
use Rattle.redundancy.proofs.rows.mark.Goals.{then-row-len+in_ok-vec+in_ok-push, else-row-len}

pub returns-clause-marked : goal.returns-clause-marked
returns-clause-marked c =
    let rows = c.args.rows.now.items in
    let k = c.args.k in
    let counted : c.len.result ≡ length rows = search rules in
    let roomy : IsRoomy rows c.if-row-len.rows.items k c.args.nodes = elim c.if-row-len.branch [
      | then-row-len+in_ok-vec+in_ok-push w ↦
          let blank : w.in_ok-vec.field-0.items ≡ replicate c.args.nodes zero = search rules in
          roomy_new rows c.if-row-len.rows.items w.of.result k c.args.nodes (w.if-row-len.true ∙ counted) (w.of.ensures ∙ blank) (ap (λ v. v.items) w.rows-is ∙ w.in_ok-push.ensures.items)
      | else-row-len w ↦ roomy_old rows c.if-row-len.rows.items k c.args.nodes (omega (arith, counted, w.if-row-len.false, c.requires.place)) c.requires.each (ap (λ v. v.items) w.rows-is)
    ] in
    marked_in rows c.if-row-len.rows.items k c.args.nodes c.args.node c.index_mut.result.now c.set_bit.new.self roomy c.requires.node c.index_mut.ensures.value c.set_bit.ensures
