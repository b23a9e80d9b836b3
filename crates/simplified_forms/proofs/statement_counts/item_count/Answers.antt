use Rattle.std.proofs.Common.{◌≡◌, ap, ◌∙◌, arith, None}
use Rattle.std.specs.Prelude.{option_to_list}
use Rattle.std.proofs.lemmas.List.{get_or_read}
use Rattle.const_prop.specs.Table.{knowns_of}
use Rattle.simplified_forms.specs.Plans.{answer, told}
use Rattle.simplified_forms.specs.StatementCounts.{left_count}
use Rattle.simplified_forms.proofs.StatementLemmas.{lines-count}
use Rattle.simplified_forms.proofs.statement_counts.item_count.Goals as goal

pub returns-clause-count : goal.returns-clause-count
returns-clause-count g c =
    let s = c.args.s.now in
    let exec = c.at-exec.result.now in
    let told_is = c.requires.scene.planned.ways.decided.entry s.k c.requires.k in
    let read : c.index.result.now ≡ told s.plan.now.ways.decided.items s.k = get_or_read s.plan.now.ways.decided.items s.k c.index.result.now (omega (arith, c.requires.k, c.requires.scene.planned.ways.decided.size)) c.index.ensures None in
    let own = c.left_count-own.ensures.count ∙ ap (left_count exec.kind) read in
    let m = option_to_list c.own_mark.result in
    let j = option_to_list c.jump.result in
    let all = lines-count s.p.now s.c.now (knowns_of s.t.now) s.checked (answer s.plan.now.ways.items.items) s.k exec (told s.plan.now.ways.decided.items s.k) m j c.left_count-own.result c.requires.item c.at-exec.ensures.item told_is c.own_mark.ensures own c.jump.ensures in
    omega (arith, all, c.count_of-marks.ensures.count, c.count_of-jumps.ensures.count)
