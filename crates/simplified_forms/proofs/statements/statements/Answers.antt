use Rattle.std.proofs.Common.{◌≡◌, ◌+◌, ◌++◌, List, length, sym, ap, ◌∙◌, arith}
use Rattle.std.proofs.lemmas.List.{length-append}
use Rattle.const_prop.specs.Table.{knowns_of}
use Rattle.flat_programs.specs.declared.statements.FlatLine.{FlatLine}
use Rattle.simplified_forms.specs.Plans.{answer}
use Rattle.simplified_forms.specs.Simplified.{lines}
use Rattle.simplified_forms.proofs.StatementLemmas.{lines-more, lines-most}
use Rattle.simplified_forms.proofs.statements.statements.Goals as goal

pub loop-k-preserved : goal.loop-k-preserved
loop-k-preserved g c =
    let p = c.args.p.now in
    let t = knowns_of c.args.t.now in
    let is_item = answer c.args.plan.now.ways.items.items in
    let k = c.loop-k.k in
    let here = lines p c.args.c.now t c.args.checked is_item k in
    let kept = c.loop-k.invariant in
    let most = lines-most p c.args.c.now t c.args.checked is_item k in
    let size : length c.append_executable.new.flat ≡ length c.loop-k.flat + length here = ap length c.in_ok-append_executable.ensures ∙ length-append c.loop-k.flat here in
    record {
      flat = c.in_ok-append_executable.ensures ∙ ap (λ (xs : List FlatLine). xs ++ here) kept.flat ∙ sym (lines-more (lines p c.args.c.now t c.args.checked is_item) k);
      few = omega (arith, size, most, kept.few);
    }
