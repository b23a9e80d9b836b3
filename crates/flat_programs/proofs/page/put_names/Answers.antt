use Rattle.std.proofs.Common.{◌≡◌, ◌++◌, arith, ap, ◌∙◌}
use Rattle.flat_programs.specs.Declarations.{typed_name}
use Rattle.flat_programs.specs.Typeset.{typeset}
use Rattle.flat_programs.proofs.PageLemmas.{mapped_next}
use Rattle.flat_programs.proofs.page.put_names.Goals as goal

pub loop-k-preserved : goal.loop-k-preserved
loop-k-preserved c =
    let x = c.at.result.now in
    let text : c.append_typed.new.out.items ≡ typeset (typed_name x) = c.in_ok-append_typed.ensures ∙ ap (λ t. t ++ typeset (typed_name x)) c.clear.ensures.items in
    record {
      within = omega (arith, c.loop-k-test.true);
      grows = mapped_next typed_name c.args.names.now c.loop-k.k x c.args.page.now c.loop-k.page c.put.new.self c.deref.result.now c.at.ensures.item c.loop-k.invariant.grows c.in_ok-put.ensures (c.deref.ensures.value ∙ text);
    }
