use Rattle.std.specs.Prelude.{slice_get}
use Rattle.flat_programs.specs.Declarations.{common_at}
use Rattle.flat_programs.proofs.PageLemmas.{commons_next}
use Rattle.flat_programs.proofs.page.put_commons.Goals as goal

pub loop-k-preserved : goal.loop-k-preserved
loop-k-preserved c =
    commons_next (λ k. common_at c.args.parts.now k (slice_get c.args.parts.now k)) c.loop-k.k c.args.page.now c.loop-k.page c.put_common.new.page c.loop-k.invariant c.in_ok-put_common.ensures
