use Rattle.std.proofs.Common.{rules, ◌≡◌, not, arith}
use Rattle.list_laws.proofs.Counts.{bit}
use Rattle.flat_programs.specs.Declarations.{is_continued}
use Rattle.flat_programs.proofs.MarkLemmas.{bit-most}
use Rattle.flat_programs.proofs.DeclarationLemmas.{blocks-more}
use Rattle.flat_programs.proofs.declarations.block_count.Goals as goal

pub loop-k-preserved : goal.loop-k-preserved
loop-k-preserved c =
    let parts = c.args.parts.now in
    let k = c.loop-k.k in
    let part = c.at.result.now in
    let starts = not (is_continued parts k part) in
    let one : c.from-count.result ≡ bit starts = search rules in
    let most = bit-most starts in
    let more = blocks-more parts k part c.at.ensures.item in
    let kept = c.loop-k.invariant in
    record {
      count = omega (arith, one, more, kept.count);
      few = omega (arith, one, most, kept.few);
    }
