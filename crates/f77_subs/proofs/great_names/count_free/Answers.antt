use Rattle.std.proofs.Common.{◌+◌, ℕ, Bool, cond, ap, ◌∙◌, arith}
use Rattle.program_units.specs.NewNames.{is_free_of}
use Rattle.entity_names.proofs.GreatNames.{counted-more}
use Rattle.f77_subs.proofs.great_names.count_free.Goals as goal

pub loop-i-preserved : goal.loop-i-preserved
loop-i-preserved c =
    let count = c.loop-i.count in
    let one = c.one_if-count.ensures.few in
    let before = c.loop-i.invariant.few in
    record {
      is = ap (λ (n : ℕ). count + n) (c.one_if-count.ensures.is ∙ ap (λ (b : Bool). cond b 1 0) c.in_ok-free.ensures) ∙ counted-more (is_free_of c.args.used.now) c.loop-i.i count c.loop-i.invariant.is;
      few = omega (arith, one, before);
    }
