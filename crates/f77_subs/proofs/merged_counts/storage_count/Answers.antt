use Rattle.std.proofs.Common.{◌≡◌, ◌-◌, ℕ, length, min, sym, ap, ◌∙◌, arith}
use native.Mathlib.Nat.{min-eq_left}
use Rattle.f77_subs.specs.MergedCounts.{storage_below}
use Rattle.f77_subs.proofs.MergedCounts.{unit-next}
use Rattle.f77_subs.proofs.merged_counts.storage_count.Goals as goal

pub loop-i-init : goal.loop-i-init
loop-i-init c = sym (min-eq_left (omega arith))

pub loop-i-preserved : goal.loop-i-preserved
loop-i-preserved c = unit-next c.args.us.now c.args.limit c.loop-i.i c.loop-i.count c.running_storage.result c.add_within-count.result c.loop-i.invariant c.running_storage.ensures c.add_within-count.ensures

pub returns : goal.returns
returns c =
    let at_end : c.loop-i.i ≡ length c.args.us.now - 1 = omega arith in
    c.loop-i.invariant ∙ ap (λ (n : ℕ). min (storage_below c.args.us.now n) c.args.limit) at_end
