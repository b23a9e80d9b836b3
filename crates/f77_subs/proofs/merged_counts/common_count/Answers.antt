use Rattle.std.proofs.Common.{◌+◌, ◌<◌, ℕ, Bool, List, Option, cond, filter, length, min, sym, ap, ◌∙◌, arith}
use Rattle.std.proofs.lemmas.List.{take_all}
use native.Mathlib.Nat.{min-eq_left}
use Rattle.f77_subs.specs.MergedCounts.{is_added_by}
use Rattle.f77_subs.proofs.MergedCounts.{capped-next}
use Rattle.f77_subs.proofs.merged_counts.common_count.Goals as goal

pub loop-i-init : goal.loop-i-init
loop-i-init c = sym (min-eq_left (omega arith))

pub loop-i-preserved : goal.loop-i-preserved
loop-i-preserved c =
    let limit = c.args.limit in
    let inside : c.loop-i.i < length c.args.blocks.now = omega arith in
    capped-next (is_added_by c.args.main.now c.args.running.now) c.args.blocks.now limit c.loop-i.i c.at.result.now c.loop-i.count c.one_more-count.result inside c.at.ensures c.loop-i.invariant
    (c.one_more-count.ensures ∙ ap (λ (b : Bool). min (c.loop-i.count + cond b 1 0) limit) c.is_added.ensures)

pub returns : goal.returns
returns c =
    c.loop-i.invariant
    ∙ ap (λ (xs : List (Option (List ℕ))). min (length (filter (is_added_by c.args.main.now c.args.running.now) xs)) c.args.limit) (take_all c.loop-i.i c.args.blocks.now (omega arith))
