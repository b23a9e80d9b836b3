use Rattle.std.proofs.Common.{◌+◌, ℕ, min, ap, ◌∙◌}
use Rattle.f77_subs.proofs.merged_counts.one_more.Goals as goal

pub returns : goal.returns
returns c = c.add_within.ensures ∙ ap (λ (n : ℕ). min (c.args.count + n) c.args.limit) c.one_if.ensures.is
