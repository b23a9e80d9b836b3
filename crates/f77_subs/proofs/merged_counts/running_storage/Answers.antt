use Rattle.std.proofs.Common.{Bool, List, cond, min, sym, ap, ◌∙◌, arith}
use Rattle.std.specs.List.{count_by}
use native.Mathlib.Nat.{min-eq_left}
use Rattle.f77_tree.specs.declared.statements.Labelled.{Labelled}
use Rattle.f77_subs.specs.MergedCounts.{is_equivalence_or_data}
use Rattle.program_units.specs.Units.{unit_at}
use Rattle.f77_subs.proofs.merged_counts.running_storage.Goals as goal

pub returns-then-runs-k : goal.returns-then-runs-k
returns-then-runs-k c =
    let us = c.args.us.now in
    let k = c.args.k in
    let limit = c.args.limit in
    c.unit_storage.ensures
    ∙ ap (λ (u : List Labelled). min (count_by (λ (s : Labelled). is_equivalence_or_data s.stmt) u) limit) c.at.ensures.statements
    ∙ ap (λ (b : Bool). min (cond b (count_by (λ (s : Labelled). is_equivalence_or_data s.stmt) (unit_at us k)) 0) limit) (sym c.if-runs-k.true ∙ c.requires.told k c.requires.unit)

pub returns : goal.returns
returns c =
    let us = c.args.us.now in
    let k = c.args.k in
    let limit = c.args.limit in
    sym (ap (λ (b : Bool). min (cond b (count_by (λ (s : Labelled). is_equivalence_or_data s.stmt) (unit_at us k)) 0) limit) (sym (c.requires.told k c.requires.unit) ∙ c.if-runs-k.false) ∙ min-eq_left (omega arith))
