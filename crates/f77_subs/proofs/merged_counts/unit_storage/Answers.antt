use Rattle.std.proofs.Common.{◌+◌, Bool, List, cond, min, sym, ap, ◌∙◌, arith}
use Rattle.std.specs.List.{count_by}
use Rattle.std.proofs.lemmas.List.{take_all}
use native.Mathlib.Nat.{min-eq_left}
use Rattle.f77_tree.specs.declared.statements.Labelled.{Labelled}
use Rattle.f77_subs.specs.MergedCounts.{is_equivalence_or_data}
use Rattle.f77_subs.proofs.MergedCounts.{counted-next}
use Rattle.f77_subs.proofs.merged_counts.unit_storage.Goals as goal

pub loop-s-init : goal.loop-s-init
loop-s-init c = sym (min-eq_left (omega arith))

pub loop-s-preserved : goal.loop-s-preserved
loop-s-preserved c =
    counted-next (λ (s : Labelled). is_equivalence_or_data s.stmt) c.args.unit.now c.args.limit c.loop-s.s-index c.s-item.result c.loop-s.count c.one_more-count.result c.loop-s-test.true c.s-item.is c.loop-s.invariant
    (c.one_more-count.ensures ∙ ap (λ (b : Bool). min (c.loop-s.count + cond b 1 0) c.args.limit) c.is_equivalence_or_data.ensures)

pub returns : goal.returns
returns c =
    c.loop-s.invariant
    ∙ ap (λ (xs : List Labelled). min (count_by (λ (s : Labelled). is_equivalence_or_data s.stmt) xs) c.args.limit) (take_all c.loop-s.s-index c.args.unit.now (omega arith))
