use Rattle.std.proofs.Common.{◌+◌, ◌-◌, ℕ, Bool, List, Option, filter, length, min, sym, ap, ◌∙◌}
use Rattle.program_units.specs.declared.entity.Entity.{Entity}
use Rattle.program_units.specs.Expansion.{blocks, is_running}
use Rattle.program_units.specs.Names.{y_entities}
use Rattle.f77_subs.specs.MergedCounts.{is_added_by, storage_below}
use Rattle.program_units.specs.Merged.{is_merged}
use Rattle.f77_subs.proofs.MergedCounts.{added-is, put-count, two-capped}
use Rattle.f77_subs.proofs.merged_counts.merged_count.Goals as goal

pub returns : goal.returns
returns c =
    let us = c.args.us.now in
    let limit = c.args.limit in
    let types : ℕ = length (filter (is_running us) (y_entities us)) in
    let commons : ℕ = length (filter (is_merged us) (blocks us)) in
    let stored : ℕ = storage_below us (length us - 1) in
    let first = c.type_count-types.ensures ∙ ap (λ (es : List Entity). min (length (filter (is_running us) es)) limit) c.requires.own in
    let second =
    c.common_count-commons.ensures
    ∙ ap (λ (bs : List (Option (List ℕ))). min (length (filter (is_added_by c.args.main.now c.in_ok-running.running) bs)) limit) c.in_ok-blocks.ensures
    ∙ ap (λ (test : Option (List ℕ) → Bool). min (length (filter test (blocks us))) limit) (added-is us c.args.main.now c.in_ok-running.running c.requires.main c.in_ok-running.ensures)
    in
    let declared = c.add_within-declared.ensures ∙ two-capped types commons limit c.type_count-types.result c.common_count-commons.result first second in
    c.add_within.ensures
    ∙ two-capped (types + commons) stored limit c.add_within-declared.result c.storage_count-stored.result declared c.storage_count-stored.ensures
    ∙ ap (λ (n : ℕ). min n limit) (sym (put-count us))
