use Rattle.std.proofs.Common.{◌+◌, ◌<◌, Bool, List, cond, filter, length, min, sym, ap, ◌∙◌, arith}
use Rattle.std.specs.Prelude.{slice_get}
use Rattle.std.proofs.lemmas.List.{take_all}
use native.Mathlib.Nat.{min-eq_left}
use Rattle.program_units.specs.declared.entity.Entity.{Entity}
use Rattle.program_units.specs.Expansion.{is_running}
use Rattle.entity_names.proofs.NamedEntities.{own-within}
use Rattle.f77_subs.proofs.MergedCounts.{capped-next}
use Rattle.f77_subs.proofs.merged_counts.type_count.Goals as goal

pub is_running-requires-clause-unit : goal.is_running-requires-clause-unit
is_running-requires-clause-unit c = own-within c.args.us.now c.loop-i.i c.at.result.now (ap (λ (es : List Entity). slice_get es c.loop-i.i) (sym c.requires.own) ∙ c.at.ensures)

pub loop-i-init : goal.loop-i-init
loop-i-init c = sym (min-eq_left (omega arith))

pub loop-i-preserved : goal.loop-i-preserved
loop-i-preserved c =
    let us = c.args.us.now in
    let limit = c.args.limit in
    let inside : c.loop-i.i < length c.args.own.now = omega arith in
    capped-next (is_running us) c.args.own.now limit c.loop-i.i c.at.result.now c.loop-i.count c.one_more-count.result inside c.at.ensures c.loop-i.invariant
    (c.one_more-count.ensures ∙ ap (λ (b : Bool). min (c.loop-i.count + cond b 1 0) limit) c.is_running.ensures)

pub returns : goal.returns
returns c =
    c.loop-i.invariant
    ∙ ap (λ (xs : List Entity). min (length (filter (is_running c.args.us.now) xs)) c.args.limit) (take_all c.loop-i.i c.args.own.now (omega arith))
