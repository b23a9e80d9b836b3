use Rattle.std.proofs.Common.{◌≡◌, ◌+◌, ◌||◌, ℕ, true, false, take, length, sym, ap, ◌∙◌, arith}
use Rattle.std.specs.Prelude.{if◌then◌else◌}
use Rattle.layout_rules.proofs.FirstLine.{first_after-end, first_after-here, first_after-next}
use Rattle.program_units.specs.Units.{call_in, is_end, unit_at}
use Rattle.program_units.specs.Refusals.{calls_wrongly, has_bad_call, has_wrong_dummy}
use Rattle.unit_checks.proofs.BadCalls.{below-more, end-inside, units-enough}
use Rattle.unit_checks.proofs.bad_calls.first_bad_call.Goals as goal

pub is_bad-requires-clause-unit : goal.is_bad-requires-clause-unit
is_bad-requires-clause-unit c =
    let most = units-enough c.args.stmts.now c.loop-s.s-index in
    let many = ap length c.requires.units in
    let at = c.loop-s.invariant.unit in
    omega (arith, most, many, at)

pub unit_after-k-requires : goal.unit_after-k-requires
unit_after-k-requires c = λ is.
    let less = end-inside c.args.stmts.now c.loop-s.s-index c.s-item.result c.loop-s-test.true c.s-item.is is in
    let many = ap length c.requires.units in
    let at = c.loop-s.invariant.unit in
    let count = c.len.ensures in
    omega (arith, less, many, at, count)

pub returns-then-bad : goal.returns-then-bad
returns-then-bad c =
    let us = c.args.us.now in
    let stmts = c.args.stmts.now in
    let i = c.loop-s.s-index in
    let s = c.s-item.result in
    let fault : has_bad_call us (take i stmts) s ≡ true =
    ap (λ (k : ℕ). calls_wrongly us k (call_in s.stmt) || has_wrong_dummy (unit_at us k) s.stmt) (sym c.loop-s.invariant.unit) ∙ sym c.in_ok-bad.ensures ∙ c.if-bad.true
    in
    sym (c.loop-s.invariant.first ∙ first_after-here (has_bad_call us) stmts i s c.loop-s-test.true c.s-item.is fault)

pub loop-s-preserved : goal.loop-s-preserved
loop-s-preserved c =
    let us = c.args.us.now in
    let stmts = c.args.stmts.now in
    let i = c.loop-s.s-index in
    let s = c.s-item.result in
    let no_fault : has_bad_call us (take i stmts) s ≡ false =
    ap (λ (k : ℕ). calls_wrongly us k (call_in s.stmt) || has_wrong_dummy (unit_at us k) s.stmt) (sym c.loop-s.invariant.unit) ∙ sym c.in_ok-bad.ensures ∙ c.if-bad.false
    in
    record {
      unit = c.unit_after-k.ensures ∙ ap (λ (k : ℕ). if is_end s.stmt then k + 1 else k) c.loop-s.invariant.unit ∙ sym (below-more stmts i s c.loop-s-test.true c.s-item.is);
      first = c.loop-s.invariant.first ∙ first_after-next (has_bad_call us) stmts i s c.loop-s-test.true c.s-item.is no_fault;
    }

pub returns : goal.returns
returns c = sym (c.loop-s.invariant.first ∙ first_after-end (has_bad_call c.args.us.now) c.args.stmts.now c.loop-s.s-index (omega arith))
