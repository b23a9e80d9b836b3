use Rattle.std.proofs.Common.{◌≡◌, ◌+◌, ◌*◌, ◌^◌, ◌<◌, ◌≤◌, ◌∷◌, Some, None, arith, rules}
use Rattle.std.proofs.lemmas.Grind.{common_steps}
use Rattle.printed_graphs.specs.Reading.{digit_at, long_number_at}
use Rattle.printed_graphs.proofs.Again.{no_first, from_first, from_next, at_over, at_end, at_zero}
use Rattle.printed_graphs.proofs.Texts.{first_digit, next_digit}
use Rattle.printed_graphs.proofs.cursor.number_at.Goals as goal

pub returns-in_err-first-clause-after : goal.returns-in_err-first-clause-after
returns-in_err-first-clause-after c = rw c.from_residual.ensures (no_first c.args.text.now c.in_err-first.ensures.after)

pub loop-n-init : goal.loop-n-init
loop-n-init c =
    let d = c.in_ok-first.first in
    let same : c.from-n.result ≡ d = search rules in
    let small : d < 10 = search rules in
    let text : c.args.text.now ≡ (48 + d) ∷ c.in_ok-first.rest.now = search rules in
    let first : Some (d, c.in_ok-first.rest.now) ≡ digit_at c.args.text.now = search rules in
    record {
      text = first_digit d c.from-n.result c.args.text.now c.in_ok-first.rest.now same small text;
      after = from_first d c.from-n.result c.args.text.now c.in_ok-first.rest.now same first;
    }

pub loop-n-preserved : goal.loop-n-preserved
loop-n-preserved c =
    let n = c.loop-n.n in
    let d = c.in-Some.d in
    let m = c.in_ok-n-in-Some.n in
    let some : 0 < n = search rules in
    let digit : d < 10 = search rules in
    let step : c.loop-n.rest.now ≡ (48 + d) ∷ c.in-Some.after.now = search rules in
    let total : m ≡ n * 10 + d = first_of (search rules, grind (arith, common_steps)) in
    let fits : m < 2 ^ 64 = first_of (search rules, grind (arith, common_steps)) in
    record {
      text = next_digit n d m c.args.text.now c.loop-n.rest.now c.in-Some.after.now some digit total fits c.loop-n.invariant.text step;
      after = from_next n d m c.loop-n.rest.now c.in-Some.after.now (long_number_at c.args.text.now) step some digit total fits c.loop-n.invariant.after;
    }

pub returns-in_err-checked_mul-in-Some-clause-after : goal.returns-in_err-checked_mul-in-Some-clause-after
returns-in_err-checked_mul-in-Some-clause-after c =
    let n = c.loop-n.n in
    let d = c.in-Some.d in
    let some : 0 < n = search rules in
    let digit : d < 10 = search rules in
    let step : c.loop-n.rest.now ≡ (48 + d) ∷ c.in-Some.after.now = search rules in
    let over : 2 ^ 64 ≤ n * 10 + d = omega (arith, c.in_err-checked_mul-in-Some.ensures) in
    rw c.from_residual-in_err-checked_mul-in-Some.ensures (at_over n d c.loop-n.rest.now c.in-Some.after.now (long_number_at c.args.text.now) step some digit over c.loop-n.invariant.after)

pub returns-in_err-n-in-Some-clause-after : goal.returns-in_err-n-in-Some-clause-after
returns-in_err-n-in-Some-clause-after c =
    let n = c.loop-n.n in
    let d = c.in-Some.d in
    let some : 0 < n = search rules in
    let digit : d < 10 = search rules in
    let step : c.loop-n.rest.now ≡ (48 + d) ∷ c.in-Some.after.now = search rules in
    let over : 2 ^ 64 ≤ n * 10 + d = omega (arith, c.in_err-n-in-Some.ensures) in
    rw c.from_residual-in_err-n-in-Some.ensures (at_over n d c.loop-n.rest.now c.in-Some.after.now (long_number_at c.args.text.now) step some digit over c.loop-n.invariant.after)

pub returns-in-None-clause-after : goal.returns-in-None-clause-after
returns-in-None-clause-after c =
    let end : None ≡ digit_at c.loop-n.rest.now = search rules in
    at_end c.loop-n.n c.loop-n.rest.now (long_number_at c.args.text.now) end c.loop-n.invariant.after

pub returns-clause-after : goal.returns-clause-after
returns-clause-after c =
    let none : c.loop-n.n ≡ 0 = omega arith in
    at_zero c.loop-n.n c.loop-n.rest.now (long_number_at c.args.text.now) none c.loop-n.invariant.after
