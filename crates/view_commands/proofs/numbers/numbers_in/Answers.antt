use Rattle.std.proofs.Common.{◌≡◌, ℕ, Vec, Global, ◌+◌, ◌<◌, ◌≤◌, ◌∷◌, [], ◌++◌, length, drop, get_or, Some, None, refl, sym, ap, subst, ◌∙◌, unwrap_or, rules, arith}
use Rattle.std.proofs.lemmas.Bool.{ne_eqb}
use Rattle.std.proofs.Math.ListN.{drop_of_length-le}
use Rattle.std.proofs.lemmas.Result.{err_from_is_err_and}
use Rattle.view_commands.specs.Numbers.{numbers_on}
use Rattle.view_commands.specs.Numbers.{with_digit as digit_on}
use Rattle.view_commands.proofs.NumberLists.{with_rest, fault_passes, at_place, numbers_comma, numbers_missing, numbers_digit, numbers_other, numbers_end, numbers_none}
use Rattle.view_commands.proofs.numbers.numbers_in.Goals as goal
use Rattle.view_commands.proofs.numbers.numbers_in.Goals.{then-c-eq44+in_ok-ended+in_ok-push, else-c-eq44+in_ok-with_digit}

pub loop-c-preserved : goal.loop-c-preserved
loop-c-preserved c =
    let text = c.args.text.now in
    let i = c.loop-c.c-index in
    let rest = drop (i + 1) text in
    let all = c.loop-c.all.items in
    let whole = numbers_on None text in
    let more : i < length text = c.loop-c-test.true in
    elim c.if-c-eq44.branch [
      | then-c-eq44+in_ok-ended+in_ok-push w ↦
          let n = w.in_ok-ended.field-0 in
          let comma : get_or text i 0 ≡ 44 = w.if-c-eq44.true in
          let begun : c.loop-c.number ≡ Some n = w.in_ok-ended.ensures in
          let so_far : with_rest all (Some n) (44 ∷ rest) ≡ whole = subst (λ b. with_rest all b (44 ∷ rest) ≡ whole) begun (at_place all c.loop-c.number text i 44 0 whole more comma c.loop-c.invariant) in
          let longer : w.push.new.self.items ≡ all ++ n ∷ [] = search rules in
          rw (w.all-is, w.number-is, longer) (numbers_comma all n rest whole so_far)
      | else-c-eq44+in_ok-with_digit w ↦
          let x = get_or text i 0 in
          let n = w.in_ok-with_digit.field-0 in
          let digit : digit_on (unwrap_or c.loop-c.number 0) x ≡ Some n = search rules in
          let so_far : with_rest all c.loop-c.number (x ∷ rest) ≡ whole = at_place all c.loop-c.number text i x 0 whole more refl c.loop-c.invariant in
          rw (w.all-is, w.number-is) (numbers_digit all c.loop-c.number x n rest whole (ne_eqb x 44 w.if-c-eq44.false) digit so_far)
    ]

pub returns-in_err-ended : goal.returns-in_err-ended
returns-in_err-ended c =
    let text = c.args.text.now in
    let i = c.loop-c.c-index in
    let rest = drop (i + 1) text in
    let all = c.loop-c.all.items in
    let whole = numbers_on None text in
    let p = err_from_is_err_and c.from_residual.result c.from_residual.ensures.1 in
    let comma : get_or text i 0 ≡ 44 = c.if-c-eq44.true in
    let at_comma = at_place all c.loop-c.number text i 44 0 whole c.loop-c-test.true comma c.loop-c.invariant in
    rw (p.1, p.2) (fault_passes (λ n. n) (λ (numbers : Vec ℕ Global). numbers.items) c.in_err-ended.field-0.0 c.loop-c.number whole c.in_err-ended.ensures (λ none. numbers_missing all rest whole (subst (λ b. with_rest all b (44 ∷ rest) ≡ whole) none at_comma)))

pub returns-in_err-with_digit : goal.returns-in_err-with_digit
returns-in_err-with_digit c =
    let text = c.args.text.now in
    let i = c.loop-c.c-index in
    let all = c.loop-c.all.items in
    let whole = numbers_on None text in
    let x = get_or text i 0 in
    let p = err_from_is_err_and c.from_residual-in_err-with_digit.result c.from_residual-in_err-with_digit.ensures.1 in
    let so_far = at_place all c.loop-c.number text i x 0 whole c.loop-c-test.true refl c.loop-c.invariant in
    rw (p.1, p.2) (fault_passes (λ n. n) (λ (numbers : Vec ℕ Global). numbers.items) c.in_err-with_digit.field-0.0 (digit_on (unwrap_or c.loop-c.number 0) x) whole (search rules) (λ none. numbers_other all c.loop-c.number x (drop (i + 1) text) whole (ne_eqb x 44 c.if-c-eq44.false) none so_far))

pub returns-in_err-ended-2 : goal.returns-in_err-ended-2
returns-in_err-ended-2 c =
    let text = c.args.text.now in
    let all = c.loop-c.all.items in
    let whole = numbers_on None text in
    let past : length text ≤ c.loop-c.c-index = omega arith in
    let end : with_rest all c.loop-c.number [] ≡ whole = ap (with_rest all c.loop-c.number) (sym (drop_of_length-le text past)) ∙ c.loop-c.invariant in
    let p = err_from_is_err_and c.from_residual-in_err-ended-2.result c.from_residual-in_err-ended-2.ensures.1 in
    rw (p.1, p.2) (fault_passes (λ n. n) (λ (numbers : Vec ℕ Global). numbers.items) c.in_err-ended-2.field-0.0 c.loop-c.number whole c.in_err-ended-2.ensures (λ none. numbers_none all whole (subst (λ b. with_rest all b [] ≡ whole) none end)))

pub returns : goal.returns
returns c =
    let text = c.args.text.now in
    let all = c.loop-c.all.items in
    let n = c.in_ok-ended-2.field-0 in
    let whole = numbers_on None text in
    let past : length text ≤ c.loop-c.c-index = omega arith in
    let end : with_rest all c.loop-c.number [] ≡ whole = ap (with_rest all c.loop-c.number) (sym (drop_of_length-le text past)) ∙ c.loop-c.invariant in
    let longer : c.push-2.new.self.items ≡ all ++ n ∷ [] = search rules in
    numbers_end all n whole (subst (λ b. with_rest all b [] ≡ whole) c.in_ok-ended-2.ensures end) ∙ ap Some (sym longer)
