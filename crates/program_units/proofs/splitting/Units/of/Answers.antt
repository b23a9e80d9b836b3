use Rattle.std.proofs.Common.{◌≡◌, ℕ, ◌+◌, List, length, true, false, sym, subst, ◌∙◌, arith}
use Rattle.program_units.specs.declared.splitting.Span.{Span}
use Rattle.program_units.specs.Units.{is_end as is_end_of}
use Rattle.program_units.proofs.Cutting.{IsCut, AreCut, cut-other, cut-end, cut-all}
use Rattle.program_units.proofs.splitting.Units.of.Goals as goal
use Rattle.program_units.proofs.splitting.Units.of.Goals.{then-is_end+in_ok-push, else-is_end}

pub loop-i-preserved : goal.loop-i-preserved
loop-i-preserved c =
    let s = c.index-stmts-i.result in
    let stmts = c.args.stmts.now in
    let i = c.loop-i.i in
    elim c.if-is_end.branch [
      | then-is_end+in_ok-push w ↦
          let is : is_end_of s.stmt ≡ true = sym c.is_end.ensures ∙ w.if-is_end.true in
          rw (w.spans-is, w.in_ok-push.ensures.items, w.from-is) (cut-end stmts c.loop-i.spans.items c.loop-i.from i s c.loop-i.invariant c.loop-i-test.true c.index-stmts-i.is is)
      | else-is_end w ↦
          let items : c.if-is_end.spans.items ≡ c.loop-i.spans.items = cc in
          let is : is_end_of s.stmt ≡ false = sym c.is_end.ensures ∙ w.if-is_end.false in
          subst (λ (from : ℕ). IsCut stmts c.if-is_end.spans.items from (i + 1)) (sym w.from-is)
          (subst (λ (spans : List Span). IsCut stmts spans c.loop-i.from (i + 1)) (sym items)
          (cut-other stmts c.loop-i.spans.items c.loop-i.from i s c.loop-i.invariant c.loop-i-test.true c.index-stmts-i.is is))
    ]

pub invariant_of-result : goal.invariant_of-result
invariant_of-result c =
    let stmts = c.args.stmts.now in
    let at_end : c.loop-i.i ≡ length stmts = omega arith in
    let cut : IsCut stmts c.loop-i.spans.items c.loop-i.from (length stmts) = subst (λ (i : ℕ). IsCut stmts c.loop-i.spans.items c.loop-i.from i) at_end c.loop-i.invariant in
    let done : AreCut stmts c.close.new.spans.items = subst (λ (spans : List Span). AreCut stmts spans) (sym c.in_ok-close.ensures) (cut-all stmts c.loop-i.spans.items c.loop-i.from cut) in
    done.inside

pub returns : goal.returns
returns c =
    let stmts = c.args.stmts.now in
    let at_end : c.loop-i.i ≡ length stmts = omega arith in
    let cut : IsCut stmts c.loop-i.spans.items c.loop-i.from (length stmts) = subst (λ (i : ℕ). IsCut stmts c.loop-i.spans.items c.loop-i.from i) at_end c.loop-i.invariant in
    let done : AreCut stmts c.close.new.spans.items = subst (λ (spans : List Span). AreCut stmts spans) (sym c.in_ok-close.ensures) (cut-all stmts c.loop-i.spans.items c.loop-i.from cut) in
    done.same
