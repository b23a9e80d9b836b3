use Rattle.std.proofs.Common.{◌<◌, ◌+◌, ◌↔◌, List, None, Option, length, replicate, sym, ap, subst, ◌∙◌, arith}
use Rattle.std.specs.Prelude.{IsTrue}
use Rattle.f77_tree.specs.Known.{ExecMayTrapBut}
use Rattle.range_lines.specs.declared.reaches.Reach.{Reach}
use Rattle.range_lines.specs.RangeRisks.{IsMarked, MayTrapInRuns}
use Rattle.range_lines.specs.Ranges.{IsCurrent}
use Rattle.range_lines.specs.Reaches.{IsReach}
use Rattle.range_lines.proofs.RangeLemmas.{current-first, current-next}
use Rattle.range_lines.proofs.RangeRiskLemmas.{marked-risks, none-past}
use Rattle.range_lines.proofs.RiskFlags.{first-risks, more-risks, all-risks}
use Rattle.range_lines.proofs.RowLemmas.{reach-at}
use Rattle.range_lines.proofs.risks.range_risks.Goals as goal

pub loop-k-init : goal.loop-k-init
loop-k-init g c = record {
  risks = first-risks (MayTrapInRuns c.args.p.now c.args.c.now) c.new-flags.result.items c.new-flags.ensures.items;
  current = current-first c.args.p.now c.args.c.now c.in_ok-current.current.items (c.in_ok-current.ensures ∙ ap (λ n. replicate n None) c.len.ensures);
}

pub advance-requires-clause-each : goal.advance-requires-clause-each
advance-requires-clause-each g c = c.loop-k.invariant.current.each

pub loop-k-preserved : goal.loop-k-preserved
loop-k-preserved g c =
    let p = c.args.p.now in
    let t = c.args.c.now in
    let kept = c.loop-k.invariant in
    let exec = c.at-exec.result.now in
    let risk = c.exec_risk.result in
    let told : IsTrue risk ↔ ExecMayTrapBut (IsMarked c.loop-k.current.items c.loop-k.k) p.names exec.kind =
    subst (λ (xs : List (Option Reach)). IsTrue risk ↔ ExecMayTrapBut (IsMarked xs c.loop-k.k) p.names exec.kind) c.deref.ensures.value c.exec_risk.ensures in
    let reach : IsReach p t c.loop-k.k c.index.result.now = reach-at p t c.in_ok-reaches.reaches.items c.in_ok-reaches.ensures c.loop-k.k c.index.result.now (subst (λ n. c.loop-k.k < n) c.len-k-end.ensures c.loop-k-test.true) c.index.ensures in
    record {
      risks = rw c.in_ok-push.ensures.items (more-risks (MayTrapInRuns p t) c.loop-k.k c.loop-k.flags.items risk (marked-risks p t c.requires.program c.loop-k.k c.loop-k.current.items kept.current exec c.at-exec.ensures.item risk told) kept.risks);
      current = subst (λ (xs : List (Option Reach)). IsCurrent p t (c.loop-k.k + 1) xs) (sym c.advance.ensures) (current-next p t c.requires.classes c.loop-k.k exec c.at-exec.ensures.item c.loop-k.current.items kept.current c.index.result.now c.executable_fits.ensures reach);
    }

pub returns : goal.returns
returns g c =
    let p = c.args.p.now in
    let t = c.args.c.now in
    let test = c.loop-k-test.false in
    let bound = c.loop-k.auto.k-end in
    let end = c.len-k-end.ensures in
    all-risks (MayTrapInRuns p t) c.loop-k.k (length p.execs) c.loop-k.flags.items (omega (arith, test, bound, end)) (λ k past may. none-past p t k past may) c.loop-k.invariant.risks
