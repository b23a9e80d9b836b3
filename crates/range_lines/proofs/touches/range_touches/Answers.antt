use Rattle.std.proofs.Common.{◌↔◌, ℕ, Bool, List, sym, subst, rules}
use Rattle.std.specs.Prelude.{slice_get}
use Rattle.f77_tree.specs.Touched.{ExecReadsData}
use Rattle.cfg_build.specs.Passes.{kind_in}
use Rattle.dep_routing.specs.Touch.{touches_in}
use Rattle.dep_routing.specs.Touches.{AreTouchesBy, IsFlagged}
use Rattle.dep_routing.proofs.Flags.{if-ok}
use Rattle.dep_routing.proofs.PieceTouches.{same-risks}
use Rattle.range_lines.specs.RangeRisks.{MayTrapInRuns}
use Rattle.range_lines.specs.RangeTouches.{AreRangeTouches}
use Rattle.range_lines.proofs.touches.range_touches.Goals as goal

pub touches_by-requires : goal.touches_by-requires
touches_by-requires g c =
    let p = c.args.p.now in
    let t = c.args.c.now in
    let flags : List Bool = c.deref.result.now in
    let same : (k : ℕ) → IsFlagged flags k ↔ MayTrapInRuns p t k = subst (λ (xs : List Bool). (k : ℕ) → IsFlagged xs k ↔ MayTrapInRuns p t k) (sym c.deref.ensures.value) c.in_ok-may_trap.ensures in
    let reading : (k : ℕ) → ExecReadsData (kind_in (slice_get p.execs k)) → IsFlagged flags k = λ k reads. (same k).1 (c.what_takes_data_may_trap.ensures p t k c.requires.program c.requires.classes reads) in
    search (rules, reading)

pub returns-clause-touches : goal.returns-clause-touches
returns-clause-touches g c =
    let p = c.args.p.now in
    let t = c.args.c.now in
    let flags : List Bool = c.deref.result.now in
    let same : (k : ℕ) → IsFlagged flags k ↔ MayTrapInRuns p t k = subst (λ (xs : List Bool). (k : ℕ) → IsFlagged xs k ↔ MayTrapInRuns p t k) (sym c.deref.ensures.value) c.in_ok-may_trap.ensures in
    if-ok c.touches_by.result (λ list. AreTouchesBy p t (IsFlagged flags) (touches_in list)) (λ list. AreRangeTouches p t (touches_in list))
    (λ list are. same-risks p t (IsFlagged flags) (MayTrapInRuns p t) same (touches_in list) are) c.touches_by.ensures.touches
