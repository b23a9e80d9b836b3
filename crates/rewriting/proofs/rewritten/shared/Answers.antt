use Rattle.std.proofs.Common.{subst}
use Rattle.std.proofs.lemmas.Result.{IfOk-weaker}
use Rattle.cfg_build.specs.Flow.{flow}
use Rattle.cfg_build.specs.Joined.{FlowGraph}
use Rattle.flat_programs.specs.FlatForm.{IsFlatProgram}
use Rattle.redundancy.specs.Available.{IsAvailability}
use Rattle.shared_forms.specs.Shared.{IsShared}
use Rattle.rewriting.proofs.rewritten.shared.Goals as goal

pub returns-clause-flat : goal.returns-clause-flat
returns-clause-flat c =
    let q = c.args.q.now in
    let classes = c.in_ok-classes.classes in
    let a = c.in_ok-found.found in
    let available : IsAvailability q (flow q.execs) classes a = subst (λ (f : FlowGraph). IsAvailability q f classes a) c.in_ok-flow.ensures.flow c.in_ok-found.ensures in
    IfOk-weaker c.share.result (IsShared q a) IsFlatProgram
    (λ s is. c.shared_programs_are_flat.ensures q classes a s c.requires.program available is)
    c.share.ensures.shared
