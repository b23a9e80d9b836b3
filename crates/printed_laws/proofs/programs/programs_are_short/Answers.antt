use Rattle.std.proofs.Common.{◌<◌, ◌≤◌, ◌^◌, length, subst, arith}
use Rattle.std.proofs.lemmas.List.{take_all}
use Rattle.std.proofs.lemmas.List.Elements.{All-more}
use Rattle.f77_tree.specs.declared.programs.Exec.{Exec}
use Rattle.printed_laws.specs.ShortProgram.{HaveShortLines}
use Rattle.printed_laws.proofs.programs.programs_are_short.Goals as goal

pub loop-k-preserved : goal.loop-k-preserved
loop-k-preserved c =
    let execs = c.args.program.now.execs in
    let exec = c.at.result.now in
    let inside : c.loop-k.k < length execs = omega (arith, c.loop-k-test.true, c.len-k-end.ensures) in
    All-more (λ (e : Exec). e.line < 2 ^ 32) execs c.loop-k.k exec inside c.loop-k.invariant (subst (λ (e : Exec). e.line < 2 ^ 32) c.at.ensures.lookup c.stays_short.ensures)

pub returns : goal.returns
returns c =
    let execs = c.args.program.now.execs in
    let end : length execs ≤ c.loop-k.k = omega (arith, c.loop-k-test.false, c.len-k-end.ensures) in
    record {
      names = subst (λ n. n < 2 ^ 32) c.len-names.ensures c.len-names.type_inv;
      lines = subst HaveShortLines (take_all c.loop-k.k execs end) c.loop-k.invariant;
    }
