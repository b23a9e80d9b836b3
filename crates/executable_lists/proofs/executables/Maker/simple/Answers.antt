use Rattle.std.proofs.Common.{◌≡◌, ◌++◌, List, length, sym, ap, subst}
use Rattle.std.specs.Result.{OnOk}
use Rattle.f77_tree.specs.declared.programs.Exec.{Exec}
use Rattle.f77_tree.specs.declared.programs.ExecKind.{ExecKind}
use Rattle.layout_rules.specs.Executables.{at_line}
use Rattle.executable_lists.proofs.executables.Maker.simple.Goals as goal

pub returns : goal.returns
returns c = λ place.
    let kinds = c.in_ok-kind.ensures place (length c.args.execs.now) in
    let more = ap (λ (ks : List ExecKind). c.args.execs.now ++ at_line c.args.line ks) (sym kinds) in
    subst (λ (xs : List Exec). OnOk c.push.result (c.push.new.self ≡ xs)) more c.push.ensures.ok
