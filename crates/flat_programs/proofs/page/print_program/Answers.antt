use Rattle.std.proofs.Common.{◌≡◌, ◌∙◌, List, ap, arith}
use Rattle.std.proofs.lemmas.Result.{IfOk-weaker}
use Rattle.flat_programs.specs.Text.{text}
use Rattle.flat_programs.specs.declared.statements.FlatLine.{FlatLine}
use Rattle.flat_programs.specs.FlatForm.{AreStatementsOf}
use Rattle.flat_programs.proofs.FlatProper.{few-of, only-one, proper-of}
use Rattle.flat_programs.proofs.page.print_program.Goals as goal

pub print_flat-requires-clause-proper : goal.print_flat-requires-clause-proper
print_flat-requires-clause-proper c = proper-of c.args.p.now c.in_ok-flat.flat c.in_ok-flat.ensures c.requires.well_formed

pub print_flat-requires-clause-short : goal.print_flat-requires-clause-short
print_flat-requires-clause-short c =
    let few = few-of c.args.p.now c.in_ok-flat.flat c.in_ok-flat.ensures in
    let most = c.requires.well_formed.execs.count in
    omega (arith, few, most)

pub returns : goal.returns
returns c =
    let p = c.args.p.now in
    let flat = c.in_ok-flat.flat in
    let of : AreStatementsOf p flat = c.in_ok-flat.ensures in
    IfOk-weaker c.print_flat.result (λ bytes. bytes.items ≡ text p flat) (λ bytes. (other : List FlatLine) → AreStatementsOf p other → bytes.items ≡ text p other) (λ bytes is other also. is ∙ ap (text p) (only-one p flat other of also)) c.print_flat.ensures
