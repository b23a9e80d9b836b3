use Rattle.std.proofs.Common.{sym, subst, arith}
use Rattle.std.specs.Prelude.{IsTrue}
use Rattle.std.specs.List.{list_all}
use Rattle.fixed_form.specs.Columns.{is_character}
use Rattle.fixed_form.specs.Limits.{AreWithinForm}
use Rattle.f77_source.specs.Accepted.{IsAccepted}
use Rattle.f77_source.specs.Reading.{statements_of}
use Rattle.f77_source.proofs.Refusals.{stmt_told}
use Rattle.f77_source.proofs.Statements.{AreRead, refused_here, read_next, are_text}
use Rattle.f77_source.proofs.program.parsed.Goals as goal

-- src/program.rt:60:25
pub returns-in-Err-clause-read : goal.returns-in-Err-clause-read
returns-in-Err-clause-read c =
    rw (c.stmt_refused.ensures)
    (stmt_told (statements_of c.args.raws.now) c.in-Err.end
    (λ told. rw (← c.as_slice-raw-items.ensures.items) (refused_here c.as_slice-raw-items.result.now c.loop-raw.raw-index c.raw-item.result c.loop-raw.stmts c.in-Err.end c.loop-raw-test.true c.raw-item.is (c.in-Err.ensures.refused told) c.loop-raw.invariant)))

-- src/program.rt:58:5
pub loop-raw-preserved : goal.loop-raw-preserved
loop-raw-preserved c =
    let raws = c.as_slice-raw-items.result.now in
    let within = subst AreWithinForm (sym c.as_slice-raw-items.ensures.items) c.requires.within in
    rw c.in_ok-push-in-Ok.ensures.ok
    (read_next raws c.loop-raw.raw-index c.raw-item.result c.loop-raw.stmts c.in-Ok.stmt c.loop-raw-test.true c.raw-item.is c.in-Ok.ensures.accepted c.in-Ok.ensures.parsed
    (c.in-Ok.ensures.given (subst (λ raw. IsTrue (list_all is_character raw.text)) (sym c.raw-item.is) (within.each c.loop-raw.raw-index c.raw-item.result c.loop-raw-test.true).characters)) c.loop-raw.invariant)

-- src/program.rt:51:1
pub returns-clause-text : goal.returns-clause-text
returns-clause-text c =
    let raws = c.as_slice-raw-items.result.now in
    are_text c.one_statement.ensures raws c.loop-raw.stmts (subst AreWithinForm (sym c.as_slice-raw-items.ensures.items) c.requires.within) (subst IsAccepted (sym c.as_slice-raw-items.ensures.items) c.requires.accepted)
    (subst (λ i. AreRead raws i c.loop-raw.stmts) (omega (arith, c.loop-raw-test.false, c.loop-raw.auto.raw-index-end)) c.loop-raw.invariant)
