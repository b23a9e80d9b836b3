use Rattle.std.proofs.Common.{◌≡◌, ◌++◌, List, length, Ok, ap, sym, ◌∙◌, subst, arith}
use Rattle.std.specs.List.{All}
use Rattle.fixed_form.specs.declared.raw_stmt.RawStmt.{RawStmt}
use Rattle.fixed_form.specs.Limits.{IsWithinForm}
use Rattle.fixed_form.specs.Reader.{closed_last}
use Rattle.fixed_form.proofs.Limits.{closed_each}
use Rattle.fixed_form.proofs.Steps.{refused_at_end, accepted_at_end}
use Rattle.fixed_form.proofs.reader.Reader.finish.Goals as goal

pub returns-then-not-is_at_end-clause-refused : goal.returns-then-not-is_at_end-clause-refused
returns-then-not-is_at_end-clause-refused c _ =
    let reader = c.args.self in
    refused_at_end reader.done reader.last reader.lines c.requires.bounded.last (sym c.is_at_end.ensures ∙ c.if-not-is_at_end.true)

pub returns-clause-accepted : goal.returns-clause-accepted
returns-clause-accepted c =
    let reader = c.args.self in
    accepted_at_end reader.done reader.last reader.lines c.requires.bounded.last (sym c.is_at_end.ensures ∙ c.if-not-is_at_end.false) ∙ ap (λ r. Ok r.done) (sym c.in_ok-close.ensures)

pub returns-clause-limits : goal.returns-clause-limits
returns-clause-limits c =
    let reader = c.args.self in
    let done : c.close.new.self.done ≡ reader.done ++ closed_last reader.last = ap (λ r. r.done) c.in_ok-close.ensures in
    record {
      few = omega (arith, ap (λ (ss : List RawStmt). length ss) done, c.requires.bounded.few);
      each = subst (λ (ss : List RawStmt). All IsWithinForm ss) (sym done) (closed_each reader.done reader.last c.requires.bounded.each c.requires.bounded.last);
    }
