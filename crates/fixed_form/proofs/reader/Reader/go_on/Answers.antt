use Rattle.std.proofs.Common.{◌≡◌, ◌++◌, [], ◌∷◌, ◌≤◌, length, length-append, refl, Option, Some, ap, sym, ◌∙◌, subst, arith}
use Rattle.std.specs.List.{filter}
use Rattle.fixed_form.specs.declared.open_stmt.OpenStmt.{OpenStmt}
use Rattle.fixed_form.specs.SourceLine.{numbered, is_statement_line}
use Rattle.fixed_form.specs.Reader.{closed, closed_last, statements_from, CountsLast, IsLast, IsOpenWithinForm}
use Rattle.fixed_form.proofs.Limits.{continued_within}
use Rattle.fixed_form.proofs.Faults.{continuation_fine}
use Rattle.fixed_form.proofs.Steps.{continued, go_on_counts, go_on_statements}
use Rattle.fixed_form.proofs.reader.Reader.go_on.Goals as goal

pub returns-clause-bounded : goal.returns-clause-bounded
returns-clause-bounded c =
    let old = c.args.self.now in
    let stmt = c.in-Some.stmt in
    let line = numbered old.lines c.args.columns.now in
    let within = subst (λ (last : Option OpenStmt). IsLast last old.done) c.in-Some.is c.requires.bounded.last in
    let is : c.go_on.new.self ≡ continued stmt line = c.in_ok-go_on.ensures in
    let few = subst (λ (last : Option OpenStmt). length (old.done ++ closed_last last) ≤ 4000) c.in-Some.is c.requires.bounded.few in
    record {
      done = c.requires.bounded.done;
      few = omega (arith, few, length-append old.done (closed stmt ∷ []), length-append old.done (closed c.go_on.new.self ∷ []));
      each = c.requires.bounded.each;
      last = subst IsOpenWithinForm (sym is) (continued_within stmt line c.args.columns.now refl within (omega arith) (sym c.has_bad_byte.ensures ∙ c.if-has_bad_byte.false));
    }

pub returns-clause-reads : goal.returns-clause-reads
returns-clause-reads c above has =
    let old = c.args.self.now in
    let stmt = c.in-Some.stmt in
    let line = numbered old.lines c.args.columns.now in
    let counts = subst (λ (last : Option OpenStmt). CountsLast last old.done above) c.in-Some.is has in
    let is : c.go_on.new.self ≡ continued stmt line = c.in_ok-go_on.ensures in
    let more = go_on_counts line c.requires.continuation stmt old.done above counts in (
      continuation_fine above line c.requires.continuation (sym c.has_bad_byte.ensures ∙ c.if-has_bad_byte.false) (sym c.has_blank_label.ensures ∙ c.if-not-has_blank_label.false) (omega (arith, counts.0)) (omega (arith, counts.1)),
      (more.0, ap (λ s. s.continuations) is ∙ more.1),
      λ rest. ap (λ (last : Option OpenStmt). old.done ++ statements_from last (filter is_statement_line (line ∷ rest))) c.in-Some.is ∙ go_on_statements line c.requires.continuation stmt old.done rest ∙ ap (λ (s : OpenStmt). old.done ++ statements_from (Some s) (filter is_statement_line rest)) (sym is),
    )
