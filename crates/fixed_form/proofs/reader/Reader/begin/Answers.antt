use Rattle.std.proofs.Common.{◌≡◌, ◌++◌, [], ◌∷◌, ◌+◌, ◌<◌, ◌≤◌, length, length-append, Some, ap, sym, ◌∙◌, subst, arith, List}
use Rattle.std.specs.List.{All, filter}
use Rattle.fixed_form.specs.declared.open_stmt.OpenStmt.{OpenStmt}
use Rattle.fixed_form.specs.declared.raw_stmt.RawStmt.{RawStmt}
use Rattle.fixed_form.specs.Columns.{label, has_bad_label, statement_field}
use Rattle.fixed_form.specs.SourceLine.{numbered, is_statement_line}
use Rattle.fixed_form.specs.Fault.{initial_count}
use Rattle.fixed_form.specs.OpenStmt.{begun, with_characters}
use Rattle.fixed_form.specs.Limits.{IsWithinForm}
use Rattle.fixed_form.specs.Reader.{closed, closed_last, statements_from, IsOpenWithinForm}
use Rattle.fixed_form.proofs.Limits.{closed_each, begun_within}
use Rattle.fixed_form.proofs.Faults.{label_some, initial_too_many, initial_fine}
use Rattle.fixed_form.proofs.Steps.{new_stmt, initial_count_is, begin_counts, begin_statements}
use Rattle.fixed_form.proofs.reader.Reader.begin.Goals as goal
use Rattle.fixed_form.proofs.reader.Reader.begin.Goals.{Joined-self}

pub returns-then-len-ge-MOST_STATEMENTS-clause-reads :
    goal.returns-then-len-ge-MOST_STATEMENTS-clause-reads
returns-then-len-ge-MOST_STATEMENTS-clause-reads c above has _ =
    let old = c.args.self.now in
    let line = numbered old.lines c.args.columns.now in
    let found = label_some (has_bad_label line.card) c.in-Some.label (label line.card) c.in-Some.ensures.value in
    initial_too_many above line c.requires.initial (sym c.has_bad_byte.ensures ∙ c.if-has_bad_byte.false) found.0 (omega (arith, initial_count_is old.last old.done above has c.requires.bounded.last, ap (λ r. length r.done) c.in_ok-close.ensures))

stmt_is : (c : Joined-self) → c.add.new.self ≡ new_stmt (numbered c.args.self.now.lines c.args.columns.now)
stmt_is c =
    let line = numbered c.args.self.now.lines c.args.columns.now in
    let found = label_some (has_bad_label line.card) c.in-Some.label (label line.card) c.in-Some.ensures.value in
    c.in_ok-add.ensures ∙ ap (λ s. with_characters s (statement_field line.card)) (c.new-stmt.ensures ∙ ap (λ n. begun n line.number) found.1)

pub returns-clause-bounded : goal.returns-clause-bounded
returns-clause-bounded c =
    let old = c.args.self.now in
    let line = numbered old.lines c.args.columns.now in
    let found = label_some (has_bad_label line.card) c.in-Some.label (label line.card) c.in-Some.ensures.value in
    let done : c.close.new.self.done ≡ old.done ++ closed_last old.last = ap (λ r. r.done) c.in_ok-close.ensures in
    let small : label line.card ≤ 99999 = omega (arith, found.1, c.in-Some.ensures.small) in
    record {
      done = omega arith;
      few = omega (arith, length-append c.close.new.self.done (closed c.add.new.self ∷ []));
      each = subst (λ (ss : List RawStmt). All IsWithinForm ss) (sym done) (closed_each old.done old.last c.requires.bounded.each c.requires.bounded.last);
      last = subst IsOpenWithinForm (sym (stmt_is c)) (begun_within (label line.card) line.number c.args.columns.now small (sym c.has_bad_byte.ensures ∙ c.if-has_bad_byte.false));
    }

pub returns-clause-reads : goal.returns-clause-reads
returns-clause-reads c above has =
    let old = c.args.self.now in
    let line = numbered old.lines c.args.columns.now in
    let found = label_some (has_bad_label line.card) c.in-Some.label (label line.card) c.in-Some.ensures.value in
    let done : c.close.new.self.done ≡ old.done ++ closed_last old.last = ap (λ r. r.done) c.in_ok-close.ensures in
    let few : initial_count above < 4000 = omega (arith, initial_count_is old.last old.done above has c.requires.bounded.last, ap (λ (ss : List RawStmt). length ss) done) in
    let counts = begin_counts line c.requires.initial old.last old.done above has c.requires.bounded.last in (
      initial_fine above line c.requires.initial (sym c.has_bad_byte.ensures ∙ c.if-has_bad_byte.false) found.0 few,
      (counts.0 ∙ ap (λ (ss : List RawStmt). length ss + 1) (sym done), ap (λ s. s.continuations) (stmt_is c) ∙ counts.1),
      λ rest. begin_statements line c.requires.initial old.last old.done rest ∙ ap (λ (ss : List RawStmt). ss ++ statements_from (Some (new_stmt line)) (filter is_statement_line rest)) (sym done) ∙ ap (λ (s : OpenStmt). c.close.new.self.done ++ statements_from (Some s) (filter is_statement_line rest)) (sym (stmt_is c)),
    )
