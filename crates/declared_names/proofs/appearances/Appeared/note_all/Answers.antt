use Rattle.std.proofs.Common.{◌≡◌, List, true, false, take, fold, flat_map, ap, sym, ◌∙◌}
use Rattle.std.proofs.lemmas.List.{take_all}
use Rattle.f77_tree.specs.declared.statements.Labelled.{Labelled}
use Rattle.declared_names.specs.declared.appearances.Appeared.{Appeared}
use Rattle.layout_rules.specs.Appearances.{appearing, has_real_name}
use Rattle.declared_names.specs.KeptDeclarations.{is_array_by}
use Rattle.declared_names.specs.Noting.{noted}
use Rattle.declared_names.proofs.Appearing.{real-statement, table-whole}
use Rattle.layout_rules.proofs.FirstLine.{first_after-here, first_after-next}
use Rattle.layout_rules.proofs.NamesIn.{noted_flat_more}
use Rattle.declared_names.proofs.appearances.Appeared.note_all.Goals as goal

pub returns-then-self-clause-real : goal.returns-then-self-clause-real
returns-then-self-clause-real c =
    let stmts = c.args.stmts.now in
    let i = c.loop-s.s-index in
    let s = c.s-item.result in
    let real : has_real_name stmts (take i stmts) s ≡ true =
    sym (real-statement c.args.declared.now stmts c.requires.tells c.loop-s.self (take i stmts) s c.loop-s.invariant.none) ∙ ap (λ (seen : Appeared). seen.has_real) (sym c.in_ok-note_stmt.ensures) ∙ c.if-self.true
    in
    sym (c.loop-s.invariant.first ∙ first_after-here (has_real_name stmts) stmts i s c.loop-s-test.true c.s-item.is real)

pub loop-s-preserved : goal.loop-s-preserved
loop-s-preserved c =
    let stmts = c.args.stmts.now in
    let i = c.loop-s.s-index in
    let s = c.s-item.result in
    let note = noted c.args.declared.now in
    let names = λ (a : Labelled). appearing (is_array_by c.args.declared.now) a.stmt in
    let none : has_real_name stmts (take i stmts) s ≡ false =
    sym (real-statement c.args.declared.now stmts c.requires.tells c.loop-s.self (take i stmts) s c.loop-s.invariant.none) ∙ ap (λ (seen : Appeared). seen.has_real) (sym c.in_ok-note_stmt.ensures) ∙ c.if-self.false
    in
    record {
      first = c.loop-s.invariant.first ∙ first_after-next (has_real_name stmts) stmts i s c.loop-s-test.true c.s-item.is none;
      none = c.if-self.false;
      seen = c.in_ok-note_stmt.ensures ∙ ap (λ (seen : Appeared). fold note seen (names s)) c.loop-s.invariant.seen ∙ noted_flat_more note names c.args.self.now stmts i s c.loop-s-test.true c.s-item.is;
    }

pub returns-clause-names : goal.returns-clause-names
returns-clause-names c = λ _.
    let stmts = c.args.stmts.now in
    let note = noted c.args.declared.now in
    let names = λ (a : Labelled). appearing (is_array_by c.args.declared.now) a.stmt in
    ap (λ (seen : Appeared). seen.names) (c.loop-s.invariant.seen ∙ ap (λ (read : List Labelled). fold note c.args.self.now (flat_map names read)) (take_all c.loop-s.s-index stmts c.loop-s-test.false) ∙ ap (λ (start : Appeared). fold note start (flat_map names stmts)) c.requires.new)
    ∙ table-whole c.args.declared.now stmts c.requires.tells
