use Rattle.std.proofs.Common.{◌≡◌, ◌++◌, fold, ap, sym, subst, ◌∙◌}
use Rattle.std.specs.Prelude.{OnOk}
use Rattle.f77_tree.specs.declared.statements.Stmt.{Stmt}
use Rattle.declared_names.specs.declared.appearances.Appeared.{Appeared}
use Rattle.layout_rules.specs.Appearances.{appearing, names_in, names_if_any}
use Rattle.declared_names.specs.KeptDeclarations.{is_array_by}
use Rattle.declared_names.specs.Noting.{noted}
use Rattle.layout_rules.proofs.NamesOf.{appearing-ThenIf, noted_two, noted_loop}
use Rattle.declared_names.proofs.appearances.Appeared.+note_stmt.Goals as goal

pub returns-in_ok-note_in-in-ThenIf : goal.returns-in_ok-note_in-in-ThenIf
returns-in_ok-note_in-in-ThenIf t c =
    let arrays = is_array_by c.args.declared.now in
    let note = noted c.args.declared.now in
    let names : appearing arrays c.args.stmt.now ≡ names_in arrays c.in-ThenIf.cond ++ appearing arrays c.get.result.now =
    ap (appearing arrays) c.in-ThenIf.is ∙ appearing-ThenIf arrays c.in-ThenIf.cond c.in-ThenIf.stmt ∙ ap (λ (stmt : Stmt). names_in arrays c.in-ThenIf.cond ++ appearing arrays stmt) (sym c.get.ensures)
    in
    let all : fold note c.note_in-in-ThenIf.new.self (appearing arrays c.get.result.now) ≡ fold note c.args.self.now (appearing arrays c.args.stmt.now) =
    noted_two note c.args.self.now c.note_in-in-ThenIf.new.self (names_in arrays c.in-ThenIf.cond) (appearing arrays c.get.result.now) c.in_ok-note_in-in-ThenIf.ensures ∙ ap (fold note c.args.self.now) (sym names)
    in
    subst (λ (seen : Appeared). OnOk c.note_stmt.result (c.note_stmt.new.self ≡ seen)) all c.note_stmt.ensures

pub returns-in_ok-note_in-in-Do-2 : goal.returns-in_ok-note_in-in-Do-2
returns-in_ok-note_in-in-Do-2 t c =
    let arrays = is_array_by c.args.declared.now in
    let note = noted c.args.declared.now in
    let all : fold note c.note_in-in-Do-2.new.self (names_if_any arrays c.in-Do.step) ≡ fold note c.args.self.now (appearing arrays c.args.stmt.now) =
    noted_loop note c.args.self.now c.note.new.self c.note_in-in-Do.new.self c.note_in-in-Do-2.new.self c.in-Do.var (names_in arrays c.in-Do.first) (names_in arrays c.in-Do.last) (names_if_any arrays c.in-Do.step) c.in_ok-note-in-Do.ensures c.in_ok-note_in-in-Do.ensures c.in_ok-note_in-in-Do-2.ensures
    ∙ ap (λ (stmt : Stmt). fold note c.args.self.now (appearing arrays stmt)) (sym c.in-Do.is)
    in
    subst (λ (seen : Appeared). OnOk c.note_step.result (c.note_step.new.self ≡ seen)) all c.note_step.ensures
