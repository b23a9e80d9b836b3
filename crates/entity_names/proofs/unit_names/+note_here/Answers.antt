use Rattle.std.proofs.Common.{◌≡◌, ℕ, List, fold, ap, sym, subst, ◌∙◌}
use Rattle.std.specs.Prelude.{OnOk}
use Rattle.f77_tree.specs.declared.statements.Stmt.{Stmt}
use Rattle.layout_rules.specs.Appearances.{with_name}
use Rattle.declared_names.specs.Described.{is_array_told}
use Rattle.declared_names.specs.KeptDeclarations.{said_by}
use Rattle.program_units.specs.Names.{appearing_here}
use Rattle.unit_laws.proofs.NamesMet.{met-ThenIf}
use Rattle.entity_names.proofs.unit_names.+note_here.Goals as goal

pub returns-in_ok-note_in-in-ThenIf : goal.returns-in_ok-note_in-in-ThenIf
returns-in_ok-note_in-in-ThenIf t c =
    let arrays = is_array_told (said_by c.args.declared.now) in
    let all : fold with_name c.note_in.new.self (appearing_here arrays c.get.result.now) ≡ fold with_name c.args.names.now (appearing_here arrays c.args.stmt.now) =
    ap (λ (s : Stmt). fold with_name c.note_in.new.self (appearing_here arrays s)) c.get.ensures
    ∙ met-ThenIf arrays c.in-ThenIf.condition c.in-ThenIf.inner c.args.names.now c.note_in.new.self c.in_ok-note_in-in-ThenIf.ensures
    ∙ ap (λ (s : Stmt). fold with_name c.args.names.now (appearing_here arrays s)) (sym c.in-ThenIf.is)
    in
    subst (λ (names : List (List ℕ)). OnOk c.note_here.result (c.note_here.new.names ≡ names)) all c.note_here.ensures
