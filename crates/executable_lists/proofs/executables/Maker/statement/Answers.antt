use Rattle.std.proofs.Common.{rules, arith, ◌≡◌, ◌++◌, ℕ, List, length, get_or, Result, sym, ap, subst, ◌∙◌}
use Rattle.std.specs.Result.{OnOk}
use Rattle.indexmap.proofs.MapLemmas.{OnOk-map}
use Rattle.f77_tree.specs.declared.programs.Exec.{Exec}
use Rattle.f77_tree.specs.declared.programs.NameInfo.{NameInfo}
use Rattle.f77_tree.specs.declared.statements.Labelled.{Labelled}
use Rattle.layout_rules.specs.Executables.{beyond, own_kinds, at_line, loops_to, increments}
use Rattle.layout_rules.specs.Tables.{IsUsable}
use Rattle.f77_tree.proofs.ExpressionLemmas.{All-at}
use Rattle.control_structure.proofs.Exits.{executables-within}
use Rattle.control_structure.proofs.ExecutableLemmas.{AreAll, all-executables}
use Rattle.executable_lists.proofs.executables.Maker.statement.Goals as goal
use Rattle.executable_lists.proofs.executables.Maker.statement.Goals.{In_ok-own}

-- the statement's own executables as they are pushed
made : (c : In_ok-own) → AreAll c.args.self.now.names.now c.args.self.now.checked c.args.self.now.stmts.now c.args.place c.index-self-place.result c.args.execs.now c.own.new.execs
made c =
    let whole = c.args.self.now.stmts.now in
    let place = c.args.place in
    let s = c.index-self-place.result in
    let old = c.args.execs.now in
    let line : ℕ → Labelled → List Exec = λ next a. old ++ at_line a.line (own_kinds c.args.self.now.names.now c.args.self.now.checked whole place (length old) next a.stmt) in
    let own : c.own.new.execs ≡ line c.beyond-next.result (get_or whole place s) = search rules in
    all-executables _ _ whole place s old c.own.new.execs c.beyond-next.result c.requires.place c.index-self-place.is (All-at (IsUsable whole) whole place s c.requires.place c.index-self-place.is c.requires.usable) c.requires.index
    (c.beyond-next.ensures s ∙ ap (beyond whole place) (sym c.index-self-place.is)) (own ∙ ap (line c.beyond-next.result) (sym c.index-self-place.is))

-- the increments after them
ended : {A B : Type 0} (names : List NameInfo) (whole : List Labelled) (place : ℕ) (s t : Labelled) (own new : List Exec) (result : Result A B) → s ≡ t → OnOk result (new ≡ own ++ at_line t.line (increments names whole place (length own) (loops_to whole t.label))) → OnOk result (new ≡ own ++ at_line s.line (increments names whole place (length own) (loops_to whole s.label)))
ended names whole place s t own new result is ends = subst (λ (a : Labelled). OnOk result (new ≡ own ++ at_line a.line (increments names whole place (length own) (loops_to whole a.label)))) (sym is) ends

pub increments-requires-clause-room : goal.increments-requires-clause-room
increments-requires-clause-room c =
    let whole = c.args.self.now.stmts.now in
    let s = c.index-self-place.result in
    let same = ap (λ (a : Labelled). length (loops_to whole a.label)) (sym c.index-self-place.is) in
    omega (arith, same, (made (goal.at.increments-requires-clause-room c).In_ok-own).longer, executables-within whole c.args.place s c.requires.place c.index-self-place.is, c.requires.flow.few)

pub returns-clause-execs : goal.returns-clause-execs
returns-clause-execs c =
    let whole = c.args.self.now.stmts.now in
    let s = c.index-self-place.result in
    subst (λ (xs : List Exec). OnOk c.increments.result (c.increments.new.execs ≡ xs)) (made (goal.at.returns-clause-execs c).In_ok-own).all (ended c.args.self.now.names.now whole c.args.place s (get_or whole c.args.place s) c.own.new.execs c.increments.new.execs c.increments.result c.index-self-place.is c.increments.ensures)

pub returns-clause-index : goal.returns-clause-index
returns-clause-index c =
    let whole = c.args.self.now.stmts.now in
    let s = c.index-self-place.result in
    OnOk-map c.increments.result _ _ (λ e. ap (λ (xs : List Exec). length xs) e ∙ (made (goal.at.returns-clause-index c).In_ok-own).index) (ended c.args.self.now.names.now whole c.args.place s (get_or whole c.args.place s) c.own.new.execs c.increments.new.execs c.increments.result c.index-self-place.is c.increments.ensures)
