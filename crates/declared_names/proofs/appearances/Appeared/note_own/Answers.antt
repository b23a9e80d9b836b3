use Rattle.std.proofs.Common.{◌≡◌, ℕ, List, [], ◌∷◌, fold, ap, sym, subst, ◌∙◌}
use Rattle.std.specs.Prelude.{OnOk, if◌then◌else◌}
use Rattle.declared_names.specs.KeptDeclarations.{is_array_by}
use Rattle.declared_names.specs.Noting.{noted}
use Rattle.layout_rules.specs.Appearances.{own_names}
use Rattle.declared_names.proofs.appearances.Appeared.note_own.Goals as goal

pub returns-in-Call : goal.returns-in-Call
returns-in-Call c =
    let arrays = is_array_by c.args.declared.now in
    let name = c.in-Call.name in
    let own : own_names arrays c.args.e.now ≡ name ∷ [] = ap (own_names arrays) c.in-Call.is ∙ ap (λ b. if b then name ∷ [] else []) (sym c.is_variable.ensures ∙ c.if-is_variable.true) in
    subst (λ (names : List (List ℕ)). OnOk c.note-in-Call.result (c.note-in-Call.new.self ≡ fold (noted c.args.declared.now) c.args.self.now names)) (sym own) c.note-in-Call.ensures
