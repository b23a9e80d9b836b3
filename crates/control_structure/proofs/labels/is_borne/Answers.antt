use Rattle.std.proofs.Common.{◌≡◌, length, sym, ap, ◌∙◌, slice_get, Some, refl}
use Rattle.std.proofs.lemmas.Option.{slice_get_read, slice_get_past}
use Rattle.layout_rules.specs.Labels.{statement_of}
use Rattle.layout_rules.specs.Roles.{is_target_role}
use Rattle.control_structure.proofs.LabelLemmas.{borne-at, borne-none}
use Rattle.control_structure.proofs.labels.is_borne.Goals as goal

pub returns-in-Some : goal.returns-in-Some
returns-in-Some c =
    let place = c.place.ensures ∙ c.requires.places c.args.label in
    let there = slice_get_read c.args.stmts.now (length c.args.stmts.now) c.place.result c.in-Some.s.now refl c.in-Some.ensures.lookup.3.0 c.in-Some.ensures.lookup.1 in
    let here : slice_get c.args.stmts.now (statement_of c.args.stmts.now c.args.label) ≡ Some c.in-Some.s.now = ap (slice_get c.args.stmts.now) (sym place) ∙ there in
    c.may_be_target.ensures ∙ (ap is_target_role c.role_in.ensures ∙ sym (borne-at c.args.stmts.now c.requires.once c.args.label c.requires.label.0 c.in-Some.s.now here))

pub returns-in-None : goal.returns-in-None
returns-in-None c =
    let place = c.place.ensures ∙ c.requires.places c.args.label in
    let past = slice_get_past c.args.stmts.now c.place.result c.in-None.ensures.lookup.3 in
    sym (borne-none c.args.stmts.now c.requires.once c.args.label c.requires.label.0 (ap (slice_get c.args.stmts.now) (sym place) ∙ past))
