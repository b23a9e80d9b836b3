use Rattle.std.proofs.Common.{sym, ap, ◌∙◌}
use Rattle.std.specs.Prelude.{option_copied}
use Rattle.entity_names.proofs.KeptNames.{kept-at, new-argument, new-fixed, no-dummy}
use Rattle.unit_laws.proofs.UnitNames.{own-of}
use Rattle.entity_names.proofs.new_names.NewNames.new_name.Goals as goal

pub name_in-requires-clause-named : goal.name_in-requires-clause-named
name_in-requires-clause-named c =
    let text = c.args.self.now.text.now in
    let us = text.us.now in
    let kept = c.index.result.now in
    let are = kept-at us text.kept.items c.args.k kept text.all_kept c.requires.unit c.index.ensures in
    let none = no-dummy us c.args.k kept c.args.name.now are (sym (ap option_copied c.in-None.is) ∙ c.get.ensures.value) in
    c.args.self.now.named.own c.args.k c.requires.sub c.requires.unit c.args.name.now (own-of us c.args.k c.args.name.now c.requires.appears none)

pub returns-in-Some : goal.returns-in-Some
returns-in-Some c =
    let text = c.args.self.now.text.now in
    let kept = c.index.result.now in
    let are = kept-at text.us.now text.kept.items c.args.k kept text.all_kept c.requires.unit c.index.ensures in
    new-argument text.us.now c.args.k kept c.args.name.now c.in-Some.place.now are (sym (ap option_copied c.in-Some.is) ∙ c.get.ensures.value)

pub returns-in_ok-name_in-in-None : goal.returns-in_ok-name_in-in-None
returns-in_ok-name_in-in-None c =
    let text = c.args.self.now.text.now in
    let kept = c.index.result.now in
    let are = kept-at text.us.now text.kept.items c.args.k kept text.all_kept c.requires.unit c.index.ensures in
    new-fixed text.us.now c.args.k kept c.args.name.now c.in_ok-name_in-in-None.field-0 are (sym (ap option_copied c.in-None.is) ∙ c.get.ensures.value) c.in_ok-name_in-in-None.ensures
