use Rattle.std.proofs.Common.{◌≡◌, ◌≤◌, Some, length, sym, ap, ◌∙◌, arith}
use Rattle.std.specs.Prelude.{bytes_eq, slice_get}
use Rattle.std.specs.List.{list_any}
use Rattle.std.proofs.lemmas.List.{take_all}
use Rattle.indexmap.specs.IndexMap.{get}
use Rattle.program_units.specs.NewNames.{new_name}
use Rattle.entity_names.proofs.BlockPlaces.{among-at}
use Rattle.entity_names.proofs.KeptNames.{kept-at}
use Rattle.entity_names.proofs.PutLists.{named-more}
use Rattle.entity_names.proofs.new_names.NewNames.new_names.Goals as goal

pub new_name-requires-clause-appears : goal.new_name-requires-clause-appears
new_name-requires-clause-appears c =
    let text = c.args.self.now.text.now in
    let kept = c.index-kept.result.now in
    let are = kept-at text.us.now text.kept.items c.args.k kept text.all_kept c.requires.unit c.index-kept.ensures in
    ap (list_any (bytes_eq c.name-name.result.now)) (sym are.names) ∙ among-at kept.names c.loop-i.i c.name-name.result.now c.name-name.ensures

pub loop-i-preserved : goal.loop-i-preserved
loop-i-preserved c =
    let us = c.args.self.now.text.now.us.now in
    let names = c.index-kept.result.now.names in
    let name = c.in_ok-copy.field-0 in
    let there : slice_get names c.loop-i.i ≡ Some name = c.name-name.ensures ∙ ap Some (sym c.in_ok-copy.ensures) in
    named-more us c.args.k names c.loop-i.i name (get bytes_eq c.loop-i.new) (get bytes_eq c.insert.new.self) c.in_ok-becomes.becomes there c.loop-i.invariant (λ x. c.in_ok-insert.ensures.updates.0 x)
    (c.in_ok-becomes.ensures ∙ ap (new_name us c.args.k) (sym c.in_ok-copy.ensures))

pub returns : goal.returns
returns c = λ x told.
    let text = c.args.self.now.text.now in
    let kept = c.index-kept.result.now in
    let are = kept-at text.us.now text.kept.items c.args.k kept text.all_kept c.requires.unit c.index-kept.ensures in
    let many = c.len-i-end.ensures in
    let past : length kept.names ≤ c.loop-i.i = omega (arith, many) in
    c.loop-i.invariant x (ap (list_any (bytes_eq x)) (take_all c.loop-i.i kept.names past ∙ are.names) ∙ told)
