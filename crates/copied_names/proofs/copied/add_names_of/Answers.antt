use Rattle.std.proofs.Common.{◌≤◌, ◌++◌, ℕ, List, length, map, sym, ap, subst, ◌∙◌, arith}
use Rattle.std.specs.Prelude.{bytes_eq}
use Rattle.std.specs.List.{list_any}
use Rattle.std.proofs.lemmas.List.{take_all}
use Rattle.entity_names.proofs.BlockPlaces.{among-at}
use Rattle.copied_names.specs.CopiedNames.{HasNextPlace, becomes_as, copied_name}
use Rattle.copied_names.proofs.ChangedNames.{becomes-is, next-place}
use Rattle.copied_names.proofs.CopiedLists.{rows-more}
use Rattle.copied_names.proofs.copied.add_names_of.Goals as goal

pub new_name-requires-clause-appears : goal.new_name-requires-clause-appears
new_name-requires-clause-appears c =
    ap (list_any (bytes_eq c.name-name.result.now)) (sym c.names-all.ensures) ∙ among-at c.names-all.result.now c.loop-i.i c.name-name.result.now c.name-name.ensures

pub told-requires : goal.told-requires
told-requires c = subst HasNextPlace (sym c.in_ok-new_name.ensures) (next-place c.args.new.now.text.now.us.now c.args.k c.name-name.result.now c.requires.few)

pub loop-i-preserved : goal.loop-i-preserved
loop-i-preserved c =
    let us = c.args.new.now.text.now.us.now in
    rows-more us c.args.k c.args.subroutine.now c.names-all.result.now c.loop-i.i c.name-name.result.now c.args.names.now.items c.loop-i.names.items c.push.new.self.items c.in_ok-copy.field-0 c.in_ok-copy-2.field-0 c.told.result
    c.name-name.ensures c.in_ok-copy.ensures c.in_ok-copy-2.ensures (c.told.ensures ∙ ap becomes_as c.in_ok-new_name.ensures ∙ becomes-is us c.args.k c.name-name.result.now) c.loop-i.invariant c.in_ok-push.ensures.items

pub returns : goal.returns
returns c =
    let all = c.names-all.result.now in
    let many = c.len-i-end.ensures in
    let past : length all ≤ c.loop-i.i = omega (arith, many) in
    c.loop-i.invariant ∙ ap (λ (xs : List (List ℕ)). c.args.names.now.items ++ map (copied_name c.args.new.now.text.now.us.now c.args.k c.args.subroutine.now) xs) (take_all c.loop-i.i all past ∙ c.names-all.ensures)
