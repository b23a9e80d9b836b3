use Rattle.std.proofs.Common.{◌≡◌, ℕ, ◌+◌, [], List, length, take, replicate, false, sym, ap, subst, ◌∙◌}
use Rattle.std.specs.Prelude.{fold, flat_map}
use Rattle.std.proofs.lemmas.List.{take_all}
use Rattle.f77_tree.specs.declared.declarations.CommonPart.{CommonPart}
use Rattle.f77_tree.specs.declared.statements.Labelled.{Labelled}
use Rattle.layout_rules.specs.Declarations.{all_commons, parts_of}
use Rattle.layout_rules.specs.Storage.{Standing, standings, standings_of, with_standing, standing_equations}
use Rattle.storage_association.specs.Storages.{AreStorages}
use Rattle.layout_rules.specs.Standings.{ArePartsKnown, firsts_of}
use Rattle.storage_association.specs.CommonStorages.{AreCommons}
use Rattle.storage_association.proofs.CommonSteps.{nothing-stands, standings-next}
use Rattle.storage_association.proofs.equations.common_storages.Goals as goal

pub loop-s-init : goal.loop-s-init
loop-s-init c =
    let names = c.args.names.now in
    let stood : c.in_ok-vec.field-0.items ≡ replicate (length names) false = c.in_ok-vec.ensures.items_if_clones_equal (λ y e. e) ∙ ap (λ n. replicate n false) c.len-count.ensures in
    nothing-stands names _ (subst (λ (n : ℕ). AreStorages n [] [] c.in_ok-new.field-0) c.len-count.ensures c.in_ok-new.ensures) stood c.new-2.ensures

pub loop-s-preserved : goal.loop-s-preserved
loop-s-preserved c =
    let names = c.args.names.now in
    let i = c.loop-s.s-index in
    let before = standings names (all_commons (take i c.args.stmts.now)) in
    let came = c.in_ok-stand_in_parts.ensures before c.loop-s.invariant in
    let parts : fold with_standing before (flat_map (standings_of names) c.parts_of.result.now) ≡ standings names (all_commons (take (i + 1) c.args.stmts.now)) = ap (λ (ps : List CommonPart). fold with_standing before (flat_map (standings_of names) ps)) c.parts_of.ensures ∙ standings-next names c.args.stmts.now i c.s-item.result c.loop-s-test.true c.s-item.is in
    subst (λ (ss : List Standing). AreCommons names ss c.stand_in_parts.new.self) parts came

pub returns : goal.returns
returns c =
    let names = c.args.names.now in
    let whole : take c.loop-s.s-index c.args.stmts.now ≡ c.args.stmts.now = take_all c.loop-s.s-index c.args.stmts.now c.loop-s-test.false in
    subst (λ (ss : List Labelled). AreStorages (length names) (firsts_of (standings names (all_commons ss))) (standing_equations names [] (standings names (all_commons ss))) c.loop-s.commons.storages) whole c.loop-s.invariant.held

pub stand_in_parts-requires : goal.stand_in_parts-requires
stand_in_parts-requires c =
    let names = c.args.names.now in
    let known : ArePartsKnown names (parts_of c.s-item.result.stmt) = subst (λ (s : Labelled). ArePartsKnown names (parts_of s.stmt)) (sym c.s-item.is) (c.requires c.loop-s.s-index c.s-item.result c.loop-s-test.true).0 in
    record {
      some = record { standings = _; are = c.loop-s.invariant };
      known = subst (λ (ps : List CommonPart). ArePartsKnown names ps) (sym c.parts_of.ensures) known;
    }
