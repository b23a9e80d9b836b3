use Rattle.std.proofs.Common.{◌++◌, ℕ, List, filter, map, ap, ◌∙◌}
use Rattle.f77_tree.specs.declared.statements.Labelled.{Labelled}
use Rattle.f77_subs.specs.declared.merged_storage.StorageKind.TheVariants.{Equivalence, Data}
use Rattle.program_units.specs.Expansion.{blocks, common_of, is_running, type_of}
use Rattle.program_units.specs.Names.{y_entities}
use Rattle.program_units.specs.Merged.{is_merged}
use Rattle.f77_subs.specs.MergedStorage.{storage}
use Rattle.entity_names.proofs.PutLists.{put-four}
use Rattle.f77_subs.proofs.merging.Merging.put_all.Goals as goal

pub returns : goal.returns
returns c =
    let us = c.args.self.now.new.now.text.now.us.now in
    let out = c.args.out.now.items in
    let types : ℕ → List Labelled = λ line. map (type_of us line) (filter (is_running us) (y_entities us)) in
    let commons : ℕ → List Labelled = λ line. map (common_of us line) (filter (is_merged us) (blocks us)) in
    let tied = storage Equivalence us in
    let given = storage Data us in
    put-four out (types c.args.self.now.line) (commons c.args.self.now.line) tied given c.put_types.new.out.items c.put_commons.new.out.items c.put_storage.new.out.items c.put_storage-2.new.out.items c.in_ok-put_types.ensures c.in_ok-put_commons.ensures c.in_ok-put_storage.ensures c.in_ok-put_storage-2.ensures
    ∙ ap (λ line. out ++ (types line ++ commons line ++ tied ++ given)) c.args.self.now.last
