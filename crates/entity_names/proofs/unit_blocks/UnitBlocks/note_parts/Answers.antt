use Rattle.std.proofs.Common.{◌≡◌, ◌+◌, ◌++◌, List, take, sym, ap, subst, ◌∙◌}
use Rattle.std.proofs.lemmas.List.{append_assoc, append-nil}
use Rattle.f77_tree.specs.declared.declarations.Decl.{Decl}
use Rattle.entity_names.specs.UnitBlocks.{AreKept, InCommon, declared_by, in_commons, in_part}
use Rattle.entity_names.proofs.CommonPlaces.{commons-more}
use Rattle.entity_names.proofs.unit_blocks.UnitBlocks.note_parts.Goals as goal

pub loop-part-init : goal.loop-part-init
loop-part-init c = λ common are. subst (λ (cs : List InCommon). AreKept cs c.args.self.now) (sym (append-nil common)) are

pub note_decls-requires : goal.note_decls-requires
note_decls-requires c = record { common = c.requires.common ++ in_commons (take c.loop-part.part-index c.args.parts.now); are = c.loop-part.invariant c.requires.common c.requires.are }

pub loop-part-preserved : goal.loop-part-preserved
loop-part-preserved c = λ common are.
    let parts = c.args.parts.now in
    let i = c.loop-part.part-index in
    let part = c.part-item.result in
    let before = common ++ in_commons (take i parts) in
    let more : before ++ declared_by part.block c.as_slice.result.now ≡ common ++ in_commons (take (i + 1) parts) =
    ap (λ (decls : List Decl). before ++ declared_by part.block decls) c.as_slice.ensures.items
    ∙ append_assoc common (in_commons (take i parts)) (in_part part)
    ∙ ap (λ (cs : List InCommon). common ++ cs) (commons-more parts i part c.loop-part-test.true c.part-item.is)
    in
    subst (λ (cs : List InCommon). AreKept cs c.note_decls.new.self) more (c.in_ok-note_decls.ensures before (c.loop-part.invariant common are))
