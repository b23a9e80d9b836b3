use Rattle.std.proofs.Common.{◌++◌, List, take, sym, subst}
use Rattle.std.proofs.lemmas.List.{append-nil}
use Rattle.entity_names.specs.UnitBlocks.{AreKept, InCommon, declared_by}
use Rattle.entity_names.proofs.CommonPlaces.{part-more}
use Rattle.entity_names.proofs.unit_blocks.UnitBlocks.note_decls.Goals as goal

pub loop-decl-init : goal.loop-decl-init
loop-decl-init c = λ common are. subst (λ (cs : List InCommon). AreKept cs c.args.self.now) (sym (append-nil common)) are

pub note-requires : goal.note-requires
note-requires c = record { common = c.requires.common ++ declared_by c.args.block.now (take c.loop-decl.decl-index c.args.decls.now); are = c.loop-decl.invariant c.requires.common c.requires.are }

pub loop-decl-preserved : goal.loop-decl-preserved
loop-decl-preserved c = λ common are.
    subst (λ (cs : List InCommon). AreKept cs c.note.new.self) (part-more c.args.block.now c.args.decls.now c.loop-decl.decl-index c.decl-item.result common c.loop-decl-test.true c.decl-item.is)
    (c.in_ok-note.ensures (common ++ declared_by c.args.block.now (take c.loop-decl.decl-index c.args.decls.now)) (c.loop-decl.invariant common are))
