use Rattle.std.proofs.Common.{[], ◌∷◌}
use Rattle.declared_names.proofs.Describing.{on_ok, noted-view}
use Rattle.declared_names.proofs.appearing_names.AppearingNames.note.Goals as goal

pub returns : goal.returns
returns c =
    on_ok c.note.result (noted-view c.args.declared.now.declared c.note.new.self c.self.inside.seen (c.args.name.now ∷ []) c.args.self.now c.self.view_is) c.note.ensures
