use Rattle.layout_rules.specs.Appearances.{names_in}
use Rattle.declared_names.specs.KeptDeclarations.{is_array_by}
use Rattle.declared_names.proofs.Describing.{on_ok, noted-view}
use Rattle.declared_names.proofs.appearing_names.AppearingNames.note_in.Goals as goal

pub returns : goal.returns
returns c =
    on_ok c.note_in.result (noted-view c.args.declared.now.declared c.note_in.new.self c.self.inside.seen (names_in (is_array_by c.args.declared.now.declared) c.args.e.now) c.args.self.now c.self.view_is) c.note_in.ensures
