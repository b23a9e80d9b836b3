use Rattle.layout_rules.specs.Appearances.{appearing}
use Rattle.declared_names.specs.KeptDeclarations.{is_array_by}
use Rattle.declared_names.proofs.Describing.{on_ok, noted-view}
use Rattle.declared_names.proofs.appearing_names.AppearingNames.note_stmt.Goals as goal

pub returns : goal.returns
returns c =
    on_ok c.note_stmt.result (noted-view c.args.declared.now.declared c.note_stmt.new.self c.self.inside.seen (appearing (is_array_by c.args.declared.now.declared) c.args.stmt.now) c.args.self.now c.self.view_is) c.note_stmt.ensures
