use Rattle.std.proofs.Common.{List, ◌++◌, fold, flat_map, ap, sym, ◌∙◌}
use Rattle.f77_tree.specs.declared.statements.RawExpr.{RawExpr}
use Rattle.layout_rules.specs.Appearances.{names_in, own_names}
use Rattle.declared_names.specs.KeptDeclarations.{is_array_by}
use Rattle.declared_names.specs.Noting.{noted}
use Rattle.layout_rules.proofs.NamesIn.{names_in-parts, noted_parts}
use Rattle.declared_names.proofs.appearances.Appeared.+note_in.Goals as goal

pub returns-after-loop-arg : goal.returns-after-loop-arg
returns-after-loop-arg t c =
    let arrays = is_array_by c.args.declared.now in
    c.loop-arg.invariant
    ∙ noted_parts (noted c.args.declared.now) (names_in arrays) c.args.self.now c.note_own.new.self (own_names arrays c.args.e.now) c.as_slice-arg-items.result.now c.loop-arg.arg-index c.in_ok-note_own.ensures c.loop-arg-test.false
    ∙ ap (λ (args : List RawExpr). fold (noted c.args.declared.now) c.args.self.now (own_names arrays c.args.e.now ++ flat_map (names_in arrays) args)) c.as_slice-arg-items.ensures.items
    ∙ ap (fold (noted c.args.declared.now) c.args.self.now) (sym (names_in-parts arrays c.args.e.now c.in-Call.args c.in-Call.is))
