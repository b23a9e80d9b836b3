use Rattle.std.proofs.Common.{ℕ, List, fold, ap, ◌∙◌}
use Rattle.layout_rules.specs.Appearances.{with_name}
use Rattle.declared_names.specs.Described.{is_array_told}
use Rattle.declared_names.specs.KeptDeclarations.{said_by}
use Rattle.program_units.specs.Names.{appearing_here}
use Rattle.unit_laws.proofs.NamesMet.{met-more}
use Rattle.entity_names.proofs.unit_names.unit_names.Goals as goal

pub loop-s-preserved : goal.loop-s-preserved
loop-s-preserved c =
    let s = c.s-item.result in
    c.in_ok-note_here.ensures
    ∙ ap (λ (names : List (List ℕ)). fold with_name names (appearing_here (is_array_told (said_by c.args.declared.now)) s.stmt)) c.loop-s.invariant
    ∙ met-more c.args.unit.now c.loop-s.s-index s (said_by c.args.declared.now) c.loop-s-test.true c.s-item.is c.requires
