use Rattle.std.proofs.Common.{ℕ, List, fold, ap, ◌∙◌, arith}
use Rattle.std.specs.Prelude.{flat_map}
use Rattle.std.proofs.lemmas.List.{take_all}
use Rattle.f77_tree.specs.declared.statements.Labelled.{Labelled}
use Rattle.layout_rules.specs.Appearances.{each_once, with_name}
use Rattle.layout_rules.specs.Declarations.{is_array}
use Rattle.declared_names.specs.Described.{is_array_told}
use Rattle.declared_names.specs.KeptDeclarations.{said_by}
use Rattle.program_units.specs.Dummies.{stored}
use Rattle.program_units.proofs.StoredNames.{storage-is, storage-more}
use Rattle.unit_checks.proofs.dummies.storage_names.Goals as goal

pub loop-s-preserved : goal.loop-s-preserved
loop-s-preserved c =
    let s = c.s-item.result in
    c.in_ok-note_storage.ensures
    ∙ ap (λ (names : List (List ℕ)). fold with_name names (stored (is_array_told (said_by c.args.declared.now)) s.stmt)) c.loop-s.invariant
    ∙ storage-more c.args.unit.now c.loop-s.s-index s (said_by c.args.declared.now) c.loop-s-test.true c.s-item.is c.requires

pub returns : goal.returns
returns c =
    let unit = c.args.unit.now in
    c.loop-s.invariant
    ∙ ap (λ (stmts : List Labelled). each_once (flat_map (λ s. stored (is_array unit) s.stmt) stmts)) (take_all c.loop-s.s-index unit (omega arith))
    ∙ storage-is unit
