use Rattle.std.proofs.Common.{◌≤◌, ℕ, List, [], length, not, sym, ap, subst, ◌∙◌}
use Rattle.std.specs.Prelude.{unwrap_or}
use Rattle.declared_names.specs.KeptDeclarations.{said_by}
use Rattle.unit_checks.specs.Alike.{are_alike_told}
use Rattle.unit_checks.specs.BlockTables.{found_names}
use Rattle.unit_checks.proofs.MismatchedBlocks.{mismatched-by, owner-inside}
use Rattle.unit_checks.proofs.bad_blocks.is_mismatched.Goals as goal

pub table_at-first-requires-clause-unit : goal.table_at-first-requires-clause-unit
table_at-first-requires-clause-unit c = subst (λ (n : ℕ). n ≤ length c.args.us.now) (sym c.unit.ensures) (owner-inside c.args.us.now c.args.block.now)

pub returns : goal.returns
returns c =
    let here = c.table_at-here.result.now in
    let first = c.table_at-first.result.now in
    ap not (c.are_alike.ensures
    ∙ ap (λ (xs : List (List ℕ)). are_alike_told (said_by here.declared) (said_by first.declared) xs c.of-2.result.now) c.of.ensures
    ∙ ap (are_alike_told (said_by here.declared) (said_by first.declared) (unwrap_or (found_names here.names c.args.block.now) [])) c.of-2.ensures)
    ∙ mismatched-by c.args.us.now c.args.k c.unit.result here first c.args.block.now c.table_at-here.ensures c.table_at-first.ensures c.unit.ensures
