use Rattle.std.proofs.Common.{◌≡◌, ⊎_elim, ℤ, false, map, sym, ap, ◌∙◌, subst}
use mathlib.Core.Logic.{∥∥₁_elim}
use Rattle.std.proofs.Props.{props}
use Rattle.f77_meaning.specs.Storage.{memory_of}
use Rattle.op_board.specs.Effects.{operand_at}
use Rattle.op_board.specs.OperationNets.{operation_at}
use Rattle.op_board.specs.Operations.{gives_value}
use Rattle.op_table.specs.declared.Trap.{Trap}
use Rattle.operation_effects.specs.Done.{KeepsStorage}
use Rattle.operation_effects.specs.declared.performing.Did.{Did}
use Rattle.operation_effects.specs.declared.performing.Did.TheVariants as did
use Rattle.operation_tables.specs.BoardView.{operation_net_on}
use Rattle.operation_tables.specs.OperationRows.{IsRow}
use Rattle.op_net.proofs.PieceValues.{is_gave, no_value}
use Rattle.op_net.proofs.piece_performing.perform_last.Goals as goal

pub returns-in-Gave-clause-none : goal.returns-in-Gave-clause-none
returns-in-Gave-clause-none g c = λ end.
    let x = operation_net_on c.args.board.now in
    let op = operation_at x c.args.piece c.args.last in
    let silent : gives_value op.work ≡ false = ∥∥₁_elim c.requires.row (hlevel props) (λ (row : IsRow x c.args.piece c.args.last c.args.row.now). sym row.gives ∙ c.if-row.false) in
    let old = c.args.storage.now in
    let new = c.perform_row.new.storage in
    let answer = c.perform_row.result in
    ⊎_elim
    (λ (w : (z : ℤ) × (answer ≡ did.Gave z)). no_value x.net.program.names x.net.input answer (memory_of old) (memory_of new) c.perform_row.new.draft.items op.work (map (operand_at c.args.values.now) op.operands) silent c.perform_row.ensures.effect (ap is_gave w.1))
    (λ (w : (trap : Trap) × (answer ≡ did.Trapped trap)). let same : new ≡ old = subst (λ (d : Did). KeepsStorage d old new) w.1 c.perform_row.ensures.memory in ap memory_of same)
    c.in-Gave.is
