-- The row of an operation, from what its parts are.
use Rattle.std.proofs.Common.{◌≡◌, ◌≤◌, ◌<◌, ◌+◌, ◌^◌, ⊎_elim, ℕ, true, List, length, map, get_or, All, sym, ap, ◌∙◌, subst, arith}
use Rattle.std.specs.List.{range_with_len}
use Rattle.std.proofs.lemmas.Bool.{cases_lt}
use Rattle.std.proofs.lemmas.List.{get_or-map, get_or_past, length-map}
use Rattle.std.proofs.lemmas.List.Elements.{All-filter}
use Rattle.std.proofs.lemmas.List.FromFn.{get_or-range_with_len, length-range_with_len}
use Rattle.cfg_build.specs.Passes.{out}
use Rattle.f77_meaning.specs.Room.{most_room}
use Rattle.net_board.specs.Nodes.{graph_in}
use Rattle.op_board.specs.Operations as board
use Rattle.op_board.specs.OperationNets.{OperationNet, needed, operation_at, operation_count}
use Rattle.operation_effects.specs.Tasks.{CanPerform, IsTaskOf, TakesOperands}
use Rattle.operation_effects.specs.Works.{HasOperands, OperationFits}
use Rattle.operation_lists.specs.declared.operations.Operation.{Operation}
use Rattle.operation_lists.specs.Seen.{operand_seen, operation_seen, work_seen}
use Rattle.operation_tables.specs.declared.hops.Hop.{Hop}
use Rattle.operation_tables.specs.declared.hops.Scratch.{Scratch}
use Rattle.operation_tables.specs.declared.rows.Row.{Row}
use Rattle.operation_tables.specs.OperationRows.{IsCountedHop, IsRowWith, IsTaker, first_three, short_count, waits_anew}
use Rattle.operation_tables.specs.RowRoom.{work_room}
use Rattle.operation_tables.specs.ScratchLines.{AreCounted, before_at}
use Rattle.operation_tables.specs.Waits.{one_if}
use Rattle.operation_tables.proofs.HopLinks.{line_of}
use Rattle.operation_tables.proofs.RowCounts.{passing_few, passing_next}
use Rattle.operation_tables.proofs.RowRooms.{task_within}

module _ (x : OperationNet) (piece i : ℕ) where
  -- ---- what is counted before the operation

  module _ (old : Scratch) (counted : AreCounted x piece i old) where
    pub few_counted : i < operation_count x piece → operation_count x piece ≤ 500 → (line : ℕ) → before_at old line < 2 ^ 16
    few_counted inside few line = ⊎_elim
        (λ (low : line < x.net.routing.lines). let is = counted.before line low in let most = passing_few (λ j. x.needs piece j line) i in omega (arith, is, most, inside, few))
        (λ (high : x.net.routing.lines ≤ line). let size = counted.all.before in let none : before_at old line ≡ 0 = get_or_past old.before.items line 0 (omega (arith, size, high)) in omega (arith, none))
        (cases_lt line x.net.routing.lines)

    pub counted_more : (new : Scratch) → length new.before.items ≡ length old.before.items → new.first.items ≡ old.first.items → ((line : ℕ) → before_at new line ≡ before_at old line + one_if (x.needs piece i line)) → AreCounted x piece (i + 1) new
    counted_more new same_length same_first more = record {
      all = record { before = same_length ∙ counted.all.before; first = ap length same_first ∙ counted.all.first };
      before = λ line low. more line ∙ ap (λ n. n + one_if (x.needs piece i line)) (counted.before line low) ∙ sym (passing_next (λ j. x.needs piece j line) i);
    }

    pub hops_counted : (hops : List Hop) → map line_of hops ≡ needed x piece i → All (λ (hop : Hop). hop.before ≡ before_at old hop.line) hops → All (IsCountedHop x piece i) hops
    hops_counted hops lines before k d low =
        let n = x.net.routing.lines in
        let below : All (λ line. line < n) (range_with_len 0 n) = λ j e inside. let size = length-range_with_len 0 n in let is = get_or-range_with_len 0 n j e (omega (arith, inside, size)) in omega (arith, is, inside, size) in
        let all : All (λ line. line < n) (map line_of hops) = subst (All (λ line. line < n)) (sym lines) (All-filter (x.needs piece i) (λ line. line < n) (range_with_len 0 n) below) in
        let size = length-map hops line_of in
        let exists : line_of (get_or hops k d) < n = subst (λ line. line < n) (get_or-map line_of hops k d 0 low) (all k 0 (omega (arith, low, size))) in
        record { exists = exists; before = before k d low ∙ counted.before (line_of (get_or hops k d)) exists }

  -- ---- the row

  module _ (op : Operation) (op_is : operation_at x piece i ≡ operation_seen op) (row : Row) where
    pub row_made : row.piece ≡ piece → row.number ≡ i → IsTaskOf x.net.program.names (work_seen op.work) row.task → CanPerform x.net.program row.task → ((count : ℕ) → HasOperands (work_seen op.work) count → TakesOperands row.task count)
        → OperationFits x.net.program (operation_at x piece i) → work_room (operation_at x piece i).work ≤ most_room x.net.program.execs
        → row.operands.items ≡ op.operands.items → map operand_seen row.few ≡ first_three (map operand_seen op.operands.items) → row.count ≡ short_count (length op.operands.items) → row.waits ≡ waits_anew x piece i → row.gives ≡ board.gives_value (work_seen op.work) → row.decides ≡ board.is_decision (work_seen op.work) → row.serial ≡ x.needs piece i 0 → row.edge ≡ out (graph_in x.net) piece 0
        → (board.gives_value (operation_at x piece i).work ≡ true → IsTaker x piece i row.taker) → map line_of row.hops.items ≡ needed x piece i → All (IsCountedHop x piece i) row.hops.items
        → IsRowWith (IsCountedHop x piece i) x piece i row
    row_made own_piece own_number is_task can takes fits room operands few count waits gives decides serial edge taker lines hops =
        let task : IsTaskOf x.net.program.names (operation_at x piece i).work row.task = subst (λ (o : board.Operation). IsTaskOf x.net.program.names o.work row.task) (sym op_is) is_task in
        let given : row.gives ≡ board.gives_value (operation_at x piece i).work = gives ∙ sym (ap (λ (o : board.Operation). board.gives_value o.work) op_is) in
        let has : HasOperands (work_seen op.work) (length (map operand_seen op.operands.items)) = subst (λ (o : board.Operation). HasOperands o.work (length o.operands)) op_is fits.1 in
        record {
          own_piece = own_piece;
          own_number = own_number;
          task = task;
          can = can;
          takes = takes (length row.operands.items) (subst (λ n. HasOperands (work_seen op.work) n) (length-map op.operands.items operand_seen ∙ ap length (sym operands)) has);
          room = task_within x.net.program.names (operation_at x piece i).work row.task (most_room x.net.program.execs) task room;
          operands = ap (map operand_seen) operands ∙ sym (ap (λ (o : board.Operation). o.operands) op_is);
          few = few ∙ sym (ap (λ (o : board.Operation). first_three o.operands) op_is);
          count = count ∙ ap short_count (sym (length-map op.operands.items operand_seen) ∙ sym (ap (λ (o : board.Operation). length o.operands) op_is));
          waits = waits;
          gives = given;
          decides = decides ∙ sym (ap (λ (o : board.Operation). board.is_decision o.work) op_is);
          serial = serial;
          edge = edge;
          taker = λ yes'. taker (sym given ∙ yes');
          lines = lines;
          hops = hops;
        }
