use Rattle.std.proofs.Common.{◌≡◌, ◌<◌, ◌≤◌, ◌∙◌, ◌+◌, ◌-◌, ℕ, List, length, get_or, slice_index, refl, sym, ap, subst, arith}
use Rattle.std.specs.List.{list_any}
use Rattle.std.proofs.Props.{props}
use Rattle.std.proofs.lemmas.List.{length-set}
use Rattle.std.proofs.lemmas.Option.{slice_get_read}
use mathlib.Core.Logic.{∥∥₁_elim, ∥∥₁_map}
use Rattle.op_board.specs.OperationNets.{OperationNet, operation_count}
use Rattle.operation_tables.specs.declared.rows.Row.{Row}
use Rattle.operation_tables.specs.OperationRows.{HasRows, IsCountedHop, IsRowWith}
use Rattle.operation_tables.specs.PlanView.{operations_in}
use Rattle.operation_tables.specs.ScratchLines.{AreLinked, HasLines}
use Rattle.operation_tables.proofs.HopLinks.{has_line}
use Rattle.operation_tables.proofs.RowFronts.{AreHalfLinked, half_begin, half_end, half_more}
use Rattle.operation_tables.proofs.RowLinks.{links_begin, links_more, row_linked, row_lines, row_rises}
use Rattle.operation_tables.proofs.RowPlans.{planned_count}
use Rattle.operation_tables.proofs.rows.linked_rows.Goals as goal

pub overflow_cast-i : goal.overflow_cast-i
overflow_cast-i g c =
    let all = planned_count c.args.plan.now c.args.piece c.index.result.now c.requires.piece c.index.ensures in
    let few = c.plans_can_be_numbered.ensures.operations c.args.piece c.requires.piece in
    omega (arith, c.len-i.ensures, c.index.result.now.operations.ok.0, all, few)

pub loop-i-init : goal.loop-i-init
loop-i-init g c =
    let plan = c.args.plan.now in
    let x = operations_in plan in
    let piece = c.args.piece in
    let all = planned_count plan piece c.index.result.now c.requires.piece c.index.ensures in
    let is : c.len-i.result ≡ operation_count x piece = omega (arith, c.len-i.ensures, c.index.result.now.operations.ok.0, all) in
    let rows = c.in_ok-rows.ensures in
    record {
      within = omega (arith, is);
      counted = rows.counted;
      linked = links_begin x piece c.len-i.result c.args.scratch.now c.unlinked_rows.new.scratch c.requires.clean rows.counted.all rows.first is;
      count = ∥∥₁_elim rows.rows (hlevel props) (λ (has : HasRows (IsCountedHop x piece) x piece c.in_ok-rows.rows.items). has.count);
      rows = ∥∥₁_map rows.rows (λ (has : HasRows (IsCountedHop x piece) x piece c.in_ok-rows.rows.items). half_begin x piece c.in_ok-rows.rows.items c.len-i.result is has);
    }

-- the row before those that are linked
front_row : (x : OperationNet) (piece i : ℕ) (rows : List Row) (row : Row) → 0 < i → i ≤ length rows → row ≡ get_or rows (i - 1) row → AreHalfLinked x piece i rows → IsRowWith (IsCountedHop x piece (i - 1)) x piece (i - 1) row
front_row x piece i rows row some within is half = half.front (i - 1) row (slice_get_read rows (length rows) (i - 1) row refl (omega (arith, some, within)) is) (omega (arith, some))

pub link_hops-requires-clause-exist : goal.link_hops-requires-clause-exist
link_hops-requires-clause-exist g c = λ k d low.
    let x = operations_in c.args.plan.now in
    let inv = c.loop-i.invariant in
    let row : Row = c.index_mut.result.now in
    let within : c.loop-i.i ≤ length c.loop-i.rows.items = let count = inv.count in let most = inv.within in omega (arith, count, most) in
    let exists : (get_or row.hops.items k d).line < x.net.routing.lines = ∥∥₁_elim inv.rows (hlevel props) (λ (half : AreHalfLinked x c.args.piece c.loop-i.i c.loop-i.rows.items).
    ((front_row x c.args.piece c.loop-i.i c.loop-i.rows.items row c.loop-i-test.true within c.index_mut.ensures.value half).hops k d low).exists) in
    let size = inv.linked.all.first in
    omega (arith, exists, size)

pub link_hops-requires-clause-rising : goal.link_hops-requires-clause-rising
link_hops-requires-clause-rising g c =
    let x = operations_in c.args.plan.now in
    let inv = c.loop-i.invariant in
    let row : Row = c.index_mut.result.now in
    let within : c.loop-i.i ≤ length c.loop-i.rows.items = let count = inv.count in let most = inv.within in omega (arith, count, most) in
    ∥∥₁_elim inv.rows (hlevel props) (λ (half : AreHalfLinked x c.args.piece c.loop-i.i c.loop-i.rows.items).
    row_rises x c.args.piece (c.loop-i.i - 1) (IsCountedHop x c.args.piece (c.loop-i.i - 1)) row (front_row x c.args.piece c.loop-i.i c.loop-i.rows.items row c.loop-i-test.true within c.index_mut.ensures.value half))

pub loop-i-preserved : goal.loop-i-preserved
loop-i-preserved g c =
    let x = operations_in c.args.plan.now in
    let piece = c.args.piece in
    let i = c.loop-i.i in
    let rows = c.loop-i.rows.items in
    let inv = c.loop-i.invariant in
    let row : Row = c.index_mut.result.now in
    let within : i ≤ length rows = let count = inv.count in let most = inv.within in omega (arith, count, most) in
    let next : i - 1 + 1 ≡ i = omega (arith, c.loop-i-test.true) in
    let inside : i - 1 < operation_count x piece = let most = inv.within in omega (arith, most, c.loop-i-test.true) in
    let links : AreLinked x piece (i - 1 + 1) c.loop-i.scratch = subst (λ n. AreLinked x piece n c.loop-i.scratch) (sym next) inv.linked in
    let new = c.link_hops.new.scratch in
    let all : HasLines x.net.routing.lines new = record { before = ap length c.link_hops.ensures.before ∙ inv.linked.all.before; first = c.link_hops.ensures.all ∙ inv.linked.all.first } in
    let own : (line : ℕ) → line < x.net.routing.lines → list_any (has_line line) row.hops.items ≡ x.needs piece (i - 1) line = λ line low.
    ∥∥₁_elim inv.rows (hlevel props) (λ (half : AreHalfLinked x piece i rows). row_lines x piece (i - 1) (IsCountedHop x piece (i - 1)) row (front_row x piece i rows row c.loop-i-test.true within c.index_mut.ensures.value half) line low) in
    let made : Row = record row { hops = c.link_hops.new.hops } in
    record {
      within = let most = inv.within in omega (arith, most);
      counted = record { all = all; before = λ line low. ap (λ (xs : List ℕ). slice_index xs line) c.link_hops.ensures.before ∙ inv.counted.before line low };
      linked = links_more x piece (i - 1) c.loop-i.scratch links inside row.hops.items own new all c.link_hops.ensures.first;
      count = length-set rows (i - 1) made ∙ inv.count;
      rows = ∥∥₁_map inv.rows (λ (half : AreHalfLinked x piece i rows).
          half_more x piece rows (i - 1) made (omega (arith, within, c.loop-i-test.true)) (subst (λ n. AreHalfLinked x piece n rows) (sym next) half)
          (row_linked x piece (i - 1) c.loop-i.scratch links inside row made (front_row x piece i rows row c.loop-i-test.true within c.index_mut.ensures.value half) c.link_hops.ensures.hops));
    }

pub returns-clause-rows : goal.returns-clause-rows
returns-clause-rows g c =
    let x = operations_in c.args.plan.now in
    ∥∥₁_map c.loop-i.invariant.rows (λ (half : AreHalfLinked x c.args.piece c.loop-i.i c.loop-i.rows.items). half_end x c.args.piece c.loop-i.rows.items c.loop-i.i (omega (arith, c.loop-i-test.false)) c.loop-i.invariant.count half)
