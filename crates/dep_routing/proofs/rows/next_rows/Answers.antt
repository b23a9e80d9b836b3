use Rattle.std.proofs.Common.{◌≡◌, ◌<◌, ◌∙◌, ℕ, Bool, length, set, sym, ap, subst, arith, List, Option, None, Some, get_or, if◌then◌else◌, length-set}
use Rattle.std.proofs.lemmas.List.{length-map, length-replicate, take_all}
use Rattle.region_tree.specs.Tree.{IsNumber, entry_of, exit_of}
use Rattle.class_set.specs.ClassSet.{holds}
use Rattle.shared_rows.specs.Table.{AreThere, Table, numbered_row, numbered_rows}
use Rattle.shared_rows.proofs.Numbered.{row_there}
use Rattle.dep_routing.specs.LineTable.{led}
use Rattle.dep_routing.specs.Rows.{begun_row}
use Rattle.dep_routing.specs.Noise.{marks_of}
use Rattle.dep_routing.proofs.Cells.{led-written, led-other}
use Rattle.closed_walks.proofs.Held.{Holds-at}
use Rattle.dep_routing.proofs.Noises.{marked-read}
use Rattle.dep_routing.proofs.EdgeRowSteps.{led-begun, led-none, led-row, rows-added, there-added, there-none}
use Rattle.dep_routing.proofs.RowSteps.{IsLed-more, IsLed-end}
use Rattle.dep_routing.proofs.rows.next_rows.Goals as goal

pub loop-r-init : goal.loop-r-init
loop-r-init g c =
    let n = c.args.edges in
    record {
      wide = c.in_ok-table.ensures.width;
      size = ap length c.in_ok-row_of.ensures ∙ length-replicate n None;
      there = subst (λ (xs : List (Option ℕ)). AreThere c.in_ok-table.table xs) (sym c.in_ok-row_of.ensures) (there-none c.in_ok-table.table n);
      led = λ h touches line f quiet low. record {
        rest = λ e none. ap (λ (xs : List (Option ℕ)). led (numbered_rows c.in_ok-table.table xs) line e) c.in_ok-row_of.ensures ∙ led-none c.in_ok-table.table n line e;
        done = λ r held. absurd held;
      };
    }

pub blocks_of-room-requires : goal.blocks_of-room-requires
blocks_of-room-requires g c = (
  search,
  (
    c.requires.width,
    λ k below.
        let number : IsNumber c.args.t.now (get_or c.args.order.now k 0) = c.requires.order.numbers (get_or c.args.order.now k 0) (Holds-at c.args.order.now k below) in
        omega (arith, number.1, c.requires.size),
  ),
)

pub entry-entry-requires : goal.entry-entry-requires
entry-entry-requires g c = c.requires.order.numbers (get_or c.args.order.now c.loop-r.r-index 0) (Holds-at c.args.order.now c.loop-r.r-index c.loop-r-test.true)

pub exit-exit-requires : goal.exit-exit-requires
exit-exit-requires g c = c.requires.order.numbers (get_or c.args.order.now c.loop-r.r-index 0) (Holds-at c.args.order.now c.loop-r.r-index c.loop-r-test.true)

pub index-requires : goal.index-requires
index-requires g c =
    let r = get_or c.args.order.now c.loop-r.r-index 0 in
    let number : IsNumber c.args.t.now r = c.requires.order.numbers r (Holds-at c.args.order.now c.loop-r.r-index c.loop-r-test.true) in
    let low = (c.requires.exist r number).1 in
    let at = c.exit-exit.ensures in
    let size = c.loop-r.invariant.size in
    let len = c.loop-r.row_of.ok.0 in
    omega (arith, low, at, size, len)

pub index-requires-in-loop-r : goal.index-requires-in-loop-r
index-requires-in-loop-r g c =
    let number : IsNumber c.args.t.now (get_or c.args.order.now c.loop-r.r-index 0) = c.requires.order.numbers (get_or c.args.order.now c.loop-r.r-index 0) (Holds-at c.args.order.now c.loop-r.r-index c.loop-r-test.true) in
    omega (arith, number.1, c.requires.size, c.args.noisy.now.ok.0)

pub push_row-requires : goal.push_row-requires
push_row-requires g c =
    let r = get_or c.args.order.now c.loop-r.r-index 0 in
    let number : IsNumber c.args.t.now r = c.requires.order.numbers r (Holds-at c.args.order.now c.loop-r.r-index c.loop-r-test.true) in
    let low = (c.requires.exist r number).1 in
    let at = c.exit-exit.ensures in
    let size = c.loop-r.invariant.size in
    (search, (c.requires.width, row_there c.loop-r.table c.loop-r.row_of.items c.exit-exit.result c.index.result.now c.loop-r.invariant.there (omega (arith, low, at, size)) c.index.ensures))

pub index_mut-requires : goal.index_mut-requires
index_mut-requires g c =
    let r = get_or c.args.order.now c.loop-r.r-index 0 in
    let number : IsNumber c.args.t.now r = c.requires.order.numbers r (Holds-at c.args.order.now c.loop-r.r-index c.loop-r-test.true) in
    let low = (c.requires.exist r number).0 in
    let at = c.entry-entry.ensures in
    let size = c.loop-r.invariant.size in
    let len = c.loop-r.row_of.ok.0 in
    omega (arith, low, at, size, len)

pub loop-r-preserved : goal.loop-r-preserved
loop-r-preserved g c =
    let t = c.args.t.now in
    let order = c.args.order.now in
    let k = c.loop-r.r-index in
    let r = get_or order k 0 in
    let table = c.loop-r.table in
    let numbers = c.loop-r.row_of.items in
    let rows = numbered_rows table numbers in
    let more = c.in_ok-push_row.ensures in
    let noisy = c.args.noisy.now.items in
    let number : IsNumber t r = c.requires.order.numbers r (Holds-at order k c.loop-r-test.true) in
    let exists = c.requires.exist r number in
    let marked : r < length noisy = omega (arith, number.1, c.requires.size) in
    let entered : entry_of t r < length numbers = let low = exists.0 in let size = c.loop-r.invariant.size in omega (arith, low, size) in
    let left : c.exit-exit.result < length numbers = let low = exists.1 in let at = c.exit-exit.ensures in let size = c.loop-r.invariant.size in omega (arith, low, at, size) in
    let there = row_there table numbers c.exit-exit.result c.index.result.now c.loop-r.invariant.there left c.index.ensures in
    let added : numbered_rows c.push_row.new.table (set numbers (entry_of t r) (Some (length table.rows))) ≡ set rows (entry_of t r) more.row = rows-added table c.push_row.new.table more.row more.is numbers c.loop-r.invariant.there (entry_of t r) in
    let cell : (line : ℕ) → line < c.args.lines → get_or more.row line 0 ≡ (if holds c.index-in-loop-r.result.now line then entry_of t r else led rows line (exit_of t r)) =
    λ line low.
    let inside : line < table.width = let wide = c.loop-r.invariant.wide in omega (arith, low, wide) in
    let rest : get_or (begun_row table c.index.result.now c.exit-exit.result) line 0 ≡ led rows line (exit_of t r) =
    led-begun table c.len-row.ensures.full c.index.result.now line c.exit-exit.result there inside
    ∙ sym (led-row table numbers line c.exit-exit.result c.index.result.now left c.index.ensures) ∙ ap (λ e. led rows line e) c.exit-exit.ensures in
    more.numbers line inside
    ∙ ap (λ e. if holds c.index-in-loop-r.result.now line then e else get_or (begun_row table c.index.result.now c.exit-exit.result) line 0) c.entry-entry.ensures
    ∙ ap (λ e. if holds c.index-in-loop-r.result.now line then entry_of t r else e) rest in
    rw (c.entry-entry.ensures, c.len-row.ensures.count) record {
      wide = ap (λ (x : Table). x.width) more.is ∙ c.loop-r.invariant.wide;
      size = length-set numbers (entry_of t r) (Some (length table.rows)) ∙ c.loop-r.invariant.size;
      there = there-added table c.push_row.new.table more.row more.is numbers c.loop-r.invariant.there (entry_of t r) entered;
      led = λ h touches line f n low.
          let within : line < length more.row = let long = more.size in let wide = c.loop-r.invariant.wide in omega (arith, low, long, wide) in
          let many : entry_of t r < length rows = let long = length-map numbers (numbered_row table) in omega (arith, entered, long) in
          IsLed-more h t f touches line order c.requires.order (marks_of noisy line) n k c.loop-r-test.true (led rows line) (led (numbered_rows c.push_row.new.table (set numbers (entry_of t r) (Some (length table.rows)))) line) (c.loop-r.invariant.led h touches line f n low)
          (ap (λ (xs : List (List ℕ)). led xs line (entry_of t r)) added ∙ led-written rows (entry_of t r) more.row line many within ∙ cell line low
          ∙ ap (λ (b : Bool). if b then entry_of t r else led rows line (exit_of t r)) (sym (marked-read noisy line r c.index-in-loop-r.result.now marked c.index-in-loop-r.ensures)))
          (λ e apart. ap (λ (xs : List (List ℕ)). led xs line e) added ∙ led-other rows (entry_of t r) more.row line e apart);
    }

pub returns-clause-next : goal.returns-clause-next
returns-clause-next g c = λ h touches line e f n low inside.
    let order = c.args.order.now in
    IsLed-end h c.args.t.now f touches line order c.requires.order c.loop-r.r-index (led (numbered_rows c.loop-r.table c.loop-r.row_of.items) line) (take_all c.loop-r.r-index order c.loop-r-test.false) (c.loop-r.invariant.led h touches line f n low) e
