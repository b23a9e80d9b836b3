use Rattle.std.proofs.Common.{◌≡◌, ◌+◌, ◌<◌, ◌^◌, [], ℕ, set, get_or, refl, sym, ap, ◌∙◌, ⊎_elim, arith}
use Rattle.std.proofs.lemmas.Bool.{cases_lt}
use Rattle.class_set.specs.ClassSet.{holds}
use Rattle.dep_routing.proofs.Filling.{IsFilling-begin, IsFilling-more}
use Rattle.net_board.specs.WokenNodes.{passing_below}
use Rattle.shared_rows.specs.Table.{row_at}
use Rattle.shared_rows.proofs.Tables.{row_stays}
use Rattle.net_tables.proofs.PlaceRows.{is_next, row_next}
use Rattle.net_tables.proofs.PlacesLemmas.{number_begin, number_next, number_fits}
use Rattle.net_tables.proofs.places.number_lines.Goals as goal

pub loop-line-init : goal.loop-line-init
loop-line-init g c =
    let t = c.args.table.now in
    let k = c.args.row in
    let test = holds c.args.set.now in
    let e = c.least_above-line.ensures in
    record {
      is = sym (row_stays t k c.requires.row);
      filling = IsFilling-begin test (λ j. c.args.first + passing_below test j) (λ j. get_or (row_at t k) j 0) c.width-lines.result (row_at t k)
          (c.len-rows.ensures.full k [] c.requires.row ∙ sym c.width-lines.ensures) (λ j low. refl)
          c.least_above-line.result e.within (λ more. (e.member more).0) (λ j below. e.none j tt below);
      next = number_begin test c.args.first c.least_above-line.result (λ j below. e.none j tt below);
    }

pub overflow_add-next : goal.overflow_add-next
overflow_add-next g c =
    let test = holds c.args.set.now in
    let width = c.width-lines.ensures in
    let room : c.args.first + passing_below test c.width-lines.result < 2 ^ 32 = let e = ap (passing_below test) width in let r = c.requires.room in omega (arith, e, r) in
    let fits : c.loop-line.next + 1 < 2 ^ 32 = number_fits test c.args.first c.loop-line.line c.loop-line.next c.loop-line.invariant.next (c.loop-line.invariant.filling.member c.loop-line-test.true) c.width-lines.result (2 ^ 32) c.loop-line-test.true room in
    omega (arith, fits)

pub loop-line-preserved : goal.loop-line-preserved
loop-line-preserved g c =
    let t = c.args.table.now in
    let k = c.args.row in
    let test = holds c.args.set.now in
    let number : ℕ → ℕ = λ j. c.args.first + passing_below test j in
    let lines = c.width-lines.result in
    let line = c.loop-line.line in
    let now = c.loop-line.table in
    let i = c.loop-line.invariant in
    let next = c.least_above-line-in-loop-line.result in
    let e = c.least_above-line-in-loop-line.ensures in
    let low : line < lines = c.loop-line-test.true in
    let above : line < next = ⊎_elim (λ (more : next < lines). (e.member more).1) (λ past. omega (arith, past, low)) (cases_lt next lines) in
    let row : row_at c.set.new.self k ≡ set (row_at now k) line (number line) = row_next t k c.requires.row now c.set.new.self line c.loop-line.next i.is c.in_ok-set.ensures.ok ∙ ap (set (row_at now k) line) i.next in
    record {
      is = is_next t k c.requires.row now c.set.new.self line c.loop-line.next i.is c.in_ok-set.ensures.ok;
      filling = rw row (IsFilling-more test number (λ j. get_or (row_at t k) j 0) lines line (row_at now k) low i.filling next e.within e.member e.none);
      next = number_next test c.args.first line c.loop-line.next i.next (i.filling.member low) next above e.none;
    }
