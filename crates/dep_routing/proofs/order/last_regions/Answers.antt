use Rattle.std.proofs.Common.{◌≡◌, get_or, length, sym, ap, ◌∙◌, arith}
use Rattle.std.proofs.lemmas.List.{get_or_read}
use Rattle.region_tree.specs.Tree.{IsNumber, entry_of, exit_of}
use Rattle.dep_routing.proofs.Ordering.{IsOrdering-skip, IsOrdering-last, number_at, none_at}
use Rattle.dep_routing.proofs.order.last_regions.Goals as goal
use Rattle.dep_routing.proofs.order.last_regions.Goals.{then-index-eq0+in_ok-place, else-index-eq0}

pub loop-r-preserved : goal.loop-r-preserved
loop-r-preserved c =
    let t = c.args.t.now in
    let numbers = c.args.borders.now.entered.items in
    let k = c.loop-r.r in
    let number : IsNumber t k = (omega (arith, c.loop-r.auto.r), omega (arith, c.loop-r-test.true, c.count-r-end.ensures.count, c.requires.some)) in
    let e = exit_of t k in
    let read : c.index.result.now ≡ get_or numbers e 0 =
    get_or_read numbers c.exit.result c.index.result.now (omega (arith, c.exit.ensures, (c.requires.exist k number).1, c.requires.entered.size)) c.index.ensures 0 ∙ ap (λ n. get_or numbers n 0) c.exit.ensures in
    elim c.if-index-eq0.branch [
      | then-index-eq0+in_ok-place w ↦
          rw (w.marks-is, w.regions-is)
          (IsOrdering-last t k c.loop-r.marks.items c.loop-r.regions.items c.loop-r.invariant w.place.new.marks.items w.place.new.order.items number
          (λ q other same. none_at t (length c.args.borders.now.entered.items) (entry_of t) numbers c.requires.entered e q (sym read ∙ w.if-index-eq0.true) other same) w.in_ok-place.ensures)
      | else-index-eq0 w ↦
          let some : get_or numbers e 0 ≡ 0 → ⊥ = λ none. w.if-index-eq0.false (read ∙ none) in
          rw (w.marks-is, w.regions-is)
          (IsOrdering-skip t k c.loop-r.marks.items c.loop-r.regions.items c.loop-r.invariant (get_or numbers e 0)
          (number_at t (length c.args.borders.now.entered.items) (entry_of t) numbers c.requires.entered e some) (c.requires.entered.right e some))
    ]
