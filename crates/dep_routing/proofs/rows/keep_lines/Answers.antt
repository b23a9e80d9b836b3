use Rattle.std.proofs.Common.{◌≡◌, ◌<◌, ◌==◌, ◌||◌, ◌&&◌, ◌∙◌, ℕ, Bool, length, set, sym, ap, arith, ⊎_elim, length-set}
use Rattle.std.proofs.lemmas.Bool.{cases_eq}
use Rattle.class_set.specs.ClassSet.{holds}
use Rattle.dep_routing.specs.Noise.{marks_of}
use Rattle.dep_routing.specs.Rows.{is_noisy}
use Rattle.dep_routing.specs.Touch.{touches_in}
use Rattle.dep_routing.proofs.SetTables.{touches-apart, touches-marks, touches-set}
use Rattle.dep_routing.proofs.rows.keep_lines.Goals as goal

pub loop-r-preserved : goal.loop-r-preserved
loop-r-preserved g c =
    let begun = c.args.sets.now.items in
    let old = c.loop-r.sets.items in
    let r = c.loop-r.r in
    let v = c.lines_at.result in
    let i = c.loop-r.invariant in
    let inside : r < length old = omega (arith, c.loop-r-test.true, c.loop-r.auto.r-end, i.size) in
    let tests : (k line : ℕ) → Bool = λ k line. holds c.args.lines.now line && is_noisy (marks_of begun line) k in
    let here : (line : ℕ) → holds v line ≡ tests r line = λ line. c.lines_at.ensures line
    ∙ ap (λ b. holds c.args.lines.now line && ((r == 0) || b)) (touches-marks old r line ∙ i.ahead r line (omega arith) ∙ sym (touches-marks begun r line)) in
    record {
      size = length-set old r v ∙ i.size;
      done = λ k line below. ⊎_elim
          (λ (same : k ≡ r). ap (λ n. touches_in (set old r v) n line) same ∙ touches-set old r line v inside ∙ here line ∙ ap (λ n. tests n line) (sym same))
          (λ apart. touches-apart old r k line v apart ∙ i.done k line (omega (arith, below, apart)))
          (cases_eq k r);
      ahead = λ k line past. touches-apart old r k line v (λ same. omega (arith, past, same)) ∙ i.ahead k line (omega (arith, past));
    }

pub returns-clause-each : goal.returns-clause-each
returns-clause-each g c = λ r line below. c.loop-r.invariant.done r line (omega (arith, below, c.loop-r-test.false, c.loop-r.auto.r-end))
