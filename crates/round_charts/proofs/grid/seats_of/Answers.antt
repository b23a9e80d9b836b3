use Rattle.std.proofs.Common.{arith, ◌∙◌, ◌++◌, List, ap, map, sym}
use Rattle.std.proofs.lemmas.Bool.{ltb-true}
use Rattle.std.proofs.lemmas.List.{map-append}
use Rattle.std.proofs.lemmas.Grind.{common_steps}
use Rattle.round_charts.specs.Grid.{Key, key_of}
use Rattle.round_charts.proofs.Cells.{keys_left, keys_none, keys_taken}
use Rattle.round_charts.proofs.grid.seats_of.Goals.{then-round-most+in_ok-push, else-round-most}
use Rattle.round_charts.proofs.grid.seats_of.Goals as goal

pub returns-in_default : goal.returns-in_default
returns-in_default c = grind (arith, common_steps, keys_none)

pub loop-found-preserved : goal.loop-found-preserved
loop-found-preserved c =
    let old = c.loop-found in
    let lookup = c.in-Some.ensures.lookup in
    record {
      place = omega arith;
      each = elim c.if-round-most.branch [
        | then-round-most+in_ok-push w ↦ rw (w.seats-is, w.in_ok-push.ensures.items, map-append) (keys_taken c.args.most old.firing old.found-index c.args.firings.now c.args.rounds.now _ c.in-Some.round.now (map key_of old.seats.items) old.invariant.place c.loop-found-test.true (ltb-true _ _ (sym lookup.0)) w.if-round-most.true lookup.1 ∙ old.invariant.each)
        | else-round-most w ↦ rw w.seats-is (ap (λ (rest : List Key). map key_of old.seats.items ++ rest) (keys_left c.args.most old.firing old.found-index c.args.firings.now c.args.rounds.now c.in-Some.round.now old.invariant.place c.loop-found-test.true (ltb-true _ _ (sym lookup.0)) w.if-round-most.false lookup.1) ∙ old.invariant.each)
      ];
    }
