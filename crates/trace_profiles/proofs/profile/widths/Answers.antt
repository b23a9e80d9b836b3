use Rattle.std.proofs.Common.{arith, ◌≡◌, ◌∙◌, ap, suc, List, ℕ, take}
use Rattle.std.proofs.lemmas.List.{take_all}
use Rattle.trace_profiles.specs.Profiles.{width_of}
use Rattle.trace_profiles.proofs.WidthsTold.{all_counted}
use Rattle.trace_profiles.proofs.profile.widths.Goals as goal

pub returns : goal.returns
returns c =
    let rounds = c.args.rounds.now in
    let all : take c.loop-round.round-index rounds ≡ rounds = take_all c.loop-round.round-index rounds (omega (arith, c.loop-round-test.false)) in
    all_counted rounds c.loop-round.widths.items c.loop-round.invariant.count (λ i low. c.loop-round.invariant.counted i low ∙ ap (λ (rs : List ℕ). width_of rs (suc i)) all)
