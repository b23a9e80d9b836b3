use Rattle.std.proofs.Common.{arith, ◌∙◌, add-one, ap, sym}
use Rattle.trace_profiles.specs.Profiles.{counted}
use Rattle.trace_profiles.proofs.WidthsTold.{widest_told}
use Rattle.trace_profiles.proofs.profile.widest_round.Goals as goal

pub returns-in-Some : goal.returns-in-Some
returns-in-Some c =
    add-one c.in-Some.k
    ∙ ap counted (sym c.in-Some.is)
    ∙ widest_told c.args.widths.now c.greatest-most.result c.place_of.result c.greatest-most.ensures (λ e. grind (arith, e, c.if-most-eq0.false)) c.place_of.ensures

pub returns-in-None : goal.returns-in-None
returns-in-None c =
    ap counted (sym c.in-None.is)
    ∙ widest_told c.args.widths.now c.greatest-most.result c.place_of.result c.greatest-most.ensures (λ e. grind (arith, e, c.if-most-eq0.false)) c.place_of.ensures
