use Rattle.std.proofs.Common.{◌≤◌, length, sym, subst, arith, List}
use Rattle.f77_tree.specs.declared.statements.Labelled.{Labelled}
use Rattle.program_units.proofs.StandingIn.{standing-few}
use Rattle.program_units.proofs.stand_in.standing_in.Goals as goal

pub push-requires : goal.push-requires
push-requires c =
    let few : length c.loop-s.list ≤ c.loop-s.s-index = subst (λ (list : List Labelled). length list ≤ c.loop-s.s-index) (sym c.loop-s.invariant) (standing-few c.args.unit.now c.loop-s.s-index) in
    omega (arith, few)
