-- Each context that is reached is in its place.
use Rattle.std.proofs.Common.{◌≡◌, ℕ, ◌<◌, List, Some, arith}
use Rattle.std.specs.List.{slice_get}
use Rattle.std.proofs.lemmas.Bool.{ltb-true}
use Rattle.f77_tree.specs.declared.statements.Labelled.{Labelled}
use Rattle.program_units.specs.Units.{Call, call_in, unit_at, unit_of}
use Rattle.program_units.specs.Contexts.{IsReached, main, called, IsInPlace}
use Rattle.program_units.specs.Copies.{Context}
use Rattle.program_units.specs.CopiedLoops.{HaveEnds}
use Rattle.program_units.specs.Expansion.{whole_list}
use Rattle.program_units.specs.Heights.{NoneCallsItself, height}
use Rattle.copied_control.proofs.CopiedLoops.{called-loops}
use Rattle.copied_control.proofs.LoopsTo.{main-loops}
use Rattle.unit_laws.proofs.SettledCopies.{pass_at}
use Rattle.copied_control.proofs.StandingCopies.{main-stands, called-stands}
use Rattle.unit_laws.proofs.UnitHeights.{are-heights, heights-few}

-- what a unit calls is lower
pub lower : (us : List (List Labelled)) → NoneCallsItself us → (k place : ℕ) (s : Labelled) (call : Call) → slice_get (unit_at us k) place ≡ Some s → call_in s.stmt ≡ Some call → height us (unit_of us call.name) < height us k
lower us none k place s call is calls = grind (arith, pass_at, are-heights us none k, ltb-true (height us (unit_of us call.name)) (height us k))

pub in-place : (us : List (List Labelled)) → NoneCallsItself us → HaveEnds us → (c : Context) (at : ℕ → ℕ) → IsReached us c at → IsInPlace us c at
in-place us none have _ _ main = record { stands = main-stands us; loops = main-loops us; deep = heights-few us none 0 }
in-place us none have _ _ (called {c} {at} place s call reached is calls) =
    let outer = in-place us none have c at reached in
    let less = lower us none c.unit place s call is calls in
    let deep = outer.deep in
    let some : 0 < c.depth = omega (arith, less, deep) in
    record {
      stands = called-stands us (whole_list us) c at outer.stands place s call some is calls;
      loops = called-loops us have (whole_list us) c at outer.loops place s call some is calls;
      deep = omega (arith, less, deep);
    }
