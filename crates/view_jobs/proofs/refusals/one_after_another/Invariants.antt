use Rattle.std.proofs.Common.{◌≡◌, ◌++◌, drop, flat_map}
use Rattle.std.specs.Prelude.{string_bytes}
use Rattle.view_jobs.specs.Given.{given_meant}
use Rattle.view_jobs.specs.Refused.{placed_report}
use Rattle.view_jobs.proofs.refusals.one_after_another.Given as goal

abbrev pub invariant-loop-trap : goal.invariant-loop-trap
invariant-loop-trap l =
    string_bytes l.reports ++ flat_map (placed_report l.name (given_meant l.given)) (drop l.trap-index l.traps) ≡ flat_map (placed_report l.name (given_meant l.given)) l.traps
