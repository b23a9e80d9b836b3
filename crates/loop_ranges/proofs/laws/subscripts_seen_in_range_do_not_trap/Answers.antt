use Rattle.f77_tree.specs.Run.{source}
use Rattle.f77_tree.proofs.Untrapped.{outcome-untrapped}
use Rattle.f77_tree.proofs.WordValues.{source-words}
use Rattle.loop_ranges.specs.Seen.{IsSeenInRange}
use Rattle.loop_ranges.proofs.SeenValues.{seen-in_bounds}
use Rattle.loop_ranges.proofs.laws.subscripts_seen_in_range_do_not_trap.Goals as goal

pub returns-clause-bounds : goal.returns-clause-bounds
returns-clause-bounds c = λ p t input steps next sub dim well classes seen. seen-in_bounds p t input well classes c.writes_cover_changes.ensures.changed steps next sub dim seen

pub returns-clause-executables : goal.returns-clause-executables
returns-clause-executables c = λ p t input steps exec well classes words at can. outcome-untrapped (IsSeenInRange p t (source p input steps).position) p.names input (source p input steps).memory (source-words p input steps well words).store (λ next sub dim seen. seen-in_bounds p t input well classes c.writes_cover_changes.ensures.changed steps next sub dim seen) exec.kind can
