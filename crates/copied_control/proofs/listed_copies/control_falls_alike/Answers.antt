use Rattle.copied_control.proofs.MappedLandings.{met-is, landings-mapped, lands-next}
use Rattle.copied_control.proofs.listed_copies.control_falls_alike.Goals as goal

pub returns : goal.returns
returns c = record { met = met-is; landings = landings-mapped; next = lands-next }
