use Rattle.unit_laws.proofs.ShortNames.{short-apart, short-free}
use Rattle.unit_laws.proofs.UsedNames.{new-by}
use Rattle.unit_laws.proofs.units.short_names_are_new.Goals as goal

pub returns : goal.returns
returns c = record { free = short-free; apart = short-apart; others = λ us short few e is. new-by us e (short-free us short few e is) }
