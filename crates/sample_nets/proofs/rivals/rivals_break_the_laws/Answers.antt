use Rattle.sample_nets.proofs.RivalLaws.{no_laws}
use Rattle.sample_nets.proofs.rivals.rivals_break_the_laws.Goals as goal

pub returns : goal.returns
returns g c = λ is_sound lawful. no_laws g.C.OnTokens.holds is_sound lawful
