-- Two rivals for one token: whichever fires first, the other one can't any more.
use Rattle.std.specs.Prelude.{true, false, None}
use Rattle.firing.specs.declared.system.NodeName.TheVariants.{Act}
use Rattle.firing.specs.Moves.{Moves}
use Rattle.sample_nets.specs.declared.rivals.Token.{Token}

-- each of the two nodes takes the token, and keeps its own number
abbrev pub rivals : Moves Token
rivals = record {
  nodes = 2;
  name = λ k. Act k;
  serial = λ k. false;
  ready = λ m k. m.free;
  fired = λ m k. record { free = false; winner = k };
  line = λ m k. None;
  trap = λ m. None;
}

-- the token before any firing
abbrev pub free_token : Token
free_token = record { free = true; winner = 0 }
