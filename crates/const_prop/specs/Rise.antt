-- How what is known rises.
use Rattle.std.specs.Prelude.{◌<◌, ℕ}
use Rattle.const_prop.specs.declared.known.Known.{Known}
use Rattle.const_prop.specs.declared.known.Known.TheVariants.{Nothing, One, Any}
use Rattle.const_prop.specs.Known.{AtMost, IsNotOne}

-- how often it can rise
abbrev pub room : Known → ℕ
room Nothing = 2
room (One v) = 1
room Any = 0

-- what is known rises to the least that is no less than what comes
pub record IsRise (old comes new : Known) : Type 0 where
  pub grows : AtMost old new
  pub reaches : AtMost comes new
  pub least : (b : Known) → AtMost old b → AtMost comes b → AtMost new b
  pub one : IsNotOne old → IsNotOne comes → IsNotOne new
  pub rises : room new < room old
