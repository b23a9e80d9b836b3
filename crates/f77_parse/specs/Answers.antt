-- What the parts of the reader answer.
use Rattle.std.specs.Prelude.{◌≡◌, ◌<◌, ℕ, Bool, true, false, List, length, Option, Some, None, Result, Ok, Err}
use Rattle.f77_expr.specs.declared.parsed.ReadEnd.{ReadEnd}
use Rattle.f77_expr.specs.declared.parsed.ReadEnd.TheVariants.{NoForm, NoMemory}
use Rattle.f77_parse.specs.Keeping.{Keeps}

-- what is kept of a prefix of a text, or NoForm where there is none
abbrev pub Gives : {V : Type 0} → Keeps V → Result V ReadEnd → (bad_now : Bool) → (rest : List ℕ) → Type 0
Gives keeps (Ok v) bad_now rest = keeps ≡ Some (v, bad_now, rest)
Gives keeps (Err NoForm) bad_now rest = keeps ≡ None
Gives keeps (Err NoMemory) bad_now rest = Unit {0}

-- whether there is a text after a prefix, and what is left then
abbrev pub Passes : Option (List ℕ) → (there : Bool) → (text rest : List ℕ) → Type 0
Passes beyond true text rest = beyond ≡ Some rest
Passes beyond false text rest = (beyond ≡ None) × (rest ≡ text)

-- less is left where something was read
abbrev pub Shortens : {V : Type 0} → Result V ReadEnd → (text rest : List ℕ) → Type 0
Shortens (Ok v) text rest = length rest < length text
Shortens (Err end) text rest = Unit {0}
