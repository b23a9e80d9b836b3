-- What is known of a word at a place: nothing comes there, or one value does, or any may.
use Rattle.std.specs.Prelude.{◌≡◌, ℕ, ℤ, pos, Option, Some, None}
use Rattle.const_prop.specs.declared.known.Known.{Known}
use Rattle.const_prop.specs.declared.known.Known.TheVariants.{Nothing, One, Any}

-- Nothing lies below One of each value, and that below Any.
abbrev pub AtMost : Known → Known → Type 0
AtMost Nothing k = Unit {0}
AtMost (One v) Nothing = ⊥
AtMost (One v) (One w) = v ≡ w
AtMost (One v) Any = Unit {0}
AtMost Any Nothing = ⊥
AtMost Any (One w) = ⊥
AtMost Any Any = Unit {0}

-- something comes there
abbrev pub IsSomething : Known → Type 0
IsSomething Nothing = ⊥
IsSomething _ = Unit {0}

-- it isn't one value
abbrev pub IsNotOne : Known → Type 0
IsNotOne (One v) = ⊥
IsNotOne _ = Unit {0}

-- the one value
abbrev pub one_of : Known → Option ℤ
one_of (One v) = Some v
one_of _ = None

-- one value where it is told, else any
abbrev pub as_known : Option ℤ → Known
as_known None = Any
as_known (Some v) = One v

-- the number that belongs to the value where that is told, else any
abbrev pub as_index : (ℤ → ℕ) → Option ℤ → Known
as_index f None = Any
as_index f (Some v) = One (pos (f v))
