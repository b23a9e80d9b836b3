-- What is known of lines on edges, as sets of lines and words.
use Rattle.std.specs.Prelude.{◌≤◌, ◌+◌, ◌*◌, ℕ, ℤ, Bool, true, false, Option, Some, None}
use Rattle.class_set.specs.Members.{IsWidth}
use Rattle.const_prop.specs.declared.known.Known.{Known}
use Rattle.const_prop.specs.declared.known.Known.TheVariants.{Nothing, One, Any}
use Rattle.const_prop.specs.declared.known_rows.KnownRows.TheInside.{Inside}
use Rattle.const_prop.specs.SparseSets.{Sets, keys_of, set_holds}
use Rattle.const_prop.specs.Values.{Blocks, places, word_of}

-- for each edge a set of the lines on which any value may come, and for each line a row of the values on all edges, where one came first
pub record Rows (W : ℕ) : Type 0 where
  pub lines : ℕ
  pub any : Sets W
  pub values : Blocks

abbrev pub is_any : Known → Bool
is_any Any = true
is_any _ = false

abbrev pub known_by : (any : Bool) → (one : Option ℤ) → Known
known_by true one = Any
known_by false (Some v) = One v
known_by false None = Nothing

module _ {W : ℕ} where
  abbrev pub edges_of : Rows W → ℕ
  edges_of r = keys_of r.any

  -- what is known of the line on the edge
  abbrev pub value_in : Rows W → (line edge : ℕ) → Known
  value_in r line edge = known_by (set_holds r.any edge line) (word_of r.values (line * edges_of r + edge))

  abbrev pub rows_of : Inside W → Rows W
  rows_of d = record { lines = d.lines; any = d.any; values = d.values }

  -- there are values on all edges for each line
  pub record IsKept (d : Inside W) : Type 0 where
    pub width : IsWidth W
    pub lines : d.lines ≤ 64 * W
    pub values : d.lines * keys_of d.any ≤ places d.values
