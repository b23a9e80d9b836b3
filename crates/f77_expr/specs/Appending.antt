-- Text that is appended to what was written before.
use Rattle.std.specs.Prelude.{◌≡◌, List, [], ◌∷◌, ◌++◌, ℕ, Result, Ok, Err, Bool, true, false, codes}
use Rattle.op_table.specs.declared.Op.{Op}
use Rattle.op_table.specs.declared.Op.TheVariants.{Max, Min}
use Rattle.f77_tree.specs.Grammar.{Arguments, spellings}
use Rattle.f77_expr.specs.declared.extremes.Extreme.{Extreme}
use Rattle.f77_expr.specs.declared.extremes.Extreme.TheVariants.{Greatest, Least}
use Rattle.f77_expr.specs.Printing.{Printed, listed}

-- a text that begins with another one
pub record BeginsWith (text prefix : List ℕ) : Type 0 where
  pub rest : List ℕ
  pub is : text ≡ prefix ++ rest

-- the text stands after what there was, or, where there was no memory, a part of it may
abbrev pub Appended : {T E : Type 0} → (old text new : List ℕ) → Result T E → Type 0
Appended old text new (Ok done) = new ≡ old ++ text
Appended old text new (Err none) = BeginsWith new old

-- arguments with commas between them
abbrev pub arguments_text : List Printed → List ℕ
arguments_text [] = []
arguments_text (p ∷ ps) = spellings (listed p ps)

-- the arguments that an expression gives to a MAX or a MIN
abbrev pub listed_in : Extreme → Printed → Arguments
listed_in Greatest p = p.in_max
listed_in Least p = p.in_min

abbrev pub operator_of : Extreme → Op
operator_of Greatest = Max
operator_of Least = Min

-- whether an operator is this one
abbrev pub is_operator : Extreme → Op → Bool
is_operator Greatest Max = true
is_operator Least Min = true
is_operator _ _ = false

-- the characters of its name
abbrev pub name_of : Extreme → List ℕ
name_of Greatest = codes "MAX"
name_of Least = codes "MIN"
