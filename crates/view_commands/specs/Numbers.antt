-- Numbers in words.
use Rattle.std.specs.Prelude.{◌≡◌, ℕ, ◌+◌, ◌-◌, ◌*◌, ◌^◌, ⊤, ◌&&◌, nat_lt, ◌==◌, if◌then◌else◌, List, [], ◌∷◌, Option, Some, None, option_map, option_and_then, unwrap_or, Result, Ok, Err}
use Rattle.std.specs.Char.{is_ascii_digit}
use Rattle.view_output.specs.declared.fault.Fault.{Fault}
use Rattle.view_output.specs.declared.fault.Fault.TheVariants as fault

-- a number of 32 bits with one more digit
abbrev pub with_digit : (number digit : ℕ) → Option ℕ
with_digit n c = if is_ascii_digit c && nat_lt (n * 10 + (c - 48)) (2 ^ 32) then Some (n * 10 + (c - 48)) else None

-- the numbers between the commas of a text, of which the first may have begun before it
unfoldable pub numbers_on : (begun : Option ℕ) → List ℕ → Option (List ℕ)
numbers_on begun [] = option_map (λ n. n ∷ []) begun
numbers_on begun (c ∷ text) = if c == 44 then option_and_then (λ n. option_map (λ ns. n ∷ ns) (numbers_on None text)) begun else option_and_then (λ n. numbers_on (Some n) text) (with_digit (unwrap_or begun 0) c)

-- the only one of some numbers
abbrev pub only_one : List ℕ → Option ℕ
only_one (n ∷ []) = Some n
only_one _ = None

-- the number that is all of a text
abbrev pub number_on : List ℕ → Option ℕ
number_on text = option_and_then only_one (numbers_on None text)

-- what is meant, `Usage` where nothing is, or no memory
abbrev pub Answers : {X A : Type 0} → (X → A) → Result X Fault → (meant : Option A) → Type 0
Answers meaning (Ok x) meant = meant ≡ Some (meaning x)
Answers meaning (Err fault.Usage) meant = meant ≡ None
Answers meaning (Err fault.NoMemory) meant = ⊤
Answers meaning (Err _) meant = ⊥
