-- What is known of an expression where some words of the store are known.
use Rattle.std.specs.Prelude.{◌≡◌, ℕ, ℤ, List, [], ◌∷◌, map, Option, Some, None, Ok}
use Rattle.std.specs.Option.{option_map, option_and_then}
use Rattle.std.specs.Result.{result_ok}
use Rattle.op_table.specs.Words.{truth}
use Rattle.op_table.specs.Known.{all_known, folded}
use Rattle.f77_tree.specs.declared.expressions.Expr.{Expr, Row_of-Expr, end_of-Expr, more_of-Expr}
use Rattle.f77_tree.specs.declared.expressions.Expr.TheVariants.{Const, Truth, Input, Read', Apply'}
use Rattle.f77_tree.specs.declared.programs.NameInfo.{NameInfo}
use Rattle.f77_tree.specs.Known.{row_known}
use Rattle.f77_tree.specs.Value.{kind_of, read_as, word_of, word_at}

-- the word of a name, where each subscript is known and lies within its bounds
abbrev pub known_word : List NameInfo → (name : ℕ) → List (Option ℤ) → Option ℕ
known_word names name known = option_and_then (λ subs. result_ok (word_of names name (map (λ z. Ok z) subs))) (all_known known)

abbrev mutual
  -- the known value, where `words` tells what is known of words of the store: a read is known where it surely reads a
  -- known word, which a logical name reads as its truth; what `words` tells of a subscript doesn't count for this
  pub known_with : List NameInfo → (words : ℕ → Option ℤ) → Expr → Option ℤ
  known_with names words (Const z) = Some z
  known_with names words (Truth b) = Some (truth b)
  known_with names words Input = None
  known_with names words (Read' name shape subs) = option_map (read_as (kind_of names name)) (option_and_then words (known_word names name (row_known subs)))
  known_with names words (Apply' op shape args) = folded op (row_known_with names words args)

  pub row_known_with : {m : _} → List NameInfo → (words : ℕ → Option ℤ) → Row_of-Expr m → List (Option ℤ)
  row_known_with names words end_of-Expr = []
  row_known_with names words (more_of-Expr e rest) = known_with names words e ∷ row_known_with names words rest

-- what is told of words is so in the store
abbrev pub AreRight : (words : ℕ → Option ℤ) → List ℤ → Type 0
AreRight words store = (word : ℕ) (z : ℤ) → words word ≡ Some z → word_at store word ≡ z
