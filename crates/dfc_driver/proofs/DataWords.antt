-- The data that words tell are words of the machine.
use Rattle.std.proofs.Common.{◌≡◌, ℕ, ◌+◌, ◌≤◌, ◌==◌, pos, neg_ℤ, Bool, true, false, List, [], ◌∷◌, map, if◌then◌else◌, arith}
use Rattle.std.proofs.lemmas.Bool.Decides.{nat_tests}
use Rattle.std.proofs.lemmas.List.Elements.{All-nil, All-cons}
use Rattle.std.specs.List.{All, list_all}
use Rattle.op_table.specs.Words.{IsWord}
use Rattle.fixed_form.specs.Columns.{number}
use Rattle.f77_tree.specs.Grammar.{greatest_constant}
use Rattle.dfc_driver.specs.declared.words.Setting.TheVariants.{Data}
use Rattle.dfc_driver.specs.Meant.{MayStand}
use Rattle.dfc_driver.specs.Words.{is_number_to, is_word, pieces_after, values_in, word_value}
use Rattle.dfc_driver.proofs.Pieces.{left_of, right_of}

up_to : (greatest : ℕ) (digits : List ℕ) → is_number_to greatest digits ≡ true → number digits ≤ greatest
up_to greatest digits is = grind (arith, nat_tests, is)

positive : (n : ℕ) → n ≤ greatest_constant → IsWord (pos n)
positive n le = grind arith

negative : (n : ℕ) → n ≤ greatest_constant + 1 → IsWord (neg_ℤ (pos n))
negative n le = grind arith

piece_is_word : (piece : List ℕ) → is_word piece ≡ true → IsWord (word_value piece)
piece_is_word [] is = positive 0 (omega arith)
piece_is_word (c ∷ digits) is = on (c == 45) is
  where
    on : (b : Bool) → (if b then is_number_to (greatest_constant + 1) digits else is_number_to greatest_constant (c ∷ digits)) ≡ true → IsWord (if b then neg_ℤ (pos (number digits)) else pos (number (c ∷ digits)))
    on true is = negative (number digits) (up_to (greatest_constant + 1) digits is)
    on false is = positive (number (c ∷ digits)) (up_to greatest_constant (c ∷ digits) is)

all_words : (pieces : List (List ℕ)) → list_all is_word pieces ≡ true → All IsWord (map word_value pieces)
all_words [] is = All-nil IsWord
all_words (piece ∷ pieces) is =
    All-cons IsWord (word_value piece) (map word_value pieces)
    (piece_is_word piece (left_of (is_word piece) (list_all is_word pieces) is))
    (all_words pieces (right_of (is_word piece) (list_all is_word pieces) is))

pub data_words : (text : List ℕ) → MayStand Data text → All IsWord (values_in word_value text)
data_words [] may = All-nil IsWord
data_words (c ∷ text) may = all_words (pieces_after [] (c ∷ text)) may
