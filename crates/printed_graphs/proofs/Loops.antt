-- What is left of a text, as a loop over its parts goes.
use Rattle.std.proofs.Common.{◌≡◌, ℕ, zero, suc, ◌+◌, ◌-◌, ◌<◌, ◌≤◌, Bool, true, false, cond, ◌||◌, MatchBool, codes, unwrap_or, List, [], ◌∷◌, ◌++◌, length, get_or, take, drop, Option, Some, None, is_some, option_map, refl, sym, ap, ◌∙◌, arith, length-append}
use Rattle.std.specs.Fmt.{decimal}
use Rattle.std.specs.List.{All, list_any, prefix_len}
use Rattle.printed_graphs.specs.declared.dataflow.Bypass.{Bypass}
use Rattle.printed_graphs.specs.declared.dataflow.Operand.{Operand}
use Rattle.printed_graphs.specs.declared.dataflow.Operand.TheVariants as operand
use Rattle.printed_graphs.specs.declared.dataflow.Value.{Value}
use Rattle.printed_graphs.specs.declared.trace.Firing.{Firing}
use Rattle.printed_graphs.specs.DataflowText.{operand_text, value_text, bypass_text}
use Rattle.printed_graphs.specs.GraphReading.{at_digit}
use Rattle.printed_graphs.specs.TraceText.{name_text, firing_text}
use Rattle.std.proofs.lemmas.List.{at_drop_more, get_or-take}
use Rattle.std.proofs.lemmas.List.Elements.{All-same, All-push}
use Rattle.std.proofs.lemmas.List.Folds.{length-prefix_len}
use Rattle.std.proofs.lemmas.List.Sums.{prefix_len_passes}
use Rattle.printed_graphs.specs.Reading.{◌>>=◌, choose, after_word, begins_with, after_minus, after_signed, fits_signed, digit_at, number_at, after_short, lines_at, parts_at}

-- before the next of so many lines
one_line : (line : ℕ → List ℕ → Option (List ℕ)) (k left rest : ℕ) (text : List ℕ) → left ≡ suc rest → lines_at line k left text ≡ (line k text >>= lines_at line (k + 1) rest)
unfolding lines_at
one_line line k left rest text same = ap (λ n. lines_at line k n text) same

-- a line that is read
pub lines_go : (line : ℕ → List ℕ → Option (List ℕ)) (k count : ℕ) (text after : List ℕ) (whole : Option (List ℕ)) → k < count → line k text ≡ Some after → lines_at line k (count - k) text ≡ whole → lines_at line (k + 1) (count - (k + 1)) after ≡ whole
lines_go line k count text after whole more read so_far =
    let left : count - k ≡ suc (count - (k + 1)) = omega arith in
    sym (one_line line k (count - k) (count - (k + 1)) text left ∙ ap (λ r. r >>= lines_at line (k + 1) (count - (k + 1))) read) ∙ so_far

-- a line that is none
pub lines_fail : (line : ℕ → List ℕ → Option (List ℕ)) (k count : ℕ) (text : List ℕ) (whole : Option (List ℕ)) → k < count → line k text ≡ None → lines_at line k (count - k) text ≡ whole → whole ≡ None
lines_fail line k count text whole more read so_far =
    let left : count - k ≡ suc (count - (k + 1)) = omega arith in
    sym so_far ∙ one_line line k (count - k) (count - (k + 1)) text left ∙ ap (λ r. r >>= lines_at line (k + 1) (count - (k + 1))) read

-- after the last line
pub lines_end : (line : ℕ → List ℕ → Option (List ℕ)) (k count : ℕ) (text : List ℕ) (whole : Option (List ℕ)) → count ≤ k → lines_at line k (count - k) text ≡ whole → whole ≡ Some text
unfolding lines_at
lines_end line k count text whole all so_far =
    let left : count - k ≡ 0 = omega arith in
    sym so_far ∙ ap (λ n. lines_at line k n text) left

-- none of the names so far is the word
pub none_so_far : {X : Type 0} (test : X → Bool) (xs : List X) (i : ℕ) (d : X) (whole : Bool) → i < length xs → test (get_or xs i d) ≡ false → list_any test (drop i xs) ≡ whole → list_any test (drop (i + 1) xs) ≡ whole
none_so_far test xs i d whole more differs so_far =
    let split : list_any test (drop i xs) ≡ (test (get_or xs i d) || list_any test (drop (i + 1) xs)) = at_drop_more (list_any test) xs i d more in
    sym (split ∙ ap (λ b. b || list_any test (drop (i + 1) xs)) differs) ∙ so_far

-- one of the names is the word
pub found_here : {X : Type 0} (test : X → Bool) (xs : List X) (i : ℕ) (d : X) (whole : Bool) → i < length xs → test (get_or xs i d) ≡ true → list_any test (drop i xs) ≡ whole → true ≡ whole
found_here test xs i d whole more found so_far =
    let split : list_any test (drop i xs) ≡ (test (get_or xs i d) || list_any test (drop (i + 1) xs)) = at_drop_more (list_any test) xs i d more in
    sym (split ∙ ap (λ b. b || list_any test (drop (i + 1) xs)) found) ∙ so_far

-- ---- parts, as long as one begins

-- the rest of a text that is read part by part
pub record PartsLeft (begin part : List ℕ → Option (List ℕ)) (text : List ℕ) (whole : Option (List ℕ)) : Type 0 where
  pub most : ℕ
  pub enough : length text ≤ most
  pub same : parts_at begin part most text ≡ whole

pub one_part : (begin part : List ℕ → Option (List ℕ)) (most : ℕ) (text inner : List ℕ) → begin text ≡ Some inner → parts_at begin part (suc most) text ≡ (part inner >>= parts_at begin part most)
unfolding parts_at
one_part begin part most text inner found = ap (λ o. choose o (λ t. part t >>= parts_at begin part most) (Some text)) found

pub no_part : (begin part : List ℕ → Option (List ℕ)) (most : ℕ) (text : List ℕ) → begin text ≡ None → parts_at begin part most text ≡ Some text
unfolding parts_at
no_part begin part zero text none = refl
no_part begin part (suc most) text none = ap (λ o. choose o (λ t. part t >>= parts_at begin part most) (Some text)) none

-- a part that is read
pub parts_go : (begin part : List ℕ → Option (List ℕ)) (text inner after : List ℕ) (whole : Option (List ℕ)) → begin text ≡ Some inner → part inner ≡ Some after → length after < length text → PartsLeft begin part text whole → PartsLeft begin part after whole
parts_go begin part text inner after whole found read shorter left =
    let most : left.most ≡ suc (left.most - 1) = omega (arith, left.enough) in
    let step : parts_at begin part left.most text ≡ parts_at begin part (left.most - 1) after =
    ap (λ n. parts_at begin part n text) most ∙ one_part begin part (left.most - 1) text inner found ∙ ap (λ r. r >>= parts_at begin part (left.most - 1)) read in
    record { most = left.most - 1; enough = omega (arith, left.enough); same = sym step ∙ left.same }

-- a part that is none
pub parts_fail : (begin part : List ℕ → Option (List ℕ)) (text inner : List ℕ) (whole : Option (List ℕ)) → begin text ≡ Some inner → part inner ≡ None → 0 < length text → PartsLeft begin part text whole → whole ≡ None
parts_fail begin part text inner whole found none some left =
    let most : left.most ≡ suc (left.most - 1) = omega (arith, left.enough) in
    sym left.same ∙ ap (λ n. parts_at begin part n text) most ∙ one_part begin part (left.most - 1) text inner found ∙ ap (λ r. r >>= parts_at begin part (left.most - 1)) none

-- after the last part
pub parts_end : (begin part : List ℕ → Option (List ℕ)) (text : List ℕ) (whole : Option (List ℕ)) → begin text ≡ None → PartsLeft begin part text whole → whole ≡ Some text
parts_end begin part text whole none left = sym left.same ∙ no_part begin part left.most text none

-- whether a text begins with a word
pub begins_as_taken : (r : Bool) (word text after : List ℕ) → MatchBool r (after_word word text ≡ Some after) (after_word word text ≡ None) → r ≡ begins_with word text
begins_as_taken true word text after found = sym (ap is_some found)
begins_as_taken false word text after none = sym (ap is_some none)

-- a number without its value
pub short_read : (n : ℕ) (text after : List ℕ) → number_at text ≡ Some (n, after) → after_short text ≡ Some after
unfolding after_short
short_read n text after read = ap (λ r. r >>= λ m. Some m.1) read

pub short_none : (text : List ℕ) → number_at text ≡ None → after_short text ≡ None
unfolding after_short
short_none text none = ap (λ r. r >>= λ m. Some m.1) none

-- what follows a part is shorter than what begins with it
pub shorter : (c : ℕ) (word inner part text after : List ℕ) → text ≡ c ∷ (word ++ inner) → inner ≡ part ++ after → length after < length text
shorter c word inner part text after first second = omega (arith, ap length first, ap length second, length-append word inner, length-append part after)

pub not_empty : (c : ℕ) (rest text : List ℕ) → text ≡ c ∷ rest → 0 < length text
not_empty c rest text first = omega (arith, ap length first)

pub after_less : (part after text : List ℕ) → text ≡ part ++ after → 0 < length part → length after < length text
after_less part after text split some = omega (arith, ap length split, length-append part after)

-- what ends in a line feed is not empty
ends_in_line : (a : List ℕ) (x : ℕ) → 0 < length (a ++ x ∷ [])
ends_in_line a x = omega (arith, length-append a (x ∷ []))

pub operand_some : (operand : Operand) → 0 < length (operand_text operand)
operand_some (operand.From n) = omega arith
operand_some (operand.Known z) = omega arith

pub value_some : (value : Value) → 0 < length (value_text value)
value_some value = omega arith

pub bypass_some : (bypass : Bypass) → 0 < length (bypass_text bypass)
bypass_some bypass = omega arith

pub firing_some : (firing : Firing) → 0 < length (firing_text firing)
firing_some firing = ends_in_line (decimal firing.node ++ name_text firing.name) 10

-- a digit at the front
there : {X : Type 0} (o : Option X) (text : List ℕ) → is_some o ≡ true → option_map (λ _. text) o ≡ Some text
there None text found = absurd cc
there (Some x) text found = refl

missing : {X : Type 0} (o : Option X) (text : List ℕ) → is_some o ≡ false → option_map (λ _. text) o ≡ None
missing None text none = refl
missing (Some x) text none = absurd cc

pub digit_there : (text : List ℕ) → is_some (digit_at text) ≡ true → at_digit text ≡ Some text
digit_there text found = there (digit_at text) text found

pub digit_missing : (text : List ℕ) → is_some (digit_at text) ≡ false → at_digit text ≡ None
digit_missing text none = missing (digit_at text) text none

-- ---- signs

pub minus_taken : (r : Bool) (text after : List ℕ) → MatchBool r (text ≡ 45 ∷ after) (after ≡ text) → MatchBool r (after_word (codes "-") text ≡ Some after) (after_word (codes "-") text ≡ None) → (begins_with (codes "-") text ≡ r) × (after_minus text ≡ after)
minus_taken true text after split found = (ap is_some found, ap (λ o. unwrap_or o text) found)
minus_taken false text after same none = (ap is_some none, ap (λ o. unwrap_or o text) none ∙ sym same)

pub signed_none : (text number : List ℕ) → after_minus text ≡ number → number_at number ≡ None → after_signed text ≡ None
unfolding after_signed
signed_none text number minus none = rw (minus, none) refl

pub signed_is : (is_negative : Bool) (n : ℕ) (text number after : List ℕ) → begins_with (codes "-") text ≡ is_negative → after_minus text ≡ number → number_at number ≡ Some (n, after) → after_signed text ≡ cond (fits_signed is_negative n) (Some after) None
unfolding after_signed
signed_is is_negative n text number after begins minus read = rw (minus, read, begins) refl

-- ---- what holds of all parts

-- one more part that was read
pub all_pushed : {A : Type 0} (P : A → Type 0) (xs ys : List A) (x : A) → ys ≡ xs ++ x ∷ [] → All P xs → P x → All P ys
all_pushed P xs ys x longer all here = All-same P ys (xs ++ x ∷ []) longer (All-push P xs x all here)

-- what passes a test, up to the first that doesn't
pub taken_passes : (test : ℕ → Bool) (xs : List ℕ) → All (λ x. test x ≡ true) (take (prefix_len test xs) xs)
taken_passes test xs k d lt =
    let some : k < prefix_len test xs = omega (arith, lt, length-prefix_len test xs) in
    rw (get_or-take (prefix_len test xs) xs k d some) (prefix_len_passes test xs k d some)
