-- Each firing that is shown by its node is a line.
use Rattle.std.proofs.Common.{◌≡◌, ℕ, zero, suc, ◌+◌, ◌/◌, ◌%◌, ◌≤◌, ◌==◌, nat_lt, Bool, true, false, List, [], ◌∷◌, ◌++◌, length, filter, codes, refl, ap, ◌∙◌, length-append, arith, if◌then◌else◌}
use Rattle.std.proofs.lemmas.List.Elements.{filter-append}
use Rattle.std.specs.Fmt.{decimal, digits, digits_onto, digit_glyph}
use Rattle.firing.specs.declared.playing.Show.TheVariants as show
use Rattle.firing.specs.declared.system.NodeName.{NodeName}
use Rattle.firing.specs.declared.system.NodeName.TheVariants.{Act, Merge, Switch, Op}
use Rattle.firing.specs.NameLine.{name_line}
use Rattle.firing.specs.Play.{Moment, Way, node_at, shown}
use Rattle.job_terms.specs.Due.{lines_in}

pub lines_append : (a b : List ℕ) → lines_in (a ++ b) ≡ lines_in a + lines_in b
lines_append a b = ap length (filter-append (λ c. c == 10) a b) ∙ length-append (filter (λ c. c == 10) a) (filter (λ c. c == 10) b)

-- ---- a number has no line feed

-- a character after the line feed
other_is_none : (c : ℕ) (text : List ℕ) → 11 ≤ c → lines_in (c ∷ text) ≡ lines_in text
other_is_none c text high = grind arith

digit_is_none : (d : ℕ) (text : List ℕ) → lines_in (digit_glyph false d ∷ text) ≡ lines_in text
digit_is_none d text = other_is_none (digit_glyph false d) text (high (nat_lt d 10))
  where
    high : (small : Bool) → 11 ≤ (if small then 48 + d else (if false then 55 + d else 87 + d))
    high true = omega arith
    high false = omega arith

digits_on : (k n : ℕ) (text : List ℕ) → ((m : ℕ) (more : List ℕ) → lines_in (digits_onto k 10 false m more) ≡ lines_in more) → (last : Bool) → lines_in (if last then digit_glyph false (n % 10) ∷ text else digits_onto k 10 false (n / 10) (digit_glyph false (n % 10) ∷ text)) ≡ lines_in text
digits_on k n text none true = digit_is_none (n % 10) text
digits_on k n text none false = none (n / 10) (digit_glyph false (n % 10) ∷ text) ∙ digit_is_none (n % 10) text

digits_are_none : (k n : ℕ) (text : List ℕ) → lines_in (digits_onto k 10 false n text) ≡ lines_in text
digits_are_none zero n text = refl
digits_are_none (suc k) n text = digits_on k n text (λ m more. digits_are_none k m more) (n / 10 == 0)

pub in_number : (n : ℕ) → lines_in (decimal n) ≡ 0
unfolding digits
in_number n = digits_are_none 64 n []

-- ---- the line of a name

pub in_four : (a b c d : List ℕ) → lines_in (a ++ b ++ c ++ d) ≡ lines_in a + lines_in b + lines_in c + lines_in d
in_four a b c d =
    let last = lines_append (a ++ b ++ c) d in
    let third = lines_append (a ++ b) c in
    let second = lines_append a b in
    omega (arith, last, third, second)

in_six : (a b c d e f : List ℕ) → lines_in (a ++ b ++ c ++ d ++ e ++ f) ≡ lines_in a + lines_in b + lines_in c + lines_in d + lines_in e + lines_in f
in_six a b c d e f =
    let last = lines_append (a ++ b ++ c ++ d ++ e) f in
    let fifth = lines_append (a ++ b ++ c ++ d) e in
    let four = in_four a b c d in
    omega (arith, last, fifth, four)

-- a line of two numbers after a word
two_numbers : (k p l : ℕ) (word : List ℕ) → lines_in word ≡ 0 → lines_in (decimal k ++ word ++ decimal p ++ codes " " ++ decimal l ++ codes "\n") ≡ 1
two_numbers k p l word none =
    let all = in_six (decimal k) word (decimal p) (codes " ") (decimal l) (codes "\n") in
    let blank : lines_in (codes " ") ≡ 0 = refl in
    let feed : lines_in (codes "\n") ≡ 1 = refl in
    let first = in_number k in
    let second = in_number p in
    let third = in_number l in
    omega (arith, all, blank, feed, first, second, third, none)

one_line : (k : ℕ) (name : NodeName) → lines_in (name_line k name) ≡ 1
one_line k (Act p) =
    let all = in_four (decimal k) (codes " ACT ") (decimal p) (codes "\n") in
    let word : lines_in (codes " ACT ") ≡ 0 = refl in
    let feed : lines_in (codes "\n") ≡ 1 = refl in
    let first = in_number k in
    let second = in_number p in
    omega (arith, all, word, feed, first, second)
one_line k (Merge p l) = two_numbers k p l (codes " MERGE ") refl
one_line k (Switch p l) = two_numbers k p l (codes " SWITCH ") refl
one_line k (Op p i) = two_numbers k p i (codes " OP ") refl

-- so many firings are so many lines
pub name_lines : {M P : Type 0} (w : Way M P) (start : Moment M P) (n : ℕ) → lines_in (shown w show.Nodes start n) ≡ n
name_lines w start zero = refl
name_lines w start (suc n) =
    let before = name_lines w start n in
    let last = one_line (node_at w start n) (w.moves.name (node_at w start n)) in
    let both = lines_append (shown w show.Nodes start n) (name_line (node_at w start n) (w.moves.name (node_at w start n))) in
    omega (arith, before, last, both)
