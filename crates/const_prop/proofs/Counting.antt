-- Counts of the words of classes.
use Rattle.std.proofs.Common.{◌≡◌, ◌≢◌, ℕ, ◌+◌, ◌<◌, ◌≤◌, ◌^◌, Bool, true, false, ◌==◌, List, [], ◌∷◌, ◌++◌, length, take, get_or, set, cond, not, count_by, add-one, refl, sym, ap, ◌∙◌, ⊎_elim, arith, length-set}
use Rattle.std.proofs.lemmas.Bool.{cases_eq, cases_Bool, cond-false, and_parts, eq-eqb, eqb-true, false_from_ne_true, cases_lt}
use Rattle.std.proofs.lemmas.Grind.{get_or-set_at}
use Rattle.std.proofs.lemmas.List.{get_or_read, get_or-set_other, get_or_append_left, get_or_past}
use Rattle.std.proofs.Math.Seq.{get_or-append_seam}
use Rattle.alias_classes.specs.Classes.{ClassTable}
use Rattle.list_laws.proofs.Counts.{count_unique}
use Rattle.const_prop.specs.Closed.{is_one_word}
use Rattle.std.proofs.lemmas.List.Sums.{count_by_more_yes, count_by_more_no, count_by-le-length, sum_by-cons}

-- how many of the first words have each class
pub record AreCounts (numbers counts : List ℕ) (lines k : ℕ) : Type 0 where
  pub size : length counts ≡ lines
  pub each : (line : ℕ) → line < lines → get_or counts line 0 ≡ count_by (λ n. n == line) (take k numbers)

pub counts-more : (numbers counts : List ℕ) (lines k class old : ℕ) → AreCounts numbers counts lines k → k < length numbers → class ≡ get_or numbers k 0 → class < lines → old ≡ get_or counts class old → AreCounts numbers (set counts class (old + 1)) lines (k + 1)
counts-more numbers counts lines k class old before l is below read = record {
  size = length-set counts class (old + 1) ∙ before.size;
  each = λ line within.
      let was : old ≡ get_or counts class 0 = get_or_read counts class old (omega (arith, before.size)) read 0 in
      ⊎_elim
      (λ (same : line ≡ class).
      let yes' : (get_or numbers k 0 == line) ≡ true = eq-eqb (get_or numbers k 0) line (sym is ∙ sym same) in
      get_or-set_at counts class line (old + 1) 0 same (omega (arith, before.size))
      ∙ ap (λ n. n + 1) (was ∙ ap (λ n. get_or counts n 0) (sym same) ∙ before.each line within)
      ∙ sym (count_by_more_yes (λ n. n == line) numbers k 0 l yes'))
      (λ (differ : line ≢ class).
      let no' : (get_or numbers k 0 == line) ≡ false = false_from_ne_true (get_or numbers k 0 == line) (λ e. differ (sym (eqb-true (get_or numbers k 0) line e) ∙ sym is)) in
      get_or-set_other counts class line (old + 1) 0 differ
      ∙ before.each line within
      ∙ sym (count_by_more_no (λ n. n == line) numbers k 0 l no'))
      (cases_eq line class);
}

pub count_fits : (numbers counts : List ℕ) (lines k class old : ℕ) → AreCounts numbers counts lines k → k < 2 ^ 32 → class < lines → old ≡ get_or counts class old → old ≤ length (take k numbers)
count_fits numbers counts lines k class old before l below read =
    let was : old ≡ get_or counts class 0 = get_or_read counts class old (omega (arith, before.size)) read 0 in
    omega (arith, was, before.each class below, count_by-le-length (λ n. n == class) (take k numbers))

-- one answer more
pub answers-more : (tests : List Bool) (answer : ℕ → Bool) (k : ℕ) (b : Bool) → length tests ≡ k → ((j : ℕ) → j < k → get_or tests j false ≡ answer j) → b ≡ answer k → (j : ℕ) → j < k + 1 → get_or (tests ++ b ∷ []) j false ≡ answer j
answers-more tests answer k b size before here j l = ⊎_elim
    (λ (l : j < k). get_or_append_left tests (b ∷ []) false j (omega (arith, size)) ∙ before j l)
    (λ (past : k ≤ j). let same : j ≡ length tests = omega (arith, size) in ap (λ n. get_or (tests ++ b ∷ []) n false) same ∙ get_or-append_seam tests b [] false ∙ here ∙ ap answer (omega (arith, size)))
    (cases_lt j k)

pub one_word-zero : (c : ClassTable) (line : ℕ) → line ≡ 0 → is_one_word c line ≡ false
one_word-zero c line is =
    let yes' : (line == 0) ≡ true = eq-eqb line 0 is in
    rw yes' refl

pub one_word-some : (c : ClassTable) (line n : ℕ) → line ≢ 0 → n ≡ count_by (λ k. k == line) c.numbers → (n == 1) ≡ is_one_word c line
one_word-some c line n some is =
    let no' : (line == 0) ≡ false = false_from_ne_true (line == 0) (λ e. some (eqb-true line 0 e)) in
    rw (no', is) refl

-- ---- the word of a class of one

pub record IsWordOfClass (c : ClassTable) (line : ℕ) : Type 0 where
  pub word : ℕ
  pub exists : word < length c.numbers
  pub is : get_or c.numbers word 0 ≡ line

abbrev bit : Bool → ℕ
bit b = cond b 1 0

counted : (line : ℕ) (numbers : List ℕ) → count_by (λ n. n == line) numbers ≡ 1 → (word : ℕ) × (word < length numbers) × (get_or numbers word 0 ≡ line)
counted line [] one = absurd (omega (arith, one))
counted line (x ∷ xs) one = ⊎_elim
    (λ (here : (x == line) ≡ true). (0, omega arith, eqb-true x line here))
    (λ (other : (x == line) ≡ false).
    let all : count_by (λ n. n == line) (x ∷ xs) ≡ bit (x == line) + count_by (λ n. n == line) xs = sum_by-cons (λ (n : ℕ). bit (n == line)) x xs in
    let none : bit (x == line) ≡ 0 = cond-false (x == line) 1 0 other in
    let rest = counted line xs (omega (arith, one, all, none)) in
    let low = rest.1 in
    (rest.0 + 1, omega (arith, low), ap (λ n. get_or (x ∷ xs) n 0) (add-one rest.0) ∙ rest.2))
    (cases_Bool (x == line))

one_word-parts : (c : ClassTable) (line : ℕ) → is_one_word c line ≡ true → count_by (λ n. n == line) c.numbers ≡ 1
one_word-parts c line one = eqb-true (count_by (λ n. n == line) c.numbers) 1 ((and_parts (not (line == 0)) (count_by (λ n. n == line) c.numbers == 1) one).1)

pub one_word-words : (c : ClassTable) (line : ℕ) → is_one_word c line ≡ true → IsWordOfClass c line
one_word-words c line one = let w = counted line c.numbers (one_word-parts c line one) in record { word = w.0; exists = w.1; is = w.2 }

class-inside : (c : ClassTable) (line : ℕ) → is_one_word c line ≡ true → (k : ℕ) → get_or c.numbers k 0 ≡ line → k < length c.numbers
class-inside c line one k is = ⊎_elim
    (λ (l : k < length c.numbers). l)
    (λ (past : length c.numbers ≤ k).
    let clash : true ≡ false = sym one ∙ one_word-zero c line (sym is ∙ get_or_past c.numbers k 0 past) in absurd cc)
    (cases_lt k (length c.numbers))

-- a class of one word has no other
pub one_word-same : (c : ClassTable) (word other : ℕ) → is_one_word c (get_or c.numbers word 0) ≡ true → get_or c.numbers other 0 ≡ get_or c.numbers word 0 → word ≡ other
one_word-same c word other one same =
    let line = get_or c.numbers word 0 in
    let count = one_word-parts c line one in
    count_unique (λ (n : ℕ). n == line) c.numbers word other 0 (omega (arith, count)) (class-inside c line one word refl) (class-inside c line one other same) (eq-eqb line line refl) (eq-eqb (get_or c.numbers other 0) line same)

-- a word whose class has no other is one of the table
pub one_word-inside : (c : ClassTable) (word words : ℕ) → length c.numbers ≡ words → is_one_word c (get_or c.numbers word 0) ≡ true → word < words
one_word-inside c word words size one = let l = class-inside c (get_or c.numbers word 0) one word refl in omega (arith, l, size)
