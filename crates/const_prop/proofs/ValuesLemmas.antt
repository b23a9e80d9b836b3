-- What blocks of words hold, after a block got a number, or a place a word.
use Rattle.std.proofs.Common.{◌≡◌, ◌≢◌, ℕ, zero, suc, ℤ, pos, ◌+◌, ◌-◌, ◌*◌, ◌/◌, ◌%◌, ◌<◌, ◌≤◌, ◌==◌, ◌||◌, Bool, true, false, if◌then◌else◌, Some, None, List, [], ◌∷◌, ◌++◌, length, set, get_or, count_by, refl, sym, ap, ◌∙◌, ⊎_elim, arith, subst}
use Rattle.std.proofs.lemmas.Bool.{cases_eq}
use Rattle.std.proofs.lemmas.List.{get_or-set_same, get_or-set_other, length-set}
use Rattle.std.proofs.lemmas.List.Sums.{count_by-le-length}
use Rattle.class_set.specs.ClassSet.{holds}
use Rattle.class_set.specs.declared.ClassSet.{ClassSet}
use Rattle.const_prop.specs.SparseSets.{is_number, nth_holds}
use Rattle.const_prop.specs.Values.{word_in, word_of, AreNumbered}
use Rattle.const_prop.proofs.SparseSetLemmas.{nth_read, nth-set_same, nth-set_other, nth-append, nth-last, count-more, is_same, is_other}

-- before a block got a number not all had one
pub some_left : (numbers : List ℕ) (block count : ℕ) → AreNumbered numbers count → block < length numbers → get_or numbers block 0 ≡ 0 → count < length numbers
some_left numbers block count are within none =
    let most : count_by is_number (set numbers block 1) ≤ length (set numbers block 1) = count_by-le-length is_number (set numbers block 1) in
    let same : length (set numbers block 1) ≡ length numbers = length-set numbers block 1 in
    let more = count-more numbers block 1 within none (λ one. cc) in
    let all = are.all in
    omega (arith, most, same, more, all)

module _ (numbers : List ℕ) (block : ℕ) (within : block < length numbers) (none : get_or numbers block 0 ≡ 0) (count : ℕ) (are : AreNumbered numbers count) where
  abbrev more : List ℕ
  more = set numbers block (suc count)

  here : get_or more block 0 ≡ suc count
  here = get_or-set_same numbers block (suc count) 0 within

  there : (i : ℕ) → i ≢ block → get_or more i 0 ≡ get_or numbers i 0
  there i other = get_or-set_other numbers block i (suc count) 0 other

  at_block : (i : ℕ) → i ≡ block → get_or more i 0 ≡ suc count
  at_block i e = ap (λ i. get_or more i 0) e ∙ here

  one_more : count_by is_number more ≡ count_by is_number numbers + 1
  one_more = count-more numbers block (suc count) within none (λ zero'. omega (arith, zero'))

  few : (i : ℕ) → get_or numbers i 0 ≤ count
  few i = let w = are.within i in let all = are.all in omega (arith, w, all)

  numbered : AreNumbered more (suc count)
  numbered = record {
    all = (let all = are.all in omega (arith, all, one_more));
    within = λ i. let all = are.all in ⊎_elim
        (λ (e : i ≡ block). omega (arith, at_block i e, one_more, all))
        (λ (d : i ≢ block). omega (arith, there i d, are.within i, one_more))
        (cases_eq i block);
    own = λ i j same some. ⊎_elim
        (λ (e : i ≡ block). ⊎_elim
        (λ (f : j ≡ block). e ∙ sym f)
        (λ (d : j ≢ block). absurd (omega (arith, at_block i e, same, there j d, few j)))
        (cases_eq j block))
        (λ (d : i ≢ block). ⊎_elim
        (λ (f : j ≡ block). absurd (omega (arith, at_block j f, same, there i d, few i)))
        (λ (g : j ≢ block). are.own i j (sym (there i d) ∙ same ∙ there j g) (λ none. some (there i d ∙ none)))
        (cases_eq j block))
        (cases_eq i block);
  }

pub are_numbered_more : (numbers : List ℕ) (block : ℕ) → block < length numbers → get_or numbers block 0 ≡ 0 → (count : ℕ) → AreNumbered numbers count → (n : ℕ) → n ≡ count + 1 → (w : ℕ) → w ≡ count + 1 → AreNumbered (set numbers block n) w
are_numbered_more numbers block within none count are n n_is w w_is =
    let n_suc : n ≡ suc count = omega (arith, n_is) in
    let w_suc : w ≡ suc count = omega (arith, w_is) in
    subst (λ k. AreNumbered (set numbers block k) w) (sym n_suc) (subst (λ k. AreNumbered (set numbers block (suc count)) k) (sym w_suc) (numbered numbers block within none count are))

-- a place of a block with a number has a word where it is among those that are filled
some_if : (b d : Bool) (v w : ℤ) → b ≡ d → v ≡ w → (if b then Some v else None) ≡ (if d then Some w else None)
some_if b d v w same equal = ap (λ (x : Bool). if x then Some v else None) same ∙ ap (λ (z : ℤ). if d then Some z else None) equal

none_if : (b : Bool) (v : ℤ) → b ≡ false → (if b then Some v else None) ≡ None
none_if b v off = ap (λ (x : Bool). if x then Some v else None) off

-- a block that had a number has the words that it had
word_in-kept : (m k : ℕ) (filled more : List (ClassSet 1)) (s : ClassSet 1) (words after : List ℤ) → k < 32 → m ≤ length filled → length words ≡ 32 * length filled → more ≡ filled ++ s ∷ [] → ((i : ℕ) → i < length words → get_or after i (pos 0) ≡ get_or words i (pos 0)) → word_in m more after k ≡ word_in m filled words k
word_in-kept zero k filled more s words after in_block some size is same = refl
word_in-kept (suc m) k filled more s words after in_block some size is same =
    some_if (nth_holds more m k) (nth_holds filled m k) (get_or after (32 * m + k) (pos 0)) (get_or words (32 * m + k) (pos 0)) (ap (λ (xs : List (ClassSet 1)). nth_holds xs m k) is ∙ nth-append filled m k s (omega (arith, some))) (same (32 * m + k) (omega (arith, in_block, some, size)))

-- one that got its number has none
word_in-begun : (n k : ℕ) (filled more : List (ClassSet 1)) (s : ClassSet 1) (after : List ℤ) → n ≡ length filled + 1 → more ≡ filled ++ s ∷ [] → ((k : ℕ) → holds s k ≡ false) → word_in n more after k ≡ None
word_in-begun zero k filled more s after is grown empty = refl
word_in-begun (suc n) k filled more s after is grown empty =
    none_if (nth_holds more n k) (get_or after (32 * n + k) (pos 0)) (ap (λ (xs : List (ClassSet 1)). nth_holds xs n k) grown ∙ nth-last filled n k s (omega (arith, is)) ∙ empty k)

pub word_of_begun : (numbers : List ℕ) (filled more : List (ClassSet 1)) (s : ClassSet 1) (words after : List ℤ) (block n : ℕ) → block < length numbers → get_or numbers block 0 ≡ 0 → AreNumbered numbers (length filled) → length words ≡ 32 * length filled → n ≡ length filled + 1 → more ≡ filled ++ s ∷ [] → ((k : ℕ) → holds s k ≡ false) → ((i : ℕ) → i < length words → get_or after i (pos 0) ≡ get_or words i (pos 0)) → (place : ℕ) → word_of (record { numbers = set numbers block n; filled = more; words = after }) place ≡ word_of (record { numbers = numbers; filled = filled; words = words }) place
word_of_begun numbers filled more s words after block n within none are size is grown empty same place = ⊎_elim
    (λ (e : place / 32 ≡ block).
    let now : get_or (set numbers block n) (place / 32) 0 ≡ n = ap (λ i. get_or (set numbers block n) i 0) e ∙ get_or-set_same numbers block n 0 within in
    let before : get_or numbers (place / 32) 0 ≡ 0 = ap (λ i. get_or numbers i 0) e ∙ none in
    rw (now, before) (word_in-begun n (place % 32) filled more s after is grown empty))
    (λ (d : place / 32 ≢ block).
    let now : get_or (set numbers block n) (place / 32) 0 ≡ get_or numbers (place / 32) 0 = get_or-set_other numbers block (place / 32) n 0 d in
    let most = are.within (place / 32) in
    let all = are.all in
    rw now (word_in-kept (get_or numbers (place / 32) 0) (place % 32) filled more s words after (omega arith) (omega (arith, most, all)) size grown same))
    (cases_eq (place / 32) block)

-- the word that was put, and the others
module _ (m q : ℕ) (filled : List (ClassSet 1)) (old new : ClassSet 1) (words : List ℤ) (v : ℤ) (in_block : q < 32) (some : m ≢ 0) (room : m ≤ length filled) (size : length words ≡ 32 * length filled) (read : old ≡ get_or filled (m - 1) old) (more : (k : ℕ) → holds new k ≡ ((k == q) || holds old k)) where
  abbrev after : List (ClassSet 1)
  after = set filled (m - 1) new

  abbrev put : List ℤ
  put = set words (32 * (m - 1) + q) v

  held : (b d : Bool) → b ≡ true → (b || d) ≡ true
  held b d is = ap (λ (x : Bool). x || d) is

  passed : (b d : Bool) → b ≡ false → (b || d) ≡ d
  passed b d is = ap (λ (x : Bool). x || d) is

  word_in-here : (a k : ℕ) → a ≡ m → k ≡ q → word_in a after put k ≡ Some v
  word_in-here zero k same place = absurd (some (sym same))
  word_in-here (suc a) k same place =
      let number : a ≡ m - 1 = omega (arith, same) in
      let within : m - 1 < length filled = omega (arith, room, some) in
      let at : 32 * a + k ≡ 32 * (m - 1) + q = omega (arith, number, place) in
      let on : nth_holds after a k ≡ true = ap (λ i. nth_holds after i k) number ∙ nth-set_same filled (m - 1) k new within ∙ more k ∙ held (k == q) (holds old k) (is_same k q place) in
      let word : get_or put (32 * a + k) (pos 0) ≡ v = ap (λ i. get_or put i (pos 0)) at ∙ get_or-set_same words (32 * (m - 1) + q) v (pos 0) (omega (arith, size, within, in_block)) in
      some_if (nth_holds after a k) true (get_or put (32 * a + k) (pos 0)) v on word

  word_in-there : (a k : ℕ) → k < 32 → (a ≡ m → k ≡ q → ⊥) → word_in a after put k ≡ word_in a filled words k
  word_in-there zero k inside other = refl
  word_in-there (suc a) k inside other =
      let word : get_or put (32 * a + k) (pos 0) ≡ get_or words (32 * a + k) (pos 0) = get_or-set_other words (32 * (m - 1) + q) (32 * a + k) v (pos 0) (λ same. other (omega (arith, same, some, inside, in_block)) (omega (arith, same, some, inside, in_block))) in
      let bit : nth_holds after a k ≡ nth_holds filled a k = ⊎_elim
      (λ (e : a ≡ m - 1).
      let within : m - 1 < length filled = omega (arith, room, some) in
      let apart : k ≢ q = λ same. other (omega (arith, e, some)) same in
      ap (λ i. nth_holds after i k) e ∙ nth-set_same filled (m - 1) k new within ∙ more k ∙ passed (k == q) (holds old k) (is_other k q apart) ∙ nth_read filled (m - 1) k old within read ∙ ap (λ i. nth_holds filled i k) (sym e))
      (λ (d : a ≢ m - 1). nth-set_other filled (m - 1) a k new d)
      (cases_eq a (m - 1)) in
      some_if (nth_holds after a k) (nth_holds filled a k) (get_or put (32 * a + k) (pos 0)) (get_or words (32 * a + k) (pos 0)) bit word

pub word_of_set : (numbers : List ℕ) (filled : List (ClassSet 1)) (old new : ClassSet 1) (words : List ℤ) (place m : ℕ) (v : ℤ) → AreNumbered numbers (length filled) → length words ≡ 32 * length filled → m ≡ get_or numbers (place / 32) 0 → m ≢ 0 → old ≡ get_or filled (m - 1) old → ((k : ℕ) → holds new k ≡ ((k == place % 32) || holds old k)) → (i : ℕ) → word_of (record { numbers = numbers; filled = set filled (m - 1) new; words = set words (32 * (m - 1) + place % 32) v }) i ≡ (if i == place then Some v else word_of (record { numbers = numbers; filled = filled; words = words }) i)
word_of_set numbers filled old new words place m v are size is some read more i =
    let most = are.within (place / 32) in
    let all = are.all in
    let room : m ≤ length filled = omega (arith, most, all, is) in
    ⊎_elim
    (λ (e : i ≡ place).
    rw (is_same i place e)
    (word_in-here m (place % 32) filled old new words v (omega arith) some room size read more (get_or numbers (i / 32) 0) (i % 32) (ap (λ x. get_or numbers (x / 32) 0) e ∙ sym is) (ap (λ x. x % 32) e)))
    (λ (d : i ≢ place).
    rw (is_other i place d)
    (word_in-there m (place % 32) filled old new words v (omega arith) some room size read more (get_or numbers (i / 32) 0) (i % 32) (omega arith)
    (λ same rest. let block : i / 32 ≡ place / 32 = are.own (i / 32) (place / 32) (same ∙ is) (λ none. some (sym same ∙ none)) in d (omega (arith, block, rest)))))
    (cases_eq i place)

-- the place of a word in a block that has a number
pub word_place : (numbers : List ℕ) (count words place m : ℕ) → AreNumbered numbers count → words ≡ 32 * count → m ≡ get_or numbers (place / 32) 0 → m ≢ 0 → 32 * (m - 1) + place % 32 < words
word_place numbers count words place m are size is some =
    let most = are.within (place / 32) in
    let all = are.all in
    omega (arith, most, all, some, size, is)

pub number_place : (numbers : List ℕ) (count place m : ℕ) → AreNumbered numbers count → m ≡ get_or numbers (place / 32) 0 → m ≢ 0 → m - 1 < count
number_place numbers count place m are is some =
    let most = are.within (place / 32) in
    let all = are.all in
    omega (arith, most, all, some, is)

-- an entry that was read, whatever stands for it past the end
read_any : (words : List ℤ) (i : ℕ) (w d : ℤ) → i < length words → w ≡ get_or words i w → get_or words i d ≡ w
read_any [] i w d within is = absurd (omega (arith, within))
read_any (x ∷ words) zero w d within is = sym is
read_any (x ∷ words) (suc i) w d within is = read_any words i w d (omega arith) is

-- what was read of a place: no number, no word, or a word
pub word_none : (numbers : List ℕ) (filled : List (ClassSet 1)) (words : List ℤ) (place m : ℕ) → m ≡ get_or numbers (place / 32) 0 → m ≡ 0 → None ≡ word_of (record { numbers = numbers; filled = filled; words = words }) place
word_none numbers filled words place m is none = rw (sym is ∙ none) refl

word_in-off : (filled : List (ClassSet 1)) (words : List ℤ) (a m k : ℕ) (old : ClassSet 1) → a ≡ m → m - 1 < length filled → old ≡ get_or filled (m - 1) old → holds old k ≡ false → word_in a filled words k ≡ None
word_in-off filled words zero m k old same within read off = refl
word_in-off filled words (suc a) m k old same within read off =
    let number : a ≡ m - 1 = omega (arith, same) in
    none_if (nth_holds filled a k) (get_or words (32 * a + k) (pos 0)) (ap (λ i. nth_holds filled i k) number ∙ sym (nth_read filled (m - 1) k old within read) ∙ off)

word_in-on : (filled : List (ClassSet 1)) (words : List ℤ) (a m k : ℕ) (old : ClassSet 1) (w : ℤ) → a ≡ m → m ≢ 0 → m - 1 < length filled → 32 * (m - 1) + k < length words → old ≡ get_or filled (m - 1) old → holds old k ≡ true → w ≡ get_or words (32 * (m - 1) + k) w → word_in a filled words k ≡ Some w
word_in-on filled words zero m k old w same some within room read on is = absurd (some (sym same))
word_in-on filled words (suc a) m k old w same some within room read on is =
    let number : a ≡ m - 1 = omega (arith, same) in
    some_if (nth_holds filled a k) true (get_or words (32 * a + k) (pos 0)) w
    (ap (λ i. nth_holds filled i k) number ∙ sym (nth_read filled (m - 1) k old within read) ∙ on)
    (ap (λ i. get_or words (32 * i + k) (pos 0)) number ∙ read_any words (32 * (m - 1) + k) w (pos 0) room is)

pub word_off : (numbers : List ℕ) (filled : List (ClassSet 1)) (words : List ℤ) (place m : ℕ) (old : ClassSet 1) → AreNumbered numbers (length filled) → m ≡ get_or numbers (place / 32) 0 → m ≢ 0 → old ≡ get_or filled (m - 1) old → holds old (place % 32) ≡ false → None ≡ word_of (record { numbers = numbers; filled = filled; words = words }) place
word_off numbers filled words place m old are is some read off =
    sym (word_in-off filled words (get_or numbers (place / 32) 0) m (place % 32) old (sym is) (number_place numbers (length filled) place m are is some) read off)

pub word_on : (numbers : List ℕ) (filled : List (ClassSet 1)) (words : List ℤ) (place m : ℕ) (old : ClassSet 1) (w : ℤ) → AreNumbered numbers (length filled) → length words ≡ 32 * length filled → m ≡ get_or numbers (place / 32) 0 → m ≢ 0 → old ≡ get_or filled (m - 1) old → holds old (place % 32) ≡ true → w ≡ get_or words (32 * (m - 1) + place % 32) w → Some w ≡ word_of (record { numbers = numbers; filled = filled; words = words }) place
word_on numbers filled words place m old w are size is some read on word =
    sym (word_in-on filled words (get_or numbers (place / 32) 0) m (place % 32) old w (sym is) some (number_place numbers (length filled) place m are is some) (word_place numbers (length filled) (length words) place m are size is some) read on word)
