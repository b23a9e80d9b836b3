-- The first words of classes, and how many classes a program has.
use Rattle.std.proofs.Common.{◌≡◌, ◌≢◌, ℕ, zero, suc, ◌+◌, ◌<◌, ◌≤◌, pos, Bool, true, false, not, ◌==◌, List, [], ◌∷◌, length, get_or, ⊎_elim, sym, ap, ◌∙◌, arith}
use Rattle.std.specs.Prelude.{filter, bytes_eq, nat_le, nat_lt, int_lt}
use Rattle.std.specs.List.{list_any, range_with_len}
use Rattle.std.proofs.lemmas.Bool.{cases_Bool, cases_eq, cases_lt, eq-eqb, eqb-true, cases_order, and_from, and_parts, or_cases, or_left, or_right, not-true, not_from_false, leb-true, le-leb, ltb-true, lt-ltb, false_from_ne_true}
use Rattle.std.proofs.lemmas.Int.{ints}
use Rattle.std.proofs.lemmas.Slice.Eq.{bytes_eq-Decides}
use Rattle.f77_tree.specs.declared.programs.NameInfo.{NameInfo}
use Rattle.f77_tree.specs.declared.programs.Program.{Program}
use Rattle.f77_tree.specs.Places.{IsWordOf, end_of}
use Rattle.f77_tree.specs.Value.{place_of}
use Rattle.alias_classes.specs.Classes.{ClassTable, SameNames, IsClasses, class_count}
use Rattle.alias_classes.specs.Number.{covers, names_at, is_first, number_of_classes}
use Rattle.alias_classes.proofs.CountingLemmas.{filter_yes, filter_no, same_pass, AreNumbered, numbered_count}
use Rattle.alias_classes.proofs.TakenNumbers.{taken}

-- ---- tests over a range

-- a number of the range that passes
pub record IsPassing (p : ℕ → Bool) (a n k : ℕ) : Type 0 where
  pub from : a ≤ k
  pub below : k < a + n
  pub passes : p k ≡ true

later : (p : ℕ → Bool) (a n k : ℕ) → IsPassing p (a + 1) n k → IsPassing p a (suc n) k
later p a n k h = let from = h.from in let below = h.below in record { from = omega (arith, from); below = omega (arith, below); passes = h.passes }

some_passes : (p : ℕ → Bool) (a n : ℕ) → 0 < length (filter p (range_with_len a n)) → (k : ℕ) × IsPassing p a n k
some_passes p a zero some = absurd (omega (arith, some))
some_passes p a (suc n) some = ⊎_elim
    (λ (h : p a ≡ true). (a, record { from = omega arith; below = omega arith; passes = h }))
    (λ (h : p a ≡ false).
    let without = filter_no p a (range_with_len (a + 1) n) h in
    let rest = some_passes p (a + 1) n (omega (arith, some, ap length without)) in
    (rest.0, later p a n rest.0 rest.1))
    (cases_Bool (p a))

passes_some : (p : ℕ → Bool) (a n k : ℕ) → IsPassing p a n k → 0 < length (filter p (range_with_len a n))
passes_some p a zero k is = let from = is.from in let below = is.below in absurd (omega (arith, from, below))
passes_some p a (suc n) k is = ⊎_elim
    (λ (h : p a ≡ true). let with = filter_yes p a (range_with_len (a + 1) n) h in omega (arith, ap length with))
    (λ (h : p a ≡ false).
    let without = filter_no p a (range_with_len (a + 1) n) h in
    let differ : a ≢ k = λ e. let clash : true ≡ false = sym is.passes ∙ ap p (sym e) ∙ h in cc in
    let from = is.from in
    let below = is.below in
    let rest = passes_some p (a + 1) n k (record { from = omega (arith, from, differ); below = omega (arith, below); passes = is.passes }) in
    omega (arith, rest, ap length without))
    (cases_Bool (p a))

-- a number passes where it is among those that do
abbrev is_among : ℕ → List ℕ → Bool
is_among k xs = list_any (λ x. x == k) xs

among_passing : (p : ℕ → Bool) (a n k : ℕ) → IsPassing p a n k → is_among k (filter p (range_with_len a n)) ≡ true
among_passing p a zero k is = let from = is.from in let below = is.below in absurd (omega (arith, from, below))
among_passing p a (suc n) k is =
    let rest = filter p (range_with_len (a + 1) n) in
    ⊎_elim
    (λ (same : a ≡ k). ap (is_among k) (filter_yes p a (range_with_len (a + 1) n) (ap p same ∙ is.passes)) ∙ or_left (a == k) (is_among k rest) (eq-eqb a k same))
    (λ (differ : a ≢ k).
    let from = is.from in
    let below = is.below in
    let more = among_passing p (a + 1) n k (record { from = omega (arith, from, differ); below = omega (arith, below); passes = is.passes }) in
    ⊎_elim
    (λ (h : p a ≡ true). ap (is_among k) (filter_yes p a (range_with_len (a + 1) n) h) ∙ or_right (a == k) (is_among k rest) more)
    (λ (h : p a ≡ false). ap (is_among k) (filter_no p a (range_with_len (a + 1) n) h) ∙ more)
    (cases_Bool (p a)))
    (cases_eq a k)

passes_among : (p : ℕ → Bool) (xs : List ℕ) (k : ℕ) → is_among k (filter p xs) ≡ true → p k ≡ true
passes_among p [] k among = let clash : false ≡ true = among in absurd cc
passes_among p (x ∷ xs) k among = ⊎_elim
    (λ (h : p x ≡ true). ⊎_elim
    (λ (here : (x == k) ≡ true). ap p (sym (eqb-true x k here)) ∙ h)
    (λ (more : is_among k (filter p xs) ≡ true). passes_among p xs k more)
    (or_cases (x == k) (is_among k (filter p xs)) (sym (ap (is_among k) (filter_yes p x xs h)) ∙ among)))
    (λ (h : p x ≡ false). passes_among p xs k (sym (ap (is_among k) (filter_no p x xs h)) ∙ among))
    (cases_Bool (p x))

-- where the same numbers of a range pass two tests, one that passes the first passes the second
same_tests : (p q : ℕ → Bool) (a n : ℕ) → filter p (range_with_len a n) ≡ filter q (range_with_len a n) → (k : ℕ) → IsPassing p a n k → q k ≡ true
same_tests p q a n same k is = passes_among q (range_with_len a n) k (sym (ap (is_among k) same) ∙ among_passing p a n k is)

any_in_range : (p : ℕ → Bool) (a n : ℕ) → list_any p (range_with_len a n) ≡ true → (k : ℕ) × IsPassing p a n k
any_in_range p a zero any = let clash : false ≡ true = any in absurd cc
any_in_range p a (suc n) any = ⊎_elim
    (λ (h : p a ≡ true). (a, record { from = omega arith; below = omega arith; passes = h }))
    (λ (h : list_any p (range_with_len (a + 1) n) ≡ true). let rest = any_in_range p (a + 1) n h in (rest.0, later p a n rest.0 rest.1))
    (or_cases (p a) (list_any p (range_with_len (a + 1) n)) any)

range_has_any : (p : ℕ → Bool) (a n k : ℕ) → IsPassing p a n k → list_any p (range_with_len a n) ≡ true
range_has_any p a zero k is = let from = is.from in let below = is.below in absurd (omega (arith, from, below))
range_has_any p a (suc n) k is = ⊎_elim
    (λ (h : p a ≡ true). or_left (p a) (list_any p (range_with_len (a + 1) n)) h)
    (λ (h : p a ≡ false).
    let differ : a ≢ k = λ e. let clash : true ≡ false = sym is.passes ∙ ap p (sym e) ∙ h in cc in
    let from = is.from in
    let below = is.below in
    or_right (p a) (list_any p (range_with_len (a + 1) n)) (range_has_any p (a + 1) n k (record { from = omega (arith, from, differ); below = omega (arith, below); passes = is.passes })))
    (cases_Bool (p a))

-- ---- words of names

module _ (names : List NameInfo) where
  covers-word : (word k : ℕ) → k < length names → covers names word k ≡ true → IsWordOf names k word
  covers-word word k known h =
      let parts = and_parts (nat_le (place_of names k) word) (int_lt (pos word) (end_of names k)) h in
      let below = parts.1 in
      record { known = known; begins = leb-true (place_of names k) word parts.0; ends = grind (arith, ints) }

  word-covers : (word k : ℕ) → IsWordOf names k word → covers names word k ≡ true
  word-covers word k has =
      let ends = has.ends in
      let below : int_lt (pos word) (end_of names k) ≡ true = grind (arith, ints) in
      and_from (nat_le (place_of names k) word) (int_lt (pos word) (end_of names k)) (le-leb (place_of names k) word has.begins) below

  named : (word k : ℕ) → IsWordOf names k word → IsPassing (covers names word) 0 (length names) k
  named word k has = let known = has.known in record { from = omega arith; below = omega (arith, known); passes = word-covers word k has }

  same-names : (v w : ℕ) → SameNames (IsWordOf names) v w → bytes_eq (names_at names v) (names_at names w) ≡ true
  same-names v w same = (bytes_eq-Decides (names_at names v) (names_at names w)).1 (same_pass (covers names v) (covers names w) 0 (length names) (λ k low high. ⊎_elim
      (λ (h : covers names v k ≡ true). h ∙ sym (word-covers w k ((same k).0 (covers-word v k (omega (arith, high)) h))))
      (λ (h : covers names v k ≡ false). h ∙ sym (false_from_ne_true (covers names w k) (λ other.
      let clash : true ≡ false = sym (word-covers v k ((same k).1 (covers-word w k (omega (arith, high)) other))) ∙ h in cc)))
      (cases_Bool (covers names v k))))

  names-same : (v w : ℕ) → bytes_eq (names_at names v) (names_at names w) ≡ true → SameNames (IsWordOf names) v w
  names-same v w h =
      let equal = (bytes_eq-Decides (names_at names v) (names_at names w)).0 h in
      λ k. (
        λ has. covers-word w k has.known (same_tests (covers names v) (covers names w) 0 (length names) equal k (named v k has)),
        λ has. covers-word v k has.known (same_tests (covers names w) (covers names v) 0 (length names) (sym equal) k (named w k has)),
      )

  -- a word that names cover, and no lower word is covered by the same ones
  pub record IsFirst (word : ℕ) : Type 0 where
    pub name : ℕ
    pub has : IsWordOf names name word
    pub new : (lower : ℕ) → lower < word → SameNames (IsWordOf names) lower word → ⊥

  pub first-tells : (word : ℕ) → is_first names word ≡ true → IsFirst word
  first-tells word h =
      let some = nat_lt 0 (length (names_at names word)) in
      let test : ℕ → Bool = λ lower. bytes_eq (names_at names lower) (names_at names word) in
      let any = list_any test (range_with_len 0 word) in
      let parts = and_parts some (not any) h in
      let name = some_passes (covers names word) 0 (length names) (ltb-true 0 (length (names_at names word)) parts.0) in
      let below = name.1.below in
      record {
        name = name.0;
        has = covers-word word name.0 (omega (arith, below)) name.1.passes;
        new = λ lower less same.
            let found = range_has_any test 0 word lower (record { from = omega arith; below = omega (arith, less); passes = same-names lower word same }) in
            let clash : true ≡ false = sym found ∙ not-true any parts.1 in cc;
      }

  pub first-is : (word : ℕ) → IsFirst word → is_first names word ≡ true
  first-is word is =
      let some = nat_lt 0 (length (names_at names word)) in
      let test : ℕ → Bool = λ lower. bytes_eq (names_at names lower) (names_at names word) in
      let any = list_any test (range_with_len 0 word) in
      let has_some = passes_some (covers names word) 0 (length names) is.name (named word is.name is.has) in
      let none = false_from_ne_true any (λ h.
      let lower = any_in_range test 0 word h in let below = lower.1.below in is.new lower.0 (omega (arith, below)) (names-same lower.0 word lower.1.passes)) in
      and_from some (not any) (lt-ltb 0 (length (names_at names word)) has_some) (not_from_false any none)

  -- names cover a word, or none does
  pub name-of-word : (word : ℕ) → (((k : ℕ) → IsWordOf names k word → ⊥) → ⊥) → (k : ℕ) × IsWordOf names k word
  name-of-word word some = ⊎_elim
      (λ (h : 0 < length (names_at names word)).
      let name = some_passes (covers names word) 0 (length names) h in
      let below = name.1.below in
      (name.0, covers-word word name.0 (omega (arith, below)) name.1.passes))
      (λ (h : length (names_at names word) ≤ 0).
      absurd (some (λ k has.
      let one = passes_some (covers names word) 0 (length names) k (named word k has) in
      omega (arith, one, h))))
      (cases_lt 0 (length (names_at names word)))

-- ---- the classes of a program

module _ (p : Program) (t : ClassTable) (is : IsClasses p t) where
  first-words : AreNumbered (is_first p.names) (λ w. get_or t.numbers w 0) p.words t.word_classes
  first-words = record {
    least = λ w within h. let first = first-tells p.names w h in is.numbering.some first.name w first.has;
    most = λ w within h. is.numbering.most w;
    apart = λ v w v_in w_in hv hw same. ⊎_elim
        (λ (e : v ≡ w). e)
        (λ differ. absurd (⊎_elim
        (λ (l : v < w). (first-tells p.names w hw).new v l ((is.numbering.same v w v_in w_in).0 same))
        (λ (l : w < v). (first-tells p.names v hv).new w l ((is.numbering.same w v w_in v_in).0 (sym same)))
        differ))
        (cases_order v w);
    each = λ m low high.
        let found = taken (IsWordOf p.names) p.words t.word_classes t.numbers is.numbering m low high in
        let w = found.0 in
        let word : get_or t.numbers w 0 ≡ m = found.1.is in
        let inside = found.1.inside in
        let name = name-of-word p.names w (λ none. let bare = is.numbering.bare w none in omega (arith, bare, word, low)) in
        let new : (v : ℕ) → v < w → SameNames (IsWordOf p.names) v w → ⊥ = λ v l same.
        found.1.lower v l ((is.numbering.same v w (omega (arith, l, inside)) inside).1 same ∙ word) in
        (w, inside, first-is p.names w (record { name = name.0; has = name.1; new = new }), word);
  }

  pub as-many : class_count t ≡ number_of_classes p
  unfolding number_of_classes
  as-many = sym (ap (λ n. n + p.loops) (numbered_count t.word_classes (is_first p.names) (λ w. get_or t.numbers w 0) p.words first-words) ∙ ap (λ n. t.word_classes + n) (sym is.loops))
