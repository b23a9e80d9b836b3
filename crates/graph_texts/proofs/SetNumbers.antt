-- The members of sets, rising.
use Rattle.std.proofs.Common.{◌≡◌, ℕ, zero, suc, ◌+◌, ◌-◌, ◌<◌, ◌≤◌, Bool, true, false, List, [], ◌∷◌, ◌++◌, Option, Some, None, refl, ap, ◌∙◌, append-nil, arith}
use Rattle.std.proofs.lemmas.List.Elements.{filter-append}
use Rattle.std.proofs.lemmas.List.Concat.{flat_map-append}
use Rattle.std.specs.Prelude.{filter, flat_map}
use Rattle.std.specs.Fmt.{decimal}
use Rattle.std.specs.List.{range_with_len}
use Rattle.class_set.specs.Members.{IsAbove, first_above}
use Rattle.graph_texts.specs.GraphText.{numbers_text}
use Rattle.graph_texts.specs.Below.{IsLastBelow, IsNextBelow}

range_parts : (a m n : ℕ) → range_with_len a (m + n) ≡ range_with_len a m ++ range_with_len (a + m) n
range_parts a zero n =
    let none : 0 + n ≡ n = omega arith in
    let here : a ≡ a + 0 = omega arith in
    ap (range_with_len a) none ∙ ap (λ b. range_with_len b n) here
range_parts a (suc m) n =
    let next : suc m + n ≡ suc (m + n) = omega arith in
    let there : a + 1 + m ≡ a + suc m = omega arith in
    ap (range_with_len a) next
    ∙ ap (λ rest. a ∷ rest) (range_parts (a + 1) m n)
    ∙ ap (λ b. (a ∷ range_with_len (a + 1) m) ++ range_with_len b n) there

module _ (is_member : ℕ → Bool) where
  abbrev pub members : (end : ℕ) → List ℕ
  members end = filter is_member (range_with_len 0 end)

  none_from : (a n : ℕ) → ((k : ℕ) → a ≤ k → k < a + n → is_member k ≡ false) → filter is_member (range_with_len a n) ≡ []
  none_from a zero none = refl
  none_from a (suc n) none =
      let rest : filter is_member (range_with_len (a + 1) n) ≡ [] = none_from (a + 1) n (λ k from below. none k (omega (arith, from)) (omega (arith, below))) in
      let here : is_member a ≡ false = none a (omega arith) (omega arith) in
      rw here rest

  -- what stands after the first members
  members_after : (a b : ℕ) → a ≤ b → members b ≡ members a ++ filter is_member (range_with_len a (b - a))
  members_after a b le =
      let whole : b ≡ a + (b - a) = omega (arith, le) in
      let from : 0 + a ≡ a = omega arith in
      ap members whole
      ∙ ap (filter is_member) (range_parts 0 a (b - a))
      ∙ filter-append is_member (range_with_len 0 a) (range_with_len (0 + a) (b - a))
      ∙ ap (λ first. members a ++ filter is_member (range_with_len first (b - a))) from

  pub members_same : (a b : ℕ) → a ≤ b → ((k : ℕ) → a ≤ k → k < b → is_member k ≡ false) → members b ≡ members a
  members_same a b le none =
      members_after a b le
      ∙ ap (λ rest. members a ++ rest) (none_from a (b - a) (λ k from below. none k from (omega (arith, below, le))))
      ∙ append-nil (members a)

  one_member : (n : ℕ) → is_member n ≡ true → members (n + 1) ≡ members n ++ n ∷ []
  one_member n is =
      let more : n + 1 - n ≡ 1 = omega arith in
      let alone : filter is_member (range_with_len n 1) ≡ n ∷ [] = rw is refl in
      members_after n (n + 1) (omega arith)
      ∙ ap (λ count. members n ++ filter is_member (range_with_len n count)) more
      ∙ ap (λ rest. members n ++ rest) alone

  pub above_from : (before : Option ℕ) (k : ℕ) → first_above before ≤ k → IsAbove before k
  above_from None k le = tt
  above_from (Some n) k le = omega (arith, le)

  pub from_above : (before : Option ℕ) (k : ℕ) → IsAbove before k → first_above before ≤ k
  from_above None k above = omega arith
  from_above (Some n) k above = omega (arith, above)

  pub members_next : (before : Option ℕ) (end n : ℕ) → IsNextBelow is_member before end n → members (n + 1) ≡ members (first_above before) ++ n ∷ []
  members_next before end n is =
      one_member n is.next.member
      ∙ ap (λ text. text ++ n ∷ []) (members_same (first_above before) n (from_above before n is.next.above) (λ k from below. is.next.least k (above_from before k from) below))

  pub members_all : (before : Option ℕ) (end : ℕ) → first_above before ≤ end → IsLastBelow is_member before end → members end ≡ members (first_above before)
  members_all before end within none = members_same (first_above before) end within (λ k from below. none k (above_from before k from) below)

  -- ---- as a text, with a line for each

  module _ (line : ℕ → List ℕ) where
    pub text_next : (before : Option ℕ) (end n : ℕ) → IsNextBelow is_member before end n → flat_map line (members (n + 1)) ≡ flat_map line (members (first_above before)) ++ line n
    text_next before end n is =
        ap (flat_map line) (members_next before end n is)
        ∙ flat_map-append line (members (first_above before)) (n ∷ [])
        ∙ ap (λ last. flat_map line (members (first_above before)) ++ last) (append-nil (line n))

    -- what is left after a member
    abbrev pub text_left : (n end : ℕ) → List ℕ
    text_left n end = flat_map line (filter is_member (range_with_len (n + 1) (end - (n + 1))))

    pub text_after : (before : Option ℕ) (end n : ℕ) → IsNextBelow is_member before end n → flat_map line (members end) ≡ (flat_map line (members (first_above before)) ++ line n) ++ text_left n end
    text_after before end n is =
        let below = is.below in
        ap (flat_map line) (members_after (n + 1) end (omega (arith, below)))
        ∙ flat_map-append line (members (n + 1)) (filter is_member (range_with_len (n + 1) (end - (n + 1))))
        ∙ ap (λ text. text ++ text_left n end) (text_next before end n is)

  -- ---- as numbers

  pub numbers_next : (before : Option ℕ) (end n : ℕ) → IsNextBelow is_member before end n → numbers_text (members (n + 1)) ≡ numbers_text (members (first_above before)) ++ (32 ∷ decimal n)
  numbers_next = text_next (λ k. 32 ∷ decimal k)

  abbrev pub numbers_left : (n end : ℕ) → List ℕ
  numbers_left = text_left (λ k. 32 ∷ decimal k)

  pub numbers_after : (before : Option ℕ) (end n : ℕ) → IsNextBelow is_member before end n → numbers_text (members end) ≡ (numbers_text (members (first_above before)) ++ (32 ∷ decimal n)) ++ numbers_left n end
  numbers_after = text_after (λ k. 32 ∷ decimal k)
