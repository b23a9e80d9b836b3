-- Pieces of a text between its commas.
use Rattle.std.proofs.Common.{◌≡◌, ℕ, ◌+◌, ◌-◌, ◌^◌, ◌<◌, ◌≤◌, true, false, ◌&&◌, ◌==◌, Bool, List, [], ◌∷◌, ◌++◌, length, map, get_or, take, drop, refl, sym, ap, subst, ◌∙◌, suc, drop-cons, append_assoc, arith}
use Rattle.std.proofs.lemmas.List.{get_or-drop, length-drop, take_more}
use Rattle.std.proofs.Math.Seq.{drop-length}
use Rattle.std.proofs.Math.Nat.{pow-le-pow_right}
use Rattle.std.proofs.lemmas.Bool.Decides.{nat_tests}
use Rattle.std.specs.List.{list_all}
use Rattle.dfc_driver.specs.declared.words.Setting.{Setting}
use Rattle.dfc_driver.specs.Words.{are_digits_to, is_piece, pieces_after}

-- the characters from one place up to another
abbrev pub part : List ℕ → (begin end : ℕ) → List ℕ
part text begin end = take (end - begin) (drop begin text)

-- The pieces that end before k may stand there, and the piece that begins at `begin` goes on at k.
pub record AreRead (s : Setting) (text : List ℕ) (begin k : ℕ) : Type 0 where
  pub order : begin ≤ k
  pub within : k ≤ length text
  pub same : list_all (is_piece s) (pieces_after [] text) ≡ list_all (is_piece s) (pieces_after (part text begin k) (drop k text))

part_more : (text : List ℕ) (begin k d : ℕ) → begin ≤ k → k < length text → part text begin (k + 1) ≡ part text begin k ++ get_or text k d ∷ []
part_more text begin k d order lt =
    let n : k + 1 - begin ≡ k - begin + 1 = omega (arith, order) in
    let cut = length-drop begin text in
    let place : begin + (k - begin) ≡ k = omega (arith, order) in
    ap (λ m. take m (drop begin text)) n
    ∙ take_more (drop begin text) (k - begin) d (omega (arith, order, lt, cut))
    ∙ ap (λ c. take (k - begin) (drop begin text) ++ c ∷ []) (get_or-drop begin text (k - begin) d ∙ ap (λ i. get_or text i d) place)

at_comma : (begun : List ℕ) (c : ℕ) (rest : List ℕ) → (c == 44) ≡ true → pieces_after begun (c ∷ rest) ≡ begun ∷ pieces_after [] rest
at_comma begun c rest is = rw is refl

at_other : (begun : List ℕ) (c : ℕ) (rest : List ℕ) → (c == 44) ≡ false → pieces_after begun (c ∷ rest) ≡ pieces_after (begun ++ c ∷ []) rest
at_other begun c rest is = rw is refl

drop_next : (text : List ℕ) (k d : ℕ) → k < length text → drop k text ≡ get_or text k d ∷ drop (k + 1) text
drop_next text k d lt =
    let one : suc k ≡ k + 1 = omega arith in
    drop-cons text k d lt ∙ ap (λ j. get_or text k d ∷ drop j text) one

-- a character that is no comma goes on with the piece
pub goes_on : (s : Setting) (text : List ℕ) (begin k d : ℕ) → k < length text → (get_or text k d == 44) ≡ false → AreRead s text begin k → AreRead s text begin (k + 1)
goes_on s text begin k d lt other before = record {
  order = omega (arith, before.order);
  within = omega (arith, lt);
  same = before.same
      ∙ ap (λ rest. list_all (is_piece s) (pieces_after (part text begin k) rest)) (drop_next text k d lt)
      ∙ ap (list_all (is_piece s)) (at_other (part text begin k) (get_or text k d) (drop (k + 1) text) other)
      ∙ ap (λ begun. list_all (is_piece s) (pieces_after begun (drop (k + 1) text))) (sym (part_more text begin k d before.order lt));
}

none_yet : (text : List ℕ) (k : ℕ) → part text k k ≡ []
none_yet text k = let none : k - k ≡ 0 = omega arith in ap (λ n. take n (drop k text)) none

at_end : (s : Setting) (text : List ℕ) (begin k d : ℕ) → k < length text → (get_or text k d == 44) ≡ true → AreRead s text begin k → list_all (is_piece s) (pieces_after [] text) ≡ (is_piece s (part text begin k) && list_all (is_piece s) (pieces_after [] (drop (k + 1) text)))
at_end s text begin k d lt comma before =
    before.same
    ∙ ap (λ rest. list_all (is_piece s) (pieces_after (part text begin k) rest)) (drop_next text k d lt)
    ∙ ap (list_all (is_piece s)) (at_comma (part text begin k) (get_or text k d) (drop (k + 1) text) comma)

-- a comma ends a piece that may stand there
pub ends : (s : Setting) (text : List ℕ) (begin k d : ℕ) → k < length text → (get_or text k d == 44) ≡ true → is_piece s (part text begin k) ≡ true → AreRead s text begin k → AreRead s text (k + 1) (k + 1)
ends s text begin k d lt comma word before = record {
  order = omega arith;
  within = omega (arith, lt);
  same = at_end s text begin k d lt comma before
      ∙ ap (λ b. b && list_all (is_piece s) (pieces_after [] (drop (k + 1) text))) word
      ∙ ap (λ begun. list_all (is_piece s) (pieces_after begun (drop (k + 1) text))) (sym (none_yet text (k + 1)));
}

-- ---- lists of values

pub left_of : (a b : Bool) → (a && b) ≡ true → a ≡ true
left_of true b is = refl
left_of false b is = is

pub right_of : (a b : Bool) → (a && b) ≡ true → b ≡ true
right_of true b is = is
right_of false b is = absurd cc

-- The values of the pieces that end before k were taken, and the piece that begins at `begin` goes on at k.
pub record AreTaken {A : Type 0} (test : List ℕ → Bool) (value : List ℕ → A) (text : List ℕ) (begin k : ℕ) (taken : List A) : Type 0 where
  pub order : begin ≤ k
  pub within : k ≤ length text
  pub same : map value (pieces_after [] text) ≡ taken ++ map value (pieces_after (part text begin k) (drop k text))
  pub good : list_all test (pieces_after (part text begin k) (drop k text)) ≡ true

module _ {A : Type 0} (test : List ℕ → Bool) (value : List ℕ → A) (text : List ℕ) where
  module _ (begin k d : ℕ) (taken : List A) (before : AreTaken test value text begin k taken) where
    -- a character that is no comma goes on with the piece
    rest_on : k < length text → (get_or text k d == 44) ≡ false → pieces_after (part text begin k) (drop k text) ≡ pieces_after (part text begin (k + 1)) (drop (k + 1) text)
    rest_on lt other =
        ap (pieces_after (part text begin k)) (drop_next text k d lt)
        ∙ at_other (part text begin k) (get_or text k d) (drop (k + 1) text) other
        ∙ ap (λ begun. pieces_after begun (drop (k + 1) text)) (sym (part_more text begin k d before.order lt))

    pub taken_on : k < length text → (get_or text k d == 44) ≡ false → AreTaken test value text begin (k + 1) taken
    taken_on lt other = record {
      order = omega (arith, before.order);
      within = omega (arith, lt);
      same = before.same ∙ ap (λ pieces. taken ++ map value pieces) (rest_on lt other);
      good = ap (list_all test) (sym (rest_on lt other)) ∙ before.good;
    }

    -- a comma ends a piece
    rest_after : k < length text → (get_or text k d == 44) ≡ true → pieces_after (part text begin k) (drop k text) ≡ part text begin k ∷ pieces_after (part text (k + 1) (k + 1)) (drop (k + 1) text)
    rest_after lt comma =
        ap (pieces_after (part text begin k)) (drop_next text k d lt)
        ∙ at_comma (part text begin k) (get_or text k d) (drop (k + 1) text) comma
        ∙ ap (λ begun. part text begin k ∷ pieces_after begun (drop (k + 1) text)) (sym (none_yet text (k + 1)))

    pub taken_more : k < length text → (get_or text k d == 44) ≡ true → AreTaken test value text (k + 1) (k + 1) (taken ++ value (part text begin k) ∷ [])
    taken_more lt comma = record {
      order = omega arith;
      within = omega (arith, lt);
      same = before.same ∙ ap (λ pieces. taken ++ map value pieces) (rest_after lt comma) ∙ sym (append_assoc taken (value (part text begin k) ∷ []) (map value (pieces_after (part text (k + 1) (k + 1)) (drop (k + 1) text))));
      good = right_of (test (part text begin k)) (list_all test (pieces_after (part text (k + 1) (k + 1)) (drop (k + 1) text))) (ap (list_all test) (sym (rest_after lt comma)) ∙ before.good);
    }

  module _ (begin : ℕ) (taken : List A) (before : AreTaken test value text begin (length text) taken) where
    last_rest : pieces_after (part text begin (length text)) (drop (length text) text) ≡ part text begin (length text) ∷ []
    last_rest = ap (pieces_after (part text begin (length text))) (drop-length text)

    pub last_good : test (part text begin (length text)) ≡ true
    last_good = left_of (test (part text begin (length text))) true (ap (list_all test) (sym last_rest) ∙ before.good)

    pub all_taken : map value (pieces_after [] text) ≡ taken ++ value (part text begin (length text)) ∷ []
    all_taken = before.same ∙ ap (λ pieces. taken ++ map value pieces) last_rest

  -- at the end
  pub taken_last : (begin k : ℕ) (taken : List A) → length text ≤ k → AreTaken test value text begin k taken → AreTaken test value text begin (length text) taken
  taken_last begin k taken over before =
      let le = before.within in
      let same : k ≡ length text = omega (arith, le, over) in
      subst (λ i. AreTaken test value text begin i taken) same before

-- ---- few digits

pub few_digits : (most : ℕ) (digits : List ℕ) → are_digits_to most digits ≡ true → length digits ≤ most
few_digits most digits is = grind (arith, nat_tests, is)

pub small_number : (n count most : ℕ) → n < 10 ^ count → count ≤ most → n < 10 ^ most
small_number n count most small few =
    let some : 0 < 10 = omega arith in
    let le : 10 ^ count ≤ 10 ^ most = pow-le-pow_right some few in
    omega (arith, small, le)
