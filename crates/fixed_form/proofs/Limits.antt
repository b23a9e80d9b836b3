-- What is read stays within the limits.
use Rattle.std.proofs.Common.{◌≡◌, ◌==◌, ℕ, ◌-◌, ◌<◌, ◌≤◌, Bool, true, false, cond, ◌&&◌, List, [], ◌∷◌, ◌++◌, length, take, drop, Option, Some, None, refl, sym, ap, ◌∙◌, arith, nat_lt, leb}
use Rattle.std.proofs.lemmas.Bool.{cond_both, cond-true, cond-false, and_from, and_parts, eqb-true, ne_eqb, le-leb, lt-ltb, le-ltb, ltb-true, ltb-false, not-false}
use Rattle.std.proofs.lemmas.List.{take-append-drop}
use Rattle.std.proofs.lemmas.List.Elements.{All-push, All-append, All-nil}
use Rattle.std.proofs.lemmas.List.Folds.{list_all-append}
use Rattle.std.proofs.lemmas.List.Sums.{fold-append}
use Rattle.std.specs.Char.{to_ascii_uppercase}
use Rattle.std.specs.List.{All, list_all, fold}
use Rattle.fixed_form.specs.declared.raw_stmt.RawStmt.{RawStmt}
use Rattle.fixed_form.specs.declared.open_stmt.OpenStmt.{OpenStmt}
use Rattle.fixed_form.specs.Columns.{card, is_character, has_bad_byte, statement_field}
use Rattle.fixed_form.specs.Statement.{kept, inside_after, text_from}
use Rattle.fixed_form.specs.OpenStmt.{with_characters, begun}
use Rattle.fixed_form.specs.Limits.{IsWithinForm}
use Rattle.fixed_form.specs.Reader.{closed, closed_last, IsOpenWithinForm, IsLast}
use Rattle.fixed_form.specs.SourceLine.{SourceLine}
use Rattle.fixed_form.proofs.Cards.{length-statement_field}
use Rattle.fixed_form.proofs.Steps.{continued}
use Rattle.fixed_form.proofs.Texts.{text_from-append, put_length}

-- a character in upper case, by cases
upper_cases : (P : ℕ → Type 0) (c : ℕ) → (c < 97 → P c) → (97 ≤ c → c < 123 → P (c - 32)) → (123 ≤ c → P c) → P (to_ascii_uppercase c)
upper_cases P c below letter above =
    cond_both (nat_lt c 97) c (cond (nat_lt c 123) (c - 32) c) P (λ h. below (ltb-true c 97 h)) (λ h. cond_both (nat_lt c 123) (c - 32) c P (λ k. letter (ltb-false c 97 h) (ltb-true c 123 k)) (λ k. above (ltb-false c 123 k)))

upper_character : (c : ℕ) → is_character c ≡ true → is_character (to_ascii_uppercase c) ≡ true
upper_character c h =
    upper_cases (λ x. is_character x ≡ true) c (λ _. h) (λ low high. and_from (leb 32 (c - 32)) (leb (c - 32) 126) (le-leb 32 (c - 32) (omega arith)) (le-leb (c - 32) 126 (omega arith))) (λ _. h)

upper_blank : (c : ℕ) → (c == 32) ≡ false → (to_ascii_uppercase c == 32) ≡ false
upper_blank c h =
    upper_cases (λ x. (x == 32) ≡ false) c (λ _. h) (λ low high. ne_eqb (c - 32) 32 (λ e. omega (arith, e))) (λ _. h)

upper_low : (c : ℕ) → c < 97 → to_ascii_uppercase c ≡ c
upper_low c h = cond-true (nat_lt c 97) c (cond (nat_lt c 123) (c - 32) c) (lt-ltb c 97 h)

upper_high : (c : ℕ) → 123 ≤ c → to_ascii_uppercase c ≡ c
upper_high c h =
    cond-false (nat_lt c 97) c (cond (nat_lt c 123) (c - 32) c) (le-ltb c 97 (omega arith)) ∙ cond-false (nat_lt c 123) (c - 32) c (le-ltb c 123 h)

upper_upper : (c : ℕ) → to_ascii_uppercase (to_ascii_uppercase c) ≡ to_ascii_uppercase c
upper_upper c =
    upper_cases (λ x. to_ascii_uppercase x ≡ x) c (upper_low c) (λ low high. upper_low (c - 32) (omega arith)) (upper_high c)

upper_apostrophe : (c : ℕ) → (to_ascii_uppercase c == 39) ≡ (c == 39)
upper_apostrophe c =
    upper_cases (λ x. (x == 39) ≡ (c == 39)) c (λ _. refl) (λ low high. ne_eqb (c - 32) 39 (λ e. omega (arith, e)) ∙ sym (ne_eqb c 39 (λ e. omega (arith, e)))) (λ _. refl)

-- what a character gives
kept_characters : (inside : Bool) (c : ℕ) → is_character c ≡ true → list_all is_character (kept inside c) ≡ true
kept_characters true c h = ap (λ b. b && true) h
kept_characters false c h =
    cond_both (c == 32) [] (to_ascii_uppercase c ∷ []) (λ cs. list_all is_character cs ≡ true) (λ _. refl) (λ _. ap (λ b. b && true) (upper_character c h))

-- reading again what a character gave gives the same
kept_kept : (inside : Bool) (c : ℕ) → text_from inside (kept inside c) ≡ kept inside c
kept_kept true c = refl
kept_kept false c =
    cond_both (c == 32) [] (to_ascii_uppercase c ∷ []) (λ cs. text_from false cs ≡ cs) (λ _. refl) (λ no. ap (λ cs. cs ++ []) (cond-false (to_ascii_uppercase c == 32) [] (to_ascii_uppercase (to_ascii_uppercase c) ∷ []) (upper_blank c no)) ∙ ap (λ x. x ∷ []) (upper_upper c))

kept_inside : (inside : Bool) (c : ℕ) → fold inside_after inside (kept inside c) ≡ inside_after inside c
kept_inside true c = refl
kept_inside false c =
    cond_both (c == 32) [] (to_ascii_uppercase c ∷ []) (λ cs. fold inside_after false cs ≡ cond (c == 39) true false) (λ is. sym (cond-false (c == 39) true false (ne_eqb c 39 (λ e. omega (arith, eqb-true c 32 is, e))))) (λ _. ap (λ b. cond b true false) (upper_apostrophe c))

text_characters : (inside : Bool) (cs : List ℕ) → list_all is_character cs ≡ true → list_all is_character (text_from inside cs) ≡ true
text_characters inside [] h = refl
text_characters inside (c ∷ cs) h =
    let parts = and_parts (is_character c) (list_all is_character cs) h in
    list_all-append is_character (kept inside c) (text_from (inside_after inside c) cs)
    ∙ and_from (list_all is_character (kept inside c)) (list_all is_character (text_from (inside_after inside c) cs)) (kept_characters inside c parts.0) (text_characters (inside_after inside c) cs parts.1)

-- the state after a text is the state after what gave it
text_inside : (inside : Bool) (cs : List ℕ) → fold inside_after inside (text_from inside cs) ≡ fold inside_after inside cs
text_inside inside [] = refl
text_inside inside (c ∷ cs) =
    fold-append inside_after inside (kept inside c) (text_from (inside_after inside c) cs)
    ∙ ap (λ b. fold inside_after b (text_from (inside_after inside c) cs)) (kept_inside inside c)
    ∙ text_inside (inside_after inside c) cs

-- reading a text again gives the same
text_text : (inside : Bool) (cs : List ℕ) → text_from inside (text_from inside cs) ≡ text_from inside cs
text_text inside [] = refl
text_text inside (c ∷ cs) =
    text_from-append inside (kept inside c) (text_from (inside_after inside c) cs)
    ∙ ap (λ b. text_from inside (kept inside c) ++ text_from b (text_from (inside_after inside c) cs)) (kept_inside inside c)
    ∙ ap (λ x. x ++ text_from (inside_after inside c) (text_from (inside_after inside c) cs)) (kept_kept inside c)
    ∙ ap (λ x. kept inside c ++ x) (text_text (inside_after inside c) cs)

module _ (stmt : OpenStmt) (cs : List ℕ) (characters : list_all is_character stmt.text ≡ true) (folded : text_from false stmt.text ≡ stmt.text) (inside : fold inside_after false stmt.text ≡ stmt.is_inside) where
  abbrev more : List ℕ
  more = text_from stmt.is_inside cs

  pub grown_characters : list_all is_character cs ≡ true → list_all is_character (with_characters stmt cs).text ≡ true
  grown_characters h =
      list_all-append is_character stmt.text more ∙ and_from (list_all is_character stmt.text) (list_all is_character more) characters (text_characters stmt.is_inside cs h)

  pub grown_folded : text_from false (with_characters stmt cs).text ≡ (with_characters stmt cs).text
  grown_folded =
      text_from-append false stmt.text more
      ∙ ap (λ b. text_from false stmt.text ++ text_from b more) inside
      ∙ ap (λ x. x ++ text_from stmt.is_inside more) folded
      ∙ ap (λ x. stmt.text ++ x) (text_text stmt.is_inside cs)

  pub grown_inside : fold inside_after false (with_characters stmt cs).text ≡ (with_characters stmt cs).is_inside
  grown_inside =
      fold-append inside_after false stmt.text more ∙ ap (λ b. fold inside_after b more) inside ∙ text_inside stmt.is_inside cs

-- the statement field of a card without a bad byte
field_characters : (card : List ℕ) → has_bad_byte card ≡ false → list_all is_character (statement_field card) ≡ true
field_characters card good =
    let whole : list_all is_character (take 6 card ++ drop 6 card) ≡ true = ap (list_all is_character) (take-append-drop 6 card) ∙ not-false (list_all is_character card) good in
    (and_parts (list_all is_character (take 6 card)) (list_all is_character (drop 6 card)) (sym (list_all-append is_character (take 6 card) (drop 6 card)) ∙ whole)).1

-- a closed statement
pub closed_within : (stmt : OpenStmt) → IsOpenWithinForm stmt → IsWithinForm (closed stmt)
closed_within stmt open_within = record {
  label = open_within.label;
  short = omega (arith, open_within.continued, open_within.short);
  characters = open_within.characters;
  folded = open_within.folded;
}

pub closed_each : (done : List RawStmt) (last : Option OpenStmt) → All IsWithinForm done → IsLast last done → All IsWithinForm (done ++ closed_last last)
closed_each done None each bounds =
    All-append IsWithinForm done [] each (All-nil IsWithinForm)
closed_each done (Some stmt) each bounds =
    All-push IsWithinForm done (closed stmt) each (closed_within stmt bounds)

-- a statement of one card
pub begun_within : (label line : ℕ) (xs : List ℕ) → label ≤ 99999 → has_bad_byte (card xs) ≡ false → IsOpenWithinForm (with_characters (begun label line) (statement_field (card xs)))
begun_within label line xs small good =
    let stmt = begun label line in
    let field = statement_field (card xs) in
    record {
      label = small;
      continued = omega arith;
      short = omega (arith, put_length stmt field, length-statement_field xs);
      characters = grown_characters stmt field refl refl refl (field_characters (card xs) good);
      folded = grown_folded stmt field refl refl refl;
      inside = grown_inside stmt field refl refl refl;
    }

-- a statement with one card more
pub continued_within : (stmt : OpenStmt) (line : SourceLine) (xs : List ℕ) → line.card ≡ card xs → IsOpenWithinForm stmt → stmt.continuations < 19 → has_bad_byte line.card ≡ false → IsOpenWithinForm (continued stmt line)
continued_within stmt line xs is within few good =
    let field = statement_field line.card in
    let long : length field ≡ 66 = ap (λ (cs : List ℕ). length (drop 6 cs)) is ∙ length-statement_field xs in
    record {
      label = within.label;
      continued = omega (arith, few);
      short = omega (arith, within.short, put_length stmt field, long);
      characters = grown_characters stmt field within.characters within.folded within.inside (field_characters line.card good);
      folded = grown_folded stmt field within.characters within.folded within.inside;
      inside = grown_inside stmt field within.characters within.folded within.inside;
    }
