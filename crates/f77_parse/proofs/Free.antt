-- What stands free, outside brackets and character constants, in texts one after another.
use Rattle.std.proofs.Common.{◌≡◌, ◌==◌, ℕ, Bool, true, false, List, [], ◌∷◌, ◌++◌, fold, flat_map, ◌&&◌, ◌||◌, not, if◌then◌else◌, refl, sym, ap, ◌∙◌, arith, append_assoc, append-nil}
use Rattle.std.proofs.lemmas.Bool.{and_parts, and_from, and_right, not-true, eqb-true}
use Rattle.std.proofs.lemmas.List.Folds.{list_all-append}
use Rattle.std.specs.List.{list_all}
use Rattle.f77_tree.specs.Grammar.{Written, IsGrammatical, spelling}
use Rattle.f77_tree.specs.StatementGrammar.{character_text, characters_text}
use Rattle.f77_expr.specs.Piece.{Open, nothing_open, open_after, ends_piece, piece_from}
use Rattle.f77_expr.proofs.EachRead.{if_false}
use Rattle.f77_expr.proofs.Quiet.{IsQuiet, quiet_written}
use Rattle.f77_parse.specs.Forms.{stands_free_from, stands_free}

-- a character that ends a piece
abbrev pub is_mark : ℕ → Bool
is_mark c = c == 44 || c == 41 || c == 61 || c == 58

-- a scan for a character passes over a text where nothing is open
pub record PassesOver (c : ℕ) (xs : List ℕ) : Type 0 where
  pub passes : (text : List ℕ) → stands_free c (xs ++ text) ≡ stands_free c text

pub pass_both : (c : ℕ) (xs ys : List ℕ) → PassesOver c xs → PassesOver c ys → PassesOver c (xs ++ ys)
pass_both c xs ys past_xs past_ys = record { passes = λ text. ap (stands_free c) (append_assoc xs ys text) ∙ past_xs.passes (ys ++ text) ∙ past_ys.passes text }

-- it doesn't stand free in such a text
pub absent : (c : ℕ) (xs : List ℕ) → PassesOver c xs → stands_free c xs ≡ false
absent c xs past = ap (stands_free c) (sym (append-nil xs)) ∙ past.passes []

-- ---- expressions

module _ (c : ℕ) (mark : is_mark c ≡ true) where
  -- a mark that ends no piece doesn't stand free
  no_end : (open_now : Open) (d : ℕ) → ends_piece open_now d ≡ false → ((d == c) && not open_now.quoted && (open_now.brackets == 0)) ≡ false
  no_end open_now d ends = here (d == c) refl
    where
      both : (q r x : Bool) → x ≡ true → (q && r && x) ≡ false → (true && q && r) ≡ false
      both true true x is e = sym is ∙ e
      both true false x is e = refl
      both false r x is e = refl

      here : (b : Bool) → (d == c) ≡ b → (b && not open_now.quoted && (open_now.brackets == 0)) ≡ false
      here true e = both (not open_now.quoted) (open_now.brackets == 0) (is_mark d) (ap is_mark (eqb-true d c e) ∙ mark) ends
      here false e = refl

  -- a scan passes over what is one piece
  piece_passes : (open_now : Open) (xs text : List ℕ) → piece_from open_now xs ≡ xs → stands_free_from open_now c (xs ++ text) ≡ stands_free_from (fold open_after open_now xs) c text
  piece_passes open_now [] text e = refl
  piece_passes open_now (d ∷ xs) text e = here (ends_piece open_now d) refl e (λ more. piece_passes (open_after open_now d) xs text more)
    where
      here : (b : Bool) → ends_piece open_now d ≡ b → (if b then [] else (d ∷ piece_from (open_after open_now d) xs)) ≡ d ∷ xs → (piece_from (open_after open_now d) xs ≡ xs → stands_free_from (open_after open_now d) c (xs ++ text) ≡ stands_free_from (fold open_after (open_after open_now d) xs) c text) → stands_free_from open_now c (d ∷ (xs ++ text)) ≡ stands_free_from (fold open_after (open_after open_now d) xs) c text
      here true ends h ih = absurd cc
      here false ends h ih =
          let more : piece_from (open_after open_now d) xs ≡ xs = cc in
          ap (λ b. b || stands_free_from (open_after open_now d) c (xs ++ text)) (no_end open_now d ends) ∙ ih more

  pub quiet_passes : (xs : List ℕ) → IsQuiet 0 xs → PassesOver c xs
  quiet_passes xs quiet = record {
    passes = λ text.
        piece_passes nothing_open xs text (ap (piece_from nothing_open) (sym (append-nil xs)) ∙ quiet.passes 0 [] (omega arith) ∙ append-nil xs)
        ∙ ap (λ open_now. stands_free_from open_now c text) (quiet.comes_back 0 (omega arith));
  }

  pub expression_passes : (w : Written) → IsGrammatical w → PassesOver c (spelling w)
  expression_passes w h = quiet_passes (spelling w) (quiet_written w h)

-- ---- character constants

-- in a character constant
in_quotes : Open
in_quotes = record { quoted = true; brackets = 0 }

characters_pass : (c : ℕ) → (39 == c) ≡ false → (characters text : List ℕ) → stands_free_from in_quotes c (flat_map character_text characters ++ (39 ∷ text)) ≡ stands_free c text
unfolding in_quotes
characters_pass c other [] text = ap (λ b. (b && false && true) || stands_free c text) other
characters_pass c other (d ∷ characters) text =
    ap (stands_free_from in_quotes c) (append_assoc (character_text d) (flat_map character_text characters) (39 ∷ text))
    ∙ here (d == 39) refl (characters_pass c other characters text)
  where
    beyond : List ℕ
    beyond = flat_map character_text characters ++ (39 ∷ text)

    here : (b : Bool) → (d == 39) ≡ b → stands_free_from in_quotes c beyond ≡ stands_free c text → stands_free_from in_quotes c ((if b then 39 ∷ 39 ∷ [] else (d ∷ [])) ++ beyond) ≡ stands_free c text
    here true e ih =
        ap (λ b. (b && false && true) || ((b && true && true) || stands_free_from in_quotes c beyond)) other ∙ ih
    here false e ih =
        ap (λ b. (b && true) || stands_free_from (open_after in_quotes d) c beyond) (and_right (d == c) false refl)
        ∙ ap (λ open_now. stands_free_from open_now c beyond) (if_false (d == 39) (record { quoted = false; brackets = 0 }) in_quotes e) ∙ ih

pub constant_passes : (c : ℕ) → (39 == c) ≡ false → (characters : List ℕ) → PassesOver c (characters_text characters)
unfolding in_quotes
constant_passes c other characters = record {
  passes = λ text.
      ap (λ b. (b && true && true) || stands_free_from in_quotes c ((flat_map character_text characters ++ (39 ∷ [])) ++ text)) other
      ∙ ap (stands_free_from in_quotes c) (append_assoc (flat_map character_text characters) (39 ∷ []) text) ∙ characters_pass c other characters text;
}

-- ---- texts in which no equals sign stands at all

pub record HasNoEquals (xs : List ℕ) : Type 0 where
  pub each : list_all (λ d. not (d == 61)) xs ≡ true

pub unequal_both : (xs ys : List ℕ) → HasNoEquals xs → HasNoEquals ys → HasNoEquals (xs ++ ys)
unequal_both xs ys in_xs in_ys = record {
  each = list_all-append (λ d. not (d == 61)) xs ys ∙ and_from (list_all (λ d. not (d == 61)) xs) (list_all (λ d. not (d == 61)) ys) in_xs.each in_ys.each;
}

pub unequal_free : (xs : List ℕ) → HasNoEquals xs → stands_free 61 xs ≡ false
unequal_free xs h = from nothing_open xs h.each
  where
    from : (open_now : Open) (xs : List ℕ) → list_all (λ d. not (d == 61)) xs ≡ true → stands_free_from open_now 61 xs ≡ false
    from open_now [] all = refl
    from open_now (d ∷ xs) all =
        let both = and_parts (not (d == 61)) (list_all (λ d. not (d == 61)) xs) all in
        ap (λ b. (b && not open_now.quoted && (open_now.brackets == 0)) || stands_free_from (open_after open_now d) 61 xs) (not-true (d == 61) both.0)
        ∙ from (open_after open_now d) xs both.1
