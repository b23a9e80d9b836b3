-- Texts scanned character by character.
use Rattle.std.proofs.Common.{◌≡◌, ◌==◌, ℕ, suc, ◌+◌, ◌<◌, ◌≤◌, ◌&&◌, ◌||◌, not, max, Bool, true, false, List, [], ◌∷◌, length, drop, get_or, refl, sym, ap, subst, ◌∙◌, arith}
use Rattle.std.proofs.lemmas.Bool.{cond_both}
use Rattle.std.proofs.lemmas.List.{at_drop_more, at_drop_all}
use Rattle.f77_expr.specs.Piece.{Open, nothing_open, open_after, deepest_from, bracket_depth}
use Rattle.f77_parse.specs.Forms.{stands_free, stands_free_from}

-- a text of which so many characters are scanned
pub record IsMarked (text : List ℕ) (open_now : Open) (depth : ℕ) (equals comma : Bool) (i : ℕ) : Type 0 where
  pub deepest : bracket_depth text ≡ max depth (deepest_from open_now (drop i text))
  pub least : open_now.brackets ≤ depth
  pub room : open_now.brackets ≤ i
  pub has_equals : stands_free 61 text ≡ (equals || stands_free_from open_now 61 (drop i text))
  pub has_comma : stands_free 44 text ≡ (comma || stands_free_from open_now 44 (drop i text))

pub marks_begin : (text : List ℕ) → IsMarked text nothing_open 0 false false 0
marks_begin text = record { deepest = omega arith; least = omega arith; room = omega arith; has_equals = refl; has_comma = refl }

-- one character more opens one bracket at most
open_more : (open_now : Open) (c : ℕ) → (open_after open_now c).brackets ≤ suc open_now.brackets
open_more open_now c =
    let P : Open → Type 0 = λ later. later.brackets ≤ suc open_now.brackets in
    cond_both (c == 39) _ _ P (λ quote. omega arith) (λ no_quote.
    cond_both open_now.quoted _ _ P (λ quoted. omega arith) (λ not_quoted.
    cond_both (c == 40) _ _ P (λ opens. omega arith) (λ other.
    cond_both (c == 41) _ _ P (λ closes. omega arith) (λ none. omega arith))))

deepest_least : (open_now : Open) (text : List ℕ) → open_now.brackets ≤ deepest_from open_now text
deepest_least open_now [] = omega arith
deepest_least open_now (c ∷ text) = omega arith

or_assoc : (a b c : Bool) → (a || (b || c)) ≡ ((a || b) || c)
or_assoc true b c = refl
or_assoc false b c = refl

or_none : (a : Bool) → (a || false) ≡ a
or_none true = refl
or_none false = refl

flag_on : (text : List ℕ) (open_now next : Open) (wanted : ℕ) (flag : Bool) (i d : ℕ) → i < length text → next ≡ open_after open_now (get_or text i d) → stands_free wanted text ≡ (flag || stands_free_from open_now wanted (drop i text)) → stands_free wanted text ≡ ((flag || ((get_or text i d == wanted) && not open_now.quoted && (open_now.brackets == 0))) || stands_free_from next wanted (drop (i + 1) text))
flag_on text open_now next wanted flag i d lt is before =
    let c = get_or text i d in
    before
    ∙ ap (λ b. flag || b) (at_drop_more (λ rest. stands_free_from open_now wanted rest) text i d lt)
    ∙ or_assoc flag ((c == wanted) && not open_now.quoted && (open_now.brackets == 0)) (stands_free_from (open_after open_now c) wanted (drop (i + 1) text))
    ∙ ap (λ o. (flag || ((c == wanted) && not open_now.quoted && (open_now.brackets == 0))) || stands_free_from o wanted (drop (i + 1) text)) (sym is)

-- one character more
pub marks_go_on : (text : List ℕ) (open_now next : Open) (depth depth_now : ℕ) (equals comma equals_now comma_now : Bool) (i d : ℕ) → IsMarked text open_now depth equals comma i → i < length text → next ≡ open_after open_now (get_or text i d) → depth_now ≡ max depth next.brackets
    → equals_now ≡ (equals || ((get_or text i d == 61) && not open_now.quoted && (open_now.brackets == 0))) → comma_now ≡ (comma || ((get_or text i d == 44) && not open_now.quoted && (open_now.brackets == 0))) → IsMarked text next depth_now equals_now comma_now (i + 1)
marks_go_on text open_now next depth depth_now equals comma equals_now comma_now i d m lt is depth_is equals_is comma_is =
    let c = get_or text i d in
    let here : deepest_from open_now (drop i text) ≡ max open_now.brackets (deepest_from next (drop (i + 1) text)) =
    at_drop_more (λ rest. deepest_from open_now rest) text i d lt ∙ ap (λ o. max open_now.brackets (deepest_from o (drop (i + 1) text))) (sym is) in
    let more : next.brackets ≤ suc open_now.brackets = subst (λ (o : Open). o.brackets ≤ suc open_now.brackets) (sym is) (open_more open_now c) in
    let deepest = m.deepest in
    let least = m.least in
    let room = m.room in
    let beyond = deepest_least next (drop (i + 1) text) in
    record {
      deepest = omega arith;
      least = omega arith;
      room = omega arith;
      has_equals = flag_on text open_now next 61 equals i d lt is m.has_equals ∙ ap (λ b. b || stands_free_from next 61 (drop (i + 1) text)) (sym equals_is);
      has_comma = flag_on text open_now next 44 comma i d lt is m.has_comma ∙ ap (λ b. b || stands_free_from next 44 (drop (i + 1) text)) (sym comma_is);
    }

-- the whole text
pub marks_end : (text : List ℕ) (open_now : Open) (depth : ℕ) (equals comma : Bool) (i : ℕ) → IsMarked text open_now depth equals comma i → length text ≤ i → (depth ≡ bracket_depth text) × (equals ≡ stands_free 61 text) × (comma ≡ stands_free 44 text)
marks_end text open_now depth equals comma i m all =
    let none : deepest_from open_now (drop i text) ≡ open_now.brackets = at_drop_all (λ rest. deepest_from open_now rest) text i all in
    let deepest = m.deepest in
    let least = m.least in (
      omega arith,
      sym (m.has_equals ∙ ap (λ b. equals || b) (at_drop_all (λ rest. stands_free_from open_now 61 rest) text i all) ∙ or_none equals),
      sym (m.has_comma ∙ ap (λ b. comma || b) (at_drop_all (λ rest. stands_free_from open_now 44 rest) text i all) ∙ or_none comma),
    )
