-- Pieces of texts, as a scan finds them.
use Rattle.std.proofs.Common.{◌≡◌, ◌==◌, ℕ, suc, ◌+◌, ◌<◌, ◌≤◌, false, if◌then◌else◌, max, List, [], ◌∷◌, ◌++◌, length, get_or, take, drop, sym, ap, ◌∙◌, arith, append_assoc, subst}
use Rattle.std.proofs.lemmas.Bool.{cond_both}
use Rattle.std.proofs.lemmas.List.{take_more, at_drop_more}
use Rattle.f77_expr.specs.Piece.{Open, open_after, ends_piece, piece_from, piece, deepest_from, bracket_depth}

-- what a scan knows at the index i
pub record IsScanned (text : List ℕ) (open_now : Open) (depth i : ℕ) : Type 0 where
  pub whole : piece text ≡ take i text ++ piece_from open_now (drop i text)
  pub deepest : bracket_depth (piece text) ≡ max depth (deepest_from open_now (piece_from open_now (drop i text)))
  pub least : open_now.brackets ≤ depth
  pub room : open_now.brackets ≤ i

-- brackets that are open are counted
deepest_least : (open_now : Open) (text : List ℕ) → open_now.brackets ≤ deepest_from open_now text
deepest_least open_now [] = omega arith
deepest_least open_now (c ∷ text) = omega arith

-- one character more opens one bracket at most
open_more : (open_now : Open) (c : ℕ) → (open_after open_now c).brackets ≤ suc open_now.brackets
open_more open_now c =
    let P : Open → Type 0 = λ later. later.brackets ≤ suc open_now.brackets in
    cond_both (c == 39) _ _ P (λ quote. omega arith) (λ no_quote.
    cond_both open_now.quoted _ _ P (λ quoted. omega arith) (λ not_quoted.
    cond_both (c == 40) _ _ P (λ opens. omega arith) (λ other.
    cond_both (c == 41) _ _ P (λ closes. omega arith) (λ none. omega arith))))

-- else it goes on
pub scan_goes_on : (text : List ℕ) (open_now next : Open) (depth i d : ℕ) → IsScanned text open_now depth i → i < length text → ends_piece open_now (get_or text i d) ≡ false → next ≡ open_after open_now (get_or text i d) → IsScanned text next (max next.brackets depth) (i + 1)
scan_goes_on text open_now next depth i d s lt goes_on is =
    let c = get_or text i d in
    let beyond = piece_from next (drop (i + 1) text) in
    let here : piece_from open_now (drop i text) ≡ c ∷ beyond =
    at_drop_more (λ rest. piece_from open_now rest) text i d lt ∙ ap (λ b. if b then [] else (c ∷ piece_from (open_after open_now c) (drop (i + 1) text))) goes_on ∙ ap (λ o. c ∷ piece_from o (drop (i + 1) text)) (sym is) in
    let more : next.brackets ≤ suc open_now.brackets = subst (λ (o : Open). o.brackets ≤ suc open_now.brackets) (sym is) (open_more open_now c) in
    let deepest : bracket_depth (piece text) ≡ max depth (max open_now.brackets (deepest_from next beyond)) =
    s.deepest ∙ ap (λ p. max depth (deepest_from open_now p)) here ∙ ap (λ o. max depth (max open_now.brackets (deepest_from o beyond))) (sym is) in
    let room = s.room in
    let least = s.least in
    let after_least = deepest_least next beyond in
    record {
      whole = s.whole ∙ ap (λ p. take i text ++ p) here ∙ sym (append_assoc (take i text) (c ∷ []) beyond) ∙ ap (λ p. p ++ beyond) (sym (take_more text i d lt));
      deepest = omega arith;
      least = omega arith;
      room = omega arith;
    }
