-- Lines, and the depth of brackets.
use Rattle.std.proofs.Common.{◌≡◌, ◌==◌, ℕ, suc, ◌+◌, ◌-◌, ◌<◌, ◌≤◌, max, List, [], ◌∷◌, ◌++◌, length, get_or, take, drop, sym, ap, ◌∙◌, arith, append_assoc, append-nil, subst}
use Rattle.std.specs.Prelude.{flat_map}
use Rattle.std.specs.List.{range_with_len}
use Rattle.std.proofs.lemmas.Bool.{cond_both}
use Rattle.std.proofs.lemmas.List.{at_drop_more, take_all, length-drop}
use Rattle.std.proofs.lemmas.Grind.{flat_map-append}
use Rattle.list_laws.proofs.Ranges.{range_more}
use Rattle.f77_expr.specs.Piece.{Open, open_after, deepest_from, bracket_depth}
use Rattle.flat_programs.specs.Lines.{Typeset, columns, line_of}
use Rattle.flat_programs.proofs.TextLemmas.{three_texts}

-- what comes of one number more
pub flat_map_next : {X : Type 0} (f : ℕ → List X) (n : ℕ) → flat_map f (range_with_len 0 (n + 1)) ≡ flat_map f (range_with_len 0 n) ++ f n
flat_map_next f n = ap (flat_map f) (range_more n) ∙ flat_map-append f (range_with_len 0 n) (n ∷ []) ∙ ap (λ xs. flat_map f (range_with_len 0 n) ++ xs) (append-nil (f n))

-- one line more
pub lines_next : (t : Typeset) (line : ℕ) (begun old first second new m chars : List ℕ) → old ≡ begun ++ flat_map (line_of t) (range_with_len 0 line) → first ≡ old ++ m → second ≡ first ++ chars → new ≡ second ++ 10 ∷ [] → line_of t line ≡ m ++ chars ++ 10 ∷ [] → new ≡ begun ++ flat_map (line_of t) (range_with_len 0 (line + 1))
lines_next t line begun old first second new m chars is is-first is-second is-new same =
    three_texts old m chars (10 ∷ []) first second new (line_of t line) is-first is-second is-new same
    ∙ ap (λ s. s ++ line_of t line) is
    ∙ append_assoc begun (flat_map (line_of t) (range_with_len 0 line)) (line_of t line)
    ∙ ap (λ s. begun ++ s) (sym (flat_map_next (line_of t) line))

-- the last line has all that is left
pub rest_of_line : (text : List ℕ) (at : ℕ) → length text < at + columns → take (length text - at) (drop at text) ≡ take columns (drop at text)
rest_of_line text at short =
    let size : length (drop at text) ≡ length text - at = length-drop at text in
    take_all (length text - at) (drop at text) (omega (arith, size)) ∙ sym (take_all columns (drop at text) (omega (arith, size, short)))

-- ---- depth

deepest_least : (open_now : Open) (text : List ℕ) → open_now.brackets ≤ deepest_from open_now text
deepest_least open_now [] = omega arith
deepest_least open_now (c ∷ text) = omega arith

-- one character more opens one bracket at most
open_more : (open_now : Open) (c : ℕ) → (open_after open_now c).brackets ≤ suc open_now.brackets
open_more open_now c =
    let P : Open → Type 0 = λ later. later.brackets ≤ suc open_now.brackets in
    cond_both (c == 39) _ _ P (λ quote. omega arith) (λ no_quote.
    cond_both open_now.quoted _ _ P (λ quoted. omega arith) (λ not_quoted.
    cond_both (c == 40) _ _ P (λ opens. omega arith) (λ other.
    cond_both (c == 41) _ _ P (λ closes. omega arith) (λ none. omega arith))))

-- what a scan knows at the index i
pub record IsDeep (text : List ℕ) (open_now : Open) (depth i : ℕ) : Type 0 where
  pub deepest : max depth (deepest_from open_now (drop i text)) ≡ bracket_depth text
  pub least : open_now.brackets ≤ depth
  pub room : open_now.brackets ≤ i

pub deep_next : (text : List ℕ) (open_now next : Open) (depth i d new : ℕ) → IsDeep text open_now depth i → i < length text → next ≡ open_after open_now (get_or text i d) → new ≡ max depth next.brackets → IsDeep text next new (i + 1)
deep_next text open_now next depth i d new s lt is is-new =
    let c = get_or text i d in
    let beyond = drop (i + 1) text in
    let here : deepest_from open_now (drop i text) ≡ max open_now.brackets (deepest_from next beyond) = at_drop_more (λ rest. deepest_from open_now rest) text i d lt ∙ ap (λ o. max open_now.brackets (deepest_from o beyond)) (sym is) in
    let more : next.brackets ≤ suc open_now.brackets = subst (λ (o : Open). o.brackets ≤ suc open_now.brackets) (sym is) (open_more open_now c) in
    let after_least = deepest_least next beyond in
    let deepest = s.deepest in
    let room = s.room in
    let least = s.least in
    record {
      deepest = omega (arith, deepest, here, least, after_least, is-new);
      least = omega (arith, is-new);
      room = omega (arith, more, room);
    }
