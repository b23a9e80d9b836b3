-- The piece of a text, and what is read from it.
use Rattle.std.proofs.Common.{◌≡◌, ◌==◌, ◌≢◌, ℕ, ◌≤◌, max, Bool, true, false, List, [], ◌∷◌, ◌++◌, length, drop, fold, All, Some, if◌then◌else◌, ◌&&◌, ◌||◌, not, slice_index_or, refl, sym, ap, ◌∙◌, arith, append-nil}
use Rattle.std.proofs.lemmas.Bool.{and_parts, not-true, eq-eqb, true≢false}
use Rattle.std.proofs.lemmas.List.Sums.{AllPass-from_list_all}
use Rattle.f77_tree.specs.Grammar.{Written, IsGrammatical, IsWritten, spelling}
use Rattle.f77_expr.specs.Piece.{Open, nothing_open, open_after, ends_piece, piece_from, piece, deepest_from}
use Rattle.f77_expr.specs.Reader.{expression_at}
use Rattle.f77_expr.proofs.EachRead.{if_true}
use Rattle.f77_expr.proofs.Followers.{is_follower}
use Rattle.f77_expr.proofs.Completeness.{read_at_start}
use Rattle.f77_expr.proofs.Quiet.{brackets_open, quiet_written}

-- the piece and what stands after it are the text
pub piece_and_rest : (open_now : Open) (text : List ℕ) → piece_from open_now text ++ drop (length (piece_from open_now text)) text ≡ text
piece_and_rest open_now [] = refl
piece_and_rest open_now (c ∷ more) = here (ends_piece open_now c) (piece_and_rest (open_after open_now c) more)
  where
    here : (b : Bool) → piece_from (open_after open_now c) more ++ drop (length (piece_from (open_after open_now c) more)) more ≡ more → (if b then [] else (c ∷ piece_from (open_after open_now c) more)) ++ drop (length (if b then [] else (c ∷ piece_from (open_after open_now c) more))) (c ∷ more) ≡ c ∷ more
    here true ih = refl
    here false ih = ap (λ (rest : List ℕ). c ∷ rest) ih

-- a character that ends a piece is one that follows an expression
follower_from : (open_now : Open) (c : ℕ) → ends_piece open_now c ≡ true → (c == 44 || c == 41 || c == 61 || c == 58) ≡ true
follower_from open_now c e = (and_parts (not open_now.quoted && (open_now.brackets == 0)) (c == 44 || c == 41 || c == 61 || c == 58) e).1

-- nothing stands after the piece, or what may follow an expression
pub after_piece : (open_now : Open) (text : List ℕ) → is_follower (drop (length (piece_from open_now text)) text) ≡ true
after_piece open_now [] = refl
after_piece open_now (c ∷ more) = here (ends_piece open_now c) refl (after_piece (open_after open_now c) more)
  where
    here : (b : Bool) → ends_piece open_now c ≡ b → is_follower (drop (length (piece_from (open_after open_now c) more)) more) ≡ true → is_follower (drop (length (if b then [] else (c ∷ piece_from (open_after open_now c) more))) (c ∷ more)) ≡ true
    here true e ih = follower_from open_now c e
    here false e ih = ih

-- what follows an expression ends the piece
pub follower_ends : (text : List ℕ) → is_follower text ≡ true → piece text ≡ []
follower_ends [] h = refl
follower_ends (c ∷ more) h = if_true (ends_piece nothing_open c) [] (c ∷ piece_from (open_after nothing_open c) more) h

-- an expression is the piece where what follows it ends the piece
pub piece_spelled : (w : Written) (text : List ℕ) → IsGrammatical w → piece text ≡ [] → piece (spelling w ++ text) ≡ spelling w
piece_spelled w text h ends =
    (quiet_written w h).passes 0 text (omega arith) ∙ ap (λ more. spelling w ++ more) ends ∙ append-nil (spelling w)

-- the piece that is an expression is what is read from the text
pub read_piece : (text : List ℕ) (w : Written) → IsWritten (piece text) w → expression_at 0 text ≡ Some (w, drop (length (piece text)) text)
read_piece text w is =
    let rest : List ℕ = drop (length (piece text)) text in
    let whole : spelling w ++ rest ≡ text = ap (λ prefix. prefix ++ rest) is.is ∙ piece_and_rest nothing_open text in
    ap (expression_at 0) (sym whole) ∙ read_at_start w rest is.grammatical (after_piece nothing_open text)

not_quote : (c : ℕ) → not (c == 39) ≡ true → c ≢ 39
not_quote c h e = absurd (true≢false (sym (eq-eqb c 39 e) ∙ not-true (c == 39) h))

-- no character of an expression is an apostrophe
pub no_apostrophe : (w : Written) → IsGrammatical w → All (λ c. c ≢ 39) (spelling w)
no_apostrophe w h k d inside =
    not_quote (slice_index_or (spelling w) k d) (AllPass-from_list_all (λ c. not (c == 39)) (spelling w) (quiet_written w h).no_apostrophe k d inside)

-- after an expression the same is open as before it
pub brackets_close : (w : Written) (open_now : Open) → IsGrammatical w → open_now.quoted ≡ false → fold open_after open_now (spelling w) ≡ open_now
brackets_close w open_now h unquoted =
    let same : open_now ≡ brackets_open open_now.brackets = ap (λ (q : Bool). record { quoted = q; brackets = open_now.brackets }) unquoted in
    ap (λ before. fold open_after before (spelling w)) same ∙ (quiet_written w h).comes_back open_now.brackets (omega arith) ∙ sym same

-- the greatest number of open brackets over one text and another after it
open_least : (open_now : Open) (text : List ℕ) → open_now.brackets ≤ deepest_from open_now text
open_least open_now [] = omega arith
open_least open_now (c ∷ more) = omega arith

pub deepest_both : (open_now : Open) (xs ys : List ℕ) → deepest_from open_now (xs ++ ys) ≡ max (deepest_from open_now xs) (deepest_from (fold open_after open_now xs) ys)
deepest_both open_now [] ys = omega (arith, open_least open_now ys)
deepest_both open_now (c ∷ xs) ys = omega (arith, deepest_both (open_after open_now c) xs ys)
