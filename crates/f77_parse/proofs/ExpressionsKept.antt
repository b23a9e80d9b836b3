-- Expressions that are kept, by the piece that is one.
use Rattle.std.proofs.Common.{◌≡◌, ℕ, ◌<◌, ◌≤◌, ◌||◌, Bool, true, List, [], ◌∷◌, ◌++◌, length, drop, Some, None, Result, Err, if◌then◌else◌, refl, sym, ap, subst, ◌∙◌, arith, length-append}
use Rattle.f77_tree.specs.declared.statements.RawExpr.{RawExpr}
use Rattle.f77_tree.specs.Grammar.{Written, IsWritten, IsGrammatical, spelling, has_great_number}
use Rattle.f77_expr.specs.Piece.{nothing_open, piece}
use Rattle.f77_expr.specs.Parsing.{IsReadWhole, IsPieceRead}
use Rattle.f77_expr.specs.declared.parsed.ReadEnd.{ReadEnd}
use Rattle.f77_expr.specs.declared.parsed.ReadEnd.TheVariants.{NoForm, NoMemory}
use Rattle.f77_expr.specs.declared.parsed.ReadExpr.{ReadExpr}
use Rattle.f77_parse.specs.Answers.{Gives}
use Rattle.f77_expr.specs.Reader.{Reads, and_then_read, expression_at}
use Rattle.f77_expr.proofs.EachRead.{each_at, if_true}
use Rattle.f77_expr.proofs.Followers.{is_follower}
use Rattle.f77_expr.proofs.Pieces.{piece_and_rest, after_piece, follower_ends, piece_spelled, read_piece}
use Rattle.f77_expr.proofs.Descent.{readers_shorter}
use Rattle.f77_parse.specs.Parts.{expression_at_start, ends_expression}
use Rattle.f77_parse.specs.Keeping.{kept_expression, expression_kept}
use Rattle.f77_parse.proofs.PartExpressions.{expression_sound}

ends_from : (rest : List ℕ) → is_follower rest ≡ true → ends_expression rest ≡ true
ends_from [] h = refl
ends_from (c ∷ more) h = h

follows_from : (rest : List ℕ) → ends_expression rest ≡ true → is_follower rest ≡ true
follows_from [] h = refl
follows_from (c ∷ more) h = h

-- the piece of a text is no longer than the text
pub piece_short : (text : List ℕ) → length (piece text) ≤ length text
piece_short text = omega (arith, length-append (piece text) (drop (length (piece text)) text), ap length (piece_and_rest nothing_open text))

at_start : (text : List ℕ) (w : Written) → IsWritten (piece text) w → expression_at_start text ≡ Some (w, drop (length (piece text)) text)
at_start text w is =
    let rest : List ℕ = drop (length (piece text)) text in
    ap (and_then_read (λ w rest. if ends_expression rest then Some (w, rest) else None)) (read_piece text w is)
    ∙ if_true (ends_expression rest) (Some (w, rest)) None (ends_from rest (after_piece nothing_open text))

-- an expression that was read
pub expression_there : (bad : Bool) (text : List ℕ) (e : RawExpr) (great : Bool) (rest : List ℕ) (bad_now : Bool) → IsReadWhole (piece text) e great → rest ≡ drop (length (piece text)) text → bad_now ≡ (bad || great) → expression_kept bad text ≡ Some (e, bad_now, rest)
unfolding expression_kept
expression_there bad text e great rest bad_now is rest_is bad_is =
    let end : List ℕ = drop (length (piece text)) text in
    let w = is.written in
    ap (kept_expression bad) (at_start text w is.spells)
    ∙ ap (λ (k : RawExpr). Some (k, bad || has_great_number w, end)) (sym is.is_kept)
    ∙ ap (λ (g : Bool). Some (e, bad || g, end)) (sym is.is_great)
    ∙ ap (λ (b : Bool). Some (e, b, end)) (sym bad_is)
    ∙ ap (λ (r : List ℕ). Some (e, bad_now, r)) (sym rest_is)

-- and none
pub expression_none : (bad : Bool) (text : List ℕ) → ((w : Written) → IsWritten (piece text) w → ⊥) → expression_kept bad text ≡ None
unfolding expression_kept
expression_none bad text none = here (expression_at_start text) refl
  where
    here : (x : Reads Written) → expression_at_start text ≡ x → kept_expression bad x ≡ None
    here None e = refl
    here (Some (w, rest)) e =
        let is = each_at (λ w rest. IsGrammatical w × (spelling w ++ rest ≡ text) × (ends_expression rest ≡ true)) (expression_at_start text) (expression_sound text) w rest e in
        let prefix : piece text ≡ spelling w = ap piece (sym is.1) ∙ piece_spelled w rest is.0 (follower_ends rest (follows_from rest is.2)) in
        absurd (none w (record { grammatical = is.0; is = sym prefix }))

-- an error
pub piece_failed : (text again : List ℕ) → text ≡ again → (from : ℕ) (bad bad_now : Bool) (rest : List ℕ) (part : Result ReadExpr ReadEnd) (whole : Result RawExpr ReadEnd) (e : ReadEnd) → part ≡ Err e → whole ≡ Err e → IsPieceRead (piece again) from part → Gives (expression_kept bad text) whole bad_now rest
piece_failed text again same from bad bad_now rest part whole e part_is whole_is h =
    subst (λ (r : Result RawExpr ReadEnd). Gives (expression_kept bad text) r bad_now rest) (sym whole_is) (by e (subst (λ (r : Result ReadExpr ReadEnd). IsPieceRead (piece again) from r) part_is h))
  where
    by : (end : ReadEnd) → IsPieceRead (piece again) from (Err end) → Gives (expression_kept bad text) (Err end) bad_now rest
    by NoForm none = expression_none bad text (λ w is. none w (subst (λ (t : List ℕ). IsWritten (piece t) w) same is))
    by NoMemory free = tt

-- the piece that is an expression isn't empty
unfolding_shorter : (text : List ℕ) (w : Written) (rest : List ℕ) → expression_at 0 text ≡ Some (w, rest) → length rest < length text
unfolding expression_at
unfolding_shorter text w rest e = each_at (λ w rest. length rest < length text) (expression_at 0 text) ((readers_shorter _).expression 0 text) w rest e

pub piece_some : (text : List ℕ) (e : RawExpr) (great : Bool) → IsReadWhole (piece text) e great → length (drop (length (piece text)) text) < length text
piece_some text e great is = unfolding_shorter text is.written (drop (length (piece text)) text) (read_piece text is.written is.spells)
