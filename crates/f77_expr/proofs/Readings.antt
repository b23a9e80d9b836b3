-- A text that is read to its end is an expression of the grammar, and each expression has one reading.
use Rattle.std.proofs.Common.{◌≡◌, ◌==◌, ℕ, Bool, true, false, List, [], ◌∷◌, ◌++◌, Some, if◌then◌else◌, ◌||◌, refl, sym, ap, ◌∙◌, arith, append-nil}
use Rattle.f77_tree.specs.Grammar.{Written, IsGrammatical, IsWritten, spelling}
use Rattle.f77_expr.specs.Piece.{piece, piece_from, nothing_open, open_after}
use Rattle.f77_expr.specs.Reader.{expression_at}
use Rattle.f77_expr.proofs.EachRead.{same_read}
use Rattle.f77_expr.proofs.Followers.{is_follower}
use Rattle.f77_expr.proofs.Spelled.{expression_spells}
use Rattle.f77_expr.proofs.Soundness.{expression_sound}
use Rattle.f77_expr.proofs.Completeness.{read_at_start}

pub read-written : (text : List ℕ) (w : Written) → expression_at 0 text ≡ Some (w, []) → IsWritten text w
read-written text w e = record {
  grammatical = (expression_sound 0 text w [] (omega arith) e).0;
  is = sym (append-nil (spelling w)) ∙ expression_spells 0 text w [] e;
}

pub written-read : (text : List ℕ) (w : Written) → IsWritten text w → expression_at 0 text ≡ Some (w, [])
written-read text w is =
    ap (expression_at 0) (sym is.is ∙ sym (append-nil (spelling w))) ∙ read_at_start w [] is.grammatical refl

pub one-written : (text : List ℕ) (v w : Written) → IsWritten text v → IsWritten text w → v ≡ w
one-written text v w is_v is_w =
    (same_read v w [] [] (sym (written-read text v is_v) ∙ written-read text w is_w)).0

-- nothing of a text belongs to the piece only where it ends what stands before it
pub piece_ended : (text : List ℕ) → piece text ≡ [] → is_follower text ≡ true
piece_ended [] e = refl
piece_ended (c ∷ more) e = here (c == 44 || c == 41 || c == 61 || c == 58) e
  where
    here : (b : Bool) → (if b then [] else (c ∷ piece_from (open_after nothing_open c) more)) ≡ [] → b ≡ true
    here true h = refl
    here false h = absurd cc

-- a reading ends at one place
pub one-end : (v w : Written) (s t : List ℕ) → IsGrammatical v → IsGrammatical w → piece s ≡ [] → piece t ≡ [] → spelling v ++ s ≡ spelling w ++ t → (v ≡ w) × (s ≡ t)
one-end v w s t is_v is_w ends_s ends_t e =
    same_read v w s t (sym (read_at_start v s is_v (piece_ended s ends_s)) ∙ ap (expression_at 0) e ∙ read_at_start w t is_w (piece_ended t ends_t))
