-- Lists from their end on.
use Rattle.std.proofs.Common.{◌≡◌, ◌∙◌, ◌<◌, ◌+◌, ◌-◌, ◌++◌, ℕ, List, [], ◌∷◌, ap, append-nil, flat_map, get_or, length, reverse, subst, sym, take}
use Rattle.std.proofs.lemmas.Grind.{flat_map-append, put_two}
use Rattle.std.proofs.lemmas.List.{get_or-reverse, length-reverse, take_more}
use Rattle.std.specs.Fmt.{HasWritten}
use Rattle.graph_pictures.specs.FlowDot.{member_dot}

pub next_last : (xs : List ℕ) (k : ℕ) → k < length xs → take (k + 1) (reverse xs) ≡ take k (reverse xs) ++ get_or xs (length xs - 1 - k) 0 ∷ []
next_last xs k inside = take_more (reverse xs) k 0 (subst (λ n. k < n) (sym (length-reverse xs)) inside) ∙ ap (λ x. take k (reverse xs) ++ x ∷ []) (get_or-reverse xs k 0 inside)

next_member : (xs : List ℕ) (k : ℕ) → k < length xs → flat_map member_dot (take (k + 1) (reverse xs)) ≡ flat_map member_dot (take k (reverse xs)) ++ member_dot (get_or xs (length xs - 1 - k) 0)
next_member xs k inside = ap (flat_map member_dot) (next_last xs k inside) ∙ flat_map-append member_dot (take k (reverse xs)) (get_or xs (length xs - 1 - k) 0 ∷ []) ∙ ap (λ (l : List ℕ). flat_map member_dot (take k (reverse xs)) ++ l) (append-nil (member_dot (get_or xs (length xs - 1 - k) 0)))

-- one piece more
pub one_member_more : {W : Type 0} (took : W → List ℕ → W → Type 0) (xs : List ℕ) (k : ℕ) (f g h : _) → k < length xs → HasWritten took f (flat_map member_dot (take k (reverse xs))) g → HasWritten took g (member_dot (get_or xs (length xs - 1 - k) 0)) h → HasWritten took f (flat_map member_dot (take (k + 1) (reverse xs))) h
one_member_more took xs k f g h inside before next =
    put_two took f g h (flat_map member_dot (take k (reverse xs))) (member_dot (get_or xs (length xs - 1 - k) 0)) (flat_map member_dot (take (k + 1) (reverse xs))) before next (sym (next_member xs k inside))
