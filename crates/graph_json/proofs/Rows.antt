-- Texts one after another, with words before each of them.
use Rattle.std.proofs.Common.{◌≡◌, ℕ, zero, suc, List, [], ◌∷◌, ◌++◌, Option, length, flat_map, sym, ap, subst, ◌∙◌, append_assoc, append-nil}
use Rattle.std.proofs.KnownBytes.{Appends-nil}
use Rattle.graph_json.specs.Json.{separated}
use Rattle.view_output.specs.Told.{Adds}
use Rattle.view_output.proofs.Pieces.{and_then}

-- the words before the value at this place
abbrev pub words_at : {W : Type 0} → (first between : W) → (place : ℕ) → W
words_at first between zero = first
words_at first between (suc place) = between

module _ {A : Type 0} (between : List ℕ) (text : A → List ℕ) where
  abbrev others : List A → List ℕ
  others xs = flat_map (λ y. between ++ text y) xs

  one_other : (xs : List A) (x : A) → others (xs ++ x ∷ []) ≡ others xs ++ (between ++ text x)
  one_other [] x = append-nil (between ++ text x)
  one_other (y ∷ ys) x = ap (λ t. (between ++ text y) ++ t) (one_other ys x) ∙ sym (append_assoc (between ++ text y) (others ys) (between ++ text x))

-- one more
one_more : {A : Type 0} (first between : List ℕ) (text : A → List ℕ) (xs : List A) (x : A) → separated first between text (xs ++ x ∷ []) ≡ separated first between text xs ++ words_at first between (length xs) ++ text x
one_more first between text [] x = append-nil (first ++ text x)
one_more first between text (y ∷ ys) x =
    ap (λ t. (first ++ text y) ++ t) (one_other between text ys x)
    ∙ sym (append_assoc (first ++ text y) (others between text ys) (between ++ text x))
    ∙ sym (append_assoc ((first ++ text y) ++ others between text ys) between (text x))

pub Adds_nothing : (told : Option (List ℕ)) → Adds told told []
Adds_nothing told = record { known = Appends-nil told }

-- the words at a place and its value are added to the values before it
pub one_row : {A : Type 0} (first between : List ℕ) (text : A → List ℕ) (xs ys : List A) (x : A) (a b c d : Option (List ℕ)) (words : List ℕ) → ys ≡ xs ++ x ∷ [] → words ≡ words_at first between (length xs) → Adds a b (separated first between text xs) → Adds b c words → Adds c d (text x) → Adds a d (separated first between text ys)
one_row first between text xs ys x a b c d words longer same before word value =
    let all : Adds a d ((separated first between text xs ++ words) ++ text x) = and_then (and_then before word) value in
    let whole : (separated first between text xs ++ words) ++ text x ≡ separated first between text ys =
    ap (λ w. (separated first between text xs ++ w) ++ text x) same ∙ sym (one_more first between text xs x) ∙ ap (separated first between text) (sym longer) in
    subst (Adds a d) whole all
