-- Nodes, one after another.
use Rattle.std.proofs.Common.{◌≡◌, ℕ, ◌+◌, ◌<◌, ◌≤◌, List, [], ◌∷◌, ◌++◌, drop, flat_map, get_or, length, map, refl, ap, sym, ◌∙◌, append_assoc, codes}
use Rattle.std.proofs.lemmas.List.{at_drop_all, at_drop_more, map-append}
use Rattle.graph_json.specs.Json.{rows, separated}

pub nodes_end : {A B : Type 0} (f : A → B) (nodes : List A) (i : ℕ) → length nodes ≤ i → map f (drop i nodes) ≡ []
nodes_end f nodes i past = at_drop_all (map f) nodes i past

-- one node more was changed, and the rest is still to be
pub one_changed : {A B X : Type 0} (f : B → X) (g : A → X) (nodes : List A) (before after : List B) (i : ℕ) (n : A) (x : B) → i < length nodes → n ≡ get_or nodes i n → after ≡ before ++ x ∷ [] → f x ≡ g n → map f before ++ map g (drop i nodes) ≡ map g nodes → map f after ++ map g (drop (i + 1) nodes) ≡ map g nodes
one_changed f g nodes before after i n x more is added same kept =
    let rest = map g (drop (i + 1) nodes) in
    ap (λ xs. map f xs ++ rest) added
    ∙ ap (λ xs. xs ++ rest) (map-append f before (x ∷ []))
    ∙ append_assoc (map f before) (f x ∷ []) rest
    ∙ ap (λ y. map f before ++ (y ∷ rest)) (same ∙ ap g is)
    ∙ ap (λ xs. map f before ++ xs) (sym (at_drop_more (map g) nodes i n more))
    ∙ kept

-- ---- texts of values are those of what they are changed to

others_of : {A : Type 0} (between : List ℕ) (f : A → List ℕ) (xs : List A) → flat_map (λ y. between ++ f y) xs ≡ flat_map (λ t. between ++ t) (map f xs)
others_of between f [] = refl
others_of between f (x ∷ xs) = ap (λ t. (between ++ f x) ++ t) (others_of between f xs)

texts_of : {A : Type 0} (first between : List ℕ) (f : A → List ℕ) (xs : List A) → separated first between f xs ≡ separated first between (λ t. t) (map f xs)
texts_of first between f [] = refl
texts_of first between f (x ∷ xs) = ap (λ t. first ++ f x ++ t) (others_of between f xs)

pub rows_alike : {A B : Type 0} (f : A → List ℕ) (g : B → List ℕ) (xs : List A) (ys : List B) → map f xs ≡ map g ys → rows f xs ≡ rows g ys
rows_alike f g xs ys same =
    texts_of (codes "\n ") (codes ",\n ") f xs ∙ ap (separated (codes "\n ") (codes ",\n ") (λ t. t)) same ∙ sym (texts_of (codes "\n ") (codes ",\n ") g ys)
