-- Lists that parts give one after another: what passes in them, and what stands in them twice.
use Rattle.std.proofs.Common.{◌≡◌, ℕ, ◌+◌, ◌<◌, Bool, true, false, ◌||◌, List, [], ◌∷◌, ◌++◌, length, get_or, map, take, drop, All, Contains, ⊎_elim, refl, sym, ap, subst, ◌∙◌, arith}
use Rattle.std.specs.List.{list_any, flat_map}
use Rattle.std.proofs.lemmas.List.{append-nil, append_assoc, take_more, at_drop_more}
use Rattle.std.proofs.lemmas.List.Concat.{flat_map-append}
use Rattle.std.proofs.lemmas.List.Elements.{All-nil, All-cons, All-head, All-tail, All-map, All-contains, Contains-get_or, Contains-append_left, Contains-append_right, Contains-append_cases, Contains-push_cases}
use Rattle.std.proofs.lemmas.List.Folds.{list_any-append, list_any_at}
use Rattle.std.proofs.lemmas.Bool.{true≢false, false_from_ne_true}
use Rattle.layout_rules.specs.Faults.{has_repeat}
use Rattle.layout_rules.proofs.FirstLine.{has_repeat-append}

-- some item of the lists passes
pub list_any-flat_map : {S A : Type 0} (test : A → Bool) (f : S → List A) (xs : List S) → list_any test (flat_map f xs) ≡ list_any (λ x. list_any test (f x)) xs
list_any-flat_map test f [] = refl
list_any-flat_map test f (x ∷ xs) = list_any-append test (f x) (flat_map f xs) ∙ ap (λ b. list_any test (f x) || b) (list_any-flat_map test f xs)

-- some image passes
pub list_any-map : {S A : Type 0} (test : A → Bool) (f : S → A) (xs : List S) → list_any test (map f xs) ≡ list_any (λ x. test (f x)) xs
list_any-map test f [] = refl
list_any-map test f (x ∷ xs) = ap (λ b. test (f x) || b) (list_any-map test f xs)

-- none passes where the whole list has none
pub list_any-none_at : {A : Type 0} (test : A → Bool) (xs : List A) (i : ℕ) (x : A) → i < length xs → x ≡ get_or xs i x → list_any test xs ≡ false → test x ≡ false
list_any-none_at {A} test xs i x lt is none =
    false_from_ne_true (test x) (λ passes. true≢false (sym (list_any_at test xs i x lt (ap test (sym is) ∙ passes)) ∙ none))

-- ---- parts of a list, one after another

module _ {S A : Type 0} (f : S → List A) (xs : List S) (i : ℕ) (x : S) (lt : i < length xs) (is : x ≡ get_or xs i x) where
  pub flat_map_taken : flat_map f (take (i + 1) xs) ≡ flat_map f (take i xs) ++ f x
  flat_map_taken =
      ap (flat_map f) (take_more xs i x lt)
      ∙ flat_map-append f (take i xs) (get_or xs i x ∷ [])
      ∙ ap (λ (y : S). flat_map f (take i xs) ++ (f y ++ [])) (sym is)
      ∙ ap (λ (ys : List A). flat_map f (take i xs) ++ ys) (append-nil (f x))

  pub flat_map_left : flat_map f (drop i xs) ≡ f x ++ flat_map f (drop (i + 1) xs)
  flat_map_left =
      at_drop_more (flat_map f) xs i x lt
      ∙ ap (λ (y : S). f y ++ flat_map f (drop (i + 1) xs)) (sym is)

  module _ (same : A → A → Bool) (seen : List A) where
    abbrev prefix : List A
    prefix = seen ++ flat_map f (take i xs)

    pub repeat_split : has_repeat same prefix (flat_map f (drop i xs)) ≡ (has_repeat same prefix (f x) || has_repeat same (seen ++ flat_map f (take (i + 1) xs)) (flat_map f (drop (i + 1) xs)))
    repeat_split =
        ap (has_repeat same prefix) flat_map_left
        ∙ has_repeat-append same prefix (f x) (flat_map f (drop (i + 1) xs))
        ∙ ap (λ (ys : List A). has_repeat same prefix (f x) || has_repeat same ys (flat_map f (drop (i + 1) xs))) (append_assoc seen (flat_map f (take i xs)) (f x) ∙ ap (λ (ys : List A). seen ++ ys) (sym flat_map_taken))

    pub repeat_found : has_repeat same prefix (f x) ≡ true → has_repeat same prefix (flat_map f (drop i xs)) ≡ true
    repeat_found found = repeat_split ∙ ap (λ b. b || has_repeat same (seen ++ flat_map f (take (i + 1) xs)) (flat_map f (drop (i + 1) xs))) found

    pub repeat_later : has_repeat same prefix (f x) ≡ false → has_repeat same prefix (flat_map f (drop i xs)) ≡ has_repeat same (seen ++ flat_map f (take (i + 1) xs)) (flat_map f (drop (i + 1) xs))
    repeat_later none = repeat_split ∙ ap (λ b. b || has_repeat same (seen ++ flat_map f (take (i + 1) xs)) (flat_map f (drop (i + 1) xs))) none

-- two lists of parts that give the same, with one part more
pub flat_map_both : {S T A : Type 0} (f : S → List A) (g : T → List A) (before : List S) (s : S) (xs : List T) (i : ℕ) (x : T) → i < length xs → x ≡ get_or xs i x → flat_map f before ≡ flat_map g (take i xs) → f s ≡ g x → flat_map f (before ++ s ∷ []) ≡ flat_map g (take (i + 1) xs)
flat_map_both {S} {T} {A} f g before s xs i x lt is same one =
    flat_map-append f before (s ∷ [])
    ∙ ap (λ (ys : List A). flat_map f before ++ ys) (append-nil (f s))
    ∙ ap (λ (ys : List A). ys ++ f s) same
    ∙ ap (λ (ys : List A). flat_map g (take i xs) ++ ys) one
    ∙ sym (flat_map_taken g xs i x lt is)

-- ---- what holds of each item

-- no item is bad where none of them is
pub none-bad : {W : Type 0} (bad : W → Bool) (ws : List W) → list_any bad ws ≡ false → All (λ w. bad w ≡ false) ws
none-bad bad ws none k d lt = false_from_ne_true (bad (get_or ws k d)) (λ h. true≢false (sym (list_any_at bad ws k d lt h) ∙ none))

-- what holds of what is read from each item
pub read_each : {W X : Type 0} (Q : W → Type 0) (bad : W → Bool) (of : W → X) (P : X → Type 0) → ((w : W) → Q w → bad w ≡ false → P (of w)) → (ws : List W) → All Q ws → list_any bad ws ≡ false → All P (map of ws)
read_each Q bad of P gives ws all few = All-map P of ws (λ k d lt. gives (get_or ws k d) (all k d lt) (none-bad bad ws few k d lt))

-- an item of a part is one of all
pub of-part : {S X : Type 0} (f : S → List X) (parts : List S) (part : S) (x : X) → Contains parts part → Contains (f part) x → Contains (flat_map f parts) x
of-part f [] part x among there = absurd (omega (arith, among.1))
of-part f (p ∷ parts) part x among there =
    ⊎_elim
    (λ here. Contains-append_left (f p) (flat_map f parts) x (subst (λ q. Contains (f q) x) (sym (⊎_elim (λ (none : Contains [] part). absurd (omega (arith, none.1))) (λ e. e) (Contains-push_cases [] p part here))) there))
    (λ later. Contains-append_right (f p) (flat_map f parts) x (of-part f parts part x later there))
    (Contains-append_cases (p ∷ []) parts part among)

pub before_map : {X A : Type 0} (P : A → Type 0) (f : X → A) (xs : List X) → All P (map f xs) → All (λ x. P (f x)) xs
before_map P f [] all = All-nil (λ x. P (f x))
before_map P f (x ∷ xs) all = All-cons (λ x. P (f x)) x xs (All-head P (f x) (map f xs) all) (before_map P f xs (All-tail P (f x) (map f xs) all))

-- what holds of each item of each part
pub each_part : {S X : Type 0} (P : X → Type 0) (items : S → List X) (parts : List S) → All P (flat_map items parts) → All (λ part. All P (items part)) parts
each_part P items parts all k d lt j e within = All-contains P (flat_map items parts) _ all (of-part items parts _ _ (Contains-get_or parts k d lt) (Contains-get_or _ j e within))
