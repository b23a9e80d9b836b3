-- Linked sequences: what a change of links elsewhere leaves, and how sequences are put together and taken apart.
use Rattle.std.proofs.Common.{◌≡◌, inl, inr, ℕ, ◌++◌, List, [], ◌∷◌, length, Option, Some, None, refl, sym, ap, ◌∙◌}
use Rattle.std.specs.Option.{option_or}
use Rattle.brackets.specs.Brackets.{Stands}
use Rattle.brackets.specs.Links.{IsChain, first_of, last_of, read}

-- the sequence that is read is the one that is linked
pub read_chain : (above below : ℕ → Option ℕ) (before : Option ℕ) (xs : List ℕ) (after : Option ℕ) → IsChain above below before xs after → read below (length xs) (first_of xs after) ≡ xs
read_chain above below before [] after chain = refl
read_chain above below before (x ∷ xs) after (up, down, rest) = ap (λ cell. x ∷ read below (length xs) cell) down ∙ ap (λ ys. x ∷ ys) (read_chain above below (Some x) xs after rest)

-- the links of each bracket of a sequence are as they were
abbrev pub AreSame : (above below above' below' : ℕ → Option ℕ) → List ℕ → Type 0
AreSame above below above' below' [] = Unit {0}
AreSame above below above' below' (x ∷ xs) = (above' x ≡ above x) × (below' x ≡ below x) × AreSame above below above' below' xs

pub chain_same : (above below above' below' : ℕ → Option ℕ) (before : Option ℕ) (xs : List ℕ) (after : Option ℕ) → AreSame above below above' below' xs → IsChain above below before xs after → IsChain above' below' before xs after
chain_same above below above' below' before [] after same chain = tt
chain_same above below above' below' before (x ∷ xs) after (same_up, same_down, more) (up, down, rest) = (same_up ∙ up, same_down ∙ down, chain_same above below above' below' (Some x) xs after more rest)

-- two sequences, one below the other
pub chain_joins : (above below : ℕ → Option ℕ) (before : Option ℕ) (xs ys : List ℕ) (after : Option ℕ) → IsChain above below before xs (first_of ys after) → IsChain above below (last_of xs before) ys after → IsChain above below before (xs ++ ys) after
chain_joins above below before [] ys after upper lower = lower
chain_joins above below before (x ∷ xs) ys after (up, down, rest) lower = (up, down ∙ first_joins xs ys after, chain_joins above below (Some x) xs ys after rest lower)
  where
    first_joins : (xs ys : List ℕ) (after : Option ℕ) → first_of xs (first_of ys after) ≡ first_of (xs ++ ys) after
    first_joins [] ys after = refl
    first_joins (x ∷ xs) ys after = refl

pub first_append : (xs ys : List ℕ) (after : Option ℕ) → first_of (xs ++ ys) after ≡ first_of xs (first_of ys after)
first_append [] ys after = refl
first_append (x ∷ xs) ys after = refl

pub last_append : (xs ys : List ℕ) (before : Option ℕ) → last_of (xs ++ ys) before ≡ last_of ys (last_of xs before)
last_append [] ys before = refl
last_append (x ∷ xs) ys before = last_append xs ys (Some x)

pub chain_upper : (above below : ℕ → Option ℕ) (before : Option ℕ) (xs ys : List ℕ) (after : Option ℕ) → IsChain above below before (xs ++ ys) after → IsChain above below before xs (first_of ys after)
chain_upper above below before [] ys after chain = tt
chain_upper above below before (x ∷ xs) ys after (up, down, rest) = (up, down ∙ first_append xs ys after, chain_upper above below (Some x) xs ys after rest)

pub chain_lower : (above below : ℕ → Option ℕ) (before : Option ℕ) (xs ys : List ℕ) (after : Option ℕ) → IsChain above below before (xs ++ ys) after → IsChain above below (last_of xs before) ys after
chain_lower above below before [] ys after chain = chain
chain_lower above below before (x ∷ xs) ys after (up, down, rest) = chain_lower above below (Some x) xs ys after rest

-- another cell above the first one
pub chain_below : (above below above' below' : ℕ → Option ℕ) (before before' : Option ℕ) (x : ℕ) (xs : List ℕ) (after : Option ℕ) → above' x ≡ before' → below' x ≡ below x → AreSame above below above' below' xs → IsChain above below before (x ∷ xs) after → IsChain above' below' before' (x ∷ xs) after
chain_below above below above' below' before before' x xs after new same_down more (up, down, rest) = (new, same_down ∙ down, chain_same above below above' below' (Some x) xs after more rest)

-- another cell below the last one
pub chain_above : (above below above' below' : ℕ → Option ℕ) (before : Option ℕ) (xs : List ℕ) (x : ℕ) (after after' : Option ℕ) → AreSame above below above' below' xs → above' x ≡ above x → below' x ≡ after' → IsChain above below before (xs ++ (x ∷ [])) after → IsChain above' below' before (xs ++ (x ∷ [])) after'
chain_above above below above' below' before [] x after after' more same_up new (up, down, rest) = (same_up ∙ up, new, tt)
chain_above above below above' below' before (y ∷ ys) x after after' (y_up, y_down, more) same_up new (up, down, rest) =
    (y_up ∙ up, y_down ∙ down ∙ first_append ys (x ∷ []) after ∙ sym (first_append ys (x ∷ []) after'), chain_above above below above' below' (Some y) ys x after after' more same_up new rest)

pub same_all : (above below above' below' : ℕ → Option ℕ) (xs : List ℕ) → ((y : ℕ) → Stands xs y → (above' y ≡ above y) × (below' y ≡ below y)) → AreSame above below above' below' xs
same_all above below above' below' [] each = tt
same_all above below above' below' (x ∷ xs) each = let here = each x (inl refl) in (here.0, here.1, same_all above below above' below' xs (λ y stands. each y (inr stands)))

-- the end of a sequence that another one stands above
last_is : (ys : List ℕ) (y : ℕ) (other : Option ℕ) → option_or (last_of ys (Some y)) other ≡ last_of ys (Some y)
last_is [] y other = refl
last_is (z ∷ zs) y other = last_is zs z other

pub last_or : (xs : List ℕ) (before : Option ℕ) → option_or (last_of xs None) before ≡ last_of xs before
last_or [] before = refl
last_or (y ∷ ys) before = last_is ys y before

pub first_or : (xs : List ℕ) (after : Option ℕ) → option_or (first_of xs None) after ≡ first_of xs after
first_or [] after = refl
first_or (y ∷ ys) after = refl
