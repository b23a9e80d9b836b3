-- Lists in order, and the stages of nodes in a walk for components.
use Rattle.std.proofs.Common.{◌≡◌, ◌≢◌, ℕ, zero, suc, ◌+◌, ◌-◌, ◌<◌, ◌≤◌, ◌⊎◌, Bool, true, false, Some, None, List, [], ◌∷◌, ◌++◌, length, get_or, slice_get, set, take, drop, refl, sym, ap, ◌∙◌, subst, inl, inr, ⊎_elim, arith, get_or-set_same, get_or-set_other, length-set, length-append, append_assoc, add-one, ◌↔◌}
use Rattle.std.proofs.lemmas.Bool.{cases_lt, leb-true, le-leb}
use Rattle.std.proofs.lemmas.List.{get_or-drop, get_or_default, get_or_past, length-drop, take_all}
use Rattle.std.proofs.Math.Seq.{take-append_seam}
use Rattle.closed_walks.specs.Walk.{Holds}
use Rattle.closed_walks.specs.Component.{IsOrdered, IsLast, IsBound, IsBefore, IsSettled, stage_of, place, stands_from, IsFound, left, AreDone}
use Rattle.closed_walks.specs.declared.component_walk.Stage.{Stage}
use Rattle.closed_walks.specs.declared.component_walk.Stage.TheVariants.{New, Member, Done}
use Rattle.closed_walks.proofs.Walks.{Holds-left, Holds-right, Holds-append}
use Rattle.closed_walks.proofs.Touching.{Holds-at}
use Rattle.std.proofs.lemmas.Grind.{elements}

-- ---- lists

pub last_of : (xs : List ℕ) (x n : ℕ) → length xs ≡ suc n → slice_get xs n ≡ Some x → IsLast xs x
last_of [] x n len is = absurd (omega (arith, len))
last_of (y ∷ []) x zero len is = let same : Some y ≡ Some x = is in let e : y ≡ x = cc in record { prefix = []; parts = ap (λ z. z ∷ []) e }
last_of (y ∷ z ∷ zs) x zero len is = absurd (omega (arith, len))
last_of (y ∷ ys) x (suc n) len is =
    let r : IsLast ys x = last_of ys x n (omega (arith, len)) is in
    record { prefix = y ∷ r.prefix; parts = ap (λ zs. y ∷ zs) r.parts }

-- the last item that was read
pub last_read : (xs ys : List ℕ) (x : ℕ) → ys ≡ xs → Some x ≡ slice_get ys (length ys - 1) → IsLast xs x
last_read xs [] x same read = let none : Some x ≡ None = read in absurd cc
last_read xs (y ∷ ys) x same read = grind (arith, last_of (y ∷ ys) x (length ys))

-- what is left where the last item was taken off
pub popped : (xs new : List ℕ) (x n : ℕ) (l : IsLast xs x) → n ≡ length xs → new ≡ take (n - 1) xs → new ≡ l.prefix
popped xs new x n l len rest = grind (arith, length-append l.prefix (x ∷ []), take-append_seam l.prefix (x ∷ []))

pub Holds-last : (xs : List ℕ) (x y : ℕ) → Holds (xs ++ x ∷ []) y → Holds xs y ⊎ (y ≡ x)
Holds-last xs x y holds = ⊎_elim (λ (h : Holds xs y). inl h) (⊎_elim (λ (same : x ≡ y). inr (sym same)) (λ none. absurd none)) (Holds-append xs (x ∷ []) y holds)

pub Holds-new : (xs : List ℕ) (x : ℕ) → Holds (xs ++ x ∷ []) x
Holds-new xs x = Holds-right xs (x ∷ []) x (inl refl)

-- what is held stands at a place
pub record StandsAt (xs : List ℕ) (x : ℕ) : Type 0 where
  pub at : ℕ
  pub within : at < length xs
  pub is : get_or xs at 0 ≡ x

pub Holds-place : (xs : List ℕ) (x : ℕ) → Holds xs x → StandsAt xs x
Holds-place [] x holds = absurd holds
Holds-place (y ∷ ys) x (inl same) = record { at = 0; within = omega arith; is = same }
Holds-place (y ∷ ys) x (inr holds) = let s : StandsAt ys x = Holds-place ys x holds in record { at = suc s.at; within = omega (arith, s.within); is = s.is }

-- what stands at a place or after it
pub Holds-from : (xs : List ℕ) (k p : ℕ) → k ≤ p → p < length xs → Holds (drop k xs) (get_or xs p 0)
Holds-from xs zero p after within = Holds-at xs p within
Holds-from [] (suc k) p after within = absurd (omega (arith, within))
Holds-from (x ∷ xs) (suc k) zero after within = absurd (omega (arith, after))
Holds-from (x ∷ xs) (suc k) (suc p) after within = Holds-from xs k p (omega (arith, after)) (omega (arith, within))

pub record StandsFrom (xs : List ℕ) (k x : ℕ) : Type 0 where
  pub at : ℕ
  pub after : k ≤ at
  pub within : at < length xs
  pub is : get_or xs at 0 ≡ x

pub from-Holds : (xs : List ℕ) (k x : ℕ) → Holds (drop k xs) x → StandsFrom xs k x
from-Holds xs k x holds = grind (arith, Holds-place (drop k xs) x holds, length-drop k xs, get_or-drop k xs)

-- the part of a list from a place on, as it is taken
pub part_from : (xs ys : List ℕ) (k : ℕ) → ys ≡ xs → take (length ys - k) (drop k ys) ≡ drop k xs
part_from xs ys k same = take_all (length ys - k) (drop k ys) (omega (arith, length-drop k ys)) ∙ ap (drop k) same

pub Holds-of_last : (xs : List ℕ) (x : ℕ) → IsLast xs x → Holds xs x
Holds-of_last xs x l = subst (λ ys. Holds ys x) (sym l.parts) (Holds-new l.prefix x)

-- ---- order

module _ (less : ℕ → ℕ → Type 0) where
  pub IsOrdered-append : (xs ys : List ℕ) → IsOrdered less xs → IsOrdered less ys → ((x y : ℕ) → Holds xs x → Holds ys y → less x y) → IsOrdered less (xs ++ ys)
  IsOrdered-append [] ys ox oy across = oy
  IsOrdered-append (x ∷ xs) ys ox oy across = grind (arith, Holds-append xs ys, IsOrdered-append xs ys ox.1 oy)

  pub IsOrdered-prefix : (xs ys : List ℕ) → IsOrdered less (xs ++ ys) → IsOrdered less xs
  IsOrdered-prefix [] ys o = tt
  IsOrdered-prefix (x ∷ xs) ys o = (λ y h. o.0 y (Holds-left xs ys y h), IsOrdered-prefix xs ys o.1)

  pub IsOrdered-across : (xs ys : List ℕ) → IsOrdered less (xs ++ ys) → (x y : ℕ) → Holds xs x → Holds ys y → less x y
  IsOrdered-across [] ys o x y hx hy = absurd hx
  IsOrdered-across (a ∷ xs) ys o x y (inl same) hy = subst (λ b. less b y) same (o.0 y (Holds-right xs ys y hy))
  IsOrdered-across (a ∷ xs) ys o x y (inr hx) hy = IsOrdered-across xs ys o.1 x y hx hy

  pub IsOrdered-each : (xs : List ℕ) → ((x y : ℕ) → Holds xs x → Holds xs y → less x y) → IsOrdered less xs
  IsOrdered-each [] each = tt
  IsOrdered-each (x ∷ xs) each = (λ y h. each x y (inl refl) (inr h), IsOrdered-each xs (λ a b ha hb. each a b (inr ha) (inr hb)))

pub IsOrdered-along : (less other : ℕ → ℕ → Type 0) (xs : List ℕ) → ((x y : ℕ) → Holds xs x → Holds xs y → less x y → other x y) → IsOrdered less xs → IsOrdered other xs
IsOrdered-along less other [] along o = tt
IsOrdered-along less other (x ∷ xs) along o = (λ y h. along x y (inl refl) (inr h) (o.0 y h), IsOrdered-along less other xs (λ a b ha hb. along a b (inr ha) (inr hb)) o.1)

-- all bounds are at most the last
pub bounds_below : (bounds prefix : List ℕ) (last b : ℕ) → bounds ≡ prefix ++ last ∷ [] → IsOrdered (λ a b. a < b) bounds → Holds bounds b → b ≤ last
bounds_below bounds prefix last b parts o holds = ⊎_elim
    (λ (h : Holds prefix b). let l : b < last = IsOrdered-across (λ a b. a < b) prefix (last ∷ []) (subst (λ xs. IsOrdered (λ a b. a < b) xs) parts o) b last h (inl refl) in omega (arith, l))
    (λ (same : b ≡ last). omega (arith, same))
    (Holds-last prefix last b (subst (λ xs. Holds xs b) parts holds))

-- one segment is not after another, or a bound stands between
pub record IsBetween (bounds : List ℕ) (p q : ℕ) : Type 0 where
  pub bound : ℕ
  pub inside : Holds bounds bound
  pub below : bound ≤ p
  pub above : q < bound

pub cases_before : (bounds : List ℕ) (p q : ℕ) → IsBefore bounds p q ⊎ IsBetween bounds p q
cases_before [] p q = inl (λ b holds below. absurd holds)
cases_before (c ∷ bounds) p q = ⊎_elim
    (λ (before : IsBefore bounds p q). ⊎_elim
    (λ (low : c < suc q). inl (λ b holds below. ⊎_elim (λ (same : c ≡ b). omega (arith, same, low)) (λ h. before b h below) holds))
    (λ (high : suc q ≤ c). ⊎_elim
    (λ (past : p < c). inl (λ b holds below. ⊎_elim (λ (same : c ≡ b). absurd (omega (arith, same, past, below))) (λ h. before b h below) holds))
    (λ (here : c ≤ p). inr (record { bound = c; inside = inl refl; below = here; above = omega (arith, high) }))
    (cases_lt p c))
    (cases_lt c (suc q)))
    (λ (m : IsBetween bounds p q). inr (record { bound = m.bound; inside = inr m.inside; below = m.below; above = m.above }))
    (cases_before bounds p q)

-- ---- stages

pub Member-same : (p q : ℕ) → Member p ≡ Member q → p ≡ q
Member-same p q same = ap place same

pub Member-new : (s : Stage) (p : ℕ) → s ≡ New → s ≡ Member p → ⊥
Member-new s p new is = let e : New ≡ Member p = sym new ∙ is in absurd cc

pub Member-done : (s : Stage) (p : ℕ) → s ≡ Done → s ≡ Member p → ⊥
Member-done s p done is = let e : Done ≡ Member p = sym done ∙ is in absurd cc

pub New-done : (s : Stage) → s ≡ New → s ≡ Done → ⊥
New-done s new done = let e : New ≡ Done = sym new ∙ done in absurd cc

pub stands-place : (s : Stage) (first : ℕ) → stands_from s first ≡ true → (s ≡ Member (place s)) × (first ≤ place s)
stands-place h first is = grind (arith, leb-true)

pub stands-below : (s : Stage) (p first : ℕ) → s ≡ Member p → stands_from s first ≡ false → p < first
stands-below s p first is none = grind (arith, le-leb)

pub stands-not : (s : Stage) (p first : ℕ) → s ≡ Member p → p < first → stands_from s first ≡ false
stands-not s p first is low = grind (arith, leb-true)

-- a stage that was read
pub stage_read : (stages : List Stage) (v : ℕ) (s : Stage) → v < length stages → s ≡ get_or stages v s → stage_of stages v ≡ s
stage_read stages v s within read = get_or_default stages v New s within ∙ sym read

-- a member is a node
pub member_inside : (stages : List Stage) (v p : ℕ) → stage_of stages v ≡ Member p → v < length stages
member_inside stages v p is = grind (arith, Member-new, get_or_past)

-- what was found is a member or done
pub found_cases : (s : Stage) → IsFound s → (s ≡ Member (place s)) ⊎ (s ≡ Done)
found_cases h found = grind arith

-- where an edge leads that was settled
pub settled_cases : (bounds : List ℕ) (p : ℕ) (s : Stage) → IsSettled bounds p s → (s ≡ Done) ⊎ ((s ≡ Member (place s)) × IsBefore bounds p (place s))
settled_cases bounds p h h2 = grind arith

pub settled_member : (bounds : List ℕ) (p q : ℕ) (s : Stage) → s ≡ Member q → IsBefore bounds p q → IsSettled bounds p s
settled_member bounds p q s is before = subst (IsSettled bounds p) (sym is) before

pub settled_done : (bounds : List ℕ) (p : ℕ) (s : Stage) → s ≡ Done → IsSettled bounds p s
settled_done bounds p s is = subst (IsSettled bounds p) (sym is) tt

pub settled_along : (bounds other : List ℕ) (p : ℕ) (s : Stage) → ((q : ℕ) → s ≡ Member q → IsBefore bounds p q → IsBefore other p q) → IsSettled bounds p s → IsSettled other p s
settled_along bounds other p h along h2 = grind arith

pub stage_same : (stages : List Stage) (v : ℕ) (s : Stage) → v < length stages → stage_of (set stages v s) v ≡ s
stage_same stages v s within = get_or-set_same stages v s New within

pub stage_other : (stages : List Stage) (v u : ℕ) (s : Stage) → u ≢ v → stage_of (set stages v s) u ≡ stage_of stages u
stage_other stages v u s apart = get_or-set_other stages v u s New apart

-- ---- nodes that are done

pub AreDone-more : (nodes more : List ℕ) (on_cycle : Bool) (stages new_stages : List Stage) (marks new_marks : List Bool) (v : ℕ) → more ≡ nodes ++ v ∷ [] → v < length new_stages → v < length new_marks → AreDone nodes on_cycle stages marks new_stages new_marks → AreDone more on_cycle stages marks (set new_stages v Done) (set new_marks v on_cycle)
AreDone-more nodes more on_cycle stages new_stages marks new_marks v parts in_stages in_marks d =
    grind (arith, length-set new_stages, length-set new_marks, get_or-set_same new_stages, get_or-set_other new_stages, get_or-set_same new_marks, get_or-set_other new_marks, Holds-last nodes, Holds-right nodes, Holds-left nodes)

-- one item more of a list
pub take_one_more : (xs : List ℕ) (k : ℕ) → k < length xs → take (k + 1) xs ≡ take k xs ++ get_or xs k 0 ∷ []
take_one_more xs k within = grind (arith, elements, add-one)

-- ---- room

pub left_found : (room : ℕ) (stages : List Stage) (v p : ℕ) → v < length stages → stage_of stages v ≡ New → left room (set stages v (Member p)) + room ≡ left room stages
left_found room [] v p within new = absurd (omega (arith, within))
left_found room (New ∷ stages) zero p within new = refl
left_found room (Member q ∷ stages) zero p within new = let e : Member q ≡ New = new in absurd cc
left_found room (Done ∷ stages) zero p within new = let e : Done ≡ New = new in absurd cc
left_found room (New ∷ stages) (suc v) p within new = let rest = left_found room stages v p (omega arith) new in omega (arith, rest)
left_found room (Member q ∷ stages) (suc v) p within new = left_found room stages v p (omega arith) new
left_found room (Done ∷ stages) (suc v) p within new = left_found room stages v p (omega arith) new

pub left_done : (room : ℕ) (stages : List Stage) (v : ℕ) → left room (set stages v Done) ≤ left room stages
left_done room [] v = omega arith
left_done room (New ∷ stages) zero = omega arith
left_done room (Member q ∷ stages) zero = omega arith
left_done room (Done ∷ stages) zero = omega arith
left_done room (New ∷ stages) (suc v) = let rest = left_done room stages v in omega (arith, rest)
left_done room (Member q ∷ stages) (suc v) = left_done room stages v
left_done room (Done ∷ stages) (suc v) = left_done room stages v

-- ---- bounds that are taken off

-- what was taken off the list is above the place
pub record IsCut (old : List ℕ) (place : ℕ) (new : List ℕ) : Type 0 where
  pub cut : List ℕ
  pub parts : old ≡ new ++ cut
  pub high : (b : ℕ) → Holds cut b → place < b

pub IsCut-more : (old : List ℕ) (place : ℕ) (new prefix : List ℕ) (b : ℕ) → new ≡ prefix ++ b ∷ [] → place < b → IsCut old place new → IsCut old place prefix
IsCut-more old place new prefix b parts above c = grind (arith, elements, append_assoc)

module _ (old : List ℕ) (place : ℕ) (new : List ℕ) (o : IsOrdered (λ a b. a < b) old) (c : IsCut old place new) where
  pub IsCut-order : IsOrdered (λ a b. a < b) new
  IsCut-order = IsOrdered-prefix (λ a b. a < b) new c.cut (subst (λ xs. IsOrdered (λ a b. a < b) xs) c.parts o)

  -- where the last bound that is left isn't above the place, all that are left are the bounds up to it
  pub IsCut-end : ((b : ℕ) → Holds new b → b ≤ place) → (b : ℕ) → Holds new b ↔ IsBound old place b
  IsCut-end low b = grind (arith, Holds-left new c.cut b, Holds-append new c.cut b)

  pub last_low : (last : ℕ) → IsLast new last → last ≤ place → (b : ℕ) → Holds new b → b ≤ place
  last_low last l low b holds = let h : b ≤ last = bounds_below new l.prefix last b l.parts IsCut-order holds in omega (arith, h, low)
