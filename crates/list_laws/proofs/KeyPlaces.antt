-- A key's place among keys, by the first key that is equal to it.
use Rattle.std.proofs.Common.{◌≡◌, ℕ, zero, suc, Bool, true, false, ◌+◌, ◌<◌, ◌≤◌, List, [], ◌∷◌, length, get_or, refl, ap, arith}
use Rattle.std.specs.List.{list_any, position_or_len}

module _ {X : Type 0} (eq : X → X → Bool) (none : X) (x : X) where
  pub record IsFound (xs : List X) : Type 0 where
    pub within : position_or_len (eq x) xs < length xs
    pub equal : eq x (get_or xs (position_or_len (eq x) xs) none) ≡ true

  pub record IsAbsent (xs : List X) : Type 0 where
    pub last : position_or_len (eq x) xs ≡ length xs
    pub others : (k : ℕ) → k < length xs → eq x (get_or xs k none) ≡ false

  get_or_next : (y : X) (ys : List X) (k : ℕ) → get_or (y ∷ ys) (1 + k) none ≡ get_or ys k none
  get_or_next y ys k = let one : 1 + k ≡ suc k = omega arith in ap (λ j. get_or (y ∷ ys) j none) one

  found_more : (y : X) (ys : List X) → (list_any (eq x) ys ≡ true → IsFound ys) → list_any (eq x) (y ∷ ys) ≡ true → (b : Bool) → eq x y ≡ b → IsFound (y ∷ ys)
  found_more y ys more any true p = record { within = rw p (omega arith); equal = rw p p }
  found_more y ys more any false p =
      let rest = more (rw p at any) in
      record { within = rw p (let w = rest.within in omega (arith, w)); equal = rw (p, get_or_next y ys (position_or_len (eq x) ys)) rest.equal }

  pub found : (xs : List X) → list_any (eq x) xs ≡ true → IsFound xs
  found [] any = let e : false ≡ true = any in absurd cc
  found (y ∷ ys) any = found_more y ys (found ys) any (eq x y) refl

  others_more : (y : X) (ys : List X) → eq x y ≡ false → ((k : ℕ) → k < length ys → eq x (get_or ys k none) ≡ false) → (k : ℕ) → k < length (y ∷ ys) → eq x (get_or (y ∷ ys) k none) ≡ false
  others_more y ys first rest zero h = first
  others_more y ys first rest (suc k) h = rest k (omega (arith, h))

  absent_more : (y : X) (ys : List X) → (list_any (eq x) ys ≡ false → IsAbsent ys) → list_any (eq x) (y ∷ ys) ≡ false → (b : Bool) → eq x y ≡ b → IsAbsent (y ∷ ys)
  absent_more y ys more any true p = let e : true ≡ false = rw p at any in absurd cc
  absent_more y ys more any false p =
      let rest = more (rw p at any) in
      record { last = rw p (let l = rest.last in omega (arith, l)); others = others_more y ys p rest.others }

  pub absent : (xs : List X) → list_any (eq x) xs ≡ false → IsAbsent xs
  absent [] any = record { last = refl; others = λ k h. absurd (omega (arith, h)) }
  absent (y ∷ ys) any = absent_more y ys (absent ys) any (eq x y) refl

  place_by : (xs : List X) (b : Bool) → list_any (eq x) xs ≡ b → position_or_len (eq x) xs ≤ length xs
  place_by xs true p = let w = (found xs p).within in omega (arith, w)
  place_by xs false p = let l = (absent xs p).last in omega (arith, l)

  pub place_within : (xs : List X) → position_or_len (eq x) xs ≤ length xs
  place_within xs = place_by xs (list_any (eq x) xs) refl
