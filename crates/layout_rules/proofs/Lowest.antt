-- A storage has the index of its lowest name.
use Rattle.std.proofs.Common.{◌≡◌, ℕ, ◌<◌, ◌≤◌, ◌⊎◌, ⊎_elim, ℤ, pos, List, length, sym, ap, subst, ◌∙◌, arith}
use Rattle.std.proofs.lemmas.Int.{ints}
use Rattle.std.proofs.lemmas.Bool.Decides.{nat_tests}
use Rattle.f77_tree.specs.Places.{Equation}
use Rattle.layout_rules.specs.Storage.{Spot, spot_at, linked, alone}
use Rattle.layout_rules.specs.Spots.{storage_at, distance_at, AreLowest}
use Rattle.layout_rules.proofs.Linking.{label, shift, length-after, storage-linked, distance-linked}
use Rattle.layout_rules.proofs.Alone.{length-alone, storage-alone, distance-alone}

label-below : (a b s : ℕ) → label a b s ≤ s
label-below a b s = grind (arith, nat_tests)

label-twice : (a b s : ℕ) → label a b (label a b s) ≡ label a b s
label-twice a b s = grind (arith, nat_tests)

label-one : (a b s : ℕ) → (label a b s ≡ s) ⊎ ((label a b s ≡ a) ⊎ (label a b s ≡ b))
label-one a b s = grind (arith, nat_tests)

shift-label : (a b : Spot) (d : ℤ) (s : ℕ) → shift a b d (label a.storage b.storage s) ≡ pos 0
shift-label a b d s = grind (arith, nat_tests)

module _ (spots : List Spot) (e : Equation) (from : e.from < length spots) (to : e.to < length spots) (lowest : AreLowest spots) where
  abbrev A : ℕ
  A = storage_at spots e.from

  abbrev B : ℕ
  B = storage_at spots e.to

  record IsOld (s : ℕ) : Type 0 where
    own : storage_at spots s ≡ s
    begin : distance_at spots s ≡ pos 0

  old : (x : ℕ) → x < length spots → IsOld (storage_at spots x)
  old x lt = record { own = lowest.itself x lt; begin = lowest.begins x lt }

  old-label : (x : ℕ) → x < length spots → IsOld (label A B (storage_at spots x))
  old-label x lt =
      ⊎_elim
      (λ h. subst IsOld (sym h) (old x lt))
      (λ h. ⊎_elim (λ a. subst IsOld (sym a) (old e.from from)) (λ b. subst IsOld (sym b) (old e.to to)) h)
      (label-one A B (storage_at spots x))

  pub lowest-after : AreLowest (linked spots e)
  lowest-after =
      let inside : (x : ℕ) → x < length (linked spots e) → x < length spots = λ x lt. omega (arith, length-after spots e) in
      let low : (x : ℕ) → x < length spots → label A B (storage_at spots x) < length spots = λ x lt. omega (arith, label-below A B (storage_at spots x), lowest.below x lt) in
      record {
        below = λ x lt. let i = inside x lt in omega (arith, storage-linked spots e x i, label-below A B (storage_at spots x), lowest.below x i);
        itself = λ x lt.
            let i = inside x lt in
            let l = label A B (storage_at spots x) in
            let new = storage-linked spots e x i in
            let is = old-label x i in
            ap (λ y. storage_at (linked spots e) y) new ∙ storage-linked spots e l (low x i) ∙ ap (label A B) is.own ∙ label-twice A B (storage_at spots x) ∙ sym new;
        begins = λ x lt.
            let i = inside x lt in
            let l = label A B (storage_at spots x) in
            let is = old-label x i in
            let zero_shift : shift (spot_at spots e.from) (spot_at spots e.to) e.distance (storage_at spots l) ≡ pos 0 = ap (shift (spot_at spots e.from) (spot_at spots e.to) e.distance) is.own ∙ shift-label (spot_at spots e.from) (spot_at spots e.to) e.distance (storage_at spots x) in
            let there = distance-linked spots e l (low x i) in
            ap (λ y. distance_at (linked spots e) y) (storage-linked spots e x i) ∙ (omega (arith, ints, is.begin));
      }

pub lowest-alone : (n : ℕ) → AreLowest (alone n)
lowest-alone n =
    let inside : (x : ℕ) → x < length (alone n) → x < n = λ x lt. omega (arith, length-alone n) in
    record {
      below = λ x lt. omega (arith, storage-alone n x (inside x lt));
      itself = λ x lt. ap (λ y. storage_at (alone n) y) (storage-alone n x (inside x lt));
      begins = λ x lt. ap (λ y. distance_at (alone n) y) (storage-alone n x (inside x lt)) ∙ distance-alone n x (inside x lt);
    }
