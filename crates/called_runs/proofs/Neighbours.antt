-- The equations of names that stand side by side.
use Rattle.std.proofs.Common.{◌≡◌, ℕ, zero, suc, List, [], ◌∷◌, Some, None, inl, inr, refl, ap, subst, ◌∙◌}
use Rattle.std.specs.List.{slice_get}
use Rattle.list_laws.specs.Member.{Member}
use Rattle.f77_tree.specs.declared.programs.NameInfo.{NameInfo}
use Rattle.f77_tree.specs.Places.{Equation, neighbours}
use Rattle.f77_tree.specs.Value.{dims_of, size_of}

module _ (names : List NameInfo) where
  -- the one begins where the other ends
  abbrev pub behind : (a b : ℕ) → Equation
  behind a b = record { from = a; to = b; distance = size_of (dims_of names a) }

  pub neighbours-at : (xs : List ℕ) (i a b : ℕ) → slice_get xs i ≡ Some a → slice_get xs (suc i) ≡ Some b → Member (neighbours names xs) (behind a b)
  neighbours-at [] i a b first second = let e : None ≡ Some a = first in absurd cc
  neighbours-at (x ∷ []) i a b first second = let e : None ≡ Some b = second in absurd cc
  neighbours-at (x ∷ y ∷ rest) zero a b first second =
      let e : Some x ≡ Some a = first in
      let f : Some y ≡ Some b = second in
      let one : x ≡ a = cc in
      let two : y ≡ b = cc in
      inl (ap (λ (n : ℕ). behind n y) one ∙ ap (λ (n : ℕ). behind a n) two)
  neighbours-at (x ∷ y ∷ rest) (suc i) a b first second = inr (neighbours-at (y ∷ rest) i a b first second)

  pub record IsNext (xs : List ℕ) (q : Equation) : Type 0 where
    pub at : ℕ
    pub first : slice_get xs at ≡ Some q.from
    pub second : slice_get xs (suc at) ≡ Some q.to
    pub far : q.distance ≡ size_of (dims_of names q.from)

  pub neighbours-from : (xs : List ℕ) (q : Equation) → Member (neighbours names xs) q → IsNext xs q
  neighbours-from [] q m = absurd m
  neighbours-from (x ∷ []) q m = absurd m
  neighbours-from (x ∷ y ∷ rest) q (inl same) = record {
    at = 0;
    first = ap (λ (e : Equation). Some e.from) same;
    second = ap (λ (e : Equation). Some e.to) same;
    far = subst (λ (e : Equation). e.distance ≡ size_of (dims_of names e.from)) same refl;
  }
  neighbours-from (x ∷ y ∷ rest) q (inr m) =
      let more = neighbours-from (y ∷ rest) q m in
      record { at = suc more.at; first = more.first; second = more.second; far = more.far }
