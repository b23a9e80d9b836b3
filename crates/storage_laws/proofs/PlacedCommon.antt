-- COMMON alone never makes places wrong.
use Rattle.std.proofs.Common.{◌≡◌, ◌≢◌, ℕ, ◌<◌, ⊎_elim, pos, ◌-ℤ◌, ◌≤ℤ◌, Bool, true, false, cond, ◌==◌, List, [], ◌∷◌, ◌++◌, length, Some, None, refl, sym, ap, subst, ◌∙◌, arith, append-nil, Contains}
use Rattle.std.specs.List.{list_any}
use Rattle.std.proofs.lemmas.Int.{ints}
use Rattle.std.proofs.lemmas.Bool.Decides.{nat_tests}
use Rattle.std.proofs.lemmas.Bool.{or_parts}
use Rattle.std.proofs.lemmas.List.Elements.{Contains-push_cases}
use Rattle.f77_tree.specs.Places.{Equation}
use Rattle.layout_rules.specs.Storage.{Spot, Standing, linked, alone, last_standing}
use Rattle.layout_rules.specs.Standings.{firsts_of}
use Rattle.layout_rules.specs.Spots.{storage_at, distance_at, IsBelow}
use Rattle.layout_rules.proofs.Alone.{length-alone, storage-alone}
use Rattle.layout_rules.proofs.Linking.{length-after, below-after, apart-after, meet-after, across-after}
use Rattle.layout_rules.proofs.StandingLemmas.{firsts-push, last-none, last-some, any-push, firsts-stand, stands-each, IsStanding}
use Rattle.storage_laws.proofs.PlacedLinks.{IsEquation, AreEquations}

-- whether a name is one of these
abbrev pub stands_in : List Standing → ℕ → Bool
stands_in xs k = list_any (λ a. a.name == k) xs

-- ---- the places that some names of COMMON give

-- A name that stands nowhere is alone in its storage, no two blocks share one, and each begins with its first name.
pub record AreApart (count : ℕ) (xs : List Standing) (all : List Equation) (spots : List Spot) : Type 0 where
  pub names : length spots ≡ count
  pub loose : (k y : ℕ) → k < count → y < count → stands_in xs k ≡ false → storage_at spots y ≡ storage_at spots k → y ≡ k
  pub ends : AreEquations count all
  pub kept : (e : Equation) → Contains all e → IsBelow spots e.to e.from e.distance
  pub apart : (s t : Standing) → Contains xs s → Contains xs t → storage_at spots s.name ≡ storage_at spots t.name → s.block ≡ t.block
  pub begins : (x y : ℕ) → Contains (firsts_of xs) x → x < count → y < count → storage_at spots x ≡ storage_at spots y → distance_at spots x ≤ℤ distance_at spots y

pub nothing-apart : (count : ℕ) → AreApart count [] [] (alone count)
nothing-apart count = record {
  names = length-alone count;
  loose = λ k y i j none same. sym (storage-alone count y j) ∙ same ∙ storage-alone count k i;
  ends = λ e h. absurd (omega (arith, h.1));
  kept = λ e h. absurd (omega (arith, h.1));
  apart = λ s t h. absurd (omega (arith, h.1));
  begins = λ x y h. absurd (omega (arith, h.1));
}

module _ (count : ℕ) (xs : List Standing) (all : List Equation) (spots : List Spot) (s : Standing) (known : (t : Standing) → Contains xs t → t.name < count) (lt : s.name < count) (fresh : stands_in xs s.name ≡ false) (old : AreApart count xs all spots) where
  abbrev more : List Standing
  more = xs ++ s ∷ []

  -- no name that stands is in its storage
  not-with : (k : ℕ) → k < count → stands_in xs k ≡ true → storage_at spots k ≡ storage_at spots s.name → ⊥
  not-with k i stands same =
      let e : k ≡ s.name = old.loose s.name k lt i fresh same in
      let impossible : true ≡ false = sym stands ∙ ap (stands_in xs) e ∙ fresh in
      absurd cc

  not-standing : (t : Standing) → Contains xs t → storage_at spots t.name ≡ storage_at spots s.name → ⊥
  not-standing t h same = not-with t.name (known t h) (stands-each xs t h) same

  not-more : (k : ℕ) → stands_in more k ≡ false → (stands_in xs k ≡ false) × ((s.name == k) ≡ false)
  not-more k none = or_parts (stands_in xs k) (s.name == k) (sym (any-push k xs s) ∙ none)

  -- the first name of a block
  pub apart-first : last_standing s.block xs ≡ None → AreApart count more all spots
  apart-first none =
      let firsts : firsts_of more ≡ firsts_of xs ++ s.name ∷ [] = firsts-push [] xs s ∙ ap (λ b. firsts_of xs ++ cond b [] (s.name ∷ [])) (last-none s.block xs none) in
      record {
        names = old.names;
        loose = λ k y i j out same. old.loose k y i j (not-more k out).0 same;
        ends = old.ends;
        kept = old.kept;
        apart = λ a b at_a at_b same. grind (arith, Contains-push_cases xs s a at_a, Contains-push_cases xs s b at_b, old.apart a b, not-standing a, not-standing b);
        begins = λ x y h i j same. grind (arith, ints, Contains-push_cases (firsts_of xs) s.name x (subst (λ (ks : List ℕ). Contains ks x) firsts h), old.begins x y, old.loose s.name y lt j fresh);
      }

  -- a name after another one of its block
  module _ (b : ℕ) (last : IsStanding xs s.block b) (size : ℕ) where
    abbrev link : Equation
    link = record { from = b; to = s.name; distance = pos size }

    abbrev after : List Spot
    after = linked spots link

    b_in : b < count
    b_in = subst (λ (k : ℕ). k < count) last.name_is (known last.standing last.stands)

    b_stands : stands_in xs b ≡ true
    b_stands = ap (stands_in xs) (sym last.name_is) ∙ stands-each xs last.standing last.stands

    inside : (x : ℕ) → x < count → x < length spots
    inside x i = omega (arith, old.names)

    differ : storage_at spots b ≢ storage_at spots s.name
    differ same = not-with b b_in b_stands same

    -- names of one storage were in one, or one of them is the new name
    loose-after : (k y : ℕ) → k < count → y < count → stands_in more k ≡ false → storage_at after y ≡ storage_at after k → y ≡ k
    loose-after k y i j out same = grind (arith, apart-after spots link y k (inside y j) (inside k i) same, old.loose k y i j (not-more k out).0, old.loose k s.name i lt (not-more k out).0, old.loose k b i b_in (not-more k out).0, (not-more k out).0, (not-more k out).1, b_stands, nat_tests)

    own-after : IsBelow after s.name b (pos size)
    own-after =
        let across = across-after spots link b s.name (inside b b_in) (inside s.name lt) differ refl refl in
        record { together = meet-after spots link b s.name (inside b b_in) (inside s.name lt) refl refl; beyond = omega (arith, ints) }

    kept-after : (e : Equation) → Contains (all ++ link ∷ []) e → IsBelow after e.to e.from e.distance
    kept-after e h =
        ⊎_elim
        (λ o. let i = old.ends e o in below-after spots link e.to e.from e.distance (inside e.to i.second) (inside e.from i.first) (old.kept e o))
        (λ (new : link ≡ e). subst (λ (z : Equation). IsBelow after z.to z.from z.distance) new own-after)
        (Contains-push_cases all link e h)

    ends-after : AreEquations count (all ++ link ∷ [])
    ends-after e h =
        ⊎_elim
        (λ o. old.ends e o)
        (λ (new : link ≡ e). subst (IsEquation count) new (record { first = b_in; second = lt }))
        (Contains-push_cases all link e h)

    -- a name of COMMON that now shares a storage with the new one is of its block
    with-new : (t : Standing) → Contains xs t → storage_at after t.name ≡ storage_at after s.name → t.block ≡ s.block
    with-new t h same = grind (arith, apart-after spots link t.name s.name (inside t.name (known t h)) (inside s.name lt) same, old.apart t last.standing h last.stands, last.name_is, last.block_is, not-standing t h)

    both-old : (t u : Standing) → Contains xs t → Contains xs u → storage_at after t.name ≡ storage_at after u.name → t.block ≡ u.block
    both-old t u h g same = grind (arith, apart-after spots link t.name u.name (inside t.name (known t h)) (inside u.name (known u g)) same, old.apart t u h g, not-standing t h, not-standing u g)

    apart-more : (t u : Standing) → Contains more t → Contains more u → storage_at after t.name ≡ storage_at after u.name → t.block ≡ u.block
    apart-more t u at_t at_u same = grind (arith, Contains-push_cases xs s t at_t, Contains-push_cases xs s u at_u, both-old t u, with-new t, with-new u)

    begins-after : (x y : ℕ) → Contains (firsts_of xs) x → x < count → y < count → storage_at after x ≡ storage_at after y → distance_at after x ≤ℤ distance_at after y
    begins-after x y first i j same =
        let stands : stands_in xs x ≡ true = firsts-stand [] xs x first in
        ⊎_elim
        (λ z.
        let below = below-after spots link y x (distance_at spots y -ℤ distance_at spots x) (inside y j) (inside x i) (record { together = z; beyond = omega (arith, ints) }) in
        omega (arith, ints, below.beyond, old.begins x y first i j z))
        (λ z. ⊎_elim
        (λ ab.
        let e : y ≡ s.name = old.loose s.name y lt j fresh ab.1 in
        let d : distance_at spots y ≡ distance_at spots s.name = ap (λ k. distance_at spots k) e in
        let across = across-after spots link x y (inside x i) (inside y j) differ ab.0 ab.1 in
        omega (arith, ints, old.begins x b first i b_in ab.0))
        (λ ba. absurd (not-with x i stands ba.0))
        z)
        (apart-after spots link x y (inside x i) (inside y j) same)

    pub apart-later : last_standing s.block xs ≡ Some b → AreApart count more (all ++ link ∷ []) after
    apart-later some =
        let firsts : firsts_of more ≡ firsts_of xs = firsts-push [] xs s ∙ ap (λ z. firsts_of xs ++ cond z [] (s.name ∷ [])) (last-some s.block xs b some) ∙ append-nil (firsts_of xs) in
        record {
          names = length-after spots link ∙ old.names;
          loose = loose-after;
          ends = ends-after;
          kept = kept-after;
          apart = apart-more;
          begins = λ x y h i j same. begins-after x y (subst (λ (ks : List ℕ). Contains ks x) firsts h) i j same;
        }
