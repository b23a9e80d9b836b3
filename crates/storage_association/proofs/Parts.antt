-- What is known of a storage after an equation joined two.
use Rattle.std.proofs.Common.{◌≡◌, ◌≢◌, ℕ, ◌<◌, ◌⊎◌, ⊎_elim, ℤ, ◌+ℤ◌, ◌-ℤ◌, ◌≤ℤ◌, Bool, true, false, cond, List, [], ◌∷◌, ◌++◌, length, Contains, Option, Some, None, MatchOption, refl, sym, ap, subst, ◌∙◌, arith}
use Rattle.std.specs.Int.{int_min}
use Rattle.std.proofs.lemmas.Int.{ints}
use Rattle.std.proofs.lemmas.Bool.{cases_eq, cases_Bool}
use Rattle.std.proofs.lemmas.List.Elements.{Contains-append_left, Contains-push_cases}
use Rattle.f77_tree.specs.Places.{Equation}
use Rattle.storage_association.specs.declared.forest.Node.{Node}
use Rattle.storage_association.specs.declared.storages.Part.{Part}
use Rattle.layout_rules.specs.Storage.{Spot, linked}
use Rattle.storage_association.specs.Trees.{IsForest, IsHung}
use Rattle.layout_rules.specs.Spots.{storage_at, distance_at, IsBelow}
use Rattle.storage_association.specs.Storages.{AreRight, IsLow, IsStart, IsPart, IsLinked, starts_right, part_if_right, moved_start, moved_part, joined_starts, joined_part}
use Rattle.layout_rules.proofs.Linking.{length-after, together-after, below-after, apart-after, meet-after, across-after}
use Rattle.layout_rules.proofs.Bounds.{min-cases, le-yes, le-no}

-- ---- two storages become one

module _ (old new : List Node) (spots : List Spot) (e : Equation) (firsts : List ℕ) (all : List Equation) (c r : ℕ) (o : ℤ) (forest : IsForest old spots) (hung : IsHung old new spots e c r o) (known : (x : ℕ) → Contains firsts x → x < length spots) (links : (e' : Equation) → Contains all e' → IsLinked spots e') (from : e.from < length spots) (to : e.to < length spots) where
  abbrev after : List Spot
  after = linked spots e

  abbrev more : List Equation
  more = all ++ e ∷ []

  c_in : c < length spots
  c_in = omega (arith, forest.all, hung.child_known)

  r_in : r < length spots
  r_in = omega (arith, forest.all, hung.root_known)

  -- the names of the new storage are those of the two
  either : (y : ℕ) → y < length spots → storage_at after r ≡ storage_at after y → (storage_at spots c ≡ storage_at spots y) ⊎ (storage_at spots r ≡ storage_at spots y)
  either y lt same = grind (arith, apart-after spots e r y r_in lt same, hung.ends, hung.apart)

  -- names of another storage were in it before
  others : (x y : ℕ) → x < length spots → y < length spots → storage_at spots x ≢ storage_at spots c → storage_at spots x ≢ storage_at spots r → storage_at after x ≡ storage_at after y → storage_at spots x ≡ storage_at spots y
  others x y i j nc nr same = grind (arith, apart-after spots e x y i j same, hung.ends)

  pub moves : (y : ℕ) (d : ℤ) → y < length spots → IsBelow spots y c d → IsBelow after y r (d +ℤ o)
  moves y d lt below =
      let there = below-after spots e y c d lt c_in below in
      let here = hung.below in
      record { together = here.together ∙ there.together; beyond = omega (arith, ints, there.beyond, here.beyond) }

  apart-of : (x y : ℕ) (d : ℤ) → d ≡ distance_at spots x -ℤ distance_at spots y → storage_at spots y ≡ storage_at spots x → IsBelow spots x y d
  apart-of x y d e' same = record { together = same; beyond = omega (arith, ints) }

  low-joined : (lr lc : ℤ) → IsLow spots r lr → IsLow spots c lc → IsLow after r (int_min lr (lc +ℤ o))
  low-joined lr lc is_lr is_lc =
      let least = min-cases lr (lc +ℤ o) in
      let below : (y : ℕ) → y < length after → storage_at after r ≡ storage_at after y → (distance_at after r +ℤ int_min lr (lc +ℤ o)) ≤ℤ distance_at after y = λ y lt same.
      let i : y < length spots = omega (arith, length-after spots e) in
      ⊎_elim
      (λ s. let m = moves y (distance_at spots y -ℤ distance_at spots c) i (apart-of y c (distance_at spots y -ℤ distance_at spots c) refl s) in omega (arith, ints, m.beyond, is_lc.least y i s))
      (λ s. let m = below-after spots e y r (distance_at spots y -ℤ distance_at spots r) i r_in (apart-of y r (distance_at spots y -ℤ distance_at spots r) refl s) in omega (arith, ints, m.beyond, is_lr.least y i s))
      (either y i same)
      in
      ⊎_elim
      (λ is. record { least = below; name = is_lr.name; known = omega (arith, length-after spots e, is_lr.known); reached = subst (λ (z : ℤ). IsBelow after is_lr.name r z) (sym is) (below-after spots e is_lr.name r lr is_lr.known r_in is_lr.reached) })
      (λ is. record { least = below; name = is_lc.name; known = omega (arith, length-after spots e, is_lc.known); reached = subst (λ (z : ℤ). IsBelow after is_lc.name r z) (sym is) (moves is_lc.name lc is_lc.known is_lc.reached) })
      least.2

  -- the first name of the only block
  start-moved : (sc : Option ℤ) → IsStart spots firsts r None → IsStart spots firsts c sc → IsStart after firsts r (moved_start sc o)
  start-moved None none_r none_c = λ x first same. ⊎_elim (λ s. none_c x first (sym s)) (λ s. none_r x first (sym s)) (either x (known x first) (sym same))
  start-moved (Some s) none_r at = record { name = at.name; first = at.first; there = moves at.name s (known at.name at.first) at.there }

  start-stays : (s : ℤ) → IsStart spots firsts r (Some s) → IsStart after firsts r (Some s)
  start-stays s at = record { name = at.name; first = at.first; there = below-after spots e at.name r s (known at.name at.first) r_in at.there }

  -- ---- another storage

  pub part-other : (x : ℕ) (part : Part) → x < length spots → storage_at spots x ≢ storage_at spots c → storage_at spots x ≢ storage_at spots r → IsPart spots firsts x part → IsPart after firsts x part
  part-other x part lt nc nr is =
      record {
        low = record {
          least = λ y i same.
              let j : y < length spots = omega (arith, length-after spots e) in
              let s = others x y lt j nc nr same in
              let m = below-after spots e y x (distance_at spots y -ℤ distance_at spots x) j lt (apart-of y x (distance_at spots y -ℤ distance_at spots x) refl s) in
              omega (arith, ints, m.beyond, is.low.least y j s);
          name = is.low.name;
          known = omega (arith, length-after spots e, is.low.known);
          reached = below-after spots e is.low.name x part.low is.low.known lt is.low.reached;
        };
        start = start-other part.start is.start;
      }
    where
      start-other : (s : Option ℤ) → IsStart spots firsts x s → IsStart after firsts x s
      start-other None none = λ y first same. none y first (sym (others x y lt (known y first) nc nr (sym same)))
      start-other (Some s) at = record { name = at.name; first = at.first; there = below-after spots e at.name x s (known at.name at.first) lt at.there }

  -- ---- right and wrong

  -- no two first names, one of each storage
  abbrev OneBlock : Type 0
  OneBlock = (x y : ℕ) → Contains firsts x → Contains firsts y → storage_at spots x ≡ storage_at spots c → storage_at spots y ≡ storage_at spots r → ⊥

  one-when-none : IsStart spots firsts r None → OneBlock
  one-when-none none = λ x y fx fy sx sy. none y fy sy

  one-when-no-child : IsStart spots firsts c None → OneBlock
  one-when-no-child none = λ x y fx fy sx sy. none x fx sx

  kept-after : AreRight spots firsts all → (e' : Equation) → Contains more e' → IsBelow after e'.to e'.from e'.distance
  kept-after right e' there =
      ⊎_elim
      (λ h. let l = links e' h in below-after spots e e'.to e'.from e'.distance l.second l.first (right.kept e' h))
      (λ (h : e ≡ e').
      let own : IsBelow after e.to e.from e.distance = record { together = meet-after spots e e.from e.to from to refl refl; beyond = let across = across-after spots e e.from e.to from to hung.apart refl refl in omega (arith, ints) } in
      subst (λ (x : Equation). IsBelow after x.to x.from x.distance) h own)
      (Contains-push_cases all e e' there)

  module _ (right : AreRight spots firsts all) (one : OneBlock) where
    firsts-apart : (x y : ℕ) → Contains firsts x → Contains firsts y → storage_at after x ≡ storage_at after y → x ≡ y
    firsts-apart x y fx fy same = grind (arith, apart-after spots e x y (known x fx) (known y fy) same, right.apart x y fx fy, one x y fx fy, one y x fy fx, hung.ends)

    -- a first name of the new storage begins with its lowest word
    begins-here : (start : Option ℤ) (low : ℤ) → IsStart after firsts r start → starts_right start low ≡ true → IsLow after r low → (x y : ℕ) → Contains firsts x → y < length after → storage_at after x ≡ storage_at after r → storage_at after x ≡ storage_at after y → distance_at after x ≤ℤ distance_at after y
    begins-here None low none fits is_low = λ x y fx lt here same. absurd (none x fx here)
    begins-here (Some s) low at fits is_low = λ x y fx lt here same.
        let e' : at.name ≡ x = firsts-apart at.name x at.first fx (sym at.there.together ∙ sym here) in
        let mine : distance_at after x ≡ distance_at after at.name = ap (λ z. distance_at after z) (sym e') in
        let le = le-yes s low fits in
        omega (arith, ints, at.there.beyond, is_low.least y lt (sym here ∙ same))

    begins-after : (start : Option ℤ) (low : ℤ) → IsStart after firsts r start → starts_right start low ≡ true → IsLow after r low → (x y : ℕ) → Contains firsts x → y < length after → storage_at after x ≡ storage_at after y → distance_at after x ≤ℤ distance_at after y
    begins-after start low is_start fits is_low x y fx lt same =
        let j : y < length spots = omega (arith, length-after spots e) in
        let x_in = known x fx in
        let together : storage_at after c ≡ storage_at after r = sym hung.below.together in
        ⊎_elim
        (λ h. begins-here start low is_start fits is_low x y fx lt (together-after spots e x c x_in c_in h ∙ together) same)
        (λ nc. ⊎_elim
        (λ h. begins-here start low is_start fits is_low x y fx lt (together-after spots e x r x_in r_in h) same)
        (λ nr.
        let s = others x y x_in j nc nr same in
        let m = below-after spots e y x (distance_at spots y -ℤ distance_at spots x) j x_in (apart-of y x (distance_at spots y -ℤ distance_at spots x) refl s) in
        omega (arith, ints, m.beyond, right.begins x y fx j s))
        (cases_eq (storage_at spots x) (storage_at spots r)))
        (cases_eq (storage_at spots x) (storage_at spots c))

    right-after : (start : Option ℤ) (low : ℤ) → IsStart after firsts r start → starts_right start low ≡ true → IsLow after r low → AreRight after firsts more
    right-after start low is_start fits is_low = record {
      kept = kept-after right;
      apart = firsts-apart;
      begins = begins-after start low is_start fits is_low;
    }

  -- wrong places stay wrong
  pub right-before : AreRight after firsts more → AreRight spots firsts all
  right-before right = record {
    kept = λ e' h.
        let l = links e' h in
        let now = right.kept e' (Contains-append_left all (e ∷ []) e' h) in
        let m = below-after spots e e'.to e'.from (distance_at spots e'.to -ℤ distance_at spots e'.from) l.second l.first (apart-of e'.to e'.from (distance_at spots e'.to -ℤ distance_at spots e'.from) refl l.together) in
        record { together = l.together; beyond = omega (arith, ints, now.beyond, m.beyond) };
    apart = λ x y fx fy same. right.apart x y fx fy (together-after spots e x y (known x fx) (known y fy) same);
    begins = λ x y fx lt same.
        let b = right.begins x y fx (omega (arith, length-after spots e)) (together-after spots e x y (known x fx) lt same) in
        let m = below-after spots e y x (distance_at spots y -ℤ distance_at spots x) lt (known x fx) (apart-of y x (distance_at spots y -ℤ distance_at spots x) refl same) in
        omega (arith, ints, m.beyond);
  }

  -- the block's first name begins with the lowest word
  fits-after : AreRight after firsts more → (start : Option ℤ) (low : ℤ) → IsStart after firsts r start → IsLow after r low → starts_right start low ≡ false → ⊥
  fits-after right None low none is_low early = absurd cc
  fits-after right (Some s) low at is_low early =
      let b = right.begins at.name is_low.name at.first (omega (arith, is_low.known)) (sym at.there.together ∙ is_low.reached.together) in
      le-no s low early (omega (arith, ints, at.there.beyond, is_low.reached.beyond))

  -- what an answer tells: the part of the new storage, or that the places are wrong
  abbrev Tells : Option Part → Type 0
  Tells answer = MatchOption answer (AreRight after firsts more → ⊥) (λ part. IsPart after firsts r part × AreRight after firsts more)

  if-right : AreRight spots firsts all → OneBlock → (part : Part) → IsPart after firsts r part → Tells (part_if_right part)
  if-right right one part is =
      ⊎_elim
      (λ h. subst (λ (b : Bool). Tells (cond b (Some part) None)) (sym h) (is, right-after right one part.start part.low is.start h is.low))
      (λ h. subst (λ (b : Bool). Tells (cond b (Some part) None)) (sym h) (λ wrong. fits-after wrong part.start part.low is.start is.low h))
      (cases_Bool (starts_right part.start part.low))

  tells-starts : AreRight spots firsts all → (sr sc : Option ℤ) (low : ℤ) → IsStart spots firsts r sr → IsStart spots firsts c sc → IsLow after r low → Tells (joined_starts sr (moved_start sc o) low)
  tells-starts right None sc low is_r is_c is_low = if-right right (one-when-none is_r) (record { low = low; start = moved_start sc o }) (record { low = is_low; start = start-moved sc is_r is_c })
  tells-starts right (Some s) None low is_r is_c is_low = if-right right (one-when-no-child is_c) (record { low = low; start = Some s }) (record { low = is_low; start = start-stays s is_r })
  tells-starts right (Some s) (Some t) low is_r is_c is_low = λ wrong.
      let same = wrong.apart is_c.name is_r.name is_c.first is_r.first (together-after spots e is_c.name c (known is_c.name is_c.first) c_in (sym is_c.there.together) ∙ sym hung.below.together ∙ together-after spots e r is_r.name r_in (known is_r.name is_r.first) is_r.there.together) in
      let storages : storage_at spots c ≡ storage_at spots r = is_c.there.together ∙ ap (λ z. storage_at spots z) same ∙ sym is_r.there.together in
      ⊎_elim (λ ends. hung.apart (sym ends.0 ∙ storages ∙ ends.1)) (λ ends. hung.apart (sym ends.1 ∙ sym storages ∙ ends.0)) hung.ends

  pub tells : AreRight spots firsts all → (part other : Part) → IsPart spots firsts r part → IsPart spots firsts c other → Tells (joined_part part (moved_part other o))
  tells right part other is_r is_c = tells-starts right part.start other.start (int_min part.low (other.low +ℤ o)) is_r.start is_c.start (low-joined part.low other.low is_r.low is_c.low)
