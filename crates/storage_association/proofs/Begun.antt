-- The storages after one more block, and at the beginning.
use Rattle.std.proofs.Common.{◌≡◌, ◌≢◌, ℕ, ◌<◌, ◌^◌, ⊎_elim, ℤ, ◌+ℤ◌, ◌≤ℤ◌, Bool, true, false, cond, List, [], ◌∷◌, ◌++◌, length, set, replicate, Contains, Option, Some, None, MatchOption, refl, sym, ap, subst, ◌∙◌, arith}
use Rattle.std.specs.Int.{int_min}
use Rattle.std.proofs.lemmas.Int.{ints}
use Rattle.std.proofs.lemmas.Bool.{cases_eq, cases_Bool}
use Rattle.std.proofs.lemmas.List.{length-set, get_or-set_same, get_or-set_other, get_or-replicate, length-replicate}
use Rattle.std.proofs.lemmas.List.Elements.{Contains-push, Contains-append_left, Contains-push_cases}
use Rattle.f77_tree.specs.Places.{Equation}
use Rattle.storage_association.specs.declared.storages.Part.{Part}
use Rattle.storage_association.specs.declared.storages.Storages.{Storages}
use Rattle.layout_rules.specs.Storage.{Spot, alone, spots_by}
use Rattle.storage_association.specs.Trees.{IsRoot, IsForest}
use Rattle.layout_rules.specs.Spots.{storage_at, distance_at, IsBelow}
use Rattle.storage_association.specs.Storages.{AreRight, IsLow, IsStart, IsPart, part_at, no_part, starts_right, joined_starts, joined_part, AreParts, AreStorages}
use Rattle.layout_rules.proofs.Alone.{length-alone, distance-alone}
use Rattle.layout_rules.proofs.Lowest.{lowest-alone}
use Rattle.layout_rules.proofs.Bounds.{min-cases, le-yes, le-no}

module _ (spots : List Spot) (firsts : List ℕ) (all : List Equation) (r name : ℕ) (d : ℤ) (in_range : name < length spots) (there : IsBelow spots name r d) (fresh : Contains firsts name → ⊥) (known : (x : ℕ) → Contains firsts x → x < length spots) where
  abbrev more : List ℕ
  more = firsts ++ name ∷ []

  low-own : (low : ℤ) → IsLow spots r low → IsLow spots r (int_min low d)
  low-own low is =
      let m = min-cases low d in
      let least : (y : ℕ) → y < length spots → storage_at spots r ≡ storage_at spots y → (distance_at spots r +ℤ int_min low d) ≤ℤ distance_at spots y = λ y lt same. omega (arith, ints, is.least y lt same) in
      ⊎_elim
      (λ h. record { least = least; name = is.name; known = is.known; reached = subst (λ (z : ℤ). IsBelow spots is.name r z) (sym h) is.reached })
      (λ h. record { least = least; name = name; known = in_range; reached = subst (λ (z : ℤ). IsBelow spots name r z) (sym h) there })
      m.2

  pub fewer : AreRight spots more all → AreRight spots firsts all
  fewer right = record {
    kept = right.kept;
    apart = λ x y fx fy. right.apart x y (Contains-append_left firsts (name ∷ []) x fx) (Contains-append_left firsts (name ∷ []) y fy);
    begins = λ x y fx. right.begins x y (Contains-append_left firsts (name ∷ []) x fx);
  }

  more-right : IsStart spots firsts r None → (low : ℤ) → IsLow spots r low → d ≤ℤ low → AreRight spots firsts all → AreRight spots more all
  more-right none low is_low le right = record {
    kept = right.kept;
    apart = λ x y fx fy same. grind (arith, Contains-push_cases firsts name x fx, Contains-push_cases firsts name y fy, right.apart x y, none x, none y, there.together);
    begins = λ x y fx lt same. grind (arith, ints, Contains-push_cases firsts name x fx, right.begins x y, there.together, there.beyond, is_low.least y lt);
  }

  abbrev Tells : Option Part → Type 0
  Tells answer = MatchOption answer (AreRight spots more all → ⊥) (λ part. IsPart spots more r part × AreRight spots more all)

  too-late : (low : ℤ) → IsLow spots r low → starts_right (Some d) low ≡ false → AreRight spots more all → ⊥
  too-late low is early right =
      let b = right.begins name is.name (Contains-push firsts name) is.known (sym there.together ∙ is.reached.together) in
      le-no d low early (omega (arith, ints, there.beyond, is.reached.beyond))

  tells-starts : AreRight spots firsts all → (start : Option ℤ) (low : ℤ) → IsStart spots firsts r start → IsLow spots r low → Tells (joined_starts start (Some d) low)
  tells-starts right None low none is_low =
      let part : Part = record { low = low; start = Some d } in
      let own : IsPart spots more r part = record { low = is_low; start = record { name = name; first = Contains-push firsts name; there = there } } in
      ⊎_elim
      (λ h. subst (λ (b : Bool). Tells (cond b (Some part) None)) (sym h) (own, more-right none low is_low (le-yes d low h) right))
      (λ h. subst (λ (b : Bool). Tells (cond b (Some part) None)) (sym h) (λ wrong. too-late low is_low h wrong))
      (cases_Bool (starts_right (Some d) low))
  tells-starts right (Some t) low at is_low = λ wrong.
      let same = wrong.apart at.name name (Contains-append_left firsts (name ∷ []) at.name at.first) (Contains-push firsts name) (sym at.there.together ∙ there.together) in
      fresh (subst (λ (x : ℕ). Contains firsts x) same at.first)

  pub tells-own : AreRight spots firsts all → (part : Part) → IsPart spots firsts r part → Tells (joined_part part (record { low = d; start = Some d }))
  tells-own right part is = tells-starts right part.start (int_min part.low d) is.start (low-own part.low is.low)

  other-start : (x : ℕ) → storage_at spots x ≢ storage_at spots r → (start : Option ℤ) → IsStart spots firsts x start → IsStart spots more x start
  other-start x ne None none = λ y fy same. ⊎_elim (λ o. none y o same) (λ (e : name ≡ y). ne (sym same ∙ sym (ap (λ z. storage_at spots z) e) ∙ sym there.together)) (Contains-push_cases firsts name y fy)
  other-start x ne (Some s) at = record { name = at.name; first = Contains-append_left firsts (name ∷ []) at.name at.first; there = at.there }

  pub other-part : (x : ℕ) (part : Part) → storage_at spots x ≢ storage_at spots r → IsPart spots firsts x part → IsPart spots more x part
  other-part x part ne is = record { low = is.low; start = other-start x ne part.start is.start }

module _ (count : ℕ) (firsts : List ℕ) (all : List Equation) (s : Storages) (held : AreStorages count firsts all s) (name r : ℕ) (d : ℤ) (lt : name < count) (known_root : r < length s.forest.nodes.items) (root : IsRoot s.forest.nodes.items r) (there : IsBelow (spots_by count all) name r d) (fresh : Contains firsts name → ⊥) where
  abbrev spots : List Spot
  spots = spots_by count all

  abbrev with_name : List ℕ
  with_name = firsts ++ name ∷ []

  length-spots : length spots ≡ count
  length-spots = sym held.forest.all ∙ held.names

  in_spots : name < length spots
  in_spots = omega (arith, length-spots)

  firsts-in : (x : ℕ) → Contains firsts x → x < length spots
  firsts-in x h = omega (arith, length-spots, held.known x h)

  begun : (s' : Storages) → s'.forest.nodes.items ≡ s.forest.nodes.items → length s'.parts.items ≡ count → (s'.right ≡ true → AreParts s.forest.nodes.items s'.parts.items spots with_name all) → (s'.right ≡ false → AreRight spots with_name all → ⊥) → AreStorages count with_name all s'
  begun s' nodes parts right wrong = record {
    few = held.few;
    names = ap length nodes ∙ held.names;
    parts = parts;
    forest = rw nodes held.forest;
    lowest = held.lowest;
    linked = held.linked;
    known = λ x h. ⊎_elim (λ o. held.known x o) (λ (e : name ≡ x). rw (sym e) lt) (Contains-push_cases firsts name x h);
    right = λ h. rw nodes (right h);
    wrong = wrong;
  }

  pub begun-wrong : (s' : Storages) → s'.forest.nodes.items ≡ s.forest.nodes.items → s'.parts.items ≡ s.parts.items → s.right ≡ false → s'.right ≡ s.right → AreStorages count with_name all s'
  begun-wrong s' nodes parts wrong stays =
      begun s' nodes (ap length parts ∙ held.parts)
      (λ h. let impossible : true ≡ false = sym h ∙ stays ∙ wrong in absurd cc)
      (λ h right. held.wrong wrong (fewer spots firsts all r name d in_spots there fresh firsts-in right))

  told-own : s.right ≡ true → MatchOption (joined_part (part_at s.parts.items r) (record { low = d; start = Some d })) (AreRight spots with_name all → ⊥) (λ part. IsPart spots with_name r part × AreRight spots with_name all)
  told-own right = let old = held.right right in tells-own spots firsts all r name d in_spots there fresh firsts-in old.right (part_at s.parts.items r) (old.each r known_root root)

  pub begun-refused : (s' : Storages) → s'.forest.nodes.items ≡ s.forest.nodes.items → s'.parts.items ≡ s.parts.items → s.right ≡ true → s'.right ≡ false → joined_part (part_at s.parts.items r) (record { low = d; start = Some d }) ≡ None → AreStorages count with_name all s'
  begun-refused s' nodes parts right wrong answer =
      let now : AreRight spots with_name all → ⊥ = subst (λ (a : Option Part). MatchOption a (AreRight spots with_name all → ⊥) (λ part. IsPart spots with_name r part × AreRight spots with_name all)) answer (told-own right) in
      begun s' nodes (ap length parts ∙ held.parts)
      (λ h. let impossible : true ≡ false = sym h ∙ wrong in absurd cc)
      (λ h. now)

  begun-each : s.right ≡ true → (part : Part) → IsPart spots with_name r part → (x : ℕ) → x < length s.forest.nodes.items → IsRoot s.forest.nodes.items x → IsPart spots with_name x (part_at (set s.parts.items r part) x)
  begun-each right part is x i is_root =
      let in_parts : r < length s.parts.items = omega (arith, held.parts, held.names) in
      ⊎_elim
      (λ (same : x ≡ r). subst (λ (y : ℕ). IsPart spots with_name y (part_at (set s.parts.items r part) y)) (sym same) (rw (get_or-set_same s.parts.items r part no_part in_parts) is))
      (λ ne.
      let apart : storage_at spots x ≢ storage_at spots r = λ h. ne (held.forest.one_root x r i known_root is_root root h) in
      rw (get_or-set_other s.parts.items r x part no_part ne) (other-part spots firsts all r name d in_spots there fresh firsts-in x (part_at s.parts.items x) apart ((held.right right).each x i is_root)))
      (cases_eq x r)

  pub begun-right : (s' : Storages) → s'.forest.nodes.items ≡ s.forest.nodes.items → s.right ≡ true → s'.right ≡ s.right → (part : Part) → s'.parts.items ≡ set s.parts.items r part → joined_part (part_at s.parts.items r) (record { low = d; start = Some d }) ≡ Some part → AreStorages count with_name all s'
  begun-right s' nodes right stays part parts answer =
      let now : IsPart spots with_name r part × AreRight spots with_name all = subst (λ (a : Option Part). MatchOption a (AreRight spots with_name all → ⊥) (λ p. IsPart spots with_name r p × AreRight spots with_name all)) answer (told-own right) in
      begun s' nodes (ap length parts ∙ length-set s.parts.items r part ∙ held.parts)
      (λ h. rw parts (record { right = now.1; each = begun-each right part now.0 }))
      (λ h wrong. let impossible : true ≡ false = sym right ∙ sym stays ∙ h in absurd cc)

-- ---- the beginning

pub nothing-held : (count : ℕ) (s : Storages) → count < 2 ^ 32 → IsForest s.forest.nodes.items (alone count) → s.parts.items ≡ replicate count no_part → s.right ≡ true → AreStorages count [] [] s
nothing-held count s few forest parts right =
    let names : length s.forest.nodes.items ≡ count = forest.all ∙ length-alone count in
    let none : (x : ℕ) → Contains [] x → ⊥ = λ x h. omega (arith, h.1) in
    let no_equation : (e : Equation) → Contains [] e → ⊥ = λ e h. omega (arith, h.1) in
    record {
      few = few;
      names = names;
      parts = ap length parts ∙ length-replicate count no_part;
      forest = forest;
      lowest = lowest-alone count;
      linked = λ e h. absurd (no_equation e h);
      known = λ x h. absurd (none x h);
      right = λ h. record {
        right = record { kept = λ e h. absurd (no_equation e h); apart = λ x y fx fy same. absurd (none x fx); begins = λ x y fx lt same. absurd (none x fx) };
        each = λ x lt root. rw parts (rw (get_or-replicate count x no_part no_part (omega (arith, names))) (record {
          low = record {
            least = λ y i same.
                let xs = distance-alone count x (omega (arith, names)) in
                let ys = distance-alone count y (omega (arith, length-alone count)) in
                omega (arith, ints);
            name = x;
            known = omega (arith, forest.all);
            reached = record { together = refl; beyond = omega (arith, ints) };
          };
          start = λ y fy same. none y fy;
        }));
      };
      wrong = λ h r. let impossible : true ≡ false = sym right ∙ h in absurd cc;
    }
