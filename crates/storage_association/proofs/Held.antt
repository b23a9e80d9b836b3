-- The storages after one more equation.
use Rattle.std.proofs.Common.{◌≡◌, ◌≢◌, ℕ, ◌<◌, ◌^◌, ⊎_elim, ℤ, ◌+ℤ◌, true, false, List, [], ◌∷◌, ◌++◌, length, get_or, set, Contains, Option, Some, None, MatchOption, refl, sym, ap, subst, ◌∙◌, arith, w64, FitsSigned}
use mir.Val.{SFits}
use Rattle.std.proofs.lemmas.Int.{ints, to_z-of_z}
use Rattle.std.proofs.lemmas.Bool.{cases_eq}
use Rattle.std.proofs.lemmas.List.{length-set, get_or-set_same, get_or-set_other, get_or_read}
use Rattle.std.proofs.lemmas.List.Sums.{fold_push}
use Rattle.std.proofs.lemmas.List.Elements.{Contains-push, Contains-append_left, Contains-push_cases}
use Rattle.f77_tree.specs.Places.{Equation}
use Rattle.storage_association.specs.declared.forest.Node.{Node}
use Rattle.storage_association.specs.declared.forest.Joined.{Joined}
use Rattle.storage_association.specs.declared.forest.Joined.TheVariants.{Same, Hung}
use Rattle.storage_association.specs.declared.storages.Part.{Part}
use Rattle.storage_association.specs.declared.storages.Storages.{Storages}
use Rattle.layout_rules.specs.Storage.{Spot, linked, alone, spots_by}
use Rattle.storage_association.specs.Trees.{IsRoot, IsHung, IsJoined}
use Rattle.layout_rules.specs.Spots.{storage_at, IsBelow}
use Rattle.storage_association.specs.Storages.{AreRight, IsStart, IsPart, IsLinked, part_at, no_part, joined_part, moved_part, AreParts, AreStorages}
use Rattle.layout_rules.proofs.Linking.{length-after, together-after, meet-after}
use Rattle.storage_association.proofs.Forests.{below-close}
use Rattle.storage_association.proofs.Joining.{linked-same, close-fits, again}
use Rattle.layout_rules.proofs.Lowest.{lowest-after}
use Rattle.storage_association.proofs.Parts.{moves, part-other, right-before, tells}

module _ {count : ℕ} {firsts : List ℕ} {all : List Equation} {s : Storages} (held : AreStorages count firsts all s) (e : Equation) (first : e.from < length s.parts.items) (second : e.to < length s.parts.items) where
  abbrev before : List Spot
  before = spots_by count all

  abbrev after : List Spot
  after = linked before e

  abbrev more : List Equation
  more = all ++ e ∷ []

  next : spots_by count more ≡ after
  next = fold_push linked (alone count) all e

  length-before : length before ≡ count
  length-before = sym held.forest.all ∙ held.names

  from_in : e.from < length before
  from_in = omega (arith, length-before, held.parts)

  to_in : e.to < length before
  to_in = omega (arith, length-before, held.parts)

  known : (x : ℕ) → Contains firsts x → x < length before
  known x h = omega (arith, length-before, held.known x h)

  links : (e' : Equation) → Contains more e' → IsLinked after e'
  links e' h =
      ⊎_elim
      (λ old. let l = held.linked e' old in record { first = omega (arith, length-after before e, l.first); second = omega (arith, length-after before e, l.second); together = together-after before e e'.from e'.to l.first l.second l.together })
      (λ (new : e ≡ e').
      let own : IsLinked after e = record { first = omega (arith, length-after before e, from_in); second = omega (arith, length-after before e, to_in); together = meet-after before e e.from e.to from_in to_in refl refl } in
      subst (λ (x : Equation). IsLinked after x) new own)
      (Contains-push_cases all e e' h)

  -- the storages afterwards, from their forest and parts
  held-after : (s' : Storages) (answer : Joined) → IsJoined s.forest.nodes.items s'.forest.nodes.items before e answer → length s'.parts.items ≡ count → (s'.right ≡ true → AreParts s'.forest.nodes.items s'.parts.items after firsts more) → (s'.right ≡ false → AreRight after firsts more → ⊥) → AreStorages count firsts more s'
  held-after s' answer joined parts right wrong = record {
    few = held.few;
    names = joined.forest.all ∙ length-after before e ∙ length-before;
    parts = parts;
    forest = rw next joined.forest;
    lowest = rw next (lowest-after before e from_in to_in held.lowest);
    linked = λ e' h. rw next (links e' h);
    known = held.known;
    right = λ h. rw next (right h);
    wrong = λ h r. wrong h (rw next at r);
  }

  -- ---- an equation within a storage

  pub held-unkept : (s' : Storages) (there : ℤ) → IsJoined s.forest.nodes.items s'.forest.nodes.items before e (Same there) → s'.parts.items ≡ s.parts.items → s'.right ≡ false → there ≢ e.distance → AreStorages count firsts more s'
  held-unkept s' there joined parts right ne =
      held-after s' (Same there) joined (ap length parts ∙ held.parts)
      (λ h. let impossible : true ≡ false = sym h ∙ right in absurd cc)
      (λ h r.
      let now = r.kept e (Contains-push all e) in
      let is : after ≡ before = linked-same before e joined.answer.below.together in
      let then : IsBelow before e.to e.from e.distance = rw is at now in
      ne (omega (arith, ints, then.beyond, joined.answer.below.beyond)))

  kept-within : (there : ℤ) → IsBelow before e.to e.from there → there ≡ e.distance → AreRight before firsts all → AreRight before firsts more
  kept-within there below same right = record {
    kept = λ e' h. ⊎_elim (λ old. right.kept e' old) (λ (new : e ≡ e'). subst (λ (x : Equation). IsBelow before x.to x.from x.distance) new (subst (λ (d : ℤ). IsBelow before e.to e.from d) same below)) (Contains-push_cases all e e' h);
    apart = right.apart;
    begins = right.begins;
  }

  fewer : AreRight before firsts more → AreRight before firsts all
  fewer right = record { kept = λ e' h. right.kept e' (Contains-append_left all (e ∷ []) e' h); apart = right.apart; begins = right.begins }

  pub held-kept : (s' : Storages) (there : ℤ) → IsJoined s.forest.nodes.items s'.forest.nodes.items before e (Same there) → s'.parts.items ≡ s.parts.items → s'.right ≡ s.right → there ≡ e.distance → AreStorages count firsts more s'
  held-kept s' there joined parts right same =
      let is : after ≡ before = linked-same before e joined.answer.below.together in
      let nodes : s'.forest.nodes.items ≡ s.forest.nodes.items = joined.answer.unchanged in
      held-after s' (Same there) joined (ap length parts ∙ held.parts)
      (λ h.
      let old = held.right (sym right ∙ h) in
      let now : AreParts s.forest.nodes.items s.parts.items before firsts more = record { right = kept-within there joined.answer.below same old.right; each = old.each } in
      rw (nodes, parts, is) now)
      (λ h r.
      let then : AreRight before firsts more = rw is at r in
      held.wrong (sym right ∙ h) (fewer then))

  -- ---- two storages become one

  module _ {nodes : List Node} (c r : ℕ) (o : ℤ) (joined : IsJoined s.forest.nodes.items nodes before e (Hung c r o)) where
    hung : IsHung s.forest.nodes.items nodes before e c r o
    hung = joined.answer

    pub child-in : c < length s.parts.items
    child-in = omega (arith, hung.child_known, held.names, held.parts)

    pub root-in : r < length s.parts.items
    root-in = omega (arith, hung.root_known, held.names, held.parts)

    close-after : (x : ℕ) (d : ℤ) → x < length before → IsBelow before x c d → FitsSigned w64 (d +ℤ o)
    close-after x d lt below =
        let m = moves s.forest.nodes.items nodes before e firsts all c r o held.forest hung known held.linked from_in to_in x d lt below in
        let few : length after < 2 ^ 32 = omega (arith, length-after before e, length-before, held.few) in
        let i : x < length after = omega (arith, length-after before e) in
        let j : r < length after = omega (arith, length-after before e, length-before, held.names, hung.root_known) in
        close-fits (d +ℤ o) (below-close after x r (d +ℤ o) joined.forest.near few i j m)

    pub low-fits : s.right ≡ true → FitsSigned w64 ((part_at s.parts.items c).low +ℤ o)
    low-fits right =
        let is = (held.right right).each c hung.child_known hung.child_root in
        close-after is.low.name (part_at s.parts.items c).low is.low.known is.low.reached

    start-close : (start : Option ℤ) → IsStart before firsts c start → (x : ℤ) → start ≡ Some x → FitsSigned w64 (x +ℤ o)
    start-close None none x is = absurd cc
    start-close (Some y) at x is =
        let same : y ≡ x = cc in
        subst (λ (z : ℤ). FitsSigned w64 (z +ℤ o)) same (close-after at.name y (known at.name at.first) at.there)

    pub start-fits : s.right ≡ true → (x : ℤ) → (part_at s.parts.items c).start ≡ Some x → FitsSigned w64 (x +ℤ o)
    start-fits right = start-close (part_at s.parts.items c).start ((held.right right).each c hung.child_known hung.child_root).start

    -- the part of the new storage, or that the places are wrong
    abbrev Tells : Option Part → Type 0
    Tells answer = MatchOption answer (AreRight after firsts more → ⊥) (λ part. IsPart after firsts r part × AreRight after firsts more)

    told : s.right ≡ true → Tells (joined_part (part_at s.parts.items r) (moved_part (part_at s.parts.items c) o))
    told right =
        let old = held.right right in
        tells s.forest.nodes.items nodes before e firsts all c r o held.forest hung known held.linked from_in to_in old.right (part_at s.parts.items r) (part_at s.parts.items c) (old.each r hung.root_known hung.root_root) (old.each c hung.child_known hung.child_root)

    -- as the code asks for the part of the new storage
    pub answer-is : {child root under : Part} {answer : Option Part} → child ≡ get_or s.parts.items c child → root ≡ get_or s.parts.items r root → under ≡ moved_part child (again o) → answer ≡ joined_part root under → SFits w64 o → joined_part (part_at s.parts.items r) (moved_part (part_at s.parts.items c) o) ≡ answer
    answer-is {child} {root} {under} {answer} is_child is_root is_under is_answer fits =
        let a : child ≡ part_at s.parts.items c = get_or_read s.parts.items c child child-in is_child no_part in
        let b : root ≡ part_at s.parts.items r = get_or_read s.parts.items r root root-in is_root no_part in
        let z = to_z-of_z w64 o fits in
        cc

    each-after : s.right ≡ true → (part : Part) → IsPart after firsts r part → (x : ℕ) → x < length nodes → IsRoot nodes x → IsPart after firsts x (part_at (set s.parts.items r part) x)
    each-after right part is x lt root =
        let i : x < length s.forest.nodes.items = omega (arith, joined.forest.all, length-after before e, length-before, held.names) in
        let old = hung.left x i root in
        ⊎_elim
        (λ (same : x ≡ r). subst (λ (y : ℕ). IsPart after firsts y (part_at (set s.parts.items r part) y)) (sym same) (rw (get_or-set_same s.parts.items r part no_part root-in) is))
        (λ ne.
        let j : x < length before = omega (arith, length-before, held.names) in
        let nc : storage_at before x ≢ storage_at before c = λ h. old.1 (held.forest.one_root x c i hung.child_known old.0 hung.child_root h) in
        let nr : storage_at before x ≢ storage_at before r = λ h. ne (held.forest.one_root x r i hung.root_known old.0 hung.root_root h) in
        let was = (held.right right).each x i old.0 in
        rw (get_or-set_other s.parts.items r x part no_part ne) (part-other s.forest.nodes.items nodes before e firsts all c r o held.forest hung known held.linked from_in to_in x (part_at s.parts.items x) j nc nr was))
        (cases_eq x r)

    pub held-joined : (s' : Storages) → s'.forest.nodes.items ≡ nodes → s.right ≡ true → (part : Part) → joined_part (part_at s.parts.items r) (moved_part (part_at s.parts.items c) o) ≡ Some part → s'.parts.items ≡ set s.parts.items r part → s'.right ≡ s.right → AreStorages count firsts more s'
    held-joined s' is right part answer parts stays =
        let now : IsPart after firsts r part × AreRight after firsts more = subst Tells answer (told right) in
        let there : AreParts nodes (set s.parts.items r part) after firsts more = record { right = now.1; each = each-after right part now.0 } in
        held-after s' (Hung c r o) (rw is joined) (ap length parts ∙ length-set s.parts.items r part ∙ held.parts)
        (λ h. rw (is, parts) there)
        (λ h wrong. let impossible : true ≡ false = sym right ∙ sym stays ∙ h in absurd cc)

    pub held-refused : (s' : Storages) → s'.forest.nodes.items ≡ nodes → s.right ≡ true → joined_part (part_at s.parts.items r) (moved_part (part_at s.parts.items c) o) ≡ None → s'.parts.items ≡ s.parts.items → s'.right ≡ false → AreStorages count firsts more s'
    held-refused s' is right answer parts wrong =
        held-after s' (Hung c r o) (rw is joined) (ap length parts ∙ held.parts)
        (λ h. let impossible : true ≡ false = sym h ∙ wrong in absurd cc)
        (λ h. let wrong : AreRight after firsts more → ⊥ = subst Tells answer (told right) in wrong)

    pub held-wrong : (s' : Storages) → s'.forest.nodes.items ≡ nodes → s.right ≡ false → s'.parts.items ≡ s.parts.items → s'.right ≡ s.right → AreStorages count firsts more s'
    held-wrong s' is wrong parts stays =
        held-after s' (Hung c r o) (rw is joined) (ap length parts ∙ held.parts)
        (λ h. let impossible : true ≡ false = sym h ∙ stays ∙ wrong in absurd cc)
        (λ h right. held.wrong wrong (right-before s.forest.nodes.items nodes before e firsts all c r o held.forest hung known held.linked from_in to_in right))
