use Rattle.std.proofs.Common.{◌≡◌, ℕ, zero, suc, ◌+◌, ◌<◌, List, [], ◌∷◌, ◌++◌, length, get_or, take, Some, slice_get, refl, sym, ap, subst, ◌∙◌, arith}
use Rattle.std.specs.Prelude.{IfSome}
use Rattle.std.proofs.lemmas.Option.{slice_get-get_or}
use Rattle.f77_tree.specs.declared.programs.NameInfo.{NameInfo}
use Rattle.layout_rules.specs.PlacedNames.{with_places}
use Rattle.f77_layout.proofs.collecting.placed_names.Goals as goal

-- ---- names with places, one more at a time

abbrev placed_first : List NameInfo → List ℕ → ℕ → List NameInfo
placed_first names places k = with_places (take k names) (take k places)

abbrev with_first : NameInfo → ℕ → List NameInfo → List NameInfo
with_first first place more = record first { place = place } ∷ more

one_more : (names : List NameInfo) (places : List ℕ) (k : ℕ) (info : NameInfo) → slice_get names k ≡ Some info → k < length places → placed_first names places (suc k) ≡ placed_first names places k ++ record info { place = get_or places k 0 } ∷ []
one_more [] places k info at lt = cc
one_more (first ∷ names) [] k info at lt = absurd (omega (arith, lt))
one_more (first ∷ names) (place ∷ places) zero info at lt = let same : first ≡ info = cc in subst (λ x. record first { place = place } ∷ [] ≡ record x { place = place } ∷ []) same refl
one_more (first ∷ names) (place ∷ places) (suc k) info at lt = ap (with_first first place) (one_more names places k info at (omega (arith, lt)))

with_places-more : (names : List NameInfo) (places : List ℕ) (k : ℕ) (info : NameInfo) → slice_get names k ≡ Some info → k < length places → with_places (take (k + 1) names) (take (k + 1) places) ≡ with_places (take k names) (take k places) ++ record info { place = get_or places k 0 } ∷ []
with_places-more names places k info at lt =
    let one : k + 1 ≡ suc k = omega arith in
    ap (placed_first names places) one ∙ one_more names places k info at lt

-- as many as both lists have
with_places-length : (names : List NameInfo) (places : List ℕ) (k : ℕ) → k < length names + 1 → length places ≡ length names → length (with_places (take k names) (take k places)) ≡ k
with_places-length names places zero le same = refl
with_places-length [] places (suc k) le same = absurd (omega (arith, le))
with_places-length (info ∷ names) [] (suc k) le same = absurd (omega (arith, same))
with_places-length (info ∷ names) (place ∷ places) (suc k) le same = ap suc (with_places-length names places k (omega (arith, le)) (omega (arith, same)))

-- ---- the loop

pub push-requires : goal.push-requires
push-requires c =
    let many = with_places-length c.args.names.now c.args.places.now c.loop-k.k (omega (arith, c.loop-k-test.true, c.len-k-end.ensures)) c.requires.as_many in
    let same : length c.loop-k.placed ≡ c.loop-k.k = ap length c.loop-k.invariant ∙ many in
    omega (arith, same, c.loop-k-test.true, c.len-k-end.type_inv)

pub loop-k-preserved : goal.loop-k-preserved
loop-k-preserved c =
    let names = c.args.names.now in
    let places = c.args.places.now in
    let k = c.loop-k.k in
    let info = get_or names k c.in_ok-placed.field-0 in
    let there : slice_get names k ≡ Some info = slice_get-get_or names k c.in_ok-placed.field-0 (omega (arith, c.loop-k-test.true, c.len-k-end.ensures)) in
    let placed : c.in_ok-placed.field-0 ≡ record info { place = get_or places k 0 } = subst (λ o. IfSome o (λ info. c.in_ok-placed.field-0 ≡ record info { place = get_or places k 0 })) there c.in_ok-placed.ensures in
    c.in_ok-push.ensures.ok ∙ ap (λ old. old ++ c.in_ok-placed.field-0 ∷ []) c.loop-k.invariant ∙ ap (λ new. with_places (take k names) (take k places) ++ new ∷ []) placed
    ∙ sym (with_places-more names places k info there (omega (arith, c.loop-k-test.true, c.len-k-end.ensures, c.requires.as_many)))
