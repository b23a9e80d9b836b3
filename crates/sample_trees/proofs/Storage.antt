-- The storage of the whole program.
use Rattle.std.proofs.Common.{◌≡◌, ℕ, zero, suc, ◌<◌, ◌≤◌, pos, negsuc, List, [], ◌∷◌, Bool, true, false, Option, Some, ◌⊎◌, inl, inr, refl, sym, subst, ◌∙◌, arith}
use Rattle.std.specs.Prelude.{Contains, flat_map, cond, slice_get, ◌≤ℤ◌, ◌+ℤ◌}
use Rattle.std.proofs.lemmas.Int.{ints}
use Rattle.f77_tree.specs.Value.{place_of}
use Rattle.f77_tree.specs.Declarations.{part_names}
use Rattle.f77_tree.specs.Places.{ArePlaces, Equation, IsEarlier, IsFirstOfBlock, IsLowest, BeginsAfter, Linked, itself, along, against, block_names, end_of, equations, same_block}
use Rattle.f77_tree.proofs.NameLemmas.{same_block-same}
use Rattle.sample_trees.proofs.Lists.{none, below_four}
use Rattle.sample_trees.specs.Whole.{names, block, commons, groups}

-- A begins where J ends, and A(2) is K
abbrev common : Equation
common = record { from = 1; to = 2; distance = pos 1 }

abbrev equivalence : Equation
equivalence = record { from = 3; to = 2; distance = negsuc 0 }

-- ---- the places

-- J, A and K share a storage, and I is alone
abbrev storage : ℕ → ℕ
storage zero = 0
storage (suc zero) = 1
storage (suc (suc zero)) = 1
storage (suc (suc (suc zero))) = 1
storage (suc (suc (suc (suc x)))) = 2

abbrev all : List Equation
all = common ∷ equivalence ∷ []

same : (e : Equation) → Contains all e → storage e.from ≡ storage e.to
same e (zero, lt, is) = subst (λ (q : Equation). storage q.from ≡ storage q.to) is refl
same e (suc zero, lt, is) = subst (λ (q : Equation). storage q.from ≡ storage q.to) is refl
same e (suc (suc k), lt, is) = absurd (omega (arith, lt))

linked-storage : (x y : ℕ) → Linked all x y → storage x ≡ storage y
linked-storage x y itself = refl
linked-storage x y (along e at more) = same e at ∙ linked-storage e.to y more
linked-storage x y (against e at more) = sym (same e at) ∙ linked-storage e.from y more

equal : (e : Equation) → Contains all e → pos (place_of names e.to) ≡ (pos (place_of names e.from) +ℤ e.distance)
equal e (zero, lt, is) = subst (λ (q : Equation). pos (place_of names q.to) ≡ (pos (place_of names q.from) +ℤ q.distance)) is refl
equal e (suc zero, lt, is) = subst (λ (q : Equation). pos (place_of names q.to) ≡ (pos (place_of names q.from) +ℤ q.distance)) is refl
equal e (suc (suc k), lt, is) = absurd (omega (arith, lt))

-- the names of the block, or of none
abbrev listed : Bool → List ℕ
listed true = 1 ∷ 2 ∷ []
listed false = []

block-listed : (a : Option (List ℕ)) → block_names names commons a ≡ listed (same_block block a)
block-listed a = by (same_block block a)
  where
    by : (b : Bool) → flat_map (part_names names) (cond b commons []) ≡ listed b
    by true = refl
    by false = refl

in_block : (a : Option (List ℕ)) (x : ℕ) → Contains (block_names names commons a) x → block ≡ a
in_block a x at = by (same_block block a) (same_block-same block a) (subst (λ xs. Contains xs x) (block-listed a) at)
  where
    by : (b : Bool) → (b ≡ true → block ≡ a) → Contains (listed b) x → block ≡ a
    by true is here = is refl
    by false is here = absurd (none x here)

-- J is the first name of the block
first : (x : ℕ) → IsFirstOfBlock names commons x → x ≡ 1
first x is = by (same_block block is.block) (subst (λ xs. slice_get xs 0 ≡ Some x) (block-listed is.block) is.first)
  where
    by : (b : Bool) → slice_get (listed b) 0 ≡ Some x → x ≡ 1
    by true h = let e : 1 ≡ x = cc in sym e
    by false h = absurd cc

extended : (y : ℕ) → storage 1 ≡ storage y → 1 ≤ place_of names y
extended zero h = absurd (omega (arith, h))
extended (suc zero) h = omega arith
extended (suc (suc zero)) h = omega arith
extended (suc (suc (suc zero))) h = omega arith
extended (suc (suc (suc (suc y)))) h = absurd (omega (arith, h))

at_common : Contains all common
at_common = (0, omega arith, refl)

at_equivalence : Contains all equivalence
at_equivalence = (1, omega arith, refl)

-- J is linked to A and to K
to_a : Linked all 1 2
to_a = along common at_common itself

to_k : Linked all 1 3
to_k = along common at_common (against equivalence at_equivalence itself)

not_first : (w : ℕ) → storage w ≡ 1 → 0 < w
not_first zero h = absurd (omega (arith, h))
not_first (suc w) h = omega arith

-- the storage of J is earlier than none
never : (x y : ℕ) → storage x ≡ 1 → (y ≡ 0) ⊎ Linked all 1 y → IsEarlier all x y → ⊥
never x y is to earlier = by to
  where
    low : 0 < earlier.witness
    low = not_first earlier.witness (linked-storage earlier.witness x earlier.linked ∙ is)

    by : (y ≡ 0) ⊎ Linked all 1 y → ⊥
    by (inl zero_y) = let l = earlier.before 0 (subst (λ k. Linked all 0 k) (sym zero_y) itself) in omega (arith, l)
    by (inr linked) = let l = earlier.before 1 linked in omega (arith, l, low)

reach : (y : ℕ) → y < 4 → (y ≡ 0) ⊎ Linked all 1 y
reach = below_four (λ y. (y ≡ 0) ⊎ Linked all 1 y) (inl refl) (inr itself) (inr to_a) (inr to_k)

ordered : (x y : ℕ) → x < 4 → y < 4 → IsEarlier all x y → end_of names x ≤ℤ pos (place_of names y)
ordered x y x_lt y_lt = below_four (λ x. IsEarlier all x y → end_of names x ≤ℤ pos (place_of names y))
    (below_four (λ y. IsEarlier all 0 y → (pos 0 +ℤ pos 1) ≤ℤ pos (place_of names y))
    (λ earlier. absurd (let l = earlier.before 0 itself in omega (arith, l))) (λ earlier. omega (arith, ints)) (λ earlier. omega (arith, ints)) (λ earlier. omega (arith, ints)) y y_lt)
    (λ earlier. absurd (never 1 y refl (reach y y_lt) earlier)) (λ earlier. absurd (never 2 y refl (reach y y_lt) earlier)) (λ earlier. absurd (never 3 y refl (reach y y_lt) earlier)) x x_lt

begins : (y : ℕ) → y < 4 → IsLowest names all y → (place_of names y ≡ 0) ⊎ BeginsAfter names all y
begins = below_four (λ y. IsLowest names all y → (place_of names y ≡ 0) ⊎ BeginsAfter names all y)
    (λ lowest. inl refl)
    (λ lowest. inr (record { name = 0; known = omega arith; earlier = record { witness = 0; linked = itself; before = λ z linked. not_first z (linked-storage z 1 linked) }; meets = refl }))
    (λ lowest. absurd (let l : 2 ≤ 1 = lowest 1 (omega arith) to_a in omega (arith, l)))
    (λ lowest. absurd (let l : 3 ≤ 1 = lowest 1 (omega arith) to_k in omega (arith, l)))

-- I has the word 0, J the word 1, A the words 2 and 3, and K the word 3
pub the_places : ArePlaces names commons (equations names commons groups) 4
the_places = record {
  equal = equal;
  blocks = λ a b x y in_a in_b linked. sym (in_block a x in_a) ∙ in_block b y in_b;
  extended = λ x y is linked. subst (λ k. place_of names k ≤ place_of names y) (sym (first x is)) (extended y (subst (λ k. storage k ≡ storage y) (first x is) (linked-storage x y linked)));
  within = below_four (λ x. end_of names x ≤ℤ pos 4) (omega (arith, ints)) (omega (arith, ints)) (omega (arith, ints)) (omega (arith, ints));
  ordered = ordered;
  begins = begins;
  ends = inr (record { name = 2; known = omega arith; meets = refl });
}
