-- Elements of arrays at the same subscripts lie as far behind the first words of two names with the same dimensions.
use Rattle.std.proofs.Common.{◌≡◌, ℕ, suc, ◌+◌, ◌<◌, ℤ, pos, ◌+ℤ◌, ◌-ℤ◌, ◌*ℤ◌, ◌≤ℤ◌, ◌<ℤ◌, nat_abs, Bool, true, false, List, [], ◌∷◌, length, map, Option, None, Result, Ok, Err, refl, sym, ap, subst, ◌∙◌, arith}
use Rattle.std.specs.Prelude.{int_lt, ◌||◌, if◌then◌else◌}
use Rattle.std.proofs.lemmas.Int.{ints}
use Rattle.op_table.specs.declared.Op.TheVariants.{Place}
use Rattle.op_table.specs.declared.Trap.{Trap}
use Rattle.op_table.specs.declared.Trap.TheVariants.{Subscript}
use Rattle.op_table.specs.Words.{wrapped}
use Rattle.op_table.specs.Operators.{applied, ternary, in_a_word}
use Rattle.f77_tree.specs.declared.declarations.Dim.{Dim}
use Rattle.f77_tree.specs.declared.programs.NameInfo.{NameInfo}
use Rattle.f77_tree.specs.Declarations.{AreWithin, offset_of, index_of}
use Rattle.f77_tree.specs.Touched.{AreAsKnown}
use Rattle.f77_tree.specs.Value.{ArePlaced, and_then, dims_of, extent, moved, place_of, size_of, subscripted, word_of}
use Rattle.f77_tree.proofs.Offsets.{word-is-element}
use Rattle.f77_tree.proofs.TouchedWords.{named-is_word_of}
use Rattle.layout_rules.specs.Types.{dims_named}
use Rattle.copied_values.specs.ChangedTables.{AreSameElement, IsKnownAs}

-- ---- subscripts trap, wherever the name lies, or each is within its bounds

record Within (dims : List Dim) (values : List (Result ℤ Trap)) : Type 0 where
  subs : List ℤ
  are : values ≡ map (λ z. Ok z) subs
  within : AreWithin dims subs

record TrapsAnyway (dims : List Dim) (values : List (Result ℤ Trap)) : Type 0 where
  trap : Trap
  is : (size p : ℤ) → subscripted dims size p values ≡ Err trap

data Either (dims : List Dim) (values : List (Result ℤ Trap)) : Type 0 where
  All : Within dims values → Either dims values
  One : TrapsAnyway dims values → Either dims values

record IsMoved (size : ℤ) (dim : Dim) (p v : ℤ) : Type 0 where
  to : ℤ
  is : moved size dim p v ≡ Ok to

low-traps : (size : ℤ) (dim : Dim) (p v : ℤ) → (int_lt v dim.lo || int_lt dim.hi v) ≡ true → moved size dim p v ≡ Err Subscript
unfolding applied ternary
low-traps size dim p v out = ap (λ (b : Bool). and_then (λ d. applied Place (p ∷ d ∷ size ∷ [])) (in_a_word (if b then Err Subscript else Ok (v -ℤ dim.lo)))) out

moves : (size : ℤ) (dim : Dim) (p v : ℤ) → (int_lt v dim.lo || int_lt dim.hi v) ≡ false → IsMoved size dim p v
unfolding applied ternary
moves size dim p v within = record {
  to = wrapped (p +ℤ wrapped (v -ℤ dim.lo) *ℤ size);
  is = ap (λ (b : Bool). and_then (λ d. applied Place (p ∷ d ∷ size ∷ [])) (in_a_word (if b then Err Subscript else Ok (v -ℤ dim.lo)))) within;
}

record InBounds (dim : Dim) (v : ℤ) : Type 0 where
  low : dim.lo ≤ℤ v
  high : v ≤ℤ dim.hi

in-bounds : (dim : Dim) (v : ℤ) → (int_lt v dim.lo || int_lt dim.hi v) ≡ false → InBounds dim v
in-bounds dim v is = grind (arith, ints)

either : (dims : List Dim) (values : List (Result ℤ Trap)) → length values ≡ length dims → Either dims values
either [] [] same = All (record { subs = []; are = refl; within = tt })
either [] (value ∷ values) same = absurd cc
either (dim ∷ dims) [] same = absurd cc
either (dim ∷ dims) (Err trap ∷ values) same = One (record { trap = trap; is = λ size p. refl })
either (dim ∷ dims) (Ok v ∷ values) same = by_test (int_lt v dim.lo || int_lt dim.hi v) refl (either dims values cc)
  where
    by_test : (b : Bool) → (int_lt v dim.lo || int_lt dim.hi v) ≡ b → Either dims values → Either (dim ∷ dims) (Ok v ∷ values)
    by_test true out more = One (record { trap = Subscript; is = λ size p. ap (λ (r : Result ℤ Trap). and_then (λ q. subscripted dims (size *ℤ extent dim) q values) r) (low-traps size dim p v out) })
    by_test false within (All more) =
        let here = in-bounds dim v within in
        All (record { subs = v ∷ more.subs; are = ap (λ (rs : List (Result ℤ Trap)). Ok v ∷ rs) more.are; within = (here.low, here.high, more.within) })
    by_test false within (One more) = One (record {
      trap = more.trap;
      is = λ size p. let m = moves size dim p v within in
          ap (λ (r : Result ℤ Trap). and_then (λ q. subscripted dims (size *ℤ extent dim) q values) r) m.is ∙ more.is (size *ℤ extent dim) m.to;
    })

-- ---- words

as-known : (values : List (Result ℤ Trap)) → AreAsKnown (map (λ _. None) values) values
as-known [] = tt
as-known (value ∷ values) = ((λ z no. absurd cc), as-known values)

length-none : (values : List (Result ℤ Trap)) → length (map (λ (_ : Result ℤ Trap). let none : Option ℤ = None in none) values) ≡ length values
length-none [] = refl
length-none (value ∷ values) = ap suc (length-none values)

inside : (names : List NameInfo) (words k : ℕ) (values : List (Result ℤ Trap)) (offset : ℕ) → ArePlaced names words → k < length names → length values ≡ length (dims_of names k) → word_of names k values ≡ Ok (place_of names k + offset) → pos offset <ℤ size_of (dims_of names k)
inside names words k values offset placed known same is =
    let w = named-is_word_of names words k (map (λ _. None) values) (place_of names k + offset) placed known (length-none values ∙ same) (record { values = values; as_known = as-known values; is = is }) in
    let ends = w.ends in
    omega (arith, ints, ends)

pub elements : (names others : List NameInfo) (words words' : ℕ) (x y : List ℕ) (values : List (Result ℤ Trap)) → ArePlaced names words → ArePlaced others words' → IsKnownAs names others x y → length values ≡ length (dims_named names x)
    → AreSameElement names others x y (word_of names (index_of names x) values) (word_of others (index_of others y) values)
elements names others words words' x y values placed placed' is same = by (either (dims_named names x) values same)
  where
    by : Either (dims_named names x) values → AreSameElement names others x y (word_of names (index_of names x) values) (word_of others (index_of others y) values)
    by (One traps) =
        let here : word_of names (index_of names x) values ≡ Err traps.trap = ap (and_then (λ p. Ok (nat_abs p))) (traps.is (pos 1) (pos (place_of names (index_of names x)))) in
        let there : word_of others (index_of others y) values ≡ Err traps.trap =
        ap (λ (dims : List Dim). and_then (λ p. Ok (nat_abs p)) (subscripted dims (pos 1) (pos (place_of others (index_of others y))) values)) is.dims ∙ ap (and_then (λ p. Ok (nat_abs p))) (traps.is (pos 1) (pos (place_of others (index_of others y)))) in
        subst (λ (r : Result ℕ Trap). AreSameElement names others x y r (word_of others (index_of others y) values)) (sym here) (subst (λ (r : Result ℕ Trap). AreSameElement names others x y (Err traps.trap) r) (sym there) refl)
    by (All all) =
        let offset = nat_abs (offset_of (dims_named names x) all.subs) in
        let here : word_of names (index_of names x) values ≡ Ok (place_of names (index_of names x) + offset) =
        ap (word_of names (index_of names x)) all.are ∙ word-is-element names (index_of names x) words all.subs placed is.known all.within in
        let there : word_of others (index_of others y) values ≡ Ok (place_of others (index_of others y) + offset) =
        ap (word_of others (index_of others y)) all.are
        ∙ word-is-element others (index_of others y) words' all.subs placed' is.there (subst (λ (dims : List Dim). AreWithin dims all.subs) (sym is.dims) all.within)
        ∙ ap (λ (dims : List Dim). Ok (place_of others (index_of others y) + nat_abs (offset_of dims all.subs))) is.dims in
        subst (λ (r : Result ℕ Trap). AreSameElement names others x y r (word_of others (index_of others y) values)) (sym here)
        (subst (λ (r : Result ℕ Trap). AreSameElement names others x y (Ok (place_of names (index_of names x) + offset)) r) (sym there)
        (record { offset = offset; inside = inside names words (index_of names x) values offset placed is.known same here; here = refl; there = refl }))
