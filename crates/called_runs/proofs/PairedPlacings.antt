-- Words of two placings are paired one by one.
use Rattle.std.proofs.Common.{◌≡◌, ℕ, zero, suc, ◌+◌, ◌<◌, Bool, true, false, not, cond, List, [], ◌∷◌, length, refl, sym, ap, subst, ◌∙◌, ℤ, pos, ◌+ℤ◌, ◌<ℤ◌, ◌≤ℤ◌, All, Contains, arith}
use Rattle.std.specs.Prelude.{bytes_eq}
use Rattle.std.proofs.lemmas.Int.{ints}
use Rattle.std.proofs.lemmas.List.Elements.{All-cons, All-head, All-nil, All-tail}
use Rattle.std.proofs.lemmas.Slice.Eq.{bytes_eq-Decides}
use Rattle.f77_tree.specs.declared.programs.NameInfo.{NameInfo}
use Rattle.f77_tree.specs.declared.statements.Labelled.{Labelled}
use Rattle.f77_tree.specs.Declarations.{index_of}
use Rattle.f77_tree.specs.Value.{ArePlaced, IsPlaced, dims_of, place_of, size_of}
use Rattle.layout_rules.specs.Types.{dims_named}
use Rattle.program_units.specs.Copies.{Change}
use Rattle.program_units.specs.declared.entity.Entity.{Entity}
use Rattle.program_units.specs.Entities.{stands_for}
use Rattle.called_runs.specs.PairedWords.{IsEntryOf, IsPaired, IsPlacedAlike, IsPlacing}
use Rattle.copied_values.specs.SideBySide.{ArePaired, IsPairing}
use Rattle.program_units.specs.Storage.{IsStorage, IsWordOf, Linked, itself, along, against, placed, size_in}

module _ (us : List (List Labelled)) (names : List NameInfo) (spot other : Entity → ℕ) (one : IsPlacing us names spot) (two : IsPlacing us names other) where
  -- along links both go as far
  as-far : (e f : Entity) → Linked us e f → (pos (spot e) +ℤ pos (other f)) ≡ (pos (spot f) +ℤ pos (other e))
  as-far e f itself = refl
  as-far e f (along d declared rest) = let h = as-far d.to f rest in let a = one.distances d declared in let b = two.distances d declared in omega (arith, ints, h, a, b)
  as-far e f (against d declared rest) = let h = as-far d.from f rest in let a = one.distances d declared in let b = two.distances d declared in omega (arith, ints, h, a, b)

  is-word : (e : Entity) (offset word : ℕ) → pos offset <ℤ size_in us e → word ≡ spot e + offset → IsWordOf us spot e word
  is-word e offset word inside is = record { begins = omega (arith, is); ends = omega (arith, ints, inside, is) }

  pub goes-there : (v w x y : ℕ) → IsPaired us names spot other v w → IsPaired us names spot other x y → v ≡ x → w ≡ y
  goes-there v w x y p q same =
      let e = p.entity in
      let f = q.entity in
      let linked : Linked us e f = one.apart e f v p.shown q.shown (is-word e p.offset v p.inside p.first) (is-word f q.offset v q.inside (same ∙ q.first)) in
      let far : (pos (spot e) +ℤ pos (other f)) ≡ (pos (spot f) +ℤ pos (other e)) = as-far e f linked in
      let a : v ≡ spot e + p.offset = p.first in
      let b : w ≡ other e + p.offset = p.second in
      let c : x ≡ spot f + q.offset = q.first in
      let d : y ≡ other f + q.offset = q.second in
      omega (arith, ints, far, a, b, c, d, same)

turned : (us : List (List Labelled)) (names : List NameInfo) (spot other : Entity → ℕ) (v w : ℕ) → IsPaired us names spot other v w → IsPaired us names other spot w v
turned us names spot other v w p = record { entity = p.entity; shown = p.shown; offset = p.offset; inside = p.inside; first = p.second; second = p.first }

pub pairing : (us : List (List Labelled)) (names : List NameInfo) (spot other : Entity → ℕ) → IsPlacing us names spot → IsPlacing us names other → IsPairing (IsPaired us names spot other)
pairing us names spot other one two = record {
  there = goes-there us names spot other one two;
  back = λ v w x y p q same. goes-there us names other spot two one w v y x (turned us names spot other v w p) (turned us names spot other x y q) same;
}

-- ---- places in the table of a frame

module _ (us : List (List Labelled)) (spot : Entity → ℕ) (k : ℕ) (arguments : List Entity) (x : List ℕ) where
  pub frame-index : (names : List NameInfo) → index_of (placed us spot k arguments names) x ≡ index_of names x
  frame-index [] = refl
  frame-index (info ∷ rest) = ap (λ (n : ℕ). cond (not (bytes_eq info.name x)) (1 + n) 0) (frame-index rest)

  frame-at : (names : List NameInfo) → index_of names x < length names → place_of (placed us spot k arguments names) (index_of names x) ≡ spot (stands_for us k arguments x)
  frame-at [] less = absurd (omega (arith, less))
  frame-at (info ∷ rest) less = by_test (bytes_eq info.name x) refl less (frame-at rest)
    where
      by_test : (b : Bool) → bytes_eq info.name x ≡ b → cond (not b) (1 + index_of rest x) 0 < suc (length rest) → (index_of rest x < length rest → place_of (placed us spot k arguments rest) (index_of rest x) ≡ spot (stands_for us k arguments x))
          → place_of (placed us spot k arguments (info ∷ rest)) (cond (not b) (1 + index_of rest x) 0) ≡ spot (stands_for us k arguments x)
      by_test true same few more = ap (λ (y : List ℕ). spot (stands_for us k arguments y)) ((bytes_eq-Decides info.name x).0 same)
      by_test false differs few more =
          let next : 1 + index_of rest x ≡ suc (index_of rest x) = omega arith in
          ap (place_of (placed us spot k arguments (info ∷ rest))) next ∙ more (omega (arith, few))

  pub frame-place : (names : List NameInfo) → index_of names x < length names → place_of (placed us spot k arguments names) (index_of (placed us spot k arguments names) x) ≡ spot (stands_for us k arguments x)
  frame-place names less = ap (place_of (placed us spot k arguments names)) (frame-index names) ∙ frame-at names less

  frame-dims : (names : List NameInfo) (i : ℕ) → dims_of (placed us spot k arguments names) i ≡ dims_of names i
  frame-dims [] i = refl
  frame-dims (info ∷ rest) zero = refl
  frame-dims (info ∷ rest) (suc i) = frame-dims rest i

  pub frame-size : (names : List NameInfo) → dims_named (placed us spot k arguments names) x ≡ dims_named names x
  frame-size names = ap (dims_of (placed us spot k arguments names)) (frame-index names) ∙ frame-dims names (index_of names x)

-- words of a frame's table are paired with those of the other table
pub frame-paired : (us : List (List Labelled)) (spot other : Entity → ℕ) (k : ℕ) (arguments : List Entity) (names others : List NameInfo) (c : Change) (xs : List (List ℕ)) → ((x : List ℕ) → Contains xs x → IsPlacedAlike us other k arguments names others c x)
    → ArePaired (IsPaired us others spot other) (placed us spot k arguments names) others c xs
frame-paired us spot other k arguments names others c xs all = λ x among offset inside.
    let is = all x among in
    let size : size_of (dims_named (placed us spot k arguments names) x) ≡ size_in us (stands_for us k arguments x) = ap size_of (frame-size us spot k arguments x names) ∙ is.size in
    record {
      entity = stands_for us k arguments x;
      shown = is.shown;
      offset = offset;
      inside = subst (λ (z : ℤ). pos offset <ℤ z) size inside;
      first = ap (λ (n : ℕ). n + offset) (frame-place us spot k arguments x names is.known);
      second = ap (λ (n : ℕ). n + offset) is.place;
    }

module _ (us : List (List Labelled)) (checked : Bool) (spot : Entity → ℕ) (words : ℕ) (opening : List ℤ) (storage : IsStorage us checked spot words opening) (k : ℕ) (arguments : List Entity) where
  entry-placed : (info : NameInfo) → IsEntryOf us k arguments info → IsPlaced words (record info { place = spot (stands_for us k arguments info.name) })
  entry-placed info is =
      let e = stands_for us k arguments info.name in
      record { bounds = is.bounds; inside = subst (λ (z : ℤ). (pos (spot e) +ℤ z) ≤ℤ pos words) (sym is.size) (storage.within e is.of_run) }

  each-placed : (names : List NameInfo) → All (IsEntryOf us k arguments) names → All (IsPlaced words) (placed us spot k arguments names)
  each-placed [] all = All-nil (IsPlaced words)
  each-placed (info ∷ rest) all =
      All-cons (IsPlaced words) (record info { place = spot (stands_for us k arguments info.name) }) (placed us spot k arguments rest) (entry-placed info (All-head (IsEntryOf us k arguments) info rest all)) (each-placed rest (All-tail (IsEntryOf us k arguments) info rest all))

  pub frame-placed : (names : List NameInfo) → All (IsEntryOf us k arguments) names → ArePlaced (placed us spot k arguments names) words
  frame-placed names all = record { each = each-placed names all; few = storage.few }
