-- Places that the equations give are places of a program.
use Rattle.std.proofs.Common.{◌≡◌, ℕ, ◌<◌, ◌⊎◌, inl, inr, ⊎_elim, pos, ◌+ℤ◌, ◌≤ℤ◌, List, length, sym, ap, ◌∙◌, arith, Contains}
use Rattle.std.proofs.lemmas.Int.{ints}
use Rattle.f77_tree.specs.declared.programs.NameInfo.{NameInfo}
use Rattle.f77_tree.specs.Value.{dims_of, size_of, place_of as placed_at}
use Rattle.f77_tree.specs.Declarations.{index_of}
use Rattle.f77_tree.specs.Places.{Equation, Linked, itself, along, against, IsEarlier, IsLowest, BeginsAfter, EndsAt, IsWordOf, end_of}
use Rattle.layout_rules.specs.Storage.{Spot, spots_by, size_at, place_of, words_in_all}
use Rattle.layout_rules.specs.Spots.{storage_at, AreLowest, IsBelow}
use Rattle.storage_laws.proofs.PlacedLinks.{AreEquations, length-spots, lowest-spots, storage-linked_names, linked-storage, link-back}
use Rattle.storage_laws.proofs.PlacedWords.{within-all, in-order, apart-by, begins-storage, ends-before}

-- The second table is the first one with these places; its arrays are without fault, so their sizes are those of the first.
pub record IsPlaced (names placed : List NameInfo) (spots : List Spot) : Type 0 where
  pub as_many : length placed ≡ length spots
  pub places : (x : ℕ) → x < length placed → placed_at placed x ≡ place_of names spots x
  pub sizes : (x : ℕ) → x < length placed → size_of (dims_of placed x) ≡ pos (size_at names x)
  pub some : (x : ℕ) → x < length placed → 0 < size_at names x
  pub indices : (name : List ℕ) → index_of placed name ≡ index_of names name

-- equations between names lead from names to names
pub link-inside : (count : ℕ) (all : List Equation) → AreEquations count all → (x y : ℕ) → x < count → Linked all x y → y < count
link-inside count all are x y lt itself = lt
link-inside count all are x y lt (along e here rest) = link-inside count all are e.to y (are e here).second rest
link-inside count all are x y lt (against e here rest) = link-inside count all are e.from y (are e here).first rest

module _ (names placed : List NameInfo) (count : ℕ) (all : List Equation) (are : AreEquations count all) (kept : (e : Equation) → Contains all e → IsBelow (spots_by count all) e.to e.from e.distance) (is : IsPlaced names placed (spots_by count all)) where
  abbrev spots : List Spot
  spots = spots_by count all

  lowest : AreLowest spots
  lowest = lowest-spots count all are

  inside : (x : ℕ) → x < count → x < length spots
  inside x lt = omega (arith, length-spots count all are)

  in_table : (x : ℕ) → x < count → x < length placed
  in_table x lt = omega (arith, length-spots count all are, is.as_many)

  counted : (x : ℕ) → x < length placed → x < count
  counted x lt = omega (arith, length-spots count all are, is.as_many)

  storage-below : (x : ℕ) → x < count → storage_at spots x < count
  storage-below x lt = omega (arith, lowest.below x (inside x lt))

  -- a name and the lowest name of its storage
  to-lowest : (x : ℕ) → x < count → Linked all (storage_at spots x) x
  to-lowest x lt = storage-linked_names count all are (storage_at spots x) x (storage-below x lt) lt (lowest.itself x (inside x lt))

  end-is : (x : ℕ) → x < count → end_of placed x ≡ pos (place_of names spots x) +ℤ pos (size_at names x)
  end-is x lt = ap (λ p. pos p +ℤ size_of (dims_of placed x)) (is.places x (in_table x lt)) ∙ ap (λ z. pos (place_of names spots x) +ℤ z) (is.sizes x (in_table x lt))

  -- ---- earlier storages

  earlier-storage : (x y : ℕ) → x < count → y < count → IsEarlier all x y → storage_at spots x < storage_at spots y
  earlier-storage x y i j earlier =
      let w = earlier.witness in
      let before : w < storage_at spots y = earlier.before (storage_at spots y) (to-lowest y j) in
      let known : w < count = omega (arith, storage-below y j) in
      omega (arith, lowest.below w (inside w known), linked-storage spots all kept w x earlier.linked)

  storage-earlier : (x y : ℕ) → x < count → y < count → storage_at spots x < storage_at spots y → IsEarlier all x y
  storage-earlier x y i j before = record {
    witness = storage_at spots x;
    linked = to-lowest x i;
    before = λ z link.
        let known : z < count = link-inside count all are y z j (link-back all z y link) in
        omega (arith, lowest.below z (inside z known), linked-storage spots all kept z y link);
  }

  -- ---- the places

  -- each equation holds
  pub equal : (e : Equation) → Contains all e → pos (placed_at placed e.to) ≡ pos (placed_at placed e.from) +ℤ e.distance
  equal e here =
      let from = (are e here).first in
      let to = (are e here).second in
      let apart = apart-by names spots lowest e.from e.to e.distance (inside e.from from) (inside e.to to) (kept e here) in
      ap pos (is.places e.to (in_table e.to to)) ∙ apart ∙ ap (λ p. pos p +ℤ e.distance) (sym (is.places e.from (in_table e.from from)))

  -- each word has a number below that of all words
  pub within : (x : ℕ) → x < length placed → end_of placed x ≤ℤ pos (words_in_all names spots)
  within x lt = let i = counted x lt in omega (arith, ints, end-is x i, within-all names spots lowest x (inside x i))

  -- an earlier storage lies before a later one
  pub ordered : (x y : ℕ) → x < length placed → y < length placed → IsEarlier all x y → end_of placed x ≤ℤ pos (placed_at placed y)
  ordered x y lx ly earlier =
      let i = counted x lx in
      let j = counted y ly in
      omega (arith, ints, end-is x i, is.places y ly, in-order names spots lowest x y (inside x i) (inside y j) (earlier-storage x y i j earlier))

  -- no word is one of two storages
  not-before : (x y word : ℕ) → IsWordOf placed x word → IsWordOf placed y word → storage_at spots x < storage_at spots y → ⊥
  not-before x y word at_x at_y before =
      let i = counted x at_x.known in
      let j = counted y at_y.known in
      omega (arith, ints, end-is x i, is.places y at_y.known, in-order names spots lowest x y (inside x i) (inside y j) before, at_x.ends, at_y.begins)

  pub shared : (x y word : ℕ) → IsWordOf placed x word → IsWordOf placed y word → Linked all x y
  shared x y word at_x at_y =
      let same : storage_at spots x ≡ storage_at spots y = grind (arith, not-before x y word at_x at_y, not-before y x word at_y at_x) in
      storage-linked_names count all are x y (counted x at_x.known) (counted y at_y.known) same

  has-words : (x : ℕ) → x < length spots → 0 < size_at names x
  has-words x lt = is.some x (omega (arith, is.as_many))

  -- a storage begins with the word 0, or where an earlier one ends
  pub begins : (y : ℕ) → y < length placed → IsLowest placed all y → (placed_at placed y ≡ 0) ⊎ BeginsAfter placed all y
  begins y ly least =
      let j = counted y ly in
      let begin = begins-storage names spots lowest y (inside y j) (λ z lt same.
      let k : z < count = omega (arith, length-spots count all are) in
      omega (arith, is.places y ly, is.places z (in_table z k), least z (in_table z k) (storage-linked_names count all are z y k j same)))
      in
      ⊎_elim
      (λ e. inl (is.places y ly ∙ begin ∙ e))
      (λ w.
      let i : w.name < count = omega (arith, length-spots count all are, w.inside) in
      inr (record { name = w.name; known = in_table w.name i; earlier = storage-earlier w.name y i j w.before; meets = omega (arith, ints, end-is w.name i, w.meets, begin, is.places y ly) }))
      (ends-before names spots lowest has-words (storage_at spots y) (omega (arith, storage-below y j, length-spots count all are)))

  -- the last storage ends with the last word
  pub ends : (words_in_all names spots ≡ 0) ⊎ EndsAt placed (words_in_all names spots)
  ends =
      ⊎_elim
      (λ e. inl e)
      (λ w.
      let i : w.name < count = omega (arith, length-spots count all are, w.inside) in
      inr (record { name = w.name; known = in_table w.name i; meets = end-is w.name i ∙ w.meets }))
      (ends-before names spots lowest has-words (length spots) (omega arith))
