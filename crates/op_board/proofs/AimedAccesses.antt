-- Loads and stores work on words that their subscripts are known to name: where all of these are known, the place is an operand
-- that is known.
use Rattle.std.proofs.Common.{◌≡◌, ℕ, ◌+◌, ◌<◌, ◌≤◌, ℤ, pos, ◌+ℤ◌, ◌*ℤ◌, nat_abs, List, [], ◌∷◌, length, map, Option, Some, None, Result, Ok, Err, All, refl, sym, ap, ◌∙◌, arith}
use Rattle.std.specs.Option.{option_map, option_and_then}
use Rattle.std.specs.Result.{result_ok}
use Rattle.std.proofs.lemmas.Int.{ints}
use Rattle.op_table.specs.declared.Op.{Op}
use Rattle.op_table.specs.declared.Op.TheVariants.{Bound, Place}
use Rattle.op_table.specs.declared.Trap.{Trap}
use Rattle.op_table.specs.Known.{all_known, folded}
use Rattle.op_table.specs.Operators.{applied}
use Rattle.f77_tree.specs.declared.declarations.Dim.{Dim}
use Rattle.f77_tree.specs.declared.expressions.Expr.{Expr, Row_of-Expr, end_of-Expr, more_of-Expr}
use Rattle.f77_tree.specs.declared.programs.NameInfo.{NameInfo}
use Rattle.f77_tree.specs.Known.{known, row_known}
use Rattle.f77_tree.specs.KnownWith.{known_word}
use Rattle.f77_tree.specs.Value.{and_then, subscripted, word_of, extent, dims_of, place_of, row_length, ArePlaced}
use Rattle.f77_tree.proofs.Places.{IsOrdered, All-tail, count_of}
use Rattle.op_board.specs.Operations.{Operand, Known, Operation, known_of, operated, operated_by, place_moved, place_operands, compiled, place_compiled}
use Rattle.op_board.specs.Effects.{word_at_place}
use Rattle.op_board.proofs.NeededOperations.{known_same}
use Rattle.op_board.proofs.OperationPlaces.{IsOffsetAt, MovesBoth, in_array, is_array, moves_both}

-- ---- operands of which all is known

folded_three : (op : Op) (ks : List (Option ℤ)) (a b c v : ℤ) → ks ≡ (Some a ∷ Some b ∷ Some c ∷ []) → applied op (a ∷ b ∷ c ∷ []) ≡ Ok v → folded op ks ≡ Some v
unfolding folded
folded_three op ks a b c v are is = ap (λ ks. option_and_then (λ args. result_ok (applied op args)) (all_known ks)) are ∙ ap result_ok is

operated_known : (done : List Operation) (op : Op) (operands : List Operand) (v : ℤ) → folded op (map known_of operands) ≡ Some v → (operated done op operands).operand ≡ Known v
operated_known done op operands v is = ap (λ o. (operated_by done op operands o).operand) is

-- the first one that is known, and the others
record KnownFirst (o : Option ℤ) (ks : List (Option ℤ)) (zs : List ℤ) : Type 0 where
  value : ℤ
  others : List ℤ
  first : o ≡ Some value
  rest : all_known ks ≡ Some others
  are : zs ≡ value ∷ others

known_first : (o : Option ℤ) (ks : List (Option ℤ)) (zs : List ℤ) → all_known (o ∷ ks) ≡ Some zs → KnownFirst o ks zs
known_first None ks zs is = let no : None ≡ Some zs = is in absurd cc
known_first (Some z) ks zs is = by (all_known ks) refl is
  where
    by : (o : Option (List ℤ)) → all_known ks ≡ o → option_map (λ (more : List ℤ). z ∷ more) o ≡ Some zs → KnownFirst (Some z) ks zs
    by None was e = let no : None ≡ Some zs = e in absurd cc
    by (Some more) was e = let same : z ∷ more ≡ zs = cc in record { value = z; others = more; first = refl; rest = was; are = sym same }

module _ (names : List NameInfo) (base whole : ℕ) (few : base + whole ≤ 2147483647) where
  -- ---- a subscript that is known

  -- it lies within its bounds, and moves the offset and the word alike
  record IsStep (dim : Dim) (dims : List Dim) (size p q z : ℤ) (zs : List ℤ) : Type 0 where
    by : ℤ
    bound : applied Bound (z ∷ dim.lo ∷ dim.hi ∷ []) ≡ Ok by
    both : MovesBoth dims base whole size p by (size *ℤ extent dim)
    rest : subscripted dims (size *ℤ extent dim) (pos base +ℤ both.offset) (map (λ z. Ok z) zs) ≡ Ok q

  step : (dim : Dim) (dims : List Dim) (size p q z : ℤ) (zs : List ℤ) → All IsOrdered (dim ∷ dims) → IsOffsetAt (dim ∷ dims) whole size p → subscripted (dim ∷ dims) size (pos base +ℤ p) (Ok z ∷ map (λ z. Ok z) zs) ≡ Ok q → IsStep dim dims size p q z zs
  step dim dims size p q z zs all at is = on (applied Bound (z ∷ dim.lo ∷ dim.hi ∷ [])) refl is
    where
      follow : Result ℤ Trap → Result ℤ Trap
      follow r = and_then (λ y. subscripted dims (size *ℤ extent dim) y (map (λ z. Ok z) zs)) r

      on : (r : Result ℤ Trap) → applied Bound (z ∷ dim.lo ∷ dim.hi ∷ []) ≡ r → and_then (λ y. subscripted dims (size *ℤ extent dim) y (map (λ z. Ok z) zs)) (and_then (λ d. applied Place ((pos base +ℤ p) ∷ d ∷ size ∷ [])) r) ≡ Ok q → IsStep dim dims size p q z zs
      on (Err trap) was e = let no : Err trap ≡ Ok q = e in absurd cc
      on (Ok d) was e =
          let both = moves_both base whole few dim dims size p z d all at was in
          record { by = d; bound = was; both = both; rest = sym (ap (and_then (λ y. subscripted dims (size *ℤ extent dim) y (map (λ z. Ok z) zs))) both.word) ∙ e }

  moved_known : (place : Operand) (done : List Operation) (dim : Dim) (size p z d offset : ℤ) (e : Expr) → place ≡ Known p → known e ≡ Some z → applied Bound (z ∷ dim.lo ∷ dim.hi ∷ []) ≡ Ok d → applied Place (p ∷ d ∷ size ∷ []) ≡ Ok offset → (place_moved place dim size (compiled names done e)).operand ≡ Known offset
  moved_known place done dim size p z d offset e at is bound moves =
      let sub = compiled names done e in
      let bounds : List Operand = sub.operand ∷ Known dim.lo ∷ Known dim.hi ∷ [] in
      let by = operated sub.done Bound bounds in
      let by_is : by.operand ≡ Known d = operated_known sub.done Bound bounds d (folded_three Bound (map known_of bounds) z dim.lo dim.hi d (ap (λ k. k ∷ Some dim.lo ∷ Some dim.hi ∷ []) (known_same names e done ∙ is)) bound) in
      let places : List Operand = place ∷ by.operand ∷ Known size ∷ [] in
      let are : map known_of places ≡ (Some p ∷ Some d ∷ Some size ∷ []) = ap (λ o. known_of o ∷ known_of by.operand ∷ Some size ∷ []) at ∙ ap (λ o. Some p ∷ known_of o ∷ Some size ∷ []) by_is in
      operated_known by.done Place places offset (folded_three Place (map known_of places) p d size offset are moves)

  -- ---- all subscripts

  -- the place is known, and is as far after the first word as the word that the subscripts name
  pub record IsPlacedAt (operand : Operand) (q : ℤ) : Type 0 where
    pub offset : ℤ
    pub known_as : operand ≡ Known offset
    pub word : q ≡ pos base +ℤ offset
    pub part : ℤ
    pub inside : IsOffsetAt [] whole part offset

  pub place_known : {m : _} (row : Row_of-Expr m) (done : List Operation) (dims : List Dim) (size p q : ℤ) (place : Operand) (zs : List ℤ) → place ≡ Known p → row_length row ≡ length dims → All IsOrdered dims → IsOffsetAt dims whole size p → all_known (row_known row) ≡ Some zs
      → subscripted dims size (pos base +ℤ p) (map (λ z. Ok z) zs) ≡ Ok q → IsPlacedAt (place_compiled names done dims size place row).operand q
  place_known end_of-Expr done [] size p q place zs at long all inside are is =
      let none : [] ≡ zs = cc in
      let last : Ok (pos base +ℤ p) ≡ Ok q = ap (λ zs. subscripted [] size (pos base +ℤ p) (map (λ z. Ok z) zs)) none ∙ is in
      let word : (pos base +ℤ p) ≡ q = cc in
      record { offset = p; known_as = at; word = sym word; part = size; inside = inside }
  place_known end_of-Expr done (dim ∷ dims) size p q place zs at long all inside are is = absurd (omega (arith, long))
  place_known (more_of-Expr e rest) done [] size p q place zs at long all inside are is = absurd (omega (arith, long))
  place_known (more_of-Expr e rest) done (dim ∷ dims) size p q place zs at long all inside are is =
      let first : KnownFirst (known e) (row_known rest) zs = known_first (known e) (row_known rest) zs are in
      let here : subscripted (dim ∷ dims) size (pos base +ℤ p) (Ok first.value ∷ map (λ z. Ok z) first.others) ≡ Ok q = ap (λ zs. subscripted (dim ∷ dims) size (pos base +ℤ p) (map (λ z. Ok z) zs)) (sym first.are) ∙ is in
      let s : IsStep dim dims size p q first.value first.others = step dim dims size p q first.value first.others all inside here in
      let next = place_moved place dim size (compiled names done e) in
      place_known rest next.done dims (size *ℤ extent dim) s.both.offset q next.operand first.others
      (moved_known place done dim size p first.value s.by s.both.offset e at first.first s.bound s.both.moves)
      (omega (arith, long)) (All-tail IsOrdered dim dims all) s.both.at first.rest s.rest

-- ---- accesses

-- At operands like these an access works on the word that its subscripts are known to name, if they are: it has no place, and names
-- the first word; or its place is that of the word.
abbrev pub IsAimed : List NameInfo → (name : ℕ) → List (Option ℤ) → List Operand → Type 0
IsAimed names name subs [] = known_word names name subs ≡ Some (place_of names name)
IsAimed names name subs (place ∷ more) = (word : ℕ) → known_word names name subs ≡ Some word → (offset : ℤ) × (place ≡ Known offset) × (word_at_place names name offset ≡ word)

-- the subscripts of a word that is known
record KnowsWord (names : List NameInfo) (name : ℕ) (ks : List (Option ℤ)) (word : ℕ) : Type 0 where
  subs : List ℤ
  known_as : all_known ks ≡ Some subs
  reached : ℤ
  is : subscripted (dims_of names name) (pos 1) (pos (place_of names name)) (map (λ z. Ok z) subs) ≡ Ok reached
  word_is : nat_abs reached ≡ word

knows_word : (names : List NameInfo) (name : ℕ) (ks : List (Option ℤ)) (word : ℕ) → known_word names name ks ≡ Some word → KnowsWord names name ks word
knows_word names name ks word is = by (all_known ks) refl is
  where
    on : (subs : List ℤ) → all_known ks ≡ Some subs → (r : Result ℤ Trap) → subscripted (dims_of names name) (pos 1) (pos (place_of names name)) (map (λ z. Ok z) subs) ≡ r → result_ok (and_then (λ p. Ok (nat_abs p)) r) ≡ Some word → KnowsWord names name ks word
    on subs was (Err trap) at e = let no : None ≡ Some word = e in absurd cc
    on subs was (Ok q) at e = let same : nat_abs q ≡ word = cc in record { subs = subs; known_as = was; reached = q; is = at; word_is = same }

    by : (o : Option (List ℤ)) → all_known ks ≡ o → option_and_then (λ subs. result_ok (word_of names name (map (λ z. Ok z) subs))) o ≡ Some word → KnowsWord names name ks word
    by None was e = let no : None ≡ Some word = e in absurd cc
    by (Some subs) was e = on subs was (subscripted (dims_of names name) (pos 1) (pos (place_of names name)) (map (λ z. Ok z) subs)) refl e

module _ (names : List NameInfo) (words : ℕ) (placed : ArePlaced names words) where
  place_aimed : {m : _} (name : ℕ) (row : Row_of-Expr m) (done : List Operation) (word : ℕ) → name < length names → row_length row ≡ length (dims_of names name) → known_word names name (row_known row) ≡ Some word
      → (offset : ℤ) × ((place_compiled names done (dims_of names name) (pos 1) (Known (pos 0)) row).operand ≡ Known offset) × (word_at_place names name offset ≡ word)
  place_aimed name row done word exists long is =
      let array = is_array names name words placed exists in
      let whole : ℕ = count_of (dims_of names name) in
      let k : KnowsWord names name (row_known row) word = knows_word names name (row_known row) word is in
      let start : (pos (place_of names name) +ℤ pos 0) ≡ pos (place_of names name) = omega (arith, ints) in
      let p : IsPlacedAt names (place_of names name) whole array.few (place_compiled names done (dims_of names name) (pos 1) (Known (pos 0)) row).operand k.reached =
      place_known names (place_of names name) whole array.few row done (dims_of names name) (pos 1) (pos 0) k.reached (Known (pos 0)) k.subs refl long array.bounds array.start k.known_as
      (ap (λ z. subscripted (dims_of names name) (pos 1) z (map (λ z. Ok z) k.subs)) start ∙ k.is) in
      let inside = in_array names name whole [] p.part p.offset array.size (λ k d low. absurd (omega (arith, low))) p.inside in
      (p.offset, p.known_as, sym inside.word ∙ ap nat_abs (sym p.word) ∙ k.word_is)

  -- an access of a name of the table, with as many subscripts as the name has dimensions
  pub access_aimed : {m : _} (name : ℕ) (row : Row_of-Expr m) (done : List Operation) → name < length names → row_length row ≡ length (dims_of names name)
      → IsAimed names name (row_known row) (place_operands (row_known row) (place_compiled names done (dims_of names name) (pos 1) (Known (pos 0)) row).operand)
  access_aimed name end_of-Expr done exists long = refl
  access_aimed name (more_of-Expr e rest) done exists long = λ word is. place_aimed name (more_of-Expr e rest) done word exists long is
