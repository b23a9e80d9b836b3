-- What is known of constants, and of accesses whose subscripts are constants.
use Rattle.std.proofs.Common.{◌≡◌, ℕ, ◌<◌, ◌≤◌, Bool, true, false, ◌&&◌, ℤ, pos, nat_abs, ◌+ℤ◌, ◌*ℤ◌, ◌<ℤ◌, List, [], ◌∷◌, length, get_or, map, Option, Some, None, Result, Ok, Err, ⊎_elim, refl, sym, ap, subst, ◌∙◌, arith}
use Rattle.std.specs.Prelude.{IfSome, slice_get}
use Rattle.std.proofs.lemmas.Option.{slice_get_cases}
use Rattle.std.specs.List.{list_all}
use Rattle.std.specs.Option.{option_map, option_and_then}
use Rattle.std.specs.Result.{result_ok}
use Rattle.std.proofs.lemmas.Int.{ints}
use Rattle.std.proofs.lemmas.List.{length-map}
use Rattle.op_table.specs.declared.Op.{Op}
use Rattle.op_table.specs.declared.Trap.{Trap}
use Rattle.op_table.specs.Known.{all_known, folded}
use Rattle.op_table.specs.Operators.{applied}
use Rattle.f77_tree.specs.declared.declarations.Dim.{Dim}
use Rattle.f77_tree.specs.declared.expressions.Access.{Access}
use Rattle.f77_tree.specs.declared.expressions.Expr.{Expr, Row_of-Expr, end_of-Expr, more_of-Expr}
use Rattle.f77_tree.specs.declared.expressions.Expr.TheVariants.{Const, Truth, Input, Read', Apply'}
use Rattle.f77_tree.specs.declared.programs.NameInfo.{NameInfo}
use Rattle.f77_tree.specs.Known.{known, row_known}
use Rattle.f77_tree.specs.KnownWith.{known_word}
use Rattle.f77_tree.specs.Places.{IsWordOf}
use Rattle.f77_tree.specs.Touched.{AreAsKnown, MayName}
use Rattle.f77_tree.specs.Value.{value, row_values, value_before, all_values, and_then, moved, extent, subscripted, word_of, place, place_in, dims_in, place_of, dims_of, size_of, IsAccess, IsPlaced, ArePlaced}
use Rattle.alias_classes.specs.Constant.{is_constant, is_constant_row}
use Rattle.alias_classes.proofs.Covering.{StayInNames}
use Rattle.std.proofs.lemmas.Bool.{and_parts}

-- ---- constants

known_before : (r : Result ℤ Trap) (known : List (Option ℤ)) (rest : Result (List ℤ) Trap) → all_known known ≡ result_ok rest → all_known (result_ok r ∷ known) ≡ result_ok (value_before r rest)
known_before (Err trap) known rest is = refl
known_before (Ok z) known (Err trap) is = ap (option_map (λ zs. z ∷ zs)) is
known_before (Ok z) known (Ok zs) is = ap (option_map (λ zs. z ∷ zs)) is

folded-is : (op : Op) (known : List (Option ℤ)) (rest : Result (List ℤ) Trap) → all_known known ≡ result_ok rest → folded op known ≡ result_ok (and_then (applied op) rest)
unfolding folded
folded-is op known (Err trap) is = ap (option_and_then (λ args. result_ok (applied op args))) is
folded-is op known (Ok zs) is = ap (option_and_then (λ args. result_ok (applied op args))) is

folded-none : (op : Op) (known : List (Option ℤ)) → all_known known ≡ None → folded op known ≡ None
unfolding folded
folded-none op known is = ap (option_and_then (λ args. result_ok (applied op args))) is

none_after : (k : Option ℤ) (known : List (Option ℤ)) → all_known known ≡ None → all_known (k ∷ known) ≡ None
none_after None known is = refl
none_after (Some z) known is = ap (option_map (λ zs. z ∷ zs)) is

module _ (names : List NameInfo) (store : List ℤ) (next : Option ℤ) where
  mutual
    -- a constant's value is known
    constant-known : (e : Expr) → is_constant e ≡ true → known e ≡ result_ok (value names store next e)
    constant-known (Const z) is = refl
    constant-known (Truth b) is = refl
    constant-known Input is = let e : false ≡ true = is in absurd cc
    constant-known (Read' name shape subs) is = let e : false ≡ true = is in absurd cc
    constant-known (Apply' op shape args) is = folded-is op (row_known args) (all_values (row_values names store next args)) (row-known args is)

    row-known : {m : _} (row : Row_of-Expr m) → is_constant_row row ≡ true → all_known (row_known row) ≡ result_ok (all_values (row_values names store next row))
    row-known end_of-Expr is = refl
    row-known (more_of-Expr e rest) is =
        let both = and_parts (is_constant e) (is_constant_row rest) is in
        ap (λ k. all_known (k ∷ row_known rest)) (constant-known e both.0) ∙ known_before (value names store next e) (row_known rest) (all_values (row_values names store next rest)) (row-known rest both.1)

  list-known : (es : List Expr) → list_all is_constant es ≡ true → all_known (map known es) ≡ result_ok (all_values (map (value names store next) es))
  list-known [] is = refl
  list-known (e ∷ es) is =
      let both = and_parts (is_constant e) (list_all is_constant es) is in
      ap (λ k. all_known (k ∷ map known es)) (constant-known e both.0) ∙ known_before (value names store next e) (map known es) (all_values (map (value names store next) es)) (list-known es both.1)

-- one operand is no constant, the first or a later one
one_unknown : (e : Expr) (rest : List (Option ℤ)) (others first : Bool) → is_constant e ≡ first → (is_constant e ≡ false → known e ≡ None) → (others ≡ false → all_known rest ≡ None) → (first && others) ≡ false → all_known (known e ∷ rest) ≡ None
one_unknown e rest others true here unknown later is = none_after (known e) rest (later is)
one_unknown e rest others false here unknown later is = ap (λ k. all_known (k ∷ rest)) (unknown here)

mutual
  -- nothing is known of what is no constant
  other-unknown : (e : Expr) → is_constant e ≡ false → known e ≡ None
  other-unknown (Const z) is = let e : true ≡ false = is in absurd cc
  other-unknown (Truth b) is = let e : true ≡ false = is in absurd cc
  other-unknown Input is = refl
  other-unknown (Read' name shape subs) is = refl
  other-unknown (Apply' op shape args) is = folded-none op (row_known args) (row-unknown args is)

  row-unknown : {m : _} (row : Row_of-Expr m) → is_constant_row row ≡ false → all_known (row_known row) ≡ None
  row-unknown end_of-Expr is = let e : true ≡ false = is in absurd cc
  row-unknown (more_of-Expr e rest) is = one_unknown e (row_known rest) (is_constant_row rest) (is_constant e) refl (other-unknown e) (row-unknown rest) is

list-unknown : (es : List Expr) → list_all is_constant es ≡ false → all_known (map known es) ≡ None
list-unknown [] is = let e : true ≡ false = is in absurd cc
list-unknown (e ∷ es) is = one_unknown e (map known es) (list_all is_constant es) (is_constant e) refl (other-unknown e) (list-unknown es) is

-- ---- words of accesses

values-back : (values : List (Result ℤ Trap)) (zs : List ℤ) → all_values values ≡ Ok zs → map (λ z. Ok z) zs ≡ values
values-back [] [] is = refl
values-back [] (z ∷ zs) is = absurd cc
values-back (Err trap ∷ values) zs is = absurd cc
values-back (Ok y ∷ values) zs is = by (all_values values) (λ ys. values-back values ys) is
  where
    by : (r : Result (List ℤ) Trap) → ((ys : List ℤ) → r ≡ Ok ys → map (λ z. Ok z) ys ≡ values) → value_before (Ok y) r ≡ Ok zs → map (λ z. Ok z) zs ≡ (Ok y ∷ values)
    by (Err trap) rest whole = absurd cc
    by (Ok ys) rest whole =
        let same : zs ≡ (y ∷ ys) = cc in
        ap (λ (xs : List ℤ). map (λ z. Ok z) xs) same ∙ ap (λ (xs : List (Result ℤ Trap)). Ok y ∷ xs) (rest ys refl)

-- an operand that traps makes the place trap, or an earlier one does
traps-place : (dims : List Dim) (size p : ℤ) (values : List (Result ℤ Trap)) (trap : Trap) → length values ≤ length dims → all_values values ≡ Err trap → result_ok (subscripted dims size p values) ≡ None
traps-place dims size p [] trap few is = absurd cc
traps-place [] size p (value ∷ values) trap few is = absurd (omega (arith, few))
traps-place (dim ∷ dims) size p (Err t ∷ values) trap few is = refl
traps-place (dim ∷ dims) size p (Ok z ∷ values) trap few is = by (moved size dim p z) (all_values values) (λ q t. traps-place dims (size *ℤ extent dim) q values t (omega (arith, few))) is
  where
    by : (m : Result ℤ Trap) (r : Result (List ℤ) Trap) → ((q : ℤ) (t : Trap) → r ≡ Err t → result_ok (subscripted dims (size *ℤ extent dim) q values) ≡ None) → value_before (Ok z) r ≡ Err trap → result_ok (and_then (λ q. subscripted dims (size *ℤ extent dim) q values) m) ≡ None
    by (Err t) r rest whole = refl
    by (Ok q) (Err t) rest whole = rest q t refl
    by (Ok q) (Ok zs) rest whole = absurd cc

place-ok : (r : Result ℤ Trap) (f : ℤ → ℕ) → result_ok r ≡ None → result_ok (and_then (λ p. Ok (f p)) r) ≡ None
place-ok (Err trap) f is = refl
place-ok (Ok p) f is = absurd cc

known-values : (names : List NameInfo) (name : ℕ) (known : List (Option ℤ)) (values : List (Result ℤ Trap)) → length values ≤ length (dims_of names name) → all_known known ≡ result_ok (all_values values) → known_word names name known ≡ result_ok (word_of names name values)
known-values names name known values few is = by (all_values values) refl
  where
    by : (r : Result (List ℤ) Trap) → all_values values ≡ r → known_word names name known ≡ result_ok (word_of names name values)
    by (Ok zs) whole = ap (option_and_then (λ (subs : List ℤ). result_ok (word_of names name (map (λ z. Ok z) subs)))) (is ∙ ap result_ok whole) ∙ ap (λ (vs : List (Result ℤ Trap)). result_ok (word_of names name vs)) (values-back values zs whole)
    by (Err trap) whole = ap (option_and_then (λ (subs : List ℤ). result_ok (word_of names name (map (λ z. Ok z) subs)))) (is ∙ ap result_ok whole) ∙ sym (place-ok (subscripted (dims_of names name) (pos 1) (pos (place_of names name)) values) nat_abs (traps-place (dims_of names name) (pos 1) (pos (place_of names name)) values trap few whole))

-- the word of an access whose subscripts are constants is its place over any store
pub constant-word : (names : List NameInfo) (store : List ℤ) (next : Option ℤ) (access : Access) → IsAccess names access → list_all is_constant access.subs ≡ true → known_word names access.name (map known access.subs) ≡ result_ok (place names store next access)
constant-word names store next access is all =
    known-values names access.name (map known access.subs) (map (value names store next) access.subs) (let as_many = is.as_many in omega (arith, as_many, length-map access.subs (value names store next))) (list-known names store next access.subs all)

pub other-word : (names : List NameInfo) (access : Access) → list_all is_constant access.subs ≡ false → known_word names access.name (map known access.subs) ≡ None
other-word names access none = ap (option_and_then (λ (subs : List ℤ). result_ok (word_of names access.name (map (λ z. Ok z) subs)))) (list-unknown access.subs none)

-- ---- the word lies in the store

-- nothing is known
abbrev unknown : Result ℤ Trap → Option ℤ
unknown r = None

as-known : (values : List (Result ℤ Trap)) → AreAsKnown (map unknown values) values
as-known [] = tt
as-known (value ∷ values) = (λ z is. absurd cc, as-known values)

pub word-inside : (names : List NameInfo) (words k word : ℕ) → ArePlaced names words → IsWordOf names k word → word < words
word-inside names words k word placed has = ⊎_elim
    (λ (found : (info : NameInfo) × (k < length names) × (slice_get names k ≡ Some info) × (get_or names k info ≡ info)).
    let info = found.0 in
    let is_placed : IsPlaced words info = subst (IsPlaced words) found.3 (placed.each k info has.known) in
    let inside = is_placed.inside in
    let ends : pos word <ℤ (pos info.place +ℤ size_of info.dims) = subst (λ (o : Option NameInfo). pos word <ℤ (pos (place_in o) +ℤ size_of (dims_in o))) found.2 has.ends in
    omega (arith, ints, inside, ends))
    (λ (past : (length names ≤ k) × (slice_get names k ≡ None)). let known = has.known in let end = past.0 in absurd (omega (arith, known, end)))
    (slice_get_cases names k).1

-- where an access has a place in a store of the program, it lies in the store
pub place-inside : StayInNames → (names : List NameInfo) (store : List ℤ) (access : Access) → IsAccess names access → ArePlaced names (length store) → (r : Result ℕ Trap) → r ≡ place names store None access → IfSome (result_ok r) (λ word. word < length store)
place-inside own names store access is placed (Err trap) at = tt
place-inside own names store access is placed (Ok word) at =
    let values = map (value names store None) access.subs in
    let many : length (map unknown values) ≡ length (dims_of names access.name) = length-map values unknown ∙ length-map access.subs (value names store None) ∙ is.as_many in
    let may : MayName names access.name (map unknown values) word = record { values = values; as_known = as-known values; is = sym at } in
    word-inside names (length store) access.name word placed (own names (length store) access.name (map unknown values) word placed is.known many may)
