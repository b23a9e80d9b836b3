-- An expression that cannot trap has a value over every store of words, and what is known of it is its value.
use Rattle.std.proofs.Common.{◌≡◌, ℕ, zero, suc, ℤ, pos, ◌-ℤ◌, ◌*ℤ◌, nat_abs, Bool, true, false, List, [], ◌∷◌, map, Option, Some, None, Result, Ok, Err, All, refl, sym, ap, ◌∙◌, arith}
use Rattle.std.specs.Prelude.{is_ok, option_map}
use mathlib.Core.Logic.{inl, inr}
use Rattle.std.proofs.lemmas.Int.{ints}
use Rattle.op_table.specs.declared.Op.{Op}
use Rattle.op_table.specs.declared.Op.TheVariants.{Bound, Place}
use Rattle.op_table.specs.declared.Trap.{Trap}
use Rattle.op_table.specs.Words.{IsWord, is_true, truth, wrapped}
use Rattle.op_table.specs.Operators.{applied, ternary}
use Rattle.op_table.specs.Known.{all_known, folded, MayBe, MayAllBe, CanTrap}
use Rattle.op_table.proofs.Laws.{applied-word, applied-Bound, cannot_trap, folded-some}
use Rattle.f77_tree.specs.declared.declarations.Dim.{Dim}
use Rattle.f77_tree.specs.declared.declarations.Kind.{Kind}
use Rattle.f77_tree.specs.declared.declarations.Kind.TheVariants.{Integer, Logical}
use Rattle.f77_tree.specs.declared.expressions.Access.{Access}
use Rattle.f77_tree.specs.declared.expressions.Expr.{Expr, Const, Truth as IsTruth, Input, Read, Read', Apply', Row_of-Expr, end_of-Expr, more_of-Expr}
use Rattle.f77_tree.specs.declared.programs.NameInfo.{NameInfo}
use Rattle.f77_tree.specs.Value.{value, place, row_values, all_values, value_before, and_then, moved, subscripted, extent, word_of, read_of, read_as, kind_of, dims_of, place_of, word_at}
use Rattle.f77_tree.specs.Known.{known, row_known, IsInBounds, none, MayTrapBut, MayTrap, SomeMayTrap, SubscriptsMayTrap, AccessMayTrapBut, AccessMayTrap}
use Rattle.f77_tree.proofs.ExpressionLemmas.{row_of, row_values-list}

-- ---- words

pub truth-word : (b : Bool) → IsWord (truth b)
truth-word true = omega (arith, ints)
truth-word false = omega (arith, ints)

pub read-word : (kind : Kind) (z : ℤ) → IsWord z → IsWord (read_as kind z)
read-word Integer z w = w
read-word Logical z w = truth-word (is_true z)

pub zero-word : IsWord (pos 0)
zero-word = omega (arith, ints)

pub word_at-word : (store : List ℤ) (k : ℕ) → All IsWord store → IsWord (word_at store k)
word_at-word [] k all = zero-word
word_at-word (z ∷ store) zero all = all 0 z (omega arith)
word_at-word (z ∷ store) (suc k) all = word_at-word store k (λ i d lt. all (suc i) d (omega (arith, lt)))

-- ---- the values of operands that have them

pub all_values-ok : (zs : List ℤ) → all_values (map (λ z. Ok z) zs) ≡ Ok zs
all_values-ok [] = refl
all_values-ok (z ∷ zs) = ap (value_before (Ok z)) (all_values-ok zs)

-- what two lists of known operands may be is one list
same-known : (ks : List (Option ℤ)) (xs ys : List ℤ) → all_known ks ≡ Some xs → MayAllBe ks ys → ys ≡ xs
same-known [] xs [] e may = let is : [] ≡ xs = cc in is
same-known [] xs (y ∷ ys) e may = absurd may
same-known (None ∷ ks) xs ys e may = let no : None ≡ Some xs = e in absurd cc
same-known (Some k ∷ ks) xs [] e may = absurd may
same-known (Some k ∷ ks) xs (y ∷ ys) e may = by (all_known ks) refl e (λ more f. same-known ks more ys f may.1)
  where
    by : (o : Option (List ℤ)) → all_known ks ≡ o → option_map (λ more. k ∷ more) o ≡ Some xs → ((more : List ℤ) → all_known ks ≡ Some more → ys ≡ more) → y ∷ ys ≡ xs
    by None f h rest = let no : None ≡ Some xs = h in absurd cc
    by (Some more) f h rest =
        let is : k ∷ more ≡ xs = cc in
        ap (λ z. z ∷ ys) may.0 ∙ ap (λ zs. k ∷ zs) (rest more f) ∙ is

-- what is known of an operator's value is its value
known-value : (op : Op) (ks : List (Option ℤ)) (zs : List ℤ) (z : ℤ) → MayAllBe ks zs → applied op zs ≡ Ok z → MayBe (folded op ks) z
known-value op ks zs z may e = by (folded op ks) refl
  where
    by : (k : Option ℤ) → folded op ks ≡ k → MayBe k z
    by None f = applied-word op zs z e
    by (Some y) f =
        let is = folded-some op ks y f in
        let same : zs ≡ is.args = same-known ks is.args zs is.are_known may in
        let both : Ok z ≡ Ok y = sym e ∙ ap (applied op) same ∙ is.value in
        cc

-- a value, and what is known of it
pub record HasValue (k : Option ℤ) (r : Result ℤ Trap) : Type 0 where
  pub result : ℤ
  pub is : r ≡ Ok result
  pub may : MayBe k result

-- values, and what is known of them
pub record HaveValues (ks : List (Option ℤ)) (rs : List (Result ℤ Trap)) : Type 0 where
  pub results : List ℤ
  pub are : rs ≡ map (λ z. Ok z) results
  pub may : MayAllBe ks results

-- ---- subscripts within their bounds

Place-ok : (p d size : ℤ) → (z : ℤ) × (applied Place (p ∷ d ∷ size ∷ []) ≡ Ok z)
unfolding applied ternary
Place-ok p d size = (_, refl)

-- a subscript has a value at which its bounds don't trap
record IsFit (dim : Dim) (r : Result ℤ Trap) : Type 0 where
  result : ℤ
  offset : ℤ
  is : r ≡ Ok result
  fits : applied Bound (result ∷ dim.lo ∷ dim.hi ∷ []) ≡ Ok offset

bounds-fit : (dim : Dim) (r : Result ℤ Trap) → IsInBounds dim r → IsFit dim r
bounds-fit dim r is = record { result = is.result; offset = wrapped (is.result -ℤ dim.lo); is = is.is; fits = applied-Bound is.result dim.lo dim.hi is.lower is.upper }

value-fits : (dim : Dim) (k : Option ℤ) (r : Result ℤ Trap) → HasValue k r → (CanTrap Bound (k ∷ Some dim.lo ∷ Some dim.hi ∷ []) → ⊥) → IsFit dim r
value-fits dim k r has h =
    by (applied Bound (has.result ∷ dim.lo ∷ dim.hi ∷ [])) refl
    (cannot_trap Bound (k ∷ Some dim.lo ∷ Some dim.hi ∷ []) (has.result ∷ dim.lo ∷ dim.hi ∷ []) h (has.may, (refl, (refl, tt))))
  where
    by : (b : Result ℤ Trap) → applied Bound (has.result ∷ dim.lo ∷ dim.hi ∷ []) ≡ b → is_ok b ≡ true → IsFit dim r
    by (Err trap) f ok = let no : false ≡ true = ok in absurd cc
    by (Ok d) f ok = record { result = has.result; offset = d; is = has.is; fits = f }

-- whether it is one is plain to see, so it is one where it can't fail to be one
fit-decided : (dim : Dim) (r : Result ℤ Trap) → ((IsFit dim r → ⊥) → ⊥) → IsFit dim r
fit-decided dim (Err trap) h = absurd (h (λ fit. let no : Err trap ≡ Ok fit.result = fit.is in absurd cc))
fit-decided dim (Ok v) h = by (applied Bound (v ∷ dim.lo ∷ dim.hi ∷ [])) refl
  where
    by : (b : Result ℤ Trap) → applied Bound (v ∷ dim.lo ∷ dim.hi ∷ []) ≡ b → IsFit dim (Ok v)
    by (Ok d) f = record { result = v; offset = d; is = refl; fits = f }
    by (Err trap) f = absurd (h (λ fit.
        let same : v ≡ fit.result = let e : Ok v ≡ Ok fit.result = fit.is in cc in
        let no : Err trap ≡ Ok fit.offset = sym f ∙ ap (λ (x : ℤ). applied Bound (x ∷ dim.lo ∷ dim.hi ∷ [])) same ∙ fit.fits in
        absurd cc))

record IsOkay (r : Result ℤ Trap) : Type 0 where
  result : ℤ
  is : r ≡ Ok result

-- one subscript that fits leaves the rest
moved-on : (dim : Dim) (dims : List Dim) (size p : ℤ) (r : Result ℤ Trap) (rs : List (Result ℤ Trap)) → IsFit dim r → ((q : ℤ) → IsOkay (subscripted dims (size *ℤ extent dim) q rs)) → IsOkay (subscripted (dim ∷ dims) size p (r ∷ rs))
moved-on dim dims size p r rs fit rest =
    let place = Place-ok p fit.offset size in
    let next = rest place.0 in
    record {
      result = next.result;
      is = ap (λ (x : Result ℤ Trap). and_then (λ q. subscripted dims (size *ℤ extent dim) q rs) (and_then (moved size dim p) x)) fit.is
          ∙ ap (λ (x : Result ℤ Trap). and_then (λ q. subscripted dims (size *ℤ extent dim) q rs) (and_then (λ d. applied Place (p ∷ d ∷ size ∷ [])) x)) fit.fits
          ∙ ap (and_then (λ q. subscripted dims (size *ℤ extent dim) q rs)) place.1
          ∙ next.is;
    }

-- ---- the law

read-has : (names : List NameInfo) (store : List ℤ) (name : ℕ) (rs : List (Result ℤ Trap)) → All IsWord store → IsOkay (subscripted (dims_of names name) (pos 1) (pos (place_of names name)) rs) → HasValue None (read_of names store name (word_of names name rs))
read-has names store name rs words at = record {
  result = read_as (kind_of names name) (word_at store (nat_abs at.result));
  is = ap (λ (r : Result ℤ Trap). read_of names store name (and_then (λ p. Ok (nat_abs p)) r)) at.is;
  may = read-word (kind_of names name) (word_at store (nat_abs at.result)) (word_at-word store (nat_abs at.result) words);
}

apply-has : (op : Op) (ks : List (Option ℤ)) (rs : List (Result ℤ Trap)) → HaveValues ks rs → (CanTrap op ks → ⊥) → HasValue (folded op ks) (and_then (applied op) (all_values rs))
apply-has op ks rs have h = by (applied op have.results) refl (cannot_trap op ks have.results h have.may)
  where
    by : (r : Result ℤ Trap) → applied op have.results ≡ r → is_ok r ≡ true → HasValue (folded op ks) (and_then (applied op) (all_values rs))
    by (Err trap) f ok = let no : false ≡ true = ok in absurd cc
    by (Ok z) f ok = record {
      result = z;
      is = ap (λ (xs : List (Result ℤ Trap)). and_then (applied op) (all_values xs)) have.are ∙ ap (and_then (applied op)) (all_values-ok have.results) ∙ f;
      may = known-value op ks have.results z have.may f;
    }

-- over this store of words and this next word of the data, each excepted subscript has a value within its bounds
module _ (excepted : Expr → Dim → Type 0) (names : List NameInfo) (store : List ℤ) (next : Option ℤ) (words : All IsWord store)
    (fine : (sub : Expr) (dim : Dim) → excepted sub dim → IsInBounds dim (value names store next sub)) where
  mutual
    -- an expression that cannot trap but in excepted subscripts has a value, and what is known of it is that value
    pub has-value-but : (e : Expr) → (MayTrapBut excepted names e → ⊥) → HasValue (known e) (value names store next e)
    has-value-but (Const z) h = record { result = z; is = refl; may = refl }
    has-value-but (IsTruth b) h = record { result = truth b; is = refl; may = refl }
    has-value-but Input h = absurd (h tt)
    has-value-but (Read' name shape subs) h = read-has names store name (row_values names store next subs) words (have-place (dims_of names name) (pos 1) (pos (place_of names name)) _ subs h)
    has-value-but (Apply' op shape args) h = apply-has op (row_known args) (row_values names store next args) (have-values _ args (λ t. h (inl t))) (λ t. h (inr t))

    have-values : (n : _) (row : Row_of-Expr n) → (SomeMayTrap excepted names row → ⊥) → HaveValues (row_known row) (row_values names store next row)
    have-values n end_of-Expr h = record { results = []; are = refl; may = tt }
    have-values n (more_of-Expr e rest) h =
        let one = has-value-but e (λ t. h (inl t)) in
        let more = have-values _ rest (λ t. h (inr t)) in
        record {
          results = one.result ∷ more.results;
          are = ap (λ r. r ∷ row_values names store next rest) one.is ∙ ap (λ rs. Ok one.result ∷ rs) more.are;
          may = (one.may, more.may);
        }

    have-place : (dims : List Dim) (size p : ℤ) (n : _) (row : Row_of-Expr n) → (SubscriptsMayTrap excepted names dims row → ⊥) → IsOkay (subscripted dims size p (row_values names store next row))
    have-place [] size p n end_of-Expr h = record { result = p; is = refl }
    have-place (dim ∷ dims) size p n end_of-Expr h = record { result = p; is = refl }
    have-place [] size p n (more_of-Expr e rest) h = record { result = p; is = refl }
    have-place (dim ∷ dims) size p n (more_of-Expr e rest) h =
        moved-on dim dims size p (value names store next e) (row_values names store next rest)
        (fit-decided dim (value names store next e) (λ no.
        no (value-fits dim (known e) (value names store next e)
        (has-value-but e (λ t. h (inl (λ x. no (bounds-fit dim (value names store next e) (fine e dim x)), inl t))))
        (λ t. h (inl (λ x. no (bounds-fit dim (value names store next e) (fine e dim x)), inr t))))))
        (λ q. have-place dims (size *ℤ extent dim) q _ rest (λ t. h (inr t)))

-- an expression that cannot trap has a value over every store of words, whatever the next word of the data, and what
-- is known of it is that value
pub has-value : (names : List NameInfo) (store : List ℤ) (next : Option ℤ) (e : Expr) → All IsWord store → (MayTrap names e → ⊥) → HasValue (known e) (value names store next e)
has-value names store next e words h = has-value-but none names store next words (λ sub dim x. absurd x) e h

-- ---- the same, said of an access

pub record NamesWord (r : Result ℕ Trap) : Type 0 where
  pub word : ℕ
  pub is : r ≡ Ok word

-- an access that cannot trap but in excepted subscripts, which have values within their bounds, names a word
pub names-word-but : (excepted : Expr → Dim → Type 0) (names : List NameInfo) (store : List ℤ) (next : Option ℤ) (words : All IsWord store) → ((sub : Expr) (dim : Dim) → excepted sub dim → IsInBounds dim (value names store next sub)) →
    (access : Access) → (AccessMayTrapBut excepted names access → ⊥) → NamesWord (place names store next access)
names-word-but excepted names store next words fine access h =
    let row = row_of (Read access) in
    let at = have-place excepted names store next words fine (dims_of names access.name) (pos 1) (pos (place_of names access.name)) row.0 row.1 h in
    let same : map (value names store next) access.subs ≡ row_values names store next row.1 = sym (row_values-list names store next access) in
    record {
      word = nat_abs at.result;
      is = ap (λ (rs : List (Result ℤ Trap)). word_of names access.name rs) same ∙ ap (λ (r : Result ℤ Trap). and_then (λ p. Ok (nat_abs p)) r) at.is;
    }

-- an access that cannot trap names a word, over every store of words
pub names-word : (names : List NameInfo) (store : List ℤ) (next : Option ℤ) (access : Access) → All IsWord store → (AccessMayTrap names access → ⊥) → NamesWord (place names store next access)
names-word names store next access words h = names-word-but none names store next words (λ sub dim x. absurd x) access h

-- ---- what is known of a value is the value, over any store

pub known-more : (k : Option ℤ) (ks : List (Option ℤ)) (r : Result ℤ Trap) (rs : List (Result ℤ Trap)) (xs : List ℤ) → all_known (k ∷ ks) ≡ Some xs → ((z : ℤ) → k ≡ Some z → r ≡ Ok z) → ((zs : List ℤ) → all_known ks ≡ Some zs → rs ≡ map (λ z. Ok z) zs) → r ∷ rs ≡ map (λ z. Ok z) xs
known-more None ks r rs xs e one more = let no : None ≡ Some xs = e in absurd cc
known-more (Some k) ks r rs xs e one more = by (all_known ks) refl e
  where
    by : (o : Option (List ℤ)) → all_known ks ≡ o → option_map (λ zs. k ∷ zs) o ≡ Some xs → r ∷ rs ≡ map (λ z. Ok z) xs
    by None f h = let no : None ≡ Some xs = h in absurd cc
    by (Some zs) f h =
        let is : k ∷ zs ≡ xs = cc in
        ap (λ x. x ∷ rs) (one k refl) ∙ ap (λ ys. Ok k ∷ ys) (more zs f) ∙ ap (map (λ z. Ok z)) is

mutual
  pub known-is : (names : List NameInfo) (store : List ℤ) (next : Option ℤ) (e : Expr) (z : ℤ) → known e ≡ Some z → value names store next e ≡ Ok z
  known-is names store next (Const c) z e = let is : c ≡ z = cc in ap (λ x. Ok x) is
  known-is names store next (IsTruth b) z e = let is : truth b ≡ z = cc in ap (λ x. Ok x) is
  known-is names store next Input z e = let no : None ≡ Some z = e in absurd cc
  known-is names store next (Read' name shape subs) z e = let no : None ≡ Some z = e in absurd cc
  known-is names store next (Apply' op shape args) z e =
      let is = folded-some op (row_known args) z e in
      ap (λ (rs : List (Result ℤ Trap)). and_then (applied op) (all_values rs)) (known-are names store next _ args is.args is.are_known) ∙ ap (and_then (applied op)) (all_values-ok is.args) ∙ is.value

  pub known-are : (names : List NameInfo) (store : List ℤ) (next : Option ℤ) (n : _) (row : Row_of-Expr n) (xs : List ℤ) → all_known (row_known row) ≡ Some xs → row_values names store next row ≡ map (λ z. Ok z) xs
  known-are names store next n end_of-Expr xs e = let is : [] ≡ xs = cc in ap (map (λ z. Ok z)) is
  known-are names store next n (more_of-Expr e rest) xs h = known-more (known e) (row_known rest) (value names store next e) (row_values names store next rest) xs h (λ z. known-is names store next e z) (λ zs. known-are names store next _ rest zs)
