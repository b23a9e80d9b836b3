-- What has a cause traps.
use Rattle.std.proofs.Common.{◌≡◌, zero, suc, ℤ, pos, negsuc, ◌*ℤ◌, nat_abs, Bool, true, false, List, [], ◌∷◌, Option, Some, None, Result, Ok, Err, IsErr, ⊎_elim, refl, subst}
use Rattle.std.specs.Prelude.{◌⊎◌, ◌||◌, ⊤, if◌then◌else◌, IsSome, is_some, is_none, int_lt}
use Rattle.std.specs.List.{list_all}
use Rattle.std.specs.Option.{option_or}
use Rattle.std.specs.Result.{result_ok}
use Rattle.std.proofs.lemmas.Bool.{and_parts, or_cases}
use mathlib.Core.Logic.{inl, inr}
use Rattle.op_table.specs.declared.Op.{Op}
use Rattle.op_table.specs.declared.Op.TheVariants.{Div, Mod}
use Rattle.op_table.specs.declared.Trap.{Trap}
use Rattle.op_table.specs.Known.{all_known, folded}
use Rattle.op_table.specs.Operators.{applied, binary, ternary}
use Rattle.f77_tree.specs.declared.declarations.Dim.{Dim}
use Rattle.f77_tree.specs.declared.expressions.Expr.{Expr, Const, Truth, Input, Read', Apply', Row_of-Expr, end_of-Expr, more_of-Expr}
use Rattle.f77_tree.specs.declared.programs.NameInfo.{NameInfo}
use Rattle.f77_tree.specs.Known.{known, row_known}
use Rattle.f77_tree.specs.Value.{all_values, and_then, dims_of, extent, moved, place_of, read_as, kind_of, row_values, subscripted, value, value_before, word_at, word_of}
use Rattle.f77_tree.proofs.Safety.{known-is}
use Rattle.sure_traps.specs.Causes.{bound_cause, cause_in, divides, divides_by_zero, has_no_value, operator_cause, row_cause, row_subscripts}
use Rattle.sure_traps.specs.declared.causes.Cause.TheVariants.{Operator, Subscript}

-- ---- results

pub either-some : {A : Type 0} (a b : Option A) → IsSome (option_or a b) → IsSome a ⊎ IsSome b
either-some None b h = inr h
either-some (Some x) b h = inl refl

pub and_then-err : {A B : Type 0} (f : A → Result B Trap) (r : Result A Trap) → IsErr r → IsErr (and_then f r)
and_then-err f (Err trap) h = refl
and_then-err f (Ok x) h = let no : false ≡ true = h in absurd cc

-- it traps after each value
after-err : {A B : Type 0} (f : A → Result B Trap) (r : Result A Trap) → ((x : A) → r ≡ Ok x → IsErr (f x)) → IsErr (and_then f r)
after-err f (Err trap) h = refl
after-err f (Ok x) h = h x refl

before-err : (r : Result ℤ Trap) (more : Result (List ℤ) Trap) → IsErr r → IsErr (value_before r more)
before-err (Err trap) more h = refl
before-err (Ok z) more h = let no : false ≡ true = h in absurd cc

before-more : (r : Result ℤ Trap) (more : Result (List ℤ) Trap) → IsErr more → IsErr (value_before r more)
before-more (Err trap) more h = refl
before-more (Ok z) (Err trap) h = refl
before-more (Ok z) (Ok zs) h = let no : false ≡ true = h in absurd cc

-- ---- operands that agree with what is known of them

abbrev Fits : List (Option ℤ) → List ℤ → Type 0
Fits [] [] = ⊤
Fits (None ∷ ks) (x ∷ xs) = Fits ks xs
Fits (Some y ∷ ks) (x ∷ xs) = (y ≡ x) × Fits ks xs
Fits _ _ = ⊥

fits-before : (k : Option ℤ) (ks : List (Option ℤ)) (r : Result ℤ Trap) (more : Result (List ℤ) Trap) (xs : List ℤ) → value_before r more ≡ Ok xs → ((y : ℤ) → k ≡ Some y → r ≡ Ok y) → ((zs : List ℤ) → more ≡ Ok zs → Fits ks zs) → Fits (k ∷ ks) xs
fits-before k ks (Err trap) more xs is one rest = absurd cc
fits-before k ks (Ok z) (Err trap) xs is one rest = absurd cc
fits-before None ks (Ok z) (Ok zs) xs is one rest = let same : z ∷ zs ≡ xs = cc in subst (Fits (None ∷ ks)) same (rest zs refl)
fits-before (Some y) ks (Ok z) (Ok zs) xs is one rest =
    let same : z ∷ zs ≡ xs = cc in
    let right : Ok z ≡ Ok y = one y refl in
    let equal : y ≡ z = cc in
    subst (Fits (Some y ∷ ks)) same (equal, rest zs refl)

all-fits : (ks : List (Option ℤ)) (xs : List ℤ) → list_all is_some ks ≡ true → Fits ks xs → all_known ks ≡ Some xs
all-fits [] [] all fits = refl
all-fits [] (x ∷ xs) all fits = absurd fits
all-fits (None ∷ ks) xs all fits = let no : false ≡ true = all in absurd cc
all-fits (Some y ∷ ks) [] all fits = absurd fits
all-fits (Some y ∷ ks) (x ∷ xs) all fits = rw (all-fits ks xs all fits.1, fits.0) refl

-- ---- operators

no_value : (r : Result ℤ Trap) (folds : Option ℤ) → folds ≡ result_ok r → is_none folds ≡ true → IsErr r
no_value (Err trap) folds is none = refl
no_value (Ok z) folds is none = let no : false ≡ true = subst (λ k. is_none k ≡ true) is none in absurd cc

by_zero : (op : Op) (x : ℤ) → divides op ≡ true → IsErr (applied op (x ∷ pos 0 ∷ []))
unfolding applied binary
by_zero Div x h = refl
by_zero Mod x h = refl
by_zero _ x h = let no : false ≡ true = h in absurd cc

zero-sound : (op : Op) (ks : List (Option ℤ)) (xs : List ℤ) → Fits ks xs → divides_by_zero op ks ≡ true → IsErr (applied op xs)
zero-sound op (None ∷ Some (pos zero) ∷ []) (x ∷ y ∷ []) fits is = rw (← fits.0) (by_zero op x is)
zero-sound op (Some a ∷ Some (pos zero) ∷ []) (x ∷ y ∷ []) fits is = rw (← fits.1.0) (by_zero op x is)
zero-sound op [] xs fits is = absurd cc
zero-sound op (a ∷ []) xs fits is = absurd cc
zero-sound op (a ∷ None ∷ more) xs fits is = absurd cc
zero-sound op (a ∷ Some (pos (suc n)) ∷ more) xs fits is = absurd cc
zero-sound op (a ∷ Some (negsuc n) ∷ more) xs fits is = absurd cc
zero-sound op (a ∷ Some (pos zero) ∷ b ∷ more) xs fits is = absurd cc
zero-sound op (None ∷ Some (pos zero) ∷ []) [] fits is = absurd fits
zero-sound op (Some a ∷ Some (pos zero) ∷ []) [] fits is = absurd fits
zero-sound op (None ∷ Some (pos zero) ∷ []) (x ∷ []) fits is = absurd fits
zero-sound op (Some a ∷ Some (pos zero) ∷ []) (x ∷ []) fits is = absurd fits.1
zero-sound op (None ∷ Some (pos zero) ∷ []) (x ∷ y ∷ z ∷ xs) fits is = absurd fits.1
zero-sound op (Some a ∷ Some (pos zero) ∷ []) (x ∷ y ∷ z ∷ xs) fits is = absurd fits.1.1

all-sound : (op : Op) (ks : List (Option ℤ)) (xs : List ℤ) → Fits ks xs → list_all is_some ks ≡ true → is_none (folded op ks) ≡ true → IsErr (applied op xs)
unfolding folded
all-sound op ks xs fits all none = no_value (applied op xs) (folded op ks) (rw (all-fits ks xs all fits) refl) none

pub chosen : {A : Type 0} (c : Bool) (x : A) → IsSome (if c then Some x else None) → c ≡ true
chosen true x h = refl
chosen false x h = h

pub operator-sound : (op : Op) (ks : List (Option ℤ)) (xs : List ℤ) → Fits ks xs → IsSome (operator_cause op ks) → IsErr (applied op xs)
operator-sound op ks xs fits h = ⊎_elim
    (λ both. let parts = and_parts (list_all is_some ks) (is_none (folded op ks)) both in all-sound op ks xs fits parts.0 parts.1)
    (λ zero_is. zero-sound op ks xs fits zero_is)
    (or_cases (has_no_value op ks) (divides_by_zero op ks) (chosen (has_no_value op ks || divides_by_zero op ks) (Operator op) h))

-- ---- subscripts

outside-err : (dim : Dim) (size p v : ℤ) → (int_lt v dim.lo || int_lt dim.hi v) ≡ true → IsErr (moved size dim p v)
unfolding applied ternary
outside-err dim size p v out = rw out refl

bound-sound : (dim : Dim) (k : Option ℤ) (r : Result ℤ Trap) (size p : ℤ) → ((y : ℤ) → k ≡ Some y → r ≡ Ok y) → IsSome (bound_cause dim k) → IsErr (and_then (moved size dim p) r)
bound-sound dim None r size p right h = let no : false ≡ true = h in absurd cc
bound-sound dim (Some v) r size p right h = rw (right v refl) (outside-err dim size p v (chosen (int_lt v dim.lo || int_lt dim.hi v) (Subscript v dim) h))

-- ---- expressions

module _ (names : List NameInfo) (store : List ℤ) (next : Option ℤ) where
  fits : (n : _) (row : Row_of-Expr n) (xs : List ℤ) → all_values (row_values names store next row) ≡ Ok xs → Fits (row_known row) xs
  fits n end_of-Expr xs is = let same : [] ≡ xs = cc in subst (Fits []) same tt
  fits n (more_of-Expr e rest) xs is = fits-before (known e) (row_known rest) (value names store next e) (all_values (row_values names store next rest)) xs is (λ y. known-is names store next e y) (λ zs. fits _ rest zs)

  mutual
    pub sound : (e : Expr) → IsSome (cause_in names e) → IsErr (value names store next e)
    sound (Const z) h = absurd cc
    sound (Truth b) h = absurd cc
    sound Input h = absurd cc
    sound (Read' name shape subs) h =
        let at = subscripted (dims_of names name) (pos 1) (pos (place_of names name)) (row_values names store next subs) in
        and_then-err (λ w. Ok (read_as (kind_of names name) (word_at store w))) (word_of names name (row_values names store next subs))
        (and_then-err (λ p. Ok (nat_abs p)) at (subs-sound (dims_of names name) (pos 1) (pos (place_of names name)) _ subs h))
    sound (Apply' op shape args) h = ⊎_elim
        (λ here. and_then-err (applied op) (all_values (row_values names store next args)) (row-sound _ args here))
        (λ there. after-err (applied op) (all_values (row_values names store next args)) (λ xs is. operator-sound op (row_known args) xs (fits _ args xs is) there))
        (either-some (row_cause names args) (operator_cause op (row_known args)) h)

    row-sound : (n : _) (row : Row_of-Expr n) → IsSome (row_cause names row) → IsErr (all_values (row_values names store next row))
    row-sound n end_of-Expr h = absurd cc
    row-sound n (more_of-Expr e rest) h = ⊎_elim
        (λ here. before-err (value names store next e) (all_values (row_values names store next rest)) (sound e here))
        (λ later. before-more (value names store next e) (all_values (row_values names store next rest)) (row-sound _ rest later))
        (either-some (cause_in names e) (row_cause names rest) h)

    subs-sound : (dims : List Dim) (size p : ℤ) (n : _) (row : Row_of-Expr n) → IsSome (row_subscripts names dims row) → IsErr (subscripted dims size p (row_values names store next row))
    subs-sound dims size p n end_of-Expr h = absurd cc
    subs-sound [] size p n (more_of-Expr e rest) h = absurd cc
    subs-sound (dim ∷ dims) size p n (more_of-Expr e rest) h =
        let first : Result ℤ Trap = and_then (moved size dim p) (value names store next e) in
        let more : ℤ → Result ℤ Trap = λ q. subscripted dims (size *ℤ extent dim) q (row_values names store next rest) in
        ⊎_elim
        (λ here. and_then-err more first (⊎_elim
        (λ inside. and_then-err (moved size dim p) (value names store next e) (sound e inside))
        (λ bound. bound-sound dim (known e) (value names store next e) size p (λ y. known-is names store next e y) bound)
        (either-some (cause_in names e) (bound_cause dim (known e)) here)))
        (λ later. after-err more first (λ q _. subs-sound dims (size *ℤ extent dim) q _ rest later))
        (either-some (option_or (cause_in names e) (bound_cause dim (known e))) (row_subscripts names dims rest) h)
