-- Tables of numbered expressions.
use Rattle.std.proofs.Common.{◌≡◌, ◌≢◌, ℕ, zero, suc, ◌<◌, ◌≤◌, ◌%◌, ◌⊎◌, List, [], ◌∷◌, ◌++◌, length, get_or, set, All, refl, sym, ap, ◌∙◌, subst, inl, inr, ⊎_elim, arith, get_or-set_same, get_or-set_other, length-set, length-append}
use Rattle.std.specs.Prelude.{Option, Some, None, MatchOption, slice_get, Contains}
use Rattle.std.proofs.lemmas.Bool.{cases_eq}
use Rattle.std.proofs.lemmas.List.{get_or_default}
use Rattle.f77_tree.specs.declared.expressions.Expr.{Expr}
use Rattle.redundancy.specs.Digests.{digest}
use Rattle.redundancy.specs.Numbers.{IsNumbered, IsTable}
use Rattle.redundancy.proofs.Executables.{all-append, all-one}

-- ---- lists

pub get_left : {X : Type 0} (xs ys : List X) (k : ℕ) → k < length xs → slice_get (xs ++ ys) k ≡ slice_get xs k
get_left [] ys k lt = absurd (omega (arith, lt))
get_left (x ∷ xs) ys zero lt = refl
get_left (x ∷ xs) ys (suc k) lt = get_left xs ys k (omega (arith, lt))

pub get_last : {X : Type 0} (xs : List X) (x : X) → slice_get (xs ++ x ∷ []) (length xs) ≡ Some x
get_last [] x = refl
get_last (y ∷ xs) x = get_last xs x

pub get_within : {X : Type 0} (xs : List X) (k : ℕ) (x : X) → slice_get xs k ≡ Some x → k < length xs
get_within [] k x is = absurd cc
get_within (y ∷ xs) zero x is = omega arith
get_within (y ∷ xs) (suc k) x is = let rest = get_within xs k x is in omega (arith, rest)

pub get_at : {X : Type 0} (xs : List X) (k : ℕ) (x : X) → k < length xs → get_or xs k x ≡ x → slice_get xs k ≡ Some x
get_at [] k x lt is = absurd (omega (arith, lt))
get_at (y ∷ xs) zero x lt is = ap Some is
get_at (y ∷ xs) (suc k) x lt is = get_at xs k x (omega (arith, lt)) is

pub at_get : {X : Type 0} (xs : List X) (k : ℕ) (x : X) → slice_get xs k ≡ Some x → get_or xs k x ≡ x
at_get [] k x is = refl
at_get (y ∷ xs) zero x is = cc
at_get (y ∷ xs) (suc k) x is = at_get xs k x is

pub some_same : {X : Type 0} (x y : X) → Some x ≡ Some y → x ≡ y
some_same x y e = cc

-- what stands at a place of a list with one item more
pub get_more : {X : Type 0} (xs : List X) (x y : X) (k : ℕ) → slice_get (xs ++ x ∷ []) k ≡ Some y → (slice_get xs k ≡ Some y) ⊎ ((k ≡ length xs) × (x ≡ y))
get_more [] x y zero is = inr (refl, some_same x y is)
get_more [] x y (suc k) is = absurd cc
get_more (z ∷ xs) x y zero is = inl is
get_more (z ∷ xs) x y (suc k) is = ⊎_elim (λ old. inl old) (λ new. inr (ap suc new.0, new.1)) (get_more xs x y k is)

pub contains-here : {X : Type 0} (x : X) (xs : List X) → Contains (x ∷ xs) x
contains-here x xs = (0, omega arith, refl)

pub contains-later : {X : Type 0} (x y : X) (xs : List X) → Contains xs y → Contains (x ∷ xs) y
contains-later x y xs c = (suc c.0, (let lt = c.1 in omega (arith, lt)), c.2)

pub contains-left : {X : Type 0} (xs ys : List X) (y : X) → Contains xs y → Contains (xs ++ ys) y
contains-left [] ys y c = let lt = c.1 in absurd (omega (arith, lt))
contains-left (x ∷ xs) ys y (zero, lt, is) = subst (λ z. Contains (x ∷ xs ++ ys) z) is (contains-here x (xs ++ ys))
contains-left (x ∷ xs) ys y (suc k, lt, is) = contains-later x y (xs ++ ys) (contains-left xs ys y (k, omega (arith, lt), is))

pub contains-right : {X : Type 0} (xs ys : List X) (y : X) → Contains ys y → Contains (xs ++ ys) y
contains-right [] ys y c = c
contains-right (x ∷ xs) ys y c = contains-later x y (xs ++ ys) (contains-right xs ys y c)

pub get_of_contains : {X : Type 0} (xs : List X) (x : X) (c : Contains xs x) → slice_get xs c.0 ≡ Some x
get_of_contains xs x c = get_at xs c.0 x c.1 c.2

pub contains_of_get : {X : Type 0} (xs : List X) (k : ℕ) (x : X) → slice_get xs k ≡ Some x → Contains xs x
contains_of_get xs k x is = (k, get_within xs k x is, at_get xs k x is)

-- ---- searches in a bucket

pub not_found : (exprs : List Expr) (numbers : List ℕ) (e : Expr) (i : ℕ) → length numbers ≤ i → ((j : ℕ) → j < i → slice_get exprs (get_or numbers j 0) ≡ Some e → ⊥) → (k : ℕ) → Contains numbers k → slice_get exprs k ≡ Some e → ⊥
not_found exprs numbers e i end none k c is =
    let lt = c.1 in
    let same : get_or numbers c.0 0 ≡ k = get_or_default numbers c.0 0 k c.1 ∙ c.2 in
    none c.0 (omega (arith, lt, end)) (ap (slice_get exprs) same ∙ is)

-- ---- the table

pub table-more : (exprs : List Expr) (buckets : List (List ℕ)) (e : Expr) → IsTable exprs buckets → IsTable (exprs ++ e ∷ []) (set buckets (digest e % length buckets) (get_or buckets (digest e % length buckets) [] ++ length exprs ∷ []))
table-more exprs buckets e t =
    let b = digest e % length buckets in
    let some = t.some in
    let within : b < length buckets = omega (arith, some) in
    let old = get_or buckets b [] in
    let new = old ++ length exprs ∷ [] in
    let longer = length-append exprs (e ∷ []) in
    let wider : (numbers : List ℕ) → All (λ k. k < length exprs) numbers → All (λ k. k < length (exprs ++ e ∷ [])) numbers = λ numbers all k d lt. (let less = all k d lt in omega (arith, less, longer)) in
    record {
      some = subst (λ n. 0 < n) (sym (length-set buckets b new)) t.some;
      inside = λ a. ⊎_elim
          (λ (same : a ≡ b). subst (λ (z : List ℕ). All (λ k. k < length (exprs ++ e ∷ [])) z) (sym (ap (λ x. get_or (set buckets b new) x []) same ∙ get_or-set_same buckets b new [] within))
          (all-append (λ k. k < length (exprs ++ e ∷ [])) old (length exprs ∷ []) (wider old (t.inside b)) (all-one (λ k. k < length (exprs ++ e ∷ [])) (length exprs) (omega (arith, longer)))))
          (λ (apart : a ≢ b). subst (λ (z : List ℕ). All (λ k. k < length (exprs ++ e ∷ [])) z) (sym (get_or-set_other buckets b a new [] apart)) (wider (get_or buckets a []) (t.inside a)))
          (cases_eq a b);
      all = λ k d is.
          let count = length-set buckets b new in
          let at : ℕ = digest d % length buckets in
          let found : Contains (get_or (set buckets b new) at []) k = ⊎_elim
          (λ (before : slice_get exprs k ≡ Some d). ⊎_elim
          (λ (same : at ≡ b).
          let here : Contains old k = subst (λ x. Contains (get_or buckets x []) k) same (t.all k d before) in
          subst (λ (z : List ℕ). Contains z k) (sym (ap (λ x. get_or (set buckets b new) x []) same ∙ get_or-set_same buckets b new [] within)) (contains-left old (length exprs ∷ []) k here))
          (λ (apart : at ≢ b). subst (λ (z : List ℕ). Contains z k) (sym (get_or-set_other buckets b at new [] apart)) (t.all k d before))
          (cases_eq at b))
          (λ now.
          let same : at ≡ b = ap (λ x. digest x % length buckets) (sym now.1) in
          subst (λ (z : List ℕ). Contains z k) (sym (ap (λ x. get_or (set buckets b new) x []) same ∙ get_or-set_same buckets b new [] within)) (contains-right old (length exprs ∷ []) k (subst (λ x. Contains (length exprs ∷ []) x) (sym now.0) (contains-here (length exprs) []))))
          (get_more exprs e d k is)
          in
          subst (λ n. Contains (get_or (set buckets b new) (digest d % n) []) k) (sym count) found;
    }

-- an expression that isn't in its bucket isn't in the table
pub not_in_table : (exprs : List Expr) (buckets : List (List ℕ)) (e : Expr) → IsTable exprs buckets → ((k : ℕ) → Contains (get_or buckets (digest e % length buckets) []) k → slice_get exprs k ≡ Some e → ⊥) → Contains exprs e → ⊥
not_in_table exprs buckets e t none c =
    let is : slice_get exprs c.0 ≡ Some e = get_of_contains exprs e c in
    none c.0 (t.all c.0 e is) is

-- what is found in the bucket of an expression is found in the table
pub found_in_table : (exprs : List Expr) (buckets : List (List ℕ)) (e : Expr) (bucket : List ℕ) (o : Option ℕ) → IsTable exprs buckets → bucket ≡ get_or buckets (digest e % length buckets) [] → MatchOption o ((k : ℕ) → Contains bucket k → slice_get exprs k ≡ Some e → ⊥) (λ k. slice_get exprs k ≡ Some e) → MatchOption o (Contains exprs e → ⊥) (λ k. slice_get exprs k ≡ Some e)
found_in_table exprs buckets e bucket None t is none = not_in_table exprs buckets e t (λ k holds. none k (subst (λ (z : List ℕ). Contains z k) (sym is) holds))
found_in_table exprs buckets e bucket (Some k) t is at = at

pub numbered-new : (exprs : List Expr) (e : Expr) (k : ℕ) → k ≡ length exprs → (Contains exprs e → ⊥) → IsNumbered e exprs (exprs ++ e ∷ []) k
numbered-new exprs e k is none = record { at = subst (λ x. slice_get (exprs ++ e ∷ []) x ≡ Some e) (sym is) (get_last exprs e); grows = inr (refl, none) }

-- a bucket that was read
pub bucket_read : (buckets : List (List ℕ)) (at key : ℕ) (bucket : List ℕ) → at ≡ key % length buckets → 0 < length buckets → bucket ≡ get_or buckets at bucket → bucket ≡ get_or buckets (key % length buckets) []
bucket_read buckets at key bucket is some read =
    let within : key % length buckets < length buckets = omega arith in
    read ∙ ap (λ x. get_or buckets x bucket) is ∙ sym (get_or_default buckets (key % length buckets) [] bucket within)

-- a bucket and the table got one more
pub table_pushed : (exprs new_exprs : List Expr) (buckets : List (List ℕ)) (e : Expr) (at k : ℕ) (bucket pushed : List ℕ) → IsTable exprs buckets → at ≡ digest e % length buckets → bucket ≡ get_or buckets at bucket → pushed ≡ bucket ++ k ∷ [] → k ≡ length exprs → new_exprs ≡ exprs ++ e ∷ [] → IsTable new_exprs (set buckets at pushed)
table_pushed exprs new_exprs buckets e at k bucket pushed t is read more place grown =
    let old = bucket_read buckets at (digest e) bucket is t.some read in
    let new : pushed ≡ get_or buckets (digest e % length buckets) [] ++ length exprs ∷ [] = more ∙ ap (λ z. z ++ k ∷ []) old ∙ ap (λ x. get_or buckets (digest e % length buckets) [] ++ x ∷ []) place in
    rw (grown, is, new) (table-more exprs buckets e t)

pub blank-push : (lists : List (List ℕ)) (x : List ℕ) → x ≡ [] → ((b : ℕ) → get_or lists b [] ≡ []) → (b : ℕ) → get_or (lists ++ x ∷ []) b [] ≡ []
blank-push [] x is blank zero = is
blank-push [] x is blank (suc b) = refl
blank-push (y ∷ lists) x is blank zero = blank 0
blank-push (y ∷ lists) x is blank (suc b) = blank-push lists x is (λ a. blank (suc a)) b
