-- One text after another, and what a list of one or two operands comes to.
use Rattle.std.proofs.Common.{◌≡◌, ℕ, zero, suc, List, [], ◌∷◌, ◌++◌, length, All, Some, Result, Ok, Err, OnOk, ap, sym, subst, ◌∙◌, arith, append_assoc}
use Rattle.std.specs.Prelude.{slice_get}
use Rattle.f77_expr.specs.Appending.{Appended, BeginsWith}

-- ---- texts

pub begins_further : (old mid new : List ℕ) → BeginsWith mid old → BeginsWith new mid → BeginsWith new old
begins_further old mid new first then = record { rest = first.rest ++ then.rest; is = then.is ∙ ap (λ text. text ++ then.rest) first.is ∙ append_assoc old first.rest then.rest }

pub begins_appended : (old text new : List ℕ) → new ≡ old ++ text → BeginsWith new old
begins_appended old text new is = record { rest = text; is = is }

-- a text after one that was appended
pub appended_then : {T E : Type 0} (old first mid second new : List ℕ) (r : Result T E) → mid ≡ old ++ first → Appended mid second new r → Appended old (first ++ second) new r
appended_then old first mid second new (Ok done) is then = then ∙ ap (λ text. text ++ second) is ∙ append_assoc old first second
appended_then old first mid second new (Err none) is then = begins_further old mid new (record { rest = first; is = is }) then

-- a text that is another one
pub appended_is : {T E : Type 0} (old text other new : List ℕ) (r : Result T E) → text ≡ other → Appended old text new r → Appended old other new r
appended_is old text other new r is appended = let P : List ℕ → Type 0 = λ t. Appended old t new r in subst P is appended

-- nothing was left out, so far
pub appended_all : {T E : Type 0} (old text new : List ℕ) (r : Result T E) → Appended old text new r → OnOk r (new ≡ old ++ text)
appended_all old text new (Ok done) is = is
appended_all old text new (Err none) begins = tt

-- ---- few operands

pub two_items : {X : Type 0} (xs : List X) (x y : X) → length xs ≡ 2 → slice_get xs 0 ≡ Some x → slice_get xs 1 ≡ Some y → xs ≡ x ∷ y ∷ []
two_items [] x y len is also = absurd (omega (arith, len))
two_items (a ∷ []) x y len is also = absurd (omega (arith, len))
two_items (a ∷ b ∷ []) x y len is also = let same : a ≡ x = cc in let same' : b ≡ y = cc in ap (λ z. z ∷ b ∷ []) same ∙ ap (λ z. x ∷ z ∷ []) same'
two_items (a ∷ b ∷ c ∷ xs) x y len is also = absurd (omega (arith, len))

pub all_one : {X : Type 0} (P : X → Type 0) (x : X) → P x → All P (x ∷ [])
all_one P x p zero d lt = p
all_one P x p (suc k) d lt = absurd (omega (arith, lt))

-- ---- two texts before the last

pub appended_three : {T E : Type 0} (old first mid second late third new : List ℕ) (r : Result T E) → mid ≡ old ++ first → late ≡ mid ++ second → Appended late third new r → Appended old (first ++ second ++ third) new r
appended_three old first mid second late third new r is also then =
    appended_then old (first ++ second) late third new r (also ∙ ap (λ text. text ++ second) is ∙ append_assoc old first second) then

-- there was no memory for the rest
pub appended_part : {T E : Type 0} (old text new : List ℕ) (r : Result T E) (e : E) → r ≡ Err e → BeginsWith new old → Appended old text new r
appended_part {T} {E} old text new r e is begins = let P : Result T E → Type 0 = λ x. Appended old text new x in subst P (sym is) begins
