-- Lists that grow at their ends.
use Rattle.std.proofs.Common.{◌≡◌, ◌<◌, ◌+◌, ℕ, zero, suc, List, [], ◌∷◌, ◌++◌, length, get_or, drop, All, Result, Ok, Err, sym, ap, ◌∙◌, arith}
use Rattle.std.proofs.lemmas.List.Sums.{sum_by-drop_more}
use Rattle.std.specs.Prelude.{IfOk, OnOk, sum_by}
use Rattle.f77_tree.proofs.Places.{All-tail}

-- what holds of each item and of one more at the end
pub All-last : {X : Type 0} (P : X → Type 0) (xs : List X) (x : X) → All P xs → P x → All P (xs ++ x ∷ [])
All-last P [] x all here zero d lt = here
All-last P [] x all here (suc k) d lt = absurd (omega (arith, lt))
All-last P (y ∷ xs) x all here zero d lt = all 0 d (omega arith)
All-last P (y ∷ xs) x all here (suc k) d lt = All-last P xs x (All-tail P y xs all) here k d (omega (arith, lt))

-- what follows where a call answers Ok
pub OnOk-then : {X E A B : Type 0} (r : Result X E) → (A → B) → OnOk r A → OnOk r B
OnOk-then (Ok x) f a = f a
OnOk-then (Err e) f a = tt

-- what holds of the answer of a call holds with it
pub IfOk-then : {X E : Type 0} {P Q : X → Type 0} (r : Result X E) → ((x : X) → P x → Q x) → IfOk r P → IfOk r Q
IfOk-then (Ok x) f p = f x p
IfOk-then (Err e) f p = tt

-- what is summed over the items that are left
pub sum_left : {X : Type 0} (f : X → ℕ) (xs : List X) (k : ℕ) (x : X) → k < length xs → x ≡ get_or xs k x → sum_by f (drop k xs) ≡ f x + sum_by f (drop (k + 1) xs)
sum_left f xs k x lt is = sum_by-drop_more f xs k x lt ∙ ap (λ y. f y + sum_by f (drop (k + 1) xs)) (sym is)
