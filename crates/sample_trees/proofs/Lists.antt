-- Lists of known length.
use Rattle.std.proofs.Common.{ℕ, zero, suc, ◌<◌, List, [], ◌∷◌, arith}
use Rattle.std.specs.Prelude.{All, Contains}
use Rattle.f77_tree.proofs.AllLemmas.{All-nil, All-cons}

abbrev pub Each : {X : Type 0} → (X → Type 0) → List X → Type 0
Each P [] = Unit {0}
Each P (x ∷ xs) = P x × Each P xs

pub each : {X : Type 0} (P : X → Type 0) (xs : List X) → Each P xs → All P xs
each P [] all = All-nil P
each P (x ∷ xs) all = All-cons P x xs all.0 (each P xs all.1)

pub none : {X : Type 0} (x : X) → Contains [] x → ⊥
none x at = omega (arith, at.1)

pub below_one : (P : ℕ → Type 0) → P 0 → (n : ℕ) → n < 1 → P n
below_one P holds zero lt = holds
below_one P holds (suc n) lt = absurd (omega (arith, lt))

pub below_four : (P : ℕ → Type 0) → P 0 → P 1 → P 2 → P 3 → (x : ℕ) → x < 4 → P x
below_four P a b c d zero lt = a
below_four P a b c d (suc zero) lt = b
below_four P a b c d (suc (suc zero)) lt = c
below_four P a b c d (suc (suc (suc zero))) lt = d
below_four P a b c d (suc (suc (suc (suc x)))) lt = absurd (omega (arith, lt))
