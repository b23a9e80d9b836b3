-- How often all that is known can still rise.
use Rattle.std.proofs.Common.{◌≡◌, ◌≢◌, ◌<◌, ◌≤◌, ◌+◌, ℕ, zero, suc, sym, subst, ⊎_elim, arith}
use Rattle.std.proofs.lemmas.Bool.{cases_eq}
use Rattle.const_prop.specs.declared.known.Known.{Known}
use Rattle.const_prop.specs.declared.known.Known.TheVariants.{Nothing, One, Any}
use Rattle.const_prop.specs.Known.{AtMost}
use Rattle.const_prop.specs.Rise.{room}
use Rattle.const_prop.specs.Work.{sum_below, rooms}

pub sum-no_more : (f g : ℕ → ℕ) (n : ℕ) → ((k : ℕ) → k < n → f k ≤ g k) → sum_below f n ≤ sum_below g n
sum-no_more f g zero each = omega arith
sum-no_more f g (suc n) each =
    let rest = sum-no_more f g n (λ k l. each k (omega arith)) in
    let last = each n (omega arith) in
    omega (arith, rest, last)

-- one term is less, and none is more
pub sum-less : (f g : ℕ → ℕ) (n at : ℕ) → ((k : ℕ) → k < n → f k ≤ g k) → at < n → f at + 1 ≤ g at → sum_below f n + 1 ≤ sum_below g n
sum-less f g zero at each inside here = absurd (omega (arith, inside))
sum-less f g (suc n) at each inside here = ⊎_elim
    (λ (is : at ≡ n).
    let rest = sum-no_more f g n (λ k l. each k (omega arith)) in
    let last : f n + 1 ≤ g n = subst (λ (k : ℕ). f k + 1 ≤ g k) is here in
    omega (arith, rest, last))
    (λ (differ : at ≢ n).
    let rest = sum-less f g n at (λ k l. each k (omega arith)) (omega arith) here in
    let last = each n (omega arith) in
    omega (arith, rest, last))
    (cases_eq at n)

-- one term may be more by one, and no other is
pub sum-one_more : (f g : ℕ → ℕ) (n at : ℕ) → ((k : ℕ) → k < n → k ≢ at → f k ≤ g k) → f at ≤ g at + 1 → sum_below f n ≤ sum_below g n + 1
sum-one_more f g zero at each here = omega arith
sum-one_more f g (suc n) at each here = ⊎_elim
    (λ (is : n ≡ at).
    let rest = sum-no_more f g n (λ k l. each k (omega arith) (λ same. omega (arith, l, same, is))) in
    let last : f n ≤ g n + 1 = subst (λ (k : ℕ). f k ≤ g k + 1) (sym is) here in
    omega (arith, rest, last))
    (λ (differ : n ≢ at).
    let rest = sum-one_more f g n at (λ k l. each k (omega arith)) here in
    let last = each n (omega arith) differ in
    omega (arith, rest, last))
    (cases_eq n at)

pub room-no_more : (j k : Known) → AtMost j k → room k ≤ room j
room-no_more Nothing Nothing a = omega arith
room-no_more Nothing (One v) a = omega arith
room-no_more Nothing Any a = omega arith
room-no_more (One v) Nothing a = absurd a
room-no_more (One v) (One w) a = omega arith
room-no_more (One v) Any a = omega arith
room-no_more Any Nothing a = absurd a
room-no_more Any (One w) a = absurd a
room-no_more Any Any a = omega arith

-- where nothing falls and something rises there is less room
pub rooms-less : (old new : ℕ → ℕ → Known) (lines edges line edge : ℕ) → ((l e : ℕ) → l < lines → e < edges → AtMost (old l e) (new l e)) → line < lines → edge < edges → room (new line edge) < room (old line edge) → rooms new lines edges + 1 ≤ rooms old lines edges
rooms-less old new lines edges line edge grows in_l in_e rises =
    sum-less (λ e. sum_below (λ l. room (new l e)) lines) (λ e. sum_below (λ l. room (old l e)) lines) edges edge
    (λ e k. sum-no_more (λ l. room (new l e)) (λ l. room (old l e)) lines (λ l m. room-no_more (old l e) (new l e) (grows l e m k)))
    in_e
    (sum-less (λ l. room (new l edge)) (λ l. room (old l edge)) lines line (λ l m. room-no_more (old l edge) (new l edge) (grows l edge m in_e)) in_l (omega arith))
