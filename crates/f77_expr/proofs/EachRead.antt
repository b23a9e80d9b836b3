-- What holds of each answer of a reader, and readers one after another.
use Rattle.std.proofs.Common.{◌≡◌, ℕ, Bool, true, false, List, Option, Some, None, if◌then◌else◌, refl, ap, subst, ◌∙◌}
use Rattle.f77_expr.specs.Reader.{Reads, read_as, and_then_read, this_or}

-- nothing is read, or what is read and the rest after it are related so
abbrev pub Each : {A : Type 0} → (A → List ℕ → Type 0) → Reads A → Type 0
Each P None = Unit {0}
Each P (Some (a, rest)) = P a rest

module _ {A : Type 0} (P : A → List ℕ → Type 0) where
  -- of an answer that is known
  pub each_at : (x : Reads A) → Each P x → (a : A) (rest : List ℕ) → x ≡ Some (a, rest) → P a rest
  each_at x h a rest e = subst (λ (y : Reads A). Each P y) e h

  pub each_if : (b : Bool) (x y : Reads A) → (b ≡ true → Each P x) → (b ≡ false → Each P y) → Each P (if b then x else y)
  each_if true x y then_each else_each = then_each refl
  each_if false x y then_each else_each = else_each refl

  pub each_weaker : (Q : A → List ℕ → Type 0) (x : Reads A) → ((a : A) (rest : List ℕ) → P a rest → Q a rest) → Each P x → Each Q x
  each_weaker Q None weaken h = tt
  each_weaker Q (Some (a, rest)) weaken h = weaken a rest h

  pub each_this_or : (a : A) (x : Option (List ℕ)) (others : Reads A) → ((rest : List ℕ) → x ≡ Some rest → P a rest) → Each P others → Each P (this_or a x others)
  each_this_or a None others here h = h
  each_this_or a (Some rest) others here h = here rest refl

module _ {A B : Type 0} (P : A → List ℕ → Type 0) (Q : B → List ℕ → Type 0) where
  pub each_then : (go : A → List ℕ → Reads B) (x : Reads A) → Each P x → ((a : A) (rest : List ℕ) → P a rest → Each Q (go a rest)) → Each Q (and_then_read go x)
  each_then go None h k = tt
  each_then go (Some (a, rest)) h k = k a rest h

  pub each_as : (f : A → B) (x : Reads A) → Each P x → ((a : A) (rest : List ℕ) → P a rest → Q (f a) rest) → Each Q (read_as f x)
  each_as f None h k = tt
  each_as f (Some (a, rest)) h k = k a rest h

module _ {A B : Type 0} where
  -- the same is read, and what goes on after it agrees there
  pub then_same : (P : A → List ℕ → Type 0) (go other : A → List ℕ → Reads B) (x y : Reads A) → x ≡ y → Each P x → ((a : A) (rest : List ℕ) → P a rest → go a rest ≡ other a rest) → and_then_read go x ≡ and_then_read other y
  then_same P go other x y e h k = same x h ∙ ap (and_then_read other) e
    where
      same : (z : Reads A) → Each P z → and_then_read go z ≡ and_then_read other z
      same None each = refl
      same (Some (a, rest)) each = k a rest each

pub if_same : {A : Type 0} (b : Bool) (x x_other y y_other : A) → (b ≡ true → x ≡ x_other) → (b ≡ false → y ≡ y_other) → (if b then x else y) ≡ (if b then x_other else y_other)
if_same true x x_other y y_other then_same else_same = then_same refl
if_same false x x_other y y_other then_same else_same = else_same refl

pub if_true : {A : Type 0} (b : Bool) (x y : A) → b ≡ true → (if b then x else y) ≡ x
if_true b x y e = ap (λ (test : Bool). if test then x else y) e

pub if_false : {A : Type 0} (b : Bool) (x y : A) → b ≡ false → (if b then x else y) ≡ y
if_false b x y e = ap (λ (test : Bool). if test then x else y) e

-- what was read, and the rest, where both answers are one
pub same_read : {A : Type 0} (a b : A) (s t : List ℕ) → ◌≡◌ {A = Reads A} (Some (a, s)) (Some (b, t)) → (a ≡ b) × (s ≡ t)
same_read {A = A} a b s t e =
    let inner : ◌≡◌ {A = A × List ℕ} (a, s) (b, t) = cc in
    (ap (λ (pair : A × List ℕ). pair.0) inner, ap (λ (pair : A × List ℕ). pair.1) inner)
