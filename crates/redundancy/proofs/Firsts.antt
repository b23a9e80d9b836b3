-- Expressions in the order in which they first stand in a list.
use Rattle.std.proofs.Common.{◌≡◌, ℕ, zero, suc, ◌≤◌, ◌⊎◌, List, [], ◌∷◌, ◌++◌, length, sym, ap, ◌∙◌, subst, inl, inr, ⊎_elim, arith}
use Rattle.std.specs.Prelude.{Some, slice_get, Contains}
use Rattle.f77_tree.specs.declared.expressions.Expr.{Expr}
use Rattle.f77_tree.specs.declared.programs.NameInfo.{NameInfo}
use Rattle.redundancy.specs.Candidates.{IsCandidate}
use Rattle.redundancy.specs.Collected.{AreCandidatesIn, none, take as take_one, skip}
use Rattle.redundancy.specs.Computed.{StandsBefore}
use Rattle.redundancy.specs.Noted.{AreFirst}
use Rattle.redundancy.specs.Numbers.{IsNumbered}
use Rattle.redundancy.proofs.Tables.{get_left, get_within, get_more, get_of_contains, contains_of_get, contains-here, contains-later, contains-left, contains-right, some_same}

-- what stands in a list with one item more
pub contains_more : {X : Type 0} (xs : List X) (x y : X) → Contains (xs ++ x ∷ []) y → Contains xs y ⊎ (x ≡ y)
contains_more xs x y c = ⊎_elim
    (λ old. inl (contains_of_get xs c.0 y old))
    (λ new. inr new.1)
    (get_more xs x y c.0 (get_of_contains (xs ++ x ∷ []) y c))

pub contains-last : {X : Type 0} (xs : List X) (x : X) → Contains (xs ++ x ∷ []) x
contains-last xs x = contains-right xs (x ∷ []) x (contains-here x [])

pub contains_first : {X : Type 0} (x : X) (xs : List X) (y : X) → Contains (x ∷ xs) y → (x ≡ y) ⊎ Contains xs y
contains_first x xs y (zero, lt, is) = inl is
contains_first x xs y (suc k, lt, is) = inr (k, omega (arith, lt), is)

-- ---- the first places

before_more : (all : List Expr) (x e d : Expr) → StandsBefore all e d → StandsBefore (all ++ x ∷ []) e d
before_more all x e d b =
    let within = get_within all b.place e b.is in
    record {
      place = b.place;
      is = get_left all (x ∷ []) b.place within ∙ b.is;
      first = λ k le at. b.first k le (sym (get_left all (x ∷ []) k (omega (arith, le, within))) ∙ at);
    }

-- e stands in the list, and d after it alone
before_last : (all : List Expr) (e d : Expr) → Contains all e → (Contains all d → ⊥) → StandsBefore (all ++ d ∷ []) e d
before_last all e d c isnt =
    let lt = c.1 in
    record {
      place = c.0;
      is = get_left all (d ∷ []) c.0 c.1 ∙ get_of_contains all e c;
      first = λ k le at. isnt (contains_of_get all k d (sym (get_left all (d ∷ []) k (omega (arith, le, lt))) ∙ at));
    }

-- one expression more, which is numbered
pub firsts_more : (all old new : List Expr) (e : Expr) (k : ℕ) → AreFirst all old → IsNumbered e old new k → AreFirst (all ++ e ∷ []) new
firsts_more all old new e k f n = ⊎_elim
    (λ (same : new ≡ old).
    let here : Contains old e = contains_of_get old k e (ap (λ (z : List Expr). slice_get z k) (sym same) ∙ n.at) in
    let done : AreFirst (all ++ e ∷ []) old = record {
      sound = λ j d is. contains-left all (e ∷ []) d (f.sound j d is);
      whole = λ d c. ⊎_elim (λ before. f.whole d before) (λ is. subst (λ x. Contains old x) is here) (contains_more all e d c);
      ordered = λ i j a b less is_a is_b. before_more all e a b (f.ordered i j a b less is_a is_b);
    } in
    subst (λ (z : List Expr). AreFirst (all ++ e ∷ []) z) (sym same) done)
    (λ grown.
    let isnt : Contains all e → ⊥ = λ c. grown.1 (f.whole e c) in
    let done : AreFirst (all ++ e ∷ []) (old ++ e ∷ []) = record {
      sound = λ j d is. ⊎_elim
          (λ before. contains-left all (e ∷ []) d (f.sound j d before))
          (λ now. subst (λ x. Contains (all ++ e ∷ []) x) now.1 (contains-last all e))
          (get_more old e d j is);
      whole = λ d c. ⊎_elim
          (λ before. contains-left old (e ∷ []) d (f.whole d before))
          (λ is. subst (λ x. Contains (old ++ e ∷ []) x) is (contains-last old e))
          (contains_more all e d c);
      ordered = λ i j a b less is_a is_b. ⊎_elim
          (λ (old_b : slice_get old j ≡ Some b).
          let within = get_within old j b old_b in
          before_more all e a b (f.ordered i j a b less (sym (get_left old (e ∷ []) i (omega (arith, less, within))) ∙ is_a) old_b))
          (λ new_b.
          let last : j ≡ length old = new_b.0 in
          let at_a : slice_get old i ≡ Some a = sym (get_left old (e ∷ []) i (omega (arith, less, last))) ∙ is_a in
          subst (λ x. StandsBefore (all ++ e ∷ []) a x) new_b.1 (before_last all a e (f.sound i a at_a) isnt))
          (get_more old e b j is_b);
    } in
    subst (λ (z : List Expr). AreFirst (all ++ e ∷ []) z) (sym grown.0) done)
    n.grows

-- ---- candidates among others

shift_first : (x : Expr) (xs : List Expr) (d : Expr) (place : ℕ) → ((k : ℕ) → k ≤ place → slice_get xs k ≡ Some d → ⊥) → (x ≡ d → ⊥) → (k : ℕ) → k ≤ suc place → slice_get (x ∷ xs) k ≡ Some d → ⊥
shift_first x xs d place first differ zero le at = differ (some_same x d at)
shift_first x xs d place first differ (suc k) le at = first k (omega (arith, le)) at

here_get : (x : Expr) (xs ys : List Expr) (d : Expr) (k : ℕ) → k ≤ 0 → slice_get (x ∷ xs) k ≡ Some d → slice_get (x ∷ ys) 0 ≡ Some d
here_get x xs ys d zero le at = at
here_get x xs ys d (suc k) le at = absurd (omega (arith, le))

module _ (names : List NameInfo) where
  pub chosen_sound : (es found : List Expr) (e : Expr) → AreCandidatesIn names es found → Contains found e → IsCandidate names e × Contains es e
  chosen_sound es found e none c = let lt = c.1 in absurd (omega (arith, lt))
  chosen_sound es found e (take_one x xs ys is a) c = ⊎_elim
      (λ same. (subst (IsCandidate names) same is, subst (λ y. Contains (x ∷ xs) y) same (contains-here x xs)))
      (λ later. let rest = chosen_sound xs ys e a later in (rest.0, contains-later x e xs rest.1))
      (contains_first x ys e c)
  chosen_sound es found e (skip x xs ys isnt a) c = let rest = chosen_sound xs ys e a c in (rest.0, contains-later x e xs rest.1)

  pub chosen_whole : (es found : List Expr) (e : Expr) → AreCandidatesIn names es found → IsCandidate names e → Contains es e → Contains found e
  chosen_whole es found e none is c = let lt = c.1 in absurd (omega (arith, lt))
  chosen_whole es found e (take_one x xs ys is_x a) is c = ⊎_elim
      (λ same. subst (λ y. Contains (x ∷ ys) y) same (contains-here x ys))
      (λ later. contains-later x e ys (chosen_whole xs ys e a is later))
      (contains_first x xs e c)
  chosen_whole es found e (skip x xs ys isnt a) is c = ⊎_elim
      (λ same. absurd (isnt (subst (IsCandidate names) (sym same) is)))
      (λ later. chosen_whole xs ys e a is later)
      (contains_first x xs e c)

  shift_before : (x : Expr) (xs : List Expr) (e d : Expr) → StandsBefore xs e d → (x ≡ d → ⊥) → StandsBefore (x ∷ xs) e d
  shift_before x xs e d b differ = record { place = suc b.place; is = b.is; first = shift_first x xs d b.place b.first differ }

  chosen_from : (es found : List Expr) (e d : Expr) → AreCandidatesIn names es found → IsCandidate names d → (place : ℕ) → slice_get found place ≡ Some e → ((k : ℕ) → k ≤ place → slice_get found k ≡ Some d → ⊥) → StandsBefore es e d
  chosen_from es found e d none is_d place is first = absurd cc
  chosen_from es found e d (take_one x xs ys is_x a) is_d zero is first = record { place = 0; is = is; first = λ k le at. first 0 (omega arith) (here_get x xs ys d k le at) }
  chosen_from es found e d (take_one x xs ys is_x a) is_d (suc place) is first = shift_before x xs e d (chosen_from xs ys e d a is_d place is (λ k le at. first (suc k) (omega (arith, le)) at)) (λ same. first 0 (omega arith) (ap Some same))
  chosen_from es found e d (skip x xs ys isnt a) is_d place is first = shift_before x xs e d (chosen_from xs ys e d a is_d place is first) (λ same. isnt (subst (IsCandidate names) (sym same) is_d))

  pub chosen_before : (es found : List Expr) (e d : Expr) → AreCandidatesIn names es found → IsCandidate names d → StandsBefore found e d → StandsBefore es e d
  chosen_before es found e d a is_d b = chosen_from es found e d a is_d b.place b.is b.first
