-- Lists in one order: no two items of them are the same, and two with the same items are the same.
use Rattle.std.proofs.Common.{◌≡◌, ◌≢◌, ℕ, zero, suc, ◌<◌, ◌≤◌, Bool, true, false, List, [], ◌∷◌, length, get_or, refl, sym, ap, ◌∙◌, subst, ⊎_elim, arith}
use Rattle.std.specs.Prelude.{Option, Some, None, slice_get, Contains, ◌↔◌}
use Rattle.std.proofs.lemmas.Bool.{cases_eq, cases_lt}
use Rattle.std.proofs.lemmas.Option.{slice_get-get_or}
use Rattle.f77_tree.specs.declared.expressions.Expr.{Expr}
use Rattle.f77_tree.specs.declared.programs.Program.{Program}
use Rattle.alias_classes.specs.Classes.{ClassTable}
use Rattle.cfg_build.specs.Joined.{FlowGraph}
use Rattle.redundancy.specs.Available.{Availability, IsAvailability, IsAvailable, AreSameAvailability, available_at}
use Rattle.redundancy.specs.Computed.{StandsBefore, AreCandidates, all_computed}
use Rattle.redundancy.specs.Kept.{AreDistinct}
use Rattle.redundancy.proofs.Tables.{get_within, get_of_contains, contains_of_get, some_same}

-- ---- which stands first

-- of two expressions only one stands before the other
never_both : (all : List Expr) (e d : Expr) → StandsBefore all e d → StandsBefore all d e → ⊥
never_both all e d p q = ⊎_elim
    (λ (l : p.place < q.place). q.first p.place (omega (arith, l)) p.is)
    (λ (m : q.place ≤ p.place). p.first q.place m q.is)
    (cases_lt p.place q.place)

module _ (all : List Expr) where
  abbrev pub AreInOrder : List Expr → Type 0
  AreInOrder es = (i j : ℕ) (e d : Expr) → i < j → slice_get es i ≡ Some e → slice_get es j ≡ Some d → StandsBefore all e d

  pub in_order_distinct : (es : List Expr) → AreInOrder es → AreDistinct es
  in_order_distinct es order i j e is_i is_j = ⊎_elim
      (λ (same : i ≡ j). same)
      (λ (apart : i ≢ j). ⊎_elim
      (λ (l : i < j). let b = order i j e e l is_i is_j in absurd (never_both all e e b b))
      (λ (m : j ≤ i). let b = order j i e e (omega (arith, m, apart)) is_j is_i in absurd (never_both all e e b b))
      (cases_lt i j))
      (cases_eq i j)

pub candidates_distinct : (p : Program) (f : FlowGraph) (candidates : List Expr) → AreCandidates p f candidates → AreDistinct candidates
candidates_distinct p f candidates are = in_order_distinct (all_computed p.execs f) candidates are.ordered

-- ---- two lists with the same items

same_items : (xs ys : List Expr) → ((k : ℕ) → slice_get xs k ≡ slice_get ys k) → xs ≡ ys
same_items [] [] each = refl
same_items [] (y ∷ ys) each = let clash : None ≡ Some y = each 0 in absurd cc
same_items (x ∷ xs) [] each = let clash : Some x ≡ None = each 0 in absurd cc
same_items (x ∷ xs) (y ∷ ys) each = ap (λ z. z ∷ xs) (some_same x y (each 0)) ∙ ap (λ zs. y ∷ zs) (same_items xs ys (λ k. each (suc k)))

-- the items of the one list stand in the other
abbrev pub StandIn : List Expr → List Expr → Type 0
StandIn es others = (e : Expr) → Contains es e → Contains others e

-- up to a place the items are the same
abbrev AreSameBelow : List Expr → List Expr → ℕ → Type 0
AreSameBelow xs ys n = (k : ℕ) → k < n → slice_get xs k ≡ slice_get ys k

module _ (all : List Expr) where
  next_same : (xs ys : List Expr) (k : ℕ) (e : Expr) → AreInOrder all xs → AreInOrder all ys → StandIn xs ys → StandIn ys xs → AreSameBelow xs ys k → slice_get xs k ≡ Some e → slice_get ys k ≡ Some e
  next_same xs ys k e order others into back below is = ⊎_elim
      (λ (same : i ≡ k). subst (λ n. slice_get ys n ≡ Some e) same at)
      (λ (apart : i ≢ k). ⊎_elim
      (λ (l : i < k). absurd (apart (in_order_distinct all xs order i k e (below i l ∙ at) is)))
      (λ (m : k ≤ i). by_next (omega (arith, m, apart)))
      (cases_lt i k))
      (cases_eq i k)
    where
      there : Contains ys e
      there = into e (contains_of_get xs k e is)

      i : ℕ
      i = there.0

      at : slice_get ys i ≡ Some e
      at = get_of_contains ys e there

      -- the other list has an item there, which stands later in this one
      by_next : k < i → slice_get ys k ≡ Some e
      by_next less = ⊎_elim
          (λ (same : j ≡ k). here ∙ sym (subst (λ n. slice_get xs n ≡ Some d) same found) ∙ is)
          (λ (apart : j ≢ k). ⊎_elim
          (λ (l : j < k). absurd (apart (in_order_distinct all ys others j k d (sym (below j l) ∙ found) here)))
          (λ (m : k ≤ j). absurd (never_both all e d (order k j e d (omega (arith, m, apart)) is found) (others k i d e less here at)))
          (cases_lt j k))
          (cases_eq j k)
        where
          d : Expr
          d = get_or ys k e

          here : slice_get ys k ≡ Some d
          here = slice_get-get_or ys k e (let within = get_within ys i e at in omega (arith, less, within))

          back_there : Contains xs d
          back_there = back d (contains_of_get ys k d here)

          j : ℕ
          j = back_there.0

          found : slice_get xs j ≡ Some d
          found = get_of_contains xs d back_there

  module _ (xs ys : List Expr) (order : AreInOrder all xs) (others : AreInOrder all ys) (into : StandIn xs ys) (back : StandIn ys xs) where
    same_at : (k : ℕ) → AreSameBelow xs ys k → slice_get xs k ≡ slice_get ys k
    same_at k below = by (slice_get xs k) (slice_get ys k) refl refl
      where
        by : (o u : Option Expr) → slice_get xs k ≡ o → slice_get ys k ≡ u → slice_get xs k ≡ slice_get ys k
        by (Some e) u is also = is ∙ sym (next_same xs ys k e order others into back below is)
        by None None is also = is ∙ sym also
        by None (Some d) is also = next_same ys xs k d others order back into (λ i l. sym (below i l)) also ∙ sym also

    same_below : (n : ℕ) → AreSameBelow xs ys n
    same_below zero k less = absurd (omega (arith, less))
    same_below (suc n) k less = ⊎_elim
        (λ (l : k < n). same_below n k l)
        (λ (m : n ≤ k). subst (λ i. slice_get xs i ≡ slice_get ys i) (omega (arith, less, m)) (same_at n (same_below n)))
        (cases_lt k n)

    pub one_order : xs ≡ ys
    one_order = same_items xs ys (λ k. same_below (suc k) k (omega arith))

-- a program has one list of candidates
pub one_list : (p : Program) (f : FlowGraph) (xs ys : List Expr) → AreCandidates p f xs → AreCandidates p f ys → xs ≡ ys
one_list p f xs ys are also = one_order (all_computed p.execs f) xs ys are.ordered also.ordered
    (λ e c. let s = are.sound c.0 e (get_of_contains xs e c) in also.whole e s.0 s.1)
    (λ e c. let s = also.sound c.0 e (get_of_contains ys e c) in are.whole e s.0 s.1)

-- ---- tables

slice_get_within : (xs : List Expr) (k : ℕ) → k < length xs → (e : Expr) × (slice_get xs k ≡ Some e)
slice_get_within [] k less = absurd (omega (arith, less))
slice_get_within (x ∷ xs) zero less = (x, refl)
slice_get_within (x ∷ xs) (suc k) less = slice_get_within xs k (omega (arith, less))

same_test : (A : Type 0) (a b : Bool) → (a ≡ true) ↔ A → (b ≡ true) ↔ A → a ≡ b
same_test A true b left right = sym (right.1 (left.0 refl))
same_test A false true left right = left.1 (right.0 refl)
same_test A false false left right = refl

pub same_tables : (p : Program) (f : FlowGraph) (c : ClassTable) (a b : Availability) → IsAvailability p f c a → IsAvailability p f c b → AreSameAvailability f a b
same_tables p f c a b are also =
    let same = one_list p f a.candidates b.candidates are.candidates also.candidates in
    record {
      candidates = same;
      available = λ k node less inside.
          let e = slice_get_within a.candidates k less in
          same_test (IsAvailable p f c e.0 node) (available_at a k node) (available_at b k node)
          (are.available k node e.0 e.1 inside)
          (also.available k node e.0 (ap (λ (es : List Expr). slice_get es k) (sym same) ∙ e.1) inside);
    }
