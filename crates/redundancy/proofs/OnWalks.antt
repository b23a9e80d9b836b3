-- What is computed on walks, an edge at a time.
use Rattle.std.proofs.Common.{◌≡◌, ℕ, ◌<◌, ◌⊎◌, Bool, true, false, not, ◌&&◌, ◌||◌, List, [], ◌∷◌, ◌++◌, refl, sym, ap, ◌∙◌, subst, inl, inr, ⊎_elim}
use Rattle.std.proofs.lemmas.Bool.{cases_Bool, false≢true}
use Rattle.closed_walks.specs.Graph.{Graph, edge_count, from, to}
use Rattle.closed_walks.specs.Walk.{Walk, Holds}
use Rattle.redundancy.specs.Available.{IsComputedOn, IsOnAllWalks}
use Rattle.redundancy.specs.Solving.{IsLost, missing_after}
use Rattle.closed_walks.proofs.Held.{Holds-left, Holds-right, Holds-append}

-- ---- tests

left_true : (a b : Bool) → a ≡ true → (a || b) ≡ true
left_true true b is = refl
left_true false b is = absurd (false≢true is)

rest_true : (a b c : Bool) → b ≡ true → c ≡ false → (a || (b && not c)) ≡ true
rest_true true b c is none = refl
rest_true false true true is none = sym none
rest_true false true false is none = refl
rest_true false false c is none = absurd (false≢true is)

not_of_true : (a : Bool) → a ≡ true → not a ≡ false
not_of_true true is = refl
not_of_true false is = absurd (false≢true is)

or_cases : (a b c : Bool) → (a || (b && c)) ≡ true → (a ≡ true) ⊎ ((b ≡ true) × (c ≡ true))
or_cases true b c is = inl refl
or_cases false true true is = inr (refl, refl)
or_cases false true false is = absurd (false≢true is)
or_cases false false c is = absurd (false≢true is)

-- ---- lists

append_one : (w : List ℕ) (e : ℕ) (z : List ℕ) → (w ++ e ∷ []) ++ z ≡ w ++ e ∷ z
append_one [] e z = refl
append_one (f ∷ w) e z = ap (λ x. f ∷ x) (append_one w e z)

append_more : (before : List ℕ) (edge : ℕ) (after : List ℕ) (e : ℕ) → (before ++ edge ∷ after) ++ e ∷ [] ≡ before ++ edge ∷ (after ++ e ∷ [])
append_more [] edge after e = refl
append_more (b ∷ before) edge after e = ap (λ x. b ∷ x) (append_more before edge after e)

append_none : (w : List ℕ) → w ++ [] ≡ w
append_none [] = refl
append_none (f ∷ w) = ap (λ x. f ∷ x) (append_none w)

pub head_same : (x y : ℕ) (xs ys : List ℕ) → x ∷ xs ≡ y ∷ ys → x ≡ y
head_same x y xs ys e = cc

pub tail_same : (x y : ℕ) (xs ys : List ℕ) → x ∷ xs ≡ y ∷ ys → xs ≡ ys
tail_same x y xs ys e = cc

-- a split of a list with one item more is at that item, or a split of the list
pub record IsLater (w : List ℕ) (x : ℕ) (before : List ℕ) (edge : ℕ) (after : List ℕ) : Type 0 where
  pub rest : List ℕ
  pub after_is : after ≡ rest ++ x ∷ []
  pub is : w ≡ before ++ edge ∷ rest

pub split_more : (w before after : List ℕ) (x edge : ℕ) → w ++ x ∷ [] ≡ before ++ edge ∷ after → (edge ≡ x) ⊎ IsLater w x before edge after
split_more [] [] after x edge e = inl (sym (head_same x edge [] after e))
split_more [] (b ∷ []) after x edge e = let h = tail_same x b [] (edge ∷ after) e in absurd cc
split_more [] (b ∷ c ∷ before) after x edge e = let h = tail_same x b [] (c ∷ before ++ edge ∷ after) e in absurd cc
split_more (a ∷ w) [] after x edge e = inr (record { rest = w; after_is = sym (tail_same a edge (w ++ x ∷ []) after e); is = ap (λ y. y ∷ w) (head_same a edge (w ++ x ∷ []) after e) })
split_more (a ∷ w) (b ∷ before) after x edge e = ⊎_elim
    (λ same. inl same)
    (λ later. inr (record { rest = later.rest; after_is = later.after_is; is = ap (λ y. a ∷ y) later.is ∙ ap (λ y. y ∷ before ++ edge ∷ later.rest) (head_same a b (w ++ x ∷ []) (before ++ edge ∷ after) e) }))
    (split_more w before after x edge (tail_same a b (w ++ x ∷ []) (before ++ edge ∷ after) e))

last_held : (w before after : List ℕ) (x edge : ℕ) → w ++ x ∷ [] ≡ before ++ edge ∷ after → Holds (edge ∷ after) x
last_held w before after x edge e = ⊎_elim
    (λ same. inl same)
    (λ later. inr (subst (λ z. Holds z x) (sym later.after_is) (Holds-right later.rest (x ∷ []) x (inl refl))))
    (split_more w before after x edge e)

none_on : (before after : List ℕ) (edge : ℕ) → [] ≡ before ++ edge ∷ after → ⊥
none_on [] after edge e = cc
none_on (b ∷ before) after edge e = cc

module _ (g : Graph) where
  pub Walk-append : (u v x : ℕ) (w z : List ℕ) → Walk g u w v → Walk g v z x → Walk g u (w ++ z) x
  Walk-append u v x [] z same rest = subst (λ n. Walk g n z x) (sym same) rest
  Walk-append u v x (e ∷ w) z h rest = (h.0, h.1, Walk-append (to g e) v x w z h.2 rest)

  pub Walk-more : (u e : ℕ) (w : List ℕ) → e < edge_count g → Walk g u w (from g e) → Walk g u (w ++ e ∷ []) (to g e)
  Walk-more u e w edge leads = Walk-append u (from g e) (to g e) w (e ∷ []) leads (edge, refl, refl)

  module _ (computes kills : ℕ → Type 0) where
    pub lost-start : IsLost g computes kills 0
    lost-start = record { walk = []; leads = refl; lost = λ c. none_on c.before c.after c.edge c.is }

    pub lost-kill : (e : ℕ) (w : List ℕ) → e < edge_count g → Walk g 0 w (from g e) → kills (from g e) → IsLost g computes kills (to g e)
    lost-kill e w edge leads kill = record {
      walk = w ++ e ∷ [];
      leads = Walk-more 0 e w edge leads;
      lost = λ c. c.kept e (last_held w c.before c.after e c.edge c.is) kill;
    }

    pub lost-on : (e : ℕ) → e < edge_count g → (computes (from g e) → ⊥) → IsLost g computes kills (from g e) → IsLost g computes kills (to g e)
    lost-on e edge none l = record {
      walk = l.walk ++ e ∷ [];
      leads = Walk-more 0 e l.walk edge l.leads;
      lost = λ c. ⊎_elim
          (λ (same : c.edge ≡ e). none (subst (λ x. computes (from g x)) same c.computed))
          (λ later. l.lost (record {
            before = c.before;
            edge = c.edge;
            after = later.rest;
            is = later.is;
            computed = c.computed;
            kept = λ x holds. ⊎_elim
                (λ same. c.kept x (inl same))
                (λ h. c.kept x (inr (subst (λ z. Holds z x) (sym later.after_is) (Holds-left later.rest (e ∷ []) x h))))
                holds;
          }))
          (split_more l.walk c.before c.after e c.edge c.is);
    }

    computed-here : (e : ℕ) (w : List ℕ) → computes (from g e) → (kills (from g e) → ⊥) → IsComputedOn g computes kills (w ++ e ∷ [])
    computed-here e w computed none = record {
      before = w;
      edge = e;
      after = [];
      is = refl;
      computed = computed;
      kept = λ x. ⊎_elim (λ (same : e ≡ x). λ kill. none (subst (λ y. kills (from g y)) (sym same) kill)) (λ h. absurd h);
    }

    computed-on : (e : ℕ) (w : List ℕ) → (kills (from g e) → ⊥) → IsComputedOn g computes kills w → IsComputedOn g computes kills (w ++ e ∷ [])
    computed-on e w none c = record {
      before = c.before;
      edge = c.edge;
      after = c.after ++ e ∷ [];
      is = ap (λ z. z ++ e ∷ []) c.is ∙ append_more c.before c.edge c.after e;
      computed = c.computed;
      kept = λ x. ⊎_elim
          (λ same. c.kept x (inl same))
          (λ h. ⊎_elim
          (λ old. c.kept x (inr old))
          (⊎_elim (λ (same : e ≡ x). λ kill. none (subst (λ y. kills (from g y)) (sym same) kill)) (λ no. absurd no))
          (Holds-append c.after (e ∷ []) x h));
    }

-- ---- what is missing, told by tests

module _ (g : Graph) (computes kills missing : ℕ → Bool) where
  abbrev pub Does : (ℕ → Bool) → ℕ → Type 0
  Does test node = test node ≡ true

  -- before an edge it is missing, or was computed on the walk up to it; so it is after it
  step : (e : ℕ) (w : List ℕ) → e < edge_count g → (missing_after computes kills missing (from g e) ≡ true → missing (to g e) ≡ true) → (missing (from g e) ≡ true) ⊎ IsComputedOn g (Does computes) (Does kills) w → (missing (to g e) ≡ true) ⊎ IsComputedOn g (Does computes) (Does kills) (w ++ e ∷ [])
  step e w edge passes state = ⊎_elim
      (λ (kill : kills (from g e) ≡ true). inl (passes (left_true (kills (from g e)) _ kill)))
      (λ (lives : kills (from g e) ≡ false).
      let none : kills (from g e) ≡ true → ⊥ = λ kill. false≢true (sym lives ∙ kill) in
      ⊎_elim
      (λ (now : computes (from g e) ≡ true). inr (computed-here g (Does computes) (Does kills) e w now none))
      (λ (not_now : computes (from g e) ≡ false). ⊎_elim
      (λ (gone : missing (from g e) ≡ true). inl (passes (rest_true (kills (from g e)) (missing (from g e)) (computes (from g e)) gone not_now)))
      (λ c. inr (computed-on g (Does computes) (Does kills) e w none c))
      state)
      (cases_Bool (computes (from g e))))
      (cases_Bool (kills (from g e)))

  steps : (closed : (e : ℕ) → e < edge_count g → missing_after computes kills missing (from g e) ≡ true → missing (to g e) ≡ true) (u v : ℕ) (prefix w : List ℕ) → Walk g u w v → (missing u ≡ true) ⊎ IsComputedOn g (Does computes) (Does kills) prefix → (missing v ≡ true) ⊎ IsComputedOn g (Does computes) (Does kills) (prefix ++ w)
  steps closed u v prefix [] same state = rw append_none (subst (λ n. (missing n ≡ true) ⊎ IsComputedOn g (Does computes) (Does kills) prefix) same state)
  steps closed u v prefix (e ∷ w) leads state =
      let here = step e prefix leads.0 (closed e leads.0) (subst (λ n. (missing n ≡ true) ⊎ IsComputedOn g (Does computes) (Does kills) prefix) (sym leads.1) state) in
      subst (λ z. (missing v ≡ true) ⊎ IsComputedOn g (Does computes) (Does kills) z) (append_one prefix e w) (steps closed (to g e) v (prefix ++ e ∷ []) w leads.2 here)

  -- what isn't missing anywhere against the edges is computed on all walks
  pub not-missing : (closed : (e : ℕ) → e < edge_count g → missing_after computes kills missing (from g e) ≡ true → missing (to g e) ≡ true) → missing 0 ≡ true → (v : ℕ) → missing v ≡ false → IsOnAllWalks g (Does computes) (Does kills) v
  not-missing closed start v none walk leads = ⊎_elim
      (λ gone. absurd (false≢true (sym none ∙ gone)))
      (λ c. c)
      (steps closed 0 v [] walk leads (inl start))

  -- what is missing after a node that is reached is lost at each node to which an edge leads from it
  pub lost-after : (e : ℕ) (w : List ℕ) → e < edge_count g → Walk g 0 w (from g e) → (missing (from g e) ≡ true → IsLost g (Does computes) (Does kills) (from g e)) → missing_after computes kills missing (from g e) ≡ true → IsLost g (Does computes) (Does kills) (to g e)
  lost-after e w edge leads lost after = ⊎_elim
      (λ (kill : kills (from g e) ≡ true). lost-kill g (Does computes) (Does kills) e w edge leads kill)
      (λ rest. lost-on g (Does computes) (Does kills) e edge (λ now. false≢true (sym (not_of_true (computes (from g e)) now) ∙ rest.1)) (lost rest.0))
      (or_cases (kills (from g e)) (missing (from g e)) (not (computes (from g e))) after)
