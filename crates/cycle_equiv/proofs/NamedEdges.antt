-- The numbering of edges by their names, as far as it has come.
use Rattle.std.proofs.Common.{◌≡◌, ◌≢◌, ℕ, Bool, true, false, ◌&&◌, nat_eq, ◌+◌, ◌<◌, ◌≤◌, ◌⊎◌, List, [], ◌∷◌, ◌++◌, length, get_or, take, refl, sym, ap, ◌∙◌, subst, inl, inr, ⊎_elim, arith, length-append}
use Rattle.std.proofs.lemmas.Bool.{cases_order, and_from, eqb-true, eq-eqb}
use Rattle.std.proofs.lemmas.List.{get_or_append_left, get_or_push, take-append-le, take_all}
use Rattle.closed_walks.specs.Numbering.{fresh}
use Rattle.std.specs.List.{list_any, position_or_len}
use Rattle.indexmap.specs.IndexSet.{insert_key}
use Rattle.cycle_equiv.specs.Names.{AreNumbered}
use Rattle.cycle_equiv.proofs.Numbers.{fresh-push, IsFirst}
use Rattle.list_laws.proofs.KeyPlaces.{found, absent}

-- what stands at places past the end of a list of names
abbrev pub no_name : ℕ × ℕ
no_name = (0, 0)

cases_below : (d e : ℕ) → d < e + 1 → (d < e) ⊎ (d ≡ e)
cases_below d e h = ⊎_elim (λ same. inr same) (⊎_elim (λ l. inl l) (λ m. absurd (omega arith))) (cases_order d e)

-- an edge below e with this number
pub record HasEdge (classes : List ℕ) (e k : ℕ) : Type 0 where
  pub edge : ℕ
  pub below : edge < e
  pub own : get_or classes edge 0 ≡ k

module _ (tops sizes : List ℕ) where
  -- the name of an edge
  abbrev pub name : ℕ → ℕ × ℕ
  name e = (get_or tops e 0, get_or sizes e 0)

  -- The edges below e have numbers, and `names` has the names of the numbers, each once.
  pub record IsNamed (e : ℕ) (names : List (ℕ × ℕ)) (classes : List ℕ) : Type 0 where
    pub edges : length classes ≡ e
    pub own : (k : ℕ) → k < length names → HasEdge classes e k
    pub within : (d : ℕ) → d < e → get_or classes d 0 < length names
    pub named : (d : ℕ) → d < e → get_or names (get_or classes d 0) no_name ≡ name d
    pub apart : (j k : ℕ) → j < k → k < length names → get_or names j no_name ≢ get_or names k no_name
    pub few : length names ≤ e
    pub count : fresh classes ≡ length names
    pub lowest : (d : ℕ) → d < e → IsFirst classes d → get_or classes d 0 ≡ fresh (take d classes)

  pub IsNamed-none : IsNamed 0 [] []
  IsNamed-none = grind arith

  module _ (e : ℕ) (names : List (ℕ × ℕ)) (classes : List ℕ) (n : IsNamed e names classes) where
    old_number : (k d : ℕ) → d < e → get_or (classes ++ k ∷ []) d 0 ≡ get_or classes d 0
    old_number k d h = get_or_append_left classes (k ∷ []) 0 d (omega (arith, n.edges))

    new_number : (k : ℕ) → get_or (classes ++ k ∷ []) e 0 ≡ k
    new_number k = get_or_push classes k 0 e n.edges

    old_prefix : (k d : ℕ) → d ≤ e → take d (classes ++ k ∷ []) ≡ take d classes
    old_prefix k d h = take-append-le d classes (k ∷ []) (omega (arith, n.edges))

    whole_prefix : take e classes ≡ classes
    whole_prefix = take_all e classes (omega (arith, n.edges))

    old_first : (k d : ℕ) → d < e → IsFirst (classes ++ k ∷ []) d → IsFirst classes d
    old_first k d h first b l same = first b l (old_number k b (omega arith) ∙ same ∙ sym (old_number k d h))

    old_lowest : (k d : ℕ) → d < e → IsFirst (classes ++ k ∷ []) d → get_or (classes ++ k ∷ []) d 0 ≡ fresh (take d (classes ++ k ∷ []))
    old_lowest k d h first = old_number k d h ∙ n.lowest d h (old_first k d h first) ∙ ap fresh (sym (old_prefix k d (omega arith)))

    old_edge : (k j : ℕ) → j < length names → HasEdge (classes ++ k ∷ []) (e + 1) j
    old_edge k j h =
        let has = n.own j h in
        record { edge = has.edge; below = let b = has.below in omega (arith, b); own = old_number k has.edge has.below ∙ has.own }

    -- an edge of a name that is there
    pub IsNamed-old : (k : ℕ) → k < length names → get_or names k no_name ≡ name e → IsNamed (e + 1) names (classes ++ k ∷ [])
    IsNamed-old k is_name same_name = record {
      edges = omega (arith, length-append classes (k ∷ []), n.edges);
      own = λ j h. old_edge k j h;
      within = λ d h. ⊎_elim
          (λ (l : d < e). rw (old_number k d l) (n.within d l))
          (λ (same : d ≡ e). rw (same, new_number k) is_name)
          (cases_below d e h);
      named = λ d h. ⊎_elim
          (λ (l : d < e). rw (old_number k d l) (n.named d l))
          (λ (same : d ≡ e). rw (same, new_number k) same_name)
          (cases_below d e h);
      apart = n.apart;
      few = let f = n.few in omega (arith, f);
      count = omega (arith, fresh-push classes k, n.count);
      lowest = λ d h first. ⊎_elim
          (λ (l : d < e). old_lowest k d l first)
          (λ (same : d ≡ e).
          let first_e : IsFirst (classes ++ k ∷ []) e = subst (λ x. IsFirst (classes ++ k ∷ []) x) same first in
          let has = n.own k is_name in
          absurd (first_e has.edge has.below (old_number k has.edge has.below ∙ has.own ∙ sym (new_number k))))
          (cases_below d e h);
    }

    old_name : (k : ℕ) → k < length names → get_or (names ++ name e ∷ []) k no_name ≡ get_or names k no_name
    old_name k h = get_or_append_left names (name e ∷ []) no_name k h

    new_name : get_or (names ++ name e ∷ []) (length names) no_name ≡ name e
    new_name = get_or_push names (name e) no_name (length names) refl

    more_names : length (names ++ name e ∷ []) ≡ length names + 1
    more_names = omega (arith, length-append names (name e ∷ []))

    -- an edge of a new name
    pub IsNamed-new : ((k : ℕ) → k < length names → get_or names k no_name ≢ name e) → IsNamed (e + 1) (names ++ name e ∷ []) (classes ++ length names ∷ [])
    IsNamed-new none = record {
      edges = omega (arith, length-append classes (length names ∷ []), n.edges);
      own = λ k h. ⊎_elim
          (λ (l : k < length names). old_edge (length names) k l)
          (λ (same : k ≡ length names). record { edge = e; below = omega arith; own = new_number (length names) ∙ sym same })
          (cases_below k (length names) (omega (arith, more_names)));
      within = λ d h. ⊎_elim
          (λ (l : d < e). rw (old_number (length names) d l) (let b = n.within d l in omega (arith, b, more_names)))
          (λ (same : d ≡ e). rw (same, new_number (length names)) (omega (arith, more_names)))
          (cases_below d e h);
      named = λ d h. ⊎_elim
          (λ (l : d < e). rw (old_number (length names) d l, old_name (get_or classes d 0) (n.within d l)) (n.named d l))
          (λ (same : d ≡ e). rw (same, new_number (length names)) new_name)
          (cases_below d e h);
      apart = λ j k less h same_name. ⊎_elim
          (λ (l : k < length names). n.apart j k less l (rw (old_name k l, old_name j (omega arith)) at same_name))
          (λ (same : k ≡ length names). none j (omega arith) (rw (same, new_name, old_name j (omega arith)) at same_name))
          (cases_below k (length names) (omega (arith, more_names)));
      few = let f = n.few in omega (arith, f, more_names);
      count = omega (arith, fresh-push classes (length names), n.count, more_names);
      lowest = λ d h first. ⊎_elim
          (λ (l : d < e). old_lowest (length names) d l first)
          (λ (same : d ≡ e). rw same (new_number (length names) ∙ sym n.count ∙ ap fresh (sym (old_prefix (length names) e (omega arith) ∙ whole_prefix))))
          (cases_below d e h);
    }

    -- equal numbers are those of equal names
    number_name : (a b : ℕ) → a < e → b < e → get_or classes a 0 ≡ get_or classes b 0 → name a ≡ name b
    number_name a b a_edge b_edge same = sym (n.named a a_edge) ∙ ap (λ k. get_or names k no_name) same ∙ n.named b b_edge

    name_number : (a b : ℕ) → a < e → b < e → name a ≡ name b → get_or classes a 0 ≡ get_or classes b 0
    name_number a b a_edge b_edge same = grind arith

  pub AreNumbered-all : (names : List (ℕ × ℕ)) (classes : List ℕ) → IsNamed (length tops) names classes → AreNumbered tops sizes classes
  AreNumbered-all names classes n = grind (arith, number_name (length tops) names classes n, name_number (length tops) names classes n)

-- ---- a name's place among the names

-- whether two names are equal
abbrev pub same_names : ℕ × ℕ → ℕ × ℕ → Bool
same_names x y = nat_eq x.0 y.0 && nat_eq x.1 y.1

pub same_names-equal : (x y : ℕ × ℕ) → same_names x y ≡ true → x ≡ y
same_names-equal x y both = grind (arith, eqb-true x.0 y.0, eqb-true x.1 y.1)

pub same_names-itself : (x : ℕ × ℕ) → same_names x x ≡ true
same_names-itself x = and_from (nat_eq x.0 x.0) (nat_eq x.1 x.1) (eq-eqb x.0 x.0 refl) (eq-eqb x.1 x.1 refl)

module _ (tops sizes : List ℕ) where
  -- the next edge's name is put among the names, and its place is the edge's number
  pub IsNamed-next : (e k : ℕ) (names more : List (ℕ × ℕ)) (classes : List ℕ) → IsNamed tops sizes e names classes → more ≡ insert_key same_names names (name tops sizes e) → k ≡ position_or_len (same_names (name tops sizes e)) names → IsNamed tops sizes (e + 1) more (classes ++ k ∷ [])
  IsNamed-next e k names more classes n more_is k_is = rw (more_is, k_is) (by (list_any (same_names (name tops sizes e)) names) refl)
    where
      by : (b : Bool) → list_any (same_names (name tops sizes e)) names ≡ b → IsNamed tops sizes (e + 1) (insert_key same_names names (name tops sizes e)) (classes ++ position_or_len (same_names (name tops sizes e)) names ∷ [])
      by true p =
          let x = name tops sizes e in
          let f = found same_names no_name x names p in
          rw p (IsNamed-old tops sizes e names classes n (position_or_len (same_names x) names) f.within (sym (same_names-equal x (get_or names (position_or_len (same_names x) names) no_name) f.equal)))
      by false p =
          let x = name tops sizes e in
          let a = absent same_names no_name x names p in
          rw (p, a.last)
          (IsNamed-new tops sizes e names classes n (λ j h equal.
          let found_it : same_names x (get_or names j no_name) ≡ true = rw equal (same_names-itself x) in
          let both : true ≡ false = sym found_it ∙ a.others j h in
          absurd cc))
