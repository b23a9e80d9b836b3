-- The steps that put regions into an order.
use Rattle.std.proofs.Common.{◌≡◌, ◌≢◌, ℕ, zero, suc, ◌+◌, ◌<◌, ◌≤◌, ◌⊎◌, Bool, true, false, List, [], ◌∷◌, ◌++◌, length, get_or, set, refl, sym, ap, ◌∙◌, subst, inl, inr, ⊎_elim, arith, get_or-set_same, get_or-set_other, length-set, length-append}
use Rattle.std.proofs.lemmas.Bool.{cases_eq, cases_lt, false≢true}
use Rattle.std.proofs.lemmas.List.{append-nil, get_or_append_left, get_or_push, take-append-le, take_all}
use Rattle.closed_walks.specs.Walk.{Holds}
use Rattle.region_tree.specs.Tree.{Tree, entry_of, exit_of, IsNumber}
use Rattle.dep_routing.specs.Numbers.{AreNumbersBelow}
use Rattle.dep_routing.specs.Order.{Ranks, IsOrder, IsOrdering, IsPutAfter, is_marked, unmarked}
use Rattle.closed_walks.proofs.Held.{Holds-left, Holds-right, Holds-append, Holds-at, IsAt, at_Holds}

pub unmarked-set : (marks : List Bool) (r : ℕ) → r < length marks → is_marked marks r ≡ false → unmarked (set marks r true) + 1 ≡ unmarked marks
unmarked-set [] r within blank = absurd (omega (arith, within))
unmarked-set (true ∷ marks) zero within blank = absurd (false≢true (sym blank))
unmarked-set (false ∷ marks) zero within blank = refl
unmarked-set (true ∷ marks) (suc r) within blank = unmarked-set marks r (omega arith) blank
unmarked-set (false ∷ marks) (suc r) within blank = let rest = unmarked-set marks r (omega arith) blank in omega (arith, rest)

-- What became of the order where a region was put after it, if it wasn't in it.
pub record IsPlaced (t : Tree) (r k done : ℕ) (marks : List Bool) (order : List ℕ) (marks' : List Bool) (order' : List ℕ) : Type 0 where
  pub ordering : IsOrdering t k done marks' order'
  pub there : Holds order' r
  pub work : unmarked marks' + length order' ≡ unmarked marks + length order
  pub more : List ℕ
  pub prefix : order' ≡ order ++ more

module _ (t : Tree) where
  -- a region is put after the order
  module _ (r k done : ℕ) (marks : List Bool) (order : List ℕ) (o : IsOrdering t k done marks order) (number : IsNumber t r) (after : (q : ℕ) → IsNumber t q → entry_of t q ≡ exit_of t r → Holds order q) where
    placed_old : (marks' : List Bool) (order' : List ℕ) → is_marked marks r ≡ true → marks' ≡ marks → order' ≡ order → IsPlaced t r k done marks order marks' order'
    placed_old marks' order' old same_marks same_order = rw (same_marks, same_order) (record {
      ordering = o;
      there = (o.marked r).0 old;
      work = refl;
      more = [];
      prefix = sym (append-nil order);
    })

    placed_new : (marks' : List Bool) (order' : List ℕ) → is_marked marks r ≡ false → marks' ≡ set marks r true → order' ≡ order ++ r ∷ [] → IsPlaced t r k done marks order marks' order'
    placed_new marks' order' blank same_marks same_order =
        let inside : r < length marks = omega (arith, number.1, o.size) in
        let longer = length-append order (r ∷ []) in
        rw (same_marks, same_order) (record {
          ordering = record {
            size = length-set marks r true ∙ o.size;
            marked = λ q. ⊎_elim
                (λ (same : q ≡ r). (λ h. Holds-right order (r ∷ []) q (inl (sym same)), λ h. subst (λ n. is_marked (set marks r true) n ≡ true) (sym same) (get_or-set_same marks r true false inside)))
                (λ (apart : q ≢ r). (
                  λ h. Holds-left order (r ∷ []) q ((o.marked q).0 (sym (get_or-set_other marks r q true false apart) ∙ h)),
                  λ h. get_or-set_other marks r q true false apart ∙ (o.marked q).1 (⊎_elim (λ l. l) (⊎_elim (λ (same : r ≡ q). absurd (apart (sym same))) (λ none. absurd none)) (Holds-append order (r ∷ []) q h)),
                ))
                (cases_eq q r);
            numbers = λ q h. ⊎_elim (λ l. o.numbers q l) (⊎_elim (λ (same : r ≡ q). subst (λ n. IsNumber t n) same number) (λ none. absurd none)) (Holds-append order (r ∷ []) q h);
            after = λ i q less other same. ⊎_elim
                (λ (old : i < length order).
                let is : get_or (order ++ r ∷ []) i 0 ≡ get_or order i 0 = get_or_append_left order (r ∷ []) 0 i old in
                subst (λ xs. Holds xs q) (sym (take-append-le i order (r ∷ []) (omega (arith, old)))) (o.after i q old other (subst (λ x. entry_of t q ≡ exit_of t x) is same)))
                (λ (new : length order ≤ i).
                let last : i ≡ length order = omega (arith, less, new, longer) in
                let is : get_or (order ++ r ∷ []) i 0 ≡ r = get_or_push order r 0 i (sym last) in
                subst (λ xs. Holds xs q) (sym (take-append-le i order (r ∷ []) (omega (arith, last)) ∙ take_all i order new)) (after q other (subst (λ x. entry_of t q ≡ exit_of t x) is same)))
                (cases_lt i (length order));
            within = let old = o.within in omega (arith, old, longer);
            lasts = λ q other less none. Holds-left order (r ∷ []) q (o.lasts q other less none);
            steps = λ i q less other same. Holds-left order (r ∷ []) q (o.steps i q less other
                (subst (λ x. exit_of t q ≡ entry_of t x) (get_or_append_left order (r ∷ []) 0 i (let old = o.within in omega (arith, old, less))) same));
          };
          there = Holds-right order (r ∷ []) r (inl refl);
          work = omega (arith, unmarked-set marks r inside blank, longer);
          more = r ∷ [];
          prefix = refl;
        })

    pub placed : (marks' : List Bool) (order' : List ℕ) → IsPutAfter r marks order marks' order' → IsPlaced t r k done marks order marks' order'
    placed marks' order' p = ⊎_elim (λ old. placed_old marks' order' old.0 old.1 old.2) (λ new. placed_new marks' order' new.0 new.1 new.2) p

  -- ---- the regions whose exits enter none

  module _ (k : ℕ) (marks : List Bool) (order : List ℕ) (o : IsOrdering t k 0 marks order) where
    pub IsOrdering-skip : (q : ℕ) → IsNumber t q → entry_of t q ≡ exit_of t k → IsOrdering t (k + 1) 0 marks order
    IsOrdering-skip q number same = record {
      size = o.size;
      marked = o.marked;
      numbers = o.numbers;
      after = o.after;
      within = o.within;
      lasts = λ r other less none. ⊎_elim
          (λ (is : r ≡ k). absurd (none q number (subst (λ n. entry_of t q ≡ exit_of t n) (sym is) same)))
          (λ (apart : r ≢ k). o.lasts r other (omega (arith, less, apart)) none)
          (cases_eq r k);
      steps = o.steps;
    }

    pub IsOrdering-last : (marks' : List Bool) (order' : List ℕ) → IsNumber t k → ((q : ℕ) → IsNumber t q → entry_of t q ≡ exit_of t k → ⊥) → IsPutAfter k marks order marks' order' → IsOrdering t (k + 1) 0 marks' order'
    IsOrdering-last marks' order' number none p =
        let d : IsPlaced t k k 0 marks order marks' order' = placed k k 0 marks order o number (λ q other same. absurd (none q other same)) marks' order' p in
        let n : IsOrdering t k 0 marks' order' = d.ordering in
        record {
          size = n.size;
          marked = n.marked;
          numbers = n.numbers;
          after = n.after;
          within = n.within;
          lasts = λ r other less no_q. ⊎_elim
              (λ (is : r ≡ k). subst (λ x. Holds order' x) (sym is) d.there)
              (λ (apart : r ≢ k). n.lasts r other (omega (arith, less, apart)) no_q)
              (cases_eq r k);
          steps = n.steps;
        }

  -- ---- back over the regions

  module _ (k done : ℕ) (marks : List Bool) (order : List ℕ) (o : IsOrdering t k done marks order) (more : done < length order) where
    at_done : (i : ℕ) → i < done + 1 → i ≢ done → i < done
    at_done i less apart = omega (arith, less, apart)

    pub IsOrdering-none_before : ((q : ℕ) → IsNumber t q → exit_of t q ≡ entry_of t (get_or order done 0) → ⊥) → IsOrdering t k (done + 1) marks order
    IsOrdering-none_before none = record {
      size = o.size;
      marked = o.marked;
      numbers = o.numbers;
      after = o.after;
      within = omega (arith, more);
      lasts = o.lasts;
      steps = λ i q less number same. ⊎_elim
          (λ (is : i ≡ done). absurd (none q number (subst (λ n. exit_of t q ≡ entry_of t (get_or order n 0)) is same)))
          (λ (apart : i ≢ done). o.steps i q (at_done i less apart) number same)
          (cases_eq i done);
    }

    pub IsOrdering-before : (before : ℕ) (marks' : List Bool) (order' : List ℕ) → IsNumber t before → exit_of t before ≡ entry_of t (get_or order done 0) → ((q : ℕ) → IsNumber t q → exit_of t q ≡ exit_of t before → q ≡ before)
        → ((q : ℕ) → IsNumber t q → entry_of t q ≡ entry_of t (get_or order done 0) → q ≡ get_or order done 0) → IsPutAfter before marks order marks' order'
        → IsOrdering t k (done + 1) marks' order' × (unmarked marks' + length order' ≡ unmarked marks + length order)
    IsOrdering-before before marks' order' number is_exit one_exit one_entry p =
        let d : IsPlaced t before k done marks order marks' order' = placed before k done marks order o number
        (λ q other same. subst (λ x. Holds order x) (sym (one_entry q other (same ∙ is_exit))) (Holds-at order done more)) marks' order' p in
        let n : IsOrdering t k done marks' order' = d.ordering in
        let longer = length-append order d.more in
        let size = ap length d.prefix in (
          record {
            size = n.size;
            marked = n.marked;
            numbers = n.numbers;
            after = n.after;
            within = omega (arith, more, longer, size);
            lasts = n.lasts;
            steps = λ i q less other same. ⊎_elim
                (λ (is : i ≡ done).
                let stays : get_or order' done 0 ≡ get_or order done 0 = subst (λ xs. get_or xs done 0 ≡ get_or order done 0) (sym d.prefix) (get_or_append_left order d.more 0 done more) in
                let at : exit_of t q ≡ entry_of t (get_or order done 0) = subst (λ x. exit_of t q ≡ entry_of t x) stays (subst (λ x. exit_of t q ≡ entry_of t (get_or order' x 0)) is same) in
                subst (λ x. Holds order' x) (sym (one_exit q other (at ∙ sym is_exit))) d.there)
                (λ (apart : i ≢ done). n.steps i q (at_done i less apart) other same)
                (cases_eq i done);
          },
          d.work,
        )

  -- ---- the whole order

  module _ (ranks : Ranks t) (find : (e : ℕ) → ((q : ℕ) × IsNumber t q × (entry_of t q ≡ e)) ⊎ ((q : ℕ) → IsNumber t q → entry_of t q ≡ e → ⊥)) (done : ℕ) (marks : List Bool) (order : List ℕ) (o : IsOrdering t (length t.entries) done marks order) (end : length order ≤ done) where
    reached : (n r : ℕ) → ranks.bound ≤ ranks.rank (entry_of t r) + n → IsNumber t r → Holds order r
    reached zero r high number = let below = ranks.below (entry_of t r) in absurd (omega (arith, below, high))
    reached (suc n) r high number = ⊎_elim
        (λ (some : (q : ℕ) × IsNumber t q × (entry_of t q ≡ exit_of t r)).
        let up : ranks.rank (entry_of t r) < ranks.rank (exit_of t r) = ranks.through r number in
        let same : ranks.rank (entry_of t some.0) ≡ ranks.rank (exit_of t r) = ap ranks.rank some.2 in
        let held : Holds order some.0 = reached n some.0 (omega (arith, high, up, same)) some.1 in
        let p : IsAt order some.0 = at_Holds order some.0 held in
        let place : p.place < done = let within = p.within in omega (arith, within, end) in
        o.steps p.place r place number (sym some.2 ∙ ap (entry_of t) (sym p.is)))
        (λ (none : (q : ℕ) → IsNumber t q → entry_of t q ≡ exit_of t r → ⊥). o.lasts r number number.1 none)
        (find (exit_of t r))

    pub IsOrder-end : IsOrder t order
    IsOrder-end = record {
      all = λ r number. reached ranks.bound r (omega arith) number;
      numbers = o.numbers;
      after = o.after;
    }

-- ---- what stands at the edges

module _ (t : Tree) (count : ℕ) (edge_of : ℕ → ℕ) (numbers : List ℕ) (n : AreNumbersBelow count (length t.entries) edge_of numbers) where
  pub number_at : (e : ℕ) → get_or numbers e 0 ≢ 0 → IsNumber t (get_or numbers e 0)
  number_at e away = (omega (arith, away), n.some e away)

  pub none_at : (e q : ℕ) → get_or numbers e 0 ≡ 0 → IsNumber t q → edge_of q ≡ e → ⊥
  none_at e q none number same =
      let is : get_or numbers e 0 ≡ q = subst (λ x. get_or numbers x 0 ≡ q) same (n.found q number.0 number.1) in
      let some = number.0 in
      omega (arith, is, none, some)

  pub one_at : (q r : ℕ) → IsNumber t q → IsNumber t r → edge_of q ≡ edge_of r → q ≡ r
  one_at q r number other same = sym (n.found q number.0 number.1) ∙ (ap (λ x. get_or numbers x 0) same ∙ n.found r other.0 other.1)

  pub find_at : (e : ℕ) → ((q : ℕ) × IsNumber t q × (edge_of q ≡ e)) ⊎ ((q : ℕ) → IsNumber t q → edge_of q ≡ e → ⊥)
  find_at e = ⊎_elim
      (λ (none : get_or numbers e 0 ≡ 0). inr (λ q number same. none_at e q none number same))
      (λ (some : get_or numbers e 0 ≢ 0). inl (get_or numbers e 0, number_at e some, n.right e some))
      (cases_eq (get_or numbers e 0) 0)
