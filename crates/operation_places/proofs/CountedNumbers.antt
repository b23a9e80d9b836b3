-- Counts and marks, after one count has changed.
use Rattle.std.proofs.Common.{◌≡◌, ◌⊎◌, ⊎_elim, inl, inr, ℕ, ◌+◌, ◌-◌, ◌<◌, ◌≤◌, ◌==◌, Bool, true, false, if◌then◌else◌, List, length, get_or, set, map, refl, sym, ap, ◌∙◌, arith}
use Rattle.std.specs.List.{range_with_len}
use Rattle.std.proofs.lemmas.Bool.{cases_eq, eq-eqb, ne_eqb}
use Rattle.std.proofs.lemmas.List.{length-set, get_or-set_same, get_or-set_other}
use Rattle.std.proofs.lemmas.List.FromFn.{fill_by_all, get_or-map-range_with_len, length-map-range_with_len}
use Rattle.firing.specs.ReadySet.{has}
use Rattle.operation_tables.specs.Waits.{one_if}
use Rattle.operation_places.specs.Counts.{AreCounts, more_of, one_more}

module _ (n : ℕ) where
  pub count_at : (f : ℕ → ℕ) (counts : List ℕ) (k : ℕ) → counts ≡ map f (range_with_len 0 n) → k < n → get_or counts k 0 ≡ f k
  count_at f counts k are inside = ap (λ xs. get_or xs k 0) are ∙ get_or-map-range_with_len f 0 n k k 0 inside (omega arith)

  pub count_long : (f : ℕ → ℕ) (counts : List ℕ) → counts ≡ map f (range_with_len 0 n) → length counts ≡ n
  count_long f counts are = ap length are ∙ length-map-range_with_len f 0 n

  module _ (f g : ℕ → ℕ) (but : ℕ → Bool) (counts : List ℕ) (marks : List Bool) (are : AreCounts n f but counts marks) where
    long : length counts ≡ n
    long = count_long f counts are.counts

    -- counts that are the same
    pub counts_same : ((j : ℕ) → j < n → g j ≡ f j) → AreCounts n g but counts marks
    counts_same same = record {
      counts = fill_by_all g counts n 0 long (λ j below. count_at f counts j are.counts below ∙ sym (same j below));
      marks = record {
        room = are.marks.room;
        right = λ j below free. are.marks.right j below free ∙ ap (λ c. c == 0) (sym (same j below));
      };
    }

    module _ (k : ℕ) (inside : k < n) (others : (j : ℕ) → (j ≡ k → ⊥) → g j ≡ f j) where
      set_count : (v : ℕ) → v ≡ g k → set counts k v ≡ map g (range_with_len 0 n)
      set_count v is = fill_by_all g (set counts k v) n 0 (length-set counts k v ∙ long) (λ j below. at j below (cases_eq j k))
        where
          at : (j : ℕ) → j < n → (j ≡ k) ⊎ (j ≡ k → ⊥) → get_or (set counts k v) j 0 ≡ g j
          at j below (inl e) = ap (λ i. get_or (set counts k v) i 0) e ∙ get_or-set_same counts k v 0 (omega (arith, inside, long)) ∙ is ∙ ap g (sym e)
          at j below (inr differ) = get_or-set_other counts k j v 0 differ ∙ count_at f counts j are.counts below ∙ sym (others j differ)

      -- the mark of the number is set too
      pub counts_put : (v : ℕ) (b : Bool) → v ≡ g k → b ≡ (g k == 0) → AreCounts n g but (set counts k v) (set marks k b)
      counts_put v b is right = record {
        counts = set_count v is;
        marks = record {
          room = length-set marks k b ∙ are.marks.room;
          right = λ j below free. at j below free (cases_eq j k);
        };
      }
        where
          at : (j : ℕ) → j < n → but j ≡ false → (j ≡ k) ⊎ (j ≡ k → ⊥) → has (set marks k b) j ≡ (g j == 0)
          at j below free (inl e) = ap (has (set marks k b)) e ∙ get_or-set_same marks k b false (let room = are.marks.room in omega (arith, inside, room)) ∙ right ∙ ap (λ i. g i == 0) (sym e)
          at j below free (inr differ) = get_or-set_other marks k j b false differ ∙ are.marks.right j below free ∙ ap (λ c. c == 0) (sym (others j differ))

      -- the mark of the number is right still
      pub counts_kept : (v : ℕ) → v ≡ g k → (f k == 0) ≡ (g k == 0) → AreCounts n g but (set counts k v) marks
      counts_kept v is right = record {
        counts = set_count v is;
        marks = record {
          room = are.marks.room;
          right = λ j below free. at j below free (cases_eq j k);
        };
      }
        where
          at : (j : ℕ) → j < n → but j ≡ false → (j ≡ k) ⊎ (j ≡ k → ⊥) → has marks j ≡ (g j == 0)
          at j below free (inl e) = ap (has marks) e ∙ are.marks.right k inside (sym (ap but e) ∙ free) ∙ right ∙ ap (λ i. g i == 0) (sym e)
          at j below free (inr differ) = are.marks.right j below free ∙ ap (λ c. c == 0) (sym (others j differ))

-- ---- one more, and one less

module _ (n : ℕ) (f : ℕ → ℕ) (k : ℕ) where
  other_same : (j : ℕ) → (j ≡ k → ⊥) → one_more f k j ≡ f j
  other_same j differ = let e : one_if (j == k) ≡ 0 = ap one_if (ne_eqb j k differ) in omega (arith, e)

  here_more : one_more f k k ≡ f k + 1
  here_more = ap (λ b. f k + one_if b) (eq-eqb k k refl)

  zero_not : (c : ℕ) → (c + 1 == 0) ≡ false
  zero_not c = ne_eqb (c + 1) 0 (λ e. omega (arith, e))

  module _ (but : ℕ → Bool) (counts : List ℕ) (marks : List Bool) where
    pub more_outside : AreCounts n f but counts marks → n ≤ k → AreCounts n (one_more f k) but counts marks
    more_outside are past = counts_same n f (one_more f k) but counts marks are (λ j below. other_same j (λ e. omega (arith, e, below, past)))

    pub more_marked : AreCounts n f but counts marks → k < n → (count : ℕ) → count ≡ get_or counts k 0 → AreCounts n (one_more f k) but (set counts k (count + 1)) (set marks k false)
    more_marked are inside count is =
        let at : count ≡ f k = is ∙ count_at n f counts k are.counts inside in
        counts_put n f (one_more f k) but counts marks are k inside other_same (count + 1) false (ap (λ c. c + 1) at ∙ sym here_more) (sym (ap (λ c. c == 0) here_more ∙ zero_not (f k)))

    pub more_kept : AreCounts n f but counts marks → k < n → (count : ℕ) → count ≡ get_or counts k 0 → (count ≡ 0 → ⊥) → AreCounts n (one_more f k) but (set counts k (count + 1)) marks
    more_kept are inside count is some =
        let at : count ≡ f k = is ∙ count_at n f counts k are.counts inside in
        counts_kept n f (one_more f k) but counts marks are k inside other_same (count + 1) (ap (λ c. c + 1) at ∙ sym here_more)
        (ne_eqb (f k) 0 (λ e. some (at ∙ e)) ∙ sym (ap (λ c. c == 0) here_more ∙ zero_not (f k)))

    less_at : AreCounts n (one_more f k) but counts marks → k < n → (count : ℕ) → count ≡ get_or counts k 0 - 1 → count ≡ f k
    less_at are inside count is =
        let at : get_or counts k 0 ≡ one_more f k k = count_at n (one_more f k) counts k are.counts inside in
        let more = here_more in
        omega (arith, is, at, more)

    pub less_outside : AreCounts n (one_more f k) but counts marks → n ≤ k → AreCounts n f but counts marks
    less_outside are past = counts_same n (one_more f k) f but counts marks are (λ j below. sym (other_same j (λ e. omega (arith, e, below, past))))

    pub less_marked : AreCounts n (one_more f k) but counts marks → k < n → (count : ℕ) → count ≡ get_or counts k 0 - 1 → count ≡ 0 → AreCounts n f but (set counts k count) (set marks k true)
    less_marked are inside count is none =
        let at = less_at are inside count is in
        counts_put n (one_more f k) f but counts marks are k inside (λ j differ. sym (other_same j differ)) count true at (sym (eq-eqb (f k) 0 (sym at ∙ none)))

    pub less_kept : AreCounts n (one_more f k) but counts marks → k < n → (count : ℕ) → count ≡ get_or counts k 0 - 1 → (count ≡ 0 → ⊥) → AreCounts n f but (set counts k count) marks
    less_kept are inside count is some =
        let at = less_at are inside count is in
        counts_kept n (one_more f k) f but counts marks are k inside (λ j differ. sym (other_same j differ)) count at
        (ap (λ c. c == 0) here_more ∙ zero_not (f k) ∙ sym (ne_eqb (f k) 0 (λ e. some (at ∙ e))))

-- ---- so many more

module _ (n : ℕ) (f : ℕ → ℕ) (k much : ℕ) where
  other_of : (j : ℕ) → (j ≡ k → ⊥) → more_of f k much j ≡ f j
  other_of j differ = let e : (if j == k then much else 0) ≡ 0 = ap (λ b. if b then much else 0) (ne_eqb j k differ) in omega (arith, e)

  here_of : more_of f k much k ≡ f k + much
  here_of = ap (λ b. f k + (if b then much else 0)) (eq-eqb k k refl)

  module _ (but : ℕ → Bool) (counts : List ℕ) (marks : List Bool) (are : AreCounts n f but counts marks) where
    pub anew_outside : n ≤ k → AreCounts n (more_of f k much) but counts marks
    anew_outside past = counts_same n f (more_of f k much) but counts marks are (λ j below. other_of j (λ e. omega (arith, e, below, past)))

    module _ (inside : k < n) (count : ℕ) (is : count ≡ get_or counts k 0) where
      count_here : count ≡ f k
      count_here = is ∙ count_at n f counts k are.counts inside

      pub anew_marked : 0 < much → AreCounts n (more_of f k much) but (set counts k (count + much)) (set marks k false)
      anew_marked some =
          counts_put n f (more_of f k much) but counts marks are k inside other_of (count + much) false (ap (λ c. c + much) count_here ∙ sym here_of)
          (sym (ap (λ c. c == 0) here_of ∙ ne_eqb (f k + much) 0 (λ e. omega (arith, e, some))))

      pub anew_kept : (count ≡ 0 → much ≡ 0) → AreCounts n (more_of f k much) but (set counts k (count + much)) marks
      anew_kept none =
          counts_kept n f (more_of f k much) but counts marks are k inside other_of (count + much) (ap (λ c. c + much) count_here ∙ sym here_of)
          (zero_alike (f k) much (λ e. none (count_here ∙ e)) ∙ sym (ap (λ c. c == 0) here_of))
        where
          zero_alike : (c m : ℕ) → (c ≡ 0 → m ≡ 0) → (c == 0) ≡ (c + m == 0)
          zero_alike c m same = ⊎_elim
              (λ (e : c ≡ 0). let none = same e in eq-eqb c 0 e ∙ sym (eq-eqb (c + m) 0 (omega (arith, e, none))))
              (λ (differ : c ≡ 0 → ⊥). ne_eqb c 0 differ ∙ sym (ne_eqb (c + m) 0 (λ e. differ (omega (arith, e)))))
              (cases_eq c 0)
