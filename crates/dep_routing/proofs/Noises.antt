-- The steps that add lines to regions, and what the sets tell.
use Rattle.std.proofs.Common.{◌≡◌, ◌≢◌, zero-add, ℕ, zero, suc, ◌+◌, ◌*◌, ◌<◌, ◌≤◌, ◌⊎◌, Bool, true, false, ◌||◌, List, [], ◌∷◌, length, set, replicate, get_or, refl, sym, ap, ◌∙◌, subst, inl, inr, ⊎_elim, arith, get_or-set_same, get_or-set_other, length-set}
use Rattle.std.specs.List.{sum_by, range_with_len}
use Rattle.std.proofs.lemmas.Bool.{cases_eq, cases_Bool, false≢true}
use Rattle.std.proofs.lemmas.List.{get_or-map, length-map, length-replicate, map-set}
use Rattle.std.proofs.lemmas.List.FromFn.{get_or-range_with_len, length-range_with_len}
use Rattle.std.proofs.lemmas.List.Sums.{sum_by-cons}
use Rattle.std.proofs.Math.Bool.{or-true, or-false}
use Rattle.std.proofs.Math.Seq.{map-set_same}
use Rattle.class_set.specs.ClassSet.{holds}
use Rattle.class_set.specs.declared.ClassSet.{ClassSet}
use Rattle.closed_walks.specs.Graph.{Graph}
use Rattle.region_tree.specs.Tree.{Tree, parent_of, innermost_of, IsNumber, IsIn, IsAround, IsLeast}
use Rattle.region_tree.specs.Laws.{above}
use Rattle.dep_routing.specs.Facts.{TreeFacts}
use Rattle.dep_routing.specs.Quiet.{IsTouched}
use Rattle.dep_routing.specs.Order.{is_marked, unmarked}
use Rattle.dep_routing.specs.Noise.{IsNoneOrMarked, HaveParents, IsMarkedUp, IsMarkedFrom, AreNoisy, marks_of}
use Rattle.closed_walks.specs.Walk.{Holds}
use Rattle.closed_walks.proofs.Held.{Holds-at}
use Rattle.dep_routing.proofs.Ordering.{unmarked-set}
use Rattle.dep_routing.proofs.Quietness.{inside_exists}

module _ (t : Tree) where
  above-suc : (k r : ℕ) → above t (suc k) r ≡ parent_of t (above t k r)
  above-suc zero r = refl
  above-suc (suc k) r = above-suc k (parent_of t r)

  -- Of the marks on the way up from the region: all is right but for the region r, to which the way has come.
  pub record IsMarking (region r : ℕ) (before marks : List Bool) : Type 0 where
    pub size : length marks ≡ length before
    pub within : r < length t.entries
    pub here : IsNoneOrMarked marks region ⊎ (region ≡ r)
    pub come : (k : ℕ) × (above t k region ≡ r)
    pub kept : (q : ℕ) → is_marked before q ≡ true → is_marked marks q ≡ true
    pub new : (q : ℕ) → is_marked marks q ≡ true → (is_marked before q ≡ true) ⊎ ((k : ℕ) × (above t k region ≡ q))
    pub up : (q : ℕ) → IsNumber t q → is_marked marks q ≡ true → IsNoneOrMarked marks (parent_of t q) ⊎ (parent_of t q ≡ r)

  module _ (region r : ℕ) (before marks : List Bool) (m : IsMarking region r before marks) where
    pub IsMarking-step : HaveParents t → 0 < r → r < length marks → IsMarking region (parent_of t r) before (set marks r true)
    IsMarking-step p away inside =
        let marked_r : is_marked (set marks r true) r ≡ true = get_or-set_same marks r true false inside in
        let more : (q : ℕ) → is_marked marks q ≡ true → is_marked (set marks r true) q ≡ true =
        λ q h. ⊎_elim
        (λ (same : q ≡ r). subst (λ n. is_marked (set marks r true) n ≡ true) (sym same) marked_r)
        (λ (apart : q ≢ r). get_or-set_other marks r q true false apart ∙ h)
        (cases_eq q r) in
        let none_or : (q : ℕ) → IsNoneOrMarked marks q → IsNoneOrMarked (set marks r true) q = λ q h. ⊎_elim (λ none. inl none) (λ old. inr (more q old)) h in
        record {
          size = length-set marks r true ∙ m.size;
          within = ⊎_elim
              (λ (none : parent_of t r ≡ 0). let some = p.some in omega (arith, none, some))
              (λ (other : parent_of t r ≢ 0). (p.numbers r (away, m.within) other).1)
              (cases_eq (parent_of t r) 0);
          here = inl (⊎_elim (λ old. none_or region old) (λ (same : region ≡ r). inr (subst (λ n. is_marked (set marks r true) n ≡ true) (sym same) marked_r)) m.here);
          come = (suc m.come.0, above-suc m.come.0 region ∙ ap (parent_of t) m.come.1);
          kept = λ q h. more q (m.kept q h);
          new = λ q h. ⊎_elim
              (λ (same : q ≡ r). inr (m.come.0, m.come.1 ∙ sym same))
              (λ (apart : q ≢ r). m.new q (sym (get_or-set_other marks r q true false apart) ∙ h))
              (cases_eq q r);
          up = λ q number h. ⊎_elim
              (λ (same : q ≡ r). inr (ap (parent_of t) same))
              (λ (apart : q ≢ r). inl (⊎_elim
              (λ old. none_or (parent_of t q) old)
              (λ (is : parent_of t q ≡ r). inr (subst (λ n. is_marked (set marks r true) n ≡ true) (sym is) marked_r))
              (m.up q number (sym (get_or-set_other marks r q true false apart) ∙ h))))
              (cases_eq q r);
        }

-- The marks go up from the nodes below k that touch the line, and from no others.
pub record IsHeard (g : Graph) (t : Tree) (touches : ℕ → ℕ → Bool) (line k : ℕ) (marks : List Bool) : Type 0 where
  pub size : length marks ≡ length t.entries
  pub up : IsMarkedUp t marks
  pub noisy : (r : ℕ) → IsNumber t r → is_marked marks r ≡ true → IsTouched g t touches line r
  pub done : (node : ℕ) → node < k → touches node line ≡ true → IsNoneOrMarked marks (innermost_of t node)

module _ (g : Graph) (t : Tree) (f : TreeFacts g t) where
  pub parent_number : (r : ℕ) → IsNumber t r → parent_of t r ≢ 0 → IsNumber t (parent_of t r) × IsAround g t r (parent_of t r)
  parent_number r number some = ⊎_elim
      (λ none. absurd (some none.0))
      (λ (l : IsLeast g t (λ q. IsAround g t r q) (parent_of t r)). (l.number, l.has))
      (f.tree.parents r number)

  pub HaveParents-tree : HaveParents t
  HaveParents-tree = record { some = f.tree.regions.some; numbers = λ r number some. (parent_number r number some).0 }

  pub innermost_within : (node : ℕ) → node < g.nodes → innermost_of t node < length t.entries
  innermost_within node exists = ⊎_elim
      (λ none. let is : innermost_of t node ≡ 0 = none.0 in let some = f.tree.regions.some in omega (arith, is, some))
      (λ (l : IsLeast g t (λ q. IsIn g t q node) (innermost_of t node)). l.number.1)
      (f.tree.innermost node exists)

  above_none : (k : ℕ) → above t k 0 ≡ 0
  above_none zero = refl
  above_none (suc k) = subst (λ n. above t k n ≡ 0) (sym f.tree.no_parent) (above_none k)

  -- what holds the node holds it above, too
  holds_above : (k q r node : ℕ) → IsNumber t q → IsIn g t q node → IsNumber t r → above t k q ≡ r → IsIn g t r node
  holds_above zero q r node number inside other is = subst (λ n. IsIn g t n node) is inside
  holds_above (suc k) q r node number inside other is = ⊎_elim
      (λ (none : parent_of t q ≡ 0).
      let start : r ≡ 0 = sym is ∙ (ap (above t k) none ∙ above_none k) in
      let some = other.0 in
      absurd (omega (arith, start, some)))
      (λ (away : parent_of t q ≢ 0). let p = parent_number q number away in holds_above k (parent_of t q) r node p.0 (p.1.1 node inside) other is)
      (cases_eq (parent_of t q) 0)

  -- marks go up
  marked_above : (marks : List Bool) → IsMarkedUp t marks → (k q r : ℕ) → q < length t.entries → IsNoneOrMarked marks q → IsNumber t r → above t k q ≡ r → is_marked marks r ≡ true
  marked_above marks up k q r within (inl none) other is =
      let start : r ≡ 0 = sym is ∙ (ap (above t k) none ∙ above_none k) in
      let some = other.0 in
      absurd (omega (arith, start, some))
  marked_above marks up zero q r within (inr marked) other is = subst (λ n. is_marked marks n ≡ true) is marked
  marked_above marks up (suc k) q r within (inr marked) other is = ⊎_elim
      (λ (start : q ≡ 0).
      let there : r ≡ 0 = sym is ∙ (ap (above t (suc k)) start ∙ above_none (suc k)) in
      let some = other.0 in
      absurd (omega (arith, there, some)))
      (λ (away : q ≢ 0).
      let number : IsNumber t q = (omega (arith, away), within) in
      marked_above marks up k (parent_of t q) r
      (⊎_elim
      (λ (none : parent_of t q ≡ 0). let some = f.tree.regions.some in omega (arith, none, some))
      (λ (there : parent_of t q ≢ 0). (parent_number q number there).0.1)
      (cases_eq (parent_of t q) 0))
      (up q number marked) other is)
      (cases_eq q 0)

  module _ (touches : ℕ → ℕ → Bool) (line : ℕ) where
    pub IsHeard-none : (marks : List Bool) → length marks ≡ length t.entries → ((r : ℕ) → is_marked marks r ≡ false) → IsHeard g t touches line 0 marks
    IsHeard-none marks size blank = record {
      size = size;
      up = λ r number h. absurd (false≢true (sym (blank r) ∙ h));
      noisy = λ r number h. absurd (false≢true (sym (blank r) ∙ h));
      done = λ node less h. absurd (omega (arith, less));
    }

    module _ (k : ℕ) (marks : List Bool) (h : IsHeard g t touches line k marks) where
      pub IsHeard-skip : touches k line ≡ false → IsHeard g t touches line (k + 1) marks
      IsHeard-skip untouched = record {
        size = h.size;
        up = h.up;
        noisy = h.noisy;
        done = λ node less touched. ⊎_elim
            (λ (same : node ≡ k). absurd (false≢true (sym untouched ∙ subst (λ n. touches n line ≡ true) same touched)))
            (λ (apart : node ≢ k). h.done node (omega (arith, less, apart)) touched)
            (cases_eq node k);
      }

      pub IsHeard-take : (marks' : List Bool) → k < g.nodes → touches k line ≡ true → IsMarkedFrom t (innermost_of t k) marks marks' → IsHeard g t touches line (k + 1) marks'
      IsHeard-take marks' exists touched m = record {
        size = m.size ∙ h.size;
        up = m.up;
        noisy = λ r number marked. ⊎_elim
            (λ (old : is_marked marks r ≡ true). h.noisy r number old)
            (λ (new : (n : ℕ) × (above t n (innermost_of t k) ≡ r)). record { node = k; inside = climbs new.0 r number new.1; touched = touched })
            (m.new r marked);
        done = λ node less touched'. ⊎_elim
            (λ (same : node ≡ k). subst (λ n. IsNoneOrMarked marks' (innermost_of t n)) (sym same) m.here)
            (λ (apart : node ≢ k). ⊎_elim (λ none. inl none) (λ old. inr (m.kept (innermost_of t node) old)) (h.done node (omega (arith, less, apart)) touched'))
            (cases_eq node k);
      }
        where
          climbs : (n r : ℕ) → IsNumber t r → above t n (innermost_of t k) ≡ r → IsIn g t r k
          climbs n r number is = ⊎_elim
              (λ none.
              let start : r ≡ 0 = sym is ∙ (ap (above t n) none.0 ∙ above_none n) in
              let some = number.0 in
              absurd (omega (arith, start, some)))
              (λ (l : IsLeast g t (λ q. IsIn g t q k) (innermost_of t k)). holds_above n (innermost_of t k) r k l.number l.has number is)
              (f.tree.innermost k exists)

    pub AreNoisy-end : (marks : List Bool) → IsHeard g t touches line g.nodes marks → AreNoisy g t touches line marks
    AreNoisy-end marks h = record {
      size = h.size;
      noisy = h.noisy;
      quiet = λ r number blank. record {
        number = number;
        untouched = λ node inside. ⊎_elim
            (λ (touched : touches node line ≡ true).
            let exists : node < g.nodes = inside_exists g t f r node number inside in
            let way = f.chain r node number exists inside in
            let marked : is_marked marks r ≡ true = marked_above marks h.up way.0 (innermost_of t node) r (innermost_within node exists) (h.done node exists touched) number way.1 in
            absurd (false≢true (sym blank ∙ marked)))
            (λ (untouched : touches node line ≡ false). untouched)
            (cases_Bool (touches node line));
      };
    }

-- ---- sets of lines

unmarked-set_le : (marks : List Bool) (r : ℕ) → unmarked (set marks r true) ≤ unmarked marks
unmarked-set_le [] r = omega arith
unmarked-set_le (true ∷ marks) zero = omega arith
unmarked-set_le (false ∷ marks) zero = omega arith
unmarked-set_le (true ∷ marks) (suc r) = unmarked-set_le marks r
unmarked-set_le (false ∷ marks) (suc r) = let rest = unmarked-set_le marks r in omega (arith, rest)

module _ (f g : ℕ → ℕ) (no_more : (x : ℕ) → f x ≤ g x) where
  sum_le : (xs : List ℕ) → sum_by f xs ≤ sum_by g xs
  sum_le [] = omega arith
  sum_le (x ∷ xs) = let here = no_more x in let rest = sum_le xs in omega (arith, here, rest, sum_by-cons f x xs, sum_by-cons g x xs)

  sum_less : (xs : List ℕ) (x : ℕ) → Holds xs x → f x < g x → sum_by f xs < sum_by g xs
  sum_less [] x h less = absurd h
  sum_less (y ∷ xs) x (inl same) less =
      let here : f y < g y = subst (λ z. f z < g z) (sym same) less in
      let rest = sum_le xs in
      omega (arith, here, rest, sum_by-cons f y xs, sum_by-cons g y xs)
  sum_less (y ∷ xs) x (inr h) less = let here = no_more y in let rest = sum_less xs x h less in omega (arith, here, rest, sum_by-cons f y xs, sum_by-cons g y xs)

Holds-range : (n k : ℕ) → k < n → Holds (range_with_len 0 n) k
Holds-range n k less = subst (λ x. Holds (range_with_len 0 n) x) (get_or-range_with_len 0 n k 0 less ∙ zero-add k) (Holds-at (range_with_len 0 n) k (let size = length-range_with_len 0 n in omega (arith, size, less)))

module _ {W : ℕ} where
  pub length-marks : (sets : List (ClassSet W)) (line : ℕ) → length (marks_of sets line) ≡ length sets
  length-marks sets line = length-map sets (λ s. holds s line)

  -- whether a set that was read has the line
  pub marked-read : (sets : List (ClassSet W)) (line r : ℕ) (s : ClassSet W) → r < length sets → s ≡ get_or sets r s → is_marked (marks_of sets line) r ≡ holds s line
  marked-read sets line r s within read = get_or-map (λ x. holds x line) sets r s false within ∙ ap (λ x. holds x line) (sym read)

  blank_sets : (n line r : ℕ) (s : ClassSet W) → holds s line ≡ false → is_marked (marks_of (replicate n s) line) r ≡ false
  blank_sets zero line r s none = refl
  blank_sets (suc n) line zero s none = none
  blank_sets (suc n) line (suc r) s none = blank_sets n line r s none

  -- how many lines the regions lack
  abbrev pub lacking : List (ClassSet W) → ℕ
  lacking sets = sum_by (λ line. unmarked (marks_of sets line)) (range_with_len 0 (64 * W))

  -- Lines were added to the set of one region.
  module _ (sets : List (ClassSet W)) (r : ℕ) (lines old new : ClassSet W) (within : r < length sets) (read : old ≡ get_or sets r old) (is : (line : ℕ) → holds new line ≡ (holds old line || holds lines line)) where
    marks-added : (line : ℕ) → holds lines line ≡ true → marks_of (set sets r new) line ≡ set (marks_of sets line) r true
    marks-added line member = map-set (λ s. holds s line) sets r new ∙ ap (λ b. set (marks_of sets line) r b) (is line ∙ rw member (or-true (holds old line)))

    marks-other : (line : ℕ) → holds lines line ≡ false → marks_of (set sets r new) line ≡ marks_of sets line
    marks-other line none = map-set_same (λ s. holds s line) sets r new old (is line ∙ rw none (or-false (holds old line)) ∙ ap (λ s. holds s line) read)

    pub lacking-less : (line : ℕ) → line < 64 * W → holds lines line ≡ true → holds old line ≡ false → lacking (set sets r new) < lacking sets
    lacking-less line low member blank = sum_less
        (λ k. unmarked (marks_of (set sets r new) k))
        (λ k. unmarked (marks_of sets k))
        (λ k. ⊎_elim
        (λ (here : holds lines k ≡ true). subst (λ xs. unmarked xs ≤ unmarked (marks_of sets k)) (sym (marks-added k here)) (unmarked-set_le (marks_of sets k) r))
        (λ (away : holds lines k ≡ false). subst (λ xs. unmarked xs ≤ unmarked (marks_of sets k)) (sym (marks-other k away)) (omega arith))
        (cases_Bool (holds lines k)))
        (range_with_len 0 (64 * W)) line (Holds-range (64 * W) line low)
        (subst (λ xs. unmarked xs < unmarked (marks_of sets line)) (sym (marks-added line member))
        (let one = unmarked-set (marks_of sets line) r (let size = length-marks sets line in omega (arith, size, within)) (marked-read sets line r old within read ∙ blank) in omega (arith, one)))

-- The lines have come up from the region to r, and those of the sets that are no such lines are as before.
pub record IsAdding {W : ℕ} (t : Tree) (region r : ℕ) (lines : ClassSet W) (before sets : List (ClassSet W)) : Type 0 where
  pub size : length sets ≡ length before
  pub within : r < length t.entries
  pub added : (line : ℕ) → holds lines line ≡ true → IsMarking t region r (marks_of before line) (marks_of sets line)
  pub others : (line : ℕ) → holds lines line ≡ false → marks_of sets line ≡ marks_of before line

module _ {W : ℕ} (t : Tree) (region : ℕ) (lines : ClassSet W) where
  module _ (r : ℕ) (before sets : List (ClassSet W)) (a : IsAdding t region r lines before sets) where
    pub IsAdding-step : HaveParents t → 0 < r → r < length sets → (old new : ClassSet W) → old ≡ get_or sets r old → ((line : ℕ) → holds new line ≡ (holds old line || holds lines line)) → IsAdding t region (parent_of t r) lines before (set sets r new)
    IsAdding-step p away inside old new read is = record {
      size = length-set sets r new ∙ a.size;
      within = parent_within p (away, a.within);
      added = λ line member. subst (λ xs. IsMarking t region (parent_of t r) (marks_of before line) xs) (sym (marks-added sets r lines old new inside read is line member))
          (IsMarking-step t region r (marks_of before line) (marks_of sets line) (a.added line member) p away (let size = length-marks sets line in omega (arith, size, inside)));
      others = λ line none. marks-other sets r lines old new inside read is line none ∙ a.others line none;
    }
      where
        parent_within : HaveParents t → IsNumber t r → parent_of t r < length t.entries
        parent_within p number = ⊎_elim
            (λ (none : parent_of t r ≡ 0). let some = p.some in omega (arith, none, some))
            (λ (other : parent_of t r ≢ 0). (p.numbers r number other).1)
            (cases_eq (parent_of t r) 0)

-- From the nodes below k the lines that they touch went up.
pub record AreHeard {W : ℕ} (g : Graph) (t : Tree) (touches : ℕ → ℕ → Bool) (k : ℕ) (sets : List (ClassSet W)) : Type 0 where
  pub size : length sets ≡ length t.entries
  pub each : (line : ℕ) → IsHeard g t touches line k (marks_of sets line)

module _ {W : ℕ} (g : Graph) (t : Tree) (f : TreeFacts g t) (touches : ℕ → ℕ → Bool) where
  pub AreHeard-none : (n : ℕ) (s : ClassSet W) → n ≡ length t.entries → ((line : ℕ) → holds s line ≡ false) → AreHeard g t touches 0 (replicate n s)
  AreHeard-none n s count none = record {
    size = length-replicate n s ∙ count;
    each = λ line. IsHeard-none g t f touches line (marks_of (replicate n s) line) (length-marks (replicate n s) line ∙ length-replicate n s ∙ count) (λ r. blank_sets n line r s (none line));
  }

  pub AreHeard-more : (k : ℕ) (sets sets' : List (ClassSet W)) (lines : ClassSet W) → AreHeard g t touches k sets → k < g.nodes → ((line : ℕ) → touches k line ≡ holds lines line) → length sets' ≡ length sets
      → ((line : ℕ) → holds lines line ≡ true → IsMarkedFrom t (innermost_of t k) (marks_of sets line) (marks_of sets' line))
      → ((line : ℕ) → holds lines line ≡ false → marks_of sets' line ≡ marks_of sets line)
      → AreHeard g t touches (k + 1) sets'
  AreHeard-more k sets sets' lines h exists is size added others = record {
    size = size ∙ h.size;
    each = λ line. ⊎_elim
        (λ (member : holds lines line ≡ true). IsHeard-take g t f touches line k (marks_of sets line) (h.each line) (marks_of sets' line) exists (is line ∙ member) (added line member))
        (λ (none : holds lines line ≡ false). subst (λ xs. IsHeard g t touches line (k + 1) xs) (sym (others line none)) (IsHeard-skip g t f touches line k (marks_of sets line) (h.each line) (is line ∙ none)))
        (cases_Bool (holds lines line));
  }

  pub AreHeard-end : (sets : List (ClassSet W)) → AreHeard g t touches g.nodes sets → (line : ℕ) → AreNoisy g t touches line (marks_of sets line)
  AreHeard-end sets h line = AreNoisy-end g t f touches line (marks_of sets line) (h.each line)
