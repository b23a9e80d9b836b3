-- It is counted for how much nodes wait, while a node fires whose count is ahead.
use Rattle.std.proofs.Common.{◌≡◌, ◌<◌, ◌≤◌, ◌+◌, ◌^◌, ◌==◌, ⊎_elim, ℕ, Bool, true, false, if◌then◌else◌, List, [], All, length, get_or, refl, sym, ap, ◌∙◌, subst, arith}
use Rattle.std.proofs.Math.Logic.{∥∥₁_elim}
use Rattle.std.proofs.Props.{props}
use Rattle.std.proofs.lemmas.Bool.{cases_Bool, eq-eqb, ne_eqb}
use mathlib.Core.Path.{fun_ext}
use Rattle.firing.specs.ReadySet.{has}
use Rattle.op_board.specs.OperationNets.{OperationNet}
use Rattle.op_board.specs.OperationTokens.{OperationTokens}
use Rattle.operation_places.specs.declared.places.Places.{Places}
use Rattle.operation_places.specs.Leads.{IsLead}
use Rattle.operation_places.specs.Counts.{AreCounts, AreMarksBut, more_of, one_more}
use Rattle.operation_places.specs.PlacesView.{IsAheadBy, IsCounted, IsCountedAhead, standing}
use Rattle.operation_tables.specs.Waits.{awaits, node_total, one_if, waits}
use Rattle.operation_places.proofs.CountedNumbers.{count_at, count_long, counts_same, less_outside}

-- ---- numbers

if_same : (b : Bool) (n : ℕ) → (if b then n else n) ≡ n
if_same true n = refl
if_same false n = refl

if_more : (b : Bool) (n : ℕ) → (if b then 1 + n else 0) ≡ one_if b + (if b then n else 0)
if_more true n = refl
if_more false n = refl

pub more_none : (count : ℕ → ℕ) (k : ℕ) → more_of count k 0 ≡ count
more_none count k = fun_ext (λ j. let same = if_same (j == k) 0 in let is : more_of count k 0 j ≡ count j = omega (arith, same) in is)

-- where one thing more is counted at k, and one thing less at another node
moved_one : (new old apart n r one : ℕ) (b : Bool) → new + one ≡ old + one_if b → n ≡ (if b then 1 + r else 0) → new + apart + (if b then r else 0) + one ≡ old + apart + n
moved_one new old apart n r one b both is = let more = if_more b r in omega (arith, both, is, more)

-- ---- nothing is ahead

module _ (x : OperationNet) (s : Places) (k : ℕ) where
  abbrev count_now : ℕ → ℕ
  count_now = awaits x s.apart.items (standing s)

  pub ahead_counted : IsCountedAhead x s k 0 → IsCounted x s
  ahead_counted are = record {
    counts = λ counted. subst (λ (f : ℕ → ℕ). s.counts.items ≡ Rattle.std.proofs.Common.map f (Rattle.std.specs.List.range_with_len 0 (node_total x))) (more_none count_now k) (are.counts counted);
    marks = λ counted. subst (λ (f : ℕ → ℕ). AreMarksBut (node_total x) (has s.apart.items) (λ j. f j == 0) s.set) (more_none count_now k) (are.marks counted);
    none = are.none;
    leads = are.leads;
  }

-- ---- one change, for which another node waits for one thing less

module _ (x : OperationNet) (old : Places) (k : ℕ) (new : OperationTokens) (to : ℕ)
    (change : old.counted ≡ true → (j : ℕ) → j < node_total x → waits x new j + one_if (j == to) ≡ waits x (standing old) j + one_if (j == k)) where
  abbrev apart : List Bool
  apart = old.apart.items

  -- the counts after the change, with one more of the node that waits for less
  abbrev count_with : (rest : ℕ) → ℕ → ℕ
  count_with rest = one_more (more_of (awaits x apart new) k rest) to

  module _ (rest : ℕ) (are : IsCountedAhead x old k (1 + rest)) where
    counts_now : old.counted ≡ true → AreCounts (node_total x) (count_with rest) (has apart) old.counts.items old.set
    counts_now counted = counts_same (node_total x) (more_of (awaits x apart (standing old)) k (1 + rest)) (count_with rest) (has apart) old.counts.items old.set
        (record { counts = are.counts counted; marks = are.marks counted })
        (λ j below. moved_one (waits x new j) (waits x (standing old) j) (one_if (has apart j)) (if j == k then 1 + rest else 0) rest (one_if (j == to)) (j == k) (change counted j below) refl)

    long : old.counted ≡ true → length old.counts.items ≡ node_total x
    long counted = count_long (node_total x) (count_with rest) old.counts.items (counts_now counted).counts

    there : old.counted ≡ true → AreCounts (length old.counts.items) (count_with rest) (has apart) old.counts.items old.set
    there counted = subst (λ (n : ℕ). AreCounts n (count_with rest) (has apart) old.counts.items old.set) (sym (long counted)) (counts_now counted)

    has_count : (j : ℕ) → j < length old.counts.items → old.counted ≡ true
    has_count j inside = ⊎_elim
        (λ (counted : old.counted ≡ true). counted)
        (λ (none : old.counted ≡ false). let e = ap length (are.none none) in absurd (omega (arith, inside, e)))
        (cases_Bool old.counted)

    some_count : to < length old.counts.items → one_if (has apart to) < get_or old.counts.items to 0
    some_count inside =
        let counted = has_count to inside in
        let at = count_at (length old.counts.items) (count_with rest) old.counts.items to (there counted).counts inside in
        let one : one_if (to == to) ≡ 1 = ap one_if (eq-eqb to to refl) in
        omega (arith, at, one)

    clear_mark : to < length old.counts.items → has apart to ≡ false → has old.set to ≡ false
    clear_mark inside free =
        let counted = has_count to inside in
        let at = count_at (length old.counts.items) (count_with rest) old.counts.items to (there counted).counts inside in
        let some = some_count inside in
        (there counted).marks.right to inside free ∙ ne_eqb (count_with rest to) 0 (λ none. omega (arith, at, some, none))

    enough_marks : length old.counts.items ≤ length old.set
    enough_marks = ⊎_elim
        (λ (counted : old.counted ≡ true). let room = (there counted).marks.room in omega (arith, room))
        (λ (none : old.counted ≡ false). let e = ap length (are.none none) in omega (arith, e))
        (cases_Bool old.counted)

  -- the other node can be lowered
  module _ (ahead : ∥ IsAheadBy x old k 1 ∥₁) where
    pub less_some : to < length old.counts.items → one_if (has apart to) < get_or old.counts.items to 0
    less_some inside = ∥∥₁_elim ahead (Prim.hlevel props) (λ (by : IsAheadBy x old k 1). some_count by.rest by.counted inside)

    pub less_right : to < length old.counts.items → has apart to ≡ false → has old.set to ≡ false
    less_right inside free = ∥∥₁_elim ahead (Prim.hlevel props) (λ (by : IsAheadBy x old k 1). clear_mark by.rest by.counted inside free)

    pub less_marks : length old.counts.items ≤ length old.set
    less_marks = ∥∥₁_elim ahead (Prim.hlevel props) (λ (by : IsAheadBy x old k 1). enough_marks by.rest by.counted)

  pub ahead_after : (end : Places) → end.counted ≡ old.counted → end.apart.items ≡ apart → standing end ≡ new → (old.counts.items ≡ [] → end.counts.items ≡ [])
      → ((count : ℕ → ℕ) (but : ℕ → Bool) → AreCounts (length old.counts.items) (one_more count to) but old.counts.items old.set → AreCounts (length old.counts.items) count but end.counts.items end.set)
      → end.leads.items ≡ old.leads.items → (rest : ℕ) → IsCountedAhead x old k (1 + rest) → IsCountedAhead x end k rest
  ahead_after end kept led stands none less leads rest are = record {
    counts = λ counted. (end_counts counted).counts;
    marks = λ counted. (end_counts counted).marks;
    none = λ counted. none (are.none (sym kept ∙ counted));
    leads = subst (All (IsLead x)) (sym leads) are.leads;
  }
    where
      end_counts : end.counted ≡ true → AreCounts (node_total x) (more_of (awaits x end.apart.items (standing end)) k rest) (has end.apart.items) end.counts.items end.set
      end_counts counted =
          let was : old.counted ≡ true = sym kept ∙ counted in
          subst (λ (m : OperationTokens). AreCounts (node_total x) (more_of (awaits x end.apart.items m) k rest) (has end.apart.items) end.counts.items end.set) (sym stands)
          (subst (λ (l : List Bool). AreCounts (node_total x) (more_of (awaits x l new) k rest) (has l) end.counts.items end.set) (sym led)
          (subst (λ (n : ℕ). AreCounts n (more_of (awaits x apart new) k rest) (has apart) end.counts.items end.set) (long rest are was)
          (less (more_of (awaits x apart new) k rest) (has apart) (there rest are was))))

  -- where there is no such node
  pub ahead_alone : node_total x ≤ to → (end : Places) → end.counted ≡ old.counted → end.apart.items ≡ apart → standing end ≡ new → end.counts.items ≡ old.counts.items → end.set ≡ old.set
      → end.leads.items ≡ old.leads.items → (rest : ℕ) → IsCountedAhead x old k (1 + rest) → IsCountedAhead x end k rest
  ahead_alone past end kept led stands counts set leads rest are = record {
    counts = λ counted. (end_counts counted).counts;
    marks = λ counted. (end_counts counted).marks;
    none = λ counted. counts ∙ are.none (sym kept ∙ counted);
    leads = subst (All (IsLead x)) (sym leads) are.leads;
  }
    where
      end_counts : end.counted ≡ true → AreCounts (node_total x) (more_of (awaits x end.apart.items (standing end)) k rest) (has end.apart.items) end.counts.items end.set
      end_counts counted =
          let was : old.counted ≡ true = sym kept ∙ counted in
          subst (λ (m : OperationTokens). AreCounts (node_total x) (more_of (awaits x end.apart.items m) k rest) (has end.apart.items) end.counts.items end.set) (sym stands)
          (subst (λ (l : List Bool). AreCounts (node_total x) (more_of (awaits x l new) k rest) (has l) end.counts.items end.set) (sym led)
          (subst (λ (numbers : List ℕ). AreCounts (node_total x) (more_of (awaits x apart new) k rest) (has apart) numbers end.set) (sym counts)
          (subst (λ (marks : List Bool). AreCounts (node_total x) (more_of (awaits x apart new) k rest) (has apart) old.counts.items marks) (sym set)
          (less_outside (node_total x) (more_of (awaits x apart new) k rest) to (has apart) old.counts.items old.set (counts_now rest are was) past))))

-- ---- what the node that fires waits anew for is counted

module _ (x : OperationNet) (old : Places) (are : IsCounted x old) (k more : ℕ) where
  abbrev led : List Bool
  led = old.apart.items

  abbrev count_old : ℕ → ℕ
  count_old = awaits x led (standing old)

  old_long : old.counted ≡ true → length old.counts.items ≡ node_total x
  old_long counted = count_long (node_total x) count_old old.counts.items (are.counts counted)

  old_counted : k < length old.counts.items → old.counted ≡ true
  old_counted inside = ⊎_elim
      (λ (counted : old.counted ≡ true). counted)
      (λ (none : old.counted ≡ false). let e = ap length (are.none none) in absurd (omega (arith, inside, e)))
      (cases_Bool old.counted)

  old_at : k < length old.counts.items → get_or old.counts.items k 0 ≡ count_old k
  old_at inside =
      let counted = old_counted inside in
      let long = old_long counted in
      count_at (node_total x) count_old old.counts.items k (are.counts counted) (omega (arith, inside, long))

  -- the count can be raised
  pub anew_few : ((m : OperationTokens) (j : ℕ) → j < node_total x → waits x m j < 2 ^ 34) → more < 2 ^ 34 → k < length old.counts.items → get_or old.counts.items k 0 + more < 2 ^ 64
  anew_few few low inside =
      let at = old_at inside in
      let long = old_long (old_counted inside) in
      let f = few (standing old) k (omega (arith, inside, long)) in
      let one = Rattle.operation_places.proofs.FailingLists.one_at_most (has led k) in
      omega (arith, at, f, one, low)

  pub anew_apart : k < length old.counts.items → one_if (has led k) ≤ get_or old.counts.items k 0
  anew_apart inside = let at = old_at inside in omega (arith, at)

  pub anew_right : k < length old.counts.items → get_or old.counts.items k 0 ≡ 0 → has old.set k ≡ true
  anew_right inside none =
      let counted = old_counted inside in
      let long = old_long counted in
      let at = old_at inside in
      (are.marks counted).right k (omega (arith, inside, long)) (free none at) ∙ eq-eqb (count_old k) 0 (sym at ∙ none)
    where
      free : get_or old.counts.items k 0 ≡ 0 → get_or old.counts.items k 0 ≡ count_old k → has led k ≡ false
      free none at = ⊎_elim
          (λ (is : has led k ≡ true). let one : one_if (has led k) ≡ 1 = ap one_if is in absurd (omega (arith, none, at, one)))
          (λ (is : has led k ≡ false). is)
          (cases_Bool (has led k))

  pub anew_marks : length old.counts.items ≤ length old.set
  anew_marks = ⊎_elim
      (λ (counted : old.counted ≡ true).
      let long = old_long counted in
      let room = (are.marks counted).room in
      omega (arith, long, room))
      (λ (none : old.counted ≡ false). let e = ap length (are.none none) in omega (arith, e))
      (cases_Bool old.counted)

  pub anew_ahead : (end : Places) → end.counted ≡ old.counted → end.apart.items ≡ led → standing end ≡ standing old → (old.counts.items ≡ [] → end.counts.items ≡ [])
      → ((count : ℕ → ℕ) (but : ℕ → Bool) → AreCounts (length old.counts.items) count but old.counts.items old.set → AreCounts (length old.counts.items) (more_of count k more) but end.counts.items end.set)
      → end.leads.items ≡ old.leads.items → IsCountedAhead x end k more
  anew_ahead end kept same stands none anew leads = record {
    counts = λ counted. (end_counts counted).counts;
    marks = λ counted. (end_counts counted).marks;
    none = λ counted. none (are.none (sym kept ∙ counted));
    leads = subst (All (IsLead x)) (sym leads) are.leads;
  }
    where
      end_counts : end.counted ≡ true → AreCounts (node_total x) (more_of (awaits x end.apart.items (standing end)) k more) (has end.apart.items) end.counts.items end.set
      end_counts counted =
          let was : old.counted ≡ true = sym kept ∙ counted in
          let long = old_long was in
          let here : AreCounts (length old.counts.items) count_old (has led) old.counts.items old.set = subst (λ (n : ℕ). AreCounts n count_old (has led) old.counts.items old.set) (sym long) (record { counts = are.counts was; marks = are.marks was }) in
          subst (λ (m : OperationTokens). AreCounts (node_total x) (more_of (awaits x end.apart.items m) k more) (has end.apart.items) end.counts.items end.set) (sym stands)
          (subst (λ (l : List Bool). AreCounts (node_total x) (more_of (awaits x l (standing old)) k more) (has l) end.counts.items end.set) (sym same)
          (subst (λ (n : ℕ). AreCounts n (more_of count_old k more) (has led) end.counts.items end.set) long (anew count_old (has led) here)))
