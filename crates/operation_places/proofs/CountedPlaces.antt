-- It is counted for how much nodes wait, before and after a change.
use Rattle.std.proofs.Common.{◌≡◌, ◌<◌, ◌≤◌, ◌+◌, ◌-◌, ◌^◌, ◌==◌, ⊎_elim, ℕ, Bool, true, false, List, [], All, length, get_or, refl, sym, ap, ◌∙◌, subst, arith}
use Rattle.std.proofs.lemmas.Bool.{cases_Bool, eq-eqb, ne_eqb}
use Rattle.firing.specs.ReadySet.{has}
use Rattle.op_board.specs.OperationNets.{OperationNet}
use Rattle.op_board.specs.OperationTokens.{OperationTokens}
use Rattle.operation_places.specs.declared.places.Places.{Places}
use Rattle.operation_places.specs.Leads.{IsLead}
use Rattle.operation_places.specs.Counts.{AreCounts, one_more}
use Rattle.operation_places.specs.PlacesView.{IsCounted, standing}
use Rattle.operation_tables.specs.Waits.{awaits, node_total, one_if, waits}
use Rattle.operation_places.proofs.CountedNumbers.{count_at, count_long, counts_same}
use Rattle.operation_places.proofs.FailingLists.{one_at_most}

module _ (x : OperationNet) (old : Places) (are : IsCounted x old) where
  abbrev apart : List Bool
  apart = old.apart.items

  abbrev count_in : OperationTokens → ℕ → ℕ
  count_in m = awaits x apart m

  -- there is a count for each node
  pub counted_long : old.counted ≡ true → length old.counts.items ≡ node_total x
  counted_long counted = count_long (node_total x) (count_in (standing old)) old.counts.items (are.counts counted)

  -- what is counted, as counts and marks
  counted_counts : old.counted ≡ true → AreCounts (length old.counts.items) (count_in (standing old)) (has apart) old.counts.items old.set
  counted_counts counted = subst (λ n. AreCounts n (count_in (standing old)) (has apart) old.counts.items old.set) (sym (counted_long counted)) (record { counts = are.counts counted; marks = are.marks counted })

  pub counted_marks : length old.set ≡ node_total x → length old.counts.items ≤ length old.set
  counted_marks marks = ⊎_elim
      (λ (counted : old.counted ≡ true). let long = counted_long counted in omega (arith, long, marks))
      (λ (none : old.counted ≡ false). let e = ap length (are.none none) in omega (arith, e))
      (cases_Bool old.counted)

  -- where there is a count, it is asked for
  has_count : (k : ℕ) → k < length old.counts.items → old.counted ≡ true
  has_count k inside = ⊎_elim
      (λ (counted : old.counted ≡ true). counted)
      (λ (none : old.counted ≡ false). let e = ap length (are.none none) in absurd (omega (arith, inside, e)))
      (cases_Bool old.counted)

  count_is : (k : ℕ) → k < length old.counts.items → get_or old.counts.items k 0 ≡ count_in (standing old) k
  count_is k inside =
      let counted = has_count k inside in
      let long = counted_long counted in
      count_at (node_total x) (count_in (standing old)) old.counts.items k (are.counts counted) (omega (arith, inside, long))

  -- a count can be raised
  pub counted_few : (k : ℕ) → ((m : OperationTokens) (j : ℕ) → j < node_total x → waits x m j < 2 ^ 34) → k < length old.counts.items → get_or old.counts.items k 0 < 2 ^ 64 - 1
  counted_few k few inside =
      let long = counted_long (has_count k inside) in
      let at = count_is k inside in
      let f = few (standing old) k (omega (arith, inside, long)) in
      let one = one_at_most (has apart k) in
      omega (arith, at, f, one)

  -- and that of a node that another game leads isn't 0
  pub counted_apart : (k : ℕ) → k < length old.counts.items → one_if (has apart k) ≤ get_or old.counts.items k 0
  counted_apart k inside = let at = count_is k inside in omega (arith, at)

  -- A change by which one node waits for one thing more, and another one for one less. First the one is counted, and then the other.
  module _
      (mid : Places) (new : OperationTokens) (from to : ℕ)
      (change : old.counted ≡ true → (j : ℕ) → j < node_total x → waits x new j + one_if (j == to) ≡ waits x (standing old) j + one_if (j == from))
      (kept : mid.counted ≡ old.counted) (led : mid.apart.items ≡ apart)
      (none_mid : old.counts.items ≡ [] → mid.counts.items ≡ [])
      (more : (count : ℕ → ℕ) (but : ℕ → Bool) → AreCounts (length old.counts.items) count but old.counts.items old.set → AreCounts (length old.counts.items) (one_more count from) but mid.counts.items mid.set) where
    was : mid.counted ≡ true → old.counted ≡ true
    was counted = sym kept ∙ counted

    same : (counted : mid.counted ≡ true) (j : ℕ) → j < node_total x → one_more (count_in new) to j ≡ one_more (count_in (standing old)) from j
    same counted j below = let both = change (was counted) j below in omega (arith, both)

    mid_counts : mid.counted ≡ true → AreCounts (node_total x) (one_more (count_in new) to) (has apart) mid.counts.items mid.set
    mid_counts counted =
        let n = length old.counts.items in
        let total = counted_long (was counted) in
        let raised = more (count_in (standing old)) (has apart) (counted_counts (was counted)) in
        subst (λ (n : ℕ). AreCounts n (one_more (count_in new) to) (has apart) mid.counts.items mid.set) total
        (counts_same n (one_more (count_in (standing old)) from) (one_more (count_in new) to) (has apart) mid.counts.items mid.set raised (λ j below. same counted j (omega (arith, below, total))))

    mid_long : mid.counted ≡ true → length mid.counts.items ≡ node_total x
    mid_long counted = count_long (node_total x) (one_more (count_in new) to) mid.counts.items (mid_counts counted).counts

    none_there : mid.counted ≡ false → mid.counts.items ≡ []
    none_there none = none_mid (are.none (sym kept ∙ none))

    -- the other one can be lowered
    pub less_some : to < length mid.counts.items → one_if (has mid.apart.items to) < get_or mid.counts.items to 0
    less_some inside = ⊎_elim
        (λ (counted : mid.counted ≡ true).
        let long = mid_long counted in
        let at = count_at (node_total x) (one_more (count_in new) to) mid.counts.items to (mid_counts counted).counts (omega (arith, inside, long)) in
        let one : one_if (to == to) ≡ 1 = ap one_if (eq-eqb to to refl) in
        let same_led : one_if (has mid.apart.items to) ≡ one_if (has apart to) = ap (λ (led : List Bool). one_if (has led to)) led in
        omega (arith, at, one, same_led))
        (λ (none : mid.counted ≡ false). let e = ap length (none_there none) in absurd (omega (arith, inside, e)))
        (cases_Bool mid.counted)

    -- since it waits for something, it isn't marked
    pub less_right : to < length mid.counts.items → has mid.apart.items to ≡ false → has mid.set to ≡ false
    less_right inside free = ⊎_elim
        (λ (counted : mid.counted ≡ true).
        let long = mid_long counted in
        let at = count_at (node_total x) (one_more (count_in new) to) mid.counts.items to (mid_counts counted).counts (omega (arith, inside, long)) in
        let some = less_some inside in
        (mid_counts counted).marks.right to (omega (arith, inside, long)) (ap (λ (l : List Bool). has l to) (sym led) ∙ free)
        ∙ ne_eqb (one_more (count_in new) to to) 0 (λ none. omega (arith, at, some, none)))
        (λ (none : mid.counted ≡ false). let e = ap length (none_there none) in absurd (omega (arith, inside, e)))
        (cases_Bool mid.counted)

    pub less_marks : length mid.counts.items ≤ length mid.set
    less_marks = ⊎_elim
        (λ (counted : mid.counted ≡ true).
        let room = (mid_counts counted).marks.room in
        let long = mid_long counted in
        omega (arith, room, long))
        (λ (none : mid.counted ≡ false). let e = ap length (none_there none) in omega (arith, e))
        (cases_Bool mid.counted)

    module _
        (end : Places) (kept_end : end.counted ≡ mid.counted) (led_end : end.apart.items ≡ mid.apart.items) (stands : standing end ≡ new)
        (none_end : mid.counts.items ≡ [] → end.counts.items ≡ [])
        (less : (count : ℕ → ℕ) (but : ℕ → Bool) → AreCounts (length mid.counts.items) (one_more count to) but mid.counts.items mid.set → AreCounts (length mid.counts.items) count but end.counts.items end.set)
        (leads : end.leads.items ≡ old.leads.items) where
      end_counts : end.counted ≡ true → AreCounts (node_total x) (awaits x end.apart.items (standing end)) (has end.apart.items) end.counts.items end.set
      end_counts counted =
          let now : mid.counted ≡ true = sym kept_end ∙ counted in
          let long = mid_long now in
          let there : AreCounts (length mid.counts.items) (one_more (count_in new) to) (has apart) mid.counts.items mid.set = subst (λ (n : ℕ). AreCounts n (one_more (count_in new) to) (has apart) mid.counts.items mid.set) (sym long) (mid_counts now) in
          subst (λ (m : OperationTokens). AreCounts (node_total x) (awaits x end.apart.items m) (has end.apart.items) end.counts.items end.set) (sym stands)
          (subst (λ (led : List Bool). AreCounts (node_total x) (awaits x led new) (has led) end.counts.items end.set) (sym (led_end ∙ led))
          (subst (λ (n : ℕ). AreCounts n (count_in new) (has apart) end.counts.items end.set) long (less (count_in new) (has apart) there)))

      pub counted_after : IsCounted x end
      counted_after = record {
        counts = λ counted. (end_counts counted).counts;
        marks = λ counted. (end_counts counted).marks;
        none = λ counted. none_end (none_there (sym kept_end ∙ counted));
        leads = subst (All (IsLead x)) (sym leads) are.leads;
      }
