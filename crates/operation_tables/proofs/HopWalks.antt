-- Lists of the members of a set below a bound, made by going from each to the next one.
use Rattle.std.proofs.Common.{◌≡◌, ◌≢◌, ⊎_elim, ℕ, zero, suc, ◌+◌, ◌-◌, ◌<◌, ◌≤◌, ◌&&◌, nat_lt, Bool, true, false, List, [], ◌∷◌, ◌++◌, filter, Option, Some, None, IfSome, MatchOption, refl, sym, ap, ◌∙◌, subst, lt-ltb, arith}
use Rattle.std.specs.List.{range_with_len}
use Rattle.std.proofs.lemmas.Bool.{cases_eq, cases_lt, le-ltb}
use Rattle.std.proofs.lemmas.List.{append-nil}
use Rattle.std.proofs.lemmas.List.Elements.{filter-append}
use Rattle.class_set.specs.Members.{IsLast, IsNext}
use Rattle.list_laws.proofs.Ranges.{range_more}
use Rattle.operation_tables.specs.Waits.{one_if}

-- the next member, or the bound where there is none
abbrev pub end_of : (lines : ℕ) → Option ℕ → ℕ
end_of lines None = lines
end_of lines (Some line) = line

-- the members below the next one are listed
pub record IsWalk (test : ℕ → Bool) (lines : ℕ) (next : Option ℕ) (list : List ℕ) : Type 0 where
  pub listed : list ≡ filter test (range_with_len 0 (end_of lines next))
  pub member : IfSome next (λ line. test line ≡ true)

module _ (test : ℕ → Bool) where
  filter_told : (n : ℕ) → test n ≡ true → filter test (range_with_len 0 (n + 1)) ≡ filter test (range_with_len 0 n) ++ n ∷ []
  filter_told n is = ap (filter test) (range_more n) ∙ filter-append test (range_with_len 0 n) (n ∷ []) ∙ rw is refl

  filter_not : (n : ℕ) → test n ≡ false → filter test (range_with_len 0 (n + 1)) ≡ filter test (range_with_len 0 n)
  filter_not n is = ap (filter test) (range_more n) ∙ filter-append test (range_with_len 0 n) (n ∷ []) ∙ rw is (append-nil (filter test (range_with_len 0 n)))

  filter_gap : (a more : ℕ) → ((k : ℕ) → a ≤ k → k < a + more → test k ≡ false) → filter test (range_with_len 0 (a + more)) ≡ filter test (range_with_len 0 a)
  filter_gap a zero none = ap (λ n. filter test (range_with_len 0 n)) (omega arith)
  filter_gap a (suc more) none = ap (λ n. filter test (range_with_len 0 n)) (omega arith) ∙ filter_not (a + more) (none (a + more) (omega arith) (omega arith)) ∙ filter_gap a more (λ k from below. none k from (omega (arith, below)))

  filter_between : (a b : ℕ) → a ≤ b → ((k : ℕ) → a ≤ k → k < b → test k ≡ false) → filter test (range_with_len 0 b) ≡ filter test (range_with_len 0 a)
  filter_between a b le none =
      let sum : a + (b - a) ≡ b = omega (arith, le) in
      ap (λ n. filter test (range_with_len 0 n)) (sym sum) ∙ filter_gap a (b - a) (λ k from below. none k from (omega (arith, below, le)))

  module _ (lines : ℕ) where
    pub walk_begin : (next : Option ℕ) → MatchOption next (IsLast test None) (IsNext test None) → IsWalk test lines next []
    walk_begin None last = record { listed = sym (filter_between 0 lines (omega arith) (λ k from below. last k tt)); member = tt }
    walk_begin (Some line) next = record { listed = sym (filter_between 0 line (omega arith) (λ k from below. next.least k tt below)); member = next.member }

    module _ (line : ℕ) (low : line < lines) where
      walk_on : (list : List ℕ) → IsWalk test lines (Some line) list → (end : ℕ) → line < end → ((k : ℕ) → line < k → k < end → test k ≡ false) → list ++ line ∷ [] ≡ filter test (range_with_len 0 end)
      walk_on list walk end above none =
          ap (λ xs. xs ++ line ∷ []) walk.listed
          ∙ sym (filter_told line walk.member)
          ∙ sym (filter_between (line + 1) end (omega (arith, above)) (λ k from below. none k (omega (arith, from)) below))

      -- the line is listed, and the next one comes after it
      pub walk_more : (next : Option ℕ) (list : List ℕ) → IsWalk test lines (Some line) list → MatchOption next (IsLast test (Some line)) (IsNext test (Some line)) → IsWalk test lines next (list ++ line ∷ [])
      walk_more None list walk last = record { listed = walk_on list walk lines low (λ k from below. last k from); member = tt }
      walk_more (Some other) list walk next = record { listed = walk_on list walk other next.above (λ k from below. next.least k from below); member = next.member }

      pub walk_up : (next : Option ℕ) → MatchOption next (IsLast test (Some line)) (IsNext test (Some line)) → line < end_of lines next
      walk_up None last = low
      walk_up (Some other) next = next.above

      -- no member stands between the line and the next one
      walk_gap : (next : Option ℕ) → MatchOption next (IsLast test (Some line)) (IsNext test (Some line)) → (k : ℕ) → line < k → k < end_of lines next → test k ≡ false
      walk_gap None last k above below = last k above
      walk_gap (Some other) next k above below = next.least k above below

      other_counts : (next : Option ℕ) → MatchOption next (IsLast test (Some line)) (IsNext test (Some line)) → (k : ℕ) → k ≢ line → (test k && nat_lt k line) ≡ (test k && nat_lt k (end_of lines next))
      other_counts next is k apart = ⊎_elim
          (λ (below : k < line). ap (λ b. test k && b) (lt-ltb k line below ∙ sym (lt-ltb k (end_of lines next) (let up = walk_up next is in omega (arith, up, below)))))
          (λ (above : line ≤ k). ap (λ b. test k && b) (le-ltb k line above) ∙ and_false (test k) ∙ sym (past k (omega (arith, above, apart))))
          (cases_lt k line)
        where
          and_false : (b : Bool) → (b && false) ≡ false
          and_false true = refl
          and_false false = refl

          past : (k : ℕ) → line < k → (test k && nat_lt k (end_of lines next)) ≡ false
          past k above = ⊎_elim
              (λ (below : k < end_of lines next). ap (λ b. b && nat_lt k (end_of lines next)) (walk_gap next is k above below))
              (λ (high : end_of lines next ≤ k). ap (λ b. test k && b) (le-ltb k (end_of lines next) high) ∙ and_false (test k))
              (cases_lt k (end_of lines next))

      -- the line itself isn't counted yet
      pub count_at : (old mid : ℕ → ℕ) → ((k : ℕ) → mid k ≡ old k + one_if (test k && nat_lt k line)) → mid line ≡ old line
      count_at old mid counted =
          let none : one_if (test line && nat_lt line line) ≡ 0 = ap one_if (ap (λ b. test line && b) (le-ltb line line (omega arith)) ∙ and_false (test line)) in
          let is = counted line in
          omega (arith, none, is)
        where
          and_false : (b : Bool) → (b && false) ≡ false
          and_false true = refl
          and_false false = refl

      -- what is counted of each line: the members below the next one
      pub counts_more : (old mid new : ℕ → ℕ) → ((k : ℕ) → mid k ≡ old k + one_if (test k && nat_lt k line)) → test line ≡ true → new line ≡ mid line + 1 → ((k : ℕ) → k ≢ line → new k ≡ mid k) → (next : Option ℕ) → MatchOption next (IsLast test (Some line)) (IsNext test (Some line)) → (k : ℕ) → new k ≡ old k + one_if (test k && nat_lt k (end_of lines next))
      counts_more old mid new counted is here others next next_is k = ⊎_elim
          (λ (same : k ≡ line). subst (λ j. new j ≡ old j + one_if (test j && nat_lt j (end_of lines next))) (sym same) at)
          (λ (apart : k ≢ line). others k apart ∙ counted k ∙ ap (λ b. old k + one_if b) (other_counts next next_is k apart))
          (cases_eq k line)
        where
          at : new line ≡ old line + one_if (test line && nat_lt line (end_of lines next))
          at =
              let before : one_if (test line && nat_lt line line) ≡ 0 = ap one_if (ap (λ b. b && nat_lt line line) is ∙ le-ltb line line (omega arith)) in
              let after : one_if (test line && nat_lt line (end_of lines next)) ≡ 1 = ap one_if (ap (λ b. b && nat_lt line (end_of lines next)) is ∙ lt-ltb line (end_of lines next) (walk_up next next_is)) in
              let mid_is = counted line in
              omega (arith, here, before, after, mid_is)

    -- at first nothing is counted
    pub counts_begin : (old : ℕ → ℕ) (next : Option ℕ) → MatchOption next (IsLast test None) (IsNext test None) → (k : ℕ) → old k ≡ old k + one_if (test k && nat_lt k (end_of lines next))
    counts_begin old next is k = let none : one_if (test k && nat_lt k (end_of lines next)) ≡ 0 = ap one_if (by next is) in omega (arith, none)
      where
        by : (next : Option ℕ) → MatchOption next (IsLast test None) (IsNext test None) → (test k && nat_lt k (end_of lines next)) ≡ false
        by None last = ap (λ b. b && nat_lt k lines) (last k tt)
        by (Some line) next = ⊎_elim
            (λ (below : k < line). ap (λ b. b && nat_lt k line) (next.least k tt below))
            (λ (high : line ≤ k). ap (λ b. test k && b) (le-ltb k line high) ∙ and_false (test k))
            (cases_lt k line)
          where
            and_false : (b : Bool) → (b && false) ≡ false
            and_false true = refl
            and_false false = refl
