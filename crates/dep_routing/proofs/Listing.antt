-- Lists of the lines that a test tells, made from one such line to the next.
use Rattle.std.proofs.Common.{◌≡◌, ◌≢◌, ℕ, zero, suc, ◌+◌, ◌-◌, ◌<◌, ◌≤◌, ◌↔◌, Bool, true, false, not, List, length, [], ◌∷◌, ◌++◌, filter, refl, sym, ap, ◌∙◌, subst, inl, ⊎_elim, arith}
use Rattle.std.specs.List.{range_with_len}
use Rattle.std.proofs.lemmas.Bool.{cases_eq, cases_lt, cases_Bool, false≢true}
use Rattle.std.proofs.lemmas.List.Elements.{filter-append}
use Rattle.std.proofs.lemmas.List.Filters.{length-filter_both}
use Rattle.std.proofs.lemmas.List.FromFn.{length-range_with_len}
use Rattle.closed_walks.specs.Walk.{Holds}
use Rattle.closed_walks.proofs.Held.{Holds-left, Holds-right, Holds-append}
use Rattle.list_laws.proofs.Ranges.{range_more}

-- Of a list in the making: it has the lines below a bound that the test tells, and of those after it the next one is the first, or
-- all are listed.
pub record IsListing (test : ℕ → Bool) (lines next : ℕ) (list : List ℕ) : Type 0 where
  pub bound : ℕ
  pub low : bound ≤ next
  pub within : next ≤ lines
  pub listed : list ≡ filter test (range_with_len 0 bound)
  pub member : next < lines → test next ≡ true
  pub gap : (k : ℕ) → bound ≤ k → k < next → test k ≡ false

module _ (test : ℕ → Bool) where
  filter_told : (n : ℕ) → test n ≡ true → filter test (range_with_len 0 (n + 1)) ≡ filter test (range_with_len 0 n) ++ n ∷ []
  filter_told n is = ap (filter test) (range_more n) ∙ filter-append test (range_with_len 0 n) (n ∷ []) ∙ rw is refl

  filter_not : (n : ℕ) → test n ≡ false → filter test (range_with_len 0 (n + 1)) ≡ filter test (range_with_len 0 n)
  filter_not n is = ap (filter test) (range_more n) ∙ filter-append test (range_with_len 0 n) (n ∷ []) ∙ rw is (append_nil (filter test (range_with_len 0 n)))
    where
      append_nil : (xs : List ℕ) → xs ++ [] ≡ xs
      append_nil [] = refl
      append_nil (x ∷ xs) = ap (λ ys. x ∷ ys) (append_nil xs)

  filter_gap : (a more : ℕ) → ((k : ℕ) → a ≤ k → k < a + more → test k ≡ false) → filter test (range_with_len 0 (a + more)) ≡ filter test (range_with_len 0 a)
  filter_gap a zero none = ap (λ n. filter test (range_with_len 0 n)) (omega arith)
  filter_gap a (suc more) none = ap (λ n. filter test (range_with_len 0 n)) (omega arith) ∙ filter_not (a + more) (none (a + more) (omega arith) (omega arith)) ∙ filter_gap a more (λ k from below. none k from (omega (arith, below)))

  pub filter_between : (a b : ℕ) → a ≤ b → ((k : ℕ) → a ≤ k → k < b → test k ≡ false) → filter test (range_with_len 0 b) ≡ filter test (range_with_len 0 a)
  filter_between a b le none =
      let sum : a + (b - a) ≡ b = omega (arith, le) in
      ap (λ n. filter test (range_with_len 0 n)) (sym sum) ∙ filter_gap a (b - a) (λ k from below. none k from (omega (arith, below, le)))

  -- which numbers are listed
  filter_holds : (n k : ℕ) → Holds (filter test (range_with_len 0 n)) k ↔ ((k < n) × (test k ≡ true))
  filter_holds zero k = (λ h. absurd h, λ h. let low = h.0 in absurd (omega (arith, low)))
  filter_holds (suc n) k =
      let more : suc n ≡ n + 1 = omega arith in
      ⊎_elim
      (λ (told : test n ≡ true). subst (λ xs. Holds xs k ↔ ((k < suc n) × (test k ≡ true))) (sym (ap (λ m. filter test (range_with_len 0 m)) more ∙ filter_told n told)) (
        λ h. ⊎_elim
            (λ (old : Holds (filter test (range_with_len 0 n)) k). let is = (filter_holds n k).0 old in let low = is.0 in (omega (arith, low), is.1))
            (⊎_elim (λ (same : n ≡ k). (omega (arith, same), subst (λ x. test x ≡ true) same told)) (λ none. absurd none))
            (Holds-append (filter test (range_with_len 0 n)) (n ∷ []) k h),
        λ h. ⊎_elim
            (λ (same : k ≡ n). Holds-right (filter test (range_with_len 0 n)) (n ∷ []) k (inl (sym same)))
            (λ (apart : k ≢ n). let low = h.0 in Holds-left (filter test (range_with_len 0 n)) (n ∷ []) k ((filter_holds n k).1 (omega (arith, low, apart), h.1)))
            (cases_eq k n),
      ))
      (λ (not_told : test n ≡ false). subst (λ xs. Holds xs k ↔ ((k < suc n) × (test k ≡ true))) (sym (ap (λ m. filter test (range_with_len 0 m)) more ∙ filter_not n not_told)) (
        λ h. let is = (filter_holds n k).0 h in let low = is.0 in (omega (arith, low), is.1),
        λ h. ⊎_elim
            (λ (same : k ≡ n). absurd (false≢true (sym not_told ∙ subst (λ x. test x ≡ true) same h.1)))
            (λ (apart : k ≢ n). let low = h.0 in (filter_holds n k).1 (omega (arith, low, apart), h.1))
            (cases_eq k n),
      ))
      (cases_Bool (test n))

  module _ (lines : ℕ) where
    pub IsListing-begin : (next : ℕ) → next ≤ lines → (next < lines → test next ≡ true) → ((k : ℕ) → k < next → test k ≡ false) → IsListing test lines next []
    IsListing-begin next within member none = record { bound = 0; low = omega arith; within = within; listed = refl; member = member; gap = λ k from below. none k below }

    module _ (line : ℕ) (list : List ℕ) (low : line < lines) (l : IsListing test lines line list) where
      -- no more lines are listed than stand below the next one
      pub few_listed : length list ≤ line
      few_listed =
          let few = length-filter_both test (λ n. not (test n)) (λ n. refl) (range_with_len 0 l.bound) in
          let size = length-range_with_len 0 l.bound in
          let same = ap length l.listed in
          let below = l.low in
          omega (arith, same, few, size, below)

      pub IsListing-more : (next : ℕ) → next ≤ lines → (next < lines → (test next ≡ true) × (line < next)) → ((k : ℕ) → line < k → k < next → test k ≡ false) → IsListing test lines next (list ++ line ∷ [])
      IsListing-more next within member none =
          let above : line < next = ⊎_elim (λ more. (member more).1) (λ past. omega (arith, past, low)) (cases_lt next lines) in
          let upto : filter test (range_with_len 0 line) ≡ list = filter_between l.bound line l.low l.gap ∙ sym l.listed in
          record {
            bound = line + 1;
            low = omega (arith, above);
            within = within;
            listed = ap (λ xs. xs ++ line ∷ []) (sym upto) ∙ sym (filter_told line (l.member low));
            member = λ more. (member more).0;
            gap = λ k from below. none k (omega (arith, from)) below;
          }

    pub IsListing-end : (next : ℕ) (list : List ℕ) → lines ≤ next → IsListing test lines next list → list ≡ filter test (range_with_len 0 lines)
    IsListing-end next list past l =
        let low = l.low in let within = l.within in
        l.listed ∙ sym (filter_between l.bound lines (omega (arith, low, within)) (λ k from below. l.gap k from (omega (arith, below, past))))

  pub told_members : (lines : ℕ) (list : List ℕ) → list ≡ filter test (range_with_len 0 lines) → (k : ℕ) → Holds list k ↔ ((k < lines) × (test k ≡ true))
  told_members lines list is k = subst (λ xs. Holds xs k ↔ ((k < lines) × (test k ≡ true))) (sym is) (filter_holds lines k)
