-- For how many lines a load waits, as these are opened and closed for it.
use Rattle.std.proofs.Common.{◌≡◌, ◌<◌, ◌⊎◌, inl, inr, ℕ, zero, suc, ◌+◌, ◌-◌, Bool, true, false, not, List, [], ◌∷◌, length, Some, slice_get, slice_index, slice_set, refl, sym, ap, ◌∙◌, subst, arith}
use Rattle.std.proofs.lemmas.Bool.{cases_eq}
use Rattle.list_laws.specs.Member.{Member}
use Rattle.firing.specs.declared.system.NodeName.{NodeName}
use Rattle.firing.specs.declared.system.NodeName.TheVariants.{Act, Merge, Op, Switch}
use Rattle.net_board.proofs.ListPlaces.{get_set_other}
use Rattle.net_board.proofs.NodeLaws.{Distinct}
use Rattle.op_board.specs.OperationNets.{OperationNet, needed, operation_node}
use Rattle.op_board.proofs.OperationNumbers.{one_operation_number}
use Rattle.operation_tables.specs.Waits.{failing, node_total, one_if}
use Rattle.read_forks.specs.LoadChanges.{IsPut, Loaded}
use Rattle.read_forks.specs.OpenGroups.{AreClosed, closed_of}
use Rattle.read_forks.proofs.LoadFirings.{needed_distinct}
use Rattle.read_forks.proofs.SameLinks.{get_set_here}

-- ---- any list

pub same_failing : (p q : ℕ → Bool) (xs : List ℕ) → ((a : ℕ) → Member xs a → p a ≡ q a) → failing p xs ≡ failing q xs
same_failing p q [] same = refl
same_failing p q (a ∷ xs) same = ap (λ b. one_if (not b) + failing p xs) (same a (inl refl)) ∙ ap (λ (n : ℕ). one_if (not (q a)) + n) (same_failing p q xs (λ c among. same c (inr among)))

pub all_failing : (p : ℕ → Bool) (xs : List ℕ) → ((a : ℕ) → Member xs a → p a ≡ false) → failing p xs ≡ length xs
all_failing p [] none = refl
all_failing p (a ∷ xs) none = ap (λ b. one_if (not b) + failing p xs) (none a (inl refl)) ∙ one_more (all_failing p xs (λ c among. none c (inr among)))
  where
    one_more : failing p xs ≡ length xs → 1 + failing p xs ≡ suc (length xs)
    one_more e = omega (arith, e)

module _ (line : ℕ) (shut wide : ℕ → Bool) (fails : shut line ≡ false) (passes : wide line ≡ true) (others : (a : ℕ) → (a ≡ line → ⊥) → wide a ≡ shut a) where
  pub one_fewer : (xs : List ℕ) → Distinct xs → Member xs line → failing shut xs ≡ suc (failing wide xs)
  one_fewer [] apart among = absurd among
  one_fewer (a ∷ xs) apart among = by (λ later. one_fewer xs apart.1 later) (cases_eq a line)
    where
      rest : (a ≡ line → ⊥) → Member (a ∷ xs) line → Member xs line
      rest differ (inl e) = absurd (differ e)
      rest differ (inr later) = later

      by : (Member xs line → failing shut xs ≡ suc (failing wide xs)) → (a ≡ line) ⊎ (a ≡ line → ⊥) → failing shut (a ∷ xs) ≡ suc (failing wide (a ∷ xs))
      by more (inl e) =
          let s : shut a ≡ false = ap shut e ∙ fails in
          let w : wide a ≡ true = ap wide e ∙ passes in
          let same : failing shut xs ≡ failing wide xs = same_failing shut wide xs (λ c later. sym (others c (λ f. apart.0 (subst (λ (d : ℕ). Member xs d) (f ∙ sym e) later)))) in
          ap (λ b. one_if (not b) + failing shut xs) s ∙ (let f : 1 + failing shut xs ≡ suc (0 + failing wide xs) = omega (arith, same) in f) ∙ sym (ap (λ b. suc (one_if (not b) + failing wide xs)) w)
      by more (inr differ) =
          let so = more (rest differ among) in
          let here : one_if (not (wide a)) ≡ one_if (not (shut a)) = ap (λ b. one_if (not b)) (others a differ) in
          omega (arith, so, here)

-- ---- one line of a load

module _ (x : OperationNet) (line piece number : ℕ) (old new : Loaded) where
  of_others : {b : Bool} → IsPut line piece number b old new → (a : ℕ) → (a ≡ line → ⊥) → new a piece number ≡ old a piece number
  of_others put a differ = put.others a piece number (λ same. differ same.0)

  -- the load waits for one line less
  pub opened_one : IsPut line piece number true old new → old line piece number ≡ false → Member (needed x piece number) line → closed_of x old (Op piece number) ≡ suc (closed_of x new (Op piece number))
  opened_one put was among = one_fewer line (λ a. old a piece number) (λ a. new a piece number) was put.here (of_others put) (needed x piece number) (needed_distinct x piece number) among

  -- other loads wait for as many lines as before
  pub closed_others : {b : Bool} → IsPut line piece number b old new → (name : NodeName) → (name ≡ Op piece number → ⊥) → closed_of x new name ≡ closed_of x old name
  closed_others put (Op p n) differ =
      same_failing (λ a. new a p n) (λ a. old a p n) (needed x p n) (λ a among. put.others a p n (λ same. differ (let e : p ≡ piece = same.1 in let f : n ≡ number = same.2 in cc)))
  closed_others put (Switch p l) differ = refl
  closed_others put (Merge p l) differ = refl
  closed_others put (Act p) differ = refl

  -- the table of all loads, where one line more is open for this one
  pub opened_closed : (closed : List ℕ) (k : ℕ) → k < node_total x → operation_node x k ≡ Op piece number → IsPut line piece number true old new → old line piece number ≡ false → Member (needed x piece number) line → AreClosed x old closed → AreClosed x new (slice_set closed k (slice_index closed k - 1))
  opened_closed closed k low name put was among are j below loads = by (cases_eq k j)
    where
      by : (k ≡ j) ⊎ (k ≡ j → ⊥) → slice_get (slice_set closed k (slice_index closed k - 1)) j ≡ Some (closed_of x new (operation_node x j))
      by (inl e) =
          let here : slice_get closed k ≡ Some (closed_of x old (operation_node x k)) = ap (slice_get closed) e ∙ are j below loads ∙ sym (ap (λ (n : ℕ). Some (closed_of x old (operation_node x n))) e) in
          let count : slice_index closed k ≡ closed_of x old (operation_node x k) = index_at closed k (closed_of x old (operation_node x k)) here in
          let more : closed_of x old (operation_node x k) ≡ suc (closed_of x new (operation_node x k)) = ap (closed_of x old) name ∙ opened_one put was among ∙ sym (ap (λ (n : NodeName). suc (closed_of x new n)) name) in
          let less : slice_index closed k - 1 ≡ closed_of x new (operation_node x k) = omega (arith, count, more) in
          sym (ap (slice_get (slice_set closed k (slice_index closed k - 1))) e)
          ∙ get_set_here closed k (closed_of x old (operation_node x k)) (slice_index closed k - 1) here
          ∙ ap (λ (n : ℕ). Some n) less
          ∙ ap (λ (n : ℕ). Some (closed_of x new (operation_node x n))) e
        where
          index_at : (xs : List ℕ) (n a : ℕ) → slice_get xs n ≡ Some a → slice_index xs n ≡ a
          index_at [] n a at = absurd cc
          index_at (y ∷ xs) zero a at = cc
          index_at (y ∷ xs) (suc n) a at = index_at xs n a at
      by (inr differ) =
          get_set_other closed k j (slice_index closed k - 1) differ
          ∙ are j below loads
          ∙ ap (λ (n : ℕ). Some n) (sym (closed_others put (operation_node x j) (λ same. differ (one_operation_number x k j low below (name ∙ sym same)))))

-- all lines are waited for where none is open
pub all_closed : (x : OperationNet) (opened : Loaded) (piece number : ℕ) → ((line : ℕ) → opened line piece number ≡ false) → closed_of x opened (Op piece number) ≡ length (needed x piece number)
all_closed x opened piece number none = all_failing (λ line. opened line piece number) (needed x piece number) (λ line among. none line)
