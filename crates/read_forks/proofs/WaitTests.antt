-- Marks of loads that are tested, and the loads that wait for nothing.
use Rattle.std.proofs.Common.{◌≡◌, ◌<◌, ⊎_elim, ℕ, zero, suc, ◌&&◌, Bool, false, List, [], ◌∷◌, length, set, Option, slice_get, slice_index, refl, sym, ap, ◌∙◌, subst, length-set, arith}
use Rattle.std.proofs.lemmas.Bool.{cases_eq, ne_eqb}
use Rattle.std.proofs.lemmas.List.{get_or-set_other, get_or-set_same}
use Rattle.firing.specs.ReadySet.{has}
use Rattle.net_board.proofs.ListPlaces.{get_set_other}
use Rattle.op_board.specs.OperationNets.{OperationNet, operation_node}
use Rattle.op_board.specs.OperationTokens.{OperationTokens}
use Rattle.read_forks.specs.WaitingLoads.{KeepsMarks, has_values, is_none_left, waits_for_nothing}

-- ---- numbers of closed lines

some_closed : (closed : List ℕ) (k : ℕ) → 0 < slice_index closed k → is_none_left (slice_get closed k) ≡ false
some_closed [] k some = refl
some_closed (n ∷ closed) zero some = ne_eqb n 0 (λ e. absurd (omega (arith, some, e)))
some_closed (n ∷ closed) (suc k) some = some_closed closed k some

module _ (x : OperationNet) (m : OperationTokens) where
  -- ---- what a load waits for, as code asks for it

  pub waits_closed : (closed : List ℕ) (k : ℕ) → 0 < slice_index closed k → waits_for_nothing x m closed k ≡ false
  waits_closed closed k some = ap (λ b. b && has_values x m k (operation_node x k)) (some_closed closed k some)

  pub same_waits : (old new : List ℕ) (k left j : ℕ) → new ≡ set old k left → (j ≡ k → ⊥) → waits_for_nothing x m new j ≡ waits_for_nothing x m old j
  same_waits old new k left j is differ =
      ap (λ (o : Option ℕ). is_none_left o && has_values x m j (operation_node x j)) (ap (λ (c : List ℕ). slice_get c j) is ∙ get_set_other old k j left (λ e. differ (sym e)))

  -- ---- marks

  pub marks_kept : (closed : List ℕ) (flags : List Bool) → KeepsMarks x m closed closed flags flags
  marks_kept closed flags = record { room = refl; marks = λ k low inside loads is. is }

  pub kept_twice : (a b c : List ℕ) (f g h : List Bool) → KeepsMarks x m a b f g → KeepsMarks x m b c g h → KeepsMarks x m a c f h
  kept_twice a b c f g h one other = record {
    room = other.room ∙ one.room;
    marks = λ k low inside loads is. other.marks k low (subst (λ (n : ℕ). k < n) (sym one.room) inside) loads (one.marks k low inside loads is);
  }

  -- a load that is tested is marked rightly
  pub right_here : (closed : List ℕ) (flags after : List Bool) (k : ℕ) → after ≡ set flags k (waits_for_nothing x m closed k) → k < length flags → has after k ≡ waits_for_nothing x m closed k
  right_here closed flags after k is inside = ap (λ (all : List Bool). has all k) is ∙ get_or-set_same flags k (waits_for_nothing x m closed k) false inside

  -- and the others are marked as they were
  pub mark_there : (flags after : List Bool) (k j : ℕ) (mark : Bool) → after ≡ set flags k mark → (j ≡ k → ⊥) → has after j ≡ has flags j
  mark_there flags after k j mark is differ = ap (λ (all : List Bool). has all j) is ∙ get_or-set_other flags k j mark false differ

  -- one that has become right stays so where others are tested
  pub stays_right : (closed : List ℕ) (flags after : List Bool) (k j : ℕ) → after ≡ set flags k (waits_for_nothing x m closed k) → j < length flags → has flags j ≡ waits_for_nothing x m closed j → has after j ≡ waits_for_nothing x m closed j
  stays_right closed flags after k j is inside right = ⊎_elim
      (λ (same : j ≡ k). subst (λ (n : ℕ). has after n ≡ waits_for_nothing x m closed n) (sym same) (right_here closed flags after k is (subst (λ (n : ℕ). n < length flags) same inside)))
      (λ differ. mark_there flags after k j (waits_for_nothing x m closed k) is differ ∙ right)
      (cases_eq j k)

  pub test_keeps : (closed : List ℕ) (flags after : List Bool) (k : ℕ) → after ≡ set flags k (waits_for_nothing x m closed k) → KeepsMarks x m closed closed flags after
  test_keeps closed flags after k is = record {
    room = ap length is ∙ length-set flags k (waits_for_nothing x m closed k);
    marks = λ j low inside loads right. stays_right closed flags after k j is inside right;
  }

  -- the number of closed lines of a load changes, and it is tested
  pub changed_tested : (old new : List ℕ) (flags after : List Bool) (k left : ℕ) → new ≡ set old k left → after ≡ set flags k (waits_for_nothing x m new k) → KeepsMarks x m old new flags after
  changed_tested old new flags after k left is marked = record {
    room = ap length marked ∙ length-set flags k (waits_for_nothing x m new k);
    marks = λ j low inside loads right. ⊎_elim
        (λ (same : j ≡ k). subst (λ (n : ℕ). has after n ≡ waits_for_nothing x m new n) (sym same) (right_here new flags after k marked (subst (λ (n : ℕ). n < length flags) same inside)))
        (λ differ. mark_there flags after k j (waits_for_nothing x m new k) marked differ ∙ right ∙ sym (same_waits old new k left j is differ))
        (cases_eq j k);
  }

  -- some of its lines are closed, before and after
  pub still_closed : (old new : List ℕ) (flags : List Bool) (k left : ℕ) → new ≡ set old k left → 0 < left → k < length old → 0 < slice_index old k → KeepsMarks x m old new flags flags
  still_closed old new flags k left is some inside were = record {
    room = refl;
    marks = λ j low within loads right. ⊎_elim
        (λ (same : j ≡ k).
        let now : slice_index new k ≡ left = ap (λ (c : List ℕ). slice_index c k) is ∙ get_or-set_same old k left 0 inside in
        subst (λ (n : ℕ). has flags n ≡ waits_for_nothing x m old n → has flags n ≡ waits_for_nothing x m new n) (sym same)
        (λ r. r ∙ waits_closed old k were ∙ sym (waits_closed new k (omega (arith, now, some)))) right)
        (λ differ. right ∙ sym (same_waits old new k left j is differ))
        (cases_eq j k);
  }
