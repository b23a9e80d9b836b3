-- What is kept of loads after the firing of one, and their marks.
use Rattle.std.proofs.Common.{◌≡◌, ◌<◌, ⊎_elim, inl, inr, ℕ, ℤ, zero, suc, ◌+◌, ◌&&◌, Bool, true, false, not, List, [], ◌∷◌, length, set, Option, Some, is_some, slice_get, slice_set, refl, sym, ap, ◌∙◌, subst, arith}
use Rattle.std.specs.List.{list_all}
use Rattle.std.proofs.lemmas.Bool.{cases_eq}
use Rattle.list_laws.specs.Member.{Member}
use Rattle.firing.specs.Moves.{CanFire}
use Rattle.firing.specs.ReadySet.{has}
use Rattle.firing.specs.declared.system.NodeName.TheVariants.{Op}
use Rattle.net_board.proofs.ListPlaces.{all_pass, get_set_other, length_slice_set}
use Rattle.op_board.specs.OperationNets.{OperationNet, needed, operation_at, operation_node}
use Rattle.op_board.specs.OperationTokens.{OperationTokens, fired_as, is_given, taken_values, value_at, value_of}
use Rattle.op_board.proofs.OperationNumbers.{one_operation_number}
use Rattle.operation_tables.specs.Waits.{failing, node_total, one_if}
use Rattle.fork_board.specs.ForkTokens.{ForkTokens, fork_fired_as, fork_moves, fork_ready_as, is_load_node, is_open, standing}
use Rattle.fork_board.specs.LoadGroups.{is_load}
use Rattle.fork_board.specs.SoundForks.{ForksCanCome}
use Rattle.fork_board.proofs.ForkLaws.{forks_lawful}
use Rattle.fork_board.proofs.ForkNodes.{IsLoadDone, IsLoadNamed, load_done, load_fired, load_named}
use Rattle.fork_board.proofs.ForksApart.{IsReadyLoad, ready_load}
use Rattle.read_forks.specs.KeptLoads.{AreClosedFor}
use Rattle.read_forks.specs.LoadChanges.{Loaded}
use Rattle.read_forks.specs.OpenGroups.{AreClosed, AreOpenNear, closed_of, marking_by}
use Rattle.read_forks.specs.Retests.{takes}
use Rattle.read_forks.specs.WaitingLoads.{KeepsMarks, has_values, is_none_left, waits_for_nothing}
use Rattle.read_forks.proofs.OpenLoads.{open_is}
use Rattle.read_forks.proofs.SameLinks.{get_set_here}
use Rattle.read_forks.proofs.OtherMarks.{same_values}
use Rattle.read_forks.proofs.WaitTests.{same_waits}

-- ---- numbers of closed lines

all_failing : {A : Type 0} (passes : A → Bool) (xs : List A) → ((a : A) → Member xs a → passes a ≡ false) → failing passes xs ≡ length xs
all_failing passes [] none = refl
all_failing passes (a ∷ xs) none =
    let here : one_if (not (passes a)) ≡ 1 = ap (λ b. one_if (not b)) (none a (inl refl)) in
    let rest = all_failing passes xs (λ b among. none b (inr among)) in
    omega (arith, here, rest)

same_failing : {A : Type 0} (one other : A → Bool) (xs : List A) → ((a : A) → one a ≡ other a) → failing one xs ≡ failing other xs
same_failing one other [] same = refl
same_failing one other (a ∷ xs) same = ap (λ b. one_if (not b) + failing one xs) (same a) ∙ ap (λ n. one_if (not (other a)) + n) (same_failing one other xs same)

module _ (x : OperationNet) (k piece i : ℕ) (name : operation_node x k ≡ Op piece i) where
  -- the load waits for all of its lines, and others wait for as many as before
  pub closed_then : (old new : Loaded) (before after : List ℕ) (count : ℕ) → k < node_total x → AreClosedFor (needed x piece i) piece i old new → count ≡ length (needed x piece i) → after ≡ set before k count → AreClosed x old before → AreClosed x new after
  closed_then old new before after count below closed all is are j low loads = ⊎_elim
      (λ (same : j ≡ k). subst (λ (n : ℕ). slice_get after n ≡ Some (closed_of x new (operation_node x n))) (sym same) (here (subst (λ (n : ℕ). is_load_node x (operation_node x n) ≡ true) same loads)))
      (λ (differ : j ≡ k → ⊥). ap (λ (c : List ℕ). slice_get c j) is ∙ get_set_other before k j count (λ e. differ (sym e)) ∙ are j low loads ∙ ap (λ (n : ℕ). Some n) (sym (there differ)))
      (cases_eq j k)
    where
      here : is_load_node x (operation_node x k) ≡ true → slice_get after k ≡ Some (closed_of x new (operation_node x k))
      here own =
          ap (λ (c : List ℕ). slice_get c k) is
          ∙ get_set_here before k (closed_of x old (operation_node x k)) count (are k below own)
          ∙ ap (λ (n : ℕ). Some n) (all ∙ sym (all_failing (λ line. new line piece i) (needed x piece i) closed.here) ∙ ap (closed_of x new) (sym name))

      there : (j ≡ k → ⊥) → closed_of x new (operation_node x j) ≡ closed_of x old (operation_node x j)
      there differ =
          let l : IsLoadNamed x (operation_node x j) = load_named x (operation_node x j) loads in
          ap (closed_of x new) l.is
          ∙ same_failing (λ line. new line l.piece l.number) (λ line. old line l.piece l.number) (needed x l.piece l.number)
          (λ line. closed.others line l.piece l.number (λ same. differ (one_operation_number x j k low below (l.is ∙ (λ n. Op (same.0 n) (same.1 n)) ∙ sym name))))
          ∙ ap (closed_of x old) (sym l.is)

-- ---- the lines of a load that is ready are open for it

pub lines_open : (x : OperationNet) (m : OperationTokens) (opened : Loaded) (k piece i : ℕ) → AreOpenNear x m opened → operation_node x k ≡ Op piece i → is_load (operation_at x piece i).work ≡ true → (fork_moves x).ready (marking_by x m opened) k ≡ true
    → (line : ℕ) → Member (needed x piece i) line → opened line piece i ≡ true
lines_open x m opened k piece i near name loads ready line among =
    let can : IsReadyLoad x (marking_by x m opened) k piece i = ready_load x (marking_by x m opened) k piece i loads (ap (fork_ready_as x (marking_by x m opened) k) (sym name) ∙ ready) in
    sym (open_is x m opened near line piece i) ∙ all_pass (λ l. is_open x l piece i (standing (marking_by x m opened) l)) (needed x piece i) line can.lines among

-- ---- its own value

value_put_there : (values : List (Option ℤ)) (k : ℕ) (v : Option ℤ) → k < length values → value_of (slice_get (slice_set values k v) k) ≡ v
value_put_there [] k v inside = absurd (omega (arith, inside))
value_put_there (u ∷ values) zero v inside = refl
value_put_there (u ∷ values) (suc k) v inside = value_put_there values k v (omega (arith, inside))

not_both : (b c : Bool) → c ≡ true → (b && not c) ≡ false
not_both true true is = refl
not_both false true is = refl
not_both true false is = absurd cc
not_both false false is = absurd cc

none_both : (b c : Bool) → c ≡ false → (b && c) ≡ false
none_both true c is = is
none_both false c is = refl

module _ (x : OperationNet) (t : ForkTokens) (comes : ForksCanCome x t) (k : ℕ) (can : CanFire (fork_moves x) t k) (piece i : ℕ) (name : operation_node x k ≡ Op piece i) (loads : is_load (operation_at x piece i).work ≡ true) where
  done : IsLoadDone x t.operations k piece i
  done = load_done x t.operations k piece i loads

  after : ForksCanCome x ((fork_moves x).fired t k)
  after = (forks_lawful x).stays_sound t k comes can

  -- the values after it
  pub values_then : ((fork_moves x).fired t k).operations.values ≡ (fired_as x t.operations k (Op piece i)).values
  values_then = ap (λ (f : ForkTokens). f.operations.values) (ap (fork_fired_as x t k) name ∙ load_fired x t k piece i loads)

  pub value_room : length (fired_as x t.operations k (Op piece i)).values ≡ node_total x
  value_room = sym (ap length values_then) ∙ after.is_marking.values

  given_then : ((fork_moves x).fired t k).operations.values ≡ slice_set (taken_values x t.operations piece (operation_at x piece i)) k (Some done.value)
  given_then = values_then ∙ ap (λ (o : OperationTokens). o.values) done.is

  value_then : is_some (value_at ((fork_moves x).fired t k).operations k) ≡ true
  value_then =
      let long = sym (ap length given_then) ∙ after.is_marking.values in
      let same = length_slice_set (taken_values x t.operations piece (operation_at x piece i)) k (Some done.value) in
      let low = can.node in
      ap (λ (values : List (Option ℤ)). is_some (value_of (slice_get values k))) given_then
      ∙ ap (λ (v : Option ℤ). is_some v) (value_put_there (taken_values x t.operations piece (operation_at x piece i)) k (Some done.value) (omega (arith, long, same, low)))

  -- it waits for its value to be taken
  waits_then : (n : OperationTokens) → n ≡ ((fork_moves x).fired t k).operations → (closed : List ℕ) → waits_for_nothing x n closed k ≡ false
  waits_then n is closed =
      ap (λ (o : OperationTokens). waits_for_nothing x o closed k) is
      ∙ none_both (is_none_left (slice_get closed k)) (has_values x ((fork_moves x).fired t k).operations k (operation_node x k))
      (ap (has_values x ((fork_moves x).fired t k).operations k) name
      ∙ not_both (list_all (is_given x ((fork_moves x).fired t k).operations piece) (operation_at x piece i).operands) (is_some (value_at ((fork_moves x).fired t k).operations k)) value_then)

  -- ---- marks

  module _ (n : OperationTokens) (is : n ≡ ((fork_moves x).fired t k).operations) where
    -- all of its lines are closed for it, its mark is taken away, and the loads are tested whose values it takes, and then the one that
    -- takes its value
    pub marks_then : (old new : List ℕ) (count : ℕ) (before fired given taken : List Bool) → new ≡ set old k count → length fired ≡ length before
        → ((j : ℕ) → j < node_total x → is_load_node x (operation_node x j) ≡ true → (k ≡ j → ⊥) → has fired j ≡ has before j) → has fired k ≡ false
        → KeepsMarks x n new new fired given
        → ((j : ℕ) → j < node_total x → j < length fired → is_load_node x (operation_node x j) ≡ true → takes x (operation_node x k) j ≡ true → has given j ≡ waits_for_nothing x n new j)
        → KeepsMarks x n new new given taken
        → ((j : ℕ) → j < node_total x → j < length given → is_load_node x (operation_node x j) ≡ true → takes x (operation_node x j) k ≡ true → has taken j ≡ waits_for_nothing x n new j)
        → (j : ℕ) → j < node_total x → j < length before → is_load_node x (operation_node x j) ≡ true → has before j ≡ waits_for_nothing x t.operations old j → has taken j ≡ waits_for_nothing x n new j
    marks_then old new count before fired given taken made room same own givers gave takers took j below inside a_load right = by (takes x (operation_node x j) k) refl (takes x (operation_node x k) j) refl
      where
        in_fired : j < length fired
        in_fired = subst (λ (c : ℕ). j < c) (sym room) inside

        in_given : j < length given
        in_given = subst (λ (c : ℕ). j < c) (sym givers.room) in_fired

        far : takes x (operation_node x j) k ≡ false → takes x (operation_node x k) j ≡ false → (k ≡ j → ⊥) → has fired j ≡ waits_for_nothing x n new j
        far takes_not gives_not differ =
            same j below a_load differ ∙ right
            ∙ sym (same_values x t comes k can n is old j below a_load differ takes_not gives_not)
            ∙ sym (same_waits x n old new k count j made (λ e. differ (sym e)))

        by : (b : Bool) → takes x (operation_node x j) k ≡ b → (c : Bool) → takes x (operation_node x k) j ≡ c → has taken j ≡ waits_for_nothing x n new j
        by true took_it c is_c = took j below in_given a_load took_it
        by false not true gave_it = takers.marks j below in_given a_load (gave j below in_fired a_load gave_it)
        by false takes_not false gives_not =
            takers.marks j below in_given a_load
            (givers.marks j below in_fired a_load
            (⊎_elim
            (λ (e : k ≡ j). subst (λ (c : ℕ). has fired c ≡ waits_for_nothing x n new c) e (own ∙ sym (waits_then n is new)))
            (λ differ. far takes_not gives_not differ)
            (cases_eq k j)))
