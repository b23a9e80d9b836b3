-- What comes of an executable and of its statement in the simplified form, over memories in step.
use Rattle.std.proofs.Common.{◌≡◌, ◌≢◌, ℕ, zero, suc, ◌-◌, ◌<◌, ℤ, pos, ◌+ℤ◌, Bool, true, false, List, [], ◌∷◌, ◌++◌, length, map, Result, Ok, Err, refl, sym, ap, subst, ◌∙◌, ⊎_elim, inl, inr, arith}
use Rattle.std.specs.Prelude.{slice_index, slice_set, unwrap_or, nat_lt, if◌then◌else◌}
use Rattle.std.specs.Ordering.{int_eq}
use Rattle.std.proofs.lemmas.Bool.{cases_eq}
use Rattle.std.proofs.lemmas.List.{get_or-set_same, get_or-set_other, length-map, length-set}
use Rattle.op_table.specs.declared.Trap.{Trap}
use Rattle.op_table.specs.declared.Trap.TheVariants.{Step as NoStep}
use Rattle.op_table.specs.Operators.{which_of_three, picked}
use Rattle.op_table.specs.Trips.{at_least_zero, trip_count}
use Rattle.op_table.specs.Words.{is_true, wrapped}
use Rattle.list_laws.specs.Member.{Member}
use Rattle.f77_tree.specs.declared.programs.Program.{Program}
use Rattle.f77_tree.specs.Execution.{Memory, Outcome, Goes, Stops, assigned, printed, branched, by_sign, by_number, after_test, started, do_begun, do_incremented}
use Rattle.f77_tree.specs.Loops.{do_start}
use Rattle.f77_tree.specs.Value.{word_at}
use Rattle.f77_tree.proofs.Keeping.{get-set_other, get-set_same}
use Rattle.alias_classes.specs.Classes.{ClassTable}
use Rattle.const_prop.specs.Table.{Knowns}
use Rattle.flat_programs.specs.Marks.{loop_count}
use Rattle.simplified_laws.specs.InStep.{entry, new_number, AreMemoriesInStep}
use Rattle.simplified_laws.proofs.FlatItems.{all as form}
use Rattle.simplified_laws.proofs.EntriesLed.{leads-at, Leads}
use Rattle.simplified_laws.proofs.StepsMet.{Meets}

-- ---- one place set in each of two lists

counts-set : (xs ys : List ℕ) (n m i j v : ℕ) → n < length xs → i < length ys → (m ≡ n → j ≡ i) → (m ≢ n → j ≢ i) → slice_index ys j ≡ slice_index xs m → slice_index (slice_set ys i v) j ≡ slice_index (slice_set xs n v) m
counts-set xs ys n m i j v within also same other were =
    ⊎_elim
    (λ (is : m ≡ n).
    ap (slice_index (slice_set ys i v)) (same is) ∙ get_or-set_same ys i v 0 also
    ∙ sym (ap (slice_index (slice_set xs n v)) is ∙ get_or-set_same xs n v 0 within))
    (λ (differ : m ≢ n). get_or-set_other ys i j v 0 (other differ) ∙ were ∙ sym (get_or-set_other xs n m v 0 differ))
    (cases_eq m n)

words-set : (xs ys : List ℤ) (n m i j : ℕ) (v : ℤ) → n < length xs → i < length ys → (m ≡ n → j ≡ i) → (m ≢ n → j ≢ i) → word_at ys j ≡ word_at xs m → word_at (slice_set ys i v) j ≡ word_at (slice_set xs n v) m
words-set xs ys n m i j v within also same other were =
    ⊎_elim
    (λ (is : m ≡ n).
    ap (word_at (slice_set ys i v)) (same is) ∙ ap (λ o. unwrap_or o (pos 0)) (get-set_same ys i v also)
    ∙ sym (ap (word_at (slice_set xs n v)) is ∙ ap (λ o. unwrap_or o (pos 0)) (get-set_same xs n v within)))
    (λ (differ : m ≢ n).
    ap (λ o. unwrap_or o (pos 0)) (get-set_other ys i j v (λ h. other differ (sym h))) ∙ were
    ∙ sym (ap (λ o. unwrap_or o (pos 0)) (get-set_other xs n m v (λ h. differ (sym h)))))
    (cases_eq m n)

module _ (p : Program) (c : ClassTable) (t : Knowns) (checked : Bool) (is_item : ℕ → Bool) (input : List ℤ) where
  abbrev LeadsTo : ℕ → ℕ → Type 0
  LeadsTo from next = Leads p c t checked is_item input from (entry p c t checked is_item next)

  abbrev MeetsOf : Outcome → Outcome → Type 0
  MeetsOf = Meets p c t checked is_item input

  module _ (m new : Memory) (same : AreMemoriesInStep p c t checked is_item m new) where
    -- ---- assignment, PRINT and branches

    pub assigned-meets : (next new_next taken new_taken word : ℕ) → new_taken ≡ taken → LeadsTo new_next next → (at : Result ℕ Trap) (v : Result ℤ Trap) → MeetsOf (assigned m next taken at v) (assigned new new_next new_taken at v)
    assigned-meets next new_next taken new_taken word takes leads (Err trap) v = refl
    assigned-meets next new_next taken new_taken word takes leads (Ok w) (Err trap) = refl
    assigned-meets next new_next taken new_taken word takes leads (Ok w) (Ok z) = record {
      text_is = refl;
      memory = record {
        store = ap (λ (s : List ℤ). slice_set s w z) same.store;
        taken = takes;
        count_room = same.count_room;
        step_room = same.step_room;
        counts = same.counts;
        steps = same.steps;
      };
      leads = leads;
    }

    pub printed-meets : (next new_next : ℕ) → LeadsTo new_next next → (line : Result (List ℕ) Trap) → MeetsOf (printed m next line) (printed new new_next line)
    printed-meets next new_next leads (Err trap) = refl
    printed-meets next new_next leads (Ok line) = record { text_is = refl; memory = same; leads = leads }

    pub branched-meets : (next_at new_at : ℤ → ℕ) → ((z : ℤ) → LeadsTo (new_at z) (next_at z)) → (v : Result ℤ Trap) → MeetsOf (branched m next_at v) (branched new new_at v)
    branched-meets next_at new_at leads (Err trap) = refl
    branched-meets next_at new_at leads (Ok z) = record { text_is = refl; memory = same; leads = leads z }

    -- ---- DO

    module _ (n : ℕ) (few : n < p.loops) (item : is_item (do_start p.execs n) ≡ true) (room : length m.counts ≡ p.loops) (step_room : length m.steps ≡ p.loops)
        (within : new_number p c t checked is_item n < loop_count (form p c t checked is_item))
        (differ : (k : ℕ) → k < p.loops → is_item (do_start p.execs k) ≡ true → k ≢ n → new_number p c t checked is_item k ≢ new_number p c t checked is_item n) where
      abbrev number : ℕ
      number = new_number p c t checked is_item n

      new-counts : (v k : ℕ) → k < p.loops → is_item (do_start p.execs k) ≡ true → slice_index (slice_set new.counts number v) (new_number p c t checked is_item k) ≡ slice_index (slice_set m.counts n v) k
      new-counts v k less kept =
          let size = same.count_room in
          counts-set m.counts new.counts n k number (new_number p c t checked is_item k) v (omega (arith, few, room)) (omega (arith, within, size)) (λ is. ap (new_number p c t checked is_item) is) (differ k less kept) (same.counts k less kept)

      new-steps : (v : ℤ) (k : ℕ) → k < p.loops → is_item (do_start p.execs k) ≡ true → word_at (slice_set new.steps number v) (new_number p c t checked is_item k) ≡ word_at (slice_set m.steps n v) k
      new-steps v k less kept =
          let size = same.step_room in
          words-set m.steps new.steps n k number (new_number p c t checked is_item k) v (omega (arith, few, step_room)) (omega (arith, within, size)) (λ is. ap (new_number p c t checked is_item) is) (differ k less kept) (same.steps k less kept)

      tested : (count body exit new_body new_exit : ℕ) (a b : Memory) → AreMemoriesInStep p c t checked is_item a b → LeadsTo new_body body → LeadsTo new_exit exit → (more : Bool) → MeetsOf (Goes (if more then body else exit) a []) (Goes (if more then new_body else new_exit) b [])
      tested count body exit new_body new_exit a b in_step to_body to_exit true = record { text_is = refl; memory = in_step; leads = to_body }
      tested count body exit new_body new_exit a b in_step to_body to_exit false = record { text_is = refl; memory = in_step; leads = to_exit }

      started-meets : (word body exit new_body new_exit : ℕ) (first last step : ℤ) → LeadsTo new_body body → LeadsTo new_exit exit → MeetsOf (started m n word body exit first last step) (started new number word new_body new_exit first last step)
      started-meets word body exit new_body new_exit first last step to_body to_exit =
          let count = trip_count first last step in
          tested count body exit new_body new_exit
          (record m { store = slice_set m.store word first; counts = slice_set m.counts n count; steps = slice_set m.steps n step })
          (record new { store = slice_set new.store word first; counts = slice_set new.counts number count; steps = slice_set new.steps number step })
          (record {
            store = ap (λ (s : List ℤ). slice_set s word first) same.store;
            taken = same.taken;
            count_room = length-set new.counts number count ∙ same.count_room;
            step_room = length-set new.steps number step ∙ same.step_room;
            counts = new-counts count;
            steps = new-steps step;
          })
          to_body to_exit (nat_lt 0 count)

      begun-by : (b : Bool) (o new_o : Outcome) → MeetsOf o new_o → MeetsOf (if b then Stops NoStep else o) (if b then Stops NoStep else new_o)
      begun-by true o new_o meets = refl
      begun-by false o new_o meets = meets

      pub begun-meets : (word body exit new_body new_exit : ℕ) → LeadsTo new_body body → LeadsTo new_exit exit → (first last step : Result ℤ Trap) → MeetsOf (do_begun m n word body exit first last step) (do_begun new number word new_body new_exit first last step)
      begun-meets word body exit new_body new_exit to_body to_exit (Err trap) last step = refl
      begun-meets word body exit new_body new_exit to_body to_exit (Ok a) (Err trap) step = refl
      begun-meets word body exit new_body new_exit to_body to_exit (Ok a) (Ok b) (Err trap) = refl
      begun-meets word body exit new_body new_exit to_body to_exit (Ok a) (Ok b) (Ok z) =
          begun-by (int_eq z (pos 0)) (started m n word body exit a b z) (started new number word new_body new_exit a b z) (started-meets word body exit new_body new_exit a b z to_body to_exit)

      incremented-by : (word body exit new_body new_exit count : ℕ) (z : ℤ) → LeadsTo new_body body → LeadsTo new_exit exit
          → MeetsOf (after_test (record m { store = slice_set m.store word z; counts = slice_set m.counts n count }) count body exit) (after_test (record new { store = slice_set new.store word z; counts = slice_set new.counts number count }) count new_body new_exit)
      incremented-by word body exit new_body new_exit count z to_body to_exit =
          tested count body exit new_body new_exit
          (record m { store = slice_set m.store word z; counts = slice_set m.counts n count })
          (record new { store = slice_set new.store word z; counts = slice_set new.counts number count })
          (record {
            store = ap (λ (s : List ℤ). slice_set s word z) same.store;
            taken = same.taken;
            count_room = length-set new.counts number count ∙ same.count_room;
            step_room = same.step_room;
            counts = new-counts count;
            steps = same.steps;
          })
          to_body to_exit (nat_lt 0 count)

      pub incremented-meets : (word body exit new_body new_exit : ℕ) → LeadsTo new_body body → LeadsTo new_exit exit → MeetsOf (do_incremented m n word body exit) (do_incremented new number word new_body new_exit)
      incremented-meets word body exit new_body new_exit to_body to_exit =
          let count : slice_index new.counts number - 1 ≡ slice_index m.counts n - 1 = ap (λ k. k - 1) (same.counts n few item) in
          let z : wrapped (word_at new.store word +ℤ word_at new.steps number) ≡ wrapped (word_at m.store word +ℤ word_at m.steps n) =
          ap (λ (s : List ℤ). wrapped (word_at s word +ℤ word_at new.steps number)) same.store ∙ ap (λ v. wrapped (word_at m.store word +ℤ v)) (same.steps n few item) in
          let v = wrapped (word_at new.store word +ℤ word_at new.steps number) in
          let k = slice_index new.counts number - 1 in
          let met : MeetsOf (after_test (record m { store = slice_set m.store word v; counts = slice_set m.counts n k }) k body exit) (do_incremented new number word new_body new_exit) =
          incremented-by word body exit new_body new_exit k v to_body to_exit in
          subst (λ (a : ℕ). MeetsOf (after_test (record m { store = slice_set m.store word (wrapped (word_at m.store word +ℤ word_at m.steps n)); counts = slice_set m.counts n a }) a body exit) (do_incremented new number word new_body new_exit)) count
          (subst (λ (b : ℤ). MeetsOf (after_test (record m { store = slice_set m.store word b; counts = slice_set m.counts n k }) k body exit) (do_incremented new number word new_body new_exit)) z met)

  -- ---- one of several executables

  if-leads : (b : Bool) (yes_next no_next new_yes new_no : ℕ) → LeadsTo new_yes yes_next → LeadsTo new_no no_next → LeadsTo (if b then new_yes else new_no) (if b then yes_next else no_next)
  if-leads true yes_next no_next new_yes new_no first second = first
  if-leads false yes_next no_next new_yes new_no first second = second

  pub test-leads : (yes_next no_next new_yes new_no : ℕ) → LeadsTo new_yes yes_next → LeadsTo new_no no_next → (z : ℤ) → LeadsTo (if is_true z then new_yes else new_no) (if is_true z then yes_next else no_next)
  test-leads yes_next no_next new_yes new_no first second z = if-leads (is_true z) yes_next no_next new_yes new_no first second

  -- the first executable is where it was
  pub first-leads : LeadsTo 0 0
  first-leads = leads-at p c t checked is_item input 0 (entry p c t checked is_item 0) refl

  one-leads : (f : ℕ → ℕ) (xs : List ℕ) (other new_other : ℕ) → ((s : ℕ) → Member xs s → LeadsTo (f s) s) → LeadsTo new_other other → (i : ℕ) → LeadsTo (slice_index (map f xs ++ new_other ∷ []) i) (slice_index (xs ++ other ∷ []) i)
  one-leads f [] other new_other each last zero = last
  one-leads f [] other new_other each last (suc i) = first-leads
  one-leads f (x ∷ xs) other new_other each last zero = each x (inl refl)
  one-leads f (x ∷ xs) other new_other each last (suc i) = one-leads f xs other new_other (λ s m. each s (inr m)) last i

  pub pick-leads : (f : ℕ → ℕ) (targets : List ℕ) (other new_other : ℕ) → ((s : ℕ) → Member targets s → LeadsTo (f s) s) → LeadsTo new_other other → (z : ℤ) → LeadsTo (by_number (map f targets) new_other (pos (length (map f targets))) z) (by_number targets other (pos (length targets)) z)
  pick-leads f targets other new_other each last z =
      subst (λ (k : ℕ). LeadsTo (by_number (map f targets) new_other (pos k) z) (by_number targets other (pos (length targets)) z)) (sym (length-map targets f))
      (one-leads f targets other new_other each last (at_least_zero (picked z (pos (length targets)))))

  three-leads : (a b d new_a new_b new_d : ℕ) → LeadsTo new_a a → LeadsTo new_b b → LeadsTo new_d d → (i : ℕ) → LeadsTo (slice_index (new_a ∷ new_b ∷ new_d ∷ []) i) (slice_index (a ∷ b ∷ d ∷ []) i)
  three-leads a b d new_a new_b new_d first second third zero = first
  three-leads a b d new_a new_b new_d first second third (suc zero) = second
  three-leads a b d new_a new_b new_d first second third (suc (suc zero)) = third
  three-leads a b d new_a new_b new_d first second third (suc (suc (suc i))) = first-leads

  pub sign-leads : (a b d new_a new_b new_d : ℕ) → LeadsTo new_a a → LeadsTo new_b b → LeadsTo new_d d → (z : ℤ) → LeadsTo (by_sign new_a new_b new_d z) (by_sign a b d z)
  sign-leads a b d new_a new_b new_d first second third z = three-leads a b d new_a new_b new_d first second third (at_least_zero (which_of_three z))
