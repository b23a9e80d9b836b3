-- Two memories that agree on what an executable may read make it do the same.
use Rattle.std.proofs.Common.{◌≡◌, ◌⊎◌, ℕ, ◌+◌, ◌-◌, ◌<◌, ℤ, pos, ◌+ℤ◌, Bool, true, false, if◌then◌else◌, List, length, ◌↔◌, None, Result, Ok, Err, slice_get, slice_index, slice_set, unwrap_or, nat_lt, inl, inr, refl, sym, ap, subst, ◌∙◌, get_or-set_same, get_or-set_other, arith}
use Rattle.std.specs.Ordering.{int_eq}
use Rattle.std.proofs.lemmas.Bool.{cases_eq}
use Rattle.op_table.specs.declared.Trap.{Trap}
use Rattle.op_table.specs.Words.{is_true, wrapped}
use Rattle.op_table.specs.Trips.{trip_count}
use Rattle.f77_tree.specs.declared.expressions.Access.{Access}
use Rattle.f77_tree.specs.declared.expressions.Expr.{Expr}
use Rattle.f77_tree.specs.declared.programs.ExecKind.{ExecKind}
use Rattle.f77_tree.specs.declared.programs.ExecKind.TheVariants.{Assign, Print, Pass, Test, Sign, Pick, DoStart, DoNext, End}
use Rattle.f77_tree.specs.declared.programs.NameInfo.{NameInfo}
use Rattle.f77_tree.specs.declared.programs.Program.{Program}
use Rattle.f77_tree.specs.CanRun.{CanExecute}
use Rattle.f77_tree.specs.Execution.{Memory, outcome, words_taken, assigned, printed, branched, do_begun, by_sign, by_number}
use Rattle.f77_tree.specs.Line.{line_of}
use Rattle.f77_tree.specs.Steps.{AgreeFor, AreAlike, Changes, ChangeAlike, HasRoomFor}
use Rattle.f77_tree.specs.Touched.{SetsCount, SetsStep}
use Rattle.f77_tree.specs.Value.{value, place, place_of, word_at, ArePlaced}
use Rattle.f77_tree.proofs.Agreement.{value-agrees, place-agrees, value_in-agrees, line-agrees}
use Rattle.f77_tree.proofs.Keeping.{get-set_same, get-set_other}
use Rattle.f77_tree.proofs.Places.{place-in}
use Rattle.f77_tree.proofs.TouchedWords.{word_of-below}

word-set_same : (store : List ℤ) (k : ℕ) (z : ℤ) → k < length store → word_at (slice_set store k z) k ≡ z
word-set_same store k z lt = ap (λ o. unwrap_or o (pos 0)) (get-set_same store k z lt)

word-set_other : (store : List ℤ) (k word : ℕ) (z : ℤ) → (k ≡ word → ⊥) → word_at (slice_set store k z) word ≡ word_at store word
word-set_other store k word z differ = ap (λ o. unwrap_or o (pos 0)) (get-set_other store k word z differ)

-- two lists in which one word is set: there they agree, and where they agreed before
words-alike : (a b : List ℤ) (k word : ℕ) (z : ℤ) → k < length a → k < length b → (k ≡ word) ⊎ (word_at a word ≡ word_at b word) → word_at (slice_set a k z) word ≡ word_at (slice_set b k z) word
words-alike a b k word z in_a in_b either = by (cases_eq k word) either
  where
    here : k ≡ word → word_at (slice_set a k z) word ≡ word_at (slice_set b k z) word
    here is = subst (λ w. word_at (slice_set a k z) w ≡ word_at (slice_set b k z) w) is (word-set_same a k z in_a ∙ sym (word-set_same b k z in_b))

    by : (k ≡ word) ⊎ (k ≡ word → ⊥) → (k ≡ word) ⊎ (word_at a word ≡ word_at b word) → word_at (slice_set a k z) word ≡ word_at (slice_set b k z) word
    by (inl is) other = here is
    by (inr differ) (inl is) = here is
    by (inr differ) (inr same) = word-set_other a k word z differ ∙ same ∙ sym (word-set_other b k word z differ)

-- the same of counts
counts-alike : (a b : List ℕ) (k j count : ℕ) → k < length a → k < length b → (k ≡ j) ⊎ (slice_index a j ≡ slice_index b j) → slice_index (slice_set a k count) j ≡ slice_index (slice_set b k count) j
counts-alike a b k j count in_a in_b either = by (cases_eq k j) either
  where
    here : k ≡ j → slice_index (slice_set a k count) j ≡ slice_index (slice_set b k count) j
    here is = subst (λ i. slice_index (slice_set a k count) i ≡ slice_index (slice_set b k count) i) is (get_or-set_same a k count 0 in_a ∙ sym (get_or-set_same b k count 0 in_b))

    by : (k ≡ j) ⊎ (k ≡ j → ⊥) → (k ≡ j) ⊎ (slice_index a j ≡ slice_index b j) → slice_index (slice_set a k count) j ≡ slice_index (slice_set b k count) j
    by (inl is) other = here is
    by (inr differ) (inl is) = here is
    by (inr differ) (inr same) = get_or-set_other a k j count 0 (λ is. differ (sym is)) ∙ same ∙ sym (get_or-set_other b k j count 0 (λ is. differ (sym is)))

module _ (names : List NameInfo) (input : List ℤ) (m n : Memory) where
  -- ---- the same results, from two memories

  -- where nothing is changed
  unchanged-alike : (kind : ExecKind) → ((word : ℕ) → Changes names input m kind word → ⊥) → ((k : ℕ) → SetsCount kind k → ⊥) → ((k : ℕ) → SetsStep kind k → ⊥) → ChangeAlike names input kind m n m n
  unchanged-alike kind no_word no_count no_step = record { store = same_word; counts = same_count; steps = same_step; taken = λ same. same }
    where
      same_word : (word : ℕ) → Changes names input m kind word ⊎ (word_at m.store word ≡ word_at n.store word) → word_at m.store word ≡ word_at n.store word
      same_word word (inl changes) = absurd (no_word word changes)
      same_word word (inr same) = same

      same_count : (k : ℕ) → SetsCount kind k ⊎ (slice_index m.counts k ≡ slice_index n.counts k) → slice_index m.counts k ≡ slice_index n.counts k
      same_count k (inl sets) = absurd (no_count k sets)
      same_count k (inr same) = same

      same_step : (k : ℕ) → SetsStep kind k ⊎ (word_at m.steps k ≡ word_at n.steps k) → word_at m.steps k ≡ word_at n.steps k
      same_step k (inl sets) = absurd (no_step k sets)
      same_step k (inr same) = same

  assigned-alike : (target : Access) (e : Expr) (next taken : ℕ) (at : Result ℕ Trap) (given : Result ℤ Trap) → place names m.store (slice_get input m.taken) target ≡ at → ((word : ℕ) → at ≡ Ok word → (word < length m.store) × (word < length n.store)) →
      AreAlike names input (Assign target e next) m n (assigned m next (m.taken + taken) at given) (assigned n next (n.taken + taken) at given)
  assigned-alike target e next taken (Err trap) given is inside = refl
  assigned-alike target e next taken (Ok k) (Err trap) is inside = refl
  assigned-alike target e next taken (Ok k) (Ok z) is inside = (
    refl,
    refl,
    record {
      store = λ word either. words-alike m.store n.store k word z (inside k refl).0 (inside k refl).1 (here word either);
      counts = λ j either. other_count j either;
      steps = λ j either. other_step j either;
      taken = λ same. ap (λ t. t + taken) same;
    },
  )
    where
      here : (word : ℕ) → (place names m.store (slice_get input m.taken) target ≡ Ok word) ⊎ (word_at m.store word ≡ word_at n.store word) → (k ≡ word) ⊎ (word_at m.store word ≡ word_at n.store word)
      here word (inl changes) =
          let both : Ok k ≡ Ok word = sym is ∙ changes in
          let same : k ≡ word = cc in
          inl same
      here word (inr same) = inr same

      other_count : (j : ℕ) → ⊥ ⊎ (slice_index m.counts j ≡ slice_index n.counts j) → slice_index m.counts j ≡ slice_index n.counts j
      other_count j (inl none) = absurd none
      other_count j (inr same) = same

      other_step : (j : ℕ) → ⊥ ⊎ (word_at m.steps j ≡ word_at n.steps j) → word_at m.steps j ≡ word_at n.steps j
      other_step j (inl none) = absurd none
      other_step j (inr same) = same

  printed-alike : (kind : ExecKind) (next : ℕ) (line : Result (List ℕ) Trap) → ChangeAlike names input kind m n m n → AreAlike names input kind m n (printed m next line) (printed n next line)
  printed-alike kind next (Err trap) alike = refl
  printed-alike kind next (Ok text) alike = (refl, refl, alike)

  branched-alike : (kind : ExecKind) (next_at : ℤ → ℕ) (given : Result ℤ Trap) → ChangeAlike names input kind m n m n → AreAlike names input kind m n (branched m next_at given) (branched n next_at given)
  branched-alike kind next_at (Err trap) alike = refl
  branched-alike kind next_at (Ok z) alike = (refl, refl, alike)

  -- the word, the count and the step of a DO, set in both
  module _ (loop_no var : ℕ) (here : place_of names var < length m.store) (there : place_of names var < length n.store) (count_here : loop_no < length m.counts) (count_there : loop_no < length n.counts) where
    begun-alike : (first' last' step' : Expr) (body exit : ℕ) (first last step : Result ℤ Trap) → loop_no < length m.steps → loop_no < length n.steps →
        AreAlike names input (DoStart loop_no var first' last' step' body exit) m n (do_begun m loop_no (place_of names var) body exit first last step) (do_begun n loop_no (place_of names var) body exit first last step)
    begun-alike first' last' step' body exit (Err trap) last step step_here step_there = refl
    begun-alike first' last' step' body exit (Ok a) (Err trap) step step_here step_there = refl
    begun-alike first' last' step' body exit (Ok a) (Ok b) (Err trap) step_here step_there = refl
    begun-alike first' last' step' body exit (Ok a) (Ok b) (Ok c) step_here step_there = by (int_eq c (pos 0)) refl
      where
        by : (is_zero : Bool) → int_eq c (pos 0) ≡ is_zero → AreAlike names input (DoStart loop_no var first' last' step' body exit) m n (do_begun m loop_no (place_of names var) body exit (Ok a) (Ok b) (Ok c)) (do_begun n loop_no (place_of names var) body exit (Ok a) (Ok b) (Ok c))
        by true is = rw is refl
        by false is = rw is (
          refl,
          refl,
          record {
            store = λ word either. words-alike m.store n.store (place_of names var) word a here there either;
            counts = λ k either. counts-alike m.counts n.counts loop_no k (trip_count a b c) count_here count_there either;
            steps = λ k either. words-alike m.steps n.steps loop_no k c step_here step_there either;
            taken = λ same. same;
          },
        )

    incremented-alike : (body exit : ℕ) → AgreeFor names (DoNext loop_no var body exit) m n → AreAlike names input (DoNext loop_no var body exit) m n (outcome names input m (DoNext loop_no var body exit)) (outcome names input n (DoNext loop_no var body exit))
    incremented-alike body exit agree =
        let count : slice_index m.counts loop_no ≡ slice_index n.counts loop_no = agree.counts loop_no refl in
        let word : word_at m.store (place_of names var) ≡ word_at n.store (place_of names var) = agree.store (place_of names var) refl in
        let step : word_at m.steps loop_no ≡ word_at n.steps loop_no = agree.steps loop_no refl in
        let z = wrapped (word_at n.store (place_of names var) +ℤ word_at n.steps loop_no) in
        let less = slice_index n.counts loop_no - 1 in
        let sum : wrapped (word_at m.store (place_of names var) +ℤ word_at m.steps loop_no) ≡ z = ap (λ x. wrapped (x +ℤ word_at m.steps loop_no)) word ∙ ap (λ x. wrapped (word_at n.store (place_of names var) +ℤ x)) step in
        let counted : slice_index m.counts loop_no - 1 ≡ less = ap (λ k. k - 1) count in (
          ap (λ k. if nat_lt 0 k then body else exit) counted,
          refl,
          record {
            store = λ w either. ap (λ x. word_at (slice_set m.store (place_of names var) x) w) sum ∙ words-alike m.store n.store (place_of names var) w z here there either;
            counts = λ k either. ap (λ c. slice_index (slice_set m.counts loop_no c) k) counted ∙ counts-alike m.counts n.counts loop_no k less count_here count_there either;
            steps = same_step;
            taken = λ same. same;
          },
        )
      where
        same_step : (k : ℕ) → ⊥ ⊎ (word_at m.steps k ≡ word_at n.steps k) → word_at m.steps k ≡ word_at n.steps k
        same_step k (inl none) = absurd none
        same_step k (inr same) = same

-- ---- the law

module _ (p : Program) (input : List ℤ) (m n : Memory) (placed : ArePlaced p.names p.words) (room_m : HasRoomFor p m) (room_n : HasRoomFor p n) where
  -- an executable does the same from two memories with room for the program that agree on what it may read
  pub outcomes-alike : (kind : ExecKind) → CanExecute p kind → AgreeFor p.names kind m n → AreAlike p.names input kind m n (outcome p.names input m kind) (outcome p.names input n kind)
  outcomes-alike (Assign target e next) can agree =
      let word = slice_get input m.taken in
      let other = slice_get input n.taken in
      let at : place p.names m.store word target ≡ place p.names n.store other target = place-agrees p.names m.store n.store word other target (λ w may. agree.store w (inl may)) (λ reads. ap (slice_get input) (agree.taken (inl reads))) in
      let given : value p.names m.store word e ≡ value p.names n.store other e = value-agrees p.names m.store n.store word other e (λ w may. agree.store w (inr may)) (λ reads. ap (slice_get input) (agree.taken (inr reads))) in
      let inside : (k : ℕ) → place p.names m.store word target ≡ Ok k → (k < length m.store) × (k < length n.store) = λ k is.
      let lt = word_of-below p.names p.words target.name k placed (place-in p.names m.store word target p.words k placed can.0 is) in
      let wide_m = room_m.words in
      let wide_n = room_n.words in
      (omega (arith, lt, wide_m), omega (arith, lt, wide_n))
      in
      let same : assigned n next (n.taken + words_taken e) (place p.names m.store word target) (value p.names m.store word e) ≡ outcome p.names input n (Assign target e next) =
      ap (λ q. assigned n next (n.taken + words_taken e) q (value p.names m.store word e)) at ∙ ap (assigned n next (n.taken + words_taken e) (place p.names n.store other target)) given
      in
      subst (λ o. AreAlike p.names input (Assign target e next) m n (outcome p.names input m (Assign target e next)) o) same
      (assigned-alike p.names input m n target e next (words_taken e) (place p.names m.store word target) (value p.names m.store word e) refl inside)
  outcomes-alike (Print items next) can agree =
      subst (λ o. AreAlike p.names input (Print items next) m n (outcome p.names input m (Print items next)) o)
      (ap (printed n next) (line-agrees p.names m.store n.store items agree.store))
      (printed-alike p.names input m n (Print items next) next (line_of p.names m.store items) (unchanged-alike p.names input m n (Print items next) (λ w changes. changes) (λ k sets. sets) (λ k sets. sets)))
  outcomes-alike (Pass next) can agree = (refl, refl, unchanged-alike p.names input m n (Pass next) (λ w changes. changes) (λ k sets. sets) (λ k sets. sets))
  outcomes-alike (Test cond if_true if_false) can agree =
      let next_at : ℤ → ℕ = λ z. if is_true z then if_true else if_false in
      subst (λ o. AreAlike p.names input (Test cond if_true if_false) m n (outcome p.names input m (Test cond if_true if_false)) o)
      (ap (branched n next_at) (value_in-agrees p.names m.store n.store cond agree.store))
      (branched-alike p.names input m n (Test cond if_true if_false) next_at (value p.names m.store None cond) (unchanged-alike p.names input m n (Test cond if_true if_false) (λ w changes. changes) (λ k sets. sets) (λ k sets. sets)))
  outcomes-alike (Sign e neg equal pos') can agree =
      subst (λ o. AreAlike p.names input (Sign e neg equal pos') m n (outcome p.names input m (Sign e neg equal pos')) o)
      (ap (branched n (by_sign neg equal pos')) (value_in-agrees p.names m.store n.store e agree.store))
      (branched-alike p.names input m n (Sign e neg equal pos') (by_sign neg equal pos') (value p.names m.store None e) (unchanged-alike p.names input m n (Sign e neg equal pos') (λ w changes. changes) (λ k sets. sets) (λ k sets. sets)))
  outcomes-alike (Pick e targets other) can agree =
      let next_at = by_number targets other (pos (length targets)) in
      subst (λ o. AreAlike p.names input (Pick e targets other) m n (outcome p.names input m (Pick e targets other)) o)
      (ap (branched n next_at) (value_in-agrees p.names m.store n.store e agree.store))
      (branched-alike p.names input m n (Pick e targets other) next_at (value p.names m.store None e) (unchanged-alike p.names input m n (Pick e targets other) (λ w changes. changes) (λ k sets. sets) (λ k sets. sets)))
  outcomes-alike (DoStart loop_no var first last step body exit) can agree =
      let f : Expr → Result ℤ Trap = value p.names m.store None in
      let g : Expr → Result ℤ Trap = value p.names n.store None in
      let one : f first ≡ g first = value_in-agrees p.names m.store n.store first (λ w may. agree.store w (inl may)) in
      let two : f last ≡ g last = value_in-agrees p.names m.store n.store last (λ w may. agree.store w (inr (inl may))) in
      let three : f step ≡ g step = value_in-agrees p.names m.store n.store step (λ w may. agree.store w (inr (inr may))) in
      let word = place_of p.names var in
      let below = can.0.word in
      let loop = can.0.loop in
      let words_m = room_m.words in
      let words_n = room_n.words in
      let counts_m = room_m.counts in
      let counts_n = room_n.counts in
      let steps_m = room_m.steps in
      let steps_n = room_n.steps in
      let same : do_begun n loop_no word body exit (f first) (f last) (f step) ≡ outcome p.names input n (DoStart loop_no var first last step body exit) =
      ap (λ x. do_begun n loop_no word body exit x (f last) (f step)) one ∙ ap (λ x. do_begun n loop_no word body exit (g first) x (f step)) two ∙ ap (do_begun n loop_no word body exit (g first) (g last)) three
      in
      subst (λ o. AreAlike p.names input (DoStart loop_no var first last step body exit) m n (outcome p.names input m (DoStart loop_no var first last step body exit)) o) same
      (begun-alike p.names input m n loop_no var (omega (arith, below, words_m)) (omega (arith, below, words_n)) (omega (arith, loop, counts_m)) (omega (arith, loop, counts_n)) first last step body exit (f first) (f last) (f step) (omega (arith, loop, steps_m)) (omega (arith, loop, steps_n)))
  outcomes-alike (DoNext loop_no var body exit) can agree =
      let below = can.word in
      let loop = can.loop in
      let words_m = room_m.words in
      let words_n = room_n.words in
      let counts_m = room_m.counts in
      let counts_n = room_n.counts in
      incremented-alike p.names input m n loop_no var (omega (arith, below, words_m)) (omega (arith, below, words_n)) (omega (arith, loop, counts_m)) (omega (arith, loop, counts_n)) body exit agree
  outcomes-alike End can agree = tt

module _ (names : List NameInfo) (input : List ℤ) (m n : Memory) where
  -- and it changes the same word
  pub changes-alike : (kind : ExecKind) → AgreeFor names kind m n → (word : ℕ) → Changes names input m kind word ↔ Changes names input n kind word
  changes-alike (Assign target e next) agree word =
      let at : place names m.store (slice_get input m.taken) target ≡ place names n.store (slice_get input n.taken) target = place-agrees names m.store n.store (slice_get input m.taken) (slice_get input n.taken) target (λ w may. agree.store w (inl may)) (λ reads. ap (slice_get input) (agree.taken (inl reads))) in
      (λ is. sym at ∙ is, λ is. at ∙ is)
  changes-alike (DoStart loop_no var first last step body exit) agree word = (λ is. is, λ is. is)
  changes-alike (DoNext loop_no var body exit) agree word = (λ is. is, λ is. is)
  changes-alike (Print items next) agree word = (λ is. is, λ is. is)
  changes-alike (Pass next) agree word = (λ is. is, λ is. is)
  changes-alike (Test cond if_true if_false) agree word = (λ is. is, λ is. is)
  changes-alike (Sign e neg equal pos') agree word = (λ is. is, λ is. is)
  changes-alike (Pick e targets other) agree word = (λ is. is, λ is. is)
  changes-alike End agree word = (λ is. is, λ is. is)
