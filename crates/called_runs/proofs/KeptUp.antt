-- Two runs of which the second keeps up with the first: what they have written, how they stop, and in how many steps.
use Rattle.std.proofs.Common.{◌≡◌, ◌≢◌, ℕ, zero, suc, ◌+◌, ◌*◌, ◌-◌, ◌<◌, ◌≤◌, ◌⊎◌, List, [], sym, ap, subst, ◌∙◌, ⊎_elim, inl, inr, arith, append-nil}
use Rattle.std.proofs.lemmas.Bool.{cases_eq, cases_lt}
use Rattle.f77_tree.specs.Prefixes.{IsPrefix}
use Rattle.f77_tree.specs.Run.{Mark, Running}
use Rattle.f77_tree.proofs.RunLaws.{grows_not, grows_on}
use Rattle.program_units.specs.Calls.{HasMark, ReachesText}

-- ---- one run, by its marks and its output after each number of steps

-- it writes on, and what has stopped stays
pub record IsRun (mark : ℕ → Mark) (out : ℕ → List ℕ) : Type 0 where
  pub grows : (n : ℕ) → IsPrefix (out n) (out (suc n))
  pub mark_stays : (n : ℕ) → mark n ≢ Running → mark (suc n) ≡ mark n
  pub out_stays : (n : ℕ) → mark n ≢ Running → out (suc n) ≡ out n

-- it is the same at two times
pub record IsSame (mark : ℕ → Mark) (out : ℕ → List ℕ) (m n : ℕ) : Type 0 where
  pub marks : mark m ≡ mark n
  pub outs : out m ≡ out n

module _ (mark : ℕ → Mark) (out : ℕ → List ℕ) (run : IsRun mark out) where
  grows-by : (n k : ℕ) → IsPrefix (out n) (out (k + n))
  grows-by n zero = let e : n ≡ zero + n = omega arith in subst (λ m. IsPrefix (out n) (out m)) e (grows_not (out n))
  grows-by n (suc k) = let e : suc (k + n) ≡ suc k + n = omega arith in subst (λ m. IsPrefix (out n) (out m)) e (grows_on _ _ _ (grows-by n k) (run.grows (k + n)))

  pub grown : (m n : ℕ) → m ≤ n → IsPrefix (out m) (out n)
  grown m n le = let e : (n - m) + m ≡ n = omega (arith, le) in subst (λ k. IsPrefix (out m) (out k)) e (grows-by m (n - m))

  stays-by : (n k : ℕ) → mark n ≢ Running → IsSame mark out (k + n) n
  stays-by n zero stopped = let e : zero + n ≡ n = omega arith in record { marks = ap mark e; outs = ap out e }
  stays-by n (suc k) stopped =
      let before = stays-by n k stopped in
      let e : suc k + n ≡ suc (k + n) = omega arith in
      let also : mark (k + n) ≢ Running = λ h. stopped (sym before.marks ∙ h) in
      record { marks = ap mark e ∙ run.mark_stays (k + n) also ∙ before.marks; outs = ap out e ∙ run.out_stays (k + n) also ∙ before.outs }

  pub stopped-later : (m n : ℕ) → m ≤ n → mark m ≢ Running → IsSame mark out n m
  stopped-later m n le stopped = let e : (n - m) + m ≡ n = omega (arith, le) in subst (λ k. IsSame mark out k m) e (stays-by m (n - m) stopped)

-- ---- two runs

-- `Kept` is what both have in common beside marks and output
module _ (mark other : ℕ → Mark) (out written : ℕ → List ℕ) (Kept : ℕ → ℕ → Type 0) where
  -- both have stopped, in one way, with the same whole output
  pub record HaveStopped (n m : ℕ) : Type 0 where
    pub stopped : mark n ≢ Running
    pub marks : mark n ≡ other m
    pub outs : out n ≡ written m
    pub kept : Kept n m

  -- after few steps the second is where the first has come to
  pub record Paces (n : ℕ) : Type 0 where
    pub steps : ℕ
    pub few : steps ≤ 4 * n
    pub marks : mark n ≡ other steps
    pub outs : out n ≡ written steps
    pub kept : Kept n steps

  module _ (rank : ℕ → ℕ) (InStep : ℕ → ℕ → Type 0) where
    -- after one step more of the first run and some of the second they are in step again, or both have stopped; where the second
    -- takes none, the rank falls
    pub record Follows (n m : ℕ) : Type 0 where
      pub count : ℕ
      pub few : count ≤ 4
      pub come : InStep (suc n) (count + m) ⊎ HaveStopped (suc n) (count + m)
      pub later : count ≡ 0 → rank (suc n) < rank n

    -- the second run keeps up with the first
    pub record KeepsUp : Type 0 where
      pub first_run : IsRun mark out
      pub second_run : IsRun other written
      pub begin : InStep 0 0
      pub runs : (n m : ℕ) → InStep n m → mark n ≡ Running
      pub other_runs : (n m : ℕ) → InStep n m → other m ≡ Running
      pub same : (n m : ℕ) → InStep n m → out n ≡ written m
      pub kept : (n m : ℕ) → InStep n m → Kept n m
      pub kept_on : (n m : ℕ) → mark n ≢ Running → Kept n m → Kept (suc n) m
      pub follows : (n m : ℕ) → InStep n m → Follows n m

    module _ (keeps : KeepsUp) where
      abbrev Comes : ℕ → ℕ → Type 0
      Comes n m = InStep n m ⊎ HaveStopped n m

      same-out : (n m : ℕ) → Comes n m → out n ≡ written m
      same-out n m (inl step) = keeps.same n m step
      same-out n m (inr stopped) = stopped.outs

      same-mark : (n m : ℕ) → Comes n m → mark n ≡ other m
      same-mark n m (inl step) = keeps.runs n m step ∙ sym (keeps.other_runs n m step)
      same-mark n m (inr stopped) = stopped.marks

      -- ---- each step of the first is matched

      same-kept : (n m : ℕ) → Comes n m → Kept n m
      same-kept n m (inl step) = keeps.kept n m step
      same-kept n m (inr stopped) = stopped.kept

      record IsMatched (n : ℕ) : Type 0 where
        steps : ℕ
        few : steps ≤ 4 * n
        come : Comes n steps

      stop-kept : (n m : ℕ) → HaveStopped n m → HaveStopped (suc n) m
      stop-kept n m h =
          let marks = keeps.first_run.mark_stays n h.stopped in
          record { stopped = λ e. h.stopped (sym marks ∙ e); marks = marks ∙ h.marks; outs = keeps.first_run.out_stays n h.stopped ∙ h.outs; kept = keeps.kept_on n m h.stopped h.kept }

      one-more : (n m : ℕ) → m ≤ 4 * n → Comes n m → IsMatched (suc n)
      one-more n m le (inl step) = let f = keeps.follows n m step in let few = f.few in record { steps = f.count + m; few = omega (arith, few, le); come = f.come }
      one-more n m le (inr stopped) = record { steps = m; few = omega (arith, le); come = inr (stop-kept n m stopped) }

      matched : (n : ℕ) → IsMatched n
      matched zero = record { steps = 0; few = omega arith; come = inl keeps.begin }
      matched (suc n) = let before = matched n in one-more n before.steps before.few before.come

      pub paces : (n : ℕ) → Paces n
      paces n = let s = matched n in record { steps = s.steps; few = s.few; marks = same-mark n s.steps s.come; outs = same-out n s.steps s.come; kept = same-kept n s.steps s.come }

      -- ---- each step of the second is come to

      -- the runs have come so far, or have stopped
      record Reaches (m : ℕ) : Type 0 where
        steps : ℕ
        other_steps : ℕ
        come : Comes steps other_steps
        enough : (m ≤ other_steps) ⊎ HaveStopped steps other_steps

      advance : (fuel n m : ℕ) → InStep n m → rank n < fuel → Reaches (suc m)
      advance zero n m step few = absurd (omega (arith, few))
      advance (suc fuel) n m step few =
          let f = keeps.follows n m step in
          ⊎_elim
          (λ (none : f.count ≡ 0). ⊎_elim
          (λ (next : InStep (suc n) (f.count + m)).
          let e : f.count + m ≡ m = omega (arith, none) in
          let less = f.later none in
          advance fuel (suc n) m (subst (λ k. InStep (suc n) k) e next) (omega (arith, less, few)))
          (λ (stopped : HaveStopped (suc n) (f.count + m)). record { steps = suc n; other_steps = f.count + m; come = inr stopped; enough = inr stopped })
          f.come)
          (λ (some : f.count ≢ 0). record { steps = suc n; other_steps = f.count + m; come = f.come; enough = inl (omega (arith, some)) })
          (cases_eq f.count 0)

      further : (m : ℕ) → Reaches m → Reaches (suc m)
      further m r = by-come r.come r.enough
        where
          on : (less : m < r.other_steps) → Reaches (suc m)
          on less = record { steps = r.steps; other_steps = r.other_steps; come = r.come; enough = inl (omega (arith, less)) }

          by-come : Comes r.steps r.other_steps → (m ≤ r.other_steps) ⊎ HaveStopped r.steps r.other_steps → Reaches (suc m)
          by-come (inr stopped) enough = record { steps = r.steps; other_steps = r.other_steps; come = inr stopped; enough = inr stopped }
          by-come (inl step) (inr stopped) = absurd (stopped.stopped (keeps.runs r.steps r.other_steps step))
          by-come (inl step) (inl le) =
              ⊎_elim
              on
              (λ (most : r.other_steps ≤ m).
              let a = advance (suc (rank r.steps)) r.steps r.other_steps step (omega arith) in
              let e : r.other_steps ≡ m = omega (arith, most, le) in
              subst Reaches (ap suc e) a)
              (cases_lt m r.other_steps)

      reach : (m : ℕ) → Reaches m
      reach zero = record { steps = 0; other_steps = 0; come = inl keeps.begin; enough = inl (omega arith) }
      reach (suc m) = further m (reach m)

      -- ---- what they write

      pub front : (n : ℕ) → ReachesText written (out n)
      front n = let s = matched n in record { steps = s.steps; rest = []; is = sym (same-out n s.steps s.come) ∙ sym (append-nil (out n)) }

      record IsBehind (m : ℕ) : Type 0 where
        steps : ℕ
        other_steps : ℕ
        come : Comes steps other_steps
        prefix : IsPrefix (written m) (written other_steps)
        -- where the second has stopped there, it has not changed
        stops : other m ≢ Running → IsSame other written m other_steps

      flip : (m k : ℕ) → IsSame other written k m → IsSame other written m k
      flip m k s = record { marks = sym s.marks; outs = sym s.outs }

      behind-below : (m n k : ℕ) → Comes n k → m ≤ k → IsBehind m
      behind-below m n k come le = record { steps = n; other_steps = k; come = come; prefix = grown other written keeps.second_run m k le; stops = λ stopped. flip m k (stopped-later other written keeps.second_run m k le stopped) }

      behind-stopped : (m n k : ℕ) → Comes n k → HaveStopped n k → k ≤ m → IsBehind m
      behind-stopped m n k come stopped le =
          let later = stopped-later other written keeps.second_run k m le (λ h. stopped.stopped (stopped.marks ∙ h)) in
          record { steps = n; other_steps = k; come = come; prefix = subst (λ xs. IsPrefix (written m) xs) later.outs (grows_not (written m)); stops = λ h. later }

      behind-by : (m n k : ℕ) → Comes n k → (m ≤ k) ⊎ HaveStopped n k → IsBehind m
      behind-by m n k come (inl le) = behind-below m n k come le
      behind-by m n k come (inr stopped) =
          ⊎_elim
          (λ (less : m < k). behind-below m n k come (omega (arith, less)))
          (λ (le : k ≤ m). behind-stopped m n k come stopped le)
          (cases_lt m k)

      behind : (m : ℕ) → IsBehind m
      behind m = let r = reach m in behind-by m r.steps r.other_steps r.come r.enough

      pub back : (m : ℕ) → ReachesText out (written m)
      back m = let b = behind m in record { steps = b.steps; rest = b.prefix.more; is = same-out b.steps b.other_steps b.come ∙ b.prefix.is }

      -- ---- how they stop

      pub stops : (which : Mark) (text : List ℕ) → HasMark mark out which text → HasMark other written which text
      stops which text h = let s = matched h.steps in record { steps = s.steps; is = sym (same-mark h.steps s.steps s.come) ∙ h.is; whole = sym (same-out h.steps s.steps s.come) ∙ h.whole }

      pub stops-back : (which : Mark) (text : List ℕ) → which ≢ Running → HasMark other written which text → HasMark mark out which text
      stops-back which text stopped h =
          let b = behind h.steps in
          let same = b.stops (λ e. stopped (sym h.is ∙ e)) in
          record { steps = b.steps; is = same-mark b.steps b.other_steps b.come ∙ sym same.marks ∙ h.is; whole = same-out b.steps b.other_steps b.come ∙ sym same.outs ∙ h.whole }
