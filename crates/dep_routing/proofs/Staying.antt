-- While a run stays in a region that is quiet for the line of output, each round lowers a count.
use Rattle.std.proofs.Common.{◌≡◌, ◌≢◌, ℕ, zero, suc, ◌+◌, ◌-◌, ◌<◌, ◌≤◌, ◌⊎◌, ℤ, Bool, true, false, cond, nat_lt, ◌&&◌, not, List, [], ◌∷◌, Option, Some, None, slice_get, slice_index, refl, sym, ap, ◌∙◌, subst, inl, inr, ⊎_elim, arith}
use Rattle.std.proofs.lemmas.Bool.{cases_Bool, cases_lt, and_parts, or_from, eqb-true, eq-eqb, ltb-true, false≢true}
use Rattle.closed_walks.specs.Graph.{Graph, edge_count, from}
use Rattle.closed_walks.specs.Reaching.{any_below}
use Rattle.closed_walks.specs.Walk.{Walk, Avoids}
use Rattle.f77_tree.specs.declared.programs.ExecKind.{ExecKind}
use Rattle.f77_tree.specs.declared.programs.Program.{Program}
use Rattle.f77_tree.specs.Loops.{Loop, begun, begun_in, incremented_at, is_number, do_start, do_next, IsLoop}
use Rattle.f77_tree.specs.Run.{Mark, Running, Ended, Trapped}
use Rattle.cfg_build.specs.declared.pieces.PieceKind.{PieceKind}
use Rattle.cfg_build.specs.declared.pieces.PieceKind.TheVariants as piece
use Rattle.cfg_build.specs.Flow.{flow}
use Rattle.cfg_build.specs.Passes.{out, pass, PassState, after_pass, line_at, passed_from, passes}
use Rattle.cfg_build.specs.Zones.{exec_at, IsInBody, IsTest, IsPlain, IsWayIn, IsJoinOfTest, IsAtTest}
use Rattle.dep_routing.specs.Sound.{comes_to}
use Rattle.dep_routing.specs.Touches.{piece_kind, exec_kind}
use Rattle.dep_routing.proofs.Circles.{increments, IsIncrement, increment_is, IsPlace, increment_inside, plain, bars, no_circle}
use Rattle.dep_routing.proofs.Counting.{begun_of, Keep, count_kept, count_lowered, tested_edge, memory_is, edge_is, begun_kind}
use Rattle.dep_routing.proofs.Rounds.{IsRound}

abbrev pub is_running : Mark → Bool
is_running Running = true
is_running _ = false

pub running_is : (mark : Mark) → is_running mark ≡ true → mark ≡ Running
running_is Running h = refl
running_is Ended h = absurd (false≢true h)
running_is (Trapped trap line) h = absurd (false≢true h)

-- the passes of a run are a walk
pub record IsWalk (p : Program) (input : List ℤ) : Type 0 where
  pub edges : (n : ℕ) → (passes p input n).edge < edge_count (flow p.execs).graph
  pub leads_on : (n : ℕ) → (passes p input (suc n)).mark ≡ Running → from (flow p.execs).graph (passes p input (suc n)).edge ≡ comes_to p input n

-- ---- the beginnings of DOs

-- the piece begins the DO k
abbrev pub starts : Program → (k node : ℕ) → Bool
starts p k node = is_number k (begun_of (piece_kind p node) (exec_kind p node))

number_parts : (k : ℕ) (l : Option Loop) → is_number k l ≡ true → (loop : Loop) × (l ≡ Some loop) × (loop.number ≡ k)
number_parts k None h = absurd (false≢true h)
number_parts k (Some loop) h = (loop, refl, eqb-true loop.number k h)

start_parts : (k : ℕ) (kind : PieceKind) (e : ExecKind) → is_number k (begun_of kind e) ≡ true → (kind ≡ piece.Act) × ((loop : Loop) × (begun e ≡ Some loop) × (loop.number ≡ k))
start_parts k piece.Act e h = (refl, number_parts k (begun e) h)
start_parts k piece.Start e h = absurd (false≢true h)
start_parts k piece.Pass e h = absurd (false≢true h)
start_parts k piece.Branch e h = absurd (false≢true h)
start_parts k piece.Join e h = absurd (false≢true h)
start_parts k piece.Hold e h = absurd (false≢true h)
start_parts k piece.End e h = absurd (false≢true h)

any_none : (test : ℕ → Bool) (k : ℕ) → ((j : ℕ) → j < k → test j ≡ false) → any_below k test ≡ false
any_none test zero none = refl
any_none test (suc k) none = or_from (any_below k test) (test k) (any_none test k (λ j less. none j (omega (arith, less)))) (none k (omega arith))

pub next_up : {a b : ℕ} → a ≤ b → (b ≡ a → ⊥) → suc a ≤ b
next_up less apart = grind (arith, less, apart)

act_is_no_branch : piece.Act ≡ piece.Branch → ⊥
act_is_no_branch h = cc

act_is_no_join : piece.Act ≡ piece.Join → ⊥
act_is_no_join h = cc

module _ (p : Program) (input : List ℤ) (inside : ℕ → Bool) (place : IsPlace p inside) (keep : Keep) (walk : IsWalk p input) where
  abbrev g : Graph
  g = (flow p.execs).graph

  abbrev pub x : ℕ → ℕ
  x i = comes_to p input i

  abbrev pub edge : ℕ → ℕ
  edge i = (passes p input i).edge

  -- the run goes on, and is inside
  abbrev pub on : ℕ → Bool
  on i = is_running (passes p input i).mark && inside (comes_to p input i)

  abbrev pub count : (k i : ℕ) → ℕ
  count k i = slice_index (passes p input i).memory.counts k

  abbrev pub incs : (k i : ℕ) → Bool
  incs k i = increments p k (comes_to p input i)

  pub runs : (i : ℕ) → on i ≡ true → (passes p input i).mark ≡ Running
  runs i h = running_is (passes p input i).mark (and_parts (is_running (passes p input i).mark) (inside (x i)) h).0

  pub is_inside : (i : ℕ) → on i ≡ true → inside (comes_to p input i) ≡ true
  is_inside i h = (and_parts (is_running (passes p input i).mark) (inside (x i)) h).1

  pub passed : (i : ℕ) → (passes p input i).mark ≡ Running → passes p input (suc i) ≡ after_pass (passes p input i) (line_at p (edge i)) (pass p input (edge i) (passes p input i).memory)
  passed i h = ap (λ mark. passed_from p input (passes p input i) mark) h

  begins : (i : ℕ) → on (suc i) ≡ true → from (flow p.execs).graph (edge (suc i)) ≡ x i
  begins i h = walk.leads_on i (runs (suc i) h)

  pub run_plain : (i : ℕ) → on i ≡ true → on (suc i) ≡ true → IsPlain (flow p.execs) (edge (suc i))
  run_plain i here there = plain p inside place (edge (suc i)) (walk.edges (suc i)) (ap inside (begins i there) ∙ is_inside i here) (is_inside (suc i) there)

  -- ---- counts

  kept : (k i : ℕ) → on i ≡ true → starts p k (x i) ≡ false → incs k i ≡ false → count k (suc i) ≡ count k i
  kept k i here a b =
      ap (λ (s : PassState). slice_index s.memory.counts k) (passed i (runs i here))
      ∙ ap (λ m. slice_index m.counts k) (memory_is (passes p input i) (line_at p (edge i)) (pass p input (edge i) (passes p input i).memory))
      ∙ count_kept keep p input (passes p input i).memory (out g (x i)) k (piece_kind p (x i)) (exec_kind p (x i)) a b

  less : (k i : ℕ) → on i ≡ true → incs k i ≡ true → count k (suc i) ≡ count k i - 1
  less k i here inc =
      ap (λ (s : PassState). slice_index s.memory.counts k) (passed i (runs i here))
      ∙ ap (λ m. slice_index m.counts k) (memory_is (passes p input i) (line_at p (edge i)) (pass p input (edge i) (passes p input i).memory))
      ∙ count_lowered p input (passes p input i).memory (out g (x i)) k (piece_kind p (x i)) (exec_kind p (x i)) inc

  tested : (k i : ℕ) → k < p.loops → on i ≡ true → IsTest p.execs k (x i) → edge (suc i) ≡ out (flow p.execs).graph (x i) (cond (nat_lt 0 (count k i)) 0 1)
  tested k i few here test =
      let l : IsLoop p.execs k = place.loops.each k few in
      let begins_kind : begun (exec_kind p (x i)) ≡ Some l.loop = begun_kind (slice_get p.execs (exec_at (flow p.execs) (x i))) ∙ ap (λ n. begun_in (slice_get p.execs n)) test.exec ∙ l.begins in
      ap (λ (s : PassState). s.edge) (passed i (runs i here))
      ∙ edge_is (passes p input i) (line_at p (edge i)) (pass p input (edge i) (passes p input i).memory)
      ∙ tested_edge p input (passes p input i).memory (out g (x i)) (edge i) k (piece_kind p (x i)) (exec_kind p (x i)) test.kind (ap (λ o. is_number k o) begins_kind ∙ eq-eqb l.loop.number k l.number)

  -- a test that doesn't lead to the exit has a count that isn't 0
  counted : (k i : ℕ) → k < p.loops → on i ≡ true → IsTest p.execs k (x i) → edge (suc i) ≢ out (flow p.execs).graph (x i) 1 → 0 < count k i
  counted k i few here test other = ⊎_elim
      (λ (some : nat_lt 0 (count k i) ≡ true). ltb-true 0 (count k i) some)
      (λ (none : nat_lt 0 (count k i) ≡ false). absurd (other (tested k i few here test ∙ ap (λ b. out g (x i) (cond b 0 1)) none)))
      (cases_Bool (nat_lt 0 (count k i)))

  -- ---- ways of the run

  -- so many edges of the run, from this time on
  abbrev pub way : (i d : ℕ) → List ℕ
  way i zero = []
  way i (suc d) = edge (suc i) ∷ way (suc i) d

  pub way_leads : (d i : ℕ) → ((j : ℕ) → i < j → j ≤ i + d → on j ≡ true) → Walk (flow p.execs).graph (x i) (way i d) (x (i + d))
  way_leads zero i stay = let e : i ≡ i + 0 = omega arith in ap (λ n. x n) e
  way_leads (suc d) i stay =
      let e : suc i + d ≡ i + suc d = omega arith in
      (walk.edges (suc i), begins i (stay (suc i) (omega arith) (omega arith)), subst (λ n. Walk g (x (suc i)) (way (suc i) d) (x n)) e (way_leads d (suc i) (λ j low high. stay j (omega (arith, low)) (omega (arith, high)))))

  pub way_avoids : (avoided : ℕ → Bool) (d i : ℕ) → ((j : ℕ) → i ≤ j → j < i + d → avoided (edge (suc j)) ≡ false) → Avoids avoided (way i d)
  way_avoids avoided zero i none = tt
  way_avoids avoided (suc d) i none = (none i (omega arith) (omega arith), way_avoids avoided d (suc i) (λ j low high. none j (omega (arith, low)) (omega (arith, high))))

  -- ---- a round

  module _ (k n m : ℕ) (few : k < p.loops) (r : IsRound p.loops on incs count k n m) where
    abbrev Inside : ℕ → Type 0
    Inside i = IsInBody p.execs k (x i)

    cases_inside : (i : ℕ) → Inside i ⊎ (Inside i → ⊥)
    cases_inside i = ⊎_elim
        (λ (h : do_start p.execs k < exec_at (flow p.execs) (x i)). ⊎_elim
        (λ (l : do_next p.execs k < exec_at (flow p.execs) (x i)). inr (λ (b : Inside i). omega (arith, b.up_to_next, l)))
        (λ (l : exec_at (flow p.execs) (x i) ≤ do_next p.execs k). inl (record { after_start = h; up_to_next = l }))
        (cases_lt (do_next p.execs k) (exec_at (flow p.execs) (x i))))
        (λ (h : exec_at (flow p.execs) (x i) ≤ do_start p.execs k). inr (λ (b : Inside i). omega (arith, b.after_start, h)))
        (cases_lt (do_start p.execs k) (exec_at (flow p.execs) (x i)))

    first_is : IsIncrement p k (x n)
    first_is = increment_is p k (x n) r.first

    last_is : IsIncrement p k (x m)
    last_is = increment_is p k (x m) r.last

    last_inside : Inside m
    last_inside = (increment_inside p inside place k (x m) last_is).1

    on_at : (i : ℕ) → n ≤ i → i ≤ m → on i ≡ true
    on_at i low high = r.stays i low high

    not_last : (kind : PieceKind) (i : ℕ) → piece_kind p (x i) ≡ kind → (piece.Act ≡ kind → ⊥) → i ≡ m → ⊥
    not_last kind i is other same = other (sym last_is.kind ∙ ap (λ j. piece_kind p (x j)) (sym same) ∙ is)

    -- ---- the test after the first increment

    record IsTested : Type 0 where
      at : ℕ
      after : n < at
      before : at < m
      test : IsTest p.execs k (x at)
      joins : (i : ℕ) → n < i → i < at → piece_kind p (x i) ≡ piece.Join

    next_on : on (suc n) ≡ true
    next_on = on_at (suc n) (omega arith) (omega (arith, r.forth))

    at_test : IsAtTest p.execs k (x (suc n))
    at_test =
        let here : on n ≡ true = on_at n (omega arith) (omega (arith, r.forth)) in
        let from_is : from g (edge (suc n)) ≡ x n = begins n next_on in
        subst (λ j. IsAtTest p.execs j (x (suc n))) first_is.number
        (place.returns (edge (suc n)) first_is.loop (run_plain n here next_on) (ap (λ y. piece_kind p y) from_is ∙ first_is.kind) (ap (λ y. incremented_at p.execs (exec_at (flow p.execs) y)) from_is ∙ first_is.is))

    first_tested : IsTested
    first_tested = ⊎_elim
        (λ (t : IsTest p.execs k (x (suc n))). record {
          at = suc n;
          after = omega arith;
          before = next_up (omega (arith, r.forth)) (λ (same : m ≡ suc n). not_last piece.Branch (suc n) t.kind act_is_no_branch (sym same));
          test = t;
          joins = λ i low high. absurd (omega (arith, low, high));
        })
        (λ (t : IsJoinOfTest p.execs k (x (suc n))).
        let more : suc (suc n) ≤ m = next_up (omega (arith, r.forth)) (λ (same : m ≡ suc n). not_last piece.Join (suc n) t.kind act_is_no_join (sym same)) in
        let there : on (suc (suc n)) ≡ true = on_at (suc (suc n)) (omega arith) more in
        let test : IsTest p.execs k (x (suc (suc n))) = t.leads (edge (suc (suc n))) (run_plain (suc n) next_on there) (begins (suc n) there) in
        record {
          at = suc (suc n);
          after = omega arith;
          before = next_up more (λ (same : m ≡ suc (suc n)). not_last piece.Branch (suc (suc n)) test.kind act_is_no_branch (sym same));
          test = test;
          joins = λ i low high. let e : suc n ≡ i = omega (arith, low, high) in subst (λ j. piece_kind p (x j) ≡ piece.Join) e t.kind;
        })
        at_test

    -- ---- into the range

    record IsEntry (s : ℕ) : Type 0 where
      at : ℕ
      low : s ≤ at
      high : at < m
      test : IsTest p.execs k (x at)
      not_exit : edge (suc at) ≢ out (flow p.execs).graph (x at) 1

    enters : (d s : ℕ) → s + d ≡ m → n ≤ s → (Inside s → ⊥) → IsEntry s
    enters zero s is low outside = absurd (outside (subst (λ i. Inside i) (let e : m ≡ s = omega (arith, is) in e) last_inside))
    enters (suc d) s is low outside = ⊎_elim
        (λ (within : Inside (suc s)).
        let here : on s ≡ true = on_at s low (omega (arith, is)) in
        let there : on (suc s) ≡ true = on_at (suc s) (omega (arith, low)) (omega (arith, is)) in
        let from_is : from g (edge (suc s)) ≡ x s = begins s there in
        let w : IsWayIn p.execs k (edge (suc s)) = place.enters k (edge (suc s)) few (run_plain s here there) (λ (b : IsInBody p.execs k (from g (edge (suc s)))). outside (subst (λ y. IsInBody p.execs k y) from_is b)) within in
        record {
          at = s;
          low = omega arith;
          high = omega (arith, is);
          test = subst (λ y. IsTest p.execs k y) from_is w.test;
          not_exit = λ same. w.not_exit (same ∙ ap (λ y. out g y 1) (sym from_is));
        })
        (λ (not_yet : Inside (suc s) → ⊥).
        let e : IsEntry (suc s) = enters d (suc s) (omega (arith, is)) (omega (arith, low)) not_yet in
        record { at = e.at; low = omega (arith, e.low); high = e.high; test = e.test; not_exit = e.not_exit })
        (cases_inside (suc s))

    entry_from : (s : ℕ) → n ≤ s → s ≤ m → (Inside s → ⊥) → IsEntry s
    entry_from s low high outside = enters (m - s) s (omega (arith, high)) low outside

    -- what is made for the executable that begins the DO is outside
    start_outside : (i : ℕ) → exec_at (flow p.execs) (x i) ≡ do_start p.execs k → Inside i → ⊥
    start_outside i is b = omega (arith, b.after_start, is)

    -- ---- there is one test in a round

    barred : (i : ℕ) → n < i → i < m → bars p inside place k (edge (suc i)) ≡ false
    barred i low high =
        let there : on (suc i) ≡ true = on_at (suc i) (omega (arith, low)) (omega (arith, high)) in
        or_from (not (inside (x (suc i)))) (any_below (suc k) (λ j. increments p j (from g (edge (suc i))))) (ap not (is_inside (suc i) there))
        (any_none (λ j. increments p j (from g (edge (suc i)))) (suc k) (λ j le. ap (λ y. increments p j y) (begins i there) ∙ r.between i j low high (omega (arith, le))))

    one_test : (s t : ℕ) → n < s → s < t → t < m → IsTest p.execs k (x s) → IsTest p.execs k (x t) → ⊥
    one_test s t low less high first second =
        let d : ℕ = t - suc s in
        let e : s + suc d ≡ t = omega (arith, less) in
        let same : x (s + suc d) ≡ x s = ap (λ i. x i) e ∙ second.at ∙ sym first.at in
        let leads : Walk g (x s) (way s (suc d)) (x s) = subst (λ y. Walk g (x s) (way s (suc d)) y) same (way_leads (suc d) s (λ j above below. on_at j (omega (arith, above, low)) (omega (arith, below, e, high)))) in
        let avoids : Avoids (bars p inside place k) (way s (suc d)) = way_avoids (bars p inside place k) (suc d) s (λ j above below. barred j (omega (arith, above, low)) (omega (arith, below, e, high))) in
        no_circle p inside place k (x s) few first (is_inside s (on_at s (omega (arith, low)) (omega (arith, less, high)))) (edge (suc s)) (way (suc s) d) leads avoids

    no_start : (s : ℕ) → n < s → s < m → starts p k (x s) ≡ false
    no_start s low high = ⊎_elim
        (λ (h : starts p k (x s) ≡ true). absurd (found h))
        (λ h. h)
        (cases_Bool (starts p k (x s)))
      where
        found : starts p k (x s) ≡ true → ⊥
        found h =
            let parts = start_parts k (piece_kind p (x s)) (exec_kind p (x s)) h in
            let l : IsLoop p.execs k = place.loops.each k few in
            let at_start : exec_at (flow p.execs) (x s) ≡ do_start p.execs k = l.one_start (exec_at (flow p.execs) (x s)) parts.1.0 (sym (begun_kind (slice_get p.execs (exec_at (flow p.execs) (x s)))) ∙ parts.1.1) parts.1.2 in
            let e : IsEntry s = entry_from s (omega (arith, low)) (omega (arith, high)) (start_outside s at_start) in
            let t : IsTested = first_tested in
            let apart : e.at ≡ s → ⊥ = λ (same : e.at ≡ s). act_is_no_branch (sym parts.0 ∙ ap (λ i. piece_kind p (x i)) (sym same) ∙ e.test.kind) in
            let later : suc s ≤ e.at = next_up e.low apart in
            ⊎_elim
            (λ (before : s < t.at). act_is_no_join (sym parts.0 ∙ t.joins s low before))
            (λ (after : t.at ≤ s).
            one_test t.at e.at t.after (omega (arith, after, later)) e.high t.test e.test)
            (cases_lt s t.at)

    constant : (d i : ℕ) → n < i → i + d ≤ m → count k (i + d) ≡ count k i
    constant zero i low high = let e : i + 0 ≡ i = omega arith in ap (λ j. count k j) e
    constant (suc d) i low high =
        let e : i + suc d ≡ suc (i + d) = omega arith in
        ap (λ j. count k j) e
        ∙ kept k (i + d) (on_at (i + d) (omega (arith, low)) (omega (arith, high))) (no_start (i + d) (omega (arith, low)) (omega (arith, high))) (r.between (i + d) k (omega (arith, low)) (omega (arith, high)) (omega arith))
        ∙ constant d i low (omega (arith, high))

    constant_to : (i j : ℕ) → n < i → i ≤ j → j ≤ m → count k j ≡ count k i
    constant_to i j low less high = let e : j ≡ i + (j - i) = omega (arith, less) in ap (λ y. count k y) e ∙ constant (j - i) i low (omega (arith, less, high))

    pub falls : count k m < count k n
    falls =
        let t : IsTested = first_tested in
        let e : IsEntry t.at = entry_from t.at (omega (arith, t.after)) (omega (arith, t.before)) (start_outside t.at t.test.exec) in
        let some : 0 < count k e.at = counted k e.at few (on_at e.at (omega (arith, e.low, t.after)) (omega (arith, e.high))) e.test e.not_exit in
        let one : count k (suc n) ≡ count k n - 1 = less k n (on_at n (omega arith) (omega (arith, r.forth))) r.first in
        let a : count k e.at ≡ count k (suc n) = constant_to (suc n) e.at (omega arith) (omega (arith, e.low, t.after)) (omega (arith, e.high)) in
        let b : count k m ≡ count k (suc n) = constant_to (suc n) m (omega arith) (omega (arith, r.forth)) (omega arith) in
        omega (arith, some, one, a, b)
