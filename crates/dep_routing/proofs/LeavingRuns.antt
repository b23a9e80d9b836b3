-- A run leaves each region that is quiet for the line of output.
use Rattle.std.proofs.Common.{◌≡◌, ◌≢◌, ℕ, zero, suc, ◌+◌, ◌-◌, ◌<◌, ◌≤◌, ◌⊎◌, ◌↔◌, ℤ, Bool, true, false, not, List, All, refl, sym, ap, ◌∙◌, subst, inl, inr, ⊎_elim, arith}
use Rattle.std.proofs.lemmas.Bool.{cases_Bool, and_from, and_cases, not-true, or_parts, not-false, false≢true}
use Rattle.op_table.specs.Words.{IsWord}
use Rattle.op_table.specs.declared.Trap.{Trap}
use Rattle.closed_walks.specs.Graph.{Graph, from, to}
use Rattle.closed_walks.specs.Reaching.{any_below}
use Rattle.closed_walks.specs.Walk.{Walk, Avoids}
use Rattle.f77_tree.specs.declared.programs.ExecKind.TheVariants as exec
use Rattle.f77_tree.specs.declared.programs.Program.{Program}
use Rattle.f77_tree.specs.Execution.{Memory}
use Rattle.f77_tree.specs.Run.{Running, Ended}
use Rattle.f77_tree.specs.WellFormed.{AreExecs}
use Rattle.alias_classes.specs.Classes.{ClassTable}
use Rattle.cfg_build.specs.declared.pieces.PieceKind.TheVariants as piece
use Rattle.cfg_build.specs.Flow.{flow}
use Rattle.cfg_build.specs.Joined.{finish}
use Rattle.cfg_build.specs.Passes.{out, Passed, Along, Traps, Done, pass, PassState, after_pass, line_at, passes}
use Rattle.cfg_build.specs.Shape.{IsShaped}
use Rattle.region_tree.specs.Tree.{Tree, exit_of, IsIn}
use Rattle.dep_routing.specs.Facts.{TreeFacts}
use Rattle.dep_routing.specs.Leaving.{MarksTraps, MarksStays}
use Rattle.dep_routing.specs.Quiet.{IsQuiet}
use Rattle.dep_routing.specs.Sound.{comes_to, DoesTrap, IsLeftBy}
use Rattle.dep_routing.specs.Touches.{piece_kind, exec_kind, is_increment, KindNeedsOut, AreTouches}
use Rattle.dep_routing.proofs.Circles.{some_increment, Enters, Returns, IsPlace, ends_stay, stays}
use Rattle.dep_routing.proofs.Counting.{Keep}
use Rattle.dep_routing.proofs.Cycles.{no_cycle}
use Rattle.dep_routing.proofs.Ending.{done_at}
use Rattle.dep_routing.proofs.Quietness.{goes_on}
use Rattle.dep_routing.proofs.Repeats.{Repeats, repeats}
use Rattle.dep_routing.proofs.Rounds.{IsFirst, first_of_one, some_or_none, none_passes, stops, goes_away}
use Rattle.dep_routing.proofs.Staying.{is_running, IsWalk, on, count, incs, runs, is_inside, passed, way, way_leads, way_avoids, falls}

-- ---- what the list of touches marks

pub marks : (p : Program) (c : ClassTable) (touches : ℕ → ℕ → Bool) → AreTouches p c touches → MarksTraps p touches → MarksStays p touches
marks p c touches are traps = record {
  holds = λ node below kind. (are node 0 below).1 (subst (λ k. KindNeedsOut p c node k (exec_kind p node)) (sym kind) tt);
  branches = λ node below kind cycle. (are node 0 below).1 (subst (λ k. KindNeedsOut p c node k (exec_kind p node)) (sym kind) (inr (inl cycle)));
  traps = traps;
}

-- what the law on acts says
abbrev pub ActsGoOn : Program → Type 0
ActsGoOn p = (node : ℕ) → node < (flow p.execs).graph.nodes → piece_kind p node ≡ piece.Act → exec_kind p node ≢ exec.End

-- what is known of the flow graph and the runs of a program
pub record IsKnown (p : Program) (t : Tree) : Type 0 where
  pub facts : TreeFacts (flow p.execs).graph t
  pub well : AreExecs p.names p.execs p.loops
  pub enters : Enters p
  pub returns : Returns p
  pub shape : IsShaped (flow p.execs) (finish p.execs)
  pub keep : Keep
  pub acts : ActsGoOn p
  pub walk : (input : List ℤ) → IsWalk p input

module _ (p : Program) (t : Tree) (touches : ℕ → ℕ → Bool) (known : IsKnown p t) (marked : MarksStays p touches) (input : List ℤ) (words : All IsWord input) (r : ℕ) (quiet : IsQuiet (flow p.execs).graph t touches 0 r) where
  abbrev g : Graph
  g = (flow p.execs).graph

  abbrev f : TreeFacts (flow p.execs).graph t
  f = known.facts

  abbrev inside : ℕ → Bool
  inside = (known.facts.borders r quiet.number).0

  told : (node : ℕ) → (inside node ≡ true) ↔ IsIn (flow p.execs).graph t r node
  told = (known.facts.borders r quiet.number).1

  untouched : (node : ℕ) → inside node ≡ true → touches node 0 ≡ true → ⊥
  untouched node h touched = false≢true (sym (quiet.untouched node ((told node).0 h)) ∙ touched)

  place : IsPlace p inside
  place = record {
    loops = known.well.loops_nest;
    enters = known.enters;
    returns = known.returns;
    sound = f.flow.sound;
    back = f.flow.start;
    no_start = ⊎_elim (λ (h : inside 0 ≡ true). absurd (f.start r quiet.number ((told 0).0 h))) (λ h. h) (cases_Bool (inside 0));
    no_holds = λ node below h kind. untouched node h (marked.holds node below kind);
    no_rounds = λ node below h kind cycle. untouched node h (marked.branches node below kind cycle);
  }

  walk : IsWalk p input
  walk = known.walk input

  abbrev stays_at : ℕ → Bool
  stays_at i = on p input inside place known.keep walk i

  abbrev inc_at : (k i : ℕ) → Bool
  inc_at k i = incs p input inside place known.keep walk k i

  abbrev count_at : (k i : ℕ) → ℕ
  count_at k i = count p input inside place known.keep walk k i

  abbrev stop : (k i : ℕ) → Bool
  stop k i = stops p.loops stays_at inc_at count_at k i

  -- without increments a run doesn't stay
  module _ (n : ℕ) (none : (i : ℕ) → n ≤ i → i < n + suc (flow p.execs).graph.nodes → stop p.loops i ≡ false) where
    stays_on : (i : ℕ) → n ≤ i → i < n + suc (flow p.execs).graph.nodes → stays_at i ≡ true
    stays_on i low high = not-false (stays_at i) (or_parts (not (stays_at i)) (any_below p.loops (λ j. inc_at j i)) (none i low high)).0

    no_increment : (i : ℕ) → n ≤ i → i < n + suc (flow p.execs).graph.nodes → is_increment p (comes_to p input i) ≡ false
    no_increment i low high = ⊎_elim
        (λ (h : is_increment p (comes_to p input i) ≡ true).
        let k = some_increment p known.well.loops_nest (comes_to p input i) h in
        absurd (false≢true (sym (none_passes (λ j. inc_at j i) p.loops k.0 (or_parts (not (stays_at i)) (any_below p.loops (λ j. inc_at j i)) (none i low high)).1 k.1) ∙ k.2)))
        (λ h. h)
        (cases_Bool (is_increment p (comes_to p input i)))

    no_stay : ⊥
    no_stay =
        let rep : Repeats (λ i. comes_to p input (n + i)) g.nodes = repeats g.nodes (λ i. comes_to p input (n + i)) (λ i le. f.flow.sound.ends (passes p input (n + i)).edge (walk.edges (n + i))) in
        let s : ℕ = n + rep.one in
        let d : ℕ = rep.other - suc rep.one in
        let last : s + suc d ≡ n + rep.other = omega (arith, rep.before) in
        let same : comes_to p input (s + suc d) ≡ comes_to p input s = ap (λ i. comes_to p input i) last ∙ sym rep.same in
        let high : (j : ℕ) → j ≤ s + suc d → j < n + suc g.nodes = λ j le. omega (arith, le, last, rep.within) in
        let leads : Walk g (comes_to p input s) (way p input inside place known.keep walk s (suc d)) (comes_to p input s) =
        subst (λ y. Walk g (comes_to p input s) (way p input inside place known.keep walk s (suc d)) y) same
        (way_leads p input inside place known.keep walk (suc d) s (λ j low le. stays_on j (omega (arith, low)) (high j le))) in
        let avoids : Avoids (ends_stay p inside place) (way p input inside place known.keep walk s (suc d)) =
        way_avoids p input inside place known.keep walk (ends_stay p inside place) (suc d) s
        (λ j low less.
        let there : stays_at (suc j) ≡ true = stays_on (suc j) (omega (arith, low)) (high (suc j) (omega (arith, less))) in
        let begins : from g (passes p input (suc j)).edge ≡ comes_to p input j = walk.leads_on j (runs p input inside place known.keep walk (suc j) there) in
        stays p inside place (passes p input (suc j)).edge (is_inside p input inside place known.keep walk (suc j) there)
        (ap (λ y. is_increment p y) begins ∙ no_increment j (omega (arith, low)) (high j (omega (arith, less))))) in
        let here : inside (comes_to p input s) ≡ true = is_inside p input inside place known.keep walk s (stays_on s (omega arith) (high s (omega arith))) in
        no_cycle p inside place known.shape (comes_to p input s) (passes p input (suc s)).edge (way p input inside place known.keep walk (suc s) d) leads avoids here
        (f.flow.strong (comes_to p input s) (finish p.execs) (f.flow.sound.ends (passes p input s).edge (walk.edges s)) known.shape.end_exists)

  stops_at_last : (n : ℕ) → IsFirst (stop p.loops) n
  stops_at_last n = ⊎_elim
      (λ (some : (m : ℕ) × (n ≤ m) × (stop p.loops m ≡ true)). first_of_one (stop p.loops) n some.0 some.1 some.2)
      (λ (none : (i : ℕ) → n ≤ i → i < n + suc (flow p.execs).graph.nodes → stop p.loops i ≡ false). absurd (no_stay n none))
      (some_or_none (stop p.loops) n (suc (flow p.execs).graph.nodes))

  away : (n : ℕ) → IsFirst (λ i. not (stays_at i)) n
  away n = goes_away p.loops stays_at inc_at count_at (λ k n m few round. falls p input inside place known.keep walk k n m few round) stops_at_last n

  -- ---- how it goes away

  abbrev at : ℕ → PassState
  at j = passes p input j

  module _ (n j : ℕ) (less : n ≤ j) (here : stays_at j ≡ true) (gone : stays_at (suc j) ≡ false) where
    run_is : passes p input (suc j) ≡ after_pass (at j) (line_at p (at j).edge) (pass p input (at j).edge (at j).memory)
    run_is = passed p input inside place known.keep walk j (runs p input inside place known.keep walk j here)

    in_region : IsIn (flow p.execs).graph t r (comes_to p input j)
    in_region = (told (comes_to p input j)).0 (is_inside p input inside place known.keep walk j here)

    later : n + (suc j - n) ≡ suc j
    later = omega (arith, less)

    traps : (trap : Trap) → pass p input (at j).edge (at j).memory ≡ Traps trap → IsLeftBy p input n (exit_of t r)
    traps trap is =
        let does : DoesTrap (pass p input (at j).edge (at j).memory) = subst (λ (x : Passed). DoesTrap x) (sym is) tt in
        absurd (untouched (comes_to p input j) (is_inside p input inside place known.keep walk j here) (marked.traps input j words (runs p input inside place known.keep walk j here) does))

    done : pass p input (at j).edge (at j).memory ≡ Done → IsLeftBy p input n (exit_of t r)
    done is =
        let node : comes_to p input j < g.nodes = f.flow.sound.ends (at j).edge (walk.edges j) in
        let kind : piece_kind p (comes_to p input j) ≡ piece.End = done_at p input (at j).memory (out g (comes_to p input j)) (piece_kind p (comes_to p input j)) (exec_kind p (comes_to p input j)) (known.acts (comes_to p input j) node) is in
        let at_end : comes_to p input j ≡ finish p.execs = (known.shape.end (comes_to p input j) node).0 kind in
        let zero_from : from g 0 ≡ finish p.execs = (known.shape.leaves_end 0 f.flow.some).1 refl in
        let ended : (passes p input (suc j)).mark ≡ Ended = ap (λ (s : PassState). s.mark) run_is ∙ ap (λ (q : Passed). (after_pass (at j) (line_at p (at j).edge) q).mark) is in
        ⊎_elim
        (λ (exit : exit_of t r ≡ 0). record { later = suc j - n; by = inr (exit, ap (λ i. (passes p input i).mark) later ∙ ended) })
        (λ (start : IsIn g t r (to g 0)). absurd (f.start r quiet.number (subst (λ y. IsIn g t r y) f.flow.start start)))
        (goes_on g t f r 0 quiet.number f.flow.some (subst (λ y. IsIn g t r y) (at_end ∙ sym zero_from) in_region))

    along : (e : ℕ) (new : Memory) (text : List ℕ) → pass p input (at j).edge (at j).memory ≡ Along e new text → IsLeftBy p input n (exit_of t r)
    along e new text is =
        let running : (passes p input (suc j)).mark ≡ Running =
        ap (λ (s : PassState). s.mark) run_is ∙ ap (λ (q : Passed). (after_pass (at j) (line_at p (at j).edge) q).mark) is ∙ runs p input inside place known.keep walk j here in
        let begins : from g (passes p input (suc j)).edge ≡ comes_to p input j = walk.leads_on j running in
        let outside : inside (comes_to p input (suc j)) ≡ false = ⊎_elim
        (λ (h : is_running (passes p input (suc j)).mark ≡ false). absurd (false≢true (sym h ∙ ap is_running running)))
        (λ h. h)
        (and_cases (is_running (passes p input (suc j)).mark) (inside (comes_to p input (suc j))) gone) in
        ⊎_elim
        (λ (exit : exit_of t r ≡ (passes p input (suc j)).edge).
        record { later = suc j - n; by = inl (ap (λ i. (passes p input i).mark) later ∙ running, ap (λ i. (passes p input i).edge) later ∙ sym exit) })
        (λ (still : IsIn g t r (comes_to p input (suc j))). absurd (false≢true (sym outside ∙ (told (comes_to p input (suc j))).1 still)))
        (goes_on g t f r (passes p input (suc j)).edge quiet.number (walk.edges (suc j)) (subst (λ y. IsIn g t r y) (sym begins) in_region))

    by_pass : (q : Passed) → pass p input (at j).edge (at j).memory ≡ q → IsLeftBy p input n (exit_of t r)
    by_pass (Along e new text) is = along e new text is
    by_pass (Traps trap) is = traps trap is
    by_pass Done is = done is

    gone_by : IsLeftBy p input n (exit_of t r)
    gone_by = by_pass (pass p input (at j).edge (at j).memory) refl

  pub leaves : (n : ℕ) → (passes p input n).mark ≡ Running → IsIn (flow p.execs).graph t r (comes_to p input n) → IsLeftBy p input n (exit_of t r)
  leaves n running holds =
      let a : IsFirst (λ i. not (stays_at i)) n = away n in
      let here : stays_at n ≡ true = and_from (is_running (passes p input n).mark) (inside (comes_to p input n)) (ap is_running running) ((told (comes_to p input n)).1 holds) in
      last a.at a.later (not-true (stays_at a.at) a.is) (λ i low high. not-false (stays_at i) (a.before i low high)) here
    where
      last : (m : ℕ) → n ≤ m → stays_at m ≡ false → ((i : ℕ) → n ≤ i → i < m → stays_at i ≡ true) → stays_at n ≡ true → IsLeftBy p input n (exit_of t r)
      last zero low gone before here =
          let e : n ≡ 0 = omega (arith, low) in
          absurd (false≢true (sym gone ∙ ap (λ i. stays_at i) (sym e) ∙ here))
      last (suc j) low gone before here = ⊎_elim
          (λ (le : n ≤ j). gone_by n j le (before j le (omega arith)) gone)
          (λ (is : n ≡ suc j). absurd (false≢true (sym gone ∙ ap (λ i. stays_at i) (sym is) ∙ here)))
          (cases n j low)
        where
          cases : (n j : ℕ) → n ≤ suc j → (n ≤ j) ⊎ (n ≡ suc j)
          cases n j low = grind (arith, low)
