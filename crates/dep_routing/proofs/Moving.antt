-- A run that leaves the regions that are quiet for the line of output comes to nodes that are free for it.
use Rattle.std.proofs.Common.{◌≡◌, ◌≢◌, ℕ, zero, suc, ◌+◌, ◌<◌, ◌≤◌, ◌⊎◌, ℤ, Bool, List, All, sym, ap, ◌∙◌, subst, inl, inr, ⊎_elim, arith}
use Rattle.op_table.specs.Words.{IsWord}
use Rattle.closed_walks.specs.Graph.{Graph, edge_count, from, to}
use Rattle.f77_tree.specs.declared.programs.Program.{Program}
use Rattle.f77_tree.specs.Run.{Mark, Running, Ended}
use Rattle.cfg_build.specs.Flow.{flow}
use Rattle.cfg_build.specs.Passes.{passes}
use Rattle.region_tree.specs.Tree.{Tree, entry_of, exit_of, IsIn, IsPart}
use Rattle.dep_routing.specs.Facts.{TreeFacts}
use Rattle.dep_routing.specs.Leaving.{KeepsMoving}
use Rattle.dep_routing.specs.Quiet.{IsQuiet, IsFree, IsLargest}
use Rattle.dep_routing.specs.Sound.{comes_to, IsLeftBy}
use Rattle.dep_routing.proofs.Quietness.{edges, not_after, at_exit, comes_in, meet, free_or_largest}

-- the field of sound touches on runs that leave
abbrev pub Leaves : Program → Tree → (ℕ → ℕ → Bool) → Type 0
Leaves p t touches = (input : List ℤ) (n r : ℕ) → All IsWord input → (passes p input n).mark ≡ Running → IsQuiet (flow p.execs).graph t touches 0 r → IsIn (flow p.execs).graph t r (comes_to p input n) → IsLeftBy p input n (exit_of t r)

module _ (p : Program) (t : Tree) (touches : ℕ → ℕ → Bool) (f : TreeFacts (flow p.execs).graph t) (leaves : Leaves p t touches) (input : List ℤ) (words : All IsWord input) (exist : (n : ℕ) → (passes p input n).edge < edge_count (flow p.execs).graph) (no_return : (n : ℕ) → (passes p input n).mark ≡ Running → comes_to p input n ≢ 0) where
  abbrev g : Graph
  g = (flow p.execs).graph

  abbrev rank : ℕ → ℕ
  rank = f.rank.0

  -- a largest quiet region that holds the end of the exit of another is entered by it
  entered : (node q r : ℕ) → IsLargest (flow p.execs).graph t touches 0 node q → IsLargest (flow p.execs).graph t touches 0 (to (flow p.execs).graph (exit_of t q)) r → entry_of t r ≡ exit_of t q
  entered node q r largest next = ⊎_elim
      (λ (is : entry_of t r ≡ exit_of t q). is)
      (λ (inside : IsIn g t r (from g (exit_of t q))). ⊎_elim
      (λ (part : IsPart g t q r).
      let back : IsPart g t r q = largest.largest r next.quiet (part node largest.holds) in
      absurd (not_after g t f q largest.quiet.number (back (to g (exit_of t q)) next.holds)))
      (λ (part : IsPart g t r q). absurd (not_after g t f q largest.quiet.number (part (to g (exit_of t q)) next.holds)))
      (meet g t f q r (from g (exit_of t q)) largest.quiet.number next.quiet.number (at_exit g t f q largest.quiet.number) inside))
      (comes_in g t f r (exit_of t q) next.quiet.number (edges g t f q largest.quiet.number).1 next.holds)

  ended_stops : (mark : Mark) → mark ≡ Ended → mark ≢ Running
  ended_stops mark is running = absurd (no (sym is ∙ running))
    where
      no : Ended ≡ Running → ⊥
      no h = cc

  from_later : (n more : ℕ) → KeepsMoving p t touches input (n + more) → KeepsMoving p t touches input n
  from_later n more k =
      let e : n + (more + k.later) ≡ n + more + k.later = omega arith in
      record {
        later = more + k.later;
        moves = subst (λ i. ((passes p input i).mark ≢ Running) ⊎ ((comes_to p input i ≢ 0) × IsFree g t touches 0 (comes_to p input i))) (sym e) k.moves;
      }

  now : (n : ℕ) → (passes p input n).mark ≡ Running → IsFree (flow p.execs).graph t touches 0 (comes_to p input n) → KeepsMoving p t touches input n
  now n running free = record {
    later = 0;
    moves = inr (subst (λ i. (comes_to p input i ≢ 0) × IsFree g t touches 0 (comes_to p input i)) (let e : n ≡ n + 0 = omega arith in e) (no_return n running, free));
  }

  -- through one region after the other, as ranks rise
  through : (fuel n q : ℕ) → f.rank.1 ≤ f.rank.0 (exit_of t q) + fuel → (passes p input n).mark ≡ Running → IsLargest (flow p.execs).graph t touches 0 (comes_to p input n) q → KeepsMoving p t touches input n
  through zero n q enough running largest =
      let below : rank (exit_of t q) < f.rank.1 = f.rank.2.below (exit_of t q) in
      absurd (omega (arith, below, enough))
  through (suc fuel) n q enough running largest =
      let left : IsLeftBy p input n (exit_of t q) = leaves input n q words running largest.quiet largest.holds in
      let m : ℕ = n + left.later in
      ⊎_elim
      (λ (on : ((passes p input m).mark ≡ Running) × ((passes p input m).edge ≡ exit_of t q)).
      let at : comes_to p input m ≡ to g (exit_of t q) = ap (λ e. to g e) on.1 in
      from_later n left.later (⊎_elim
      (λ (free : IsFree g t touches 0 (comes_to p input m)). now m on.0 free)
      (λ (some : (r : ℕ) × IsLargest g t touches 0 (comes_to p input m) r).
      let is_entry : entry_of t some.0 ≡ exit_of t q = entered (comes_to p input n) q some.0 largest (subst (λ y. IsLargest g t touches 0 y some.0) at some.1) in
      let rises : rank (entry_of t some.0) < rank (exit_of t some.0) = f.rank.2.through some.0 some.1.quiet.number in
      let same : rank (entry_of t some.0) ≡ rank (exit_of t q) = ap rank is_entry in
      through fuel m some.0 (omega (arith, rises, same, enough)) on.0 some.1)
      (free_or_largest g t f touches 0 (comes_to p input m) (f.flow.sound.ends (passes p input m).edge (exist m)))))
      (λ (out : (exit_of t q ≡ 0) × ((passes p input m).mark ≡ Ended)). let k : KeepsMoving p t touches input n = record { later = left.later; moves = inl (ended_stops (passes p input m).mark out.1) } in k)
      left.by

  pub keeps_moving : (n : ℕ) → (passes p input n).mark ≡ Running → KeepsMoving p t touches input n
  keeps_moving n running = ⊎_elim
      (λ (free : IsFree g t touches 0 (comes_to p input n)). now n running free)
      (λ (some : (q : ℕ) × IsLargest g t touches 0 (comes_to p input n) q). through f.rank.1 n some.0 (omega arith) running some.1)
      (free_or_largest g t f touches 0 (comes_to p input n) (f.flow.sound.ends (passes p input n).edge (exist n)))
