-- Control comes to a piece with nodes, or to the end.
use Rattle.std.proofs.Common.{◌≡◌, ℕ, zero, suc, ◌+◌, ◌-◌, ◌<◌, ◌≤◌, ◌⊎◌, ◌&&◌, ◌==◌, Bool, true, false, not, if◌then◌else◌, length, refl, sym, ap, ◌∙◌, subst, inl, inr, ⊎_elim, arith, eqb-true}
use Rattle.std.proofs.lemmas.Bool.{cases_Bool, or_cases, false≢true}
use Rattle.closed_walks.specs.Graph.{edge_count, from, to}
use Rattle.closed_walks.specs.Reaching.{any_below, reaches_within}
use Rattle.cfg_build.specs.declared.pieces.PieceKind.TheVariants as kind
use Rattle.cfg_build.specs.Joined.{is_end, finish}
use Rattle.cfg_build.specs.Passes.{out}
use Rattle.cfg_build.specs.Shape.{leaves_one}
use Rattle.net_board.specs.FlowFacts.{GraphFacts, IsNearEnd}
use Rattle.net_board.specs.ControlCourse.{is_idle, passed, passed_times, passed_by, arrival}
use Rattle.net_board.specs.Nodes.{NetOf, graph_in, kind_in, nodes_by}
use Rattle.net_board.proofs.ControlWays.{idle_leaves_one}
use Rattle.std.proofs.lemmas.Bool.{and_parts}

-- ---- past idle pieces one by one

times_add : (net : NetOf) (a b edge : ℕ) → passed_times net (a + b) edge ≡ passed_times net b (passed_times net a edge)
times_add net zero b edge = ap (λ (n : ℕ). passed_times net n edge) zero_plus
  where
    zero_plus : 0 + b ≡ b
    zero_plus = omega arith
times_add net (suc a) b edge = ap (λ (n : ℕ). passed_times net n edge) suc_plus ∙ times_add net a b (passed net edge)
  where
    suc_plus : suc a + b ≡ suc (a + b)
    suc_plus = omega arith

abbrev doubled : ℕ → ℕ
doubled zero = 1
doubled (suc k) = doubled k + doubled k

by_times : (net : NetOf) (k edge : ℕ) → passed_by k net edge ≡ passed_times net (doubled k) edge
unfolding passed_by
by_times net zero edge = refl
by_times net (suc k) edge =
    by_times net k (passed_by k net edge)
    ∙ ap (passed_times net (doubled k)) (by_times net k edge)
    ∙ sym (times_add net (doubled k) (doubled k) edge)

-- ---- a test of some number

pub record IsOne (k : ℕ) (test : ℕ → Bool) : Type 0 where
  pub one : ℕ
  pub below : one < k
  pub passes : test one ≡ true

one_below : (k : ℕ) (test : ℕ → Bool) → any_below k test ≡ true → IsOne k test
one_below zero test is = absurd (false≢true is)
one_below (suc k) test is = ⊎_elim
    (λ (h : any_below k test ≡ true). let r : IsOne k test = one_below k test h in let low = r.below in record { one = r.one; below = omega (arith, low); passes = r.passes })
    (λ (h : test k ≡ true). record { one = k; below = omega arith; passes = h })
    (or_cases (any_below k test) (test k) is)

module _ (net : NetOf) (graph : GraphFacts net) where
  passed_busy : (edge : ℕ) → is_idle net (to (graph_in net) edge) ≡ false → passed net edge ≡ edge
  passed_busy edge busy = ap (λ (b : Bool). if b then out (graph_in net) (to (graph_in net) edge) 0 else edge) busy

  stays_busy : (n edge : ℕ) → is_idle net (to (graph_in net) edge) ≡ false → passed_times net n edge ≡ edge
  stays_busy zero edge busy = refl
  stays_busy (suc n) edge busy = ap (passed_times net n) (passed_busy edge busy) ∙ stays_busy n edge busy

  abbrev IsBusyAt : ℕ → Type 0
  IsBusyAt edge = is_idle net (to (graph_in net) edge) ≡ false

  end_busy : (edge : ℕ) → edge < edge_count (graph_in net) → to (graph_in net) edge ≡ finish net.program.execs → IsBusyAt edge
  end_busy edge inside is =
      let piece = to (graph_in net) edge in
      let end_kind : kind_in net piece ≡ kind.End = (graph.shape.end piece (graph.heads edge inside)).1 is in
      ap (λ k. (length (nodes_by net piece k) == 0) && not (is_end k)) end_kind ∙ and_false (length (nodes_by net piece kind.End) == 0)
    where
      and_false : (b : Bool) → (b && false) ≡ false
      and_false true = refl
      and_false false = refl

  busy_after : (most n edge : ℕ) → most ≤ n → edge < edge_count (graph_in net) → reaches_within most (graph_in net) (to (graph_in net) edge) (finish net.program.execs) ≡ true → IsBusyAt (passed_times net n edge)
  busy_after zero n edge few inside reached =
      let busy = end_busy edge inside (eqb-true (to (graph_in net) edge) (finish net.program.execs) reached) in
      subst IsBusyAt (sym (stays_busy n edge busy)) busy
  busy_after (suc most) zero edge few inside reached = absurd (omega (arith, few))
  busy_after (suc most) (suc n) edge few inside reached = by (λ next exists within. busy_after most n next (omega (arith, few)) exists within) (cases_Bool (is_idle net (to (graph_in net) edge)))
    where
      on : (next : ℕ) → (next < edge_count (graph_in net) → reaches_within most (graph_in net) (to (graph_in net) next) (finish net.program.execs) ≡ true → IsBusyAt (passed_times net n next)) → IsOne (edge_count (graph_in net)) (λ e. (from (graph_in net) e == to (graph_in net) edge) && reaches_within most (graph_in net) (to (graph_in net) e) (finish net.program.execs)) → is_idle net (to (graph_in net) edge) ≡ true → next ≡ out (graph_in net) (to (graph_in net) edge) 0 → IsBusyAt (passed_times net n next)
      on next later found idle is =
          let piece = to (graph_in net) edge in
          let begins : from (graph_in net) found.one ≡ piece = eqb-true (from (graph_in net) found.one) piece ((and_parts (from (graph_in net) found.one == piece) (reaches_within most (graph_in net) (to (graph_in net) found.one) (finish net.program.execs)) found.passes).0) in
          let within = (and_parts (from (graph_in net) found.one == piece) (reaches_within most (graph_in net) (to (graph_in net) found.one) (finish net.program.execs)) found.passes).1 in
          let one_way : leaves_one (kind_in net (from (graph_in net) found.one)) ≡ true = ap (λ (x : ℕ). leaves_one (kind_in net x)) begins ∙ idle_leaves_one net piece (kind_in net piece) idle in
          let same : found.one ≡ next = graph.one_out found.one found.below one_way ∙ ap (λ (x : ℕ). out (graph_in net) x 0) begins ∙ sym is in
          later (subst (λ (x : ℕ). x < edge_count (graph_in net)) same found.below) (subst (λ (x : ℕ). reaches_within most (graph_in net) (to (graph_in net) x) (finish net.program.execs) ≡ true) same within)

      by : ((next : ℕ) → next < edge_count (graph_in net) → reaches_within most (graph_in net) (to (graph_in net) next) (finish net.program.execs) ≡ true → IsBusyAt (passed_times net n next)) → (is_idle net (to (graph_in net) edge) ≡ true) ⊎ IsBusyAt edge → IsBusyAt (passed_times net (suc n) edge)
      by later (inr busy) = subst IsBusyAt (sym (stays_busy (suc n) edge busy)) busy
      by later (inl idle) = ⊎_elim
          (λ (h : (to (graph_in net) edge == finish net.program.execs) ≡ true).
          let busy = end_busy edge inside (eqb-true (to (graph_in net) edge) (finish net.program.execs) h) in
          subst IsBusyAt (sym (stays_busy (suc n) edge busy)) busy)
          (λ h.
          let found = one_below (edge_count (graph_in net)) (λ e. (from (graph_in net) e == to (graph_in net) edge) && reaches_within most (graph_in net) (to (graph_in net) e) (finish net.program.execs)) h in
          let step : passed net edge ≡ out (graph_in net) (to (graph_in net) edge) 0 = ap (λ (b : Bool). if b then out (graph_in net) (to (graph_in net) edge) 0 else edge) idle in
          on (passed net edge) (later (passed net edge)) found idle step)
          (or_cases (to (graph_in net) edge == finish net.program.execs) (any_below (edge_count (graph_in net)) (λ e. (from (graph_in net) e == to (graph_in net) edge) && reaches_within most (graph_in net) (to (graph_in net) e) (finish net.program.execs))) reached)

  busy_far : (n edge : ℕ) → (graph_in net).nodes ≤ n → edge < edge_count (graph_in net) → IsBusyAt (passed_times net n edge)
  busy_far n edge enough inside =
      let near : IsNearEnd (graph_in net) (to (graph_in net) edge) (finish net.program.execs) = graph.near_end (to (graph_in net) edge) (graph.heads edge inside) in
      let few = near.few in
      busy_after near.most n edge (omega (arith, few, enough)) inside near.reached

  pub arrival_busy : (edge : ℕ) → edge < edge_count (graph_in net) → is_idle net (arrival net edge) ≡ false
  arrival_busy edge inside = busy_far (graph_in net).nodes edge (omega arith) inside

  -- control that comes to a piece with nodes, or to the end, comes no farther
  pub arrived_busy : (n edge : ℕ) → is_idle net (to (graph_in net) edge) ≡ false → passed_times net n edge ≡ edge
  arrived_busy n edge busy = stays_busy n edge busy

  -- nor does it after more pieces than there are
  no_farther : (more edge : ℕ) → edge < edge_count (graph_in net) → passed_times net ((graph_in net).nodes + more) edge ≡ passed_times net (graph_in net).nodes edge
  no_farther more edge inside = times_add net (graph_in net).nodes more edge ∙ stays_busy more (passed_times net (graph_in net).nodes edge) (arrival_busy edge inside)

  far_enough : (n edge : ℕ) → (graph_in net).nodes ≤ n → edge < edge_count (graph_in net) → passed_times net n edge ≡ passed_times net (graph_in net).nodes edge
  far_enough n edge enough inside =
      let split : n ≡ (graph_in net).nodes + (n - (graph_in net).nodes) = omega (arith, enough) in
      ap (λ (k : ℕ). passed_times net k edge) split ∙ no_farther (n - (graph_in net).nodes) edge inside

  -- past an idle piece control comes to the same place
  pub arrival_past : (edge : ℕ) → edge < edge_count (graph_in net) → passed_times net (graph_in net).nodes (passed net edge) ≡ passed_times net (graph_in net).nodes edge
  arrival_past edge inside = far_enough (suc (graph_in net).nodes) edge (omega arith) inside

  doublings_reach : (k edge : ℕ) → 262144 ≤ doubled k → edge < edge_count (graph_in net) → passed_by k net edge ≡ passed_times net (graph_in net).nodes edge
  doublings_reach k edge enough inside =
      let few = graph.few_pieces in
      by_times net k edge ∙ far_enough (doubled k) edge (omega (arith, few, enough)) inside

  -- 18 doublings go past more pieces than there are
  pub arrival_by_doublings : (edge : ℕ) → edge < edge_count (graph_in net) → to (graph_in net) (passed_by 18 net edge) ≡ arrival net edge
  arrival_by_doublings edge inside = ap (to (graph_in net)) (doublings_reach 18 edge (omega arith) inside)
