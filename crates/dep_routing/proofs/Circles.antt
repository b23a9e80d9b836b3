-- In a region that is quiet for the line of output no way leads from the test of a DO back to it but by an increment of that DO, or of
-- one that begins before it.
use Rattle.std.proofs.Common.{◌≡◌, ◌≢◌, ℕ, suc, ◌<◌, ◌≤◌, ◌⊎◌, Bool, true, false, ◌||◌, not, ◌==◌, List, [], ◌∷◌, ◌++◌, Option, Some, None, slice_get, refl, sym, ap, ◌∙◌, subst, inl, inr, ⊎_elim, arith}
use Rattle.std.proofs.lemmas.Bool.{cases_Bool, cases_lt, or_parts, or_from, not-false, eqb-true, eq-eqb, false≢true, ne_eqb}
use Rattle.closed_walks.specs.Cycling.{IsOnCycle}
use Rattle.closed_walks.specs.Graph.{Graph, IsGraph, edge_count, from, to}
use Rattle.closed_walks.specs.Reaching.{any_below}
use Rattle.closed_walks.specs.Walk.{Walk, Avoids, Reach}
use Rattle.f77_tree.specs.declared.programs.Exec.{Exec}
use Rattle.f77_tree.specs.declared.programs.ExecKind.{ExecKind}
use Rattle.f77_tree.specs.declared.programs.ExecKind.TheVariants as exec
use Rattle.f77_tree.specs.declared.programs.Program.{Program}
use Rattle.f77_tree.specs.Loops.{Loop, incremented, incremented_in, incremented_at, is_number, do_start, do_next, IsLoop, AreLoops}
use Rattle.cfg_build.specs.declared.pieces.PieceKind.{PieceKind}
use Rattle.cfg_build.specs.declared.pieces.PieceKind.TheVariants as piece
use Rattle.cfg_build.specs.Flow.{flow}
use Rattle.cfg_build.specs.Passes.{kind_in}
use Rattle.cfg_build.specs.Shape.{kind_at}
use Rattle.cfg_build.specs.Zones.{exec_at, IsInBody, test_of, IsTest, IsPlain, IsWayIn, IsJoinOfTest, IsAtTest}
use Rattle.dep_routing.specs.Touches.{piece_kind, exec_kind, is_increment_kind, is_increment, ends_rounds}
use Rattle.dep_routing.proofs.Rounds.{none_passes}

-- ---- walks

Walk-last : (g : Graph) (u x : ℕ) (w : List ℕ) (d : ℕ) → Walk g u w x → d < edge_count g → from g d ≡ x → Walk g u (w ++ d ∷ []) (to g d)
Walk-last g u x [] d leads edge begins = (edge, begins ∙ sym leads, refl)
Walk-last g u x (e ∷ w) d leads edge begins = (leads.0, leads.1, Walk-last g (to g e) x w d leads.2 edge begins)

Avoids-last : (avoided : ℕ → Bool) (w : List ℕ) (d : ℕ) → Avoids avoided w → avoided d ≡ false → Avoids avoided (w ++ d ∷ [])
Avoids-last avoided [] d avoids other = (other, tt)
Avoids-last avoided (e ∷ w) d avoids other = (avoids.0, Avoids-last avoided w d avoids.1 other)

reach_last : (g : Graph) (avoided : ℕ → Bool) (u x d : ℕ) → Reach g avoided u x → d < edge_count g → from g d ≡ x → avoided d ≡ false → Reach g avoided u (to g d)
reach_last g avoided u x d r edge begins other = record { walk = r.walk ++ d ∷ []; leads = Walk-last g u x r.walk d r.leads edge begins; avoids = Avoids-last avoided r.walk d r.avoids other }

pub Avoids-fewer : (avoided fewer : ℕ → Bool) (w : List ℕ) → ((e : ℕ) → avoided e ≡ false → fewer e ≡ false) → Avoids avoided w → Avoids fewer w
Avoids-fewer avoided fewer [] weaker avoids = tt
Avoids-fewer avoided fewer (e ∷ w) weaker avoids = (weaker e avoids.0, Avoids-fewer avoided fewer w weaker avoids.1)

-- ---- increments

abbrev pub loop_of : PieceKind → ExecKind → Option Loop
loop_of piece.Act kind = incremented kind
loop_of _ kind = None

-- the piece increments the DO k
abbrev pub increments : Program → (k node : ℕ) → Bool
increments p k node = is_number k (loop_of (piece_kind p node) (exec_kind p node))

pub record IsIncrement (p : Program) (k node : ℕ) : Type 0 where
  pub kind : piece_kind p node ≡ piece.Act
  pub loop : Loop
  pub is : incremented_at p.execs (exec_at (flow p.execs) node) ≡ Some loop
  pub number : loop.number ≡ k

loop_in : (e : Option Exec) → incremented (kind_in e) ≡ incremented_in e
loop_in None = refl
loop_in (Some e) = refl

pub increment_is : (p : Program) (k node : ℕ) → increments p k node ≡ true → IsIncrement p k node
increment_is p k node h = of (piece_kind p node) refl (slice_get p.execs (exec_at (flow p.execs) node)) refl h
  where
    found : (kind : PieceKind) → piece_kind p node ≡ kind → kind ≡ piece.Act → (e : Option Exec) → slice_get p.execs (exec_at (flow p.execs) node) ≡ e → (l : Option Loop) → incremented_in e ≡ l → is_number k l ≡ true → IsIncrement p k node
    found kind is act e at None inc h = absurd (false≢true h)
    found kind is act e at (Some loop) inc h = record { kind = is ∙ act; loop = loop; is = ap incremented_in at ∙ inc; number = eqb-true loop.number k h }

    of : (kind : PieceKind) → piece_kind p node ≡ kind → (e : Option Exec) → slice_get p.execs (exec_at (flow p.execs) node) ≡ e → is_number k (loop_of (piece_kind p node) (exec_kind p node)) ≡ true → IsIncrement p k node
    of piece.Act is e at h = found piece.Act is refl e at (incremented_in e) refl (sym (ap (λ x. is_number k (loop_of x (exec_kind p node))) is ∙ ap (λ x. is_number k x) (loop_in (slice_get p.execs (exec_at (flow p.execs) node)) ∙ ap incremented_in at)) ∙ h)
    of piece.Start is e at h = absurd (false≢true (sym (ap (λ x. is_number k (loop_of x (exec_kind p node))) is) ∙ h))
    of piece.Pass is e at h = absurd (false≢true (sym (ap (λ x. is_number k (loop_of x (exec_kind p node))) is) ∙ h))
    of piece.Branch is e at h = absurd (false≢true (sym (ap (λ x. is_number k (loop_of x (exec_kind p node))) is) ∙ h))
    of piece.Join is e at h = absurd (false≢true (sym (ap (λ x. is_number k (loop_of x (exec_kind p node))) is) ∙ h))
    of piece.Hold is e at h = absurd (false≢true (sym (ap (λ x. is_number k (loop_of x (exec_kind p node))) is) ∙ h))
    of piece.End is e at h = absurd (false≢true (sym (ap (λ x. is_number k (loop_of x (exec_kind p node))) is) ∙ h))

-- a piece that increments some DO increments one with a number
some_loop : (kind : PieceKind) (e : ExecKind) → is_increment_kind kind e ≡ true → (loop : Loop) × (loop_of kind e ≡ Some loop)
some_loop piece.Act (exec.DoNext loop_no var body exit) h = (record { number = loop_no; variable = var; body = body; exit = exit }, refl)
some_loop piece.Act (exec.Assign target value next) h = absurd (false≢true h)
some_loop piece.Act (exec.Print items next) h = absurd (false≢true h)
some_loop piece.Act (exec.Pass next) h = absurd (false≢true h)
some_loop piece.Act (exec.Test c a b) h = absurd (false≢true h)
some_loop piece.Act (exec.Sign v a b c) h = absurd (false≢true h)
some_loop piece.Act (exec.Pick v targets other) h = absurd (false≢true h)
some_loop piece.Act (exec.DoStart loop_no var first last step body exit) h = absurd (false≢true h)
some_loop piece.Act exec.End h = absurd (false≢true h)
some_loop piece.Start e h = absurd (false≢true h)
some_loop piece.Pass e h = absurd (false≢true h)
some_loop piece.Branch e h = absurd (false≢true h)
some_loop piece.Join e h = absurd (false≢true h)
some_loop piece.Hold e h = absurd (false≢true h)
some_loop piece.End e h = absurd (false≢true h)

pub some_increment : (p : Program) → AreLoops p.execs p.loops → (node : ℕ) → is_increment p node ≡ true → (k : ℕ) × (k < p.loops) × (increments p k node ≡ true)
some_increment p loops node h =
    let r = some_loop (piece_kind p node) (exec_kind p node) h in
    let inc : increments p r.0.number node ≡ true = ap (λ x. is_number r.0.number x) r.1 ∙ eq-eqb r.0.number r.0.number refl in
    let i : IsIncrement p r.0.number node = increment_is p r.0.number node inc in
    let few : i.loop.number < p.loops = loops.nexts (exec_at (flow p.execs) node) i.loop i.is in
    (r.0.number, omega (arith, few, i.number), inc)

-- ---- a place where a run may stay

abbrev pub Enters : Program → Type 0
Enters p = (n e : ℕ) → n < p.loops → IsPlain (flow p.execs) e → (IsInBody p.execs n (from (flow p.execs).graph e) → ⊥) → IsInBody p.execs n (to (flow p.execs).graph e) → IsWayIn p.execs n e

abbrev pub Returns : Program → Type 0
Returns p = (e : ℕ) (loop : Loop) → IsPlain (flow p.execs) e → kind_at (flow p.execs) (from (flow p.execs).graph e) ≡ piece.Act → incremented_at p.execs (exec_at (flow p.execs) (from (flow p.execs).graph e)) ≡ Some loop → IsAtTest p.execs loop.number (to (flow p.execs).graph e)

-- Pieces among which there is neither the start nor a hold, nor a branch on a cycle that lowers no count.
pub record IsPlace (p : Program) (inside : ℕ → Bool) : Type 0 where
  pub loops : AreLoops p.execs p.loops
  pub enters : Enters p
  pub returns : Returns p
  pub sound : IsGraph (flow p.execs).graph
  pub back : to (flow p.execs).graph 0 ≡ 0
  pub no_start : inside 0 ≡ false
  pub no_holds : (node : ℕ) → node < (flow p.execs).graph.nodes → inside node ≡ true → piece_kind p node ≢ piece.Hold
  pub no_rounds : (node : ℕ) → node < (flow p.execs).graph.nodes → inside node ≡ true → piece_kind p node ≡ piece.Branch → IsOnCycle (flow p.execs).graph (ends_rounds p) node → ⊥

module _ (p : Program) (inside : ℕ → Bool) (place : IsPlace p inside) where
  abbrev g : Graph
  g = (flow p.execs).graph

  -- the increment of a DO lies in its range
  pub increment_inside : (k node : ℕ) → IsIncrement p k node → (k < p.loops) × IsInBody p.execs k node
  increment_inside k node i =
      let few : i.loop.number < p.loops = place.loops.nexts (exec_at (flow p.execs) node) i.loop i.is in
      let k_few : k < p.loops = omega (arith, few, i.number) in
      let l : IsLoop p.execs k = place.loops.each k k_few in
      let at : exec_at (flow p.execs) node ≡ do_next p.execs k = l.one_next (exec_at (flow p.execs) node) i.loop i.is i.number in
      (k_few, record { after_start = omega (arith, at, l.later); up_to_next = omega (arith, at) })

  pub plain : (e : ℕ) → e < edge_count (flow p.execs).graph → inside (from (flow p.execs).graph e) ≡ true → inside (to (flow p.execs).graph e) ≡ true → IsPlain (flow p.execs) e
  plain e edge begins ends = record {
    exists = edge;
    leaves = place.no_holds (from g e) (place.sound.begins e edge) begins;
    leads = place.no_holds (to g e) (place.sound.ends e edge) ends;
  }

  not_back : (e : ℕ) → inside (to (flow p.execs).graph e) ≡ true → (e == 0) ≡ false
  not_back e ends = ne_eqb e 0 (λ (z : e ≡ 0). false≢true (sym (ap inside (ap (λ x. to g x) z ∙ place.back) ∙ place.no_start) ∙ ends))

  -- edges that end rounds, or leave the place
  abbrev pub ends_stay : ℕ → Bool
  ends_stay e = ends_rounds p e || not (inside (to (flow p.execs).graph e))

  pub stays : (e : ℕ) → inside (to (flow p.execs).graph e) ≡ true → is_increment p (from (flow p.execs).graph e) ≡ false → ends_stay e ≡ false
  stays e ends other = or_from (ends_rounds p e) (not (inside (to g e))) (or_from (e == 0) (is_increment p (from g e)) (not_back e ends) other) (ap not ends)

  -- what comes into a range comes by its test
  entering : (n : ℕ) → n < p.loops → (w : List ℕ) (v z : ℕ) → Walk (flow p.execs).graph v w z → Avoids ends_stay w → inside v ≡ true → (IsInBody p.execs n v → ⊥) → IsInBody p.execs n z → Reach (flow p.execs).graph ends_stay v (test_of p.execs n)
  entering n few [] v z leads avoids here outside there = absurd (outside (subst (λ x. IsInBody p.execs n x) (sym leads) there))
  entering n few (e ∷ w) v z leads avoids here outside there =
      let ends : inside (to g e) ≡ true = not-false (inside (to g e)) (or_parts (ends_rounds p e) (not (inside (to g e))) avoids.0).1 in
      let begins : inside (from g e) ≡ true = ap inside leads.1 ∙ here in
      ⊎_elim
      (λ (within : IsInBody p.execs n (to g e)).
      let way : IsWayIn p.execs n e = place.enters n e few (plain e leads.0 begins ends) (λ (b : IsInBody p.execs n (from g e)). outside (subst (λ x. IsInBody p.execs n x) leads.1 b)) within in
      let r : Reach g ends_stay v (test_of p.execs n) = record { walk = []; leads = sym leads.1 ∙ way.test.at; avoids = tt } in r)
      (λ (not_yet : IsInBody p.execs n (to g e) → ⊥).
      let r : Reach g ends_stay (to g e) (test_of p.execs n) = entering n few w (to g e) z leads.2 avoids.1 ends not_yet there in
      let more : Reach g ends_stay v (test_of p.execs n) = record { walk = e ∷ r.walk; leads = (leads.0, leads.1, r.leads); avoids = (avoids.0, r.avoids) } in more)
      (cases_body n (to g e))
    where
      cases_body : (n x : ℕ) → IsInBody p.execs n x ⊎ (IsInBody p.execs n x → ⊥)
      cases_body n x = ⊎_elim
          (λ (h : do_start p.execs n < exec_at (flow p.execs) x). ⊎_elim
          (λ (l : do_next p.execs n < exec_at (flow p.execs) x). inr (λ (r : IsInBody p.execs n x). omega (arith, r.up_to_next, l)))
          (λ (l : exec_at (flow p.execs) x ≤ do_next p.execs n). inl (record { after_start = h; up_to_next = l }))
          (cases_lt (do_next p.execs n) (exec_at (flow p.execs) x)))
          (λ (h : exec_at (flow p.execs) x ≤ do_start p.execs n). inr (λ (r : IsInBody p.execs n x). omega (arith, r.after_start, h)))
          (cases_lt (do_start p.execs n) (exec_at (flow p.execs) x))

  -- edges that leave the place, or increments of the DOs up to k
  abbrev pub bars : (k : ℕ) → ℕ → Bool
  bars k e = not (inside (to (flow p.execs).graph e)) || any_below (suc k) (λ j. increments p j (from (flow p.execs).graph e))

  module _ (k v : ℕ) (fresh : (n : ℕ) → k < n → n < p.loops → IsInBody p.execs n v → ⊥) (here : inside v ≡ true) where
    -- without increments one comes where one came with them
    pub record IsCome (node : ℕ) : Type 0 where
      pub y : ℕ
      pub reach : Reach (flow p.execs).graph ends_stay v y
      pub lands : (node ≡ y) ⊎ ((piece_kind p node ≡ piece.Join) × ((e : ℕ) → IsPlain (flow p.execs) e → from (flow p.execs).graph e ≡ node → to (flow p.execs).graph e ≡ y))

    module _ (d : ℕ) (edge : d < edge_count (flow p.execs).graph) (at : inside (from (flow p.execs).graph d) ≡ true) (ends : inside (to (flow p.execs).graph d) ≡ true) (high : (j : ℕ) → j < suc k → increments p j (from (flow p.execs).graph d) ≡ false) where
      abbrev z : ℕ
      z = from (flow p.execs).graph d

      d_plain : IsPlain (flow p.execs) d
      d_plain = plain d edge at ends

      by_increment : (n : ℕ) → IsIncrement p n z → k < n → Reach (flow p.execs).graph ends_stay v z → IsCome (to (flow p.execs).graph d)
      by_increment n i more r =
          let b = increment_inside n z i in
          let reach : Reach g ends_stay v (test_of p.execs n) = entering n b.0 r.walk v z r.leads r.avoids here (fresh n more b.0) b.1 in
          let at_test : IsAtTest p.execs n (to g d) = subst (λ m. IsAtTest p.execs m (to g d)) i.number (place.returns d i.loop d_plain i.kind i.is) in
          ⊎_elim
          (λ (t : IsTest p.execs n (to g d)). record { y = test_of p.execs n; reach = reach; lands = inl t.at })
          (λ (t : IsJoinOfTest p.execs n (to g d)). record { y = test_of p.execs n; reach = reach; lands = inr (t.kind, λ e e_plain begins. (t.leads e e_plain begins).at) })
          at_test

      along : Reach (flow p.execs).graph ends_stay v z → IsCome (to (flow p.execs).graph d)
      along r = ⊎_elim
          (λ (inc : is_increment p z ≡ true).
          let i = some_increment p place.loops z inc in
          ⊎_elim
          (λ (low : i.0 < suc k). absurd (false≢true (sym (high i.0 low) ∙ i.2)))
          (λ (more : suc k ≤ i.0). by_increment i.0 (increment_is p i.0 z i.2) (omega (arith, more)) r)
          (cases_lt i.0 (suc k)))
          (λ (other : is_increment p z ≡ false). record { y = to g d; reach = reach_last g ends_stay v z d r edge refl (stays d ends other); lands = inl refl })
          (cases_Bool (is_increment p z))

      one_more : IsCome z → IsCome (to (flow p.execs).graph d)
      one_more c = ⊎_elim
          (λ (same : z ≡ c.y). along (subst (λ x. Reach g ends_stay v x) (sym same) c.reach))
          (λ (join : (piece_kind p z ≡ piece.Join) × ((e : ℕ) → IsPlain (flow p.execs) e → from g e ≡ z → to g e ≡ c.y)). record { y = c.y; reach = c.reach; lands = inl (join.1 d d_plain refl) })
          c.lands

    come : (w : List ℕ) (z u : ℕ) → Walk (flow p.execs).graph z w u → Avoids (bars k) w → inside z ≡ true → IsCome z → IsCome u
    come [] z u leads avoids at c = subst (λ x. IsCome x) leads c
    come (d ∷ w) z u leads avoids at c =
        let both = or_parts (not (inside (to g d))) (any_below (suc k) (λ j. increments p j (from g d))) avoids.0 in
        let ends : inside (to g d) ≡ true = not-false (inside (to g d)) both.0 in
        let high : (j : ℕ) → j < suc k → increments p j (from g d) ≡ false = λ j less. none_passes (λ x. increments p x (from g d)) (suc k) j both.1 less in
        come w (to g d) u leads.2 avoids.1 ends
        (one_more d leads.0 (ap inside leads.1 ∙ at) ends high (subst (λ x. IsCome x) (sym leads.1) c))

  -- there is no way back to the test
  pub no_circle : (k v : ℕ) → k < p.loops → IsTest p.execs k v → inside v ≡ true → (d : ℕ) (w : List ℕ) → Walk (flow p.execs).graph v (d ∷ w) v → Avoids (bars k) (d ∷ w) → ⊥
  no_circle k v few test here d w leads avoids =
      let both = or_parts (not (inside (to g d))) (any_below (suc k) (λ j. increments p j (from g d))) avoids.0 in
      let ends : inside (to g d) ≡ true = not-false (inside (to g d)) both.0 in
      let begins : inside (from g d) ≡ true = ap inside leads.1 ∙ here in
      let r : IsCome k (to g d) (fresh ends begins) ends v = come k (to g d) (fresh ends begins) ends w (to g d) v leads.2 avoids.1 ends (record { y = to g d; reach = record { walk = []; leads = refl; avoids = tt }; lands = inl refl }) in
      ⊎_elim
      (λ (same : v ≡ r.y).
      let node : v < g.nodes = subst (λ x. x < g.nodes) leads.1 (place.sound.begins d leads.0) in
      place.no_rounds v node here test.kind (record {
        first = d;
        rest = r.reach.walk;
        closed = (leads.0, leads.1, subst (λ x. Walk g (to g d) r.reach.walk x) (sym same) r.reach.leads);
        avoids = (
          or_from (d == 0) (is_increment p (from g d)) (not_back d ends) (ap (λ x. is_increment p x) leads.1 ∙ ap (λ kind. is_increment_kind kind (exec_kind p v)) test.kind),
          Avoids-fewer ends_stay (ends_rounds p) r.reach.walk (λ e h. (or_parts (ends_rounds p e) (not (inside (to g e))) h).0) r.reach.avoids,
        );
      }))
      (λ (join : (piece_kind p v ≡ piece.Join) × ((e : ℕ) → IsPlain (flow p.execs) e → from g e ≡ v → to g e ≡ r.y)). branch_join (sym test.kind ∙ join.0))
      r.lands
    where
      branch_join : piece.Branch ≡ piece.Join → ⊥
      branch_join h = cc

      fresh : inside (to g d) ≡ true → inside (from g d) ≡ true → (n : ℕ) → k < n → n < p.loops → IsInBody p.execs n (to g d) → ⊥
      fresh ends begins n more n_few within =
          let rises : do_start p.execs k < do_start p.execs n = place.loops.rising k n more n_few in
          let at : exec_at (flow p.execs) (from g d) ≡ do_start p.execs k = ap (λ x. exec_at (flow p.execs) x) leads.1 ∙ test.exec in
          let way : IsWayIn p.execs n d = place.enters n d n_few (plain d leads.0 begins ends) (λ (b : IsInBody p.execs n (from g d)). let low : do_start p.execs n < exec_at (flow p.execs) (from g d) = b.after_start in omega (arith, low, at, rises)) within in
          let there : exec_at (flow p.execs) (from g d) ≡ do_start p.execs n = way.test.exec in
          omega (arith, at, there, rises)
