-- The end of a component in a walk: its nodes are on cycles, or it is one node without a loop.
use Rattle.std.proofs.Common.{◌≡◌, ◌≢◌, ℕ, ◌+◌, ◌<◌, ◌≤◌, ◌⊎◌, ◌↔◌, Bool, true, false, List, [], ◌∷◌, length, get_or, take, drop, refl, sym, ap, ◌∙◌, subst, inl, inr, ⊎_elim, arith}
use Rattle.std.proofs.lemmas.Bool.{cases_eq, cases_lt}
use Rattle.std.proofs.lemmas.List.{get_or-take, length-take-le}
use Rattle.closed_walks.specs.Graph.{Graph, from, to}
use Rattle.closed_walks.specs.Walk.{Walk, Avoids, Holds, Reach}
use Rattle.closed_walks.specs.Search.{is_visited, Nothing}
use Rattle.closed_walks.specs.Cycling.{IsOnCycle}
use Rattle.closed_walks.specs.Component.{IsOrdered, IsLast, IsSettled, IsFree, HasEdge, IsState, stage_of, place, stands_from, AreDone}
use Rattle.closed_walks.specs.declared.component_walk.Stage.{Stage}
use Rattle.closed_walks.specs.declared.component_walk.Stage.TheVariants.{Member, Done}
use Rattle.closed_walks.proofs.Walks.{Holds-left, cases_Holds, Walk-append, Avoids-append}
use Rattle.closed_walks.proofs.Reaching.{kept}
use Rattle.closed_walks.proofs.Stages.{Holds-last, Holds-new, Holds-from, StandsFrom, from-Holds, IsOrdered-prefix, IsOrdered-across, IsOrdered-along, bounds_below, Member-same, Member-done, stands-below, settled_cases, settled_member, settled_done}
use Rattle.closed_walks.proofs.Components.{Reach-ends}

-- the members from the place on are two or more, or the one has a loop
abbrev pub Turns : Graph → (ℕ → Bool) → List ℕ → ℕ → Type 0
Turns g avoided members first = (first + 1 < length members) ⊎ HasEdge g avoided (get_or members first 0) (get_or members first 0)

-- two nodes that reach one another are on cycles
cycle_through : (g : Graph) (avoided : ℕ → Bool) (u v : ℕ) → u ≢ v → (w x : List ℕ) → Walk g u w v → Avoids avoided w → Walk g v x u → Avoids avoided x → IsOnCycle g avoided u
cycle_through g avoided u v apart [] x there free back free_back = absurd (apart there)
cycle_through g avoided u v apart (e ∷ w) x there free back free_back =
    grind (arith, Walk-append g u v u (e ∷ w) x there back, Avoids-append avoided (e ∷ w) x free free_back)

module _ (g : Graph) (avoided : ℕ → Bool) (stages : List Stage) (marks : List Bool) (members bounds pending : List ℕ) (s : IsState g avoided Nothing stages marks members bounds pending) where
  -- all that is reached from a node that is done is done
  done_on : (u v : ℕ) → Reach g avoided u v → stage_of stages u ≡ Done → stage_of stages v ≡ Done
  done_on u v way is = kept g avoided (λ n. stage_of stages n ≡ Done) (λ e exists free here. s.done e (record { exists = exists; free = free }) here) u v way is

  module _ (first : ℕ) (l : IsLast bounds first) (scanned : (e : ℕ) → Holds pending e → stands_from (stage_of stages (from g e)) first ≡ false) where
    holds_first : Holds bounds first
    holds_first = subst (λ xs. Holds xs first) (sym l.parts) (Holds-new l.prefix first)

    pub in_first : first < length members
    in_first = s.within first holds_first

    -- the edges of the members of the last segment are settled
    settled_edge : (e p : ℕ) → IsFree g avoided e → stage_of stages (from g e) ≡ Member p → first ≤ p → IsSettled bounds p (stage_of stages (to g e))
    settled_edge e p free is after = grind (arith, stands-below (stage_of stages (from g e)) p first is)

    in_last : (p q : ℕ) → first ≤ p → first ≤ q → p < length members → q < length members → Reach g avoided (get_or members p 0) (get_or members q 0)
    in_last p q after_p after_q in_p in_q = grind (arith, bounds_below bounds l.prefix first)

    -- two nodes of the segment reach one another
    cycle_of_two : (p q : ℕ) → p ≢ q → first ≤ p → first ≤ q → p < length members → q < length members → IsOnCycle g avoided (get_or members p 0)
    cycle_of_two p q apart after_p after_q in_p in_q =
        grind (arith, in_last p q after_p after_q in_p in_q, in_last q p after_q after_p in_q in_p, cycle_through g avoided (get_or members p 0) (get_or members q 0), Member-same p q)

    cycle_of_loop : HasEdge g avoided (get_or members first 0) (get_or members first 0) → IsOnCycle g avoided (get_or members first 0)
    cycle_of_loop h = record { first = h.edge; rest = []; closed = (h.free.exists, h.begins, h.ends); avoids = (h.free.free, tt) }

    cycle_of : (p : ℕ) → first ≤ p → p < length members → Turns g avoided members first → IsOnCycle g avoided (get_or members p 0)
    cycle_of p after in_p turns = ⊎_elim
        (λ (same : p ≡ first). ⊎_elim
        (λ (many : first + 1 < length members). cycle_of_two p (first + 1) (omega (arith, same)) after (omega arith) in_p many)
        (λ loops. subst (λ x. IsOnCycle g avoided (get_or members x 0)) (sym same) (cycle_of_loop loops))
        turns)
        (λ (apart : p ≢ first). cycle_of_two p first apart after (omega arith) in_p in_first)
        (cases_eq p first)

    turns_of : (p : ℕ) → first ≤ p → p < length members → IsOnCycle g avoided (get_or members p 0) → Turns g avoided members first
    turns_of p after in_p c = ⊎_elim
        (λ (many : first + 1 < length members). inl many)
        (λ (one : length members ≤ first + 1).
        let e = c.first in
        let free : IsFree g avoided e = record { exists = c.closed.0; free = c.avoids.0 } in
        let is : stage_of stages (from g e) ≡ Member p = ap (stage_of stages) c.closed.1 ∙ s.stage_at p in_p in
        let alone : (q : ℕ) → first ≤ q → q < length members → q ≡ first = λ q low high. omega (arith, low, high, one) in
        ⊎_elim
        (λ (ends : stage_of stages (to g e) ≡ Done).
        let here : stage_of stages (get_or members p 0) ≡ Done = done_on (to g e) (get_or members p 0) (record { walk = c.rest; leads = c.closed.2; avoids = c.avoids.1 }) ends in
        absurd (Member-done (stage_of stages (get_or members p 0)) p here (s.stage_at p in_p)))
        (λ ends.
        let q = place (stage_of stages (to g e)) in
        let high : first ≤ q = ends.1 first holds_first after in
        let at = s.placed (to g e) q ends.0 in
        inr (record {
          edge = e;
          free = free;
          begins = c.closed.1 ∙ ap (λ x. get_or members x 0) (alone p after in_p);
          ends = sym at.1 ∙ ap (λ x. get_or members x 0) (alone q high at.0);
        }))
        (settled_cases bounds p (stage_of stages (to g e)) (settled_edge e p free is after)))
        (cases_lt (first + 1) (length members))

    module _ (on_cycle : Bool) (on : (on_cycle ≡ true) ↔ Turns g avoided members first) (new_stages : List Stage) (new_marks : List Bool) (d : AreDone (drop first members) on_cycle stages marks new_stages new_marks) where
      gone : (v p : ℕ) → stage_of stages v ≡ Member p → first ≤ p → Holds (drop first members) v
      gone v p is after = let at = s.placed v p is in subst (λ x. Holds (drop first members) x) at.1 (Holds-from members first p after at.0)

      gone_at : (v : ℕ) (h : StandsFrom members first v) → stage_of stages v ≡ Member h.at
      gone_at v h = ap (stage_of stages) (sym h.is) ∙ s.stage_at h.at h.within

      stays : (v p : ℕ) → stage_of stages v ≡ Member p → p < first → stage_of new_stages v ≡ Member p
      stays v p is low = grind (arith, from-Holds members first v, Member-same p, gone_at v)

      done_stays : (v : ℕ) → stage_of stages v ≡ Done → stage_of new_stages v ≡ Done
      done_stays v is = ⊎_elim (λ holds. d.done v holds) (λ none. d.other_stage v none ∙ is) (cases_Holds (drop first members) v)

      was_member : (v p : ℕ) → stage_of new_stages v ≡ Member p → (stage_of stages v ≡ Member p) × (p < first)
      was_member v p is = grind (arith, Member-done (stage_of new_stages v), gone v)

      size : length (take first members) ≡ first
      size = length-take-le first members (omega (arith, in_first))

      at_old : (p : ℕ) → p < first → get_or (take first members) p 0 ≡ get_or members p 0
      at_old p low = get_or-take first members p 0 low

      begins_old : (e : ℕ) → Holds pending e → stage_of new_stages (from g e) ≡ stage_of stages (from g e)
      begins_old e holds = search (stays, stands-below, arith)

      settled_end : (e p : ℕ) → IsFree g avoided e → stage_of new_stages (from g e) ≡ Member p → Holds pending e ⊎ (IsSettled l.prefix p (stage_of new_stages (to g e)) ⊎ Nothing e)
      settled_end e p free is =
          let old = was_member (from g e) p is in
          ⊎_elim
          (λ holds. inl holds)
          (⊎_elim
          (λ h. inr (inl (⊎_elim
          (λ ends. settled_done l.prefix p (stage_of new_stages (to g e)) (done_stays (to g e) ends))
          (λ ends. ⊎_elim
          (λ (low : place (stage_of stages (to g e)) < first).
          settled_member l.prefix p (place (stage_of stages (to g e))) (stage_of new_stages (to g e)) (stays (to g e) (place (stage_of stages (to g e))) ends.0 low)
          (λ b holds below. ends.1 b (subst (λ xs. Holds xs b) (sym l.parts) (Holds-left l.prefix (first ∷ []) b holds)) below))
          (λ (after : first ≤ place (stage_of stages (to g e))). settled_done l.prefix p (stage_of new_stages (to g e)) (d.done (to g e) (gone (to g e) (place (stage_of stages (to g e))) ends.0 after)))
          (cases_lt (place (stage_of stages (to g e))) first))
          (settled_cases bounds p (stage_of stages (to g e)) h))))
          (λ none. absurd none))
          (s.settled e p free old.0)

      done_end : (e : ℕ) → IsFree g avoided e → stage_of new_stages (from g e) ≡ Done → stage_of new_stages (to g e) ≡ Done
      done_end e free is = ⊎_elim
          (λ holds.
          let h : StandsFrom members first (from g e) = from-Holds members first (from g e) holds in
          ⊎_elim
          (λ ends. done_stays (to g e) ends)
          (λ ends. d.done (to g e) (gone (to g e) (place (stage_of stages (to g e))) ends.0 (ends.1 first holds_first h.after)))
          (settled_cases bounds h.at (stage_of stages (to g e)) (settled_edge e h.at free (gone_at (from g e) h) h.after)))
          (λ none. done_stays (to g e) (s.done e free (sym (d.other_stage (from g e) none) ∙ is)))
          (cases_Holds (drop first members) (from g e))

      told_end : (v : ℕ) → stage_of new_stages v ≡ Done → (is_visited new_marks v ≡ true) ↔ IsOnCycle g avoided v
      told_end v is = ⊎_elim
          (λ holds.
          let h : StandsFrom members first v = from-Holds members first v holds in
          let mark : is_visited new_marks v ≡ on_cycle = d.told v holds in (
            λ now. subst (λ x. IsOnCycle g avoided x) h.is (cycle_of h.at h.after h.within (on.0 (sym mark ∙ now))),
            λ c. mark ∙ on.1 (turns_of h.at h.after h.within (subst (λ x. IsOnCycle g avoided x) (sym h.is) c)),
          ))
          (λ none.
          let old = s.told v (sym (d.other_stage v none) ∙ is) in
          (λ now. old.0 (sym (d.other_mark v none) ∙ now), λ c. d.other_mark v none ∙ old.1 c))
          (cases_Holds (drop first members) v)

      pub IsState-end : IsState g avoided Nothing new_stages new_marks (take first members) l.prefix pending
      IsState-end = record {
        stages_size = d.stages_size ∙ s.stages_size;
        marks_size = d.marks_size ∙ s.marks_size;
        placed = λ v p is.
            let old = was_member v p is in
            (let low = old.1 in omega (arith, low, size), at_old p old.1 ∙ (s.placed v p old.0).1);
        stage_at = λ p within.
            let low : p < first = omega (arith, within, size) in
            ap (stage_of new_stages) (at_old p low) ∙ stays (get_or members p 0) p (s.stage_at p (omega (arith, low, in_first))) low;
        within = λ b holds.
            let low : b < first = IsOrdered-across (λ x y. x < y) l.prefix (first ∷ []) (subst (λ xs. IsOrdered (λ x y. x < y) xs) l.parts s.order) b first holds (inl refl) in
            omega (arith, low, size);
        order = IsOrdered-prefix (λ x y. x < y) l.prefix (first ∷ []) (subst (λ xs. IsOrdered (λ x y. x < y) xs) l.parts s.order);
        first = λ some. ⊎_elim
            (λ h. h)
            (λ (same : 0 ≡ first). absurd (omega (arith, same, some, size)))
            (Holds-last l.prefix first 0 (subst (λ xs. Holds xs 0) l.parts (s.first (omega (arith, in_first)))));
        reaches = λ p q in_p in_q before.
            let low_p : p < first = omega (arith, in_p, size) in
            let low_q : q < first = omega (arith, in_q, size) in
            Reach-ends g avoided (get_or (take first members) p 0) (get_or (take first members) q 0) (get_or members p 0) (get_or members q 0) (at_old p low_p) (at_old q low_q)
            (s.reaches p q (omega (arith, low_p, in_first)) (omega (arith, low_q, in_first))
            (λ b holds below. ⊎_elim
            (λ h. before b h below)
            (λ (same : b ≡ first). absurd (omega (arith, same, below, low_p)))
            (Holds-last l.prefix first b (subst (λ xs. Holds xs b) l.parts holds))));
        waiting = record {
          edges = s.waiting.edges;
          begin = λ e holds. begins_old e holds ∙ (s.waiting.begin e holds ∙ ap (λ stage. Member (place stage)) (sym (begins_old e holds)));
          order = IsOrdered-along
              (λ e f. place (stage_of stages (from g e)) ≤ place (stage_of stages (from g f)))
              (λ e f. place (stage_of new_stages (from g e)) ≤ place (stage_of new_stages (from g f)))
              pending
              (λ e f held_e held_f low.
              let same_e : place (stage_of new_stages (from g e)) ≡ place (stage_of stages (from g e)) = ap place (begins_old e held_e) in
              let same_f : place (stage_of new_stages (from g f)) ≡ place (stage_of stages (from g f)) = ap place (begins_old f held_f) in
              omega (arith, low, same_e, same_f))
              s.waiting.order;
        };
        free = s.free;
        settled = settled_end;
        done = done_end;
        told = told_end;
      }
