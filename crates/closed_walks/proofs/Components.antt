-- The steps of a walk for the strongly connected components.
use Rattle.std.proofs.Common.{◌≡◌, ◌≢◌, ℕ, suc, ◌+◌, ◌<◌, ◌≤◌, ◌⊎◌, ◌↔◌, Bool, true, false, List, [], ◌∷◌, ◌++◌, length, get_or, set, drop, refl, sym, ap, ◌∙◌, subst, inl, inr, ⊎_elim, arith, length-set, length-append, Result, Ok, Err, OnOk}
use Rattle.std.proofs.lemmas.Bool.{cases_eq, cases_lt}
use Rattle.std.proofs.lemmas.List.{get_or_push, get_or_append_left}
use Rattle.closed_walks.specs.Graph.{Graph, edge_count, from, to}
use Rattle.closed_walks.specs.Walk.{Holds, Reach}
use Rattle.closed_walks.specs.Search.{Nothing}
use Rattle.closed_walks.specs.Component.{IsOrdered, IsLast, IsBound, IsBefore, IsSettled, IsFree, Adds, ArePending, AreReaching, IsState, stage_of, place, stands_from, left, IsFound}
use Rattle.closed_walks.specs.declared.component_walk.Stage.{Stage}
use Rattle.closed_walks.specs.declared.component_walk.Stage.TheVariants.{New, Member, Done}
use Rattle.closed_walks.proofs.Walks.{Holds-left, Holds-right, Holds-append}
use Rattle.closed_walks.proofs.Reaching.{stay, join, along_last}
use Rattle.closed_walks.proofs.Stages.{Holds-last, Holds-new, IsOrdered-append, IsOrdered-prefix, IsOrdered-across, IsOrdered-each, IsOrdered-along, bounds_below, IsBetween, cases_before, Member-same, Member-new, Member-done, New-done, stands-place, stands-below, stands-not, found_cases, member_inside, left_found, from-Holds, Holds-of_last, settled_member, settled_done, settled_along, stage_same, stage_other}
use Rattle.std.proofs.lemmas.Grind.{elements}

module _ (g : Graph) (avoided : ℕ → Bool) where
  pub Reach-ends : (a b c d : ℕ) → a ≡ c → b ≡ d → Reach g avoided c d → Reach g avoided a b
  Reach-ends a b c d from_c to_d r = subst (λ x. Reach g avoided x b) (sym from_c) (subst (λ y. Reach g avoided c y) (sym to_d) r)

  module _ (rest : ℕ → Type 0) (stages : List Stage) (marks : List Bool) (members bounds pending : List ℕ) (s : IsState g avoided rest stages marks members bounds pending) where
    -- edges that needn't be settled are settled after all
    pub IsState-settled : ((e p : ℕ) → IsFree g avoided e → stage_of stages (from g e) ≡ Member p → rest e → IsSettled bounds p (stage_of stages (to g e))) → IsState g avoided Nothing stages marks members bounds pending
    IsState-settled each = grind arith

  -- ---- an edge is followed

  module _ (stages : List Stage) (marks : List Bool) (members bounds pending : List ℕ) (s : IsState g avoided Nothing stages marks members bounds pending) where
    -- where an edge from the last segment leads, all members lead
    pub AreReaching-edge : (first e : ℕ) → IsLast bounds first → Holds pending e → stands_from (stage_of stages (from g e)) first ≡ true → AreReaching g avoided members (to g e)
    AreReaching-edge first e last held stands =
        let u = from g e in
        let at = stands-place (stage_of stages u) first stands in
        let here = s.placed u (place (stage_of stages u)) at.0 in
        λ q in_q.
        let before : IsBefore bounds q (place (stage_of stages u)) =
        λ b holds below. let low = bounds_below bounds last.prefix first b last.parts s.order holds in omega (arith, low, at.1)
        in
        along_last g avoided e (get_or members q 0) (s.waiting.edges e held) (s.free e held)
        (subst (λ x. Reach g avoided (get_or members q 0) x) here.1 (s.reaches q (place (stage_of stages u)) in_q here.0 before))

    pub IsState-pop : (e : ℕ) (l : IsLast pending e) → IsState g avoided (λ f. to g f ≡ to g e) stages marks members bounds l.prefix
    IsState-pop e l =
        let old : (f : ℕ) → Holds l.prefix f → Holds pending f = λ f holds. subst (λ xs. Holds xs f) (sym l.parts) (Holds-left l.prefix (e ∷ []) f holds) in
        record {
          stages_size = s.stages_size;
          marks_size = s.marks_size;
          placed = s.placed;
          stage_at = s.stage_at;
          within = s.within;
          order = s.order;
          first = s.first;
          reaches = s.reaches;
          waiting = record {
            edges = λ f holds. s.waiting.edges f (old f holds);
            begin = λ f holds. s.waiting.begin f (old f holds);
            order =
                let less : ℕ → ℕ → Type 0 = λ a b. place (stage_of stages (from g a)) ≤ place (stage_of stages (from g b)) in
                IsOrdered-prefix less l.prefix (e ∷ []) (subst (λ xs. IsOrdered less xs) l.parts s.waiting.order);
          };
          free = λ f holds. s.free f (old f holds);
          settled = λ f p free is. ⊎_elim
              (λ holds. ⊎_elim
              (λ h. inl h)
              (λ (same : f ≡ e). inr (inr (ap (to g) same)))
              (Holds-last l.prefix e f (subst (λ xs. Holds xs f) l.parts holds)))
              (⊎_elim (λ h. inr (inl h)) (λ none. absurd none))
              (s.settled f p free is);
          done = s.done;
          told = s.told;
        }

  -- ---- it leads to the node v

  module _ (v : ℕ) (stages : List Stage) (marks : List Bool) (members bounds pending : List ℕ) (s : IsState g avoided (λ f. to g f ≡ v) stages marks members bounds pending) where
    pub IsState-done : stage_of stages v ≡ Done → IsState g avoided Nothing stages marks members bounds pending
    IsState-done is = IsState-settled (λ f. to g f ≡ v) stages marks members bounds pending s (λ e p free begins ends. settled_done bounds p (stage_of stages (to g e)) (ap (stage_of stages) ends ∙ is))

    -- which is a member: the segments after it become one with its own
    pub IsState-merge : (q : ℕ) (fewer : List ℕ) → stage_of stages v ≡ Member q → AreReaching g avoided members v → IsOrdered (λ a b. a < b) fewer → ((b : ℕ) → Holds fewer b ↔ IsBound bounds q b) → IsState g avoided Nothing stages marks members fewer pending
    IsState-merge q fewer is reaching order kept_bounds =
        let here = s.placed v q is in
        record {
          stages_size = s.stages_size;
          marks_size = s.marks_size;
          placed = s.placed;
          stage_at = s.stage_at;
          within = λ b holds. s.within b ((kept_bounds b).0 holds).inside;
          order = order;
          first = λ some. (kept_bounds 0).1 (record { inside = s.first some; below = omega arith });
          reaches = λ p r in_p in_r before. ⊎_elim
              (λ (h : IsBefore bounds p r). s.reaches p r in_p in_r h)
              (λ (m : IsBetween bounds p r). ⊎_elim
              (λ (past : q < m.bound).
              join g avoided (get_or members p 0) v (get_or members r 0)
              (reaching p in_p)
              (subst (λ x. Reach g avoided x (get_or members r 0)) here.1
              (s.reaches q r here.0 in_r (λ b holds below. before b ((kept_bounds b).1 (record { inside = holds; below = below })) (omega (arith, below, past, m.below))))))
              (λ (low : m.bound ≤ q).
              let high : m.bound ≤ r = before m.bound ((kept_bounds m.bound).1 (record { inside = m.inside; below = low })) m.below in
              absurd (omega (arith, high, m.above)))
              (cases_lt q m.bound))
              (cases_before bounds p r);
          waiting = s.waiting;
          free = s.free;
          settled = λ e p free begins. ⊎_elim
              (λ h. inl h)
              (⊎_elim
              (λ h. inr (inl (settled_along bounds fewer p (stage_of stages (to g e)) (λ r at before b holds below. before b ((kept_bounds b).0 holds).inside below) h)))
              (λ (ends : to g e ≡ v). inr (inl (settled_member fewer p q (stage_of stages (to g e)) (ap (stage_of stages) ends ∙ is) (λ b holds below. ((kept_bounds b).0 holds).below)))))
              (s.settled e p free begins);
          done = s.done;
          told = s.told;
        }

    -- which is new: it becomes a segment of its own
    module _ (fresh : stage_of stages v ≡ New) (node : v < g.nodes) (reaching : AreReaching g avoided members v) (new : List ℕ) (a : Adds g avoided v pending new) where
      abbrev found : List Stage
      found = set stages v (Member (length members))

      abbrev after : List ℕ
      after = members ++ v ∷ []

      abbrev bounds_on : List ℕ
      bounds_on = bounds ++ length members ∷ []

      here_is : stage_of found v ≡ Member (length members)
      here_is = stage_same stages v (Member (length members)) (omega (arith, node, s.stages_size))

      there_is : (u : ℕ) → u ≢ v → stage_of found u ≡ stage_of stages u
      there_is u apart = stage_other stages v u (Member (length members)) apart

      at_v : (u : ℕ) → u ≡ v → stage_of found u ≡ Member (length members)
      at_v u same = ap (stage_of found) same ∙ here_is

      old_member : (u p : ℕ) → stage_of stages u ≡ Member p → stage_of found u ≡ Member p
      old_member u p is = there_is u (λ same. Member-new (stage_of stages u) p (ap (stage_of stages) same ∙ fresh) is) ∙ is

      not_v : (u : ℕ) → stage_of stages u ≡ Done → u ≢ v
      not_v u is same = New-done (stage_of stages u) (ap (stage_of stages) same ∙ fresh) is

      -- what is done was done
      was_done : (u : ℕ) → stage_of found u ≡ Done → stage_of stages u ≡ Done
      was_done u is = sym (there_is u (λ same. Member-done (stage_of found u) (length members) is (at_v u same))) ∙ is

      size : length after ≡ suc (length members)
      size = omega (arith, length-append members (v ∷ []))

      at_old : (p : ℕ) → p < length members → get_or after p 0 ≡ get_or members p 0
      at_old p within = get_or_append_left members (v ∷ []) 0 p within

      at_new : (p : ℕ) → length members ≡ p → get_or after p 0 ≡ v
      at_new p same = get_or_push members v 0 p same

      reaches_on : (p q : ℕ) → p < length after → q < length after → IsBefore bounds_on p q → Reach g avoided (get_or after p 0) (get_or after q 0)
      reaches_on p q in_p in_q before = ⊎_elim
          (λ (old_q : q < length members). ⊎_elim
          (λ (old_p : p < length members). Reach-ends (get_or after p 0) (get_or after q 0) (get_or members p 0) (get_or members q 0) (at_old p old_p) (at_old q old_q)
          (s.reaches p q old_p old_q (λ b holds below. before b (Holds-left bounds (length members ∷ []) b holds) below)))
          (λ (new_p : length members ≤ p).
          let high : length members ≤ q = before (length members) (Holds-new bounds (length members)) new_p in
          absurd (omega (arith, high, old_q)))
          (cases_lt p (length members)))
          (λ (new_q : length members ≤ q).
          let last_q : length members ≡ q = omega (arith, new_q, in_q, size) in
          ⊎_elim
          (λ (old_p : p < length members). Reach-ends (get_or after p 0) (get_or after q 0) (get_or members p 0) v (at_old p old_p) (at_new q last_q) (reaching p old_p))
          (λ (new_p : length members ≤ p).
          let last_p : length members ≡ p = omega (arith, new_p, in_p, size) in
          stay g avoided (get_or after p 0) (get_or after q 0) (at_new p last_p ∙ sym (at_new q last_q)))
          (cases_lt p (length members)))
          (cases_lt q (length members))

      -- a pending edge begins at an old member, or at the new one
      begins_old : (e : ℕ) → Holds pending e → stage_of found (from g e) ≡ stage_of stages (from g e)
      begins_old e holds = old_member (from g e) (place (stage_of stages (from g e))) (s.waiting.begin e holds) ∙ sym (s.waiting.begin e holds)

      begins_new : (e : ℕ) → Holds a.added e → stage_of found (from g e) ≡ Member (length members)
      begins_new e holds = at_v (from g e) (a.sound e holds).1

      low_old : (e : ℕ) → Holds pending e → place (stage_of found (from g e)) < length members
      low_old e holds =
          let is : stage_of stages (from g e) ≡ Member (place (stage_of stages (from g e))) = s.waiting.begin e holds in
          let low = (s.placed (from g e) (place (stage_of stages (from g e))) is).0 in
          let same : place (stage_of found (from g e)) ≡ place (stage_of stages (from g e)) = ap place (begins_old e holds) in
          omega (arith, low, same)

      abbrev less : ℕ → ℕ → Type 0
      less e f = place (stage_of found (from g e)) ≤ place (stage_of found (from g f))

      order_on : IsOrdered less (pending ++ a.added)
      order_on = grind (arith, IsOrdered-append less pending a.added, IsOrdered-along, begins_old, IsOrdered-each less a.added, begins_new, low_old)

      cases_new : (e : ℕ) → Holds new e → Holds pending e ⊎ Holds a.added e
      cases_new e holds = Holds-append pending a.added e (subst (λ xs. Holds xs e) a.parts holds)

      waiting_on : ArePending g found new
      waiting_on = record {
        edges = λ e holds. ⊎_elim (λ h. s.waiting.edges e h) (λ h. (a.sound e h).0.exists) (cases_new e holds);
        begin = λ e holds. ⊎_elim
            (λ h. begins_old e h ∙ (s.waiting.begin e h ∙ ap (λ stage. Member (place stage)) (sym (begins_old e h))))
            (λ h. begins_new e h ∙ ap (λ stage. Member (place stage)) (sym (begins_new e h)))
            (cases_new e holds);
        order = subst (λ xs. IsOrdered less xs) (sym a.parts) order_on;
      }

      settled_on : (e p : ℕ) → IsFree g avoided e → stage_of found (from g e) ≡ Member p → Holds new e ⊎ (IsSettled bounds_on p (stage_of found (to g e)) ⊎ Nothing e)
      settled_on e p free is = ⊎_elim
          (λ (same : from g e ≡ v). inl (subst (λ xs. Holds xs e) (sym a.parts) (Holds-right pending a.added e (a.whole e free same))))
          (λ (apart : from g e ≢ v). ⊎_elim
          (λ (ends : to g e ≡ v). inr (inl (settled_member bounds_on p (length members) (stage_of found (to g e)) (at_v (to g e) ends)
          (λ b holds below. ⊎_elim
          (λ h. let l = s.within b h in omega (arith, l))
          (λ (last : b ≡ length members). omega (arith, last))
          (Holds-last bounds (length members) b holds)))))
          (λ (elsewhere : to g e ≢ v).
          let before_is : stage_of stages (from g e) ≡ Member p = sym (there_is (from g e) apart) ∙ is in
          let in_p = (s.placed (from g e) p before_is).0 in
          ⊎_elim
          (λ h. inl (subst (λ xs. Holds xs e) (sym a.parts) (Holds-left pending a.added e h)))
          (⊎_elim
          (λ h. inr (inl (subst (IsSettled bounds_on p) (sym (there_is (to g e) elsewhere))
          (settled_along bounds bounds_on p (stage_of stages (to g e))
          (λ q at before b holds below. ⊎_elim
          (λ old. before b old below)
          (λ (last : b ≡ length members). absurd (omega (arith, last, below, in_p)))
          (Holds-last bounds (length members) b holds))
          h))))
          (λ ends. absurd (elsewhere ends)))
          (s.settled e p free before_is))
          (cases_eq (to g e) v))
          (cases_eq (from g e) v)

      pub IsState-find : IsState g avoided Nothing found marks after bounds_on new
      IsState-find = record {
        stages_size = length-set stages v (Member (length members)) ∙ s.stages_size;
        marks_size = s.marks_size;
        placed = λ u p is. ⊎_elim
            (λ (same : u ≡ v).
            let last : length members ≡ p = Member-same (length members) p (sym (at_v u same) ∙ is) in
            (omega (arith, last, size), at_new p last ∙ sym same))
            (λ (apart : u ≢ v).
            let old = s.placed u p (sym (there_is u apart) ∙ is) in
            (let l = old.0 in omega (arith, l, size), at_old p old.0 ∙ old.1))
            (cases_eq u v);
        stage_at = λ p within. ⊎_elim
            (λ (old : p < length members). ap (stage_of found) (at_old p old) ∙ old_member (get_or members p 0) p (s.stage_at p old))
            (λ (new_p : length members ≤ p).
            let last : length members ≡ p = omega (arith, new_p, within, size) in
            at_v (get_or after p 0) (at_new p last) ∙ ap Member last)
            (cases_lt p (length members));
        within = λ b holds. ⊎_elim
            (λ h. let l = s.within b h in omega (arith, l, size))
            (λ (last : b ≡ length members). omega (arith, last, size))
            (Holds-last bounds (length members) b holds);
        order = IsOrdered-append (λ x y. x < y) bounds (length members ∷ []) s.order (λ y none. absurd none, tt)
            (λ x y held_x held_y. let l = s.within x held_x in ⊎_elim (λ (same : length members ≡ y). omega (arith, l, same)) (λ none. absurd none) held_y);
        first = λ some. ⊎_elim
            (λ (none : length members ≡ 0). subst (λ n. Holds (bounds ++ n ∷ []) 0) (sym none) (Holds-new bounds 0))
            (λ (more : length members ≢ 0). Holds-left bounds (length members ∷ []) 0 (s.first (omega (arith, more))))
            (cases_eq (length members) 0);
        reaches = reaches_on;
        waiting = waiting_on;
        free = λ e holds. ⊎_elim (λ h. s.free e h) (λ h. (a.sound e h).0.free) (cases_new e holds);
        settled = settled_on;
        done = λ e free is. let d = s.done e free (was_done (from g e) is) in there_is (to g e) (not_v (to g e) d) ∙ d;
        told = λ u is. s.told u (was_done u is);
      }

-- ---- what is read and measured

-- where the last pending edge begins before the place, all do
pub pending_below : (g : Graph) (stages : List Stage) (pending : List ℕ) (first last : ℕ) → ArePending g stages pending → IsLast pending last → stands_from (stage_of stages (from g last)) first ≡ false → (e : ℕ) → Holds pending e → stands_from (stage_of stages (from g e)) first ≡ false
pending_below g stages pending first last w l none e holds =
    let less : ℕ → ℕ → Type 0 = λ a b. place (stage_of stages (from g a)) ≤ place (stage_of stages (from g b)) in
    let low : place (stage_of stages (from g last)) < first = stands-below (stage_of stages (from g last)) (place (stage_of stages (from g last))) first (w.begin last (Holds-of_last pending last l)) none in
    ⊎_elim
    (λ (h : Holds l.prefix e).
    let before : place (stage_of stages (from g e)) ≤ place (stage_of stages (from g last)) = IsOrdered-across less l.prefix (last ∷ []) (subst (λ xs. IsOrdered less xs) l.parts w.order) e last h (inl refl) in
    stands-not (stage_of stages (from g e)) (place (stage_of stages (from g e))) first (w.begin e holds) (omega (arith, before, low)))
    (λ (same : e ≡ last). ap (λ x. stands_from (stage_of stages (from g x)) first) same ∙ none)
    (Holds-last l.prefix last e (subst (λ xs. Holds xs e) l.parts holds))

pub found_less : (g : Graph) (avoided : ℕ → Bool) (stages : List Stage) (v p : ℕ) (pending new bounds : List ℕ) → v < length stages → stage_of stages v ≡ New → Adds g avoided v pending new → left (edge_count g + 2) (set stages v (Member p)) + length new + length (bounds ++ p ∷ []) < left (edge_count g + 2) stages + length pending + length bounds
found_less g avoided stages v p pending new bounds within fresh a = grind (arith, elements, left_found)

-- with no member left, a node that was found is done
pub found_done : (g : Graph) (avoided : ℕ → Bool) (stages : List Stage) (marks : List Bool) (members bounds pending : List ℕ) → IsState g avoided Nothing stages marks members bounds pending → members ≡ [] → (v : ℕ) → IsFound (stage_of stages v) → stage_of stages v ≡ Done
found_done g avoided stages marks members bounds pending s none v found = grind (arith, elements, found_cases, s.placed v (place (stage_of stages v)))

-- the members from a place on are nodes
pub members_inside : (g : Graph) (avoided : ℕ → Bool) (stages : List Stage) (marks : List Bool) (members bounds pending : List ℕ) → IsState g avoided Nothing stages marks members bounds pending → (first v : ℕ) → Holds (drop first members) v → v < g.nodes
members_inside g avoided stages marks members bounds pending s first v holds = grind (arith, from-Holds members first v holds, member_inside stages)

-- what follows of a result
pub OnOk-along : {T E : Type 0} (r : Result T E) (P Q : Type 0) → (P → Q) → OnOk r P → OnOk r Q
OnOk-along (Ok x) P Q follows h = follows h
OnOk-along (Err e) P Q follows h = tt
