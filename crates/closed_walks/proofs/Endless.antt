-- A walk that goes on and on comes to a cycle.
use Rattle.std.proofs.Common.{◌≡◌, ℕ, zero, suc, ◌<◌, ◌⊎◌, List, [], ◌∷◌, length, map, refl, sym, ◌∙◌, subst, inl, inr, ⊎_elim, arith}
use Rattle.std.proofs.lemmas.Bool.{cases_eq}
use Rattle.closed_walks.specs.Graph.{Graph, IsGraph, edge_count, from, to}
use Rattle.closed_walks.specs.Walk.{Walk, Holds, Reach, no_edge}
use Rattle.closed_walks.specs.Endless.{GoesOn, MeetsCycle}
use Rattle.closed_walks.proofs.Walks.{cases_Holds}
use Rattle.closed_walks.proofs.Reaching.{stay, join, along, along_first}
use Rattle.closed_walks.proofs.Simple.{IsSimple, simple_length}

module _ (g : Graph) where
  -- the part of a walk up to a node that it leaves
  up_to : (u v x : ℕ) (w : List ℕ) → Walk g u w v → Holds (map (from g) w) x → Reach g no_edge u x
  up_to u v x [] leads holds = absurd holds
  up_to u v x (e ∷ w) leads (inl same) = stay g no_edge u x (sym leads.1 ∙ same)
  up_to u v x (e ∷ w) leads (inr holds) = grind (arith, along_first g no_edge e x leads.0, up_to (to g e) v x w leads.2 holds)

  all_of : (u v : ℕ) (w : List ℕ) → Walk g u w v → Reach g no_edge u v
  all_of u v [] leads = stay g no_edge u v leads
  all_of u v (e ∷ w) leads = subst (λ n. Reach g no_edge n v) leads.1 (along_first g no_edge e v leads.0 refl (all_of (to g e) v w leads.2))

  -- a walk passes no node twice, or comes to a cycle
  simple_or_met : (u v : ℕ) (w : List ℕ) → Walk g u w v → IsSimple g w v ⊎ MeetsCycle g u
  simple_or_met u v [] leads = inl (record { passes = tt; ends = λ h. h })
  simple_or_met u v (e ∷ w) leads =
      let first : Reach g no_edge u (to g e) = subst (λ n. Reach g no_edge n (to g e)) leads.1 (along g no_edge e leads.0 refl) in
      let met : Reach g no_edge (to g e) u → MeetsCycle g u = λ r. record { edge = e; exists = leads.0; leads = first; returns = subst (λ n. Reach g no_edge (to g e) n) (sym leads.1) r } in
      ⊎_elim
      (λ (s : IsSimple g w v). ⊎_elim
      (λ (h : Holds (map (from g) w) u). inr (met (up_to (to g e) v u w leads.2 h)))
      (λ (once : Holds (map (from g) w) u → ⊥). ⊎_elim
      (λ (h : v ≡ u). inr (met (subst (λ n. Reach g no_edge (to g e) n) h (all_of (to g e) v w leads.2))))
      (λ (apart : v ≡ u → ⊥). inl (record {
        passes = (λ h. once (subst (λ x. Holds (map (from g) w) x) leads.1 h), s.passes);
        ends = ⊎_elim (λ same. apart (sym same ∙ leads.1)) s.ends;
      }))
      (cases_eq v u))
      (cases_Holds (map (from g) w) u))
      (λ (m : MeetsCycle g (to g e)). inr (record { edge = m.edge; exists = m.exists; leads = join g no_edge u (to g e) (to g m.edge) first m.leads; returns = m.returns }))
      (simple_or_met (to g e) v w leads.2)

  -- a walk of so many edges
  record IsLong (u count : ℕ) : Type 0 where
    walk : List ℕ
    last : ℕ
    leads : Walk g u walk last
    long : length walk ≡ count

  long_walk : (u : ℕ) → GoesOn g u → (v count : ℕ) → Reach g no_edge u v → IsLong v count
  long_walk u on v zero r = record { walk = []; last = v; leads = refl; long = refl }
  long_walk u on v (suc count) r =
      let e : ℕ = (on v r).0 in
      let edge : e < edge_count g = (on v r).1 in
      let begins : from g e ≡ v = (on v r).2 in
      let next : Reach g no_edge v (to g e) = subst (λ n. Reach g no_edge n (to g e)) begins (along g no_edge e edge refl) in
      let rest : IsLong (to g e) count = long_walk u on (to g e) count (join g no_edge u v (to g e) r next) in
      record { walk = e ∷ rest.walk; last = rest.last; leads = (edge, begins, rest.leads); long = rest_long rest.walk count rest.long }
    where
      rest_long : (w : List ℕ) (n : ℕ) → length w ≡ n → suc (length w) ≡ suc n
      rest_long w n same = omega (arith, same)

  last_below : IsGraph g → (u v : ℕ) (w : List ℕ) → u < g.nodes → Walk g u w v → v < g.nodes
  last_below sound u v [] node leads = subst (λ n. n < g.nodes) leads node
  last_below sound u v (e ∷ w) node leads = last_below sound (to g e) v w (sound.ends e leads.0) leads.2

pub endless_ways_meet_cycles : (g : Graph) (u : ℕ) → IsGraph g → u < g.nodes → GoesOn g u → MeetsCycle g u
endless_ways_meet_cycles g u sound node on =
    let w : IsLong g u g.nodes = long_walk g u on u g.nodes (stay g no_edge u u refl) in
    ⊎_elim
    (λ (s : IsSimple g w.walk w.last).
    let short : length w.walk < g.nodes = simple_length g sound u w.last w.walk (last_below g sound u w.last w.walk node w.leads) w.leads s in
    absurd (omega (arith, short, w.long)))
    (λ (m : MeetsCycle g u). m)
    (simple_or_met g u w.last w.walk w.leads)
