-- Which nodes are reached from which, without some edges.
use Rattle.std.proofs.Common.{◌≡◌, ℕ, ◌<◌, ◌⊎◌, Bool, true, false, List, [], ◌∷◌, refl, sym, ◌∙◌, subst, inl, inr, ⊎_elim}
use Rattle.std.proofs.lemmas.Bool.{cases_Bool}
use Rattle.closed_walks.specs.Graph.{Graph, edge_count, from, to}
use Rattle.closed_walks.specs.Walk.{Walk, Avoids, Reach}
use Rattle.closed_walks.proofs.Walks.{Walk-append, Avoids-append, Avoids-within}
use Rattle.std.proofs.Common.{arith}

module _ (g : Graph) where
  pub stay : (avoided : ℕ → Bool) (u v : ℕ) → u ≡ v → Reach g avoided u v
  stay avoided u v same = record { walk = []; leads = same; avoids = tt }

  pub join : (avoided : ℕ → Bool) (u v x : ℕ) → Reach g avoided u v → Reach g avoided v x → Reach g avoided u x
  join avoided u v x a b = grind (arith, Walk-append g u v x a.walk b.walk a.leads b.leads, Avoids-append avoided a.walk b.walk a.avoids b.avoids)

  pub along : (avoided : ℕ → Bool) (e : ℕ) → e < edge_count g → avoided e ≡ false → Reach g avoided (from g e) (to g e)
  along avoided e edge free = record { walk = e ∷ []; leads = (edge, refl, refl); avoids = (free, tt) }

  -- a node that is reached by an edge and then on
  pub along_first : (avoided : ℕ → Bool) (e v : ℕ) → e < edge_count g → avoided e ≡ false → Reach g avoided (to g e) v → Reach g avoided (from g e) v
  along_first avoided e v edge free rest = join avoided (from g e) (to g e) v (along avoided e edge free) rest

  pub along_last : (avoided : ℕ → Bool) (e u : ℕ) → e < edge_count g → avoided e ≡ false → Reach g avoided u (from g e) → Reach g avoided u (to g e)
  along_last avoided e u edge free prefix = join avoided u (from g e) (to g e) prefix (along avoided e edge free)

  -- what is reached without more edges is reached without fewer
  pub Reach-within : (more less : ℕ → Bool) → ((e : ℕ) → more e ≡ false → less e ≡ false) → (u v : ℕ) → Reach g more u v → Reach g less u v
  Reach-within more less within u v r = record { walk = r.walk; leads = r.leads; avoids = Avoids-within more less within r.walk r.avoids }

  -- A way from u to v leads over an edge of a set: to it without the edges of `prefix`, on from it without those of `back`.
  pub record IsMet (set prefix back : ℕ → Bool) (u v : ℕ) : Type 0 where
    pub edge : ℕ
    pub exists : edge < edge_count g
    pub among : set edge ≡ true
    pub before : Reach g prefix u (from g edge)
    pub after : Reach g back (to g edge) v

  module _ (set avoided both : ℕ → Bool) (joins : (e : ℕ) → set e ≡ false → avoided e ≡ false → both e ≡ false) where
    first_on : (u v : ℕ) (w : List ℕ) → Walk g u w v → Avoids avoided w → Reach g both u v ⊎ IsMet set both avoided u v
    first_on u v [] leads avoids = inl (stay both u v leads)
    first_on u v (e ∷ w) leads avoids = ⊎_elim
        (λ (among : set e ≡ true). inr (record {
          edge = e;
          exists = leads.0;
          among = among;
          before = stay both u (from g e) (sym leads.1);
          after = record { walk = w; leads = leads.2; avoids = avoids.1 };
        }))
        (λ (free : set e ≡ false).
        let step : Reach g both u (to g e) = subst (λ n. Reach g both n (to g e)) leads.1 (along both e leads.0 (joins e free avoids.0)) in
        ⊎_elim
        (λ (r : Reach g both (to g e) v). inl (join both u (to g e) v step r))
        (λ (m : IsMet set both avoided (to g e) v). inr (record {
          edge = m.edge;
          exists = m.exists;
          among = m.among;
          before = join both u (to g e) (from g m.edge) step m.before;
          after = m.after;
        }))
        (first_on (to g e) v w leads.2 avoids.1))
        (cases_Bool (set e))

    -- the first edge of the set on a way from u to v, if there is one
    pub first_of : (u v : ℕ) → Reach g avoided u v → Reach g both u v ⊎ IsMet set both avoided u v
    first_of u v r = first_on u v r.walk r.leads r.avoids

    last_on : (u v : ℕ) (w : List ℕ) → Walk g u w v → Avoids avoided w → Reach g both u v ⊎ IsMet set avoided both u v
    last_on u v [] leads avoids = inl (stay both u v leads)
    last_on u v (e ∷ w) leads avoids =
        let step : Reach g avoided u (to g e) = subst (λ n. Reach g avoided n (to g e)) leads.1 (along avoided e leads.0 avoids.0) in
        ⊎_elim
        (λ (r : Reach g both (to g e) v). ⊎_elim
        (λ (among : set e ≡ true). inr (record { edge = e; exists = leads.0; among = among; before = stay avoided u (from g e) (sym leads.1); after = r }))
        (λ (free : set e ≡ false). inl (subst (λ n. Reach g both n v) leads.1 (along_first both e v leads.0 (joins e free avoids.0) r)))
        (cases_Bool (set e)))
        (λ (m : IsMet set avoided both (to g e) v). inr (record {
          edge = m.edge;
          exists = m.exists;
          among = m.among;
          before = join avoided u (to g e) (from g m.edge) step m.before;
          after = m.after;
        }))
        (last_on (to g e) v w leads.2 avoids.1)

    -- the last edge of the set on a way from u to v, if there is one
    pub last_of : (u v : ℕ) → Reach g avoided u v → Reach g both u v ⊎ IsMet set avoided both u v
    last_of u v r = last_on u v r.walk r.leads r.avoids

  -- What holds at u, and is kept by each edge that isn't avoided, holds at each node that is reached.
  kept_on : (avoided : ℕ → Bool) (P : ℕ → Type 0) → ((e : ℕ) → e < edge_count g → avoided e ≡ false → P (from g e) → P (to g e)) → (u v : ℕ) (w : List ℕ) → Walk g u w v → Avoids avoided w → P u → P v
  kept_on avoided P keeps u v [] leads avoids here = subst P leads here
  kept_on avoided P keeps u v (e ∷ w) leads avoids here = grind (arith, kept_on avoided P keeps (to g e) v w leads.2 avoids.1)

  pub kept : (avoided : ℕ → Bool) (P : ℕ → Type 0) → ((e : ℕ) → e < edge_count g → avoided e ≡ false → P (from g e) → P (to g e)) → (u v : ℕ) → Reach g avoided u v → P u → P v
  kept avoided P keeps u v r here = kept_on avoided P keeps u v r.walk r.leads r.avoids here

  -- A test with one answer at both ends of each edge that isn't avoided has one answer at both ends of a way.
  pub same_along : (avoided test : ℕ → Bool) → ((e : ℕ) → e < edge_count g → avoided e ≡ false → test (from g e) ≡ test (to g e)) → (u v : ℕ) → Reach g avoided u v → test u ≡ test v
  same_along avoided test same u v r =
      kept avoided (λ n. test u ≡ test n) (λ e edge free here. here ∙ same e edge free) u v r refl
