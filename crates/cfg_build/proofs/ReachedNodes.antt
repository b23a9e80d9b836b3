-- What is reached in a graph, as far as the flow graph needs it.
use Rattle.std.proofs.Common.{◌≡◌, ◌↔◌, ℕ, ◌<◌, ◌⊎◌, true, List, [], ◌∷◌, ◌++◌, refl, sym, subst}
use Rattle.closed_walks.specs.Graph.{Graph, IsGraph, edge_count, from, to}
use Rattle.closed_walks.specs.Walk.{Walk, Avoids, Reach, no_edge}
use Rattle.closed_walks.specs.Reaching.{reaches}
use Rattle.std.proofs.Common.{arith}

-- what the law on the test `reaches` says
abbrev pub IsTold : Type 0
IsTold = (g : Graph) (u v : ℕ) → IsGraph g → u < g.nodes → (reaches g u v ≡ true) ↔ Reach g no_edge u v

abbrev pub Reaches : Graph → ℕ → ℕ → Type 0
Reaches g u v = Reach g no_edge u v

avoids_none : (w : List ℕ) → Avoids no_edge w
avoids_none [] = tt
avoids_none (e ∷ w) = (refl, avoids_none w)

-- an edge leads from u to v
pub record IsEdge (g : Graph) (u v : ℕ) : Type 0 where
  pub number : ℕ
  pub exists : number < edge_count g
  pub begins : from g number ≡ u
  pub ends : to g number ≡ v

module _ (g : Graph) where
  pub by_walk : (u v : ℕ) (w : List ℕ) → Walk g u w v → Reaches g u v
  by_walk u v w leads = record { walk = w; leads = leads; avoids = avoids_none w }

  pub stay : (u v : ℕ) → u ≡ v → Reaches g u v
  stay u v same = by_walk u v [] same

  append : (u v x : ℕ) (w z : List ℕ) → Walk g u w v → Walk g v z x → Walk g u (w ++ z) x
  append u v x [] z same rest = subst (λ n. Walk g n z x) (sym same) rest
  append u v x (e ∷ w) z h rest = (h.0, h.1, append (to g e) v x w z h.2 rest)

  pub join : (u v x : ℕ) → Reaches g u v → Reaches g v x → Reaches g u x
  join u v x a b = by_walk u x (a.walk ++ b.walk) (append u v x a.walk b.walk a.leads b.leads)

  pub along : (u v : ℕ) → IsEdge g u v → Reaches g u v
  along u v e = by_walk u v (e.number ∷ []) (e.exists, e.begins, e.ends)

  pub along_last : (u v x : ℕ) → Reaches g u v → IsEdge g v x → Reaches g u x
  along_last u v x r e = join u v x r (along v x e)

  -- what holds at u, and is kept by each edge, holds at each node that is reached
  kept_on : (P : ℕ → Type 0) → ((e : ℕ) → e < edge_count g → P (from g e) → P (to g e)) → (u v : ℕ) (w : List ℕ) → Walk g u w v → P u → P v
  kept_on P keeps u v [] leads here = subst P leads here
  kept_on P keeps u v (e ∷ w) leads here = kept_on P keeps (to g e) v w leads.2 (keeps e leads.0 (subst P (sym leads.1) here))

  pub kept : (P : ℕ → Type 0) → ((e : ℕ) → e < edge_count g → P (from g e) → P (to g e)) → (u v : ℕ) → Reaches g u v → P u → P v
  kept P keeps u v r here = kept_on P keeps u v r.walk r.leads here

  pub cases_Reaches : IsTold → IsGraph g → (u v : ℕ) → u < g.nodes → Reaches g u v ⊎ (Reaches g u v → ⊥)
  cases_Reaches told sound u v node = grind arith
