-- Ways in a graph with each edge turned round, and strong connection by them.
use Rattle.std.proofs.Common.{◌≡◌, ℕ, ◌+◌, ◌<◌, List, [], ◌∷◌, refl, sym, arith}
use Rattle.std.proofs.lemmas.Bool.{ne_eqb}
use Rattle.closed_walks.specs.Graph.{Graph, edge_count, from, to, with_edge}
use Rattle.closed_walks.specs.Walk.{Walk, Avoids, Reach, no_edge, only, IsStrong}
use Rattle.closed_walks.specs.Reversed.{IsReversed}
use Rattle.closed_walks.proofs.Reaching.{stay, join, along_last, Reach-within}
use Rattle.closed_walks.proofs.Digraphs.{from-old, to-old, from-new, to-new, edge_count-with}
use Rattle.std.proofs.lemmas.Grind.{elements}

-- a number that is no edge is avoided by each walk
Avoids-none : (g : Graph) (n u v : ℕ) (w : List ℕ) → n ≡ edge_count g → Walk g u w v → Avoids (only n) w
Avoids-none g n u v [] none leads = tt
Avoids-none g n u v (e ∷ w) none leads = (ne_eqb e n (λ same. let edge = leads.0 in absurd (omega arith)), Avoids-none g n (to g e) v w none leads.2)

pub Reach-without_none : (g : Graph) (n u v : ℕ) → n ≡ edge_count g → Reach g no_edge u v → Reach g (only n) u v
Reach-without_none g n u v none r = record { walk = r.walk; leads = r.leads; avoids = Avoids-none g n u v r.walk none r.leads }

pub Reach-with_none : (g : Graph) (n u v : ℕ) → Reach g (only n) u v → Reach g no_edge u v
Reach-with_none g n u v r = Reach-within g (only n) no_edge (λ e free. refl) u v r

-- a way in the one graph is a way back in the other
turned_on : (g back : Graph) → edge_count g ≡ edge_count back → ((e : ℕ) → e < edge_count back → from back e ≡ to g e) → ((e : ℕ) → e < edge_count back → to back e ≡ from g e) → (u v : ℕ) (w : List ℕ) → Walk g u w v → Reach back no_edge v u
turned_on g back same begins ends u v [] leads = stay back no_edge v u (sym leads)
turned_on g back same begins ends u v (e ∷ w) leads = grind (arith, elements, along_last, turned_on g back same begins ends (to g e) v w leads.2)

pub Reach-turned : (g back : Graph) → IsReversed g back → (u v : ℕ) → Reach g no_edge u v → Reach back no_edge v u
Reach-turned g back r u v way = turned_on g back (sym r.edges) r.begins r.ends u v way.walk way.leads

pub IsReversed-back : (g back : Graph) → IsReversed g back → IsReversed back g
IsReversed-back g back r = grind arith

-- each node is reached from node 0
abbrev pub ToAll : Graph → Type 0
ToAll g = (v : ℕ) → v < g.nodes → Reach g no_edge 0 v

pub IsStrong-both : (g back : Graph) → IsReversed g back → ToAll g → ToAll back → IsStrong g
IsStrong-both g back r to_all from_all u v u_node v_node =
    join g no_edge u 0 v (Reach-turned back g (IsReversed-back g back r) 0 u (from_all u (omega (arith, r.nodes)))) (to_all v v_node)

pub ToAll-strong : (g : Graph) → 0 < g.nodes → IsStrong g → ToAll g
ToAll-strong g some strong v v_node = strong 0 v some v_node

pub ToAll-back : (g back : Graph) → 0 < g.nodes → IsReversed g back → IsStrong g → ToAll back
ToAll-back g back some r strong v v_node = Reach-turned g back r v 0 (strong v 0 (omega (arith, r.nodes)) some)

-- the edges below e are turned round
pub record IsReversedBelow (g back : Graph) (e : ℕ) : Type 0 where
  pub nodes : back.nodes ≡ g.nodes
  pub edges : edge_count back ≡ e
  pub begins : (d : ℕ) → d < edge_count back → from back d ≡ to g d
  pub ends : (d : ℕ) → d < edge_count back → to back d ≡ from g d

pub IsReversedBelow-more : (g back : Graph) (e u v : ℕ) → u ≡ to g e → v ≡ from g e → IsReversedBelow g back e → IsReversedBelow g (with_edge back u v) (e + 1)
IsReversedBelow-more g back e u v begins ends r = grind (arith, edge_count-with, from-old, from-new, to-old, to-new)
