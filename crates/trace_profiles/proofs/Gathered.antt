-- The rounds of a run, one firing after another.
use Rattle.std.proofs.Common.{◌≡◌, ◌<◌, ℕ, ◌+◌, ◌-◌, ◌^◌, List, [], ◌∷◌, ◌++◌, Option, Some, None, drop, get_or, length, min, refl, sym, ap, ◌∙◌, append_assoc, arith}
use Rattle.std.specs.Prelude.{option_map, slice_get}
use Rattle.std.proofs.lemmas.List.{at_drop_more}
use Rattle.std.proofs.lemmas.Option.{slice_get-get_or, slice_get_within}
use Rattle.printed_graphs.specs.declared.dataflow.Node.{Node}
use Rattle.printed_graphs.specs.declared.dataflow.PrintedGraph.{PrintedGraph}
use Rattle.printed_graphs.specs.declared.trace.Firing.{Firing}
use Rattle.printed_graphs.specs.declared.trace.NodeName.{NodeName}
use Rattle.trace_profiles.specs.declared.loads.Loads.{Loads}
use Rattle.trace_profiles.specs.declared.rounds.Rounds.{Rounds}
use Rattle.trace_profiles.specs.Rounds.{Round, next_round, round_of}
use Rattle.trace_profiles.specs.RunRounds.{Fires, TellsFiring, name_of, rounds_from}
use Rattle.trace_profiles.specs.Tables.{Tells}

-- After so many firings the tables tell them, and what is gathered goes on as the whole does.
pub record Gathers (g : PrintedGraph) (order : Loads) (firings : List Firing) (r : Rounds) (all : List ℕ) (i before line : ℕ) : Type 0 where
  pub fired : List Round
  pub graph : r.graph.now ≡ g
  pub loads : r.loads ≡ order
  pub tells : Tells r fired
  pub whole : all ++ rounds_from g order fired (drop i firings) ≡ rounds_from g order [] firings
  pub nodes : (k : ℕ) (d : Firing) → k < i → Fires g.nodes.items (get_or firings k d)
  pub line_is : line ≡ min (before + i) (2 ^ 64 - 1)

within : (nodes : List Node) (k : ℕ) (found : Option Node) (name : NodeName) → slice_get nodes k ≡ found → option_map name_of found ≡ Some name → k < length nodes
within nodes k None name is named = absurd cc
within nodes k (Some node) name is named = slice_get_within nodes k node is

-- the graph has the node that fired
pub fired_inside : (nodes : List Node) (f : Firing) → Fires nodes f → f.node < length nodes
fired_inside nodes f fires = within nodes f.node (slice_get nodes f.node) f.name refl fires

same_firing : (firings : List Firing) (i : ℕ) (d e : Firing) → i < length firings → get_or firings i d ≡ get_or firings i e
same_firing firings i d e more =
    let first = slice_get-get_or firings i d more in
    let second = slice_get-get_or firings i e more in
    cc

one_fires : (nodes : List Node) (firings : List Firing) (i : ℕ) (d : Firing) → ((k : ℕ) (e : Firing) → k < i → Fires nodes (get_or firings k e)) → i < length firings → Fires nodes (get_or firings i d) → (k : ℕ) (e : Firing) → k < i + 1 → Fires nodes (get_or firings k e)
one_fires nodes firings i d old more fires k e low = grind (arith, old k e, same_firing firings k e d)

-- one firing more
pub one_more_firing : (g : PrintedGraph) (order : Loads) (firings : List Firing) (r next : Rounds) (all : List ℕ) (i before line told n : ℕ) (d : Firing) → Gathers g order firings r all i before line → i < length firings → Fires g.nodes.items (get_or firings i d) → next.graph ≡ r.graph → next.loads ≡ r.loads → ((rs : List Round) → Tells r rs → n ≡ next_round r.graph.now r.loads rs (get_or firings i d).node) → ((rs : List Round) → Tells r rs → Tells next (round_of (get_or firings i d).node n ∷ rs)) → told ≡ min (line + 1) (2 ^ 64 - 1) → Gathers g order firings next (all ++ n ∷ []) (i + 1) before told
one_more_firing g order firings r next all i before line told n d so_far more fires same kept round tells one =
    let f = get_or firings i d in
    let rest = drop (i + 1) firings in
    let is : n ≡ next_round g order so_far.fired f.node = rw (sym so_far.graph, sym so_far.loads) (round so_far.fired so_far.tells) in
    let line_is = so_far.line_is in
    record {
      fired = round_of f.node n ∷ so_far.fired;
      graph = ap (λ b. b.now) same ∙ so_far.graph;
      loads = kept ∙ so_far.loads;
      tells = tells so_far.fired so_far.tells;
      whole = append_assoc all (n ∷ []) (rounds_from g order (round_of f.node n ∷ so_far.fired) rest)
          ∙ ap (λ m. all ++ m ∷ rounds_from g order (round_of f.node m ∷ so_far.fired) rest) is
          ∙ ap (λ rounds. all ++ rounds) (sym (at_drop_more (rounds_from g order so_far.fired) firings i d more))
          ∙ so_far.whole;
      nodes = one_fires g.nodes.items firings i d so_far.nodes more fires;
      line_is = omega (arith, line_is, one);
    }

-- the first firing of a node that the graph doesn't have
pub other_firing : (g : PrintedGraph) (order : Loads) (firings : List Firing) (r : Rounds) (all : List ℕ) (i before line told : ℕ) (d : Firing) → Gathers g order firings r all i before line → i < length firings → (Fires g.nodes.items (get_or firings i d) → ⊥) → told ≡ min (line + 1) (2 ^ 64 - 1) → TellsFiring g.nodes.items firings before told
other_firing g order firings r all i before line told d so_far more no_node one =
    let line_is = so_far.line_is in
    record {
      place = i;
      inside = more;
      earlier = so_far.nodes;
      is_none = λ e fires. no_node (rw (same_firing firings i d e more) fires);
      line_is = omega (arith, line_is, one);
    }
