-- What is reached in a graph whose excluded edges lead back to where they begin.
use Rattle.std.proofs.Common.{◌≡◌, ℕ, ◌<◌, ◌≤◌, ◌+◌, Bool, true, false, not, ◌&&◌, ◌↔◌, cond, List, [], ◌∷◌, get_or, length-append, refl, sym, ap, subst, ◌∙◌, ⊎_elim, arith}
use Rattle.std.proofs.lemmas.Bool.{cases_Bool, cases_lt, and_parts}
use Rattle.std.proofs.lemmas.List.{get_or_append_left, get_or_push}
use Rattle.closed_walks.specs.Graph.{Graph, edge_count, from, to, with_edge}
use Rattle.closed_walks.specs.Walk.{Walk, Avoids, Reach, no_edge}
use Rattle.f77_tree.specs.declared.programs.Program.{Program}
use Rattle.cfg_build.specs.Flow.{flow}
use Rattle.cfg_build.specs.Joined.{FlowGraph}
use Rattle.cfg_build.specs.Passes.{outs}
use Rattle.dep_routing.specs.Touches.{piece_kind}
use Rattle.const_prop.specs.declared.known.Known.{Known}
use Rattle.const_prop.specs.declared.known.Known.TheVariants.{Nothing, One, Any}
use Rattle.const_prop.specs.Closed.{is_switch}
use Rattle.const_prop.specs.Kept.{IsKeptGraph, excludes, is_other_of}
use Rattle.const_prop.specs.Known.{one_of}
use Rattle.const_prop.specs.Live.{IsLive, is_excluded, is_other}
use Rattle.const_prop.specs.Table.{Knowns}
use Rattle.const_prop.proofs.Raising.{true_of_not}
use Rattle.std.proofs.lemmas.Bool.{and_from}

-- ---- a graph with one edge more

from-old : (g : Graph) (u v e : ℕ) → e < edge_count g → from (with_edge g u v) e ≡ from g e
unfolding from
from-old g u v e edge = ap (λ p. p.0) (get_or_append_left g.edges ((u, v) ∷ []) (0, 0) e edge)

to-old : (g : Graph) (u v e : ℕ) → e < edge_count g → to (with_edge g u v) e ≡ to g e
unfolding to
to-old g u v e edge = ap (λ p. p.1) (get_or_append_left g.edges ((u, v) ∷ []) (0, 0) e edge)

from-new : (g : Graph) (u v : ℕ) → from (with_edge g u v) (edge_count g) ≡ u
unfolding from
from-new g u v = ap (λ p. p.0) (get_or_push g.edges (u, v) (0, 0) (edge_count g) refl)

to-new : (g : Graph) (u v : ℕ) → to (with_edge g u v) (edge_count g) ≡ v
unfolding to
to-new g u v = ap (λ p. p.1) (get_or_push g.edges (u, v) (0, 0) (edge_count g) refl)

-- ---- kept edges

module _ (g : Graph) (excluded : ℕ → Bool) where
  -- one edge more
  pub kept-more : (n u v : ℕ) (kept : Graph) → u ≡ from g n → v ≡ cond (excluded n) (from g n) (to g n) → IsKeptGraph g excluded n kept → IsKeptGraph g excluded (n + 1) (with_edge kept u v)
  kept-more n u v kept begins ends old =
      let count = length-append kept.edges ((u, v) ∷ []) in
      record {
        nodes = old.nodes;
        edges = (let was = old.edges in omega (arith, was, count));
        begins = λ e l. ⊎_elim
            (λ (low : e < edge_count kept). from-old kept u v e low ∙ old.begins e (subst (λ k. e < k) old.edges low))
            (λ (high : edge_count kept ≤ e).
            let last : e ≡ edge_count kept = (let was = old.edges in omega (arith, l, high, was)) in
            ap (from (with_edge kept u v)) last ∙ from-new kept u v ∙ begins ∙ ap (from g) (sym old.edges ∙ sym last))
            (cases_lt e (edge_count kept));
        ends = λ e l. ⊎_elim
            (λ (low : e < edge_count kept). to-old kept u v e low ∙ old.ends e (subst (λ k. e < k) old.edges low))
            (λ (high : edge_count kept ≤ e).
            let last : e ≡ edge_count kept = (let was = old.edges in omega (arith, l, high, was)) in
            ap (to (with_edge kept u v)) last ∙ to-new kept u v ∙ ends ∙ ap (λ k. cond (excluded k) (from g k) (to g k)) (sym old.edges ∙ sym last))
            (cases_lt e (edge_count kept));
      }

  module _ (kept : Graph) (is : IsKeptGraph g excluded (edge_count g) kept) where
    edge_in : (e : ℕ) → e < edge_count kept → e < edge_count g
    edge_in e l = subst (λ n. e < n) is.edges l

    kept-walk : (u : ℕ) (w : List ℕ) (v : ℕ) → Walk g u w v → Avoids excluded w → Walk kept u w v
    kept-walk u [] v leads avoids = leads
    kept-walk u (e ∷ w) v leads avoids =
        let end : to kept e ≡ to g e = is.ends e leads.0 ∙ ap (λ b. cond b (from g e) (to g e)) avoids.0 in
        (subst (λ n. e < n) (sym is.edges) leads.0, is.begins e leads.0 ∙ leads.1, subst (λ n. Walk kept n w v) (sym end) (kept-walk (to g e) w v leads.2 avoids.1))

    none-avoided : (w : List ℕ) → Avoids no_edge w
    none-avoided [] = tt
    none-avoided (e ∷ w) = (refl, none-avoided w)

    walk-reach : (u : ℕ) (w : List ℕ) (v : ℕ) → Walk kept u w v → Reach g excluded u v
    walk-reach u [] v leads = record { walk = []; leads = leads; avoids = tt }
    walk-reach u (e ∷ w) v leads =
        let edge = edge_in e leads.0 in
        let begins : from g e ≡ u = sym (is.begins e edge) ∙ leads.1 in
        let rest = walk-reach (to kept e) w v leads.2 in
        ⊎_elim
        (λ (out : excluded e ≡ true).
        let end : to kept e ≡ u = is.ends e edge ∙ ap (λ b. cond b (from g e) (to g e)) out ∙ begins in
        subst (λ n. Reach g excluded n v) end rest)
        (λ (in' : excluded e ≡ false).
        let end : to kept e ≡ to g e = is.ends e edge ∙ ap (λ b. cond b (from g e) (to g e)) in' in
        let on = subst (λ n. Reach g excluded n v) end rest in
        record { walk = e ∷ on.walk; leads = (edge, begins, on.leads); avoids = (in', on.avoids) })
        (cases_Bool (excluded e))

    -- the same nodes are reached
    pub kept-reach : (u v : ℕ) → Reach kept no_edge u v ↔ Reach g excluded u v
    kept-reach u v = (
      λ r. walk-reach u r.walk v r.leads,
      λ r. record { walk = r.walk; leads = kept-walk u r.walk v r.leads r.avoids; avoids = none-avoided r.walk },
    )

-- ---- live edges

other-alike : (p : Program) (t : Knowns) (node e : ℕ) (k : Known) → is_other_of (outs (flow p.execs).graph node) k e ≡ is_other p t node e (one_of k)
other-alike p t node e Nothing = refl
other-alike p t node e (One v) = refl
other-alike p t node e Any = refl

excluded-alike : (p : Program) (t : Knowns) (e : ℕ) → excludes (flow p.execs) t e ≡ is_excluded p t e
excluded-alike p t e =
    let node = from (flow p.execs).graph e in
    ap (λ b. is_switch (piece_kind p node) && b) (other-alike p t node e (t.decision node))

avoids-alike : (g : Graph) (few many : ℕ → Bool) → ((e : ℕ) → e < edge_count g → few e ≡ many e) → (u : ℕ) (w : List ℕ) (v : ℕ) → Walk g u w v → Avoids few w → Avoids many w
avoids-alike g few many same u [] v leads avoids = tt
avoids-alike g few many same u (e ∷ w) v leads avoids = (sym (same e leads.0) ∙ avoids.0, avoids-alike g few many same (to g e) w v leads.2 avoids.1)

-- what is told of the edges of a flow graph
pub record TellLive (f : FlowGraph) (t : Knowns) (excluded reached live : ℕ → Bool) (kept : Graph) : Type 0 where
  pub is_kept : IsKeptGraph f.graph excluded (edge_count f.graph) kept
  pub excludes_all : (e : ℕ) → e < edge_count f.graph → excluded e ≡ excludes f t e
  pub reaches : (v : ℕ) → (reached v ≡ true) ↔ Reach kept no_edge 0 v
  pub tells : (e : ℕ) → e < edge_count f.graph → live e ≡ (not (excluded e) && reached (from f.graph e))

live-there : (p : Program) (t : Knowns) (excluded reached live : ℕ → Bool) (kept : Graph) → TellLive (flow p.execs) t excluded reached live kept → (e : ℕ) → e < edge_count (flow p.execs).graph → (live e ≡ true) ↔ IsLive p t e
live-there p t excluded reached live kept told e l =
    let g = (flow p.execs).graph in
    let same : (d : ℕ) → d < edge_count g → excluded d ≡ is_excluded p t d = λ d k. told.excludes_all d k ∙ excluded-alike p t d in
    let node = from g e in (
      λ is.
          let both = and_parts (not (excluded e)) (reached node) (sym (told.tells e l) ∙ is) in
          let r = (kept-reach g excluded kept told.is_kept 0 node).0 ((told.reaches node).0 both.1) in
          record {
            edge = l;
            reached = record { walk = r.walk; leads = r.leads; avoids = avoids-alike g excluded (is_excluded p t) same 0 r.walk node r.leads r.avoids };
            kept = sym (same e l) ∙ true_of_not (excluded e) both.0;
          },
      λ is.
          let r = is.reached in
          let at : Reach g excluded 0 node = record { walk = r.walk; leads = r.leads; avoids = avoids-alike g (is_excluded p t) excluded (λ d k. sym (same d k)) 0 r.walk node r.leads r.avoids } in
          told.tells e l ∙ and_from (not (excluded e)) (reached node) (ap not (same e l ∙ is.kept)) ((told.reaches node).1 ((kept-reach g excluded kept told.is_kept 0 node).1 at)),
    )

pub live-told : (p : Program) (f : FlowGraph) (t : Knowns) (excluded reached live : ℕ → Bool) (kept : Graph) → f ≡ flow p.execs → TellLive f t excluded reached live kept → (e : ℕ) → e < edge_count f.graph → (live e ≡ true) ↔ IsLive p t e
live-told p f t excluded reached live kept is told e l =
    live-there p t excluded reached live kept (subst (λ (g : FlowGraph). TellLive g t excluded reached live kept) is told) e (subst (λ (g : FlowGraph). e < edge_count g.graph) is l)

-- what is told of the values of references
pub told-alike : (f : FlowGraph) (g : Graph) (excluded reached xs ys : List Bool) (live : ℕ → Bool) → g ≡ f.graph → xs ≡ excluded → ys ≡ reached → ((e : ℕ) → e < edge_count g → live e ≡ (not (get_or xs e false) && get_or ys (from g e) false)) → (e : ℕ) → e < edge_count f.graph → live e ≡ (not (get_or excluded e false) && get_or reached (from f.graph e) false)
told-alike f g excluded reached xs ys live same same_x same_y tells e l =
    tells e (subst (λ (x : Graph). e < edge_count x) (sym same) l)
    ∙ ap (λ (zs : List Bool). not (get_or zs e false) && get_or ys (from g e) false) same_x
    ∙ ap (λ (zs : List Bool). not (get_or excluded e false) && get_or zs (from g e) false) same_y
    ∙ ap (λ (x : Graph). not (get_or excluded e false) && get_or reached (from x e) false) same
