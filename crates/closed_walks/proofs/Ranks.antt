-- Numbers of edges that rise inwards, by a walk that holds every edge; and lists of edges that grow from the start.
use Rattle.std.proofs.Common.{◌≡◌, ◌≢◌, ℕ, zero, suc, ◌+◌, ◌<◌, ◌≤◌, ◌==◌, if◌then◌else◌, List, [], ◌∷◌, ◌++◌, length, take, get_or, refl, sym, ap, ◌∙◌, subst, inl, ⊎_elim, arith}
use Rattle.std.proofs.lemmas.Bool.{cases_eq, cases_order, eq-eqb, ne_eqb}
use Rattle.closed_walks.specs.Graph.{Graph, edge_count, from, to}
use Rattle.closed_walks.specs.Walk.{Walk, Holds, Reach, no_edge, only}
use Rattle.closed_walks.specs.Region.{IsFlowGraph, IsPair, IsBefore, IsInside, IsEntered, IsRank, IsReachedBy, IsGrown}
use Rattle.closed_walks.proofs.Walks.{Holds-left, Holds-right, Walk-append, cases_Holds}
use Rattle.closed_walks.proofs.Reaching.{stay, join, along}
use Rattle.closed_walks.proofs.Classes.{Avoids-only, equivalent_on}
use Rattle.closed_walks.proofs.Cuts.{side}
use Rattle.closed_walks.proofs.Orders.{IsPair-back, start_node, side_inside, pair_entered, not_both, either_before, entered_by}

-- ---- the first place of an edge in a walk

place : ℕ → List ℕ → ℕ
place e [] = 0
place e (f ∷ w) = if f == e then 0 else suc (place e w)

place-none : (e : ℕ) → place e [] ≡ 0
unfolding place
place-none e = refl

place-here : (e f : ℕ) (w : List ℕ) → f ≡ e → place e (f ∷ w) ≡ 0
unfolding place
place-here e f w same = ap (λ t. if t then 0 else suc (place e w)) (eq-eqb f e same)

place-later : (e f : ℕ) (w : List ℕ) → f ≢ e → place e (f ∷ w) ≡ suc (place e w)
unfolding place
place-later e f w apart = ap (λ t. if t then 0 else suc (place e w)) (ne_eqb f e apart)

place-within : (e : ℕ) (w : List ℕ) → place e w < length w + 1
place-within e [] = let none : place e [] ≡ 0 = place-none e in omega (arith, none)
place-within e (f ∷ w) = ⊎_elim
    (λ (same : f ≡ e). let here = place-here e f w same in omega (arith, here))
    (λ (apart : f ≢ e). let later = place-later e f w apart in let rest = place-within e w in omega (arith, later, rest))
    (cases_eq f e)

module _ (g : Graph) where
  -- an edge without which another isn't come to stands before it
  place-before : (a e u v : ℕ) (w : List ℕ) → Walk g u w v → Holds w e → (Reach g (only a) u (from g e) → ⊥) → place a w < place e w
  place-before a e u v [] leads holds none = absurd holds
  place-before a e u v (f ∷ w) leads holds none = ⊎_elim
      (λ (same : f ≡ e). absurd (none (stay g (only a) u (from g e) (sym leads.1 ∙ ap (from g) same))))
      (λ (apart : f ≢ e). ⊎_elim
      (λ (same : f ≡ a). let here = place-here a f w same in let later = place-later e f w apart in omega (arith, here, later))
      (λ (other : f ≢ a).
      let step : Reach g (only a) u (to g f) = subst (λ n. Reach g (only a) n (to g f)) leads.1 (along g (only a) f leads.0 (ne_eqb f a other)) in
      let rest = place-before a e (to g f) v w leads.2 (⊎_elim (λ same. absurd (apart same)) (λ h. h) holds) (λ r. none (join g (only a) u (to g f) (from g e) step r)) in
      let first = place-later a f w other in
      let second = place-later e f w apart in
      omega (arith, first, second, rest))
      (cases_eq f a))
      (cases_eq f e)

module _ (g : Graph) (flow : IsFlowGraph g) where
  -- ---- a walk that holds every edge

  -- a walk from the start back to it, with each edge below k
  record IsTour (k : ℕ) : Type 0 where
    pub walk : List ℕ
    pub leads : Walk g 0 walk 0
    pub holds : (e : ℕ) → e < k → Holds walk e

  tour : (k : ℕ) → k ≤ edge_count g → IsTour k
  tour zero some = record { walk = []; leads = refl; holds = λ e h. absurd (omega (arith, h)) }
  tour (suc k) some =
      let t : IsTour k = tour k (omega arith) in
      let out : Reach g no_edge 0 (from g k) = flow.strong 0 (from g k) (start_node g flow) (flow.sound.begins k some) in
      let back : Reach g no_edge (to g k) 0 = flow.strong (to g k) 0 (flow.sound.ends k some) (start_node g flow) in
      record {
        walk = t.walk ++ (out.walk ++ k ∷ back.walk);
        leads = Walk-append g 0 0 0 t.walk (out.walk ++ k ∷ back.walk) t.leads (Walk-append g 0 (from g k) 0 out.walk (k ∷ back.walk) out.leads (some, refl, back.leads));
        holds = λ e h. ⊎_elim
            (λ (same : e ≡ k). Holds-right t.walk (out.walk ++ k ∷ back.walk) e (Holds-right out.walk (k ∷ back.walk) e (inl (sym same))))
            (⊎_elim
            (λ (old : e < k). Holds-left t.walk (out.walk ++ k ∷ back.walk) e (t.holds e old))
            (λ (past : k < e). absurd (omega arith)))
            (cases_order e k);
      }

  whole : IsTour (edge_count g)
  whole = tour (edge_count g) (omega arith)

  pub rank_of : ℕ → ℕ
  rank_of e = place e whole.walk

  pub rank_bound : ℕ
  rank_bound = length whole.walk + 1

  pub IsRank-of : IsRank g rank_of rank_bound
  unfolding rank_of rank_bound
  IsRank-of = record {
    below = λ e. place-within e whole.walk;
    rises = λ a b e p before edge inside.
        place-before g a e 0 0 whole.walk whole.leads (whole.holds e edge) (λ way. entered_by g flow a b p before (from g e) way inside);
  }

  -- of two edges of a class the one that is met first has the lesser number
  pub rank_before : (a b : ℕ) → IsPair g a b → IsBefore g a b → rank_of a < rank_of b
  rank_before a b p before =
      let cut : IsEntered g (side g a b) a b = pair_entered g flow a b p in
      IsRank-of.rises a b b p before p.second (side_inside g flow a b (from g b) cut.exit_tail)

  pub before_on : (a b c : ℕ) → IsPair g a b → IsPair g b c → IsBefore g a b → IsBefore g b c → IsBefore g a c
  before_on a b c p q first second = search (rank_before, not_both, equivalent_on, IsPair-back, either_before, arith)

  -- ---- lists that grow

  -- in a grown list the first edge of two stands before each edge that begins between them
  pub grown_before : (a b : ℕ) → IsPair g a b → IsBefore g a b → (edges : List ℕ) → IsGrown g edges → (i : ℕ) → i < length edges → IsInside g a b (from g (get_or edges i 0)) → Holds (take i edges) a
  grown_before a b p before edges grown i within inside =
      let r : IsReachedBy g (take i edges) (from g (get_or edges i 0)) = grown i within in
      ⊎_elim
      (λ h. r.among a h)
      (λ none. absurd (entered_by g flow a b p before (from g (get_or edges i 0)) (record { walk = r.walk; leads = r.leads; avoids = Avoids-only r.walk a none }) inside))
      (cases_Holds r.walk a)
