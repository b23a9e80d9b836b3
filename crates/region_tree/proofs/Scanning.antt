-- The steps of a search over all edges.
use Rattle.std.proofs.Common.{◌≡◌, ◌≢◌, ℕ, zero, suc, ◌+◌, ◌<◌, ◌≤◌, ◌↔◌, ◌==◌, Bool, true, false, List, [], ◌∷◌, ◌++◌, length, take, get_or, set, inl, inr, ⊎_elim, if◌then◌else◌, refl, sym, ap, ◌∙◌, arith, length-set, length-append, append_assoc}
use Rattle.std.proofs.lemmas.Bool.{eqb-true}
use Rattle.std.proofs.lemmas.Bool.Decides.{nat_tests}
use Rattle.std.proofs.lemmas.Grind.{elements}
use Rattle.std.proofs.lemmas.List.{append-nil, get_or_append_left, get_or-append_right, take-append-le, take_all, take_more}
use Rattle.std.proofs.lemmas.List.Elements.{filter_more}
use Rattle.closed_walks.specs.Graph.{Graph, edge_count, from, to, touches, edges_at}
use Rattle.closed_walks.specs.Walk.{Walk, Holds}
use Rattle.closed_walks.specs.Cycle.{AllDiffer}
use Rattle.closed_walks.specs.Region.{IsFlowGraph, IsReachedBy, IsGrown}
use Rattle.region_tree.specs.Scan.{leaving, edges_from, IsScan, is_seen, unseen, IsOrder, IsHead, Discovers, Finds}
use Rattle.closed_walks.proofs.Held.{Holds-left, Holds-right, Holds-append, Holds-at, Holds-take_append, Holds-filter, filter-Holds, AllDiffer-append, AllDiffer-filter, AllDiffer-rising}

ruleset held = (Holds-left, Holds-right, Holds-append)

-- ---- the edges that begin at nodes

-- the edges of a node are those that touch it, in the order of their numbers
pub record NodeEdges (g : Graph) : Type 0 where
  pub touch : (node e : ℕ) → Holds (edges_at g node) e ↔ ((e < edge_count g) × (touches g node e ≡ true))
  pub rise : (node i j : ℕ) → i < j → j < length (edges_at g node) → get_or (edges_at g node) i 0 < get_or (edges_at g node) j 0

module _ (g : Graph) (law : NodeEdges g) where
  leaving_begins : (node e : ℕ) → Holds (leaving g node (edges_at g node)) e → (e < edge_count g) × (from g e ≡ node)
  leaving_begins node e h = search (filter-Holds, law.touch, eqb-true, arith)

  begins_leaving : (node e : ℕ) → e < edge_count g → from g e ≡ node → Holds (leaving g node (edges_at g node)) e
  begins_leaving node e edge begins = grind (arith, nat_tests, law.touch, Holds-filter)

  edges_begin : (nodes : List ℕ) (e : ℕ) → Holds (edges_from g nodes) e → (e < edge_count g) × Holds nodes (from g e)
  edges_begin [] e h = absurd h
  edges_begin (node ∷ nodes) e h = grind (arith, Holds-append, leaving_begins, edges_begin nodes e)

  begin_edges : (nodes : List ℕ) (e : ℕ) → e < edge_count g → Holds nodes (from g e) → Holds (edges_from g nodes) e
  begin_edges [] e edge h = absurd h
  begin_edges (node ∷ nodes) e edge h = grind (arith, begins_leaving, begin_edges nodes e, held)

  edges_differ : (nodes : List ℕ) → AllDiffer nodes → AllDiffer (edges_from g nodes)
  edges_differ [] differ = tt
  edges_differ (node ∷ nodes) differ =
      AllDiffer-append _ _ (AllDiffer-filter (λ e. from g e == node) _ (AllDiffer-rising _ (law.rise node))) (edges_differ nodes differ.1)
      (λ e l r. grind (arith, leaving_begins node e, edges_begin nodes e, differ.0))

edges_from-push : (g : Graph) (nodes : List ℕ) (node : ℕ) → edges_from g (nodes ++ node ∷ []) ≡ edges_from g nodes ++ leaving g node (edges_at g node)
edges_from-push g [] node = simp append-nil
edges_from-push g (n ∷ nodes) node = grind (arith, append_assoc, edges_from-push g nodes node)

-- ---- lists of edges that grow

module _ (g : Graph) where
  reached_more : (xs ys : List ℕ) (v : ℕ) → ((e : ℕ) → Holds xs e → Holds ys e) → IsReachedBy g xs v → IsReachedBy g ys v
  reached_more xs ys v within r = record { walk = r.walk; leads = r.leads; among = search (r.among) }

  walk_push : (u e : ℕ) (w : List ℕ) → e < edge_count g → Walk g u w (from g e) → Walk g u (w ++ e ∷ []) (to g e)
  walk_push u e [] edge leads = grind arith
  walk_push u e (f ∷ w) edge leads = search (walk_push (to g f) e w edge)

  reached_on : (xs : List ℕ) (e : ℕ) → e < edge_count g → Holds xs e → IsReachedBy g xs (from g e) → IsReachedBy g xs (to g e)
  reached_on xs e edge held_e r = record { walk = r.walk ++ e ∷ []; leads = walk_push 0 e r.walk edge r.leads; among = λ f h. grind (arith, r.among f, Holds-append r.walk (e ∷ []) f) }

  IsGrown-append : (xs ys : List ℕ) → IsGrown g xs → ((e : ℕ) → Holds ys e → IsReachedBy g xs (from g e)) → IsGrown g (xs ++ ys)
  IsGrown-append xs ys grown begins i within = grind (arith, grown i, begins, get_or_append_left, get_or-append_right, take-append-le, length-append, reached_more xs, Holds-at, Holds-take_append)

-- ---- one node more

unseen-set : (seen : List Bool) (v : ℕ) → v < length seen → is_seen seen v ≡ false → unseen (set seen v true) + 1 ≡ unseen seen
unseen-set [] v within blank = absurd (omega arith)
unseen-set (true ∷ seen) zero within blank = cc
unseen-set (false ∷ seen) zero within blank = refl
unseen-set (true ∷ seen) (suc v) within blank = unseen-set seen v (omega arith) blank
unseen-set (false ∷ seen) (suc v) within blank = omega (arith, unseen-set seen v)

-- What became of the order where a node was put after it, if it wasn't in it.
pub record IsFound (g : Graph) (node : ℕ) (before : List Bool) (first : List ℕ) (seen : List Bool) (order : List ℕ) : Type 0 where
  pub order_is : IsOrder g order seen
  pub there : Holds order node
  pub work : unseen seen + length order ≡ unseen before + length first
  pub more : List ℕ
  pub prefix : order ≡ first ++ more
  pub new : (v : ℕ) → Holds more v → v ≡ node

module _ (g : Graph) (node : ℕ) (before : List Bool) (first : List ℕ) (o : IsOrder g first before) (exists : node < g.nodes) where
  found_old : is_seen before node ≡ true → IsFound g node before first before first
  found_old old = record { order_is = o; there = grind (arith, o.marks node); work = refl; more = []; prefix = sym (append-nil first); new = grind arith }

  found_new : is_seen before node ≡ false → IsFound g node before first (set before node true) (first ++ node ∷ [])
  found_new blank =
      let inside : node < length before = omega (arith, o.size) in
      record {
        order_is = record {
          size = grind (arith, length-set, o.size);
          nodes = λ v h. grind (arith, o.nodes v, Holds-append first (node ∷ []) v);
          once = AllDiffer-append first (node ∷ []) o.once (λ h. h, tt) (λ e l r. grind (arith, o.marks node));
          marks = λ v. grind (arith, o.marks v, elements, Holds-append first (node ∷ []) v, Holds-left first (node ∷ []) v, Holds-right first (node ∷ []) v);
        };
        there = Holds-right first (node ∷ []) node (inl refl);
        work = omega (arith, unseen-set before node inside blank, length-append first (node ∷ []));
        more = node ∷ [];
        prefix = refl;
        new = grind arith;
      }

  pub found : (seen : List Bool) (order : List ℕ) → Finds node before first seen order → IsFound g node before first seen order
  found seen order (inl (old, same_seen, same_order)) = rw (same_seen, same_order) (found_old old)
  found seen order (inr (blank, same_seen, same_order)) = rw (same_seen, same_order) (found_new blank)

-- ---- the edges of one node

-- What has been done for the node after its first k edges.
pub record IsLeaving (g : Graph) (node k : ℕ) (old : List ℕ) (before : List Bool) (first edges : List ℕ) (seen : List Bool) (order : List ℕ) : Type 0 where
  pub edges_are : edges ≡ old ++ leaving g node (take k (edges_at g node))
  pub order_is : IsOrder g order seen
  pub found : Discovers g (leaving g node (take k (edges_at g node))) first order
  pub work : unseen seen + length order ≤ unseen before + length first

module _ (g : Graph) (node : ℕ) (old : List ℕ) (before : List Bool) (first : List ℕ) (k : ℕ) (within : k < length (edges_at g node)) (edges : List ℕ) (seen : List Bool) (order : List ℕ) (s : IsLeaving g node k old before first edges seen order) where
  -- the edges that begin at the node, with the next
  next_leaves : leaving g node (take (k + 1) (edges_at g node)) ≡ leaving g node (take k (edges_at g node)) ++ (if from g (get_or (edges_at g node) k 0) == node then get_or (edges_at g node) k 0 ∷ [] else [])
  next_leaves = filter_more (λ e. from g e == node) (edges_at g node) k 0 within

  -- an edge that doesn't begin at the node
  pub IsLeaving-skip : from g (get_or (edges_at g node) k 0) ≢ node → IsLeaving g node (k + 1) old before first edges seen order
  IsLeaving-skip apart =
      let same : leaving g node (take (k + 1) (edges_at g node)) ≡ leaving g node (take k (edges_at g node)) = grind (arith, nat_tests, append-nil, next_leaves) in
      record { edges_are = cc; order_is = s.order_is; found = rw same s.found; work = s.work }

  -- an edge that begins at the node
  pub IsLeaving-take : (after : List Bool) (next : List ℕ) → from g (get_or (edges_at g node) k 0) ≡ node → IsFound g (to g (get_or (edges_at g node) k 0)) seen order after next → IsLeaving g node (k + 1) old before first (edges ++ get_or (edges_at g node) k 0 ∷ []) after next
  IsLeaving-take after next begins f =
      let e = get_or (edges_at g node) k 0 in
      let done = leaving g node (take k (edges_at g node)) in
      let same : leaving g node (take (k + 1) (edges_at g node)) ≡ done ++ e ∷ [] = grind (arith, nat_tests, next_leaves) in
      let either = Holds-append done (e ∷ []) in
      record {
        edges_are = grind (arith, append_assoc, s.edges_are);
        order_is = f.order_is;
        found = rw same (record {
          more = s.found.more ++ f.more;
          prefix = grind (arith, append_assoc, f.prefix, s.found.prefix);
          heads = λ x h. grind (arith, either x, s.found.heads x, Holds-left, f.prefix, f.there);
          new = λ v h. ⊎_elim
              (λ (l : Holds s.found.more v). let i : IsHead g done v = s.found.new v l in record { edge = i.edge; among = Holds-left done (e ∷ []) i.edge i.among; ends = i.ends })
              (λ (r : Holds f.more v). record { edge = e; among = Holds-right done (e ∷ []) e (inl refl); ends = sym (f.new v r) })
              (Holds-append s.found.more f.more v h);
        });
        work = omega (arith, s.work, f.work);
      }

-- ---- the whole search

-- The edges that begin at the first nodes of the order stand in the list.
pub record IsScanning (g : Graph) (done : ℕ) (edges : List ℕ) (seen : List Bool) (order : List ℕ) : Type 0 where
  pub order_is : IsOrder g order seen
  pub within : done ≤ length order
  pub edges_are : edges ≡ edges_from g (take done order)
  pub grown : IsGrown g edges
  pub reached : (v : ℕ) → Holds order v → IsReachedBy g edges v
  pub heads : (e : ℕ) → Holds edges e → Holds order (to g e)
  pub start : Holds order 0

module _ (g : Graph) (law : NodeEdges g) where
  pub IsScanning-step : (done : ℕ) (edges : List ℕ) (seen : List Bool) (order edges' : List ℕ) (seen' : List Bool) (order' : List ℕ) → IsScanning g done edges seen order → done < length order
      → edges' ≡ edges ++ leaving g (get_or order done 0) (edges_at g (get_or order done 0)) → IsOrder g order' seen' → Discovers g (leaving g (get_or order done 0) (edges_at g (get_or order done 0))) order order'
      → IsScanning g (done + 1) edges' seen' order'
  IsScanning-step done edges seen order edges' seen' order' s more edges_is o d =
      let node = get_or order done 0 in
      let out = leaving g node (edges_at g node) in
      let prefix : take (done + 1) order' ≡ take done order ++ node ∷ [] = rw d.prefix (take-append-le (done + 1) order d.more (omega arith) ∙ take_more order done 0 more) in
      let longer : (e : ℕ) → Holds edges e → Holds edges' e = λ e h. rw edges_is (Holds-left edges out e h) in
      let begun : (e : ℕ) → Holds out e → IsReachedBy g edges (from g e) = λ e h. rw (leaving_begins g law node e h).1 (s.reached node (Holds-at order done more)) in
      record {
        order_is = o;
        within = omega (arith, ap length d.prefix, length-append order d.more);
        edges_are = grind (arith, edges_from-push, s.edges_are);
        grown = rw edges_is (IsGrown-append g edges out s.grown begun);
        reached = λ v h. ⊎_elim
            (λ (l : Holds order v). reached_more g edges edges' v longer (s.reached v l))
            (λ (r : Holds d.more v).
            let i : IsHead g out v = d.new v r in
            let held_i : Holds edges' i.edge = rw edges_is (Holds-right edges out i.edge i.among) in
            rw (← i.ends) (reached_on g edges' i.edge (leaving_begins g law node i.edge i.among).0 held_i (reached_more g edges edges' (from g i.edge) longer (begun i.edge i.among))))
            (Holds-append order d.more v (rw d.prefix at h));
        heads = λ e h. grind (arith, Holds-append edges out e, s.heads e, d.heads e, Holds-left order d.more (to g e), d.prefix, edges_is);
        start = grind (arith, Holds-left order d.more 0, s.start, d.prefix);
      }

  pub IsScanning-end : IsFlowGraph g → (done : ℕ) (edges : List ℕ) (seen : List Bool) (order : List ℕ) → IsScanning g done edges seen order → length order ≤ done → IsScan g edges
  IsScanning-end flow done edges seen order s end =
      let all : edges ≡ edges_from g order = grind (arith, take_all, s.edges_are) in
      let begin : (e : ℕ) → e < edge_count g → Holds order (from g e) → Holds edges e = λ e edge h. rw all (begin_edges g law order e edge h) in
      let start_node : 0 < g.nodes = s.order_is.nodes 0 s.start in
      record {
        exist = λ e h. (edges_begin g law order e (rw all at h)).0;
        all = λ e edge. let way = flow.strong 0 (from g e) start_node (flow.sound.begins e edge) in begin e edge (along 0 (from g e) way.walk begin s.heads way.leads s.start);
        once = rw all (edges_differ g law order s.order_is.once);
        grown = s.grown;
      }
    where
      along : (u v : ℕ) (w : List ℕ) → ((e : ℕ) → e < edge_count g → Holds order (from g e) → Holds edges e) → ((e : ℕ) → Holds edges e → Holds order (to g e)) → Walk g u w v → Holds order u → Holds order v
      along u v [] begin heads leads here = grind arith
      along u v (e ∷ w) begin heads leads here = along (to g e) v w begin heads leads.2 (grind (arith, heads e, begin e))
