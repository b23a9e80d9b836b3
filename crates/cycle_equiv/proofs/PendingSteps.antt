-- The lists of brackets, where the walk takes an edge to a node that was found before.
use Rattle.std.proofs.Common.{◌≡◌, ◌≢◌, ℕ, ◌+◌, ◌<◌, ◌≤◌, ◌⊎◌, ◌↔◌, true, List, ◌∷◌, refl, sym, ap, ◌∙◌, subst, inl, inr, ⊎_elim, arith}
use Rattle.std.proofs.lemmas.Bool.{cases_eq, cases_lt, false≢true, lt-ltb, le-ltb}
use Rattle.closed_walks.specs.Graph.{Graph, edge_count, touches}
use Rattle.closed_walks.specs.Walk.{Holds}
use Rattle.cycle_equiv.specs.DepthFirst.{Joins, IsBelow}
use Rattle.cycle_equiv.specs.BracketLists.{place, IsOver, AreInOrder}
use Rattle.cycle_equiv.specs.Walking.{Trail, IsTaken, IsOpen, IsTrail, earlier, put, taking}
use Rattle.cycle_equiv.specs.TrailReaches.{Reaches, IsUpwards, reaching}
use Rattle.cycle_equiv.specs.Pending.{IsCapping, LeadsUp, IsPending, IsCarrier, IsCarried, LeadsSomewhere, AreOpenLists, AreCaps, IsHeldNow, AreLeftLists}
use Rattle.cycle_equiv.proofs.Steps.{put_same, put_other, joins_back, joins_one, two_ends, joins_touches, earlier_less, taken_still, taken_elsewhere, taken_now, taken_here}
use Rattle.cycle_equiv.proofs.OpenPath.{one_edge, not_taken_above}
use Rattle.cycle_equiv.proofs.Reached.{upper_is}

-- ---- the place from which a bracket leads

pub place_upwards : (g : Graph) (w : Trail) (b low end : ℕ) → IsUpwards g w b low end → place g w.tree b ≡ w.tree.preorder low
place_upwards g w b low end h = grind (arith, upper_is g w.tree b low end h.joins h.above, lt-ltb b (edge_count g) h.taken.edge)

module _ (g : Graph) (w : Trail) (u : ℕ) (walk : IsTrail g w u) (r : Reaches) where
  pub place_capping : (b low end : ℕ) → IsCapping g w r b low end → place g w.tree b ≡ w.tree.preorder low
  place_capping b low end h =
      grind (arith, upper_is g w.tree (w.tree.parent_edge low) low (w.tree.parent low), joins_back g (w.tree.parent_edge low) (w.tree.parent low) low, le-ltb b (edge_count g))

  pub place_leads : (b low end : ℕ) → LeadsUp g w r b low end → place g w.tree b ≡ w.tree.preorder low
  place_leads b low end h = ⊎_elim (λ (back : IsUpwards g w b low end). place_upwards g w b low end back) (λ (cap : IsCapping g w r b low end). place_capping b low end cap) h

  pub pending_leads : (b low : ℕ) (h : IsPending g w r b low) → LeadsUp g w r b low h.end
  pending_leads b low h = grind arith

  pub place_pending : (b low : ℕ) → IsPending g w r b low → place g w.tree b ≡ w.tree.preorder low
  place_pending b low h = place_leads b low h.end (pending_leads b low h)

  -- the walk is at the node that carries all from its place on
  pub carrier_here : (low : ℕ) → w.tree.preorder u ≤ w.tree.preorder low → IsCarrier w u low
  carrier_here low later = record { later = later; last = λ y stands before. walk.last y stands }

  pub no_other_open : (p : ℕ) → u ≡ w.tree.root → IsOpen w p → p ≢ w.tree.root → ⊥
  no_other_open p at_root stands other = grind arith

module _ (g : Graph) (w : Trail) (u : ℕ) (walk : IsTrail g w u) (r : Reaches) (lists : ℕ → List ℕ) (kept : AreOpenLists g w r lists)
    (e v : ℕ) (edge : e < edge_count g) (touched : touches g u e ≡ true) (next : earlier g u e ≡ w.taken u) (ends : Joins g e u v) (known : w.found v ≡ true) where
  not_taken : IsTaken g w u e → ⊥
  not_taken h = let early = h.early in omega (arith, early, next)

  open_was : (x : ℕ) → IsOpen (taking w u) x → IsOpen w x
  open_was x h = record { found = h.found; stays = h.stays }

  open_still : (x : ℕ) → IsOpen w x → IsOpen (taking w u) x
  open_still x h = record { found = h.found; stays = h.stays }

  pub upwards_still : (d x z : ℕ) → IsUpwards g w d x z → IsUpwards g (taking w u) d x z
  upwards_still d x z b = record { found = b.found; taken = taken_still g w u x d b.taken; joins = b.joins; above = b.above; other = b.other }

  pub upwards_was : (d x z : ℕ) → IsUpwards g (taking w u) d x z → ((d ≡ e) × (x ≡ u) × (z ≡ v)) ⊎ IsUpwards g w d x z
  upwards_was d x z b = ⊎_elim
      (λ (same : x ≡ u). ⊎_elim
      (λ (this : d ≡ e). inl (this, same, joins_one g e u v z ends (subst (λ n. Joins g e n z) same (subst (λ n. Joins g n x z) this b.joins))))
      (λ (old : IsTaken g w u d). inr (record { found = b.found; taken = subst (λ n. IsTaken g w n d) (sym same) old; joins = b.joins; above = b.above; other = b.other }))
      (taken_here g w u e edge touched next d (subst (λ n. IsTaken g (taking w u) n d) same b.taken)))
      (λ (apart : x ≢ u). inr (record { found = b.found; taken = taken_elsewhere g w u x d apart b.taken; joins = b.joins; above = b.above; other = b.other }))
      (cases_eq x u)

  pub capping_still : (s : Reaches) → s.second ≡ r.second → (b low end : ℕ) → IsCapping g w r b low end → IsCapping g (taking w u) s b low end
  capping_still s same b low end h = record { left = h.left; other = h.other; number = h.number; found = h.found; exact = subst (λ f. w.tree.preorder end ≡ f low) (sym same) h.exact; above = h.above }

  pub capping_was : (s : Reaches) → s.second ≡ r.second → (b low end : ℕ) → IsCapping g (taking w u) s b low end → IsCapping g w r b low end
  capping_was s same b low end h = record { left = h.left; other = h.other; number = h.number; found = h.found; exact = subst (λ f. w.tree.preorder end ≡ f low) same h.exact; above = h.above }

  -- a bracket that was pending still is, but for one along the edge that was taken
  pending_still : (s : Reaches) → s.second ≡ r.second → (b low : ℕ) → b ≢ e → IsPending g w r b low → IsPending g (taking w u) s b low
  pending_still s same b low apart h = record {
    end = h.end;
    kind = ⊎_elim
        (λ (back : IsUpwards g w b low h.end × (IsTaken g w h.end b → ⊥)). inl (
          upwards_still b low h.end back.0,
          λ taken. ⊎_elim
              (λ (here : h.end ≡ u). ⊎_elim
              (λ (this : b ≡ e). apart this)
              (λ (old : IsTaken g w u b). back.1 (subst (λ n. IsTaken g w n b) (sym here) old))
              (taken_here g w u e edge touched next b (subst (λ n. IsTaken g (taking w u) n b) here taken)))
              (λ (there : h.end ≢ u). back.1 (taken_elsewhere g w u h.end b there taken))
              (cases_eq h.end u),
        ))
        (λ (cap : IsCapping g w r b low h.end × IsOpen w h.end). inr (capping_still s same b low h.end cap.0, open_still h.end cap.1))
        h.kind;
  }

  pending_was : (s : Reaches) → s.second ≡ r.second → (b low : ℕ) → b ≢ e → IsPending g (taking w u) s b low → IsPending g w r b low
  pending_was s same b low apart h = record {
    end = h.end;
    kind = ⊎_elim
        (λ (back : IsUpwards g (taking w u) b low h.end × (IsTaken g (taking w u) h.end b → ⊥)). inl (
          ⊎_elim
              (λ (now : (b ≡ e) × (low ≡ u) × (h.end ≡ v)). absurd (apart now.0))
              (λ (old : IsUpwards g w b low h.end). old)
              (upwards_was b low h.end back.0),
          λ taken. back.1 (taken_still g w u h.end b taken),
        ))
        (λ (cap : IsCapping g (taking w u) s b low h.end × IsOpen (taking w u) h.end). inr (capping_was s same b low h.end cap.0, open_was h.end cap.1))
        h.kind;
  }

  carrier_still : (p low : ℕ) → IsCarrier w p low → IsCarrier (taking w u) p low
  carrier_still p low c = record { later = c.later; last = λ y stands. c.last y (open_was y stands) }

  carrier_was : (p low : ℕ) → IsCarrier (taking w u) p low → IsCarrier w p low
  carrier_was p low c = record { later = c.later; last = λ y stands. c.last y (open_still y stands) }

  carried_still : (s : Reaches) → s.second ≡ r.second → (p b : ℕ) → b ≢ e → IsCarried g w r p b → IsCarried g (taking w u) s p b
  carried_still s same p b apart c = record { low = c.low; pending = pending_still s same b c.low apart c.pending; carrier = carrier_still p c.low c.carrier }

  carried_was : (s : Reaches) → s.second ≡ r.second → (p b : ℕ) → b ≢ e → IsCarried g (taking w u) s p b → IsCarried g w r p b
  carried_was s same p b apart c = record { low = c.low; pending = pending_was s same b c.low apart c.pending; carrier = carrier_was p c.low c.carrier }

  somewhere_still : (s : Reaches) → s.second ≡ r.second → (b : ℕ) → LeadsSomewhere g w r b → LeadsSomewhere g (taking w u) s b
  somewhere_still s same b h = record {
    low = h.low;
    end = h.end;
    leads = ⊎_elim
        (λ (back : IsUpwards g w b h.low h.end). inl (upwards_still b h.low h.end back))
        (λ (cap : IsCapping g w r b h.low h.end). inr (capping_still s same b h.low h.end cap))
        h.leads;
  }

  -- ---- an edge that leads neither up nor down: the lists stay

  capping_number : (s : Reaches) (low end : ℕ) → IsCapping g w s e low end → ⊥
  capping_number s low end h = let number = h.number in omega (arith, number, edge)

  never_carried : ((low z : ℕ) → IsUpwards g (taking w u) e low z → ⊥) → (p : ℕ) → IsCarried g w r p e → ⊥
  never_carried never p c = ⊎_elim
      (λ (back : IsUpwards g w e c.low c.pending.end × (IsTaken g w c.pending.end e → ⊥)). never c.low c.pending.end (upwards_still e c.low c.pending.end back.0))
      (λ (cap : IsCapping g w r e c.low c.pending.end × IsOpen w c.pending.end). capping_number r c.low c.pending.end cap.0)
      c.pending.kind

  never_after : ((low z : ℕ) → IsUpwards g (taking w u) e low z → ⊥) → (p : ℕ) → IsCarried g (taking w u) r p e → ⊥
  never_after never p c = ⊎_elim
      (λ (back : IsUpwards g (taking w u) e c.low c.pending.end × (IsTaken g (taking w u) c.pending.end e → ⊥)). never c.low c.pending.end back.0)
      (λ (cap : IsCapping g (taking w u) r e c.low c.pending.end × IsOpen (taking w u) c.pending.end). capping_number r c.low c.pending.end (capping_was r refl e c.low c.pending.end cap.0))
      c.pending.kind

  pub level_lists : ((low z : ℕ) → IsUpwards g (taking w u) e low z → ⊥) → AreOpenLists g (taking w u) r lists
  level_lists never = record {
    empty = kept.empty;
    bracket = λ l b holds. somewhere_still r refl b (kept.bracket l b holds);
    listed = λ p b stands other. ⊎_elim
        (λ (this : b ≡ e). (
          λ holds. absurd (never_carried never p (subst (IsCarried g w r p) this ((kept.listed p b (open_was p stands) other).0 holds))),
          λ carried. absurd (never_after never p (subst (IsCarried g (taking w u) r p) this carried)),
        ))
        (λ (apart : b ≢ e). (
          λ holds. carried_still r refl p b apart ((kept.listed p b (open_was p stands) other).0 holds),
          λ carried. (kept.listed p b (open_was p stands) other).1 (carried_was r refl p b apart carried),
        ))
        (cases_eq b e);
    in_order = λ p stands other. kept.in_order p (open_was p stands) other;
  }

  -- at the root no list is of an open node
  pub root_lists : u ≡ w.tree.root → AreOpenLists g (taking w u) r lists
  root_lists at_root = record {
    empty = kept.empty;
    bracket = λ l b holds. somewhere_still r refl b (kept.bracket l b holds);
    listed = λ p b stands other. absurd (no_other_open g w u walk r p at_root (open_was p stands) other);
    in_order = λ p stands other. absurd (no_other_open g w u walk r p at_root (open_was p stands) other);
  }

  -- ---- an edge that leads up: it goes on top of the list

  module _ (above : w.tree.preorder v < w.tree.preorder u) (other : e ≢ w.tree.parent_edge u) where
    abbrev pushed : ℕ → List ℕ
    pushed = put lists (w.tree.parent_edge u) (e ∷ lists (w.tree.parent_edge u))

    pub up_not_root : u ≢ w.tree.root
    up_not_root same = let place = ap w.tree.preorder same in let zero_place = walk.root_first in omega (arith, place, zero_place, above)

    v_open : IsOpen w v
    v_open = grind (arith, joins_back g e u v ends)

    new_upwards : IsUpwards g (taking w u) e u v
    new_upwards = record { found = walk.here.found; taken = taken_now g w u e edge touched next; joins = ends; above = above; other = other }

    new_carried : (s : Reaches) → IsCarried g (taking w u) s u e
    new_carried s =
        grind (arith, new_upwards, not_taken_above g w u walk e v ends v_open above other, v_open, taken_elsewhere g w u v e, carrier_still u u, carrier_here g w u walk r u)

    -- only the node at which the walk is carries it
    only_here : (p : ℕ) → IsOpen w p → IsCarried g (taking w u) (reaching r u (w.tree.preorder v)) p e → p ≡ u
    only_here p stands c = ⊎_elim
        (λ (back : IsUpwards g (taking w u) e c.low c.pending.end × (IsTaken g (taking w u) c.pending.end e → ⊥)). ⊎_elim
        (λ (now : (e ≡ e) × (c.low ≡ u) × (c.pending.end ≡ v)).
        let here = ap w.tree.preorder now.1 in
        let most = walk.last p stands in
        let least = c.carrier.last u (open_still u walk.here) (omega (arith, here)) in
        walk.one_place p u stands.found walk.here.found (omega (arith, most, least)))
        (λ (old : IsUpwards g w e c.low c.pending.end).
        let up = old.above in
        ⊎_elim
        (λ (crossed : (c.pending.end ≡ u) × (v ≡ c.low)).
        let x = ap w.tree.preorder crossed.0 in let y = ap w.tree.preorder crossed.1 in absurd (omega (arith, x, y, up, above)))
        (λ (same : c.low ≡ u). absurd (not_taken (subst (λ n. IsTaken g w n e) same old.taken)))
        (two_ends g e c.pending.end c.low v u (joins_back g e c.low c.pending.end old.joins) (joins_back g e u v ends)))
        (upwards_was e c.low c.pending.end back.0))
        (λ (cap : IsCapping g (taking w u) (reaching r u (w.tree.preorder v)) e c.low c.pending.end × IsOpen (taking w u) c.pending.end).
        absurd (capping_number r c.low c.pending.end (capping_was (reaching r u (w.tree.preorder v)) refl e c.low c.pending.end cap.0)))
        c.pending.kind

    -- the edge was in no list
    pub not_listed : (l : ℕ) → Holds (lists l) e → ⊥
    not_listed l holds = grind (arith, not_taken, two_ends g e, joins_back g e, joins_back g e u v ends, capping_number r)

    -- it stands above all others of the list
    on_top : (c : ℕ) → Holds (lists (w.tree.parent_edge u)) c → IsOver g w.tree e c
    on_top c holds =
        let h = (kept.listed u c walk.here up_not_root).0 holds in
        let later = h.carrier.later in
        let c_place = place_pending g w u walk r c h.low h.pending in
        let e_place : place g w.tree e ≡ w.tree.preorder u = place_upwards g (taking w u) e u v new_upwards in
        ⊎_elim
        (λ (less : w.tree.preorder u < w.tree.preorder h.low). inl (omega (arith, c_place, e_place, less)))
        (λ (more : w.tree.preorder h.low ≤ w.tree.preorder u). inr (
          omega (arith, c_place, e_place, more, later),
          ⊎_elim
              (λ (back : IsUpwards g w c h.low h.pending.end).
              let same : h.low ≡ u = walk.one_place h.low u back.found walk.here.found (omega (arith, more, later)) in
              let taken : IsTaken g w u c = subst (λ n. IsTaken g w n c) same back.taken in
              let early = taken.early in
              ⊎_elim
              (λ (less : c < e). less)
              (λ (as_much : e ≤ c). ⊎_elim
              (λ (equal : e ≡ c). absurd (not_taken (subst (IsTaken g w u) (sym equal) taken)))
              (λ (apart : e ≢ c). let rank = earlier_less g u e c touched (⊎_elim (λ (l : e < c). l) (λ (m : c ≤ e). absurd (apart (omega (arith, m, as_much)))) (cases_lt e c)) in absurd (omega (arith, rank, early, next)))
              (cases_eq e c))
              (cases_lt c e))
              (λ (cap : IsCapping g w r c h.low h.pending.end).
              let same : h.low ≡ u = walk.one_place h.low u (walk.left_found h.low cap.left) walk.here.found (omega (arith, more, later)) in
              absurd (false≢true (sym walk.here.stays ∙ subst (λ n. w.left n ≡ true) same cap.left)))
              (pending_leads g w u walk r c h.low h.pending),
        ))
        (cases_lt (w.tree.preorder u) (w.tree.preorder h.low))

    pushed_at : (l : ℕ) → l ≡ w.tree.parent_edge u → pushed l ≡ e ∷ lists l
    pushed_at l same = put_same lists (w.tree.parent_edge u) (e ∷ lists (w.tree.parent_edge u)) l same ∙ ap (λ n. e ∷ lists n) (sym same)

    pushed_other : (l : ℕ) → l ≢ w.tree.parent_edge u → pushed l ≡ lists l
    pushed_other l apart = put_other lists (w.tree.parent_edge u) (e ∷ lists (w.tree.parent_edge u)) l apart

    apart_edges : (p : ℕ) → IsOpen w p → p ≢ w.tree.root → p ≢ u → w.tree.parent_edge p ≢ w.tree.parent_edge u
    apart_edges p stands not_root apart same = apart (one_edge g w u walk p u stands.found walk.here.found not_root up_not_root same)

    up_listed : (p b : ℕ) → IsOpen w p → p ≢ w.tree.root → Holds (pushed (w.tree.parent_edge p)) b ↔ IsCarried g (taking w u) (reaching r u (w.tree.preorder v)) p b
    up_listed p b stands not_root = ⊎_elim
        (λ (here : p ≡ u).
        let list = pushed_at (w.tree.parent_edge p) (ap w.tree.parent_edge here) in (
          λ holds. ⊎_elim
              (λ (this : e ≡ b). subst (λ n. IsCarried g (taking w u) (reaching r u (w.tree.preorder v)) n b) (sym here)
              (subst (IsCarried g (taking w u) (reaching r u (w.tree.preorder v)) u) this (new_carried (reaching r u (w.tree.preorder v)))))
              (λ (old : Holds (lists (w.tree.parent_edge p)) b). carried_still (reaching r u (w.tree.preorder v)) refl p b
              (λ same. not_listed (w.tree.parent_edge p) (subst (Holds (lists (w.tree.parent_edge p))) same old))
              ((kept.listed p b stands not_root).0 old))
              (subst (λ xs. Holds xs b) list holds),
          λ carried. subst (λ xs. Holds xs b) (sym list) (⊎_elim
              (λ (this : b ≡ e). inl (sym this))
              (λ (apart : b ≢ e). inr ((kept.listed p b stands not_root).1 (carried_was (reaching r u (w.tree.preorder v)) refl p b apart carried)))
              (cases_eq b e)),
        ))
        (λ (there : p ≢ u).
        let list = pushed_other (w.tree.parent_edge p) (apart_edges p stands not_root there) in (
          λ holds. let old : Holds (lists (w.tree.parent_edge p)) b = subst (λ xs. Holds xs b) list holds in
              carried_still (reaching r u (w.tree.preorder v)) refl p b
              (λ same. not_listed (w.tree.parent_edge p) (subst (Holds (lists (w.tree.parent_edge p))) same old))
              ((kept.listed p b stands not_root).0 old),
          λ carried. subst (λ xs. Holds xs b) (sym list) ((kept.listed p b stands not_root).1
              (carried_was (reaching r u (w.tree.preorder v)) refl p b
              (λ same. there (only_here p stands (subst (IsCarried g (taking w u) (reaching r u (w.tree.preorder v)) p) same carried))) carried)),
        ))
        (cases_eq p u)

    pub up_lists : AreOpenLists g (taking w u) (reaching r u (w.tree.preorder v)) pushed
    up_lists = record {
      empty = λ l none. pushed_other l (λ same. none u walk.here.found up_not_root (sym same)) ∙ kept.empty l none;
      bracket = λ l b holds. ⊎_elim
          (λ (here : l ≡ w.tree.parent_edge u). ⊎_elim
          (λ (this : e ≡ b). record { low = u; end = v; leads = inl (subst (λ n. IsUpwards g (taking w u) n u v) this new_upwards) })
          (λ (old : Holds (lists l) b). somewhere_still (reaching r u (w.tree.preorder v)) refl b (kept.bracket l b old))
          (subst (λ xs. Holds xs b) (pushed_at l here) holds))
          (λ (there : l ≢ w.tree.parent_edge u). somewhere_still (reaching r u (w.tree.preorder v)) refl b (kept.bracket l b (subst (λ xs. Holds xs b) (pushed_other l there) holds)))
          (cases_eq l (w.tree.parent_edge u));
      listed = λ p b stands not_root. up_listed p b (open_was p stands) not_root;
      in_order = λ p stands not_root. ⊎_elim
          (λ (here : p ≡ u).
          subst (AreInOrder g w.tree) (sym (pushed_at (w.tree.parent_edge p) (ap w.tree.parent_edge here)))
          (subst (λ n. (c : ℕ) → Holds (lists (w.tree.parent_edge n)) c → IsOver g w.tree e c) (sym here) on_top, kept.in_order p (open_was p stands) not_root))
          (λ (there : p ≢ u). subst (AreInOrder g w.tree) (sym (pushed_other (w.tree.parent_edge p) (apart_edges p (open_was p stands) not_root there))) (kept.in_order p (open_was p stands) not_root))
          (cases_eq p u);
    }

  -- ---- an edge that leads down: it leaves the list

  module _ (below : w.tree.preorder u < w.tree.preorder v) (not_root : u ≢ w.tree.root) where
    v_left : w.left v ≡ true
    v_left = grind arith

    v_other : v ≢ w.tree.root
    v_other same = let place = ap w.tree.preorder same in let zero_place = walk.root_first in omega (arith, place, zero_place, below)

    from_below : IsUpwards g w e v u
    from_below = record {
      found = known;
      taken = walk.left_edges v e v_left edge (joins_touches g e v u (joins_back g e u v ends));
      joins = joins_back g e u v ends;
      above = below;
      other = λ same.
          let by = walk.by_edge v known v_other in
          ⊎_elim
          (λ (crossed : (w.tree.parent v ≡ u) × (v ≡ v)). not_taken (subst (λ n. IsTaken g w n e) crossed.0 (subst (λ n. IsTaken g w (w.tree.parent v) n) (sym same) by.taken)))
          (λ (equal : v ≡ u). let places = ap w.tree.preorder equal in omega (arith, places, below))
          (two_ends g e (w.tree.parent v) v v u (subst (λ n. Joins g n (w.tree.parent v) v) (sym same) by.ends) (joins_back g e u v ends));
    }

    -- the edge is in the list
    pub down_stands : Holds (lists (w.tree.parent_edge u)) e
    down_stands = (kept.listed u e walk.here not_root).1 (record {
      low = v;
      pending = record { end = u; kind = inl (from_below, not_taken) };
      carrier = carrier_here g w u walk r v (omega (arith, below));
    })

    low_is : (low z : ℕ) → IsUpwards g w e low z → (low ≡ v) × (z ≡ u)
    low_is low z b = grind (arith, joins_one g e, joins_back g e, two_ends g e)

    only_this : (p : ℕ) → IsOpen w p → IsCarried g w r p e → p ≡ u
    only_this p stands c = ⊎_elim
        (λ (back : IsUpwards g w e c.low c.pending.end).
        let here = ap w.tree.preorder (low_is c.low c.pending.end back).0 in
        let most = walk.last p stands in
        let least = c.carrier.last u walk.here (omega (arith, here, below)) in
        walk.one_place p u stands.found walk.here.found (omega (arith, most, least)))
        (λ (cap : IsCapping g w r e c.low c.pending.end). absurd (capping_number r c.low c.pending.end cap))
        (pending_leads g w u walk r e c.low c.pending)

    gone : (p : ℕ) → IsCarried g (taking w u) r p e → ⊥
    gone p c = ⊎_elim
        (λ (back : IsUpwards g (taking w u) e c.low c.pending.end × (IsTaken g (taking w u) c.pending.end e → ⊥)). ⊎_elim
        (λ (now : (e ≡ e) × (c.low ≡ u) × (c.pending.end ≡ v)).
        let up = back.0.above in
        let x = ap w.tree.preorder now.1 in let y = ap w.tree.preorder now.2 in omega (arith, x, y, up, below))
        (λ (old : IsUpwards g w e c.low c.pending.end). back.1 (subst (λ n. IsTaken g (taking w u) n e) (sym (low_is c.low c.pending.end old).1) (taken_now g w u e edge touched next)))
        (upwards_was e c.low c.pending.end back.0))
        (λ (cap : IsCapping g (taking w u) r e c.low c.pending.end × IsOpen (taking w u) c.pending.end). capping_number r c.low c.pending.end (capping_was r refl e c.low c.pending.end cap.0))
        c.pending.kind

    module _ (ys : List ℕ) (rest : (b : ℕ) → Holds ys b ↔ (Holds (lists (w.tree.parent_edge u)) b × (b ≢ e))) (in_order : AreInOrder g w.tree ys) where
      abbrev shorter : ℕ → List ℕ
      shorter = put lists (w.tree.parent_edge u) ys

      down_listed : (p b : ℕ) → IsOpen w p → p ≢ w.tree.root → Holds (shorter (w.tree.parent_edge p)) b ↔ IsCarried g (taking w u) r p b
      down_listed p b stands other = ⊎_elim
          (λ (here : p ≡ u).
          let list : shorter (w.tree.parent_edge p) ≡ ys = put_same lists (w.tree.parent_edge u) ys (w.tree.parent_edge p) (ap w.tree.parent_edge here) in (
            λ holds. let both = (rest b).0 (subst (λ xs. Holds xs b) list holds) in
                subst (λ n. IsCarried g (taking w u) r n b) (sym here) (carried_still r refl u b both.1 ((kept.listed u b walk.here not_root).0 both.0)),
            λ carried.
                let apart : b ≢ e = λ same. gone p (subst (IsCarried g (taking w u) r p) same carried) in
                subst (λ xs. Holds xs b) (sym list) ((rest b).1
                ((kept.listed u b walk.here not_root).1 (subst (λ n. IsCarried g w r n b) here (carried_was r refl p b apart carried)), apart)),
          ))
          (λ (there : p ≢ u).
          let list : shorter (w.tree.parent_edge p) ≡ lists (w.tree.parent_edge p) = put_other lists (w.tree.parent_edge u) ys (w.tree.parent_edge p)
          (λ same. there (one_edge g w u walk p u stands.found walk.here.found other not_root same)) in (
            λ holds.
                let old = (kept.listed p b stands other).0 (subst (λ xs. Holds xs b) list holds) in
                carried_still r refl p b (λ same. there (only_this p stands (subst (IsCarried g w r p) same old))) old,
            λ carried. subst (λ xs. Holds xs b) (sym list) ((kept.listed p b stands other).1
                (carried_was r refl p b (λ same. gone p (subst (IsCarried g (taking w u) r p) same carried)) carried)),
          ))
          (cases_eq p u)

      pub down_lists : AreOpenLists g (taking w u) r shorter
      down_lists = record {
        empty = λ l none. put_other lists (w.tree.parent_edge u) ys l (λ same. none u walk.here.found not_root (sym same)) ∙ kept.empty l none;
        bracket = λ l b holds. somewhere_still r refl b (⊎_elim
            (λ (here : l ≡ w.tree.parent_edge u). kept.bracket (w.tree.parent_edge u) b ((rest b).0 (subst (λ xs. Holds xs b) (put_same lists (w.tree.parent_edge u) ys l here) holds)).0)
            (λ (there : l ≢ w.tree.parent_edge u). kept.bracket l b (subst (λ xs. Holds xs b) (put_other lists (w.tree.parent_edge u) ys l there) holds))
            (cases_eq l (w.tree.parent_edge u)));
        listed = λ p b stands other. down_listed p b (open_was p stands) other;
        in_order = λ p stands other. ⊎_elim
            (λ (here : p ≡ u). subst (AreInOrder g w.tree) (sym (put_same lists (w.tree.parent_edge u) ys (w.tree.parent_edge p) (ap w.tree.parent_edge here))) in_order)
            (λ (there : p ≢ u). subst (AreInOrder g w.tree) (sym (put_other lists (w.tree.parent_edge u) ys (w.tree.parent_edge p)
            (λ same. there (one_edge g w u walk p u stands.found walk.here.found other not_root same)))) (kept.in_order p (open_was p stands) other))
            (cases_eq p u);
      }

  -- ---- the lists of nodes that were left, and the capping brackets, stay

  module _ (s : Reaches) (same : s.second ≡ r.second) where
    held_was : (c b : ℕ) → w.left c ≡ true → IsHeldNow g (taking w u) s c b → IsHeldNow g w r c b
    held_was c b left h = record {
      low = h.low;
      end = h.end;
      leads = ⊎_elim
          (λ (back : IsUpwards g (taking w u) b h.low h.end). ⊎_elim
          (λ (now : (b ≡ e) × (h.low ≡ u) × (h.end ≡ v)). absurd (walk.left_apart c u left walk.here (subst (IsBelow w.tree c) now.1 h.below)))
          (λ (old : IsUpwards g w b h.low h.end). inl old)
          (upwards_was b h.low h.end back))
          (λ (cap : IsCapping g (taking w u) s b h.low h.end). inr (capping_was s same b h.low h.end cap))
          h.leads;
      below = h.below;
      above = h.above;
    }

    held_still : (c b : ℕ) → IsHeldNow g w r c b → IsHeldNow g (taking w u) s c b
    held_still c b h = record {
      low = h.low;
      end = h.end;
      leads = ⊎_elim
          (λ (back : IsUpwards g w b h.low h.end). inl (upwards_still b h.low h.end back))
          (λ (cap : IsCapping g w r b h.low h.end). inr (capping_still s same b h.low h.end cap))
          h.leads;
      below = h.below;
      above = h.above;
    }

    pub take_left_lists : (final : ℕ → List ℕ) → AreLeftLists g w r final → AreLeftLists g (taking w u) s final
    take_left_lists final left_lists = record {
      listed = λ c b left other.
          let old = left_lists.listed c b left other in
          (λ holds. held_still c b (old.0 holds), λ h. old.1 (held_was c b left h));
      in_order = left_lists.in_order;
    }

    pub take_caps : (caps : ℕ → List ℕ) → AreCaps g w r caps → AreCaps g (taking w u) s caps
    take_caps caps capped = record {
      listed = λ y f stands.
          let old = capped.listed y f (open_was y stands) in (
            λ holds. let h = old.0 holds in record { low = h.low; cap = capping_still s same (edge_count g + f) h.low y h.cap },
            λ h. old.1 (record { low = h.low; cap = capping_was s same (edge_count g + f) h.low y h.cap }),
          );
      unused = capped.unused;
    }
