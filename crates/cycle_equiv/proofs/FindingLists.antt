-- The lists of brackets, where the walk finds a node.
use Rattle.std.proofs.Common.{◌≡◌, ◌≢◌, ℕ, ◌<◌, ◌⊎◌, ◌↔◌, true, false, List, [], refl, sym, ap, ◌∙◌, subst, inl, inr, ⊎_elim, arith}
use Rattle.closed_walks.specs.Graph.{Graph, edge_count, touches}
use Rattle.closed_walks.specs.Walk.{Holds}
use Rattle.cycle_equiv.specs.DepthFirst.{Joins}
use Rattle.cycle_equiv.specs.Walking.{Trail, IsTaken, IsOpen, IsTrail, earlier, finding}
use Rattle.cycle_equiv.specs.TrailReaches.{Reaches, IsUpwards, AreReaches, starting}
use Rattle.cycle_equiv.specs.BracketLists.{place, AreInOrder}
use Rattle.cycle_equiv.specs.Pending.{IsCapping, LeadsUp, IsPending, IsCarried, AreOpenLists}
use Rattle.cycle_equiv.proofs.Ordered.{in_order_as}
use Rattle.cycle_equiv.proofs.PendingSteps.{place_leads, pending_leads}
use Rattle.cycle_equiv.proofs.Steps.{joins_back, two_ends, joins_one}
use Rattle.cycle_equiv.proofs.Finding as finding_trail
use Rattle.cycle_equiv.proofs.FindingReaches as finding_reaches

module _ (g : Graph) (w : Trail) (u : ℕ) (walk : IsTrail g w u) (e v : ℕ) (edge : e < edge_count g) (touched : touches g u e ≡ true)
    (next : earlier g u e ≡ w.taken u) (ends : Joins g e u v) (node : v < g.nodes) (hidden : w.found v ≡ false) where
  abbrev after : Trail
  after = finding w u e v

  -- ---- of the trail and the reaches

  known : (x : ℕ) → w.found x ≡ true → x ≢ v
  known = finding_trail.known g w u walk e v edge touched next ends node hidden

  place_new : (x : ℕ) → x ≡ v → after.tree.preorder x ≡ w.count
  place_new = finding_trail.place_new g w u walk e v edge touched next ends node hidden

  place_old : (x : ℕ) → w.found x ≡ true → after.tree.preorder x ≡ w.tree.preorder x
  place_old = finding_trail.place_old g w u walk e v edge touched next ends node hidden

  found_still : (x : ℕ) → w.found x ≡ true → after.found x ≡ true
  found_still = finding_trail.found_still g w u walk e v edge touched next ends node hidden

  edge_old : (x : ℕ) → x ≢ v → after.tree.parent_edge x ≡ w.tree.parent_edge x
  edge_old = finding_trail.edge_old g w u walk e v edge touched next ends node hidden

  edge_new : (x : ℕ) → x ≡ v → after.tree.parent_edge x ≡ e
  edge_new = finding_trail.edge_new g w u walk e v edge touched next ends node hidden

  open_was : (x : ℕ) → IsOpen after x → (x ≡ v) ⊎ IsOpen w x
  open_was = finding_trail.open_was g w u walk e v edge touched next ends node hidden

  open_still : (x : ℕ) → IsOpen w x → IsOpen after x
  open_still = finding_trail.open_still g w u walk e v edge touched next ends node hidden

  taken_on : (x d : ℕ) → w.found x ≡ true → IsTaken g w x d → IsTaken g after x d
  taken_on = finding_trail.taken_on g w u walk e v edge touched next ends node hidden

  taken_was : (x d : ℕ) → IsTaken g after x d → ((x ≡ u) × (d ≡ e)) ⊎ IsTaken g w x d
  taken_was = finding_trail.taken_was g w u walk e v edge touched next ends node hidden

  find_trail : IsTrail g (finding w u e v) v
  find_trail = finding_trail.find_trail g w u walk e v edge touched next ends node hidden

  upwards_still : (d x z : ℕ) → IsUpwards g w d x z → IsUpwards g after d x z
  upwards_still = finding_reaches.upwards_still g w u walk e v edge touched next ends node hidden

  upwards_was : (d x z : ℕ) → IsUpwards g after d x z → IsUpwards g w d x z
  upwards_was = finding_reaches.upwards_was g w u walk e v edge touched next ends node hidden

  module _ (r : Reaches) (reaches : AreReaches g w r) where
    abbrev begun : Reaches
    begun = starting r v w.count

    second_old : (x : ℕ) → x ≢ v → begun.second x ≡ r.second x
    second_old = finding_reaches.second_old g w u walk e v edge touched next ends node hidden r reaches

    old_place : (x z : ℕ) → w.found x ≡ true → after.found z ≡ true → after.tree.preorder z < w.tree.preorder x → w.found z ≡ true
    old_place = finding_reaches.old_place g w u walk e v edge touched next ends node hidden r reaches

    -- ---- the lists of brackets

    pub capping_still : (b low end : ℕ) → IsCapping g w r b low end → IsCapping g after begun b low end
    capping_still b low end h =
        let low_found = walk.left_found low h.left in
        let pl = place_old low low_found in
        let pe = place_old end h.found in
        let s = second_old low (known low low_found) in
        let by = edge_old low (known low low_found) in
        let exact = h.exact in
        let above = h.above in
        let number = h.number in
        record {
          left = h.left;
          other = h.other;
          number = omega (arith, number, by);
          found = found_still end h.found;
          exact = omega (arith, exact, pe, s);
          above = omega (arith, pl, pe, above);
        }

    pub capping_was : (b low end : ℕ) → IsCapping g after begun b low end → IsCapping g w r b low end
    capping_was b low end h =
        let low_found = walk.left_found low h.left in
        let pl = place_old low low_found in
        let above = h.above in
        let end_found = old_place low end low_found h.found (omega (arith, above, pl)) in
        let pe = place_old end end_found in
        let s = second_old low (known low low_found) in
        let by = edge_old low (known low low_found) in
        let exact = h.exact in
        let number = h.number in
        record {
          left = h.left;
          other = h.other;
          number = omega (arith, number, by);
          found = end_found;
          exact = omega (arith, exact, pe, s);
          above = omega (arith, pl, pe, above);
        }

    leads_still : (b low end : ℕ) → LeadsUp g w r b low end → LeadsUp g after begun b low end
    leads_still b low end h = ⊎_elim
        (λ (back : IsUpwards g w b low end). inl (upwards_still b low end back))
        (λ (cap : IsCapping g w r b low end). inr (capping_still b low end cap))
        h

    leads_found : (b low end : ℕ) → LeadsUp g w r b low end → w.found low ≡ true
    leads_found b low end h = ⊎_elim (λ (back : IsUpwards g w b low end). back.found) (λ (cap : IsCapping g w r b low end). walk.left_found low cap.left) h

    pub place_same : (b low end : ℕ) → LeadsUp g w r b low end → place g after.tree b ≡ place g w.tree b
    place_same b low end h =
        grind (arith, place_leads g after v find_trail begun b low end (leads_still b low end h), find_trail, leads_still b low end h, place_old low (leads_found b low end h), leads_found b low end h, place_leads g w u walk r b low end h)

    pending_still : (b low : ℕ) → IsPending g w r b low → IsPending g after begun b low
    pending_still b low h = record {
      end = h.end;
      kind = ⊎_elim
          (λ (back : IsUpwards g w b low h.end × (IsTaken g w h.end b → ⊥)). inl (
            upwards_still b low h.end back.0,
            λ taken. ⊎_elim
                (λ (now : (h.end ≡ u) × (b ≡ e)).
                let here : Joins g e u low = subst (λ n. Joins g e n low) now.0 (subst (λ n. Joins g n h.end low) now.1 (joins_back g b low h.end back.0.joins)) in
                known low back.0.found (joins_one g e u v low ends here))
                (λ (old : IsTaken g w h.end b). back.1 old)
                (taken_was h.end b taken),
          ))
          (λ (cap : IsCapping g w r b low h.end × IsOpen w h.end). inr (capping_still b low h.end cap.0, open_still h.end cap.1))
          h.kind;
    }

    pending_was : (b low : ℕ) → IsPending g after begun b low → IsPending g w r b low
    pending_was b low h = record {
      end = h.end;
      kind = ⊎_elim
          (λ (back : IsUpwards g after b low h.end × (IsTaken g after h.end b → ⊥)).
          let old = upwards_was b low h.end back.0 in
          inl (old, λ taken. back.1 (taken_on h.end b (walk.ends_found low h.end b old.found old.taken old.joins) taken)))
          (λ (cap : IsCapping g after begun b low h.end × IsOpen after h.end).
          let old = capping_was b low h.end cap.0 in
          inr (old, record { found = old.found; stays = cap.1.stays }))
          h.kind;
    }

    carried_still : (p b : ℕ) → w.found p ≡ true → IsCarried g w r p b → IsCarried g after begun p b
    carried_still p b p_found c =
        let low_found = leads_found b c.low c.pending.end (pending_leads g w u walk r b c.low c.pending) in
        let pp = place_old p p_found in
        let pl = place_old c.low low_found in
        let later = c.carrier.later in
        record {
          low = c.low;
          pending = pending_still b c.low c.pending;
          carrier = record {
            later = omega (arith, pp, pl, later);
            last = λ y stands before. ⊎_elim
                (λ (new : y ≡ v). let py = place_new y new in let inside = walk.in_range c.low low_found in absurd (omega (arith, py, pl, inside, before)))
                (λ (old : IsOpen w y).
                let py = place_old y old.found in
                let most = c.carrier.last y old (omega (arith, py, pl, before)) in
                omega (arith, py, pp, most))
                (open_was y stands);
          };
        }

    carried_was : (p b : ℕ) → w.found p ≡ true → IsCarried g after begun p b → IsCarried g w r p b
    carried_was p b p_found c =
        let pending = pending_was b c.low c.pending in
        let low_found = leads_found b c.low pending.end (pending_leads g w u walk r b c.low pending) in
        let pp = place_old p p_found in
        let pl = place_old c.low low_found in
        let later = c.carrier.later in
        record {
          low = c.low;
          pending = pending;
          carrier = record {
            later = omega (arith, pp, pl, later);
            last = λ y stands before.
                let py = place_old y stands.found in
                let most = c.carrier.last y (open_still y stands) (omega (arith, py, pl, before)) in
                omega (arith, py, pp, most);
          };
        }

    -- the new node carries nothing yet
    none_carried : (b : ℕ) → IsCarried g after begun v b → ⊥
    none_carried b c =
        let pending = pending_was b c.low c.pending in
        let low_found = leads_found b c.low pending.end (pending_leads g w u walk r b c.low pending) in
        let pv = place_new v refl in
        let pl = place_old c.low low_found in
        let inside = walk.in_range c.low low_found in
        let later = c.carrier.later in
        omega (arith, pv, pl, inside, later)

    -- no node was found by the edge before
    new_edge : (x : ℕ) → w.found x ≡ true → x ≢ w.tree.root → w.tree.parent_edge x ≢ e
    new_edge x found not_root same = grind (arith, known, two_ends g e)

    module _ (lists : ℕ → List ℕ) (kept : AreOpenLists g w r lists) where
      old_listed : (p b : ℕ) → IsOpen w p → p ≢ w.tree.root → Holds (lists (after.tree.parent_edge p)) b ↔ IsCarried g after begun p b
      old_listed p b stands not_root =
          let by = edge_old p (known p stands.found) in (
            λ holds. carried_still p b stands.found ((kept.listed p b stands not_root).0 (subst (λ l. Holds (lists l) b) by holds)),
            λ carried. subst (λ l. Holds (lists l) b) (sym by) ((kept.listed p b stands not_root).1 (carried_was p b stands.found carried)),
          )

      new_list : (p : ℕ) → p ≡ v → lists (after.tree.parent_edge p) ≡ []
      new_list p new = ap lists (edge_new p new) ∙ kept.empty e new_edge

      pub find_lists : AreOpenLists g (finding w u e v) (starting r v w.count) lists
      find_lists = record {
        empty = λ l none. kept.empty l (λ x found not_root same. none x (found_still x found) not_root (edge_old x (known x found) ∙ same));
        bracket = λ l b holds. let h = kept.bracket l b holds in record { low = h.low; end = h.end; leads = leads_still b h.low h.end h.leads };
        listed = λ p b stands not_root. ⊎_elim
            (λ (new : p ≡ v). (
              λ holds. absurd (subst (λ xs. Holds xs b) (new_list p new) holds),
              λ carried. absurd (none_carried b (subst (λ n. IsCarried g after begun n b) new carried)),
            ))
            (λ (old : IsOpen w p). old_listed p b old not_root)
            (open_was p stands);
        in_order = λ p stands not_root. ⊎_elim
            (λ (new : p ≡ v). subst (AreInOrder g after.tree) (sym (new_list p new)) tt)
            (λ (old : IsOpen w p).
            subst (λ l. AreInOrder g after.tree (lists l)) (sym (edge_old p (known p old.found)))
            (in_order_as g w.tree after.tree (lists (w.tree.parent_edge p))
            (λ b holds. let h = kept.bracket (w.tree.parent_edge p) b holds in place_same b h.low h.end h.leads)
            (kept.in_order p old not_root)))
            (open_was p stands);
      }
