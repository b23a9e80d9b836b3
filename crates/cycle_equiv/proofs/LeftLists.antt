-- The lists of nodes that were left, and the capping brackets, where the walk finds a node.
use Rattle.std.proofs.Common.{◌≡◌, ℕ, ◌+◌, ◌<◌, true, false, List, sym, subst, inl, inr, ⊎_elim, arith}
use Rattle.closed_walks.specs.Graph.{Graph, edge_count, touches}
use Rattle.closed_walks.specs.Walk.{Holds}
use Rattle.cycle_equiv.specs.DepthFirst.{Joins}
use Rattle.cycle_equiv.specs.Walking.{Trail, IsOpen, IsTrail, earlier, finding}
use Rattle.cycle_equiv.specs.TrailReaches.{Reaches, IsUpwards, AreReaches, starting}
use Rattle.cycle_equiv.specs.Pending.{IsCapping, LeadsUp, AreCaps, IsHeldNow, AreLeftLists}
use Rattle.cycle_equiv.proofs.Ordered.{in_order_as}
use Rattle.cycle_equiv.proofs.Finding.{below_as, below_was, place_new, place_old, open_was}
use Rattle.cycle_equiv.proofs.FindingLists.{place_same, capping_still, capping_was}
use Rattle.cycle_equiv.proofs.FindingReaches.{upwards_still, upwards_was}

module _ (g : Graph) (w : Trail) (u : ℕ) (walk : IsTrail g w u) (e v : ℕ) (edge : e < edge_count g) (touched : touches g u e ≡ true)
    (next : earlier g u e ≡ w.taken u) (ends : Joins g e u v) (node : v < g.nodes) (hidden : w.found v ≡ false) (r : Reaches) (reaches : AreReaches g w r) where
  abbrev after : Trail
  after = finding w u e v

  abbrev begun : Reaches
  begun = starting r v w.count

  leads_still : (b low end : ℕ) → LeadsUp g w r b low end → LeadsUp g after begun b low end
  leads_still b low end h = ⊎_elim
      (λ (back : IsUpwards g w b low end). inl (upwards_still g w u walk e v edge touched next ends node hidden b low end back))
      (λ (cap : IsCapping g w r b low end). inr (capping_still g w u walk e v edge touched next ends node hidden r reaches b low end cap))
      h

  leads_was : (b low end : ℕ) → LeadsUp g after begun b low end → LeadsUp g w r b low end
  leads_was b low end h = ⊎_elim
      (λ (back : IsUpwards g after b low end). inl (upwards_was g w u walk e v edge touched next ends node hidden b low end back))
      (λ (cap : IsCapping g after begun b low end). inr (capping_was g w u walk e v edge touched next ends node hidden r reaches b low end cap))
      h

  ends_known : (b low end : ℕ) → LeadsUp g w r b low end → (w.found low ≡ true) × (w.found end ≡ true)
  ends_known b low end h = ⊎_elim
      (λ (back : IsUpwards g w b low end). (back.found, walk.ends_found low end b back.found back.taken back.joins))
      (λ (cap : IsCapping g w r b low end). (walk.left_found low cap.left, cap.found))
      h

  same_place : (x : ℕ) → w.found x ≡ true → after.tree.preorder x ≡ w.tree.preorder x
  same_place x found = place_old g w u walk e v edge touched next ends node hidden x found

  held_still : (c b : ℕ) → w.left c ≡ true → IsHeldNow g w r c b → IsHeldNow g after begun c b
  held_still c b left h =
      grind (arith, ends_known b h.low h.end h.leads, same_place c (walk.left_found c left), same_place h.end, leads_still b h.low h.end h.leads, below_as g w u walk e v edge touched next ends node hidden c h.low (walk.left_found c left))

  held_was : (c b : ℕ) → w.left c ≡ true → IsHeldNow g after begun c b → IsHeldNow g w r c b
  held_was c b left h =
      let leads = leads_was b h.low h.end h.leads in
      let known = ends_known b h.low h.end leads in
      let c_place = same_place c (walk.left_found c left) in
      let end_place = same_place h.end known.1 in
      let above = h.above in
      record {
        low = h.low;
        end = h.end;
        leads = leads;
        below = below_was g w u walk e v edge touched next ends node hidden c h.low (walk.left_found c left) known.0 h.below;
        above = omega (arith, c_place, end_place, above);
      }

  pub find_left_lists : (final : ℕ → List ℕ) → AreLeftLists g w r final → AreLeftLists g after begun final
  find_left_lists final kept = record {
    listed = λ c b left other.
        let old = kept.listed c b left other in
        (λ holds. held_still c b left (old.0 holds), λ h. old.1 (held_was c b left h));
    in_order = λ c left other. in_order_as g w.tree after.tree (final c)
        (λ b holds.
        let h = (kept.listed c b left other).0 holds in
        place_same g w u walk e v edge touched next ends node hidden r reaches b h.low h.end h.leads)
        (kept.in_order c left other);
  }

  pub find_caps : (caps : ℕ → List ℕ) → AreCaps g w r caps → AreCaps g after begun caps
  find_caps caps capped = record {
    listed = λ y f stands. ⊎_elim
        (λ (new : y ≡ v).
        let here = place_new g w u walk e v edge touched next ends node hidden y new in (
          λ holds. absurd (capped.unused (after.tree.preorder y) f (omega (arith, here)) holds),
          λ h.
              let cap = capping_was g w u walk e v edge touched next ends node hidden r reaches (edge_count g + f) h.low y h.cap in
              let low_place = walk.in_range h.low (walk.left_found h.low cap.left) in
              let low_same = same_place h.low (walk.left_found h.low cap.left) in
              let above = h.cap.above in
              absurd (omega (arith, here, low_place, low_same, above)),
        ))
        (λ (old : IsOpen w y).
        let was = capped.listed y f old in
        let here = same_place y old.found in (
          λ holds.
              let h = was.0 (subst (λ k. Holds (caps k) f) here holds) in
              record { low = h.low; cap = capping_still g w u walk e v edge touched next ends node hidden r reaches (edge_count g + f) h.low y h.cap },
          λ h. subst (λ k. Holds (caps k) f) (sym here) (was.1 (record {
            low = h.low;
            cap = capping_was g w u walk e v edge touched next ends node hidden r reaches (edge_count g + f) h.low y h.cap;
          })),
        ))
        (open_was g w u walk e v edge touched next ends node hidden y stands);
    unused = λ k f few holds. capped.unused k f (omega (arith, few)) holds;
  }
