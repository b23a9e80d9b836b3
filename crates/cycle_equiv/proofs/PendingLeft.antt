-- The lists of brackets, where the walk leaves a node for its parent.
use Rattle.std.proofs.Common.{◌≡◌, ◌≢◌, ℕ, ◌+◌, ◌<◌, ◌≤◌, ◌⊎◌, ◌↔◌, true, false, List, ◌∷◌, ◌++◌, min, max, sym, ap, ◌∙◌, subst, inl, inr, ⊎_elim, arith}
use Rattle.std.proofs.lemmas.Bool.{cases_eq, cases_lt, cases_Bool, false≢true}
use Rattle.closed_walks.specs.Graph.{Graph, edge_count, touches}
use Rattle.closed_walks.specs.Walk.{Holds}
use Rattle.cycle_equiv.specs.DepthFirst.{Joins, IsBelow}
use Rattle.cycle_equiv.specs.BracketLists.{IsOver, place, AreInOrder}
use Rattle.cycle_equiv.specs.Walking.{Trail, IsTaken, IsOpen, IsTrail, put, leaving}
use Rattle.cycle_equiv.specs.TrailReaches.{Reaches, IsUpwards, AreReaches, highest, merging}
use Rattle.cycle_equiv.specs.Pending.{IsCapping, LeadsUp, IsPending, IsCarried, LeadsSomewhere, AreOpenLists, AreCaps, IsHeldNow, AreLeftLists}
use Rattle.closed_walks.proofs.Walks.{Holds-left, Holds-right, Holds-append}
use Rattle.cycle_equiv.proofs.Ordered.{in_order_append}
use Rattle.cycle_equiv.proofs.Steps.{put_same, put_other, joins_back, joins_touches, two_ends}
use Rattle.cycle_equiv.proofs.Leaving.{open_above, parent_open, leave_trail}
use Rattle.cycle_equiv.proofs.OpenPath.{one_edge, next_open}
use Rattle.cycle_equiv.proofs.PendingSteps.{carrier_here, pending_leads, place_pending, place_leads}

module _ (g : Graph) (w : Trail) (u : ℕ) (walk : IsTrail g w u) (r : Reaches) (reaches : AreReaches g w r) (not_root : u ≢ w.tree.root)
    (taken : (e : ℕ) → e < edge_count g → touches g u e ≡ true → IsTaken g w u e) where
  abbrev after : Trail
  after = leaving w u

  abbrev merged : Reaches
  merged = merging r (w.tree.parent u) (highest r u)

  up : IsOpen w (w.tree.parent u)
  up = parent_open g w u walk not_root

  up_first : w.tree.preorder (w.tree.parent u) < w.tree.preorder u
  up_first = (walk.by_edge u walk.here.found not_root).first

  u_apart : u ≢ w.tree.parent u
  u_apart same = let places = ap w.tree.preorder same in let first = up_first in omega (arith, places, first)

  second_other : (x : ℕ) → x ≢ w.tree.parent u → merged.second x ≡ r.second x
  second_other x apart = put_other r.second (w.tree.parent u) (min (r.second (w.tree.parent u)) (max (r.first (w.tree.parent u)) (highest r u))) x apart

  second_left : (x : ℕ) → w.left x ≡ true → merged.second x ≡ r.second x
  second_left x left = second_other x (λ same. false≢true (sym up.stays ∙ subst (λ n. w.left n ≡ true) same left))

  left_still : (x : ℕ) → w.left x ≡ true → after.left x ≡ true
  left_still x left = grind (arith, put_same w.left, put_other w.left)

  left_was : (x : ℕ) → after.left x ≡ true → (x ≡ u) ⊎ (w.left x ≡ true)
  left_was x left = grind (arith, put_other w.left)

  open_still : (x : ℕ) → x ≢ u → IsOpen w x → IsOpen after x
  open_still x apart h = record { found = h.found; stays = put_other w.left u true x apart ∙ h.stays }

  open_apart : (x : ℕ) → IsOpen after x → x ≢ u
  open_apart x h same = false≢true (sym h.stays ∙ put_same w.left u true x same)

  open_was : (x : ℕ) → IsOpen after x → IsOpen w x
  open_was x h = record { found = h.found; stays = sym (put_other w.left u true x (open_apart x h)) ∙ h.stays }

  -- the open nodes that are left are the parent and its ancestors
  last : (y : ℕ) → IsOpen after y → w.tree.preorder y ≤ w.tree.preorder (w.tree.parent u)
  last y h = ((walk.by_parent y u h.found walk.here.found not_root (open_apart y h)).1 (open_above g w u walk y (open_was y h))).after

  upwards_still : (d x z : ℕ) → IsUpwards g w d x z → IsUpwards g after d x z
  upwards_still d x z b = record { found = b.found; taken = record { edge = b.taken.edge; touched = b.taken.touched; early = b.taken.early }; joins = b.joins; above = b.above; other = b.other }

  upwards_was : (d x z : ℕ) → IsUpwards g after d x z → IsUpwards g w d x z
  upwards_was d x z b = record { found = b.found; taken = record { edge = b.taken.edge; touched = b.taken.touched; early = b.taken.early }; joins = b.joins; above = b.above; other = b.other }

  capping_still : (b low end : ℕ) → IsCapping g w r b low end → IsCapping g after merged b low end
  capping_still b low end h = record { left = left_still low h.left; other = h.other; number = h.number; found = h.found; exact = h.exact ∙ sym (second_left low h.left); above = h.above }

  capping_was : (b low end : ℕ) → low ≢ u → IsCapping g after merged b low end → IsCapping g w r b low end
  capping_was b low end apart h = grind (arith, put_other, second_left low)

  -- the capping bracket of the node itself
  own_capping : (end : ℕ) → w.found end ≡ true → w.tree.preorder end ≡ r.second u → r.second u < w.tree.preorder u → IsCapping g after merged (edge_count g + w.tree.parent_edge u) u end
  own_capping end found exact above = grind (arith, put_same w.left u true u, second_other u u_apart, u_apart)

  -- ---- what leads from below the node to above it

  -- a node above u that is above a node below u is open
  open_over : (end low : ℕ) → w.found end ≡ true → w.tree.preorder end < w.tree.preorder u → w.tree.preorder u ≤ w.tree.preorder low → w.tree.preorder low < w.tree.finish end → IsOpen w end
  open_over end low found above later inside = grind arith

  -- a back edge from below u to above it wasn't taken at its upper end
  back_pending : (b low end : ℕ) → IsUpwards g w b low end → w.tree.preorder u ≤ w.tree.preorder low → w.tree.preorder end < w.tree.preorder u → IsOpen w end × (IsTaken g w end b → ⊥)
  back_pending b low end back later above =
      let end_found = walk.ends_found low end b back.found back.taken back.joins in
      let end_open : IsOpen w end = record {
        found = end_found;
        stays = ⊎_elim
            (λ (left : w.left end ≡ true).
            let inside = walk.left_ends end low b left back.taken.edge (joins_back g b low end back.joins) in
            absurd (walk.left_apart end u left walk.here (record { after = omega (arith, above); before = omega (arith, later, inside) })))
            (λ (stays : w.left end ≡ false). stays)
            (cases_Bool (w.left end));
      } in (
        end_open,
        λ is_taken.
            let n = next_open g w u walk end u end_open walk.here above in
            let no_later = n.no_later in
            ⊎_elim
            (λ (by_edge : b ≡ w.tree.parent_edge n.child).
            let by = walk.by_edge n.child n.stands.found n.other in
            let first = by.first in
            ⊎_elim
            (λ (crossed : (w.tree.parent n.child ≡ low) × (end ≡ n.child)).
            let x = ap w.tree.preorder crossed.0 in let y = ap w.tree.preorder crossed.1 in omega (arith, x, y, first, later, above))
            (λ (here : n.child ≡ low). back.other (by_edge ∙ ap w.tree.parent_edge here))
            (two_ends g b (w.tree.parent n.child) n.child end low (subst (λ d. Joins g d (w.tree.parent n.child) n.child) (sym by_edge) by.ends) (joins_back g b low end back.joins)))
            (λ (less : w.tree.preorder low < w.tree.preorder n.child). omega (arith, less, no_later, later))
            (walk.before end n.child low b end_open n.stands n.other n.parent is_taken (joins_back g b low end back.joins)),
      )

  -- what is pending at an end is pending at an open one
  pending_open : (b low : ℕ) (h : IsPending g w r b low) → IsOpen w h.end
  pending_open b low h = ⊎_elim
      (λ (back : IsUpwards g w b low h.end × (IsTaken g w h.end b → ⊥)). record {
        found = walk.ends_found low h.end b back.0.found back.0.taken back.0.joins;
        stays = ⊎_elim
            (λ (left : w.left h.end ≡ true). absurd (back.1 (walk.left_edges h.end b left back.0.taken.edge (joins_touches g b h.end low (joins_back g b low h.end back.0.joins)))))
            (λ (stays : w.left h.end ≡ false). stays)
            (cases_Bool (w.left h.end));
      })
      (λ (cap : IsCapping g w r b low h.end × IsOpen w h.end). cap.1)
      h.kind

  leads_found : (b low end : ℕ) → LeadsUp g w r b low end → w.found low ≡ true
  leads_found b low end h = ⊎_elim (λ (back : IsUpwards g w b low end). back.found) (λ (cap : IsCapping g w r b low end). walk.left_found low cap.left) h

  leads_still : (b low end : ℕ) → LeadsUp g w r b low end → LeadsUp g after merged b low end
  leads_still b low end h = ⊎_elim
      (λ (back : IsUpwards g w b low end). inl (upwards_still b low end back))
      (λ (cap : IsCapping g w r b low end). inr (capping_still b low end cap))
      h

  below_u : (low : ℕ) → w.found low ≡ true → w.tree.preorder u ≤ w.tree.preorder low → IsBelow w.tree u low
  below_u low found later = grind arith

  module _ (lists : ℕ → List ℕ) (kept : AreOpenLists g w r lists) (caps : ℕ → List ℕ) (capped : AreCaps g w r caps)
      -- the list after the capping brackets that lead to the node were taken out
      (xs : List ℕ) (rest : (b : ℕ) → Holds xs b ↔ (Holds (lists (w.tree.parent_edge u)) b × ((f : ℕ) → Holds (caps (w.tree.preorder u)) f → b ≢ edge_count g + f))) where
    -- what is left in it leads from below the node to above it
    rest_held : (b : ℕ) → Holds xs b → IsHeldNow g after merged u b
    rest_held b holds =
        let both = (rest b).0 holds in
        let c = (kept.listed u b walk.here not_root).0 both.0 in
        let leads = pending_leads g w u walk r b c.low c.pending in
        let stands = pending_open b c.low c.pending in
        let most = walk.last c.pending.end stands in
        let differs : c.pending.end ≢ u = λ same. ⊎_elim
        (λ (back : IsUpwards g w b c.low c.pending.end × (IsTaken g w c.pending.end b → ⊥)).
        back.1 (subst (λ n. IsTaken g w n b) (sym same) (taken b back.0.taken.edge (joins_touches g b u c.low (joins_back g b c.low u (subst (λ n. Joins g b c.low n) same back.0.joins))))))
        (λ (cap : IsCapping g w r b c.low c.pending.end × IsOpen w c.pending.end).
        both.1 (w.tree.parent_edge c.low)
        ((capped.listed u (w.tree.parent_edge c.low) walk.here).1 (record {
          low = c.low;
          cap = subst (λ n. IsCapping g w r n c.low u) cap.0.number (subst (λ n. IsCapping g w r b c.low n) same cap.0);
        }))
        cap.0.number)
        c.pending.kind in
        record {
          low = c.low;
          end = c.pending.end;
          leads = leads_still b c.low c.pending.end leads;
          below = below_u c.low (leads_found b c.low c.pending.end leads) c.carrier.later;
          above = ⊎_elim
              (λ (less : w.tree.preorder c.pending.end < w.tree.preorder u). less)
              (λ (more : w.tree.preorder u ≤ w.tree.preorder c.pending.end). absurd (differs (walk.one_place c.pending.end u stands.found walk.here.found (omega (arith, most, more)))))
              (cases_lt (w.tree.preorder c.pending.end) (w.tree.preorder u));
        }

    -- and what does so is there, or is the node's own capping bracket
    held_rest : (b : ℕ) → IsHeldNow g after merged u b → ((b ≡ edge_count g + w.tree.parent_edge u) × (r.second u < w.tree.preorder u)) ⊎ Holds xs b
    held_rest b h =
        let later = h.below.after in
        let above = h.above in
        ⊎_elim
        (λ (b_back : IsUpwards g after b h.low h.end).
        let back = upwards_was b h.low h.end b_back in
        let pending = back_pending b h.low h.end back later above in
        inr ((rest b).1 (
          (kept.listed u b walk.here not_root).1 (record { low = h.low; pending = record { end = h.end; kind = inl (back, pending.1) }; carrier = carrier_here g w u walk r h.low later }),
          λ f holds same. let edge = back.taken.edge in omega (arith, same, edge),
        )))
        (λ (b_cap : IsCapping g after merged b h.low h.end). ⊎_elim
        (λ (own : h.low ≡ u).
        let exact = b_cap.exact in
        let second : merged.second h.low ≡ r.second u = ap merged.second own ∙ second_other u u_apart in
        inl (b_cap.number ∙ ap (λ n. edge_count g + w.tree.parent_edge n) own, omega (arith, exact, second, above)))
        (λ (apart : h.low ≢ u).
        let cap = capping_was b h.low h.end apart b_cap in
        let exact = cap.exact in
        let cap_above = cap.above in
        let over = reaches.second_above h.low h.end cap.left cap.found cap.exact (omega (arith, exact, cap_above)) in
        let stands = open_over h.end h.low cap.found above later over.before in
        inr ((rest b).1 (
          (kept.listed u b walk.here not_root).1 (record { low = h.low; pending = record { end = h.end; kind = inr (cap, stands) }; carrier = carrier_here g w u walk r h.low later }),
          λ f holds same.
              let other = (capped.listed u f walk.here).0 holds in
              let number = cap.number in
              let other_number = other.cap.number in
              let equal : other.low ≡ h.low = one_edge g w u walk other.low h.low (walk.left_found other.low other.cap.left) (walk.left_found h.low cap.left) other.cap.other cap.other (omega (arith, number, other_number, same)) in
              let other_exact = other.cap.exact in
              let seconds = ap r.second equal in
              omega (arith, exact, other_exact, seconds, above),
        )))
        (cases_eq h.low u))
        h.leads

    -- the node's own capping bracket stands above all that is left
    pub own_over : (end : ℕ) → w.found end ≡ true → w.tree.preorder end ≡ r.second u → r.second u < w.tree.preorder u → (b : ℕ) → Holds xs b → IsOver g w.tree (edge_count g + w.tree.parent_edge u) b
    own_over end found exact above b holds =
        let c = (kept.listed u b walk.here not_root).0 ((rest b).0 holds).0 in
        let later = c.carrier.later in
        let own : place g w.tree (edge_count g + w.tree.parent_edge u) ≡ w.tree.preorder u = place_leads g after (w.tree.parent u) (leave_trail g w u walk not_root taken) merged (edge_count g + w.tree.parent_edge u) u end
        (inr (own_capping end found exact above)) in
        let from_place = place_pending g w u walk r b c.low c.pending in
        ⊎_elim
        (λ (less : w.tree.preorder u < w.tree.preorder c.low). inl (omega (arith, own, from_place, less)))
        (λ (more : w.tree.preorder c.low ≤ w.tree.preorder u). inr (
          omega (arith, own, from_place, more, later),
          ⊎_elim
              (λ (back : IsUpwards g w b c.low c.pending.end). let edge = back.taken.edge in omega (arith, edge))
              (λ (cap : IsCapping g w r b c.low c.pending.end).
              let same : c.low ≡ u = walk.one_place c.low u (walk.left_found c.low cap.left) walk.here.found (omega (arith, more, later)) in
              absurd (false≢true (sym walk.here.stays ∙ subst (λ n. w.left n ≡ true) same cap.left)))
              (pending_leads g w u walk r b c.low c.pending),
        ))
        (cases_lt (w.tree.preorder u) (w.tree.preorder c.low))

    -- the node's list, where it gets no capping bracket
    pub held_without_cap : w.tree.preorder u ≤ r.second u → (b : ℕ) → Holds xs b ↔ IsHeldNow g after merged u b
    held_without_cap none b = grind (arith, rest_held, held_rest)

    -- and where it gets one
    pub held_with_cap : (end : ℕ) → w.found end ≡ true → w.tree.preorder end ≡ r.second u → r.second u < w.tree.preorder u → (b : ℕ) → Holds ((edge_count g + w.tree.parent_edge u) ∷ xs) b ↔ IsHeldNow g after merged u b
    held_with_cap end found exact above b = (
      λ holds. ⊎_elim
          (λ (own : edge_count g + w.tree.parent_edge u ≡ b). record {
            low = u;
            end = end;
            leads = inr (subst (λ n. IsCapping g after merged n u end) own (own_capping end found exact above));
            below = below_u u walk.here.found (omega arith);
            above = omega (arith, exact, above);
          })
          (λ (there : Holds xs b). rest_held b there)
          holds,
      λ h. ⊎_elim
          (λ (own : (b ≡ edge_count g + w.tree.parent_edge u) × (r.second u < w.tree.preorder u)). inl (sym own.0))
          (λ (there : Holds xs b). inr there)
          (held_rest b h),
    )

  -- ---- the lists of the nodes that are still open

  -- a bracket that is pending, and doesn't lead from u or below, stays so
  carried_still : (q b : ℕ) → IsOpen after q → IsCarried g w r q b → IsCarried g after merged q b
  carried_still q b stands c =
      let leads = pending_leads g w u walk r b c.low c.pending in
      let end_open = pending_open b c.low c.pending in
      let before : w.tree.preorder c.low < w.tree.preorder u = ⊎_elim
      (λ (less : w.tree.preorder c.low < w.tree.preorder u). less)
      (λ (more : w.tree.preorder u ≤ w.tree.preorder c.low).
      let least = c.carrier.last u walk.here more in
      let most = walk.last q (open_was q stands) in
      absurd (open_apart q stands (walk.one_place q u stands.found walk.here.found (omega (arith, least, most)))))
      (cases_lt (w.tree.preorder c.low) (w.tree.preorder u)) in
      record {
        low = c.low;
        pending = record {
          end = c.pending.end;
          kind = ⊎_elim
              (λ (back : IsUpwards g w b c.low c.pending.end × (IsTaken g w c.pending.end b → ⊥)). inl (
                upwards_still b c.low c.pending.end back.0,
                λ h. back.1 (record { edge = h.edge; touched = h.touched; early = h.early }),
              ))
              (λ (cap : IsCapping g w r b c.low c.pending.end × IsOpen w c.pending.end).
              let above = cap.0.above in
              inr (capping_still b c.low c.pending.end cap.0, open_still c.pending.end (λ same. let places = ap w.tree.preorder same in omega (arith, places, above, before)) cap.1))
              c.pending.kind;
        };
        carrier = record { later = c.carrier.later; last = λ y y_open. c.carrier.last y (open_was y y_open) };
      }

  carried_was : (q b : ℕ) (c : IsCarried g after merged q b) → w.tree.preorder c.low < w.tree.preorder u → IsCarried g w r q b
  carried_was q b c before = record {
    low = c.low;
    pending = record {
      end = c.pending.end;
      kind = ⊎_elim
          (λ (back : IsUpwards g after b c.low c.pending.end × (IsTaken g after c.pending.end b → ⊥)). inl (
            upwards_was b c.low c.pending.end back.0,
            λ h. back.1 (record { edge = h.edge; touched = h.touched; early = h.early }),
          ))
          (λ (cap : IsCapping g after merged b c.low c.pending.end × IsOpen after c.pending.end).
          inr (capping_was b c.low c.pending.end (λ same. let places = ap w.tree.preorder same in omega (arith, places, before)) cap.0, open_was c.pending.end cap.1))
          c.pending.kind;
    };
    carrier = record {
      later = c.carrier.later;
      last = λ y stands no_later. c.carrier.last y (open_still y (λ same. let places = ap w.tree.preorder same in omega (arith, places, before, no_later)) stands) no_later;
    };
  }

  -- what leads from u or below to above it is carried by the parent
  held_carried : (b : ℕ) → IsHeldNow g after merged u b → IsCarried g after merged (w.tree.parent u) b
  held_carried b h =
      let later = h.below.after in
      let above = h.above in
      let first = up_first in
      record {
        low = h.low;
        pending = record {
          end = h.end;
          kind = ⊎_elim
              (λ (b_back : IsUpwards g after b h.low h.end).
              let pending = back_pending b h.low h.end (upwards_was b h.low h.end b_back) later above in
              inl (b_back, λ t. pending.1 (record { edge = t.edge; touched = t.touched; early = t.early })))
              (λ (b_cap : IsCapping g after merged b h.low h.end).
              let stands : IsOpen w h.end = ⊎_elim
              (λ (own : h.low ≡ u).
              let exact = b_cap.exact in
              let second : merged.second h.low ≡ r.second u = ap merged.second own ∙ second_other u u_apart in
              reaches.second_open u h.end walk.here b_cap.found (omega (arith, exact, second)) (omega (arith, exact, second, above)))
              (λ (apart : h.low ≢ u).
              let cap = capping_was b h.low h.end apart b_cap in
              let exact = cap.exact in
              let cap_above = cap.above in
              let over = reaches.second_above h.low h.end cap.left cap.found cap.exact (omega (arith, exact, cap_above)) in
              open_over h.end h.low cap.found above later over.before)
              (cases_eq h.low u) in
              inr (b_cap, open_still h.end (λ same. let places = ap w.tree.preorder same in omega (arith, places, above)) stands))
              h.leads;
        };
        carrier = record { later = omega (arith, first, later); last = λ y stands before. last y stands };
      }

  -- and what the parent carries from u or below leads to above u
  carried_held : (b : ℕ) (c : IsCarried g after merged (w.tree.parent u) b) → w.tree.preorder u ≤ w.tree.preorder c.low → IsHeldNow g after merged u b
  carried_held b c later =
      let first = up_first in
      ⊎_elim
      (λ (back : IsUpwards g after b c.low c.pending.end × (IsTaken g after c.pending.end b → ⊥)).
      let old = upwards_was b c.low c.pending.end back.0 in
      let end_found = walk.ends_found c.low c.pending.end b old.found old.taken old.joins in
      let touch = joins_touches g b c.pending.end c.low (joins_back g b c.low c.pending.end old.joins) in
      let not_taken : IsTaken g w c.pending.end b → ⊥ = λ t. back.1 (record { edge = t.edge; touched = t.touched; early = t.early }) in
      let stands : IsOpen after c.pending.end = record {
        found = end_found;
        stays = ⊎_elim
            (λ (left : after.left c.pending.end ≡ true). absurd (not_taken (⊎_elim
            (λ (same : c.pending.end ≡ u). subst (λ n. IsTaken g w n b) (sym same) (taken b old.taken.edge (subst (λ n. touches g n b ≡ true) same touch)))
            (λ (was : w.left c.pending.end ≡ true). walk.left_edges c.pending.end b was old.taken.edge touch)
            (left_was c.pending.end left))))
            (λ (stays : after.left c.pending.end ≡ false). stays)
            (cases_Bool (after.left c.pending.end));
      } in
      let most = last c.pending.end stands in
      record { low = c.low; end = c.pending.end; leads = inl back.0; below = below_u c.low old.found later; above = omega (arith, most, first) })
      (λ (cap : IsCapping g after merged b c.low c.pending.end × IsOpen after c.pending.end).
      let most = last c.pending.end cap.1 in
      let low_found : w.found c.low ≡ true = ⊎_elim
      (λ (same : c.low ≡ u). subst (λ n. w.found n ≡ true) (sym same) walk.here.found)
      (λ (was : w.left c.low ≡ true). walk.left_found c.low was)
      (left_was c.low cap.0.left) in
      record { low = c.low; end = c.pending.end; leads = inr cap.0; below = below_u c.low low_found later; above = omega (arith, most, first) })
      c.pending.kind

  -- the other open nodes carry what they carried
  carried_early : (q b : ℕ) → IsOpen after q → q ≢ w.tree.parent u → (c : IsCarried g after merged q b) → w.tree.preorder c.low < w.tree.preorder u
  carried_early q b stands apart c = ⊎_elim
      (λ (less : w.tree.preorder c.low < w.tree.preorder u). less)
      (λ (more : w.tree.preorder u ≤ w.tree.preorder c.low).
      let first = up_first in
      let most = last q stands in
      let least = c.carrier.last (w.tree.parent u) (open_still (w.tree.parent u) (λ same. u_apart (sym same)) up) (omega (arith, first, more)) in
      absurd (apart (walk.one_place q (w.tree.parent u) stands.found up.found (omega (arith, most, least)))))
      (cases_lt (w.tree.preorder c.low) (w.tree.preorder u))

  -- The members of the parent's list, once the node's list stands under it, and of the others.
  module _ (lists : ℕ → List ℕ) (kept : AreOpenLists g w r lists) (ys : List ℕ) (held : (b : ℕ) → Holds ys b ↔ IsHeldNow g after merged u b) where
    pub parent_listed : w.tree.parent u ≢ w.tree.root → (b : ℕ) → Holds (lists (w.tree.parent_edge (w.tree.parent u)) ++ ys) b ↔ IsCarried g after merged (w.tree.parent u) b
    parent_listed other b = (
      λ holds. ⊎_elim
          (λ (old : Holds (lists (w.tree.parent_edge (w.tree.parent u))) b).
          carried_still (w.tree.parent u) b (open_still (w.tree.parent u) (λ same. u_apart (sym same)) up) ((kept.listed (w.tree.parent u) b up other).0 old))
          (λ (new : Holds ys b). held_carried b ((held b).0 new))
          (Holds-append (lists (w.tree.parent_edge (w.tree.parent u))) ys b holds),
      λ c. ⊎_elim
          (λ (less : w.tree.preorder c.low < w.tree.preorder u).
          Holds-left (lists (w.tree.parent_edge (w.tree.parent u))) ys b ((kept.listed (w.tree.parent u) b up other).1 (carried_was (w.tree.parent u) b c less)))
          (λ (more : w.tree.preorder u ≤ w.tree.preorder c.low).
          Holds-right (lists (w.tree.parent_edge (w.tree.parent u))) ys b ((held b).1 (carried_held b c more)))
          (cases_lt (w.tree.preorder c.low) (w.tree.preorder u)),
    )

    pub other_listed : (q b : ℕ) → IsOpen after q → q ≢ w.tree.parent u → q ≢ w.tree.root → Holds (lists (w.tree.parent_edge q)) b ↔ IsCarried g after merged q b
    other_listed q b stands apart other = (
      λ holds. carried_still q b stands ((kept.listed q b (open_was q stands) other).0 holds),
      λ c. (kept.listed q b (open_was q stands) other).1 (carried_was q b c (carried_early q b stands apart c)),
    )

    -- a bracket of the parent's list leads from a node that was found before u
    parent_before : w.tree.parent u ≢ w.tree.root → (b : ℕ) → Holds (lists (w.tree.parent_edge (w.tree.parent u))) b → place g w.tree b < w.tree.preorder u
    parent_before other b holds =
        let c = (kept.listed (w.tree.parent u) b up other).0 holds in
        let first = up_first in
        let from_place = place_pending g w u walk r b c.low c.pending in
        ⊎_elim
        (λ (less : w.tree.preorder c.low < w.tree.preorder u). omega (arith, from_place, less))
        (λ (more : w.tree.preorder u ≤ w.tree.preorder c.low). let least = c.carrier.last u walk.here more in absurd (omega (arith, least, first)))
        (cases_lt (w.tree.preorder c.low) (w.tree.preorder u))

    held_place : (b : ℕ) (h : IsHeldNow g after merged u b) → place g w.tree b ≡ w.tree.preorder h.low
    held_place b h = place_leads g after (w.tree.parent u) (leave_trail g w u walk not_root taken) merged b h.low h.end h.leads

    module _ (order : AreInOrder g w.tree ys) where
      parent_order : w.tree.parent u ≢ w.tree.root → AreInOrder g w.tree (lists (w.tree.parent_edge (w.tree.parent u)) ++ ys)
      parent_order other = in_order_append g w.tree (lists (w.tree.parent_edge (w.tree.parent u))) ys (kept.in_order (w.tree.parent u) up other) order
          (λ b c b_holds c_holds.
          let b_before = parent_before other b b_holds in
          let h = (held c).0 c_holds in
          let c_place = held_place c h in
          let later = h.below.after in
          inl (omega (arith, b_before, c_place, later)))

      -- Where the node's list goes under the parent's, or stays where the parent is the root.
      module _ (joined : ℕ → List ℕ) (at_parent : w.tree.parent u ≢ w.tree.root → joined (w.tree.parent_edge (w.tree.parent u)) ≡ lists (w.tree.parent_edge (w.tree.parent u)) ++ ys)
          (at_own : (b : ℕ) → Holds (joined (w.tree.parent_edge u)) b → Holds ys b)
          (elsewhere : (l : ℕ) → l ≢ w.tree.parent_edge u → (w.tree.parent u ≢ w.tree.root → l ≢ w.tree.parent_edge (w.tree.parent u)) → joined l ≡ lists l) where
        at_other : (q : ℕ) → IsOpen after q → q ≢ w.tree.parent u → q ≢ w.tree.root → joined (w.tree.parent_edge q) ≡ lists (w.tree.parent_edge q)
        at_other q stands apart other = elsewhere (w.tree.parent_edge q)
            (λ same. open_apart q stands (one_edge g w u walk q u stands.found walk.here.found other not_root same))
            (λ parent_other same. apart (one_edge g w u walk q (w.tree.parent u) stands.found up.found other parent_other same))

        ys_somewhere : (b : ℕ) → Holds ys b → LeadsSomewhere g after merged b
        ys_somewhere b holds = let h = (held b).0 holds in record { low = h.low; end = h.end; leads = h.leads }

        lists_somewhere : (l b : ℕ) → Holds (lists l) b → LeadsSomewhere g after merged b
        lists_somewhere l b holds = let h = kept.bracket l b holds in record { low = h.low; end = h.end; leads = leads_still b h.low h.end h.leads }

        somewhere : (l b : ℕ) → Holds (joined l) b → LeadsSomewhere g after merged b
        somewhere l b holds = ⊎_elim
            (λ (own : l ≡ w.tree.parent_edge u). ys_somewhere b (at_own b (subst (λ n. Holds (joined n) b) own holds)))
            (λ (not_own : l ≢ w.tree.parent_edge u). ⊎_elim
            (λ (root : w.tree.parent u ≡ w.tree.root). lists_somewhere l b (subst (λ xs. Holds xs b) (elsewhere l not_own (λ other. absurd (other root))) holds))
            (λ (other : w.tree.parent u ≢ w.tree.root). ⊎_elim
            (λ (parents : l ≡ w.tree.parent_edge (w.tree.parent u)). ⊎_elim
            (λ (h : Holds (lists (w.tree.parent_edge (w.tree.parent u))) b). lists_somewhere (w.tree.parent_edge (w.tree.parent u)) b h)
            (λ (h : Holds ys b). ys_somewhere b h)
            (Holds-append (lists (w.tree.parent_edge (w.tree.parent u))) ys b (subst (λ xs. Holds xs b) (at_parent other) (subst (λ n. Holds (joined n) b) parents holds))))
            (λ (apart : l ≢ w.tree.parent_edge (w.tree.parent u)). lists_somewhere l b (subst (λ xs. Holds xs b) (elsewhere l not_own (λ any. apart)) holds))
            (cases_eq l (w.tree.parent_edge (w.tree.parent u))))
            (cases_eq (w.tree.parent u) w.tree.root))
            (cases_eq l (w.tree.parent_edge u))

        pub leave_lists : AreOpenLists g after merged joined
        leave_lists = record {
          empty = λ l none.
              elsewhere l
              (λ same. none u walk.here.found not_root (sym same))
              (λ other same. none (w.tree.parent u) up.found other (sym same))
              ∙ kept.empty l none;
          bracket = somewhere;
          listed = λ q b stands other. ⊎_elim
              (λ (same : q ≡ w.tree.parent u).
              let parent_other : w.tree.parent u ≢ w.tree.root = λ root. other (same ∙ root) in
              subst (λ n. Holds (joined (w.tree.parent_edge n)) b ↔ IsCarried g after merged n b) (sym same)
              (subst (λ xs. Holds xs b ↔ IsCarried g after merged (w.tree.parent u) b) (sym (at_parent parent_other)) (parent_listed parent_other b)))
              (λ (apart : q ≢ w.tree.parent u). subst (λ xs. Holds xs b ↔ IsCarried g after merged q b) (sym (at_other q stands apart other)) (other_listed q b stands apart other))
              (cases_eq q (w.tree.parent u));
          in_order = λ q stands other. ⊎_elim
              (λ (same : q ≡ w.tree.parent u).
              let parent_other : w.tree.parent u ≢ w.tree.root = λ root. other (same ∙ root) in
              subst (λ n. AreInOrder g w.tree (joined (w.tree.parent_edge n))) (sym same) (subst (AreInOrder g w.tree) (sym (at_parent parent_other)) (parent_order parent_other)))
              (λ (apart : q ≢ w.tree.parent u). subst (AreInOrder g w.tree) (sym (at_other q stands apart other)) (kept.in_order q (open_was q stands) other))
              (cases_eq q (w.tree.parent u));
        }

  -- ---- the lists of the nodes that were left

  held_still : (c b : ℕ) → IsHeldNow g w r c b → IsHeldNow g after merged c b
  held_still c b h = record { low = h.low; end = h.end; leads = leads_still b h.low h.end h.leads; below = h.below; above = h.above }

  held_was : (c b : ℕ) → w.left c ≡ true → IsHeldNow g after merged c b → IsHeldNow g w r c b
  held_was c b left h = record {
    low = h.low;
    end = h.end;
    leads = ⊎_elim
        (λ (back : IsUpwards g after b h.low h.end). inl (upwards_was b h.low h.end back))
        (λ (cap : IsCapping g after merged b h.low h.end). inr (capping_was b h.low h.end (λ same. walk.left_apart c u left walk.here (subst (IsBelow w.tree c) same h.below)) cap))
        h.leads;
    below = h.below;
    above = h.above;
  }

  module _ (final : ℕ → List ℕ) (kept : AreLeftLists g w r final) (ys : List ℕ) (held : (b : ℕ) → Holds ys b ↔ IsHeldNow g after merged u b) (order : AreInOrder g w.tree ys) where
    pub leave_left_lists : AreLeftLists g after merged (put final u ys)
    leave_left_lists = record {
      listed = λ c b left other. ⊎_elim
          (λ (same : c ≡ u). subst (λ xs. Holds xs b ↔ IsHeldNow g after merged c b) (sym (put_same final u ys c same))
          (subst (λ n. Holds ys b ↔ IsHeldNow g after merged n b) (sym same) (held b)))
          (λ (apart : c ≢ u).
          let was : w.left c ≡ true = sym (put_other w.left u true c apart) ∙ left in
          let old = kept.listed c b was other in
          subst (λ xs. Holds xs b ↔ IsHeldNow g after merged c b) (sym (put_other final u ys c apart))
          (λ holds. held_still c b (old.0 holds), λ h. old.1 (held_was c b was h)))
          (cases_eq c u);
      in_order = λ c left other. ⊎_elim
          (λ (same : c ≡ u). subst (AreInOrder g w.tree) (sym (put_same final u ys c same)) order)
          (λ (apart : c ≢ u).
          let was : w.left c ≡ true = sym (put_other w.left u true c apart) ∙ left in
          subst (AreInOrder g w.tree) (sym (put_other final u ys c apart)) (kept.in_order c was other))
          (cases_eq c u);
    }

  -- ---- the capping brackets

  module _ (caps : ℕ → List ℕ) (capped : AreCaps g w r caps) (fewer : ℕ → List ℕ)
      (elsewhere : (k f : ℕ) → k ≢ w.tree.preorder u → Holds (fewer k) f ↔ (Holds (caps k) f ⊎ ((k ≡ r.second u) × (r.second u < w.tree.preorder u) × (f ≡ w.tree.parent_edge u))))
      (at_own : (f : ℕ) → Holds (fewer (w.tree.preorder u)) f → ⊥) where
    pub leave_caps : AreCaps g after merged fewer
    leave_caps = record {
      listed = λ y f stands.
          let was = open_was y stands in
          let apart : w.tree.preorder y ≢ w.tree.preorder u = λ same. open_apart y stands (walk.one_place y u stands.found walk.here.found same) in
          let both = elsewhere (w.tree.preorder y) f apart in (
            λ holds. ⊎_elim
                (λ (old : Holds (caps (w.tree.preorder y)) f). let h = (capped.listed y f was).0 old in record { low = h.low; cap = capping_still (edge_count g + f) h.low y h.cap })
                (λ (new : (w.tree.preorder y ≡ r.second u) × (r.second u < w.tree.preorder u) × (f ≡ w.tree.parent_edge u)). record {
                  low = u;
                  cap = subst (λ n. IsCapping g after merged (edge_count g + n) u y) (sym new.2) (own_capping y stands.found new.0 new.1);
                })
                (both.0 holds),
            λ h. both.1 (⊎_elim
                (λ (own : h.low ≡ u).
                let exact = h.cap.exact in
                let above = h.cap.above in
                let number = h.cap.number in
                let by = ap w.tree.parent_edge own in
                let here = ap w.tree.preorder own in
                let second : merged.second h.low ≡ r.second u = ap merged.second own ∙ second_other u u_apart in
                inr (exact ∙ second, omega (arith, exact, second, above, here), omega (arith, number, by)))
                (λ (differs : h.low ≢ u). inl ((capped.listed y f was).1 (record { low = h.low; cap = capping_was (edge_count g + f) h.low y differs h.cap })))
                (cases_eq h.low u)),
          );
      unused = λ k f few holds.
          let inside = walk.in_range u walk.here.found in
          ⊎_elim
          (λ (old : Holds (caps k) f). capped.unused k f few old)
          (λ (new : (k ≡ r.second u) × (r.second u < w.tree.preorder u) × (f ≡ w.tree.parent_edge u)). let at_second = new.0 in let less = new.1 in absurd (omega (arith, at_second, less, few, inside)))
          ((elsewhere k f (λ same. omega (arith, same, few, inside))).0 holds);
    }
