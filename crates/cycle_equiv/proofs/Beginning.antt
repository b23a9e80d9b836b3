-- Where a depth-first walk begins.
use Rattle.std.proofs.Common.{◌≡◌, ◌≢◌, ℕ, zero, suc, ◌+◌, ◌<◌, ◌≤◌, true, false, List, [], refl, sym, ◌∙◌, subst, ⊎_elim, arith}
use Rattle.std.proofs.lemmas.Bool.{cases_lt, false≢true}
use Rattle.closed_walks.specs.Graph.{Graph}
use Rattle.cycle_equiv.specs.Walking.{Trail, IsTaken, IsOpen, IsTrail, IsCounted, HasPlace, unfound, put, beginning, finding}
use Rattle.cycle_equiv.specs.TrailReaches.{Reaches, AreReaches}
use Rattle.cycle_equiv.specs.Pending.{AreOpenLists, AreLeftLists, AreCaps}
use Rattle.cycle_equiv.proofs.Steps.{put_same, put_other}
use Rattle.cycle_equiv.proofs.Ending.{unfound_find}

all_unfound : (n : ℕ) → unfound (λ x. false) n ≡ n
all_unfound zero = refl
all_unfound (suc n) = let rest = all_unfound n in omega (arith, rest)

module _ (g : Graph) (root : ℕ) (node : root < g.nodes) where
  alone : (x : ℕ) → put (λ y. false) root true x ≡ true → x ≡ root
  alone x found = grind (arith, put_other)

  none_taken : (x e : ℕ) → IsTaken g (beginning root) x e → ⊥
  none_taken x e h = let early = h.early in omega (arith, early)

  root_open : IsOpen (beginning root) root
  root_open = record { found = put_same (λ y. false) root true root refl; stays = refl }

  pub begin_counted : IsCounted g (beginning root)
  begin_counted = record { count = unfound_find (λ x. false) root g.nodes node refl ∙ all_unfound g.nodes }

  pub begin_trail : IsTrail g (beginning root) root
  begin_trail = grind (arith, root_open, alone, none_taken)

  pub begin_reaches : AreReaches g (beginning root) (record { own = λ x. 0; first = λ x. 0; second = λ x. 0 })
  begin_reaches = grind (arith, none_taken)

  module _ (r : Reaches) where
    pub begin_lists : AreOpenLists g (beginning root) r (λ l. [])
    begin_lists = grind (arith, alone)

    pub begin_left_lists : (final : ℕ → List ℕ) → AreLeftLists g (beginning root) r final
    begin_left_lists final = grind arith

    pub begin_caps : AreCaps g (beginning root) r (λ k. [])
    begin_caps = grind arith

  pub begin_places : (k : ℕ) → k < 1 → HasPlace (beginning root) k
  begin_places k less = record { node = root; found = put_same (λ y. false) root true root refl; exact = omega (arith, less) }

-- each place below the count stays that of a node
pub find_places : (w : Trail) (u e v : ℕ) → w.found v ≡ false → ((k : ℕ) → k < w.count → HasPlace w k) → (k : ℕ) → k < w.count + 1 → HasPlace (finding w u e v) k
find_places w u e v hidden places k less = ⊎_elim
    (λ (old : k < w.count).
    let p = places k old in
    let apart : p.node ≢ v = λ same. false≢true (sym (subst (λ n. w.found n ≡ false) (sym same) hidden) ∙ p.found) in
    record {
      node = p.node;
      found = put_other w.found v true p.node apart ∙ p.found;
      exact = put_other w.tree.preorder v w.count p.node apart ∙ p.exact;
    })
    (λ (new : w.count ≤ k). record {
      node = v;
      found = put_same w.found v true v refl;
      exact = put_same w.tree.preorder v w.count v refl ∙ omega (arith, new, less);
    })
    (cases_lt k w.count)
