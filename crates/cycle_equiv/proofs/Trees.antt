-- Descendants in a depth-first tree, and which edges leave them.
use Rattle.std.proofs.Common.{◌≡◌, ◌≢◌, ℕ, zero, suc, ◌<◌, ◌⊎◌, sym, ap, ◌∙◌, subst, ⊎_elim, arith}
use Rattle.std.proofs.lemmas.Bool.{cases_eq, cases_lt}
use Rattle.closed_walks.specs.Graph.{Graph}
use Rattle.cycle_equiv.specs.DepthFirst.{Tree, IsChild, IsBelow, IsDepthFirst}

-- a test of whether one node is below another
pub cases_below : (t : Tree) (c x : ℕ) → IsBelow t c x ⊎ (IsBelow t c x → ⊥)
cases_below t c x = grind arith

module _ (g : Graph) (t : Tree) (tree : IsDepthFirst g t) where
  -- ---- descendants

  pub below_itself : (x : ℕ) → x < g.nodes → IsBelow t x x
  below_itself x node = let later = tree.left_later x node in record { after = omega arith; before = later }

  pub below_on : (a b c : ℕ) → a < g.nodes → b < g.nodes → IsBelow t a b → IsBelow t b c → IsBelow t a c
  below_on a b c a_node b_node above below = let end = tree.nested a b a_node b_node above in record { after = omega arith; before = omega arith }

  -- the ancestors of a node are below one another
  pub below_either : (a b x : ℕ) → IsBelow t a x → IsBelow t b x → IsBelow t a b ⊎ IsBelow t b a
  below_either a b x first second = grind (arith, cases_lt (t.preorder a) (t.preorder b))

  pub parent_above : (x : ℕ) → IsChild g t x → IsBelow t x (t.parent x) → ⊥
  parent_above x child below = let first = tree.parent_first x child in omega arith

  -- a child is below its parent
  pub child_below : (x : ℕ) → IsChild g t x → IsBelow t (t.parent x) x
  child_below x child = grind (arith, below_itself (t.parent x) (tree.parent_node x child))

  -- a child that is below another one is below the parent of neither
  pub not_nested : (a b : ℕ) → IsChild g t a → IsChild g t b → t.parent a ≡ t.parent b → a ≢ b → IsBelow t a b → ⊥
  not_nested a b a_child b_child same apart below = grind (arith, parent_above a a_child)

  -- two children of one node have no descendant in common
  pub children_apart : (a b x : ℕ) → IsChild g t a → IsChild g t b → t.parent a ≡ t.parent b → a ≢ b → IsBelow t a x → IsBelow t b x → ⊥
  children_apart a b x a_child b_child same apart first second =
      grind (arith, not_nested a b a_child b_child same apart, not_nested b a b_child a_child, below_either a b x first second)

  -- the child of p that x is below
  pub record IsThrough (p x : ℕ) : Type 0 where
    pub child : ℕ
    pub is_child : IsChild g t child
    pub parent : t.parent child ≡ p
    pub below : IsBelow t child x

  through_below : (k p x : ℕ) → t.preorder x < k → p < g.nodes → x < g.nodes → IsBelow t p x → x ≢ p → IsThrough p x
  through_below zero p x few p_node x_node below apart = absurd (omega arith)
  through_below (suc k) p x few p_node x_node below apart = ⊎_elim
      (λ (same : t.parent x ≡ p). record { child = x; is_child = child; parent = same; below = below_itself x x_node })
      (λ (differs : t.parent x ≡ p → ⊥).
      let first = tree.parent_first x child in
      let rest : IsThrough p (t.parent x) = through_below k p (t.parent x) (omega arith) p_node (tree.parent_node x child) up differs in
      record {
        child = rest.child;
        is_child = rest.is_child;
        parent = rest.parent;
        below = (tree.by_parent rest.child x rest.is_child.node child (λ same. differs (subst (λ c. t.parent c ≡ p) same rest.parent))).0 rest.below;
      })
      (cases_eq (t.parent x) p)
    where
      not_root : x ≢ t.root
      not_root same =
          let place : t.preorder x ≡ 0 = ap t.preorder same ∙ tree.root_first in
          apart (tree.one_place x p x_node p_node (let after = below.after in omega arith))

      child : IsChild g t x
      child = record { node = x_node; other = not_root }

      up : IsBelow t p (t.parent x)
      up = (tree.by_parent p x p_node child (λ same. apart (sym same))).1 below

  -- A descendant of p other than p is below a child of p.
  pub through : (p x : ℕ) → p < g.nodes → x < g.nodes → IsBelow t p x → x ≢ p → IsThrough p x
  through p x p_node x_node below apart = through_below (suc (t.preorder x)) p x (omega arith) p_node x_node below apart
