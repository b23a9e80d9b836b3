-- Of a part that leads only to another part, and that other, no more than one piece is held.
use Rattle.std.proofs.Common.{◌≡◌, ◌≢◌, ℕ, ◌+◌, ◌<◌, true, false, List, [], ◌∷◌, length, refl, sym, ap, ◌∙◌, subst, inl, inr, ⊎_elim, arith}
use Rattle.std.proofs.lemmas.Bool.{cases_Bool, cases_order, cond-true, cond-false}
use Rattle.closed_walks.specs.Graph.{Graph, IsGraph}
use Rattle.f77_tree.specs.declared.programs.Exec.{Exec}
use Rattle.f77_tree.specs.declared.programs.NameInfo.{NameInfo}
use Rattle.f77_tree.specs.WellFormed.{AreExecs}
use Rattle.cfg_build.specs.declared.parts.Part.{Part}
use Rattle.cfg_build.specs.declared.parts.Target.{Target}
use Rattle.cfg_build.specs.Parts.{parts}
use Rattle.cfg_build.specs.Joined.{rows, finish, is_joined, number}
use Rattle.cfg_build.specs.Holds.{is_held}
use Rattle.cfg_build.proofs.ReachedNodes.{IsTold, Reaches, stay, join, along}
use Rattle.cfg_build.proofs.JoinedGraph.{row_graph, heads_at, heads_of_join, heads_of_part, edge_to_head, number_of, to_own}
use Rattle.cfg_build.proofs.Lowest.{IsHeldBy, held_says}
use Rattle.cfg_build.proofs.PieceNumbers.{part_at, first_piece, own_piece, joins, number_is, own_below}
use Rattle.cfg_build.proofs.ReachedPieces.{apart, joined_sound}
use Rattle.cfg_build.proofs.HeldEdges.{not_to_lower}
use Rattle.cfg_build.proofs.TwoHolds.{forced, only_head, IsOf, parts_share_none}

module _ (told : IsTold) (names : List NameInfo) (execs : List Exec) (loops : ℕ) (well : AreExecs names execs loops) where
  abbrev ps : List Part
  ps = parts execs

  abbrev g : Graph
  g = row_graph (parts execs) (finish execs)

  abbrev sound : IsGraph (row_graph (parts execs) (finish execs))
  sound = joined_sound told names execs loops well

  module _ (i j : ℕ) (some : i < length (parts execs)) (other : j < length (parts execs)) (differ : i ≢ j) (t : Target) (outs : (part_at (parts execs) i).outs ≡ t ∷ []) (own : (part_at (parts execs) j).own ≡ t) (x y : ℕ) (x_below : x < length (rows (parts execs))) (y_below : y < length (rows (parts execs))) (x_held : is_held (row_graph (parts execs) (finish execs)) (finish execs) x ≡ true) (y_held : is_held (row_graph (parts execs) (finish execs)) (finish execs) y ≡ true) (x_of : IsOf (parts execs) i x) (y_of : IsOf (parts execs) j y) where
    says : IsHeldBy told (row_graph (parts execs) (finish execs)) (joined_sound told names execs loops well) (finish execs) x
    says = held_says told g sound (finish execs) x x_below x_held

    -- the piece reaches its part's own piece, the first piece of the other part, and the other piece
    to_own_piece : (k z : ℕ) → k < length (parts execs) → IsOf (parts execs) k z → Reaches (row_graph (parts execs) (finish execs)) z (own_piece (parts execs) k)
    to_own_piece k z exists of = ⊎_elim
        (λ (h : z ≡ first_piece ps k). subst (λ n. Reaches g n (own_piece ps k)) (sym h) (to_own ps (finish execs) (apart told names execs loops well) k exists))
        (λ (h : z ≡ own_piece ps k). stay g z (own_piece ps k) h)
        of

    from_first : Reaches (row_graph (parts execs) (finish execs)) (first_piece (parts execs) j) y
    from_first = ⊎_elim
        (λ (h : y ≡ first_piece ps j). stay g (first_piece ps j) y (sym h))
        (λ (h : y ≡ own_piece ps j). subst (λ n. Reaches g (first_piece ps j) n) (sym h) (to_own ps (finish execs) (apart told names execs loops well) j other))
        y_of

    heads : heads_at (parts execs) (own_piece (parts execs) i) ≡ first_piece (parts execs) j ∷ []
    heads =
        grind (arith, heads_of_part ps i some, number_of ps (finish execs) (apart told names execs loops well) j t other own, apart told names execs loops well)

    x_to_own : Reaches (row_graph (parts execs) (finish execs)) x (own_piece (parts execs) i)
    x_to_own = to_own_piece i x some x_of

    x_to_first : Reaches (row_graph (parts execs) (finish execs)) x (first_piece (parts execs) j)
    x_to_first = join g x (own_piece ps i) (first_piece ps j) x_to_own
        (along g (own_piece ps i) (first_piece ps j) (edge_to_head ps (finish execs) (own_piece ps i) (first_piece ps j) (first_piece ps j ∷ []) (own_below ps i some) heads (inl refl)))

    x_to_y : Reaches (row_graph (parts execs) (finish execs)) x y
    x_to_y = join g x (first_piece ps j) y x_to_first from_first

    not_end : (z : ℕ) → Reaches (row_graph (parts execs) (finish execs)) x z → z ≢ finish execs
    not_end z r is = says.stuck (subst (λ n. Reaches g x n) is r)

    -- the first piece of a part leads only to its own
    own_forced : (k : ℕ) → k < length (parts execs) → Reaches (row_graph (parts execs) (finish execs)) x (first_piece (parts execs) k) → Reaches (row_graph (parts execs) (finish execs)) (first_piece (parts execs) k) x → Reaches (row_graph (parts execs) (finish execs)) (own_piece (parts execs) k) x
    own_forced k exists from_x r = ⊎_elim
        (λ (h : is_joined ps (part_at ps k) ≡ true).
        let one : joins ps (part_at ps k) ≡ 1 = cond-true (is_joined ps (part_at ps k)) 1 0 h in
        let is : number ps (part_at ps k).own ≡ first_piece ps k = number_is ps k (apart told names execs loops well) exists in
        let same : number ps (part_at ps k).own + 1 ≡ own_piece ps k = omega (arith, one, is) in
        forced told g sound x says.cycle (first_piece ps k) (own_piece ps k)
        (only_head ps (finish execs) (first_piece ps k) (own_piece ps k) (not_end (first_piece ps k) from_x) (heads_of_join ps k exists h ∙ ap (λ n. n ∷ []) same)) r)
        (λ (h : is_joined ps (part_at ps k) ≡ false).
        let none : joins ps (part_at ps k) ≡ 0 = cond-false (is_joined ps (part_at ps k)) 1 0 h in
        let same : first_piece ps k ≡ own_piece ps k = omega (arith, none) in
        subst (λ n. Reaches g n x) same r)
        (cases_Bool (is_joined ps (part_at ps k)))

    own_returns : Reaches (row_graph (parts execs) (finish execs)) (own_piece (parts execs) i) x
    own_returns = ⊎_elim
        (λ (h : x ≡ first_piece ps i). own_forced i some (stay g x (first_piece ps i) h) (stay g (first_piece ps i) x (sym h)))
        (λ (h : x ≡ own_piece ps i). stay g (own_piece ps i) x (sym h))
        x_of

    first_returns : Reaches (row_graph (parts execs) (finish execs)) (first_piece (parts execs) j) x
    first_returns =
        forced told g sound x says.cycle (own_piece ps i) (first_piece ps j)
        (only_head ps (finish execs) (own_piece ps i) (first_piece ps j) (not_end (own_piece ps i) x_to_own) heads) own_returns

    y_to_x : Reaches (row_graph (parts execs) (finish execs)) y x
    y_to_x = ⊎_elim
        (λ (h : y ≡ first_piece ps j). subst (λ n. Reaches g n x) (sym h) first_returns)
        (λ (h : y ≡ own_piece ps j). subst (λ n. Reaches g n x) (sym h) (own_forced j other x_to_first first_returns))
        y_of

    pub not_both : ⊥
    not_both = ⊎_elim
        (λ (h : x ≡ y). parts_share_none ps i j x some other differ x_of (⊎_elim (λ (a : y ≡ first_piece ps j). inl (h ∙ a)) (λ (a : y ≡ own_piece ps j). inr (h ∙ a)) y_of))
        (⊎_elim
        (λ (h : x < y). not_to_lower told names execs loops well x y x_below y_below x_held y_held h y_to_x)
        (λ (h : y < x). not_to_lower told names execs loops well y x y_below x_below y_held x_held h x_to_y))
        (cases_order x y)
