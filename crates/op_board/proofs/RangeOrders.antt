-- Orders of firing nodes one after another, by their numbers.
use Rattle.std.proofs.Common.{◌≡◌, ℕ, suc, ◌+◌, List, [], ◌∷◌, ◌++◌, sym, ap, ◌∙◌, subst, append-nil}
use Rattle.std.specs.List.{range_with_len}
use Rattle.firing.specs.Moves.{Moves, CanFire, line_bytes}
use Rattle.firing.specs.Orders.{IsOrder, after, written}
use Rattle.net_board.proofs.OrderJoins.{after_join, order_join, range_more, written_join}

module _ {M : Type 0} (s : Moves M) where
  order_parts : (m : M) (ks js : List ℕ) → IsOrder s m (ks ++ js) → IsOrder s m ks × IsOrder s (after s m ks) js
  order_parts m [] js order = (tt, order)
  order_parts m (k ∷ ks) js order = let rest = order_parts (s.fired m k) ks js order.1 in ((order.0, rest.0), rest.1)

  module _ (m : M) (a i : ℕ) where
    pub after_more : after s m (range_with_len a (suc i)) ≡ s.fired (after s m (range_with_len a i)) (a + i)
    after_more = ap (after s m) (range_more a i) ∙ after_join s m (range_with_len a i) ((a + i) ∷ [])

    pub order_more : IsOrder s m (range_with_len a i) → CanFire s (after s m (range_with_len a i)) (a + i) → IsOrder s m (range_with_len a (suc i))
    order_more order can = subst (λ (ks : List ℕ). IsOrder s m ks) (sym (range_more a i)) (order_join s m (range_with_len a i) ((a + i) ∷ []) order (can, tt))

    pub written_more : written s m (range_with_len a (suc i)) ≡ written s m (range_with_len a i) ++ line_bytes (s.line (after s m (range_with_len a i)) (a + i))
    written_more =
        ap (written s m) (range_more a i)
        ∙ written_join s m (range_with_len a i) ((a + i) ∷ [])
        ∙ ap (λ (rest : List ℕ). written s m (range_with_len a i) ++ rest) (append-nil (line_bytes (s.line (after s m (range_with_len a i)) (a + i))))

    -- the last firing, and those before
    pub order_less : IsOrder s m (range_with_len a (suc i)) → IsOrder s m (range_with_len a i) × CanFire s (after s m (range_with_len a i)) (a + i)
    order_less order =
        let parts = order_parts m (range_with_len a i) ((a + i) ∷ []) (subst (λ (ks : List ℕ). IsOrder s m ks) (range_more a i) order) in
        (parts.0, parts.1.0)
