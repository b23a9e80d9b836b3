-- A net of operations has its places after each of the changes that firings make.
use Rattle.std.proofs.Common.{◌≡◌, ◌<◌, ◌⊎◌, ◌&&◌, inl, inr, ℕ, ℤ, List, length, Option, None, Some, slice_get, slice_set, refl, sym, ap, subst, ◌∙◌, arith}
use Rattle.closed_walks.specs.Graph.{edge_count}
use Rattle.list_laws.specs.Member.{Member}
use Rattle.list_laws.proofs.Members.{Member-filtered, Member-in_range}
use Rattle.net_board.specs.Nodes.{all_lines, graph_in, switches}
use Rattle.net_board.specs.TokenEdges.{AreEdges, edge_at}
use Rattle.net_board.specs.Tokens.{joined, led_from}
use Rattle.net_board.proofs.ListPlaces.{get_set_same, get_set_other, length_slice_set, length_with_all, put, same_or_not}
use Rattle.net_tables.proofs.TokenLineLemmas.{led_below, with_all_below}
use Rattle.op_board.specs.OperationNets.{OperationNet, is_last_at, last_needed, needed, operation_at}
use Rattle.op_board.specs.OperationTokens.{OperationTokens, givers, passed_after}
use Rattle.op_board.proofs.ReplacedItems.{length_replaced}
use Rattle.operation_tables.specs.declared.lookups.OperationBoard.{OperationBoard}
use Rattle.operation_places.specs.declared.places.Places.{Places}
use Rattle.operation_tables.specs.BoardView.{operation_net_on}
use Rattle.operation_places.specs.PlacesView.{KeepsCounts, edge_put, line_put, standing, value_put}
use Rattle.operation_places.specs.SoundPlaces.{ArePlaces}
use Rattle.operation_places.specs.StandingChanges.{lines_dropped, lines_moved, room_filled, values_taken}

-- ---- one that is replaced

put_below : (bound : ℕ) (values : List (Option ℕ)) (place : ℕ) (edge : Option ℕ) → ((k e : ℕ) → edge_at values k ≡ Some e → e < bound) → ((e : ℕ) → edge ≡ Some e → e < bound) → (k e : ℕ) → edge_at (slice_set values place edge) k ≡ Some e → e < bound
put_below bound values place edge old new k e is = by (same_or_not place k)
  where
    put_is : (o : Option (Option ℕ)) → joined (put edge o) ≡ Some e → edge ≡ Some e
    put_is None is = absurd cc
    put_is (Some x) is = is

    by : (place ≡ k) ⊎ (place ≡ k → ⊥) → e < bound
    by (inl same) = new e (put_is (slice_get values k) (sym (ap joined (subst (λ (p : ℕ). slice_get (slice_set values p edge) k ≡ put edge (slice_get values k)) (sym same) (get_set_same values k edge))) ∙ is))
    by (inr differ) = old k e (sym (ap joined (get_set_other values place k edge differ)) ∙ is)

none_below : (bound e : ℕ) → None ≡ Some e → e < bound
none_below bound e is = absurd cc

some_below : (bound edge e : ℕ) → edge < bound → Some edge ≡ Some e → e < bound
some_below bound edge e exists is = subst (λ (n : ℕ). n < bound) (let same : edge ≡ e = cc in same) exists

-- ---- the places after a change

module _ {W : ℕ} (board : OperationBoard W) (s t : Places) (are : ArePlaces (operation_net_on board) s) (kept : KeepsCounts s t) where
  abbrev x : OperationNet
  x = operation_net_on board

  abbrev bound : ℕ
  bound = edge_count (graph_in x.net)

  -- places with such lists are those of the net
  places_with : (n : OperationTokens) → standing t ≡ n → length n.tokens.lines ≡ length s.lines.items → length n.passed ≡ length s.passed.items → length n.tokens.edges ≡ length s.edges.items → length n.values ≡ length s.values.items → AreEdges x.net n.tokens.lines → AreEdges x.net n.tokens.edges → ArePlaces x t
  places_with n is lines passed edges values stand lie = record {
    lines = ap (λ (m : OperationTokens). length m.tokens.lines) is ∙ lines ∙ are.lines;
    passed = ap (λ (m : OperationTokens). length m.passed) is ∙ passed ∙ are.passed;
    edges = ap (λ (m : OperationTokens). length m.tokens.edges) is ∙ edges ∙ are.edges;
    values = ap (λ (m : OperationTokens). length m.values) is ∙ values ∙ are.values;
    marks = kept.marks ∙ are.marks;
    room = let more = kept.room in let enough = are.room in omega (arith, more, enough);
    stand = subst (λ (m : OperationTokens). AreEdges x.net m.tokens.lines) (sym is) stand;
    lie = subst (λ (m : OperationTokens). AreEdges x.net m.tokens.edges) (sym is) lie;
  }

  pub same_kept : standing t ≡ standing s → ArePlaces x t
  same_kept is = places_with (standing s) is refl refl refl refl are.stand are.lie

  pub taken_kept : (piece i : ℕ) → standing t ≡ values_taken x (standing s) piece i → ArePlaces x t
  taken_kept piece i is = places_with (values_taken x (standing s) piece i) is refl refl refl (length_replaced s.values.items (givers x piece (operation_at x piece i).operands) (λ k. None)) are.stand are.lie

  pub given_kept : (k : ℕ) (value : Option ℤ) → standing t ≡ value_put (standing s) k value → ArePlaces x t
  given_kept k value is = places_with (value_put (standing s) k value) is refl refl refl (length_slice_set s.values.items k value) are.stand are.lie

  led_exists : (edge line e : ℕ) → line < x.net.routing.lines → edge < bound → led_from x.net edge line ≡ Some e → e < bound
  led_exists edge line e inside exists is = some_below bound _ e (led_below board.plan.board.plan edge line inside exists) is

  last_inside : (piece i line : ℕ) → Member (last_needed x piece i) line → line < x.net.routing.lines
  last_inside piece i line m =
      let f = Member-filtered (λ line. x.needs piece i line && is_last_at x piece i line) (all_lines x.net) line m in
      let r = Member-in_range 0 x.net.routing.lines line f.0 in
      let high = r.1 in
      omega (arith, high)

  pub moved_kept : (piece i edge : ℕ) → edge < bound → standing t ≡ lines_moved x (standing s) piece i edge → ArePlaces x t
  moved_kept piece i edge exists is =
      places_with (lines_moved x (standing s) piece i edge) is
      (length_with_all s.lines.items (last_needed x piece i) (led_from x.net edge))
      (length_replaced s.passed.items (needed x piece i) (passed_after x (standing s) piece i))
      refl refl
      (with_all_below bound s.lines.items (last_needed x piece i) (led_from x.net edge) are.stand (λ line e m is. led_exists edge line e (last_inside piece i line m) exists is))
      are.lie

  pub dropped_kept : (piece i : ℕ) → standing t ≡ lines_dropped x (standing s) piece i → ArePlaces x t
  dropped_kept piece i is =
      places_with (lines_dropped x (standing s) piece i) is
      (length_with_all s.lines.items (needed x piece i) (λ line. None))
      (length_replaced s.passed.items (needed x piece i) (λ line. 0))
      refl refl
      (with_all_below bound s.lines.items (needed x piece i) (λ line. None) are.stand (λ line e m is. none_below bound e is))
      are.lie

  pub filled_kept : (piece edge : ℕ) → edge < bound → standing t ≡ room_filled x (standing s) piece edge → ArePlaces x t
  filled_kept piece edge exists is =
      places_with (room_filled x (standing s) piece edge) is refl refl
      (length_with_all s.edges.items (switches x.net piece) (λ switch. Some edge))
      refl are.stand
      (with_all_below bound s.edges.items (switches x.net piece) (λ switch. Some edge) are.lie (λ switch e m is. some_below bound edge e exists is))

  pub put_kept : (line edge passed : ℕ) → edge < bound → standing t ≡ line_put (standing s) line (Some edge) passed → ArePlaces x t
  put_kept line edge passed exists is =
      places_with (line_put (standing s) line (Some edge) passed) is
      (length_slice_set s.lines.items line (Some edge))
      (length_slice_set s.passed.items line passed)
      refl refl
      (put_below bound s.lines.items line (Some edge) are.stand (λ e is. some_below bound edge e exists is))
      are.lie

  pub led_kept : (line edge : ℕ) → edge < bound → standing t ≡ line_put (standing s) line (Some edge) 0 → ArePlaces x t
  led_kept line edge exists is = put_kept line edge 0 exists is

  pub cleared_kept : (switch : ℕ) → standing t ≡ edge_put (standing s) switch None → ArePlaces x t
  cleared_kept switch is =
      places_with (edge_put (standing s) switch None) is refl refl
      (length_slice_set s.edges.items switch None)
      refl are.stand
      (put_below bound s.edges.items switch None are.lie (λ e is. none_below bound e is))
