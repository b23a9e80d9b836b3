-- Holds that come in rounds are those of the definition.
use Rattle.std.proofs.Common.{◌≡◌, ◌≢◌, ℕ, zero, suc, ◌+◌, ◌<◌, ◌≤◌, true, false, cond, ◌==◌, nat_lt, List, [], ◌∷◌, ◌++◌, length, get_or, filter, fold, refl, sym, ap, ◌∙◌, subst, inl, inr, ⊎_elim, append-nil, append_assoc, arith}
use Rattle.std.proofs.Math.Seq.{get_or-append_seam}
use Rattle.std.proofs.lemmas.Bool.{cases_Bool, cases_lt, cond-true, cond-false, lt-ltb, le-ltb, ne_eqb}
use Rattle.std.proofs.lemmas.List.{length-append, get_or_append_left}
use Rattle.std.proofs.lemmas.List.FromFn.{length-range_with_len, get_or-range_with_len}
use Rattle.std.proofs.lemmas.List.Sums.{fold_push, position_or_len_is, fails_before_first, passes_at_first}
use Rattle.std.specs.List.{position_or_len, range_with_len}
use Rattle.closed_walks.specs.Graph.{Graph, IsGraph, edge_count, from, to}
use Rattle.f77_tree.specs.declared.programs.Exec.{Exec}
use Rattle.f77_tree.specs.declared.programs.NameInfo.{NameInfo}
use Rattle.f77_tree.specs.WellFormed.{AreExecs}
use Rattle.cfg_build.specs.declared.pieces.Piece.{Piece}
use Rattle.cfg_build.specs.declared.pieces.PieceKind.{PieceKind}
use Rattle.cfg_build.specs.Parts.{parts}
use Rattle.cfg_build.specs.Joined.{FlowGraph, rows, finish, joined}
use Rattle.cfg_build.specs.Holds.{is_on_cycle, is_held, is_join, held_edge, with_hold}
use Rattle.cfg_build.specs.Flow.{flow, held, with_hold_for, piece_at}
use Rattle.cfg_build.specs.Rounds.{is_stuck, lowest_stuck, hold_at, rounds}
use Rattle.cfg_build.specs.Tables.{Leaves}
use Rattle.cfg_build.proofs.AfterHolds.{AfterHolds, after_all}
use Rattle.cfg_build.proofs.BuildingHolds.{stays_held}
use Rattle.cfg_build.proofs.FanCounts.{comes_to, leaves_from}
use Rattle.cfg_build.proofs.FlowEdges.{IsHeldPiece, held_is, held_piece_is, held_rise}
use Rattle.cfg_build.proofs.HeldEdges.{IsHoldEdge, edge_for, hold_edge, hold_leaves_join, hold_comes_to_other, edges_apart}
use Rattle.cfg_build.proofs.HoldDegrees.{HasHolds, none_yet, all_more}
use Rattle.cfg_build.proofs.Holding.{begun, AreHeld, all_held}
use Rattle.cfg_build.proofs.JoinedGraph.{row_graph, edge_zero}
use Rattle.cfg_build.proofs.Lowest.{IsHeldBy, held_says}
use Rattle.list_laws.specs.Member.{Member}
use Rattle.list_laws.proofs.Members.{Member-left, Member-at, at_of, Member-filter, Member-filtered, Member-range, Member-in_range}
use Rattle.cfg_build.proofs.PieceKinds.{pieces_of, length_pieces}
use Rattle.cfg_build.proofs.ReachedNodes.{IsTold, Reaches, stay, along}
use Rattle.cfg_build.proofs.ReachedPieces.{joined_sound, finish_below}
use Rattle.cfg_build.proofs.RoundReach.{cases_held, stuck_no_way, was_stuck, still_stuck}

module _ (told : IsTold) (names : List NameInfo) (execs : List Exec) (loops : ℕ) (well : AreExecs names execs loops) where
  abbrev g : Graph
  g = row_graph (parts execs) (finish execs)

  abbrev end : ℕ
  end = finish execs

  abbrev edge_of : ℕ → ℕ
  edge_of x = edge_for told names execs loops well x

  abbrev IsOne : ℕ → Type 0
  IsOne x = IsHeldPiece told names execs loops well x

  sound : IsGraph (row_graph (parts execs) (finish execs))
  sound = joined_sound told names execs loops well

  end_below : finish execs < length (rows (parts execs))
  end_below = finish_below told names execs loops well

  edge_is : (x : ℕ) → IsOne x → IsHoldEdge (row_graph (parts execs) (finish execs)) x (edge_of x)
  edge_is x one = hold_edge told names execs loops well x one.below one.is

  -- the edge on which its hold stands leads to the piece
  back_to : (x : ℕ) → IsOne x → Reaches (row_graph (parts execs) (finish execs)) (from (row_graph (parts execs) (finish execs)) (edge_of x)) x
  back_to x one = ⊎_elim
      (λ (h : is_join (piece_at (pieces_of (parts execs)) x).kind ≡ true). stay g (from g (edge_of x)) x (hold_leaves_join told names execs loops well x one.below one.is h))
      (λ (h : is_join (piece_at (pieces_of (parts execs)) x).kind ≡ false).
      along g (from g (edge_of x)) x (record { number = edge_of x; exists = (edge_is x one).exists; begins = refl; ends = hold_comes_to_other told names execs loops well x one.below one.is h }))
      (cases_Bool (is_join (piece_at (pieces_of (parts execs)) x).kind))

  -- holds have come so far
  module _ (done rest : List ℕ) (split : held execs ≡ done ++ rest) where
    abbrev now : FlowGraph
    now = fold (with_hold_for execs) (joined execs) done

    lengths : length (held execs) ≡ length done + length rest
    lengths = ap (λ (xs : List ℕ). length xs) split ∙ length-append done rest

    done_at : (q : ℕ) → q < length done → get_or (held execs) q 0 ≡ get_or done q 0
    done_at q less = ap (λ (xs : List ℕ). get_or xs q 0) split ∙ get_or_append_left done rest 0 q less

    is_one : (q : ℕ) → q < length done → IsOne (get_or done q 0)
    is_one q less = subst (λ x. IsOne x) (done_at q less) (held_piece_is told names execs loops well q (omega (arith, less, lengths)))

    member_one : (x : ℕ) → Member done x → IsOne x
    member_one x m = held_is told names execs loops well x (subst (λ (xs : List ℕ). Member xs x) (sym split) (Member-left done rest x m))

    apart : (q p : ℕ) → q < p → p < length done → edge_of (get_or done q 0) ≢ edge_of (get_or done p 0)
    apart q p less some =
        grind (arith, is_one q, is_one p some, held_rise told names execs loops well q p less, lengths, done_at q, done_at p some, edges_apart told names execs loops well (get_or done q 0) (get_or done p 0))

    after : AfterHolds (row_graph (parts execs) (finish execs)) (finish execs) (edge_for told names execs loops well) done (length done) (fold (with_hold_for execs) (joined execs) done).graph
    after =
        after_all g end (edge_for told names execs loops well) done (λ q some. (edge_is (get_or done q 0) (is_one q some)).exists) apart
        (λ x. piece_at (pieces_of (parts execs)) x) (joined execs) refl

    holds : AreHeld (row_graph (parts execs) (finish execs)) (finish execs) (joined execs) (fold (with_hold_for execs) (joined execs) done) done
    holds =
        all_held g end (edge_for told names execs loops well) (λ x. piece_at (pieces_of (parts execs)) x) sound end_below done (joined execs)
        (begun g end sound (edge_zero (parts execs) end).1)
        (λ x m. edge_is x (member_one x m))

    pieces : HasHolds (joined execs) (finish execs) (fold (with_hold_for execs) (joined execs) done)
    pieces = search (all_more, edge_for, pieces_of, end_below, none_yet, sound, length_pieces, edge_is, member_one, arith)

    was : (x : ℕ) → x < length (rows (parts execs)) → is_stuck (fold (with_hold_for execs) (joined execs) done).graph (finish execs) x ≡ true → (is_on_cycle (row_graph (parts execs) (finish execs)) x ≡ true) × (Leaves (row_graph (parts execs) (finish execs)) (finish execs) done x → ⊥)
    was x node stuck =
        let w = was_stuck g sound end (edge_for told names execs loops well) done now.graph after (λ q some. edge_is (get_or done q 0) (is_one q some)) (λ q some. back_to (get_or done q 0) (is_one q some)) told end_below holds.holding.sound holds.holding.kept
        (λ q some. holds.lead (get_or done q 0) (Member-at done q 0 some)) x node stuck in
        (w.cycle, w.stays)

    still : (x : ℕ) → x < length (rows (parts execs)) → is_on_cycle (row_graph (parts execs) (finish execs)) x ≡ true → (Leaves (row_graph (parts execs) (finish execs)) (finish execs) done x → ⊥) → is_stuck (fold (with_hold_for execs) (joined execs) done).graph (finish execs) x ≡ true
    still x node cycle stays =
        still_stuck g sound end (edge_for told names execs loops well) done now.graph after (λ q some. edge_is (get_or done q 0) (is_one q some)) (λ q some. back_to (get_or done q 0) (is_one q some)) told end_below holds.holding.sound holds.holding.kept
        (λ q some. holds.lead (get_or done q 0) (Member-at done q 0 some)) x node cycle stays

    no_way : (x : ℕ) → x < (fold (with_hold_for execs) (joined execs) done).graph.nodes → is_stuck (fold (with_hold_for execs) (joined execs) done).graph (finish execs) x ≡ true → Reaches (fold (with_hold_for execs) (joined execs) done).graph x (finish execs) → ⊥
    no_way x node stuck way =
        stuck_no_way g sound end (edge_for told names execs loops well) done now.graph after (λ q some. edge_is (get_or done q 0) (is_one q some)) (λ q some. back_to (get_or done q 0) (is_one q some)) told end_below holds.holding.sound holds.holding.kept
        (λ q some. holds.lead (get_or done q 0) (Member-at done q 0 some)) x node stuck way

    reaches_done : (x z : ℕ) → Reaches (row_graph (parts execs) (finish execs)) x z → Member done z → Leaves (row_graph (parts execs) (finish execs)) (finish execs) done x
    reaches_done x z r m = grind (arith, at_of done z m)

    leaves_done : (x : ℕ) → x < length (rows (parts execs)) → ((z : ℕ) → Member (held execs) z → z ≤ x → Member done z) → Leaves (row_graph (parts execs) (finish execs)) (finish execs) (filter (is_held (row_graph (parts execs) (finish execs)) (finish execs)) (range_with_len 0 x)) x → Leaves (row_graph (parts execs) (finish execs)) (finish execs) done x
    leaves_done x node lower (inl way) = inl way
    leaves_done x node lower (inr one) =
        let below : List ℕ = filter (is_held g end) (range_with_len 0 x) in
        let z : ℕ = get_or below one.place 0 in
        let r = Member-filtered (is_held g end) (range_with_len 0 x) z (Member-at below one.place 0 one.exists) in
        let within = Member-in_range 0 x z r.0 in
        let all : Member (held execs) z = Member-filter (is_held g end) (range_with_len 0 g.nodes) z (Member-range 0 g.nodes z (omega arith) (omega (arith, within.1, node))) r.1 in
        reaches_done x z one.reach (lower z all (omega (arith, within.1)))

    -- a piece isn't stuck where each held one up to it has its hold
    not_stuck : (x : ℕ) → x < (fold (with_hold_for execs) (joined execs) done).graph.nodes → ((z : ℕ) → Member (held execs) z → z ≤ x → Member done z) → is_stuck (fold (with_hold_for execs) (joined execs) done).graph (finish execs) x ≡ false
    not_stuck x exists lower = ⊎_elim
        (λ (stuck : is_stuck now.graph end x ≡ true). ⊎_elim
        (λ (node : x < length (rows (parts execs))).
        let w = was x node stuck in
        let one : is_held g end x ≡ true = stays_held told g sound end end_below x node (λ leaves. w.1 (leaves_done x node lower leaves)) w.0 in
        let all : Member (held execs) x = Member-filter (is_held g end) (range_with_len 0 g.nodes) x (Member-range 0 g.nodes x (omega arith) (omega (arith, node))) one in
        absurd (w.1 (reaches_done x x (stay g x x refl) (lower x all (omega arith)))))
        (λ (new : length (rows (parts execs)) ≤ x). absurd (no_way x exists stuck (holds.holding.fresh x new exists).leads))
        (cases_lt x (length (rows (parts execs)))))
        (λ no. no)
        (cases_Bool (is_stuck now.graph end x))

    at_place : (x : ℕ) → x < (fold (with_hold_for execs) (joined execs) done).graph.nodes → get_or (range_with_len 0 (fold (with_hold_for execs) (joined execs) done).graph.nodes) x 0 ≡ x
    at_place x exists = let is : get_or (range_with_len 0 now.graph.nodes) x 0 ≡ 0 + x = get_or-range_with_len 0 now.graph.nodes x 0 exists in omega (arith, is)

  -- ---- when all have their holds

  over : (done : List ℕ) → held execs ≡ done → (most : ℕ) → rounds most (finish execs) (fold (with_hold_for execs) (joined execs) done) ≡ fold (with_hold_for execs) (joined execs) done
  over done split zero = refl
  over done split (suc most) =
      let f : FlowGraph = fold (with_hold_for execs) (joined execs) done in
      let whole : held execs ≡ done ++ [] = split ∙ sym (append-nil done) in
      let count : length (range_with_len 0 f.graph.nodes) ≡ f.graph.nodes = length-range_with_len 0 f.graph.nodes in
      let lowest : lowest_stuck f.graph end ≡ f.graph.nodes =
      position_or_len_is (is_stuck f.graph end) (range_with_len 0 f.graph.nodes) f.graph.nodes 0 (omega (arith, count))
      (λ k less. ap (λ n. is_stuck f.graph end n) (at_place done [] whole k less) ∙ not_stuck done [] whole k less (λ z m le. subst (λ (xs : List ℕ). Member xs z) split m))
      (λ less. absurd (omega (arith, less, count))) in
      ap (λ n. cond (nat_lt n f.graph.nodes) (rounds most end (hold_at end f n)) f) lowest
      ∙ cond-false (nat_lt f.graph.nodes f.graph.nodes) (rounds most end (hold_at end f f.graph.nodes)) f (le-ltb f.graph.nodes f.graph.nodes (omega arith))

  -- ---- one round

  module _ (done : List ℕ) (y : ℕ) (more : List ℕ) (split : held execs ≡ done ++ y ∷ more) where
    abbrev f : FlowGraph
    f = fold (with_hold_for execs) (joined execs) done

    some : length done < length (held execs)
    some = let all : length (held execs) ≡ length done + length (y ∷ more) = lengths done (y ∷ more) split in omega (arith, all)

    next_is : get_or (held execs) (length done) 0 ≡ y
    next_is = ap (λ (xs : List ℕ). get_or xs (length done) 0) split ∙ get_or-append_seam done y more 0

    y_one : IsOne y
    y_one = subst (λ x. IsOne x) next_is (held_piece_is told names execs loops well (length done) some)

    y_exists : y < (fold (with_hold_for execs) (joined execs) done).graph.nodes
    y_exists = omega (arith, y_one.below, (after done (y ∷ more) split).nodes)

    -- those before it are lower
    done_lower : (q : ℕ) → q < length done → get_or done q 0 < y
    done_lower q less =
        grind (arith, held_rise told names execs loops well q (length done) less some, some, next_is, done_at done (y ∷ more) split q less)

    lower_done : (z : ℕ) → Member (held execs) z → z < y → Member done z
    lower_done z m less =
        grind (arith, at_of (held execs) z m, done_at done (y ∷ more) split, Member-at done, held_rise told names execs loops well (length done), next_is, cases_lt (length done))

    y_says : IsHeldBy told (row_graph (parts execs) (finish execs)) sound (finish execs) y
    y_says = held_says told g sound end y y_one.below y_one.is

    y_stays : Leaves (row_graph (parts execs) (finish execs)) (finish execs) done y → ⊥
    y_stays (inl way) = y_says.stuck way
    y_stays (inr one) =
        let z : ℕ = get_or done one.place 0 in
        let is : IsOne z = is_one done (y ∷ more) split one.place one.exists in
        let says : IsHeldBy told g sound end z = held_says told g sound end z is.below is.is in
        y_says.lowest z (done_lower one.place one.exists) says.on_cycle one.reach

    lowest : lowest_stuck (fold (with_hold_for execs) (joined execs) done).graph (finish execs) ≡ y
    lowest =
        let count : length (range_with_len 0 f.graph.nodes) ≡ f.graph.nodes = length-range_with_len 0 f.graph.nodes in
        position_or_len_is (is_stuck f.graph end) (range_with_len 0 f.graph.nodes) y 0 (omega (arith, count, y_exists))
        (λ k less.
        let exists : k < f.graph.nodes = omega (arith, less, y_exists) in
        ap (λ n. is_stuck f.graph end n) (at_place done (y ∷ more) split k exists) ∙ not_stuck done (y ∷ more) split k exists (λ z m le. lower_done z m (omega (arith, le, less))))
        (λ less. ap (λ n. is_stuck f.graph end n) (at_place done (y ∷ more) split y y_exists) ∙ still done (y ∷ more) split y y_one.below y_says.on_cycle y_stays)

    -- ---- its hold stands where the definition says

    abbrev kind : PieceKind
    kind = (piece_at (pieces_of (parts execs)) y).kind

    not_held : (q : ℕ) → q < length done → edge_of (get_or done q 0) ≢ edge_of y
    not_held q less =
        let a : IsOne (get_or done q 0) = is_one done (y ∷ more) split q less in
        edges_apart told names execs loops well (get_or done q 0) y a.below y_one.below a.is y_one.is (done_lower q less)

    out_same : is_join (piece_at (pieces_of (parts execs)) y).kind ≡ true → position_or_len (λ e. e.0 == y) (fold (with_hold_for execs) (joined execs) done).graph.edges ≡ position_or_len (λ e. e.0 == y) (row_graph (parts execs) (finish execs)).edges
    unfolding from
    out_same h =
        let at : ℕ = position_or_len (leaves_from y) g.edges in
        let is : edge_of y ≡ at = cond-true (is_join kind) at (position_or_len (comes_to y) g.edges) h in
        let found : at < edge_count g = subst (λ e. e < edge_count g) is (edge_is y y_one).exists in
        let a = after done (y ∷ more) split in
        position_or_len_is (leaves_from y) f.graph.edges at (0, 0) (omega (arith, found, a.edges))
        (λ k less. ap (λ n. n == y) (a.tails k (omega (arith, less, found))) ∙ fails_before_first (leaves_from y) g.edges k (0, 0) less)
        (λ less. ap (λ n. n == y) (a.tails at found) ∙ passes_at_first (leaves_from y) g.edges (0, 0) found)

    in_fails : (k : ℕ) → k < edge_count (row_graph (parts execs) (finish execs)) → (to (row_graph (parts execs) (finish execs)) k == y) ≡ false → (to (fold (with_hold_for execs) (joined execs) done).graph k == y) ≡ false
    in_fails k old fails = ⊎_elim
        (λ (r : (q : ℕ) × (q < length done) × (edge_of (get_or done q 0) ≡ k)).
        let leads : to f.graph k ≡ g.nodes + r.0 = ap (λ e. to f.graph e) (sym r.2) ∙ (after done (y ∷ more) split).held r.0 r.1 in
        ne_eqb (to f.graph k) y (λ (s : to f.graph k ≡ y). omega (arith, s, leads, y_one.below)))
        (λ (none : (q : ℕ) → q < length done → edge_of (get_or done q 0) ≢ k). ap (λ n. n == y) ((after done (y ∷ more) split).free k old none) ∙ fails)
        (cases_held g sound end (edge_for told names execs loops well) done f.graph (after done (y ∷ more) split) k (length done))

    in_same : is_join (piece_at (pieces_of (parts execs)) y).kind ≡ false → position_or_len (λ e. e.1 == y) (fold (with_hold_for execs) (joined execs) done).graph.edges ≡ position_or_len (λ e. e.1 == y) (row_graph (parts execs) (finish execs)).edges
    unfolding to
    in_same h =
        let at : ℕ = position_or_len (comes_to y) g.edges in
        let is : edge_of y ≡ at = cond-false (is_join kind) (position_or_len (leaves_from y) g.edges) at h in
        let found : at < edge_count g = subst (λ e. e < edge_count g) is (edge_is y y_one).exists in
        let a = after done (y ∷ more) split in
        position_or_len_is (comes_to y) f.graph.edges at (0, 0) (omega (arith, found, a.edges))
        (λ k less. in_fails k (omega (arith, less, found)) (fails_before_first (comes_to y) g.edges k (0, 0) less))
        (λ less. ap (λ n. n == y) (a.free at found (λ q few. λ (s : edge_of (get_or done q 0) ≡ at). not_held q few (s ∙ sym is))) ∙ passes_at_first (comes_to y) g.edges (0, 0) found)

    edge_same : held_edge (fold (with_hold_for execs) (joined execs) done).graph y (piece_at (pieces_of (parts execs)) y).kind ≡ held_edge (row_graph (parts execs) (finish execs)) y (piece_at (pieces_of (parts execs)) y).kind
    edge_same = search (cond-true, out_same, cond-false, in_same, arith)

    same_hold : hold_at (finish execs) (fold (with_hold_for execs) (joined execs) done) y ≡ with_hold_for execs (fold (with_hold_for execs) (joined execs) done) y
    same_hold =
        let piece : piece_at f.pieces y ≡ piece_at (joined execs).pieces y = (pieces done (y ∷ more) split).old_piece y y_one.below in
        ap (λ (p : Piece). with_hold end f (held_edge f.graph y p.kind) p) piece
        ∙ ap (λ e. with_hold end f e (piece_at (joined execs).pieces y)) edge_same

    one_round : (most : ℕ) → rounds (suc most) (finish execs) (fold (with_hold_for execs) (joined execs) done) ≡ rounds most (finish execs) (fold (with_hold_for execs) (joined execs) (done ++ y ∷ []))
    one_round most =
        grind (arith, lowest, cond-true (nat_lt y f.graph.nodes) (rounds most end (hold_at end f y)) f (lt-ltb y f.graph.nodes y_exists), lt-ltb y f.graph.nodes y_exists, y_exists, same_hold, fold_push (with_hold_for execs) (joined execs) done y)

  -- ---- all rounds

  all_rounds : (rest done : List ℕ) → held execs ≡ done ++ rest → (most : ℕ) → length rest ≤ most → rounds most (finish execs) (fold (with_hold_for execs) (joined execs) done) ≡ flow execs
  all_rounds [] done split most few = grind (arith, append-nil done, over done)
  all_rounds (y ∷ more) done split zero few = absurd (omega (arith, few))
  all_rounds (y ∷ more) done split (suc most) few =
      one_round done y more split most ∙ all_rounds more (done ++ y ∷ []) (split ∙ sym (append_assoc done (y ∷ []) more)) most (omega (arith, few))

  pub rounds_are_flow : (most : ℕ) → length (held execs) ≤ most → rounds most (finish execs) (joined execs) ≡ flow execs
  rounds_are_flow most few = all_rounds (held execs) [] refl most few

  pub none_stuck : (x : ℕ) → x < (flow execs).graph.nodes → is_stuck (flow execs).graph (finish execs) x ≡ false
  none_stuck x exists = not_stuck (held execs) [] (sym (append-nil (held execs))) x exists (λ z m le. m)
