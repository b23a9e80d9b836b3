-- The lines that an operation needs are moved, one after another.
use Rattle.std.proofs.Common.{◌≡◌, ◌<◌, ℕ, suc, ◌==◌, ◌&&◌, Bool, true, false, cond, if◌then◌else◌, List, [], ◌∷◌, length, filter, fold, Option, None, slice_set, refl, sym, ap, ◌∙◌, subst, inl, inr, arith}
use Rattle.std.proofs.lemmas.Bool.{and_parts, eqb-true}
use Rattle.std.specs.List.{list_all}
use Rattle.list_laws.specs.Member.{Member}
use Rattle.net_board.specs.Nodes.{all_lines, graph_in}
use Rattle.net_board.specs.Tokens.{edge_of, is_before, joined, leads_to, led_from, with_all}
use Rattle.net_board.proofs.ListPlaces.{all_pass, get_set_other, index_of, length_slice_set, same_tests}
use Rattle.net_board.proofs.NodeLaws.{Distinct, distinct_filter, distinct_range}
use Rattle.op_board.specs.OperationNets.{OperationNet, is_last_at, last_needed, needed, needing_before}
use Rattle.op_board.specs.OperationTokens.{OperationTokens, passed_after, passed_by, replaced, stands_before}
use Rattle.op_board.proofs.NeededLines.{needed_has}
use Rattle.op_net.specs.PlaceSteps.{line_dropped, line_moved}
use Rattle.operation_places.specs.PlacesView.{line_put}
use Rattle.operation_places.specs.StandingChanges.{lines_dropped, lines_moved}
use Rattle.operation_places.proofs.FoldedLists.{filter_twice, own_edge, replaced_alike}

all_dropped : (m : OperationTokens) (lines : List ℕ) → fold line_dropped m lines ≡ record m { tokens = record m.tokens { lines = with_all m.tokens.lines lines (λ line. None) }; passed = replaced m.passed lines (λ line. 0) }
all_dropped m [] = refl
all_dropped m (line ∷ lines) = all_dropped (line_put m line None 0) lines

module _ (x : OperationNet) (piece i : ℕ) where
  pub needed_dropped : (m : OperationTokens) → fold line_dropped m (needed x piece i) ≡ lines_dropped x m piece i
  needed_dropped m = all_dropped m (needed x piece i)

  pub distinct_needed : Distinct (needed x piece i)
  distinct_needed = distinct_filter (x.needs piece i) (all_lines x.net) (distinct_range 0 x.net.routing.lines)

  -- the other lines stand where they did
  stands_same : (m : OperationTokens) (line other : ℕ) (edge : Option ℕ) (passed : ℕ) → (line ≡ other → ⊥) → stands_before x (line_put m line edge passed) piece i other ≡ stands_before x m piece i other
  stands_same m line other edge passed apart =
      ap (λ o. leads_to (graph_in x.net) piece (joined o) && (passed_by (line_put m line edge passed) other == needing_before x piece i other)) (get_set_other m.tokens.lines line other edge apart)
      ∙ ap (λ n. is_before x.net m.tokens piece other && (n == needing_before x piece i other)) (index_of (slice_set m.passed line passed) m.passed other (get_set_other m.passed line other passed apart))

  pub still_stand : (m : OperationTokens) (line : ℕ) (edge : Option ℕ) (passed : ℕ) (rest : List ℕ) → (Member rest line → ⊥) → list_all (stands_before x m piece i) rest ≡ true → list_all (stands_before x (line_put m line edge passed) piece i) rest ≡ true
  still_stand m line edge passed rest apart stand =
      same_tests (stands_before x (line_put m line edge passed) piece i) (stands_before x m piece i) rest
      (λ other among. stands_same m line other edge passed (λ same. apart (subst (λ (n : ℕ). Member rest n) (sym same) among)))
      ∙ stand

  -- ---- along an edge

  module _ (edge : ℕ) where
    pub moved_stand : (m : OperationTokens) (line : ℕ) (rest : List ℕ) → (Member rest line → ⊥) → list_all (stands_before x m piece i) rest ≡ true → list_all (stands_before x (line_moved x piece i edge m line) piece i) rest ≡ true
    moved_stand m line rest apart stand = by (is_last_at x piece i line)
      where
        by : (b : Bool) → list_all (stands_before x (if b then line_put m line (led_from x.net edge line) 0 else line_put m line (edge_of m.tokens line) (suc (needing_before x piece i line))) piece i) rest ≡ true
        by true = still_stand m line (led_from x.net edge line) 0 rest apart stand
        by false = still_stand m line (edge_of m.tokens line) (suc (needing_before x piece i line)) rest apart stand

    abbrev after : ℕ → ℕ
    after line = if is_last_at x piece i line then 0 else suc (needing_before x piece i line)

    abbrev lines_led : OperationTokens → List ℕ → List ℕ → OperationTokens
    lines_led m led passed = record m { tokens = record m.tokens { lines = with_all m.tokens.lines led (led_from x.net edge) }; passed = replaced m.passed passed after }

    all_moved : (m : OperationTokens) (lines : List ℕ) → ((line : ℕ) → Member lines line → line < length m.tokens.lines) → fold (line_moved x piece i edge) m lines ≡ lines_led m (filter (is_last_at x piece i) lines) lines
    all_moved m [] within = refl
    all_moved m (line ∷ rest) within = by (λ n same. all_moved n rest (λ other among. let low = within other (inr among) in omega (arith, low, same))) (is_last_at x piece i line)
      where
        by : ((n : OperationTokens) → length n.tokens.lines ≡ length m.tokens.lines → fold (line_moved x piece i edge) n rest ≡ lines_led n (filter (is_last_at x piece i) rest) rest) → (b : Bool)
            → fold (line_moved x piece i edge) (if b then line_put m line (led_from x.net edge line) 0 else line_put m line (edge_of m.tokens line) (suc (needing_before x piece i line))) rest
            ≡ record m { tokens = record m.tokens { lines = with_all m.tokens.lines (cond b (line ∷ filter (is_last_at x piece i) rest) (filter (is_last_at x piece i) rest)) (led_from x.net edge) }; passed = replaced (slice_set m.passed line (if b then 0 else suc (needing_before x piece i line))) rest after }
        by more true = more (line_put m line (led_from x.net edge line) 0) (length_slice_set m.tokens.lines line (led_from x.net edge line))
        by more false =
            more (line_put m line (edge_of m.tokens line) (suc (needing_before x piece i line))) (length_slice_set m.tokens.lines line (edge_of m.tokens line))
            ∙ ap (λ (ls : List (Option ℕ)). record m { tokens = record m.tokens { lines = with_all ls (filter (is_last_at x piece i) rest) (led_from x.net edge) }; passed = replaced (slice_set m.passed line (suc (needing_before x piece i line))) rest after }) (own_edge m.tokens.lines line (within line (inl refl)))

    pub needed_moved : (m : OperationTokens) → length m.tokens.lines ≡ x.net.routing.lines → list_all (stands_before x m piece i) (needed x piece i) ≡ true → fold (line_moved x piece i edge) m (needed x piece i) ≡ lines_moved x m piece i edge
    needed_moved m long stand =
        all_moved m (needed x piece i) (λ line among. let low = (needed_has x piece i line among).0 in omega (arith, low, long))
        ∙ ap (λ (ls : List ℕ). lines_led m ls (needed x piece i)) (filter_twice (x.needs piece i) (is_last_at x piece i) (all_lines x.net))
        ∙ ap (λ (ps : List ℕ). record m { tokens = record m.tokens { lines = with_all m.tokens.lines (last_needed x piece i) (led_from x.net edge) }; passed = ps }) (replaced_alike m.passed (needed x piece i) after (passed_after x m piece i) same)
      where
        same : (line : ℕ) → Member (needed x piece i) line → after line ≡ passed_after x m piece i line
        same line among =
            let stands : stands_before x m piece i line ≡ true = all_pass (stands_before x m piece i) (needed x piece i) line stand among in
            ap (λ (n : ℕ). if is_last_at x piece i line then 0 else suc n) (sym (eqb-true (passed_by m line) (needing_before x piece i line) (and_parts (is_before x.net m.tokens piece line) (passed_by m line == needing_before x piece i line) stands).1))

    pub moved_length : (m : OperationTokens) (line : ℕ) → length (line_moved x piece i edge m line).tokens.lines ≡ length m.tokens.lines
    moved_length m line = by (is_last_at x piece i line)
      where
        by : (b : Bool) → length (if b then line_put m line (led_from x.net edge line) 0 else line_put m line (edge_of m.tokens line) (suc (needing_before x piece i line))).tokens.lines ≡ length m.tokens.lines
        by true = length_slice_set m.tokens.lines line (led_from x.net edge line)
        by false = length_slice_set m.tokens.lines line (edge_of m.tokens line)

    pub moved_passed : (m : OperationTokens) (line : ℕ) → length (line_moved x piece i edge m line).passed ≡ length m.passed
    moved_passed m line = by (is_last_at x piece i line)
      where
        by : (b : Bool) → length (if b then line_put m line (led_from x.net edge line) 0 else line_put m line (edge_of m.tokens line) (suc (needing_before x piece i line))).passed ≡ length m.passed
        by true = length_slice_set m.passed line 0
        by false = length_slice_set m.passed line (suc (needing_before x piece i line))
