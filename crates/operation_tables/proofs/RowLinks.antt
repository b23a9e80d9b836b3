-- The rows of a piece, as the lines are linked from the last operation on.
use Rattle.std.proofs.Common.{◌≡◌, ℕ, zero, suc, ◌+◌, ◌<◌, ◌==◌, ◌||◌, Bool, true, false, if◌then◌else◌, List, [], ◌∷◌, length, map, get_or, All, Option, Some, None, slice_index_or, refl, sym, ap, ◌∙◌, subst, eq-eqb, arith}
use Rattle.std.specs.List.{list_any}
use Rattle.std.specs.List.Sorted.{IsStrictlyIncreasing}
use Rattle.std.proofs.lemmas.List.{get_or-map, length-map}
use Rattle.op_board.specs.OperationNets.{OperationNet, needing_before, operation_count}
use Rattle.operation_tables.specs.declared.hops.Hop.{Hop}
use Rattle.operation_tables.specs.declared.hops.Scratch.{Scratch}
use Rattle.operation_tables.specs.declared.rows.Row.{Row}
use Rattle.operation_tables.specs.OperationRows.{IsCountedHop, IsHop, IsRowWith}
use Rattle.operation_tables.specs.ScratchLines.{AreLinked, FirstIs, HasLines, IsClean, first_at, linked}
use Rattle.operation_tables.proofs.HopLinks.{has_line, line_of}
use Rattle.operation_tables.proofs.RowCounts.{any_filtered, filter_rises, first_before, first_here, next_is}

any_mapped : (hops : List Hop) (line : ℕ) → list_any (has_line line) hops ≡ list_any (λ other. other == line) (map line_of hops)
any_mapped [] line = refl
any_mapped (hop ∷ hops) line = ap (λ b. (hop.line == line) || b) (any_mapped hops line)

lines_linked : (s : Scratch) (hops : List Hop) → map line_of (map (linked s) hops) ≡ map line_of hops
lines_linked s [] = refl
lines_linked s (hop ∷ hops) = ap (λ rest. hop.line ∷ rest) (lines_linked s hops)

module _ (x : OperationNet) (piece i : ℕ) where
  module _ (IsHopOf : Hop → Type 0) (row : Row) (is : IsRowWith IsHopOf x piece i row) where
    pub row_rises : IsStrictlyIncreasing (map line_of row.hops.items)
    row_rises = subst IsStrictlyIncreasing (sym is.lines) (filter_rises (x.needs piece i) x.net.routing.lines)

    -- the lines of the hops are those that the operation needs
    pub row_lines : (line : ℕ) → line < x.net.routing.lines → list_any (has_line line) row.hops.items ≡ x.needs piece i line
    row_lines line low = any_mapped row.hops.items line ∙ ap (list_any (λ other. other == line)) is.lines ∙ any_filtered (x.needs piece i) x.net.routing.lines line low

  hop_needs : (row : Row) (is : IsRowWith (IsCountedHop x piece i) x piece i row) (k : ℕ) (d : Hop) → k < length row.hops.items → x.needs piece i (line_of (get_or row.hops.items k d)) ≡ true
  hop_needs row is k d low = sym (row_lines (IsCountedHop x piece i) row is (line_of (get_or row.hops.items k d)) (is.hops k d low).exists) ∙ held row.hops.items k low
    where
      held : (hops : List Hop) (k : ℕ) → k < length hops → list_any (has_line (line_of (get_or hops k d))) hops ≡ true
      held [] k low = absurd (omega (arith, low))
      held (hop ∷ hops) zero low = ap (λ b. b || list_any (has_line hop.line) hops) (eq-eqb hop.line hop.line refl)
      held (hop ∷ hops) (suc k) low = or_right (has_line (line_of (get_or hops k d)) hop) (list_any (has_line (line_of (get_or hops k d))) hops) (held hops k (omega (arith, low)))
        where
          or_right : (a b : Bool) → b ≡ true → (a || b) ≡ true
          or_right true b h = refl
          or_right false b h = h

  module _ (s : Scratch) (links : AreLinked x piece (i + 1) s) (inside : i < operation_count x piece) where
    hop_linked : (hop : Hop) → IsCountedHop x piece i hop → x.needs piece i hop.line ≡ true → IsHop x piece i (linked s hop)
    hop_linked hop is needs = record {
      exists = is.exists;
      before = is.before;
      next = next_is x piece hop.line i (first_at s hop.line) inside needs (links.first hop.line is.exists);
    }

    -- the row with its lines linked
    pub row_linked : (row other : Row) → IsRowWith (IsCountedHop x piece i) x piece i row → other.hops.items ≡ map (linked s) row.hops.items → (IsRowWith (IsHop x piece i) x piece i (record row { hops = other.hops }))
    row_linked row other is hops_are = record {
      own_piece = is.own_piece;
      own_number = is.own_number;
      task = is.task;
      can = is.can;
      takes = is.takes;
      room = is.room;
      operands = is.operands;
      few = is.few;
      count = is.count;
      waits = is.waits;
      gives = is.gives;
      decides = is.decides;
      serial = is.serial;
      edge = is.edge;
      taker = is.taker;
      lines = ap (map line_of) hops_are ∙ lines_linked s row.hops.items ∙ is.lines;
      hops = subst (All (IsHop x piece i)) (sym hops_are) each;
    }
      where
        each : All (IsHop x piece i) (map (linked s) row.hops.items)
        each k d low =
            let size : length (map (linked s) row.hops.items) ≡ length row.hops.items = length-map row.hops.items (linked s) in
            let low' : k < length row.hops.items = omega (arith, low, size) in
            subst (IsHop x piece i) (sym (get_or-map (linked s) row.hops.items k d d low')) (hop_linked (get_or row.hops.items k d) (is.hops k d low') (hop_needs row is k d low'))

    -- the lines that the operation needs are linked to it, and others as they were
    pub links_more : (hops : List Hop) → ((line : ℕ) → line < x.net.routing.lines → list_any (has_line line) hops ≡ x.needs piece i line) → (new : Scratch) → HasLines x.net.routing.lines new → ((line : ℕ) → first_at new line ≡ if list_any (has_line line) hops then Some i else first_at s line) → AreLinked x piece i new
    links_more hops own new all firsts = record { all = all; first = each }
      where
        each : (line : ℕ) → line < x.net.routing.lines → FirstIs x piece i line (first_at new line)
        each line low = by (x.needs piece i line) refl
          where
            by : (b : Bool) → x.needs piece i line ≡ b → FirstIs x piece i line (first_at new line)
            by true needs = subst (FirstIs x piece i line) (sym (firsts line ∙ ap (λ b. if b then Some i else first_at s line) (own line low ∙ needs))) (first_here x piece line i inside needs)
            by false none = subst (FirstIs x piece i line) (sym (firsts line ∙ ap (λ b. if b then Some i else first_at s line) (own line low ∙ none))) (first_before x piece line i (first_at s line) none (links.first line low))

  -- at first no line is linked
  pub links_begin : (old new : Scratch) → IsClean x.net.routing.lines old → HasLines x.net.routing.lines new → new.first.items ≡ old.first.items → i ≡ operation_count x piece → AreLinked x piece i new
  links_begin old new clean all same is = record {
    all = all;
    first = λ line low. subst (FirstIs x piece i line) (sym (ap (λ (xs : List (Option ℕ)). slice_index_or xs line None) same ∙ clean.first line low)) (ap (λ n. needing_before x piece n line) (sym is));
  }
