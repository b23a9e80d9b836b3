-- Which node each line goes through, line by line.
use Rattle.std.proofs.Common.{◌≡◌, ◌<◌, ◌≤◌, ◌+◌, ◌-◌, ◌&&◌, ℕ, zero, suc, Bool, true, false, not, if◌then◌else◌, List, [], ◌∷◌, get_or, length, filter, map, replicate, zero-add, length-append, refl, sym, ap, ◌∙◌, subst, arith}
use Rattle.std.specs.List.{range_with_len}
use Rattle.std.proofs.lemmas.List.{ext_get_or, get_or-replicate}
use Rattle.std.proofs.lemmas.List.FromFn.{length-map-range_with_len, get_or-map-range_with_len}
use Rattle.cfg_build.specs.declared.pieces.PieceKind.{PieceKind}
use Rattle.cfg_build.specs.declared.pieces.PieceKind.TheVariants as kind
use Rattle.dep_routing.proofs.Listing.{filter_between}
use Rattle.net_board.specs.Nodes.{NetOf, graph_in, kind_in, all_lines, is_free, led_to, passing, nodes_by, node_count, first_node}
use Rattle.net_board.specs.WokenNodes.{merge_number, no_node, passing_below, place_by, place_of, places, switch_number}
use Rattle.net_tables.specs.NetTables.{kept_by, kept_places}
use Rattle.net_tables.proofs.NodeRanges.{nodes_within}
use Rattle.net_tables.proofs.TableLemmas.{filter_next, mapped_at, mapped_length}

-- ---- counts

pub passing_next : (test : ℕ → Bool) (n : ℕ) → passing_below test (n + 1) ≡ passing_below test n + (if test n then 1 else 0)
passing_next test n = ap length (filter_next test n) ∙ length-append (filter test (range_with_len 0 n)) (if test n then n ∷ [] else []) ∙ by (test n)
  where
    by : (b : Bool) → passing_below test n + length (if b then n ∷ [] else []) ≡ passing_below test n + (if b then 1 else 0)
    by true = refl
    by false = refl

passing_more : (test : ℕ → Bool) (n more : ℕ) → passing_below test n ≤ passing_below test (n + more)
passing_more test n zero = let e : n + 0 ≡ n = omega arith in subst (λ m. passing_below test n ≤ passing_below test m) (sym e) (omega arith)
passing_more test n (suc more) =
    let r = passing_more test n more in
    let s = passing_next test (n + more) in
    let e : (n + more) + 1 ≡ n + suc more = omega arith in
    subst (λ m. passing_below test n ≤ passing_below test m) e (omega (arith, r, s))

pub passing_rises : (test : ℕ → Bool) (n m : ℕ) → n ≤ m → passing_below test n ≤ passing_below test m
passing_rises test n m most =
    let e : n + (m - n) ≡ m = omega (arith, most) in
    subst (λ x. passing_below test n ≤ passing_below test x) e (passing_more test n (m - n))

-- tests that tell the same below a number pass as many below it
pub passing_same : (f h : ℕ → Bool) (n : ℕ) → ((i : ℕ) → i < n → f i ≡ h i) → passing_below f n ≡ passing_below h n
passing_same f h zero same = refl
passing_same f h (suc n) same =
    let e : suc n ≡ n + 1 = omega arith in
    ap (passing_below f) e ∙ passing_next f n
    ∙ ap (λ m. m + (if f n then 1 else 0)) (passing_same f h n (λ i below. same i (omega (arith, below))))
    ∙ ap (λ (b : Bool). passing_below h n + (if b then 1 else 0)) (same n (omega arith))
    ∙ sym (passing_next h n) ∙ ap (passing_below h) (sym e)

-- ---- numbers of the lines that pass, one line after another

pub number_begin : (test : ℕ → Bool) (first line : ℕ) → ((k : ℕ) → k < line → test k ≡ false) → first ≡ first + passing_below test line
number_begin test first line none =
    let gap : passing_below test line ≡ 0 = ap length (filter_between test 0 line (omega arith) (λ k from below. none k below)) in
    omega (arith, gap)

module _ (test : ℕ → Bool) (first line number : ℕ) (is : number ≡ first + passing_below test line) (passes : test line ≡ true) where
  one_more : passing_below test (line + 1) ≡ passing_below test line + 1
  one_more = passing_next test line ∙ ap (λ (b : Bool). passing_below test line + (if b then 1 else 0)) passes

  pub number_next : (next : ℕ) → line < next → ((k : ℕ) → line < k → k < next → test k ≡ false) → number + 1 ≡ first + passing_below test next
  number_next next above none =
      let more = one_more in
      let gap : passing_below test next ≡ passing_below test (line + 1) = ap length (filter_between test (line + 1) next (omega (arith, above)) (λ k from below. none k (omega (arith, from)) below)) in
      omega (arith, is, more, gap)

  pub number_fits : (lines bound : ℕ) → line < lines → first + passing_below test lines < bound → number + 1 < bound
  number_fits lines bound low room =
      let more = one_more in
      let rises = passing_rises test (line + 1) lines (omega (arith, low)) in
      omega (arith, is, more, rises, room)

module _ (net : NetOf) (piece : ℕ) where
  abbrev passes_by : ℕ → Bool
  passes_by other = is_free net piece other && not (net.touches piece other)

  -- the number of a switch, or of a merge, by a test that tells the same
  pub switch_told : (passing : ℕ → Bool) (first line : ℕ) → first ≡ first_node net piece → ((k : ℕ) → k < line → passing k ≡ (is_free net piece k && not (net.touches piece k))) → (first + 1) + passing_below passing line ≡ switch_number net piece line
  switch_told passing first line is same = let s = passing_same passing passes_by line same in omega (arith, is, s)

  pub merge_told : (free : ℕ → Bool) (first line : ℕ) → first ≡ first_node net piece → ((k : ℕ) → k < line → free k ≡ is_free net piece k) → first + passing_below free line ≡ merge_number net piece line
  merge_told free first line is same = let s = passing_same free (is_free net piece) line same in omega (arith, is, s)

  -- ---- places

  pub place_switch : (line first next none : ℕ) (touched passes : Bool) → touched ≡ net.touches piece line → passes ≡ (is_free net piece line && not (net.touches piece line)) → first ≡ first_node net piece → next ≡ switch_number net piece line → none ≡ no_node net → (if touched then first else (if passes then next else none)) ≡ place_by net piece line kind.Branch
  place_switch line first next none touched passes t p f s n =
      ap (λ (b : Bool). if b then first else (if passes then next else none)) t
      ∙ ap (λ (b : Bool). if net.touches piece line then first else (if b then next else none)) p
      ∙ untouched (is_free net piece line) (net.touches piece line)
      ∙ ap (λ x. if net.touches piece line then x else (if is_free net piece line then next else none)) f
      ∙ ap (λ x. if net.touches piece line then first_node net piece else (if is_free net piece line then x else none)) s
      ∙ ap (λ x. if net.touches piece line then first_node net piece else (if is_free net piece line then switch_number net piece line else x)) n
    where
      untouched : (free touches : Bool) → (if touches then first else (if free && not touches then next else none)) ≡ (if touches then first else (if free then next else none))
      untouched free true = refl
      untouched true false = refl
      untouched false false = refl

  pub place_merge : (line next none : ℕ) (free : Bool) → free ≡ is_free net piece line → next ≡ merge_number net piece line → none ≡ no_node net → (if free then next else none) ≡ place_by net piece line kind.Join
  place_merge line next none free r s n =
      ap (λ (b : Bool). if b then next else none) r
      ∙ ap (λ x. if is_free net piece line then x else none) s
      ∙ ap (λ x. if is_free net piece line then merge_number net piece line else x) n

  -- ---- rows

  -- a row with the place of each line
  row_told : (k : PieceKind) (row : List ℕ) → length row ≡ net.routing.lines → ((line : ℕ) → line < net.routing.lines → get_or row line 0 ≡ place_by net piece line k) → row ≡ map (λ (line : ℕ). place_by net piece line k) (all_lines net)
  row_told k row long cells =
      let place : ℕ → ℕ = λ line. place_by net piece line k in
      let count = length-map-range_with_len place 0 net.routing.lines in
      ext_get_or 0 row (map place (all_lines net)) (long ∙ sym count)
      (λ line low.
      let below : line < net.routing.lines = omega (arith, low, long) in
      cells line below ∙ sym (get_or-map-range_with_len place 0 net.routing.lines line line 0 below (zero-add line)))

  module _ (lines first none : ℕ) (all : lines ≡ net.routing.lines) (f : first ≡ first_node net piece) (n : none ≡ no_node net) where
    filled_at : (k : ℕ) → k < lines → get_or (replicate lines none) k 0 ≡ none
    filled_at k low = get_or-replicate lines k none 0 low

    pub switch_row : (touched passing : ℕ → Bool) (numbered row : List ℕ) → ((k : ℕ) → k < lines → touched k ≡ net.touches piece k) → ((k : ℕ) → k < lines → passing k ≡ (is_free net piece k && not (net.touches piece k)))
        → ((k : ℕ) → k < lines → get_or numbered k 0 ≡ (if passing k then (first + 1) + passing_below passing k else get_or (replicate lines none) k 0)) → length row ≡ lines → ((k : ℕ) → k < lines → get_or row k 0 ≡ (if touched k then first else get_or numbered k 0))
        → row ≡ map (λ (line : ℕ). place_by net piece line kind.Branch) (all_lines net)
    switch_row touched passing numbered row t p begun long cells = row_told kind.Branch row (long ∙ all) (λ line low.
        let below : line < lines = omega (arith, low, all) in
        cells line below
        ∙ ap (λ x. if touched line then first else x) (begun line below ∙ ap (λ x. if passing line then (first + 1) + passing_below passing line else x) (filled_at line below))
        ∙ place_switch line first ((first + 1) + passing_below passing line) none (touched line) (passing line) (t line below) (p line below) f (switch_told passing first line f (λ k under. p k (omega (arith, under, below)))) n)

    pub merge_row : (free : ℕ → Bool) (row : List ℕ) → ((k : ℕ) → k < lines → free k ≡ is_free net piece k)
        → length row ≡ lines → ((k : ℕ) → k < lines → get_or row k 0 ≡ (if free k then first + passing_below free k else get_or (replicate lines none) k 0))
        → row ≡ map (λ (line : ℕ). place_by net piece line kind.Join) (all_lines net)
    merge_row free row r long cells = row_told kind.Join row (long ∙ all) (λ line low.
        let below : line < lines = omega (arith, low, all) in
        cells line below ∙ ap (λ x. if free line then first + passing_below free line else x) (filled_at line below)
        ∙ place_merge line (first + passing_below free line) none (free line) (r line below) (merge_told free first line f (λ k under. r k (omega (arith, under, below)))) n)

  pub row_kept : (k : PieceKind) → kind_in net piece ≡ k → kept_by net piece k ≡ places net piece → kept_places net piece ≡ places net piece
  row_kept k is kept = ap (kept_by net piece) is ∙ kept

  pub kept_as : (k : PieceKind) → kind_in net piece ≡ k → kept_by net piece k ≡ places net piece → map (λ (line : ℕ). place_by net piece line k) (all_lines net) ≡ kept_places net piece
  kept_as k is kept = sym (row_kept k is kept ∙ ap (λ (x : PieceKind). map (λ (line : ℕ). place_by net piece line x) (all_lines net)) is)

  -- a cell of the row that is kept is the place of the line
  pub kept_cell : (row : List ℕ) (line : ℕ) → row ≡ kept_places net piece → line < length row → get_or row line 0 ≡ place_of net piece line
  kept_cell row line is low = by (kind_in net piece) refl
    where
      whole : kept_places net piece ≡ places net piece → get_or row line 0 ≡ place_of net piece line
      whole same = let long = mapped_length (place_of net piece) row net.routing.lines (is ∙ same) in mapped_at (place_of net piece) row net.routing.lines line 0 (is ∙ same) (omega (arith, long, low))

      none : kept_places net piece ≡ [] → get_or row line 0 ≡ place_of net piece line
      none empty = let short = ap length (is ∙ empty) in absurd (omega (arith, short, low))

      by : (k : PieceKind) → kind_in net piece ≡ k → get_or row line 0 ≡ place_of net piece line
      by kind.Start e = none (ap (kept_by net piece) e)
      by kind.Act e = none (ap (kept_by net piece) e)
      by kind.Pass e = none (ap (kept_by net piece) e)
      by kind.Branch e = whole (ap (kept_by net piece) e)
      by kind.Join e = whole (ap (kept_by net piece) e)
      by kind.Hold e = whole (ap (kept_by net piece) e)
      by kind.End e = whole (ap (kept_by net piece) e)

  -- where no cell is kept, a line goes through the first node, or through none
  pub kept_first : (row : List ℕ) (line : ℕ) → row ≡ kept_places net piece → length row ≤ line → line < net.routing.lines → place_of net piece line < no_node net → first_node net piece ≡ place_of net piece line
  kept_first row line is past low node = by (kind_in net piece) refl
    where
      whole : kept_places net piece ≡ places net piece → first_node net piece ≡ place_of net piece line
      whole same = let long = mapped_length (place_of net piece) row net.routing.lines (is ∙ same) in absurd (omega (arith, long, past, low))

      none : place_of net piece line ≡ no_node net → first_node net piece ≡ place_of net piece line
      none lost = absurd (omega (arith, node, lost))

      act : (touched : Bool) → place_of net piece line ≡ (if touched then first_node net piece else no_node net) → first_node net piece ≡ place_of net piece line
      act true e = sym e
      act false e = none e

      by : (k : PieceKind) → kind_in net piece ≡ k → first_node net piece ≡ place_of net piece line
      by kind.Start e = none (ap (place_by net piece line) e)
      by kind.Act e = act (net.touches piece line) (ap (place_by net piece line) e)
      by kind.Pass e = none (ap (place_by net piece line) e)
      by kind.Branch e = whole (ap (kept_by net piece) e)
      by kind.Join e = whole (ap (kept_by net piece) e)
      by kind.Hold e = whole (ap (kept_by net piece) e)
      by kind.End e = whole (ap (kept_by net piece) e)

  -- ---- room

  pub switch_room : (k : PieceKind) → piece < (graph_in net).nodes → kind_in net piece ≡ k → length (nodes_by net piece k) ≡ suc (length (passing net piece)) → switch_number net piece net.routing.lines ≤ no_node net
  switch_room k exists is count =
      let w = nodes_within net piece exists in
      let n : node_count net piece ≡ suc (length (passing net piece)) = ap (λ x. length (nodes_by net piece x)) is ∙ count in
      omega (arith, w, n)

  pub merge_room : (k : PieceKind) → piece < (graph_in net).nodes → kind_in net piece ≡ k → length (nodes_by net piece k) ≡ length (led_to net piece) → merge_number net piece net.routing.lines ≤ no_node net
  merge_room k exists is count =
      let w = nodes_within net piece exists in
      let n : node_count net piece ≡ length (led_to net piece) = ap (λ x. length (nodes_by net piece x)) is ∙ count in
      omega (arith, w, n)
