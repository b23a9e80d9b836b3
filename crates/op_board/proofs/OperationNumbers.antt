-- The nodes of a net of operations: which piece each belongs to, and that each has one number.
use Rattle.std.proofs.Common.{◌≡◌, ◌<◌, ⊎_elim, ℕ, zero, suc, ◌+◌, ◌&&◌, true, false, not, ◌++◌, length, map, Some, slice_get, refl, sym, ap, ◌∙◌, subst, arith}
use Rattle.std.specs.List.{range_with_len}
use Rattle.std.specs.Option.{option_map}
use Rattle.std.proofs.lemmas.Bool.{and_parts}
use Rattle.std.proofs.lemmas.Option.{slice_get-map}
use Rattle.std.proofs.lemmas.List.{length-map}
use Rattle.std.proofs.lemmas.List.FromFn.{length-range_with_len}
use Rattle.cfg_build.specs.declared.pieces.PieceKind.{PieceKind}
use Rattle.cfg_build.specs.declared.pieces.PieceKind.TheVariants as kind
use Rattle.firing.specs.declared.system.NodeName.{NodeName}
use Rattle.firing.specs.declared.system.NodeName.TheVariants.{Act, Merge, Switch, Op}
use Rattle.list_laws.specs.Member.{Member}
use Rattle.list_laws.proofs.Members.{Member-cases, Member-filtered, Member-mapped, IsImage, Member-flat_mapped, IsFromOne, Member-in_range, Member-range}
use Rattle.net_board.specs.Nodes.{is_acting, NetOf, graph_in, kind_in, all_lines, is_free, led_to, passing, nodes_by, nodes_at, nodes_of, node_at, name_in, first_node, switch_lines, switches}
use Rattle.net_board.specs.WokenNodes.{passing_below, switch_number}
use Rattle.net_board.proofs.NodeLaws.{Distinct, one_place, member_at, get_some, get_left, distinct_append, distinct_filter, distinct_range, distinct_map, distinct_flat_map, get_flat_map, piece_of, in_lines, not_true, node_of}
use Rattle.net_board.proofs.NodeNumbers.{among, get_within}
use Rattle.op_board.specs.OperationNets.{OperationNet, operation_count, operation_nodes, operation_nodes_by, operation_nodes_at, operation_node_count, all_operation_nodes, first_operation, operation_node}

-- A name is one of a node of this piece, which is of this kind.
abbrev pub OperationFits : OperationNet → (piece : ℕ) → PieceKind → NodeName → Type 0
OperationFits x piece k (Op other i) = (other ≡ piece) × (is_acting k ≡ true) × (i < operation_count x piece)
OperationFits x piece k (Switch other line) = (other ≡ piece) × (is_acting k ≡ true) × Member (switch_lines x.net piece k) line
OperationFits x piece k (Merge other line) = (other ≡ piece) × (is_acting k ≡ false) × (line < x.net.routing.lines)
OperationFits x piece k (Act other) = ⊥

-- ---- switches, which have the numbers that they have in the net of statements

module _ (net : NetOf) where
  pub record IsSwitchLine (piece line : ℕ) : Type 0 where
    pub exists : line < net.routing.lines
    pub passes : (is_free net piece line && not (net.touches piece line)) ≡ true

  passing_line : (piece line : ℕ) → Member (passing net piece) line → IsSwitchLine piece line
  passing_line piece line m =
      let f = Member-filtered (λ line. is_free net piece line && not (net.touches piece line)) (all_lines net) line m in
      record { exists = in_lines net line f.0; passes = f.1 }

  pub switch_line : (piece line : ℕ) (k : PieceKind) → Member (switch_lines net piece k) line → IsSwitchLine piece line
  switch_line piece line kind.Branch m = passing_line piece line m
  switch_line piece line kind.Hold m = passing_line piece line m
  switch_line piece line kind.Act m = absurd m
  switch_line piece line kind.Join m = absurd m
  switch_line piece line kind.End m = absurd m
  switch_line piece line kind.Start m = absurd m
  switch_line piece line kind.Pass m = absurd m

  pub not_touched : (piece line : ℕ) → IsSwitchLine piece line → net.touches piece line ≡ false
  not_touched piece line is = not_true net (net.touches piece line) ((and_parts (is_free net piece line) (not (net.touches piece line)) is.passes).1)

  switch_place : (piece line : ℕ) → IsSwitchLine piece line → slice_get (passing net piece) (passing_below (λ other. is_free net piece other && not (net.touches piece other)) line) ≡ Some line
  switch_place piece line is = among (λ other. is_free net piece other && not (net.touches piece other)) net.routing.lines line is.exists is.passes

  switch_stands : (piece line : ℕ) → IsSwitchLine piece line → slice_get (map (Switch piece) (passing net piece)) (passing_below (λ other. is_free net piece other && not (net.touches piece other)) line) ≡ Some (Switch piece line)
  switch_stands piece line is =
      slice_get-map (Switch piece) (passing net piece) (passing_below (λ other. is_free net piece other && not (net.touches piece other)) line)
      ∙ ap (option_map (Switch piece)) (switch_place piece line is)

  switch_by : (piece line : ℕ) (k : PieceKind) → Member (switch_lines net piece k) line → slice_get (nodes_by net piece k) (suc (passing_below (λ other. is_free net piece other && not (net.touches piece other)) line)) ≡ Some (Switch piece line)
  switch_by piece line kind.Branch m = switch_stands piece line (passing_line piece line m)
  switch_by piece line kind.Hold m = switch_stands piece line (passing_line piece line m)
  switch_by piece line kind.Act m = absurd m
  switch_by piece line kind.Join m = absurd m
  switch_by piece line kind.End m = absurd m
  switch_by piece line kind.Start m = absurd m
  switch_by piece line kind.Pass m = absurd m

  -- the name of the switch with its number
  pub switch_named : (piece line : ℕ) → piece < (graph_in net).nodes → Member (switch_lines net piece (kind_in net piece)) line → node_at net (switch_number net piece line) ≡ Switch piece line
  switch_named piece line exists m =
      let place : ℕ = passing_below (λ other. is_free net piece other && not (net.touches piece other)) line in
      let stands = switch_by piece line (kind_in net piece) m in
      let e : switch_number net piece line ≡ first_node net piece + suc place = omega arith in
      ap (λ n. name_in (slice_get (nodes_of net) n)) e
      ∙ ap name_in (node_of net piece (suc place) exists (get_within (nodes_at net piece) (suc place) (Switch piece line) stands) ∙ stands)

  lines_by : (piece line : ℕ) (k : PieceKind) → Member (switch_lines net piece k) line → passing_below (λ other. is_free net piece other && not (net.touches piece other)) line < length (switch_lines net piece k)
  lines_by piece line kind.Branch m = get_within (passing net piece) _ line (switch_place piece line (passing_line piece line m))
  lines_by piece line kind.Hold m = get_within (passing net piece) _ line (switch_place piece line (passing_line piece line m))
  lines_by piece line kind.Act m = absurd m
  lines_by piece line kind.Join m = absurd m
  lines_by piece line kind.End m = absurd m
  lines_by piece line kind.Start m = absurd m
  lines_by piece line kind.Pass m = absurd m

  pub among_switches : (piece line : ℕ) → Member (switch_lines net piece (kind_in net piece)) line → Member (switches net piece) (switch_number net piece line)
  among_switches piece line m =
      let below = lines_by piece line (kind_in net piece) m in
      Member-range (suc (first_node net piece)) (length (switch_lines net piece (kind_in net piece))) (switch_number net piece line) (omega arith) (omega (arith, below))

module _ (x : OperationNet) where
  -- ---- names

  operation_fits : (piece : ℕ) (k : PieceKind) (name : NodeName) → is_acting k ≡ true → Member (operation_nodes x piece) name → OperationFits x piece k name
  operation_fits piece k name acts m =
      let r : IsImage (Op piece) (range_with_len 0 (operation_count x piece)) name = Member-mapped (Op piece) (range_with_len 0 (operation_count x piece)) name m in
      let i = Member-in_range 0 (operation_count x piece) r.origin r.among in
      let high = i.1 in
      subst (λ n. OperationFits x piece k n) r.is (refl, acts, omega (arith, high))

  switch_fits : (piece : ℕ) (k : PieceKind) (name : NodeName) → is_acting k ≡ true → Member (operation_nodes x piece ++ map (Switch piece) (switch_lines x.net piece k)) name → OperationFits x piece k name
  switch_fits piece k name acts m = ⊎_elim
      (λ m. operation_fits piece k name acts m)
      (λ m. let r : IsImage (Switch piece) (switch_lines x.net piece k) name = Member-mapped (Switch piece) (switch_lines x.net piece k) name m in subst (λ n. OperationFits x piece k n) r.is (refl, acts, r.among))
      (Member-cases (operation_nodes x piece) (map (Switch piece) (switch_lines x.net piece k)) name m)

  merge_fits : (piece : ℕ) (k : PieceKind) (name : NodeName) → is_acting k ≡ false → Member (map (Merge piece) (led_to x.net piece)) name → OperationFits x piece k name
  merge_fits piece k name joins m =
      let r : IsImage (Merge piece) (led_to x.net piece) name = Member-mapped (Merge piece) (led_to x.net piece) name m in
      let f = Member-filtered (is_free x.net piece) (all_lines x.net) r.origin r.among in
      subst (λ n. OperationFits x piece k n) r.is (refl, joins, in_lines x.net r.origin f.0)

  at_kind : (piece : ℕ) (k : PieceKind) (name : NodeName) → kind_in x.net piece ≡ k → Member (nodes_at x.net piece) name → Member (nodes_by x.net piece k) name
  at_kind piece k name is m = subst (λ k. Member (nodes_by x.net piece k) name) is m

  fits_by : (piece : ℕ) (k : PieceKind) (name : NodeName) → kind_in x.net piece ≡ k → Member (operation_nodes_by x piece k) name → OperationFits x piece k name
  fits_by piece kind.Act name is m = operation_fits piece kind.Act name refl m
  fits_by piece kind.Branch name is m = switch_fits piece kind.Branch name refl m
  fits_by piece kind.Hold name is m = switch_fits piece kind.Hold name refl m
  fits_by piece kind.Join name is m = merge_fits piece kind.Join name refl (at_kind piece kind.Join name is m)
  fits_by piece kind.End name is m = merge_fits piece kind.End name refl (at_kind piece kind.End name is m)
  fits_by piece kind.Start name is m = absurd (at_kind piece kind.Start name is m)
  fits_by piece kind.Pass name is m = absurd (at_kind piece kind.Pass name is m)

  fits_piece : (piece : ℕ) (k : PieceKind) (name : NodeName) → OperationFits x piece k name → piece_of name ≡ piece
  fits_piece piece k (Act other) fits = absurd fits
  fits_piece piece k (Switch other line) fits = fits.0
  fits_piece piece k (Merge other line) fits = fits.0
  fits_piece piece k (Op other i) fits = fits.0

  -- ---- numbers

  distinct_operations : (piece : ℕ) → Distinct (operation_nodes x piece)
  distinct_operations piece = distinct_map (Op piece) (λ a b e. cc) (range_with_len 0 (operation_count x piece)) (distinct_range 0 (operation_count x piece))

  distinct_passing : (piece : ℕ) → Distinct (map (Switch piece) (passing x.net piece))
  distinct_passing piece = distinct_map (Switch piece) (λ a b e. cc) (passing x.net piece) (distinct_filter (λ line. is_free x.net piece line && not (x.net.touches piece line)) (all_lines x.net) (distinct_range 0 x.net.routing.lines))

  distinct_switches : (piece : ℕ) → Distinct (operation_nodes x piece ++ map (Switch piece) (passing x.net piece))
  distinct_switches piece = distinct_append (operation_nodes x piece) (map (Switch piece) (passing x.net piece)) (distinct_operations piece) (distinct_passing piece) (λ name l r. by name l r)
    where
      by : (name : NodeName) → Member (operation_nodes x piece) name → Member (map (Switch piece) (passing x.net piece)) name → ⊥
      by name l r =
          let a : IsImage (Op piece) (range_with_len 0 (operation_count x piece)) name = Member-mapped (Op piece) (range_with_len 0 (operation_count x piece)) name l in
          let b : IsImage (Switch piece) (passing x.net piece) name = Member-mapped (Switch piece) (passing x.net piece) name r in
          let e : Op piece a.origin ≡ Switch piece b.origin = a.is ∙ sym b.is in
          cc

  distinct_merges : (piece : ℕ) → Distinct (map (Merge piece) (led_to x.net piece))
  distinct_merges piece = distinct_map (Merge piece) (λ a b e. cc) (led_to x.net piece) (distinct_filter (is_free x.net piece) (all_lines x.net) (distinct_range 0 x.net.routing.lines))

  distinct_by : (piece : ℕ) (k : PieceKind) → kind_in x.net piece ≡ k → Distinct (operation_nodes_by x piece k)
  distinct_by piece kind.Act is = distinct_operations piece
  distinct_by piece kind.Branch is = distinct_switches piece
  distinct_by piece kind.Hold is = distinct_switches piece
  distinct_by piece kind.Join is = subst (λ k. Distinct (nodes_by x.net piece k)) (sym is) (distinct_merges piece)
  distinct_by piece kind.End is = subst (λ k. Distinct (nodes_by x.net piece k)) (sym is) (distinct_merges piece)
  distinct_by piece kind.Start is = subst (λ k. Distinct (nodes_by x.net piece k)) (sym is) tt
  distinct_by piece kind.Pass is = subst (λ k. Distinct (nodes_by x.net piece k)) (sym is) tt

  distinct_nodes : Distinct (all_operation_nodes x)
  distinct_nodes =
      distinct_flat_map (operation_nodes_at x) piece_of (λ piece name m. fits_piece piece (kind_in x.net piece) name (fits_by piece (kind_in x.net piece) name refl m)) (λ piece. distinct_by piece (kind_in x.net piece) refl)
      (range_with_len 0 (graph_in x.net).nodes) (distinct_range 0 (graph_in x.net).nodes)

  -- a number of a node, and its name
  pub operation_is : (k : ℕ) → k < length (all_operation_nodes x) → slice_get (all_operation_nodes x) k ≡ Some (operation_node x k)
  operation_is k below =
      let s = get_some x.net (all_operation_nodes x) k below in
      s.1 ∙ ap (λ o. Some (name_in o)) (sym s.1)

  -- each name has one number
  pub one_operation_number : (j k : ℕ) → j < length (all_operation_nodes x) → k < length (all_operation_nodes x) → operation_node x j ≡ operation_node x k → j ≡ k
  one_operation_number j k first second same = one_place (all_operation_nodes x) j k (operation_node x k) distinct_nodes (operation_is j first ∙ ap (λ n. Some n) same) (operation_is k second)

  pub record IsOperationNamed (name : NodeName) : Type 0 where
    pub exists : piece_of name < (graph_in x.net).nodes
    pub fits : OperationFits x (piece_of name) (kind_in x.net (piece_of name)) name

  pub operation_named : (k : ℕ) → k < length (all_operation_nodes x) → IsOperationNamed (operation_node x k)
  operation_named k below =
      let o : IsFromOne (operation_nodes_at x) (range_with_len 0 (graph_in x.net).nodes) (operation_node x k) =
      Member-flat_mapped (operation_nodes_at x) (range_with_len 0 (graph_in x.net).nodes) (operation_node x k) (member_at (all_operation_nodes x) k (operation_node x k) (operation_is k below)) in
      let fits = fits_by o.origin (kind_in x.net o.origin) (operation_node x k) refl o.has in
      let at : piece_of (operation_node x k) ≡ o.origin = fits_piece o.origin (kind_in x.net o.origin) (operation_node x k) fits in
      let r = Member-in_range 0 (graph_in x.net).nodes o.origin o.among in
      let high = r.1 in
      subst (λ (piece : ℕ). piece < (graph_in x.net).nodes → OperationFits x piece (kind_in x.net piece) (operation_node x k) → IsOperationNamed (operation_node x k)) at (λ exists fits. record { exists = exists; fits = fits }) (omega (arith, high)) fits

  -- the node with this place at its piece
  pub operation_of : (piece i : ℕ) → piece < (graph_in x.net).nodes → i < operation_node_count x piece → slice_get (all_operation_nodes x) (first_operation x piece + i) ≡ slice_get (operation_nodes_at x piece) i
  operation_of piece i exists within =
      let z : 0 + piece ≡ piece = omega arith in
      let low : i < length (operation_nodes_at x (0 + piece)) = subst (λ p. i < length (operation_nodes_at x p)) (sym z) within in
      get_flat_map (operation_nodes_at x) 0 (graph_in x.net).nodes piece i exists low ∙ ap (λ p. slice_get (operation_nodes_at x p) i) z

  -- ---- the operations of a piece come first among its nodes

  get_mapped : (piece : ℕ) (a n i : ℕ) → i < n → slice_get (map (Op piece) (range_with_len a n)) i ≡ Some (Op piece (a + i))
  get_mapped piece a zero i below = absurd (omega (arith, below))
  get_mapped piece a (suc n) zero below = let e : a ≡ a + 0 = omega arith in ap (λ i. Some (Op piece i)) e
  get_mapped piece a (suc n) (suc i) below = let e : a + 1 + i ≡ a + suc i = omega arith in get_mapped piece (a + 1) n i (omega (arith, below)) ∙ ap (λ i. Some (Op piece i)) e

  count_is : (piece : ℕ) → length (operation_nodes x piece) ≡ operation_count x piece
  count_is piece = length-map (range_with_len 0 (operation_count x piece)) (Op piece) ∙ length-range_with_len 0 (operation_count x piece)

  among_operations : (piece i : ℕ) → i < operation_count x piece → slice_get (operation_nodes x piece) i ≡ Some (Op piece i)
  among_operations piece i below = get_mapped piece 0 (operation_count x piece) i below ∙ (let e : 0 + i ≡ i = omega arith in ap (λ i. Some (Op piece i)) e)

  operation_by : (piece i : ℕ) (k : PieceKind) → is_acting k ≡ true → i < operation_count x piece → slice_get (operation_nodes_by x piece k) i ≡ Some (Op piece i)
  operation_by piece i kind.Act acts below = among_operations piece i below
  operation_by piece i kind.Branch acts below = get_left (operation_nodes x piece) (map (Switch piece) (switch_lines x.net piece kind.Branch)) i (let e = count_is piece in omega (arith, below, e)) ∙ among_operations piece i below
  operation_by piece i kind.Hold acts below = get_left (operation_nodes x piece) (map (Switch piece) (switch_lines x.net piece kind.Hold)) i (let e = count_is piece in omega (arith, below, e)) ∙ among_operations piece i below
  operation_by piece i kind.Join acts below = absurd cc
  operation_by piece i kind.End acts below = absurd cc
  operation_by piece i kind.Start acts below = absurd cc
  operation_by piece i kind.Pass acts below = absurd cc

  -- the operation with this number of a piece that acts, branches or holds
  pub operation_stands : (piece i : ℕ) → piece < (graph_in x.net).nodes → is_acting (kind_in x.net piece) ≡ true → i < operation_count x piece → slice_get (all_operation_nodes x) (first_operation x piece + i) ≡ Some (Op piece i)
  operation_stands piece i exists acts below =
      let stands = operation_by piece i (kind_in x.net piece) acts below in
      operation_of piece i exists (get_within (operation_nodes_at x piece) i (Op piece i) stands) ∙ stands

  pub operation_name : (piece i : ℕ) → piece < (graph_in x.net).nodes → is_acting (kind_in x.net piece) ≡ true → i < operation_count x piece → operation_node x (first_operation x piece + i) ≡ Op piece i
  operation_name piece i exists acts below = ap name_in (operation_stands piece i exists acts below)

  -- and its number
  pub operation_number : (k piece i : ℕ) → k < length (all_operation_nodes x) → operation_node x k ≡ Op piece i → k ≡ first_operation x piece + i
  operation_number k piece i below is =
      let own : IsOperationNamed (Op piece i) = subst (λ a. IsOperationNamed a) is (operation_named k below) in
      let stands = operation_stands piece i own.exists own.fits.1 own.fits.2 in
      one_operation_number k (first_operation x piece + i) below (get_within (all_operation_nodes x) (first_operation x piece + i) (Op piece i) stands) (is ∙ sym (ap name_in stands))
