-- Which names the nodes of a net of operations have, and where each operation, switch and merge stands among them.
use Rattle.std.proofs.Common.{◌≡◌, ◌<◌, ◌⊎◌, inl, inr, ⊎_elim, ℕ, suc, ◌+◌, ◌&&◌, Bool, true, false, not, List, ◌++◌, length, map, Some, slice_get, refl, sym, ap, ◌∙◌, subst, arith}
use Rattle.std.specs.List.{range_with_len}
use Rattle.std.specs.Option.{option_map}
use Rattle.std.proofs.lemmas.Bool.{and_parts, cases_Bool}
use Rattle.std.proofs.lemmas.Option.{slice_get-map}
use Rattle.cfg_build.specs.declared.pieces.PieceKind.{PieceKind}
use Rattle.cfg_build.specs.declared.pieces.PieceKind.TheVariants as kind
use Rattle.firing.specs.declared.system.NodeName.{NodeName}
use Rattle.firing.specs.declared.system.NodeName.TheVariants.{Act, Merge, Switch, Op}
use Rattle.list_laws.specs.Member.{Member}
use Rattle.list_laws.proofs.Members.{Member-cases, Member-filtered, Member-mapped, IsImage, Member-flat_mapped, IsFromOne}
use Rattle.net_board.specs.Nodes.{graph_in, kind_in, all_lines, first_node, is_acting, is_free, led_to, nodes_at, nodes_by, nodes_of, passing, switch_lines, switches}
use Rattle.net_board.specs.WokenNodes.{passing_below, switch_number}
use Rattle.net_board.proofs.NodeLaws.{member_at}
use Rattle.net_board.proofs.NodeNumbers.{among, get_within}
use Rattle.net_board.proofs.PieceSteps.{node_number}
use Rattle.op_board.specs.OperationFacts.{is_parting}
use Rattle.op_board.specs.OperationNets.{OperationNet, all_operation_nodes, first_operation, operation_count, operation_node, operation_node_count, operation_nodes, operation_nodes_at, operation_nodes_by}
use Rattle.op_board.proofs.OperationNumbers.{IsOperationNamed, IsSwitchLine, among_switches, not_touched, one_operation_number, operation_is, operation_name, operation_named, operation_number, operation_stands, switch_line}
use Rattle.op_board.proofs.PieceNodes as piece_nodes
use Rattle.operation_tables.specs.Waits.{node_total}

module _ (x : OperationNet) where
  -- how many switches of the piece come before that of the line
  abbrev pub switch_place : (piece line : ℕ) → ℕ
  switch_place piece line = passing_below (λ other. is_free x.net piece other && not (x.net.touches piece other)) line

  -- lines come together at the piece
  abbrev pub Joins : (piece : ℕ) → Type 0
  Joins piece = (kind_in x.net piece ≡ kind.Join) ⊎ (kind_in x.net piece ≡ kind.End)

  pub record IsNodeAt (k : ℕ) (name : NodeName) : Type 0 where
    pub below : k < node_total x
    pub named : operation_node x k ≡ name

  pub record IsOperationAt (k piece i : ℕ) : Type 0 where
    pub exists : piece < (graph_in x.net).nodes
    pub acts : is_acting (kind_in x.net piece) ≡ true
    pub inside : i < operation_count x piece
    pub number : k ≡ first_operation x piece + i

  pub record IsSwitchAt (k piece line : ℕ) : Type 0 where
    pub exists : piece < (graph_in x.net).nodes
    pub acts : is_acting (kind_in x.net piece) ≡ true
    pub parts : is_parting (kind_in x.net piece) ≡ true
    pub low : line < x.net.routing.lines
    pub free : is_free x.net piece line ≡ true
    pub untouched : x.net.touches piece line ≡ false
    pub number : k ≡ first_operation x piece + (operation_count x piece + switch_place piece line)
    pub within : operation_count x piece + switch_place piece line < operation_node_count x piece
    -- and in the net of statements
    pub statement : switch_number x.net piece line ≡ suc (first_node x.net piece) + switch_place piece line
    pub below : switch_number x.net piece line < length (nodes_of x.net)
    pub among : Member (switches x.net piece) (switch_number x.net piece line)

  pub record IsMergeAt (k piece line : ℕ) : Type 0 where
    pub exists : piece < (graph_in x.net).nodes
    pub idle : is_acting (kind_in x.net piece) ≡ false
    pub joins : Joins piece
    pub low : line < x.net.routing.lines
    pub free : is_free x.net piece line ≡ true
    pub number : k ≡ first_operation x piece + passing_below (is_free x.net piece) line

  -- each name has one number
  pub same_nodes : (j k : ℕ) → j < node_total x → k < node_total x → operation_node x j ≡ operation_node x k → j ≡ k
  same_nodes j k first second same = one_operation_number x j k first second same

  pub node_is_at : (piece j : ℕ) (name : NodeName) → piece < (graph_in x.net).nodes → slice_get (operation_nodes_at x piece) j ≡ Some name → IsNodeAt (first_operation x piece + j) name
  node_is_at piece j name exists at = record {
    below = get_within (all_operation_nodes x) (first_operation x piece + j) name (piece_nodes.operation_number x piece j name exists at);
    named = piece_nodes.operation_named x piece j name exists at;
  }

  number_of : (j k : ℕ) (name : NodeName) → k < node_total x → operation_node x k ≡ name → IsNodeAt j name → k ≡ j
  number_of j k name below is at = same_nodes k j below at.below (is ∙ sym at.named)

  -- ---- operations

  -- a piece with operations acts, branches or holds
  pub acts_where : (piece i : ℕ) → i < operation_count x piece → is_acting (kind_in x.net piece) ≡ true
  acts_where piece i inside = ⊎_elim
      (λ (acts : is_acting (kind_in x.net piece) ≡ true). acts)
      (λ (idle : is_acting (kind_in x.net piece) ≡ false). let none = piece_nodes.no_operations x piece idle in absurd (omega (arith, none, inside)))
      (cases_Bool (is_acting (kind_in x.net piece)))

  pub operation_at_node : (k piece i : ℕ) → k < node_total x → operation_node x k ≡ Op piece i → IsOperationAt k piece i
  operation_at_node k piece i below is =
      let own : IsOperationNamed x (Op piece i) = subst (λ a. IsOperationNamed x a) is (operation_named x k below) in
      record { exists = own.exists; acts = own.fits.1; inside = own.fits.2; number = operation_number x k piece i below is }

  pub operation_name_at : (piece i : ℕ) → piece < (graph_in x.net).nodes → i < operation_count x piece → operation_node x (first_operation x piece + i) ≡ Op piece i
  operation_name_at piece i exists inside = operation_name x piece i exists (acts_where piece i inside) inside

  pub operation_within : (piece i : ℕ) → piece < (graph_in x.net).nodes → i < operation_count x piece → first_operation x piece + i < node_total x
  operation_within piece i exists inside = get_within (all_operation_nodes x) (first_operation x piece + i) (Op piece i) (operation_stands x piece i exists (acts_where piece i inside) inside)

  pub no_act : {P : Type 0} (k piece : ℕ) → k < node_total x → operation_node x k ≡ Act piece → P
  no_act k piece below is =
      let own : IsOperationNamed x (Act piece) = subst (λ a. IsOperationNamed x a) is (operation_named x k below) in
      absurd own.fits

  -- ---- switches

  abbrev passes : (piece line : ℕ) → Bool
  passes piece line = is_free x.net piece line && not (x.net.touches piece line)

  parts_acts : (k : PieceKind) → is_parting k ≡ true → is_acting k ≡ true
  parts_acts kind.Branch parts = refl
  parts_acts kind.Hold parts = refl
  parts_acts kind.Act parts = absurd cc
  parts_acts kind.Start parts = absurd cc
  parts_acts kind.Pass parts = absurd cc
  parts_acts kind.Join parts = absurd cc
  parts_acts kind.End parts = absurd cc

  switch_parts : (piece line : ℕ) (k : PieceKind) → Member (switch_lines x.net piece k) line → is_parting k ≡ true
  switch_parts piece line kind.Branch m = refl
  switch_parts piece line kind.Hold m = refl
  switch_parts piece line kind.Act m = absurd m
  switch_parts piece line kind.Start m = absurd m
  switch_parts piece line kind.Pass m = absurd m
  switch_parts piece line kind.Join m = absurd m
  switch_parts piece line kind.End m = absurd m

  among_passing : (piece line : ℕ) → line < x.net.routing.lines → passes piece line ≡ true → slice_get (map (Switch piece) (passing x.net piece)) (switch_place piece line) ≡ Some (Switch piece line)
  among_passing piece line low is =
      slice_get-map (Switch piece) (passing x.net piece) (switch_place piece line)
      ∙ ap (option_map (Switch piece)) (among (passes piece) x.net.routing.lines line low is)

  -- its place in the net of statements
  switch_stands : (piece line : ℕ) (k : PieceKind) → is_parting k ≡ true → line < x.net.routing.lines → passes piece line ≡ true → slice_get (nodes_by x.net piece k) (suc (switch_place piece line)) ≡ Some (Switch piece line)
  switch_stands piece line kind.Branch parts low is = among_passing piece line low is
  switch_stands piece line kind.Hold parts low is = among_passing piece line low is
  switch_stands piece line kind.Act parts low is = absurd cc
  switch_stands piece line kind.Start parts low is = absurd cc
  switch_stands piece line kind.Pass parts low is = absurd cc
  switch_stands piece line kind.Join parts low is = absurd cc
  switch_stands piece line kind.End parts low is = absurd cc

  passing_here : (piece line : ℕ) → is_parting (kind_in x.net piece) ≡ true → line < x.net.routing.lines → passes piece line ≡ true → slice_get (operation_nodes_at x piece) (operation_count x piece + switch_place piece line) ≡ Some (Switch piece line)
  passing_here piece line parts low is = piece_nodes.others_same x piece (parts_acts (kind_in x.net piece) parts) (switch_place piece line) (Switch piece line) (switch_stands piece line (kind_in x.net piece) parts low is)

  passing_at : (piece line : ℕ) → piece < (graph_in x.net).nodes → is_parting (kind_in x.net piece) ≡ true → line < x.net.routing.lines → passes piece line ≡ true → IsNodeAt (first_operation x piece + (operation_count x piece + switch_place piece line)) (Switch piece line)
  passing_at piece line exists parts low is =
      node_is_at piece (operation_count x piece + switch_place piece line) (Switch piece line) exists (passing_here piece line parts low is)

  pub switch_at_node : (k piece line : ℕ) → k < node_total x → operation_node x k ≡ Switch piece line → IsSwitchAt k piece line
  switch_at_node k piece line below is =
      let own : IsOperationNamed x (Switch piece line) = subst (λ a. IsOperationNamed x a) is (operation_named x k below) in
      let m = own.fits.2 in
      let l : IsSwitchLine x.net piece line = switch_line x.net piece line (kind_in x.net piece) m in
      let parts = switch_parts piece line (kind_in x.net piece) m in
      let same : switch_number x.net piece line ≡ first_node x.net piece + suc (switch_place piece line) = omega arith in
      let there = node_number x.net piece (suc (switch_place piece line)) (Switch piece line) own.exists (switch_stands piece line (kind_in x.net piece) parts l.exists l.passes) in
      let low = get_within (nodes_of x.net) (first_node x.net piece + suc (switch_place piece line)) (Switch piece line) there in
      record {
        exists = own.exists;
        acts = own.fits.1;
        parts = parts;
        low = l.exists;
        free = (and_parts (is_free x.net piece line) (not (x.net.touches piece line)) l.passes).0;
        untouched = not_touched x.net piece line l;
        number = number_of (first_operation x piece + (operation_count x piece + switch_place piece line)) k (Switch piece line) below is (passing_at piece line own.exists parts l.exists l.passes);
        within = get_within (operation_nodes_at x piece) (operation_count x piece + switch_place piece line) (Switch piece line) (passing_here piece line parts l.exists l.passes);
        statement = refl;
        below = omega (arith, same, low);
        among = among_switches x.net piece line m;
      }

  -- ---- merges

  joins_idle : (k : PieceKind) → (k ≡ kind.Join) ⊎ (k ≡ kind.End) → is_acting k ≡ false
  joins_idle k (inl e) = ap is_acting e
  joins_idle k (inr e) = ap is_acting e

  among_led : (piece line : ℕ) → line < x.net.routing.lines → is_free x.net piece line ≡ true → slice_get (map (Merge piece) (led_to x.net piece)) (passing_below (is_free x.net piece) line) ≡ Some (Merge piece line)
  among_led piece line low free =
      slice_get-map (Merge piece) (led_to x.net piece) (passing_below (is_free x.net piece) line)
      ∙ ap (option_map (Merge piece)) (among (is_free x.net piece) x.net.routing.lines line low free)

  pub merge_stands : (piece line : ℕ) (k : PieceKind) → (k ≡ kind.Join) ⊎ (k ≡ kind.End) → line < x.net.routing.lines → is_free x.net piece line ≡ true → slice_get (nodes_by x.net piece k) (passing_below (is_free x.net piece) line) ≡ Some (Merge piece line)
  merge_stands piece line k (inl e) low free = ap (λ q. slice_get (nodes_by x.net piece q) (passing_below (is_free x.net piece) line)) e ∙ among_led piece line low free
  merge_stands piece line k (inr e) low free = ap (λ q. slice_get (nodes_by x.net piece q) (passing_below (is_free x.net piece) line)) e ∙ among_led piece line low free

  pub merge_name_at : (piece line : ℕ) → piece < (graph_in x.net).nodes → Joins piece → line < x.net.routing.lines → is_free x.net piece line ≡ true → IsNodeAt (first_operation x piece + passing_below (is_free x.net piece) line) (Merge piece line)
  merge_name_at piece line exists joins low free =
      node_is_at piece (passing_below (is_free x.net piece) line) (Merge piece line) exists
      (ap (λ (names : List NodeName). slice_get names (passing_below (is_free x.net piece) line)) (piece_nodes.nodes_same x piece (joins_idle (kind_in x.net piece) joins)) ∙ merge_stands piece line (kind_in x.net piece) joins low free)

  -- what a merge among the nodes of a piece is
  record IsMergeOf (origin piece line : ℕ) : Type 0 where
    pub same : origin ≡ piece
    pub joins : Joins origin
    pub free : is_free x.net origin line ≡ true

  not_operation : {P : Type 0} (origin piece line : ℕ) → Member (operation_nodes x origin) (Merge piece line) → P
  not_operation origin piece line m =
      let r : IsImage (Op origin) (range_with_len 0 (operation_count x origin)) (Merge piece line) = Member-mapped (Op origin) (range_with_len 0 (operation_count x origin)) (Merge piece line) m in
      let e : Op origin r.origin ≡ Merge piece line = r.is in
      absurd cc

  not_switch : {P : Type 0} (origin piece line : ℕ) (lines : List ℕ) → Member (operation_nodes x origin ++ map (Switch origin) lines) (Merge piece line) → P
  not_switch origin piece line lines m = ⊎_elim
      (λ (l : Member (operation_nodes x origin) (Merge piece line)). not_operation origin piece line l)
      (λ (s : Member (map (Switch origin) lines) (Merge piece line)).
      let r : IsImage (Switch origin) lines (Merge piece line) = Member-mapped (Switch origin) lines (Merge piece line) s in
      let e : Switch origin r.origin ≡ Merge piece line = r.is in
      absurd cc)
      (Member-cases (operation_nodes x origin) (map (Switch origin) lines) (Merge piece line) m)

  among_merges : (origin piece line : ℕ) → Joins origin → Member (map (Merge origin) (led_to x.net origin)) (Merge piece line) → IsMergeOf origin piece line
  among_merges origin piece line joins m =
      let r : IsImage (Merge origin) (led_to x.net origin) (Merge piece line) = Member-mapped (Merge origin) (led_to x.net origin) (Merge piece line) m in
      let e : Merge origin r.origin ≡ Merge piece line = r.is in
      let own : r.origin ≡ line = cc in
      let free = (Member-filtered (is_free x.net origin) (all_lines x.net) r.origin r.among).1 in
      record { same = cc; joins = joins; free = subst (λ l. is_free x.net origin l ≡ true) own free }

  own_nodes : (origin piece line : ℕ) (k : PieceKind) → kind_in x.net origin ≡ k → Member (nodes_at x.net origin) (Merge piece line) → Member (nodes_by x.net origin k) (Merge piece line)
  own_nodes origin piece line k is m = subst (λ q. Member (nodes_by x.net origin q) (Merge piece line)) is m

  merge_by : (origin piece line : ℕ) (k : PieceKind) → kind_in x.net origin ≡ k → Member (operation_nodes_by x origin k) (Merge piece line) → IsMergeOf origin piece line
  merge_by origin piece line kind.Act is m = not_operation origin piece line m
  merge_by origin piece line kind.Branch is m = not_switch origin piece line (switch_lines x.net origin kind.Branch) m
  merge_by origin piece line kind.Hold is m = not_switch origin piece line (switch_lines x.net origin kind.Hold) m
  merge_by origin piece line kind.Join is m = among_merges origin piece line (inl is) (own_nodes origin piece line kind.Join is m)
  merge_by origin piece line kind.End is m = among_merges origin piece line (inr is) (own_nodes origin piece line kind.End is m)
  merge_by origin piece line kind.Start is m = absurd (own_nodes origin piece line kind.Start is m)
  merge_by origin piece line kind.Pass is m = absurd (own_nodes origin piece line kind.Pass is m)

  merge_of : (k piece line : ℕ) → k < node_total x → operation_node x k ≡ Merge piece line → (Joins piece) × (is_free x.net piece line ≡ true)
  merge_of k piece line below is =
      let m : Member (all_operation_nodes x) (Merge piece line) = member_at (all_operation_nodes x) k (Merge piece line) (operation_is x k below ∙ ap (λ (n : NodeName). Some n) is) in
      let o : IsFromOne (operation_nodes_at x) (range_with_len 0 (graph_in x.net).nodes) (Merge piece line) = Member-flat_mapped (operation_nodes_at x) (range_with_len 0 (graph_in x.net).nodes) (Merge piece line) m in
      let r : IsMergeOf o.origin piece line = merge_by o.origin piece line (kind_in x.net o.origin) refl o.has in
      subst (λ (p : ℕ). (Joins p) × (is_free x.net p line ≡ true)) r.same (r.joins, r.free)

  pub merge_at_node : (k piece line : ℕ) → k < node_total x → operation_node x k ≡ Merge piece line → IsMergeAt k piece line
  merge_at_node k piece line below is =
      let own : IsOperationNamed x (Merge piece line) = subst (λ a. IsOperationNamed x a) is (operation_named x k below) in
      let r = merge_of k piece line below is in
      record {
        exists = own.exists;
        idle = own.fits.1;
        joins = r.0;
        low = own.fits.2;
        free = r.1;
        number = number_of (first_operation x piece + passing_below (is_free x.net piece) line) k (Merge piece line) below is (merge_name_at piece line own.exists r.0 own.fits.2 r.1);
      }
