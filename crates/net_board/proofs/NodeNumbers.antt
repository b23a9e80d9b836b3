-- The numbers of the nodes of a piece, by the lines that go through them.
use Rattle.std.proofs.Common.{◌≡◌, ◌<◌, ◌⊎◌, inl, inr, ℕ, zero, suc, ◌+◌, ◌&&◌, Bool, true, false, not, if◌then◌else◌, cond, List, [], ◌∷◌, length, map, filter, Some, slice_get, refl, sym, ap, ◌∙◌, subst, arith}
use Rattle.std.specs.List.{range_with_len}
use Rattle.std.specs.Option.{option_map}
use Rattle.std.proofs.lemmas.Option.{slice_get-map}
use Rattle.cfg_build.specs.declared.pieces.PieceKind.{PieceKind}
use Rattle.cfg_build.specs.declared.pieces.PieceKind.TheVariants as kind
use Rattle.firing.specs.declared.system.NodeName.{NodeName}
use Rattle.firing.specs.declared.system.NodeName.TheVariants.{Act, Merge, Switch, Op}
use Rattle.list_laws.specs.Member.{Member}
use Rattle.net_board.specs.Nodes.{is_acting, NetOf, graph_in, kind_in, all_lines, is_free, led_to, passing, nodes_by, nodes_of, nodes_at, node_at, name_in, first_node}
use Rattle.net_board.specs.WokenNodes.{passing_below, switch_number, merge_number, no_node, place_by, place_of}
use Rattle.list_laws.proofs.Members.{Member-filtered, Member-in_range, Member-mapped, IsImage, Member-flat_mapped, IsFromOne}
use Rattle.net_board.proofs.NodeLaws.{one_number, IsNamed, named, node_of, node_is}
use Rattle.std.proofs.lemmas.Bool.{and_parts}

pub get_within : {X : Type 0} (xs : List X) (k : ℕ) (x : X) → slice_get xs k ≡ Some x → k < length xs
get_within [] k x is = absurd cc
get_within (y ∷ ys) zero x is = omega arith
get_within (y ∷ ys) (suc k) x is = let below = get_within ys k x is in omega (arith, below)

is_member : {X : Type 0} (xs : List X) (k : ℕ) (x : X) → slice_get xs k ≡ Some x → Member xs x
is_member [] k x is = absurd cc
is_member (y ∷ ys) zero x is = inl cc
is_member (y ∷ ys) (suc k) x is = inr (is_member ys k x is)

-- a number that passes a test comes after the lower ones that do
pub from_a : (test : ℕ → Bool) (a n j : ℕ) → j < n → test (a + j) ≡ true → slice_get (filter test (range_with_len a n)) (length (filter test (range_with_len a j))) ≡ Some (a + j)
from_a test a zero j below is = absurd (omega (arith, below))
from_a test a (suc n) zero below is =
    let e : a + 0 ≡ a = omega arith in
    let here : test a ≡ true = ap test (sym e) ∙ is in
    ap (λ b. slice_get (cond b (a ∷ filter test (range_with_len (a + 1) n)) (filter test (range_with_len (a + 1) n))) 0) here ∙ ap (λ x. Some x) (sym e)
from_a test a (suc n) (suc j) below is = by (test a) (from_a test (a + 1) n j (omega (arith, below)) (ap test e ∙ is) ∙ ap (λ x. Some x) e)
  where
    e : (a + 1) + j ≡ a + suc j
    e = omega arith

    by : (b : Bool) → slice_get (filter test (range_with_len (a + 1) n)) (length (filter test (range_with_len (a + 1) j))) ≡ Some (a + suc j) → slice_get (cond b (a ∷ filter test (range_with_len (a + 1) n)) (filter test (range_with_len (a + 1) n))) (length (cond b (a ∷ filter test (range_with_len (a + 1) j)) (filter test (range_with_len (a + 1) j)))) ≡ Some (a + suc j)
    by true rest = rest
    by false rest = rest

pub among : (test : ℕ → Bool) (n line : ℕ) → line < n → test line ≡ true → slice_get (filter test (range_with_len 0 n)) (passing_below test line) ≡ Some line
among test n line below is =
    let z : 0 + line ≡ line = omega arith in
    from_a test 0 n line below (ap test z ∙ is) ∙ ap (λ x. Some x) z

module _ (net : NetOf) where
  abbrev passes_by : (piece line : ℕ) → Bool
  passes_by piece line = is_free net piece line && not (net.touches piece line)

  -- what stands for one line at a piece of this kind
  Sits : (piece : ℕ) → PieceKind → NodeName → Type 0
  Sits piece k (Act other) = Unit {0}
  Sits piece k (Switch other line) = (other ≡ piece) × ((line < net.routing.lines) × (passes_by piece line ≡ true)) × ((k ≡ kind.Branch) ⊎ (k ≡ kind.Hold))
  Sits piece k (Merge other line) = (other ≡ piece) × ((line < net.routing.lines) × (is_free net piece line ≡ true)) × ((k ≡ kind.Join) ⊎ (k ≡ kind.End))
  Sits piece k (Op other i) = Unit {0}

  passed : (test : ℕ → Bool) (line : ℕ) → Member (filter test (all_lines net)) line → (line < net.routing.lines) × (test line ≡ true)
  passed test line m =
      let f = Member-filtered test (all_lines net) line m in
      let r = Member-in_range 0 net.routing.lines line f.0 in
      let high = r.1 in
      (omega (arith, high), f.1)

  switch_sits : (piece : ℕ) (k : PieceKind) (name : NodeName) → (k ≡ kind.Branch) ⊎ (k ≡ kind.Hold) → Member (Act piece ∷ map (Switch piece) (passing net piece)) name → Sits piece k name
  unfolding Sits
  switch_sits piece k name is (inl e) = subst (λ n. Sits piece k n) e tt
  switch_sits piece k name is (inr m) =
      let r : IsImage (Switch piece) (passing net piece) name = Member-mapped (Switch piece) (passing net piece) name m in
      subst (λ n. Sits piece k n) r.is (refl, passed (passes_by piece) r.origin r.among, is)

  merge_sits : (piece : ℕ) (k : PieceKind) (name : NodeName) → (k ≡ kind.Join) ⊎ (k ≡ kind.End) → Member (map (Merge piece) (led_to net piece)) name → Sits piece k name
  unfolding Sits
  merge_sits piece k name is m =
      let r : IsImage (Merge piece) (led_to net piece) name = Member-mapped (Merge piece) (led_to net piece) name m in
      subst (λ n. Sits piece k n) r.is (refl, passed (is_free net piece) r.origin r.among, is)

  sits : (piece : ℕ) (k : PieceKind) (name : NodeName) → Member (nodes_by net piece k) name → Sits piece k name
  unfolding Sits
  sits piece kind.Act name (inl e) = subst (λ n. Sits piece kind.Act n) e tt
  sits piece kind.Act name (inr m) = absurd m
  sits piece kind.Branch name m = switch_sits piece kind.Branch name (inl refl) m
  sits piece kind.Hold name m = switch_sits piece kind.Hold name (inr refl) m
  sits piece kind.Join name m = merge_sits piece kind.Join name (inl refl) m
  sits piece kind.End name m = merge_sits piece kind.End name (inr refl) m
  sits piece kind.Start name m = absurd m
  sits piece kind.Pass name m = absurd m

  Seat : NodeName → Type 0
  Seat (Act piece) = Unit {0}
  Seat (Switch piece line) = (piece < (graph_in net).nodes) × ((line < net.routing.lines) × (passes_by piece line ≡ true)) × ((kind_in net piece ≡ kind.Branch) ⊎ (kind_in net piece ≡ kind.Hold))
  Seat (Merge piece line) = (piece < (graph_in net).nodes) × ((line < net.routing.lines) × (is_free net piece line ≡ true)) × ((kind_in net piece ≡ kind.Join) ⊎ (kind_in net piece ≡ kind.End))
  Seat (Op piece i) = Unit {0}

  seat : (piece : ℕ) (name : NodeName) → piece < (graph_in net).nodes → Sits piece (kind_in net piece) name → Seat name
  unfolding Sits Seat
  seat piece (Act other) exists s = tt
  seat piece (Switch other line) exists s = subst (λ (p : ℕ). (p < (graph_in net).nodes) × ((line < net.routing.lines) × (passes_by p line ≡ true)) × ((kind_in net p ≡ kind.Branch) ⊎ (kind_in net p ≡ kind.Hold))) (sym s.0) (exists, s.1, s.2)
  seat piece (Merge other line) exists s = subst (λ (p : ℕ). (p < (graph_in net).nodes) × ((line < net.routing.lines) × (is_free net p line ≡ true)) × ((kind_in net p ≡ kind.Join) ⊎ (kind_in net p ≡ kind.End))) (sym s.0) (exists, s.1, s.2)
  seat piece (Op other i) exists s = tt

  seated : (k : ℕ) → k < length (nodes_of net) → Seat (node_at net k)
  seated k below =
      let o : IsFromOne (nodes_at net) (range_with_len 0 (graph_in net).nodes) (node_at net k) = Member-flat_mapped (nodes_at net) (range_with_len 0 (graph_in net).nodes) (node_at net k) (is_member (nodes_of net) k (node_at net k) (node_is net k below)) in
      let r = Member-in_range 0 (graph_in net).nodes o.origin o.among in
      let high = r.1 in
      seat o.origin (node_at net k) (omega (arith, high)) (sits o.origin (kind_in net o.origin) (node_at net k) o.has)

  -- the node with this place at its piece, and with this name, is the one with this number
  at_place : (piece i k : ℕ) (name : NodeName) → piece < (graph_in net).nodes → slice_get (nodes_at net piece) i ≡ Some name → k < length (nodes_of net) → node_at net k ≡ name → first_node net piece + i ≡ k
  at_place piece i k name exists is below named =
      let here : slice_get (nodes_of net) (first_node net piece + i) ≡ Some name = node_of net piece i exists (get_within (nodes_at net piece) i name is) ∙ is in
      one_number net (first_node net piece + i) k (get_within (nodes_of net) (first_node net piece + i) name here) below (ap name_in here ∙ sym named)

  -- ---- nodes for all lines that a piece touches

  first_by : (piece : ℕ) (k : PieceKind) → is_acting k ≡ true → slice_get (nodes_by net piece k) 0 ≡ Some (Act piece)
  first_by piece kind.Act acts = refl
  first_by piece kind.Branch acts = refl
  first_by piece kind.Hold acts = refl
  first_by piece kind.Start acts = absurd cc
  first_by piece kind.Pass acts = absurd cc
  first_by piece kind.Join acts = absurd cc
  first_by piece kind.End acts = absurd cc

  pub act_is_first : (piece k : ℕ) → k < length (nodes_of net) → node_at net k ≡ Act piece → first_node net piece ≡ k
  act_is_first piece k below is =
      let own : IsNamed net (Act piece) = subst (λ a. IsNamed net a) is (named net k below) in
      let z : first_node net piece ≡ first_node net piece + 0 = omega arith in
      z ∙ at_place piece 0 k (Act piece) own.exists (first_by piece (kind_in net piece) own.fits.1) below is

  place_first : (piece line : ℕ) (k : PieceKind) → is_acting k ≡ true → net.touches piece line ≡ true → place_by net piece line k ≡ first_node net piece
  place_first piece line kind.Act acts is = ap (λ b. if b then first_node net piece else no_node net) is
  place_first piece line kind.Branch acts is = ap (λ b. if b then first_node net piece else if is_free net piece line then switch_number net piece line else no_node net) is
  place_first piece line kind.Hold acts is = ap (λ b. if b then first_node net piece else if is_free net piece line then switch_number net piece line else no_node net) is
  place_first piece line kind.Start acts is = absurd cc
  place_first piece line kind.Pass acts is = absurd cc
  place_first piece line kind.Join acts is = absurd cc
  place_first piece line kind.End acts is = absurd cc

  -- ---- nodes for one line

  not_true : (b : Bool) → not b ≡ true → b ≡ false
  not_true true is = absurd cc
  not_true false is = refl

  switch_place : (piece line : ℕ) (k : PieceKind) → (k ≡ kind.Branch) ⊎ (k ≡ kind.Hold) → passes_by piece line ≡ true → place_by net piece line k ≡ switch_number net piece line
  switch_place piece line k (inl e) is =
      let free : is_free net piece line ≡ true = (and_parts (is_free net piece line) (not (net.touches piece line)) is).0 in
      let untouched : net.touches piece line ≡ false = not_true (net.touches piece line) ((and_parts (is_free net piece line) (not (net.touches piece line)) is).1) in
      ap (place_by net piece line) e ∙ ap (λ b. if b then first_node net piece else if is_free net piece line then switch_number net piece line else no_node net) untouched ∙ ap (λ b. if b then switch_number net piece line else no_node net) free
  switch_place piece line k (inr e) is =
      let free : is_free net piece line ≡ true = (and_parts (is_free net piece line) (not (net.touches piece line)) is).0 in
      let untouched : net.touches piece line ≡ false = not_true (net.touches piece line) ((and_parts (is_free net piece line) (not (net.touches piece line)) is).1) in
      ap (place_by net piece line) e ∙ ap (λ b. if b then first_node net piece else if is_free net piece line then switch_number net piece line else no_node net) untouched ∙ ap (λ b. if b then switch_number net piece line else no_node net) free

  merge_place : (piece line : ℕ) (k : PieceKind) → (k ≡ kind.Join) ⊎ (k ≡ kind.End) → is_free net piece line ≡ true → place_by net piece line k ≡ merge_number net piece line
  merge_place piece line k (inl e) is = ap (place_by net piece line) e ∙ ap (λ b. if b then merge_number net piece line else no_node net) is
  merge_place piece line k (inr e) is = ap (place_by net piece line) e ∙ ap (λ b. if b then merge_number net piece line else no_node net) is

  switch_stands : (piece line : ℕ) (k : PieceKind) → (k ≡ kind.Branch) ⊎ (k ≡ kind.Hold) → line < net.routing.lines → passes_by piece line ≡ true → slice_get (nodes_by net piece k) (suc (passing_below (passes_by piece) line)) ≡ Some (Switch piece line)
  switch_stands piece line k (inl e) below is = ap (λ x. slice_get (nodes_by net piece x) (suc (passing_below (passes_by piece) line))) e ∙ slice_get-map (Switch piece) (passing net piece) (passing_below (passes_by piece) line) ∙ ap (option_map (Switch piece)) (among (passes_by piece) net.routing.lines line below is)
  switch_stands piece line k (inr e) below is = ap (λ x. slice_get (nodes_by net piece x) (suc (passing_below (passes_by piece) line))) e ∙ slice_get-map (Switch piece) (passing net piece) (passing_below (passes_by piece) line) ∙ ap (option_map (Switch piece)) (among (passes_by piece) net.routing.lines line below is)

  merge_stands : (piece line : ℕ) (k : PieceKind) → (k ≡ kind.Join) ⊎ (k ≡ kind.End) → line < net.routing.lines → is_free net piece line ≡ true → slice_get (nodes_by net piece k) (passing_below (is_free net piece) line) ≡ Some (Merge piece line)
  merge_stands piece line k (inl e) below is = ap (λ x. slice_get (nodes_by net piece x) (passing_below (is_free net piece) line)) e ∙ slice_get-map (Merge piece) (led_to net piece) (passing_below (is_free net piece) line) ∙ ap (option_map (Merge piece)) (among (is_free net piece) net.routing.lines line below is)
  merge_stands piece line k (inr e) below is = ap (λ x. slice_get (nodes_by net piece x) (passing_below (is_free net piece) line)) e ∙ slice_get-map (Merge piece) (led_to net piece) (passing_below (is_free net piece) line) ∙ ap (option_map (Merge piece)) (among (is_free net piece) net.routing.lines line below is)

  -- a node that acts, for a line that its piece touches, and a switch or a merge for its line
  pub act_place : (k piece line : ℕ) → k < length (nodes_of net) → node_at net k ≡ Act piece → net.touches piece line ≡ true → place_of net piece line ≡ k
  act_place k piece line below is touches =
      let own : IsNamed net (Act piece) = subst (λ a. IsNamed net a) is (named net k below) in
      place_first piece line (kind_in net piece) own.fits.1 touches ∙ act_is_first piece k below is

  switch_from : (k piece line : ℕ) → k < length (nodes_of net) → node_at net k ≡ Switch piece line → Seat (Switch piece line) → place_of net piece line ≡ k
  unfolding Seat
  switch_from k piece line below is own =
      let e : suc (first_node net piece) + passing_below (passes_by piece) line ≡ first_node net piece + suc (passing_below (passes_by piece) line) = omega arith in
      switch_place piece line (kind_in net piece) own.2 own.1.1 ∙ e ∙ at_place piece (suc (passing_below (passes_by piece) line)) k (Switch piece line) own.0 (switch_stands piece line (kind_in net piece) own.2 own.1.0 own.1.1) below is

  pub switch_is_at : (k piece line : ℕ) → k < length (nodes_of net) → node_at net k ≡ Switch piece line → place_of net piece line ≡ k
  switch_is_at k piece line below is = switch_from k piece line below is (subst (λ a. Seat a) is (seated k below))

  merge_from : (k piece line : ℕ) → k < length (nodes_of net) → node_at net k ≡ Merge piece line → Seat (Merge piece line) → place_of net piece line ≡ k
  unfolding Seat
  merge_from k piece line below is own =
      merge_place piece line (kind_in net piece) own.2 own.1.1 ∙ at_place piece (passing_below (is_free net piece) line) k (Merge piece line) own.0 (merge_stands piece line (kind_in net piece) own.2 own.1.0 own.1.1) below is

  pub merge_is_at : (k piece line : ℕ) → k < length (nodes_of net) → node_at net k ≡ Merge piece line → place_of net piece line ≡ k
  merge_is_at k piece line below is = merge_from k piece line below is (subst (λ a. Seat a) is (seated k below))
