-- What the tests of free lines tell.
use Rattle.std.proofs.Common.{◌≡◌, ℕ, zero, suc, ◌<◌, ◌⊎◌, ◌==◌, ◌&&◌, ◌||◌, not, Bool, true, false, List, [], ◌∷◌, length, get_or, inl, inr, ⊎_elim, refl, sym, ap, subst, ◌∙◌, eq-eqb, eqb-true}
use Rattle.std.specs.Prelude.{◌↔◌}
use Rattle.std.specs.List.{list_any}
use Rattle.std.proofs.lemmas.Bool.{and_from, cases_Bool, false≢true, not-true, or_left, or_right}
use Rattle.closed_walks.specs.Graph.{Graph, edge_count, edges_at, from, to, touches}
use Rattle.closed_walks.specs.Region.{IsFlowGraph}
use Rattle.closed_walks.specs.Walk.{Holds, Walk}
use Rattle.region_tree.specs.Tree.{Tree, IsIn}
use Rattle.dep_routing.specs.Facts.{TreeFacts}
use Rattle.dep_routing.specs.FreeLaws.{IsBypass}
use Rattle.dep_routing.specs.FreeLines.{comes_along, is_bypass, is_free, is_passing}
use Rattle.dep_routing.specs.Next.{Hops, IsHop, Next}
use Rattle.dep_routing.specs.Quiet.{IsFree, IsWire}
use Rattle.dep_routing.specs.Routing.{Routing, IsRouting, next_at, wire_at}
use Rattle.closed_walks.proofs.Held.{Holds-at}
use Rattle.dep_routing.proofs.Quietness.{at_entry}

-- ---- lists

any_held : (test : ℕ → Bool) (xs : List ℕ) (e : ℕ) → Holds xs e → test e ≡ true → list_any test xs ≡ true
any_held test [] e held is = absurd held
any_held test (x ∷ xs) e (inl same) is = or_left (test x) (list_any test xs) (ap test same ∙ is)
any_held test (x ∷ xs) e (inr held) is = or_right (test x) (list_any test xs) (any_held test xs e held is)

-- a number that the list holds passes the test
record IsFound (test : ℕ → Bool) (xs : List ℕ) : Type 0 where
  one : ℕ
  held : Holds xs one
  passes : test one ≡ true

found_later : (test : ℕ → Bool) (x : ℕ) (xs : List ℕ) → IsFound test xs → IsFound test (x ∷ xs)
found_later test x xs f = record { one = f.one; held = inr f.held; passes = f.passes }

found_any : (test : ℕ → Bool) (xs : List ℕ) → list_any test xs ≡ true → IsFound test xs
found_any test [] is = absurd (false≢true is)
found_any test (x ∷ xs) is = ⊎_elim
    (λ (here : test x ≡ true). record { one = x; held = inl refl; passes = here })
    (λ (not_here : test x ≡ false). found_later test x xs (found_any test xs (ap (λ b. b || list_any test xs) (sym not_here) ∙ is)))
    (cases_Bool (test x))

left_of : (a b : Bool) → (a && b) ≡ true → a ≡ true
left_of true b is = refl
left_of false b is = is

right_of : (a b : Bool) → (a && b) ≡ true → b ≡ true
right_of true b is = is
right_of false b is = absurd (false≢true is)

same_test : (a b : Bool) → (a ≡ true → b ≡ true) → (b ≡ true → a ≡ true) → a ≡ b
same_test true b forth back = sym (forth refl)
same_test false true forth back = back refl
same_test false false forth back = refl

not_false : (b : Bool) → b ≡ false → not b ≡ true
not_false b is = ap not is

-- ---- edges at a node

-- each edge in the list of a node is one of the graph
pub edge_exists : ((g : Graph) (node e : ℕ) → Holds (edges_at g node) e ↔ ((e < edge_count g) × (touches g node e ≡ true))) → (g : Graph) (node : ℕ) (items : List ℕ) (i : ℕ) → items ≡ edges_at g node → i < length items → get_or items i 0 < edge_count g
edge_exists touch g node items i are within = ((touch g node (get_or items i 0)).0 (subst (λ (xs : List ℕ). Holds xs (get_or items i 0)) are (Holds-at items i within))).0

-- a walk that goes to another node has a last edge
record ComesBy (g : Graph) (node : ℕ) : Type 0 where
  edge : ℕ
  exists : edge < edge_count g
  ends : to g edge ≡ node

comes_by : (g : Graph) (u v : ℕ) (w : List ℕ) → Walk g u w v → (u ≡ v) ⊎ ComesBy g v
comes_by g u v [] same = inl same
comes_by g u v (e ∷ w) walk = ⊎_elim
    (λ (same : to g e ≡ v). inr (record { edge = e; exists = walk.0; ends = same }))
    (λ (comes : ComesBy g v). inr comes)
    (comes_by g (to g e) v w walk.2)

-- an edge leads to each node
entry_of_node : (g : Graph) (node : ℕ) → IsFlowGraph g → node < g.nodes → ComesBy g node
entry_of_node g node flow exists =
    let start : to g 0 < g.nodes = flow.sound.ends 0 flow.some in
    let some : 0 < g.nodes = subst (λ (n : ℕ). n < g.nodes) flow.start start in
    let way = flow.strong 0 node some exists in
    ⊎_elim
    (λ (same : 0 ≡ node). record { edge = 0; exists = flow.some; ends = flow.start ∙ same })
    (λ (comes : ComesBy g node). comes)
    (comes_by g 0 node way.walk way.leads)

module _ (touch : (g : Graph) (node e : ℕ) → Holds (edges_at g node) e ↔ ((e < edge_count g) × (touches g node e ≡ true))) (g : Graph) (r : Routing) where
  -- a wire that leads to the node tells that the line is led there
  free_by_wire : (node line e : ℕ) → e < edge_count g → to g e ≡ node → wire_at r line e ≡ true → is_free g r node line ≡ true
  free_by_wire node line e exists ends wire =
      let here : (to g e == node) ≡ true = eq-eqb (to g e) node ends in
      any_held (comes_along g r node line) (edges_at g node) e ((touch g node e).1 (exists, or_right (from g e == node) (to g e == node) here)) (and_from (to g e == node) (wire_at r line e) here wire)

  -- there is such a wire where it is
  record HasWire (node line : ℕ) : Type 0 where
    edge : ℕ
    exists : edge < edge_count g
    ends : to g edge ≡ node
    wire : wire_at r line edge ≡ true

  wire_of_free : (node line : ℕ) → is_free g r node line ≡ true → HasWire node line
  wire_of_free node line is =
      let found : IsFound (comes_along g r node line) (edges_at g node) = found_any (comes_along g r node line) (edges_at g node) is in
      let e = found.one in
      record {
        edge = e;
        exists = ((touch g node e).0 found.held).0;
        ends = eqb-true (to g e) node (left_of (to g e == node) (wire_at r line e) found.passes);
        wire = right_of (to g e == node) (wire_at r line e) found.passes;
      }

  module _ (t : Tree) (touched : ℕ → ℕ → Bool) (lines : ℕ) (is_routing : IsRouting g t touched lines r) where
    pub free_of_test : (node line : ℕ) → line < lines → is_free g r node line ≡ true → IsFree g t touched line node
    free_of_test node line low is =
        let w = wire_of_free node line is in
        subst (λ (n : ℕ). IsFree g t touched line n) w.ends ((is_routing.wire line w.edge low w.exists).0 w.wire)

    pub test_of_free : (e node line : ℕ) → e < edge_count g → to g e ≡ node → line < lines → IsFree g t touched line node → is_free g r node line ≡ true
    test_of_free e node line exists ends low free =
        free_by_wire node line e exists ends ((is_routing.wire line e low exists).1 (subst (λ (n : ℕ). IsFree g t touched line n) (sym ends) free))

    pub test_of_free_node : (node line : ℕ) → IsFlowGraph g → node < g.nodes → line < lines → IsFree g t touched line node → is_free g r node line ≡ true
    test_of_free_node node line flow exists low free = let comes = entry_of_node g node flow exists in test_of_free comes.edge node line comes.exists comes.ends low free

    pub wires_alike : (e line : ℕ) → e < edge_count g → line < lines → wire_at r line e ≡ is_free g r (to g e) line
    wires_alike e line exists low =
        same_test (wire_at r line e) (is_free g r (to g e) line)
        (λ wire. free_by_wire (to g e) line e exists refl wire)
        (λ is. (is_routing.wire line e low exists).1 (free_of_test (to g e) line low is))

    pub passing_told : (node line : ℕ) → IsFlowGraph g → node < g.nodes → line < lines → (is_passing g r touched node line ≡ true) ↔ (IsFree g t touched line node × (touched node line ≡ false))
    passing_told node line flow exists low = (
      λ is. (free_of_test node line low (left_of (is_free g r node line) (not (touched node line)) is), not-true (touched node line) (right_of (is_free g r node line) (not (touched node line)) is)),
      λ passes. and_from (is_free g r node line) (not (touched node line)) (test_of_free_node node line flow exists low passes.0) (not_false (touched node line) passes.1),
    )

    -- ---- regions that lines bypass

    module _ (flow : IsFlowGraph g) (facts : TreeFacts g t) (wires : (line e f : ℕ) → e < edge_count g → IsFree g t touched line (from g e) → Next g t touched line e f → IsWire g t touched line f) where
      -- an edge that is no wire, and from which a line is led on, hops
      hop_from : (e line f count : ℕ) → Hops g t touched line count e f → (e ≡ f → ⊥) → (x : ℕ) × IsHop g t touched line e x
      hop_from e line f zero same apart = absurd (apart same)
      hop_from e line f (suc count) hops apart = (hops.0, hops.1)

      bypass_of_test : (e line : ℕ) → e < edge_count g → line < lines → is_bypass g r e line ≡ true → IsBypass g t touched e line
      bypass_of_test e line exists low is =
          let begins = free_of_test (from g e) line low (left_of (is_free g r (from g e) line) (not (wire_at r line e)) is) in
          let no_wire : wire_at r line e ≡ false = not-true (wire_at r line e) (right_of (is_free g r (from g e) line) (not (wire_at r line e)) is) in
          let next = is_routing.next line e low exists in
          let f = next_at r line e in
          let wire : IsWire g t touched line f = wires line e f exists begins next in
          let apart : e ≡ f → ⊥ = λ same. false≢true (sym no_wire ∙ (is_routing.wire line e low exists).1 (subst (λ (x : ℕ). IsWire g t touched line x) (sym same) wire)) in
          let hop = hop_from e line f next.count next.hops apart in
          record { begins = begins; over = hop.0; hop = hop.1 }

      test_of_bypass : (e line : ℕ) → e < edge_count g → line < lines → IsBypass g t touched e line → is_bypass g r e line ≡ true
      test_of_bypass e line exists low bypass =
          let region = bypass.hop.region in
          let inside : IsIn g t region (to g e) = subst (λ (x : ℕ). IsIn g t region (to g x)) bypass.hop.entry (at_entry g t facts region bypass.hop.quiet.number) in
          let no_wire : wire_at r line e ≡ true → ⊥ = λ wire. (is_routing.wire line e low exists).0 wire (record { region = region; quiet = bypass.hop.quiet; holds = inside }) in
          and_from (is_free g r (from g e) line) (not (wire_at r line e))
          (test_of_free_node (from g e) line flow (flow.sound.begins e exists) low bypass.begins)
          (not_false (wire_at r line e) (⊎_elim (λ (is : wire_at r line e ≡ true). absurd (no_wire is)) (λ is_not. is_not) (cases_Bool (wire_at r line e))))

      pub bypass_told : (e line : ℕ) → e < edge_count g → line < lines → (is_bypass g r e line ≡ true) ↔ IsBypass g t touched e line
      bypass_told e line exists low = (λ is. bypass_of_test e line exists low is, λ bypass. test_of_bypass e line exists low bypass)
