-- Dependences on decisions.
use Rattle.std.proofs.Common.{◌≡◌, ◌↔◌, ◌&&◌, ◌⊎◌, ℕ, Bool, true, false, List, [], Contains, length, None, Some, nat_le, slice_get, slice_index_or, sym, subst, ◌∙◌, refl, arith}
use Rattle.std.specs.List.{list_any}
use Rattle.std.specs.List.Sorted.{IsStrictlySortedBy}
use Rattle.std.proofs.lemmas.List.Folds.{Any-from_list_any, list_any-from_Any}
use Rattle.printed_graphs.specs.declared.dataflow.PrintedGraph.{PrintedGraph}
use Rattle.printed_graphs.specs.declared.flow.Edge.{Edge}
use Rattle.printed_graphs.specs.declared.flow.Piece.{Piece}
use Rattle.printed_graphs.specs.declared.flow.PrintedFlow.{PrintedFlow}
use Rattle.graph_dependences.specs.Added.{Adds, Below}
use Rattle.graph_dependences.specs.Control.{Controls, Evades, LeadsTo, is_branch, is_statement}
use Rattle.graph_dependences.specs.Dependences.{AreDependences, DependsBy, DependsOnDecision, DependsOnSome, IfTold, IsDependence, leads}
use Rattle.graph_dependences.specs.InOrder.{in_order}
use Rattle.graph_dependences.specs.declared.dependence.Dependence.{Dependence}
use Rattle.graph_dependences.specs.declared.kinds.Kind.TheVariants as kind
use Rattle.graph_dependences.proofs.Added.{Adds-as, Adds-both, Adds-nothing, Adds-told}

and_first : (a b : Bool) → (a && b) ≡ true → a ≡ true
and_first true b e = refl
and_first false b e = e

and_second : (a b : Bool) → (a && b) ≡ true → b ≡ true
and_second true b e = e
and_second false b e = absurd cc

and_both : (a b : Bool) → a ≡ true → b ≡ true → (a && b) ≡ true
and_both true b e f = f
and_both false b e f = e

module _ (flow : PrintedFlow) (second first : ℕ) (marks : List Bool) (tells : (piece : ℕ) → (slice_index_or marks piece false ≡ true) ↔ Evades flow second piece) where
  leads_is : (wanted : Bool) (edge : Edge) → leads marks wanted first edge ≡ true → (edge.from ≡ first) × (slice_index_or marks edge.to false ≡ wanted)
  leads_is true edge h = (grind (arith), grind (arith))
  leads_is false edge h = (grind (arith), grind (arith))

  leads_so : (wanted : Bool) (edge : Edge) → edge.from ≡ first → slice_index_or marks edge.to false ≡ wanted → leads marks wanted first edge ≡ true
  leads_so true edge from mark = grind (arith)
  leads_so false edge from mark = grind (arith)

  unmarked : (piece : ℕ) → slice_index_or marks piece false ≡ false → Evades flow second piece → ⊥
  unmarked piece none evades = let e : true ≡ false = sym ((tells piece).1 evades) ∙ none in absurd cc

  mark_of : (piece : ℕ) → (Evades flow second piece → ⊥) → (b : Bool) → slice_index_or marks piece false ≡ b → b ≡ false
  mark_of piece never false e = refl
  mark_of piece never true e = absurd (never ((tells piece).0 e))

  perhaps_is : list_any (leads marks true first) flow.edges.items ≡ true → LeadsTo flow first (Evades flow second)
  perhaps_is h =
      let a = Any-from_list_any (leads marks true first) flow.edges.items h in
      let is = leads_is true a.1 a.4 in
      (a.0, a.1, a.2, a.3, (is.0, (tells a.1.to).0 is.1))

  always_is : list_any (leads marks false first) flow.edges.items ≡ true → LeadsTo flow first (λ piece. Evades flow second piece → ⊥)
  always_is h =
      let a = Any-from_list_any (leads marks false first) flow.edges.items h in
      let is = leads_is false a.1 a.4 in
      (a.0, a.1, a.2, a.3, (is.0, unmarked a.1.to is.1))

  perhaps_so : LeadsTo flow first (Evades flow second) → list_any (leads marks true first) flow.edges.items ≡ true
  perhaps_so a = list_any-from_Any (leads marks true first) flow.edges.items (a.0, a.1, a.2, a.3, leads_so true a.1 a.4.0 ((tells a.1.to).1 a.4.1))

  always_so : LeadsTo flow first (λ piece. Evades flow second piece → ⊥) → list_any (leads marks false first) flow.edges.items ≡ true
  always_so a = list_any-from_Any (leads marks false first) flow.edges.items (a.0, a.1, a.2, a.3, leads_so false a.1 a.4.0 (mark_of a.1.to a.4.1 (slice_index_or marks a.1.to false) refl))

  pub controls_so : (always perhaps : Bool) → always ≡ list_any (leads marks false first) flow.edges.items → perhaps ≡ list_any (leads marks true first) flow.edges.items → ((always && perhaps) ≡ true) ↔ Controls flow first second
  controls_so always perhaps a p = (
    λ h. record {
      always = always_is (sym a ∙ and_first always perhaps h);
      perhaps = perhaps_is (sym p ∙ and_second always perhaps h);
    },
    λ c. and_both always perhaps (a ∙ always_so c.always) (p ∙ perhaps_so c.perhaps),
  )

module _ (flow : PrintedFlow) (second first : ℕ) (one two : Piece) where
  pub record AreAt : Type 0 where
    pub is_one : slice_get flow.pieces.items first ≡ Some one
    pub is_two : slice_get flow.pieces.items second ≡ Some two
    pub acts : is_statement two.kind ≡ true

  abbrev pub told_of : Dependence
  told_of = record { from = one.line; to = two.line; kind = kind.Control; token_line = None; is_carried = nat_le second first }

  forth : AreAt → (controls : Bool) → (controls ≡ true → Controls flow first second) → (d : Dependence) → IfTold (is_branch one.kind && controls) told_of d → DependsOnDecision flow second first d
  forth at controls so d h = record {
    one = one;
    two = two;
    is_one = at.is_one;
    is_two = at.is_two;
    decides = and_first (is_branch one.kind) controls h.0;
    acts = at.acts;
    controls = so (and_second (is_branch one.kind) controls h.0);
    told = h.1;
  }

  back : AreAt → (controls : Bool) → (Controls flow first second → controls ≡ true) → (d : Dependence) → DependsOnDecision flow second first d → IfTold (is_branch one.kind && controls) told_of d
  back at controls so d h =
      let first_is : Some h.one ≡ Some one = sym h.is_one ∙ at.is_one in
      let second_is : Some h.two ≡ Some two = sym h.is_two ∙ at.is_two in
      let one_is : h.one ≡ one = cc in
      let two_is : h.two ≡ two = cc in
      let decides : is_branch one.kind ≡ true = subst (λ (p : Piece). is_branch p.kind ≡ true) one_is h.decides in
      let told : d ≡ told_of = subst (λ (p : Piece). d ≡ record { from = one.line; to = p.line; kind = kind.Control; token_line = None; is_carried = nat_le second first }) two_is (subst (λ (p : Piece). d ≡ record { from = p.line; to = h.two.line; kind = kind.Control; token_line = None; is_carried = nat_le second first }) one_is h.told.0) in
      (and_both (is_branch one.kind) controls decides (so h.controls), (told, h.told.1))

  -- what may be told of a decision and a piece is the dependence of the one on the other
  pub decision_added : AreAt → (controls : Bool) → (controls ≡ true) ↔ Controls flow first second → (xs ys : List Dependence) → Adds xs ys (IfTold (is_branch one.kind && controls) told_of) → Adds xs ys (DependsOnDecision flow second first)
  decision_added at controls so xs ys a = Adds-as xs ys (IfTold (is_branch one.kind && controls) told_of) (DependsOnDecision flow second first) (forth at controls so.0) (back at controls so.1) a

-- nothing depends on a decision that does nothing
pub none_added : (flow : PrintedFlow) (second : ℕ) (two : Piece) → slice_get flow.pieces.items second ≡ Some two → is_statement two.kind ≡ false → (xs : List Dependence) → Adds xs xs (DependsOnSome flow second)
unfolding Below
none_added flow second two at none xs = Adds-nothing xs (DependsOnSome flow second) (λ d h.
    let w : DependsOnDecision flow second h.0 d = h.2 in
    let e : Some w.two ≡ Some two = sym w.is_two ∙ at in
    let same : w.two ≡ two = cc in
    let acts : is_statement two.kind ≡ true = subst (λ (p : Piece). is_statement p.kind ≡ true) same w.acts in
    let wrong : true ≡ false = sym acts ∙ none in
    cc)

-- those by token lines, those on decisions, and the same in order
pub are_all : (g : PrintedGraph) (flow : PrintedFlow) (n : ℕ) (xs ys zs : List Dependence) → n ≡ length g.lines.items → Adds [] xs (Below (DependsBy g flow) n) → Adds xs ys (Below (DependsOnSome flow) (length flow.pieces.items)) → ((d : Dependence) → Contains zs d ↔ Contains ys d) → IsStrictlySortedBy in_order zs → AreDependences g flow zs
are_all g flow n xs ys zs whole by_lines by_decisions same ordered =
    let both : Adds [] ys (λ d. Below (DependsBy g flow) n d ⊎ Below (DependsOnSome flow) (length flow.pieces.items) d) = Adds-both [] xs ys (Below (DependsBy g flow) n) (Below (DependsOnSome flow) (length flow.pieces.items)) by_lines by_decisions in
    let all : Adds [] ys (IsDependence g flow) = subst (λ (k : ℕ). Adds [] ys (λ d. Below (DependsBy g flow) k d ⊎ Below (DependsOnSome flow) (length flow.pieces.items) d)) whole both in
    record {
      told = λ d h. Adds-told ys (IsDependence g flow) all d ((same d).0 h);
      whole = λ d h. (same d).1 (all.all d h);
      ordered = ordered;
    }
