-- Dependences of one node on another.
use Rattle.std.proofs.Common.{◌≡◌, ◌≢◌, ◌↔◌, ℕ, Bool, true, false, List, Some, slice_get, slice_index_or, ap, sym, subst, ◌∙◌, refl, ⊎_elim, inl, inr, ◌⊎◌}
use Rattle.printed_graphs.specs.declared.dataflow.Node.{Node}
use Rattle.printed_graphs.specs.declared.dataflow.PrintedGraph.{PrintedGraph}
use Rattle.printed_graphs.specs.declared.flow.PrintedFlow.{PrintedFlow}
use Rattle.graph_dependences.specs.Added.{Adds}
use Rattle.graph_dependences.specs.Dependences.{Depends, DependsAt, IfTold, IsTold, steps_between}
use Rattle.graph_dependences.specs.By.{IsBy, IsKnown}
use Rattle.graph_dependences.specs.Joined.{Leads, coming}
use Rattle.graph_dependences.specs.Nodes.{is_output_line, kind_of, text_line}
use Rattle.graph_dependences.specs.Ways.{ways_of}
use Rattle.graph_dependences.specs.declared.dependence.Dependence.{Dependence}
use Rattle.graph_dependences.specs.declared.kinds.Kind.{Kind}
use Rattle.graph_dependences.specs.declared.pairs.By.{By}
use Rattle.graph_dependences.specs.declared.pairs.Known.{Known}
use Rattle.graph_dependences.specs.declared.kinds.Passing.TheVariants as passing
use Rattle.graph_dependences.proofs.Added.{Adds-as, Adds-both}

either : (b : Bool) → (b ≡ false) ⊎ (b ≡ true)
either false = inl refl
either true = inr refl

module _ (g : PrintedGraph) (flow : PrintedFlow) (line first second : ℕ) (one two : Node) where
  abbrev pub told_as : Kind → (is_carried : Bool) → Dependence
  told_as kind is_carried = record { from = text_line flow one; to = text_line flow two; kind = kind; token_line = Some line; is_carried = is_carried }

  pub record IsPair : Type 0 where
    pub is_one : slice_get g.nodes.items first ≡ Some one
    pub is_two : slice_get g.nodes.items second ≡ Some two

  -- nodes at these numbers are these nodes
  same_nodes : IsPair → (d : Dependence) → DependsAt g flow line first second d → Depends g flow line first second one two d
  same_nodes p d h =
      let first_is : Some h.one ≡ Some one = sym h.is_one ∙ p.is_one in
      let second_is : Some h.two ≡ Some two = sym h.is_two ∙ p.is_two in
      let one_is : h.one ≡ one = cc in
      let two_is : h.two ≡ two = cc in
      subst (λ n. Depends g flow line first second one n d) two_is (subst (λ n. Depends g flow line first second n h.two d) one_is h.depends)

  abbrev Goes : (turned : Bool) → Type 0
  Goes turned = Leads g passing.Readers line (steps_between one two (ways_of g flow line)) first second turned

  as_told : (d : Dependence) (kind : Kind) (c : Bool) → d ≡ told_as d.kind d.is_carried → d.kind ≡ kind → d.is_carried ≡ c → d ≡ told_as kind c
  as_told d kind c e k b = e ∙ ap (λ x. told_as x d.is_carried) k ∙ ap (told_as kind) b

  forth : IsPair → (kind : Kind) → kind_of (is_output_line (slice_get g.lines.items line)) line one two ≡ Some kind → (c : Bool) → Goes c → (d : Dependence) → IsTold (told_as kind c) d → DependsAt g flow line first second d
  forth p kind is_kind c goes d told =
      subst (λ (e : Dependence). (e.from ≢ e.to) ⊎ (e.is_carried ≡ true) → DependsAt g flow line first second e) (sym told.0) (λ differs. record {
        one = one;
        two = two;
        is_one = p.is_one;
        is_two = p.is_two;
        depends = record { kind = is_kind; leads = goes; told = (refl, differs) };
      }) told.1

  back : IsPair → (kind : Kind) → kind_of (is_output_line (slice_get g.lines.items line)) line one two ≡ Some kind → (d : Dependence) → DependsAt g flow line first second d → (c : Bool) → d.is_carried ≡ c → Goes c × IsTold (told_as kind c) d
  back p kind is_kind d h c e =
      let dep : Depends g flow line first second one two d = same_nodes p d h in
      let same : Some d.kind ≡ Some kind = sym dep.kind ∙ is_kind in
      let kind_is : d.kind ≡ kind = cc in
      (subst Goes e dep.leads, (as_told d kind c dep.told.0 kind_is e, dep.told.1))

  -- the two that may be told of a pair are those of the pair
  pub pair_added : IsPair → (kind : Kind) → kind_of (is_output_line (slice_get g.lines.items line)) line one two ≡ Some kind → (within carried : Bool) → (within ≡ true) ↔ Leads g passing.Readers line (steps_between one two (ways_of g flow line)) first second false → (carried ≡ true) ↔ Leads g passing.Readers line (steps_between one two (ways_of g flow line)) first second true → (xs ys zs : List Dependence) → Adds xs ys (IfTold within (told_as kind false)) → Adds ys zs (IfTold carried (told_as kind true)) → Adds xs zs (DependsAt g flow line first second)
  pair_added p kind is_kind within carried in_round round xs ys zs a b =
      Adds-as xs zs (λ d. IfTold within (told_as kind false) d ⊎ IfTold carried (told_as kind true) d) (DependsAt g flow line first second)
      (λ d h. ⊎_elim (λ (w : IfTold within (told_as kind false) d). forth p kind is_kind false (in_round.0 w.0) d w.1) (λ (c : IfTold carried (told_as kind true) d). forth p kind is_kind true (round.0 c.0) d c.1) h)
      (λ d h. ⊎_elim (λ (e : d.is_carried ≡ false). let told = back p kind is_kind d h false e in inl (in_round.1 told.0, told.1)) (λ (e : d.is_carried ≡ true). let told = back p kind is_kind d h true e in inr (round.1 told.0, told.1)) (either d.is_carried))
      (Adds-both xs ys zs (IfTold within (told_as kind false)) (IfTold carried (told_as kind true)) a b)

  -- the same, of equal lines of the text
  pub pair_told : IsPair → (kind : Kind) → kind_of (is_output_line (slice_get g.lines.items line)) line one two ≡ Some kind → (within carried : Bool) → (within ≡ true) ↔ Leads g passing.Readers line (steps_between one two (ways_of g flow line)) first second false → (carried ≡ true) ↔ Leads g passing.Readers line (steps_between one two (ways_of g flow line)) first second true → (from to : ℕ) → from ≡ text_line flow one → to ≡ text_line flow two → (xs ys zs : List Dependence) → Adds xs ys (IfTold within (record { from = from; to = to; kind = kind; token_line = Some line; is_carried = false })) → Adds ys zs (IfTold carried (record { from = from; to = to; kind = kind; token_line = Some line; is_carried = true })) → Adds xs zs (DependsAt g flow line first second)
  pair_told p kind is_kind within carried in_round round from to is_from is_to xs ys zs a b =
      let as_lines : (c : Bool) → record { from = from; to = to; kind = kind; token_line = Some line; is_carried = c } ≡ told_as kind c = λ c. ap (λ (f : ℕ). record { from = f; to = to; kind = kind; token_line = Some line; is_carried = c }) is_from ∙ ap (λ (t : ℕ). record { from = text_line flow one; to = t; kind = kind; token_line = Some line; is_carried = c }) is_to in
      pair_added p kind is_kind within carried in_round round xs ys zs (subst (λ (d : Dependence). Adds xs ys (IfTold within d)) (as_lines false) a) (subst (λ (d : Dependence). Adds ys zs (IfTold carried d)) (as_lines true) b)

-- what is known tells whether ways lead there
pub known_leads : (by : By) (first second : ℕ) (one two : Node) → IsBy by → (known : Known) → IsKnown by first known → known.steps.items ≡ steps_between one two by.ways.now → (turned has : Bool) → has ≡ slice_index_or known.reached.marks.items (coming second turned) false → (has ≡ true) ↔ Leads by.graph.now passing.Readers by.line (steps_between one two (ways_of by.graph.now by.flow.now by.line)) first second turned
known_leads by first second one two is_by known is_known steps turned has is =
    let all : known.steps.items ≡ steps_between one two (ways_of by.graph.now by.flow.now by.line) = steps ∙ ap (steps_between one two) is_by.ways in
    let tells : (slice_index_or known.reached.marks.items (coming second turned) false ≡ true) ↔ Leads by.graph.now passing.Readers by.line known.steps.items first second turned = is_known (coming second turned) in
    (λ e. subst (λ ss. Leads by.graph.now passing.Readers by.line ss first second turned) all (tells.0 (sym is ∙ e)), λ h. is ∙ tells.1 (subst (λ ss. Leads by.graph.now passing.Readers by.line ss first second turned) (sym all) h))
