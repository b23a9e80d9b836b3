-- Control comes to each item from another one, but to the first executable, to END, and to increments.
use Rattle.std.proofs.Common.{◌≡◌, ℕ, suc, ◌<◌, ◌⊎◌, Bool, false, length, Option, Some, None, refl, sym, ap, ◌∙◌, inl, inr, ⊎_elim, arith}
use Rattle.std.specs.Prelude.{slice_get, slice_index}
use Rattle.std.proofs.lemmas.Bool.{false≢true}
use Rattle.f77_tree.specs.declared.programs.Exec.{Exec}
use Rattle.f77_tree.specs.declared.programs.ExecKind.{ExecKind}
use Rattle.f77_tree.specs.declared.programs.ExecKind.TheVariants.{Assign, Print, Pass, Test, Sign, Pick, DoStart, DoNext, End}
use Rattle.f77_tree.specs.declared.programs.Program.{Program}
use Rattle.f77_tree.specs.Control.{successors}
use Rattle.f77_tree.specs.WellFormed.{AreExecs}
use Rattle.alias_classes.specs.Classes.{ClassTable}
use Rattle.region_tree.specs.Tree.{Tree}
use Rattle.cfg_build.specs.Flow.{flow}
use Rattle.cfg_build.specs.Passes.{kind_in}
use Rattle.dep_routing.specs.Routing.{Routing}
use Rattle.const_prop.specs.Closed.{IsClosed}
use Rattle.constant_laws.specs.Laws.{LiveDecisionsAreKnown}
use Rattle.const_prop.specs.Right.{AreRouted}
use Rattle.const_prop.specs.Table.{Knowns}
use Rattle.simplified_forms.specs.Items.{AreItems, IsEntered, IsItem, IsKeptKind}
use Rattle.simplified_laws.specs.LiveItems.{ItemsLeadToItems, LiveExecutablesAreItems}
use Rattle.simplified_laws.specs.LiveWays.{MayTake}
use Rattle.simplified_forms.specs.Simplified.{decided, is_increment}
use Rattle.simplified_laws.proofs.ControlWays.{ReachingIsTold}
use Rattle.simplified_laws.proofs.FlatMoves.{AreComeTo, IsComeFrom}
use Rattle.simplified_laws.proofs.ItemWays.{decided-within}
use Rattle.simplified_laws.proofs.LeadingOn.{ChainsAreFound, AreStrong, HaveShape, FirstIsLed, live-facts}
use Rattle.simplified_laws.proofs.LeavingEdges.{WaysAreCounted, HoldsLeadToEnd}
use Rattle.simplified_laws.proofs.ListParts.{get-within}
use Rattle.simplified_laws.proofs.LivePlaces.{IsDecidedFor, each-live}
use Rattle.simplified_laws.proofs.LiveRanges.{OwnPiecesAreFound, own-made}

kept-entered : (p : Program) (t : Knowns) (j : ℕ) (kind : ExecKind) → (kind ≡ End → ⊥) → is_increment kind ≡ false → IsKeptKind p t j kind → IsEntered p t j
kept-entered p t j (Assign target value next) not_end other kept = kept
kept-entered p t j (Print items next) not_end other kept = kept
kept-entered p t j (Pass next) not_end other kept = kept
kept-entered p t j (Test c a b) not_end other kept = kept
kept-entered p t j (Sign e a b c) not_end other kept = kept
kept-entered p t j (Pick e targets out) not_end other kept = kept
kept-entered p t j (DoStart loop_no var first last step body exit) not_end other kept = kept
kept-entered p t j (DoNext loop_no var body exit) not_end other kept = absurd (false≢true (sym other))
kept-entered p t j End not_end other kept = absurd (not_end refl)

-- what the laws on flow graphs and items say
module _ (told : ReachingIsTold) (chains : ChainsAreFound) (own : OwnPiecesAreFound) (led : FirstIsLed) (counted : WaysAreCounted) (ended : HoldsLeadToEnd) (strong : AreStrong) (shape : HaveShape) (known : LiveDecisionsAreKnown) (leads : ItemsLeadToItems) (live : LiveExecutablesAreItems) where
  module _ (p : Program) (c : ClassTable) (touches : ℕ → ℕ → Bool) (tree : Tree) (r : Routing) (t : Knowns) (routed : AreRouted p c touches tree r) (closed : IsClosed p (flow p.execs) c touches r t) (is_item : ℕ → Bool) (items : AreItems p t is_item) where
    abbrev well : AreExecs p.names p.execs p.loops
    well = routed.well_formed.execs

    may-take : (k i : ℕ) (exec : Exec) → slice_get p.execs k ≡ Some exec → IsEntered p t k → IsDecidedFor exec.kind (decided p t k) i → MayTake exec.kind (decided p t k) i
    may-take k i exec found by meant does = by-told (decided p t k) refl
      where
        by-told : (d : Option ℕ) → decided p t k ≡ d → (decided p t k ≡ None) ⊎ (decided p t k ≡ Some i)
        by-told None is = inl is
        by-told (Some x) is =
            let below = decided-within own strong shape known leads p c touches tree r t routed closed k exec found does by x is in
            inr (is ∙ ap Some (meant x does is below))

    abbrev IsCome : ℕ → Type 0
    IsCome j = (j ≡ 0) ⊎ IsComeFrom p t is_item j

    goes-on : (k i : ℕ) (exec : Exec) → slice_get p.execs k ≡ Some exec → i < length (successors exec.kind) → IsDecidedFor exec.kind (decided p t k) i → IsEntered p t k → IsCome k → IsCome (slice_index (successors exec.kind) i)
    goes-on k i exec found below meant by come =
        inr (record {
          from = k;
          item = (items k).1 (live p c touches tree r t k routed closed (get-within p.execs k exec found) by);
          exec = exec;
          found = found;
          place = i;
          exists = below;
          may = may-take k i exec found by meant;
          is = refl;
        })

    pub are-come-to : AreComeTo p t is_item
    are-come-to j some less item other =
        let i : IsItem p t j = (items j).0 item in
        let not_end : i.exec.kind ≡ End → ⊥ = λ end. let last : suc j ≡ length p.execs = (well.end.last j i.exec i.found).0 end in omega (arith, last, less) in
        let kind : is_increment i.exec.kind ≡ false = ap is_increment (sym (ap kind_in i.found)) ∙ other in
        let by = kept-entered p t j i.exec.kind not_end kind i.kept in
        let made = own-made own strong shape p t well j i.exec i.found not_end by in
        ⊎_elim
        (λ (first : j ≡ 0). absurd (omega (arith, first, some)))
        (λ (come : IsComeFrom p t is_item j). come)
        (each-live p t (strong p.names p.execs p.loops well) (shape p.names p.execs p.loops well) (live-facts known p c touches tree r t routed closed) well told chains led counted ended IsCome (inl refl) goes-on j i.exec i.found not_end made by)
