-- The executables to which the statements of an item lead are items: each is a successor of the item, to which it may go.
use Rattle.std.proofs.Common.{◌≡◌, ℕ, ◌+◌, ◌<◌, ℤ, pos, Bool, true, false, cond, List, [], ◌∷◌, ◌++◌, length, Option, Some, None, refl, sym, ap, subst, ◌∙◌, inl, inr, arith}
use Rattle.std.specs.Prelude.{slice_get, slice_index}
use Rattle.std.proofs.lemmas.Bool.{false≢true}
use Rattle.std.proofs.lemmas.List.{length-append}
use Rattle.list_laws.specs.Member.{Member}
use Rattle.list_laws.proofs.Members.{IsAt, at_of, Member-left, Member-from_Contains}
use Rattle.op_table.specs.Operators.{which_of_three, picked}
use Rattle.op_table.specs.Trips.{at_least_zero}
use Rattle.op_table.specs.Words.{is_true}
use Rattle.closed_walks.specs.Graph.{to}
use Rattle.f77_tree.specs.declared.programs.Exec.{Exec}
use Rattle.f77_tree.specs.declared.programs.ExecKind.{ExecKind}
use Rattle.f77_tree.specs.declared.programs.ExecKind.TheVariants.{Assign, Print, Pass, Test, Sign, Pick, DoStart, DoNext, End}
use Rattle.f77_tree.specs.declared.programs.NameInfo.{NameInfo}
use Rattle.f77_tree.specs.declared.programs.Program.{Program}
use Rattle.f77_tree.specs.Control.{successors}
use Rattle.alias_classes.specs.Classes.{ClassTable}
use Rattle.region_tree.specs.Tree.{Tree}
use Rattle.cfg_build.specs.declared.pieces.PieceKind.{PieceKind}
use Rattle.cfg_build.specs.declared.pieces.PieceKind.TheVariants as piece
use Rattle.cfg_build.specs.Flow.{flow}
use Rattle.cfg_build.specs.Parts.{first_kind}
use Rattle.cfg_build.specs.Passes.{kind_in}
use Rattle.cfg_build.specs.Shape.{kind_at}
use Rattle.cfg_build.specs.Zones.{exec_at}
use Rattle.cfg_build.proofs.PassOutcomes.{sign_below, picked-le}
use Rattle.dep_routing.specs.Routing.{Routing}
use Rattle.dep_routing.specs.Touches.{exec_kind}
use Rattle.const_prop.specs.Closed.{IsClosed, is_switch, words_on}
use Rattle.constant_laws.specs.Laws.{LiveDecisionsAreKnown}
use Rattle.const_prop.specs.Live.{IsSelected, IsKnownOut}
use Rattle.const_prop.specs.Right.{AreRouted}
use Rattle.const_prop.specs.Table.{Knowns}
use Rattle.simplified_forms.specs.Items.{own_piece, IsEntered, IsKeptKind, IsItem}
use Rattle.simplified_laws.specs.LiveItems.{IsLiveItem, ItemsLeadToItems, RestsAreItems, JumpsAreItems}
use Rattle.simplified_laws.specs.LiveWays.{decides, MayTake}
use Rattle.simplified_forms.specs.Simplified.{rest, own_jumps, decided}
use Rattle.simplified_laws.proofs.LeadingOn.{AreStrong, HaveShape}
use Rattle.simplified_laws.proofs.LiveItems.{same-exec}
use Rattle.simplified_laws.proofs.LivePlaces.{told-by}
use Rattle.simplified_laws.proofs.LiveRanges.{OwnPiecesAreFound, own-made}

-- ---- what a statement leads to is a successor

record IsWayOut (kind : ExecKind) (decided : Option ℕ) (s : ℕ) : Type 0 where
  place : ℕ
  exists : place < length (successors kind)
  may : MayTake kind decided place
  is : slice_index (successors kind) place ≡ s

-- a decision is the place of a successor
abbrev pub IsPlaceOfOne : ExecKind → Option ℕ → Type 0
IsPlaceOfOne kind decided = (i : ℕ) → decided ≡ Some i → i < length (successors kind)

rest-out : (kind : ExecKind) (decided : Option ℕ) (s : ℕ) → (decides kind ≡ true → IsPlaceOfOne kind decided) → rest kind decided ≡ Some s → IsWayOut kind decided s
rest-out (Assign target value next) d s within is = record { place = 0; exists = omega arith; may = λ no. absurd (false≢true no); is = cc }
rest-out (Print items next) d s within is = record { place = 0; exists = omega arith; may = λ no. absurd (false≢true no); is = cc }
rest-out (Pass next) d s within is = record { place = 0; exists = omega arith; may = λ no. absurd (false≢true no); is = cc }
rest-out (Test c a b) None s within is = record { place = 1; exists = omega arith; may = λ yes. inl refl; is = cc }
rest-out (Test c a b) (Some i) s within is = record { place = i; exists = within refl i refl; may = λ yes. inr refl; is = cc }
rest-out (Sign e a b c) None s within is = absurd cc
rest-out (Sign e a b c) (Some i) s within is = record { place = i; exists = within refl i refl; may = λ yes. inr refl; is = cc }
rest-out (Pick e targets other) None s within is =
    let all : length (targets ++ other ∷ []) ≡ length targets + 1 = length-append targets (other ∷ []) in
    let same : other ≡ s = cc in
    record { place = length targets; exists = omega (arith, all); may = λ yes. inl refl; is = last-of targets other ∙ same }
  where
    last-of : (xs : List ℕ) (x : ℕ) → slice_index (xs ++ x ∷ []) (length xs) ≡ x
    last-of [] x = refl
    last-of (y ∷ xs) x = last-of xs x
rest-out (Pick e targets other) (Some i) s within is = record { place = i; exists = within refl i refl; may = λ yes. inr refl; is = cc }
rest-out (DoStart loop_no var first last step body exit) d s within is = absurd cc
rest-out (DoNext loop_no var body exit) d s within is = record { place = 1; exists = omega arith; may = λ no. absurd (false≢true no); is = cc }
rest-out End d s within is = absurd cc

jump-out : (kind : ExecKind) (decided : Option ℕ) (s : ℕ) → Member (own_jumps kind decided) s → IsWayOut kind decided s
jump-out (Assign target value next) d s m = absurd m
jump-out (Print items next) d s m = absurd m
jump-out (Pass next) d s m = absurd m
jump-out (Test c a b) None s (inl same) = record { place = 0; exists = omega arith; may = λ yes. inl refl; is = same }
jump-out (Test c a b) None s (inr none) = absurd none
jump-out (Test c a b) (Some i) s m = absurd m
jump-out (Sign e a b c) None s (inl same) = record { place = 0; exists = omega arith; may = λ yes. inl refl; is = same }
jump-out (Sign e a b c) None s (inr (inl same)) = record { place = 1; exists = omega arith; may = λ yes. inl refl; is = same }
jump-out (Sign e a b c) None s (inr (inr (inl same))) = record { place = 2; exists = omega arith; may = λ yes. inl refl; is = same }
jump-out (Sign e a b c) None s (inr (inr (inr none))) = absurd none
jump-out (Sign e a b c) (Some i) s m = absurd m
jump-out (Pick e targets other) None s m =
    let at : IsAt (targets ++ other ∷ []) s = at_of (targets ++ other ∷ []) s (Member-left targets (other ∷ []) s m) in
    record { place = at.place; exists = at.exists; may = λ yes. inl refl; is = at.is 0 }
jump-out (Pick e targets other) (Some i) s m = absurd m
jump-out (DoStart loop_no var first last step body exit) d s m = absurd m
jump-out (DoNext loop_no var body exit) d s m = absurd m
jump-out End d s m = absurd m

-- ---- a decision of an item is the place of a successor

one-of-two : (b : Bool) → cond b 0 1 < 2
one-of-two true = omega arith
one-of-two false = omega arith

selected-within : (names : List NameInfo) (words : ℕ → Option ℤ) (kind : ExecKind) (v : ℤ) → decides kind ≡ true → IsSelected names words kind v → at_least_zero v < length (successors kind)
selected-within names words (Assign target value next) v does selected = absurd (false≢true does)
selected-within names words (Print items next) v does selected = absurd (false≢true does)
selected-within names words (Pass next) v does selected = absurd (false≢true does)
selected-within names words (Test c a b) v does selected =
    let place : at_least_zero v ≡ cond (is_true selected.value) 0 1 = ap at_least_zero selected.is in
    let below = one-of-two (is_true selected.value) in
    omega (arith, place, below)
selected-within names words (Sign e a b c) v does selected =
    let place : at_least_zero v ≡ at_least_zero (which_of_three selected.value) = ap at_least_zero selected.is in
    let below = sign_below selected.value in
    omega (arith, place, below)
selected-within names words (Pick e targets other) v does selected =
    let place : at_least_zero v ≡ at_least_zero (picked selected.value (pos (length targets))) = ap at_least_zero selected.is in
    let below = picked-le selected.value (length targets) in
    let all : length (targets ++ other ∷ []) ≡ length targets + 1 = length-append targets (other ∷ []) in
    omega (arith, place, below, all)
selected-within names words (DoStart loop_no var first last step body exit) v does selected = absurd (false≢true does)
selected-within names words (DoNext loop_no var body exit) v does selected = absurd (false≢true does)
selected-within names words End v does selected = absurd (false≢true does)

decides-branches : (kind : ExecKind) → decides kind ≡ true → first_kind kind ≡ piece.Branch
decides-branches (Assign target value next) does = absurd (false≢true does)
decides-branches (Print items next) does = absurd (false≢true does)
decides-branches (Pass next) does = absurd (false≢true does)
decides-branches (Test c a b) does = refl
decides-branches (Sign e a b c) does = refl
decides-branches (Pick e targets other) does = refl
decides-branches (DoStart loop_no var first last step body exit) does = absurd (false≢true does)
decides-branches (DoNext loop_no var body exit) does = absurd (false≢true does)
decides-branches End does = absurd (false≢true does)

decides-kept : (p : Program) (t : Knowns) (k : ℕ) (kind : ExecKind) → decides kind ≡ true → IsKeptKind p t k kind → IsEntered p t k
decides-kept p t k (Assign target value next) does kept = absurd (false≢true does)
decides-kept p t k (Print items next) does kept = absurd (false≢true does)
decides-kept p t k (Pass next) does kept = absurd (false≢true does)
decides-kept p t k (Test c a b) does kept = kept
decides-kept p t k (Sign e a b c) does kept = kept
decides-kept p t k (Pick e targets other) does kept = kept
decides-kept p t k (DoStart loop_no var first last step body exit) does kept = absurd (false≢true does)
decides-kept p t k (DoNext loop_no var body exit) does kept = absurd (false≢true does)
decides-kept p t k End does kept = absurd (false≢true does)

decides-end : (kind : ExecKind) → decides kind ≡ true → kind ≡ End → ⊥
decides-end kind does end = false≢true (sym (ap decides end) ∙ does)

module _ (own : OwnPiecesAreFound) (strong : AreStrong) (shape : HaveShape) (known : LiveDecisionsAreKnown) (leads : ItemsLeadToItems) where
  module _ (p : Program) (c : ClassTable) (touches : ℕ → ℕ → Bool) (tree : Tree) (r : Routing) (t : Knowns) (routed : AreRouted p c touches tree r) (closed : IsClosed p (flow p.execs) c touches r t) (k : ℕ) (exec : Exec) (found : slice_get p.execs k ≡ Some exec) where
    pub decided-within : decides exec.kind ≡ true → IsEntered p t k → IsPlaceOfOne exec.kind (decided p t k)
    decided-within does by i is =
        let node = to (flow p.execs).graph by.edge in
        let made = own-made own strong shape p t routed.well_formed.execs k exec found (decides-end exec.kind does) by in
        let branch : kind_at (flow p.execs) node ≡ piece.Branch = ap (kind_at (flow p.execs)) by.ends ∙ made.kind_is ∙ decides-branches exec.kind does in
        let kind : exec_kind p node ≡ exec.kind = ap (λ n. kind_in (slice_get p.execs n)) (ap (exec_at (flow p.execs)) by.ends ∙ made.exec_is) ∙ ap kind_in found in
        let told = told-by (t.decision (own_piece p k)) i is in
        let v = told.value in
        let out = known p c touches tree r t by.edge v routed closed by.live (ap is_switch branch) (ap t.decision by.ends ∙ told.one) in
        let by_branch = subst (λ (x : PieceKind). IsKnownOut p.names (words_on c t by.edge) x (exec_kind p node) v) branch out in
        let selected = subst (λ (x : ExecKind). IsSelected p.names (words_on c t by.edge) x v) kind by_branch in
        let below = selected-within p.names (words_on c t by.edge) exec.kind v does selected in
        omega (arith, below, told.place)

    item-within : IsItem p t k → decides exec.kind ≡ true → IsPlaceOfOne exec.kind (decided p t k)
    item-within item does =
        let kept = subst (λ (x : Exec). IsKeptKind p t k x.kind) (same-exec p.execs k item.exec exec item.found found) item.kept in
        decided-within does (decides-kept p t k exec.kind does kept)

    out-item : (s : ℕ) → IsItem p t k → IsWayOut exec.kind (decided p t k) s → IsLiveItem p t s
    out-item s item way = subst (IsLiveItem p t) way.is (leads p c touches tree r t k way.place exec routed closed found way.exists way.may item)

  pub rests-items : RestsAreItems
  rests-items p c touches tree r t k s exec routed closed found is item =
      out-item p c touches tree r t routed closed k exec found s item (rest-out exec.kind (decided p t k) s (item-within p c touches tree r t routed closed k exec found item) is)

  pub jumps-items : JumpsAreItems
  jumps-items p c touches tree r t k s exec routed closed found is item =
      out-item p c touches tree r t routed closed k exec found s item (jump-out exec.kind (decided p t k) s (Member-from_Contains (own_jumps exec.kind (decided p t k)) s is))
