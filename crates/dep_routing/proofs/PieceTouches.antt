-- From the lines of each piece to the table of touches.
use Rattle.std.proofs.Common.{◌≡◌, ℕ, zero, suc, ◌+◌, ◌<◌, ◌≤◌, List, [], ◌∷◌, ◌++◌, length, get_or, set, get_or-set_other, get_or-set_same, ◌≢◌, Bool, true, false, Option, Some, inl, inr, ⊎_elim, refl, sym, ap, subst, ◌∙◌, arith}
use Rattle.std.specs.Prelude.{◌↔◌, ◌==◌, ◌||◌, not, None, MatchOption, is_some, slice_get}
use Rattle.std.proofs.lemmas.Bool.{cases_lt, eq-eqb, ne_eqb, false≢true}
use Rattle.std.proofs.lemmas.Option.{get_or_from_slice_get, slice_get-get_or, slice_get_within}
use Rattle.closed_walks.specs.Cycling.{IsOnCycle}
use Rattle.closed_walks.specs.Graph.{Graph, edge_count, from, to}
use Rattle.closed_walks.specs.Walk.{Walk, Avoids}
use Rattle.class_set.specs.ClassSet.{holds}
use Rattle.class_set.specs.declared.ClassSet.{ClassSet}
use Rattle.class_set.specs.Members.{IsNext, IsLast}
use Rattle.f77_tree.specs.declared.programs.ExecKind.{ExecKind}
use Rattle.f77_tree.specs.declared.programs.ExecKind.TheVariants.{Assign, Print, Pass as Passing, Test, Sign, Pick, DoStart, DoNext, End as Ending}
use Rattle.f77_tree.specs.declared.programs.Program.{Program}
use Rattle.alias_classes.specs.Classes.{ClassTable, class_count}
use Rattle.alias_classes.specs.Needs.{ExecNeeds}
use Rattle.cfg_build.specs.declared.pieces.Piece.{Piece}
use Rattle.cfg_build.specs.declared.pieces.PieceKind.{PieceKind}
use Rattle.cfg_build.specs.declared.pieces.PieceKind.TheVariants.{Start, Act, Pass, Branch, Join, Hold, End}
use Rattle.cfg_build.specs.Flow.{flow, piece_at, piece_in}
use Rattle.cfg_build.specs.Joined.{FlowGraph, finish}
use Rattle.cfg_build.specs.Passes.{kind_in}
use Rattle.cfg_build.specs.Runs.{is_act, is_branch, IsPartOf}
use Rattle.cfg_build.specs.Shape.{kind_at, IsShaped}
use Rattle.dep_routing.specs.PieceLines.{AreLines, BranchNeedsOut, KindNeedsOutIf, HasExecutable, RunsExecutable, TellBelow}
use Rattle.dep_routing.specs.Touch.{touches_in}
use Rattle.dep_routing.proofs.SetTables.{touches-before, touches-last}
use Rattle.dep_routing.specs.Touches.{AreTouchesBy, BranchNeeds, BranchTraps, KindNeeds, KindNeedsOutBy, TouchesBy, ends_rounds, exec_at, exec_kind, is_increment, piece_kind}

-- ---- an item, whatever is read past the end

pub item-is : {X : Type 0} (xs : List X) (k : ℕ) (d x : X) → k < length xs → x ≡ get_or xs k x → get_or xs k d ≡ x
item-is xs k d x lt is = get_or_from_slice_get xs k x d (slice_get-get_or xs k x lt ∙ ap (λ y. Some y) (sym is))

-- ---- pieces

module _ (p : Program) (f : FlowGraph) (node : ℕ) (piece : Piece) (is : f ≡ flow p.execs) (at : slice_get f.pieces node ≡ Some piece) where
  pub piece-is : piece_at (flow p.execs).pieces node ≡ piece
  piece-is = ap (λ (x : FlowGraph). piece_at x.pieces node) (sym is) ∙ ap piece_in at

  part-exists : (fits : ExecKind → Bool) → IsPartOf (flow p.execs) p.execs node fits → piece.exec < length p.execs
  part-exists fits part =
      let same : (piece_at (flow p.execs).pieces node).exec ≡ piece.exec = ap (λ (x : Piece). x.exec) piece-is in
      slice_get_within p.execs piece.exec part.exec (ap (slice_get p.execs) (sym same) ∙ part.found)

  module _ (acts : kind_at (flow p.execs) node ≡ Act → IsPartOf (flow p.execs) p.execs node is_act) (branches : kind_at (flow p.execs) node ≡ Branch → IsPartOf (flow p.execs) p.execs node is_branch) where
    pub act-exists : piece.kind ≡ Act → piece.exec < length p.execs
    act-exists kind = part-exists is_act (acts (ap (λ (x : Piece). x.kind) piece-is ∙ kind))

    branch-exists : piece.kind ≡ Branch → piece.exec < length p.execs
    branch-exists kind = part-exists is_branch (branches (ap (λ (x : Piece). x.kind) piece-is ∙ kind))

    pub runs-executable : RunsExecutable p piece
    runs-executable = by piece.kind refl
      where
        by : (kind : PieceKind) → piece.kind ≡ kind → HasExecutable p kind piece.exec
        by Start same = tt
        by Act same = act-exists same
        by Pass same = tt
        by Branch same = branch-exists same
        by Join same = tt
        by Hold same = tt
        by End same = tt

  -- ---- cycles

  module _ {W : ℕ} (c : ClassTable) (may : ℕ → Type 0) (risk : Type 0) (risk_is : risk ↔ may piece.exec) (round : Bool) (set : ClassSet W) (on : (round ≡ true) ↔ IsOnCycle (flow p.execs).graph (ends_rounds p) node) where
    -- why it touches the line of output
    branch-if : (exec : ExecKind) → BranchTraps risk exec ↔ BranchTraps (may piece.exec) exec
    branch-if (DoStart loop_no var first last step body exit) = (λ h. h, λ h. h)
    branch-if (Assign target e next) = risk_is
    branch-if (Print items next) = risk_is
    branch-if (Passing next) = risk_is
    branch-if (Test cond if_true if_false) = risk_is
    branch-if (Sign e neg equal pos) = risk_is
    branch-if (Pick e targets other) = risk_is
    branch-if (DoNext loop_no var body exit) = risk_is
    branch-if Ending = risk_is

    out-if : (kind : PieceKind) (exec : ExecKind) → KindNeedsOutIf c risk round kind exec ↔ KindNeedsOutBy p c node (may piece.exec) kind exec
    out-if Start exec = (λ h. h, λ h. h)
    out-if Act exec = (
      λ h. ⊎_elim (λ prints. inl prints) (λ more. inr (⊎_elim (λ reads. inl reads) (λ r. inr (risk_is.0 r)) more)) h,
      λ h. ⊎_elim (λ prints. inl prints) (λ more. inr (⊎_elim (λ reads. inl reads) (λ r. inr (risk_is.1 r)) more)) h,
    )
    out-if Pass exec = (λ h. h, λ h. h)
    out-if Branch exec = (
      λ h. ⊎_elim (λ r. inl ((branch-if exec).0 r)) (λ more. inr (⊎_elim (λ r. inl (on.0 r)) (λ none. inr none) more)) h,
      λ h. ⊎_elim (λ r. inl ((branch-if exec).1 r)) (λ more. inr (⊎_elim (λ r. inl (on.1 r)) (λ none. inr none) more)) h,
    )
    out-if Join exec = (λ h. h, λ h. h)
    out-if Hold exec = (λ h. h, λ h. h)
    out-if End exec = (λ h. h, λ h. h)

    -- its set tells its touches
    pub set-tells : AreLines set (KindNeedsOutIf c risk round piece.kind (kind_in (slice_get p.execs piece.exec))) (KindNeeds c piece.kind (kind_in (slice_get p.execs piece.exec))) → (line : ℕ) → (holds set line ≡ true) ↔ TouchesBy p c may node line
    set-tells lines = by
      where
        by : (line : ℕ) → (holds set line ≡ true) ↔ TouchesBy p c may node line
        by zero = (
          λ h. subst (λ (x : Piece). KindNeedsOutBy p c node (may x.exec) x.kind (kind_in (slice_get p.execs x.exec))) (sym piece-is) ((out-if piece.kind (kind_in (slice_get p.execs piece.exec))).0 (lines.output.0 h)),
          λ h. lines.output.1 ((out-if piece.kind (kind_in (slice_get p.execs piece.exec))).1 (subst (λ (x : Piece). KindNeedsOutBy p c node (may x.exec) x.kind (kind_in (slice_get p.execs x.exec))) piece-is h)),
        )
        by (suc n) = (
          λ h. subst (λ (x : Piece). KindNeeds c x.kind (kind_in (slice_get p.execs x.exec)) (suc n)) (sym piece-is) ((lines.classes n).0 h),
          λ h. (lines.classes n).1 (subst (λ (x : Piece). KindNeeds c x.kind (kind_in (slice_get p.execs x.exec)) (suc n)) piece-is h),
        )

-- ---- cycles without edges, told for the edges that there are

module _ (g : Graph) (a b : ℕ → Bool) (same : (e : ℕ) → e < edge_count g → a e ≡ b e) where
  avoids-too : (u v : ℕ) (w : List ℕ) → Walk g u w v → Avoids a w → Avoids b w
  avoids-too u v [] walk avoids = tt
  avoids-too u v (e ∷ w) walk avoids = (sym (same e walk.0) ∙ avoids.0, avoids-too (to g e) v w walk.2 avoids.1)

  pub cycle-too : (node : ℕ) → IsOnCycle g a node → IsOnCycle g b node
  cycle-too node is = record { first = is.first; rest = is.rest; closed = is.closed; avoids = avoids-too node node (is.first ∷ is.rest) is.closed is.avoids }

-- whether a node lies on a cycle that a run may go round for ever
pub on-round : (p : Program) (g : Graph) (ends rounds : List Bool) (node : ℕ) (round : Bool) → g ≡ (flow p.execs).graph → ((e : ℕ) → e < edge_count (flow p.execs).graph → get_or ends e false ≡ ends_rounds p e) → ((k : ℕ) → k < g.nodes → (get_or rounds k false ≡ true) ↔ IsOnCycle g (λ e. get_or ends e false) k) → length rounds ≡ g.nodes → node < g.nodes → round ≡ get_or rounds node round → (round ≡ true) ↔ IsOnCycle (flow p.execs).graph (ends_rounds p) node
on-round p g ends rounds node round is told marks count lt at =
    let same : get_or rounds node false ≡ round = item-is rounds node false round (omega (arith, count, lt)) at in
    let avoided : ℕ → Bool = λ e. get_or ends e false in (
      λ h. cycle-too (flow p.execs).graph avoided (ends_rounds p) told node (subst (λ (x : Graph). IsOnCycle x avoided node) is ((marks node lt).0 (same ∙ h))),
      λ h. sym same ∙ (marks node lt).1 (subst (λ (x : Graph). IsOnCycle x avoided node) (sym is) (cycle-too (flow p.execs).graph (ends_rounds p) avoided (λ e below. sym (told e below)) node h)),
    )

-- ---- tables

-- the set of one piece more
pub one-more : {W : ℕ} (p : Program) (c : ClassTable) (may : ℕ → Type 0) (sets new : List (ClassSet W)) (set : ClassSet W) (k : ℕ) → length sets ≡ k → new ≡ sets ++ set ∷ [] → TellBelow p c may sets k → ((line : ℕ) → (holds set line ≡ true) ↔ TouchesBy p c may k line) → TellBelow p c may new (k + 1)
one-more p c may sets new set k count is tell here node line below = ⊎_elim
    (λ (l : node < k).
    let same : touches_in new node line ≡ touches_in sets node line = ap (λ xs. touches_in xs node line) is ∙ touches-before sets set node line (omega (arith, l, count)) in
    (λ h. (tell node line l).0 (sym same ∙ h), λ h. same ∙ (tell node line l).1 h))
    (λ (m : k ≤ node).
    let at : node ≡ k = omega (arith, m, below) in
    let same : touches_in new node line ≡ holds set line = ap (λ xs. touches_in xs node line) is ∙ touches-last sets set node line (omega (arith, at, count)) in
    (λ h. subst (λ x. TouchesBy p c may x line) (sym at) ((here line).0 (sym same ∙ h)), λ h. same ∙ (here line).1 (subst (λ x. TouchesBy p c may x line) at h)))
    (cases_lt node k)

-- one edge more
pub edge-more : (p : Program) (ends : List Bool) (e : ℕ) (value : Bool) → e < length ends → value ≡ ends_rounds p e → ((k : ℕ) → k < e → get_or ends k false ≡ ends_rounds p k) → (k : ℕ) → k < e + 1 → get_or (set ends e value) k false ≡ ends_rounds p k
edge-more p ends e value lt is told k below = ⊎_elim
    (λ (l : k < e). let ne : k ≢ e = omega (arith, l) in rw get_or-set_other (told k l))
    (λ (m : e ≤ k). let at : k ≡ e = omega (arith, m, below) in subst (λ x. get_or (set ends e value) x false ≡ ends_rounds p x) (sym at) (rw get_or-set_same is))
    (cases_lt k e)

-- ---- what the laws on flow graphs say of this one

pub as-many : (p : Program) (f : FlowGraph) (node : ℕ) → f ≡ flow p.execs → node < f.graph.nodes → IsShaped (flow p.execs) (finish p.execs) → node < length f.pieces
as-many p f node is lt shaped = subst (λ (x : FlowGraph). node < length x.pieces) (sym is) (let count = shaped.count in let below : node < (flow p.execs).graph.nodes = subst (λ (x : FlowGraph). node < x.graph.nodes) is lt in omega (arith, count, below))

pub act-runs : (p : Program) (f : FlowGraph) (node : ℕ) (piece : Piece) → f ≡ flow p.execs → slice_get f.pieces node ≡ Some piece → node < f.graph.nodes → (node < (flow p.execs).graph.nodes → kind_at (flow p.execs) node ≡ Act → IsPartOf (flow p.execs) p.execs node is_act) → piece.kind ≡ Act → piece.exec < length p.execs
act-runs p f node piece is at lt acts kind = part-exists p f node piece is at is_act (acts (subst (λ (x : FlowGraph). node < x.graph.nodes) is lt) (ap (λ (x : Piece). x.kind) (piece-is p f node piece is at) ∙ kind))

pub piece-runs : (p : Program) (f : FlowGraph) (node : ℕ) (piece : Piece) → f ≡ flow p.execs → slice_get f.pieces node ≡ Some piece → node < f.graph.nodes
    → (node < (flow p.execs).graph.nodes → kind_at (flow p.execs) node ≡ Act → IsPartOf (flow p.execs) p.execs node is_act)
    → (node < (flow p.execs).graph.nodes → kind_at (flow p.execs) node ≡ Branch → IsPartOf (flow p.execs) p.execs node is_branch)
    → RunsExecutable p piece
piece-runs p f node piece is at lt acts branches =
    let below : node < (flow p.execs).graph.nodes = subst (λ (x : FlowGraph). node < x.graph.nodes) is lt in
    runs-executable p f node piece is at (acts below) (branches below)

-- ---- edges that end rounds

pub ends-zero : (p : Program) (e : ℕ) (value : Bool) → e ≡ 0 → value ≡ (e == 0) → value ≡ ends_rounds p e
ends-zero p e value zero_at is = is ∙ eq-eqb e 0 zero_at ∙ sym (ap (λ b. b || is_increment p (from (flow p.execs).graph e)) (eq-eqb e 0 zero_at))

pub ends-other : (p : Program) (f : FlowGraph) (g : Graph) (e node : ℕ) (value r : Bool) → f ≡ flow p.execs → g ≡ f.graph → (e ≡ 0 → ⊥) → node ≡ from g e → r ≡ is_increment p node → value ≡ r → value ≡ ends_rounds p e
ends-other p f g e node value r is graph other at told same =
    same ∙ told
    ∙ ap (is_increment p) (at ∙ ap (λ (x : Graph). from x e) (graph ∙ ap (λ (x : FlowGraph). x.graph) is))
    ∙ sym (ap (λ b. b || is_increment p (from (flow p.execs).graph e)) (ne_eqb e 0 other))

-- ---- a branch that touches no line of output

pub no-such : {P : Type 0} (b : Bool) → b ≡ true → b ≡ false → P
no-such b yes' no' = absurd (false≢true (sym no' ∙ yes'))

-- a set that has a least member has a member
pub has-member : {member : ℕ → Bool} (r : Option ℕ) (none : Bool) → MatchOption r (IsLast member None) (λ m. IsNext member None m) → is_some r ≡ not none → none ≡ false → (n : ℕ) × (member n ≡ true)
has-member None none next is no' = absurd (false≢true (is ∙ ap not no'))
has-member (Some m) none next is no' = (m, next.member)

-- what a branch needs is numbered
branch-numbered : (c : ClassTable) (kind : ExecKind) → ((n : ℕ) → ExecNeeds c kind n → (1 ≤ n) × (n ≤ class_count c)) → BranchNeeds c kind 0 → ⊥
branch-numbered c (DoStart loop_no var first last step body exit) law is = omega (arith, is)
branch-numbered c (Assign target e next) law is = let low = (law 0 is).0 in omega (arith, low)
branch-numbered c (Print items next) law is = let low = (law 0 is).0 in omega (arith, low)
branch-numbered c (Passing next) law is = let low = (law 0 is).0 in omega (arith, low)
branch-numbered c (Test cond if_true if_false) law is = let low = (law 0 is).0 in omega (arith, low)
branch-numbered c (Sign e neg equal pos) law is = let low = (law 0 is).0 in omega (arith, low)
branch-numbered c (Pick e targets other) law is = let low = (law 0 is).0 in omega (arith, low)
branch-numbered c (DoNext loop_no var body exit) law is = let low = (law 0 is).0 in omega (arith, low)
branch-numbered c Ending law is = let low = (law 0 is).0 in omega (arith, low)

-- it can't trap, lies on no cycle that a run may go round for ever, and needs a class
pub quiet-branch : {W : ℕ} (c : ClassTable) (kind : ExecKind) (risk : Type 0) (set : ClassSet W) (round may : Bool) → ((n : ℕ) → ExecNeeds c kind n → (1 ≤ n) × (n ≤ class_count c)) → ((n : ℕ) → (holds set n ≡ true) ↔ BranchNeeds c kind n) → round ≡ false → (may ≡ true) ↔ BranchTraps risk kind → may ≡ false
    → ((n : ℕ) × (holds set n ≡ true)) → AreLines set (BranchNeedsOut c risk kind round) (BranchNeeds c kind)
quiet-branch c kind risk set round may law told no_round told_risk no_risk some = record {
  output = (
    λ h. absurd (branch-numbered c kind law ((told 0).0 h)),
    λ out. absurd (⊎_elim
        (λ can. false≢true (sym no_risk ∙ told_risk.1 can))
        (λ more. ⊎_elim
        (λ (r : round ≡ true). false≢true (sym no_round ∙ r))
        (λ none. none some.0 ((told some.0).0 some.1))
        more)
        out),
  );
  classes = λ n. told (suc n);
}

-- ---- the same risks, told in two ways

module _ (p : Program) (c : ClassTable) (node : ℕ) (risk other : Type 0) (same : risk → other) where
  -- so of a branch, but for the test of a DO
  pub branch-by : (exec : ExecKind) → BranchTraps risk exec → BranchTraps other exec
  branch-by (DoStart loop_no var first last step body exit) h = h
  branch-by (Assign target e next) h = same h
  branch-by (Print items next) h = same h
  branch-by (Passing next) h = same h
  branch-by (Test cond if_true if_false) h = same h
  branch-by (Sign e neg equal pos) h = same h
  branch-by (Pick e targets other) h = same h
  branch-by (DoNext loop_no var body exit) h = same h
  branch-by Ending h = same h

  out-by : (kind : PieceKind) (exec : ExecKind) → KindNeedsOutBy p c node risk kind exec → KindNeedsOutBy p c node other kind exec
  out-by Start exec h = h
  out-by Act exec (inl prints) = inl prints
  out-by Act exec (inr (inl reads)) = inr (inl reads)
  out-by Act exec (inr (inr r)) = inr (inr (same r))
  out-by Pass exec h = h
  out-by Branch exec (inl r) = inl (branch-by exec r)
  out-by Branch exec (inr more) = inr more
  out-by Join exec h = h
  out-by Hold exec h = h
  out-by End exec h = h

module _ (p : Program) (c : ClassTable) (may other : ℕ → Type 0) (same : (k : ℕ) → may k ↔ other k) where
  touches-by : (node line : ℕ) → TouchesBy p c may node line ↔ TouchesBy p c other node line
  touches-by node zero = (
    λ h. out-by p c node (may (exec_at p node)) (other (exec_at p node)) (same (exec_at p node)).0 (piece_kind p node) (exec_kind p node) h,
    λ h. out-by p c node (other (exec_at p node)) (may (exec_at p node)) (same (exec_at p node)).1 (piece_kind p node) (exec_kind p node) h,
  )
  touches-by node (suc n) = (λ h. h, λ h. h)

  pub same-risks : (touches : ℕ → ℕ → Bool) → AreTouchesBy p c may touches → AreTouchesBy p c other touches
  same-risks touches are node line below = (λ h. (touches-by node line).0 ((are node line below).0 h), λ h. (are node line below).1 ((touches-by node line).1 h))
