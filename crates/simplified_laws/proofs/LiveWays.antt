-- Where control can come on from pieces to which it can come.
use Rattle.std.proofs.Common.{◌≡◌, ◌≢◌, ℕ, ◌<◌, ◌≤◌, ◌⊎◌, Bool, true, false, not, ◌==◌, ◌&&◌, List, [], ◌∷◌, ◌++◌, length, Option, Some, None, ℤ, pos, refl, sym, ap, subst, ◌∙◌, inl, inr, ⊎_elim, arith}
use Rattle.std.specs.Prelude.{slice_get, slice_index}
use Rattle.std.specs.List.{range_with_len}
use Rattle.std.specs.Option.{option_map}
use Rattle.std.proofs.lemmas.Bool.{cases_Bool, cases_lt, eq-eqb, eqb-true}
use Rattle.std.proofs.lemmas.List.{get_or_past}
use Rattle.list_laws.specs.Member.{Member}
use Rattle.list_laws.proofs.Members.{Member-at, Member-filtered, Member-in_range}
use Rattle.op_table.specs.Trips.{at_least_zero}
use Rattle.closed_walks.specs.Graph.{Graph, edge_count, from, to}
use Rattle.closed_walks.specs.Region.{IsFlowGraph}
use Rattle.closed_walks.specs.Walk.{Walk, Avoids}
use Rattle.f77_tree.specs.declared.programs.Exec.{Exec}
use Rattle.f77_tree.specs.declared.programs.ExecKind.{ExecKind}
use Rattle.f77_tree.specs.declared.programs.ExecKind.TheVariants.{Assign, Print, Pass, Test, Sign, Pick, DoStart, DoNext, End}
use Rattle.f77_tree.specs.declared.programs.Program.{Program}
use Rattle.f77_tree.specs.Control.{EndsWithEnd, successors}
use Rattle.cfg_build.specs.declared.pieces.PieceKind.{PieceKind}
use Rattle.cfg_build.specs.declared.pieces.PieceKind.TheVariants as piece
use Rattle.cfg_build.specs.Chains.{entry, has_test, chain}
use Rattle.cfg_build.specs.Flow.{flow, piece_at}
use Rattle.cfg_build.specs.Joined.{FlowGraph, finish}
use Rattle.cfg_build.specs.Passes.{outs, out, kind_in}
use Rattle.cfg_build.specs.Routes.{leads_on, last_kind, owner, IsRoute, IsMade, AreChain}
use Rattle.cfg_build.specs.Shape.{kind_at, IsShaped}
use Rattle.const_prop.specs.declared.known.Known.{Known}
use Rattle.const_prop.specs.declared.known.Known.TheVariants.{Nothing, One, Any}
use Rattle.const_prop.specs.Closed.{is_switch}
use Rattle.const_prop.specs.Known.{one_of}
use Rattle.const_prop.specs.Live.{is_other, is_excluded}
use Rattle.const_prop.specs.Table.{Knowns}
use Rattle.simplified_forms.specs.Items.{begins_do, is_own, own_piece, IsEnteredPiece}
use Rattle.simplified_laws.specs.LiveWays.{LiveFacts, decides, MayTake}
use Rattle.simplified_forms.specs.Simplified.{decided}
use Rattle.simplified_laws.proofs.OnePiece.{one-piece}

-- ---- walks

pub walk-snoc : (g : Graph) (u v e : ℕ) (w : List ℕ) → Walk g u w v → e < edge_count g → from g e ≡ v → Walk g u (w ++ e ∷ []) (to g e)
walk-snoc g u v e [] walk less is = (less, is ∙ sym walk, refl)
walk-snoc g u v e (d ∷ w) walk less is = (walk.0, walk.1, walk-snoc g (to g d) v e w walk.2 less is)

pub avoids-snoc : (avoided : ℕ → Bool) (w : List ℕ) (e : ℕ) → Avoids avoided w → avoided e ≡ false → Avoids avoided (w ++ e ∷ [])
avoids-snoc avoided [] e all none = (none, tt)
avoids-snoc avoided (d ∷ w) e all none = (all.0, avoids-snoc avoided w e all.1 none)

-- ---- kinds

leads-start : (kind : PieceKind) → leads_on kind ≡ true → kind ≡ piece.Start → ⊥
leads-start kind leads is = let no : true ≡ false = sym leads ∙ ap leads_on is in cc

last-start : (kind : ExecKind) → last_kind kind ≡ piece.Start → ⊥
last-start (Assign target value next) is = cc
last-start (Print items next) is = cc
last-start (Pass next) is = cc
last-start (Test c a b) is = cc
last-start (Sign e a b c) is = cc
last-start (Pick e targets other) is = cc
last-start (DoStart loop_no var first last step body exit) is = cc
last-start (DoNext loop_no var body exit) is = cc
last-start End is = cc

-- the last piece of an executable without a test is its own
pub last-own : (execs : List Exec) (k : ℕ) (kind : ExecKind) → has_test kind ≡ false → (is_own (last_kind kind) kind ≡ true) × (owner execs k kind ≡ k)
last-own execs k (Assign target value next) single = (refl, refl)
last-own execs k (Print items next) single = (refl, refl)
last-own execs k (Pass next) single = (refl, refl)
last-own execs k (Test c a b) single = (refl, refl)
last-own execs k (Sign e a b c) single = (refl, refl)
last-own execs k (Pick e targets other) single = (refl, refl)
last-own execs k (DoStart loop_no var first last step body exit) single = let no : true ≡ false = single in absurd cc
last-own execs k (DoNext loop_no var body exit) single = let no : true ≡ false = single in absurd cc
last-own execs k End single = (refl, refl)

-- nothing is decided at the last piece of an executable that doesn't decide
last-idle : (kind : ExecKind) → has_test kind ≡ false → decides kind ≡ false → is_switch (last_kind kind) ≡ false
last-idle (Assign target value next) single idle = refl
last-idle (Print items next) single idle = refl
last-idle (Pass next) single idle = refl
last-idle (Test c a b) single idle = let no : true ≡ false = idle in absurd cc
last-idle (Sign e a b c) single idle = let no : true ≡ false = idle in absurd cc
last-idle (Pick e targets other) single idle = let no : true ≡ false = idle in absurd cc
last-idle (DoStart loop_no var first last step body exit) single idle = let no : true ≡ false = single in absurd cc
last-idle (DoNext loop_no var body exit) single idle = let no : true ≡ false = single in absurd cc
last-idle End single idle = refl

module _ (p : Program) (t : Knowns) (strong : IsFlowGraph (flow p.execs).graph) (shape : IsShaped (flow p.execs) (finish p.execs)) (facts : LiveFacts p t) where
  abbrev f : FlowGraph
  f = flow p.execs

  abbrev g : Graph
  g = f.graph

  not-start : (node : ℕ) → (kind_at f node ≡ piece.Start → ⊥) → node ≢ 0
  not-start node other zero = other (ap (kind_at f) zero ∙ (shape.start 0 (omega (arith, shape.end_exists))).1 refl)

  -- ---- edges

  record IsOut (node e : ℕ) : Type 0 where
    exists : e < edge_count g
    leaves : from g e ≡ node

  out-edge : (node i : ℕ) → to g (out g node i) ≢ 0 → IsOut node (out g node i)
  out-edge node i other = ⊎_elim
      (λ (less : i < length (outs g node)).
      let m : Member (outs g node) (out g node i) = Member-at (outs g node) i 0 less in
      let both = Member-filtered (λ e. from g e == node) (range_with_len 0 (edge_count g)) (out g node i) m in
      let inside = Member-in_range 0 (edge_count g) (out g node i) both.0 in
      record { exists = omega (arith, inside.1); leaves = eqb-true (from g (out g node i)) node both.1 })
      (λ (past : length (outs g node) ≤ i). absurd (other (ap (to g) (get_or_past (outs g node) i 0 past) ∙ strong.start)))
      (cases_lt i (length (outs g node)))

  go : (node e : ℕ) → IsEnteredPiece p t node → IsOut node e → is_excluded p t e ≡ false → IsEnteredPiece p t (to g e)
  go node e by at kept =
      let same : to g by.edge ≡ from g e = by.ends ∙ sym at.leaves in
      record {
        edge = e;
        live = record {
          edge = at.exists;
          reached = record {
            walk = by.live.reached.walk ++ by.edge ∷ [];
            leads = subst (λ node. Walk g 0 (by.live.reached.walk ++ by.edge ∷ []) node) same (walk-snoc g 0 (from g by.edge) by.edge by.live.reached.walk by.live.reached.leads by.live.edge refl);
            avoids = avoids-snoc (is_excluded p t) by.live.reached.walk by.edge by.live.reached.avoids by.live.kept;
          };
          kept = kept;
        };
        ends = refl;
      }

  excluded-at : (node e : ℕ) → IsOut node e → is_excluded p t e ≡ (is_switch (kind_at f node) && is_other p t node e (one_of (t.decision node)))
  excluded-at node e at = ap (λ (n : ℕ). is_switch (kind_at f n) && is_other p t n e (one_of (t.decision n))) at.leaves

  idle-kept : (node e : ℕ) → IsOut node e → is_switch (kind_at f node) ≡ false → is_excluded p t e ≡ false
  idle-kept node e at none = excluded-at node e at ∙ ap (λ b. b && is_other p t node e (one_of (t.decision node))) none

  -- control comes to where edge 1 leads
  pub begins : IsEnteredPiece p t (to g 1)
  begins =
      let leaves : from g 1 ≡ 0 = (shape.leaves_start 1 shape.two_edges).1 refl in
      let start : kind_at f 0 ≡ piece.Start = (shape.start 0 (omega (arith, shape.end_exists))).1 refl in
      record {
        edge = 1;
        live = record {
          edge = shape.two_edges;
          reached = record { walk = []; leads = sym leaves; avoids = tt };
          kept = idle-kept 0 1 (record { exists = shape.two_edges; leaves = leaves }) (ap is_switch start);
        };
        ends = refl;
      }

  and-none : (b c : Bool) → c ≡ false → (b && c) ≡ false
  and-none true c is = is
  and-none false c is = refl

  chosen-kept : (node e : ℕ) → IsOut node e → is_other p t node e (one_of (t.decision node)) ≡ false → is_excluded p t e ≡ false
  chosen-kept node e at none = excluded-at node e at ∙ and-none (is_switch (kind_at f node)) (is_other p t node e (one_of (t.decision node))) none

  -- the out-edge i of a branch that decides for it, or for none
  other-none : (node i : ℕ) (o : Option ℤ) → (option_map at_least_zero o ≡ None) ⊎ (option_map at_least_zero o ≡ Some i) → is_other p t node (out g node i) o ≡ false
  other-none node i None may = refl
  other-none node i (Some v) (inl none) = let no : Some (at_least_zero v) ≡ None = none in absurd cc
  other-none node i (Some v) (inr is) =
      let at : at_least_zero v ≡ i = let same : Some (at_least_zero v) ≡ Some i = is in cc in
      ap not (eq-eqb (out g node (at_least_zero v)) (out g node i) (ap (out g node) at))

  -- ---- joins and holds lead on

  first-kept : (node : ℕ) → IsEnteredPiece p t node → IsOut node (out g node 0) → leads_on (kind_at f node) ≡ true → is_excluded p t (out g node 0) ≡ false
  first-kept node by at leads = by-kind (kind_at f node) refl leads
    where
      decision : (d : Known) → t.decision node ≡ d → kind_at f node ≡ piece.Hold → is_other p t node (out g node 0) (one_of d) ≡ false
      decision Nothing is hold = refl
      decision Any is hold = refl
      decision (One v) is hold =
          let zero : v ≡ pos 0 = facts.holds by.edge v by.live (ap (kind_at f) by.ends ∙ hold) (ap t.decision by.ends ∙ is) in
          other-none node 0 (Some v) (inr (ap (λ z. Some (at_least_zero z)) zero))

      by-kind : (kind : PieceKind) → kind_at f node ≡ kind → leads_on kind ≡ true → is_excluded p t (out g node 0) ≡ false
      by-kind piece.Join is on = idle-kept node (out g node 0) at (ap is_switch is)
      by-kind piece.Hold is on = chosen-kept node (out g node 0) at (decision (t.decision node) refl is)
      by-kind piece.Start is on = let no : false ≡ true = on in absurd cc
      by-kind piece.Act is on = let no : false ≡ true = on in absurd cc
      by-kind piece.Pass is on = let no : false ≡ true = on in absurd cc
      by-kind piece.Branch is on = let no : false ≡ true = on in absurd cc
      by-kind piece.End is on = let no : false ≡ true = on in absurd cc

  -- a route doesn't begin at the start
  route-start : (prefix : List ℕ) (node last : ℕ) → IsRoute f node prefix last → (kind_at f last ≡ piece.Start → ⊥) → node ≢ 0
  route-start [] node last route other = not-start node (λ is. other (ap (kind_at f) (sym route) ∙ is))
  route-start (first ∷ rest) node last route other = not-start node (λ is. leads-start (kind_at f first) route.1 (ap (kind_at f) (sym route.0) ∙ is))

  along : (prefix : List ℕ) (node last : ℕ) → IsEnteredPiece p t node → IsRoute f node prefix last → (kind_at f last ≡ piece.Start → ⊥) → IsEnteredPiece p t last
  along [] node last by route other = subst (IsEnteredPiece p t) route by
  along (first ∷ rest) node last by route other =
      let here : IsEnteredPiece p t first = subst (IsEnteredPiece p t) route.0 by in
      let at = out-edge first 0 (route-start rest (to g (out g first 0)) last route.2 other) in
      along rest (to g (out g first 0)) last (go first (out g first 0) here at (first-kept first here at route.1)) route.2 other

  -- ---- executables

  module _ (ends : EndsWithEnd p.execs) (k : ℕ) (exec : Exec) (found : slice_get p.execs k ≡ Some exec) where
    pub made-own : (node : ℕ) (kind : PieceKind) → IsMade f p.execs node kind k → is_own kind exec.kind ≡ true → own_piece p k ≡ node
    made-own node kind made own =
        let x = piece_at f.pieces node in
        let runs : is_own x.kind (kind_in (slice_get p.execs k)) ≡ true = ap (λ y. is_own y (kind_in (slice_get p.execs k))) made.kind_is ∙ ap (is_own kind) (ap kind_in found) ∙ own in
        one-piece p k node exec ends found (ap (λ b. b && is_own x.kind (kind_in (slice_get p.execs k))) (eq-eqb x.exec k made.exec_is) ∙ runs)

    act-not : (node : ℕ) → IsMade f p.execs node piece.Act k → kind_at f node ≡ piece.Start → ⊥
    act-not node made is = let no : piece.Act ≡ piece.Start = sym made.kind_is ∙ is in cc

    last-not : (node n : ℕ) → IsMade f p.execs node (last_kind exec.kind) n → kind_at f node ≡ piece.Start → ⊥
    last-not node n made is = last-start exec.kind (sym made.kind_is ∙ is)

    -- control that comes to its first piece comes to its own
    pub comes-in : (b : Bool) → has_test exec.kind ≡ b → AreChain f (entry p.execs) p.execs k b exec.kind (chain p.execs k) → IsEnteredPiece p t (entry p.execs k) → IsEnteredPiece p t (own_piece p k)
    comes-in true test c by = subst (IsEnteredPiece p t) (sym (made-own c.act piece.Act c.acts refl)) (along c.prefix (entry p.execs k) c.act by c.route (act-not c.act c.acts))
    comes-in false single c by =
        let own = last-own p.execs k exec.kind single in
        let made : IsMade f p.execs c.last (last_kind exec.kind) k = subst (λ n. IsMade f p.execs c.last (last_kind exec.kind) n) own.1 c.ends.made in
        subst (IsEnteredPiece p t) (sym (made-own c.last (last_kind exec.kind) made own.0)) (along c.prefix (entry p.execs k) c.last by c.route (last-not c.last k made))

    pub first-not : (b : Bool) → AreChain f (entry p.execs) p.execs k b exec.kind (chain p.execs k) → entry p.execs k ≢ 0
    first-not true c = route-start c.prefix (entry p.execs k) c.act c.route (act-not c.act c.acts)
    first-not false c = route-start c.prefix (entry p.execs k) c.last c.route (last-not c.last (owner p.execs k exec.kind) c.ends.made)

    test-kept : (test n i : ℕ) → IsEnteredPiece p t test → begins_do (kind_in (slice_get p.execs (piece_at f.pieces test).exec)) ≡ true → kind_at f test ≡ piece.Branch → IsOut test (out g test i) → is_excluded p t (out g test i) ≡ false
    test-kept test n i by begins branch at = chosen-kept test (out g test i) at (decision (t.decision test) refl)
      where
        decision : (d : Known) → t.decision test ≡ d → is_other p t test (out g test i) (one_of d) ≡ false
        decision Nothing is = refl
        decision Any is = refl
        decision (One v) is = absurd (facts.tests by.edge v by.live (ap (kind_at f) by.ends ∙ branch) (ap (λ node. begins_do (kind_in (slice_get p.execs (piece_at f.pieces node).exec))) by.ends ∙ begins) (ap t.decision by.ends ∙ is))

    -- control that comes to its own piece comes to the first one of a successor, if no branch decides otherwise
    pub comes-out : (b : Bool) (i : ℕ) → has_test exec.kind ≡ b → AreChain f (entry p.execs) p.execs k b exec.kind (chain p.execs k) → i < length (successors exec.kind) → entry p.execs (slice_index (successors exec.kind) i) ≢ 0
        → MayTake exec.kind (decided p t k) i → begins_do (kind_in (slice_get p.execs (owner p.execs k exec.kind))) ≡ b → IsEnteredPiece p t (own_piece p k) → IsEnteredPiece p t (entry p.execs (slice_index (successors exec.kind) i))
    comes-out true i has c less other may begins by =
        let here : IsEnteredPiece p t c.act = subst (IsEnteredPiece p t) (made-own c.act piece.Act c.acts refl) by in
        let on = out-edge c.act 0 (route-start c.middle (to g (out g c.act 0)) c.test c.on (last-not c.test (owner p.execs k exec.kind) c.ends.made)) in
        let next = go c.act (out g c.act 0) here on (idle-kept c.act (out g c.act 0) on (ap is_switch c.acts.kind_is)) in
        let test = along c.middle (to g (out g c.act 0)) c.test next c.on (last-not c.test (owner p.execs k exec.kind) c.ends.made) in
        let leads = c.ends.leads i less in
        let way = out-edge c.test i (λ zero. other (sym leads ∙ zero)) in
        let branch : kind_at f c.test ≡ piece.Branch = c.ends.made.kind_is ∙ branch-last exec.kind has in
        let owned : begins_do (kind_in (slice_get p.execs (piece_at f.pieces c.test).exec)) ≡ true = ap (λ n. begins_do (kind_in (slice_get p.execs n))) c.ends.made.exec_is ∙ begins in
        subst (IsEnteredPiece p t) leads (go c.test (out g c.test i) test way (test-kept c.test k i test owned branch way))
      where
        branch-last : (kind : ExecKind) → has_test kind ≡ true → last_kind kind ≡ piece.Branch
        branch-last (Assign target value next) is = let no : false ≡ true = is in absurd cc
        branch-last (Print items next) is = let no : false ≡ true = is in absurd cc
        branch-last (Pass next) is = let no : false ≡ true = is in absurd cc
        branch-last (Test c a b) is = refl
        branch-last (Sign e a b c) is = refl
        branch-last (Pick e targets other) is = refl
        branch-last (DoStart loop_no var first last step body exit) is = refl
        branch-last (DoNext loop_no var body exit) is = refl
        branch-last End is = let no : false ≡ true = is in absurd cc
    comes-out false i has c less other may begins by =
        let own = last-own p.execs k exec.kind has in
        let made : IsMade f p.execs c.last (last_kind exec.kind) k = subst (λ n. IsMade f p.execs c.last (last_kind exec.kind) n) own.1 c.ends.made in
        let same = made-own c.last (last_kind exec.kind) made own.0 in
        let here : IsEnteredPiece p t c.last = subst (IsEnteredPiece p t) same by in
        let leads = c.ends.leads i less in
        let way = out-edge c.last i (λ zero. other (sym leads ∙ zero)) in
        let kept : is_excluded p t (out g c.last i) ≡ false = ⊎_elim
        (λ (does : decides exec.kind ≡ true).
        let chosen = subst (λ (n : ℕ). (option_map at_least_zero (one_of (t.decision n)) ≡ None) ⊎ (option_map at_least_zero (one_of (t.decision n)) ≡ Some i)) same (may does) in
        chosen-kept c.last (out g c.last i) way (other-none c.last i (one_of (t.decision c.last)) chosen))
        (λ (idle : decides exec.kind ≡ false). idle-kept c.last (out g c.last i) way (ap is_switch c.ends.made.kind_is ∙ last-idle exec.kind has idle))
        (cases_Bool (decides exec.kind))
        in
        subst (IsEnteredPiece p t) leads (go c.last (out g c.last i) here way kept)
