-- Where control can be by the decisions of a table: at the start, at the end, or on the way through an executable to which it can come.
-- So what holds of the first executable, and goes on from each to which control can come to its successors, holds of each of these.
use Rattle.std.proofs.Common.{◌≡◌, ℕ, zero, suc, ◌<◌, ◌≤◌, ◌⊎◌, ◌==◌, ◌&&◌, ℤ, Bool, true, false, List, [], ◌∷◌, ◌++◌, length, Option, Some, None, refl, sym, ap, subst, ◌∙◌, inl, inr, ⊎_elim, arith}
use Rattle.std.specs.Prelude.{not, slice_get, slice_index}
use Rattle.std.specs.List.{range_with_len}
use Rattle.std.specs.Option.{option_map}
use Rattle.std.proofs.lemmas.Bool.{cases_Bool, cases_lt, eq-eqb, eqb-true, false≢true}
use Rattle.std.proofs.lemmas.Option.{slice_get_cases}
use Rattle.list_laws.specs.Member.{Member}
use Rattle.list_laws.proofs.Members.{IsAt, at_of, Member-filter, Member-range}
use Rattle.op_table.specs.Trips.{at_least_zero}
use Rattle.closed_walks.specs.Graph.{Graph, edge_count, from, to}
use Rattle.closed_walks.specs.Region.{IsFlowGraph}
use Rattle.closed_walks.specs.Walk.{Walk, Avoids}
use Rattle.f77_tree.specs.declared.programs.Exec.{Exec}
use Rattle.f77_tree.specs.declared.programs.ExecKind.{ExecKind}
use Rattle.f77_tree.specs.declared.programs.ExecKind.TheVariants.{Assign, Print, Pass, Test, Sign, Pick, DoStart, DoNext, End}
use Rattle.f77_tree.specs.declared.programs.Program.{Program}
use Rattle.f77_tree.specs.Control.{successors}
use Rattle.f77_tree.specs.WellFormed.{AreExecs}
use Rattle.cfg_build.specs.declared.pieces.PieceKind.{PieceKind}
use Rattle.cfg_build.specs.declared.pieces.PieceKind.TheVariants as piece
use Rattle.cfg_build.specs.Chains.{entry, has_test, chain}
use Rattle.cfg_build.specs.Control.{is_reached}
use Rattle.cfg_build.specs.Flow.{flow}
use Rattle.cfg_build.specs.Joined.{FlowGraph, finish}
use Rattle.cfg_build.specs.Parts.{first_kind}
use Rattle.cfg_build.specs.Passes.{outs, out, kind_in}
use Rattle.cfg_build.specs.Routes.{leads_on, last_kind, owner, IsRoute, IsMade, IsLast, AreChain}
use Rattle.cfg_build.specs.Shape.{kind_at, IsShaped}
use Rattle.cfg_build.specs.WaysOut.{ways_out}
use Rattle.cfg_build.specs.Zones.{exec_at}
use Rattle.const_prop.specs.declared.known.Known.{Known}
use Rattle.const_prop.specs.declared.known.Known.TheVariants.{Nothing, One, Any}
use Rattle.const_prop.specs.Closed.{is_switch}
use Rattle.const_prop.specs.Known.{one_of}
use Rattle.const_prop.specs.Live.{is_other, is_excluded, IsLive}
use Rattle.const_prop.specs.Table.{Knowns}
use Rattle.simplified_forms.specs.Items.{begins_do, own_piece, IsEntered, IsEnteredPiece}
use Rattle.simplified_laws.specs.LiveWays.{LiveFacts, decides}
use Rattle.simplified_forms.specs.Simplified.{decided}
use Rattle.simplified_laws.proofs.ControlWays.{ReachingIsTold, reached-first, reached-next}
use Rattle.simplified_laws.proofs.LeadingOn.{ChainsAreFound, FirstIsLed, owner-begins, successor-exists}
use Rattle.simplified_laws.proofs.LeavingEdges.{WaysAreCounted, HoldsLeadToEnd}
use Rattle.simplified_laws.proofs.LiveWays.{walk-snoc, avoids-snoc, comes-in, last-own, made-own}

-- ---- kinds

two-ways : (kind : ExecKind) → begins_do kind ≡ true → length (successors kind) ≡ 2
two-ways (Assign target value next) is = absurd cc
two-ways (Print items next) is = absurd cc
two-ways (Pass next) is = absurd cc
two-ways (Test c a b) is = absurd cc
two-ways (Sign e a b c) is = absurd cc
two-ways (Pick e targets other) is = absurd cc
two-ways (DoStart loop_no var first last step body exit) is = refl
two-ways (DoNext loop_no var body exit) is = absurd cc
two-ways End is = absurd cc

begins-acts : (kind : ExecKind) → begins_do kind ≡ true → first_kind kind ≡ piece.Act
begins-acts (Assign target value next) is = refl
begins-acts (Print items next) is = refl
begins-acts (Pass next) is = absurd cc
begins-acts (Test c a b) is = absurd cc
begins-acts (Sign e a b c) is = absurd cc
begins-acts (Pick e targets other) is = absurd cc
begins-acts (DoStart loop_no var first last step body exit) is = refl
begins-acts (DoNext loop_no var body exit) is = refl
begins-acts End is = absurd cc

test-branches : (kind : ExecKind) → has_test kind ≡ true → last_kind kind ≡ piece.Branch
test-branches (Assign target value next) is = absurd cc
test-branches (Print items next) is = absurd cc
test-branches (Pass next) is = absurd cc
test-branches (Test c a b) is = refl
test-branches (Sign e a b c) is = refl
test-branches (Pick e targets other) is = refl
test-branches (DoStart loop_no var first last step body exit) is = refl
test-branches (DoNext loop_no var body exit) is = refl
test-branches End is = absurd cc

single-owner : (p : Program) (k : ℕ) (kind : ExecKind) → has_test kind ≡ false → owner p.execs k kind ≡ k
single-owner p k (Assign target value next) single = refl
single-owner p k (Print items next) single = refl
single-owner p k (Pass next) single = refl
single-owner p k (Test c a b) single = refl
single-owner p k (Sign e a b c) single = refl
single-owner p k (Pick e targets other) single = refl
single-owner p k (DoStart loop_no var first last step body exit) single = refl
single-owner p k (DoNext loop_no var body exit) single = absurd cc
single-owner p k End single = refl

-- the first piece of an executable isn't the start, nor a join or a hold, and but for END it isn't the end
first-starts : (kind : ExecKind) → first_kind kind ≡ piece.Start → ⊥
first-starts (Assign target value next) is = cc
first-starts (Print items next) is = cc
first-starts (Pass next) is = cc
first-starts (Test c a b) is = cc
first-starts (Sign e a b c) is = cc
first-starts (Pick e targets other) is = cc
first-starts (DoStart loop_no var first last step body exit) is = cc
first-starts (DoNext loop_no var body exit) is = cc
first-starts End is = cc

first-ends : (kind : ExecKind) → (kind ≡ End → ⊥) → first_kind kind ≡ piece.End → ⊥
first-ends (Assign target value next) other is = cc
first-ends (Print items next) other is = cc
first-ends (Pass next) other is = cc
first-ends (Test c a b) other is = cc
first-ends (Sign e a b c) other is = cc
first-ends (Pick e targets other_way) other is = cc
first-ends (DoStart loop_no var first last step body exit) other is = cc
first-ends (DoNext loop_no var body exit) other is = cc
first-ends End other is = other refl

first-idle : (kind : ExecKind) → leads_on (first_kind kind) ≡ false
first-idle (Assign target value next) = refl
first-idle (Print items next) = refl
first-idle (Pass next) = refl
first-idle (Test c a b) = refl
first-idle (Sign e a b c) = refl
first-idle (Pick e targets other) = refl
first-idle (DoStart loop_no var first last step body exit) = refl
first-idle (DoNext loop_no var body exit) = refl
first-idle End = refl

cases-end : (kind : ExecKind) → (kind ≡ End) ⊎ (kind ≡ End → ⊥)
cases-end (Assign target value next) = inr (λ is. cc)
cases-end (Print items next) = inr (λ is. cc)
cases-end (Pass next) = inr (λ is. cc)
cases-end (Test c a b) = inr (λ is. cc)
cases-end (Sign e a b c) = inr (λ is. cc)
cases-end (Pick e targets other) = inr (λ is. cc)
cases-end (DoStart loop_no var first last step body exit) = inr (λ is. cc)
cases-end (DoNext loop_no var body exit) = inr (λ is. cc)
cases-end End = inl refl

-- as many edges leave the last piece of an executable as it has successors
last-ways : (kind owned : ExecKind) → (kind ≡ End → ⊥) → (has_test kind ≡ false → owned ≡ kind) → (has_test kind ≡ true → length (successors owned) ≡ 2) → ways_out (last_kind kind) owned ≡ length (successors kind)
last-ways (Assign target value next) owned other same two = refl
last-ways (Print items next) owned other same two = refl
last-ways (Pass next) owned other same two = refl
last-ways (Test c a b) owned other same two = ap (λ kind. length (successors kind)) (same refl)
last-ways (Sign e a b c) owned other same two = ap (λ kind. length (successors kind)) (same refl)
last-ways (Pick e targets other_way) owned other same two = ap (λ kind. length (successors kind)) (same refl)
last-ways (DoStart loop_no var first last step body exit) owned other same two = two refl
last-ways (DoNext loop_no var body exit) owned other same two = two refl
last-ways End owned other same two = absurd (other refl)

-- an executable that decides has no test of its own, and is left by its branch
decides-last : (kind : ExecKind) → decides kind ≡ true → (has_test kind ≡ false) × (last_kind kind ≡ piece.Branch)
decides-last (Assign target value next) does = absurd (false≢true does)
decides-last (Print items next) does = absurd (false≢true does)
decides-last (Pass next) does = absurd (false≢true does)
decides-last (Test c a b) does = (refl, refl)
decides-last (Sign e a b c) does = (refl, refl)
decides-last (Pick e targets other) does = (refl, refl)
decides-last (DoStart loop_no var first last step body exit) does = absurd (false≢true does)
decides-last (DoNext loop_no var body exit) does = absurd (false≢true does)
decides-last End does = absurd (false≢true does)

-- a decision that is the place of a successor is this place
abbrev pub IsDecidedFor : ExecKind → (decided : Option ℕ) → (i : ℕ) → Type 0
IsDecidedFor kind decided i = (x : ℕ) → decides kind ≡ true → decided ≡ Some x → x < length (successors kind) → x ≡ i

pub record IsTold (d : Known) (i : ℕ) : Type 0 where
  pub value : ℤ
  pub one : d ≡ One value
  pub place : at_least_zero value ≡ i

-- what is decided is one value
pub told-by : (d : Known) (i : ℕ) → option_map at_least_zero (one_of d) ≡ Some i → IsTold d i
told-by Nothing i is = absurd cc
told-by Any i is = absurd cc
told-by (One v) i is = record { value = v; one = refl; place = cc }

not-false : (b : Bool) → not b ≡ false → b ≡ true
not-false true is = refl
not-false false is = absurd (false≢true (sym is))

-- ---- the edges that leave a node

record IsOneOut (g : Graph) (node e : ℕ) : Type 0 where
  place : ℕ
  exists : place < length (outs g node)
  is : e ≡ out g node place

one-out : (g : Graph) (node e : ℕ) → e < edge_count g → from g e ≡ node → IsOneOut g node e
one-out g node e edge begins =
    let m : Member (outs g node) e = Member-filter (λ e. from g e == node) (range_with_len 0 (edge_count g)) e (Member-range 0 (edge_count g) e (omega arith) (omega (arith, edge))) (eq-eqb (from g e) node begins) in
    let r : IsAt (outs g node) e = at_of (outs g node) e m in
    record { place = r.place; exists = r.exists; is = sym (r.is 0) }

module _ (p : Program) (t : Knowns) (strong : IsFlowGraph (flow p.execs).graph) (shape : IsShaped (flow p.execs) (finish p.execs)) (facts : LiveFacts p t) (well : AreExecs p.names p.execs p.loops) where
  module _ (told : ReachingIsTold) (chains : ChainsAreFound) (led : FirstIsLed) (counted : WaysAreCounted) (ended : HoldsLeadToEnd) where
    abbrev f : FlowGraph
    f = flow p.execs

    abbrev g : Graph
    g = f.graph

    -- ---- the edge that control takes after a branch

    -- an edge that isn't excluded is the one for which the branch decides
    chosen : (node e x : ℕ) → from g e ≡ node → kind_at f node ≡ piece.Branch → option_map at_least_zero (one_of (t.decision node)) ≡ Some x → is_excluded p t e ≡ false → e ≡ out g node x
    chosen node e x leaves branch told kept =
        let d = told-by (t.decision node) x told in
        let whole : (is_switch (kind_at f node) && is_other p t node e (one_of (t.decision node))) ≡ false = sym (ap (λ n. is_switch (kind_at f n) && is_other p t n e (one_of (t.decision n))) leaves) ∙ kept in
        let computed : (is_switch (kind_at f node) && is_other p t node e (one_of (t.decision node))) ≡ not (out g node (at_least_zero d.value) == e) =
        ap (λ x. is_switch x && is_other p t node e (one_of (t.decision node))) branch ∙ ap (λ y. is_other p t node e (one_of y)) d.one in
        let same : (out g node (at_least_zero d.value) == e) ≡ true = not-false (out g node (at_least_zero d.value) == e) (sym computed ∙ whole) in
        sym (ap (out g node) (sym d.place) ∙ eqb-true (out g node (at_least_zero d.value)) e same)

    record IsTaken (k : ℕ) (exec : Exec) (node e : ℕ) : Type 0 where
      place : ℕ
      exists : place < length (successors exec.kind)
      is : e ≡ out g node place
      meant : IsDecidedFor exec.kind (decided p t k) place

    -- the edge leads to a successor to which the executable may go
    taken : (k : ℕ) (exec : Exec) (node e : ℕ) → slice_get p.execs k ≡ Some exec → IsLive p t e → from g e ≡ node → IsLast f (entry p.execs) p.execs k exec.kind node → length (outs g node) ≡ length (successors exec.kind) → IsTaken k exec node e
    taken k exec node e found live leaves last count = ⊎_elim
        (λ (does : decides exec.kind ≡ true). by does (decided p t k) refl)
        (λ (idle : decides exec.kind ≡ false). as-found (λ x does told below. false≢true (sym idle ∙ does)))
        (cases_Bool (decides exec.kind))
      where
        o : IsOneOut g node e
        o = one-out g node e live.edge leaves

        as-found : ((x : ℕ) → decides exec.kind ≡ true → decided p t k ≡ Some x → x < length (successors exec.kind) → ⊥) → IsTaken k exec node e
        as-found none = record { place = o.place; exists = let inside = o.exists in omega (arith, inside, count); is = o.is; meant = λ x does told below. absurd (none x does told below) }

        here : decides exec.kind ≡ true → own_piece p k ≡ node
        here does =
            let own = last-own p.execs k exec.kind (decides-last exec.kind does).0 in
            let made : IsMade f p.execs node (last_kind exec.kind) k = subst (λ n. IsMade f p.execs node (last_kind exec.kind) n) own.1 last.made in
            made-own p t strong shape facts well.end k exec found node (last_kind exec.kind) made own.0

        as-decided : decides exec.kind ≡ true → (x : ℕ) → decided p t k ≡ Some x → x < length (successors exec.kind) → IsTaken k exec node e
        as-decided does x told below =
            let branch : kind_at f node ≡ piece.Branch = last.made.kind_is ∙ (decides-last exec.kind does).1 in
            record {
              place = x;
              exists = below;
              is = chosen node e x leaves branch (ap (λ n. option_map at_least_zero (one_of (t.decision n))) (sym (here does)) ∙ told) live.kept;
              meant = λ y does_too told_too below_too. let both : Some y ≡ Some x = sym told_too ∙ told in cc;
            }

        by : decides exec.kind ≡ true → (d : Option ℕ) → decided p t k ≡ d → IsTaken k exec node e
        by does None none = as-found (λ x does_too told below. let no : None ≡ Some x = sym none ∙ told in cc)
        by does (Some x) told = ⊎_elim
            (λ (below : x < length (successors exec.kind)). as-decided does x told below)
            (λ (past : length (successors exec.kind) ≤ x). as-found (λ y does_too told_too below. let both : Some y ≡ Some x = sym told_too ∙ told in let same : y ≡ x = cc in omega (arith, same, past, below)))
            (cases_lt x (length (successors exec.kind)))

    -- what holds of the first executable, and goes on from each to which control can come
    module _ (Q : ℕ → Type 0) (begins : Q 0) (goes_on : (k i : ℕ) (exec : Exec) → slice_get p.execs k ≡ Some exec → i < length (successors exec.kind) → IsDecidedFor exec.kind (decided p t k) i → IsEntered p t k → Q k → Q (slice_index (successors exec.kind) i)) where
      -- an executable to which control can come
      record IsLiveExec (k : ℕ) (exec : Exec) : Type 0 where
        found : slice_get p.execs k ≡ Some exec
        reached : is_reached p.execs k ≡ true
        entered : IsEntered p t k
        holds : Q k

      -- where joins and holds lead that stand in the chain of an executable: to its last piece, or to the act that leads to its test
      data IsLedTo (k : ℕ) (kind : ExecKind) (node : ℕ) : Type 0 where
        ToLast : IsLast f (entry p.execs) p.execs k kind node → IsLedTo k kind node
        ToAct : IsMade f p.execs node piece.Act k → (middle : List ℕ) (test : ℕ) → IsRoute f (to g (out g node 0)) middle test → IsLast f (entry p.execs) p.execs k kind test → IsLedTo k kind node

      -- a place where control can be
      data IsPlace (node : ℕ) : Type 0 where
        AtStart : node ≡ 0 → IsPlace node
        AtEnd : node ≡ finish p.execs → IsPlace node
        Within : (k : ℕ) (exec : Exec) → IsLiveExec k exec → (way : List ℕ) (last : ℕ) → IsRoute f node way last → IsLedTo k exec.kind last → IsPlace node

      -- ---- coming to an executable

      at-chain : (k : ℕ) (exec : Exec) → IsLiveExec k exec → (b : Bool) → has_test exec.kind ≡ b → AreChain f (entry p.execs) p.execs k b exec.kind (chain p.execs k) → IsPlace (entry p.execs k)
      at-chain k exec live true has c = Within k exec live c.prefix c.act c.route (ToAct c.acts c.middle c.test c.on c.ends)
      at-chain k exec live false has c = Within k exec live c.prefix c.last c.route (ToLast c.ends)

      at-entry : (k : ℕ) → is_reached p.execs k ≡ true → k < length p.execs → Q k → IsEnteredPiece p t (entry p.execs k) → IsPlace (entry p.execs k)
      at-entry k reached below holds by = ⊎_elim
          (λ there.
          let exec : Exec = there.0 in
          let c = chains p.names p.execs p.loops k exec well reached there.2 in
          let own = comes-in p t strong shape facts well.end k exec there.2 (has_test exec.kind) refl c by in
          at-chain k exec (record { found = there.2; reached = reached; entered = own; holds = holds }) (has_test exec.kind) refl c)
          (λ past. absurd (omega (arith, below, past.0)))
          (slice_get_cases p.execs k).1

      -- ---- an edge that control can take

      module _ (e : ℕ) (live : IsLive p t e) where
        here : (node : ℕ) → to g e ≡ node → IsEnteredPiece p t node
        here node ends = record { edge = e; live = live; ends = ends }

        placed : (node : ℕ) → to g e ≡ node → IsPlace node → IsPlace (to g e)
        placed node ends place = subst IsPlace (sym ends) place

        from-start : from g e ≡ 0 → IsPlace (to g e)
        from-start is =
            let one : e ≡ 1 = (shape.leaves_start e live.edge).0 is in
            let ends : to g e ≡ entry p.execs 0 = ap (to g) one ∙ led p.names p.execs p.loops well in
            placed (entry p.execs 0) ends (at-entry 0 (reached-first p.execs well.successors told well.end.some) well.end.some begins (here (entry p.execs 0) ends))

        from-end : from g e ≡ finish p.execs → IsPlace (to g e)
        from-end is = AtStart (ap (to g) ((shape.leaves_end e live.edge).0 is) ∙ strong.start)

        node_below : (node : ℕ) → from g e ≡ node → node < g.nodes
        node_below node leaves = let less = strong.sound.begins e live.edge in omega (arith, less, leaves)

        -- the only edge that leaves a piece
        only-out : (node : ℕ) (kind : PieceKind) → from g e ≡ node → kind_at f node ≡ kind → ways_out kind (kind_in (slice_get p.execs (exec_at f node))) ≡ 1 → to g e ≡ to g (out g node 0)
        only-out node kind leaves is one =
            let o = one-out g node e live.edge leaves in
            let count = counted p.names p.execs p.loops node well (node_below node leaves) ∙ ap (λ x. ways_out x (kind_in (slice_get p.execs (exec_at f node)))) is ∙ one in
            let zero_place : o.place ≡ 0 = omega (arith, o.exists, count) in
            ap (to g) (o.is ∙ ap (out g node) zero_place)

        -- joins and holds
        on-way : (k : ℕ) (exec : Exec) → IsLiveExec k exec → (node : ℕ) (way : List ℕ) (last : ℕ) → from g e ≡ node → leads_on (kind_at f node) ≡ true → IsRoute f (to g (out g node 0)) way last → IsLedTo k exec.kind last → IsPlace (to g e)
        on-way k exec of node way last leaves leads route ends = by-kind (kind_at f node) refl leads
          where
            on : to g e ≡ to g (out g node 0) → IsPlace (to g e)
            on same = placed (to g (out g node 0)) same (Within k exec of way last route ends)

            by-place : kind_at f node ≡ piece.Hold → (place : ℕ) → place < 2 → e ≡ out g node place → IsPlace (to g e)
            by-place hold zero few is = on (ap (to g) is)
            by-place hold (suc zero) few is = AtEnd (ap (to g) is ∙ ended p.names p.execs p.loops node well (node_below node leaves) hold)
            by-place hold (suc (suc more)) few is = absurd (omega (arith, few))

            by-kind : (kind : PieceKind) → kind_at f node ≡ kind → leads_on kind ≡ true → IsPlace (to g e)
            by-kind piece.Join is leads_here = on (only-out node piece.Join leaves is refl)
            by-kind piece.Hold is leads_here =
                let o = one-out g node e live.edge leaves in
                let count = counted p.names p.execs p.loops node well (node_below node leaves) ∙ ap (λ x. ways_out x (kind_in (slice_get p.execs (exec_at f node)))) is in
                by-place is o.place (omega (arith, o.exists, count)) o.is
            by-kind piece.Start is leads_here = absurd cc
            by-kind piece.Act is leads_here = absurd cc
            by-kind piece.Pass is leads_here = absurd cc
            by-kind piece.Branch is leads_here = absurd cc
            by-kind piece.End is leads_here = absurd cc

        -- the last piece of an executable leads to its successors
        out-of-last : (k : ℕ) (exec : Exec) → IsLiveExec k exec → (node : ℕ) → from g e ≡ node → IsLast f (entry p.execs) p.execs k exec.kind node → IsPlace (to g e)
        out-of-last k exec of node leaves last = ⊎_elim
            (λ (end : exec.kind ≡ End).
            let kind : kind_at f node ≡ piece.End = last.made.kind_is ∙ ap last_kind end in
            from-end (leaves ∙ (shape.end node (node_below node leaves)).0 kind))
            (λ (other : exec.kind ≡ End → ⊥).
            let begun = owner-begins p well.loops_nest k exec of.found exec.kind refl in
            let ways = last-ways exec.kind (kind_in (slice_get p.execs (owner p.execs k exec.kind))) other
            (λ single. ap (λ n. kind_in (slice_get p.execs n)) (single-owner p k exec.kind single) ∙ ap kind_in of.found)
            (λ tests. two-ways (kind_in (slice_get p.execs (owner p.execs k exec.kind))) (begun ∙ tests)) in
            let count = counted p.names p.execs p.loops node well (node_below node leaves)
            ∙ ap (λ x. ways_out x (kind_in (slice_get p.execs (exec_at f node)))) last.made.kind_is
            ∙ ap (λ n. ways_out (last_kind exec.kind) (kind_in (slice_get p.execs n))) last.made.exec_is ∙ ways in
            let way = taken k exec node e of.found live leaves last count in
            let i = way.place in
            let less : i < length (successors exec.kind) = way.exists in
            let s = slice_index (successors exec.kind) i in
            let ends : to g e ≡ entry p.execs s = ap (to g) way.is ∙ last.leads i less in
            placed (entry p.execs s) ends
            (at-entry s
            (reached-next p.execs well.successors told k exec i of.found less of.reached)
            (successor-exists p well.loops_nest k exec of.found well.successors i less)
            (goes_on k i exec of.found less way.meant of.entered of.holds) (here (entry p.execs s) ends)))
            (cases-end exec.kind)

        -- where control can be before the edge, it can be after it
        step : (node : ℕ) → from g e ≡ node → IsPlace node → IsPlace (to g e)
        step node leaves (AtStart is) = from-start (leaves ∙ is)
        step node leaves (AtEnd is) = from-end (leaves ∙ is)
        step node leaves (Within k exec of [] last route (ToLast ends)) = out-of-last k exec of last (leaves ∙ route) ends
        step node leaves (Within k exec of [] last route (ToAct acts middle test on ends)) =
            let same = only-out last piece.Act (leaves ∙ route) acts.kind_is refl in
            placed (to g (out g last 0)) same (Within k exec of middle test on (ToLast ends))
        step node leaves (Within k exec of (first ∷ way) last route ends) = on-way k exec of first way last (leaves ∙ route.0) route.1 route.2 ends

      -- ---- a walk that control can take

      along : (done : List ℕ) (u : ℕ) (walk : List ℕ) (v : ℕ) → Walk g 0 done u → Avoids (is_excluded p t) done → Walk g u walk v → Avoids (is_excluded p t) walk → IsPlace u → IsPlace v
      along done u [] v came avoided leads avoids place = subst IsPlace leads place
      along done u (e ∷ walk) v came avoided leads avoids place =
          let begins_at : from g e ≡ u = leads.1 in
          let live : IsLive p t e = record { edge = leads.0; reached = record { walk = done; leads = subst (Walk g 0 done) (sym begins_at) came; avoids = avoided }; kept = avoids.0 } in
          along (done ++ e ∷ []) (to g e) walk v (walk-snoc g 0 u e done came leads.0 begins_at) (avoids-snoc (is_excluded p t) done e avoided avoids.0) leads.2 avoids.1 (step e live u begins_at place)

      place-after : (e : ℕ) → IsLive p t e → IsPlace (to g e)
      place-after e live = step e live (from g e) refl (along [] 0 live.reached.walk (from g e) refl tt live.reached.leads live.reached.avoids (AtStart refl))

      -- ---- the piece that runs an executable

      own-place : (k : ℕ) (exec : Exec) (node : ℕ) → slice_get p.execs k ≡ Some exec → (exec.kind ≡ End → ⊥) → IsMade f p.execs node (first_kind exec.kind) k → IsPlace node → Q k
      own-place k exec node found other made (AtStart is) =
          absurd (first-starts exec.kind (sym made.kind_is ∙ ap (kind_at f) is ∙ (shape.start 0 (omega (arith, shape.end_exists))).1 refl))
      own-place k exec node found other made (AtEnd is) =
          absurd (first-ends exec.kind other (sym made.kind_is ∙ ap (kind_at f) is ∙ (shape.end (finish p.execs) shape.end_exists).1 refl))
      own-place k exec node found other made (Within j run of (first ∷ way) last route ends) =
          let no : true ≡ false = sym route.1 ∙ ap (λ n. leads_on (kind_at f n)) (sym route.0) ∙ ap leads_on made.kind_is ∙ first-idle exec.kind in
          absurd cc
      own-place k exec node found other made (Within j run of [] last route (ToAct acts middle test on ends)) =
          subst Q (sym acts.exec_is ∙ ap (exec_at f) (sym route) ∙ made.exec_is) of.holds
      own-place k exec node found other made (Within j run of [] last route (ToLast ends)) =
          let here : owner p.execs j run.kind ≡ k = sym ends.made.exec_is ∙ ap (exec_at f) (sym route) ∙ made.exec_is in
          ⊎_elim
          (λ (tests : has_test run.kind ≡ true).
          let begun : begins_do exec.kind ≡ true = ap begins_do (sym (ap kind_in found)) ∙ ap (λ n. begins_do (kind_in (slice_get p.execs n))) (sym here) ∙ owner-begins p well.loops_nest j run of.found run.kind refl ∙ tests in
          let no : piece.Branch ≡ piece.Act = sym (test-branches run.kind tests) ∙ sym ends.made.kind_is ∙ ap (kind_at f) (sym route) ∙ made.kind_is ∙ begins-acts exec.kind begun in
          absurd cc)
          (λ (single : has_test run.kind ≡ false). subst Q (sym (single-owner p j run.kind single) ∙ here) of.holds)
          (cases_Bool (has_test run.kind))

      -- it holds of each executable but END to which control can come
      pub each-live : (k : ℕ) (exec : Exec) → slice_get p.execs k ≡ Some exec → (exec.kind ≡ End → ⊥) → IsMade f p.execs (own_piece p k) (first_kind exec.kind) k → IsEntered p t k → Q k
      each-live k exec found other made by = own-place k exec (own_piece p k) found other made (subst IsPlace by.ends (place-after by.edge by.live))
