-- A pass that comes to a piece that is made to run an executable begins the step of that executable.
use Rattle.std.proofs.Common.{◌≡◌, ℕ, suc, ◌+◌, ◌<◌, ◌≤◌, ℤ, true, false, List, [], ◌∷◌, ◌++◌, length, Some, slice_get, slice_index, sym, ap, ◌∙◌, subst, ⊎_elim, arith}
use Rattle.std.proofs.Math.Seq.{get_or-append_seam}
use Rattle.std.proofs.lemmas.Bool.{cases_Bool, cases_lt, false≢true}
use Rattle.closed_walks.specs.Graph.{to}
use Rattle.f77_tree.specs.declared.programs.Exec.{Exec}
use Rattle.f77_tree.specs.declared.programs.ExecKind.{ExecKind}
use Rattle.f77_tree.specs.declared.programs.Program.{Program}
use Rattle.f77_tree.specs.Loops.{Loop, begun}
use Rattle.f77_tree.specs.Run.{State, Running, source}
use Rattle.f77_tree.specs.WellFormed.{AreExecs}
use Rattle.cfg_build.specs.Control.{is_reached}
use Rattle.cfg_build.specs.declared.pieces.PieceKind.{PieceKind}
use Rattle.cfg_build.specs.declared.pieces.PieceKind.TheVariants as piece
use Rattle.cfg_build.specs.Parts.{first_kind}
use Rattle.cfg_build.specs.Flow.{flow, piece_at}
use Rattle.cfg_build.specs.Passes.{out, passes}
use Rattle.cfg_build.specs.Chains.{entry, has_test, chain, passes_of}
use Rattle.cfg_build.specs.Routes.{leads_on, IsMade, last_kind, owner, IsTwoParts, AreChain}
use Rattle.cfg_build.specs.Steps.{own_place, own_node, ComesTo, IsWithinStep, LiesInStep, BeginsStep, IsAtOwnPiece}
use Rattle.cfg_build.proofs.ControlGraph.{exec_at}
use Rattle.cfg_build.proofs.ReachedNodes.{IsTold}
use Rattle.cfg_build.proofs.Lowest.{IsMet}
use Rattle.cfg_build.proofs.ChainsFound.{tested_by, chain_found}
use Rattle.cfg_build.proofs.ChainSteps.{two_last}
use Rattle.cfg_build.proofs.RunPasses.{LeadOn, IsInside}
use Rattle.cfg_build.proofs.OwnPieces.{first_runs, prefix_passes, route_leads, IsOwn, own_piece_of, none_past, IsPastAct, past_act}
use Rattle.cfg_build.proofs.PassesLie.{in_program, within_step, lies}

begun_acts : (kind : ExecKind) (loop : Loop) → begun kind ≡ Some loop → first_kind kind ≡ piece.Act
begun_acts h loop is = grind arith

not_branch : (kind : PieceKind) → kind ≡ piece.Act → kind ≡ piece.Branch → ⊥
not_branch kind act branch = cc

module _ (told : IsTold) (met : IsMet) (p : Program) (well : AreExecs p.names p.execs p.loops) where
  -- a piece that is made for the executable k, of the kind of its own piece
  record IsOwnFor (node : ℕ) (exec : Exec) (k : ℕ) : Type 0 where
    kind_is : (piece_at (flow p.execs).pieces node).kind ≡ first_kind exec.kind
    exec_is : (piece_at (flow p.execs).pieces node).exec ≡ k

  -- a piece that leads on runs nothing
  runs_none : (node : ℕ) (exec : Exec) (k : ℕ) → IsOwnFor node exec k → leads_on (piece_at (flow p.execs).pieces node).kind ≡ true → ⊥
  runs_none node exec k made leads = false≢true (sym (ap leads_on made.kind_is ∙ first_runs exec.kind) ∙ leads)

  module _ (j k : ℕ) (own exec : Exec) (reached : is_reached p.execs j ≡ true) (here : slice_get p.execs j ≡ Some own) (found : slice_get p.execs k ≡ Some exec) where
    -- the test of a DO is made for its DO, and isn't the first piece of that
    tests_none : has_test own.kind ≡ true → (node : ℕ) → IsMade (flow p.execs) p.execs node (last_kind own.kind) (owner p.execs j own.kind) → IsOwnFor node exec k → ⊥
    tests_none two node test made =
        grind (arith, tested_by told met p.names p.execs p.loops well j own.kind reached, not_branch (first_kind exec.kind), begun_acts exec.kind, two_last own.kind two)

    past_none : (i : ℕ) → own_place p.execs j < i → i < length (chain p.execs j) → IsOwnFor (slice_index (chain p.execs j) i) exec k → ⊥
    past_none i past exists made =
        let f = flow p.execs in
        let c : AreChain f (entry p.execs) p.execs j (has_test own.kind) own.kind (chain p.execs j) = (chain_found told met p.names p.execs p.loops well j own here reached).are in
        ⊎_elim
        (λ (two : has_test own.kind ≡ true).
        let parts : IsTwoParts f (entry p.execs) p.execs j own.kind (chain p.execs j) = subst (λ b. AreChain f (entry p.execs) p.execs j b own.kind (chain p.execs j)) two c in
        let q : IsPastAct f (chain p.execs j) parts.prefix parts.middle parts.test i = past_act f (entry p.execs) p.execs j own.kind (chain p.execs j) parts i past exists in
        let at : IsOwnFor (slice_index (parts.middle ++ parts.test ∷ []) q.place) exec k = subst (λ n. IsOwnFor n exec k) q.node made in
        ⊎_elim
        (λ (less : q.place < length parts.middle). runs_none (slice_index (parts.middle ++ parts.test ∷ []) q.place) exec k at (route_leads f parts.middle (to f.graph (out f.graph parts.act 0)) parts.test [] q.place parts.on less))
        (λ (last : length parts.middle ≤ q.place).
        let is : q.place ≡ length parts.middle = omega (arith, q.below, last) in
        let test : slice_index (parts.middle ++ parts.test ∷ []) q.place ≡ parts.test = ap (λ n. slice_index (parts.middle ++ parts.test ∷ []) n) is ∙ get_or-append_seam parts.middle parts.test [] 0 in
        tests_none two parts.test parts.ends.made (subst (λ n. IsOwnFor n exec k) test at))
        (cases_lt q.place (length parts.middle)))
        (λ (single : has_test own.kind ≡ false).
        none_past f (entry p.execs) p.execs j own.kind (chain p.execs j) (subst (λ b. AreChain f (entry p.execs) p.execs j b own.kind (chain p.execs j)) single c) i past exists)
        (cases_Bool (has_test own.kind))

    -- of a chain the own piece alone runs an executable, the one that the chain is for
    record IsOwnOf (i : ℕ) : Type 0 where
      place : i ≡ own_place p.execs j
      same : j ≡ k

    own_alone : (i : ℕ) → i < length (chain p.execs j) → IsOwnFor (slice_index (chain p.execs j) i) exec k → IsOwnOf i
    own_alone i exists made =
        let f = flow p.execs in
        let o : IsOwn f p.execs j own.kind (chain p.execs j) = own_piece_of f (entry p.execs) p.execs j own.kind (chain p.execs j) (chain_found told met p.names p.execs p.loops well j own here reached).are in
        ⊎_elim
        (λ (less : i < own_place p.execs j). absurd (runs_none (slice_index (chain p.execs j) i) exec k made (prefix_passes (λ node. leads_on (piece_at f.pieces node).kind) (chain p.execs j) i less)))
        (λ (le : own_place p.execs j ≤ i). ⊎_elim
        (λ (past : own_place p.execs j < i). absurd (past_none i past exists made))
        (λ (least : i ≤ own_place p.execs j).
        let is : i ≡ own_place p.execs j = omega (arith, le, least) in
        record { place = is; same = sym o.made.exec_is ∙ ap (λ n. (piece_at f.pieces (slice_index (chain p.execs j) n)).exec) (sym is) ∙ made.exec_is })
        (cases_lt (own_place p.execs j) i))
        (cases_lt i (own_place p.execs j))

  module _ (lead_on : LeadOn) (input : List ℤ) where
    comes_to : (passed : ℕ) → (passes p input passed).mark ≡ Running → (l : LiesInStep p input passed) → IsWithinStep p input l.step l.place → to (flow p.execs).graph (passes p input passed).edge ≡ slice_index (chain p.execs (source p input l.step).position) l.place
    comes_to passed runs l w =
        let x : State = source p input l.step in
        let node : ℕ = slice_index (chain p.execs x.position) l.place in
        let g = (flow p.execs).graph in
        ap (λ n. to g (passes p input n).edge) (sym l.count)
        ∙ ⊎_elim
        (λ (past : own_place p.execs x.position < l.place).
        let c : ComesTo g node (source p input (suc l.step)) (passes p input (passes_of p input l.step + l.place)) = w.past_own past in
        c.comes (sym c.mark_is ∙ ap (λ n. (passes p input n).mark) l.count ∙ runs))
        (λ (le : l.place ≤ own_place p.execs x.position).
        let c : ComesTo g node x (passes p input (passes_of p input l.step + l.place)) = w.up_to_own le in
        c.comes l.runs)
        (cases_lt (own_place p.execs x.position) l.place)

    pub begins_step : (k passed : ℕ) → IsAtOwnPiece p input k passed → BeginsStep p input k passed
    begins_step k passed is =
        let g = (flow p.execs).graph in
        let l : LiesInStep p input passed = lies told met lead_on p input well passed is.runs in
        let x : State = source p input l.step in
        let h : IsInside told lead_on p input well.successors well.end.some well.loops_nest x = in_program told met lead_on p input well l.step in
        let e = exec_at p.execs x.position h.below in
        let w : IsWithinStep p input l.step l.place = within_step told met lead_on p input well l.step l.place l.exists in
        let o : IsOwnOf x.position k e.0 is.exec h.reached e.1 is.found l.place =
        own_alone x.position k e.0 is.exec h.reached e.1 is.found l.place l.exists (subst (λ n. IsOwnFor n is.exec k) (comes_to passed is.runs l w) (record { kind_is = is.kind_is; exec_is = is.exec_is })) in
        let least : l.place ≤ own_place p.execs x.position = omega (arith, o.place) in
        let c : ComesTo g (slice_index (chain p.execs x.position) l.place) x (passes p input (passes_of p input l.step + l.place)) = w.up_to_own least in
        record {
          step = l.step;
          runs = l.runs;
          position_is = o.same;
          count = ap (λ n. passes_of p input l.step + own_place p.execs n) (sym o.same) ∙ ap (λ n. passes_of p input l.step + n) (sym o.place) ∙ l.count;
          comes =
              subst (λ n. ComesTo g n x (passes p input passed)) (ap (λ n. slice_index (chain p.execs x.position) n) o.place ∙ ap (λ n. own_node p.execs n) o.same)
              (subst (λ n. ComesTo g (slice_index (chain p.execs x.position) l.place) x (passes p input n)) l.count c);
        }
