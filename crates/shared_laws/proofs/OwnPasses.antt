-- The passes with which the steps of a run begin: which expressions they compute, and what is known of values there.
use Rattle.std.proofs.Common.{◌≡◌, ℕ, zero, suc, ◌+◌, ◌-◌, ◌<◌, ◌≤◌, ◌⊎◌, inl, inr, ⊎_elim, ℤ, true, List, [], length, filter, fold, not, Contains, Option, Some, option_to_list, Ok, refl, sym, ap, subst, ◌∙◌, arith}
use Rattle.std.specs.Prelude.{flat_map, slice_get, ◌&&◌, ◌==◌}
use Rattle.std.proofs.lemmas.Bool.{and_parts, cases_lt, eqb-true}
use Rattle.std.proofs.lemmas.List.Sums.{prefix_len-le-length}
use Rattle.std.proofs.lemmas.Option.{slice_get_past}
use Rattle.list_laws.specs.Member.{Member}
use Rattle.list_laws.proofs.Members.{at_of, Member-flat_map, Member-flat_mapped, Member-from_Contains, IsFromOne}
use Rattle.closed_walks.specs.Graph.{edge_count, IsGraph}
use Rattle.f77_tree.specs.declared.expressions.Expr.{Expr}
use Rattle.f77_tree.specs.declared.programs.Exec.{Exec}
use Rattle.f77_tree.specs.declared.programs.ExecKind.{ExecKind}
use Rattle.f77_tree.specs.declared.programs.ExecKind.TheVariants.{Assign, Print, Pass as Passing, Test, Sign, Pick, DoStart, DoNext, End as Ending}
use Rattle.f77_tree.specs.declared.programs.Program.{Program}
use Rattle.f77_tree.specs.Control.{successors}
use Rattle.f77_tree.specs.Execution.{Memory, outcome, value_in}
use Rattle.f77_tree.specs.Run.{Running, source}
use Rattle.f77_tree.specs.Steps.{IfGoes}
use Rattle.f77_tree.specs.WellFormed.{AreExecs}
use Rattle.f77_tree.proofs.Outcomes.{map-goes}
use Rattle.f77_tree.proofs.RunInvariants.{source-keeps}
use Rattle.cfg_build.specs.declared.pieces.Piece.{Piece}
use Rattle.cfg_build.specs.declared.pieces.PieceKind.{PieceKind}
use Rattle.cfg_build.specs.declared.pieces.PieceKind.TheVariants.{Start, Join, Act, Pass, Branch, Hold, End}
use Rattle.cfg_build.specs.Chains.{chain, passes_of}
use Rattle.cfg_build.specs.Control.{is_reached, IsReachedExec}
use Rattle.cfg_build.specs.Flow.{flow, piece_at, piece_in}
use Rattle.cfg_build.specs.Parts.{first_kind}
use Rattle.cfg_build.specs.Passes.{kind_in, passes}
use Rattle.cfg_build.specs.Runs.{is_act, is_branch, IsPartOf}
use Rattle.cfg_build.specs.Routes.{leads_on}
use Rattle.cfg_build.specs.Shape.{kind_at}
use Rattle.cfg_build.specs.Steps.{chain_after, own_node, own_place, BeginsStep, ComesTo, HasOwnPiece, IsAtOwnPiece, IsWithinStep}
use Rattle.alias_classes.specs.Classes.{ClassTable}
use Rattle.redundancy.specs.Available.{Availability, IsAvailability, IsAvailable}
use Rattle.redundancy.specs.Candidates.{subexpressions}
use Rattle.redundancy.specs.Computed.{computed_by, evaluated, expressions, kind_of_piece, selectors, Computes}
use Rattle.redundancy.specs.Runs.{comes_to, KeepsValue}
use Rattle.redundancy.proofs.PassValues.{running_below}
use Rattle.simplified_forms.specs.Items.{is_piece_of, own_piece}
use Rattle.shared_forms.specs.Numbered.{added, number_of}
use Rattle.shared_forms.specs.Shared.{computed, due, is_available, is_shared}
use Rattle.simplified_laws.proofs.ControlWays.{reached-first, reached-next, ReachingIsTold}
use Rattle.shared_laws.proofs.ListPlaces.{first-found}
use Rattle.simplified_laws.proofs.OnePiece.{own-node}

-- ---- what a piece evaluates

evaluated-own : (kind : ExecKind) → evaluated (first_kind kind) kind ≡ expressions kind
evaluated-own (Assign target value next) = refl
evaluated-own (Print items next) = refl
evaluated-own (Passing next) = refl
evaluated-own (Test cond if_true if_false) = refl
evaluated-own (Sign value below at above) = refl
evaluated-own (Pick value targets other) = refl
evaluated-own (DoStart loop_no var first last step body exit) = refl
evaluated-own (DoNext loop_no var body exit) = refl
evaluated-own Ending = refl

selected-none : (kind : ExecKind) → expressions kind ≡ [] → selectors kind ≡ []
selected-none (Assign target value next) none = none
selected-none (Print items next) none = none
selected-none (Passing next) none = none
selected-none (Test cond if_true if_false) none = none
selected-none (Sign value below at above) none = none
selected-none (Pick value targets other) none = none
selected-none (DoStart loop_no var first last step body exit) none = refl
selected-none (DoNext loop_no var body exit) none = none
selected-none Ending none = none

evaluated-none : (piece : PieceKind) (kind : ExecKind) → expressions kind ≡ [] → evaluated piece kind ≡ []
evaluated-none Act kind none = none
evaluated-none Branch kind none = selected-none kind none
evaluated-none Start kind none = refl
evaluated-none Join kind none = refl
evaluated-none Pass kind none = refl
evaluated-none Hold kind none = refl
evaluated-none End kind none = refl

-- the pieces that evaluate something
evaluator : (piece : PieceKind) (kind : ExecKind) (e : Expr) → Member (evaluated piece kind) e → (piece ≡ Act) ⊎ ((piece ≡ Branch) × Member (selectors kind) e)
evaluator Act kind e m = inl refl
evaluator Branch kind e m = inr (refl, m)
evaluator Start kind e m = absurd m
evaluator Join kind e m = absurd m
evaluator Pass kind e m = absurd m
evaluator Hold kind e m = absurd m
evaluator End kind e m = absurd m

act-first : (kind : ExecKind) → is_act kind ≡ true → first_kind kind ≡ Act
act-first (Assign target value next) is = refl
act-first (Print items next) is = refl
act-first (Passing next) is = absurd cc
act-first (Test cond if_true if_false) is = absurd cc
act-first (Sign value below at above) is = absurd cc
act-first (Pick value targets other) is = absurd cc
act-first (DoStart loop_no var first last step body exit) is = refl
act-first (DoNext loop_no var body exit) is = refl
act-first Ending is = absurd cc

branch-first : (kind : ExecKind) (e : Expr) → is_branch kind ≡ true → Member (selectors kind) e → first_kind kind ≡ Branch
branch-first (Assign target value next) e is m = absurd cc
branch-first (Print items next) e is m = absurd cc
branch-first (Passing next) e is m = absurd cc
branch-first (Test cond if_true if_false) e is m = refl
branch-first (Sign value below at above) e is m = refl
branch-first (Pick value targets other) e is m = refl
branch-first (DoStart loop_no var first last step body exit) e is m = absurd m
branch-first (DoNext loop_no var body exit) e is m = absurd cc
branch-first Ending e is m = absurd cc

-- ---- executables that compute nothing

module _ (q : Program) (a : Availability) (k : ℕ) (exec : Exec) (found : slice_get q.execs k ≡ Some exec) (none : expressions exec.kind ≡ []) where
  computes-none : computed_by q.execs (piece_at (flow q.execs).pieces (own_piece q k)) ≡ []
  computes-none =
      ⊎_elim
      (λ (less : own_piece q k < length (flow q.execs).pieces).
      let r = first-found (is_piece_of q k) (flow q.execs).pieces less in
      let piece : Piece = r.item in
      let same : piece.exec ≡ k = eqb-true piece.exec k (and_parts (piece.exec == k) _ r.passes).0 in
      let kind : kind_of_piece q.execs piece ≡ exec.kind = ap (λ n. kind_in (slice_get q.execs n)) same ∙ ap kind_in found in
      ap (λ (o : Option Piece). computed_by q.execs (piece_in o)) r.is
      ∙ ap (λ (x : ExecKind). flat_map subexpressions (evaluated piece.kind x)) kind
      ∙ ap (flat_map subexpressions) (evaluated-none piece.kind exec.kind none))
      (λ (past : length (flow q.execs).pieces ≤ own_piece q k). ap (λ (o : Option Piece). computed_by q.execs (piece_in o)) (slice_get_past (flow q.execs).pieces (own_piece q k) past))
      (cases_lt (own_piece q k) (length (flow q.execs).pieces))

  pub computed-none : computed q a (number_of a) k ≡ []
  computed-none = ap (flat_map (λ e. option_to_list (number_of a e))) computes-none

  pub due-nothing : due q a (number_of a) k ≡ []
  due-nothing = ap (λ (ns : List ℕ). fold added [] (filter (λ n. is_shared q a (number_of a) n && not (is_available q a (number_of a) k n)) ns)) computed-none

-- ---- runs

-- what is told of the pieces of a program, and of its runs
pub record PieceLaws (q : Program) (input : List ℤ) : Type 0 where
  pub reaching : ReachingIsTold
  pub leads : (m : Memory) (kind : ExecKind) → IfGoes (outcome q.names input m kind) (λ next new text. Contains (successors kind) next)
  pub pieces : (k : ℕ) (exec : Exec) → IsReachedExec q.names q.execs q.loops k exec → HasOwnPiece q.execs k exec.kind
  pub within : (n i : ℕ) → i < length (chain_after q input n) → IsWithinStep q input n i
  pub own : (k passed : ℕ) → IsAtOwnPiece q input k passed → BeginsStep q input k passed
  pub acts : (node : ℕ) → node < (flow q.execs).graph.nodes → kind_at (flow q.execs) node ≡ Act → IsPartOf (flow q.execs) q.execs node is_act
  pub branches : (node : ℕ) → node < (flow q.execs).graph.nodes → kind_at (flow q.execs) node ≡ Branch → IsPartOf (flow q.execs) q.execs node is_branch
  pub graph : IsGraph (flow q.execs).graph
  pub edges : (n : ℕ) → (passes q input n).edge < edge_count (flow q.execs).graph

module _ (q : Program) (input : List ℤ) (well : AreExecs q.names q.execs q.loops) (laws : PieceLaws q input) where
  -- ---- control comes to what runs

  keeps-reached : (k : ℕ) (exec : Exec) (m : Memory) → slice_get q.execs k ≡ Some exec → is_reached q.execs k ≡ true → IfGoes (outcome q.names input m exec.kind) (λ next new text. is_reached q.execs next ≡ true)
  keeps-reached k exec m found reached =
      map-goes (outcome q.names input m exec.kind) (λ next new text. Contains (successors exec.kind) next) (λ next new text. is_reached q.execs next ≡ true)
      (λ next new text among.
      let r = at_of (successors exec.kind) next (Member-from_Contains (successors exec.kind) next among) in
      subst (λ n. is_reached q.execs n ≡ true) (r.is 0) (reached-next q.execs well.successors laws.reaching k exec r.place found r.exists reached))
      (laws.leads m exec.kind)

  pub run-reached : (t : ℕ) → is_reached q.execs (source q input t).position ≡ true
  run-reached t = source-keeps q input (λ k m. is_reached q.execs k ≡ true) keeps-reached (reached-first q.execs well.successors laws.reaching well.end.some) t

  -- ---- the pass with which a step begins

  abbrev pub own_pass : (t : ℕ) → ℕ
  own_pass t = passes_of q input t + own_place q.execs (source q input t).position

  own-most : (execs : List Exec) (k : ℕ) → own_place execs k ≤ length (chain execs k)
  own-most execs k = prefix_len-le-length (λ node. leads_on (piece_at (flow execs).pieces node).kind) (chain execs k)

  own_pass-next : (t : ℕ) → own_pass t ≤ own_pass (suc t)
  own_pass-next t = let most = own-most q.execs (source q input t).position in let next : passes_of q input (suc t) ≡ passes_of q input t + length (chain q.execs (source q input t).position) = refl in omega (arith, most, next)

  own_pass-up : (t d : ℕ) → own_pass t ≤ own_pass (t + d)
  own_pass-up t zero = let e : t + 0 ≡ t = omega arith in let same = ap own_pass e in omega (arith, same)
  own_pass-up t (suc d) = let e : t + suc d ≡ suc (t + d) = omega arith in let same = ap own_pass e in let next = own_pass-next (t + d) in let rest = own_pass-up t d in omega (arith, same, next, rest)

  pub own_pass-rises : (t u : ℕ) → t ≤ u → own_pass t ≤ own_pass u
  own_pass-rises t u le = let e : t + (u - t) ≡ u = omega (arith, le) in let same = ap own_pass e in let up = own_pass-up t (u - t) in omega (arith, same, up)

  reached-exec : (t : ℕ) (exec : Exec) → slice_get q.execs (source q input t).position ≡ Some exec → IsReachedExec q.names q.execs q.loops (source q input t).position exec
  reached-exec t exec found = record { well = well; reached = run-reached t; found = found }

  comes : (t : ℕ) (exec : Exec) → slice_get q.execs (source q input t).position ≡ Some exec → ComesTo (flow q.execs).graph (own_node q.execs (source q input t).position) (source q input t) (passes q input (own_pass t))
  comes t exec found = let own = laws.pieces (source q input t).position exec (reached-exec t exec found) in (laws.within t (own_place q.execs (source q input t).position) own.exists).up_to_own (omega arith)

  piece-own : (t : ℕ) (exec : Exec) → slice_get q.execs (source q input t).position ≡ Some exec → own_piece q (source q input t).position ≡ own_node q.execs (source q input t).position
  piece-own t exec found = own-node q (source q input t).position exec well.end found (laws.pieces (source q input t).position exec (reached-exec t exec found))

  pub comes-to : (t : ℕ) (exec : Exec) → slice_get q.execs (source q input t).position ≡ Some exec → (source q input t).mark ≡ Running → comes_to q input (own_pass t) ≡ own_piece q (source q input t).position
  comes-to t exec found runs = (comes t exec found).comes runs ∙ sym (piece-own t exec found)

  pub pass-memory : (t : ℕ) (exec : Exec) → slice_get q.execs (source q input t).position ≡ Some exec → (passes q input (own_pass t)).memory ≡ (source q input t).memory
  pass-memory t exec found = (comes t exec found).memory_is

  pub pass-runs : (t : ℕ) (exec : Exec) → slice_get q.execs (source q input t).position ≡ Some exec → (source q input t).mark ≡ Running → (passes q input (own_pass t)).mark ≡ Running
  pass-runs t exec found runs = (comes t exec found).mark_is ∙ runs

  -- what its own piece computes
  pub own-computes : (t : ℕ) (exec : Exec) → slice_get q.execs (source q input t).position ≡ Some exec → computed_by q.execs (piece_at (flow q.execs).pieces (own_piece q (source q input t).position)) ≡ flat_map subexpressions (expressions exec.kind)
  own-computes t exec found =
      let k = (source q input t).position in
      let made = (laws.pieces k exec (reached-exec t exec found)).made in
      let piece = piece_at (flow q.execs).pieces (own_node q.execs k) in
      let kind : kind_of_piece q.execs piece ≡ exec.kind = ap (λ n. kind_in (slice_get q.execs n)) made.exec_is ∙ ap kind_in found in
      ap (λ n. computed_by q.execs (piece_at (flow q.execs).pieces n)) (piece-own t exec found)
      ∙ ap (λ (x : ExecKind). flat_map subexpressions (evaluated piece.kind x)) kind
      ∙ ap (λ (p : PieceKind). flat_map subexpressions (evaluated p exec.kind)) made.kind_is
      ∙ ap (flat_map subexpressions) (evaluated-own exec.kind)

  -- ---- passes that compute

  -- such a pass is that with which some step begins
  pub record BeginsSome (passed : ℕ) : Type 0 where
    pub step : ℕ
    pub is : own_pass step ≡ passed

  at-own : (passed : ℕ) (e : Expr) → (passes q input passed).mark ≡ Running → Computes q (flow q.execs) e (comes_to q input passed) → IsAtOwnPiece q input (piece_at (flow q.execs).pieces (comes_to q input passed)).exec passed
  at-own passed e runs computes =
      let node = comes_to q input passed in
      let piece = piece_at (flow q.execs).pieces node in
      let less = laws.graph.ends (passes q input passed).edge (laws.edges passed) in
      let r : IsFromOne subexpressions (evaluated piece.kind (kind_of_piece q.execs piece)) e = Member-flat_mapped subexpressions (evaluated piece.kind (kind_of_piece q.execs piece)) e (Member-from_Contains (computed_by q.execs piece) e computes.stands) in
      ⊎_elim
      (λ (act : piece.kind ≡ Act).
      let part = laws.acts node less act in
      record { runs = runs; exec = part.exec; found = part.found; kind_is = act ∙ sym (act-first part.exec.kind part.fitting); exec_is = refl })
      (λ h.
      let part = laws.branches node less h.0 in
      let same : kind_of_piece q.execs piece ≡ part.exec.kind = ap kind_in part.found in
      record { runs = runs; exec = part.exec; found = part.found; kind_is = h.0 ∙ sym (branch-first part.exec.kind r.origin part.fitting (subst (λ (x : ExecKind). Member (selectors x) r.origin) same h.1)); exec_is = refl })
      (evaluator piece.kind (kind_of_piece q.execs piece) r.origin r.among)

  begins-some : (passed : ℕ) (e : Expr) → (passes q input passed).mark ≡ Running → Computes q (flow q.execs) e (comes_to q input passed) → BeginsSome passed
  begins-some passed e runs computes =
      let b = laws.own (piece_at (flow q.execs).pieces (comes_to q input passed)).exec passed (at-own passed e runs computes) in
      record { step = b.step; is = ap (λ n. passes_of q input b.step + own_place q.execs n) b.position_is ∙ b.count }

  -- no pass before the first step's computes
  pub none-before : (exec : Exec) (e : Expr) → slice_get q.execs (source q input 0).position ≡ Some exec → KeepsValue q input (own_pass 0) e → ⊥
  none-before exec e found kept =
      let runs = running_below q input (own_pass 0) kept.pass (let less = kept.earlier in omega (arith, less)) (pass-runs 0 exec found refl) in
      let b = begins-some kept.pass e runs kept.computes in
      let up = own_pass-rises 0 b.step (omega arith) in
      let is = b.is in
      let less = kept.earlier in
      omega (arith, up, is, less)

  -- what has its value at the next step has it from this step on, or was computed with it
  pub at-most : (t : ℕ) (exec : Exec) (e : Expr) → slice_get q.execs (source q input (suc t)).position ≡ Some exec → (source q input (suc t)).mark ≡ Running → (kept : KeepsValue q input (own_pass (suc t)) e) → kept.pass ≤ own_pass t
  at-most t exec e found runs kept =
      let going = running_below q input (own_pass (suc t)) kept.pass (let less = kept.earlier in omega (arith, less)) (pass-runs (suc t) exec found runs) in
      let b = begins-some kept.pass e going kept.computes in
      let is = b.is in
      let less = kept.earlier in
      ⊎_elim
      (λ (early : b.step < suc t). let up = own_pass-rises b.step t (omega (arith, early)) in omega (arith, up, is))
      (λ (late : suc t ≤ b.step). let up = own_pass-rises (suc t) b.step late in absurd (omega (arith, up, is, less)))
      (cases_lt b.step (suc t))

  -- the value at this step
  pub value-here : (t n : ℕ) (exec : Exec) (e : Expr) → slice_get q.execs (source q input t).position ≡ Some exec → (kept : KeepsValue q input n e) → kept.pass ≤ own_pass t → own_pass t ≤ n → value_in q.names (source q input t).memory e ≡ Ok kept.value
  value-here t n exec e found kept low high = ap (λ (m : Memory). value_in q.names m e) (sym (pass-memory t exec found)) ∙ kept.stays (own_pass t) low high

  abbrev pub kept-here : (t n : ℕ) (e : Expr) (kept : KeepsValue q input n e) → kept.pass < own_pass t → own_pass t ≤ n → KeepsValue q input (own_pass t) e
  kept-here t n e kept low high = record { pass = kept.pass; earlier = low; computes = kept.computes; value = kept.value; stays = λ k after before. kept.stays k after (omega (arith, before, high)) }

  module _ (a : Availability) where
    number-member : (e : Expr) (n : ℕ) → number_of a e ≡ Some n → Member (option_to_list (number_of a e)) n
    number-member e n told = subst (λ (o : Option ℕ). Member (option_to_list o) n) (sym told) (inl refl)

    pub among-computed : (k n : ℕ) (e : Expr) → Member (computed_by q.execs (piece_at (flow q.execs).pieces (own_piece q k))) e → number_of a e ≡ Some n → Member (computed q a (number_of a) k) n
    among-computed k n e among told = Member-flat_map (λ x. option_to_list (number_of a x)) (computed_by q.execs (piece_at (flow q.execs).pieces (own_piece q k))) e n among (number-member e n told)

    -- an expression that is computed with the pass of a step
    pub computed-here : (t n passed : ℕ) (exec : Exec) (e : Expr) → slice_get q.execs (source q input t).position ≡ Some exec → (source q input t).mark ≡ Running → Computes q (flow q.execs) e (comes_to q input passed) → passed ≡ own_pass t → number_of a e ≡ Some n → Member (computed q a (number_of a) (source q input t).position) n
    computed-here t n passed exec e found runs computes same told =
        let node : comes_to q input passed ≡ own_piece q (source q input t).position = ap (comes_to q input) same ∙ comes-to t exec found runs in
        among-computed (source q input t).position n e
        (subst (λ i. Member (computed_by q.execs (piece_at (flow q.execs).pieces i)) e) node (Member-from_Contains (computed_by q.execs (piece_at (flow q.execs).pieces (comes_to q input passed))) e computes.stands))
        told

    -- an available expression has had its value since an earlier pass
    pub available-here : (c : ClassTable) (t n : ℕ) (exec : Exec) (e : Expr) → IsAvailability q (flow q.execs) c a → ((passed : ℕ) → (passes q input passed).mark ≡ Running → IsAvailable q (flow q.execs) c e (comes_to q input passed) → KeepsValue q input passed e) → slice_get q.execs (source q input t).position ≡ Some exec → (source q input t).mark ≡ Running → slice_get a.candidates n ≡ Some e → is_available q a (number_of a) (source q input t).position n ≡ true → KeepsValue q input (own_pass t) e
    available-here c t n exec e is keeps found runs at available =
        let node = comes-to t exec found runs in
        let less = laws.graph.ends (passes q input (own_pass t)).edge (laws.edges (own_pass t)) in
        let less' : own_piece q (source q input t).position < (flow q.execs).graph.nodes = subst (λ i. i < (flow q.execs).graph.nodes) node less in
        keeps (own_pass t) (pass-runs t exec found runs) (subst (λ i. IsAvailable q (flow q.execs) c e i) (sym node) ((is.available n (own_piece q (source q input t).position) e at less').0 available))
