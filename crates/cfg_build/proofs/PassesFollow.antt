-- A run of passes through the flow graph follows the run of the program.
use Rattle.std.proofs.Common.{◌≡◌, ℕ, zero, suc, ◌+◌, ℤ, true, false, cond, nat_lt, ◌&&◌, List, length, Some, slice_get, refl, sym, ap, ◌∙◌, subst, arith}
use Rattle.std.proofs.lemmas.Bool.{cond-false}
use Rattle.closed_walks.specs.Graph.{to}
use Rattle.f77_tree.specs.declared.programs.Exec.{Exec}
use Rattle.f77_tree.specs.declared.programs.NameInfo.{NameInfo}
use Rattle.f77_tree.specs.declared.programs.Program.{Program}
use Rattle.f77_tree.specs.Run.{Mark, source}
use Rattle.f77_tree.specs.WellFormed.{AreExecs}
use Rattle.cfg_build.specs.Control.{is_reached}
use Rattle.cfg_build.specs.Routes.{AreChain}
use Rattle.cfg_build.specs.Parts.{parts, start_part}
use Rattle.cfg_build.specs.Joined.{FlowGraph, is_joined, is_end}
use Rattle.cfg_build.specs.Flow.{flow}
use Rattle.cfg_build.specs.Passes.{out, PassState, passed_from, passes}
use Rattle.cfg_build.specs.Chains.{has_test, entry, chain, passes_of, StandsAt}
use Rattle.cfg_build.proofs.ReachedNodes.{IsTold}
use Rattle.cfg_build.proofs.Lowest.{IsMet}
use Rattle.cfg_build.proofs.PieceNumbers.{first_piece, own_piece, joins}
use Rattle.cfg_build.proofs.JoinedDegrees.{no_way_to_start}
use Rattle.cfg_build.proofs.Fans.{places_before}
use Rattle.cfg_build.proofs.JoinedGraph.{heads_in}
use Rattle.cfg_build.proofs.PassSteps.{passed_in, go}
use Rattle.cfg_build.proofs.ChainSteps.{Agrees}
use Rattle.cfg_build.proofs.RunPasses.{LeadOn, passes_in, all_agree}
use Rattle.cfg_build.proofs.LastPieces.{IsPlaced, own_leads, own_out}
use Rattle.cfg_build.proofs.ChainsFound.{chain_found}
use Rattle.std.proofs.lemmas.Grind.{elements}

module _ (p : Program) (input : List ℤ) where
  same_pass : (x : PassState) (mark : Mark) → passed_in (flow p.execs) p input x mark ≡ passed_from p input x mark
  same_pass x h = grind arith

  pub same_run : (n : ℕ) → go (flow p.execs) p input n (passes p input 0) ≡ passes p input n
  same_run zero = refl
  same_run (suc n) = grind (arith, passed_in (flow p.execs) p input, same_run n, same_pass (passes p input n) (passes p input n).mark)

module _ (told : IsTold) (met : IsMet) (names : List NameInfo) (execs : List Exec) (loops : ℕ) (well : AreExecs names execs loops) where
  start_single : is_joined (parts execs) start_part ≡ false
  start_single = ap (λ n. nat_lt 1 n && cond (is_end start_part.piece.kind) false true) (no_way_to_start execs)

  start_at_zero : own_piece (parts execs) 0 ≡ 0
  start_at_zero = grind (arith, elements, joins, cond-false, start_single, first_piece)

  -- edge 1 leads to the first executable
  pub first_entered : to (flow execs).graph 1 ≡ entry execs 0
  first_entered =
      let a : IsPlaced told met names execs loops well start_part = record { place = 0; exists = omega arith; is = refl } in
      let first : suc (places_before (heads_in (parts execs)) 0) + 0 ≡ 1 = omega arith in
      let at : out (flow execs).graph (own_piece (parts execs) 0) 0 ≡ 1 =
      own_out told met names execs loops well start_part a 0 (omega arith)
      ∙ ap (λ x. suc (places_before (heads_in (parts execs)) x) + 0) start_at_zero ∙ first in
      ap (λ e. to (flow execs).graph e) (sym at) ∙ own_leads told met names execs loops well start_part a 0 (omega arith)

module _ (told : IsTold) (met : IsMet) (lead_on : LeadOn) (p : Program) (input : List ℤ) (well : AreExecs p.names p.execs p.loops) where
  chains : (k : ℕ) (exec : Exec) → is_reached p.execs k ≡ true → slice_get p.execs k ≡ Some exec → AreChain (flow p.execs) (entry p.execs) p.execs k (has_test exec.kind) exec.kind (chain p.execs k)
  chains k exec reached found = (chain_found told met p.names p.execs p.loops well k exec found reached).are

  same_count : (n : ℕ) → passes_in told lead_on p input well.successors well.end.some well.loops_nest (flow p.execs) (entry p.execs) (chain p.execs) chains n ≡ passes_of p input n
  same_count zero = refl
  same_count (suc n) = ap (λ m. m + length (chain p.execs (source p input n).position)) (same_count n)

  pub passes_follow : (n : ℕ) → StandsAt p (source p input n) (passes p input (passes_of p input n))
  passes_follow n =
      let f : FlowGraph = flow p.execs in
      let first : Agrees f (entry p.execs) p input (passes p input 0) (source p input 0) =
      record { memory_is = refl; out_is = refl; mark_is = refl; enters = λ h. first_entered told met p.names p.execs p.loops well } in
      let r : Agrees f (entry p.execs) p input (go f p input (passes_in told lead_on p input well.successors well.end.some well.loops_nest f (entry p.execs) (chain p.execs) chains n) (passes p input 0)) (source p input n) =
      all_agree told lead_on p input well.successors well.end.some well.loops_nest f (entry p.execs) (chain p.execs) chains (passes p input 0) first n in
      let s : Agrees f (entry p.execs) p input (passes p input (passes_of p input n)) (source p input n) =
      subst (λ (y : PassState). Agrees f (entry p.execs) p input y (source p input n)) (ap (λ m. go f p input m (passes p input 0)) (same_count n) ∙ same_run p input (passes_of p input n)) r in
      record { memory_is = s.memory_is; out_is = s.out_is; mark_is = s.mark_is; enters = s.enters }
