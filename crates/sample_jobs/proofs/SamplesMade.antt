-- What is due of a sample, by what was found of its program.
use Rattle.std.proofs.Common.{◌≡◌, ℕ, false, [], ◌++◌, inl, inr, Option, Some, refl, sym, ap, ◌∙◌}
use Rattle.f77_tree.specs.declared.programs.Program.{Program}
use Rattle.cfg_build.specs.Flow.{flow}
use Rattle.cfg_build.specs.Joined.{FlowGraph}
use Rattle.firing.specs.Play.{moment}
use Rattle.flow_analysis.specs.declared.parts.Analysis.{Analysis}
use Rattle.flow_analysis.specs.Analysis.{IsRangeAnalysisOf}
use Rattle.op_board.specs.OperationCourse.{operation_course}
use Rattle.op_board.specs.OperationNets.{OperationNet}
use Rattle.op_board.specs.OperationTokens.{operation_moves}
use Rattle.shared_forms.specs.declared.ends.RewriteEnd.{RewriteEnd}
use Rattle.rewriting.specs.Rewritten.{IsRewritten}
use Rattle.job_terms.specs.declared.task.Told.TheVariants.{Output}
use Rattle.job_terms.specs.Due.{Due}
use Rattle.form_jobs.specs.DueForms.{IsDueByEnd}
use Rattle.sample_jobs.specs.DueSamples.{IsDueSample, IsSampleDue, after_text, first_line, sample_line, up_to}
use Rattle.program_nets.specs.Game.{IsGameOn, IsNetOn, Marking, Place, game_of, operation_game}
use Rattle.program_nets.specs.Playing.{way_by}
use Rattle.graph_texts.specs.GraphText.{graph_text, size_line}
use Rattle.graph_jobs.specs.Regions.{regions_text}
use Rattle.sample_jobs.specs.Samples.{AreBothOf, IsAfter, sizes_text}
use Rattle.sample_jobs.proofs.FirstLines.{first_of_graph, first_of_regions}
use Rattle.form_jobs.proofs.FormsTold.{IsEndOf, limit_due}
use Rattle.game_jobs.proofs.GameTold.{output_told, played_on}

module _ (n bytes limit : ℕ) (p : Program) where
  -- what is told of the net and the run of a program is due of its sample
  pub sample_due : (found : Analysis) (x : OperationNet) (marking : Marking) (control : Option Place) (form : Program)
      → IsRangeAnalysisOf p found
      → IsNetOn p [] x
      → marking ≡ (game_of x).start
      → control ≡ Some (game_of x).control
      → IsRewritten p false form
      → (due : Due)
      → IsAfter (sizes_text n bytes found.flow found.edge_classes.items found.tree x) (AreBothOf (way_by (operation_moves x) (operation_course x) []) (moment marking control) limit form) due
      → IsSampleDue n bytes limit p due
  sample_due found x marking control form analysis own begun placed rewritten due after =
      let head = sizes_text n bytes found.flow found.edge_classes.items found.tree x in
      let both = after.told in
      let w = way_by (operation_moves x) (operation_course x) [] in
      let is : IsGameOn operation_game p [] (game_of x) = record { net = x; own = own; is = refl } in
      let numbers = found.edge_classes.items in
      let tree_text = regions_text (flow p.execs) numbers found.tree in
      let net_text = graph_text p own.parts.classes x in
      record {
        sizes = head;
        tells_sizes = record {
          regions = tree_text;
          tells_regions = record { classes = numbers; numbering = analysis.edge_classes; tree = found.tree; regions = analysis.tree; is = refl };
          graph = net_text;
          tells_graph = record { net = x; own = own; is = refl };
          is =
              ap (λ (f : FlowGraph). sizes_text n bytes f numbers found.tree x) analysis.own_flow
              ∙ ap (λ line. sample_line n bytes ++ line ++ size_line x) (sym (first_of_regions (flow p.execs) numbers found.tree))
              ∙ ap (λ line. sample_line n bytes ++ first_line tree_text ++ line) (sym (first_of_graph p own.parts.classes x));
        };
        fired = both.game;
        is_fired = played_on operation_game Output (up_to limit) p (game_of x) marking control [] is begun placed refl both.game (output_told operation_game Output refl p w (moment marking control) limit both.game both.played);
        ran = both.run;
        is_ran = record { form = form; rewritten = rewritten; ran = both.ran };
        is = after.is ∙ ap (after_text head) both.is;
      }

  pub program_due : (due : Due) → IsSampleDue n bytes limit p due → IsDueSample n bytes limit p due
  program_due due is = inl is

  pub end_due : (end : RewriteEnd) → IsEndOf p false end → (due : Due) → IsDueByEnd end due → IsDueSample n bytes limit p due
  end_due end is due told = inr (limit_due p false end is due told)
