-- What the text of a program's net means: the net is the same over whatever data.
use Rattle.std.proofs.Common.{◌≡◌, ℕ, ℤ, Bool, List, [], sym, ap, subst, ◌∙◌}
use Rattle.closed_walks.specs.Region.{IsFlowGraph}
use Rattle.f77_tree.specs.declared.programs.Program.{Program}
use Rattle.alias_classes.specs.Classes.{ClassTable}
use Rattle.cfg_build.specs.Flow.{flow}
use Rattle.net_board.specs.Nodes.{NetOf}
use Rattle.op_board.specs.OperationNets.{OperationNet}
use Rattle.job_terms.specs.Tasks.{Graph}
use Rattle.job_terms.specs.Due.{Due, done}
use Rattle.dfc_jobs.specs.Due.{IsDueOn}
use Rattle.graph_jobs.specs.DueGraphs.{TellsGraph}
use Rattle.program_nets.specs.Game.{IsNetOn}
use Rattle.graph_texts.specs.GraphText.{graph_text}
use Rattle.job_laws.specs.Headline.{MeansGraph, MeansOn}
use Rattle.job_laws.specs.SourceRuns.{run_of}
use Rattle.job_laws.proofs.OneNet.{OneOfEach, one_net}
use Rattle.graph_jobs.proofs.GraphMade.{made, over_none, same_text}

module _ (each : OneOfEach) (p : Program) (strong : IsFlowGraph (flow p.execs).graph) where
  -- the text tells the net over whatever data
  fired : (text : List ℕ) → TellsGraph p text → (words : List ℤ) (net : OperationNet) (own : IsNetOn p words net) → text ≡ graph_text p own.parts.classes net
  fired text tells words net own =
      let touches = net.net.touches in
      let routing = net.net.routing in
      let here : IsNetOn p words (made p words touches routing net.needs) = subst (λ (n : NetOf). IsNetOn p words (record { net = n; needs = net.needs })) own.is own in
      let nets : tells.net ≡ made p [] touches routing net.needs = one_net each p strong [] tells.net (made p [] touches routing net.needs) tells.own (over_none p touches routing net.needs words here) in
      let classes : tells.own.parts.classes ≡ own.parts.classes = each.classes p tells.own.parts.classes own.parts.classes tells.own.parts.own_classes own.parts.own_classes in
      tells.is
      ∙ ap (λ (c : ClassTable). graph_text p c tells.net) classes
      ∙ ap (graph_text p own.parts.classes) nets
      ∙ same_text p touches routing net.needs words own.parts.classes
      ∙ ap (λ (n : NetOf). graph_text p own.parts.classes (record { net = n; needs = net.needs })) (sym own.is)

  one : (checked : Bool) (a b : Due) → IsDueOn Graph checked p a → IsDueOn Graph checked p b → a ≡ b
  one checked a b first second =
      let same : a.text ≡ b.text = fired a.text first.text [] second.text.net second.text.own ∙ sym second.text.is in
      first.done ∙ ap done same ∙ sym second.done

  means : (checked : Bool) (due : Due) → IsDueOn Graph checked p due → MeansGraph p due
  means checked due is = record {
    done = ap (λ (d : Due). d.status) is.done;
    tells = is.text;
    fired = fired due.text is.text;
  }

  pub graph_means : (checked : Bool) → MeansOn Graph checked p (run_of p)
  graph_means checked = record { one = one checked; means = means checked }
