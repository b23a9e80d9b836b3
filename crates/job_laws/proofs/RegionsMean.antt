-- What the text of regions means.
use Rattle.std.proofs.Common.{◌≡◌, ℕ, Bool, List, sym, ap, ◌∙◌}
use Rattle.closed_walks.specs.Graph.{Graph}
use Rattle.closed_walks.specs.Numbering.{IsNumbering}
use Rattle.closed_walks.specs.Region.{IsFlowGraph}
use Rattle.cfg_build.specs.Flow.{flow}
use Rattle.f77_tree.specs.declared.programs.Program.{Program}
use Rattle.region_tree.specs.Tree.{Tree, IsRegionTree}
use Rattle.job_terms.specs.Tasks.{Regions}
use Rattle.job_terms.specs.Due.{Due, done}
use Rattle.dfc_jobs.specs.Due.{IsDueOn}
use Rattle.job_laws.specs.Headline.{Means, MeansOn}
use Rattle.job_laws.specs.SourceRuns.{run_of}
use Rattle.graph_jobs.specs.Regions.{regions_text, TellsRegions}

-- there is one numbering of the classes of a graph, and one tree of its regions
abbrev pub OneNumbering : Type 0
OneNumbering = (g : Graph) (classes others : List ℕ) → IsNumbering g classes → IsNumbering g others → classes ≡ others

abbrev pub OneTree : Type 0
OneTree = (g : Graph) (t u : Tree) → IsFlowGraph g → IsRegionTree g t → IsRegionTree g u → t ≡ u

-- two texts that tell the regions of a program are the same
one_text : (p : Program) (a b : List ℕ) → OneNumbering → OneTree → IsFlowGraph (flow p.execs).graph → TellsRegions p a → TellsRegions p b → a ≡ b
one_text p a b one_numbering one_tree strong first second =
    let f = flow p.execs in
    let classes = one_numbering f.graph first.classes second.classes first.numbering second.numbering in
    let tree = one_tree f.graph first.tree second.tree strong first.regions second.regions in
    first.is ∙ ap (λ (xs : List ℕ). regions_text f xs first.tree) classes ∙ ap (regions_text f second.classes) tree ∙ sym second.is

-- what is due tells each piece, edge and region once
regions_told : (checked : Bool) (p : Program) (due : Due) → IsDueOn Regions checked p due → Means Regions checked p (run_of p) due
regions_told checked p due is =
    let f = flow p.execs in
    record {
      done = ap (λ (d : Due). d.status) is.done;
      classes = is.text.classes;
      tree = is.text.tree;
      lines = is.text.is;
      same = is.text.numbering.same;
      regions = is.text.regions;
    }

pub regions_mean : (checked : Bool) (p : Program) → OneNumbering → OneTree → IsFlowGraph (flow p.execs).graph → MeansOn Regions checked p (run_of p)
regions_mean checked p one_numbering one_tree strong = record {
  one = λ a b first second. first.done ∙ ap done (one_text p a.text b.text one_numbering one_tree strong first.text second.text) ∙ sym second.done;
  means = regions_told checked p;
}
