-- The classes that an executable needs are a frame of it.
use Rattle.std.proofs.Common.{ℕ, ℤ, List}
use Rattle.f77_tree.specs.declared.programs.ExecKind.{ExecKind}
use Rattle.f77_tree.specs.declared.programs.NameInfo.{NameInfo}
use Rattle.f77_tree.specs.Execution.{Memory, Outcome, Goes, Stops, Ends}
use Rattle.f77_tree.specs.Steps.{IfGoes, KeepsRest, AgreeFor, Changes}
use Rattle.f77_tree.specs.Touched.{ExecMayRead, SetsCount, SetsStep, ReadsCount}
use Rattle.alias_classes.specs.Classes.{ClassTable, class_of_word, class_of_loop}
use Rattle.alias_classes.specs.Frame.{AgreeOnClasses, KeepsOtherClasses}
use Rattle.alias_classes.specs.Needs.{ExecNeeds}

module _ (names : List NameInfo) (t : ClassTable) (kind : ExecKind) where
  pub agree-for : (m n : Memory) → ((word : ℕ) → ExecMayRead names kind word → ExecNeeds t kind (class_of_word t word)) → ((k : ℕ) → ReadsCount kind k → ExecNeeds t kind (class_of_loop t k)) → AgreeOnClasses t kind m n → AgreeFor names kind m n
  agree-for m n reads counted agree = record {
    store = λ word may. agree.store word (reads word may);
    counts = λ k may. agree.counts k (counted k may);
    steps = λ k may. agree.steps k (counted k may);
    taken = agree.taken;
  }

  keeps-others : (input : List ℤ) (m new : Memory) → ((word : ℕ) → Changes names input m kind word → ExecNeeds t kind (class_of_word t word)) → ((k : ℕ) → SetsCount kind k → ExecNeeds t kind (class_of_loop t k)) → ((k : ℕ) → SetsStep kind k → ExecNeeds t kind (class_of_loop t k)) → KeepsRest names input kind m new → KeepsOtherClasses t kind m new
  keeps-others input m new changed counted stepped keeps = record {
    store = λ word other. keeps.store word (λ does. other (changed word does));
    counts = λ k other. keeps.counts k (λ does. other (counted k does));
    steps = λ k other. keeps.steps k (λ does. other (stepped k does));
    taken = keeps.taken;
  }

  pub outcome-keeps : (input : List ℤ) (m : Memory) (o : Outcome) → ((word : ℕ) → Changes names input m kind word → ExecNeeds t kind (class_of_word t word)) → ((k : ℕ) → SetsCount kind k → ExecNeeds t kind (class_of_loop t k)) → ((k : ℕ) → SetsStep kind k → ExecNeeds t kind (class_of_loop t k)) → IfGoes o (λ next new text. KeepsRest names input kind m new) → IfGoes o (λ next new text. KeepsOtherClasses t kind m new)
  outcome-keeps input m (Goes next new text) changed counted stepped keeps = keeps-others input m new changed counted stepped keeps
  outcome-keeps input m (Stops trap) changed counted stepped keeps = tt
  outcome-keeps input m Ends changed counted stepped keeps = tt
