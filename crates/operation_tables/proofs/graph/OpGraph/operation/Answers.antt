use Rattle.std.proofs.Common.{sym, ◌∙◌, subst}
use Rattle.firing.specs.declared.system.NodeName.{NodeName}
use Rattle.operation_tables.specs.GraphView.{operations_of}
use Rattle.operation_tables.specs.Telling.{IsOperation}
use Rattle.operation_tables.proofs.NodeNames.{IsOperationAt, operation_at_node}
use Rattle.operation_tables.proofs.graph.OpGraph.operation.Goals as goal

pub returns-in-Op-clause-name : goal.returns-in-Op-clause-name
returns-in-Op-clause-name g c = sym c.name.ensures ∙ c.in-Op.is

pub returns-in-Op-clause-exists : goal.returns-in-Op-clause-exists
returns-in-Op-clause-exists g c =
    let n : IsOperationAt (operations_of c.args.self.now) c.args.k c.in-Op.piece c.in-Op.i = operation_at_node (operations_of c.args.self.now) c.args.k c.in-Op.piece c.in-Op.i c.requires.node (sym c.name.ensures ∙ c.in-Op.is) in
    n.exists

pub returns-in-Op-clause-inside : goal.returns-in-Op-clause-inside
returns-in-Op-clause-inside g c =
    let n : IsOperationAt (operations_of c.args.self.now) c.args.k c.in-Op.piece c.in-Op.i = operation_at_node (operations_of c.args.self.now) c.args.k c.in-Op.piece c.in-Op.i c.requires.node (sym c.name.ensures ∙ c.in-Op.is) in
    n.inside

pub returns-in-Switch-clause-name : goal.returns-in-Switch-clause-name
returns-in-Switch-clause-name g c = absurd (subst (λ (n : NodeName). IsOperation n) (sym c.name.ensures ∙ c.in-Switch.is) c.requires.operation)

pub returns-in-Switch-clause-exists : goal.returns-in-Switch-clause-exists
returns-in-Switch-clause-exists g c = absurd (subst (λ (n : NodeName). IsOperation n) (sym c.name.ensures ∙ c.in-Switch.is) c.requires.operation)

pub returns-in-Switch-clause-inside : goal.returns-in-Switch-clause-inside
returns-in-Switch-clause-inside g c = absurd (subst (λ (n : NodeName). IsOperation n) (sym c.name.ensures ∙ c.in-Switch.is) c.requires.operation)

pub returns-in-Merge-clause-name : goal.returns-in-Merge-clause-name
returns-in-Merge-clause-name g c = absurd (subst (λ (n : NodeName). IsOperation n) (sym c.name.ensures ∙ c.in-Merge.is) c.requires.operation)

pub returns-in-Merge-clause-exists : goal.returns-in-Merge-clause-exists
returns-in-Merge-clause-exists g c = absurd (subst (λ (n : NodeName). IsOperation n) (sym c.name.ensures ∙ c.in-Merge.is) c.requires.operation)

pub returns-in-Merge-clause-inside : goal.returns-in-Merge-clause-inside
returns-in-Merge-clause-inside g c = absurd (subst (λ (n : NodeName). IsOperation n) (sym c.name.ensures ∙ c.in-Merge.is) c.requires.operation)

pub returns-in-Act-clause-name : goal.returns-in-Act-clause-name
returns-in-Act-clause-name g c = absurd (subst (λ (n : NodeName). IsOperation n) (sym c.name.ensures ∙ c.in-Act.is) c.requires.operation)

pub returns-in-Act-clause-exists : goal.returns-in-Act-clause-exists
returns-in-Act-clause-exists g c = absurd (subst (λ (n : NodeName). IsOperation n) (sym c.name.ensures ∙ c.in-Act.is) c.requires.operation)

pub returns-in-Act-clause-inside : goal.returns-in-Act-clause-inside
returns-in-Act-clause-inside g c = absurd (subst (λ (n : NodeName). IsOperation n) (sym c.name.ensures ∙ c.in-Act.is) c.requires.operation)
