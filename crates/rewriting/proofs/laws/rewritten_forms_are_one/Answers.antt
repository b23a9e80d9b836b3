use Rattle.rewriting.proofs.OneForm.{no_limits, one_limit, rewritten_forms, simplified_forms}
use Rattle.rewriting.proofs.laws.rewritten_forms_are_one.Goals as goal

pub returns-clause-simplified : goal.returns-clause-simplified
returns-clause-simplified c = simplified_forms c.one_numbering.ensures c.one_touching.ensures.one c.one_table_of_constants.ensures c.one_table_of_availability.ensures c.executables_tell_statements.ensures.one c.flow_graph_is_strong.ensures c.flow_graph_has_shape.ensures

pub returns-clause-rewritten : goal.returns-clause-rewritten
returns-clause-rewritten c = rewritten_forms c.one_numbering.ensures c.one_touching.ensures.one c.one_table_of_constants.ensures c.one_table_of_availability.ensures c.executables_tell_statements.ensures.one c.flow_graph_is_strong.ensures c.flow_graph_has_shape.ensures

pub returns-clause-none : goal.returns-clause-none
returns-clause-none c = no_limits c.one_numbering.ensures c.one_touching.ensures.one c.one_table_of_constants.ensures c.one_table_of_availability.ensures c.executables_tell_statements.ensures.one c.flow_graph_is_strong.ensures c.flow_graph_has_shape.ensures

pub returns-clause-limit : goal.returns-clause-limit
returns-clause-limit c = one_limit c.one_numbering.ensures c.one_touching.ensures.one c.one_table_of_constants.ensures c.one_table_of_availability.ensures c.executables_tell_statements.ensures.one c.flow_graph_is_strong.ensures c.flow_graph_has_shape.ensures
