use Rattle.simplified_laws.proofs.SimplifiedRuns.{in-place, programs-keep-step, programs-leave-words, programs-print-alike}
use Rattle.simplified_laws.proofs.running.simplified_programs_print_alike.Goals as goal

pub returns-clause-alike : goal.returns-clause-alike
returns-clause-alike c = programs-print-alike c.known_words_are_right_in_runs.ensures c.items_lead_to_items.ensures.rests c.items_lead_to_items.ensures.jumps c.items_lead_to_items.ensures.dos (in-place c.executables_stand_in_order.ensures.first c.executables_stand_in_order.ensures.other c.executables_stand_in_order.ensures.next)

pub returns-clause-words : goal.returns-clause-words
returns-clause-words c = programs-leave-words c.known_words_are_right_in_runs.ensures c.items_lead_to_items.ensures.rests c.items_lead_to_items.ensures.jumps c.items_lead_to_items.ensures.dos (in-place c.executables_stand_in_order.ensures.first c.executables_stand_in_order.ensures.other c.executables_stand_in_order.ensures.next)

pub returns-clause-steps : goal.returns-clause-steps
returns-clause-steps c = programs-keep-step c.known_words_are_right_in_runs.ensures c.items_lead_to_items.ensures.rests c.items_lead_to_items.ensures.jumps c.items_lead_to_items.ensures.dos (in-place c.executables_stand_in_order.ensures.first c.executables_stand_in_order.ensures.other c.executables_stand_in_order.ensures.next)
