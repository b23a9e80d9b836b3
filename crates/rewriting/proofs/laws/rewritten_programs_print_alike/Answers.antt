use Rattle.rewriting.proofs.PrintingAlike.{few_steps, print_alike, same_words}
use Rattle.rewriting.proofs.laws.rewritten_programs_print_alike.Goals as goal

pub returns-clause-alike : goal.returns-clause-alike
returns-clause-alike c = print_alike c.own_touches_route.ensures c.simplified_programs_print_alike.ensures.alike c.shared_programs_print_alike.ensures.alike

pub returns-clause-words : goal.returns-clause-words
returns-clause-words c = same_words c.own_touches_route.ensures c.simplified_programs_print_alike.ensures.alike c.shared_programs_print_alike.ensures.alike c.simplified_programs_print_alike.ensures.words c.shared_programs_print_alike.ensures.words

pub returns-clause-steps : goal.returns-clause-steps
returns-clause-steps c = few_steps c.own_touches_route.ensures c.simplified_programs_print_alike.ensures.alike c.shared_programs_print_alike.ensures.alike c.rewritten_programs_take_few_steps.ensures
