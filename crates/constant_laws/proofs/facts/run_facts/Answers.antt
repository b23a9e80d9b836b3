use Rattle.constant_laws.proofs.facts.run_facts.Goals as goal

pub returns : goal.returns
returns c = λ p input well. record {
  edges = λ n. c.passes_are_a_walk.ensures.edges p input n well.execs;
  start = c.passes_are_a_walk.ensures.start p input well.execs;
  leads_on = λ n run. c.passes_are_a_walk.ensures.leads_on p input n well.execs run;
  returns = λ n run. c.runs_leave_the_start.ensures p input n well.execs run;
}
