use Rattle.std.proofs.Common.{None, refl, false, arith}
use Rattle.std.proofs.lemmas.Bool.{false≢true}
use Rattle.redundancy.proofs.PassValues.{keeps_value, well_placed}
use Rattle.redundancy.proofs.laws.available_expressions_keep_their_values.Goals as goal

pub returns : goal.returns
returns c = λ p t input n e well classes fed run available.
    let placed = well_placed p well in
    let shape = c.flow_graph_has_shape.ensures p.names p.execs p.loops well.execs in
    keeps_value p t input well classes placed
    (λ access word fits may. c.needs_cover_accesses.ensures.hits p t access word classes placed fits may)
    (λ kind word can may. c.needs_cover_accesses.ensures.reads p t kind word classes placed can may)
    (λ m kind word changed. c.executables_keep_the_rest.ensures.changes p.names input m kind word changed)
    (λ m kind. c.executables_keep_the_rest.ensures.rest p.names input m kind)
    (λ a b e same. c.reads_decide.ensures.values p.names a b None None e same (λ r. refl))
    fed (c.runs_hold_words.ensures.states p input 0 well fed).store
    (λ store next e z words proper is. c.runs_hold_words.ensures.values p.names store next e z words proper is)
    (λ m kind words quiet. c.what_cannot_trap_does_not.ensures.executables (λ sub dim. false) p.names input m kind words (λ next sub dim no'. absurd (false≢true no')) quiet)
    (c.passes_are_a_walk.ensures.start p input well.execs)
    (λ k. c.passes_are_a_walk.ensures.edges p input k well.execs)
    (λ k ran. c.passes_are_a_walk.ensures.leads_on p input k well.execs ran)
    ((shape.start 0 (omega (arith, shape.end_exists))).1 refl)
    n e run available
