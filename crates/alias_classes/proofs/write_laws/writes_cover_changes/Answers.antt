use Rattle.alias_classes.proofs.Writing.{changes, sets_count, sets_step, counts, needs}
use Rattle.alias_classes.proofs.write_laws.writes_cover_changes.Goals as goal

pub returns-clause-changes : goal.returns-clause-changes
returns-clause-changes c = λ p t kind word is placed can may. changes c.accesses_stay_in_their_names.ensures.own c.accesses_stay_in_their_names.ensures.alone p t is.names placed word kind can may

pub returns-clause-changed : goal.returns-clause-changed
returns-clause-changed c = λ p t input m kind word is placed can does. changes c.accesses_stay_in_their_names.ensures.own c.accesses_stay_in_their_names.ensures.alone p t is.names placed word kind can (c.executables_keep_the_rest.ensures.changes p.names input m kind word does)

pub returns-clause-sets_count : goal.returns-clause-sets_count
returns-clause-sets_count c = λ t kind n is. sets_count t n kind is

pub returns-clause-sets_step : goal.returns-clause-sets_step
returns-clause-sets_step c = λ t kind n is. sets_step t n kind is

pub returns-clause-counts : goal.returns-clause-counts
returns-clause-counts c = λ t kind n is. counts t n kind is

pub returns-clause-needs : goal.returns-clause-needs
returns-clause-needs c = λ t kind n is. needs t n kind is
