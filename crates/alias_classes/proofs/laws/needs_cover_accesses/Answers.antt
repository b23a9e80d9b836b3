use Rattle.alias_classes.proofs.Covering.{hits, exec-reads, exec-changes, sets_count, sets_step, reads_count}
use Rattle.alias_classes.proofs.laws.needs_cover_accesses.Goals as goal

pub returns-clause-hits : goal.returns-clause-hits
returns-clause-hits c = λ p t access word is placed fits may. hits c.accesses_stay_in_their_names.ensures.own c.accesses_stay_in_their_names.ensures.alone p t is.names placed word access fits may

pub returns-clause-reads : goal.returns-clause-reads
returns-clause-reads c = λ p t kind word is placed can may. exec-reads c.accesses_stay_in_their_names.ensures.own c.accesses_stay_in_their_names.ensures.alone p t is.names placed word kind can may

pub returns-clause-changes : goal.returns-clause-changes
returns-clause-changes c = λ p t kind word is placed can may. exec-changes c.accesses_stay_in_their_names.ensures.own c.accesses_stay_in_their_names.ensures.alone p t is.names placed word kind can may

pub returns-clause-changed : goal.returns-clause-changed
returns-clause-changed c = λ p t input m kind word is placed can does. exec-changes c.accesses_stay_in_their_names.ensures.own c.accesses_stay_in_their_names.ensures.alone p t is.names placed word kind can (c.executables_keep_the_rest.ensures.changes p.names input m kind word does)

pub returns-clause-sets_count : goal.returns-clause-sets_count
returns-clause-sets_count c = λ t kind n is. sets_count t n kind is

pub returns-clause-sets_step : goal.returns-clause-sets_step
returns-clause-sets_step c = λ t kind n is. sets_step t n kind is

pub returns-clause-reads_count : goal.returns-clause-reads_count
returns-clause-reads_count c = λ t kind n is. reads_count t n kind is
