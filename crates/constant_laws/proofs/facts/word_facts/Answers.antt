use Rattle.constant_laws.proofs.facts.word_facts.Goals as goal

pub returns : goal.returns
returns c = λ p k input well classes.
    let can = c.well_formed_programs_can_run.ensures p well in
    record {
      rest = λ m kind. c.executables_keep_the_rest.ensures.rest p.names input m kind;
      changes = λ m kind word is. c.executables_keep_the_rest.ensures.changes p.names input m kind word is;
      hits = λ access word is may. c.needs_cover_accesses.ensures.hits p k access word classes can.placed is may;
      changed = λ m kind word able is. c.needs_cover_accesses.ensures.changed p k input m kind word classes can.placed able is;
      values = λ names told store next e z are is. c.known_values_are_right.ensures.value names told store next e z are is;
    }
