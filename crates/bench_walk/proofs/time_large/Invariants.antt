use Rattle.bench_walk.proofs.time_large.Given as goal

abbrev pub ghosts-classes_of : goal.ghosts-classes_of
ghosts-classes_of a = record { name = a.blank.name; parts = a.blank.parts }
