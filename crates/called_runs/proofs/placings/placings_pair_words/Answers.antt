use Rattle.called_runs.proofs.PairedPlacings.{frame-place, pairing}
use Rattle.called_runs.proofs.placings.placings_pair_words.Goals as goal

pub returns-clause-words : goal.returns-clause-words
returns-clause-words c = pairing

pub returns-clause-storages : goal.returns-clause-storages
returns-clause-storages c = λ us checked spot words opening is names. record { distances = is.distances; apart = λ e f word shown other. is.apart e f word shown.of_run other.of_run }

pub returns-clause-frames : goal.returns-clause-frames
returns-clause-frames c = λ us spot k arguments names x less. frame-place us spot k arguments x names less
