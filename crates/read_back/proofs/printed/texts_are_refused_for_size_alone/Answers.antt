use Rattle.read_back.proofs.TooGreat.{read_unless_too_great}
use Rattle.read_back.proofs.printed.texts_are_refused_for_size_alone.Goals as goal

pub returns : goal.returns
returns c = read_unless_too_great
