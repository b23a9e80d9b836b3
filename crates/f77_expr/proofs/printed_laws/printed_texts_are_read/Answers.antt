use Rattle.f77_expr.specs.Printing.{printed}
use Rattle.f77_expr.proofs.Pieces.{no_apostrophe}
use Rattle.f77_expr.proofs.PrintedLaws.{proper-read, proper-writes, proper-shortest}
use Rattle.f77_expr.proofs.Visible.{no_blank}
use Rattle.f77_expr.proofs.printed_laws.printed_texts_are_read.Goals as goal

pub returns-clause-read : goal.returns-clause-read
returns-clause-read c = λ names e are proper. proper-read names e proper are

pub returns-clause-grammatical : goal.returns-clause-grammatical
returns-clause-grammatical c = λ names e are proper. (proper-writes names e proper are).grammatical

pub returns-clause-reading : goal.returns-clause-reading
returns-clause-reading c = λ names e are proper. (proper-writes names e proper are).is

pub returns-clause-constants : goal.returns-clause-constants
returns-clause-constants c = λ names e are proper. (proper-writes names e proper are).constants

pub returns-clause-shortest : goal.returns-clause-shortest
returns-clause-shortest c = λ names e w proper grammatical same. proper-shortest names e proper w grammatical same

pub returns-clause-apostrophes : goal.returns-clause-apostrophes
returns-clause-apostrophes c = λ names e are proper. no_apostrophe (printed names e).alone (proper-writes names e proper are).grammatical

pub returns-clause-blanks : goal.returns-clause-blanks
returns-clause-blanks c = λ names e are proper. no_blank (printed names e).alone (proper-writes names e proper are).grammatical
