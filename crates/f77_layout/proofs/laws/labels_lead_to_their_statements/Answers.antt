use Rattle.f77_layout.proofs.LabelsLead.{labels-lead}
use Rattle.f77_layout.proofs.laws.labels_lead_to_their_statements.Goals as goal

pub returns : goal.returns
returns c = λ stmts checked p is. labels-lead stmts checked p is.source is.laid
