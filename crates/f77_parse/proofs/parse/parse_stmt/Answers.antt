use Rattle.f77_parse.proofs.StatementsKept.{accepted_of, refused_of, given_of}
use Rattle.f77_parse.proofs.parse.parse_stmt.Goals as goal

pub returns-clause-accepted : goal.returns-clause-accepted
returns-clause-accepted c = accepted_of c.args.raw.now c.parsed.result c.parsed.ensures

pub returns-clause-refused : goal.returns-clause-refused
returns-clause-refused c = refused_of c.args.raw.now c.parsed.result c.parsed.ensures

pub returns-clause-given : goal.returns-clause-given
returns-clause-given c = given_of c.args.raw.now c.parsed.result c.parsed.ensures
