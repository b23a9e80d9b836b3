use Rattle.layout_rules.specs.Layout.{placed_names}
use Rattle.read_back.specs.SourceStatements.{statements_read}
use Rattle.read_back.proofs.PrintedData.{none_wrong_data}
use Rattle.read_back.proofs.PrintedForm.{initial_again}
use Rattle.read_back.proofs.PrintedStorage.{none_wrong_places, table_again, words_again}
use Rattle.read_back.proofs.storage.printed_programs_have_their_storage.Goals as goal

pub returns-clause-places : goal.returns-clause-places
returns-clause-places c = λ p flat is. let given = c.printed_programs_can_be_read.ensures p flat is in none_wrong_places p flat given.text is.arrays p.words is.well_formed.places

pub returns-clause-table : goal.returns-clause-table
returns-clause-table c = λ p flat is. let given = c.printed_programs_can_be_read.ensures p flat is in table_again p flat given.text is.arrays p.words is.well_formed.places

pub returns-clause-words : goal.returns-clause-words
returns-clause-words c = λ p flat is. let given = c.printed_programs_can_be_read.ensures p flat is in words_again p flat given.text is.arrays p.words is.well_formed.places

pub returns-clause-data : goal.returns-clause-data
returns-clause-data c = λ p flat is.
    let given = c.printed_programs_can_be_read.ensures p flat is in
    none_wrong_data p flat given.text (placed_names (statements_read p flat)) (table_again p flat given.text is.arrays p.words is.well_formed.places)

pub returns-clause-initial : goal.returns-clause-initial
returns-clause-initial c = λ p flat checked is.
    let given = c.printed_programs_can_be_read.ensures p flat is in
    initial_again p flat given.text is.arrays is.well_formed.places checked is.well_formed.initial_count is.well_formed.initial
