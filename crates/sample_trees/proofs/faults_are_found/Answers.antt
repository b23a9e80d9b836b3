use Rattle.sample_trees.proofs.Faults.{constant_too_great, truth_as_operand, data_in_print, pick_without_target, end_before_last, numbers_fall, other_variable, jump_into_range, shared_word, given_twice}
use Rattle.sample_trees.proofs.faults_are_found.Goals as goal

pub returns-clause-constant : goal.returns-clause-constant
returns-clause-constant c = constant_too_great

pub returns-clause-operand : goal.returns-clause-operand
returns-clause-operand c = truth_as_operand

pub returns-clause-data : goal.returns-clause-data
returns-clause-data c = data_in_print

pub returns-clause-target : goal.returns-clause-target
returns-clause-target c = pick_without_target

pub returns-clause-end : goal.returns-clause-end
returns-clause-end c = end_before_last

pub returns-clause-numbers : goal.returns-clause-numbers
returns-clause-numbers c = numbers_fall

pub returns-clause-variable : goal.returns-clause-variable
returns-clause-variable c = other_variable

pub returns-clause-jump : goal.returns-clause-jump
returns-clause-jump c = jump_into_range

pub returns-clause-words : goal.returns-clause-words
returns-clause-words c = shared_word

pub returns-clause-gift : goal.returns-clause-gift
returns-clause-gift c = given_twice
