use Rattle.copied_names.proofs.ChangedNames.{named, passed}
use Rattle.copied_names.proofs.laws.copies_have_these_names.Goals as goal

pub returns : goal.returns
returns c = λ us depth k base arguments copied few. record {
  named = λ x new is. named us depth k base arguments x copied new few is;
  passed = λ x place e is at. passed us depth k base arguments x copied place e is at;
}
