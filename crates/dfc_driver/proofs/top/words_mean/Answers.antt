use Rattle.dfc_driver.proofs.WordsMean.{words_mean}
use Rattle.dfc_driver.proofs.top.words_mean.Goals as goal

pub returns : goal.returns
returns c = words_mean c.texts_mean.ensures c.sample_texts_mean.ensures
