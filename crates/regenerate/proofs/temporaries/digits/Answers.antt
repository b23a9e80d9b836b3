use Rattle.std.proofs.Common.{◌/◌, ◌%◌, ℕ, List, get_or, ap, arith}
use Rattle.shared_forms.proofs.TemporaryLemmas.{figures_make}
use Rattle.regenerate.proofs.temporaries.digits.Goals as goal

pub returns : goal.returns
returns c = λ n less is.
    figures_make n c.figure.result c.figure-2.result c.figure-3.result c.figure-4.result c.figure-5.result less
    (c.figure.ensures.counts (n / 10000 % 10) (omega arith) (ap (λ (xs : List ℕ). get_or xs 1 0) is))
    (c.figure-2.ensures.counts (n / 1000 % 10) (omega arith) (ap (λ (xs : List ℕ). get_or xs 2 0) is))
    (c.figure-3.ensures.counts (n / 100 % 10) (omega arith) (ap (λ (xs : List ℕ). get_or xs 3 0) is))
    (c.figure-4.ensures.counts (n / 10 % 10) (omega arith) (ap (λ (xs : List ℕ). get_or xs 4 0) is))
    (c.figure-5.ensures.counts (n / 1 % 10) (omega arith) (ap (λ (xs : List ℕ). get_or xs 5 0) is))
