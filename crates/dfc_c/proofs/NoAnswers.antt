-- What a call answers where there was no memory to begin with.
use Rattle.std.proofs.Common.{ℕ, List, [], refl, arith}
use Rattle.std.proofs.lemmas.Grind.{elements}
use Rattle.job_terms.specs.declared.status.Status.TheVariants.{NoMemory}
use Rattle.dfc_c.specs.Call.{IsAnswer}

pub nothing_shown : (words text room : List ℕ) → IsAnswer words text room room 0 7
nothing_shown words text room =
    record {
      bytes = [];
      answers = record { status = NoMemory; code_is = refl; answers = refl };
      count = refl;
      copied = grind (arith, elements);
    }
