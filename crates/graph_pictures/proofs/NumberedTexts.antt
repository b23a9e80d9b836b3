-- Texts of numbers, one after another.
use Rattle.std.proofs.Common.{ℕ, List, ◌+◌, add-one, refl}
use Rattle.std.proofs.lemmas.Grind.{put_two}
use Rattle.std.specs.Fmt.{HasWritten}
use Rattle.graph_pictures.specs.Numbers.{numbered}

-- the text of one number more
pub one_number_more : {W : Type 0} (took : W → List ℕ → W → Type 0) (text : ℕ → List ℕ) (k : ℕ) (f g h : _) → HasWritten took f (numbered text k) g → HasWritten took g (text k) h → HasWritten took f (numbered text (k + 1)) h
one_number_more took text k f g h before next = put_two took f g h (numbered text k) (text k) (numbered text (k + 1)) before next (rw (add-one k) refl)
