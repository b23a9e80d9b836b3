-- What a text on its way to a sink comes to.
use Rattle.std.specs.Prelude.{ℕ, List, Option}
use Rattle.std.specs.Io.KnownBytes.{Appends, append_known}
use Rattle.view_output.specs.declared.output.Output.{Output}

-- what the sink has got, if it tells that, and what it is still to get
unfoldable pub told : {K : Type 0} → (got : K → Option (List ℕ)) → Output K → Option (List ℕ)
told got output = append_known (got output.sink) output.buffer

-- a text was added to what is told, where that is known
pub record Adds (old new : Option (List ℕ)) (text : List ℕ) : Type 0 where
  pub known : Appends old new text
