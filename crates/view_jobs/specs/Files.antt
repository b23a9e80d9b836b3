-- Files and what is known of them.
use Rattle.std.specs.Prelude.{◌≡◌, ◌<◌, ℕ, ⊤, List, length, Option, None, Some, Result, Ok, Err, Vec}
use Rattle.std.specs.declared.alloc.Global.{Global}
use Rattle.view_output.specs.declared.fault.Fault.{Fault}
use Rattle.view_output.specs.declared.fault.Fault.TheVariants as fault

-- All of the text comes, where it isn't too long.
abbrev pub ReadsFile : (text : List ℕ) → Result (Vec ℕ Global) Fault → Type 0
ReadsFile text (Ok read) = read.items ≡ text
ReadsFile text (Err fault.TooLong) = 4194304 < length text
ReadsFile text (Err _) = ⊤

-- Where the text of a file is known, this is so of it.
abbrev pub OfKnown : (known : Option (List ℕ)) → (Holds : List ℕ → Type 0) → Type 0
OfKnown None Holds = ⊤
OfKnown (Some text) Holds = Holds text
