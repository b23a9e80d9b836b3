-- Texts of rewritten forms.
use Rattle.std.proofs.Common.{Bool, List, ℕ}
use Rattle.f77_tree.specs.declared.programs.Program.{Program}
use Rattle.rewriting.specs.Rewritten.{IsRewrittenText, IsSharedTextOf, IsSimplifiedOf}

pub rewritten_text : (p : Program) (checked : Bool) (q : Program) → IsSimplifiedOf p checked q → (text : List ℕ) → IsSharedTextOf q text → IsRewrittenText p checked text
rewritten_text p checked q simplified text is = record {
  form = is.shared.form;
  rewritten = record { form = q; simplified = simplified; shared = record { table = is.table; available = is.available; shared = is.shared.shared } };
  flat = is.shared.flat;
  statements = is.shared.statements;
  is = is.shared.is;
}
