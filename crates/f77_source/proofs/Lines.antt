-- The lines of the statements of a text rise.
use Rattle.std.proofs.Common.{◌≡◌, ℕ, zero, suc, ◌+◌, ◌<◌, ◌≤◌, Bool, true, false, List, [], ◌∷◌, length, Option, Some, None, Ok, Err, cond, if◌then◌else◌, slice_get, refl, sym, subst, arith}
use Rattle.std.specs.List.{filter}
use Rattle.fixed_form.specs.declared.form_end.FormEnd.{FormEnd}
use Rattle.fixed_form.specs.declared.form_end.FormEnd.TheVariants.{NoEnd}
use Rattle.std.specs.Str.Lines.{lines}
use Rattle.fixed_form.specs.declared.raw_stmt.RawStmt.{RawStmt}
use Rattle.fixed_form.specs.Fault.{first_fault}
use Rattle.fixed_form.specs.Reading.{reading, outcome}
use Rattle.fixed_form.specs.SourceLine.{SourceLine, numbered, numbered_from, source_lines, is_initial_line, is_statement_line}
use Rattle.f77_source.specs.Accepted.{RiseFrom, IsAccepted}
use Rattle.fixed_form.specs.Statement.{statement_of, statements_of, continuations, ends_with_end}

weaker : (n m : ℕ) (raws : List RawStmt) → n ≤ m → RiseFrom m raws → RiseFrom n raws
weaker n m [] le rise = tt
weaker n m (s ∷ rest) le rise = (omega (arith, le, rise.0), rise.1)

begun : (n : ℕ) (x : SourceLine) (rest : List SourceLine) (initial : Bool) → x.number ≡ n → RiseFrom (n + 1) (statements_of rest) → RiseFrom n (if initial then statement_of x (continuations rest) ∷ statements_of rest else statements_of rest)
begun n x rest true is rise = (omega (arith, is), subst (λ m. RiseFrom (m + 1) (statements_of rest)) (sym is) rise)
begun n x rest false is rise = weaker n (n + 1) (statements_of rest) (omega arith) rise

kept : (n : ℕ) (x : SourceLine) (rest : List SourceLine) (keeps : Bool) → x.number ≡ n → RiseFrom (n + 1) (statements_of rest) → RiseFrom n (statements_of (cond keeps (x ∷ rest) rest))
kept n x rest true is rise = begun n x rest (is_initial_line x) is rise
kept n x rest false is rise = weaker n (n + 1) (statements_of rest) (omega arith) rise

from_lines : (n : ℕ) (lines : List (List ℕ)) → RiseFrom n (statements_of (filter is_statement_line (numbered_from n lines)))
from_lines n [] = tt
from_lines n (line ∷ more) = kept n (numbered n line) (filter is_statement_line (numbered_from (n + 1) more)) (is_statement_line (numbered n line)) refl (from_lines (n + 1) more)

by_end : (all raws : List RawStmt) (n : ℕ) (ended : Bool) → ends_with_end all ≡ ended → RiseFrom 1 all → (if ended then Ok all else Err (NoEnd (n + 1))) ≡ Ok raws → IsAccepted raws
by_end all raws n true is rise accepted =
    let same : all ≡ raws = cc in
    subst IsAccepted same (record { ended = is; rise = rise })
by_end all raws n false is rise accepted = cc

by_fault : (all raws : List RawStmt) (n : ℕ) (fault : Option FormEnd) → RiseFrom 1 all → outcome fault all n ≡ Ok raws → IsAccepted raws
by_fault all raws n None rise accepted = by_end all raws n (ends_with_end all) refl rise accepted
by_fault all raws n (Some fault) rise accepted = cc

pub accepted : (bytes : List ℕ) (raws : List RawStmt) → reading bytes ≡ Ok raws → IsAccepted raws
accepted bytes raws is =
    let source = source_lines bytes in
    by_fault (statements_of (filter is_statement_line source)) raws (length source) (first_fault [] source) (from_lines 1 (lines bytes)) is

-- ---- two statements

above : (n : ℕ) (raws : List RawStmt) (k : ℕ) (b : RawStmt) → RiseFrom n raws → slice_get raws k ≡ Some b → n ≤ b.line
above n [] k b rise at = cc
above n (s ∷ rest) zero b rise at = let same : s ≡ b = cc in subst (λ x. n ≤ x.line) same rise.0
above n (s ∷ rest) (suc k) b rise at = let more = above (s.line + 1) rest k b rise.1 at in omega (arith, more, rise.0)

pub lines_rise : (n : ℕ) (raws : List RawStmt) → RiseFrom n raws → (j k : ℕ) (a b : RawStmt) → slice_get raws j ≡ Some a → slice_get raws k ≡ Some b → j < k → a.line < b.line
lines_rise n [] rise j k a b first second lt = cc
lines_rise n (s ∷ rest) rise j zero a b first second lt = absurd (omega (arith, lt))
lines_rise n (s ∷ rest) rise zero (suc k) a b first second lt =
    let same : s ≡ a = cc in
    let more = above (s.line + 1) rest k b rise.1 second in
    subst (λ x. x.line < b.line) same (omega (arith, more))
lines_rise n (s ∷ rest) rise (suc j) (suc k) a b first second lt = lines_rise (s.line + 1) rest rise.1 j k a b first second (omega (arith, lt))
