-- The lines of the statements of a text, and the line at which a line or a statement is refused.
use Rattle.std.proofs.Common.{◌≡◌, ◌≢◌, ℕ, ◌+◌, ◌≤◌, ◌<◌, ◌==◌, Bool, true, false, not, ◌||◌, if◌then◌else◌, List, [], ◌∷◌, length, filter, Option, Some, None, Result, Ok, Err, refl, sym, subst, arith}
use Rattle.std.specs.Prelude.{IfSome, nat_le, nat_lt}
use Rattle.std.specs.List.{AllByRecursion}
use Rattle.std.specs.Option.{option_or}
use Rattle.std.specs.Str.Lines.{lines}
use Rattle.fixed_form.specs.declared.form_end.FormEnd.{FormEnd}
use Rattle.fixed_form.specs.declared.form_end.FormEnd.TheVariants as form
use Rattle.fixed_form.specs.declared.raw_stmt.RawStmt.{RawStmt}
use Rattle.fixed_form.specs.Columns.{column, has_bad_byte, has_bad_label, is_blank, is_comment, kind, label_field}
use Rattle.fixed_form.specs.Fault.{continuation_count, fault, fault_of_kind, first_fault, initial_count}
use Rattle.fixed_form.specs.Reading.{outcome, reading}
use Rattle.fixed_form.specs.SourceLine.{SourceLine, is_statement_line, numbered_from, source_lines}
use Rattle.fixed_form.specs.Statement.{ends_with_end, statements_of}
use Rattle.f77_tree.specs.declared.statements.Labelled.{Labelled}
use Rattle.f77_tree.specs.StatementGrammar.{WrittenStatement, has_bad_constant}
use Rattle.f77_expr.specs.Piece.{bracket_depth, deepest_allowed}
use Rattle.f77_parse.specs.declared.stmt_end.StmtEnd.{StmtEnd}
use Rattle.f77_parse.specs.declared.stmt_end.StmtEnd.TheVariants as stmt
use Rattle.f77_parse.specs.Forms.{statement_at}
use Rattle.f77_parse.specs.Parsing.{answer_for, reading_of}
use Rattle.f77_source.specs.Reading.{form_refusal, stmt_refusal}
use Rattle.refusal_laws.specs.ToldLines.{IsLineOf, IsToldIn}
use Rattle.refusal_laws.proofs.Elements.{each-filter}

module _ (P : ℕ → Type 0) where
  -- ---- statements

  abbrev RawAt : RawStmt → Type 0
  RawAt raw = P raw.line

  -- statements at such lines
  abbrev pub RawStand : List RawStmt → Type 0
  RawStand raws = AllByRecursion RawAt raws

  -- a refusal at such a line, and none for want of memory
  abbrev pub StmtAt : StmtEnd → Type 0
  StmtAt end = (end ≢ stmt.NoMemory) × P (stmt_refusal end).line

  abbrev pub ReadAt : Result Labelled StmtEnd → Type 0
  ReadAt (Ok s) = P s.line
  ReadAt (Err end) = StmtAt end

  if-read : (b : Bool) (first second : Result Labelled StmtEnd) → ReadAt first → ReadAt second → ReadAt (if b then first else second)
  if-read true first second yes_at no_at = yes_at
  if-read false first second yes_at no_at = no_at

  answer-at : (raw : RawStmt) (deep : Bool) (o : Option WrittenStatement) → P raw.line → ReadAt (if deep then Err (stmt.TooDeep raw.line) else answer_for raw o)
  answer-at raw true o at = (λ e. cc, at)
  answer-at raw false None at = (λ e. cc, at)
  answer-at raw false (Some s) at = if-read (has_bad_constant s) (Err (stmt.BadConstant raw.line)) _ (λ e. cc, at) at

  pub reading-at : (raw : RawStmt) → P raw.line → ReadAt (reading_of raw)
  reading-at raw at = answer-at raw (nat_lt deepest_allowed (bracket_depth raw.text)) (statement_at raw.text) at

  -- ---- lines

  abbrev SourceAt : SourceLine → Type 0
  SourceAt line = P line.number

  raws-stand : (source : List SourceLine) → AllByRecursion SourceAt source → RawStand (statements_of source)
  raws-stand [] all = tt
  raws-stand (line ∷ more) all = grind (arith, raws-stand more, all)

-- where a text of so many lines is refused for its lines, and not for want of memory
abbrev pub FormAt : (count : ℕ) → FormEnd → Type 0
FormAt count end = (end ≢ form.NoMemory) × IsToldIn count (form_refusal end)

-- the statements of a text of so many lines, END among them
abbrev pub CutAt : (count : ℕ) → Result (List RawStmt) FormEnd → Type 0
CutAt count (Ok raws) = (0 < length raws) × RawStand (IsLineOf count) raws
CutAt count (Err end) = FormAt count end

module _ (count : ℕ) where
  abbrev SourceStands : List SourceLine → Type 0
  SourceStands source = AllByRecursion (λ (line : SourceLine). IsLineOf count line.number) source

  if-fault : (b : Bool) (end : FormEnd) (other : Option FormEnd) → FormAt count end → IfSome other (FormAt count) → IfSome (if b then Some end else other) (FormAt count)
  if-fault true end other at more = at
  if-fault false end other at more = more

  -- of three kinds of lines, by two tests
  by-kind : {K : Type 0} (k : K) (R : K → Type 0) (a b : Bool) (x y z : K) → k ≡ (if a then x else (if b then y else z)) → R x → R y → R z → R k
  by-kind k R a b x y z is first second third = subst R (sym is) (by a b)
    where
      by : (a b : Bool) → R (if a then x else (if b then y else z))
      by true b = first
      by false true = second
      by false false = third

  line-faults : (above : List SourceLine) (line : SourceLine) → IsLineOf count line.number → IfSome (fault above line) (FormAt count)
  line-faults above line at =
      by-kind (kind line.card) (λ k. IfSome (fault_of_kind k above line) (FormAt count)) (is_comment line.card) (column 6 line.card == 32 || column 6 line.card == 48) _ _ _ refl tt
      (if-fault (has_bad_byte line.card) (form.BadByte line.number) _ (λ e. cc, at)
      (if-fault (has_bad_label line.card) (form.BadLabelField line.number) _ (λ e. cc, at)
      (if-fault (nat_le 4000 (initial_count above)) (form.TooManyStatements line.number) None (λ e. cc, at) tt)))
      (if-fault (has_bad_byte line.card) (form.BadByte line.number) _ (λ e. cc, at)
      (if-fault (not (is_blank (label_field line.card))) (form.BadLabelField line.number) _ (λ e. cc, at)
      (if-fault (initial_count above == 0) (form.StrayContinuation line.number) _ (λ e. cc, at)
      (if-fault (nat_le 19 (continuation_count above)) (form.TooManyContinuations line.number) None (λ e. cc, at) tt))))

  faults-stand : (above source : List SourceLine) → SourceStands source → IfSome (first_fault above source) (FormAt count)
  faults-stand above [] all = tt
  faults-stand above (line ∷ more) all = by (fault above line) (line-faults above line all.0) (faults-stand (line ∷ above) more all.1)
    where
      by : (o : Option FormEnd) → IfSome o (FormAt count) → IfSome (first_fault (line ∷ above) more) (FormAt count) → IfSome (option_or o (first_fault (line ∷ above) more)) (FormAt count)
      by None here rest = rest
      by (Some end) here rest = here

  outcome-at : (o : Option FormEnd) (raws : List RawStmt) → IfSome o (FormAt count) → RawStand (IsLineOf count) raws → CutAt count (outcome o raws count)
  outcome-at (Some end) raws at all = at
  outcome-at None raws at all = by (ends_with_end raws) refl
    where
      some-raws : (raws : List RawStmt) → ends_with_end raws ≡ true → 0 < length raws
      some-raws [] ended = cc
      some-raws (raw ∷ raws) ended = omega arith

      by : (b : Bool) → ends_with_end raws ≡ b → CutAt count (if b then Ok raws else Err (form.NoEnd (count + 1)))
      by true ended = (some-raws raws ended, all)
      by false ended = (λ e. cc, refl)

  numbered-stand : (n : ℕ) (texts : List (List ℕ)) → n + length (numbered_from n texts) ≡ count + 1 → 1 ≤ n → SourceStands (numbered_from n texts)
  numbered-stand n [] long first = tt
  numbered-stand n (text ∷ more) long first = ((first, omega (arith, long)), numbered-stand (n + 1) more (omega (arith, long)) (omega arith))

pub text-cut : (bytes : List ℕ) → CutAt (length (source_lines bytes)) (reading bytes)
text-cut bytes =
    let source : List SourceLine = source_lines bytes in
    let count : ℕ = length source in
    let stand = numbered-stand count 1 (lines bytes) (omega arith) (omega arith) in
    outcome-at count (first_fault [] source) (statements_of (filter is_statement_line source))
    (faults-stand count [] source stand)
    (raws-stand (IsLineOf count) (filter is_statement_line source) (each-filter (λ (line : SourceLine). IsLineOf count line.number) is_statement_line source stand))
