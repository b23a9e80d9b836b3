-- A text that is refused is refused at a line of its own, or at the one after the last where END is missing; and no reading lacks memory.
use Rattle.std.proofs.Common.{◌≡◌, ◌≢◌, ℕ, suc, ◌+◌, ◌<◌, Bool, true, false, if◌then◌else◌, List, [], ◌∷◌, length, Option, Some, None, Result, Ok, Err, refl, subst, sum_by, arith}
use Rattle.std.proofs.lemmas.List.Sums.{sum_by-cons}
use Rattle.std.specs.Prelude.{IfErr, IfSome, nat_lt}
use Rattle.fixed_form.specs.declared.form_end.FormEnd.{FormEnd}
use Rattle.fixed_form.specs.declared.form_end.FormEnd.TheVariants as form
use Rattle.fixed_form.specs.declared.raw_stmt.RawStmt.{RawStmt}
use Rattle.fixed_form.specs.Reading as lines
use Rattle.fixed_form.specs.SourceLine.{source_lines}
use Rattle.f77_tree.specs.declared.programs.Program.{Program}
use Rattle.f77_tree.specs.declared.statements.Labelled.{Labelled}
use Rattle.f77_tree.specs.declared.statements.RawExpr.{RawExpr}
use Rattle.f77_parse.specs.declared.stmt_end.StmtEnd.{StmtEnd}
use Rattle.f77_parse.specs.declared.stmt_end.StmtEnd.TheVariants as stmt
use Rattle.f77_parse.specs.Parsing.{reading_of}
use Rattle.layout_rules.specs.declared.layout_end.LayoutEnd.{LayoutEnd}
use Rattle.layout_rules.specs.declared.layout_end.LayoutEnd.TheVariants as layout
use Rattle.layout_rules.specs.Layout as laid
use Rattle.alias_classes.specs.Number.{number_of_classes}
use Rattle.program_units.specs.declared.sub_end.SubEnd.{SubEnd}
use Rattle.program_units.specs.declared.sub_end.SubEnd.TheVariants as sub
use Rattle.program_units.specs.Expansion.{whole_list}
use Rattle.program_units.specs.Refusals.{expansion, list_unless, unit_refusal}
use Rattle.program_units.specs.Units.{Call, call_in, guard_of, in_first, is_end, unit_at, unit_or_none, units}
use Rattle.program_units.specs.Widths.{body_width, width, width_by}
use Rattle.unit_laws.proofs.CopyWidths.{whole_length}
use Rattle.f77_source.specs.declared.source_end.Code.TheVariants as code
use Rattle.f77_source.specs.declared.source_end.Refusal.{Refusal}
use Rattle.f77_source.specs.Listed.{is_one_unit, listed}
use Rattle.f77_source.specs.Reading.{layout_refusal, most_classes, program_from, program_in, program_laid, program_of, reading, statement_before, statements_in, statements_of, statements_read, stmt_refusal, sub_refusal, told}
use Rattle.refusal_laws.specs.ToldLines.{IsLineOf, IsToldIn, LiesIn}
use Rattle.refusal_laws.proofs.CopyLines.{whole-stands}
use Rattle.refusal_laws.proofs.Elements.{each-all, each-found}
use Rattle.refusal_laws.proofs.LaidLines.{LaidAt, Stand, laid-stands, last-stands}
use Rattle.refusal_laws.proofs.TextLines.{CutAt, RawStand, ReadAt, reading-at, text-cut}
use Rattle.refusal_laws.proofs.UnitLines.{IsUnitAt, UnitAt, stands-there, unit-stands, units-stand}

-- ---- the lists of units have statements

some-units : (stmts : List Labelled) → 0 < length stmts → 0 < length (units stmts)
some-units [] some = some
some-units (s ∷ rest) some = by (is_end s.stmt)
  where
    first : (us : List (List Labelled)) → 0 < length (in_first s us)
    first [] = omega arith
    first (u ∷ us) = omega arith

    by : (b : Bool) → 0 < length (if b then (s ∷ []) ∷ units rest else in_first s (units rest))
    by true = omega arith
    by false = first (units rest)

some-wide : (body : ℕ → ℕ) (us : List (List Labelled)) (guard : Option RawExpr) (call : Option Call) → 0 < width_by body us guard call
some-wide body us guard None = omega arith
some-wide body us None (Some call) = omega arith
some-wide body us (Some condition) (Some call) = omega arith

some-whole : (us : List (List Labelled)) (main : List Labelled) → unit_at us 0 ≡ main → 0 < length main → 0 < length (whole_list us)
some-whole us [] is some = absurd (omega (arith, some))
some-whole us (s ∷ rest) is some =
    let wide : ℕ → ℕ = body_width us (length us) in
    let long = whole_length us in
    let first = some-wide wide us (guard_of s.stmt) (call_in s.stmt) in
    let all : sum_by (width wide us 0) (unit_at us 0) ≡ width_by wide us (guard_of s.stmt) (call_in s.stmt) + sum_by (width wide us 0) rest = rw is (sum_by-cons (width wide us 0) s rest) in
    omega (arith, long, first, all)

-- ---- what is told of a refusal at a line

module _ (count : ℕ) where
  abbrev P : ℕ → Type 0
  P line = IsLineOf count line

  stmt-told : (end : StmtEnd) → P (stmt_refusal end).line → IsToldIn count (stmt_refusal end)
  stmt-told stmt.NoMemory at = at
  stmt-told _ at = at

  layout-told : (end : LayoutEnd) → P (layout_refusal end).line → IsToldIn count (layout_refusal end)
  layout-told layout.NoMemory at = at
  layout-told _ at = at

  sub-told : (end : SubEnd) → (end ≢ sub.NoMemory) → P (sub_refusal end).line → IsToldIn count (sub_refusal end)
  sub-told (sub.Layout end) no_want at = layout-told end at
  sub-told sub.NoMemory no_want at = absurd (no_want refl)
  sub-told _ no_want at = at

  -- ---- statements

  abbrev StatementsAt : (n : ℕ) → Result (List Labelled) Refusal → Type 0
  StatementsAt n (Ok stmts) = (length stmts ≡ n) × Stand P stmts
  StatementsAt n (Err refusal) = IsToldIn count refusal

  before-at : (n : ℕ) (r : Result Labelled StmtEnd) (more : Result (List Labelled) Refusal) → ReadAt P r → StatementsAt n more → StatementsAt (suc n) (statement_before r more)
  before-at n (Err end) more at rest = stmt-told end at.1
  before-at n (Ok s) (Err refusal) at rest = rest
  before-at n (Ok s) (Ok more) at rest = (omega (arith, rest.0), (at, rest.1))

  statements-at : (raws : List RawStmt) → RawStand P raws → StatementsAt (length raws) (statements_of raws)
  statements-at [] all = (refl, tt)
  statements-at (raw ∷ more) all = before-at (length more) (reading_of raw) (statements_of more) (reading-at P raw all.0) (statements-at more all.1)

  -- ---- programs

  module _ (checked : Bool) where
    -- the program that these statements make is refused at such a line, if it is
    Fits : Result (List Labelled) SubEnd → Type 0
    Fits listing = IfErr (program_from checked listing) (IsToldIn count)

    many-classes : (line : ℕ) (p : Program) (b : Bool) → P line → IfErr (if b then Err (told code.TooManyClasses line) else Ok p) (IsToldIn count)
    many-classes line p true at = at
    many-classes line p false at = tt

    laid-at : (line : ℕ) (p : Program) (o : Option LayoutEnd) → P line → IfSome o (LaidAt P) → IfErr (program_laid line (laid.unless_refused o p)) (IsToldIn count)
    laid-at line p (Some end) last at = layout-told end at.1
    laid-at line p None last at = many-classes line p (nat_lt most_classes (number_of_classes p)) last

    list-fits : (list : List Labelled) → 0 < length list → Stand P list → Fits (Ok list)
    unfolding Fits
    list-fits list some all =
        let last = last-stands P list some all in
        laid-at (laid.last_line list) (laid.program list checked) (laid.refusal list checked) last (laid-stands P list checked all last)

    unless-fits : (o : Option SubEnd) (list : List Labelled) → IfSome o (UnitAt P) → Fits (Ok list) → Fits (list_unless o list)
    unfolding Fits
    unless-fits None list at fits = fits
    unless-fits (Some end) list at fits = sub-told end at.0 at.2

    if-fits : (b : Bool) (first second : Result (List Labelled) SubEnd) → Fits first → Fits second → Fits (if b then first else second)
    if-fits true first second one several = one
    if-fits false first second one several = several

    listed-fits : (stmts : List Labelled) → 0 < length stmts → Stand P stmts → Fits (listed stmts checked)
    listed-fits stmts some all =
        let us : List (List Labelled) = units stmts in
        let each = units-stand P stmts all in
        let main : IsUnitAt P (unit_at us 0) = each-found (IsUnitAt P) (λ o. IsUnitAt P (unit_or_none o)) (λ u unit. unit) us 0 (some-units stmts some) each in
        let end = last-stands P (unit_at us 0) main.0 main.1 in
        let whole = list-fits (whole_list us) (some-whole us (unit_at us 0) refl main.0) (whole-stands P us (stands-there P us each) end) in
        if-fits (is_one_unit stmts) (Ok stmts) (expansion stmts checked) (list-fits stmts some all) (unless-fits (unit_refusal stmts checked) (whole_list us) (unit-stands P stmts checked all end) whole)

    program-at : (n : ℕ) (r : Result (List Labelled) Refusal) → 0 < n → StatementsAt n r → IfErr (program_of checked r) (IsToldIn count)
    unfolding Fits
    program-at n (Ok stmts) some at = listed-fits stmts (omega (arith, some, at.0)) at.1
    program-at n (Err refusal) some at = at

    cut-at : (r : Result (List RawStmt) FormEnd) → CutAt count r → IfErr (program_in checked r) (IsToldIn count)
    cut-at (Ok raws) at = program-at (length raws) (statements_of raws) at.0 (statements-at raws at.1)
    cut-at (Err end) at = at.1

  read-at : (n : ℕ) (r : Result (List Labelled) Refusal) → StatementsAt n r → IfErr r (IsToldIn count)
  read-at n (Ok stmts) at = tt
  read-at n (Err refusal) at = at

  statements-cut : (r : Result (List RawStmt) FormEnd) → CutAt count r → IfErr (statements_in r) (IsToldIn count)
  statements-cut (Ok raws) at = read-at (length raws) (statements_of raws) (statements-at raws at.1)
  statements-cut (Err end) at = at.1

told-by : {A : Type 0} (bytes : List ℕ) (r : Result A Refusal) (refusal : Refusal) → IfErr r (LiesIn bytes) → r ≡ Err refusal → LiesIn bytes refusal
told-by bytes r refusal at is = subst (λ x. IfErr x (LiesIn bytes)) is at

pub refusal-lies : (bytes : List ℕ) (checked : Bool) (refusal : Refusal) → reading bytes checked ≡ Err refusal → LiesIn bytes refusal
refusal-lies bytes checked refusal is = told-by bytes (reading bytes checked) refusal (cut-at (length (source_lines bytes)) checked (lines.reading bytes) (text-cut bytes)) is

pub statement-lies : (bytes : List ℕ) (refusal : Refusal) → statements_read bytes ≡ Err refusal → LiesIn bytes refusal
statement-lies bytes refusal is = told-by bytes (statements_read bytes) refusal (statements-cut (length (source_lines bytes)) (lines.reading bytes) (text-cut bytes)) is

-- ---- want of memory

abbrev Any : ℕ → Type 0
Any line = Unit {0}

anywhere : (stmts : List Labelled) → Stand Any stmts
anywhere stmts = each-all (λ s. Unit {0}) (λ s. tt) stmts

pub lines-have-memory : (bytes : List ℕ) → lines.reading bytes ≢ Err form.NoMemory
lines-have-memory bytes = by (lines.reading bytes) (text-cut bytes)
  where
    by : (r : Result (List RawStmt) FormEnd) → CutAt (length (source_lines bytes)) r → r ≢ Err form.NoMemory
    by (Ok raws) at is = cc
    by (Err end) at is = at.0 cc

pub statements-have-memory : (raw : RawStmt) → reading_of raw ≢ Err stmt.NoMemory
statements-have-memory raw = by (reading_of raw) (reading-at Any raw tt)
  where
    by : (r : Result Labelled StmtEnd) → ReadAt Any r → r ≢ Err stmt.NoMemory
    by (Ok s) at is = cc
    by (Err end) at is = at.0 cc

pub layouts-have-memory : (stmts : List Labelled) (checked : Bool) → laid.layout stmts checked ≢ Err layout.NoMemory
layouts-have-memory stmts checked = by (laid.refusal stmts checked) (laid.program stmts checked) (laid-stands Any stmts checked (anywhere stmts) tt)
  where
    by : (o : Option LayoutEnd) (p : Program) → IfSome o (LaidAt Any) → laid.unless_refused o p ≢ Err layout.NoMemory
    by None p at is = cc
    by (Some end) p at is = at.0 cc

units-have : (want : SubEnd) → (UnitAt Any want → ⊥) → (stmts : List Labelled) (checked : Bool) → listed stmts checked ≢ Err want
units-have want none stmts checked = by (is_one_unit stmts) (unit_refusal stmts checked) (whole_list (units stmts)) (unit-stands Any stmts checked (anywhere stmts) tt)
  where
    by : (b : Bool) (o : Option SubEnd) (list : List Labelled) → IfSome o (UnitAt Any) → (if b then Ok stmts else list_unless o list) ≢ Err want
    by true o list at is = cc
    by false None list at is = cc
    by false (Some end) list at is = let same : end ≡ want = cc in none (subst (UnitAt Any) same at)

pub units-have-memory : (stmts : List Labelled) (checked : Bool) → listed stmts checked ≢ Err sub.NoMemory
units-have-memory = units-have sub.NoMemory (λ at. at.0 refl)

pub unit-layouts-have-memory : (stmts : List Labelled) (checked : Bool) → listed stmts checked ≢ Err (sub.Layout layout.NoMemory)
unit-layouts-have-memory = units-have (sub.Layout layout.NoMemory) (λ at. at.1 refl)
