-- Tables of available expressions that tell the same have one shared form.
use Rattle.std.proofs.Common.{◌≡◌, ℕ, ◌+◌, pos, Bool, List, [], ◌∷◌, ◌++◌, length, map, flat_map, filter, count_by, Option, Some, None, refl, ap, ◌∙◌}
use Rattle.std.specs.Prelude.{◌||◌, nat_lt, if◌then◌else◌, replicate, slice_get, slice_index_or}
use Rattle.std.specs.List.{range_with_len}
use mathlib.Core.Path.{fun_ext}
use Rattle.f77_tree.specs.declared.expressions.Access.{Access}
use Rattle.f77_tree.specs.declared.expressions.Expr.{Expr, Const, Truth, Input, Read, Read', Apply, Apply', Row_of-Expr, end_of-Expr, more_of-Expr}
use Rattle.f77_tree.specs.declared.programs.Item.{Item}
use Rattle.f77_tree.specs.declared.programs.Item.TheVariants.{Value, Chars}
use Rattle.f77_tree.specs.declared.programs.NameInfo.{NameInfo}
use Rattle.f77_tree.specs.declared.programs.Program.{Program}
use Rattle.f77_tree.specs.Line.{kind_of_expression}
use Rattle.flat_programs.specs.declared.statements.Flat.{Flat}
use Rattle.flat_programs.specs.declared.statements.Flat.TheVariants.{Mark, Assignment, Output, LogicalIf, ArithmeticIf, ComputedGoTo, DoLoop, Jump, Finish}
use Rattle.flat_programs.specs.declared.statements.FlatLine.{FlatLine}
use Rattle.flat_programs.specs.Executables.{first_of, program_of}
use Rattle.flat_programs.specs.Text.{has_long_text}
use Rattle.redundancy.specs.Available.{Availability}
use Rattle.shared_forms.specs.declared.ends.RewriteEnd.{RewriteEnd}
use Rattle.shared_forms.specs.declared.ends.RewriteEnd.TheVariants.{TooManyNames, TooManyStatements, LongText}
use Rattle.shared_forms.specs.Shared.{candidate, due, expression_in, has_many_names, is_shared, kept_value, most_words, refusal, replaced, replaced_access, replaced_in, replaced_item, row_replaced, scalar, shared, shared_flat, shared_lines, shared_program, temporaries, temporary, temporary_at, temporary_or, with_temporaries}
use Rattle.simplified_forms.specs.Simplified.{has_many_statements}
use Rattle.shared_forms.specs.Temporaries.{free_names}

module _ (q : Program) (a b : Availability) (number : Expr → Option ℕ) (candidates : a.candidates ≡ b.candidates) (shares : is_shared q a number ≡ is_shared q b number) (dues : due q a number ≡ due q b number) where
  -- ---- temporaries

  temporary_same : temporary q a number ≡ temporary q b number
  temporary_same = fun_ext (λ n. ap (λ (f : ℕ → Bool). length q.names + count_by f (range_with_len 0 n)) shares)

  candidate_same : candidate q a number ≡ candidate q b number
  candidate_same = fun_ext (λ n. ap (λ (es : List Expr). expression_in (slice_get es n)) candidates)

  list_same : shared q a number ≡ shared q b number
  list_same =
      ap (λ (es : List Expr). filter (is_shared q a number) (range_with_len 0 (length es))) candidates
      ∙ ap (λ (f : ℕ → Bool). filter f (range_with_len 0 (length b.candidates))) shares

  temporary_at_same : (j : ℕ) (o : Option ℕ) → temporary_at q a number j o ≡ temporary_at q b number j o
  temporary_at_same j None = refl
  temporary_at_same j (Some n) = ap (λ (f : ℕ → Expr). record { name = slice_index_or (free_names q.names) j []; kind = kind_of_expression q.names (f n); dims = []; place = q.words + j } ∷ []) candidate_same

  temporaries_same : temporaries q a number ≡ temporaries q b number
  temporaries_same =
      ap (λ (ns : List ℕ). flat_map (λ j. temporary_at q a number j (slice_get ns j)) (range_with_len 0 (length ns))) list_same
      ∙ ap (λ (f : ℕ → List NameInfo). flat_map f (range_with_len 0 (length (shared q b number)))) (fun_ext (λ j. temporary_at_same j (slice_get (shared q b number) j)))

  abbrev longer : List NameInfo → List ℕ → Program
  longer infos ns = record q { names = q.names ++ infos; words = q.words + length ns; initial = q.initial ++ replicate (length ns) (pos 0) }

  table_same : with_temporaries q a number ≡ with_temporaries q b number
  table_same = ap (λ (infos : List NameInfo). longer infos (shared q a number)) temporaries_same ∙ ap (longer (temporaries q b number)) list_same

  -- ---- expressions

  or_same : (o : Option ℕ) (e : Expr) → temporary_or q a number o e ≡ temporary_or q b number o e
  or_same None e = refl
  or_same (Some n) e =
      ap (λ (f : ℕ → Bool). if f n then Read (scalar q a number (temporary q a number n)) else e) shares
      ∙ ap (λ (f : ℕ → ℕ). if is_shared q b number n then Read (scalar q b number (f n)) else e) temporary_same

  mutual
    replaced_at : (e : Expr) → replaced q a number e ≡ replaced q b number e
    replaced_at (Const z) = refl
    replaced_at (Truth b) = refl
    replaced_at Input = refl
    replaced_at (Read' name shape subs) = ap (λ (es : List Expr). Read (record { name = name; subs = es })) (row_at _ subs)
    replaced_at (Apply' op shape args) =
        or_same (number (Apply' op shape args)) (Apply op (row_replaced q a number args))
        ∙ ap (λ (es : List Expr). temporary_or q b number (number (Apply' op shape args)) (Apply op es)) (row_at _ args)

    row_at : (m : _) (row : Row_of-Expr m) → row_replaced q a number row ≡ row_replaced q b number row
    row_at m end_of-Expr = refl
    row_at m (more_of-Expr e rest) =
        ap (λ (d : Expr). d ∷ row_replaced q a number rest) (replaced_at e)
        ∙ ap (λ (es : List Expr). replaced q b number e ∷ es) (row_at _ rest)

  replaced_same : replaced q a number ≡ replaced q b number
  replaced_same = fun_ext replaced_at

  -- ---- statements

  item_at : (item : Item) → replaced_item q a number item ≡ replaced_item q b number item
  item_at (Value e) = ap Value (replaced_at e)
  item_at (Chars text) = refl

  access_at : (x : Access) → replaced_access q a number x ≡ replaced_access q b number x
  access_at x = ap (λ (f : Expr → Expr). record { name = x.name; subs = map f x.subs }) replaced_same

  statement_at : (stmt : Flat) → replaced_in q a number stmt ≡ replaced_in q b number stmt
  statement_at Mark = refl
  statement_at (Assignment target value) =
      ap (λ (x : Access). Assignment x (replaced q a number value)) (access_at target)
      ∙ ap (λ (e : Expr). Assignment (replaced_access q b number target) e) (replaced_at value)
  statement_at (Output items) = ap (λ (f : Item → Item). Output (map f items)) (fun_ext item_at)
  statement_at (LogicalIf cond target) = ap (λ (e : Expr). LogicalIf e target) (replaced_at cond)
  statement_at (ArithmeticIf value below at above) = ap (λ (e : Expr). ArithmeticIf e below at above) (replaced_at value)
  statement_at (ComputedGoTo value targets) = ap (λ (e : Expr). ComputedGoTo e targets) (replaced_at value)
  statement_at (DoLoop end var first last step) = ap (λ (f : Expr → Expr). DoLoop end var (f first) (f last) (f step)) replaced_same
  statement_at (Jump target) = refl
  statement_at Finish = refl

  kept_same : (line : ℕ) → kept_value q a number line ≡ kept_value q b number line
  kept_same line = fun_ext (λ n.
      ap (λ (f : ℕ → ℕ). record { line = line; stmt = Assignment (scalar q a number (f n)) (candidate q a number n) }) temporary_same
      ∙ ap (λ (f : ℕ → Expr). record { line = line; stmt = Assignment (scalar q b number (temporary q b number n)) (f n) }) candidate_same)

  abbrev put : (ℕ → FlatLine) → List ℕ → (line : ℕ) → Flat → List FlatLine
  put kept ns line stmt = map kept ns ++ record { line = line; stmt = stmt } ∷ []

  lines_at : (first : ℕ) (o : Option FlatLine) → shared_lines q a number first o ≡ shared_lines q b number first o
  lines_at first None = refl
  lines_at first (Some l) =
      ap (λ (kept : ℕ → FlatLine). put kept (due q a number first) l.line (replaced_in q a number l.stmt)) (kept_same l.line)
      ∙ ap (λ (f : ℕ → List ℕ). put (kept_value q b number l.line) (f first) l.line (replaced_in q a number l.stmt)) dues
      ∙ ap (put (kept_value q b number l.line) (due q b number first) l.line) (statement_at l.stmt)

  flat_at : (flat : List FlatLine) → shared_flat q a number flat ≡ shared_flat q b number flat
  flat_at flat = ap (λ (f : ℕ → List FlatLine). flat_map f (range_with_len 0 (length flat))) (fun_ext (λ place. lines_at (first_of flat place) (slice_get flat place)))

  -- ---- the shared form, and why there is none

  pub program_at : (flat : List FlatLine) → shared_program q a number flat ≡ shared_program q b number flat
  program_at flat =
      ap (λ (x : Program). program_of x (shared_flat q a number flat)) table_same
      ∙ ap (program_of (with_temporaries q b number)) (flat_at flat)

  names_same : has_many_names q a number ≡ has_many_names q b number
  names_same = ap (λ (ns : List ℕ). nat_lt (length (free_names q.names)) (length ns) || nat_lt most_words (q.words + length ns)) list_same

  abbrev refused : Bool → Program → List FlatLine → Option RewriteEnd
  refused many x flat =
      if many then Some TooManyNames
      else if has_many_statements x flat then Some TooManyStatements
      else if has_long_text x flat then Some LongText
      else None

  pub refusal_at : (flat : List FlatLine) → refusal q a number flat ≡ refusal q b number flat
  refusal_at flat =
      ap (λ (many : Bool). refused many (with_temporaries q a number) (shared_flat q a number flat)) names_same
      ∙ ap (λ (x : Program). refused (has_many_names q b number) x (shared_flat q a number flat)) table_same
      ∙ ap (refused (has_many_names q b number) (with_temporaries q b number)) (flat_at flat)
