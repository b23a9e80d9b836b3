-- Whole statements, by what is kept of them, and the one answer that is due.
use Rattle.std.proofs.Common.{◌≡◌, ◌≢◌, ◌≤◌, ℕ, Bool, true, false, List, [], Option, Some, None, Result, Ok, Err, if◌then◌else◌, refl, sym, ap, ◌∙◌}
use Rattle.std.specs.Prelude.{nat_lt, IfOk, IfErr, IsTrue}
use Rattle.std.specs.List.{list_all}
use Rattle.std.proofs.lemmas.Bool.{lt-ltb, le-ltb, ltb-true, ltb-false}
use Rattle.f77_tree.specs.declared.statements.Stmt.{Stmt}
use Rattle.f77_tree.specs.declared.statements.Labelled.{Labelled}
use Rattle.f77_tree.specs.StatementGrammar.{WrittenStatement, IsWrittenStatement, IsReadAs, IsGiven, is_printable, statement_of, has_bad_constant}
use Rattle.fixed_form.specs.declared.raw_stmt.RawStmt.{RawStmt}
use Rattle.f77_expr.specs.Piece.{bracket_depth, deepest_allowed}
use Rattle.f77_expr.proofs.EachRead.{if_true, if_false}
use Rattle.f77_parse.specs.declared.stmt_end.StmtEnd.{StmtEnd}
use Rattle.f77_parse.specs.declared.stmt_end.StmtEnd.TheVariants.{NoForm, BadConstant, TooDeep, NoMemory}
use Rattle.f77_parse.specs.Forms.{stands_free, statement_at}
use Rattle.f77_parse.specs.Keeping.{Keeps}
use Rattle.f77_parse.specs.KeptForms.{kept_whole, form_kept}
use Rattle.f77_parse.specs.KeptValues.{kept_statement}
use Rattle.f77_parse.specs.Parsing.{HasBadConstant, IsParsed, answer_for, reading_of}
use Rattle.f77_parse.proofs.FollowFormsWhole.{told_whole, statement_told}
use Rattle.f77_parse.proofs.FormsReadsWhole.{statement_reads}
use Rattle.f77_parse.proofs.FormsSoundWhole.{statement_sound}
use Rattle.f77_parse.proofs.KeptStatements.{statement_good}

-- ---- what is kept of a text

-- by the marks of the whole of it
abbrev pub marked_form : List ℕ → Keeps Stmt
marked_form text = form_kept (stands_free 61 text) (stands_free 44 text) false text

-- the statement that a whole text is, by what the code keeps of it
pub record IsKeptOf (text : List ℕ) (stmt : Stmt) (bad : Bool) : Type 0 where
  pub written : WrittenStatement
  pub is_read : statement_at text ≡ Some written
  pub is_bad : bad ≡ has_bad_constant written
  pub is : stmt ≡ kept_statement written

same_kept : {V : Type 0} (v w : V) (b c : Bool) (s t : List ℕ) → ◌≡◌ {A = Keeps V} (Some (v, b, s)) (Some (w, c, t)) → (v ≡ w) × (b ≡ c)
same_kept {V = V} v w b c s t e =
    let all : ◌≡◌ {A = V × Bool × List ℕ} (v, b, s) (w, c, t) = cc in
    (ap (λ (x : V × Bool × List ℕ). x.0) all, ap (λ (x : V × Bool × List ℕ). x.1) all)

kept_of : (text : List ℕ) (stmt : Stmt) (bad : Bool) (rest : List ℕ) → kept_whole (marked_form text) ≡ Some (stmt, bad, rest) → IsKeptOf text stmt bad
kept_of text stmt bad rest e = here (statement_at text) refl (sym (statement_told text) ∙ e)
  where
    here : (x : Option WrittenStatement) → statement_at text ≡ x → told_whole x ≡ Some (stmt, bad, rest) → IsKeptOf text stmt bad
    here None is h = absurd cc
    here (Some s) is h = let same = same_kept (kept_statement s) stmt (has_bad_constant s) bad [] rest h in record { written = s; is_read = is; is_bad = sym same.1; is = sym same.0 }

none_kept : (text : List ℕ) → kept_whole (marked_form text) ≡ None → statement_at text ≡ None
none_kept text e = here (statement_at text) (sym (statement_told text) ∙ e)
  where
    here : (x : Option WrittenStatement) → told_whole x ≡ None → x ≡ None
    here None h = refl
    here (Some s) h = absurd cc

-- ---- the answers

pub no_form : (text : List ℕ) → statement_at text ≡ None → (s : WrittenStatement) → IsWrittenStatement text s → ⊥
no_form text none s spells = let some = statement_reads text s spells in absurd cc

pub not_told : (text : List ℕ) → kept_whole (marked_form text) ≡ None → (s : WrittenStatement) → IsWrittenStatement text s → ⊥
not_told text e = no_form text (none_kept text e)

module _ (text : List ℕ) (stmt : Stmt) (bad : Bool) (rest : List ℕ) (e : kept_whole (marked_form text) ≡ Some (stmt, bad, rest)) where
  pub read_bad : bad ≡ true → HasBadConstant text
  read_bad is_bad =
      let k = kept_of text stmt bad rest e in
      record { written = k.written; spells = statement_sound text k.written k.is_read; constant = sym k.is_bad ∙ is_bad }

  pub read_good : bad ≡ false → IsReadAs text stmt
  read_good good =
      let k = kept_of text stmt bad rest e in
      let small : has_bad_constant k.written ≡ false = sym k.is_bad ∙ good in
      record { written = k.written; spells = statement_sound text k.written k.is_read; is = sym (k.is ∙ statement_good k.written small); constants = small }

-- the marks that a scan found are those of the whole text
pub as_marked : (equals comma bad : Bool) (rest text : List ℕ) → equals ≡ stands_free 61 text → comma ≡ stands_free 44 text → bad ≡ false → rest ≡ text → kept_whole (form_kept equals comma bad rest) ≡ kept_whole (marked_form text)
as_marked equals comma bad rest text equals_is comma_is bad_is rest_is =
    ap (λ (b : Bool). kept_whole (form_kept b comma bad rest)) equals_is
    ∙ ap (λ (b : Bool). kept_whole (form_kept (stands_free 61 text) b bad rest)) comma_is
    ∙ ap (λ (b : Bool). kept_whole (form_kept (stands_free 61 text) (stands_free 44 text) b rest)) bad_is
    ∙ ap (λ (r : List ℕ). kept_whole (form_kept (stands_free 61 text) (stands_free 44 text) false r)) rest_is

-- ---- the one answer that is due

answer_due : (raw : RawStmt) → bracket_depth raw.text ≤ deepest_allowed → (x : Option WrittenStatement) → statement_at raw.text ≡ x → IsParsed raw (answer_for raw x)
answer_due raw few None is = (few, no_form raw.text is, refl)
answer_due raw few (Some s) is = here (has_bad_constant s) refl
  where
    here : (bad : Bool) → has_bad_constant s ≡ bad → IsParsed raw (if bad then Err (BadConstant raw.line) else Ok (record { label = raw.label; line = raw.line; stmt = statement_of s }))
    here true is_bad = (few, record { written = s; spells = statement_sound raw.text s is; constant = is_bad }, refl)
    here false good = (few, record { written = s; spells = statement_sound raw.text s is; is = refl; constants = good }, refl, refl)

pub reading_due : (raw : RawStmt) → IsParsed raw (reading_of raw)
reading_due raw = here (nat_lt deepest_allowed (bracket_depth raw.text)) refl
  where
    here : (deep : Bool) → nat_lt deepest_allowed (bracket_depth raw.text) ≡ deep → IsParsed raw (if deep then Err (TooDeep raw.line) else answer_for raw (statement_at raw.text))
    here true deep = (ltb-true deepest_allowed (bracket_depth raw.text) deep, refl)
    here false few = answer_due raw (ltb-false deepest_allowed (bracket_depth raw.text) few) (statement_at raw.text) refl

-- where brackets are few
few_read : (raw : RawStmt) → bracket_depth raw.text ≤ deepest_allowed → reading_of raw ≡ answer_for raw (statement_at raw.text)
few_read raw few = if_false (nat_lt deepest_allowed (bracket_depth raw.text)) (Err (TooDeep raw.line)) (answer_for raw (statement_at raw.text)) (le-ltb deepest_allowed (bracket_depth raw.text) few)

-- by the statement that the text spells
spelled : (raw : RawStmt) → bracket_depth raw.text ≤ deepest_allowed → (s : WrittenStatement) → IsWrittenStatement raw.text s → reading_of raw ≡ answer_for raw (Some s)
spelled raw few s is = few_read raw few ∙ ap (answer_for raw) (statement_reads raw.text s is)

none_due : (raw : RawStmt) → ((s : WrittenStatement) → IsWrittenStatement raw.text s → ⊥) → (x : Option WrittenStatement) → statement_at raw.text ≡ x → answer_for raw x ≡ Err (NoForm raw.line)
none_due raw none None is = refl
none_due raw none (Some s) is = absurd (none s (statement_sound raw.text s is))

pub answer_read : (raw : RawStmt) (labelled : Labelled) → IsParsed raw (Ok labelled) → reading_of raw ≡ Ok labelled
answer_read raw labelled h =
    let s = h.1.written in
    let made : Labelled = record { label = raw.label; line = raw.line; stmt = statement_of s } in
    spelled raw h.0 s h.1.spells
    ∙ if_false (has_bad_constant s) (Err (BadConstant raw.line)) (Ok made) h.1.constants
    ∙ ap (λ (label : ℕ). Ok (record made { label = label })) (sym h.2)
    ∙ ap (λ (line : ℕ). Ok (record { label = labelled.label; line = line; stmt = statement_of s })) (sym h.3)
    ∙ ap (λ (stmt : Stmt). Ok (record { label = labelled.label; line = labelled.line; stmt = stmt })) h.1.is

pub answer_refused : (raw : RawStmt) (end : StmtEnd) → IsParsed raw (Err end) → end ≢ NoMemory → reading_of raw ≡ Err end
answer_refused raw (TooDeep line) h some =
    if_true (nat_lt deepest_allowed (bracket_depth raw.text)) (Err (TooDeep raw.line)) (answer_for raw (statement_at raw.text)) (lt-ltb deepest_allowed (bracket_depth raw.text) h.0)
    ∙ ap (λ (n : ℕ). Err (TooDeep n)) (sym h.1)
answer_refused raw (NoForm line) h some =
    few_read raw h.0 ∙ none_due raw h.1 (statement_at raw.text) refl ∙ ap (λ (n : ℕ). Err (NoForm n)) (sym h.2)
answer_refused raw (BadConstant line) h some =
    let s = h.1.written in
    spelled raw h.0 s h.1.spells
    ∙ if_true (has_bad_constant s) (Err (BadConstant raw.line)) (Ok (record { label = raw.label; line = raw.line; stmt = statement_of s })) h.1.constant
    ∙ ap (λ (n : ℕ). Err (BadConstant n)) (sym h.2)
answer_refused raw NoMemory h some = absurd (some refl)

pub only_reading : (raw : RawStmt) (answer : Result Labelled StmtEnd) → IsParsed raw answer → answer ≢ Err NoMemory → answer ≡ reading_of raw
only_reading raw (Ok labelled) h some = sym (answer_read raw labelled h)
only_reading raw (Err end) h some = sym (answer_refused raw end h (λ e. some (ap (λ (x : StmtEnd). Err x) e)))

-- ---- the clauses of a result

pub accepted_of : (raw : RawStmt) (result : Result Labelled StmtEnd) → IsParsed raw result → IfOk result (λ labelled. reading_of raw ≡ Ok labelled)
accepted_of raw (Ok labelled) h = answer_read raw labelled h
accepted_of raw (Err end) h = tt

pub refused_of : (raw : RawStmt) (result : Result Labelled StmtEnd) → IsParsed raw result → IfErr result (λ end. end ≢ NoMemory → reading_of raw ≡ Err end)
refused_of raw (Ok labelled) h = tt
refused_of raw (Err end) h = answer_refused raw end h

pub given_of : (raw : RawStmt) (result : Result Labelled StmtEnd) → IsParsed raw result → IfOk result (λ labelled. IsTrue (list_all is_printable raw.text) → IsGiven labelled.stmt)
given_of raw (Ok labelled) h = λ printable. record { text = raw.text; printable = printable; is_read = h.1 }
given_of raw (Err end) h = tt
