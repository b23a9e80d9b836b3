-- A statement that the grammar writes so is what is read from its text, and no text is two statements.
use Rattle.std.proofs.Common.{◌≡◌, ℕ, true, false, List, [], Option, Some, if◌then◌else◌, refl, sym, ap, ◌∙◌}
use Rattle.f77_tree.specs.Grammar.{Written, IsGrammatical}
use Rattle.f77_tree.specs.StatementGrammar.{PrintForm, ReadForm, WrittenStatement, statement_text, is_simple, IsStatement, IsWrittenStatement}
use Rattle.f77_parse.specs.Forms.{stands_free, whole, do_at, equals_at, simple_at, keyword_at, form_at, statement_at}
use Rattle.f77_expr.proofs.EachRead.{if_true, if_false}
use Rattle.f77_parse.proofs.FormsFree.{has_equals, no_equals, assignment_equals, assignment_comma, conditional_free, do_equals, do_comma}
use Rattle.f77_parse.proofs.FormsReads.{has_own_keyword, simple_reads}
use Rattle.f77_parse.proofs.FormsReadsIf.{arithmetic_if_reads, block_if_reads, else_if_reads, own_if_reads, nested_if_reads}
use Rattle.f77_parse.proofs.FormsReadsAssigned.{assignment_reads, conditional_reads, do_reads}
use Rattle.f77_parse.proofs.FormsReadsDeclared.{program_reads, subroutine_reads, implicit_reads, typed_reads, dimension_reads, common_reads, equivalence_reads, data_reads}

-- a simple form by its own keyword
own_keyword : (s : WrittenStatement) → has_own_keyword s ≡ true → keyword_at (statement_text s) ≡ simple_at (statement_text s)
own_keyword (WrittenStatement.print PrintForm.Print_star items) own = refl
own_keyword (WrittenStatement.print PrintForm.Write_star items) own = refl
own_keyword (WrittenStatement.print PrintForm.Write_six items) own = refl
own_keyword (WrittenStatement.read ReadForm.Read_star targets) own = refl
own_keyword (WrittenStatement.read ReadForm.Read_unit_star targets) own = refl
own_keyword (WrittenStatement.read ReadForm.Read_five targets) own = refl
own_keyword WrittenStatement.continue own = refl
own_keyword (WrittenStatement.stop shown) own = refl
own_keyword (WrittenStatement.go_to label) own = refl
own_keyword (WrittenStatement.computed_go_to labels comma v) own = refl
own_keyword (WrittenStatement.call_of name arguments) own = refl
own_keyword WrittenStatement.go_back own = refl
own_keyword _ own = absurd cc

own_reads : (s : WrittenStatement) → IsStatement s → has_own_keyword s ≡ true → keyword_at (statement_text s) ≡ Some (s, [])
own_reads s h own = own_keyword s own ∙ simple_reads s h own

-- ---- the three ways

by_keyword : (s : WrittenStatement) → IsStatement s → has_equals s ≡ false → keyword_at (statement_text s) ≡ Some (s, []) → form_at (statement_text s) ≡ Some (s, [])
by_keyword s h none e =
    if_false (stands_free 61 (statement_text s)) (if stands_free 44 (statement_text s) then do_at (statement_text s) else equals_at (statement_text s)) (keyword_at (statement_text s)) (no_equals s h none) ∙ e

by_equals : (s : WrittenStatement) → stands_free 61 (statement_text s) ≡ true → stands_free 44 (statement_text s) ≡ false → equals_at (statement_text s) ≡ Some (s, []) → form_at (statement_text s) ≡ Some (s, [])
by_equals s equals none e =
    if_true (stands_free 61 (statement_text s)) (if stands_free 44 (statement_text s) then do_at (statement_text s) else equals_at (statement_text s)) (keyword_at (statement_text s)) equals
    ∙ if_false (stands_free 44 (statement_text s)) (do_at (statement_text s)) (equals_at (statement_text s)) none ∙ e

by_do : (s : WrittenStatement) → stands_free 61 (statement_text s) ≡ true → stands_free 44 (statement_text s) ≡ true → do_at (statement_text s) ≡ Some (s, []) → form_at (statement_text s) ≡ Some (s, [])
by_do s equals comma e =
    if_true (stands_free 61 (statement_text s)) (if stands_free 44 (statement_text s) then do_at (statement_text s) else equals_at (statement_text s)) (keyword_at (statement_text s)) equals
    ∙ if_true (stands_free 44 (statement_text s)) (do_at (statement_text s)) (equals_at (statement_text s)) comma ∙ e

-- ---- logical IFs

-- one of a simple form with a keyword of its own
own_if : (w : Written) (s : WrittenStatement) → IsGrammatical w → IsStatement s → has_own_keyword s ≡ true → has_equals s ≡ false → is_simple s ≡ true → form_at (statement_text (WrittenStatement.logical_if w s)) ≡ Some (WrittenStatement.logical_if w s, [])
own_if w s h s_is own none simple = by_keyword (WrittenStatement.logical_if w s) (h, s_is, simple) none (own_if_reads w s h s_is own)

logical_if_reads : (w : Written) (s : WrittenStatement) → IsGrammatical w → IsStatement s → is_simple s ≡ true → form_at (statement_text (WrittenStatement.logical_if w s)) ≡ Some (WrittenStatement.logical_if w s, [])
logical_if_reads w (WrittenStatement.assignment target value) h s_is simple =
    by_equals (WrittenStatement.logical_if w (WrittenStatement.assignment target value))
    (conditional_free 61 refl w (WrittenStatement.assignment target value) h ∙ assignment_equals target value s_is.0)
    (conditional_free 44 refl w (WrittenStatement.assignment target value) h ∙ assignment_comma target value s_is.0 s_is.1)
    (conditional_reads w target value h s_is.0 s_is.1)
logical_if_reads w (WrittenStatement.arithmetic_if v negative zero positive) h s_is simple =
    by_keyword (WrittenStatement.logical_if w (WrittenStatement.arithmetic_if v negative zero positive)) (h, s_is, refl) refl (nested_if_reads w v negative zero positive h s_is)
logical_if_reads w (WrittenStatement.print form items) h s_is simple = own_if w (WrittenStatement.print form items) h s_is refl refl refl
logical_if_reads w (WrittenStatement.read form targets) h s_is simple = own_if w (WrittenStatement.read form targets) h s_is refl refl refl
logical_if_reads w WrittenStatement.continue h s_is simple = own_if w WrittenStatement.continue h s_is refl refl refl
logical_if_reads w (WrittenStatement.stop shown) h s_is simple = own_if w (WrittenStatement.stop shown) h s_is refl refl refl
logical_if_reads w (WrittenStatement.go_to label) h s_is simple = own_if w (WrittenStatement.go_to label) h s_is refl refl refl
logical_if_reads w (WrittenStatement.computed_go_to labels comma v) h s_is simple = own_if w (WrittenStatement.computed_go_to labels comma v) h s_is refl refl refl
logical_if_reads w (WrittenStatement.call_of name arguments) h s_is simple = own_if w (WrittenStatement.call_of name arguments) h s_is refl refl refl
logical_if_reads w WrittenStatement.go_back h s_is simple = own_if w WrittenStatement.go_back h s_is refl refl refl
logical_if_reads w _ h s_is simple = absurd cc

-- ---- all statements

own_form_reads : (s : WrittenStatement) → IsStatement s → has_own_keyword s ≡ true → has_equals s ≡ false → form_at (statement_text s) ≡ Some (s, [])
own_form_reads s h keyword none = by_keyword s h none (own_reads s h keyword)

pub form_reads : (s : WrittenStatement) → IsStatement s → form_at (statement_text s) ≡ Some (s, [])
form_reads (WrittenStatement.program n) h = by_keyword (WrittenStatement.program n) h refl (program_reads n h)
form_reads WrittenStatement.implicit_none h = refl
form_reads (WrittenStatement.implicit letters) h = by_keyword (WrittenStatement.implicit letters) h refl (implicit_reads letters h.0 h.1)
form_reads (WrittenStatement.typed kind decls) h = by_keyword (WrittenStatement.typed kind decls) h refl (typed_reads kind decls h.0 h.1)
form_reads (WrittenStatement.dimension decls) h = by_keyword (WrittenStatement.dimension decls) h refl (dimension_reads decls h.0 h.1 h.2)
form_reads (WrittenStatement.common parts) h = by_keyword (WrittenStatement.common parts) h refl (common_reads parts h)
form_reads (WrittenStatement.equivalence groups) h = by_keyword (WrittenStatement.equivalence groups) h refl (equivalence_reads groups h.0 h.1)
form_reads (WrittenStatement.init parts) h = by_keyword (WrittenStatement.init parts) h refl (data_reads parts h)
form_reads (WrittenStatement.assignment target value) h =
    by_equals (WrittenStatement.assignment target value) (assignment_equals target value h.0) (assignment_comma target value h.0 h.1) (assignment_reads target value h.0 h.1)
form_reads (WrittenStatement.print form items) h = own_form_reads (WrittenStatement.print form items) h refl refl
form_reads (WrittenStatement.read form targets) h = own_form_reads (WrittenStatement.read form targets) h refl refl
form_reads WrittenStatement.continue h = refl
form_reads (WrittenStatement.stop shown) h = own_form_reads (WrittenStatement.stop shown) h refl refl
form_reads (WrittenStatement.go_to label) h = own_form_reads (WrittenStatement.go_to label) h refl refl
form_reads (WrittenStatement.computed_go_to labels comma w) h = own_form_reads (WrittenStatement.computed_go_to labels comma w) h refl refl
form_reads (WrittenStatement.arithmetic_if w negative zero positive) h = by_keyword (WrittenStatement.arithmetic_if w negative zero positive) h refl (arithmetic_if_reads w negative zero positive h)
form_reads (WrittenStatement.logical_if w s) h = logical_if_reads w s h.0 h.1 h.2
form_reads (WrittenStatement.block_if w) h = by_keyword (WrittenStatement.block_if w) h refl (block_if_reads w h)
form_reads (WrittenStatement.else_if w) h = by_keyword (WrittenStatement.else_if w) h refl (else_if_reads w h)
form_reads WrittenStatement.else h = refl
form_reads WrittenStatement.end_if h = refl
form_reads (WrittenStatement.do_loop label comma variable first last step) h =
    by_do (WrittenStatement.do_loop label comma variable first last step) (do_equals label comma variable first last step h.0 h.1) (do_comma label comma variable first last step h.0 h.1 h.2) (do_reads label comma variable first last step h)
form_reads (WrittenStatement.subroutine name dummies) h = by_keyword (WrittenStatement.subroutine name dummies) h refl (subroutine_reads name dummies h.0 h.1)
form_reads (WrittenStatement.call_of name arguments) h = own_form_reads (WrittenStatement.call_of name arguments) h refl refl
form_reads WrittenStatement.go_back h = refl
form_reads WrittenStatement.end h = refl

-- a statement that the grammar writes so is what is read from its text
pub statement_reads : (text : List ℕ) (s : WrittenStatement) → IsWrittenStatement text s → statement_at text ≡ Some s
statement_reads text s is = ap statement_at (sym is.is) ∙ ap whole (form_reads s is.grammatical)

-- no text is two statements
pub one_written_statement : (text : List ℕ) (s other : WrittenStatement) → IsWrittenStatement text s → IsWrittenStatement text other → s ≡ other
one_written_statement text s other is_s is_other =
    let same : ◌≡◌ {A = Option WrittenStatement} (Some s) (Some other) = sym (statement_reads text s is_s) ∙ statement_reads text other is_other in
    cc
