-- Statements that are read text by text.
use Rattle.std.proofs.Common.{◌≡◌, ℕ, ◌+◌, ◌<◌, ◌≤◌, List, [], ◌∷◌, ◌++◌, length, get_or, take, drop, slice_get, Some, Result, Ok, Err, refl, sym, ap, ◌∙◌, ⊎_elim, add-one, All, subst, zero, suc, ◌-◌, true, arith}
use Rattle.std.specs.Prelude.{codes, bytes_eq}
use Rattle.std.proofs.lemmas.Option.{get_or_from_slice_get, slice_get-get_or, slice_get_within}
use Rattle.f77_source.specs.Accepted.{IsAccepted}
use Rattle.f77_source.proofs.Lines.{lines_rise}
use Rattle.fixed_form.specs.Limits.{AreWithinForm, IsWithinForm}
use Rattle.fixed_form.specs.Statement.{ends_with_end}
use Rattle.f77_tree.specs.declared.statements.Stmt.TheVariants.{End}
use Rattle.layout_rules.specs.Source.{EndsWithEnd}
use Rattle.program_units.specs.Texts.{IsText}
use Rattle.std.proofs.lemmas.Slice.Eq.{bytes_eq-Decides}
use Rattle.std.proofs.Math.ListN.{get_or-append}
use Rattle.std.proofs.Math.Nat.{eq-or-lt_of_le}
use Rattle.std.proofs.Math.Seq.{take-suc, drop-cons, get_or-append_seam}
use Rattle.std.proofs.lemmas.List.{get_or_default, length-append, take-append-drop}
use Rattle.std.proofs.lemmas.List.Elements.{All-push}
use Rattle.fixed_form.specs.declared.raw_stmt.RawStmt.{RawStmt}
use Rattle.f77_tree.specs.declared.statements.Labelled.{Labelled}
use Rattle.f77_tree.specs.StatementGrammar.{WrittenStatement, IsWrittenStatement, IsGiven, statement_of}
use Rattle.f77_parse.specs.declared.stmt_end.StmtEnd.{StmtEnd}
use Rattle.f77_parse.specs.Parsing.{IsParsed, reading_of}
use Rattle.f77_source.specs.declared.source_end.Refusal.{Refusal}
use Rattle.f77_source.specs.Reading.{stmt_refusal, statement_before, statements_of}

-- no text is two statements
abbrev pub OneStatement : Type 0
OneStatement = (text : List ℕ) (s other : WrittenStatement) → IsWrittenStatement text s → IsWrittenStatement text other → s ≡ other

-- statements before others
abbrev pub at_start : List Labelled → Result (List Labelled) Refusal → Result (List Labelled) Refusal
at_start stmts (Err refusal) = Err refusal
at_start stmts (Ok more) = Ok (stmts ++ more)

abbrev pub both : Result (List Labelled) Refusal → Result (List Labelled) Refusal → Result (List Labelled) Refusal
both (Err refusal) more = Err refusal
both (Ok stmts) more = at_start stmts more

before_both : (r : Result Labelled StmtEnd) (a b : Result (List Labelled) Refusal) → statement_before r (both a b) ≡ both (statement_before r a) b
before_both (Err end) a b = refl
before_both (Ok s) (Err refusal) b = refl
before_both (Ok s) (Ok stmts) (Err refusal) = refl
before_both (Ok s) (Ok stmts) (Ok more) = refl

both_nil : (b : Result (List Labelled) Refusal) → b ≡ both (Ok []) b
both_nil (Err refusal) = refl
both_nil (Ok more) = refl

statements_append : (raws more : List RawStmt) → statements_of (raws ++ more) ≡ both (statements_of raws) (statements_of more)
statements_append [] more = both_nil (statements_of more)
statements_append (raw ∷ raws) more =
    ap (statement_before (reading_of raw)) (statements_append raws more) ∙ before_both (reading_of raw) (statements_of raws) (statements_of more)

-- one more statement is read
pub statements_next : (raws : List RawStmt) (i : ℕ) (raw : RawStmt) (stmts : List Labelled) (s : Labelled) → i < length raws → raw ≡ get_or raws i raw → statements_of (take i raws) ≡ Ok stmts → reading_of raw ≡ Ok s
    → statements_of (take (i + 1) raws) ≡ Ok (stmts ++ s ∷ [])
statements_next raws i raw stmts s lt is read one =
    rw (add-one, take-suc raws i raw lt, ← is, statements_append (take i raws) (raw ∷ []), read, one) refl

-- ---- what a loop over the texts keeps

pub record AreRead (raws : List RawStmt) (i : ℕ) (stmts : List Labelled) : Type 0 where
  pub read : statements_of (take i raws) ≡ Ok stmts
  pub count : length stmts ≡ i
  pub each : (k : ℕ) (r : RawStmt) (s : Labelled) → k < i → IsParsed (get_or raws k r) (Ok (get_or stmts k s))
  pub given : All (λ s. IsGiven s.stmt) stmts

each_next : (raws : List RawStmt) (i : ℕ) (raw : RawStmt) (stmts : List Labelled) (s : Labelled) → length stmts ≡ i → i < length raws → raw ≡ get_or raws i raw → IsParsed raw (Ok s)
    → ((k : ℕ) (r : RawStmt) (t : Labelled) → k < i → IsParsed (get_or raws k r) (Ok (get_or stmts k t)))
    → (k : ℕ) (r : RawStmt) (t : Labelled) → k < i + 1 → IsParsed (get_or raws k r) (Ok (get_or (stmts ++ s ∷ []) k t))
each_next raws i raw stmts s count lt is parsed each k r t within =
    let here : raw ≡ get_or raws (length stmts) r = is ∙ get_or_default raws i raw r lt ∙ ap (λ j. get_or raws j r) (sym count) in
    let new : IsParsed (get_or raws (length stmts) r) (Ok (get_or (stmts ++ s ∷ []) (length stmts) t)) = rw (get_or-append_seam stmts s [] t) (subst (λ x. IsParsed x (Ok s)) here parsed) in
    ⊎_elim
    (λ same. subst (λ j. IsParsed (get_or raws j r) (Ok (get_or (stmts ++ s ∷ []) j t))) (count ∙ sym same) new)
    (λ less. rw (get_or-append stmts (s ∷ []) t k (omega (arith, less, count))) (each k r t less))
    (eq-or-lt_of_le {n = k} {m = i} (omega (arith, within)))

pub read_next : (raws : List RawStmt) (i : ℕ) (raw : RawStmt) (stmts : List Labelled) (s : Labelled) → i < length raws → raw ≡ get_or raws i raw → reading_of raw ≡ Ok s → IsParsed raw (Ok s) → IsGiven s.stmt → AreRead raws i stmts
    → AreRead raws (i + 1) (stmts ++ s ∷ [])
read_next raws i raw stmts s lt is one parsed given before = record {
  read = statements_next raws i raw stmts s lt is before.read one;
  count = rw (length-append stmts (s ∷ []), before.count) refl;
  each = each_next raws i raw stmts s before.count lt is parsed before.each;
  given = All-push (λ s. IsGiven s.stmt) stmts s before.given given;
}

-- a text that is no statement
pub refused_here : (raws : List RawStmt) (i : ℕ) (raw : RawStmt) (stmts : List Labelled) (end : StmtEnd) → i < length raws → raw ≡ get_or raws i raw → reading_of raw ≡ Err end → AreRead raws i stmts → statements_of raws ≡ Err (stmt_refusal end)
refused_here raws i raw stmts end lt is one before =
    ap statements_of (sym (take-append-drop i raws))
    ∙ statements_append (take i raws) (drop i raws)
    ∙ rw (before.read, drop-cons raws i raw lt, ← is, one) refl

-- ---- the statements of a text in fixed form

some_text : (raws : List RawStmt) → ends_with_end raws ≡ true → 0 < length raws
some_text [] is = cc
some_text (raw ∷ raws) is = omega arith

-- the last text is END
last_text : (raws : List RawStmt) (n : ℕ) (r : RawStmt) → length raws ≡ n + 1 → ends_with_end raws ≡ true → bytes_eq (get_or raws n r).text (codes "END") ≡ true
last_text [] n r many is = cc
last_text (last ∷ []) zero r many is = is
last_text (last ∷ []) (suc n) r many is = absurd (omega (arith, many))
last_text (first ∷ second ∷ more) zero r many is = absurd (omega (arith, many))
last_text (first ∷ second ∷ more) (suc n) r many is = last_text (second ∷ more) n r (omega (arith, many)) is

-- the text END is the statement END
end_of_text : OneStatement → (raw : RawStmt) (s : Labelled) → raw.text ≡ codes "END" → IsParsed raw (Ok s) → s.stmt ≡ End
end_of_text one raw s is parsed =
    let read = parsed.1 in
    let written : IsWrittenStatement raw.text WrittenStatement.end = record { grammatical = tt; is = sym is } in
    sym read.is ∙ ap statement_of (one raw.text read.written WrittenStatement.end read.spells written)

ends : OneStatement → (raws : List RawStmt) (stmts : List Labelled) (r : RawStmt) (s : Labelled) → ends_with_end raws ≡ true → AreRead raws (length raws) stmts → EndsWithEnd stmts
ends one raws stmts r s ended before =
    let some = some_text raws ended in
    let last = last_text raws (length raws - 1) r (omega (arith, some)) ended in
    record {
      last = get_or stmts (length stmts - 1) s;
      stands = slice_get-get_or stmts (length stmts - 1) s (omega (arith, some, before.count));
      is = rw before.count (end_of_text one (get_or raws (length raws - 1) r) (get_or stmts (length raws - 1) s) ((bytes_eq-Decides _ _).0 last) (before.each (length raws - 1) r s (omega (arith, some))));
    }

fit : (P : Labelled → Type 0) (Q : RawStmt → Type 0) (raws : List RawStmt) (stmts : List Labelled) → AreRead raws (length raws) stmts → All Q raws → ((raw : RawStmt) (s : Labelled) → Q raw → IsParsed raw (Ok s) → P s) → RawStmt → All P stmts
fit P Q raws stmts before each step r k s lt = step (get_or raws k r) (get_or stmts k s) (each k r (omega (arith, lt, before.count))) (before.each k r s (omega (arith, lt, before.count)))

line_of : (raws : List RawStmt) (stmts : List Labelled) (k : ℕ) (s : Labelled) (r : RawStmt) → AreRead raws (length raws) stmts → slice_get stmts k ≡ Some s → s.line ≡ (get_or raws k r).line
line_of raws stmts k s r before at =
    let lt = slice_get_within stmts k s at in
    let is = get_or_from_slice_get stmts k s s at in
    subst (λ x. x.line ≡ (get_or raws k r).line) is (before.each k r s (omega (arith, lt, before.count))).3

pub are_text : OneStatement → (raws : List RawStmt) (stmts : List Labelled) → AreWithinForm raws → IsAccepted raws → AreRead raws (length raws) stmts → IsText stmts
are_text one raws stmts within accepted before = record {
  given = before.given;
  labels = fit (λ s. s.label ≤ 99999) IsWithinForm raws stmts before within.each (λ raw s q parsed. subst (λ label. label ≤ 99999) (sym parsed.2) q.label) raw_statement;
  rising = λ j k a b first second lt.
      let at_j = slice_get_within stmts j a first in
      let at_k = slice_get_within stmts k b second in
      let rise = lines_rise 1 raws accepted.rise j k (get_or raws j raw_statement) (get_or raws k raw_statement) (slice_get-get_or raws j raw_statement (omega (arith, at_j, before.count))) (slice_get-get_or raws k raw_statement (omega (arith, at_k, before.count))) lt in
      omega (arith, rise, line_of raws stmts j a raw_statement before first, line_of raws stmts k b raw_statement before second);
  few = rw before.count within.few;
  ended = ends one raws stmts raw_statement statement accepted.ended before;
}
  where
    raw_statement : RawStmt
    raw_statement = record { label = 0; line = 0; text = [] }

    statement : Labelled
    statement = record { label = 0; line = 0; stmt = End }
