use Rattle.std.proofs.Common.{◌≡◌, ◌+◌, ◌<◌, ◌≤◌, Bool, false, List, length, ap, sym, subst, arith}
use Rattle.f77_tree.specs.declared.programs.Exec.{Exec}
use Rattle.shared_forms.specs.Numbered.{number_of}
use Rattle.shared_forms.specs.Shared.{has_many_names, is_shared, most_words}
use Rattle.simplified_forms.specs.Tables.{AreAnswers}
use Rattle.shared_forms.proofs.LongerTableLemmas.{shared-count}
use Rattle.shared_forms.proofs.ProperCandidates.{candidates-fit}
use Rattle.shared_forms.proofs.SharedLineLemmas.{statements-most}
use Rattle.regenerate.proofs.SharedResults.{enough, refused-declared, refused-free, refused-lines, refused-words}
use Rattle.regenerate.proofs.shared_form.shared_parts.Goals as goal

pub returns-then-len-q-clause-names : goal.returns-then-len-q-clause-names
returns-then-len-q-clause-names g c =
    let q = c.args.q.now in
    let more : most_words < q.words + length c.in_ok-shared.shared.items = omega (arith, c.if-len-q.true, c.len.ensures, c.requires.program.word_count) in
    λ _. refused-words q c.args.f.now c.args.c.now c.args.a c.requires.program c.requires.available c.args.flat c.requires.statements c.in_ok-shared.shared.items c.in_ok-shared.ensures more

pub returns-in_default-clause-names : goal.returns-in_default-clause-names
returns-in_default-clause-names g c =
    let q = c.args.q.now in
    let more = rw c.in_default.is at c.in_ok-free.ensures in
    λ _. refused-free q c.args.f.now c.args.c.now c.args.a c.requires.program c.requires.available c.args.flat c.requires.statements _ c.in_ok-shared.shared.items more c.in_ok-shared.ensures (omega arith)

pub returns-then-from-gt-MOST_STATEMENTS-clause-statements : goal.returns-then-from-gt-MOST_STATEMENTS-clause-statements
returns-then-from-gt-MOST_STATEMENTS-clause-statements g c =
    let q = c.args.q.now in
    let a = c.args.a in
    let numbers = c.in_ok-shared.shared.items in
    let free = rw c.in-Some.is at c.in_ok-free.ensures in
    let words : q.words + length numbers ≤ most_words = omega (arith, c.if-len-q.false, c.len.ensures, c.requires.program.word_count) in
    let few : has_many_names q a (number_of a) ≡ false = enough q a _ numbers c.in-Some.free.items free.0 free.1 c.in_ok-shared.ensures (omega arith) words in
    λ _. refused-declared q c.args.f.now c.args.c.now a c.requires.program c.requires.available c.args.flat c.requires.statements few (omega (arith, c.if-from-gt-MOST_STATEMENTS.true, c.from.ensures, c.len-3.ensures))

pub temporary_names-requires-clause-few : goal.temporary_names-requires-clause-few
temporary_names-requires-clause-few g c =
    let q = c.args.q.now in
    let a = c.args.a in
    let numbers = c.in_ok-shared.shared.items in
    let answers : AreAnswers (is_shared q a (number_of a)) (length a.candidates) c.deref-2.result.now = subst (λ (table : List Bool). AreAnswers (is_shared q a (number_of a)) (length a.candidates) table) (sym c.deref-2.ensures.value) c.in_ok-is_shared.ensures in
    let counted = shared-count q a c.deref-2.result.now answers in
    let same = ap length c.in_ok-shared.ensures in
    let words : q.words + length numbers ≤ most_words = omega (arith, c.if-len-q.false, c.len.ensures, c.requires.program.word_count) in
    omega (arith, counted, same, words, c.if-from-gt-MOST_STATEMENTS.false, c.from.ensures, c.len-3.ensures)

pub statements_with_temporaries-requires-clause-short : goal.statements_with_temporaries-requires-clause-short
statements_with_temporaries-requires-clause-short g c =
    let most = statements-most c.args.flat in
    let same = ap (λ (execs : List Exec). length execs) c.requires.statements.execs in
    omega (arith, most, same, c.requires.program.execs.count)

pub returns-in_default-2-clause-statements : goal.returns-in_default-2-clause-statements
returns-in_default-2-clause-statements g c =
    let q = c.args.q.now in
    let a = c.args.a in
    let numbers = c.in_ok-shared.shared.items in
    let free = rw c.in-Some.is at c.in_ok-free.ensures in
    let words : q.words + length numbers ≤ most_words = omega (arith, c.if-len-q.false, c.len.ensures, c.requires.program.word_count) in
    let few : has_many_names q a (number_of a) ≡ false = enough q a _ numbers c.in-Some.free.items free.0 free.1 c.in_ok-shared.ensures (omega arith) words in
    let more = rw c.in_default-2.is at c.in_ok-statements.ensures in
    λ _. refused-lines q c.args.f.now c.args.c.now a c.requires.program c.requires.available c.args.flat c.requires.statements few more

pub with_temporaries-requires-clause-expressions : goal.with_temporaries-requires-clause-expressions
with_temporaries-requires-clause-expressions g c = candidates-fit c.args.q.now c.args.f.now c.args.a.candidates c.requires.program.execs.each c.requires.available.candidates

pub returns-clause-parts : goal.returns-clause-parts
returns-clause-parts g c =
    let q = c.args.q.now in
    let a = c.args.a in
    let numbers = c.in_ok-shared.shared.items in
    let free = rw c.in-Some.is at c.in_ok-free.ensures in
    let words : q.words + length numbers ≤ most_words = omega (arith, c.if-len-q.false, c.len.ensures, c.requires.program.word_count) in
    let few : has_many_names q a (number_of a) ≡ false = enough q a _ numbers c.in-Some.free.items free.0 free.1 c.in_ok-shared.ensures (omega arith) words in
    let all_is = rw c.in-Some-2.is at c.in_ok-statements.ensures in
    record { few = few; declared = c.in_ok-declared.ensures; statements = all_is }
