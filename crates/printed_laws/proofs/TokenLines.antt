-- The lines of tokens, as both sides write them.
use Rattle.std.proofs.Common.{◌≡◌, ℕ, suc, ◌+◌, ◌<◌, ◌^◌, true, List, [], ◌∷◌, ◌++◌, length, slice_index, ◌&&◌, ◌||◌, nat_lt, nat_le, map, filter, flat_map, codes, All, Vec, refl, ap, sym, ◌∙◌, subst, append_assoc, arith}
use Rattle.std.proofs.lemmas.List.{length-append, length-map}
use Rattle.std.proofs.lemmas.List.FromFn.{length-map-range_with_len}
use Rattle.std.specs.declared.alloc.Global.{Global}
use Rattle.std.specs.Fmt.{decimal, digits}
use Rattle.std.specs.List.{list_all, range_with_len}
use Rattle.std.proofs.Math.Nat.{lt_of_le_of_lt}
use Rattle.std.proofs.lemmas.Bool.{and_parts, leb-true}
use Rattle.std.proofs.lemmas.List.Elements.{All-nil, All-cons, All-append, All-head, All-tail, All-filter}
use Rattle.f77_tree.specs.declared.programs.Exec.{Exec}
use Rattle.f77_tree.specs.declared.programs.ExecKind.{ExecKind}
use Rattle.f77_tree.specs.declared.programs.ExecKind.TheVariants.{Assign, Print, Pass, Test, Sign, Pick, DoStart, DoNext, End}
use Rattle.f77_tree.specs.declared.programs.NameInfo.{NameInfo}
use Rattle.f77_tree.specs.declared.programs.Program.{Program}
use Rattle.f77_tree.specs.Declarations.{IsNameInfo}
use Rattle.f77_tree.specs.Loops.{begun}
use Rattle.f77_tree.specs.Name.{is_capital, is_figure}
use Rattle.alias_classes.specs.Classes.{ClassTable, class_of_loop}
use Rattle.graph_texts.specs.GraphText.{has_class, class_line, class_lines, line_lines, loop_line, loop_lines}
use Rattle.printed_graphs.specs.declared.dataflow.TokenLine.{TokenLine}
use Rattle.printed_graphs.specs.declared.dataflow.TokenLine.TheVariants as token
use Rattle.printed_graphs.specs.DataflowText.{names_text, token_line_text}
use Rattle.printed_graphs.specs.Printable.{IsPrintableName, IsPrintableLine}
use Rattle.printed_graphs.specs.Reading.{is_word_char}
use Rattle.printed_graphs.specs.Words.{lines_from}
use Rattle.printed_laws.specs.ShortProgram.{HaveShortLines}
use Rattle.printed_laws.proofs.Lines.{lines_appended, lines_same, all_made, each_of_parts, each_passes, filtered_most}
use Rattle.printed_laws.proofs.LoopNumbers.{number_after, IsNumbered, AreNumbered, number_at_end}
use Rattle.printed_laws.proofs.Rows.{vec_with, capped_is}

-- ---- classes with their names

abbrev pub name_of : NameInfo → Vec ℕ Global
name_of info = vec_with info.name

abbrev pub names_of : List NameInfo → List (Vec ℕ Global)
names_of infos = map name_of infos

abbrev pub class_token : List NameInfo → ClassTable → (class : ℕ) → TokenLine
class_token names c class = token.Class (vec_with (names_of (filter (has_class c class) names)))

six_small : 6 < 2 ^ 63
six_small = omega arith

name_small : (info : NameInfo) → IsNameInfo info → length info.name < 2 ^ 63
name_small info is =
    let some = nat_lt 0 (length info.name) in
    let few = nat_le (length info.name) 6 in
    let first = is_capital (slice_index info.name 0) in
    let all = list_all (λ b. is_capital b || is_figure b) info.name in
    let lengths = and_parts some few (and_parts (some && few) first (and_parts (some && few && first) all is.symbolic).0).0 in
    lt_of_le_of_lt (leb-true (length info.name) 6 lengths.1) six_small

names_told : (infos : List NameInfo) → All IsNameInfo infos → names_text (names_of infos) ≡ flat_map (λ (info : NameInfo). 32 ∷ info.name) infos
names_told [] are = refl
names_told (info ∷ infos) are =
    ap (λ name. (32 ∷ name) ++ names_text (names_of infos)) (capped_is info.name (name_small info (All-head IsNameInfo info infos are)))
    ∙ ap (λ r. (32 ∷ info.name) ++ r) (names_told infos (All-tail IsNameInfo info infos are))

few_names : (names : List NameInfo) (c : ClassTable) (class : ℕ) (top : ℕ) → length names < top → length (names_of (filter (has_class c class) names)) < top
few_names names c class top few =
    let most = filtered_most (has_class c class) names in
    let same = length-map (filter (has_class c class) names) name_of in
    omega (arith, few, most, same)

-- the line of a class
class_same : (names : List NameInfo) (c : ClassTable) (k : ℕ) → All IsNameInfo names → length names < 2 ^ 63 → token_line_text k (class_token names c k) ≡ class_line names c k
class_same names c k are few =
    let held = filter (has_class c k) names in
    ap (λ vs. codes "L " ++ decimal k ++ names_text vs ++ (10 ∷ [])) (capped_is (names_of held) (few_names names c k (2 ^ 63) few))
    ∙ ap (λ text. codes "L " ++ decimal k ++ text ++ (10 ∷ [])) (names_told held (All-filter (has_class c k) IsNameInfo names are))

abbrev pub class_tokens : List NameInfo → ClassTable → List TokenLine
class_tokens names c = map (class_token names c) (range_with_len 1 c.word_classes)

classes_told : (names : List NameInfo) (c : ClassTable) → All IsNameInfo names → length names < 2 ^ 63 → lines_from token_line_text 1 (class_tokens names c) ≡ class_lines names c
classes_told names c are few =
    lines_same token_line_text (class_token names c) (class_line names c) 0 1 1 c.word_classes (omega arith)
    (λ i k at low lt. let same : i ≡ k = omega (arith, at) in ap (λ n. token_line_text n (class_token names c k)) same ∙ class_same names c k are few)

-- ---- DOs

abbrev pub loop_token : ExecKind → (line : ℕ) → List TokenLine
loop_token (DoStart loop_no var first last step body exit) line = token.Loop line ∷ []
loop_token _ line = []

abbrev pub loop_tokens : List Exec → List TokenLine
loop_tokens execs = flat_map (λ (exec : Exec). loop_token exec.kind exec.line) execs

loop_same : (c : ClassTable) (kind : ExecKind) (line n : ℕ) (more : List TokenLine) → IsNumbered n (begun kind) → lines_from token_line_text (class_of_loop c n) (loop_token kind line ++ more) ≡ loop_line c kind line ++ lines_from token_line_text (class_of_loop c (number_after n (begun kind))) more
loop_same c (DoStart loop_no var first last step body exit) line n more is =
    ap (λ l. l ++ (10 ∷ []) ++ lines_from token_line_text (class_of_loop c n + 1) more) (sym (append_assoc (codes "L " ++ decimal (class_of_loop c n)) (codes " *DO") (decimal line)))
    ∙ ap (λ m. codes "L " ++ decimal (class_of_loop c m) ++ codes " *DO" ++ decimal line ++ (10 ∷ []) ++ lines_from token_line_text (class_of_loop c n + 1) more) (sym is)
    ∙ ap (λ m. loop_line c (DoStart loop_no var first last step body exit) line ++ lines_from token_line_text m more) (omega arith)
loop_same c (Assign target e next) line n more is = refl
loop_same c (Print items next) line n more is = refl
loop_same c (Pass next) line n more is = refl
loop_same c (Test cond if_true if_false) line n more is = refl
loop_same c (Sign e neg zero' pos') line n more is = refl
loop_same c (Pick e targets other) line n more is = refl
loop_same c (DoNext loop_no var body exit) line n more is = refl
loop_same c End line n more is = refl

loops_told : (c : ClassTable) (n : ℕ) (execs : List Exec) → AreNumbered n execs → lines_from token_line_text (class_of_loop c n) (loop_tokens execs) ≡ loop_lines c execs
loops_told c n [] are = refl
loops_told c n (exec ∷ execs) are =
    loop_same c exec.kind exec.line n (loop_tokens execs) are.0
    ∙ ap (λ r. loop_line c exec.kind exec.line ++ r) (loops_told c (number_after n (begun exec.kind)) execs are.1)

one_counted : (n : ℕ) (kind : ExecKind) (line : ℕ) (more : List TokenLine) (end : ℕ) → length more + number_after n (begun kind) ≡ end → length (loop_token kind line ++ more) + n ≡ end
one_counted n (DoStart loop_no var first last step body exit) line more end is = omega (arith, is)
one_counted n (Assign target e next) line more end is = is
one_counted n (Print items next) line more end is = is
one_counted n (Pass next) line more end is = is
one_counted n (Test cond if_true if_false) line more end is = is
one_counted n (Sign e neg zero' pos') line more end is = is
one_counted n (Pick e targets other) line more end is = is
one_counted n (DoNext loop_no var body exit) line more end is = is
one_counted n End line more end is = is

loops_counted : (n : ℕ) (execs : List Exec) → length (loop_tokens execs) + n ≡ number_at_end n execs
loops_counted n [] = omega arith
loops_counted n (exec ∷ execs) = one_counted n exec.kind exec.line (loop_tokens execs) (number_at_end (number_after n (begun exec.kind)) execs) (loops_counted (number_after n (begun exec.kind)) execs)

-- ---- all lines

abbrev pub tokens_of : List NameInfo → ClassTable → List Exec → List TokenLine
tokens_of names c execs = token.Output ∷ class_tokens names c ++ loop_tokens execs

zero_text : decimal 0 ≡ codes "0"
unfolding digits
zero_text = refl

pub tokens_told : (p : Program) (c : ClassTable) → All IsNameInfo p.names → length p.names < 2 ^ 63 → AreNumbered 0 p.execs → lines_from token_line_text 0 (tokens_of p.names c p.execs) ≡ line_lines p c
tokens_told p c are few numbered =
    let above : 0 + 1 + length (class_tokens p.names c) ≡ class_of_loop c 0 = ap (λ n. 0 + 1 + n) (length-map-range_with_len (class_token p.names c) 1 c.word_classes) ∙ omega arith in
    ap (λ zero. codes "L " ++ zero ++ codes " *OUT" ++ (10 ∷ []) ++ lines_from token_line_text 1 (class_tokens p.names c ++ loop_tokens p.execs)) zero_text
    ∙ ap (λ r. codes "L 0 *OUT" ++ (10 ∷ []) ++ r)
    (lines_appended token_line_text 1 (class_tokens p.names c) (loop_tokens p.execs)
    ∙ ap (λ l. l ++ lines_from token_line_text (1 + length (class_tokens p.names c)) (loop_tokens p.execs)) (classes_told p.names c are few)
    ∙ ap (λ n. class_lines p.names c ++ lines_from token_line_text n (loop_tokens p.execs)) above
    ∙ ap (λ r. class_lines p.names c ++ r) (loops_told c 0 p.execs numbered))
    ∙ sym (append_assoc (codes "L 0 *OUT" ++ (10 ∷ [])) (class_lines p.names c) (loop_lines c p.execs))

pub tokens_counted : (names : List NameInfo) (c : ClassTable) (execs : List Exec) → length (tokens_of names c execs) ≡ suc (c.word_classes + number_at_end 0 execs)
tokens_counted names c execs =
    let classes = length-map-range_with_len (class_token names c) 1 c.word_classes in
    let loops = loops_counted 0 execs in
    ap (λ n. suc n) (length-append (class_tokens names c) (loop_tokens execs) ∙ omega (arith, classes, loops))

-- ---- they can be read

name_chars : (info : NameInfo) → IsNameInfo info → IsPrintableName (name_of info)
name_chars info is =
    let some = nat_lt 0 (length info.name) in
    let few = nat_le (length info.name) 6 in
    let first = is_capital (slice_index info.name 0) in
    let all = list_all (λ b. is_capital b || is_figure b) info.name in
    subst (λ (chars : List ℕ). All (λ c. is_word_char c ≡ true) chars) (sym (capped_is info.name (name_small info is)))
    (each_passes (λ b. is_capital b || is_figure b) info.name (and_parts (some && few && first) all is.symbolic).1)

names_printable : (infos : List NameInfo) → All IsNameInfo infos → All IsPrintableName (names_of infos)
names_printable [] are = All-nil IsPrintableName
names_printable (info ∷ infos) are = All-cons IsPrintableName (name_of info) (names_of infos) (name_chars info (All-head IsNameInfo info infos are)) (names_printable infos (All-tail IsNameInfo info infos are))

class_printable : (names : List NameInfo) (c : ClassTable) (k : ℕ) → All IsNameInfo names → length names < 2 ^ 63 → IsPrintableLine (class_token names c k)
class_printable names c k are few =
    let held = filter (has_class c k) names in
    subst (λ (vs : List (Vec ℕ Global)). All IsPrintableName vs) (sym (capped_is (names_of held) (few_names names c k (2 ^ 63) few)))
    (names_printable held (All-filter (has_class c k) IsNameInfo names are))

one_printable : (kind : ExecKind) (line : ℕ) → line < 2 ^ 32 → All IsPrintableLine (loop_token kind line)
one_printable (DoStart loop_no var first last step body exit) line short = All-cons IsPrintableLine (token.Loop line) [] short (All-nil IsPrintableLine)
one_printable (Assign target e next) line short = All-nil IsPrintableLine
one_printable (Print items next) line short = All-nil IsPrintableLine
one_printable (Pass next) line short = All-nil IsPrintableLine
one_printable (Test cond if_true if_false) line short = All-nil IsPrintableLine
one_printable (Sign e neg zero' pos') line short = All-nil IsPrintableLine
one_printable (Pick e targets other) line short = All-nil IsPrintableLine
one_printable (DoNext loop_no var body exit) line short = All-nil IsPrintableLine
one_printable End line short = All-nil IsPrintableLine

pub tokens_printable : (names : List NameInfo) (c : ClassTable) (execs : List Exec) → All IsNameInfo names → length names < 2 ^ 63 → HaveShortLines execs → All IsPrintableLine (tokens_of names c execs)
tokens_printable names c execs are few short =
    All-cons IsPrintableLine token.Output (class_tokens names c ++ loop_tokens execs) tt
    (All-append IsPrintableLine (class_tokens names c) (loop_tokens execs)
    (all_made IsPrintableLine (class_token names c) 1 c.word_classes (λ k low lt. class_printable names c k are few))
    (each_of_parts (λ (exec : Exec). exec.line < 2 ^ 32) IsPrintableLine (λ (exec : Exec). loop_token exec.kind exec.line) execs (λ exec lt. one_printable exec.kind exec.line lt) short))
