-- The text of a printed program is read, statement by statement, as its statements.
use Rattle.std.proofs.Common.{◌≡◌, ◌≢◌, ℕ, zero, suc, ◌+◌, ◌-◌, ◌<◌, ◌≤◌, Bool, true, false, cond, List, [], ◌∷◌, ◌++◌, length, ◌||◌, nat_lt, map, take, refl, sym, ap, ◌∙◌, subst, arith, Option, Some, None, Result, Ok, Err, append-nil, append_assoc, length-append}
use Rattle.std.specs.Prelude.{flat_map, All, slice_get, codes, bytes_eq}
use Rattle.std.specs.List.{list_any, range_with_len}
use Rattle.std.proofs.lemmas.Bool.{or_parts, ltb-false}
use Rattle.std.proofs.lemmas.List.{length-map, map-append, length-take}
use Rattle.std.proofs.lemmas.List.Concat.{flat_map-append}
use Rattle.std.proofs.lemmas.List.Elements.{All-append}
use Rattle.std.proofs.lemmas.List.Folds.{list_any-append}
use Rattle.std.proofs.lemmas.List.Sums.{count_by-le-length}
use Rattle.list_laws.proofs.Ranges.{range_more}
use Rattle.f77_tree.specs.declared.declarations.InitPart.{InitPart}
use Rattle.f77_tree.specs.declared.programs.NameInfo.{NameInfo}
use Rattle.f77_tree.specs.declared.programs.Program.{Program}
use Rattle.f77_tree.specs.declared.statements.Labelled.{Labelled}
use Rattle.f77_tree.specs.Declarations.{IsNameInfo}
use Rattle.f77_tree.specs.InitialWords.{IsInitPart}
use Rattle.f77_tree.specs.StatementGrammar.{WrittenStatement, statement_of}
use Rattle.f77_tree.proofs.AllLemmas.{All-nil, All-cons, All-first, All-rest, All-get}
use Rattle.fixed_form.specs.declared.raw_stmt.RawStmt.{RawStmt}
use Rattle.fixed_form.specs.Reading as source
use Rattle.fixed_form.specs.Statement.{text, ends_with_end}
use Rattle.f77_expr.specs.Piece.{bracket_depth, deepest_allowed}
use Rattle.f77_parse.specs.declared.stmt_end.StmtEnd.{StmtEnd}
use Rattle.f77_parse.specs.declared.stmt_end.StmtEnd.TheVariants.{NoMemory}
use Rattle.f77_parse.specs.Parsing.{IsParsed, reading_of}
use Rattle.flat_programs.specs.declared.statements.Flat.TheVariants.{Finish}
use Rattle.flat_programs.specs.declared.statements.FlatLine.{FlatLine}
use Rattle.flat_programs.specs.Declarations.{typed_name, commons, group_statement, init_statement, declared}
use Rattle.flat_programs.specs.FlatForm.{AreProper, IsProperFlat, HasNumbers, IsFlat}
use Rattle.flat_programs.specs.Lines.{Typeset, line_count, is_long, lines_of, most_characters}
use Rattle.flat_programs.specs.Marks.{is_mark, mark_at, mark_count}
use Rattle.flat_programs.specs.Shown.{shown}
use Rattle.flat_programs.specs.Text as page
use Rattle.flat_programs.specs.Typeset.{typeset}
use Rattle.read_back.specs.PrintedStatements.{LabelledStatement, printed, declaration, written_in, written_at, written_statements, labelled_from, AreReadAs, CanBeText}
use Rattle.read_back.specs.ReadLines.{CanStand, read_from}
use Rattle.read_back.proofs.DeclaredForms.{CanBePrinted, names_can, commons_can, groups_can, init_can, members_symbolic}
use Rattle.read_back.proofs.FoldedDepth.{folded_depth}
use Rattle.read_back.proofs.PrintedRead.{printed_read}
use Rattle.read_back.proofs.RepeatBound.{repeats_few}
use Rattle.read_back.proofs.ShownForms.{shown_can}

-- ---- the statements that are printed

map_twice : {X Y Z : Type 0} (f : Y → Z) (g : X → Y) (xs : List X) → map f (map g xs) ≡ map (λ x. f (g x)) xs
map_twice f g [] = refl
map_twice f g (x ∷ xs) = ap (λ zs. f (g x) ∷ zs) (map_twice f g xs)

typeset_one : (names : List NameInfo) (flat : List FlatLine) (place : ℕ) (l : Option FlatLine) → page.typeset_in names flat place l ≡ map printed (written_in names flat place l)
typeset_one names flat place None = refl
typeset_one names flat place (Some l) = refl

typeset_all : (names : List NameInfo) (flat : List FlatLine) (places : List ℕ) → flat_map (page.typeset_at names flat) places ≡ map printed (flat_map (written_at names flat) places)
typeset_all names flat [] = refl
typeset_all names flat (place ∷ places) =
    ap (λ ts. ts ++ flat_map (page.typeset_at names flat) places) (typeset_one names flat place (slice_get flat place))
    ∙ ap (λ ts. map printed (written_at names flat place) ++ ts) (typeset_all names flat places)
    ∙ sym (map-append printed (written_at names flat place) (flat_map (written_at names flat) places))

are_printed : (q : Program) (flat : List FlatLine) → page.statements q flat ≡ map printed (written_statements q flat)
are_printed q flat =
    let places = range_with_len 0 (length flat) in
    ap (λ ts. ts ++ flat_map (page.typeset_at q.names flat) places) (sym (map_twice printed declaration (declared q)))
    ∙ ap (λ ts. map printed (map declaration (declared q)) ++ ts) (typeset_all q.names flat places)
    ∙ sym (map-append printed (map declaration (declared q)) (flat_map (written_at q.names flat) places))

-- ---- how many there are

few_in : (names : List NameInfo) (flat : List FlatLine) (place : ℕ) (l : Option FlatLine) → length (written_in names flat place l) ≤ 1
few_in names flat place None = omega arith
few_in names flat place (Some l) = omega arith

few_from : (names : List NameInfo) (flat : List FlatLine) (k n : ℕ) → length (flat_map (written_at names flat) (range_with_len k n)) ≤ n
few_from names flat k zero = omega arith
few_from names flat k (suc n) =
    let rest = few_from names flat (k + 1) n in
    let here = few_in names flat k (slice_get flat k) in
    omega (arith, rest, here, length-append (written_at names flat k) (flat_map (written_at names flat) (range_with_len (k + 1) n)))

-- ---- lengths

list_any-map : {X Y : Type 0} (p : Y → Bool) (f : X → Y) (xs : List X) → list_any p (map f xs) ≡ list_any (λ x. p (f x)) xs
list_any-map p f [] = refl
list_any-map p f (x ∷ xs) = ap (λ b. p (f x) || b) (list_any-map p f xs)

-- neither long nor deep
pub record IsShort (xs : List ℕ) : Type 0 where
  pub length_few : length xs ≤ most_characters
  pub depth_few : bracket_depth xs ≤ deepest_allowed

pub is_short : (t : Typeset) → is_long t ≡ false → IsShort t.text
is_short t h =
    let parts = or_parts (nat_lt most_characters (length t.text)) (nat_lt deepest_allowed (bracket_depth t.text)) h in
    record { length_few = ltb-false most_characters (length t.text) parts.0; depth_few = ltb-false deepest_allowed (bracket_depth t.text) parts.1 }

abbrev pub is_long_alone : WrittenStatement → Bool
is_long_alone w = is_long (page.unlabelled w)

pub inits_short : (q : Program) (flat : List FlatLine) → page.has_long_text q flat ≡ false → list_any is_long_alone (map init_statement q.inits) ≡ false
inits_short q flat short =
    let front = map page.unlabelled (declared q) in
    let rest = flat_map (page.typeset_at q.names flat) (range_with_len 0 (length flat)) in
    let inits = map init_statement q.inits in
    let others = map typed_name q.names ++ commons q.commons ++ map group_statement q.groups in
    let parts = or_parts (list_any is_long front) (list_any is_long rest) (sym (list_any-append is_long front rest) ∙ short) in
    let alone : list_any is_long_alone (others ++ inits) ≡ false = sym (list_any-map is_long page.unlabelled (declared q)) ∙ parts.0 in
    (or_parts (list_any is_long_alone others) (list_any is_long_alone inits) (sym (list_any-append is_long_alone others inits) ∙ alone)).1

inits_can : (names : List NameInfo) (inits : List InitPart) → All IsNameInfo names → All (IsInitPart names) inits → list_any is_long_alone (map init_statement inits) ≡ false → All CanBePrinted (map init_statement inits)
inits_can names [] table all short = All-nil CanBePrinted
inits_can names (part ∷ inits) table all short =
    let parts = or_parts (is_long_alone (init_statement part)) (list_any is_long_alone (map init_statement inits)) short in
    let is = All-first (IsInitPart names) part inits all in
    let few = repeats_few names part table is (members_symbolic names table part.items is.members) (is_short (page.unlabelled (init_statement part)) parts.0).length_few in
    All-cons CanBePrinted (init_statement part) (map init_statement inits) (init_can names table part is few) (inits_can names inits table (All-rest (IsInitPart names) part inits all) parts.1)

-- ---- each can be printed and read

-- a statement that is printed so that it is read, with a label that is one
record CanBeLine (s : LabelledStatement) : Type 0 where
  label_small : s.label ≤ 99999
  can : CanBePrinted s.written

declared_lines : (ws : List WrittenStatement) → All CanBePrinted ws → All CanBeLine (map declaration ws)
declared_lines [] all = All-nil CanBeLine
declared_lines (w ∷ ws) all =
    All-cons CanBeLine (declaration w) (map declaration ws) (record { label_small = omega arith; can = All-first CanBePrinted w ws all }) (declared_lines ws (All-rest CanBePrinted w ws all))

label_if : (b : Bool) (n : ℕ) → n ≤ 99999 → cond b n 0 ≤ 99999
label_if true n le = le
label_if false n le = omega arith

module _ (names : List NameInfo) (flat : List FlatLine) (table : All IsNameInfo names) (form : IsFlat flat) (proper : AreProper names flat) (few : length flat ≤ 4000) where
  marks_few : mark_count flat ≤ 99999
  marks_few = let most = count_by-le-length (λ (l : FlatLine). is_mark l.stmt) flat in omega (arith, most, few)

  mark_few : (place : ℕ) → mark_at flat place ≤ 99999
  mark_few place =
      let front = take place flat in
      let most = count_by-le-length (λ (l : FlatLine). is_mark l.stmt) front in
      let size = length-take place flat in
      omega (arith, most, size, few)

  line_can : (place : ℕ) (l : FlatLine) → slice_get flat place ≡ Some l → CanBeLine (record { label = page.label_at flat place l; written = shown names l.stmt })
  line_can place l is = record {
    label_small = label_if (is_mark l.stmt) (mark_at flat place) (mark_few place);
    can = shown_can names table (mark_count flat) l.stmt marks_few (All-get (λ (k : FlatLine). IsProperFlat names k.stmt) flat place l proper is) (All-get (λ (k : FlatLine). HasNumbers (mark_count flat) k.stmt) flat place l form.numbered is);
  }

  lines_in : (place : ℕ) (l : Option FlatLine) → slice_get flat place ≡ l → All CanBeLine (written_in names flat place l)
  lines_in place None is = All-nil CanBeLine
  lines_in place (Some l) is = All-cons CanBeLine (record { label = page.label_at flat place l; written = shown names l.stmt }) [] (line_can place l is) (All-nil CanBeLine)

  lines_from : (places : List ℕ) → All CanBeLine (flat_map (written_at names flat) places)
  lines_from [] = All-nil CanBeLine
  lines_from (place ∷ places) =
      All-append CanBeLine (written_at names flat place) (flat_map (written_at names flat) places) (lines_in place (slice_get flat place) refl) (lines_from places)

all_can : (q : Program) (flat : List FlatLine) → CanBeText q flat → All CanBeLine (written_statements q flat)
all_can q flat given =
    let are = given.declarations in
    let few = given.few in
    let a = map typed_name q.names in
    let b = commons q.commons in
    let c = map group_statement q.groups in
    let d = map init_statement q.inits in
    let first = All-append CanBePrinted a b (names_can q.names are.table) (commons_can q.names are.table q.commons are.common) in
    let second = All-append CanBePrinted (a ++ b) c first (groups_can q.names are.table q.groups are.equivalence) in
    let third = All-append CanBePrinted (a ++ b ++ c) d second (inits_can q.names q.inits are.table are.init (inits_short q flat given.short)) in
    All-append CanBeLine (map declaration (declared q)) (flat_map (written_at q.names flat) (range_with_len 0 (length flat))) (declared_lines (declared q) third) (lines_from q.names flat are.table given.form given.proper (omega (arith, few)) (range_with_len 0 (length flat)))

-- ---- lines

-- a statement that can be a line and isn't too long
record IsLine (s : LabelledStatement) : Type 0 where
  line : CanBeLine s
  short : IsShort (typeset s.written)

all_lines : (ss : List LabelledStatement) → All CanBeLine ss → list_any is_long (map printed ss) ≡ false → All IsLine ss
all_lines [] all short = All-nil IsLine
all_lines (s ∷ ss) all short =
    let parts = or_parts (is_long (printed s)) (list_any is_long (map printed ss)) short in
    All-cons IsLine s ss (record { line = All-first CanBeLine s ss all; short = is_short (printed s) parts.0 }) (all_lines ss (All-rest CanBeLine s ss all) parts.1)

all_stand : (ss : List LabelledStatement) → All IsLine ss → All CanStand (map printed ss)
all_stand [] all = All-nil CanStand
all_stand (s ∷ ss) all =
    let here = All-first IsLine s ss all in
    let prints = here.line.can.prints in
    let stands : CanStand (printed s) = record { label = here.line.label_small; begins = prints.begins; short = here.short.length_few; characters = prints.folds.characters; closed = prints.folds.closed } in
    All-cons CanStand (printed s) (map printed ss) stands (all_stand ss (All-rest IsLine s ss all))

-- ---- statements

-- the answer for a statement is the only one
abbrev pub OneAnswer : Type 0
OneAnswer = (raw : RawStmt) (answer : Result Labelled StmtEnd) → IsParsed raw answer → answer ≢ Err NoMemory → answer ≡ reading_of raw

abbrev raw_at : ℕ → LabelledStatement → RawStmt
raw_at line s = record { label = s.label; line = line; text = text (typeset s.written) }

abbrev labelled_at : ℕ → LabelledStatement → Labelled
labelled_at line s = record { label = s.label; line = line; stmt = statement_of s.written }

module _ (only : OneAnswer) where
  one_read : (line : ℕ) (s : LabelledStatement) → IsLine s → Ok (labelled_at line s) ≡ reading_of (raw_at line s)
  one_read line s is =
      let can = is.line.can in
      let depth : bracket_depth (text (typeset s.written)) ≤ deepest_allowed = subst (λ d. d ≤ deepest_allowed) (sym (folded_depth (typeset s.written))) is.short.depth_few in
      only (raw_at line s) (Ok (labelled_at line s)) (depth, record { written = s.written; spells = record { grammatical = can.grammatical; is = sym can.prints.folds.is }; is = refl; constants = can.constants }, refl, refl) (λ h. cc)

  all_read : (line : ℕ) (ss : List LabelledStatement) → All IsLine ss → map reading_of (read_from line (map printed ss)) ≡ map Ok (labelled_from line ss)
  all_read line [] all = refl
  all_read line (s ∷ ss) all =
      let next = line + line_count (typeset s.written) in
      ap (λ r. r ∷ map reading_of (read_from next (map printed ss))) (sym (one_read line s (All-first IsLine s ss all)))
      ∙ ap (λ rs. Ok (labelled_at line s) ∷ rs) (all_read next ss (All-rest IsLine s ss all))

-- ---- the last one is END

last_end : (line : ℕ) (ts : List Typeset) (t : Typeset) → text t.text ≡ codes "END" → ends_with_end (read_from line (ts ++ t ∷ [])) ≡ true
last_end line [] t is = ap (λ cs. bytes_eq cs (codes "END")) is
last_end line (s ∷ []) t is = last_end (line + line_count s.text) [] t is
last_end line (s ∷ next ∷ more) t is = last_end (line + line_count s.text) (next ∷ more) t is

pub get_some : {X : Type 0} (xs : List X) (k : ℕ) → k < length xs → (x : X) × (slice_get xs k ≡ Some x)
get_some [] k lt = absurd (omega (arith, lt))
get_some (x ∷ xs) zero lt = (x, refl)
get_some (x ∷ xs) (suc k) lt = get_some xs k (omega (arith, lt))

-- the text of END after other ones
record EndsInEnd (ts : List Typeset) : Type 0 where
  before : List Typeset
  end : Typeset
  is : ts ≡ before ++ end ∷ []
  text_is : text end.text ≡ codes "END"

ends_in_end : (q : Program) (flat : List FlatLine) → IsFlat flat → EndsInEnd (page.statements q flat)
ends_in_end q flat form =
    let some = form.some in
    let last = length flat - 1 in
    let count : last + 1 ≡ length flat = omega (arith, some) in
    let found = get_some flat last (omega (arith, some)) in
    let l = found.0 in
    let finish : l.stmt ≡ Finish = (form.ended last l found.1).1 (omega (arith, some)) in
    let t : Typeset = record { label = page.label_at flat last l; text = typeset (shown q.names l.stmt) } in
    let front = map page.unlabelled (declared q) in
    let before = flat_map (page.typeset_at q.names flat) (range_with_len 0 last) in
    let one : flat_map (page.typeset_at q.names flat) (last ∷ []) ≡ t ∷ [] = append-nil (page.typeset_at q.names flat last) ∙ ap (page.typeset_in q.names flat last) found.1 in
    let all : flat_map (page.typeset_at q.names flat) (range_with_len 0 (length flat)) ≡ before ++ t ∷ [] = ap (λ n. flat_map (page.typeset_at q.names flat) (range_with_len 0 n)) (sym count) ∙ ap (flat_map (page.typeset_at q.names flat)) (range_more last) ∙ flat_map-append (page.typeset_at q.names flat) (range_with_len 0 last) (last ∷ []) ∙ ap (λ ts. before ++ ts) one in
    record {
      before = front ++ before;
      end = t;
      is = ap (λ ts. front ++ ts) all ∙ sym (append_assoc front before (t ∷ []));
      text_is = ap (λ stmt. text (typeset (shown q.names stmt))) finish;
    }

-- ---- all

pub program_read : (q : Program) (flat : List FlatLine) → OneAnswer → CanBeText q flat → AreReadAs (page.text q flat) (labelled_from 1 (written_statements q flat))
program_read q flat only given =
    let ss = written_statements q flat in
    let printed_all = are_printed q flat in
    let lines = all_lines ss (all_can q flat given) (ap (list_any is_long) (sym printed_all) ∙ given.short) in
    let few = given.few in
    let size : length (map printed ss) ≤ 4000 = omega (arith, few, length-map ss printed, length-append (map declaration (declared q)) (flat_map (written_at q.names flat) (range_with_len 0 (length flat))), length-map (declared q) declaration, few_from q.names flat 0 (length flat)) in
    let ends = ends_in_end q flat given.form in
    let end : ends_with_end (read_from 1 (map printed ss)) ≡ true = ap (λ ts. ends_with_end (read_from 1 ts)) (sym printed_all ∙ ends.is) ∙ last_end 1 ends.before ends.end ends.text_is in
    record {
      raws = read_from 1 (map printed ss);
      lines = ap (λ ts. source.reading (flat_map lines_of ts)) printed_all ∙ printed_read (map printed ss) size (all_stand ss lines) end;
      statements = all_read only 1 ss lines;
    }
