-- A printed program is one unit without subroutines, so it is laid out as it stands.
use Rattle.std.proofs.Common.{◌≡◌, ℕ, zero, suc, ◌+◌, ◌-◌, ◌<◌, Bool, true, false, not, ◌&&◌, List, [], ◌∷◌, ◌++◌, length, take, map, Option, Some, None, Ok, All, refl, sym, ap, ◌∙◌, arith, append-nil, append_assoc, if◌then◌else◌}
use Rattle.std.specs.Prelude.{flat_map, slice_get, Result}
use Rattle.std.specs.List.{list_all, range_with_len}
use Rattle.std.proofs.Math.Seq.{take-append_seam}
use Rattle.std.proofs.lemmas.Bool.{and_from}
use Rattle.std.proofs.lemmas.List.{length-append}
use Rattle.std.proofs.lemmas.List.Concat.{flat_map-append}
use Rattle.std.proofs.lemmas.List.Elements.{All-append}
use Rattle.std.proofs.lemmas.List.Folds.{list_all-append, list_all-map}
use Rattle.list_laws.proofs.Ranges.{range_more}
use Rattle.f77_tree.specs.declared.declarations.CommonPart.{CommonPart}
use Rattle.f77_tree.specs.declared.declarations.InitPart.{InitPart}
use Rattle.f77_tree.specs.declared.declarations.Member.{Member}
use Rattle.f77_tree.specs.declared.programs.NameInfo.{NameInfo}
use Rattle.f77_tree.specs.declared.programs.Program.{Program}
use Rattle.f77_tree.specs.declared.statements.Labelled.{Labelled}
use Rattle.f77_tree.specs.StatementGrammar.{WrittenStatement, is_of_subroutines, statement_of}
use Rattle.f77_tree.proofs.AllLemmas.{All-nil, All-cons, All-first, All-rest}
use Rattle.f77_tree.proofs.Subroutines.{guarded_subroutines}
use Rattle.program_units.specs.declared.sub_end.SubEnd.{SubEnd}
use Rattle.program_units.specs.Refusals.{expansion}
use Rattle.f77_source.specs.Listed.{stays_in_unit, is_one_unit, listed}
use Rattle.flat_programs.specs.declared.statements.Flat.{Flat}
use Rattle.flat_programs.specs.declared.statements.Flat.TheVariants.{Finish}
use Rattle.flat_programs.specs.declared.statements.FlatLine.{FlatLine}
use Rattle.flat_programs.specs.Declarations.{typed_name, common_at, commons, group_statement, init_statement, declared}
use Rattle.flat_programs.specs.FlatForm.{IsFlat}
use Rattle.flat_programs.specs.Lines.{line_count}
use Rattle.flat_programs.specs.Shown.{shown}
use Rattle.flat_programs.specs.Text.{label_at}
use Rattle.flat_programs.specs.Typeset.{typeset}
use Rattle.read_back.specs.PrintedStatements.{LabelledStatement, declaration, written_in, written_at, written_statements, labelled_from}
use Rattle.read_back.specs.SourceStatements.{statements_read}
use Rattle.read_back.proofs.ProgramRead.{get_some}

abbrev stays_written : WrittenStatement → Bool
stays_written w = stays_in_unit (statement_of w)

abbrev stays : LabelledStatement → Bool
stays s = stays_written s.written

abbrev IsPlain : LabelledStatement → Type 0
IsPlain s = is_of_subroutines (statement_of s.written) ≡ false

-- ---- lists

all_labelled : (line : ℕ) (ss : List LabelledStatement) → list_all (λ (t : Labelled). stays_in_unit t.stmt) (labelled_from line ss) ≡ list_all stays ss
all_labelled line [] = refl
all_labelled line (s ∷ more) = ap (λ b. stays s && b) (all_labelled (line + line_count (typeset s.written)) more)

length_labelled : (line : ℕ) (ss : List LabelledStatement) → length (labelled_from line ss) ≡ length ss
length_labelled line [] = refl
length_labelled line (s ∷ more) = ap (λ n. suc n) (length_labelled (line + line_count (typeset s.written)) more)

take_labelled : (n line : ℕ) (ss : List LabelledStatement) → take n (labelled_from line ss) ≡ labelled_from line (take n ss)
take_labelled zero line [] = refl
take_labelled zero line (s ∷ more) = refl
take_labelled (suc n) line [] = refl
take_labelled (suc n) line (s ∷ more) = grind (arith, take_labelled n (line + line_count (typeset s.written)) more)

but_last : {A : Type 0} (xs : List A) (x : A) → take (length (xs ++ x ∷ []) - 1) (xs ++ x ∷ []) ≡ xs
but_last xs x = grind (arith, length-append xs (x ∷ []), take-append_seam xs (x ∷ []))

-- ---- declarations

typed_stay : (names : List NameInfo) → list_all stays_written (map typed_name names) ≡ true
typed_stay [] = refl
typed_stay (name ∷ names) = typed_stay names

groups_stay : (groups : List (List Member)) → list_all stays_written (map group_statement groups) ≡ true
groups_stay [] = refl
groups_stay (group ∷ groups) = groups_stay groups

inits_stay : (inits : List InitPart) → list_all stays_written (map init_statement inits) ≡ true
inits_stay [] = refl
inits_stay (init ∷ inits) = inits_stay inits

common_stays : (parts : List CommonPart) (k : ℕ) (found : Option CommonPart) → list_all stays_written (common_at parts k found) ≡ true
common_stays parts k None = refl
common_stays parts k (Some part) = grind arith

commons_stay : (parts : List CommonPart) (places : List ℕ) → list_all stays_written (flat_map (λ k. common_at parts k (slice_get parts k)) places) ≡ true
commons_stay parts [] = refl
commons_stay parts (k ∷ places) = grind (arith, list_all-append stays_written, and_from, common_stays parts, commons_stay parts places)

both_stay : (xs ys : List WrittenStatement) → list_all stays_written xs ≡ true → list_all stays_written ys ≡ true → list_all stays_written (xs ++ ys) ≡ true
both_stay xs ys first second = list_all-append stays_written xs ys ∙ and_from (list_all stays_written xs) (list_all stays_written ys) first second

declared_stay : (q : Program) → list_all stays (map declaration (declared q)) ≡ true
declared_stay q =
    let a = map typed_name q.names in
    let b = commons q.commons in
    let c = map group_statement q.groups in
    let d = map init_statement q.inits in
    let first = both_stay a b (typed_stay q.names) (commons_stay q.commons (range_with_len 0 (length q.commons))) in
    let second = both_stay (a ++ b) c first (groups_stay q.groups) in
    list_all-map stays declaration (declared q) ∙ both_stay (a ++ b ++ c) d second (inits_stay q.inits)

-- ---- flat statements

shown_stays : (names : List NameInfo) (stmt : Flat) → (stmt ≡ Finish → ⊥) → stays_written (shown names stmt) ≡ true
shown_stays names h some = grind (arith, guarded_subroutines)

module _ (names : List NameInfo) (flat : List FlatLine) (form : IsFlat flat) where
  place_stays : (k : ℕ) (found : Option FlatLine) → slice_get flat k ≡ found → suc k < length flat → list_all stays (written_in names flat k found) ≡ true
  place_stays k None is lt = refl
  place_stays k (Some l) is lt = grind (arith, and_from (stays_written (shown names l.stmt)) true, shown_stays names l.stmt)

  places_stay : (k n : ℕ) → k + n < length flat → list_all stays (flat_map (written_at names flat) (range_with_len k n)) ≡ true
  places_stay k zero lt = refl
  places_stay k (suc n) lt = grind (arith, list_all-append stays, and_from, place_stays k (slice_get flat k), places_stay (k + 1) n)

-- ---- all

no_second : (a b : Bool) → (not a && not b) ≡ true → b ≡ false
no_second a h h2 = grind arith

plain_from : (ss : List LabelledStatement) → list_all stays ss ≡ true → All IsPlain ss
plain_from [] stay = All-nil IsPlain
plain_from (s ∷ ss) stay = grind (arith, All-cons IsPlain s ss, no_second, plain_from ss)

plain_labelled : (line : ℕ) (ss : List LabelledStatement) → All IsPlain ss → All (λ t. is_of_subroutines t.stmt ≡ false) (labelled_from line ss)
plain_labelled line [] all = All-nil (λ (t : Labelled). is_of_subroutines t.stmt ≡ false)
plain_labelled line (s ∷ ss) all =
    let next = line + line_count (typeset s.written) in
    All-cons (λ (t : Labelled). is_of_subroutines t.stmt ≡ false) (record { label = s.label; line = line; stmt = statement_of s.written }) (labelled_from next ss) (All-first IsPlain s ss all) (plain_labelled next ss (All-rest IsPlain s ss all))

-- END after statements of which none is END
record EndsUnit (ss : List LabelledStatement) : Type 0 where
  before : List LabelledStatement
  last : LabelledStatement
  is : ss ≡ before ++ last ∷ []
  stay : list_all stays before ≡ true
  plain : IsPlain last

ends_unit : (q : Program) (flat : List FlatLine) → IsFlat flat → EndsUnit (written_statements q flat)
ends_unit q flat form =
    let some = form.some in
    let last = length flat - 1 in
    let count : last + 1 ≡ length flat = omega (arith, some) in
    let found = get_some flat last (omega (arith, some)) in
    let l = found.0 in
    let finish : l.stmt ≡ Finish = (form.ended last l found.1).1 (omega (arith, some)) in
    let x : LabelledStatement = record { label = label_at flat last l; written = shown q.names l.stmt } in
    let front = map declaration (declared q) in
    let before = flat_map (written_at q.names flat) (range_with_len 0 last) in
    let one : flat_map (written_at q.names flat) (last ∷ []) ≡ x ∷ [] = append-nil (written_at q.names flat last) ∙ ap (written_in q.names flat last) found.1 in
    let all : flat_map (written_at q.names flat) (range_with_len 0 (length flat)) ≡ before ++ x ∷ [] =
    ap (λ n. flat_map (written_at q.names flat) (range_with_len 0 n)) (sym count) ∙ ap (flat_map (written_at q.names flat)) (range_more last)
    ∙ flat_map-append (written_at q.names flat) (range_with_len 0 last) (last ∷ []) ∙ ap (λ ss. before ++ ss) one in
    record {
      before = front ++ before;
      last = x;
      is = ap (λ ss. front ++ ss) all ∙ sym (append_assoc front before (x ∷ []));
      stay = list_all-append stays front before ∙ and_from (list_all stays front) (list_all stays before) (declared_stay q) (places_stay q.names flat form 0 last (omega (arith, some)));
      plain = ap (λ (stmt : Flat). is_of_subroutines (statement_of (shown q.names stmt))) finish;
    }

pub printed_unit : (q : Program) (flat : List FlatLine) → IsFlat flat → is_one_unit (statements_read q flat) ≡ true
printed_unit q flat form = grind (arith, ends_unit q flat form, length_labelled 1, take_labelled, all_labelled 1, but_last)

pub printed_plain : (q : Program) (flat : List FlatLine) → IsFlat flat → All (λ s. is_of_subroutines s.stmt ≡ false) (statements_read q flat)
printed_plain q flat form =
    grind (arith, ends_unit q flat form, All-append IsPlain, plain_from, All-cons IsPlain, All-nil IsPlain, plain_labelled 1 (written_statements q flat))

pub printed_listed : (q : Program) (flat : List FlatLine) (checked : Bool) → IsFlat flat → listed (statements_read q flat) checked ≡ Ok (statements_read q flat)
printed_listed q flat checked form =
    ap (λ (one : Bool). if◌then◌else◌ {A = Result (List Labelled) SubEnd} one (Ok (statements_read q flat)) (expansion (statements_read q flat) checked)) (printed_unit q flat form)
