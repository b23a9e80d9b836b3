-- Statements with temporaries, after the assignments that are due before them.
use Rattle.std.proofs.Common.{◌≡◌, ℕ, zero, suc, ◌+◌, ◌-◌, ◌<◌, ◌≤◌, All, Bool, true, false, not, ◌&&◌, List, [], ◌∷◌, ◌++◌, length, get_or, map, filter, fold, Option, Some, None, option_to_list, refl, sym, ap, subst, ◌∙◌, arith}
use Rattle.std.specs.Prelude.{flat_map, slice_get, sum_by, if◌then◌else◌}
use Rattle.std.specs.List.{range_with_len}
use Rattle.std.proofs.lemmas.Bool.{and_parts}
use Rattle.std.proofs.lemmas.List.{length-append, length-map}
use Rattle.std.proofs.lemmas.List.Concat.{length-flat_map}
use Rattle.std.proofs.lemmas.List.Elements.{All-nil, All-push, All-head, All-tail, All-filter, filter_passes}
use Rattle.std.proofs.lemmas.List.Sums.{sum_by_push}
use Rattle.std.proofs.lemmas.Option.{slice_get-get_or}
use Rattle.list_laws.proofs.Counts.{sum_same}
use Rattle.list_laws.proofs.Ranges.{range_more}
use Rattle.f77_tree.specs.declared.programs.Exec.{Exec}
use Rattle.f77_tree.specs.declared.programs.ExecKind.{ExecKind}
use Rattle.f77_tree.specs.declared.programs.Program.{Program}
use Rattle.flat_programs.specs.declared.statements.Flat.{Flat}
use Rattle.flat_programs.specs.declared.statements.Flat.TheVariants.{Mark, Assignment, Output, LogicalIf, ArithmeticIf, ComputedGoTo, DoLoop, Jump, Finish}
use Rattle.flat_programs.specs.declared.statements.FlatLine.{FlatLine}
use Rattle.flat_programs.specs.Executables.{executables, executables_at, executables_in, first_of, following, increment, leading, width, width_at, width_in}
use Rattle.flat_programs.specs.Marks.{is_end, loop_to, mark_at}
use Rattle.flat_programs.specs.Flow.{IsTable as IsFlatTable}
use Rattle.redundancy.specs.Available.{Availability}
use Rattle.redundancy.specs.Computed.{computed_by}
use Rattle.cfg_build.specs.Flow.{flow, piece_at}
use Rattle.simplified_forms.specs.Items.{own_piece}
use Rattle.shared_forms.specs.Numbered.{added, number_of, IsSharedNumber}
use Rattle.shared_forms.specs.Shared.{due, computed, is_available, is_one_of, is_shared, kept_value, replaced_in, shared_flat, shared_lines}
use Rattle.simplified_forms.specs.Tables.{IsTable}
use Rattle.shared_forms.proofs.NumberLemmas.{numbers_in-below}
use Rattle.simplified_forms.proofs.RangeCounts.{entry_read}
use Rattle.simplified_forms.proofs.StatementLemmas.{lines-more}

pub table-again : (f : ℕ → ℕ) (n : ℕ) (table : List ℕ) → IsFlatTable f n table → IsTable f n table
table-again f n table is = record { size = is.size; entry = is.entry }

-- ---- first executables

choice-length : (b : Bool) (kind : ExecKind) → suc (length (option_to_list (if b then Some kind else None))) ≡ (if b then 2 else 1)
choice-length true kind = refl
choice-length false kind = refl

module _ (flat : List FlatLine) where
  statement-length : (place : ℕ) (stmt : Flat) → suc (length (option_to_list (following flat place stmt))) ≡ width flat place stmt
  statement-length place Mark = choice-length (is_end flat (mark_at flat place)) (increment flat (loop_to flat (mark_at flat place)) (first_of flat (place + 1)))
  statement-length place (Assignment target value) = refl
  statement-length place (Output items) = refl
  statement-length place (LogicalIf cond target) = refl
  statement-length place (ArithmeticIf value below at above) = refl
  statement-length place (ComputedGoTo value targets) = refl
  statement-length place (DoLoop end var first last step) = refl
  statement-length place (Jump target) = refl
  statement-length place Finish = refl

  pub executables_in-length : (place : ℕ) (o : Option FlatLine) → length (executables_in flat place o) ≡ width_in flat place o
  executables_in-length place None = refl
  executables_in-length place (Some l) =
      length-map (leading flat place l.stmt ∷ option_to_list (following flat place l.stmt)) (λ (kind : ExecKind). let exec : Exec = record { line = l.line; kind = kind } in exec)
      ∙ statement-length place l.stmt

  pub executables-length : length (executables flat) ≡ first_of flat (length flat)
  executables-length =
      length-flat_map (executables_at flat) (range_with_len 0 (length flat))
      ∙ sum_same (λ place. length (executables_at flat place)) (width_at flat) (range_with_len 0 (length flat)) (λ place m. executables_in-length place (slice_get flat place))

  pub first-more : (k : ℕ) → first_of flat (k + 1) ≡ first_of flat k + width_at flat k
  first-more k = ap (sum_by (width_at flat)) (range_more k) ∙ sum_by_push (width_at flat) (range_with_len 0 k) k

  pub first-up : (k j : ℕ) → first_of flat k ≤ first_of flat (k + j)
  first-up k zero = let e : k ≡ k + 0 = omega arith in subst (λ n. first_of flat k ≤ first_of flat n) e (omega arith)
  first-up k (suc j) =
      let e : k + j + 1 ≡ k + suc j = omega arith in
      let more = first-more (k + j) in
      let rest = first-up k j in
      subst (λ n. first_of flat k ≤ first_of flat n) e (omega (arith, more, rest))

  pub wide : (place : ℕ) (o : Option FlatLine) (l : FlatLine) → o ≡ Some l → 1 ≤ width_in flat place o
  wide place None l is = let e : None ≡ Some l = is in absurd cc
  wide place (Some m) l is = let size = statement-length place m.stmt in omega (arith, size)

  -- a statement has an executable
  pub first-within : (place : ℕ) (l : FlatLine) → place < length flat → slice_get flat place ≡ Some l → first_of flat place < length (executables flat)
  first-within place l less is =
      let e : place + 1 + (length flat - (place + 1)) ≡ length flat = omega (arith, less) in
      let up = subst (λ n. first_of flat (place + 1) ≤ first_of flat n) e (first-up (place + 1) (length flat - (place + 1))) in
      let more = first-more place in
      let some = wide place (slice_get flat place) l is in
      omega (arith, up, more, some, executables-length)

  -- what is read in the table of first executables
  pub first-read : (place k : ℕ) (first : List ℕ) → IsFlatTable (first_of flat) (length flat + 1) first → place < length flat → k ≡ get_or first place k → k ≡ first_of flat place
  first-read place k first are less read = entry_read (first_of flat) (length flat + 1) place k first (table-again (first_of flat) (length flat + 1) first are) (omega (arith, less)) read

  pub first-below : (place k : ℕ) (l : FlatLine) (first : List ℕ) (execs : List Exec) → IsFlatTable (first_of flat) (length flat + 1) first → place < length flat → slice_get flat place ≡ Some l → executables flat ≡ execs → k ≡ get_or first place k → k < length execs
  first-below place k l first execs are less at made read =
      let is = first-read place k first are less read in
      let within = first-within place l less at in
      let same = ap (λ (xs : List Exec). length xs) made in
      omega (arith, is, within, same)

  least : (k : ℕ) → k ≤ length flat → k ≤ first_of flat k
  least zero few = omega arith
  least (suc k) few =
      let mark : FlatLine = record { line = 0; stmt = Mark } in
      let e : k + 1 ≡ suc k = omega arith in
      let more = first-more k in
      let some = wide k (slice_get flat k) (get_or flat k mark) (slice_get-get_or flat k mark (omega (arith, few))) in
      let rest = least k (omega (arith, few)) in
      subst (λ n. n ≤ first_of flat n) e (omega (arith, more, some, rest))

  -- there are no more statements than executables
  pub statements-most : length flat ≤ length (executables flat)
  statements-most = omega (arith, least (length flat) (omega arith), executables-length)

-- ---- what is due

module _ (P : ℕ → Type 0) where
  added-all : (b : Bool) (seen : List ℕ) (n : ℕ) → All P seen → P n → All P (if b then seen else (seen ++ n ∷ []))
  added-all true seen n all here = all
  added-all false seen n all here = All-push P seen n all here

  fold-all : (seen ns : List ℕ) → All P seen → All P ns → All P (fold added seen ns)
  fold-all seen [] all more = all
  fold-all seen (n ∷ ns) all more = fold-all (added seen n) ns (added-all (is_one_of seen n) seen n all (All-head P n ns more)) (All-tail P n ns more)

module _ (q : Program) (a : Availability) where
  -- what is due is shared
  pub due-shared : (k : ℕ) → All (IsSharedNumber q a) (due q a (number_of a) k)
  due-shared k =
      let test : ℕ → Bool = λ n. is_shared q a (number_of a) n && not (is_available q a (number_of a) k n) in
      let ns : List ℕ = computed q a (number_of a) k in
      let below : All (λ n. n < length a.candidates) ns = numbers_in-below a.candidates (computed_by q.execs (piece_at (flow q.execs).pieces (own_piece q k))) in
      let kept : All (λ n. n < length a.candidates) (filter test ns) = All-filter test (λ n. n < length a.candidates) ns below in
      fold-all (IsSharedNumber q a) [] (filter test ns) (All-nil (IsSharedNumber q a))
      (λ i d less. record { within = kept i d less; shared = (and_parts (is_shared q a (number_of a) (get_or (filter test ns) i d)) (not (is_available q a (number_of a) k (get_or (filter test ns) i d))) (filter_passes test ns i d less)).0 })

  -- ---- lines

  pub line-shared : (flat : List FlatLine) (place k : ℕ) (l : FlatLine) (ns : List ℕ) → slice_get flat place ≡ Some l → k ≡ first_of flat place → ns ≡ due q a (number_of a) k → (map (kept_value q a (number_of a) l.line) ns ++ record { line = l.line; stmt = replaced_in q a (number_of a) l.stmt } ∷ []) ≡ shared_lines q a (number_of a) (first_of flat place) (slice_get flat place)
  line-shared flat place k l ns at first are =
      let last : FlatLine = record { line = l.line; stmt = replaced_in q a (number_of a) l.stmt } in
      ap (λ (xs : List ℕ). map (kept_value q a (number_of a) l.line) xs ++ last ∷ []) (are ∙ ap (due q a (number_of a)) first)
      ∙ ap (shared_lines q a (number_of a) (first_of flat place)) (sym at)

  abbrev pub lines_to : List FlatLine → (n : ℕ) → List FlatLine
  lines_to flat n = flat_map (λ place. shared_lines q a (number_of a) (first_of flat place) (slice_get flat place)) (range_with_len 0 n)

  lines-up : (flat : List FlatLine) (k j : ℕ) → length (lines_to flat k) ≤ length (lines_to flat (k + j))
  lines-up flat k zero = let e : k ≡ k + 0 = omega arith in subst (λ n. length (lines_to flat k) ≤ length (lines_to flat n)) e (omega arith)
  lines-up flat k (suc j) =
      let g : ℕ → List FlatLine = λ place. shared_lines q a (number_of a) (first_of flat place) (slice_get flat place) in
      let e : k + j + 1 ≡ k + suc j = omega arith in
      let more = ap length (lines-more g (k + j)) ∙ length-append (lines_to flat (k + j)) (g (k + j)) in
      let rest = lines-up flat k j in
      subst (λ n. length (lines_to flat k) ≤ length (lines_to flat n)) e (omega (arith, more, rest))

  -- one statement more
  pub lines-next : (flat : List FlatLine) (place : ℕ) (old new here : List FlatLine) → old ≡ lines_to flat place → here ≡ shared_lines q a (number_of a) (first_of flat place) (slice_get flat place) → new ≡ old ++ here → new ≡ lines_to flat (place + 1)
  lines-next flat place old new here so_far is made =
      made
      ∙ ap (λ (xs : List FlatLine). xs ++ here) so_far
      ∙ ap (λ (xs : List FlatLine). lines_to flat place ++ xs) is
      ∙ sym (lines-more (λ k. shared_lines q a (number_of a) (first_of flat k) (slice_get flat k)) place)

  -- a front is no longer than all
  pub lines-many : (flat : List FlatLine) (place n : ℕ) (here : List FlatLine) → place < length flat → here ≡ shared_lines q a (number_of a) (first_of flat place) (slice_get flat place) → n < length (lines_to flat place) + length here → n < length (shared_flat q a (number_of a) flat)
  lines-many flat place n here less is many =
      let g : ℕ → List FlatLine = λ k. shared_lines q a (number_of a) (first_of flat k) (slice_get flat k) in
      let e : place + 1 + (length flat - (place + 1)) ≡ length flat = omega (arith, less) in
      let up = subst (λ m. length (lines_to flat (place + 1)) ≤ length (lines_to flat m)) e (lines-up flat (place + 1) (length flat - (place + 1))) in
      let more = ap length (lines-more g place) ∙ length-append (lines_to flat place) (g place) in
      let same = ap length is in
      omega (arith, up, more, same, many)

  pub line-length : (line : ℕ) (last : FlatLine) (ns : List ℕ) → length (map (kept_value q a (number_of a) line) ns ++ last ∷ []) ≡ length ns + 1
  line-length line last ns = length-append (map (kept_value q a (number_of a) line) ns) (last ∷ []) ∙ ap (λ n. n + 1) (length-map ns (kept_value q a (number_of a) line))
