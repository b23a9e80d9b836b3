-- A printed program is read without a fault of form: the layout can refuse it for operations alone.
use Rattle.std.proofs.Common.{◌≡◌, ℕ, zero, suc, ◌+◌, ◌<◌, ◌≤◌, ℤ, Bool, true, false, cond, ◌||◌, nat_lt, List, [], ◌∷◌, ◌++◌, length, map, take, Some, None, refl, sym, ap, subst, ◌∙◌, arith, append-nil, append_assoc}
use Rattle.std.specs.Prelude.{slice_get}
use Rattle.std.specs.List.{range_with_len}
use Rattle.std.proofs.lemmas.Bool.{or_from, le-ltb}
use Rattle.f77_tree.specs.declared.programs.Program.{Program}
use Rattle.f77_tree.specs.declared.statements.Labelled.{Labelled}
use Rattle.f77_tree.specs.InitialWords.{initial_word, AreInitial}
use Rattle.f77_tree.specs.Places.{ArePlaces, equations}
use Rattle.layout_rules.specs.Declarations.{all_inits}
use Rattle.layout_rules.specs.Faults.{first_after}
use Rattle.layout_rules.specs.Layout.{names_of, placed_names, word_count, last_line, line_of_words, program}
use Rattle.layout_rules.specs.StorageFaults.{has_dims_twice, has_wrong_dims, is_common_twice, has_wrong_member, has_wrong_places, has_wrong_data, has_wrong_storage}
use Rattle.layout_rules.specs.StorageLines.{storage_line}
use Rattle.storage_checks.proofs.FaultLines.{storage-without}
use Rattle.flat_programs.specs.declared.statements.FlatLine.{FlatLine}
use Rattle.read_back.specs.PrintedArrays.{HasNoPrintedArrays}
use Rattle.read_back.specs.PrintedStatements.{CanBeText}
use Rattle.read_back.specs.SourceStatements.{statements_read}
use Rattle.read_back.proofs.FirstFaults.{none_faulty}
use Rattle.read_back.proofs.PrintedCommon.{none_common_twice}
use Rattle.read_back.proofs.PrintedData.{none_wrong_data}
use Rattle.read_back.proofs.PrintedDimensions.{none_dims_twice, none_wrong_dims, none_wrong_member}
use Rattle.read_back.proofs.ReadDeclarations.{inits_same}
use Rattle.read_back.proofs.PrintedStorage.{none_wrong_places, table_again, words_again}

-- where no statement has a fault, this one is without it
abbrev AreClear : (fault : List Labelled → Labelled → Bool) → (above stmts : List Labelled) → Labelled → Type 0
AreClear fault above stmts s = first_after fault above stmts ≡ None → (k : ℕ) → slice_get stmts k ≡ Some s → fault (above ++ take k stmts) s ≡ false

each_clear : (fault : List Labelled → Labelled → Bool) (above stmts : List Labelled) → first_after fault above stmts ≡ None → (k : ℕ) (s : Labelled) → slice_get stmts k ≡ Some s → fault (above ++ take k stmts) s ≡ false
each_clear fault above [] none k s is = absurd cc
each_clear fault above (t ∷ rest) none k s is = by (fault above t) refl none k is (λ later j there. each_clear fault (above ++ t ∷ []) rest later j s there)
  where
    by : (b : Bool) → fault above t ≡ b → cond b (Some t.line) (first_after fault (above ++ t ∷ []) rest) ≡ None → (j : ℕ) → slice_get (t ∷ rest) j ≡ Some s → AreClear fault (above ++ t ∷ []) rest s → fault (above ++ take j (t ∷ rest)) s ≡ false
    by true found none' j is' later = absurd cc
    by false clear none' zero is' later =
        let same : t ≡ s = cc in
        ap (λ xs. fault xs s) (append-nil above) ∙ ap (fault above) (sym same) ∙ clear
    by false clear none' (suc j) is' later = ap (λ xs. fault xs s) (sym (append_assoc above (t ∷ []) (take j rest))) ∙ later none' j is'

-- the numbers that stand at places
listed : (f : ℕ → ℤ) (a : ℕ) (zs : List ℤ) → ((k : ℕ) → k < length zs → slice_get zs k ≡ Some (f (a + k))) → map f (range_with_len a (length zs)) ≡ zs
listed f a [] each = refl
listed f a (z ∷ zs) each =
    let first : a + 0 ≡ a = omega arith in
    let here : Some z ≡ Some (f a) = each 0 (omega arith) ∙ ap (λ k. Some (f k)) first in
    let same : f a ≡ z = cc in
    let rest = listed f (a + 1) zs (λ k lt. let next : a + suc k ≡ (a + 1) + k = omega arith in each (suc k) (omega (arith, lt)) ∙ ap (λ j. Some (f j)) next) in
    ap (λ y. y ∷ map f (range_with_len (a + 1) (length zs))) same ∙ ap (λ ys. z ∷ ys) rest

module _ (q : Program) (flat : List FlatLine) (given : CanBeText q flat) (free : HasNoPrintedArrays q.names) (places : ArePlaces q.names q.commons (equations q.names q.commons q.groups) q.words) where
  abbrev stmts : List Labelled
  stmts = statements_read q flat

  pub none_wrong_storage : storage_line (names_of stmts) (placed_names stmts) stmts ≡ None
  none_wrong_storage =
      storage-without (names_of stmts) (placed_names stmts) stmts
      (none_faulty (has_wrong_storage (names_of stmts) (placed_names stmts) stmts) stmts (λ k s is.
      let above = take k stmts in
      let names = names_of stmts in
      let dims_once : has_dims_twice above s ≡ false = each_clear has_dims_twice [] stmts (none_dims_twice q flat given) k s is in
      let dims_right : has_wrong_dims s ≡ false = each_clear (λ above t. has_wrong_dims t) [] stmts (none_wrong_dims q flat given) k s is in
      let common_once : is_common_twice above s ≡ false = each_clear is_common_twice [] stmts (none_common_twice q flat given) k s is in
      let members : has_wrong_member names s ≡ false = each_clear (λ above t. has_wrong_member names t) [] stmts (none_wrong_member q flat given free) k s is in
      let placed : has_wrong_places names stmts above s ≡ false = each_clear (has_wrong_places names stmts) [] stmts (none_wrong_places q flat given free q.words places) k s is in
      let valued : has_wrong_data (placed_names stmts) above s ≡ false = each_clear (has_wrong_data (placed_names stmts)) [] stmts (none_wrong_data q flat given (placed_names stmts) (table_again q flat given free q.words places)) k s is in
      let dims = or_from (has_dims_twice above s) (has_wrong_dims s) dims_once dims_right in
      let once = or_from (has_dims_twice above s || has_wrong_dims s) (is_common_twice above s) dims common_once in
      let declared = or_from (has_dims_twice above s || has_wrong_dims s || is_common_twice above s) (has_wrong_member names s) once members in
      or_from (has_dims_twice above s || has_wrong_dims s || is_common_twice above s || has_wrong_member names s || has_wrong_places names stmts above s) (has_wrong_data (placed_names stmts) above s)
      (or_from (has_dims_twice above s || has_wrong_dims s || is_common_twice above s || has_wrong_member names s) (has_wrong_places names stmts above s) declared placed)
      valued))

  none_after : (most count : ℕ) → count ≤ most → cond (nat_lt most count) (Some (last_line stmts)) None ≡ None
  none_after most count le = ap (λ b. cond b (Some (last_line stmts)) None) (le-ltb most count le)

  pub few_words : q.words ≤ 262144 → line_of_words stmts ≡ None
  few_words few =
      let same = words_again q flat given free q.words places in
      none_after 262144 (word_count stmts) (subst (λ n. n ≤ 262144) (sym same) few)

  -- each word begins as it did
  pub initial_again : (checked : Bool) → length q.initial ≡ q.words → AreInitial q.names q.inits q.initial → (program (statements_read q flat) checked).initial ≡ q.initial
  initial_again checked long is =
      let f = initial_word q.names q.inits in
      ap (λ names. map (initial_word names (all_inits stmts)) (range_with_len 0 (word_count stmts))) (table_again q flat given free q.words places)
      ∙ ap (λ inits. map (initial_word q.names inits) (range_with_len 0 (word_count stmts))) (inits_same q flat given)
      ∙ ap (λ n. map f (range_with_len 0 n)) (words_again q flat given free q.words places ∙ sym long)
      ∙ listed f 0 q.initial (λ k lt. let e : k ≡ 0 + k = omega arith in is k lt ∙ ap (λ j. Some (f j)) e)
