-- DATA of a source without faults of storage: its constants, the words that it gives values to, and the initial words.
use Rattle.std.proofs.Common.{◌≡◌, ℕ, ◌<◌, ◌≤◌, ℤ, pos, Bool, false, cond, List, [], ◌∷◌, ◌++◌, length, map, All, Some, None, refl, sym, ap, ◌∙◌, arith}
use Rattle.std.specs.Prelude.{◌==◌, flat_map, nat_lt}
use Rattle.std.proofs.lemmas.Bool.{eq-eqb, ltb-false, false_from_ne_true}
use Rattle.std.proofs.lemmas.List.Elements.{All-nil, All-cons}
use Rattle.std.proofs.lemmas.List.FromFn.{length-map-range_with_len, get_or-map-range_with_len}
use Rattle.std.proofs.lemmas.Option.{slice_get-get_or}
use Rattle.f77_tree.specs.declared.declarations.InitPart.{InitPart}
use Rattle.f77_tree.specs.declared.programs.NameInfo.{NameInfo}
use Rattle.f77_tree.specs.declared.statements.Labelled.{Labelled}
use Rattle.f77_tree.specs.Declarations.{IsMember}
use Rattle.f77_tree.specs.InitialWords.{IsInitPart, GivenOnce, AreInitial, part_kinds, part_words, constants, lit_kind, initial_word}
use Rattle.layout_rules.specs.Faults.{first_line}
use Rattle.layout_rules.specs.Declarations.{all_inits}
use Rattle.layout_rules.specs.Layout.{names_of, placed_names, word_count, last_line, line_of_words, program}
use Rattle.layout_rules.specs.Source.{IsSource}
use Rattle.layout_rules.specs.StorageFaults.{has_wrong_storage, has_wrong_part}
use Rattle.layout_rules.specs.ReadDeclarations.{IsReadInit}
use Rattle.storage_laws.proofs.RightStorage.{right_data_of}
use Rattle.layout_rules.proofs.RightParts.{right_parts, words_once}
use Rattle.storage_laws.proofs.DeclaredForms.{all_inits-read}
use Rattle.layout_rules.proofs.DeclaredOnce.{one_place}
use Rattle.storage_laws.proofs.DeclaredMembers.{all_items-right}

-- ---- parts without faults

module _ (names : List NameInfo) where
  abbrev HasKinds : InitPart → Type 0
  HasKinds part = part_kinds names part ≡ map lit_kind (constants part)

  all_kinds : (given : List ℕ) (parts : List InitPart) → has_wrong_part names given parts ≡ false → All HasKinds parts
  all_kinds given [] right = All-nil HasKinds
  all_kinds given (part ∷ parts) right =
      let are = right_parts names given part parts right in
      All-cons HasKinds part parts are.here.kinds (all_kinds (given ++ part_words names part) parts are.later)

  init_part : (part : InitPart) → IsReadInit part → All (IsMember names) part.items → HasKinds part → IsInitPart names part
  init_part part read members kinds = record { some_items = read.some_items; some_values = read.some_values; members = members; written = read.written; kinds = kinds }

module _ (whole : List Labelled) (right : first_line (has_wrong_storage (names_of whole) (placed_names whole) whole) whole ≡ None) where
  -- each part of DATA of a program is one by itself
  pub all_inits-right : IsSource whole → All (IsInitPart (placed_names whole)) (all_inits whole)
  all_inits-right source k d lt =
      init_part (placed_names whole) _ (all_inits-read whole source.trees k d lt) (all_items-right whole source right k d lt) (all_kinds (placed_names whole) [] (all_inits whole) (right_data_of (names_of whole) (placed_names whole) whole right) k d lt)

  -- no word is given a value twice
  pub all_inits-once : GivenOnce (placed_names whole) (all_inits whole)
  all_inits-once j k word at_j at_k =
      one_place (λ a b. a == b) (λ a. eq-eqb a a refl) [] (flat_map (part_words (placed_names whole)) (all_inits whole)) (words_once (placed_names whole) [] (all_inits whole) (right_data_of (names_of whole) (placed_names whole) whole right)) j k word at_j at_k

-- ---- initial words

module _ (whole : List Labelled) (checked : Bool) where
  pub program-initial_count : length (program whole checked).initial ≡ (program whole checked).words
  program-initial_count = length-map-range_with_len (initial_word (placed_names whole) (all_inits whole)) 0 (word_count whole)

  -- each word of a program begins as DATA says
  pub program-AreInitial : AreInitial (program whole checked).names (program whole checked).inits (program whole checked).initial
  program-AreInitial word lt =
      let f = initial_word (placed_names whole) (all_inits whole) in
      let few : word < word_count whole = omega (arith, lt, program-initial_count) in
      slice_get-get_or (program whole checked).initial word (pos 0) lt
      ∙ ap (λ (z : ℤ). Some z) (get_or-map-range_with_len f 0 (word_count whole) word word (pos 0) few (omega arith))

  pub program-word_count : line_of_words whole ≡ None → (program whole checked).words ≤ 262144
  program-word_count none =
      ltb-false 262144 (word_count whole) (false_from_ne_true (nat_lt 262144 (word_count whole)) (λ many. let told : Some (last_line whole) ≡ None = sym (ap (λ b. cond b (Some (last_line whole)) None) many) ∙ none in absurd cc))
