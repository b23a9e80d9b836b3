-- The words of scalars that are added begin at 0, and the other words as before.
use Rattle.std.proofs.Common.{◌≡◌, ℕ, ◌+◌, ◌-◌, ◌<◌, ◌≤◌, ℤ, pos, ◌≤ℤ◌, nat_abs, List, [], ◌∷◌, ◌++◌, length, get_or, replicate, All, Some, slice_get, zip, find, ◌==◌, refl, sym, ap, ◌∙◌, ⊎_elim, arith, length-append}
use Rattle.std.proofs.lemmas.Bool.{cases_lt, ne_eqb}
use Rattle.std.proofs.lemmas.Int.{ints}
use Rattle.std.proofs.lemmas.List.{get_or-replicate, length-replicate}
use Rattle.std.proofs.lemmas.Option.{slice_get-get_or}
use Rattle.f77_tree.specs.declared.declarations.CommonPart.{CommonPart}
use Rattle.f77_tree.specs.declared.declarations.InitPart.{InitPart}
use Rattle.f77_tree.specs.declared.declarations.Lit.{Lit}
use Rattle.f77_tree.specs.declared.declarations.Member.{Member}
use Rattle.f77_tree.specs.declared.programs.NameInfo.{NameInfo}
use Rattle.f77_tree.specs.Declarations.{IsDim, IsMember, member_index, offset_of}
use Rattle.f77_tree.specs.InitialWords.{AreInitial, IsInitPart, given_constants, given_words, initial_word, item_words, part_words, word_of_pair, words_at, words_from}
use Rattle.f77_tree.specs.Places.{ArePlaces, end_of, equations}
use Rattle.f77_tree.specs.Value.{place_of, dims_of, size_of}
use Rattle.f77_tree.specs.WellFormed.{AreDeclarations}
use Rattle.f77_tree.proofs.AllLemmas.{All-nil, All-cons, All-first, All-rest, get-longer}
use Rattle.f77_tree.proofs.AddedNames.{given-longer}
use Rattle.f77_tree.proofs.AddedPlaces.{get-after}
use Rattle.f77_tree.proofs.Equations.{All-flat, member-below, size-one}
use Rattle.f77_tree.proofs.NameWords.{length-from, from-at}
use Rattle.f77_tree.proofs.Places.{nonneg}
use Rattle.f77_tree.proofs.WellFormedLaws.{table-bounds}

-- ---- what DATA gives a value to is a word of the program

from-below : (first n words : ℕ) → first + n ≤ words → All (λ w. w < words) (words_from first n)
from-below first n words le k d lt =
    let whole = length-from first n in
    let below : k < n = omega (arith, lt, whole) in
    let at = from-at first n k d below in
    omega (arith, at, below, le)

module _ (names : List NameInfo) (words : ℕ) (bounds : (x : ℕ) → x < length names → All IsDim (dims_of names x)) (within : (x : ℕ) → x < length names → end_of names x ≤ℤ pos words) where
  item-below : (m : Member) → IsMember names m → All (λ w. w < words) (item_words names m)
  item-below m is = by m.subs refl
    where
      by : (subs : List ℤ) → m.subs ≡ subs → All (λ w. w < words) (words_at names (member_index names m) subs)
      by [] e =
          let some = size-one names bounds (member_index names m) is.known in
          let size = nonneg (size_of (dims_of names (member_index names m))) (omega (arith, ints, some)) in
          let inside = within (member_index names m) is.known in
          from-below (place_of names (member_index names m)) (nat_abs (size_of (dims_of names (member_index names m)))) words (omega (arith, ints, size, inside))
      by (sub ∷ subs) e =
          let element = member-below names bounds m is in
          let offset : nat_abs (offset_of (dims_of names (member_index names m)) (sub ∷ subs)) ≡ element.0 = ap (λ (l : List ℤ). nat_abs (offset_of (dims_of names (member_index names m)) l)) (sym e) ∙ ap nat_abs element.1 in
          let below = element.2 in
          let inside = within (member_index names m) is.known in
          All-cons (λ w. w < words) (place_of names (member_index names m) + nat_abs (offset_of (dims_of names (member_index names m)) (sub ∷ subs))) [] (omega (arith, ints, offset, below, inside)) (All-nil (λ w. w < words))

  given-below : (inits : List InitPart) → All (IsInitPart names) inits → All (λ w. w < words) (given_words names inits)
  given-below inits all =
      All-flat (λ w. w < words) (part_words names) inits (λ k d lt.
      All-flat (λ w. w < words) (item_words names) (get_or inits k d).items (λ j e below. item-below (get_or (get_or inits k d).items j e) ((all k d lt).members j e below)))

-- a word to which none is given begins at 0
found-none : (words word : ℕ) (ws : List ℕ) (lits : List Lit) → words ≤ word → All (λ w. w < words) ws → word_of_pair (find (λ pair. pair.0 == word) (zip ws lits)) ≡ pos 0
found-none words word [] lits le all = refl
found-none words word (w ∷ ws) [] le all = refl
found-none words word (w ∷ ws) (lit ∷ lits) le all =
    let lt : w < words = All-first (λ v. v < words) w ws all in
    rw (ne_eqb w word (λ e. omega (arith, e, lt, le))) (found-none words word ws lits le (All-rest (λ v. v < words) w ws all))

-- the initial words of a program with scalars added
pub initial-longer : (names more : List NameInfo) (commons : List CommonPart) (groups : List (List Member)) (inits : List InitPart) (initial : List ℤ) (words : ℕ) → AreDeclarations names commons groups inits → ArePlaces names commons (equations names commons groups) words → length initial ≡ words → AreInitial names inits initial → AreInitial (names ++ more) inits (initial ++ replicate (length more) (pos 0))
initial-longer names more commons groups inits initial words are is count begin word lt = ⊎_elim old new (cases_lt word (length initial))
  where
    same : initial_word (names ++ more) inits word ≡ initial_word names inits word
    same = ap (λ (ws : List ℕ). word_of_pair (find (λ pair. pair.0 == word) (zip ws (given_constants inits)))) (given-longer names more inits are.init)

    old : word < length initial → slice_get (initial ++ replicate (length more) (pos 0)) word ≡ Some (initial_word (names ++ more) inits word)
    old below = get-longer initial (replicate (length more) (pos 0)) word below ∙ begin word below ∙ ap (λ z. Some z) (sym same)

    none : length initial ≤ word → initial_word names inits word ≡ pos 0
    none le = found-none words word (given_words names inits) (given_constants inits) (omega (arith, le, count)) (given-below names words (table-bounds names are.table) is.within inits are.init)

    zero_at : (j : ℕ) → j < length more → slice_get (replicate (length more) (pos 0)) j ≡ Some (pos 0)
    zero_at j below =
        let size = length-replicate (length more) (pos 0) in
        slice_get-get_or (replicate (length more) (pos 0)) j (pos 0) (omega (arith, below, size)) ∙ ap (λ z. Some z) (get_or-replicate (length more) j (pos 0) (pos 0) below)

    new : length initial ≤ word → slice_get (initial ++ replicate (length more) (pos 0)) word ≡ Some (initial_word (names ++ more) inits word)
    new le =
        let both = length-append initial (replicate (length more) (pos 0)) in
        let size = length-replicate (length more) (pos 0) in
        let at : word ≡ length initial + (word - length initial) = omega (arith, le) in
        ap (slice_get (initial ++ replicate (length more) (pos 0))) at ∙ get-after initial (replicate (length more) (pos 0)) (word - length initial)
        ∙ zero_at (word - length initial) (omega (arith, lt, le, both, size)) ∙ ap (λ z. Some z) (sym (same ∙ none le))
