-- DATA of a printed program is right: its constants have the kinds of their words, and no word has two values.
use Rattle.std.proofs.Common.{◌≡◌, ℕ, suc, ◌+◌, ◌==◌, Bool, true, false, not, ◌||◌, List, [], ◌∷◌, ◌++◌, length, map, take, drop, All, None, Some, refl, sym, ap, subst, ◌∙◌, ⊎_elim, arith, append_assoc}
use Rattle.std.specs.Prelude.{flat_map, slice_get}
use Rattle.std.proofs.lemmas.Bool.{cases_Bool, eqb-true, or_parts, or_from}
use Rattle.std.proofs.lemmas.List.Concat.{flat_map-append}
use Rattle.f77_tree.specs.declared.declarations.InitPart.{InitPart}
use Rattle.f77_tree.specs.declared.declarations.Kind.{Kind}
use Rattle.f77_tree.specs.declared.declarations.Kind.TheVariants.{Integer, Logical}
use Rattle.f77_tree.specs.declared.programs.NameInfo.{NameInfo}
use Rattle.f77_tree.specs.declared.programs.Program.{Program}
use Rattle.f77_tree.specs.declared.statements.Labelled.{Labelled}
use Rattle.f77_tree.specs.InitialWords.{IsInitPart, part_kinds, part_words, constants, lit_kind, given_words}
use Rattle.f77_tree.proofs.AllLemmas.{All-nil, All-cons, All-first, All-rest, get-longer}
use Rattle.layout_rules.specs.Declarations.{all_inits, inits_of}
use Rattle.layout_rules.specs.Faults.{first_line, has_repeat}
use Rattle.layout_rules.specs.StorageFaults.{are_same_kinds, is_wrong_part, has_wrong_part, has_wrong_data}
use Rattle.layout_rules.proofs.FirstLine.{has_repeat-append}
use Rattle.flat_programs.specs.declared.statements.FlatLine.{FlatLine}
use Rattle.read_back.specs.PrintedStatements.{CanBeText}
use Rattle.read_back.specs.SourceStatements.{statements_read}
use Rattle.read_back.proofs.FirstFaults.{none_faulty, none_passes}
use Rattle.read_back.proofs.PrintedPlaces.{got_within, get-after}
use Rattle.read_back.proofs.PrintedStorage.{split_at}
use Rattle.read_back.proofs.ReadDeclarations.{inits_same}

abbrev same_word : ℕ → ℕ → Bool
same_word a b = a == b

-- ---- kinds

same_kinds : (ks : List Kind) → are_same_kinds ks ks ≡ true
same_kinds [] = refl
same_kinds (Integer ∷ ks) = same_kinds ks
same_kinds (Logical ∷ ks) = same_kinds ks

all_first : {X : Type 0} (P : X → Type 0) (xs ys : List X) → All P (xs ++ ys) → All P xs
all_first P [] ys each = All-nil P
all_first P (x ∷ xs) ys each = All-cons P x xs (All-first P x (xs ++ ys) each) (all_first P xs ys (All-rest P x (xs ++ ys) each))

all_last : {X : Type 0} (P : X → Type 0) (xs ys : List X) → All P (xs ++ ys) → All P ys
all_last P [] ys each = each
all_last P (x ∷ xs) ys each = all_last P xs ys (All-rest P x (xs ++ ys) each)

-- ---- words

-- a list in which nothing stands in two places
no_repeat : (front back : List ℕ) → ((j k x : ℕ) → slice_get (front ++ back) j ≡ Some x → slice_get (front ++ back) k ≡ Some x → j ≡ k) → has_repeat same_word front back ≡ false
no_repeat front [] differ = refl
no_repeat front (x ∷ back) differ =
    let moved = append_assoc front (x ∷ []) back in
    let e : length front + 0 ≡ length front = omega arith in
    let here : slice_get (front ++ x ∷ back) (length front) ≡ Some x = ap (slice_get (front ++ x ∷ back)) (sym e) ∙ get-after front (x ∷ back) 0 in
    ap (λ b. b || has_repeat same_word (front ++ x ∷ []) back) (none_passes (same_word x) front (λ j y is.
    let within = got_within front j y is in
    ⊎_elim
    (λ (same : same_word x y ≡ true).
    let there : slice_get (front ++ x ∷ back) j ≡ Some x = get-longer front (x ∷ back) j within ∙ is ∙ ap Some (sym (eqb-true x y same)) in
    let at : j ≡ length front = differ j (length front) x there here in
    absurd (omega (arith, at, within)))
    (λ (other : same_word x y ≡ false). other)
    (cases_Bool (same_word x y))))
    ∙ no_repeat (front ++ x ∷ []) back (subst (λ (zs : List ℕ). (j k y : ℕ) → slice_get zs j ≡ Some y → slice_get zs k ≡ Some y → j ≡ k) (sym moved) differ)

-- ---- parts

module _ (names : List NameInfo) where
  abbrev words : List InitPart → List ℕ
  words parts = flat_map (part_words names) parts

  right_parts : (given : List ℕ) (parts : List InitPart) → All (IsInitPart names) parts → has_repeat same_word given (words parts) ≡ false → has_wrong_part names given parts ≡ false
  right_parts given [] each once = refl
  right_parts given (part ∷ parts) each once =
      let own = part_words names part in
      let both = or_parts (has_repeat same_word given own) (has_repeat same_word (given ++ own) (words parts)) (sym (has_repeat-append same_word given own (words parts)) ∙ once) in
      let kinds : are_same_kinds (part_kinds names part) (map lit_kind (constants part)) ≡ true = ap (λ ks. are_same_kinds ks (map lit_kind (constants part))) (All-first (IsInitPart names) part parts each).kinds ∙ same_kinds (map lit_kind (constants part)) in
      or_from (is_wrong_part names given part) (has_wrong_part names (given ++ own) parts)
      (or_from (not (are_same_kinds (part_kinds names part) (map lit_kind (constants part)))) (has_repeat same_word given own) (ap not kinds) both.0)
      (right_parts (given ++ own) parts (All-rest (IsInitPart names) part parts each) both.1)

  -- the parts in between are right after the first ones
  right_between : (first middle last : List InitPart) → All (IsInitPart names) ((first ++ middle) ++ last) → has_repeat same_word [] (words ((first ++ middle) ++ last)) ≡ false → has_wrong_part names (words first) middle ≡ false
  right_between first middle last each once =
      grind (arith, flat_map-append (part_words names) (first ++ middle) last, flat_map-append (part_words names) first middle, append_assoc (words first) (words middle) (words last), has_repeat-append same_word, has_repeat-append same_word (words first) (words middle) (words last), right_parts (words first) middle (all_last (IsInitPart names) first middle (all_first (IsInitPart names) (first ++ middle) last each)), all_last (IsInitPart names) first middle (all_first (IsInitPart names) (first ++ middle) last each), all_first (IsInitPart names) (first ++ middle) last each)

-- ---- the whole program

module _ (q : Program) (flat : List FlatLine) (given : CanBeText q flat) where
  -- over the table of the program
  pub none_wrong_data : (placed : List NameInfo) → placed ≡ q.names → first_line (has_wrong_data placed) (statements_read q flat) ≡ None
  none_wrong_data placed same =
      let stmts = statements_read q flat in
      none_faulty (has_wrong_data placed) stmts (λ k s is.
      let first = all_inits (take k stmts) in
      let last = flat_map (λ (t : Labelled). inits_of t.stmt) (drop (suc k) stmts) in
      let split : q.inits ≡ (first ++ inits_of s.stmt) ++ last = sym (inits_same q flat given) ∙ split_at (λ (t : Labelled). inits_of t.stmt) stmts k s is in
      let once : has_repeat same_word [] (given_words q.names q.inits) ≡ false = no_repeat [] (given_words q.names q.inits) given.declarations.given_once in
      ap (λ names. has_wrong_data names (take k stmts) s) same
      ∙ right_between q.names first (inits_of s.stmt) last (subst (All (IsInitPart q.names)) split given.declarations.init) (subst (λ parts. has_repeat same_word [] (words q.names parts) ≡ false) split once))
