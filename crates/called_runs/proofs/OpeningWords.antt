-- The words of a storage begin as the paired words of the program do.
use Rattle.std.proofs.Common.{◌≡◌, ℕ, ◌<◌, ◌==◌, Bool, true, false, List, [], ◌∷◌, length, flat_map, find, Option, Some, None, refl, sym, ap, subst, ◌∙◌, arith, length-append, ℤ}
use Rattle.std.specs.Prelude.{zip}
use Rattle.std.specs.List.{list_any, slice_get}
use Rattle.std.proofs.lemmas.Bool.{eq-eqb, eqb-true}
use Rattle.std.proofs.lemmas.Int.{ints}
use Rattle.std.proofs.lemmas.List.{length-map}
use Rattle.std.proofs.lemmas.List.Elements.{All-contains}
use Rattle.list_laws.proofs.Members.{Contains-from_Member, Member-flat_map, Member-flat_mapped, Member-from_Contains, list_any_member}
use Rattle.list_laws.specs.Member.{Member}
use Rattle.f77_tree.specs.declared.declarations.InitPart.{InitPart}
use Rattle.f77_tree.specs.declared.declarations.Lit.{Lit}
use Rattle.f77_tree.specs.declared.declarations.Member.{Member as Named}
use Rattle.f77_tree.specs.declared.programs.NameInfo.{NameInfo}
use Rattle.f77_tree.specs.declared.statements.Labelled.{Labelled}
use Rattle.f77_tree.specs.Declarations.{index_of}
use Rattle.f77_tree.specs.InitialWords.{IsInitPart, constants, given, item_kinds, item_words, lit_kind, part_words, word_of_pair}
use Rattle.f77_tree.specs.Value.{dims_of as dims_at, size_of}
use Rattle.f77_tree.specs.WellFormed.{IsWellFormed}
use Rattle.layout_rules.specs.Declarations.{all_inits, inits_of}
use Rattle.layout_rules.specs.Layout.{program}
use Rattle.copied_values.specs.SideBySide.{IsPairing}
use Rattle.program_units.specs.declared.entity.Entity.{Entity}
use Rattle.program_units.specs.Expansion.{init_for, whole_list}
use Rattle.program_units.specs.Layouts.{own_program}
use Rattle.program_units.specs.Names.{name_for}
use Rattle.program_units.specs.Storage.{IsOfRun, IsStorage, placed, size_in}
use Rattle.program_units.specs.Units.{runs, unit_at}
use Rattle.called_runs.specs.PairedWords.{IsPaired, listed_spot}
use Rattle.called_runs.proofs.ListedParts.{IsPartOf}
use Rattle.called_runs.proofs.ZippedWords.{AreZipped, back, found-none, found-there, there, zip-flat, zipped-length}

-- as many kinds as words
kinds-length : (names : List NameInfo) (items : List Named) → length (flat_map (item_kinds names) items) ≡ length (flat_map (item_words names) items)
kinds-length names [] = refl
kinds-length names (m ∷ items) =
    let one = length-append (item_kinds names m) (flat_map (item_kinds names) items) in
    let two = length-append (item_words names m) (flat_map (item_words names) items) in
    let first : length (item_kinds names m) ≡ length (item_words names m) = length-map (item_words names m) _ in
    let more = kinds-length names items in
    omega (arith, one, two, first, more)

module _ (us : List (List Labelled)) (checked : Bool) (spot : Entity → ℕ) (formed : IsWellFormed (program (whole_list us) checked)) where
  abbrev list : List Labelled
  list = whole_list us

  abbrev names : List NameInfo
  names = (program list checked).names

  abbrev pub Pairs : ℕ → ℕ → Type 0
  Pairs = IsPaired us names spot (listed_spot us names)

  abbrev pub frame : ℕ → List NameInfo
  frame k = placed us spot k [] (own_program (unit_at us k) checked).names

  abbrev beside : List NameInfo → InitPart → List (ℕ × Lit)
  beside table part = zip (part_words table part) (constants part)

  -- a unit that gives a constant
  pub record IsGivenBy (w : ℕ) (c : Lit) : Type 0 where
    pub unit : ℕ
    pub runs_it : runs us unit ≡ true
    pub word : ℕ
    pub paired : Pairs word w
    pub among : Member (given (frame unit) (all_inits (unit_at us unit))) (word, c)

  -- ---- room

  module _ (size : (e : Entity) → IsOfRun us e → size_of (dims_at names (index_of names (name_for us e))) ≡ size_in us e) where
    pub room-there : (v w : ℕ) → Pairs v w → w < (program list checked).words
    room-there v w is =
        let within = formed.places.within (index_of names (name_for us is.entity)) is.shown.known in
        let second = is.second in
        let inside = is.inside in
        let same = size is.entity is.shown.of_run in
        omega (arith, ints, within, second, inside, same)

    -- ---- constants

    module _ (zipped : (k : ℕ) (part : InitPart) → runs us k ≡ true → Member (all_inits (unit_at us k)) part → AreZipped Pairs (part_words (frame k) part) (part_words names (init_for us k part)))
        (listed : (k : ℕ) (part : InitPart) → runs us k ≡ true → Member (all_inits (unit_at us k)) part → Member (all_inits list) (init_for us k part))
        (of-unit : (part : InitPart) → Member (all_inits list) part → IsPartOf us inits_of (init_for us) part) where
      lengths : (part : InitPart) → Member (all_inits list) part → length (part_words names part) ≡ length (constants part)
      lengths part m =
          let is = All-contains (IsInitPart names) (all_inits list) part formed.declarations.init (Contains-from_Member (all_inits list) part m) in
          sym (kinds-length names part.items) ∙ ap length is.kinds ∙ length-map (constants part) lit_kind

      pairs-listed : given names (all_inits list) ≡ flat_map (beside names) (all_inits list)
      pairs-listed = zip-flat (part_words names) constants (all_inits list) lengths

      pairs-unit : (k : ℕ) → runs us k ≡ true → given (frame k) (all_inits (unit_at us k)) ≡ flat_map (beside (frame k)) (all_inits (unit_at us k))
      pairs-unit k run = zip-flat (part_words (frame k)) constants (all_inits (unit_at us k)) (λ part m. zipped-length Pairs (part_words (frame k) part) (part_words names (init_for us k part)) (zipped k part run m) ∙ lengths (init_for us k part) (listed k part run m))

      pub to-list : (k v : ℕ) (c : Lit) → runs us k ≡ true → Member (given (frame k) (all_inits (unit_at us k))) (v, c) → (w : ℕ) × Pairs v w × Member (given names (all_inits list)) (w, c)
      to-list k v c run m =
          let one = Member-flat_mapped (beside (frame k)) (all_inits (unit_at us k)) (v, c) (subst (λ (ps : List (ℕ × Lit)). Member ps (v, c)) (pairs-unit k run) m) in
          let part = one.origin in
          let other = there Pairs (part_words (frame k) part) (part_words names (init_for us k part)) (constants part) (zipped k part run one.among) v c one.has in
          let among = Member-flat_map (beside names) (all_inits list) (init_for us k part) (other.word, c) (listed k part run one.among) other.among in
          (other.word, other.paired, subst (λ (ps : List (ℕ × Lit)). Member ps (other.word, c)) (sym pairs-listed) among)

      pub from-list : (w : ℕ) (c : Lit) → Member (given names (all_inits list)) (w, c) → IsGivenBy w c
      from-list w c m =
          let one = Member-flat_mapped (beside names) (all_inits list) (w, c) (subst (λ (ps : List (ℕ × Lit)). Member ps (w, c)) pairs-listed m) in
          let of = of-unit one.origin one.among in
          let k = of.unit in
          let part = of.part in
          let has : Member (beside names (init_for us k part)) (w, c) = subst (λ (q : InitPart). Member (beside names q) (w, c)) (sym of.is) one.has in
          let other = back Pairs (part_words (frame k) part) (part_words names (init_for us k part)) (constants part) (zipped k part of.runs_it of.among) w c has in
          let among = Member-flat_map (beside (frame k)) (all_inits (unit_at us k)) part (other.word, c) of.among other.among in
          record { unit = k; runs_it = of.runs_it; word = other.word; paired = other.paired; among = subst (λ (ps : List (ℕ × Lit)). Member ps (other.word, c)) (sym (pairs-unit k of.runs_it)) among }

      module _ (words : ℕ) (opening : List ℤ) (storage : IsStorage us checked spot words opening) where
        pub room-here : (v w : ℕ) → Pairs v w → v < words
        room-here v w is =
            let within = storage.within is.entity is.shown.of_run in
            let first = is.first in
            let inside = is.inside in
            omega (arith, ints, within, first, inside)

        module _ (pairing : IsPairing Pairs) where
          pub start : (v w : ℕ) → Pairs v w → slice_get opening v ≡ slice_get (program list checked).initial w
          start v w pair = by (find test all) refl
            where
              all : List (ℕ × Lit)
              all = given names (all_inits list)

              test : ℕ × Lit → Bool
              test p = p.0 == w

              below : w < length (program list checked).initial
              below = let less = room-there v w pair in let many = formed.initial_count in omega (arith, less, many)

              at : slice_get (program list checked).initial w ≡ Some (word_of_pair (find test all))
              at = formed.initial w below

              by : (o : Option (ℕ × Lit)) → find test all ≡ o → slice_get opening v ≡ slice_get (program list checked).initial w
              by (Some p) is =
                  let found = found-there test all p is in
                  let word : p.0 ≡ w = eqb-true p.0 w found.passes in
                  let of = from-list p.0 p.1 found.among in
                  let same : v ≡ IsGivenBy.word of = pairing.back v w (IsGivenBy.word of) p.0 pair (IsGivenBy.paired of) (sym word) in
                  ap (slice_get opening) same
                  ∙ storage.given_words (IsGivenBy.unit of) (IsGivenBy.word of, p.1) (IsGivenBy.runs_it of) (Contains-from_Member (given (frame (IsGivenBy.unit of)) (all_inits (unit_at us (IsGivenBy.unit of)))) (IsGivenBy.word of, p.1) (IsGivenBy.among of))
                  ∙ sym (at ∙ ap (λ (o : Option (ℕ × Lit)). Some (word_of_pair o)) is)
              by None is =
                  storage.others v (room-here v w pair)
                  (λ k p run among same.
                  let other = to-list k p.0 p.1 run (Member-from_Contains (given (frame k) (all_inits (unit_at us k))) p among) in
                  let word : other.0 ≡ w = pairing.there p.0 other.0 v w other.1 pair same in
                  let some : list_any test all ≡ true = list_any_member test all (other.0, p.1) other.2 (eq-eqb other.0 w word) in
                  let both : true ≡ false = sym some ∙ found-none test all is in
                  absurd cc)
                  ∙ sym (at ∙ ap (λ (o : Option (ℕ × Lit)). Some (word_of_pair o)) is)
