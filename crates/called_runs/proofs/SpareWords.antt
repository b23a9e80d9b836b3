-- A storage for a text: the words of the program that it comes to, and behind them a word for each number of an entity.
use Rattle.std.proofs.Common.{◌≡◌, ℕ, suc, ◌+◌, ◌-◌, ◌<◌, ◌≤◌, ◌==◌, ◌⊎◌, inl, inr, Bool, true, false, List, [], ◌∷◌, ◌++◌, length, replicate, find, Option, Some, None, if◌then◌else◌, ⊎_elim, refl, sym, ap, subst, ◌∙◌, arith, length-append, ℤ, pos, ◌+ℤ◌, ◌≤ℤ◌, Contains}
use Rattle.std.specs.Prelude.{nat_lt, zip}
use Rattle.std.specs.List.{list_any, slice_get}
use Rattle.std.proofs.lemmas.Bool.{cases_lt, eq-eqb, eqb-true, lt-ltb}
use Rattle.std.proofs.lemmas.Bool.Decides.{nat_tests}
use Rattle.std.proofs.lemmas.Int.{ints}
use Rattle.std.proofs.lemmas.List.{get_or-replicate, length-replicate}
use Rattle.std.proofs.lemmas.Option.{slice_get-get_or, slice_get_past}
use Rattle.list_laws.proofs.Members.{list_any_member}
use Rattle.list_laws.specs.Member.{Member}
use Rattle.f77_tree.specs.declared.declarations.Lit.{Lit}
use Rattle.f77_tree.specs.declared.programs.NameInfo.{NameInfo}
use Rattle.f77_tree.specs.declared.programs.Program.{Program}
use Rattle.f77_tree.specs.declared.statements.Labelled.{Labelled}
use Rattle.f77_tree.specs.Declarations.{index_of}
use Rattle.f77_tree.specs.InitialWords.{given, given_constants, given_words, lit_word, word_of_pair}
use Rattle.f77_tree.specs.Value.{dims_in, dims_of as dims_at, size_of}
use Rattle.f77_tree.specs.WellFormed.{IsWellFormed}
use Rattle.control_laws.proofs.LoopPlaces.{got_left, got_right}
use Rattle.layout_rules.specs.Declarations.{all_inits}
use Rattle.layout_rules.specs.Layout.{program}
use Rattle.program_units.specs.declared.entity.Entity.{Entity}
use Rattle.program_units.specs.Expansion.{whole_list}
use Rattle.program_units.specs.Layouts.{own_program}
use Rattle.program_units.specs.Names.{name_for}
use Rattle.program_units.specs.Storage.{Declares, Distance, IsOfRun, IsStorage, IsWordOf, Linked, itself, placed, size_in}
use Rattle.program_units.specs.Units.{runs, unit_at}
use Rattle.called_runs.specs.PairedWords.{IsPaired, IsPlacing, listed_spot}
use Rattle.called_runs.proofs.KnownEnds.{IsKnown}
use Rattle.called_runs.proofs.SpareNumbers.{HaveNumbers}
use Rattle.called_runs.proofs.ZippedWords.{found-none, found-there}

-- ---- what stands beside a word once

record IsBeside {A C : Type 0} (xs : List A) (cs : List C) (x : A) (c : C) : Type 0 where
  at : ℕ
  first : slice_get xs at ≡ Some x
  second : slice_get cs at ≡ Some c

beside-at : {A C : Type 0} (xs : List A) (cs : List C) (x : A) (c : C) → Member (zip xs cs) (x, c) → IsBeside xs cs x c
beside-at [] cs x c m = absurd m
beside-at (y ∷ xs) [] x c m = absurd m
beside-at (y ∷ xs) (d ∷ cs) x c (inl same) = record { at = 0; first = ap (λ p. Some (p.0)) same; second = ap (λ p. Some (p.1)) same }
beside-at (y ∷ xs) (d ∷ cs) x c (inr m) = let more = beside-at xs cs x c m in record { at = suc (IsBeside.at more); first = IsBeside.first more; second = IsBeside.second more }

-- ---- places

module _ (us : List (List Labelled)) (checked : Bool) (formed : IsWellFormed (program (whole_list us) checked)) (numbers : HaveNumbers us) where
  abbrev p : Program
  p = program (whole_list us) checked

  abbrev names : List NameInfo
  names = p.names

  abbrev index : Entity → ℕ
  index e = index_of names (name_for us e)

  abbrev pub spare_spot : Entity → ℕ
  spare_spot e = if nat_lt (index e) (length names) then listed_spot us names e else p.words + numbers.number e

  abbrev spare : ℕ
  spare = numbers.count

  abbrev pub all_words : ℕ
  all_words = p.words + spare

  abbrev pub spare_opening : List ℤ
  spare_opening = p.initial ++ replicate spare (pos 0)

  known-spot : (e : Entity) → IsKnown us names e → spare_spot e ≡ listed_spot us names e
  known-spot e known = ap (λ (b : Bool). if b then listed_spot us names e else p.words + numbers.number e) (lt-ltb (index e) (length names) known)

  other-spot : (e : Entity) → length names ≤ index e → spare_spot e ≡ p.words + numbers.number e
  other-spot e most = let test : nat_lt (index e) (length names) ≡ false = grind (arith, nat_tests, most) in ap (λ (b : Bool). if b then listed_spot us names e else p.words + numbers.number e) test

  pub pair-same : (v w : ℕ) → IsPaired us names spare_spot (listed_spot us names) v w → v ≡ w
  pair-same v w is = let first = is.first in let second = is.second in let same = known-spot is.entity is.shown.known in omega (arith, first, second, same)

  -- ---- words of the program begin as in the program

  module _ (w : ℕ) (less : w < p.words) where
    abbrev pairs : List (ℕ × Lit)
    pairs = given names (all_inits (whole_list us))

    abbrev test : ℕ × Lit → Bool
    test = λ q. q.0 == w

    begins : slice_get p.initial w ≡ Some (word_of_pair (find test pairs))
    begins = formed.initial w (let many = formed.initial_count in omega (arith, less, many))

    left : slice_get spare_opening w ≡ slice_get p.initial w
    left = got_left p.initial (replicate spare (pos 0)) w (let many = formed.initial_count in omega (arith, less, many))

    pub given-word : (c : Lit) → Member pairs (w, c) → slice_get spare_opening w ≡ Some (lit_word c)
    given-word c m = left ∙ begins ∙ by (find test pairs) refl
      where
        by : (o : Option (ℕ × Lit)) → find test pairs ≡ o → Some (word_of_pair (find test pairs)) ≡ Some (lit_word c)
        by None is =
            let some : list_any test pairs ≡ true = list_any_member test pairs (w, c) m (eq-eqb w w refl) in
            let both : true ≡ false = sym some ∙ found-none test pairs is in
            absurd cc
        by (Some q) is =
            let one = found-there test pairs q is in
            let word : q.0 ≡ w = eqb-true q.0 w one.passes in
            let ws = given_words names (all_inits (whole_list us)) in
            let cs = given_constants (all_inits (whole_list us)) in
            let a = beside-at ws cs q.0 q.1 one.among in
            let b = beside-at ws cs w c m in
            let places : IsBeside.at a ≡ IsBeside.at b = formed.declarations.given_once (IsBeside.at a) (IsBeside.at b) w (IsBeside.first a ∙ ap (λ (v : ℕ). Some v) word) (IsBeside.first b) in
            let constants : Some q.1 ≡ Some c = sym (IsBeside.second a) ∙ ap (slice_get cs) places ∙ IsBeside.second b in
            let same : q.1 ≡ c = cc in
            ap (λ (o : Option (ℕ × Lit)). Some (word_of_pair o)) is ∙ ap (λ (d : Lit). Some (lit_word d)) same

    pub zero-word : ((c : Lit) → Member pairs (w, c) → ⊥) → slice_get spare_opening w ≡ Some (pos 0)
    zero-word none = left ∙ begins ∙ by (find test pairs) refl
      where
        by : (o : Option (ℕ × Lit)) → find test pairs ≡ o → Some (word_of_pair (find test pairs)) ≡ Some (pos 0)
        by None is = ap (λ (o : Option (ℕ × Lit)). Some (word_of_pair o)) is
        by (Some q) is =
            let one = found-there test pairs q is in
            let word : q.0 ≡ w = eqb-true q.0 w one.passes in
            absurd (none q.1 (subst (λ (v : ℕ). Member pairs (v, q.1)) word one.among))

  spare-word : (w : ℕ) → p.words ≤ w → w < all_words → slice_get spare_opening w ≡ Some (pos 0)
  spare-word w most less =
      let many = formed.initial_count in
      let k = w - p.words in
      let inside : k < spare = omega (arith, most, less) in
      let long : length (replicate spare (pos 0)) ≡ spare = length-replicate spare (pos 0) in
      got_right p.initial (replicate spare (pos 0)) w k (omega (arith, most, many))
      ∙ slice_get-get_or (replicate spare (pos 0)) k (pos 0) (omega (arith, inside, long))
      ∙ ap (λ (z : ℤ). Some z) (get_or-replicate spare k (pos 0) (pos 0) inside)

  -- ---- the storage

  module _ (size : (e : Entity) → IsOfRun us e → size_of (dims_at names (index e)) ≡ size_in us e)
      (placing : IsPlacing us names (listed_spot us names))
      (ends : (d : Distance) → Declares us d → IsKnown us names d.from × IsKnown us names d.to)
      (apart : (e f : Entity) → IsOfRun us e → IsOfRun us f → name_for us e ≡ name_for us f → e ≡ f) where
    distance : (d : Distance) → Declares us d → pos (spare_spot d.to) ≡ (pos (spare_spot d.from) +ℤ d.by)
    distance d declares =
        let known = ends d declares in
        let from = known-spot d.from known.0 in
        let to = known-spot d.to known.1 in
        let far = placing.distances d declares in
        omega (arith, ints, from, to, far)

    known-within : (e : Entity) → IsOfRun us e → IsKnown us names e → (pos (spare_spot e) +ℤ size_in us e) ≤ℤ pos p.words
    known-within e run known =
        let within = formed.places.within (index e) known in
        let same = known-spot e known in
        let many = size e run in
        omega (arith, ints, within, same, many)

    one-word : (e : Entity) → IsOfRun us e → length names ≤ index e → size_in us e ≡ pos 1
    one-word e run most = sym (size e run) ∙ ap (λ (o : Option NameInfo). size_of (dims_in o)) (slice_get_past names (index e) most)

    within : (e : Entity) → IsOfRun us e → (pos (spare_spot e) +ℤ size_in us e) ≤ℤ pos all_words
    within e run = ⊎_elim
        (λ (known : IsKnown us names e). let here = known-within e run known in omega (arith, ints, here))
        (λ (most : length names ≤ index e). let same = other-spot e most in let many = one-word e run most in let less = numbers.within e run in omega (arith, ints, same, many, less))
        (cases_lt (index e) (length names))

    word-below : (e : Entity) (word : ℕ) → IsOfRun us e → IsKnown us names e → IsWordOf us spare_spot e word → word < p.words
    word-below e word run known is = let inside = known-within e run known in let last = is.ends in omega (arith, ints, inside, last)

    word-behind : (e : Entity) (word : ℕ) → IsOfRun us e → length names ≤ index e → IsWordOf us spare_spot e word → word ≡ p.words + numbers.number e
    word-behind e word run most is = let same = other-spot e most in let many = one-word e run most in let first = is.begins in let last = is.ends in omega (arith, ints, same, many, first, last)

    listed-word : (e : Entity) (word : ℕ) → IsKnown us names e → IsWordOf us spare_spot e word → IsWordOf us (listed_spot us names) e word
    listed-word e word known is =
        let same = known-spot e known in
        record { begins = let first = is.begins in omega (arith, same, first); ends = let last = is.ends in omega (arith, ints, same, last) }

    linked : (e f : Entity) (word : ℕ) → IsOfRun us e → IsOfRun us f → IsWordOf us spare_spot e word → IsWordOf us spare_spot f word → Linked us e f
    linked e f word one two at_e at_f = by (cases_lt (index e) (length names)) (cases_lt (index f) (length names))
      where
        by : (index e < length names) ⊎ (length names ≤ index e) → (index f < length names) ⊎ (length names ≤ index f) → Linked us e f
        by (inl a) (inl b) = placing.apart e f word (record { of_run = one; known = a }) (record { of_run = two; known = b }) (listed-word e word a at_e) (listed-word f word b at_f)
        by (inl a) (inr b) = let low = word-below e word one a at_e in let high = word-behind f word two b at_f in absurd (omega (arith, low, high))
        by (inr a) (inl b) = let high = word-behind e word one a at_e in let low = word-below f word two b at_f in absurd (omega (arith, low, high))
        by (inr a) (inr b) =
            let mine = word-behind e word one a at_e in
            let other = word-behind f word two b at_f in
            let same : e ≡ f = apart e f one two (numbers.apart e f one two (omega (arith, mine, other))) in
            subst (λ (g : Entity). Linked us e g) same itself

    abbrev Given : ℕ → ℕ × Lit → Type 0
    Given k q = Contains (given (placed us spare_spot k [] (own_program (unit_at us k) checked).names) (all_inits (unit_at us k))) q

    pub storage : ((k : ℕ) (q : ℕ × Lit) → runs us k ≡ true → Given k q → (w : ℕ) × IsPaired us names spare_spot (listed_spot us names) q.0 w × Member (given names (all_inits (whole_list us))) (w, q.1))
        → ((v w : ℕ) → IsPaired us names spare_spot (listed_spot us names) v w → w < p.words)
        → ((w : ℕ) (c : Lit) → Member (given names (all_inits (whole_list us))) (w, c) → ((k : ℕ) (q : ℕ × Lit) → runs us k ≡ true → Given k q → q.0 ≡ w → ⊥) → ⊥)
        → IsStorage us checked spare_spot all_words spare_opening
    storage to-list room-there from-list = record {
      distances = distance;
      within = within;
      apart = linked;
      few = let most = formed.word_count in let few = numbers.few in omega (arith, few, most);
      as_many = let one = length-append p.initial (replicate spare (pos 0)) in let many = formed.initial_count in let more = length-replicate spare (pos 0) in omega (arith, one, many, more);
      given_words = λ k q run among.
          let there = to-list k q run among in
          let same = pair-same q.0 there.0 there.1 in
          ap (slice_get spare_opening) same ∙ given-word there.0 (room-there q.0 there.0 there.1) q.1 there.2;
      others = λ w less none. ⊎_elim
          (λ (below : w < p.words). zero-word w below (λ c m. from-list w c m none))
          (λ (most : p.words ≤ w). spare-word w most less)
          (cases_lt w p.words);
    }
