-- What a text declares and gives, for the words with which its runs begin.
use Rattle.std.proofs.Common.{◌≡◌, ℕ, ◌<◌, Bool, true, arith, List, [], length, map, flat_map, take, drop, ◌++◌, None, Some, sym, ap, subst, ◌∙◌, ℤ, Contains}
use Rattle.std.specs.Prelude.{Ok}
use Rattle.std.specs.List.{slice_get}
use Rattle.std.proofs.lemmas.List.Elements.{All-contains}
use Rattle.list_laws.proofs.Members.{Contains-from_Member, Member-flat_mapped, Member-from_Contains, Member-map}
use Rattle.list_laws.specs.Member.{Member}
use Rattle.f77_tree.proofs.WellFormedLaws.{table-bounds}
use Rattle.f77_tree.specs.declared.declarations.InitPart.{InitPart}
use Rattle.f77_tree.specs.declared.declarations.Lit.{Lit}
use Rattle.f77_tree.specs.declared.declarations.Member.{Member as Named}
use Rattle.f77_tree.specs.declared.programs.Program.{Program}
use Rattle.f77_tree.specs.declared.statements.Labelled.{Labelled}
use Rattle.f77_tree.specs.Declarations.{IsMember, index_of}
use Rattle.f77_tree.specs.InitialWords.{IsInitPart, given, part_words}
use Rattle.f77_tree.specs.OtherPlaces.{DifferInPlaces}
use Rattle.f77_tree.specs.Value.{dims_of as dims_at, size_of}
use Rattle.f77_tree.specs.WellFormed.{IsWellFormed}
use Rattle.layout_rules.proofs.NameTable.{dims_in_table}
use Rattle.layout_rules.specs.Declarations.{all_inits, dims_of, inits_of}
use Rattle.layout_rules.specs.Layout.{layout, names_of, program}
use Rattle.layout_rules.specs.Source.{IsSource}
use Rattle.layout_rules.specs.Types.{dims_named}
use Rattle.copied_values.proofs.SameTrees.{same-dims}
use Rattle.copied_values.specs.SideBySide.{IsPairing}
use Rattle.program_units.specs.declared.entity.Entity.{Entity}
use Rattle.program_units.specs.Entities.{entity_of}
use Rattle.program_units.specs.Expansion.{declared_first, declared_in, init_for, member_for, merged, units_but_main, whole_list}
use Rattle.program_units.specs.Layouts.{own_program}
use Rattle.program_units.specs.Names.{name_for}
use Rattle.program_units.specs.Refusals.{unit_refusal}
use Rattle.program_units.specs.Storage.{Declares, Distance, IsOfRun, IsStorage, placed, size_in}
use Rattle.program_units.specs.Texts.{IsText}
use Rattle.program_units.specs.Units.{runs, standing_in, unit_at, units}
use Rattle.called_runs.specs.DeclaredNames.{AreDeclaredAlike}
use Rattle.called_runs.specs.PairedWords.{IsPaired, IsPlacing, listed_spot}
use Rattle.called_runs.specs.SpareWords.{HasStorage}
use Rattle.called_runs.proofs.BlocksOfTexts.{unit-laid}
use Rattle.called_runs.proofs.DeclaredAlike.{blocks-even, dummies-right, own-declared}
use Rattle.called_runs.proofs.GivenPairs.{part-zipped}
use Rattle.called_runs.proofs.KnownEnds.{IsKnown}
use Rattle.called_runs.proofs.ListedParts.{IsPartOf, init-same, part-back, part-there}
use Rattle.called_runs.proofs.OpeningWords.{from-list, room-here, room-there, start, to-list}
use Rattle.called_runs.proofs.SpareNumbers.{HaveNumbers}
use Rattle.called_runs.proofs.SpareWords.{all_words, pair-same, spare_opening, spare_spot, storage}
use Rattle.called_runs.proofs.StandingDeclared.{inits-same}
use Rattle.called_runs.proofs.StoredNames.{init-stored, stored-run, there-at}
use Rattle.called_runs.proofs.UnitKinds.{unit-there}
use Rattle.called_runs.proofs.ZippedWords.{AreZipped}

module _ (stmts : List Labelled) (checked : Bool) (text : IsText stmts) (accepted : unit_refusal stmts checked ≡ None) where
  abbrev us : List (List Labelled)
  us = units stmts

  abbrev list : List Labelled
  list = whole_list us

  abbrev p : Program
  p = program list checked

  abbrev own : ℕ → Program
  own k = own_program (unit_at us k) checked

  module _ (well_formed : (ss : List Labelled) (ch : Bool) (q : Program) → IsSource ss → layout ss ch ≡ Ok q → IsWellFormed q)
      (sources : (ts : List Labelled) → IsText ts → (k : ℕ) (u : List Labelled) → slice_get (units ts) k ≡ Some u → IsSource (standing_in u))
      (formed : IsWellFormed p)
      (differ : (ss : List Labelled) (ch : Bool) → DifferInPlaces (names_of ss) (program ss ch).names)
      (stands : (u : List Labelled) (x : List ℕ) → AreDeclaredAlike (standing_in u) u x x)
      (kept : (e : Entity) → IsOfRun us e → dims_of list (name_for us e) ≡ dims_of (declared_in us e).0 (declared_in us e).1)
      (same : (x : List ℕ) → name_for us (entity_of us 0 x) ≡ x)
      (inits : all_inits list ≡ all_inits (take (declared_first (unit_at us 0)) (unit_at us 0)) ++ (all_inits (merged us) ++ all_inits (drop (declared_first (unit_at us 0)) (unit_at us 0))))
      (added : all_inits (merged us) ≡ flat_map (λ k. map (init_for us k) (all_inits (unit_at us k))) (units_but_main us)) where
    pub table : (x : List ℕ) → dims_named p.names x ≡ dims_of list x
    table x = same-dims (names_of list) p.names (differ list checked) x ∙ dims_in_table list x

    pub size : (e : Entity) → IsOfRun us e → size_of (dims_at p.names (index_of p.names (name_for us e))) ≡ size_in us e
    size e run = ap size_of (table (name_for us e) ∙ kept e run)

    own_dims : (k : ℕ) (x : List ℕ) → dims_named (own k).names x ≡ dims_of (unit_at us k) x
    own_dims k x =
        let u = standing_in (unit_at us k) in
        same-dims (names_of u) (own k).names (differ u checked) x ∙ dims_in_table u x ∙ (stands (unit_at us k) x).dims

    unit-formed : (k : ℕ) (part : InitPart) → Member (all_inits (unit_at us k)) part → IsWellFormed (own k)
    unit-formed k part m =
        let u = unit_at us k in
        let s = Member-flat_mapped (λ (t : Labelled). inits_of t.stmt) u part m in
        let at = there-at u s.origin s.among in
        let here = unit-there us k at.0 s.origin at.1 in
        well_formed (standing_in u) checked (own k) (sources stmts text k u here) (unit-laid stmts checked accepted k u here)

    pub listed : (k : ℕ) (part : InitPart) → runs us k ≡ true → Member (all_inits (unit_at us k)) part → Member (all_inits list) (init_for us k part)
    listed = part-there us inits_of (init_for us) (init-same us same) inits added

    each : (k : ℕ) (part : InitPart) → runs us k ≡ true → Member (all_inits (unit_at us k)) part → (m : Named) → Member part.items m → IsOfRun us (entity_of us k m.name) × ((index_of (own k).names m.name < length (own k).names) × IsMember p.names (member_for us k m))
    each k part run among m has =
        let u = unit_at us k in
        let stored = init-stored u part m.name among (Member-map (λ (n : Named). n.name) part.items m has) in
        let of_unit = All-contains (IsInitPart (own k).names) (all_inits (standing_in u)) part (unit-formed k part among).declarations.init (Contains-from_Member (all_inits (standing_in u)) part (subst (λ (ps : List InitPart). Member ps part) (sym (inits-same u)) among)) in
        let of_list = All-contains (IsInitPart p.names) (all_inits list) (init_for us k part) formed.declarations.init (Contains-from_Member (all_inits list) (init_for us k part) (listed k part run among)) in (
          stored-run us k m.name (dummies-right stmts checked accepted k) run stored,
          (
            (All-contains (IsMember (own k).names) part.items m of_unit.members (Contains-from_Member part.items m has)).known,
            All-contains (IsMember p.names) (map (member_for us k) part.items) (member_for us k m) of_list.members (Contains-from_Member (map (member_for us k) part.items) (member_for us k m) (Member-map (member_for us k) part.items m has)),
          ),
        )

    pub of-list : (part : InitPart) → Member (all_inits list) part → IsPartOf us inits_of (init_for us) part
    of-list = part-back us inits_of (init_for us) (init-same us same) inits added

    -- ---- with any places

    module _ (spot : Entity → ℕ) where
      pub zipped : (k : ℕ) (part : InitPart) → runs us k ≡ true → Member (all_inits (unit_at us k)) part → AreZipped (IsPaired us p.names spot (listed_spot us p.names)) (part_words (placed us spot k [] (own k).names) part) (part_words p.names (init_for us k part))
      zipped k part run among =
          part-zipped us p.names (own k).names spot k table kept (own_dims k) (λ x. (own-declared us k x (blocks-even stmts checked accepted k)).dims) (table-bounds p.names formed.declarations.table) part (each k part run among)

      module _ (words : ℕ) (opening : List ℤ) (storage : IsStorage us checked spot words opening) where
        pub words-alike : IsPairing (IsPaired us p.names spot (listed_spot us p.names)) → (v w : ℕ) → IsPaired us p.names spot (listed_spot us p.names) v w → slice_get opening v ≡ slice_get p.initial w
        words-alike pairing = start us checked spot formed size zipped listed of-list words opening storage pairing

        pub room : (v w : ℕ) → IsPaired us p.names spot (listed_spot us p.names) v w → (v < length opening) × (w < length p.initial)
        room v w is =
            let here = room-here us checked spot formed size zipped listed of-list words opening storage v w is in
            let there = room-there us checked spot formed size v w is in
            let many = storage.as_many in
            let count = formed.initial_count in
            (omega (arith, here, many), omega (arith, there, count))

    -- ---- with the words of the program, and spare ones

    module _ (placing : IsPlacing us p.names (listed_spot us p.names)) (ends : (d : Distance) → Declares us d → IsKnown us p.names d.from × IsKnown us p.names d.to) (apart : (e f : Entity) → IsOfRun us e → IsOfRun us f → name_for us e ≡ name_for us f → e ≡ f) (numbers : HaveNumbers us) where
      abbrev at : Entity → ℕ
      at = spare_spot us checked formed numbers

      abbrev inits-of : ℕ → List (ℕ × Lit)
      inits-of k = given (placed us at k [] (own k).names) (all_inits (unit_at us k))

      nowhere : (w : ℕ) (c : Lit) → Member (given p.names (all_inits list)) (w, c) → ((k : ℕ) (q : ℕ × Lit) → runs us k ≡ true → Contains (inits-of k) q → q.0 ≡ w → ⊥) → ⊥
      nowhere w c m none =
          let of = from-list us checked at formed size (zipped at) listed of-list w c m in
          none of.unit (of.word, c) of.runs_it (Contains-from_Member (inits-of of.unit) (of.word, c) of.among) (pair-same us checked formed numbers of.word w of.paired)

      pub has-storage : HasStorage us checked
      has-storage = record {
        spot = at;
        words = all_words us checked formed numbers;
        opening = spare_opening us checked formed numbers;
        storage = storage us checked formed numbers size placing ends apart
            (λ k q run among. to-list us checked at formed size (zipped at) listed of-list k q.0 q.1 run (Member-from_Contains (inits-of k) q among))
            (room-there us checked at formed size)
            nowhere;
      }
