-- The words that DATA gives constants to, by a frame's table and by that of the program, are paired.
use Rattle.std.proofs.Common.{◌≡◌, ℕ, ◌+◌, ◌<◌, ◌⊎◌, inl, inr, List, [], ◌∷◌, length, flat_map, All, refl, sym, ap, subst, ◌∙◌, arith, ℤ, pos, nat_abs}
use Rattle.std.proofs.lemmas.Int.{ints}
use Rattle.list_laws.specs.Member.{Member}
use Rattle.f77_tree.proofs.Equations.{offset-below}
use Rattle.f77_tree.proofs.Places.{count-is, count_of}
use Rattle.f77_tree.specs.declared.declarations.Dim.{Dim}
use Rattle.f77_tree.specs.declared.declarations.InitPart.{InitPart}
use Rattle.f77_tree.specs.declared.declarations.Member.{Member as Named}
use Rattle.f77_tree.specs.declared.programs.NameInfo.{NameInfo}
use Rattle.f77_tree.specs.declared.statements.Labelled.{Labelled}
use Rattle.f77_tree.specs.Declarations.{AreWithin, IsDim, IsMember, index_of, offset_of}
use Rattle.f77_tree.specs.InitialWords.{item_words, part_words, words_at, words_from}
use Rattle.f77_tree.specs.Value.{dims_of as dims_at, place_of, size_of}
use Rattle.layout_rules.specs.Declarations.{dims_of}
use Rattle.layout_rules.specs.Types.{dims_named}
use Rattle.program_units.specs.declared.entity.Entity.{Entity}
use Rattle.program_units.specs.Entities.{entity_of}
use Rattle.program_units.specs.Expansion.{declared_in, init_for, member_for, members_for, whole_list}
use Rattle.program_units.specs.Names.{name_for}
use Rattle.program_units.specs.Storage.{IsOfRun, placed, size_in}
use Rattle.program_units.specs.Units.{unit_at}
use Rattle.called_runs.specs.PairedWords.{IsPaired, listed_spot}
use Rattle.called_runs.proofs.PairedPlacings.{frame-place, frame-size}
use Rattle.called_runs.proofs.ZippedWords.{AreZipped, zipped-append, zipped-from}

module _ (us : List (List Labelled)) (names own : List NameInfo) (spot : Entity → ℕ) (k : ℕ)
    (table : (x : List ℕ) → dims_named names x ≡ dims_of (whole_list us) x)
    (kept : (e : Entity) → IsOfRun us e → dims_of (whole_list us) (name_for us e) ≡ dims_of (declared_in us e).0 (declared_in us e).1)
    (own_dims : (x : List ℕ) → dims_named own x ≡ dims_of (unit_at us k) x)
    (declared : (x : List ℕ) → dims_of (unit_at us k) x ≡ dims_of (declared_in us (entity_of us k x)).0 (declared_in us (entity_of us k x)).1)
    (bounds : (i : ℕ) → i < length names → All IsDim (dims_at names i)) where
  abbrev frame : List NameInfo
  frame = placed us spot k [] own

  abbrev pub Pairs : ℕ → ℕ → Type 0
  Pairs = IsPaired us names spot (listed_spot us names)

  module _ (m : Named) (run : IsOfRun us (entity_of us k m.name)) (known : index_of own m.name < length own) (listed : index_of names (name_for us (entity_of us k m.name)) < length names) where
    abbrev e : Entity
    e = entity_of us k m.name

    abbrev a : ℕ
    a = index_of frame m.name

    abbrev b : ℕ
    b = index_of names (name_for us e)

    abbrev dims : List Dim
    dims = dims_at names b

    place-is : place_of frame a ≡ spot e
    place-is = frame-place us spot k [] m.name own known

    dims-is : dims_at frame a ≡ dims
    dims-is = frame-size us spot k [] m.name own ∙ own_dims m.name ∙ declared m.name ∙ sym (kept e run) ∙ sym (table (name_for us e))

    size-is : size_of dims ≡ size_in us e
    size-is = ap size_of (table (name_for us e) ∙ kept e run)

    count : size_of dims ≡ pos (count_of dims)
    count = count-is dims (λ j d less. (bounds b listed j d less).order)

    word-paired : (i : ℕ) → i < count_of dims → Pairs (place_of frame a + i) (place_of names b + i)
    word-paired i less = record {
      entity = e;
      shown = record { of_run = run; known = listed };
      offset = i;
      inside = let size = sym size-is ∙ count in omega (arith, ints, less, size);
      first = ap (λ (n : ℕ). n + i) place-is;
      second = refl;
    }

    zipped-by : (subs : List ℤ) → (subs ≡ []) ⊎ AreWithin dims subs → AreZipped Pairs (words_at frame a subs) (words_at names b subs)
    zipped-by [] how =
        let n = nat_abs (size_of dims) in
        let many : n ≡ count_of dims = ap nat_abs count in
        let both : AreZipped Pairs (words_from (place_of frame a) n) (words_from (place_of names b) n) = zipped-from Pairs (place_of frame a) (place_of names b) n (λ i less. word-paired i (omega (arith, less, many))) in
        subst (λ (ds : List Dim). AreZipped Pairs (words_from (place_of frame a) (nat_abs (size_of ds))) (words_from (place_of names b) n)) (sym dims-is) both
    zipped-by (sub ∷ subs) (inl none) = absurd cc
    zipped-by (sub ∷ subs) (inr within) =
        let below = offset-below dims (sub ∷ subs) (bounds b listed) within in
        let far = nat_abs (offset_of dims (sub ∷ subs)) in
        let is : far ≡ below.0 = ap nat_abs below.1 in
        let less = below.2 in
        let both : Pairs (place_of frame a + far) (place_of names b + far) = word-paired far (omega (arith, is, less)) in
        (subst (λ (ds : List Dim). Pairs (place_of frame a + nat_abs (offset_of ds (sub ∷ subs))) (place_of names b + far)) (sym dims-is) both, tt)

    pub item-zipped : IsMember names (member_for us k m) → AreZipped Pairs (item_words frame m) (item_words names (member_for us k m))
    item-zipped is = zipped-by m.subs is.element

  items-zipped : (items : List Named) → ((m : Named) → Member items m → IsOfRun us (entity_of us k m.name) × ((index_of own m.name < length own) × IsMember names (member_for us k m)))
      → AreZipped Pairs (flat_map (item_words frame) items) (flat_map (item_words names) (members_for us k items))
  items-zipped [] each = tt
  items-zipped (m ∷ items) each =
      let first = each m (inl refl) in
      zipped-append Pairs (item_words frame m) (item_words names (member_for us k m)) (flat_map (item_words frame) items) (flat_map (item_words names) (members_for us k items))
      (item-zipped m first.0 first.1.0 first.1.1.known first.1.1) (items-zipped items (λ n later. each n (inr later)))

  pub part-zipped : (part : InitPart) → ((m : Named) → Member part.items m → IsOfRun us (entity_of us k m.name) × ((index_of own m.name < length own) × IsMember names (member_for us k m)))
      → AreZipped Pairs (part_words frame part) (part_words names (init_for us k part))
  part-zipped part each = items-zipped part.items each
