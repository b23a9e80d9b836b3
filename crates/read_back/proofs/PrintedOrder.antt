-- No statement of a printed program is out of order: the declarations of names, COMMON and EQUIVALENCE come first, then DATA and the
-- flat statements, and END is the last one.
use Rattle.std.proofs.Common.{◌≡◌, ◌==◌, ℕ, suc, ◌+◌, ◌-◌, ◌<◌, ◌≤◌, Bool, true, false, cond, List, ◌++◌, length, map, ◌&&◌, ◌||◌, nat_lt, refl, sym, ap, ◌∙◌, subst, ⊎_elim, ◌⊎◌, arith, Some, None, length-append}
use Rattle.std.specs.Prelude.{All, slice_get}
use Rattle.std.proofs.lemmas.Bool.{cases_lt, le-ltb, ne_eqb}
use Rattle.f77_tree.specs.declared.programs.NameInfo.{NameInfo}
use Rattle.f77_tree.specs.declared.programs.Program.{Program}
use Rattle.f77_tree.specs.declared.statements.Labelled.{Labelled}
use Rattle.f77_tree.specs.StatementGrammar.{WrittenStatement, statement_of}
use Rattle.f77_tree.proofs.AllLemmas.{All-get, get-longer}
use Rattle.layout_rules.specs.Faults.{first_line}
use Rattle.layout_rules.specs.Order.{rank, is_out_of_order}
use Rattle.flat_programs.specs.declared.statements.Flat.{Flat}
use Rattle.flat_programs.specs.declared.statements.Flat.TheVariants.{Finish}
use Rattle.flat_programs.specs.declared.statements.FlatLine.{FlatLine}
use Rattle.flat_programs.specs.Declarations.{typed_name, commons, group_statement, init_statement, declared}
use Rattle.flat_programs.specs.FlatForm.{IsFlat}
use Rattle.flat_programs.specs.Shown.{shown}
use Rattle.read_back.specs.SourceStatements.{statements_read}
use Rattle.read_back.proofs.DeclaredEach.{mapped_each, storage_each}
use Rattle.read_back.proofs.FirstFaults.{none_faulty, none_above}
use Rattle.read_back.proofs.PrintedPlaces.{get-after, got_within, IsDeclaredAt, IsFlatAt, first_flat, statement_count, flat_at, declared_at}

-- ---- ranks

abbrev HasRank : ℕ → WrittenStatement → Type 0
HasRank n w = rank (statement_of w) ≡ n

abbrev storage_statements : Program → List WrittenStatement
storage_statements q = map typed_name q.names ++ commons q.commons ++ map group_statement q.groups

storage_ranks : (q : Program) → All (HasRank 2) (storage_statements q)
storage_ranks q = storage_each (HasRank 2) q (λ block. refl) (λ info. refl) (λ group. refl)

rank_if : (b : Bool) (v w : WrittenStatement) → HasRank 3 v → HasRank 3 w → HasRank 3 (cond b v w)
rank_if true v w a b = a
rank_if false v w a b = b

flat_rank : (names : List NameInfo) (stmt : Flat) → (stmt ≡ Finish) ⊎ HasRank 3 (shown names stmt)
flat_rank names h = grind (arith, rank_if)

-- ---- ranks rise

-- what is known of the rank at a place, where so many statements have rank 2
record IsRanked (storage total k n : ℕ) : Type 0 where
  early : k < storage → n ≡ 2
  late : storage ≤ k → 3 ≤ n
  most : suc k < total → n ≤ 3

module _ (q : Program) (flat : List FlatLine) (form : IsFlat flat) where
  abbrev storage : ℕ
  storage = length (storage_statements q)

  abbrev total : ℕ
  total = length (statements_read q flat)

  declared_ranked : (k : ℕ) (s : Labelled) → k < first_flat q flat → IsDeclaredAt q k s → IsRanked storage total k (rank s.stmt)
  declared_ranked k s lt is =
      ⊎_elim
      (λ (early : k < storage).
      let there : slice_get (storage_statements q) k ≡ Some is.w = sym (get-longer (storage_statements q) (map init_statement q.inits) k early) ∙ is.there in
      let two : rank s.stmt ≡ 2 = ap rank is.stmt ∙ All-get (HasRank 2) (storage_statements q) k is.w (storage_ranks q) there in
      record { early = λ h. two; late = λ h. absurd (omega (arith, early, h)); most = λ h. omega (arith, two) })
      (λ (le : storage ≤ k).
      let e : k ≡ storage + (k - storage) = omega (arith, le) in
      let there : slice_get (map init_statement q.inits) (k - storage) ≡ Some is.w = sym (get-after (storage_statements q) (map init_statement q.inits) (k - storage)) ∙ ap (slice_get (declared q)) (sym e) ∙ is.there in
      let three : rank s.stmt ≡ 3 = ap rank is.stmt ∙ All-get (HasRank 3) (map init_statement q.inits) (k - storage) is.w (mapped_each (HasRank 3) init_statement q.inits (λ part. refl)) there in
      record { early = λ h. absurd (omega (arith, le, h)); late = λ h. omega (arith, three); most = λ h. omega (arith, three) })
      (cases_lt k storage)

  storage_few : storage ≤ first_flat q flat
  storage_few = omega (arith, length-append (storage_statements q) (map init_statement q.inits))

  flat_ranked : (place : ℕ) (s : Labelled) → IsFlatAt q flat place s → IsRanked storage total (first_flat q flat + place) (rank s.stmt)
  flat_ranked place s is = grind (arith, statement_count q flat, storage_few, flat_rank q.names)

  ranked : (k : ℕ) (s : Labelled) → slice_get (statements_read q flat) k ≡ Some s → IsRanked storage total k (rank s.stmt)
  ranked k s is =
      ⊎_elim
      (λ (lt : k < first_flat q flat). declared_ranked k s lt (declared_at q flat k s lt is))
      (λ (le : first_flat q flat ≤ k).
      let e : k ≡ first_flat q flat + (k - first_flat q flat) = omega (arith, le) in
      subst (λ (j : ℕ). IsRanked storage total j (rank s.stmt)) (sym e) (flat_ranked (k - first_flat q flat) s (flat_at q flat (k - first_flat q flat) s (ap (slice_get (statements_read q flat)) (sym e) ∙ is))))
      (cases_lt k (first_flat q flat))

  -- ---- the order

  in_order : (a s : ℕ) → a ≤ s → 2 ≤ a → a ≤ 3 → (nat_lt s a || (a == 0 && s == 0) || a == 4) ≡ false
  in_order a s le least most = grind (arith, le-ltb s a le, ne_eqb a 0, ne_eqb a 4)

  before : (j k : ℕ) (a s : Labelled) → j < k → slice_get (statements_read q flat) j ≡ Some a → slice_get (statements_read q flat) k ≡ Some s → (nat_lt (rank s.stmt) (rank a.stmt) || (rank a.stmt == 0 && rank s.stmt == 0) || rank a.stmt == 4) ≡ false
  before j k a s lt there is =
      let ra = ranked j a there in
      let rs = ranked k s is in
      let within = got_within (statements_read q flat) k s is in
      let most : rank a.stmt ≤ 3 = ra.most (omega (arith, lt, within)) in
      ⊎_elim
      (λ (early : k < storage).
      let two = ra.early (omega (arith, lt, early)) in
      let other = rs.early early in
      in_order (rank a.stmt) (rank s.stmt) (omega (arith, two, other)) (omega (arith, two)) most)
      (λ (le : storage ≤ k).
      let three = rs.late le in
      ⊎_elim
      (λ (early : j < storage). let two = ra.early early in in_order (rank a.stmt) (rank s.stmt) (omega (arith, two, three)) (omega (arith, two)) most)
      (λ (late : storage ≤ j). let least = ra.late late in in_order (rank a.stmt) (rank s.stmt) (omega (arith, most, three)) (omega (arith, least)) most)
      (cases_lt j storage))
      (cases_lt k storage)

  pub none_out_of_order : first_line is_out_of_order (statements_read q flat) ≡ None
  none_out_of_order = grind (arith, none_faulty is_out_of_order (statements_read q flat), none_above, before)
