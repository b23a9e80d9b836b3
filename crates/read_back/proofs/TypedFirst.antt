-- Each statement of a printed program types one name of the table, or it is one of the others.
use Rattle.std.proofs.Common.{◌≡◌, ℕ, ◌+◌, ◌-◌, ◌<◌, ◌≤◌, List, ◌++◌, length, map, sym, ap, ◌∙◌, subst, ⊎_elim, ◌⊎◌, inl, inr, arith, Some, append_assoc}
use Rattle.std.specs.Prelude.{All, slice_get}
use Rattle.std.proofs.lemmas.Bool.{cases_lt}
use Rattle.std.proofs.lemmas.List.{length-map}
use Rattle.f77_tree.specs.declared.programs.NameInfo.{NameInfo}
use Rattle.f77_tree.specs.declared.programs.Program.{Program}
use Rattle.f77_tree.specs.declared.statements.Labelled.{Labelled}
use Rattle.f77_tree.specs.declared.statements.Stmt.{Stmt}
use Rattle.f77_tree.specs.StatementGrammar.{WrittenStatement, statement_of}
use Rattle.f77_tree.proofs.AllLemmas.{All-get, get-longer}
use Rattle.flat_programs.specs.declared.statements.FlatLine.{FlatLine}
use Rattle.flat_programs.specs.Declarations.{typed_name, commons, group_statement, init_statement, declared}
use Rattle.read_back.specs.SourceStatements.{statements_read}
use Rattle.read_back.proofs.PrintedPlaces.{get_some, get-after, get-map, IsDeclaredAt, IsFlatAt, first_flat, declared_at, flat_at}

-- the statement types the name at this place of the table
pub record TypesName (q : Program) (k : ℕ) (s : Labelled) : Type 0 where
  pub info : NameInfo
  pub there : slice_get q.names k ≡ Some info
  pub stmt : s.stmt ≡ statement_of (typed_name info)

module _ (q : Program) (flat : List FlatLine) where
  abbrev later_ones : List WrittenStatement
  later_ones = commons q.commons ++ (map group_statement q.groups ++ map init_statement q.inits)

  apart : declared q ≡ map typed_name q.names ++ later_ones
  apart =
      grind (arith, append_assoc (map typed_name q.names ++ commons q.commons) (map group_statement q.groups) (map init_statement q.inits), append_assoc (map typed_name q.names) (commons q.commons) (map group_statement q.groups ++ map init_statement q.inits))

  module _ (P : Stmt → Type 0) (later : All (λ w. P (statement_of w)) later_ones) (others : (place : ℕ) (s : Labelled) → IsFlatAt q flat place s → P s.stmt) where
    declared_or : (k : ℕ) (s : Labelled) → IsDeclaredAt q k s → P s.stmt ⊎ TypesName q k s
    declared_or k s is =
        let size = length-map q.names typed_name in
        ⊎_elim
        (λ (lt : k < length q.names).
        let found = get_some q.names k lt in
        let there : Some is.w ≡ Some (typed_name found.0) = sym is.there ∙ ap (λ ws. slice_get ws k) apart ∙ get-longer (map typed_name q.names) later_ones k (omega (arith, lt, size)) ∙ get-map typed_name q.names k found.0 found.1 in
        let same : is.w ≡ typed_name found.0 = cc in
        inr (record { info = found.0; there = found.1; stmt = is.stmt ∙ ap statement_of same }))
        (λ (le : length q.names ≤ k).
        let e : k ≡ length (map typed_name q.names) + (k - length q.names) = omega (arith, le, size) in
        let there : slice_get later_ones (k - length q.names) ≡ Some is.w = sym (get-after (map typed_name q.names) later_ones (k - length q.names)) ∙ ap (slice_get (map typed_name q.names ++ later_ones)) (sym e) ∙ ap (λ ws. slice_get ws k) (sym apart) ∙ is.there in
        inl (subst P (sym is.stmt) (All-get (λ w. P (statement_of w)) later_ones (k - length q.names) is.w later there)))
        (cases_lt k (length q.names))

    pub named_or : (k : ℕ) (s : Labelled) → slice_get (statements_read q flat) k ≡ Some s → P s.stmt ⊎ TypesName q k s
    named_or k s is =
        ⊎_elim
        (λ (lt : k < first_flat q flat). declared_or k s (declared_at q flat k s lt is))
        (λ (le : first_flat q flat ≤ k).
        let e : k ≡ first_flat q flat + (k - first_flat q flat) = omega (arith, le) in
        inl (others (k - first_flat q flat) s (flat_at q flat (k - first_flat q flat) s (ap (slice_get (statements_read q flat)) (sym e) ∙ is))))
        (cases_lt k (first_flat q flat))
