-- What is gathered of the declarations of a printed program, where names and flat statements give nothing.
use Rattle.std.proofs.Common.{◌≡◌, ℕ, List, [], ◌∷◌, ◌++◌, length, map, refl, ap, ◌∙◌, Option, Some, None, append-nil}
use Rattle.std.specs.Prelude.{All, flat_map, slice_get}
use Rattle.std.specs.List.{range_with_len}
use Rattle.std.proofs.lemmas.List.Concat.{flat_map-append}
use Rattle.f77_tree.specs.declared.programs.NameInfo.{NameInfo}
use Rattle.f77_tree.specs.declared.programs.Program.{Program}
use Rattle.f77_tree.specs.declared.statements.Labelled.{Labelled}
use Rattle.f77_tree.specs.declared.statements.Stmt.{Stmt}
use Rattle.f77_tree.specs.StatementGrammar.{WrittenStatement, statement_of}
use Rattle.f77_tree.proofs.AllLemmas.{All-first, All-rest}
use Rattle.flat_programs.specs.declared.statements.FlatLine.{FlatLine}
use Rattle.flat_programs.specs.Declarations.{typed_name, group_statement, init_statement, commons}
use Rattle.read_back.specs.PrintedStatements.{LabelledStatement, declaration, written_in, written_at}
use Rattle.read_back.specs.SourceStatements.{statements_read}
use Rattle.read_back.proofs.DeclaredEach.{mapped_each}
use Rattle.read_back.proofs.StatementParts.{HoldsOfRead, holds_of_read, read_stmt, parts_of_all}
use Rattle.std.proofs.Common.{arith}

module _ {X : Type 0} (f : Stmt → List X) where
  abbrev pub of_written : List WrittenStatement → List X
  of_written ws = flat_map (λ w. f (statement_of w)) ws

  abbrev of_all : List LabelledStatement → List X
  of_all ss = flat_map (λ s. f (read_stmt s)) ss

  pub none_written : (ws : List WrittenStatement) → All (λ w. f (statement_of w) ≡ []) ws → of_written ws ≡ []
  none_written [] all = refl
  none_written (w ∷ ws) all =
      ap (λ xs. xs ++ of_written ws) (All-first (λ v. f (statement_of v) ≡ []) w ws all) ∙ none_written ws (All-rest (λ v. f (statement_of v) ≡ []) w ws all)

  declared_parts : (ws : List WrittenStatement) → of_all (map declaration ws) ≡ of_written ws
  declared_parts [] = refl
  declared_parts (w ∷ ws) = ap (λ xs. f (statement_of w) ++ xs) (declared_parts ws)

  module _ (q : Program) (flat : List FlatLine) (names_none : (info : NameInfo) → f (statement_of (typed_name info)) ≡ []) (flat_none : HoldsOfRead (λ s. f s ≡ []) q.names) where
    none_in : (place : ℕ) (l : Option FlatLine) → of_all (written_in q.names flat place l) ≡ []
    none_in place None = refl
    none_in place (Some l) = ap (λ xs. xs ++ []) (holds_of_read (λ s. f s ≡ []) q.names flat_none l.stmt)

    none_from : (places : List ℕ) → of_all (flat_map (written_at q.names flat) places) ≡ []
    none_from [] = refl
    none_from (place ∷ places) = grind (arith, flat_map-append, read_stmt, none_in place (slice_get flat place), none_from places)

    -- all of it comes from COMMON, EQUIVALENCE and DATA, in this order
    pub gathered_of : flat_map (λ (s : Labelled). f s.stmt) (statements_read q flat) ≡ of_written (commons q.commons) ++ (of_written (map group_statement q.groups) ++ of_written (map init_statement q.inits))
    gathered_of =
        let a = map declaration (map typed_name q.names) in
        let b = map declaration (commons q.commons) in
        let c = map declaration (map group_statement q.groups) in
        let d = map declaration (map init_statement q.inits) in
        let rest = flat_map (written_at q.names flat) (range_with_len 0 (length flat)) in
        let g : LabelledStatement → List X = λ s. f (read_stmt s) in
        let names_nothing : of_all a ≡ [] = declared_parts (map typed_name q.names) ∙ none_written (map typed_name q.names) (mapped_each (λ w. f (statement_of w) ≡ []) typed_name q.names names_none) in
        let last : of_all (d ++ rest) ≡ of_written (map init_statement q.inits) = flat_map-append g d rest ∙ ap (λ xs. of_all d ++ xs) (none_from (range_with_len 0 (length flat))) ∙ append-nil (of_all d) ∙ declared_parts (map init_statement q.inits) in
        let middle : of_all (c ++ (d ++ rest)) ≡ of_written (map group_statement q.groups) ++ of_written (map init_statement q.inits) = flat_map-append g c (d ++ rest) ∙ ap (λ xs. xs ++ of_all (d ++ rest)) (declared_parts (map group_statement q.groups)) ∙ ap (λ xs. of_written (map group_statement q.groups) ++ xs) last in
        parts_of_all f q flat
        ∙ flat_map-append g a (b ++ (c ++ (d ++ rest)))
        ∙ ap (λ xs. xs ++ of_all (b ++ (c ++ (d ++ rest)))) names_nothing
        ∙ flat_map-append g b (c ++ (d ++ rest))
        ∙ ap (λ xs. xs ++ of_all (c ++ (d ++ rest))) (declared_parts (commons q.commons))
        ∙ ap (λ xs. of_written (commons q.commons) ++ xs) middle
