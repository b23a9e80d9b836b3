-- What units declare can be written: dimensions of names, and blocks.
use Rattle.std.proofs.Common.{◌≡◌, ℕ, ◌<◌, Bool, true, false, ◌&&◌, ◌||◌, All, List, [], ◌∷◌, ◌++◌, length, length-append, Option, Some, None, if◌then◌else◌, refl, sym, ap, subst, ◌∙◌, arith}
use Rattle.std.specs.Prelude.{bytes_eq}
use Rattle.std.specs.List.{list_any, slice_get}
use Rattle.std.proofs.lemmas.List.{length-map}
use Rattle.f77_tree.proofs.AllLemmas.{All-first, All-nil, All-rest}
use Rattle.f77_tree.specs.Declarations.{CanBeWritten, IsBlock}
use Rattle.f77_tree.specs.declared.declarations.CommonPart.{CommonPart}
use Rattle.f77_tree.specs.declared.declarations.Decl.{Decl}
use Rattle.f77_tree.specs.declared.declarations.Dim.{Dim}
use Rattle.f77_tree.specs.declared.statements.Labelled.{Labelled}
use Rattle.f77_tree.specs.Places.{same_block}
use Rattle.layout_rules.specs.Declarations.{all_commons, all_declarators, declarators, dims_of, dims_or_none, dims_told, has_dims, parts_of}
use Rattle.layout_rules.specs.Faults.{answer_or, first_answer}
use Rattle.layout_rules.specs.ReadDeclarations.{IsReadDecl, IsReadDeclaration, IsReadDims, IsReadPart}
use Rattle.storage_laws.proofs.DeclaredForms.{All-flat_map, given-IsReadDeclaration}
use Rattle.program_units.specs.declared.entity.Entity.{Entity}
use Rattle.program_units.specs.declared.entity.Entity.TheVariants.{InBlock, Local}
use Rattle.program_units.specs.Entities.{block_list}
use Rattle.program_units.specs.Expansion.{declared_in}
use Rattle.program_units.specs.Names.{has_block}
use Rattle.program_units.specs.Merged.{first_with_block}
use Rattle.program_units.specs.Texts.{IsText}
use Rattle.program_units.specs.Units.{unit_at, unit_or_none, units}
use Rattle.unit_laws.proofs.MainNames.{decl_names, names_of_block}
use Rattle.unit_laws.proofs.ManyBlocks.{is-first, no-first}
use Rattle.unit_laws.proofs.OwnNames.{blocks-same}
use Rattle.unit_laws.proofs.UnitSources.{all-of, text-unit}
use Rattle.entity_names.proofs.BlockPlaces.{of-own}
use Rattle.expanded_sources.proofs.HeldPieces.{IsInUnit}

-- ---- dimensions

pub no-dims : IsReadDims []
no-dims = record { lower = All-nil (λ (dim : Dim). CanBeWritten dim.lo); upper = All-nil (λ (dim : Dim). CanBeWritten dim.hi); few = omega arith }

read-told : (name : List ℕ) (decls : List Decl) → All IsReadDecl decls → IsReadDims (dims_or_none (first_answer (dims_told name) decls))
read-told name [] all = no-dims
read-told name (decl ∷ decls) all = by (bytes_eq decl.name name && has_dims decl) (read-told name decls (All-rest IsReadDecl decl decls all))
  where
    by : (b : Bool) → IsReadDims (dims_or_none (first_answer (dims_told name) decls)) → IsReadDims (dims_or_none (answer_or (if b then Some decl.dims else None) (first_answer (dims_told name) decls)))
    by true later = All-first IsReadDecl decl decls all
    by false later = later

-- ---- blocks

pub record IsReadBlock (block : Option (List ℕ)) (names : List (List ℕ)) : Type 0 where
  pub is_block : IsBlock block
  pub some : 0 < length names

some-names : (part : CommonPart) (back : List (List ℕ)) → 0 < length part.decls → 0 < length (decl_names part.decls ++ back)
some-names part back some =
    let long = length-append (decl_names part.decls) back in
    let same = length-map part.decls (λ (decl : Decl). decl.name) in
    omega (arith, long, same, some)

block-of : (block : Option (List ℕ)) (parts : List CommonPart) → All IsReadPart parts → list_any (λ part. same_block part.block block) parts ≡ true → IsReadBlock block (names_of_block block parts)
block-of block [] all any = let e : false ≡ true = any in absurd cc
block-of block (part ∷ parts) all any = by (same_block part.block block) refl any (block-of block parts (All-rest IsReadPart part parts all))
  where
    first : IsReadPart part
    first = All-first IsReadPart part parts all

    by : (b : Bool) → same_block part.block block ≡ b → list_any (λ p. same_block p.block block) (part ∷ parts) ≡ true → (list_any (λ p. same_block p.block block) parts ≡ true → IsReadBlock block (names_of_block block parts)) → IsReadBlock block (names_of_block block (part ∷ parts))
    by true is any later = record {
      is_block = subst IsBlock (blocks-same part.block block is) first.block_name;
      some = subst (λ (names : List (List ℕ)). 0 < length names) (sym (of-own block part parts true is)) (some-names part (names_of_block block parts) first.some);
    }
    by false is any later =
        let more = later (sym (ap (λ (b : Bool). b || list_any (λ p. same_block p.block block) parts) is) ∙ any) in
        record { is_block = more.is_block; some = subst (λ (names : List (List ℕ)). 0 < length names) (sym (of-own block part parts false is)) more.some }

-- ---- units of a text

module _ (stmts : List Labelled) (text : IsText stmts) where
  abbrev us : List (List Labelled)
  us = units stmts

  pub unit-declares : (k : ℕ) (s : Labelled) → IsInUnit us k s → IsReadDeclaration s.stmt
  unit-declares k s inside = by (slice_get us k) refl inside.here
    where
      by : (o : Option (List Labelled)) → slice_get us k ≡ o → slice_get (unit_or_none o) inside.place ≡ Some s → IsReadDeclaration s.stmt
      by None at here = let e : None ≡ Some s = here in absurd cc
      by (Some u) at here = let unit = text-unit stmts text k u at in given-IsReadDeclaration s.stmt (unit.read.given inside.place s here)

  unit-dims : (k : ℕ) (x : List ℕ) → IsReadDims (dims_of (unit_at us k) x)
  unit-dims k x =
      read-told x (all_declarators (unit_at us k))
      (All-flat_map IsReadDecl (λ s. declarators s.stmt) (unit_at us k) (all-of (λ s. All IsReadDecl (declarators s.stmt)) (unit_at us k) (λ j s here. (unit-declares k s (record { place = j; here = here })).decls)))

  pub declared-dims : (e : Entity) → IsReadDims (dims_of (declared_in us e).0 (declared_in us e).1)
  declared-dims (Local k name) = unit-dims k name
  declared-dims (InBlock block place) = by (first_with_block us block) refl
    where
      by : (o : Option ℕ) → first_with_block us block ≡ o → IsReadDims (dims_of (declared_in us (InBlock block place)).0 (declared_in us (InBlock block place)).1)
      by None is =
          let none = no-first block us is in
          let same : (declared_in us (InBlock block place)).0 ≡ [] = rw none refl in
          subst (λ (u : List Labelled). IsReadDims (dims_of u (declared_in us (InBlock block place)).1)) (sym same) no-dims
      by (Some k) is =
          let first = is-first block us k is in
          let same : (declared_in us (InBlock block place)).0 ≡ unit_at us k = rw (first.kept) refl in
          subst (λ (u : List Labelled). IsReadDims (dims_of u (declared_in us (InBlock block place)).1)) (sym same) (unit-dims k (declared_in us (InBlock block place)).1)

  pub block-read : (k : ℕ) (block : Option (List ℕ)) → has_block (unit_at us k) block ≡ true → IsReadBlock block (block_list (unit_at us k) block)
  block-read k block has =
      block-of block (all_commons (unit_at us k))
      (All-flat_map IsReadPart (λ s. parts_of s.stmt) (unit_at us k) (all-of (λ s. All IsReadPart (parts_of s.stmt)) (unit_at us k) (λ j s here. (unit-declares k s (record { place = j; here = here })).parts)))
      has
