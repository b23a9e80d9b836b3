-- What holds of each statement of the declarations of a program.
use Rattle.std.proofs.Common.{ℕ, Bool, true, false, cond, List, [], ◌∷◌, ◌++◌, length, map, Option, Some, None}
use Rattle.std.specs.Prelude.{flat_map, All, slice_get}
use Rattle.std.specs.List.{range_with_len}
use Rattle.std.proofs.lemmas.List.Elements.{All-append}
use Rattle.f77_tree.specs.declared.declarations.CommonPart.{CommonPart}
use Rattle.f77_tree.specs.declared.declarations.InitPart.{InitPart}
use Rattle.f77_tree.specs.declared.declarations.Member.{Member}
use Rattle.f77_tree.specs.declared.programs.NameInfo.{NameInfo}
use Rattle.f77_tree.specs.declared.programs.Program.{Program}
use Rattle.f77_tree.specs.StatementGrammar.{WrittenStatement}
use Rattle.f77_tree.proofs.AllLemmas.{All-nil, All-cons}
use Rattle.flat_programs.specs.Declarations.{typed_name, block_statement, is_continued, common_at, commons, group_statement, init_statement, declared}
use Rattle.std.proofs.lemmas.Grind.{elements}
use Rattle.std.proofs.Common.{arith}

module _ (P : WrittenStatement → Type 0) where
  pub mapped_each : {X : Type 0} (f : X → WrittenStatement) (xs : List X) → ((x : X) → P (f x)) → All P (map f xs)
  mapped_each f [] each = All-nil P
  mapped_each f (x ∷ xs) each = All-cons P (f x) (map f xs) (each x) (mapped_each f xs each)

  common_if : (b : Bool) (w : WrittenStatement) → P w → All P (cond b [] (w ∷ []))
  common_if true w is = All-nil P
  common_if false w is = All-cons P w [] is (All-nil P)

  module _ (parts : List CommonPart) (blocks : (block : Option (List ℕ)) → P (block_statement parts block)) where
    common_each : (k : ℕ) (part : Option CommonPart) → All P (common_at parts k part)
    common_each k None = All-nil P
    common_each k (Some part) = common_if (is_continued parts k part) (block_statement parts part.block) (blocks part.block)

    commons_from : (places : List ℕ) → All P (flat_map (λ k. common_at parts k (slice_get parts k)) places)
    commons_from [] = All-nil P
    commons_from (k ∷ places) = grind (arith, elements, All-append, common_each, commons_from places)

    pub commons_each : All P (commons parts)
    commons_each = commons_from (range_with_len 0 (length parts))

  -- the declarations of names, COMMON and EQUIVALENCE
  pub storage_each : (q : Program) → ((block : Option (List ℕ)) → P (block_statement q.commons block)) → ((info : NameInfo) → P (typed_name info)) → ((group : List Member) → P (group_statement group)) → All P (map typed_name q.names ++ commons q.commons ++ map group_statement q.groups)
  storage_each q blocks names groups =
      grind (arith, All-append P, mapped_each typed_name q.names names, commons_each q.commons blocks, mapped_each group_statement q.groups groups)

  pub declared_each : (q : Program) → ((block : Option (List ℕ)) → P (block_statement q.commons block)) → ((info : NameInfo) → P (typed_name info)) → ((group : List Member) → P (group_statement group)) → ((part : InitPart) → P (init_statement part)) → All P (declared q)
  declared_each q blocks names groups inits = grind (arith, elements, All-append, storage_each, mapped_each)
