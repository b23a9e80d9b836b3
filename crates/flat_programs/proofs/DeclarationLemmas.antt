-- How many statements of COMMON there are.
use Rattle.std.proofs.Common.{◌≡◌, ℕ, ◌+◌, Bool, true, false, List, [], ◌∷◌, length, refl, ap, ◌∙◌}
use Rattle.std.specs.Prelude.{slice_get, Option, Some, if◌then◌else◌, not}
use Rattle.std.proofs.lemmas.List.{length-append}
use Rattle.list_laws.proofs.Counts.{bit}
use Rattle.f77_tree.specs.declared.declarations.CommonPart.{CommonPart}
use Rattle.f77_tree.specs.StatementGrammar.{WrittenStatement}
use Rattle.flat_programs.specs.Declarations.{block_statement, common_at, is_continued}
use Rattle.flat_programs.proofs.Rows.{rows, rows-more}

unless-length : (b : Bool) (w : WrittenStatement) → length (if b then [] else w ∷ []) ≡ bit (not b)
unless-length true w = refl
unless-length false w = refl

module _ (parts : List CommonPart) where
  abbrev row : ℕ → List WrittenStatement
  row k = common_at parts k (slice_get parts k)

  -- a part has a statement of its own where its block isn't continued
  pub blocks-more : (k : ℕ) (part : CommonPart) → slice_get parts k ≡ Some part → length (rows row (k + 1)) ≡ length (rows row k) + bit (not (is_continued parts k part))
  blocks-more k part is =
      let one : length (row k) ≡ bit (not (is_continued parts k part)) = ap (λ (o : Option CommonPart). length (common_at parts k o)) is ∙ unless-length (is_continued parts k part) (block_statement parts part.block) in
      ap length (rows-more row k) ∙ length-append (rows row k) (row k) ∙ ap (λ n. length (rows row k) + n) one
