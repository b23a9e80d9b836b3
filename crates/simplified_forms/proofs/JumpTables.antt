-- What is noted of items, one after another: to which executables they jump.
use Rattle.std.proofs.Common.{◌≡◌, ℕ, ◌+◌, ◌<◌, Bool, true, false, ◌==◌, ◌&&◌, ◌||◌, List, [], ◌∷◌, length, Option, refl, sym, ap, ◌∙◌}
use Rattle.std.specs.List.{list_any, range_with_len}
use Rattle.std.proofs.lemmas.List.Folds.{list_any-append}
use Rattle.list_laws.proofs.Ranges.{range_more}
use Rattle.f77_tree.specs.declared.programs.ExecKind.{ExecKind}
use Rattle.f77_tree.specs.declared.programs.Program.{Program}
use Rattle.const_prop.specs.Table.{Knowns}
use Rattle.simplified_forms.specs.Items.{kind_at}
use Rattle.simplified_forms.specs.Plans.{told, AreTold}
use Rattle.simplified_forms.specs.Simplified.{decided, jumps, jumps_by}

or-false : (b : Bool) → (b || false) ≡ b
or-false true = refl
or-false false = refl

any-range-more : (test : ℕ → Bool) (k : ℕ) → list_any test (range_with_len 0 (k + 1)) ≡ (list_any test (range_with_len 0 k) || test k)
any-range-more test k =
    ap (list_any test) (range_more k)
    ∙ list_any-append test (range_with_len 0 k) (k ∷ [])
    ∙ ap (λ b. list_any test (range_with_len 0 k) || b) (or-false (test k))

module _ (p : Program) (t : Knowns) (is_item : ℕ → Bool) (s : ℕ) where
  abbrev pub jumps_there : (j : ℕ) → Bool
  jumps_there j = is_item j && list_any (λ x. x == s) (jumps p t is_item j)

  -- one item more
  pub jumped-item : (k : ℕ) (kind : ExecKind) (table : List (Option ℕ)) (old new : Bool) → is_item k ≡ true → kind_at p k ≡ kind → k < length p.execs → AreTold (decided p t) (length p.execs) table → old ≡ list_any jumps_there (range_with_len 0 k) → new ≡ (old || list_any (λ x. x == s) (jumps_by is_item k kind (told table k))) → new ≡ list_any jumps_there (range_with_len 0 (k + 1))
  jumped-item k kind table old new item kind_is less are so_far noted =
      let here : list_any (λ x. x == s) (jumps_by is_item k kind (told table k)) ≡ jumps_there k =
      ap (λ d. list_any (λ x. x == s) (jumps_by is_item k kind d)) (are.entry k less)
      ∙ ap (λ x. list_any (λ x. x == s) (jumps_by is_item k x (decided p t k))) (sym kind_is)
      ∙ ap (λ b. b && list_any (λ x. x == s) (jumps p t is_item k)) (sym item)
      in
      noted ∙ ap (λ b. b || list_any (λ x. x == s) (jumps_by is_item k kind (told table k))) so_far ∙ ap (λ b. list_any jumps_there (range_with_len 0 k) || b) here ∙ sym (any-range-more jumps_there k)

  -- an executable more that is none
  pub jumped-other : (k : ℕ) (old : Bool) → is_item k ≡ false → old ≡ list_any jumps_there (range_with_len 0 k) → old ≡ list_any jumps_there (range_with_len 0 (k + 1))
  jumped-other k old none so_far =
      let here : false ≡ jumps_there k = ap (λ b. b && list_any (λ x. x == s) (jumps p t is_item k)) (sym none) in
      so_far ∙ sym (or-false (list_any jumps_there (range_with_len 0 k))) ∙ ap (λ b. list_any jumps_there (range_with_len 0 k) || b) here ∙ sym (any-range-more jumps_there k)
