-- What folded expressions do where executables use them: as targets, as values that are assigned, and as items of PRINT.
use Rattle.std.proofs.Common.{◌≡◌, ℕ, suc, ℤ, pos, negsuc, Bool, true, false, ◌==◌, if◌then◌else◌, List, [], ◌∷◌, map, Option, Some, None, Ok, Err, All, refl, sym, ap, ◌∙◌, ⊎_elim}
use Rattle.op_table.specs.declared.Op.TheVariants.{Truth as IsTruthOf}
use Rattle.op_table.specs.declared.Trap.TheVariants.{Input as NoInput}
use Rattle.op_table.specs.Words.{IsWord}
use Rattle.f77_tree.specs.declared.declarations.Kind.{Kind}
use Rattle.f77_tree.specs.declared.declarations.Kind.TheVariants.{Integer, Logical}
use Rattle.f77_tree.specs.declared.expressions.Access.{Access}
use Rattle.f77_tree.specs.declared.expressions.Expr.{Expr, Const, Truth, Input, Read, Read', Apply, Apply', Row_of-Expr, end_of-Expr, more_of-Expr, items_hidden-the_row-Expr-0}
use Rattle.f77_tree.specs.declared.programs.Item.{Item}
use Rattle.f77_tree.specs.declared.programs.Item.TheVariants.{Value, Chars}
use Rattle.f77_tree.specs.declared.programs.NameInfo.{NameInfo}
use Rattle.f77_tree.specs.Execution.{is_input, row_inputs, is_truth, count_if, words_taken}
use Rattle.f77_tree.specs.Kinds.{IsAssignment, IsProperAccess, taken_as}
use Rattle.f77_tree.specs.KnownWith.{known_with, AreRight}
use Rattle.f77_tree.specs.Line.{kind_of_expression, text_of, item_text, line_of, line_of_texts}
use Rattle.f77_tree.specs.Value.{value, kind_of, and_then, place, word_of}
use Rattle.f77_tree.specs.WellFormed.{IsProperItem}
use Rattle.f77_tree.proofs.AllLemmas.{All-first, All-rest}
use Rattle.f77_tree.proofs.ExpressionLemmas.{row_of, row_values-list, value-Apply}
use Rattle.f77_tree.proofs.KnownValues.{known_with-is}
use Rattle.f77_tree.proofs.Taking.{words_taken_apply, taken_some}
use Rattle.simplified_forms.specs.Literals.{least_literal, negative, literal, literal_or}
use Rattle.simplified_forms.specs.Folding.{folded, folded_access, folded_item, row_folded}
use Rattle.simplified_laws.specs.FoldedValues.{AreAssignedAlike}
use Rattle.simplified_laws.proofs.FoldedLaws.{folded-kind, folded-value, row_folded-values}
use Rattle.simplified_forms.proofs.FoldedLists.{folded-Apply, row_folded-items}

-- ---- literals take nothing of the data

record TakesNothing (e : Expr) : Type 0 where
  input : is_input e ≡ false
  taken : words_taken e ≡ 0

negative-takes : (checked : Bool) (n : ℕ) → TakesNothing (negative checked n)
negative-takes true n = record { input = refl; taken = refl }
negative-takes false n = record { input = refl; taken = refl }

least_or-takes : (checked is_least : Bool) (n : ℕ) → TakesNothing (if is_least then least_literal checked else negative checked n)
least_or-takes true true n = record { input = refl; taken = refl }
least_or-takes false true n = record { input = refl; taken = refl }
least_or-takes checked false n = negative-takes checked n

literal-takes : (checked : Bool) (kind : Kind) (z : ℤ) → TakesNothing (literal checked kind z)
literal-takes checked Integer (pos n) = record { input = refl; taken = refl }
literal-takes checked Integer (negsuc n) = least_or-takes checked (n == 2147483647) (suc n)
literal-takes checked Logical z = record { input = refl; taken = refl }

module _ (names : List NameInfo) (checked : Bool) (words : ℕ → Option ℤ) where
  -- ---- what is the next word of the data stays so, and nothing else becomes it

  literal_or-input : (kind : Kind) (told : Option ℤ) (e : Expr) → is_input e ≡ false → is_input (literal_or checked kind told e) ≡ false
  literal_or-input kind None e is = is
  literal_or-input kind (Some z) e is = (literal-takes checked kind z).input

  folded-input : (e : Expr) → is_input (folded names checked words e) ≡ is_input e
  folded-input (Const z) = refl
  folded-input (Truth b) = refl
  folded-input Input = refl
  folded-input (Read' name shape subs) = literal_or-input (kind_of_expression names (Read' name shape subs)) (known_with names words (Read' name shape subs)) (Read (record { name = name; subs = row_folded names checked words subs })) refl
  folded-input (Apply' op shape args) = literal_or-input (kind_of_expression names (Apply' op shape args)) (known_with names words (Apply' op shape args)) (Apply op (row_folded names checked words args)) refl

  row-inputs : (m : _) (row : Row_of-Expr m) → map is_input (row_folded names checked words row) ≡ row_inputs row
  row-inputs m end_of-Expr = refl
  row-inputs m (more_of-Expr e rest) = ap (λ b. b ∷ map is_input (row_folded names checked words rest)) (folded-input e) ∙ ap (λ bs. is_input e ∷ bs) (row-inputs _ rest)

  module _ (store : List ℤ) (right : AreRight words store) where
    -- what is known takes nothing of the data
    known-taken : (e other : Expr) (told : Option ℤ) → known_with names words e ≡ told → words_taken other ≡ words_taken e → words_taken (literal_or checked (kind_of_expression names e) told other) ≡ words_taken e
    known-taken e other None is same = same
    known-taken e other (Some z) is same = (literal-takes checked (kind_of_expression names e) z).taken ∙ sym (taken_some names store None e z (known_with-is names words store None right e z is) refl)

    -- a folded value takes as much of the data
    pub folded-taken : (e : Expr) → words_taken (folded names checked words e) ≡ words_taken e
    folded-taken (Const z) = refl
    folded-taken (Truth b) = refl
    folded-taken Input = refl
    folded-taken (Read' name shape subs) = known-taken (Read' name shape subs) (Read (record { name = name; subs = row_folded names checked words subs })) (known_with names words (Read' name shape subs)) refl refl
    folded-taken (Apply' op shape args) =
        known-taken (Apply' op shape args) (Apply op (row_folded names checked words args)) (known_with names words (Apply' op shape args)) refl
        (words_taken_apply op (row_folded names checked words args) ∙ ap (count_if (is_truth op)) (row-inputs _ args))

  module _ (store : List ℤ) (right : AreRight words store) (are_words : All IsWord store) where
    -- what is read from the data isn't known, so that it stays as it is
    read-told : (kind : Kind) (told : Option ℤ) → known_with names words (taken_as Logical) ≡ told → literal_or checked kind told (taken_as Logical) ≡ taken_as Logical
    read-told kind None is = refl
    read-told kind (Some z) is = let no : Err NoInput ≡ Ok z = sym (value-Apply names store None IsTruthOf (Input ∷ [])) ∙ known_with-is names words store None right (taken_as Logical) z is in absurd cc

    taken_as-folded : (kind : Kind) → folded names checked words (taken_as kind) ≡ taken_as kind
    taken_as-folded Integer = refl
    taken_as-folded Logical = folded-Apply names checked words IsTruthOf (Input ∷ []) ∙ read-told Logical (known_with names words (taken_as Logical)) refl

    pub folded-assigned : (next : Option ℤ) (target : Access) (e : Expr) → IsAssignment names target e → AreAssignedAlike names store next e (folded names checked words e)
    folded-assigned next target e is = record {
      value = ⊎_elim
          (λ h. folded-value names checked words store next right are_words e h.proper)
          (λ h. ap (λ (x : Expr). value names store next (folded names checked words x)) h ∙ ap (value names store next) (taken_as-folded (kind_of names target.name)) ∙ ap (value names store next) (sym h))
          is.of_kind;
      taken = folded-taken store right e;
    }

    -- ---- accesses and lines

    folded-subs : (next : Option ℤ) (access : Access) → IsProperAccess names access → map (value names store next) (map (folded names checked words) access.subs) ≡ map (value names store next) access.subs
    folded-subs next access proper =
        let row = row_of (Read access) in
        let items : row_folded names checked words row.1 ≡ map (folded names checked words) access.subs = row_folded-items names checked words row.0 row.1 ∙ ap (map (folded names checked words)) (items_hidden-the_row-Expr-0 access.subs) in
        ap (map (value names store next)) (sym items)
        ∙ row_folded-values names checked words store next right are_words row.0 row.1 Integer proper.2
        ∙ row_values-list names store next access

    pub folded-place : (next : Option ℤ) (access : Access) → IsProperAccess names access → place names store next (folded_access names checked words access) ≡ place names store next access
    folded-place next access proper = ap (word_of names access.name) (folded-subs next access proper)

    folded-text : (item : Item) → IsProperItem names item → item_text names store (folded_item names checked words item) ≡ item_text names store item
    folded-text (Value e) proper =
        ap (λ (kind : Kind). and_then (λ z. Ok (text_of kind z)) (value names store None (folded names checked words e))) (folded-kind names checked words e)
        ∙ ap (and_then (λ z. Ok (text_of (kind_of_expression names e) z))) (folded-value names checked words store None right are_words e proper)
    folded-text (Chars text) proper = refl

    folded-texts : (items : List Item) → All (IsProperItem names) items → map (item_text names store) (map (folded_item names checked words) items) ≡ map (item_text names store) items
    folded-texts [] all = refl
    folded-texts (item ∷ items) all =
        ap (λ text. text ∷ map (item_text names store) (map (folded_item names checked words) items)) (folded-text item (All-first (IsProperItem names) item items all))
        ∙ ap (λ texts. item_text names store item ∷ texts) (folded-texts items (All-rest (IsProperItem names) item items all))

    pub folded-line : (items : List Item) → All (IsProperItem names) items → line_of names store (map (folded_item names checked words) items) ≡ line_of names store items
    folded-line items all = ap line_of_texts (folded-texts items all)
