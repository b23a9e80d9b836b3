-- Laws of lines: the line of items is the line of their values, it ends with its line feed, and it has no more characters
-- than there is room for.
use Rattle.std.proofs.Common.{◌≡◌, ℕ, ℤ, List, [], ◌∷◌, ◌++◌, map, None, Result, Ok, Err, refl, sym, ap, ◌∙◌, append_assoc}
use Rattle.op_table.specs.declared.Trap.{Trap}
use Rattle.f77_tree.specs.declared.expressions.Expr.{Expr}
use Rattle.f77_tree.specs.declared.programs.Item.{Item}
use Rattle.f77_tree.specs.declared.programs.Item.TheVariants.{Value, Chars}
use Rattle.f77_tree.specs.declared.programs.NameInfo.{NameInfo}
use Rattle.f77_tree.specs.Value.{value, and_then, value_before, all_values}
use Rattle.f77_tree.specs.Line.{text_of, kind_of_expression, item_text, item_before, line_of_texts, line_of, IsLine, item_values, line_with}

-- ---- values

module _ (names : List NameInfo) where
  chars-first : (text : List ℕ) (items : List Item) (r : Result (List ℤ) Trap) → item_before (Ok text) (and_then (λ zs. Ok (line_with names items zs)) r) ≡ and_then (λ zs. Ok (line_with names (Chars text ∷ items) zs)) r
  chars-first text items (Err trap) = refl
  chars-first text items (Ok zs) = refl

  value-first : (e : Expr) (items : List Item) (v : Result ℤ Trap) (r : Result (List ℤ) Trap) →
      item_before (and_then (λ z. Ok (text_of (kind_of_expression names e) z)) v) (and_then (λ zs. Ok (line_with names items zs)) r) ≡ and_then (λ zs. Ok (line_with names (Value e ∷ items) zs)) (value_before v r)
  value-first e items (Err trap) r = refl
  value-first e items (Ok z) (Err trap) = refl
  value-first e items (Ok z) (Ok zs) = refl

  -- the line of items is the line of the values of their expressions, or their first trap
  pub line-values : (store : List ℤ) (items : List Item) → line_of names store items ≡ and_then (λ zs. Ok (line_with names items zs)) (all_values (item_values names store items))
  line-values store [] = refl
  line-values store (Chars text ∷ items) = ap (item_before (Ok text)) (line-values store items) ∙ chars-first text items (all_values (item_values names store items))
  line-values store (Value e ∷ items) =
      let v = value names store None e in
      ap (item_before (and_then (λ z. Ok (text_of (kind_of_expression names e) z)) v)) (line-values store items) ∙ value-first e items v (all_values (item_values names store items))

-- ---- the line feed

text-first : (text : Result (List ℕ) Trap) (rest : Result (List ℕ) Trap) (line : List ℕ) → ((more : List ℕ) → rest ≡ Ok more → IsLine more) → item_before text rest ≡ Ok line → IsLine line
text-first (Err trap) rest line more is = absurd cc
text-first (Ok text) (Err trap) line more is = absurd cc
text-first (Ok text) (Ok rest) line more is =
    let last = more rest refl in
    let e : 32 ∷ (text ++ rest) ≡ line = cc in
    record { prefix = 32 ∷ (text ++ last.prefix); is = sym e ∙ ap (λ xs. 32 ∷ (text ++ xs)) last.is ∙ ap (λ xs. 32 ∷ xs) (sym (append_assoc text last.prefix (10 ∷ []))) }

texts-line : (texts : List (Result (List ℕ) Trap)) (line : List ℕ) → line_of_texts texts ≡ Ok line → IsLine line
texts-line [] line is = let e : 10 ∷ [] ≡ line = cc in record { prefix = []; is = sym e }
texts-line (text ∷ texts) line is = text-first text (line_of_texts texts) line (texts-line texts) is

-- a line that is written ends with its line feed
pub line-feed : (names : List NameInfo) (store : List ℤ) (items : List Item) (line : List ℕ) → line_of names store items ≡ Ok line → IsLine line
line-feed names store items line is = texts-line (map (item_text names store) items) line is
