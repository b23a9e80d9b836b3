-- An executable that can't trap doesn't.
use Rattle.std.proofs.Common.{◌≡◌, ℕ, ◌+◌, ℤ, pos, Bool, true, false, if◌then◌else◌, List, [], ◌∷◌, ◌++◌, length, All, Any, Option, None, Result, Ok, Err, slice_get, IsErr, inl, inr, refl, sym, ap, subst, ◌∙◌}
use Rattle.std.specs.Ordering.{int_eq}
use Rattle.std.proofs.lemmas.Bool.Decides.{Decides-int_eq}
use Rattle.op_table.specs.declared.Op.TheVariants.{Step}
use Rattle.op_table.specs.declared.Trap.{Trap}
use Rattle.op_table.specs.Words.{IsWord, is_true}
use Rattle.op_table.specs.Known.{MayBe, CanTrap}
use Rattle.op_table.proofs.Laws.{applied-Step-zero}
use Rattle.f77_tree.specs.declared.declarations.Dim.{Dim}
use Rattle.f77_tree.specs.declared.expressions.Expr.{Expr}
use Rattle.f77_tree.specs.declared.programs.ExecKind.{ExecKind}
use Rattle.f77_tree.specs.declared.programs.ExecKind.TheVariants.{Assign, Print, Pass, Test, Sign, Pick, DoStart, DoNext, End}
use Rattle.f77_tree.specs.declared.programs.Item.{Item}
use Rattle.f77_tree.specs.declared.programs.Item.TheVariants.{Value, Chars}
use Rattle.f77_tree.specs.declared.programs.NameInfo.{NameInfo}
use Rattle.f77_tree.specs.Execution.{Memory, outcome, words_taken, assigned, printed, branched, do_begun, by_sign, by_number}
use Rattle.f77_tree.specs.Known.{known, IsInBounds, MayTrapBut, ItemMayTrapBut, ExecMayTrapBut}
use Rattle.f77_tree.specs.Line.{item_text, item_before, line_of, text_of, kind_of_expression}
use Rattle.f77_tree.specs.Steps.{DoesNotTrap}
use Rattle.f77_tree.specs.Value.{value, and_then, place, place_of}
use Rattle.f77_tree.proofs.AllLemmas.{Any-first, Any-rest}
use Rattle.f77_tree.proofs.Safety.{HasValue, has-value-but, names-word-but}

-- ---- results that are no traps

assigned-untrapped : (m : Memory) (next taken : ℕ) (at : Result ℕ Trap) (given : Result ℤ Trap) (word : ℕ) (z : ℤ) → at ≡ Ok word → given ≡ Ok z → DoesNotTrap (assigned m next taken at given)
assigned-untrapped m next taken (Err trap) given word z at is = let no : Err trap ≡ Ok word = at in absurd cc
assigned-untrapped m next taken (Ok k) (Err trap) word z at is = let no : Err trap ≡ Ok z = is in absurd cc
assigned-untrapped m next taken (Ok k) (Ok y) word z at is = tt

printed-untrapped : (m : Memory) (next : ℕ) (line : Result (List ℕ) Trap) (text : List ℕ) → line ≡ Ok text → DoesNotTrap (printed m next line)
printed-untrapped m next (Err trap) text is = let no : Err trap ≡ Ok text = is in absurd cc
printed-untrapped m next (Ok line) text is = tt

branched-untrapped : (m : Memory) (next_at : ℤ → ℕ) (given : Result ℤ Trap) (z : ℤ) → given ≡ Ok z → DoesNotTrap (branched m next_at given)
branched-untrapped m next_at (Err trap) z is = let no : Err trap ≡ Ok z = is in absurd cc
branched-untrapped m next_at (Ok y) z is = tt

begun-untrapped : (m : Memory) (loop_no word body exit : ℕ) (first last step : Result ℤ Trap) (a b c : ℤ) → first ≡ Ok a → last ≡ Ok b → step ≡ Ok c → int_eq c (pos 0) ≡ false → DoesNotTrap (do_begun m loop_no word body exit first last step)
begun-untrapped m loop_no word body exit first last step a b c is_a is_b is_c some = rw (is_a, is_b, is_c, some) tt

-- a step that may not be 0 is not 0
step-some : (k : Option ℤ) (c : ℤ) → MayBe k c → (CanTrap Step (k ∷ []) → ⊥) → int_eq c (pos 0) ≡ false
step-some k c may can = by (int_eq c (pos 0)) refl
  where
    by : (is_zero : Bool) → int_eq c (pos 0) ≡ is_zero → int_eq c (pos 0) ≡ false
    by false is = is
    by true is =
        let zero : c ≡ pos 0 = (Decides-int_eq c (pos 0)).0 is in
        absurd (can (record { args = pos 0 ∷ []; words = (subst (λ z. MayBe k z) zero may, tt); traps = subst (λ r. IsErr r) (sym applied-Step-zero) refl }))

-- over this store of words, each excepted subscript has a value within its bounds
module _ (excepted : Expr → Dim → Type 0) (names : List NameInfo) (input : List ℤ) (m : Memory) (words : All IsWord m.store)
    (fine : (next : Option ℤ) (sub : Expr) (dim : Dim) → excepted sub dim → IsInBounds dim (value names m.store next sub)) where
  has : (e : Expr) → (MayTrapBut excepted names e → ⊥) → HasValue (known e) (value names m.store None e)
  has e can = has-value-but excepted names m.store None words (fine None) e can

  -- a text
  record HasText (text : Result (List ℕ) Trap) : Type 0 where
    result : List ℕ
    is : text ≡ Ok result

  item-text : (item : Item) → (ItemMayTrapBut excepted names item → ⊥) → HasText (item_text names m.store item)
  item-text (Value e) can =
      let given = has e can in
      record { result = text_of (kind_of_expression names e) given.result; is = ap (and_then (λ z. Ok (text_of (kind_of_expression names e) z))) given.is }
  item-text (Chars text) can = record { result = text; is = refl }

  line-text : (items : List Item) → (Any (ItemMayTrapBut excepted names) items → ⊥) → HasText (line_of names m.store items)
  line-text [] can = record { result = 10 ∷ []; is = refl }
  line-text (item ∷ items) can =
      let here = item-text item (λ may. can (Any-first (ItemMayTrapBut excepted names) item items may)) in
      let more = line-text items (λ may. can (Any-rest (ItemMayTrapBut excepted names) item items may)) in
      record {
        result = 32 ∷ (here.result ++ more.result);
        is = ap (λ t. item_before t (line_of names m.store items)) here.is ∙ ap (item_before (Ok here.result)) more.is;
      }

  -- an executable that can't trap but in excepted subscripts doesn't
  pub outcome-untrapped : (kind : ExecKind) → (ExecMayTrapBut excepted names kind → ⊥) → DoesNotTrap (outcome names input m kind)
  outcome-untrapped (Assign target e next) can =
      let word = slice_get input m.taken in
      let at = names-word-but excepted names m.store word words (fine word) target (λ may. can (inl may)) in
      let given = has-value-but excepted names m.store word words (fine word) e (λ may. can (inr may)) in
      assigned-untrapped m next (m.taken + words_taken e) (place names m.store word target) (value names m.store word e) at.word given.result at.is given.is
  outcome-untrapped (Print items next) can = let line = line-text items can in printed-untrapped m next (line_of names m.store items) line.result line.is
  outcome-untrapped (Pass next) can = tt
  outcome-untrapped (Test cond if_true if_false) can = let given = has cond can in branched-untrapped m (λ z. if is_true z then if_true else if_false) (value names m.store None cond) given.result given.is
  outcome-untrapped (Sign e neg equal pos') can = let given = has e can in branched-untrapped m (by_sign neg equal pos') (value names m.store None e) given.result given.is
  outcome-untrapped (Pick e targets other) can = let given = has e can in branched-untrapped m (by_number targets other (pos (length targets))) (value names m.store None e) given.result given.is
  outcome-untrapped (DoStart loop_no var first last step body exit) can =
      let one = has first (λ may. can (inl may)) in
      let two = has last (λ may. can (inr (inl may))) in
      let three = has step (λ may. can (inr (inr (inl may)))) in
      begun-untrapped m loop_no (place_of names var) body exit (value names m.store None first) (value names m.store None last) (value names m.store None step) one.result two.result three.result one.is two.is three.is
      (step-some (known step) three.result three.may (λ may. can (inr (inr (inr may)))))
  outcome-untrapped (DoNext loop_no var body exit) can = tt
  outcome-untrapped End can = tt
