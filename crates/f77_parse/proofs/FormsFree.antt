-- What stands free in each statement: an equals sign in assignments, in logical IFs of assignments and in DO, and of those a
-- comma in DO alone.
use Rattle.std.proofs.Common.{◌≡◌, ℕ, Bool, true, false, List, [], ◌∷◌, ◌++◌, map, flat_map, nat_le, length, All, Option, Some, None, codes, refl, ap, subst, ◌∙◌, append_assoc}
use Rattle.std.proofs.lemmas.Bool.{and_parts}
use Rattle.std.specs.List.{list_all}
use Rattle.f77_tree.specs.Name.{is_name}
use Rattle.f77_tree.specs.Grammar.{Written, Arguments, IsGrammatical, AreGrammatical, is_number, spelling, spellings}
use Rattle.f77_tree.specs.StatementGrammar.{with_commas, in_brackets, comma_if, characters_text, WrittenItem, item_text, IsItem, PrintForm, print_text, ReadForm, read_text, WrittenStop, stop_text, is_stop, IsVariable, names_text, are_names, step_text, WrittenStatement, statement_text, IsStatement, letters_text, decls_text, kind_text, part_text, group_text, data_text}
use Rattle.f77_parse.specs.Forms.{stands_free}
use Rattle.f77_parse.proofs.Followers.{Every}
use Rattle.f77_parse.proofs.PartLists.{all_every, after_commas_is}
use Rattle.f77_parse.proofs.Free.{PassesOver, pass_both, absent, is_mark, expression_passes, constant_passes, HasNoEquals, unequal_both, unequal_free}
use Rattle.f77_parse.proofs.FormsUnequal.{unequal_nothing, unequal_number, unequal_name, unequal_brackets, unequal_decls, unequal_kind, unequal_letters_list, unequal_parts, unequal_groups, unequal_data_parts}

-- ---- parts

number_passes : (c : ℕ) → is_mark c ≡ true → (digits : List ℕ) → is_number digits ≡ true → PassesOver c digits
number_passes c mark digits h = expression_passes c mark (Written.number digits) h

name_passes : (c : ℕ) → is_mark c ≡ true → (name : List ℕ) → is_name name ≡ true → PassesOver c name
name_passes c mark name h = expression_passes c mark (Written.name name) h

comma_passes : (there : Bool) → PassesOver 61 (comma_if there)
comma_passes true = record { passes = λ text. refl }
comma_passes false = record { passes = λ text. refl }

module _ {A : Type 0} (Fits : A → Type 0) (to_text : A → List ℕ) (passes : (a : A) → Fits a → PassesOver 61 (to_text a)) where
  list_passes : (xs : List A) → Every Fits xs → PassesOver 61 (with_commas (map to_text xs))
  list_passes [] h = record { passes = λ text. refl }
  list_passes (a ∷ []) h = passes a h.0
  list_passes (a ∷ b ∷ more) h =
      pass_both 61 (to_text a ++ codes ",") (with_commas (map to_text (b ∷ more)))
      (pass_both 61 (to_text a) (codes ",") (passes a h.0) (comma_passes true)) (list_passes (b ∷ more) h.1)

-- a condition between brackets is like an argument of a name
condition_passes : (c : ℕ) → is_mark c ≡ true → (word : List ℕ) → is_name word ≡ true → (w : Written) → IsGrammatical w → PassesOver c (spelling (Written.call word (Arguments.last w)))
condition_passes c mark word is w h = expression_passes c mark (Written.call word (Arguments.last w)) (is, h)

-- labels between brackets are like arguments
labels_as : List ℕ → List (List ℕ) → Arguments
labels_as label [] = Arguments.last (Written.number label)
labels_as label (next ∷ more) = Arguments.before (Written.number label) (labels_as next more)

labels_spelled : (label : List ℕ) (more : List (List ℕ)) → spellings (labels_as label more) ≡ with_commas (label ∷ more)
unfolding labels_as
labels_spelled label [] = refl
labels_spelled label (next ∷ more) = ap (λ text. label ++ codes "," ++ text) (labels_spelled next more)

labels_grammatical : (label : List ℕ) (more : List (List ℕ)) → list_all is_number (label ∷ more) ≡ true → AreGrammatical (labels_as label more)
unfolding labels_as
labels_grammatical label [] h = (and_parts (is_number label) true h).0
labels_grammatical label (next ∷ more) h =
    let both = and_parts (is_number label) (list_all is_number (next ∷ more)) h in
    (both.0, labels_grammatical next more both.1)

labels_pass : (labels : List (List ℕ)) → list_all is_number labels ≡ true → PassesOver 61 (codes "GOTO" ++ in_brackets (with_commas labels))
labels_pass [] h = record { passes = λ text. refl }
labels_pass (label ∷ more) h =
    subst (λ (inside : List ℕ). PassesOver 61 (codes "GOTO" ++ in_brackets inside)) (labels_spelled label more)
    (expression_passes 61 refl (Written.call (codes "GOTO") (labels_as label more)) (refl, labels_grammatical label more h))

item_passes : (i : WrittenItem) → IsItem i → PassesOver 61 (item_text i)
item_passes (WrittenItem.Expression w) h = expression_passes 61 refl w h
item_passes (WrittenItem.Characters characters) h = constant_passes 61 refl characters

-- ---- statements with no equals sign that stands free

module _ (p : List ℕ → Bool) (unequal : (text : List ℕ) → p text ≡ true → HasNoEquals text) where
  unequal_texts : (texts : List (List ℕ)) → list_all p texts ≡ true → HasNoEquals (with_commas texts)
  unequal_texts [] h = unequal_nothing
  unequal_texts (a ∷ []) h = unequal a (and_parts (p a) true h).0
  unequal_texts (a ∷ b ∷ more) h =
      let both = and_parts (p a) (list_all p (b ∷ more)) h in
      unequal_both (a ++ codes ",") (with_commas (b ∷ more)) (unequal_both a (codes ",") (unequal a both.0) (record { each = refl })) (unequal_texts (b ∷ more) both.1)

unequal_names : (names : Option (List (List ℕ))) → are_names names ≡ true → HasNoEquals (names_text names)
unequal_names None h = unequal_nothing
unequal_names (Some names) h = unequal_brackets (with_commas names) (unequal_texts is_name unequal_name names h)

-- a keyword, a name, and names between brackets or nothing
unequal_named : (word name : List ℕ) (names : Option (List (List ℕ))) → HasNoEquals word → is_name name ≡ true → are_names names ≡ true → stands_free 61 (word ++ name ++ names_text names) ≡ false
unequal_named word name names h is are =
    unequal_free (word ++ name ++ names_text names) (unequal_both (word ++ name) (names_text names) (unequal_both word name h (unequal_name name is)) (unequal_names names are))

stop_free : (shown : WrittenStop) → is_stop shown ≡ true → stands_free 61 (codes "STOP" ++ stop_text shown) ≡ false
stop_free WrittenStop.Nothing_shown h = refl
stop_free (WrittenStop.Digits digits) h = absent 61 digits (number_passes 61 refl digits (and_parts (is_number digits) (nat_le (length digits) 5) h).0)
stop_free (WrittenStop.Shown characters) h = absent 61 (characters_text characters) (constant_passes 61 refl characters)

items_free : (items : List WrittenItem) → All IsItem items → stands_free 61 (with_commas (map item_text items)) ≡ false
items_free items h = absent 61 (with_commas (map item_text items)) (list_passes IsItem item_text item_passes items (all_every IsItem items h))

print_free : (form : PrintForm) (items : List WrittenItem) → All IsItem items → stands_free 61 (print_text form (map item_text items)) ≡ false
print_free PrintForm.Print_star [] h = refl
print_free PrintForm.Print_star (i ∷ more) h = ap (stands_free 61) (after_commas_is (item_text i) (map item_text more)) ∙ items_free (i ∷ more) h
print_free PrintForm.Write_star items h = items_free items h
print_free PrintForm.Write_six items h = items_free items h

targets_free : (form : ReadForm) (targets : List Written) → All IsVariable targets → stands_free 61 (read_text form ++ with_commas (map spelling targets)) ≡ false
targets_free form targets h = prefix form ∙ absent 61 (with_commas (map spelling targets)) (list_passes IsVariable spelling (λ w is. expression_passes 61 refl w is.grammatical) targets (all_every IsVariable targets h))
  where
    prefix : (form : ReadForm) → stands_free 61 (read_text form ++ with_commas (map spelling targets)) ≡ stands_free 61 (with_commas (map spelling targets))
    prefix ReadForm.Read_star = refl
    prefix ReadForm.Read_unit_star = refl
    prefix ReadForm.Read_five = refl

-- an equals sign stands free
abbrev pub has_equals : WrittenStatement → Bool
has_equals (WrittenStatement.assignment target value) = true
has_equals (WrittenStatement.logical_if w s) = has_equals s
has_equals (WrittenStatement.do_loop label comma variable first last step) = true
has_equals _ = false

pub no_equals : (s : WrittenStatement) → IsStatement s → has_equals s ≡ false → stands_free 61 (statement_text s) ≡ false
no_equals (WrittenStatement.program n) h none = absent 61 n (name_passes 61 refl n h)
no_equals WrittenStatement.implicit_none h none = refl
no_equals (WrittenStatement.implicit letters) h none = unequal_free (with_commas (map letters_text letters)) (unequal_letters_list letters h.1)
no_equals (WrittenStatement.typed kind decls) h none =
    unequal_free (kind_text kind ++ decls_text decls) (unequal_both (kind_text kind) (decls_text decls) (unequal_kind kind) (unequal_decls decls h.1))
no_equals (WrittenStatement.dimension decls) h none = unequal_free (decls_text decls) (unequal_decls decls h.1)
no_equals (WrittenStatement.common parts) h none = unequal_free (flat_map part_text parts) (unequal_parts parts h.1)
no_equals (WrittenStatement.equivalence groups) h none = unequal_free (with_commas (map group_text groups)) (unequal_groups groups h.1)
no_equals (WrittenStatement.init parts) h none = unequal_free (flat_map data_text parts) (unequal_data_parts parts h.1)
no_equals (WrittenStatement.assignment target value) h none = absurd cc
no_equals (WrittenStatement.print form items) h none = print_free form items h
no_equals (WrittenStatement.read form targets) h none = targets_free form targets h.1
no_equals WrittenStatement.continue h none = refl
no_equals (WrittenStatement.stop shown) h none = stop_free shown h
no_equals (WrittenStatement.go_to label) h none = absent 61 label (number_passes 61 refl label h)
no_equals (WrittenStatement.computed_go_to labels comma w) h none =
    absent 61 (codes "GOTO" ++ in_brackets (with_commas labels) ++ comma_if comma ++ spelling w)
    (pass_both 61 (codes "GOTO" ++ in_brackets (with_commas labels) ++ comma_if comma) (spelling w)
    (pass_both 61 (codes "GOTO" ++ in_brackets (with_commas labels)) (comma_if comma) (labels_pass labels h.1) (comma_passes comma)) (expression_passes 61 refl w h.2))
no_equals (WrittenStatement.arithmetic_if w negative zero positive) h none =
    (condition_passes 61 refl (codes "IF") refl w h.0).passes (with_commas (negative ∷ zero ∷ positive ∷ []))
    ∙ unequal_free (with_commas (negative ∷ zero ∷ positive ∷ [])) (unequal_texts is_number unequal_number (negative ∷ zero ∷ positive ∷ []) h.1)
no_equals (WrittenStatement.logical_if w s) h none =
    (condition_passes 61 refl (codes "IF") refl w h.0).passes (statement_text s) ∙ no_equals s h.1 none
no_equals (WrittenStatement.block_if w) h none = (condition_passes 61 refl (codes "IF") refl w h).passes (codes "THEN")
no_equals (WrittenStatement.else_if w) h none = (condition_passes 61 refl (codes "ELSEIF") refl w h).passes (codes "THEN")
no_equals WrittenStatement.else h none = refl
no_equals WrittenStatement.end_if h none = refl
no_equals (WrittenStatement.do_loop label comma variable first last step) h none = absurd cc
no_equals (WrittenStatement.subroutine name dummies) h none = unequal_named (codes "SUBROUTINE") name dummies (record { each = refl }) h.0 h.1
no_equals (WrittenStatement.call_of name arguments) h none = unequal_named (codes "CALL") name arguments (record { each = refl }) h.0 h.1
no_equals WrittenStatement.go_back h none = refl
no_equals WrittenStatement.end h none = refl

-- ---- statements with an equals sign that stands free

pub assignment_equals : (target value : Written) → IsVariable target → stands_free 61 (statement_text (WrittenStatement.assignment target value)) ≡ true
assignment_equals target value h =
    ap (stands_free 61) (append_assoc (spelling target) (codes "=") (spelling value)) ∙ (expression_passes 61 refl target h.grammatical).passes (codes "=" ++ spelling value)

pub assignment_comma : (target value : Written) → IsVariable target → IsGrammatical value → stands_free 44 (statement_text (WrittenStatement.assignment target value)) ≡ false
assignment_comma target value h value_h =
    ap (stands_free 44) (append_assoc (spelling target) (codes "=") (spelling value)) ∙ (expression_passes 44 refl target h.grammatical).passes (codes "=" ++ spelling value)
    ∙ absent 44 (spelling value) (expression_passes 44 refl value value_h)

-- what stands free after the condition of a logical IF
pub conditional_free : (c : ℕ) → is_mark c ≡ true → (w : Written) (s : WrittenStatement) → IsGrammatical w → stands_free c (statement_text (WrittenStatement.logical_if w s)) ≡ stands_free c (statement_text s)
conditional_free c mark w s h = (condition_passes c mark (codes "IF") refl w h).passes (statement_text s)

-- the text of DO, from the right
pub do_spelling : (label : List ℕ) (comma : Bool) (variable : List ℕ) (first last : Written) (step : Option Written) → statement_text (WrittenStatement.do_loop label comma variable first last step) ≡ codes "DO" ++ (label ++ (comma_if comma ++ (variable ++ (61 ∷ (spelling first ++ (44 ∷ (spelling last ++ step_text step)))))))
do_spelling label comma variable first last step = simp append_assoc

module _ (label : List ℕ) (comma : Bool) (variable : List ℕ) (first last : Written) (step : Option Written) (label_is : is_number label ≡ true) (variable_is : is_name variable ≡ true) where
  after_last : List ℕ
  after_last = spelling last ++ step_text step

  after_comma : List ℕ
  after_comma = variable ++ (61 ∷ (spelling first ++ (44 ∷ after_last)))

  pub do_equals : stands_free 61 (statement_text (WrittenStatement.do_loop label comma variable first last step)) ≡ true
  unfolding after_last after_comma
  do_equals =
      ap (stands_free 61) (do_spelling label comma variable first last step)
      ∙ (number_passes 61 refl label label_is).passes (comma_if comma ++ after_comma)
      ∙ (comma_passes comma).passes after_comma
      ∙ (name_passes 61 refl variable variable_is).passes (61 ∷ (spelling first ++ (44 ∷ after_last)))

  pub do_comma : IsGrammatical first → stands_free 44 (statement_text (WrittenStatement.do_loop label comma variable first last step)) ≡ true
  unfolding after_last after_comma
  do_comma first_is =
      ap (stands_free 44) (do_spelling label comma variable first last step)
      ∙ (number_passes 44 refl label label_is).passes (comma_if comma ++ after_comma)
      ∙ here comma
    where
      here : (there : Bool) → stands_free 44 (comma_if there ++ after_comma) ≡ true
      here true = refl
      here false = (name_passes 44 refl variable variable_is).passes (61 ∷ (spelling first ++ (44 ∷ after_last))) ∙ (expression_passes 44 refl first first_is).passes (44 ∷ after_last)
