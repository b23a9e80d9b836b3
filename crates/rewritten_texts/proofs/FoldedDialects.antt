-- Folded expressions keep to their dialect, and so does what is left of executables.
use Rattle.std.proofs.Common.{◌≡◌, ℕ, suc, ℤ, pos, negsuc, Bool, true, false, List, [], ◌∷◌, map, All, Option, Some, None, refl}
use Rattle.std.specs.Prelude.{◌==◌, if◌then◌else◌, flat_map}
use Rattle.std.proofs.lemmas.List.Elements.{All-append}
use Rattle.f77_tree.specs.declared.declarations.Kind.{Kind}
use Rattle.f77_tree.specs.declared.declarations.Kind.TheVariants.{Integer, Logical}
use Rattle.f77_tree.specs.declared.expressions.Access.{Access}
use Rattle.f77_tree.specs.declared.expressions.Expr.{Expr, Row_of-Expr, end_of-Expr, more_of-Expr}
use Rattle.f77_tree.specs.declared.expressions.Expr.TheVariants.{Const, Truth, Input, Read, Read', Apply, Apply'}
use Rattle.f77_tree.specs.declared.programs.ExecKind.{ExecKind}
use Rattle.f77_tree.specs.declared.programs.ExecKind.TheVariants.{Assign, Print, Pass, Test, Sign, Pick, DoStart, DoNext, End}
use Rattle.f77_tree.specs.declared.programs.Item.{Item}
use Rattle.f77_tree.specs.declared.programs.Item.TheVariants.{Value, Chars}
use Rattle.f77_tree.specs.declared.programs.NameInfo.{NameInfo}
use Rattle.f77_tree.specs.declared.programs.Program.{Program}
use Rattle.f77_tree.specs.Dialects.{is_of_dialect, HasDialect, HaveDialect, ItemHasDialect, ExecHasDialect}
use Rattle.f77_tree.specs.KnownWith.{known_with}
use Rattle.f77_tree.specs.Line.{kind_of_expression}
use Rattle.f77_tree.proofs.AllLemmas.{All-nil, All-cons, All-first, All-rest}
use Rattle.f77_tree.proofs.DialectLaws.{Apply-dialect, Read-dialect}
use Rattle.flat_programs.specs.declared.statements.Flat.{Flat}
use Rattle.simplified_forms.specs.Folding.{folded, folded_item, row_folded}
use Rattle.simplified_forms.specs.Literals.{minus, difference, negative, least_literal, integer_literal, literal, literal_or}
use Rattle.simplified_forms.specs.Simplified.{left_of}
use Rattle.rewritten_texts.proofs.FlatDialects.{FlatHasDialect}

pub all-map : {X Y : Type 0} (P : X → Type 0) (Q : Y → Type 0) (f : X → Y) (xs : List X) → ((x : X) → P x → Q (f x)) → All P xs → All Q (map f xs)
all-map P Q f [] step each = All-nil Q
all-map P Q f (x ∷ xs) step each = All-cons Q (f x) (map f xs) (step x (All-first P x xs each)) (all-map P Q f xs step (All-rest P x xs each))

pub all-flat_map : {X Y : Type 0} (P : X → Type 0) (Q : Y → Type 0) (f : X → List Y) (xs : List X) → ((x : X) → P x → All Q (f x)) → All P xs → All Q (flat_map f xs)
all-flat_map P Q f [] step each = All-nil Q
all-flat_map P Q f (x ∷ xs) step each = All-append Q (f x) (flat_map f xs) (step x (All-first P x xs each)) (all-flat_map P Q f xs step (All-rest P x xs each))

pub all-one : {X : Type 0} (P : X → Type 0) (x : X) → P x → All P (x ∷ [])
all-one P x holds = All-cons P x [] holds (All-nil P)

-- ---- literals

either-dialect : (checked b : Bool) (x y : Expr) → HasDialect checked x → HasDialect checked y → HasDialect checked (if b then x else y)
either-dialect checked true x y first second = first
either-dialect checked false x y first second = second

minus-dialect : (checked : Bool) → is_of_dialect checked (minus checked) ≡ true
minus-dialect true = refl
minus-dialect false = refl

difference-dialect : (checked : Bool) → is_of_dialect checked (difference checked) ≡ true
difference-dialect true = refl
difference-dialect false = refl

module _ (checked : Bool) where
  negative-dialect : (n : ℕ) → HasDialect checked (negative checked n)
  negative-dialect n = (Apply-dialect checked (minus checked) (Const (pos n) ∷ [])).1 (minus-dialect checked, all-one (HasDialect checked) (Const (pos n)) tt)

  -- the difference of the literal of a negative number and another number
  less-dialect : (n m : ℕ) → HasDialect checked (Apply (difference checked) (negative checked n ∷ Const (pos m) ∷ []))
  less-dialect n m =
      (Apply-dialect checked (difference checked) (negative checked n ∷ Const (pos m) ∷ [])).1
      (difference-dialect checked, All-cons (HasDialect checked) (negative checked n) (Const (pos m) ∷ []) (negative-dialect n) (all-one (HasDialect checked) (Const (pos m)) tt))

  integer-dialect : (z : ℤ) → HasDialect checked (integer_literal checked z)
  integer-dialect (pos n) = tt
  integer-dialect (negsuc n) = either-dialect checked (n == 2147483647) (least_literal checked) (negative checked (suc n)) (less-dialect 2147483647 1) (negative-dialect (suc n))

  literal-dialect : (kind : Kind) (z : ℤ) → HasDialect checked (literal checked kind z)
  literal-dialect Integer z = integer-dialect z
  literal-dialect Logical z = tt

  literal_or-dialect : (kind : Kind) (told : Option ℤ) (e : Expr) → HasDialect checked e → HasDialect checked (literal_or checked kind told e)
  literal_or-dialect kind None e has = has
  literal_or-dialect kind (Some z) e has = literal-dialect kind z

-- ---- expressions and executables

module _ (names : List NameInfo) (checked : Bool) (words : ℕ → Option ℤ) where
  mutual
    pub folded-dialect : (e : Expr) → HasDialect checked e → HasDialect checked (folded names checked words e)
    folded-dialect (Const z) has = tt
    folded-dialect (Truth b) has = tt
    folded-dialect Input has = tt
    folded-dialect (Read' name shape subs) has =
        let access : Access = record { name = name; subs = row_folded names checked words subs } in
        let e = Read' name shape subs in
        literal_or-dialect checked (kind_of_expression names e) (known_with names words e) (Read access) ((Read-dialect checked access).1 (row-dialect _ subs has))
    folded-dialect (Apply' op shape args) has =
        let e = Apply' op shape args in
        let es = row_folded names checked words args in
        literal_or-dialect checked (kind_of_expression names e) (known_with names words e) (Apply op es) ((Apply-dialect checked op es).1 (has.0, row-dialect _ args has.1))

    row-dialect : (m : _) (row : Row_of-Expr m) → HaveDialect checked row → All (HasDialect checked) (row_folded names checked words row)
    row-dialect m end_of-Expr have = All-nil (HasDialect checked)
    row-dialect m (more_of-Expr e rest) have = All-cons (HasDialect checked) (folded names checked words e) (row_folded names checked words rest) (folded-dialect e have.0) (row-dialect _ rest have.1)

  folded_all-dialect : (es : List Expr) → All (HasDialect checked) es → All (HasDialect checked) (map (folded names checked words) es)
  folded_all-dialect es each = all-map (HasDialect checked) (HasDialect checked) (folded names checked words) es folded-dialect each

  folded_item-dialect : (item : Item) → ItemHasDialect checked item → ItemHasDialect checked (folded_item names checked words item)
  folded_item-dialect (Value e) has = folded-dialect e has
  folded_item-dialect (Chars text) has = tt

module _ (p : Program) (checked : Bool) (words : ℕ → Option ℤ) (mark : ℕ → ℕ) where
  abbrev Has : Flat → Type 0
  Has stmt = FlatHasDialect checked stmt

  abbrev fold : (e : Expr) → HasDialect checked e → HasDialect checked (folded p.names checked words e)
  fold e has = folded-dialect p.names checked words e has

  pub left-dialect : (kind : ExecKind) (decided : Option ℕ) → ExecHasDialect checked kind → All Has (left_of p checked words mark kind decided)
  left-dialect (Assign target value next) d has = all-one Has _ (folded_all-dialect p.names checked words target.subs has.0, fold value has.1)
  left-dialect (Print items next) d has = all-one Has _ (all-map (ItemHasDialect checked) (ItemHasDialect checked) (folded_item p.names checked words) items (folded_item-dialect p.names checked words) has)
  left-dialect (Pass next) d has = All-nil Has
  left-dialect (Test cond a b) None has = all-one Has _ (fold cond has)
  left-dialect (Test cond a b) (Some i) has = All-nil Has
  left-dialect (Sign value a b c) None has = all-one Has _ (fold value has)
  left-dialect (Sign value a b c) (Some i) has = All-nil Has
  left-dialect (Pick value targets other) None has = all-one Has _ (fold value has)
  left-dialect (Pick value targets other) (Some i) has = All-nil Has
  left-dialect (DoStart loop_no var first last step body exit) d has = all-one Has _ (fold first has.0, fold last has.1, fold step has.2)
  left-dialect (DoNext loop_no var body exit) d has = All-nil Has
  left-dialect End d has = all-one Has _ tt
