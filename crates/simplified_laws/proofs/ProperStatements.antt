-- What is left of a proper executable is a proper statement, where what is told of words are words.
use Rattle.std.proofs.Common.{◌≡◌, ℕ, ◌<◌, ◌⊎◌, ℤ, Bool, true, List, [], ◌∷◌, map, All, Option, Some, None, refl, sym, ap, subst, ◌∙◌, inl, inr, ⊎_elim, arith}
use Rattle.std.specs.Prelude.{slice_get}
use Rattle.std.proofs.lemmas.List.{length-map}
use Rattle.op_table.specs.declared.Op.TheVariants.{Truth as ToTruth}
use Rattle.op_table.specs.Known as known
use Rattle.op_table.specs.Words.{IsWord}
use Rattle.closed_walks.specs.Graph.{edge_count}
use Rattle.f77_tree.specs.declared.declarations.Kind.{Kind}
use Rattle.f77_tree.specs.declared.declarations.Kind.TheVariants.{Integer, Logical}
use Rattle.f77_tree.specs.declared.expressions.Access.{Access}
use Rattle.f77_tree.specs.declared.expressions.Expr.{Expr}
use Rattle.f77_tree.specs.declared.expressions.Expr.TheVariants.{Input}
use Rattle.f77_tree.specs.declared.programs.Exec.{Exec}
use Rattle.f77_tree.specs.declared.programs.ExecKind.{ExecKind}
use Rattle.f77_tree.specs.declared.programs.ExecKind.TheVariants.{Assign, Print, Pass, Test, Sign, Pick, DoStart, DoNext, End}
use Rattle.f77_tree.specs.declared.programs.Item.{Item}
use Rattle.f77_tree.specs.declared.programs.Item.TheVariants.{Value, Chars}
use Rattle.f77_tree.specs.declared.programs.NameInfo.{NameInfo}
use Rattle.f77_tree.specs.declared.programs.Program.{Program}
use Rattle.f77_tree.specs.Kinds.{taken_as, IsOfKind, IsProperAccess}
use Rattle.f77_tree.specs.KnownWith.{known_with}
use Rattle.f77_tree.specs.Value.{kind_of}
use Rattle.f77_tree.specs.WellFormed.{IsExecutable, IsProperItem}
use Rattle.f77_tree.proofs.AllLemmas.{All-cons, All-first, All-get, All-nil, All-rest}
use Rattle.f77_tree.proofs.KindLemmas.{IsProper-element, element-IsProper}
use Rattle.alias_classes.specs.Classes.{ClassTable, class_of_word}
use Rattle.cfg_build.specs.Flow.{flow}
use Rattle.cfg_build.specs.Passes.{kind_in}
use Rattle.const_prop.specs.declared.known.Known.{Known}
use Rattle.const_prop.specs.declared.known.Known.TheVariants.{Nothing, One, Any}
use Rattle.const_prop.specs.Known.{one_of}
use Rattle.const_prop.specs.Table.{Knowns}
use Rattle.flat_programs.specs.declared.statements.Flat.{Flat}
use Rattle.flat_programs.specs.declared.statements.Flat.TheVariants.{Finish}
use Rattle.flat_programs.specs.declared.statements.FlatLine.{FlatLine}
use Rattle.flat_programs.specs.FlatForm.{AreProper, IsProperFlat}
use Rattle.simplified_forms.specs.Folding.{folded, folded_access, folded_item}
use Rattle.simplified_forms.specs.Items.{kind_at, own_edge, AreItems, IsItem}
use Rattle.simplified_forms.specs.Plans.{IsFoldedAt}
use Rattle.simplified_forms.specs.Simplified.{decided, left_of, mark_of, words_at}
use Rattle.simplified_laws.proofs.FlatItems.{IsItsJump, IsItsMark, IsItsOwn, all, origin, which}
use Rattle.simplified_laws.proofs.FoldedLaws.{folded-kind}
use Rattle.simplified_forms.proofs.FoldedLists.{known_with-Apply, operator-unknown}
use Rattle.simplified_laws.proofs.ListParts.{all-at}
use Rattle.simplified_laws.proofs.ProperFolds.{folded-proper}
use Rattle.simplified_forms.proofs.StatementLemmas.{item-edge}

all-map : {X Y : Type 0} (P : X → Type 0) (Q : Y → Type 0) (f : X → Y) (xs : List X) → ((x : X) → P x → Q (f x)) → All P xs → All Q (map f xs)
all-map P Q f [] step each = All-nil Q
all-map P Q f (x ∷ xs) step each = All-cons Q (f x) (map f xs) (step x (All-first P x xs each)) (all-map P Q f xs step (All-rest P x xs each))

module _ (p : Program) (checked : Bool) (words : ℕ → Option ℤ) (are_words : (word : ℕ) (z : ℤ) → words word ≡ Some z → IsWord z) where
  abbrev names : List NameInfo
  names = p.names

  abbrev fold : Expr → Expr
  fold e = folded names checked words e

  fold-kind : (kind : Kind) (e : Expr) → IsOfKind names kind e → IsOfKind names kind (fold e)
  fold-kind kind e of = record { proper = folded-proper names words are_words checked e of.proper; of_kind = folded-kind names checked words e ∙ of.of_kind }

  fold-all : (kind : Kind) (es : List Expr) → All (IsOfKind names kind) es → All (IsOfKind names kind) (map (folded names checked words) es)
  fold-all kind es each = all-map (IsOfKind names kind) (IsOfKind names kind) (folded names checked words) es (fold-kind kind) each

  fold-access : (access : Access) → IsProperAccess names access → IsProperAccess names (folded_access names checked words access)
  fold-access access proper =
      let e = IsProper-element names access proper in
      element-IsProper names (folded_access names checked words access) (record {
        known = e.known;
        as_many = length-map access.subs (folded names checked words) ∙ e.as_many;
        subscripts = fold-all Integer access.subs e.subscripts;
      })

  -- the next datum stays
  fold-taken : (kind : Kind) → fold (taken_as kind) ≡ taken_as kind
  unfolding known.folded
  fold-taken Integer = refl
  fold-taken Logical =
      let none : known_with names words (taken_as Logical) ≡ None = known_with-Apply names words ToTruth (Input ∷ []) in
      sym (operator-unknown names checked words (taken_as Logical) ToTruth (Input ∷ []) (Input ∷ []) refl none refl)

  fold-value : (kind : Kind) (e : Expr) → IsOfKind names kind e ⊎ (e ≡ taken_as kind) → IsOfKind names kind (fold e) ⊎ (fold e ≡ taken_as kind)
  fold-value kind e (inl of) = inl (fold-kind kind e of)
  fold-value kind e (inr taken) = inr (ap (folded names checked words) taken ∙ fold-taken kind)

  fold-item : (item : Item) → IsProperItem names item → IsProperItem names (folded_item names checked words item)
  fold-item (Value e) proper = folded-proper names words are_words checked e proper
  fold-item (Chars text) proper = proper

  abbrev one : (stmt : Flat) → IsProperFlat names stmt → All (IsProperFlat names) (stmt ∷ [])
  one stmt proper = All-cons (IsProperFlat names) stmt [] proper (All-nil (IsProperFlat names))

  module _ (mark : ℕ → ℕ) where
    pub left-proper : (kind : ExecKind) (d : Option ℕ) → IsExecutable names kind → All (IsProperFlat names) (left_of p checked words mark kind d)
    left-proper (Assign target value next) d is = one _ (record { access = fold-access target is.access; of_kind = fold-value (kind_of names target.name) value is.of_kind })
    left-proper (Print items next) d is = one _ (all-map (IsProperItem names) (IsProperItem names) (folded_item names checked words) items fold-item is)
    left-proper (Pass next) d is = All-nil (IsProperFlat names)
    left-proper (Test cond a b) None is = one _ (fold-kind Logical cond is)
    left-proper (Test cond a b) (Some i) is = All-nil (IsProperFlat names)
    left-proper (Sign value a b c) None is = one _ (fold-kind Integer value is)
    left-proper (Sign value a b c) (Some i) is = All-nil (IsProperFlat names)
    left-proper (Pick value targets other) None is = one _ (fold-kind Integer value is.0, let size = length-map targets mark in let some = is.1 in omega (arith, size, some))
    left-proper (Pick value targets other) (Some i) is = All-nil (IsProperFlat names)
    left-proper (DoStart loop_no var first last step body exit) d is = one _ (record { variable = is.variable; integers = fold-all Integer (first ∷ last ∷ step ∷ []) is.integers })
    left-proper (DoNext loop_no var body exit) d is = All-nil (IsProperFlat names)
    left-proper End d is = one _ tt

one-word : (k : Known) (z : ℤ) → ((v : ℤ) → k ≡ One v → IsWord v) → one_of k ≡ Some z → IsWord z
one-word Nothing z holds is = let no : None ≡ Some z = is in absurd cc
one-word Any z holds is = let no : None ≡ Some z = is in absurd cc
one-word (One v) z holds is = let same : v ≡ z = cc in holds z (ap One same)

-- the values that a table tells of words on the edges of the flow graph are words
abbrev pub TellsWords : Program → ClassTable → Knowns → Type 0
TellsWords p c t = (word e : ℕ) (v : ℤ) → e < edge_count (flow p.execs).graph → t.value (class_of_word c word) e ≡ One v → IsWord v

module _ (p : Program) (c : ClassTable) (t : Knowns) (checked : Bool) (is_item : ℕ → Bool) (items : AreItems p t is_item) (each : All (λ (exec : Exec). IsExecutable p.names exec.kind) p.execs) (tells : TellsWords p c t) where
  abbrev number : ℕ → ℕ
  number = mark_of p t is_item

  abbrev words : (k word : ℕ) → Option ℤ
  words k = words_at p c t checked is_item k

  words-told : (k : ℕ) → own_edge p k < edge_count (flow p.execs).graph → (word : ℕ) (z : ℤ) → words k word ≡ Some z → IsWord z
  words-told k edge word z is = one-word (t.value (class_of_word c word) (own_edge p k)) z (λ v told. tells word (own_edge p k) v edge told) is

  -- an item to which no edge leads has no expressions
  kept-proper : (k : ℕ) (kind : ExecKind) (d : Option ℕ) → IsExecutable p.names kind → IsFoldedAt (own_edge p k) (edge_count (flow p.execs).graph) kind → All (IsProperFlat p.names) (left_of p checked (words k) number kind d)
  kept-proper k (Assign target value next) d is edge = left-proper p checked (words k) (words-told k edge) number (Assign target value next) d is
  kept-proper k (Print items next) d is edge = left-proper p checked (words k) (words-told k edge) number (Print items next) d is
  kept-proper k (Pass next) d is edge = left-proper p checked (words k) (words-told k edge) number (Pass next) d is
  kept-proper k (Test cond a b) d is edge = left-proper p checked (words k) (words-told k edge) number (Test cond a b) d is
  kept-proper k (Sign value a b c) d is edge = left-proper p checked (words k) (words-told k edge) number (Sign value a b c) d is
  kept-proper k (Pick value targets other) d is edge = left-proper p checked (words k) (words-told k edge) number (Pick value targets other) d is
  kept-proper k (DoStart loop_no var first last step body exit) d is edge = left-proper p checked (words k) (words-told k edge) number (DoStart loop_no var first last step body exit) d is
  kept-proper k (DoNext loop_no var body exit) d is edge = All-nil (IsProperFlat p.names)
  kept-proper k End d is edge = All-cons (IsProperFlat p.names) Finish [] tt (All-nil (IsProperFlat p.names))

  own-proper : (k : ℕ) → is_item k ≡ true → All (IsProperFlat p.names) (left_of p checked (words k) number (kind_at p k) (decided p t k))
  own-proper k item =
      let i : IsItem p t k = (items k).0 item in
      let kind : i.exec.kind ≡ kind_at p k = sym (ap kind_in i.found) in
      let is = All-get (λ (exec : Exec). IsExecutable p.names exec.kind) p.execs k i.exec each i.found in
      let edge = item-edge p t k i.exec (own_edge p k) (edge_count (flow p.execs).graph) i i.found refl refl in
      subst (λ (x : ExecKind). All (IsProperFlat p.names) (left_of p checked (words k) number x (decided p t k))) kind (kept-proper k i.exec.kind (decided p t k) is edge)

  proper-at : (place : ℕ) (l : FlatLine) → slice_get (all p c t checked is_item) place ≡ Some l → IsProperFlat p.names l.stmt
  proper-at place l is =
      let o = origin p c t checked is_item place l is in
      let k = o.exec in
      ⊎_elim
      (λ (m : IsItsMark p c t checked is_item k o.index l.stmt). subst (IsProperFlat p.names) (sym m.is) tt)
      (⊎_elim
      (λ (own : IsItsOwn p c t checked is_item k o.index l.stmt). All-get (IsProperFlat p.names) (left_of p checked (words k) number (kind_at p k) (decided p t k)) own.index l.stmt (own-proper k o.item) own.is)
      (λ (jump : IsItsJump p c t checked is_item k o.index l.stmt). subst (IsProperFlat p.names) (sym jump.is) tt))
      (which p c t checked is_item k o.index l.stmt o.is)

  pub are-proper : AreProper p.names (all p c t checked is_item)
  are-proper = all-at (λ (l : FlatLine). IsProperFlat p.names l.stmt) (all p c t checked is_item) proper-at
