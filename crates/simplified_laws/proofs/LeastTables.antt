-- The least table of constants knows nothing of a line where it doesn't stand, tells words alone, and decides nothing at pieces where
-- control doesn't.
use Rattle.std.proofs.Common.{◌≡◌, ℕ, zero, suc, ◌+◌, ◌<◌, ◌≤◌, ◌==◌, ◌&&◌, ℤ, pos, Bool, true, false, List, [], ◌∷◌, length, map, get_or, All, Option, Some, None, Ok, refl, sym, ap, subst, ◌∙◌, inl, inr, ⊎_elim, arith}
use Rattle.std.specs.Prelude.{if◌then◌else◌, slice_get}
use Rattle.std.specs.List.{range_with_len}
use Rattle.std.specs.Option.{option_map, option_and_then, unwrap_or}
use Rattle.std.proofs.lemmas.Bool.{cases_Bool, cases_lt, eqb-true}
use Rattle.std.proofs.lemmas.List.{get_or_past}
use Rattle.std.proofs.lemmas.List.Elements.{All-map}
use Rattle.std.proofs.lemmas.List.FromFn.{get_or-map-range_with_len, length-map-range_with_len}
use Rattle.std.proofs.lemmas.Option.{get_or_from_slice_get, slice_get-get_or, slice_get_cases, slice_get_within}
use Rattle.op_table.specs.Operators.{which_of_three, picked}
use Rattle.op_table.specs.Known.{folded}
use Rattle.op_table.specs.Trips.{at_least_zero}
use Rattle.op_table.specs.declared.Op.TheVariants.{Truth as TruthOf}
use Rattle.op_table.specs.Words.{IsWord, is_true, is_word}
use Rattle.op_table.proofs.Rows.{is_word-word, word-is_word}
use Rattle.list_laws.specs.Member.{Member}
use Rattle.list_laws.proofs.Members.{Member-at, Member-filtered, Member-in_range}
use Rattle.closed_walks.specs.Graph.{Graph, edge_count, from, to}
use Rattle.closed_walks.specs.Region.{IsFlowGraph}
use Rattle.f77_tree.specs.declared.declarations.Kind.{Kind}
use Rattle.f77_tree.specs.declared.declarations.Kind.TheVariants.{Integer, Logical}
use Rattle.f77_tree.specs.declared.expressions.Access.{Access}
use Rattle.f77_tree.specs.declared.expressions.Expr.{Expr, Row_of-Expr, end_of-Expr, more_of-Expr}
use Rattle.f77_tree.specs.declared.expressions.Expr.TheVariants.{Const, Truth, Input, Read', Apply'}
use Rattle.f77_tree.specs.declared.programs.Exec.{Exec}
use Rattle.f77_tree.specs.declared.programs.ExecKind.{ExecKind}
use Rattle.f77_tree.specs.declared.programs.ExecKind.TheVariants as exec
use Rattle.f77_tree.specs.declared.programs.NameInfo.{NameInfo}
use Rattle.f77_tree.specs.declared.programs.Program.{Program}
use Rattle.f77_tree.specs.Kinds.{IsAssignment, IsOfKind, IsProper, taken_as}
use Rattle.f77_tree.specs.Known.{row_known}
use Rattle.f77_tree.specs.KnownWith.{known_word, known_with, row_known_with, AreRight}
use Rattle.f77_tree.specs.Value.{kind_of, read_as, value, word_at}
use Rattle.f77_tree.specs.WellFormed.{IsExecutable}
use Rattle.alias_classes.specs.Classes.{ClassTable, class_of_word, class_count}
use Rattle.alias_classes.specs.Needs.{ExprNeeds, SomeNeeds, HitsName, HitsAt}
use Rattle.cfg_build.specs.declared.pieces.PieceKind.{PieceKind}
use Rattle.cfg_build.specs.declared.pieces.PieceKind.TheVariants.{Start, Act, Pass, Branch, Join, Hold, End}
use Rattle.cfg_build.specs.Flow.{flow, piece_at}
use Rattle.cfg_build.specs.Joined.{FlowGraph, finish}
use Rattle.cfg_build.specs.Passes.{PassState, kind_in, outs, out}
use Rattle.cfg_build.specs.Shape.{IsShaped}
use Rattle.region_tree.specs.Tree.{Tree}
use Rattle.dep_routing.specs.Next.{Next}
use Rattle.dep_routing.specs.Place.{Place}
use Rattle.dep_routing.specs.Quiet.{IsFree, IsWire}
use Rattle.dep_routing.specs.Routing.{Routing, next_at, wire_at}
use Rattle.dep_routing.specs.Touches.{KindNeeds, piece_kind}
use Rattle.const_prop.specs.declared.known.Known.{Known}
use Rattle.const_prop.specs.declared.known.Known.TheVariants.{Nothing, One, Any}
use Rattle.const_prop.specs.Closed.{IsClosed, IsConstants, IsReady, IsWay, KindAllows, WritesAfter, KindWrites, decided, decided_after, exec_after, is_one_word, is_sure, is_switch, kind_after, led_to, words_on, written, written_after}
use Rattle.const_prop.specs.Known.{AtMost, IsNotOne, IsSomething, as_index, as_known, one_of}
use Rattle.const_prop.specs.Right.{AreRouted, IsRightAt}
use Rattle.const_prop.specs.Table.{Knowns}
use Rattle.simplified_forms.proofs.FoldedLists.{known_with-Apply}

-- ---- what is known, over words of which as much is known where they are needed

module _ (names : List NameInfo) (c : ClassTable) (same : c.names ≡ names) (few many : ℕ → Option ℤ) where
  -- as much is known of each word of these classes
  abbrev pub AreAlike : (ℕ → Type 0) → Type 0
  AreAlike needs = (word : ℕ) → needs (class_of_word c word) → few word ≡ many word

  read-alike : (name : ℕ) (known : List (Option ℤ)) (o : Option ℕ) → known_word names name known ≡ o → AreAlike (HitsName c name known) → option_and_then few o ≡ option_and_then many o
  read-alike name known None is alike = refl
  read-alike name known (Some word) is alike =
      alike word (subst (λ (o : Option ℕ). HitsAt c name o (class_of_word c word)) (sym (ap (λ (ns : List NameInfo). known_word ns name known) same ∙ is)) refl)

  mutual
    known_with-alike : (e : Expr) → AreAlike (ExprNeeds c e) → known_with names few e ≡ known_with names many e
    known_with-alike (Const z) alike = refl
    known_with-alike (Truth b) alike = refl
    known_with-alike Input alike = refl
    known_with-alike (Read' name shape subs) alike =
        ap (option_map (read_as (kind_of names name))) (read-alike name (row_known subs) (known_word names name (row_known subs)) refl (λ word needs. alike word (inr needs)))
    known_with-alike (Apply' op shape args) alike = ap (folded op) (row-alike args alike)

    row-alike : {m : _} (row : Row_of-Expr m) → AreAlike (SomeNeeds c row) → row_known_with names few row ≡ row_known_with names many row
    row-alike end_of-Expr alike = refl
    row-alike (more_of-Expr e rest) alike =
        ap (λ k. k ∷ row_known_with names few rest) (known_with-alike e (λ word needs. alike word (inl needs)))
        ∙ ap (λ ks. known_with names many e ∷ ks) (row-alike rest (λ word needs. alike word (inr needs)))

  decided-alike : (kind : PieceKind) (x : ExecKind) → is_switch kind ≡ true → AreAlike (KindNeeds c kind x) → decided names few kind x ≡ decided names many kind x
  decided-alike Branch (exec.Test e a b) s alike = ap (as_index (λ z. if is_true z then 0 else 1)) (known_with-alike e alike)
  decided-alike Branch (exec.Sign e a b d) s alike = ap (as_index (λ z. at_least_zero (which_of_three z))) (known_with-alike e alike)
  decided-alike Branch (exec.Pick e targets other) s alike = ap (as_index (λ z. at_least_zero (picked z (pos (length targets))))) (known_with-alike e alike)
  decided-alike Branch (exec.Assign target e next) s alike = refl
  decided-alike Branch (exec.Print items next) s alike = refl
  decided-alike Branch (exec.Pass next) s alike = refl
  decided-alike Branch (exec.DoStart loop_no var first last step body exit) s alike = refl
  decided-alike Branch (exec.DoNext loop_no var body exit) s alike = refl
  decided-alike Branch exec.End s alike = refl
  decided-alike Hold x s alike = refl
  decided-alike Start x s alike = let no : false ≡ true = s in absurd cc
  decided-alike Act x s alike = let no : false ≡ true = s in absurd cc
  decided-alike Pass x s alike = let no : false ≡ true = s in absurd cc
  decided-alike Join x s alike = let no : false ≡ true = s in absurd cc
  decided-alike End x s alike = let no : false ≡ true = s in absurd cc

  written-alike : (kind : PieceKind) (x : ExecKind) (line : ℕ) → KindWrites c kind x line → AreAlike (KindNeeds c kind x) → written names c few x line ≡ written names c many x line
  written-alike Act (exec.Assign target e next) line w alike =
      ap (λ k. if is_sure names target && is_one_word c line then as_known k else Any) (known_with-alike e (λ word needs. alike word (inr needs)))
  written-alike Act (exec.DoStart loop_no var first last step body exit) line w alike =
      ap (λ k. if is_one_word c line then as_known k else Any) (known_with-alike first (λ word needs. alike word (inl (inl needs))))
  written-alike Act (exec.Print items next) line w alike = refl
  written-alike Act (exec.Pass next) line w alike = refl
  written-alike Act (exec.Test e a b) line w alike = refl
  written-alike Act (exec.Sign e a b d) line w alike = refl
  written-alike Act (exec.Pick e targets other) line w alike = refl
  written-alike Act (exec.DoNext loop_no var body exit) line w alike = refl
  written-alike Act exec.End line w alike = refl
  written-alike Start x line w alike = absurd w
  written-alike Pass x line w alike = absurd w
  written-alike Branch x line w alike = absurd w
  written-alike Join x line w alike = absurd w
  written-alike Hold x line w alike = absurd w
  written-alike End x line w alike = absurd w

-- ---- what is known

at_most-nothing : (k : Known) → AtMost k Nothing → k ≡ Nothing
at_most-nothing Nothing below = refl
at_most-nothing (One v) below = absurd below
at_most-nothing Any below = absurd below

-- no more than a word is told
abbrev IsWordy : Known → Type 0
IsWordy (One v) = IsWord v
IsWordy _ = Unit {0}

abbrev fits : Known → Bool
fits (One v) = is_word v
fits _ = true

abbrev masked_by : Bool → Known → Known
masked_by b k = if b && fits k then k else Nothing

not_one-masked : (b : Bool) (k : Known) → IsNotOne k → IsNotOne (if b then k else Nothing)
not_one-masked true k none = none
not_one-masked false k none = tt

none-masked : (b : Bool) (k : Known) → IsNotOne k → one_of (if b then k else Nothing) ≡ one_of k
none-masked true k none = refl
none-masked false Nothing none = refl
none-masked false (One v) none = absurd none
none-masked false Any none = refl

some-masked : (b : Bool) (k : Known) → IsSomething (if b then k else Nothing) → (if b then k else Nothing) ≡ k
some-masked true k some = refl
some-masked false k some = absurd some

below-masked : (b : Bool) (k j : Known) → AtMost k j → AtMost (if b then k else Nothing) j
below-masked true k j below = below
below-masked false k j below = tt

masked-wordy : (b : Bool) (k : Known) → IsWordy (masked_by b k)
masked-wordy false k = tt
masked-wordy true Nothing = tt
masked-wordy true Any = tt
masked-wordy true (One v) = by (is_word v) refl
  where
    by : (x : Bool) → is_word v ≡ x → IsWordy (if x then One v else Nothing)
    by true is = is_word-word v is
    by false is = tt

-- what is told of words alone isn't masked on a wire
above-masked : (b : Bool) (k j : Known) → b ≡ true → IsWordy k → AtMost k j → AtMost k (masked_by b j)
above-masked b Nothing j is wordy below = tt
above-masked b (One v) Nothing is wordy below = absurd below
above-masked b (One v) (One w) is wordy below =
    let test : is_word w ≡ true = word-is_word w (subst IsWord below wordy) in
    let both : (b && is_word w) ≡ true = ap (λ x. x && is_word w) is ∙ test in
    subst (λ x. AtMost (One v) (if x then One w else Nothing)) (sym both) below
above-masked b (One v) Any is wordy below = subst (λ x. AtMost (One v) (if x && true then Any else Nothing)) (sym is) tt
above-masked b Any Nothing is wordy below = absurd below
above-masked b Any (One w) is wordy below = absurd below
above-masked b Any Any is wordy below = subst (λ x. AtMost Any (if x && true then Any else Nothing)) (sym is) tt

allows-masked : (kind : PieceKind) (d : Known) (i : ℕ) → KindAllows kind (if is_switch kind then d else Nothing) i → KindAllows kind d i
allows-masked Branch d i h = h
allows-masked Hold d i h = h
allows-masked Start d i h = tt
allows-masked Act d i h = tt
allows-masked Pass d i h = tt
allows-masked Join d i h = tt
allows-masked End d i h = tt

pub told-one : (k : Known) (z : ℤ) → one_of k ≡ Some z → k ≡ One z
told-one Nothing z is = let no : None ≡ Some z = is in absurd cc
told-one (One v) z is = let same : v ≡ z = cc in ap One same
told-one Any z is = let no : None ≡ Some z = is in absurd cc

-- each out-edge is an edge that leaves the piece
outs-edge : (g : Graph) (node i : ℕ) → i < length (outs g node) → (out g node i < edge_count g) × (from g (out g node i) ≡ node)
outs-edge g node i less =
    let m : Member (outs g node) (out g node i) = Member-at (outs g node) i 0 less in
    let both = Member-filtered (λ e. from g e == node) (range_with_len 0 (edge_count g)) (out g node i) m in
    let inside = Member-in_range 0 (edge_count g) (out g node i) both.0 in
    (omega (arith, inside.1), eqb-true (from g (out g node i)) node both.1)

-- ---- known values are words

-- a store in which known words are right
module _ (n : ℕ) (words : ℕ → Option ℤ) (wordy : (word : ℕ) (z : ℤ) → words word ≡ Some z → IsWord z) (inside : (word : ℕ) (z : ℤ) → words word ≡ Some z → word < n) where
  abbrev word_in : ℕ → ℤ
  word_in word = unwrap_or (words word) (pos 0)

  abbrev store : List ℤ
  store = map word_in (range_with_len 0 n)

  in-a-word : (o : Option ℤ) → ((z : ℤ) → o ≡ Some z → IsWord z) → IsWord (unwrap_or o (pos 0))
  in-a-word None words = is_word-word (pos 0) refl
  in-a-word (Some z) words = words z refl

  are-words : All IsWord store
  are-words = All-map IsWord word_in (range_with_len 0 n) (λ k d less. in-a-word (words (get_or (range_with_len 0 n) k d)) (wordy (get_or (range_with_len 0 n) k d)))

  are-right : AreRight words store
  are-right word z is =
      let less = inside word z is in
      let size : length store ≡ n = length-map-range_with_len word_in 0 n in
      ap (λ o. unwrap_or o (pos 0)) (slice_get-get_or store word (pos 0) (omega (arith, less, size)))
      ∙ get_or-map-range_with_len word_in 0 n word word (pos 0) less (omega arith)
      ∙ ap (λ o. unwrap_or o (pos 0)) is

-- the known value of a proper expression is a word
pub record WordLaws : Type 0 where
  pub known : (names : List NameInfo) (words : ℕ → Option ℤ) (store : List ℤ) (next : Option ℤ) (e : Expr) (z : ℤ) → AreRight words store → known_with names words e ≡ Some z → value names store next e ≡ Ok z
  pub values : (names : List NameInfo) (store : List ℤ) (next : Option ℤ) (e : Expr) (z : ℤ) → All IsWord store → IsProper names e → value names store next e ≡ Ok z → IsWord z

module _ (laws : WordLaws) (names : List NameInfo) (c : ClassTable) (n : ℕ) (words : ℕ → Option ℤ) (wordy : (word : ℕ) (z : ℤ) → words word ≡ Some z → IsWord z) (inside : (word : ℕ) (z : ℤ) → words word ≡ Some z → word < n) where
  known-word : (e : Expr) → IsProper names e → (z : ℤ) → known_with names words e ≡ Some z → IsWord z
  known-word e proper z is =
      let all = are-words n words wordy inside in
      laws.values names (store n words wordy inside) None e z all proper (laws.known names words (store n words wordy inside) None e z (are-right n words wordy inside) is)

  as-wordy : (o : Option ℤ) → ((z : ℤ) → o ≡ Some z → IsWord z) → IsWordy (as_known o)
  as-wordy None words = tt
  as-wordy (Some z) words = words z refl

  if-wordy : (b : Bool) (k : Known) → IsWordy k → IsWordy (if b then k else Any)
  if-wordy true k wordy = wordy
  if-wordy false k wordy = tt

  -- nothing is known of the data
  taken-none : (kind : Kind) → known_with names words (taken_as kind) ≡ None
  unfolding folded
  taken-none Integer = refl
  taken-none Logical = known_with-Apply names words TruthOf (Input ∷ [])

  assigned-word : (target : Access) (e : Expr) → IsAssignment names target e → (z : ℤ) → known_with names words e ≡ Some z → IsWord z
  assigned-word target e assigns z is = ⊎_elim
      (λ (own : IsOfKind names (kind_of names target.name) e). known-word e own.proper z is)
      (λ (taken : e ≡ taken_as (kind_of names target.name)). let no : None ≡ Some z = sym (ap (known_with names words) taken ∙ taken-none (kind_of names target.name)) ∙ is in absurd cc)
      assigns.of_kind

  written-wordy : (x : ExecKind) (line : ℕ) → IsExecutable names x → IsWordy (written names c words x line)
  written-wordy (exec.Assign target e next) line is =
      if-wordy (is_sure names target && is_one_word c line) (as_known (known_with names words e)) (as-wordy (known_with names words e) (assigned-word target e is))
  written-wordy (exec.DoStart loop_no var first last step body exit) line is =
      if-wordy (is_one_word c line) (as_known (known_with names words first)) (as-wordy (known_with names words first) (known-word first (is.integers 0 first (omega arith)).proper))
  written-wordy (exec.Print items next) line is = tt
  written-wordy (exec.Pass next) line is = tt
  written-wordy (exec.Test e a b) line is = tt
  written-wordy (exec.Sign e a b d) line is = tt
  written-wordy (exec.Pick e targets other) line is = tt
  written-wordy (exec.DoNext loop_no var body exit) line is = tt
  written-wordy exec.End line is = tt

-- ---- where lines stand

-- what laws say of the lines of a flow graph
pub record LineFacts (g : Graph) (tree : Tree) (touches : ℕ → ℕ → Bool) : Type 0 where
  pub touching : (line node : ℕ) → touches node line ≡ true → IsFree g tree touches line node
  pub start : (line : ℕ) → IsFree g tree touches line 0
  pub exists : (line e f : ℕ) → e < edge_count g → Next g tree touches line e f → f < edge_count g
  pub wire : (line e f : ℕ) → e < edge_count g → IsFree g tree touches line (from g e) → Next g tree touches line e f → IsWire g tree touches line f
  pub arrives : (line e : ℕ) → e < edge_count g → IsFree g tree touches line (to g e) → Place g tree touches line e e

module _ (p : Program) (c : ClassTable) (touches : ℕ → ℕ → Bool) (tree : Tree) (r : Routing) (routed : AreRouted p c touches tree r) (strong : IsFlowGraph (flow p.execs).graph) (shape : IsShaped (flow p.execs) (finish p.execs)) (lines : LineFacts (flow p.execs).graph tree touches) (words : WordLaws) (initial : All IsWord p.initial) where
  abbrev f : FlowGraph
  f = flow p.execs

  abbrev g : Graph
  g = f.graph

  class-in : (word : ℕ) → class_of_word c word < r.lines
  class-in word = let most = routed.classes.numbering.most word in let is = routed.routing.count in omega (arith, most, is)

  in-count : (line : ℕ) → line < r.lines → line < class_count c + 1
  in-count line l = let is = routed.routing.count in omega (arith, l, is)

  free-wire : (line e : ℕ) → line < r.lines → e < edge_count g → IsFree g tree touches line (to g e) → wire_at r line e ≡ true
  free-wire line e l edge free = (routed.routing.wire line e (in-count line l) edge).1 free

  wire-free : (line e : ℕ) → line < r.lines → e < edge_count g → wire_at r line e ≡ true → IsFree g tree touches line (to g e)
  wire-free line e l edge is = (routed.routing.wire line e (in-count line l) edge).0 is

  -- from an edge that begins at a free node a line is led to a wire
  next-wire : (line d : ℕ) → line < r.lines → d < edge_count g → IsFree g tree touches line (from g d) → wire_at r line (next_at r line d) ≡ true
  next-wire line d l edge free =
      let next = routed.routing.next line d (in-count line l) edge in
      free-wire line (next_at r line d) l (lines.exists line d (next_at r line d) edge next) (lines.wire line d (next_at r line d) edge free next)

  led-wire : (line e i : ℕ) → line < r.lines → i < length (outs g (to g e)) → IsFree g tree touches line (to g e) → wire_at r line (led_to f r e line i) ≡ true
  led-wire line e i l less free =
      let d = outs-edge g (to g e) i less in
      next-wire line (out g (to g e) i) l d.0 (subst (λ node. IsFree g tree touches line node) (sym d.1) free)

  first-wire : (line : ℕ) → line < r.lines → wire_at r line (next_at r line 1) ≡ true
  first-wire line l = next-wire line 1 l shape.two_edges (subst (λ node. IsFree g tree touches line node) (sym ((shape.leaves_start 1 shape.two_edges).1 refl)) (lines.start line))

  -- the word of a line of words of which one is known
  told-inside : (t : Knowns) → IsClosed p f c touches r t → (e word : ℕ) (z : ℤ) → e < edge_count g → words_on c t e word ≡ Some z → word < p.words
  told-inside t closed e word z edge is = ⊎_elim
      (λ (inside : word < p.words). inside)
      (λ (past : p.words ≤ word).
      let size = routed.classes.numbering.each in
      let none : class_of_word c word ≡ 0 = get_or_past c.numbers word 0 (omega (arith, past, size)) in
      let zero-one : t.value 0 e ≡ One z = ap (λ n. t.value n e) (sym none) ∙ told-one (t.value (class_of_word c word) e) z is in
      absurd (subst IsNotOne zero-one (closed.words 0 e (subst (λ n. n < r.lines) none (class-in word)) edge refl)))
      (cases_lt word p.words)

  -- what begins as the program says is a word
  initial-word : (word : ℕ) → IsWord (word_at p.initial word)
  initial-word word =
      ⊎_elim
      (λ there. subst (λ (o : Option ℤ). IsWord (unwrap_or o (pos 0))) (sym there.2) (subst IsWord (get_or_from_slice_get p.initial word there.0 there.0 there.2) (initial word there.0 there.1)))
      (λ past. subst (λ (o : Option ℤ). IsWord (unwrap_or o (pos 0))) (sym past.1) (is_word-word (pos 0) refl))
      (slice_get_cases p.initial word).1

  executable-in : (o : Option Exec) → ((x : Exec) → o ≡ Some x → IsExecutable p.names x.kind) → IsExecutable p.names (kind_in o)
  executable-in None each = tt
  executable-in (Some x) each = each x refl

  executable-at : (k : ℕ) → IsExecutable p.names (kind_in (slice_get p.execs k))
  executable-at k = executable-in (slice_get p.execs k)
      (λ x is. subst (λ (y : Exec). IsExecutable p.names y.kind) (get_or_from_slice_get p.execs k x x is) (routed.well_formed.execs.each k x (slice_get_within p.execs k x is)))

  module _ (t : Knowns) (closed : IsClosed p f c touches r t) where
    -- the table without what it tells off the wires or isn't a word, and without what it decides where control doesn't
    abbrev masked : Knowns
    masked = record {
      value = λ line e. masked_by (wire_at r line e) (t.value line e);
      decision = λ piece. if is_switch (piece_kind p piece) then t.decision piece else Nothing;
    }

    -- what a piece that is ready touches is as it was
    ready-same : (e : ℕ) → IsReady f touches r.lines masked e → (line : ℕ) → line < r.lines → touches (to g e) line ≡ true → masked.value line e ≡ t.value line e
    ready-same e x line l touched = some-masked (wire_at r line e && fits (t.value line e)) (t.value line e) (x.each line l touched)

    -- as much is known of the words that it needs
    words-alike : (e : ℕ) → IsReady f touches r.lines masked e → AreAlike p.names c routed.classes.names (words_on c masked e) (words_on c t e) (KindNeeds c (kind_after f e) (exec_after p f e))
    words-alike e x word needs = by (class_of_word c word) refl (class-in word) needs
      where
        by : (n : ℕ) → class_of_word c word ≡ n → n < r.lines → KindNeeds c (kind_after f e) (exec_after p f e) n → words_on c masked e word ≡ words_on c t e word
        by zero is l needs =
            ap (λ n. one_of (masked.value n e)) is
            ∙ none-masked (wire_at r 0 e && fits (t.value 0 e)) (t.value 0 e) (closed.words 0 e l x.edge refl)
            ∙ ap (λ n. one_of (t.value n e)) (sym is)
        by (suc n) is l needs =
            let touched : touches (to g e) (suc n) ≡ true = routed.needs (to g e) n (strong.sound.ends e x.edge) needs in
            ap (λ n. one_of (masked.value n e)) is
            ∙ ap one_of (ready-same e x (suc n) l touched)
            ∙ ap (λ n. one_of (t.value n e)) (sym is)

    ready-full : (e : ℕ) → IsReady f touches r.lines masked e → IsReady f touches r.lines t e
    ready-full e x = record {
      edge = x.edge;
      action = x.action;
      each = λ line l touched. subst IsSomething (ready-same e x line l touched) (x.each line l touched);
    }

    way-full : (e i : ℕ) → IsWay f masked e i → IsWay f t e i
    way-full e i x = record { edge = x.edge; exists = x.exists; allowed = allows-masked (kind_after f e) (t.decision (to g e)) i x.allowed }

    masked-words : (e word : ℕ) (z : ℤ) → words_on c masked e word ≡ Some z → IsWord z
    masked-words e word z is =
        let line = class_of_word c word in
        subst IsWordy (told-one (masked.value line e) z is) (masked-wordy (wire_at r line e) (t.value line e))

    -- what comes along comes to a wire
    goes-on : (line e d : ℕ) → wire_at r line d ≡ true → AtMost (t.value line e) (t.value line d) → AtMost (masked.value line e) (masked.value line d)
    goes-on line e d wire below =
        above-masked (wire_at r line d) (masked.value line e) (t.value line d) wire (masked-wordy (wire_at r line e) (t.value line e)) (below-masked (wire_at r line e && fits (t.value line e)) (t.value line e) (t.value line d) below)

    masked-none : (line e : ℕ) → line < r.lines → e < edge_count g → is_one_word c line ≡ false → IsNotOne (masked.value line e)
    masked-none line e l edge several = not_one-masked (wire_at r line e && fits (t.value line e)) (t.value line e) (closed.words line e l edge several)

    decides-masked : (e : ℕ) → IsReady f touches r.lines masked e → is_switch (kind_after f e) ≡ true → AtMost (decided_after p f c masked e) (masked.decision (to g e))
    decides-masked e ready switch =
        let same = decided-alike p.names c routed.classes.names (words_on c masked e) (words_on c t e) (kind_after f e) (exec_after p f e) switch (words-alike e ready) in
        let told : masked.decision (to g e) ≡ t.decision (to g e) = ap (λ b. if b then t.decision (to g e) else Nothing) switch in
        subst (λ (k : Known). AtMost (decided_after p f c masked e) k) (sym told) (subst (λ (k : Known). AtMost k (t.decision (to g e))) (sym same) (closed.decisions e (ready-full e ready) switch))

    writes-masked : (e line i : ℕ) → IsReady f touches r.lines masked e → IsWay f masked e i → line < r.lines → touches (to g e) line ≡ true → WritesAfter p f c e line → AtMost (written_after p f c masked e line) (masked.value line (led_to f r e line i))
    writes-masked e line i ready way l touched writes =
        let same = written-alike p.names c routed.classes.names (words_on c masked e) (words_on c t e) (kind_after f e) (exec_after p f e) line writes (words-alike e ready) in
        let wire = led-wire line e i l way.exists (lines.touching line (to g e) touched) in
        above-masked (wire_at r line (led_to f r e line i)) (written_after p f c masked e line) (t.value line (led_to f r e line i)) wire
        (written-wordy words p.names c p.words (words_on c masked e) (masked-words e) (λ word z is. masked-inside word z is) (exec_after p f e) line (executable-at (piece_at f.pieces (to g e)).exec))
        (subst (λ (k : Known). AtMost k (t.value line (led_to f r e line i))) (sym same) (closed.writes e line i (ready-full e ready) (way-full e i way) l touched writes))
      where
        masked-inside : (word : ℕ) (z : ℤ) → words_on c masked e word ≡ Some z → word < p.words
        masked-inside word z is =
            let line = class_of_word c word in
            let one = told-one (masked.value line e) z is in
            let same = some-masked (wire_at r line e && fits (t.value line e)) (t.value line e) (subst IsSomething (sym one) tt) in
            told-inside t closed e word z ready.edge (ap one_of (sym same ∙ one))

    closed-masked : IsClosed p f c touches r masked
    closed-masked = record {
      words = masked-none;
      initial = λ word inside one.
          let line = class_of_word c word in
          above-masked (wire_at r line (next_at r line 1)) (One (word_at p.initial word)) (t.value line (next_at r line 1)) (first-wire line (class-in word)) (initial-word word) (closed.initial word inside one);
      others = λ line l several. above-masked (wire_at r line (next_at r line 1)) Any (t.value line (next_at r line 1)) (first-wire line l) tt (closed.others line l several);
      decisions = decides-masked;
      writes = writes-masked;
      reads = λ e line i ready way l touched not_written.
          goes-on line e (led_to f r e line i) (led-wire line e i l way.exists (lines.touching line (to g e) touched)) (closed.reads e line i (ready-full e ready) (way-full e i way) l touched not_written);
      switches = λ e line i way switch l untouched wire.
          goes-on line e (led_to f r e line i) (led-wire line e i l way.exists (wire-free line e l way.edge wire)) (closed.switches e line i (way-full e i way) switch l untouched wire);
      merges = λ e line i way merge l wire.
          goes-on line e (led_to f r e line i) (led-wire line e i l way.exists (wire-free line e l way.edge wire)) (closed.merges e line i (way-full e i way) merge l wire);
    }

  module _ (t : Knowns) (constants : IsConstants p f c touches r t) where
    nothing-masked : (line e : ℕ) → line < r.lines → e < edge_count g → (wire_at r line e && fits (t.value line e)) ≡ false → t.value line e ≡ Nothing
    nothing-masked line e l edge off =
        let below = (constants.least (masked t constants.closed) (closed-masked t constants.closed)).value line e l edge in
        at_most-nothing (t.value line e) (subst (λ (k : Known). AtMost (t.value line e) k) (ap (λ b. if b then t.value line e else Nothing) off) below)

    -- nothing is known off the wires of a line
    off-wires : (line e : ℕ) → line < r.lines → e < edge_count g → wire_at r line e ≡ false → t.value line e ≡ Nothing
    off-wires line e l edge off = nothing-masked line e l edge (ap (λ b. b && fits (t.value line e)) off)

    -- what is told is a word
    pub values-words : (line e : ℕ) (v : ℤ) → line < r.lines → e < edge_count g → t.value line e ≡ One v → IsWord v
    values-words line e v l edge is = ⊎_elim
        (λ (word : is_word v ≡ true). is_word-word v word)
        (λ (other : is_word v ≡ false).
        let off : (wire_at r line e && fits (t.value line e)) ≡ false = ap (λ k. wire_at r line e && fits k) is ∙ ap (λ b. wire_at r line e && b) other ∙ and-false (wire_at r line e) in
        let no : Nothing ≡ One v = sym (nothing-masked line e l edge off) ∙ is in absurd cc)
        (cases_Bool (is_word v))
      where
        and-false : (b : Bool) → (b && false) ≡ false
        and-false true = refl
        and-false false = refl

    -- nothing is decided where control doesn't decide
    pub undecided : (node : ℕ) → node < g.nodes → is_switch (piece_kind p node) ≡ false → t.decision node ≡ Nothing
    undecided node inside idle =
        let below = (constants.least (masked t constants.closed) (closed-masked t constants.closed)).decision node inside in
        at_most-nothing (t.decision node) (subst (λ (k : Known). AtMost (t.decision node) k) (ap (λ b. if b then t.decision node else Nothing) idle) below)

    -- what is known on the edge of a pass is so
    pub words-right : (x : PassState) → x.edge < edge_count g → IsRightAt p c touches tree r.lines t x → AreRight (words_on c t x.edge) x.memory.store
    words-right x edge right word z is =
        let line = class_of_word c word in
        let one = told-one (t.value line x.edge) z is in
        ⊎_elim
        (λ (wire : wire_at r line x.edge ≡ true).
        right.word word x.edge z (told-inside t constants.closed x.edge word z edge is) (class-in word) (lines.arrives line x.edge edge (wire-free line x.edge (class-in word) edge wire)) one)
        (λ (off : wire_at r line x.edge ≡ false). let no : Nothing ≡ One z = sym (off-wires line x.edge (class-in word) edge off) ∙ one in absurd cc)
        (cases_Bool (wire_at r line x.edge))
