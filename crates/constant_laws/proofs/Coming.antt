-- Something is known of each line wherever control may come.
use Rattle.std.proofs.Common.{◌≡◌, ◌≢◌, ◌⊎◌, ℕ, ◌<◌, ℤ, Bool, true, false, cond, List, Option, Some, None, refl, sym, ap, subst, ◌∙◌, inl, inr, ⊎_elim, arith}
use Rattle.std.proofs.lemmas.Bool.{cases_Bool}
use Rattle.closed_walks.specs.Graph.{edge_count, from, to}
use Rattle.closed_walks.specs.Region.{IsPassed}
use Rattle.f77_tree.specs.declared.programs.ExecKind.{ExecKind}
use Rattle.f77_tree.specs.declared.programs.ExecKind.TheVariants as exec
use Rattle.f77_tree.specs.declared.programs.NameInfo.{NameInfo}
use Rattle.f77_tree.specs.declared.programs.Program.{Program}
use Rattle.f77_tree.specs.KnownWith.{known_with}
use Rattle.alias_classes.specs.Classes.{ClassTable, IsClasses, class_of_word}
use Rattle.cfg_build.specs.declared.pieces.PieceKind.{PieceKind}
use Rattle.cfg_build.specs.declared.pieces.PieceKind.TheVariants.{Start, Act, Pass, Branch, Join, Hold, End}
use Rattle.cfg_build.specs.Joined.{FlowGraph}
use Rattle.cfg_build.specs.Passes.{out}
use Rattle.cfg_build.specs.Shape.{kind_at, takes_one, leaves_one}
use Rattle.region_tree.specs.Tree.{Tree}
use Rattle.dep_routing.specs.Place.{Place}
use Rattle.dep_routing.specs.Quiet.{IsFree}
use Rattle.dep_routing.specs.Routing.{Routing, next_at}
use Rattle.const_prop.specs.declared.known.Known.{Known}
use Rattle.const_prop.specs.declared.known.Known.TheVariants.{Nothing, One, Any}
use Rattle.const_prop.specs.Closed.{IsClosed, IsReady, IsWay, written, written_after, decided, decided_after, selected, is_action, is_switch, is_merge, is_one_word, kind_after, exec_after, words_on, led_to}
use Rattle.constant_laws.specs.Facts.{PlaceFacts}
use Rattle.const_prop.specs.Known.{AtMost, IsSomething, as_known, as_index}
use Rattle.const_prop.specs.Setting.{IsProgram}
use Rattle.const_prop.specs.Table.{Knowns}
use Rattle.const_prop.proofs.Counting.{one_word-words}
use Rattle.const_prop.proofs.Order.{something-more}
use Rattle.constant_laws.proofs.Ways.{start_edge, start_kind, on_one_way}

-- ---- what is written and decided is something

as_known-something : (o : Option ℤ) → IsSomething (as_known o)
as_known-something None = tt
as_known-something (Some z) = tt

as_index-something : (g : ℤ → ℕ) (o : Option ℤ) → IsSomething (as_index g o)
as_index-something g None = tt
as_index-something g (Some z) = tt

if_something : (b : Bool) (k : Known) → IsSomething k → IsSomething (cond b k Any)
if_something true k s = s
if_something false k s = tt

pub written-something : (names : List NameInfo) (c : ClassTable) (words : ℕ → Option ℤ) (x : ExecKind) (line : ℕ) → IsSomething (written names c words x line)
written-something names c words (exec.Assign target e next) line = if_something _ (as_known (known_with names words e)) (as_known-something (known_with names words e))
written-something names c words (exec.DoStart loop_no var first last step body exit) line = if_something (is_one_word c line) (as_known (known_with names words first)) (as_known-something (known_with names words first))
written-something names c words (exec.DoNext loop_no var body exit) line = tt
written-something names c words (exec.Print items next) line = tt
written-something names c words (exec.Pass next) line = tt
written-something names c words (exec.Test e a b) line = tt
written-something names c words (exec.Sign e a b d) line = tt
written-something names c words (exec.Pick e targets other) line = tt
written-something names c words exec.End line = tt

selected-something : (names : List NameInfo) (words : ℕ → Option ℤ) (x : ExecKind) → IsSomething (selected names words x)
selected-something names words (exec.Test e a b) = as_index-something _ (known_with names words e)
selected-something names words (exec.Sign e a b d) = as_index-something _ (known_with names words e)
selected-something names words (exec.Pick e targets other) = as_index-something _ (known_with names words e)
selected-something names words (exec.Assign target e next) = tt
selected-something names words (exec.DoStart loop_no var first last step body exit) = tt
selected-something names words (exec.DoNext loop_no var body exit) = tt
selected-something names words (exec.Print items next) = tt
selected-something names words (exec.Pass next) = tt
selected-something names words exec.End = tt

pub decided-something : (names : List NameInfo) (words : ℕ → Option ℤ) (kind : PieceKind) (x : ExecKind) → IsSomething (decided names words kind x)
decided-something names words Hold x = tt
decided-something names words Start x = selected-something names words x
decided-something names words Act x = selected-something names words x
decided-something names words Pass x = selected-something names words x
decided-something names words Branch x = selected-something names words x
decided-something names words Join x = selected-something names words x
decided-something names words End x = selected-something names words x

-- what is something at most is something
if_nothing : (k : Known) → (k ≡ Nothing → ⊥) → IsSomething k
if_nothing Nothing not_it = not_it refl
if_nothing (One v) not_it = tt
if_nothing Any not_it = tt

-- ---- lines

module _ (p : Program) (f : FlowGraph) (c : ClassTable) (touches : ℕ → ℕ → Bool) (r : Routing) (tree : Tree) (program : IsProgram p f) (classes : IsClasses p c) (facts : PlaceFacts f.graph tree touches r)
    (actions : (node line : ℕ) → node < f.graph.nodes → touches node line ≡ true → is_action (kind_at f node) ≡ true) where
  -- a free piece that doesn't touch the line sends it on
  pub free_kind : (line e d : ℕ) → e < edge_count f.graph → d < edge_count f.graph → 0 ≢ to f.graph e → from f.graph d ≡ to f.graph e → IsFree f.graph tree touches line (to f.graph e) → touches (to f.graph e) line ≡ false → (is_switch (kind_after f e) ≡ true) ⊎ (is_merge (kind_after f e) ≡ true)
  free_kind line e d le ld later begins free untouched = by (kind_after f e) refl
    where
      node_in : to f.graph e < f.graph.nodes
      node_in = program.sound.ends e le

      one_way : IsPassed f.graph (to f.graph e) e d → ⊥
      one_way passed = let clash : true ≡ false = sym (facts.passed line (to f.graph e) e d passed later free) ∙ untouched in absurd cc

      by : (kind : PieceKind) → kind_after f e ≡ kind → (is_switch kind ≡ true) ⊎ (is_merge kind ≡ true)
      by Branch is = inl refl
      by Hold is = inl refl
      by Join is = inr refl
      by End is = inr refl
      by Start is = absurd (later (sym (start_kind p f program (to f.graph e) node_in is)))
      by Act is = absurd (one_way (on_one_way f.graph (to f.graph e) e d facts.flow node_in later
          (program.shape.one_comes (to f.graph e) node_in (ap takes_one is)) (program.shape.one_leaves (to f.graph e) node_in (ap leaves_one is)) le ld refl begins))
      by Pass is = absurd (one_way (on_one_way f.graph (to f.graph e) e d facts.flow node_in later
          (program.shape.one_comes (to f.graph e) node_in (ap takes_one is)) (program.shape.one_leaves (to f.graph e) node_in (ap leaves_one is)) le ld refl begins))

  module _ (t : Knowns) (closed : IsClosed p f c touches r t) where
    -- something is known where each line stands
    abbrev pub IsMet : ℕ → Type 0
    IsMet e = (line h : ℕ) → line < r.lines → Place f.graph tree touches line e h → IsSomething (t.value line h)

    pub met-ready : (e : ℕ) → IsMet e → e < edge_count f.graph → is_action (kind_after f e) ≡ true → IsReady f touches r.lines t e
    met-ready e met edge action = record { edge = edge; action = action; each = λ line l x. met line e l (facts.arrives line e edge (facts.touching line (to f.graph e) x)) }

    -- the opening wire
    opened : (line : ℕ) → line < r.lines → IsSomething (t.value line (next_at r line 1))
    opened line l = ⊎_elim
        (λ (one : is_one_word c line ≡ true).
        let w = one_word-words c line one in
        let there : IsSomething (t.value (class_of_word c w.word) (next_at r (class_of_word c w.word) 1)) = something-more (One _) (t.value (class_of_word c w.word) (next_at r (class_of_word c w.word) 1))
        (closed.initial w.word (let size = classes.numbering.each in let low = w.exists in omega (arith, size, low)) (ap (is_one_word c) w.is ∙ one)) tt in
        subst (λ n. IsSomething (t.value n (next_at r n 1))) w.is there)
        (λ (several : is_one_word c line ≡ false). something-more Any (t.value line (next_at r line 1)) (closed.others line l several) tt)
        (cases_Bool (is_one_word c line))

    pub met-start : (d : ℕ) → d < edge_count f.graph → from f.graph d ≡ 0 → IsMet d
    met-start d edge begins line h l at =
        let is = facts.departs line d h l edge (subst (λ n. IsFree f.graph tree touches line n) (sym begins) (facts.start line)) at in
        let one = start_edge p f program d edge begins in
        subst (λ n. IsSomething (t.value line n)) (sym (is ∙ ap (next_at r line) one)) (opened line l)

    -- a line is left by a piece that touches it
    left : (e line i : ℕ) → IsReady f touches r.lines t e → IsWay f t e i → line < r.lines → touches (to f.graph e) line ≡ true → IsSomething (t.value line (led_to f r e line i))
    left e line i ready way l x =
        let led = t.value line (led_to f r e line i) in
        if_nothing led (λ (nothing : led ≡ Nothing).
        let silent : (k : Known) → IsSomething k → AtMost k led → ⊥ = λ k some below. something-more k Nothing (subst (AtMost k) nothing below) some in
        silent (t.value line e) (ready.each line l x) (closed.reads e line i ready way l x (λ w.
        silent (written_after p f c t e line) (written-something p.names c (words_on c t e) (exec_after p f e) line) (closed.writes e line i ready way l x w))))

    free-on : (e line i d : ℕ) → IsMet e → IsWay f t e i → 0 ≢ to f.graph e → d < edge_count f.graph → d ≡ out f.graph (to f.graph e) i → from f.graph d ≡ to f.graph e → line < r.lines → IsFree f.graph tree touches line (to f.graph e) → IsSomething (t.value line (led_to f r e line i))
    free-on e line i d met way later ld is begins l free = ⊎_elim
        (λ (x : touches (to f.graph e) line ≡ true). left e line i (met-ready e met way.edge (actions (to f.graph e) line (program.sound.ends e way.edge) x)) way l x)
        (λ (x : touches (to f.graph e) line ≡ false).
        let here : IsSomething (t.value line e) = met line e l (facts.arrives line e way.edge free) in
        let wire = facts.wire line e l way.edge free in
        let led = t.value line (led_to f r e line i) in
        ⊎_elim
        (λ (s : is_switch (kind_after f e) ≡ true). something-more (t.value line e) led (closed.switches e line i way s l x wire) here)
        (λ (s : is_merge (kind_after f e) ≡ true). something-more (t.value line e) led (closed.merges e line i way s l wire) here)
        (free_kind line e d way.edge ld later begins free x))
        (cases_Bool (touches (to f.graph e) line))

    -- control goes on from a piece
    pub met-on : (e i d : ℕ) → IsMet e → IsWay f t e i → 0 ≢ to f.graph e → d < edge_count f.graph → d ≡ out f.graph (to f.graph e) i → from f.graph d ≡ to f.graph e → IsMet d
    met-on e i d met way later ld is begins line h l at = ⊎_elim
        (λ (free : IsFree f.graph tree touches line (to f.graph e)).
        let place : h ≡ next_at r line d = facts.departs line d h l ld (subst (λ n. IsFree f.graph tree touches line n) (sym begins) free) at in
        subst (λ n. IsSomething (t.value line n)) (sym (place ∙ ap (next_at r line) is)) (free-on e line i d met way later ld is begins l free))
        (λ (held : IsFree f.graph tree touches line (to f.graph e) → ⊥). met line h l (facts.stays line e d h way.edge ld begins held at))
        (facts.cases line (to f.graph e) (program.sound.ends e way.edge))

    pub met-decided : (e : ℕ) → IsReady f touches r.lines t e → is_switch (kind_after f e) ≡ true → IsSomething (t.decision (to f.graph e))
    met-decided e ready s = something-more (decided_after p f c t e) (t.decision (to f.graph e)) (closed.decisions e ready s) (decided-something p.names (words_on c t e) (kind_after f e) (exec_after p f e))
