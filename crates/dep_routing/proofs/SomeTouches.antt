-- A piece that acts, branches or holds touches a line.
use Rattle.std.proofs.Common.{◌≡◌, ℕ, zero, suc, ◌<◌, ◌≤◌, ◌⊎◌, Bool, true, false, List, length, map, Option, Some, None, inl, inr, ⊎_elim, refl, sym, ap, subst, ◌∙◌, arith}
use Rattle.std.proofs.lemmas.Bool.{cases_Bool, false≢true}
use Rattle.std.proofs.lemmas.Int.{ints}
use Rattle.f77_tree.specs.declared.expressions.Access.{Access}
use Rattle.f77_tree.specs.declared.programs.ExecKind.{ExecKind}
use Rattle.f77_tree.specs.declared.programs.ExecKind.TheVariants.{Assign, Print, Pass as Passing, Test, Sign, Pick, DoStart, DoNext, End as Ending}
use Rattle.f77_tree.specs.declared.programs.NameInfo.{NameInfo}
use Rattle.f77_tree.specs.declared.programs.Program.{Program}
use Rattle.f77_tree.specs.CanRun.{CanRun, CanExecute}
use Rattle.f77_tree.specs.Known.{known}
use Rattle.f77_tree.specs.KnownWith.{known_word}
use Rattle.f77_tree.specs.Places.{IsWordOf}
use Rattle.f77_tree.specs.Value.{place_of}
use Rattle.f77_tree.specs.WellFormed.{IsWellFormed}
use Rattle.f77_tree.proofs.WellFormedLaws.{well_formed-size}
use Rattle.alias_classes.specs.Classes.{ClassTable, IsClasses, class_count, class_of_word, class_of_loop}
use Rattle.alias_classes.specs.Needs.{ExecNeeds, Hits, HitsAt}
use Rattle.cfg_build.specs.declared.pieces.PieceKind.TheVariants.{Act, Branch, Hold}
use Rattle.cfg_build.specs.Flow.{flow, piece_at}
use Rattle.cfg_build.specs.Passes.{kind_in}
use Rattle.cfg_build.specs.Runs.{is_act, is_branch, IsPartOf}
use Rattle.region_tree.specs.Tree.{Tree}
use Rattle.dep_routing.specs.Sound.{IsSound, KindMustTouchOut, MustTouchOut}
use Rattle.dep_routing.specs.Touches.{BranchNeeds, KindNeeds, PieceNeeds, exec_kind, piece_kind}

-- ---- a number below another that passes a test

abbrev pub One : (test : ℕ → Bool) → (n : ℕ) → Type 0
One test n = (k : ℕ) × (k < n) × (test k ≡ true)

one_or_none : (test : ℕ → Bool) (n : ℕ) → One test n ⊎ ((k : ℕ) → k < n → test k ≡ false)
one_or_none test zero = inr (λ k less. absurd (omega (arith, less)))
one_or_none test (suc n) = ⊎_elim
    (λ (one : One test n). let less = one.1 in inl (one.0, omega (arith, less), one.2))
    (λ (none : (k : ℕ) → k < n → test k ≡ false). ⊎_elim
    (λ (is : test n ≡ true). inl (n, omega arith, is))
    (λ (is_not : test n ≡ false). inr (λ k less. last none is_not k (up_to k less)))
    (cases_Bool (test n)))
    (one_or_none test n)
  where
    up_to : (k : ℕ) → k < suc n → (k < n) ⊎ (n ≡ k)
    up_to k less = grind (arith, less)

    last : ((k : ℕ) → k < n → test k ≡ false) → test n ≡ false → (k : ℕ) → (k < n) ⊎ (n ≡ k) → test k ≡ false
    last none is_not k (inl less) = none k less
    last none is_not k (inr same) = ap test (sym same) ∙ is_not

-- ---- what an act needs, and what a branch needs

first_word : (p : Program) (name : ℕ) → IsWellFormed p → name < length p.names → IsWordOf p.names name (place_of p.names name)
first_word p name well exists =
    let size = well_formed-size p well name exists in
    record { known = exists; begins = omega arith; ends = omega (arith, ints, size) }

abbrev NeedsOne : ClassTable → ExecKind → Type 0
NeedsOne c kind = (n : ℕ) × ExecNeeds c kind n

-- a class of the word of an access, or of the first word of its name where none is known
hits_one : (p : Program) (c : ClassTable) (target : Access) → IsWellFormed p → c.names ≡ p.names → target.name < length p.names → (n : ℕ) × Hits c target n
hits_one p c target well names exists = by (known_word c.names target.name (map known target.subs))
  where
    word : IsWordOf c.names target.name (place_of c.names target.name)
    word = subst (λ (xs : List NameInfo). IsWordOf xs target.name (place_of xs target.name)) (sym names) (first_word p target.name well exists)

    by : (k : Option ℕ) → (n : ℕ) × HitsAt c target.name k n
    by None = (class_of_word c (place_of c.names target.name), record { word = place_of c.names target.name; has = word; is = refl })
    by (Some w) = (class_of_word c w, refl)

-- an act prints, or needs a class
abbrev ActsOn : ClassTable → ExecKind → Type 0
ActsOn c kind = KindMustTouchOut c Act kind ⊎ NeedsOne c kind

acts_on : (p : Program) (c : ClassTable) (kind : ExecKind) → IsWellFormed p → c.names ≡ p.names → CanExecute p kind → is_act kind ≡ true → ActsOn c kind
acts_on p c (Assign target e next) well names can is = let one = hits_one p c target well names can.0.known in inr (one.0, inl (inr one.1))
acts_on p c (Print items next) well names can is = inl (inl tt)
acts_on p c (DoStart loop_no var first last step body exit) well names can is = inr (class_of_loop c loop_no, inr (inr refl))
acts_on p c (DoNext loop_no var body exit) well names can is = inr (class_of_loop c loop_no, inr refl)
acts_on p c (Passing next) well names can is = absurd (false≢true is)
acts_on p c (Test cond if_true if_false) well names can is = absurd (false≢true is)
acts_on p c (Sign e neg equal above) well names can is = absurd (false≢true is)
acts_on p c (Pick e targets other) well names can is = absurd (false≢true is)
acts_on p c Ending well names can is = absurd (false≢true is)

-- what a branch needs its executable needs
exec_needs : (c : ClassTable) (kind : ExecKind) (n : ℕ) → BranchNeeds c kind n → ExecNeeds c kind n
exec_needs c (DoStart loop_no var first last step body exit) n needs = inr (inr needs)
exec_needs c (Assign target e next) n needs = needs
exec_needs c (Print items next) n needs = needs
exec_needs c (Passing next) n needs = needs
exec_needs c (Test cond if_true if_false) n needs = needs
exec_needs c (Sign e neg equal above) n needs = needs
exec_needs c (Pick e targets other) n needs = needs
exec_needs c (DoNext loop_no var body exit) n needs = needs
exec_needs c Ending n needs = needs

-- ---- pieces

module _ (p : Program) (c : ClassTable) (touches : ℕ → ℕ → Bool) (well : IsWellFormed p) (classes : IsClasses p c) (t : Tree) (sound : IsSound p c t touches) (node : ℕ) (exists : node < (flow p.execs).graph.nodes) where
  abbrev OneLine : Type 0
  OneLine = One (touches node) (suc (class_count c))

  touches_out : MustTouchOut p c node → OneLine
  touches_out must = (0, omega arith, sound.must node exists must)

  touches_class : (n : ℕ) → 1 ≤ n → n ≤ class_count c → PieceNeeds p c node n → touches node n ≡ true
  touches_class zero some few needs = absurd (omega (arith, some))
  touches_class (suc n) some few needs = (sound.classes node n exists).1 needs

  module _ (numbered : (kind : ExecKind) (n : ℕ) → CanExecute p kind → ExecNeeds c kind n → (1 ≤ n) × (n ≤ class_count c)) (can : CanRun p) where
    -- its executable, and that it can run
    kind_is : (fits : ExecKind → Bool) (part : IsPartOf (flow p.execs) p.execs node fits) → exec_kind p node ≡ part.exec.kind
    kind_is fits part = ap kind_in part.found

    executes : (fits : ExecKind → Bool) (part : IsPartOf (flow p.execs) p.execs node fits) → CanExecute p part.exec.kind
    executes fits part = can.executes (piece_at (flow p.execs).pieces node).exec part.exec part.found

    pub act_touches : piece_kind p node ≡ Act → IsPartOf (flow p.execs) p.execs node is_act → OneLine
    act_touches is part =
        let at : part.exec.kind ≡ exec_kind p node = sym (kind_is is_act part) in
        ⊎_elim
        (λ (out : KindMustTouchOut c Act part.exec.kind).
        touches_out (subst (λ k. KindMustTouchOut c k (exec_kind p node)) (sym is) (subst (λ k. KindMustTouchOut c Act k) at out)))
        (λ (one : NeedsOne c part.exec.kind).
        let low = numbered part.exec.kind one.0 (executes is_act part) one.1 in
        let few = low.1 in
        (one.0, omega (arith, few), touches_class one.0 low.0 low.1 (subst (λ k. KindNeeds c k (exec_kind p node) one.0) (sym is) (subst (λ k. KindNeeds c Act k one.0) at one.1))))
        (acts_on p c part.exec.kind well classes.names (executes is_act part) part.fitting)

    pub branch_touches : piece_kind p node ≡ Branch → IsPartOf (flow p.execs) p.execs node is_branch → OneLine
    branch_touches is part = ⊎_elim
        (λ (one : OneLine). one)
        (λ (none : (n : ℕ) → n < suc (class_count c) → touches node n ≡ false). touches_out (subst (λ k. KindMustTouchOut c k (exec_kind p node)) (sym is) (needs_none none)))
        (one_or_none (touches node) (suc (class_count c)))
      where
        needs_none : ((n : ℕ) → n < suc (class_count c) → touches node n ≡ false) → (n : ℕ) → BranchNeeds c (exec_kind p node) n → ⊥
        needs_none none n needs =
            let own : ExecNeeds c part.exec.kind n = subst (λ k. ExecNeeds c k n) (kind_is is_branch part) (exec_needs c (exec_kind p node) n needs) in
            let low = numbered part.exec.kind n (executes is_branch part) own in
            let few = low.1 in
            let touched : touches node n ≡ true = touches_class n low.0 low.1 (subst (λ k. KindNeeds c k (exec_kind p node) n) (sym is) needs) in
            false≢true (sym (none n (omega (arith, few))) ∙ touched)

  pub hold_touches : piece_kind p node ≡ Hold → OneLine
  hold_touches is = touches_out (subst (λ k. KindMustTouchOut c k (exec_kind p node)) (sym is) tt)
