-- The executables that begin and increment each DO.
use Rattle.std.proofs.Common.{◌≡◌, ℕ, zero, suc, ◌+◌, ◌-◌, ◌<◌, ◌≤◌, Bool, true, false, ◌⊎◌, inl, inr, List, length, drop, refl, sym, ap, ◌∙◌, arith, Option, Some, None, All, rules, [], ◌∷◌}
use Rattle.std.specs.Prelude.{slice_get}
use Rattle.std.proofs.lemmas.Bool.{cases_lt, cases_Bool}
use Rattle.std.proofs.lemmas.Option.{slice_get_within}
use Rattle.f77_tree.specs.declared.programs.Exec.{Exec}
use Rattle.f77_tree.specs.declared.programs.ExecKind.{ExecKind}
use Rattle.f77_tree.specs.declared.programs.ExecKind.TheVariants.{DoStart, DoNext}
use Rattle.f77_tree.specs.declared.programs.NameInfo.{NameInfo}
use Rattle.f77_tree.specs.declared.statements.Labelled.{Labelled}
use Rattle.f77_tree.specs.declared.statements.RawExpr.{RawExpr}
use Rattle.f77_tree.specs.declared.statements.Stmt.{Stmt, more_of-Stmt}
use Rattle.f77_tree.specs.declared.statements.Stmt.TheVariants.{Do, Take, ThenIf', BlockIf, ElseIf, Else, End}
use Rattle.f77_tree.specs.Declarations.{index_of}
use Rattle.f77_tree.specs.Loops.{Loop, begun, incremented, begun_in, incremented_in, begun_at, incremented_at}
use Rattle.layout_rules.specs.Resolved.{resolved, resolved_step}
use Rattle.layout_rules.specs.Executables.{beyond, own_executables, own_kinds, increments, loops_to, first_of, executables, is_do, loop_number, exit_of, taking, exit_after, variable_of}
use Rattle.layout_rules.specs.Tables.{IsUsable, begins_arm, is_simple, has_simple_inner}
use Rattle.control_structure.proofs.ExecutableLemmas.{length-increments}
use Rattle.control_structure.proofs.Walks.{item_at}
use Rattle.control_laws.proofs.LoopPlaces.{Located, located, length-own_kinds, length-executables, usable-at, own-at, end-at}

-- ---- a statement's own

-- a simple statement has no other in it, is no DO, begins no arm, and is not END
pub simple-is : (stmt : Stmt) → is_simple stmt ≡ true → (has_simple_inner stmt ≡ true) × (is_do stmt ≡ false) × (begins_arm stmt ≡ false) × (stmt ≡ End → ⊥)
simple-is (Take targets) e = (refl, refl, refl, λ h. absurd cc)
simple-is (ThenIf' condition shape (more_of-Stmt stmt rest)) e = let h : false ≡ true = e in absurd cc
simple-is (BlockIf condition) e = let h : false ≡ true = e in absurd cc
simple-is (ElseIf condition) e = let h : false ≡ true = e in absurd cc
simple-is Else e = let h : false ≡ true = e in absurd cc
simple-is (Do label variable first last step) e = let h : false ≡ true = e in absurd cc
simple-is End e = let h : false ≡ true = e in absurd cc
simple-is _ e = (refl, refl, refl, λ h. absurd cc)

-- none of them begins or increments a DO
abbrev pub NoLoops : List ExecKind → Type 0
NoLoops [] = Unit {0}
NoLoops (kind ∷ rest) = (begun kind ≡ None) × (incremented kind ≡ None) × NoLoops rest

pub no_loops-got : (kinds : List ExecKind) (j : ℕ) (kind : ExecKind) → NoLoops kinds → slice_get kinds j ≡ Some kind → (begun kind ≡ None) × (incremented kind ≡ None)
no_loops-got [] j kind none is = let e : None ≡ Some kind = is in absurd cc
no_loops-got (x ∷ rest) zero kind none is = let same : x ≡ kind = cc in (ap begun (sym same) ∙ none.0, ap incremented (sym same) ∙ none.1)
no_loops-got (x ∷ rest) (suc j) kind none is = no_loops-got rest j kind none.2 is

-- the DO that a DO statement begins
abbrev pub loop_of : List NameInfo → List Labelled → (d label : ℕ) → (variable : List ℕ) → Loop
loop_of names whole d label variable = record { number = loop_number whole d; variable = index_of names variable; body = first_of whole d + 1; exit = exit_of whole label d }

-- the executable that increments the DO at the place d, with the DOs further out that end where it does
abbrev pub next_kind : List NameInfo → List Labelled → (place d index : ℕ) → (outer : List ℕ) → ExecKind
next_kind names whole place d index outer = DoNext (loop_number whole d) (index_of names (variable_of (slice_get whole d))) (first_of whole d + 1) (exit_after whole place index outer)

-- the DO that it increments
abbrev pub next_loop : List NameInfo → List Labelled → (place d index : ℕ) → (outer : List ℕ) → Loop
next_loop names whole place d index outer = record { number = loop_number whole d; variable = index_of names (variable_of (slice_get whole d)); body = first_of whole d + 1; exit = exit_after whole place index outer }

-- an increment among those of a statement
pub record IncrementIs (names : List NameInfo) (whole : List Labelled) (place index m : ℕ) (ds : List ℕ) (kind : ExecKind) : Type 0 where
  pub d : ℕ
  pub got : slice_get ds m ≡ Some d
  pub is : kind ≡ next_kind names whole place d index (drop (suc m) ds)

-- the DO whose DoStart the executable is
pub record StartsAt (whole : List Labelled) (k : ℕ) (loop : Loop) : Type 0 where
  pub d : ℕ
  pub s : Labelled
  pub stands : slice_get whole d ≡ Some s
  pub is_do : is_do s.stmt ≡ true
  pub at : k ≡ first_of whole d
  pub number : loop.number ≡ loop_number whole d

-- the DO whose DoNext the executable is
pub record NextAt (whole : List Labelled) (k : ℕ) (loop : Loop) : Type 0 where
  pub place : ℕ
  pub s : Labelled
  pub m : ℕ
  pub d : ℕ
  pub stands : slice_get whole place ≡ Some s
  pub got : slice_get (loops_to whole s.label) m ≡ Some d
  pub at : k ≡ first_of whole place + own_executables s.stmt + m
  pub number : loop.number ≡ loop_number whole d

module _ (names : List NameInfo) (checked : Bool) (whole : List Labelled) where
  taking-no_loops : (index next : ℕ) (targets : List RawExpr) → NoLoops (taking names checked index next targets)
  taking-no_loops index next [] = tt
  taking-no_loops index next (target ∷ []) = (refl, refl, tt)
  taking-no_loops index next (target ∷ another ∷ rest) = (refl, refl, taking-no_loops (index + 1) next (another ∷ rest))

  pub own-no_loops : (place index next : ℕ) (stmt : Stmt) → has_simple_inner stmt ≡ true → is_do stmt ≡ false → NoLoops (own_kinds names checked whole place index next stmt)
  own-no_loops place index next (Take targets) inner e = taking-no_loops index next targets
  own-no_loops place index next (ThenIf' condition shape (more_of-Stmt stmt rest)) inner e = let is = simple-is stmt inner in (refl, refl, own-no_loops place (index + 1) next stmt is.0 is.1)
  own-no_loops place index next (Do label variable first last step) inner e = let h : true ≡ false = e in absurd cc
  own-no_loops place index next stmt inner e = search rules

  -- ---- increments

  pub increments-at : (place index at m d : ℕ) (ds : List ℕ) → slice_get ds m ≡ Some d → at ≡ index + m → slice_get (increments names whole place index ds) m ≡ Some (next_kind names whole place d at (drop (suc m) ds))
  increments-at place index at m d [] got is = let e : None ≡ Some d = got in absurd cc
  increments-at place index at zero d (x ∷ ds) got is =
      let same : x ≡ d = cc in
      let here : index ≡ at = omega (arith, is) in
      ap (λ (y : ℕ). Some (next_kind names whole place y index ds)) same ∙ ap (λ (k : ℕ). Some (next_kind names whole place d k ds)) here
  increments-at place index at (suc m) d (x ∷ ds) got is = increments-at place (index + 1) at m d ds got (omega (arith, is))

  pub increments-got : (place index at m : ℕ) (kind : ExecKind) (ds : List ℕ) → at ≡ index + m → slice_get (increments names whole place index ds) m ≡ Some kind → IncrementIs names whole place at m ds kind
  increments-got place index at m kind ds is got =
      let inside : m < length ds = omega (arith, slice_get_within (increments names whole place index ds) m kind got, length-increments names checked whole place index ds) in
      let d = item_at ds m inside in
      let there = increments-at place index at m d.0 ds d.1 is in
      let same : kind ≡ next_kind names whole place d.0 at (drop (suc m) ds) = let e : Some kind ≡ Some (next_kind names whole place d.0 at (drop (suc m) ds)) = sym got ∙ there in cc in
      record { d = d.0; got = d.1; is = same }

-- an executable of a statement's own
pub record OwnAt (names : List NameInfo) (checked : Bool) (whole : List Labelled) (k : ℕ) (kind : ExecKind) : Type 0 where
  pub place : ℕ
  pub s : Labelled
  pub j : ℕ
  pub stands : slice_get whole place ≡ Some s
  pub at : k ≡ first_of whole place + j
  pub own : j < own_executables s.stmt
  pub got : slice_get (own_kinds names checked whole place (first_of whole place) (beyond whole place s) s.stmt) j ≡ Some kind

-- an increment
pub record EndAt (names : List NameInfo) (whole : List Labelled) (k : ℕ) (kind : ExecKind) : Type 0 where
  pub place : ℕ
  pub s : Labelled
  pub m : ℕ
  pub d : ℕ
  pub stands : slice_get whole place ≡ Some s
  pub got : slice_get (loops_to whole s.label) m ≡ Some d
  pub at : k ≡ first_of whole place + own_executables s.stmt + m
  pub is : kind ≡ next_kind names whole place d k (drop (suc m) (loops_to whole s.label))

pub begun-exec : (o : Option Exec) (loop : Loop) → begun_in o ≡ Some loop → (e : Exec) × (o ≡ Some e) × (begun e.kind ≡ Some loop)
begun-exec None loop is = let h : None ≡ Some loop = is in absurd cc
begun-exec (Some e) loop is = (e, refl, is)

pub incremented-exec : (o : Option Exec) (loop : Loop) → incremented_in o ≡ Some loop → (e : Exec) × (o ≡ Some e) × (incremented e.kind ≡ Some loop)
incremented-exec None loop is = let h : None ≡ Some loop = is in absurd cc
incremented-exec (Some e) loop is = (e, refl, is)

module _ (names : List NameInfo) (checked : Bool) (whole : List Labelled) (usable : All (IsUsable whole) whole) where
  abbrev execs : List Exec
  execs = executables names checked whole

  same_kind : (k line : ℕ) (e : Exec) (kind : ExecKind) → slice_get execs k ≡ Some e → slice_get execs k ≡ Some (record { line = line; kind = kind }) → e.kind ≡ kind
  same_kind k line e kind is there = let same : e ≡ record { line = line; kind = kind } = let both : Some e ≡ Some (record { line = line; kind = kind }) = sym is ∙ there in cc in ap (λ (x : Exec). x.kind) same

  comes-own : (k : ℕ) (e : Exec) (l : Located whole k) → slice_get execs k ≡ Some e → l.offset < own_executables l.s.stmt → OwnAt names checked whole k e.kind
  comes-own k e l is lt =
      let own = own_kinds names checked whole l.place (first_of whole l.place) (beyond whole l.place l.s) l.s.stmt in
      let x = item_at own l.offset (omega (arith, lt, length-own_kinds names checked whole usable l.place l.s l.stands)) in
      let there = own-at names checked whole usable l.place l.offset l.s x.0 l.stands x.1 in
      let same = same_kind k l.s.line e x.0 is (ap (slice_get execs) l.is ∙ there) in
      record { place = l.place; s = l.s; j = l.offset; stands = l.stands; at = l.is; own = lt; got = x.1 ∙ ap Some (sym same) }

  comes-end : (k : ℕ) (e : Exec) (l : Located whole k) → slice_get execs k ≡ Some e → own_executables l.s.stmt ≤ l.offset → EndAt names whole k e.kind
  comes-end k e l is ge =
      let index = first_of whole l.place + own_executables l.s.stmt in
      let m = l.offset - own_executables l.s.stmt in
      let ends = increments names whole l.place index (loops_to whole l.s.label) in
      let x = item_at ends m (omega (arith, ge, l.within, length-increments names checked whole l.place index (loops_to whole l.s.label))) in
      let at : k ≡ index + m = omega (arith, ge, l.is) in
      let one = increments-got names checked whole l.place index k m x.0 (loops_to whole l.s.label) at x.1 in
      let same = same_kind k l.s.line e x.0 is (ap (slice_get execs) at ∙ end-at names checked whole usable l.place m l.s x.0 l.stands x.1) in
      record { place = l.place; s = l.s; m = m; d = one.d; stands = l.stands; got = one.got; at = at; is = same ∙ one.is }

  -- each executable is a statement's own or an increment
  pub comes : (k : ℕ) (e : Exec) → slice_get execs k ≡ Some e → OwnAt names checked whole k e.kind ⊎ EndAt names whole k e.kind
  comes k e is =
      let l = located whole (length whole) k (omega arith) (omega (arith, slice_get_within execs k e is, length-executables names checked whole usable)) in
      elim (cases_lt l.offset (own_executables l.s.stmt)) as (λ _. OwnAt names checked whole k e.kind ⊎ EndAt names whole k e.kind) [
        | inl lt ↦ inl (comes-own k e l is lt)
        | inr ge ↦ inr (comes-end k e l is ge)
      ]

  -- ---- the DoStart

  pub start-at : (d : ℕ) (s : Labelled) (label : ℕ) (variable : List ℕ) (first last : RawExpr) (step : Option RawExpr) → slice_get whole d ≡ Some s → s.stmt ≡ Do label variable first last step → begun_at execs (first_of whole d) ≡ Some (loop_of names whole d label variable)
  start-at d s label variable first last step here is =
      let kind = DoStart (loop_number whole d) (index_of names variable) (resolved names checked first) (resolved names checked last) (resolved_step names checked step) (first_of whole d + 1) (exit_of whole label d) in
      let got : slice_get (own_kinds names checked whole d (first_of whole d) (beyond whole d s) s.stmt) 0 ≡ Some kind = ap (λ (t : Stmt). slice_get (own_kinds names checked whole d (first_of whole d) (beyond whole d s) t) 0) is in
      let at : first_of whole d ≡ first_of whole d + 0 = omega arith in
      ap begun_in (ap (slice_get execs) at ∙ own-at names checked whole usable d 0 s kind here got)

  do-own : (place index next j : ℕ) (stmt : Stmt) (kind : ExecKind) → is_do stmt ≡ true → slice_get (own_kinds names checked whole place index next stmt) j ≡ Some kind → (j ≡ 0) × ((loop : Loop) → begun kind ≡ Some loop → loop.number ≡ loop_number whole place) × (incremented kind ≡ None)
  do-own place index next zero (Do label variable first last step) kind e got =
      let same : DoStart (loop_number whole place) (index_of names variable) (resolved names checked first) (resolved names checked last) (resolved_step names checked step) (index + 1) (exit_of whole label place) ≡ kind = cc in
      let its : Loop = record { number = loop_number whole place; variable = index_of names variable; body = index + 1; exit = exit_of whole label place } in
      (refl, (λ loop is. let both : Some its ≡ Some loop = ap begun same ∙ is in let one : its ≡ loop = cc in sym (ap (λ (l : Loop). l.number) one)), sym (ap incremented same))
  do-own place index next (suc j) (Do label variable first last step) kind e got = let h : None ≡ Some kind = got in absurd cc
  do-own place index next j _ kind e got = let h : false ≡ true = e in absurd cc

  start-from : (k : ℕ) (e : Exec) (loop : Loop) → begun e.kind ≡ Some loop → OwnAt names checked whole k e.kind ⊎ EndAt names whole k e.kind → StartsAt whole k loop
  start-from k e loop is from = elim from as (λ _. StartsAt whole k loop) [
    | inl own ↦ elim (cases_Bool (is_do own.s.stmt)) as (λ _. StartsAt whole k loop) [
      | inl yes_do ↦
          let h = do-own own.place (first_of whole own.place) (beyond whole own.place own.s) own.j own.s.stmt e.kind yes_do own.got in
          record { d = own.place; s = own.s; stands = own.stands; is_do = yes_do; at = omega (arith, own.at, h.0); number = h.1 loop is }
      | inr no_do ↦
          let none = no_loops-got (own_kinds names checked whole own.place (first_of whole own.place) (beyond whole own.place own.s) own.s.stmt) own.j e.kind (own-no_loops names checked whole own.place (first_of whole own.place) (beyond whole own.place own.s) own.s.stmt (usable-at names checked whole usable own.place own.s own.stands).inner no_do) own.got in
          let h : None ≡ Some loop = sym none.0 ∙ is in absurd cc
    ]
    | inr end ↦ let h : None ≡ Some loop = sym (ap begun end.is) ∙ is in absurd cc
  ]

  pub start-only : (k : ℕ) (loop : Loop) → begun_at execs k ≡ Some loop → StartsAt whole k loop
  start-only k loop is = let at = begun-exec (slice_get execs k) loop is in start-from k at.0 loop at.2 (comes k at.0 at.1)

  -- ---- the DoNext

  pub next-at : (place m d : ℕ) (s : Labelled) → slice_get whole place ≡ Some s → slice_get (loops_to whole s.label) m ≡ Some d → incremented_at execs (first_of whole place + own_executables s.stmt + m) ≡ Some (next_loop names whole place d (first_of whole place + own_executables s.stmt + m) (drop (suc m) (loops_to whole s.label)))
  next-at place m d s here got =
      let index = first_of whole place + own_executables s.stmt in
      let ds = loops_to whole s.label in
      ap incremented_in (end-at names checked whole usable place m s (next_kind names whole place d (index + m) (drop (suc m) ds)) here (increments-at names checked whole place index (index + m) m d ds got refl))

  next-from : (k : ℕ) (e : Exec) (loop : Loop) → incremented e.kind ≡ Some loop → OwnAt names checked whole k e.kind ⊎ EndAt names whole k e.kind → NextAt whole k loop
  next-from k e loop is from = elim from as (λ _. NextAt whole k loop) [
    | inl own ↦ elim (cases_Bool (is_do own.s.stmt)) as (λ _. NextAt whole k loop) [
      | inl yes_do ↦ let h : None ≡ Some loop = sym (do-own own.place (first_of whole own.place) (beyond whole own.place own.s) own.j own.s.stmt e.kind yes_do own.got).2 ∙ is in absurd cc
      | inr no_do ↦
          let none = no_loops-got (own_kinds names checked whole own.place (first_of whole own.place) (beyond whole own.place own.s) own.s.stmt) own.j e.kind (own-no_loops names checked whole own.place (first_of whole own.place) (beyond whole own.place own.s) own.s.stmt (usable-at names checked whole usable own.place own.s own.stands).inner no_do) own.got in
          let h : None ≡ Some loop = sym none.1 ∙ is in absurd cc
    ]
    | inr end ↦
        let its = next_loop names whole end.place end.d k (drop (suc end.m) (loops_to whole end.s.label)) in
        let one : Some its ≡ Some loop = sym (ap incremented end.is) ∙ is in
        let same : its ≡ loop = cc in
        record { place = end.place; s = end.s; m = end.m; d = end.d; stands = end.stands; got = end.got; at = end.at; number = sym (ap (λ (l : Loop). l.number) same) }
  ]

  pub next-only : (k : ℕ) (loop : Loop) → incremented_at execs k ≡ Some loop → NextAt whole k loop
  next-only k loop is = let at = incremented-exec (slice_get execs k) loop is in next-from k at.0 loop at.2 (comes k at.0 at.1)
