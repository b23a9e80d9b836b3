-- What is left of an executable itself: one statement or none, with its jumps, its range, and what it isn't.
use Rattle.std.proofs.Common.{◌≡◌, ℕ, zero, suc, ◌⊎◌, ℤ, Bool, false, [], ◌∷◌, length, map, Option, Some, None, refl, subst, inl, inr}
use Rattle.std.specs.Prelude.{slice_get}
use Rattle.f77_tree.specs.declared.programs.ExecKind.{ExecKind}
use Rattle.f77_tree.specs.declared.programs.ExecKind.TheVariants.{Assign, Print, Pass, Test, Sign, Pick, DoStart, DoNext, End}
use Rattle.f77_tree.specs.declared.programs.Program.{Program}
use Rattle.f77_tree.specs.Loops.{Loop, begun, do_next}
use Rattle.flat_programs.specs.declared.statements.Flat.{Flat}
use Rattle.flat_programs.specs.declared.statements.Flat.TheVariants.{Assignment, Output, LogicalIf, ArithmeticIf, ComputedGoTo, DoLoop, Jump, Finish}
use Rattle.flat_programs.specs.FlatForm.{jumps as jump_numbers, range_end}
use Rattle.flat_programs.specs.Marks.{is_mark}
use Rattle.simplified_forms.specs.Folding.{folded, folded_access, folded_item}
use Rattle.simplified_forms.specs.Simplified.{left_of, own_jumps}

only : (x : Flat) (i : ℕ) (stmt : Flat) → slice_get (x ∷ []) i ≡ Some stmt → (x ≡ stmt) × (i ≡ 0)
only x zero stmt is = let same : x ≡ stmt = cc in (same, refl)
only x (suc i) stmt is = let no : None ≡ Some stmt = is in absurd cc

module _ (p : Program) (checked : Bool) (words : ℕ → Option ℤ) (mark : ℕ → ℕ) where
  -- the DO of an executable that begins one
  pub record IsDoOf (kind : ExecKind) (stmt : Flat) : Type 0 where
    pub loop : Loop
    pub begins : begun kind ≡ Some loop
    pub end : range_end stmt ≡ mark (do_next p.execs loop.number) ∷ []

  pub record IsOwnOf (kind : ExecKind) (d : Option ℕ) (stmt : Flat) : Type 0 where
    pub jumps : jump_numbers stmt ≡ map mark (own_jumps kind d)
    pub ends : (range_end stmt ≡ []) ⊎ IsDoOf kind stmt
    pub finishes : stmt ≡ Finish → kind ≡ End
    pub marks : is_mark stmt ≡ false
    pub moves : (m : ℕ) → stmt ≡ Jump m → ⊥

  -- it is the only one
  pub record IsOnlyOwn (kind : ExecKind) (d : Option ℕ) (i : ℕ) (stmt : Flat) : Type 0 where
    pub first : i ≡ 0
    pub one : length (left_of p checked words mark kind d) ≡ 1
    pub own : IsOwnOf kind d stmt

  pub own-is : (kind : ExecKind) (d : Option ℕ) (i : ℕ) (stmt : Flat) → slice_get (left_of p checked words mark kind d) i ≡ Some stmt → IsOnlyOwn kind d i stmt
  own-is (Assign target value next) d i stmt is =
      let x : Flat = Assignment (folded_access p.names checked words target) (folded p.names checked words value) in
      let o = only x i stmt is in
      record { first = o.1; one = refl; own = subst (IsOwnOf (Assign target value next) d) o.0 (record { jumps = refl; ends = inl refl; finishes = λ no. absurd cc; marks = refl; moves = λ m no. cc }) }
  own-is (Print items next) d i stmt is =
      let x : Flat = Output (map (folded_item p.names checked words) items) in
      let o = only x i stmt is in
      record { first = o.1; one = refl; own = subst (IsOwnOf (Print items next) d) o.0 (record { jumps = refl; ends = inl refl; finishes = λ no. absurd cc; marks = refl; moves = λ m no. cc }) }
  own-is (Pass next) d i stmt is = let no : None ≡ Some stmt = is in absurd cc
  own-is (Test cond a b) None i stmt is =
      let x : Flat = LogicalIf (folded p.names checked words cond) (mark a) in
      let o = only x i stmt is in
      record { first = o.1; one = refl; own = subst (IsOwnOf (Test cond a b) None) o.0 (record { jumps = refl; ends = inl refl; finishes = λ no. absurd cc; marks = refl; moves = λ m no. cc }) }
  own-is (Test cond a b) (Some j) i stmt is = let no : None ≡ Some stmt = is in absurd cc
  own-is (Sign value a b c) None i stmt is =
      let x : Flat = ArithmeticIf (folded p.names checked words value) (mark a) (mark b) (mark c) in
      let o = only x i stmt is in
      record { first = o.1; one = refl; own = subst (IsOwnOf (Sign value a b c) None) o.0 (record { jumps = refl; ends = inl refl; finishes = λ no. absurd cc; marks = refl; moves = λ m no. cc }) }
  own-is (Sign value a b c) (Some j) i stmt is = let no : None ≡ Some stmt = is in absurd cc
  own-is (Pick value targets other) None i stmt is =
      let x : Flat = ComputedGoTo (folded p.names checked words value) (map mark targets) in
      let o = only x i stmt is in
      record { first = o.1; one = refl; own = subst (IsOwnOf (Pick value targets other) None) o.0 (record { jumps = refl; ends = inl refl; finishes = λ no. absurd cc; marks = refl; moves = λ m no. cc }) }
  own-is (Pick value targets other) (Some j) i stmt is = let no : None ≡ Some stmt = is in absurd cc
  own-is (DoStart loop_no var first last step body exit) d i stmt is =
      let x : Flat = DoLoop (mark (do_next p.execs loop_no)) var (folded p.names checked words first) (folded p.names checked words last) (folded p.names checked words step) in
      let o = only x i stmt is in
      let loop : Loop = record { number = loop_no; variable = var; body = body; exit = exit } in
      record {
        first = o.1;
        one = refl;
        own = subst (IsOwnOf (DoStart loop_no var first last step body exit) d) o.0 (record { jumps = refl; ends = inr (record { loop = loop; begins = refl; end = refl }); finishes = λ no. absurd cc; marks = refl; moves = λ m no. cc });
      }
  own-is (DoNext loop_no var body exit) d i stmt is = let no : None ≡ Some stmt = is in absurd cc
  own-is End d i stmt is =
      let o = only Finish i stmt is in
      record { first = o.1; one = refl; own = subst (IsOwnOf End d) o.0 (record { jumps = refl; ends = inl refl; finishes = λ yes. refl; marks = refl; moves = λ m no. cc }) }
