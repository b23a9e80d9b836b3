-- Where statements are nested right, each block of IF and each arm ends at a statement.
use Rattle.std.proofs.Common.{◌≡◌, ◌≢◌, ℕ, suc, zero, ◌+◌, ◌-◌, ◌<◌, Bool, true, false, ◌||◌, ◌&&◌, ◌==◌, cond, List, [], ◌∷◌, drop, Some, None, refl, sym, ap, subst, ◌∙◌, arith, ⊎_elim}
use Rattle.std.specs.Prelude.{slice_get}
use Rattle.std.proofs.lemmas.Bool.{and_parts, cases_eq, eq-eqb}
use Rattle.f77_tree.specs.declared.statements.Labelled.{Labelled}
use Rattle.f77_tree.specs.declared.statements.Stmt.{Stmt}
use Rattle.f77_tree.specs.declared.statements.Stmt.TheVariants.{End}
use Rattle.layout_rules.specs.Labels.{is_arm}
use Rattle.layout_rules.specs.Jumps.{is_block_if, is_end_if, end_after}
use Rattle.layout_rules.specs.Nesting.{open_after, first_unnested}
use Rattle.layout_rules.specs.declared.nesting.Opened.{Opened}
use Rattle.control_laws.proofs.LoopBlocks.{got_drop}
use Rattle.layout_rules.proofs.OpenWalks.{goes_on, nothing-at-end, blocks_in, one_if, after-blocks, begins-no_end, heads-block}

-- ---- where a block or an arm ends

-- END is the last statement
abbrev pub IsEnded : List Labelled → Type 0
IsEnded [] = ⊥
IsEnded (s ∷ []) = s.stmt ≡ End
IsEnded (s ∷ next ∷ rest) = IsEnded (next ∷ rest)

-- what ends a block, or where arms are told an arm
abbrev pub is_stop : Bool → Stmt → Bool
is_stop arms stmt = is_end_if stmt || (arms && is_arm stmt)

-- the statement with which a block or an arm ends, under so many others
record EndsAt (arms : Bool) (inner : ℕ) (stmts : List Labelled) (place : ℕ) : Type 0 where
  offset : ℕ
  s : Labelled
  stands : slice_get stmts offset ≡ Some s
  ends : is_stop arms s.stmt ≡ true
  is : end_after arms inner stmts place ≡ place + offset

module _ (arms : Bool) where
  -- one statement more
  more : (s : Labelled) (rest : List Labelled) (inner n place : ℕ) → end_after arms inner (s ∷ rest) place ≡ end_after arms n rest (place + 1) → EndsAt arms n rest (place + 1) → EndsAt arms inner (s ∷ rest) place
  more s rest inner n place e at = record {
    offset = suc at.offset;
    s = at.s;
    stands = at.stands;
    ends = at.ends;
    is = e ∙ at.is ∙ omega arith;
  }

  closes-step : (s : Labelled) (rest : List Labelled) (stack beyond : List Opened) (inner place : ℕ) → open_after s stack ≡ Some beyond → inner < blocks_in stack → ((n : ℕ) → n < blocks_in beyond → EndsAt arms n rest (place + 1)) → EndsAt arms inner (s ∷ rest) place
  closes-step s rest stack beyond inner place opened below later = by (is_block_if s.stmt) (is_end_if s.stmt) ((inner == 0) && is_stop arms s.stmt) refl refl refl
    where
      on : ℕ → ℕ
      on n = end_after arms n rest (place + 1)

      step : (b e x : Bool) → is_block_if s.stmt ≡ b → is_end_if s.stmt ≡ e → ((inner == 0) && is_stop arms s.stmt) ≡ x → end_after arms inner (s ∷ rest) place ≡ cond b (on (inner + 1)) (cond x place (cond e (on (inner - 1)) (on inner)))
      step b e x is_b is_e is_x = rw (is_b, is_x, is_e) refl

      count : blocks_in beyond + one_if (is_end_if s.stmt) ≡ blocks_in stack + one_if (is_block_if s.stmt)
      count = after-blocks s stack beyond opened

      by : (b e x : Bool) → is_block_if s.stmt ≡ b → is_end_if s.stmt ≡ e → ((inner == 0) && is_stop arms s.stmt) ≡ x → EndsAt arms inner (s ∷ rest) place
      by true e x is_b is_e is_x =
          let f = ap one_if (begins-no_end s.stmt is_b) in
          let g = ap one_if is_b in
          more s rest inner (inner + 1) place (step true e x is_b is_e is_x) (later (inner + 1) (omega (arith, count, f, g)))
      by false e true is_b is_e is_x = record {
        offset = 0;
        s = s;
        stands = refl;
        ends = (and_parts (inner == 0) (is_stop arms s.stmt) is_x).1;
        is = step false e true is_b is_e is_x ∙ omega arith;
      }
      by false true false is_b is_e is_x =
          let f = ap one_if is_e in
          let g = ap one_if is_b in
          ⊎_elim
          (λ (nought : inner ≡ 0).
          let h : ((inner == 0) && is_stop arms s.stmt) ≡ true = ap (λ (v : Bool). v && is_stop arms s.stmt) (eq-eqb inner 0 nought) ∙ ap (λ (v : Bool). v || (arms && is_arm s.stmt)) is_e in
          let z : true ≡ false = sym h ∙ is_x in
          absurd cc)
          (λ (some : inner ≢ 0). more s rest inner (inner - 1) place (step false true false is_b is_e is_x) (later (inner - 1) (omega (arith, count, f, g, some))))
          (cases_eq inner 0)
      by false false false is_b is_e is_x =
          let f = ap one_if is_e in
          let g = ap one_if is_b in
          more s rest inner inner place (step false false false is_b is_e is_x) (later inner (omega (arith, count, f, g)))

  closes : (stmts : List Labelled) (stack : List Opened) → IsEnded stmts → first_unnested stack stmts ≡ None → (inner place : ℕ) → inner < blocks_in stack → EndsAt arms inner stmts place
  closes [] stack ended none inner place below = absurd ended
  closes (s ∷ []) stack ended none inner place below = let e = ap blocks_in (nothing-at-end s stack ended none) in absurd (omega (arith, below, e))
  closes (s ∷ next ∷ rest) stack ended none inner place below =
      let goes = goes_on s (next ∷ rest) stack none in
      closes-step s (next ∷ rest) stack goes.beyond inner place goes.is below (λ n lt. closes (next ∷ rest) goes.beyond ended goes.nested n (place + 1) lt)

  -- a block or an arm whose IF, ELSE IF or ELSE stands at this place ends after it
  begins : (stmts : List Labelled) (stack : List Opened) → IsEnded stmts → first_unnested stack stmts ≡ None → (i : ℕ) (s : Labelled) → slice_get stmts i ≡ Some s → (is_block_if s.stmt || is_arm s.stmt) ≡ true → (place : ℕ) → EndsAt arms 0 (drop (suc i) stmts) place
  begins [] stack ended none i s here heads place = absurd ended
  begins (t ∷ []) stack ended none zero s here heads place =
      let h : Some t ≡ Some s = here in
      let same : t ≡ s = cc in
      let goes = goes_on t [] stack none in
      let some = heads-block t stack goes.beyond (ap (λ (u : Labelled). is_block_if u.stmt || is_arm u.stmt) same ∙ heads) goes.is in
      absurd (omega (arith, some, after-blocks t stack goes.beyond goes.is, ap blocks_in (nothing-at-end t stack ended none), ap (λ (stmt : Stmt). one_if (is_block_if stmt)) ended))
  begins (t ∷ []) stack ended none (suc i) s here heads place = let h : None ≡ Some s = here in absurd cc
  begins (t ∷ next ∷ rest) stack ended none zero s here heads place =
      let h : Some t ≡ Some s = here in
      let same : t ≡ s = cc in
      let goes = goes_on t (next ∷ rest) stack none in
      closes (next ∷ rest) goes.beyond ended goes.nested 0 place (heads-block t stack goes.beyond (ap (λ (u : Labelled). is_block_if u.stmt || is_arm u.stmt) same ∙ heads) goes.is)
  begins (t ∷ next ∷ rest) stack ended none (suc i) s here heads place =
      let goes = goes_on t (next ∷ rest) stack none in
      begins (next ∷ rest) goes.beyond ended goes.nested i s here heads place

-- a place at which a block or an arm ends
pub record StopsAt (arms : Bool) (stmts : List Labelled) (place : ℕ) : Type 0 where
  pub s : Labelled
  pub stands : slice_get stmts place ≡ Some s
  pub ends : is_stop arms s.stmt ≡ true

-- an arm and a block of IF end at a statement
pub stops : (arms : Bool) (stmts : List Labelled) → IsEnded stmts → first_unnested [] stmts ≡ None → (i : ℕ) (s : Labelled) → slice_get stmts i ≡ Some s → (is_block_if s.stmt || is_arm s.stmt) ≡ true → StopsAt arms stmts (end_after arms 0 (drop (i + 1) stmts) (i + 1))
stops arms stmts ended none i s here heads =
    let next : suc i ≡ i + 1 = omega arith in
    let at : EndsAt arms 0 (drop (i + 1) stmts) (i + 1) = subst (λ (n : ℕ). EndsAt arms 0 (drop n stmts) (i + 1)) next (begins arms stmts [] ended none i s here heads (i + 1)) in
    record {
      s = at.s;
      stands = ap (slice_get stmts) at.is ∙ sym (got_drop stmts (i + 1) at.offset) ∙ at.stands;
      ends = at.ends;
    }
