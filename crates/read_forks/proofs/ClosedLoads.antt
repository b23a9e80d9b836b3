-- A load closes its lines, one after another.
use Rattle.std.proofs.Common.{◌≡◌, ◌≤◌, ◌⊎◌, inl, inr, ℕ, zero, suc, ◌+◌, true, false, List, [], ◌∷◌, length, drop, Some, slice_get, refl, sym, ap, ◌∙◌, subst, add-one, arith}
use Rattle.list_laws.specs.Member.{Member}
use Rattle.net_board.proofs.ListPlaces.{same_or_not}
use Rattle.net_board.proofs.NodeLaws.{Distinct}
use Rattle.op_board.specs.OperationNets.{OperationNet}
use Rattle.fork_board.specs.ForkTokens.{ForkTokens}
use Rattle.read_forks.specs.KeptLoads.{AreClosedFor}
use Rattle.read_forks.specs.LoadChanges.{IsPut, Loaded}
use Rattle.read_forks.specs.LoadSteps.{line_read, lines_read}

-- ---- what is left of a list

-- one isn't left once its turn has come
none_again : (lines : List ℕ) (j line : ℕ) (rest : List ℕ) → Distinct lines → drop j lines ≡ line ∷ rest → Member rest line → ⊥
none_again lines zero line rest apart is = (subst (λ (l : List ℕ). Distinct l) is apart).0
none_again [] (suc j) line rest apart is = absurd cc
none_again (l ∷ lines) (suc j) line rest apart is = none_again lines j line rest apart.1 is

left_at : (lines : List ℕ) (j line : ℕ) → slice_get lines j ≡ Some line → drop j lines ≡ line ∷ drop (suc j) lines
left_at [] j line is = absurd cc
left_at (l ∷ lines) zero line is = let same : l ≡ line = cc in ap (λ k. k ∷ lines) same
left_at (l ∷ lines) (suc j) line is = left_at lines j line is

pub next_left : (lines : List ℕ) (j line : ℕ) → slice_get lines j ≡ Some line → drop j lines ≡ line ∷ drop (j + 1) lines
next_left lines j line is = left_at lines j line is ∙ ap (λ n. line ∷ drop n lines) (sym (add-one j))

pub none_left : (lines : List ℕ) (j : ℕ) → length lines ≤ j → drop j lines ≡ []
none_left [] zero over = refl
none_left [] (suc j) over = refl
none_left (l ∷ lines) zero over = absurd (omega (arith, over))
none_left (l ∷ lines) (suc j) over = none_left lines j (omega (arith, over))

-- ---- lines that are left

-- these lines are left
pub record IsAmidClosing (x : OperationNet) (piece i : ℕ) (all : List ℕ) (start now : ForkTokens) (old new : Loaded) (left : List ℕ) : Type 0 where
  pub read : lines_read x piece i now left ≡ lines_read x piece i start all
  pub wide : (line : ℕ) → Member left line → new line piece i ≡ true
  pub shut : (line : ℕ) → Member all line → Member left line ⊎ (new line piece i ≡ false)
  pub others : (line p n : ℕ) → ((p ≡ piece) × (n ≡ i) → ⊥) → new line p n ≡ old line p n

module _ (x : OperationNet) (piece i : ℕ) (all : List ℕ) (start : ForkTokens) (old : Loaded) where
  pub begins : ((line : ℕ) → Member all line → old line piece i ≡ true) → IsAmidClosing x piece i all start start old old all
  begins wide = record { read = refl; wide = wide; shut = λ line among. inl among; others = λ line p n other. refl }

  pub closes_next : (now then_is : ForkTokens) (new after : Loaded) (j line : ℕ) → Distinct all → slice_get all j ≡ Some line → then_is ≡ line_read x piece i now line → IsPut line piece i false new after
      → IsAmidClosing x piece i all start now old new (drop j all) → IsAmidClosing x piece i all start then_is old after (drop (j + 1) all)
  closes_next now then_is new after j line apart at made put amid =
      let is : drop j all ≡ line ∷ drop (j + 1) all = next_left all j line at in
      let here : IsAmidClosing x piece i all start now old new (line ∷ drop (j + 1) all) = subst (λ (lines : List ℕ). IsAmidClosing x piece i all start now old new lines) is amid in
      let again = none_again all j line (drop (j + 1) all) apart is in
      record {
        read = ap (λ (m : ForkTokens). lines_read x piece i m (drop (j + 1) all)) made ∙ here.read;
        wide = λ l among. put.others l piece i (λ same. again (subst (λ (q : ℕ). Member (drop (j + 1) all) q) same.0 among)) ∙ here.wide l (inr among);
        shut = λ l among. still l (here.shut l among);
        others = λ l p n other. put.others l p n (λ same. other (same.1, same.2)) ∙ here.others l p n other;
      }
    where
      rest : List ℕ
      rest = drop (j + 1) all

      same_line : (l : ℕ) → line ≡ l → after l piece i ≡ false
      same_line l same = subst (λ (q : ℕ). after q piece i ≡ false) same put.here

      still : (l : ℕ) → ((line ≡ l) ⊎ Member rest l) ⊎ (new l piece i ≡ false) → Member rest l ⊎ (after l piece i ≡ false)
      still l (inl (inl same)) = inr (same_line l same)
      still l (inl (inr among)) = inl among
      still l (inr shut) = by (same_or_not l line)
        where
          by : (l ≡ line) ⊎ (l ≡ line → ⊥) → Member rest l ⊎ (after l piece i ≡ false)
          by (inl same) = inr (same_line l (sym same))
          by (inr differ) = inr (put.others l piece i (λ same. differ same.0) ∙ shut)

  pub ends : (now : ForkTokens) (new : Loaded) (j : ℕ) → length all ≤ j → IsAmidClosing x piece i all start now old new (drop j all) → (now ≡ lines_read x piece i start all) × AreClosedFor all piece i old new
  ends now new j over amid = (sym (ap (lines_read x piece i now) none) ∙ amid.read, record { here = λ line among. shut line (amid.shut line among); others = amid.others })
    where
      none : drop j all ≡ []
      none = none_left all j over

      shut : (line : ℕ) → Member (drop j all) line ⊎ (new line piece i ≡ false) → new line piece i ≡ false
      shut line (inl among) = absurd (subst (λ (lines : List ℕ). Member lines line) none among)
      shut line (inr is) = is
