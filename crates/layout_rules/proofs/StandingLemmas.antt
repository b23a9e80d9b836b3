-- One more name of COMMON.
use Rattle.std.proofs.Common.{◌≡◌, ℕ, ◌⊎◌, inl, inr, ⊎_elim, Bool, true, false, cond, ◌==◌, List, [], ◌∷◌, ◌++◌, get_or, Contains, Option, Some, None, refl, sym, ap, subst, ◌∙◌, arith, append_assoc, append-nil}
use Rattle.std.specs.Prelude.{◌||◌, if◌then◌else◌, fold}
use Rattle.std.specs.List.{list_any}
use Rattle.std.specs.Option.{is_some}
use Rattle.std.proofs.lemmas.Bool.{eq-eqb, or_right, or_left}
use Rattle.std.proofs.lemmas.List.Sums.{fold_push}
use Rattle.std.proofs.lemmas.List.Folds.{list_any_at, list_any-append}
use Rattle.std.proofs.lemmas.List.Elements.{Contains-append_right, Contains-append_cases}
use Rattle.f77_tree.specs.declared.programs.NameInfo.{NameInfo}
use Rattle.f77_tree.specs.Places.{same_block}
use Rattle.f77_tree.proofs.NameLemmas.{same_block-same}
use Rattle.layout_rules.specs.Storage.{Standing, with_standing, last_standing, following, standing_equations}
use Rattle.layout_rules.specs.Standings.{firsts_after}

pub equations-push : (names : List NameInfo) (seen xs : List Standing) (s : Standing) → standing_equations names seen (xs ++ s ∷ []) ≡ standing_equations names seen xs ++ following names (last_standing s.block (seen ++ xs)) s.name
equations-push names seen [] s = append-nil (following names (last_standing s.block seen) s.name) ∙ ap (λ ys. following names (last_standing s.block ys) s.name) (sym (append-nil seen))
equations-push names seen (x ∷ xs) s =
    let here = following names (last_standing x.block seen) x.name in
    ap (λ ys. here ++ ys) (equations-push names (seen ++ x ∷ []) xs s)
    ∙ sym (append_assoc here (standing_equations names (seen ++ x ∷ []) xs) (following names (last_standing s.block ((seen ++ x ∷ []) ++ xs)) s.name))
    ∙ ap (λ ys. (here ++ standing_equations names (seen ++ x ∷ []) xs) ++ following names (last_standing s.block ys) s.name) (append_assoc seen (x ∷ []) xs)

abbrev pub first_if : List Standing → Standing → List ℕ
first_if seen s = if list_any (λ a. same_block a.block s.block) seen then [] else s.name ∷ []

pub firsts-push : (seen xs : List Standing) (s : Standing) → firsts_after seen (xs ++ s ∷ []) ≡ firsts_after seen xs ++ first_if (seen ++ xs) s
firsts-push seen [] s = append-nil (first_if seen s) ∙ ap (λ ys. first_if ys s) (sym (append-nil seen))
firsts-push seen (x ∷ xs) s =
    let here = first_if seen x in
    ap (λ ys. here ++ ys) (firsts-push (seen ++ x ∷ []) xs s)
    ∙ sym (append_assoc here (firsts_after (seen ++ x ∷ []) xs) (first_if ((seen ++ x ∷ []) ++ xs) s))
    ∙ ap (λ ys. (here ++ firsts_after (seen ++ x ∷ []) xs) ++ first_if ys s) (append_assoc seen (x ∷ []) xs)

abbrev later : Option (List ℕ) → Option ℕ → Standing → Option ℕ
later block last s = if same_block s.block block then Some s.name else last

pub last-push : (block : Option (List ℕ)) (xs : List Standing) (s : Standing) → last_standing block (xs ++ s ∷ []) ≡ later block (last_standing block xs) s
last-push block xs s = fold_push (later block) None xs s

-- a block has a last name exactly where a name stands in it
some-last : (block : Option (List ℕ)) (last : Option ℕ) (xs : List Standing) → is_some (fold (later block) last xs) ≡ (is_some last || list_any (λ a. same_block a.block block) xs)
some-last block last [] = grind arith
some-last block last (s ∷ xs) =
    some-last block (later block last s) xs ∙ step (same_block s.block block) last (list_any (λ a. same_block a.block block) xs)
  where
    step : (b : Bool) (last : Option ℕ) (rest : Bool) → (is_some (cond b (Some s.name) last) || rest) ≡ (is_some last || (b || rest))
    step true None rest = refl
    step true (Some k) rest = refl
    step false last rest = refl

pub last-none : (block : Option (List ℕ)) (xs : List Standing) → last_standing block xs ≡ None → list_any (λ a. same_block a.block block) xs ≡ false
last-none block xs e = sym (some-last block None xs) ∙ ap is_some e

pub last-some : (block : Option (List ℕ)) (xs : List Standing) (k : ℕ) → last_standing block xs ≡ Some k → list_any (λ a. same_block a.block block) xs ≡ true
last-some block xs k e = sym (some-last block None xs) ∙ ap is_some e

-- one name more
pub any-push : (k : ℕ) (xs : List Standing) (s : Standing) → list_any (λ a. a.name == k) (xs ++ s ∷ []) ≡ (list_any (λ a. a.name == k) xs || (s.name == k))
any-push k xs s = list_any-append (λ a. a.name == k) xs (s ∷ []) ∙ grind arith

-- ---- a first name

-- the first name of a block is that of the standing where no name of the block stands before
pub first-here : (seen : List Standing) (s : Standing) (x : ℕ) → Contains (first_if seen s) x → (list_any (λ a. same_block a.block s.block) seen ≡ false) × (s.name ≡ x)
first-here seen s x h = here (list_any (λ a. same_block a.block s.block) seen) h
  where
    here : (b : Bool) → Contains (cond b [] (s.name ∷ [])) x → (b ≡ false) × (s.name ≡ x)
    here true c = absurd (omega (arith, c.1))
    here false c = let zeroth : c.0 ≡ 0 = omega (arith, c.1) in (refl, let P : ℕ → Type 0 = λ i. get_or (s.name ∷ []) i x ≡ x in subst P zeroth c.2)

pub first-there : (seen : List Standing) (s : Standing) → list_any (λ a. same_block a.block s.block) seen ≡ false → Contains (first_if seen s) s.name
first-there seen s new = subst (λ (b : Bool). Contains (cond b [] (s.name ∷ [])) s.name) (sym new) (0, omega arith, refl)

-- a first name stands in COMMON
pub firsts-stand : (seen xs : List Standing) (k : ℕ) → Contains (firsts_after seen xs) k → list_any (λ a. a.name == k) xs ≡ true
firsts-stand seen [] k h = absurd (omega (arith, h.1))
firsts-stand seen (x ∷ xs) k h =
    ⊎_elim
    (λ here. or_left (x.name == k) (list_any (λ a. a.name == k) xs) (eq-eqb x.name k (first-here seen x k here).1))
    (λ there. or_right (x.name == k) (list_any (λ a. a.name == k) xs) (firsts-stand (seen ++ x ∷ []) xs k there))
    (Contains-append_cases (first_if seen x) (firsts_after (seen ++ x ∷ []) xs) k h)

-- ---- a name that stands

pub stands-each : (xs : List Standing) (s : Standing) → Contains xs s → list_any (λ a. a.name == s.name) xs ≡ true
stands-each xs s h = list_any_at (λ a. a.name == s.name) xs h.0 s h.1 (ap (λ (a : Standing). a.name == s.name) h.2 ∙ eq-eqb s.name s.name refl)

-- a name of COMMON, in this block
pub record IsStanding (xs : List Standing) (block : Option (List ℕ)) (k : ℕ) : Type 0 where
  pub standing : Standing
  pub stands : Contains xs standing
  pub name_is : standing.name ≡ k
  pub block_is : standing.block ≡ block

last-among : (block : Option (List ℕ)) (last : Option ℕ) (xs : List Standing) (k : ℕ) → fold (later block) last xs ≡ Some k → (last ≡ Some k) ⊎ IsStanding xs block k
last-among block last [] k e = inl e
last-among block last (x ∷ xs) k e =
    ⊎_elim
    (λ h. here (same_block x.block block) refl h)
    (λ is. inr (record { standing = is.standing; stands = Contains-append_right (x ∷ []) xs is.standing is.stands; name_is = is.name_is; block_is = is.block_is }))
    (last-among block (later block last x) xs k e)
  where
    here : (b : Bool) → same_block x.block block ≡ b → cond b (Some x.name) last ≡ Some k → (last ≡ Some k) ⊎ IsStanding (x ∷ xs) block k
    here true same h = let named : x.name ≡ k = cc in inr (record { standing = x; stands = (0, omega arith, refl); name_is = named; block_is = same_block-same x.block block same })
    here false same h = inl h

-- the last name of a block is one of its names
pub last-stands : (block : Option (List ℕ)) (xs : List Standing) (k : ℕ) → last_standing block xs ≡ Some k → IsStanding xs block k
last-stands block xs k e = ⊎_elim (λ (none : None ≡ Some k). absurd cc) (λ is. is) (last-among block None xs k e)

-- a name that stands already changes nothing
pub with-old : (xs : List Standing) (s : Standing) → list_any (λ a. a.name == s.name) xs ≡ true → with_standing xs s ≡ xs
with-old xs s h = ap (λ b. cond b xs (xs ++ s ∷ [])) h

pub with-new : (xs : List Standing) (s : Standing) → list_any (λ a. a.name == s.name) xs ≡ false → with_standing xs s ≡ xs ++ s ∷ []
with-new xs s h = ap (λ b. cond b xs (xs ++ s ∷ [])) h
