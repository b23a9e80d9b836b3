-- The storages after one more name of COMMON.
use Rattle.std.proofs.Common.{◌≡◌, ℕ, ◌+◌, ◌<◌, ⊎_elim, pos, Bool, true, false, cond, ◌==◌, List, [], ◌∷◌, ◌++◌, length, get_or, set, Contains, Option, Some, None, refl, sym, ap, subst, ◌∙◌, arith, append-nil, replicate, take}
use Rattle.std.specs.Prelude.{◌||◌, if◌then◌else◌, fold, flat_map}
use Rattle.std.specs.List.{list_any}
use Rattle.std.proofs.lemmas.Bool.{cases_eq, eq-eqb, ne_eqb}
use Rattle.std.proofs.lemmas.List.{length-set, get_or-set_same, get_or-set_other, length-replicate, get_or-replicate, take_more, flat_map_more}
use Rattle.std.proofs.lemmas.List.Sums.{fold-append}
use Rattle.std.proofs.lemmas.List.Concat.{flat_map-append}
use Rattle.f77_tree.specs.declared.statements.Labelled.{Labelled}
use Rattle.layout_rules.specs.Declarations.{all_commons, parts_of}
use Rattle.f77_tree.specs.declared.programs.NameInfo.{NameInfo}
use Rattle.f77_tree.specs.Places.{same_block}
use Rattle.storage_association.specs.declared.storages.Storages.{Storages}
use Rattle.storage_association.specs.declared.equations.Commons.{Commons}
use Rattle.layout_rules.specs.Storage.{Standing, standings, standings_of, with_standing, last_standing, following, standing_equations, size_at}
use Rattle.storage_association.specs.Storages.{AreStorages}
use Rattle.layout_rules.specs.Standings.{firsts_of}
use Rattle.storage_association.specs.CommonStorages.{last_in, AreCommons}
use Rattle.layout_rules.proofs.StandingLemmas.{equations-push, firsts-push, last-push, last-none, last-some, any-push, firsts-stand, with-old, with-new}

module _ (names : List NameInfo) (xs : List Standing) (s : Standing) where
  abbrev more : List Standing
  more = xs ++ s ∷ []

  pub held-first : (st : Storages) → last_standing s.block xs ≡ None → AreStorages (length names) (firsts_of xs ++ s.name ∷ []) (standing_equations names [] xs) st → AreStorages (length names) (firsts_of more) (standing_equations names [] more) st
  held-first st none held =
      let firsts : firsts_of more ≡ firsts_of xs ++ s.name ∷ [] = firsts-push [] xs s ∙ ap (λ b. firsts_of xs ++ cond b [] (s.name ∷ [])) (last-none s.block xs none) in
      let equations : standing_equations names [] more ≡ standing_equations names [] xs = equations-push names [] xs s ∙ ap (λ l. standing_equations names [] xs ++ following names l s.name) none ∙ append-nil (standing_equations names [] xs) in
      rw (firsts, equations) held

  pub held-later : (st : Storages) (before : ℕ) → last_standing s.block xs ≡ Some before → AreStorages (length names) (firsts_of xs) (standing_equations names [] xs ++ (record { from = before; to = s.name; distance = pos (size_at names before) }) ∷ []) st → AreStorages (length names) (firsts_of more) (standing_equations names [] more) st
  held-later st before some held =
      let firsts : firsts_of more ≡ firsts_of xs = firsts-push [] xs s ∙ ap (λ b. firsts_of xs ++ cond b [] (s.name ∷ [])) (last-some s.block xs before some) ∙ append-nil (firsts_of xs) in
      let equations : standing_equations names [] more ≡ standing_equations names [] xs ++ following names (Some before) s.name = equations-push names [] xs s ∙ ap (λ l. standing_equations names [] xs ++ following names l s.name) some in
      rw (firsts, equations) held

  pub stand-old : (c c' : Commons) → AreCommons names xs c → s.name < length names → get_or c.stood.items s.name false ≡ true → c' ≡ c → AreCommons names (with_standing xs s) c'
  stand-old c c' are lt stood same = rw (with-old xs s (sym (are.stood s.name lt) ∙ stood), same) are

  -- the name is first in no block
  pub fresh : (c : Commons) → AreCommons names xs c → s.name < length names → get_or c.stood.items s.name false ≡ false → Contains (firsts_of xs) s.name → ⊥
  fresh c are lt stood h = let impossible : true ≡ false = sym (firsts-stand [] xs s.name h) ∙ sym (are.stood s.name lt) ∙ stood in absurd cc

  pub stand-new : (c c' : Commons) → AreCommons names xs c → s.name < length names → get_or c.stood.items s.name false ≡ false → AreStorages (length names) (firsts_of more) (standing_equations names [] more) c'.storages → c'.stood.items ≡ set c.stood.items s.name true → ((other : Option (List ℕ)) → last_in c'.blocks other ≡ (if same_block s.block other then Some s.name else last_in c.blocks other)) → AreCommons names (with_standing xs s) c'
  stand-new c c' are lt stood held stands lasts =
      let is_new : with_standing xs s ≡ more = with-new xs s (sym (are.stood s.name lt) ∙ stood) in
      let last_now : (block : Option (List ℕ)) → last_standing block more ≡ cond (same_block s.block block) (Some s.name) (last_standing block xs) = λ block. last-push block xs s in
      let now : AreCommons names more c' = record {
        held = held;
        each = ap length stands ∙ length-set c.stood.items s.name true ∙ are.each;
        stood = λ k i. ⊎_elim
            (λ (e : k ≡ s.name).
            subst (λ (j : ℕ). get_or c'.stood.items j false ≡ list_any (λ a. a.name == j) more) (sym e)
            (ap (λ ys. get_or ys s.name false) stands ∙ get_or-set_same c.stood.items s.name true false (omega (arith, are.each)) ∙ sym (any-push s.name xs s ∙ ap (λ b. list_any (λ a. a.name == s.name) xs || b) (eq-eqb s.name s.name refl) ∙ grind arith)))
            (λ ne. ap (λ ys. get_or ys k false) stands ∙ get_or-set_other c.stood.items s.name k true false ne ∙ are.stood k i ∙ sym (any-push k xs s ∙ ap (λ b. list_any (λ a. a.name == k) xs || b) (ne_eqb s.name k (λ e. ne (sym e))) ∙ grind arith))
            (cases_eq k s.name);
        lasts = λ block. lasts block ∙ ap (λ l. cond (same_block s.block block) (Some s.name) l) (are.lasts block) ∙ sym (last_now block);
        known = λ block k e. known-now block k (same_block s.block block) (sym (last_now block) ∙ e);
      } in
      rw is_new now
    where
      known-now : (block : Option (List ℕ)) (k : ℕ) (b : Bool) → cond b (Some s.name) (last_standing block xs) ≡ Some k → k < length names
      known-now block k true h = let same : s.name ≡ k = cc in omega (arith, lt)
      known-now block k false h = are.known block k h

-- ---- all COMMON statements

pub nothing-stands : (names : List NameInfo) (c : Commons) → AreStorages (length names) [] [] c.storages → c.stood.items ≡ replicate (length names) false → ((block : Option (List ℕ)) → last_in c.blocks block ≡ None) → AreCommons names [] c
nothing-stands names c held stood lasts = record {
  held = held;
  each = ap length stood ∙ length-replicate (length names) false;
  stood = λ k lt. ap (λ xs. get_or xs k false) stood ∙ get_or-replicate (length names) k false false lt;
  lasts = lasts;
  known = λ block k e. absurd cc;
}

commons-next : (stmts : List Labelled) (i : ℕ) (s : Labelled) → i < length stmts → s ≡ get_or stmts i s → all_commons (take (i + 1) stmts) ≡ all_commons (take i stmts) ++ parts_of s.stmt
commons-next stmts i s lt is = ap all_commons (take_more stmts i s lt ∙ ap (λ x. take i stmts ++ x ∷ []) (sym is)) ∙ sym (flat_map_more (λ (x : Labelled). parts_of x.stmt) [] (take i stmts) s)

pub standings-next : (names : List NameInfo) (stmts : List Labelled) (i : ℕ) (s : Labelled) → i < length stmts → s ≡ get_or stmts i s → fold with_standing (standings names (all_commons (take i stmts))) (flat_map (standings_of names) (parts_of s.stmt)) ≡ standings names (all_commons (take (i + 1) stmts))
standings-next names stmts i s lt is =
    let before = all_commons (take i stmts) in
    let now : flat_map (standings_of names) (all_commons (take (i + 1) stmts)) ≡ flat_map (standings_of names) before ++ flat_map (standings_of names) (parts_of s.stmt) = ap (flat_map (standings_of names)) (commons-next stmts i s lt is) ∙ flat_map-append (standings_of names) before (parts_of s.stmt) in
    sym (ap (fold with_standing []) now ∙ fold-append with_standing [] (flat_map (standings_of names) before) (flat_map (standings_of names) (parts_of s.stmt)))
