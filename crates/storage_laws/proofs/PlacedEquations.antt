-- The equations of COMMON and EQUIVALENCE lead from names of the table to names of the table.
use Rattle.std.proofs.Common.{◌≡◌, ℕ, suc, ◌<◌, ⊎_elim, pos, false, ◌==◌, List, [], ◌∷◌, ◌++◌, length, map, get_or, Option, Some, None, refl, sym, ap, subst, ◌∙◌, arith, append_assoc, append-nil, Contains, All}
use Rattle.std.specs.Prelude.{flat_map, slice_get, fold}
use Rattle.std.specs.List.{list_any}
use Rattle.std.proofs.lemmas.Bool.{false_from_ne_true, eqb-true, or_from}
use Rattle.std.proofs.lemmas.List.{map-append}
use Rattle.std.proofs.lemmas.List.Elements.{All-nil, All-head, All-tail, All-map, All-contains, Contains-append_cases, Contains-push_cases}
use Rattle.f77_tree.specs.declared.declarations.CommonPart.{CommonPart}
use Rattle.f77_tree.specs.declared.declarations.Decl.{Decl}
use Rattle.f77_tree.specs.declared.declarations.Member.{Member}
use Rattle.f77_tree.specs.declared.programs.NameInfo.{NameInfo}
use Rattle.f77_tree.specs.Declarations.{part_names, index_of, member_index, CommonOnce}
use Rattle.f77_tree.specs.Places.{Equation}
use Rattle.layout_rules.specs.Storage.{Standing, standings, standings_of, with_standing, last_standing, following, standing_equations, common_equations, equated, group_equations, equations, size_at}
use Rattle.layout_rules.specs.Standings.{ArePartsKnown, AreGroupsKnown}
use Rattle.layout_rules.proofs.StandingLemmas.{with-new, last-stands}
use Rattle.storage_laws.proofs.PlacedLinks.{IsEquation, AreEquations}
use Rattle.storage_laws.proofs.DeclaredForms.{All-flat_map}
use Rattle.storage_laws.proofs.DeclaredStandings.{name_of}
use Rattle.storage_laws.proofs.PlacedBlocks.{contains-cases}

-- ---- names of COMMON where none stands twice

abbrev pub AreDistinct : List Standing → Type 0
AreDistinct xs = (j k x : ℕ) → slice_get (map name_of xs) j ≡ Some x → slice_get (map name_of xs) k ≡ Some x → j ≡ k

distinct-tail : (s : Standing) (xs : List Standing) → AreDistinct (s ∷ xs) → AreDistinct xs
distinct-tail s xs once j k x at_j at_k = let e : suc j ≡ suc k = once (suc j) (suc k) x at_j at_k in omega arith

-- a name after some others
beyond : (seen rest : List Standing) (s : Standing) → (i : ℕ) × (slice_get (map name_of (seen ++ s ∷ rest)) i ≡ Some s.name)
beyond [] rest s = (0, refl)
beyond (a ∷ seen) rest s = let more = beyond seen rest s in (suc more.0, more.1)

pub absent : (seen rest : List Standing) (s : Standing) → AreDistinct (seen ++ s ∷ rest) → list_any (λ a. a.name == s.name) seen ≡ false
absent [] rest s once = refl
absent (a ∷ seen) rest s once =
    let more = beyond seen rest s in
    let here : (a.name == s.name) ≡ false = false_from_ne_true (a.name == s.name) (λ h.
    let e : 0 ≡ suc more.0 = once 0 (suc more.0) s.name (ap Some (eqb-true a.name s.name h)) more.1 in
    absurd (omega arith)) in
    or_from (a.name == s.name) (list_any (λ b. b.name == s.name) seen) here (absent seen rest s (distinct-tail a (seen ++ s ∷ rest) once))

all-stand : (seen rest : List Standing) → AreDistinct (seen ++ rest) → fold with_standing seen rest ≡ seen ++ rest
all-stand seen [] once = sym (append-nil seen)
all-stand seen (s ∷ rest) once =
    ap (λ ys. fold with_standing ys rest) (with-new seen s (absent seen rest s once))
    ∙ all-stand (seen ++ s ∷ []) rest (subst AreDistinct (sym (append_assoc seen (s ∷ []) rest)) once)
    ∙ append_assoc seen (s ∷ []) rest

module _ (names : List NameInfo) where
  abbrev standing : Option (List ℕ) → Decl → Standing
  standing block decl = record { block = block; name = index_of names decl.name }

  names-of-part : (block : Option (List ℕ)) (decls : List Decl) → map name_of (map (standing block) decls) ≡ map (λ (decl : Decl). index_of names decl.name) decls
  names-of-part block [] = refl
  names-of-part block (decl ∷ decls) = ap (λ xs. index_of names decl.name ∷ xs) (names-of-part block decls)

  pub names-of-standings : (commons : List CommonPart) → map name_of (flat_map (standings_of names) commons) ≡ flat_map (part_names names) commons
  names-of-standings [] = refl
  names-of-standings (part ∷ commons) =
      map-append name_of (standings_of names part) (flat_map (standings_of names) commons)
      ∙ ap (λ xs. xs ++ map name_of (flat_map (standings_of names) commons)) (names-of-part part.block part.decls)
      ∙ ap (λ xs. part_names names part ++ xs) (names-of-standings commons)

  pub standings-distinct : (commons : List CommonPart) → CommonOnce names commons → AreDistinct (flat_map (standings_of names) commons)
  standings-distinct commons once j k x at_j at_k = once j k x (ap (λ xs. slice_get xs j) (sym (names-of-standings commons)) ∙ at_j) (ap (λ xs. slice_get xs k) (sym (names-of-standings commons)) ∙ at_k)

  -- where no name stands twice, each stands
  pub standings-once : (commons : List CommonPart) → CommonOnce names commons → standings names commons ≡ flat_map (standings_of names) commons
  standings-once commons once = all-stand [] (flat_map (standings_of names) commons) (standings-distinct commons once)

-- ---- the ends of equations

-- all are names of the table
abbrev pub AreInTable : ℕ → List Standing → Type 0
AreInTable count xs = (s : Standing) → Contains xs s → s.name < count

module _ (names : List NameInfo) (count : ℕ) where
  -- where each name of COMMON is in the table, each that stands is
  abbrev PartIn : CommonPart → Type 0
  PartIn part = All (λ (decl : Decl). index_of names decl.name < count) part.decls

  pub standings-in : (commons : List CommonPart) → All PartIn commons → AreInTable count (flat_map (standings_of names) commons)
  standings-in commons all s h =
      let known : (z : Standing) → Type 0 = λ z. z.name < count in
      All-contains known (flat_map (standings_of names) commons) s (All-flat_map known (standings_of names) commons (λ k d lt. All-map known (standing names (get_or commons k d).block) (get_or commons k d).decls (all k d lt))) h

  following-in : (last : Option ℕ) (name : ℕ) → ((k : ℕ) → last ≡ Some k → k < count) → name < count → AreEquations count (following names last name)
  following-in None name known lt e h = absurd (omega (arith, h.1))
  following-in (Some before) name known lt e h =
      ⊎_elim
      (λ is. subst (IsEquation count) is (record { first = known before refl; second = lt }))
      (λ (none : Contains [] e). absurd (omega (arith, none.1)))
      (contains-cases (link before) [] e h)
    where
      link : ℕ → Equation
      link from = record { from = from; to = name; distance = pos (size_at names from) }

  standing-ends : (seen xs : List Standing) → AreInTable count seen → AreInTable count xs → AreEquations count (standing_equations names seen xs)
  standing-ends seen [] stood all e h = absurd (omega (arith, h.1))
  standing-ends seen (s ∷ xs) stood all e h =
      let here : s.name < count = all s (0, omega arith, refl) in
      ⊎_elim
      (λ first. following-in (last_standing s.block seen) s.name (λ k is. let f = last-stands s.block seen k is in subst (λ (i : ℕ). i < count) f.name_is (stood f.standing f.stands)) here e first)
      (λ more. standing-ends (seen ++ s ∷ []) xs (λ z c. ⊎_elim (λ old. stood z old) (λ (is : s ≡ z). subst (λ (w : Standing). w.name < count) is here) (Contains-push_cases seen s z c)) (λ z c. all z (suc c.0, omega (arith, c.1), c.2)) e more)
      (Contains-append_cases (following names (last_standing s.block seen) s.name) (standing_equations names (seen ++ s ∷ []) xs) e h)

  abbrev MemberIn : Member → Type 0
  MemberIn member = member_index names member < count

  group-in : (group : List Member) → All MemberIn group → All (IsEquation count) (group_equations names group)
  group-in [] all = All-nil (IsEquation count)
  group-in (first ∷ rest) all = All-map (IsEquation count) (equated names first) rest (λ k d lt. record { first = All-head MemberIn first rest all; second = All-tail MemberIn first rest all k d lt })

  groups-in : (groups : List (List Member)) → All (All MemberIn) groups → AreEquations count (flat_map (group_equations names) groups)
  groups-in groups all e h = All-contains (IsEquation count) (flat_map (group_equations names) groups) e (All-flat_map (IsEquation count) (group_equations names) groups (λ k d lt. group-in _ (all k d lt))) h

-- where the names of COMMON and EQUIVALENCE are in the table, so are the ends of their equations
pub ends-in : (names : List NameInfo) (commons : List CommonPart) (groups : List (List Member)) → ArePartsKnown names commons → AreGroupsKnown names groups → CommonOnce names commons → AreEquations (length names) (equations names commons groups)
ends-in names commons groups parts members once e h =
    let all = standings-in names (length names) commons parts in
    let stand : AreInTable (length names) (standings names commons) = subst (AreInTable (length names)) (sym (standings-once names commons once)) all in
    ⊎_elim
    (λ common. standing-ends names (length names) [] (standings names commons) (λ s none. absurd (omega (arith, none.1))) stand e common)
    (λ grouped. groups-in names (length names) groups members e grouped)
    (Contains-append_cases (common_equations names commons) (flat_map (group_equations names) groups) e h)
