-- The units of a text: each is a part of it with END at its end and nowhere else, and what stands in for it can be laid out.
use Rattle.std.proofs.Common.{◌≡◌, ℕ, zero, suc, ◌+◌, ◌-◌, ◌≤◌, ◌⊎◌, inl, inr, Bool, true, false, All, List, [], ◌∷◌, ◌++◌, length, get_or, Some, None, refl, sym, ap, subst, ◌∙◌, arith, length-append}
use Rattle.std.specs.List.{list_any}
use Rattle.std.specs.Prelude.{slice_get, if◌then◌else◌, ◌||◌}
use Rattle.std.proofs.lemmas.List.{length-map}
use Rattle.std.proofs.lemmas.Option.{slice_get_within, get_or_from_slice_get, slice_get-get_or}
use Rattle.f77_tree.specs.declared.statements.Labelled.{Labelled}
use Rattle.f77_tree.specs.declared.statements.Stmt.{Stmt}
use Rattle.f77_tree.specs.declared.statements.Stmt.TheVariants.{End}
use Rattle.f77_tree.specs.StatementGrammar.{IsGiven, is_of_subroutines}
use Rattle.layout_rules.specs.Source.{EndsWithEnd, IsSource}
use Rattle.layout_rules.specs.StatementTrees.{IsTree}
use Rattle.f77_layout.proofs.GivenTrees.{given-IsTree}
use Rattle.program_units.specs.OpenBlocks.{IsEnded}
use Rattle.program_units.specs.Texts.{IsText}
use Rattle.program_units.specs.Units.{in_first, is_end, stand_in, standing_in, units}
use Rattle.unit_laws.proofs.StandInsGiven.{stand_in-given, stand_in-plain}

-- ---- what holds of parts of a text

abbrev pub Each : (P : Labelled → Type 0) → List Labelled → Type 0
Each P stmts = (j : ℕ) (s : Labelled) → slice_get stmts j ≡ Some s → P s

pub each-of : (P : Labelled → Type 0) (stmts : List Labelled) → All P stmts → Each P stmts
each-of P stmts all j s here = subst P (get_or_from_slice_get stmts j s s here) (all j s (slice_get_within stmts j s here))

pub all-of : (P : Labelled → Type 0) (stmts : List Labelled) → Each P stmts → All P stmts
all-of P stmts each k d below = each k (get_or stmts k d) (slice_get-get_or stmts k d below)

pub record AreRead (stmts : List Labelled) : Type 0 where
  pub given : Each (λ s. IsGiven s.stmt) stmts
  pub labels : Each (λ s. s.label ≤ 99999) stmts
  pub few : length stmts ≤ 4000

pub in-front : (u rest : List Labelled) (j : ℕ) (s : Labelled) → slice_get u j ≡ Some s → slice_get (u ++ rest) j ≡ Some s
in-front [] rest j s here = let h : None ≡ Some s = here in absurd cc
in-front (x ∷ u) rest zero s here = here
in-front (x ∷ u) rest (suc j) s here = in-front u rest j s here

pub behind-it : (u rest : List Labelled) (j : ℕ) (s : Labelled) → slice_get rest j ≡ Some s → slice_get (u ++ rest) (length u + j) ≡ Some s
behind-it [] rest j s here = let e : 0 + j ≡ j = omega arith in ap (slice_get rest) e ∙ here
behind-it (x ∷ u) rest j s here =
    let e : length (x ∷ u) + j ≡ suc (length u + j) = omega arith in
    ap (slice_get (x ∷ (u ++ rest))) e ∙ behind-it u rest j s here

pub read-front : (u rest : List Labelled) → AreRead (u ++ rest) → AreRead u
read-front u rest are = record {
  given = λ j s here. are.given j s (in-front u rest j s here);
  labels = λ j s here. are.labels j s (in-front u rest j s here);
  few = omega (arith, length-append u rest, are.few);
}

pub read-behind : (u rest : List Labelled) → AreRead (u ++ rest) → AreRead rest
read-behind u rest are = record {
  given = λ j s here. are.given (length u + j) s (behind-it u rest j s here);
  labels = λ j s here. are.labels (length u + j) s (behind-it u rest j s here);
  few = omega (arith, length-append u rest, are.few);
}

-- ---- END is the last statement

abbrev pub LastIsEnd : List Labelled → Type 0
LastIsEnd [] = ⊥
LastIsEnd (s ∷ []) = s.stmt ≡ End
LastIsEnd (s ∷ t ∷ rest) = LastIsEnd (t ∷ rest)

pub last-at : (s t : Labelled) (rest : List Labelled) → slice_get (s ∷ t ∷ rest) (length (s ∷ t ∷ rest) - 1) ≡ slice_get (t ∷ rest) (length (t ∷ rest) - 1)
last-at s t rest = let e : length (s ∷ t ∷ rest) - 1 ≡ suc (length (t ∷ rest) - 1) = omega arith in ap (slice_get (s ∷ t ∷ rest)) e

pub to-last : (stmts : List Labelled) (last : Labelled) → slice_get stmts (length stmts - 1) ≡ Some last → last.stmt ≡ End → LastIsEnd stmts
to-last [] last here is = let h : None ≡ Some last = here in absurd cc
to-last (s ∷ []) last here is = let h : Some s ≡ Some last = here in let same : last ≡ s = cc in subst (λ (t : Labelled). t.stmt ≡ End) same is
to-last (s ∷ t ∷ rest) last here is = to-last (t ∷ rest) last (sym (last-at s t rest) ∙ here) is

pub from-last : (u : List Labelled) → LastIsEnd u → EndsWithEnd u
from-last [] e = absurd e
from-last (s ∷ []) e = record { last = s; stands = refl; is = e }
from-last (s ∷ t ∷ rest) e = let r = from-last (t ∷ rest) e in record { last = r.last; stands = last-at s t rest ∙ r.stands; is = r.is }

pub last-more : (s : Labelled) (u : List Labelled) → LastIsEnd u → LastIsEnd (s ∷ u)
last-more s [] e = absurd e
last-more s (t ∷ rest) e = e

pub end-is : (stmt : Stmt) → is_end stmt ≡ true → stmt ≡ End
end-is End e = refl
end-is _ e = let h : false ≡ true = e in absurd cc

pub or_false : (a b : Bool) → a ≡ false → b ≡ false → (a || b) ≡ false
or_false true b h i = h
or_false false b h i = i

-- ---- the first unit, and the others

record First (stmts : List Labelled) : Type 0 where
  unit : List Labelled
  rest : List Labelled
  whole : unit ++ rest ≡ stmts
  cut : units stmts ≡ unit ∷ units rest
  ended : LastIsEnd unit
  once : IsEnded unit
  more : (rest ≡ []) ⊎ LastIsEnd rest

cut-by : (b : Bool) (s : Labelled) (rest : List Labelled) → is_end s.stmt ≡ b → units (s ∷ rest) ≡ (if b then (s ∷ []) ∷ units rest else in_first s (units rest))
cut-by b s rest is = ap (λ (c : Bool). if c then (s ∷ []) ∷ units rest else in_first s (units rest)) is

lone : (s : Labelled) → is_end s.stmt ≡ true → IsEnded (s ∷ [])
lone s is = record { front = []; last = s; is = refl; ended = is; none = refl }

longer : (s : Labelled) (u : List Labelled) → is_end s.stmt ≡ false → IsEnded u → IsEnded (s ∷ u)
longer s u no_end once = record {
  front = s ∷ once.front;
  last = once.last;
  is = ap (λ (xs : List Labelled). s ∷ xs) once.is;
  ended = once.ended;
  none = or_false (is_end s.stmt) (list_any (λ t. is_end t.stmt) once.front) no_end once.none;
}

split : (s : Labelled) (rest : List Labelled) → LastIsEnd (s ∷ rest) → First (s ∷ rest)
split s [] e = record { unit = s ∷ []; rest = []; whole = refl; cut = cut-by true s [] (ap is_end e); ended = e; once = lone s (ap is_end e); more = inl refl }
split s (t ∷ rest) e = by (is_end s.stmt) refl (split t rest e)
  where
    by : (b : Bool) → is_end s.stmt ≡ b → First (t ∷ rest) → First (s ∷ t ∷ rest)
    by true is f = record { unit = s ∷ []; rest = t ∷ rest; whole = refl; cut = cut-by true s (t ∷ rest) is; ended = end-is s.stmt is; once = lone s is; more = inr e }
    by false is f = record {
      unit = s ∷ f.unit;
      rest = f.rest;
      whole = ap (λ (xs : List Labelled). s ∷ xs) f.whole;
      cut = cut-by false s (t ∷ rest) is ∙ ap (in_first s) f.cut;
      ended = last-more s f.unit f.ended;
      once = longer s f.unit is f.once;
      more = f.more;
    }

pub record IsUnit (u : List Labelled) : Type 0 where
  pub read : AreRead u
  pub ended : LastIsEnd u
  pub once : IsEnded u

pub unit-is : (k : ℕ) (stmts u : List Labelled) → AreRead stmts → (stmts ≡ []) ⊎ LastIsEnd stmts → slice_get (units stmts) k ≡ Some u → IsUnit u
unit-is k [] u are ended here = let h : None ≡ Some u = here in absurd cc
unit-is k (s ∷ rest) u are (inl none) here = absurd cc
unit-is zero (s ∷ rest) u are (inr ended) here =
    let f = split s rest ended in
    let h : Some f.unit ≡ Some u = ap (λ (us : List (List Labelled)). slice_get us 0) (sym f.cut) ∙ here in
    let same : f.unit ≡ u = cc in
    subst IsUnit same (record { read = read-front f.unit f.rest (subst AreRead (sym f.whole) are); ended = f.ended; once = f.once })
unit-is (suc k) (s ∷ rest) u are (inr ended) here =
    let f = split s rest ended in
    unit-is k f.rest u (read-behind f.unit f.rest (subst AreRead (sym f.whole) are)) f.more (ap (λ (us : List (List Labelled)). slice_get us (suc k)) (sym f.cut) ∙ here)

-- ---- what stands in for a unit

abbrev pub standing : Labelled → Labelled
standing s = record s { stmt = stand_in s.stmt }

pub record StandsFor (u : List Labelled) (j : ℕ) (t : Labelled) : Type 0 where
  s : Labelled
  here : slice_get u j ≡ Some s
  is : standing s ≡ t

pub stands-for : (u : List Labelled) (j : ℕ) (t : Labelled) → slice_get (standing_in u) j ≡ Some t → StandsFor u j t
stands-for [] j t e = let h : None ≡ Some t = e in absurd cc
stands-for (s ∷ u) zero t e = let h : Some (standing s) ≡ Some t = e in record { s = s; here = refl; is = cc }
stands-for (s ∷ u) (suc j) t e = let r = stands-for u j t e in record { s = r.s; here = r.here; is = r.is }

pub stands-last : (u : List Labelled) → LastIsEnd u → LastIsEnd (standing_in u)
stands-last [] e = absurd e
stands-last (s ∷ []) e = ap stand_in e
stands-last (s ∷ t ∷ rest) e = stands-last (t ∷ rest) e

pub source-of : (u : List Labelled) → IsUnit u → IsSource (standing_in u)
source-of u is = record {
  trees = all-of (λ t. IsTree t.stmt) (standing_in u)
      (λ j t e.
      let r = stands-for u j t e in
      let given = is.read.given j r.s r.here in
      subst (λ (x : Labelled). IsTree x.stmt) r.is (given-IsTree (stand_in r.s.stmt) (stand_in-given r.s.stmt given) (stand_in-plain r.s.stmt given)));
  no_subroutines = all-of (λ t. is_of_subroutines t.stmt ≡ false) (standing_in u) (λ j t e. let r = stands-for u j t e in subst (λ (x : Labelled). is_of_subroutines x.stmt ≡ false) r.is (stand_in-plain r.s.stmt (is.read.given j r.s r.here)));
  labels = all-of (λ t. t.label ≤ 99999) (standing_in u) (λ j t e. let r = stands-for u j t e in subst (λ (x : Labelled). x.label ≤ 99999) r.is (is.read.labels j r.s r.here));
  few = omega (arith, length-map u standing, is.read.few);
  ended = from-last (standing_in u) (stands-last u is.ended);
}

pub text-unit : (stmts : List Labelled) → IsText stmts → (k : ℕ) (u : List Labelled) → slice_get (units stmts) k ≡ Some u → IsUnit u
text-unit stmts text k u here =
    let are : AreRead stmts = record { given = each-of (λ s. IsGiven s.stmt) stmts text.given; labels = each-of (λ s. s.label ≤ 99999) stmts text.labels; few = text.few } in
    unit-is k stmts u are (inr (to-last stmts text.ended.last text.ended.stands text.ended.is)) here

pub unit-source : (stmts : List Labelled) → IsText stmts → (k : ℕ) (u : List Labelled) → slice_get (units stmts) k ≡ Some u → IsSource (standing_in u)
unit-source stmts text k u here = source-of u (text-unit stmts text k u here)
