-- Names of COMMON and equations that come one after another.
use Rattle.std.proofs.Common.{◌≡◌, ℕ, ◌+◌, ◌<◌, ◌≤◌, List, [], ◌∷◌, ◌++◌, length, get_or, map, take, refl, sym, ap, subst, ◌∙◌, arith, append_assoc, ℤ, pos, ◌-ℤ◌, w64}
use Rattle.std.specs.Prelude.{fold, flat_map}
use mir.Val.{SFits}
use Rattle.std.proofs.lemmas.Int.{ints, to_z-of_z}
use Rattle.storage_association.proofs.Joining.{again}
use Rattle.std.proofs.lemmas.List.{flat_map_more, map_more, take_all, take_more}
use Rattle.std.proofs.lemmas.List.Sums.{fold_push, fold-append}
use Rattle.f77_tree.specs.declared.programs.NameInfo.{NameInfo}
use Rattle.f77_tree.specs.Places.{Equation}
use Rattle.storage_association.specs.declared.storages.Storages.{Storages}
use Rattle.storage_association.specs.declared.equations.Commons.{Commons}
use Rattle.layout_rules.specs.Storage.{Standing, with_standing}
use Rattle.storage_association.specs.Storages.{AreSome, AreStorages}
use Rattle.storage_association.specs.CommonStorages.{AreCommons, Extends, Links}

-- one name more of a list
pub extends-next : {X : Type 0} (f : X → Standing) (names : List NameInfo) (old now new : Commons) (xs : List X) (i : ℕ) (d x : X) → i < length xs → x ≡ get_or xs i d → Extends names old now (map f (take i xs)) → ((standings : List Standing) → AreCommons names standings now → AreCommons names (with_standing standings (f x)) new) → Extends names old new (map f (take (i + 1) xs))
extends-next f names old now new xs i d x lt is so_far step standings are =
    let came : map f (take (i + 1) xs) ≡ map f (take i xs) ++ f x ∷ [] = map_more f xs i d lt ∙ ap (λ y. map f (take i xs) ++ f y ∷ []) (sym is) in
    let folded : fold with_standing standings (map f (take (i + 1) xs)) ≡ with_standing (fold with_standing standings (map f (take i xs))) (f x) = ap (fold with_standing standings) came ∙ fold_push with_standing standings (map f (take i xs)) (f x) in
    subst (λ (s : List Standing). AreCommons names s new) (sym folded) (step (fold with_standing standings (map f (take i xs))) (so_far standings are))

pub extends-all : {X : Type 0} (f : X → Standing) (names : List NameInfo) (old now : Commons) (xs ys : List X) (i : ℕ) → length xs ≤ i → xs ≡ ys → Extends names old now (map f (take i xs)) → Extends names old now (map f ys)
extends-all f names old now xs ys i le is so_far standings are = subst (λ (zs : List _). AreCommons names (fold with_standing standings (map f zs)) now) (take_all i xs le ∙ is) (so_far standings are)

-- one equation more of a list
pub links-next : {X : Type 0} (f : X → Equation) (count : ℕ) (old now new : Storages) (xs : List X) (i : ℕ) (d x : X) → i < length xs → x ≡ get_or xs i d → Links count old now (map f (take i xs)) → Links count now new (f x ∷ []) → Links count old new (map f (take (i + 1) xs))
links-next f count old now new xs i d x lt is so_far step firsts all held =
    let came : map f (take (i + 1) xs) ≡ map f (take i xs) ++ f x ∷ [] = map_more f xs i d lt ∙ ap (λ y. map f (take i xs) ++ f y ∷ []) (sym is) in
    let joined : (all ++ map f (take i xs)) ++ f x ∷ [] ≡ all ++ map f (take (i + 1) xs) = append_assoc all (map f (take i xs)) (f x ∷ []) ∙ ap (λ ys. all ++ ys) (sym came) in
    subst (λ (es : List Equation). AreStorages count firsts es new) joined (step firsts (all ++ map f (take i xs)) (so_far firsts all held))

-- the equation that a call passed
pub told-equation : (count : ℕ) (firsts : List ℕ) (all : List Equation) (new : Storages) (from to : ℕ) (z : ℤ) (e : Equation) → AreStorages count firsts (all ++ (record { from = from; to = to; distance = z }) ∷ []) new → from ≡ e.from → to ≡ e.to → z ≡ e.distance → AreStorages count firsts (all ++ e ∷ []) new
told-equation count firsts all new from to z e held a b d =
    let P : ℕ → ℕ → ℤ → Type 0 = λ x y w. AreStorages count firsts (all ++ (record { from = x; to = y; distance = w }) ∷ []) new in
    subst (λ (w : ℤ). P e.from e.to w) d (subst (λ (y : ℕ). P e.from y z) b (subst (λ (x : ℕ). P x to z) a held))

-- a difference of two distances, as the code computes it
pub difference-is : (p q : ℤ) (m n : ℕ) → p ≡ pos m → q ≡ pos n → m ≤ 262145 → n ≤ 262145 → again (again p -ℤ again q) ≡ pos m -ℤ pos n
difference-is p q m n is_p is_q few_m few_n =
    let fits_p : SFits w64 p = rw is_p (omega (arith, ints)) in
    let fits_q : SFits w64 q = rw is_q (omega (arith, ints)) in
    let fits : SFits w64 (again p -ℤ again q) = rw (to_z-of_z w64 p fits_p, to_z-of_z w64 q fits_q, is_p, is_q) (omega (arith, ints)) in
    to_z-of_z w64 (again p -ℤ again q) fits ∙ rw (to_z-of_z w64 p fits_p, to_z-of_z w64 q fits_q, is_p, is_q) refl

-- the storages go on being storages of so many names
pub some-next : (count : ℕ) (old new : Storages) (came : List Equation) → AreSome old → length old.parts.items ≡ count → Links count old new came → AreSome new × (length new.parts.items ≡ count)
some-next count old new came some names links =
    let same : some.count ≡ count = sym some.held.parts ∙ names in
    let held : AreStorages count some.firsts some.all old = subst (λ (n : ℕ). AreStorages n some.firsts some.all old) same some.held in
    let now = links some.firsts some.all held in
    (record { count = count; firsts = some.firsts; all = some.all ++ came; held = now }, now.parts)

-- the equations of one item more of a list
pub links-flat : {X : Type 0} (f : X → List Equation) (count : ℕ) (old now new : Storages) (xs : List X) (i : ℕ) (d x : X) → i < length xs → x ≡ get_or xs i d → Links count old now (flat_map f (take i xs)) → Links count now new (f x) → Links count old new (flat_map f (take (i + 1) xs))
links-flat f count old now new xs i d x lt is so_far step firsts all held =
    let came : flat_map f (take (i + 1) xs) ≡ flat_map f (take i xs) ++ f x = ap (flat_map f) (take_more xs i d lt ∙ ap (λ y. take i xs ++ y ∷ []) (sym is)) ∙ sym (flat_map_more f [] (take i xs) x) in
    let joined : (all ++ flat_map f (take i xs)) ++ f x ≡ all ++ flat_map f (take (i + 1) xs) = append_assoc all (flat_map f (take i xs)) (f x) ∙ ap (λ ys. all ++ ys) (sym came) in
    subst (λ (es : List Equation). AreStorages count firsts es new) joined (step firsts (all ++ flat_map f (take i xs)) (so_far firsts all held))

pub extends-flat : {X : Type 0} (f : X → List Standing) (names : List NameInfo) (old now new : Commons) (xs : List X) (i : ℕ) (d x : X) → i < length xs → x ≡ get_or xs i d → Extends names old now (flat_map f (take i xs)) → Extends names now new (f x) → Extends names old new (flat_map f (take (i + 1) xs))
extends-flat f names old now new xs i d x lt is so_far step standings are =
    let came : flat_map f (take (i + 1) xs) ≡ flat_map f (take i xs) ++ f x = ap (flat_map f) (take_more xs i d lt ∙ ap (λ y. take i xs ++ y ∷ []) (sym is)) ∙ sym (flat_map_more f [] (take i xs) x) in
    let folded : fold with_standing standings (flat_map f (take (i + 1) xs)) ≡ fold with_standing (fold with_standing standings (flat_map f (take i xs))) (f x) = ap (fold with_standing standings) came ∙ fold-append with_standing standings (flat_map f (take i xs)) (f x) in
    subst (λ (s : List Standing). AreCommons names s new) (sym folded) (step (fold with_standing standings (flat_map f (take i xs))) (so_far standings are))

pub extends-flat-all : {X : Type 0} (f : X → List Standing) (names : List NameInfo) (old now : Commons) (xs : List X) (i : ℕ) → length xs ≤ i → Extends names old now (flat_map f (take i xs)) → Extends names old now (flat_map f xs)
extends-flat-all f names old now xs i le so_far standings are = subst (λ (zs : List _). AreCommons names (fold with_standing standings (flat_map f zs)) now) (take_all i xs le) (so_far standings are)
