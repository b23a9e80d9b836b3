-- A block that is merged has no more places than there are entities that get names of their own.
use Rattle.std.proofs.Common.{◌≡◌, ℕ, ◌<◌, ◌≤◌, ◌==◌, Bool, true, false, not, ◌||◌, ◌&&◌, List, [], ◌∷◌, filter, length, map, Option, if◌then◌else◌, refl, arith}
use Rattle.std.specs.List.{list_any, range_with_len}
use Rattle.std.proofs.lemmas.List.{length-map}
use Rattle.std.proofs.lemmas.List.FromFn.{length-range_with_len}
use Rattle.std.proofs.lemmas.List.Sums.{count_by-le-length, length-filter}
use Rattle.std.proofs.lemmas.Map.Steps.{le-length_from_below}
use Rattle.f77_tree.specs.declared.statements.Labelled.{Labelled}
use Rattle.f77_tree.specs.Places.{same_block}
use Rattle.program_units.specs.declared.entity.Entity.{Entity}
use Rattle.program_units.specs.declared.entity.Entity.TheVariants.{Local, InBlock}
use Rattle.program_units.specs.Expansion.{block_size}
use Rattle.program_units.specs.NamedEntities.{AreAllNamed, has_main_name}
use Rattle.program_units.specs.Names.{has_block, same_entity, y_entities}
use Rattle.program_units.specs.Merged.{is_merged, is_run_block}
use Rattle.program_units.specs.Units.{unit_at}

pub passing-few : (p : ℕ → Bool) (a n : ℕ) → length (filter p (range_with_len a n)) ≤ n
passing-few p a n =
    let passing = length-filter p (range_with_len a n) in
    let most = count_by-le-length p (range_with_len a n) in
    let all = length-range_with_len a n in
    omega (arith, passing, most, all)

abbrev place_of : Entity → ℕ
place_of (Local k x) = 0
place_of (InBlock block place) = place

either : (a b c d : Bool) → ((a && b) || c) ≡ true → (c ≡ true → d ≡ true) → (b || d) ≡ true
either a true c d is later = refl
either true false c d is later = later is
either false false c d is later = later is

behind : (a b : Bool) → b ≡ true → (a || b) ≡ true
behind true b is = refl
behind false b is = is

met : (block : Option (List ℕ)) (q : ℕ) (es : List Entity) → list_any (same_entity (InBlock block q)) es ≡ true → list_any (λ n. q == n) (map place_of es) ≡ true
met block q [] is = let e : false ≡ true = is in absurd cc
met block q (Local k x ∷ es) is = behind (q == 0) (list_any (λ n. q == n) (map place_of es)) (met block q es is)
met block q (InBlock b i ∷ es) is = either (same_block block b) (q == i) (list_any (same_entity (InBlock block q)) es) (list_any (λ n. q == n) (map place_of es)) is (met block q es)

own-place : (main : Bool) (other own run : Bool) → (not main && run) ≡ true → (if main then other else own) ≡ true → own ≡ true
own-place true other own run put named = let e : false ≡ true = put in absurd cc
own-place false other own run put named = named

pub places-few : (us : List (List Labelled)) (block : Option (List ℕ)) → AreAllNamed us → is_merged us block ≡ true → block_size us block ≤ length (y_entities us)
places-few us block are put =
    let all : (q : ℕ) → q < block_size us block → list_any (λ n. q == n) (map place_of (y_entities us)) ≡ true = λ q below.
    met block q (y_entities us) (own-place (has_block (unit_at us 0) block) (has_main_name us (InBlock block q)) (list_any (same_entity (InBlock block q)) (y_entities us)) (is_run_block us block) put (are.places block q put below))
    in
    let few = le-length_from_below (map place_of (y_entities us)) (block_size us block) all in
    let long = length-map (y_entities us) place_of in
    omega (arith, few, long)
