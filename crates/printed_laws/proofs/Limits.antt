-- How great a limit can be that words tell.
use Rattle.std.proofs.Common.{◌≡◌, ℕ, suc, ◌+◌, ◌-◌, ◌*◌, ◌<◌, ◌≤◌, ◌^◌, Bool, true, false, ◌&&◌, if◌then◌else◌, List, [], ◌∷◌, length, drop, take, Option, Some, None, fold, codes, nat_le, refl, ap, ◌∙◌, subst, arith}
use Rattle.std.specs.List.{list_all}
use Rattle.std.specs.Str.{bytes_eq}
use Rattle.std.proofs.Math.Nat.{lt_of_lt_of_le, lt_trans, mul_assoc, mul-le-mul_right, pow-le-pow_right, pow-suc}
use Rattle.std.proofs.lemmas.Bool.{and_parts, leb-true}
use Rattle.f77_tree.specs.Name.{is_figure}
use Rattle.fixed_form.specs.Columns.{number}
use Rattle.job_terms.specs.declared.task.Told.{Told}
use Rattle.dfc_driver.specs.declared.words.Setting.TheVariants as setting
use Rattle.job_terms.specs.Tasks.{Asked, Play, Forks, Regen, Regions, Graph, Run, Task}
use Rattle.dfc_driver.specs.Words.{Job, On, Sample, after, are_digits_to, asked_of, dialect_after, dialect_of, forks_of, game_of_words, is_sample, is_setting, is_text, job_of, limit_in, name_of, on, play_of, run_of, sample_of, text_of, told_by, values_in, word_value}

figure : (c : ℕ) → is_figure c ≡ true → c - 48 ≤ 9
figure c is =
    let both = and_parts (nat_le 48 c) (nat_le c 57) is in
    let low = leb-true 48 c both.0 in
    let high = leb-true c 57 both.1 in
    omega (arith, low, high)

grown : (n m d p q : ℕ) → d ≤ 9 → m < suc (10 * n + d) * p → 10 * p ≡ q → m < suc n * q
grown n m d p q le lt is =
    let most : suc (10 * n + d) * p ≤ (suc n * 10) * p = mul-le-mul_right p (omega (arith, le)) in
    let same : (suc n * 10) * p ≡ suc n * q = mul_assoc (suc n) 10 p ∙ ap (λ r. suc n * r) is in
    omega (arith, lt, most, same)

ten_times : (p q : ℕ) → q ≡ p * 10 → 10 * p ≡ q
ten_times p q is = omega (arith, is)

number_after : (n : ℕ) (digits : List ℕ) → list_all is_figure digits ≡ true → fold (λ m d. 10 * m + (d - 48)) n digits < suc n * 10 ^ length digits
number_after n [] are = omega arith
number_after n (c ∷ digits) are =
    let both = and_parts (is_figure c) (list_all is_figure digits) are in
    grown n (fold (λ m d. 10 * m + (d - 48)) (10 * n + (c - 48)) digits) (c - 48) (10 ^ length digits) (10 ^ suc (length digits)) (figure c both.0) (number_after (10 * n + (c - 48)) digits both.1)
    (ten_times (10 ^ length digits) (10 ^ suc (length digits)) (pow-suc 10 (length digits)))

once : (n p : ℕ) → n < 1 * p → n < p
once n p lt = omega (arith, lt)

some_ten : 0 < 10
some_ten = omega arith

small_power : 10 ^ 18 < 2 ^ 63
small_power = omega arith

million_small : 1000000 < 2 ^ 63
million_small = omega arith

-- a number of so few digits
number_small : (digits : List ℕ) → are_digits_to 18 digits ≡ true → number digits < 2 ^ 63
number_small digits are =
    let some = nat_le 1 (length digits) in
    let few = nat_le (length digits) 18 in
    let all = list_all is_figure digits in
    let parts = and_parts (some && few) all are in
    let le = leb-true (length digits) 18 (and_parts some few parts.0).1 in
    let lt = once (number digits) (10 ^ length digits) (number_after 0 digits parts.1) in
    lt_trans (lt_of_lt_of_le lt (pow-le-pow_right some_ten le)) small_power

-- ---- limits that words tell

text_small : (text : List ℕ) → is_text setting.Limit text ≡ true → limit_in text < 2 ^ 63
text_small [] is = million_small
text_small (c ∷ text) is = number_small (c ∷ text) is

given_small : (word : List ℕ) (b : Bool) → is_setting setting.Limit word ≡ b → limit_in (if b then drop (length (name_of setting.Limit)) word else []) < 2 ^ 63
given_small word false is = million_small
given_small word true is =
    let text = drop (length (name_of setting.Limit)) word in
    let both = and_parts (bytes_eq (take (length (name_of setting.Limit)) word) (name_of setting.Limit)) (is_text setting.Limit text) is in
    text_small text both.1

limit_small : (words : List (List ℕ)) → limit_in (text_of setting.Limit words) < 2 ^ 63
limit_small [] = million_small
limit_small (word ∷ words) = given_small word (is_setting setting.Limit word) refl

-- the limit of a game
abbrev limit_of : Option Job → ℕ
limit_of None = 0
limit_of (Some (Sample n)) = 0
limit_of (Some (On Regions checked)) = 0
limit_of (Some (On Graph checked)) = 0
limit_of (Some (On (Play told asked) checked)) = asked.limit
limit_of (Some (On (Forks nodes asked) checked)) = asked.limit
limit_of (Some (On Regen checked)) = 0
limit_of (Some (On (Run limit input) checked)) = 0

abbrev IsSmall : Option Job → Type 0
IsSmall job = limit_of job < 2 ^ 63

none_small : 0 < 2 ^ 63
none_small = omega arith

small_if : (b : Bool) (one other : Option Job) → IsSmall one → IsSmall other → IsSmall (if b then one else other)
small_if true one other first second = first
small_if false one other first second = second

on_small : (task : Task) (d : Option Bool) → ((checked : Bool) → IsSmall (Some (On task checked))) → IsSmall (on task d)
on_small task None each = none_small
on_small task (Some checked) each = each checked

play_small : (told : Told) (words : List (List ℕ)) → IsSmall (play_of told words)
play_small told words = on_small (Play told (asked_of words)) (dialect_after words) (λ checked. limit_small words)

forks_small : (words : List (List ℕ)) → IsSmall (forks_of words)
forks_small [] = on_small (Forks false (asked_of [])) (dialect_after []) (λ checked. limit_small [])
forks_small (word ∷ words) =
    let with_nodes = on (Forks true (asked_of words)) (dialect_after words) in
    let without = on (Forks false (asked_of (word ∷ words))) (dialect_after (word ∷ words)) in
    small_if (bytes_eq word (codes "nodes")) with_nodes without
    (on_small (Forks true (asked_of words)) (dialect_after words) (λ checked. limit_small words))
    (on_small (Forks false (asked_of (word ∷ words))) (dialect_after (word ∷ words)) (λ checked. limit_small (word ∷ words)))

game_small : (told : Option Told) (words : List (List ℕ)) → IsSmall (game_of_words told words)
game_small None words = none_small
game_small (Some told) words = play_small told words

run_small : (words : List (List ℕ)) → IsSmall (run_of words)
run_small words =
    let after_limit = after setting.Limit words in
    on_small (Run (limit_in (text_of setting.Limit words)) (values_in word_value (text_of setting.Data after_limit))) (dialect_of (after setting.Data after_limit)) (λ checked. none_small)

sample_small : (words : List (List ℕ)) → IsSmall (sample_of words)
sample_small [] = none_small
sample_small (word ∷ []) = small_if (is_sample word) (Some (Sample (number word))) None none_small none_small
sample_small (word ∷ more ∷ words) = none_small

job_small : (words : List (List ℕ)) → IsSmall (job_of words)
job_small [] = none_small
job_small (word ∷ words) =
    let forks_job = if bytes_eq word (codes "forks") then forks_of words else game_of_words (told_by word) words in
    let sample_job = if bytes_eq word (codes "sample") then sample_of words else forks_job in
    let run_job = if bytes_eq word (codes "run") then run_of words else sample_job in
    let regen_job = if bytes_eq word (codes "regen") then on Regen (dialect_of words) else run_job in
    let graph_job = if bytes_eq word (codes "graph") then on Graph (dialect_of words) else regen_job in
    let forks = small_if (bytes_eq word (codes "forks")) (forks_of words) (game_of_words (told_by word) words) (forks_small words) (game_small (told_by word) words) in
    let sample = small_if (bytes_eq word (codes "sample")) (sample_of words) forks_job (sample_small words) forks in
    let run = small_if (bytes_eq word (codes "run")) (run_of words) sample_job (run_small words) sample in
    let regen = small_if (bytes_eq word (codes "regen")) (on Regen (dialect_of words)) run_job (on_small Regen (dialect_of words) (λ checked. none_small)) run in
    let graph = small_if (bytes_eq word (codes "graph")) (on Graph (dialect_of words)) regen_job (on_small Graph (dialect_of words) (λ checked. none_small)) regen in
    small_if (bytes_eq word (codes "regions")) (on Regions (dialect_of words)) graph_job (on_small Regions (dialect_of words) (λ checked. none_small)) graph

pub limits_are_small : (words : List (List ℕ)) (told : Told) (asked : Asked) (checked : Bool) → job_of words ≡ Some (On (Play told asked) checked) → asked.limit < 2 ^ 63
limits_are_small words told asked checked is = subst IsSmall is (job_small words)
