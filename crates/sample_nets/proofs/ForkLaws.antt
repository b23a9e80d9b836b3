-- Readers of one word keep the laws of firing, by their footprints.
use Rattle.std.proofs.Common.{◌≡◌, ◌≢◌, ◌⊎◌, ◌+◌, ◌&&◌, ℕ, zero, suc, Bool, true, false, not, inl, inr, refl, sym, ap, ◌∙◌, arith}
use Rattle.firing.specs.Footprints.{IsUpdated, LooksShared, SharesFootprints}
use Rattle.firing.specs.Laws.{IsLawful, AreReady}
use Rattle.firing.specs.Moves.{IsSilent}
use Rattle.firing.proofs.FootprintLemmas.{shared_lawful}
use Rattle.sample_nets.specs.Forks.{Fork, fork_ready, fork_fired, fork_moves, is_writer, any_fork, Part, Line, Word, First, Second, Readers, Value, at, foot, shares, update}
use Rattle.std.proofs.lemmas.Bool.{and_parts}

abbrev Updated : Fork → Fork → ℕ → Part → Type 0
Updated m n k part = IsUpdated any_fork fork_moves at shares update m n k part

abbrev Seen : Fork → Fork → ℕ → Type 0
Seen m n k = LooksShared any_fork fork_moves at foot shares update m n k

-- what a reader sees of its own mark, which the other one leaves
first_left : (m n : Fork) → (at n Line ≡ at m Line) ⊎ Updated m n 0 Line → n.first_read ≡ m.first_read
first_left m n (inl is) = ap (λ v. v.first) is
first_left m n (inr u) = by u.other u.both.differ u.other_shares u.is
  where
    by : (k : ℕ) → k ≢ 0 → shares k Line ≡ true → at n Line ≡ update k Line (at m Line) → n.first_read ≡ m.first_read
    by zero differ shared is = absurd (differ refl)
    by (suc zero) differ shared is = ap (λ v. v.first) is
    by (suc (suc k)) differ shared is = absurd cc

second_left : (m n : Fork) → (at n Line ≡ at m Line) ⊎ Updated m n 1 Line → n.second_read ≡ m.second_read
second_left m n (inl is) = ap (λ v. v.second) is
second_left m n (inr u) = by u.other u.both.differ u.other_shares u.is
  where
    by : (k : ℕ) → k ≢ 1 → shares k Line ≡ true → at n Line ≡ update k Line (at m Line) → n.second_read ≡ m.second_read
    by zero differ shared is = ap (λ v. v.second) is
    by (suc zero) differ shared is = absurd (differ refl)
    by (suc (suc k)) differ shared is = absurd cc

-- the writer shares nothing
writer_sees : (m n : Fork) (k : ℕ) (part : Part) → shares (suc (suc k)) part ≡ false → (at n part ≡ at m part) ⊎ Updated m n (suc (suc k)) part → at n part ≡ at m part
writer_sees m n k part not (inl is) = is
writer_sees m n k part not (inr u) = let e : true ≡ false = sym u.shares_too ∙ not in absurd cc

-- the word, which the readers leave
word_left : (m n : Fork) (k : ℕ) → (at n Word ≡ at m Word) ⊎ Updated m n k Word → n.word ≡ m.word
word_left m n k (inl is) = is
word_left m n k (inr u) = by u.other u.is
  where
    by : (j : ℕ) → at n Word ≡ update j Word (at m Word) → n.word ≡ m.word
    by zero is = is
    by (suc zero) is = is
    by (suc (suc j)) is = is

equal : (m n : Fork) → ((part : Part) → at m part ≡ at n part) → m ≡ n
equal m n same =
    let line = same Line in
    let word = same Word in
    let first = same First in
    let second = same Second in
    λ i. record { first_read = (line i).first; second_read = (line i).second; word = word i; first_copy = first i; second_copy = second i }

outside : (m : Fork) (k : ℕ) (part : Part) → foot k part ≡ false → at (fork_fired m k) part ≡ at m part
outside m zero Line not = absurd cc
outside m zero Word not = refl
outside m zero First not = absurd cc
outside m zero Second not = refl
outside m (suc zero) Line not = absurd cc
outside m (suc zero) Word not = refl
outside m (suc zero) First not = refl
outside m (suc zero) Second not = absurd cc
outside m (suc (suc k)) Line not = absurd cc
outside m (suc (suc k)) Word not = absurd cc
outside m (suc (suc k)) First not = refl
outside m (suc (suc k)) Second not = refl

updates : (m : Fork) (k : ℕ) (part : Part) → shares k part ≡ true → at (fork_fired m k) part ≡ update k part (at m part)
updates m zero Line is = refl
updates m zero Word is = refl
updates m zero First is = absurd cc
updates m zero Second is = absurd cc
updates m (suc zero) Line is = refl
updates m (suc zero) Word is = refl
updates m (suc zero) First is = absurd cc
updates m (suc zero) Second is = absurd cc
updates m (suc (suc k)) Line is = absurd cc
updates m (suc (suc k)) Word is = absurd cc
updates m (suc (suc k)) First is = absurd cc
updates m (suc (suc k)) Second is = absurd cc

stays_ready : (m n : Fork) (k : ℕ) → Seen m n k → fork_ready n k ≡ true
stays_ready m n zero seen = ap not (first_left m n (seen.agree Line refl)) ∙ seen.first.ready
stays_ready m n (suc zero) seen = ap not (second_left m n (seen.agree Line refl)) ∙ seen.first.ready
stays_ready m n (suc (suc k)) seen = ap (λ (v : Readers). v.first && v.second) (writer_sees m n k Line refl (seen.agree Line refl)) ∙ seen.first.ready

inside : (m n : Fork) (k : ℕ) → Seen m n k → (part : Part) → foot k part ≡ true → shares k part ≡ false → at (fork_fired n k) part ≡ at (fork_fired m k) part
inside m n zero seen Line mine own = absurd cc
inside m n zero seen Word mine own = absurd cc
inside m n zero seen First mine own = word_left m n 0 (seen.agree Word refl)
inside m n zero seen Second mine own = absurd cc
inside m n (suc zero) seen Line mine own = absurd cc
inside m n (suc zero) seen Word mine own = absurd cc
inside m n (suc zero) seen First mine own = absurd cc
inside m n (suc zero) seen Second mine own = word_left m n 1 (seen.agree Word refl)
inside m n (suc (suc k)) seen Line mine own = refl
inside m n (suc (suc k)) seen Word mine own = ap (λ w. w + 1) (word_left m n (suc (suc k)) (seen.agree Word refl))
inside m n (suc (suc k)) seen First mine own = absurd cc
inside m n (suc (suc k)) seen Second mine own = absurd cc

not_both : {P : Type 0} (a : Bool) → not a ≡ true → a ≡ true → P
not_both true is isnt = absurd cc
not_both false is isnt = absurd cc

-- two ready nodes: the two readers
abbrev Both : Fork → ℕ → ℕ → Type 0
Both m j k = AreReady any_fork fork_moves m j k

writer_alone : {P : Type 0} (m : Fork) (j k : ℕ) → Both m j (suc (suc k)) → P
writer_alone m zero k both = not_both m.first_read both.first.ready ((and_parts m.first_read m.second_read both.second.ready).0)
writer_alone m (suc zero) k both = not_both m.second_read both.first.ready ((and_parts m.first_read m.second_read both.second.ready).1)
writer_alone m (suc (suc j)) k both = let first = both.first.node in let second = both.second.node in absurd (both.differ (omega (arith, first, second)))

apart : (m : Fork) (j k : ℕ) → Both m j k → (part : Part) → foot j part ≡ true → foot k part ≡ true → shares k part ≡ true
apart m j zero both Line theirs mine = refl
apart m j zero both Word theirs mine = refl
apart m zero zero both First theirs mine = absurd (both.differ refl)
apart m (suc zero) zero both First theirs mine = absurd cc
apart m (suc (suc j)) zero both First theirs mine = absurd cc
apart m j zero both Second theirs mine = absurd cc
apart m j (suc zero) both Line theirs mine = refl
apart m j (suc zero) both Word theirs mine = refl
apart m j (suc zero) both First theirs mine = absurd cc
apart m zero (suc zero) both Second theirs mine = absurd cc
apart m (suc zero) (suc zero) both Second theirs mine = absurd (both.differ refl)
apart m (suc (suc j)) (suc zero) both Second theirs mine = absurd cc
apart m j (suc (suc k)) both part theirs mine = writer_alone m j k both

commute : (j k : ℕ) (part : Part) (v : Value part) → shares j part ≡ true → shares k part ≡ true → update j part (update k part v) ≡ update k part (update j part v)
commute zero zero Line v first second = refl
commute zero (suc zero) Line v first second = refl
commute (suc zero) zero Line v first second = refl
commute (suc zero) (suc zero) Line v first second = refl
commute j (suc (suc k)) Line v first second = absurd cc
commute (suc (suc j)) k Line v first second = absurd cc
commute zero zero Word v first second = refl
commute zero (suc zero) Word v first second = refl
commute (suc zero) zero Word v first second = refl
commute (suc zero) (suc zero) Word v first second = refl
commute j (suc (suc k)) Word v first second = absurd cc
commute (suc (suc j)) k Word v first second = absurd cc
commute zero k First v first second = absurd cc
commute (suc zero) k First v first second = absurd cc
commute (suc (suc j)) k First v first second = absurd cc
commute zero k Second v first second = absurd cc
commute (suc zero) k Second v first second = absurd cc
commute (suc (suc j)) k Second v first second = absurd cc

has_line : (k : ℕ) → is_writer k ≡ true → foot k Line ≡ true
has_line zero serial = absurd cc
has_line (suc zero) serial = absurd cc
has_line (suc (suc k)) serial = refl

line_alone : (k : ℕ) → is_writer k ≡ true → shares k Line ≡ false
line_alone zero serial = absurd cc
line_alone (suc zero) serial = absurd cc
line_alone (suc (suc k)) serial = refl

quiet : (m : Fork) (k : ℕ) → is_writer k ≡ false → IsSilent fork_moves m k
quiet m zero not = record { line = refl; trap = refl }
quiet m (suc zero) not = record { line = refl; trap = refl }
quiet m (suc (suc k)) not = absurd cc

pub fork_footprints : SharesFootprints any_fork fork_moves at foot shares update
fork_footprints = record {
  equal = equal;
  outside = λ m k ready part not. outside m k part not;
  updates = λ m k ready part shared. updates m k part shared;
  ready = stays_ready;
  line = λ m n k seen. refl;
  trap = λ m n k seen none other. refl;
  inside = inside;
  apart = apart;
  commute = λ m j k both part first second. commute j k part (at m part) first second;
  output = Line;
  serial = has_line;
  alone = line_alone;
  silent = λ m k is_sound can not. quiet m k not;
  stays_sound = λ m k is_sound can. tt;
}

pub fork_laws : IsLawful any_fork fork_moves
fork_laws = shared_lawful any_fork fork_moves at foot shares update fork_footprints
