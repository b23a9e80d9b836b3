-- Counts of members by blocks: what they add up to, and how a member that comes or goes changes them.
use Rattle.std.proofs.Common.{◌≡◌, ◌≢◌, ℕ, zero, suc, ◌+◌, ◌-◌, ◌*◌, ◌/◌, ◌<◌, ◌≤◌, ◌^◌, Bool, true, false, List, length, get_or, set, replicate, refl, sym, ap, subst, ◌∙◌, ⊎_elim, arith, length-set}
use Rattle.std.proofs.lemmas.Bool.{cases_eq, cases_Bool, cases_lt}
use Rattle.std.proofs.lemmas.List.{length-replicate, get_or_past, get_or-set_same, get_or-set_other}
use Rattle.std.proofs.Math.Nat.{mul-suc, mul-zero, mul-le-mul_left}
use Rattle.firing.specs.BlockCounts.{AreCounts, CanShift, IsCounted, IsInBlock, before, shifted}
use Rattle.firing.specs.ReadySet.{has, rank, member_count}
use Rattle.firing.proofs.RankLemmas.{HasOneMore, rank_past, rank_slow, rank_member, rank_short, rank_before, rank_after, rank_empty, more_put, more_taken}
use Rattle.std.proofs.lemmas.Grind.{elements}

-- ---- sums of counts

module _ (width : ℕ) (counts : List ℕ) (flags : List Bool) (are : AreCounts width counts flags) where
  pub before_rank : (b : ℕ) → b ≤ length counts → before counts b ≡ rank flags (width * b)
  before_rank zero le = rw mul-zero refl
  before_rank (suc b) le = grind (arith, before_rank b, mul-suc width b)

  pub before_all : before counts (length counts) ≡ member_count flags
  before_all = before_rank (length counts) (omega arith) ∙ rank_past flags (width * length counts) are.covered

  -- no block has more members than numbers
  pub count_fits : (b : ℕ) → b < length counts → get_or counts b 0 ≤ width
  count_fits b inside = grind (arith, rank_slow flags (width * b) (width * b + width))

  -- the count of a member's block
  pub count_some : (k b : ℕ) → b < length counts → has flags k ≡ true → width * b ≤ k → k < width * b + width → 0 < get_or counts b 0
  count_some k b inside member low high = grind (arith, rank_member flags k (width * b) (width * b + width) member low high)

  -- the block of a number in the room
  pub block_inside : (k b : ℕ) → k < length flags → width * b ≤ k → b < length counts
  block_inside k b inside low = grind (arith, elements, mul-le-mul_left)

-- ---- a change of one count

-- the second list counts one more
record CountsOneMore (few many : List ℕ) (b : ℕ) : Type 0 where
  same_length : length few ≡ length many
  is : get_or many b 0 ≡ get_or few b 0 + 1
  others : (j : ℕ) → j ≢ b → get_or few j 0 ≡ get_or many j 0

-- blocks before and after another one
apart : (width a b : ℕ) → a < b → width * a + width ≤ width * b
apart width a b lt = grind (arith, elements, mul-le-mul_left, mul-suc)

module _ (width : ℕ) (few many : List Bool) (k b : ℕ) (more : HasOneMore few many k) (low : width * b ≤ k) (high : k < width * b + width) where
  -- what the block at a number gains
  record Gains (j one : ℕ) : Type 0 where
    first : ℕ
    start : rank many (width * j) ≡ rank few (width * j) + first
    end : rank many (width * j + width) ≡ rank few (width * j + width) + (first + one)

  gains_here : Gains b 1
  gains_here = record { first = 0; start = let e = rank_before few many k (width * b) more low in omega (arith, e); end = rank_after few many k (width * b + width) more high }

  gains_other : (j : ℕ) → j ≢ b → Gains j 0
  gains_other j differ = ⊎_elim
      (λ (lt : j < b).
      let room = apart width j b lt in
      let start = rank_before few many k (width * j) more (omega (arith, room, low)) in
      let end = rank_before few many k (width * j + width) more (omega (arith, room, low)) in
      record { first = 0; start = omega (arith, start); end = omega (arith, end) })
      (λ (le : b ≤ j).
      let room = apart width b j (omega (arith, le, differ)) in
      let start = rank_after few many k (width * j) more (omega (arith, room, high)) in
      let end = rank_after few many k (width * j + width) more (omega (arith, room, high)) in
      record { first = 1; start = omega (arith, start); end = omega (arith, end) })
      (cases_lt j b)

  counts_come : (cf cm : List ℕ) → CountsOneMore cf cm b → AreCounts width cf few → AreCounts width cm many
  counts_come cf cm one are = record {
    covered = let covered = are.covered in let same = more.same_room in let length = ap (λ n. width * n) one.same_length in omega (arith, covered, same, length);
    counted = λ j inside. let old = are.counted j (omega (arith, inside, one.same_length)) in ⊎_elim
        (λ (same : j ≡ b).
        let gains = subst (λ i. Gains i 1) (sym same) gains_here in
        let here : get_or cm j 0 ≡ get_or cf j 0 + 1 = subst (λ i. get_or cm i 0 ≡ get_or cf i 0 + 1) (sym same) one.is in
        omega (arith, old, here, gains.start, gains.end))
        (λ differ. let gains = gains_other j differ in let here = one.others j differ in omega (arith, old, here, gains.start, gains.end))
        (cases_eq j b);
  }

  counts_go : (cf cm : List ℕ) → CountsOneMore cf cm b → AreCounts width cm many → AreCounts width cf few
  counts_go cf cm one are = record {
    covered = let covered = are.covered in let same = more.same_room in let length = ap (λ n. width * n) one.same_length in omega (arith, covered, same, length);
    counted = λ j inside. let old = are.counted j (omega (arith, inside, one.same_length)) in ⊎_elim
        (λ (same : j ≡ b).
        let gains = subst (λ i. Gains i 1) (sym same) gains_here in
        let here : get_or cm j 0 ≡ get_or cf j 0 + 1 = subst (λ i. get_or cm i 0 ≡ get_or cf i 0 + 1) (sym same) one.is in
        omega (arith, old, here, gains.start, gains.end))
        (λ differ. let gains = gains_other j differ in let here = one.others j differ in omega (arith, old, here, gains.start, gains.end))
        (cases_eq j b);
  }

count_put : (counts : List ℕ) (b : ℕ) → b < length counts → CountsOneMore counts (set counts b (get_or counts b 0 + 1)) b
count_put counts b inside =
    grind (arith, length-set counts b (get_or counts b 0 + 1), get_or-set_same counts b (get_or counts b 0 + 1) 0 inside, get_or-set_other counts b)

count_taken : (counts : List ℕ) (b : ℕ) → b < length counts → 0 < get_or counts b 0 → CountsOneMore (set counts b (get_or counts b 0 - 1)) counts b
count_taken counts b inside some =
    grind (arith, length-set counts b (get_or counts b 0 - 1), get_or-set_same counts b (get_or counts b 0 - 1) 0 inside, get_or-set_other counts b)

-- a flag that changes, and the count of its block with it
pub counts_put : (width : ℕ) (counts : List ℕ) (flags : List Bool) (k b : ℕ) (ready : Bool) → AreCounts width counts flags → k < length flags → has flags k ≢ ready → width * b ≤ k → k < width * b + width → AreCounts width (set counts b (shifted (get_or counts b 0) ready)) (set flags k ready)
counts_put width counts flags k b true are inside differ low high =
    grind (arith, block_inside width counts flags are k b inside low, counts_come width flags, more_put flags k inside, count_put counts b)
counts_put width counts flags k b false are inside differ low high =
    grind (arith, block_inside width counts flags are k b inside low, count_some width counts flags are k b, counts_go width, more_taken flags k inside, count_taken counts b)

total_put : (flags : List Bool) (k : ℕ) (ready : Bool) → k < length flags → has flags k ≢ ready → member_count (set flags k ready) ≡ shifted (member_count flags) ready
total_put flags k true inside differ =
    grind (arith, length-set flags k true, rank_after flags (set flags k true) k (length flags), more_put flags k inside)
total_put flags k false inside differ =
    grind (arith, rank_after (set flags k false) flags k (length flags), more_taken flags k inside, length-set flags k false)

-- what a number that comes needs of a count, and what one that goes does
come_fits : (width : ℕ) (counts : List ℕ) (flags : List Bool) (k b : ℕ) → AreCounts width counts flags → k < length flags → width * b ≤ k → get_or counts b 0 ≤ width
come_fits width counts flags k b are inside low = count_fits width counts flags are b (block_inside width counts flags are k b inside low)

go_some : (width : ℕ) (counts : List ℕ) (flags : List Bool) (k b : ℕ) (ready : Bool) → AreCounts width counts flags → k < length flags → has flags k ≢ ready → width * b ≤ k → k < width * b + width → ready ≡ false → 0 < get_or counts b 0
go_some width counts flags k b ready are inside differ low high is =
    grind (arith, count_some width counts flags are k b (block_inside width counts flags are k b inside low), block_inside width counts flags are k b inside low)

can_shift : (width : ℕ) (counts : List ℕ) (flags : List Bool) (k b : ℕ) (ready : Bool) → AreCounts width counts flags → k < length flags → has flags k ≢ ready → width < 2 ^ 32 - 1 → width * b ≤ k → k < width * b + width → CanShift counts b ready
can_shift width counts flags k b ready are inside differ small low high =
    grind (arith, block_inside width counts flags are k b inside low, come_fits width counts flags k b are inside low, go_some width counts flags k b ready are inside differ low high)

pub total_fits : (flags : List Bool) (k : ℕ) (ready : Bool) → k < length flags → has flags k ≢ ready → ready ≡ true → member_count flags < length flags
total_fits flags k ready inside differ is = rank_short flags k (length flags) (⊎_elim (λ e. absurd (differ (e ∙ sym is))) (λ e. e) (cases_Bool (has flags k))) inside

pub total_some : (flags : List Bool) (k : ℕ) (ready : Bool) → k < length flags → has flags k ≢ ready → ready ≡ false → 0 < member_count flags
total_some flags k ready inside differ is = grind (arith, rank_member flags k 0 (length flags))

-- ---- the counts of all levels in a set of a room

module _ (flags : List Bool) (low mid high : List ℕ) (total room : ℕ) (are : IsCounted flags low mid high total) (room_is : length flags ≡ room) (k : ℕ) (ready : Bool) (inside : k < length flags) (differs : has flags k ≢ ready) where
  pub low_shifts : 1024 < room → CanShift low (k / 1024) ready
  low_shifts many = can_shift 1024 low flags k (k / 1024) ready (are.low_counts (omega (arith, many, room_is))) inside differs (omega arith) (omega arith) (omega arith)

  pub mid_shifts : 32768 < room → CanShift mid (k / 32768) ready
  mid_shifts many = can_shift 32768 mid flags k (k / 32768) ready (are.mid_counts (omega (arith, many, room_is))) inside differs (omega arith) (omega arith) (omega arith)

  pub high_shifts : 32768 < room → CanShift high (k / 1048576) ready
  high_shifts many = can_shift 1048576 high flags k (k / 1048576) ready (are.high_counts (omega (arith, many, room_is))) inside differs (omega arith) (omega arith) (omega arith)

  pub all_put : (new_low new_mid new_high : List ℕ) → (1024 < room → new_low ≡ set low (k / 1024) (shifted (get_or low (k / 1024) 0) ready)) → (32768 < room → new_mid ≡ set mid (k / 32768) (shifted (get_or mid (k / 32768) 0) ready)) → (32768 < room → new_high ≡ set high (k / 1048576) (shifted (get_or high (k / 1048576) 0) ready)) → IsCounted (set flags k ready) new_low new_mid new_high (shifted total ready)
  all_put new_low new_mid new_high low_is mid_is high_is =
      grind (arith, length-set flags k ready, counts_put 1024 low flags k (k / 1024) ready, counts_put 32768 mid flags k (k / 32768) ready, counts_put 1048576 high flags k (k / 1048576) ready, total_put flags k ready inside differs)

-- ---- the empty set

pub zeros : (n i : ℕ) → get_or {A = ℕ} (replicate n 0) i 0 ≡ 0
zeros zero i = get_or_past (replicate zero 0) i 0 (omega arith)
zeros (suc n) zero = refl
zeros (suc n) (suc i) = zeros n i

none_counted : (width room blocks : ℕ) → room ≤ width * blocks → AreCounts width (replicate blocks 0) (replicate room false)
none_counted width room blocks enough = grind (arith, length-replicate, rank_empty room, zeros blocks)

pub empty_counted : (room : ℕ) → IsCounted (replicate room false) (replicate (room / 1024 + 1) 0) (replicate (room / 32768 + 1) 0) (replicate (room / 1048576 + 1) 0) 0
empty_counted room =
    grind (arith, none_counted 1024 room (room / 1024 + 1), none_counted 32768 room (room / 32768 + 1), none_counted 1048576 room (room / 1048576 + 1), rank_empty room (length (replicate room false)))

-- ---- the search for a member, from the blocks of one width to those of a smaller one

module _ (flags : List Bool) (width place b left : ℕ) (within : place < member_count flags) (block : IsInBlock flags width place b left) where
  pub block_few : width * b < length flags
  block_few = grind (arith, rank_past)

-- where a search through the counts of smaller blocks begins
pub record Starts (counts : List ℕ) (first left place : ℕ) : Type 0 where
  pub inside : first ≤ length counts
  pub same : before counts first + left ≡ place
  pub some : before counts first + left < before counts (length counts)

times : (ratio width b : ℕ) → ratio * width * b ≡ width * (ratio * b)
times ratio width b = grind arith

module _ (width : ℕ) (counts : List ℕ) (flags : List Bool) (are : AreCounts width counts flags) (place : ℕ) (within : place < member_count flags) where
  pub starts : (ratio b left : ℕ) → IsInBlock flags (ratio * width) place b left → Starts counts (ratio * b) left place
  starts ratio b left block =
      let few = block_few flags (ratio * width) place b left within block in
      let turned = times ratio width b in
      let covered = are.covered in
      let inside : ratio * b ≤ length counts = ⊎_elim
      (λ (past : length counts < ratio * b). let le : width * length counts ≤ width * (ratio * b) = mul-le-mul_left width (omega (arith, past)) in absurd (omega (arith, few, turned, covered, le)))
      (λ le. le)
      (cases_lt (length counts) (ratio * b)) in
      let same : before counts (ratio * b) ≡ rank flags (ratio * width * b) = before_rank width counts flags are (ratio * b) inside ∙ ap (rank flags) (sym turned) in
      let start = block.start in
      let all = before_all width counts flags are in
      record { inside = inside; same = omega (arith, same, start); some = omega (arith, same, start, all, within) }

  pub starts_first : Starts counts 0 place place
  starts_first = record { inside = omega arith; same = omega arith; some = let all = before_all width counts flags are in omega (arith, all, within) }

  pub found : (b left : ℕ) → b < length counts → before counts b + left ≡ place → left < get_or counts b 0 → IsInBlock flags width place b left
  found b left inside same short = grind (arith, before_rank width counts flags are b)

-- counts in a slice, and a set as its callers see it
pub counts_of : (width : ℕ) (slice counts : List ℕ) (flags value : List Bool) → slice ≡ counts → flags ≡ value → AreCounts width counts flags → AreCounts width slice value
counts_of width slice counts flags value is seen are = subst (λ xs. AreCounts width xs value) (sym is) (subst (λ set. AreCounts width counts set) seen are)
