-- What the laws say of a run: the order that its firings are, and what every other order comes to.
use Rattle.std.proofs.Common.{◌≡◌, ℕ, zero, suc, ◌+◌, ◌<◌, ◌≤◌, ◌++◌, List, [], ◌∷◌, length, Option, Some, refl, sym, ap, subst, ◌∙◌, add-one, length-append, append-nil, append_assoc, arith}
use Rattle.std.proofs.Math.Seq.{take-append-add}
use Rattle.std.specs.Io.KnownBytes.{Appends}
use Rattle.df_io.specs.Write.{AppendsPrefix}
use Rattle.op_table.specs.declared.Trap.{Trap}
use Rattle.firing.specs.declared.playing.PlayEnd.{PlayEnd}
use Rattle.firing.specs.declared.playing.PlayEnd.TheVariants.{Rest, Trapped}
use Rattle.firing.specs.declared.playing.Show.{Show}
use Rattle.firing.specs.declared.playing.Show.TheVariants.{Output}
use Rattle.firing.specs.Laws.{IsLawful}
use Rattle.firing.specs.Moves.{Moves, CanFire, line_bytes}
use Rattle.firing.specs.Orders.{IsOrder, IsOver, IsWhole, Settles, Traps, after, written as written_by}
use Rattle.firing.specs.Play.{Moment, Way, played, node_at, shown_at, shown, BreaksOff, EndsBy, Writes, WritesOutput, Counts, MakesOrder, Plays}
use Rattle.firing.specs.Runs.{HasOrder}
use Rattle.firing.proofs.Resting.{settles}
use Rattle.firing.proofs.Trapping.{traps}

module _ {M : Type 0} (s : Moves M) where
  after_last : (m : M) (ks : List ℕ) (k : ℕ) → after s m (ks ++ k ∷ []) ≡ s.fired (after s m ks) k
  after_last m [] k = refl
  after_last m (j ∷ ks) k = after_last (s.fired m j) ks k

  order_last : (m : M) (ks : List ℕ) (k : ℕ) → IsOrder s m ks → CanFire s (after s m ks) k → IsOrder s m (ks ++ k ∷ [])
  order_last m [] k order can = (can, tt)
  order_last m (j ∷ ks) k (first, order) can = (first, order_last (s.fired m j) ks k order can)

  lines_last : (m : M) (ks : List ℕ) (k : ℕ) → written_by s m (ks ++ k ∷ []) ≡ written_by s m ks ++ line_bytes (s.line (after s m ks) k)
  lines_last m [] k = append-nil (line_bytes (s.line m k))
  lines_last m (j ∷ ks) k = ap (λ bytes. line_bytes (s.line m j) ++ bytes) (lines_last (s.fired m j) ks k) ∙ sym (append_assoc (line_bytes (s.line m j)) (written_by s (s.fired m j) ks) (line_bytes (s.line (after s (s.fired m j) ks) k)))

-- n firings as an order that leads to this end
record Ordered {M : Type 0} (s : Moves M) (start : M) (n : ℕ) (end : M) (output : List ℕ) : Type 0 where
  nodes : List ℕ
  order : IsOrder s start nodes
  count : length nodes ≡ n
  leads : after s start nodes ≡ end
  lines : written_by s start nodes ≡ output

module _ {M P : Type 0} (w : Way M P) (start : Moment M P) where
  ordered : (n : ℕ) → ((j : ℕ) → j < n → CanFire w.moves (played w start j).marking (node_at w start j)) → Ordered w.moves start.marking n (played w start n).marking (shown w Output start n)
  ordered zero going = record { nodes = []; order = tt; count = refl; leads = refl; lines = refl }
  ordered (suc n) going =
      grind (arith, ordered n, order_last w.moves start.marking, length-append, add-one n, after_last w.moves start.marking, lines_last w.moves start.marking)

  pub order_of : (n : ℕ) → ((j : ℕ) → j < n → CanFire w.moves (played w start j).marking (node_at w start j)) → HasOrder w start n
  order_of n going = grind (arith, ordered n going)

-- ---- what is written of a run as output

module _ {M P : Type 0} (w : Way M P) (start : Moment M P) where
  broken : (n : ℕ) (old new : Option (List ℕ)) → BreaksOff w Output start n old new → AppendsPrefix old new (shown w Output start n)
  broken n old new b =
      let before = shown w Output start b.last in
      let last = shown_at w Output start b.last in
      let within = b.within in
      let prefix : AppendsPrefix old new (before ++ last) = record {
        count = length before + b.count;
        within = let all = length-append before last in omega (arith, all, within);
        added = subst (Appends old new) (sym (take-append-add before last b.count)) b.written;
      } in
      subst (λ i. AppendsPrefix old new (shown w Output start i)) (sym b.is) prefix

  writes_output : (show : Show) (n : ℕ) (old new : Option (List ℕ)) (result : PlayEnd) → Writes w show start n old new result → WritesOutput show (shown w Output start n) old new result
  writes_output h n old new result writes = grind (arith, broken)

-- ---- what the laws say of a run

counts : {M P : Type 0} (w : Way M P) (start : Moment M P) (limit n made : ℕ) (result : PlayEnd) → made ≡ n → n ≤ limit → EndsBy w start limit n result → Counts limit made result
counts w start limit n made h is le ends = grind arith

module _ {M P : Type 0} {sound : M → Type 0} {w : Way M P} (lawful : IsLawful sound w.moves) {start : Moment M P} (is_sound : sound start.marking) {limit : ℕ} {show : Show} {end : Moment M P} {old new : Option (List ℕ)} where
  firings_of : {result : PlayEnd} (plays : Plays w start limit show end old new result) → Ordered w.moves start.marking plays.firings end.marking (shown w Output start plays.firings)
  firings_of plays = subst (λ (x : Moment M P). Ordered w.moves start.marking plays.firings x.marking (shown w Output start plays.firings)) (sym plays.leads) (ordered w start plays.firings plays.going)

  pub makes_order : {result : PlayEnd} → Plays w start limit show end old new result → MakesOrder w.moves start.marking limit show end.marking old new result
  makes_order {result} plays =
      grind (arith, firings_of plays, counts w start limit plays.firings, writes_output w start show plays.firings old new result plays.writes)

  pub rest_settles : {result : PlayEnd} → Plays w start limit show end old new result → (n : ℕ) → result ≡ Rest n → Settles w.moves start.marking n end.marking
  rest_settles plays n is =
      let run : Plays w start limit show end old new (Rest n) = subst (Plays w start limit show end old new) is plays in
      let all = firings_of run in
      let there : (played w start run.firings).marking ≡ after w.moves start.marking all.nodes = ap (λ (x : Moment M P). x.marking) (sym run.leads) ∙ sym all.leads in
      let whole : IsWhole w.moves start.marking all.nodes = record { order = all.order; over = subst (IsOver w.moves) there run.ends.2 } in
      let rest = settles sound w.moves lawful start.marking all.nodes is_sound whole (ap w.moves.trap (sym there) ∙ run.ends.1) in
      subst (λ i. Settles w.moves start.marking i end.marking) (all.count ∙ sym run.ends.0) (subst (Settles w.moves start.marking (length all.nodes)) all.leads rest)

  pub trap_traps : {result : PlayEnd} → Plays w start limit show end old new result → (trap : Trap) (line : ℕ) → result ≡ Trapped trap line → Traps w.moves start.marking (trap, line)
  trap_traps plays trap line is =
      let run : Plays w start limit show end old new (Trapped trap line) = subst (Plays w start limit show end old new) is plays in
      let all = firings_of run in
      let trapped : w.moves.trap (after w.moves start.marking all.nodes) ≡ Some (trap, line) = ap w.moves.trap all.leads ∙ ap (λ (x : Moment M P). w.moves.trap x.marking) run.leads ∙ run.ends in
      traps sound w.moves lawful (trap, line) start.marking all.nodes is_sound all.order trapped
