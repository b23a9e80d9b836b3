use Rattle.std.proofs.Common.{◌≡◌, ◌<◌, ℕ, ℤ, pos, List, [], ◌∷◌, ◌++◌, length, Contains, cond, get_or, set, true, false, Option, None, Some, sym, ap, subst, ◌∙◌, refl, arith, rules, w64, to_z, of_z}
use Rattle.std.proofs.lemmas.Result.{on_ok_weaker}
use Rattle.std.proofs.lemmas.Int.{to_z-of_z}
use Rattle.std.proofs.lemmas.List.{get_or_read}
use mir.Val.{SFits}
use Rattle.f77_tree.specs.Places.{Equation, same_block}
use Rattle.storage_association.specs.declared.storages.Storages.{Storages}
use Rattle.f77_tree.specs.Declarations.{index_of}
use Rattle.storage_association.specs.declared.equations.Commons.{Commons}
use Rattle.layout_rules.specs.Storage.{Standing, size_at, size_of, last_standing, standing_equations}
use Rattle.storage_association.specs.Storages.{AreStorages}
use Rattle.layout_rules.specs.Standings.{firsts_of}
use Rattle.storage_association.specs.CommonStorages.{last_in}
use Rattle.storage_association.proofs.CommonSteps.{held-first, held-later, stand-old, stand-new, fresh}
use Rattle.storage_association.proofs.equations.Commons.stand.Goals as goal
use Rattle.storage_association.proofs.equations.Commons.stand.Goals.{in-None, in-Some}

pub returns-then-index : goal.returns-then-index
returns-then-index c = λ standings are.
    let s : Standing = record { block = c.args.block.now; name = index_of c.args.names.now c.args.name.now } in
    let stood = c.args.self.now.stood.items in
    let lt : c.index-k.result < length stood = omega (arith, are.each, c.index-k.ensures, c.requires.known) in
    let was : get_or stood s.name false ≡ true = ap (λ j. get_or stood j false) (sym c.index-k.ensures) ∙ sym (get_or_read stood c.index-k.result c.index.result.now lt c.index.ensures false) ∙ c.if-index.true in
    stand-old c.args.names.now standings s c.args.self.now _ are c.requires.known was refl

pub returns : goal.returns
returns c =
    let s : Standing = record { block = c.args.block.now; name = index_of c.args.names.now c.args.name.now } in
    let names = c.args.names.now in
    let old = c.args.self.now in
    on_ok_weaker c.put.result
    (λ (lasts : (other : Option (List ℕ)) → last_in c.put.new.self other ≡ cond (same_block c.args.block.now other) (Some c.index-k.result) (last_in c.match-last.self.blocks other)) standings are.
    let stood = old.stood.items in
    let lt : c.index-k.result < length stood = omega (arith, are.each, c.index-k.ensures, c.requires.known) in
    let was : get_or stood s.name false ≡ false = ap (λ j. get_or stood j false) (sym c.index-k.ensures) ∙ sym (get_or_read stood c.index-k.result c.index.result.now lt c.index.ensures false) ∙ c.if-index.false in
    elim c.match-last.branch [
      | in-None w ↦
          let none : last_standing s.block standings ≡ None = sym (are.lasts s.block) ∙ sym c.last.ensures ∙ w.in-None.is in
          let free : Contains (firsts_of standings) c.index-k.result → ⊥ = λ h. fresh names standings s old are c.requires.known was (subst (λ (j : ℕ). Contains (firsts_of standings) j) c.index-k.ensures h) in
          let begun = w.begin_block.ensures (length names) (firsts_of standings) (standing_equations names [] standings) are.held free in
          let begun_now : AreStorages (length names) (firsts_of standings ++ s.name ∷ []) (standing_equations names [] standings) c.match-last.self.storages = subst (λ (st : Storages). AreStorages (length names) (firsts_of standings ++ s.name ∷ []) (standing_equations names [] standings) st) (sym (ap (λ (x : Commons). x.storages) w.self-is)) (subst (λ (j : ℕ). AreStorages (length names) (firsts_of standings ++ j ∷ []) (standing_equations names [] standings) w.begin_block.new.self) c.index-k.ensures begun) in
          let stood_is : c.match-last.self.stood.items ≡ set stood s.name true = ap (λ (x : Commons). x.stood.items) w.self-is ∙ ap (λ j. set stood j true) c.index-k.ensures in
          let lasts_are : (other : Option (List ℕ)) → last_in c.put.new.self other ≡ cond (same_block s.block other) (Some s.name) (last_in old.blocks other) = λ other. lasts other ∙ ap (λ j. cond (same_block s.block other) (Some j) (last_in c.match-last.self.blocks other)) c.index-k.ensures ∙ ap (λ (x : Commons). cond (same_block s.block other) (Some s.name) (last_in x.blocks other)) w.self-is in
          stand-new names standings s old _ are c.requires.known was (held-first names standings s c.match-last.self.storages none begun_now) stood_is lasts_are
      | in-Some w ↦
          let some : last_standing s.block standings ≡ Some w.in-Some.before = sym (are.lasts s.block) ∙ sym c.last.ensures ∙ w.in-Some.is in
          let size : w.from.result ≡ pos (size_at names w.in-Some.before) = w.from.ensures ∙ ap pos (w.size_of-size.ensures ∙ ap (λ dims. size_of dims) w.dims.ensures) in
          let fits : SFits w64 w.from.result = search rules in
          let joined = w.join.ensures (length names) (firsts_of standings) (standing_equations names [] standings) are.held in
          let equation : ℕ → ℤ → Equation = λ j z. record { from = w.in-Some.before; to = j; distance = z } in
          let joined_at : AreStorages (length names) (firsts_of standings) (standing_equations names [] standings ++ equation s.name (pos (size_at names w.in-Some.before)) ∷ []) w.join.new.self = subst (λ (z : ℤ). AreStorages (length names) (firsts_of standings) (standing_equations names [] standings ++ equation s.name z ∷ []) w.join.new.self) (to_z-of_z w64 w.from.result fits ∙ size) (subst (λ (j : ℕ). AreStorages (length names) (firsts_of standings) (standing_equations names [] standings ++ equation j (to_z w64 (of_z w64 w.from.result)) ∷ []) w.join.new.self) c.index-k.ensures joined) in
          let joined_now = subst (λ (st : Storages). AreStorages (length names) (firsts_of standings) (standing_equations names [] standings ++ equation s.name (pos (size_at names w.in-Some.before)) ∷ []) st) (sym (ap (λ (x : Commons). x.storages) w.self-is)) joined_at in
          let stood_is : c.match-last.self.stood.items ≡ set stood s.name true = ap (λ (x : Commons). x.stood.items) w.self-is ∙ ap (λ j. set stood j true) c.index-k.ensures in
          let lasts_are : (other : Option (List ℕ)) → last_in c.put.new.self other ≡ cond (same_block s.block other) (Some s.name) (last_in old.blocks other) = λ other. lasts other ∙ ap (λ j. cond (same_block s.block other) (Some j) (last_in c.match-last.self.blocks other)) c.index-k.ensures ∙ ap (λ (x : Commons). cond (same_block s.block other) (Some s.name) (last_in x.blocks other)) w.self-is in
          stand-new names standings s old _ are c.requires.known was (held-later names standings s c.match-last.self.storages w.in-Some.before some joined_now) stood_is lasts_are
    ])
    c.put.ensures
