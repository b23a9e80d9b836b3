-- Several firings of a net of operations at once, in the source's own order.
use Rattle.std.specs.Prelude.{◌≡◌, ℕ, Option, Some, None}
use Rattle.firing.specs.declared.system.Fired.{Fired}
use Rattle.firing.specs.Play.{moment}
use Rattle.firing.specs.SourceOrder.{FiresTo, newest_after}
use Rattle.op_board.specs.WholePieces.{own_way}
use Rattle.operation_places.specs.declared.control_moves.Visit.{Visit}
use Rattle.op_net.specs.declared.net.OpNet.{OpNet}
use Rattle.op_net.specs.NetView.{marking_of, net_of}

module _ {W : ℕ} where
  -- So many firings, and not more than `most`, led from one state to the other, and the last of them answered this.
  pub record HasFired (old : OpNet W) (most count : ℕ) (fired : Fired) (new : OpNet W) : Type 0 where
    pub net : net_of new ≡ net_of old
    pub to : FiresTo (own_way (net_of old)) (moment (marking_of old) old.control) most count fired (moment (marking_of new) new.control)
    pub line : new.text.items ≡ newest_after (own_way (net_of old)) (moment (marking_of old) old.control) count old.text.items

  -- nothing that can be told has changed
  pub record IsAsBefore (old new : OpNet W) : Type 0 where
    pub net : net_of new ≡ net_of old
    pub marking : marking_of new ≡ marking_of old
    pub control : new.control ≡ old.control
    pub line : new.text.items ≡ old.text.items

  -- All nodes of the visited piece have fired, or none has.
  abbrev pub FiresWhole : OpNet W → Visit → Option Fired → OpNet W → Visit → Type 0
  FiresWhole old visit None new later = IsAsBefore old new × (later ≡ visit)
  FiresWhole old visit (Some fired) new later = HasFired old visit.count visit.count fired new
