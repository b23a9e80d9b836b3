-- Loads by what is told of operations.
use Rattle.std.proofs.Common.{◌≡◌, true, refl}
use Rattle.op_board.specs.Operations.{Work, Load, Operate, Store, Take, Write, Begin, Advance, DecideTruth, DecideSign, DecideNumber, DecideTrips, DecideFirst}
use Rattle.op_net.specs.ApartLoads.{is_load_name}
use Rattle.operation_tables.specs.Telling.{operation_name}
use Rattle.operation_tables.specs.declared.telling.OpName.TheVariants as name
use Rattle.fork_board.specs.LoadGroups.{is_load}

pub names_loads : (work : Work) → is_load_name (operation_name work) ≡ is_load work
names_loads (Load array subs) = refl
names_loads (Operate op) = refl
names_loads (Store array subs) = refl
names_loads Take = refl
names_loads (Write items) = refl
names_loads (Begin loop_no var) = refl
names_loads (Advance loop_no var) = refl
names_loads DecideTruth = refl
names_loads DecideSign = refl
names_loads (DecideNumber count) = refl
names_loads (DecideTrips loop_no) = refl
names_loads DecideFirst = refl

pub load_name : (work : Work) → is_load work ≡ true → operation_name work ≡ name.Load
load_name (Load array subs) loads = refl
load_name (Operate op) loads = absurd cc
load_name (Store array subs) loads = absurd cc
load_name Take loads = absurd cc
load_name (Write items) loads = absurd cc
load_name (Begin loop_no var) loads = absurd cc
load_name (Advance loop_no var) loads = absurd cc
load_name DecideTruth loads = absurd cc
load_name DecideSign loads = absurd cc
load_name (DecideNumber count) loads = absurd cc
load_name (DecideTrips loop_no) loads = absurd cc
load_name DecideFirst loads = absurd cc
