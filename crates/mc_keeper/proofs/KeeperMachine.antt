-- What the keeper is as a plain machine.
use Rattle.mc_serial_spec.specs.Machine.{Machine}
use Rattle.mc_keeper.specs.declared.keeper.Keeper.TheInside.{Inside}

-- the keeper as a machine
abbrev pub machine_of : Inside → Machine
machine_of keeper = record {
  table = keeper.table;
  bulk = keeper.bulk;
  slabs = keeper.slabs.state;
  items = keeper.items;
  holds = keeper.holds;
  turns = keeper.turns;
  decider = keeper.decider;
}
