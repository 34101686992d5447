-- The machine that its parts make.
use Rattle.nc_rules.specs.Machine.{MachineState}
use Rattle.nc_machine.specs.declared.machine.Machine.TheInside.{Inside}
use Rattle.nc_machine.specs.State.{MachineView, MachineInvariant}

abbrev pub machine_of : Inside → MachineState
machine_of m = record {
  size = m.size;
  pool = m.pool;
  cache = record { ram = m.ram; lines = m.domain.lines };
  harts = m.harts.items;
  channels = m.channels.items;
  grantees = m.grantees;
  boxes = m.mail;
}

abbrev pub shown : Inside → MachineView
shown m = record { machine = machine_of m; spare = m.domain.spare }

abbrev pub IsSound : Inside → Type 0
IsSound m = MachineInvariant (machine_of m) m.domain
