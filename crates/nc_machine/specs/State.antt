-- What a machine is seen as.
use Rattle.std.specs.Prelude.{ℕ, ◌≡◌, List, length, Option, refl}
use Rattle.std.specs.FinMap as map
use Rattle.std.specs.Coded.{Coded, code_by, coded×, coded_list, coded_option, coded_ℕ}
use Rattle.nc_num.specs.declared.names.HartNo.{HartNo}
use Rattle.nc_num.specs.declared.places.Span.{Span}
use Rattle.nc_cache.specs.declared.line.Line.{Line}
use Rattle.nc_cache.specs.State.{DomainState}
use Rattle.nc_hart.specs.HartState.{HartState}
use Rattle.nc_pdma.specs.Channel.{ChannelState}
use Rattle.nc_rules.specs.Machine.{MachineState}
use Rattle.nc_rules.specs.Sound.{IsMachine}
use Rattle.std.specs.Ordering.{nat_cmp}
use Rattle.std.specs.FinMap.{FinMap}

-- the machine, and for how many more blocks its caches have room
pub record MachineView : Type 0 where
  pub machine : MachineState
  pub spare : ℕ

-- a machine whose caches have its block size and its harts
pub record MachineInvariant (m : MachineState) (d : DomainState) : Type 0 where
  pub machine : IsMachine m
  pub size : d.size ≡ m.size
  pub harts : d.harts ≡ length m.harts

-- how a proof tells machines apart
abbrev pub machine_code : Coded Line → Coded Span → Coded HartState → Coded ChannelState → Coded HartNo → Coded MachineState
machine_code line span hart channel hart_no =
    code_by (ℕ × (Span × (List ℕ × (FinMap nat_cmp Line × (List HartState × (List ChannelState × (List (Option HartNo) × List (Option HartNo))))))))
    (coded× coded_ℕ (coded× span (coded× (coded_list coded_ℕ) (coded× (map.code coded_ℕ line) (coded× (coded_list hart) (coded× (coded_list channel) (coded× (coded_list (coded_option hart_no)) (coded_list (coded_option hart_no)))))))))
    (λ m. (m.size, (m.pool, (m.cache.ram, (m.cache.lines, (m.harts, (m.channels, (m.grantees, m.boxes))))))))
    (λ p. record {
      size = p.0;
      pool = p.1.0;
      cache = record { ram = p.1.1.0; lines = p.1.1.1.0 };
      harts = p.1.1.1.1.0;
      channels = p.1.1.1.1.1.0;
      grantees = p.1.1.1.1.1.1.0;
      boxes = p.1.1.1.1.1.1.1;
    })
    (λ _. refl)

abbrev pub shown_code : Coded MachineState → Coded MachineView
shown_code machine = code_by (MachineState × ℕ) (coded× machine coded_ℕ) (λ s. (s.machine, s.spare)) (λ p. record { machine = p.0; spare = p.1 }) (λ _. refl)
