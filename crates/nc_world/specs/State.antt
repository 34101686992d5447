-- What holds of every world, and how a proof tells worlds apart.
use Rattle.std.specs.Prelude.{ℕ, ◌≡◌, List, Option, refl}
use Rattle.std.specs.Coded.{Coded, code_by, coded×, coded_list, coded_ℕ}
use Rattle.nc_num.specs.declared.names.HartNo.{HartNo}
use Rattle.nc_num.specs.declared.places.Span.{Span}
use Rattle.nc_model.specs.declared.owners.Grant.{Grant}
use Rattle.nc_model.specs.declared.owners.Owner.{Owner}
use Rattle.nc_coherent.specs.Pages.{PageMap}
use Rattle.nc_rules.specs.declared.records.Record.{Record}
use Rattle.nc_rules.specs.Driver.{DriverState}
use Rattle.nc_rules.specs.World.{WorldState}
use Rattle.nc_holds.specs.Holds.{Holds}
use Rattle.nc_machine.specs.State.{MachineView}
use Rattle.nc_world.specs.WorldView.{WorldView}

-- a world, with what it keeps of the machine: the bytes of a block, and the coherent pool
pub record WorldInvariant (w : WorldState) (bytes : ℕ) (range : Span) : Type 0 where
  pub holds : Holds w
  pub size : bytes ≡ w.machine.size
  pub pool : range ≡ w.machine.pool

abbrev pub state_code : Coded MachineView → Coded DriverState → Coded Owner → Coded Grant → Coded (List (Option HartNo)) → Coded PageMap → Coded WorldState
state_code machine driver owner grant slots pages =
    code_by (MachineView × (List DriverState × (List Owner × (List Grant × (List (Option HartNo) × (PageMap × (ℕ × ℕ)))))))
    (coded× machine (coded× (coded_list driver) (coded× (coded_list owner) (coded× (coded_list grant) (coded× slots (coded× pages (coded× coded_ℕ coded_ℕ)))))))
    (λ w. (record { machine = w.machine; spare = 0 }, (w.drivers, (w.owners, (w.grants, (w.slots, (w.pages, (w.events, w.touches))))))))
    (λ p. record {
      machine = p.0.machine;
      drivers = p.1.0;
      owners = p.1.1.0;
      grants = p.1.1.1.0;
      slots = p.1.1.1.1.0;
      pages = p.1.1.1.1.1.0;
      events = p.1.1.1.1.1.1.0;
      touches = p.1.1.1.1.1.1.1;
    })
    (λ _. refl)

abbrev pub shown_code : Coded WorldState → Coded Record → Coded WorldView
shown_code state told = code_by (WorldState × List Record) (coded× state (coded_list told)) (λ s. (s.state, s.records)) (λ p. record { state = p.0; records = p.1 }) (λ _. refl)
