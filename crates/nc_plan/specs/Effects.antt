-- The effects of cache operations for a hart (CMO 1.0), and those that the plans of a mapping need.
use Rattle.std.specs.Prelude.{ℕ, Result, Ok, Err}
use Rattle.nc_num.specs.declared.names.Dir.{Dir}
use Rattle.nc_num.specs.declared.names.Dir.TheVariants.{Both, ToDev, FromDev}
use Rattle.nc_env.specs.declared.Mode.{Mode}
use Rattle.nc_env.specs.declared.CboOp.{CboOp}
use Rattle.nc_env.specs.declared.CboOp.TheVariants.{Clean, Flush, Inval, Zero}
use Rattle.nc_env.specs.declared.Illegal.{Illegal}
use Rattle.nc_env.specs.Enables.{decided}
use Rattle.nc_plan.specs.declared.effects.Effects.{Effects}
use Rattle.nc_plan.specs.declared.effects.CboOff.{CboOff}

abbrev pub effects_of : Mode → ℕ → ℕ → Effects
effects_of mode menvcfg senvcfg = record {
  clean = decided mode menvcfg senvcfg Clean;
  flush = decided mode menvcfg senvcfg Flush;
  inval = decided mode menvcfg senvcfg Inval;
  zero = decided mode menvcfg senvcfg Zero;
}

abbrev pub legal : Result CboOp Illegal → Result (Unit {0}) CboOff
legal (Ok op) = Ok tt
legal (Err illegal) = Err (record { 0 = illegal.0 })

-- the first of two refusals
abbrev pub both : Result (Unit {0}) CboOff → Result (Unit {0}) CboOff → Result (Unit {0}) CboOff
both (Ok done) then = then
both (Err off) then = Err off

-- the lending plan cleans for TO_DEVICE and flushes else; the returning plan invalidates but for TO_DEVICE
abbrev pub needs : Effects → Dir → Result (Unit {0}) CboOff
needs e ToDev = legal e.clean
needs e Both = both (legal e.flush) (legal e.inval)
needs e FromDev = both (legal e.flush) (legal e.inval)
