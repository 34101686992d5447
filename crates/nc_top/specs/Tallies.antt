-- How often two answers came in a run.
use Rattle.std.specs.Prelude.{◌+◌, List}
use Rattle.std.specs.List.{count_by}
use Rattle.nc_gen.specs.Summary.{is_copydone, is_noslot}
use Rattle.nc_rules.specs.declared.records.Record.{Record}
use Rattle.nc_top.specs.declared.generated.Tally.{Tally}

-- in some records
abbrev pub tally_of : List Record → Tally
tally_of rs = record { done = count_by is_copydone rs; missed = count_by is_noslot rs }

-- and in some more
abbrev pub counted : Tally → List Record → Tally
counted t rs = record { done = t.done + count_by is_copydone rs; missed = t.missed + count_by is_noslot rs }
