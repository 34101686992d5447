-- Which events a scenario can name.
use Rattle.std.specs.Prelude.{ℕ, ◌<◌, ◌*◌, ◌+◌, ◌≤◌}
use Rattle.nc_scen.specs.declared.events.Event.{Event}
use Rattle.nc_scen.specs.declared.events.Event.TheVariants.{Issue, Try, Told, Drain, Fill, Evict, ChanRead, ChanWrite}

-- the hart, block or channel that an event names is there: in a machine of so many harts, with blocks of block_size
-- bytes and so many bytes of RAM; whether a queue has the entry that a drain names is seen when it drains
abbrev pub IsThere : ℕ → ℕ → ℕ → Event → Type 0
IsThere harts block_size ram (Issue h) = h.0 < harts
IsThere harts block_size ram (Try h) = h.0 < harts
IsThere harts block_size ram (Told h got) = h.0 < harts
IsThere harts block_size ram (Drain h i) = h.0 < harts
IsThere harts block_size ram (Fill h b) = (h.0 < harts) × (block_size * b.0 + block_size ≤ ram)
IsThere harts block_size ram (Evict h b) = (h.0 < harts) × (block_size * b.0 + block_size ≤ ram)
IsThere harts block_size ram (ChanRead c) = c.0 < 4
IsThere harts block_size ram (ChanWrite c) = c.0 < 4
