-- What is known of a world with flat memory: what is to come of its drivers' plans, that no token is queued, and its pool.
use Rattle.std.specs.Prelude.{Option, Some, None, ◌%◌}
use Rattle.std.proofs.Common.{◌≡◌, ℕ, List, length, refl, sym, ap, ◌∙◌, inl, arith}
use Rattle.nc_num.specs.declared.names.MapId.{MapId}
use Rattle.nc_num.specs.declared.places.Span.{Span}
use Rattle.nc_num.proofs.Blocks.{page_whole}
use Rattle.nc_model.specs.declared.owners.Owner.{Owner}
use Rattle.nc_model.specs.declared.owners.Owner.TheVariants.{Thread, Passing, Lending, Device, Returning, Synced, Pool}
use Rattle.nc_scen.specs.declared.scenario.Scenario.{Scenario}
use Rattle.nc_rules.specs.World.{WorldState, driver_of}
use Rattle.nc_scripts.specs.Scripts.{IsDriven}
use Rattle.nc_holds.specs.Holds.{DriverHolds}
use Rattle.nc_calls.proofs.StepPlaces.{pool_block}
use Rattle.nc_rows.specs.Rows.{Loan, device_place}
use Rattle.nc_row_moves.specs.Laws.{PiecesOf, HasPieces}
use Rattle.nc_row_moves.specs.Parts.{WholePool}
use Rattle.nc_flatness.specs.Books.{book_of}
use Rattle.nc_flatness.specs.Flatness.{Flatness}
use Rattle.nc_flatness.proofs.books.Loans.{loan_is}
use Rattle.nc_flatness.proofs.books.WholeBlocks.{in_whole}
use Rattle.nc_flat_moves.proofs.channels.Pieces.{comes_in_block}

-- ---- what is to come

driven : (sc : Scenario) (f : List ℕ) (w : WorldState) (h : ℕ) → Flatness sc f w → DriverHolds w h → IsDriven (length w.machine.cache.ram) (length w.machine.harts) (driver_of w h).fixed w.machine
driven sc f w h flat holds = record { memory = refl; block = holds.setting.block; processors = refl; boxes = holds.setting.boxes }

pieces_by : (sc : Scenario) (f : List ℕ) (w : WorldState) (n : MapId) (x : ℕ) (o : Option Loan) → Flatness sc f w → (book_of w).loan n ≡ o → PiecesOf (book_of w) n o w.machine x
pieces_by sc f w n x None flat is = tt
pieces_by sc f w n x (Some l) flat is =
    let loan = loan_is sc f w n l flat is in
    let holds = flat.world.holds.each n.hart.0 loan.hart in
    comes_in_block (length w.machine.cache.ram) (length w.machine.harts) (driver_of w n.hart.0).fixed w.machine (device_place l x) n l.lot (driver_of w n.hart.0).rest
    (driven sc f w n.hart.0 flat holds) (omega (arith, flat.world.machine.some)) flat.world.machine.block_size holds.driver.rest

pub has_pieces : (sc : Scenario) (f : List ℕ) (w : WorldState) (x : ℕ) (o : Owner) → Flatness sc f w → HasPieces (book_of w) o w.machine x
has_pieces sc f w x (Lending n) flat = pieces_by sc f w n x ((book_of w).loan n) flat refl
has_pieces sc f w x (Thread h) flat = tt
has_pieces sc f w x (Passing h g) flat = tt
has_pieces sc f w x (Device n) flat = tt
has_pieces sc f w x (Returning n) flat = tt
has_pieces sc f w x (Synced n) flat = tt
has_pieces sc f w x Pool flat = tt

-- ---- the pool is whole blocks

pub whole_pool : (sc : Scenario) (f : List ℕ) (w : WorldState) → Flatness sc f w → WholePool w.machine
whole_pool sc f w flat =
    let m = w.machine in
    let size = flat.world.machine.block_size in
    let holds = flat.world.holds.each 0 (omega (arith, flat.world.machine.some)) in
    let fixed = holds.driver.fixed in
    let at : m.pool.at % m.size ≡ 0 = page_whole {s = m.size} m.pool.at size (inl (ap (λ (s : Span). s.at % 4096) holds.setting.pool ∙ fixed.pool_whole)) in
    let len : m.pool.len % m.size ≡ 0 = page_whole {s = m.size} m.pool.len size (inl (ap (λ (s : Span). s.len % 4096) holds.setting.pool ∙ fixed.pool_paged)) in
    record {
      block = λ x y over same. in_whole {s = m.size} m.pool x y size at len (sym same) over;
      pooled = λ x over. pool_block m x size at over;
    }
