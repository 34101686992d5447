-- A fill and an eviction in flat memory: the bytes stand as they did.
use Rattle.nc_calls.proofs.StepPlaces.{fill_is, evict_is}
use Rattle.nc_rows.specs.Ahead.{is_full}
use Rattle.std.specs.List.{list_any}
use Rattle.std.specs.Prelude.{Option, Some, None, ◌/◌}
use Rattle.std.proofs.Common.{◌≡◌, ℕ, ◌+◌, ◌*◌, ◌<◌, ◌≤◌, true, List, length, refl, ap, ◌∙◌, arith}
use Rattle.std.proofs.lemmas.Bool.{false≢true}
use Rattle.nc_num.specs.Memory.{byte}
use Rattle.nc_num.specs.declared.names.HartNo.{HartNo}
use Rattle.nc_num.specs.declared.names.MapId.{MapId}
use Rattle.nc_num.specs.declared.places.Block.{Block}
use Rattle.nc_model.specs.declared.owners.Owner.{Owner}
use Rattle.nc_model.specs.declared.owners.Owner.TheVariants.{Thread, Passing, Lending, Device, Returning, Synced, Pool}
use Rattle.nc_scen.specs.declared.events.Event.TheVariants as events
use Rattle.nc_scen.specs.declared.scenario.Scenario.{Scenario}
use Rattle.nc_rules.specs.Calls.{is_pooled, fill_next, fill_answer, evict_next, evict_answer}
use Rattle.nc_rules.specs.Outcomes.{outcome}
use Rattle.nc_rules.specs.Records.{answer_records}
use Rattle.nc_rules.specs.EventTouches.{owner_of}
use Rattle.nc_rules.specs.World.{WorldState}
use Rattle.nc_calls.specs.MachineLaws.{IsMove}
use Rattle.nc_rows.specs.Rows.{Loan}
use Rattle.nc_rows.specs.Laws.{area_of, is_lent_area}
use Rattle.nc_row_moves.proofs.PartMoves.{parts_stay}
use Rattle.nc_row_moves.proofs.RowMoves.{rows_move}
use Rattle.nc_flatness.specs.Books.{book_of, mapping_in}
use Rattle.nc_flatness.specs.Flatness.{BytesStand, Flatness}
use Rattle.nc_flatness.specs.Steps.{IsNow, Goes}
use Rattle.nc_flatness.proofs.worlds.Trace.{answer_silent}
use Rattle.nc_flatness.proofs.worlds.Outcomes.{ran, goes_silent, runs_go}
use Rattle.nc_flat_moves.proofs.drains.Calm.{calm_of}
use Rattle.nc_flat_moves.proofs.drains.CopiesBeside.{copies_kept}
use Rattle.nc_flat_moves.proofs.drains.Pooled.{loan_pooled}
use Rattle.nc_flat_moves.proofs.tokens.Tokens.{tokens_same}
use Rattle.nc_flat_moves.proofs.WorldNow.{whole_pool}

-- ---- an area that is lent is of the pool

lent_pooled : (sc : Scenario) (f : List ℕ) (w : WorldState) (n : MapId) (x : ℕ) (o : Option Loan) → Flatness sc f w → owner_of w x ≡ Lending n → (book_of w).loan n ≡ o → area_of o ≡ true → is_pooled w.machine (x / w.machine.size) ≡ true
lent_pooled sc f w n x None flat own known area = absurd (false≢true area)
lent_pooled sc f w n x (Some l) flat own known area = (whole_pool sc f w flat).pooled x (loan_pooled sc f w n l x flat (ap mapping_in own) known area)

area_in_pool : (sc : Scenario) (f : List ℕ) (w : WorldState) (x : ℕ) (o : Owner) → Flatness sc f w → owner_of w x ≡ o → is_lent_area (book_of w) o ≡ true → is_pooled w.machine (x / w.machine.size) ≡ true
area_in_pool sc f w x (Lending n) flat own area = lent_pooled sc f w n x ((book_of w).loan n) flat own refl area
area_in_pool sc f w x (Thread h) flat own area = absurd (false≢true area)
area_in_pool sc f w x (Passing h g) flat own area = absurd (false≢true area)
area_in_pool sc f w x (Device n) flat own area = absurd (false≢true area)
area_in_pool sc f w x (Returning n) flat own area = absurd (false≢true area)
area_in_pool sc f w x (Synced n) flat own area = absurd (false≢true area)
area_in_pool sc f w x Pool flat own area = absurd (false≢true area)

-- ---- a fill

filled_bytes : (sc : Scenario) (f : List ℕ) (w : WorldState) (h b : ℕ) → Flatness sc f w → IsMove w.machine h b → BytesStand sc f (ran w (fill_next w.machine h b))
filled_bytes sc f w h b flat by =
    let a = book_of w in
    let m = w.machine in
    let sound = flat.world.machine in
    let s = flat.bytes in
    record {
      flat_size = s.flat_size;
      drives = s.drives;
      placed = s.placed;
      pooled = s.pooled;
      slotted = s.slotted;
      rows = λ x lt off. rows_move.fill a (owner_of w x) (byte f x) m h b x sound by (area_in_pool sc f w x (owner_of w x) flat refl) (s.rows x lt off);
      calm = λ z on none. calm_of m (fill_next m h b) z (rows_move.fill a Pool (byte m.cache.ram z) m h b z sound by (λ area. absurd (false≢true area)) (s.calm z on none));
      queued = parts_stay.queued_fill a (owner_of w) m h b sound by s.queued;
      unfenced = λ g. ap (list_any is_full) ((fill_is m h b sound by.block).queues g) ∙ s.unfenced g;
      uncached = parts_stay.uncached_fill a (owner_of w) m h b sound by (whole_pool sc f w flat) s.uncached;
      lasts = parts_stay.lasts_fill a f m h b sound by s.lasts;
      tokens = tokens_same sc f w (fill_next m h b) flat (fill_is m h b sound by.block).queues;
      copying = copies_kept sc f w (fill_next m h b) flat (fill_is m h b sound by.block).devices (fill_is m h b sound by.block).queues;
    }

is_move : (sc : Scenario) (f : List ℕ) (w : WorldState) (h : HartNo) (b : Block) → Flatness sc f w → h.0 < length sc.harts → sc.block_size * b.0 + sc.block_size ≤ sc.ram → IsMove w.machine h.0 b.0
is_move sc f w h b flat lt there =
    let of = flat.world.of_scenario in
    record { hart = omega (arith, of.harts, lt); block = rw (of.size, of.ram) there }

pub fill_goes : (sc : Scenario) (f : List ℕ) (w : WorldState) (h : HartNo) (b : Block) → IsNow sc f w (events.Fill h b) → Goes sc f w (events.Fill h b)
unfolding outcome
fill_goes sc f w h b now =
    runs_go sc f w (events.Fill h b) (fill_next w.machine h.0 b.0) None (answer_records w.machine.size (fill_answer w.machine h.0 b.0)) now.may refl
    (λ none. goes_silent sc f _ (ran w (fill_next w.machine h.0 b.0)) (answer_silent w.machine.size w.machine.size w.grants (fill_answer w.machine h.0 b.0))
    (filled_bytes sc f w h.0 b.0 now.flat (is_move sc f w h b now.flat now.there.0 now.there.1)))

-- ---- an eviction

evicted_bytes : (sc : Scenario) (f : List ℕ) (w : WorldState) (h b : ℕ) → Flatness sc f w → IsMove w.machine h b → BytesStand sc f (ran w (evict_next w.machine h b))
evicted_bytes sc f w h b flat by =
    let a = book_of w in
    let m = w.machine in
    let sound = flat.world.machine in
    let s = flat.bytes in
    record {
      flat_size = s.flat_size;
      drives = s.drives;
      placed = s.placed;
      pooled = s.pooled;
      slotted = s.slotted;
      rows = λ x lt off. rows_move.evict a (owner_of w x) (byte f x) m h b x sound by (s.rows x lt off);
      calm = λ z on none. calm_of m (evict_next m h b) z (rows_move.evict a Pool (byte m.cache.ram z) m h b z sound by (s.calm z on none));
      queued = parts_stay.queued_evict a (owner_of w) m h b sound by s.queued;
      unfenced = λ g. ap (list_any is_full) ((evict_is m h b sound by.block).queues g) ∙ s.unfenced g;
      uncached = parts_stay.uncached_evict a (owner_of w) m h b sound by s.uncached;
      lasts = parts_stay.lasts_evict a f m h b sound by s.lasts;
      tokens = tokens_same sc f w (evict_next m h b) flat (evict_is m h b sound by.block).queues;
      copying = copies_kept sc f w (evict_next m h b) flat (evict_is m h b sound by.block).devices (evict_is m h b sound by.block).queues;
    }

pub evict_goes : (sc : Scenario) (f : List ℕ) (w : WorldState) (h : HartNo) (b : Block) → IsNow sc f w (events.Evict h b) → Goes sc f w (events.Evict h b)
unfolding outcome
evict_goes sc f w h b now =
    runs_go sc f w (events.Evict h b) (evict_next w.machine h.0 b.0) None (answer_records w.machine.size (evict_answer w.machine h.0 b.0)) now.may refl
    (λ none. goes_silent sc f _ (ran w (evict_next w.machine h.0 b.0)) (answer_silent w.machine.size w.machine.size w.grants (evict_answer w.machine h.0 b.0))
    (evicted_bytes sc f w h.0 b.0 now.flat (is_move sc f w h b now.flat now.there.0 now.there.1)))
