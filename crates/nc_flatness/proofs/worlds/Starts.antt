-- The bytes of flat memory at the start.
use Rattle.std.specs.List.{list_any}
use Rattle.std.specs.Prelude.{Some, None, true, false, replicate, All}
use Rattle.std.proofs.Common.{◌≡◌, ℕ, ◌/◌, ◌<◌, List, [], length, refl, sym, ap, ◌∙◌, inl, inr, arith, subst}
use Rattle.std.proofs.lemmas.Bool.{cases_lt}
use Rattle.std.specs.FinMap.{get-empty}
use Rattle.std.specs.Ordering.{nat_cmp}
use Rattle.std.proofs.lemmas.List.{length-replicate}
use Rattle.std.proofs.lemmas.List.Elements.{All-nil}
use Rattle.nc_num.specs.Memory.{byte}
use Rattle.nc_num.specs.Places.{covers}
use Rattle.nc_num.specs.declared.names.MapId.{MapId}
use Rattle.nc_cache.specs.Cache as caches
use Rattle.nc_queue.specs.Rules.{gives}
use Rattle.nc_queue.specs.declared.entry.Entry.{Entry}
use Rattle.nc_model.proofs.Faults.{covers-high}
use Rattle.nc_model.specs.declared.owners.Owner.{Owner}
use Rattle.nc_model.specs.declared.owners.Owner.TheVariants.{Thread, Passing, Lending, Device, Returning, Synced, Pool}
use Rattle.nc_own.specs.Books.{owner_in}
use Rattle.nc_scen.specs.Accepted.{IsAccepted}
use Rattle.nc_scen.specs.Regions.{slots_of, pool_of}
use Rattle.nc_scen.specs.declared.scenario.Scenario.{Scenario}
use Rattle.nc_rules.specs.declared.lots.Lot.{Lot}
use Rattle.nc_rules.specs.declared.steps.Phase.TheVariants.{Steps}
use Rattle.nc_rules.specs.declared.steps.Step.{Step}
use Rattle.nc_rules.specs.Driver.{DriverState}
use Rattle.nc_rules.specs.Machine.{MachineState, hart_of, queue_of}
use Rattle.nc_rules.specs.Start.{memory, first_machine, first_driver}
use Rattle.nc_rules.specs.World.{driver_of, first_owners, hart, start}
use Rattle.nc_rules.specs.EventTouches.{owner_of}
use Rattle.nc_calls.specs.PlaceLaws.{BothAt, NotHeld}
use Rattle.nc_calls.proofs.StartPlaces.{start_is_empty}
use Rattle.nc_rows.specs.Places.{given, ThreadRow, CalmRow}
use Rattle.nc_rows.specs.Ahead.{is_full}
use Rattle.nc_rows.specs.Rows.{Book, Row}
use Rattle.nc_rows.specs.Parts.{IsQueued, Queued, rest_last, LastIs, Lasts}
use Rattle.nc_flatness.specs.Books.{book_of, mapping_in}
use Rattle.nc_flatness.specs.Flatness.{IsMapping, Drives, BytesStand}
use Rattle.nc_flatness.specs.Plans.{IsStill}
use Rattle.nc_flatness.specs.Tokens.{TokenStands}
use Rattle.nc_flatness.specs.Steps.{StartIsFlat}
use Rattle.nc_flatness.proofs.books.Regions.{buffer_at, pool_off, slots_off}
use Rattle.nc_flatness.proofs.books.BookReads.{uncached_of}
use Rattle.nc_flatness.proofs.plans.Copies.{copy_idle}
use Rattle.nc_flatness.proofs.plans.Rests.{no_rest}
use Rattle.nc_flatness.proofs.worlds.StartOwners.{owner_elsewhere, IsPlainOwner, plain_owner, all_pool}
use Rattle.nc_flatness.proofs.worlds.Worlds.{driver_start, machine_start, worlds_start}

-- ---- the machine

given_fresh : (sc : Scenario) (h x : ℕ) → given (first_machine sc) h x ≡ None
unfolding gives
given_fresh sc h x = ap (λ (q : List Entry). gives (first_machine sc).size q x) (start_is_empty.queues sc h)

both_fresh : (sc : Scenario) (x : ℕ) → BothAt (first_machine sc) (byte (memory sc) x) x
unfolding first_machine caches.middle
both_fresh sc x = record { memory = refl; copy = rw (get-empty nat_cmp (x / sc.block_size)) refl }

-- ---- the owners

owners_are : (sc : Scenario) → (start sc).owners ≡ first_owners sc
unfolding start
owners_are sc = refl

plain_start : (sc : Scenario) (x : ℕ) → x < sc.ram → IsPlainOwner (owner_in (first_owners sc) x)
unfolding first_owners
plain_start sc x lt = plain_owner (replicate sc.ram Pool) sc.buffers x (omega (arith, length-replicate sc.ram Pool, lt)) (subst IsPlainOwner (sym (all_pool sc.ram x)) tt)

plain_here : (sc : Scenario) (x : ℕ) → x < sc.ram → IsPlainOwner (owner_of (start sc) x)
plain_here sc x lt = subst (λ (os : List Owner). IsPlainOwner (owner_in os x)) (sym (owners_are sc)) (plain_start sc x lt)

-- a place of no buffer is nobody's
beside_first : (sc : Scenario) (x : ℕ) → x < sc.ram → ((i : ℕ) → i < length sc.buffers → covers (buffer_at sc i) x ≡ false) → owner_of (start sc) x ≡ Pool
unfolding first_owners
beside_first sc x lt off =
    ap (λ (os : List Owner). owner_in os x) (owners_are sc) ∙ owner_elsewhere (replicate sc.ram Pool) sc.buffers x (omega (arith, length-replicate sc.ram Pool, lt)) off ∙ all_pool sc.ram x

pooled_first : (sc : Scenario) (x : ℕ) → IsAccepted sc → covers (pool_of sc) x ≡ true → owner_of (start sc) x ≡ Pool
pooled_first sc x a over = beside_first sc x (omega (arith, a.pool_end, covers-high (pool_of sc) x over)) (λ i lt. pool_off sc i x a lt over)

slotted_first : (sc : Scenario) (x : ℕ) → IsAccepted sc → covers (slots_of sc) x ≡ true → owner_of (start sc) x ≡ Pool
slotted_first sc x a over = beside_first sc x (omega (arith, a.slots_end, covers-high (slots_of sc) x over)) (λ i lt. slots_off sc i x a lt over)

no_mapping : (o : Owner) → IsPlainOwner o → mapping_in o ≡ None
no_mapping (Thread h) plain = refl
no_mapping Pool plain = refl
no_mapping (Passing h g) plain = absurd plain
no_mapping (Lending n) plain = absurd plain
no_mapping (Device n) plain = absurd plain
no_mapping (Returning n) plain = absurd plain
no_mapping (Synced n) plain = absurd plain

-- ---- the rows

thread_row : (sc : Scenario) (h x : ℕ) → ThreadRow h (byte (memory sc) x) (first_machine sc) x
thread_row sc h x = record { shows = start_is_empty.views sc h x; quiet = record { fresh = start_is_empty.fresh sc x; others = λ g ne. given_fresh sc g x } }

calm_first : (sc : Scenario) (x : ℕ) → CalmRow (first_machine sc) x
calm_first sc x = let both = both_fresh sc x in record { both = subst (λ (v : ℕ). BothAt (first_machine sc) v x) (sym both.memory) both; none = λ g. given_fresh sc g x }

row_by : (a : Book) (sc : Scenario) (o : Owner) (x : ℕ) → IsPlainOwner o → Row a o (byte (memory sc) x) (first_machine sc) x
row_by a sc (Thread h) x plain = thread_row sc h.0 x
row_by a sc Pool x plain = record { both = both_fresh sc x; none = λ g. given_fresh sc g x }
row_by a sc (Passing h g) x plain = absurd plain
row_by a sc (Lending k) x plain = absurd plain
row_by a sc (Device k) x plain = absurd plain
row_by a sc (Returning k) x plain = absurd plain
row_by a sc (Synced k) x plain = absurd plain

-- ---- the drivers

drives_first : (sc : Scenario) (h : ℕ) → Drives (first_driver sc (hart h))
unfolding first_driver
drives_first sc h = record { lots = All-nil IsMapping; stands = All-nil (IsStill _); idle = refl }

drives_start : (sc : Scenario) (h : ℕ) → h < length sc.harts → Drives (driver_of (start sc) h)
drives_start sc h lt = subst (λ (d : DriverState). Drives d) (sym (driver_start sc h lt)) (drives_first sc h)

-- ---- the whole

queued_start : (sc : Scenario) (a : Book) (ws : ℕ → Owner) → Queued a ws (first_machine sc)
queued_start sc a ws h = subst (λ (q : List Entry). All (IsQueued a ws (first_machine sc).pool (first_machine sc).size h) q) (sym (start_is_empty.queues sc h)) (All-nil (IsQueued a ws (first_machine sc).pool (first_machine sc).size h))

count_start : (sc : Scenario) → IsAccepted sc → length (start sc).drivers ≡ length sc.harts
count_start sc a = let w = worlds_start sc a in w.holds.drivers ∙ w.of_scenario.harts

last_none : (a : Book) (f : List ℕ) (h : ℕ) (bytes : List ℕ) (rest : List Step) → rest ≡ [] → LastIs a f h bytes (rest_last rest)
last_none a f h bytes rest e = subst (λ (r : List Step). LastIs a f h bytes (rest_last r)) (sym e) tt

rest_first : (sc : Scenario) (h : ℕ) → (first_driver sc (hart h)).rest ≡ []
unfolding first_driver
rest_first sc h = refl

rest_start : (sc : Scenario) (h : ℕ) → IsAccepted sc → (driver_of (start sc) h).rest ≡ []
rest_start sc h a = elim (cases_lt h (length sc.harts)) [
  | inl lt ↦ ap (λ (d : DriverState). d.rest) (driver_start sc h lt) ∙ rest_first sc h
  | inr past ↦ no_rest (start sc) h (omega (arith, past, count_start sc a))
]

lots_first : (sc : Scenario) (h : ℕ) → (first_driver sc (hart h)).lots ≡ []
unfolding first_driver
lots_first sc h = refl

lots_start : (sc : Scenario) (h : ℕ) → h < length sc.harts → (driver_of (start sc) h).lots ≡ []
lots_start sc h lt = ap (λ (d : DriverState). d.lots) (driver_start sc h lt) ∙ lots_first sc h

phase_first : (sc : Scenario) (h : ℕ) → (first_driver sc (hart h)).phase ≡ Steps 0
unfolding first_driver
phase_first sc h = refl

phase_start : (sc : Scenario) (h : ℕ) → h < length sc.harts → (driver_of (start sc) h).phase ≡ Steps 0
phase_start sc h lt = ap (λ (d : DriverState). d.phase) (driver_start sc h lt) ∙ phase_first sc h

-- no token is queued
none_sent : (d : DriverState) (q : List Entry) → d.lots ≡ [] → All (TokenStands d.rest q) d.lots
none_sent d q none = subst (λ (lots : List Lot). All (TokenStands d.rest q) lots) (sym none) (All-nil (TokenStands d.rest q))

-- no copy is under way
lasts_start : (sc : Scenario) → IsAccepted sc → Lasts (book_of (start sc)) (memory sc) (start sc).machine
lasts_start sc a h = last_none (book_of (start sc)) (memory sc) h (hart_of (start sc).machine h).last (driver_of (start sc) h).rest (rest_start sc h a)

bytes_start : (sc : Scenario) → IsAccepted sc → BytesStand sc (memory sc) (start sc)
bytes_start sc a =
    let m = sym (machine_start sc) in
    record {
      flat_size = start_is_empty.long sc a;
      drives = λ h lt. drives_start sc h lt;
      placed = λ x n lt e. absurd (none_mapped (owner_of (start sc) x) n (no_mapping (owner_of (start sc) x) (plain_here sc x lt)) e);
      pooled = λ x over. inl (pooled_first sc x a over);
      slotted = λ x over. slotted_first sc x a over;
      rows = λ x lt off. subst (λ (k : MachineState). Row (book_of (start sc)) (owner_of (start sc) x) (byte (memory sc) x) k x) m (row_by (book_of (start sc)) sc (owner_of (start sc) x) x (plain_here sc x lt));
      calm = λ z on none. subst (λ (k : MachineState). CalmRow k z) m (calm_first sc z);
      queued = subst (λ (k : MachineState). Queued (book_of (start sc)) (owner_of (start sc)) k) m (queued_start sc (book_of (start sc)) (owner_of (start sc)));
      unfenced = λ h. subst (λ (k : MachineState). list_any is_full (queue_of k h) ≡ false) m (ap (list_any is_full) (start_is_empty.queues sc h));
      uncached = uncached_of (book_of (start sc)) (owner_of (start sc)) (start sc).machine (λ x on. subst (λ (k : MachineState). NotHeld k x) m (start_is_empty.not_held sc x));
      lasts = lasts_start sc a;
      copying = λ h lt. copy_idle sc (memory sc) (start sc) h 0 (phase_start sc h lt);
      tokens = λ h lt light. none_sent (driver_of (start sc) h) (queue_of (start sc).machine h) (lots_start sc h lt);
    }
  where
    none_mapped : (o : Owner) (n : MapId) → mapping_in o ≡ None → mapping_in o ≡ Some n → ⊥
    none_mapped o n none some = let both = sym none ∙ some in absurd (cc)

pub start_flat : StartIsFlat
start_flat sc a = record { world = worlds_start sc a; bytes = bytes_start sc a }
