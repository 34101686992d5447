-- What worlds hold is true at the start of an accepted scenario.
use Rattle.std.proofs.Common.{◌≡◌, ℕ, ◌*◌, ◌<◌, ◌≤◌, true, List, [], ◌∷◌, length, map, replicate, refl, sym, ap, ◌∙◌, subst, arith, inl, inr, None}
use Rattle.std.specs.Prelude.{All, if◌then◌else◌}
use Rattle.std.specs.List.{range_with_len}
use Rattle.std.proofs.lemmas.Bool.{cases_lt}
use Rattle.std.proofs.lemmas.List.{get_or_past, length-map, length-replicate}
use Rattle.std.proofs.lemmas.List.Elements.{All-nil}
use Rattle.std.proofs.lemmas.List.FromFn.{length-map-range_with_len, get_or-map-range_with_len}
use Rattle.nc_num.specs.declared.names.HartNo.{HartNo}
use Rattle.nc_plan.specs.Plans.{In}
use Rattle.nc_queue.specs.declared.entry.Entry.{Entry}
use Rattle.nc_model.specs.declared.owners.Grant.{Grant}
use Rattle.nc_model.specs.declared.owners.Owner.{Owner}
use Rattle.nc_model.specs.declared.owners.Owner.TheVariants.{Thread, Pool}
use Rattle.nc_own.specs.Books.{transferred}
use Rattle.nc_own.proofs.Follows.{length-transferred}
use Rattle.nc_slots.specs.SlotWords.{holder_of}
use Rattle.nc_scen.specs.Accepted.{IsAccepted}
use Rattle.nc_scen.specs.declared.scenario.BufferSpec.{BufferSpec}
use Rattle.nc_scen.specs.declared.scenario.Scenario.{Scenario}
use Rattle.nc_rules.specs.declared.lots.Lot.{Lot}
use Rattle.nc_rules.specs.Lots.{DriverConfig, is_wanted, lot_waits}
use Rattle.nc_rules.specs.Machine.{MachineState, queue_of}
use Rattle.nc_rules.specs.Start.{first_machine, first_driver}
use Rattle.nc_rules.specs.Driver.{DriverState}
use Rattle.nc_rules.specs.World.{no_driver, driver_of, owned_by_harts, first_owners, hart, start}
use Rattle.nc_calls.proofs.StartPlaces.{start_is_empty}
use Rattle.nc_calls.proofs.SoundStart.{blank}
use Rattle.nc_scripts.proofs.EveryDriver.{first_drivers}
use Rattle.nc_holds.specs.Held.{Held, AreRegions, FitsSide, HartAgrees, IsTaken, is_holder}
use Rattle.nc_holds.specs.Changes.{IsPlanStep}
use Rattle.nc_holds.specs.Messages.{Quiet, Status, Still, rest_of}
use Rattle.nc_holds.specs.Rests.{TokenIsLight, RestAgrees}
use Rattle.nc_holds.specs.Tokens.{TokensAgree}
use Rattle.nc_holds.specs.Holds.{IsSetting, KnowsAlike, DriverHolds, IsHeldGrant, StartHolds}
use Rattle.nc_holds.proofs.starts.Regions.{regions_of_scenario}

-- ---- the drivers

-- the driver of a hart that exists
driver_is : (sc : Scenario) (h : ℕ) → h < length sc.harts → driver_of (start sc) h ≡ first_driver sc (hart h)
unfolding start
driver_is sc h lt = get_or-map-range_with_len (λ (h : ℕ). first_driver sc (hart h)) 0 (length sc.harts) h h no_driver lt (omega arith)

-- a driver that has done nothing
record IsIdle (d : DriverState) : Type 0 where
  rest : d.rest ≡ []
  lots : d.lots ≡ []

first_idle : (sc : Scenario) (me : HartNo) → IsIdle (first_driver sc me)
unfolding first_driver
first_idle sc me = record { rest = refl; lots = refl }

no_driver_idle : IsIdle no_driver
no_driver_idle = record { rest = refl; lots = refl }

past_driver : (sc : Scenario) (h : ℕ) → length sc.harts ≤ h → driver_of (start sc) h ≡ no_driver
unfolding start
past_driver sc h le = get_or_past (map (λ (h : ℕ). first_driver sc (hart h)) (range_with_len 0 (length sc.harts))) h no_driver (omega (arith, length-map-range_with_len (λ (h : ℕ). first_driver sc (hart h)) 0 (length sc.harts), le))

idle : (sc : Scenario) (h : ℕ) → IsIdle (driver_of (start sc) h)
idle sc h = elim (cases_lt h (length sc.harts)) [
  | inl lt ↦ subst (λ (d : DriverState). IsIdle d) (sym (driver_is sc h lt)) (first_idle sc (hart h))
  | inr le ↦ subst (λ (d : DriverState). IsIdle d) (sym (past_driver sc h le)) no_driver_idle
]

-- ---- the machine

machine_is : (sc : Scenario) → (start sc).machine ≡ first_machine sc
unfolding start
machine_is sc = refl

harts_are : (sc : Scenario) → length (start sc).machine.harts ≡ length sc.harts
harts_are sc = ap (λ (m : MachineState). length m.harts) (machine_is sc) ∙ start_is_empty.harts_are sc

ram_is : (sc : Scenario) → IsAccepted sc → length (start sc).machine.cache.ram ≡ sc.ram
ram_is sc a = ap (λ (m : MachineState). length m.cache.ram) (machine_is sc) ∙ ap length (start_is_empty.memory_is sc) ∙ start_is_empty.long sc a

no_entry : (sc : Scenario) (h : ℕ) → queue_of (start sc).machine h ≡ []
no_entry sc h = ap (λ (m : MachineState). queue_of m h) (machine_is sc) ∙ start_is_empty.queues sc h

-- ---- owners

length-owned : (os : List Owner) (bs : List BufferSpec) → length (owned_by_harts os bs) ≡ length os
length-owned os [] = refl
length-owned os (b ∷ bs) = length-owned (transferred os b.span (Thread b.owner)) bs ∙ length-transferred os b.span (Thread b.owner)

owners_are : (sc : Scenario) → length (start sc).owners ≡ sc.ram
unfolding start first_owners
owners_are sc = length-owned (replicate sc.ram Pool) sc.buffers ∙ length-replicate sc.ram Pool

-- ---- what a hart holds

setting_of : (sc : Scenario) (me : HartNo) → IsSetting (first_driver sc me).fixed (start sc)
unfolding start first_driver
setting_of sc me = record {
  block = start_is_empty.size_is sc;
  pool = start_is_empty.pool_is sc;
  boxes = start_is_empty.boxes_are sc ∙ sym (length-map sc.buffers (λ (b : BufferSpec). b.span));
  pages = record { at = refl; len = ap (λ (n : ℕ). 4096 * n) (length-replicate sc.pages true) };
  words = length-replicate sc.slots None;
}

free_words : (sc : Scenario) (k : ℕ) → holder_of (start sc).slots k ≡ None
unfolding start
free_words sc k = blank sc.slots k None

no_words : (sc : Scenario) (me : HartNo) (k : ℕ) → ◌≡◌ {A = ℕ} 0 (if is_holder me (holder_of (start sc).slots k) then 1 else 0)
no_words sc me k = rw (free_words sc k) refl

-- a hart with no lots
nothing_agrees : (f : DriverConfig) (s : Held) → s.lots ≡ [] → ((me : HartNo) (k : ℕ) → ◌≡◌ {A = ℕ} 0 (if is_holder me (holder_of s.slots k) then 1 else 0)) → HartAgrees f s
nothing_agrees f s none words = subst (λ (ls : List Lot). HartAgrees f (record s { lots = ls })) (sym none) (record {
  sides = All-nil (FitsSide f);
  apart = λ a b i j d e x h k ca cb. absurd (h.lot_in);
  owners = λ lot i e x h c. absurd (h.lot_in);
  granted = λ lot i e h lent. absurd (h.lot_in);
  words = words f.me;
  pages = All-nil (IsTaken s.pages);
})

tokens_of : (sc : Scenario) (h : ℕ) → TokensAgree (start sc) h
tokens_of sc h =
    let i = idle sc h in
    record {
      queued = λ e id k t. absurd (subst (λ (q : List Entry). In e q) (no_entry sc h) k);
      to_queue = rw i.rest tt;
      light = λ e id k t. absurd (subst (λ (q : List Entry). In e q) (no_entry sc h) k);
    }

first_rest : (sc : Scenario) (me : HartNo) → RestAgrees (first_driver sc me)
unfolding first_driver
first_rest sc me = record { idle = refl; tokens = All-nil (TokenIsLight sc.light); claims = tt }

first_me : (sc : Scenario) (h : ℕ) → (first_driver sc (hart h)).fixed.me.0 ≡ h
unfolding first_driver
first_me sc h = refl

-- what is true of the first driver of a hart
hart_of_start : (sc : Scenario) (h : ℕ) → IsAccepted sc → h < length sc.harts → DriverHolds (start sc) h
hart_of_start sc h a lt =
    let e = driver_is sc h lt in
    let i = idle sc h in
    record {
      driver = rw (ram_is sc a, harts_are sc, e) (first_drivers sc (hart h) a lt);
      me = ap (λ (d : DriverState). d.fixed.me.0) e ∙ first_me sc h;
      setting = subst (λ (d : DriverState). IsSetting d.fixed (start sc)) (sym e) (setting_of sc (hart h));
      regions = subst (λ (d : DriverState). AreRegions d.fixed) (sym e) (regions_of_scenario sc (hart h) a);
      loads = rw i.rest tt;
      turns = rw i.rest (All-nil (IsPlanStep (driver_of (start sc) h).lots));
      waits = rw i.lots (All-nil (λ (lot : Lot). lot_waits lot ≡ true → is_wanted lot.side ≡ true));
      agrees = nothing_agrees (driver_of (start sc) h).fixed _ i.lots (no_words sc);
      tokens = tokens_of sc h;
      rest = subst (λ (d : DriverState). RestAgrees d) (sym e) (first_rest sc (hart h));
    }

alike_of : (sc : Scenario) (a b : HartNo) → KnowsAlike (first_driver sc a).fixed (first_driver sc b).fixed
unfolding first_driver
alike_of sc a b = record { buffers = refl; slots_at = refl; slots = refl; pool = refl; size = refl }

-- ---- messages

quiet : (sc : Scenario) (b g : ℕ) → Quiet b (rest_of (start sc) g) (queue_of (start sc).machine g)
quiet sc b g = record { steps = rw (idle sc g).rest refl; queue = rw (no_entry sc g) refl }

status_of : (sc : Scenario) (b : ℕ) → Status (start sc) b
unfolding start
status_of sc b = Still (record { quiet = quiet sc b; box_is = start_is_empty.boxes sc b })

-- ---- the whole

no_grants : (sc : Scenario) → (start sc).grants ≡ []
unfolding start
no_grants sc = refl

drivers_are : (sc : Scenario) → length (start sc).drivers ≡ length sc.harts
unfolding start
drivers_are sc = length-map-range_with_len (λ (h : ℕ). first_driver sc (hart h)) 0 (length sc.harts)

pub start_holds : StartHolds
start_holds sc a = record {
  drivers = drivers_are sc ∙ sym (harts_are sc);
  owners = owners_are sc ∙ sym (ram_is sc a);
  each = λ h lt. hart_of_start sc h a (subst (λ (n : ℕ). h < n) (harts_are sc) lt);
  alike = λ g h g_lt h_lt. rw (driver_is sc g (subst (λ (n : ℕ). g < n) (harts_are sc) g_lt), driver_is sc h (subst (λ (n : ℕ). h < n) (harts_are sc) h_lt)) (alike_of sc (hart g) (hart h));
  grants = subst (λ (gs : List Grant). All (IsHeldGrant (start sc)) gs) (sym (no_grants sc)) (All-nil (IsHeldGrant (start sc)));
  messages = λ b lt. status_of sc b;
}
