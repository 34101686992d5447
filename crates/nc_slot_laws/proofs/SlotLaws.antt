-- Each slot is held once, and grants are apart, after every run.
use Rattle.std.proofs.Common.{◌≡◌, ℕ, suc, ◌<◌, ◌≤◌, Bool, true, false, List, [], ◌∷◌, length, flat_map, inl, inr, refl, sym, ap, subst, ◌∙◌, arith, Option, Some, None}
use Rattle.std.specs.Prelude.{◌==◌, slice_get, slice_set, if◌then◌else◌, take, replicate}
use Rattle.std.specs.List.{cons_option}
use Rattle.std.proofs.lemmas.Bool.{false≢true, cases_eq, cases_lt, eqb-true}
use Rattle.std.proofs.lemmas.List.{get_or-set_same, get_or-set_other, get_or_past, get_or-replicate, length-set, length-replicate}
use Rattle.std.proofs.lemmas.List.Elements.{All-take}
use Rattle.nc_num.specs.declared.names.HartNo.{HartNo}
use Rattle.nc_plan.specs.Plans.{In}
use Rattle.nc_model.specs.Grants.{IsGrants}
use Rattle.nc_model.specs.declared.touches.Touch.{Touch}
use Rattle.nc_model.proofs.GrantLaws.{no_grants}
use Rattle.nc_sg.specs.declared.list.Entry.{Entry}
use Rattle.nc_sg.specs.Lists.{held}
use Rattle.nc_slots.specs.SlotWords.{holder_of, tried_at}
use Rattle.nc_scen.specs.Accepted.{IsAccepted}
use Rattle.nc_scen.specs.Events.{IsThere}
use Rattle.nc_scen.specs.declared.events.Event.{Event}
use Rattle.nc_scen.specs.declared.events.Event.TheVariants as events
use Rattle.nc_scen.specs.declared.scenario.Scenario.{Scenario}
use Rattle.nc_rules.specs.declared.lots.Lot.{Lot}
use Rattle.nc_rules.specs.declared.steps.Next.{Next}
use Rattle.nc_rules.specs.declared.steps.Next.TheVariants as nexts
use Rattle.nc_queue.specs.declared.entry.Entry as queued
use Rattle.nc_queue.specs.declared.entry.Entry.TheVariants as entries
use Rattle.nc_rules.specs.Calls.{leaving}
use Rattle.nc_rules.specs.Driver.{DriverState, next_of, searching}
use Rattle.nc_rules.specs.Flat.{AreThere}
use Rattle.nc_rules.specs.Lots.{slots_held}
use Rattle.nc_rules.specs.Next.{touched_by, after_outcome, counted, next}
use Rattle.nc_rules.specs.Outcomes.{Outcome, outcome, start_outcome, op_outcome, claim_outcome, poll_outcome, take_outcome, step_outcome, try_outcome, told_outcome, told_slots, at_word, drain_outcome}
use Rattle.nc_rules.specs.Run.{after}
use Rattle.nc_rules.specs.World.{WorldState, no_driver, driver_of, hart, with_moves, slots_back, start}
use Rattle.nc_holds.specs.Held.{times_held, is_holder}
use Rattle.nc_holds.specs.Holds.{Holds, DriverHolds}
use Rattle.nc_holds.proofs.events.Given.{IsEvent}
use Rattle.nc_holds.proofs.events.Holds.{next_is}
use Rattle.nc_holds.proofs.grants.Words.{slot_once, slot_holder, slot_harts}
use Rattle.nc_holds.proofs.lists.Members.{of_flat_map, same_some}
use Rattle.nc_holds.proofs.owners.Lots.{same_lot}
use Rattle.nc_holds.proofs.words.Lists.{times, times-cons, own_hart}
use Rattle.nc_flatness.specs.Flatness.{IsWorldOf}
use Rattle.nc_flatness.proofs.worlds.Worlds.{worlds_start}
use Rattle.nc_slot_laws.specs.Slots.{HasSlot, IsOneEntry, HasOne, IsGivenOnce, EachIsGivenOnce}
use Rattle.nc_slot_laws.proofs.GrantLists.{by_number, grants_stay}
use Rattle.nc_slot_laws.proofs.Runs.{kept_from, world_after}

-- ---- an entry that has a slot

-- its hart is there
has_hart : (w : WorldState) (h : ℕ) (lot : Lot) (i k : ℕ) → Holds w → HasSlot w h lot i k → h < length w.machine.harts
has_hart w h lot i k all has = elim (cases_lt h (length w.drivers)) [
  | inl lt ↦ omega (arith, lt, all.drivers)
  | inr past ↦ elim (subst (λ (d : DriverState). In lot d.lots) (get_or_past w.drivers h no_driver past) has.here.lot_in) [ ]
]

me_is : (w : WorldState) (h : ℕ) → DriverHolds w h → (driver_of w h).fixed.me ≡ hart h
me_is w h d = let n = d.me in λ i. record { 0 = n i }

word_is : (w : WorldState) (h : ℕ) (lot : Lot) (i k : ℕ) → Holds w → HasSlot w h lot i k → holder_of w.slots k ≡ Some (hart h)
word_is w h lot i k all has =
    let d = all.each h (has_hart w h lot i k all has) in
    slot_holder (driver_of w h).fixed.me w.slots (driver_of w h).lots k lot i has.entry d.agrees.words has.here has.slot ∙ ap (λ (g : HartNo). Some g) (me_is w h d)

same_entry : (w : WorldState) (h : ℕ) (a b : Lot) (i j k : ℕ) → Holds w → HasSlot w h a i k → HasSlot w h b j k → IsOneEntry h a i h b j
same_entry w h a b i j k all x y =
    let d = all.each h (has_hart w h a i k all x) in
    let one = slot_once (driver_of w h).fixed.me w.slots (driver_of w h).lots k a b i j x.entry y.entry d.agrees.words x.here y.here x.slot y.slot in
    record { hart = refl; lot = same_lot (driver_of w h).lots a b d.driver.apart x.here.lot_in y.here.lot_in one.lot; entry = one.entry }

once : (w : WorldState) (k h g : ℕ) (a b : Lot) (i j : ℕ) → Holds w → HasSlot w h a i k → HasSlot w g b j k → IsOneEntry h a i g b j
once w k h g a b i j all x y =
    let same : h ≡ g = slot_harts (hart h) (hart g) w.slots k (word_is w h a i k all x) (word_is w g b j k all y) in
    let one = same_entry w h a b i j k all x (subst (λ (n : ℕ). HasSlot w n b j k) (sym same) y) in
    record { hart = same; lot = one.lot; entry = one.entry }

-- ---- a word that is held

times_by : (w k : ℕ) (ks : List ℕ) (t : Bool) → (k == w) ≡ t → 1 ≤ times w (k ∷ ks) → (1 ≤ times w ks → In w ks) → In w (k ∷ ks)
times_by w k ks true e le rest = inl (eqb-true k w e)
times_by w k ks false e le rest =
    let less : times w (k ∷ ks) ≡ times w ks = times-cons w k ks ∙ rw e (omega arith) in
    inr (rest (omega (arith, le, less)))

in_times : (w : ℕ) (ks : List ℕ) → 1 ≤ times w ks → In w ks
in_times w [] le = absurd (omega (arith, le))
in_times w (k ∷ ks) le = times_by w k ks (k == w) refl le (λ less. in_times w ks less)

record IsHeldAt (k : ℕ) (es : List Entry) : Type 0 where
  i : ℕ
  entry : Entry
  here : slice_get es i ≡ Some entry
  slot : entry.slot ≡ Some k

later : (k : ℕ) (e : Entry) (es : List Entry) → IsHeldAt k es → IsHeldAt k (e ∷ es)
later k e es r = record { i = suc r.i; entry = r.entry; here = r.here; slot = r.slot }

held_by : (k : ℕ) (e : Entry) (es : List Entry) (o : Option ℕ) → e.slot ≡ o → In k (cons_option o (held es)) → (In k (held es) → IsHeldAt k es) → IsHeldAt k (e ∷ es)
held_by k e es None s here rest = later k e es (rest here)
held_by k e es (Some n) s (inl same) rest = record { i = 0; entry = e; here = refl; slot = s ∙ ap (λ (m : ℕ). Some m) same }
held_by k e es (Some n) s (inr here) rest = later k e es (rest here)

held_at : (k : ℕ) (es : List Entry) → In k (held es) → IsHeldAt k es
held_at k [] here = elim here [ ]
held_at k (e ∷ es) here = held_by k e es e.slot refl here (λ less. held_at k es less)

counts_one : (b : Bool) (n : ℕ) → b ≡ true → n ≡ (if b then 1 else 0) → 1 ≤ n
counts_one true n is e = omega (arith, e)
counts_one false n is e = absurd (false≢true is)

-- the hart has an entry for it
has_one : (w : WorldState) (k : ℕ) (h : HartNo) → Holds w → h.0 < length w.machine.harts → holder_of w.slots k ≡ Some h → HasOne w h.0 k
has_one w k h all lt e =
    let d = all.each h.0 lt in
    let me : (driver_of w h.0).fixed.me ≡ h = (let n = d.me in λ i. record { 0 = n i }) in
    let is : is_holder (driver_of w h.0).fixed.me (holder_of w.slots k) ≡ true = rw (me, e) (own_hart h) in
    let some = in_times k (flat_map slots_held (driver_of w h.0).lots) (counts_one (is_holder (driver_of w h.0).fixed.me (holder_of w.slots k)) (times_held k (driver_of w h.0).lots) is (d.agrees.words k)) in
    let of = of_flat_map slots_held k (driver_of w h.0).lots some in
    let at = held_at k of.0.list.entries of.2 in
    record { lot = of.0; i = at.i; has = record { entry = at.entry; here = record { lot_in = of.1; entry = at.here }; slot = at.slot } }

-- ---- each holder is a hart that exists

abbrev HoldersAre : ℕ → List (Option HartNo) → Type 0
HoldersAre n slots = (k : ℕ) (g : HartNo) → holder_of slots k ≡ Some g → g.0 < n

set_holders : (n : ℕ) (slots : List (Option HartNo)) (k : ℕ) (o : Option HartNo) → ((g : HartNo) → o ≡ Some g → g.0 < n) → HoldersAre n slots → HoldersAre n (slice_set slots k o)
set_holders n slots k o fits all w g e = elim (cases_eq w k) [
  | inl same ↦ elim (cases_lt k (length slots)) [
    | inl lt ↦ fits g (sym (get_or-set_same slots k o None lt) ∙ subst (λ (v : ℕ). holder_of (slice_set slots k o) v ≡ Some g) same e)
    | inr past ↦ absurd (none (sym (get_or_past (slice_set slots k o) k None (omega (arith, length-set slots k o, past))) ∙ subst (λ (v : ℕ). holder_of (slice_set slots k o) v ≡ Some g) same e))
  ]
  | inr ne ↦ all w g (sym (get_or-set_other slots k w o None ne) ∙ e)
]
  where
    none : ◌≡◌ {A = Option HartNo} None (Some g) → ⊥
    none e = cc

back_holders : (n : ℕ) (slots : List (Option HartNo)) (ks : List ℕ) → HoldersAre n slots → HoldersAre n (slots_back slots ks)
back_holders n slots [] all = all
back_holders n slots (k ∷ ks) all = back_holders n (slice_set slots k None) ks (set_holders n slots k None (λ g e. absurd (cc)) all)

try_holders : (n : ℕ) (slots : List (Option HartNo)) (h : HartNo) (k : ℕ) (o : Option HartNo) → h.0 < n → HoldersAre n slots → HoldersAre n (tried_at o slots h k)
try_holders n slots h k None lt all = set_holders n slots k (Some h) (λ g e. subst (λ (x : HartNo). x.0 < n) (same_some h g e) lt) all
try_holders n slots h k (Some g) lt all = all

told_holders : (n : ℕ) (slots : List (Option HartNo)) (h : HartNo) (k : ℕ) (got : Bool) → h.0 < n → HoldersAre n slots → HoldersAre n (told_slots got slots h k)
told_holders n slots h k true lt all = try_holders n slots h k (holder_of slots k) lt all
told_holders n slots h k false lt all = all

step_slots : (w : WorldState) (h : HartNo) (next : Next) → (step_outcome w h next).slots ≡ w.slots
unfolding step_outcome start_outcome op_outcome claim_outcome poll_outcome take_outcome
step_slots w h nexts.End = refl
step_slots w h nexts.Start = refl
step_slots w h (nexts.Search n) = refl
step_slots w h (nexts.Op op) = refl
step_slots w h (nexts.Claim chan) = refl
step_slots w h (nexts.Poll chan) = refl
step_slots w h (nexts.Take buf) = refl

drain_slots : (w : WorldState) (h : HartNo) (i : ℕ) (o : Option queued.Entry) → (drain_outcome w h i o).slots ≡ w.slots
unfolding drain_outcome
drain_slots w h i None = refl
drain_slots w h i (Some (entries.Lend label first count)) = refl
drain_slots w h i (Some (entries.Store span bytes kind)) = refl
drain_slots w h i (Some (entries.Cbo block op)) = refl
drain_slots w h i (Some (entries.Reg chan off width value)) = refl
drain_slots w h i (Some (entries.Mail buf to)) = refl
drain_slots w h i (Some (entries.Mark pred succ)) = refl

word_holders : (n : ℕ) (w : WorldState) (f : ℕ → Outcome) (o : Option ℕ) → HoldersAre n w.slots → ((k : ℕ) → HoldersAre n (f k).slots) → HoldersAre n (at_word w f o).slots
word_holders n w f None all each = all
word_holders n w f (Some k) all each = each k

out_holders : (n : ℕ) (w : WorldState) (e : Event) → IsThere n w.machine.size (length w.machine.cache.ram) e → HoldersAre n w.slots → HoldersAre n (outcome w e).slots
unfolding outcome try_outcome told_outcome
out_holders n w (events.Issue h) there all = subst (HoldersAre n) (sym (step_slots w h (next_of (driver_of w h.0)))) all
out_holders n w (events.Try h) there all = word_holders n w (try_outcome w h) (searching (driver_of w h.0)) all (λ k. try_holders n w.slots h k (holder_of w.slots k) there all)
out_holders n w (events.Told h got) there all = word_holders n w (told_outcome w h got) (searching (driver_of w h.0)) all (λ k. told_holders n w.slots h k got there all)
out_holders n w (events.Drain h i) there all = subst (HoldersAre n) (sym (drain_slots w h i (leaving w.machine h.0 i))) all
out_holders n w (events.Fill h b) there all = all
out_holders n w (events.Evict h b) there all = all
out_holders n w (events.ChanRead chan) there all = all
out_holders n w (events.ChanWrite chan) there all = all

touched_slots : (w : WorldState) (t : Option Touch) → (touched_by w t).slots ≡ w.slots
touched_slots w None = refl
touched_slots w (Some t) = refl

slots_after : (w : WorldState) (o : Outcome) → (counted (after_outcome w o)).slots ≡ slots_back o.slots o.moves.backs
slots_after w o = touched_slots (with_moves (record w { machine = o.machine; drivers = o.drivers; slots = o.slots }) o.moves) o.touch

holders_stay : (w : WorldState) (e : Event) → IsEvent w e → HoldersAre (length w.machine.harts) w.slots → HoldersAre (length w.machine.harts) (next w e).slots
holders_stay w e is all =
    subst (HoldersAre (length w.machine.harts)) (sym (ap (λ (x : WorldState). x.slots) (next_is w e is.may) ∙ slots_after w (outcome w e)))
    (back_holders (length w.machine.harts) (outcome w e).slots (outcome w e).moves.backs (out_holders (length w.machine.harts) w e is.there all))

-- ---- runs

-- what each world of a run has besides
record Besides (sc : Scenario) (w : WorldState) : Type 0 where
  grants : IsGrants sc.ram w.grants
  holders : HoldersAre (length sc.harts) w.slots

besides_stay : (sc : Scenario) (w : WorldState) (e : Event) → IsWorldOf sc w → IsEvent w e → Besides sc w → Besides sc (next w e)
besides_stay sc w e is at b =
    let ram : length w.owners ≡ sc.ram = is.holds.owners ∙ is.of_scenario.ram in
    let n = is.of_scenario.harts in
    record {
      grants = subst (λ (m : ℕ). IsGrants m (next w e).grants) ram (grants_stay w e at (subst (λ (m : ℕ). IsGrants m w.grants) (sym ram) b.grants));
      holders = subst (λ (m : ℕ). HoldersAre m (next w e).slots) n (holders_stay w e at (subst (λ (m : ℕ). HoldersAre m w.slots) (sym n) b.holders));
    }

none_held : (n k : ℕ) → holder_of (replicate n None) k ≡ None
none_held n k = elim (cases_lt k n) [
  | inl lt ↦ get_or-replicate n k None None lt
  | inr past ↦ get_or_past (replicate n None) k None (omega (arith, past, length-replicate {A = Option HartNo} n None))
]

start_besides : (sc : Scenario) → Besides sc (start sc)
unfolding start
start_besides sc = record {
  grants = no_grants sc.ram;
  holders = λ k g e. absurd (none (sym (none_held sc.slots k) ∙ e));
}
  where
    none : {g : HartNo} → ◌≡◌ {A = Option HartNo} None (Some g) → ⊥
    none e = cc

given_at : (sc : Scenario) (w : WorldState) → IsWorldOf sc w → Besides sc w → IsGivenOnce sc w
given_at sc w is b = record {
  slots = record {
    once = λ k h g x y i j. once w k h g x y i j is.holds;
    word = λ k h lot i. word_is w h lot i k is.holds;
    there = λ k h e. b.holders k h e;
    kept = λ k h e. has_one w k h is.holds (subst (λ (n : ℕ). h.0 < n) (sym is.of_scenario.harts) (b.holders k h e)) e;
  };
  grants = by_number sc.ram w.grants b.grants;
}

given_after : (sc : Scenario) (es : List Event) → IsAccepted sc → AreThere sc es → IsGivenOnce sc (after (start sc) es)
given_after sc es a there =
    given_at sc (after (start sc) es) (world_after sc es a there) (kept_from sc (Besides sc) (besides_stay sc) (start sc) es (worlds_start sc a) there (start_besides sc))

pub given_once : EachIsGivenOnce
given_once sc es n a there = given_after sc (take n es) a (All-take (IsThere (length sc.harts) sc.block_size sc.ram) n es there)
