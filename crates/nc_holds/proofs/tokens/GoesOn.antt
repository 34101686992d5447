-- Tokens, what is left of plans, and loads after every event that may happen.
use Rattle.std.specs.Prelude.{Option, Some, None, ◌<◌, is_some, is_none, remove, slice_set, slice_index_or, slice_get, if◌then◌else◌}
use Rattle.std.proofs.Common.{◌≡◌, ℕ, Bool, true, false, List, length, refl, sym, ap, ◌∙◌, inl, inr, subst}
use Rattle.std.proofs.lemmas.Bool.{false≢true, and_parts, cases_eq}
use Rattle.nc_num.specs.declared.names.HartNo.{HartNo}
use Rattle.nc_num.specs.declared.names.Label.{Label}
use Rattle.nc_model.specs.declared.touches.Touch.{Touch}
use Rattle.nc_queue.specs.Rules.{may_drain, drained}
use Rattle.nc_queue.specs.declared.entry.Entry.{Entry}
use Rattle.nc_queue.specs.declared.entry.Entry.TheVariants as entries
use Rattle.nc_plan.specs.Plans.{In}
use Rattle.nc_hart.specs.HartState.{HartState}
use Rattle.nc_slots.specs.SlotWords.{holder_of}
use Rattle.nc_scen.specs.declared.events.Event.{Event}
use Rattle.nc_scen.specs.declared.events.Event.TheVariants as events
use Rattle.nc_scen.specs.Events.{IsThere}
use Rattle.nc_rules.specs.declared.records.Record.{Record}
use Rattle.nc_rules.specs.Lots.{lot_id}
use Rattle.nc_rules.specs.Machine.{MachineState, hart_of, queue_of}
use Rattle.nc_rules.specs.Calls.{leaving, drain_next}
use Rattle.nc_rules.specs.Sound.{IsMachine}
use Rattle.nc_rules.specs.Driver.{DriverState, next_of, searching, waits_for, told, lent}
use Rattle.nc_rules.specs.World.{WorldState, no_driver, driver_of}
use Rattle.nc_rules.specs.Events.{enabled, is_out, may_go_on}
use Rattle.nc_rules.specs.Outcomes.{Outcome, outcome, at_word, got_word, try_outcome, told_outcome, leaves, drain_outcome}
use Rattle.nc_rules.specs.Next.{next}
use Rattle.nc_calls.specs.PlaceLaws.{Drains}
use Rattle.nc_calls.proofs.DrainPlaces.{drain_is}
use Rattle.nc_scripts.specs.Drivers.{LoadsFit, IsLentAt}
use Rattle.nc_holds.specs.Tokens.{token_of, TokensAgree}
use Rattle.nc_holds.specs.Rests.{RestAgrees}
use Rattle.nc_holds.specs.Holds.{Holds, TokensAreLent}
use Rattle.nc_holds.proofs.lists.Changes.{in_got}
use Rattle.nc_holds.proofs.messages.Worlds.{Comes, comes, fill_same, evict_same, read_same, write_same}
use Rattle.nc_holds.proofs.tokens.Rests.{stays_has}
use Rattle.nc_holds.proofs.tokens.Harts.{HartSo, so_removed}
use Rattle.nc_holds.proofs.tokens.Events.{so_told, so_lent}
use Rattle.nc_holds.proofs.tokens.Worlds.{WorldSo, world_so, tokens_so, At, here, AllSo, so_at, same_so, so_same, step_so}

-- ---- a slot word

try_so : (w n : WorldState) (h : HartNo) (k : ℕ) → At w h → Comes w n (try_outcome w h k) → AllSo w n
unfolding try_outcome
try_so w n h k a c =
    let s = here w h a in
    so_same w n h w.machine (told (driver_of w h.0) (is_none (holder_of w.slots k))).driver a (record { machine = c.machine; drivers = c.drivers }) refl
    (so_told _ _ (driver_of w h.0) (queue_of w.machine h.0) (length (hart_of w.machine h.0).last) (is_none (holder_of w.slots k)) s.driver (world_so w h.0 s))

told_so : (w n : WorldState) (h : HartNo) (got : Bool) (k : ℕ) → At w h → Comes w n (told_outcome w h got k) → AllSo w n
unfolding told_outcome
told_so w n h got k a c =
    let s = here w h a in
    so_same w n h w.machine (told (driver_of w h.0) (got_word got (holder_of w.slots k))).driver a (record { machine = c.machine; drivers = c.drivers }) refl
    (so_told _ _ (driver_of w h.0) (queue_of w.machine h.0) (length (hart_of w.machine h.0).last) (got_word got (holder_of w.slots k)) s.driver (world_so w h.0 s))

word_so : (w n : WorldState) (f : ℕ → Outcome) (o : Option ℕ) → is_some o ≡ true → Comes w n (at_word w f o) → ((k : ℕ) → Comes w n (f k) → AllSo w n) → AllSo w n
word_so w n f None some c h = absurd (false≢true some)
word_so w n f (Some k) some c h = h k c

-- ---- a drain

-- a token that drains is of a lot that is lent
pub lent_at : (w : WorldState) (h i : ℕ) (label : Label) (first : ℕ) (e : Entry) → WorldSo w h → In e (queue_of w.machine h) → token_of e ≡ Some (lot_id label first) → IsLentAt (driver_of w h).lots (lot_id label first)
lent_at w h i label first e so here is = (stays_has (lot_id label first) (driver_of w h).lots (driver_of w h).rest (so.queued e (lot_id label first) here is)).lent

-- the driver stays
drain_other : (w n : WorldState) (h : HartNo) (i : ℕ) (e : Entry) → At w h → Drains w.machine (drain_next w.machine h.0 i) h.0 i e → n.machine ≡ drain_next w.machine h.0 i → n.drivers ≡ w.drivers → AllSo w n
drain_other w n h i e a out m ds g lt =
    subst (λ (xs : List DriverState). HartSo (slice_index_or xs g no_driver) (queue_of n.machine g) (length (hart_of n.machine g).last)) (sym ds)
    (subst (λ (v : MachineState). HartSo (driver_of w g) (queue_of v g) (length (hart_of v g).last)) (sym m)
    (elim (cases_eq g h.0) [
      | inl same ↦ subst (λ (j : ℕ). HartSo (driver_of w j) (queue_of (drain_next w.machine h.0 i) j) (length (hart_of (drain_next w.machine h.0 i) j).last)) (sym same) (drained w h i e a out)
      | inr ne ↦ subst (λ (s : HartState). HartSo (driver_of w g) s.queue.entries (length s.last)) (sym (out.others g ne)) (world_so w g (a.holds.each g lt))
    ]))
  where
    drained : (w : WorldState) (h : HartNo) (i : ℕ) (e : Entry) → At w h → Drains w.machine (drain_next w.machine h.0 i) h.0 i e → HartSo (driver_of w h.0) (queue_of (drain_next w.machine h.0 i) h.0) (length (hart_of (drain_next w.machine h.0 i) h.0).last)
    drained w h i e a out =
        subst (λ (q : List Entry). HartSo (driver_of w h.0) q (length (hart_of (drain_next w.machine h.0 i) h.0).last)) (sym out.queues.own)
        (subst (λ (xs : List ℕ). HartSo (driver_of w h.0) (remove (queue_of w.machine h.0) i) (length xs)) (sym out.last)
        (so_removed (driver_of w h.0) (queue_of w.machine h.0) i (length (hart_of w.machine h.0).last) (world_so w h.0 (here w h a))))

drain_token : (w n : WorldState) (h : HartNo) (i : ℕ) (label : Label) (first count : ℕ) → At w h → Drains w.machine (drain_next w.machine h.0 i) h.0 i (entries.Lend label first count)
    → n.machine ≡ drain_next w.machine h.0 i → n.drivers ≡ slice_set w.drivers h.0 (lent (driver_of w h.0) label first).driver → AllSo w n
drain_token w n h i label first count a out m ds =
    let s = here w h a in
    let so = world_so w h.0 s in
    so_at w n h (drain_next w.machine h.0 i) (lent (driver_of w h.0) label first).driver a (record { machine = m; drivers = ds }) out.others
    (subst (λ (q : List Entry). HartSo (lent (driver_of w h.0) label first).driver q (length (hart_of (drain_next w.machine h.0 i) h.0).last)) (sym out.queues.own)
    (subst (λ (xs : List ℕ). HartSo (lent (driver_of w h.0) label first).driver (remove (queue_of w.machine h.0) i) (length xs)) (sym out.last)
    (so_removed (lent (driver_of w h.0) label first).driver (queue_of w.machine h.0) i (length (hart_of w.machine h.0).last)
    (so_lent _ _ (driver_of w h.0) (queue_of w.machine h.0) (length (hart_of w.machine h.0).last) label first s.driver
    (lent_at w h.0 i label first (entries.Lend label first count) so (in_got (entries.Lend label first count) (queue_of w.machine h.0) i out.queues.stood) refl) so))))

leaves_so : (w n : WorldState) (h : HartNo) (i : ℕ) (touch : Option Touch) (rs : List Record) (e : Entry) → At w h → leaving w.machine h.0 i ≡ Some e → Comes w n (leaves w h (drain_next w.machine h.0 i) touch rs e) → AllSo w n
leaves_so w n h i touch rs (entries.Lend label first count) a is c = drain_token w n h i label first count a (drain_is w.machine h.0 i (entries.Lend label first count) a.is a.lt is) c.machine c.drivers
leaves_so w n h i touch rs (entries.Store span bytes kind) a is c = drain_other w n h i (entries.Store span bytes kind) a (drain_is w.machine h.0 i (entries.Store span bytes kind) a.is a.lt is) c.machine c.drivers
leaves_so w n h i touch rs (entries.Cbo block op) a is c = drain_other w n h i (entries.Cbo block op) a (drain_is w.machine h.0 i (entries.Cbo block op) a.is a.lt is) c.machine c.drivers
leaves_so w n h i touch rs (entries.Reg chan off width value) a is c = drain_other w n h i (entries.Reg chan off width value) a (drain_is w.machine h.0 i (entries.Reg chan off width value) a.is a.lt is) c.machine c.drivers
leaves_so w n h i touch rs (entries.Mail buf to) a is c = drain_other w n h i (entries.Mail buf to) a (drain_is w.machine h.0 i (entries.Mail buf to) a.is a.lt is) c.machine c.drivers
leaves_so w n h i touch rs (entries.Mark pred succ) a is c = drain_other w n h i (entries.Mark pred succ) a (drain_is w.machine h.0 i (entries.Mark pred succ) a.is a.lt is) c.machine c.drivers

drain_so : (w n : WorldState) (h : HartNo) (i : ℕ) (o : Option Entry) → At w h → leaving w.machine h.0 i ≡ o → is_some o ≡ true → Comes w n (drain_outcome w h i o) → AllSo w n
unfolding drain_outcome
drain_so w n h i None a is some c = absurd (false≢true some)
drain_so w n h i (Some e) a is some c = leaves_so w n h i _ _ e a is c

-- ---- every event

pub all_so : (w : WorldState) (e : Event) → IsMachine w.machine → Holds w → IsThere (length w.machine.harts) w.machine.size (length w.machine.cache.ram) e → enabled w e ≡ true → Comes w (next w e) (outcome w e) → AllSo w (next w e)
unfolding enabled outcome
all_so w (events.Issue h) is holds there en c =
    let both = and_parts (is_out w.machine h (waits_for (driver_of w h.0))) (may_go_on w h (next_of (driver_of w h.0))) en in
    step_so w (next w (events.Issue h)) h (next_of (driver_of w h.0)) (record { is = is; holds = holds; lt = there }) refl both.1 both.0 c
all_so w (events.Try h) is holds there en c = word_so w (next w (events.Try h)) (try_outcome w h) (searching (driver_of w h.0)) en c (λ k d. try_so w (next w (events.Try h)) h k (record { is = is; holds = holds; lt = there }) d)
all_so w (events.Told h got) is holds there en c = word_so w (next w (events.Told h got)) (told_outcome w h got) (searching (driver_of w h.0)) en c (λ k d. told_so w (next w (events.Told h got)) h got k (record { is = is; holds = holds; lt = there }) d)
all_so w (events.Drain h i) is holds there en c = drain_so w (next w (events.Drain h i)) h i (leaving w.machine h.0 i) (record { is = is; holds = holds; lt = there }) refl en c
all_so w (events.Fill h b) is holds there en c = same_so w (next w (events.Fill h b)) holds c.drivers (ap (λ (m : MachineState). m.harts) c.machine ∙ (fill_same w.machine h.0 b.0).harts)
all_so w (events.Evict h b) is holds there en c = same_so w (next w (events.Evict h b)) holds c.drivers (ap (λ (m : MachineState). m.harts) c.machine ∙ (evict_same w.machine h.0 b.0).harts)
all_so w (events.ChanRead chan) is holds there en c = same_so w (next w (events.ChanRead chan)) holds c.drivers (ap (λ (m : MachineState). m.harts) c.machine ∙ (read_same w.machine chan.0).harts)
all_so w (events.ChanWrite chan) is holds there en c = same_so w (next w (events.ChanWrite chan)) holds c.drivers (ap (λ (m : MachineState). m.harts) c.machine ∙ (write_same w.machine chan.0).harts)

so_of : (w : WorldState) (e : Event) → IsMachine w.machine → Holds w → IsThere (length w.machine.harts) w.machine.size (length w.machine.cache.ram) e → enabled w e ≡ true → (g : ℕ) → g < length w.machine.harts → WorldSo (next w e) g
so_of w e is holds there en g lt = all_so w e is holds there en (comes w e en) g lt

pub tokens_go_on : (w : WorldState) (e : Event) → IsMachine w.machine → Holds w → IsThere (length w.machine.harts) w.machine.size (length w.machine.cache.ram) e → enabled w e ≡ true → (g : ℕ) → g < length w.machine.harts → TokensAgree (next w e) g
tokens_go_on w e is holds there en g lt = tokens_so (next w e) g (so_of w e is holds there en g lt)

pub rests_go_on : (w : WorldState) (e : Event) → IsMachine w.machine → Holds w → IsThere (length w.machine.harts) w.machine.size (length w.machine.cache.ram) e → enabled w e ≡ true → (g : ℕ) → g < length w.machine.harts → RestAgrees (driver_of (next w e) g)
rests_go_on w e is holds there en g lt = (so_of w e is holds there en g lt).rest

pub loads_go_on : (w : WorldState) (e : Event) → IsMachine w.machine → Holds w → IsThere (length w.machine.harts) w.machine.size (length w.machine.cache.ram) e → enabled w e ≡ true → (g : ℕ) → g < length w.machine.harts
    → LoadsFit (length (hart_of (next w e).machine g).last) (driver_of (next w e) g).rest
loads_go_on w e is holds there en g lt = (so_of w e is holds there en g lt).loads

-- ---- the token that leaves

left_by : (t : Bool) (o : Option Entry) (e : Entry) → (if t then o else None) ≡ Some e → o ≡ Some e
left_by true o e is = is
left_by false o e is = absurd cc

-- the entry that leaves stands in the queue
pub leaving_stands : (m : MachineState) (h i : ℕ) (e : Entry) → leaving m h i ≡ Some e → slice_get (queue_of m h) i ≡ Some e
unfolding drained
leaving_stands m h i e is = left_by (may_drain m.size (queue_of m h) i) (slice_get (queue_of m h) i) e is

pub tokens_are_lent : TokensAreLent
tokens_are_lent w h i label first count holds lt is =
    lent_at w h i label first (entries.Lend label first count) (world_so w h (holds.each h lt)) (in_got (entries.Lend label first count) (queue_of w.machine h) i (leaving_stands w.machine h i (entries.Lend label first count) is)) refl
