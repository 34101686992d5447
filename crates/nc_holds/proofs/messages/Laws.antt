-- Messages go on; and a message that is taken is of a buffer that is passed to the hart.
use Rattle.std.specs.Prelude.{Option, Some, None, ◌<◌, is_some}
use Rattle.std.proofs.Common.{◌≡◌, ℕ, Bool, true, List, length, refl, ap, ◌∙◌, subst, arith}
use Rattle.std.proofs.lemmas.Bool.{false≢true, and_parts}
use Rattle.nc_num.specs.declared.names.HartNo.{HartNo}
use Rattle.nc_num.specs.declared.places.Span.{Span}
use Rattle.nc_model.specs.declared.owners.Owner.TheVariants as owners
use Rattle.nc_model.specs.declared.touches.Touch.{Touch}
use Rattle.nc_queue.specs.declared.entry.Entry.{Entry}
use Rattle.nc_queue.specs.declared.entry.Entry.TheVariants as entries
use Rattle.nc_hart.specs.HartState.{HartState}
use Rattle.nc_scen.specs.declared.events.Event.{Event}
use Rattle.nc_scen.specs.declared.events.Event.TheVariants as events
use Rattle.nc_scen.specs.Events.{IsThere}
use Rattle.nc_rules.specs.declared.records.Record.{Record}
use Rattle.nc_rules.specs.declared.steps.Next.{Next}
use Rattle.nc_rules.specs.declared.steps.Next.TheVariants as nexts
use Rattle.nc_rules.specs.Machine.{MachineState, queue_of, box_of}
use Rattle.nc_rules.specs.Calls.{may_take, leaving, drain_next}
use Rattle.nc_rules.specs.Refusals.{buffer_of}
use Rattle.nc_rules.specs.Sound.{IsMachine}
use Rattle.nc_rules.specs.Driver.{next_of, searching, waits_for}
use Rattle.nc_rules.specs.World.{WorldState, driver_of}
use Rattle.nc_rules.specs.Events.{enabled, is_out, may_go_on}
use Rattle.nc_rules.specs.Outcomes.{Outcome, outcome, step_outcome, start_outcome, op_outcome, claim_outcome, poll_outcome, take_outcome, at_word, try_outcome, told_outcome, leaves, drain_outcome}
use Rattle.nc_rules.specs.Next.{next}
use Rattle.nc_calls.proofs.DrainPlaces.{drain_is}
use Rattle.nc_calls.proofs.SoundLaws.{calls_keep_shape}
use Rattle.nc_scripts.proofs.EveryDriver.{drivers_stay}
use Rattle.nc_holds.specs.Held.{IsOwnedBy}
use Rattle.nc_holds.specs.Messages.{mails, mail_steps, MessagesAgree}
use Rattle.nc_holds.specs.Holds.{Holds}
use Rattle.nc_holds.proofs.lists.Changes.{in_got}
use Rattle.nc_holds.proofs.messages.Goes.{buffer_alike}
use Rattle.nc_holds.proofs.messages.GoesOn.{for_hart, Unmoved, unmoved_status, unmoved_rest, unmoved_owners, mail_leaves, token_leaves, step_messages, at_word_messages, try_messages, told_messages, same_boxes}
use Rattle.nc_holds.proofs.messages.Starts.{AllStatus}
use Rattle.nc_holds.proofs.messages.Status.{status_kept, given_from}
use Rattle.nc_holds.proofs.messages.Worlds.{Comes, comes, SameHarts, fill_same, evict_same, read_same, write_same, claim_same, issue_is}
use Rattle.nc_holds.proofs.tokens.GoesOn.{lent_at}
use Rattle.nc_holds.proofs.tokens.Worlds.{At, here, world_so, hart_same}

-- ---- a drain

leaves_messages : (w n : WorldState) (h : HartNo) (i : ℕ) (touch : Option Touch) (rs : List Record) (e : Entry) → At w h → leaving w.machine h.0 i ≡ Some e → Comes w n (leaves w h (drain_next w.machine h.0 i) touch rs e) → AllStatus w n
leaves_messages w n h i touch rs (entries.Lend label first count) a is c b lt =
    let out = drain_is w.machine h.0 i (entries.Lend label first count) a.is a.lt is in
    let s = here w h a in
    let at = lent_at w h.0 i label first (entries.Lend label first count) (world_so w h.0 s) (in_got (entries.Lend label first count) (queue_of w.machine h.0) i out.queues.stood) refl in
    token_leaves w n h i label first count a out (record { machine = c.machine; drivers = c.drivers; owners = c.owners; fixed = ((drivers_stay _ _ (driver_of w h.0) s.driver).lends label first at).fixed }) b lt
leaves_messages w n h i touch rs (entries.Mail buf to) a is c b lt =
    mail_leaves w n h i buf to a (record { drivers = c.drivers; owners = c.owners }) (drain_is w.machine h.0 i (entries.Mail buf to) a.is a.lt is) c.machine b lt
leaves_messages w n h i touch rs (entries.Store span bytes kind) a is c b lt =
    let out = drain_is w.machine h.0 i (entries.Store span bytes kind) a.is a.lt is in
    unmoved_status w n h i (entries.Store span bytes kind) b a (record { drivers = c.drivers; owners = c.owners }) out refl c.machine (same_boxes w.machine (drain_next w.machine h.0 i) b out.devices.boxes) lt
leaves_messages w n h i touch rs (entries.Cbo block op) a is c b lt =
    let out = drain_is w.machine h.0 i (entries.Cbo block op) a.is a.lt is in
    unmoved_status w n h i (entries.Cbo block op) b a (record { drivers = c.drivers; owners = c.owners }) out refl c.machine (same_boxes w.machine (drain_next w.machine h.0 i) b out.devices.boxes) lt
leaves_messages w n h i touch rs (entries.Reg chan off width value) a is c b lt =
    let out = drain_is w.machine h.0 i (entries.Reg chan off width value) a.is a.lt is in
    unmoved_status w n h i (entries.Reg chan off width value) b a (record { drivers = c.drivers; owners = c.owners }) out refl c.machine (same_boxes w.machine (drain_next w.machine h.0 i) b (out.devices _ refl).boxes) lt
leaves_messages w n h i touch rs (entries.Mark pred succ) a is c b lt =
    let out = drain_is w.machine h.0 i (entries.Mark pred succ) a.is a.lt is in
    unmoved_status w n h i (entries.Mark pred succ) b a (record { drivers = c.drivers; owners = c.owners }) out refl c.machine (same_boxes w.machine (drain_next w.machine h.0 i) b out.devices.boxes) lt

drain_messages : (w n : WorldState) (h : HartNo) (i : ℕ) (o : Option Entry) → At w h → leaving w.machine h.0 i ≡ o → is_some o ≡ true → Comes w n (drain_outcome w h i o) → AllStatus w n
unfolding drain_outcome
drain_messages w n h i None a is some c = absurd (false≢true some)
drain_messages w n h i (Some e) a is some c = leaves_messages w n h i _ _ e a is c

-- ---- caches and channels

machine_messages : (w n : WorldState) (m : MachineState) → Holds w → Unmoved w n → n.machine ≡ m → SameHarts w.machine m → AllStatus w n
machine_messages w n m holds u e same b lt =
    status_kept w n b (record {
      steps = λ g. ap (mail_steps b) (unmoved_rest w n g u);
      queue = λ g. ap (λ (v : MachineState). mails b (queue_of v g)) e ∙ ap (λ (t : HartState). mails b t.queue.entries) (hart_same w.machine m g same.harts);
      box_is = ap (λ (v : MachineState). box_of v b) e ∙ same_boxes w.machine m b same.boxes;
      owners = unmoved_owners w n b u;
    }) (holds.messages b lt)

-- ---- every event

pub all_messages : (w : WorldState) (e : Event) → IsMachine w.machine → Holds w → IsThere (length w.machine.harts) w.machine.size (length w.machine.cache.ram) e → enabled w e ≡ true → Comes w (next w e) (outcome w e) → AllStatus w (next w e)
unfolding enabled outcome
all_messages w (events.Issue h) is holds there en c =
    let both = and_parts (is_out w.machine h (waits_for (driver_of w h.0))) (may_go_on w h (next_of (driver_of w h.0))) en in
    step_messages w (next w (events.Issue h)) h (next_of (driver_of w h.0)) (record { is = is; holds = holds; lt = there }) refl both.1 c
all_messages w (events.Try h) is holds there en c =
    at_word_messages w (next w (events.Try h)) (try_outcome w h) (driver_of w h.0) (searching (driver_of w h.0)) refl en c (λ k s d. try_messages w (next w (events.Try h)) h k (record { is = is; holds = holds; lt = there }) s d)
all_messages w (events.Told h got) is holds there en c =
    at_word_messages w (next w (events.Told h got)) (told_outcome w h got) (driver_of w h.0) (searching (driver_of w h.0)) refl en c (λ k s d. told_messages w (next w (events.Told h got)) h got k (record { is = is; holds = holds; lt = there }) s d)
all_messages w (events.Drain h i) is holds there en c = drain_messages w (next w (events.Drain h i)) h i (leaving w.machine h.0 i) (record { is = is; holds = holds; lt = there }) refl en c
all_messages w (events.Fill h b) is holds there en c = machine_messages w (next w (events.Fill h b)) _ holds (record { drivers = c.drivers; owners = c.owners }) c.machine (fill_same w.machine h.0 b.0)
all_messages w (events.Evict h b) is holds there en c = machine_messages w (next w (events.Evict h b)) _ holds (record { drivers = c.drivers; owners = c.owners }) c.machine (evict_same w.machine h.0 b.0)
all_messages w (events.ChanRead chan) is holds there en c = machine_messages w (next w (events.ChanRead chan)) _ holds (record { drivers = c.drivers; owners = c.owners }) c.machine (read_same w.machine chan.0)
all_messages w (events.ChanWrite chan) is holds there en c = machine_messages w (next w (events.ChanWrite chan)) _ holds (record { drivers = c.drivers; owners = c.owners }) c.machine (write_same w.machine chan.0)

-- ---- how many boxes

boxes_stay : (w n : WorldState) (m : MachineState) → n.machine ≡ m → m.boxes ≡ w.machine.boxes → length n.machine.boxes ≡ length w.machine.boxes
boxes_stay w n m e same = ap (λ (v : MachineState). length v.boxes) e ∙ ap length same

step_boxes : (w n : WorldState) (h : HartNo) (nx : Next) → h.0 < length w.machine.harts → Comes w n (step_outcome w h nx) → length n.machine.boxes ≡ length w.machine.boxes
unfolding step_outcome start_outcome op_outcome claim_outcome poll_outcome take_outcome
step_boxes w n h nexts.End lt c = boxes_stay w n w.machine c.machine refl
step_boxes w n h (nexts.Search k) lt c = boxes_stay w n w.machine c.machine refl
step_boxes w n h nexts.Start lt c = boxes_stay w n w.machine c.machine refl
step_boxes w n h (nexts.Op op) lt c = boxes_stay w n _ c.machine (issue_is w.machine h.0 op lt).boxes
step_boxes w n h (nexts.Claim chan) lt c = boxes_stay w n _ c.machine (claim_same w.machine h chan.0).boxes
step_boxes w n h (nexts.Poll chan) lt c = boxes_stay w n w.machine c.machine refl
step_boxes w n h (nexts.Take buf) lt c = ap (λ (v : MachineState). length v.boxes) c.machine ∙ (calls_keep_shape.of_take w.machine h.0 buf).boxes

word_boxes : (w n : WorldState) (f : ℕ → Outcome) (o : Option ℕ) → ((k : ℕ) → (f k).machine ≡ w.machine) → Comes w n (at_word w f o) → length n.machine.boxes ≡ length w.machine.boxes
word_boxes w n f None h c = boxes_stay w n w.machine c.machine refl
word_boxes w n f (Some k) h c = ap (λ (v : MachineState). length v.boxes) (c.machine ∙ h k)

try_machine : (w : WorldState) (h : HartNo) (k : ℕ) → (try_outcome w h k).machine ≡ w.machine
unfolding try_outcome
try_machine w h k = refl

told_machine : (w : WorldState) (h : HartNo) (got : Bool) (k : ℕ) → (told_outcome w h got k).machine ≡ w.machine
unfolding told_outcome
told_machine w h got k = refl

leaves_machine : (w : WorldState) (h : HartNo) (m : MachineState) (touch : Option Touch) (rs : List Record) (e : Entry) → (leaves w h m touch rs e).machine ≡ m
leaves_machine w h m touch rs (entries.Lend label first count) = refl
leaves_machine w h m touch rs (entries.Store span bytes kind) = refl
leaves_machine w h m touch rs (entries.Cbo block op) = refl
leaves_machine w h m touch rs (entries.Reg chan off width value) = refl
leaves_machine w h m touch rs (entries.Mail buf to) = refl
leaves_machine w h m touch rs (entries.Mark pred succ) = refl

drain_boxes : (w n : WorldState) (h : HartNo) (i : ℕ) (o : Option Entry) → IsMachine w.machine → h.0 < length w.machine.harts → Comes w n (drain_outcome w h i o) → length n.machine.boxes ≡ length w.machine.boxes
unfolding drain_outcome
drain_boxes w n h i None is lt c = boxes_stay w n w.machine c.machine refl
drain_boxes w n h i (Some e) is lt c = ap (λ (v : MachineState). length v.boxes) (c.machine ∙ leaves_machine w h (drain_next w.machine h.0 i) _ _ e) ∙ (calls_keep_shape.of_drain w.machine h.0 i is lt).boxes

pub boxes_go_on : (w : WorldState) (e : Event) → IsMachine w.machine → IsThere (length w.machine.harts) w.machine.size (length w.machine.cache.ram) e → Comes w (next w e) (outcome w e) → length (next w e).machine.boxes ≡ length w.machine.boxes
unfolding outcome
boxes_go_on w (events.Issue h) is there c = step_boxes w (next w (events.Issue h)) h (next_of (driver_of w h.0)) there c
boxes_go_on w (events.Try h) is there c = word_boxes w (next w (events.Try h)) (try_outcome w h) (searching (driver_of w h.0)) (try_machine w h) c
boxes_go_on w (events.Told h got) is there c = word_boxes w (next w (events.Told h got)) (told_outcome w h got) (searching (driver_of w h.0)) (told_machine w h got) c
boxes_go_on w (events.Drain h i) is there c = drain_boxes w (next w (events.Drain h i)) h i (leaving w.machine h.0 i) is there c
boxes_go_on w (events.Fill h b) is there c = boxes_stay w (next w (events.Fill h b)) _ c.machine (fill_same w.machine h.0 b.0).boxes
boxes_go_on w (events.Evict h b) is there c = boxes_stay w (next w (events.Evict h b)) _ c.machine (evict_same w.machine h.0 b.0).boxes
boxes_go_on w (events.ChanRead chan) is there c = boxes_stay w (next w (events.ChanRead chan)) _ c.machine (read_same w.machine chan.0).boxes
boxes_go_on w (events.ChanWrite chan) is there c = boxes_stay w (next w (events.ChanWrite chan)) _ c.machine (write_same w.machine chan.0).boxes

-- ---- the laws

pub messages_go_on : (w : WorldState) (e : Event) → IsMachine w.machine → Holds w → IsThere (length w.machine.harts) w.machine.size (length w.machine.cache.ram) e → enabled w e ≡ true → MessagesAgree (next w e)
messages_go_on w e is holds there en b lt =
    let c = comes w e en in
    all_messages w e is holds there en c b (omega (arith, lt, boxes_go_on w e is there c))

-- a take that may happen is of a buffer that is passed to its hart
pub take_is_passed : (w : WorldState) (h : HartNo) (buf : ℕ) → IsMachine w.machine → Holds w → h.0 < length w.machine.harts → next_of (driver_of w h.0) ≡ nexts.Take buf → may_take w.machine h.0 buf ≡ true
    → (g : HartNo) × IsOwnedBy w.owners (buffer_of (driver_of w h.0).fixed buf) (owners.Passing g h)
take_is_passed w h buf is holds lt nx may =
    let a : At w h = record { is = is; holds = holds; lt = lt } in
    let s = here w h a in
    let there = (drivers_stay _ _ (driver_of w h.0) s.driver).next_there in
    let less : buf < length (driver_of w h.0).fixed.buffers = rw nx at there in
    let given = given_from w buf h (for_hart h (box_of w.machine buf) may) (holds.messages buf (omega (arith, less, s.setting.boxes))) in
    (given.from, subst (λ (r : Span). IsOwnedBy w.owners r (owners.Passing given.from h)) (buffer_alike w h buf a) given.owners)
