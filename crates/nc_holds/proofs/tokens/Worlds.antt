-- Tokens, what is left of plans, and loads after each event.
use Rattle.std.specs.Prelude.{Option, Some, None, ◌<◌, not, slice_set, slice_index_or}
use Rattle.std.proofs.Common.{◌≡◌, ◌≢◌, ℕ, Bool, true, false, List, length, refl, sym, ap, ◌∙◌, inl, inr, subst, arith}
use Rattle.std.proofs.lemmas.Bool.{false≢true, and_parts, cases_eq}
use Rattle.std.proofs.lemmas.List.{get_or-set_same, get_or-set_other}
use Rattle.nc_num.specs.declared.names.ChanNo.{ChanNo}
use Rattle.nc_num.specs.declared.names.HartNo.{HartNo}
use Rattle.nc_num.specs.declared.names.Label.{Label}
use Rattle.nc_queue.specs.Rules as queues
use Rattle.nc_queue.specs.declared.entry.Entry.{Entry}
use Rattle.nc_plan.specs.Plans.{In}
use Rattle.nc_plan.specs.declared.ops.HartOp.{HartOp}
use Rattle.nc_hart.specs.HartState.{HartState}
use Rattle.nc_hart.specs.Issue.{entry_of}
use Rattle.nc_rules.specs.declared.answers.Issued.{Issued}
use Rattle.nc_rules.specs.declared.answers.Issued.TheVariants as issued
use Rattle.nc_rules.specs.declared.steps.Next.{Next}
use Rattle.nc_rules.specs.declared.steps.Next.TheVariants as nexts
use Rattle.nc_rules.specs.declared.steps.Seen.TheVariants as seen
use Rattle.nc_rules.specs.Machine.{MachineState, no_hart, hart_of, queue_of, grantee_of}
use Rattle.nc_rules.specs.Calls.{io_waits, issue_next, issue_answer, claim_next, take_next, control_of}
use Rattle.nc_rules.specs.Sound.{IsMachine}
use Rattle.nc_rules.specs.Driver.{DriverState, next_of, waits_for, started, done}
use Rattle.nc_rules.specs.World.{WorldState, no_driver, driver_of}
use Rattle.nc_rules.specs.Events.{is_out, may_go_on}
use Rattle.nc_rules.specs.Outcomes.{seen_of, claim_seen, step_outcome, start_outcome, op_outcome, claim_outcome, poll_outcome, take_outcome}
use Rattle.nc_scripts.specs.Scripts.{is_act}
use Rattle.nc_scripts.specs.Drivers.{IsSeenAt, loaded_next}
use Rattle.nc_scripts.proofs.LastLoads.{last_loads_follow}
use Rattle.nc_holds.specs.Tokens.{TokensAgree}
use Rattle.nc_holds.specs.Holds.{Holds, DriverHolds}
use Rattle.nc_holds.proofs.messages.Worlds.{Comes, claim_same, take_harts, issue_is}
use Rattle.nc_holds.proofs.tokens.Done.{waits_next, token_next}
use Rattle.nc_holds.proofs.tokens.Harts.{HartSo, none_queued, waits_none, entry_token, queued_from}
use Rattle.nc_holds.proofs.tokens.Events.{TokensAreOut, QueuedThen, so_started, so_done}

-- of hart g of a world
abbrev pub WorldSo : WorldState → ℕ → Type 0
WorldSo w g = HartSo (driver_of w g) (queue_of w.machine g) (length (hart_of w.machine g).last)

pub world_so : (w : WorldState) (g : ℕ) → DriverHolds w g → WorldSo w g
world_so w g h = record { queued = h.tokens.queued; follows = h.tokens.to_queue; light = h.tokens.light; rest = h.rest; loads = h.loads }

pub tokens_so : (w : WorldState) (g : ℕ) → WorldSo w g → TokensAgree w g
tokens_so w g h = record { queued = h.queued; to_queue = h.follows; light = h.light }

-- what is known of the world and of the hart that goes on
pub record At (w : WorldState) (h : HartNo) : Type 0 where
  pub is : IsMachine w.machine
  pub holds : Holds w
  pub lt : h.0 < length w.machine.harts

pub here : (w : WorldState) (h : HartNo) → At w h → DriverHolds w h.0
here w h a = a.holds.each h.0 a.lt

-- ---- a driver goes on, or none

abbrev pub AllSo : WorldState → WorldState → Type 0
AllSo w n = (g : ℕ) → g < length w.machine.harts → WorldSo n g

-- the drivers of a world in which hart h's goes on, with the machine after it
pub record Went1 (w n : WorldState) (h : HartNo) (m : MachineState) (d : DriverState) : Type 0 where
  pub machine : n.machine ≡ m
  pub drivers : n.drivers ≡ slice_set w.drivers h.0 d

pub so_at : (w n : WorldState) (h : HartNo) (m : MachineState) (d : DriverState) → At w h → Went1 w n h m d → ((g : ℕ) → g ≢ h.0 → hart_of m g ≡ hart_of w.machine g) → HartSo d (queue_of m h.0) (length (hart_of m h.0).last) → AllSo w n
so_at w n h m d a k others so g lt =
    subst (λ (ds : List DriverState). HartSo (slice_index_or ds g no_driver) (queue_of n.machine g) (length (hart_of n.machine g).last)) (sym k.drivers)
    (subst (λ (v : MachineState). HartSo (slice_index_or (slice_set w.drivers h.0 d) g no_driver) (queue_of v g) (length (hart_of v g).last)) (sym k.machine)
    (elim (cases_eq g h.0) [
      | inl e ↦ subst (λ (j : ℕ). HartSo (slice_index_or (slice_set w.drivers h.0 d) j no_driver) (queue_of m j) (length (hart_of m j).last)) (sym e)
          (subst (λ (c : DriverState). HartSo c (queue_of m h.0) (length (hart_of m h.0).last)) (sym (get_or-set_same w.drivers h.0 d no_driver (omega (arith, a.holds.drivers, a.lt)))) so)
      | inr ne ↦ subst (λ (c : DriverState). HartSo c (queue_of m g) (length (hart_of m g).last)) (sym (get_or-set_other w.drivers h.0 g d no_driver ne))
          (subst (λ (s : HartState). HartSo (driver_of w g) s.queue.entries (length s.last)) (sym (others g ne)) (world_so w g (a.holds.each g lt)))
    ]))

pub same_so : (w n : WorldState) → Holds w → n.drivers ≡ w.drivers → n.machine.harts ≡ w.machine.harts → AllSo w n
same_so w n holds ds hs g lt =
    subst (λ (xs : List DriverState). HartSo (slice_index_or xs g no_driver) (queue_of n.machine g) (length (hart_of n.machine g).last)) (sym ds)
    (subst (λ (xs : List HartState). HartSo (driver_of w g) (slice_index_or xs g no_hart).queue.entries (length (slice_index_or xs g no_hart).last)) (sym hs) (world_so w g (holds.each g lt)))

pub hart_same : (m n : MachineState) (g : ℕ) → n.harts ≡ m.harts → hart_of n g ≡ hart_of m g
hart_same m n g e = ap (λ (hs : List HartState). slice_index_or hs g no_hart) e

-- the queue and the last load of the hart that goes on stay too
pub so_same : (w n : WorldState) (h : HartNo) (m : MachineState) (d : DriverState) → At w h → Went1 w n h m d → m.harts ≡ w.machine.harts → HartSo d (queue_of w.machine h.0) (length (hart_of w.machine h.0).last) → AllSo w n
so_same w n h m d a k e so =
    so_at w n h m d a k (λ g ne. hart_same w.machine m g e) (subst (λ (s : HartState). HartSo d s.queue.entries (length s.last)) (sym (hart_same w.machine m h.0 e)) so)

-- ---- a step

pub seen_at : (nx : Next) (r : Issued) → IsSeenAt nx (seen_of r)
seen_at nx (issued.Value value) = tt
seen_at nx (issued.Loaded bytes bus) = tt
seen_at nx issued.Queued = tt
seen_at nx issued.Passed = tt

pub claim_at : (nx : Next) (chan : ChanNo) (g : Option HartNo) → nx ≡ nexts.Claim chan → IsSeenAt nx (claim_seen g)
claim_at nx chan None e = tt
claim_at nx chan (Some g) e = (chan.0, e)

pub not_so : (t : Bool) → not t ≡ true → t ≡ false
not_so true e = absurd (false≢true e)
not_so false e = refl

out_of : (w : WorldState) (h : HartNo) → is_out w.machine h (waits_for (driver_of w h.0)) ≡ true → TokensAreOut (driver_of w h.0) (queue_of w.machine h.0)
out_of w h out label e = not_so (queues.lends (queue_of w.machine h.0) label.0) (subst (λ (o : Option Label). is_out w.machine h o ≡ true) e out)

-- nothing of class O is queued
alone : (w : WorldState) (h : HartNo) → not (io_waits w.machine h.0) ≡ true → QueuedThen (driver_of w h.0) (queue_of w.machine h.0) (queue_of w.machine h.0)
alone w h none e i is token = absurd (none_queued (queue_of w.machine h.0) i (not_so (io_waits w.machine h.0) none) (e, is, token))

issued_then : (w : WorldState) (h : HartNo) (op : HartOp) → next_of (driver_of w h.0) ≡ nexts.Op op → may_go_on w h (nexts.Op op) ≡ true → h.0 < length w.machine.harts
    → QueuedThen (driver_of w h.0) (queue_of w.machine h.0) (queue_of (issue_next w.machine h.0 op) h.0)
issued_then w h op nx may lt e i is token =
    elim (queued_from (hart_of w.machine h.0).queue (entry_of (hart_of w.machine h.0).last op) e (subst (λ (q : List Entry). In e q) (issue_is w.machine h.0 op lt).own is)) [
      | inl old ↦ inl (old, λ waits. waits_none (hart_of w.machine h.0) op i (sym (ap waits_next nx) ∙ waits) may (e, old, token))
      | inr new ↦ inr (ap token_next nx ∙ sym (entry_token (hart_of w.machine h.0).last op e new) ∙ token)
    ]

pub step_so : (w n : WorldState) (h : HartNo) (nx : Next) → At w h → next_of (driver_of w h.0) ≡ nx → may_go_on w h nx ≡ true → is_out w.machine h (waits_for (driver_of w h.0)) ≡ true → Comes w n (step_outcome w h nx) → AllSo w n
unfolding step_outcome start_outcome op_outcome claim_outcome poll_outcome take_outcome
step_so w n h nexts.End a nx may out k = absurd (false≢true may)
step_so w n h (nexts.Search x) a nx may out k = absurd (false≢true may)
step_so w n h nexts.Start a nx may out k =
    let s = here w h a in
    so_same w n h w.machine (started (driver_of w h.0) w.owners w.pages).driver a (record { machine = k.machine; drivers = k.drivers }) refl
    (so_started _ _ (driver_of w h.0) (queue_of w.machine h.0) (length (hart_of w.machine h.0).last) w.owners w.pages s.driver (world_so w h.0 s) s.setting.pages nx (out_of w h out))
step_so w n h (nexts.Op op) a nx may out k =
    let s = here w h a in
    let i = issue_is w.machine h.0 op a.lt in
    so_at w n h (issue_next w.machine h.0 op) (done (driver_of w h.0) (seen_of (issue_answer w.machine h.0 op))).driver a (record { machine = k.machine; drivers = k.drivers }) i.others
    (so_done _ _ (driver_of w h.0) (queue_of w.machine h.0) (queue_of (issue_next w.machine h.0 op) h.0) (length (hart_of w.machine h.0).last) (length (hart_of (issue_next w.machine h.0 op) h.0).last) (seen_of (issue_answer w.machine h.0 op)) s.driver (world_so w h.0 s)
    (ap is_act nx) (seen_at (next_of (driver_of w h.0)) (issue_answer w.machine h.0 op)) (ap (λ (x : Next). loaded_next x (length (hart_of w.machine h.0).last)) nx ∙ sym (last_loads_follow w.machine h.0 op a.lt)) (issued_then w h op nx may a.lt))
step_so w n h (nexts.Claim chan) a nx may out k =
    let s = here w h a in
    so_same w n h (claim_next w.machine h chan.0) (done (driver_of w h.0) (claim_seen (grantee_of w.machine chan.0))).driver a (record { machine = k.machine; drivers = k.drivers }) (claim_same w.machine h chan.0).harts
    (so_done _ _ (driver_of w h.0) (queue_of w.machine h.0) (queue_of w.machine h.0) (length (hart_of w.machine h.0).last) (length (hart_of w.machine h.0).last) (claim_seen (grantee_of w.machine chan.0)) s.driver (world_so w h.0 s)
    (ap is_act nx) (claim_at (next_of (driver_of w h.0)) chan (grantee_of w.machine chan.0) nx) (ap (λ (x : Next). loaded_next x (length (hart_of w.machine h.0).last)) nx) (alone w h may))
step_so w n h (nexts.Poll chan) a nx may out k =
    let s = here w h a in
    so_same w n h w.machine (done (driver_of w h.0) (seen.Control (control_of w.machine chan.0))).driver a (record { machine = k.machine; drivers = k.drivers }) refl
    (so_done _ _ (driver_of w h.0) (queue_of w.machine h.0) (queue_of w.machine h.0) (length (hart_of w.machine h.0).last) (length (hart_of w.machine h.0).last) (seen.Control (control_of w.machine chan.0)) s.driver (world_so w h.0 s)
    (ap is_act nx) tt (ap (λ (x : Next). loaded_next x (length (hart_of w.machine h.0).last)) nx) (alone w h (and_parts _ _ may).0))
step_so w n h (nexts.Take buf) a nx may out k =
    let s = here w h a in
    so_same w n h (take_next w.machine h.0 buf) (done (driver_of w h.0) seen.Nothing).driver a (record { machine = k.machine; drivers = k.drivers }) (take_harts w.machine h.0 buf)
    (so_done _ _ (driver_of w h.0) (queue_of w.machine h.0) (queue_of w.machine h.0) (length (hart_of w.machine h.0).last) (length (hart_of w.machine h.0).last) seen.Nothing s.driver (world_so w h.0 s)
    (ap is_act nx) tt (ap (λ (x : Next). loaded_next x (length (hart_of w.machine h.0).last)) nx) (alone w h (and_parts _ _ may).0))
