-- What a driver does next fits its world.
use Rattle.std.proofs.Common.{◌≡◌, ℕ, ◌<◌, length, refl, arith, subst}
use Rattle.std.specs.Prelude.{Option, Some, None}
use Rattle.nc_num.specs.declared.names.HartNo.{HartNo}
use Rattle.nc_rules.specs.declared.steps.Next.{Next}
use Rattle.nc_rules.specs.declared.steps.Next.TheVariants as nexts
use Rattle.nc_rules.specs.Driver.{next_of, searching, searched}
use Rattle.nc_rules.specs.Lots.{DriverConfig}
use Rattle.nc_rules.specs.Machine.{MachineState, hart_of, grantee_of}
use Rattle.nc_rules.specs.Outcomes.{claim_seen, seen_of}
use Rattle.nc_rules.specs.Calls.{issue_answer}
use Rattle.nc_rules.specs.declared.answers.Issued.{Issued}
use Rattle.nc_rules.specs.declared.answers.Issued.TheVariants as issued
use Rattle.nc_rules.specs.World.{WorldState, driver_of}
use Rattle.nc_scripts.specs.Drivers.{NextIsThere, NextFitsLast, IsSeenAt, EachStaysDriver}
use Rattle.nc_scripts.specs.Scripts.{IsDriven}
use Rattle.nc_holds.specs.Holds.{Holds, DriverHolds}
use Rattle.nc_world.specs.Steps.{NextFits, step_seen}

-- ---- what a driver does next is there

driven_of : (w : WorldState) (h : ℕ) → DriverHolds w h → IsDriven (length w.machine.cache.ram) (length w.machine.harts) (driver_of w h).fixed w.machine
driven_of w h is = record { memory = refl; block = is.setting.block; processors = refl; boxes = is.setting.boxes }

fits_of : (ram harts : ℕ) (f : DriverConfig) (m : MachineState) (h : ℕ) (n : Next) → IsDriven ram harts f m → NextIsThere ram harts f n → NextFitsLast (length (hart_of m h).last) n → NextFits m h n
fits_of ram harts f m h nexts.End is there last = tt
fits_of ram harts f m h nexts.Start is there last = tt
fits_of ram harts f m h (nexts.Search k) is there last = tt
fits_of ram harts f m h (nexts.Op op) is there last = there m h is last
fits_of ram harts f m h (nexts.Claim chan) is there last = there
fits_of ram harts f m h (nexts.Poll chan) is there last = there
fits_of ram harts f m h (nexts.Take buf) is there last = omega (arith, is.boxes, there)

pub next_fits : (w : WorldState) (h : ℕ) → EachStaysDriver → Holds w → h < length w.machine.harts → NextFits w.machine h (next_of (driver_of w h))
next_fits w h law is lt =
    let d = driver_of w h in
    let of = is.each h lt in
    let ram = length w.machine.cache.ram in
    let harts = length w.machine.harts in
    let stays = law ram harts d of.driver in
    fits_of ram harts d.fixed w.machine h (next_of d) (driven_of w h of) stays.next_there (stays.next_fits (length (hart_of w.machine h).last) of.loads)

-- the slot word that a driver tries next is there
word_by : (w : WorldState) (h : ℕ) (n : Next) (k : ℕ) → NextIsThere (length w.machine.cache.ram) (length w.machine.harts) (driver_of w h).fixed n → searched n ≡ Some k
    → k < (driver_of w h).fixed.slots
word_by w h (nexts.Search j) k there e = subst (λ (x : ℕ). x < (driver_of w h).fixed.slots) (cc) there
word_by w h nexts.End k there e = absurd (cc)
word_by w h nexts.Start k there e = absurd (cc)
word_by w h (nexts.Op op) k there e = absurd (cc)
word_by w h (nexts.Claim chan) k there e = absurd (cc)
word_by w h (nexts.Poll chan) k there e = absurd (cc)
word_by w h (nexts.Take buf) k there e = absurd (cc)

pub word_there : (w : WorldState) (h k : ℕ) → EachStaysDriver → Holds w → h < length w.machine.harts → searching (driver_of w h) ≡ Some k → k < length w.slots
unfolding searching
word_there w h k law is lt e =
    let of = is.each h lt in
    let stays = law (length w.machine.cache.ram) (length w.machine.harts) (driver_of w h) of.driver in
    omega (arith, of.setting.words, word_by w h (next_of (driver_of w h)) k stays.next_there e)

-- only a claim sees that a channel is granted
seen_issued : (n : Next) (i : Issued) → IsSeenAt n (seen_of i)
seen_issued n (issued.Value value) = tt
seen_issued n (issued.Loaded bytes bus) = tt
seen_issued n issued.Queued = tt
seen_issued n issued.Passed = tt

seen_claim : (c : ℕ) (g : Option HartNo) → IsSeenAt (nexts.Claim (record { 0 = c })) (claim_seen g)
seen_claim c None = tt
seen_claim c (Some g) = (c, refl)

pub seen_at : (m : MachineState) (h : HartNo) (n : Next) → IsSeenAt n (step_seen m h n)
seen_at m h nexts.End = tt
seen_at m h nexts.Start = tt
seen_at m h (nexts.Search k) = tt
seen_at m h (nexts.Op op) = seen_issued (nexts.Op op) (issue_answer m h.0 op)
seen_at m h (nexts.Claim chan) = seen_claim chan.0 (grantee_of m chan.0)
seen_at m h (nexts.Poll chan) = tt
seen_at m h (nexts.Take buf) = tt
