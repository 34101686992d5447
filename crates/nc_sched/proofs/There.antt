-- Each event that a schedule gives names what is there.
use Rattle.std.proofs.Common.{◌≡◌, inl, inr, ℕ, zero, suc, ◌+◌, ◌-◌, ◌*◌, ◌/◌, ◌%◌, ◌<◌, ◌≤◌, Bool, true, false, List, [], ◌∷◌, ◌++◌, length, Some, None, refl, subst, arith}
use Rattle.std.specs.Prelude.{if◌then◌else◌, slice_get, nat_lt, ◌==◌, All, is_some}
use Rattle.std.specs.List.{AllByRecursion}
use Rattle.std.proofs.Math.Nat.{mod-lt, mul-div-le}
use Rattle.std.proofs.lemmas.Bool.Decides.{nat_tests}
use Rattle.std.proofs.lemmas.List.Elements.{recursion_from_All, All-from_recursion, All-append, All-take}
use Rattle.rand_pcg.specs.Lcg.{Lcg}
use Rattle.nc_num.specs.Sizes.{IsBlockSize}
use Rattle.nc_scen.specs.Accepted.{IsAccepted, FitsPlan}
use Rattle.nc_scen.specs.Events.{IsThere}
use Rattle.nc_scen.specs.declared.events.Event.{Event}
use Rattle.nc_scen.specs.declared.events.Event.TheVariants.{Issue, Try, Drain, Fill, Evict, ChanRead, ChanWrite}
use Rattle.nc_scen.specs.declared.scenario.Plan.{Plan}
use Rattle.nc_scen.specs.declared.scenario.Plan.TheVariants as plans
use Rattle.nc_scen.specs.declared.scenario.Scenario.{Scenario}
use Rattle.nc_rules.specs.Driver.{searching}
use Rattle.nc_rules.specs.World.{WorldState, hart, driver_of, start}
use Rattle.nc_rules.specs.Next.{next}
use Rattle.nc_rules.specs.Run as run
use Rattle.nc_rules.specs.Flat.{AreThere}
use Rattle.nc_rules.specs.Schedule.{Size, size_of, begun, first_word, second_word, after_words, turn_event, event_of, drawn, draws, planned, plan_events, channel_event, round_event, round_len, round_from, round, rounds, finishing, no_event_enabled, sched, chan}
use Rattle.nc_sched.specs.declared.sched.Phase.{Phase}
use Rattle.nc_sched.specs.declared.sched.Phase.TheVariants as phases
use Rattle.nc_sched.specs.Stands.{listed, given, harts_of}

-- the machine of an accepted scenario, as far as events name its parts
pub record HasParts (harts size ram : ℕ) : Type 0 where
  pub some : 1 ≤ harts
  pub sized : IsBlockSize size
  pub whole : ram % 4096 ≡ 0
  pub page : 4096 ≤ ram

abbrev pub Is : ℕ → ℕ → ℕ → Event → Type 0
Is harts size ram e = IsThere harts size ram e

if_is : (harts size ram : ℕ) (t : Bool) (a b : Event) → Is harts size ram a → Is harts size ram b → Is harts size ram (if t then a else b)
if_is harts size ram true a b p q = p
if_is harts size ram false a b p q = q

if_is_by : (harts size ram : ℕ) (t : Bool) (a b : Event) → (t ≡ true → Is harts size ram a) → (t ≡ false → Is harts size ram b) → Is harts size ram (if t then a else b)
if_is_by harts size ram true a b p q = p refl
if_is_by harts size ram false a b p q = q refl

turn_is : (harts size ram : ℕ) (w : WorldState) (h : ℕ) → h < harts → Is harts size ram (turn_event w h)
turn_is harts size ram w h less = if_is harts size ram (is_some (searching (driver_of w h))) (Try (hart h)) (Issue (hart h)) less less

-- a block whose number is below the number of blocks lies in RAM
pub block_is : (size ram k : ℕ) → k < ram / size → size * k + size ≤ ram
block_is size ram k less =
    let all = mul-div-le ram size in
    let more : size * (k + 1) ≤ size * (ram / size) = grind arith in
    omega (arith, all, more, mul-suc_right)
  where
    mul-suc_right : size * (k + 1) ≡ size * k + size
    mul-suc_right = grind arith

pub some_blocks : (harts size ram : ℕ) → HasParts harts size ram → 0 < ram / size
some_blocks harts size ram p = elim p.sized.one_of as (λ _. 0 < ram / size) [
  | inl e ↦ rw e (omega (arith, p.page))
  | inr (inl e) ↦ rw e (omega (arith, p.page))
  | inr (inr e) ↦ rw e (omega (arith, p.page))
]

pub event_is : (harts size ram : ℕ) (w : WorldState) (a b : ℕ) → HasParts harts size ram → Is harts size ram (event_of w (record { harts = harts; blocks = ram / size }) a b)
event_is harts size ram w a b p =
    let h = a / 16 % harts in
    let less : h < harts = mod-lt (a / 16) p.some in
    let few : b % (ram / size) < ram / size = mod-lt b (some_blocks harts size ram p) in
    let there = block_is size ram (b % (ram / size)) few in
    let channel : a / 16 % 4 < 4 = omega arith in
    let evict = Evict (hart h) (record { 0 = b % (ram / size) }) in
    let fill = Fill (hart h) (record { 0 = b % (ram / size) }) in
    let five = if a % 16 == 14 then fill else evict in
    let four = if nat_lt (a % 16) 14 then ChanWrite (chan (a / 16 % 4)) else five in
    let three = if nat_lt (a % 16) 12 then ChanRead (chan (a / 16 % 4)) else four in
    let two = if nat_lt (a % 16) 10 then Drain (hart h) (b % 8) else three in
    if_is harts size ram (nat_lt (a % 16) 7) (turn_event w h) two (turn_is harts size ram w h less)
    (if_is harts size ram (nat_lt (a % 16) 10) (Drain (hart h) (b % 8)) three less
    (if_is harts size ram (nat_lt (a % 16) 12) (ChanRead (chan (a / 16 % 4))) four channel
    (if_is harts size ram (nat_lt (a % 16) 14) (ChanWrite (chan (a / 16 % 4))) five channel
    (if_is harts size ram (a % 16 == 14) fill evict (less, there) (less, there)))))

pub round_is : (harts size ram : ℕ) (w : WorldState) (i : ℕ) → HasParts harts size ram → i < round_len harts → Is harts size ram (round_event harts w i)
round_is harts size ram w i p less =
    let j = i - 2 * harts in
    let channel : j / 2 < 4 = omega (arith, less) in
    let last = if nat_lt i (2 * harts) then Drain (hart (i - harts)) 0 else channel_event j in
    if_is_by harts size ram (nat_lt i harts) (turn_event w i) last (λ t. turn_is harts size ram w i (grind (arith, nat_tests)))
    (λ t. if_is_by harts size ram (nat_lt i (2 * harts)) (Drain (hart (i - harts)) 0) (channel_event j)
    (λ u. omega (arith, at_least i harts t, below i (2 * harts) u, p.some))
    (λ u. if_is harts size ram (j % 2 == 0) (ChanRead (chan (j / 2))) (ChanWrite (chan (j / 2))) channel channel))
  where
    at_least : (i n : ℕ) → nat_lt i n ≡ false → n ≤ i
    at_least i n t = grind (arith, nat_tests)

    below : (i n : ℕ) → nat_lt i n ≡ true → i < n
    below i n t = grind (arith, nat_tests)

holds-at : (harts size ram : ℕ) (l : List Event) (i : ℕ) (e : Event) → AllByRecursion (Is harts size ram) l → slice_get l i ≡ Some e → Is harts size ram e
holds-at harts size ram [] i e all h = absurd (cc)
holds-at harts size ram (x ∷ xs) zero e all h = let same : x ≡ e = cc in subst (Is harts size ram) same all.0
holds-at harts size ram (x ∷ xs) (suc i) e all h = holds-at harts size ram xs i e all.1 h

listed_is : (sc : Scenario) (p : Plan) → FitsPlan (length sc.harts) sc.block_size sc.ram p → AllByRecursion (Is (length sc.harts) sc.block_size sc.ram) (listed p)
listed_is sc (plans.List es) fits = recursion_from_All (Is (length sc.harts) sc.block_size sc.ram) es fits.1
listed_is sc (plans.Seeded seed events) fits = tt

pub parts_of : (sc : Scenario) → IsAccepted sc → HasParts (length sc.harts) sc.block_size sc.ram
parts_of sc a = record { some = a.harts_some; sized = a.sized; whole = a.ram_whole; page = a.ram_some }

taken : (t : Bool) (f e : Event) → (if t then Some f else None) ≡ Some e → (t ≡ true) × (f ≡ e)
taken true f e h = (refl, cc)
taken false f e h = absurd (cc)

skipped : (t : Bool) (f e : Event) → (if t then None else Some f) ≡ Some e → f ≡ e
skipped true f e h = absurd (cc)
skipped false f e h = cc

pub there : (sc : Scenario) (p : Phase) (g : Lcg) (w : WorldState) (e : Event) → IsAccepted sc → given sc p g w ≡ Some e → IsThere (length sc.harts) sc.block_size sc.ram e
there sc (phases.List i) g w e a h = holds-at (length sc.harts) sc.block_size sc.ram (listed sc.plan) i e (listed_is sc sc.plan a.plan) h
there sc (phases.Drawn k) g w e a h =
    subst (Is (length sc.harts) sc.block_size sc.ram) (skipped (k == 0) (drawn w (size_of sc) g) e h) (event_is (length sc.harts) sc.block_size sc.ram w (first_word g) (second_word g) (parts_of sc a))
there sc (phases.Round at moved) g w e a h =
    let p = taken (nat_lt at (round_len (harts_of sc))) (round_event (harts_of sc) w at) e h in
    let t = p.0 in
    let less : at < round_len (harts_of sc) = grind (arith, nat_tests) in
    subst (Is (length sc.harts) sc.block_size sc.ram) p.1 (round_is (length sc.harts) sc.block_size sc.ram w at (parts_of sc a) less)

-- ---- all events of a schedule

draws_there : (harts size ram k : ℕ) (g : Lcg) (w : WorldState) → HasParts harts size ram → AllByRecursion (Is harts size ram) (draws k (record { harts = harts; blocks = ram / size }) g w)
unfolding draws
draws_there harts size ram zero g w p = tt
draws_there harts size ram (suc k) g w p =
    let s : Size = record { harts = harts; blocks = ram / size } in
    (event_is harts size ram w (first_word g) (second_word g) p, draws_there harts size ram k (after_words g) (next w (drawn w s g)) p)

round_from_there : (harts size ram i n : ℕ) (w : WorldState) → HasParts harts size ram → i + n ≤ round_len harts → AllByRecursion (Is harts size ram) (round_from harts i n w)
unfolding round_from
round_from_there harts size ram i zero w p le = tt
round_from_there harts size ram i (suc n) w p le =
    (round_is harts size ram w i p (omega (arith, le)), round_from_there harts size ram (i + 1) n (next w (round_event harts w i)) p (omega (arith, le)))

round_there : (harts size ram : ℕ) (w : WorldState) → HasParts harts size ram → All (Is harts size ram) (round harts w)
round_there harts size ram w p = All-from_recursion (Is harts size ram) (round harts w) (round_from_there harts size ram 0 (round_len harts) w p (omega arith))

none_there : (harts size ram : ℕ) → All (Is harts size ram) []
none_there harts size ram = All-from_recursion (Is harts size ram) [] tt

if_there : (harts size ram : ℕ) (t : Bool) (es : List Event) → All (Is harts size ram) es → All (Is harts size ram) (if t then [] else es)
if_there harts size ram true es h = none_there harts size ram
if_there harts size ram false es h = h

rounds_there : (harts size ram n : ℕ) (w : WorldState) → HasParts harts size ram → All (Is harts size ram) (rounds harts n w)
unfolding rounds
rounds_there harts size ram zero w p = none_there harts size ram
rounds_there harts size ram (suc n) w p =
    let es = round harts w in
    let more = rounds harts n (run.after w es) in
    All-append (Is harts size ram) es (if no_event_enabled w es then [] else more) (round_there harts size ram w p) (if_there harts size ram (no_event_enabled w es) more (rounds_there harts size ram n (run.after w es) p))

finishing_there : (harts size ram n : ℕ) (f : Bool) (w : WorldState) → HasParts harts size ram → All (Is harts size ram) (finishing f harts n w)
finishing_there harts size ram n true w p = rounds_there harts size ram n w p
finishing_there harts size ram n false w p = none_there harts size ram

planned_there : (sc : Scenario) (p : Plan) (w : WorldState) → IsAccepted sc → FitsPlan (length sc.harts) sc.block_size sc.ram p → All (Is (length sc.harts) sc.block_size sc.ram) (planned (size_of sc) p w)
planned_there sc (plans.List es) w a fits = fits.1
planned_there sc (plans.Seeded seed events) w a fits =
    All-from_recursion (Is (length sc.harts) sc.block_size sc.ram) (draws events (size_of sc) (begun seed) w) (draws_there (length sc.harts) sc.block_size sc.ram events (begun seed) w (parts_of sc a))

pub schedule_is_there : (sc : Scenario) → IsAccepted sc → AreThere sc (sched sc)
unfolding sched
schedule_is_there sc a =
    let harts = length sc.harts in
    let first = plan_events sc in
    let w = run.after (start sc) first in
    All-take (Is harts sc.block_size sc.ram) sc.limit (first ++ finishing sc.finish harts sc.limit w)
    (All-append (Is harts sc.block_size sc.ram) first (finishing sc.finish harts sc.limit w) (planned_there sc sc.plan (start sc) a a.plan) (finishing_there harts sc.block_size sc.ram sc.limit sc.finish w (parts_of sc a)))
