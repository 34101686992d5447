-- The next event of a thread: it comes next, names what is there, and its thread has room for it.
use Rattle.std.proofs.Common.{◌≡◌, ℕ, ◌+◌, ◌*◌, ◌/◌, ◌%◌, ◌≤◌, ◌<◌, ◌==◌, Bool, true, false, List, length, Some, None, refl, sym, ap, subst, arith}
use Rattle.std.specs.Prelude.{if◌then◌else◌, Option, is_some}
use Rattle.std.proofs.Math.Nat.{mod-lt}
use Rattle.std.proofs.lemmas.Bool.{eqb-true}
use Rattle.nc_num.specs.declared.names.HartNo.{HartNo}
use Rattle.nc_num.specs.declared.names.ChanNo.{ChanNo}
use Rattle.nc_num.specs.declared.places.Block.{Block}
use Rattle.nc_scen.specs.declared.events.Event.{Event}
use Rattle.nc_scen.specs.declared.events.Event.TheVariants.{Issue, Drain, ChanRead, ChanWrite}
use Rattle.nc_scen.specs.declared.scenario.Scenario.{Scenario}
use Rattle.nc_scen.specs.Accepted.{IsAccepted}
use Rattle.nc_scen.specs.Events.{IsThere}
use Rattle.nc_rules.specs.Schedule.{begun, chan, size_of, first_word, second_word}
use Rattle.nc_rules.specs.Driver.{searching}
use Rattle.nc_rules.specs.Events.{enabled}
use Rattle.nc_rules.specs.World.{WorldState, driver_of, hart}
use Rattle.nc_sched.specs.Stands.{seed_of}
use Rattle.nc_sched.proofs.There.{block_is, some_blocks, parts_of}
use Rattle.nc_pool.specs.declared.pool.PoolTry.{PoolTry}
use Rattle.nc_turns.specs.declared.threads.Turner.{Turner}
use Rattle.nc_turns.specs.declared.threads.Turner.TheVariants.{Driver, Channels, Caches}
use Rattle.nc_turns.specs.Draws.{after_draws, block, moves_copy}
use Rattle.nc_turns.specs.Threads.{belongs, made_by, most, is_even, next_of, told_by, search_of, ComesNext, IsFree, IsThread}

-- ---- it comes next

driver_comes : (sc : Scenario) (es : List Event) (h : HartNo) (b : Bool) → is_even (made_by (Driver h) es) ≡ b → (b ≡ true → search_of sc es h ≡ None) → ComesNext sc es (if b then Issue h else Drain h 0)
driver_comes sc es h true even free = (even, free refl)
driver_comes sc es h false even free = (even, refl)

channel_comes : (sc : Scenario) (es : List Event) (b : Bool) → (made_by Channels es % 8 % 2 == 0) ≡ b → ComesNext sc es (if b then ChanRead (chan (made_by Channels es % 8 / 2)) else ChanWrite (chan (made_by Channels es % 8 / 2)))
channel_comes sc es true is = sym (ap (λ (b : Bool). if b then ChanRead (chan (made_by Channels es % 8 / 2)) else ChanWrite (chan (made_by Channels es % 8 / 2))) is)
channel_comes sc es false is = sym (ap (λ (b : Bool). if b then ChanRead (chan (made_by Channels es % 8 / 2)) else ChanWrite (chan (made_by Channels es % 8 / 2))) is)

copy_comes : (sc : Scenario) (es : List Event) (b : Bool) (h : HartNo) (k : Block) → moves_copy b h k ≡ next_of sc es Caches → ComesNext sc es (moves_copy b h k)
copy_comes sc es true h k is = is
copy_comes sc es false h k is = is

pub next_comes : (sc : Scenario) (es : List Event) (t : Turner) → IsFree sc es t → ComesNext sc es (next_of sc es t)
next_comes sc es (Driver h) free = driver_comes sc es h (is_even (made_by (Driver h) es)) refl free
next_comes sc es Channels free = channel_comes sc es (made_by Channels es % 8 % 2 == 0) refl
next_comes sc es Caches free =
    let g = after_draws (begun (seed_of sc.plan)) (made_by Caches es) in
    let a = first_word g in
    copy_comes sc es (a % 2 == 0) (hart (a / 2 % (size_of sc).harts)) (block (second_word g % (size_of sc).blocks)) refl

pub told_comes : (sc : Scenario) (es : List Event) (h : HartNo) (k : ℕ) (a : PoolTry) → is_even (made_by (Driver h) es) ≡ true → search_of sc es h ≡ Some k → ComesNext sc es (told_by h a)
told_comes sc es h k a even at = (even, (k, at))

-- what a driver at a search is told may happen
pub told_enabled : (w : WorldState) (h : HartNo) (k : ℕ) (a : PoolTry) → searching (driver_of w h.0) ≡ Some k → enabled w (told_by h a) ≡ true
unfolding enabled
told_enabled w h k a at = ap (λ (o : Option ℕ). is_some o) at

-- ---- it names what is there

pub blocks_some : (sc : Scenario) → IsAccepted sc → 0 < sc.ram / sc.block_size
blocks_some sc a = some_blocks (length sc.harts) sc.block_size sc.ram (parts_of sc a)

abbrev Is : Scenario → Event → Type 0
Is sc e = IsThere (length sc.harts) sc.block_size sc.ram e

either_is : (sc : Scenario) (b : Bool) (e f : Event) → Is sc e → Is sc f → Is sc (if b then e else f)
either_is sc true e f p q = p
either_is sc false e f p q = q

copy_is : (sc : Scenario) (b : Bool) (h k : ℕ) → h < length sc.harts → sc.block_size * k + sc.block_size ≤ sc.ram → Is sc (moves_copy b (hart h) (block k))
copy_is sc true h k p q = (p, q)
copy_is sc false h k p q = (p, q)

pub next_there : (sc : Scenario) (es : List Event) (t : Turner) → IsAccepted sc → IsThread sc t → IsThere (length sc.harts) sc.block_size sc.ram (next_of sc es t)
next_there sc es (Driver h) a is = either_is sc (is_even (made_by (Driver h) es)) (Issue h) (Drain h 0) is is
next_there sc es Channels a is =
    let n = made_by Channels es % 8 in
    let few : n / 2 < 4 = omega arith in
    either_is sc (n % 2 == 0) (ChanRead (chan (n / 2))) (ChanWrite (chan (n / 2))) few few
next_there sc es Caches a is =
    let g = after_draws (begun (seed_of sc.plan)) (made_by Caches es) in
    let first = first_word g in
    let k = second_word g % (sc.ram / sc.block_size) in
    copy_is sc (first % 2 == 0) (first / 2 % length sc.harts) k (mod-lt (first / 2) a.harts_some)
    (block_is sc.block_size sc.ram k (mod-lt (second_word g) (blocks_some sc a)))

-- ---- its thread has room

-- each thread that has the event has made fewer than its most
abbrev pub HasRoom : Scenario → List Event → Event → Type 0
HasRoom sc es e = (t : Turner) → belongs t e ≡ true → made_by t es < most sc

same_hart : (g h : HartNo) → (h.0 == g.0) ≡ true → g ≡ h
same_hart g h is = let n : h.0 ≡ g.0 = eqb-true h.0 g.0 is in ap hart (sym n)

mine : (sc : Scenario) (es : List Event) (h g : HartNo) → made_by (Driver h) es < most sc → (h.0 == g.0) ≡ true → made_by (Driver g) es < most sc
mine sc es h g room is = subst (λ k. made_by (Driver k) es < most sc) (sym (same_hart g h is)) room

driver_room : (sc : Scenario) (es : List Event) (h : HartNo) (b : Bool) → made_by (Driver h) es < most sc → HasRoom sc es (if b then Issue h else Drain h 0)
driver_room sc es h true room (Driver g) is = mine sc es h g room is
driver_room sc es h true room Channels is = absurd (cc)
driver_room sc es h true room Caches is = absurd (cc)
driver_room sc es h false room (Driver g) is = mine sc es h g room is
driver_room sc es h false room Channels is = absurd (cc)
driver_room sc es h false room Caches is = absurd (cc)

channel_room : (sc : Scenario) (es : List Event) (b : Bool) (c d : ChanNo) → made_by Channels es < most sc → HasRoom sc es (if b then ChanRead c else ChanWrite d)
channel_room sc es true c d room (Driver g) is = absurd (cc)
channel_room sc es true c d room Channels is = room
channel_room sc es true c d room Caches is = absurd (cc)
channel_room sc es false c d room (Driver g) is = absurd (cc)
channel_room sc es false c d room Channels is = room
channel_room sc es false c d room Caches is = absurd (cc)

copy_room : (sc : Scenario) (es : List Event) (b : Bool) (h : HartNo) (k : Block) → made_by Caches es < most sc → HasRoom sc es (moves_copy b h k)
copy_room sc es true h k room (Driver g) is = absurd (cc)
copy_room sc es true h k room Channels is = absurd (cc)
copy_room sc es true h k room Caches is = room
copy_room sc es false h k room (Driver g) is = absurd (cc)
copy_room sc es false h k room Channels is = absurd (cc)
copy_room sc es false h k room Caches is = room

pub next_room : (sc : Scenario) (es : List Event) (t : Turner) → made_by t es < most sc → HasRoom sc es (next_of sc es t)
next_room sc es (Driver h) room = driver_room sc es h (is_even (made_by (Driver h) es)) room
next_room sc es Channels room = let n = made_by Channels es % 8 in channel_room sc es (n % 2 == 0) (chan (n / 2)) (chan (n / 2)) room
next_room sc es Caches room =
    let g = after_draws (begun (seed_of sc.plan)) (made_by Caches es) in
    let a = first_word g in
    copy_room sc es (a % 2 == 0) (hart (a / 2 % (size_of sc).harts)) (block (second_word g % (size_of sc).blocks)) room
