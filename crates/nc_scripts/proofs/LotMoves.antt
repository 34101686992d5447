-- What a turn over lots moves is there, and is little.
use Rattle.std.proofs.Common.{◌≡◌, ℕ, suc, ◌+◌, ◌*◌, ◌%◌, ◌<◌, ◌≤◌, Bool, true, false, List, [], ◌∷◌, length, refl, sym, ap, ◌∙◌, arith, Option, Some, None}
use Rattle.std.specs.Prelude.{All, is_none, unwrap_or, ◌&&◌, if◌then◌else◌}
use Rattle.std.proofs.lemmas.Bool.{false≢true}
use Rattle.std.proofs.lemmas.List.{length-append, length-map}
use Rattle.std.proofs.lemmas.List.Elements.{All-nil, All-cons, All-head, All-tail, All-append, All-map}
use Rattle.nc_num.specs.declared.names.Dir.{Dir}
use Rattle.nc_num.specs.declared.names.HartNo.{HartNo}
use Rattle.nc_num.specs.declared.names.MapId.{MapId}
use Rattle.nc_num.specs.declared.places.Span.{Span}
use Rattle.nc_model.specs.declared.owners.Grant.{Grant}
use Rattle.nc_model.specs.declared.owners.Owner.{Owner}
use Rattle.nc_model.specs.declared.owners.Owner.TheVariants as owners
use Rattle.nc_plan.specs.Parts.{in_slot, slot_len}
use Rattle.nc_plan.specs.declared.parts.Part.{Part}
use Rattle.nc_plan.proofs.PlanLaws.{in_its_slot}
use Rattle.nc_sg.specs.declared.list.Entry.{Entry}
use Rattle.nc_sg.specs.Lists.{waits, part_of}
use Rattle.nc_rules.specs.declared.answers.Answer.{Answer}
use Rattle.nc_rules.specs.declared.lots.Kind.{Kind}
use Rattle.nc_rules.specs.declared.lots.Kind.TheVariants as kinds
use Rattle.nc_rules.specs.declared.lots.Lot.{Lot}
use Rattle.nc_rules.specs.declared.lots.LotId.{LotId}
use Rattle.nc_rules.specs.declared.lots.Side.{Side}
use Rattle.nc_rules.specs.declared.lots.Side.TheVariants as sides
use Rattle.nc_rules.specs.declared.steps.PageMove.{PageMove}
use Rattle.nc_rules.specs.declared.steps.PageMove.TheVariants as pages
use Rattle.nc_rules.specs.declared.steps.Turn.{Turn}
use Rattle.nc_rules.specs.declared.steps.Turn.TheVariants as turns
use Rattle.nc_rules.specs.Lots.{DriverConfig, is_lot, is_wanted, each_from, each_entry, grant_of, map_id, only_entry, no_entry, owner_of_side, slots_held}
use Rattle.nc_rules.specs.Turns.{moved, those, of_those, to_side, to_end, granted, ids, is_area, last_owner, pages_taken, pages_given, page_move, page_moves, lots_after, transfers_of, grants_of, ended_of, backs_of, pages_of, turned, turned_by, turned_by, given_up}
use Rattle.nc_scripts.specs.Scripts.{IsRangeIn}
use Rattle.nc_scripts.specs.Drivers.{IsFixed, IsEntryIn, IsLotIn, IsInPool, FitsKind, AreApart, GrantIsIn, PageMoveIsIn, AreThere, TurnIsThere, wanted_lots}
use Rattle.nc_scripts.proofs.Lists.{all_to, all_both, all_filtered, all_joined, few_joined, none_any, position_any, few_mapped, all_mapped}
use Rattle.nc_scripts.proofs.LotLaws.{IsPlaced, lots_stay, apart_stay, placed_stay}

-- ---- entries

-- a range, and the range by which the channel sees it
pub record IsPartIn (ram : ℕ) (p : Part) : Type 0 where
  pub buffer : IsRangeIn ram p.buffer
  pub device : IsRangeIn ram p.device
  pub lengths : p.buffer.len ≡ p.device.len
  pub offset : p.buffer.at % 8 ≡ p.device.at % 8

abbrev part_by : Dir → ℕ → Entry → Bool → Option ℕ → Part
part_by dir slots_at e b o = record { buffer = e.span; device = if b then in_slot (slots_at + slot_len * unwrap_or o 0) e.span else e.span; dir = dir }

part_if : (ram harts : ℕ) (f : DriverConfig) (dir : Dir) (e : Entry) (b : Bool) (o : Option ℕ) → IsFixed ram harts f → IsEntryIn ram f.slots e → e.bounced ≡ b → e.slot ≡ o → (b && is_none o) ≡ false
    → IsPartIn ram (part_by dir f.slots_at e b o)
part_if ram harts f dir e false o h k eb eo off = record { buffer = k.range; device = k.range; lengths = refl; offset = refl }
part_if ram harts f dir e true None h k eb eo off = absurd (false≢true (sym off))
part_if ram harts f dir e true (Some n) h k eb eo off =
    let few : n < f.slots = (k.slot n eo).few in
    let aligned : (f.slots_at + 2048 * n) % 2048 ≡ 0 = omega (arith, h.slots_whole) in
    let lies = in_its_slot (f.slots_at + slot_len * n) e.span aligned (k.small eb) in
    record {
      buffer = k.range;
      device = record { some = k.range.some; ends = omega (arith, lies.ends, few, h.slots_end) };
      lengths = refl;
      offset = sym lies.offset;
    }

pub entry_part : (ram harts : ℕ) (f : DriverConfig) (dir : Dir) (e : Entry) → IsFixed ram harts f → IsEntryIn ram f.slots e → waits e ≡ false → IsPartIn ram (part_of dir f.slots_at e)
entry_part ram harts f dir e h k off = part_if ram harts f dir e e.bounced e.slot h k refl refl off

abbrev pub HasNoWait : List Entry → Type 0
HasNoWait es = All (λ e. waits e ≡ false) es

pub placed_entries : (lot : Lot) → IsPlaced lot → HasNoWait lot.list.entries
placed_entries lot h = none_any waits lot.list.entries (sym (position_any waits lot.list.entries) ∙ h)

-- ---- what is made of each entry

pub all_each : {A : Type 0} (P : Entry → Type 0) (Q : A → Type 0) (me : HartNo) (id : LotId) (i : ℕ) (g : MapId → Entry → A) (es : List Entry)
    → All P es → ((j : ℕ) (e : Entry) → P e → Q (g (map_id me id j) e)) → All Q (each_from me id i g es)
all_each P Q me id i g [] all h = All-nil Q
all_each P Q me id i g (e ∷ es) all h = All-cons Q (g (map_id me id i) e) (each_from me id (i + 1) g es) (h i e (All-head P e es all)) (all_each P Q me id (i + 1) g es (All-tail P e es all) h)

pub length-each : {A : Type 0} (me : HartNo) (id : LotId) (i : ℕ) (g : MapId → Entry → A) (es : List Entry) → length (each_from me id i g es) ≡ length es
length-each me id i g [] = refl
length-each me id i g (e ∷ es) = ap suc (length-each me id (i + 1) g es)

-- ---- the lots of a name

those_all : {A : Type 0} (P : Lot → Type 0) (Q : A → Type 0) (h : Lot → List A) (id : LotId) (lots : List Lot) → All P lots → ((lot : Lot) → P lot → All Q (h lot)) → All Q (of_those h id lots)
those_all P Q h id lots all f = all_joined P Q h (those id lots) (all_filtered P P (is_lot id) lots all (λ lot p e. p)) f

those_few : {A : Type 0} (P : Lot → Type 0) (h : Lot → List A) (id : LotId) (lots : List Lot) → All P lots → AreApart lots → ((lot : Lot) → P lot → length (h lot) ≤ 16) → length (of_those h id lots) ≤ 16
those_few P h id lots all apart f =
    omega (arith, few_joined P 16 h (those id lots) (all_filtered P P (is_lot id) lots all (λ lot p e. p)) f, apart id)

-- ---- one turn

abbrev InRam : ℕ → Span × Owner → Type 0
InRam ram t = IsRangeIn ram t.0

sided_all : (ram : ℕ) (f : DriverConfig) (side : Side) (lot : Lot) → IsLotIn ram f lot → All (InRam ram) (to_side f.me side lot)
sided_all ram f side lot h = all_each (IsEntryIn ram f.slots) (InRam ram) f.me lot.id 0 (λ id e. (e.span, owner_of_side id side)) lot.list.entries h.entries (λ j e k. k.range)

sided_few : (ram : ℕ) (f : DriverConfig) (side : Side) (lot : Lot) → IsLotIn ram f lot → length (to_side f.me side lot) ≤ 16
sided_few ram f side lot h = omega (arith, length-each {A = Span × Owner} f.me lot.id 0 (λ id e. (e.span, owner_of_side id side)) lot.list.entries, h.few)

ended_all : (ram : ℕ) (f : DriverConfig) (lot : Lot) → IsLotIn ram f lot → All (InRam ram) (to_end f.me lot)
ended_all ram f lot h = All-map (InRam ram) (λ (e : Entry). (e.span, last_owner f.me lot)) lot.list.entries (all_to (IsEntryIn ram f.slots) (λ e. IsRangeIn ram e.span) lot.list.entries h.entries (λ e k. k.range))

ended_few : (ram : ℕ) (f : DriverConfig) (lot : Lot) → IsLotIn ram f lot → length (to_end f.me lot) ≤ 16
ended_few ram f lot h = omega (arith, length-map {B = Span × Owner} lot.list.entries (λ (e : Entry). (e.span, last_owner f.me lot)), h.few)

ids_few : (ram : ℕ) (f : DriverConfig) (lot : Lot) → IsLotIn ram f lot → length (ids f.me lot) ≤ 16
ids_few ram f lot h = omega (arith, length-each f.me lot.id 0 (λ id e. id) lot.list.entries, h.few)

held_few : (ram : ℕ) (f : DriverConfig) (lot : Lot) → IsLotIn ram f lot → length (slots_held lot) ≤ 16
held_few ram f lot h = omega (arith, few_mapped (λ (e : Entry). e.slot) lot.list.entries, h.few)

held_all : (ram : ℕ) (f : DriverConfig) (lot : Lot) → IsLotIn ram f lot → All (λ k. k < f.slots) (slots_held lot)
held_all ram f lot h = all_mapped (IsEntryIn ram f.slots) (λ k. k < f.slots) (λ (e : Entry). e.slot) lot.list.entries h.entries (λ e k is s. (is.slot k s).few)

-- a turn's changes of owners
abbrev Transfers : ℕ → List (Span × Owner) → Type 0
Transfers ram ts = All (InRam ram) ts × (length ts ≤ 16)

sides_there : (ram : ℕ) (f : DriverConfig) (side : Side) (id : LotId) (lots : List Lot) → All (IsLotIn ram f) lots → AreApart lots → Transfers ram (of_those (to_side f.me side) id lots)
sides_there ram f side id lots all apart =
    (those_all (IsLotIn ram f) (InRam ram) (to_side f.me side) id lots all (sided_all ram f side), those_few (IsLotIn ram f) (to_side f.me side) id lots all apart (sided_few ram f side))

one_there : (ram : ℕ) (range : Span) (o : Owner) → IsRangeIn ram range → Transfers ram ((range, o) ∷ [])
one_there ram range o h = (All-cons (InRam ram) (range, o) [] h (All-nil (InRam ram)), omega arith)

none_there : (ram : ℕ) → Transfers ram []
none_there ram = (All-nil (InRam ram), omega arith)

transfers_there : (ram : ℕ) (f : DriverConfig) (lots : List Lot) (t : Turn) → All (IsLotIn ram f) lots → AreApart lots → TurnIsThere ram t → Transfers ram (transfers_of f.me lots t)
transfers_there ram f lots turns.Stay all apart h = none_there ram
transfers_there ram f lots (turns.Pass range to) all apart h = one_there ram range (owners.Passing f.me to) h
transfers_there ram f lots (turns.Own range) all apart h = one_there ram range (owners.Thread f.me) h
transfers_there ram f lots (turns.Lend id) all apart h = sides_there ram f sides.Lending id lots all apart
transfers_there ram f lots (turns.Give id) all apart h = sides_there ram f sides.Device id lots all apart
transfers_there ram f lots (turns.Return id) all apart h = sides_there ram f sides.Returning id lots all apart
transfers_there ram f lots (turns.Sync id) all apart h = sides_there ram f sides.Synced id lots all apart
transfers_there ram f lots (turns.Settle id) all apart h = sides_there ram f sides.Own id lots all apart
transfers_there ram f lots (turns.End id) all apart h =
    (those_all (IsLotIn ram f) (InRam ram) (to_end f.me) id lots all (ended_all ram f), those_few (IsLotIn ram f) (to_end f.me) id lots all apart (ended_few ram f))

-- a turn's new grants
record IsPlacedIn (ram : ℕ) (f : DriverConfig) (lot : Lot) : Type 0 where
  is : IsLotIn ram f lot
  placed : IsPlaced lot

grant_there : (ram harts : ℕ) (f : DriverConfig) (lot : Lot) (j : ℕ) (e : Entry) → IsFixed ram harts f → lot.chan.0 < 4 → IsEntryIn ram f.slots e → waits e ≡ false → GrantIsIn ram f.me (grant_of f.slots_at lot (map_id f.me lot.id j) e)
grant_there ram harts f lot j e h chan k off =
    let p = entry_part ram harts f lot.list.dir e h k off in
    record { buffer = p.buffer; device = p.device; lengths = p.lengths; channel = chan; hart = refl }

record IsSeen (ram slots : ℕ) (e : Entry) : Type 0 where
  is : IsEntryIn ram slots e
  placed : waits e ≡ false

abbrev Grants : ℕ → HartNo → List Grant → Type 0
Grants ram me gs = All (GrantIsIn ram me) gs × (length gs ≤ 16)

no_grants : (ram : ℕ) (me : HartNo) → Grants ram me []
no_grants ram me = (All-nil (GrantIsIn ram me), omega arith)

granted_by : (ram harts : ℕ) (f : DriverConfig) (lot : Lot) (t : Bool) → IsFixed ram harts f → IsPlacedIn ram f lot → Grants ram f.me (if t then each_entry f.me lot (grant_of f.slots_at lot) else [])
granted_by ram harts f lot false h k = no_grants ram f.me
granted_by ram harts f lot true h k =
    let seen = all_both (IsEntryIn ram f.slots) (λ e. waits e ≡ false) (IsSeen ram f.slots) lot.list.entries k.is.entries (placed_entries lot k.placed) (λ e is off. record { is = is; placed = off }) in (
      all_each (IsSeen ram f.slots) (GrantIsIn ram f.me) f.me lot.id 0 (grant_of f.slots_at lot) lot.list.entries seen (λ j e s. grant_there ram harts f lot j e h k.is.channel s.is s.placed),
      omega (arith, length-each f.me lot.id 0 (grant_of f.slots_at lot) lot.list.entries, k.is.few),
    )

both_in : (ram : ℕ) (f : DriverConfig) (lots : List Lot) → All (IsLotIn ram f) lots → All IsPlaced lots → All (IsPlacedIn ram f) lots
both_in ram f lots all placed = all_both (IsLotIn ram f) IsPlaced (IsPlacedIn ram f) lots all placed (λ lot is p. record { is = is; placed = p })

grants_there : (ram harts : ℕ) (f : DriverConfig) (lots : List Lot) (t : Turn) → IsFixed ram harts f → All (IsLotIn ram f) lots → AreApart lots → All IsPlaced lots → Grants ram f.me (grants_of f.me f.slots_at lots t)
grants_there ram harts f lots turns.Stay h all apart placed = no_grants ram f.me
grants_there ram harts f lots (turns.Pass range to) h all apart placed = no_grants ram f.me
grants_there ram harts f lots (turns.Own range) h all apart placed = no_grants ram f.me
grants_there ram harts f lots (turns.Lend id) h all apart placed = (
  those_all (IsPlacedIn ram f) (GrantIsIn ram f.me) (granted f.me f.slots_at) id lots (both_in ram f lots all placed) (λ lot k. (granted_by ram harts f lot (is_wanted lot.side) h k).0),
  those_few (IsPlacedIn ram f) (granted f.me f.slots_at) id lots (both_in ram f lots all placed) apart (λ lot k. (granted_by ram harts f lot (is_wanted lot.side) h k).1),
)
grants_there ram harts f lots (turns.Give id) h all apart placed = no_grants ram f.me
grants_there ram harts f lots (turns.Return id) h all apart placed = no_grants ram f.me
grants_there ram harts f lots (turns.Sync id) h all apart placed = no_grants ram f.me
grants_there ram harts f lots (turns.Settle id) h all apart placed = no_grants ram f.me
grants_there ram harts f lots (turns.End id) h all apart placed = no_grants ram f.me

-- a turn's ends of grants, and its slots
ended_there : (ram : ℕ) (f : DriverConfig) (lots : List Lot) (t : Turn) → All (IsLotIn ram f) lots → AreApart lots → length (ended_of f.me lots t) ≤ 16
ended_there ram f lots turns.Stay all apart = omega arith
ended_there ram f lots (turns.Pass range to) all apart = omega arith
ended_there ram f lots (turns.Own range) all apart = omega arith
ended_there ram f lots (turns.Lend id) all apart = omega arith
ended_there ram f lots (turns.Give id) all apart = omega arith
ended_there ram f lots (turns.Return id) all apart = omega arith
ended_there ram f lots (turns.Sync id) all apart = omega arith
ended_there ram f lots (turns.Settle id) all apart = omega arith
ended_there ram f lots (turns.End id) all apart = those_few (IsLotIn ram f) (ids f.me) id lots all apart (ids_few ram f)

abbrev Backs : ℕ → List ℕ → Type 0
Backs slots ks = All (λ k. k < slots) ks × (length ks ≤ 16)

no_backs : (slots : ℕ) → Backs slots []
no_backs slots = (All-nil (λ k. k < slots), omega arith)

backs_there : (ram : ℕ) (f : DriverConfig) (lots : List Lot) (t : Turn) → All (IsLotIn ram f) lots → AreApart lots → Backs f.slots (backs_of lots t)
backs_there ram f lots turns.Stay all apart = no_backs f.slots
backs_there ram f lots (turns.Pass range to) all apart = no_backs f.slots
backs_there ram f lots (turns.Own range) all apart = no_backs f.slots
backs_there ram f lots (turns.Lend id) all apart = no_backs f.slots
backs_there ram f lots (turns.Give id) all apart = no_backs f.slots
backs_there ram f lots (turns.Return id) all apart = no_backs f.slots
backs_there ram f lots (turns.Sync id) all apart = no_backs f.slots
backs_there ram f lots (turns.Settle id) all apart = no_backs f.slots
backs_there ram f lots (turns.End id) all apart =
    (those_all (IsLotIn ram f) (λ k. k < f.slots) slots_held id lots all (held_all ram f), those_few (IsLotIn ram f) slots_held id lots all apart (held_few ram f))

-- a turn's pages
only_is : (P : Entry → Type 0) (lot : Lot) → All P lot.list.entries → length lot.list.entries ≡ 1 → P (only_entry lot)
only_is P lot all one = all 0 no_entry (omega arith)

pub only_in : (ram : ℕ) (f : DriverConfig) (lot : Lot) → IsLotIn ram f lot → length lot.list.entries ≡ 1 → IsEntryIn ram f.slots (only_entry lot)
only_in ram f lot h one = only_is (IsEntryIn ram f.slots) lot h.entries one

area_by : (ram : ℕ) (f : DriverConfig) (lot : Lot) (k : Kind) → IsLotIn ram f lot → FitsKind f.pool k lot.id lot.list.entries → is_area k ≡ true → IsInPool f.pool (only_entry lot).span × (0 < (only_entry lot).span.len)
area_by ram f lot kinds.Single h fits e = absurd (false≢true e)
area_by ram f lot kinds.List h fits e = absurd (false≢true e)
area_by ram f lot kinds.Area h fits e = (fits.2 0 no_entry (omega (arith, fits.1)), (only_in ram f lot h fits.1).range.some)
area_by ram f lot kinds.Copy h fits e = absurd (false≢true e)

taken_by : (ram : ℕ) (f : DriverConfig) (lot : Lot) (a w : Bool) → is_area lot.kind ≡ a → IsLotIn ram f lot → PageMoveIsIn f.pool (if a && w then pages.Take (only_entry lot).span else pages.Stay)
taken_by ram f lot false w e h = tt
taken_by ram f lot true false e h = tt
taken_by ram f lot true true e h = area_by ram f lot lot.kind h h.kind e

given_by : (ram : ℕ) (f : DriverConfig) (lot : Lot) (a : Bool) → is_area lot.kind ≡ a → IsLotIn ram f lot → PageMoveIsIn f.pool (if a then pages.Give (only_entry lot).span else pages.Stay)
given_by ram f lot false e h = tt
given_by ram f lot true e h = area_by ram f lot lot.kind h h.kind e

move_there : (pool : Span) (p q : PageMove) → PageMoveIsIn pool p → PageMoveIsIn pool q → PageMoveIsIn pool (page_move p q)
move_there pool pages.Stay q h k = k
move_there pool (pages.Take span) q h k = h
move_there pool (pages.Give span) q h k = h

moves_there : (ram : ℕ) (f : DriverConfig) (g : Lot → PageMove) (lots : List Lot) → All (IsLotIn ram f) lots → ((lot : Lot) → IsLotIn ram f lot → PageMoveIsIn f.pool (g lot)) → PageMoveIsIn f.pool (page_moves g lots)
moves_there ram f g [] all h = tt
moves_there ram f g (lot ∷ lots) all h = move_there f.pool (g lot) (page_moves g lots) (h lot (All-head (IsLotIn ram f) lot lots all)) (moves_there ram f g lots (All-tail (IsLotIn ram f) lot lots all) h)

those_in : (ram : ℕ) (f : DriverConfig) (id : LotId) (lots : List Lot) → All (IsLotIn ram f) lots → All (IsLotIn ram f) (those id lots)
those_in ram f id lots all = all_filtered (IsLotIn ram f) (IsLotIn ram f) (is_lot id) lots all (λ lot p e. p)

pages_there : (ram : ℕ) (f : DriverConfig) (lots : List Lot) (t : Turn) → All (IsLotIn ram f) lots → PageMoveIsIn f.pool (pages_of lots t)
pages_there ram f lots turns.Stay all = tt
pages_there ram f lots (turns.Pass range to) all = tt
pages_there ram f lots (turns.Own range) all = tt
pages_there ram f lots (turns.Lend id) all = moves_there ram f pages_taken (those id lots) (those_in ram f id lots all) (λ lot h. taken_by ram f lot (is_area lot.kind) (is_wanted lot.side) refl h)
pages_there ram f lots (turns.Give id) all = tt
pages_there ram f lots (turns.Return id) all = tt
pages_there ram f lots (turns.Sync id) all = tt
pages_there ram f lots (turns.Settle id) all = tt
pages_there ram f lots (turns.End id) all = moves_there ram f pages_given (those id lots) (those_in ram f id lots all) (λ lot h. given_by ram f lot (is_area lot.kind) refl h)

-- ---- two turns

-- the changes of two turns, one after the other
pub turned_there : (ram harts : ℕ) (f : DriverConfig) (lots : List Lot) (t u : Turn) (a : Option Answer) → IsFixed ram harts f → All (IsLotIn ram f) lots → AreApart lots → All IsPlaced lots
    → TurnIsThere ram t → TurnIsThere ram u → AreThere ram f (turned f lots t u a)
unfolding turned_by
turned_there ram harts f lots t u a h all apart placed th uh =
    let now = lots_after t lots in
    let all2 = lots_stay ram f t lots all in
    let apart2 = apart_stay t lots apart in
    let placed2 = placed_stay t lots placed in
    let ts = transfers_there ram f lots t all apart th in
    let us = transfers_there ram f now u all2 apart2 uh in
    let gs = grants_there ram harts f lots t h all apart placed in
    let hs = grants_there ram harts f now u h all2 apart2 placed2 in
    let bs = backs_there ram f lots t all apart in
    let cs = backs_there ram f now u all2 apart2 in
    record {
      transfers = All-append (InRam ram) (transfers_of f.me lots t) (transfers_of f.me now u) ts.0 us.0;
      transfers_few = omega (arith, length-append (transfers_of f.me lots t) (transfers_of f.me now u), ts.1, us.1);
      grants = All-append (GrantIsIn ram f.me) (grants_of f.me f.slots_at lots t) (grants_of f.me f.slots_at now u) gs.0 hs.0;
      grants_few = omega (arith, length-append (grants_of f.me f.slots_at lots t) (grants_of f.me f.slots_at now u), gs.1, hs.1);
      ended_few = omega (arith, length-append (ended_of f.me lots t) (ended_of f.me now u), ended_there ram f lots t all apart, ended_there ram f now u all2 apart2);
      backs = All-append (λ k. k < f.slots) (backs_of lots t) (backs_of now u) bs.0 cs.0;
      backs_few = omega (arith, length-append (backs_of lots t) (backs_of now u), bs.1, cs.1);
      pages = move_there f.pool (pages_of lots t) (pages_of now u) (pages_there ram f lots t all) (pages_there ram f now u all2);
    }

-- a lot that becomes the device's
pub lent_there : (ram : ℕ) (f : DriverConfig) (lots : List Lot) (id : LotId) → All (IsLotIn ram f) lots → AreApart lots → AreThere ram f (turned f lots (turns.Give id) turns.Stay None)
unfolding turned_by
lent_there ram f lots id all apart =
    let ts = sides_there ram f sides.Device id lots all apart in
    record {
      transfers = All-append (InRam ram) (of_those (to_side f.me sides.Device) id lots) [] ts.0 (All-nil (InRam ram));
      transfers_few = omega (arith, length-append (of_those (to_side f.me sides.Device) id lots) [], ts.1);
      grants = All-nil (GrantIsIn ram f.me);
      grants_few = omega arith;
      ended_few = omega arith;
      backs = All-nil (λ k. k < f.slots);
      backs_few = omega arith;
      pages = tt;
    }

-- nothing
pub nothing_there : (ram : ℕ) (f : DriverConfig) (a : Option Answer) → AreThere ram f (moved [] a)
nothing_there ram f a = record {
  transfers = All-nil (InRam ram);
  transfers_few = omega arith;
  grants = All-nil (GrantIsIn ram f.me);
  grants_few = omega arith;
  ended_few = omega arith;
  backs = All-nil (λ k. k < f.slots);
  backs_few = omega arith;
  pages = tt;
}

-- the slots of the lots that are not lent
pub given_up_there : (ram : ℕ) (f : DriverConfig) (lots : List Lot) (a : Answer) → All (IsLotIn ram f) lots → length (wanted_lots lots) ≤ 2 → AreThere ram f (given_up lots a)
given_up_there ram f lots a all few =
    let wanted = all_filtered (IsLotIn ram f) (IsLotIn ram f) (λ lot. is_wanted lot.side) lots all (λ lot p e. p) in
    record {
      transfers = All-nil (InRam ram);
      transfers_few = omega arith;
      grants = All-nil (GrantIsIn ram f.me);
      grants_few = omega arith;
      ended_few = omega arith;
      backs = all_joined (IsLotIn ram f) (λ k. k < f.slots) slots_held (wanted_lots lots) wanted (held_all ram f);
      backs_few = omega (arith, few_joined (IsLotIn ram f) 16 slots_held (wanted_lots lots) wanted (held_few ram f), few);
      pages = tt;
    }
