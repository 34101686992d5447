-- Where there are slots, no start and no step of an operation is refused for want of one; and no good answer says so.
use Rattle.std.proofs.Common.{◌≡◌, ℕ, ◌+◌, ◌*◌, ◌<◌, Bool, true, false, List, [], ◌∷◌, length, refl, ap, arith, inl, inr, Option, Some, None}
use Rattle.std.specs.Prelude.{◌==◌, ◌&&◌, not, nat_le, if◌then◌else◌, Result, Ok, Err, slice_get, is_some}
use Rattle.std.proofs.lemmas.Bool.{false≢true}
use Rattle.std.proofs.lemmas.Bool.Decides.{nat_tests}
use Rattle.nc_num.specs.declared.names.ChanNo.{ChanNo}
use Rattle.nc_num.specs.declared.names.Dir.{Dir}
use Rattle.nc_num.specs.declared.names.Dir.TheVariants.{ToDev, FromDev}
use Rattle.nc_num.specs.declared.names.HartNo.{HartNo}
use Rattle.nc_num.specs.declared.names.Label.{Label}
use Rattle.nc_num.specs.declared.places.Span.{Span}
use Rattle.nc_env.specs.declared.CboOp.{CboOp}
use Rattle.nc_env.specs.declared.Illegal.{Illegal}
use Rattle.nc_pte.specs.declared.translation.PageFault.{PageFault}
use Rattle.nc_plan.specs.Effects as effects
use Rattle.nc_plan.specs.declared.effects.CboOff.{CboOff}
use Rattle.nc_plan.specs.declared.ops.HartOp.{HartOp}
use Rattle.nc_plan.specs.declared.access.At.TheVariants as at
use Rattle.nc_num.specs.declared.names.MemType.TheVariants.{Pma, Nc}
use Rattle.nc_sg.specs.Lists.{segments}
use Rattle.nc_pdma_regs.specs.Table.{register_at}
use Rattle.nc_model.specs.declared.owners.Owner.{Owner}
use Rattle.nc_model.specs.declared.owners.Owner.TheVariants.{Lending}
use Rattle.nc_model.specs.Rights.{is_thread}
use Rattle.nc_model.specs.Touches.{first_fault}
use Rattle.nc_own.specs.Books.{owner_in, transferred}
use Rattle.nc_coherent.specs.Pages.{PageMap, lowest_span}
use Rattle.nc_ops.specs.declared.ops.Op.{Op}
use Rattle.nc_ops.specs.declared.ops.Op.TheVariants as ops
use Rattle.nc_ops.specs.declared.ops.SgEntry.{SgEntry}
use Rattle.nc_ops.specs.declared.ops.Spot.{Spot}
use Rattle.nc_ops.specs.declared.ops.Spot.TheVariants as spots
use Rattle.nc_ops.specs.declared.ops.BusArg.{BusArg}
use Rattle.nc_ops.specs.declared.ops.BusArg.TheVariants as bus
use Rattle.nc_rules.specs.declared.answers.Answer.{Answer}
use Rattle.nc_rules.specs.declared.answers.Answer.TheVariants as answers
use Rattle.nc_rules.specs.declared.answers.Refusal.{Refusal}
use Rattle.nc_rules.specs.declared.answers.Refusal.TheVariants as refusals
use Rattle.nc_rules.specs.declared.lots.Kind.{Kind}
use Rattle.nc_rules.specs.declared.lots.Kind.TheVariants as kinds
use Rattle.nc_rules.specs.declared.lots.Lot.{Lot}
use Rattle.nc_rules.specs.declared.lots.LotId.{LotId}
use Rattle.nc_rules.specs.declared.steps.Seen.{Seen}
use Rattle.nc_rules.specs.Lots.{DriverConfig, lot_named, map_id, some_lot_waits, lot_id, ranges_lot, only_entry, bus_of_lot}
use Rattle.nc_rules.specs.Refusals.{◌>>=◌, wanted, some_or, some_bytes, buffer_of, part_of, all_some, ranges_of, unused, named, owned_but, owned, owned_from, legal, planned, lendable, small_enough, slots_there, placeable}
use Rattle.nc_rules.specs.Accesses as access
use Rattle.nc_rules.specs.Accesses.{spot_at, piece_step}
use Rattle.nc_rules.specs.CacheOps as cache_ops
use Rattle.nc_rules.specs.CacheOps.{effect_of}
use Rattle.nc_rules.specs.Mappings as mappings
use Rattle.nc_rules.specs.Mappings.{map_begin, needs_lot}
use Rattle.nc_rules.specs.ScatterLists as lists
use Rattle.nc_rules.specs.ScatterLists.{map_sg_begin, unmap_sg_begin}
use Rattle.nc_rules.specs.Areas as areas
use Rattle.nc_rules.specs.Areas.{calloc_begin, cfree_begin}
use Rattle.nc_rules.specs.Handing as handing
use Rattle.nc_rules.specs.Channels as channels
use Rattle.nc_rules.specs.Channels.{bus_of, known}
use Rattle.nc_rules.specs.Copies as copies
use Rattle.nc_rules.specs.Copies.{copy_begin}
use Rattle.nc_rules.specs.Operations.{meaning, step_at, begin, good_answer, bad_answer}
use Rattle.nc_scripts.proofs.Answers.{is_plain, good_fails, bad_refuses}
use Rattle.nc_slot_laws.specs.Looks.{is_unslotted, is_noslot}

-- ---- refusals

abbrev pub unslotted_in : {A : Type 0} → Result A Refusal → Bool
unslotted_in (Ok x) = false
unslotted_in (Err r) = is_unslotted r

-- it is not refused for want of a slot
abbrev pub Clear : {A : Type 0} → Result A Refusal → Type 0
Clear r = unslotted_in r ≡ false

then_clear : {A B : Type 0} (r : Result A Refusal) (f : A → Result B Refusal) → Clear r → ((x : A) → Clear (f x)) → Clear (r >>= f)
then_clear (Ok x) f c each = each x
then_clear (Err e) f c each = c

wanted_clear : (r : Refusal) (t : Bool) → is_unslotted r ≡ false → Clear (wanted r t)
wanted_clear r true c = refl
wanted_clear r false c = c

or_clear : {A : Type 0} (r : Refusal) (o : Option A) → is_unslotted r ≡ false → Clear (some_or r o)
or_clear r None c = c
or_clear r (Some x) c = refl

some_clear : (len : ℕ) → Clear (some_bytes len)
some_clear len = wanted_clear refusals.Empty (not (len == 0)) refl

part_by : (t : Bool) (span : Span) → Clear (if t then Ok span else Err refusals.BadRange)
part_by true span = refl
part_by false span = refl

part_clear : (range : Span) (off len : ℕ) → Clear (part_of range off len)
part_clear range off len = part_by (nat_le (off + len) range.len) (record { at = range.at + off; len = len })

all_clear : (es : List SgEntry) → Clear (all_some es)
all_clear [] = refl
all_clear (e ∷ es) = then_clear (some_bytes e.len) (λ _. all_some es) (some_clear e.len) (λ _. all_clear es)

ranges_clear : (f : DriverConfig) (es : List SgEntry) → Clear (ranges_of f es)
ranges_clear f [] = refl
ranges_clear f (e ∷ es) =
    then_clear (part_of (buffer_of f e.buf) e.off e.len) (λ range. ranges_of f es >>= λ ranges. Ok (range ∷ ranges)) (part_clear (buffer_of f e.buf) e.off e.len)
    (λ range. then_clear (ranges_of f es) (λ ranges. Ok (range ∷ ranges)) (ranges_clear f es) (λ ranges. refl))

named_clear : (lots : List Lot) (label : Label) (kind : Kind) → Clear (named lots label kind)
named_clear lots label kind = or_clear refusals.NoLabel (lot_named lots label kind) refl

but_clear : (owners : List Owner) (o : Option ℕ) → Clear (owned_but owners o)
but_clear owners None = refl
but_clear owners (Some x) = refl

owned_clear : (me : HartNo) (owners : List Owner) (range : Span) → Clear (owned me owners range)
owned_clear me owners range = but_clear owners (first_fault (λ x. is_thread me (owner_in owners x)) range)

from_clear : (me : HartNo) (id : LotId) (i : ℕ) (owners : List Owner) (ranges : List Span) → Clear (owned_from me id i owners ranges)
from_clear me id i owners [] = refl
from_clear me id i owners (range ∷ ranges) =
    then_clear (owned me owners range) (λ _. owned_from me id (i + 1) (transferred owners range (Lending (map_id me id i))) ranges) (owned_clear me owners range)
    (λ _. from_clear me id (i + 1) (transferred owners range (Lending (map_id me id i))) ranges)

legal_clear : (r : Result CboOp Illegal) → Clear (legal r)
legal_clear (Ok op) = refl
legal_clear (Err illegal) = refl

planned_clear : (r : Result (Unit {0}) CboOff) → Clear (planned r)
planned_clear (Ok x) = refl
planned_clear (Err off) = refl

-- where there are slots none is wanting at the start
slots_by : (n : ℕ) (t : Bool) → 0 < n → Clear (wanted refusals.NoSlot (not (t && n == 0)))
slots_by n true some = let off : (n == 0) ≡ false = grind (arith, nat_tests) in rw off refl
slots_by n false some = refl

place_clear : (f : DriverConfig) (lots : List Lot) → 0 < f.slots → Clear (placeable f lots)
place_clear f lots some =
    then_clear (small_enough lots) (λ _. slots_there f lots >>= λ _. Ok lots) (wanted_clear refusals.TooBig _ refl)
    (λ _. then_clear (slots_there f lots) (λ _. Ok lots) (slots_by f.slots (some_lot_waits lots) some) (λ _. refl))

-- ---- starts

abbrev none : List Lot
none = []

map_clear : (f : DriverConfig) (lots : List Lot) (label : Label) (entry : SgEntry) (dir : Dir) (chan : ChanNo) (owners : List Owner) → 0 < f.slots → Clear (map_begin f lots label entry dir chan owners)
map_clear f lots label entry dir chan owners some =
    then_clear (all_some (entry ∷ [])) _ (all_clear (entry ∷ []))
    (λ _. then_clear (ranges_of f (entry ∷ [])) _ (ranges_clear f (entry ∷ []))
    (λ ranges. then_clear (unused lots label) _ (wanted_clear refusals.LabelUsed _ refl)
    (λ _. then_clear (owned_from f.me (lot_id label 0) 0 owners ranges) _ (from_clear f.me (lot_id label 0) 0 owners ranges)
    (λ _. then_clear (lendable f.effects dir) _ (planned_clear (effects.needs f.effects dir)) (λ _. place_clear f (ranges_lot f (lot_id label 0) kinds.Single dir chan ranges ∷ []) some)))))

map_sg_clear : (f : DriverConfig) (lots : List Lot) (label : Label) (es : List SgEntry) (dir : Dir) (chan : ChanNo) (owners : List Owner) → 0 < f.slots → Clear (map_sg_begin f lots label es dir chan owners)
map_sg_clear f lots label es dir chan owners some =
    then_clear (lists.some_entries es) _ (wanted_clear refusals.Empty _ refl)
    (λ _. then_clear (all_some es) _ (all_clear es)
    (λ _. then_clear (ranges_of f es) _ (ranges_clear f es)
    (λ ranges. then_clear (unused lots label) _ (wanted_clear refusals.LabelUsed _ refl)
    (λ _. then_clear (owned_from f.me (lot_id label 0) 0 owners ranges) _ (from_clear f.me (lot_id label 0) 0 owners ranges)
    (λ _. then_clear (lendable f.effects dir) _ (planned_clear (effects.needs f.effects dir)) (λ _. place_clear f (ranges_lot f (lot_id label 0) kinds.List dir chan ranges ∷ []) some))))))

copy_clear : (f : DriverConfig) (src dst : SgEntry) (chan : ChanNo) (owners : List Owner) → 0 < f.slots → Clear (copy_begin f src dst chan owners)
copy_clear f src dst chan owners some =
    then_clear (all_some (src ∷ dst ∷ [])) _ (all_clear (src ∷ dst ∷ []))
    (λ _. then_clear (ranges_of f (src ∷ dst ∷ [])) _ (ranges_clear f (src ∷ dst ∷ []))
    (λ ranges. then_clear (owned_from f.me copies.source 0 owners ranges) _ (from_clear f.me copies.source 0 owners ranges)
    (λ _. then_clear (lendable f.effects ToDev) _ (planned_clear (effects.needs f.effects ToDev))
    (λ _. then_clear (lendable f.effects FromDev) _ (planned_clear (effects.needs f.effects FromDev)) (λ _. place_clear f (copies.ends_of f chan ranges) some)))))

calloc_clear : (f : DriverConfig) (lots : List Lot) (label : Label) (count : ℕ) (chan : ChanNo) (pages : PageMap) → Clear (calloc_begin f lots label count chan pages)
calloc_clear f lots label count chan pages =
    then_clear (wanted refusals.Empty (not (count == 0))) _ (wanted_clear refusals.Empty _ refl)
    (λ _. then_clear (unused lots label) _ (wanted_clear refusals.LabelUsed _ refl)
    (λ _. then_clear (wanted refusals.NoPbmt f.pbmte) _ (wanted_clear refusals.NoPbmt f.pbmte refl)
    (λ _. then_clear (planned _) _ (planned_clear _)
    (λ _. then_clear (some_or refusals.NoPage (lowest_span pages count)) _ (or_clear refusals.NoPage (lowest_span pages count) refl) (λ span. refl)))))

needs_clear : (lots : List Lot) (label : Label) (kind : Kind) → Clear (needs_lot (named lots label kind))
needs_clear lots label kind = then_clear (named lots label kind) (λ lot. Ok none) (named_clear lots label kind) (λ lot. refl)

unmap_sg_clear : (lots : List Lot) (label : Label) (count : ℕ) → Clear (unmap_sg_begin lots label count)
unmap_sg_clear lots label count =
    then_clear (named lots label kinds.List) _ (named_clear lots label kinds.List)
    (λ lot. then_clear (wanted (refusals.BadCount (length lot.list.entries)) (length lot.list.entries == count)) (λ _. Ok none) (wanted_clear (refusals.BadCount (length lot.list.entries)) (length lot.list.entries == count) refl) (λ _. refl))

cfree_clear : (f : DriverConfig) (lots : List Lot) (label : Label) (owners : List Owner) → Clear (cfree_begin f lots label owners)
cfree_clear f lots label owners =
    then_clear (named lots label kinds.Area) _ (named_clear lots label kinds.Area)
    (λ lot. then_clear (owned f.me owners (only_entry lot).span) (λ _. Ok none) (owned_clear f.me owners (only_entry lot).span) (λ _. refl))

pub begin_clear : (f : DriverConfig) (lots : List Lot) (owners : List Owner) (pages : PageMap) (o : Op) → 0 < f.slots → Clear (begin f lots owners pages o)
unfolding begin meaning access.load access.store cache_ops.cache_operation cache_ops.fence mappings.map_single mappings.unmap_single mappings.sync_for_cpu mappings.sync_for_device lists.map_sg lists.unmap_sg areas.calloc areas.give_area areas.take_area areas.free_area handing.hand handing.take channels.claim channels.free channels.set_up channels.run channels.poll channels.read_register channels.write_register copies.copy
begin_clear f lots owners pages (ops.Map label buf off len dir chan) some = map_clear f lots label (record { buf = buf; off = off; len = len }) dir chan owners some
begin_clear f lots owners pages (ops.Unmap label) some = needs_clear lots label kinds.Single
begin_clear f lots owners pages (ops.ToCpu label) some = needs_clear lots label kinds.Single
begin_clear f lots owners pages (ops.ToDev label) some = needs_clear lots label kinds.Single
begin_clear f lots owners pages (ops.MapSg label entries dir chan) some = map_sg_clear f lots label entries dir chan owners some
begin_clear f lots owners pages (ops.UnmapSg label count) some = unmap_sg_clear lots label count
begin_clear f lots owners pages (ops.Calloc label count chan) some = calloc_clear f lots label count chan pages
begin_clear f lots owners pages (ops.Cgive label) some = needs_clear lots label kinds.Area
begin_clear f lots owners pages (ops.Ctake label) some = needs_clear lots label kinds.Area
begin_clear f lots owners pages (ops.Cfree label) some = cfree_clear f lots label owners
begin_clear f lots owners pages (ops.Hand buf to) some = then_clear (owned f.me owners (buffer_of f buf)) _ (owned_clear f.me owners (buffer_of f buf)) (λ _. refl)
begin_clear f lots owners pages (ops.Copy chan src src_off dst dst_off len cfg) some = copy_clear f (record { buf = src; off = src_off; len = len }) (record { buf = dst; off = dst_off; len = len }) chan owners some
begin_clear f lots owners pages _ some = refl

-- ---- steps

piece_clear : (r : Result (Option HartOp) PageFault) → Clear (piece_step r)
piece_clear (Ok None) = refl
piece_clear (Ok (Some op)) = refl
piece_clear (Err fault) = refl

spot_clear : (f : DriverConfig) (lots : List Lot) (spot : Spot) (off len : ℕ) → Clear (spot_at f lots spot off len)
spot_clear f lots (spots.Buffer buf) off len =
    then_clear (some_bytes len) _ (some_clear len) (λ _. then_clear (part_of (buffer_of f buf) off len) (λ range. Ok (at.Ram range.at Pma)) (part_clear (buffer_of f buf) off len) (λ range. refl))
spot_clear f lots spots.Virtual off len =
    then_clear (some_bytes len) _ (some_clear len) (λ _. then_clear (wanted refusals.BadRange (nat_le (off + len) (4096 * length f.table))) (λ _. Ok (at.Virtual off)) (wanted_clear refusals.BadRange (nat_le (off + len) (4096 * length f.table)) refl) (λ _. refl))
spot_clear f lots (spots.Area label) off len =
    then_clear (some_bytes len) _ (some_clear len)
    (λ _. then_clear (named lots label kinds.Area) _ (named_clear lots label kinds.Area) (λ lot. then_clear (part_of (only_entry lot).span off len) (λ range. Ok (at.Ram range.at Nc)) (part_clear (only_entry lot).span off len) (λ range. refl)))

bus_clear : (f : DriverConfig) (lots : List Lot) (arg : BusArg) → Clear (bus_of f lots arg)
bus_clear f lots (bus.At n) = refl
bus_clear f lots (bus.Map label) = then_clear (named lots label kinds.Single) (λ lot. Ok (bus_of_lot f lot)) (named_clear lots label kinds.Single) (λ lot. refl)
bus_clear f lots (bus.Segment label n) =
    then_clear (named lots label kinds.List) _ (named_clear lots label kinds.List)
    (λ lot. then_clear (some_or refusals.NoLabel (slice_get (segments f.slots_at lot.list.entries) n)) (λ segment. Ok segment.bus) (or_clear refusals.NoLabel (slice_get (segments f.slots_at lot.list.entries) n) refl) (λ segment. refl))
bus_clear f lots (bus.Area label) = then_clear (named lots label kinds.Area) (λ lot. Ok (bus_of_lot f lot)) (named_clear lots label kinds.Area) (λ lot. refl)

known_clear : (off width : ℕ) → Clear (known off width)
known_clear off width = wanted_clear (refusals.BadMmio off width) (is_some (register_at off width)) refl

pub step_clear : (f : DriverConfig) (lots : List Lot) (o : Op) (n : ℕ) → Clear (step_at f lots o n)
unfolding step_at meaning access.load access.store cache_ops.cache_operation cache_ops.fence mappings.map_single mappings.unmap_single mappings.sync_for_cpu mappings.sync_for_device lists.map_sg lists.unmap_sg areas.calloc areas.give_area areas.take_area areas.free_area handing.hand handing.take channels.claim channels.free channels.set_up channels.run channels.poll channels.read_register channels.write_register copies.copy
step_clear f lots (ops.Ld spot off len) n = then_clear (spot_at f lots spot off len) _ (spot_clear f lots spot off len) (λ to. piece_clear _)
step_clear f lots (ops.St spot off bytes) n = then_clear (spot_at f lots spot off (length bytes)) _ (spot_clear f lots spot off (length bytes)) (λ to. piece_clear _)
step_clear f lots (ops.Cbo op buf off) n =
    then_clear (part_of (buffer_of f buf) off 1) _ (part_clear (buffer_of f buf) off 1) (λ byte. then_clear (legal (effect_of f.effects op)) _ (legal_clear (effect_of f.effects op)) (λ effect. refl))
step_clear f lots (ops.Regs chan src dst len cfg) n = then_clear (bus_of f lots src) _ (bus_clear f lots src) (λ source. then_clear (bus_of f lots dst) _ (bus_clear f lots dst) (λ target. refl))
step_clear f lots (ops.Regr chan off width) n = then_clear (known off width) _ (known_clear off width) (λ _. refl)
step_clear f lots (ops.Regw chan off width value) n = then_clear (known off width) _ (known_clear off width) (λ _. refl)
step_clear f lots _ n = refl

-- ---- answers

abbrev pub noslot_in : Option Answer → Bool
noslot_in None = false
noslot_in (Some a) = is_noslot a

plain_not : (a : Answer) → is_plain a ≡ true → is_noslot a ≡ false
plain_not (answers.Refused r) plain = absurd (false≢true plain)
plain_not (answers.NoSegments r) plain = absurd (false≢true plain)
plain_not _ plain = refl

pub good_not : (f : DriverConfig) (lots : List Lot) (o : Op) (saw : Seen) → noslot_in (good_answer f lots o saw) ≡ false
good_not f lots o saw = good_fails is_noslot plain_not refl (λ control. refl) f lots o saw

-- a refusal is told as it is
pub bad_is : (f : DriverConfig) (lots : List Lot) (o : Op) (r : Refusal) → is_noslot (bad_answer f lots o r) ≡ is_unslotted r
bad_is f lots o r = elim (bad_refuses f lots o r) [
  | inl e ↦ ap is_noslot e
  | inr e ↦ ap is_noslot e
]
