-- The lots that a start step makes: they have no slot, and none is an area but that of an allocation.
use Rattle.std.proofs.Common.{◌≡◌, ℕ, false, List, [], ◌∷◌, ◌++◌, map, flat_map, refl, subst, Ok}
use Rattle.std.specs.Prelude.{All, not, ◌==◌, slice_index_or}
use Rattle.std.proofs.lemmas.List.Elements.{All-nil, All-cons}
use Rattle.nc_num.specs.declared.names.ChanNo.{ChanNo}
use Rattle.nc_num.specs.declared.names.Dir.{Dir}
use Rattle.nc_num.specs.declared.names.Dir.TheVariants.{ToDev, FromDev}
use Rattle.nc_num.specs.declared.names.Label.{Label}
use Rattle.nc_num.specs.declared.names.HartNo.{HartNo}
use Rattle.nc_num.specs.declared.places.Span.{Span}
use Rattle.nc_model.specs.declared.owners.Owner.{Owner}
use Rattle.nc_plan.specs.Effects.{both}
use Rattle.nc_plan.specs.Effects as effects
use Rattle.nc_coherent.specs.Pages.{PageMap, lowest_span}
use Rattle.nc_sg.specs.Lists.{fresh, held}
use Rattle.nc_ops.specs.declared.ops.Op.{Op}
use Rattle.nc_ops.specs.declared.ops.Op.TheVariants as ops
use Rattle.nc_ops.specs.declared.ops.SgEntry.{SgEntry}
use Rattle.nc_rules.specs.declared.answers.Refusal.TheVariants as refusals
use Rattle.nc_rules.specs.declared.lots.Kind.{Kind}
use Rattle.nc_rules.specs.declared.lots.Kind.TheVariants as kinds
use Rattle.nc_rules.specs.declared.lots.Lot.{Lot}
use Rattle.nc_rules.specs.declared.lots.LotId.{LotId}
use Rattle.nc_rules.specs.Lots.{DriverConfig, lot_id, reach_of, ranges_lot, area_lot, slots_held}
use Rattle.nc_rules.specs.Refusals.{◌>>=◌, wanted, some_or, buffer_of, all_some, ranges_of, unused, named, owned, owned_from, planned, lendable, placeable}
use Rattle.nc_rules.specs.Turns.{is_area}
use Rattle.nc_rules.specs.Accesses as accesses
use Rattle.nc_rules.specs.CacheOps as cache_ops
use Rattle.nc_rules.specs.Channels as channels
use Rattle.nc_rules.specs.Mappings as mappings
use Rattle.nc_rules.specs.ScatterLists as lists
use Rattle.nc_rules.specs.ScatterLists.{some_entries}
use Rattle.nc_rules.specs.Areas as areas
use Rattle.nc_rules.specs.Areas.{calloc_begin}
use Rattle.nc_rules.specs.Copies as copies
use Rattle.nc_rules.specs.Copies.{source, target, ends_of, no_span, copy_begin}
use Rattle.nc_rules.specs.Handing as handing
use Rattle.nc_rules.specs.Operations.{meaning, begin}
use Rattle.nc_scripts.proofs.DriverSteps.{passed}
use Rattle.nc_scripts.proofs.NewLots.{ranges_begin, behind_ranges, behind_copy, area_is, placeable_is, behind_test, sg_none, free_none}

-- what an operation makes has no slot, and is no area; or it is the area of an allocation
pub data NewIs (o : Op) (new : List Lot) : Type 0 where
  Plain : flat_map slots_held new ≡ [] → All (λ (lot : Lot). is_area lot.kind ≡ false) new → NewIs o new
  OneArea : (label : Label) (count : ℕ) (chan : ChanNo) (span : Span) → o ≡ ops.Calloc label count chan → new ≡ area_lot (lot_id label 0) chan span ∷ [] → NewIs o new

abbrev NoArea : Lot → Type 0
NoArea lot = is_area lot.kind ≡ false

fresh_none : (dir : Dir) (size reach : ℕ) (rs : List Span) → held (map (fresh dir size reach) rs) ≡ []
fresh_none dir size reach [] = refl
fresh_none dir size reach (r ∷ rs) = fresh_none dir size reach rs

ranges_none : (f : DriverConfig) (id : LotId) (kind : Kind) (dir : Dir) (chan : ChanNo) (rs : List Span) → slots_held (ranges_lot f id kind dir chan rs) ≡ []
ranges_none f id kind dir chan rs = fresh_none dir f.size (reach_of f chan) rs

one_plain : (o : Op) (f : DriverConfig) (id : LotId) (kind : Kind) (dir : Dir) (chan : ChanNo) (rs : List Span) → is_area kind ≡ false → NewIs o (ranges_lot f id kind dir chan rs ∷ [])
one_plain o f id kind dir chan rs off =
    Plain (λ i. ranges_none f id kind dir chan rs i ++ []) (All-cons NoArea (ranges_lot f id kind dir chan rs) [] off (All-nil NoArea))

ranges_new : (o : Op) (f : DriverConfig) (lots : List Lot) (label : Label) (kind : Kind) (dir : Dir) (chan : ChanNo) (owners : List Owner) (es : List SgEntry) (new : List Lot) → is_area kind ≡ false
    → ranges_begin f lots label kind dir chan owners es ≡ Ok new → NewIs o new
ranges_new o f lots label kind dir chan owners es new off e =
    let p1 = passed (all_some es) (λ _. ranges_of f es >>= λ ranges. behind_ranges f lots label kind dir chan owners ranges) new e in
    let p2 = passed (ranges_of f es) (λ ranges. behind_ranges f lots label kind dir chan owners ranges) new p1.rest in
    let lot = ranges_lot f (lot_id label 0) kind dir chan p2.value in
    let p3 = passed (unused lots label) (λ _. owned_from f.me (lot_id label 0) 0 owners p2.value >>= λ _. lendable f.effects dir >>= λ _. placeable f (lot ∷ [])) new p2.rest in
    let p4 = passed (owned_from f.me (lot_id label 0) 0 owners p2.value) (λ _. lendable f.effects dir >>= λ _. placeable f (lot ∷ [])) new p3.rest in
    let p5 = passed (lendable f.effects dir) (λ _. placeable f (lot ∷ [])) new p4.rest in
    subst (λ (ls : List Lot). NewIs o ls) (placeable_is f (lot ∷ []) new p5.rest).same (one_plain o f (lot_id label 0) kind dir chan p2.value off)

list_new : (f : DriverConfig) (lots : List Lot) (label : Label) (entries : List SgEntry) (dir : Dir) (chan : ChanNo) (owners : List Owner) (new : List Lot) → lists.map_sg_begin f lots label entries dir chan owners ≡ Ok new → NewIs (ops.MapSg label entries dir chan) new
list_new f lots label entries dir chan owners new e =
    let p = passed (some_entries entries) (λ _. ranges_begin f lots label kinds.List dir chan owners entries) new e in
    ranges_new (ops.MapSg label entries dir chan) f lots label kinds.List dir chan owners entries new refl p.rest

copy_new : (o : Op) (f : DriverConfig) (src dst : SgEntry) (chan : ChanNo) (owners : List Owner) (new : List Lot) → copy_begin f src dst chan owners ≡ Ok new → NewIs o new
copy_new o f src dst chan owners new e =
    let p1 = passed (all_some (src ∷ dst ∷ [])) (λ _. ranges_of f (src ∷ dst ∷ []) >>= λ ranges. behind_copy f chan owners ranges) new e in
    let p2 = passed (ranges_of f (src ∷ dst ∷ [])) (λ ranges. behind_copy f chan owners ranges) new p1.rest in
    let p3 = passed (owned_from f.me source 0 owners p2.value) (λ _. lendable f.effects ToDev >>= λ _. lendable f.effects FromDev >>= λ _. placeable f (ends_of f chan p2.value)) new p2.rest in
    let p4 = passed (lendable f.effects ToDev) (λ _. lendable f.effects FromDev >>= λ _. placeable f (ends_of f chan p2.value)) new p3.rest in
    let p5 = passed (lendable f.effects FromDev) (λ _. placeable f (ends_of f chan p2.value)) new p4.rest in
    let s = ranges_lot f source kinds.Copy ToDev chan (slice_index_or p2.value 0 no_span ∷ []) in
    let t = ranges_lot f target kinds.Copy FromDev chan (slice_index_or p2.value 1 no_span ∷ []) in
    subst (λ (ls : List Lot). NewIs o ls) (placeable_is f (ends_of f chan p2.value) new p5.rest).same
    (Plain refl (All-cons NoArea s (t ∷ []) refl (All-cons NoArea t [] refl (All-nil NoArea))))

calloc_new : (f : DriverConfig) (lots : List Lot) (label : Label) (count : ℕ) (chan : ChanNo) (pool : PageMap) (new : List Lot) → calloc_begin f lots label count chan pool ≡ Ok new → NewIs (ops.Calloc label count chan) new
calloc_new f lots label count chan pool new e =
    let p1 = passed (wanted refusals.Empty (not (count == 0))) (λ _. unused lots label >>= λ _. wanted refusals.NoPbmt f.pbmte >>= λ _. planned (both (effects.legal f.effects.zero) (effects.legal f.effects.flush)) >>= λ _. area_is f label chan (lowest_span pool count)) new e in
    let p2 = passed (unused lots label) (λ _. wanted refusals.NoPbmt f.pbmte >>= λ _. planned (both (effects.legal f.effects.zero) (effects.legal f.effects.flush)) >>= λ _. area_is f label chan (lowest_span pool count)) new p1.rest in
    let p3 = passed (wanted refusals.NoPbmt f.pbmte) (λ _. planned (both (effects.legal f.effects.zero) (effects.legal f.effects.flush)) >>= λ _. area_is f label chan (lowest_span pool count)) new p2.rest in
    let p4 = passed (planned (both (effects.legal f.effects.zero) (effects.legal f.effects.flush))) (λ _. area_is f label chan (lowest_span pool count)) new p3.rest in
    let p5 = passed (some_or refusals.NoPage (lowest_span pool count)) (λ span. Ok (area_lot (lot_id label 0) chan span ∷ [])) new p4.rest in
    OneArea label count chan p5.value refl (cc (p5.rest))

none_new : (o : Op) (new : List Lot) → [] ≡ new → NewIs o new
none_new o new none = subst (λ (ls : List Lot). NewIs o ls) none (Plain refl (All-nil NoArea))

pub new_lots : (f : DriverConfig) (lots new : List Lot) (owners : List Owner) (pool : PageMap) (o : Op) → begin f lots owners pool o ≡ Ok new → NewIs o new
unfolding begin meaning accesses.load accesses.store cache_ops.cache_operation cache_ops.fence handing.take handing.hand channels.claim channels.free channels.set_up channels.run channels.poll channels.read_register channels.write_register mappings.map_single mappings.unmap_single mappings.sync_for_cpu mappings.sync_for_device lists.map_sg lists.unmap_sg areas.calloc areas.give_area areas.take_area areas.free_area copies.copy
new_lots f lots new owners pool (ops.Map label buf off len dir chan) e = ranges_new (ops.Map label buf off len dir chan) f lots label kinds.Single dir chan owners (record { buf = buf; off = off; len = len } ∷ []) new refl e
new_lots f lots new owners pool (ops.MapSg label entries dir chan) e = list_new f lots label entries dir chan owners new e
new_lots f lots new owners pool (ops.Calloc label pages chan) e = calloc_new f lots label pages chan pool new e
new_lots f lots new owners pool (ops.Copy chan src src_off dst dst_off len cfg) e =
    copy_new (ops.Copy chan src src_off dst dst_off len cfg) f (record { buf = src; off = src_off; len = len }) (record { buf = dst; off = dst_off; len = len }) chan owners new e
new_lots f lots new owners pool (ops.Unmap label) e = none_new (ops.Unmap label) new (behind_test (named lots label kinds.Single) new e)
new_lots f lots new owners pool (ops.ToCpu label) e = none_new (ops.ToCpu label) new (behind_test (named lots label kinds.Single) new e)
new_lots f lots new owners pool (ops.ToDev label) e = none_new (ops.ToDev label) new (behind_test (named lots label kinds.Single) new e)
new_lots f lots new owners pool (ops.UnmapSg label count) e = none_new (ops.UnmapSg label count) new (sg_none lots new label count e)
new_lots f lots new owners pool (ops.Cgive label) e = none_new (ops.Cgive label) new (behind_test (named lots label kinds.Area) new e)
new_lots f lots new owners pool (ops.Ctake label) e = none_new (ops.Ctake label) new (behind_test (named lots label kinds.Area) new e)
new_lots f lots new owners pool (ops.Cfree label) e = none_new (ops.Cfree label) new (free_none f lots new label owners e)
new_lots f lots new owners pool (ops.Hand buf to) e = none_new (ops.Hand buf to) new (behind_test (owned f.me owners (buffer_of f buf)) new e)
new_lots f lots new owners pool (ops.Ld spot off len) e = none_new (ops.Ld spot off len) new (cc)
new_lots f lots new owners pool (ops.St spot off bytes) e = none_new (ops.St spot off bytes) new (cc)
new_lots f lots new owners pool (ops.Cbo op buf off) e = none_new (ops.Cbo op buf off) new (cc)
new_lots f lots new owners pool (ops.Fence pred succ) e = none_new (ops.Fence pred succ) new (cc)
new_lots f lots new owners pool (ops.Take buf) e = none_new (ops.Take buf) new (cc)
new_lots f lots new owners pool (ops.Claim chan) e = none_new (ops.Claim chan) new (cc)
new_lots f lots new owners pool (ops.Free chan) e = none_new (ops.Free chan) new (cc)
new_lots f lots new owners pool (ops.Regs chan src dst len cfg) e = none_new (ops.Regs chan src dst len cfg) new (cc)
new_lots f lots new owners pool (ops.Run chan) e = none_new (ops.Run chan) new (cc)
new_lots f lots new owners pool (ops.Poll chan) e = none_new (ops.Poll chan) new (cc)
new_lots f lots new owners pool (ops.Regr chan off width) e = none_new (ops.Regr chan off width) new (cc)
new_lots f lots new owners pool (ops.Regw chan off width value) e = none_new (ops.Regw chan off width value) new (cc)

-- a buffer that is handed is the hart's own, and nothing is made
pub record IsHanded (f : DriverConfig) (owners : List Owner) (buf : ℕ) (new : List Lot) : Type 0 where
  pub owned : (u : Unit {0}) × (owned f.me owners (buffer_of f buf) ≡ Ok u)
  pub none : [] ≡ new

pub handed : (f : DriverConfig) (lots new : List Lot) (owners : List Owner) (pool : PageMap) (buf : ℕ) (to : HartNo) → begin f lots owners pool (ops.Hand buf to) ≡ Ok new → IsHanded f owners buf new
unfolding begin meaning handing.hand
handed f lots new owners pool buf to e =
    let p = passed (owned f.me owners (buffer_of f buf)) (λ _. Ok []) new e in
    record { owned = (p.value, p.first); none = cc (p.rest) }
