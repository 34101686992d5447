-- The lots that a start step makes lie in buffers, but for areas.
use Rattle.std.proofs.Common.{◌≡◌, ℕ, suc, ◌+◌, true, false, List, [], ◌∷◌, length, map, refl, sym, ap, ◌∙◌, subst, arith, Ok}
use Rattle.std.specs.Prelude.{All, not, ◌==◌, slice_index_or}
use Rattle.std.proofs.lemmas.Bool.{false≢true}
use Rattle.std.proofs.lemmas.List.Elements.{All-nil, All-cons, All-head, All-tail}
use Rattle.nc_num.specs.declared.names.ChanNo.{ChanNo}
use Rattle.nc_num.specs.declared.names.Dir.{Dir}
use Rattle.nc_num.specs.declared.names.Dir.TheVariants.{ToDev, FromDev}
use Rattle.nc_num.specs.declared.names.Label.{Label}
use Rattle.nc_num.specs.declared.places.Span.{Span}
use Rattle.nc_model.specs.declared.owners.Owner.{Owner}
use Rattle.nc_model.proofs.Faults.{covers-low, covers-high, covers-from}
use Rattle.nc_plan.specs.Effects.{both}
use Rattle.nc_plan.specs.Effects as effects
use Rattle.nc_coherent.specs.Pages.{PageMap, lowest_span}
use Rattle.nc_sg.specs.declared.list.Entry.{Entry}
use Rattle.nc_sg.specs.Lists.{fresh}
use Rattle.nc_ops.specs.declared.ops.Op.{Op}
use Rattle.nc_ops.specs.declared.ops.Op.TheVariants as ops
use Rattle.nc_ops.specs.declared.ops.SgEntry.{SgEntry}
use Rattle.nc_rules.specs.declared.answers.Refusal.TheVariants as refusals
use Rattle.nc_rules.specs.declared.lots.Kind.{Kind}
use Rattle.nc_rules.specs.declared.lots.Kind.TheVariants as kinds
use Rattle.nc_rules.specs.declared.lots.Lot.{Lot}
use Rattle.nc_rules.specs.declared.lots.LotId.{LotId}
use Rattle.nc_rules.specs.Lots.{DriverConfig, lot_id, reach_of, ranges_lot, area_lot, is_wanted}
use Rattle.nc_rules.specs.Refusals.{◌>>=◌, wanted, some_or, buffer_of, part_of, all_some, ranges_of, unused, named, owned, owned_from, planned, lendable, placeable}
use Rattle.nc_rules.specs.Turns.{is_area}
use Rattle.nc_rules.specs.Mappings as mappings
use Rattle.nc_rules.specs.ScatterLists as lists
use Rattle.nc_rules.specs.ScatterLists.{some_entries}
use Rattle.nc_rules.specs.Areas as areas
use Rattle.nc_rules.specs.Areas.{calloc_begin}
use Rattle.nc_rules.specs.Copies as copies
use Rattle.nc_rules.specs.Copies.{source, target, ends_of, no_span, copy_begin}
use Rattle.nc_rules.specs.Handing as handing
use Rattle.nc_rules.specs.Accesses as accesses
use Rattle.nc_rules.specs.CacheOps as cache_ops
use Rattle.nc_rules.specs.Channels as channels
use Rattle.nc_rules.specs.Operations.{meaning, begin}
use Rattle.nc_scripts.proofs.DriverSteps.{passed, part_is}
use Rattle.nc_scripts.proofs.NewLots.{ranges_begin, behind_ranges, behind_copy, area_is, placeable_is, behind_test, sg_none, free_none}
use Rattle.nc_holds.specs.Held.{LiesInBuffer}

abbrev pub LiesSo : DriverConfig → Lot → Type 0
LiesSo f lot = is_area lot.kind ≡ false → All (λ e. LiesInBuffer f e.span) lot.list.entries

-- ---- ranges

part_lies : (f : DriverConfig) (buf off len : ℕ) (range : Span) → part_of (buffer_of f buf) off len ≡ Ok range → LiesInBuffer f range
part_lies f buf off len range e =
    let k = part_is (buffer_of f buf) off len range e in
    let at : range.at ≡ (buffer_of f buf).at + off = ap (λ (s : Span). s.at) k.0 in
    let long : range.len ≡ len = ap (λ (s : Span). s.len) k.0 in
    (buf, λ x on. covers-from (buffer_of f buf) x (omega (arith, at, covers-low range x on)) (omega (arith, at, long, k.1, covers-high range x on)))

ranges_lie : (f : DriverConfig) (es : List SgEntry) (ranges : List Span) → ranges_of f es ≡ Ok ranges → All (LiesInBuffer f) ranges
ranges_lie f [] ranges e = let none : [] ≡ ranges = cc in subst (λ (rs : List Span). All (LiesInBuffer f) rs) none (All-nil (LiesInBuffer f))
ranges_lie f (x ∷ es) ranges e =
    let q = passed (part_of (buffer_of f x.buf) x.off x.len) (λ range. ranges_of f es >>= λ ranges. Ok (range ∷ ranges)) ranges e in
    let r = passed (ranges_of f es) (λ ranges. Ok (q.value ∷ ranges)) ranges q.rest in
    let same : q.value ∷ r.value ≡ ranges = cc (r.rest) in
    subst (λ (rs : List Span). All (LiesInBuffer f) rs) same (All-cons (LiesInBuffer f) q.value r.value (part_lies f x.buf x.off x.len q.value q.first) (ranges_lie f es r.value r.first))

abbrev EntryLies : DriverConfig → Entry → Type 0
EntryLies f e = LiesInBuffer f e.span

entries_lie : (f : DriverConfig) (dir : Dir) (size reach : ℕ) (ranges : List Span) → All (LiesInBuffer f) ranges → All (EntryLies f) (map (fresh dir size reach) ranges)
entries_lie f dir size reach [] all = All-nil (EntryLies f)
entries_lie f dir size reach (r ∷ rs) all = All-cons (EntryLies f) (fresh dir size reach r) (map (fresh dir size reach) rs) (All-head (LiesInBuffer f) r rs all) (entries_lie f dir size reach rs (All-tail (LiesInBuffer f) r rs all))

lot_lies : (f : DriverConfig) (id : LotId) (kind : Kind) (dir : Dir) (chan : ChanNo) (ranges : List Span) → All (LiesInBuffer f) ranges → LiesSo f (ranges_lot f id kind dir chan ranges)
lot_lies f id kind dir chan ranges all off = entries_lie f dir f.size (reach_of f chan) ranges all

-- ---- each operation that makes lots

ranges_new_lie : (f : DriverConfig) (lots : List Lot) (label : Label) (kind : Kind) (dir : Dir) (chan : ChanNo) (owners : List Owner) (es : List SgEntry) (new : List Lot)
    → ranges_begin f lots label kind dir chan owners es ≡ Ok new → All (LiesSo f) new
ranges_new_lie f lots label kind dir chan owners es new e =
    let p1 = passed (all_some es) (λ _. ranges_of f es >>= λ ranges. behind_ranges f lots label kind dir chan owners ranges) new e in
    let p2 = passed (ranges_of f es) (λ ranges. behind_ranges f lots label kind dir chan owners ranges) new p1.rest in
    let lot = ranges_lot f (lot_id label 0) kind dir chan p2.value in
    let p3 = passed (unused lots label) (λ _. owned_from f.me (lot_id label 0) 0 owners p2.value >>= λ _. lendable f.effects dir >>= λ _. placeable f (lot ∷ [])) new p2.rest in
    let p4 = passed (owned_from f.me (lot_id label 0) 0 owners p2.value) (λ _. lendable f.effects dir >>= λ _. placeable f (lot ∷ [])) new p3.rest in
    let p5 = passed (lendable f.effects dir) (λ _. placeable f (lot ∷ [])) new p4.rest in
    let there = placeable_is f (lot ∷ []) new p5.rest in
    subst (λ (ls : List Lot). All (LiesSo f) ls) there.same
    (All-cons (LiesSo f) lot [] (lot_lies f (lot_id label 0) kind dir chan p2.value (ranges_lie f es p2.value p2.first)) (All-nil (LiesSo f)))

ranges_count : (f : DriverConfig) (es : List SgEntry) (rs : List Span) → ranges_of f es ≡ Ok rs → length rs ≡ length es
ranges_count f [] rs e = let none : [] ≡ rs = cc in ap length (sym none)
ranges_count f (x ∷ es) rs e =
    let q = passed (part_of (buffer_of f x.buf) x.off x.len) (λ range. ranges_of f es >>= λ ranges. Ok (range ∷ ranges)) rs e in
    let r = passed (ranges_of f es) (λ ranges. Ok (q.value ∷ ranges)) rs q.rest in
    let same : q.value ∷ r.value ≡ rs = cc (r.rest) in
    ap length (sym same) ∙ ap suc (ranges_count f es r.value r.first)

one_lies : (f : DriverConfig) (r : Span) → LiesInBuffer f r → All (LiesInBuffer f) (r ∷ [])
one_lies f r h = All-cons (LiesInBuffer f) r [] h (All-nil (LiesInBuffer f))

copy_new_lie : (f : DriverConfig) (src dst : SgEntry) (chan : ChanNo) (owners : List Owner) (new : List Lot) → copy_begin f src dst chan owners ≡ Ok new → All (LiesSo f) new
copy_new_lie f src dst chan owners new e =
    let p1 = passed (all_some (src ∷ dst ∷ [])) (λ _. ranges_of f (src ∷ dst ∷ []) >>= λ ranges. behind_copy f chan owners ranges) new e in
    let p2 = passed (ranges_of f (src ∷ dst ∷ [])) (λ ranges. behind_copy f chan owners ranges) new p1.rest in
    let p3 = passed (owned_from f.me source 0 owners p2.value) (λ _. lendable f.effects ToDev >>= λ _. lendable f.effects FromDev >>= λ _. placeable f (ends_of f chan p2.value)) new p2.rest in
    let p4 = passed (lendable f.effects ToDev) (λ _. lendable f.effects FromDev >>= λ _. placeable f (ends_of f chan p2.value)) new p3.rest in
    let p5 = passed (lendable f.effects FromDev) (λ _. placeable f (ends_of f chan p2.value)) new p4.rest in
    let there = placeable_is f (ends_of f chan p2.value) new p5.rest in
    let all = ranges_lie f (src ∷ dst ∷ []) p2.value p2.first in
    let two : length p2.value ≡ 2 = ranges_count f (src ∷ dst ∷ []) p2.value p2.first in
    let r = slice_index_or p2.value 0 no_span in
    let q = slice_index_or p2.value 1 no_span in
    let s = ranges_lot f source kinds.Copy ToDev chan (r ∷ []) in
    let t = ranges_lot f target kinds.Copy FromDev chan (q ∷ []) in
    subst (λ (ls : List Lot). All (LiesSo f) ls) there.same
    (All-cons (LiesSo f) s (t ∷ []) (lot_lies f source kinds.Copy ToDev chan (r ∷ []) (one_lies f r (all 0 no_span (omega (arith, two)))))
    (All-cons (LiesSo f) t [] (lot_lies f target kinds.Copy FromDev chan (q ∷ []) (one_lies f q (all 1 no_span (omega (arith, two))))) (All-nil (LiesSo f))))

list_new_lie : (f : DriverConfig) (lots : List Lot) (label : Label) (entries : List SgEntry) (dir : Dir) (chan : ChanNo) (owners : List Owner) (new : List Lot) → lists.map_sg_begin f lots label entries dir chan owners ≡ Ok new → All (LiesSo f) new
list_new_lie f lots label entries dir chan owners new e =
    let p = passed (some_entries entries) (λ _. ranges_begin f lots label kinds.List dir chan owners entries) new e in
    ranges_new_lie f lots label kinds.List dir chan owners entries new p.rest

-- an area is one lot of its label
pub record IsArea (label : Label) (new : List Lot) : Type 0 where
  pub lot : Lot
  pub is : lot ∷ [] ≡ new
  pub id : lot.id ≡ lot_id label 0
  pub kind : is_area lot.kind ≡ true
  pub wanted : is_wanted lot.side ≡ true

area_new : (f : DriverConfig) (lots : List Lot) (label : Label) (count : ℕ) (chan : ChanNo) (pool : PageMap) (new : List Lot) → calloc_begin f lots label count chan pool ≡ Ok new → IsArea label new
area_new f lots label count chan pool new e =
    let p1 = passed (wanted refusals.Empty (not (count == 0))) (λ _. unused lots label >>= λ _. wanted refusals.NoPbmt f.pbmte >>= λ _. planned (both (effects.legal f.effects.zero) (effects.legal f.effects.flush)) >>= λ _. area_is f label chan (lowest_span pool count)) new e in
    let p2 = passed (unused lots label) (λ _. wanted refusals.NoPbmt f.pbmte >>= λ _. planned (both (effects.legal f.effects.zero) (effects.legal f.effects.flush)) >>= λ _. area_is f label chan (lowest_span pool count)) new p1.rest in
    let p3 = passed (wanted refusals.NoPbmt f.pbmte) (λ _. planned (both (effects.legal f.effects.zero) (effects.legal f.effects.flush)) >>= λ _. area_is f label chan (lowest_span pool count)) new p2.rest in
    let p4 = passed (planned (both (effects.legal f.effects.zero) (effects.legal f.effects.flush))) (λ _. area_is f label chan (lowest_span pool count)) new p3.rest in
    let p5 = passed (some_or refusals.NoPage (lowest_span pool count)) (λ span. Ok (area_lot (lot_id label 0) chan span ∷ [])) new p4.rest in
    record { lot = area_lot (lot_id label 0) chan p5.value; is = cc (p5.rest); id = refl; kind = refl; wanted = refl }

pub calloc_new : (f : DriverConfig) (lots new : List Lot) (owners : List Owner) (pool : PageMap) (label : Label) (count : ℕ) (chan : ChanNo) → begin f lots owners pool (ops.Calloc label count chan) ≡ Ok new → IsArea label new
unfolding begin meaning areas.calloc
calloc_new f lots new owners pool label count chan e = area_new f lots label count chan pool new e

area_lies : (f : DriverConfig) (label : Label) (new : List Lot) → IsArea label new → All (LiesSo f) new
area_lies f label new h = subst (λ (ls : List Lot). All (LiesSo f) ls) h.is (All-cons (LiesSo f) h.lot [] (λ off. absurd (false≢true (sym off ∙ h.kind))) (All-nil (LiesSo f)))

none_lie : (f : DriverConfig) (new : List Lot) → [] ≡ new → All (LiesSo f) new
none_lie f new none = subst (λ (ls : List Lot). All (LiesSo f) ls) none (All-nil (LiesSo f))

pub new_in_buffers : (f : DriverConfig) (lots new : List Lot) (owners : List Owner) (pool : PageMap) (o : Op) → begin f lots owners pool o ≡ Ok new → All (LiesSo f) new
unfolding begin meaning accesses.load accesses.store cache_ops.cache_operation cache_ops.fence handing.take handing.hand channels.claim channels.free channels.set_up channels.run channels.poll channels.read_register channels.write_register mappings.map_single mappings.unmap_single mappings.sync_for_cpu mappings.sync_for_device lists.map_sg lists.unmap_sg areas.calloc areas.give_area areas.take_area areas.free_area copies.copy
new_in_buffers f lots new owners pool (ops.Map label buf off len dir chan) e = ranges_new_lie f lots label kinds.Single dir chan owners (record { buf = buf; off = off; len = len } ∷ []) new e
new_in_buffers f lots new owners pool (ops.MapSg label entries dir chan) e = list_new_lie f lots label entries dir chan owners new e
new_in_buffers f lots new owners pool (ops.Calloc label pages chan) e = area_lies f label new (area_new f lots label pages chan pool new e)
new_in_buffers f lots new owners pool (ops.Copy chan src src_off dst dst_off len cfg) e =
    copy_new_lie f (record { buf = src; off = src_off; len = len }) (record { buf = dst; off = dst_off; len = len }) chan owners new e
new_in_buffers f lots new owners pool (ops.Unmap label) e = none_lie f new (behind_test (named lots label kinds.Single) new e)
new_in_buffers f lots new owners pool (ops.ToCpu label) e = none_lie f new (behind_test (named lots label kinds.Single) new e)
new_in_buffers f lots new owners pool (ops.ToDev label) e = none_lie f new (behind_test (named lots label kinds.Single) new e)
new_in_buffers f lots new owners pool (ops.UnmapSg label count) e = none_lie f new (sg_none lots new label count e)
new_in_buffers f lots new owners pool (ops.Cgive label) e = none_lie f new (behind_test (named lots label kinds.Area) new e)
new_in_buffers f lots new owners pool (ops.Ctake label) e = none_lie f new (behind_test (named lots label kinds.Area) new e)
new_in_buffers f lots new owners pool (ops.Cfree label) e = none_lie f new (free_none f lots new label owners e)
new_in_buffers f lots new owners pool (ops.Hand buf to) e = none_lie f new (behind_test (owned f.me owners (buffer_of f buf)) new e)
new_in_buffers f lots new owners pool (ops.Ld spot off len) e = none_lie f new (cc)
new_in_buffers f lots new owners pool (ops.St spot off bytes) e = none_lie f new (cc)
new_in_buffers f lots new owners pool (ops.Cbo op buf off) e = none_lie f new (cc)
new_in_buffers f lots new owners pool (ops.Fence pred succ) e = none_lie f new (cc)
new_in_buffers f lots new owners pool (ops.Take buf) e = none_lie f new (cc)
new_in_buffers f lots new owners pool (ops.Claim chan) e = none_lie f new (cc)
new_in_buffers f lots new owners pool (ops.Free chan) e = none_lie f new (cc)
new_in_buffers f lots new owners pool (ops.Regs chan src dst len cfg) e = none_lie f new (cc)
new_in_buffers f lots new owners pool (ops.Run chan) e = none_lie f new (cc)
new_in_buffers f lots new owners pool (ops.Poll chan) e = none_lie f new (cc)
new_in_buffers f lots new owners pool (ops.Regr chan off width) e = none_lie f new (cc)
new_in_buffers f lots new owners pool (ops.Regw chan off width value) e = none_lie f new (cc)
