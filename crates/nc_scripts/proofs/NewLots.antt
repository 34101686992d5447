-- The lots that a start step makes.
use Rattle.std.proofs.Common.{◌≡◌, ℕ, suc, ◌+◌, ◌*◌, ◌<◌, ◌≤◌, Bool, true, false, List, [], ◌∷◌, ◌++◌, length, map, refl, sym, ap, ◌∙◌, subst, arith, cond, append_assoc, Option, Some, None, Result, Ok}
use Rattle.std.specs.Prelude.{All, filter, not, nat_le, ◌&&◌, ◌==◌, slice_index_or, slice_range}
use Rattle.std.specs.List.{list_all, list_any}
use Rattle.std.proofs.lemmas.Bool.{and_parts, false≢true, leb-true}
use Rattle.std.proofs.lemmas.Bool.Decides.{nat_tests}
use Rattle.std.proofs.lemmas.List.{length-map, append-nil}
use Rattle.std.proofs.lemmas.List.Elements.{All-nil, All-cons, All-head, All-tail, All-map}
use Rattle.nc_num.specs.declared.names.ChanNo.{ChanNo}
use Rattle.nc_num.specs.declared.names.Dir.{Dir}
use Rattle.nc_num.specs.declared.names.Dir.TheVariants.{Both, ToDev, FromDev}
use Rattle.nc_num.specs.declared.names.Label.{Label}
use Rattle.nc_num.specs.declared.places.Span.{Span}
use Rattle.nc_values.specs.Values.{FitsLabel}
use Rattle.nc_model.specs.declared.owners.Owner.{Owner}
use Rattle.nc_plan.specs.Effects.{both}
use Rattle.nc_plan.specs.Effects as effects
use Rattle.nc_plan.specs.Parts.{is_too_big, bounces}
use Rattle.nc_coherent.specs.Pages.{PageMap, lowest_run, lowest_span, run_span, span_of_run, IsLowest}
use Rattle.nc_coherent.proofs.Runs.{lowest_is_lowest}
use Rattle.nc_sg.specs.declared.list.Entry.{Entry}
use Rattle.nc_sg.specs.Lists.{fresh}
use Rattle.nc_ops.specs.Fits.{FitsOp, FitsEntry}
use Rattle.nc_ops.specs.declared.ops.Op.{Op}
use Rattle.nc_ops.specs.declared.ops.Op.TheVariants as ops
use Rattle.nc_ops.specs.declared.ops.SgEntry.{SgEntry}
use Rattle.nc_rules.specs.declared.answers.Refusal.{Refusal}
use Rattle.nc_rules.specs.declared.answers.Refusal.TheVariants as refusals
use Rattle.nc_rules.specs.declared.lots.Kind.{Kind}
use Rattle.nc_rules.specs.declared.lots.Kind.TheVariants as kinds
use Rattle.nc_rules.specs.declared.lots.Lot.{Lot}
use Rattle.nc_rules.specs.declared.lots.LotId.{LotId}
use Rattle.nc_rules.specs.Lots.{DriverConfig, lot_id, is_lot, is_labelled, is_wanted, some_lot_waits, reach_of, ranges_lot, area_lot, only_entry}
use Rattle.nc_rules.specs.Refusals.{◌>>=◌, wanted, some_or, some_bytes, buffer_of, part_of, all_some, ranges_of, unused, named, owned, owned_from, planned, lendable, is_big, has_big, small_enough, slots_there, placeable}
use Rattle.nc_rules.specs.Turns.{is_area, those}
use Rattle.nc_rules.specs.Mappings as mappings
use Rattle.nc_rules.specs.Mappings.{map_begin, needs_lot}
use Rattle.nc_rules.specs.ScatterLists as lists
use Rattle.nc_rules.specs.ScatterLists.{some_entries, map_sg_begin, unmap_sg_begin}
use Rattle.nc_rules.specs.Areas as areas
use Rattle.nc_rules.specs.Areas.{calloc_begin, cfree_begin}
use Rattle.nc_rules.specs.Copies as copies
use Rattle.nc_rules.specs.Copies.{source, target, ends_of, no_span, copy_begin}
use Rattle.nc_rules.specs.Handing as handing
use Rattle.nc_rules.specs.Accesses as accesses
use Rattle.nc_rules.specs.CacheOps as cache_ops
use Rattle.nc_rules.specs.Channels as channels
use Rattle.nc_rules.specs.Operations.{meaning, begin}
use Rattle.nc_scripts.specs.Scripts.{IsRangeIn}
use Rattle.nc_scripts.specs.Drivers.{IsFixed, ArePagesOf, IsEntryIn, IsInPool, BouncesSo, FitsKind, IsLotIn, AreApart, IsSettled, made_names}
use Rattle.nc_scripts.proofs.Lists.{all_to, none_any}
use Rattle.nc_scripts.proofs.LotLaws.{named_so}
use Rattle.nc_scripts.proofs.DriverSteps.{passed, wanted_is, part_is, buffer_is, IsLaid}

-- what an operation makes beside the lots that the hart has
pub record AreNew (ram : ℕ) (f : DriverConfig) (o : Op) (lots new : List Lot) : Type 0 where
  pub each : All (IsLotIn ram f) new
  pub names : map (λ lot. lot.id) new ≡ made_names o
  pub wanted : All (λ lot. is_wanted lot.side ≡ true) new
  pub apart : AreApart (lots ++ new)
  pub slots : some_lot_waits new ≡ true → 0 < f.slots

pub laid : (ram harts : ℕ) (f : DriverConfig) → IsFixed ram harts f → IsLaid ram f
laid ram harts f h = record {
  ram_small = h.ram_small;
  ram_whole = h.ram_whole;
  sized = h.sized;
  zero_sized = h.zero_sized;
  zero_wide = h.zero_wide;
  table = h.table;
  buffers = h.buffers;
}

-- ---- tests

not_true : (t : Bool) → not t ≡ true → t ≡ false
not_true true e = absurd (false≢true e)
not_true false e = refl

and_false : (a b : Bool) → a ≡ false → (a && b) ≡ false
and_false a b e = rw e refl

other_false : (a b : Bool) → (a && b) ≡ false → a ≡ true → b ≡ false
other_false true b e h = e
other_false false b e h = absurd (false≢true h)

pub some_is : {A : Type 0} (r : Refusal) (o : Option A) (x : A) → some_or r o ≡ Ok x → o ≡ Some x
some_is r None x e = absurd (cc)
some_is r (Some y) x e = cc

pub some_len : (len : ℕ) (u : Unit {0}) → some_bytes len ≡ Ok u → 0 < len
some_len len u e =
    let off : (len == 0) ≡ false = not_true (len == 0) (wanted_is refusals.Empty (not (len == 0)) u e) in
    grind (arith, nat_tests)

-- ---- names apart

pub length-filter-join : {X : Type 0} (p : X → Bool) (xs ys : List X) → length (filter p (xs ++ ys)) ≡ length (filter p xs) + length (filter p ys)
length-filter-join p [] ys = omega arith
length-filter-join p (x ∷ xs) ys = join_by (p x) x (filter p (xs ++ ys)) (filter p xs) (filter p ys) (length-filter-join p xs ys)
  where
    join_by : {X : Type 0} (t : Bool) (x : X) (zs xs ys : List X) → length zs ≡ length xs + length ys → length (cond t (x ∷ zs) zs) ≡ length (cond t (x ∷ xs) xs) + length ys
    join_by true x zs xs ys e = omega arith
    join_by false x zs xs ys e = e

pub none_passes : {X : Type 0} (p : X → Bool) (xs : List X) → All (λ x. p x ≡ false) xs → length (filter p xs) ≡ 0
none_passes p [] all = refl
none_passes p (x ∷ xs) all = passes_by (p x) x (filter p xs) (All-head (λ x. p x ≡ false) x xs all) (none_passes p xs (All-tail (λ x. p x ≡ false) x xs all))
  where
    passes_by : {X : Type 0} (t : Bool) (x : X) (ys : List X) → t ≡ false → length ys ≡ 0 → length (cond t (x ∷ ys) ys) ≡ 0
    passes_by true x ys e h = absurd (false≢true (sym e))
    passes_by false x ys e h = h

abbrev HasNo : LotId → Lot → Type 0
HasNo id lot = is_lot id lot ≡ false

apart_by : (id : LotId) (lots : List Lot) (lot : Lot) (t : Bool) → is_lot id lot ≡ t → AreApart lots → All (HasNo lot.id) lots → length (those id lots) + length (cond t (lot ∷ []) []) ≤ 1
apart_by id lots lot true e h none =
    let no_other = none_passes (is_lot id) lots (subst (λ (i : LotId). All (HasNo i) lots) (named_so lot id e) none) in
    omega (arith, no_other)
apart_by id lots lot false e h none = omega (arith, h id)

apart_more : (lots : List Lot) (lot : Lot) → AreApart lots → All (HasNo lot.id) lots → AreApart (lots ++ lot ∷ [])
apart_more lots lot h none id = omega (arith, length-filter-join (is_lot id) lots (lot ∷ []), apart_by id lots lot (is_lot id lot) refl h none)

unused_apart : (lots : List Lot) (label : Label) (u : Unit {0}) → unused lots label ≡ Ok u → All (HasNo (lot_id label 0)) lots
unused_apart lots label u e =
    let off = not_true (list_any (is_labelled label) lots) (wanted_is refusals.LabelUsed (not (list_any (is_labelled label) lots)) u e) in
    all_to (λ lot. is_labelled label lot ≡ false) (HasNo (lot_id label 0)) lots (none_any (is_labelled label) lots off) (λ lot h. and_false (is_labelled label lot) (lot.id.first == 0) h)

not_an_end : (n : ℕ) → n ≤ 999 → (n == 1000) ≡ false
not_an_end n h = grind (arith, nat_tests)

settled_apart : (first : ℕ) (lots : List Lot) → All IsSettled lots → All (HasNo (lot_id (record { 0 = 1000 }) first)) lots
settled_apart first lots all =
    all_to IsSettled (HasNo (lot_id (record { 0 = 1000 }) first)) lots all (λ lot h. and_false (lot.id.label.0 == 1000) (lot.id.first == first) (not_an_end lot.id.label.0 h.named.label))

-- ---- ranges

record AreRanges (ram : ℕ) (es : List SgEntry) (ranges : List Span) : Type 0 where
  all : All (IsRangeIn ram) ranges
  count : length ranges ≡ length es

ranges_in : (ram : ℕ) (f : DriverConfig) (es : List SgEntry) (ranges : List Span) (u : Unit {0}) → IsLaid ram f → All (FitsEntry (length f.buffers)) es → all_some es ≡ Ok u → ranges_of f es ≡ Ok ranges → AreRanges ram es ranges
ranges_in ram f [] ranges u h fits some e = let none : [] ≡ ranges = cc in subst (λ (rs : List Span). AreRanges ram [] rs) none (record { all = All-nil (IsRangeIn ram); count = refl })
ranges_in ram f (x ∷ es) ranges u h fits some e =
    let p = passed (some_bytes x.len) (λ _. all_some es) u some in
    let q = passed (part_of (buffer_of f x.buf) x.off x.len) (λ range. ranges_of f es >>= λ ranges. Ok (range ∷ ranges)) ranges e in
    let r = passed (ranges_of f es) (λ ranges. Ok (q.value ∷ ranges)) ranges q.rest in
    let more = ranges_in ram f es r.value u h (All-tail (FitsEntry (length f.buffers)) x es fits) p.rest r.first in
    let part = part_is (buffer_of f x.buf) x.off x.len q.value q.first in
    let buffer = buffer_is ram 0 f x.buf h (All-head (FitsEntry (length f.buffers)) x es fits).buffer in
    let at : q.value.at ≡ (buffer_of f x.buf).at + x.off = ap (λ (s : Span). s.at) part.0 in
    let len : q.value.len ≡ x.len = ap (λ (s : Span). s.len) part.0 in
    let here : IsRangeIn ram q.value = record { some = omega (arith, len, some_len x.len p.value p.first); ends = omega (arith, at, len, part.1, buffer.ends) } in
    let same : q.value ∷ r.value ≡ ranges = cc (r.rest) in
    subst (λ (rs : List Span). AreRanges ram (x ∷ es) rs) same (record { all = All-cons (IsRangeIn ram) q.value r.value here more.all; count = ap suc more.count })

-- ---- entries

entries_in : (ram slots size reach : ℕ) (dir : Dir) (ranges : List Span) → All (IsRangeIn ram) ranges → All (λ e. is_big e ≡ false) (map (fresh dir size reach) ranges) → All (IsEntryIn ram slots) (map (fresh dir size reach) ranges)
entries_in ram slots size reach dir [] all small = All-nil (IsEntryIn ram slots)
entries_in ram slots size reach dir (r ∷ rs) all small =
    All-cons (IsEntryIn ram slots) (fresh dir size reach r) (map (fresh dir size reach) rs)
    (record {
      range = All-head (IsRangeIn ram) r rs all;
      slot = λ k e. absurd (cc);
      small = λ e. other_false (bounces r dir size reach) (is_too_big r) (All-head (λ e. is_big e ≡ false) (fresh dir size reach r) (map (fresh dir size reach) rs) small) e;
    })
    (entries_in ram slots size reach dir rs (All-tail (IsRangeIn ram) r rs all) (All-tail (λ e. is_big e ≡ false) (fresh dir size reach r) (map (fresh dir size reach) rs) small))

-- each bounces as the rule says
bounce_so : (f : DriverConfig) (kind : Kind) (dir : Dir) (chan : ChanNo) (ranges : List Span) → is_area kind ≡ false → All (BouncesSo f kind dir chan) (map (fresh dir f.size (reach_of f chan)) ranges)
bounce_so f kind dir chan ranges off =
    All-map (BouncesSo f kind dir chan) (fresh dir f.size (reach_of f chan)) ranges (λ k d lt. rw off refl)

lot_in : (ram : ℕ) (f : DriverConfig) (id : LotId) (kind : Kind) (dir : Dir) (chan : ChanNo) (ranges : List Span) → All (IsRangeIn ram) ranges → length ranges ≤ 16 → chan.0 < 4 → is_area kind ≡ false
    → has_big (ranges_lot f id kind dir chan ranges) ≡ false → ((es : List Entry) → length es ≡ length ranges → FitsKind f.pool kind id es) → IsLotIn ram f (ranges_lot f id kind dir chan ranges)
lot_in ram f id kind dir chan ranges all few lt off small fits =
    let es = map (fresh dir f.size (reach_of f chan)) ranges in
    record {
      few = omega (arith, length-map ranges (fresh dir f.size (reach_of f chan)), few);
      entries = entries_in ram f.slots f.size (reach_of f chan) dir ranges all (none_any is_big es small);
      bounce = bounce_so f kind dir chan ranges off;
      channel = lt;
      kind = fits es (length-map ranges (fresh dir f.size (reach_of f chan)));
    }

-- ---- what is asked of new lots last

pub record IsPlaceable (f : DriverConfig) (new lots : List Lot) : Type 0 where
  pub same : new ≡ lots
  pub small : All (λ lot. has_big lot ≡ false) new
  pub slots : some_lot_waits new ≡ true → 0 < f.slots

some_slots : (waits : Bool) (n : ℕ) → (waits && n == 0) ≡ false → waits ≡ true → 0 < n
some_slots true n e h = grind (arith, nat_tests)
some_slots false n e h = absurd (false≢true h)

pub placeable_is : (f : DriverConfig) (new lots : List Lot) → placeable f new ≡ Ok lots → IsPlaceable f new lots
placeable_is f new lots e =
    let p = passed (small_enough new) (λ _. slots_there f new >>= λ _. Ok new) lots e in
    let q = passed (slots_there f new) (λ _. Ok new) lots p.rest in
    let small = not_true (list_any has_big new) (wanted_is refusals.TooBig (not (list_any has_big new)) p.value p.first) in
    let room = not_true (some_lot_waits new && f.slots == 0) (wanted_is refusals.NoSlot (not (some_lot_waits new && f.slots == 0)) q.value q.first) in
    record {
      same = cc (q.rest);
      small = none_any has_big new small;
      slots = some_slots (some_lot_waits new) f.slots room;
    }

-- ---- mappings and lists

abbrev pub behind_ranges : DriverConfig → List Lot → Label → Kind → Dir → ChanNo → List Owner → List Span → Result (List Lot) Refusal
behind_ranges f lots label kind dir chan owners ranges =
    unused lots label >>= λ _. owned_from f.me (lot_id label 0) 0 owners ranges >>= λ _. lendable f.effects dir >>= λ _. placeable f (ranges_lot f (lot_id label 0) kind dir chan ranges ∷ [])

abbrev pub ranges_begin : DriverConfig → List Lot → Label → Kind → Dir → ChanNo → List Owner → List SgEntry → Result (List Lot) Refusal
ranges_begin f lots label kind dir chan owners es = all_some es >>= λ _. ranges_of f es >>= λ ranges. behind_ranges f lots label kind dir chan owners ranges

ranges_new : (ram harts : ℕ) (f : DriverConfig) (lots : List Lot) (label : Label) (kind : Kind) (dir : Dir) (chan : ChanNo) (owners : List Owner) (es : List SgEntry) (o : Op) (new : List Lot)
    → IsFixed ram harts f → AreApart lots → All (FitsEntry (length f.buffers)) es → length es ≤ 16 → chan.0 < 4 → is_area kind ≡ false → ((xs : List Entry) → length xs ≡ length es → FitsKind f.pool kind (lot_id label 0) xs)
    → lot_id label 0 ∷ [] ≡ made_names o → ranges_begin f lots label kind dir chan owners es ≡ Ok new → AreNew ram f o lots new
ranges_new ram harts f lots label kind dir chan owners es o new h apart fits few lt off its_kind names e =
    let p1 = passed (all_some es) (λ _. ranges_of f es >>= λ ranges. behind_ranges f lots label kind dir chan owners ranges) new e in
    let p2 = passed (ranges_of f es) (λ ranges. behind_ranges f lots label kind dir chan owners ranges) new p1.rest in
    let lot = ranges_lot f (lot_id label 0) kind dir chan p2.value in
    let p3 = passed (unused lots label) (λ _. owned_from f.me (lot_id label 0) 0 owners p2.value >>= λ _. lendable f.effects dir >>= λ _. placeable f (lot ∷ [])) new p2.rest in
    let p4 = passed (owned_from f.me (lot_id label 0) 0 owners p2.value) (λ _. lendable f.effects dir >>= λ _. placeable f (lot ∷ [])) new p3.rest in
    let p5 = passed (lendable f.effects dir) (λ _. placeable f (lot ∷ [])) new p4.rest in
    let ranges = ranges_in ram f es p2.value p1.value (laid ram harts f h) fits p1.first p2.first in
    let there = placeable_is f (lot ∷ []) new p5.rest in
    let is = lot_in ram f (lot_id label 0) kind dir chan p2.value ranges.all (omega (arith, ranges.count, few)) lt off (All-head (λ lot. has_big lot ≡ false) lot [] there.small) (λ xs same. its_kind xs (same ∙ ranges.count)) in
    subst (λ (ls : List Lot). AreNew ram f o lots ls) there.same (record {
      each = All-cons (IsLotIn ram f) lot [] is (All-nil (IsLotIn ram f));
      names = names;
      wanted = All-cons (λ lot. is_wanted lot.side ≡ true) lot [] refl (All-nil (λ lot. is_wanted lot.side ≡ true));
      apart = apart_more lots lot apart (unused_apart lots label p3.value p3.first);
      slots = there.slots;
    })

-- ---- areas

abbrev pub area_is : DriverConfig → Label → ChanNo → Option Span → Result (List Lot) Refusal
area_is f label chan o = some_or refusals.NoPage o >>= λ span. Ok (area_lot (lot_id label 0) chan span ∷ [])

pub record IsRun (pool : PageMap) (n : ℕ) (span : Span) : Type 0 where
  pub page : ℕ
  pub is : run_span pool n page ≡ span
  pub ends : page + n ≤ length pool.free
  pub free : list_all (λ b. b) (slice_range pool.free page (page + n)) ≡ true

run_by : (pool : PageMap) (n : ℕ) (span : Span) (o : Option ℕ) → IsLowest pool.free n o → span_of_run pool n o ≡ Some span → IsRun pool n span
run_by pool n span None h e = absurd (cc)
run_by pool n span (Some p) h e =
    let fits = and_parts (nat_le (p + n) (length pool.free)) (list_all (λ b. b) (slice_range pool.free p (p + n))) h.starts in
    record { page = p; is = cc; ends = leb-true (p + n) (length pool.free) fits.0; free = fits.1 }

pub run_is : (pool : PageMap) (n : ℕ) (span : Span) → 0 < n → lowest_span pool n ≡ Some span → IsRun pool n span
run_is pool n span some e = run_by pool n span (lowest_run pool.free n) (lowest_is_lowest pool.free n some) e

area_in : (ram harts : ℕ) (f : DriverConfig) (pool : PageMap) (n : ℕ) (label : Label) (chan : ChanNo) (span : Span) → IsFixed ram harts f → ArePagesOf f pool → FitsLabel label → chan.0 < 4 → 0 < n → IsRun pool n span → IsLotIn ram f (area_lot (lot_id label 0) chan span)
area_in ram harts f pool n label chan span h of fits lt some run =
    let at : pool.at + 4096 * run.page ≡ span.at = ap (λ (s : Span). s.at) run.is in
    let len : 4096 * n ≡ span.len = ap (λ (s : Span). s.len) run.is in
    let range : IsRangeIn ram span = record { some = omega (arith, len, some); ends = omega (arith, at, len, run.ends, of.at, of.len, h.pool_end) } in
    let pages : IsInPool f.pool span = record {
      starts = omega (arith, at, of.at);
      aligned = omega (arith, at, of.at);
      whole = omega (arith, len);
      ends = omega (arith, at, len, run.ends, of.at, of.len);
    } in
    record {
      few = omega arith;
      entries = All-cons (IsEntryIn ram f.slots) (record { span = span; bounced = false; slot = None }) [] (record { range = range; slot = λ k e. absurd (cc); small = λ e. absurd (false≢true e) }) (All-nil (IsEntryIn ram f.slots));
      bounce = All-cons (BouncesSo f kinds.Area Both chan) (record { span = span; bounced = false; slot = None }) [] refl (All-nil (BouncesSo f kinds.Area Both chan));
      channel = lt;
      kind = (record { label = fits; first = refl }, refl, All-cons (λ (e : Entry). IsInPool f.pool e.span) (record { span = span; bounced = false; slot = None }) [] pages (All-nil (λ (e : Entry). IsInPool f.pool e.span)));
    }

calloc_new : (ram harts : ℕ) (f : DriverConfig) (lots : List Lot) (label : Label) (count : ℕ) (chan : ChanNo) (pool : PageMap) (new : List Lot) → IsFixed ram harts f → AreApart lots → ArePagesOf f pool → FitsLabel label → chan.0 < 4
    → calloc_begin f lots label count chan pool ≡ Ok new → AreNew ram f (ops.Calloc label count chan) lots new
calloc_new ram harts f lots label count chan pool new h apart of fits lt e =
    let p1 = passed (wanted refusals.Empty (not (count == 0))) (λ _. unused lots label >>= λ _. wanted refusals.NoPbmt f.pbmte >>= λ _. planned (both (effects.legal f.effects.zero) (effects.legal f.effects.flush)) >>= λ _. area_is f label chan (lowest_span pool count)) new e in
    let p2 = passed (unused lots label) (λ _. wanted refusals.NoPbmt f.pbmte >>= λ _. planned (both (effects.legal f.effects.zero) (effects.legal f.effects.flush)) >>= λ _. area_is f label chan (lowest_span pool count)) new p1.rest in
    let p3 = passed (wanted refusals.NoPbmt f.pbmte) (λ _. planned (both (effects.legal f.effects.zero) (effects.legal f.effects.flush)) >>= λ _. area_is f label chan (lowest_span pool count)) new p2.rest in
    let p4 = passed (planned (both (effects.legal f.effects.zero) (effects.legal f.effects.flush))) (λ _. area_is f label chan (lowest_span pool count)) new p3.rest in
    let p5 = passed (some_or refusals.NoPage (lowest_span pool count)) (λ span. Ok (area_lot (lot_id label 0) chan span ∷ [])) new p4.rest in
    let some = some_len count p1.value p1.first in
    let lot = area_lot (lot_id label 0) chan p5.value in
    let is = area_in ram harts f pool count label chan p5.value h of fits lt some (run_is pool count p5.value some (some_is refusals.NoPage (lowest_span pool count) p5.value p5.first)) in
    let same : lot ∷ [] ≡ new = cc (p5.rest) in
    subst (λ (ls : List Lot). AreNew ram f (ops.Calloc label count chan) lots ls) same (record {
      each = All-cons (IsLotIn ram f) lot [] is (All-nil (IsLotIn ram f));
      names = refl;
      wanted = All-cons (λ lot. is_wanted lot.side ≡ true) lot [] refl (All-nil (λ lot. is_wanted lot.side ≡ true));
      apart = apart_more lots lot apart (unused_apart lots label p2.value p2.first);
      slots = λ e. absurd (false≢true e);
    })

-- ---- copies

abbrev pub behind_copy : DriverConfig → ChanNo → List Owner → List Span → Result (List Lot) Refusal
behind_copy f chan owners ranges =
    owned_from f.me source 0 owners ranges >>= λ _. lendable f.effects ToDev >>= λ _. lendable f.effects FromDev >>= λ _. placeable f (ends_of f chan ranges)

two_apart : (lots : List Lot) (s t : Lot) → s.id ≡ source → t.id ≡ target → AreApart lots → All IsSettled lots → AreApart (lots ++ s ∷ t ∷ [])
two_apart lots s t es et apart settled =
    let first = apart_more lots s apart (subst (λ (i : LotId). All (HasNo i) lots) (sym es) (settled_apart 0 lots settled)) in
    let apart_two : HasNo target s = subst (λ (i : LotId). ((i.label.0 == 1000) && (i.first == 1)) ≡ false) (sym es) refl in
    let none = joined_none lots s (settled_apart 1 lots settled) apart_two in
    subst (λ (ls : List Lot). AreApart ls) (append_assoc lots (s ∷ []) (t ∷ []))
    (apart_more (lots ++ s ∷ []) t first (subst (λ (i : LotId). All (HasNo i) (lots ++ s ∷ [])) (sym et) none))
  where
    joined_none : (lots : List Lot) (s : Lot) → All (HasNo target) lots → HasNo target s → All (HasNo target) (lots ++ s ∷ [])
    joined_none [] s all h = All-cons (HasNo target) s [] h (All-nil (HasNo target))
    joined_none (x ∷ lots) s all h = All-cons (HasNo target) x (lots ++ s ∷ []) (All-head (HasNo target) x lots all) (joined_none lots s (All-tail (HasNo target) x lots all) h)

end_in : (ram : ℕ) (f : DriverConfig) (first : ℕ) (dir : Dir) (chan : ChanNo) (range : Span) → first < 2 → IsRangeIn ram range → chan.0 < 4
    → has_big (ranges_lot f (lot_id (record { 0 = 1000 }) first) kinds.Copy dir chan (range ∷ [])) ≡ false → IsLotIn ram f (ranges_lot f (lot_id (record { 0 = 1000 }) first) kinds.Copy dir chan (range ∷ []))
end_in ram f first dir chan range lt h k small =
    lot_in ram f (lot_id (record { 0 = 1000 }) first) kinds.Copy dir chan (range ∷ []) (All-cons (IsRangeIn ram) range [] h (All-nil (IsRangeIn ram))) (omega arith) k refl small
    (λ xs same. (record { label = refl; first = lt }, same))

copy_new : (ram harts : ℕ) (f : DriverConfig) (lots : List Lot) (src dst : SgEntry) (chan : ChanNo) (owners : List Owner) (o : Op) (new : List Lot) → IsFixed ram harts f → All IsSettled lots → AreApart lots
    → FitsEntry (length f.buffers) src → FitsEntry (length f.buffers) dst → chan.0 < 4 → source ∷ target ∷ [] ≡ made_names o → copy_begin f src dst chan owners ≡ Ok new → AreNew ram f o lots new
copy_new ram harts f lots src dst chan owners o new h settled apart fs fd lt names e =
    let p1 = passed (all_some (src ∷ dst ∷ [])) (λ _. ranges_of f (src ∷ dst ∷ []) >>= λ ranges. behind_copy f chan owners ranges) new e in
    let p2 = passed (ranges_of f (src ∷ dst ∷ [])) (λ ranges. behind_copy f chan owners ranges) new p1.rest in
    let p3 = passed (owned_from f.me source 0 owners p2.value) (λ _. lendable f.effects ToDev >>= λ _. lendable f.effects FromDev >>= λ _. placeable f (ends_of f chan p2.value)) new p2.rest in
    let p4 = passed (lendable f.effects ToDev) (λ _. lendable f.effects FromDev >>= λ _. placeable f (ends_of f chan p2.value)) new p3.rest in
    let p5 = passed (lendable f.effects FromDev) (λ _. placeable f (ends_of f chan p2.value)) new p4.rest in
    let there = placeable_is f (ends_of f chan p2.value) new p5.rest in
    let fits = All-cons (FitsEntry (length f.buffers)) src (dst ∷ []) fs (All-cons (FitsEntry (length f.buffers)) dst [] fd (All-nil (FitsEntry (length f.buffers)))) in
    let ranges = ranges_in ram f (src ∷ dst ∷ []) p2.value p1.value (laid ram harts f h) fits p1.first p2.first in
    let two : length p2.value ≡ 2 = ranges.count in
    let s = ranges_lot f source kinds.Copy ToDev chan (slice_index_or p2.value 0 no_span ∷ []) in
    let t = ranges_lot f target kinds.Copy FromDev chan (slice_index_or p2.value 1 no_span ∷ []) in
    let small_s = All-head (λ lot. has_big lot ≡ false) s (t ∷ []) there.small in
    let small_t = All-head (λ lot. has_big lot ≡ false) t [] (All-tail (λ lot. has_big lot ≡ false) s (t ∷ []) there.small) in
    let is_s = end_in ram f 0 ToDev chan (slice_index_or p2.value 0 no_span) (omega arith) (ranges.all 0 no_span (omega (arith, two))) lt small_s in
    let is_t = end_in ram f 1 FromDev chan (slice_index_or p2.value 1 no_span) (omega arith) (ranges.all 1 no_span (omega (arith, two))) lt small_t in
    subst (λ (ls : List Lot). AreNew ram f o lots ls) there.same (record {
      each = All-cons (IsLotIn ram f) s (t ∷ []) is_s (All-cons (IsLotIn ram f) t [] is_t (All-nil (IsLotIn ram f)));
      names = names;
      wanted = All-cons (λ lot. is_wanted lot.side ≡ true) s (t ∷ []) refl (All-cons (λ lot. is_wanted lot.side ≡ true) t [] refl (All-nil (λ lot. is_wanted lot.side ≡ true)));
      apart = two_apart lots s t refl refl apart settled;
      slots = there.slots;
    })

-- ---- the others make none

none_new : (ram : ℕ) (f : DriverConfig) (o : Op) (lots new : List Lot) → [] ≡ made_names o → AreApart lots → [] ≡ new → AreNew ram f o lots new
none_new ram f o lots new names apart none = subst (λ (ls : List Lot). AreNew ram f o lots ls) none (record {
  each = All-nil (IsLotIn ram f);
  names = names;
  wanted = All-nil (λ lot. is_wanted lot.side ≡ true);
  apart = subst (λ (ls : List Lot). AreApart ls) (sym (append-nil lots)) apart;
  slots = λ e. absurd (false≢true e);
})

pub behind_test : {A : Type 0} (r : Result A Refusal) (new : List Lot) → (r >>= λ _. Ok []) ≡ Ok new → [] ≡ new
behind_test r new e = let p = passed r (λ _. Ok []) new e in cc (p.rest)

pub sg_none : (lots new : List Lot) (label : Label) (count : ℕ) → unmap_sg_begin lots label count ≡ Ok new → [] ≡ new
sg_none lots new label count e =
    let p = passed (named lots label kinds.List) (λ lot. wanted (refusals.BadCount (length lot.list.entries)) (length lot.list.entries == count) >>= λ _. Ok []) new e in
    behind_test (wanted (refusals.BadCount (length p.value.list.entries)) (length p.value.list.entries == count)) new p.rest

pub free_none : (f : DriverConfig) (lots new : List Lot) (label : Label) (owners : List Owner) → cfree_begin f lots label owners ≡ Ok new → [] ≡ new
free_none f lots new label owners e =
    let p = passed (named lots label kinds.Area) (λ lot. owned f.me owners (only_entry lot).span >>= λ _. Ok []) new e in
    behind_test (owned f.me owners (only_entry p.value).span) new p.rest

one_kind : (f : DriverConfig) (label : Label) → FitsLabel label → (xs : List Entry) → length xs ≡ 1 → FitsKind f.pool kinds.Single (lot_id label 0) xs
one_kind f label fits xs one = (record { label = fits; first = refl }, one)

list_kind : (f : DriverConfig) (label : Label) (n : ℕ) → FitsLabel label → 0 < n → (xs : List Entry) → length xs ≡ n → FitsKind f.pool kinds.List (lot_id label 0) xs
list_kind f label n fits some xs same = (record { label = fits; first = refl }, omega (arith, some, same))

one_fits : (buffers : ℕ) (e : SgEntry) → FitsEntry buffers e → All (FitsEntry buffers) (e ∷ [])
one_fits buffers e h = All-cons (FitsEntry buffers) e [] h (All-nil (FitsEntry buffers))

list_new : (ram harts : ℕ) (f : DriverConfig) (lots : List Lot) (label : Label) (entries : List SgEntry) (dir : Dir) (chan : ChanNo) (owners : List Owner) (new : List Lot) → IsFixed ram harts f → AreApart lots
    → FitsLabel label → length entries ≤ 16 → All (FitsEntry (length f.buffers)) entries → chan.0 < 4 → map_sg_begin f lots label entries dir chan owners ≡ Ok new → AreNew ram f (ops.MapSg label entries dir chan) lots new
list_new ram harts f lots label entries dir chan owners new h apart fits few each lt e =
    let p = passed (some_entries entries) (λ _. ranges_begin f lots label kinds.List dir chan owners entries) new e in
    ranges_new ram harts f lots label kinds.List dir chan owners entries (ops.MapSg label entries dir chan) new h apart each few lt refl (list_kind f label (length entries) fits (some_len (length entries) p.value p.first)) refl p.rest

pub new_is : (ram harts : ℕ) (f : DriverConfig) (lots new : List Lot) (owners : List Owner) (pool : PageMap) (o : Op) → IsFixed ram harts f → All IsSettled lots → AreApart lots → ArePagesOf f pool → FitsOp harts (length f.buffers) o
    → begin f lots owners pool o ≡ Ok new → AreNew ram f o lots new
unfolding begin meaning accesses.load accesses.store cache_ops.cache_operation cache_ops.fence handing.take handing.hand channels.claim channels.free channels.set_up channels.run channels.poll channels.read_register channels.write_register mappings.map_single mappings.unmap_single mappings.sync_for_cpu mappings.sync_for_device lists.map_sg lists.unmap_sg areas.calloc areas.give_area areas.take_area areas.free_area copies.copy
new_is ram harts f lots new owners pool (ops.Map label buf off len dir chan) h settled apart of fits e =
    let entry : SgEntry = record { buf = buf; off = off; len = len } in
    ranges_new ram harts f lots label kinds.Single dir chan owners (record { buf = buf; off = off; len = len } ∷ []) (ops.Map label buf off len dir chan) new h apart
    (one_fits (length f.buffers) entry (record { buffer = fits.1; off = fits.2; len = fits.3 })) (omega arith) fits.4 refl (one_kind f label fits.0) refl e
new_is ram harts f lots new owners pool (ops.MapSg label entries dir chan) h settled apart of fits e = list_new ram harts f lots label entries dir chan owners new h apart fits.0 fits.1 fits.2 fits.3 e
new_is ram harts f lots new owners pool (ops.Calloc label pages chan) h settled apart of fits e = calloc_new ram harts f lots label pages chan pool new h apart of fits.0 fits.2 e
new_is ram harts f lots new owners pool (ops.Copy chan src src_off dst dst_off len cfg) h settled apart of fits e =
    copy_new ram harts f lots (record { buf = src; off = src_off; len = len }) (record { buf = dst; off = dst_off; len = len }) chan owners (ops.Copy chan src src_off dst dst_off len cfg) new h settled apart
    (record { buffer = fits.1; off = fits.2; len = fits.5 }) (record { buffer = fits.3; off = fits.4; len = fits.5 }) fits.0 refl e
new_is ram harts f lots new owners pool (ops.Unmap label) h settled apart of fits e = none_new ram f (ops.Unmap label) lots new refl apart (behind_test (named lots label kinds.Single) new e)
new_is ram harts f lots new owners pool (ops.ToCpu label) h settled apart of fits e = none_new ram f (ops.ToCpu label) lots new refl apart (behind_test (named lots label kinds.Single) new e)
new_is ram harts f lots new owners pool (ops.ToDev label) h settled apart of fits e = none_new ram f (ops.ToDev label) lots new refl apart (behind_test (named lots label kinds.Single) new e)
new_is ram harts f lots new owners pool (ops.UnmapSg label count) h settled apart of fits e = none_new ram f (ops.UnmapSg label count) lots new refl apart (sg_none lots new label count e)
new_is ram harts f lots new owners pool (ops.Cgive label) h settled apart of fits e = none_new ram f (ops.Cgive label) lots new refl apart (behind_test (named lots label kinds.Area) new e)
new_is ram harts f lots new owners pool (ops.Ctake label) h settled apart of fits e = none_new ram f (ops.Ctake label) lots new refl apart (behind_test (named lots label kinds.Area) new e)
new_is ram harts f lots new owners pool (ops.Cfree label) h settled apart of fits e = none_new ram f (ops.Cfree label) lots new refl apart (free_none f lots new label owners e)
new_is ram harts f lots new owners pool (ops.Hand buf to) h settled apart of fits e = none_new ram f (ops.Hand buf to) lots new refl apart (behind_test (owned f.me owners (buffer_of f buf)) new e)
new_is ram harts f lots new owners pool (ops.Ld spot off len) h settled apart of fits e = none_new ram f (ops.Ld spot off len) lots new refl apart (cc)
new_is ram harts f lots new owners pool (ops.St spot off bytes) h settled apart of fits e = none_new ram f (ops.St spot off bytes) lots new refl apart (cc)
new_is ram harts f lots new owners pool (ops.Cbo op buf off) h settled apart of fits e = none_new ram f (ops.Cbo op buf off) lots new refl apart (cc)
new_is ram harts f lots new owners pool (ops.Fence pred succ) h settled apart of fits e = none_new ram f (ops.Fence pred succ) lots new refl apart (cc)
new_is ram harts f lots new owners pool (ops.Take buf) h settled apart of fits e = none_new ram f (ops.Take buf) lots new refl apart (cc)
new_is ram harts f lots new owners pool (ops.Claim chan) h settled apart of fits e = none_new ram f (ops.Claim chan) lots new refl apart (cc)
new_is ram harts f lots new owners pool (ops.Free chan) h settled apart of fits e = none_new ram f (ops.Free chan) lots new refl apart (cc)
new_is ram harts f lots new owners pool (ops.Regs chan src dst len cfg) h settled apart of fits e = none_new ram f (ops.Regs chan src dst len cfg) lots new refl apart (cc)
new_is ram harts f lots new owners pool (ops.Run chan) h settled apart of fits e = none_new ram f (ops.Run chan) lots new refl apart (cc)
new_is ram harts f lots new owners pool (ops.Poll chan) h settled apart of fits e = none_new ram f (ops.Poll chan) lots new refl apart (cc)
new_is ram harts f lots new owners pool (ops.Regr chan off width) h settled apart of fits e = none_new ram f (ops.Regr chan off width) lots new refl apart (cc)
new_is ram harts f lots new owners pool (ops.Regw chan off width value) h settled apart of fits e = none_new ram f (ops.Regw chan off width value) lots new refl apart (cc)
