-- The lots that a start step makes are of bytes of the hart's own, or of free pages.
use Rattle.std.proofs.Common.{◌≡◌, ℕ, suc, ◌+◌, ◌*◌, ◌≤◌, Bool, true, false, List, [], ◌∷◌, length, map, flat_map, refl, sym, ap, ◌∙◌, subst, arith, cond, inl, inr, Option, Some, None, Ok}
use Rattle.std.specs.Prelude.{All, replicate, not, ◌==◌, slice_index_or, slice_range}
use Rattle.std.specs.List.{list_all}
use Rattle.std.proofs.lemmas.Bool.{and_parts, false≢true, cases_lt}
use Rattle.std.proofs.lemmas.List.{get_or_past, append-nil, length-take, length-drop}
use Rattle.std.proofs.lemmas.List.Elements.{All-nil, All-cons}
use Rattle.nc_num.specs.Places.{covers}
use Rattle.nc_num.specs.declared.names.ChanNo.{ChanNo}
use Rattle.nc_num.specs.declared.names.Dir.{Dir}
use Rattle.nc_num.specs.declared.names.Dir.TheVariants.{ToDev, FromDev}
use Rattle.nc_num.specs.declared.names.HartNo.{HartNo}
use Rattle.nc_num.specs.declared.names.Label.{Label}
use Rattle.nc_num.specs.declared.names.MapId.{MapId}
use Rattle.nc_num.specs.declared.places.Span.{Span}
use Rattle.nc_model.specs.Rights.{is_thread}
use Rattle.nc_model.specs.Touches.{first_fault}
use Rattle.nc_model.specs.declared.owners.Owner.{Owner}
use Rattle.nc_model.specs.declared.owners.Owner.TheVariants as holders
use Rattle.nc_model.proofs.Faults.{passes}
use Rattle.nc_own.specs.Books.{owner_in, transferred}
use Rattle.nc_own.proofs.Follows.{length-transferred, owner_in-transferred}
use Rattle.nc_plan.specs.Effects.{both}
use Rattle.nc_plan.specs.Effects as effects
use Rattle.nc_coherent.specs.Pages.{PageMap, lowest_span, pages_of, first_page, page_count}
use Rattle.nc_sg.specs.declared.list.Entry.{Entry}
use Rattle.nc_sg.specs.Lists.{fresh}
use Rattle.nc_ops.specs.declared.ops.Op.TheVariants as ops
use Rattle.nc_ops.specs.declared.ops.SgEntry.{SgEntry}
use Rattle.nc_rules.specs.declared.answers.Refusal.TheVariants as refusals
use Rattle.nc_rules.specs.declared.lots.Kind.{Kind}
use Rattle.nc_rules.specs.declared.lots.Kind.TheVariants as kinds
use Rattle.nc_rules.specs.declared.lots.Lot.{Lot}
use Rattle.nc_rules.specs.declared.lots.LotId.{LotId}
use Rattle.nc_rules.specs.Lots.{DriverConfig, lot_id, map_id, reach_of, ranges_lot, area_lot}
use Rattle.nc_rules.specs.Refusals.{◌>>=◌, wanted, some_or, buffer_of, part_of, all_some, ranges_of, unused, named, owned, owned_but, owned_from, planned, lendable, placeable}
use Rattle.nc_rules.specs.Turns.{is_area}
use Rattle.nc_rules.specs.Mappings as mappings
use Rattle.nc_rules.specs.ScatterLists as lists
use Rattle.nc_rules.specs.ScatterLists.{some_entries, unmap_sg_begin}
use Rattle.nc_rules.specs.Areas as areas
use Rattle.nc_rules.specs.Areas.{calloc_begin, cfree_begin}
use Rattle.nc_rules.specs.Copies as copies
use Rattle.nc_rules.specs.Copies.{source, target, ends_of, no_span, copy_begin}
use Rattle.nc_rules.specs.Handing as handing
use Rattle.nc_rules.specs.Accesses as accesses
use Rattle.nc_rules.specs.CacheOps as cache_ops
use Rattle.nc_rules.specs.Channels as channels
use Rattle.nc_rules.specs.Operations.{meaning, begin}
use Rattle.nc_scripts.specs.NewLots.{IsOwned, AreDisjoint, AreOwned, own_ranges, HasFreePages, AreFree, NewLotsAreFree}
use Rattle.nc_scripts.proofs.DriverSteps.{passed}
use Rattle.nc_scripts.proofs.NewLots.{ranges_begin, behind_ranges, behind_copy, area_is, placeable_is, IsRun, run_is, some_is, some_len, behind_test, sg_none, free_none}

-- ---- owners

no_fault : (owners : List Owner) (o : Option ℕ) (u : Unit {0}) → owned_but owners o ≡ Ok u → o ≡ None
no_fault owners None u e = refl
no_fault owners (Some x) u e = absurd (cc)

range_owned : (me : HartNo) (owners : List Owner) (range : Span) (u : Unit {0}) → owned me owners range ≡ Ok u → IsOwned me owners range
range_owned me owners range u e x covered = passes (λ y. is_thread me (owner_in owners y)) range x (no_fault owners (first_fault (λ y. is_thread me (owner_in owners y)) range) u e) covered

-- what is still the hart's own behind a lending was its own before it, and is not lent
lent_by : (me : HartNo) (m : MapId) (o : Owner) (t : Bool) → is_thread me (cond t (holders.Lending m) o) ≡ true → (t ≡ false) × (is_thread me o ≡ true)
lent_by me m o true e = absurd (false≢true e)
lent_by me m o false e = (refl, e)

past_by : (owners : List Owner) (x : ℕ) → length owners ≤ x → owner_in owners x ≡ holders.Pool
unfolding owner_in
past_by owners x le = get_or_past owners x holders.Pool le

before : (me : HartNo) (owners : List Owner) (range : Span) (m : MapId) (x : ℕ) → is_thread me (owner_in (transferred owners range (holders.Lending m)) x) ≡ true → (covers range x ≡ false) × (is_thread me (owner_in owners x) ≡ true)
before me owners range m x e = elim (cases_lt x (length owners)) [
  | inl lt ↦ lent_by me m (owner_in owners x) (covers range x) (rw (owner_in-transferred owners range (holders.Lending m) x lt) at e)
  | inr past ↦ absurd (false≢true (rw (past_by (transferred owners range (holders.Lending m)) x (omega (arith, length-transferred owners range (holders.Lending m), past))) at e))
]

owned_before : (me : HartNo) (owners : List Owner) (range : Span) (m : MapId) (rs : List Span) → AreOwned me (transferred owners range (holders.Lending m)) rs → AreOwned me owners rs
owned_before me owners range m [] h = tt
owned_before me owners range m (r ∷ rs) h = ((λ x c. (before me owners range m x (h.0 x c)).1), h.1, owned_before me owners range m rs h.2)

apart_before : (me : HartNo) (owners : List Owner) (range : Span) (m : MapId) (rs : List Span) → AreOwned me (transferred owners range (holders.Lending m)) rs → All (AreDisjoint range) rs
apart_before me owners range m [] h = All-nil (AreDisjoint range)
apart_before me owners range m (r ∷ rs) h =
    All-cons (AreDisjoint range) r rs (λ x in_range in_r. false≢true (sym (before me owners range m x (h.0 x in_r)).0 ∙ in_range)) (apart_before me owners range m rs h.2)

ranges_owned : (me : HartNo) (id : LotId) (i : ℕ) (owners : List Owner) (rs : List Span) (u : Unit {0}) → owned_from me id i owners rs ≡ Ok u → AreOwned me owners rs
ranges_owned me id i owners [] u e = tt
ranges_owned me id i owners (r ∷ rs) u e =
    let p = passed (owned me owners r) (λ _. owned_from me id (i + 1) (transferred owners r (holders.Lending (map_id me id i))) rs) u e in
    let more = ranges_owned me id (i + 1) (transferred owners r (holders.Lending (map_id me id i))) rs u p.rest in
    (range_owned me owners r p.value p.first, apart_before me owners r (map_id me id i) rs more, owned_before me owners r (map_id me id i) rs more)

-- ---- lots

spans_back : (dir : Dir) (size reach : ℕ) (rs : List Span) → map (λ (e : Entry). e.span) (map (fresh dir size reach) rs) ≡ rs
spans_back dir size reach [] = refl
spans_back dir size reach (r ∷ rs) = ap (λ (ss : List Span). r ∷ ss) (spans_back dir size reach rs)

no_pages : (pool : PageMap) (lot : Lot) → is_area lot.kind ≡ false → HasFreePages pool lot
no_pages pool lot off e = absurd (false≢true (sym off ∙ e))

own_by : (f : DriverConfig) (id : LotId) (kind : Kind) (dir : Dir) (chan : ChanNo) (rs : List Span) → is_area kind ≡ false → own_ranges (ranges_lot f id kind dir chan rs) ≡ rs
own_by f id kind dir chan rs off = rw off (spans_back dir f.size (reach_of f chan) rs)

ranges_free : (f : DriverConfig) (lots : List Lot) (label : Label) (kind : Kind) (dir : Dir) (chan : ChanNo) (owners : List Owner) (pool : PageMap) (es : List SgEntry) (new : List Lot) → is_area kind ≡ false
    → ranges_begin f lots label kind dir chan owners es ≡ Ok new → AreFree f.me owners pool new
ranges_free f lots label kind dir chan owners pool es new off e =
    let p1 = passed (all_some es) (λ _. ranges_of f es >>= λ ranges. behind_ranges f lots label kind dir chan owners ranges) new e in
    let p2 = passed (ranges_of f es) (λ ranges. behind_ranges f lots label kind dir chan owners ranges) new p1.rest in
    let lot = ranges_lot f (lot_id label 0) kind dir chan p2.value in
    let p3 = passed (unused lots label) (λ _. owned_from f.me (lot_id label 0) 0 owners p2.value >>= λ _. lendable f.effects dir >>= λ _. placeable f (lot ∷ [])) new p2.rest in
    let p4 = passed (owned_from f.me (lot_id label 0) 0 owners p2.value) (λ _. lendable f.effects dir >>= λ _. placeable f (lot ∷ [])) new p3.rest in
    let p5 = passed (lendable f.effects dir) (λ _. placeable f (lot ∷ [])) new p4.rest in
    let there = placeable_is f (lot ∷ []) new p5.rest in
    let spans : flat_map own_ranges (lot ∷ []) ≡ p2.value = append-nil (own_ranges lot) ∙ own_by f (lot_id label 0) kind dir chan p2.value off in
    subst (λ (ls : List Lot). AreFree f.me owners pool ls) there.same (record {
      owned = subst (λ (ss : List Span). AreOwned f.me owners ss) (sym spans) (ranges_owned f.me (lot_id label 0) 0 owners p2.value p4.value p4.first);
      pages = All-cons (HasFreePages pool) lot [] (no_pages pool lot off) (All-nil (HasFreePages pool));
    })

two_spans : (rs : List Span) → length rs ≡ 2 → slice_index_or rs 0 no_span ∷ slice_index_or rs 1 no_span ∷ [] ≡ rs
two_spans [] e = absurd (omega arith)
two_spans (r ∷ []) e = absurd (omega arith)
two_spans (r ∷ s ∷ []) e = refl
two_spans (r ∷ s ∷ t ∷ rs) e = absurd (omega arith)

ranges_count : (f : DriverConfig) (es : List SgEntry) (rs : List Span) → ranges_of f es ≡ Ok rs → length rs ≡ length es
ranges_count f [] rs e = let none : [] ≡ rs = cc in ap length (sym none)
ranges_count f (x ∷ es) rs e =
    let q = passed (part_of (buffer_of f x.buf) x.off x.len) (λ range. ranges_of f es >>= λ ranges. Ok (range ∷ ranges)) rs e in
    let r = passed (ranges_of f es) (λ ranges. Ok (q.value ∷ ranges)) rs q.rest in
    let same : q.value ∷ r.value ≡ rs = cc (r.rest) in
    ap length (sym same) ∙ ap suc (ranges_count f es r.value r.first)

copy_free : (f : DriverConfig) (src dst : SgEntry) (chan : ChanNo) (owners : List Owner) (pool : PageMap) (new : List Lot) → copy_begin f src dst chan owners ≡ Ok new → AreFree f.me owners pool new
copy_free f src dst chan owners pool new e =
    let p1 = passed (all_some (src ∷ dst ∷ [])) (λ _. ranges_of f (src ∷ dst ∷ []) >>= λ ranges. behind_copy f chan owners ranges) new e in
    let p2 = passed (ranges_of f (src ∷ dst ∷ [])) (λ ranges. behind_copy f chan owners ranges) new p1.rest in
    let p3 = passed (owned_from f.me source 0 owners p2.value) (λ _. lendable f.effects ToDev >>= λ _. lendable f.effects FromDev >>= λ _. placeable f (ends_of f chan p2.value)) new p2.rest in
    let p4 = passed (lendable f.effects ToDev) (λ _. lendable f.effects FromDev >>= λ _. placeable f (ends_of f chan p2.value)) new p3.rest in
    let p5 = passed (lendable f.effects FromDev) (λ _. placeable f (ends_of f chan p2.value)) new p4.rest in
    let there = placeable_is f (ends_of f chan p2.value) new p5.rest in
    let s = ranges_lot f source kinds.Copy ToDev chan (slice_index_or p2.value 0 no_span ∷ []) in
    let t = ranges_lot f target kinds.Copy FromDev chan (slice_index_or p2.value 1 no_span ∷ []) in
    let spans : flat_map own_ranges (ends_of f chan p2.value) ≡ p2.value = two_spans p2.value (ranges_count f (src ∷ dst ∷ []) p2.value p2.first) in
    subst (λ (ls : List Lot). AreFree f.me owners pool ls) there.same (record {
      owned = subst (λ (ss : List Span). AreOwned f.me owners ss) (sym spans) (ranges_owned f.me source 0 owners p2.value p3.value p3.first);
      pages = All-cons (HasFreePages pool) s (t ∷ []) (no_pages pool s refl) (All-cons (HasFreePages pool) t [] (no_pages pool t refl) (All-nil (HasFreePages pool)));
    })

-- ---- areas

all_true : (xs : List Bool) → list_all (λ b. b) xs ≡ true → xs ≡ replicate (length xs) true
all_true [] e = refl
all_true (x ∷ xs) e =
    let p = and_parts x (list_all (λ b. b) xs) e in
    λ i. p.0 i ∷ all_true xs p.1 i

-- a range of a list is as long as it says, where the list is long enough
range_long : (xs : List Bool) (p n : ℕ) → p + n ≤ length xs → length (slice_range xs p (p + n)) ≡ n
range_long xs p n le = grind (arith, length-take, length-drop)

run_pages : (pool : PageMap) (n : ℕ) (span : Span) → IsRun pool n span → pages_of pool span ≡ replicate (page_count span) true
run_pages pool n span run =
    let at : pool.at + 4096 * run.page ≡ span.at = ap (λ (s : Span). s.at) run.is in
    let len : 4096 * n ≡ span.len = ap (λ (s : Span). s.len) run.is in
    let first : run.page ≡ first_page pool span = omega (arith, at) in
    let count : n ≡ page_count span = omega (arith, len) in
    let long : length (slice_range pool.free run.page (run.page + n)) ≡ n = range_long pool.free run.page n run.ends in
    let here : slice_range pool.free run.page (run.page + n) ≡ replicate n true = all_true (slice_range pool.free run.page (run.page + n)) run.free ∙ ap (λ k. replicate k true) long in
    subst (λ (k : ℕ). slice_range pool.free k (k + page_count span) ≡ replicate (page_count span) true) first
    (subst (λ (k : ℕ). slice_range pool.free run.page (run.page + k) ≡ replicate k true) count here)

calloc_free : (f : DriverConfig) (lots : List Lot) (label : Label) (count : ℕ) (chan : ChanNo) (owners : List Owner) (pool : PageMap) (new : List Lot) → calloc_begin f lots label count chan pool ≡ Ok new → AreFree f.me owners pool new
calloc_free f lots label count chan owners pool new e =
    let p1 = passed (wanted refusals.Empty (not (count == 0))) (λ _. unused lots label >>= λ _. wanted refusals.NoPbmt f.pbmte >>= λ _. planned (both (effects.legal f.effects.zero) (effects.legal f.effects.flush)) >>= λ _. area_is f label chan (lowest_span pool count)) new e in
    let p2 = passed (unused lots label) (λ _. wanted refusals.NoPbmt f.pbmte >>= λ _. planned (both (effects.legal f.effects.zero) (effects.legal f.effects.flush)) >>= λ _. area_is f label chan (lowest_span pool count)) new p1.rest in
    let p3 = passed (wanted refusals.NoPbmt f.pbmte) (λ _. planned (both (effects.legal f.effects.zero) (effects.legal f.effects.flush)) >>= λ _. area_is f label chan (lowest_span pool count)) new p2.rest in
    let p4 = passed (planned (both (effects.legal f.effects.zero) (effects.legal f.effects.flush))) (λ _. area_is f label chan (lowest_span pool count)) new p3.rest in
    let p5 = passed (some_or refusals.NoPage (lowest_span pool count)) (λ span. Ok (area_lot (lot_id label 0) chan span ∷ [])) new p4.rest in
    let run = run_is pool count p5.value (some_len count p1.value p1.first) (some_is refusals.NoPage (lowest_span pool count) p5.value p5.first) in
    let lot = area_lot (lot_id label 0) chan p5.value in
    let same : lot ∷ [] ≡ new = cc (p5.rest) in
    subst (λ (ls : List Lot). AreFree f.me owners pool ls) same (record {
      owned = tt;
      pages = All-cons (HasFreePages pool) lot [] (λ e. run_pages pool count p5.value run) (All-nil (HasFreePages pool));
    })

-- ---- every operation

none_free : (me : HartNo) (owners : List Owner) (pool : PageMap) (new : List Lot) → [] ≡ new → AreFree me owners pool new
none_free me owners pool new none = subst (λ (ls : List Lot). AreFree me owners pool ls) none (record { owned = tt; pages = All-nil (HasFreePages pool) })

list_free : (f : DriverConfig) (lots : List Lot) (label : Label) (entries : List SgEntry) (dir : Dir) (chan : ChanNo) (owners : List Owner) (pool : PageMap) (new : List Lot) → lists.map_sg_begin f lots label entries dir chan owners ≡ Ok new → AreFree f.me owners pool new
list_free f lots label entries dir chan owners pool new e =
    let p = passed (some_entries entries) (λ _. ranges_begin f lots label kinds.List dir chan owners entries) new e in
    ranges_free f lots label kinds.List dir chan owners pool entries new refl p.rest

pub new_lots_are_free : NewLotsAreFree
unfolding begin meaning accesses.load accesses.store cache_ops.cache_operation cache_ops.fence handing.take handing.hand channels.claim channels.free channels.set_up channels.run channels.poll channels.read_register channels.write_register mappings.map_single mappings.unmap_single mappings.sync_for_cpu mappings.sync_for_device lists.map_sg lists.unmap_sg areas.calloc areas.give_area areas.take_area areas.free_area copies.copy
new_lots_are_free f lots new owners pool (ops.Map label buf off len dir chan) e = ranges_free f lots label kinds.Single dir chan owners pool (record { buf = buf; off = off; len = len } ∷ []) new refl e
new_lots_are_free f lots new owners pool (ops.MapSg label entries dir chan) e = list_free f lots label entries dir chan owners pool new e
new_lots_are_free f lots new owners pool (ops.Calloc label pages chan) e = calloc_free f lots label pages chan owners pool new e
new_lots_are_free f lots new owners pool (ops.Copy chan src src_off dst dst_off len cfg) e =
    copy_free f (record { buf = src; off = src_off; len = len }) (record { buf = dst; off = dst_off; len = len }) chan owners pool new e
new_lots_are_free f lots new owners pool (ops.Unmap label) e = none_free f.me owners pool new (behind_test (named lots label kinds.Single) new e)
new_lots_are_free f lots new owners pool (ops.ToCpu label) e = none_free f.me owners pool new (behind_test (named lots label kinds.Single) new e)
new_lots_are_free f lots new owners pool (ops.ToDev label) e = none_free f.me owners pool new (behind_test (named lots label kinds.Single) new e)
new_lots_are_free f lots new owners pool (ops.UnmapSg label count) e = none_free f.me owners pool new (sg_none lots new label count e)
new_lots_are_free f lots new owners pool (ops.Cgive label) e = none_free f.me owners pool new (behind_test (named lots label kinds.Area) new e)
new_lots_are_free f lots new owners pool (ops.Ctake label) e = none_free f.me owners pool new (behind_test (named lots label kinds.Area) new e)
new_lots_are_free f lots new owners pool (ops.Cfree label) e = none_free f.me owners pool new (free_none f lots new label owners e)
new_lots_are_free f lots new owners pool (ops.Hand buf to) e = none_free f.me owners pool new (behind_test (owned f.me owners (buffer_of f buf)) new e)
new_lots_are_free f lots new owners pool (ops.Ld spot off len) e = none_free f.me owners pool new (cc)
new_lots_are_free f lots new owners pool (ops.St spot off bytes) e = none_free f.me owners pool new (cc)
new_lots_are_free f lots new owners pool (ops.Cbo op buf off) e = none_free f.me owners pool new (cc)
new_lots_are_free f lots new owners pool (ops.Fence pred succ) e = none_free f.me owners pool new (cc)
new_lots_are_free f lots new owners pool (ops.Take buf) e = none_free f.me owners pool new (cc)
new_lots_are_free f lots new owners pool (ops.Claim chan) e = none_free f.me owners pool new (cc)
new_lots_are_free f lots new owners pool (ops.Free chan) e = none_free f.me owners pool new (cc)
new_lots_are_free f lots new owners pool (ops.Regs chan src dst len cfg) e = none_free f.me owners pool new (cc)
new_lots_are_free f lots new owners pool (ops.Run chan) e = none_free f.me owners pool new (cc)
new_lots_are_free f lots new owners pool (ops.Poll chan) e = none_free f.me owners pool new (cc)
new_lots_are_free f lots new owners pool (ops.Regr chan off width) e = none_free f.me owners pool new (cc)
new_lots_are_free f lots new owners pool (ops.Regw chan off width value) e = none_free f.me owners pool new (cc)
