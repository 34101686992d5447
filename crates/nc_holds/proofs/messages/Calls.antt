-- The owner of a byte that is passed stays through the calls of a driver, but for the take of its buffer.
use Rattle.std.specs.Prelude.{All, Option, Some, None, Result, Ok, Err, ◌<◌, ◌≤◌, flat_map, if◌then◌else◌}
use Rattle.std.proofs.Common.{◌≡◌, ℕ, ◌+◌, Bool, true, false, List, [], ◌∷◌, ◌++◌, map, refl, sym, ap, ◌∙◌, arith}
use Rattle.std.proofs.lemmas.Bool.{false≢true}
use Rattle.std.proofs.lemmas.Bool.Decides.{nat_tests}
use Rattle.std.proofs.lemmas.List.Elements.{All-nil, All-cons, All-head, All-tail, All-append}
use Rattle.nc_num.specs.Places.{covers}
use Rattle.nc_num.specs.declared.names.HartNo.{HartNo}
use Rattle.nc_num.specs.declared.places.Span.{Span}
use Rattle.nc_model.proofs.Faults.{covers-low, covers-high}
use Rattle.nc_model.specs.Rights.{is_thread}
use Rattle.nc_model.specs.declared.owners.Owner.{Owner}
use Rattle.nc_model.specs.declared.owners.Owner.TheVariants as owners
use Rattle.nc_own.specs.Books.{owner_in}
use Rattle.nc_coherent.specs.Pages.{PageMap}
use Rattle.nc_sg.specs.declared.list.Entry.{Entry}
use Rattle.nc_ops.specs.declared.ops.Op.{Op}
use Rattle.nc_rules.specs.declared.answers.Refusal.{Refusal}
use Rattle.nc_rules.specs.declared.lots.Kind.{Kind}
use Rattle.nc_rules.specs.declared.lots.Kind.TheVariants as kinds
use Rattle.nc_rules.specs.declared.lots.Lot.{Lot}
use Rattle.nc_rules.specs.declared.lots.LotId.{LotId}
use Rattle.nc_rules.specs.declared.steps.Next.TheVariants as nexts
use Rattle.nc_rules.specs.declared.steps.Step.{Step}
use Rattle.nc_rules.specs.declared.steps.Turn.TheVariants as turns
use Rattle.nc_rules.specs.Lots.{DriverConfig, some_lot_waits}
use Rattle.nc_rules.specs.Refusals.{buffer_of}
use Rattle.nc_rules.specs.Turns.{is_area}
use Rattle.nc_rules.specs.Operations.{step_at, has_start, begin, opening}
use Rattle.nc_rules.specs.Driver.{DriverState, in_hand, next_of, next_of_op, stays, opened, searches, placed, with_lots, begun, refused_step, steps_done, started, started_of}
use Rattle.nc_scripts.specs.Drivers.{IsInPool, FitsKind, IsLotIn, ArePagesOf, IsSettled, IsDriver}
use Rattle.nc_scripts.specs.NewLots.{IsOwned, AreOwned, own_ranges, AreFree}
use Rattle.nc_scripts.proofs.EveryDriver.{IsInHand, in_hand_is}
use Rattle.nc_scripts.proofs.FreeLots.{new_lots_are_free}
use Rattle.nc_scripts.proofs.Lists.{all_to}
use Rattle.nc_scripts.proofs.NewLots.{AreNew, new_is}
use Rattle.nc_holds.specs.Held.{AreRegions, OwnersAgree}
use Rattle.nc_holds.specs.Rests.{RestAgrees}
use Rattle.nc_holds.proofs.messages.Owners.{Spares, IsOff, IsFreeLot, AreOff, turned_off, passing_off}
use Rattle.nc_holds.proofs.tokens.Plans.{NoHand}
use Rattle.nc_holds.proofs.tokens.Calls.{HandsNone, start_at}
use Rattle.nc_holds.proofs.tokens.Copies.{opens_so}

-- a byte of a buffer that is passed
pub record IsPassing (f : DriverConfig) (ws : List Owner) (x : ℕ) : Type 0 where
  pub b : ℕ
  pub inside : covers (buffer_of f b) x ≡ true
  pub from : HartNo
  pub to : HartNo
  pub is : owner_in ws x ≡ owners.Passing from to

not_covered : (t : Bool) → (t ≡ true → ⊥) → t ≡ false
not_covered true h = absurd (h refl)
not_covered false h = refl

-- ---- new lots

in_pool : (pool span : Span) (x : ℕ) → IsInPool pool span → covers span x ≡ true → covers pool x ≡ true
in_pool pool span x h e =
    let low = covers-low span x e in
    let high = covers-high span x e in
    let from : pool.at ≤ x = omega (arith, low, h.starts) in
    let before : x < pool.at + pool.len = omega (arith, high, h.ends) in
    grind (arith, nat_tests)

-- the bytes of an area lie in the pool, and no buffer's do
area_off : (f : DriverConfig) (ws : List Owner) (x : ℕ) (k : Kind) (id : LotId) (es : List Entry) → AreRegions f → IsPassing f ws x → is_area k ≡ true → FitsKind f.pool k id es → All (IsOff x) es
area_off f ws x kinds.Single id es r p e h = absurd (false≢true e)
area_off f ws x kinds.List id es r p e h = absurd (false≢true e)
area_off f ws x kinds.Copy id es r p e h = absurd (false≢true e)
area_off f ws x kinds.Area id es r p e h =
    all_to (λ (e : Entry). IsInPool f.pool e.span) (IsOff x) es h.2 (λ e is. not_covered (covers e.span x) (λ on. r.buffers_off_pool p.b x p.inside (in_pool f.pool e.span x is on)))

pub owned_off : (me : HartNo) (ws : List Owner) (x : ℕ) (from to : HartNo) (span : Span) → owner_in ws x ≡ owners.Passing from to → IsOwned me ws span → covers span x ≡ false
owned_off me ws x from to span is own = not_covered (covers span x) (λ on. false≢true (ap (λ (o : Owner). is_thread me o) (sym is) ∙ own x on))

spans_off : (me : HartNo) (ws : List Owner) (x : ℕ) (from to : HartNo) (es : List Entry) (rs : List Span) → owner_in ws x ≡ owners.Passing from to → AreOwned me ws (map (λ (e : Entry). e.span) es ++ rs) → All (IsOff x) es × AreOwned me ws rs
spans_off me ws x from to [] rs is own = (All-nil (IsOff x), own)
spans_off me ws x from to (e ∷ es) rs is own =
    let more = spans_off me ws x from to es rs is own.2 in
    (All-cons (IsOff x) e es (owned_off me ws x from to e.span is own.0) more.0, more.1)

lot_off : (f : DriverConfig) (ws : List Owner) (x : ℕ) (ram : ℕ) (lot : Lot) (rs : List Span) (t : Bool) → is_area lot.kind ≡ t → AreRegions f → IsPassing f ws x → IsLotIn ram f lot
    → AreOwned f.me ws ((if t then [] else map (λ (e : Entry). e.span) lot.list.entries) ++ rs) → IsFreeLot x lot × AreOwned f.me ws rs
lot_off f ws x ram lot rs true e r p h own = (area_off f ws x lot.kind lot.id lot.list.entries r p e h.kind, own)
lot_off f ws x ram lot rs false e r p h own = spans_off f.me ws x p.from p.to lot.list.entries rs p.is own

all_off : (f : DriverConfig) (ws : List Owner) (x : ℕ) (ram : ℕ) (new : List Lot) → AreRegions f → IsPassing f ws x → All (IsLotIn ram f) new → AreOwned f.me ws (flat_map own_ranges new) → AreOff x new
all_off f ws x ram [] r p all own = All-nil (IsFreeLot x)
all_off f ws x ram (lot ∷ new) r p all own =
    let here = lot_off f ws x ram lot (flat_map own_ranges new) (is_area lot.kind) refl r p (All-head (IsLotIn ram f) lot new all) own in
    All-cons (IsFreeLot x) lot new here.0 (all_off f ws x ram new r p (All-tail (IsLotIn ram f) lot new all) here.1)

-- ---- a start

no_moves : (x : ℕ) → Spares x []
no_moves x = All-nil (λ (u : Span × Owner). covers u.0 x ≡ false)

opened_off : (ram harts : ℕ) (d : DriverState) (o : Op) (lots : List Lot) (x : ℕ) → IsInHand harts d o → has_start o ≡ true → NoHand o → All (IsLotIn ram d.fixed) lots → AreOff x lots → Spares x (opened (with_lots d lots) o).moves.transfers
opened_off ram harts d o lots x k start no_hand all off =
    turned_off x d.fixed lots (opening d.fixed lots o) turns.Stay _ ((opens_so ram harts d.fixed lots o k.fits start all).of_lots no_hand) tt off

placed_by : (ram harts : ℕ) (d : DriverState) (o : Op) (lots : List Lot) (x : ℕ) (t : Bool) → IsInHand harts d o → has_start o ≡ true → NoHand o → All (IsLotIn ram d.fixed) lots → AreOff x lots
    → Spares x (if t then stays (searches (with_lots d lots) 0) else opened (with_lots d lots) o).moves.transfers
placed_by ram harts d o lots x true k start no_hand all off = no_moves x
placed_by ram harts d o lots x false k start no_hand all off = opened_off ram harts d o lots x k start no_hand all off

pub placed_off : (ram harts : ℕ) (d : DriverState) (o : Op) (lots : List Lot) (x : ℕ) → IsInHand harts d o → has_start o ≡ true → NoHand o → All (IsLotIn ram d.fixed) lots → AreOff x lots → Spares x (placed (with_lots d lots) o).moves.transfers
placed_off ram harts d o lots x k start no_hand all off = placed_by ram harts d o lots x (some_lot_waits lots) k start no_hand all off

begun_off : (ram harts : ℕ) (d : DriverState) (ws : List Owner) (pool : PageMap) (o : Op) (r : Result (List Lot) Refusal) (x : ℕ) → IsDriver ram harts d → IsInHand harts d o → has_start o ≡ true → NoHand o
    → ((new : List Lot) → r ≡ Ok new → AreNew ram d.fixed o d.lots new × AreFree d.fixed.me ws pool new) → AreRegions d.fixed → IsPassing d.fixed ws x → AreOff x d.lots → Spares x (begun d o r).moves.transfers
begun_off ram harts d ws pool o (Err r) x h k start no_hand news reg p off = no_moves x
begun_off ram harts d ws pool o (Ok new) x h k start no_hand news reg p off =
    let n = news new refl in
    placed_off ram harts d o (d.lots ++ new) x k start no_hand (All-append (IsLotIn ram d.fixed) d.lots new h.lots n.0.each)
    (All-append (IsFreeLot x) d.lots new off (all_off d.fixed ws x ram new reg p n.0.each n.1.owned))

refused_off : (d : DriverState) (o : Op) (r : Result (Option Step) Refusal) (x : ℕ) → Spares x (refused_step d o r).moves.transfers
refused_off d o (Err r) x = no_moves x
refused_off d o (Ok s) x = no_moves x

started_if : (ram harts : ℕ) (d : DriverState) (ws : List Owner) (pool : PageMap) (o : Op) (t : Bool) (r : Result (Option Step) Refusal) (x : ℕ) → IsDriver ram harts d → All IsSettled d.lots → ArePagesOf d.fixed pool → in_hand d ≡ Some o → has_start o ≡ t → NoHand o
    → AreRegions d.fixed → IsPassing d.fixed ws x → AreOff x d.lots → Spares x (if t then begun d o (begin d.fixed d.lots ws pool o) else refused_step d o r).moves.transfers
started_if ram harts d ws pool o true r x h settled of e start no_hand reg p off =
    let k = in_hand_is ram harts d o h.fixed e in
    begun_off ram harts d ws pool o (begin d.fixed d.lots ws pool o) x h k start no_hand
    (λ new is. (new_is ram harts d.fixed d.lots new ws pool o h.fixed settled h.apart of k.fits is, new_lots_are_free d.fixed d.lots new ws pool o is)) reg p off
started_if ram harts d ws pool o false r x h settled of e start no_hand reg p off = refused_off d o r x

started_by : (ram harts : ℕ) (d : DriverState) (ws : List Owner) (pool : PageMap) (o : Option Op) (x : ℕ) → IsDriver ram harts d → RestAgrees d → ArePagesOf d.fixed pool → in_hand d ≡ o → next_of_op d o ≡ nexts.Start → HandsNone d
    → AreRegions d.fixed → IsPassing d.fixed ws x → AreOff x d.lots → Spares x (started_of d ws pool o).moves.transfers
started_by ram harts d ws pool None x h b of e start none reg p off = no_moves x
started_by ram harts d ws pool (Some o) x h b of e start none reg p off =
    let at = start_at d o d.phase h.phase b.idle start in
    started_if ram harts d ws pool o (has_start o) (step_at d.fixed d.lots o (steps_done d.phase)) x h at.0 of e refl (λ buf to is. none buf to (e ∙ ap (λ (p : Op). Some p) is)) reg p off

pub started_off : (ram harts : ℕ) (d : DriverState) (ws : List Owner) (pool : PageMap) (x : ℕ) → IsDriver ram harts d → RestAgrees d → ArePagesOf d.fixed pool → next_of d ≡ nexts.Start → HandsNone d
    → AreRegions d.fixed → OwnersAgree d.fixed.me ws d.lots → IsPassing d.fixed ws x → Spares x (started d ws pool).moves.transfers
unfolding started next_of
started_off ram harts d ws pool x h b of start none reg agree p =
    started_by ram harts d ws pool (in_hand d) x h b of refl start none reg p (passing_off d.fixed.me ws d.lots x p.from p.to agree p.is)
