-- A call of a driver keeps what is held, and what it moves may be moved.
use Rattle.std.proofs.Common.{◌≡◌, ℕ, List, [], ◌∷◌, refl, sym, ap, ◌∙◌, subst, inl, Option, None}
use Rattle.nc_num.specs.declared.names.HartNo.{HartNo}
use Rattle.nc_model.specs.declared.owners.Grant.{Grant}
use Rattle.nc_coherent.specs.Pages.{PageMap}
use Rattle.nc_rules.specs.declared.lots.Lot.{Lot}
use Rattle.nc_rules.specs.declared.steps.Turn.{Turn}
use Rattle.nc_rules.specs.declared.steps.Turn.TheVariants as turns
use Rattle.nc_rules.specs.Lots.{DriverConfig}
use Rattle.nc_rules.specs.Turns.{Moved, moved, lots_after, lots_after_both, grants_of, backs_of, pages_of, turned, given_up, without_wanted}
use Rattle.nc_rules.specs.World.{owners_moved, grants_added, grants_ended, slots_back, pages_moved}
use Rattle.nc_rules.specs.Driver.{Went}
use Rattle.nc_holds.specs.Held.{Held}
use Rattle.nc_holds.specs.Changes.{Made, Got, Turned, Dropped, changed}
use Rattle.nc_holds.specs.Holds.{CanAddAll, AreBack, MayMovePages}
use Rattle.nc_holds.proofs.words.Lists.{back_join}
use Rattle.nc_holds.proofs.words.Moves.{turned_words, dropped_words}
use Rattle.nc_holds.proofs.calls.Shapes.{MakesTurn, Begins, As, Makes, Gets, Ends, Stays, Drops, Turns, Allocates, Shape, Plainly, ByArea, IsCall}
use Rattle.nc_holds.proofs.events.Given.{OwnerLaws, area_made}
use Rattle.nc_holds.proofs.events.Hart.{Everyone, each_held, IsOneChange, change_stays, area_stays}
use Rattle.nc_holds.proofs.events.Moves.{moved_by, stayed, dropped, both_turned, grants_of_both, pages_of_both, backs_both}

-- what is moved may be moved, where the slot words are these
pub record MayBeMoved (ram : ℕ) (f : DriverConfig) (s : Held) (now : List (Option HartNo)) (moves : Moved) : Type 0 where
  pub grants : CanAddAll ram s.grants moves.grants
  pub backs : AreBack f.me now moves.backs
  pub pages : MayMovePages s.pages moves.pages

-- what is held after a call
unfoldable pub after_call : Held → List (Option HartNo) → Went → Held
after_call s now went = record {
  lots = went.driver.lots;
  owners = owners_moved s.owners went.moves.transfers;
  grants = grants_ended (grants_added s.grants went.moves.grants) went.moves.ended;
  slots = slots_back now went.moves.backs;
  pages = pages_moved s.pages went.moves.pages;
}

-- ---- its beginning

record SharesAll (s m : Held) : Type 0 where
  owners : m.owners ≡ s.owners
  grants : m.grants ≡ s.grants
  pages : m.pages ≡ s.pages

begun_shares : (ram : ℕ) (f : DriverConfig) (s m : Held) → Begins ram f s m → SharesAll s m
begun_shares ram f s m (As e) = record { owners = ap (λ (h : Held). h.owners) e; grants = ap (λ (h : Held). h.grants) e; pages = ap (λ (h : Held). h.pages) e }
begun_shares ram f s m (Makes new making areas none e) = record { owners = ap (λ (h : Held). h.owners) e; grants = ap (λ (h : Held). h.grants) e; pages = ap (λ (h : Held). h.pages) e }
begun_shares ram f s m (Gets k may lt e) = record { owners = ap (λ (h : Held). h.owners) e; grants = ap (λ (h : Held). h.grants) e; pages = ap (λ (h : Held). h.pages) e }

begun_stays : (laws : OwnerLaws) (ram n h : ℕ) (f : DriverConfig) (fixed : ℕ → DriverConfig) (lots : ℕ → List Lot) (s m : Held) → Everyone ram n h f fixed lots s → Begins ram f s m → Everyone ram n h f fixed lots m
begun_stays laws ram n h f fixed lots s m all (As e) = subst (λ (x : Held). Everyone ram n h f fixed lots x) (sym e) all
begun_stays laws ram n h f fixed lots s m all (Makes new making areas none e) =
    subst (λ (x : Held). Everyone ram n h f fixed lots x) (sym e) (change_stays laws ram n h f fixed lots s (Made new) all ((making, areas), making.may, none))
begun_stays laws ram n h f fixed lots s m all (Gets k may lt e) =
    subst (λ (x : Held). Everyone ram n h f fixed lots x) (sym e) (change_stays laws ram n h f fixed lots s (Got k) all ((may.unlent, lt), (may, lt), tt))

-- ---- its end

turn_one : (ram : ℕ) (f : DriverConfig) (m : Held) (t : Turn) → MakesTurn f m t → IsOneChange ram f m (Turned t)
turn_one ram f m t h = ((h.may, h.fits), h.may, tt)

after_went : Held → Went → Held
after_went m went = moved_by m went.driver.lots went.moves

went_by : (m to : Held) (went : Went) (lots : List Lot) (moves : Moved) → went.driver.lots ≡ lots → went.moves ≡ moves → moved_by m lots moves ≡ to → after_went m went ≡ to
unfolding after_went
went_by m to went lots moves el em e = (λ i. moved_by m (el i) (em i)) ∙ e

ends_stay : (laws : OwnerLaws) (ram n h : ℕ) (f : DriverConfig) (fixed : ℕ → DriverConfig) (lots : ℕ → List Lot) (m : Held) (went : Went) → Everyone ram n h f fixed lots m → Ends f m went → Everyone ram n h f fixed lots (after_went m went)
ends_stay laws ram n h f fixed lots m went all (Stays el em) =
    subst (λ (x : Held). Everyone ram n h f fixed lots x) (sym (went_by m m went m.lots (moved [] None) el em (stayed m))) all
ends_stay laws ram n h f fixed lots m went all (Drops a el em) =
    subst (λ (x : Held). Everyone ram n h f fixed lots x) (sym (went_by m (changed f m Dropped) went (without_wanted m.lots) (given_up m.lots a) el em (dropped f m a)))
    (change_stays laws ram n h f fixed lots m Dropped all (tt, tt, tt))
ends_stay laws ram n h f fixed lots m went all (Turns t u a mt mu both el em) =
    let one = change_stays laws ram n h f fixed lots m (Turned t) all (turn_one ram f m t mt) in
    let two = change_stays laws ram n h f fixed lots (changed f m (Turned t)) (Turned u) one (turn_one ram f (changed f m (Turned t)) u mu) in
    subst (λ (x : Held). Everyone ram n h f fixed lots x) (sym (went_by m (changed f (changed f m (Turned t)) (Turned u)) went (lots_after_both t u m.lots) (turned f m.lots t u a) el em (both_turned f m t u a both))) two

-- ---- what its end moves

turn_grants : (laws : OwnerLaws) (ram n h : ℕ) (f : DriverConfig) (fixed : ℕ → DriverConfig) (lots : ℕ → List Lot) (m : Held) (t : Turn) → Everyone ram n h f fixed lots m → MakesTurn f m t → CanAddAll ram m.grants (grants_of f.me f.slots_at m.lots t)
turn_grants laws ram n h f fixed lots m turns.Stay all mt = tt
turn_grants laws ram n h f fixed lots m (turns.Pass range to) all mt = tt
turn_grants laws ram n h f fixed lots m (turns.Own range) all mt = tt
turn_grants laws ram n h f fixed lots m (turns.Lend id) all mt =
    laws.can_add_all ram n f m id all.knows all.mine all.words (each_held ram n h f fixed lots m all) (mt.placed id refl)
turn_grants laws ram n h f fixed lots m (turns.Give id) all mt = tt
turn_grants laws ram n h f fixed lots m (turns.Return id) all mt = tt
turn_grants laws ram n h f fixed lots m (turns.Sync id) all mt = tt
turn_grants laws ram n h f fixed lots m (turns.Settle id) all mt = tt
turn_grants laws ram n h f fixed lots m (turns.End id) all mt = tt

turn_pages : (laws : OwnerLaws) (ram n h : ℕ) (f : DriverConfig) (fixed : ℕ → DriverConfig) (lots : ℕ → List Lot) (m : Held) (t : Turn) → Everyone ram n h f fixed lots m → MakesTurn f m t → MayMovePages m.pages (pages_of m.lots t)
turn_pages laws ram n h f fixed lots m t all mt = laws.may_move_pages ram n f m t all.knows all.mine (mt.may, mt.fits)

ends_move : (laws : OwnerLaws) (ram n h : ℕ) (f : DriverConfig) (fixed : ℕ → DriverConfig) (lots : ℕ → List Lot) (m : Held) (went : Went) → Everyone ram n h f fixed lots m → Ends f m went → MayBeMoved ram f m m.slots went.moves
ends_move laws ram n h f fixed lots m went all (Stays el em) = subst (λ (x : Moved). MayBeMoved ram f m m.slots x) (sym em) (record { grants = tt; backs = tt; pages = tt })
ends_move laws ram n h f fixed lots m went all (Drops a el em) =
    subst (λ (x : Moved). MayBeMoved ram f m m.slots x) (sym em) (record { grants = tt; backs = (dropped_words f.me m.slots m.lots all.words).backs; pages = tt })
ends_move laws ram n h f fixed lots m went all (Turns t u a mt mu both el em) =
    let s = changed f m (Turned t) in
    let one = change_stays laws ram n h f fixed lots m (Turned t) all (turn_one ram f m t mt) in
    subst (λ (x : Moved). MayBeMoved ram f m m.slots x) (sym em) (record {
      grants = grants_of_both ram f m t u a both (turn_grants laws ram n h f fixed lots m t all mt) (turn_grants laws ram n h f fixed lots (changed f m (Turned t)) u one mu);
      backs = subst (λ (ks : List ℕ). AreBack f.me m.slots ks) (sym (backs_both f m.lots t u a))
          (back_join f.me m.slots (backs_of m.lots t) (backs_of (lots_after t m.lots) u) (turned_words f.me m.slots m.lots t all.words).backs (turned_words f.me s.slots s.lots u one.words).backs);
      pages = pages_of_both f m t u a both (turn_pages laws ram n h f fixed lots m t all mt) (turn_pages laws ram n h f fixed lots (changed f m (Turned t)) u one mu);
    })

-- ---- the whole call

same_after : (ram : ℕ) (f : DriverConfig) (s m : Held) (now : List (Option HartNo)) (went : Went) → Begins ram f s m → m.slots ≡ now → after_went m went ≡ after_call s now went
unfolding after_went after_call moved_by
same_after ram f s m now went begins e =
    let k = begun_shares ram f s m begins in
    λ i. record {
      lots = went.driver.lots;
      owners = owners_moved (k.owners i) went.moves.transfers;
      grants = grants_ended (grants_added (k.grants i) went.moves.grants) went.moves.ended;
      slots = slots_back (e i) went.moves.backs;
      pages = pages_moved (k.pages i) went.moves.pages;
    }

same_moves : (ram : ℕ) (f : DriverConfig) (s m : Held) (now : List (Option HartNo)) (moves : Moved) → Begins ram f s m → m.slots ≡ now → MayBeMoved ram f m m.slots moves → MayBeMoved ram f s now moves
same_moves ram f s m now moves begins e h =
    let k = begun_shares ram f s m begins in
    record {
      grants = subst (λ (gs : List Grant). CanAddAll ram gs moves.grants) k.grants h.grants;
      backs = subst (λ (ws : List (Option HartNo)). AreBack f.me ws moves.backs) e h.backs;
      pages = subst (λ (p : PageMap). MayMovePages p moves.pages) k.pages h.pages;
    }

-- an area that is made and lent, at once
area_after : (ram : ℕ) (f : DriverConfig) (s : Held) (now : List (Option HartNo)) (went : Went) (k : Allocates ram f s went) → s.slots ≡ now → after_call s now went ≡ area_made f s k.lot
unfolding after_call moved_by after_went
area_after ram f s now went k e =
    let m = changed f s (Made (k.lot ∷ [])) in
    let is = went_by m (changed f (changed f m (Turned (turns.Lend k.lot.id))) (Turned turns.Stay)) went (lots_after (turns.Lend k.lot.id) m.lots) (turned f m.lots (turns.Lend k.lot.id) turns.Stay k.answer) k.lots k.moves (both_turned f m (turns.Lend k.lot.id) turns.Stay k.answer (inl refl)) in
    sym (same_area e) ∙ is
  where
    same_area : s.slots ≡ now → after_went (changed f s (Made (k.lot ∷ []))) went ≡ after_call s now went
    same_area e = λ i. record {
      lots = went.driver.lots;
      owners = owners_moved s.owners went.moves.transfers;
      grants = grants_ended (grants_added s.grants went.moves.grants) went.moves.ended;
      slots = slots_back (e i) went.moves.backs;
      pages = pages_moved s.pages went.moves.pages;
    }

area_moves : (laws : OwnerLaws) (ram n h : ℕ) (f : DriverConfig) (fixed : ℕ → DriverConfig) (lots : ℕ → List Lot) (s : Held) (went : Went) → Everyone ram n h f fixed lots s → (k : Allocates ram f s went) → MayBeMoved ram f s s.slots went.moves
area_moves laws ram n h f fixed lots s went all k =
    let m = changed f s (Made (k.lot ∷ [])) in
    let lend = turns.Lend k.lot.id in
    subst (λ (x : Moved). MayBeMoved ram f s s.slots x) (sym k.moves) (record {
      grants = grants_of_both ram f m lend turns.Stay k.answer (inl refl) (laws.area_can_add_all ram n f s k.lot all.knows all.mine (each_held ram n h f fixed lots s all) k.making k.area) tt;
      backs = subst (λ (ks : List ℕ). AreBack f.me s.slots ks) (sym (backs_both f m.lots lend turns.Stay k.answer)) tt;
      pages = pages_of_both f m lend turns.Stay k.answer (inl refl) (laws.area_may_move_pages ram n f s k.lot all.knows all.mine k.making k.area) tt;
    })

shape_stays : (laws : OwnerLaws) (ram n h : ℕ) (f : DriverConfig) (fixed : ℕ → DriverConfig) (lots : ℕ → List Lot) (s : Held) (now : List (Option HartNo)) (went : Went) → Everyone ram n h f fixed lots s → Shape ram f s now went → Everyone ram n h f fixed lots (after_call s now went)
shape_stays laws ram n h f fixed lots s now went all (Plainly m begins ends e) =
    subst (λ (x : Held). Everyone ram n h f fixed lots x) (same_after ram f s m now went begins e) (ends_stay laws ram n h f fixed lots m went (begun_stays laws ram n h f fixed lots s m all begins) ends)
shape_stays laws ram n h f fixed lots s now went all (ByArea k e) =
    subst (λ (x : Held). Everyone ram n h f fixed lots x) (sym (area_after ram f s now went k e)) (area_stays laws ram n h f fixed lots s k.lot all k.making k.area k.unplaced)

pub call_stays : (laws : OwnerLaws) (ram n h : ℕ) (f : DriverConfig) (fixed : ℕ → DriverConfig) (lots : ℕ → List Lot) (s : Held) (now : List (Option HartNo)) (went : Went) → Everyone ram n h f fixed lots s → IsCall ram f s now went → Everyone ram n h f fixed lots (after_call s now went)
call_stays laws ram n h f fixed lots s now went all call = shape_stays laws ram n h f fixed lots s now went all call.shape

shape_moves : (laws : OwnerLaws) (ram n h : ℕ) (f : DriverConfig) (fixed : ℕ → DriverConfig) (lots : ℕ → List Lot) (s : Held) (now : List (Option HartNo)) (went : Went) → Everyone ram n h f fixed lots s → Shape ram f s now went → MayBeMoved ram f s now went.moves
shape_moves laws ram n h f fixed lots s now went all (Plainly m begins ends e) =
    same_moves ram f s m now went.moves begins e (ends_move laws ram n h f fixed lots m went (begun_stays laws ram n h f fixed lots s m all begins) ends)
shape_moves laws ram n h f fixed lots s now went all (ByArea k e) = subst (λ (ws : List (Option HartNo)). MayBeMoved ram f s ws went.moves) e (area_moves laws ram n h f fixed lots s went all k)

pub call_moves : (laws : OwnerLaws) (ram n h : ℕ) (f : DriverConfig) (fixed : ℕ → DriverConfig) (lots : ℕ → List Lot) (s : Held) (now : List (Option HartNo)) (went : Went) → Everyone ram n h f fixed lots s → IsCall ram f s now went → MayBeMoved ram f s now went.moves
call_moves laws ram n h f fixed lots s now went all call = shape_moves laws ram n h f fixed lots s now went all call.shape
