-- An opening turn: a lot is lent, or is taken back, with its plan in hand.
use Rattle.std.specs.Prelude.{Option, Some, All, ◌&&◌, not, Bool, true, false, option_map, slice_get}
use Rattle.std.specs.List.{list_any}
use Rattle.std.proofs.Common.{◌≡◌, ◌⊎◌, ℕ, ◌<◌, List, [], ◌∷◌, length, refl, sym, ap, ◌∙◌, inl, inr, subst}
use Rattle.std.proofs.lemmas.Bool.{both_ways, cases_Bool, false_from_ne_true}
use Rattle.nc_num.specs.Memory.{byte}
use Rattle.nc_num.specs.Places.{covers}
use Rattle.nc_num.specs.declared.names.HartNo.{HartNo}
use Rattle.nc_num.specs.declared.names.MapId.{MapId}
use Rattle.nc_num.specs.declared.places.Span.{Span}
use Rattle.nc_model.specs.declared.owners.Owner.{Owner}
use Rattle.nc_model.specs.declared.owners.Owner.TheVariants.{Thread}
use Rattle.nc_own.specs.Books.{owner_in}
use Rattle.nc_scen.specs.Regions.{pool_of, slots_of}
use Rattle.nc_scen.specs.declared.scenario.Scenario.{Scenario}
use Rattle.nc_sg.specs.Lists.{SgView}
use Rattle.nc_sg.specs.declared.list.Entry.{Entry}
use Rattle.nc_ops.specs.declared.ops.Op.{Op}
use Rattle.nc_rules.specs.declared.lots.Lot.{Lot}
use Rattle.nc_rules.specs.declared.lots.LotId.{LotId}
use Rattle.nc_rules.specs.declared.lots.Side.{Side}
use Rattle.nc_rules.specs.declared.lots.Side.TheVariants as sides
use Rattle.nc_rules.specs.declared.steps.Phase.TheVariants.{Work}
use Rattle.nc_rules.specs.declared.steps.Seen.{Seen}
use Rattle.nc_rules.specs.declared.steps.Step.{Step}
use Rattle.nc_rules.specs.Lots.{DriverConfig, is_lot, is_wanted, map_id, owner_of_side}
use Rattle.nc_rules.specs.Machine.{hart_of, queue_of}
use Rattle.nc_rules.specs.Turns.{is_area, set_side, of_those, to_side}
use Rattle.nc_rules.specs.Driver.{DriverState, Went, in_hand, stands, with_lots, went_to}
use Rattle.nc_rules.specs.EventTouches.{owner_of}
use Rattle.nc_rules.specs.World.{WorldState, driver_of, owners_moved}
use Rattle.nc_scripts.specs.Drivers.{IsLotIn}
use Rattle.nc_scripts.proofs.Lists.{all_in}
use Rattle.nc_scripts.proofs.LotLaws.{its_name}
use Rattle.nc_holds.specs.Held.{slots_span}
use Rattle.nc_holds.proofs.lists.Members.{all_at}
use Rattle.nc_holds.proofs.owners.Lots.{same_named, area_covers}
use Rattle.nc_holds.proofs.owners.Moves.{moved_off}
use Rattle.nc_holds.proofs.owners.Sides.{side_move, move_covers, owners_set}
use Rattle.nc_rows.specs.Ahead.{ends, sending}
use Rattle.nc_rows.specs.Laws.{seen_at}
use Rattle.nc_rows.specs.Rows.{Loan, Book, Row}
use Rattle.nc_rows.specs.Parts.{rest_last}
use Rattle.nc_plan.specs.Plans.{In}
use Rattle.nc_rows.proofs.Steps.{steps_ahead}
use Rattle.nc_flatness.specs.Lending.{is_lending}
use Rattle.nc_flatness.specs.Books.{loan_by, loan_of, book_of, mapping_in, LiesIn}
use Rattle.nc_flatness.specs.Flatness.{PlanOf, Drives, BytesStand, Flatness}
use Rattle.nc_flatness.specs.Plans.{HasLend, PlanGoes}
use Rattle.nc_flatness.specs.Tokens.{is_lending_side, ends_lending, is_sent, TokenStands}
use Rattle.nc_flatness.proofs.plans.Copies.{is_copy, copy_none}
use Rattle.nc_flatness.proofs.plans.LendingPlans.{plan_left}
use Rattle.nc_flatness.proofs.books.Loans.{loan_is}
use Rattle.nc_flatness.proofs.worlds.Outcomes.{gone}
use Rattle.nc_flatness.proofs.tokens.Lents.{all_sided, sides_mapping}
use Rattle.nc_flatness.proofs.tokens.Stands.{stands_by, none_stands}
use Rattle.nc_flatness.proofs.plans.Rests.{unended_unlent}
use Rattle.nc_flatness.proofs.tokens.Tokens.{ended_unsent, unlent_unsent}
use Rattle.nc_flatness.proofs.books.Owned.{owned_ram}
use Rattle.nc_flat_starts.proofs.opening.Bases.{IsBase, fixed_is, me_of, base_lot, base_beside}
use Rattle.nc_flat_starts.proofs.opening.Befores.{IsBefore, base_before, driven, its_entry, far_loan, far_mapping, far_from, far_rest, known_here, all_idle, idle_free, seen_aside}
use Rattle.nc_flat_starts.proofs.turning.Frames.{IsPlace, IsOff, On, Off, somewhere, StaysAside, rewrites_none, goes_still, driver_here, loan_hart, loan_aside, rest_hart, last_none}
use Rattle.nc_flat_starts.proofs.turning.Lots.{loan_in, numbers, names_entry, own_entry, loan_for, loan_here, other_set}
use Rattle.nc_flat_starts.proofs.going.PlanComes.{only_one}
use Rattle.nc_flat_starts.proofs.going.PlanOps.{IsPlan}
use Rattle.nc_flat_starts.proofs.turning.Sides.{turned_lot, set_here, set_one}
use Rattle.nc_flat_starts.proofs.opening.Tokens.{no_token}
use Rattle.nc_flat_starts.proofs.turning.TurnBytes.{turn_bytes}

pub side_mapping : (n k : MapId) (side : Side) → mapping_in (owner_of_side n side) ≡ Some k → n ≡ k
side_mapping n k sides.Wanted e = absurd cc
side_mapping n k sides.Lending e = cc
side_mapping n k sides.Device e = cc
side_mapping n k sides.Returning e = cc
side_mapping n k sides.Synced e = cc
side_mapping n k sides.Own e = absurd cc

-- ---- tokens

-- where the lot is lent the plan ends that, and of the others what is queued stays
open_stands : (sc : Scenario) (f : List ℕ) (w : WorldState) (h : HartNo) (lots : List Lot) (lot : Lot) (side : Side) (plan : List Step) → IsBefore sc f w h lots lot → is_lending_side lot.side ≡ false → IsPlan lot.id plan → (is_lending_side side ≡ true → HasLend lot.id plan) → (driver_of w h.0).fixed.light ≡ true
    → All (TokenStands plan (queue_of w.machine h.0)) (set_side side lot.id lots)
open_stands sc f w h lots lot side plan b unsent p lends light =
    let q = queue_of w.machine h.0 in
    let its : is_sent plan (turned_lot side lot) ≡ false = elim (cases_Bool (is_lending_side side)) [
      | inl lent ↦ ended_unsent plan (turned_lot side lot) (lends lent)
      | inr off ↦ unlent_unsent plan (turned_lot side lot) off
    ] in
    let turned : TokenStands plan q (turned_lot side lot) = none_stands plan q (turned_lot side lot) (no_token sc f w h lots lot b.flat b.lt b.names b.kept b.here unsent) its in
    all_sided (λ (l : Lot). In l lots) (TokenStands plan q) side lot.id lots (all_in (λ (l : Lot). In l lots) lots (λ l here. here))
    (λ l here is. subst (λ (k : Lot). TokenStands plan q (turned_lot side k)) (sym (same_named lots lot.id l lot b.names here b.here is (its_name lot lot.id refl))) turned)
    (λ l here off.
    let none : list_any (ends_lending l.id) plan ≡ false = unended_unlent l.id plan (false_from_ne_true (list_any (ends l.id) plan) (λ ended. both_ways (is_lot lot.id l) off (p.only l.id ended))) in
    stands_by [] plan q q l l.side refl (ap (λ (t : Bool). is_lending_side l.side && not t) none) (all_at (TokenStands [] q) lots l (b.tokens light) here))

-- ---- a lot with a new side and a plan

-- an operation in hand gives a lot of its hart this side, and goes on with this plan
pub record IsTurn (w : WorldState) (h : HartNo) (o : Op) (went : Went) (lots : List Lot) (lot : Lot) (side : Side) (plan : List Step) : Type 0 where
  pub hand : in_hand (driver_of w h.0) ≡ Some o
  pub lends : is_lending o ≡ true
  pub no_copy : is_copy o ≡ false
  pub lent : is_wanted side ≡ false
  pub driver : went.driver ≡ went_to (with_lots (driver_of w h.0) lots) (set_side side lot.id lots) (driver_of w h.0).saw plan
  pub transfers : went.moves.transfers ≡ of_those (to_side (driver_of w h.0).fixed.me side) lot.id lots

-- where these are the owners of its entries, what the plan and each row of the lot have to have at that turn
pub record TurnStands (sc : Scenario) (w : WorldState) (h : HartNo) (lots : List Lot) (lot : Lot) (side : Side) (plan : List Step) (was : ℕ → Owner) : Type 0 where
  pub of_plan : IsPlan lot.id plan
  -- where it is lent the plan ends that
  pub ends_it : is_lending_side side ≡ true → HasLend lot.id plan
  pub goes : PlanGoes (driver_of w h.0).fixed (set_side side lot.id lots) plan
  -- with light fences none of its tokens is queued
  pub unsent : is_lending_side lot.side ≡ false
  pub row : (i : ℕ) (e : Entry) (x v : ℕ) → x < sc.ram → IsPlace lot i e x → (c : Book) → c.loan (map_id h lot.id i) ≡ Some (loan_for (driver_of w h.0).fixed h lot i e) → c.rest h.0 ≡ plan → Row (book_of w) (was i) v w.machine x
      → Row c (owner_of_side (map_id h lot.id i) side) v w.machine x
  -- a place that was seen in a slot is seen there
  pub shown : (i : ℕ) (e : Entry) (x : ℕ) → IsPlace lot i e x → (c : Book) → c.loan (map_id h lot.id i) ≡ Some (loan_for (driver_of w h.0).fixed h lot i e)
      → (seen_at (book_of w) (was i) x ≡ x) ⊎ (seen_at c (owner_of_side (map_id h lot.id i) side) x ≡ seen_at (book_of w) (was i) x)

pub record Opens (sc : Scenario) (f : List ℕ) (w : WorldState) (h : HartNo) (o : Op) (went : Went) (lots : List Lot) (lot : Lot) (side : Side) (plan : List Step) : Type 0 where
  pub before : IsBefore sc f w h lots lot
  pub turn : IsTurn w h o went lots lot side plan
  -- the owner of each place before
  pub was : ℕ → Owner
  pub owned : (i : ℕ) (e : Entry) (x : ℕ) → IsPlace lot i e x → owner_of w x ≡ was i
  pub mine : (i : ℕ) (k : MapId) → mapping_in (was i) ≡ Some k → k.hart.0 ≡ h.0
  pub threads : (i : ℕ) (k : HartNo) → was i ≡ Thread k → k.0 ≡ h.0
  pub unslotted : (i : ℕ) (e : Entry) (x : ℕ) → IsPlace lot i e x → covers (slots_of sc) x ≡ false
  pub area : (i : ℕ) (e : Entry) (x : ℕ) → IsPlace lot i e x → covers (pool_of sc) x ≡ true → is_area lot.kind ≡ true
  pub its : TurnStands sc w h lots lot side plan was

went_work : (d : DriverState) (lots : List Lot) (saw : Seen) (id : LotId) (plan : List Step) → list_any (ends id) plan ≡ true → went_to d lots saw plan ≡ stands d Work plan lots saw
went_work d lots saw id [] some = absurd cc
went_work d lots saw id (s ∷ rest) some = refl

-- the mapping of an entry behind it
pub open_loan : (sc : Scenario) (f : List ℕ) (w : WorldState) (h : HartNo) (lots : List Lot) (lot : Lot) (side : Side) (i : ℕ) (e : Entry) → IsBefore sc f w h lots lot → is_wanted side ≡ false → slice_get lot.list.entries i ≡ Some e
    → loan_in (driver_of w h.0).fixed (set_side side lot.id lots) (map_id h lot.id i) ≡ Some (loan_for (driver_of w h.0).fixed h lot i e)
open_loan sc f w h lots lot side i e b lent there =
    loan_here (driver_of w h.0).fixed h (set_side side lot.id lots) (turned_lot side lot) i e (record { lot_in = set_here side lots lot b.here; entry = there }) lent
    (λ other k named. set_one side lots lot other k
    (λ was here id list.
    let n = map_id h lot.id i in
    let its : names_entry n was ≡ true = ap (λ (q : LotId). numbers n q was.list.entries) id ∙ ap (λ (v : SgView). numbers n other.id v.entries) list ∙ named in
    its_entry sc f w h lots lot was n b here its (own_entry h lot i e there)))

-- the owners behind it
open_on : (sc : Scenario) (f : List ℕ) (w : WorldState) (h : HartNo) (lots : List Lot) (lot : Lot) (side : Side) (i : ℕ) (e : Entry) (x : ℕ) → IsBefore sc f w h lots lot → IsPlace lot i e x
    → owner_in (owners_moved w.owners (of_those (to_side (driver_of w h.0).fixed.me side) lot.id lots)) x ≡ owner_of_side (map_id h lot.id i) side
open_on sc f w h lots lot side i e x b place =
    let fx = (driver_of w h.0).fixed in
    owners_set (length w.machine.cache.ram) fx side lot.id lots w.owners b.there b.flat.world.holds.owners b.apart b.theirs (turned_lot side lot) i e x (record { lot_in = set_here side lots lot b.here; entry = place.entry }) place.on
    ∙ ap (λ (g : HartNo). owner_of_side (map_id g lot.id i) side) b.me

open_off : (sc : Scenario) (f : List ℕ) (w : WorldState) (h : HartNo) (lots : List Lot) (lot : Lot) (side : Side) (x : ℕ) → IsBefore sc f w h lots lot → IsOff lot x → owner_in (owners_moved w.owners (of_those (to_side (driver_of w h.0).fixed.me side) lot.id lots)) x ≡ owner_of w x
open_off sc f w h lots lot side x b beside =
    let fx = (driver_of w h.0).fixed in
    moved_off w.owners (of_those (to_side fx.me side) lot.id lots) x
    (λ u k over.
    let r = side_move fx.me side lot.id lots u k in
    let one = same_named lots lot.id r.lot lot b.names r.here.lot_in b.here r.named (its_name lot lot.id refl) in
    beside r.i r.entry (record { entry = subst (λ (l : Lot). slice_get l.list.entries r.i ≡ Some r.entry) one r.here.entry; on = move_covers fx.me side lot.id lots u x r over }))

pub opens_bytes : (sc : Scenario) (f : List ℕ) (w : WorldState) (h : HartNo) (o : Op) (went : Went) (lots : List Lot) (lot : Lot) (side : Side) (plan : List Step) → Opens sc f w h o went lots lot side plan → BytesStand sc f (gone w h w.machine went)
opens_bytes sc f w h o went lots lot side plan t =
    let m = w.machine in
    let b = t.before in
    let turn = t.turn in
    let its = t.its in
    let d = driver_of w h.0 in
    let fx = d.fixed in
    let now = set_side side lot.id lots in
    let behind = stands (with_lots d lots) Work plan now d.saw in
    let v = gone w h m went in
    let driver : went.driver ≡ behind = turn.driver ∙ went_work (with_lots d lots) now d.saw lot.id plan its.of_plan.ended in
    let lt = driven sc f w h b.flat b.lt in
    let known : (i : ℕ) (e : Entry) → slice_get lot.list.entries i ≡ Some e → (book_of v).loan (map_id h lot.id i) ≡ Some (loan_for fx h lot i e) =
    λ i e there. loan_hart w h m went (map_id h lot.id i) lt refl ∙ ap (λ (k : DriverState). loan_of k (map_id h lot.id i)) driver ∙ open_loan sc f w h lots lot side i e b turn.lent there in
    let rest : (book_of v).rest h.0 ≡ plan = rest_hart w h m went h.0 lt refl ∙ ap (λ (k : DriverState). k.rest) driver in
    let stays : (k : MapId) → names_entry k lot ≡ false → loan_of went.driver k ≡ loan_of d k =
    λ k far. ap (λ (j : DriverState). loan_of j k) driver ∙ ap (option_map (loan_by fx k)) (other_set side lot.id k lots (far_from sc f w h lots lot k b far)) ∙ b.loans k in
    let others : (x : ℕ) (k : MapId) → x < sc.ram → IsOff lot x → mapping_in (owner_of w x) ≡ Some k → StaysAside w h went (owner_of w x) k =
    λ x k there off is own.
    let far = far_mapping sc f w h lots lot x k b there off is own in
    (stays k far, inr (λ l lent. far_rest sc f w h lots lot k l plan went.driver.rest b its.of_plan.only (ap (λ (j : DriverState). j.rest) driver) own lent far)) in
    let on : (i : ℕ) (e : Entry) (x : ℕ) → IsPlace lot i e x → owner_in (owners_moved w.owners went.moves.transfers) x ≡ owner_of_side (map_id h lot.id i) side =
    λ i e x place. ap (λ (ts : List (Span × Owner)). owner_in (owners_moved w.owners ts) x) turn.transfers ∙ open_on sc f w h lots lot side i e x b place in
    let off : (x : ℕ) → IsOff lot x → owner_in (owners_moved w.owners went.moves.transfers) x ≡ owner_of w x =
    λ x beside. ap (λ (ts : List (Span × Owner)). owner_in (owners_moved w.owners ts) x) turn.transfers ∙ open_off sc f w h lots lot side x b beside in
    let mine : (i : ℕ) (e : Entry) (x : ℕ) (k : MapId) → IsPlace lot i e x → mapping_in (owner_of w x) ≡ Some k → k.hart.0 ≡ h.0 = λ i e x k place is. t.mine i k (sym (ap mapping_in (t.owned i e x place)) ∙ is) in
    turn_bytes sc f f w h m went lot (λ n. owner_of_side n side) b.flat lt (rewrites_none sc f w h lot) (goes_still sc f w h b.flat.bytes) (record {
      on = λ i e x there place. on i e x place;
      off = off;
      unslotted = t.unslotted;
      mine = mine;
      threads = λ i e x k place is. t.threads i k (sym (t.owned i e x place) ∙ is);
      along = λ k. false;
      others = λ x k there beside is own. let r = others x k there beside is own in (r.0, λ off. r.1);
      goes_along = λ x k there unslotted beside is own along. absurd cc;
      areas = λ x k l beside own is area over. stays k (far_loan sc f w h lots lot x k l b beside own (loan_is sc f w k l b.flat is) over) ∙ known_here w h k l own is;
      pooled = λ i e x place over. inr (record { id = map_id h lot.id i; loan = loan_for fx h lot i e; lent = known i e place.entry; area = t.area i e x place over; on = place.on });
      free = λ i e x place over. inl (idle_free sc f w h x b.flat b.idle (λ k is. mine i e x k place is) (subst (λ (p : Span). covers p x ≡ true) (sym b.flat.world.of_scenario.pool) over));
      silent = λ c. ap (λ (j : DriverState). sending c j.rest) driver ∙ steps_ahead.send_none c plan (its.of_plan.silent c) ∙ sym (ap (λ (ss : List Step). sending c ss) b.idle);
      fixed = ap (λ (j : DriverState). j.fixed) driver;
      drives = subst (λ (j : DriverState). Drives j) (sym driver) (record {
        lots = sides_mapping fx side lot.id lots b.mappings;
        stands = subst (λ (k : Option Op). PlanOf behind k) (sym turn.hand) ((plan_left behind o turn.lends).is (record { goes = its.goes; one = λ light. only_one lot.id plan its.of_plan.only }));
        idle = tt;
      });
      lasting = last_none (book_of v) f h.0 (hart_of m h.0).last (rest_last went.driver.rest) (ap (λ (j : DriverState). rest_last j.rest) driver ∙ its.of_plan.first);
      queue = all_idle sc f w h (book_of v) (owner_of v) b.flat b.idle;
      tokens = subst (λ (j : DriverState). j.fixed.light ≡ true → All (TokenStands j.rest (queue_of m h.0)) j.lots) (sym driver) (λ light. open_stands sc f w h lots lot side plan b its.unsent its.of_plan its.ends_it light);
      passes = λ x u there unslotted beside off row. row;
      lies = λ i e x k there place is.
          subst (λ (j : MapId). LiesIn ((book_of v).loan j) x) (side_mapping (map_id h lot.id i) k side is) (subst (λ (l : Option Loan). LiesIn l x) (sym (known i e place.entry)) place.on);
      row = λ i e x there place row. its.row i e x (byte f x) there place (book_of v) (known i e place.entry) rest (subst (λ (p : Owner). Row (book_of w) p (byte f x) m x) (t.owned i e x place) row);
      calm = λ z over unseen. b.flat.bytes.calm z over
          (λ x unslotted same. elim (somewhere lot x) [
            | On i e place ↦
                let was : seen_at (book_of w) (t.was i) x ≡ z = ap (λ (p : Owner). seen_at (book_of w) p x) (sym (t.owned i e x place)) ∙ same in
                elim (its.shown i e x place (book_of v) (known i e place.entry)) [
                  | inl here ↦ both_ways (covers (slots_of sc) x) unslotted (subst (λ (y : ℕ). covers (slots_of sc) y ≡ true) (sym was ∙ here) over)
                  | inr kept ↦ unseen x unslotted (ap (λ (p : Owner). seen_at (book_of v) p x) (on i e x place) ∙ kept ∙ was)
                ]
            | Off beside ↦
                unseen x unslotted
                (ap (λ (p : Owner). seen_at (book_of v) p x) (off x beside)
                ∙ seen_aside (book_of w) (book_of v) (owner_of w x) x (λ k is. loan_aside w h m went (owner_of w x) k lt (others x k (owned_ram sc f w x k b.flat is) beside is)) ∙ same)
          ]);
      copying = copy_none sc f v h.0 o (ap in_hand (driver_here w h m went lt ∙ driver) ∙ turn.hand) turn.no_copy;
    })

-- ---- the owner of a place of a lot that the hart has

pub base_owner : (sc : Scenario) (f : List ℕ) (w : WorldState) (h : HartNo) (lots : List Lot) (lot : Lot) (i : ℕ) (e : Entry) (x : ℕ) → IsBase sc f w h lots lot → IsPlace lot i e x → owner_of w x ≡ owner_of_side (map_id h lot.id i) lot.side
base_owner sc f w h lots lot i e x b place =
    b.each.mine.owners lot i e x (record { lot_in = b.here; entry = place.entry }) place.on ∙ ap (λ (me : HartNo). owner_of_side (map_id me lot.id i) lot.side) (me_of w h b.each.me)

side_by : (n : MapId) (k : HartNo) (side : Side) → owner_of_side n side ≡ Thread k → n.hart ≡ k
side_by n k sides.Wanted e = cc
side_by n k sides.Own e = cc
side_by n k sides.Lending e = absurd cc
side_by n k sides.Device e = absurd cc
side_by n k sides.Returning e = absurd cc
side_by n k sides.Synced e = absurd cc

pub side_thread : (h : HartNo) (lot : Lot) (i : ℕ) (k : HartNo) → owner_of_side (map_id h lot.id i) lot.side ≡ Thread k → k.0 ≡ h.0
side_thread h lot i k is = ap (λ (j : HartNo). j.0) (sym (side_by (map_id h lot.id i) k lot.side is))

pub side_mine : (h : HartNo) (lot : Lot) (i : ℕ) (k : MapId) → mapping_in (owner_of_side (map_id h lot.id i) lot.side) ≡ Some k → k.hart.0 ≡ h.0
side_mine h lot i k is = ap (λ (n : MapId). n.hart.0) (sym (side_mapping (map_id h lot.id i) k lot.side is))

-- ---- the places of a lot that the hart has

-- no byte of an area is a slot's
pub area_unslotted : (sc : Scenario) (f : List ℕ) (w : WorldState) (h : HartNo) (lot : Lot) (i : ℕ) (e : Entry) (x : ℕ) → Flatness sc f w → h.0 < length sc.harts
    → IsLotIn (length w.machine.cache.ram) (driver_of w h.0).fixed lot → is_area lot.kind ≡ true → IsPlace lot i e x
    → covers (slots_of sc) x ≡ false
area_unslotted sc f w h lot i e x flat lt is area place =
    let fx = (driver_of w h.0).fixed in
    let here = subst (λ (n : ℕ). h.0 < n) (sym flat.world.of_scenario.harts) lt in
    let slots : slots_span fx ≡ slots_of sc = ap (λ (k : DriverConfig). slots_span k) (fixed_is sc f w h flat lt) in
    false_from_ne_true (covers (slots_of sc) x)
    (λ over. (flat.world.holds.each h.0 here).regions.slots_off_pool x (subst (λ (s : Span). covers s x ≡ true) (sym slots) over) (area_covers (length w.machine.cache.ram) fx lot i e x is area place.entry place.on))

base_unslotted : (sc : Scenario) (f : List ℕ) (w : WorldState) (h : HartNo) (lots : List Lot) (lot : Lot) (i : ℕ) (e : Entry) (x : ℕ) → IsBase sc f w h lots lot → IsPlace lot i e x
    → covers (slots_of sc) x ≡ false
base_unslotted sc f w h lots lot i e x b place = elim (cases_Bool (is_area lot.kind)) [
  | inl area ↦ area_unslotted sc f w h lot i e x b.flat b.lt (base_lot sc f w h lots lot b) area place
  | inr plain ↦ (base_beside sc f w h lots lot i e x b plain place.entry place.on).1
]

-- those of the pool are an area's
base_pooled : (sc : Scenario) (f : List ℕ) (w : WorldState) (h : HartNo) (lots : List Lot) (lot : Lot) (i : ℕ) (e : Entry) (x : ℕ) → IsBase sc f w h lots lot → IsPlace lot i e x
    → covers (pool_of sc) x ≡ true → is_area lot.kind ≡ true
base_pooled sc f w h lots lot i e x b place over = elim (cases_Bool (is_area lot.kind)) [
  | inl area ↦ area
  | inr plain ↦ absurd (both_ways (covers (pool_of sc) x) (base_beside sc f w h lots lot i e x b plain place.entry place.on).0 over)
]

-- it opens so where the hart has the lot
pub base_opens : (sc : Scenario) (f : List ℕ) (w : WorldState) (h : HartNo) (o : Op) (went : Went) (lots : List Lot) (lot : Lot) (side : Side) (plan : List Step) → IsBase sc f w h lots lot
    → IsTurn w h o went lots lot side plan
    → TurnStands sc w h lots lot side plan (λ i. owner_of_side (map_id h lot.id i) lot.side) → Opens sc f w h o went lots lot side plan
base_opens sc f w h o went lots lot side plan b turn its = record {
  before = base_before sc f w h lots lot b;
  turn = turn;
  was = λ i. owner_of_side (map_id h lot.id i) lot.side;
  owned = λ i e x place. base_owner sc f w h lots lot i e x b place;
  mine = λ i n is. side_mine h lot i n is;
  threads = λ i k is. side_thread h lot i k is;
  unslotted = λ i e x place. base_unslotted sc f w h lots lot i e x b place;
  area = λ i e x place over. base_pooled sc f w h lots lot i e x b place over;
  its = its;
}
