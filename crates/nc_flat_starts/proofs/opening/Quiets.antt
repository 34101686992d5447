-- A call with which a plan neither begins nor is left: nothing changes its owner, or a lot that is synced ends.
use Rattle.std.specs.Prelude.{Option, Some, None, All, true, false, slice_get, option_map}
use Rattle.std.specs.List.{list_any}
use Rattle.std.proofs.Common.{◌≡◌, ℕ, ◌<◌, List, [], length, refl, sym, ap, ◌∙◌, inr, subst, arith}
use Rattle.std.proofs.lemmas.Bool.{both_ways, cond-false}
use Rattle.nc_num.specs.Memory.{byte}
use Rattle.nc_num.specs.Places.{covers}
use Rattle.nc_num.specs.declared.names.Dir.TheVariants.{Both}
use Rattle.nc_num.specs.declared.names.HartNo.{HartNo}
use Rattle.nc_num.specs.declared.names.MapId.{MapId}
use Rattle.nc_num.specs.declared.places.Span.{Span}
use Rattle.nc_model.specs.declared.owners.Owner.{Owner}
use Rattle.nc_model.specs.declared.owners.Owner.TheVariants.{Thread, Pool}
use Rattle.nc_plan.specs.Plans.{In}
use Rattle.nc_plan.proofs.PlanLaws.{in_map}
use Rattle.nc_own.specs.Books.{owner_in}
use Rattle.nc_scen.specs.Regions.{pool_of, slots_of}
use Rattle.nc_scen.specs.declared.scenario.Scenario.{Scenario}
use Rattle.nc_sg.specs.declared.list.Entry.{Entry}
use Rattle.nc_rules.specs.declared.lots.Kind.TheVariants.{Single}
use Rattle.nc_rules.specs.declared.lots.Lot.{Lot}
use Rattle.nc_rules.specs.declared.lots.Side.TheVariants as sides
use Rattle.nc_rules.specs.declared.steps.Phase.TheVariants.{Steps}
use Rattle.nc_rules.specs.declared.steps.Step.{Step}
use Rattle.nc_rules.specs.Lots.{lot_id, is_lot, map_id, owner_of_side}
use Rattle.nc_rules.specs.Machine.{MachineState, hart_of, queue_of}
use Rattle.nc_rules.specs.Turns.{is_area, last_owner, of_those, to_end}
use Rattle.nc_rules.specs.Driver.{DriverState, Went, over, with_lots}
use Rattle.nc_rules.specs.EventTouches.{owner_of}
use Rattle.nc_rules.specs.World.{WorldState, driver_of, owners_moved}
use Rattle.nc_scripts.proofs.Lists.{all_to}
use Rattle.nc_scripts.proofs.LotLaws.{its_name}
use Rattle.nc_holds.proofs.lists.Members.{at_get}
use Rattle.nc_holds.proofs.owners.Ends.{IsEndMove, end_move}
use Rattle.nc_holds.proofs.owners.Lots.{same_named}
use Rattle.nc_holds.proofs.owners.Moves.{moved_off, moved_to, in_named}
use Rattle.nc_rows.specs.Ahead.{posts, sending}
use Rattle.nc_rows.proofs.Steps.{steps_ahead}
use Rattle.nc_rows.specs.Laws.{seen_at}
use Rattle.nc_rows.specs.Places.{ThreadRow}
use Rattle.nc_rows.specs.Rows.{Loan, Row, SyncedRow}
use Rattle.nc_rows.specs.Parts.{rest_last}
use Rattle.nc_flatness.specs.Books.{loan_by, loan_of, book_of, mapping_in}
use Rattle.nc_flatness.specs.Flatness.{IsMapping, Drives, BytesStand, Flatness}
use Rattle.nc_flatness.specs.Copying.{CopyStands}
use Rattle.nc_flatness.specs.Plans.{IsStill, LoadsFirst}
use Rattle.nc_flatness.specs.Tokens.{TokenStands}
use Rattle.nc_flatness.proofs.plans.Copies.{copy_idle}
use Rattle.nc_flatness.proofs.books.Loans.{loan_is}
use Rattle.nc_flatness.proofs.worlds.Outcomes.{gone}
use Rattle.nc_flatness.proofs.books.Owned.{owned_ram}
use Rattle.nc_flat_starts.proofs.opening.Bases.{IsBase, me_of, base_beside}
use Rattle.nc_flat_starts.proofs.opening.Befores.{base_before, driven, rest_none, far_loan, far_mapping, far_from, known_here, all_idle, seen_aside}
use Rattle.nc_flat_starts.proofs.turning.Frames.{IsPlace, IsOff, On, Off, somewhere, IsAside, StaysAside, rewrites_none, goes_still, driver_here, loan_aside, last_none}
use Rattle.nc_flat_starts.proofs.turning.Lots.{names_entry, other_without}
use Rattle.nc_flat_starts.proofs.opening.Opens.{base_owner, side_thread, side_mine}
use Rattle.nc_flat_starts.proofs.turning.Sides.{without_lot, without_all}
use Rattle.nc_flat_starts.proofs.turning.TurnBytes.{turn_bytes}

-- ---- nothing changes its owner

-- a plan may begin with it that has nothing to put for the hart's mappings
pub record IsQuiet (sc : Scenario) (f : List ℕ) (w : WorldState) (h : HartNo) (went : Went) : Type 0 where
  pub flat : Flatness sc f w
  pub lt : h.0 < length sc.harts
  pub idle : (driver_of w h.0).rest ≡ []
  pub silent : (b : ℕ) → list_any (posts b) went.driver.rest ≡ false
  pub first : LoadsFirst went.driver.rest
  pub aside : (x : ℕ) (k : MapId) → x < sc.ram → mapping_in (owner_of w x) ≡ Some k → k.hart.0 ≡ h.0 → IsAside w h went (owner_of w x) k
  pub transfers : went.moves.transfers ≡ []
  pub fixed : went.driver.fixed ≡ (driver_of w h.0).fixed
  pub loans : (k : MapId) → loan_of went.driver k ≡ loan_of (driver_of w h.0) k
  pub drives : Drives went.driver
  pub tokens : went.driver.fixed.light ≡ true → All (TokenStands went.driver.rest (queue_of w.machine h.0)) went.driver.lots
  pub copying : CopyStands sc f (gone w h w.machine went) h.0

-- no plan is behind it
pub none_aside : (w : WorldState) (h : HartNo) (went : Went) (o : Owner) (k : MapId) → (driver_of w h.0).rest ≡ [] → went.driver.rest ≡ [] → IsAside w h went o k
none_aside w h went o k idle rest = inr (λ l known. rest_none k l.lot (driver_of w h.0).rest went.driver.rest idle rest)

pub idle_copy : (sc : Scenario) (f : List ℕ) (w : WorldState) (h : HartNo) (m : MachineState) (went : Went) (n : ℕ) → h.0 < length w.drivers → went.driver.phase ≡ Steps n → CopyStands sc f (gone w h m went) h.0
idle_copy sc f w h m went n lt is = copy_idle sc f (gone w h m went) h.0 n (ap (λ (d : DriverState). d.phase) (driver_here w h m went lt) ∙ is)

no_lot : Lot
no_lot = record { id = lot_id (record { 0 = 0 }) 0; kind = Single; chan = record { 0 = 0 }; list = record { dir = Both; entries = [] }; side = sides.Own }

none_at : (i : ℕ) (e : Entry) (x : ℕ) → IsPlace no_lot i e x → ⊥
unfolding no_lot
none_at i e x place = let no : slice_get {X = Entry} [] i ≡ Some e = place.entry in absurd cc

pub quiet_bytes : (sc : Scenario) (f : List ℕ) (w : WorldState) (h : HartNo) (went : Went) → IsQuiet sc f w h went → BytesStand sc f (gone w h w.machine went)
quiet_bytes sc f w h went q =
    let m = w.machine in
    let d = driver_of w h.0 in
    let v = gone w h m went in
    let lt = driven sc f w h q.flat q.lt in
    let others : (x : ℕ) (k : MapId) → x < sc.ram → mapping_in (owner_of w x) ≡ Some k → StaysAside w h went (owner_of w x) k = λ x k there is own. (q.loans k, q.aside x k there is own) in
    let off : (x : ℕ) → owner_in (owners_moved w.owners went.moves.transfers) x ≡ owner_of w x = λ x. ap (λ (ts : List (Span × Owner)). owner_in (owners_moved w.owners ts) x) q.transfers in
    turn_bytes sc f f w h m went no_lot (λ n. Thread n.hart) q.flat lt (rewrites_none sc f w h no_lot) (goes_still sc f w h q.flat.bytes) (record {
      on = λ i e x there place. absurd (none_at i e x place);
      off = λ x beside. off x;
      unslotted = λ i e x place. absurd (none_at i e x place);
      mine = λ i e x k place is. absurd (none_at i e x place);
      threads = λ i e x k place is. absurd (none_at i e x place);
      along = λ k. false;
      others = λ x k there beside is own. let r = others x k there is own in (r.0, λ off. r.1);
      goes_along = λ x k there unslotted beside is own along. absurd cc;
      areas = λ x k l beside own is area over. q.loans k ∙ known_here w h k l own is;
      pooled = λ i e x place over. absurd (none_at i e x place);
      free = λ i e x place over. absurd (none_at i e x place);
      silent = λ c. steps_ahead.send_none c went.driver.rest (q.silent c) ∙ sym (ap (λ (ss : List Step). sending c ss) q.idle);
      fixed = q.fixed;
      drives = q.drives;
      lasting = last_none (book_of v) f h.0 (hart_of m h.0).last (rest_last went.driver.rest) q.first;
      queue = all_idle sc f w h (book_of v) (owner_of v) q.flat q.idle;
      tokens = q.tokens;
      passes = λ x u there unslotted beside off row. row;
      lies = λ i e x k there place is. absurd (none_at i e x place);
      row = λ i e x there place row. absurd (none_at i e x place);
      calm = λ z over unseen. q.flat.bytes.calm z over
          (λ x unslotted same. unseen x unslotted
          (ap (λ (p : Owner). seen_at (book_of v) p x) (off x)
          ∙ seen_aside (book_of w) (book_of v) (owner_of w x) x (λ k is. loan_aside w h m went (owner_of w x) k lt (others x k (owned_ram sc f w x k q.flat is) is)) ∙ same));
      copying = q.copying;
    })

-- ---- a lot that is synced ends

pub record IsEnded (sc : Scenario) (f : List ℕ) (w : WorldState) (h : HartNo) (went : Went) (lots : List Lot) (lot : Lot) : Type 0 where
  pub base : IsBase sc f w h lots lot
  pub synced : lot.side ≡ sides.Synced
  pub plain : is_area lot.kind ≡ false
  pub driver : went.driver ≡ over (with_lots (driver_of w h.0) lots) (without_lot lot.id lots)
  pub transfers : went.moves.transfers ≡ of_those (to_end (driver_of w h.0).fixed.me) lot.id lots

ended_row : (n : MapId) (o : Option Loan) (v : ℕ) (m : MachineState) (x : ℕ) → SyncedRow n o v m x → ThreadRow n.hart.0 v m x
ended_row n None v m x row = absurd row
ended_row n (Some l) v m x row = row

pub end_bytes : (sc : Scenario) (f : List ℕ) (w : WorldState) (h : HartNo) (went : Went) (lots : List Lot) (lot : Lot) → IsEnded sc f w h went lots lot → BytesStand sc f (gone w h w.machine went)
end_bytes sc f w h went lots lot t =
    let m = w.machine in
    let b = t.base in
    let p = base_before sc f w h lots lot b in
    let d = driver_of w h.0 in
    let fx = d.fixed in
    let v = gone w h m went in
    let lt = driven sc f w h b.flat b.lt in
    let me = me_of w h b.each.me in
    let ts = of_those (to_end fx.me) lot.id lots in
    let own : last_owner fx.me lot ≡ Thread h = cond-false _ Pool (Thread fx.me) t.plain ∙ ap Thread me in
    let its : (u : Span × Owner) → In u ts → (r : IsEndMove fx.me lot.id lots u) × (r.lot ≡ lot) =
    λ u k. let r = end_move fx.me lot.id lots u k in (r, same_named lots lot.id r.lot lot b.each.knows.names r.here.lot_in b.here r.named (its_name lot lot.id refl)) in
    let on : (i : ℕ) (e : Entry) (x : ℕ) → x < sc.ram → IsPlace lot i e x → owner_in (owners_moved w.owners went.moves.transfers) x ≡ Thread h =
    λ i e x there place.
    ap (λ (us : List (Span × Owner)). owner_in (owners_moved w.owners us) x) t.transfers
    ∙ moved_to (λ (o : Owner). o ≡ Thread h) w.owners ts x (e.span, last_owner fx.me lot) (omega (arith, there, b.each.knows.long, b.flat.world.of_scenario.ram))
    (in_named (to_end fx.me) lot.id lots lot (e.span, last_owner fx.me lot) b.here (its_name lot lot.id refl) (in_map {Y = Span × Owner} (λ (d : Entry). (d.span, last_owner fx.me lot)) e lot.list.entries (at_get lot.list.entries i e place.entry))) place.on
    (λ u k over. let r = its u k in ap (λ (p : Span × Owner). p.1) (sym r.0.is) ∙ ap (last_owner fx.me) r.1 ∙ own) in
    let off : (x : ℕ) → IsOff lot x → owner_in (owners_moved w.owners went.moves.transfers) x ≡ owner_of w x =
    λ x beside.
    ap (λ (us : List (Span × Owner)). owner_in (owners_moved w.owners us) x) t.transfers
    ∙ moved_off w.owners ts x
    (λ u k over.
    let r = its u k in
    beside r.0.i r.0.entry (record { entry = subst (λ (l : Lot). slice_get l.list.entries r.0.i ≡ Some r.0.entry) r.1 r.0.here.entry; on = subst (λ (p : Span × Owner). covers p.0 x ≡ true) (sym r.0.is) over })) in
    let stays : (k : MapId) → names_entry k lot ≡ false → loan_of went.driver k ≡ loan_of d k =
    λ k far. ap (λ (j : DriverState). loan_of j k) t.driver ∙ ap (option_map (loan_by fx k)) (other_without lot.id k lots (far_from sc f w h lots lot k p far)) ∙ b.loans k in
    let others : (x : ℕ) (k : MapId) → x < sc.ram → IsOff lot x → mapping_in (owner_of w x) ≡ Some k → StaysAside w h went (owner_of w x) k =
    λ x k there beside is own_hart. (stays k (far_mapping sc f w h lots lot x k p there beside is own_hart), none_aside w h went (owner_of w x) k b.idle (ap (λ (j : DriverState). j.rest) t.driver)) in
    let its = without_all IsMapping lot.id lots (all_to IsMapping (λ other. is_lot lot.id other ≡ false → IsMapping other) lots b.mappings (λ other is far. is)) in
    let unpooled : (i : ℕ) (e : Entry) (x : ℕ) → IsPlace lot i e x → covers (pool_of sc) x ≡ true → ⊥ = λ i e x place over. both_ways (covers (pool_of sc) x) (base_beside sc f w h lots lot i e x b t.plain place.entry place.on).0 over in
    turn_bytes sc f f w h m went lot (λ n. Thread n.hart) b.flat lt (rewrites_none sc f w h lot) (goes_still sc f w h b.flat.bytes) (record {
      on = λ i e x there place. on i e x there place;
      off = off;
      unslotted = λ i e x place. (base_beside sc f w h lots lot i e x b t.plain place.entry place.on).1;
      mine = λ i e x k place is. side_mine h lot i k (sym (ap mapping_in (base_owner sc f w h lots lot i e x b place)) ∙ is);
      threads = λ i e x k place is. side_thread h lot i k (sym (base_owner sc f w h lots lot i e x b place) ∙ is);
      along = λ k. false;
      others = λ x k there beside is own_hart. let r = others x k there beside is own_hart in (r.0, λ off. r.1);
      goes_along = λ x k there unslotted beside is own_hart along. absurd cc;
      areas = λ x k l beside own_hart is area over. stays k (far_loan sc f w h lots lot x k l p beside own_hart (loan_is sc f w k l b.flat is) over) ∙ known_here w h k l own_hart is;
      pooled = λ i e x place over. absurd (unpooled i e x place over);
      free = λ i e x place over. absurd (unpooled i e x place over);
      silent = λ c. ap (λ (j : DriverState). sending c j.rest) t.driver ∙ sym (ap (λ (ss : List Step). sending c ss) b.idle);
      fixed = ap (λ (j : DriverState). j.fixed) t.driver;
      drives = subst (λ (j : DriverState). Drives j) (sym t.driver) (record {
        lots = its;
        stands = without_all (IsStill fx) lot.id lots b.others;
        idle = refl;
      });
      lasting = last_none (book_of v) f h.0 (hart_of m h.0).last (rest_last went.driver.rest) (ap (λ (j : DriverState). rest_last j.rest) t.driver);
      queue = all_idle sc f w h (book_of v) (owner_of v) b.flat b.idle;
      tokens = subst (λ (j : DriverState). j.fixed.light ≡ true → All (TokenStands j.rest (queue_of m h.0)) j.lots) (sym t.driver) (λ light. without_all (TokenStands [] (queue_of m h.0)) lot.id lots (all_to (TokenStands [] (queue_of m h.0)) (λ other. is_lot lot.id other ≡ false → TokenStands [] (queue_of m h.0) other) lots (p.tokens light) (λ other stands off. stands)));
      passes = λ x u there unslotted beside off row. row;
      lies = λ i e x k there place is. absurd cc;
      row = λ i e x there place row.
          let n = map_id h lot.id i in
          ended_row n ((book_of w).loan n) (byte f x) m x (subst (λ (p : Owner). Row (book_of w) p (byte f x) m x) (base_owner sc f w h lots lot i e x b place ∙ ap (owner_of_side n) t.synced) row);
      calm = λ z over unseen. b.flat.bytes.calm z over
          (λ x unslotted same. elim (somewhere lot x) [
            | On i e place ↦
                let here : x ≡ z = sym (ap (λ (p : Owner). seen_at (book_of w) p x) (base_owner sc f w h lots lot i e x b place ∙ ap (owner_of_side (map_id h lot.id i)) t.synced)) ∙ same in
                both_ways (covers (slots_of sc) x) unslotted (subst (λ (y : ℕ). covers (slots_of sc) y ≡ true) (sym here) over)
            | Off beside ↦
                unseen x unslotted
                (ap (λ (p : Owner). seen_at (book_of v) p x) (off x beside)
                ∙ seen_aside (book_of w) (book_of v) (owner_of w x) x (λ k is. loan_aside w h m went (owner_of w x) k lt (others x k (owned_ram sc f w x k b.flat is) beside is)) ∙ same)
          ]);
      copying = idle_copy sc f w h m went 0 lt (ap (λ (j : DriverState). j.phase) t.driver);
    })
