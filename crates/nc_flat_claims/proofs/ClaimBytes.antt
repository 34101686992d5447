-- The claim of a free channel: the places of both ends begin to be lent.
use Rattle.std.specs.Prelude.{Option, Some, None, All, true, false, slice_get}
use Rattle.std.specs.List.{list_any}
use Rattle.std.proofs.Common.{◌≡◌, ◌⊎◌, ℕ, List, [], ◌∷◌, ◌++◌, length, refl, sym, ap, ◌∙◌, inl, inr, subst}
use Rattle.std.proofs.lemmas.Bool.{both_ways, or_parts}
use Rattle.nc_num.specs.Memory.{byte}
use Rattle.nc_num.specs.Places.{covers}
use Rattle.nc_num.specs.declared.names.HartNo.{HartNo}
use Rattle.nc_num.specs.declared.names.MapId.{MapId}
use Rattle.nc_num.specs.declared.places.Span.{Span}
use Rattle.nc_model.specs.declared.owners.Owner.{Owner}
use Rattle.nc_model.specs.declared.owners.Owner.TheVariants.{Thread, Lending}
use Rattle.nc_own.specs.Books.{owner_in}
use Rattle.nc_queue.specs.declared.entry.Entry.{Entry as QueueEntry}
use Rattle.nc_ops.specs.declared.ops.Op.{Op}
use Rattle.nc_scen.specs.Regions.{pool_of, slots_of}
use Rattle.nc_scen.specs.declared.events.Event.TheVariants as events
use Rattle.nc_scen.specs.declared.scenario.Scenario.{Scenario}
use Rattle.nc_sg.specs.Lists.{SgView}
use Rattle.nc_sg.specs.declared.list.Entry.{Entry}
use Rattle.nc_rules.specs.declared.lots.Lot.{Lot}
use Rattle.nc_rules.specs.declared.lots.LotId.{LotId}
use Rattle.nc_rules.specs.declared.lots.Side.TheVariants as sides
use Rattle.nc_rules.specs.declared.steps.Step.{Step}
use Rattle.nc_rules.specs.declared.steps.Turn.TheVariants as turns
use Rattle.nc_rules.specs.Copies.{source, target}
use Rattle.nc_rules.specs.Driver.{DriverState, Went, stands}
use Rattle.nc_rules.specs.declared.steps.Phase.TheVariants.{Work}
use Rattle.nc_rules.specs.declared.steps.Seen.TheVariants as seen
use Rattle.nc_rules.specs.Lots.{DriverConfig, is_lot, map_id, owner_of_side}
use Rattle.nc_rules.specs.Machine.{MachineState, hart_of, queue_of}
use Rattle.nc_rules.specs.Outcomes.{goes, outcome}
use Rattle.nc_rules.specs.Turns.{of_those, to_side, lots_after_both}
use Rattle.nc_rules.specs.EventTouches.{owner_of}
use Rattle.nc_rules.specs.World.{WorldState, driver_of, owners_moved}
use Rattle.nc_scripts.proofs.Lists.{all_in, all_to}
use Rattle.nc_scripts.proofs.LotLaws.{its_name}
use Rattle.nc_holds.proofs.lists.Members.{of_append}
use Rattle.nc_holds.proofs.owners.Lots.{same_named}
use Rattle.nc_holds.proofs.owners.Moves.{moved_off}
use Rattle.nc_holds.proofs.owners.Sides.{side_move, move_covers}
use Rattle.nc_rows.specs.Ahead.{posts, sending}
use Rattle.nc_rows.specs.Laws.{seen_at}
use Rattle.nc_rows.specs.Parts.{rest_last}
use Rattle.nc_rows.specs.Rows.{Loan, Row}
use Rattle.nc_rows.proofs.Steps.{steps_ahead}
use Rattle.nc_flatness.specs.Books.{loan_of, book_of, mapping_in, LiesIn}
use Rattle.nc_flatness.specs.Copying.{IsItsOwn}
use Rattle.nc_flatness.specs.Flatness.{PlanOf, Drives, BytesStand}
use Rattle.nc_flatness.specs.Plans.{HasLend, PlanGoes}
use Rattle.nc_flatness.specs.Tokens.{is_lending_side, is_sent, TokenStands}
use Rattle.nc_flatness.proofs.plans.CopySteps.{both_from}
use Rattle.nc_flatness.proofs.tokens.Lents.{all_sided, sides_mapping}
use Rattle.nc_flatness.proofs.worlds.Outcomes.{gone}
use Rattle.nc_flatness.proofs.books.Owned.{owned_ram, mapped}
use Rattle.nc_flatness.proofs.plans.Rests.{ends_one_next, claim_lends, turn_name}
use Rattle.nc_flatness.proofs.tokens.Stands.{none_stands}
use Rattle.nc_flatness.proofs.tokens.Tokens.{ended_unsent, unlent_unsent}
use Rattle.nc_flat_scripts.proofs.accesses.ActRows.{stays_row}
use Rattle.nc_flatness.proofs.plans.LendingPlans.{plan_left}
use Rattle.nc_flat_starts.proofs.opening.Bases.{me_of, member_beside, member_owner}
use Rattle.nc_flat_starts.proofs.opening.Befores.{driven, known_here, seen_aside}
use Rattle.nc_flat_starts.proofs.turning.Frames.{IsPlace, IsOff, On, Off, somewhere, StaysAside, rewrites_none, loan_hart, loan_aside, rest_hart, last_none}
use Rattle.nc_flat_starts.proofs.turning.Lots.{loan_for, loan_here, own_entry, entry_one}
use Rattle.nc_flat_starts.proofs.turning.Sides.{turned_lot}
use Rattle.nc_flat_starts.proofs.turning.TurnBytes.{turn_bytes}
use Rattle.nc_flat_claims.proofs.ClaimCopies.{IsFreeClaim, claimed_copy}
use Rattle.nc_flat_claims.proofs.ClaimDrivers.{one_lent, both_lent, IsLent, behind_so, far_ends, loan_kept}
use Rattle.nc_flat_claims.proofs.ClaimEnds.{both_lot, EndPlace, end_place, off_ends, IsEndLot, its_end, ends_lent}
use Rattle.nc_flat_claims.proofs.Claimings.{IsClaiming, its_holds, untokened, its_unlent, its_silent, its_restful}
use Rattle.nc_flat_claims.proofs.ClaimRests.{step_is}
use Rattle.nc_flat_claims.proofs.EndRows.{end_row}
use Rattle.nc_flat_claims.proofs.ClaimMachines.{IsClaimNext, claim_goes_by, claim_queued, claim_calm}

-- a place that is none of both ends keeps its owner
ends_off : (sc : Scenario) (f : List ℕ) (w : WorldState) (h : HartNo) (o : Op) (s : Step) (rest : List Step) (x : ℕ) → (k : IsClaiming sc f w h o s rest) → IsOff k.claim.reads x → IsOff k.claim.writes x
    → owner_in (owners_moved w.owners (of_those (to_side (driver_of w h.0).fixed.me sides.Lending) source (driver_of w h.0).lots ++ of_those (to_side (driver_of w h.0).fixed.me sides.Lending) target (one_lent (driver_of w h.0).lots))) x ≡ owner_of w x
ends_off sc f w h o s rest x k off_src off_dst =
    let d = driver_of w h.0 in
    let me = d.fixed.me in
    let c = k.claim in
    let names = (its_holds sc f w h o s rest k).driver.apart in
    let one = of_those (to_side me sides.Lending) source d.lots in
    let two = of_those (to_side me sides.Lending) target (one_lent d.lots) in
    moved_off w.owners (one ++ two) x
    (λ u there over. elim (of_append u one two there) [
      | inl first ↦
          let r = side_move me sides.Lending source d.lots u first in
          let same : r.lot ≡ c.reads = same_named d.lots source r.lot c.reads names r.here.lot_in c.source_is.here r.named (its_name c.reads source c.source_is.id_is) in
          off_src r.i r.entry (record { entry = subst (λ (l : Lot). slice_get l.list.entries r.i ≡ Some r.entry) same r.here.entry; on = move_covers me sides.Lending source d.lots u x r over })
      | inr later ↦
          let r = side_move me sides.Lending target (one_lent d.lots) u later in
          let from = both_from (turns.Lend source) turns.Stay d.lots r.lot r.here.lot_in in
          let was : is_lot target from.0 ≡ true = ap (λ (i : LotId). is_lot target (record from.0 { id = i })) (sym from.2.id) ∙ r.named in
          let same : from.0 ≡ c.writes = same_named d.lots target from.0 c.writes names from.1 c.target_is.here was (its_name c.writes target c.target_is.id_is) in
          let list : r.lot.list ≡ c.writes.list = from.2.list ∙ ap (λ (l : Lot). l.list) same in
          off_dst r.i r.entry (record { entry = subst (λ (v : SgView). slice_get v.entries r.i ≡ Some r.entry) list r.here.entry; on = move_covers me sides.Lending target (one_lent d.lots) u x r over })
    ])

-- its driver goes on with the rest of the plan
its_drives : (sc : Scenario) (f : List ℕ) (w : WorldState) (h : HartNo) (o : Op) (s : Step) (rest : List Step) → IsClaiming sc f w h o s rest → Drives (stands (driver_of w h.0) Work rest (both_lent (driver_of w h.0).lots) seen.Claimed)
its_drives sc f w h o s rest k =
    let d = driver_of w h.0 in
    let fx = d.fixed in
    let now = stands d Work rest (both_lent d.lots) seen.Claimed in
    let goes : PlanGoes fx (both_lent d.lots) rest = subst (λ (t : Step). PlanGoes fx (lots_after_both t.first t.last d.lots) rest) (step_is fx d.lots s rest k.claim) k.left in
    record {
      lots = sides_mapping fx sides.Lending target (one_lent d.lots) (sides_mapping fx sides.Lending source d.lots (k.here.now.flat.bytes.drives h.0 k.here.lt).lots);
      stands = subst (λ (p : Option Op). PlanOf now p) (sym k.hand) ((plan_left now o k.lends).is (record { goes = goes; one = λ light. ends_one_next s rest (k.one light) }));
      idle = tt;
    }

-- no token is queued, and the rest is still to lend both ends
lent_stand : (sc : Scenario) (f : List ℕ) (w : WorldState) (h : HartNo) (o : Op) (s : Step) (rest : List Step) → IsClaiming sc f w h o s rest → All (TokenStands rest (queue_of w.machine h.0)) (both_lent (driver_of w h.0).lots)
lent_stand sc f w h o s rest k =
    let d = driver_of w h.0 in
    let c = k.claim in
    let lends = claim_lends d.fixed c.chan c.config c.reads c.writes s rest c.steps in
    let unsent : Lot → Type 0 = λ lot. is_sent rest lot ≡ false in
    let end_unsent : (id : LotId) (lot : Lot) → HasLend id rest → is_lot id lot ≡ true → is_sent rest (record lot { side = sides.Lending }) ≡ false =
    λ id lot has named. ended_unsent rest (record lot { side = sides.Lending }) (subst (λ (i : LotId). HasLend i rest) (sym (turn_name lot.id id named)) has) in
    let none : All (λ (lot : Lot). is_lending_side lot.side ≡ false) d.lots = all_in (λ (lot : Lot). is_lending_side lot.side ≡ false) d.lots (λ lot there. its_unlent sc f w h o s rest lot k there) in
    let one : All unsent (one_lent d.lots) =
    all_sided (λ (lot : Lot). is_lending_side lot.side ≡ false) unsent sides.Lending source d.lots none (λ lot off named. end_unsent source lot (subst (λ (i : LotId). HasLend i rest) c.source_is.id_is lends.0) named) (λ lot off miss. unlent_unsent rest lot off) in
    let both : All unsent (both_lent d.lots) =
    all_sided unsent unsent sides.Lending target (one_lent d.lots) one (λ lot off named. end_unsent target lot (subst (λ (i : LotId). HasLend i rest) c.target_is.id_is lends.1) named) (λ lot off miss. off) in
    all_to unsent (TokenStands rest (queue_of w.machine h.0)) (both_lent d.lots) both (λ lot off. none_stands rest (queue_of w.machine h.0) lot (λ e queued. untokened sc f w h o s rest lot.id e k queued) off)

pub claimed_bytes : (sc : Scenario) (f : List ℕ) (w : WorldState) (h : HartNo) (o : Op) (s : Step) (rest : List Step) (m : MachineState) (went : Went) → (k : IsClaiming sc f w h o s rest) → IsClaimNext w m → IsFreeClaim w h k.claim.chan m → IsLent (driver_of w h.0) rest went
    → outcome w (events.Issue h) ≡ goes w h m went w.slots None [] → BytesStand sc f (gone w h m went)
claimed_bytes sc f w h o s rest m went k next free lent is =
    let d = driver_of w h.0 in
    let fx = d.fixed in
    let c = k.claim in
    let flat = k.here.now.flat in
    let v = gone w h m went in
    let lt = driven sc f w h flat k.here.lt in
    let b = behind_so sc f w h o s rest m went k is in
    let a = ends_lent sc f w h o s rest k in
    let both = both_lot c.reads a.first a.second in
    let fixed : went.driver.fixed ≡ fx = ap (λ (j : DriverState). j.fixed) lent.driver in
    let lots : went.driver.lots ≡ both_lent d.lots = ap (λ (j : DriverState). j.lots) lent.driver in
    let left : went.driver.rest ≡ rest = ap (λ (j : DriverState). j.rest) lent.driver in
    let me : went.driver.fixed.me ≡ h = ap (λ (x : DriverConfig). x.me) fixed ∙ me_of w h (its_holds sc f w h o s rest k).me in
    let place_so : (i : ℕ) (e : Entry) (x : ℕ) → IsPlace both i e x → EndPlace h c.reads c.writes i e x = λ i e x place. end_place h c.reads c.writes a i e x place in
    let end : (lot : Lot) → (lot ≡ c.reads) ⊎ (lot ≡ c.writes) → IsEndLot sc f w h rest went lot = λ lot which. its_end sc f w h o s rest went lot k lent which in
    let known : (lot : Lot) (e : Entry) → (lot ≡ c.reads) ⊎ (lot ≡ c.writes) → slice_get lot.list.entries 0 ≡ Some e → (book_of v).loan (map_id h lot.id 0) ≡ Some (loan_for fx h lot 0 e) =
    λ lot e which there.
    let g = end lot which in
    let now = turned_lot sides.Lending lot in
    loan_hart w h m went (map_id h lot.id 0) lt refl
    ∙ loan_here went.driver.fixed h went.driver.lots now 0 e (record { lot_in = g.behind; entry = there }) refl
    (λ other here named. entry_one (length m.cache.ram) went.driver.fixed went.driver.lots other now (map_id h lot.id 0) b.there b.names here g.behind named (own_entry h now 0 e there))
    ∙ ap (λ (x : DriverConfig). Some (loan_for x h lot 0 e)) fixed in
    let rest_now : (book_of v).rest h.0 ≡ rest = rest_hart w h m went h.0 lt refl ∙ left in
    let on : (i : ℕ) (e : Entry) (x : ℕ) → IsPlace both i e x → owner_in (owners_moved w.owners went.moves.transfers) x ≡ Lending (map_id h both.id i) =
    λ i e x place.
    let p = place_so i e x place in
    b.owners (turned_lot sides.Lending p.lot) 0 e x (record { lot_in = (end p.lot p.which).behind; entry = p.place.entry }) p.place.on ∙ ap (λ (g : HartNo). Lending (map_id g p.lot.id 0)) me ∙ ap Lending (sym p.name) in
    let off : (x : ℕ) → IsOff both x → owner_in (owners_moved w.owners went.moves.transfers) x ≡ owner_of w x =
    λ x beside.
    let q = off_ends c.reads c.writes a x beside in
    ap (λ (ts : List (Span × Owner)). owner_in (owners_moved w.owners ts) x) lent.transfers ∙ ends_off sc f w h o s rest x k q.0 q.1 in
    let was : (i : ℕ) (e : Entry) (x : ℕ) → IsPlace both i e x → owner_of w x ≡ Thread h =
    λ i e x place.
    let p = place_so i e x place in
    let g = end p.lot p.which in
    member_owner sc f w h d.lots p.lot 0 e x g.member p.place.entry p.place.on ∙ ap (owner_of_side (map_id h p.lot.id 0)) g.wanted in
    let beside_so : (i : ℕ) (e : Entry) (x : ℕ) → IsPlace both i e x → (covers (pool_of sc) x ≡ false) × (covers (slots_of sc) x ≡ false) =
    λ i e x place.
    let p = place_so i e x place in
    let g = end p.lot p.which in
    member_beside sc f w h d.lots p.lot 0 e x g.member g.plain p.place.entry p.place.on in
    let unowned : (i : ℕ) (e : Entry) (x : ℕ) (n : MapId) → IsPlace both i e x → mapping_in (owner_of w x) ≡ Some n → ⊥ = λ i e x n place mapped. let no : None ≡ Some n = sym (ap mapping_in (was i e x place)) ∙ mapped in absurd cc in
    let stays : (n : MapId) (l : Loan) → n.hart.0 ≡ h.0 → (book_of w).loan n ≡ Some l → loan_of went.driver n ≡ loan_of d n = λ n l own there. loan_kept sc f w h o s rest went n k lent (far_ends sc f w h o s rest n l k own there) in
    let others : (x : ℕ) (n : MapId) → mapping_in (owner_of w x) ≡ Some n → StaysAside w h went (owner_of w x) n =
    λ x n there own. let l = mapped sc f w n x flat (owned_ram sc f w x n flat there) there in (stays n l.loan own l.known, inl (its_restful sc f w h o s rest x n k there own)) in
    let silent_both : (b : ℕ) → (posts b s ≡ false) × (list_any (posts b) rest ≡ false) = λ b. or_parts (posts b s) (list_any (posts b) rest) (its_silent sc f w h o s rest b k) in
    turn_bytes sc f f w h m went both (λ n. Lending n) flat lt (rewrites_none sc f w h both) (claim_goes_by sc f w h m flat.bytes next) (record {
      on = λ i e x there place. on i e x place;
      off = off;
      unslotted = λ i e x place. (beside_so i e x place).1;
      mine = λ i e x n place mapped. absurd (unowned i e x n place mapped);
      threads = λ i e x n place owner. let same : Thread h ≡ Thread n = sym (was i e x place) ∙ owner in cc;
      along = λ n. false;
      others = λ x n there beside mapped own. let r = others x n mapped own in (r.0, λ off. r.1);
      goes_along = λ x n there unslotted beside mapped own along. absurd cc;
      areas = λ x n l beside own there area over. stays n l own there ∙ known_here w h n l own there;
      pooled = λ i e x place over. absurd (both_ways (covers (pool_of sc) x) (beside_so i e x place).0 over);
      free = λ i e x place over. absurd (both_ways (covers (pool_of sc) x) (beside_so i e x place).0 over);
      silent = λ b.
          ap (λ (ss : List Step). sending b ss) left ∙ steps_ahead.send_none b rest (silent_both b).1
          ∙ sym (ap (λ (ss : List Step). sending b ss) k.rest_is ∙ steps_ahead.send_none b (s ∷ rest) (its_silent sc f w h o s rest b k));
      fixed = fixed;
      drives = subst (λ (j : DriverState). Drives j) (sym lent.driver) (its_drives sc f w h o s rest k);
      lasting = last_none (book_of v) f h.0 (hart_of m h.0).last (rest_last went.driver.rest) (ap rest_last left ∙ c.next);
      queue = claim_queued sc f w h o s rest m (book_of v) (owner_of v) k next;
      tokens = λ light.
          subst (λ (ls : List Lot). All (TokenStands went.driver.rest (queue_of m h.0)) ls) (sym lots)
          (subst (λ (r : List Step). All (TokenStands r (queue_of m h.0)) (both_lent d.lots)) (sym left)
          (subst (λ (q : List QueueEntry). All (TokenStands rest q) (both_lent d.lots)) (sym (next.stays.queues h.0)) (lent_stand sc f w h o s rest k)));
      passes = λ x u there unslotted beside off row. stays_row (book_of w) (owner_of w x) u w.machine m x next.shape next.stays row;
      lies = λ i e x n there place mapped.
          let p = place_so i e x place in
          let same : map_id h p.lot.id 0 ≡ n = sym p.name ∙ (let is : map_id h both.id i ≡ n = cc in is) in
          subst (λ (j : MapId). LiesIn ((book_of v).loan j) x) same (subst (λ (l : Option Loan). LiesIn l x) (sym (known p.lot e p.which p.place.entry)) p.place.on);
      row = λ i e x there place row.
          let p = place_so i e x place in
          let g = end p.lot p.which in
          let before : Row (book_of w) (owner_of_side (map_id h p.lot.id 0) p.lot.side) (byte f x) w.machine x = subst (λ (q : Owner). Row (book_of w) q (byte f x) w.machine x) (member_owner sc f w h d.lots p.lot 0 e x g.member p.place.entry p.place.on) row in
          let now = end_row sc f w h p.lot rest 0 e x (byte f x) (book_of v) g.member g.plain g.wanted p.place g.may g.lends (known p.lot e p.which p.place.entry) rest_now before in
          subst (λ (j : MapId). Row (book_of v) (Lending j) (byte f x) m x) (sym p.name) (stays_row (book_of v) (Lending (map_id h p.lot.id 0)) (byte f x) w.machine m x next.shape next.stays now);
      calm = λ z over unseen.
          claim_calm sc f w m z flat.bytes next over
          (λ x unslotted same. elim (somewhere both x) [
            | On i e place ↦
                let here : x ≡ z = sym (ap (λ (p : Owner). seen_at (book_of w) p x) (was i e x place)) ∙ same in
                both_ways (covers (slots_of sc) x) unslotted (subst (λ (y : ℕ). covers (slots_of sc) y ≡ true) (sym here) over)
            | Off beside ↦
                unseen x unslotted
                (ap (λ (p : Owner). seen_at (book_of v) p x) (off x beside) ∙ seen_aside (book_of w) (book_of v) (owner_of w x) x (λ n mapped. loan_aside w h m went (owner_of w x) n lt (others x n mapped)) ∙ same)
          ]);
      copying = claimed_copy sc f w h o s rest m went k lent free
          (λ x own. elim (somewhere both x) [
            | On i e place ↦ subst (λ (q : Owner). IsItsOwn h.0 q) (sym (on i e x place)) (refl, a.label)
            | Off beside ↦ subst (λ (q : Owner). IsItsOwn h.0 q) (sym (off x beside)) own
          ]);
    })
