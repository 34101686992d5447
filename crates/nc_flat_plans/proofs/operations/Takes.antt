-- The steps with which the ends of a copy are taken back: the destination with the drop of its first block, and the source,
-- which the device only read, with the full fence that ends it.
use Rattle.std.specs.Prelude.{Some, All, ◌/◌, ◌||◌, true, false, slice_get}
use Rattle.std.specs.List.{list_any}
use Rattle.std.proofs.Common.{◌≡◌, ℕ, List, ◌∷◌, ◌++◌, refl, sym, ap, ◌∙◌, inl, inr, subst}
use Rattle.std.proofs.lemmas.Bool.{both_ways, or_from}
use Rattle.std.proofs.lemmas.List.{append-nil}
use Rattle.nc_num.specs.Memory.{byte}
use Rattle.nc_num.specs.Places.{covers}
use Rattle.nc_num.specs.declared.names.HartNo.{HartNo}
use Rattle.nc_num.specs.declared.places.Span.{Span}
use Rattle.nc_plan.specs.Parts.{comes_back}
use Rattle.nc_plan.specs.Plans.{full, In}
use Rattle.nc_plan.specs.declared.ops.HartOp.TheVariants as hart_ops
use Rattle.nc_queue.specs.Entries.{has_op}
use Rattle.nc_queue.specs.Laws.{Stands}
use Rattle.nc_queue.specs.declared.entry.Entry.{Entry as QueueEntry}
use Rattle.nc_queue.specs.declared.entry.Entry.TheVariants as entries
use Rattle.nc_model.specs.declared.owners.Owner.{Owner}
use Rattle.nc_ops.specs.declared.ops.Op.{Op}
use Rattle.nc_scen.specs.declared.events.Event.TheVariants as events
use Rattle.nc_scen.specs.declared.scenario.Scenario.{Scenario}
use Rattle.nc_rules.specs.declared.lots.Lot.{Lot}
use Rattle.nc_rules.specs.declared.lots.LotId.{LotId}
use Rattle.nc_rules.specs.declared.lots.Side.TheVariants as sides
use Rattle.nc_rules.specs.declared.steps.Step.{Step}
use Rattle.nc_rules.specs.declared.steps.Turn.{Turn}
use Rattle.nc_rules.specs.declared.steps.Turn.TheVariants as turns
use Rattle.nc_rules.specs.Lots.{DriverConfig, is_lot}
use Rattle.nc_rules.specs.Calls.{issue_next}
use Rattle.nc_rules.specs.Machine.{hart_of, queue_of}
use Rattle.nc_rules.specs.Turns.{is_area, set_side, lots_after, lots_after_both, transfers_of}
use Rattle.nc_rules.specs.Driver.{is_script}
use Rattle.nc_rules.specs.EventTouches.{owner_of}
use Rattle.nc_rules.specs.World.{WorldState, driver_of}
use Rattle.nc_calls.specs.PlaceLaws.{drops_copies}
use Rattle.nc_scripts.proofs.Lists.{all_in}
use Rattle.nc_holds.proofs.lists.Members.{all_at}
use Rattle.nc_rows.specs.Ahead.{same_lot, turns_lot, stores_io, tokens_lot, ends, is_full, act_coming, coming}
use Rattle.nc_rows.specs.Parts.{IsDropped, rest_last}
use Rattle.nc_row_issues.proofs.PlacePushes.{calm_pushed}
use Rattle.nc_row_issues.proofs.RowIssues.{rows_issue}
use Rattle.nc_row_plans.proofs.PlanBegins.{rows_begin}
use Rattle.nc_flatness.specs.Books.{book_of}
use Rattle.nc_flatness.specs.Plans.{HasEnd, IsBeside, IsTaken, IsTakeTarget, IsTakeSource, device_of}
use Rattle.nc_flatness.specs.Steps.{Goes}
use Rattle.nc_flatness.specs.Tokens.{is_lending_side}
use Rattle.nc_flatness.proofs.books.Loans.{one_lot, loan_is}
use Rattle.nc_flatness.proofs.worlds.Outcomes.{gone}
use Rattle.nc_flatness.proofs.plans.Rests.{full_ends, behind, by_turn, kept_in, turn_name}
use Rattle.nc_flatness.proofs.books.Seen.{device_covers, device_place_of}
use Rattle.nc_flatness.proofs.tokens.Tokens.{unlent_unsent}
use Rattle.nc_flatness.proofs.tokens.Lents.{all_sided}
use Rattle.nc_flat_starts.proofs.turning.Frames.{IsPlace, goes_still, rest_hart, last_none}
use Rattle.nc_flat_plans.proofs.places.OwnRows.{BackAs, dir_map, either_true, back_op}
use Rattle.nc_flat_plans.proofs.places.Passes.{drops_kept, op_plain, op_byte, op_block, op_whole, passes_by}
use Rattle.nc_flat_plans.proofs.drivers.Drivers.{IsNext, done_so, coming_next, same_id}
use Rattle.nc_flat_plans.proofs.areas.PoolPlaces.{lent_pooled, pool_apart}
use Rattle.nc_flat_plans.proofs.places.Places.{IsUnder, its_id, its_loan, its_place, known, device_unpooled, waits_far}
use Rattle.nc_flat_plans.proofs.places.Besides.{posted_beside}
use Rattle.nc_flat_plans.proofs.drivers.OwnCopies.{channels_stay, channels_entered}
use Rattle.nc_flat_plans.proofs.drivers.Shifts.{sided, seen_mapped, held, side_shift, taken_shift}
use Rattle.nc_flat_plans.proofs.light.StepTokens.{IsUnsent, same_entered, turned_tokens}
use Rattle.nc_flat_plans.proofs.drivers.StepFrames.{driven, known_now, step_bytes, enters_by}
use Rattle.nc_flat_plans.proofs.drivers.StepQueues.{own_drop, other_zeroed, queue_stays, queue_more, queue_clear}
use Rattle.nc_flat_plans.proofs.drivers.StepSeen.{unseen_before}
use Rattle.nc_flat_plans.proofs.places.OwnPlaces.{to_come, given_as, as_taken, home_to}
use Rattle.nc_flat_plans.proofs.operations.Cbos.{dropped_queued}
use Rattle.nc_flat_plans.proofs.operations.Backs.{home_bytes}
use Rattle.nc_flat_plans.proofs.operations.Fences.{fence_event}
use Rattle.nc_flat_plans.proofs.drivers.Issues.{IsOpNext, op_may, op_enters, emptied, kept_silent, went_by, op_goes}
use Rattle.nc_flat_plans.proofs.places.Waits.{waits_put, waits_fence}

-- ---- the lot before the step

-- what is beside it is still
taken_beside : (f : DriverConfig) (lots : List Lot) (lot : Lot) → All (λ other. is_lot lot.id other ≡ false → IsBeside f (record lot { side = sides.Returning }) other) (set_side sides.Returning lot.id lots) → All (λ other. is_lot lot.id other ≡ false → IsBeside f lot other) lots
taken_beside f lots lot all =
    let P : Lot → Type 0 = λ (other : Lot). is_lot lot.id other ≡ false → IsBeside f (record lot { side = sides.Returning }) other in
    all_in (λ (other : Lot). is_lot lot.id other ≡ false → IsBeside f lot other) lots (λ other here off. elim (all_at P (set_side sides.Returning lot.id lots) other all (kept_in sides.Returning lot.id lots other off here) off) [
      | inl still ↦ inl still
      | inr waits ↦ let both : sides.Returning ≡ sides.Lending = waits.lent in absurd (cc)
    ])

taken_under : (sc : Scenario) (f : List ℕ) (w : WorldState) (h : HartNo) (o : Op) (s : Step) (rest : List Step) (lot : Lot) → IsNext sc f w h o s rest → IsTaken (driver_of w h.0).lots lot s → HasEnd lot.id (s ∷ rest)
    → All (λ other. is_lot lot.id other ≡ false → IsBeside (driver_of w h.0).fixed (record lot { side = sides.Returning }) other) (set_side sides.Returning lot.id (driver_of w h.0).lots) → IsUnder sc f w h lot
taken_under sc f w h o s rest lot next taken ended others = record {
  flat = next.now.flat;
  lt = next.now.there;
  here = taken.here;
  others = taken_beside (driver_of w h.0).fixed (driver_of w h.0).lots lot others;
  moves = inr (inr taken.side);
  ended = subst (λ (r : List Step). HasEnd lot.id r) (sym next.rest_is) ended;
}

-- none of its tokens is queued
taken_unsent : (sc : Scenario) (f : List ℕ) (w : WorldState) (h : HartNo) (s : Step) (rest : List Step) (lot : Lot) → IsUnder sc f w h lot → IsTaken (driver_of w h.0).lots lot s → ((id : LotId) → turns_lot id s.last ≡ true → same_lot id lot.id ≡ true) → IsUnsent (driver_of w h.0) s rest
taken_unsent sc f w h s rest lot u taken last = record {
  lends = λ id is. let both : turns.Return lot.id ≡ turns.Lend id = sym taken.first ∙ is in absurd cc;
  unsent = λ other here is.
      let named : same_lot other.id lot.id ≡ true = sym (ap (turns_lot other.id) taken.first) ∙ is in
      let same : other ≡ lot = one_lot sc f w h.0 other lot u.flat here u.here (turn_name other.id lot.id named) in
      unlent_unsent (s ∷ rest) other (ap (λ (l : Lot). is_lending_side l.side) same ∙ ap is_lending_side taken.side);
  last = λ other here is.
      let lots = (driver_of w h.0).lots in
      let Q : Lot → Type 0 = λ (l : Lot). same_lot l.id lot.id ≡ true → is_lending_side l.side ≡ false in
      let all : All Q (set_side sides.Returning lot.id lots) =
      all_sided (λ (l : Lot). In l lots) Q sides.Returning lot.id lots (all_in (λ (l : Lot). In l lots) lots (λ l there. there)) (λ l there hit named. refl) (λ l there miss named. absurd (both_ways (same_lot l.id lot.id) miss named)) in
      let there : In other (set_side sides.Returning lot.id lots) = subst (λ (t : Turn). In other (lots_after t lots)) taken.first here in
      unlent_unsent (s ∷ rest) other (all_at Q (set_side sides.Returning lot.id lots) other all there (last other.id is));
}

taken_plain : (lots : List Lot) (lot : Lot) (s : Step) → IsTaken lots lot s → is_area lot.kind ≡ false
taken_plain lots lot s taken = ap is_area taken.kind

-- ---- the destination

pub target_goes : (sc : Scenario) (f : List ℕ) (w : WorldState) (h : HartNo) (o : Op) (s : Step) (rest : List Step) → IsNext sc f w h o s rest → IsTakeTarget (driver_of w h.0).fixed (driver_of w h.0).lots s rest → Goes sc f w (events.Issue h)
target_goes sc f w h o s rest next is =
    let d = driver_of w h.0 in
    let m = w.machine in
    let lot = is.lot in
    let dir = lot.list.dir in
    let g = is.goes in
    let cbo = hart_ops.Cbo g.op g.block in
    let e = entries.Cbo g.block g.op in
    let n = issue_next m h.0 cbo in
    let went = went_by w h cbo in
    let v = gone w h n went in
    let k : IsOpNext sc f w h o cbo s rest = record { next = next; act = ap (λ (t : Step). t.act) g.step } in
    let last : s.last ≡ turns.Stay = ap (λ (t : Step). t.last) g.step in
    let name : g.lot.id ≡ lot.id = ap (λ (l : Lot). l.id) is.same in
    let back : comes_back dir ≡ true = sym (ap (λ (l : Lot). comes_back l.list.dir) is.same) ∙ g.back in
    let later : HasEnd lot.id rest = subst (λ (id : LotId). HasEnd id rest) name (full_ends g.lot.id rest g.ahead) in
    let plain = taken_plain d.lots lot s is.taken in
    let others : All (λ other. is_lot lot.id other ≡ false → IsBeside d.fixed (record lot { side = sides.Returning }) other) (set_side sides.Returning lot.id d.lots) =
    subst (λ (l : Lot). All (λ other. is_lot l.id other ≡ false → IsBeside d.fixed l other) (set_side sides.Returning lot.id d.lots)) is.same g.hand.others in
    let u : IsUnder sc f w h lot = taken_under sc f w h o s rest lot next is.taken (behind lot.id s rest later) others in
    let done = done_so sc f w h o s rest _ next refl refl in
    let moves : went.moves.transfers ≡ transfers_of d.fixed.me d.lots (turns.Return lot.id) =
    done.transfers ∙ ap {B = List (Span × Owner)} (λ (t : Turn). transfers_of d.fixed.me d.lots s.first ++ transfers_of d.fixed.me (lots_after s.first d.lots) t) last ∙ append-nil (transfers_of d.fixed.me d.lots s.first)
    ∙ ap {B = List (Span × Owner)} (λ (t : Turn). transfers_of d.fixed.me d.lots t) is.taken.first in
    let lots : went.driver.lots ≡ set_side sides.Returning lot.id d.lots = done.lots ∙ ap (λ (t : Turn). lots_after_both s.first t d.lots) last ∙ ap (λ (t : Turn). lots_after t d.lots) is.taken.first in
    let shift = side_shift sc f w h went lot sides.Returning u refl done.fixed lots moves in
    let by = op_enters sc f w h o cbo s rest e k refl in
    let kept = drops_kept g.op g.drops in
    let off : (id : LotId) → ends id s ≡ false = λ id. ap (λ (t : Turn). turns_lot id t || stores_io (tokens_lot id) s.act) last ∙ ap (stores_io (tokens_lot id)) k.act in
    let size : d.fixed.size ≡ m.size = sym (held sc f w h lot u).setting.block in
    let comes : (i : ℕ) → to_come h lot i (s ∷ rest) ≡ e ∷ to_come h lot i rest = λ i. coming_next lot (its_id h lot i) s rest later (off lot.id) ∙ ap (λ (es : List QueueEntry). es ++ to_come h lot i rest) (ap act_coming k.act) in
    let there : slice_get lot.list.entries g.i ≡ Some g.entry = subst (λ (l : Lot). slice_get l.list.entries g.i ≡ Some g.entry) is.same g.here.entry in
    let id = its_id h lot g.i in
    let l = its_loan w h lot g.i g.entry in
    let at = device_place_of w id l g.place (loan_is sc f w id l u.flat (known sc f w h lot g.i g.entry u there)) g.covered in
    let p : IsPlace lot g.i g.entry at.place = record { entry = there; on = at.on } in
    let dropped : IsDropped (book_of v) (owner_of v) m.size h.0 g.block.0 = record {
      id = id;
      loan = l;
      lent = known_now sc f w h n went lot (sided sides.Returning) g.i g.entry u shift (seen_mapped id sides.Returning (inr (inr refl))) there;
      own = refl;
      back = back;
      ahead = ap (λ (r : List Step). list_any is_full (to_come h lot g.i r)) (rest_hart w h n went h.0 (driven sc f w h lot u) refl ∙ done.rest) ∙ subst (λ (j : LotId). list_any is_full (coming id j rest) ≡ true) name (g.ahead id);
      place = at.place;
      owned = shift.on g.i g.entry at.place p;
      here = ap (λ (y : ℕ). y / m.size) at.here ∙ ap (λ (z : ℕ). g.place / z) (sym size) ∙ g.met;
    } in
    op_goes sc f w h o cbo s rest k (kept_silent w h (is_script d.phase) g.op g.block kept)
    (step_bytes sc f w h o s rest n went lot (sided sides.Returning) next done u plain shift (enters_by sc f w h n e u.flat by refl) (record {
      passes = λ x b below slot beyond still row.
          rows_issue.passed (book_of w) (owner_of w x) b m n h.0 e x by
          (passes_by (book_of w) (owner_of w x) m h.0 e x (op_plain g.block g.op) (record {
            byte = op_byte m g.block g.op x kept;
            device = op_byte m g.block g.op _ kept;
            block = λ j q lent has area comes_too. op_block m g.block g.op _ kept;
            area = λ j q owner has area.
                op_whole m g.block g.op x kept (λ met. pool_apart sc f w x (its_place w h lot g.i g.entry at.place) u.flat (lent_pooled sc f w j q x u.flat below owner has area) (device_unpooled sc f w h lot g.i g.entry at.place u plain p) (dropped.here ∙ sym met));
            token = λ j owner own. refl;
          }) (posted_beside sc f w h lot x u still)) row;
      waits = λ x below slot beyond at row.
          waits_put sc f w h o s rest n went lot (sided sides.Returning) e x next done u shift by (ap act_coming k.act) at (off at.other.at.is.lot.id) (op_byte m g.block g.op x kept) (op_byte m g.block g.op _ kept) row;
      channels = channels_entered m n h.0 e by refl;
      row = λ i c x q row.
          let b = byte f x in
          let j = its_id h lot i in
          let y = its_place w h lot i c x in
          let ahead = to_come h lot i rest in
          let has = given_as sc f w h m lot i c x b u plain q is.taken.side row in
          let on : covers (device_of d.fixed c) y ≡ true = device_covers w j (its_loan w h lot i c) x (loan_is sc f w j (its_loan w h lot i c) u.flat (known sc f w h lot i c u q.entry)) q.on in
          let stands : Stands (has_op drops_copies (y / m.size)) is_full (e ∷ ahead) =
          subst (λ (z : ℕ). Stands (has_op drops_copies (y / z)) is_full (e ∷ ahead)) size (subst (λ (es : List QueueEntry). Stands (has_op drops_copies (y / d.fixed.size)) is_full es) (comes i) (is.drops j i c y q.entry on)) in
          let fenced : list_any is_full (e ∷ ahead) ≡ true = subst (λ (a : LotId). list_any is_full (coming j a rest) ≡ true) name (g.ahead j) in
          let opened : BackAs dir j b (e ∷ ahead) m x y = dir_map dir _ _ _ _ (λ stays to. to) (λ comes_too from. either_true (list_any is_full (e ∷ ahead)) _ _ fenced (rows_begin.take_back m j b x y (e ∷ ahead) (u.flat.bytes.unfenced h.0) stands from)) has in
          as_taken sc f w h n went lot i c x b rest u plain q shift done.rest
          (back_op dir m n e j b x y ahead by refl (λ z. op_byte m g.block g.op z kept) (λ z. op_block m g.block g.op z kept) opened);
      queue = queue_more (book_of v) (owner_of v) m n h.0 e by (dropped_queued w v h.0 g.op g.block.0 g.drops dropped)
          (queue_stays sc f w h n went u.flat
          (λ b was. let drop = own_drop sc f w h lot s rest b u next.rest_is was in let both : sides.Device ≡ sides.Returning = sym is.taken.side ∙ drop.side in absurd (cc))
          (λ b was. other_zeroed sc f w h n went lot (sided sides.Returning) s rest b u plain next.rest_is done.rest shift (λ j none. off j) was));
      lasting = last_none (book_of v) f h.0 (hart_of n h.0).last (rest_last went.driver.rest) (ap rest_last done.rest ∙ g.next);
      calm = λ z slot unseen. calm_pushed m n h.0 e z by (op_byte m g.block g.op z kept) (u.flat.bytes.calm z slot (unseen_before sc f w h n went lot sides.Returning z u shift (inr (inr refl)) unseen));
      tokens = turned_tokens sc f w h o s rest n went next done (taken_unsent sc f w h s rest lot u is.taken (λ j on. let both : false ≡ true = sym (ap (turns_lot j) last) ∙ on in absurd cc)) (λ j. ap (stores_io (tokens_lot j)) k.act) (same_entered m n h e by (λ j. refl));
    }))

-- ---- the source

pub source_goes : (sc : Scenario) (f : List ℕ) (w : WorldState) (h : HartNo) (o : Op) (s : Step) (rest : List Step) → IsNext sc f w h o s rest → IsTakeSource (driver_of w h.0).fixed (driver_of w h.0).lots s rest → Goes sc f w (events.Issue h)
source_goes sc f w h o s rest next is =
    let d = driver_of w h.0 in
    let m = w.machine in
    let lot = is.lot in
    let dir = lot.list.dir in
    let g = is.goes in
    let went = went_by w h full in
    let v = gone w h m went in
    let k : IsOpNext sc f w h o full s rest = record { next = next; act = ap (λ (t : Step). t.act) g.step } in
    let plain = taken_plain d.lots lot s is.taken in
    let others : All (λ other. is_lot lot.id other ≡ false → IsBeside d.fixed (record lot { side = sides.Returning }) other) (set_side sides.Returning lot.id d.lots) =
    subst (λ (l : Lot). All (λ other. is_lot l.id other ≡ false → IsBeside d.fixed l other) (set_side sides.Returning lot.id d.lots)) is.same g.hand.others in
    let u : IsUnder sc f w h lot = taken_under sc f w h o s rest lot next is.taken (by_turn lot.id s rest (turns.End lot.id) is.last (same_id lot.id)) others in
    let done = done_so sc f w h o s rest _ next refl refl in
    let none = emptied w h (op_may sc f w h o full s rest k) in
    let lots = done.lots ∙ ap (λ (t : Turn). lots_after_both s.first t d.lots) is.last ∙ ap (λ (t : Turn). lots_after_both t (turns.End lot.id) d.lots) is.taken.first in
    let moves = done.transfers ∙ ap {B = List (Span × Owner)} (λ (t : Turn). transfers_of d.fixed.me d.lots s.first ++ transfers_of d.fixed.me (lots_after s.first d.lots) t) is.last
    ∙ ap {B = List (Span × Owner)} (λ (t : Turn). transfers_of d.fixed.me d.lots t ++ transfers_of d.fixed.me (lots_after t d.lots) (turns.End lot.id)) is.taken.first in
    let shift = taken_shift sc f w h went lot u plain done.fixed lots moves in
    fence_event sc f w h o s rest k
    (home_bytes sc f w h o s rest m went lot next done u plain (record { synced = false; shift = shift }) g.next (goes_still sc f w h u.flat.bytes) (record {
      passes = λ x b below slot beyond still row. row;
      waits = λ x below slot beyond at row.
          let it = at.other.at.is.lot in
          waits_fence sc f w h o s rest went lot (home_to h false) x (byte f x) next done u shift (ap act_coming k.act) none at
          (or_from (turns_lot it.id s.last) (stores_io (tokens_lot it.id) s.act) (ap (turns_lot it.id) is.last ∙ waits_far sc f w h lot x u at) (ap (stores_io (tokens_lot it.id)) k.act)) row;
      channels = channels_stay m h.0;
      back = λ i c x q row.
          let has = given_as sc f w h m lot i c x (byte f x) u plain q is.taken.side row in
          dir_map dir _ _ _ _ (λ stays to. to) (λ comes from. absurd (both_ways (comes_back dir) is.stays comes)) has;
      queue = queue_clear (book_of v) (owner_of v) m.pool m.size h.0 (queue_of m h.0) none;
      stays = λ z slot calm. calm;
      tokens = turned_tokens sc f w h o s rest m went next done (taken_unsent sc f w h s rest lot u is.taken (λ j on. sym (ap (turns_lot j) is.last) ∙ on)) (λ j. ap (stores_io (tokens_lot j)) k.act) (λ j. refl);
    }))
