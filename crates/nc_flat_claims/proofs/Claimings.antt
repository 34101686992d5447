-- A hart whose copy claims its channel next: its two ends wait to be lent, each other lot is still, and no entry of class O
-- is queued.
use Rattle.std.specs.Prelude.{Some, All, ◌*◌, Bool, true, false, not}
use Rattle.std.specs.List.{list_any}
use Rattle.std.proofs.Common.{◌≡◌, ℕ, List, [], ◌∷◌, length, refl, sym, ap, ◌∙◌, inl, inr, subst}
use Rattle.std.proofs.lemmas.Bool.{both_ways, false_from_ne_true}
use Rattle.nc_num.proofs.Blocks.{start_of_block}
use Rattle.nc_num.specs.declared.names.HartNo.{HartNo}
use Rattle.nc_num.specs.declared.names.MapId.{MapId}
use Rattle.nc_num.specs.declared.places.Span.{Span}
use Rattle.nc_env.specs.declared.CboOp.TheVariants as cbos
use Rattle.nc_queue.specs.Entries.{is_o}
use Rattle.nc_queue.specs.declared.entry.Entry.{Entry as QueueEntry}
use Rattle.nc_queue.specs.declared.entry.Entry.TheVariants as entries
use Rattle.nc_model.specs.declared.owners.Owner.{Owner}
use Rattle.nc_plan.specs.Plans.{In}
use Rattle.nc_sg.specs.declared.list.Entry.{Entry}
use Rattle.nc_ops.specs.declared.ops.Op.{Op}
use Rattle.nc_scen.specs.declared.scenario.Scenario.{Scenario}
use Rattle.nc_rules.specs.declared.lots.Kind.{Kind}
use Rattle.nc_rules.specs.declared.lots.Kind.TheVariants.{Copy}
use Rattle.nc_rules.specs.declared.lots.Lot.{Lot}
use Rattle.nc_rules.specs.declared.lots.LotId.{LotId}
use Rattle.nc_rules.specs.declared.lots.Side.{Side}
use Rattle.nc_rules.specs.declared.lots.Side.TheVariants as sides
use Rattle.nc_rules.specs.declared.steps.Next.TheVariants as nexts
use Rattle.nc_rules.specs.declared.steps.Phase.{Phase}
use Rattle.nc_rules.specs.declared.steps.Phase.TheVariants.{Work}
use Rattle.nc_rules.specs.declared.steps.Step.{Step}
use Rattle.nc_rules.specs.Calls.{io_waits}
use Rattle.nc_rules.specs.Copies.{source, target, copy_steps}
use Rattle.nc_rules.specs.Driver.{in_hand, next_act, next_of}
use Rattle.nc_rules.specs.Lots.{DriverConfig, is_lot, is_wanted, lot_waits, owner_of_side}
use Rattle.nc_rules.specs.Machine.{queue_of}
use Rattle.nc_rules.specs.Turns.{is_area, lots_after_both}
use Rattle.nc_rules.specs.EventTouches.{owner_of}
use Rattle.nc_rules.specs.World.{WorldState, driver_of}
use Rattle.nc_scripts.specs.Drivers.{FitsKind, IsAtWork, IsPhase}
use Rattle.nc_scripts.proofs.Lists.{all_to}
use Rattle.nc_scripts.proofs.LotLaws.{its_name}
use Rattle.nc_holds.specs.Holds.{DriverHolds}
use Rattle.nc_holds.proofs.events.From.{everyone_from}
use Rattle.nc_holds.proofs.lists.Members.{all_at, none_at}
use Rattle.nc_holds.proofs.owners.Lots.{same_named}
use Rattle.nc_rows.specs.Ahead.{posts}
use Rattle.nc_rows.specs.Parts.{IsQueued}
use Rattle.nc_rows.specs.Rows.{Book}
use Rattle.nc_flatness.specs.Books.{book_of, mapping_in}
use Rattle.nc_flatness.specs.Lending.{is_lending}
use Rattle.nc_flatness.specs.Plans.{IsStill, StillDevice, StillSynced, StillOwn, StillSent, HasEnd, IsClaim, PlanGoes, EndsOne}
use Rattle.nc_flatness.specs.Tokens.{lot_token, is_lot_token, is_lending_side, ends_lending, TokenStands}
use Rattle.nc_flatness.proofs.books.Owned.{owned_ram, mapped}
use Rattle.nc_flatness.proofs.plans.Rests.{lend_has_end, same_id, copy_ends, lend_light, ends_two}
use Rattle.nc_flatness.proofs.tokens.Tokens.{lent_sent, sent_queued}
use Rattle.nc_flat_scripts.proofs.accesses.ScriptEvents.{IsHere, may_next}
use Rattle.nc_flat_scripts.proofs.handing.SendEvents.{next_work}
use Rattle.nc_flat_starts.proofs.opening.Bases.{IsMember, member_lot, member_planned}
use Rattle.nc_flat_starts.proofs.going.CopyPlans.{copy_silent}
use Rattle.nc_flat_starts.proofs.turning.Frames.{IsRestful}
use Rattle.nc_flat_starts.proofs.turning.OpenRows.{writing, dropping}
use Rattle.nc_flat_starts.proofs.going.PlanOps.{IsPlanned}
use Rattle.nc_flat_claims.proofs.ClaimRests.{step_is}

-- hart h's plan makes step s next, which claims the channel of a copy, and this rest is left behind it
pub record IsClaiming (sc : Scenario) (f : List ℕ) (w : WorldState) (h : HartNo) (o : Op) (s : Step) (rest : List Step) : Type 0 where
  pub here : IsHere sc f w h
  pub hand : in_hand (driver_of w h.0) ≡ Some o
  pub lends : is_lending o ≡ true
  pub phase : (driver_of w h.0).phase ≡ Work
  pub rest_is : (driver_of w h.0).rest ≡ s ∷ rest
  pub claim : IsClaim (driver_of w h.0).fixed (driver_of w h.0).lots s rest
  pub left : PlanGoes (driver_of w h.0).fixed (lots_after_both s.first s.last (driver_of w h.0).lots) rest
  pub one : (driver_of w h.0).fixed.light ≡ true → EndsOne (s ∷ rest)

-- ---- the hart

pub its_holds : (sc : Scenario) (f : List ℕ) (w : WorldState) (h : HartNo) (o : Op) (s : Step) (rest : List Step) → IsClaiming sc f w h o s rest → DriverHolds w h.0
its_holds sc f w h o s rest k = k.here.now.flat.world.holds.each h.0 k.here.there

-- ---- its lots

pub its_member : (sc : Scenario) (f : List ℕ) (w : WorldState) (h : HartNo) (o : Op) (s : Step) (rest : List Step) (lot : Lot) → IsClaiming sc f w h o s rest → In lot (driver_of w h.0).lots → IsMember sc f w h (driver_of w h.0).lots lot
its_member sc f w h o s rest lot k there =
    let work : IsAtWork (driver_of w h.0) = subst (λ (p : Phase). IsPhase (driver_of w h.0) p) k.phase (its_holds sc f w h o s rest k).driver.phase in
    record {
      flat = k.here.now.flat;
      lt = k.here.lt;
      slots = w.slots;
      each = everyone_from w h.0 k.here.now.flat.world.holds k.here.there;
      here = there;
      placed = all_at (λ (l : Lot). lot_waits l ≡ false) (driver_of w h.0).lots lot work.placed there;
    }

one_entry : (es : List Entry) → length es ≡ 1 → (e : Entry) × (es ≡ e ∷ [])
one_entry [] e = absurd cc
one_entry (x ∷ []) e = (x, refl)
one_entry (x ∷ y ∷ es) e = absurd cc

-- an end has one entry
pub end_entry : (sc : Scenario) (f : List ℕ) (w : WorldState) (h : HartNo) (lots : List Lot) (lot : Lot) → IsMember sc f w h lots lot → lot.kind ≡ Copy → (e : Entry) × (lot.list.entries ≡ e ∷ [])
end_entry sc f w h lots lot b kind =
    let fx = (driver_of w h.0).fixed in
    one_entry lot.list.entries (subst (λ (k : Kind). FitsKind fx.pool k lot.id lot.list.entries) kind (member_lot sc f w h lots lot b).kind).1

-- the plan puts no message
pub its_silent : (sc : Scenario) (f : List ℕ) (w : WorldState) (h : HartNo) (o : Op) (s : Step) (rest : List Step) (b : ℕ) → IsClaiming sc f w h o s rest → list_any (posts b) (s ∷ rest) ≡ false
its_silent sc f w h o s rest b k =
    let d = driver_of w h.0 in
    let c = k.claim in
    let flat = k.here.now.flat in
    let planned : (lot : Lot) → In lot d.lots → lot.kind ≡ Copy → IsPlanned d.fixed lot = λ lot there kind. member_planned sc f w h d.lots lot (its_member sc f w h o s rest lot k there) (ap is_area kind) in
    ap (list_any (posts b)) c.steps
    ∙ copy_silent d.fixed c.chan c.config c.reads c.writes b (planned c.reads c.source_is.here c.source_is.kind) (planned c.writes c.target_is.here c.target_is.kind) (writing sc f w h flat k.here.lt) (dropping sc f w h flat k.here.lt)

-- ---- its queue

not_so : (b : Bool) → not b ≡ true → b ≡ false
not_so true is = absurd cc
not_so false is = refl

-- the claim waits for each entry of class O
pub its_quiet : (sc : Scenario) (f : List ℕ) (w : WorldState) (h : HartNo) (o : Op) (s : Step) (rest : List Step) → IsClaiming sc f w h o s rest → io_waits w.machine h.0 ≡ false
its_quiet sc f w h o s rest k =
    let d = driver_of w h.0 in
    let nx : next_of d ≡ nexts.Claim k.claim.chan = next_work d o (s ∷ rest) k.hand k.phase k.rest_is ∙ ap (λ (t : Step). next_act t.act) (step_is d.fixed d.lots s rest k.claim) in
    not_so (io_waits w.machine h.0) (may_next sc f w h (nexts.Claim k.claim.chan) k.here nx)

token_o : (id : LotId) (e : QueueEntry) → is_lot_token id e ≡ true → is_o e ≡ true
token_o id (entries.Lend label first count) is = refl
token_o id (entries.Store span bytes kind) is = absurd cc
token_o id (entries.Cbo block op) is = absurd cc
token_o id (entries.Reg chan off width value) is = absurd cc
token_o id (entries.Mail buf to) is = absurd cc
token_o id (entries.Mark pred succ) is = absurd cc

-- so no token is queued
pub untokened : (sc : Scenario) (f : List ℕ) (w : WorldState) (h : HartNo) (o : Op) (s : Step) (rest : List Step) (id : LotId) (e : QueueEntry) → IsClaiming sc f w h o s rest → In e (queue_of w.machine h.0) → is_lot_token id e ≡ false
untokened sc f w h o s rest id e k queued =
    false_from_ne_true (is_lot_token id e) (λ is. both_ways (is_o e) (none_at is_o (queue_of w.machine h.0) e (its_quiet sc f w h o s rest k) queued) (token_o id e is))

-- ---- its other lots

-- one that is lent is neither end
pub no_end : (sc : Scenario) (f : List ℕ) (w : WorldState) (h : HartNo) (o : Op) (s : Step) (rest : List Step) (lot : Lot) → IsClaiming sc f w h o s rest → In lot (driver_of w h.0).lots → is_wanted lot.side ≡ false → (is_lot source lot ≡ false) × (is_lot target lot ≡ false)
no_end sc f w h o s rest lot k there lent =
    let d = driver_of w h.0 in
    let c = k.claim in
    let names = (its_holds sc f w h o s rest k).driver.apart in
    let never : (id : LotId) (end : Lot) → In end d.lots → end.id ≡ id → is_wanted end.side ≡ true → is_lot id lot ≡ true → ⊥ =
    λ id end in_lots named wanted is. both_ways (is_wanted lot.side) lent (ap (λ (l : Lot). is_wanted l.side) (same_named d.lots id lot end names there in_lots is (its_name end id named)) ∙ wanted) in (
      false_from_ne_true (is_lot source lot) (never source c.reads c.source_is.here c.source_is.id_is (ap is_wanted c.wanted.0)),
      false_from_ne_true (is_lot target lot) (never target c.writes c.target_is.here c.target_is.id_is (ap is_wanted c.wanted.1)),
    )

-- it is still
pub its_still : (sc : Scenario) (f : List ℕ) (w : WorldState) (h : HartNo) (o : Op) (s : Step) (rest : List Step) (lot : Lot) → IsClaiming sc f w h o s rest → In lot (driver_of w h.0).lots → is_wanted lot.side ≡ false → IsStill (driver_of w h.0).fixed lot
its_still sc f w h o s rest lot k there lent =
    let d = driver_of w h.0 in
    let off = no_end sc f w h o s rest lot k there lent in
    all_at (λ (l : Lot). is_lot source l ≡ false → is_lot target l ≡ false → IsStill d.fixed l) d.lots lot k.claim.others there off.0 off.1

-- with light fences the plan lends no lot but its ends
lends_none : (sc : Scenario) (f : List ℕ) (w : WorldState) (h : HartNo) (o : Op) (s : Step) (rest : List Step) (lot : Lot) → IsClaiming sc f w h o s rest → (driver_of w h.0).fixed.light ≡ true → (is_lot source lot ≡ false) × (is_lot target lot ≡ false) → list_any (ends_lending lot.id) (s ∷ rest) ≡ false
lends_none sc f w h o s rest lot k light off =
    let fx = (driver_of w h.0).fixed in
    let c = k.claim in
    let plan = copy_steps fx c.chan c.config c.reads c.writes in
    let ended : HasEnd source (s ∷ rest) = subst (λ (r : List Step). HasEnd source r) (sym c.steps) (subst (λ (i : LotId). HasEnd i plan) c.source_is.id_is (copy_ends fx c.chan c.config c.reads c.writes)) in
    let far : lot.id ≡ source → ⊥ = λ is. both_ways (is_lot source lot) off.0 (its_name lot source is) in
    false_from_ne_true (list_any (ends_lending lot.id) (s ∷ rest)) (λ lends. elim (ends_two (s ∷ rest) lot.id source (k.one light) (lend_has_end lot.id (s ∷ rest) lends) ended far).0 [
      | inl is ↦ far is
      | inr is ↦ both_ways (is_lot target lot) off.1 (its_name lot target is)
    ])

lending_side : (side : Side) → is_lending_side side ≡ true → side ≡ sides.Lending
lending_side sides.Lending is = refl
lending_side sides.Wanted is = absurd cc
lending_side sides.Device is = absurd cc
lending_side sides.Returning is = absurd cc
lending_side sides.Synced is = absurd cc
lending_side sides.Own is = absurd cc

-- none is being lent: its token would be queued
pub its_unlent : (sc : Scenario) (f : List ℕ) (w : WorldState) (h : HartNo) (o : Op) (s : Step) (rest : List Step) (lot : Lot) → IsClaiming sc f w h o s rest → In lot (driver_of w h.0).lots → is_lending_side lot.side ≡ false
its_unlent sc f w h o s rest lot k there =
    let d = driver_of w h.0 in
    let q = queue_of w.machine h.0 in
    false_from_ne_true (is_lending_side lot.side) (λ lends.
    let side = lending_side lot.side lends in
    let lent = ap is_wanted side in
    let light = lend_light d.fixed lot side (its_still sc f w h o s rest lot k there lent) in
    let stands : All (TokenStands (s ∷ rest) q) d.lots = subst (λ (r : List Step). All (TokenStands r q) d.lots) k.rest_is (k.here.now.flat.bytes.tokens h.0 k.here.lt light) in
    let sent = lent_sent (s ∷ rest) lot side (lends_none sc f w h o s rest lot k light (no_end sc f w h o s rest lot k there lent)) in
    let queued = sent_queued (s ∷ rest) q lot (all_at (TokenStands (s ∷ rest) q) d.lots lot stands there) sent in
    both_ways (is_lot_token lot.id (lot_token lot)) (untokened sc f w h o s rest lot.id (lot_token lot) k queued) (same_id lot.id))

restful : (f : DriverConfig) (n : MapId) (owner : Owner) (lot : Lot) → is_lending_side lot.side ≡ false → IsStill f lot → owner ≡ owner_of_side n lot.side → IsRestful owner
restful f n owner lot unlent (StillDevice is) same = subst IsRestful (sym (same ∙ ap (owner_of_side n) is)) tt
restful f n owner lot unlent (StillSynced is kind) same = subst IsRestful (sym (same ∙ ap (owner_of_side n) is)) tt
restful f n owner lot unlent (StillOwn is kind) same = subst IsRestful (sym (same ∙ ap (owner_of_side n) is)) tt
restful f n owner lot unlent (StillSent is light) same = absurd (both_ways (is_lending_side lot.side) unlent (ap is_lending_side is))

-- so nothing is to come of the hart's mappings
pub its_restful : (sc : Scenario) (f : List ℕ) (w : WorldState) (h : HartNo) (o : Op) (s : Step) (rest : List Step) (x : ℕ) (n : MapId) → IsClaiming sc f w h o s rest → mapping_in (owner_of w x) ≡ Some n → n.hart.0 ≡ h.0 → IsRestful (owner_of w x)
its_restful sc f w h o s rest x n k is own =
    let flat = k.here.now.flat in
    let m = mapped sc f w n x flat (owned_ram sc f w x n flat is) is in
    let there : In m.is.lot (driver_of w h.0).lots = subst (λ (g : ℕ). In m.is.lot (driver_of w g).lots) own m.is.here.lot_in in
    restful (driver_of w h.0).fixed n (owner_of w x) m.is.lot (its_unlent sc f w h o s rest m.is.lot k there) (its_still sc f w h o s rest m.is.lot k there m.is.lent) m.owner

-- and no operation on a block of theirs is queued that a mapping or an area tells
queued_one : (sc : Scenario) (f : List ℕ) (w : WorldState) (h : HartNo) (o : Op) (s : Step) (rest : List Step) (c : Book) (owner : ℕ → Owner) (pool : Span) (e : QueueEntry) → IsClaiming sc f w h o s rest → IsQueued (book_of w) (owner_of w) pool w.machine.size h.0 e
    → IsQueued c owner pool w.machine.size h.0 e
queued_one sc f w h o s rest c owner pool (entries.Store span bytes kind) k is = is
queued_one sc f w h o s rest c owner pool (entries.Cbo block cbos.Clean) k is = tt
queued_one sc f w h o s rest c owner pool (entries.Cbo block cbos.Flush) k is = tt
queued_one sc f w h o s rest c owner pool (entries.Cbo block cbos.Inval) k is = absurd (subst IsRestful is.owned (its_restful sc f w h o s rest is.place is.id k (ap mapping_in is.owned) is.own))
queued_one sc f w h o s rest c owner pool (entries.Cbo block cbos.Zero) k (inl beside) = inl beside
queued_one sc f w h o s rest c owner pool (entries.Cbo block cbos.Zero) k (inr is) =
    let x = w.machine.size * block.0 in
    let owned = is.owned x (start_of_block {s = w.machine.size} block.0 k.here.now.flat.world.machine.block_size).0 in
    absurd (subst IsRestful owned (its_restful sc f w h o s rest x is.id k (ap mapping_in owned) is.own))
queued_one sc f w h o s rest c owner pool (entries.Reg chan off width value) k is = tt
queued_one sc f w h o s rest c owner pool (entries.Mail buf to) k is = tt
queued_one sc f w h o s rest c owner pool (entries.Lend label first count) k is = tt
queued_one sc f w h o s rest c owner pool (entries.Mark pred succ) k is = tt

pub its_queued : (sc : Scenario) (f : List ℕ) (w : WorldState) (h : HartNo) (o : Op) (s : Step) (rest : List Step) (c : Book) (owner : ℕ → Owner) → IsClaiming sc f w h o s rest → All (IsQueued c owner w.machine.pool w.machine.size h.0) (queue_of w.machine h.0)
its_queued sc f w h o s rest c owner k =
    let m = w.machine in
    all_to (IsQueued (book_of w) (owner_of w) m.pool m.size h.0) (IsQueued c owner m.pool m.size h.0) (queue_of m h.0) (k.here.now.flat.bytes.queued h.0) (λ e is. queued_one sc f w h o s rest c owner m.pool e k is)
