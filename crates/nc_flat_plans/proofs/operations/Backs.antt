-- The last step of a plan that takes back: the lot is its hart's again, synced or not mapped any more.
use Rattle.std.specs.Prelude.{None, All, if◌then◌else◌, Bool, true, false}
use Rattle.std.proofs.Common.{◌≡◌, ℕ, ◌<◌, List, [], ◌∷◌, ◌++◌, refl, ap, ◌∙◌, inl, inr, subst}
use Rattle.std.proofs.lemmas.Bool.{or_left, cond-false}
use Rattle.nc_num.specs.Memory.{byte}
use Rattle.nc_num.specs.Places.{covers}
use Rattle.nc_num.specs.declared.names.HartNo.{HartNo}
use Rattle.nc_num.specs.declared.names.MapId.{MapId}
use Rattle.nc_num.specs.declared.places.Span.{Span}
use Rattle.nc_model.specs.declared.owners.Owner.{Owner}
use Rattle.nc_model.specs.declared.owners.Owner.TheVariants.{Thread, Pool}
use Rattle.nc_ops.specs.declared.ops.Op.{Op}
use Rattle.nc_scen.specs.Regions.{slots_of}
use Rattle.nc_scen.specs.declared.scenario.Scenario.{Scenario}
use Rattle.nc_sg.specs.declared.list.Entry.{Entry}
use Rattle.nc_rules.specs.declared.lots.Lot.{Lot}
use Rattle.nc_rules.specs.declared.lots.LotId.{LotId}
use Rattle.nc_rules.specs.declared.lots.Side.TheVariants as sides
use Rattle.nc_rules.specs.declared.steps.Step.{Step}
use Rattle.nc_rules.specs.declared.steps.Turn.{Turn}
use Rattle.nc_rules.specs.declared.steps.Turn.TheVariants as turns
use Rattle.nc_rules.specs.Turns.{is_area, lots_after, transfers_of}
use Rattle.nc_rules.specs.Machine.{MachineState, hart_of, queue_of}
use Rattle.nc_rules.specs.Driver.{Went}
use Rattle.nc_rules.specs.EventTouches.{owner_of}
use Rattle.nc_rules.specs.World.{WorldState, driver_of}
use Rattle.nc_rows.specs.Ahead.{same_lot, turns_lot, gives_lot, act_coming, token, coming}
use Rattle.nc_rows.specs.Parts.{IsQueued, rest_last}
use Rattle.nc_rows.specs.Places.{CalmRow, ThreadRow, PoolRow}
use Rattle.nc_rows.specs.Rows.{Row}
use Rattle.nc_rows.proofs.Steps.{steps_ahead, append_nil}
use Rattle.nc_flatness.specs.Books.{book_of}
use Rattle.nc_flatness.specs.Plans.{IsBack}
use Rattle.nc_flatness.specs.Flatness.{BytesStand}
use Rattle.nc_flatness.specs.Tokens.{TokenStands}
use Rattle.nc_flatness.proofs.worlds.Outcomes.{gone}
use Rattle.nc_flat_starts.proofs.turning.Frames.{IsPlace, IsOff, GoesBy, last_none}
use Rattle.nc_flat_plans.proofs.places.OwnRows.{BackAs, back_home}
use Rattle.nc_flat_plans.proofs.drivers.Drivers.{IsNext, IsDone, stay_lots, stay_transfers, same_id}
use Rattle.nc_flat_plans.proofs.places.Places.{IsUnder, its_id, its_place, in_ram, unslotted, StillAt, WaitsAt}
use Rattle.nc_flat_plans.proofs.drivers.OwnCopies.{SameChannels}
use Rattle.nc_flat_plans.proofs.drivers.Shifts.{IsShift, side_shift, end_shift}
use Rattle.nc_flat_plans.proofs.drivers.StepFrames.{step_bytes}
use Rattle.nc_flat_plans.proofs.drivers.StepSeen.{home_calm}
use Rattle.nc_flat_plans.proofs.places.OwnPlaces.{home_to, as_home}

-- ---- its turn

pub record IsHome (w : WorldState) (h : HartNo) (went : Went) (lot : Lot) : Type 0 where
  pub synced : Bool
  pub shift : IsShift w h went lot (home_to h synced)

pub home_shift : (sc : Scenario) (f : List ℕ) (w : WorldState) (h : HartNo) (went : Went) (lot : Lot) (s : Step) (rest : List Step) → IsUnder sc f w h lot → is_area lot.kind ≡ false → IsDone (driver_of w h.0) s rest went → s.first ≡ turns.Stay → IsBack lot.id s.last → IsHome w h went lot
home_shift sc f w h went lot s rest u plain done first (inl sync) =
    let d = driver_of w h.0 in
    record {
      synced = true;
      shift = side_shift sc f w h went lot sides.Synced u refl done.fixed (stay_lots d s rest went done first ∙ ap (λ (t : Turn). lots_after t d.lots) sync)
          (stay_transfers d s rest went done first ∙ ap {B = List (Span × Owner)} (λ (t : Turn). transfers_of d.fixed.me d.lots t) sync);
    }
home_shift sc f w h went lot s rest u plain done first (inr end) =
    let d = driver_of w h.0 in
    record {
      synced = false;
      shift = subst (λ (o : Owner). IsShift w h went lot (λ n. o)) (cond-false (is_area lot.kind) Pool (Thread h) plain)
          (end_shift sc f w h went lot u done.fixed (stay_lots d s rest went done first ∙ ap (λ (t : Turn). lots_after t d.lots) end)
          (stay_transfers d s rest went done first ∙ ap {B = List (Span × Owner)} (λ (t : Turn). transfers_of d.fixed.me d.lots t) end));
    }

-- what it puts is all that is to come
turned : (id : LotId) (t : Turn) → IsBack id t → turns_lot id t ≡ true
turned id t (inl sync) = ap (turns_lot id) sync ∙ same_id id
turned id t (inr end) = ap (turns_lot id) end ∙ same_id id

ungiven : (id : LotId) (t : Turn) → IsBack id t → gives_lot id t ≡ false
ungiven id t (inl sync) = ap (gives_lot id) sync
ungiven id t (inr end) = ap (gives_lot id) end

pub turn_comes : (n : MapId) (id : LotId) (s : Step) (rest : List Step) → turns_lot id s.last ≡ true → gives_lot id s.last ≡ false → coming n id (s ∷ rest) ≡ act_coming s.act
turn_comes n id s rest turns gives =
    steps_ahead.last n id s rest (or_left (turns_lot id s.last) _ turns)
    ∙ ap (λ (b : Bool). act_coming s.act ++ (if b then token n ∷ [] else [])) gives ∙ append_nil (act_coming s.act)

pub last_comes : (n : MapId) (id : LotId) (s : Step) (rest : List Step) → IsBack id s.last → coming n id (s ∷ rest) ≡ act_coming s.act
last_comes n id s rest back = turn_comes n id s rest (turned id s.last back) (ungiven id s.last back)

-- of no other lot it is the end
pub turns_one : (id lot : LotId) (t : Turn) → IsBack lot t → same_lot id lot ≡ false → turns_lot id t ≡ false
turns_one id lot t (inl sync) off = ap (turns_lot id) sync ∙ off
turns_one id lot t (inr end) off = ap (turns_lot id) end ∙ off

-- ---- the bytes behind it

pub record ComesHome (sc : Scenario) (f : List ℕ) (w : WorldState) (h : HartNo) (k : MachineState) (went : Went) (lot : Lot) : Type 0 where
  pub passes : (x v : ℕ) → x < sc.ram → covers (slots_of sc) x ≡ false → IsOff lot x → StillAt w h lot x → Row (book_of w) (owner_of w x) v w.machine x → Row (book_of w) (owner_of w x) v k x
  pub waits : (x : ℕ) → x < sc.ram → covers (slots_of sc) x ≡ false → IsOff lot x → WaitsAt w h lot x → Row (book_of w) (owner_of w x) (byte f x) w.machine x → Row (book_of (gone w h k went)) (owner_of w x) (byte f x) k x
  pub channels : SameChannels w.machine k h.0
  pub back : (i : ℕ) (e : Entry) (x : ℕ) → IsPlace lot i e x → Row (book_of w) (owner_of w x) (byte f x) w.machine x → BackAs lot.list.dir (its_id h lot i) (byte f x) [] k x (its_place w h lot i e x)
  pub queue : All (IsQueued (book_of (gone w h k went)) (owner_of (gone w h k went)) k.pool k.size h.0) (queue_of k h.0)
  pub stays : (z : ℕ) → covers (slots_of sc) z ≡ true → CalmRow w.machine z → CalmRow k z
  pub tokens : went.driver.fixed.light ≡ true → All (TokenStands went.driver.rest (queue_of k h.0)) went.driver.lots

pub home_bytes : (sc : Scenario) (f : List ℕ) (w : WorldState) (h : HartNo) (o : Op) (s : Step) (rest : List Step) (k : MachineState) (went : Went) (lot : Lot) → IsNext sc f w h o s rest → IsDone (driver_of w h.0) s rest went → IsUnder sc f w h lot
    → is_area lot.kind ≡ false → (home : IsHome w h went lot) → rest_last rest ≡ None → GoesBy w h k → ComesHome sc f w h k went lot → BytesStand sc f (gone w h k went)
home_bytes sc f w h o s rest k went lot next done u plain home last by c =
    let v = gone w h k went in
    let all : (i : ℕ) (e : Entry) (x : ℕ) → IsPlace lot i e x → Row (book_of w) (owner_of w x) (byte f x) w.machine x → ThreadRow h.0 (byte f x) k x × PoolRow (byte f x) k (its_place w h lot i e x) =
    λ i e x p row. back_home lot.list.dir k (its_id h lot i) (byte f x) x (its_place w h lot i e x) (c.back i e x p row) in
    step_bytes sc f w h o s rest k went lot (home_to h home.synced) next done u plain home.shift by (record {
      passes = c.passes;
      waits = c.waits;
      channels = c.channels;
      row = λ i e x p row. as_home sc f w h k went lot i e x (byte f x) home.synced u p home.shift (all i e x p row).0;
      queue = c.queue;
      lasting = last_none (book_of v) f h.0 (hart_of k h.0).last (rest_last went.driver.rest) (ap rest_last done.rest ∙ last);
      calm = λ z slot unseen.
          home_calm sc f w h k went lot (home_to h home.synced) z u home.shift (λ i e x p. (all i e x p (u.flat.bytes.rows x (in_ram sc f w h lot i e x u p) (unslotted sc f w h lot i e x u p))).1) (c.stays z slot) slot unseen;
      tokens = c.tokens;
    })
