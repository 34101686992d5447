-- The rows of a lot that is taken back, at its opening turn.
use Rattle.std.specs.Prelude.{Option, Some, Bool, true, false, slice_get}
use Rattle.std.specs.List.{list_any}
use Rattle.std.proofs.Common.{◌≡◌, ℕ, List, ◌∷◌, ◌++◌, refl, sym, ap, ◌∙◌, inr, subst}
use Rattle.nc_num.specs.declared.names.Dir.{Dir}
use Rattle.nc_num.specs.declared.names.Dir.TheVariants.{Both, ToDev, FromDev}
use Rattle.nc_num.specs.declared.names.HartNo.{HartNo}
use Rattle.nc_queue.specs.Laws.{Stands}
use Rattle.nc_queue.specs.declared.entry.Entry.{Entry as QueueEntry}
use Rattle.nc_queue.specs.declared.entry.Entry.TheVariants as entries
use Rattle.nc_plan.specs.Parts.{comes_back}
use Rattle.nc_scen.specs.declared.scenario.Scenario.{Scenario}
use Rattle.nc_sg.specs.Lists as sg
use Rattle.nc_sg.specs.declared.list.Entry.{Entry}
use Rattle.nc_ops.specs.declared.ops.Op.{Op}
use Rattle.nc_rules.specs.declared.lots.Kind.TheVariants.{Single}
use Rattle.nc_rules.specs.declared.lots.Lot.{Lot}
use Rattle.nc_rules.specs.declared.lots.Side.{Side}
use Rattle.nc_rules.specs.declared.lots.Side.TheVariants as sides
use Rattle.nc_rules.specs.declared.steps.Step.{Step}
use Rattle.nc_rules.specs.declared.steps.Turn.{Turn}
use Rattle.nc_rules.specs.declared.steps.Turn.TheVariants as turns
use Rattle.nc_rules.specs.Lots.{map_id, owner_of_side}
use Rattle.nc_rules.specs.Plans.{return_steps, ending}
use Rattle.nc_rules.specs.Turns.{is_area, set_side}
use Rattle.nc_rules.specs.Driver.{Went}
use Rattle.nc_rules.specs.World.{WorldState, driver_of}
use Rattle.nc_rows.specs.Ahead.{is_full, coming}
use Rattle.nc_rows.specs.Laws.{seen_at, place_of}
use Rattle.nc_rows.specs.Places.{PoolRow}
use Rattle.nc_rows.specs.Rows.{Loan, drop, ahead_of, Either, ByDir, DeviceTo, DeviceFrom, DeviceRow, BackRow, Row}
use Rattle.nc_row_plans.proofs.LendingPlans.{some_append}
use Rattle.nc_row_plans.proofs.PlanBegins.{rows_begin}
use Rattle.nc_row_plans.proofs.ReturningPlans.{plans_return}
use Rattle.nc_flatness.specs.Books.{book_of}
use Rattle.nc_flatness.specs.Plans.{IsStill, IsBack}
use Rattle.nc_flatness.specs.Tokens.{is_lending_side}
use Rattle.nc_flat_starts.proofs.opening.Bases.{IsBase, base_planned}
use Rattle.nc_flat_starts.proofs.turning.Lots.{loan_for}
use Rattle.nc_flat_starts.proofs.opening.Opens.{IsTurn, Opens, base_opens}
use Rattle.nc_flat_starts.proofs.going.ReturnsGo.{Returns, return_so, back_turns}
use Rattle.nc_flat_starts.proofs.turning.Sides.{hand_set, set_others, set_its, turned_lot}
use Rattle.nc_flat_starts.proofs.turning.OpenRows.{dropping, sizes, place_at, place_is, either_false, either_second}

-- ---- a lot that is taken back

-- what its mappings are
abbrev pub AreKnown : WorldState → HartNo → Lot → Type 0
AreKnown w h lot = (i : ℕ) (e : Entry) → slice_get lot.list.entries i ≡ Some e → (book_of w).loan (map_id h lot.id i) ≡ Some (loan_for (driver_of w h.0).fixed h lot i e)

fence_there : (xs ys all : List QueueEntry) → all ≡ xs ++ (entries.Mark 15 15 ∷ ys) → list_any is_full all ≡ true
fence_there xs ys all is = ap (list_any is_full) is ∙ some_append is_full xs (entries.Mark 15 15 ∷ ys) (inr refl)

pub either_true : (t : Bool) (p q : Type 0) → t ≡ true → p → Either t p q
either_true true p q is x = x
either_true false p q is x = absurd cc

dir_map : (d : Dir) (p q r s : Type 0) → (comes_back d ≡ false → p → r) → (comes_back d ≡ true → q → s) → ByDir d p q → ByDir d r s
dir_map ToDev p q r s first second row = first refl row
dir_map Both p q r s first second row = second refl row
dir_map FromDev p q r s first second row = second refl row

pub return_opens : (sc : Scenario) (f : List ℕ) (w : WorldState) (h : HartNo) (o : Op) (went : Went) (lots : List Lot) (lot : Lot) (turn : Turn) → IsBase sc f w h lots lot → is_area lot.kind ≡ false
    → lot.side ≡ sides.Device → AreKnown w h lot → IsBack lot.id turn → (turn ≡ turns.Sync lot.id → lot.kind ≡ Single)
    → IsTurn w h o went lots lot sides.Returning (ending turn (return_steps (driver_of w h.0).fixed lot))
    → Opens sc f w h o went lots lot sides.Returning (ending turn (return_steps (driver_of w h.0).fixed lot))
return_opens sc f w h o went lots lot turn b plain device before is_back single t =
    let m = w.machine in
    let d = driver_of w h.0 in
    let fx = d.fixed in
    let now = set_side sides.Returning lot.id lots in
    let plan = ending turn (return_steps fx lot) in
    let planned = base_planned sc f w h lots lot b plain in
    let drops_so = dropping sc f w h b.flat b.lt in
    let size = sizes sc f w h b.flat b.lt in
    let z = b.flat.world.machine.block_size in
    let k : Returns fx now (turned_lot sides.Returning lot) plan =
    return_so fx now (turned_lot sides.Returning lot) turn (hand_set fx sides.Returning false lots lot b.here plain b.others) (set_others (IsStill fx) sides.Returning lot.id lots b.others) (record { size = planned.size; some = planned.some; off = planned.off; slots = planned.slots; buffers = planned.buffers }) drops_so is_back
    (λ sync other there named. ap (λ (l : Lot). l.kind) (set_its sides.Returning lots lot other b.each.knows.names b.here there named) ∙ single sync) in
    base_opens sc f w h o went lots lot sides.Returning plan b t (record {
      of_plan = k.plan;
      ends_it = λ lent. absurd cc;
      goes = k.goes;
      unsent = ap is_lending_side device;
      row = λ i e x v there place c known rest row.
          let n = map_id h lot.id i in
          let l = loan_for fx h lot i e in
          let y = place_at fx e x in
          let turns = back_turns lot.id turn is_back in
          let ahead : ahead_of c n l ≡ coming n lot.id plan = ap (λ (ss : List Step). coming n lot.id ss) rest in
          let was_row : DeviceRow n ((book_of w).loan n) v m x = subst (λ (s : Side). Row (book_of w) (owner_of_side n s) v m x) device row in
          let was : DeviceRow n (Some l) v m x = subst (λ (q : Option Loan). DeviceRow n q v m x) (before i e place.entry) was_row in
          subst (λ (q : Option Loan). BackRow c n q v m x) (sym known)
          (either_false (is_area lot.kind) _ _ plain
          (dir_map lot.list.dir (DeviceTo n v m x y) (DeviceFrom n v m x y) (DeviceTo n v m x y) _
          (λ stays to. to)
          (λ comes from. either_true (list_any is_full (ahead_of c n l)) _ _ (fence_there _ _ (ahead_of c n l) (ahead ∙ plans_return.comes fx lot n turn turns))
          (rows_begin.take_back m n v x y (ahead_of c n l) (b.flat.bytes.unfenced h.0)
          (subst (λ (es : List QueueEntry). Stands (drop m y) is_full es) (sym ahead) (plans_return.drops fx lot n turn (sg.part_of lot.list.dir fx.slots_at e) m y z size drops_so comes turns (place_is fx lot i e x place.entry place.on))) from))
          (either_second (is_area lot.kind) (PoolRow v m x) (ByDir lot.list.dir (DeviceTo n v m x y) (DeviceFrom n v m x y)) plain was)));
      shown = λ i e x place c known.
          let n = map_id h lot.id i in
          let before_seen : seen_at (book_of w) (owner_of_side n lot.side) x ≡ place_of ((book_of w).loan n) x = ap (λ (s : Side). seen_at (book_of w) (owner_of_side n s) x) device in
          inr (ap (λ (q : Option Loan). place_of q x) (known ∙ sym (before i e place.entry)) ∙ sym before_seen);
    })
