-- A token is queued while more of the plan is to come: what the row of a place of its lot asks for behind the token.
use Rattle.std.specs.Prelude.{◌||◌, ◌/◌, Bool, true, false, map}
use Rattle.std.specs.List.{list_any}
use Rattle.std.proofs.Common.{◌≡◌, ℕ, List, [], ◌∷◌, ◌++◌, refl, sym, ap, ◌∙◌, inl, inr, subst}
use Rattle.std.proofs.lemmas.Bool.{cases_Bool, both_ways, or_parts, or_left, or_right}
use Rattle.nc_num.specs.Memory.{byte}
use Rattle.nc_num.specs.Places.{covers}
use Rattle.nc_num.specs.declared.names.Dir.{Dir}
use Rattle.nc_num.specs.declared.names.HartNo.{HartNo}
use Rattle.nc_num.specs.declared.names.MapId.{MapId}
use Rattle.nc_plan.specs.Parts.{comes_back}
use Rattle.nc_queue.specs.Entries.{is_wo, gives_in}
use Rattle.nc_queue.specs.Laws.{Stands, Covered}
use Rattle.nc_queue.specs.declared.entry.Entry.{Entry as QueueEntry}
use Rattle.nc_lines.specs.Lines.{bare, line, gives_at, Marked}
use Rattle.nc_ops.specs.declared.ops.Op.{Op}
use Rattle.nc_scen.specs.declared.scenario.Scenario.{Scenario}
use Rattle.nc_sg.specs.declared.list.Entry.{Entry}
use Rattle.nc_rules.specs.declared.lots.Lot.{Lot}
use Rattle.nc_rules.specs.declared.steps.Step.{Step}
use Rattle.nc_rules.specs.Lots.{owner_of_side}
use Rattle.nc_rules.specs.Machine.{MachineState, queue_of}
use Rattle.nc_rules.specs.Turns.{is_area}
use Rattle.nc_rules.specs.Driver.{Went}
use Rattle.nc_rules.specs.EventTouches.{owner_of}
use Rattle.nc_rules.specs.World.{WorldState, driver_of}
use Rattle.nc_rows.specs.Ahead.{names}
use Rattle.nc_rows.specs.Rows.{back, gives_here, gives_block, LendingRow, Row}
use Rattle.nc_flatness.specs.Books.{book_of}
use Rattle.nc_flatness.specs.Plans.{IsQuiet, device_of}
use Rattle.nc_flatness.proofs.worlds.Outcomes.{gone}
use Rattle.nc_flatness.proofs.books.Loans.{loan_is}
use Rattle.nc_flatness.proofs.books.Seen.{device_covers}
use Rattle.nc_flat_starts.proofs.turning.Frames.{IsPlace}
use Rattle.nc_flat_plans.proofs.places.OwnRows.{LentAs, dir_map, lent_put}
use Rattle.nc_flat_plans.proofs.places.Places.{its_id, its_loan, its_place, known}
use Rattle.nc_flat_plans.proofs.drivers.Shifts.{held, stay_shift}
use Rattle.nc_flat_plans.proofs.places.OwnPlaces.{to_come, lent_as, as_lent}
use Rattle.nc_flat_plans.proofs.light.LightSteps.{IsLightPut}

-- ---- a line that gets longer

stands_more : (w t : QueueEntry → Bool) (q more : List QueueEntry) → Stands w t (line q []) → Stands w t (line q more)
stands_more w t [] more stands = absurd stands
stands_more w t (e ∷ q) more (inl here) = inl here
stands_more w t (e ∷ q) more (inr later) = inr (later.0, stands_more w t q more later.1)

any_more : (p : QueueEntry → Bool) (q more : List QueueEntry) → list_any p more ≡ false → list_any p (line q more) ≡ list_any p (line q [])
any_more p [] more none = none
any_more p (e ∷ q) more none = ap (λ (b : Bool). p (bare e) || b) (any_more p q more none)

covered_none : (p w t : QueueEntry → Bool) (more : List QueueEntry) → list_any p more ≡ false → Covered p w t more
covered_none p w t [] none = tt
covered_none p w t (e ∷ more) none =
    let parts = or_parts (p e) (list_any p more) none in
    (λ on. absurd (both_ways (p e) parts.0 on), λ is. parts.1, covered_none p w t more parts.1)

covered_more : (p w t : QueueEntry → Bool) (q more : List QueueEntry) → list_any p more ≡ false → Covered p w t (line q []) → Covered p w t (line q more)
covered_more p w t [] more none covered = covered_none p w t more none
covered_more p w t (e ∷ q) more none covered = (λ on. stands_more w t q more (covered.0 on), λ is. any_more p q more none ∙ covered.1 is, covered_more p w t q more none covered.2)

-- behind the first of t nothing is asked for
marked_more : (w t : QueueEntry → Bool) (q more : List QueueEntry) → list_any t (map bare q) ≡ true → Marked w t (line q []) → Marked w t (line q more)
marked_more w t [] more some marked = absurd cc
marked_more w t (e ∷ q) more some (inl here) = inl here
marked_more w t (e ∷ q) more some (inr later) = elim (cases_Bool (t (bare e))) [
  | inl here ↦ inl here
  | inr off ↦ inr (λ on. stands_more is_wo t q more (later.0 on), marked_more w t q more (sym (ap (λ (b : Bool). b || list_any t (map bare q)) off) ∙ some) later.1)
]

-- ---- the row

lending_more : (p : QueueEntry → Bool) (S : Type 0) (n : MapId) (v x y : ℕ) (more : List QueueEntry) (m : MachineState) → list_any (names n) (map bare (queue_of m n.hart.0)) ≡ true → list_any (gives_here m y) more ≡ false → list_any p more ≡ false → LendingRow p S n v [] m x y
    → LendingRow p S n v more m x y
lending_more p S n v x y more m posted bytes none row =
    let q = queue_of m n.hart.0 in
    record {
      buffer = row.buffer;
      slot = elim row.slot [
        | inl direct ↦ inl direct
        | inr slot ↦ inr (record { unstored = λ on. absurd (both_ways (list_any (gives_here m y) more) bytes on); stored = λ off. slot.stored refl })
      ];
      behind = covered_more p (back m y) (names n) q more none row.behind;
      marked = marked_more (back m y) (names n) q more posted row.marked;
      settled = λ never. row.settled (λ stands. never (stands_more (back m y) (names n) q more stands));
    }

lent_more : (dir : Dir) (n : MapId) (v x y : ℕ) (more : List QueueEntry) (m : MachineState) → list_any (names n) (map bare (queue_of m n.hart.0)) ≡ true → list_any (gives_here m y) more ≡ false → (comes_back dir ≡ true → list_any (gives_block m y) more ≡ false) → LentAs dir n v [] m x y
    → LentAs dir n v more m x y
lent_more dir n v x y more m posted bytes blocks row =
    dir_map dir _ _ _ _ (λ d to. lending_more (gives_here m y) _ n v x y more m posted bytes bytes to)
    (λ d from. record { lending = lending_more (gives_block m y) _ n v x y more m posted bytes (blocks d) from.lending; alone = from.alone })
    row

-- ---- the token is queued

posted_now : (p : QueueEntry → Bool) (q : List QueueEntry) (e : QueueEntry) → p (bare e) ≡ true → list_any p (map bare (q ++ e ∷ [])) ≡ true
posted_now p [] e on = or_left (p (bare e)) false on
posted_now p (d ∷ q) e on = or_right (p (bare d)) (list_any p (map bare (q ++ e ∷ []))) (posted_now p q e on)

pub posted_row : (sc : Scenario) (f : List ℕ) (w : WorldState) (h : HartNo) (o : Op) (s : Step) (rest : List Step) (k : MachineState) (went : Went) (e : QueueEntry) (lot : Lot) (i : ℕ) (d : Entry) (x : ℕ) → IsLightPut sc f w h o s rest k went e lot → is_area lot.kind ≡ false
    → to_come h lot i (s ∷ rest) ≡ bare e ∷ [] → names (its_id h lot i) (bare e) ≡ true → IsQuiet (driver_of w h.0).fixed lot rest → IsPlace lot i d x → Row (book_of w) (owner_of w x) (byte f x) w.machine x
    → Row (book_of (gone w h k went)) (owner_of_side (its_id h lot i) lot.side) (byte f x) k x
posted_row sc f w h o s rest k went e lot i d x c plain comes named quiet p row =
    let m = w.machine in
    let u = c.under in
    let n = its_id h lot i in
    let v = byte f x in
    let y = its_place w h lot i d x in
    let dir = lot.list.dir in
    let more = to_come h lot i rest in
    let shift = stay_shift sc f w h went lot s rest u c.done c.stay in
    let before : to_come h lot i (driver_of w h.0).rest ≡ bare e ∷ [] = ap (λ (r : List Step). to_come h lot i r) c.next.rest_is ∙ comes in
    let now : LentAs dir n v [] k x y = lent_put dir m k e n v x y [] c.enters (c.blank.byte x) (inr (inl (c.blank.byte y))) (lent_as sc f w h m lot i d x v (bare e ∷ []) u plain p c.side before row) in
    let posted : list_any (names n) (map bare (queue_of k h.0)) ≡ true = ap (λ (es : List QueueEntry). list_any (names n) (map bare es)) c.enters.pushes.queues.own ∙ posted_now (names n) (queue_of m h.0) e named in
    let size : (driver_of w h.0).fixed.size ≡ k.size = sym (c.enters.shape.size ∙ (held sc f w h lot u).setting.block) in
    let on : covers (device_of (driver_of w h.0).fixed d) y ≡ true = device_covers w n (its_loan w h lot i d) x (loan_is sc f w n (its_loan w h lot i d) u.flat (known sc f w h lot i d u p.entry)) p.on in
    let bytes : list_any (gives_here k y) more ≡ false = subst (λ (z : ℕ). list_any (gives_at z y) more ≡ false) size (quiet.bytes i d y p.entry on n) in
    let blocks : comes_back dir ≡ true → list_any (gives_block k y) more ≡ false = λ back. subst (λ (z : ℕ). list_any (gives_in z (y / z)) more ≡ false) size (quiet.blocks back i d y p.entry on n) in
    as_lent sc f w h k went lot i d x v rest u plain p c.side shift c.done.rest (lent_more dir n v x y more k posted bytes blocks now)
