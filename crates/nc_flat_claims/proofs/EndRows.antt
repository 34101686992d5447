-- The row of a place of an end of a copy, as the end begins to be lent.
use Rattle.std.specs.Prelude.{Option, Some, true, false}
use Rattle.std.specs.List.{list_any}
use Rattle.std.proofs.Common.{◌≡◌, ℕ, List, length, refl, sym, ap, inl, subst, arith}
use Rattle.std.proofs.lemmas.Option.{slice_get_within}
use Rattle.nc_num.specs.declared.names.HartNo.{HartNo}
use Rattle.nc_lines.specs.Lines.{gives_at}
use Rattle.nc_model.specs.declared.owners.Owner.TheVariants.{Lending}
use Rattle.nc_queue.specs.declared.entry.Entry.{Entry as QueueEntry}
use Rattle.nc_scen.specs.declared.scenario.Scenario.{Scenario}
use Rattle.nc_sg.specs.Lists as sg
use Rattle.nc_sg.specs.declared.list.Entry.{Entry}
use Rattle.nc_rules.specs.declared.lots.Lot.{Lot}
use Rattle.nc_rules.specs.declared.lots.Side.TheVariants as sides
use Rattle.nc_rules.specs.declared.steps.Step.{Step}
use Rattle.nc_rules.specs.Lots.{map_id, owner_of_side}
use Rattle.nc_rules.specs.Turns.{is_area}
use Rattle.nc_rules.specs.World.{WorldState, driver_of}
use Rattle.nc_rows.specs.Ahead.{coming}
use Rattle.nc_rows.specs.Rows.{Loan, Book, back, gives_here, gives_block, ahead_of, LendingTo, LendingFrom, LentRow, Row}
use Rattle.nc_row_plans.specs.Begins.{LendsAhead, IsReady}
use Rattle.nc_row_plans.specs.Plans.{IsEntryOf}
use Rattle.nc_row_plans.proofs.PlanBegins.{rows_begin}
use Rattle.nc_flatness.specs.Books.{book_of}
use Rattle.nc_flatness.specs.Tokens.{is_lending_side}
use Rattle.nc_flat_starts.proofs.opening.Bases.{IsMember}
use Rattle.nc_flat_starts.proofs.turning.Frames.{IsPlace}
use Rattle.nc_flat_starts.proofs.turning.Lots.{entry_one, loan_for, own_entry}
use Rattle.nc_flat_starts.proofs.turning.OpenRows.{place_at, place_is, IsReadySide, own_row, dir_make, ready_so, alone_so, either_false}
use Rattle.nc_flat_starts.proofs.opening.Tokens.{none_named}
use Rattle.nc_flat_claims.proofs.EndsAhead.{LendsEnd, MayLend}

pub end_row : (sc : Scenario) (f : List ℕ) (w : WorldState) (h : HartNo) (lot : Lot) (rest : List Step) (i : ℕ) (e : Entry) (x v : ℕ) (c : Book) → IsMember sc f w h (driver_of w h.0).lots lot → is_area lot.kind ≡ false → lot.side ≡ sides.Wanted → IsPlace lot i e x
    → MayLend (driver_of w h.0).fixed w.machine → LendsEnd (driver_of w h.0).fixed w.machine lot rest → c.loan (map_id h lot.id i) ≡ Some (loan_for (driver_of w h.0).fixed h lot i e) → c.rest h.0 ≡ rest
    → Row (book_of w) (owner_of_side (map_id h lot.id i) lot.side) v w.machine x → Row c (Lending (map_id h lot.id i)) v w.machine x
end_row sc f w h lot rest i e x v c b plain wanted place may lends known left row =
    let m = w.machine in
    let d = driver_of w h.0 in
    let fx = d.fixed in
    let n = map_id h lot.id i in
    let l = loan_for fx h lot i e in
    let y = place_at fx e x in
    let p = sg.part_of lot.list.dir fx.slots_at e in
    let side : IsReadySide lot = inl wanted in
    let ahead : ahead_of c n l ≡ coming n lot.id rest = ap (λ (ss : List Step). coming n lot.id ss) left in
    let entry : IsEntryOf n lot = record { label = refl; from = omega arith; before = omega (arith, slice_get_within lot.list.entries i e place.entry) } in
    let at = place_is fx lot i e x place.entry place.on in
    let none = none_named sc f w h d.lots lot n b.flat b.lt (λ other there lent. there) (λ other there named. entry_one (length m.cache.ram) fx d.lots other lot n b.each.knows.lots b.each.knows.names there b.here named (own_entry h lot i e place.entry)) (ap is_lending_side wanted) in
    let own = own_row w h lot i x v side row in
    let ready = subst (λ (es : List QueueEntry). IsReady m x y es) (sym ahead)
    (ready_so sc f w h d.lots lot i e x (coming n lot.id rest) b (λ other there lent. there) place side (λ u bounced over. subst (λ (s : ℕ). list_any (gives_at s u) (coming n lot.id rest) ≡ true) may.size (lends.stores n i e u place.entry bounced over)) e.bounced refl) in
    let to = subst (λ (es : List QueueEntry). LendsAhead (gives_here m y) (back m y) n es) (sym ahead) (lends.to n p y entry at) in
    let from = subst (λ (es : List QueueEntry). LendsAhead (gives_block m y) (back m y) n es) (sym ahead) (lends.from n p y entry at) in
    subst (λ (q : Option Loan). LentRow c n q v m x) (sym known)
    (either_false (is_area lot.kind) _ _ plain
    (dir_make lot.list.dir (LendingTo n v (ahead_of c n l) m x y) (LendingFrom n v (ahead_of c n l) m x y)
    (λ stays. rows_begin.lend_to m n v x y (ahead_of c n l) none to ready own)
    (λ comes. rows_begin.lend_from m n v x y (ahead_of c n l) none from ready (alone_so sc f w h d.lots lot i e x b (λ other there lent. there) plain place side comes e.bounced refl) own)))
