-- Lots that end, and lots that are left out: what stays of the others.
use Rattle.std.proofs.Common.{◌≡◌, ℕ, Bool, true, List, refl, sym, ap, subst, ◌∙◌}
use Rattle.std.specs.Prelude.{not, All, filter}
use Rattle.std.proofs.lemmas.Bool.{false≢true}
use Rattle.nc_num.specs.Places.{covers}
use Rattle.nc_num.specs.declared.names.HartNo.{HartNo}
use Rattle.nc_num.specs.declared.places.Span.{Span}
use Rattle.nc_plan.specs.Plans.{In}
use Rattle.nc_model.specs.declared.owners.Grant.{Grant}
use Rattle.nc_model.specs.declared.owners.Owner.{Owner}
use Rattle.nc_sg.specs.declared.list.Entry.{Entry}
use Rattle.nc_rules.specs.declared.lots.Lot.{Lot}
use Rattle.nc_rules.specs.declared.lots.LotId.{LotId}
use Rattle.nc_rules.specs.Lots.{DriverConfig, is_lot, is_wanted}
use Rattle.nc_rules.specs.Turns.{to_end, last_owner, of_those, without_wanted}
use Rattle.nc_rules.specs.World.{owners_moved}
use Rattle.nc_scripts.proofs.LotLaws.{named_so, its_name}
use Rattle.nc_scripts.proofs.Lists.{all_filtered}
use Rattle.nc_holds.specs.Held.{IsEntryOf, EntriesAreApart, OwnersAgree, AreGranted, IsGrantOf}
use Rattle.nc_holds.proofs.lists.Members.{of_map, of_filter, in_filter, get_at}
use Rattle.nc_holds.proofs.owners.Facts.{StaysOrMine}
use Rattle.nc_holds.proofs.owners.Moves.{of_named, moved_off}
use Rattle.nc_holds.proofs.owners.Lots.{same_spans, apart_from}
use Rattle.nc_holds.proofs.owners.Sides.{frame_by, of_mine}
use Rattle.nc_holds.proofs.grants.Sides.{without_lot, not_false}

-- ---- lots of which some are left out

pub left_entry : (p : Lot → Bool) (lots : List Lot) (lot : Lot) (i : ℕ) (e : Entry) → IsEntryOf (filter p lots) lot i e → IsEntryOf lots lot i e
left_entry p lots lot i e h = record { lot_in = (of_filter p lot lots h.lot_in).0; entry = h.entry }

pub left_all : (P : Lot → Type 0) (p : Lot → Bool) (lots : List Lot) → All P lots → All P (filter p lots)
left_all P p lots all = all_filtered P P p lots all (λ lot h e. h)

pub left_apart : (p : Lot → Bool) (lots : List Lot) → EntriesAreApart lots → EntriesAreApart (filter p lots)
left_apart p lots apart = apart_from lots (filter p lots) (λ now k. record { lot = now; here = (of_filter p now lots k).0; same = same_spans now now refl refl refl }) apart

pub left_owners : (me : HartNo) (ws : List Owner) (p : Lot → Bool) (lots : List Lot) → OwnersAgree me ws lots → OwnersAgree me ws (filter p lots)
left_owners me ws p lots agree lot i e x h on = agree lot i e x (left_entry p lots lot i e h) on

pub left_granted : (f : DriverConfig) (grants : List Grant) (p : Lot → Bool) (lots : List Lot) → AreGranted f grants lots → AreGranted f grants (filter p lots)
left_granted f grants p lots agree lot i e h lent = agree lot i e (left_entry p lots lot i e h) lent

-- what is lent is not left out with what is not
pub left_held : (f : DriverConfig) (lots : List Lot) (g : Grant) → IsGrantOf f lots g → IsGrantOf f (without_wanted lots) g
left_held f lots g h = record {
  lot = h.lot;
  i = h.i;
  entry = h.entry;
  here = record { lot_in = in_filter (λ (l : Lot). not (is_wanted l.side)) h.lot lots h.here.lot_in (ap not h.lent); entry = h.here.entry };
  lent = h.lent;
  is = h.is;
}

-- ---- an end

pub record IsEndMove (me : HartNo) (id : LotId) (lots : List Lot) (t : Span × Owner) : Type 0 where
  pub lot : Lot
  pub named : is_lot id lot ≡ true
  pub i : ℕ
  pub entry : Entry
  pub here : IsEntryOf lots lot i entry
  pub is : ◌≡◌ {A = Span × Owner} (entry.span, last_owner me lot) t

pub end_move : (me : HartNo) (id : LotId) (lots : List Lot) (t : Span × Owner) → In t (of_those (to_end me) id lots) → IsEndMove me id lots t
end_move me id lots t k =
    let r = of_named (to_end me) id lots t k in
    let p = of_map {Y = Span × Owner} (λ (e : Entry). (e.span, last_owner me r.lot)) t r.lot.list.entries r.is in
    let q = get_at r.lot.list.entries p.0 p.1 in
    record { lot = r.lot; named = r.named; i = q.0; entry = p.0; here = record { lot_in = r.here; entry = q.1 }; is = p.2 }

end_covers : (me : HartNo) (id : LotId) (lots : List Lot) (t : Span × Owner) (x : ℕ) → (r : IsEndMove me id lots t) → covers t.0 x ≡ true → covers r.entry.span x ≡ true
end_covers me id lots t x r on = subst (λ (u : Span × Owner). covers u.0 x ≡ true) (sym r.is) on

pub owners_ended : (me : HartNo) (id : LotId) (lots : List Lot) (ws : List Owner) → EntriesAreApart lots → OwnersAgree me ws lots → OwnersAgree me (owners_moved ws (of_those (to_end me) id lots)) (without_lot id lots)
owners_ended me id lots ws apart agree lot i e x h on =
    let p = of_filter (λ (l : Lot). not (is_lot id l)) lot lots h.lot_in in
    let here : IsEntryOf lots lot i e = record { lot_in = p.0; entry = h.entry } in
    moved_off ws (of_those (to_end me) id lots) x (λ t k on_t.
    let r = end_move me id lots t k in
    let same = apart lot r.lot i r.i e r.entry x here r.here on (end_covers me id lots t x r on_t) in
    false≢true (sym (not_false (is_lot id lot) p.1) ∙ its_name lot id (same.lot ∙ named_so r.lot id r.named)))
    ∙ agree lot i e x here on

pub frame_ended : (me : HartNo) (id : LotId) (lots : List Lot) (ws : List Owner) (x : ℕ) → OwnersAgree me ws lots → StaysOrMine me ws (owners_moved ws (of_those (to_end me) id lots)) x
frame_ended me id lots ws x agree =
    frame_by me ws (of_those (to_end me) id lots) x
    (λ t k on. let r = end_move me id lots t k in of_mine me ws lots r.lot r.i r.entry x agree r.here (end_covers me id lots t x r on))
