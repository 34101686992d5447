-- The places of both ends of a copy, as those of one lot: the mappings of the two are numbered one after the other.
use Rattle.std.specs.Prelude.{Option, Some, None, true, false, slice_get, length, ◌==◌, ◌&&◌, ◌+◌, nat_le, nat_lt}
use Rattle.std.specs.List.{list_any}
use Rattle.std.proofs.Common.{◌≡◌, ◌⊎◌, ℕ, zero, suc, ◌<◌, List, [], ◌∷◌, refl, sym, ap, ◌∙◌, inl, inr, subst, arith}
use Rattle.std.proofs.lemmas.Bool.{and_parts, or_from, false_from_ne_true, ltb-true}
use Rattle.nc_num.specs.Places.{covers}
use Rattle.nc_num.specs.declared.names.HartNo.{HartNo}
use Rattle.nc_num.specs.declared.names.MapId.{MapId}
use Rattle.nc_plan.specs.Plans.{In}
use Rattle.nc_ops.specs.declared.ops.Op.{Op}
use Rattle.nc_scen.specs.declared.scenario.Scenario.{Scenario}
use Rattle.nc_sg.specs.declared.list.Entry.{Entry}
use Rattle.nc_rules.specs.declared.lots.Lot.{Lot}
use Rattle.nc_rules.specs.declared.lots.LotId.{LotId}
use Rattle.nc_rules.specs.declared.lots.Side.TheVariants as sides
use Rattle.nc_rules.specs.declared.steps.Step.{Step}
use Rattle.nc_rules.specs.Copies.{source, target}
use Rattle.nc_rules.specs.Driver.{DriverState, Went}
use Rattle.nc_rules.specs.Lots.{DriverConfig, map_id}
use Rattle.nc_rules.specs.Plans.{lending_end}
use Rattle.nc_rules.specs.Turns.{is_area}
use Rattle.nc_rules.specs.World.{WorldState, driver_of}
use Rattle.nc_holds.proofs.lists.Members.{same_some}
use Rattle.nc_rows.specs.Ahead.{same_lot, ends, names}
use Rattle.nc_row_plans.specs.Plans.{IsEntryOf}
use Rattle.nc_flatness.specs.Plans.{token_step}
use Rattle.nc_flatness.specs.Tokens.{lot_token}
use Rattle.nc_flat_starts.proofs.opening.Bases.{IsMember, member_planned}
use Rattle.nc_flat_starts.proofs.turning.Frames.{IsPlace, IsOff}
use Rattle.nc_flat_starts.proofs.turning.OpenRows.{writing, sizes}
use Rattle.nc_flat_starts.proofs.turning.Sides.{turned_lot}
use Rattle.nc_flat_claims.proofs.ClaimDrivers.{IsLent, source_behind, target_behind}
use Rattle.nc_flat_claims.proofs.Claimings.{IsClaiming, its_member, end_entry}
use Rattle.nc_flat_claims.proofs.ClaimRests.{behind_source, behind_target, rest_is}
use Rattle.nc_flat_claims.proofs.EndsAhead.{give_step, lending_end_by, LendsEnd, MayLend, first_lent, later_lent}

-- ---- both as one

pub record AreEndLots (src dst : Lot) : Type 0 where
  pub source_is : src.id ≡ source
  pub target_is : dst.id ≡ target
  pub label : src.id.label.0 ≡ 1000
  pub first : Entry
  pub first_only : src.list.entries ≡ first ∷ []
  pub second : Entry
  pub second_only : dst.list.entries ≡ second ∷ []

abbrev pub both_lot : Lot → Entry → Entry → Lot
both_lot src a b = record src { list = record src.list { entries = a ∷ b ∷ [] } }

-- a place of it is one of an end
pub record EndPlace (h : HartNo) (src dst : Lot) (i : ℕ) (e : Entry) (x : ℕ) : Type 0 where
  pub lot : Lot
  pub which : (lot ≡ src) ⊎ (lot ≡ dst)
  pub place : IsPlace lot 0 e x
  pub name : map_id h src.id i ≡ map_id h lot.id 0

pub end_place : (h : HartNo) (src dst : Lot) (a : AreEndLots src dst) (i : ℕ) (e : Entry) (x : ℕ) → IsPlace (both_lot src a.first a.second) i e x → EndPlace h src dst i e x
end_place h src dst a zero e x place = record { lot = src; which = inl refl; place = record { entry = ap (λ (es : List Entry). slice_get es 0) a.first_only ∙ place.entry; on = place.on }; name = refl }
end_place h src dst a (suc zero) e x place =
    record {
      lot = dst;
      which = inr refl;
      place = record { entry = ap (λ (es : List Entry). slice_get es 0) a.second_only ∙ place.entry; on = place.on };
      name = ap (λ (id : LotId). map_id h id 1) a.source_is ∙ sym (ap (λ (id : LotId). map_id h id 0) a.target_is);
    }
end_place h src dst a (suc (suc i)) e x place = let no : ◌≡◌ {A = Option Entry} None (Some e) = place.entry in absurd cc

-- a place that is none of it is none of either
only_at : (d : Entry) (i : ℕ) (e : Entry) → slice_get (d ∷ []) i ≡ Some e → d ≡ e
only_at d zero e is = same_some d e is
only_at d (suc i) e is = let no : ◌≡◌ {A = Option Entry} None (Some e) = is in absurd cc

pub off_ends : (src dst : Lot) (a : AreEndLots src dst) (x : ℕ) → IsOff (both_lot src a.first a.second) x → IsOff src x × IsOff dst x
off_ends src dst a x beside =
    let on : (lot : Lot) (d : Entry) (i : ℕ) (e : Entry) → lot.list.entries ≡ d ∷ [] → IsPlace lot i e x → covers d.span x ≡ true =
    λ lot d i e only place. subst (λ (k : Entry). covers k.span x ≡ true) (sym (only_at d i e (ap (λ (es : List Entry). slice_get es i) (sym only) ∙ place.entry))) place.on in (
      λ i e place. beside 0 a.first (record { entry = refl; on = on src a.first i e a.first_only place }),
      λ i e place. beside 1 a.second (record { entry = refl; on = on dst a.second i e a.second_only place }),
    )

pub ends_lent : (sc : Scenario) (f : List ℕ) (w : WorldState) (h : HartNo) (o : Op) (s : Step) (rest : List Step) → (k : IsClaiming sc f w h o s rest) → AreEndLots k.claim.reads k.claim.writes
ends_lent sc f w h o s rest k =
    let d = driver_of w h.0 in
    let c = k.claim in
    let src = end_entry sc f w h d.lots c.reads (its_member sc f w h o s rest c.reads k c.source_is.here) c.source_is.kind in
    let dst = end_entry sc f w h d.lots c.writes (its_member sc f w h o s rest c.writes k c.target_is.here) c.target_is.kind in
    record { source_is = c.source_is.id_is; target_is = c.target_is.id_is; label = ap (λ (i : LotId). i.label.0) c.source_is.id_is; first = src.0; first_only = src.1; second = dst.0; second_only = dst.1 }

-- ---- what is known of each

pub record IsEndLot (sc : Scenario) (f : List ℕ) (w : WorldState) (h : HartNo) (rest : List Step) (went : Went) (lot : Lot) : Type 0 where
  pub member : IsMember sc f w h (driver_of w h.0).lots lot
  pub plain : is_area lot.kind ≡ false
  pub wanted : lot.side ≡ sides.Wanted
  pub behind : In (turned_lot sides.Lending lot) went.driver.lots
  pub may : MayLend (driver_of w h.0).fixed w.machine
  pub lends : LendsEnd (driver_of w h.0).fixed w.machine lot rest

-- the end of the source's lending is none of the target's stay, and its token names no mapping of it
not_its_end : (f : DriverConfig) (src dst : Lot) → src.id ≡ source → dst.id ≡ target → list_any (ends dst.id) (lending_end f src) ≡ false
not_its_end f src dst src_is dst_is =
    let give : ends dst.id (give_step src.id) ≡ false = ap (λ (i : LotId). ends dst.id (give_step i)) src_is ∙ ap (λ (i : LotId). ends i (give_step source)) dst_is in
    let token : ends dst.id (token_step src) ≡ false = ap (λ (i : LotId). same_lot i dst.id) src_is ∙ ap (λ (i : LotId). same_lot source i) dst_is in
    lending_end_by (λ (ss : List Step). list_any (ends dst.id) ss ≡ false) f src (or_from (ends dst.id (token_step src)) false token refl) (or_from (ends dst.id (give_step src.id)) false give refl)

token_apart : (src dst : Lot) (n : MapId) → src.id ≡ source → length src.list.entries ≡ 1 → dst.id ≡ target → IsEntryOf n dst → names n (lot_token src) ≡ false
token_apart src dst n src_is one dst_is entry =
    false_from_ne_true (names n (lot_token src))
    (λ is.
    let inside = (and_parts (src.id.label.0 == n.label.0) (nat_le src.id.first n.entry && nat_lt n.entry (src.id.first + length src.list.entries)) is).1 in
    let before : n.entry < src.id.first + length src.list.entries = ltb-true n.entry (src.id.first + length src.list.entries) (and_parts (nat_le src.id.first n.entry) (nat_lt n.entry (src.id.first + length src.list.entries)) inside).1 in
    let zero_first : src.id.first ≡ 0 = ap (λ (i : LotId). i.first) src_is in
    let one_first : dst.id.first ≡ 1 = ap (λ (i : LotId). i.first) dst_is in
    omega (arith, before, one, zero_first, one_first, entry.from))

pub its_end : (sc : Scenario) (f : List ℕ) (w : WorldState) (h : HartNo) (o : Op) (s : Step) (rest : List Step) (went : Went) (lot : Lot) → (k : IsClaiming sc f w h o s rest) → IsLent (driver_of w h.0) rest went → (lot ≡ k.claim.reads) ⊎ (lot ≡ k.claim.writes) → IsEndLot sc f w h rest went lot
its_end sc f w h o s rest went lot k lent which = elim which [
  | inl is ↦ subst (IsEndLot sc f w h rest went) (sym is) at_source
  | inr is ↦ subst (IsEndLot sc f w h rest went) (sym is) at_target
]
  where
    may : MayLend (driver_of w h.0).fixed w.machine
    may = record {
      block = k.here.now.flat.world.machine.block_size;
      size = sizes sc f w h k.here.now.flat k.here.lt;
      writes = writing sc f w h k.here.now.flat k.here.lt;
    }

    at_source : IsEndLot sc f w h rest went k.claim.reads
    at_source =
        let d = driver_of w h.0 in
        let c = k.claim in
        let member = its_member sc f w h o s rest c.reads k c.source_is.here in
        let plain = ap is_area c.source_is.kind in
        record {
          member = member;
          plain = plain;
          wanted = c.wanted.0;
          behind = subst (λ (e : DriverState). In (turned_lot sides.Lending c.reads) e.lots) (sym lent.driver) (source_behind d.lots c.reads c.source_is.here c.source_is.id_is);
          may = may;
          lends = subst (LendsEnd d.fixed w.machine c.reads) (sym (rest_is d.fixed d.lots s rest c)) (first_lent d.fixed w.machine c.reads (behind_source d.fixed c.chan c.config c.reads c.writes) may plain (member_planned sc f w h d.lots c.reads member plain));
        }

    at_target : IsEndLot sc f w h rest went k.claim.writes
    at_target =
        let d = driver_of w h.0 in
        let c = k.claim in
        let member = its_member sc f w h o s rest c.writes k c.target_is.here in
        let plain = ap is_area c.target_is.kind in
        record {
          member = member;
          plain = plain;
          wanted = c.wanted.1;
          behind = subst (λ (e : DriverState). In (turned_lot sides.Lending c.writes) e.lots) (sym lent.driver) (target_behind d.lots c.writes c.target_is.here c.target_is.id_is);
          may = may;
          lends = subst (LendsEnd d.fixed w.machine c.writes) (sym (rest_is d.fixed d.lots s rest c))
              (later_lent d.fixed w.machine c.reads c.writes (behind_source d.fixed c.chan c.config c.reads c.writes) (not_its_end d.fixed c.reads c.writes c.source_is.id_is c.target_is.id_is)
              (λ n entry. token_apart c.reads c.writes n c.source_is.id_is (ap (λ (es : List Entry). length es) (ends_lent sc f w h o s rest k).first_only) c.target_is.id_is entry)
              (first_lent d.fixed w.machine c.writes (behind_target d.fixed c.chan c.config c.reads c.writes) may plain (member_planned sc f w h d.lots c.writes member plain)));
        }
