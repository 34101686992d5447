-- A search for slots: a word that is got or missed.
use Rattle.std.specs.Prelude.{Option, Some, None, All, Result, Ok, Err, ◌||◌, ◌+◌, nat_lt, Bool, true, false, if◌then◌else◌, slice_set, option_map}
use Rattle.std.proofs.Common.{◌≡◌, ℕ, ◌<◌, List, [], ◌∷◌, length, refl, sym, ap, ◌∙◌, inl, inr, subst}
use Rattle.std.proofs.lemmas.Bool.{cases_Bool, both_ways, cond-true, cond-false}
use Rattle.std.proofs.lemmas.List.Elements.{All-nil, All-cons, All-head, All-tail}
use Rattle.nc_num.specs.declared.names.Dir.TheVariants.{ToDev, FromDev}
use Rattle.nc_num.specs.declared.names.HartNo.{HartNo}
use Rattle.nc_plan.specs.Plans.{In}
use Rattle.nc_slots.specs.SlotWords.{holder_of}
use Rattle.nc_ops.specs.declared.ops.Op.{Op}
use Rattle.nc_ops.specs.declared.ops.Op.TheVariants as ops
use Rattle.nc_scen.specs.declared.scenario.Scenario.{Scenario}
use Rattle.nc_rules.specs.declared.answers.Refusal.{Refusal}
use Rattle.nc_rules.specs.declared.answers.Refusal.TheVariants as refusals
use Rattle.nc_rules.specs.declared.lots.Kind.{Kind}
use Rattle.nc_rules.specs.declared.lots.Lot.{Lot}
use Rattle.nc_rules.specs.declared.steps.Act.{Act}
use Rattle.nc_rules.specs.declared.steps.Act.TheVariants as acts
use Rattle.nc_rules.specs.declared.steps.Next.TheVariants as nexts
use Rattle.nc_rules.specs.declared.steps.Phase.{Phase}
use Rattle.nc_rules.specs.declared.steps.Phase.TheVariants.{Steps, Search, Work}
use Rattle.nc_rules.specs.declared.steps.Step.{Step}
use Rattle.nc_rules.specs.declared.lots.Kind.TheVariants as kinds
use Rattle.nc_rules.specs.Lots.{DriverConfig, is_wanted, same_kind, lot_waits, some_lot_waits, with_slot, slot_given}
use Rattle.nc_rules.specs.Turns.{is_area}
use Rattle.nc_rules.specs.Operations.{has_start, step_at}
use Rattle.nc_rules.specs.Driver.{DriverState, Went, in_hand, next_of, next_of_op, next_in, next_act, next_rest, next_step, searched, searching, stays, searches, give_up, told, told_of, told_in, told_word}
use Rattle.nc_rules.specs.World.{WorldState, driver_of}
use Rattle.nc_scripts.specs.Drivers.{IsPhase, IsSearching, IsLotIn, AreMade}
use Rattle.nc_scripts.proofs.Lists.{all_to}
use Rattle.nc_scripts.proofs.SlotLaws.{made_given}
use Rattle.nc_holds.specs.Changes.{Got, WaitsUnlent}
use Rattle.nc_holds.specs.Holds.{held_of}
use Rattle.nc_holds.specs.Rests.{RestAt}
use Rattle.nc_holds.proofs.events.From.{everyone_from}
use Rattle.nc_holds.proofs.events.Hart.{change_stays}
use Rattle.nc_holds.proofs.lists.Members.{all_at}
use Rattle.nc_holds.proofs.owners.Given.{owner_laws}
use Rattle.nc_flatness.specs.Books.{loan_by}
use Rattle.nc_flatness.specs.Copying.{CopyOp, IsBegun}
use Rattle.nc_flatness.specs.Lending.{is_lending}
use Rattle.nc_flatness.specs.Flatness.{IsMapping, IsStillOrWanted, makes_kind, IsStillOrMade, StandsAt, BytesStand, Flatness}
use Rattle.nc_flatness.specs.Plans.{IsStill, StillDevice, StillSynced, StillOwn, StillSent}
use Rattle.nc_flatness.specs.Tokens.{is_lending_side}
use Rattle.nc_flatness.proofs.worlds.Outcomes.{gone}
use Rattle.nc_flat_starts.proofs.opening.Calls.{wanted_side, IsCall, kind_of, gives_bytes, search_bytes, Makes, OneMap, ListMap, TwoEnds, placed_bytes}
use Rattle.nc_flat_starts.proofs.opening.Bases.{area_placed}
use Rattle.nc_flat_starts.proofs.turning.Lots.{slot_loans}
use Rattle.nc_flat_starts.proofs.going.CopyRanges.{IsEndSo, AreRanged, ranged, slot_range}
use Rattle.nc_flat_starts.proofs.opening.Starts.{short, holds_here}

-- ---- which word it tries

pub record IsTrying (d : DriverState) (k : ℕ) (o : Op) : Type 0 where
  pub hand : in_hand d ≡ Some o
  pub phase : d.phase ≡ Search k

act_not : (a : Act) (k : ℕ) → searched (next_act a) ≡ Some k → ⊥
act_not (acts.Op op) k e = absurd cc
act_not (acts.Claim chan) k e = absurd cc
act_not (acts.Poll chan) k e = absurd cc
act_not (acts.Take buf) k e = absurd cc

step_not : (t : Bool) (r : Result (Option Step) Refusal) (k : ℕ) → searched (if t then nexts.Start else next_step r) ≡ Some k → ⊥
step_not true r k e = absurd cc
step_not false (Err r) k e = absurd cc
step_not false (Ok None) k e = absurd cc
step_not false (Ok (Some s)) k e = act_not s.act k e

rest_not : (rest : List Step) (k : ℕ) → searched (next_rest rest) ≡ Some k → ⊥
rest_not [] k e = absurd cc
rest_not (s ∷ rest) k e = act_not s.act k e

phase_by : (d : DriverState) (o : Op) (p : Phase) (k : ℕ) → d.phase ≡ p → searched (next_in d o p) ≡ Some k → d.phase ≡ Search k
phase_by d o (Steps n) k is e = absurd (step_not (has_start o) (step_at d.fixed d.lots o n) k e)
phase_by d o (Search n) k is e = let same : n ≡ k = cc in is ∙ ap Search same
phase_by d o Work k is e = absurd (rest_not d.rest k e)

trying_by : (d : DriverState) (o : Option Op) (k : ℕ) → in_hand d ≡ o → searched (next_of_op d o) ≡ Some k → (p : Op) × IsTrying d k p
trying_by d None k hand e = absurd cc
trying_by d (Some o) k hand e = (o, record { hand = hand; phase = phase_by d o d.phase k refl e })

pub trying : (d : DriverState) (k : ℕ) → searching d ≡ Some k → (o : Op) × IsTrying d k o
unfolding searching next_of
trying d k e = trying_by d (in_hand d) k refl e

told_is : (d : DriverState) (k : ℕ) (o : Op) (got : Bool) → IsTrying d k o → told d got ≡ told_word d o k got
unfolding told
told_is d k o got is = ap (λ (p : Option Op). told_of d p got) is.hand ∙ ap (λ (p : Phase). told_in d o p got) is.phase

-- ---- lots of which one gets a slot

given_all : (P : Lot → Type 0) (k : ℕ) (lots : List Lot) → All P lots → ((lot : Lot) → P lot → P (with_slot k lot)) → All P (slot_given k lots)
given_all P k [] all keeps = All-nil P
given_all P k (lot ∷ lots) all keeps = elim (cases_Bool (lot_waits lot)) [
  | inl waits ↦ subst (λ (ls : List Lot). All P ls) (sym (cond-true (lot_waits lot) (with_slot k lot ∷ lots) (lot ∷ slot_given k lots) waits)) (All-cons P (with_slot k lot) lots (keeps lot (All-head P lot lots all)) (All-tail P lot lots all))
  | inr off ↦ subst (λ (ls : List Lot). All P ls) (sym (cond-false (lot_waits lot) (with_slot k lot ∷ lots) (lot ∷ slot_given k lots) off)) (All-cons P lot (slot_given k lots) (All-head P lot lots all) (given_all P k lots (All-tail P lot lots all) keeps))
]

-- one that is lent stays
given_kept : (k : ℕ) (lots : List Lot) (other : Lot) → WaitsUnlent lots → In other lots → is_wanted other.side ≡ false → In other (slot_given k lots)
given_kept k [] other unlent here lent = absurd here
given_kept k (lot ∷ lots) other unlent here lent =
    let P : Lot → Type 0 = λ (l : Lot). lot_waits l ≡ true → is_wanted l.side ≡ true in
    elim (cases_Bool (lot_waits lot)) [
      | inl waits ↦ subst (λ (ls : List Lot). In other ls) (sym (cond-true (lot_waits lot) (with_slot k lot ∷ lots) (lot ∷ slot_given k lots) waits))
          (elim here [ inl same ↦ absurd (both_ways (is_wanted other.side) lent (subst (λ (l : Lot). is_wanted l.side ≡ true) same (All-head P lot lots unlent waits))) | inr there ↦ inr there ])
      | inr off ↦ subst (λ (ls : List Lot). In other ls) (sym (cond-false (lot_waits lot) (with_slot k lot ∷ lots) (lot ∷ slot_given k lots) off))
          (elim here [ inl same ↦ inl same | inr there ↦ inr (given_kept k lots other (All-tail P lot lots unlent) there lent) ])
    ]

-- and one that is being lent was there
given_lent : (k : ℕ) (lots : List Lot) (other : Lot) → WaitsUnlent lots → In other (slot_given k lots) → is_lending_side other.side ≡ true → In other lots
given_lent k [] other unlent here lends = absurd here
given_lent k (lot ∷ lots) other unlent here lends =
    let P : Lot → Type 0 = λ (l : Lot). lot_waits l ≡ true → is_wanted l.side ≡ true in
    elim (cases_Bool (lot_waits lot)) [
      | inl waits ↦
          elim (subst (λ (ls : List Lot). In other ls) (cond-true (lot_waits lot) (with_slot k lot ∷ lots) (lot ∷ slot_given k lots) waits) here) [
            | inl same ↦
                let wanted = wanted_side lot.side (All-head P lot lots unlent waits) in
                absurd (both_ways (is_lending_side other.side) (ap (λ (l : Lot). is_lending_side l.side) (sym same) ∙ ap is_lending_side wanted) lends)
            | inr there ↦ inr there
          ]
      | inr off ↦ elim (subst (λ (ls : List Lot). In other ls) (cond-false (lot_waits lot) (with_slot k lot ∷ lots) (lot ∷ slot_given k lots) off) here) [
        | inl same ↦ inl same
        | inr there ↦ inr (given_lent k lots other (All-tail P lot lots unlent) there lends)
      ]
    ]

still_with : (f : DriverConfig) (k : ℕ) (lot : Lot) → IsStill f lot → IsStill f (with_slot k lot)
still_with f k lot (StillDevice is) = StillDevice is
still_with f k lot (StillSynced is kind) = StillSynced is kind
still_with f k lot (StillOwn is kind) = StillOwn is kind
still_with f k lot (StillSent is light) = StillSent is light

still_given : (f : DriverConfig) (o : Option Op) (k : ℕ) (lot : Lot) → IsStillOrMade f o lot → IsStillOrMade f o (with_slot k lot)
still_given f o k lot (inl still) = inl (still_with f k lot still)
still_given f None k lot (inr is) = inr is
still_given f (Some o) k lot (inr is) = inr is

-- one that waits is there
some_waits : (lots : List Lot) → some_lot_waits lots ≡ true → (lot : Lot) × In lot lots × (lot_waits lot ≡ true)
some_waits [] e = absurd cc
some_waits (lot ∷ lots) e = elim (cases_Bool (lot_waits lot)) [
  | inl is ↦ (lot, inl refl, is)
  | inr off ↦
      let later : some_lot_waits lots ≡ true = sym (ap (λ (t : Bool). t || some_lot_waits lots) off) ∙ e in
      let r = some_waits lots later in
      (r.0, inr r.1, r.2)
]

no_area_kind : (kind : Kind) → is_area kind ≡ false → same_kind kinds.Area kind ≡ true → ⊥
no_area_kind kinds.Area plain is = absurd cc
no_area_kind kinds.Single plain is = absurd cc
no_area_kind kinds.List plain is = absurd cc
no_area_kind kinds.Copy plain is = absurd cc

makes_by : (o : Op) (kind : Kind) → is_area kind ≡ false → makes_kind o kind ≡ true → Makes o × (is_lending o ≡ true)
makes_by (ops.Map label buf off len dir chan) kind plain is = (OneMap label buf off len dir chan refl, refl)
makes_by (ops.MapSg label es dir chan) kind plain is = (ListMap label es dir chan refl, refl)
makes_by (ops.Calloc label count chan) kind plain is = absurd (no_area_kind kind plain is)
makes_by (ops.Unmap label) kind plain is = absurd cc
makes_by (ops.ToCpu label) kind plain is = absurd cc
makes_by (ops.ToDev label) kind plain is = absurd cc
makes_by (ops.UnmapSg label count) kind plain is = absurd cc
makes_by (ops.Ld spot off len) kind plain is = absurd cc
makes_by (ops.St spot off bytes) kind plain is = absurd cc
makes_by (ops.Cbo op buf off) kind plain is = absurd cc
makes_by (ops.Fence pred succ) kind plain is = absurd cc
makes_by (ops.Cgive label) kind plain is = absurd cc
makes_by (ops.Ctake label) kind plain is = absurd cc
makes_by (ops.Cfree label) kind plain is = absurd cc
makes_by (ops.Hand buf to) kind plain is = absurd cc
makes_by (ops.Take buf) kind plain is = absurd cc
makes_by (ops.Claim chan) kind plain is = absurd cc
makes_by (ops.Free chan) kind plain is = absurd cc
makes_by (ops.Regs chan src dst len cfg) kind plain is = absurd cc
makes_by (ops.Run chan) kind plain is = absurd cc
makes_by (ops.Poll chan) kind plain is = absurd cc
makes_by (ops.Regr chan off width) kind plain is = absurd cc
makes_by (ops.Regw chan off width value) kind plain is = absurd cc
makes_by (ops.Copy chan src src_off dst dst_off len cfg) kind plain is = (TwoEnds (record { chan = chan; src = src; src_off = src_off; dst = dst; dst_off = dst_off; len = len; config = cfg }) refl, refl)

-- ---- the hart that searches

pub record IsSearch (sc : Scenario) (f : List ℕ) (w : WorldState) (h : HartNo) (k : ℕ) (o : Op) : Type 0 where
  pub call : IsCall sc f w h o (driver_of w h.0).lots
  pub made : AreMade o (driver_of w h.0).lots
  pub makes : Makes o
  pub few : k < (driver_of w h.0).fixed.slots
  pub unlent : WaitsUnlent (driver_of w h.0).lots
  pub waits : some_lot_waits (driver_of w h.0).lots ≡ true

or_wanted : (f : DriverConfig) (o : Option Op) (lot : Lot) → IsStillOrMade f o lot → IsStillOrWanted f lot
or_wanted f o lot (inl still) = inl still
or_wanted f o lot (inr is) = inr is.0

-- a lot that waits is no area
waits_plain : (lot : Lot) (area : Bool) → is_area lot.kind ≡ area → (is_area lot.kind ≡ true → lot_waits lot ≡ false) → lot_waits lot ≡ true → is_area lot.kind ≡ false
waits_plain lot true is placed waits = absurd (both_ways (lot_waits lot) (placed is) waits)
waits_plain lot false is placed waits = is

pub search_so : (sc : Scenario) (f : List ℕ) (w : WorldState) (h : HartNo) (k : ℕ) (o : Op) → Flatness sc f w → h.0 < length sc.harts → IsTrying (driver_of w h.0) k o → IsSearch sc f w h k o
search_so sc f w h k o flat lt is =
    let d = driver_of w h.0 in
    let drives = flat.bytes.drives h.0 lt in
    let holds = holds_here sc f w h flat lt in
    let fx = d.fixed in
    let stand : All (IsStillOrMade fx (in_hand d)) d.lots = subst (λ (p : Phase). StandsAt d p) is.phase drives.stands in
    let now : All (IsStillOrMade fx (Some o)) d.lots = subst (λ (p : Option Op). All (IsStillOrMade fx p) d.lots) is.hand stand in
    let at : IsSearching d k = subst (λ (p : Phase). IsPhase d p) is.phase holds.driver.phase in
    let one = some_waits d.lots at.waits in
    let wanted = all_at (λ (l : Lot). lot_waits l ≡ true → is_wanted l.side ≡ true) d.lots one.0 holds.waits one.1 one.2 in
    let plain = waits_plain one.0 (is_area one.0.kind) refl (area_placed (length w.machine.cache.ram) fx one.0 (all_at (IsLotIn (length w.machine.cache.ram) fx) d.lots one.0 holds.driver.lots one.1)) one.2 in
    let makes = makes_by o one.0.kind plain (kind_of fx o one.0 (all_at (IsStillOrMade fx (Some o)) d.lots one.0 now one.1) wanted) in
    record {
      call = record {
        flat = flat;
        lt = lt;
        slots = w.slots;
        each = everyone_from w h.0 flat.world.holds (short sc f w h flat lt);
        mappings = drives.lots;
        loans = λ n. refl;
        kept = λ other there lent. there;
        lent = λ other there lends. there;
        still = all_to (IsStillOrMade fx (Some o)) (IsStillOrWanted fx) d.lots now (or_wanted fx (Some o));
        now = now;
        hand = is.hand;
        lends = makes.1;
        idle = subst (λ (p : Phase). RestAt p d.rest) is.phase drives.idle;
        copy = λ c same. ranged sc f w h.0 c (flat.bytes.copying h.0 lt c (is.hand ∙ ap (λ (p : Op). Some p) same) (subst (λ (p : Phase). IsBegun p) (sym is.phase) tt));
      };
      made = at.made o is.hand;
      makes = makes.0;
      few = at.slot;
      unlent = holds.waits;
      waits = at.waits;
    }

-- ---- the answer

-- a slot is no range of a copy
slot_ranged : (w : WorldState) (h : ℕ) (c : CopyOp) (k : ℕ) (lots : List Lot) → AreRanged w h c lots → AreRanged w h c (slot_given k lots)
slot_ranged w h c k lots r = record {
  from = r.from;
  to = r.to;
  from_is = r.from_is;
  to_is = r.to_is;
  ends = given_all (IsEndSo c r.from r.to) k lots r.ends (λ lot is. (λ named. slot_range k lot ToDev c.chan r.from (is.0 named), λ named. slot_range k lot FromDev c.chan r.to (is.1 named)));
  apart = r.apart;
  owned = r.owned;
}

got_call : (sc : Scenario) (f : List ℕ) (w : WorldState) (h : HartNo) (k : ℕ) (o : Op) → IsSearch sc f w h k o → holder_of w.slots k ≡ None → IsCall sc f w h o (slot_given k (driver_of w h.0).lots)
got_call sc f w h k o s free =
    let d = driver_of w h.0 in
    let fx = d.fixed in
    let c = s.call in
    let ram = length w.machine.cache.ram in
    let harts = length w.machine.harts in
    record {
      flat = c.flat;
      lt = c.lt;
      slots = slice_set w.slots k (Some fx.me);
      each = change_stays owner_laws ram harts h.0 fx _ _ (held_of w h.0) (Got k) (everyone_from w h.0 c.flat.world.holds (short sc f w h c.flat c.lt)) ((s.unlent, s.few), (record { waits = s.waits; unlent = s.unlent; free = free }, s.few), tt);
      mappings = given_all IsMapping k d.lots c.mappings (λ lot is. record { kind = is.kind });
      loans = λ n. ap (option_map (loan_by fx n)) (slot_loans k n d.lots s.unlent);
      kept = λ other there lent. given_kept k d.lots other s.unlent there lent;
      lent = λ other there lends. given_lent k d.lots other s.unlent there lends;
      still = c.still;
      now = given_all (IsStillOrMade fx (Some o)) k d.lots c.now (still_given fx (Some o) k);
      hand = c.hand;
      lends = c.lends;
      idle = c.idle;
      copy = λ n is. slot_ranged w h.0 n k d.lots (c.copy n is);
    }

missed_bytes : (sc : Scenario) (f : List ℕ) (w : WorldState) (h : HartNo) (k : ℕ) (o : Op) (t : Bool) → IsSearch sc f w h k o → BytesStand sc f (gone w h w.machine (if t then stays (searches (driver_of w h.0) (k + 1)) else give_up (driver_of w h.0) o refusals.NoSlot))
missed_bytes sc f w h k o true s = search_bytes sc f w h o (driver_of w h.0).lots (k + 1) s.call
missed_bytes sc f w h k o false s = gives_bytes sc f w h o refusals.NoSlot s.call.flat s.call.lt s.call.idle s.call.still

word_bytes : (sc : Scenario) (f : List ℕ) (w : WorldState) (h : HartNo) (k : ℕ) (o : Op) (got : Bool) → IsSearch sc f w h k o → (got ≡ true → holder_of w.slots k ≡ None) → BytesStand sc f (gone w h w.machine (told_word (driver_of w h.0) o k got))
word_bytes sc f w h k o true s free = placed_bytes sc f w h o (slot_given k (driver_of w h.0).lots) s.makes (got_call sc f w h k o s (free refl)) (made_given k o (driver_of w h.0).lots s.made)
word_bytes sc f w h k o false s free = missed_bytes sc f w h k o (nat_lt (k + 1) (driver_of w h.0).fixed.slots) s

pub told_bytes : (sc : Scenario) (f : List ℕ) (w : WorldState) (h : HartNo) (k : ℕ) (got : Bool) → Flatness sc f w → h.0 < length sc.harts → searching (driver_of w h.0) ≡ Some k → (got ≡ true → holder_of w.slots k ≡ None) → BytesStand sc f (gone w h w.machine (told (driver_of w h.0) got))
told_bytes sc f w h k got flat lt at free =
    let d = driver_of w h.0 in
    let t = trying d k at in
    subst (λ (went : Went). BytesStand sc f (gone w h w.machine went)) (sym (told_is d k t.0 got t.1)) (word_bytes sc f w h k t.0 got (search_so sc f w h k t.0 flat lt t.1) free)
