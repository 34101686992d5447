-- The drain of a token: the lot is its channel's, and what its hart's driver is still to do goes on as it stood.
use Rattle.std.proofs.Common.{◌≡◌, ℕ, cond, Bool, true, false, List, [], ◌∷◌, refl, sym, ap, ◌∙◌, inl, inr, subst, Option, Some, None}
use Rattle.std.specs.Prelude.{◌⊎◌, ◌==◌, ◌||◌, not, All, filter, map}
use Rattle.std.specs.List.{list_any}
use Rattle.std.proofs.lemmas.Bool.{cases_Bool, and_parts, and_from, or_parts, or_left, cond-true, cond-false, eqb-true, eq-eqb, false_from_ne_true, false≢true}
use Rattle.std.proofs.lemmas.List.Elements.{All-nil, All-cons, All-head, All-tail}
use Rattle.nc_num.specs.declared.names.ChanNo.{ChanNo}
use Rattle.nc_num.specs.declared.names.Dir.{Dir}
use Rattle.nc_num.specs.declared.names.Dir.TheVariants.{ToDev, FromDev}
use Rattle.nc_num.specs.declared.places.Span.{Span}
use Rattle.nc_plan.specs.Plans.{In}
use Rattle.nc_plan.proofs.PlanLaws.{in_map}
use Rattle.nc_sg.specs.declared.list.Entry.{Entry as Range}
use Rattle.nc_ops.specs.declared.ops.Op.{Op}
use Rattle.nc_ops.specs.declared.ops.Op.TheVariants as ops
use Rattle.nc_rules.specs.declared.lots.Lot.{Lot}
use Rattle.nc_rules.specs.declared.lots.LotId.{LotId}
use Rattle.nc_rules.specs.declared.lots.Side.{Side}
use Rattle.nc_rules.specs.declared.lots.Side.TheVariants as sides
use Rattle.nc_rules.specs.declared.steps.Act.{Act}
use Rattle.nc_rules.specs.declared.steps.Phase.{Phase}
use Rattle.nc_rules.specs.declared.steps.Phase.TheVariants.{Steps, Search, Work}
use Rattle.nc_rules.specs.declared.steps.Step.{Step}
use Rattle.nc_rules.specs.declared.steps.Turn.{Turn}
use Rattle.nc_rules.specs.declared.steps.Turn.TheVariants as turns
use Rattle.nc_rules.specs.Driver.{DriverState, in_hand, with_lots}
use Rattle.nc_rules.specs.Copies.{source, target}
use Rattle.nc_rules.specs.Lots.{DriverConfig, is_lot}
use Rattle.nc_rules.specs.Turns.{is_area, with_side, set_side, lots_after, lots_after_both}
use Rattle.nc_scripts.specs.Drivers.{AreApart}
use Rattle.nc_scripts.proofs.Lists.{all_in, all_filtered}
use Rattle.nc_scripts.proofs.LotLaws.{its_name}
use Rattle.nc_holds.specs.Held.{IsEntryOf}
use Rattle.nc_holds.proofs.lists.Members.{all_at}
use Rattle.nc_holds.proofs.owners.Lots.{same_named}
use Rattle.nc_rows.specs.Ahead.{same_lot, turns_lot, gives_lot, settles_lot, stores_io, tokens_lot}
use Rattle.nc_flatness.specs.Plans.{IsStill, StillDevice, IsBeside, IsInHand, HasLend, GoesIn, ComesOut, IsCopied, IsBack, IsDrop, IsEnd, IsAreaBack, IsCopyEnd, IsTaken, token_step, StepGoes, Loads, Stores, WritesBack, Drops, Gives, Fences, Ends, Zeroes, Flushes, Settles, GivesArea, TakesBack, Marks, Posts, Claims, Registers, Polls, TakesTarget, TakesSource, given_now, lots_behind, PlanGoes}
use Rattle.nc_flatness.specs.Copying.{is_poll}
use Rattle.nc_flatness.specs.Tokens.{is_lending_side, ends_lending, is_sent}
use Rattle.nc_flatness.specs.Flatness.{IsMapping, IsStillOrMade, PlanLeft, PlanIs, PlanOf, StandsAt, Drives}
use Rattle.nc_flatness.proofs.plans.Rests.{kept_in, lend_behind, settling_lends, give_lends, settle_lends, token_lends, turn_name, lots_unpolled, lots_polled, plan_next}
use Rattle.nc_flatness.proofs.tokens.Tokens.{sent_side, sent_unlent}

-- ---- a side that lots of a name get

pub all_sided : (P Q : Lot → Type 0) (side : Side) (id : LotId) (lots : List Lot) → All P lots → ((lot : Lot) → P lot → is_lot id lot ≡ true → Q (record lot { side = side })) → ((lot : Lot) → P lot → is_lot id lot ≡ false → Q lot) → All Q (set_side side id lots)
all_sided P Q side id [] all hit miss = All-nil Q
all_sided P Q side id (lot ∷ lots) all hit miss =
    All-cons Q (with_side side id lot) (set_side side id lots) (one (is_lot id lot) refl (All-head P lot lots all)) (all_sided P Q side id lots (All-tail P lot lots all) hit miss)
  where
    one : (t : Bool) → is_lot id lot ≡ t → P lot → Q (with_side side id lot)
    one true is p = subst Q (sym (cond-true (is_lot id lot) (record lot { side = side }) lot is)) (hit lot p is)
    one false is p = subst Q (sym (cond-false (is_lot id lot) (record lot { side = side }) lot is)) (miss lot p is)

-- each lot stays a mapping
pub sides_mapping : (f : DriverConfig) (side : Side) (id : LotId) (lots : List Lot) → All IsMapping lots → All IsMapping (set_side side id lots)
sides_mapping f side id lots all = all_sided IsMapping IsMapping side id lots all (λ lot is hit. record { kind = is.kind }) (λ lot is miss. is)

-- ---- the channel has it

abbrev pub lent : LotId → List Lot → List Lot
lent id lots = set_side sides.Device id lots

still_lent : (f : DriverConfig) (id : LotId) (lots : List Lot) → All (IsStill f) lots → All (IsStill f) (lent id lots)
still_lent f id lots all = all_sided (IsStill f) (IsStill f) sides.Device id lots all (λ lot is hit. StillDevice refl) (λ lot is miss. is)

hand_lent : (f : DriverConfig) (lots : List Lot) (lot : Lot) (area : Bool) (side : Side) (id : LotId) → IsInHand f lots lot area side → is_lot id lot ≡ false → IsInHand f (lent id lots) lot area side
hand_lent f lots lot area side id hand off = record {
  here = kept_in sides.Device id lots lot off hand.here;
  area_is = hand.area_is;
  side_is = hand.side_is;
  others = all_sided (λ (o : Lot). is_lot lot.id o ≡ false → IsBeside f lot o) (λ (o : Lot). is_lot lot.id o ≡ false → IsBeside f lot o) sides.Device id lots hand.others (λ o is hit named. inl (StillDevice refl)) (λ o is miss. is);
}

entry_lent : (lots : List Lot) (lot : Lot) (i : ℕ) (e : Range) (id : LotId) → IsEntryOf lots lot i e → is_lot id lot ≡ false → IsEntryOf (lent id lots) lot i e
entry_lent lots lot i e id here off = record { lot_in = kept_in sides.Device id lots lot off here.lot_in; entry = here.entry }

way_lent : (f : DriverConfig) (lots : List Lot) (lot : Lot) (e : Range) (rest : List Step) (from to : Span) (id : LotId) → GoesIn f lots lot e rest from to ⊎ ComesOut f lots lot e rest from to → is_lot id lot ≡ false
    → GoesIn f (lent id lots) lot e rest from to ⊎ ComesOut f (lent id lots) lot e rest from to
way_lent f lots lot e rest from to id (inl goes) off = inl (record { hand = hand_lent f lots lot false sides.Lending id goes.hand off; later = goes.later; from_is = goes.from_is; to_is = goes.to_is })
way_lent f lots lot e rest from to id (inr comes) off =
    inr (record { hand = hand_lent f lots lot false sides.Returning id comes.hand off; back = comes.back; fenced = comes.fenced; from_is = comes.from_is; to_is = comes.to_is })

-- ---- a turn of another lot

named_both : (id to : LotId) (lot : Lot) → is_lot id lot ≡ true → is_lot to lot ≡ true → same_lot id to ≡ true
named_both id to lot a b =
    let p = and_parts (lot.id.label.0 == id.label.0) (lot.id.first == id.first) a in
    let q = and_parts (lot.id.label.0 == to.label.0) (lot.id.first == to.first) b in
    and_from (id.label.0 == to.label.0) (id.first == to.first)
    (eq-eqb id.label.0 to.label.0 (sym (eqb-true lot.id.label.0 id.label.0 p.0) ∙ eqb-true lot.id.label.0 to.label.0 q.0))
    (eq-eqb id.first to.first (sym (eqb-true lot.id.first id.first p.1) ∙ eqb-true lot.id.first to.first q.1))

hit : (side : Side) (id : LotId) (lot : Lot) → is_lot id lot ≡ true → with_side side id lot ≡ record lot { side = side }
hit side id lot is = cond-true (is_lot id lot) (record lot { side = side }) lot is

miss : (side : Side) (id : LotId) (lot : Lot) → is_lot id lot ≡ false → with_side side id lot ≡ lot
miss side id lot off = cond-false (is_lot id lot) (record lot { side = side }) lot off

sided_twice : (side : Side) (id to : LotId) (lot : Lot) (a b : Bool) → is_lot id lot ≡ a → is_lot to lot ≡ b → same_lot id to ≡ false → with_side side to (with_side sides.Device id lot) ≡ with_side sides.Device id (with_side side to lot)
sided_twice side id to lot true true e d off = absurd (false≢true (sym off ∙ named_both id to lot e d))
sided_twice side id to lot true false e d off =
    let here = hit sides.Device id lot e in
    let there = miss side to lot d in
    ap (with_side side to) here ∙ miss side to (record lot { side = sides.Device }) d ∙ sym (ap (with_side sides.Device id) there ∙ here)
sided_twice side id to lot false true e d off =
    let here = miss sides.Device id lot e in
    let there = hit side to lot d in
    ap (with_side side to) here ∙ there ∙ sym (ap (with_side sides.Device id) there ∙ miss sides.Device id (record lot { side = side }) e)
sided_twice side id to lot false false e d off =
    let here = miss sides.Device id lot e in
    let there = miss side to lot d in
    ap (with_side side to) here ∙ there ∙ sym (ap (with_side sides.Device id) there ∙ here)

sides_twice : (side : Side) (id to : LotId) (lots : List Lot) → same_lot id to ≡ false → set_side side to (lent id lots) ≡ lent id (set_side side to lots)
sides_twice side id to [] off = refl
sides_twice side id to (lot ∷ lots) off =
    ap (λ (k : Lot). k ∷ set_side side to (lent id lots)) (sided_twice side id to lot (is_lot id lot) (is_lot to lot) refl refl off)
    ∙ ap (λ (ls : List Lot). with_side sides.Device id (with_side side to lot) ∷ ls) (sides_twice side id to lots off)

named_sided : (id to : LotId) (lot : Lot) (t : Bool) → is_lot id lot ≡ t → is_lot to (with_side sides.Device id lot) ≡ is_lot to lot
named_sided id to lot true e = rw e refl
named_sided id to lot false e = rw e refl

left_by : (id to : LotId) (lot : Lot) (lots more : List Lot) (t : Bool) → lots ≡ lent id more → cond t (with_side sides.Device id lot ∷ lots) lots ≡ lent id (cond t (lot ∷ more) more)
left_by id to lot lots more true e = ap (λ (ls : List Lot). with_side sides.Device id lot ∷ ls) e
left_by id to lot lots more false e = e

left_twice : (id to : LotId) (lots : List Lot) → filter (λ lot. not (is_lot to lot)) (lent id lots) ≡ lent id (filter (λ lot. not (is_lot to lot)) lots)
left_twice id to [] = refl
left_twice id to (lot ∷ lots) =
    let left = filter (λ (l : Lot). not (is_lot to l)) (lent id lots) in
    ap (λ (t : Bool). cond (not t) (with_side sides.Device id lot ∷ left) left) (named_sided id to lot (is_lot id lot) refl)
    ∙ left_by id to lot left (filter (λ (l : Lot). not (is_lot to l)) lots) (not (is_lot to lot)) (left_twice id to lots)

pub turn_lent : (id : LotId) (t : Turn) (lots : List Lot) → turns_lot id t ≡ false → lots_after t (lent id lots) ≡ lent id (lots_after t lots)
turn_lent id turns.Stay lots off = refl
turn_lent id (turns.Pass range to) lots off = refl
turn_lent id (turns.Own range) lots off = refl
turn_lent id (turns.Lend to) lots off = sides_twice sides.Lending id to lots off
turn_lent id (turns.Give to) lots off = sides_twice sides.Device id to lots off
turn_lent id (turns.Return to) lots off = sides_twice sides.Returning id to lots off
turn_lent id (turns.Sync to) lots off = sides_twice sides.Synced id to lots off
turn_lent id (turns.Settle to) lots off = sides_twice sides.Own id to lots off
turn_lent id (turns.End to) lots off = left_twice id to lots

-- the lots of a name are being lent
abbrev pub AreLending : LotId → List Lot → Type 0
AreLending id lots = All (λ lot. is_lot id lot ≡ true → lot.side ≡ sides.Lending) lots

lending_sided : (side : Side) (id to : LotId) (lots : List Lot) → same_lot id to ≡ false → AreLending id lots → AreLending id (set_side side to lots)
lending_sided side id to lots off all =
    all_sided (λ (lot : Lot). is_lot id lot ≡ true → lot.side ≡ sides.Lending) (λ (lot : Lot). is_lot id lot ≡ true → lot.side ≡ sides.Lending) side to lots all
    (λ lot is hit named. absurd (false≢true (sym off ∙ named_both id to lot named hit))) (λ lot is miss. is)

turn_lending : (id : LotId) (t : Turn) (lots : List Lot) → turns_lot id t ≡ false → AreLending id lots → AreLending id (lots_after t lots)
turn_lending id turns.Stay lots off all = all
turn_lending id (turns.Pass range to) lots off all = all
turn_lending id (turns.Own range) lots off all = all
turn_lending id (turns.Lend to) lots off all = lending_sided sides.Lending id to lots off all
turn_lending id (turns.Give to) lots off all = lending_sided sides.Device id to lots off all
turn_lending id (turns.Return to) lots off all = lending_sided sides.Returning id to lots off all
turn_lending id (turns.Sync to) lots off all = lending_sided sides.Synced id to lots off all
turn_lending id (turns.Settle to) lots off all = lending_sided sides.Own id to lots off all
turn_lending id (turns.End to) lots off all =
    all_filtered (λ (lot : Lot). is_lot id lot ≡ true → lot.side ≡ sides.Lending) (λ (lot : Lot). is_lot id lot ≡ true → lot.side ≡ sides.Lending) (λ lot. not (is_lot to lot)) lots all (λ lot is stays. is)

named_id : (id : LotId) (lot : Lot) → is_lot id lot ≡ true → lot.id ≡ id
named_id id lot is =
    let both = and_parts (lot.id.label.0 == id.label.0) (lot.id.first == id.first) is in
    let label : lot.id.label.0 ≡ id.label.0 = eqb-true lot.id.label.0 id.label.0 both.0 in
    let first : lot.id.first ≡ id.first = eqb-true lot.id.first id.first both.1 in
    λ i. record { label = record { 0 = label i }; first = first i }

-- ---- a step, of another lot

-- the lot that a step is of is taken back, or lent with the end of that still to come
abbrev IsMoving : List Step → Lot → Type 0
IsMoving steps lot = ((lot.side ≡ sides.Lending) × HasLend lot.id steps) ⊎ (lot.side ≡ sides.Returning)

abbrev IsApart : LotId → List Lot → List Step → Type 0
IsApart id lots steps = (lot : Lot) → In lot lots → IsMoving steps lot → is_lot id lot ≡ false

copied_apart : (f : DriverConfig) (lots : List Lot) (s : Step) (rest : List Step) (from to : Span) (id : LotId) → (c : IsCopied f lots rest from to) → IsApart id lots (s ∷ rest) → is_lot id c.lot ≡ false
copied_apart f lots s rest from to id c apart = elim c.way [
  | inl goes ↦ apart c.lot c.here.lot_in (inl (goes.hand.side_is, lend_behind c.lot.id s rest goes.later))
  | inr comes ↦ apart c.lot c.here.lot_in (inr comes.hand.side_is)
]

-- a piece, a drop and an end of another lot
copied_lent : (f : DriverConfig) (lots : List Lot) (s : Step) (rest : List Step) (from to : Span) (id : LotId) → IsCopied f lots rest from to → IsApart id lots (s ∷ rest) → IsCopied f (lent id lots) rest from to
copied_lent f lots s rest from to id c apart =
    let off = copied_apart f lots s rest from to id c apart in
    record { lot = c.lot; i = c.i; entry = c.entry; here = entry_lent lots c.lot c.i c.entry id c.here off; bounced = c.bounced; way = way_lent f lots c.lot c.entry rest from to id c.way off }

drop_lent : (f : DriverConfig) (lots : List Lot) (s : Step) (rest : List Step) (id : LotId) → (is : IsDrop f lots s rest) → is_lot id is.lot ≡ false → IsDrop f (lent id lots) s rest
drop_lent f lots s rest id is off = record {
  lot = is.lot;
  hand = hand_lent f lots is.lot false sides.Returning id is.hand off;
  back = is.back;
  op = is.op;
  block = is.block;
  step = is.step;
  drops = is.drops;
  i = is.i;
  entry = is.entry;
  here = entry_lent lots is.lot is.i is.entry id is.here off;
  place = is.place;
  covered = is.covered;
  met = is.met;
  ahead = is.ahead;
  next = is.next;
}

end_lent : (f : DriverConfig) (lots : List Lot) (s : Step) (rest : List Step) (id : LotId) → (is : IsEnd f lots s rest) → is_lot id is.lot ≡ false → IsEnd f (lent id lots) s rest
end_lent f lots s rest id is off = record { lot = is.lot; hand = hand_lent f lots is.lot false sides.Returning id is.hand off; turn = is.turn; is_back = is.is_back; step = is.step; next = is.next; straight = is.straight }

-- an end of a copy stays one
pub both_lent : (lots : List Lot) (lot : Lot) (id : LotId) → In lot lots → In (with_side sides.Device id lot) (lent id lots)
both_lent lots lot id here = in_map {Y = Lot} (with_side sides.Device id) lot lots here

pub end_by : (lots : List Lot) (lot : Lot) (end : LotId) (dir : Dir) (chan : ChanNo) (id : LotId) (t : Bool) → is_lot id lot ≡ t → IsCopyEnd lots lot end dir chan → IsCopyEnd (lent id lots) (with_side sides.Device id lot) end dir chan
end_by lots lot end dir chan id true is e =
    let same : with_side sides.Device id lot ≡ record lot { side = sides.Device } = cond-true (is_lot id lot) (record lot { side = sides.Device }) lot is in record {
      here = both_lent lots lot id e.here;
      id_is = ap (λ (l : Lot). l.id) same ∙ e.id_is;
      kind = ap (λ (l : Lot). l.kind) same ∙ e.kind;
      dir_is = ap (λ (l : Lot). l.list.dir) same ∙ e.dir_is;
      chan_is = ap (λ (l : Lot). l.chan) same ∙ e.chan_is;
    }
end_by lots lot end dir chan id false is e =
    let same : with_side sides.Device id lot ≡ lot = cond-false (is_lot id lot) (record lot { side = sides.Device }) lot is in record {
      here = both_lent lots lot id e.here;
      id_is = ap (λ (l : Lot). l.id) same ∙ e.id_is;
      kind = ap (λ (l : Lot). l.kind) same ∙ e.kind;
      dir_is = ap (λ (l : Lot). l.list.dir) same ∙ e.dir_is;
      chan_is = ap (λ (l : Lot). l.chan) same ∙ e.chan_is;
    }

pub kept_end : (lots : List Lot) (lot : Lot) (end : LotId) (dir : Dir) (chan : ChanNo) (id : LotId) → is_lot id lot ≡ false → IsCopyEnd lots lot end dir chan → IsCopyEnd (lent id lots) lot end dir chan
kept_end lots lot end dir chan id off e = record { here = kept_in sides.Device id lots lot off e.here; id_is = e.id_is; kind = e.kind; dir_is = e.dir_is; chan_is = e.chan_is }

-- a lot of another side is none of those that are being lent
unlent_off : (id : LotId) (lots : List Lot) (lot : Lot) (side : Side) → AreLending id lots → In lot lots → lot.side ≡ side → (side ≡ sides.Lending → ⊥) → is_lot id lot ≡ false
unlent_off id lots lot side all here is other = false_from_ne_true (is_lot id lot) (λ named. other (sym is ∙ all_at (λ (l : Lot). is_lot id l ≡ true → l.side ≡ sides.Lending) lots lot all here named))

unnamed_off : (id : LotId) (lot : Lot) → is_lot id lot ≡ false → same_lot id lot.id ≡ false
unnamed_off id lot off = false_from_ne_true (same_lot id lot.id) (λ same. false≢true (sym off ∙ its_name lot id (sym (turn_name id lot.id same))))

taken_lent : (lots : List Lot) (lot : Lot) (s : Step) (id : LotId) → is_lot id lot ≡ false → IsTaken lots lot s → IsTaken (lent id lots) lot s
taken_lent lots lot s id off is = record { here = kept_in sides.Device id lots lot off is.here; kind = is.kind; side = is.side; first = is.first }

drop_over : (f : DriverConfig) (ls ks : List Lot) (s : Step) (rest : List Step) → ls ≡ ks → (is : IsDrop f ls s rest) → (to : IsDrop f ks s rest) × (to.lot ≡ is.lot)
drop_over f ls ks s rest e is = subst (λ (l : List Lot). (to : IsDrop f l s rest) × (to.lot ≡ is.lot)) e (is, refl)

end_over : (f : DriverConfig) (ls ks : List Lot) (s : Step) (rest : List Step) → ls ≡ ks → (is : IsEnd f ls s rest) → (to : IsEnd f ks s rest) × (to.lot ≡ is.lot)
end_over f ls ks s rest e is = subst (λ (l : List Lot). (to : IsEnd f l s rest) × (to.lot ≡ is.lot)) e (is, refl)

step_lent : (f : DriverConfig) (lots : List Lot) (s : Step) (rest : List Step) (id : LotId) → StepGoes f lots s rest → AreLending id lots → IsApart id lots (s ∷ rest) → StepGoes f (lent id lots) s rest
unfolding copied_lent drop_lent end_lent
step_lent f lots s rest id (Loads is) all apart =
    Loads (record {
      from = is.from;
      to = is.to;
      copied = copied_lent f lots s rest is.from is.to id is.copied apart;
      span = is.span;
      step = is.step;
      within = is.within;
      next = is.next;
    })
step_lent f lots s rest id (Stores is) all apart =
    Stores (record {
      from = is.from;
      to = is.to;
      copied = copied_lent f lots s rest is.from is.to id is.copied apart;
      span = is.span;
      act = is.act;
      first = is.first;
      within = is.within;
      once = is.once;
      next = is.next;
      last = is.last;
    })
step_lent f lots s rest id (WritesBack is) all apart =
    let off = apart is.lot is.hand.here (inl (is.hand.side_is, lend_behind is.lot.id s rest is.later)) in
    WritesBack (record { lot = is.lot; hand = hand_lent f lots is.lot false sides.Lending id is.hand off; op = is.op; block = is.block; step = is.step; writes = is.writes; later = is.later; next = is.next })
step_lent f lots s rest id (Drops is) all apart = Drops (drop_lent f lots s rest id is (apart is.lot is.hand.here (inr is.hand.side_is)))
step_lent f lots s rest id (Gives is) all apart =
    let off = apart is.lot is.hand.here (inl (is.hand.side_is, give_lends is.lot.id s rest (ap (λ (t : Step). t.last) is.step))) in
    Gives (record { lot = is.lot; hand = hand_lent f lots is.lot false sides.Lending id is.hand off; step = is.step; next = is.next })
step_lent f lots s rest id (Fences is) all apart =
    let off = apart is.lot is.hand.here (inr is.hand.side_is) in
    Fences (record {
      lot = is.lot;
      hand = hand_lent f lots is.lot false sides.Returning id is.hand off;
      step = is.step;
      only = is.only;
      next = is.next;
      out = λ i e x here bounced back on. is.out i e x (record { lot_in = is.hand.here; entry = here.entry }) bounced back on;
    })
step_lent f lots s rest id (Ends is) all apart = Ends (end_lent f lots s rest id is (apart is.lot is.hand.here (inr is.hand.side_is)))
step_lent f lots s rest id (Zeroes is) all apart =
    let off = apart is.lot is.hand.here (inl (is.hand.side_is, lend_behind is.lot.id s rest (settling_lends is.lot.id rest is.settles))) in
    Zeroes (record {
      lot = is.lot;
      hand = hand_lent f lots is.lot true sides.Lending id is.hand off;
      block = is.block;
      step = is.step;
      i = is.i;
      entry = is.entry;
      here = entry_lent lots is.lot is.i is.entry id is.here off;
      whole = is.whole;
      once = is.once;
      settles = is.settles;
      next = is.next;
    })
step_lent f lots s rest id (Flushes is) all apart =
    let off = apart is.lot is.hand.here (inl (is.hand.side_is, lend_behind is.lot.id s rest (settling_lends is.lot.id rest is.settles))) in
    Flushes (record { lot = is.lot; hand = hand_lent f lots is.lot true sides.Lending id is.hand off; block = is.block; step = is.step; settles = is.settles; next = is.next })
step_lent f lots s rest id (Settles is) all apart =
    let off = apart is.lot is.hand.here (inl (is.hand.side_is, settle_lends is.lot.id s rest (ap (λ (t : Step). t.last) is.step))) in
    Settles (record { lot = is.lot; hand = hand_lent f lots is.lot true sides.Lending id is.hand off; step = is.step; over = is.over })
step_lent f lots s rest id (GivesArea is) all apart =
    let off = apart is.lot is.hand.here (inl (is.hand.side_is, give_lends is.lot.id s rest (ap (λ (t : Step). t.last) is.step))) in
    GivesArea (record { lot = is.lot; hand = hand_lent f lots is.lot true sides.Lending id is.hand off; step = is.step; over = is.over })
step_lent f lots s rest id (TakesBack is) all apart =
    let off = apart is.lot is.hand.here (inr is.hand.side_is) in
    TakesBack (record { lot = is.lot; hand = hand_lent f lots is.lot true sides.Returning id is.hand off; turn = is.turn; is_back = is.is_back; step = is.step; over = is.over })
step_lent f lots s rest id (Marks is) all apart =
    let lends : HasLend is.lot.id rest = ap (list_any (ends_lending is.lot.id)) is.left ∙ or_left (ends_lending is.lot.id (token_step is.lot)) (list_any (ends_lending is.lot.id) is.more) (token_lends is.lot) in
    let off = apart is.lot is.hand.here (inl (is.hand.side_is, lend_behind is.lot.id s rest lends)) in
    Marks (record { lot = is.lot; hand = hand_lent f lots is.lot (is_area is.lot.kind) sides.Lending id is.hand off; light = is.light; step = is.step; more = is.more; left = is.left })
step_lent f lots s rest id (Posts is) all apart =
    let lends : HasLend is.lot.id (s ∷ rest) = or_left (ends_lending is.lot.id s) (list_any (ends_lending is.lot.id) rest) (ap (ends_lending is.lot.id) is.step ∙ token_lends is.lot) in
    let off = apart is.lot is.hand.here (inl (is.hand.side_is, lends)) in
    Posts (record { lot = is.lot; hand = hand_lent f lots is.lot (is_area is.lot.kind) sides.Lending id is.hand off; light = is.light; step = is.step; lent = is.lent; next = is.next; quiet = is.quiet; over = is.over })
step_lent f lots s rest id (Claims is) all apart =
    let reads = unlent_off id lots is.reads sides.Wanted all is.source_is.here is.wanted.0 (λ e. absurd (cc)) in
    let writes = unlent_off id lots is.writes sides.Wanted all is.target_is.here is.wanted.1 (λ e. absurd (cc)) in
    let P : Lot → Type 0 = λ (o : Lot). is_lot source o ≡ false → is_lot target o ≡ false → IsStill f o in
    Claims (record {
      chan = is.chan;
      config = is.config;
      once = is.once;
      reads = is.reads;
      writes = is.writes;
      source_is = kept_end lots is.reads source ToDev is.chan id reads is.source_is;
      target_is = kept_end lots is.writes target FromDev is.chan id writes is.target_is;
      wanted = is.wanted;
      others = all_sided P P sides.Device id lots is.others (λ o was named a b. StillDevice refl) (λ o was off. was);
      steps = is.steps;
      next = is.next;
    })
step_lent f lots s rest id (Registers is) all apart =
    Registers (record { chan = is.chan; off = is.off; width = is.width; value = is.value; step = is.step; still = still_lent f id lots is.still; next = is.next })
step_lent f lots s rest id (Polls is) all apart =
    Polls (record {
      chan = is.chan;
      step = is.step;
      still = still_lent f id lots is.still;
      reads = with_side sides.Device id is.reads;
      writes = with_side sides.Device id is.writes;
      source_is = end_by lots is.reads source ToDev is.chan id (is_lot id is.reads) refl is.source_is;
      target_is = end_by lots is.writes target FromDev is.chan id (is_lot id is.writes) refl is.target_is;
      more = is.more;
      release = is.release;
      lent = is.lent;
    })
step_lent f lots s rest id (TakesTarget is) all apart =
    let off = unlent_off id lots is.lot sides.Device all is.taken.here is.taken.side (λ e. absurd (cc)) in
    let far : is_lot id is.goes.lot ≡ false = ap (is_lot id) is.same ∙ off in
    let twice = sides_twice sides.Returning id is.lot.id lots (unnamed_off id is.lot off) in
    let to = drop_over f (lent id (set_side sides.Returning is.lot.id lots)) (set_side sides.Returning is.lot.id (lent id lots)) (record s { first = turns.Stay }) rest (sym twice)
    (drop_lent f (set_side sides.Returning is.lot.id lots) (record s { first = turns.Stay }) rest id is.goes far) in
    TakesTarget (record {
      lot = is.lot;
      taken = taken_lent lots is.lot s id off is.taken;
      goes = to.0;
      same = to.1 ∙ is.same;
      drops = is.drops;
    })
step_lent f lots s rest id (TakesSource is) all apart =
    let off = unlent_off id lots is.lot sides.Device all is.taken.here is.taken.side (λ e. absurd (cc)) in
    let far : is_lot id is.goes.lot ≡ false = ap (is_lot id) is.same ∙ off in
    let twice = sides_twice sides.Returning id is.lot.id lots (unnamed_off id is.lot off) in
    let to = end_over f (lent id (set_side sides.Returning is.lot.id lots)) (set_side sides.Returning is.lot.id (lent id lots)) (record s { first = turns.Stay }) rest (sym twice)
    (end_lent f (set_side sides.Returning is.lot.id lots) (record s { first = turns.Stay }) rest id is.goes far) in
    TakesSource (record {
      lot = is.lot;
      taken = taken_lent lots is.lot s id off is.taken;
      goes = to.0;
      same = to.1 ∙ is.same;
      stays = is.stays;
      last = is.last;
    })

-- ---- the turns of a step are of no lot that is being lent, but for one that it gives

-- a lot of another side
far_side : (id : LotId) (lots : List Lot) (lot : Lot) (side : Side) → AreLending id lots → In lot lots → lot.side ≡ side → (side ≡ sides.Lending → ⊥) → same_lot id lot.id ≡ false
far_side id lots lot side all here is other = unnamed_off id lot (unlent_off id lots lot side all here is other)

far_end : (id end : LotId) (dir : Dir) (chan : ChanNo) (lots : List Lot) (lot : Lot) → AreLending id lots → IsCopyEnd lots lot end dir chan → lot.side ≡ sides.Wanted → same_lot id end ≡ false
far_end id end dir chan lots lot all is wanted = subst (λ (k : LotId). same_lot id k ≡ false) is.id_is (far_side id lots lot sides.Wanted all is.here wanted (λ e. absurd (cc)))

far_back : (id : LotId) (lots : List Lot) (lot : Lot) → AreLending id lots → In lot lots → lot.side ≡ sides.Returning → same_lot id lot.id ≡ false
far_back id lots lot all here is = far_side id lots lot sides.Returning all here is (λ e. absurd (cc))

far_device : (id : LotId) (lots : List Lot) (lot : Lot) → AreLending id lots → In lot lots → lot.side ≡ sides.Device → same_lot id lot.id ≡ false
far_device id lots lot all here is = far_side id lots lot sides.Device all here is (λ e. absurd (cc))

abbrev first_turn : List Step → Turn
first_turn [] = turns.Stay
first_turn (s ∷ rest) = s.first

abbrev last_turn : List Step → Turn
last_turn [] = turns.Stay
last_turn (s ∷ rest) = s.last

pub first_off : (f : DriverConfig) (lots : List Lot) (s : Step) (rest : List Step) (id : LotId) → StepGoes f lots s rest → AreLending id lots → turns_lot id s.first ≡ false
first_off f lots s rest id (Loads is) all = ap (λ (t : Step). turns_lot id t.first) is.step
first_off f lots s rest id (WritesBack is) all = ap (λ (t : Step). turns_lot id t.first) is.step
first_off f lots s rest id (Drops is) all = ap (λ (t : Step). turns_lot id t.first) is.step
first_off f lots s rest id (Gives is) all = ap (λ (t : Step). turns_lot id t.first) is.step
first_off f lots s rest id (Fences is) all = ap (λ (t : Step). turns_lot id t.first) is.step
first_off f lots s rest id (Ends is) all = ap (λ (t : Step). turns_lot id t.first) is.step
first_off f lots s rest id (Zeroes is) all = ap (λ (t : Step). turns_lot id t.first) is.step
first_off f lots s rest id (Flushes is) all = ap (λ (t : Step). turns_lot id t.first) is.step
first_off f lots s rest id (Settles is) all = ap (λ (t : Step). turns_lot id t.first) is.step
first_off f lots s rest id (GivesArea is) all = ap (λ (t : Step). turns_lot id t.first) is.step
first_off f lots s rest id (TakesBack is) all = ap (λ (t : Step). turns_lot id t.first) is.step
first_off f lots s rest id (Marks is) all = ap (λ (t : Step). turns_lot id t.first) is.step
first_off f lots s rest id (Posts is) all = ap (λ (t : Step). turns_lot id t.first) is.step
first_off f lots s rest id (Registers is) all = ap (λ (t : Step). turns_lot id t.first) is.step
first_off f lots s rest id (Polls is) all = ap (λ (t : Step). turns_lot id t.first) is.step
first_off f lots s rest id (Stores is) all = ap (turns_lot id) is.first
first_off f lots s rest id (Claims is) all = ap (λ (r : List Step). turns_lot id (first_turn r)) is.steps ∙ far_end id source ToDev is.chan lots is.reads all is.source_is is.wanted.0
first_off f lots s rest id (TakesTarget is) all = ap (turns_lot id) is.taken.first ∙ far_device id lots is.lot all is.taken.here is.taken.side
first_off f lots s rest id (TakesSource is) all = ap (turns_lot id) is.taken.first ∙ far_device id lots is.lot all is.taken.here is.taken.side

back_off : (id to : LotId) (t : Turn) → IsBack to t → same_lot id to ≡ false → turns_lot id t ≡ false
back_off id to t (inl sync) off = ap (turns_lot id) sync ∙ off
back_off id to t (inr end) off = ap (turns_lot id) end ∙ off

area_back_off : (id to : LotId) (t : Turn) → IsAreaBack to t → same_lot id to ≡ false → turns_lot id t ≡ false
area_back_off id to t (inl settle) off = ap (turns_lot id) settle ∙ off
area_back_off id to t (inr end) off = ap (turns_lot id) end ∙ off

pub last_off : (f : DriverConfig) (lots : List Lot) (s : Step) (rest : List Step) (id : LotId) → StepGoes f lots s rest → AreLending id lots → ends_lending id s ≡ false → turns_lot id s.last ≡ false
last_off f lots s rest id (Loads is) all none = ap (λ (t : Step). turns_lot id t.last) is.step
last_off f lots s rest id (WritesBack is) all none = ap (λ (t : Step). turns_lot id t.last) is.step
last_off f lots s rest id (Drops is) all none = ap (λ (t : Step). turns_lot id t.last) is.step
last_off f lots s rest id (Fences is) all none = ap (λ (t : Step). turns_lot id t.last) is.step
last_off f lots s rest id (Zeroes is) all none = ap (λ (t : Step). turns_lot id t.last) is.step
last_off f lots s rest id (Flushes is) all none = ap (λ (t : Step). turns_lot id t.last) is.step
last_off f lots s rest id (Marks is) all none = ap (λ (t : Step). turns_lot id t.last) is.step
last_off f lots s rest id (Posts is) all none = ap (λ (t : Step). turns_lot id t.last) is.step
last_off f lots s rest id (Registers is) all none = ap (λ (t : Step). turns_lot id t.last) is.step
last_off f lots s rest id (Polls is) all none = ap (λ (t : Step). turns_lot id t.last) is.step
last_off f lots s rest id (Stores is) all none = elim is.last [
  | inl stay ↦ ap (turns_lot id) stay
  | inr back ↦ back_off id is.copied.lot.id s.last back.0 (far_back id lots is.copied.lot all is.copied.here.lot_in back.1)
]
last_off f lots s rest id (Gives is) all none =
    ap (λ (t : Step). turns_lot id t.last) is.step ∙ sym (ap (λ (t : Step). gives_lot id t.last) is.step) ∙ (or_parts (gives_lot id s.last) (settles_lot id s.last || stores_io (tokens_lot id) s.act) none).0
last_off f lots s rest id (GivesArea is) all none =
    ap (λ (t : Step). turns_lot id t.last) is.step ∙ sym (ap (λ (t : Step). gives_lot id t.last) is.step) ∙ (or_parts (gives_lot id s.last) (settles_lot id s.last || stores_io (tokens_lot id) s.act) none).0
last_off f lots s rest id (Settles is) all none =
    ap (λ (t : Step). turns_lot id t.last) is.step ∙ sym (ap (λ (t : Step). settles_lot id t.last) is.step)
    ∙ (or_parts (settles_lot id s.last) (stores_io (tokens_lot id) s.act) (or_parts (gives_lot id s.last) (settles_lot id s.last || stores_io (tokens_lot id) s.act) none).1).0
last_off f lots s rest id (Ends is) all none = ap (λ (t : Step). turns_lot id t.last) is.step ∙ back_off id is.lot.id is.turn is.is_back (far_back id lots is.lot all is.hand.here is.hand.side_is)
last_off f lots s rest id (TakesBack is) all none = ap (λ (t : Step). turns_lot id t.last) is.step ∙ area_back_off id is.lot.id is.turn is.is_back (far_back id lots is.lot all is.hand.here is.hand.side_is)
last_off f lots s rest id (Claims is) all none = ap (λ (r : List Step). turns_lot id (last_turn r)) is.steps ∙ far_end id target FromDev is.chan lots is.writes all is.target_is is.wanted.1
last_off f lots s rest id (TakesTarget is) all none = ap (λ (t : Step). turns_lot id t.last) is.goes.step
last_off f lots s rest id (TakesSource is) all none = ap (turns_lot id) is.last ∙ far_device id lots is.lot all is.taken.here is.taken.side

-- so a lot that is sent is of no turn of the next step
only_lending : (lots : List Lot) (lot : Lot) → AreApart lots → In lot lots → lot.side ≡ sides.Lending → AreLending lot.id lots
only_lending lots lot apart here side =
    all_in (λ (l : Lot). is_lot lot.id l ≡ true → l.side ≡ sides.Lending) lots (λ l there named. ap (λ (k : Lot). k.side) (same_named lots lot.id l lot apart there here named (its_name lot lot.id refl)) ∙ side)

pub last_unsent : (f : DriverConfig) (lots : List Lot) (s : Step) (rest : List Step) (lot : Lot) → AreApart lots → StepGoes f lots s rest → In lot lots → turns_lot lot.id s.last ≡ true → is_sent (s ∷ rest) lot ≡ false
last_unsent f lots s rest lot apart goes here turns =
    false_from_ne_true (is_sent (s ∷ rest) lot)
    (λ sent.
    let none = (or_parts (ends_lending lot.id s) (list_any (ends_lending lot.id) rest) (sent_unlent (s ∷ rest) lot sent)).0 in
    false≢true (sym (last_off f lots s rest lot.id goes (only_lending lots lot apart here (sent_side (s ∷ rest) lot sent)) none) ∙ turns))

-- ---- what is left of a plan

moves_apart : (id : LotId) (lots : List Lot) (steps : List Step) → list_any (ends_lending id) steps ≡ false → AreLending id lots → IsApart id lots steps
moves_apart id lots steps none all lot here (inl lends) =
    false_from_ne_true (is_lot id lot) (λ named. false≢true (sym none ∙ subst (λ (k : LotId). HasLend k steps) (named_id id lot named) lends.1))
moves_apart id lots steps none all lot here (inr returns) =
    false_from_ne_true (is_lot id lot) (λ named. let both : sides.Returning ≡ sides.Lending = sym returns ∙ all_at (λ (l : Lot). is_lot id l ≡ true → l.side ≡ sides.Lending) lots lot all here named in absurd (cc))

-- a poll gives it, be it given before or not
given_hit : (id : LotId) (lot : Lot) (t : Bool) → is_lot id lot ≡ t → (t ≡ true → lot.side ≡ sides.Lending) → given_now (with_side sides.Device id lot) ≡ given_now lot
given_hit id lot true is lending =
    ap given_now (hit sides.Device id lot is) ∙ sym (cond-true (is_lending_side lot.side) (record lot { side = sides.Device }) lot (ap is_lending_side (lending refl)))
given_hit id lot false off lending = ap given_now (miss sides.Device id lot off)

given_lent : (id : LotId) (lots : List Lot) → AreLending id lots → map given_now (lent id lots) ≡ map given_now lots
given_lent id [] all = refl
given_lent id (lot ∷ lots) all =
    let P : Lot → Type 0 = λ (l : Lot). is_lot id l ≡ true → l.side ≡ sides.Lending in
    ap (λ (l : Lot). l ∷ map given_now (lent id lots)) (given_hit id lot (is_lot id lot) refl (All-head P lot lots all)) ∙ ap (λ (ls : List Lot). given_now lot ∷ ls) (given_lent id lots (All-tail P lot lots all))

polled_lent : (a : Act) (id : LotId) (lots : List Lot) → is_poll a ≡ true → AreLending id lots → lots_behind a (lent id lots) ≡ lots_behind a lots
polled_lent a id lots on all = lots_polled a (lent id lots) on ∙ given_lent id lots all ∙ sym (lots_polled a lots on)

pub plan_lent : (f : DriverConfig) (lots : List Lot) (rest : List Step) (id : LotId) → PlanGoes f lots rest → list_any (ends_lending id) rest ≡ false → AreLending id lots → PlanGoes f (lent id lots) rest
plan_lent f lots [] id goes none all = still_lent f id lots goes
plan_lent f lots (s ∷ rest) id goes none all = (
  step_lent f lots s rest id goes.0 all (moves_apart id lots (s ∷ rest) none all),
  elim (cases_Bool (is_poll s.act)) [
    | inl polls ↦ subst (λ (ls : List Lot). PlanGoes f (lots_after_both s.first s.last ls) rest) (sym (polled_lent s.act id lots polls all)) goes.1
    | inr unpolled ↦
        let off = or_parts (ends_lending id s) (list_any (ends_lending id) rest) none in
        let turn = last_off f lots s rest id goes.0 all off.0 in
        let first = first_off f lots s rest id goes.0 all in
        let lots_now = lots_after s.first lots in
        let all_now = turn_lending id s.first lots first all in
        let more = plan_lent f (lots_after s.last lots_now) rest id (plan_next f lots s rest goes unpolled) off.1 (turn_lending id s.last lots_now turn all_now) in
        let same : lots_after s.last (lots_after s.first (lent id lots)) ≡ lent id (lots_after s.last lots_now) = ap (lots_after s.last) (turn_lent id s.first lots first) ∙ turn_lent id s.last lots_now turn in
        subst (λ (ls : List Lot). PlanGoes f (lots_after_both s.first s.last ls) rest) (sym (lots_unpolled s.act (lent id lots) unpolled)) (subst (λ (ls : List Lot). PlanGoes f ls rest) (sym same) more)
  ],
)

-- ---- the driver

abbrev now : DriverState → LotId → DriverState
now d id = with_lots d (lent id d.lots)

left_lent : (d : DriverState) (id : LotId) → list_any (ends_lending id) d.rest ≡ false → AreLending id d.lots → PlanLeft d → PlanLeft (now d id)
left_lent d id none all left = record { goes = plan_lent d.fixed d.lots d.rest id left.goes none all; one = left.one }

op_lent : (d : DriverState) (o : Op) (id : LotId) → list_any (ends_lending id) d.rest ≡ false → AreLending id d.lots → PlanIs d o → PlanIs (now d id) o
op_lent d (ops.Hand buf to) id none all is = record { left = is.left; still = still_lent d.fixed id d.lots is.still }
op_lent d (ops.Map label buf off len dir chan) id none all is = left_lent d id none all is
op_lent d (ops.Unmap label) id none all is = left_lent d id none all is
op_lent d (ops.ToCpu label) id none all is = left_lent d id none all is
op_lent d (ops.ToDev label) id none all is = left_lent d id none all is
op_lent d (ops.MapSg label entries dir chan) id none all is = left_lent d id none all is
op_lent d (ops.UnmapSg label count) id none all is = left_lent d id none all is
op_lent d (ops.Calloc label pages chan) id none all is = left_lent d id none all is
op_lent d (ops.Cgive label) id none all is = left_lent d id none all is
op_lent d (ops.Ctake label) id none all is = left_lent d id none all is
op_lent d (ops.Cfree label) id none all is = left_lent d id none all is
op_lent d (ops.Ld spot off len) id none all is = absurd is
op_lent d (ops.St spot off bytes) id none all is = absurd is
op_lent d (ops.Cbo op buf off) id none all is = absurd is
op_lent d (ops.Fence pred succ) id none all is = absurd is
op_lent d (ops.Take buf) id none all is = absurd is
op_lent d (ops.Claim chan) id none all is = absurd is
op_lent d (ops.Free chan) id none all is = absurd is
op_lent d (ops.Regs chan src dst len cfg) id none all is = absurd is
op_lent d (ops.Run chan) id none all is = absurd is
op_lent d (ops.Poll chan) id none all is = absurd is
op_lent d (ops.Regr chan off width) id none all is = absurd is
op_lent d (ops.Regw chan off width value) id none all is = absurd is
op_lent d (ops.Copy chan src src_off dst dst_off len cfg) id none all is = left_lent d id none all is

hand_of_lent : (d : DriverState) (o : Option Op) (id : LotId) → list_any (ends_lending id) d.rest ≡ false → AreLending id d.lots → PlanOf d o → PlanOf (now d id) o
hand_of_lent d None id none all is = absurd is
hand_of_lent d (Some o) id none all is = op_lent d o id none all is

phase_lent : (d : DriverState) (p : Phase) (id : LotId) → list_any (ends_lending id) d.rest ≡ false → AreLending id d.lots → StandsAt d p → StandsAt (now d id) p
phase_lent d (Steps n) id none all is = still_lent d.fixed id d.lots is
phase_lent d (Search k) id none all is =
    all_sided (IsStillOrMade d.fixed (in_hand d)) (IsStillOrMade d.fixed (in_hand d)) sides.Device id d.lots is (λ lot made hit. inl (StillDevice refl)) (λ lot made miss. made)
phase_lent d Work id none all is = hand_of_lent d (in_hand d) id none all is

-- a lot that the rest lends no more, and which is being lent, is given
pub drives_lent : (d : DriverState) (id : LotId) → list_any (ends_lending id) d.rest ≡ false → AreLending id d.lots → Drives d → Drives (with_lots d (lots_after (turns.Give id) d.lots))
drives_lent d id none all is = record { lots = sides_mapping d.fixed sides.Device id d.lots is.lots; stands = phase_lent d d.phase id none all is.stands; idle = is.idle }
