-- What a turn leaves of the lots of a hart.
use Rattle.std.proofs.Common.{◌≡◌, ℕ, ◌≤◌, Bool, true, false, List, [], ◌∷◌, length, refl, sym, ◌∙◌, subst, arith, cond, inl, inr}
use Rattle.std.specs.Prelude.{All, filter, not, ◌&&◌, ◌==◌, if◌then◌else◌}
use Rattle.std.proofs.lemmas.Bool.{and_parts, false≢true}
use Rattle.std.proofs.lemmas.Bool.Decides.{nat_tests}
use Rattle.std.proofs.lemmas.List.Elements.{All-nil, All-cons, All-head, All-tail}
use Rattle.nc_plan.specs.Plans.{In}
use Rattle.nc_rules.specs.declared.lots.Lot.{Lot}
use Rattle.nc_rules.specs.declared.lots.LotId.{LotId}
use Rattle.nc_rules.specs.declared.lots.Side.{Side}
use Rattle.nc_rules.specs.declared.lots.Side.TheVariants as sides
use Rattle.nc_rules.specs.declared.steps.Turn.{Turn}
use Rattle.nc_rules.specs.declared.steps.Turn.TheVariants as turns
use Rattle.nc_rules.specs.Lots.{DriverConfig, is_lot, is_wanted, lot_waits}
use Rattle.nc_rules.specs.Turns.{set_side, lots_after}
use Rattle.nc_scripts.specs.Drivers.{LendsFirst, IsLotIn, AreApart, IsOwed, wanted_lots}

-- ---- one lot

-- the name, as a test
pub named_so : (lot : Lot) (id : LotId) → is_lot id lot ≡ true → lot.id ≡ id
named_so lot id e =
    let p = and_parts (lot.id.label.0 == id.label.0) (lot.id.first == id.first) e in
    let label : lot.id.label.0 ≡ id.label.0 = grind (arith, nat_tests) in
    let first : lot.id.first ≡ id.first = grind (arith, nat_tests) in
    λ i. record { label = record { 0 = label i }; first = first i }

same_name : (m n : ℕ) → ((m == m) && (n == n)) ≡ true
same_name m n = grind (arith, nat_tests)

pub its_name : (lot : Lot) (id : LotId) → lot.id ≡ id → is_lot id lot ≡ true
its_name lot id e = subst (λ (d : LotId). is_lot d lot ≡ true) e (same_name lot.id.label.0 lot.id.first)

-- what a turn makes of a lot that stays
pub record Becomes (t : Turn) (lot now : Lot) : Type 0 where
  pub id : now.id ≡ lot.id
  pub kind : now.kind ≡ lot.kind
  pub chan : now.chan ≡ lot.chan
  pub list : now.list ≡ lot.list
  pub wanted : is_wanted now.side ≡ true → is_wanted lot.side ≡ true
  pub lends : t ≡ turns.Lend lot.id → is_wanted now.side ≡ false
  pub ends : t ≡ turns.End lot.id → ⊥

-- some lots stay, as this says
pub data Thins (R : Lot → Lot → Type 0) : List Lot → List Lot → Type 0 where
  none : Thins R [] []
  keep : {lot now : Lot} {lots nows : List Lot} → R lot now → Thins R lots nows → Thins R (lot ∷ lots) (now ∷ nows)
  drop : {lot : Lot} {lots nows : List Lot} → Thins R lots nows → Thins R (lot ∷ lots) nows

pub thins_all : (R : Lot → Lot → Type 0) (P Q : Lot → Type 0) {lots nows : List Lot} → Thins R lots nows → All P lots → ((lot now : Lot) → R lot now → P lot → Q now) → All Q nows
thins_all R P Q none all f = All-nil Q
thins_all R P Q (keep {lot} {now} {lots} {nows} r more) all f = All-cons Q now nows (f lot now r (All-head P lot lots all)) (thins_all R P Q more (All-tail P lot lots all) f)
thins_all R P Q (drop {lot} {lots} {nows} more) all f = thins_all R P Q more (All-tail P lot lots all) f

fewer_by : (lot now : Lot) (lots nows : List Lot) (b c : Bool) → (b ≡ true → c ≡ true) → length nows ≤ length lots → length (cond b (now ∷ nows) nows) ≤ length (cond c (lot ∷ lots) lots)
fewer_by lot now lots nows true true h le = omega arith
fewer_by lot now lots nows true false h le = absurd (false≢true (h refl))
fewer_by lot now lots nows false true h le = omega arith
fewer_by lot now lots nows false false h le = le

more_by : (lot : Lot) (lots nows : List Lot) (c : Bool) → length nows ≤ length lots → length nows ≤ length (cond c (lot ∷ lots) lots)
more_by lot lots nows true le = omega arith
more_by lot lots nows false le = le

-- no more of those that stay pass a test than passed it
pub thins_few : (R : Lot → Lot → Type 0) (p q : Lot → Bool) {lots nows : List Lot} → Thins R lots nows → ((lot now : Lot) → R lot now → p now ≡ true → q lot ≡ true) → length (filter p nows) ≤ length (filter q lots)
thins_few R p q none f = omega arith
thins_few R p q (keep {lot} {now} {lots} {nows} r more) f = fewer_by lot now (filter q lots) (filter p nows) (p now) (q lot) (f lot now r) (thins_few R p q more f)
thins_few R p q (drop {lot} {lots} {nows} more) f = more_by lot (filter q lots) (filter p nows) (q lot) (thins_few R p q more f)

-- ---- a turn

same_is : (t : Turn) (lot : Lot) → (t ≡ turns.Lend lot.id → ⊥) → (t ≡ turns.End lot.id → ⊥) → Becomes t lot lot
same_is t lot nl ne = record { id = refl; kind = refl; chan = refl; list = refl; wanted = λ w. w; lends = λ e. absurd (nl e); ends = ne }

all_same : (t : Turn) (lots : List Lot) → ((id : LotId) → t ≡ turns.Lend id → ⊥) → ((id : LotId) → t ≡ turns.End id → ⊥) → Thins (Becomes t) lots lots
all_same t [] nl ne = none
all_same t (lot ∷ lots) nl ne = keep (same_is t lot (nl lot.id) (ne lot.id)) (all_same t lots nl ne)

-- the side of a lot is set, which is no side that wants slots
side_by : (t : Turn) (side : Side) (lot : Lot) (b : Bool) → is_wanted side ≡ false → (t ≡ turns.Lend lot.id → b ≡ true) → (t ≡ turns.End lot.id → ⊥) → Becomes t lot (if b then record lot { side = side } else lot)
side_by t side lot true off nl ne = record { id = refl; kind = refl; chan = refl; list = refl; wanted = λ w. absurd (false≢true (sym off ∙ w)); lends = λ e. off; ends = ne }
side_by t side lot false off nl ne = same_is t lot (λ e. false≢true (nl e)) ne

all_set : (t : Turn) (side : Side) (id : LotId) (lots : List Lot) → is_wanted side ≡ false → ((lot : Lot) → t ≡ turns.Lend lot.id → is_lot id lot ≡ true) → ((id : LotId) → t ≡ turns.End id → ⊥) → Thins (Becomes t) lots (set_side side id lots)
all_set t side id [] off nl ne = none
all_set t side id (lot ∷ lots) off nl ne = keep (side_by t side lot (is_lot id lot) off (nl lot) (ne lot.id)) (all_set t side id lots off nl ne)

end_by : (id : LotId) (lot : Lot) (lots nows : List Lot) (b : Bool) → is_lot id lot ≡ b → Thins (Becomes (turns.End id)) lots nows → Thins (Becomes (turns.End id)) (lot ∷ lots) (cond (not b) (lot ∷ nows) nows)
end_by id lot lots nows true e more = drop more
end_by id lot lots nows false e more =
    keep (same_is (turns.End id) lot (λ k. absurd (cc)) (λ k. let same : lot.id ≡ id = cc in false≢true (sym e ∙ its_name lot id same))) more

all_ended : (id : LotId) (lots : List Lot) → Thins (Becomes (turns.End id)) lots (filter (λ lot. not (is_lot id lot)) lots)
all_ended id [] = none
all_ended id (lot ∷ lots) = end_by id lot lots (filter (λ lot. not (is_lot id lot)) lots) (is_lot id lot) refl (all_ended id lots)

lend_named : (id : LotId) (lot : Lot) → turns.Lend id ≡ turns.Lend lot.id → is_lot id lot ≡ true
lend_named id lot e = let same : lot.id ≡ id = cc in its_name lot id same

pub thinned : (t : Turn) (lots : List Lot) → Thins (Becomes t) lots (lots_after t lots)
thinned turns.Stay lots = all_same turns.Stay lots (λ id e. absurd (cc)) (λ id e. absurd (cc))
thinned (turns.Pass range to) lots = all_same (turns.Pass range to) lots (λ id e. absurd (cc)) (λ id e. absurd (cc))
thinned (turns.Own range) lots = all_same (turns.Own range) lots (λ id e. absurd (cc)) (λ id e. absurd (cc))
thinned (turns.Lend id) lots = all_set (turns.Lend id) sides.Lending id lots refl (lend_named id) (λ i e. absurd (cc))
thinned (turns.Give id) lots = all_set (turns.Give id) sides.Device id lots refl (λ lot e. absurd (cc)) (λ i e. absurd (cc))
thinned (turns.Return id) lots = all_set (turns.Return id) sides.Returning id lots refl (λ lot e. absurd (cc)) (λ i e. absurd (cc))
thinned (turns.Sync id) lots = all_set (turns.Sync id) sides.Synced id lots refl (λ lot e. absurd (cc)) (λ i e. absurd (cc))
thinned (turns.Settle id) lots = all_set (turns.Settle id) sides.Own id lots refl (λ lot e. absurd (cc)) (λ i e. absurd (cc))
thinned (turns.End id) lots = all_ended id lots

-- ---- what stays true of lots

lot_stays : (ram : ℕ) (f : DriverConfig) (t : Turn) (lot now : Lot) → Becomes t lot now → IsLotIn ram f lot → IsLotIn ram f now
lot_stays ram f t lot now b h = record {
  few = rw b.list h.few;
  entries = rw b.list h.entries;
  bounce = rw (b.kind, b.chan, b.list) h.bounce;
  channel = rw b.chan h.channel;
  kind = rw (b.kind, b.id, b.list) h.kind;
}

pub lots_stay : (ram : ℕ) (f : DriverConfig) (t : Turn) (lots : List Lot) → All (IsLotIn ram f) lots → All (IsLotIn ram f) (lots_after t lots)
lots_stay ram f t lots all = thins_all (Becomes t) (IsLotIn ram f) (IsLotIn ram f) (thinned t lots) all (lot_stays ram f t)

pub apart_stay : (t : Turn) (lots : List Lot) → AreApart lots → AreApart (lots_after t lots)
apart_stay t lots h id =
    let le = thins_few (Becomes t) (is_lot id) (is_lot id) (thinned t lots) (λ lot now b e. its_name lot id (sym b.id ∙ named_so now id e)) in
    omega (arith, le, h id)

abbrev pub IsPlaced : Lot → Type 0
IsPlaced lot = lot_waits lot ≡ false

placed_stays : (t : Turn) (lot now : Lot) → Becomes t lot now → IsPlaced lot → IsPlaced now
placed_stays t lot now b h = rw b.list h

pub placed_stay : (t : Turn) (lots : List Lot) → All IsPlaced lots → All IsPlaced (lots_after t lots)
placed_stay t lots all = thins_all (Becomes t) IsPlaced IsPlaced (thinned t lots) all (placed_stays t)

pub wanted_stay : (t : Turn) (lots : List Lot) (n : ℕ) → length (wanted_lots lots) ≤ n → length (wanted_lots (lots_after t lots)) ≤ n
wanted_stay t lots n h =
    let le = thins_few (Becomes t) (λ lot. is_wanted lot.side) (λ lot. is_wanted lot.side) (thinned t lots) (λ lot now b e. b.wanted e) in
    omega (arith, le, h)

-- the turn is made, and what was owed behind it is owed
owed_lend : (t : Turn) (ts : List Turn) (lot now : Lot) → Becomes t lot now → is_wanted now.side ≡ true → LendsFirst lot.id (t ∷ ts) → LendsFirst now.id ts
owed_lend t ts lot now b w (inl e) = absurd (false≢true (sym (b.lends e) ∙ w))
owed_lend t ts lot now b w (inr k) = rw b.id k.1

owed_end : (t : Turn) (ts : List Turn) (lot now : Lot) → Becomes t lot now → In (turns.End lot.id) (t ∷ ts) → In (turns.End now.id) ts
owed_end t ts lot now b (inl e) = absurd (b.ends e)
owed_end t ts lot now b (inr k) = rw b.id k

owed_stays : (t : Turn) (ts : List Turn) (lot now : Lot) → Becomes t lot now → IsOwed (t ∷ ts) lot → IsOwed ts now
owed_stays t ts lot now b h = record {
  lends = λ w. owed_lend t ts lot now b w (h.lends (b.wanted w));
  ends = λ e. owed_end t ts lot now b (h.ends (rw b.id at e));
}

pub owed_stay : (t : Turn) (ts : List Turn) (lots : List Lot) → All (IsOwed (t ∷ ts)) lots → All (IsOwed ts) (lots_after t lots)
owed_stay t ts lots all = thins_all (Becomes t) (IsOwed (t ∷ ts)) (IsOwed ts) (thinned t lots) all (owed_stays t ts)
