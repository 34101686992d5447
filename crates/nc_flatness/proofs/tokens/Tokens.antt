-- Tokens of light fences: a mapping of which a token is queued is one of a lot that is sent, and which tokens are queued
-- as a queue and a rest go on.
use Rattle.std.proofs.Common.{◌≡◌, ℕ, zero, suc, ◌+◌, ◌<◌, cond, Bool, true, false, List, [], ◌∷◌, ◌++◌, length, refl, sym, ap, ◌∙◌, inl, inr, subst, arith, Some, None}
use Rattle.std.specs.Prelude.{◌==◌, ◌&&◌, ◌||◌, nat_le, nat_lt, not, if◌then◌else◌, filter, find, remove, slice_get}
use Rattle.std.specs.List.{list_any}
use Rattle.std.proofs.lemmas.Bool.{and_parts, and_from, or_parts, cases_Bool, cond-true, eqb-true, eq-eqb, false_from_ne_true, false≢true}
use Rattle.std.proofs.lemmas.Bool.Decides.{nat_tests}
use Rattle.std.proofs.lemmas.List.{append-nil}
use Rattle.nc_num.specs.declared.names.Label.{Label}
use Rattle.nc_num.specs.declared.names.MapId.{MapId}
use Rattle.nc_plan.specs.Plans.{In}
use Rattle.nc_queue.specs.declared.entry.Entry.{Entry}
use Rattle.nc_queue.specs.declared.entry.Entry.TheVariants as entries
use Rattle.nc_queue.proofs.TestLaws.{filter-push_other, filter-remove_other}
use Rattle.nc_scen.specs.declared.scenario.Scenario.{Scenario}
use Rattle.nc_rules.specs.declared.lots.Lot.{Lot}
use Rattle.nc_rules.specs.declared.lots.LotId.{LotId}
use Rattle.nc_rules.specs.declared.lots.Side.{Side}
use Rattle.nc_rules.specs.declared.lots.Side.TheVariants as sides
use Rattle.nc_rules.specs.declared.steps.Step.{Step}
use Rattle.nc_rules.specs.Lots.{is_lot, is_wanted, lot_id}
use Rattle.nc_rules.specs.Machine.{queue_of}
use Rattle.nc_rules.specs.World.{WorldState, driver_of}
use Rattle.nc_holds.specs.Tokens.{HasLent, token_of, TokenStays}
use Rattle.nc_holds.proofs.lists.Members.{all_at, in_filter, of_filter, none_at, at_get}
use Rattle.nc_rows.specs.Ahead.{ends, names, is_settling, settling}
use Rattle.nc_rows.specs.Rows.{Loan}
use Rattle.nc_flatness.specs.Books.{is_entry_of}
use Rattle.nc_flatness.specs.Flatness.{Flatness}
use Rattle.nc_flatness.specs.Plans.{HasLend}
use Rattle.nc_flatness.specs.Tokens.{lot_token, is_lot_token, is_lending_side, ends_lending, is_sent, TokenStands}
use Rattle.nc_flatness.proofs.books.Loans.{IsLoan, get_below, one_of}

-- ---- a lot that is sent

pub sent_side : (rest : List Step) (lot : Lot) → is_sent rest lot ≡ true → lot.side ≡ sides.Lending
sent_side rest lot is = side_by lot.side (and_parts (is_lending_side lot.side) (not (list_any (ends_lending lot.id) rest)) is).0
  where
    side_by : (side : Side) → is_lending_side side ≡ true → side ≡ sides.Lending
    side_by sides.Lending e = refl
    side_by sides.Wanted e = absurd (false≢true e)
    side_by sides.Device e = absurd (false≢true e)
    side_by sides.Returning e = absurd (false≢true e)
    side_by sides.Synced e = absurd (false≢true e)
    side_by sides.Own e = absurd (false≢true e)

pub sent_unlent : (rest : List Step) (lot : Lot) → is_sent rest lot ≡ true → list_any (ends_lending lot.id) rest ≡ false
sent_unlent rest lot is = not_by (list_any (ends_lending lot.id) rest) (and_parts (is_lending_side lot.side) (not (list_any (ends_lending lot.id) rest)) is).1
  where
    not_by : (t : Bool) → not t ≡ true → t ≡ false
    not_by true e = absurd (false≢true e)
    not_by false e = refl

pub lent_sent : (rest : List Step) (lot : Lot) → lot.side ≡ sides.Lending → list_any (ends_lending lot.id) rest ≡ false → is_sent rest lot ≡ true
lent_sent rest lot side none = and_from (is_lending_side lot.side) (not (list_any (ends_lending lot.id) rest)) (ap is_lending_side side) (ap not none)

-- one that the rest is still to lend is not
pub ended_unsent : (rest : List Step) (lot : Lot) → HasLend lot.id rest → is_sent rest lot ≡ false
ended_unsent rest lot lends = false_from_ne_true (is_sent rest lot) (λ sent. false≢true (sym (sent_unlent rest lot sent) ∙ lends))

pub unlent_unsent : (rest : List Step) (lot : Lot) → is_lending_side lot.side ≡ false → is_sent rest lot ≡ false
unlent_unsent rest lot off = ap (λ (t : Bool). t && not (list_any (ends_lending lot.id) rest)) off

unsettled_by : (id : LotId) (s : Step) (rest : List Step) (t : Bool) → t ≡ false → settling id rest ≡ false → is_settling id (cond t (Some s) (find (ends id) rest)) ≡ false
unsettled_by id s rest true off more = absurd (false≢true (sym off))
unsettled_by id s rest false off more = more

pub unended_settling : (id : LotId) (rest : List Step) → list_any (ends id) rest ≡ false → settling id rest ≡ false
unended_settling id [] none = refl
unended_settling id (s ∷ rest) none =
    let off = or_parts (ends id s) (list_any (ends id) rest) none in
    unsettled_by id s rest (ends id s) off.0 (unended_settling id rest off.1)

-- ---- the tokens of a lot in a queue

tokens_by : (q : List Entry) (lot : Lot) (e : Entry) (t : Bool) → filter (is_lot_token lot.id) q ≡ (if t then lot_token lot ∷ [] else []) → In e (filter (is_lot_token lot.id) q) → (t ≡ true) × (e ≡ lot_token lot)
tokens_by q lot e true stands here = elim (subst (λ (es : List Entry). In e es) stands here) [
  | inl same ↦ (refl, sym same)
  | inr more ↦ absurd more
]
tokens_by q lot e false stands here = absurd (subst (λ (es : List Entry). In e es) stands here)

-- one that is queued is its one, and the lot is sent
pub queued_sent : (rest : List Step) (q : List Entry) (lot : Lot) (e : Entry) → TokenStands rest q lot → In e q → is_lot_token lot.id e ≡ true → (is_sent rest lot ≡ true) × (e ≡ lot_token lot)
queued_sent rest q lot e stands here is = tokens_by q lot e (is_sent rest lot) stands (in_filter (is_lot_token lot.id) e q here is)

-- and that of a lot that is sent is queued
pub sent_queued : (rest : List Step) (q : List Entry) (lot : Lot) → TokenStands rest q lot → is_sent rest lot ≡ true → In (lot_token lot) q
sent_queued rest q lot stands sent =
    let one = stands ∙ cond-true (is_sent rest lot) (lot_token lot ∷ []) [] sent in
    (of_filter (is_lot_token lot.id) (lot_token lot) q (subst (λ (es : List Entry). In (lot_token lot) es) (sym one) (inl refl))).0

-- ---- the mappings that a token names

-- a token's lot is there
pub record HasTokenLot (lots : List Lot) (id : LotId) : Type 0 where
  pub lot : Lot
  pub here : In lot lots
  pub is : is_lot id lot ≡ true

any_by : {X : Type 0} (p : X → Bool) (x : X) (xs : List X) (t : Bool) → p x ≡ t → (t || list_any p xs) ≡ true → (list_any p xs ≡ true → (y : X) × In y xs × (p y ≡ true)) → (y : X) × In y (x ∷ xs) × (p y ≡ true)
any_by p x xs true is some more = (x, inl refl, is)
any_by p x xs false off some more = let later = more some in (later.0, inr later.1, later.2)

pub any_in : {X : Type 0} (p : X → Bool) (xs : List X) → list_any p xs ≡ true → (x : X) × In x xs × (p x ≡ true)
any_in p [] some = absurd (false≢true some)
any_in p (x ∷ xs) some = any_by p x xs (p x) refl some (any_in p xs)

in_any : {X : Type 0} (p : X → Bool) (xs : List X) (x : X) → In x xs → p x ≡ true → list_any p xs ≡ true
in_any p xs x here is = elim (cases_Bool (list_any p xs)) [
  | inl some ↦ some
  | inr none ↦ absurd (false≢true (sym (none_at p xs x none here) ∙ is))
]

pub stays_lent : (id : LotId) (lots : List Lot) (rest : List Step) → TokenStays id lots rest → HasLent lots id
stays_lent id lots [] stays = stays
stays_lent id lots (s ∷ rest) stays = stays.0

pub token_lot : (sc : Scenario) (f : List ℕ) (w : WorldState) (h : ℕ) (e : Entry) (id : LotId) → Flatness sc f w → h < length w.machine.harts → In e (queue_of w.machine h) → token_of e ≡ Some id → HasTokenLot (driver_of w h).lots id
token_lot sc f w h e id flat lt here is =
    let d = driver_of w h in
    let lent = stays_lent id d.lots d.rest ((flat.world.holds.each h lt).tokens.queued e id here is) in
    let some = any_in (is_lot id) d.lots lent.there in
    record { lot = some.0; here = some.1; is = some.2 }

is_named : (lot : Lot) (label : Label) (first count : ℕ) → is_lot (lot_id label first) lot ≡ true → is_lot_token lot.id (entries.Lend label first count) ≡ true
is_named lot label first count is =
    let both = and_parts (lot.id.label.0 == label.0) (lot.id.first == first) is in
    and_from (label.0 == lot.id.label.0) (first == lot.id.first) (eq-eqb label.0 lot.id.label.0 (sym (eqb-true lot.id.label.0 label.0 both.0))) (eq-eqb first lot.id.first (sym (eqb-true lot.id.first first both.1)))

-- where a token is queued fences are light
pub token_light : (sc : Scenario) (f : List ℕ) (w : WorldState) (h : ℕ) (id : LotId) (e : Entry) → Flatness sc f w → h < length w.machine.harts → In e (queue_of w.machine h) → is_lot_token id e ≡ true → (driver_of w h).fixed.light ≡ true
token_light sc f w h id (entries.Lend label first count) flat lt here is = (flat.world.holds.each h lt).tokens.light (entries.Lend label first count) (lot_id label first) here refl
token_light sc f w h id (entries.Store span bytes kind) flat lt here is = absurd (false≢true is)
token_light sc f w h id (entries.Cbo block op) flat lt here is = absurd (false≢true is)
token_light sc f w h id (entries.Reg chan off width value) flat lt here is = absurd (false≢true is)
token_light sc f w h id (entries.Mail buf to) flat lt here is = absurd (false≢true is)
token_light sc f w h id (entries.Mark pred succ) flat lt here is = absurd (false≢true is)

named_by : (sc : Scenario) (f : List ℕ) (w : WorldState) (n : MapId) (l : Loan) (label : Label) (first count : ℕ) → Flatness sc f w → (is : IsLoan w n l) → In (entries.Lend label first count) (queue_of w.machine n.hart.0)
    → names n (entries.Lend label first count) ≡ true → is_lot_token is.lot.id (entries.Lend label first count) ≡ true
named_by sc f w n l label first count flat is here named =
    let d = driver_of w n.hart.0 in
    let q = queue_of w.machine n.hart.0 in
    let e = entries.Lend label first count in
    let t = token_lot sc f w n.hart.0 e (lot_id label first) flat is.hart here refl in
    let token = is_named t.lot label first count t.is in
    let light = token_light sc f w n.hart.0 t.lot.id e flat is.hart here token in
    let lt : n.hart.0 < length sc.harts = omega (arith, is.hart, flat.world.of_scenario.harts) in
    let stands = all_at (TokenStands d.rest q) d.lots t.lot (flat.bytes.tokens n.hart.0 lt light) t.here in
    let its : e ≡ lot_token t.lot = (queued_sent d.rest q t.lot e stands here token).1 in
    let names_its : names n (lot_token t.lot) ≡ true = subst (λ (k : Entry). names n k ≡ true) its named in
    let sent = (queued_sent d.rest q t.lot e stands here token).0 in
    let entry : is_entry_of n t.lot ≡ true = and_from (not (is_wanted t.lot.side)) _ (ap (λ (s : Side). not (is_wanted s)) (sent_side d.rest t.lot sent)) names_its in
    let same : t.lot ≡ is.lot = one_of sc f w n.hart.0 n t.lot is.lot flat t.here is.here.lot_in entry is.entry_of in
    subst (λ (lot : Lot). is_lot_token lot.id (entries.Lend label first count) ≡ true) same (is_named t.lot label first count t.is)

-- the token of a lot names each of its mappings
pub token_names : (w : WorldState) (n : MapId) (l : Loan) → (is : IsLoan w n l) → names n (lot_token is.lot) ≡ true
token_names w n l is =
    let less = get_below is.lot.list.entries is.i is.entry is.here.entry in
    let low : nat_le is.lot.id.first n.entry ≡ true = let number = is.number in grind (arith, nat_tests) in
    let high : nat_lt n.entry (is.lot.id.first + length is.lot.list.entries) ≡ true = let number = is.number in grind (arith, nat_tests) in
    and_from (is.lot.id.label.0 == n.label.0) (nat_le is.lot.id.first n.entry && nat_lt n.entry (is.lot.id.first + length is.lot.list.entries)) (eq-eqb is.lot.id.label.0 n.label.0 is.label)
    (and_from (nat_le is.lot.id.first n.entry) (nat_lt n.entry (is.lot.id.first + length is.lot.list.entries)) low high)

pub sent_named : (sc : Scenario) (f : List ℕ) (w : WorldState) (n : MapId) (l : Loan) → Flatness sc f w → (is : IsLoan w n l) → (driver_of w n.hart.0).fixed.light ≡ true → is_sent (driver_of w n.hart.0).rest is.lot ≡ true
    → list_any (names n) (queue_of w.machine n.hart.0) ≡ true
sent_named sc f w n l flat is light sent =
    let d = driver_of w n.hart.0 in
    let q = queue_of w.machine n.hart.0 in
    let lt : n.hart.0 < length sc.harts = omega (arith, is.hart, flat.world.of_scenario.harts) in
    let stands = all_at (TokenStands d.rest q) d.lots is.lot (flat.bytes.tokens n.hart.0 lt light) is.here.lot_in in
    in_any (names n) q (lot_token is.lot) (sent_queued d.rest q is.lot stands sent) (token_names w n l is)

-- ---- the queue goes on

pub push_stands : (rest : List Step) (q : List Entry) (e : Entry) (lot : Lot) → is_lot_token lot.id e ≡ false → TokenStands rest q lot → TokenStands rest (q ++ e ∷ []) lot
push_stands rest q e lot off stands = filter-push_other (is_lot_token lot.id) q e off ∙ append-nil (filter (is_lot_token lot.id) q) ∙ stands

pub pass_stands : (rest : List Step) (q : List Entry) (i : ℕ) (e : Entry) (lot : Lot) → slice_get q i ≡ Some e → is_lot_token lot.id e ≡ false → TokenStands rest q lot → TokenStands rest (remove q i) lot
pass_stands rest q i e lot at off stands = filter-remove_other (is_lot_token lot.id) q i e at off ∙ stands

-- an entry that is no token of any lot
pub token_none : (id : LotId) (e : Entry) → token_of e ≡ None → is_lot_token id e ≡ false
token_none id (entries.Lend label first count) none = absurd cc
token_none id (entries.Store span bytes kind) none = refl
token_none id (entries.Cbo block op) none = refl
token_none id (entries.Reg chan off width value) none = refl
token_none id (entries.Mail buf to) none = refl
token_none id (entries.Mark pred succ) none = refl

-- a test that only one entry passes is passed by none behind it
gone_by : {X : Type 0} (p : X → Bool) (a y x : X) (xs ys : List X) (t : Bool) → cond t (a ∷ filter p xs) (filter p xs) ≡ y ∷ [] → In x xs → p x ≡ true → (filter p xs ≡ y ∷ [] → ys ≡ []) → cond t (a ∷ ys) ys ≡ []
gone_by p a y x xs ys true both here is more = let none : filter p xs ≡ [] = cc in absurd (subst (λ (zs : List _). In x zs) none (in_filter p x xs here is))
gone_by p a y x xs ys false both here is more = more both

pub filter_gone : {X : Type 0} (p : X → Bool) (xs : List X) (i : ℕ) (x y : X) → slice_get xs i ≡ Some x → p x ≡ true → filter p xs ≡ y ∷ [] → filter p (remove xs i) ≡ []
filter_gone p [] i x y at is one = absurd cc
filter_gone p (a ∷ xs) zero x y at is one =
    let same : a ≡ x = cc in
    let both : a ∷ filter p xs ≡ y ∷ [] = sym (cond-true (p a) (a ∷ filter p xs) (filter p xs) (ap p same ∙ is)) ∙ one in
    cc
filter_gone p (a ∷ xs) (suc i) x y at is one = gone_by p a y x xs (filter p (remove xs i)) (p a) one (at_get xs i x at) is (filter_gone p xs i x y at is)
