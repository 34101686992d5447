-- A driver goes on, and with it no machine but what its hart issues: the entries of one lot change their owner, or keep it,
-- and no other place does.
use Rattle.std.specs.Prelude.{Option, Some, None, All, Bool, true, false, slice_get}
use Rattle.std.specs.List.{list_any}
use Rattle.std.proofs.Common.{◌≡◌, ◌≢◌, ◌⊎◌, ℕ, zero, suc, ◌<◌, List, [], ◌∷◌, length, refl, sym, ap, ◌∙◌, inl, inr, subst}
use Rattle.std.proofs.lemmas.Bool.{cases_Bool, cases_eq, both_ways}
use Rattle.std.proofs.lemmas.List.{get_or-set_same, get_or-set_other}
use Rattle.nc_num.specs.Memory.{byte}
use Rattle.nc_num.specs.Places.{covers}
use Rattle.nc_num.specs.declared.names.HartNo.{HartNo}
use Rattle.nc_num.specs.declared.names.MapId.{MapId}
use Rattle.nc_num.specs.declared.places.Span.{Span}
use Rattle.nc_env.specs.declared.CboOp.TheVariants as cbos
use Rattle.nc_queue.specs.declared.entry.Entry.{Entry as QueueEntry}
use Rattle.nc_queue.specs.declared.entry.Entry.TheVariants as entries
use Rattle.nc_model.specs.declared.owners.Owner.{Owner}
use Rattle.nc_model.specs.declared.owners.Owner.TheVariants.{Thread, Passing, Lending, Device, Returning, Synced, Pool}
use Rattle.nc_own.specs.Books.{owner_in}
use Rattle.nc_scen.specs.Regions.{pool_of, slots_of}
use Rattle.nc_scen.specs.declared.scenario.Scenario.{Scenario}
use Rattle.nc_sg.specs.declared.list.Entry.{Entry}
use Rattle.nc_rules.specs.declared.lots.Lot.{Lot}
use Rattle.nc_rules.specs.declared.lots.LotId.{LotId}
use Rattle.nc_rules.specs.declared.steps.Step.{Step}
use Rattle.nc_rules.specs.Lots.{DriverConfig, map_id}
use Rattle.nc_rules.specs.Machine.{MachineState, hart_of, queue_of, channel_of, grantee_of}
use Rattle.nc_rules.specs.Driver.{DriverState, Went}
use Rattle.nc_rules.specs.EventTouches.{owner_of}
use Rattle.nc_rules.specs.World.{WorldState, driver_of, no_driver, owners_moved}
use Rattle.nc_rows.specs.Ahead.{is_full, settling, sending, coming}
use Rattle.nc_rows.specs.Places.{CalmRow}
use Rattle.nc_rows.specs.Rows.{Loan, Book, Row}
use Rattle.nc_rows.specs.Parts.{IsQueued, MayBeHeld, rest_last, LastIs}
use Rattle.nc_calls.specs.PlaceLaws.{NotHeld}
use Rattle.nc_flatness.specs.Books.{loan_of, number_in, book_of, mapping_in, LiesIn, IsPooled}
use Rattle.nc_flatness.specs.Copying.{CopyStands}
use Rattle.nc_flatness.specs.Flatness.{Drives, IsUnseen, BytesStand}
use Rattle.nc_flatness.specs.Tokens.{TokenStands}
use Rattle.nc_flatness.proofs.worlds.Outcomes.{gone}
use Rattle.nc_flat_starts.specs.Books.{SameLoan, ReadsAlike}

-- ---- the places of a lot

-- the place is one of entry i
pub record IsPlace (lot : Lot) (i : ℕ) (e : Entry) (x : ℕ) : Type 0 where
  pub entry : slice_get lot.list.entries i ≡ Some e
  pub on : covers e.span x ≡ true

abbrev pub IsOff : Lot → ℕ → Type 0
IsOff lot x = (i : ℕ) (e : Entry) → IsPlace lot i e x → ⊥

pub data IsSomewhere (lot : Lot) (x : ℕ) : Type 0 where
  On : (i : ℕ) (e : Entry) → IsPlace lot i e x → IsSomewhere lot x
  Off : IsOff lot x → IsSomewhere lot x

-- the same of entries
data IsFound (es : List Entry) (x : ℕ) : Type 0 where
  Here : (i : ℕ) (e : Entry) → slice_get es i ≡ Some e → covers e.span x ≡ true → IsFound es x
  Nowhere : ((i : ℕ) (e : Entry) → slice_get es i ≡ Some e → covers e.span x ≡ true → ⊥) → IsFound es x

found_later : (d : Entry) (es : List Entry) (x : ℕ) → covers d.span x ≡ false → IsFound es x → IsFound (d ∷ es) x
found_later d es x off (Here i e there on) = Here (suc i) e there on
found_later d es x off (Nowhere none) = Nowhere never
  where
    never : (i : ℕ) (e : Entry) → slice_get (d ∷ es) i ≡ Some e → covers e.span x ≡ true → ⊥
    never zero e there on = let same : d ≡ e = cc in both_ways (covers d.span x) off (subst (λ (k : Entry). covers k.span x ≡ true) (sym same) on)
    never (suc i) e there on = none i e there on

found_in : (es : List Entry) (x : ℕ) → IsFound es x
found_in [] x = Nowhere (λ i e there on. absurd cc)
found_in (e ∷ es) x = elim (cases_Bool (covers e.span x)) [
  | inl on ↦ Here 0 e refl on
  | inr off ↦ found_later e es x off (found_in es x)
]

somewhere_by : (lot : Lot) (x : ℕ) → IsFound lot.list.entries x → IsSomewhere lot x
somewhere_by lot x (Here i e there on) = On i e (record { entry = there; on = on })
somewhere_by lot x (Nowhere none) = Off (λ i e is. none i e is.entry is.on)

pub somewhere : (lot : Lot) (x : ℕ) → IsSomewhere lot x
somewhere lot x = somewhere_by lot x (found_in lot.list.entries x)

-- ---- what goes on

-- from the world's machine to m nothing changes that is another hart's alone
pub record GoesBy (w : WorldState) (h : HartNo) (m : MachineState) : Type 0 where
  pub size : m.size ≡ w.machine.size
  pub pool : m.pool ≡ w.machine.pool
  pub queues : (g : ℕ) → g ≢ h.0 → queue_of m g ≡ queue_of w.machine g
  pub lasts : (g : ℕ) → g ≢ h.0 → (hart_of m g).last ≡ (hart_of w.machine g).last
  pub unfenced : list_any is_full (queue_of m h.0) ≡ false
  pub free : (x : ℕ) → covers w.machine.pool x ≡ true → NotHeld w.machine x → NotHeld m x
  -- a channel of another hart stays, and stays that hart's
  pub channels : (c : ℕ) (k : HartNo) → grantee_of w.machine c ≡ Some k → k.0 ≢ h.0 → (channel_of m c ≡ channel_of w.machine c) × (grantee_of m c ≡ Some k)

pub goes_still : (sc : Scenario) (f : List ℕ) (w : WorldState) (h : HartNo) → BytesStand sc f w → GoesBy w h w.machine
goes_still sc f w h s = record { size = refl; pool = refl; queues = λ g ne. refl; lasts = λ g ne. refl; unfenced = s.unfenced h.0; free = λ x over free. free; channels = λ c k granted ne. (refl, granted) }

-- a mapping of this owner has nothing to come
abbrev pub IsRestful : Owner → Type 0
IsRestful (Lending n) = ⊥
IsRestful (Returning n) = ⊥
IsRestful (Thread j) = Unit {0}
IsRestful (Passing j g) = Unit {0}
IsRestful (Device n) = Unit {0}
IsRestful (Synced n) = Unit {0}
IsRestful Pool = Unit {0}

-- the same is to come of a lot by both rests
pub record SameRest (k : MapId) (id : LotId) (before behind : List Step) : Type 0 where
  pub comes : coming k id behind ≡ coming k id before
  pub settles : settling id behind ≡ settling id before

-- a mapping of this owner has nothing to come, or what it had
abbrev pub IsAside : WorldState → HartNo → Went → Owner → MapId → Type 0
IsAside w h went o k = IsRestful o ⊎ ((l : Loan) → loan_of (driver_of w h.0) k ≡ Some l → SameRest k l.lot (driver_of w h.0).rest went.driver.rest)

-- less is to come of a mapping that is no area, and the row of its place goes on with it
pub record GoesAlong (f : List ℕ) (w : WorldState) (h : HartNo) (m : MachineState) (went : Went) (x : ℕ) (k : MapId) : Type 0 where
  pub plain : (l : Loan) → loan_of (driver_of w h.0) k ≡ Some l → l.area ≡ false
  pub row : Row (book_of w) (owner_of w x) (byte f x) w.machine x → Row (book_of (gone w h m went)) (owner_of w x) (byte f x) m x

-- flat memory goes on from f to g, and no place beside the lot has another byte
pub record Rewrites (sc : Scenario) (f g : List ℕ) (w : WorldState) (h : HartNo) (lot : Lot) : Type 0 where
  pub size : length g ≡ length f
  pub beside : (x : ℕ) → x < sc.ram → IsOff lot x → byte g x ≡ byte f x
  pub pieces : (j : ℕ) → j ≢ h.0 → LastIs (book_of w) f j (hart_of w.machine j).last (rest_last ((book_of w).rest j)) → LastIs (book_of w) g j (hart_of w.machine j).last (rest_last ((book_of w).rest j))

pub rewrites_none : (sc : Scenario) (f : List ℕ) (w : WorldState) (h : HartNo) (lot : Lot) → Rewrites sc f f w h lot
rewrites_none sc f w h lot = record { size = refl; beside = λ x there off. refl; pieces = λ j ne is. is }

-- hart h's driver and the owners before and behind: each entry of the lot has this owner behind, and nothing else changes
pub record Turns (sc : Scenario) (f g : List ℕ) (w : WorldState) (h : HartNo) (m : MachineState) (went : Went) (lot : Lot) (to : MapId → Owner) : Type 0 where
  pub on : (i : ℕ) (e : Entry) (x : ℕ) → x < sc.ram → IsPlace lot i e x → owner_in (owners_moved w.owners went.moves.transfers) x ≡ to (map_id h lot.id i)
  pub off : (x : ℕ) → IsOff lot x → owner_in (owners_moved w.owners went.moves.transfers) x ≡ owner_of w x
  pub unslotted : (i : ℕ) (e : Entry) (x : ℕ) → IsPlace lot i e x → covers (slots_of sc) x ≡ false
  pub mine : (i : ℕ) (e : Entry) (x : ℕ) (k : MapId) → IsPlace lot i e x → mapping_in (owner_of w x) ≡ Some k → k.hart.0 ≡ h.0
  pub threads : (i : ℕ) (e : Entry) (x : ℕ) (k : HartNo) → IsPlace lot i e x → owner_of w x ≡ Thread k → k.0 ≡ h.0
  -- the hart's mappings that go along with the lot, and are not of it
  pub along : MapId → Bool
  -- its other mappings stay, and what is to come of them does, but of those that go along
  pub others : (x : ℕ) (k : MapId) → x < sc.ram → IsOff lot x → mapping_in (owner_of w x) ≡ Some k → k.hart.0 ≡ h.0 → (loan_of went.driver k ≡ loan_of (driver_of w h.0) k) × (along k ≡ false → IsAside w h went (owner_of w x) k)
  pub goes_along : (x : ℕ) (k : MapId) → x < sc.ram → covers (slots_of sc) x ≡ false → IsOff lot x → mapping_in (owner_of w x) ≡ Some k → k.hart.0 ≡ h.0 → along k ≡ true → GoesAlong f w h m went x k
  -- so do its other areas
  pub areas : (x : ℕ) (k : MapId) (l : Loan) → IsOff lot x → k.hart.0 ≡ h.0 → (book_of w).loan k ≡ Some l → l.area ≡ true → covers l.grant.buffer x ≡ true → loan_of went.driver k ≡ Some l
  -- a place of the lot that is one of the coherent pool
  pub pooled : (i : ℕ) (e : Entry) (x : ℕ) → IsPlace lot i e x → covers (pool_of sc) x ≡ true → IsPooled (book_of (gone w h m went)) (to (map_id h lot.id i)) x
  pub free : (i : ℕ) (e : Entry) (x : ℕ) → IsPlace lot i e x → covers (pool_of sc) x ≡ true → NotHeld m x ⊎ MayBeHeld (book_of (gone w h m went)) (to (map_id h lot.id i))
  -- no message is begun or gone
  pub silent : (b : ℕ) → sending b went.driver.rest ≡ sending b (driver_of w h.0).rest
  pub fixed : went.driver.fixed ≡ (driver_of w h.0).fixed
  pub drives : Drives went.driver
  pub lasting : LastIs (book_of (gone w h m went)) g h.0 (hart_of m h.0).last (rest_last went.driver.rest)
  pub queue : All (IsQueued (book_of (gone w h m went)) (owner_of (gone w h m went)) m.pool m.size h.0) (queue_of m h.0)
  pub tokens : went.driver.fixed.light ≡ true → All (TokenStands went.driver.rest (queue_of m h.0)) went.driver.lots
  pub passes : (x v : ℕ) → x < sc.ram → covers (slots_of sc) x ≡ false → IsOff lot x → ((k : MapId) → mapping_in (owner_of w x) ≡ Some k → k.hart.0 ≡ h.0 → along k ≡ false)
      → Row (book_of w) (owner_of w x) v w.machine x → Row (book_of w) (owner_of w x) v m x
  pub lies : (i : ℕ) (e : Entry) (x : ℕ) (k : MapId) → x < sc.ram → IsPlace lot i e x → mapping_in (to (map_id h lot.id i)) ≡ Some k → LiesIn ((book_of (gone w h m went)).loan k) x
  pub row : (i : ℕ) (e : Entry) (x : ℕ) → x < sc.ram → IsPlace lot i e x → Row (book_of w) (owner_of w x) (byte f x) w.machine x → Row (book_of (gone w h m went)) (to (map_id h lot.id i)) (byte g x) m x
  pub calm : (z : ℕ) → covers (slots_of sc) z ≡ true → IsUnseen (book_of (gone w h m went)) (owner_of (gone w h m went)) (slots_of sc) z → CalmRow m z
  -- the copy that it has in hand
  pub copying : CopyStands sc g (gone w h m went) h.0

-- ---- the drivers behind

pub driver_there : (w : WorldState) (h : HartNo) (m : MachineState) (went : Went) (g : ℕ) → g ≢ h.0 → driver_of (gone w h m went) g ≡ driver_of w g
driver_there w h m went g ne = get_or-set_other w.drivers h.0 g went.driver no_driver ne

pub driver_here : (w : WorldState) (h : HartNo) (m : MachineState) (went : Went) → h.0 < length w.drivers → driver_of (gone w h m went) h.0 ≡ went.driver
driver_here w h m went lt = get_or-set_same w.drivers h.0 went.driver no_driver lt

pub loan_there : (w : WorldState) (h : HartNo) (m : MachineState) (went : Went) (k : MapId) → k.hart.0 ≢ h.0 → (book_of (gone w h m went)).loan k ≡ (book_of w).loan k
loan_there w h m went k ne = ap (λ (d : DriverState). loan_of d k) (driver_there w h m went k.hart.0 ne)

pub loan_hart : (w : WorldState) (h : HartNo) (m : MachineState) (went : Went) (k : MapId) → h.0 < length w.drivers → k.hart.0 ≡ h.0 → (book_of (gone w h m went)).loan k ≡ loan_of went.driver k
loan_hart w h m went k lt own = ap (λ (g : ℕ). loan_of (driver_of (gone w h m went) g) k) own ∙ ap (λ (d : DriverState). loan_of d k) (driver_here w h m went lt)

pub rest_there : (w : WorldState) (h : HartNo) (m : MachineState) (went : Went) (g : ℕ) → g ≢ h.0 → (book_of (gone w h m went)).rest g ≡ (book_of w).rest g
rest_there w h m went g ne = ap (λ (d : DriverState). d.rest) (driver_there w h m went g ne)

pub rest_hart : (w : WorldState) (h : HartNo) (m : MachineState) (went : Went) (g : ℕ) → h.0 < length w.drivers → g ≡ h.0 → (book_of (gone w h m went)).rest g ≡ went.driver.rest
rest_hart w h m went g lt own = ap (λ (j : ℕ). (driver_of (gone w h m went) j).rest) own ∙ ap (λ (d : DriverState). d.rest) (driver_here w h m went lt)

pub buffer_same : (w : WorldState) (h : HartNo) (m : MachineState) (went : Went) (x : ℕ) → h.0 < length w.drivers → went.driver.fixed ≡ (driver_of w h.0).fixed → (book_of (gone w h m went)).buffer x ≡ (book_of w).buffer x
buffer_same w h m went x lt same =
    let fixed : (driver_of (gone w h m went) 0).fixed ≡ (driver_of w 0).fixed = elim (cases_eq 0 h.0) [
      | inl is ↦
          ap (λ (j : ℕ). (driver_of (gone w h m went) j).fixed) is ∙ ap (λ (d : DriverState). d.fixed) (driver_here w h m went lt) ∙ same ∙ ap (λ (j : ℕ). (driver_of w j).fixed) (sym is)
      | inr ne ↦ ap (λ (d : DriverState). d.fixed) (driver_there w h m went 0 ne)
    ] in
    ap (λ (f : DriverConfig). number_in f.buffers x) fixed

-- ---- the rows beside

loan_alike : (w : WorldState) (h : HartNo) (m : MachineState) (went : Went) (k : MapId) (o : Option Loan) → k.hart.0 ≢ h.0 → SameLoan (book_of w) (book_of (gone w h m went)) k o
loan_alike w h m went k None ne = tt
loan_alike w h m went k (Some l) ne =
    let same = rest_there w h m went k.hart.0 ne in
    record { ahead = ap (λ (rest : List Step). coming k l.lot rest) same; settles = ap (λ (rest : List Step). settling l.lot rest) same }

-- the mapping is of another hart, or it stays and so does what is to come of it
abbrev pub StaysAside : WorldState → HartNo → Went → Owner → MapId → Type 0
StaysAside w h went o k = k.hart.0 ≡ h.0 → (loan_of went.driver k ≡ loan_of (driver_of w h.0) k) × IsAside w h went o k

pub loan_stays : (w : WorldState) (h : HartNo) (m : MachineState) (went : Went) (k : MapId) → h.0 < length w.drivers → (k.hart.0 ≡ h.0 → loan_of went.driver k ≡ loan_of (driver_of w h.0) k) → (book_of (gone w h m went)).loan k ≡ (book_of w).loan k
loan_stays w h m went k lt stays = elim (cases_eq k.hart.0 h.0) [
  | inl own ↦ loan_hart w h m went k lt own ∙ stays own ∙ ap (λ (g : ℕ). loan_of (driver_of w g) k) (sym own)
  | inr ne ↦ loan_there w h m went k ne
]

pub loan_aside : (w : WorldState) (h : HartNo) (m : MachineState) (went : Went) (o : Owner) (k : MapId) → h.0 < length w.drivers → StaysAside w h went o k → (book_of (gone w h m went)).loan k ≡ (book_of w).loan k
loan_aside w h m went o k lt aside = loan_stays w h m went k lt (λ own. (aside own).0)

rest_same : (w : WorldState) (h : HartNo) (m : MachineState) (went : Went) (k : MapId) (o : Option Loan) → h.0 < length w.drivers → k.hart.0 ≡ h.0 → ((l : Loan) → o ≡ Some l → SameRest k l.lot (driver_of w h.0).rest went.driver.rest)
    → SameLoan (book_of w) (book_of (gone w h m went)) k o
rest_same w h m went k None lt own same = tt
rest_same w h m went k (Some l) lt own same =
    let is = same l refl in
    let now = rest_hart w h m went k.hart.0 lt own in
    let was : (driver_of w h.0).rest ≡ (driver_of w k.hart.0).rest = ap (λ (g : ℕ). (driver_of w g).rest) (sym own) in
    record {
      ahead = ap (λ (rest : List Step). coming k l.lot rest) now ∙ is.comes ∙ ap (λ (rest : List Step). coming k l.lot rest) was;
      settles = ap (λ (rest : List Step). settling l.lot rest) now ∙ is.settles ∙ ap (λ (rest : List Step). settling l.lot rest) was;
    }

pub busy_alike : (w : WorldState) (h : HartNo) (m : MachineState) (went : Went) (o : Owner) (k : MapId) → h.0 < length w.drivers → (IsRestful o → ⊥) → StaysAside w h went o k → SameLoan (book_of w) (book_of (gone w h m went)) k ((book_of w).loan k)
busy_alike w h m went o k lt busy aside = elim (cases_eq k.hart.0 h.0) [
  | inl own ↦ elim (aside own).1 [
    | inl restful ↦ absurd (busy restful)
    | inr same ↦ rest_same w h m went k ((book_of w).loan k) lt own (λ l is. same l (ap (λ (g : ℕ). loan_of (driver_of w g) k) (sym own) ∙ is))
  ]
  | inr ne ↦ loan_alike w h m went k ((book_of w).loan k) ne
]

pub reads_aside : (w : WorldState) (h : HartNo) (m : MachineState) (went : Went) (o : Owner) (x : ℕ) → h.0 < length w.drivers → went.driver.fixed ≡ (driver_of w h.0).fixed → ((b : ℕ) → sending b went.driver.rest ≡ sending b (driver_of w h.0).rest)
    → ((k : MapId) → mapping_in o ≡ Some k → StaysAside w h went o k) → ReadsAlike (book_of w) (book_of (gone w h m went)) o x
reads_aside w h m went (Thread j) x lt fixed silent aside = tt
reads_aside w h m went (Passing j g) x lt fixed silent aside =
    let b = (book_of w).buffer x in
    let same : sending b ((book_of (gone w h m went)).rest j.0) ≡ sending b ((book_of w).rest j.0) = elim (cases_eq j.0 h.0) [
      | inl own ↦ ap (λ (rest : List Step). sending b rest) (rest_hart w h m went j.0 lt own) ∙ silent b ∙ ap (λ (k : ℕ). sending b (driver_of w k).rest) (sym own)
      | inr ne ↦ ap (λ (rest : List Step). sending b rest) (rest_there w h m went j.0 ne)
    ] in
    (buffer_same w h m went x lt fixed, same)
reads_aside w h m went (Lending k) x lt fixed silent aside = (loan_aside w h m went (Lending k) k lt (aside k refl), busy_alike w h m went (Lending k) k lt (λ none. none) (aside k refl))
reads_aside w h m went (Device k) x lt fixed silent aside = loan_aside w h m went (Device k) k lt (aside k refl)
reads_aside w h m went (Returning k) x lt fixed silent aside = (loan_aside w h m went (Returning k) k lt (aside k refl), busy_alike w h m went (Returning k) k lt (λ none. none) (aside k refl))
reads_aside w h m went (Synced k) x lt fixed silent aside = loan_aside w h m went (Synced k) k lt (aside k refl)
reads_aside w h m went Pool x lt fixed silent aside = tt

-- ---- what is queued, and loaded last

-- of another hart's queue
pub queued_aside : (w : WorldState) (h : HartNo) (m : MachineState) (went : Went) (g : ℕ) (pool : Span) (s : ℕ) (owner : ℕ → Owner) (e : QueueEntry) → g ≢ h.0
    → ((x : ℕ) (k : MapId) → mapping_in (owner_of w x) ≡ Some k → k.hart.0 ≢ h.0 → owner x ≡ owner_of w x) → IsQueued (book_of w) (owner_of w) pool s g e → IsQueued (book_of (gone w h m went)) owner pool s g e
queued_aside w h m went g pool s owner (entries.Store span bytes kind) ne stays is = is
queued_aside w h m went g pool s owner (entries.Cbo block cbos.Clean) ne stays is = tt
queued_aside w h m went g pool s owner (entries.Cbo block cbos.Flush) ne stays is = tt
queued_aside w h m went g pool s owner (entries.Cbo block cbos.Inval) ne stays is =
    let other : is.id.hart.0 ≢ h.0 = λ own. ne (sym is.own ∙ own) in
    record {
      id = is.id;
      loan = is.loan;
      lent = loan_there w h m went is.id other ∙ is.lent;
      own = is.own;
      back = is.back;
      ahead = ap (λ (rest : List Step). list_any is_full (coming is.id is.loan.lot rest)) (rest_there w h m went is.id.hart.0 other) ∙ is.ahead;
      place = is.place;
      owned = stays is.place is.id (ap mapping_in is.owned) other ∙ is.owned;
      here = is.here;
    }
queued_aside w h m went g pool s owner (entries.Cbo block cbos.Zero) ne stays (inl beside) = inl beside
queued_aside w h m went g pool s owner (entries.Cbo block cbos.Zero) ne stays (inr is) =
    let other : is.id.hart.0 ≢ h.0 = λ own. ne (sym is.own ∙ own) in
    inr (record {
      id = is.id;
      loan = is.loan;
      lent = loan_there w h m went is.id other ∙ is.lent;
      own = is.own;
      area = is.area;
      ahead = ap (λ (rest : List Step). settling is.loan.lot rest) (rest_there w h m went is.id.hart.0 other) ∙ is.ahead;
      owned = λ x here. stays x is.id (ap mapping_in (is.owned x here)) other ∙ is.owned x here;
    })
queued_aside w h m went g pool s owner (entries.Reg chan off width value) ne stays is = tt
queued_aside w h m went g pool s owner (entries.Mail buf to) ne stays is = tt
queued_aside w h m went g pool s owner (entries.Lend label first count) ne stays is = tt
queued_aside w h m went g pool s owner (entries.Mark pred succ) ne stays is = tt

piece_aside : (a c : Book) (f : List ℕ) (g : ℕ) (bytes : List ℕ) (o : Option Span) → ((k : MapId) → k.hart.0 ≡ g → c.loan k ≡ a.loan k) → LastIs a f g bytes o → LastIs c f g bytes o
piece_aside a c f g bytes None same is = tt
piece_aside a c f g bytes (Some span) same is = record {
  id = is.id;
  loan = is.loan;
  lent = same is.id is.own ∙ is.lent;
  own = is.own;
  from = is.from;
  inside = is.inside;
  here = is.here;
  bytes_are = is.bytes_are;
}

pub last_aside : (w : WorldState) (h : HartNo) (m : MachineState) (went : Went) (f : List ℕ) (g : ℕ) (bytes : List ℕ) → g ≢ h.0 → LastIs (book_of w) f g bytes (rest_last ((book_of w).rest g)) → LastIs (book_of (gone w h m went)) f g bytes (rest_last ((book_of (gone w h m went)).rest g))
last_aside w h m went f g bytes ne is =
    subst (λ (rest : List Step). LastIs (book_of (gone w h m went)) f g bytes (rest_last rest)) (sym (rest_there w h m went g ne))
    (piece_aside (book_of w) (book_of (gone w h m went)) f g bytes (rest_last ((book_of w).rest g)) (λ k own. loan_there w h m went k (λ e. ne (sym own ∙ e))) is)

-- of its own, by what is left of its plan
pub last_here : (w : WorldState) (h : HartNo) (m : MachineState) (went : Went) (f : List ℕ) → h.0 < length w.drivers → LastIs (book_of (gone w h m went)) f h.0 (hart_of m h.0).last (rest_last went.driver.rest)
    → LastIs (book_of (gone w h m went)) f h.0 (hart_of m h.0).last (rest_last ((book_of (gone w h m went)).rest h.0))
last_here w h m went f lt is = subst (λ (rest : List Step). LastIs (book_of (gone w h m went)) f h.0 (hart_of m h.0).last (rest_last rest)) (sym (rest_hart w h m went h.0 lt refl)) is

-- with no store to come
pub last_none : (a : Book) (f : List ℕ) (g : ℕ) (bytes : List ℕ) (o : Option Span) → o ≡ None → LastIs a f g bytes o
last_none a f g bytes o none = subst (λ (k : Option Span). LastIs a f g bytes k) (sym none) tt
