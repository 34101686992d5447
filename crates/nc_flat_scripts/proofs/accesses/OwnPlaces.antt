-- What an access of a script that is no touch may use: places of its hart alone, each by its type.
use Rattle.std.specs.Prelude.{Option, Some, None, Bool, true, false, if◌then◌else◌, ◌-◌, ◌==◌, ◌/◌}
use Rattle.std.proofs.Common.{◌≡◌, ◌⊎◌, ℕ, ◌*◌, ◌<◌, ◌≤◌, List, length, refl, sym, ap, ◌∙◌, inl, inr, subst, arith}
use Rattle.std.proofs.lemmas.Bool.{cases_eq, cases_lt, cases_Bool, cond-false, ne_eqb}
use Rattle.std.proofs.lemmas.List.{get_or_past}
use Rattle.nc_num.specs.Memory.{byte}
use Rattle.nc_num.specs.Places.{covers}
use Rattle.nc_num.specs.declared.names.HartNo.{HartNo}
use Rattle.nc_num.specs.declared.names.MapId.{MapId}
use Rattle.nc_num.specs.declared.names.MemType.{MemType}
use Rattle.nc_num.specs.declared.names.MemType.TheVariants.{Pma, Nc, Io}
use Rattle.nc_num.specs.declared.places.Block.{Block}
use Rattle.nc_num.specs.declared.places.Span.{Span}
use Rattle.nc_num.proofs.Blocks.{inside}
use Rattle.nc_env.specs.declared.CboOp.TheVariants as cbos
use Rattle.nc_queue.specs.declared.entry.Entry.TheVariants as entries
use Rattle.nc_plan.specs.Parts.{comes_back}
use Rattle.nc_model.proofs.Faults.{covers-from, covers-high}
use Rattle.nc_model.proofs.TouchLaws.{piece_passed, rights_passed, type_passed, hart_uses}
use Rattle.nc_model.specs.Laws.{HartUses}
use Rattle.nc_model.specs.Touches.{rights_touch, piece_touch, zero_touch, is_its_type}
use Rattle.nc_model.specs.declared.owners.Access.{Access}
use Rattle.nc_model.specs.declared.owners.Access.TheVariants.{Write}
use Rattle.nc_model.specs.declared.owners.Owner.{Owner}
use Rattle.nc_model.specs.declared.owners.Owner.TheVariants.{Thread, Passing, Lending, Device, Returning, Synced, Pool}
use Rattle.nc_own.specs.Books.{owner_in}
use Rattle.nc_scen.specs.Regions.{slots_of}
use Rattle.nc_scen.specs.declared.scenario.Scenario.{Scenario}
use Rattle.nc_rules.specs.Sound.{IsPieceIn, IsBlockIn}
use Rattle.nc_rules.specs.EventTouches.{owner_of}
use Rattle.nc_rules.specs.World.{WorldState}
use Rattle.nc_rows.specs.Laws.{seen_at}
use Rattle.nc_rows.specs.Parts.{StoreIsQueued}
use Rattle.nc_rows.specs.Rows.{Loan, device_place}
use Rattle.nc_row_issues.specs.Laws.{IsOwn, IsSyncedOf}
use Rattle.nc_flatness.specs.Books.{book_of, mapping_in}
use Rattle.nc_flatness.specs.Flatness.{Flatness}
use Rattle.nc_flatness.proofs.books.Owned.{IsMapped, mapped}
use Rattle.nc_flatness.proofs.books.Seen.{seen, seen_lent, place_ways, seen_whole}
use Rattle.nc_flatness.proofs.books.WholeBlocks.{area_whole}
use Rattle.nc_flat_scripts.specs.Entering.{GivesOwn, IsUnowned, LoanIsApart, OwnerIsApart}

-- ---- the mapping that has a place

-- a place past memory is nobody's
owner_past : (sc : Scenario) (f : List ℕ) (w : WorldState) (y : ℕ) → Flatness sc f w → sc.ram ≤ y → owner_of w y ≡ Pool
unfolding owner_in
owner_past sc f w y flat past = get_or_past w.owners y Pool (omega (arith, flat.world.holds.owners, flat.world.of_scenario.ram, past))

-- its mapping n is with its channel, or on its way there or back
abbrev pub IsAway : MapId → Owner → Type 0
IsAway n o = (o ≡ Lending n) ⊎ (o ≡ Device n) ⊎ (o ≡ Returning n)

away_is : (n : MapId) (o : Owner) → IsAway n o → (mapping_in o ≡ Some n) × IsUnowned o
away_is n o (inl is) = (ap mapping_in is, subst IsUnowned (sym is) tt)
away_is n o (inr (inl is)) = (ap mapping_in is, subst IsUnowned (sym is) tt)
away_is n o (inr (inr is)) = (ap mapping_in is, subst IsUnowned (sym is) tt)

-- a place in a block that the mapping's channel may write
pub record InBlock (sc : Scenario) (w : WorldState) (n : MapId) (l : Loan) (x y : ℕ) : Type 0 where
  pub away : IsAway n (owner_of w x)
  pub known : (book_of w).loan n ≡ Some l
  pub back : comes_back l.grant.dir ≡ true
  pub short : x < sc.ram
  pub same : y / w.machine.size ≡ device_place l x / w.machine.size

-- one that is seen where it is
itself_unowned : (sc : Scenario) (f : List ℕ) (w : WorldState) (n : MapId) (l : Loan) (x y : ℕ) → Flatness sc f w → InBlock sc w n l x y → y < sc.ram → covers (slots_of sc) y ≡ false → seen w y ≡ y → IsUnowned (owner_of w y)
itself_unowned sc f w n l x y flat in_block lt off itself =
    let s = w.machine.size in
    let away = away_is n (owner_of w x) in_block.away in
    let here : seen w x ≡ device_place l x = seen_lent w n l x in_block.known in_block.away in
    let one : seen w x / s ≡ seen w y / s = ap (λ (z : ℕ). z / s) here ∙ sym in_block.same ∙ ap (λ (z : ℕ). z / s) (sym itself) in
    subst IsUnowned (sym (seen_whole sc f w n l x y flat in_block.short lt away.0 in_block.known in_block.back here off one)) away.1

memory_unowned : (sc : Scenario) (f : List ℕ) (w : WorldState) (n : MapId) (l : Loan) (x y : ℕ) (o : Owner) → Flatness sc f w → InBlock sc w n l x y → y < sc.ram → covers (slots_of sc) y ≡ false → owner_of w y ≡ o → IsUnowned o
memory_unowned sc f w n l x y (Thread h) flat in_block lt off is =
    subst IsUnowned is (itself_unowned sc f w n l x y flat in_block lt off (ap (λ (o : Owner). seen_at (book_of w) o y) is))
memory_unowned sc f w n l x y (Synced k) flat in_block lt off is =
    subst IsUnowned is (itself_unowned sc f w n l x y flat in_block lt off (ap (λ (o : Owner). seen_at (book_of w) o y) is))
memory_unowned sc f w n l x y (Passing h g) flat in_block lt off is = tt
memory_unowned sc f w n l x y (Lending k) flat in_block lt off is = tt
memory_unowned sc f w n l x y (Device k) flat in_block lt off is = tt
memory_unowned sc f w n l x y (Returning k) flat in_block lt off is = tt
memory_unowned sc f w n l x y Pool flat in_block lt off is = tt

block_unowned : (sc : Scenario) (f : List ℕ) (w : WorldState) (n : MapId) (l : Loan) (x y : ℕ) → Flatness sc f w → InBlock sc w n l x y → IsUnowned (owner_of w y)
block_unowned sc f w n l x y flat in_block = elim (cases_lt y sc.ram) [
  | inl lt ↦ elim (cases_Bool (covers (slots_of sc) y)) [
    | inl on ↦ subst IsUnowned (sym (flat.bytes.slotted y on)) tt
    | inr off ↦ memory_unowned sc f w n l x y (owner_of w y) flat in_block lt off refl
  ]
  | inr past ↦ subst IsUnowned (sym (owner_past sc f w y flat past)) tt
]

place_unowned : (sc : Scenario) (f : List ℕ) (w : WorldState) (n : MapId) (x : ℕ) → Flatness sc f w → (m : IsMapped w n x) → IsUnowned (owner_of w x) → IsUnowned (owner_of w (device_place m.loan x))
place_unowned sc f w n x flat m un = elim (place_ways sc f w n x flat m) [
  | inl same ↦ subst (λ (y : ℕ). IsUnowned (owner_of w y)) (sym same.0) un
  | inr slot ↦ subst IsUnowned (sym (flat.bytes.slotted (device_place m.loan x) slot.0)) tt
]

loan_apart : (sc : Scenario) (f : List ℕ) (w : WorldState) (n : MapId) (x : ℕ) → Flatness sc f w → x < sc.ram → IsAway n (owner_of w x) → LoanIsApart ((book_of w).loan n) (owner_of w) w.machine.size x
loan_apart sc f w n x flat lt away =
    let is = away_is n (owner_of w x) away in
    let m = mapped sc f w n x flat lt is.0 in
    subst (λ (o : Option Loan). LoanIsApart o (owner_of w) w.machine.size x) (sym m.known)
    (record {
      place = place_unowned sc f w n x flat m is.1;
      block = λ back y same. block_unowned sc f w n m.loan x y flat (record { away = away; known = m.known; back = back; short = lt; same = same });
      area = λ area y same. subst IsUnowned (sym (area_whole sc f w n x y flat m area same).1) is.1;
    })

apart_by : (sc : Scenario) (f : List ℕ) (w : WorldState) (x : ℕ) (o : Owner) → Flatness sc f w → x < sc.ram → owner_of w x ≡ o → OwnerIsApart (book_of w) (owner_of w) w.machine.size x o
apart_by sc f w x (Lending n) flat lt is = loan_apart sc f w n x flat lt (inl is)
apart_by sc f w x (Device n) flat lt is = loan_apart sc f w n x flat lt (inr (inl is))
apart_by sc f w x (Returning n) flat lt is = loan_apart sc f w n x flat lt (inr (inr is))
apart_by sc f w x (Synced n) flat lt is = tt
apart_by sc f w x (Thread h) flat lt is = tt
apart_by sc f w x (Passing h g) flat lt is = tt
apart_by sc f w x Pool flat lt is = tt

pub apart_at : (sc : Scenario) (f : List ℕ) (w : WorldState) (x : ℕ) → Flatness sc f w → x < sc.ram → OwnerIsApart (book_of w) (owner_of w) w.machine.size x (owner_of w x)
apart_at sc f w x flat lt = apart_by sc f w x (owner_of w x) flat lt refl

-- ---- places of the hart

own_by : (sc : Scenario) (f : List ℕ) (w : WorldState) (h : HartNo) (access : Access) (x : ℕ) (o : Owner) → Flatness sc f w → x < sc.ram → owner_of w x ≡ o → HartUses w.grants h access o → IsOwn (book_of w) h.0 o
own_by sc f w h access x o flat lt is (inl own) = subst (IsOwn (book_of w) h.0) (sym own) refl
own_by sc f w h access x o flat lt is (inr uses) =
    let n = uses.0 in
    let m = mapped sc f w n x flat lt (ap mapping_in (is ∙ uses.1)) in
    subst (IsOwn (book_of w) h.0) (sym uses.1) (subst (IsSyncedOf h.0 n) (sym m.known) uses.2)

pub own_place : (sc : Scenario) (f : List ℕ) (w : WorldState) (h : HartNo) (access : Access) (s : Span) (x : ℕ) → Flatness sc f w → rights_touch (owner_of w) w.grants h access s ≡ None → covers s x ≡ true → x < sc.ram
    → IsOwn (book_of w) h.0 (owner_of w x)
own_place sc f w h access s x flat none over lt =
    own_by sc f w h access x (owner_of w x) flat lt refl (hart_uses w.grants h access (owner_of w x) (rights_passed (owner_of w) w.grants h access s x none over))

-- it is of no slot
pub own_unslotted : (sc : Scenario) (f : List ℕ) (w : WorldState) (h x : ℕ) → Flatness sc f w → IsOwn (book_of w) h (owner_of w x) → covers (slots_of sc) x ≡ false
own_unslotted sc f w h x flat own = elim (cases_Bool (covers (slots_of sc) x)) [
  | inl over ↦ absurd (subst (IsOwn (book_of w) h) (flat.bytes.slotted x over) own)
  | inr off ↦ off
]

-- ---- pieces

pub piece_starts : (size : ℕ) (s : Span) → IsPieceIn size s → covers s s.at ≡ true
piece_starts size s is = covers-from s s.at (omega arith) (elim is.len [
  | inl e ↦ omega (arith, e)
  | inr r ↦ elim r [ inl e ↦ omega (arith, e) | inr t ↦ elim t [ inl e ↦ omega (arith, e) | inr e ↦ omega (arith, e) ] ]
])

off_by : (t : Bool) → (if t then false else true) ≡ true → t ≡ false
off_by true is = absurd cc
off_by false is = refl

on_by : (t : Bool) → (if t then true else false) ≡ true → t ≡ true
on_by true is = refl
on_by false is = absurd cc

neither : (t : Bool) → (if t then false else false) ≡ true → ⊥
neither true is = absurd cc
neither false is = absurd cc

-- each byte is of the access's type: past the caches in the coherent pool, and through them beside it
typed : (pool : Span) (kind : MemType) (s : Span) → covers s s.at ≡ true → ((x : ℕ) → covers s x ≡ true → is_its_type pool kind x ≡ true) → StoreIsQueued pool kind s
typed pool Pma s start is = λ x over. off_by (covers pool x) (is x over)
typed pool Nc s start is = λ x over. on_by (covers pool x) (is x over)
typed pool Io s start is = neither (covers pool s.at) (is s.at start)

-- each byte is the hart's own, and has its type
pub record OwnPiece (w : WorldState) (h : ℕ) (s : Span) (kind : MemType) : Type 0 where
  pub own : (x : ℕ) → covers s x ≡ true → IsOwn (book_of w) h (owner_of w x)
  pub type : StoreIsQueued w.machine.pool kind s

pub own_piece : (sc : Scenario) (f : List ℕ) (w : WorldState) (h : HartNo) (access : Access) (s : Span) (kind : MemType) → Flatness sc f w → piece_touch (owner_of w) w.grants w.machine.pool h access s kind ≡ None
    → IsPieceIn (length w.machine.cache.ram) s → OwnPiece w h.0 s kind
own_piece sc f w h access s kind flat none piece =
    let pool = w.machine.pool in
    let passed = piece_passed (owner_of w) w.grants pool h access s kind none in
    record {
      own = λ x over. own_place sc f w h access s x flat passed.0 over (omega (arith, covers-high s x over, piece.inside, flat.world.of_scenario.ram));
      type = typed pool kind s (piece_starts (length w.machine.cache.ram) s piece) (λ x over. type_passed (owner_of w) pool h s kind x passed.1 over);
    }

-- ---- entries

-- a store gives bytes of its hart alone
pub store_own : (w : WorldState) (h : ℕ) (span : Span) (bytes : List ℕ) (kind : MemType) → OwnPiece w h span kind → GivesOwn (book_of w) (owner_of w) w.machine.size h (entries.Store span bytes kind)
store_own w h span bytes kind own = λ x. elim (cases_Bool (covers span x)) [
  | inl over ↦ inr (own.own x over)
  | inr off ↦ inl (cond-false (covers span x) (Some (byte bytes (x - span.at))) None off)
]

-- so does a zero
zero_block : (sc : Scenario) (f : List ℕ) (w : WorldState) (h : HartNo) (block : Block) (x : ℕ) → Flatness sc f w → zero_touch (owner_of w) w.grants h (record { at = w.machine.size * block.0; len = w.machine.size }) ≡ None
    → IsBlockIn w.machine.size (length w.machine.cache.ram) block.0 → x / w.machine.size ≡ block.0 → IsOwn (book_of w) h.0 (owner_of w x)
zero_block sc f w h block x flat none there is =
    let at = inside {s = w.machine.size} x block.0 flat.world.machine.block_size is in
    let span : Span = record { at = w.machine.size * block.0; len = w.machine.size } in
    own_place sc f w h Write span x flat none (covers-from span x at.low at.high) (omega (arith, at.high, there, flat.world.of_scenario.ram))

pub zero_own : (sc : Scenario) (f : List ℕ) (w : WorldState) (h : HartNo) (block : Block) → Flatness sc f w → zero_touch (owner_of w) w.grants h (record { at = w.machine.size * block.0; len = w.machine.size }) ≡ None
    → IsBlockIn w.machine.size (length w.machine.cache.ram) block.0 → GivesOwn (book_of w) (owner_of w) w.machine.size h.0 (entries.Cbo block cbos.Zero)
zero_own sc f w h block flat none there = λ x. elim (cases_eq (x / w.machine.size) block.0) [
  | inl e ↦ inr (zero_block sc f w h block x flat none there e)
  | inr ne ↦ inl (cond-false (x / w.machine.size == block.0) (Some 0) None (ne_eqb (x / w.machine.size) block.0 ne))
]
