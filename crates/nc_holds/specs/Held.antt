-- Who holds what: how the lots of a hart agree with the owners, the grants, the slot words and the pages. It is true at
-- each moment of every run, with touches or without. This project's own.
use Rattle.std.specs.Prelude.{ℕ, ◌≡◌, ◌≢◌, ◌*◌, ◌==◌, Bool, true, false, if◌then◌else◌, List, Option, Some, None, All, flat_map, count_by, replicate, slice_get}
use Rattle.nc_num.specs.Places.{covers}
use Rattle.nc_num.specs.declared.names.HartNo.{HartNo}
use Rattle.nc_num.specs.declared.places.Span.{Span}
use Rattle.nc_plan.specs.Plans.{In}
use Rattle.nc_own.specs.Books.{owner_in}
use Rattle.nc_model.specs.declared.owners.Grant.{Grant}
use Rattle.nc_model.specs.declared.owners.Owner.{Owner}
use Rattle.nc_slots.specs.SlotWords.{holder_of}
use Rattle.nc_coherent.specs.Pages.{PageMap, page_count}
use Rattle.nc_coherent.specs.Pages as coherent
use Rattle.nc_sg.specs.declared.list.Entry.{Entry}
use Rattle.nc_rules.specs.declared.lots.Lot.{Lot}
use Rattle.nc_rules.specs.declared.lots.LotId.{LotId}
use Rattle.nc_rules.specs.Lots.{DriverConfig, is_lot, map_id, grant_of, owner_of_side, is_wanted, is_own, only_entry, slots_held}
use Rattle.nc_rules.specs.Refusals.{buffer_of}
use Rattle.nc_rules.specs.Turns.{is_area}

-- the lots of one hart, and what all harts share
pub record Held : Type 0 where
  pub lots : List Lot
  pub owners : List Owner
  pub grants : List Grant
  pub slots : List (Option HartNo)
  pub pages : PageMap

-- ---- the regions of a scenario, as every driver knows them

abbrev pub SharesNone : Span → Span → Type 0
SharesNone a b = (x : ℕ) → covers a x ≡ true → covers b x ≡ true → ⊥

abbrev pub slots_span : DriverConfig → Span
slots_span f = record { at = f.slots_at; len = 2048 * f.slots }

-- no two buffers, nor a buffer and the slots or the pool, nor the slots and the pool, share a byte
pub record AreRegions (f : DriverConfig) : Type 0 where
  pub buffers : (b c : ℕ) → b ≢ c → SharesNone (buffer_of f b) (buffer_of f c)
  pub buffers_off_slots : (b : ℕ) → SharesNone (buffer_of f b) (slots_span f)
  pub buffers_off_pool : (b : ℕ) → SharesNone (buffer_of f b) f.pool
  pub slots_off_pool : SharesNone (slots_span f) f.pool

-- ---- owners, and lots of a name

-- each byte of the range has this owner
abbrev pub IsOwnedBy : List Owner → Span → Owner → Type 0
IsOwnedBy ws range o = (x : ℕ) → covers range x ≡ true → owner_in ws x ≡ o

-- the lots of this name are lent, or were
abbrev pub AreLent : List Lot → LotId → Type 0
AreLent lots id = All (λ lot. is_lot id lot ≡ true → is_wanted lot.side ≡ false) lots

-- ---- a hart's entries

-- entry i of a lot of these
pub record IsEntryOf (lots : List Lot) (lot : Lot) (i : ℕ) (e : Entry) : Type 0 where
  pub lot_in : In lot lots
  pub entry : slice_get lot.list.entries i ≡ Some e

-- two entries that share a byte are one
pub record IsSameEntry (a : Lot) (i : ℕ) (b : Lot) (j : ℕ) : Type 0 where
  pub lot : a.id ≡ b.id
  pub entry : i ≡ j

abbrev pub EntriesAreApart : List Lot → Type 0
EntriesAreApart lots =
    (a b : Lot) (i j : ℕ) (d e : Entry) (x : ℕ) → IsEntryOf lots a i d → IsEntryOf lots b j e → covers d.span x ≡ true → covers e.span x ≡ true
    → IsSameEntry a i b j

-- a range lies in a buffer
abbrev pub LiesInBuffer : DriverConfig → Span → Type 0
LiesInBuffer f range = (b : ℕ) × ((x : ℕ) → covers range x ≡ true → covers (buffer_of f b) x ≡ true)

-- what a kind says of the side and the entries of a lot
pub record FitsSide (f : DriverConfig) (lot : Lot) : Type 0 where
  -- an area is lent as soon as it is made
  pub area : is_area lot.kind ≡ true → is_wanted lot.side ≡ false
  -- an area alone can be the hart's own while it is granted
  pub own : is_own lot.side ≡ true → is_area lot.kind ≡ true
  pub in_buffer : is_area lot.kind ≡ false → All (λ e. LiesInBuffer f e.span) lot.list.entries

-- each byte of an entry has the owner that its lot's side says
abbrev pub OwnersAgree : HartNo → List Owner → List Lot → Type 0
OwnersAgree me owners lots =
    (lot : Lot) (i : ℕ) (e : Entry) (x : ℕ) → IsEntryOf lots lot i e → covers e.span x ≡ true → owner_in owners x ≡ owner_of_side (map_id me lot.id i) lot.side

-- each entry of a lot that is lent is granted
abbrev pub AreGranted : DriverConfig → List Grant → List Lot → Type 0
AreGranted f grants lots =
    (lot : Lot) (i : ℕ) (e : Entry) → IsEntryOf lots lot i e → is_wanted lot.side ≡ false → In (grant_of f.slots_at lot (map_id f.me lot.id i) e) grants

-- a grant of this hart is that of an entry of a lot that is lent
pub record IsGrantOf (f : DriverConfig) (lots : List Lot) (g : Grant) : Type 0 where
  pub lot : Lot
  pub i : ℕ
  pub entry : Entry
  pub here : IsEntryOf lots lot i entry
  pub lent : is_wanted lot.side ≡ false
  pub is : g ≡ grant_of f.slots_at lot (map_id f.me lot.id i) entry

-- how many entries of these lots have a slot
abbrev pub times_held : ℕ → List Lot → ℕ
times_held word lots = count_by (λ k. k == word) (flat_map slots_held lots)

abbrev pub is_holder : HartNo → Option HartNo → Bool
is_holder me None = false
is_holder me (Some g) = g.0 == me.0

-- a slot word is the hart's exactly where one entry of its lots has that slot
abbrev pub WordsAgree : HartNo → List (Option HartNo) → List Lot → Type 0
WordsAgree me slots lots = (word : ℕ) → times_held word lots ≡ (if is_holder me (holder_of slots word) then 1 else 0)

-- the pages of an area are taken
abbrev pub IsTaken : PageMap → Lot → Type 0
IsTaken pool lot = is_area lot.kind ≡ true → coherent.pages_of pool (only_entry lot).span ≡ replicate (page_count (only_entry lot).span) false

abbrev pub PagesAgree : PageMap → List Lot → Type 0
PagesAgree pool lots = All (IsTaken pool) lots

-- ---- one hart, and all

-- a hart's lots agree with what all harts share
pub record HartAgrees (f : DriverConfig) (s : Held) : Type 0 where
  pub sides : All (FitsSide f) s.lots
  pub apart : EntriesAreApart s.lots
  pub owners : OwnersAgree f.me s.owners s.lots
  pub granted : AreGranted f s.grants s.lots
  pub words : WordsAgree f.me s.slots s.lots
  pub pages : PagesAgree s.pages s.lots
