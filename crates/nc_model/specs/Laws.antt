-- The laws, as statements.
use Rattle.std.specs.Prelude.{ℕ, ◌≡◌, ◌⊎◌, ◌↔◌, ◌+◌, ◌<◌, ◌≤◌, Bool, true, false, ◌==◌, List, [], ◌∷◌, ◌++◌, length, Option, Some, None, if◌then◌else◌}
use Rattle.std.specs.List.{list_any, find}
use Rattle.nc_num.specs.Memory.{byte, splice, span}
use Rattle.nc_num.specs.Places.{covers}
use Rattle.nc_num.specs.declared.names.ChanNo.{ChanNo}
use Rattle.nc_num.specs.declared.names.HartNo.{HartNo}
use Rattle.nc_num.specs.declared.names.MapId.{MapId}
use Rattle.nc_num.specs.declared.names.MemType.{MemType}
use Rattle.nc_num.specs.declared.places.Place.{Place}
use Rattle.nc_num.specs.declared.places.Span.{Span}
use Rattle.nc_model.specs.Flat.{named, written, flat, Shows, TraceItem, Touched, Untouched, Latest, ShowsFlat, deeds}
use Rattle.nc_model.specs.Grants.{IsGrants, CanAdd, without}
use Rattle.nc_model.specs.Owners.{owner_at, covered}
use Rattle.nc_model.specs.Rights.{hart_may, synced_may, is_device, device_may, has_device, grant_of, buffer_place, serves, served_by, resolve, stands_for}
use Rattle.nc_model.specs.Touches.{first_fault, rights_touch, alias_touch, channel_touch, is_its_type}
use Rattle.nc_model.specs.declared.deeds.Deed.{Deed}
use Rattle.nc_model.specs.declared.deeds.Deed.TheVariants.{Read, Write}
use Rattle.nc_model.specs.declared.owners.Access.{Access}
use Rattle.nc_model.specs.declared.owners.Grant.{Grant}
use Rattle.nc_model.specs.declared.owners.Owner.{Owner}
use Rattle.nc_model.specs.declared.owners.Owner.TheVariants.{Thread, Synced}

-- the newest transfer that covers a place wins
pub record NewestWins (t : Span × Owner) (ts : List (Span × Owner)) (x : ℕ) : Type 0 where
  pub inside : covers t.0 x ≡ true → owner_at (t ∷ ts) x ≡ t.1
  pub outside : covers t.0 x ≡ false → owner_at (t ∷ ts) x ≡ owner_at ts x

abbrev pub EachNewestWins : Type 0
EachNewestWins = (t : Span × Owner) (ts : List (Span × Owner)) (x : ℕ) → NewestWins t ts x

-- older transfers count where no later one covers
abbrev pub LaterWin : Type 0
LaterWin = (ts us : List (Span × Owner)) (x : ℕ) → owner_at (ts ++ us) x ≡ (if covered ts x then owner_at ts x else owner_at us x)

-- of one owner's bytes at most one hart may use any, and none where a channel may
pub record OneMay (grants : List Grant) (h : HartNo) (access : Access) (owner : Owner) : Type 0 where
  pub harts : (g : HartNo) (other : Access) → hart_may grants h access owner ≡ true → hart_may grants g other owner ≡ true → h.0 ≡ g.0
  pub device : (m : MapId) → hart_may grants h access owner ≡ true → is_device m owner ≡ false

abbrev pub EachOneMay : Type 0
EachOneMay = (grants : List Grant) (h : HartNo) (access : Access) (owner : Owner) → OneMay grants h access owner

-- the first fault: every byte passes where there is none; else it is in the span, fails, and all before it pass
abbrev pub IsFault : (ℕ → Bool) → Span → Option ℕ → Type 0
IsFault may s None = (x : ℕ) → covers s x ≡ true → may x ≡ true
IsFault may s (Some x) = (covers s x ≡ true) × (may x ≡ false) × ((y : ℕ) → s.at ≤ y → y < x → may y ≡ true)

abbrev pub EachIsFault : Type 0
EachIsFault = (may : ℕ → Bool) (s : Span) → IsFault may s (first_fault may s)

-- an owner whose bytes a hart may use: its own thread, or a mapping of its own that is synced for it and allows it
abbrev pub HartUses : List Grant → HartNo → Access → Owner → Type 0
HartUses grants h access owner =
    (owner ≡ Thread h) ⊎ ((m : MapId) × (owner ≡ Synced m) × (m.hart.0 ≡ h.0) × (synced_may access (grant_of grants m) ≡ true))

-- a place that a channel may use: a grant of its own serves it, whose mapping owns the byte, and which allows it
pub record ChannelUses (owners : ℕ → Owner) (grants : List Grant) (c : ChanNo) (access : Access) (x : ℕ) : Type 0 where
  pub grant : Grant
  pub serves : served_by grants c x ≡ Some grant
  pub owner : is_device grant.id (owners (buffer_place grant x)) ≡ true
  pub allows : device_may access grant.dir ≡ true

-- where an access is no touch, each of its bytes may be used so
pub record IsAllowed (owners : ℕ → Owner) (grants : List Grant) : Type 0 where
  pub hart : (h : HartNo) (access : Access) (s : Span) → rights_touch owners grants h access s ≡ None → (x : ℕ) → covers s x ≡ true → HartUses grants h access (owners x)
  pub type : (pool : Span) (h : HartNo) (s : Span) (type : MemType) → alias_touch owners pool h s type ≡ None → (x : ℕ) → covers s x ≡ true → is_its_type pool type x ≡ true
  pub channel : (c : ChanNo) (access : Access) (s : Span) → channel_touch owners grants c access s ≡ None → (x : ℕ) → covers s x ≡ true → ChannelUses owners grants c access x

abbrev pub EachIsAllowed : Type 0
EachIsAllowed = (owners : ℕ → Owner) (grants : List Grant) → IsAllowed owners grants

-- a place is resolved exactly where it lies in a device range of the channel
abbrev pub IsResolved : Type 0
IsResolved = (grants : List Grant) (c : ChanNo) (x : ℕ) → (resolve grants c x ≡ None) ↔ (list_any (serves c x) grants ≡ false)

-- the grant that serves a place is the one whose device range has it, and the one of its mapping
pub record OneGrant (grants : List Grant) (x : ℕ) (g : Grant) : Type 0 where
  pub device : find (has_device x) grants ≡ Some g
  pub stands : stands_for grants x ≡ buffer_place g x
  pub mapping : grant_of grants g.id ≡ Some g

abbrev pub EachOneGrant : Type 0
EachOneGrant = (ram : ℕ) (grants : List Grant) (c : ChanNo) (x : ℕ) (g : Grant) → IsGrants ram grants → served_by grants c x ≡ Some g → OneGrant grants x g

-- grants that are apart stay so when one that may be added is added, and when one is taken out
pub record StayApart (ram : ℕ) (grants : List Grant) : Type 0 where
  pub added : (g : Grant) → CanAdd ram grants g → IsGrants ram (grants ++ g ∷ [])
  pub removed : (m : MapId) → IsGrants ram (without grants m)

abbrev pub EachStayApart : Type 0
EachStayApart = (ram : ℕ) (grants : List Grant) → IsGrants ram grants → StayApart ram grants

-- the accesses of two lists, one after the other
abbrev pub FlatInOrder : Type 0
FlatInOrder = (m : List ℕ) (ds es : List Deed) → flat m (ds ++ es) ≡ flat (flat m ds) es

abbrev pub names : ℕ → List (Place × ℕ) → Bool
names x bytes = list_any (λ p. p.0.0 == x) bytes

abbrev pub writes : ℕ → Deed → Bool
writes x (Read bytes) = false
writes x (Write bytes) = names x bytes

-- a byte that no access writes stays
abbrev pub OthersStay : Type 0
OthersStay = (m : List ℕ) (ds : List Deed) (x : ℕ) → list_any (writes x) ds ≡ false → byte (flat m ds) x ≡ byte m x

-- bytes named by their own places, written and read
pub record Spliced (m : List ℕ) (at : ℕ) (bytes : List ℕ) : Type 0 where
  pub write : written m (named at bytes) ≡ splice m at bytes
  pub read : Shows m (named at bytes) ↔ (bytes ≡ span m at (length bytes))

abbrev pub EachSpliced : Type 0
EachSpliced = (m : List ℕ) (at : ℕ) (bytes : List ℕ) → at + length bytes ≤ length m → Spliced m at bytes

-- the two readings of "each read shows flat memory"
abbrev pub LatestByNumber : Type 0
LatestByNumber = (m : List ℕ) (ms : List TraceItem) → Latest m ms ↔ ShowsFlat m ms

-- a trace without a touch, and one behind it: the latter starts from the flat memory that the former leaves
abbrev pub LatestInTwo : Type 0
LatestInTwo = (m : List ℕ) (ms ns : List TraceItem) → Untouched ms → Latest m (ms ++ ns) ↔ (Latest m ms × Latest (flat m (deeds ms)) ns)

-- nothing is said of what stands behind a touch
abbrev pub EndsAtTouch : Type 0
EndsAtTouch = (m : List ℕ) (ms ns : List TraceItem) → Latest m (ms ++ Touched ∷ ns) ↔ Latest m ms
