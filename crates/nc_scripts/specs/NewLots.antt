-- What a start step finds of the bytes and the pages of the lots that it makes. This project's own.
use Rattle.std.specs.Prelude.{ℕ, ◌≡◌, true, if◌then◌else◌, List, [], ◌∷◌, map, flat_map, replicate, Ok, All}
use Rattle.nc_num.specs.Places.{covers}
use Rattle.nc_num.specs.declared.names.HartNo.{HartNo}
use Rattle.nc_num.specs.declared.places.Span.{Span}
use Rattle.nc_model.specs.Rights.{is_thread}
use Rattle.nc_model.specs.declared.owners.Owner.{Owner}
use Rattle.nc_own.specs.Books.{owner_in}
use Rattle.nc_coherent.specs.Pages.{PageMap, pages_of, page_count}
use Rattle.nc_ops.specs.declared.ops.Op.{Op}
use Rattle.nc_rules.specs.declared.lots.Lot.{Lot}
use Rattle.nc_rules.specs.Lots.{DriverConfig, only_entry}
use Rattle.nc_rules.specs.Turns.{is_area}
use Rattle.nc_rules.specs.Operations.{begin}

-- each byte of a range is the hart's own
abbrev pub IsOwned : HartNo → List Owner → Span → Type 0
IsOwned me owners range = (x : ℕ) → covers range x ≡ true → is_thread me (owner_in owners x) ≡ true

-- no byte is in both
abbrev pub AreDisjoint : Span → Span → Type 0
AreDisjoint a b = (x : ℕ) → covers a x ≡ true → covers b x ≡ true → ⊥

-- each byte of these ranges is the hart's own, and none is in two of them
abbrev pub AreOwned : HartNo → List Owner → List Span → Type 0
AreOwned me owners [] = Unit {0}
AreOwned me owners (r ∷ rs) = IsOwned me owners r × All (AreDisjoint r) rs × AreOwned me owners rs

-- the ranges of a lot that were the hart's before it
abbrev pub own_ranges : Lot → List Span
own_ranges lot = if is_area lot.kind then [] else map (λ e. e.span) lot.list.entries

-- the pages of an area are free
abbrev pub HasFreePages : PageMap → Lot → Type 0
HasFreePages pool lot = is_area lot.kind ≡ true → pages_of pool (only_entry lot).span ≡ replicate (page_count (only_entry lot).span) true

pub record AreFree (me : HartNo) (owners : List Owner) (pool : PageMap) (new : List Lot) : Type 0 where
  pub owned : AreOwned me owners (flat_map own_ranges new)
  pub pages : All (HasFreePages pool) new

-- the law: what a start step makes lots of was free for it
abbrev pub NewLotsAreFree : Type 0
NewLotsAreFree =
    (f : DriverConfig) (lots new : List Lot) (owners : List Owner) (pool : PageMap) (o : Op) → begin f lots owners pool o ≡ Ok new → AreFree f.me owners pool new
