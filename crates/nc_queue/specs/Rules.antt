-- A store queue is a list of entries, the oldest first: what it gives, and what may drain from it. The rules are this
-- project's own, but for the order that markers keep (RISC-V, FENCE).
use Rattle.std.specs.Prelude.{ℕ, suc, Bool, true, false, ◌&&◌, ◌||◌, not, if◌then◌else◌, List, [], ◌∷◌, Option, Some, None, option_and_then, slice_get, take, is_some}
use Rattle.std.specs.List.{list_any}
use Rattle.std.specs.Option.{option_or, option_map}
use Rattle.nc_num.specs.declared.names.MemType.{MemType}
use Rattle.nc_queue.specs.Entries.{is_io, is_o, in_set, block_of, has_block, entry_gives, lends_label}
use Rattle.nc_queue.specs.declared.entry.Entry.{Entry}
use Rattle.nc_queue.specs.declared.entry.Entry.TheVariants.{Store, Cbo, Reg, Mail, Lend, Mark}

-- the byte that the newest entry gives for a place
unfoldable pub gives : ℕ → List Entry → ℕ → Option ℕ
gives s [] x = None
gives s (e ∷ q) x = option_or (gives s q x) (entry_gives s e x)

-- the number of the newest entry that gives the byte
abbrev pub first_if : Bool → Option ℕ
first_if true = Some 0
first_if false = None

unfoldable pub newest : ℕ → List Entry → ℕ → Option ℕ
newest s [] x = None
newest s (e ∷ q) x = option_or (option_map suc (newest s q x)) (first_if (is_some (entry_gives s e x)))

-- the byte that the entry of a number gives
abbrev pub given_at : ℕ → List Entry → ℕ → ℕ → Option ℕ
given_at s q x i = option_and_then (λ e. entry_gives s e x) (slice_get q i)

-- an entry of a class in the set
abbrev pub any_in : List Entry → ℕ → Bool
any_in q set = list_any (λ e. in_set e set) q

-- an entry of a block, if it is one
abbrev pub meets : ℕ → List Entry → Option ℕ → Bool
meets s q None = false
meets s q (Some b) = list_any (λ e. has_block s b e) q

-- a marker orders e behind a: a is of its predecessor set, and e of its successor set
abbrev pub orders : Entry → Entry → Entry → Bool
orders (Mark pred succ) a e = in_set a pred && in_set e succ
orders (Store span bytes kind) a e = false
orders (Cbo block op) a e = false
orders (Reg chan off width value) a e = false
orders (Mail buf to) a e = false
orders (Lend label first count) a e = false

-- some marker holds back an entry that comes behind these: it orders that entry behind one before itself
unfoldable pub held_back : List Entry → Entry → Bool
held_back [] e = false
held_back (a ∷ q) e = list_any (λ m. orders m a e) q || held_back q e

-- an entry that is not a marker may drain behind these: none of them has its block, of two entries of class O the
-- older goes first, and no marker holds it back
abbrev pub is_free : ℕ → List Entry → Entry → Bool
is_free s before e = not (meets s before (block_of s e)) && not (is_o e && list_any is_o before) && not (held_back before e)

-- a marker may drain behind these: none of them is of its predecessor set
abbrev pub may_leave : ℕ → List Entry → Entry → Bool
may_leave s before (Mark pred succ) = not (any_in before pred)
may_leave s before (Store span bytes kind) = is_free s before (Store span bytes kind)
may_leave s before (Cbo block op) = is_free s before (Cbo block op)
may_leave s before (Reg chan off width value) = is_free s before (Reg chan off width value)
may_leave s before (Mail buf to) = is_free s before (Mail buf to)
may_leave s before (Lend label first count) = is_free s before (Lend label first count)

abbrev pub leaves : ℕ → List Entry → Option Entry → Bool
leaves s before None = false
leaves s before (Some e) = may_leave s before e

-- entry i may drain
unfoldable pub may_drain : ℕ → List Entry → ℕ → Bool
may_drain s q i = leaves s (take i q) (slice_get q i)

-- entry i, where it may drain
unfoldable pub drained : ℕ → List Entry → ℕ → Option Entry
drained s q i = if may_drain s q i then slice_get q i else None

-- a load of a type may be performed: one of type IO waits for class O
abbrev pub may_load : List Entry → MemType → Bool
may_load q kind = not (is_io kind && list_any is_o q)

-- a token of the label is queued
abbrev pub lends : List Entry → ℕ → Bool
lends q label = list_any (λ e. lends_label label e) q
