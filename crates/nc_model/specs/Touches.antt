-- Touches: accesses out of turn (this project's own).
use Rattle.std.specs.Prelude.{ℕ, ◌+◌, ◌*◌, Bool, true, false, not, ◌==◌, List, Option, Some, None, if◌then◌else◌}
use Rattle.std.specs.List.{find, range_with_len}
use Rattle.std.specs.Option.{option_or}
use Rattle.nc_num.specs.Places.{covers}
use Rattle.nc_num.specs.declared.names.ChanNo.{ChanNo}
use Rattle.nc_num.specs.declared.names.HartNo.{HartNo}
use Rattle.nc_num.specs.declared.names.MemType.{MemType}
use Rattle.nc_num.specs.declared.names.MemType.TheVariants.{Pma, Nc, Io}
use Rattle.nc_num.specs.declared.places.Span.{Span}
use Rattle.nc_model.specs.Rights.{hart_may, is_thread, stands_for, channel_may}
use Rattle.nc_model.specs.declared.owners.Access.{Access}
use Rattle.nc_model.specs.declared.owners.Access.TheVariants.{Read, Write}
use Rattle.nc_model.specs.declared.owners.Actor.{Actor}
use Rattle.nc_model.specs.declared.owners.Actor.TheVariants.{Hart, Chan}
use Rattle.nc_model.specs.declared.owners.Grant.{Grant}
use Rattle.nc_model.specs.declared.owners.Owner.{Owner}
use Rattle.nc_model.specs.declared.owners.Owner.TheVariants.{Thread}
use Rattle.nc_model.specs.declared.touches.Touch.{Touch}
use Rattle.nc_model.specs.declared.touches.TouchKind.{TouchKind}
use Rattle.nc_model.specs.declared.touches.TouchKind.TheVariants as kind

-- the first place of a span that the test does not pass
unfoldable pub first_fault : (ℕ → Bool) → Span → Option ℕ
first_fault may span = find (λ x. not (may x)) (range_with_len span.at span.len)

-- a touch of a span whose first byte at fault is here; without a fault there is none
abbrev pub touch_at : TouchKind → Actor → Span → (ℕ → Owner) → Option ℕ → Option Touch
touch_at what who span owners None = None
touch_at what who span owners (Some x) = Some (record { kind = what; who = who; span = span; holder = owners x })

abbrev pub kind_of : Access → TouchKind
kind_of Read = kind.Load
kind_of Write = kind.Store

-- a hart's access to bytes that are not its own
abbrev pub rights_touch : (ℕ → Owner) → List Grant → HartNo → Access → Span → Option Touch
rights_touch owners grants h access span = touch_at (kind_of access) (Hart h) span owners (first_fault (λ x. hart_may grants h access (owners x)) span)

-- a channel's transaction, whose bytes stand for those of buffers
abbrev pub channel_touch : (ℕ → Owner) → List Grant → ChanNo → Access → Span → Option Touch
channel_touch owners grants c access span =
    touch_at kind.Channel (Chan c) span (λ x. owners (stands_for grants x)) (first_fault (channel_may owners grants c access) span)

-- an access outside the owner table
abbrev pub owner_touch : (ℕ → Owner) → List Grant → Actor → Access → Span → Option Touch
owner_touch owners grants (Hart h) access span = rights_touch owners grants h access span
owner_touch owners grants (Chan c) access span = channel_touch owners grants c access span

abbrev pub is_pma : MemType → Bool
is_pma Pma = true
is_pma Nc = false
is_pma Io = false

abbrev pub is_nc : MemType → Bool
is_nc Pma = false
is_nc Nc = true
is_nc Io = false

-- bytes of the coherent pool are accessed as NC, all others as PMA
abbrev pub is_its_type : Span → MemType → ℕ → Bool
is_its_type pool type x = if covers pool x then is_nc type else is_pma type

abbrev pub alias_touch : (ℕ → Owner) → Span → HartNo → Span → MemType → Option Touch
alias_touch owners pool h span type = touch_at kind.Alias (Hart h) span owners (first_fault (is_its_type pool type) span)

-- a piece of a script's load or store: a fault of ownership goes before the memory type
abbrev pub piece_touch : (ℕ → Owner) → List Grant → Span → HartNo → Access → Span → MemType → Option Touch
piece_touch owners grants pool h access span type = option_or (rights_touch owners grants h access span) (alias_touch owners pool h span type)

-- a script's zero of a block
abbrev pub zero_touch : (ℕ → Owner) → List Grant → HartNo → Span → Option Touch
zero_touch owners grants h block = rights_touch owners grants h Write block

abbrev pub discard_holder : (ℕ → Owner) → HartNo → Option ℕ → Owner
discard_holder owners h None = Thread h
discard_holder owners h (Some x) = owners x

-- a script's invalidate of a block: always a touch; its holder is the first other owner, where there is one
abbrev pub discard_touch : (ℕ → Owner) → HartNo → Span → Touch
discard_touch owners h block =
    record { kind = kind.Discard; who = Hart h; span = block; holder = discard_holder owners h (first_fault (λ x. is_thread h (owners x)) block) }

abbrev pub register_span : ChanNo → ℕ → ℕ → Span
register_span c off width = record { at = c.0 * 4096 + off; len = width }

-- a register access to a channel that is granted to another hart
abbrev pub register_touch : HartNo → ChanNo → ℕ → ℕ → Option HartNo → Option Touch
register_touch h c off width None = None
register_touch h c off width (Some g) =
    if g.0 == h.0 then None else Some (record { kind = kind.Register; who = Hart h; span = register_span c off width; holder = Thread g })
