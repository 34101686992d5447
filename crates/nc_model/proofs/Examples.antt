-- The definitions at worked examples, computed.
use Rattle.std.proofs.Common.{◌≡◌, ℕ, true, false, List, [], ◌∷◌, Some, None, refl}
use Rattle.nc_num.specs.declared.names.ChanNo.{ChanNo}
use Rattle.nc_num.specs.declared.names.Dir.{Dir}
use Rattle.nc_num.specs.declared.names.Dir.TheVariants.{Both, ToDev, FromDev}
use Rattle.nc_num.specs.declared.names.HartNo.{HartNo}
use Rattle.nc_num.specs.declared.names.MapId.{MapId}
use Rattle.nc_num.specs.declared.names.MemType.TheVariants.{Pma, Nc}
use Rattle.nc_num.specs.declared.places.Span.{Span}
use Rattle.nc_model.specs.Flat.{named, channel_name, flat}
use Rattle.nc_model.specs.Owners.{owner_at}
use Rattle.nc_model.specs.Rights.{hart_may, channel_may, resolve, stands_for}
use Rattle.nc_model.specs.Touches.{first_fault, channel_touch, piece_touch, discard_touch, register_touch}
use Rattle.nc_model.specs.declared.deeds.Deed.TheVariants as deed
use Rattle.nc_model.specs.declared.owners.Access.TheVariants.{Read, Write}
use Rattle.nc_model.specs.declared.owners.Actor.TheVariants.{Hart, Chan}
use Rattle.nc_model.specs.declared.owners.Grant.{Grant}
use Rattle.nc_model.specs.declared.owners.Owner.{Owner}
use Rattle.nc_model.specs.declared.owners.Owner.TheVariants.{Thread, Device, Synced, Pool}
use Rattle.nc_model.specs.declared.touches.Touch.{Touch}
use Rattle.nc_model.specs.declared.touches.TouchKind.{TouchKind}
use Rattle.nc_model.specs.declared.touches.TouchKind.TheVariants as kind

abbrev hart : ℕ → HartNo
hart h = record { 0 = h }

abbrev chan : ℕ → ChanNo
chan c = record { 0 = c }

abbrev run : ℕ → ℕ → Span
run at len = record { at = at; len = len }

abbrev mapping : ℕ → ℕ → MapId
mapping h label = record { hart = hart h; label = record { 0 = label }; entry = 0 }

abbrev grant : ℕ → ℕ → ℕ → ℕ → Dir → Grant
grant label at device len dir = record { id = mapping 0 label; buffer = run at len; device = run device len; dir = dir; chan = chan 0 }

abbrev touch : TouchKind → ℕ → ℕ → ℕ → Owner → Touch
touch what h at len owner = record { kind = what; who = Hart (hart h); span = run at len; holder = owner }

-- two buffers, the first mapped to the device as 1, the second from it as 2, and a third through a slot as 3
abbrev grants : List Grant
grants = grant 1 4096 4096 64 ToDev ∷ grant 2 8192 8192 64 FromDev ∷ grant 3 12289 32769 8 Both ∷ []

abbrev transfers : List (Span × Owner)
transfers = (run 12289 8, Device (mapping 0 3)) ∷ (run 8192 64, Device (mapping 0 2)) ∷ (run 4096 64, Device (mapping 0 1)) ∷ (run 4096 8204, Thread (hart 0)) ∷ []

abbrev owners : ℕ → Owner
owners x = owner_at transfers x

newest : (owners 8192 ≡ Device (mapping 0 2)) × (owners 8256 ≡ Thread (hart 0)) × (owners 0 ≡ Pool) × (owners 32769 ≡ Pool)
newest = (refl, refl, refl, refl)

stale_read : piece_touch owners grants (run 49152 8192) (hart 0) Read (run 8192 1) Pma ≡ Some (touch kind.Load 0 8192 1 (Device (mapping 0 2)))
unfolding first_fault
stale_read = refl

-- the first byte at fault, and not the span's first or last
crosses : piece_touch owners grants (run 49152 8192) (hart 0) Write (run 8184 80) Nc ≡ Some (touch kind.Store 0 8184 80 (Device (mapping 0 2)))
unfolding first_fault
crosses = refl

alias : piece_touch owners grants (run 49152 8192) (hart 0) Read (run 4160 8) Nc ≡ Some (touch kind.Alias 0 4160 8 (Thread (hart 0)))
unfolding first_fault
alias = refl

no_touch : piece_touch owners grants (run 49152 8192) (hart 0) Write (run 4160 8) Pma ≡ None
unfolding first_fault
no_touch = refl

-- a transaction through a slot, within the device range and past its end
through_slot : (channel_touch owners grants (chan 0) Write (run 32769 8) ≡ None) × (resolve grants (chan 0) 32770 ≡ Some (mapping 0 3, record { 0 = 12290 })) × (stands_for grants 32777 ≡ 32777)
unfolding first_fault
through_slot = (refl, refl, refl)

past_the_range : channel_touch owners grants (chan 0) Read (run 32769 9) ≡ Some (record { kind = kind.Channel; who = Chan (chan 0); span = run 32769 9; holder = Pool })
unfolding first_fault
past_the_range = refl

-- another channel finds the owner of the buffer's byte, and no mapping
other_channel : (channel_touch owners grants (chan 1) Read (run 32769 8) ≡ Some (record { kind = kind.Channel; who = Chan (chan 1); span = run 32769 8; holder = Device (mapping 0 3) })) × (resolve grants (chan 1) 32769 ≡ None)
unfolding first_fault
other_channel = (refl, refl)

against_direction : (channel_may owners grants (chan 0) Write 4096 ≡ false) × (channel_may owners grants (chan 0) Read 4096 ≡ true) × (channel_may owners grants (chan 0) Read 8192 ≡ false)
against_direction = (refl, refl, refl)

synced : (hart_may grants (hart 0) Write (Synced (mapping 0 2)) ≡ false) × (hart_may grants (hart 0) Read (Synced (mapping 0 2)) ≡ true) × (hart_may grants (hart 0) Write (Synced (mapping 0 1)) ≡ true)
    × (hart_may grants (hart 1) Read (Synced (mapping 0 1)) ≡ false) × (hart_may grants (hart 0) Read (Synced (mapping 0 9)) ≡ false)
synced = (refl, refl, refl, refl, refl)

discard : discard_touch (λ x. Thread (hart 0)) (hart 0) (run 0 64) ≡ touch kind.Discard 0 0 64 (Thread (hart 0))
unfolding first_fault
discard = refl

discard_other : discard_touch owners (hart 0) (run 8128 128) ≡ touch kind.Discard 0 8128 128 (Device (mapping 0 2))
unfolding first_fault
discard_other = refl

foreign_register : register_touch (hart 1) (chan 0) 0 4 (Some (hart 0)) ≡ Some (touch kind.Register 1 0 4 (Thread (hart 0)))
foreign_register = refl

-- a store to the buffer and a write through the slot, whose byte is named by the buffer's place
flat_bytes : flat (0 ∷ 1 ∷ 2 ∷ []) (deed.Write (named 1 (9 ∷ 8 ∷ [])) ∷ deed.Read (named 0 (0 ∷ [])) ∷ deed.Write (named 2 (7 ∷ [])) ∷ []) ≡ 0 ∷ 9 ∷ 7 ∷ []
flat_bytes = refl

by_buffer : (channel_name grants (chan 0) 32770 ≡ 12290) × (channel_name grants (chan 1) 32770 ≡ 32770)
by_buffer = (refl, refl)
