-- The refusals that several operations have, each a check. An operation is a chain of checks, of which the first that
-- fails answers. This project's own, after the errors of the Linux DMA API where there are any.
use Rattle.std.specs.Prelude.{ℕ, ◌+◌, ◌==◌, ◌&&◌, not, Bool, true, false, nat_le, if◌then◌else◌, List, [], ◌∷◌, Option, Some, None, Result, Ok, Err, slice_index_or}
use Rattle.std.specs.List.{list_any}
use Rattle.nc_num.specs.declared.names.Dir.{Dir}
use Rattle.nc_num.specs.declared.names.HartNo.{HartNo}
use Rattle.nc_num.specs.declared.names.Label.{Label}
use Rattle.nc_num.specs.declared.places.Span.{Span}
use Rattle.nc_env.specs.declared.CboOp.{CboOp}
use Rattle.nc_env.specs.declared.Illegal.{Illegal}
use Rattle.nc_plan.specs.declared.effects.CboOff.{CboOff}
use Rattle.nc_plan.specs.declared.effects.Effects.{Effects}
use Rattle.nc_plan.specs.Effects.{needs}
use Rattle.nc_plan.specs.Parts.{is_too_big}
use Rattle.nc_model.specs.declared.owners.Owner.{Owner}
use Rattle.nc_model.specs.declared.owners.Owner.TheVariants.{Lending}
use Rattle.nc_model.specs.Rights.{is_thread}
use Rattle.nc_model.specs.Touches.{first_fault}
use Rattle.nc_own.specs.Books.{owner_in, transferred}
use Rattle.nc_sg.specs.declared.list.Entry.{Entry}
use Rattle.nc_ops.specs.declared.ops.SgEntry.{SgEntry}
use Rattle.nc_rules.specs.declared.answers.Refusal.{Refusal}
use Rattle.nc_rules.specs.declared.answers.Refusal.TheVariants as refusals
use Rattle.nc_rules.specs.declared.lots.Kind.{Kind}
use Rattle.nc_rules.specs.declared.lots.Lot.{Lot}
use Rattle.nc_rules.specs.declared.lots.LotId.{LotId}
use Rattle.nc_rules.specs.Lots.{DriverConfig, is_labelled, lot_named, map_id, some_lot_waits}

infixl 10 ◌>>=◌
abbrev pub ◌>>=◌ : {A B : Type 0} → Result A Refusal → (A → Result B Refusal) → Result B Refusal
(Ok x) >>= f = f x
(Err e) >>= f = Err e

-- refused so, unless the test holds
abbrev pub wanted : Refusal → Bool → Result (Unit {0}) Refusal
wanted r true = Ok tt
wanted r false = Err r

-- refused so where there is none
abbrev pub some_or : {A : Type 0} → Refusal → Option A → Result A Refusal
some_or r None = Err r
some_or r (Some x) = Ok x

abbrev pub some_bytes : ℕ → Result (Unit {0}) Refusal
some_bytes len = wanted refusals.Empty (not (len == 0))

-- ---- ranges

abbrev pub buffer_of : DriverConfig → ℕ → Span
buffer_of f buf = slice_index_or f.buffers buf (record { at = 0; len = 0 })

-- so many bytes of a range, from an offset in it on
abbrev pub part_of : Span → ℕ → ℕ → Result Span Refusal
part_of range off len = if nat_le (off + len) range.len then Ok (record { at = range.at + off; len = len }) else Err refusals.BadRange

-- each of these entries has bytes
abbrev pub all_some : List SgEntry → Result (Unit {0}) Refusal
all_some [] = Ok tt
all_some (e ∷ es) = some_bytes e.len >>= λ _. all_some es

-- their ranges, each of which ends in its buffer
abbrev pub ranges_of : DriverConfig → List SgEntry → Result (List Span) Refusal
ranges_of f [] = Ok []
ranges_of f (e ∷ es) = part_of (buffer_of f e.buf) e.off e.len >>= λ range. ranges_of f es >>= λ ranges. Ok (range ∷ ranges)

-- ---- labels

abbrev pub unused : List Lot → Label → Result (Unit {0}) Refusal
unused lots label = wanted refusals.LabelUsed (not (list_any (is_labelled label) lots))

-- the lot of this label and kind
abbrev pub named : List Lot → Label → Kind → Result Lot Refusal
named lots label kind = some_or refusals.NoLabel (lot_named lots label kind)

-- ---- owners

-- each byte of a range is the hart's own; else the first other owner is told
abbrev pub owned_but : List Owner → Option ℕ → Result (Unit {0}) Refusal
owned_but owners None = Ok tt
owned_but owners (Some x) = Err (refusals.NotYours (owner_in owners x))

abbrev pub owned : HartNo → List Owner → Span → Result (Unit {0}) Refusal
owned me owners range = owned_but owners (first_fault (λ x. is_thread me (owner_in owners x)) range)

-- the same of several ranges that are to be lent together, range after range: those before are taken as lent already
abbrev pub owned_from : HartNo → LotId → ℕ → List Owner → List Span → Result (Unit {0}) Refusal
owned_from me id i owners [] = Ok tt
owned_from me id i owners (range ∷ ranges) =
    owned me owners range >>= λ _. owned_from me id (i + 1) (transferred owners range (Lending (map_id me id i))) ranges

-- ---- cache operations (CMO 1.0)

-- an operation of a script that the hart may not do
abbrev pub legal : Result CboOp Illegal → Result CboOp Refusal
legal (Ok op) = Ok op
legal (Err illegal) = Err (refusals.IllegalCbo illegal.0)

-- an operation that a plan needs
abbrev pub planned : Result (Unit {0}) CboOff → Result (Unit {0}) Refusal
planned (Ok _) = Ok tt
planned (Err off) = Err (refusals.CboOff off.0)

-- the operations of both plans of a direction
abbrev pub lendable : Effects → Dir → Result (Unit {0}) Refusal
lendable e dir = planned (needs e dir)

-- ---- slots

-- an entry that bounces finds no room in a slot
abbrev pub is_big : Entry → Bool
is_big e = e.bounced && is_too_big e.span

abbrev pub has_big : Lot → Bool
has_big lot = list_any is_big lot.list.entries

-- each entry that bounces finds room in a slot
abbrev pub small_enough : List Lot → Result (Unit {0}) Refusal
small_enough lots = wanted refusals.TooBig (not (list_any has_big lots))

-- where a slot is wanted there are slots
abbrev pub slots_there : DriverConfig → List Lot → Result (Unit {0}) Refusal
slots_there f lots = wanted refusals.NoSlot (not (some_lot_waits lots && f.slots == 0))

-- what is asked of new lots last
abbrev pub placeable : DriverConfig → List Lot → Result (List Lot) Refusal
placeable f lots = small_enough lots >>= λ _. slots_there f lots >>= λ _. Ok lots
