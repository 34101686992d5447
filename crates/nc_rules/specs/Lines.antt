-- The report: a line for each record, then the buffers, the scripts that are not at their end, and the counts; and the
-- status of a run. This project's own.
use Rattle.std.specs.Prelude.{ℕ, ◌+◌, ◌-◌, List, [], ◌∷◌, ◌++◌, length, replicate, codes, decimal, Bool, true, false, is_none, nat_lt, if◌then◌else◌, Option, Some, None}
use Rattle.std.specs.Fmt.{digits}
use Rattle.std.specs.List.{flat_map, list_all}
use Rattle.hex.specs.Hex.{encode_lower}
use Rattle.nc_num.specs.declared.names.HartNo.{HartNo}
use Rattle.nc_num.specs.declared.names.MapId.{MapId}
use Rattle.nc_num.specs.declared.places.Place.{Place}
use Rattle.nc_env.specs.declared.CboOp.{CboOp}
use Rattle.nc_env.specs.declared.CboOp.TheVariants as cbos
use Rattle.nc_env.specs.declared.Field.{Field}
use Rattle.nc_env.specs.declared.Field.TheVariants as fields
use Rattle.nc_cache.specs.declared.line.Origin.{Origin}
use Rattle.nc_cache.specs.declared.line.Origin.TheVariants as origins
use Rattle.nc_plan.specs.declared.ops.IoTarget.{IoTarget}
use Rattle.nc_plan.specs.declared.ops.IoTarget.TheVariants as io
use Rattle.nc_plan.specs.declared.segments.Segment.{Segment}
use Rattle.nc_slots.specs.declared.slots.TryAnswer.{TryAnswer}
use Rattle.nc_slots.specs.declared.slots.TryAnswer.TheVariants as tries
use Rattle.nc_model.specs.declared.owners.Actor.{Actor}
use Rattle.nc_model.specs.declared.owners.Actor.TheVariants as actors
use Rattle.nc_model.specs.declared.owners.Owner.{Owner}
use Rattle.nc_model.specs.declared.owners.Owner.TheVariants as owners
use Rattle.nc_model.specs.declared.touches.TouchKind.{TouchKind}
use Rattle.nc_model.specs.declared.touches.TouchKind.TheVariants as kinds
use Rattle.nc_scen.specs.declared.events.Event.{Event}
use Rattle.nc_scen.specs.declared.events.Event.TheVariants as events
use Rattle.nc_values.specs.declared.refused.Refused.{Refused}
use Rattle.nc_values.specs.declared.refused.Refused.TheVariants as wrong
use Rattle.nc_scen.specs.declared.scenario.BufferSpec.{BufferSpec}
use Rattle.nc_scen.specs.declared.scenario.Scenario.{Scenario}
use Rattle.nc_rules.specs.declared.answers.Answer.{Answer}
use Rattle.nc_rules.specs.declared.answers.Answer.TheVariants as answers
use Rattle.nc_rules.specs.declared.answers.Refusal.{Refusal}
use Rattle.nc_rules.specs.declared.answers.Refusal.TheVariants as refusals
use Rattle.nc_rules.specs.declared.records.Record.{Record}
use Rattle.nc_rules.specs.declared.records.Record.TheVariants as records
use Rattle.nc_rules.specs.declared.records.ToldAnswer.{ToldAnswer}
use Rattle.nc_rules.specs.declared.records.ToldAnswer.TheVariants as tolds
use Rattle.nc_rules.specs.View.{bytes_of}
use Rattle.nc_rules.specs.Driver.{DriverState, left_op}
use Rattle.nc_rules.specs.World.{WorldState, start}
use Rattle.nc_rules.specs.Run as run

-- words with blanks between them, and a line feed
abbrev pub words : List (List ℕ) → List ℕ
words [] = 10 ∷ []
words (x ∷ []) = x ++ 10 ∷ []
words (x ∷ y ∷ rest) = x ++ 32 ∷ words (y ∷ rest)

-- words with blanks between them
abbrev pub phrase : List (List ℕ) → List ℕ
phrase [] = []
phrase (x ∷ []) = x
phrase (x ∷ y ∷ rest) = x ++ 32 ∷ phrase (y ∷ rest)

-- a number in lower-case hexadecimal digits, at least so many
abbrev pub hex_digits : ℕ → ℕ → List ℕ
hex_digits least n = let ds = digits 16 false n in replicate (least - length ds) 48 ++ ds

-- a place has six digits, a bus address and Control eight, an offset three, and a register's value sixteen
abbrev pub place : Place → List ℕ
place at = hex_digits 6 at.0

abbrev pub hart : HartNo → List ℕ
hart h = decimal h.0

abbrev pub token : Event → List ℕ
token (events.Issue h) = 105 ∷ hart h
token (events.Try h) = 116 ∷ hart h
token (events.Told h true) = 103 ∷ hart h
token (events.Told h false) = 110 ∷ hart h
token (events.Drain h i) = 100 ∷ hart h ++ 46 ∷ decimal i
token (events.Fill h b) = 102 ∷ hart h ++ 46 ∷ decimal b.0
token (events.Evict h b) = 101 ∷ hart h ++ 46 ∷ decimal b.0
token (events.ChanRead c) = 114 ∷ decimal c.0
token (events.ChanWrite c) = 119 ∷ decimal c.0

abbrev pub kind : TouchKind → List ℕ
kind kinds.Load = codes "load"
kind kinds.Store = codes "store"
kind kinds.Channel = codes "channel"
kind kinds.Register = codes "register"
kind kinds.Alias = codes "alias"
kind kinds.Discard = codes "discard"

abbrev pub actor : Actor → List ℕ
actor (actors.Hart h) = phrase (codes "hart" ∷ hart h ∷ [])
actor (actors.Chan c) = phrase (codes "chan" ∷ decimal c.0 ∷ [])

abbrev pub mapping : List ℕ → MapId → List ℕ
mapping word m = phrase (word ∷ hart m.hart ∷ decimal m.label.0 ∷ decimal m.entry ∷ [])

abbrev pub owner : Owner → List ℕ
owner (owners.Thread h) = phrase (codes "thread" ∷ hart h ∷ [])
owner (owners.Passing h g) = phrase (codes "passing" ∷ hart h ∷ hart g ∷ [])
owner (owners.Lending m) = mapping (codes "lending") m
owner (owners.Device m) = mapping (codes "device") m
owner (owners.Returning m) = mapping (codes "returning") m
owner (owners.Synced m) = mapping (codes "synced") m
owner owners.Pool = codes "pool"

abbrev pub operation : CboOp → List ℕ
operation cbos.Clean = codes "clean"
operation cbos.Flush = codes "flush"
operation cbos.Inval = codes "inval"
operation cbos.Zero = codes "zero"

abbrev pub field : Field → List ℕ
field fields.MCbie = codes "menvcfg.cbie"
field fields.MCbcfe = codes "menvcfg.cbcfe"
field fields.MCbze = codes "menvcfg.cbze"
field fields.SCbie = codes "senvcfg.cbie"
field fields.SCbcfe = codes "senvcfg.cbcfe"
field fields.SCbze = codes "senvcfg.cbze"

abbrev pub refusal : Refusal → List ℕ
refusal refusals.Empty = codes "empty"
refusal refusals.BadRange = codes "badrange"
refusal refusals.LabelUsed = codes "labelused"
refusal refusals.NoLabel = codes "nolabel"
refusal (refusals.NotYours o) = phrase (codes "notyours" ∷ owner o ∷ [])
refusal (refusals.CboOff f) = phrase (codes "cbooff" ∷ field f ∷ [])
refusal refusals.TooBig = codes "toobig"
refusal refusals.NoSlot = codes "noslot"
refusal (refusals.ChannelBusy g) = phrase (codes "channelbusy" ∷ hart g ∷ [])
refusal refusals.NoPbmt = codes "nopbmt"
refusal refusals.NoPage = codes "nopage"
refusal (refusals.BadCount n) = phrase (codes "badcount" ∷ decimal n ∷ [])
refusal (refusals.IllegalCbo f) = phrase (codes "illegal" ∷ field f ∷ [])
refusal (refusals.PageFault va bits) = phrase (codes "pagefault" ∷ hex_digits 8 va ∷ decimal bits ∷ [])
refusal (refusals.BadMmio off width) = phrase (codes "badmmio" ∷ hex_digits 3 off ∷ decimal width ∷ [])

-- a blank before each segment
abbrev pub segment : Segment → List ℕ
segment s = 32 ∷ hex_digits 8 s.bus ++ 58 ∷ decimal s.len

abbrev pub answer : Answer → List ℕ
answer (answers.Mapped bus) = phrase (codes "mapped" ∷ hex_digits 8 bus ∷ [])
answer answers.Unmapped = codes "unmapped"
answer answers.Cpu = codes "cpu"
answer answers.Dev = codes "dev"
answer (answers.Segments list) = phrase (codes "segments" ∷ decimal (length list) ∷ []) ++ flat_map segment list
answer (answers.NoSegments r) = phrase (codes "segments" ∷ decimal 0 ∷ refusal r ∷ [])
answer (answers.Allocated bus) = phrase (codes "allocated" ∷ hex_digits 8 bus ∷ [])
answer answers.Freed = codes "freed"
answer answers.Given = codes "given"
answer answers.Taken = codes "taken"
answer answers.Handed = codes "handed"
answer answers.Took = codes "took"
answer answers.Claimed = codes "claimed"
answer answers.Released = codes "released"
answer answers.Set = codes "set"
answer answers.Started = codes "started"
answer (answers.Done control) = phrase (codes "done" ∷ hex_digits 8 control ∷ [])
answer (answers.Error control) = phrase (codes "error" ∷ hex_digits 8 control ∷ [])
answer (answers.Value value) = phrase (codes "value" ∷ hex_digits 16 value ∷ [])
answer answers.Wrote = codes "wrote"
answer answers.CopyDone = codes "copydone"
answer (answers.CopyFailed control) = phrase (codes "copyfailed" ∷ hex_digits 8 control ∷ [])
answer (answers.Refused r) = refusal r

abbrev pub target : IoTarget → List ℕ
target (io.Reg chan off width value) = phrase (codes "reg" ∷ decimal chan.0 ∷ hex_digits 3 off ∷ hex_digits 16 value ∷ [])
target (io.Mail buf to) = phrase (codes "mail" ∷ decimal buf ∷ hart to ∷ [])
target (io.Lend label first count) = phrase (codes "lend" ∷ decimal label.0 ∷ decimal first ∷ decimal count ∷ [])

abbrev pub origin : Origin → List ℕ
origin (origins.Mem bytes) = phrase (codes "mem" ∷ encode_lower bytes ∷ [])
origin (origins.Hart g) = phrase (codes "hart" ∷ hart g ∷ [])
origin origins.Held = codes "held"

abbrev pub tried : TryAnswer → List ℕ
tried tries.Got = codes "got"
tried (tries.Held g) = phrase (codes "held" ∷ hart g ∷ [])

abbrev pub heard : ToldAnswer → List ℕ
heard tolds.Got = codes "got"
heard tolds.Miss = codes "miss"
heard (tolds.Held g) = phrase (codes "held" ∷ hart g ∷ [])

abbrev pub line : Record → List ℕ
line (records.Event e) = words (codes "e" ∷ token e ∷ [])
line (records.Touched t) = words (codes "touch" ∷ kind t.kind ∷ actor t.who ∷ hex_digits 6 t.span.at ∷ decimal t.span.len ∷ owner t.holder ∷ [])
line (records.Ld h at bytes) = words (codes "ld" ∷ hart h ∷ place at ∷ encode_lower bytes ∷ [])
line (records.St h at bytes) = words (codes "st" ∷ hart h ∷ place at ∷ encode_lower bytes ∷ [])
line (records.Pl h at bytes) = words (codes "pl" ∷ hart h ∷ place at ∷ encode_lower bytes ∷ [])
line (records.Ps h at bytes) = words (codes "ps" ∷ hart h ∷ place at ∷ encode_lower bytes ∷ [])
line (records.Cbo h op at) = words (codes "cbo" ∷ hart h ∷ operation op ∷ place at ∷ [])
line (records.Fence h pred succ) = words (codes "fence" ∷ hart h ∷ decimal pred ∷ decimal succ ∷ [])
line (records.Mark h pred succ) = words (codes "mark" ∷ hart h ∷ decimal pred ∷ decimal succ ∷ [])
line (records.Io h to) = words (codes "io" ∷ hart h ∷ target to ∷ [])
line (records.DrStore h at bytes) = words (codes "dr" ∷ hart h ∷ place at ∷ encode_lower bytes ∷ [])
line (records.DrCbo h op at) = words (codes "dr" ∷ hart h ∷ operation op ∷ place at ∷ [])
line (records.DrIo h to) = words (codes "dr" ∷ hart h ∷ target to ∷ [])
line (records.DrMark h) = words (codes "dr" ∷ hart h ∷ codes "mark" ∷ [])
line (records.Fill h at from) = words (codes "fill" ∷ hart h ∷ place at ∷ origin from ∷ [])
line (records.Own h at from) = words (codes "own" ∷ hart h ∷ place at ∷ origin from ∷ [])
line (records.Wb h at bytes) = words (codes "wb" ∷ hart h ∷ place at ∷ encode_lower bytes ∷ [])
line (records.Drop h at) = words (codes "drop" ∷ hart h ∷ place at ∷ [])
line (records.Cr chan at bytes) = words (codes "cr" ∷ decimal chan.0 ∷ place at ∷ encode_lower bytes ∷ [])
line (records.Cw chan at bytes) = words (codes "cw" ∷ decimal chan.0 ∷ place at ∷ encode_lower bytes ∷ [])
line (records.Cd chan) = words (codes "cd" ∷ decimal chan.0 ∷ [])
line (records.Ce chan bus len) = words (codes "ce" ∷ decimal chan.0 ∷ hex_digits 16 bus ∷ decimal len ∷ [])
line (records.Ow span to) = words (codes "ow" ∷ hex_digits 6 span.at ∷ decimal span.len ∷ owner to ∷ [])
line (records.Try h word found) = words (codes "try" ∷ hart h ∷ decimal word ∷ tried found ∷ [])
line (records.Told h word found) = words (codes "told" ∷ hart h ∷ decimal word ∷ heard found ∷ [])
line (records.Back h word) = words (codes "back" ∷ hart h ∷ decimal word ∷ [])
line (records.Ans h op a) = words (codes "ans" ∷ hart h ∷ decimal op ∷ answer a ∷ [])

-- ---- after the events

-- a line for each buffer from number i on, with the bytes that the caches or else memory have
abbrev pub buffer_lines : WorldState → ℕ → List BufferSpec → List ℕ
buffer_lines w i [] = []
buffer_lines w i (b ∷ bs) = words (codes "buf" ∷ decimal i ∷ encode_lower (bytes_of w.machine b.span) ∷ []) ++ buffer_lines w (i + 1) bs

-- where a script stands that is not at its end
abbrev pub left_line : ℕ → Option ℕ → List ℕ
left_line h None = []
left_line h (Some n) = words (codes "left" ∷ decimal h ∷ decimal n ∷ [])

-- for each driver, from hart h on
abbrev pub left_lines : ℕ → List DriverState → List ℕ
left_lines h [] = []
left_lines h (d ∷ ds) = left_line h (left_op d) ++ left_lines (h + 1) ds

abbrev pub end_line : WorldState → List ℕ
end_line w = words (codes "end" ∷ codes "events" ∷ decimal w.events ∷ codes "touches" ∷ decimal w.touches ∷ [])

unfoldable pub tail : Scenario → WorldState → List ℕ
tail sc w = buffer_lines w 0 sc.buffers ++ left_lines 0 w.drivers ++ end_line w

-- the lines of a run from a state
unfoldable pub text_of : WorldState → List Event → List ℕ
text_of w es = flat_map line (run.records w es)

-- the whole report of some events
unfoldable pub report : Scenario → List Event → List ℕ
report sc es = text_of (start sc) es ++ tail sc (run.after (start sc) es)

-- every script is at its end
abbrev pub at_end : WorldState → Bool
at_end w = list_all (λ d. is_none (left_op d)) w.drivers

-- 1 where there is a touch, else 7 where a script is not at its end, else 0
abbrev pub status_at : WorldState → ℕ
status_at w = if nat_lt 0 w.touches then 1 else (if at_end w then 0 else 7)

unfoldable pub status : Scenario → List Event → ℕ
status sc es = status_at (run.after (start sc) es)

-- ---- refused input

abbrev pub refused_line : Refused → List ℕ
refused_line wrong.TooLong = words (codes "refused" ∷ codes "long" ∷ [])
refused_line wrong.NotJson = words (codes "refused" ∷ codes "json" ∷ [])
refused_line (wrong.Shape path) = words (codes "refused" ∷ codes "shape" ∷ path ∷ [])
refused_line (wrong.Version n) = words (codes "refused" ∷ codes "version" ∷ decimal n ∷ [])
refused_line (wrong.Limit path n) = words (codes "refused" ∷ codes "limit" ∷ path ∷ decimal n ∷ [])
refused_line (wrong.Overlap i j) = words (codes "refused" ∷ codes "overlap" ∷ decimal i ∷ decimal j ∷ [])
refused_line (wrong.Token i) = words (codes "refused" ∷ codes "token" ∷ decimal i ∷ [])
