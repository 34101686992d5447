-- The parts of a line have no line feed.
use Rattle.std.proofs.Common.{ℕ, true, false, List, [], ◌∷◌, length, refl}
use Rattle.std.specs.Prelude.{decimal, codes, flat_map}
use Rattle.nc_num.specs.declared.names.MapId.{MapId}
use Rattle.nc_env.specs.declared.CboOp.{CboOp}
use Rattle.nc_env.specs.declared.CboOp.TheVariants as cbos
use Rattle.nc_env.specs.declared.Field.{Field}
use Rattle.nc_env.specs.declared.Field.TheVariants as fields
use Rattle.nc_cache.specs.declared.line.Origin.{Origin}
use Rattle.nc_cache.specs.declared.line.Origin.TheVariants as origins
use Rattle.nc_plan.specs.declared.ops.IoTarget.{IoTarget}
use Rattle.nc_plan.specs.declared.ops.IoTarget.TheVariants as io
use Rattle.nc_plan.specs.declared.segments.Segment.{Segment}
use Rattle.nc_slots.specs.declared.slots.TryAnswer.{TryAnswer}
use Rattle.nc_slots.specs.declared.slots.TryAnswer.TheVariants as tries
use Rattle.nc_model.specs.declared.owners.Actor.{Actor}
use Rattle.nc_model.specs.declared.owners.Actor.TheVariants as actors
use Rattle.nc_model.specs.declared.owners.Owner.{Owner}
use Rattle.nc_model.specs.declared.owners.Owner.TheVariants as owners
use Rattle.nc_model.specs.declared.touches.TouchKind.{TouchKind}
use Rattle.nc_model.specs.declared.touches.TouchKind.TheVariants as kinds
use Rattle.nc_scen.specs.declared.events.Event.{Event}
use Rattle.nc_scen.specs.declared.events.Event.TheVariants as events
use Rattle.nc_rules.specs.declared.answers.Answer.{Answer}
use Rattle.nc_rules.specs.declared.answers.Answer.TheVariants as answers
use Rattle.nc_rules.specs.declared.answers.Refusal.{Refusal}
use Rattle.nc_rules.specs.declared.answers.Refusal.TheVariants as refusals
use Rattle.nc_rules.specs.declared.records.ToldAnswer.{ToldAnswer}
use Rattle.nc_rules.specs.declared.records.ToldAnswer.TheVariants as tolds
use Rattle.nc_rules.specs.Lines.{hex_digits, hart, token, kind, actor, mapping, owner, operation, field, refusal, segment, answer, target, origin, tried, heard, phrase}
use Rattle.hex.specs.Hex.{encode_lower}
use Rattle.nc_replay.proofs.Plain.{IsPlain, plain_append, plain_decimal, plain_hex, plain_bytes, plain_phrase}

pub plain_token : (e : Event) → IsPlain (token e)
plain_token (events.Issue h) = plain_decimal h.0
plain_token (events.Try h) = plain_decimal h.0
plain_token (events.Told h true) = plain_decimal h.0
plain_token (events.Told h false) = plain_decimal h.0
plain_token (events.Drain h i) = plain_append (decimal h.0) (46 ∷ decimal i) (plain_decimal h.0) (plain_decimal i)
plain_token (events.Fill h b) = plain_append (decimal h.0) (46 ∷ decimal b.0) (plain_decimal h.0) (plain_decimal b.0)
plain_token (events.Evict h b) = plain_append (decimal h.0) (46 ∷ decimal b.0) (plain_decimal h.0) (plain_decimal b.0)
plain_token (events.ChanRead c) = plain_decimal c.0
plain_token (events.ChanWrite c) = plain_decimal c.0

pub plain_kind : (k : TouchKind) → IsPlain (kind k)
plain_kind kinds.Load = refl
plain_kind kinds.Store = refl
plain_kind kinds.Channel = refl
plain_kind kinds.Register = refl
plain_kind kinds.Alias = refl
plain_kind kinds.Discard = refl

pub plain_actor : (a : Actor) → IsPlain (actor a)
plain_actor (actors.Hart h) = plain_phrase (codes "hart" ∷ hart h ∷ []) (refl, (plain_decimal h.0, tt))
plain_actor (actors.Chan c) = plain_phrase (codes "chan" ∷ decimal c.0 ∷ []) (refl, (plain_decimal c.0, tt))

plain_mapping : (word : List ℕ) (m : MapId) → IsPlain word → IsPlain (mapping word m)
plain_mapping word m p = plain_phrase (word ∷ hart m.hart ∷ decimal m.label.0 ∷ decimal m.entry ∷ []) (p, (plain_decimal m.hart.0, (plain_decimal m.label.0, (plain_decimal m.entry, tt))))

pub plain_owner : (o : Owner) → IsPlain (owner o)
plain_owner (owners.Thread h) = plain_phrase (codes "thread" ∷ hart h ∷ []) (refl, (plain_decimal h.0, tt))
plain_owner (owners.Passing h g) = plain_phrase (codes "passing" ∷ hart h ∷ hart g ∷ []) (refl, (plain_decimal h.0, (plain_decimal g.0, tt)))
plain_owner (owners.Lending m) = plain_mapping (codes "lending") m refl
plain_owner (owners.Device m) = plain_mapping (codes "device") m refl
plain_owner (owners.Returning m) = plain_mapping (codes "returning") m refl
plain_owner (owners.Synced m) = plain_mapping (codes "synced") m refl
plain_owner owners.Pool = refl

pub plain_operation : (op : CboOp) → IsPlain (operation op)
plain_operation cbos.Clean = refl
plain_operation cbos.Flush = refl
plain_operation cbos.Inval = refl
plain_operation cbos.Zero = refl

plain_field : (f : Field) → IsPlain (field f)
plain_field fields.MCbie = refl
plain_field fields.MCbcfe = refl
plain_field fields.MCbze = refl
plain_field fields.SCbie = refl
plain_field fields.SCbcfe = refl
plain_field fields.SCbze = refl

pub plain_refusal : (r : Refusal) → IsPlain (refusal r)
plain_refusal (refusals.NotYours o) = plain_phrase (codes "notyours" ∷ owner o ∷ []) (refl, (plain_owner o, tt))
plain_refusal (refusals.CboOff f) = plain_phrase (codes "cbooff" ∷ field f ∷ []) (refl, (plain_field f, tt))
plain_refusal (refusals.ChannelBusy g) = plain_phrase (codes "channelbusy" ∷ hart g ∷ []) (refl, (plain_decimal g.0, tt))
plain_refusal (refusals.BadCount n) = plain_phrase (codes "badcount" ∷ decimal n ∷ []) (refl, (plain_decimal n, tt))
plain_refusal (refusals.IllegalCbo f) = plain_phrase (codes "illegal" ∷ field f ∷ []) (refl, (plain_field f, tt))
plain_refusal (refusals.PageFault va bits) = plain_phrase (codes "pagefault" ∷ hex_digits 8 va ∷ decimal bits ∷ []) (refl, (plain_hex 8 va, (plain_decimal bits, tt)))
plain_refusal (refusals.BadMmio off width) = plain_phrase (codes "badmmio" ∷ hex_digits 3 off ∷ decimal width ∷ []) (refl, (plain_hex 3 off, (plain_decimal width, tt)))
plain_refusal _ = refl

plain_segment : (s : Segment) → IsPlain (segment s)
plain_segment s = plain_append (hex_digits 8 s.bus) (58 ∷ decimal s.len) (plain_hex 8 s.bus) (plain_decimal s.len)

plain_segments : (ss : List Segment) → IsPlain (flat_map segment ss)
plain_segments [] = refl
plain_segments (s ∷ ss) = plain_append (segment s) (flat_map segment ss) (plain_segment s) (plain_segments ss)

pub plain_answer : (a : Answer) → IsPlain (answer a)
plain_answer (answers.Mapped bus) = plain_phrase (codes "mapped" ∷ hex_digits 8 bus ∷ []) (refl, (plain_hex 8 bus, tt))
plain_answer (answers.Segments list) =
    plain_append (phrase (codes "segments" ∷ decimal (length list) ∷ [])) (flat_map segment list) (plain_phrase (codes "segments" ∷ decimal (length list) ∷ []) (refl, (plain_decimal (length list), tt))) (plain_segments list)
plain_answer (answers.NoSegments r) = plain_phrase (codes "segments" ∷ decimal 0 ∷ refusal r ∷ []) (refl, (plain_decimal 0, (plain_refusal r, tt)))
plain_answer (answers.Allocated bus) = plain_phrase (codes "allocated" ∷ hex_digits 8 bus ∷ []) (refl, (plain_hex 8 bus, tt))
plain_answer (answers.Done control) = plain_phrase (codes "done" ∷ hex_digits 8 control ∷ []) (refl, (plain_hex 8 control, tt))
plain_answer (answers.Error control) = plain_phrase (codes "error" ∷ hex_digits 8 control ∷ []) (refl, (plain_hex 8 control, tt))
plain_answer (answers.Value value) = plain_phrase (codes "value" ∷ hex_digits 16 value ∷ []) (refl, (plain_hex 16 value, tt))
plain_answer (answers.CopyFailed control) = plain_phrase (codes "copyfailed" ∷ hex_digits 8 control ∷ []) (refl, (plain_hex 8 control, tt))
plain_answer (answers.Refused r) = plain_refusal r
plain_answer _ = refl

pub plain_target : (t : IoTarget) → IsPlain (target t)
plain_target (io.Reg chan off width value) =
    plain_phrase (codes "reg" ∷ decimal chan.0 ∷ hex_digits 3 off ∷ hex_digits 16 value ∷ []) (refl, (plain_decimal chan.0, (plain_hex 3 off, (plain_hex 16 value, tt))))
plain_target (io.Mail buf to) = plain_phrase (codes "mail" ∷ decimal buf ∷ hart to ∷ []) (refl, (plain_decimal buf, (plain_decimal to.0, tt)))
plain_target (io.Lend label first count) = plain_phrase (codes "lend" ∷ decimal label.0 ∷ decimal first ∷ decimal count ∷ []) (refl, (plain_decimal label.0, (plain_decimal first, (plain_decimal count, tt))))

pub plain_origin : (o : Origin) → IsPlain (origin o)
plain_origin (origins.Mem bytes) = plain_phrase (codes "mem" ∷ encode_lower bytes ∷ []) (refl, (plain_bytes bytes, tt))
plain_origin (origins.Hart g) = plain_phrase (codes "hart" ∷ hart g ∷ []) (refl, (plain_decimal g.0, tt))
plain_origin origins.Held = refl

pub plain_tried : (a : TryAnswer) → IsPlain (tried a)
plain_tried tries.Got = refl
plain_tried (tries.Held g) = plain_phrase (codes "held" ∷ hart g ∷ []) (refl, (plain_decimal g.0, tt))

pub plain_heard : (a : ToldAnswer) → IsPlain (heard a)
plain_heard tolds.Got = refl
plain_heard tolds.Miss = refl
plain_heard (tolds.Held g) = plain_phrase (codes "held" ∷ hart g ∷ []) (refl, (plain_decimal g.0, tt))
