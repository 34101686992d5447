-- A step of an operation of a script is there, and an operation has at most 4,096 steps.
use Rattle.std.proofs.Common.{◌≡◌, ℕ, zero, suc, ◌+◌, ◌*◌, ◌/◌, ◌%◌, ◌<◌, ◌≤◌, Bool, true, false, List, [], ◌∷◌, length, inl, inr, ◌⊎◌, refl, sym, ap, subst, ◌∙◌, arith, slice_get, Option, Some, None, Result, Ok, Err}
use Rattle.std.specs.Prelude.{All, EachIndex, slice_index, nat_le, is_some, option_map, if◌then◌else◌}
use Rattle.std.specs.List.{range_with_len}
use Rattle.std.proofs.lemmas.Bool.{leb-true}
use Rattle.std.proofs.lemmas.Option.{slice_get_within, get_or_from_slice_get}
use Rattle.std.proofs.lemmas.List.FromFn.{get_or-range_with_len, length-range_with_len}
use Rattle.nc_num.specs.Places.{block_at, pieces}
use Rattle.nc_num.specs.declared.names.ChanNo.{ChanNo}
use Rattle.nc_num.specs.Sizes.{IsBlockSize}
use Rattle.nc_num.specs.declared.names.Label.{Label}
use Rattle.nc_num.specs.declared.names.MemType.{MemType}
use Rattle.nc_num.specs.declared.names.MemType.TheVariants.{Pma, Nc}
use Rattle.nc_pte.specs.Words.{IsPteWord}
use Rattle.nc_num.specs.declared.places.Span.{Span}
use Rattle.nc_env.specs.declared.CboOp.{CboOp}
use Rattle.nc_env.specs.declared.CboOp.TheVariants as cbos
use Rattle.nc_pte.specs.declared.translation.PageFault.{PageFault}
use Rattle.nc_pdma_regs.specs.Table.{register_at}
use Rattle.nc_plan.specs.Accesses.{load_step, range, store_step}
use Rattle.nc_plan.specs.Registers as registers
use Rattle.nc_plan.specs.declared.access.At.{At}
use Rattle.nc_plan.specs.declared.access.At.TheVariants as at
use Rattle.nc_plan.specs.declared.ops.HartOp.{HartOp}
use Rattle.nc_plan.specs.declared.ops.HartOp.TheVariants as hart
use Rattle.nc_plan.specs.declared.ops.IoTarget.TheVariants as io
use Rattle.nc_plan.specs.declared.ops.Payload.TheVariants.{Given}
use Rattle.nc_steps.specs.Laws.{IsLoad, IsStore, IsWithin, home}
use Rattle.nc_steps.specs.Mapped.{IsMapped}
use Rattle.nc_steps.proofs.PieceLaws.{pieces_follow}
use Rattle.nc_steps.proofs.StepLaws.{loads_are_pieces, stores_are_pieces, tables_serve}
use Rattle.nc_ops.specs.Fits.{FitsOp, FitsSpot}
use Rattle.nc_ops.specs.declared.ops.BusArg.{BusArg}
use Rattle.nc_ops.specs.declared.ops.Op.{Op}
use Rattle.nc_ops.specs.declared.ops.Op.TheVariants as ops
use Rattle.nc_ops.specs.declared.ops.Spot.{Spot}
use Rattle.nc_ops.specs.declared.ops.Spot.TheVariants as spots
use Rattle.nc_rules.specs.declared.answers.Refusal.{Refusal}
use Rattle.nc_rules.specs.declared.answers.Refusal.TheVariants as refusals
use Rattle.nc_rules.specs.declared.steps.Act.TheVariants as acts
use Rattle.nc_rules.specs.declared.steps.Step.{Step}
use Rattle.nc_rules.specs.Machine.{MachineState}
use Rattle.nc_rules.specs.declared.lots.Kind.TheVariants.{Area}
use Rattle.nc_rules.specs.declared.lots.Lot.{Lot}
use Rattle.nc_rules.specs.Lots.{DriverConfig, only_entry}
use Rattle.nc_rules.specs.Refusals.{◌>>=◌, wanted, some_bytes, buffer_of, part_of, legal, named}
use Rattle.nc_rules.specs.Plans.{step, hart_step, single, control_step}
use Rattle.nc_rules.specs.Accesses.{spot_at, piece_step}
use Rattle.nc_rules.specs.Accesses as accesses
use Rattle.nc_rules.specs.CacheOps.{effect_of, cbo_blocks, cbo_step}
use Rattle.nc_rules.specs.CacheOps as cache_ops
use Rattle.nc_rules.specs.Channels.{bus_of, known}
use Rattle.nc_rules.specs.Channels as channels
use Rattle.nc_rules.specs.Handing.{take_step}
use Rattle.nc_rules.specs.Handing as handing
use Rattle.nc_rules.specs.Mappings as mappings
use Rattle.nc_rules.specs.ScatterLists as lists
use Rattle.nc_rules.specs.Areas as areas
use Rattle.nc_rules.specs.Copies as copies
use Rattle.nc_rules.specs.Operations.{meaning, step_at}
use Rattle.nc_scripts.specs.Scripts.{IsRangeIn, IsDriven, StepIsThere}
use Rattle.nc_scripts.specs.Drivers.{FitsLast, ActFitsLast}
use Rattle.nc_rules.specs.Sound.{OpIsThere, IsBlockIn}

-- ---- what a chain of checks that passes has passed

pub record Passed {A B : Type 0} (r : Result A Refusal) (g : A → Result B Refusal) (y : B) : Type 0 where
  pub value : A
  pub first : r ≡ Ok value
  pub rest : g value ≡ Ok y

pub passed : {A B : Type 0} (r : Result A Refusal) (g : A → Result B Refusal) (y : B) → r >>= g ≡ Ok y → Passed r g y
passed (Ok x) g y e = record { value = x; first = refl; rest = e }
passed (Err r) g y e = absurd (cc)

pub wanted_is : (r : Refusal) (t : Bool) (u : Unit {0}) → wanted r t ≡ Ok u → t ≡ true
wanted_is r true u e = refl
wanted_is r false u e = absurd (cc)

-- ---- steps

-- what a step needs of what the driver knows
pub record IsLaid (ram : ℕ) (f : DriverConfig) : Type 0 where
  pub ram_small : ram ≤ 1048576
  pub ram_whole : ram % 4096 ≡ 0
  pub sized : IsBlockSize f.size
  pub zero_sized : IsBlockSize f.zero_size
  pub zero_wide : f.size ≤ f.zero_size
  pub table : EachIndex f.table (λ k. IsPteWord ram (slice_index f.table k))
  pub buffers : All (IsRangeIn ram) f.buffers

-- the areas lie in RAM
abbrev pub AreasLie : ℕ → List Lot → Type 0
AreasLie ram lots = (label : Label) (lot : Lot) → named lots label Area ≡ Ok lot → IsRangeIn ram (only_entry lot).span

-- step n of an operation is there, whatever was loaded before it, and n is small
pub record IsStep (ram harts : ℕ) (f : DriverConfig) (n : ℕ) (s : Step) : Type 0 where
  pub there : StepIsThere ram harts f s
  pub few : n < 4096
  pub free : (k : ℕ) → ActFitsLast k s.act

is_single : (ram harts : ℕ) (f : DriverConfig) (t : Step) (n : ℕ) (s : Step) → StepIsThere ram harts f t → ((k : ℕ) → ActFitsLast k t.act) → single t n ≡ Some s → IsStep ram harts f n s
is_single ram harts f t zero s h k e =
    let same : t ≡ s = cc in
    subst (λ (x : Step). IsStep ram harts f zero x) same (record { there = h; few = omega arith; free = k })
is_single ram harts f t (suc n) s h k e = absurd (cc)

is_single_ok : (ram harts : ℕ) (f : DriverConfig) (t : Step) (n : ℕ) (s : Step) → StepIsThere ram harts f t → ((k : ℕ) → ActFitsLast k t.act) → ◌≡◌ {A = Result (Option Step) Refusal} (Ok (single t n)) (Ok (Some s)) → IsStep ram harts f n s
is_single_ok ram harts f t n s h k e = is_single ram harts f t n s h k (cc)

stays : (ram harts : ℕ) (f : DriverConfig) (op : HartOp) → ((m : MachineState) (h : ℕ) → IsDriven ram harts f m → OpIsThere m h op) → StepIsThere ram harts f (hart_step op)
stays ram harts f op h = record { act = h; first = tt; last = tt }

-- ---- accesses

-- part of a buffer
pub buffer_is : (ram harts : ℕ) (f : DriverConfig) (buf : ℕ) → IsLaid ram f → buf < length f.buffers → IsRangeIn ram (buffer_of f buf)
buffer_is ram harts f buf h lt = h.buffers buf (record { at = 0; len = 0 }) lt

part_by : (t : Bool) (range : Span) (off len : ℕ) (part : Span) → nat_le (off + len) range.len ≡ t
    → ◌≡◌ {A = Result Span Refusal} (if t then Ok (record { at = range.at + off; len = len }) else Err refusals.BadRange) (Ok part)
    → (part ≡ record { at = range.at + off; len = len }) × (off + len ≤ range.len)
part_by true range off len part t e = (cc, leb-true (off + len) range.len t)
part_by false range off len part t e = absurd (cc)

pub part_is : (range : Span) (off len : ℕ) (part : Span) → part_of range off len ≡ Ok part → (part ≡ record { at = range.at + off; len = len }) × (off + len ≤ range.len)
part_is range off len part e = part_by (nat_le (off + len) range.len) range off len part refl e

-- where an access lies that passed
pub record IsPlace (ram : ℕ) (f : DriverConfig) (len : ℕ) (to : At) : Type 0 where
  pub mapped : IsMapped ram to f.table len
  pub ends : (home ram to len).at + (home ram to len).len ≤ ram

place_in : (ram harts : ℕ) (f : DriverConfig) (range : Span) (kind : MemType) (off len : ℕ) (to : At) → IsRangeIn ram range
    → part_of range off len >>= (λ part. Ok (at.Ram part.at kind)) ≡ Ok to → IsPlace ram f len to
place_in ram harts f range kind off len to h e =
    let p = passed (part_of range off len) (λ part. Ok (at.Ram part.at kind)) to e in
    let k = part_is range off len p.value p.first in
    let same : at.Ram (range.at + off) kind ≡ to = cc (ap (λ (s : Span). at.Ram s.at kind) k.0, p.rest) in
    subst (λ (t : At). IsPlace ram f len t) same (record { mapped = tt; ends = omega (arith, k.1, h.ends) })

place_of : (ram harts : ℕ) (f : DriverConfig) (lots : List Lot) (spot : Spot) (off len : ℕ) (to : At) → IsLaid ram f → AreasLie ram lots → FitsSpot (length f.buffers) spot
    → spot_at f lots spot off len ≡ Ok to → IsPlace ram f len to
place_of ram harts f lots (spots.Buffer buf) off len to h areas fits e =
    let p = passed (some_bytes len) (λ _. part_of (buffer_of f buf) off len >>= λ part. Ok (at.Ram part.at Pma)) to e in
    place_in ram harts f (buffer_of f buf) Pma off len to (buffer_is ram harts f buf h fits) p.rest
place_of ram harts f lots (spots.Area label) off len to h areas fits e =
    let p = passed (some_bytes len) (λ _. named lots label Area >>= λ lot. part_of (only_entry lot).span off len >>= λ part. Ok (at.Ram part.at Nc)) to e in
    let q = passed (named lots label Area) (λ lot. part_of (only_entry lot).span off len >>= λ part. Ok (at.Ram part.at Nc)) to p.rest in
    place_in ram harts f (only_entry q.value).span Nc off len to (areas label q.value q.first) q.rest
place_of ram harts f lots spots.Virtual off len to h areas fits e =
    let p = passed (some_bytes len) (λ _. wanted refusals.BadRange (nat_le (off + len) (4096 * length f.table)) >>= λ _. Ok (at.Virtual off)) to e in
    let q = passed (wanted refusals.BadRange (nat_le (off + len) (4096 * length f.table))) (λ _. Ok (at.Virtual off)) to p.rest in
    let within = leb-true (off + len) (4096 * length f.table) (wanted_is _ _ q.value q.first) in
    let same : at.Virtual off ≡ to = cc (q.rest) in
    subst (λ (t : At). IsPlace ram f len t) same (record { mapped = (tables_serve ram f.table off len h.ram_small h.table within).0; ends = omega arith })

range_len : (to : At) (len : ℕ) → (range to len).len ≡ len
range_len (at.Ram a k) len = refl
range_len (at.Virtual va) len = refl

-- piece n of an access of so many bytes is one of fewer than 4,096
few_pieces : (to : At) (len n : ℕ) (piece : Span) → len ≤ 4096 → slice_get (pieces (range to len)) n ≡ Some piece → n < 4096
few_pieces to len n piece short e =
    omega (arith, slice_get_within (pieces (range to len)) n piece e, (pieces_follow (range to len) n).few, range_len to len)

inside : (ram : ℕ) (home there : Span) → IsWithin home there → home.at + home.len ≤ ram → there.at + there.len ≤ ram
inside ram home there h ends = omega (arith, h.ends, ends)

-- the step of a piece
piece_is : (r : Result (Option HartOp) PageFault) (s : Step) → piece_step r ≡ Ok (Some s) → (op : HartOp) × (r ≡ Ok (Some op)) × (hart_step op ≡ s)
piece_is (Ok None) s e = absurd (cc)
piece_is (Ok (Some op)) s e = (op, refl, cc)
piece_is (Err fault) s e = absurd (cc)

load_there : (ram harts : ℕ) (f : DriverConfig) (to : At) (len n : ℕ) (op : HartOp) → IsLoad ram to f.pbmte f.table len n op → IsPlace ram f len to → (m : MachineState) (h : ℕ) → IsDriven ram harts f m → OpIsThere m h op
load_there ram harts f to len n op k p m h d =
    subst (λ (o : HartOp). OpIsThere m h o) (sym k.loads) (record {
      len = k.placed.natural.size;
      aligned = k.placed.natural.aligned;
      inside = rw d.memory (inside ram (home ram to len) k.there k.placed.lies p.ends);
    })

store_there : (ram harts : ℕ) (f : DriverConfig) (to : At) (bytes : List ℕ) (n : ℕ) (op : HartOp) → IsStore ram to f.pbmte f.table bytes n op → IsPlace ram f (length bytes) to → (m : MachineState) (h : ℕ) → IsDriven ram harts f m → OpIsThere m h op
store_there ram harts f to bytes n op k p m h d =
    subst (λ (o : HartOp). OpIsThere m h o) (sym k.stores) (record {
      piece = record {
        len = k.placed.natural.size;
        aligned = k.placed.natural.aligned;
        inside = rw d.memory (inside ram (home ram to (length bytes)) k.there k.placed.lies p.ends);
      };
      whole = k.whole;
    })

same_step : (ram harts : ℕ) (f : DriverConfig) (op : HartOp) (s : Step) (n : ℕ) → hart_step op ≡ s → ((m : MachineState) (h : ℕ) → IsDriven ram harts f m → OpIsThere m h op) → ((k : ℕ) → FitsLast k op) → n < 4096 → IsStep ram harts f n s
same_step ram harts f op s n e h free few = subst (λ (x : Step). IsStep ram harts f n x) e (record { there = stays ram harts f op h; few = few; free = free })

load_free : (k : ℕ) (span : Span) (kind : MemType) (op : HartOp) → op ≡ hart.Load span kind → FitsLast k op
load_free k span kind op e = subst (λ (o : HartOp). FitsLast k o) (sym e) tt

store_free : (k : ℕ) (span : Span) (kind : MemType) (given : List ℕ) (op : HartOp) → op ≡ hart.Store span kind (Given given) → FitsLast k op
store_free k span kind given op e = subst (λ (o : HartOp). FitsLast k o) (sym e) tt

load_is : (ram harts : ℕ) (f : DriverConfig) (lots : List Lot) (spot : Spot) (off len n : ℕ) (s : Step) → IsLaid ram f → AreasLie ram lots → FitsSpot (length f.buffers) spot → len ≤ 4096
    → (spot_at f lots spot off len >>= λ to. piece_step (load_step to f.pbmte f.table len n)) ≡ Ok (Some s) → IsStep ram harts f n s
load_is ram harts f lots spot off len n s h areas fits short e =
    let p = passed (spot_at f lots spot off len) (λ to. piece_step (load_step to f.pbmte f.table len n)) (Some s) e in
    let q = piece_is (load_step p.value f.pbmte f.table len n) s p.rest in
    let place = place_of ram harts f lots spot off len p.value h areas fits p.first in
    let k = loads_are_pieces ram p.value f.pbmte f.table len n q.0 place.mapped q.1 in
    same_step ram harts f q.0 s n q.2 (load_there ram harts f p.value len n q.0 k place) (λ j. load_free j k.there k.kind q.0 k.loads) (few_pieces p.value len n k.piece short k.placed.numbered)

store_is : (ram harts : ℕ) (f : DriverConfig) (lots : List Lot) (spot : Spot) (off : ℕ) (bytes : List ℕ) (n : ℕ) (s : Step) → IsLaid ram f → AreasLie ram lots → FitsSpot (length f.buffers) spot → length bytes ≤ 4096
    → (spot_at f lots spot off (length bytes) >>= λ to. piece_step (store_step to f.pbmte f.table bytes n)) ≡ Ok (Some s) → IsStep ram harts f n s
store_is ram harts f lots spot off bytes n s h areas fits short e =
    let p = passed (spot_at f lots spot off (length bytes)) (λ to. piece_step (store_step to f.pbmte f.table bytes n)) (Some s) e in
    let q = piece_is (store_step p.value f.pbmte f.table bytes n) s p.rest in
    let place = place_of ram harts f lots spot off (length bytes) p.value h areas fits p.first in
    let k = stores_are_pieces ram p.value f.pbmte f.table bytes n q.0 place.mapped q.1 in
    same_step ram harts f q.0 s n q.2 (store_there ram harts f p.value bytes n q.0 k place) (λ j. store_free j k.there k.kind k.given q.0 k.stores) (few_pieces p.value (length bytes) n k.piece short k.placed.numbered)

-- ---- cache operations

-- the block of a byte of RAM lies in RAM
block_by : (s ram x : ℕ) → (s ≡ 32) ⊎ (s ≡ 64) ⊎ (s ≡ 128) → ram % 4096 ≡ 0 → x < ram → s * (x / s) + s ≤ ram
block_by s ram x (inl e) whole lt = rw e (omega arith)
block_by s ram x (inr (inl e)) whole lt = rw e (omega arith)
block_by s ram x (inr (inr e)) whole lt = rw e (omega arith)

-- so does each block of its zeroed range
zeroed_by : (s z ram x n : ℕ) → (s ≡ 32) ⊎ (s ≡ 64) ⊎ (s ≡ 128) → (z ≡ 32) ⊎ (z ≡ 64) ⊎ (z ≡ 128) → s ≤ z → ram % 4096 ≡ 0 → x < ram → n < z / s
    → (s * (x / z * (z / s) + n) + s ≤ ram) × (n < 4096)
zeroed_by s z ram x n (inl e) (inl d) wide whole lt few = let k : n < 1 = rw (d, e) at few in rw (d, e) (omega arith, omega arith)
zeroed_by s z ram x n (inl e) (inr (inl d)) wide whole lt few = let k : n < 2 = rw (d, e) at few in rw (d, e) (omega arith, omega arith)
zeroed_by s z ram x n (inl e) (inr (inr d)) wide whole lt few = let k : n < 4 = rw (d, e) at few in rw (d, e) (omega arith, omega arith)
zeroed_by s z ram x n (inr (inl e)) (inl d) wide whole lt few = absurd (omega arith)
zeroed_by s z ram x n (inr (inl e)) (inr (inl d)) wide whole lt few = let k : n < 1 = rw (d, e) at few in rw (d, e) (omega arith, omega arith)
zeroed_by s z ram x n (inr (inl e)) (inr (inr d)) wide whole lt few = let k : n < 2 = rw (d, e) at few in rw (d, e) (omega arith, omega arith)
zeroed_by s z ram x n (inr (inr e)) (inl d) wide whole lt few = absurd (omega arith)
zeroed_by s z ram x n (inr (inr e)) (inr (inl d)) wide whole lt few = absurd (omega arith)
zeroed_by s z ram x n (inr (inr e)) (inr (inr d)) wide whole lt few = let k : n < 1 = rw (d, e) at few in rw (d, e) (omega arith, omega arith)

-- block n of an operation, which is there
pub record IsBlockOf (ram : ℕ) (f : DriverConfig) (n b : ℕ) : Type 0 where
  pub inside : IsBlockIn f.size ram b
  pub few : n < 4096

one_block : (ram : ℕ) (f : DriverConfig) (x n b : ℕ) → IsBlockIn f.size ram x → slice_get (x ∷ []) n ≡ Some b → IsBlockOf ram f n b
one_block ram f x zero b h e = let same : x ≡ b = cc in record { inside = subst (λ (y : ℕ). IsBlockIn f.size ram y) same h; few = omega arith }
one_block ram f x (suc n) b h e = absurd (cc)

block_of_op : (ram harts : ℕ) (f : DriverConfig) (op : CboOp) (x n b : ℕ) → IsLaid ram f → x < ram → slice_get (cbo_blocks f op x) n ≡ Some b → IsBlockOf ram f n b
block_of_op ram harts f cbos.Clean x n b h lt e = one_block ram f (block_at x f.size) n b (block_by f.size ram x h.sized.one_of h.ram_whole lt) e
block_of_op ram harts f cbos.Flush x n b h lt e = one_block ram f (block_at x f.size) n b (block_by f.size ram x h.sized.one_of h.ram_whole lt) e
block_of_op ram harts f cbos.Inval x n b h lt e = one_block ram f (block_at x f.size) n b (block_by f.size ram x h.sized.one_of h.ram_whole lt) e
block_of_op ram harts f cbos.Zero x n b h lt e =
    let first = block_at x f.zero_size * (f.zero_size / f.size) in
    let count = f.zero_size / f.size in
    let within = slice_get_within (range_with_len first count) n b e in
    let few : n < f.zero_size / f.size = omega (arith, within, length-range_with_len first count) in
    let is : first + n ≡ b = sym (get_or-range_with_len first count n 0 few) ∙ get_or_from_slice_get (range_with_len first count) n b 0 e in
    let k = zeroed_by f.size f.zero_size ram x n h.sized.one_of h.zero_sized.one_of h.zero_wide h.ram_whole lt few in
    record { inside = subst (λ (y : ℕ). IsBlockIn f.size ram y) is k.0; few = k.1 }

cbo_of : (ram harts : ℕ) (f : DriverConfig) (effect : CboOp) (n : ℕ) (o : Option ℕ) (s : Step) → ((b : ℕ) → o ≡ Some b → IsBlockOf ram f n b)
    → ◌≡◌ {A = Result (Option Step) Refusal} (Ok (option_map (cbo_step effect) o)) (Ok (Some s)) → IsStep ram harts f n s
cbo_of ram harts f effect n None s h e = absurd (cc)
cbo_of ram harts f effect n (Some b) s h e =
    let k = h b refl in
    same_step ram harts f (hart.Cbo effect (record { 0 = b })) s n (cc) (λ m me d. rw (d.memory, d.block) k.inside) (λ j. tt) k.few

cbo_is : (ram harts : ℕ) (f : DriverConfig) (op : CboOp) (buf off n : ℕ) (s : Step) → IsLaid ram f → buf < length f.buffers
    → (part_of (buffer_of f buf) off 1 >>= λ byte. legal (effect_of f.effects op) >>= λ effect. Ok (option_map (cbo_step effect) (slice_get (cbo_blocks f op byte.at) n))) ≡ Ok (Some s)
    → IsStep ram harts f n s
cbo_is ram harts f op buf off n s h lt e =
    let p = passed (part_of (buffer_of f buf) off 1) (λ byte. legal (effect_of f.effects op) >>= λ effect. Ok (option_map (cbo_step effect) (slice_get (cbo_blocks f op byte.at) n))) (Some s) e in
    let q = passed (legal (effect_of f.effects op)) (λ effect. Ok (option_map (cbo_step effect) (slice_get (cbo_blocks f op p.value.at) n))) (Some s) p.rest in
    let k = part_is (buffer_of f buf) off 1 p.value p.first in
    let range = buffer_is ram harts f buf h lt in
    let at : p.value.at ≡ (buffer_of f buf).at + off = ap (λ (s : Span). s.at) k.0 in
    let inside : p.value.at < ram = omega (arith, at, k.1, range.ends) in
    cbo_of ram harts f q.value n (slice_get (cbo_blocks f op p.value.at) n) s (λ b is. block_of_op ram harts f op p.value.at n b h inside is) q.rest

-- ---- registers

register_there : (ram harts : ℕ) (f : DriverConfig) (chan : ChanNo) (off width value : ℕ) → chan.0 < 4 → is_some (register_at off width) ≡ true
    → StepIsThere ram harts f (hart_step (hart.IoStore (io.Reg chan off width value)))
register_there ram harts f chan off width value lt known = stays ram harts f _ (λ m h d. record { channel = lt; known = known })

control_there : (ram harts : ℕ) (f : DriverConfig) (chan : ChanNo) (value : ℕ) → chan.0 < 4 → StepIsThere ram harts f (control_step chan value)
control_there ram harts f chan value lt = register_there ram harts f chan 0 4 value lt refl

regs_of : (ram harts : ℕ) (f : DriverConfig) (chan : ChanNo) (source target len cfg n : ℕ) (s : Step) → chan.0 < 4
    → ◌≡◌ {A = Result (Option Step) Refusal} (Ok (option_map hart_step (registers.regs_step chan source target len cfg n))) (Ok (Some s)) → IsStep ram harts f n s
regs_of ram harts f chan source target len cfg zero s lt e =
    let same : hart_step (registers.next_config chan cfg) ≡ s = cc in
    subst (λ (x : Step). IsStep ram harts f zero x) same (record { there = register_there ram harts f chan 0x004 4 cfg lt refl; few = omega arith; free = λ k. tt })
regs_of ram harts f chan source target len cfg (suc zero) s lt e =
    let same : hart_step (registers.next_bytes chan len) ≡ s = cc in
    subst (λ (x : Step). IsStep ram harts f (suc zero) x) same (record { there = register_there ram harts f chan 0x008 8 len lt refl; few = omega arith; free = λ k. tt })
regs_of ram harts f chan source target len cfg (suc (suc zero)) s lt e =
    let same : hart_step (registers.next_destination chan target) ≡ s = cc in
    subst (λ (x : Step). IsStep ram harts f (suc (suc zero)) x) same (record { there = register_there ram harts f chan 0x010 8 target lt refl; few = omega arith; free = λ k. tt })
regs_of ram harts f chan source target len cfg (suc (suc (suc zero))) s lt e =
    let same : hart_step (registers.next_source chan source) ≡ s = cc in
    subst (λ (x : Step). IsStep ram harts f (suc (suc (suc zero))) x) same (record { there = register_there ram harts f chan 0x018 8 source lt refl; few = omega arith; free = λ k. tt })
regs_of ram harts f chan source target len cfg (suc (suc (suc (suc n)))) s lt e = absurd (cc)

regs_is : (ram harts : ℕ) (f : DriverConfig) (lots : List Lot) (chan : ChanNo) (src dst : BusArg) (len cfg n : ℕ) (s : Step) → chan.0 < 4
    → (bus_of f lots src >>= λ source. bus_of f lots dst >>= λ target. Ok (option_map hart_step (registers.regs_step chan source target len cfg n))) ≡ Ok (Some s) → IsStep ram harts f n s
regs_is ram harts f lots chan src dst len cfg n s lt e =
    let p = passed (bus_of f lots src) (λ source. bus_of f lots dst >>= λ target. Ok (option_map hart_step (registers.regs_step chan source target len cfg n))) (Some s) e in
    let q = passed (bus_of f lots dst) (λ target. Ok (option_map hart_step (registers.regs_step chan p.value target len cfg n))) (Some s) p.rest in
    regs_of ram harts f chan p.value q.value len cfg n s lt q.rest

known_is : (off width : ℕ) (u : Unit {0}) → known off width ≡ Ok u → is_some (register_at off width) ≡ true
known_is off width u e = wanted_is _ _ u e

read_is : (ram harts : ℕ) (f : DriverConfig) (chan : ChanNo) (off width n : ℕ) (s : Step) → chan.0 < 4
    → (known off width >>= λ _. Ok (single (hart_step (hart.IoLoad chan off width)) n)) ≡ Ok (Some s) → IsStep ram harts f n s
read_is ram harts f chan off width n s lt e =
    let p = passed (known off width) (λ _. Ok (single (hart_step (hart.IoLoad chan off width)) n)) (Some s) e in
    is_single_ok ram harts f (hart_step (hart.IoLoad chan off width)) n s (stays ram harts f _ (λ m h d. record { channel = lt; known = known_is off width p.value p.first })) (λ k. tt) p.rest

write_is : (ram harts : ℕ) (f : DriverConfig) (chan : ChanNo) (off width value n : ℕ) (s : Step) → chan.0 < 4
    → (known off width >>= λ _. Ok (single (hart_step (hart.IoStore (io.Reg chan off width value))) n)) ≡ Ok (Some s) → IsStep ram harts f n s
write_is ram harts f chan off width value n s lt e =
    let p = passed (known off width) (λ _. Ok (single (hart_step (hart.IoStore (io.Reg chan off width value))) n)) (Some s) e in
    is_single_ok ram harts f (hart_step (hart.IoStore (io.Reg chan off width value))) n s (register_there ram harts f chan off width value lt (known_is off width p.value p.first)) (λ k. tt) p.rest

-- ---- every operation

none : {X : Type 0} (s : Step) → ◌≡◌ {A = Result (Option Step) Refusal} (Ok None) (Ok (Some s)) → X
none s e = absurd (cc)

pub step_is : (ram harts : ℕ) (f : DriverConfig) (lots : List Lot) (o : Op) (n : ℕ) (s : Step) → IsLaid ram f → AreasLie ram lots → FitsOp harts (length f.buffers) o → step_at f lots o n ≡ Ok (Some s) → IsStep ram harts f n s
unfolding step_at meaning accesses.load accesses.store cache_ops.cache_operation cache_ops.fence handing.take handing.hand channels.claim channels.free channels.set_up channels.run channels.poll channels.read_register channels.write_register mappings.map_single mappings.unmap_single mappings.sync_for_cpu mappings.sync_for_device lists.map_sg lists.unmap_sg areas.calloc areas.give_area areas.take_area areas.free_area copies.copy
step_is ram harts f lots (ops.Ld spot off len) n s h areas fits e = load_is ram harts f lots spot off len n s h areas fits.0 fits.2 e
step_is ram harts f lots (ops.St spot off bytes) n s h areas fits e = store_is ram harts f lots spot off bytes n s h areas fits.0 fits.2 e
step_is ram harts f lots (ops.Cbo op buf off) n s h areas fits e = cbo_is ram harts f op buf off n s h fits.0 e
step_is ram harts f lots (ops.Fence pred succ) n s h areas fits e = is_single_ok ram harts f _ n s (stays ram harts f _ (λ m me d. tt)) (λ k. tt) e
step_is ram harts f lots (ops.Take buf) n s h areas fits e =
    is_single_ok ram harts f (take_step f buf) n s (record { act = fits; first = tt; last = buffer_is ram harts f buf h fits }) (λ k. tt) e
step_is ram harts f lots (ops.Claim chan) n s h areas fits e = is_single_ok ram harts f (step (acts.Claim chan)) n s (record { act = fits; first = tt; last = tt }) (λ k. tt) e
step_is ram harts f lots (ops.Free chan) n s h areas fits e = is_single_ok ram harts f (control_step chan 0) n s (control_there ram harts f chan 0 fits) (λ k. tt) e
step_is ram harts f lots (ops.Regs chan src dst len cfg) n s h areas fits e = regs_is ram harts f lots chan src dst len cfg n s fits.0 e
step_is ram harts f lots (ops.Run chan) n s h areas fits e = is_single_ok ram harts f (control_step chan 3) n s (control_there ram harts f chan 3 fits) (λ k. tt) e
step_is ram harts f lots (ops.Poll chan) n s h areas fits e = is_single_ok ram harts f (step (acts.Poll chan)) n s (record { act = fits; first = tt; last = tt }) (λ k. tt) e
step_is ram harts f lots (ops.Regr chan off width) n s h areas fits e = read_is ram harts f chan off width n s fits.0 e
step_is ram harts f lots (ops.Regw chan off width value) n s h areas fits e = write_is ram harts f chan off width value n s fits.0 e
step_is ram harts f lots (ops.Hand buf to) n s h areas fits e = none s e
step_is ram harts f lots (ops.Map label buf off len dir chan) n s h areas fits e = none s e
step_is ram harts f lots (ops.Unmap label) n s h areas fits e = none s e
step_is ram harts f lots (ops.ToCpu label) n s h areas fits e = none s e
step_is ram harts f lots (ops.ToDev label) n s h areas fits e = none s e
step_is ram harts f lots (ops.MapSg label entries dir chan) n s h areas fits e = none s e
step_is ram harts f lots (ops.UnmapSg label count) n s h areas fits e = none s e
step_is ram harts f lots (ops.Calloc label pages chan) n s h areas fits e = none s e
step_is ram harts f lots (ops.Cgive label) n s h areas fits e = none s e
step_is ram harts f lots (ops.Ctake label) n s h areas fits e = none s e
step_is ram harts f lots (ops.Cfree label) n s h areas fits e = none s e
step_is ram harts f lots (ops.Copy chan src src_off dst dst_off len cfg) n s h areas fits e = none s e
