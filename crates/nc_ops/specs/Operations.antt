-- The operations of a script: first the name, the number and the shapes of the arguments, then the limits in order.
use Rattle.std.specs.Prelude.{ℕ, List, length, codes, nat_le, if◌then◌else◌, Option, Some, None, Result, Ok, Err, option_and_then}
use Rattle.std.specs.Str.{bytes_eq}
use Rattle.hex.specs.Hex.{decode_of}
use Rattle.hex.specs.declared.error.FromHexError.{FromHexError}
use Rattle.serde_json.specs.Data.{Data, Items, no_items, item}
use Rattle.serde_json.specs.Find.{as_number, as_u64}
use Rattle.nc_ops.specs.declared.ops.BusArg.{BusArg}
use Rattle.nc_ops.specs.declared.ops.BusArg.TheVariants as bus
use Rattle.nc_ops.specs.declared.ops.Op.{Op}
use Rattle.nc_ops.specs.declared.ops.Op.TheVariants.{Ld, St, Cbo, Fence, Map, Unmap, ToCpu, ToDev, MapSg, UnmapSg, Calloc, Cgive, Ctake, Cfree, Hand, Take, Claim, Free, Regs, Run, Poll, Regr, Regw, Copy}
use Rattle.nc_ops.specs.declared.ops.SgEntry.{SgEntry}
use Rattle.nc_ops.specs.declared.ops.Spot.{Spot}
use Rattle.nc_ops.specs.declared.ops.Spot.TheVariants as spots
use Rattle.nc_ops.specs.declared.texts.BusText.{BusText}
use Rattle.nc_ops.specs.declared.texts.BusText.TheVariants as bus_texts
use Rattle.nc_ops.specs.declared.texts.SpotText.{SpotText}
use Rattle.nc_ops.specs.declared.texts.SpotText.TheVariants as spot_texts
use Rattle.nc_ops.specs.declared.arguments.Counts.{Counts}
use Rattle.nc_values.specs.declared.wrong.Wrong.{Wrong}
use Rattle.nc_values.specs.declared.wrong.Wrong.TheVariants.{Shape, Limit}
use Rattle.nc_values.specs.Json.{items_len}
use Rattle.nc_values.specs.Outcomes.{◌>>=◌, shaped, each, check_each}
use Rattle.nc_ops.specs.Texts.{spot_in, bus_in}
use Rattle.nc_values.specs.Values.{number_of, text_of, list_of, cbo_of, most, wide, below, label_in, hart_in, chan_in, dir_in, once}

-- ---- arguments

abbrev pub spot_of : Data → Result SpotText Wrong
spot_of d = text_of d >>= λ text. shaped (spot_in text)

abbrev pub spot_there : ℕ → SpotText → Result Spot Wrong
spot_there buffers (spot_texts.Buffer n) = below buffers n >>= λ b. Ok (spots.Buffer b)
spot_there buffers (spot_texts.Area n) = label_in n >>= λ l. Ok (spots.Area l)
spot_there buffers spot_texts.Virtual = Ok spots.Virtual

-- a number, or a text
abbrev pub bus_or_text : Option ℕ → Data → Result BusText Wrong
bus_or_text (Some n) d = Ok (bus_texts.At n)
bus_or_text None d = text_of d >>= λ text. shaped (bus_in text)

abbrev pub bus_of : Data → Result BusText Wrong
bus_of d = bus_or_text (option_and_then as_u64 (as_number d)) d

abbrev pub bus_there : BusText → Result BusArg Wrong
bus_there (bus_texts.At n) = Ok (bus.At n)
bus_there (bus_texts.Map n) = label_in n >>= λ l. Ok (bus.Map l)
bus_there (bus_texts.Segment n s) = label_in n >>= λ l. wide s >>= λ s. Ok (bus.Segment l s)
bus_there (bus_texts.Area n) = label_in n >>= λ l. Ok (bus.Area l)

-- hexadecimal digits in pairs, of either case
abbrev pub decoded : Result (List ℕ) FromHexError → Result (List ℕ) Wrong
decoded (Ok bytes) = Ok bytes
decoded (Err e) = Err Shape

abbrev pub hex_of : Data → Result (List ℕ) Wrong
hex_of d = text_of d >>= λ text. decoded (decode_of text)

abbrev pub few_bytes : List ℕ → Result (List ℕ) Wrong
few_bytes bytes = if nat_le (length bytes) 4096 then Ok bytes else Err (Limit (length bytes))

-- ---- entries of a scatter list

abbrev pub entry_items : Items → Result (ℕ × ℕ × ℕ) Wrong
entry_items (item a (item b (item c no_items))) = number_of a >>= λ buf. number_of b >>= λ off. number_of c >>= λ len. Ok (buf, off, len)
entry_items _ = Err Shape

-- the three numbers of an entry
unfoldable pub entry_numbers : Data → Result (ℕ × ℕ × ℕ) Wrong
entry_numbers d = list_of d >>= entry_items

unfoldable pub entry_of : ℕ → Data → Result SgEntry Wrong
entry_of buffers d = do
  numbers ← entry_numbers d
  buf ← below buffers numbers.0
  off ← wide numbers.1
  len ← wide numbers.2
  Ok (record { buf = buf; off = off; len = len })

-- at most 16 entries
abbrev pub few_entries : ℕ → Items → Result (List SgEntry) Wrong
few_entries buffers items = if nat_le (items_len items) 16 then each (λ i d. entry_of buffers d) 0 items else Err (Limit (items_len items))

-- ---- operations of several arguments

unfoldable pub ld_of : Counts → Data → Data → Data → Result Op Wrong
ld_of counts spot off len = do
  spot ← spot_of spot
  off ← number_of off
  len ← number_of len
  spot ← spot_there counts.buffers spot
  off ← wide off
  len ← most 4096 len
  Ok (Ld spot off len)

unfoldable pub st_of : Counts → Data → Data → Data → Result Op Wrong
st_of counts spot off bytes = do
  spot ← spot_of spot
  off ← number_of off
  bytes ← hex_of bytes
  spot ← spot_there counts.buffers spot
  off ← wide off
  bytes ← few_bytes bytes
  Ok (St spot off bytes)

unfoldable pub cbo_op : Counts → Data → Data → Data → Result Op Wrong
cbo_op counts op buf off = do
  op ← cbo_of op
  buf ← number_of buf
  off ← number_of off
  buf ← below counts.buffers buf
  off ← wide off
  Ok (Cbo op buf off)

unfoldable pub fence_of : Data → Data → Result Op Wrong
fence_of pred succ = do
  pred ← number_of pred
  succ ← number_of succ
  pred ← most 15 pred
  succ ← most 15 succ
  Ok (Fence pred succ)

unfoldable pub map_of : Counts → Data → Data → Data → Data → Data → Data → Result Op Wrong
map_of counts label buf off len dir chan = do
  label ← number_of label
  buf ← number_of buf
  off ← number_of off
  len ← number_of len
  dir ← number_of dir
  chan ← number_of chan
  label ← label_in label
  buf ← below counts.buffers buf
  off ← wide off
  len ← wide len
  dir ← dir_in dir
  chan ← chan_in chan
  Ok (Map label buf off len dir chan)

unfoldable pub map_sg_of : Counts → Data → Data → Data → Data → Result Op Wrong
map_sg_of counts label entries dir chan = do
  label ← number_of label
  items ← list_of entries
  known ← check_each (λ i d. entry_numbers d) 0 items
  dir ← number_of dir
  chan ← number_of chan
  label ← label_in label
  entries ← few_entries counts.buffers items
  dir ← dir_in dir
  chan ← chan_in chan
  Ok (MapSg label entries dir chan)

unfoldable pub unmap_sg_of : Data → Data → Result Op Wrong
unmap_sg_of label n = do
  label ← number_of label
  n ← number_of n
  label ← label_in label
  n ← wide n
  Ok (UnmapSg label n)

unfoldable pub calloc_of : Data → Data → Data → Result Op Wrong
calloc_of label pages chan = do
  label ← number_of label
  pages ← number_of pages
  chan ← number_of chan
  label ← label_in label
  pages ← most 64 pages
  chan ← chan_in chan
  Ok (Calloc label pages chan)

unfoldable pub hand_of : Counts → Data → Data → Result Op Wrong
hand_of counts buf to = do
  buf ← number_of buf
  to ← number_of to
  buf ← below counts.buffers buf
  to ← hart_in counts.harts to
  Ok (Hand buf to)

unfoldable pub regs_of : Data → Data → Data → Data → Data → Result Op Wrong
regs_of chan src dst len cfg = do
  chan ← number_of chan
  src ← bus_of src
  dst ← bus_of dst
  len ← number_of len
  cfg ← number_of cfg
  chan ← chan_in chan
  src ← bus_there src
  dst ← bus_there dst
  cfg ← wide cfg
  Ok (Regs chan src dst len cfg)

unfoldable pub regr_of : Data → Data → Data → Result Op Wrong
regr_of chan off width = do
  chan ← number_of chan
  off ← number_of off
  width ← number_of width
  chan ← chan_in chan
  off ← most 4095 off
  width ← most 8 width
  Ok (Regr chan off width)

unfoldable pub regw_of : Data → Data → Data → Data → Result Op Wrong
regw_of chan off width value = do
  chan ← number_of chan
  off ← number_of off
  width ← number_of width
  value ← number_of value
  chan ← chan_in chan
  off ← most 4095 off
  width ← most 8 width
  Ok (Regw chan off width value)

unfoldable pub copy_of : Counts → Data → Data → Data → Data → Data → Data → Data → Result Op Wrong
copy_of counts chan src src_off dst dst_off len cfg = do
  chan ← number_of chan
  src ← number_of src
  src_off ← number_of src_off
  dst ← number_of dst
  dst_off ← number_of dst_off
  len ← number_of len
  cfg ← number_of cfg
  chan ← chan_in chan
  src ← below counts.buffers src
  src_off ← wide src_off
  dst ← below counts.buffers dst
  dst_off ← wide dst_off
  len ← wide len
  cfg ← once cfg
  Ok (Copy chan src src_off dst dst_off len cfg)

-- ---- operations by their number of arguments

-- on one label
abbrev pub label_op : List ℕ → Data → Result Op Wrong
label_op name a =
    if bytes_eq name (codes "unmap") then (number_of a >>= label_in >>= λ l. Ok (Unmap l))
    else (if bytes_eq name (codes "to_cpu") then (number_of a >>= label_in >>= λ l. Ok (ToCpu l))
    else (if bytes_eq name (codes "to_dev") then (number_of a >>= label_in >>= λ l. Ok (ToDev l))
    else (if bytes_eq name (codes "cgive") then (number_of a >>= label_in >>= λ l. Ok (Cgive l))
    else (if bytes_eq name (codes "ctake") then (number_of a >>= label_in >>= λ l. Ok (Ctake l))
    else (if bytes_eq name (codes "cfree") then (number_of a >>= label_in >>= λ l. Ok (Cfree l)) else Err Shape)))))

-- on one buffer or channel, or on a label
abbrev pub op_1 : Counts → List ℕ → Data → Result Op Wrong
op_1 counts name a =
    if bytes_eq name (codes "take") then (number_of a >>= below counts.buffers >>= λ b. Ok (Take b))
    else (if bytes_eq name (codes "claim") then (number_of a >>= chan_in >>= λ c. Ok (Claim c))
    else (if bytes_eq name (codes "free") then (number_of a >>= chan_in >>= λ c. Ok (Free c))
    else (if bytes_eq name (codes "run") then (number_of a >>= chan_in >>= λ c. Ok (Run c))
    else (if bytes_eq name (codes "poll") then (number_of a >>= chan_in >>= λ c. Ok (Poll c)) else label_op name a))))

abbrev pub op_2 : Counts → List ℕ → Data → Data → Result Op Wrong
op_2 counts name a b =
    if bytes_eq name (codes "fence") then fence_of a b
    else (if bytes_eq name (codes "unmap_sg") then unmap_sg_of a b
    else (if bytes_eq name (codes "hand") then hand_of counts a b else Err Shape))

abbrev pub op_3 : Counts → List ℕ → Data → Data → Data → Result Op Wrong
op_3 counts name a b c =
    if bytes_eq name (codes "ld") then ld_of counts a b c
    else (if bytes_eq name (codes "st") then st_of counts a b c
    else (if bytes_eq name (codes "cbo") then cbo_op counts a b c
    else (if bytes_eq name (codes "calloc") then calloc_of a b c
    else (if bytes_eq name (codes "regr") then regr_of a b c else Err Shape))))

abbrev pub op_4 : Counts → List ℕ → Data → Data → Data → Data → Result Op Wrong
op_4 counts name a b c d =
    if bytes_eq name (codes "map_sg") then map_sg_of counts a b c d
    else (if bytes_eq name (codes "regw") then regw_of a b c d else Err Shape)

abbrev pub op_5 : List ℕ → Data → Data → Data → Data → Data → Result Op Wrong
op_5 name a b c d e = if bytes_eq name (codes "regs") then regs_of a b c d e else Err Shape

abbrev pub op_6 : Counts → List ℕ → Data → Data → Data → Data → Data → Data → Result Op Wrong
op_6 counts name a b c d e f = if bytes_eq name (codes "map") then map_of counts a b c d e f else Err Shape

abbrev pub op_7 : Counts → List ℕ → Data → Data → Data → Data → Data → Data → Data → Result Op Wrong
op_7 counts name a b c d e f g = if bytes_eq name (codes "copy") then copy_of counts a b c d e f g else Err Shape

-- by what stands behind the name
abbrev pub op_named : Counts → List ℕ → Items → Result Op Wrong
op_named counts name (item a no_items) = op_1 counts name a
op_named counts name (item a (item b no_items)) = op_2 counts name a b
op_named counts name (item a (item b (item c no_items))) = op_3 counts name a b c
op_named counts name (item a (item b (item c (item d no_items)))) = op_4 counts name a b c d
op_named counts name (item a (item b (item c (item d (item e no_items))))) = op_5 name a b c d e
op_named counts name (item a (item b (item c (item d (item e (item f no_items)))))) = op_6 counts name a b c d e f
op_named counts name (item a (item b (item c (item d (item e (item f (item g no_items))))))) = op_7 counts name a b c d e f g
op_named counts name _ = Err Shape

abbrev pub op_items : Counts → Items → Result Op Wrong
op_items counts (item name arguments) = text_of name >>= λ name. op_named counts name arguments
op_items counts no_items = Err Shape

-- the operation that a value is, in a scenario with so many harts and buffers
unfoldable pub op_of : Counts → Data → Result Op Wrong
op_of counts d = list_of d >>= op_items counts
