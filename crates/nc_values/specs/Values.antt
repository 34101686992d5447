-- Single values: first their shapes, then their limits.
use Rattle.std.specs.Prelude.{◌≡◌, ◌≤◌, ℕ, ◌-◌, ◌/◌, ◌^◌, ◌%◌, ◌==◌, ◌&&◌, ◌||◌, List, Bool, true, false, nat_lt, nat_le, codes, if◌then◌else◌, Result, Ok, Err, option_and_then}
use Rattle.std.specs.Str.{bytes_eq}
use Rattle.nc_num.specs.declared.names.ChanNo.{ChanNo}
use Rattle.nc_num.specs.declared.names.Dir.{Dir}
use Rattle.nc_num.specs.declared.names.Dir.TheVariants.{Both, ToDev, FromDev}
use Rattle.nc_num.specs.declared.names.HartNo.{HartNo}
use Rattle.nc_num.specs.declared.names.Label.{Label}
use Rattle.nc_env.specs.declared.CboOp.{CboOp}
use Rattle.nc_env.specs.declared.CboOp.TheVariants.{Clean, Flush, Inval, Zero}
use Rattle.nc_env.specs.declared.Mode.{Mode}
use Rattle.nc_env.specs.declared.Mode.TheVariants.{M, S, U}
use Rattle.nc_env.specs.Enables.{cbie}
use Rattle.nc_pte.specs.Words.{flags_of, page_of, reserved_of, napot_of, first_page}
use Rattle.serde_json.specs.Data.{Data, Items}
use Rattle.serde_json.specs.Find.{get, as_number, as_u64, as_array, as_str, as_bool}
use Rattle.nc_values.specs.declared.refused.Refused.{Refused}
use Rattle.nc_values.specs.declared.wrong.Wrong.{Wrong}
use Rattle.nc_values.specs.declared.wrong.Wrong.TheVariants.{Shape, Limit}
use Rattle.nc_values.specs.Json.{items_len}
use Rattle.nc_values.specs.Outcomes.{◌>>=◌, placed, shaped}
use Rattle.nc_values.specs.Paths.{under}

-- ---- shapes

-- a whole number from 0 to 2^64 - 1
abbrev pub number_of : Data → Result ℕ Wrong
number_of d = shaped (option_and_then as_u64 (as_number d))

abbrev pub text_of : Data → Result (List ℕ) Wrong
text_of d = shaped (as_str d)

abbrev pub list_of : Data → Result Items Wrong
list_of d = shaped (as_array d)

abbrev pub truth_of : Data → Result Bool Wrong
truth_of d = shaped (as_bool d)

abbrev pub mode_named : List ℕ → Result Mode Wrong
mode_named text = if bytes_eq text (codes "M") then Ok M else (if bytes_eq text (codes "S") then Ok S else (if bytes_eq text (codes "U") then Ok U else Err Shape))

abbrev pub mode_of : Data → Result Mode Wrong
mode_of d = text_of d >>= mode_named

-- whether fences are light
abbrev pub fences_named : List ℕ → Result Bool Wrong
fences_named text = if bytes_eq text (codes "full") then Ok false else (if bytes_eq text (codes "light") then Ok true else Err Shape)

abbrev pub fences_of : Data → Result Bool Wrong
fences_of d = text_of d >>= fences_named

abbrev pub cbo_named : List ℕ → Result CboOp Wrong
cbo_named text = if bytes_eq text (codes "clean") then Ok Clean else (if bytes_eq text (codes "flush") then Ok Flush else (if bytes_eq text (codes "inval") then Ok Inval else (if bytes_eq text (codes "zero") then Ok Zero else Err Shape)))

abbrev pub cbo_of : Data → Result CboOp Wrong
cbo_of d = text_of d >>= cbo_named

-- ---- limits

abbrev pub limited : Bool → ℕ → Result ℕ Wrong
limited within n = if within then Ok n else Err (Limit n)

abbrev pub most : ℕ → ℕ → Result ℕ Wrong
most top n = limited (nat_le n top) n

abbrev pub wide : ℕ → Result ℕ Wrong
wide n = most (2 ^ 32 - 1) n

abbrev pub below : ℕ → ℕ → Result ℕ Wrong
below bound n = limited (nat_lt n bound) n

-- a list of so many values
abbrev pub sized : ℕ → ℕ → Items → Result Items Wrong
sized least top items = if nat_le least (items_len items) && nat_le (items_len items) top then Ok items else Err (Limit (items_len items))

abbrev pub number_to : ℕ → Data → Result ℕ Wrong
number_to top d = number_of d >>= most top

abbrev pub number_under : ℕ → Data → Result ℕ Wrong
number_under bound d = number_of d >>= below bound

abbrev pub sized_of : ℕ → ℕ → Data → Result Items Wrong
sized_of least top d = list_of d >>= sized least top

abbrev pub FitsLabel : Label → Type 0
FitsLabel l = l.0 ≤ 999

abbrev pub label_in : ℕ → Result Label Wrong
label_in n = most 999 n >>= λ n. Ok (record { 0 = n })

abbrev pub hart_in : ℕ → ℕ → Result HartNo Wrong
hart_in harts n = below harts n >>= λ n. Ok (record { 0 = n })

abbrev pub chan_in : ℕ → Result ChanNo Wrong
chan_in n = below 4 n >>= λ n. Ok (record { 0 = n })

abbrev pub dir_in : ℕ → Result Dir Wrong
dir_in n = if n == 0 then Ok Both else (if n == 1 then Ok ToDev else (if n == 2 then Ok FromDev else Err (Limit n)))

-- the repeat bit of a Config value is not set
abbrev pub HasNoRepeat : ℕ → Type 0
HasNoRepeat cfg = cfg / 4 % 2 ≡ 0

-- a Config value without the repeat bit
abbrev pub once : ℕ → Result ℕ Wrong
once cfg = limited (nat_lt cfg (2 ^ 32) && cfg / 4 % 2 == 0) cfg

-- an environment register, whose CBIE is not the reserved 10 (CMO 1.0)
abbrev pub register_of : Data → Result ℕ Wrong
register_of d = number_of d >>= λ n. if cbie n == 2 then Err (Limit n) else Ok n

-- a leaf PTE word of this project's profile, for a RAM of so many bytes
abbrev pub is_word : ℕ → ℕ → Bool
is_word ram word = flags_of word == 199 && reserved_of word == 0 && napot_of word == 0 && nat_le first_page (page_of word) && nat_lt (page_of word - first_page) (ram / 4096)

abbrev pub word_of : ℕ → Data → Result ℕ Wrong
word_of ram d = number_of d >>= λ word. limited (is_word ram word) word

-- 32, 64 or 128 bytes
abbrev pub is_size : ℕ → Bool
is_size n = n == 32 || n == 64 || n == 128

abbrev pub is_ram : ℕ → Bool
is_ram n = n % 4096 == 0 && nat_le 4096 n && nat_le n 1048576

-- ---- the values of an object's keys

-- the value of a key that must be there
abbrev pub got : {A : Type 0} → (Data → Result A Wrong) → List ℕ → Data → Result A Wrong
got of key d = shaped (get key d) >>= of

abbrev pub field : {A : Type 0} → (Data → Result A Wrong) → List ℕ → List ℕ → Data → Result A Refused
field of path key d = placed (under path key) (got of key d)

-- a number that must be there
abbrev pub number_at : List ℕ → List ℕ → Data → Result ℕ Refused
number_at path key d = field number_of path key d

abbrev pub number_to_at : ℕ → List ℕ → List ℕ → Data → Result ℕ Refused
number_to_at top path key d = field (number_to top) path key d

abbrev pub list_at : ℕ → ℕ → List ℕ → List ℕ → Data → Result Items Refused
list_at least top path key d = field (sized_of least top) path key d
