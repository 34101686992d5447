-- What holds of each value that is read from a text: its numbers are of 64 bits, and its objects have their keys in order.
use Rattle.std.proofs.Common.{◌≡◌, ℕ, ℤ, Float, drop, ◌<◌, ◌^◌, Bool, true, false, List, Option, Some, None, refl, ap, subst, ◌∙◌, arith}
use Rattle.std.specs.Prelude.{slice_index, ◌&&◌, nat_lt, nat_le, ◌==◌, if◌then◌else◌, option_map, option_and_then}
use Rattle.std.specs.declared.cmp.Ordering.{Ordering}
use Rattle.std.specs.declared.cmp.Ordering.TheVariants.{Less, Equal, Greater}
use Rattle.std.specs.Ordering.{nat_cmp, match_ordering, ordering_reverse}
use Rattle.std.specs.Float.{binary64, float_is_finite}
use Rattle.std.specs.Str.{is_utf8}
use Rattle.json.specs.Lex.{tokens}
use Rattle.nc_values.specs.Json.{json_of}
use Rattle.std.specs.Cmp.Lexicographic.{slice_cmp, nat_list_cmp_total}
use Rattle.std.proofs.lemmas.Bool.Decides.{nat_tests}
use Rattle.fast_float.specs.Text.{Parts, scan, digits_of, minus, nearest, with_sign}
use Rattle.json.specs.Json as json
use Rattle.serde_json.specs.Data.{Num, unsigned, negative, float, Data, null, boolean, number, string, array, object, Items, no_items, item, Members, no_members, member, put}
use Rattle.serde_json.specs.Read.{number_of, number_from, float_of, is_integer, of_json, of_items, of_members, read, max_depth}

unfoldable pub IsSized : Num → Type 0
IsSized (unsigned n) = n < 2 ^ 64
IsSized (negative z) = Unit {0}
IsSized (float x) = Unit {0}

-- every key of these is above k
unfoldable pub AllAbove : List ℕ → Members → Type 0
AllAbove k no_members = Unit {0}
AllAbove k (member l e ms) = (slice_cmp nat_cmp k l ≡ Less) × AllAbove k ms

unfoldable mutual
  pub IsRead : Data → Type 0
  IsRead null = Unit {0}
  IsRead (boolean b) = Unit {0}
  IsRead (number n) = IsSized n
  IsRead (string s) = Unit {0}
  IsRead (array ds) = AreRead ds
  IsRead (object ms) = MembersRead ms

  pub AreRead : Items → Type 0
  AreRead no_items = Unit {0}
  AreRead (item d ds) = IsRead d × AreRead ds

  pub MembersRead : Members → Type 0
  MembersRead no_members = Unit {0}
  MembersRead (member k d ms) = AllAbove k ms × IsRead d × MembersRead ms

-- ---- the parts of what was read

pub item_read : (d : Data) (ds : Items) → AreRead (item d ds) → IsRead d × AreRead ds
unfolding AreRead
item_read d ds is = is

pub members_read : (ms : Members) → IsRead (object ms) → MembersRead ms
unfolding IsRead
members_read ms is = is

pub member_read : (k : List ℕ) (d : Data) (ms : Members) → MembersRead (member k d ms) → AllAbove k ms × IsRead d × MembersRead ms
unfolding MembersRead
member_read k d ms is = is

-- ---- numbers

float_sized : (b : Bool) (x : Float) (n : Num) → (if b then Some (float x) else None) ≡ Some n → IsSized n
unfolding IsSized
float_sized true x n e = let same : float x ≡ n = cc in subst IsSized same tt
float_sized false x n e = absurd cc

whole_sized : (b c : Bool) (m : ℕ) (o : Option Num) (n : Num) → (c ≡ true → m < 2 ^ 64) → (o ≡ Some n → IsSized n) → (if b && c then Some (unsigned m) else o) ≡ Some n → IsSized n
unfolding IsSized
whole_sized true true m o n fits more e = let same : unsigned m ≡ n = cc in subst IsSized same (fits refl)
whole_sized true false m o n fits more e = more e
whole_sized false c m o n fits more e = more e

below_sized : (b : Bool) (z : ℤ) (o : Option Num) (n : Num) → (o ≡ Some n → IsSized n) → (if b then Some (negative z) else o) ≡ Some n → IsSized n
unfolding IsSized
below_sized true z o n more e = let same : negative z ≡ n = cc in subst IsSized same tt
below_sized false z o n more e = more e

fits_64 : (m : ℕ) → nat_lt m (2 ^ 64) ≡ true → m < 2 ^ 64
fits_64 m e = grind (arith, nat_tests)

from_sized : (s : Bool) (p : Parts) (n : Num) → number_from s p ≡ Some n → IsSized n
from_sized false p n e = whole_sized (is_integer p) (nat_lt (digits_of p) (2 ^ 64)) (digits_of p) (float_of false p) n (fits_64 (digits_of p)) (λ f. float_sized (float_is_finite (nearest binary64 false p)) (nearest binary64 false p) n f) e
from_sized true p n e = below_sized (is_integer p && nat_lt 0 (digits_of p) && nat_le (digits_of p) (2 ^ 63)) (with_sign true (digits_of p)) (float_of true p) n (λ f. float_sized (float_is_finite (nearest binary64 true p)) (nearest binary64 true p) n f) e

either_sized : (b : Bool) (p q : Parts) (n : Num) → (if b then number_from true p else number_from false q) ≡ Some n → IsSized n
either_sized true p q n e = from_sized true p n e
either_sized false p q n e = from_sized false q n e

pub number_sized : (s : List ℕ) (n : Num) → number_of s ≡ Some n → IsSized n
unfolding number_of
number_sized s n e = either_sized (slice_index s 0 == minus) (scan (drop 1 s)) (scan s) n e

-- ---- members in order

above_all : (k l : List ℕ) (ms : Members) → slice_cmp nat_cmp k l ≡ Less → AllAbove l ms → AllAbove k ms
unfolding AllAbove
above_all k l no_members lt all = tt
above_all k l (member m e ms) lt all = (nat_list_cmp_total.trans k l m lt all.0, above_all k l ms lt all.1)

above_put_at : (o : Ordering) (l k m : List ℕ) (d e : Data) (ms : Members) → slice_cmp nat_cmp l k ≡ Less → AllAbove l (member m e ms) → AllAbove l (put k d ms)
    → AllAbove l (match_ordering o (member k d (member m e ms)) (member m d ms) (member m e (put k d ms)))
unfolding AllAbove
above_put_at Less l k m d e ms lt all later = (lt, all)
above_put_at Equal l k m d e ms lt all later = all
above_put_at Greater l k m d e ms lt all later = (all.0, later)

above_put : (l k : List ℕ) (d : Data) (ms : Members) → slice_cmp nat_cmp l k ≡ Less → AllAbove l ms → AllAbove l (put k d ms)
unfolding AllAbove
above_put l k d no_members lt all = (lt, tt)
above_put l k d (member m e ms) lt all = above_put_at (slice_cmp nat_cmp k m) l k m d e ms lt all (above_put l k d ms lt all.1)

turned : (k l : List ℕ) → slice_cmp nat_cmp k l ≡ Greater → slice_cmp nat_cmp l k ≡ Less
turned k l e = nat_list_cmp_total.antisymm l k ∙ ap ordering_reverse e

put_read_at : (o : Ordering) (k l : List ℕ) (d e : Data) (ms : Members) → slice_cmp nat_cmp k l ≡ o → IsRead d → AllAbove l ms → IsRead e → MembersRead ms → MembersRead (put k d ms)
    → MembersRead (match_ordering o (member k d (member l e ms)) (member l d ms) (member l e (put k d ms)))
unfolding MembersRead AllAbove
put_read_at Less k l d e ms is new above old rest later = ((is, above_all k l ms is above), new, (above, old, rest))
put_read_at Equal k l d e ms is new above old rest later = (above, new, rest)
put_read_at Greater k l d e ms is new above old rest later = (above_put l k d ms (turned k l is) above, old, later)

none_above : (k : List ℕ) → AllAbove k no_members
unfolding AllAbove
none_above k = tt

pub put_read : (k : List ℕ) (d : Data) (ms : Members) → IsRead d → MembersRead ms → MembersRead (put k d ms)
unfolding MembersRead
put_read k d no_members new rest = (none_above k, new, tt)
put_read k d (member l e ms) new rest = put_read_at (slice_cmp nat_cmp k l) k l d e ms refl new rest.0 rest.1 rest.2 (put_read k d ms new rest.2)

-- ---- the whole

some_of_map : {A B : Type 0} (P : Type 0) (f : A → B) (o : Option A) (b : B) → option_map f o ≡ Some b → ((a : A) → o ≡ Some a → f a ≡ b → P) → P
some_of_map P f None b e k = absurd cc
some_of_map P f (Some a) b e k = k a refl (let same : f a ≡ b = cc in same)

some_of_then : {A B : Type 0} (P : Type 0) (f : A → Option B) (o : Option A) (b : B) → option_and_then f o ≡ Some b → ((a : A) → o ≡ Some a → f a ≡ Some b → P) → P
some_of_then P f None b e k = absurd cc
some_of_then P f (Some a) b e k = k a refl e

mutual
  unfolding IsRead AreRead MembersRead

  json_read : (j : json.Json) (d : Data) → of_json j ≡ Some d → IsRead d
  json_read json.null d e = let same : null ≡ d = cc in subst IsRead same tt
  json_read (json.boolean b) d e = let same : boolean b ≡ d = cc in subst IsRead same tt
  json_read (json.number s) d e = some_of_map (IsRead d) number (number_of s) d e (λ n is same. subst IsRead same (number_sized s n is))
  json_read (json.string s) d e = let same : string s ≡ d = cc in subst IsRead same tt
  json_read (json.array js) d e = some_of_map (IsRead d) array (of_items js) d e (λ ds is same. subst IsRead same (json_items_read js ds is))
  json_read (json.object ms) d e = some_of_map (IsRead d) object (of_members ms no_members) d e (λ es is same. subst IsRead same (json_members_read ms no_members es tt is))

  json_items_read : (js : json.Items) (ds : Items) → of_items js ≡ Some ds → AreRead ds
  json_items_read json.no_items ds e = let same : no_items ≡ ds = cc in subst AreRead same tt
  json_items_read (json.item j js) ds e =
      some_of_then (AreRead ds) (λ d. option_map (item d) (of_items js)) (of_json j) ds e
      (λ d is more. some_of_map (AreRead ds) (item d) (of_items js) ds more (λ es are same. subst AreRead same (json_read j d is, json_items_read js es are)))

  json_members_read : (js : json.Members) (found ms : Members) → MembersRead found → of_members js found ≡ Some ms → MembersRead ms
  json_members_read json.no_members found ms is e = let same : found ≡ ms = cc in subst MembersRead same is
  json_members_read (json.member k j js) found ms is e =
      some_of_then (MembersRead ms) (λ d. of_members js (put k d found)) (of_json j) ms e
      (λ d read more. json_members_read js (put k d found) ms (put_read k d found (json_read j d read) is) more)

if_utf8 : (b : Bool) (o : Option Data) (d : Data) → (if b then o else None) ≡ Some d → o ≡ Some d
if_utf8 true o d e = e
if_utf8 false o d e = absurd cc

-- each value that is read is such a value
pub read_is : (bytes : List ℕ) (d : Data) → json_of bytes ≡ Some d → IsRead d
read_is bytes d e =
    some_of_then (IsRead d) of_json (option_and_then (λ p. json.if_last p.0 p.1) (json.value max_depth (tokens bytes))) d (if_utf8 (is_utf8 bytes) (read bytes) d e)
    (λ j is more. json_read j d more)
