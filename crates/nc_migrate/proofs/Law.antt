-- What is written is the compact text of the moved value, and reads as the input with version 2.
use Rattle.std.proofs.Common.{◌≡◌, ℕ, suc, zero, ◌<◌, ◌≤◌, ◌^◌, Bool, true, false, List, [], ◌∷◌, ◌++◌, length, Result, Ok, Err, Option, Some, None, refl, sym, ap, ◌∙◌, arith, inl, inr}
use Rattle.std.specs.Prelude.{◌⊎◌, ◌==◌, nat_lt, codes, if◌then◌else◌, option_and_then, IsUtf8}
use Rattle.std.specs.Str.{is_utf8}
use Rattle.std.specs.declared.cmp.Ordering.{Ordering}
use Rattle.std.specs.declared.cmp.Ordering.TheVariants.{Less, Equal, Greater}
use Rattle.std.specs.Ordering.{nat_cmp, match_ordering}
use Rattle.std.specs.Cmp.Lexicographic.{slice_cmp}
use Rattle.std.proofs.lemmas.Bool.Decides.{nat_tests}
use Rattle.std.proofs.lemmas.Str.{IsUtf8-append, is_utf8-from_IsUtf8, IsUtf8-from_ascii}
use Rattle.std.proofs.lemmas.Str.Ascii.{IsAscii-cons, IsAscii-nil}
use Rattle.json.specs.Json as json
use Rattle.serde_json.specs.Data.{unsigned, Data, null, boolean, number, string, array, object, Members, no_members, member, put, depth, members_depth}
use Rattle.serde_json.specs.Read.{read, of_json, max_depth}
use Rattle.serde_json.specs.Written.{has_float, compact_text}
use Rattle.serde_json.proofs.Nesting.{depth-read}
use Rattle.nc_values.specs.declared.refused.Refused.{Refused}
use Rattle.nc_values.specs.declared.refused.Refused.TheVariants as refusals
use Rattle.nc_values.specs.Json.{json_of, json_value}
use Rattle.nc_values.specs.Outcomes.{◌>>=◌}
use Rattle.nc_scen.specs.declared.scenario.Scenario.{Scenario}
use Rattle.nc_scen.specs.Reading.{most_bytes, reading, scenario_of}
use Rattle.nc_migrate.specs.Migrating.{raised, raised_value, moved, line, migrated, as_version_2, KeepsReading}
use Rattle.nc_migrate.proofs.Binds.{ok_first, if_not}
use Rattle.nc_migrate.proofs.Read.{read_is}
use Rattle.nc_migrate.proofs.Plain.{IsPlain, MembersPlain, plain_float}
use Rattle.nc_migrate.proofs.Accepted.{scenario_plain}
use Rattle.nc_migrate.proofs.Raised.{raised_scenario, keyed_object}
use Rattle.nc_migrate.proofs.LineEnd.{line_tokens}

-- ---- the moved value is plain

put_plain_at : (o : Ordering) (k l : List ℕ) (d e : Data) (ms : Members) → IsPlain d → MembersPlain (member l e ms) → MembersPlain (put k d ms) → MembersPlain (match_ordering o (member k d (member l e ms)) (member l d ms) (member l e (put k d ms)))
unfolding MembersPlain
put_plain_at Less k l d e ms new all later = (new, all)
put_plain_at Equal k l d e ms new all later = (new, all.1)
put_plain_at Greater k l d e ms new all later = (all.0, later)

put_plain : (k : List ℕ) (d : Data) (ms : Members) → IsPlain d → MembersPlain ms → MembersPlain (put k d ms)
unfolding MembersPlain
put_plain k d no_members new all = (new, tt)
put_plain k d (member l e ms) new all = put_plain_at (slice_cmp nat_cmp k l) k l d e ms new all (put_plain k d ms new all.1)

number_is_plain : (n : ℕ) → n < 2 ^ 64 → IsPlain (number (unsigned n))
unfolding IsPlain
number_is_plain n lt = lt

raised_plain : (ms : Members) → MembersPlain ms → MembersPlain (raised ms)
raised_plain ms all =
    let two = number_is_plain 2 (omega arith) in
    let size = number_is_plain 64 (omega arith) in
    put_plain (codes "zero") (number (unsigned 64)) _ size (put_plain (codes "block") (number (unsigned 64)) _ size (put_plain (codes "version") (number (unsigned 2)) ms two all))

raised_value_plain : (d : Data) → IsPlain d → IsPlain (raised_value d)
unfolding IsPlain
raised_value_plain null is = is
raised_value_plain (boolean b) is = is
raised_value_plain (number n) is = is
raised_value_plain (string s) is = is
raised_value_plain (array ds) is = is
raised_value_plain (object ms) is = raised_plain ms is

either_plain : (b : Bool) (d : Data) → IsPlain d → IsPlain (if b then raised_value d else d)
either_plain true d is = raised_value_plain d is
either_plain false d is = is

-- ---- what was read

pub record IsInput (bytes : List ℕ) (sc : Scenario) (d : Data) : Type 0 where
  pub json : json_of bytes ≡ Some d
  pub scenario : scenario_of d ≡ Ok sc

json_some : (o : Option Data) (d : Data) → json_value o ≡ Ok d → o ≡ Some d
json_some None d e = absurd cc
json_some (Some c) d e = let same : c ≡ d = cc in ap Some same

json_ok : (o : Option Data) (d : Data) → o ≡ Some d → json_value o ≡ Ok d
json_ok o d e = ap json_value e

data_is : (a b : Data) → (let r : Result Data Refused = Ok a in r) ≡ Ok b → a ≡ b
data_is a b e = cc

pub input : (bytes : List ℕ) (sc : Scenario) (d : Data) → reading bytes ≡ Ok sc → json_value (json_of bytes) ≡ Ok d → IsInput bytes sc d
unfolding reading
input bytes sc d e f =
    let a = if_not (nat_lt most_bytes (length bytes)) (json_value (json_of bytes) >>= scenario_of) refusals.TooLong sc e in
    let b = ok_first (json_value (json_of bytes)) scenario_of sc a.1 in
    let same : b.0 ≡ d = data_is b.0 d (sym b.1 ∙ f) in
    record { json = json_some (json_of bytes) d f; scenario = ap scenario_of (sym same) ∙ b.2 }

pub moved_plain : (bytes : List ℕ) (sc : Scenario) (d : Data) → IsInput bytes sc d → IsPlain (moved sc.version d)
moved_plain bytes sc d i = either_plain (sc.version == 1) d (scenario_plain d sc (read_is bytes d i.json) i.scenario)

pub moved_whole : (bytes : List ℕ) (sc : Scenario) (d : Data) → IsInput bytes sc d → has_float (moved sc.version d) ≡ false
moved_whole bytes sc d i = plain_float (moved sc.version d) (moved_plain bytes sc d i)

pub migrated_is : (bytes : List ℕ) (sc : Scenario) (d : Data) → reading bytes ≡ Ok sc → json_value (json_of bytes) ≡ Ok d → migrated bytes ≡ Ok (line (moved sc.version d))
migrated_is bytes sc d e f =
    ap (λ (r : Result Scenario Refused). r >>= (λ sc. json_value (json_of bytes) >>= λ d. Ok (moved sc.version d)) >>= λ d. Ok (line d)) e
    ∙ ap (λ (r : Result Data Refused). r >>= (λ d. Ok (moved sc.version d)) >>= λ d. Ok (line d)) f

-- ---- how deep it nests

put_depth_at : (o : Ordering) (k l : List ℕ) (d e : Data) (ms : Members) (n : ℕ) → depth d ≤ n → members_depth (member l e ms) ≤ n → members_depth (put k d ms) ≤ n → members_depth (match_ordering o (member k d (member l e ms)) (member l d ms) (member l e (put k d ms))) ≤ n
put_depth_at Less k l d e ms n new all later = omega arith
put_depth_at Equal k l d e ms n new all later = omega arith
put_depth_at Greater k l d e ms n new all later = omega arith

put_depth : (k : List ℕ) (d : Data) (ms : Members) (n : ℕ) → depth d ≤ n → members_depth ms ≤ n → members_depth (put k d ms) ≤ n
put_depth k d no_members n new all = omega arith
put_depth k d (member l e ms) n new all = put_depth_at (slice_cmp nat_cmp k l) k l d e ms n new all (put_depth k d ms n new (omega arith))

raised_depth : (ms : Members) (n : ℕ) → members_depth ms ≤ n → members_depth (raised ms) ≤ n
raised_depth ms n all =
    let flat : 0 ≤ n = omega arith in
    put_depth (codes "zero") (number (unsigned 64)) _ n flat (put_depth (codes "block") (number (unsigned 64)) _ n flat (put_depth (codes "version") (number (unsigned 2)) ms n flat all))

raised_value_depth : (d : Data) (n : ℕ) → depth d ≤ n → depth (raised_value d) ≤ n
raised_value_depth null n le = le
raised_value_depth (boolean b) n le = le
raised_value_depth (number x) n le = le
raised_value_depth (string s) n le = le
raised_value_depth (array ds) n le = le
raised_value_depth (object ms) zero le = absurd (omega arith)
raised_value_depth (object ms) (suc n) le = let more : members_depth (raised ms) ≤ n = raised_depth ms n (omega arith) in omega arith

either_depth : (b : Bool) (d : Data) (n : ℕ) → depth d ≤ n → depth (if b then raised_value d else d) ≤ n
either_depth true d n le = raised_value_depth d n le
either_depth false d n le = le

if_utf8 : (b : Bool) (o : Option Data) (d : Data) → (if b then o else None) ≡ Some d → (b ≡ true) × (o ≡ Some d)
if_utf8 true o d e = (refl, e)
if_utf8 false o d e = absurd cc

moved_depth : (bytes : List ℕ) (sc : Scenario) (d : Data) → IsInput bytes sc d → depth (moved sc.version d) ≤ max_depth
moved_depth bytes sc d i = either_depth (sc.version == 1) d max_depth (depth-read bytes d (if_utf8 (is_utf8 bytes) (read bytes) d i.json).1)

-- ---- what is read of what was written

-- a text that stands for a value
pub record IsText (text : List ℕ) (d : Data) : Type 0 where
  pub is : has_float d ≡ false → text ≡ compact_text d
  pub utf8 : IsUtf8 text
  pub back : depth d ≤ max_depth → read text ≡ Some d

read_line : (d : Data) → IsPlain d → read (compact_text d ++ 10 ∷ []) ≡ read (compact_text d)
read_line d is = ap (λ ts. option_and_then of_json (option_and_then (λ p. json.if_last p.0 p.1) (json.value max_depth ts))) (line_tokens d is)

json_when : (bytes : List ℕ) (d : Data) → is_utf8 bytes ≡ true → read bytes ≡ Some d → json_of bytes ≡ Some d
json_when bytes d u e = ap (λ b. if b then read bytes else None) u ∙ e

feed_is_text : IsUtf8 (10 ∷ [])
feed_is_text = IsUtf8-from_ascii (10 ∷ []) (IsAscii-cons 10 [] (omega arith) IsAscii-nil)

line_json : (text : List ℕ) (d : Data) → IsPlain d → depth d ≤ max_depth → IsText text d → json_of (text ++ 10 ∷ []) ≡ Some d
line_json text d is shallow t =
    let same : text ≡ compact_text d = t.is (plain_float d is) in
    json_when (text ++ 10 ∷ []) d (is_utf8-from_IsUtf8 (text ++ 10 ∷ []) (IsUtf8-append text (10 ∷ []) t.utf8 feed_is_text))
    (ap (λ s. read (s ++ 10 ∷ [])) same ∙ read_line d is ∙ ap read (sym same) ∙ t.back shallow)

moved_scenario : (sc : Scenario) (d : Data) → (sc.version ≡ 1) ⊎ (sc.version ≡ 2) → scenario_of d ≡ Ok sc → scenario_of (moved sc.version d) ≡ Ok (as_version_2 sc)
moved_scenario sc d (inl one) e =
    let o = keyed_object d sc e in
    ap (λ v. scenario_of (moved v d)) one
    ∙ ap (λ (c : Data). scenario_of (raised_value c)) o.1
    ∙ raised_scenario o.0 sc one (ap scenario_of (sym o.1) ∙ e)
moved_scenario sc d (inr two) e =
    ap (λ v. scenario_of (moved v d)) two ∙ e ∙ (λ k. let s : Scenario = record sc { version = two k } in Ok s)

not_above : (n : ℕ) → n ≤ most_bytes → nat_lt most_bytes n ≡ false
not_above n le = grind (arith, nat_tests)

reading_is : (text : List ℕ) (d : Data) → length text ≤ most_bytes → json_of text ≡ Some d → reading text ≡ scenario_of d
unfolding reading
reading_is text d le e =
    ap (λ b. if b then (let r : Result Scenario Refused = Err refusals.TooLong in r) else json_value (json_of text) >>= scenario_of) (not_above (length text) le)
    ∙ ap (λ o. json_value o >>= scenario_of) e

moved_again : (v : ℕ) (d : Data) → v ≡ 2 → moved v d ≡ d
moved_again v d e = ap (λ v. moved v d) e

scenario_same : (a b : Scenario) → (let r : Result Scenario Refused = Ok a in r) ≡ Ok b → a ≡ b
scenario_same a b e = cc

pub keeps_reading : (bytes text : List ℕ) (sc : Scenario) (d : Data) → reading bytes ≡ Ok sc → IsInput bytes sc d → (sc.version ≡ 1) ⊎ (sc.version ≡ 2) → IsText text (moved sc.version d) → KeepsReading bytes (text ++ 10 ∷ [])
keeps_reading bytes text sc d e i version t =
    let m : Data = moved sc.version d in
    let plain = moved_plain bytes sc d i in
    let json : json_of (text ++ 10 ∷ []) ≡ Some m = line_json text m plain (moved_depth bytes sc d i) t in
    let scenario = moved_scenario sc d version i.scenario in
    let same : text ≡ compact_text m = t.is (plain_float m plain) in
    record {
      reads = λ le other f. reading_is (text ++ 10 ∷ []) m le json ∙ scenario ∙ ap (λ (s : Scenario). Ok (as_version_2 s)) (scenario_same sc other (sym e ∙ f));
      again = λ le.
          migrated_is (text ++ 10 ∷ []) (as_version_2 sc) m (reading_is (text ++ 10 ∷ []) m le json ∙ scenario) (json_ok (json_of (text ++ 10 ∷ [])) m json)
          ∙ ap (λ (c : Data). Ok (line c)) (moved_again 2 m refl)
          ∙ ap (λ s. Ok (s ++ 10 ∷ [])) (sym same);
    }
