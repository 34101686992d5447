-- A version 1 value moved to version 2 is the same scenario, with version 2.
use Rattle.std.proofs.Common.{◌≡◌, ℕ, ◌/◌, Bool, true, false, List, [], Result, Ok, Err, Option, Some, None, refl, sym, ap, ◌∙◌, arith}
use Rattle.std.specs.Prelude.{◌||◌, ◌==◌, codes, is_some, if◌then◌else◌, ⊤}
use Rattle.std.specs.Str.{bytes_eq}
use Rattle.std.specs.declared.cmp.Ordering.{Ordering}
use Rattle.std.specs.declared.cmp.Ordering.TheVariants.{Less, Equal, Greater}
use Rattle.std.specs.Ordering.{nat_cmp, match_ordering}
use Rattle.std.specs.Cmp.Lexicographic.{slice_cmp, bytes_decides}
use Rattle.serde_json.specs.Data.{unsigned, Data, null, boolean, number, string, array, object, Members, no_members, member, put}
use Rattle.serde_json.specs.Find.{get}
use Rattle.serde_json.proofs.Views.{get_member-put, get_member-put_other}
use Rattle.nc_values.specs.declared.refused.Refused.{Refused}
use Rattle.nc_values.specs.declared.refused.Refused.TheVariants.{Version}
use Rattle.nc_values.specs.declared.refused.Refused.TheVariants as refusals
use Rattle.nc_values.specs.Json.{items_len}
use Rattle.nc_values.specs.Outcomes.{◌>>=◌, placed, shaped, each, check_each}
use Rattle.nc_values.specs.Paths.{under}
use Rattle.nc_values.specs.Values.{number_of, sized_of}
use Rattle.nc_scen.specs.declared.keys.Keys.TheVariants as keys
use Rattle.nc_scen.specs.declared.format.Format.{Format}
use Rattle.nc_scen.specs.declared.regions.RegionKind.TheVariants as kinds
use Rattle.nc_scen.specs.declared.scenario.Scenario.{Scenario}
use Rattle.nc_scen.specs.Keys.{knows, first_unknown, keyed, no_unknown}
use Rattle.nc_scen.specs.Parts.{version_of, absent, size_in, size_at, fences_or_full, old_format, new_format, format_of, ram_in, ram_of, hart_checked, words_or_none, buffer_at, region_or_none, reach_or_ram, least_reach, finish_or_true, limit_or_default}
use Rattle.nc_scen.specs.Reading.{land_of, plan_of, plan_checked, schedule_of, schedule_read, schedule_checked, terms_of, harts_known, harts_of, apart, scenario_of}
use Rattle.nc_migrate.specs.Migrating.{raised}
use Rattle.nc_migrate.proofs.Binds.{ok_then, ok_first}

differ : (a b : List ℕ) → bytes_eq a b ≡ false → a ≡ b → ⊥
differ a b off e = let both : true ≡ false = sym ((bytes_decides a b).1 e) ∙ off in cc

ok_step : {A B E : Type 0} (r : Result A E) (f : A → Result B E) (v : A) → r ≡ Ok v → (r >>= f) ≡ f v
ok_step r f v e = ap (λ r. r >>= f) e

-- ---- what stands at a key

same_at : (ms : Members) (k : List ℕ) → bytes_eq k (codes "zero") ≡ false → bytes_eq k (codes "block") ≡ false → bytes_eq k (codes "version") ≡ false → get k (object (raised ms)) ≡ get k (object ms)
same_at ms k z b v =
    let one = put (codes "version") (number (unsigned 2)) ms in
    let two = put (codes "block") (number (unsigned 64)) one in
    get_member-put_other k (codes "zero") (number (unsigned 64)) two (differ k (codes "zero") z)
    ∙ get_member-put_other k (codes "block") (number (unsigned 64)) one (differ k (codes "block") b)
    ∙ get_member-put_other k (codes "version") (number (unsigned 2)) ms (differ k (codes "version") v)

version_at : (ms : Members) → get (codes "version") (object (raised ms)) ≡ Some (number (unsigned 2))
version_at ms =
    let one = put (codes "version") (number (unsigned 2)) ms in
    let two = put (codes "block") (number (unsigned 64)) one in
    get_member-put_other (codes "version") (codes "zero") (number (unsigned 64)) two (differ (codes "version") (codes "zero") refl)
    ∙ get_member-put_other (codes "version") (codes "block") (number (unsigned 64)) one (differ (codes "version") (codes "block") refl)
    ∙ get_member-put (codes "version") (number (unsigned 2)) ms

block_at : (ms : Members) → get (codes "block") (object (raised ms)) ≡ Some (number (unsigned 64))
block_at ms =
    let one = put (codes "version") (number (unsigned 2)) ms in
    let two = put (codes "block") (number (unsigned 64)) one in
    get_member-put_other (codes "block") (codes "zero") (number (unsigned 64)) two (differ (codes "block") (codes "zero") refl)
    ∙ get_member-put (codes "block") (number (unsigned 64)) one

zero_at : (ms : Members) → get (codes "zero") (object (raised ms)) ≡ Some (number (unsigned 64))
zero_at ms = get_member-put (codes "zero") (number (unsigned 64)) (put (codes "block") (number (unsigned 64)) (put (codes "version") (number (unsigned 2)) ms))

-- ---- its keys

unknown_none : (b : Bool) (k : List ℕ) (o : Option (List ℕ)) → (if b then o else Some k) ≡ None → (b ≡ true) × (o ≡ None)
unknown_none true k o e = (refl, e)
unknown_none false k o e = absurd cc

known_more : (k : List ℕ) (b : Bool) (o : Option (List ℕ)) → b ≡ true → o ≡ None → (if b then o else Some k) ≡ None
known_more k true o e f = f
known_more k false o e f = absurd cc

known_at : (o : Ordering) (k l : List ℕ) (d e : Data) (ms : Members) → knows keys.Top k ≡ true → first_unknown keys.Top (member l e ms) ≡ None → first_unknown keys.Top (put k d ms) ≡ None
    → first_unknown keys.Top (match_ordering o (member k d (member l e ms)) (member l d ms) (member l e (put k d ms))) ≡ None
known_at Less k l d e ms known all later = known_more k (knows keys.Top k) (first_unknown keys.Top (member l e ms)) known all
known_at Equal k l d e ms known all later = all
known_at Greater k l d e ms known all later = known_more l (knows keys.Top l) (first_unknown keys.Top (put k d ms)) (unknown_none (knows keys.Top l) l (first_unknown keys.Top ms) all).0 later

known_put : (k : List ℕ) (d : Data) (ms : Members) → knows keys.Top k ≡ true → first_unknown keys.Top ms ≡ None → first_unknown keys.Top (put k d ms) ≡ None
known_put k d no_members known all = known_more k (knows keys.Top k) None known refl
known_put k d (member l e ms) known all = known_at (slice_cmp nat_cmp k l) k l d e ms known all (known_put k d ms known (unknown_none (knows keys.Top l) l (first_unknown keys.Top ms) all).1)

no_unknown_ok : (path : List ℕ) (o : Option (List ℕ)) (x : ⊤) → no_unknown path o ≡ Ok x → o ≡ None
no_unknown_ok path None x e = refl
no_unknown_ok path (Some k) x e = absurd cc

keyed_raised : (ms : Members) (x : ⊤) → keyed keys.Top [] (object ms) ≡ Ok x → keyed keys.Top [] (object (raised ms)) ≡ Ok tt
keyed_raised ms x e =
    let all = no_unknown_ok [] (first_unknown keys.Top ms) x e in
    ap (no_unknown []) (known_put (codes "zero") (number (unsigned 64)) (put (codes "block") (number (unsigned 64)) (put (codes "version") (number (unsigned 2)) ms)) refl
    (known_put (codes "block") (number (unsigned 64)) (put (codes "version") (number (unsigned 2)) ms) refl
    (known_put (codes "version") (number (unsigned 2)) ms refl all)))

-- ---- its format

abbrev format_1 : Format
format_1 = record { version = 1; block_size = 64; zero_size = 64; light = false }

abbrev format_2 : Format
format_2 = record { version = 2; block_size = 64; zero_size = 64; light = false }

none_there : (o : Option Data) (key : List ℕ) (x : ⊤) → (if is_some o then (let r : Result ⊤ Refused = Err (refusals.Shape key) in r) else Ok tt) ≡ Ok x → o ≡ None
none_there None key x e = refl
none_there (Some d) key x e = absurd cc

format_is : (a b : Format) → (let r : Result Format Refused = Ok a in r) ≡ Ok b → a ≡ b
format_is a b e = cc

record OldFormat (d : Data) (f : Format) : Type 0 where
  is : f ≡ format_1
  fences : get (codes "fences") d ≡ None

old_is : (d : Data) (f : Format) → old_format d ≡ Ok f → OldFormat d f
unfolding old_format
old_is d f e =
    ok_then (OldFormat d f) (absent (codes "block") d) _ f e (λ v0 e0 e.
    ok_then (OldFormat d f) (absent (codes "zero") d) _ f e (λ v1 e1 e.
    ok_then (OldFormat d f) (absent (codes "fences") d) _ f e (λ v2 e2 e.
    record { is = sym (format_is format_1 f e); fences = none_there (get (codes "fences") d) (codes "fences") v2 e2 })))

two_is : (d : Data) (f : Format) → new_format d ≡ Ok f → f.version ≡ 2
unfolding new_format
two_is d f e =
    ok_then (f.version ≡ 2) (size_at 0 (codes "block") d) _ f e (λ v0 e0 e.
    ok_then (f.version ≡ 2) (size_at v0 (codes "zero") d) _ f e (λ v1 e1 e.
    ok_then (f.version ≡ 2) (fences_or_full (get (codes "fences") d)) _ f e (λ v2 e2 e.
    ap (λ (g : Format). g.version) (sym (format_is (record { version = 2; block_size = v0; zero_size = v1; light = v2 }) f e)))))

one_not_two : (n : ℕ) → n ≡ 1 → n ≡ 2 → ⊥
one_not_two n e f = omega (arith, e, f)

old_by : (d : Data) (f : Format) (b : Bool) → f.version ≡ 1 → (if b then old_format d else new_format d) ≡ Ok f → OldFormat d f
old_by d f true one e = old_is d f e
old_by d f false one e = absurd (one_not_two f.version one (two_is d f e))

old_format_is : (d : Data) (f : Format) → f.version ≡ 1 → format_of d ≡ Ok f → OldFormat d f
unfolding format_of
old_format_is d f one e =
    let a = ok_first (version_of d) (λ version. if version == 1 then old_format d else new_format d) f e in
    old_by d f (a.0 == 1) one a.2

new_is : (d : Data) → get (codes "block") d ≡ Some (number (unsigned 64)) → get (codes "zero") d ≡ Some (number (unsigned 64)) → get (codes "fences") d ≡ None → new_format d ≡ Ok format_2
unfolding new_format
new_is d block zero fences =
    ok_step (size_at 0 (codes "block") d) _ 64 (ap (λ o. placed (under [] (codes "block")) (shaped o >>= size_in 0)) block)
    ∙ ok_step (size_at 64 (codes "zero") d) _ 64 (ap (λ o. placed (under [] (codes "zero")) (shaped o >>= size_in 64)) zero)
    ∙ ok_step (fences_or_full (get (codes "fences") d)) _ false (ap fences_or_full fences)

format_raised : (ms : Members) (f : Format) → OldFormat (object ms) f → format_of (object (raised ms)) ≡ Ok format_2
unfolding format_of
format_raised ms f old =
    ok_step (version_of (object (raised ms))) _ 2 (ap (λ o. placed (under [] (codes "version")) (shaped o >>= number_of) >>= λ n. if n == 1 || n == 2 then Ok n else Err (Version n)) (version_at ms))
    ∙ new_is (object (raised ms)) (block_at ms) (zero_at ms) (same_at ms (codes "fences") refl refl refl ∙ old.fences)

-- ---- the other parts

land_same : (ram harts : ℕ) (ms : Members) → land_of ram harts (object (raised ms)) ≡ land_of ram harts (object ms)
unfolding land_of
land_same ram harts ms = λ k.
    words_or_none ram (same_at ms (codes "ptes") refl refl refl k) >>= λ ptes.
    placed (under [] (codes "buffers")) (shaped (same_at ms (codes "buffers") refl refl refl k) >>= sized_of 0 64) >>= λ items.
    each (buffer_at ram harts) 0 items >>= λ buffers.
    region_or_none kinds.Slots ram (same_at ms (codes "slots") refl refl refl k) >>= λ slots.
    region_or_none kinds.Pool ram (same_at ms (codes "pool") refl refl refl k) >>= λ pool.
    reach_or_ram (least_reach slots pool) ram (same_at ms (codes "reach") refl refl refl k) >>= λ reach.
    Ok (record { ptes = ptes; buffers = buffers; slots = slots; pool = pool; reach = reach })

terms_same : (ms : Members) → terms_of (object (raised ms)) ≡ terms_of (object ms)
unfolding terms_of
terms_same ms = λ k.
    finish_or_true (same_at ms (codes "finish") refl refl refl k) >>= λ finish.
    limit_or_default (same_at ms (codes "limit") refl refl refl k) >>= λ limit.
    Ok (record { finish = finish; limit = limit })

schedule_same : (ms : Members) → schedule_of (object (raised ms)) ≡ schedule_of (object ms)
schedule_same ms = ap (λ o. placed (codes "schedule") (shaped o)) (same_at ms (codes "schedule") refl refl refl)

ram_same : (ms : Members) → ram_of (object (raised ms)) ≡ ram_of (object ms)
ram_same ms = ap (λ o. placed (under [] (codes "ram")) (shaped o >>= ram_in)) (same_at ms (codes "ram") refl refl refl)

harts_same : (ms : Members) → harts_known (object (raised ms)) ≡ harts_known (object ms)
harts_same ms =
    ap (λ o. placed (under [] (codes "harts")) (shaped o >>= sized_of 1 4) >>= λ items. check_each hart_checked 0 items >>= λ known. Ok items) (same_at ms (codes "harts") refl refl refl)

-- ---- the whole

scenario_is : (a b : Scenario) → (let r : Result Scenario Refused = Ok a in r) ≡ Ok b → a ≡ b
scenario_is a b e = cc

pub raised_scenario : (ms : Members) (sc : Scenario) → sc.version ≡ 1 → scenario_of (object ms) ≡ Ok sc → scenario_of (object (raised ms)) ≡ Ok (record sc { version = 2 })
unfolding scenario_of
raised_scenario ms sc one e =
    let P : Type 0 = scenario_of (object (raised ms)) ≡ Ok (record sc { version = 2 }) in
    ok_then P (keyed keys.Top [] (object ms)) _ sc e (λ known ek e.
    ok_then P (format_of (object ms)) _ sc e (λ format ef e.
    ok_then P (ram_of (object ms)) _ sc e (λ ram er e.
    ok_then P (harts_known (object ms)) _ sc e (λ items ei e.
    ok_then P (land_of ram (items_len items) (object ms)) _ sc e (λ land el e.
    ok_then P (schedule_checked (object ms)) _ sc e (λ planned ep e.
    ok_then P (terms_of (object ms)) _ sc e (λ terms et e.
    ok_then P (apart land) _ sc e (λ no_overlap ea e.
    ok_then P (harts_of land items) _ sc e (λ harts eh e.
    ok_then P (schedule_read (items_len items) (ram / format.block_size) (object ms)) _ sc e (λ plan es e.
    let made : Format → Scenario = λ f. record { version = f.version; block_size = f.block_size; zero_size = f.zero_size; light = f.light; ram = ram; harts = harts; ptes = land.ptes; buffers = land.buffers; slots_at = land.slots.at; slots = land.slots.count; pool_at = land.pool.at; pages = land.pool.count; reach = land.reach; plan = plan; finish = terms.finish; limit = terms.limit } in
    let same : made format ≡ sc = scenario_is (made format) sc e in
    let old : OldFormat (object ms) format = old_format_is (object ms) format (ap (λ (s : Scenario). s.version) same ∙ one) ef in
    let drawn : schedule_read (items_len items) (ram / 64) (object ms) ≡ Ok plan = ap (λ (f : Format). schedule_read (items_len items) (ram / f.block_size) (object ms)) (sym old.is) ∙ es in
    ok_step (keyed keys.Top [] (object (raised ms))) _ tt (keyed_raised ms known ek)
    ∙ ok_step (format_of (object (raised ms))) _ format_2 (format_raised ms format old)
    ∙ ok_step (ram_of (object (raised ms))) _ ram (ram_same ms ∙ er)
    ∙ ok_step (harts_known (object (raised ms))) _ items (harts_same ms ∙ ei)
    ∙ ok_step (land_of ram (items_len items) (object (raised ms))) _ land (land_same ram (items_len items) ms ∙ el)
    ∙ ok_step (schedule_checked (object (raised ms))) _ planned (ap (λ r. r >>= plan_checked) (schedule_same ms) ∙ ep)
    ∙ ok_step (terms_of (object (raised ms))) _ terms (terms_same ms ∙ et)
    ∙ ok_step (apart land) _ no_overlap ea
    ∙ ok_step (harts_of land items) _ harts eh
    ∙ ok_step (schedule_read (items_len items) (ram / 64) (object (raised ms))) _ plan (ap (λ r. r >>= plan_of (items_len items) (ram / 64)) (schedule_same ms) ∙ drawn)
    ∙ ap (λ (s : Scenario). Ok (record s { version = 2 })) (ap made (sym old.is) ∙ same)))))))))))

-- an accepted scenario's value is an object
pub keyed_object : (d : Data) (sc : Scenario) → scenario_of d ≡ Ok sc → (ms : Members) × (d ≡ object ms)
unfolding scenario_of
keyed_object null sc e = absurd cc
keyed_object (boolean b) sc e = absurd cc
keyed_object (number n) sc e = absurd cc
keyed_object (string s) sc e = absurd cc
keyed_object (array ds) sc e = absurd cc
keyed_object (object ms) sc e = (ms, refl)
