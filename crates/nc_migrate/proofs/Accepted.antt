-- The value of an accepted scenario is plain.
use Rattle.std.proofs.Common.{◌≡◌, ℕ, ◌/◌, Bool, true, false, List, [], length, Result, Ok, Err, Some, refl, sym, ap, subst, ◌∙◌}
use Rattle.std.specs.Prelude.{◌||◌, ◌&&◌, ◌==◌, codes, nat_le, nat_lt, is_some, if◌then◌else◌, ⊤}
use Rattle.std.specs.Str.{bytes_eq}
use Rattle.std.specs.Cmp.Lexicographic.{bytes_decides}
use Rattle.serde_json.specs.Data.{Data, null, boolean, number, string, array, object, Items, no_items, item}
use Rattle.serde_json.specs.Find.{get, as_object}
use Rattle.nc_env.specs.Enables.{cbie}
use Rattle.nc_values.specs.declared.refused.Refused.{Refused}
use Rattle.nc_values.specs.declared.refused.Refused.TheVariants.{Version, Token}
use Rattle.nc_values.specs.declared.refused.Refused.TheVariants as refusals
use Rattle.nc_values.specs.declared.wrong.Wrong.{Wrong}
use Rattle.nc_values.specs.declared.wrong.Wrong.TheVariants.{Limit}
use Rattle.nc_values.specs.Json.{items_len}
use Rattle.nc_values.specs.Outcomes.{◌>>=◌, placed, shaped, each, check_each}
use Rattle.nc_values.specs.Paths.{under, at_position}
use Rattle.nc_values.specs.Values.{number_of, text_of, list_of, truth_of, mode_of, mode_named, fences_of, fences_named, register_of, word_of, is_word, limited, most, below, sized, number_to, number_under, sized_of, is_size, is_ram, got, field, number_at, number_to_at, list_at}
use Rattle.nc_ops.specs.declared.arguments.Counts.{Counts}
use Rattle.nc_ops.specs.Operations.{op_of}
use Rattle.nc_scen.specs.declared.keys.Keys.TheVariants as keys
use Rattle.nc_scen.specs.declared.format.Format.{Format}
use Rattle.nc_scen.specs.declared.regions.Region.{Region}
use Rattle.nc_scen.specs.declared.regions.RegionKind.TheVariants as kinds
use Rattle.nc_scen.specs.declared.reading.Land.{Land}
use Rattle.nc_scen.specs.declared.reading.Terms.{Terms}
use Rattle.nc_scen.specs.declared.events.Event.{Event}
use Rattle.nc_scen.specs.declared.scenario.BufferSpec.{BufferSpec}
use Rattle.nc_scen.specs.declared.scenario.HartSpec.{HartSpec}
use Rattle.nc_scen.specs.declared.scenario.Plan.{Plan}
use Rattle.nc_scen.specs.declared.scenario.Plan.TheVariants as plans
use Rattle.nc_scen.specs.declared.scenario.Scenario.{Scenario}
use Rattle.nc_scen.specs.Keys.{keyed}
use Rattle.nc_scen.specs.Parts.{version_of, absent, size_in, size_at, fences_or_full, old_format, new_format, format_of, ram_in, ram_of, word_at, words_or_none, settings_of, script_items, op_at, script_at, hart_of, hart_at, hart_checked, len_of, ends_in, buffer_of, buffer_at, start_of, count_of, region_of, region_or_none, reach_at, reach_in, reach_items, reach_or_ram, least_reach, finish_or_true, limit_in, limit_or_default}
use Rattle.nc_scen.specs.Reading.{land_of, seeded_of, tokens_of, token_at, plan_of, schedule_of, schedule_read, schedule_checked, terms_of, harts_known, harts_of, apart, scenario_of}
use Rattle.nc_migrate.proofs.Binds.{ok_then, ok_first, placed_ok, shaped_ok, if_ok, if_not, got_ok}
use Rattle.nc_migrate.proofs.Read.{IsRead, AreRead}
use Rattle.nc_migrate.proofs.Plain.{IsPlain, ArePlain, number_plain, text_plain, truth_plain, list_plain, each_plain, keyed_plain}
use Rattle.nc_migrate.proofs.OpsPlain.{op_plain}

-- the value of a key, where there is one, is plain
PlainAt : Data → List ℕ → Type 0
PlainAt d key = (e : Data) → IsRead e → get key d ≡ Some e → IsPlain e

some_is : (a b : Data) → Some a ≡ Some b → a ≡ b
some_is a b e = cc

got_plain : {A : Type 0} (of : Data → Result A Wrong) (key : List ℕ) (d : Data) (x : A) → got of key d ≡ Ok x → ((e : Data) → IsRead e → of e ≡ Ok x → IsPlain e) → PlainAt d key
unfolding PlainAt
got_plain of key d x e each b is here =
    let g = got_ok of key d x e in
    let same : g.0 ≡ b = some_is g.0 b (sym g.1 ∙ here) in
    each b is (ap of (sym same) ∙ g.2)

field_plain : {A : Type 0} (of : Data → Result A Wrong) (path key : List ℕ) (d : Data) (x : A) → field of path key d ≡ Ok x → ((e : Data) → IsRead e → of e ≡ Ok x → IsPlain e) → PlainAt d key
field_plain of path key d x e each = got_plain of key d x (placed_ok (under path key) (got of key d) x e) each

-- a number, and what is made of it
pub counted : {A : Type 0} (f : ℕ → Result A Wrong) (d : Data) (x : A) → IsRead d → (number_of d >>= f) ≡ Ok x → IsPlain d
counted f d x is e = let a = ok_first (number_of d) f x e in number_plain d a.0 is a.1

named : {A : Type 0} (f : List ℕ → Result A Wrong) (d : Data) (x : A) → (text_of d >>= f) ≡ Ok x → IsPlain d
named f d x e = let a = ok_first (text_of d) f x e in text_plain d a.0 a.1

sized_is : (least top : ℕ) (v w : Items) → sized least top v ≡ Ok w → v ≡ w
sized_is least top v w e = let a = if_ok (nat_le least (items_len v) && nat_le (items_len v) top) (Ok v) (Limit (items_len v)) w e in let same : v ≡ w = (let f = a.1 in cc) in same

sized_plain : (least top : ℕ) (d : Data) (ds : Items) → IsRead d → sized_of least top d ≡ Ok ds → (AreRead ds → ArePlain ds) → IsPlain d
sized_plain least top d ds is e all =
    let a = ok_first (list_of d) (sized least top) ds e in
    let same : a.0 ≡ ds = sized_is least top a.0 ds a.2 in
    list_plain d ds is (a.1 ∙ ap (λ (v : Items). Ok v) same) all

-- ---- which keys there are

or_either : (P : Type 0) (b c : Bool) → (b || c) ≡ true → (b ≡ true → P) → (c ≡ true → P) → P
or_either P true c e f g = f refl
or_either P false c e f g = g e

key_plain : (d : Data) (k key : List ℕ) → PlainAt d key → bytes_eq k key ≡ true → PlainAt d k
key_plain d k key p e = subst (PlainAt d) (sym ((bytes_decides k key).0 e)) p

-- ---- a hart

hart_plain : (room : Counts) (path : List ℕ) (d : Data) (h : HartSpec) → IsRead d → hart_of room path d ≡ Ok h → IsPlain d
unfolding hart_of settings_of PlainAt
hart_plain room path d h is e =
    ok_then (IsPlain d) (settings_of path d) _ h e (λ s es e.
    ok_then (IsPlain d) (script_items path d) _ h e (λ items ei e.
    ok_then (IsPlain d) (script_at room path items) _ h e (λ ops eo e.
    ok_then (IsPlain d) (keyed keys.Hart path d) _ s es (λ known ek es.
    ok_then (IsPlain d) (field mode_of path (codes "mode") d) _ s es (λ mode em es.
    ok_then (IsPlain d) (field register_of path (codes "menvcfg") d) _ s es (λ men e1 es.
    ok_then (IsPlain d) (field register_of path (codes "senvcfg") d) _ s es (λ sen e2 es.
    let p_mode : PlainAt d (codes "mode") = field_plain mode_of path (codes "mode") d mode em (λ b ib eb. named mode_named b mode eb) in
    let p_men : PlainAt d (codes "menvcfg") = field_plain register_of path (codes "menvcfg") d men e1 (λ b ib eb. counted (λ n. if cbie n == 2 then Err (Limit n) else Ok n) b men ib eb) in
    let p_sen : PlainAt d (codes "senvcfg") = field_plain register_of path (codes "senvcfg") d sen e2 (λ b ib eb. counted (λ n. if cbie n == 2 then Err (Limit n) else Ok n) b sen ib eb) in
    let p_script : PlainAt d (codes "script") = field_plain (sized_of 0 4096) path (codes "script") d items ei (λ b ib eb. sized_plain 0 4096 b items ib eb
    (λ are. each_plain (op_at room (under path (codes "script"))) (λ i x o ix ex. op_plain room x o ix (placed_ok (at_position (under path (codes "script")) i) (op_of room x) o ex)) items 0 ops are eo)) in
    keyed_plain keys.Hart path d known is ek (λ k b kn ib here.
    or_either (IsPlain b) (bytes_eq k (codes "mode") || bytes_eq k (codes "menvcfg") || bytes_eq k (codes "senvcfg")) (bytes_eq k (codes "script")) kn
    (λ kn. or_either (IsPlain b) (bytes_eq k (codes "mode") || bytes_eq k (codes "menvcfg")) (bytes_eq k (codes "senvcfg")) kn
    (λ kn. or_either (IsPlain b) (bytes_eq k (codes "mode")) (bytes_eq k (codes "menvcfg")) kn
    (λ at. key_plain d k (codes "mode") p_mode at b ib here)
    (λ at. key_plain d k (codes "menvcfg") p_men at b ib here))
    (λ at. key_plain d k (codes "senvcfg") p_sen at b ib here))
    (λ at. key_plain d k (codes "script") p_script at b ib here)))))))))

-- ---- buffers and regions

buffer_plain : (ram harts : ℕ) (path : List ℕ) (d : Data) (x : BufferSpec) → IsRead d → buffer_of ram harts path d ≡ Ok x → IsPlain d
unfolding buffer_of PlainAt
buffer_plain ram harts path d x is e =
    ok_then (IsPlain d) (keyed keys.Buffer path d) _ x e (λ known ek e.
    ok_then (IsPlain d) (number_at path (codes "at") d) _ x e (λ v0 e0 e.
    ok_then (IsPlain d) (field (len_of ram v0) path (codes "len") d) _ x e (λ v1 e1 e.
    ok_then (IsPlain d) (number_to_at 255 path (codes "fill") d) _ x e (λ v2 e2 e.
    ok_then (IsPlain d) (number_to_at 255 path (codes "step") d) _ x e (λ v3 e3 e.
    ok_then (IsPlain d) (field (number_under harts) path (codes "owner") d) _ x e (λ v4 e4 e.
    let p_at : PlainAt d (codes "at") = field_plain number_of path (codes "at") d v0 e0 (λ b ib eb. number_plain b v0 ib eb) in
    let p_len : PlainAt d (codes "len") = field_plain (len_of ram v0) path (codes "len") d v1 e1 (λ b ib eb. counted (λ n. limited (nat_lt 0 n && nat_le n 65536 && ends_in ram v0 n) n) b v1 ib eb) in
    let p_fill : PlainAt d (codes "fill") = field_plain (number_to 255) path (codes "fill") d v2 e2 (λ b ib eb. counted (most 255) b v2 ib eb) in
    let p_step : PlainAt d (codes "step") = field_plain (number_to 255) path (codes "step") d v3 e3 (λ b ib eb. counted (most 255) b v3 ib eb) in
    let p_owner : PlainAt d (codes "owner") = field_plain (number_under harts) path (codes "owner") d v4 e4 (λ b ib eb. counted (below harts) b v4 ib eb) in
    keyed_plain keys.Buffer path d known is ek (λ k b kn ib here. or_either (IsPlain b) (bytes_eq k (codes "at") || bytes_eq k (codes "len") || bytes_eq k (codes "fill") || bytes_eq k (codes "step")) (bytes_eq k (codes "owner")) kn (λ kn. or_either (IsPlain b) (bytes_eq k (codes "at") || bytes_eq k (codes "len") || bytes_eq k (codes "fill")) (bytes_eq k (codes "step")) kn (λ kn. or_either (IsPlain b) (bytes_eq k (codes "at") || bytes_eq k (codes "len")) (bytes_eq k (codes "fill")) kn (λ kn. or_either (IsPlain b) (bytes_eq k (codes "at")) (bytes_eq k (codes "len")) kn (λ at. key_plain d k (codes "at") p_at at b ib here) (λ at. key_plain d k (codes "len") p_len at b ib here)) (λ at. key_plain d k (codes "fill") p_fill at b ib here)) (λ at. key_plain d k (codes "step") p_step at b ib here)) (λ at. key_plain d k (codes "owner") p_owner at b ib here))))))))

slots_plain : (ram : ℕ) (d : Data) (x : Region) → IsRead d → region_of kinds.Slots ram d ≡ Ok x → IsPlain d
unfolding region_of PlainAt
slots_plain ram d x is e =
    ok_then (IsPlain d) (keyed keys.Slots (codes "slots") d) _ x e (λ known ek e.
    ok_then (IsPlain d) (field (start_of kinds.Slots) (codes "slots") (codes "at") d) _ x e (λ v0 e0 e.
    ok_then (IsPlain d) (field (count_of kinds.Slots ram v0) (codes "slots") (codes "count") d) _ x e (λ v1 e1 e.
    let p_at : PlainAt d (codes "at") = field_plain (start_of kinds.Slots) (codes "slots") (codes "at") d v0 e0 (λ b ib eb. counted _ b v0 ib eb) in
    let p_count : PlainAt d (codes "count") = field_plain (count_of kinds.Slots ram v0) (codes "slots") (codes "count") d v1 e1 (λ b ib eb. counted _ b v1 ib eb) in
    keyed_plain keys.Slots (codes "slots") d known is ek (λ k b kn ib here. or_either (IsPlain b) (bytes_eq k (codes "at")) (bytes_eq k (codes "count")) kn (λ at. key_plain d k (codes "at") p_at at b ib here) (λ at. key_plain d k (codes "count") p_count at b ib here)))))

pool_plain : (ram : ℕ) (d : Data) (x : Region) → IsRead d → region_of kinds.Pool ram d ≡ Ok x → IsPlain d
unfolding region_of PlainAt
pool_plain ram d x is e =
    ok_then (IsPlain d) (keyed keys.Pool (codes "pool") d) _ x e (λ known ek e.
    ok_then (IsPlain d) (field (start_of kinds.Pool) (codes "pool") (codes "at") d) _ x e (λ v0 e0 e.
    ok_then (IsPlain d) (field (count_of kinds.Pool ram v0) (codes "pool") (codes "pages") d) _ x e (λ v1 e1 e.
    let p_at : PlainAt d (codes "at") = field_plain (start_of kinds.Pool) (codes "pool") (codes "at") d v0 e0 (λ b ib eb. counted _ b v0 ib eb) in
    let p_count : PlainAt d (codes "pages") = field_plain (count_of kinds.Pool ram v0) (codes "pool") (codes "pages") d v1 e1 (λ b ib eb. counted _ b v1 ib eb) in
    keyed_plain keys.Pool (codes "pool") d known is ek (λ k b kn ib here. or_either (IsPlain b) (bytes_eq k (codes "at")) (bytes_eq k (codes "pages")) kn (λ at. key_plain d k (codes "at") p_at at b ib here) (λ at. key_plain d k (codes "pages") p_count at b ib here)))))

-- ---- the schedule

seeded_plain : (d : Data) (x : Plan) → IsRead d → seeded_of d ≡ Ok x → IsPlain d
unfolding seeded_of PlainAt
seeded_plain d x is e =
    ok_then (IsPlain d) (keyed keys.Seeded (codes "schedule") d) _ x e (λ known ek e.
    ok_then (IsPlain d) (number_at (codes "schedule") (codes "seed") d) _ x e (λ v0 e0 e.
    ok_then (IsPlain d) (number_to_at 400000 (codes "schedule") (codes "events") d) _ x e (λ v1 e1 e.
    let p_seed : PlainAt d (codes "seed") = field_plain number_of (codes "schedule") (codes "seed") d v0 e0 (λ b ib eb. number_plain b v0 ib eb) in
    let p_events : PlainAt d (codes "events") = field_plain (number_to 400000) (codes "schedule") (codes "events") d v1 e1 (λ b ib eb. counted (most 400000) b v1 ib eb) in
    keyed_plain keys.Seeded (codes "schedule") d known is ek (λ k b kn ib here. or_either (IsPlain b) (bytes_eq k (codes "seed")) (bytes_eq k (codes "events")) kn (λ at. key_plain d k (codes "seed") p_seed at b ib here) (λ at. key_plain d k (codes "events") p_events at b ib here)))))

token_plain : (harts blocks i : ℕ) (d : Data) (x : Event) → token_at harts blocks i d ≡ Ok x → IsPlain d
unfolding IsPlain
token_plain harts blocks i null x e = absurd cc
token_plain harts blocks i (boolean b) x e = absurd cc
token_plain harts blocks i (number n) x e = absurd cc
token_plain harts blocks i (string s) x e = tt
token_plain harts blocks i (array ds) x e = absurd cc
token_plain harts blocks i (object ms) x e = absurd cc

listed_plain : (harts blocks : ℕ) (d : Data) (x : Plan) → IsRead d → (tokens_of d >>= each (token_at harts blocks) 0 >>= λ events. Ok (plans.List events)) ≡ Ok x → IsPlain d
listed_plain harts blocks d x is e =
    let a = ok_first (tokens_of d >>= each (token_at harts blocks) 0) (λ (events : List Event). Ok (plans.List events)) x e in
    let b = ok_first (tokens_of d) (each (token_at harts blocks) 0) a.0 a.1 in
    sized_plain 0 400000 d b.0 is (placed_ok (codes "schedule") (sized_of 0 400000 d) b.0 b.1)
    (λ are. each_plain (token_at harts blocks) (λ i t x it et. token_plain harts blocks i t x et) b.0 0 a.0 are b.2)

either_plan : (b : Bool) (r s : Result Plan Refused) (d : Data) (x : Plan) → (if b then r else s) ≡ Ok x → (r ≡ Ok x → IsPlain d) → (s ≡ Ok x → IsPlain d) → IsPlain d
either_plan true r s d x e f g = f e
either_plan false r s d x e f g = g e

plan_plain : (harts blocks : ℕ) (d : Data) (x : Plan) → IsRead d → plan_of harts blocks d ≡ Ok x → IsPlain d
plan_plain harts blocks d x is e = either_plan (is_some (as_object d)) _ _ d x e (seeded_plain d x is) (listed_plain harts blocks d x is)

schedule_plain : (harts blocks : ℕ) (d : Data) (x : Plan) → schedule_read harts blocks d ≡ Ok x → PlainAt d (codes "schedule")
unfolding PlainAt
schedule_plain harts blocks d x e b is here =
    let a = ok_first (schedule_of d) (plan_of harts blocks) x e in
    let found : get (codes "schedule") d ≡ Some a.0 = shaped_ok (get (codes "schedule") d) a.0 (placed_ok (codes "schedule") (shaped (get (codes "schedule") d)) a.0 a.1) in
    let same : a.0 ≡ b = some_is a.0 b (sym found ∙ here) in
    plan_plain harts blocks b x is (ap (plan_of harts blocks) (sym same) ∙ a.2)

-- ---- what may be left out

words_plain : (ram : ℕ) (d : Data) (x : List ℕ) → words_or_none ram (get (codes "ptes") d) ≡ Ok x → PlainAt d (codes "ptes")
unfolding PlainAt
words_plain ram d x e b is here =
    let f : words_or_none ram (Some b) ≡ Ok x = ap (words_or_none ram) (sym here) ∙ e in
    let a = ok_first (placed (codes "ptes") (sized_of 0 256 b)) (each (word_at ram) 0) x f in
    sized_plain 0 256 b a.0 is (placed_ok (codes "ptes") (sized_of 0 256 b) a.0 a.1)
    (λ are. each_plain (word_at ram) (λ i w y iw ew. counted (λ word. limited (is_word ram word) word) w y iw (placed_ok (at_position (codes "ptes") i) (word_of ram w) y ew)) a.0 0 x are a.2)

slots_at_plain : (ram : ℕ) (d : Data) (x : Region) → region_or_none kinds.Slots ram (get (codes "slots") d) ≡ Ok x → PlainAt d (codes "slots")
unfolding PlainAt
slots_at_plain ram d x e b is here = slots_plain ram b x is (ap (region_or_none kinds.Slots ram) (sym here) ∙ e)

pool_at_plain : (ram : ℕ) (d : Data) (x : Region) → region_or_none kinds.Pool ram (get (codes "pool") d) ≡ Ok x → PlainAt d (codes "pool")
unfolding PlainAt
pool_at_plain ram d x e b is here = pool_plain ram b x is (ap (region_or_none kinds.Pool ram) (sym here) ∙ e)

reached : (least ram i : ℕ) (d : Data) (x : ℕ) → IsRead d → reach_at least ram i d ≡ Ok x → IsPlain d
reached least ram i d x is e = counted (λ n. limited (nat_le least n && nat_le n ram) n) d x is (placed_ok (at_position (codes "reach") i) (reach_in least ram d) x e)

reach_items_plain : (least ram : ℕ) (ds : Items) (x : List ℕ) → AreRead ds → reach_items least ram ds ≡ Ok x → ArePlain ds
unfolding AreRead ArePlain
reach_items_plain least ram no_items x is e = absurd cc
reach_items_plain least ram (item a no_items) x is e = absurd cc
reach_items_plain least ram (item a (item b no_items)) x is e = absurd cc
reach_items_plain least ram (item a (item b (item c no_items))) x is e = absurd cc
reach_items_plain least ram (item a (item b (item c (item d no_items)))) x is e =
    ok_then (ArePlain (item a (item b (item c (item d no_items))))) (reach_at least ram 0 a) _ x e (λ v0 e0 e.
    ok_then (ArePlain (item a (item b (item c (item d no_items))))) (reach_at least ram 1 b) _ x e (λ v1 e1 e.
    ok_then (ArePlain (item a (item b (item c (item d no_items))))) (reach_at least ram 2 c) _ x e (λ v2 e2 e.
    ok_then (ArePlain (item a (item b (item c (item d no_items))))) (reach_at least ram 3 d) _ x e (λ v3 e3 e.
    (reached least ram 0 a v0 is.0 e0, (reached least ram 1 b v1 is.1.0 e1, (reached least ram 2 c v2 is.1.1.0 e2, (reached least ram 3 d v3 is.1.1.1.0 e3, tt))))))))
reach_items_plain least ram (item a (item b (item c (item d (item x ds))))) y is e = absurd cc

reach_plain : (least ram : ℕ) (d : Data) (x : List ℕ) → reach_or_ram least ram (get (codes "reach") d) ≡ Ok x → PlainAt d (codes "reach")
unfolding PlainAt
reach_plain least ram d x e b is here =
    let f : reach_or_ram least ram (Some b) ≡ Ok x = ap (reach_or_ram least ram) (sym here) ∙ e in
    let a = ok_first (placed (codes "reach") (list_of b)) (reach_items least ram) x f in
    list_plain b a.0 is (placed_ok (codes "reach") (list_of b) a.0 a.1) (λ are. reach_items_plain least ram a.0 x are a.2)

finish_plain : (d : Data) (x : Bool) → finish_or_true (get (codes "finish") d) ≡ Ok x → PlainAt d (codes "finish")
unfolding PlainAt
finish_plain d x e b is here = truth_plain b x (placed_ok (codes "finish") (truth_of b) x (ap finish_or_true (sym here) ∙ e))

limit_plain : (d : Data) (x : ℕ) → limit_or_default (get (codes "limit") d) ≡ Ok x → PlainAt d (codes "limit")
unfolding PlainAt
limit_plain d x e b is here = counted (most 400000) b x is (placed_ok (codes "limit") (limit_in b) x (ap limit_or_default (sym here) ∙ e))

-- ---- the version

absent_plain : (key : List ℕ) (d : Data) (x : ⊤) → absent key d ≡ Ok x → PlainAt d key
unfolding PlainAt
absent_plain key d x e b is here = absurd (let a = if_not (is_some (get key d)) (Ok tt) (refusals.Shape key) x e in let yes : is_some (get key d) ≡ true = ap is_some here in let both : true ≡ false = sym yes ∙ a.0 in cc)

record FormatPlain (d : Data) : Type 0 where
  version : PlainAt d (codes "version")
  block : PlainAt d (codes "block")
  zero : PlainAt d (codes "zero")
  fences : PlainAt d (codes "fences")

fences_plain : (d : Data) (x : Bool) → fences_or_full (get (codes "fences") d) ≡ Ok x → PlainAt d (codes "fences")
unfolding PlainAt
fences_plain d x e b is here = named fences_named b x (placed_ok (codes "fences") (fences_of b) x (ap fences_or_full (sym here) ∙ e))

old_plain : (d : Data) (f : Format) → PlainAt d (codes "version") → old_format d ≡ Ok f → FormatPlain d
unfolding old_format
old_plain d f version e =
    ok_then (FormatPlain d) (absent (codes "block") d) _ f e (λ v0 e0 e.
    ok_then (FormatPlain d) (absent (codes "zero") d) _ f e (λ v1 e1 e.
    ok_then (FormatPlain d) (absent (codes "fences") d) _ f e (λ v2 e2 e.
    record { version = version; block = absent_plain (codes "block") d v0 e0; zero = absent_plain (codes "zero") d v1 e1; fences = absent_plain (codes "fences") d v2 e2 })))

new_plain : (d : Data) (f : Format) → PlainAt d (codes "version") → new_format d ≡ Ok f → FormatPlain d
unfolding new_format
new_plain d f version e =
    ok_then (FormatPlain d) (size_at 0 (codes "block") d) _ f e (λ v0 e0 e.
    ok_then (FormatPlain d) (size_at v0 (codes "zero") d) _ f e (λ v1 e1 e.
    ok_then (FormatPlain d) (fences_or_full (get (codes "fences") d)) _ f e (λ v2 e2 e.
    record {
      version = version;
      block = field_plain (size_in 0) [] (codes "block") d v0 e0 (λ b ib eb. counted (λ n. limited (is_size n && nat_le 0 n) n) b v0 ib eb);
      zero = field_plain (size_in v0) [] (codes "zero") d v1 e1 (λ b ib eb. counted (λ n. limited (is_size n && nat_le v0 n) n) b v1 ib eb);
      fences = fences_plain d v2 e2;
    })))

either_format : (d : Data) (f : Format) (b : Bool) → PlainAt d (codes "version") → (if b then old_format d else new_format d) ≡ Ok f → FormatPlain d
either_format d f true version e = old_plain d f version e
either_format d f false version e = new_plain d f version e

format_plain : (d : Data) (f : Format) → format_of d ≡ Ok f → FormatPlain d
unfolding format_of
format_plain d f e =
    let a = ok_first (version_of d) (λ version. if version == 1 then old_format d else new_format d) f e in
    let v = ok_first (number_at [] (codes "version") d) (λ n. if n == 1 || n == 2 then Ok n else Err (Version n)) a.0 a.1 in
    either_format d f (a.0 == 1) (field_plain number_of [] (codes "version") d v.0 v.1 (λ b ib eb. number_plain b v.0 ib eb)) a.2

-- ---- the whole

record LandPlain (d : Data) : Type 0 where
  ptes : PlainAt d (codes "ptes")
  buffers : PlainAt d (codes "buffers")
  slots : PlainAt d (codes "slots")
  pool : PlainAt d (codes "pool")
  reach : PlainAt d (codes "reach")

land_plain : (ram harts : ℕ) (d : Data) (x : Land) → land_of ram harts d ≡ Ok x → LandPlain d
unfolding land_of
land_plain ram harts d x e =
    ok_then (LandPlain d) (words_or_none ram (get (codes "ptes") d)) _ x e (λ ws e0 e.
    ok_then (LandPlain d) (list_at 0 64 [] (codes "buffers") d) _ x e (λ items e1 e.
    ok_then (LandPlain d) (each (buffer_at ram harts) 0 items) _ x e (λ bs e2 e.
    ok_then (LandPlain d) (region_or_none kinds.Slots ram (get (codes "slots") d)) _ x e (λ slots e3 e.
    ok_then (LandPlain d) (region_or_none kinds.Pool ram (get (codes "pool") d)) _ x e (λ pool e4 e.
    ok_then (LandPlain d) (reach_or_ram (least_reach slots pool) ram (get (codes "reach") d)) _ x e (λ reach e5 e.
    record {
      ptes = words_plain ram d ws e0;
      buffers = field_plain (sized_of 0 64) [] (codes "buffers") d items e1 (λ b ib eb. sized_plain 0 64 b items ib eb
          (λ are. each_plain (buffer_at ram harts) (λ i y z iy ey. buffer_plain ram harts (at_position (codes "buffers") i) y z iy ey) items 0 bs are e2));
      slots = slots_at_plain ram d slots e3;
      pool = pool_at_plain ram d pool e4;
      reach = reach_plain (least_reach slots pool) ram d reach e5;
    }))))))

terms_plain : (d : Data) (x : Terms) → terms_of d ≡ Ok x → PlainAt d (codes "finish") × PlainAt d (codes "limit")
unfolding terms_of
terms_plain d x e =
    ok_then (PlainAt d (codes "finish") × PlainAt d (codes "limit")) (finish_or_true (get (codes "finish") d)) _ x e (λ v0 e0 e.
    ok_then (PlainAt d (codes "finish") × PlainAt d (codes "limit")) (limit_or_default (get (codes "limit") d)) _ x e (λ v1 e1 e. (finish_plain d v0 e0, limit_plain d v1 e1)))

items_is : (a b : Items) → (let r : Result Items Refused = Ok a in r) ≡ Ok b → a ≡ b
items_is a b e = cc

harts_plain : (land : Land) (d : Data) (items : Items) (x : List HartSpec) → harts_known d ≡ Ok items → harts_of land items ≡ Ok x → PlainAt d (codes "harts")
harts_plain land d items x e f =
    let a = ok_first (list_at 1 4 [] (codes "harts") d) (λ items. check_each hart_checked 0 items >>= λ known. Ok items) items e in
    let c = ok_first (check_each hart_checked 0 a.0) (λ known. Ok a.0) items a.2 in
    let same : a.0 ≡ items = items_is a.0 items c.2 in
    field_plain (sized_of 1 4) [] (codes "harts") d a.0 a.1 (λ b ib eb. sized_plain 1 4 b a.0 ib eb
    (λ are. each_plain (hart_at (record { harts = items_len items; buffers = length land.buffers })) (λ i y z iy ey. hart_plain (record { harts = items_len items; buffers = length land.buffers }) (at_position (codes "harts") i) y z iy ey) a.0 0 x are
    (ap (λ (its : Items). each (hart_at (record { harts = items_len items; buffers = length land.buffers })) 0 its) same ∙ f)))

-- the value of an accepted scenario is plain
pub scenario_plain : (d : Data) (sc : Scenario) → IsRead d → scenario_of d ≡ Ok sc → IsPlain d
unfolding scenario_of PlainAt
scenario_plain d sc is e =
    ok_then (IsPlain d) (keyed keys.Top [] d) _ sc e (λ known ek e.
    ok_then (IsPlain d) (format_of d) _ sc e (λ format ef e.
    ok_then (IsPlain d) (ram_of d) _ sc e (λ ram er e.
    ok_then (IsPlain d) (harts_known d) _ sc e (λ items ei e.
    ok_then (IsPlain d) (land_of ram (items_len items) d) _ sc e (λ land el e.
    ok_then (IsPlain d) (schedule_checked d) _ sc e (λ planned ep e.
    ok_then (IsPlain d) (terms_of d) _ sc e (λ terms et e.
    ok_then (IsPlain d) (apart land) _ sc e (λ no_overlap ea e.
    ok_then (IsPlain d) (harts_of land items) _ sc e (λ harts eh e.
    ok_then (IsPlain d) (schedule_read (items_len items) (ram / format.block_size) d) _ sc e (λ plan es e.
    let f = format_plain d format ef in
    let l = land_plain ram (items_len items) d land el in
    let t = terms_plain d terms et in
    let p_ram : PlainAt d (codes "ram") = field_plain ram_in [] (codes "ram") d ram er (λ b ib eb. counted (λ n. limited (is_ram n) n) b ram ib eb) in
    let p_harts : PlainAt d (codes "harts") = harts_plain land d items harts ei eh in
    let p_schedule : PlainAt d (codes "schedule") = schedule_plain (items_len items) (ram / format.block_size) d plan es in
    keyed_plain keys.Top [] d known is ek (λ k b kn ib here. or_either (IsPlain b) (bytes_eq k (codes "version") || bytes_eq k (codes "block") || bytes_eq k (codes "zero") || bytes_eq k (codes "fences") || bytes_eq k (codes "ram") || bytes_eq k (codes "harts") || bytes_eq k (codes "ptes") || bytes_eq k (codes "buffers") || bytes_eq k (codes "slots") || bytes_eq k (codes "pool") || bytes_eq k (codes "reach") || bytes_eq k (codes "schedule") || bytes_eq k (codes "finish")) (bytes_eq k (codes "limit")) kn (λ kn. or_either (IsPlain b) (bytes_eq k (codes "version") || bytes_eq k (codes "block") || bytes_eq k (codes "zero") || bytes_eq k (codes "fences") || bytes_eq k (codes "ram") || bytes_eq k (codes "harts") || bytes_eq k (codes "ptes") || bytes_eq k (codes "buffers") || bytes_eq k (codes "slots") || bytes_eq k (codes "pool") || bytes_eq k (codes "reach") || bytes_eq k (codes "schedule")) (bytes_eq k (codes "finish")) kn (λ kn. or_either (IsPlain b) (bytes_eq k (codes "version") || bytes_eq k (codes "block") || bytes_eq k (codes "zero") || bytes_eq k (codes "fences") || bytes_eq k (codes "ram") || bytes_eq k (codes "harts") || bytes_eq k (codes "ptes") || bytes_eq k (codes "buffers") || bytes_eq k (codes "slots") || bytes_eq k (codes "pool") || bytes_eq k (codes "reach")) (bytes_eq k (codes "schedule")) kn (λ kn. or_either (IsPlain b) (bytes_eq k (codes "version") || bytes_eq k (codes "block") || bytes_eq k (codes "zero") || bytes_eq k (codes "fences") || bytes_eq k (codes "ram") || bytes_eq k (codes "harts") || bytes_eq k (codes "ptes") || bytes_eq k (codes "buffers") || bytes_eq k (codes "slots") || bytes_eq k (codes "pool")) (bytes_eq k (codes "reach")) kn (λ kn. or_either (IsPlain b) (bytes_eq k (codes "version") || bytes_eq k (codes "block") || bytes_eq k (codes "zero") || bytes_eq k (codes "fences") || bytes_eq k (codes "ram") || bytes_eq k (codes "harts") || bytes_eq k (codes "ptes") || bytes_eq k (codes "buffers") || bytes_eq k (codes "slots")) (bytes_eq k (codes "pool")) kn (λ kn. or_either (IsPlain b) (bytes_eq k (codes "version") || bytes_eq k (codes "block") || bytes_eq k (codes "zero") || bytes_eq k (codes "fences") || bytes_eq k (codes "ram") || bytes_eq k (codes "harts") || bytes_eq k (codes "ptes") || bytes_eq k (codes "buffers")) (bytes_eq k (codes "slots")) kn (λ kn. or_either (IsPlain b) (bytes_eq k (codes "version") || bytes_eq k (codes "block") || bytes_eq k (codes "zero") || bytes_eq k (codes "fences") || bytes_eq k (codes "ram") || bytes_eq k (codes "harts") || bytes_eq k (codes "ptes")) (bytes_eq k (codes "buffers")) kn (λ kn. or_either (IsPlain b) (bytes_eq k (codes "version") || bytes_eq k (codes "block") || bytes_eq k (codes "zero") || bytes_eq k (codes "fences") || bytes_eq k (codes "ram") || bytes_eq k (codes "harts")) (bytes_eq k (codes "ptes")) kn (λ kn. or_either (IsPlain b) (bytes_eq k (codes "version") || bytes_eq k (codes "block") || bytes_eq k (codes "zero") || bytes_eq k (codes "fences") || bytes_eq k (codes "ram")) (bytes_eq k (codes "harts")) kn (λ kn. or_either (IsPlain b) (bytes_eq k (codes "version") || bytes_eq k (codes "block") || bytes_eq k (codes "zero") || bytes_eq k (codes "fences")) (bytes_eq k (codes "ram")) kn (λ kn. or_either (IsPlain b) (bytes_eq k (codes "version") || bytes_eq k (codes "block") || bytes_eq k (codes "zero")) (bytes_eq k (codes "fences")) kn (λ kn. or_either (IsPlain b) (bytes_eq k (codes "version") || bytes_eq k (codes "block")) (bytes_eq k (codes "zero")) kn (λ kn. or_either (IsPlain b) (bytes_eq k (codes "version")) (bytes_eq k (codes "block")) kn (λ at. key_plain d k (codes "version") f.version at b ib here) (λ at. key_plain d k (codes "block") f.block at b ib here)) (λ at. key_plain d k (codes "zero") f.zero at b ib here)) (λ at. key_plain d k (codes "fences") f.fences at b ib here)) (λ at. key_plain d k (codes "ram") p_ram at b ib here)) (λ at. key_plain d k (codes "harts") p_harts at b ib here)) (λ at. key_plain d k (codes "ptes") l.ptes at b ib here)) (λ at. key_plain d k (codes "buffers") l.buffers at b ib here)) (λ at. key_plain d k (codes "slots") l.slots at b ib here)) (λ at. key_plain d k (codes "pool") l.pool at b ib here)) (λ at. key_plain d k (codes "reach") l.reach at b ib here)) (λ at. key_plain d k (codes "schedule") p_schedule at b ib here)) (λ at. key_plain d k (codes "finish") t.0 at b ib here)) (λ at. key_plain d k (codes "limit") t.1 at b ib here))))))))))))
