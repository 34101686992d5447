-- Lists of records and of looks.
use Rattle.std.proofs.Common.{◌≡◌, ℕ, ◌+◌, Bool, true, false, List, [], ◌∷◌, ◌++◌, length, refl, sym, ap, ◌∙◌, arith, Option, Some, None, length-append}
use Rattle.std.specs.Prelude.{◌-◌, drop, if◌then◌else◌}
use Rattle.std.specs.List.{list_any}
use Rattle.std.proofs.lemmas.Bool.{false≢true, or_from, or_parts}
use Rattle.std.proofs.lemmas.Grind.{flat_map-append}
use Rattle.std.proofs.lemmas.List.{append-nil, append_assoc}
use Rattle.std.proofs.lemmas.List.Elements.{All-head, All-tail}
use Rattle.std.proofs.lemmas.List.FromFn.{length-map-range_with_len, map-range_with_len_more}
use Rattle.std.proofs.Math.Seq.{drop-append_seam}
use Rattle.nc_num.specs.declared.names.HartNo.{HartNo}
use Rattle.nc_num.specs.declared.places.Span.{Span}
use Rattle.nc_model.specs.declared.owners.Owner.{Owner}
use Rattle.nc_model.specs.declared.touches.Touch.{Touch}
use Rattle.nc_scen.specs.declared.events.Event.{Event}
use Rattle.nc_rules.specs.declared.answers.Answer.{Answer}
use Rattle.nc_rules.specs.declared.records.Record.{Record}
use Rattle.nc_rules.specs.declared.records.Record.TheVariants as records
use Rattle.nc_rules.specs.Records.{touch_records, owner_records, answered}
use Rattle.nc_counts.proofs.Plain.{is_plain, ArePlain}
use Rattle.nc_slot_laws.specs.Looks.{Look, look_in, look_of, looks, event_in, is_step, is_look, looks_since, later, last_event, miss, misses, last_of}

abbrev pub is_answer : Record → Bool
is_answer (records.Ans h op a) = true
is_answer _ = false

-- ---- records that tell no event, look or answer

pub record IsQuiet (r : Record) : Type 0 where
  pub event : event_in r ≡ None
  pub look : look_in r ≡ None
  pub answer : is_answer r ≡ false

abbrev pub AreQuiet : List Record → Type 0
AreQuiet [] = Unit {0}
AreQuiet (r ∷ rs) = IsQuiet r × AreQuiet rs

plain_is : (r : Record) → is_plain r ≡ true → IsQuiet r
plain_is (records.Event e) is = absurd (false≢true is)
plain_is (records.Touched t) is = absurd (false≢true is)
plain_is (records.Ow span owner) is = absurd (false≢true is)
plain_is (records.Try h k a) is = absurd (false≢true is)
plain_is (records.Told h k a) is = absurd (false≢true is)
plain_is (records.Ans h op a) is = absurd (false≢true is)
plain_is (records.Ld h at bytes) is = record { event = refl; look = refl; answer = refl }
plain_is (records.St h at bytes) is = record { event = refl; look = refl; answer = refl }
plain_is (records.Pl h at bytes) is = record { event = refl; look = refl; answer = refl }
plain_is (records.Ps h at bytes) is = record { event = refl; look = refl; answer = refl }
plain_is (records.Cbo h op at) is = record { event = refl; look = refl; answer = refl }
plain_is (records.Fence h pred succ) is = record { event = refl; look = refl; answer = refl }
plain_is (records.Mark h pred succ) is = record { event = refl; look = refl; answer = refl }
plain_is (records.Io h target) is = record { event = refl; look = refl; answer = refl }
plain_is (records.DrStore h at bytes) is = record { event = refl; look = refl; answer = refl }
plain_is (records.DrCbo h op at) is = record { event = refl; look = refl; answer = refl }
plain_is (records.DrIo h target) is = record { event = refl; look = refl; answer = refl }
plain_is (records.DrMark h) is = record { event = refl; look = refl; answer = refl }
plain_is (records.Fill h at from) is = record { event = refl; look = refl; answer = refl }
plain_is (records.Own h at from) is = record { event = refl; look = refl; answer = refl }
plain_is (records.Wb h at bytes) is = record { event = refl; look = refl; answer = refl }
plain_is (records.Drop h at) is = record { event = refl; look = refl; answer = refl }
plain_is (records.Cr chan at bytes) is = record { event = refl; look = refl; answer = refl }
plain_is (records.Cw chan at bytes) is = record { event = refl; look = refl; answer = refl }
plain_is (records.Cd chan) is = record { event = refl; look = refl; answer = refl }
plain_is (records.Ce chan at len) is = record { event = refl; look = refl; answer = refl }
plain_is (records.Back h k) is = record { event = refl; look = refl; answer = refl }

pub plain_quiet : (rs : List Record) → ArePlain rs → AreQuiet rs
plain_quiet [] all = tt
plain_quiet (r ∷ rs) all = (plain_is r (All-head (λ (r : Record). is_plain r ≡ true) r rs all), plain_quiet rs (All-tail (λ (r : Record). is_plain r ≡ true) r rs all))

pub touch_quiet : (t : Option Touch) → AreQuiet (touch_records t)
touch_quiet None = tt
touch_quiet (Some t) = (record { event = refl; look = refl; answer = refl }, tt)

pub owners_quiet : (ts : List (Span × Owner)) → AreQuiet (owner_records ts)
owners_quiet [] = tt
owners_quiet (t ∷ ts) = (record { event = refl; look = refl; answer = refl }, owners_quiet ts)

pub quiet_append : (rs ss : List Record) → AreQuiet rs → AreQuiet ss → AreQuiet (rs ++ ss)
quiet_append [] ss a b = b
quiet_append (r ∷ rs) ss a b = (a.0, quiet_append rs ss a.1 b)

pub quiet_since : (h : HartNo) (seen : List Look) (rs : List Record) → AreQuiet rs → looks_since h seen rs ≡ seen
quiet_since h seen [] quiet = refl
quiet_since h seen (r ∷ rs) quiet =
    ap (λ (ls : List Look). looks_since h ls rs) (rw (quiet.0.event, quiet.0.look) (append-nil seen)) ∙ quiet_since h seen rs quiet.1

pub quiet_looks : (h : HartNo) (rs : List Record) → AreQuiet rs → looks h rs ≡ []
quiet_looks h [] quiet = refl
quiet_looks h (r ∷ rs) quiet = rw quiet.0.look (quiet_looks h rs quiet.1)

pub quiet_last : (before : Option Event) (rs : List Record) → AreQuiet rs → last_event before rs ≡ before
quiet_last before [] quiet = refl
quiet_last before (r ∷ rs) quiet = rw quiet.0.event (quiet_last before rs quiet.1)

pub quiet_answers : (rs : List Record) → AreQuiet rs → list_any is_answer rs ≡ false
quiet_answers [] quiet = refl
quiet_answers (r ∷ rs) quiet = or_from (is_answer r) (list_any is_answer rs) quiet.0.answer (quiet_answers rs quiet.1)

-- ---- one list behind another

pub since_append : (h : HartNo) (seen : List Look) (rs ss : List Record) → looks_since h seen (rs ++ ss) ≡ looks_since h (looks_since h seen rs) ss
since_append h seen [] ss = refl
since_append h seen (r ∷ rs) ss = since_append h (if is_step h (event_in r) then [] else seen ++ look_of h (look_in r)) rs ss

pub last_append : (before : Option Event) (rs ss : List Record) → last_event before (rs ++ ss) ≡ last_event (last_event before rs) ss
last_append before [] ss = refl
last_append before (r ∷ rs) ss = last_append (later before (event_in r)) rs ss

later_by : (before : Option Event) (rs : List Record) (e : Event) (o : Option Event) → (last_event None rs ≡ Some e → last_event before rs ≡ Some e) → last_event (later None o) rs ≡ Some e → last_event (later before o) rs ≡ Some e
later_by before rs e None rest is = rest is
later_by before rs e (Some f) rest is = is

pub last_later : (before : Option Event) (rs : List Record) (e : Event) → last_event None rs ≡ Some e → last_event before rs ≡ Some e
last_later before [] e is = absurd (cc)
last_later before (r ∷ rs) e is = later_by before rs e (event_in r) (λ at. last_later before rs e at) is

look_by : (g : HartNo) (before : Option Event) (rs : List Record) (o : Option Event) → last_event None rs ≡ o → is_look g o ≡ true → is_look g (last_event before rs) ≡ true
look_by g before rs None at is = absurd (false≢true is)
look_by g before rs (Some e) at is = rw (last_later before rs e at) is

pub look_later : (g : HartNo) (before : Option Event) (rs : List Record) → is_look g (last_event None rs) ≡ true → is_look g (last_event before rs) ≡ true
look_later g before rs is = look_by g before rs (last_event None rs) refl is

pub looks_append : (h : HartNo) (rs ss : List Record) → looks h (rs ++ ss) ≡ looks h rs ++ looks h ss
looks_append h rs ss = flat_map-append (λ r. look_of h (look_in r)) rs ss

nil_left : {A : Type 0} (xs ys : List A) → xs ++ ys ≡ [] → xs ≡ []
nil_left [] ys e = refl
nil_left (x ∷ xs) ys e = absurd (cc)

-- where all looks are none, those of a prefix are
pub front_looks : (h : HartNo) (rs ss : List Record) → looks h (rs ++ ss) ≡ [] → looks h rs ≡ []
front_looks h rs ss e = nil_left (looks h rs) (looks h ss) (sym (looks_append h rs ss) ∙ e)

-- ---- what a list ends in

pub record EndsIn {A : Type 0} (xs ys : List A) : Type 0 where
  pub prefix : List A
  pub is : xs ≡ prefix ++ ys

pub ends_nil : {A : Type 0} (xs : List A) → EndsIn xs []
ends_nil xs = record { prefix = xs; is = sym (append-nil xs) }

-- one more miss
pub ends_more : (h : HartNo) (k : ℕ) (seen : List Look) → EndsIn seen (misses h k) → EndsIn (seen ++ miss h k ∷ []) (misses h (k + 1))
ends_more h k seen ends = record {
  prefix = ends.prefix;
  is = ap (λ (ls : List Look). ls ++ miss h k ∷ []) ends.is ∙ append_assoc ends.prefix (misses h k) (miss h k ∷ []) ∙ ap (λ (ls : List Look). ends.prefix ++ ls) (sym (map-range_with_len_more (miss h) 0 k k (omega arith)));
}

length-misses : (h : HartNo) (n : ℕ) → length (misses h n) ≡ n
length-misses h n = length-map-range_with_len (miss h) 0 n

last_by : (h : HartNo) (n : ℕ) (prefix : List Look) → last_of n (prefix ++ misses h n) ≡ misses h n
last_by h n prefix =
    let few : length (prefix ++ misses h n) - n ≡ length prefix = omega (arith, length-append prefix (misses h n), length-misses h n) in
    ap (λ (m : ℕ). drop m (prefix ++ misses h n)) few ∙ drop-append_seam prefix (misses h n)

pub last_misses : (h : HartNo) (n : ℕ) (xs : List Look) → EndsIn xs (misses h n) → last_of n xs ≡ misses h n
last_misses h n xs ends = ap (λ (ls : List Look). last_of n ls) ends.is ∙ last_by h n ends.prefix

-- the looks since the last step are the last of all
since_by : (h : HartNo) (seen : List Look) (r : Record) (rs : List Record) (t : Bool) → ((next : List Look) → EndsIn (next ++ looks h rs) (looks_since h next rs))
    → EndsIn (seen ++ (look_of h (look_in r) ++ looks h rs)) (looks_since h (if t then [] else seen ++ look_of h (look_in r)) rs)
since_by h seen r rs true rest =
    let more = rest [] in
    record { prefix = seen ++ look_of h (look_in r) ++ more.prefix; is = sym (append_assoc seen (look_of h (look_in r)) (looks h rs)) ∙ ap (λ (ls : List Look). seen ++ look_of h (look_in r) ++ ls) more.is ∙ sym (append_assoc (seen ++ look_of h (look_in r)) more.prefix (looks_since h [] rs)) }
since_by h seen r rs false rest =
    let more = rest (seen ++ look_of h (look_in r)) in
    record { prefix = more.prefix; is = sym (append_assoc seen (look_of h (look_in r)) (looks h rs)) ∙ more.is }

pub since_last : (h : HartNo) (seen : List Look) (rs : List Record) → EndsIn (seen ++ looks h rs) (looks_since h seen rs)
since_last h seen [] = record { prefix = []; is = append-nil seen }
since_last h seen (r ∷ rs) = since_by h seen r rs (is_step h (event_in r)) (λ next. since_last h next rs)

pub ends_on : {A : Type 0} (xs ys zs : List A) → EndsIn xs ys → EndsIn ys zs → EndsIn xs zs
ends_on {A = A} xs ys zs a b = record { prefix = a.prefix ++ b.prefix; is = a.is ∙ ap (λ (ls : List A). a.prefix ++ ls) b.is ∙ sym (append_assoc a.prefix b.prefix zs) }

-- ---- where an answer stands

pub data SplitBy (rs ss before : List Record) (r : Record) (behind : List Record) : Type 0 where
  in_first : (ws : List Record) → rs ≡ before ++ r ∷ ws → SplitBy rs ss before r behind
  in_second : (ws : List Record) → before ≡ rs ++ ws → ss ≡ ws ++ r ∷ behind → SplitBy rs ss before r behind

pub split : (rs ss before : List Record) (r : Record) (behind : List Record) → rs ++ ss ≡ before ++ r ∷ behind → SplitBy rs ss before r behind
split [] ss before r behind e = in_second before refl e
split (x ∷ rs) ss [] r behind e = let same : x ≡ r = cc in in_first rs (ap (λ (y : Record). y ∷ rs) same)
split (x ∷ rs) ss (y ∷ before) r behind e =
    let tails : rs ++ ss ≡ before ++ r ∷ behind = cc in
    let heads : x ≡ y = cc in
    by heads (split rs ss before r behind tails)
  where
    by : x ≡ y → SplitBy rs ss before r behind → SplitBy (x ∷ rs) ss (y ∷ before) r behind
    by heads (in_first ws at) = in_first ws (λ i. heads i ∷ at i)
    by heads (in_second ws at rest) = in_second ws (λ i. sym heads i ∷ at i) rest

-- the one answer at the end
pub record IsLast (rs before : List Record) (h g : HartNo) (o : Option Answer) (a : Answer) : Type 0 where
  pub prefix : before ≡ rs
  pub hart : h ≡ g
  pub is : o ≡ Some a

no_front : (before : List Record) (r : Record) (behind : List Record) → [] ≡ before ++ r ∷ behind → ⊥
no_front [] r behind e = cc
no_front (x ∷ before) r behind e = cc

at_end : (before behind : List Record) (h g : HartNo) (op n : ℕ) (o : Option Answer) (a : Answer) → answered h op o ≡ before ++ records.Ans g n a ∷ behind → IsLast [] before h g o a
at_end before behind h g op n None a e = absurd (no_front before (records.Ans g n a) behind e)
at_end [] behind h g op n (Some b) a e = let hart : h ≡ g = cc in let is : b ≡ a = cc in record { prefix = refl; hart = hart; is = ap (λ (c : Answer). Some c) is }
at_end (x ∷ before) behind h g op n (Some b) a e = let rest : [] ≡ before ++ records.Ans g n a ∷ behind = cc in absurd (no_front before (records.Ans g n a) behind rest)

not_it : (x : Record) (g : HartNo) (n : ℕ) (a : Answer) → is_answer x ≡ false → x ≡ records.Ans g n a → ⊥
not_it x g n a e same = false≢true (sym e ∙ ap (λ (r : Record). is_answer r) same)

pub last_answer : (rs before behind : List Record) (h g : HartNo) (op n : ℕ) (o : Option Answer) (a : Answer) → list_any is_answer rs ≡ false → rs ++ answered h op o ≡ before ++ records.Ans g n a ∷ behind → IsLast rs before h g o a
last_answer [] before behind h g op n o a none e = at_end before behind h g op n o a e
last_answer (x ∷ rs) [] behind h g op n o a none e = let same : x ≡ records.Ans g n a = cc in absurd (not_it x g n a (or_parts (is_answer x) (list_any is_answer rs) none).0 same)
last_answer (x ∷ rs) (y ∷ before) behind h g op n o a none e =
    let tails : rs ++ answered h op o ≡ before ++ records.Ans g n a ∷ behind = cc in
    let heads : x ≡ y = cc in
    let r = last_answer rs before behind h g op n o a (or_parts (is_answer x) (list_any is_answer rs) none).1 tails in
    record { prefix = λ i. sym heads i ∷ r.prefix i; hart = r.hart; is = r.is }
