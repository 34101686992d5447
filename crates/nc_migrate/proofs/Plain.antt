-- Values that have no float and no negative number, as those of an accepted scenario.
use Rattle.std.proofs.Common.{◌≡◌, ℕ, ◌+◌, ◌<◌, ◌^◌, Bool, true, false, List, ◌∷◌, Result, Ok, Option, Some, None, refl, sym, ap, subst, ◌∙◌}
use Rattle.std.specs.Prelude.{◌||◌, if◌then◌else◌}
use Rattle.std.specs.declared.cmp.Ordering.{Ordering}
use Rattle.std.specs.declared.cmp.Ordering.TheVariants.{Less, Equal, Greater}
use Rattle.std.specs.Ordering.{nat_cmp, match_ordering, ordering_reverse}
use Rattle.std.specs.Cmp.{tied_itself}
use Rattle.std.specs.Cmp.Lexicographic.{slice_cmp, nat_list_cmp_total}
use Rattle.serde_json.specs.Data.{unsigned, negative, float, Data, null, boolean, number, string, array, object, Items, no_items, item, Members, no_members, member}
use Rattle.serde_json.specs.Find.{get, get_member}
use Rattle.serde_json.specs.Written.{has_float, items_have_float, members_have_float}
use Rattle.nc_values.specs.Outcomes.{◌>>=◌, each}
use Rattle.nc_values.specs.Values.{number_of, text_of, list_of, truth_of}
use Rattle.nc_scen.specs.declared.keys.Keys.{Keys}
use Rattle.nc_scen.specs.Keys.{knows, first_unknown, keyed, no_unknown}
use Rattle.nc_migrate.proofs.Binds.{ok_first}
use Rattle.nc_migrate.proofs.Read.{IsSized, IsRead, AreRead, MembersRead, AllAbove, item_read, members_read, member_read}

unfoldable mutual
  pub IsPlain : Data → Type 0
  IsPlain null = Unit {0}
  IsPlain (boolean b) = Unit {0}
  IsPlain (number (unsigned n)) = n < 2 ^ 64
  IsPlain (number (negative z)) = ⊥
  IsPlain (number (float x)) = ⊥
  IsPlain (string s) = Unit {0}
  IsPlain (array ds) = ArePlain ds
  IsPlain (object ms) = MembersPlain ms

  pub ArePlain : Items → Type 0
  ArePlain no_items = Unit {0}
  ArePlain (item d ds) = IsPlain d × ArePlain ds

  pub MembersPlain : Members → Type 0
  MembersPlain no_members = Unit {0}
  MembersPlain (member k d ms) = IsPlain d × MembersPlain ms

none_of : (a b : Bool) → a ≡ false → b ≡ false → (a || b) ≡ false
none_of true b e f = absurd cc
none_of false b e f = f

mutual
  unfolding IsPlain ArePlain MembersPlain

  pub plain_float : (d : Data) → IsPlain d → has_float d ≡ false
  plain_float null is = refl
  plain_float (boolean b) is = refl
  plain_float (number (unsigned n)) is = refl
  plain_float (number (negative z)) is = absurd is
  plain_float (number (float x)) is = absurd is
  plain_float (string s) is = refl
  plain_float (array ds) is = items_float ds is
  plain_float (object ms) is = members_float ms is

  items_float : (ds : Items) → ArePlain ds → items_have_float ds ≡ false
  items_float no_items is = refl
  items_float (item d ds) is = none_of (has_float d) (items_have_float ds) (plain_float d is.0) (items_float ds is.1)

  members_float : (ms : Members) → MembersPlain ms → members_have_float ms ≡ false
  members_float no_members is = refl
  members_float (member k d ms) is = none_of (has_float d) (members_have_float ms) (plain_float d is.0) (members_float ms is.1)

-- ---- single values

pub number_plain : (d : Data) (n : ℕ) → IsRead d → number_of d ≡ Ok n → IsPlain d
unfolding IsPlain IsRead IsSized
number_plain null n is e = absurd cc
number_plain (boolean b) n is e = absurd cc
number_plain (number (unsigned m)) n is e = is
number_plain (number (negative z)) n is e = absurd cc
number_plain (number (float x)) n is e = absurd cc
number_plain (string s) n is e = absurd cc
number_plain (array ds) n is e = absurd cc
number_plain (object ms) n is e = absurd cc

pub text_plain : (d : Data) (s : List ℕ) → text_of d ≡ Ok s → IsPlain d
unfolding IsPlain
text_plain null s e = absurd cc
text_plain (boolean b) s e = absurd cc
text_plain (number n) s e = absurd cc
text_plain (string t) s e = tt
text_plain (array ds) s e = absurd cc
text_plain (object ms) s e = absurd cc

pub truth_plain : (d : Data) (b : Bool) → truth_of d ≡ Ok b → IsPlain d
unfolding IsPlain
truth_plain null b e = absurd cc
truth_plain (boolean c) b e = tt
truth_plain (number n) b e = absurd cc
truth_plain (string t) b e = absurd cc
truth_plain (array ds) b e = absurd cc
truth_plain (object ms) b e = absurd cc

-- ---- lists

pub list_plain : (d : Data) (ds : Items) → IsRead d → list_of d ≡ Ok ds → (AreRead ds → ArePlain ds) → IsPlain d
unfolding IsPlain IsRead
list_plain null ds is e all = absurd cc
list_plain (boolean b) ds is e all = absurd cc
list_plain (number n) ds is e all = absurd cc
list_plain (string t) ds is e all = absurd cc
list_plain (array es) ds is e all = let same : ds ≡ es = cc in subst ArePlain same (all (subst AreRead (sym same) is))
list_plain (object ms) ds is e all = absurd cc

pub each_plain : {X E : Type 0} (f : ℕ → Data → Result X E) → ((i : ℕ) (d : Data) (x : X) → IsRead d → f i d ≡ Ok x → IsPlain d) → (ds : Items) (i : ℕ) (xs : List X) → AreRead ds → each f i ds ≡ Ok xs → ArePlain ds
unfolding ArePlain each
each_plain f one no_items i xs is e = tt
each_plain {X} {E} f one (item d ds) i xs is e =
    let r = item_read d ds is in
    let a = ok_first (f i d) (λ x. each f (i + 1) ds >>= λ (xs : List X). Ok (x ∷ xs)) xs e in
    let b = ok_first (each f (i + 1) ds) (λ (ys : List X). Ok (a.0 ∷ ys)) xs a.2 in
    (one i d a.0 r.0 a.1, each_plain f one ds (i + 1) b.0 r.1 b.1)

-- ---- objects

equal_itself : (k : List ℕ) → slice_cmp nat_cmp k k ≡ Equal
equal_itself k = tied_itself nat_list_cmp_total k

found_here : (o : Ordering) (a b : Option Data) (d : Data) → o ≡ Equal → match_ordering o a (Some d) b ≡ Some d
found_here Less a b d e = absurd cc
found_here Equal a b d e = refl
found_here Greater a b d e = absurd cc

found_first : (k : List ℕ) (d : Data) (ms : Members) → get_member k (member k d ms) ≡ Some d
found_first k d ms = found_here (slice_cmp nat_cmp k k) (get_member k ms) (get_member k ms) d (equal_itself k)

found_above_at : (o : Ordering) (k q l : List ℕ) (d e : Data) (r : Option Data) → slice_cmp nat_cmp q l ≡ o → slice_cmp nat_cmp k l ≡ Less → (r ≡ Some d → slice_cmp nat_cmp k q ≡ Less) → match_ordering o r (Some e) r ≡ Some d → slice_cmp nat_cmp k q ≡ Less
found_above_at Less k q l d e r is lt more f = more f
found_above_at Equal k q l d e r is lt more f =
    nat_list_cmp_total.antisymm k q ∙ ap ordering_reverse (nat_list_cmp_total.congr q l k is) ∙ sym (nat_list_cmp_total.antisymm k l) ∙ lt
found_above_at Greater k q l d e r is lt more f = more f

-- a key that is found is above what all are above
found_above : (k q : List ℕ) (d : Data) (ms : Members) → AllAbove k ms → get_member q ms ≡ Some d → slice_cmp nat_cmp k q ≡ Less
unfolding AllAbove
found_above k q d no_members above e = absurd cc
found_above k q d (member l e ms) above f = found_above_at (slice_cmp nat_cmp q l) k q l d e (get_member q ms) refl above.0 (found_above k q d ms above.1) f

skipped : (o : Ordering) (r s : Option Data) → (o ≡ Equal → ⊥) → match_ordering o r s r ≡ r
skipped Less r s off = refl
skipped Equal r s off = absurd (off refl)
skipped Greater r s off = refl

flipped : (k q : List ℕ) → slice_cmp nat_cmp k q ≡ Less → slice_cmp nat_cmp q k ≡ Equal → ⊥
flipped k q lt e = let both : Less ≡ Equal = sym lt ∙ nat_list_cmp_total.antisymm k q ∙ ap ordering_reverse e in cc

-- a key found behind the first member is found with it
found_later : (k q : List ℕ) (d e : Data) (ms : Members) → AllAbove k ms → get_member q ms ≡ Some e → get_member q (member k d ms) ≡ Some e
found_later k q d e ms above f = skipped (slice_cmp nat_cmp q k) (get_member q ms) (Some d) (flipped k q (found_above k q e ms above f)) ∙ f

unknown_first : (keys : Keys) (k : List ℕ) (b : Bool) (o : Option (List ℕ)) → knows keys k ≡ b → (if b then o else Some k) ≡ None → (knows keys k ≡ true) × (o ≡ None)
unknown_first keys k true o e f = (e, f)
unknown_first keys k false o e f = absurd cc

-- an object whose keys are known is plain where the value of each known key is
pub known_plain : (keys : Keys) (ms : Members) → MembersRead ms → first_unknown keys ms ≡ None → ((k : List ℕ) (d : Data) → knows keys k ≡ true → IsRead d → get_member k ms ≡ Some d → IsPlain d) → MembersPlain ms
unfolding MembersPlain
known_plain keys no_members is known each = tt
known_plain keys (member k d ms) is known each =
    let r = member_read k d ms is in
    let u = unknown_first keys k (knows keys k) (first_unknown keys ms) refl known in
    (each k d u.0 r.1 (found_first k d ms), known_plain keys ms r.2 u.1 (λ q e knows read f. each q e knows read (found_later k q d e ms r.0 f)))

no_unknown_ok : (path : List ℕ) (o : Option (List ℕ)) (x : Unit {0}) → no_unknown path o ≡ Ok x → o ≡ None
no_unknown_ok path None x e = refl
no_unknown_ok path (Some k) x e = absurd cc

-- the same, at a value
pub keyed_plain : (keys : Keys) (path : List ℕ) (d : Data) (x : Unit {0}) → IsRead d → keyed keys path d ≡ Ok x → ((k : List ℕ) (e : Data) → knows keys k ≡ true → IsRead e → get k d ≡ Some e → IsPlain e) → IsPlain d
unfolding IsPlain
keyed_plain keys path null x is e each = absurd cc
keyed_plain keys path (boolean b) x is e each = absurd cc
keyed_plain keys path (number n) x is e each = absurd cc
keyed_plain keys path (string s) x is e each = absurd cc
keyed_plain keys path (array ds) x is e each = absurd cc
keyed_plain keys path (object ms) x is e each = known_plain keys ms (members_read ms is) (no_unknown_ok path (first_unknown keys ms) x e) each
