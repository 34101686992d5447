-- Steps of a reading that went well.
use Rattle.std.proofs.Common.{◌≡◌, ℕ, Bool, true, false, Result, Ok, Err, Option, Some, None, List, refl, ap}
use Rattle.std.specs.Prelude.{if◌then◌else◌}
use Rattle.serde_json.specs.Data.{Data}
use Rattle.serde_json.specs.Find.{get}
use Rattle.nc_values.specs.declared.wrong.Wrong.{Wrong}
use Rattle.nc_values.specs.Outcomes.{◌>>=◌, placed, shaped}
use Rattle.nc_values.specs.Values.{got}

pub ok_then : {A B E : Type 0} (P : Type 0) (r : Result A E) (f : A → Result B E) (y : B) → (r >>= f) ≡ Ok y → ((v : A) → r ≡ Ok v → f v ≡ Ok y → P) → P
ok_then P (Ok v) f y e k = k v refl e
ok_then P (Err w) f y e k = absurd cc

pub ok_first : {A B E : Type 0} (r : Result A E) (f : A → Result B E) (y : B) → (r >>= f) ≡ Ok y → (v : A) × (r ≡ Ok v) × (f v ≡ Ok y)
ok_first (Ok v) f y e = (v, refl, e)
ok_first (Err w) f y e = absurd cc

pub placed_ok : {A : Type 0} (path : List ℕ) (r : Result A Wrong) (x : A) → placed path r ≡ Ok x → r ≡ Ok x
placed_ok path (Ok v) x e = let same : v ≡ x = cc in ap Ok same
placed_ok path (Err w) x e = absurd cc

pub shaped_ok : {A : Type 0} (o : Option A) (x : A) → shaped o ≡ Ok x → o ≡ Some x
shaped_ok None x e = absurd cc
shaped_ok (Some v) x e = let same : v ≡ x = cc in ap Some same

pub if_ok : {A E : Type 0} (b : Bool) (r : Result A E) (w : E) (x : A) → (if b then r else Err w) ≡ Ok x → (b ≡ true) × (r ≡ Ok x)
if_ok true r w x e = (refl, e)
if_ok false r w x e = absurd cc

pub if_not : {A E : Type 0} (b : Bool) (r : Result A E) (w : E) (x : A) → (if b then Err w else r) ≡ Ok x → (b ≡ false) × (r ≡ Ok x)
if_not true r w x e = absurd cc
if_not false r w x e = (refl, e)

-- the value of a key that was read
pub got_ok : {A : Type 0} (of : Data → Result A Wrong) (key : List ℕ) (d : Data) (x : A) → got of key d ≡ Ok x → (e : Data) × (get key d ≡ Some e) × (of e ≡ Ok x)
got_ok of key d x e = let r = ok_first (shaped (get key d)) of x e in (r.0, shaped_ok (get key d) r.0 r.1, r.2)
