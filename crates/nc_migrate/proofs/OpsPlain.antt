-- The operations of a script have plain arguments.
use Rattle.std.proofs.Common.{◌≡◌, ℕ, ◌+◌, Bool, true, false, List, Result, Ok}
use Rattle.std.specs.Prelude.{codes, if◌then◌else◌, ⊤}
use Rattle.std.specs.Str.{bytes_eq}
use Rattle.hex.specs.Hex.{decode_of}
use Rattle.nc_env.specs.declared.CboOp.{CboOp}
use Rattle.serde_json.specs.Data.{unsigned, negative, float, Data, null, boolean, number, string, array, object, Items, no_items, item}
use Rattle.nc_values.specs.declared.wrong.Wrong.{Wrong}
use Rattle.nc_values.specs.Outcomes.{◌>>=◌, shaped, check_each}
use Rattle.nc_values.specs.Values.{number_of, text_of, list_of, cbo_of, cbo_named}
use Rattle.nc_ops.specs.declared.arguments.Counts.{Counts}
use Rattle.nc_ops.specs.declared.ops.Op.{Op}
use Rattle.nc_ops.specs.declared.texts.BusText.{BusText}
use Rattle.nc_ops.specs.declared.texts.SpotText.{SpotText}
use Rattle.nc_ops.specs.Texts.{spot_in}
use Rattle.nc_ops.specs.Operations.{spot_of, bus_of, hex_of, decoded, entry_items, entry_numbers, ld_of, st_of, cbo_op, fence_of, map_of, map_sg_of, unmap_sg_of, calloc_of, hand_of, regs_of, regr_of, regw_of, copy_of, label_op, op_1, op_2, op_3, op_4, op_named, op_items, op_of}
use Rattle.nc_migrate.proofs.Binds.{ok_then, ok_first}
use Rattle.nc_migrate.proofs.Read.{IsSized, IsRead, AreRead, item_read}
use Rattle.nc_migrate.proofs.Plain.{IsPlain, ArePlain, number_plain, text_plain, list_plain}

-- ---- arguments

spot_plain : (d : Data) (s : SpotText) → spot_of d ≡ Ok s → IsPlain d
spot_plain d s e = let a = ok_first (text_of d) (λ text. shaped (spot_in text)) s e in text_plain d a.0 a.1

hex_plain : (d : Data) (s : List ℕ) → hex_of d ≡ Ok s → IsPlain d
hex_plain d s e = let a = ok_first (text_of d) (λ text. decoded (decode_of text)) s e in text_plain d a.0 a.1

cbo_plain : (d : Data) (s : CboOp) → cbo_of d ≡ Ok s → IsPlain d
cbo_plain d s e = let a = ok_first (text_of d) cbo_named s e in text_plain d a.0 a.1

bus_plain : (d : Data) (s : BusText) → IsRead d → bus_of d ≡ Ok s → IsPlain d
unfolding IsPlain IsRead IsSized
bus_plain null s is e = absurd cc
bus_plain (boolean b) s is e = absurd cc
bus_plain (number (unsigned n)) s is e = is
bus_plain (number (negative z)) s is e = absurd cc
bus_plain (number (float x)) s is e = absurd cc
bus_plain (string t) s is e = tt
bus_plain (array ds) s is e = absurd cc
bus_plain (object ms) s is e = absurd cc

-- ---- lists of arguments

-- three numbers
entry_items_plain : (ds : Items) (x : ℕ × ℕ × ℕ) → AreRead ds → entry_items ds ≡ Ok x → ArePlain ds
unfolding AreRead ArePlain
entry_items_plain no_items x is e = absurd cc
entry_items_plain (item a no_items) x is e = absurd cc
entry_items_plain (item a (item b no_items)) x is e = absurd cc
entry_items_plain (item a (item b (item c no_items))) x is e =
    ok_then (ArePlain (item a (item b (item c no_items)))) (number_of a) _ x e (λ p ea e.
    ok_then (ArePlain (item a (item b (item c no_items)))) (number_of b) _ x e (λ q eb e.
    ok_then (ArePlain (item a (item b (item c no_items)))) (number_of c) _ x e (λ r ec e.
    (number_plain a p is.0 ea, (number_plain b q is.1.0 eb, (number_plain c r is.1.1.0 ec, tt))))))
entry_items_plain (item a (item b (item c (item d ds)))) x is e = absurd cc

entry_numbers_plain : (d : Data) (x : ℕ × ℕ × ℕ) → IsRead d → entry_numbers d ≡ Ok x → IsPlain d
unfolding entry_numbers
entry_numbers_plain d x is e = let a = ok_first (list_of d) entry_items x e in list_plain d a.0 is a.1 (λ are. entry_items_plain a.0 x are a.2)

checks_plain : (ds : Items) (i : ℕ) (x : ⊤) → AreRead ds → check_each (λ i d. entry_numbers d) i ds ≡ Ok x → ArePlain ds
unfolding ArePlain check_each
checks_plain no_items i x is e = tt
checks_plain (item d ds) i x is e =
    let r = item_read d ds is in
    let a = ok_first (entry_numbers d) (λ (y : ℕ × ℕ × ℕ). check_each (λ i d. entry_numbers d) (i + 1) ds) x e in
    (entry_numbers_plain d a.0 r.0 a.1, checks_plain ds (i + 1) x r.1 a.2)

-- ---- operations

ld_of_plain : (room : Counts) (a b c : Data) (o : Op) → AreRead (item a (item b (item c no_items))) → ld_of room a b c ≡ Ok o → ArePlain (item a (item b (item c no_items)))
unfolding ld_of ArePlain AreRead
ld_of_plain room a b c o is h =
    ok_then (ArePlain (item a (item b (item c no_items)))) (spot_of a) _ o h (λ v0 e0 h. ok_then (ArePlain (item a (item b (item c no_items)))) (number_of b) _ o h (λ v1 e1 h. ok_then (ArePlain (item a (item b (item c no_items)))) (number_of c) _ o h (λ v2 e2 h. (spot_plain a v0 e0, (number_plain b v1 is.1.0 e1, (number_plain c v2 is.1.1.0 e2, tt))))))

st_of_plain : (room : Counts) (a b c : Data) (o : Op) → AreRead (item a (item b (item c no_items))) → st_of room a b c ≡ Ok o → ArePlain (item a (item b (item c no_items)))
unfolding st_of ArePlain AreRead
st_of_plain room a b c o is h =
    ok_then (ArePlain (item a (item b (item c no_items)))) (spot_of a) _ o h (λ v0 e0 h. ok_then (ArePlain (item a (item b (item c no_items)))) (number_of b) _ o h (λ v1 e1 h. ok_then (ArePlain (item a (item b (item c no_items)))) (hex_of c) _ o h (λ v2 e2 h. (spot_plain a v0 e0, (number_plain b v1 is.1.0 e1, (hex_plain c v2 e2, tt))))))

cbo_op_plain : (room : Counts) (a b c : Data) (o : Op) → AreRead (item a (item b (item c no_items))) → cbo_op room a b c ≡ Ok o → ArePlain (item a (item b (item c no_items)))
unfolding cbo_op ArePlain AreRead
cbo_op_plain room a b c o is h =
    ok_then (ArePlain (item a (item b (item c no_items)))) (cbo_of a) _ o h (λ v0 e0 h. ok_then (ArePlain (item a (item b (item c no_items)))) (number_of b) _ o h (λ v1 e1 h. ok_then (ArePlain (item a (item b (item c no_items)))) (number_of c) _ o h (λ v2 e2 h. (cbo_plain a v0 e0, (number_plain b v1 is.1.0 e1, (number_plain c v2 is.1.1.0 e2, tt))))))

fence_of_plain : (a b : Data) (o : Op) → AreRead (item a (item b no_items)) → fence_of a b ≡ Ok o → ArePlain (item a (item b no_items))
unfolding fence_of ArePlain AreRead
fence_of_plain a b o is h =
    ok_then (ArePlain (item a (item b no_items))) (number_of a) _ o h (λ v0 e0 h. ok_then (ArePlain (item a (item b no_items))) (number_of b) _ o h (λ v1 e1 h. (number_plain a v0 is.0 e0, (number_plain b v1 is.1.0 e1, tt))))

map_of_plain : (room : Counts) (a b c d x y : Data) (o : Op) → AreRead (item a (item b (item c (item d (item x (item y no_items)))))) → map_of room a b c d x y ≡ Ok o → ArePlain (item a (item b (item c (item d (item x (item y no_items))))))
unfolding map_of ArePlain AreRead
map_of_plain room a b c d x y o is h =
    ok_then (ArePlain (item a (item b (item c (item d (item x (item y no_items))))))) (number_of a) _ o h (λ v0 e0 h. ok_then (ArePlain (item a (item b (item c (item d (item x (item y no_items))))))) (number_of b) _ o h (λ v1 e1 h. ok_then (ArePlain (item a (item b (item c (item d (item x (item y no_items))))))) (number_of c) _ o h (λ v2 e2 h. ok_then (ArePlain (item a (item b (item c (item d (item x (item y no_items))))))) (number_of d) _ o h (λ v3 e3 h. ok_then (ArePlain (item a (item b (item c (item d (item x (item y no_items))))))) (number_of x) _ o h (λ v4 e4 h. ok_then (ArePlain (item a (item b (item c (item d (item x (item y no_items))))))) (number_of y) _ o h (λ v5 e5 h. (number_plain a v0 is.0 e0, (number_plain b v1 is.1.0 e1, (number_plain c v2 is.1.1.0 e2, (number_plain d v3 is.1.1.1.0 e3, (number_plain x v4 is.1.1.1.1.0 e4, (number_plain y v5 is.1.1.1.1.1.0 e5, tt))))))))))))

unmap_sg_of_plain : (a b : Data) (o : Op) → AreRead (item a (item b no_items)) → unmap_sg_of a b ≡ Ok o → ArePlain (item a (item b no_items))
unfolding unmap_sg_of ArePlain AreRead
unmap_sg_of_plain a b o is h =
    ok_then (ArePlain (item a (item b no_items))) (number_of a) _ o h (λ v0 e0 h. ok_then (ArePlain (item a (item b no_items))) (number_of b) _ o h (λ v1 e1 h. (number_plain a v0 is.0 e0, (number_plain b v1 is.1.0 e1, tt))))

calloc_of_plain : (a b c : Data) (o : Op) → AreRead (item a (item b (item c no_items))) → calloc_of a b c ≡ Ok o → ArePlain (item a (item b (item c no_items)))
unfolding calloc_of ArePlain AreRead
calloc_of_plain a b c o is h =
    ok_then (ArePlain (item a (item b (item c no_items)))) (number_of a) _ o h (λ v0 e0 h. ok_then (ArePlain (item a (item b (item c no_items)))) (number_of b) _ o h (λ v1 e1 h. ok_then (ArePlain (item a (item b (item c no_items)))) (number_of c) _ o h (λ v2 e2 h. (number_plain a v0 is.0 e0, (number_plain b v1 is.1.0 e1, (number_plain c v2 is.1.1.0 e2, tt))))))

hand_of_plain : (room : Counts) (a b : Data) (o : Op) → AreRead (item a (item b no_items)) → hand_of room a b ≡ Ok o → ArePlain (item a (item b no_items))
unfolding hand_of ArePlain AreRead
hand_of_plain room a b o is h =
    ok_then (ArePlain (item a (item b no_items))) (number_of a) _ o h (λ v0 e0 h. ok_then (ArePlain (item a (item b no_items))) (number_of b) _ o h (λ v1 e1 h. (number_plain a v0 is.0 e0, (number_plain b v1 is.1.0 e1, tt))))

regs_of_plain : (a b c d x : Data) (o : Op) → AreRead (item a (item b (item c (item d (item x no_items))))) → regs_of a b c d x ≡ Ok o → ArePlain (item a (item b (item c (item d (item x no_items)))))
unfolding regs_of ArePlain AreRead
regs_of_plain a b c d x o is h =
    ok_then (ArePlain (item a (item b (item c (item d (item x no_items)))))) (number_of a) _ o h (λ v0 e0 h. ok_then (ArePlain (item a (item b (item c (item d (item x no_items)))))) (bus_of b) _ o h (λ v1 e1 h. ok_then (ArePlain (item a (item b (item c (item d (item x no_items)))))) (bus_of c) _ o h (λ v2 e2 h. ok_then (ArePlain (item a (item b (item c (item d (item x no_items)))))) (number_of d) _ o h (λ v3 e3 h. ok_then (ArePlain (item a (item b (item c (item d (item x no_items)))))) (number_of x) _ o h (λ v4 e4 h. (number_plain a v0 is.0 e0, (bus_plain b v1 is.1.0 e1, (bus_plain c v2 is.1.1.0 e2, (number_plain d v3 is.1.1.1.0 e3, (number_plain x v4 is.1.1.1.1.0 e4, tt))))))))))

regr_of_plain : (a b c : Data) (o : Op) → AreRead (item a (item b (item c no_items))) → regr_of a b c ≡ Ok o → ArePlain (item a (item b (item c no_items)))
unfolding regr_of ArePlain AreRead
regr_of_plain a b c o is h =
    ok_then (ArePlain (item a (item b (item c no_items)))) (number_of a) _ o h (λ v0 e0 h. ok_then (ArePlain (item a (item b (item c no_items)))) (number_of b) _ o h (λ v1 e1 h. ok_then (ArePlain (item a (item b (item c no_items)))) (number_of c) _ o h (λ v2 e2 h. (number_plain a v0 is.0 e0, (number_plain b v1 is.1.0 e1, (number_plain c v2 is.1.1.0 e2, tt))))))

regw_of_plain : (a b c d : Data) (o : Op) → AreRead (item a (item b (item c (item d no_items)))) → regw_of a b c d ≡ Ok o → ArePlain (item a (item b (item c (item d no_items))))
unfolding regw_of ArePlain AreRead
regw_of_plain a b c d o is h =
    ok_then (ArePlain (item a (item b (item c (item d no_items))))) (number_of a) _ o h (λ v0 e0 h. ok_then (ArePlain (item a (item b (item c (item d no_items))))) (number_of b) _ o h (λ v1 e1 h. ok_then (ArePlain (item a (item b (item c (item d no_items))))) (number_of c) _ o h (λ v2 e2 h. ok_then (ArePlain (item a (item b (item c (item d no_items))))) (number_of d) _ o h (λ v3 e3 h. (number_plain a v0 is.0 e0, (number_plain b v1 is.1.0 e1, (number_plain c v2 is.1.1.0 e2, (number_plain d v3 is.1.1.1.0 e3, tt))))))))

copy_of_plain : (room : Counts) (a b c d x y z : Data) (o : Op) → AreRead (item a (item b (item c (item d (item x (item y (item z no_items))))))) → copy_of room a b c d x y z ≡ Ok o → ArePlain (item a (item b (item c (item d (item x (item y (item z no_items)))))))
unfolding copy_of ArePlain AreRead
copy_of_plain room a b c d x y z o is h =
    ok_then (ArePlain (item a (item b (item c (item d (item x (item y (item z no_items)))))))) (number_of a) _ o h (λ v0 e0 h. ok_then (ArePlain (item a (item b (item c (item d (item x (item y (item z no_items)))))))) (number_of b) _ o h (λ v1 e1 h. ok_then (ArePlain (item a (item b (item c (item d (item x (item y (item z no_items)))))))) (number_of c) _ o h (λ v2 e2 h. ok_then (ArePlain (item a (item b (item c (item d (item x (item y (item z no_items)))))))) (number_of d) _ o h (λ v3 e3 h. ok_then (ArePlain (item a (item b (item c (item d (item x (item y (item z no_items)))))))) (number_of x) _ o h (λ v4 e4 h. ok_then (ArePlain (item a (item b (item c (item d (item x (item y (item z no_items)))))))) (number_of y) _ o h (λ v5 e5 h. ok_then (ArePlain (item a (item b (item c (item d (item x (item y (item z no_items)))))))) (number_of z) _ o h (λ v6 e6 h. (number_plain a v0 is.0 e0, (number_plain b v1 is.1.0 e1, (number_plain c v2 is.1.1.0 e2, (number_plain d v3 is.1.1.1.0 e3, (number_plain x v4 is.1.1.1.1.0 e4, (number_plain y v5 is.1.1.1.1.1.0 e5, (number_plain z v6 is.1.1.1.1.1.1.0 e6, tt))))))))))))))

map_sg_of_plain : (room : Counts) (a b c d : Data) (o : Op) → AreRead (item a (item b (item c (item d no_items)))) → map_sg_of room a b c d ≡ Ok o → ArePlain (item a (item b (item c (item d no_items))))
unfolding map_sg_of ArePlain AreRead
map_sg_of_plain room a b c d o is e =
    ok_then (ArePlain (item a (item b (item c (item d no_items))))) (number_of a) _ o e (λ v0 e0 e.
    ok_then (ArePlain (item a (item b (item c (item d no_items))))) (list_of b) _ o e (λ ds e1 e.
    ok_then (ArePlain (item a (item b (item c (item d no_items))))) (check_each (λ i d. entry_numbers d) 0 ds) _ o e (λ x ex e.
    ok_then (ArePlain (item a (item b (item c (item d no_items))))) (number_of c) _ o e (λ v2 e2 e.
    ok_then (ArePlain (item a (item b (item c (item d no_items))))) (number_of d) _ o e (λ v3 e3 e.
    (number_plain a v0 is.0 e0, (list_plain b ds is.1.0 e1 (λ are. checks_plain ds 0 x are ex), (number_plain c v2 is.1.1.0 e2, (number_plain d v3 is.1.1.1.0 e3, tt)))))))))

-- ---- by the number of arguments

either_way : {A E : Type 0} (P : Type 0) (b : Bool) (r s : Result A E) (x : A) → (if b then r else s) ≡ Ok x → (r ≡ Ok x → P) → (s ≡ Ok x → P) → P
either_way P true r s x e f g = f e
either_way P false r s x e f g = g e

-- one number, and what is made of it
made_plain : {B : Type 0} (a : Data) (f : ℕ → Result B Wrong) (g : B → Result Op Wrong) (o : Op) → AreRead (item a no_items) → (number_of a >>= f >>= g) ≡ Ok o → ArePlain (item a no_items)
unfolding ArePlain AreRead
made_plain a f g o is e = let u = ok_first (number_of a >>= f) g o e in let v = ok_first (number_of a) f u.0 u.1 in (number_plain a v.0 is.0 v.1, tt)

label_plain : (name : List ℕ) (a : Data) (o : Op) → AreRead (item a no_items) → label_op name a ≡ Ok o → ArePlain (item a no_items)
label_plain name a o is e =
    either_way (ArePlain (item a no_items)) (bytes_eq name (codes "unmap")) _ _ o e (λ e. made_plain a _ _ o is e) (λ e.
    either_way (ArePlain (item a no_items)) (bytes_eq name (codes "to_cpu")) _ _ o e (λ e. made_plain a _ _ o is e) (λ e.
    either_way (ArePlain (item a no_items)) (bytes_eq name (codes "to_dev")) _ _ o e (λ e. made_plain a _ _ o is e) (λ e.
    either_way (ArePlain (item a no_items)) (bytes_eq name (codes "cgive")) _ _ o e (λ e. made_plain a _ _ o is e) (λ e.
    either_way (ArePlain (item a no_items)) (bytes_eq name (codes "ctake")) _ _ o e (λ e. made_plain a _ _ o is e) (λ e.
    either_way (ArePlain (item a no_items)) (bytes_eq name (codes "cfree")) _ _ o e (λ e. made_plain a _ _ o is e) (λ e. absurd cc))))))

op_1_plain : (room : Counts) (name : List ℕ) (a : Data) (o : Op) → AreRead (item a no_items) → op_1 room name a ≡ Ok o → ArePlain (item a no_items)
op_1_plain room name a o is e =
    either_way (ArePlain (item a no_items)) (bytes_eq name (codes "take")) _ _ o e (λ e. made_plain a _ _ o is e) (λ e.
    either_way (ArePlain (item a no_items)) (bytes_eq name (codes "claim")) _ _ o e (λ e. made_plain a _ _ o is e) (λ e.
    either_way (ArePlain (item a no_items)) (bytes_eq name (codes "free")) _ _ o e (λ e. made_plain a _ _ o is e) (λ e.
    either_way (ArePlain (item a no_items)) (bytes_eq name (codes "run")) _ _ o e (λ e. made_plain a _ _ o is e) (λ e.
    either_way (ArePlain (item a no_items)) (bytes_eq name (codes "poll")) _ _ o e (λ e. made_plain a _ _ o is e) (λ e. label_plain name a o is e)))))

op_2_plain : (room : Counts) (name : List ℕ) (a b : Data) (o : Op) → AreRead (item a (item b no_items)) → op_2 room name a b ≡ Ok o → ArePlain (item a (item b no_items))
op_2_plain room name a b o is e =
    let P : Type 0 = ArePlain (item a (item b no_items)) in
    either_way P (bytes_eq name (codes "fence")) _ _ o e (λ e. fence_of_plain a b o is e) (λ e.
    either_way P (bytes_eq name (codes "unmap_sg")) _ _ o e (λ e. unmap_sg_of_plain a b o is e) (λ e.
    either_way P (bytes_eq name (codes "hand")) _ _ o e (λ e. hand_of_plain room a b o is e) (λ e. absurd cc)))

op_3_plain : (room : Counts) (name : List ℕ) (a b c : Data) (o : Op) → AreRead (item a (item b (item c no_items))) → op_3 room name a b c ≡ Ok o → ArePlain (item a (item b (item c no_items)))
op_3_plain room name a b c o is e =
    let P : Type 0 = ArePlain (item a (item b (item c no_items))) in
    either_way P (bytes_eq name (codes "ld")) _ _ o e (λ e. ld_of_plain room a b c o is e) (λ e.
    either_way P (bytes_eq name (codes "st")) _ _ o e (λ e. st_of_plain room a b c o is e) (λ e.
    either_way P (bytes_eq name (codes "cbo")) _ _ o e (λ e. cbo_op_plain room a b c o is e) (λ e.
    either_way P (bytes_eq name (codes "calloc")) _ _ o e (λ e. calloc_of_plain a b c o is e) (λ e.
    either_way P (bytes_eq name (codes "regr")) _ _ o e (λ e. regr_of_plain a b c o is e) (λ e. absurd cc)))))

op_4_plain : (room : Counts) (name : List ℕ) (a b c d : Data) (o : Op) → AreRead (item a (item b (item c (item d no_items)))) → op_4 room name a b c d ≡ Ok o → ArePlain (item a (item b (item c (item d no_items))))
op_4_plain room name a b c d o is e =
    let P : Type 0 = ArePlain (item a (item b (item c (item d no_items)))) in
    either_way P (bytes_eq name (codes "map_sg")) _ _ o e (λ e. map_sg_of_plain room a b c d o is e) (λ e.
    either_way P (bytes_eq name (codes "regw")) _ _ o e (λ e. regw_of_plain a b c d o is e) (λ e. absurd cc))

named_plain : (room : Counts) (name : List ℕ) (ds : Items) (o : Op) → AreRead ds → op_named room name ds ≡ Ok o → ArePlain ds
named_plain room name no_items o is e = absurd cc
named_plain room name (item a no_items) o is e = op_1_plain room name a o is e
named_plain room name (item a (item b no_items)) o is e = op_2_plain room name a b o is e
named_plain room name (item a (item b (item c no_items))) o is e = op_3_plain room name a b c o is e
named_plain room name (item a (item b (item c (item d no_items)))) o is e = op_4_plain room name a b c d o is e
named_plain room name (item a (item b (item c (item d (item x no_items))))) o is e =
    either_way (ArePlain (item a (item b (item c (item d (item x no_items)))))) (bytes_eq name (codes "regs")) _ _ o e (λ e. regs_of_plain a b c d x o is e) (λ e. absurd cc)
named_plain room name (item a (item b (item c (item d (item x (item y no_items)))))) o is e =
    either_way (ArePlain (item a (item b (item c (item d (item x (item y no_items))))))) (bytes_eq name (codes "map")) _ _ o e (λ e. map_of_plain room a b c d x y o is e) (λ e. absurd cc)
named_plain room name (item a (item b (item c (item d (item x (item y (item z no_items))))))) o is e =
    either_way (ArePlain (item a (item b (item c (item d (item x (item y (item z no_items)))))))) (bytes_eq name (codes "copy")) _ _ o e (λ e. copy_of_plain room a b c d x y z o is e) (λ e. absurd cc)
named_plain room name (item a (item b (item c (item d (item x (item y (item z (item w ds)))))))) o is e = absurd cc

items_plain : (room : Counts) (ds : Items) (o : Op) → AreRead ds → op_items room ds ≡ Ok o → ArePlain ds
unfolding ArePlain
items_plain room no_items o is e = absurd cc
items_plain room (item name ds) o is e =
    let r = item_read name ds is in
    let a = ok_first (text_of name) (λ n. op_named room n ds) o e in
    (text_plain name a.0 a.1, named_plain room a.0 ds o r.1 a.2)

-- an operation that was read is plain
pub op_plain : (room : Counts) (d : Data) (o : Op) → IsRead d → op_of room d ≡ Ok o → IsPlain d
unfolding op_of
op_plain room d o is e = let a = ok_first (list_of d) (op_items room) o e in list_plain d a.0 is a.1 (λ are. items_plain room a.0 o are a.2)
