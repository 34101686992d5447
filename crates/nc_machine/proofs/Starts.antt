-- Writes one behind another.
use Rattle.std.proofs.Common.{◌≡◌, ℕ, ◌+◌, ◌≤◌, List, [], ◌∷◌, ◌++◌, length, take, drop, refl, ap, sym, ◌∙◌, arith, map, append_assoc, length-append, length-take, take_at, drop_at, drop-drop}
use Rattle.std.proofs.lemmas.Grind.{common_steps}
use Rattle.std.proofs.lemmas.List.FromFn.{map-range_with_len_more, length-map-range_with_len}
use Rattle.std.specs.List.{range_with_len}
use Rattle.nc_num.specs.Memory.{splice}

pub splice_more : (m : List ℕ) (at : ℕ) (xs ys : List ℕ) → at + length xs + length ys ≤ length m → splice (splice m at xs) (at + length xs) ys ≡ splice m at (xs ++ ys)
unfolding splice
splice_more m at xs ys fits =
    let n = at + length xs in
    let front = take at m ++ xs in
    let rest = drop n m in
    let low : length (take at m) ≡ at = omega (arith, length-take at m) in
    let long : length front ≡ n = omega (arith, length-append (take at m) xs, low) in
    let below : take n (front ++ rest) ≡ front = take_at front rest n long in
    let behind : drop (n + length ys) (front ++ rest) ≡ drop (length ys) (drop n (front ++ rest)) = sym (drop-drop (length ys) n (front ++ rest)) in
    let above : drop (n + length ys) (front ++ rest) ≡ drop (length ys) rest = behind ∙ ap (drop (length ys)) (drop_at front rest n long) in
    let end : drop (length ys) rest ≡ drop (n + length ys) m = drop-drop (length ys) n m in
    let total : n + length ys ≡ at + length (xs ++ ys) = omega (arith, length-append xs ys) in
    rw (below, above, end, total, append_assoc (take at m) xs ys) refl

pub splice_none : (m : List ℕ) (at : ℕ) → splice m at [] ≡ m
unfolding splice
splice_none m at = grind (arith, common_steps)

-- a run of values, and one more
pub filled_more : (m r : List ℕ) (f : ℕ → ℕ) (at i v : ℕ) → r ≡ splice m at (map f (range_with_len 0 i)) → at + i + 1 ≤ length m → v ≡ f i → splice r (at + i) (v ∷ []) ≡ splice m at (map f (range_with_len 0 (i + 1)))
filled_more m r f at i v is fits value =
    let run = map f (range_with_len 0 i) in
    let long : length run ≡ i = length-map-range_with_len f 0 i in
    let more : splice (splice m at run) (at + length run) (f i ∷ []) ≡ splice m at (run ++ f i ∷ []) = splice_more m at run (f i ∷ []) (omega (arith, long, fits)) in
    let all : map f (range_with_len 0 (i + 1)) ≡ run ++ f i ∷ [] = map-range_with_len_more f 0 i i (omega arith) in
    rw (is, value, all) (ap (λ n. splice (splice m at run) (at + n) (f i ∷ [])) (sym long) ∙ more)
