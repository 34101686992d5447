-- No rule of a queue looks at the bytes of a store.
use Rattle.std.specs.Prelude.{Option, Some, None, slice_get, remove, map, not}
use Rattle.std.specs.List.{list_any}
use Rattle.std.proofs.Common.{◌≡◌, ℕ, zero, suc, Bool, true, List, [], ◌∷◌, take, refl, ap, ◌∙◌}
use Rattle.nc_queue.specs.Entries.{is_o, in_set, has_block, block_of}
use Rattle.nc_queue.specs.Rules.{meets, orders, held_back, may_leave, may_drain, leaves, drained}
use Rattle.nc_queue.specs.declared.entry.Entry.{Entry}
use Rattle.nc_queue.specs.declared.entry.Entry.TheVariants.{Store, Cbo, Reg, Mail, Lend, Mark}
use Rattle.nc_queue.proofs.Drained.{drained-here}
use Rattle.nc_queue.proofs.FenceLaws.{drained-some}
use Rattle.nc_lines.specs.Lines.{bare, line}

pub bare_o : (e : Entry) → is_o (bare e) ≡ is_o e
bare_o (Store span bytes kind) = refl
bare_o (Cbo block op) = refl
bare_o (Reg chan off width value) = refl
bare_o (Mail buf to) = refl
bare_o (Lend label first count) = refl
bare_o (Mark pred succ) = refl

bare_set : (e : Entry) (set : ℕ) → in_set (bare e) set ≡ in_set e set
bare_set (Store span bytes kind) set = refl
bare_set (Cbo block op) set = refl
bare_set (Reg chan off width value) set = refl
bare_set (Mail buf to) set = refl
bare_set (Lend label first count) set = refl
bare_set (Mark pred succ) set = refl

pub bare_block : (s b : ℕ) (e : Entry) → has_block s b (bare e) ≡ has_block s b e
bare_block s b (Store span bytes kind) = refl
bare_block s b (Cbo block op) = refl
bare_block s b (Reg chan off width value) = refl
bare_block s b (Mail buf to) = refl
bare_block s b (Lend label first count) = refl
bare_block s b (Mark pred succ) = refl

bare_orders : (m a e : Entry) → orders (bare m) (bare a) (bare e) ≡ orders m a e
bare_orders (Mark pred succ) a e = rw (bare_set a pred, bare_set e succ) refl
bare_orders (Store span bytes kind) a e = refl
bare_orders (Cbo block op) a e = refl
bare_orders (Reg chan off width value) a e = refl
bare_orders (Mail buf to) a e = refl
bare_orders (Lend label first count) a e = refl

-- a test that does not see bytes
pub any_bare : (p : Entry → Bool) → ((a : Entry) → p (bare a) ≡ p a) → (q : List Entry) → list_any p (map bare q) ≡ list_any p q
any_bare p same [] = refl
any_bare p same (a ∷ q) = rw (same a, any_bare p same q) refl

any_orders : (a e : Entry) (q : List Entry) → list_any (λ m. orders m (bare a) (bare e)) (map bare q) ≡ list_any (λ m. orders m a e) q
any_orders a e [] = refl
any_orders a e (m ∷ q) = rw (bare_orders m a e, any_orders a e q) refl

bare_held : (q : List Entry) (e : Entry) → held_back (map bare q) (bare e) ≡ held_back q e
unfolding held_back
bare_held [] e = refl
bare_held (a ∷ q) e = rw (any_orders a e q, bare_held q e) refl

bare_meets : (s : ℕ) (q : List Entry) (o : Option ℕ) → meets s (map bare q) o ≡ meets s q o
bare_meets s q None = refl
bare_meets s q (Some b) = any_bare (has_block s b) (bare_block s b) q

bare_leaves : (s : ℕ) (q : List Entry) (e : Entry) → may_leave s (map bare q) (bare e) ≡ may_leave s q e
bare_leaves s q (Store span bytes kind) = rw (bare_meets s q (block_of s (Store span bytes kind)), any_bare is_o bare_o q, bare_held q (Store span bytes kind)) refl
bare_leaves s q (Cbo block op) = rw (bare_meets s q (block_of s (Cbo block op)), bare_held q (Cbo block op)) refl
bare_leaves s q (Reg chan off width value) = rw (any_bare is_o bare_o q, bare_held q (Reg chan off width value)) refl
bare_leaves s q (Mail buf to) = rw (any_bare is_o bare_o q, bare_held q (Mail buf to)) refl
bare_leaves s q (Lend label first count) = rw (any_bare is_o bare_o q, bare_held q (Lend label first count)) refl
bare_leaves s q (Mark pred succ) = ap not (any_bare (λ e. in_set e pred) (λ a. bare_set a pred) q)

-- ---- an entry of the queue, in its line

pub get_line : (q r : List Entry) (i : ℕ) (e : Entry) → slice_get q i ≡ Some e → slice_get (line q r) i ≡ Some (bare e)
get_line [] r i e is = absurd cc
get_line (a ∷ q) r zero e is = let same : a ≡ e = cc in ap (λ (k : Entry). Some (bare k)) same
get_line (a ∷ q) r (suc i) e is = get_line q r i e is

pub take_line : (q r : List Entry) (i : ℕ) (e : Entry) → slice_get q i ≡ Some e → take i (line q r) ≡ map bare (take i q)
take_line [] r i e is = absurd cc
take_line (a ∷ q) r zero e is = refl
take_line (a ∷ q) r (suc i) e is = ap (λ (l : List Entry). bare a ∷ l) (take_line q r i e is)

pub remove_line : (q r : List Entry) (i : ℕ) (e : Entry) → slice_get q i ≡ Some e → line (remove q i) r ≡ remove (line q r) i
remove_line [] r i e is = absurd cc
remove_line (a ∷ q) r zero e is = refl
remove_line (a ∷ q) r (suc i) e is = ap (λ (l : List Entry). bare a ∷ l) (remove_line q r i e is)

may_by : (s : ℕ) (l : List Entry) (i : ℕ) (e : Entry) → slice_get l i ≡ Some e → may_leave s (take i l) e ≡ true → may_drain s l i ≡ true
unfolding may_drain
may_by s l i e at may = ap (λ (o : Option Entry). leaves s (take i l) o) at ∙ may

pub line_drains : (s : ℕ) (q r : List Entry) (i : ℕ) (e : Entry) → drained s q i ≡ Some e → drained s (line q r) i ≡ Some (bare e)
line_drains s q r i e is =
    let out = drained-some s q i e is in
    let at = get_line q r i e out.0 in
    let may : may_leave s (take i (line q r)) (bare e) ≡ true = ap (λ (l : List Entry). may_leave s l (bare e)) (take_line q r i e out.0) ∙ bare_leaves s (take i q) e ∙ out.1 in
    drained-here s (line q r) i (bare e) (may_by s (line q r) i (bare e) at may) at
