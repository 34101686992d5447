-- The tests of rows: no bytes, which class and which block.
use Rattle.std.specs.Prelude.{if◌then◌else◌, Option, Some, None, ◌/◌, ◌==◌, ◌&&◌, ◌||◌, is_some, All}
use Rattle.std.specs.List.{list_any}
use Rattle.std.proofs.Common.{◌≡◌, ◌⊎◌, ℕ, Bool, true, false, List, [], ◌∷◌, refl, sym, ap, ◌∙◌, inl, inr, subst}
use Rattle.std.proofs.lemmas.Bool.{or_parts, or_from, or_left, or_right, or_cases, and_parts, and_from, cases_Bool, both_ways, eqb-true, eq-eqb, cond-false}
use Rattle.std.proofs.lemmas.List.Elements.{All-nil, All-cons, All-head, All-tail}
use Rattle.nc_num.specs.Sizes.{IsBlockSize}
use Rattle.nc_num.specs.Places.{covers}
use Rattle.nc_num.specs.declared.names.MapId.{MapId}
use Rattle.nc_num.specs.declared.names.MemType.{MemType}
use Rattle.nc_num.specs.declared.names.MemType.TheVariants.{Pma, Nc, Io}
use Rattle.nc_env.specs.declared.CboOp.{CboOp}
use Rattle.nc_env.specs.declared.CboOp.TheVariants as cbos
use Rattle.nc_queue.specs.Entries.{entry_gives, has_op, has_block, gives_in, is_w, is_o, is_wo, is_inval, is_zero, is_store, writes_back, Fits, AllFit}
use Rattle.nc_queue.specs.Rules.{gives}
use Rattle.nc_queue.specs.declared.entry.Entry.{Entry}
use Rattle.nc_queue.specs.declared.entry.Entry.TheVariants.{Store, Cbo, Reg, Mail, Lend, Mark}
use Rattle.nc_queue.proofs.GivesLaws.{gives-other, gives_is_w}
use Rattle.nc_lines.specs.Lines.{bare, gives_at}
use Rattle.nc_lines.specs.Laws.{InBlock}
use Rattle.nc_rules.specs.Machine.{MachineState}
use Rattle.nc_calls.specs.PlaceLaws.{drops_copies, brings, op_parts, may_leave_stale_copy}
use Rattle.nc_rows.specs.Ahead.{names, is_full, is_mail}

-- ---- without bytes

some_if : (t : Bool) (v w : ℕ) → is_some (if t then Some v else None) ≡ is_some (if t then Some w else None)
some_if true v w = refl
some_if false v w = refl

pub bare_gives : (s x : ℕ) (e : Entry) → gives_at s x (bare e) ≡ gives_at s x e
bare_gives s x (Store span bytes kind) = some_if (covers span x) _ _
bare_gives s x (Cbo block op) = refl
bare_gives s x (Reg chan off width value) = refl
bare_gives s x (Mail buf to) = refl
bare_gives s x (Lend label first count) = refl
bare_gives s x (Mark pred succ) = refl

pub bare_in : (s b : ℕ) (e : Entry) → gives_in s b (bare e) ≡ gives_in s b e
bare_in s b (Store span bytes kind) = refl
bare_in s b (Cbo block op) = refl
bare_in s b (Reg chan off width value) = refl
bare_in s b (Mail buf to) = refl
bare_in s b (Lend label first count) = refl
bare_in s b (Mark pred succ) = refl

pub bare_op : (p : CboOp → Bool) (b : ℕ) (e : Entry) → has_op p b (bare e) ≡ has_op p b e
bare_op p b (Store span bytes kind) = refl
bare_op p b (Cbo block op) = refl
bare_op p b (Reg chan off width value) = refl
bare_op p b (Mail buf to) = refl
bare_op p b (Lend label first count) = refl
bare_op p b (Mark pred succ) = refl

pub bare_names : (n : MapId) (e : Entry) → names n (bare e) ≡ names n e
bare_names n (Store span bytes kind) = refl
bare_names n (Cbo block op) = refl
bare_names n (Reg chan off width value) = refl
bare_names n (Mail buf to) = refl
bare_names n (Lend label first count) = refl
bare_names n (Mark pred succ) = refl

-- ---- classes

pub gives_w : (s x : ℕ) (e : Entry) → gives_at s x e ≡ true → is_w e ≡ true
gives_w s x e is = gives_is_w s x e is

pub op_w : (p : CboOp → Bool) (b : ℕ) (e : Entry) → has_op p b e ≡ true → is_w e ≡ true
op_w p b (Cbo block op) is = refl
op_w p b (Store span bytes kind) is = absurd cc
op_w p b (Reg chan off width value) is = absurd cc
op_w p b (Mail buf to) is = absurd cc
op_w p b (Lend label first count) is = absurd cc
op_w p b (Mark pred succ) is = absurd cc

-- no entry of class W is a token, a message or a full fence
pub w_unnamed : (n : MapId) (e : Entry) → is_w e ≡ true → names n e ≡ false
w_unnamed n (Store span bytes kind) w = refl
w_unnamed n (Cbo block op) w = refl
w_unnamed n (Reg chan off width value) w = absurd cc
w_unnamed n (Mail buf to) w = absurd cc
w_unnamed n (Lend label first count) w = absurd cc
w_unnamed n (Mark pred succ) w = absurd cc

pub names_o : (n : MapId) (e : Entry) → names n e ≡ true → is_o e ≡ true
names_o n (Lend label first count) is = refl
names_o n (Store span bytes kind) is = absurd cc
names_o n (Cbo block op) is = absurd cc
names_o n (Reg chan off width value) is = absurd cc
names_o n (Mail buf to) is = absurd cc
names_o n (Mark pred succ) is = absurd cc

pub mail_o : (b : ℕ) (e : Entry) → is_mail b (bare e) ≡ true → is_o e ≡ true
mail_o b (Mail buf to) is = refl
mail_o b (Store span bytes kind) is = absurd cc
mail_o b (Cbo block op) is = absurd cc
mail_o b (Reg chan off width value) is = absurd cc
mail_o b (Lend label first count) is = absurd cc
mail_o b (Mark pred succ) is = absurd cc

-- ---- blocks

pub op_block : (s : ℕ) (p : CboOp → Bool) (b : ℕ) (e : Entry) → has_op p b e ≡ true → has_block s b e ≡ true
op_block s p b (Cbo block op) is = (and_parts (p op) (block.0 == b) is).1
op_block s p b (Store span bytes kind) is = absurd cc
op_block s p b (Reg chan off width value) is = absurd cc
op_block s p b (Mail buf to) is = absurd cc
op_block s p b (Lend label first count) is = absurd cc
op_block s p b (Mark pred succ) is = absurd cc

pub in_block : (s b : ℕ) (e : Entry) → gives_in s b e ≡ true → has_block s b e ≡ true
in_block s b e is = elim (or_cases (is_store e && has_block s b e) (has_op is_zero b e) is) [
  | inl stores ↦ (and_parts (is_store e) (has_block s b e) stores).1
  | inr zero ↦ op_block s is_zero b e zero
]

pub in_w : (s b : ℕ) (e : Entry) → gives_in s b e ≡ true → is_w e ≡ true
in_w s b (Store span bytes kind) is = refl
in_w s b (Cbo block op) is = refl
in_w s b (Reg chan off width value) is = absurd cc
in_w s b (Mail buf to) is = absurd cc
in_w s b (Lend label first count) is = absurd cc
in_w s b (Mark pred succ) is = absurd cc

pub in_unnamed : (n : MapId) (s b : ℕ) (e : Entry) → gives_in s b e ≡ true → names n e ≡ false
in_unnamed n s b e is = w_unnamed n e (in_w s b e is)

-- a wider test of cache operations
pub wider_op : (p q : CboOp → Bool) (b : ℕ) (e : Entry) → ((op : CboOp) → p op ≡ true → q op ≡ true) → has_op p b e ≡ true → has_op q b e ≡ true
wider_op p q b (Cbo block op) wider is = let parts = and_parts (p op) (block.0 == b) is in and_from (q op) (block.0 == b) (wider op parts.0) parts.1
wider_op p q b (Store span bytes kind) wider is = absurd cc
wider_op p q b (Reg chan off width value) wider is = absurd cc
wider_op p q b (Mail buf to) wider is = absurd cc
wider_op p q b (Lend label first count) wider is = absurd cc
wider_op p q b (Mark pred succ) wider is = absurd cc

-- ---- what an entry gives

-- a clean or a flush gives nothing, and parts nothing
op_silent : (s b : ℕ) (op : CboOp) (x : ℕ) → writes_back op ≡ true → entry_gives s (Cbo (record { 0 = b }) op) x ≡ None
op_silent s b cbos.Clean x is = refl
op_silent s b cbos.Flush x is = refl
op_silent s b cbos.Inval x is = absurd cc
op_silent s b cbos.Zero x is = absurd cc

pub back_silent : (s b : ℕ) (e : Entry) (x : ℕ) → has_op writes_back b e ≡ true → entry_gives s e x ≡ None
back_silent s b (Cbo block op) x is = op_silent s block.0 op x (and_parts (writes_back op) (block.0 == b) is).0
back_silent s b (Store span bytes kind) x is = absurd cc
back_silent s b (Reg chan off width value) x is = absurd cc
back_silent s b (Mail buf to) x is = absurd cc
back_silent s b (Lend label first count) x is = absurd cc
back_silent s b (Mark pred succ) x is = absurd cc

-- one that gives no byte of a block gives none of its places
zero_silent : (s b : ℕ) (c : ℕ) (op : CboOp) (x : ℕ) → (is_zero op && c == b) ≡ false → x / s ≡ b → entry_gives s (Cbo (record { 0 = c }) op) x ≡ None
zero_silent s b c cbos.Zero x other at = cond-false (x / s == c) (Some 0) None (rw at (elim (cases_Bool (b == c)) [
  | inl same ↦ absurd (both_ways (c == b) other (eq-eqb c b (sym (eqb-true b c same))))
  | inr ne ↦ ne
]))
zero_silent s b c cbos.Clean x other at = refl
zero_silent s b c cbos.Flush x other at = refl
zero_silent s b c cbos.Inval x other at = refl

pub silent_in : {s : ℕ} → IsBlockSize s → (e : Entry) (x : ℕ) → Fits s e → gives_in s (x / s) e ≡ false → entry_gives s e x ≡ None
silent_in {s = s} z (Store span bytes kind) x fits other = gives-other {s = s} z (Store span bytes kind) x (x / s) fits (or_parts (has_block s (x / s) (Store span bytes kind)) false other).0 refl
silent_in {s = s} z (Cbo block op) x fits other = zero_silent s (x / s) block.0 op x other refl
silent_in {s = s} z (Reg chan off width value) x fits other = refl
silent_in {s = s} z (Mail buf to) x fits other = refl
silent_in {s = s} z (Lend label first count) x fits other = refl
silent_in {s = s} z (Mark pred succ) x fits other = refl

pub none_in : {s : ℕ} → IsBlockSize s → (q : List Entry) (x : ℕ) → AllFit s q → list_any (gives_in s (x / s)) q ≡ false → gives s q x ≡ None
unfolding gives
none_in {s = s} z [] x fit lacks = refl
none_in {s = s} z (a ∷ q) x fit lacks =
    let parts = or_parts (gives_in s (x / s) a) (list_any (gives_in s (x / s)) q) lacks in
    rw (none_in {s = s} z q x fit.1 parts.1) (silent_in {s = s} z a x fit.0 parts.0)

-- one that brings a block gives in it
store_in : (s b at : ℕ) (kind : MemType) → (at / s == b) ≡ false → brings s b (Store (record { at = at; len = 0 }) [] kind) ≡ false
store_in s b at Pma other = other
store_in s b at Nc other = refl
store_in s b at Io other = refl

op_in : (b c : ℕ) (op : CboOp) (s : ℕ) → (is_zero op && c == b) ≡ false → brings s b (Cbo (record { 0 = c }) op) ≡ false
op_in b c cbos.Zero s other = other
op_in b c cbos.Clean s other = refl
op_in b c cbos.Flush s other = refl
op_in b c cbos.Inval s other = refl

pub brings_not : (s b : ℕ) (e : Entry) → gives_in s b e ≡ false → brings s b e ≡ false
brings_not s b (Store span bytes kind) other = store_in s b span.at kind (or_parts (has_block s b (Store span bytes kind)) false other).0
brings_not s b (Cbo block op) other = op_in b block.0 op s other
brings_not s b (Reg chan off width value) other = refl
brings_not s b (Mail buf to) other = refl
brings_not s b (Lend label first count) other = refl
brings_not s b (Mark pred succ) other = refl

-- ---- what parts memory and copies

-- an invalidate of the block, or a store that gives the byte
given_not : (t : Bool) (v : ℕ) → t ≡ true → (if t then Some v else None) ≡ None → ⊥
given_not true v is none = absurd cc
given_not false v is none = absurd cc

pub parted : (s x : ℕ) (e : Entry) → may_leave_stale_copy s e x ≡ true → (has_op is_inval (x / s) e ≡ true) ⊎ (entry_gives s e x ≡ None → ⊥)
parted s x (Store span bytes Pma) is = absurd cc
parted s x (Store span bytes Nc) is = inr (λ none. let over : covers span x ≡ true = is in absurd (given_not (covers span x) _ over none))
parted s x (Store span bytes Io) is = inr (λ none. let over : covers span x ≡ true = is in absurd (given_not (covers span x) _ over none))
parted s x (Cbo block cbos.Inval) is = inl (eq-eqb block.0 (x / s) (sym (eqb-true (x / s) block.0 is)))
parted s x (Cbo block cbos.Clean) is = absurd cc
parted s x (Cbo block cbos.Flush) is = absurd cc
parted s x (Cbo block cbos.Zero) is = absurd cc
parted s x (Reg chan off width value) is = absurd cc
parted s x (Mail buf to) is = absurd cc
parted s x (Lend label first count) is = absurd cc
parted s x (Mark pred succ) is = absurd cc

-- a clean or a flush parts nothing
back_together : (s b c : ℕ) (op : CboOp) (x : ℕ) → writes_back op ≡ true → may_leave_stale_copy s (Cbo (record { 0 = c }) op) x ≡ false
back_together s b c cbos.Clean x is = refl
back_together s b c cbos.Flush x is = refl
back_together s b c cbos.Inval x is = absurd cc
back_together s b c cbos.Zero x is = absurd cc

pub back_whole : (s b : ℕ) (e : Entry) (x : ℕ) → has_op writes_back b e ≡ true → may_leave_stale_copy s e x ≡ false
back_whole s b (Cbo block op) x is = back_together s b block.0 op x (and_parts (writes_back op) (block.0 == b) is).0
back_whole s b (Store span bytes kind) x is = absurd cc
back_whole s b (Reg chan off width value) x is = absurd cc
back_whole s b (Mail buf to) x is = absurd cc
back_whole s b (Lend label first count) x is = absurd cc
back_whole s b (Mark pred succ) x is = absurd cc

-- a test that each entry of another has
pub none_wider : (p q : Entry → Bool) (l : List Entry) → All (λ e. p e ≡ true → q e ≡ true) l → list_any q l ≡ false → list_any p l ≡ false
none_wider p q [] all lacks = refl
none_wider p q (a ∷ l) all lacks =
    let parts = or_parts (q a) (list_any q l) lacks in
    let here : p a ≡ false = elim (cases_Bool (p a)) [ inl is ↦ absurd (both_ways (q a) parts.0 (All-head (λ e. p e ≡ true → q e ≡ true) a l all is)) | inr other ↦ other ] in
    or_from (p a) (list_any p l) here (none_wider p q l (All-tail (λ e. p e ≡ true → q e ≡ true) a l all) parts.1)

-- ---- what a queue gives of a block

given_block : {s : ℕ} → IsBlockSize s → (e : Entry) (x : ℕ) → Fits s e → gives_at s x (bare e) ≡ true → has_block s (x / s) e ≡ true
given_block {s = s} z e x fits is = elim (cases_Bool (has_block s (x / s) e)) [
  | inl here ↦ here
  | inr other ↦ absurd (both_ways (gives_at s x e) (ap (λ (o : Option ℕ). is_some o) (gives-other {s = s} z e x (x / s) fits other refl)) (sym (bare_gives s x e) ∙ is))
]

pub gives_in_block : {s : ℕ} → IsBlockSize s → (q : List Entry) (x : ℕ) → AllFit s q → InBlock s (x / s) (gives_at s x) q
gives_in_block {s = s} z [] x fit = All-nil (λ (a : Entry). gives_at s x (bare a) ≡ true → has_block s (x / s) a ≡ true)
gives_in_block {s = s} z (a ∷ q) x fit =
    All-cons (λ (c : Entry). gives_at s x (bare c) ≡ true → has_block s (x / s) c ≡ true) a q (given_block {s = s} z a x fit.0) (gives_in_block {s = s} z q x fit.1)

pub in_in_block : (s b : ℕ) (q : List Entry) → InBlock s b (gives_in s b) q
in_in_block s b [] = All-nil (λ (a : Entry). gives_in s b (bare a) ≡ true → has_block s b a ≡ true)
in_in_block s b (a ∷ q) =
    All-cons (λ (c : Entry). gives_in s b (bare c) ≡ true → has_block s b c ≡ true) a q (λ is. in_block s b a (sym (bare_in s b a) ∙ is)) (in_in_block s b q)
