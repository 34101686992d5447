-- What a drain leaves of a queue.
use Rattle.std.specs.Prelude.{Option, Some, None, slice_get, remove, unwrap_or, filter}
use Rattle.std.specs.List.{list_any}
use Rattle.std.proofs.Common.{◌≡◌, ℕ, true, false, List, ◌∷◌, take, refl, ap, ◌∙◌, subst}
use Rattle.nc_num.specs.Sizes.{IsBlockSize}
use Rattle.nc_queue.specs.Entries.{AllFit, entry_gives, block_of, has_block, is_mark, is_o}
use Rattle.nc_queue.specs.Rules.{gives, meets, may_leave, drained}
use Rattle.nc_queue.specs.declared.entry.Entry.{Entry}
use Rattle.nc_queue.specs.declared.entry.Entry.TheVariants.{Store, Cbo, Reg, Mail, Lend, Mark}
use Rattle.nc_queue.proofs.TestLaws.{filter-remove_first}
use Rattle.nc_queue.proofs.GivesLaws.{gives-no_block, gives-remove_silent, seen-remove}
use Rattle.nc_queue.proofs.FenceLaws.{drained-some, leaves_free, o_is_no_mark}

block_is_no_mark : (s : ℕ) (e : Entry) (b : ℕ) → block_of s e ≡ Some b → is_mark e ≡ false
block_is_no_mark s (Store span bytes kind) b is = refl
block_is_no_mark s (Cbo block op) b is = refl
block_is_no_mark s (Reg chan off width value) b is = refl
block_is_no_mark s (Mail buf to) b is = refl
block_is_no_mark s (Lend label first count) b is = refl
block_is_no_mark s (Mark pred succ) b is = absurd cc

-- an entry that may leave has no earlier entry of its block
pub leaves_first : (s : ℕ) (before : List Entry) (e : Entry) (b : ℕ) → may_leave s before e ≡ true → block_of s e ≡ Some b → list_any (has_block s b) before ≡ false
leaves_first s before e b may is =
    let free = leaves_free s before e may (block_is_no_mark s e b is) in subst (λ (o : Option ℕ). meets s before o ≡ false) is free.no_block

seen_by_block : {s : ℕ} → IsBlockSize s → (q : List Entry) (i : ℕ) (e : Entry) (x d : ℕ) (o : Option ℕ) → AllFit s q → slice_get q i ≡ Some e → may_leave s (take i q) e ≡ true → block_of s e ≡ o
    → unwrap_or (gives s (remove q i) x) (unwrap_or (entry_gives s e x) d) ≡ unwrap_or (gives s q x) d
seen_by_block {s = s} z q i e x d None fit is may of =
    let silent = gives-no_block s e x of in
    ap (λ (v : Option ℕ). unwrap_or (gives s (remove q i) x) (unwrap_or v d)) silent ∙ ap (λ (v : Option ℕ). unwrap_or v d) (gives-remove_silent s q i e x is silent)
seen_by_block {s = s} z q i e x d (Some b) fit is may of = seen-remove {s = s} z q i e x d b fit is of (leaves_first s (take i q) e b may of)

pub seen-drained : (s : ℕ) (q : List Entry) (i : ℕ) (e : Entry) (x below : ℕ) → IsBlockSize s → AllFit s q → drained s q i ≡ Some e
    → unwrap_or (gives s (remove q i) x) (unwrap_or (entry_gives s e x) below) ≡ unwrap_or (gives s q x) below
seen-drained s q i e x below z fit is = let at = drained-some s q i e is in seen_by_block {s = s} z q i e x below (block_of s e) fit at.0 at.1 refl

-- an entry of class O that drains is the oldest of its class
pub leaves_in_order : (s : ℕ) (before : List Entry) (e : Entry) → may_leave s before e ≡ true → is_o e ≡ true → list_any is_o before ≡ false
leaves_in_order s before e may o = (leaves_free s before e may (o_is_no_mark e o)).in_order o

pub outputs-drained : (s : ℕ) (q : List Entry) (i : ℕ) (e : Entry) → drained s q i ≡ Some e → is_o e ≡ true → filter is_o q ≡ e ∷ filter is_o (remove q i)
outputs-drained s q i e is o = let at = drained-some s q i e is in filter-remove_first is_o q i e at.0 o (leaves_in_order s (take i q) e at.1 o)

pub ruleset drain_rules = (seen-drained)

pub ruleset output_rules = (outputs-drained)
