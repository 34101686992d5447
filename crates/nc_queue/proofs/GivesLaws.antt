-- What a queue gives after a push and after a drain.
use Rattle.std.specs.Prelude.{Option, Some, None, slice_get, remove, is_some, unwrap_or, ◌==◌, nat_le, nat_lt, if◌then◌else◌}
use Rattle.std.specs.List.{list_any}
use Rattle.std.specs.Option.{option_or}
use Rattle.std.proofs.Common.{◌≡◌, ◌≢◌, ◌⊎◌, ℕ, zero, suc, ◌+◌, ◌-◌, ◌/◌, true, false, List, [], ◌∷◌, ◌++◌, take, refl, sym, ap, ◌∙◌, inl, inr}
use Rattle.std.proofs.lemmas.Bool.{or_parts, or_from, cases_eq, cases_Bool, and_parts, eqb-false, leb-true, ltb-true, cond-false, ne_eqb}
use Rattle.nc_num.specs.Sizes.{IsBlockSize}
use Rattle.nc_num.specs.Memory.{byte}
use Rattle.nc_num.specs.Places.{covers}
use Rattle.nc_num.specs.declared.places.Span.{Span}
use Rattle.nc_num.proofs.Blocks.{within_block}
use Rattle.nc_env.specs.declared.CboOp.TheVariants.{Clean, Flush, Inval, Zero}
use Rattle.nc_queue.specs.Entries.{entry_gives, block_of, is_block, has_block, StoreFits, Fits, AllFit, is_w}
use Rattle.nc_queue.specs.Rules.{gives}
use Rattle.nc_queue.specs.declared.entry.Entry.{Entry}
use Rattle.nc_queue.specs.declared.entry.Entry.TheVariants.{Store, Cbo, Reg, Mail, Lend, Mark}
use Rattle.nc_queue.proofs.Fit.{fits_at}
use Rattle.nc_queue.proofs.TestLaws.{none_of_class}

or_assoc : (a b c : Option ℕ) → option_or a (option_or b c) ≡ option_or (option_or a b) c
or_assoc None b c = refl
or_assoc (Some v) b c = refl

or_left_none : (o p : Option ℕ) → option_or o p ≡ None → o ≡ None
or_left_none None p is = refl
or_left_none (Some v) p is = absurd cc

or_right_none : (o p : Option ℕ) → option_or o p ≡ None → p ≡ None
or_right_none None p is = is
or_right_none (Some v) p is = absurd cc

or_none : (o : Option ℕ) → option_or o None ≡ o
or_none None = refl
or_none (Some v) = refl

-- a pushed entry is the newest
pub gives-push : (s : ℕ) (q : List Entry) (e : Entry) (x : ℕ) → gives s (q ++ e ∷ []) x ≡ option_or (entry_gives s e x) (gives s q x)
unfolding gives
gives-push s [] e x = sym (or_none (entry_gives s e x))
gives-push s (a ∷ q) e x = ap (λ (o : Option ℕ). option_or o (entry_gives s a x)) (gives-push s q e x) ∙ sym (or_assoc (entry_gives s e x) (gives s q x) (entry_gives s a x))

-- a queue that does not give x: none of its entries does, nor after a removal
pub gives-remove_none : (s : ℕ) (q : List Entry) (i x : ℕ) → gives s q x ≡ None → gives s (remove q i) x ≡ None
unfolding gives
gives-remove_none s [] zero x is = refl
gives-remove_none s [] (suc i) x is = refl
gives-remove_none s (a ∷ q) zero x is = or_left_none (gives s q x) (entry_gives s a x) is
gives-remove_none s (a ∷ q) (suc i) x is =
    rw (gives-remove_none s q i x (or_left_none (gives s q x) (entry_gives s a x) is)) (or_right_none (gives s q x) (entry_gives s a x) is)

pub entry_gives-none : (s : ℕ) (q : List Entry) (i : ℕ) (e : Entry) (x : ℕ) → gives s q x ≡ None → slice_get q i ≡ Some e → entry_gives s e x ≡ None
unfolding gives
entry_gives-none s [] i e x is at = absurd cc
entry_gives-none s (a ∷ q) zero e x is at = let same : a ≡ e = cc in ap (λ (b : Entry). entry_gives s b x) (sym same) ∙ or_right_none (gives s q x) (entry_gives s a x) is
entry_gives-none s (a ∷ q) (suc i) e x is at = entry_gives-none s q i e x (or_left_none (gives s q x) (entry_gives s a x) is) at

none_if : (o : Option ℕ) → is_some o ≡ false → o ≡ None
none_if None lacks = refl
none_if (Some v) lacks = absurd cc

-- by the test whether an entry gives x
pub gives-none : (s : ℕ) (q : List Entry) (x : ℕ) → list_any (λ e. is_some (entry_gives s e x)) q ≡ false → gives s q x ≡ None
unfolding gives
gives-none s [] x lacks = refl
gives-none s (a ∷ q) x lacks =
    let parts = or_parts (is_some (entry_gives s a x)) (list_any (λ e. is_some (entry_gives s e x)) q) lacks in
    rw (gives-none s q x parts.1) (none_if (entry_gives s a x) parts.0)

pub none-gives : (s : ℕ) (q : List Entry) (x : ℕ) → gives s q x ≡ None → list_any (λ e. is_some (entry_gives s e x)) q ≡ false
unfolding gives
none-gives s [] x is = refl
none-gives s (a ∷ q) x is =
    or_from (is_some (entry_gives s a x)) (list_any (λ e. is_some (entry_gives s e x)) q)
    (ap (λ (o : Option ℕ). is_some o) (or_right_none (gives s q x) (entry_gives s a x) is))
    (none-gives s q x (or_left_none (gives s q x) (entry_gives s a x) is))

-- what gives a byte is of class W
pub gives_is_w : (s x : ℕ) (e : Entry) → is_some (entry_gives s e x) ≡ true → is_w e ≡ true
gives_is_w s x (Store span bytes kind) is = refl
gives_is_w s x (Cbo block op) is = refl
gives_is_w s x (Reg chan off width value) is = absurd cc
gives_is_w s x (Mail buf to) is = absurd cc
gives_is_w s x (Lend label first count) is = absurd cc
gives_is_w s x (Mark pred succ) is = absurd cc

-- a queue without an entry of class W gives nothing
pub gives-no_w : (s : ℕ) (q : List Entry) (x : ℕ) → list_any is_w q ≡ false → gives s q x ≡ None
gives-no_w s q x lacks = gives-none s q x (none_of_class (λ e. is_some (entry_gives s e x)) is_w (gives_is_w s x) q lacks)

-- an entry gives places of its block alone
store_elsewhere : {s : ℕ} → IsBlockSize s → (span : Span) (bytes : List ℕ) (x : ℕ) (v : Option ℕ) → StoreFits s span bytes → x / s ≢ span.at / s → (if covers span x then v else None) ≡ None
store_elsewhere {s = s} z span bytes x v fits away =
    elim (cases_Bool (covers span x)) [
      | inl over ↦
          let parts = and_parts (nat_le span.at x) (nat_lt x (span.at + span.len)) over in
          absurd (away (within_block {s = s} span.at span.len x z fits.one_block (leb-true span.at x parts.0) (ltb-true x (span.at + span.len) parts.1)).block)
      | inr off ↦ cond-false (covers span x) v None off
    ]

pub gives-elsewhere : {s : ℕ} → IsBlockSize s → (e : Entry) (x b : ℕ) → Fits s e → block_of s e ≡ Some b → x / s ≢ b → entry_gives s e x ≡ None
gives-elsewhere {s = s} z (Store span bytes kind) x b fits is away =
    let same : span.at / s ≡ b = cc in store_elsewhere {s = s} z span bytes x (Some (byte bytes (x - span.at))) fits (λ at. away (at ∙ same))
gives-elsewhere {s = s} z (Cbo block Zero) x b fits is away =
    let same : block.0 ≡ b = cc in cond-false (x / s == block.0) (Some 0) None (ne_eqb (x / s) block.0 (λ at. away (at ∙ same)))
gives-elsewhere {s = s} z (Cbo block Clean) x b fits is away = refl
gives-elsewhere {s = s} z (Cbo block Flush) x b fits is away = refl
gives-elsewhere {s = s} z (Cbo block Inval) x b fits is away = refl
gives-elsewhere {s = s} z (Reg chan off width value) x b fits is away = refl
gives-elsewhere {s = s} z (Mail buf to) x b fits is away = refl
gives-elsewhere {s = s} z (Lend label first count) x b fits is away = refl
gives-elsewhere {s = s} z (Mark pred succ) x b fits is away = refl

pub gives-no_block : (s : ℕ) (e : Entry) (x : ℕ) → block_of s e ≡ None → entry_gives s e x ≡ None
gives-no_block s (Store span bytes kind) x is = absurd cc
gives-no_block s (Cbo block op) x is = absurd cc
gives-no_block s (Reg chan off width value) x is = refl
gives-no_block s (Mail buf to) x is = refl
gives-no_block s (Lend label first count) x is = refl
gives-no_block s (Mark pred succ) x is = refl

not_of_block : {s : ℕ} → IsBlockSize s → (a : Entry) (x b : ℕ) (o : Option ℕ) → Fits s a → block_of s a ≡ o → is_block b o ≡ false → x / s ≡ b → entry_gives s a x ≡ None
not_of_block {s = s} z a x b None fits is other at = gives-no_block s a x is
not_of_block {s = s} z a x b (Some c) fits is other at = gives-elsewhere {s = s} z a x c fits is (λ here. eqb-false c b other (sym here ∙ at))

-- an entry of another block does not give a place of the block
pub gives-other : {s : ℕ} → IsBlockSize s → (a : Entry) (x b : ℕ) → Fits s a → has_block s b a ≡ false → x / s ≡ b → entry_gives s a x ≡ None
gives-other {s = s} z a x b fits other at = not_of_block {s = s} z a x b (block_of s a) fits refl other at

-- of two entries of different blocks one does not give x
apart : {s : ℕ} → IsBlockSize s → (a e : Entry) (x b : ℕ) → Fits s a → Fits s e → block_of s e ≡ Some b → has_block s b a ≡ false → (entry_gives s a x ≡ None) ⊎ (entry_gives s e x ≡ None)
apart {s = s} z a e x b fa fe is other =
    elim (cases_eq (x / s) b) [ inl at ↦ inl (gives-other {s = s} z a x b fa other at) | inr away ↦ inr (gives-elsewhere {s = s} z e x b fe is away) ]

seen-or : (o p : Option ℕ) (d : ℕ) → unwrap_or (option_or o p) d ≡ unwrap_or o (unwrap_or p d)
seen-or None p d = refl
seen-or (Some v) p d = refl

seen_swap : (o p : Option ℕ) (d : ℕ) → (o ≡ None) ⊎ (p ≡ None) → unwrap_or o (unwrap_or p d) ≡ unwrap_or p (unwrap_or o d)
seen_swap o p d (inl e) = rw e refl
seen_swap o p d (inr e) = rw e refl

-- an entry that gives nothing at x may go
pub gives-remove_silent : (s : ℕ) (q : List Entry) (i : ℕ) (e : Entry) (x : ℕ) → slice_get q i ≡ Some e → entry_gives s e x ≡ None → gives s (remove q i) x ≡ gives s q x
unfolding gives
gives-remove_silent s [] i e x is silent = absurd cc
gives-remove_silent s (a ∷ q) zero e x is silent =
    let same : a ≡ e = cc in sym (ap (λ (o : Option ℕ). option_or (gives s q x) o) (ap (λ (b : Entry). entry_gives s b x) same ∙ silent) ∙ or_none (gives s q x))
gives-remove_silent s (a ∷ q) (suc i) e x is silent = ap (λ (o : Option ℕ). option_or o (entry_gives s a x)) (gives-remove_silent s q i e x is silent)

-- an entry that no earlier entry of its block precedes goes below those that stay: what is seen is the same
pub seen-remove : {s : ℕ} → IsBlockSize s → (q : List Entry) (i : ℕ) (e : Entry) (x d b : ℕ) → AllFit s q → slice_get q i ≡ Some e → block_of s e ≡ Some b → list_any (has_block s b) (take i q) ≡ false
    → unwrap_or (gives s (remove q i) x) (unwrap_or (entry_gives s e x) d) ≡ unwrap_or (gives s q x) d
unfolding gives
seen-remove {s = s} z [] i e x d b fit is of clear = absurd cc
seen-remove {s = s} z (a ∷ q) zero e x d b fit is of clear =
    let same : a ≡ e = cc in
    ap (λ (c : Entry). unwrap_or (gives s q x) (unwrap_or (entry_gives s c x) d)) (sym same) ∙ sym (seen-or (gives s q x) (entry_gives s a x) d)
seen-remove {s = s} z (a ∷ q) (suc i) e x d b fit is of clear =
    let fe : Fits s e = fits_at s q i e fit.1 is in
    let parts = or_parts (has_block s b a) (list_any (has_block s b) (take i q)) clear in
    let swap = seen_swap (entry_gives s a x) (entry_gives s e x) d (apart {s = s} z a e x b fit.0 fe of parts.0) in
    let rest = seen-remove {s = s} z q i e x (unwrap_or (entry_gives s a x) d) b fit.1 is of parts.1 in
    rw (seen-or (gives s (remove q i) x) (entry_gives s a x) (unwrap_or (entry_gives s e x) d), swap, seen-or (gives s q x) (entry_gives s a x) d) rest

pub ruleset push_rules = (gives-push)
