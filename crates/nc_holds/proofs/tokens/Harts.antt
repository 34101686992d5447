-- A hart's queue and its driver: tokens, what is left of the plan, and loads, through each call of its driver.
use Rattle.std.specs.Prelude.{Option, Some, None, ◌⊎◌, ◌==◌, ◌&&◌, not, remove, if◌then◌else◌}
use Rattle.std.specs.List.{list_any}
use Rattle.std.proofs.Common.{◌≡◌, ℕ, Bool, true, false, List, refl, sym, ap, ◌∙◌, inl, inr, subst, arith}
use Rattle.std.proofs.lemmas.Bool.{false≢true, and_parts, or_right}
use Rattle.std.proofs.lemmas.Bool.Decides.{nat_tests}
use Rattle.nc_queue.specs.Entries.{is_o, is_w, in_set, has_w, has_o}
use Rattle.nc_queue.specs.Rules.{any_in}
use Rattle.nc_queue.specs.QueueState.{QueueState}
use Rattle.nc_queue.specs.declared.entry.Entry.{Entry}
use Rattle.nc_queue.specs.declared.entry.Entry.TheVariants as entries
use Rattle.nc_plan.specs.Plans.{In}
use Rattle.nc_plan.specs.declared.ops.HartOp.{HartOp}
use Rattle.nc_plan.specs.declared.ops.HartOp.TheVariants as hart
use Rattle.nc_plan.specs.declared.ops.IoTarget.{IoTarget}
use Rattle.nc_plan.specs.declared.ops.IoTarget.TheVariants as io
use Rattle.nc_hart.specs.HartState.{HartState}
use Rattle.nc_hart.specs.Issue.{entry_of, payload, io_entry, marks, waits, marker, pushed, can_issue, has_room, fence_clear, load_clear}
use Rattle.nc_rules.specs.declared.lots.LotId.{LotId}
use Rattle.nc_rules.specs.Driver.{DriverState}
use Rattle.nc_scripts.specs.Drivers.{LoadsFit}
use Rattle.nc_holds.specs.Tokens.{token_of, token_op, token_to, waits_op, TokenStays, TokensFollow}
use Rattle.nc_holds.specs.Rests.{RestAgrees}
use Rattle.nc_holds.proofs.lists.Changes.{in_pushed, in_removed, in_none}
use Rattle.nc_holds.proofs.tokens.Calls.{Leaves, Before}

-- what holds of a hart's driver beside its queue, and beside its last load
pub record HartSo (d : DriverState) (q : List Entry) (n : ℕ) : Type 0 where
  pub queued : (e : Entry) (i : LotId) → In e q → token_of e ≡ Some i → TokenStays i d.lots d.rest
  pub follows : TokensFollow d.lots d.rest
  pub light : (e : Entry) (i : LotId) → In e q → token_of e ≡ Some i → d.fixed.light ≡ true
  pub rest : RestAgrees d
  pub loads : LoadsFit n d.rest

-- a token of this name is queued
abbrev pub Queued : List Entry → LotId → Type 0
Queued q i = (e : Entry) × In e q × (token_of e ≡ Some i)

pub before : (d : DriverState) (q : List Entry) (n : ℕ) → HartSo d q n → Before (Queued q) d
before d q n h = record { rest = h.rest; follows = h.follows; stays = λ i has. h.queued has.0 i has.1 has.2 }

-- what a call leaves, with the queue behind it
pub so_left : (N : Type 0) (now : DriverState) (q : List Entry) (n : ℕ) → Leaves (Queued q) N now → ((e : Entry) (i : LotId) → In e q → token_of e ≡ Some i → now.fixed.light ≡ true) → LoadsFit n now.rest → HartSo now q n
so_left N now q n h light loads = record { queued = λ e i here is. h.stays i (e, here, is); follows = h.follows; light = light; rest = h.rest; loads = loads }

-- ---- the queue alone moves

pub so_removed : (d : DriverState) (q : List Entry) (i n : ℕ) → HartSo d q n → HartSo d (remove q i) n
so_removed d q i n h = record {
  queued = λ e k here is. h.queued e k (in_removed e q i here) is;
  follows = h.follows;
  light = λ e k here is. h.light e k (in_removed e q i here) is;
  rest = h.rest;
  loads = h.loads;
}

-- ---- tokens are of class O

pub token_is_o : (e : Entry) (i : LotId) → token_of e ≡ Some i → is_o e ≡ true
token_is_o (entries.Lend label first count) i is = refl
token_is_o (entries.Store span bytes kind) i is = absurd cc
token_is_o (entries.Cbo block op) i is = absurd cc
token_is_o (entries.Reg chan off width value) i is = absurd cc
token_is_o (entries.Mail buf to) i is = absurd cc
token_is_o (entries.Mark pred succ) i is = absurd cc

pub none_queued : (q : List Entry) (i : LotId) → list_any is_o q ≡ false → Queued q i → ⊥
none_queued q i none has = false≢true (sym (in_none is_o has.0 q none has.1) ∙ token_is_o has.0 i has.2)

full_set : (e : Entry) → is_o e ≡ true → in_set e 15 ≡ true
full_set e is = or_right (is_w e && has_w 15) (is_o e && has_o 15) (ap (λ (t : Bool). t && has_o 15) is)

-- a full fence waits for them
fence_none : (q : List Entry) (pred succ : ℕ) (i : LotId) → (pred == 15 && succ == 15) ≡ true → not (waits pred succ && any_in q pred) ≡ true → Queued q i → ⊥
fence_none q pred succ i full clear has =
    let p = and_parts (pred == 15) (succ == 15) full in
    let is_pred : pred ≡ 15 = grind (arith, nat_tests) in
    let is_succ : succ ≡ 15 = grind (arith, nat_tests) in
    let now : not (waits 15 15 && any_in q 15) ≡ true = subst (λ (k : ℕ). not (waits 15 k && any_in q 15) ≡ true) is_succ (subst (λ (k : ℕ). not (waits k succ && any_in q k) ≡ true) is_pred clear) in
    false≢true (sym (in_none (λ (e : Entry). in_set e 15) has.0 q (none (any_in q 15) now) has.1) ∙ full_set has.0 (token_is_o has.0 i has.2))
  where
    none : (t : Bool) → not (true && t) ≡ true → t ≡ false
    none true e = absurd (false≢true e)
    none false e = refl

pub waits_none : (s : HartState) (op : HartOp) (i : LotId) → waits_op op ≡ true → can_issue s op ≡ true → Queued s.queue.entries i → ⊥
unfolding can_issue
waits_none s (hart.Fence pred succ) i full may has =
    let both = and_parts (has_room s.queue.entries (hart.Fence pred succ) && fence_clear s.queue.entries (hart.Fence pred succ)) (load_clear s.queue.entries (hart.Fence pred succ)) may in
    let clear = and_parts (has_room s.queue.entries (hart.Fence pred succ)) (fence_clear s.queue.entries (hart.Fence pred succ)) both.0 in
    fence_none s.queue.entries pred succ i full clear.1 has
waits_none s (hart.Load span kind) i full may has = absurd (false≢true full)
waits_none s (hart.Store span kind bytes) i full may has = absurd (false≢true full)
waits_none s (hart.Cbo op block) i full may has = absurd (false≢true full)
waits_none s (hart.IoLoad chan off width) i full may has = absurd (false≢true full)
waits_none s (hart.IoStore target) i full may has = absurd (false≢true full)
waits_none s (hart.Mark pred succ) i full may has = absurd (false≢true full)

-- ---- the entry of an operation

none_some : (i : LotId) → ◌≡◌ {A = Option LotId} None (Some i) → ⊥
none_some i e = absurd cc

io_token : (target : IoTarget) → token_of (io_entry target) ≡ token_to target
io_token (io.Lend label first count) = refl
io_token (io.Reg chan off width value) = refl
io_token (io.Mail buf to) = refl

mark_token : (t : Bool) (pred succ : ℕ) (e : Entry) → (if t then Some (marker pred succ) else None) ≡ Some e → token_of e ≡ None
mark_token true pred succ e is = let same : marker pred succ ≡ e = cc in subst (λ (f : Entry). token_of f ≡ None) same refl
mark_token false pred succ e is = absurd cc

pub entry_token : (last : List ℕ) (op : HartOp) (e : Entry) → entry_of last op ≡ Some e → token_of e ≡ token_op op
entry_token last (hart.IoStore target) e is = let same : io_entry target ≡ e = cc in ap token_of (sym same) ∙ io_token target
entry_token last (hart.Load span kind) e is = absurd cc
entry_token last (hart.IoLoad chan off width) e is = absurd cc
entry_token last (hart.Store span kind bytes) e is = let same : entries.Store span (payload last bytes) kind ≡ e = cc in ap token_of (sym same)
entry_token last (hart.Cbo op block) e is = let same : entries.Cbo block op ≡ e = cc in ap token_of (sym same)
entry_token last (hart.Fence pred succ) e is = mark_token (marks pred succ) pred succ e is
entry_token last (hart.Mark pred succ) e is = let same : marker pred succ ≡ e = cc in ap token_of (sym same)

-- what is queued behind an issue was queued before, or is its entry
pub queued_from : (q : QueueState) (o : Option Entry) (e : Entry) → In e (pushed q o).entries → In e q.entries ⊎ (o ≡ Some e)
queued_from q None e here = inl here
queued_from q (Some x) e here = elim (in_pushed e x q.entries here) [ inl old ↦ inl old | inr new ↦ inr (ap (λ (y : Entry). Some y) new) ]
