-- The poll of a copy: its channel is done with no error, and the destination has the source's bytes.
use Rattle.std.specs.Prelude.{Bool, true, false, not, drop}
use Rattle.std.specs.List.{list_any}
use Rattle.std.proofs.Common.{◌≡◌, ℕ, zero, suc, ◌<◌, List, [], ◌∷◌, ◌++◌, refl, sym, ap, ◌∙◌, inl, inr, subst, arith}
use Rattle.std.proofs.lemmas.Bool.{and_parts, and_from, or_parts, or_from, false≢true}
use Rattle.std.proofs.lemmas.List.Elements.{All-head, All-tail}
use Rattle.nc_num.specs.declared.names.ChanNo.{ChanNo}
use Rattle.nc_num.specs.declared.names.HartNo.{HartNo}
use Rattle.nc_num.specs.declared.places.Span.{Span}
use Rattle.nc_queue.specs.Entries.{is_o}
use Rattle.nc_queue.specs.declared.entry.Entry.{Entry}
use Rattle.nc_queue.specs.declared.entry.Entry.TheVariants.{Store, Cbo, Reg, Mail, Lend, Mark}
use Rattle.nc_plan.specs.Plans.{In}
use Rattle.nc_pdma_regs.specs.Control.{bit}
use Rattle.nc_scen.specs.declared.scenario.Scenario.{Scenario}
use Rattle.nc_rules.specs.declared.lots.LotId.{LotId}
use Rattle.nc_rules.specs.declared.steps.Act.TheVariants as acts
use Rattle.nc_rules.specs.declared.steps.Next.TheVariants as nexts
use Rattle.nc_rules.specs.declared.steps.Seen.TheVariants as seen
use Rattle.nc_rules.specs.declared.steps.Step.{Step}
use Rattle.nc_rules.specs.Calls.{control_of, io_waits}
use Rattle.nc_rules.specs.Events.{is_over, may_go_on}
use Rattle.nc_rules.specs.Machine.{queue_of, channel_of}
use Rattle.nc_rules.specs.Plans.{step, control_step}
use Rattle.nc_rules.specs.World.{WorldState, driver_of}
use Rattle.nc_scripts.specs.Drivers.{is_claim, ClaimsNothing}
use Rattle.nc_transfers.specs.Transfers.{Ends, IsMoved, IsCopying}
use Rattle.nc_transfers.proofs.Telling.{copies_tell}
use Rattle.nc_flatness.specs.Copying.{CopyOp, claims, polls, transfers, registers, registers_coming, register_entries, IsUnderWay, SawDone, IsCopyNow}
use Rattle.nc_flatness.specs.Tokens.{is_lot_token}

-- ---- no entry of class O is queued

pub none_registers : (q : List Entry) → list_any is_o q ≡ false → registers q ≡ []
none_registers [] none = refl
none_registers (Reg chan off width value ∷ q) none = absurd (false≢true (sym (or_parts (is_o (Reg chan off width value)) (list_any is_o q) none).0))
none_registers (Store span bytes kind ∷ q) none = none_registers q (or_parts (is_o (Store span bytes kind)) (list_any is_o q) none).1
none_registers (Cbo block op ∷ q) none = none_registers q (or_parts (is_o (Cbo block op)) (list_any is_o q) none).1
none_registers (Mail buf to ∷ q) none = none_registers q (or_parts (is_o (Mail buf to)) (list_any is_o q) none).1
none_registers (Lend label first count ∷ q) none = none_registers q (or_parts (is_o (Lend label first count)) (list_any is_o q) none).1
none_registers (Mark pred succ ∷ q) none = none_registers q (or_parts (is_o (Mark pred succ)) (list_any is_o q) none).1

-- nor a token
io_token : (id : LotId) (e : Entry) → is_o e ≡ false → is_lot_token id e ≡ false
io_token id (Lend label first count) none = absurd (false≢true (sym none))
io_token id (Store span bytes kind) none = refl
io_token id (Cbo block op) none = refl
io_token id (Reg chan off width value) none = refl
io_token id (Mail buf to) none = refl
io_token id (Mark pred succ) none = refl

pub none_tokens : (q : List Entry) (id : LotId) (e : Entry) → list_any is_o q ≡ false → In e q → is_lot_token id e ≡ false
none_tokens [] id e none here = absurd here
none_tokens (x ∷ q) id e none (inl same) = ap (is_lot_token id) (sym same) ∙ io_token id x (or_parts (is_o x) (list_any is_o q) none).0
none_tokens (x ∷ q) id e none (inr here) = none_tokens q id e (or_parts (is_o x) (list_any is_o q) none).1 here

pub not_so : (b : Bool) → not b ≡ true → b ≡ false
not_so true is = absurd (false≢true is)
not_so false is = refl

-- ---- the release is the last of the six

-- the store that comes next is the release: five have reached the channel
pub record IsRelease (chan named : ChanNo) (n : ℕ) : Type 0 where
  pub stores : n ≡ 5
  pub chan_is : named ≡ chan

-- of an entry, as far as it is one of a register
abbrev offset_of : List Entry → ℕ
offset_of [] = 0
offset_of (Reg chan off width value ∷ q) = off
offset_of (Store span bytes kind ∷ q) = 0
offset_of (Cbo block op ∷ q) = 0
offset_of (Mail buf to ∷ q) = 0
offset_of (Lend label first count ∷ q) = 0
offset_of (Mark pred succ ∷ q) = 0

abbrev value_of : List Entry → ℕ
value_of [] = 0
value_of (Reg chan off width value ∷ q) = value
value_of (Store span bytes kind ∷ q) = 0
value_of (Cbo block op ∷ q) = 0
value_of (Mail buf to ∷ q) = 0
value_of (Lend label first count ∷ q) = 0
value_of (Mark pred succ ∷ q) = 0

abbrev chan_of : ChanNo → List Entry → ChanNo
chan_of c [] = c
chan_of c (Reg chan off width value ∷ q) = chan
chan_of c (Store span bytes kind ∷ q) = c
chan_of c (Cbo block op ∷ q) = c
chan_of c (Mail buf to ∷ q) = c
chan_of c (Lend label first count ∷ q) = c
chan_of c (Mark pred succ ∷ q) = c

release_next : (chan named : ChanNo) (e : Ends) (more : List Entry) (n : ℕ) → n < 6 → Reg named 0 4 0 ∷ more ≡ drop n (register_entries chan e) → IsRelease chan named n
release_next chan named e more zero lt is = let no : ◌≡◌ {A = ℕ} 0 4 = ap offset_of is in absurd (omega (arith, no))
release_next chan named e more (suc zero) lt is = let no : ◌≡◌ {A = ℕ} 0 8 = ap offset_of is in absurd (omega (arith, no))
release_next chan named e more (suc (suc zero)) lt is = let no : ◌≡◌ {A = ℕ} 0 16 = ap offset_of is in absurd (omega (arith, no))
release_next chan named e more (suc (suc (suc zero))) lt is = let no : ◌≡◌ {A = ℕ} 0 24 = ap offset_of is in absurd (omega (arith, no))
release_next chan named e more (suc (suc (suc (suc zero)))) lt is = let no : ◌≡◌ {A = ℕ} 0 3 = ap value_of is in absurd (omega (arith, no))
release_next chan named e more (suc (suc (suc (suc (suc zero))))) lt is = record { stores = refl; chan_is = ap (chan_of named) is }
release_next chan named e more (suc (suc (suc (suc (suc (suc n)))))) lt is = absurd (omega (arith, lt))

-- ---- no claim is to come

none_claims : (rest : List Step) → ClaimsNothing rest → claims rest ≡ false
none_claims [] none = refl
none_claims (s ∷ rest) none = or_from (is_claim s.act) (claims rest) (All-head (λ (t : Step). is_claim t.act ≡ false) s rest none) (none_claims rest (All-tail (λ (t : Step). is_claim t.act ≡ false) s rest none))

pub poll_transfers : (chan : ChanNo) (rest : List Step) → ClaimsNothing rest → transfers (step (acts.Poll chan) ∷ rest) ≡ true
poll_transfers chan rest none = and_from (polls (step (acts.Poll chan) ∷ rest)) (not (claims (step (acts.Poll chan) ∷ rest))) refl (ap not (none_claims rest none))

-- ---- what the poll finds

-- the copy's own channel, done with no error
pub record PollFinds (sc : Scenario) (f : List ℕ) (w : WorldState) (h : ℕ) (k : CopyOp) (from to : Span) (chan : ChanNo) : Type 0 where
  pub under : IsUnderWay sc f w h k from to
  pub chan_is : chan ≡ k.chan
  pub moved : IsMoved under.ends f (channel_of w.machine k.chan.0)

found : (sc : Scenario) (f : List ℕ) (w : WorldState) (h : HartNo) (k : CopyOp) (from to : Span) (chan : ChanNo) (more : List Step) → IsUnderWay sc f w h.0 k from to → (driver_of w h.0).rest ≡ step (acts.Poll chan) ∷ control_step chan 0 ∷ more → may_go_on w h (nexts.Poll chan) ≡ true
    → PollFinds sc f w h.0 k from to chan
found sc f w h k from to chan more u rest may =
    let m = w.machine in
    let both = and_parts (not (io_waits m h.0)) (is_over (control_of m chan.0)) may in
    let empty : registers (queue_of m h.0) ≡ [] = none_registers (queue_of m h.0) (not_so (io_waits m h.0) both.0) in
    let coming : Reg chan 0 4 0 ∷ registers_coming more ≡ drop u.stores (register_entries k.chan u.ends) =
    sym (ap (λ (es : List Entry). es ++ registers_coming (driver_of w h.0).rest) empty ∙ ap registers_coming rest) ∙ u.left in
    let release = release_next k.chan chan u.ends (registers_coming more) u.stores u.few coming in
    let stage : IsCopying u.ends f 5 (channel_of m k.chan.0) = subst (λ (d : ℕ). IsCopying u.ends f d (channel_of m k.chan.0)) release.stores u.stage in
    record {
      under = u;
      chan_is = release.chan_is;
      moved = copies_tell.over u.ends f (channel_of m k.chan.0) stage (subst (λ (c : ChanNo). is_over (control_of m c.0) ≡ true) release.chan_is both.1);
    }

pub poll_finds : (sc : Scenario) (f : List ℕ) (w : WorldState) (h : HartNo) (k : CopyOp) (chan : ChanNo) (more : List Step) → (now : IsCopyNow sc f w h.0 k) → (driver_of w h.0).rest ≡ step (acts.Poll chan) ∷ control_step chan 0 ∷ more → ClaimsNothing (control_step chan 0 ∷ more)
    → may_go_on w h (nexts.Poll chan) ≡ true → PollFinds sc f w h.0 k now.from now.to chan
poll_finds sc f w h k chan more now rest none may =
    found sc f w h k now.from now.to chan more (now.under (ap transfers rest ∙ poll_transfers chan (control_step chan 0 ∷ more) none)) rest may

-- so it sees no error
pub sees_done : (sc : Scenario) (f : List ℕ) (w : WorldState) (h : ℕ) (k : CopyOp) (from to : Span) (chan : ChanNo) → PollFinds sc f w h k from to chan → SawDone (seen.Control (control_of w.machine chan.0))
sees_done sc f w h k from to chan is = record {
  control = control_of w.machine chan.0;
  saw_is = refl;
  no_error = subst (λ (c : ChanNo). bit (control_of w.machine c.0) 31 ≡ false) (sym is.chan_is) (copies_tell.moved is.under.ends f (channel_of w.machine k.chan.0) is.moved).1;
}
