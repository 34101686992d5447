-- A store of a copy's plan to a register of its channel drains: the channel is one store further.
use Rattle.std.specs.Prelude.{Bool, not, Option, Some, None, filter, drop, slice_get}
use Rattle.std.proofs.Common.{◌≡◌, ℕ, zero, suc, ◌<◌, true, false, List, [], ◌∷◌, ◌++◌, length, refl, sym, ap, ◌∙◌, inl, inr, subst, arith}
use Rattle.std.proofs.lemmas.Bool.{cases_eq, and_parts, false≢true}
use Rattle.nc_num.specs.declared.names.ChanNo.{ChanNo}
use Rattle.nc_num.specs.declared.names.HartNo.{HartNo}
use Rattle.nc_num.specs.declared.names.MemType.TheVariants.{Pma, Nc, Io}
use Rattle.nc_num.specs.declared.places.Span.{Span}
use Rattle.nc_queue.specs.Entries.{is_o}
use Rattle.nc_queue.specs.declared.entry.Entry.{Entry}
use Rattle.nc_queue.specs.declared.entry.Entry.TheVariants as entries
use Rattle.nc_plan.specs.declared.ops.HartOp.TheVariants.{IoStore}
use Rattle.nc_plan.specs.declared.ops.IoTarget.TheVariants as io
use Rattle.nc_pdma.specs.Channel.{ChannelState, channel_write}
use Rattle.nc_scen.specs.declared.scenario.Scenario.{Scenario}
use Rattle.nc_ops.specs.declared.ops.Op.{Op}
use Rattle.nc_rules.specs.declared.steps.Phase.{Phase}
use Rattle.nc_rules.specs.declared.steps.Phase.TheVariants.{Steps, Search, Work}
use Rattle.nc_rules.specs.Calls.{grantee_after, is_claimed, drain_next}
use Rattle.nc_rules.specs.Driver.{DriverState, in_hand}
use Rattle.nc_rules.specs.Machine.{queue_of, channel_of, grantee_of}
use Rattle.nc_rules.specs.World.{WorldState, driver_of}
use Rattle.nc_calls.specs.PlaceLaws.{ChannelIs}
use Rattle.nc_calls.proofs.ViewPlaces.{queues_keep_order}
use Rattle.nc_rules.specs.EventTouches.{drain_touch}
use Rattle.nc_holds.specs.Rests.{RestAt}
use Rattle.nc_holds.specs.Tokens.{token_of}
use Rattle.nc_row_moves.specs.Laws.{IsDrain}
use Rattle.nc_row_moves.proofs.PlaceDrains.{leaves}
use Rattle.nc_transfers.specs.Transfers.{Ends, register_stores, IsCopying}
use Rattle.nc_transfers.proofs.Stages.{copies_go_on}
use Rattle.nc_transfers.proofs.Ends.{copies_stay_within}
use Rattle.nc_flatness.specs.Copying.{CopyOp, copy_op, polls, claims, transfers, is_register, registers, registers_coming, register_entries, IsUnderWay, CopyStands}
use Rattle.nc_flatness.specs.Flatness.{PlanOf, StandsAt, Flatness}
use Rattle.nc_flatness.specs.Plans.{PlanGoes}
use Rattle.nc_flatness.proofs.worlds.Outcomes.{ran}
use Rattle.nc_flat_moves.proofs.drains.CopiesBeside.{copy_ran, devices_channel, box_channel, copies_left, register_beside}
use Rattle.nc_flat_moves.proofs.drains.MoreRegisters.{none_behind, more_registers}

-- ---- the first of the stores that are left

pub record IsStoreAt (chan named : ChanNo) (e : Ends) (d off width v : ℕ) (more : List Entry) : Type 0 where
  pub chan_is : named ≡ chan
  pub at : slice_get (register_stores chan e) d ≡ Some (IoStore (io.Reg named off width v))
  pub behind : more ≡ drop (suc d) (register_entries chan e)

store_by : (chan named : ChanNo) (off width v o n u : ℕ) (more rest : List Entry) → entries.Reg named off width v ∷ more ≡ entries.Reg chan o n u ∷ rest
    → (named ≡ chan) × (Some (IoStore (io.Reg chan o n u)) ≡ Some (IoStore (io.Reg named off width v))) × (more ≡ rest)
store_by chan named off width v o n u more rest same =
    let a : named ≡ chan = cc in
    let b : off ≡ o = cc in
    let c : width ≡ n = cc in
    let d : v ≡ u = cc in
    (a, rw (a, b, c, d) refl, cc)

store_at : (chan named : ChanNo) (e : Ends) (d off width v o n u : ℕ) (more : List Entry) → slice_get (register_stores chan e) d ≡ Some (IoStore (io.Reg chan o n u))
    → entries.Reg named off width v ∷ more ≡ entries.Reg chan o n u ∷ drop (suc d) (register_entries chan e) → IsStoreAt chan named e d off width v more
store_at chan named e d off width v o n u more at same =
    let k = store_by chan named off width v o n u more (drop (suc d) (register_entries chan e)) same in
    record { chan_is = k.0; at = at ∙ k.1; behind = k.2 }

first_store : (chan named : ChanNo) (e : Ends) (d off width v : ℕ) (more : List Entry) → d < 6 → entries.Reg named off width v ∷ more ≡ drop d (register_entries chan e) → IsStoreAt chan named e d off width v more
first_store chan named e zero off width v more lt same = store_at chan named e 0 off width v _ _ _ more refl same
first_store chan named e (suc zero) off width v more lt same = store_at chan named e 1 off width v _ _ _ more refl same
first_store chan named e (suc (suc zero)) off width v more lt same = store_at chan named e 2 off width v _ _ _ more refl same
first_store chan named e (suc (suc (suc zero))) off width v more lt same = store_at chan named e 3 off width v _ _ _ more refl same
first_store chan named e (suc (suc (suc (suc zero)))) off width v more lt same = store_at chan named e 4 off width v _ _ _ more refl same
first_store chan named e (suc (suc (suc (suc (suc zero))))) off width v more lt same = store_at chan named e 5 off width v _ _ _ more refl same
first_store chan named e (suc (suc (suc (suc (suc (suc d)))))) off width v more lt same = absurd (omega (arith, lt))

-- ---- registers drain in order

registers_out : (q : List Entry) → filter is_register (filter is_o q) ≡ filter is_register q
registers_out [] = refl
registers_out (entries.Store span bytes Pma ∷ q) = registers_out q
registers_out (entries.Store span bytes Nc ∷ q) = registers_out q
registers_out (entries.Store span bytes Io ∷ q) = registers_out q
registers_out (entries.Cbo block op ∷ q) = registers_out q
registers_out (entries.Reg chan off width value ∷ q) = ap (λ (r : List Entry). entries.Reg chan off width value ∷ r) (registers_out q)
registers_out (entries.Mail buf to ∷ q) = registers_out q
registers_out (entries.Lend label first count ∷ q) = registers_out q
registers_out (entries.Mark pred succ ∷ q) = registers_out q

first_out : (q r : List Entry) (chan : ChanNo) (off width v : ℕ) → filter is_o q ≡ entries.Reg chan off width v ∷ filter is_o r → registers q ≡ entries.Reg chan off width v ∷ registers r
first_out q r chan off width v same = sym (registers_out q) ∙ ap (filter is_register) same ∙ ap (λ (es : List Entry). entries.Reg chan off width v ∷ es) (registers_out r)

-- ---- one more store is to come

more_left : (chan : ChanNo) (e : Ends) (d : ℕ) (xs ys : List Entry) → d < 6 → (ys ≡ [] → ⊥) → xs ++ ys ≡ drop (suc d) (register_entries chan e) → suc d < 6
more_left chan e d xs ys lt some same = elim (cases_eq d 5) [
  | inl five ↦ absurd (some (none_behind xs ys (same ∙ ap (λ (n : ℕ). drop (suc n) (register_entries chan e)) five)))
  | inr ne ↦ omega (arith, lt, ne)
]

granted_on : (o : Option HartNo) (was is : Bool) (h : ℕ) → was ≡ true → is ≡ true → grantee_after o was is h ≡ o
granted_on o true true h a b = refl
granted_on o true false h a b = absurd (false≢true b)
granted_on o false is h a b = absurd (false≢true a)

-- ---- the store drains

pub register_drained : (sc : Scenario) (f : List ℕ) (w : WorldState) (h i : ℕ) (named : ChanNo) (off width v : ℕ) (c : CopyOp) (from to : Span) → IsDrain w.machine h i (entries.Reg named off width v) → (registers_coming (driver_of w h).rest ≡ [] → ⊥)
    → IsUnderWay sc f w h c from to → IsUnderWay sc f (ran w (drain_next w.machine h i)) h c from to
register_drained sc f w h i named off width v c from to is some u =
    let m = w.machine in
    let k = drain_next m h i in
    let e = entries.Reg named off width v in
    let coming = registers_coming (driver_of w h).rest in
    let at = c.chan.0 in
    let first = first_out (queue_of m h) (queue_of k h) named off width v (queues_keep_order.in_order m h i e is.sound is.hart is.out refl) in
    let all : e ∷ (registers (queue_of k h) ++ coming) ≡ drop u.stores (register_entries c.chan u.ends) = ap (λ (r : List Entry). r ++ coming) (sym first) ∙ u.left in
    let s = first_store c.chan named u.ends u.stores off width v (registers (queue_of k h) ++ coming) u.few all in
    let few : suc u.stores < 6 = more_left c.chan u.ends u.stores (registers (queue_of k h)) coming u.few some s.behind in
    let name : named.0 ≡ at = ap (λ (n : ChanNo). n.0) s.chan_is in
    let written : ℕ → ChannelState = λ j. channel_write (channel_of m j) off width v in
    let device : ChannelIs m k named.0 (written named.0) (grantee_after (grantee_of m named.0) (is_claimed (channel_of m named.0)) (is_claimed (written named.0)) h) = (leaves m h i e is).drains.devices (written named.0) refl in
    let channel : channel_of k at ≡ written at = ap (channel_of k) (sym name) ∙ device.channel ∙ ap written name in
    let stage : IsCopying u.ends f (suc u.stores) (written at) = copies_go_on.store u.ends f (channel_of m at) u.stores c.chan named off width v u.are.some s.at (λ five. absurd (omega (arith, few, five))) u.stage in
    let before = copies_stay_within.claimed u.ends f (channel_of m at) u.stores u.few u.stage in
    let behind = copies_stay_within.claimed u.ends f (written at) (suc u.stores) few stage in
    record {
      ends = u.ends;
      are = u.are;
      from_is = u.from_is;
      to_is = u.to_is;
      source_at = u.source_at;
      target_at = u.target_at;
      stores = suc u.stores;
      left = s.behind;
      few = few;
      stage = subst (λ (t : ChannelState). IsCopying u.ends f (suc u.stores) t) (sym channel) stage;
      granted =
          ap (grantee_of k) (sym name) ∙ device.grantee ∙ ap (λ (j : ℕ). grantee_after (grantee_of m j) (is_claimed (channel_of m j)) (is_claimed (written j)) h) name
          ∙ granted_on (grantee_of m at) (is_claimed (channel_of m at)) (is_claimed (written at)) h before behind ∙ u.granted;
    }

-- ---- the plan while a copy is under way

pub plan_by : (d : DriverState) (p : Phase) (c : CopyOp) → StandsAt d p → RestAt p d.rest → in_hand d ≡ Some (copy_op c) → transfers d.rest ≡ true → PlanGoes d.fixed d.lots d.rest
plan_by d (Steps n) c stands idle hand t = absurd (false≢true (sym (ap transfers idle) ∙ t))
plan_by d (Search k) c stands idle hand t = absurd (false≢true (sym (ap transfers idle) ∙ t))
plan_by d Work c stands idle hand t = (subst (λ (o : Option Op). PlanOf d o) hand stands).goes

-- ---- each copy behind a drain of what is no token

own_drained : (sc : Scenario) (f : List ℕ) (w : WorldState) (h i : ℕ) (named : ChanNo) (off width v : ℕ) → Flatness sc f w → IsDrain w.machine h i (entries.Reg named off width v) → h < length sc.harts → CopyStands sc f (ran w (drain_next w.machine h i)) h
own_drained sc f w h i named off width v flat is lt =
    let d = driver_of w h in
    let drives = flat.bytes.drives h lt in
    copy_ran sc f f w (drain_next w.machine h i) h (λ c from to hand t u.
    register_drained sc f w h i named off width v c from to is (more_registers d.fixed d.lots d.rest (plan_by d d.phase c drives.stands drives.idle hand t) (and_parts (polls d.rest) (not (claims d.rest)) t).0) u)
    (flat.bytes.copying h lt)

pub copies_drained : (sc : Scenario) (f : List ℕ) (w : WorldState) (h : HartNo) (i : ℕ) (e : Entry) → Flatness sc f w → IsDrain w.machine h.0 i e → token_of e ≡ None → drain_touch w h e ≡ None → (g : ℕ) → g < length sc.harts → CopyStands sc f (ran w (drain_next w.machine h.0 i)) g
copies_drained sc f w h i (entries.Store span bytes kind) flat is none untouched g lt =
    copies_left sc f w h.0 i (entries.Store span bytes kind) flat is refl (λ c. devices_channel w.machine (drain_next w.machine h.0 i) c (leaves w.machine h.0 i (entries.Store span bytes kind) is).drains.devices) g lt
copies_drained sc f w h i (entries.Cbo block op) flat is none untouched g lt =
    copies_left sc f w h.0 i (entries.Cbo block op) flat is refl (λ c. devices_channel w.machine (drain_next w.machine h.0 i) c (leaves w.machine h.0 i (entries.Cbo block op) is).drains.devices) g lt
copies_drained sc f w h i (entries.Mail buf to) flat is none untouched g lt =
    copies_left sc f w h.0 i (entries.Mail buf to) flat is refl (λ c. box_channel w.machine (drain_next w.machine h.0 i) buf c (Some to) (leaves w.machine h.0 i (entries.Mail buf to) is).drains.devices) g lt
copies_drained sc f w h i (entries.Mark pred succ) flat is none untouched g lt =
    copies_left sc f w h.0 i (entries.Mark pred succ) flat is refl (λ c. devices_channel w.machine (drain_next w.machine h.0 i) c (leaves w.machine h.0 i (entries.Mark pred succ) is).drains.devices) g lt
copies_drained sc f w h i (entries.Lend label first count) flat is none untouched g lt = absurd cc
copies_drained sc f w h i (entries.Reg chan off width v) flat is none untouched g lt = elim (cases_eq g h.0) [
  | inl own ↦ subst (λ (j : ℕ). CopyStands sc f (ran w (drain_next w.machine h.0 i)) j) (sym own) (own_drained sc f w h.0 i chan off width v flat is (subst (λ (j : ℕ). j < length sc.harts) own lt))
  | inr ne ↦ register_beside sc f w h i chan off width v g flat is untouched lt ne
]
