-- The steps of a copy's own plan that are of lots: its ends are there until its poll, and the copy stands behind each.
use Rattle.std.specs.Prelude.{◌&&◌, ◌||◌, not, All, flat_map}
use Rattle.std.proofs.Common.{◌≡◌, ℕ, ◌<◌, Bool, true, false, List, [], ◌∷◌, ◌++◌, length, refl, sym, ap, ◌∙◌, inl, inr, subst, Some}
use Rattle.std.proofs.lemmas.Bool.{cases_Bool, and_parts, false_from_ne_true, false≢true}
use Rattle.std.proofs.lemmas.List.Elements.{filter-append}
use Rattle.nc_num.specs.Memory.{byte}
use Rattle.nc_num.specs.declared.names.ChanNo.{ChanNo}
use Rattle.nc_num.specs.declared.names.Dir.{Dir}
use Rattle.nc_num.specs.declared.names.Dir.TheVariants.{ToDev, FromDev}
use Rattle.nc_num.specs.declared.names.MapId.{MapId}
use Rattle.nc_num.specs.declared.places.Span.{Span}
use Rattle.nc_queue.specs.declared.entry.Entry.{Entry as QueueEntry}
use Rattle.nc_queue.specs.declared.entry.Entry.TheVariants as entries
use Rattle.nc_plan.specs.Plans.{In}
use Rattle.nc_plan.specs.declared.ops.HartOp.{HartOp}
use Rattle.nc_plan.specs.declared.ops.HartOp.TheVariants as hart_ops
use Rattle.nc_plan.specs.declared.ops.IoTarget.{IoTarget}
use Rattle.nc_plan.specs.declared.ops.IoTarget.TheVariants as io
use Rattle.nc_hart.specs.Issue.{marks}
use Rattle.nc_pdma.specs.Channel.{ChannelState}
use Rattle.nc_sg.specs.Lists.{SgView}
use Rattle.nc_scen.specs.declared.scenario.Scenario.{Scenario}
use Rattle.nc_rules.specs.declared.lots.Lot.{Lot}
use Rattle.nc_rules.specs.declared.lots.LotId.{LotId}
use Rattle.nc_rules.specs.declared.steps.Act.{Act}
use Rattle.nc_rules.specs.declared.steps.Act.TheVariants as acts
use Rattle.nc_rules.specs.declared.steps.Phase.{Phase}
use Rattle.nc_rules.specs.declared.steps.Phase.TheVariants.{Work}
use Rattle.nc_rules.specs.declared.steps.Step.{Step}
use Rattle.nc_rules.specs.declared.steps.Turn.{Turn}
use Rattle.nc_rules.specs.Copies.{source, target}
use Rattle.nc_rules.specs.Driver.{DriverState, in_hand, went_to}
use Rattle.nc_rules.specs.Lots.{DriverConfig, is_lot, is_wanted}
use Rattle.nc_rules.specs.Machine.{queue_of, channel_of, grantee_of}
use Rattle.nc_rules.specs.Plans.{control_step}
use Rattle.nc_rules.specs.Refusals.{buffer_of, part_of}
use Rattle.nc_rules.specs.Turns.{lots_after, lots_after_both}
use Rattle.nc_rules.specs.EventTouches.{owner_of}
use Rattle.nc_rules.specs.World.{WorldState, driver_of, hart}
use Rattle.nc_scripts.specs.Drivers.{is_claim}
use Rattle.nc_scripts.proofs.LotLaws.{Becomes, Thins, none, keep, drop, thins_all, thinned}
use Rattle.nc_rows.specs.Ahead.{act_coming}
use Rattle.nc_transfers.specs.Transfers.{IsCopying}
use Rattle.nc_transfers.proofs.Stages.{copies_go_on}
use Rattle.nc_flatness.specs.Books.{mapping_in}
use Rattle.nc_flatness.specs.Copying.{CopyOp, is_poll, polls, claims, transfers, is_register, registers, registers_coming, span_of, IsOneRange, AreItsEnds, IsEndAt, IsUnderWay, IsItsOwn, SawDone, IsBegun, CopyStands}
use Rattle.nc_flatness.specs.Flatness.{Flatness}
use Rattle.nc_flatness.specs.Plans.{IsCopyEnd, StepGoes, PlanGoes}
use Rattle.nc_flatness.specs.Steps.{OfLots, kind_of_act}
use Rattle.nc_flatness.proofs.plans.Copies.{copy_idle, ends_same}
use Rattle.nc_flatness.proofs.books.Loans.{one_lot}
use Rattle.nc_flatness.proofs.plans.Rests.{poll_step, plan_next}

-- ---- what turns leave of a lot

pub record IsSameLot (lot now : Lot) : Type 0 where
  pub id : now.id ≡ lot.id
  pub kind : now.kind ≡ lot.kind
  pub chan : now.chan ≡ lot.chan
  pub list : now.list ≡ lot.list
  pub wanted : is_wanted now.side ≡ true → is_wanted lot.side ≡ true

in_thins : (R : Lot → Lot → Type 0) {lots nows : List Lot} → Thins R lots nows → (now : Lot) → In now nows → (lot : Lot) × In lot lots × R lot now
in_thins R none now here = absurd here
in_thins R (keep {lot} {now} {lots} {nows} r more) kept (inl same) = (lot, inl refl, subst (λ (k : Lot). R lot k) same r)
in_thins R (keep {lot} {now} {lots} {nows} r more) kept (inr later) = let x = in_thins R more kept later in (x.0, inr x.1, x.2)
in_thins R (drop {lot} {lots} {nows} more) now here = let x = in_thins R more now here in (x.0, inr x.1, x.2)

turned_from : (t : Turn) (lots : List Lot) (now : Lot) → In now (lots_after t lots) → (lot : Lot) × In lot lots × IsSameLot lot now
turned_from t lots now here =
    let x = in_thins (Becomes t) (thinned t lots) now here in
    let b = x.2 in
    (x.0, x.1, record { id = b.id; kind = b.kind; chan = b.chan; list = b.list; wanted = b.wanted })

-- a lot behind two turns was there before them
pub both_from : (first last : Turn) (lots : List Lot) (now : Lot) → In now (lots_after_both first last lots) → (lot : Lot) × In lot lots × IsSameLot lot now
both_from first last lots now here =
    let x = turned_from last (lots_after first lots) now here in
    let y = turned_from first lots x.0 x.1 in
    let a = y.2 in
    let b = x.2 in
    (y.0, y.1, record { id = b.id ∙ a.id; kind = b.kind ∙ a.kind; chan = b.chan ∙ a.chan; list = b.list ∙ a.list; wanted = λ is. a.wanted (b.wanted is) })

one_turn : (P : Lot → Type 0) (t : Turn) (lots : List Lot) → ((lot now : Lot) → IsSameLot lot now → P lot → P now) → All P lots → All P (lots_after t lots)
one_turn P t lots keeps all = thins_all (Becomes t) P P (thinned t lots) all (λ lot now b p. keeps lot now (record { id = b.id; kind = b.kind; chan = b.chan; list = b.list; wanted = b.wanted }) p)

pub both_turns : (P : Lot → Type 0) (first last : Turn) (lots : List Lot) → ((lot now : Lot) → IsSameLot lot now → P lot → P now) → All P lots → All P (lots_after_both first last lots)
both_turns P first last lots keeps all = one_turn P last (lots_after first lots) keeps (one_turn P first lots keeps all)

range_kept : (lot now : Lot) (dir : Dir) (chan : ChanNo) (range : Span) → IsSameLot lot now → IsOneRange lot dir chan range → IsOneRange now dir chan range
range_kept lot now dir chan range same is = record {
  dir_is = ap (λ (l : SgView). l.dir) same.list ∙ is.dir_is;
  chan_is = same.chan ∙ is.chan_is;
  entry = is.entry;
  only = ap (λ (l : SgView). l.entries) same.list ∙ is.only;
  range_is = is.range_is;
}

-- the ends of a copy stay those of its ranges
pub ends_kept : (k : CopyOp) (from to : Span) (first last : Turn) (lots : List Lot) → AreItsEnds k from to lots → AreItsEnds k from to (lots_after_both first last lots)
ends_kept k from to first last lots all =
    both_turns (λ (lot : Lot). (is_lot source lot ≡ true → IsOneRange lot ToDev k.chan from) × (is_lot target lot ≡ true → IsOneRange lot FromDev k.chan to)) first last lots
    (λ lot now same is. (
      λ named. range_kept lot now ToDev k.chan from same (is.0 (sym (ap (λ (i : LotId). is_lot source (record lot { id = i })) same.id) ∙ named)),
      λ named. range_kept lot now FromDev k.chan to same (is.1 (sym (ap (λ (i : LotId). is_lot target (record lot { id = i })) same.id) ∙ named)),
    )) all

-- ---- a step of lots

pub record IsOfLots (a : Act) : Type 0 where
  pub polls : is_poll a ≡ false
  pub claims : is_claim a ≡ false
  pub registers : registers (act_coming a) ≡ []

of_target : (t : IoTarget) → kind_of_act (acts.Op (hart_ops.IoStore t)) ≡ OfLots → registers (act_coming (acts.Op (hart_ops.IoStore t))) ≡ []
of_target (io.Reg chan off width value) is = absurd (cc)
of_target (io.Mail buf to) is = refl
of_target (io.Lend label first count) is = refl

fence_coming : (pred succ : ℕ) (t : Bool) → marks pred succ ≡ t → registers (act_coming (acts.Op (hart_ops.Fence pred succ))) ≡ []
fence_coming pred succ true is = rw is refl
fence_coming pred succ false is = rw is refl

of_op : (o : HartOp) → kind_of_act (acts.Op o) ≡ OfLots → registers (act_coming (acts.Op o)) ≡ []
of_op (hart_ops.IoStore t) is = of_target t is
of_op (hart_ops.Load span kind) is = refl
of_op (hart_ops.Store span kind bytes) is = refl
of_op (hart_ops.Cbo op block) is = refl
of_op (hart_ops.Fence pred succ) is = fence_coming pred succ (marks pred succ) refl
of_op (hart_ops.IoLoad chan off width) is = refl
of_op (hart_ops.Mark pred succ) is = refl

pub of_lots : (a : Act) → kind_of_act a ≡ OfLots → IsOfLots a
of_lots (acts.Op o) is = record { polls = refl; claims = refl; registers = of_op o is }
of_lots (acts.Take buf) is = record { polls = refl; claims = refl; registers = refl }
of_lots (acts.Claim chan) is = absurd (cc)
of_lots (acts.Poll chan) is = absurd (cc)

pub coming_by : (s : Step) (rest : List Step) → registers_coming (s ∷ rest) ≡ registers (act_coming s.act) ++ registers_coming rest
coming_by s rest = filter-append is_register (act_coming s.act) (flat_map (λ (t : Step). act_coming t.act) rest)

-- ---- until the poll both ends are there

pub record BothAreThere (lots : List Lot) : Type 0 where
  pub chan : ChanNo
  pub reads : Lot
  pub writes : Lot
  pub source_is : IsCopyEnd lots reads source ToDev chan
  pub target_is : IsCopyEnd lots writes target FromDev chan

-- the step is its poll, behind which comes the release
pub record IsItsPoll (lots : List Lot) (s : Step) (rest : List Step) : Type 0 where
  pub both : BothAreThere lots
  pub more : List Step
  pub release : rest ≡ control_step both.chan 0 ∷ more

pub poll_is : (f : DriverConfig) (lots : List Lot) (s : Step) (rest : List Step) → StepGoes f lots s rest → is_poll s.act ≡ true → IsItsPoll lots s rest
poll_is f lots s rest goes on =
    let is = poll_step f lots s rest goes on in
    record { both = record { chan = is.chan; reads = is.reads; writes = is.writes; source_is = is.source_is; target_is = is.target_is }; more = is.more; release = is.release }

end_from : (first last : Turn) (lots : List Lot) (now : Lot) (id : LotId) (dir : Dir) (chan : ChanNo) → IsCopyEnd (lots_after_both first last lots) now id dir chan → (lot : Lot) × IsCopyEnd lots lot id dir chan
end_from first last lots now id dir chan e =
    let x = both_from first last lots now e.here in
    let same = x.2 in
    (x.0, record { here = x.1; id_is = sym same.id ∙ e.id_is; kind = sym same.kind ∙ e.kind; dir_is = sym (ap (λ (l : SgView). l.dir) same.list) ∙ e.dir_is; chan_is = sym same.chan ∙ e.chan_is })

pub ends_there : (f : DriverConfig) (lots : List Lot) (rest : List Step) → PlanGoes f lots rest → polls rest ≡ true → BothAreThere lots
ends_there f lots [] goes on = absurd (false≢true on)
ends_there f lots (s ∷ rest) goes on = elim (cases_Bool (is_poll s.act)) [
  | inl here ↦ (poll_is f lots s rest goes.0 here).both
  | inr off ↦
      let later : polls rest ≡ true = sym (ap (λ (b : Bool). b || polls rest) off) ∙ on in
      let b = ends_there f (lots_after_both s.first s.last lots) rest (plan_next f lots s rest goes off) later in
      let reads = end_from s.first s.last lots b.reads source ToDev b.chan b.source_is in
      let writes = end_from s.first s.last lots b.writes target FromDev b.chan b.target_is in
      record { chan = b.chan; reads = reads.0; writes = writes.0; source_is = reads.1; target_is = writes.1 }
]

-- and the release is still to come
pub record HasMore (q : List QueueEntry) : Type 0 where
  pub first : QueueEntry
  pub others : List QueueEntry
  pub is : q ≡ first ∷ others

append_more : (p q : List QueueEntry) → HasMore q → HasMore (p ++ q)
append_more [] q more = more
append_more (e ∷ p) q more = record { first = e; others = p ++ q; is = refl }

pub more_registers : (f : DriverConfig) (lots : List Lot) (rest : List Step) → PlanGoes f lots rest → polls rest ≡ true → HasMore (registers_coming rest)
more_registers f lots [] goes on = absurd (false≢true on)
more_registers f lots (s ∷ rest) goes on =
    let later : HasMore (registers_coming rest) = elim (cases_Bool (is_poll s.act)) [
      | inl here ↦
          let p = poll_is f lots s rest goes.0 here in
          record { first = entries.Reg p.both.chan 0 4 0; others = registers_coming p.more; is = ap registers_coming p.release }
      | inr off ↦ more_registers f (lots_after_both s.first s.last lots) rest (plan_next f lots s rest goes off) (sym (ap (λ (b : Bool). b || polls rest) off) ∙ on)
    ] in
    subst (λ (q : List QueueEntry). HasMore q) (sym (coming_by s rest)) (append_more (registers (act_coming s.act)) (registers_coming rest) later)

-- ---- the copy behind a step of lots

pub record IsCopyStep (f g : List ℕ) (w v : WorldState) (h : ℕ) (s : Step) (rest : List Step) : Type 0 where
  pub work : (driver_of w h).phase ≡ Work
  pub rest_is : (driver_of w h).rest ≡ s ∷ rest
  pub goes : PlanGoes (driver_of w h).fixed (driver_of w h).lots (s ∷ rest)
  pub kind : kind_of_act s.act ≡ OfLots
  pub now : driver_of v h ≡ went_to (driver_of w h) (lots_after_both s.first s.last (driver_of w h).lots) (driver_of w h).saw rest
  pub channels : (c : ℕ) → grantee_of w.machine c ≡ Some (hart h) → (channel_of v.machine c ≡ channel_of w.machine c) × (grantee_of v.machine c ≡ Some (hart h))
  pub registers : registers (queue_of v.machine h) ≡ registers (queue_of w.machine h)
  pub owned : (x : ℕ) → IsItsOwn h (owner_of w x) → IsItsOwn h (owner_of v x)
  pub bytes : (x : ℕ) (n : MapId) → mapping_in (owner_of w x) ≡ Some n → n.hart.0 ≡ h → n.label.0 ≡ 1000 → byte g x ≡ byte f x

polls_by : (s : Step) (rest : List Step) → IsOfLots s.act → polls (s ∷ rest) ≡ polls rest
polls_by s rest is = ap (λ (b : Bool). b || polls rest) is.polls

transfers_by : (s : Step) (rest : List Step) → IsOfLots s.act → transfers (s ∷ rest) ≡ transfers rest
transfers_by s rest is = ap (λ (b : Bool). (b || polls rest) && not (is_claim s.act || claims rest)) is.polls ∙ ap (λ (b : Bool). polls rest && not (b || claims rest)) is.claims

end_on : (sc : Scenario) (f : List ℕ) (w : WorldState) (h : ℕ) (id : LotId) (dir : Dir) (chan other : ChanNo) (range device : Span) (first last : Turn) (now : Lot) → Flatness sc f w → IsEndAt (driver_of w h).fixed (driver_of w h).lots id dir chan range device
    → IsCopyEnd (lots_after_both first last (driver_of w h).lots) now id dir other → IsEndAt (driver_of w h).fixed (lots_after_both first last (driver_of w h).lots) id dir chan range device
end_on sc f w h id dir chan other range device first last now flat u e =
    let x = both_from first last (driver_of w h).lots now e.here in
    let b = x.2 in
    let same : x.0 ≡ u.lot = one_lot sc f w h x.0 u.lot flat x.1 u.is.here (sym b.id ∙ e.id_is ∙ sym u.is.id_is) in
    record {
      lot = now;
      is = record { here = e.here; id_is = e.id_is; kind = e.kind; dir_is = e.dir_is; chan_is = b.chan ∙ ap (λ (l : Lot). l.chan) same ∙ u.is.chan_is };
      lent = false_from_ne_true (is_wanted now.side) (λ wants. false≢true (sym u.lent ∙ sym (ap (λ (l : Lot). is_wanted l.side) same) ∙ b.wanted wants));
      entry = u.entry;
      only = ap (λ (l : SgView). l.entries) b.list ∙ ap (λ (l : Lot). l.list.entries) same ∙ u.only;
      range_is = u.range_is;
      device_is = u.device_is;
    }

under_step : (sc : Scenario) (f g : List ℕ) (w v : WorldState) (h : ℕ) (s : Step) (rest : List Step) (k : CopyOp) (from to : Span) (e : DriverState) → Flatness sc f w → IsCopyStep f g w v h s rest → driver_of v h ≡ e → e.fixed ≡ (driver_of w h).fixed → e.lots ≡ lots_after_both s.first s.last (driver_of w h).lots → e.rest ≡ rest
    → polls rest ≡ true → IsUnderWay sc f w h k from to → IsUnderWay sc g v h k from to
under_step sc f g w v h s rest k from to e flat c now fixed lots left on u =
    let d = driver_of w h in
    let ls = lots_after_both s.first s.last d.lots in
    let its = of_lots s.act c.kind in
    let there = ends_there d.fixed ls rest (plan_next d.fixed d.lots s rest c.goes its.polls) on in
    let chan = c.channels k.chan.0 u.granted in
    let seen : (id : LotId) (dir : Dir) (range device : Span) → IsEndAt d.fixed ls id dir k.chan range device → IsEndAt (driver_of v h).fixed (driver_of v h).lots id dir k.chan range device =
    λ id dir range device is.
    subst (λ (j : DriverState). IsEndAt j.fixed j.lots id dir k.chan range device) (sym now) (subst (λ (x : DriverConfig). IsEndAt x e.lots id dir k.chan range device) (sym fixed) (subst (λ (xs : List Lot). IsEndAt d.fixed xs id dir k.chan range device) (sym lots) is)) in
    let coming : registers_coming rest ≡ registers_coming d.rest = sym (ap registers_coming c.rest_is ∙ coming_by s rest ∙ ap (λ (q : List QueueEntry). q ++ registers_coming rest) its.registers) in
    record {
      ends = u.ends;
      are = u.are;
      from_is = u.from_is;
      to_is = u.to_is;
      source_at = seen source ToDev from (span_of u.ends.reads_at u.ends.len) (end_on sc f w h source ToDev k.chan there.chan from (span_of u.ends.reads_at u.ends.len) s.first s.last there.reads flat u.source_at there.source_is);
      target_at = seen target FromDev to (span_of u.ends.writes_at u.ends.len) (end_on sc f w h target FromDev k.chan there.chan to (span_of u.ends.writes_at u.ends.len) s.first s.last there.writes flat u.target_at there.target_is);
      stores = u.stores;
      left = ap (λ (q : List QueueEntry). q ++ registers_coming (driver_of v h).rest) c.registers
          ∙ ap (λ (r : List Step). registers (queue_of w.machine h) ++ registers_coming r) (ap (λ (j : DriverState). j.rest) now ∙ left)
          ∙ ap (λ (q : List QueueEntry). registers (queue_of w.machine h) ++ q) coming ∙ u.left;
      few = u.few;
      stage = subst (λ (x : ChannelState). IsCopying u.ends g u.stores x) (sym chan.0)
          (copies_go_on.stays u.ends f g (channel_of w.machine k.chan.0) u.stores (ends_same sc f g w h k from to flat c.bytes u) u.stage);
      granted = chan.1;
    }

transfers_polls : (rest : List Step) → transfers rest ≡ true → polls rest ≡ true
transfers_polls rest on = (and_parts (polls rest) (not (claims rest)) on).0

pub copy_step : (sc : Scenario) (f g : List ℕ) (w v : WorldState) (h : ℕ) (s : Step) (rest : List Step) → Flatness sc f w → h < length sc.harts → IsCopyStep f g w v h s rest → CopyStands sc g v h
copy_step sc f g w v h s [] flat lt c k is begun = copy_idle sc g v h 0 (ap (λ (d : DriverState). d.phase) c.now) k is begun
copy_step sc f g w v h s (t ∷ ts) flat lt c k is begun =
    let d = driver_of w h in
    let rest = t ∷ ts in
    let e = went_to d (lots_after_both s.first s.last d.lots) d.saw rest in
    let now : driver_of v h ≡ e = c.now in
    let its = of_lots s.act c.kind in
    let n = flat.bytes.copying h lt k (sym (ap in_hand now) ∙ is) (subst (λ (p : Phase). IsBegun p) (sym c.work) tt) in
    record {
      from = n.from;
      to = n.to;
      from_is = ap (λ (j : DriverState). part_of (buffer_of j.fixed k.src) k.src_off k.len) now ∙ n.from_is;
      to_is = ap (λ (j : DriverState). part_of (buffer_of j.fixed k.dst) k.dst_off k.len) now ∙ n.to_is;
      ends = subst (λ (j : DriverState). AreItsEnds k n.from n.to j.lots) (sym now) (ends_kept k n.from n.to s.first s.last d.lots n.ends);
      under = λ on.
          let going : transfers rest ≡ true = sym (ap (λ (j : DriverState). transfers j.rest) now) ∙ on in
          under_step sc f g w v h s rest k n.from n.to e flat c now refl refl refl (transfers_polls rest going) (n.under (ap transfers c.rest_is ∙ transfers_by s rest its ∙ going));
      polled = λ work over.
          let past : polls rest ≡ false = sym (ap (λ (j : DriverState). polls j.rest) now) ∙ over in
          subst (λ (j : DriverState). SawDone j.saw) (sym now) (n.polled c.work (ap polls c.rest_is ∙ polls_by s rest its ∙ past));
      apart = n.apart;
      owned = λ x on. c.owned x (n.owned x on);
    }
