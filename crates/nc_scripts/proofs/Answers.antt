-- What an operation is answered: at its end no refusal, and of a copy alone that it is done or failed; else its refusal.
use Rattle.std.proofs.Common.{◌≡◌, ◌⊎◌, ℕ, Bool, true, false, List, refl, sym, subst, inl, inr, Option, Some, None}
use Rattle.std.specs.Prelude.{if◌then◌else◌, ◌==◌, ◌%◌, ◌/◌, ◌^◌}
use Rattle.nc_num.specs.declared.names.ChanNo.{ChanNo}
use Rattle.nc_ops.specs.declared.ops.Op.{Op}
use Rattle.nc_ops.specs.declared.ops.Op.TheVariants as ops
use Rattle.nc_rules.specs.declared.answers.Answer.{Answer}
use Rattle.nc_rules.specs.declared.answers.Answer.TheVariants as answers
use Rattle.nc_rules.specs.declared.answers.Refusal.{Refusal}
use Rattle.nc_rules.specs.declared.lots.Kind.TheVariants as kinds
use Rattle.nc_rules.specs.declared.lots.Lot.{Lot}
use Rattle.nc_rules.specs.declared.steps.Seen.{Seen}
use Rattle.nc_rules.specs.declared.steps.Seen.TheVariants as seen
use Rattle.nc_rules.specs.Lots.{DriverConfig, lot_named}
use Rattle.nc_rules.specs.Accesses as accesses
use Rattle.nc_rules.specs.CacheOps as cache_ops
use Rattle.nc_rules.specs.Channels.{poll_answer, value_answer}
use Rattle.nc_rules.specs.Channels as channels
use Rattle.nc_rules.specs.Handing as handing
use Rattle.nc_rules.specs.Mappings.{mapped_answer}
use Rattle.nc_rules.specs.Mappings as mappings
use Rattle.nc_rules.specs.ScatterLists.{segments_answer}
use Rattle.nc_rules.specs.ScatterLists as lists
use Rattle.nc_rules.specs.Areas.{allocated_answer}
use Rattle.nc_rules.specs.Areas as areas
use Rattle.nc_rules.specs.Copies.{copied, copy_answer}
use Rattle.nc_rules.specs.Copies as copies
use Rattle.nc_rules.specs.Operations.{meaning, good_answer, bad_answer}

-- ---- an answer at its end

-- the answer is no refusal, and tells nothing of a copy
abbrev pub is_plain : Answer → Bool
is_plain (answers.Refused r) = false
is_plain (answers.NoSegments r) = false
is_plain answers.CopyDone = false
is_plain (answers.CopyFailed control) = false
is_plain _ = true

-- where there is one
abbrev pub plainly : Option Answer → Bool
plainly None = true
plainly (Some a) = is_plain a

-- the operation is a copy, whose poll saw this value of Control
pub record IsCopySaw (o : Op) (saw : Seen) (b : Option Answer) : Type 0 where
  pub chan : ChanNo
  pub src : ℕ
  pub src_off : ℕ
  pub dst : ℕ
  pub dst_off : ℕ
  pub len : ℕ
  pub config : ℕ
  pub is : o ≡ ops.Copy chan src src_off dst dst_off len config
  pub control : ℕ
  pub saw_is : saw ≡ seen.Control control
  pub answer : b ≡ Some (copied control)

mapped_plain : (f : DriverConfig) (o : Option Lot) → plainly (mapped_answer f o) ≡ true
mapped_plain f None = refl
mapped_plain f (Some lot) = refl

segments_plain : (f : DriverConfig) (o : Option Lot) → plainly (segments_answer f o) ≡ true
segments_plain f None = refl
segments_plain f (Some lot) = refl

allocated_plain : (f : DriverConfig) (o : Option Lot) → plainly (allocated_answer f o) ≡ true
allocated_plain f None = refl
allocated_plain f (Some lot) = refl

poll_plain : (saw : Seen) → plainly (poll_answer saw) ≡ true
poll_plain (seen.Control control) = elim (control / 2 ^ 31 % 2 == 1) as (λ t. is_plain (if t then answers.Error control else answers.Done control) ≡ true) [
  | true ↦ refl
  | false ↦ refl
]
poll_plain _ = refl

value_plain : (saw : Seen) → plainly (value_answer saw) ≡ true
value_plain (seen.Value value) = refl
value_plain _ = refl

copy_saw : (chan : ChanNo) (src src_off dst dst_off len config : ℕ) (saw : Seen) → (plainly (copy_answer saw) ≡ true) ⊎ IsCopySaw (ops.Copy chan src src_off dst dst_off len config) saw (copy_answer saw)
copy_saw chan src src_off dst dst_off len config (seen.Control control) =
    inr (record { chan = chan; src = src; src_off = src_off; dst = dst; dst_off = dst_off; len = len; config = config; is = refl; control = control; saw_is = refl; answer = refl })
copy_saw chan src src_off dst dst_off len config _ = inl refl

pub good_plain : (f : DriverConfig) (lots : List Lot) (o : Op) (saw : Seen) → (plainly (good_answer f lots o saw) ≡ true) ⊎ IsCopySaw o saw (good_answer f lots o saw)
unfolding good_answer meaning accesses.load accesses.store cache_ops.cache_operation cache_ops.fence handing.take handing.hand channels.claim channels.free channels.set_up channels.run channels.poll channels.read_register channels.write_register mappings.map_single mappings.unmap_single mappings.sync_for_cpu mappings.sync_for_device lists.map_sg lists.unmap_sg areas.calloc areas.give_area areas.take_area areas.free_area copies.copy
good_plain f lots (ops.Map label buf off len dir chan) saw = inl (mapped_plain f (lot_named lots label kinds.Single))
good_plain f lots (ops.MapSg label entries dir chan) saw = inl (segments_plain f (lot_named lots label kinds.List))
good_plain f lots (ops.Calloc label count chan) saw = inl (allocated_plain f (lot_named lots label kinds.Area))
good_plain f lots (ops.Poll chan) saw = inl (poll_plain saw)
good_plain f lots (ops.Regr chan off width) saw = inl (value_plain saw)
good_plain f lots (ops.Copy chan src src_off dst dst_off len cfg) saw = copy_saw chan src src_off dst dst_off len cfg saw
good_plain f lots _ saw = inl refl

abbrev pub passes : (Answer → Bool) → Option Answer → Bool
passes p None = false
passes p (Some a) = p a

-- it fails each test that plain answers and those of copies fail
pub good_fails : (p : Answer → Bool) → ((a : Answer) → is_plain a ≡ true → p a ≡ false) → p answers.CopyDone ≡ false → ((control : ℕ) → p (answers.CopyFailed control) ≡ false) → (f : DriverConfig) (lots : List Lot) (o : Op) (saw : Seen) → passes p (good_answer f lots o saw) ≡ false
good_fails p plain done failed f lots o saw = by (good_answer f lots o saw) (good_plain f lots o saw)
  where
    copy : (control : ℕ) → p (copied control) ≡ false
    copy control = elim (control / 2 ^ 31 % 2 == 1) as (λ t. p (if t then answers.CopyFailed control else answers.CopyDone) ≡ false) [
      | true ↦ failed control
      | false ↦ done
    ]

    by : (a : Option Answer) → (plainly a ≡ true) ⊎ IsCopySaw o saw a → passes p a ≡ false
    by None k = refl
    by (Some a) (inl is) = plain a is
    by (Some a) (inr k) = subst (λ (b : Option Answer). passes p b ≡ false) (sym k.answer) (copy k.control)

-- ---- where it is refused

pub bad_refuses : (f : DriverConfig) (lots : List Lot) (o : Op) (r : Refusal) → (bad_answer f lots o r ≡ answers.Refused r) ⊎ (bad_answer f lots o r ≡ answers.NoSegments r)
unfolding bad_answer meaning accesses.load accesses.store cache_ops.cache_operation cache_ops.fence handing.take handing.hand channels.claim channels.free channels.set_up channels.run channels.poll channels.read_register channels.write_register mappings.map_single mappings.unmap_single mappings.sync_for_cpu mappings.sync_for_device lists.map_sg lists.unmap_sg areas.calloc areas.give_area areas.take_area areas.free_area copies.copy
bad_refuses f lots (ops.MapSg label entries dir chan) r = inr refl
bad_refuses f lots _ r = inl refl
