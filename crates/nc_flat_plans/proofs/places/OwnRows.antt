-- The rows of the lot in hand, by what its plan is still to put in the queue.
use Rattle.std.specs.Prelude.{◌||◌, Bool, true, false}
use Rattle.std.specs.List.{list_any}
use Rattle.std.proofs.Common.{◌≡◌, ◌⊎◌, ℕ, List, [], ◌∷◌, refl, ap, ◌∙◌, inl, inr}
use Rattle.nc_num.specs.declared.names.Dir.{Dir}
use Rattle.nc_num.specs.declared.names.Dir.TheVariants.{Both, ToDev, FromDev}
use Rattle.nc_num.specs.declared.names.MapId.{MapId}
use Rattle.nc_plan.specs.Parts.{comes_back}
use Rattle.nc_queue.specs.Entries.{is_w}
use Rattle.nc_queue.specs.declared.entry.Entry.{Entry}
use Rattle.nc_queue.specs.declared.entry.Entry.TheVariants as entries
use Rattle.nc_lines.specs.Lines.{bare}
use Rattle.nc_rules.specs.Machine.{MachineState, queue_of}
use Rattle.nc_rules.specs.Sound.{IsMachine}
use Rattle.nc_rows.specs.Ahead.{token, is_full}
use Rattle.nc_rows.specs.Places.{ThreadRow, PoolRow}
use Rattle.nc_rows.specs.Rows.{gives_here, Either, ByDir, LendingTo, LendingFrom, DeviceTo, DeviceFrom, DroppingRow, ComingRow}
use Rattle.nc_row_issues.specs.Laws.{Enters, NoByte, NoBlock}
use Rattle.nc_row_issues.proofs.LentPushes.{device_to_pushed}
use Rattle.nc_row_plans.specs.Laws.{Puts, PutsDevice}
use Rattle.nc_row_plans.proofs.PlanEnds.{rows_plan}

-- ---- one of two, by a test or by a direction

pub either_false : (b : Bool) (p q : Type 0) → b ≡ false → q → Either b p q
either_false true p q is h = absurd cc
either_false false p q is h = h

pub of_either_false : (b : Bool) (p q : Type 0) → b ≡ false → Either b p q → q
of_either_false true p q is h = absurd cc
of_either_false false p q is h = h

pub either_true : (b : Bool) (p q : Type 0) → b ≡ true → p → Either b p q
either_true true p q is h = h
either_true false p q is h = absurd cc

pub of_either_true : (b : Bool) (p q : Type 0) → b ≡ true → Either b p q → p
of_either_true true p q is h = h
of_either_true false p q is h = absurd cc

-- the same of two tests that agree
pub either_next : (b d : Bool) (p q r s : Type 0) → b ≡ d → (p → r) → (q → s) → Either b p q → Either d r s
either_next true true p q r s same first second row = first row
either_next true false p q r s same first second row = absurd cc
either_next false true p q r s same first second row = absurd cc
either_next false false p q r s same first second row = second row

pub either_both : (b : Bool) (p q : Type 0) → p → q → Either b p q
either_both true p q x y = x
either_both false p q x y = y

pub either_make : (b : Bool) (p q : Type 0) → (b ≡ true → p) → (b ≡ false → q) → Either b p q
either_make true p q first second = first refl
either_make false p q first second = second refl

-- by the direction, with what is known of one that comes back
pub dir_map : (d : Dir) (p q r s : Type 0) → (comes_back d ≡ false → p → r) → (comes_back d ≡ true → q → s) → ByDir d p q → ByDir d r s
dir_map ToDev p q r s first second row = first refl row
dir_map Both p q r s first second row = second refl row
dir_map FromDev p q r s first second row = second refl row

pub dir_make : (d : Dir) (r s : Type 0) → (comes_back d ≡ false → r) → (comes_back d ≡ true → s) → ByDir d r s
dir_make ToDev r s first second = first refl
dir_make Both r s first second = second refl
dir_make FromDev r s first second = second refl

pub dir_end : (d : Dir) (p q r : Type 0) → (p → r) → (q → r) → ByDir d p q → r
dir_end ToDev p q r first second row = first row
dir_end Both p q r first second row = second row
dir_end FromDev p q r first second row = second row

-- ---- rows

abbrev pub LentAs : Dir → MapId → ℕ → List Entry → MachineState → ℕ → ℕ → Type 0
LentAs dir n v ahead m x y = ByDir dir (LendingTo n v ahead m x y) (LendingFrom n v ahead m x y)

abbrev pub GivenAs : Dir → MapId → ℕ → MachineState → ℕ → ℕ → Type 0
GivenAs dir n v m x y = ByDir dir (DeviceTo n v m x y) (DeviceFrom n v m x y)

abbrev pub BackAs : Dir → MapId → ℕ → List Entry → MachineState → ℕ → ℕ → Type 0
BackAs dir n v ahead m x y = ByDir dir (DeviceTo n v m x y) (Either (list_any is_full ahead) (DroppingRow n v ahead m x y) (ComingRow n v ahead m x y))

-- ---- an entry of the plan comes into the queue

-- a clean, a flush, or a piece that goes into a slot
pub lent_put : (dir : Dir) (m k : MachineState) (e : Entry) (n : MapId) (v x y : ℕ) (ahead : List Entry) → Enters m k n.hart.0 e → NoByte m e x → PutsDevice m e v x y ahead → LentAs dir n v (bare e ∷ ahead) m x y → LentAs dir n v ahead k x y
lent_put dir m k e n v x y ahead by none puts row =
    dir_map dir _ _ _ _ (λ d to. rows_plan.lend_to m k e n v x y ahead by none puts to) (λ d from. rows_plan.lend_from m k e n v x y ahead by none puts from) row

-- what is no full fence leaves whether one is to come
pub same_full : (e : Entry) (ahead : List Entry) → is_full (bare e) ≡ false → list_any is_full (bare e ∷ ahead) ≡ list_any is_full ahead
same_full e ahead plain = ap (λ (b : Bool). b || list_any is_full ahead) plain

-- an entry that gives no byte, as a flush or an invalidate
pub back_op : (dir : Dir) (m k : MachineState) (e : Entry) (n : MapId) (v x y : ℕ) (ahead : List Entry) → Enters m k n.hart.0 e → is_full (bare e) ≡ false → ((z : ℕ) → NoByte m e z) → ((z : ℕ) → NoBlock m e z)
    → BackAs dir n v (bare e ∷ ahead) m x y → BackAs dir n v ahead k x y
back_op dir m k e n v x y ahead by plain byte block row =
    dir_map dir _ _ _ _ (λ d to. device_to_pushed m k n.hart.0 e n v x y by (record { device = byte y; buffer = byte x }) to)
    (λ d either.
    either_next (list_any is_full (bare e ∷ ahead)) (list_any is_full ahead) _ _ _ _ (same_full e ahead plain) (λ drops. rows_plan.drop m k e n v x y ahead by (block y) (inr (byte x)) drops)
    (λ comes. rows_plan.come m k e n v x y ahead by (byte y) (inr (inl (byte x))) comes) either)
    row

-- a piece that comes out of a slot, behind the full fence
pub back_put : (dir : Dir) (m k : MachineState) (e : Entry) (n : MapId) (v x y : ℕ) (ahead : List Entry) → comes_back dir ≡ true → Enters m k n.hart.0 e → is_full (bare e) ≡ false → list_any is_full ahead ≡ false → NoByte m e y → (x ≡ y) ⊎ Puts m e v x ahead
    → BackAs dir n v (bare e ∷ ahead) m x y → BackAs dir n v ahead k x y
back_put dir m k e n v x y ahead back by plain fenced none puts row =
    dir_map dir _ _ _ _ (λ d to. absurd (let both : true ≡ false = sym_true dir back d in cc))
    (λ d either.
    either_false (list_any is_full ahead) _ _ fenced
    (rows_plan.come m k e n v x y ahead by none puts (of_either_false (list_any is_full (bare e ∷ ahead)) _ _ (same_full e ahead plain ∙ fenced) either)))
    row
  where
    sym_true : (d : Dir) → comes_back d ≡ true → comes_back d ≡ false → true ≡ false
    sym_true d is off = cc

-- ---- the full fence

pub lent_full : (dir : Dir) (m : MachineState) (n : MapId) (v x y : ℕ) (ahead : List Entry) → list_any is_w (queue_of m n.hart.0) ≡ false → LentAs dir n v (entries.Mark 15 15 ∷ token n ∷ ahead) m x y → GivenAs dir n v m x y
lent_full dir m n v x y ahead none row = dir_map dir _ _ _ _ (λ d to. rows_plan.lent_to m n v x y ahead none to) (λ d from. rows_plan.lent_from m n v x y ahead none from) row

pub back_full : (dir : Dir) (m : MachineState) (n : MapId) (v x y : ℕ) (ahead : List Entry) → IsMachine m → list_any is_w (queue_of m n.hart.0) ≡ false → list_any is_full ahead ≡ false
    → (comes_back dir ≡ true → (x ≡ y) ⊎ (list_any (gives_here m x) ahead ≡ true)) → BackAs dir n v (entries.Mark 15 15 ∷ ahead) m x y → BackAs dir n v ahead m x y
back_full dir m n v x y ahead sound none only out row =
    dir_map dir _ _ _ _ (λ d to. to) (λ d either. either_false (list_any is_full ahead) _ _ only (rows_plan.dropped m n v x y ahead sound none (out d) either)) row

-- all has come back: the byte is the hart's, and the device's place is as memory
pub back_home : (dir : Dir) (m : MachineState) (n : MapId) (v x y : ℕ) → BackAs dir n v [] m x y → ThreadRow n.hart.0 v m x × PoolRow v m y
back_home dir m n v x y row = dir_end dir _ _ _ (λ to. (to.buffer, to.device)) (λ comes. (rows_plan.back m n v x y comes, comes.device)) row
