-- The rows as a hart's plan makes a step that is of no lot: a store to a register of a channel comes into its queue, or
-- nothing does.
use Rattle.std.specs.Prelude.{Option, Some, None, Bool, true, false}
use Rattle.std.specs.List.{list_any}
use Rattle.std.proofs.Common.{◌≡◌, ◌≢◌, ◌⊎◌, ℕ, List, [], ◌∷◌, ◌++◌, refl, sym, ap, ◌∙◌, inl, inr, subst}
use Rattle.std.proofs.lemmas.Bool.{cases_eq, cases_Bool, cond-false, or_from}
use Rattle.nc_num.specs.declared.names.ChanNo.{ChanNo}
use Rattle.nc_num.specs.declared.names.Dir.{Dir}
use Rattle.nc_num.specs.declared.names.Dir.TheVariants.{Both, ToDev, FromDev}
use Rattle.nc_num.specs.declared.names.HartNo.{HartNo}
use Rattle.nc_num.specs.declared.names.MapId.{MapId}
use Rattle.nc_queue.specs.declared.entry.Entry.{Entry}
use Rattle.nc_queue.specs.declared.entry.Entry.TheVariants.{Reg}
use Rattle.nc_model.specs.declared.owners.Owner.{Owner}
use Rattle.nc_model.specs.declared.owners.Owner.TheVariants.{Thread, Passing, Lending, Device, Returning, Synced, Pool}
use Rattle.nc_rules.specs.declared.lots.LotId.{LotId}
use Rattle.nc_rules.specs.declared.steps.Step.{Step}
use Rattle.nc_rules.specs.Machine.{MachineState}
use Rattle.nc_rules.specs.Sound.{IsMachine}
use Rattle.nc_rows.specs.Ahead.{ends, posts, is_full, is_settling, settling, act_coming, coming, sending}
use Rattle.nc_rows.specs.Rows.{Loan, Book, device_place, ahead_of, PassingRow, Either, ByDir, LentRow, Row}
use Rattle.nc_rows.proofs.Kept.{either_map, dir_map}
use Rattle.nc_rows.proofs.Steps.{steps_ahead}
use Rattle.nc_row_issues.specs.Laws.{Enters, PassesLent, PassesLoan, PassesBack, Passes}
use Rattle.nc_row_issues.proofs.RowIssues.{rows_issue}
use Rattle.nc_row_plans.proofs.PlanEnds.{rows_plan}
use Rattle.nc_flatness.proofs.books.BookReads.{row_alike}
use Rattle.nc_flat_scripts.proofs.handing.PassingFrames.{passing_alike, LentBy}

-- ---- the step

-- it ends the stay of no lot, and sends no message
pub record IsOfNone (s : Step) : Type 0 where
  pub ends : (lot : LotId) → ends lot s ≡ false
  pub posts : (b : ℕ) → posts b s ≡ false

-- the machine behind hart h's step
pub data StepMoves (m n : MachineState) (h : ℕ) (s : Step) : Type 0 where
  Leaves : n ≡ m → act_coming s.act ≡ [] → StepMoves m n h s
  Sets : (chan : ChanNo) → (off width value : ℕ) → Enters m n h (Reg chan off width value) → act_coming s.act ≡ Reg chan off width value ∷ [] → StepMoves m n h s

-- the book behind it
pub record BookGoes (a b : Book) (h : ℕ) (s : Step) : Type 0 where
  pub loans : (n : MapId) → a.loan n ≡ b.loan n
  pub buffer : (x : ℕ) → a.buffer x ≡ b.buffer x
  pub away : (g : ℕ) → g ≢ h → a.rest g ≡ b.rest g
  pub here : a.rest h ≡ s ∷ b.rest h

-- ---- what is to come of a lot, or of a buffer

pub settles_on : (s : Step) (rest : List Step) (lot : LotId) → IsOfNone s → settling lot (s ∷ rest) ≡ settling lot rest
settles_on s rest lot none = ap (is_settling lot) (cond-false (ends lot s) (Some s) _ (none.ends lot))

-- the step goes off in front, or nothing is to come
comes_on : (n : MapId) (lot : LotId) (s : Step) (rest : List Step) → IsOfNone s → (coming n lot (s ∷ rest) ≡ act_coming s.act ++ coming n lot rest) ⊎ (coming n lot (s ∷ rest) ≡ coming n lot rest)
comes_on n lot s rest none = elim (cases_Bool (list_any (ends lot) rest)) [
  | inl some ↦ inl (steps_ahead.next n lot s rest (none.ends lot) some)
  | inr off ↦ inr (steps_ahead.none n lot (s ∷ rest) (or_from (ends lot s) (list_any (ends lot) rest) (none.ends lot) off) ∙ sym (steps_ahead.none n lot rest off))
]

sends_on : (b : ℕ) (s : Step) (rest : List Step) → IsOfNone s → (sending b (s ∷ rest) ≡ act_coming s.act ++ sending b rest) ⊎ (sending b (s ∷ rest) ≡ sending b rest)
sends_on b s rest none = elim (cases_Bool (list_any (posts b) rest)) [
  | inl some ↦ inl (steps_ahead.send_next b s rest (none.posts b) some)
  | inr off ↦ inr (steps_ahead.send_none b (s ∷ rest) (or_from (posts b s) (list_any (posts b) rest) (none.posts b) off) ∙ sym (steps_ahead.send_none b rest off))
]

-- no full fence goes off
pub full_on : (m k : MachineState) (h : ℕ) (n : MapId) (lot : LotId) (s : Step) (rest : List Step) → IsOfNone s → StepMoves m k h s → list_any is_full (coming n lot (s ∷ rest)) ≡ list_any is_full (coming n lot rest)
full_on m k h n lot s rest none (Leaves same silent) = elim (comes_on n lot s rest none) [
  | inl next ↦ ap (list_any is_full) (next ∙ ap (λ (es : List Entry). es ++ coming n lot rest) silent)
  | inr same ↦ ap (list_any is_full) same
]
full_on m k h n lot s rest none (Sets chan off width value by puts) = elim (comes_on n lot s rest none) [
  | inl next ↦ ap (list_any is_full) (next ∙ ap (λ (es : List Entry). es ++ coming n lot rest) puts)
  | inr same ↦ ap (list_any is_full) same
]

-- ---- a store to a register is let pass by each row

either_one : (t : Bool) (p q : Type 0) → p → q → Either t p q
either_one true p q first second = first
either_one false p q first second = second

dir_one : (d : Dir) (p q : Type 0) → p → q → ByDir d p q
dir_one ToDev p q first second = first
dir_one Both p q first second = second
dir_one FromDev p q first second = second

lent_passes : (a : Book) (n : MapId) (o : Option Loan) (m : MachineState) (h : ℕ) (chan : ChanNo) (off width value x : ℕ) → PassesLent a n o m h (Reg chan off width value) x
lent_passes a n None m h chan off width value x = tt
lent_passes a n (Some l) m h chan off width value x =
    either_one l.area _ _ (either_one (settling l.lot (a.rest n.hart.0)) _ _ (record { place = refl; block = refl; whole = refl; token = λ own. refl }) (record { place = refl; token = λ own. refl }))
    (dir_one l.grant.dir _ _ (record { buffer = refl; device = refl; token = λ own. refl; back = λ own. inl refl }) (record { to = record { buffer = refl; device = refl; token = λ own. refl; back = λ own. inl refl }; block = refl }))

loan_passes : (n : MapId) (o : Option Loan) (m : MachineState) (h : ℕ) (chan : ChanNo) (off width value x : ℕ) → PassesLoan n o m h (Reg chan off width value) x
loan_passes n None m h chan off width value x = tt
loan_passes n (Some l) m h chan off width value x = either_one l.area _ _ refl (dir_one l.grant.dir _ _ (record { device = refl; buffer = refl }) (record { device = refl; buffer = inr refl }))

back_passes : (a : Book) (n : MapId) (o : Option Loan) (m : MachineState) (h : ℕ) (chan : ChanNo) (off width value x : ℕ) → PassesBack a n o m h (Reg chan off width value) x
back_passes a n None m h chan off width value x = tt
back_passes a n (Some l) m h chan off width value x =
    either_one l.area _ _ refl
    (dir_one l.grant.dir _ _ (record { device = refl; buffer = refl })
    (either_one (list_any is_full (ahead_of a n l)) _ _ (record { opened = record { device = refl; buffer = inr refl }; fence = λ own. refl }) (record { device = refl; buffer = inr refl })))

pub register_passes : (a : Book) (o : Owner) (m : MachineState) (h : ℕ) (chan : ChanNo) (off width value x : ℕ) → Passes a o m h (Reg chan off width value) x
register_passes a (Thread j) m h chan off width value x = refl
register_passes a (Passing j g) m h chan off width value x = record { place = refl; message = λ own. refl }
register_passes a (Lending n) m h chan off width value x = lent_passes a n (a.loan n) m h chan off width value x
register_passes a (Device n) m h chan off width value x = loan_passes n (a.loan n) m h chan off width value x
register_passes a (Returning n) m h chan off width value x = back_passes a n (a.loan n) m h chan off width value x
register_passes a (Synced n) m h chan off width value x = refl
register_passes a Pool m h chan off width value x = refl

-- the row by the book as it was
pub row_there : (a : Book) (o : Owner) (v : ℕ) (m k : MachineState) (h : ℕ) (s : Step) (x : ℕ) → StepMoves m k h s → Row a o v m x → Row a o v k x
row_there a o v m k h s x (Leaves same silent) row = subst (λ (i : MachineState). Row a o v i x) (sym same) row
row_there a o v m k h s x (Sets chan off width value by puts) row = rows_issue.passed a o v m k h (Reg chan off width value) x by (register_passes a o m h chan off width value x) row

-- ---- a row of the hart's own

-- a mapping that is being lent: the line stays, where the step goes off in front of what is to come
lent_as : (n : MapId) (l : Loan) (t u : Bool) (es fs : List Entry) (v : ℕ) (m : MachineState) (x : ℕ) → t ≡ u → es ≡ fs → LentBy n l t es v m x → LentBy n l u fs v m x
lent_as n l t u es fs v m x settles ahead row = subst (λ (b : Bool). LentBy n l b fs v m x) settles (subst (λ (k : List Entry). LentBy n l t k v m x) ahead row)

lent_stored : (n : MapId) (l : Loan) (t : Bool) (chan : ChanNo) (off width value : ℕ) (ahead : List Entry) (v : ℕ) (m k : MachineState) (x : ℕ) → IsMachine m → Enters m k n.hart.0 (Reg chan off width value) → LentBy n l t (Reg chan off width value ∷ ahead) v m x
    → LentBy n l t ahead v k x
lent_stored n l t chan off width value ahead v m k x sound by row =
    let e = Reg chan off width value in
    let y = device_place l x in
    either_map l.area _ _ _ _
    (λ area. either_map t _ _ _ _ (λ is. rows_plan.allocate m k e n v x ahead sound by (record { fits = tt; whole = refl; once = inl refl }) is) (λ is. rows_plan.give m k e n v x ahead by refl is) area)
    (λ plain. dir_map l.grant.dir _ _ _ _ (λ to. rows_plan.lend_to m k e n v x y ahead by refl (inr (inl refl)) to) (λ from. rows_plan.lend_from m k e n v x y ahead by refl (inr (inl refl)) from) plain) row

lent_on : (n : MapId) (l : Loan) (s : Step) (rest : List Step) (v : ℕ) (m k : MachineState) (x : ℕ) → IsMachine m → IsOfNone s → StepMoves m k n.hart.0 s → LentBy n l (settling l.lot (s ∷ rest)) (coming n l.lot (s ∷ rest)) v m x
    → LentBy n l (settling l.lot rest) (coming n l.lot rest) v k x
lent_on n l s rest v m k x sound none (Leaves same silent) row =
    let settles = settles_on s rest l.lot none in
    let here = subst (λ (i : MachineState). LentBy n l (settling l.lot (s ∷ rest)) (coming n l.lot (s ∷ rest)) v i x) (sym same) row in
    elim (comes_on n l.lot s rest none) [
      | inl next ↦ lent_as n l _ _ _ _ v k x settles (next ∙ ap (λ (es : List Entry). es ++ coming n l.lot rest) silent) here
      | inr ahead ↦ lent_as n l _ _ _ _ v k x settles ahead here
    ]
lent_on n l s rest v m k x sound none (Sets chan off width value by puts) row =
    let e = Reg chan off width value in
    let settles = settles_on s rest l.lot none in
    elim (comes_on n l.lot s rest none) [
      | inl next ↦
          lent_stored n l (settling l.lot rest) chan off width value (coming n l.lot rest) v m k x sound by
          (lent_as n l _ _ _ _ v m x settles (next ∙ ap (λ (es : List Entry). es ++ coming n l.lot rest) puts) row)
      | inr ahead ↦
          let a : Book = record { loan = λ j. Some l; rest = λ g. s ∷ rest; buffer = λ z. z } in
          lent_as n l _ _ _ _ v k x settles ahead (rows_issue.passed a (Lending n) v m k n.hart.0 e x by (register_passes a (Lending n) m n.hart.0 chan off width value x) row)
    ]

lent_here : (a b : Book) (n : MapId) (o : Option Loan) (s : Step) (v : ℕ) (m k : MachineState) (x : ℕ) → IsMachine m → IsOfNone s → StepMoves m k n.hart.0 s → a.rest n.hart.0 ≡ s ∷ b.rest n.hart.0 → LentRow a n o v m x → LentRow b n o v k x
lent_here a b n None s v m k x sound none steps here row = absurd row
lent_here a b n (Some l) s v m k x sound none steps here row =
    lent_on n l s (b.rest n.hart.0) v m k x sound none steps (subst (λ (r : List Step). LentBy n l (settling l.lot r) (coming n l.lot r) v m x) here row)

-- a buffer that is passed on
passing_on : (h v c : ℕ) (s : Step) (rest : List Step) (m k : MachineState) (x : ℕ) → IsOfNone s → StepMoves m k h s → PassingRow h v c (s ∷ rest) m x → PassingRow h v c rest k x
passing_on h v c s rest m k x none (Leaves same silent) row =
    let here = subst (λ (i : MachineState). PassingRow h v c (s ∷ rest) i x) (sym same) row in
    elim (sends_on c s rest none) [
      | inl next ↦ passing_alike h v c (s ∷ rest) rest k x (sym (next ∙ ap (λ (es : List Entry). es ++ sending c rest) silent)) here
      | inr ahead ↦ passing_alike h v c (s ∷ rest) rest k x (sym ahead) here
    ]
passing_on h v c s rest m k x none (Sets chan off width value by puts) row =
    let e = Reg chan off width value in
    elim (sends_on c s rest none) [
      | inl next ↦ rows_plan.send m k e h v c x (s ∷ rest) rest by refl (next ∙ ap (λ (es : List Entry). es ++ sending c rest) puts) row
      | inr ahead ↦
          let a : Book = record { loan = λ j. None; rest = λ g. s ∷ rest; buffer = λ z. c } in
          let me : HartNo = record { 0 = h } in
          passing_alike h v c (s ∷ rest) rest k x (sym ahead) (rows_issue.passed a (Passing me me) v m k h e x by (register_passes a (Passing me me) m h chan off width value x) row)
    ]

-- ---- each row

-- of a hart that takes no lot back
pub row_on : (a b : Book) (o : Owner) (v : ℕ) (m k : MachineState) (h : ℕ) (s : Step) (x : ℕ) → IsMachine m → BookGoes a b h s → IsOfNone s → StepMoves m k h s → ((n : MapId) → o ≡ Returning n → n.hart.0 ≡ h → ⊥) → Row a o v m x → Row b o v k x
row_on a b (Thread j) v m k h s x sound goes none steps stays row = row_there a (Thread j) v m k h s x steps row
row_on a b (Passing j g) v m k h s x sound goes none steps stays row = elim (cases_eq j.0 h) [
  | inl own ↦
      let here : a.rest j.0 ≡ s ∷ b.rest j.0 = ap a.rest own ∙ goes.here ∙ ap (λ (i : ℕ). s ∷ b.rest i) (sym own) in
      let mine : StepMoves m k j.0 s = subst (λ (i : ℕ). StepMoves m k i s) (sym own) steps in
      subst (λ (c : ℕ). PassingRow j.0 v c (b.rest j.0) k x) (goes.buffer x)
      (passing_on j.0 v (a.buffer x) s (b.rest j.0) m k x none mine (subst (λ (r : List Step). PassingRow j.0 v (a.buffer x) r m x) here row))
  | inr ne ↦ row_alike a b (Passing j g) v k x (goes.buffer x, goes.away j.0 ne) (row_there a (Passing j g) v m k h s x steps row)
]
row_on a b (Lending n) v m k h s x sound goes none steps stays row = elim (cases_eq n.hart.0 h) [
  | inl own ↦
      let here : a.rest n.hart.0 ≡ s ∷ b.rest n.hart.0 = ap a.rest own ∙ goes.here ∙ ap (λ (i : ℕ). s ∷ b.rest i) (sym own) in
      let mine : StepMoves m k n.hart.0 s = subst (λ (i : ℕ). StepMoves m k i s) (sym own) steps in
      subst (λ (o : Option Loan). LentRow b n o v k x) (goes.loans n) (lent_here a b n (a.loan n) s v m k x sound none mine here row)
  | inr ne ↦ row_alike a b (Lending n) v k x (goes.loans n, goes.away n.hart.0 ne) (row_there a (Lending n) v m k h s x steps row)
]
row_on a b (Device n) v m k h s x sound goes none steps stays row = row_alike a b (Device n) v k x (goes.loans n) (row_there a (Device n) v m k h s x steps row)
row_on a b (Returning n) v m k h s x sound goes none steps stays row =
    row_alike a b (Returning n) v k x (goes.loans n, goes.away n.hart.0 (stays n refl)) (row_there a (Returning n) v m k h s x steps row)
row_on a b (Synced n) v m k h s x sound goes none steps stays row = row_alike a b (Synced n) v k x (goes.loans n) (row_there a (Synced n) v m k h s x steps row)
row_on a b Pool v m k h s x sound goes none steps stays row = row_there a Pool v m k h s x steps row
