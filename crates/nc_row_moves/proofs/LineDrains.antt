-- The line of a hart, after an entry of some hart drained.
use Rattle.std.specs.Prelude.{Some, None, remove}
use Rattle.std.specs.List.{list_any}
use Rattle.std.proofs.Common.{◌≡◌, ◌≢◌, ◌⊎◌, ℕ, Bool, true, false, List, refl, sym, ap, ◌∙◌, inl, inr, subst}
use Rattle.std.proofs.lemmas.Bool.{cases_eq, cases_Bool, both_ways}
use Rattle.nc_queue.specs.Entries.{is_o, is_wo}
use Rattle.nc_queue.specs.Laws.{Stands, Covered}
use Rattle.nc_queue.specs.declared.entry.Entry.{Entry}
use Rattle.nc_queue.proofs.TestLaws.{some-remove}
use Rattle.nc_queue.proofs.FenceLaws.{drained-some}
use Rattle.nc_lines.specs.Lines.{bare, line, Marked}
use Rattle.nc_lines.specs.Laws.{OfW, OfBlock, InBlock, Apart, LineLoses}
use Rattle.nc_lines.proofs.LineLaws.{line_loses}
use Rattle.nc_rules.specs.Machine.{MachineState, queue_of}
use Rattle.nc_row_moves.proofs.PlaceDrains.{Leaves}

-- the line of another hart stays, and the hart's own loses the entry
pub line_away : (m k : MachineState) (h i : ℕ) (e : Entry) (g : ℕ) (c : List Entry) → Leaves m k h i e → g ≢ h → line (queue_of k g) c ≡ line (queue_of m g) c
line_away m k h i e g c l ne = ap (λ (q : List Entry). line q c) (l.drains.queues.others g ne)

pub line_here : (m k : MachineState) (h i : ℕ) (e : Entry) (c : List Entry) → Leaves m k h i e → line (queue_of k h) c ≡ line (remove (queue_of m h) i) c
line_here m k h i e c l = ap (λ (q : List Entry). line q c) l.drains.queues.own

pub loses : (m k : MachineState) (h i : ℕ) (e : Entry) (c : List Entry) → Leaves m k h i e → LineLoses m.size (queue_of m h) c i e
loses m k h i e c l = line_loses m.size (queue_of m h) c i e l.drain.out

-- what holds of every line that an entry leaves holds of each hart's
pub of_line : (m k : MachineState) (h i : ℕ) (e : Entry) (g : ℕ) (c : List Entry) (P : List Entry → Type 0) → Leaves m k h i e → (g ≡ h → P (line (queue_of m h) c) → P (line (remove (queue_of m h) i) c)) → P (line (queue_of m g) c) → P (line (queue_of k g) c)
of_line m k h i e g c P l own was = elim (cases_eq g h) [
  | inl same ↦ subst (λ (j : ℕ). P (line (queue_of k j) c)) (sym same)
      (subst P (sym (line_here m k h i e c l)) (own same (subst (λ (j : ℕ). P (line (queue_of m j) c)) same was)))
  | inr ne ↦ subst P (sym (line_away m k h i e g c l ne)) was
]

pub block_cover : (m k : MachineState) (h i : ℕ) (e : Entry) (g : ℕ) (c : List Entry) (p w t : Entry → Bool) (b : ℕ) → Leaves m k h i e → InBlock m.size b p (queue_of m h) → OfBlock m.size b w → Covered p w t (line (queue_of m g) c)
    → Covered p w t (line (queue_of k g) c)
block_cover m k h i e g c p w t b l of_p of_w covered = of_line m k h i e g c (Covered p w t) l (λ own. (loses m k h i e c l).block_cover p w t b of_p of_w) covered

pub marked_cover : (m k : MachineState) (h i : ℕ) (e : Entry) (g : ℕ) (c : List Entry) (p t : Entry → Bool) → Leaves m k h i e → OfW p → Covered p is_wo t (line (queue_of m g) c) → Covered p is_wo t (line (queue_of k g) c)
marked_cover m k h i e g c p t l of_w covered = of_line m k h i e g c (Covered p is_wo t) l (λ own. (loses m k h i e c l).marked_cover p t of_w) covered

pub still_marked : (m k : MachineState) (h i : ℕ) (e : Entry) (g : ℕ) (c : List Entry) (w t : Entry → Bool) → Leaves m k h i e → OfW w → (g ≡ h → t (bare e) ≡ false) → Marked w t (line (queue_of m g) c) → Marked w t (line (queue_of k g) c)
still_marked m k h i e g c w t l of_w other marked = of_line m k h i e g c (Marked w t) l (λ own. (loses m k h i e c l).still_marked w t of_w (other own)) marked

-- why none of w stands before t any more: none did, or this one drained
pub gone_by : (m k : MachineState) (h i : ℕ) (e : Entry) (g : ℕ) (c : List Entry) (w t : Entry → Bool) → Leaves m k h i e → Stands w t (line (queue_of m g) c) → (Stands w t (line (queue_of k g) c) → ⊥) → (g ≡ h) × (w (bare e) ≡ true)
gone_by m k h i e g c w t l stood none = elim (cases_eq g h) [
  | inl same ↦ (
    same,
    elim (cases_Bool (w (bare e))) [
      | inl is ↦ is
      | inr other ↦ absurd (none (of_line m k h i e g c (Stands w t) l (λ own. (loses m k h i e c l).still_stands w t other) stood))
    ],
  )
  | inr ne ↦ absurd (none (subst (Stands w t) (sym (line_away m k h i e g c l ne)) stood))
]

-- why there is none of t any more
pub left_by : (m k : MachineState) (h i : ℕ) (e : Entry) (g : ℕ) (c : List Entry) (t : Entry → Bool) → Leaves m k h i e → list_any t (line (queue_of m g) c) ≡ true → list_any t (line (queue_of k g) c) ≡ false → (g ≡ h) × (t (bare e) ≡ true)
left_by m k h i e g c t l some none = elim (cases_eq g h) [
  | inl same ↦ (
    same,
    elim (cases_Bool (t (bare e))) [
      | inl is ↦ is
      | inr other ↦
          let own = loses m k h i e c l in
          let at = (drained-some m.size (line (queue_of m h) c) i (bare e) own.drains).0 in
          let some_here : list_any t (line (queue_of m h) c) ≡ true = subst (λ (j : ℕ). list_any t (line (queue_of m j) c) ≡ true) same some in
          let kept = some-remove t (line (queue_of m h) c) i (bare e) at other some_here in
          let none_here : list_any t (line (remove (queue_of m h) i) c) ≡ false = ap (list_any t) (sym (line_here m k h i e c l)) ∙ subst (λ (j : ℕ). list_any t (line (queue_of k j) c) ≡ false) same none in
          absurd (both_ways (list_any t (line (remove (queue_of m h) i) c)) none_here (ap (list_any t) own.left ∙ kept))
    ],
  )
  | inr ne ↦ absurd (both_ways (list_any t (line (queue_of m g) c)) (ap (list_any t) (sym (line_away m k h i e g c l ne)) ∙ none) some)
]
