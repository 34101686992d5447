-- What a row says of one place, after an entry came into a queue.
use Rattle.std.specs.Prelude.{Option, Some, None, ◌/◌, unwrap_or}
use Rattle.std.specs.List.{list_any}
use Rattle.std.proofs.Common.{◌≡◌, ◌≢◌, ◌⊎◌, ℕ, Bool, true, false, List, [], ◌∷◌, ◌++◌, refl, sym, ap, ◌∙◌, inl, inr, subst}
use Rattle.std.proofs.lemmas.Bool.{cases_eq}
use Rattle.nc_num.specs.Memory.{byte}
use Rattle.nc_queue.specs.Entries.{entry_gives, gives_in}
use Rattle.nc_queue.specs.declared.entry.Entry.{Entry}
use Rattle.nc_lines.specs.Lines.{line}
use Rattle.nc_lines.specs.Laws.{LineGains}
use Rattle.nc_lines.proofs.Gains.{line_gains}
use Rattle.nc_rules.specs.Machine.{MachineState, queue_of}
use Rattle.nc_rules.specs.View.{view}
use Rattle.nc_rows.specs.Places.{given, ThreadRow, QuietRow, PoolRow, CalmRow, OpenRow, Alone}
use Rattle.nc_row_issues.specs.Laws.{Enters, NoByte, NoBlock}

pub given_pushed : (m k : MachineState) (h : ℕ) (e : Entry) (g x : ℕ) → Enters m k h e → NoByte m e x → given k g x ≡ given m g x
given_pushed m k h e g x by none = by.pushes.queues.silent g x none

pub quiet_pushed : (m k : MachineState) (h : ℕ) (e : Entry) (g x : ℕ) → Enters m k h e → NoByte m e x → QuietRow g m x → QuietRow g k x
quiet_pushed m k h e g x by none row = record { fresh = (by.pushes.places x).fresh row.fresh; others = λ j ne. given_pushed m k h e j x by none ∙ row.others j ne }

view_pushed : (m k : MachineState) (h : ℕ) (e : Entry) (g x : ℕ) → Enters m k h e → NoByte m e x → view k g x ≡ view m g x
view_pushed m k h e g x by none = elim (cases_eq g h) [
  | inl same ↦ ap (λ (j : ℕ). view k j x) same ∙ by.pushes.own_view x ∙ ap (λ (o : Option ℕ). unwrap_or o (view m h x)) none ∙ ap (λ (j : ℕ). view m j x) (sym same)
  | inr ne ↦ by.pushes.other_views g x ne
]

pub thread_pushed : (m k : MachineState) (h : ℕ) (e : Entry) (g v x : ℕ) → Enters m k h e → NoByte m e x → ThreadRow g v m x → ThreadRow g v k x
thread_pushed m k h e g v x by none row = record { shows = view_pushed m k h e g x by none ∙ row.shows; quiet = quiet_pushed m k h e g x by none row.quiet }

pub pool_pushed : (m k : MachineState) (h : ℕ) (e : Entry) (v x : ℕ) → Enters m k h e → NoByte m e x → PoolRow v m x → PoolRow v k x
pool_pushed m k h e v x by none row = record { both = (by.pushes.places x).both v row.both; none = λ g. given_pushed m k h e g x by none ∙ row.none g }

pub calm_pushed : (m k : MachineState) (h : ℕ) (e : Entry) (x : ℕ) → Enters m k h e → NoByte m e x → CalmRow m x → CalmRow k x
calm_pushed m k h e x by none row =
    let kept = pool_pushed m k h e (byte m.cache.ram x) x by none row in subst (λ (v : ℕ). PoolRow v k x) (sym kept.both.memory) kept

pub block_pushed : (m k : MachineState) (h : ℕ) (e : Entry) (g x : ℕ) → Enters m k h e → NoBlock m e x → list_any (gives_in m.size (x / m.size)) (queue_of m g) ≡ false → list_any (gives_in k.size (x / k.size)) (queue_of k g) ≡ false
block_pushed m k h e g x by none was = rw by.shape.size (by.pushes.queues.none (gives_in m.size (x / m.size)) g none was)

pub open_pushed : (m k : MachineState) (h : ℕ) (e : Entry) (v x : ℕ) → Enters m k h e → NoBlock m e x → OpenRow v m x → OpenRow v k x
open_pushed m k h e v x by none row = record {
  clear = (by.pushes.places x).clear row.clear;
  memory = (by.pushes.places x).memory ∙ row.memory;
  none = λ g. block_pushed m k h e g x by none (row.none g);
}

pub alone_pushed : (m k : MachineState) (h : ℕ) (e : Entry) (g x : ℕ) → Enters m k h e → NoBlock m e x → Alone g m x → Alone g k x
alone_pushed m k h e g x by none alone = λ j ne. block_pushed m k h e j x by none (alone j ne)

-- the hart's own byte
pub thread_stored : (m k : MachineState) (h : ℕ) (e : Entry) (v x : ℕ) → Enters m k h e → ThreadRow h v m x → ThreadRow h (unwrap_or (entry_gives m.size e x) v) k x
thread_stored m k h e v x by row = record {
  shows = by.pushes.own_view x ∙ ap (λ (d : ℕ). unwrap_or (entry_gives m.size e x) d) row.shows;
  quiet = record {
    fresh = (by.pushes.places x).fresh row.quiet.fresh;
    others = λ g ne. rw (by.shape.size, by.pushes.queues.others g ne) (row.quiet.others g ne);
  };
}

-- ---- lines

pub gains : (m : MachineState) (h : ℕ) (e : Entry) (c : List Entry) → LineGains (queue_of m h) c e
gains m h e c = line_gains (queue_of m h) c e

-- what holds of every line that gains the entry holds of each hart's
pub of_line : (m k : MachineState) (h : ℕ) (e : Entry) (g : ℕ) (c : List Entry) (P : List Entry → Type 0) → Enters m k h e → (g ≡ h → P (line (queue_of m g) c) → P (line (queue_of m g ++ e ∷ []) c)) → P (line (queue_of m g) c) → P (line (queue_of k g) c)
of_line m k h e g c P by own was = elim (cases_eq g h) [
  | inl same ↦
      let here : queue_of k g ≡ queue_of m g ++ e ∷ [] = ap (queue_of k) same ∙ by.pushes.queues.own ∙ ap (λ (j : ℕ). queue_of m j ++ e ∷ []) (sym same) in
      subst (λ (q : List Entry). P (line q c)) (sym here) (own same was)
  | inr ne ↦ subst (λ (q : List Entry). P (line q c)) (sym (by.pushes.queues.others g ne)) was
]
