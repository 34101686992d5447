-- An event records at most one answer.
use Rattle.std.proofs.Common.{◌≡◌, ◌≤◌, ◌+◌, ℕ, Bool, true, false, List, [], ◌∷◌, ◌++◌, map, length, Option, Some, None, refl, ap, ◌∙◌, length-append, arith}
use Rattle.std.specs.Prelude.{if◌then◌else◌, cond, is_none}
use Rattle.std.specs.List.{count_by, filter}
use Rattle.std.proofs.lemmas.Bool.{false≢true}
use Rattle.std.proofs.lemmas.List.Elements.{All-head, All-tail, filter-append}
use Rattle.std.proofs.lemmas.List.Sums.{count_by-le-length, length-filter}
use Rattle.nc_num.specs.declared.names.HartNo.{HartNo}
use Rattle.nc_queue.specs.declared.entry.Entry.{Entry}
use Rattle.nc_queue.specs.declared.entry.Entry.TheVariants as entries
use Rattle.nc_slots.specs.SlotWords.{holder_of, answer_to}
use Rattle.nc_model.specs.declared.owners.Owner.{Owner}
use Rattle.nc_model.specs.declared.touches.Touch.{Touch}
use Rattle.nc_num.specs.declared.places.Span.{Span}
use Rattle.nc_scen.specs.declared.events.Event.{Event}
use Rattle.nc_scen.specs.declared.events.Event.TheVariants as events
use Rattle.nc_rules.specs.declared.answers.Answer.{Answer}
use Rattle.nc_rules.specs.declared.records.Record.{Record}
use Rattle.nc_rules.specs.declared.records.Record.TheVariants as records
use Rattle.nc_rules.specs.declared.steps.Next.{Next}
use Rattle.nc_rules.specs.declared.steps.Next.TheVariants as nexts
use Rattle.nc_rules.specs.declared.steps.Seen.TheVariants as seen
use Rattle.nc_model.specs.declared.owners.Access.TheVariants.{Read, Write}
use Rattle.nc_rules.specs.Machine.{MachineState, grantee_of}
use Rattle.nc_rules.specs.Calls.{drain_next, leaving, issue_answer, control_of, fill_answer, evict_answer, chan_read_step, chan_write_step}
use Rattle.nc_rules.specs.EventTouches.{issue_touch, poll_touch, drain_touch, transaction_touch}
use Rattle.nc_rules.specs.Turns.{Moved}
use Rattle.nc_rules.specs.Driver.{Went, next_of, searching, is_script, started, told, done, lent}
use Rattle.nc_rules.specs.Records.{touch_records, answer_records, op_records, drain_records, read_records, write_records, try_records, told_records, told_answer, owner_records, back_records, answered, moves_records}
use Rattle.nc_rules.specs.Outcomes.{Outcome, seen_of, claim_seen, got_word, step_outcome, start_outcome, op_outcome, claim_outcome, poll_outcome, take_outcome, try_outcome, told_outcome, at_word, leaves, drain_outcome, outcome}
use Rattle.nc_rules.specs.Events.{enabled}
use Rattle.nc_rules.specs.Next.{event_records}
use Rattle.nc_rules.specs.World.{WorldState, driver_of}
use Rattle.nc_counts.proofs.Plain.{is_plain, ArePlain, plain_op, plain_drain, plain_answer, plain_read, plain_write, plain_backs}
use Rattle.nc_gen.specs.Summary.{answer_in, is_copydone, is_noslot}

plain_none : (r : Record) → is_plain r ≡ true → answer_in r ≡ None
plain_none (records.Ans h op a) plain = absurd (false≢true plain)
plain_none _ plain = refl

-- for a test that only answers pass
module _ (p : Record → Bool) (only : (r : Record) → answer_in r ≡ None → p r ≡ false) where
  many : List Record → ℕ
  many rs = length (filter p rs)

  many_more : (rs ss : List Record) → many (rs ++ ss) ≡ many rs + many ss
  unfolding many
  many_more rs ss = ap length (filter-append p rs ss) ∙ length-append (filter p rs) (filter p ss)

  many_nil : many [] ≡ 0
  unfolding many
  many_nil = refl

  many_one : (r : Record) → answer_in r ≡ None → many (r ∷ []) ≡ 0
  unfolding many
  many_one r none = ap (λ t. length (cond t (r ∷ []) [])) (only r none)

  at_most_all : (rs : List Record) → many rs ≤ length rs
  unfolding many
  at_most_all rs = omega (arith, length-filter p rs, count_by-le-length p rs)

  none_of : {X : Type 0} (f : X → Record) → ((x : X) → answer_in (f x) ≡ None) → (xs : List X) → many (map f xs) ≡ 0
  unfolding many
  none_of f none [] = refl
  none_of f none (x ∷ xs) = ap (λ t. length (cond t (f x ∷ filter p (map f xs)) (filter p (map f xs)))) (only (f x) (none x)) ∙ none_of f none xs

  none_touched : (t : Option Touch) → many (touch_records t) ≡ 0
  none_touched None = many_nil
  none_touched (Some t) = many_one (records.Touched t) refl

  many_plain : (rs : List Record) → ArePlain rs → many rs ≡ 0
  unfolding many
  many_plain [] all = refl
  many_plain (r ∷ rs) all =
      ap (λ t. length (cond t (r ∷ filter p rs) (filter p rs))) (only r (plain_none r (All-head (λ (x : Record). is_plain x ≡ true) r rs all)))
      ∙ many_plain rs (All-tail (λ (x : Record). is_plain x ≡ true) r rs all)

  -- ---- what a driver's call moves: the answer is the one

  one_answer : (h : HartNo) (op : ℕ) (a : Option Answer) → many (answered h op a) ≤ 1
  one_answer h op None = omega (arith, many_nil)
  one_answer h op (Some a) = at_most_all (records.Ans h op a ∷ [])

  one_moved : (h : HartNo) (op : ℕ) (m : Moved) → many (moves_records h op m) ≤ 1
  one_moved h op m =
      let owners = owner_records m.transfers in
      let backs = back_records h m.backs in
      let all : many (moves_records h op m) ≡ many (owners ++ backs) + many (answered h op m.answer) = many_more (owners ++ backs) (answered h op m.answer) in
      let front : many (owners ++ backs) ≡ many owners + many backs = many_more owners backs in
      let no_owners : many owners ≡ 0 = none_of (λ (t : Span × Owner). records.Ow t.0 t.1) (λ t. refl) m.transfers in
      let no_backs : many backs ≡ 0 = many_plain backs (plain_backs h m.backs) in
      omega (arith, all, front, no_owners, no_backs, one_answer h op m.answer)

  one_goes : (w : WorldState) (h : HartNo) (went : Went) (touch : Option Touch) (rs : List Record)
      → many rs ≡ 0 → many (touch_records touch ++ rs ++ moves_records h (driver_of w h.0).op went.moves) ≤ 1
  one_goes w h went touch rs none =
      let moves = moves_records h (driver_of w h.0).op went.moves in
      omega (arith, many_more (touch_records touch ++ rs) moves, many_more (touch_records touch) rs, none_touched touch, none, one_moved h (driver_of w h.0).op went.moves)

  one_runs : (touch : Option Touch) (rs : List Record) → many rs ≡ 0 → many (touch_records touch ++ rs) ≤ 1
  one_runs touch rs none = omega (arith, many_more (touch_records touch) rs, none_touched touch, none)

  one_plain : (touch : Option Touch) (rs : List Record) → ArePlain rs → many (touch_records touch ++ rs) ≤ 1
  one_plain touch rs plain = one_runs touch rs (many_plain rs plain)

  -- ---- events

  one_stepped : (w : WorldState) (h : HartNo) (n : Next) → many (step_outcome w h n).records ≤ 1
  unfolding step_outcome start_outcome op_outcome claim_outcome poll_outcome take_outcome
  one_stepped w h nexts.End = one_runs None [] many_nil
  one_stepped w h (nexts.Search k) = one_runs None [] many_nil
  one_stepped w h nexts.Start = one_goes w h (started (driver_of w h.0) w.owners w.pages) None [] many_nil
  one_stepped w h (nexts.Op op) =
      one_goes w h (done (driver_of w h.0) (seen_of (issue_answer w.machine h.0 op))) (issue_touch w h (is_script (driver_of w h.0).phase) op) (op_records w.machine h (is_script (driver_of w h.0).phase) op)
      (many_plain (op_records w.machine h (is_script (driver_of w h.0).phase) op) (plain_op w.machine h (is_script (driver_of w h.0).phase) op))
  one_stepped w h (nexts.Claim chan) = one_goes w h (done (driver_of w h.0) (claim_seen (grantee_of w.machine chan.0))) None [] many_nil
  one_stepped w h (nexts.Poll chan) = one_goes w h (done (driver_of w h.0) (seen.Control (control_of w.machine chan.0))) (poll_touch w h chan) [] many_nil
  one_stepped w h (nexts.Take buf) = one_goes w h (done (driver_of w h.0) seen.Nothing) None [] many_nil

  one_at_word : (w : WorldState) (f : ℕ → Outcome) → ((k : ℕ) → many (f k).records ≤ 1) → (o : Option ℕ) → many (at_word w f o).records ≤ 1
  one_at_word w f one None = one_runs None [] many_nil
  one_at_word w f one (Some k) = one k

  one_tried : (w : WorldState) (h : HartNo) (k : ℕ) → many (try_outcome w h k).records ≤ 1
  unfolding try_outcome
  one_tried w h k = one_goes w h (told (driver_of w h.0) (is_none (holder_of w.slots k))) None (try_records h k (holder_of w.slots k)) (many_one (records.Try h k (answer_to (holder_of w.slots k))) refl)

  one_told : (w : WorldState) (h : HartNo) (got : Bool) (k : ℕ) → many (told_outcome w h got k).records ≤ 1
  unfolding told_outcome
  one_told w h got k =
      one_goes w h (told (driver_of w h.0) (got_word got (holder_of w.slots k))) None (told_records h k got (holder_of w.slots k)) (many_one (records.Told h k (told_answer got (holder_of w.slots k))) refl)

  one_left : (w : WorldState) (h : HartNo) (machine : MachineState) (touch : Option Touch) (rs : List Record) (e : Entry) → many rs ≡ 0 → many (leaves w h machine touch rs e).records ≤ 1
  one_left w h machine touch rs (entries.Lend label first count) none = one_goes w h (lent (driver_of w h.0) label first) touch rs none
  one_left w h machine touch rs (entries.Store span bytes kind) none = one_runs touch rs none
  one_left w h machine touch rs (entries.Cbo block op) none = one_runs touch rs none
  one_left w h machine touch rs (entries.Reg chan off width value) none = one_runs touch rs none
  one_left w h machine touch rs (entries.Mail buf to) none = one_runs touch rs none
  one_left w h machine touch rs (entries.Mark pred succ) none = one_runs touch rs none

  one_drained : (w : WorldState) (h : HartNo) (i : ℕ) (o : Option Entry) → many (drain_outcome w h i o).records ≤ 1
  unfolding drain_outcome
  one_drained w h i None = one_runs None [] many_nil
  one_drained w h i (Some e) = one_left w h (drain_next w.machine h.0 i) (drain_touch w h e) (drain_records w.machine h e) e (many_plain (drain_records w.machine h e) (plain_drain w.machine h e))

  one_done : (w : WorldState) (e : Event) → many (outcome w e).records ≤ 1
  unfolding outcome
  one_done w (events.Issue h) = one_stepped w h (next_of (driver_of w h.0))
  one_done w (events.Try h) = one_at_word w (try_outcome w h) (one_tried w h) (searching (driver_of w h.0))
  one_done w (events.Told h got) = one_at_word w (told_outcome w h got) (one_told w h got) (searching (driver_of w h.0))
  one_done w (events.Drain h i) = one_drained w h i (leaving w.machine h.0 i)
  one_done w (events.Fill h b) = one_plain None (answer_records w.machine.size (fill_answer w.machine h.0 b.0)) (plain_answer w.machine.size (fill_answer w.machine h.0 b.0))
  one_done w (events.Evict h b) = one_plain None (answer_records w.machine.size (evict_answer w.machine h.0 b.0)) (plain_answer w.machine.size (evict_answer w.machine h.0 b.0))
  one_done w (events.ChanRead chan) = one_plain (transaction_touch w chan Read (chan_read_step w.machine chan.0)) (read_records chan (chan_read_step w.machine chan.0)) (plain_read chan (chan_read_step w.machine chan.0))
  one_done w (events.ChanWrite chan) = one_plain (transaction_touch w chan Write (chan_write_step w.machine chan.0)) (write_records chan (chan_write_step w.machine chan.0)) (plain_write chan (chan_write_step w.machine chan.0))

  one_if : (t : Bool) (e : Event) (rs : List Record) → many rs ≤ 1 → many (if t then records.Event e ∷ rs else []) ≤ 1
  one_if true e rs one = omega (arith, many_more (records.Event e ∷ []) rs, many_one (records.Event e) refl, one)
  one_if false e rs one = omega (arith, many_nil)

  at_most_one : (w : WorldState) (e : Event) → many (event_records w e) ≤ 1
  unfolding event_records
  at_most_one w e = one_if (enabled w e) e (outcome w e).records (one_done w e)

  counted_once : (w : WorldState) (e : Event) → count_by p (event_records w e) ≤ 1
  unfolding many
  counted_once w e = omega (arith, length-filter p (event_records w e), at_most_one w e)

pub one_copydone : (w : WorldState) (e : Event) → count_by is_copydone (event_records w e) ≤ 1
unfolding is_copydone
one_copydone w e = counted_once is_copydone (λ r none. rw none refl) w e

pub one_noslot : (w : WorldState) (e : Event) → count_by is_noslot (event_records w e) ≤ 1
unfolding is_noslot
one_noslot w e = counted_once is_noslot (λ r none. rw none refl) w e
