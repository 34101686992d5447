-- A token drains in flat memory: its lot is its channel's, and the bytes stand.
use Rattle.nc_calls.proofs.DrainPlaces as drain_places
use Rattle.std.specs.Prelude.{All, Option, Some, None, remove}
use Rattle.std.proofs.Common.{◌≡◌, ℕ, ◌<◌, true, false, List, length, refl, sym, ap, ◌∙◌, inl, inr, subst}
use Rattle.std.proofs.lemmas.Bool.{cases_eq, both_ways}
use Rattle.nc_num.specs.Memory.{byte}
use Rattle.nc_num.specs.declared.names.HartNo.{HartNo}
use Rattle.nc_num.specs.declared.names.Label.{Label}
use Rattle.nc_num.specs.declared.names.MapId.{MapId}
use Rattle.nc_queue.specs.declared.entry.Entry.{Entry}
use Rattle.nc_queue.specs.declared.entry.Entry.TheVariants as entries
use Rattle.nc_model.specs.declared.owners.Owner.{Owner}
use Rattle.nc_model.specs.declared.owners.Owner.TheVariants.{Lending, Returning, Pool}
use Rattle.nc_scen.specs.Regions.{slots_of}
use Rattle.nc_scen.specs.declared.scenario.Scenario.{Scenario}
use Rattle.nc_rules.specs.Calls.{drain_next}
use Rattle.nc_rules.specs.Driver.{DriverState, lent}
use Rattle.nc_rules.specs.Lots.{lot_id}
use Rattle.nc_rules.specs.Machine.{queue_of}
use Rattle.nc_rules.specs.EventTouches.{owner_of}
use Rattle.nc_rules.specs.World.{WorldState, driver_of}
use Rattle.nc_calls.specs.PlaceLaws.{NotHeld}
use Rattle.nc_rows.specs.Ahead.{is_full, settling}
use Rattle.nc_rows.specs.Laws.{seen_at}
use Rattle.nc_rows.specs.Rows.{Loan, Book, Row}
use Rattle.nc_rows.specs.Parts.{Queued, IsAllocating, MayBeHeld, Lasts}
use Rattle.nc_row_moves.specs.Laws.{is_token, IsGiven}
use Rattle.nc_row_moves.proofs.PartMoves.{parts_stay}
use Rattle.nc_row_moves.proofs.PlaceDrains.{leaves as entry_leaves}
use Rattle.nc_row_moves.proofs.RowDrains.{rows_drain}
use Rattle.nc_flatness.specs.Books.{book_of, mapping_in, LiesIn, IsPooled}
use Rattle.nc_flatness.specs.Flatness.{Drives, IsUnseen, BytesStand}
use Rattle.nc_flatness.specs.Tokens.{TokenStands}
use Rattle.nc_flatness.proofs.books.BookReads.{driver_here, driver_away, queued_to, pool_unheld}
use Rattle.nc_flatness.proofs.tokens.Lents.{drives_lent}
use Rattle.nc_flatness.proofs.tokens.Stands.{drain_stands}
use Rattle.nc_flat_moves.proofs.drains.Calm.{calm_of}
use Rattle.nc_flat_moves.proofs.tokens.GivenCopies.{copying_behind}
use Rattle.nc_flat_moves.proofs.tokens.GivenWorld.{given_driver, given_world, IsGiving, lent_driver, drivers_there, book_given, named_unsettled, IsGivenAt, Given, Kept, given_at}
use Rattle.nc_flat_moves.proofs.drains.LosesRows.{nowhere}
use Rattle.nc_flat_moves.proofs.drains.Pooled.{either_by, loan_pooled}
use Rattle.nc_flat_moves.proofs.tokens.SentLots.{sent_none}
use Rattle.nc_flat_moves.proofs.tokens.Tokens.{TokensStand}
use Rattle.nc_flat_moves.proofs.WorldNow.{has_pieces, whole_pool}

-- ---- drivers and tokens

-- of each other hart the driver stays
drives_behind : (sc : Scenario) (f : List ℕ) (w : WorldState) (h : HartNo) (i : ℕ) (label : Label) (first count k : ℕ) → IsGiving sc f w h i label first count → k < length sc.harts → Drives (driver_of (given_world w h i label first) k)
drives_behind sc f w h i label first count k g lt =
    let m = drain_next w.machine h.0 i in
    let d = driver_of w h.0 in
    let went = lent d label first in
    elim (cases_eq k h.0) [
      | inl own ↦
          let now : driver_of (given_world w h i label first) k ≡ given_driver d (lot_id label first) =
          ap (driver_of (given_world w h i label first)) own ∙ driver_here w h m went (drivers_there sc f w h i label first count g) ∙ lent_driver d label first in
          subst Drives (sym now)
          (drives_lent d (lot_id label first) (sent_none w h.0 label first count g.sent) g.sent.all (g.flat.bytes.drives h.0 g.lt))
      | inr ne ↦ subst Drives (sym (driver_away w h m went k ne)) (g.flat.bytes.drives k lt)
    ]

tokens_behind : (sc : Scenario) (f : List ℕ) (w : WorldState) (h : HartNo) (i : ℕ) (label : Label) (first count k : ℕ) → IsGiving sc f w h i label first count → k < length sc.harts → (driver_of (given_world w h i label first) k).fixed.light ≡ true
    → TokensStand (given_world w h i label first) k
tokens_behind sc f w h i label first count k g lt light =
    let m = drain_next w.machine h.0 i in
    let d = driver_of w h.0 in
    let went = lent d label first in
    let loses = (entry_leaves w.machine h.0 i (entries.Lend label first count) g.is).drains.queues in
    elim (cases_eq k h.0) [
      | inl own ↦
          let now : driver_of (given_world w h i label first) k ≡ given_driver d (lot_id label first) =
          ap (driver_of (given_world w h i label first)) own ∙ driver_here w h m went (drivers_there sc f w h i label first count g) ∙ lent_driver d label first in
          let queue : queue_of m k ≡ remove (queue_of w.machine h.0) i = ap (queue_of m) own ∙ loses.own in
          subst (λ (e : DriverState). All (TokenStands e.rest (queue_of m k)) e.lots) (sym now)
          (subst (λ (q : List Entry). All (TokenStands d.rest q) (given_driver d (lot_id label first)).lots) (sym queue)
          (drain_stands d.rest (queue_of w.machine h.0) i (entries.Lend label first count) (lot_id label first) d.lots loses.stood refl (g.flat.bytes.tokens h.0 g.lt g.sent.light)))
      | inr ne ↦
          let same = driver_away w h m went k ne in
          subst (λ (e : DriverState). All (TokenStands e.rest (queue_of m k)) e.lots) (sym same)
          (subst (λ (q : List Entry). All (TokenStands (driver_of w k).rest q) (driver_of w k).lots) (sym (loses.others k ne)) (g.flat.bytes.tokens k lt (ap (λ (e : DriverState). e.fixed.light) (sym same) ∙ light)))
    ]

-- ---- rows

-- an area that is given is not held
area_given : (sc : Scenario) (f : List ℕ) (w : WorldState) (h : HartNo) (i : ℕ) (label : Label) (first count x : ℕ) (n : MapId) (o : Option Loan) → IsGiving sc f w h i label first count → owner_of w x ≡ Lending n → is_token (Lending n) h.0 (entries.Lend label first count) ≡ true
    → (book_of w).loan n ≡ o → IsGiven (book_of w) n o w.machine x
area_given sc f w h i label first count x n None g own on known = tt
area_given sc f w h i label first count x n (Some l) g own on known =
    let settles = named_unsettled sc f w h i label first count n l g on known in
    let never : MayBeHeld (book_of w) (owner_of w x) → ⊥ =
    λ may. let is : IsAllocating (book_of w) n (Some l) = subst (λ (o : Option Loan). IsAllocating (book_of w) n o) known (subst (λ (o : Owner). MayBeHeld (book_of w) o) own may) in both_ways (settling l.lot ((book_of w).rest n.hart.0)) settles is.1 in
    either_by l.area ((settling l.lot ((book_of w).rest n.hart.0) ≡ false) × NotHeld w.machine x) (Unit {0})
    (λ area. (settles, pool_unheld sc f w x g.flat (loan_pooled sc f w n l x g.flat (ap mapping_in own) known area) never)) (λ single. tt)

row_given : (sc : Scenario) (f : List ℕ) (w : WorldState) (h : HartNo) (i : ℕ) (label : Label) (first count x : ℕ) → (g : IsGiving sc f w h i label first count) → IsGivenAt w (given_world w h i label first) h.0 (entries.Lend label first count) x
    → Row (book_of w) (owner_of w x) (byte f x) w.machine x → Row (book_of w) (owner_of (given_world w h i label first) x) (byte f x) (drain_next w.machine h.0 i) x
row_given sc f w h i label first count x g (Given n own on now) row =
    let a = book_of w in
    let m = w.machine in
    let e = entries.Lend label first count in
    subst (λ (o : Owner). Row a o (byte f x) (drain_next m h.0 i) x) (sym now)
    (rows_drain.lent a n (byte f x) m h.0 i e x g.is (nowhere w (Lending n) m e x (λ y over. absurd cc)) on (area_given sc f w h i label first count x n (a.loan n) g own on refl) (subst (λ (o : Owner). Row a o (byte f x) m x) own row))
row_given sc f w h i label first count x g (Kept off same) row =
    let a = book_of w in
    let m = w.machine in
    let e = entries.Lend label first count in
    subst (λ (o : Owner). Row a o (byte f x) (drain_next m h.0 i) x) (sym same)
    (rows_drain.kept a (owner_of w x) (byte f x) m h.0 i e x g.is (nowhere w (owner_of w x) m e x (λ y over. absurd cc)) (has_pieces sc f w x (owner_of w x) g.flat) off row)

-- ---- owners

mapping_same : (w v : WorldState) (h : ℕ) (e : Entry) (x : ℕ) → IsGivenAt w v h e x → mapping_in (owner_of v x) ≡ mapping_in (owner_of w x)
mapping_same w v h e x (Given n own on now) = ap mapping_in now ∙ sym (ap mapping_in own)
mapping_same w v h e x (Kept off same) = ap mapping_in same

pool_same : (w v : WorldState) (h : ℕ) (e : Entry) (x : ℕ) → IsGivenAt w v h e x → owner_of w x ≡ Pool → owner_of v x ≡ Pool
pool_same w v h e x (Given n own on now) is = absurd (let no = sym own ∙ is in cc)
pool_same w v h e x (Kept off same) is = same ∙ is

back_same : (w v : WorldState) (h : ℕ) (e : Entry) (x : ℕ) (n : MapId) → IsGivenAt w v h e x → owner_of w x ≡ Returning n → owner_of v x ≡ Returning n
back_same w v h e x n (Given k own on now) is = absurd (let no = sym own ∙ is in cc)
back_same w v h e x n (Kept off same) is = same ∙ is

seen_same : (w v : WorldState) (h : ℕ) (e : Entry) (x : ℕ) → IsGivenAt w v h e x → seen_at (book_of w) (owner_of v x) x ≡ seen_at (book_of w) (owner_of w x) x
seen_same w v h e x (Given n own on now) = ap (λ (o : Owner). seen_at (book_of w) o x) now ∙ sym (ap (λ (o : Owner). seen_at (book_of w) o x) own)
seen_same w v h e x (Kept off same) = ap (λ (o : Owner). seen_at (book_of w) o x) same

-- ---- what stands beside the rows

pooled_by : (w v : WorldState) (h : ℕ) (e : Entry) (x : ℕ) → IsGivenAt w v h e x → IsPooled (book_of w) (owner_of w x) x → IsPooled (book_of w) (owner_of v x) x
pooled_by w v h e x at (inl pool) = inl (pool_same w v h e x at pool)
pooled_by w v h e x at (inr area) = inr area

lending_same : (n k : MapId) → Lending n ≡ Lending k → n ≡ k
lending_same n k same = cc

-- a place of an area that is allocated is not given
zeroed_place : (sc : Scenario) (f : List ℕ) (w : WorldState) (h : HartNo) (i : ℕ) (label : Label) (first count x : ℕ) (n : MapId) (l : Loan) → IsGiving sc f w h i label first count → (book_of w).loan n ≡ Some l → settling l.lot ((book_of w).rest n.hart.0) ≡ true
    → IsGivenAt w (given_world w h i label first) h.0 (entries.Lend label first count) x → owner_of w x ≡ Lending n → owner_of (given_world w h i label first) x ≡ Lending n
zeroed_place sc f w h i label first count x n l g known ahead (Given k own on now) is =
    let same : k ≡ n = lending_same k n (sym own ∙ is) in
    let none = named_unsettled sc f w h i label first count n l g (subst (λ (j : MapId). is_token (Lending j) h.0 (entries.Lend label first count) ≡ true) same on) known in
    absurd (both_ways (settling l.lot ((book_of w).rest n.hart.0)) none ahead)
zeroed_place sc f w h i label first count x n l g known ahead (Kept off same) is = same ∙ is

held_given : (sc : Scenario) (f : List ℕ) (w : WorldState) (h : HartNo) (i : ℕ) (label : Label) (first count x : ℕ) (n : MapId) (o : Option Loan) → IsGiving sc f w h i label first count → is_token (Lending n) h.0 (entries.Lend label first count) ≡ true → (book_of w).loan n ≡ o
    → IsAllocating (book_of w) n o → ⊥
held_given sc f w h i label first count x n None g on known is = is
held_given sc f w h i label first count x n (Some l) g on known is = both_ways (settling l.lot ((book_of w).rest n.hart.0)) (named_unsettled sc f w h i label first count n l g on known) is.1

held_by : (sc : Scenario) (f : List ℕ) (w : WorldState) (h : HartNo) (i : ℕ) (label : Label) (first count x : ℕ) → IsGiving sc f w h i label first count → IsGivenAt w (given_world w h i label first) h.0 (entries.Lend label first count) x
    → MayBeHeld (book_of w) (owner_of w x) → MayBeHeld (book_of w) (owner_of (given_world w h i label first) x)
held_by sc f w h i label first count x g (Given n own on now) may =
    absurd (held_given sc f w h i label first count x n ((book_of w).loan n) g on refl (subst (λ (o : Owner). MayBeHeld (book_of w) o) own may))
held_by sc f w h i label first count x g (Kept off same) may = subst (λ (o : Owner). MayBeHeld (book_of w) o) (sym same) may

-- ---- the whole

pub given_bytes : (sc : Scenario) (f : List ℕ) (w : WorldState) (h : HartNo) (i : ℕ) (label : Label) (first count : ℕ) → IsGiving sc f w h i label first count → BytesStand sc f (given_world w h i label first)
given_bytes sc f w h i label first count g =
    let e = entries.Lend label first count in
    let a = book_of w in
    let m = w.machine in
    let k = drain_next m h.0 i in
    let v = given_world w h i label first in
    let b = g.flat.bytes in
    let book : a ≡ book_of v = sym (book_given sc f w h i label first count g) in
    let at : (x : ℕ) → IsGivenAt w v h.0 e x = λ x. given_at sc f w h i label first count x g in
    record {
      flat_size = b.flat_size;
      drives = λ j lt. drives_behind sc f w h i label first count j g lt;
      placed = λ x n lt mine. subst (λ (c : Book). LiesIn (c.loan n) x) book (b.placed x n lt (sym (mapping_same w v h.0 e x (at x)) ∙ mine));
      pooled = λ x on. subst (λ (c : Book). IsPooled c (owner_of v x) x) book (pooled_by w v h.0 e x (at x) (b.pooled x on));
      slotted = λ x on. pool_same w v h.0 e x (at x) (b.slotted x on);
      rows = λ x lt off. subst (λ (c : Book). Row c (owner_of v x) (byte f x) k x) book (row_given sc f w h i label first count x g (at x) (b.rows x lt off));
      calm = λ z on unseen.
          let was : IsUnseen a (owner_of w) (slots_of sc) z = λ x off same. subst (λ (c : Book). IsUnseen c (owner_of v) (slots_of sc) z) (sym book) unseen x off (seen_same w v h.0 e x (at x) ∙ same) in
          calm_of m k z (rows_drain.kept a Pool (byte m.cache.ram z) m h.0 i e z g.is tt tt refl (b.calm z on was));
      queued =
          subst (λ (c : Book). Queued c (owner_of v) k) book
          (queued_to a a (owner_of w) (owner_of v) k
          (λ j c is. record { id = is.id; loan = is.loan; lent = is.lent; own = is.own; back = is.back; ahead = is.ahead; place = is.place; owned = back_same w v h.0 e is.place is.id (at is.place) is.owned; here = is.here })
          (λ j c is. record { id = is.id; loan = is.loan; lent = is.lent; own = is.own; area = is.area; ahead = is.ahead; owned = λ x here. zeroed_place sc f w h i label first count x is.id is.loan g is.lent is.ahead (at x) (is.owned x here) })
          (parts_stay.queued_drain a (owner_of w) m h.0 i e g.is b.queued));
      unfenced = λ j. (drain_places.drain_is m h.0 i e g.is.sound g.is.hart g.is.out).queues.none is_full j (b.unfenced j);
      uncached = λ x on. elim (parts_stay.uncached_drain a (owner_of w) m h.0 i e g.is (whole_pool sc f w g.flat) b.queued b.uncached x on) [
        | inl free ↦ inl free
        | inr may ↦ inr (subst (λ (c : Book). MayBeHeld c (owner_of v x)) book (held_by sc f w h i label first count x g (at x) may))
      ];
      lasts = subst (λ (c : Book). Lasts c f k) book (parts_stay.lasts_drain a f m h.0 i e g.is b.lasts);
      tokens = λ j lt light. tokens_behind sc f w h i label first count j g lt light;
      copying = λ j lt. copying_behind sc f w h i label first count j g lt;
    }
