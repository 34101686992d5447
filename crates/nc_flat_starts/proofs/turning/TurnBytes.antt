-- A driver goes on: the bytes of flat memory stand behind it, where those of the lot that turns and of its queue do.
use Rattle.std.specs.Prelude.{Option, Some, None, All, Bool, true, false}
use Rattle.std.specs.List.{list_any}
use Rattle.std.proofs.Common.{◌≡◌, ◌≢◌, ◌⊎◌, ℕ, ◌<◌, List, length, refl, sym, ap, ◌∙◌, inl, inr, subst, arith}
use Rattle.std.proofs.lemmas.Bool.{cases_Bool, cases_eq, both_ways, false_from_ne_true}
use Rattle.nc_num.specs.Memory.{byte}
use Rattle.nc_num.specs.Places.{covers}
use Rattle.nc_num.specs.declared.names.HartNo.{HartNo}
use Rattle.nc_num.specs.declared.names.MapId.{MapId}
use Rattle.nc_num.specs.declared.places.Span.{Span}
use Rattle.nc_queue.specs.declared.entry.Entry.{Entry as QueueEntry}
use Rattle.nc_model.proofs.Faults.{covers-high}
use Rattle.nc_model.specs.declared.owners.Owner.{Owner}
use Rattle.nc_model.specs.declared.owners.Owner.TheVariants.{Thread, Passing, Lending, Device, Returning, Synced, Pool}
use Rattle.nc_scen.specs.Regions.{pool_of, slots_of}
use Rattle.nc_scen.specs.declared.scenario.Scenario.{Scenario}
use Rattle.nc_sg.specs.declared.list.Entry.{Entry}
use Rattle.nc_rules.specs.declared.lots.Lot.{Lot}
use Rattle.nc_rules.specs.Lots.{DriverConfig}
use Rattle.nc_rules.specs.Machine.{MachineState, hart_of, queue_of}
use Rattle.nc_rules.specs.Driver.{DriverState, Went}
use Rattle.nc_rules.specs.EventTouches.{owner_of}
use Rattle.nc_rules.specs.World.{WorldState, driver_of, hart}
use Rattle.nc_scripts.proofs.Lists.{all_to}
use Rattle.nc_rows.specs.Ahead.{is_full}
use Rattle.nc_rows.specs.Rows.{Loan, Book, Row}
use Rattle.nc_rows.specs.Parts.{IsQueued, IsAllocating, MayBeHeld, rest_last, LastIs}
use Rattle.nc_calls.specs.PlaceLaws.{NotHeld}
use Rattle.nc_flatness.specs.Books.{loan_of, book_of, mapping_in, LiesIn, IsPooled}
use Rattle.nc_flatness.specs.Copying.{registers, IsItsOwn, CopyStands}
use Rattle.nc_flatness.specs.Flatness.{Drives, BytesStand, Flatness}
use Rattle.nc_flatness.specs.Tokens.{TokenStands}
use Rattle.nc_holds.specs.Held.{slots_span}
use Rattle.nc_flatness.proofs.plans.Copies.{copy_aside}
use Rattle.nc_flatness.proofs.worlds.Outcomes.{gone}
use Rattle.nc_flatness.proofs.books.Owned.{owned_ram}
use Rattle.nc_flat_starts.specs.Books.{SameLoan}
use Rattle.nc_flat_starts.proofs.turning.BookRows.{row_same}
use Rattle.nc_flat_starts.proofs.turning.Frames.{IsPlace, IsOff, On, Off, somewhere, Rewrites, GoesBy, Turns, StaysAside, driver_there, driver_here, loan_there, loan_hart, loan_stays, loan_aside, busy_alike, reads_aside, queued_aside, last_aside, last_here}

-- a place of the coherent pool is one of RAM
pub pool_ram : (sc : Scenario) (f : List ℕ) (w : WorldState) (x : ℕ) → Flatness sc f w → covers (pool_of sc) x ≡ true → x < sc.ram
pool_ram sc f w x flat over =
    let lt : 0 < length w.machine.harts = omega (arith, flat.world.machine.some) in
    let d = flat.world.holds.each 0 lt in
    let pool : (driver_of w 0).fixed.pool ≡ pool_of sc = ap (λ (k : DriverConfig). k.pool) (flat.world.fixed 0 (subst (λ (n : ℕ). 0 < n) flat.world.of_scenario.harts lt)) in
    let high = covers-high (driver_of w 0).fixed.pool x (subst (λ (s : Span). covers s x ≡ true) (sym pool) over) in
    omega (arith, d.driver.fixed.pool_end, flat.world.of_scenario.ram, high)

-- an area beside that is allocated is so behind
allocating_same : (a c : Book) (n : MapId) (o : Option Loan) → SameLoan a c n o → IsAllocating a n o → IsAllocating c n o
allocating_same a c n None same is = is
allocating_same a c n (Some l) same is = (is.0, same.settles ∙ is.1)

may_aside : (w : WorldState) (h : HartNo) (m : MachineState) (went : Went) (o : Owner) → h.0 < length w.drivers → ((k : MapId) → mapping_in o ≡ Some k → StaysAside w h went o k) → MayBeHeld (book_of w) o → MayBeHeld (book_of (gone w h m went)) o
may_aside w h m went (Lending n) lt aside may =
    let a = book_of w in
    let c = book_of (gone w h m went) in
    subst (λ (o : Option Loan). IsAllocating c n o) (sym (loan_aside w h m went (Lending n) n lt (aside n refl))) (allocating_same a c n (a.loan n) (busy_alike w h m went (Lending n) n lt (λ none. none) (aside n refl)) may)
may_aside w h m went (Thread j) lt aside may = may
may_aside w h m went (Passing j g) lt aside may = may
may_aside w h m went (Device n) lt aside may = may
may_aside w h m went (Returning n) lt aside may = may
may_aside w h m went (Synced n) lt aside may = may
may_aside w h m went Pool lt aside may = may

drives_by : (sc : Scenario) (w : WorldState) (h : HartNo) (m : MachineState) (went : Went) → h.0 < length w.drivers → ((g : ℕ) → g < length sc.harts → Drives (driver_of w g)) → Drives went.driver → (g : ℕ) → g < length sc.harts → Drives (driver_of (gone w h m went) g)
drives_by sc w h m went lt all now g there = elim (cases_eq g h.0) [
  | inl own ↦ subst (λ (d : DriverState). Drives d) (sym (ap (λ (j : ℕ). driver_of (gone w h m went) j) own ∙ driver_here w h m went lt)) now
  | inr ne ↦ subst (λ (d : DriverState). Drives d) (sym (driver_there w h m went g ne)) (all g there)
]

-- a place that is the pool's, or a slot's, is of no entry
outside : (lot : Lot) (x : ℕ) (span : Span) → ((i : ℕ) (e : Entry) → IsPlace lot i e x → covers span x ≡ false) → covers span x ≡ true → IsOff lot x
outside lot x span beside over i e is = both_ways (covers span x) (beside i e is) over

tokens_by : (sc : Scenario) (f g : List ℕ) (w : WorldState) (h : HartNo) (m : MachineState) (went : Went) (lot : Lot) (to : MapId → Owner) → Flatness sc f w → h.0 < length w.drivers → GoesBy w h m → Turns sc f g w h m went lot to → (j : ℕ) → j < length sc.harts
    → (driver_of (gone w h m went) j).fixed.light ≡ true → All (TokenStands (driver_of (gone w h m went) j).rest (queue_of m j)) (driver_of (gone w h m went) j).lots
tokens_by sc f g w h m went lot to flat lt by t j there = elim (cases_eq j h.0) [
  | inl own ↦
      subst (λ (d : DriverState). d.fixed.light ≡ true → All (TokenStands d.rest (queue_of m j)) d.lots) (sym (ap (λ (k : ℕ). driver_of (gone w h m went) k) own ∙ driver_here w h m went lt))
      (subst (λ (k : ℕ). went.driver.fixed.light ≡ true → All (TokenStands went.driver.rest (queue_of m k)) went.driver.lots) (sym own) t.tokens)
  | inr ne ↦
      subst (λ (d : DriverState). d.fixed.light ≡ true → All (TokenStands d.rest (queue_of m j)) d.lots) (sym (driver_there w h m went j ne))
      (subst (λ (q : List QueueEntry). (driver_of w j).fixed.light ≡ true → All (TokenStands (driver_of w j).rest q) (driver_of w j).lots) (sym (by.queues j ne)) (flat.bytes.tokens j there))
]

-- ---- a place beside

data IsWay (w : WorldState) (h : HartNo) (went : Went) (along : MapId → Bool) (o : Owner) : Type 0 where
  Stays : ((k : MapId) → mapping_in o ≡ Some k → StaysAside w h went o k) → ((k : MapId) → mapping_in o ≡ Some k → k.hart.0 ≡ h.0 → along k ≡ false) → IsWay w h went along o
  Along : (k : MapId) → mapping_in o ≡ Some k → k.hart.0 ≡ h.0 → along k ≡ true → IsWay w h went along o

way_of : (sc : Scenario) (f g : List ℕ) (w : WorldState) (h : HartNo) (m : MachineState) (went : Went) (lot : Lot) (to : MapId → Owner) → (t : Turns sc f g w h m went lot to) → (x : ℕ) → x < sc.ram → IsOff lot x → (o : Option MapId) → mapping_in (owner_of w x) ≡ o → IsWay w h went t.along (owner_of w x)
way_of sc f g w h m went lot to t x there beside None none =
    let never : (k : MapId) → mapping_in (owner_of w x) ≡ Some k → ⊥ = λ k is. let no : ◌≡◌ {A = Option MapId} None (Some k) = sym none ∙ is in absurd cc in
    Stays (λ k is own. absurd (never k is)) (λ k is own. absurd (never k is))
way_of sc f g w h m went lot to t x there beside (Some n) mapped =
    let same : (k : MapId) → mapping_in (owner_of w x) ≡ Some k → n ≡ k = λ k is. let both : Some n ≡ Some k = sym mapped ∙ is in cc in
    elim (cases_Bool (t.along n)) [
      | inr off ↦
          let stay : (k : MapId) → mapping_in (owner_of w x) ≡ Some k → t.along k ≡ false = λ k is. ap t.along (sym (same k is)) ∙ off in
          Stays (λ k is own. let r = t.others x k there beside is own in (r.0, r.1 (stay k is))) (λ k is own. stay k is)
      | inl along ↦ elim (cases_eq n.hart.0 h.0) [
        | inl own ↦ Along n mapped own along
        | inr ne ↦
            let far : (k : MapId) → mapping_in (owner_of w x) ≡ Some k → k.hart.0 ≡ h.0 → ⊥ = λ k is own. ne (ap (λ (j : MapId). j.hart.0) (same k is) ∙ own) in
            Stays (λ k is own. absurd (far k is own)) (λ k is own. absurd (far k is own))
      ]
    ]

-- an area alone may be held
along_unheld : (w : WorldState) (h : HartNo) (k : MapId) → k.hart.0 ≡ h.0 → ((l : Loan) → loan_of (driver_of w h.0) k ≡ Some l → l.area ≡ false) → (o : Owner) → mapping_in o ≡ Some k → MayBeHeld (book_of w) o → ⊥
along_unheld w h k own plain (Lending n) is may =
    let same : n ≡ k = cc in
    by_loan ((book_of w).loan n) refl may
  where
    by_loan : (q : Option Loan) → (book_of w).loan n ≡ q → IsAllocating (book_of w) n q → ⊥
    by_loan None known may = may
    by_loan (Some l) known may =
        let at : n.hart.0 ≡ h.0 = ap (λ (j : MapId). j.hart.0) (let same : n ≡ k = cc in same) ∙ own in
        let here : loan_of (driver_of w h.0) k ≡ Some l = ap (λ (j : MapId). loan_of (driver_of w h.0) j) (let same : k ≡ n = cc in same) ∙ ap (λ (g : ℕ). loan_of (driver_of w g) n) (sym at) ∙ known in
        both_ways l.area (plain l here) may.0
along_unheld w h k own plain (Thread j) is may = may
along_unheld w h k own plain (Passing j g) is may = may
along_unheld w h k own plain (Device n) is may = may
along_unheld w h k own plain (Returning n) is may = may
along_unheld w h k own plain (Synced n) is may = may
along_unheld w h k own plain Pool is may = may

-- no byte of the coherent pool is one of a slot
pool_slots : (sc : Scenario) (f : List ℕ) (w : WorldState) (x : ℕ) → Flatness sc f w → covers (pool_of sc) x ≡ true → covers (slots_of sc) x ≡ true → ⊥
pool_slots sc f w x flat over slot =
    let lt : 0 < length w.machine.harts = omega (arith, flat.world.machine.some) in
    let d = flat.world.holds.each 0 lt in
    let same = flat.world.fixed 0 (subst (λ (n : ℕ). 0 < n) flat.world.of_scenario.harts lt) in
    let pool : (driver_of w 0).fixed.pool ≡ pool_of sc = ap (λ (k : DriverConfig). k.pool) same in
    let slots : slots_span (driver_of w 0).fixed ≡ slots_of sc = ap (λ (k : DriverConfig). slots_span k) same in
    d.regions.slots_off_pool x (subst (λ (s : Span). covers s x ≡ true) (sym slots) slot) (subst (λ (s : Span). covers s x ≡ true) (sym pool) over)

-- ---- copies of the other harts

-- a place of the lot is no other hart's
own_hart : (sc : Scenario) (f g : List ℕ) (w : WorldState) (h : HartNo) (m : MachineState) (went : Went) (lot : Lot) (to : MapId → Owner) → Turns sc f g w h m went lot to → (i : ℕ) (e : Entry) (x j : ℕ) → IsPlace lot i e x → (o : Owner) → owner_of w x ≡ o → IsItsOwn j o → j ≡ h.0
own_hart sc f g w h m went lot to t i e x j place (Thread k) is its = sym its ∙ t.threads i e x k place is
own_hart sc f g w h m went lot to t i e x j place (Lending n) is its = sym its.0 ∙ t.mine i e x n place (ap mapping_in is)
own_hart sc f g w h m went lot to t i e x j place (Device n) is its = sym its.0 ∙ t.mine i e x n place (ap mapping_in is)
own_hart sc f g w h m went lot to t i e x j place (Returning n) is its = sym its.0 ∙ t.mine i e x n place (ap mapping_in is)
own_hart sc f g w h m went lot to t i e x j place (Passing k l) is its = absurd its
own_hart sc f g w h m went lot to t i e x j place (Synced n) is its = sym its.0 ∙ t.mine i e x n place (ap mapping_in is)
own_hart sc f g w h m went lot to t i e x j place Pool is its = absurd its

copy_there : (sc : Scenario) (f g : List ℕ) (w : WorldState) (h : HartNo) (m : MachineState) (went : Went) (lot : Lot) (to : MapId → Owner) → Flatness sc f w → Rewrites sc f g w h lot → GoesBy w h m → Turns sc f g w h m went lot to → (j : ℕ) → j < length sc.harts → j ≢ h.0 → CopyStands sc g (gone w h m went) j
copy_there sc f g w h m went lot to flat writes by t j there ne = copy_aside sc f g w (gone w h m went) j flat there (record {
  driver = driver_there w h m went j ne;
  channels = λ c granted. by.channels c (hart j) granted ne;
  registers = ap registers (by.queues j ne);
  owned = λ x its. elim (somewhere lot x) [
    | On i e place ↦ absurd (ne (own_hart sc f g w h m went lot to t i e x j place (owner_of w x) refl its))
    | Off beside ↦ subst (λ (o : Owner). IsItsOwn j o) (sym (t.off x beside)) its
  ];
  bytes = λ x n is own end. elim (somewhere lot x) [
    | On i e place ↦ absurd (ne (sym own ∙ t.mine i e x n place is))
    | Off beside ↦ writes.beside x (owned_ram sc f w x n flat is) beside
  ];
})

pub turn_bytes : (sc : Scenario) (f g : List ℕ) (w : WorldState) (h : HartNo) (m : MachineState) (went : Went) (lot : Lot) (to : MapId → Owner) → Flatness sc f w → h.0 < length w.drivers → Rewrites sc f g w h lot → GoesBy w h m → Turns sc f g w h m went lot to
    → BytesStand sc g (gone w h m went)
turn_bytes sc f g w h m went lot to flat lt writes by t =
    let v = gone w h m went in
    let s = flat.bytes in
    let stays : (x : ℕ) → x < sc.ram → IsOff lot x → (k : MapId) → mapping_in (owner_of w x) ≡ Some k → (book_of v).loan k ≡ (book_of w).loan k = λ x there beside k is. loan_stays w h m went k lt (λ own. (t.others x k there beside is own).0) in
    record {
      flat_size = writes.size ∙ s.flat_size;
      drives = drives_by sc w h m went lt s.drives t.drives;
      placed = λ x k there is. elim (somewhere lot x) [
        | On i e place ↦ t.lies i e x k there place (sym (ap mapping_in (t.on i e x there place)) ∙ is)
        | Off beside ↦
            let was = sym (ap mapping_in (t.off x beside)) ∙ is in
            subst (λ (o : Option Loan). LiesIn o x) (sym (stays x there beside k was)) (s.placed x k there was)
      ];
      pooled = λ x over. elim (somewhere lot x) [
        | On i e place ↦ subst (λ (o : Owner). IsPooled (book_of v) o x) (sym (t.on i e x (pool_ram sc f w x flat over) place)) (t.pooled i e x place over)
        | Off beside ↦ elim (s.pooled x over) [
          | inl nobody ↦ inl (t.off x beside ∙ nobody)
          | inr is ↦
              let lent : (book_of v).loan is.id ≡ Some is.loan = elim (cases_eq is.id.hart.0 h.0) [
                | inl own ↦ loan_hart w h m went is.id lt own ∙ t.areas x is.id is.loan beside own is.lent is.area is.on
                | inr ne ↦ loan_there w h m went is.id ne ∙ is.lent
              ] in
              inr (record { id = is.id; loan = is.loan; lent = lent; area = is.area; on = is.on })
        ]
      ];
      slotted = λ x over. t.off x (outside lot x (slots_of sc) (λ i e is. t.unslotted i e x is) over) ∙ s.slotted x over;
      rows = λ x there unslotted. elim (somewhere lot x) [
        | On i e place ↦ subst (λ (o : Owner). Row (book_of v) o (byte g x) m x) (sym (t.on i e x there place)) (t.row i e x there place (s.rows x there unslotted))
        | Off beside ↦
            subst (λ (b : ℕ). Row (book_of v) (owner_of v x) b m x) (sym (writes.beside x there beside))
            (subst (λ (o : Owner). Row (book_of v) o (byte f x) m x) (sym (t.off x beside))
            (elim (way_of sc f g w h m went lot to t x there beside (mapping_in (owner_of w x)) refl) [
              | Stays aside off ↦
                  row_same (book_of w) (book_of v) (owner_of w x) (byte f x) m x (reads_aside w h m went (owner_of w x) x lt t.fixed t.silent aside) (t.passes x (byte f x) there unslotted beside off (s.rows x there unslotted))
              | Along k is own along ↦ (t.goes_along x k there unslotted beside is own along).row (s.rows x there unslotted)
            ]))
      ];
      calm = t.calm;
      queued = λ j. elim (cases_eq j h.0) [
        | inl own ↦ subst (λ (k : ℕ). All (IsQueued (book_of v) (owner_of v) m.pool m.size k) (queue_of m k)) (sym own) t.queue
        | inr ne ↦
            subst (λ (q : List QueueEntry). All (IsQueued (book_of v) (owner_of v) m.pool m.size j) q) (sym (by.queues j ne))
            (subst (λ (k : ℕ). All (IsQueued (book_of v) (owner_of v) m.pool k j) (queue_of w.machine j)) (sym by.size)
            (subst (λ (p : Span). All (IsQueued (book_of v) (owner_of v) p w.machine.size j) (queue_of w.machine j)) (sym by.pool)
            (all_to (IsQueued (book_of w) (owner_of w) w.machine.pool w.machine.size j) (IsQueued (book_of v) (owner_of v) w.machine.pool w.machine.size j) (queue_of w.machine j) (s.queued j)
            (λ e is. queued_aside w h m went j w.machine.pool w.machine.size (owner_of v) e ne
            (λ x k was other. elim (somewhere lot x) [
              | On i d place ↦ absurd (other (t.mine i d x k place was))
              | Off beside ↦ t.off x beside
            ]) is))))
      ];
      unfenced = λ j. elim (cases_eq j h.0) [
        | inl own ↦ ap (λ (k : ℕ). list_any is_full (queue_of m k)) own ∙ by.unfenced
        | inr ne ↦ ap (list_any is_full) (by.queues j ne) ∙ s.unfenced j
      ];
      uncached = λ x over.
          let was = subst (λ (p : Span). covers p x ≡ true) by.pool over in
          let pooled = subst (λ (p : Span). covers p x ≡ true) flat.world.of_scenario.pool was in
          let there = pool_ram sc f w x flat pooled in
          elim (somewhere lot x) [
            | On i e place ↦ subst (λ (o : Owner). NotHeld m x ⊎ MayBeHeld (book_of v) o) (sym (t.on i e x there place)) (t.free i e x place pooled)
            | Off beside ↦ elim (s.uncached x was) [
              | inl free ↦ inl (by.free x was free)
              | inr may ↦
                  inr (subst (λ (o : Owner). MayBeHeld (book_of v) o) (sym (t.off x beside))
                  (elim (way_of sc f g w h m went lot to t x there beside (mapping_in (owner_of w x)) refl) [
                    | Stays aside off ↦ may_aside w h m went (owner_of w x) lt aside may
                    | Along k is own along ↦
                        let unslotted : covers (slots_of sc) x ≡ false = false_from_ne_true (covers (slots_of sc) x) (λ slot. pool_slots sc f w x flat pooled slot) in
                        absurd (along_unheld w h k own (t.goes_along x k there unslotted beside is own along).plain (owner_of w x) is may)
                  ]))
            ]
          ];
      lasts = λ j. elim (cases_eq j h.0) [
        | inl own ↦ subst (λ (k : ℕ). LastIs (book_of v) g k (hart_of m k).last (rest_last ((book_of v).rest k))) (sym own) (last_here w h m went g lt t.lasting)
        | inr ne ↦
            subst (λ (bytes : List ℕ). LastIs (book_of v) g j bytes (rest_last ((book_of v).rest j))) (sym (by.lasts j ne))
            (last_aside w h m went g j (hart_of w.machine j).last ne (writes.pieces j ne (s.lasts j)))
      ];
      tokens = λ j there light. tokens_by sc f g w h m went lot to flat lt by t j there light;
      copying = λ j there. elim (cases_eq j h.0) [
        | inl own ↦ subst (λ (k : ℕ). CopyStands sc g v k) (sym own) t.copying
        | inr ne ↦ copy_there sc f g w h m went lot to flat writes by t j there ne
      ];
    }
