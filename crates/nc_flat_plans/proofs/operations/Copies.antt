-- A piece of a copy is stored: into the slot of an entry of the lot in hand, or into its buffer.
use Rattle.std.specs.Prelude.{Some, None, ◌/◌, ◌-◌, ◌==◌, ◌&&◌, ◌||◌, Bool, true, false, slice_get}
use Rattle.std.proofs.Common.{◌≡◌, ◌⊎◌, ℕ, ◌+◌, ◌<◌, List, refl, sym, ap, ◌∙◌, inl, inr, subst, arith}
use Rattle.std.proofs.lemmas.Bool.{both_ways, cond-true, cond-false, eqb-true, false_from_ne_true}
use Rattle.nc_num.specs.Memory.{byte}
use Rattle.nc_num.specs.Places.{covers}
use Rattle.nc_num.proofs.MemoryLaws.{byte-span}
use Rattle.nc_num.specs.declared.names.HartNo.{HartNo}
use Rattle.nc_num.specs.declared.names.MapId.{MapId}
use Rattle.nc_num.specs.declared.names.MemType.TheVariants.{Pma}
use Rattle.nc_num.specs.declared.places.Span.{Span}
use Rattle.nc_plan.specs.Parts.{comes_back}
use Rattle.nc_queue.specs.Entries.{entry_gives, has_op, is_zero}
use Rattle.nc_queue.specs.declared.entry.Entry.{Entry as QueueEntry}
use Rattle.nc_queue.specs.declared.entry.Entry.TheVariants as entries
use Rattle.nc_model.proofs.Faults.{covers-low, covers-high}
use Rattle.nc_model.specs.declared.owners.Owner.{Owner}
use Rattle.nc_scen.specs.Regions.{pool_of, slots_of}
use Rattle.nc_scen.specs.declared.scenario.Scenario.{Scenario}
use Rattle.nc_sg.specs.declared.list.Entry.{Entry}
use Rattle.nc_rules.specs.declared.lots.Lot.{Lot}
use Rattle.nc_rules.specs.Machine.{MachineState}
use Rattle.nc_rules.specs.Turns.{is_area}
use Rattle.nc_rules.specs.EventTouches.{owner_of}
use Rattle.nc_rules.specs.World.{WorldState}
use Rattle.nc_rows.specs.Rows.{Loan, device_place}
use Rattle.nc_rows.specs.Parts.{IsPiece, rest_last}
use Rattle.nc_row_issues.specs.Laws.{NoByte, NoBlock}
use Rattle.nc_flatness.specs.Books.{is_entry_of, book_of, mapping_in}
use Rattle.nc_flatness.specs.Flatness.{Flatness}
use Rattle.nc_flatness.proofs.books.Loans.{own_entry, get_below}
use Rattle.nc_flatness.proofs.books.Owned.{mapped, owned_ram}
use Rattle.nc_flatness.proofs.books.WholeBlocks.{mapped_block}
use Rattle.nc_flatness.proofs.books.Seen.{seen, place_ways, mapped_unslotted, seen_lent, seen_ways, slotted_in, slot_block, seen_one, seen_whole}
use Rattle.nc_flatness.proofs.plans.Lasts.{last_lent}
use Rattle.nc_flat_starts.proofs.turning.Frames.{IsPlace, IsOff}
use Rattle.nc_flat_plans.proofs.places.Passes.{NoWhole, IsLentTo, IsClear}
use Rattle.nc_flat_plans.proofs.areas.PoolPlaces.{lent_pooled, slot_unpooled, pool_apart}
use Rattle.nc_flat_plans.proofs.places.Places.{IsUnder, lent_side, its_id, its_place, mapping_of, in_ram, unslotted, unpooled, seen_its, ways, beside, far_entry}

-- the store of a piece
abbrev pub piece_of : Span → List ℕ → QueueEntry
piece_of dst bytes = entries.Store dst bytes Pma

pub no_byte : (m : MachineState) (dst : Span) (bytes : List ℕ) (z : ℕ) → covers dst z ≡ false → NoByte m (piece_of dst bytes) z
no_byte m dst bytes z off = cond-false (covers dst z) (Some (byte bytes (z - dst.at))) None off

pub has_byte : (m : MachineState) (dst : Span) (bytes : List ℕ) (z v : ℕ) → covers dst z ≡ true → byte bytes (z - dst.at) ≡ v → entry_gives m.size (piece_of dst bytes) z ≡ Some v
has_byte m dst bytes z v on is = cond-true (covers dst z) (Some (byte bytes (z - dst.at))) None on ∙ ap (λ (b : ℕ). Some b) is

no_block : (m : MachineState) (dst : Span) (bytes : List ℕ) (z : ℕ) → (dst.at / m.size ≡ z / m.size → ⊥) → NoBlock m (piece_of dst bytes) z
no_block m dst bytes z far =
    ap (λ (t : Bool). (true && t) || has_op is_zero (z / m.size) (piece_of dst bytes)) (false_from_ne_true (dst.at / m.size == z / m.size) (λ is. far (eqb-true (dst.at / m.size) (z / m.size) is)))

-- beside the coherent pool it gives no byte of a block there
piece_whole : (sc : Scenario) (f : List ℕ) (w : WorldState) (dst : Span) (bytes : List ℕ) (x : ℕ) → Flatness sc f w → covers (pool_of sc) x ≡ true → covers (pool_of sc) dst.at ≡ false → NoWhole w.machine (piece_of dst bytes) x
piece_whole sc f w dst bytes x flat over off = (no_block w.machine dst bytes x (λ met. pool_apart sc f w x dst.at flat over off met), refl)

-- ---- the byte that it stores

-- that of flat memory at the place, or at the place that is seen there
pub piece_byte : (sc : Scenario) (f : List ℕ) (w : WorldState) (h : ℕ) (dst : Span) (bytes : List ℕ) (z x : ℕ) → Flatness sc f w → rest_last ((book_of w).rest h) ≡ Some dst → IsPiece (book_of w) f h dst bytes → covers dst z ≡ true
    → x < sc.ram → covers (slots_of sc) x ≡ false → (z ≡ x) ⊎ (z ≡ seen w x) → byte bytes (z - dst.at) ≡ byte f x
piece_byte sc f w h dst bytes z x flat is p on there off way =
    let low = covers-low dst z on in
    let high = covers-high dst z on in
    let i = z - dst.at in
    let few : i < dst.len = omega (arith, low, high) in
    let from = p.from + i in
    let owner = last_lent sc f w h dst bytes flat is p from (omega arith) (omega (arith, few)) in
    let mapped : mapping_in (owner_of w from) ≡ Some p.id = elim owner [ inl lending ↦ ap mapping_in lending | inr back ↦ ap mapping_in back ] in
    let from_ram = owned_ram sc f w from p.id flat mapped in
    let from_off = mapped_unslotted sc f w p.id from flat mapped in
    let way_lent : IsLentTo p.id (owner_of w from) = elim owner [ inl lending ↦ inl lending | inr back ↦ inr (inr back) ] in
    let at : seen w from ≡ device_place p.loan from = seen_lent w p.id p.loan from p.lent way_lent in
    let same : from ≡ x = elim p.here [
      | inl here ↦
          let z_is : z ≡ from = omega (arith, here, low) in
          elim way [
            | inl place ↦ sym z_is ∙ place
            | inr sees ↦ elim (seen_ways sc f w x flat) [
              | inl plain ↦ sym z_is ∙ sees ∙ plain
              | inr slot ↦ absurd (both_ways (covers (slots_of sc) from) from_off (subst (λ (y : ℕ). covers (slots_of sc) y ≡ true) (sym sees ∙ z_is) (slotted_in sc f w x flat slot)))
            ]
          ]
      | inr here ↦
          let z_is : z ≡ seen w from = omega (arith, here, low, at, p.inside.0) in
          elim way [
            | inl place ↦ elim (seen_ways sc f w from flat) [
              | inl plain ↦ sym plain ∙ sym z_is ∙ place
              | inr slot ↦ absurd (both_ways (covers (slots_of sc) x) off (subst (λ (y : ℕ). covers (slots_of sc) y ≡ true) (sym z_is ∙ place) (slotted_in sc f w from flat slot)))
            ]
            | inr sees ↦ seen_one sc f w from x flat from_ram there from_off off (sym z_is ∙ sees)
          ]
    ] in
    ap (λ (bs : List ℕ). byte bs i) p.bytes_are ∙ byte-span f p.from dst.len i few ∙ ap (λ (y : ℕ). byte f y) same

-- ---- where it stores

-- the span lies in the slot of entry i, or in its buffer's range
pub record IsInSlot (w : WorldState) (h : HartNo) (lot : Lot) (i : ℕ) (e : Entry) (dst : Span) : Type 0 where
  pub entry : slice_get lot.list.entries i ≡ Some e
  pub bounced : e.bounced ≡ true
  pub some : covers dst dst.at ≡ true
  pub place : (z : ℕ) → covers dst z ≡ true → (x : ℕ) × IsPlace lot i e x × (its_place w h lot i e x ≡ z)

pub record IsInBuffer (lot : Lot) (i : ℕ) (e : Entry) (dst : Span) : Type 0 where
  pub bounced : e.bounced ≡ true
  pub some : covers dst dst.at ≡ true
  pub place : (z : ℕ) → covers dst z ≡ true → IsPlace lot i e z

pub in_slots : (sc : Scenario) (f : List ℕ) (w : WorldState) (h : HartNo) (lot : Lot) (i : ℕ) (e : Entry) (dst : Span) (z : ℕ) → IsUnder sc f w h lot → IsInSlot w h lot i e dst → covers dst z ≡ true → covers (slots_of sc) z ≡ true
in_slots sc f w h lot i e dst z u d on =
    let p = d.place z on in
    elim (ways sc f w h lot i e p.0 u p.1) [
      | inl direct ↦ absurd (both_ways e.bounced direct.1 d.bounced)
      | inr slot ↦ subst (λ (y : ℕ). covers (slots_of sc) y ≡ true) p.2 slot.0
    ]

-- ---- the places beside let it pass

-- a place beside has no owner of the lot
pub not_its : (sc : Scenario) (f : List ℕ) (w : WorldState) (h : HartNo) (lot : Lot) (i : ℕ) (e : Entry) (x y : ℕ) → IsUnder sc f w h lot → x < sc.ram → IsOff lot x → IsPlace lot i e y → owner_of w y ≡ owner_of w x → ⊥
not_its sc f w h lot i e x y u there off p same =
    let n = its_id h lot i in
    let is : mapping_in (owner_of w x) ≡ Some n = sym (ap mapping_in same) ∙ mapping_of sc f w h lot i e y u p in
    both_ways (is_entry_of n lot) (far_entry sc f w h lot n x u (beside sc f w h lot n x u there off is refl)) (own_entry h.0 lot i (get_below lot.list.entries i e p.entry) (lent_side lot u.moves))

lent_mapping : (n : MapId) (o : Owner) → IsLentTo n o → mapping_in o ≡ Some n
lent_mapping n o (inl is) = ap mapping_in is
lent_mapping n o (inr (inl is)) = ap mapping_in is
lent_mapping n o (inr (inr is)) = ap mapping_in is

pub none_there : (b : Bool) → (b ≡ true → ⊥) → b ≡ false
none_there true far = absurd (far refl)
none_there false far = refl

pub slot_clear : (sc : Scenario) (f : List ℕ) (w : WorldState) (h : HartNo) (lot : Lot) (i : ℕ) (e : Entry) (dst : Span) (bytes : List ℕ) (x : ℕ) → IsUnder sc f w h lot → IsInSlot w h lot i e dst → x < sc.ram → covers (slots_of sc) x ≡ false → IsOff lot x
    → IsClear (book_of w) (owner_of w x) w.machine h.0 (piece_of dst bytes) x
slot_clear sc f w h lot i e dst bytes x u d there off beyond =
    let m = w.machine in
    record {
      byte = no_byte m dst bytes x (none_there (covers dst x) (λ on. both_ways (covers (slots_of sc) x) off (in_slots sc f w h lot i e dst x u d on)));
      device = no_byte m dst bytes (seen w x) (none_there (covers dst (seen w x)) (λ on.
          let p = d.place (seen w x) on in
          let same : p.0 ≡ x = seen_one sc f w p.0 x u.flat (in_ram sc f w h lot i e p.0 u p.1) there (unslotted sc f w h lot i e p.0 u p.1) off (seen_its sc f w h lot i e p.0 u p.1 ∙ p.2) in
          beyond i e (subst (λ (y : ℕ). IsPlace lot i e y) same p.1)));
      block = λ n l lent known area back. no_block m dst bytes (device_place l x) (λ meets.
          let p = d.place dst.at d.some in
          let here : seen w x ≡ device_place l x = seen_lent w n l x known lent in
          let blocks : seen w x / m.size ≡ seen w p.0 / m.size =
          ap (λ (y : ℕ). y / m.size) here ∙ sym meets ∙ ap (λ (y : ℕ). y / m.size) (sym (seen_its sc f w h lot i e p.0 u p.1 ∙ p.2)) in
          let same = seen_whole sc f w n l x p.0 u.flat there (in_ram sc f w h lot i e p.0 u p.1) (lent_mapping n (owner_of w x) lent) known back here (unslotted sc f w h lot i e p.0 u p.1) blocks in
          not_its sc f w h lot i e x p.0 u there beyond p.1 same);
      area = λ n l owner known area. piece_whole sc f w dst bytes x u.flat (lent_pooled sc f w n l x u.flat there owner known area) (slot_unpooled sc f w dst.at u.flat (in_slots sc f w h lot i e dst dst.at u d d.some));
      token = λ n owner own. refl;
    }

pub buffer_clear : (sc : Scenario) (f : List ℕ) (w : WorldState) (h : HartNo) (lot : Lot) (i : ℕ) (e : Entry) (dst : Span) (bytes : List ℕ) (x : ℕ) → IsUnder sc f w h lot → is_area lot.kind ≡ false → IsInBuffer lot i e dst → x < sc.ram → covers (slots_of sc) x ≡ false → IsOff lot x
    → IsClear (book_of w) (owner_of w x) w.machine h.0 (piece_of dst bytes) x
buffer_clear sc f w h lot i e dst bytes x u plain d there off beyond =
    let m = w.machine in
    record {
      byte = no_byte m dst bytes x (none_there (covers dst x) (λ on. beyond i e (d.place x on)));
      device = no_byte m dst bytes (seen w x) (none_there (covers dst (seen w x)) (λ on.
          let p = d.place (seen w x) on in
          elim (seen_ways sc f w x u.flat) [
            | inl plain ↦ beyond i e (subst (λ (y : ℕ). IsPlace lot i e y) plain p)
            | inr slot ↦ both_ways (covers (slots_of sc) (seen w x)) (unslotted sc f w h lot i e (seen w x) u p) (slotted_in sc f w x u.flat slot)
          ]));
      block = λ n l lent known area back. no_block m dst bytes (device_place l x) (λ meets.
          let p = d.place dst.at d.some in
          let at = mapped sc f w n x u.flat there (lent_mapping n (owner_of w x) lent) in
          let loan : at.loan ≡ l = let both = sym at.known ∙ known in cc in
          elim (place_ways sc f w n x u.flat at) [
            | inl direct ↦
                let y_is : device_place l x ≡ x = sym (ap (λ (k : Loan). device_place k x) loan) ∙ direct.0 in
                let same = mapped_block sc f w n x dst.at u.flat at direct.1 (ap (λ (k : Loan). comes_back k.grant.dir) loan ∙ back) (meets ∙ ap (λ (y : ℕ). y / m.size) y_is) in
                not_its sc f w h lot i e x dst.at u there beyond p same.1
            | inr slot ↦
                let over : covers (slots_of sc) (device_place l x) ≡ true = sym (ap (λ (k : Loan). covers (slots_of sc) (device_place k x)) loan) ∙ slot.0 in
                both_ways (covers (slots_of sc) dst.at) (unslotted sc f w h lot i e dst.at u p) (slot_block sc f w (device_place l x) dst.at u.flat over (sym meets))
          ]);
      area = λ n l owner known area. piece_whole sc f w dst bytes x u.flat (lent_pooled sc f w n l x u.flat there owner known area) (unpooled sc f w h lot i e dst.at u plain (d.place dst.at d.some));
      token = λ n owner own. refl;
    }

-- ---- at the places of the lot itself

-- one entry has a place
one_entry : (sc : Scenario) (f : List ℕ) (w : WorldState) (h : HartNo) (lot : Lot) (i j : ℕ) (d e : Entry) (x : ℕ) → IsUnder sc f w h lot → IsPlace lot i d x → IsPlace lot j e x → d ≡ e
one_entry sc f w h lot i j d e x u p q =
    let a = mapping_of sc f w h lot i d x u p in
    let b = mapping_of sc f w h lot j e x u q in
    let ids : its_id h lot i ≡ its_id h lot j = let both = sym a ∙ b in cc in
    let entry : lot.id.first + i ≡ lot.id.first + j = ap (λ (n : MapId). n.entry) ids in
    let number : i ≡ j = omega (arith, entry) in
    let get : slice_get lot.list.entries j ≡ Some d = subst (λ (k : ℕ). slice_get lot.list.entries k ≡ Some d) number p.entry in
    let both : Some d ≡ Some e = sym get ∙ q.entry in
    cc

-- a piece that comes out gives no byte where the channel sees one
pub buffer_device : (sc : Scenario) (f : List ℕ) (w : WorldState) (h : HartNo) (lot : Lot) (i j : ℕ) (d e : Entry) (dst : Span) (bytes : List ℕ) (x : ℕ) → IsUnder sc f w h lot → IsInBuffer lot i d dst → IsPlace lot j e x
    → NoByte w.machine (piece_of dst bytes) (its_place w h lot j e x)
buffer_device sc f w h lot i j d e dst bytes x u is p =
    let y = its_place w h lot j e x in
    no_byte w.machine dst bytes y (none_there (covers dst y) (λ on.
    let q = is.place y on in
    elim (ways sc f w h lot j e x u p) [
      | inl direct ↦
          let here : IsPlace lot i d x = subst (λ (z : ℕ). IsPlace lot i d z) direct.0 q in
          both_ways e.bounced direct.1 (subst (λ (c : Entry). c.bounced ≡ true) (one_entry sc f w h lot i j d e x u here p) is.bounced)
      | inr slot ↦ both_ways (covers (slots_of sc) y) (unslotted sc f w h lot i d y u q) slot.0
    ]))

-- one that goes in gives none of the buffer
pub slot_buffer : (sc : Scenario) (f : List ℕ) (w : WorldState) (h : HartNo) (lot : Lot) (i j : ℕ) (d e : Entry) (dst : Span) (bytes : List ℕ) (x : ℕ) → IsUnder sc f w h lot → IsInSlot w h lot i d dst → IsPlace lot j e x → NoByte w.machine (piece_of dst bytes) x
slot_buffer sc f w h lot i j d e dst bytes x u is p =
    no_byte w.machine dst bytes x (none_there (covers dst x) (λ on. both_ways (covers (slots_of sc) x) (unslotted sc f w h lot j e x u p) (in_slots sc f w h lot i d dst x u is on)))
