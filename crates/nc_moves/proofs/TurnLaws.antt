-- The laws of turns lot by lot.
use Rattle.std.proofs.Common.{◌≡◌, ℕ, Bool, true, false, List, [], ◌∷◌, flat_map, refl, sym, ap, subst, ◌∙◌, Option, Some, None, ◌⊎◌, inl, inr}
use Rattle.std.specs.Prelude.{if◌then◌else◌, cond, not, filter, filter_map, option_map}
use Rattle.std.specs.List.{cons_option}
use Rattle.nc_num.specs.declared.names.HartNo.{HartNo}
use Rattle.nc_rules.specs.declared.lots.Lot.{Lot}
use Rattle.nc_rules.specs.declared.lots.LotId.{LotId}
use Rattle.nc_rules.specs.declared.lots.Side.{Side}
use Rattle.nc_rules.specs.declared.lots.Side.TheVariants as sides
use Rattle.nc_rules.specs.declared.steps.Turn.{Turn}
use Rattle.nc_rules.specs.declared.steps.Turn.TheVariants as turns
use Rattle.nc_rules.specs.Lots.{is_lot, slots_held}
use Rattle.nc_rules.specs.Turns.{Moved, moved, to_side, to_end, granted, ids, pages_taken, pages_given, page_moves, those, with_side, lots_after}
use Rattle.nc_moves.specs.Turned.{nothing, joined, of_turn, is_of, after, side_after, lent_lot, ended_lot, of_lot, of_one, of_lots}
use Rattle.nc_moves.proofs.MoveLaws.{joined-nothing, joined_assoc}

-- ---- one lot behind a turn

ends_by : (b : Bool) (lot : Lot) (lots rest : List Lot) → lots ≡ rest → cond (not b) (lot ∷ lots) lots ≡ cons_option (if b then None else Some lot) rest
ends_by true lot lots rest e = e
ends_by false lot lots rest e = ap (λ xs. lot ∷ xs) e

-- the lots behind a turn, lot by lot
pub after_all : (t : Turn) (lots : List Lot) → lots_after t lots ≡ filter_map (after t) lots
after_all turns.Stay [] = refl
after_all turns.Stay (lot ∷ lots) = ap (λ xs. lot ∷ xs) (after_all turns.Stay lots)
after_all (turns.Pass range to) [] = refl
after_all (turns.Pass range to) (lot ∷ lots) = ap (λ xs. lot ∷ xs) (after_all (turns.Pass range to) lots)
after_all (turns.Own range) [] = refl
after_all (turns.Own range) (lot ∷ lots) = ap (λ xs. lot ∷ xs) (after_all (turns.Own range) lots)
after_all (turns.Lend id) [] = refl
after_all (turns.Lend id) (lot ∷ lots) = ap (λ xs. with_side sides.Lending id lot ∷ xs) (after_all (turns.Lend id) lots)
after_all (turns.Give id) [] = refl
after_all (turns.Give id) (lot ∷ lots) = ap (λ xs. with_side sides.Device id lot ∷ xs) (after_all (turns.Give id) lots)
after_all (turns.Return id) [] = refl
after_all (turns.Return id) (lot ∷ lots) = ap (λ xs. with_side sides.Returning id lot ∷ xs) (after_all (turns.Return id) lots)
after_all (turns.Sync id) [] = refl
after_all (turns.Sync id) (lot ∷ lots) = ap (λ xs. with_side sides.Synced id lot ∷ xs) (after_all (turns.Sync id) lots)
after_all (turns.Settle id) [] = refl
after_all (turns.Settle id) (lot ∷ lots) = ap (λ xs. with_side sides.Own id lot ∷ xs) (after_all (turns.Settle id) lots)
after_all (turns.End id) [] = refl
after_all (turns.End id) (lot ∷ lots) = ends_by (is_lot id lot) lot (filter (λ l. not (is_lot id l)) lots) (filter_map (after (turns.End id)) lots) (after_all (turns.End id) lots)

side_by : (b : Bool) (side : Side) (lot : Lot) → (if b then record lot { side = side } else lot) ≡ record lot { side = if b then side else lot.side }
side_by true side lot = refl
side_by false side lot = refl

gone_by : (b : Bool) (lot : Lot) → (if b then None else Some lot) ≡ option_map (λ s. record lot { side = s }) (if b then None else Some lot.side)
gone_by true lot = refl
gone_by false lot = refl

-- a turn changes no more of a lot than its side
pub after_side : (t : Turn) (lot : Lot) → after t lot ≡ option_map (λ s. record lot { side = s }) (side_after t lot)
after_side turns.Stay lot = refl
after_side (turns.Pass range to) lot = refl
after_side (turns.Own range) lot = refl
after_side (turns.Lend id) lot = ap (λ l. Some l) (side_by (is_lot id lot) sides.Lending lot)
after_side (turns.Give id) lot = ap (λ l. Some l) (side_by (is_lot id lot) sides.Device lot)
after_side (turns.Return id) lot = ap (λ l. Some l) (side_by (is_lot id lot) sides.Returning lot)
after_side (turns.Sync id) lot = ap (λ l. Some l) (side_by (is_lot id lot) sides.Synced lot)
after_side (turns.Settle id) lot = ap (λ l. Some l) (side_by (is_lot id lot) sides.Own lot)
after_side (turns.End id) lot = gone_by (is_lot id lot) lot

of_same : (t : Turn) (lot : Lot) (s : Side) → is_of t (record lot { side = s }) ≡ is_of t lot
of_same turns.Stay lot s = refl
of_same (turns.Pass range to) lot s = refl
of_same (turns.Own range) lot s = refl
of_same (turns.Lend id) lot s = refl
of_same (turns.Give id) lot s = refl
of_same (turns.Return id) lot s = refl
of_same (turns.Sync id) lot s = refl
of_same (turns.Settle id) lot s = refl
of_same (turns.End id) lot s = refl

-- what the second turn moves of a lot, by the side that the first one left
one_as : (me : HartNo) (slots_at : ℕ) (t first : Turn) (lot : Lot) (s : Side) → side_after first lot ≡ Some s
    → of_one me slots_at t (after first lot) ≡ (if is_of t lot then of_lot me slots_at (record lot { side = s }) t else nothing)
one_as me slots_at t first lot s e =
    ap (of_one me slots_at t) (after_side first lot ∙ ap (option_map (λ r. record lot { side = r })) e)
    ∙ ap (λ b. if b then of_lot me slots_at (record lot { side = s }) t else nothing) (of_same t lot s)

pub one_side : (me : HartNo) (slots_at : ℕ) (t first : Turn) (lot : Lot) (s : Side) → side_after first lot ≡ Some s → is_of t lot ≡ true
    → of_one me slots_at t (after first lot) ≡ of_lot me slots_at (record lot { side = s }) t
one_side me slots_at t first lot s e is = one_as me slots_at t first lot s e ∙ ap (λ b. if b then of_lot me slots_at (record lot { side = s }) t else nothing) is

pub one_other : (me : HartNo) (slots_at : ℕ) (t first : Turn) (lot : Lot) (s : Side) → side_after first lot ≡ Some s → is_of t lot ≡ false → of_one me slots_at t (after first lot) ≡ nothing
one_other me slots_at t first lot s e is = one_as me slots_at t first lot s e ∙ ap (λ b. if b then of_lot me slots_at (record lot { side = s }) t else nothing) is

pub one_gone : (me : HartNo) (slots_at : ℕ) (t first : Turn) (lot : Lot) → side_after first lot ≡ None → of_one me slots_at t (after first lot) ≡ nothing
one_gone me slots_at t first lot e = ap (of_one me slots_at t) (after_side first lot ∙ ap (option_map (λ r. record lot { side = r })) e)

-- ---- all lots

-- a turn of lots, and not of a range
abbrev pub NamesLots : Turn → Type 0
NamesLots turns.Stay = Unit {0}
NamesLots (turns.Pass range to) = ⊥
NamesLots (turns.Own range) = ⊥
NamesLots (turns.Lend id) = Unit {0}
NamesLots (turns.Give id) = Unit {0}
NamesLots (turns.Return id) = Unit {0}
NamesLots (turns.Sync id) = Unit {0}
NamesLots (turns.Settle id) = Unit {0}
NamesLots (turns.End id) = Unit {0}

-- one of the turns of lots
pub names_lots : (t : Turn) → ((id : LotId) × t ≡ turns.Lend id) ⊎ ((id : LotId) × t ≡ turns.Give id) ⊎ ((id : LotId) × t ≡ turns.Return id) ⊎ ((id : LotId) × t ≡ turns.Sync id)
    ⊎ ((id : LotId) × t ≡ turns.Settle id) ⊎ ((id : LotId) × t ≡ turns.End id) → NamesLots t
names_lots t (inl (id, e)) = subst NamesLots (sym e) tt
names_lots t (inr (inl (id, e))) = subst NamesLots (sym e) tt
names_lots t (inr (inr (inl (id, e)))) = subst NamesLots (sym e) tt
names_lots t (inr (inr (inr (inl (id, e))))) = subst NamesLots (sym e) tt
names_lots t (inr (inr (inr (inr (inl (id, e)))))) = subst NamesLots (sym e) tt
names_lots t (inr (inr (inr (inr (inr (id, e)))))) = subst NamesLots (sym e) tt

one_more : (L : List Lot → Moved) (m : Moved) (lot : Lot) (rest : List Lot) → L (lot ∷ rest) ≡ joined m (L rest) → (b : Bool) (a : Moved)
    → joined a (L (cond b (lot ∷ rest) rest)) ≡ joined (joined a (if b then m else nothing)) (L rest)
one_more L m lot rest more true a = ap (joined a) more ∙ sym (joined_assoc a m (L rest))
one_more L m lot rest more false a = ap (λ x. joined x (L rest)) (sym (joined-nothing a))

side_more : (me : HartNo) (side : Side) (a : Moved) (lot : Lot) (rest : List Lot) (b : Bool)
    → joined a (moved (flat_map (to_side me side) (cond b (lot ∷ rest) rest)) None) ≡ joined (joined a (if b then moved (to_side me side lot) None else nothing)) (moved (flat_map (to_side me side) rest) None)
side_more me side a lot rest b = one_more (λ xs. moved (flat_map (to_side me side) xs) None) (moved (to_side me side lot) None) lot rest refl b a

turn_more : (me : HartNo) (slots_at : ℕ) (a : Moved) (lot : Lot) (lots : List Lot) (t : Turn) → NamesLots t
    → joined a (of_turn me slots_at (lot ∷ lots) t) ≡ joined (joined a (of_one me slots_at t (Some lot))) (of_turn me slots_at lots t)
turn_more me slots_at a lot lots turns.Stay h = ap (λ x. joined x nothing) (sym (joined-nothing a))
turn_more me slots_at a lot lots (turns.Pass range to) h = absurd h
turn_more me slots_at a lot lots (turns.Own range) h = absurd h
turn_more me slots_at a lot lots (turns.Lend id) h =
    one_more
    (λ xs. record (moved (flat_map (to_side me sides.Lending) xs) None) { grants = flat_map (granted me slots_at) xs; pages = page_moves pages_taken xs })
    (lent_lot me slots_at lot) lot (those id lots) refl (is_lot id lot) a
turn_more me slots_at a lot lots (turns.Give id) h = side_more me sides.Device a lot (those id lots) (is_lot id lot)
turn_more me slots_at a lot lots (turns.Return id) h = side_more me sides.Returning a lot (those id lots) (is_lot id lot)
turn_more me slots_at a lot lots (turns.Sync id) h = side_more me sides.Synced a lot (those id lots) (is_lot id lot)
turn_more me slots_at a lot lots (turns.Settle id) h = side_more me sides.Own a lot (those id lots) (is_lot id lot)
turn_more me slots_at a lot lots (turns.End id) h =
    one_more
    (λ xs. record (moved (flat_map (to_end me) xs) None) { ended = flat_map (ids me) xs; backs = flat_map slots_held xs; pages = page_moves pages_given xs })
    (ended_lot me lot) lot (those id lots) refl (is_lot id lot) a

turn_none : (me : HartNo) (slots_at : ℕ) (t : Turn) → NamesLots t → of_turn me slots_at [] t ≡ nothing
turn_none me slots_at turns.Stay h = refl
turn_none me slots_at (turns.Pass range to) h = absurd h
turn_none me slots_at (turns.Own range) h = absurd h
turn_none me slots_at (turns.Lend id) h = refl
turn_none me slots_at (turns.Give id) h = refl
turn_none me slots_at (turns.Return id) h = refl
turn_none me slots_at (turns.Sync id) h = refl
turn_none me slots_at (turns.Settle id) h = refl
turn_none me slots_at (turns.End id) h = refl

there_more : (me : HartNo) (slots_at : ℕ) (a : Moved) (o : Option Lot) (lots : List Lot) (t : Turn) → NamesLots t
    → joined a (of_turn me slots_at (cons_option o lots) t) ≡ joined (joined a (of_one me slots_at t o)) (of_turn me slots_at lots t)
there_more me slots_at a None lots t h = ap (λ x. joined x (of_turn me slots_at lots t)) (sym (joined-nothing a))
there_more me slots_at a (Some lot) lots t h = turn_more me slots_at a lot lots t h

lots_all : (me : HartNo) (slots_at : ℕ) (first t : Turn) (a : Moved) (lots : List Lot) → NamesLots t
    → joined a (of_turn me slots_at (filter_map (after first) lots) t) ≡ joined a (of_lots me slots_at first t lots)
lots_all me slots_at first t a [] h = ap (joined a) (turn_none me slots_at t h)
lots_all me slots_at first t a (lot ∷ lots) h =
    there_more me slots_at a (after first lot) (filter_map (after first) lots) t h
    ∙ lots_all me slots_at first t (joined a (of_one me slots_at t (after first lot))) lots h
    ∙ joined_assoc a (of_one me slots_at t (after first lot)) (of_lots me slots_at first t lots)

-- a turn of lots moves what it moves lot by lot
pub turn_lots : (me : HartNo) (slots_at : ℕ) (first t : Turn) (a : Moved) (lots : List Lot) → NamesLots t
    → joined a (of_turn me slots_at (lots_after first lots) t) ≡ joined a (of_lots me slots_at first t lots)
turn_lots me slots_at first t a lots h = ap (λ xs. joined a (of_turn me slots_at xs t)) (after_all first lots) ∙ lots_all me slots_at first t a lots h
