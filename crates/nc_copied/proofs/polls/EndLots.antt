-- The lots that are ends of the copy in hand.
use Rattle.std.specs.Prelude.{◌==◌}
use Rattle.std.proofs.Common.{◌≡◌, ℕ, zero, suc, ◌<◌, ◌≤◌, true, List, refl, inl, inr, ◌⊎◌, arith}
use Rattle.std.proofs.lemmas.Bool.{and_from, eq-eqb}
use Rattle.nc_num.specs.declared.names.Dir.TheVariants.{ToDev, FromDev}
use Rattle.nc_num.specs.declared.places.Span.{Span}
use Rattle.nc_plan.specs.Plans.{In}
use Rattle.nc_sg.specs.declared.list.Entry.{Entry}
use Rattle.nc_scen.specs.declared.scenario.Scenario.{Scenario}
use Rattle.nc_rules.specs.declared.lots.Kind.{Kind}
use Rattle.nc_rules.specs.declared.lots.Kind.TheVariants as kinds
use Rattle.nc_rules.specs.declared.lots.Lot.{Lot}
use Rattle.nc_rules.specs.declared.lots.LotId.{LotId}
use Rattle.nc_rules.specs.Copies.{source, target}
use Rattle.nc_rules.specs.Lots.{is_lot}
use Rattle.nc_rules.specs.World.{WorldState, driver_of}
use Rattle.nc_scripts.specs.Drivers.{IsEndName, FitsKind}
use Rattle.nc_holds.proofs.lists.Members.{all_at}
use Rattle.nc_flatness.specs.Copying.{CopyOp, IsOneRange, AreItsEnds}
use Rattle.nc_flatness.specs.Flatness.{Flatness}
use Rattle.nc_flatness.proofs.books.Loans.{lot_in}

-- a script's name is none of an end
named_not : {A : Type 0} (n : ℕ) → n ≤ 999 → n ≡ 1000 → A
named_not n le e = absurd (omega (arith, le, e))

end_first : (pool : Span) (kind : Kind) (id : LotId) (es : List Entry) → FitsKind pool kind id es → IsEndName id → id.first < 2
end_first pool kinds.Single id es fits end = named_not id.label.0 fits.0.label end
end_first pool kinds.List id es fits end = named_not id.label.0 fits.0.label end
end_first pool kinds.Area id es fits end = named_not id.label.0 fits.0.label end
end_first pool kinds.Copy id es fits end = fits.0.first

two : (n : ℕ) → n < 2 → (n ≡ 0) ⊎ (n ≡ 1)
two n lt = elim (by n) [ inl e ↦ inl e | inr more ↦ inr (omega (arith, lt, more)) ]
  where
    by : (n : ℕ) → (n ≡ 0) ⊎ (0 < n)
    by zero = inl refl
    by (suc n) = inr (omega arith)

named_so : (id : LotId) (lot : Lot) → lot.id.label.0 ≡ id.label.0 → lot.id.first ≡ id.first → is_lot id lot ≡ true
named_so id lot label first = and_from (lot.id.label.0 == id.label.0) (lot.id.first == id.first) (eq-eqb lot.id.label.0 id.label.0 label) (eq-eqb lot.id.first id.first first)

-- each is of the copy's channel
pub end_chan : (sc : Scenario) (f : List ℕ) (w : WorldState) (h : ℕ) (k : CopyOp) (from to : Span) (lot : Lot) → Flatness sc f w → AreItsEnds k from to (driver_of w h).lots → In lot (driver_of w h).lots → IsEndName lot.id → lot.chan ≡ k.chan
end_chan sc f w h k from to lot flat ends here end =
    let d = driver_of w h in
    let it = all_at (λ (l : Lot). (is_lot source l ≡ true → IsOneRange l ToDev k.chan from) × (is_lot target l ≡ true → IsOneRange l FromDev k.chan to)) d.lots lot ends here in
    elim (two lot.id.first (end_first d.fixed.pool lot.kind lot.id lot.list.entries (lot_in sc f w h lot flat here).kind end)) [
      | inl zeroth ↦ (it.0 (named_so source lot end zeroth)).chan_is
      | inr first ↦ (it.1 (named_so target lot end first)).chan_is
    ]
