-- A queue that gives no byte of a block has no entry that gives in it.
use Rattle.std.specs.Prelude.{Option, Some, None, ◌&&◌, ◌||◌, ◌==◌, ◌-◌, ◌/◌, ◌%◌, not, nat_lt, Bool, true, false, is_some}
use Rattle.std.specs.List.{list_any}
use Rattle.std.proofs.Common.{◌≡◌, ℕ, ◌*◌, ◌+◌, ◌<◌, ◌≤◌, List, [], ◌∷◌, refl, sym, ap, ◌∙◌, subst, arith}
use Rattle.std.proofs.lemmas.Bool.{and_parts, both_ways, or_parts, or_from, cond-true, eqb-true, eq-eqb, false_from_ne_true, not-false}
use Rattle.nc_num.specs.Memory.{byte}
use Rattle.nc_num.specs.Places.{block_at, covers}
use Rattle.nc_num.specs.Sizes.{IsBlockSize}
use Rattle.nc_num.specs.declared.places.Block.{Block}
use Rattle.nc_num.specs.declared.places.Span.{Span}
use Rattle.nc_num.specs.declared.names.MemType.{MemType}
use Rattle.nc_env.specs.declared.CboOp.TheVariants as cbos
use Rattle.nc_model.proofs.Faults.{covers-from, covers-low, covers-high}
use Rattle.nc_queue.specs.Entries.{gives_in, Fits, AllFit}
use Rattle.nc_queue.specs.Rules.{gives}
use Rattle.nc_queue.specs.declared.entry.Entry.{Entry}
use Rattle.nc_queue.specs.declared.entry.Entry.TheVariants as entries
use Rattle.nc_num.specs.declared.names.ChanNo.{ChanNo}
use Rattle.nc_num.specs.declared.names.Dir.{Dir}
use Rattle.nc_plan.specs.Parts.{comes_back, is_whole, bounces}
use Rattle.nc_sg.specs.declared.list.Entry.{Entry as SgEntry}
use Rattle.nc_rules.specs.declared.lots.Kind.{Kind}
use Rattle.nc_rules.specs.declared.lots.Lot.{Lot}
use Rattle.nc_rules.specs.Lots.{DriverConfig, reach_of}
use Rattle.nc_rules.specs.Turns.{is_area}
use Rattle.nc_scripts.specs.Drivers.{BouncesSo}
use Rattle.nc_lines.specs.Lines.{gives_at}
use Rattle.nc_lines.proofs.LineLaws.{lines_cover}

-- an entry that gives in a block gives one of its bytes
pub record GivesSome (s b : ℕ) (e : Entry) : Type 0 where
  pub place : ℕ
  pub here : place / s ≡ b
  pub gives : gives_at s place e ≡ true

start_in : {s : ℕ} (b : ℕ) → IsBlockSize s → (s * b) / s ≡ b
start_in {s = s} b z = grind arith

zero_gives : (s b : ℕ) (block : Block) → IsBlockSize s → block.0 ≡ b → GivesSome s b (entries.Cbo block cbos.Zero)
zero_gives s b block z same =
    let at : (s * b) / s ≡ b = start_in {s = s} b z in
    record {
      place = s * b;
      here = at;
      gives = ap (λ (o : Option ℕ). is_some o) (cond-true (block_at (s * b) s == block.0) (Some 0) None (eq-eqb (block_at (s * b) s) block.0 (at ∙ sym same)));
    }

store_gives : (s b : ℕ) (span : Span) (bytes : List ℕ) (kind : MemType) → 0 < span.len → block_at span.at s ≡ b → GivesSome s b (entries.Store span bytes kind)
store_gives s b span bytes kind some same = record {
  place = span.at;
  here = same;
  gives = ap (λ (o : Option ℕ). is_some o) (cond-true (covers span span.at) (Some (byte bytes (span.at - span.at))) None (covers-from span span.at (omega arith) (omega (arith, some))));
}

no_more : (x : Bool) → (x || false) ≡ true → x ≡ true
no_more true is = refl
no_more false is = absurd cc

pub gives_some : (s b : ℕ) (e : Entry) → IsBlockSize s → Fits s e → gives_in s b e ≡ true → GivesSome s b e
gives_some s b (entries.Store span bytes kind) z fits is = store_gives s b span bytes kind fits.some (eqb-true (block_at span.at s) b (no_more (block_at span.at s == b) is))
gives_some s b (entries.Cbo block cbos.Zero) z fits is = zero_gives s b block z (eqb-true block.0 b is)
gives_some s b (entries.Cbo block cbos.Clean) z fits is = absurd cc
gives_some s b (entries.Cbo block cbos.Flush) z fits is = absurd cc
gives_some s b (entries.Cbo block cbos.Inval) z fits is = absurd cc
gives_some s b (entries.Reg chan off width value) z fits is = absurd cc
gives_some s b (entries.Mail buf to) z fits is = absurd cc
gives_some s b (entries.Lend label first count) z fits is = absurd cc
gives_some s b (entries.Mark pred succ) z fits is = absurd cc

none_by : (s b : ℕ) (q : List Entry) → IsBlockSize s → AllFit s q → ((x : ℕ) → x / s ≡ b → list_any (gives_at s x) q ≡ false) → list_any (gives_in s b) q ≡ false
none_by s b [] z fit none = refl
none_by s b (e ∷ q) z fit none =
    or_from (gives_in s b e) (list_any (gives_in s b) q)
    (false_from_ne_true (gives_in s b e) (λ is. let g = gives_some s b e z fit.0 is in both_ways (gives_at s g.place e) (or_parts (gives_at s g.place e) (list_any (gives_at s g.place) q) (none g.place g.here)).0 g.gives))
    (none_by s b q z fit.1 (λ x here. (or_parts (gives_at s x e) (list_any (gives_at s x) q) (none x here)).1))

-- each byte of the block
pub none_in_block : (s b : ℕ) (q : List Entry) → IsBlockSize s → AllFit s q → ((x : ℕ) → x / s ≡ b → gives s q x ≡ None) → list_any (gives_in s b) q ≡ false
none_in_block s b q z fit none = none_by s b q z fit (λ x here. lines_cover.none_gives s x q (none x here))

-- ---- a range of whole blocks

whole_by : (f : DriverConfig) (kind : Kind) (dir : Dir) (chan : ChanNo) (e : SgEntry) → BouncesSo f kind dir chan e → is_area kind ≡ false → e.bounced ≡ false → comes_back dir ≡ true → is_whole f.size e.span ≡ true
whole_by f kind dir chan e so single direct back =
    let none : ((comes_back dir && not (is_whole f.size e.span)) || nat_lt (reach_of f chan) (e.span.at + e.span.len)) ≡ false =
    sym (so ∙ ap (λ (a : Bool). not a && bounces e.span dir f.size (reach_of f chan)) single) ∙ direct in
    let both = (or_parts (comes_back dir && not (is_whole f.size e.span)) (nat_lt (reach_of f chan) (e.span.at + e.span.len)) none).0 in
    not-false (is_whole f.size e.span) (sym (ap (λ (t : Bool). t && not (is_whole f.size e.span)) back) ∙ both)

from_there : {s : ℕ} (at x y : ℕ) → IsBlockSize s → at % s ≡ 0 → y / s ≡ x / s → at ≤ x → at ≤ y
from_there {s = s} at x y size low same le = grind arith

before_end : {s : ℕ} (at len x y : ℕ) → IsBlockSize s → at % s ≡ 0 → len % s ≡ 0 → y / s ≡ x / s → x < at + len → y < at + len
before_end {s = s} at len x y size low whole same lt = grind arith

-- a range that does not bounce, and comes back, has each place of a block of which it has one
pub whole_range : (f : DriverConfig) (lot : Lot) (e : SgEntry) (s x y : ℕ) → IsBlockSize s → f.size ≡ s → BouncesSo f lot.kind lot.list.dir lot.chan e → is_area lot.kind ≡ false → e.bounced ≡ false → comes_back lot.list.dir ≡ true → y / s ≡ x / s
    → covers e.span x ≡ true → covers e.span y ≡ true
whole_range f lot e s x y z size so single direct back same over =
    let whole = subst (λ (k : ℕ). is_whole k e.span ≡ true) size (whole_by f lot.kind lot.list.dir lot.chan e so single direct back) in
    let tests = and_parts (e.span.at % s == 0) (e.span.len % s == 0) whole in
    let low = eqb-true (e.span.at % s) 0 tests.0 in
    covers-from e.span y (from_there {s = s} e.span.at x y z low same (covers-low e.span x over)) (before_end {s = s} e.span.at e.span.len x y z low (eqb-true (e.span.len % s) 0 tests.1) same (covers-high e.span x over))
