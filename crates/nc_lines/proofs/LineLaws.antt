-- The laws of lines.
use Rattle.std.specs.Prelude.{Some, map}
use Rattle.std.specs.List.{list_any}
use Rattle.std.proofs.Common.{◌≡◌, ℕ, Bool, false, List, sym, ap, ◌∙◌, subst}
use Rattle.std.proofs.lemmas.Bool.{or_parts}
use Rattle.std.proofs.lemmas.List.Folds.{list_any-append}
use Rattle.nc_queue.specs.Entries.{is_wo}
use Rattle.nc_queue.specs.Rules.{drained}
use Rattle.nc_queue.specs.Laws.{Stands, Covered}
use Rattle.nc_queue.specs.declared.entry.Entry.{Entry}
use Rattle.nc_queue.proofs.FenceLaws.{drained-some, stands-remove, covered-drained, covered-empties}
use Rattle.nc_queue.proofs.GivesLaws.{gives-none, none-gives}
use Rattle.nc_queue.proofs.TestLaws.{none-remove}
use Rattle.nc_lines.specs.Lines.{bare, line, Marked}
use Rattle.nc_lines.specs.Laws.{LineLoses, LinesDrain, LinesCover}
use Rattle.nc_lines.proofs.Bared.{bare_o, any_bare, remove_line, line_drains}
use Rattle.nc_lines.proofs.Marks.{stands_or_not, uncovered, block_cover, still_marked, none_before}

pub line_loses : (s : ℕ) (q r : List Entry) (i : ℕ) (e : Entry) → drained s q i ≡ Some e → LineLoses s q r i e
line_loses s q r i e is =
    let l = line q r in
    let on = line_drains s q r i e is in
    let left = remove_line q r i e (drained-some s q i e is).0 in
    let at = (drained-some s l i (bare e) on).0 in
    record {
      drains = on;
      left = left;
      marked_cover = λ p t of_w covered. subst (λ (k : List Entry). Covered p is_wo t k) (sym left) (covered-drained s p t l i (bare e) of_w covered on);
      block_cover = λ p w t b of_p of_w covered. subst (λ (k : List Entry). Covered p w t k) (sym left) (block_cover s q r i e p w t b is of_p of_w covered);
      still_marked = λ w t of_w other marked. subst (λ (k : List Entry). Marked w t k) (sym left) (still_marked s l i (bare e) w t on of_w other marked);
      none_before = λ w t of_w apart te oe marked stands. none_before s l i (bare e) w t on of_w apart te (bare_o e ∙ oe) marked stands;
      none_left = λ p t of_w te oe covered. ap (list_any p) left ∙ covered-empties s p t l i (bare e) of_w covered on te (bare_o e ∙ oe);
      still_stands = λ w t other stands. subst (λ (k : List Entry). Stands w t k) (sym left) (stands-remove w t l i (bare e) at other stands);
      none = λ p lacks. ap (list_any p) left ∙ none-remove p l i lacks;
    }

pub lines_drain : LinesDrain
lines_drain = record { entry = line_loses }

both : (p : Entry → Bool) (q r : List Entry) → list_any p (line q r) ≡ false → (list_any p (map bare q) ≡ false) × (list_any p r ≡ false)
both p q r lacks = or_parts (list_any p (map bare q)) (list_any p r) (sym (list_any-append p (map bare q) r) ∙ lacks)

pub lines_cover : LinesCover
lines_cover = record {
  stands_or_not = stands_or_not;
  uncovered = uncovered;
  of_queue = λ p q r same lacks. sym (any_bare p same q) ∙ (both p q r lacks).0;
  of_coming = λ p q r lacks. (both p q r lacks).1;
  gives_none = λ s x q lacks. gives-none s q x lacks;
  none_gives = λ s x q lacks. none-gives s q x lacks;
}
