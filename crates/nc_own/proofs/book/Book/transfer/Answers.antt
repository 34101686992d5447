use Rattle.std.proofs.Common.{◌∙◌, length, sym, ap, arith}
use Rattle.nc_own.specs.Books.{BookView}
use Rattle.nc_own.proofs.Follows.{length-owners_of}
use Rattle.nc_own.proofs.Views.{shown_size, shown_given}
use Rattle.nc_own.proofs.book.Book.transfer.Goals as goal

pub give-requires-clause-inside : goal.give-requires-clause-inside
give-requires-clause-inside c = omega (arith, shown_size _ _ _ _ _ c.self.view_is, c.requires.inside)

pub index_of-number-requires-clause-inside : goal.index_of-number-requires-clause-inside
index_of-number-requires-clause-inside c =
    rw c.deref.ensures.value (omega (arith, shown_size _ _ _ _ _ c.self.view_is, c.self.invariant.whole, c.give.ensures.given.whole, c.requires.inside, c.requires.some))

pub note-requires-clause-ends : goal.note-requires-clause-ends
note-requires-clause-ends c = omega (arith, shown_size _ _ _ _ _ c.self.view_is, c.self.invariant.size, c.requires.inside)

pub returns-clause-owners : goal.returns-clause-owners
returns-clause-owners c = shown_given _ _ _ _ _ _ _ _ c.self.view_is c.self.invariant.whole c.give.ensures.given

pub returns-clause-size : goal.returns-clause-size
returns-clause-size c =
    length-owners_of _ _ ∙ sym (length-owners_of _ _) ∙ ap (λ (s : BookView). length s.owners) c.self.view_is
