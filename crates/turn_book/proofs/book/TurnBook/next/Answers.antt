use Rattle.std.proofs.Common.{rules}
use Rattle.turn_book.proofs.KeepsSeats.{splits_next}
use Rattle.turn_book.proofs.book.TurnBook.next.Goals as goal

pub split_seat-requires : goal.split_seat-requires
split_seat-requires g c = (search rules, search rules, splits_next _ _ _ _ _ c.requires.unspent c.requires.makes c.requires.few)
