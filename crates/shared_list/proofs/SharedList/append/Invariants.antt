use Rattle.std.proofs.Common.{◌≡◌, ◌++◌}
use Rattle.shared_list.proofs.SharedList.append.Given as goal

abbrev pub invariant-loop-item : goal.invariant-loop-item
invariant-loop-item g l = l.list ++ l.item-iterator.rest.items ≡ l.fn.self ++ l.fn.items.items
