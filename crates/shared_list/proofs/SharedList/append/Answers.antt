use Rattle.shared_list.proofs.Places.{room_left}
use Rattle.shared_list.proofs.SharedList.append.Goals as goal

pub with_last-requires : goal.with_last-requires
with_last-requires g c = record { room = room_left c.loop-item.list c.loop-item.item-iterator.rest.items c.args.self.now c.args.items.items _ c.in-Some.item _ c.loop-item.invariant c.in-Some.ensures.steps.0 c.requires.room }
