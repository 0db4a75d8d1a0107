use Rattle.shared_journal.proofs.Cuts.{room_for_end, room_for_entries, extended_ends, extended_rounds}
use Rattle.shared_journal.proofs.SharedJournal.extended.Goals as goal

pub append-requires : goal.append-requires
append-requires c = record { room = room_for_entries c.self.inside.ends c.self.inside.entries c.into_vec.result.items c.args.self.now _ c.self.invariant c.self.view_is (rw c.into_vec.ensures c.requires.room) }

pub push-requires : goal.push-requires
push-requires c = record { room = room_for_end c.self.inside.ends c.self.inside.entries c.args.round.entries c.args.self.now _ c.self.invariant c.self.view_is c.requires.some c.requires.room }

pub invariant_of-result : goal.invariant_of-result
invariant_of-result c = extended_ends c.self.inside.ends c.in_ok-ends.ends c.self.inside.entries c.in_ok-entries.entries c.args.round.entries c.len-end.result c.args.round.kind c.self.invariant c.requires.some (rw (← c.into_vec.ensures) c.in_ok-entries.ensures.list) c.len-end.ensures.length c.in_ok-ends.ensures.list

pub returns : goal.returns
returns c = record { rounds = extended_rounds c.self.inside.ends c.in_ok-ends.ends c.self.inside.entries c.in_ok-entries.entries c.args.round.entries c.args.self.now c.len-end.result c.args.round.kind c.self.invariant c.self.view_is (rw (← c.into_vec.ensures) c.in_ok-entries.ensures.list) c.len-end.ensures.length c.in_ok-ends.ensures.list }
