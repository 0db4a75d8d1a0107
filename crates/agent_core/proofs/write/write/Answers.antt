use Rattle.std.proofs.Common.{arith, refl}
use Rattle.agent_core.proofs.write.write.Goals as goal

pub commit-requires-clause-room : goal.commit-requires-clause-room
commit-requires-clause-room g c = omega (arith, c.writes.ensures, c.in_ok-reserve.ensures.ok)

pub commit-requires-clause-old : goal.commit-requires-clause-old
commit-requires-clause-old g c = c.requires.old

pub commit-requires-clause-closed : goal.commit-requires-clause-closed
commit-requires-clause-closed g c = c.requires.closed

pub tell-requires-clause-shares : goal.tell-requires-clause-shares
tell-requires-clause-shares g c = c.in_ok-shares.ensures.shares

pub tell-requires-clause-enough : goal.tell-requires-clause-enough
tell-requires-clause-enough g c = c.in_ok-shares.ensures.enough

pub tell-requires-clause-follows : goal.tell-requires-clause-follows
tell-requires-clause-follows g c = c.requires.follows

pub returns-in-Ok-clause-written : goal.returns-in-Ok-clause-written
returns-in-Ok-clause-written g c = record { fits = c.in-Ok.ensures.first; view = c.in-Ok.ensures.ok; writes = c.in-Ok.ensures.two_a_row; told = c.tell.ensures.told }

pub returns-in-Ok-clause-caps : goal.returns-in-Ok-clause-caps
returns-in-Ok-clause-caps g c = c.commit.ensures.caps

pub returns-in-Err-clause-undone : goal.returns-in-Err-clause-undone
returns-in-Err-clause-undone g c = record { full = c.in-Err.ensures.first; raw = c.in-Err.ensures.err; writes = c.in-Err.ensures.four_a_row; audience = refl }

pub returns-in-Err-clause-caps : goal.returns-in-Err-clause-caps
returns-in-Err-clause-caps g c = c.commit.ensures.caps
