use Rattle.std.proofs.Common.{◌≡◌, Ok, ap, refl, subst, sym}
use Rattle.keyed.specs.Prefix.{IsPrefix, prefix_self}
use Rattle.shared_laws.proofs.CallLaws.{tried_around}
use Rattle.shared_laws.specs.Callers.{Seen}
use Rattle.agent_shared.proofs.rounds.round_under.Goals as goal

pub returns-then-branch-clause-ok : goal.returns-then-branch-clause-ok
returns-then-branch-clause-ok g c =
    let a = c.args.seat.now in
    let b = c.load.new.seat in
    let d = c.settle_loaded.new.seat in
    let same = c.load.ensures.seat in
    let jseen : b.jseen ≡ a.jseen = ap (λ (p : Seen). p.jseen) same in
    let rounds : b.rounds ≡ a.rounds = ap (λ (p : Seen). p.rounds) same in
    tried_around c.args.book.now.opening a b d d c.args.most (Ok c.in_ok-settled.settled) c.load.ensures.seen (subst (IsPrefix a.jseen) (sym jseen) (prefix_self a.jseen)) rounds refl refl refl c.in_ok-settled.ensures.ok
