use Rattle.std.proofs.Common.{◌≡◌, ◌++◌, ◌∷◌, [], List, length, refl, sym, ap, subst, ◌∙◌}
use Rattle.keyed.specs.Prefix.{IsPrefix, prefix_self}
use Rattle.shared_laws.proofs.CallLaws.{grew_self, tried_some}
use Rattle.shared_laws.proofs.DeskLaws.{desk_settled}
use Rattle.shared_laws.specs.Callers.{Seen}
use Rattle.shared_laws.specs.Ground.{DeskView, HasRoom}
use Rattle.switch_model.specs.declared.journal.Round.{Round}
use Rattle.switch_model.specs.Journal.{Journal}
use Rattle.agent_shared.proofs.Settling.{next_published, next_rounds, next_size, round_grew, so_far_at, taken_fits, taken_run}
use Rattle.agent_shared.proofs.rounds.settle_loaded.Goals as goal

pub round-requires-clause-run : goal.round-requires-clause-run
round-requires-clause-run g c = taken_run c.args.book.now.opening c.args.seat.now.seen c.args.seat.now.jseen c.args.most c.args.side.now c.requires.taken

pub round-requires-clause-fits : goal.round-requires-clause-fits
round-requires-clause-fits g c = taken_fits c.args.book.now.opening c.args.seat.now.seen c.args.seat.now.jseen c.args.most c.args.side.now c.requires.basis c.requires.side c.requires.so_far c.requires.taken

pub round-requires-clause-room : goal.round-requires-clause-room
round-requires-clause-room g c = subst HasRoom (sym c.requires.basis) c.requires.room

pub settle-requires : goal.settle-requires
settle-requires g c =
    let o = c.args.book.now.opening in
    let k = c.in_ok-done.ensures in
    record {
      next = next_published o c.take-desk.result c.in_ok-done.done.published c.args.side.now c.round.new.self c.args.seat.now.seen c.args.seat.now.jseen c.args.most c.in_ok-done.done.settled
          c.take-desk.ensures.opening (c.take-desk.ensures.under_chip c.requires.holds) c.take-desk.ensures.seen c.requires.basis c.requires.side c.requires.taken k.ok k.published k.settled;
    }

pub count_round-requires-clause-next : goal.count_round-requires-clause-next
count_round-requires-clause-next g c =
    let o = c.args.book.now.opening in
    let k = c.in_ok-done.ensures in
    let d = c.take-desk.result in
    let p = c.in_ok-done.done.published in
    let n = next_published o d p c.args.side.now c.round.new.self c.args.seat.now.seen c.args.seat.now.jseen c.args.most c.in_ok-done.done.settled
    c.take-desk.ensures.opening (c.take-desk.ensures.under_chip c.requires.holds) c.take-desk.ensures.seen c.requires.basis c.requires.side c.requires.taken k.ok k.published k.settled in
    let mid : d.rounds ≡ c.take-desk.new.pass.jseen = sym (ap (λ (x : Seen). x.jseen) c.take-desk.ensures.pass) in
    (n.round, ap (λ (x : DeskView). x.rounds) c.settle.ensures ∙ next_rounds o d p c.take-desk.new.pass.jseen c.in_ok-done.done.settled mid n, next_size d p c.in_ok-done.done.settled n)

pub count_round-requires-clause-settled : goal.count_round-requires-clause-settled
count_round-requires-clause-settled g c = let d = c.settle.new.self in desk_settled d.basis d.sent d.rounds c.shape.ensures.so_far

pub count_round-requires-clause-chip : goal.count_round-requires-clause-chip
count_round-requires-clause-chip g c = sym (ap (λ (j : Journal). j.rounds) c.in_ok-done.ensures.published) ∙ sym (ap (λ (x : DeskView). x.rounds) c.settle.ensures)

pub returns-clause-so_far : goal.returns-clause-so_far
returns-clause-so_far g c =
    let d = c.settle.new.self in
    let put = c.put.ensures.pass in
    let count = c.count_round.ensures.pass in
    let took = c.take-desk.ensures.pass in
    let basis = ap (λ (x : DeskView). x.basis) c.settle.ensures ∙ c.take-desk.ensures.opening in
    let seen = ap (λ (x : Seen). x.seen) put ∙ (ap (λ (x : Seen). x.seen) count ∙ (ap (λ (x : Seen). x.seen) took ∙ sym (ap (λ (x : DeskView). x.sent) c.settle.ensures))) in
    let jseen = ap (λ (x : Seen). x.jseen) put ∙ ap (λ (x : Seen). x.jseen) count in
    so_far_at c.args.book.now.opening d c.put.new.pass basis seen jseen c.shape.ensures

pub returns-clause-grew : goal.returns-clause-grew
returns-clause-grew g c =
    let o = c.args.book.now.opening in
    let k = c.in_ok-done.ensures in
    let d = c.take-desk.result in
    let p = c.in_ok-done.done.published in
    let n = next_published o d p c.args.side.now c.round.new.self c.args.seat.now.seen c.args.seat.now.jseen c.args.most c.in_ok-done.done.settled
    c.take-desk.ensures.opening (c.take-desk.ensures.under_chip c.requires.holds) c.take-desk.ensures.seen c.requires.basis c.requires.side c.requires.taken k.ok k.published k.settled in
    let put = c.put.ensures.pass in
    let count = c.count_round.ensures.pass in
    let took = c.take-desk.ensures.pass in
    let seen = ap (λ (x : Seen). x.seen) put ∙ (ap (λ (x : Seen). x.seen) count ∙ ap (λ (x : Seen). x.seen) took) in
    let jseen = ap (λ (x : Seen). x.jseen) put ∙ (ap (λ (x : Seen). x.jseen) count ∙ (ap (λ (x : DeskView). x.rounds) c.settle.ensures ∙ next_rounds o d p c.args.seat.now.jseen c.in_ok-done.done.settled (c.take-desk.ensures.under_chip c.requires.holds) n)) in
    let rounds = ap (λ (x : Seen). x.rounds) put ∙ (ap (λ (x : Seen). x.rounds) count ∙ ap (λ (x : Seen). x.rounds ++ length x.jseen ∷ []) took) in
    round_grew c.args.seat.now c.put.new.pass d.sent n.round (length d.rounds) c.take-desk.ensures.seen seen jseen rounds

pub returns-clause-ok : goal.returns-clause-ok
returns-clause-ok g c =
    let o = c.args.book.now.opening in
    let k = c.in_ok-done.ensures in
    let old = c.args.seat.now in
    let d = c.take-desk.result in
    let p = c.in_ok-done.done.published in
    let kept = c.take-desk.ensures.under_chip c.requires.holds in
    let n = next_published o d p c.args.side.now c.round.new.self old.seen old.jseen c.args.most c.in_ok-done.done.settled
    c.take-desk.ensures.opening kept c.take-desk.ensures.seen c.requires.basis c.requires.side c.requires.taken k.ok k.published k.settled in
    let put = c.put.ensures.pass in
    let count = c.count_round.ensures.pass in
    let took = c.take-desk.ensures.pass in
    let seen = ap (λ (x : Seen). x.seen) put ∙ (ap (λ (x : Seen). x.seen) count ∙ ap (λ (x : Seen). x.seen) took) in
    let jseen = ap (λ (x : Seen). x.jseen) put ∙ (ap (λ (x : Seen). x.jseen) count ∙ (ap (λ (x : DeskView). x.rounds) c.settle.ensures ∙ next_rounds o d p old.jseen c.in_ok-done.done.settled kept n)) in
    let rounds = ap (λ (x : Seen). x.rounds) put ∙ (ap (λ (x : Seen). x.rounds) count ∙ (ap (λ (x : Seen). x.rounds ++ length x.jseen ∷ []) took ∙ ap (λ (l : List Round). old.rounds ++ length l ∷ []) kept)) in
    tried_some o old old c.put.new.pass c.args.side.now.run c.args.most c.in_ok-done.done.settled n.round c.requires.taken k.some refl n.size (prefix_self old.seen) refl (subst (IsPrefix old.seen) (sym seen) c.take-desk.ensures.seen) jseen rounds

pub returns-in_err-done-clause-grew : goal.returns-in_err-done-clause-grew
returns-in_err-done-clause-grew g c = grew_self c.args.seat.now
