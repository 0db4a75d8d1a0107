use Rattle.std.proofs.Common.{rules, arith, ◌≡◌, suc, ◌+◌, ◌*◌, ◌≤◌, length, get_or, ap, sym, ◌∙◌, subst}
use Rattle.keyed.specs.Prefix.{IsPrefix}
use Rattle.turn_book.specs.Lists.{strip}
use Rattle.turn_book.proofs.Own.{strip_grows}
use Rattle.turn_book_client.specs.Pairs.{subs_of}
use Rattle.turn_book_client.proofs.Pairing.{length-strip, prefix_pair}
use Rattle.turn_book_client.proofs.values.Desk.next_pair.Goals as goal

pub returns-clause-next : goal.returns-clause-next
returns-clause-next c =
    let sent = c.args.self.now.sent.items in
    let one = c.index.result.now in
    let two = c.index-2.result.now in
    let settled = strip subs_of c.args.self.now.rounds.items in
    let long = length-strip c.args.self.now.rounds.items in
    let here : 2 * c.len-at.result ≡ length settled = search rules in
    let next : 2 * c.len-at.result + 1 ≡ suc (length settled) = omega arith in
    subst (λ l. IsPrefix l sent) (sym (strip_grows subs_of c.args.self.now.rounds.items (record { first = one; second = two })))
    (prefix_pair settled sent one two c.requires (omega arith) (c.index.ensures ∙ ap (λ n. get_or sent n one) here) (c.index-2.ensures ∙ ap (λ n. get_or sent n two) next))

pub returns-then-at-len-clause-none : goal.returns-then-at-len-clause-none
returns-then-at-len-clause-none c =
    let long = length-strip c.args.self.now.rounds.items in
    let few : length c.args.self.now.sent.items ≤ 2 * length c.args.self.now.rounds.items + 1 = search rules in
    omega arith
