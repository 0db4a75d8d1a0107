use Rattle.std.proofs.Common.{◌≡◌, ◌+◌, ◌++◌, ap, drop, refl, take, ◌∙◌}
use Rattle.std.specs.List.{between}
use Rattle.journal_report.specs.Written.{IsWritten}
use Rattle.journal_report.specs.declared.journal.Written.{Written}
use Rattle.report_text.specs.EntryText.{round_text, rounds_text}
use Rattle.switch_model.specs.Journal.{entries_of, version_after}
use Rattle.switch_model.specs.declared.journal.Round.{Round}
use Rattle.journal_report.proofs.JournalLaws.{has_end, if-ok, order, text-more, within, written-more}
use Rattle.journal_report.proofs.journal.write_next.Goals as goal

pub write_round-requires-clause-order : goal.write_round-requires-clause-order
write_round-requires-clause-order c = order c.args.published.now.rounds c.args.written.rounds c.in-Some.end c.in-Some.whole c.in-Some.ensures.end c.args.written.entries c.requires.written.entries

pub write_round-requires-clause-within : goal.write_round-requires-clause-within
write_round-requires-clause-within c = within c.args.published.now.rounds c.args.written.rounds c.in-Some.end c.in-Some.whole c.in-Some.ensures.end

pub returns-in-Some-clause-written : goal.returns-in-Some-clause-written
returns-in-Some-clause-written c =
    let p = c.args.published.now in
    let w = c.args.written in
    let next : Written → Type 0 = λ n. n ≡ record { rounds = w.rounds + 1; entries = c.in-Some.end; version = version_after w.version (between w.entries c.in-Some.end (entries_of p.rounds)) } in
    if-ok c.write_round.result next next (IsWritten p.base.version p.rounds)
    (λ n is _. written-more p.rounds w.rounds c.in-Some.end c.in-Some.whole c.in-Some.ensures.end p.base.version w n refl c.requires.there c.requires.written is)
    c.write_round.ensures.next c.write_round.ensures.next

pub returns-in-Some-clause-text : goal.returns-in-Some-clause-text
returns-in-Some-clause-text c =
    let p = c.args.published.now in
    let w = c.args.written in
    let end = c.in-Some.end in
    let before = c.args.out.now in
    let after = c.write_round.new.out in
    let shown : Round = record { kind = c.kind_of.result; entries = between w.entries end (entries_of p.rounds) } in
    let next : Written → Type 0 = λ n. n ≡ record { rounds = w.rounds + 1; entries = end; version = version_after w.version (between w.entries end (entries_of p.rounds)) } in
    let wrote : Written → Type 0 = λ n. after ≡ before ++ round_text w.rounds w.entries n.version shown in
    if-ok c.write_round.result next wrote (λ n. after ≡ before ++ rounds_text w.rounds w.entries w.version (take 1 (drop w.rounds p.rounds)))
    (λ n is text. text ∙ ap (λ t. before ++ t) (text-more p.rounds w.rounds end c.in-Some.whole c.in-Some.ensures.end p.base.version w n refl c.requires.there c.requires.written is c.kind_of.result c.kind_of.ensures))
    c.write_round.ensures.next c.write_round.ensures.text

pub returns-in-None-clause-one : goal.returns-in-None-clause-one
returns-in-None-clause-one c = absurd (has_end c.args.published.now.rounds c.args.written.rounds c.requires.there c.in-None.ensures.end)

pub returns-in-None-clause-text : goal.returns-in-None-clause-text
returns-in-None-clause-text c = absurd (has_end c.args.published.now.rounds c.args.written.rounds c.requires.there c.in-None.ensures.end)
