use Rattle.std.proofs.Common.{Some, sym, ap, ◌∙◌}
use Rattle.std.specs.Option.{option_copied}
use Rattle.state_answers.proofs.FindingLaws.{entry_of}
use Rattle.state_answers.proofs.finding.find_entry.Goals as goal

pub returns-in_ok-copy-in-Some : goal.returns-in_ok-copy-in-Some
returns-in_ok-copy-in-Some c =
    ap Some c.in_ok-copy-in-Some.ensures.same
    ∙ sym (ap option_copied c.in-Some.is)
    ∙ entry_of c.args.state.now c.args.key.now c.fib_key.result c.fibs.result.now (option_copied c.record_under.result) c.requires c.fib_key.ensures.range c.fib_key.ensures.key c.fibs.ensures.map c.fibs.ensures.part.numbers c.record_under.ensures

pub returns-in-None : goal.returns-in-None
returns-in-None c =
    sym (ap option_copied c.in-None.is)
    ∙ entry_of c.args.state.now c.args.key.now c.fib_key.result c.fibs.result.now (option_copied c.record_under.result) c.requires c.fib_key.ensures.range c.fib_key.ensures.key c.fibs.ensures.map c.fibs.ensures.part.numbers c.record_under.ensures
