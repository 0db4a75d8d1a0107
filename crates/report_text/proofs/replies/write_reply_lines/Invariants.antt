use Rattle.std.proofs.Common.{◌≡◌, ◌++◌, drop}
use Rattle.report_text.specs.EntryText.{replies_text}
use Rattle.report_text.proofs.replies.write_reply_lines.Given as goal

abbrev pub invariant-loop-told : goal.invariant-loop-told
invariant-loop-told l = l.out ++ replies_text (drop l.told-index l.replies) ≡ l.fn.out ++ replies_text l.replies
