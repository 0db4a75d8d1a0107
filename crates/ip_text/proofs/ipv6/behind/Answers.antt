use Rattle.std.proofs.Common.{ℕ, Some, sym, subst, lit<}
use Rattle.std.proofs.Math.Nat.{one-le-pow}
use Rattle.ip_text.specs.Scans.{Scans}
use Rattle.ip_text.specs.Unread.{IsBehind}
use Rattle.ip_text.proofs.StartLaws.{behind_some, behind_none, behind_zero}
use Rattle.ip_text.proofs.ipv6.behind.Goals as goal

pub returns-then-most-eq0-clause-scan : goal.returns-then-most-eq0-clause-scan
returns-then-most-eq0-clause-scan c = subst (λ (n : ℕ). Scans (IsBehind n) c.args.bytes.now (Some 0) c.args.bytes.now) (sym c.if-most-eq0.true) (behind_zero c.args.bytes.now)

pub returns-then-rest-bytes-clause-scan : goal.returns-then-rest-bytes-clause-scan
returns-then-rest-bytes-clause-scan c = behind_some c.args.most _ _ _ c.right_groups-value.ensures.scan c.if-rest-bytes.true

pub returns-else-rest-bytes-clause-scan : goal.returns-else-rest-bytes-clause-scan
returns-else-rest-bytes-clause-scan c = behind_none c.args.most _ _ _ c.right_groups-value.ensures.scan c.if-rest-bytes.false

pub returns-else-rest-bytes-clause-range : goal.returns-else-rest-bytes-clause-range
returns-else-rest-bytes-clause-range c = one-le-pow c.args.most 65536 (lit< tt)
