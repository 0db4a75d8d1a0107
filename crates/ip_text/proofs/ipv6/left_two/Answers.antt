use Rattle.std.proofs.Common.{◌+◌, ◌*◌, ℕ, arith, subst}
use Rattle.ip_text.specs.Scans.{Scans}
use Rattle.ip_text.specs.Unread.{IsLeft}
use Rattle.ip_text.proofs.LeftLaws.{left_high}
use Rattle.ip_text.proofs.LeftScans.{two_on, two_quad, two_stops}
use Rattle.ip_text.proofs.ItemLaws.{some_mapped, none_mapped}
use Rattle.ip_text.proofs.PartLaws.{not_both}
use Rattle.ip_text.proofs.ipv6.left_two.Goals as goal

pub returns-in-Some : goal.returns-in-Some
returns-in-Some c = left_high 2 c.args.before _ _ _ _ (omega arith) c.in-Some.ensures c.high.ensures

pub returns-in-Some-quad : goal.returns-in-Some-quad
returns-in-Some-quad c = two_quad c.args.before _ _ _ _ _ _ c.in_default.ensures c.hex_digits-group.ensures.scan c.read_row-quad.ensures.scan c.if-end-more.true (some_mapped (λ q. 4294967296 * c.args.before + q) _ _ _ c.from.ensures c.in-Some-quad.is)

pub returns-in-None : goal.returns-in-None
returns-in-None c = two_quad c.args.before _ _ _ _ _ _ c.in_default.ensures c.hex_digits-group.ensures.scan c.read_row-quad.ensures.scan c.if-end-more.true (none_mapped (λ q. 4294967296 * c.args.before + q) _ c.in-None.is)

pub returns-in_default-group : goal.returns-in_default-group
returns-in_default-group c = two_stops c.args.before _ _ _ _ _ c.in_default.ensures c.hex_digits-group.ensures.scan (λ next a e some. not_both _ _ c.in_default-group.is some) c.read_row-quad.ensures.scan c.if-end-more.false

pub returns-in-Some-after : goal.returns-in-Some-after
returns-in-Some-after c =
    let tail = subst (λ (n : ℕ). Scans (IsLeft 1 (65536 * c.args.before + n)) c.in-Some-after.next.now c.left_one.result.0 c.left_one.result.1.now) c.from-in-Some-after.ensures c.left_one.ensures in
    two_on c.args.before c.in-Some-group.group _ _ _ _ _ _ _ c.in_default.ensures (rw c.in-Some-group.is at c.hex_digits-group.ensures.scan) c.in-Some-after.ensures tail c.read_row-quad.ensures.scan c.if-end-more.false

pub returns-in-None-after : goal.returns-in-None-after
returns-in-None-after c = two_stops c.args.before _ _ _ _ _ c.in_default.ensures c.hex_digits-group.ensures.scan (λ next a e some. c.in-None-after.ensures next e) c.read_row-quad.ensures.scan c.if-end-more.false
