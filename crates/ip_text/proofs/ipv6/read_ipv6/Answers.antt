use Rattle.std.proofs.Common.{◌≡◌, ◌+◌, ◌*◌, ◌∙◌, ℕ, arith, subst}
use Rattle.ip_text.specs.Scans.{Scans}
use Rattle.ip_text.specs.Unread.{IsLeft}
use Rattle.ip_text.proofs.LeftScans.{tail_on, tail_stops}
use Rattle.ip_text.proofs.StartLaws.{ip6_group, ip6_colons_first, ip6_colon_alone}
use Rattle.ip_text.proofs.PartLaws.{not_both}
use Rattle.ip_text.proofs.ipv6.read_ipv6.Goals as goal

pub returns-in-Some-after : goal.returns-in-Some-after
returns-in-Some-after c = ip6_colons_first _ _ _ _ _ c.in-Some.ensures c.in-Some-after.ensures c.behind.ensures.scan

pub returns-in-None : goal.returns-in-None
returns-in-None c = ip6_colon_alone _ _ c.in-Some.ensures c.in-None.ensures

pub returns-in_default-group : goal.returns-in_default-group
returns-in_default-group c = ip6_group _ _ _ c.in_default.ensures (tail_stops 8 0 _ _ _ (omega arith) c.hex_digits-group.ensures.scan (λ next a e some. not_both _ _ c.in_default-group.is some))

pub returns-in-Some-after-2 : goal.returns-in-Some-after-2
returns-in-Some-after-2 c =
    let start : c.from.result ≡ 65536 * 0 + c.in-Some-group.group = c.from.ensures ∙ omega arith in
    let tail = subst (λ (n : ℕ). Scans (IsLeft 7 n) c.in-Some-after-2.next.now c.left_groups.result.0 c.left_groups.result.1.now) start c.left_groups.ensures in
    ip6_group _ _ _ c.in_default.ensures (tail_on 8 0 c.in-Some-group.group _ _ _ _ _ (rw c.in-Some-group.is at c.hex_digits-group.ensures.scan) c.in-Some-after-2.ensures tail)

pub returns-in-None-after : goal.returns-in-None-after
returns-in-None-after c = ip6_group _ _ _ c.in_default.ensures (tail_stops 8 0 _ _ _ (omega arith) c.hex_digits-group.ensures.scan (λ next a e some. c.in-None-after.ensures next e))
