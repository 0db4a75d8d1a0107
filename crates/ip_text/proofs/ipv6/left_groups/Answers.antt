use Rattle.std.proofs.Common.{◌≡◌, ◌-◌, Some, ap, sym, ◌∙◌, arith}
use Rattle.ip_text.proofs.LeftLaws.{left_high}
use Rattle.ip_text.proofs.LeftScans.{left_many, tail_on, tail_stops}
use Rattle.ip_text.proofs.PartLaws.{not_both, in_range}
use Rattle.ip_text.proofs.Powers.{bound_65536, fits_65536}
use Rattle.ip_text.proofs.ipv6.left_groups.Goals as goal

pub returns-in-Some : goal.returns-in-Some
returns-in-Some c = c.loop-count.invariant.back _ _ (left_high c.loop-count.count c.loop-count.value _ _ _ _ (omega arith) c.in-Some.ensures c.high.ensures)

pub returns-in_default-group : goal.returns-in_default-group
returns-in_default-group c = c.loop-count.invariant.back _ _ (left_many c.loop-count.count c.loop-count.value _ _ _ (omega arith) c.in_default.ensures (tail_stops c.loop-count.count c.loop-count.value _ _ _ (omega arith) c.hex_digits-group.ensures.scan (λ next a e some. not_both _ _ c.in_default-group.is some)))

pub returns-in_default-after : goal.returns-in_default-after
returns-in_default-after c = c.loop-count.invariant.back _ _ (left_many c.loop-count.count c.loop-count.value _ _ _ (omega arith) c.in_default.ensures (tail_stops c.loop-count.count c.loop-count.value _ _ _ (omega arith) c.hex_digits-group.ensures.scan (λ next a e some. c.in_default-after.ensures next e)))

pub overflow_mul-value : goal.overflow_mul-value
overflow_mul-value c = omega (arith, fits_65536 (8 - c.loop-count.count) 7 _ c.loop-count.invariant.small (omega arith) (omega arith))

pub overflow_add-value : goal.overflow_add-value
overflow_add-value c = omega (arith, c.from.ensures, in_range _ _ _ c.in-Some-group.is c.hex_digits-group.ensures.range, fits_65536 (8 - c.loop-count.count) 7 _ c.loop-count.invariant.small (omega arith) (omega arith))

pub loop-count-preserved : goal.loop-count-preserved
loop-count-preserved c =
    let small = in_range _ _ _ c.in-Some-group.is c.hex_digits-group.ensures.range in
    let same : c.hex_digits-group.result.0 ≡ Some c.from.result = c.in-Some-group.is ∙ ap Some (sym c.from.ensures) in
    record {
      low = omega arith;
      high = omega arith;
      small = bound_65536 (8 - c.loop-count.count) (8 - (c.loop-count.count - 1)) c.loop-count.value c.from.result c.loop-count.invariant.small (omega (arith, small, c.from.ensures)) (omega arith);
      back = λ value rest scans. c.loop-count.invariant.back value rest (left_many c.loop-count.count c.loop-count.value _ _ _ (omega arith) c.in_default.ensures (tail_on c.loop-count.count c.loop-count.value c.from.result _ _ _ _ _ (rw same at c.hex_digits-group.ensures.scan) c.in-Some-after.ensures scans));
    }
