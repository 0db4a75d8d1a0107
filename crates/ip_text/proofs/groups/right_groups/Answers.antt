use Rattle.std.proofs.Common.{◌+◌, ◌-◌, ◌*◌, ◌≡◌, sym, ap, ◌∙◌, arith, Some}
use Rattle.ip_text.proofs.Powers.{grows_65536, bound_65536, fits_65536, quad_65536}
use Rattle.ip_text.proofs.PartLaws.{in_range, not_both}
use Rattle.ip_text.proofs.ItemLaws.{items_stop, items_quad, next_items, last_items, some_mapped, none_mapped}
use Rattle.ip_text.proofs.groups.right_groups.Goals as goal

pub overflow_mul-result : goal.overflow_mul-result
overflow_mul-result c = omega (arith, fits_65536 _ _ _ c.loop-done.invariant.small c.loop-done.invariant.within c.requires.few)

pub overflow_add-result : goal.overflow_add-result
overflow_add-result c = omega (arith, c.from.ensures, in_range _ _ _ c.in-Some.is c.read_row-quad.ensures.range, fits_65536 _ _ _ c.loop-done.invariant.small c.loop-done.invariant.within c.requires.few)

pub returns-in-Some-clause-scan : goal.returns-in-Some-clause-scan
returns-in-Some-clause-scan c = c.loop-done.invariant.back _ _ (items_quad (c.args.most - c.loop-done.done) c.loop-done.value _ _ _ _ _ _ (omega arith) c.hex_digits-group.ensures.scan c.read_row-quad.ensures.scan c.if-end-more.true (some_mapped (λ q. 4294967296 * c.loop-done.value + q) _ _ _ c.from.ensures c.in-Some.is))

pub returns-in-Some-clause-range : goal.returns-in-Some-clause-range
returns-in-Some-clause-range c =
    let small = in_range _ _ _ c.in-Some.is c.read_row-quad.ensures.range in
    quad_65536 c.loop-done.done c.args.most c.loop-done.value _ c.loop-done.invariant.small (omega (arith, small, c.from.ensures)) c.loop-done-test.true

pub returns-in-None-clause-scan : goal.returns-in-None-clause-scan
returns-in-None-clause-scan c = c.loop-done.invariant.back _ _ (items_quad (c.args.most - c.loop-done.done) c.loop-done.value _ _ _ _ _ _ (omega arith) c.hex_digits-group.ensures.scan c.read_row-quad.ensures.scan c.if-end-more.true (none_mapped (λ q. 4294967296 * c.loop-done.value + q) _ c.in-None.is))

pub returns-in_default-clause-scan : goal.returns-in_default-clause-scan
returns-in_default-clause-scan c = c.loop-done.invariant.back _ _ (items_stop (c.args.most - c.loop-done.done) c.loop-done.value _ _ _ _ _ _ (omega arith) c.hex_digits-group.ensures.scan (λ next a e some. not_both _ _ c.in_default.is some) c.read_row-quad.ensures.scan c.if-end-more.false (none_mapped (λ g. 65536 * c.loop-done.value + g) _ c.in_default.is))

pub overflow_mul-next_value : goal.overflow_mul-next_value
overflow_mul-next_value c = omega (arith, fits_65536 _ _ _ c.loop-done.invariant.small c.loop-done.invariant.within c.requires.few)

pub overflow_add-next_value : goal.overflow_add-next_value
overflow_add-next_value c = omega (arith, c.from-in-loop-done.ensures, in_range _ _ _ c.in-Some-group.is c.hex_digits-group.ensures.range, fits_65536 _ _ _ c.loop-done.invariant.small c.loop-done.invariant.within c.requires.few)

pub returns-in_default-after-clause-scan : goal.returns-in_default-after-clause-scan
returns-in_default-after-clause-scan c = c.loop-done.invariant.back _ _ (items_stop (c.args.most - c.loop-done.done) c.loop-done.value _ _ _ _ _ _ (omega arith) c.hex_digits-group.ensures.scan (λ next a e some. c.in_default-after.ensures next e) c.read_row-quad.ensures.scan c.if-end-more.false (some_mapped (λ g. 65536 * c.loop-done.value + g) _ _ _ c.from-in-loop-done.ensures c.in-Some-group.is))

pub returns-in_default-after-clause-range : goal.returns-in_default-after-clause-range
returns-in_default-after-clause-range c =
    let small = in_range _ _ _ c.in-Some-group.is c.hex_digits-group.ensures.range in
    bound_65536 c.loop-done.done c.args.most c.loop-done.value _ c.loop-done.invariant.small (omega (arith, small, c.from-in-loop-done.ensures)) c.loop-done.invariant.within

pub loop-done-preserved : goal.loop-done-preserved
loop-done-preserved c =
    let small = in_range _ _ _ c.in-Some-group.is c.hex_digits-group.ensures.range in
    let same : c.hex_digits-group.result.0 ≡ Some c.from-in-loop-done.result = c.in-Some-group.is ∙ ap Some (sym c.from-in-loop-done.ensures) in
    record {
      within = c.loop-done-test.true;
      small = grows_65536 _ _ _ c.loop-done.invariant.small (omega (arith, small, c.from-in-loop-done.ensures));
      back = λ value rest scans. c.loop-done.invariant.back value rest (next_items c.args.most c.loop-done.done c.loop-done.value c.from-in-loop-done.result _ _ _ _ _ _ _ c.loop-done-test.true (rw same at c.hex_digits-group.ensures.scan) c.in-Some-after.ensures c.read_row-quad.ensures.scan c.if-end-more.false scans);
    }

pub overflow_mul-result-in-Some-group-2 : goal.overflow_mul-result-in-Some-group-2
overflow_mul-result-in-Some-group-2 c = omega (arith, fits_65536 _ _ _ c.loop-done.invariant.small c.loop-done.invariant.within c.requires.few)

pub overflow_add-result-in-Some-group-2 : goal.overflow_add-result-in-Some-group-2
overflow_add-result-in-Some-group-2 c = omega (arith, c.from-in-Some-group-2.ensures, in_range _ _ _ c.in-Some-group-2.is c.hex_digits-group-2.ensures.range, fits_65536 _ _ _ c.loop-done.invariant.small c.loop-done.invariant.within c.requires.few)

pub returns-in-Some-group-2-clause-scan : goal.returns-in-Some-group-2-clause-scan
returns-in-Some-group-2-clause-scan c = c.loop-done.invariant.back _ _ (last_items c.args.most c.loop-done.done c.loop-done.value _ _ _ _ c.loop-done.invariant.within c.loop-done-test.false c.hex_digits-group-2.ensures.scan (some_mapped (λ g. 65536 * c.loop-done.value + g) _ _ _ c.from-in-Some-group-2.ensures c.in-Some-group-2.is))

pub returns-in-Some-group-2-clause-range : goal.returns-in-Some-group-2-clause-range
returns-in-Some-group-2-clause-range c =
    let small = in_range _ _ _ c.in-Some-group-2.is c.hex_digits-group-2.ensures.range in
    bound_65536 c.loop-done.done c.args.most c.loop-done.value _ c.loop-done.invariant.small (omega (arith, small, c.from-in-Some-group-2.ensures)) c.loop-done.invariant.within

pub returns-in-None-group-clause-scan : goal.returns-in-None-group-clause-scan
returns-in-None-group-clause-scan c = c.loop-done.invariant.back _ _ (last_items c.args.most c.loop-done.done c.loop-done.value _ _ _ _ c.loop-done.invariant.within c.loop-done-test.false c.hex_digits-group-2.ensures.scan (none_mapped (λ g. 65536 * c.loop-done.value + g) _ c.in-None-group.is))
