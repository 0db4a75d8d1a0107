use Rattle.std.proofs.Common.{◌+◌, ◌*◌, ◌∷◌, ℕ, sym, ap, ◌∙◌, arith}
use Rattle.std.specs.Prelude.{option_map}
use Rattle.ip_text.specs.Parts.{IsPart, between}
use Rattle.ip_text.proofs.Powers.{grows_256, fits_256, last_256}
use Rattle.ip_text.proofs.PartLaws.{part_item, in_range, not_both}
use Rattle.ip_text.proofs.RowLaws.{row_start, row_next, row_last, row_breaks}
use Rattle.ip_text.proofs.rows.read_row.Goals as goal

pub loop-done-init : goal.loop-done-init
loop-done-init c = record {
  within = omega arith;
  small = omega arith;
  back = λ value rest scans. row_start (IsPart c.args.part) (between c.args.part) 256 c.args.count c.args.bytes.now rest value scans;
}

pub returns-in_default-clause-scan : goal.returns-in_default-clause-scan
returns-in_default-clause-scan c = c.loop-done.invariant.back _ _ (row_breaks (IsPart c.args.part) (between c.args.part) 256 c.args.count c.loop-done.done c.loop-done.value _ _ _ (part_item c.args.part) c.loop-done-test.true c.read_part-item.ensures.scan (λ next a e some. not_both _ _ c.in_default.is some))

pub returns-in_default-after-clause-scan : goal.returns-in_default-after-clause-scan
returns-in_default-after-clause-scan c = c.loop-done.invariant.back _ _ (row_breaks (IsPart c.args.part) (between c.args.part) 256 c.args.count c.loop-done.done c.loop-done.value _ _ _ (part_item c.args.part) c.loop-done-test.true c.read_part-item.ensures.scan (λ next a e some. c.in_default-after.ensures next (e ∙ ap (λ (b : ℕ). b ∷ next) (sym c.between.ensures))))

pub overflow_mul-value : goal.overflow_mul-value
overflow_mul-value c = omega (arith, fits_256 _ _ _ c.loop-done.invariant.small c.loop-done.invariant.within c.requires.few)

pub overflow_add-value : goal.overflow_add-value
overflow_add-value c = omega (arith, in_range _ _ _ c.in-Some.is c.read_part-item.ensures.range, fits_256 _ _ _ c.loop-done.invariant.small c.loop-done.invariant.within c.requires.few)

pub loop-done-preserved : goal.loop-done-preserved
loop-done-preserved c =
    let item = in_range _ _ _ c.in-Some.is c.read_part-item.ensures.range in
    record {
      within = c.loop-done-test.true;
      small = grows_256 _ _ _ c.loop-done.invariant.small item;
      back = λ value rest scans. c.loop-done.invariant.back value rest (row_next (IsPart c.args.part) (between c.args.part) 256 c.args.count c.loop-done.done c.loop-done.value c.in-Some.item _ _ _ _ _ (part_item c.args.part) c.loop-done-test.true (rw c.in-Some.is at c.read_part-item.ensures.scan) (c.in-Some-after.ensures ∙ ap (λ (b : ℕ). b ∷ c.in-Some-after.next.now) c.between.ensures) scans);
    }

pub overflow_mul-result : goal.overflow_mul-result
overflow_mul-result c = omega (arith, fits_256 _ _ _ c.loop-done.invariant.small c.loop-done.invariant.within c.requires.few)

pub overflow_add-result : goal.overflow_add-result
overflow_add-result c = omega (arith, in_range _ _ _ c.in-Some-item.is c.read_part-item-2.ensures.range, fits_256 _ _ _ c.loop-done.invariant.small c.loop-done.invariant.within c.requires.few)

pub returns-in-Some-item-clause-scan : goal.returns-in-Some-item-clause-scan
returns-in-Some-item-clause-scan c = c.loop-done.invariant.back _ _ (row_last (IsPart c.args.part) (between c.args.part) 256 c.args.count c.loop-done.done c.loop-done.value _ _ _ _ c.loop-done.invariant.within c.loop-done-test.false c.read_part-item-2.ensures.scan (ap (option_map (λ a. 256 * c.loop-done.value + a)) (sym c.in-Some-item.is)))

pub returns-in-Some-item-clause-range : goal.returns-in-Some-item-clause-range
returns-in-Some-item-clause-range c = last_256 c.loop-done.done c.args.count _ _ c.loop-done.invariant.small (in_range _ _ _ c.in-Some-item.is c.read_part-item-2.ensures.range) c.loop-done.invariant.within c.loop-done-test.false

pub returns-in-None-clause-scan : goal.returns-in-None-clause-scan
returns-in-None-clause-scan c = c.loop-done.invariant.back _ _ (row_last (IsPart c.args.part) (between c.args.part) 256 c.args.count c.loop-done.done c.loop-done.value _ _ _ _ c.loop-done.invariant.within c.loop-done-test.false c.read_part-item-2.ensures.scan (ap (option_map (λ a. 256 * c.loop-done.value + a)) (sym c.in-None.is)))
