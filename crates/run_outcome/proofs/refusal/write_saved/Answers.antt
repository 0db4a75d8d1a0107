use Rattle.std.proofs.Common.{◌++◌, ◌∙◌, ap, codes, sym}
use Rattle.std.proofs.lemmas.Result.{on_ok_weaker}
use Rattle.run_outcome.specs.Refusal.{saved_words}
use Rattle.run_outcome.proofs.refusal.write_saved.Goals as goal

pub returns-in-ChipDiffers : goal.returns-in-ChipDiffers
returns-in-ChipDiffers c =
    on_ok_weaker c.write-in-ChipDiffers.result
    (λ h. h ∙ ap (λ t. c.args.page.now ++ (codes "chip differs " ++ t)) c.table_word-word.ensures ∙ ap (λ s. c.args.page.now ++ saved_words s) (sym c.in-ChipDiffers.is))
    c.write-in-ChipDiffers.ensures.bytes
