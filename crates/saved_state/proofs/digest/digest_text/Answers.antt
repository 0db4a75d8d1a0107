use Rattle.std.proofs.Common.{◌∙◌, ap}
use Rattle.hex.specs.Hex.{encode_lower}
use Rattle.saved_state.proofs.HexText.{digest_form}
use Rattle.saved_state.proofs.digest.digest_text.Goals as goal

pub returns-clause-form : goal.returns-clause-form
returns-clause-form c = digest_form _ c.as_slice.result.now (c.in_ok-text-2.ensures.text ∙ ap encode_lower (c.as_slice-2.ensures ∙ c.digest-digest.ensures)) c.in_ok-text-2.ensures.form
