use Rattle.std.proofs.Common.{◌∙◌, ap}
use Rattle.saved_state.proofs.HexText.{all_hex}
use Rattle.saved_state.specs.Digest.{all_lower_hex}
use Rattle.saved_state.proofs.digest.hex_text.Goals as goal

pub returns-clause-form : goal.returns-clause-form
returns-clause-form c = ap all_lower_hex c.in_ok-text.ensures ∙ all_hex _ c.type_inv.bytes
