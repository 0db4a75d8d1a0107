use Rattle.std.proofs.Common.{◌≡◌, subst, true, arith}
use Rattle.switch_state.specs.Plain.{plain}
use Rattle.saved_state.specs.Contents.{Body}
use Rattle.saved_state.specs.Digest.{is_digest}
use Rattle.saved_state.specs.Texts.{body_to_save}
use Rattle.saved_state.proofs.SavedLaws.{body_plain, json_is, reads_back, text_found, text_is, whole_is}
use Rattle.saved_state.proofs.save.save_text.Goals as goal

pub digest_text-requires : goal.digest_text-requires
digest_text-requires c = body_plain _ (body_to_save (plain c.args.state.now) c.args.state.now.version c.args.tables.now c.args.caps.now) c.in_ok-value.ensures.value

pub returns-clause-text : goal.returns-clause-text
returns-clause-text c =
    let body : Body = body_to_save (plain c.args.state.now) c.args.state.now.version c.args.tables.now c.args.caps.now in
    let whole = whole_is _ _ _ body c.in_ok-value.ensures.value c.in_ok-digest.ensures.text c.in_ok-whole.ensures in
    text_is _ body _ whole c.in_ok-text.ensures.text

pub returns-clause-json : goal.returns-clause-json
returns-clause-json c =
    let body : Body = body_to_save (plain c.args.state.now) c.args.state.now.version c.args.tables.now c.args.caps.now in
    let whole = whole_is _ _ _ body c.in_ok-value.ensures.value c.in_ok-digest.ensures.text c.in_ok-whole.ensures in
    json_is _ body _ whole c.in_ok-text.ensures.utf8 c.in_ok-text.ensures.reads_back

pub returns-clause-read_again : goal.returns-clause-read_again
returns-clause-read_again c = λ sound up caps low answer reads.
    let body : Body = body_to_save (plain c.args.state.now) c.args.state.now.version c.args.tables.now c.args.caps.now in
    reads_back _ (plain c.args.state.now) c.args.state.now.version c.args.tables.now c.args.caps.now (returns-clause-json c)
    (subst (λ t. is_digest t ≡ true) (text_found _ _ body c.in_ok-value.ensures.value c.in_ok-digest.ensures.text) c.in_ok-digest.ensures.form)
    (record { caps = caps; tables = c.in_ok-value.ensures.tables up; state = c.in_ok-value.ensures.state; version = (omega arith, low) })
    sound answer reads
