use Rattle.std.proofs.Common.{◌∙◌, sym}
use Rattle.serde_json.specs.View.{view}
use Rattle.saved_state.proofs.SavedLaws.{bad_digest, if_some, inner_plain, none_of, restored, some_of, unshaped}
use Rattle.saved_state.proofs.read.read_value.Goals as goal

pub has_digest-requires : goal.has_digest-requires
has_digest-requires c = inner_plain (view c.in-Some.inner.now) c.in-Some.body (if_some _ _ _ c.in_ok-body.ensures.body c.in-Some.is)

pub returns-in_default : goal.returns-in_default
returns-in_default c = λ bytes json. unshaped bytes (view c.args.value.now) json (none_of _ _ _ c.in_ok-body.ensures.shape c.in_default.is)

pub returns-then-branch : goal.returns-then-branch
returns-then-branch c = λ bytes json.
    let inner = if_some _ _ _ c.in_ok-body.ensures.body c.in-Some.is in
    let shape = some_of _ _ _ _ c.in_ok-body.ensures.shape c.in-Some.is in
    restored bytes (view c.args.value.now) (view c.in-Some.inner.now) c.in-Some.body c.in-Some.digest.now json shape inner (sym c.in_ok-has_digest.ensures ∙ c.if-branch.true) c.restore.result c.restore.ensures

pub returns-else-branch : goal.returns-else-branch
returns-else-branch c = λ bytes json.
    let inner = if_some _ _ _ c.in_ok-body.ensures.body c.in-Some.is in
    let shape = some_of _ _ _ _ c.in_ok-body.ensures.shape c.in-Some.is in
    bad_digest bytes (view c.args.value.now) (view c.in-Some.inner.now) c.in-Some.body c.in-Some.digest.now json shape inner (sym c.in_ok-has_digest.ensures ∙ c.if-branch.false)
