use Rattle.std.proofs.Common.{rules, ◌≡◌, ◌∙◌, ap, ap₂}
use Rattle.std.proofs.lemmas.Result.{IfOk-weaker}
use Rattle.clap.specs.Simple.{App, app_of, with_subcommand}
use Rattle.agent_words.specs.Parser.{run_app, check_app, gen_app, bare_app}
use Rattle.agent_words.proofs.parser.agent_command.Goals as goal

pub returns : goal.returns
returns c =
    let bare_is : app_of c.subcommand_required.result ≡ bare_app = search rules in
    let run_is : app_of c.in_ok-run_command.field-0 ≡ run_app = search rules in
    let check_is : app_of c.in_ok-check_command.field-0 ≡ check_app = search rules in
    let gen_is : app_of c.in_ok-gen_command.field-0 ≡ gen_app = search rules in
    IfOk-weaker c.subcommand-3.result _ _ (λ r h. h.shape (search rules)
    ∙ ap₂ with_subcommand (c.in_ok-subcommand-2.ensures.shape (search rules) ∙ ap₂ with_subcommand (c.in_ok-subcommand.ensures.shape (search rules) ∙ ap₂ with_subcommand bare_is (ap (λ (a : App). a.top) run_is)) (ap (λ (a : App). a.top) check_is)) (ap (λ (a : App). a.top) gen_is)) c.subcommand-3.ensures
