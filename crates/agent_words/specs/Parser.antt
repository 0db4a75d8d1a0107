-- The parser of the words, and what its matches say.
use Rattle.std.specs.Prelude.{true, codes, List, Option, Some, None, option_map, if◌then◌else◌}
use Rattle.std.specs.Str.{bytes_eq}
use Rattle.agent_words.specs.Words.{Form, run_form, keep_form, check_form, gen_form}
use Rattle.agent_words.specs.declared.parser.CommandText.{CommandText}
use Rattle.agent_words.specs.declared.parser.CommandText.TheVariants.{Run, Keep, Check, Gen}
use Rattle.clap.specs.Walk.{Row, Rule, Text, first_of}
use Rattle.clap.specs.Simple.{App, new_app, new_rule, on_top, with_rule, with_subcommand}

abbrev pub required_rule : Text → Rule
required_rule id = record (new_rule id) { required = true }

abbrev pub run_app : App
run_app = with_rule (new_app (codes "run")) (new_rule (codes "name"))

abbrev pub check_app : App
check_app = with_rule (new_app (codes "check")) (required_rule (codes "name"))

abbrev pub gen_app : App
gen_app = with_rule (with_rule (new_app (codes "gen")) (required_rule (codes "seed"))) (required_rule (codes "count"))

-- no program's name, no help, no version, and a subcommand that must be there
abbrev pub bare_app : App
bare_app = on_top (λ s. record s {
  no_binary_name = true;
  disable_help_flag = true;
  disable_help_subcommand = true;
  disable_version_flag = true;
  subcommand_required = true;
}) (new_app (codes "fboss_agent"))

abbrev pub agent_app : App
agent_app = with_subcommand (with_subcommand (with_subcommand bare_app run_app.top) check_app.top) gen_app.top

-- what the matches of a subcommand say
abbrev pub run_in : Option Text → Form
run_in None = run_form
run_in (Some name) = keep_form name

abbrev pub gen_in : Option Text → Option Text → Option Form
gen_in (Some seed) (Some count) = Some (gen_form seed count)
gen_in _ _ = None

abbrev pub form_from : Text → Option Text → Option Text → Option Text → Option Form
form_from name first seed count =
    if bytes_eq name (codes "run") then Some (run_in first)
    else if bytes_eq name (codes "check") then option_map check_form first
    else if bytes_eq name (codes "gen") then gen_in seed count
    else None

abbrev pub form_in : Option (Text × List Row) → Option Form
form_in None = None
form_in (Some p) = form_from p.0 (first_of (codes "name") p.1) (first_of (codes "seed") p.1) (first_of (codes "count") p.1)

-- the texts behind the references
abbrev pub form_behind : CommandText → Form
form_behind Run = run_form
form_behind (Keep name) = keep_form name.now
form_behind (Check name) = check_form name.now
form_behind (Gen seed count) = gen_form seed.now count.now
