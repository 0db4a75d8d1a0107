use Rattle.script_text.proofs.ScriptLaws.{is_only, is_in_range}
use Rattle.script_text.proofs.whole.read_script.Goals as goal

pub returns-clause-only : goal.returns-clause-only
returns-clause-only c = λ script is. is_only _ script is c.read_whole.result c.read_whole.ensures.script c.read_whole.ensures.fault

pub returns-clause-ranges : goal.returns-clause-ranges
returns-clause-ranges c = is_in_range c.args.bytes.now c.read_whole.result c.read_whole.ensures.script
