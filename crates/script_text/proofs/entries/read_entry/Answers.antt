use Rattle.script_text.proofs.EntryLaws.{is_found, is_fault}
use Rattle.script_text.proofs.entries.read_entry.Goals as goal

pub returns-clause-found : goal.returns-clause-found
returns-clause-found c = is_found c.args.stage c.args.number c.requires _ c.new.result c.entry_of.result c.new.ensures c.entry_of.ensures

pub returns-clause-fault : goal.returns-clause-fault
returns-clause-fault c = is_fault c.args.stage c.args.number c.requires _ c.new.result c.entry_of.result c.new.ensures c.entry_of.ensures
