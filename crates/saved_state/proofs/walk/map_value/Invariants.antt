use Rattle.std.proofs.Common.{map}
use Rattle.serde_json.specs.View.{view}
use Rattle.saved_state.proofs.Walked.{IsWriting}
use Rattle.saved_state.proofs.walk.map_value.Given as goal

abbrev pub invariant-loop-key : goal.invariant-loop-key
invariant-loop-key g l = IsWriting g.F.EntryWriter.is_number g.F.EntryWriter.key_of g.F.EntryWriter.json_of g.F.EntryWriter.legal (map view l.items.items) l.key-iterator l.fn.map.entries
