use Rattle.std.proofs.Common.{◌≡◌, ◌++◌, drop}
use Rattle.std.specs.List.{flat_map}
use Rattle.switch_model.specs.Rows.{host_row}
use Rattle.switch_state.specs.Plain.{plain}
use Rattle.row_sources.specs.Entry.{entry_of}
use Rattle.row_sources.proofs.host.rows_of_hosts.Given as goal

abbrev pub invariant-loop-key : goal.invariant-loop-key
invariant-loop-key l = l.list.items ++ flat_map (λ key. entry_of key (host_row (plain l.state) key)) (drop l.key-index l.keys) ≡ flat_map (λ key. entry_of key (host_row (plain l.state) key)) l.keys
