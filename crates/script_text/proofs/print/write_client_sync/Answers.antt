use Rattle.std.proofs.Common.{◌++◌, codes}
use Rattle.std.specs.Fmt.{decimal}
use Rattle.script_text.specs.UpdateText.{client_text, items_text}
use Rattle.script_text.proofs.Writes.{writes_behind, behind_word}
use Rattle.script_text.proofs.print.write_client_sync.Goals as goal

pub returns : goal.returns
returns c =
    let words = codes "client sync " in
    let word = c.client_word-client.result.now in
    let items = items_text c.args.items.now in
    writes_behind c.write_items.result c.args.page.now c.write.new.self c.write_items.new.page (words ++ (decimal c.get-vrf.result ++ (codes " " ++ word))) items (words ++ (decimal c.args.vrf ++ (codes " " ++ (client_text c.args.client ++ items))))
    c.in_ok-write.ensures.bytes c.write_items.ensures (behind_word words word (client_text c.args.client) items c.get-vrf.result c.args.vrf c.get-vrf.ensures c.client_word-client.ensures)
