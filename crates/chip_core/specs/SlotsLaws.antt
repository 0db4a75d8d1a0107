-- Rows of the host table and the entries that they stand for are the same.
use Rattle.std.proofs.Common.{◌≡◌, ℕ, suc, Some, List, [], ◌∷◌, length, refl, sym, ap, ◌∙◌, subst}
use Rattle.std.specs.Ordering.{nat_cmp}
use Rattle.keyed.specs.Keyed.{at, put, without, change}
use Rattle.keyed.specs.KeyOrders.{nat_order}
use Rattle.keyed.specs.Named.{key_of}
use Rattle.keyed.specs.ValueLaws.{change-put}
use Rattle.net_types.specs.KeyOrder.{host_cmp}
use Rattle.net_types.specs.declared.table.HostKey.{HostKey}
use Rattle.net_types.specs.declared.table.HostRow.{HostRow}
use Rattle.chip_core.specs.Slots.{Hosts, host_entries, host_rows, host_at, put_host, set_host, without_host, slot_of, IsLowestFree}

abbrev pub Entries : Type 0
Entries = List (ℕ × (HostKey × HostRow))

pub entries-rows : (entries : Entries) → host_entries (host_rows entries) ≡ entries
entries-rows [] = refl
entries-rows (e ∷ es) = ap (λ (r : Entries). e ∷ r) (entries-rows es)

pub rows-entries : (hosts : Hosts) → host_rows (host_entries hosts) ≡ hosts
rows-entries [] = refl
rows-entries (h ∷ hs) = ap (λ (r : Hosts). h ∷ r) (rows-entries hs)

pub length-rows : (entries : Entries) → length (host_rows entries) ≡ length entries
length-rows [] = refl
length-rows (e ∷ es) = ap (λ (n : ℕ). suc n) (length-rows es)

pub host_at-rows : (slot : ℕ) (entries : Entries) → host_at slot (host_rows entries) ≡ at nat_cmp slot entries
host_at-rows slot entries = ap (at nat_cmp slot) (entries-rows entries)

pub slot_of-rows : (key : HostKey) (entries : Entries) → slot_of key (host_rows entries) ≡ key_of host_cmp (λ h. h.0) key entries
slot_of-rows key entries = ap (λ (l : Entries). key_of host_cmp (λ h. h.0) key l) (entries-rows entries)

pub put_host-rows : (slot : ℕ) (key : HostKey) (row : HostRow) (entries : Entries) → put_host slot key row (host_rows entries) ≡ host_rows (put nat_cmp slot (key, row) entries)
put_host-rows slot key row entries = ap (λ (l : Entries). host_rows (put nat_cmp slot (key, row) l)) (entries-rows entries)

pub without_host-rows : (slot : ℕ) (entries : Entries) → without_host slot (host_rows entries) ≡ host_rows (without nat_cmp slot entries)
without_host-rows slot entries = ap (λ (l : Entries). host_rows (without nat_cmp slot l)) (entries-rows entries)

pub set_host-rows : (slot : ℕ) (old : HostKey × HostRow) (row : HostRow) (entries : Entries) → at nat_cmp slot entries ≡ Some old → set_host slot row (host_rows entries) ≡ host_rows (put nat_cmp slot (old.0, row) entries)
set_host-rows slot old row entries there =
    ap (λ (l : Entries). host_rows (change nat_cmp slot (λ h. (h.0, row)) l)) (entries-rows entries) ∙ ap host_rows (change-put nat_cmp nat_order slot old (λ h. (h.0, row)) entries there)

pub lowest-rows : (slot : ℕ) (entries : Entries) → IsLowestFree slot entries → IsLowestFree slot (host_entries (host_rows entries))
lowest-rows slot entries free = subst (λ (l : Entries). IsLowestFree slot l) (sym (entries-rows entries)) free
