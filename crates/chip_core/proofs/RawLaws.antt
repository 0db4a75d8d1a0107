-- What changes of the chip's entries are in its raw tables.
use Rattle.std.proofs.Common.{◌≡◌, ◌≤◌, ℕ, Option, None, Some, IsSome, List, length, sym, ap, ◌∙◌, subst, arith}
use Rattle.std.specs.Ordering.{nat_cmp}
use Rattle.std.specs.declared.cmp.Ordering.{Ordering}
use Rattle.std.proofs.lemmas.List.{length-map}
use Rattle.keyed.specs.Keyed.{at, put, without, Ascends, Each}
use Rattle.keyed.specs.KeyOrders.{nat_order}
use Rattle.keyed.specs.EachLaws.{key_of-each}
use Rattle.keyed.specs.Named.{key_of}
use Rattle.net_types.specs.Derived.{host-derived}
use Rattle.net_types.specs.Groups.{IsGroupLength, group_key_cmp, group_key_of, group_key_order}
use Rattle.net_types.specs.contracts.table.HostKeyOrd.TheImpl as host
use Rattle.net_types.specs.declared.group.Member.{Member}
use Rattle.net_types.specs.declared.table.HostKey.{HostKey}
use Rattle.net_types.specs.declared.table.HostRow.{HostRow}
use Rattle.chip_core.specs.Sim.{Contents, tables_of}
use Rattle.chip_core.specs.Slots.{Hosts, Groups, host_rows, host_at, put_host, set_host, without_host, slot_of, group_slot_of}
use Rattle.chip_core.specs.SlotsLaws.{Entries, host_at-rows, slot_of-rows, put_host-rows, set_host-rows, without_host-rows}

-- the slot of a key, by the derived order
pub found_as : (key : HostKey) (hosts : Entries) → slot_of key (host_rows hosts) ≡ key_of (host.cmp-value).it (λ h. h.0) key hosts
found_as key hosts = slot_of-rows key hosts ∙ ap (λ (cmp : HostKey → HostKey → Ordering). key_of cmp (λ h. h.0) key hosts) (sym host-derived)

module _ (c : Contents) (now : Entries) where
  as_hosts : (rows : Hosts) → host_rows now ≡ rows → tables_of (record c { host = now }) ≡ record (tables_of c) { host = rows }
  as_hosts rows is = ap (λ (h : Hosts). record (tables_of c) { host = h }) is

  pub raw-put_host : (slot : ℕ) (key : HostKey) (row : HostRow) → now ≡ put nat_cmp slot (key, row) c.host → tables_of (record c { host = now }) ≡ record (tables_of c) { host = put_host slot key row (host_rows c.host) }
  raw-put_host slot key row is = as_hosts (put_host slot key row (host_rows c.host)) (ap host_rows is ∙ sym (put_host-rows slot key row c.host))

  pub raw-set_host : (slot : ℕ) (old : HostKey × HostRow) (row : HostRow) → at nat_cmp slot c.host ≡ Some old → now ≡ put nat_cmp slot (old.0, row) c.host → tables_of (record c { host = now }) ≡ record (tables_of c) { host = set_host slot row (host_rows c.host) }
  raw-set_host slot old row there is = as_hosts (set_host slot row (host_rows c.host)) (ap host_rows is ∙ sym (set_host-rows slot old row c.host there))

  pub raw-without_host : (slot : ℕ) → now ≡ without nat_cmp slot c.host → tables_of (record c { host = now }) ≡ record (tables_of c) { host = without_host slot (host_rows c.host) }
  raw-without_host slot is = as_hosts (without_host slot (host_rows c.host)) (ap host_rows is ∙ sym (without_host-rows slot c.host))

pub there_as : (slot : ℕ) (hosts : Entries) → IsSome (host_at slot (host_rows hosts)) → IsSome (at nat_cmp slot hosts)
there_as slot hosts there = subst (λ (o : Option (HostKey × HostRow)). IsSome o) (host_at-rows slot hosts) there

-- more slots than a group can have are none's
pub too_many : (slots : List ℕ) (groups : Groups) → Ascends nat_cmp groups → Each nat_cmp (λ members. IsGroupLength (length members)) groups → (length slots ≤ 64 → ⊥) → group_slot_of slots groups ≡ None
too_many slots groups asc lengths many = key_of-each nat_cmp nat_order group_key_cmp group_key_order group_key_of slots groups asc
    (record { each = λ k members is. λ same. many (omega (arith, length-map members (λ (m : Member). m.host), ap length same, (lengths.each k members is).1)) })

pub none_there : {T : Type 0} (o : Option T) → IsSome o → o ≡ None → ⊥
none_there (Some v) there none = absurd (cc)
none_there None there none = absurd (cc)
