-- What is printed of an update is read as that update.
use Rattle.std.proofs.Common.{◌≡◌, ◌<◌, ◌≤◌, ◌^◌, ℕ, List, [], ◌∷◌, ◌++◌, Bool, true, false, Option, Result, Ok, refl, sym, subst, ◌∙◌, arith, codes, append_assoc}
use Rattle.std.specs.List.{AllByRecursion}
use Rattle.std.specs.Prelude.{map}
use Rattle.std.specs.Fmt.{decimal}
use Rattle.std.proofs.lemmas.List.{append-nil}
use Rattle.net_types.specs.declared.client.Client.{Client}
use Rattle.net_types.specs.declared.client.Client.TheVariants.{Interface, Static, Openr, Ebgp, Ibgp}
use Rattle.net_types.specs.declared.hop.Hop.{Hop}
use Rattle.net_types.specs.declared.ip.Ip.{Ip}
use Rattle.net_types.specs.Cidr.{Cidr}
use Rattle.net_types.specs.Names.{is_vlan_name}
use Rattle.net_types.specs.Prefix.{IsAddr, IsPrefix}
use Rattle.ip_text.specs.Printed.{ip_text, prefix_text, addr_text, mac_text, hop_text}
use Rattle.ip_text.specs.RoundTrip.{IsIpValue, IsHopValue, IsWordOf}
use Rattle.ip_text.specs.Values.{ip_of, prefix_of, addr_of, mac_of, hop_of}
use Rattle.switch_model.specs.declared.act.Act.{Act}
use Rattle.switch_model.specs.declared.act.Act.TheVariants.{VlanAdd, VlanDel, PortAdd, PortDel, PortVlan, PortUp, PortDown, IntfAdd, IntfDel, AddrAdd, AddrDel, NeighborSet, NeighborPending, NeighborDel, MacSet, MacDel, RouteSet, RouteDel, ClientSync}
use Rattle.switch_model.specs.declared.act.Update.{Update}
use Rattle.switch_model.specs.declared.via.Via.{Via}
use Rattle.switch_model.specs.declared.via.Via.TheVariants.{Hops, ToCpu, Discard}
use Rattle.script_words.specs.Words.{words}
use Rattle.script_words.specs.Grammar.{Token, key, number, vlan, port, intf, vrf, vlan_name, ip, addr, prefix, mac, hop, client, client_of, Spells}
use Rattle.script_text.specs.Grammar.{action, item, more_items, items, act, marked, update}
use Rattle.script_text.specs.Reading.{update_at}
use Rattle.script_text.specs.ReadBack.{IsReadAs}
use Rattle.script_text.specs.UpdateText.{client_text, hops_text, via_text, item_text, more_items_text, items_text, act_text, update_text}
use Rattle.script_text.specs.Values.{IsAddrValue, IsPrefixValue, IsViaValue, IsItemValue, IsActValue, IsUpdateValue}
use Rattle.script_text.proofs.EntryLaws.{update_again}
use Rattle.script_text.proofs.SaysLaws.{IsWord, IsBreak, Says, more, none_left, behind, literal, decimal_word, name_word}

-- what the printing of addresses gives
pub record PrintsWords : Type 0 where
  pub ip : (a : Ip) → IsIpValue a → IsWordOf ip_of a (ip_text a)
  pub prefix : (p : Cidr) → IsIpValue p.ip → IsPrefix p → IsWordOf prefix_of p (prefix_text p)
  pub addr : (a : Cidr) → IsIpValue a.ip → IsAddr a → IsWordOf addr_of a (addr_text a)
  pub mac : (m : ℕ) → m < 2 ^ 48 → IsWordOf mac_of m (mac_text m)
  pub hop : (h : Hop) → IsHopValue h → IsWordOf hop_of h (hop_text h)

one : {A : Type 0} {of : List ℕ → Option A} {a : A} {text : List ℕ} → IsWordOf of a text → IsWord text
one is = record { some = is.some; solid = is.solid }

number_more : (low high n : ℕ) (ts : List Token) (rest : List ℕ) → high < 2 ^ 59 → low ≤ n → n ≤ high → IsBreak rest → Says ts rest → Says (number low high n ∷ ts) (decimal n ++ rest)
number_more low high n ts rest small enough within break says = more (number low high n) ts (decimal n) rest ((enough, within), refl) (decimal_word n (omega (arith, within))) break says

client_word : (c : Client) → IsWord (client_text c)
client_word Interface = literal (codes "interface") refl (omega arith)
client_word Static = literal (codes "static") refl (omega arith)
client_word Openr = literal (codes "openr") refl (omega arith)
client_word Ebgp = literal (codes "ebgp") refl (omega arith)
client_word Ibgp = literal (codes "ibgp") refl (omega arith)

client_is : (c : Client) → Spells (client c) (client_text c)
unfolding client_of
client_is Interface = refl
client_is Static = refl
client_is Openr = refl
client_is Ebgp = refl
client_is Ibgp = refl

client_more : (c : Client) (ts : List Token) (rest : List ℕ) → IsBreak rest → Says ts rest → Says (client c ∷ ts) (client_text c ++ rest)
client_more c ts rest break says = more (client c) ts (client_text c) rest (client_is c) (client_word c) break says

-- the last word of a line
last : (token : Token) (word : List ℕ) → Spells token word → IsWord word → Says (token ∷ []) word
last token word is good = subst (Says (token ∷ [])) (append-nil word) (more token [] word [] is good tt none_left)

number_last : (low high n : ℕ) → high < 2 ^ 59 → low ≤ n → n ≤ high → Says (number low high n ∷ []) (decimal n)
number_last low high n small enough within = last (number low high n) (decimal n) ((enough, within), refl) (decimal_word n (omega (arith, within)))

module _ (prints : PrintsWords) where
  hops_break : (hs : List Hop) (rest : List ℕ) → IsBreak rest → IsBreak (hops_text hs ++ rest)
  hops_break [] rest break = break
  hops_break (h ∷ hs) rest break = refl

  says_hops : (hs : List Hop) (ts : List Token) (rest : List ℕ) → AllByRecursion IsHopValue hs → IsBreak rest → Says ts rest → Says (map hop hs ++ ts) (hops_text hs ++ rest)
  says_hops [] ts rest values break says = says
  says_hops (h ∷ hs) ts rest values break says =
      let is = prints.hop h values.0 in
      let whole : hop_text h ++ (hops_text hs ++ rest) ≡ (hop_text h ++ hops_text hs) ++ rest = sym (append_assoc (hop_text h) (hops_text hs) rest) in
      behind (hop h ∷ (map hop hs ++ ts)) ((hop_text h ++ hops_text hs) ++ rest)
      (subst (Says (hop h ∷ (map hop hs ++ ts))) whole (more (hop h) (map hop hs ++ ts) (hop_text h) (hops_text hs ++ rest) is.spells (one is) (hops_break hs rest break) (says_hops hs ts rest values.1 break says)))

  says_via : (via : Via) (ts : List Token) (rest : List ℕ) → IsViaValue via → IsBreak rest → Says ts rest → Says (action via ++ ts) (via_text via ++ rest)
  says_via (Hops hs) ts rest values break says =
      subst (Says (key (codes "via") ∷ (map hop hs ++ ts))) (sym (append_assoc (codes "via") (hops_text hs) rest))
      (more (key (codes "via")) (map hop hs ++ ts) (codes "via") (hops_text hs ++ rest) refl (literal (codes "via") refl (omega arith)) (hops_break hs rest break) (says_hops hs ts rest values break says))
  says_via ToCpu ts rest values break says = more (key (codes "cpu")) ts (codes "cpu") rest refl (literal (codes "cpu") refl (omega arith)) break says
  says_via Discard ts rest values break says = more (key (codes "drop")) ts (codes "drop") rest refl (literal (codes "drop") refl (omega arith)) break says

  says_item : (x : Cidr × Via) (ts : List Token) (rest : List ℕ) → IsItemValue x → IsBreak rest → Says ts rest → Says (item x ++ ts) (item_text x ++ rest)
  says_item x ts rest values break says =
      let is = prints.prefix x.0 values.0.0 values.0.1 in
      let via : List ℕ = via_text x.1 in
      subst (Says (prefix x.0 ∷ (action x.1 ++ ts))) (sym (append_assoc (prefix_text x.0) (32 ∷ via) rest))
      (more (prefix x.0) (action x.1 ++ ts) (prefix_text x.0) (32 ∷ (via ++ rest)) is.spells (one is) refl (behind (action x.1 ++ ts) (via ++ rest) (says_via x.1 ts rest values.1 break says)))

  items_break : (xs : List (Cidr × Via)) → IsBreak (more_items_text xs)
  items_break [] = tt
  items_break (x ∷ xs) = refl

  says_more_items : (xs : List (Cidr × Via)) → AllByRecursion IsItemValue xs → Says (more_items xs) (more_items_text xs)
  says_more_items [] values = none_left
  says_more_items (x ∷ xs) values =
      let rest : List ℕ = item_text x ++ more_items_text xs in
      let ts : List Token = item x ++ more_items xs in
      behind (key (codes ";") ∷ ts) (59 ∷ 32 ∷ rest)
      (more (key (codes ";")) ts (codes ";") (32 ∷ rest) refl (literal (codes ";") refl (omega arith)) refl (behind ts rest (says_item x (more_items xs) (more_items_text xs) values.0 (items_break xs) (says_more_items xs values.1))))

  all_items_break : (xs : List (Cidr × Via)) → IsBreak (items_text xs)
  all_items_break [] = tt
  all_items_break (x ∷ xs) = refl

  says_items : (xs : List (Cidr × Via)) → AllByRecursion IsItemValue xs → Says (items xs) (items_text xs)
  says_items [] values = none_left
  says_items (x ∷ xs) values = behind (item x ++ more_items xs) (item_text x ++ more_items_text xs) (says_item x (more_items xs) (more_items_text xs) values.0 (items_break xs) (says_more_items xs values.1))

  ip_more : (a : Ip) (ts : List Token) (rest : List ℕ) → IsIpValue a → IsBreak rest → Says ts rest → Says (ip a ∷ ts) (ip_text a ++ rest)
  ip_more a ts rest value break says = let is = prints.ip a value in more (ip a) ts (ip_text a) rest is.spells (one is) break says

  ip_last : (a : Ip) → IsIpValue a → Says (ip a ∷ []) (ip_text a)
  ip_last a value = let is = prints.ip a value in last (ip a) (ip_text a) is.spells (one is)

  addr_last : (a : Cidr) → IsAddrValue a → Says (addr a ∷ []) (addr_text a)
  addr_last a value = let is = prints.addr a value.0 value.1 in last (addr a) (addr_text a) is.spells (one is)

  mac_more : (m : ℕ) (ts : List Token) (rest : List ℕ) → m < 2 ^ 48 → IsBreak rest → Says ts rest → Says (mac m ∷ ts) (mac_text m ++ rest)
  mac_more m ts rest value break says = let is = prints.mac m value in more (mac m) ts (mac_text m) rest is.spells (one is) break says

  mac_last : (m : ℕ) → m < 2 ^ 48 → Says (mac m ∷ []) (mac_text m)
  mac_last m value = let is = prints.mac m value in last (mac m) (mac_text m) is.spells (one is)

  prefix_more : (p : Cidr) (ts : List Token) (rest : List ℕ) → IsPrefixValue p → IsBreak rest → Says ts rest → Says (prefix p ∷ ts) (prefix_text p ++ rest)
  prefix_more p ts rest value break says = let is = prints.prefix p value.0 value.1 in more (prefix p) ts (prefix_text p) rest is.spells (one is) break says

  via_last : (via : Via) → IsViaValue via → Says (action via) (via_text via)
  via_last via value = subst (λ (ts : List Token). Says ts (via_text via)) (append-nil (action via)) (subst (Says (action via ++ [])) (append-nil (via_text via)) (says_via via [] [] value tt none_left))

  vlan_last : (v : ℕ) → (1 ≤ v) × (v ≤ 4094) → Says (vlan v ∷ []) (decimal v)
  vlan_last v is = number_last 1 4094 v (omega arith) is.0 is.1

  port_last : (p : ℕ) → (1 ≤ p) × (p ≤ 1024) → Says (port p ∷ []) (decimal p)
  port_last p is = number_last 1 1024 p (omega arith) is.0 is.1

  intf_last : (i : ℕ) → (1 ≤ i) × (i ≤ 4294967295) → Says (intf i ∷ []) (decimal i)
  intf_last i is = number_last 1 4294967295 i (omega arith) is.0 is.1

  vlan_more : (v : ℕ) (ts : List Token) (rest : List ℕ) → (1 ≤ v) × (v ≤ 4094) → IsBreak rest → Says ts rest → Says (vlan v ∷ ts) (decimal v ++ rest)
  vlan_more v ts rest is break says = number_more 1 4094 v ts rest (omega arith) is.0 is.1 break says

  port_more : (p : ℕ) (ts : List Token) (rest : List ℕ) → (1 ≤ p) × (p ≤ 1024) → IsBreak rest → Says ts rest → Says (port p ∷ ts) (decimal p ++ rest)
  port_more p ts rest is break says = number_more 1 1024 p ts rest (omega arith) is.0 is.1 break says

  intf_more : (i : ℕ) (ts : List Token) (rest : List ℕ) → (1 ≤ i) × (i ≤ 4294967295) → IsBreak rest → Says ts rest → Says (intf i ∷ ts) (decimal i ++ rest)
  intf_more i ts rest is break says = number_more 1 4294967295 i ts rest (omega arith) is.0 is.1 break says

  vrf_more : (n : ℕ) (ts : List Token) (rest : List ℕ) → n ≤ 65535 → IsBreak rest → Says ts rest → Says (vrf n ∷ ts) (decimal n ++ rest)
  vrf_more n ts rest is break says = number_more 0 65535 n ts rest (omega arith) (omega arith) is break says

  name_last : (n : List ℕ) → is_vlan_name n ≡ true → Says (vlan_name n ∷ []) n
  name_last n is = last (vlan_name n) n (is, refl) (name_word n is)

  -- behind two known words
  says_act : (a : Act) → IsActValue a → Says (act a) (act_text a)
  unfolding words
  says_act (VlanAdd v n) is = (refl, (refl, vlan_more v (vlan_name n ∷ []) (32 ∷ n) is.0 refl (name_last n is.1)))
  says_act (VlanDel v) is = (refl, (refl, vlan_last v is))
  says_act (PortAdd p v) is = (refl, (refl, port_more p (vlan v ∷ []) (32 ∷ decimal v) is.0 refl (vlan_last v is.1)))
  says_act (PortDel p) is = (refl, (refl, port_last p is))
  says_act (PortVlan p v) is = (refl, (refl, port_more p (vlan v ∷ []) (32 ∷ decimal v) is.0 refl (vlan_last v is.1)))
  says_act (PortUp p) is = (refl, (refl, port_last p is))
  says_act (PortDown p) is = (refl, (refl, port_last p is))
  says_act (IntfAdd i v n m) is = (
    refl,
    (
      refl,
      intf_more i (vlan v ∷ vrf n ∷ mac m ∷ []) (32 ∷ (decimal v ++ (32 ∷ (decimal n ++ (32 ∷ mac_text m))))) is.0 refl
          (vlan_more v (vrf n ∷ mac m ∷ []) (32 ∷ (decimal n ++ (32 ∷ mac_text m))) is.1 refl (vrf_more n (mac m ∷ []) (32 ∷ mac_text m) is.2 refl (mac_last m is.3))),
    ),
  )
  says_act (IntfDel i) is = (refl, (refl, intf_last i is))
  says_act (AddrAdd i a) is = (refl, (refl, intf_more i (addr a ∷ []) (32 ∷ addr_text a) is.0 refl (addr_last a is.1)))
  says_act (AddrDel i a) is = (refl, (refl, intf_more i (addr a ∷ []) (32 ∷ addr_text a) is.0 refl (addr_last a is.1)))
  says_act (NeighborSet i a m p) is = (
    refl,
    (
      refl,
      intf_more i (ip a ∷ mac m ∷ port p ∷ []) (32 ∷ (ip_text a ++ (32 ∷ (mac_text m ++ (32 ∷ decimal p))))) is.0 refl
          (ip_more a (mac m ∷ port p ∷ []) (32 ∷ (mac_text m ++ (32 ∷ decimal p))) is.1 refl (mac_more m (port p ∷ []) (32 ∷ decimal p) is.2 refl (port_last p is.3))),
    ),
  )
  says_act (NeighborPending i a) is = (refl, (refl, intf_more i (ip a ∷ []) (32 ∷ ip_text a) is.0 refl (ip_last a is.1)))
  says_act (NeighborDel i a) is = (refl, (refl, intf_more i (ip a ∷ []) (32 ∷ ip_text a) is.0 refl (ip_last a is.1)))
  says_act (MacSet v m p) is = (refl, (refl, vlan_more v (mac m ∷ port p ∷ []) (32 ∷ (mac_text m ++ (32 ∷ decimal p))) is.0 refl (mac_more m (port p ∷ []) (32 ∷ decimal p) is.1 refl (port_last p is.2))))
  says_act (MacDel v m) is = (refl, (refl, vlan_more v (mac m ∷ []) (32 ∷ mac_text m) is.0 refl (mac_last m is.1)))
  says_act (RouteSet n p c via) is = (
    refl,
    (
      refl,
      vrf_more n (prefix p ∷ client c ∷ action via) (32 ∷ (prefix_text p ++ (32 ∷ (client_text c ++ (32 ∷ via_text via))))) is.0 refl
          (prefix_more p (client c ∷ action via) (32 ∷ (client_text c ++ (32 ∷ via_text via))) is.1 refl (client_more c (action via) (32 ∷ via_text via) refl (via_last via is.2))),
    ),
  )
  says_act (RouteDel n p c) is = (
    refl,
    (
      refl,
      vrf_more n (prefix p ∷ client c ∷ []) (32 ∷ (prefix_text p ++ (32 ∷ client_text c))) is.0 refl
          (prefix_more p (client c ∷ []) (32 ∷ client_text c) is.1 refl (last (client c) (client_text c) (client_is c) (client_word c))),
    ),
  )
  says_act (ClientSync n c xs) is =
      (refl, (refl, vrf_more n (client c ∷ items xs) (32 ∷ (client_text c ++ items_text xs)) is.0 refl (client_more c (items xs) (items_text xs) (all_items_break xs) (says_items xs is.1))))

  says_by : (alone : Bool) (a : Act) → IsActValue a → Says (marked alone (codes "alone") (act a)) (update_text (record { alone = alone; act = a }))
  unfolding words
  says_by true a is = (refl, says_act a is)
  says_by false a is = says_act a is

  same_update : (u v : Update) (r : Result Update ℕ) → r ≡ Ok u → r ≡ Ok v → v ≡ u
  same_update u v r first second = let both = sym second ∙ first in cc

  pub read_back : (u : Update) → IsUpdateValue u → IsReadAs u (update_text u)
  read_back u value =
      let says = says_by u.alone u.act value in
      record { says = says; only = λ other is. same_update u other (update_at (words (update_text u))) ((update_again u).again (words (update_text u)) says) ((update_again other).again (words (update_text u)) is) }
