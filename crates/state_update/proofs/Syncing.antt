-- Routes cut and put one by one.
use Rattle.std.proofs.Common.{◌≡◌, ◌≢◌, ◌==◌, ℕ, ◌+◌, ◌*◌, ◌/◌, ◌^◌, ◌<◌, ◌≤◌, true, false, List, [], ◌∷◌, ◌++◌, length, get_or, drop, All, if◌then◌else◌, filter, map, refl, sym, ap, ◌∙◌, subst, append-nil, append_assoc, inl, inr, arith}
use Rattle.std.specs.Ordering.{nat_cmp}
use Rattle.std.proofs.lemmas.Bool.{both_ways, cases_lt, ne_eqb}
use Rattle.std.proofs.lemmas.Bool.Decides.{Decides-eqb}
use Rattle.std.proofs.lemmas.Nat.{pow_pos}
use Rattle.std.proofs.lemmas.List.Elements.{All-head, All-tail}
use Rattle.std.proofs.lemmas.List.{at_drop_more}
use Rattle.keyed.specs.Keyed.{put, without, Ascends}
use Rattle.keyed.specs.Members.{map_contains}
use Rattle.keyed.specs.Ranges.{onward}
use Rattle.net_types.specs.declared.client.Client.{Client}
use Rattle.net_types.specs.Address.{ip_number}
use Rattle.net_types.specs.Cidr.{Cidr}
use Rattle.net_types.specs.Clients.{client_number}
use Rattle.node_core.specs.Node.{NodeView}
use Rattle.node_map.specs.Paths.{ArePathsMade}
use Rattle.node_map.specs.TreeNode.{Entries}
use Rattle.node_map.proofs.Touching.{paths_more, paths_none}
use Rattle.switch_model.specs.declared.key.RibKey.{RibKey}
use Rattle.switch_model.specs.declared.record.RouteRec.{RouteRec}
use Rattle.switch_model.specs.declared.via.Via.{Via}
use Rattle.switch_model.specs.Effect.{route_of, with_routes}
use Rattle.switch_model.specs.PlainState.{PlainState}
use Rattle.switch_model.specs.StateKeys.{rib_cmp}
use Rattle.state_keys.specs.Bits.{field}
use Rattle.state_keys.specs.KeyLaws.{client_small, within}
use Rattle.state_keys.specs.PartKeys.{family, rib_number, rib_of, vrf_number, IsRib, IsRibNumber}
use Rattle.state_keys.proofs.Ranges.{IsLow, IsUnder, Rise, all_kept, div_mono, dropped, low_next, rise_entries}
use Rattle.switch_state.specs.Edit.{EditView}
use Rattle.switch_state.specs.Plain.{plain}
use Rattle.state_update.specs.Births.{NewBirths, SameBirths}
use Rattle.state_update.specs.Sync.{is_unlisted, without_routes, IsRouteNumber, Loses, Renews}
use Rattle.state_update.proofs.Cases.{by_bool}
use Rattle.state_update.proofs.Keeping.{new_more, none_new}
use Rattle.state_update.proofs.Renewing.{lost_births, loses_more, loses_still, renewed_births, renews_more, renews_still}

-- the client's route in the VRF to the prefix
abbrev pub key_of : ℕ → Client → Cidr → RibKey
key_of vrf client prefix = record { vrf = vrf; prefix = prefix; client = client }

-- the edit with other routes alone
abbrev pub OnlyRoutes : EditView → EditView → Type 0
OnlyRoutes old new = new ≡ record old { state = record old.state { routes = new.state.routes } }

pub only_more : (start now next : EditView) → OnlyRoutes start now → OnlyRoutes now next → OnlyRoutes start next
only_more start now next first second = second ∙ ap (λ (e : EditView). record e { state = record e.state { routes = next.state.routes } }) first

-- a step more makes nodes on the paths of further keys of the kind
pub paths_further : {Is Step : ℕ → Type 0} (start now next : EditView) → OnlyRoutes start now → ((k : ℕ) → Step k → Is k) → ArePathsMade start.state.version Is start.state.routes.nodes now.state.routes.nodes → ArePathsMade now.state.version Step now.state.routes.nodes next.state.routes.nodes → ArePathsMade start.state.version Is start.state.routes.nodes next.state.routes.nodes
paths_further {Is} {Step} start now next only weaker first step =
    let version : now.state.version ≡ start.state.version = ap (λ (e : EditView). e.state.version) only in
    let step2 : ArePathsMade start.state.version Step now.state.routes.nodes next.state.routes.nodes = subst (λ (v : ℕ). ArePathsMade v Step now.state.routes.nodes next.state.routes.nodes) version step in
    paths_more (λ k h. h) weaker first step2

pub born_further : (start now next : EditView) → OnlyRoutes start now → NewBirths start.state.version start.state.routes now.state.routes → SameBirths now.state.routes next.state.routes → NewBirths now.state.version now.state.routes next.state.routes → NewBirths start.state.version start.state.routes next.state.routes
born_further start now next only first same step =
    let version : now.state.version ≡ start.state.version = ap (λ (e : EditView). e.state.version) only in
    let step2 : NewBirths start.state.version now.state.routes next.state.routes = subst (λ (v : ℕ). NewBirths v now.state.routes next.state.routes) version step in
    new_more start.state.version start.state.routes now.state.routes next.state.routes first same step2

-- some of the prefixes are cut, and the rest is left
pub record IsCutting (vrf : ℕ) (client : Client) (all left : List Cidr) (start now : EditView) : Type 0 where
  pub routes : without_routes vrf client left (plain now.state).routes ≡ without_routes vrf client all (plain start.state).routes
  pub others : OnlyRoutes start now
  pub births : Loses (IsRouteNumber vrf client all) start.state.routes now.state.routes
  pub paths : ArePathsMade start.state.version (IsRouteNumber vrf client all) start.state.routes.nodes now.state.routes.nodes
  pub born : NewBirths start.state.version start.state.routes now.state.routes

-- some of the routes are put, and the rest is left
pub record IsPutting (vrf : ℕ) (client : Client) (all left : List (Cidr × Via)) (start now : EditView) : Type 0 where
  pub routes : with_routes vrf client left (plain now.state).routes ≡ with_routes vrf client all (plain start.state).routes
  pub others : OnlyRoutes start now
  pub births : Renews (IsRouteNumber vrf client (map (λ r. r.0) all)) start.state.routes now.state.routes
  pub paths : ArePathsMade start.state.version (IsRouteNumber vrf client (map (λ r. r.0) all)) start.state.routes.nodes now.state.routes.nodes
  pub born : NewBirths start.state.version start.state.routes now.state.routes

-- the place of one of the prefixes, and of one of the routes
pub cut_number : (vrf : ℕ) (client : Client) (all : List Cidr) (index : ℕ) (p : Cidr) → index < length all → p ≡ get_or all index p → IsRib (key_of vrf client p) → (k : ℕ) → rib_number (key_of vrf client p) ≡ k → IsRouteNumber vrf client all k
cut_number vrf client all index p within there range k is = (p, (index, within, sym there), range, is)

pub put_number : (vrf : ℕ) (client : Client) (all : List (Cidr × Via)) (index : ℕ) (r : Cidr × Via) → index < length all → r ≡ get_or all index r → IsRib (key_of vrf client r.0) → (k : ℕ) → rib_number (key_of vrf client r.0) ≡ k → IsRouteNumber vrf client (map (λ x. x.0) all) k
put_number vrf client all index r within there range k is = (r.0, map_contains (λ (x : Cidr × Via). x.0) all r (index, within, sym there), range, is)

pub cut_first : (vrf : ℕ) (client : Client) (all : List Cidr) (start : EditView) → IsCutting vrf client all all start start
cut_first vrf client all start = record { routes = refl; others = refl; births = loses_still _ start.state.routes; paths = paths_none; born = none_new start.state.version start.state.routes }

pub put_first : (vrf : ℕ) (client : Client) (all : List (Cidr × Via)) (start : EditView) → IsPutting vrf client all all start start
put_first vrf client all start = record { routes = refl; others = refl; births = renews_still _ start.state.routes; paths = paths_none; born = none_new start.state.version start.state.routes }

-- one more is cut, or put
pub cut_more : (vrf : ℕ) (client : Client) (all : List Cidr) (index : ℕ) (p : Cidr) (start now next : EditView) → index < length all → p ≡ get_or all index p → IsRib (key_of vrf client p) → IsCutting vrf client all (drop index all) start now → plain next.state ≡ record (plain now.state) { routes = without rib_cmp (key_of vrf client p) (plain now.state).routes } → OnlyRoutes now next → Loses (λ n. rib_number (key_of vrf client p) ≡ n) now.state.routes next.state.routes → ArePathsMade now.state.version (λ n. rib_number (key_of vrf client p) ≡ n) now.state.routes.nodes next.state.routes.nodes → NewBirths now.state.version now.state.routes next.state.routes → IsCutting vrf client all (drop (index + 1) all) start next
cut_more vrf client all index p start now next within there range is effect others births paths born =
    let such = cut_number vrf client all index p within there range in
    record {
      routes = ap (λ (m : PlainState). without_routes vrf client (drop (index + 1) all) m.routes) effect
          ∙ ap (λ (x : Cidr). without_routes vrf client (x ∷ drop (index + 1) all) (plain now.state).routes) there
          ∙ sym (at_drop_more (λ (ps : List Cidr). without_routes vrf client ps (plain now.state).routes) all index p within)
          ∙ is.routes;
      others = only_more start now next is.others others;
      births = loses_more such is.births births;
      paths = paths_further start now next is.others such is.paths paths;
      born = born_further start now next is.others is.born (lost_births births) born;
    }

pub put_more : (vrf : ℕ) (client : Client) (all : List (Cidr × Via)) (index : ℕ) (r : Cidr × Via) (start now next : EditView) → index < length all → r ≡ get_or all index r → IsRib (key_of vrf client r.0) → IsPutting vrf client all (drop index all) start now → plain next.state ≡ record (plain now.state) { routes = put rib_cmp (key_of vrf client r.0) (route_of r.1) (plain now.state).routes } → OnlyRoutes now next → Renews (λ n. rib_number (key_of vrf client r.0) ≡ n) now.state.routes next.state.routes → ArePathsMade now.state.version (λ n. rib_number (key_of vrf client r.0) ≡ n) now.state.routes.nodes next.state.routes.nodes → NewBirths now.state.version now.state.routes next.state.routes → IsPutting vrf client all (drop (index + 1) all) start next
put_more vrf client all index r start now next within there range is effect others births paths born =
    let such = put_number vrf client all index r within there range in
    record {
      routes = ap (λ (m : PlainState). with_routes vrf client (drop (index + 1) all) m.routes) effect
          ∙ ap (λ (x : Cidr × Via). with_routes vrf client (x ∷ drop (index + 1) all) (plain now.state).routes) there
          ∙ sym (at_drop_more (λ (rs : List (Cidr × Via)). with_routes vrf client rs (plain now.state).routes) all index r within)
          ∙ is.routes;
      others = only_more start now next is.others others;
      births = renews_more such is.births births;
      paths = paths_further start now next is.others such is.paths paths;
      born = born_further start now next is.others is.born (renewed_births births) born;
    }

-- the prefixes of the entries whose routes aren't listed
abbrev pub unlisted_of : ℕ → Client → List Cidr → Entries RouteRec → List Cidr
unlisted_of vrf client listed entries = map (λ e. (rib_of e.0).prefix) (filter (λ e. is_unlisted vrf client listed (rib_of e.0)) entries)

-- those of some entries are noted, and the rest of the entries is left
pub record IsNoting (vrf : ℕ) (client : Client) (listed gone : List Cidr) (left all : Entries RouteRec) : Type 0 where
  pub noted : gone ++ unlisted_of vrf client listed left ≡ unlisted_of vrf client listed all
  pub numbers : All (λ e. IsRibNumber e.0) left
  pub rises : Rise (λ (e : ℕ × NodeView RouteRec). e.0) left
  pub low : IsLow (λ (e : ℕ × NodeView RouteRec). e.0) (vrf_number vrf) left

unlisted_first : (vrf : ℕ) (client : Client) (listed : List Cidr) (e : ℕ × NodeView RouteRec) (left : Entries RouteRec) → (if is_unlisted vrf client listed (rib_of e.0) then (rib_of e.0).prefix ∷ [] else []) ++ unlisted_of vrf client listed left ≡ unlisted_of vrf client listed (e ∷ left)
unlisted_first vrf client listed e left = by_bool (is_unlisted vrf client listed (rib_of e.0)) (λ h. rw h refl) (λ h. rw h refl)

-- the first of the entries that are left is noted, where it has to be
pub note_more : (vrf : ℕ) (client : Client) (listed gone after : List Cidr) (e : ℕ × NodeView RouteRec) (met left all : Entries RouteRec) → met ≡ e ∷ left → IsNoting vrf client listed gone met all → after ≡ gone ++ (if is_unlisted vrf client listed (rib_of e.0) then (rib_of e.0).prefix ∷ [] else []) → IsNoting vrf client listed after left all
note_more vrf client listed gone after e met left all first is noted = record {
  noted = ap (λ (l : List Cidr). l ++ unlisted_of vrf client listed left) noted
      ∙ append_assoc gone (if is_unlisted vrf client listed (rib_of e.0) then (rib_of e.0).prefix ∷ [] else []) (unlisted_of vrf client listed left)
      ∙ ap (λ (l : List Cidr). gone ++ l) (unlisted_first vrf client listed e left)
      ∙ ap (λ (es : Entries RouteRec). gone ++ unlisted_of vrf client listed es) (sym first)
      ∙ is.noted;
  numbers = All-tail (λ (x : ℕ × NodeView RouteRec). IsRibNumber x.0) e left (subst (λ (es : Entries RouteRec). All (λ x. IsRibNumber x.0) es) first is.numbers);
  rises = (subst (λ (es : Entries RouteRec). Rise (λ (x : ℕ × NodeView RouteRec). x.0) es) first is.rises).1;
  low = low_next (λ (x : ℕ × NodeView RouteRec). x.0) (vrf_number vrf) e.0 left (subst (λ (es : Entries RouteRec). IsLow (λ (x : ℕ × NodeView RouteRec). x.0) (vrf_number vrf) es) first is.low) (subst (λ (es : Entries RouteRec). Rise (λ (x : ℕ × NodeView RouteRec). x.0) es) first is.rises).0;
}

-- a route of another VRF isn't noted
other_vrf : (vrf : ℕ) (client : Client) (listed : List Cidr) (e : ℕ × NodeView RouteRec) (left : Entries RouteRec) → (field 0 16 e.0 == vrf) ≡ false → unlisted_of vrf client listed (e ∷ left) ≡ unlisted_of vrf client listed left
other_vrf vrf client listed e left other = rw other refl

rib_front : (n : ℕ) → IsRibNumber n → n / 2 ^ 176 ≡ field 0 16 n
rib_front n is =
    let k : RibKey = rib_of n in
    let most = within k.prefix.ip k.prefix.len is.key.ip is.key.prefix.0 in
    let small = client_small k.client in
    front (k.vrf) (family k.prefix.ip) (ip_number k.prefix.ip) k.prefix.len (client_number k.client) n is.key.vrf most.bit most.number most.short small is.same
  where
    front : (v f i l c n : ℕ) → v < 2 ^ 16 → f < 2 ^ 1 → i < 2 ^ 128 → l < 2 ^ 8 → c < 2 ^ 3 → v * 2 ^ 176 + (f * 2 ^ 175 + (i * 2 ^ 47 + (l * 2 ^ 39 + (c * 2 ^ 36 + 0)))) ≡ n → n / 2 ^ 176 ≡ field 0 16 n
    front v f i l c n a1 a2 a3 a4 a5 is = omega (arith, a1, a2, a3, a4, a5, is)

-- past the VRF's last route none is noted
past_vrf : (vrf : ℕ) (client : Client) (listed : List Cidr) (k : ℕ) (es : Entries RouteRec) → vrf < k / 2 ^ 176 → IsUnder (λ (e : ℕ × NodeView RouteRec). e.0) k es → Rise (λ (e : ℕ × NodeView RouteRec). e.0) es → All (λ e. IsRibNumber e.0) es → unlisted_of vrf client listed es ≡ []
past_vrf vrf client listed k [] past under rises numbers = refl
past_vrf vrf client listed k (e ∷ es) past under rises numbers =
    let P : ℕ × NodeView RouteRec → Type 0 = λ x. IsRibNumber x.0 in
    let up : k / 2 ^ 176 ≤ e.0 / 2 ^ 176 = div_mono k e.0 (2 ^ 176) (pow_pos 176) (omega (arith, under)) in
    let read : e.0 / 2 ^ 176 ≡ field 0 16 e.0 = rib_front e.0 (All-head P e es numbers) in
    let above : vrf < e.0 / 2 ^ 176 = omega (arith, past, up) in
    let other : (field 0 16 e.0 == vrf) ≡ false = ne_eqb (field 0 16 e.0) vrf (λ is. omega (arith, above, read, is)) in
    other_vrf vrf client listed e es other ∙ past_vrf vrf client listed e.0 es above rises.0 rises.1 (All-tail P e es numbers)

below_front : (n v : ℕ) → n / 2 ^ 176 ≡ v → n < v * 2 ^ 176 + 0 → ⊥
below_front n v same lt = omega (arith, same, lt)

-- a walk from the VRF's own number on meets all of its routes
pub note_first : (vrf : ℕ) (client : Client) (listed gone : List Cidr) (bound : ℕ) (met all : Entries RouteRec) → gone ≡ [] → bound ≡ vrf_number vrf → met ≡ onward nat_cmp bound all → All (λ e. IsRibNumber e.0) all → Ascends nat_cmp all → IsNoting vrf client listed gone met all
note_first vrf client listed gone bound met all none low is numbers asc =
    subst (λ (l : List Cidr). IsNoting vrf client listed l met all) (sym none) (subst (λ (es : Entries RouteRec). IsNoting vrf client listed [] es all) (sym (is ∙ ap (λ (n : ℕ). onward nat_cmp n all) low)) (from_vrf all numbers (rise_entries all asc)))
  where
    from_vrf : (es : Entries RouteRec) → All (λ e. IsRibNumber e.0) es → Rise (λ (e : ℕ × NodeView RouteRec). e.0) es → IsNoting vrf client listed [] (onward nat_cmp (vrf_number vrf) es) es
    from_vrf [] numbers rises = record { noted = refl; numbers = numbers; rises = tt; low = tt }
    from_vrf (e ∷ es) numbers rises =
        let P : ℕ × NodeView RouteRec → Type 0 = λ x. IsRibNumber x.0 in
        elim (cases_lt e.0 (vrf_number vrf)) [
          | inl lt ↦
              let rest = from_vrf es (All-tail P e es numbers) rises.1 in
              let read : e.0 / 2 ^ 176 ≡ field 0 16 e.0 = rib_front e.0 (All-head P e es numbers) in
              let other : (field 0 16 e.0 == vrf) ≡ false = ne_eqb (field 0 16 e.0) vrf (λ same. below_front e.0 vrf (read ∙ same) lt) in
              rw (dropped e.0 (vrf_number vrf) lt) (record { noted = rest.noted ∙ sym (other_vrf vrf client listed e es other); numbers = rest.numbers; rises = rest.rises; low = rest.low })
          | inr le ↦ subst (λ (l : Entries RouteRec). IsNoting vrf client listed [] l (e ∷ es)) (sym (all_kept (λ (x : ℕ × NodeView RouteRec). x.0) (vrf_number vrf) (e ∷ es) le rises)) (record { noted = refl; numbers = numbers; rises = rises; low = le })
        ]

-- at a route of another VRF all of the VRF's are noted
pub note_stop : (vrf : ℕ) (client : Client) (listed gone : List Cidr) (e : ℕ × NodeView RouteRec) (met left all : Entries RouteRec) → met ≡ e ∷ left → IsNoting vrf client listed gone met all → (field 0 16 e.0 == vrf) ≡ false → gone ≡ unlisted_of vrf client listed all
note_stop vrf client listed gone e met left all first is other =
    let P : ℕ × NodeView RouteRec → Type 0 = λ x. IsRibNumber x.0 in
    let numbers = subst (λ (es : Entries RouteRec). All (λ x. IsRibNumber x.0) es) first is.numbers in
    let rises = subst (λ (es : Entries RouteRec). Rise (λ (x : ℕ × NodeView RouteRec). x.0) es) first is.rises in
    let low : vrf_number vrf ≤ e.0 = subst (λ (es : Entries RouteRec). IsLow (λ (x : ℕ × NodeView RouteRec). x.0) (vrf_number vrf) es) first is.low in
    let read : e.0 / 2 ^ 176 ≡ field 0 16 e.0 = rib_front e.0 (All-head P e left numbers) in
    let apart : field 0 16 e.0 ≢ vrf = λ same. both_ways (field 0 16 e.0 == vrf) other ((Decides-eqb (field 0 16 e.0) vrf).1 same) in
    let past : vrf < e.0 / 2 ^ 176 = above e.0 vrf low (λ same. apart (sym read ∙ same)) in
    let none : unlisted_of vrf client listed met ≡ [] = ap (unlisted_of vrf client listed) first ∙ other_vrf vrf client listed e left other ∙ past_vrf vrf client listed e.0 left past rises.0 rises.1 (All-tail P e left numbers) in
    sym (append-nil gone) ∙ ap (λ (l : List Cidr). gone ++ l) (sym none) ∙ is.noted
  where
    above : (n v : ℕ) → v * 2 ^ 176 + 0 ≤ n → n / 2 ^ 176 ≢ v → v < n / 2 ^ 176
    above n v le apart = elim (cases_lt v (n / 2 ^ 176)) [
      | inl lt ↦ lt
      | inr ge ↦ absurd (apart (omega (arith, le, ge)))
    ]

pub number_of_first : (vrf : ℕ) (client : Client) (listed gone : List Cidr) (e : ℕ × NodeView RouteRec) (met left all : Entries RouteRec) → met ≡ e ∷ left → IsNoting vrf client listed gone met all → IsRibNumber e.0
number_of_first vrf client listed gone e met left all first is = All-head (λ (x : ℕ × NodeView RouteRec). IsRibNumber x.0) e left (subst (λ (es : Entries RouteRec). All (λ x. IsRibNumber x.0) es) first is.numbers)
