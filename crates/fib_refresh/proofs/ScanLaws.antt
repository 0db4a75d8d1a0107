-- A scan of the routes, VRF by VRF, and a list of keys as a set.
use Rattle.std.proofs.Common.{◌≡◌, ◌≢◌, ◌<◌, ◌≤◌, ◌+◌, ◌*◌, ◌/◌, ◌^◌, ◌==◌, ℕ, Bool, true, false, Option, None, Some, Result, Ok, Err, OnOk, List, [], ◌∷◌, ◌++◌, ◌⊎◌, length, get_or, take, refl, sym, ap, ◌∙◌, subst, inl, inr, arith}
use Rattle.std.specs.List.{All, Contains, filter}
use Rattle.std.specs.List.Sorted.{IsStrictlySortedBy}
use Rattle.std.specs.Cmp.{nat_cmp_is}
use Rattle.std.specs.Ordering.{is_ge, nat_cmp}
use Rattle.std.specs.declared.cmp.Ordering.TheVariants.{Less, Equal, Greater}
use Rattle.std.proofs.lemmas.Bool.{cases_Bool, cases_lt, true≢false}
use Rattle.std.proofs.lemmas.Bool.Decides.{Decides-eqb}
use Rattle.std.proofs.lemmas.Cmp.{ranked}
use Rattle.std.proofs.lemmas.List.{take_more}
use Rattle.std.proofs.lemmas.List.Elements.{All-contains, Contains-append_left, Contains-push, Contains-push_cases}
use Rattle.std.proofs.lemmas.Nat.{pow_pos}
use Rattle.keyed.specs.FilterLaws.{ascends-filter_entries}
use Rattle.keyed.specs.Cases.{none_some, some_is}
use Rattle.keyed.specs.Keyed.{Ascends, IsBelow}
use Rattle.keyed.specs.KeyedLaws.{below_before}
use Rattle.keyed.specs.KeyOrders.{nat_order}
use Rattle.keyed.specs.Members.{contains_cases, contains_filter, contains_first, contains_later, contains_map, contains_none, filter_contains, map_contains}
use Rattle.keyed.specs.Ranges.{onward}
use Rattle.keyed.specs.SetLaws.{contains_insert, insert_contains}
use Rattle.keyed.specs.Sets.{insert}
use Rattle.net_types.specs.declared.table.RouteKey.{RouteKey}
use Rattle.net_types.specs.Address.{ip_number}
use Rattle.net_types.specs.Clients.{client_number}
use Rattle.net_types.specs.KeyOrder.{route_cmp, route_order}
use Rattle.node_core.specs.Node.{NodeView}
use Rattle.node_map.specs.TreeNode.{Entries}
use Rattle.state_keys.proofs.Ranges.{dropped, div_mono}
use Rattle.state_keys.specs.Bits.{field}
use Rattle.state_keys.specs.KeyLaws.{client_small, within}
use Rattle.state_keys.specs.PartKeys.{family, rib_of, vrf_number, IsRibNumber}
use Rattle.state_scan.specs.Listed.{listed}
use Rattle.switch_model.specs.declared.key.RibKey.{RibKey}
use Rattle.switch_model.specs.declared.record.RouteRec.{RouteRec}
use Rattle.switch_model.specs.Looking.{is_past, key_after}
use Rattle.fib_build.proofs.Keys.{below_or_same, filter_fewer, not_past, past_more}
use Rattle.fib_build.proofs.NextLaws.{next-of}
use Rattle.fib_build.specs.Next.{IsFirstPast}
use Rattle.rib_lookup.specs.Tables.{key_of_rib}
use Rattle.fib_refresh.proofs.AffectedLaws.{key_of_vrf}
use Rattle.fib_refresh.specs.declared.affected.Level.{Level}
use Rattle.fib_refresh.specs.Affected.{has_hop_in, is_key_of, HasAll, HasCome, IsGrown, IsLevel, IsScanned, IsVrfDone, IsVrfScanned}

-- keys that grew
grown-none : (routes : List (RibKey × RouteRec)) (level : Level) → IsGrown routes level level
grown-none routes level = record { kept = λ k has. has; same = inl refl }

grown-on : (routes : List (RibKey × RouteRec)) (a b c : Level) → IsGrown routes a b → IsGrown routes b c → IsGrown routes a c
grown-on routes a b c first second = record {
  kept = λ k has. second.kept k (first.kept k has);
  same = elim second.same [
    | inl still ↦ subst (λ (l : Level). (l ≡ a) ⊎ ((l.grew ≡ true) × HasCome routes a.keys l.keys)) (sym still) first.same
    | inr new ↦ inr (new.0, record { route = new.1.route; among = new.1.among; here = new.1.here; absent = λ has. new.1.absent (first.kept (key_of_rib new.1.route.0) has) })
  ];
}

grown-wider : (routes : List (RibKey × RouteRec)) (e : RibKey × RouteRec) (a b : Level) → Contains routes e → IsGrown (e ∷ []) a b → IsGrown routes a b
grown-wider routes e a b has grown = record {
  kept = grown.kept;
  same = elim grown.same [
    | inl still ↦ inl still
    | inr new ↦ inr (new.0, record { route = new.1.route; among = one new.1.route new.1.among; here = new.1.here; absent = new.1.absent })
  ];
}
  where
    one : (x : RibKey × RouteRec) → Contains (e ∷ []) x → Contains routes x
    one x among = elim (contains_cases e [] x among) [
      | inl is ↦ subst (λ (y : RibKey × RouteRec). Contains routes y) (sym is) has
      | inr none ↦ absurd (contains_none x none)
    ]

-- one route
pub scanned-not : (keys : List RouteKey) (key : RibKey) (route : RouteRec) (level : Level) (any : Bool) → any ≡ has_hop_in keys key route → any ≡ false → IsScanned keys key route level level
scanned-not keys key route level any is fails = record {
  grown = grown-none ((key, route) ∷ []) level;
  taken = λ holds. absurd (true≢false (sym holds ∙ sym is ∙ fails));
}

pub scanned-there : (keys : List RouteKey) (key : RibKey) (route : RouteRec) (level : Level) → Contains level.keys (key_of_rib key) → IsScanned keys key route level level
scanned-there keys key route level there = record { grown = grown-none ((key, route) ∷ []) level; taken = λ _. there }

pub scanned-new : (keys : List RouteKey) (key : RibKey) (route : RouteRec) (level next : Level) → next.keys ≡ insert route_cmp (key_of_rib key) level.keys → next.grew ≡ true → (Contains level.keys (key_of_rib key) → ⊥) → IsScanned keys key route level next
scanned-new keys key route level next is grew absent =
    let here : Contains next.keys (key_of_rib key) = subst (λ (l : List RouteKey). Contains l (key_of_rib key)) (sym is) (insert_contains route_cmp route_order (key_of_rib key) level.keys (key_of_rib key) (inl refl)) in
    record {
      grown = record {
        kept = λ k has. subst (λ (l : List RouteKey). Contains l k) (sym is) (insert_contains route_cmp route_order (key_of_rib key) level.keys k (inr has));
        same = inr (grew, record { route = (key, route); among = contains_first (key, route) []; here = here; absent = absent });
      };
      taken = λ _. here;
    }

-- the routes of a VRF
abbrev pub of_entry : ℕ × NodeView RouteRec → RibKey × RouteRec
of_entry e = (rib_of e.0, e.1.value)

vrf_front : (n : ℕ) → IsRibNumber n → n / 2 ^ 176 ≡ field 0 16 n
vrf_front n is =
    let k : RibKey = rib_of n in
    let most = within k.prefix.ip k.prefix.len is.key.ip is.key.prefix.0 in
    let small = client_small k.client in
    front (k.vrf) (family k.prefix.ip) (ip_number k.prefix.ip) k.prefix.len (client_number k.client) n is.key.vrf most.bit most.number most.short small is.same
  where
    front : (v f i l c n : ℕ) → v < 2 ^ 16 → f < 2 ^ 1 → i < 2 ^ 128 → l < 2 ^ 8 → c < 2 ^ 3 → v * 2 ^ 176 + (f * 2 ^ 175 + (i * 2 ^ 47 + (l * 2 ^ 39 + (c * 2 ^ 36 + 0)))) ≡ n → n / 2 ^ 176 ≡ field 0 16 n
    front v f i l c n a1 a2 a3 a4 a5 is = omega (arith, a1, a2, a3, a4, a5, is)

below_front : (n v : ℕ) → n / 2 ^ 176 ≡ v → n < v * 2 ^ 176 + 0 → ⊥
below_front n v same lt = omega (arith, same, lt)

above_front : (n v : ℕ) → v * 2 ^ 176 + 0 ≤ n → n / 2 ^ 176 ≢ v → v < n / 2 ^ 176
above_front n v le apart = elim (cases_lt v (n / 2 ^ 176)) [
  | inl lt ↦ lt
  | inr ge ↦ absurd (apart (omega (arith, le, ge)))
]

reached : (k bound : ℕ) → bound ≤ k → is_ge (nat_cmp k bound) ≡ true
reached k bound le = elim (eq_or_above bound k le) [
  | inl is ↦ ap is_ge (sym (nat_cmp_is k bound Equal (sym is)))
  | inr lt ↦ ap is_ge (sym (nat_cmp_is k bound Greater lt))
]
  where
    eq_or_above : (a b : ℕ) → a ≤ b → (a ≡ b) ⊎ (a < b)
    eq_or_above a b le = grind (arith, le)

later_above : {V : Type 0} (k : ℕ) (es : List (ℕ × V)) (x : ℕ × V) → IsBelow nat_cmp k es → Ascends nat_cmp es → Contains es x → k < x.0
later_above k [] x below asc has = absurd (contains_none x has)
later_above {V} k (e ∷ es) x below asc has = elim (contains_cases e es x has) [
  | inl is ↦ ranked k x.0 Less (sym (ap (λ (y : ℕ × V). nat_cmp k y.0) is ∙ below))
  | inr rest ↦ later_above k es x (below_before nat_cmp nat_order k e.0 es below asc.0) asc.1 rest
]

-- the routes of the VRF are scanned but for those that are left
pub record IsScanning (all left : Entries RouteRec) (keys : List RouteKey) (vrf : ℕ) (old level : Level) : Type 0 where
  pub grown : IsGrown (listed rib_of all) old level
  pub taken : (x : ℕ × NodeView RouteRec) → Contains all x → (rib_of x.0).vrf ≡ vrf → Contains left x ⊎ (has_hop_in keys (rib_of x.0) x.1.value ≡ true → Contains level.keys (key_of_rib (rib_of x.0)))
  pub among : (x : ℕ × NodeView RouteRec) → Contains left x → Contains all x × IsRibNumber x.0 × (vrf_number vrf ≤ x.0)
  pub ascends : Ascends nat_cmp left

-- where none that is left is of the VRF, all are scanned
scanned-of : (all left : Entries RouteRec) (keys : List RouteKey) (vrf : ℕ) (old level : Level) → IsScanning all left keys vrf old level → ((x : ℕ × NodeView RouteRec) → Contains left x → (rib_of x.0).vrf ≡ vrf → ⊥) → IsVrfScanned (listed rib_of all) keys vrf old level
scanned-of all left keys vrf old level is none = record {
  grown = is.grown;
  taken = λ e has of_vrf steps.
      let at = contains_map of_entry all e has in
      elim (is.taken at.0 at.1 (ap (λ (y : RibKey × RouteRec). y.0.vrf) at.2 ∙ of_vrf)) [
        | inl there ↦ absurd (none at.0 there (ap (λ (y : RibKey × RouteRec). y.0.vrf) at.2 ∙ of_vrf))
        | inr done ↦ subst (λ (y : RibKey × RouteRec). Contains level.keys (key_of_rib y.0)) at.2 (done (ap (λ (y : RibKey × RouteRec). has_hop_in keys y.0 y.1) at.2 ∙ steps))
      ];
}

pub scan-start : (all walk : Entries RouteRec) (keys : List RouteKey) (vrf bound : ℕ) (level : Level) → bound ≡ vrf_number vrf → walk ≡ onward nat_cmp bound all → All (λ e. IsRibNumber e.0) all → Ascends nat_cmp all → IsScanning all walk keys vrf level level
scan-start all walk keys vrf bound level bound_is over numbers asc =
    let walk_is : walk ≡ onward nat_cmp (vrf_number vrf) all = over ∙ ap (λ (n : ℕ). onward nat_cmp n all) bound_is in
    subst (λ (l : Entries RouteRec). IsScanning all l keys vrf level level) (sym walk_is) (record {
      grown = grown-none (listed rib_of all) level;
      taken = λ x has of_vrf. inl (filter_contains passes all x has (onto x has of_vrf));
      among = λ x has. let at = contains_filter passes all x has in (at.0, number x at.0, within_vrf x at.1);
      ascends = ascends-filter_entries nat_cmp nat_order passes all asc;
    })
  where
    passes : ℕ × NodeView RouteRec → Bool
    passes e = is_ge (nat_cmp e.0 (vrf_number vrf))

    number : (x : ℕ × NodeView RouteRec) → Contains all x → IsRibNumber x.0
    number x has = All-contains (λ (e : ℕ × NodeView RouteRec). IsRibNumber e.0) all x numbers has

    within_vrf : (x : ℕ × NodeView RouteRec) → passes x ≡ true → vrf_number vrf ≤ x.0
    within_vrf x is = elim (cases_lt x.0 (vrf_number vrf)) [
      | inl lt ↦ absurd (true≢false (sym is ∙ dropped x.0 (vrf_number vrf) lt))
      | inr le ↦ le
    ]

    onto : (x : ℕ × NodeView RouteRec) → Contains all x → (rib_of x.0).vrf ≡ vrf → passes x ≡ true
    onto x has of_vrf = elim (cases_lt x.0 (vrf_number vrf)) [
      | inl lt ↦ absurd (below_front x.0 vrf (vrf_front x.0 (number x has) ∙ of_vrf) lt)
      | inr le ↦ reached x.0 (vrf_number vrf) le
    ]

module _ (all met left : Entries RouteRec) (keys : List RouteKey) (vrf : ℕ) (old level : Level) (e : ℕ × NodeView RouteRec) (first : met ≡ e ∷ left) (is : IsScanning all met keys vrf old level) where
  here : Contains met e
  here = subst (λ (l : Entries RouteRec). Contains l e) (sym first) (contains_first e left)

  pub scan-number : IsRibNumber e.0
  scan-number = (is.among e here).1

  pub scan-more : (next : Level) → IsScanned keys (rib_of e.0) e.1.value level next → IsScanning all left keys vrf old next
  scan-more next scan = record {
    grown = grown-on (listed rib_of all) old level next is.grown (grown-wider (listed rib_of all) (of_entry e) level next (map_contains of_entry all e (is.among e here).0) scan.grown);
    taken = λ x has of_vrf. elim (is.taken x has of_vrf) [
      | inl there ↦ elim (contains_cases e left x (subst (λ (l : Entries RouteRec). Contains l x) first there)) [
        | inl same ↦ inr (subst (λ (y : ℕ × NodeView RouteRec). has_hop_in keys (rib_of y.0) y.1.value ≡ true → Contains next.keys (key_of_rib (rib_of y.0))) (sym same) scan.taken)
        | inr rest ↦ inl rest
      ]
      | inr done ↦ inr (λ steps. scan.grown.kept (key_of_rib (rib_of x.0)) (done steps))
    ];
    among = λ x has. is.among x (subst (λ (l : Entries RouteRec). Contains l x) (sym first) (contains_later e left x has));
    ascends = (subst (λ (l : Entries RouteRec). Ascends nat_cmp l) first is.ascends).1;
  }

  -- past a route of another VRF there is none of this one
  pub scan-stop : (field 0 16 e.0 == vrf) ≡ false → IsVrfScanned (listed rib_of all) keys vrf old level
  scan-stop other = scanned-of all met keys vrf old level is none_left
    where
      asc : Ascends nat_cmp (e ∷ left)
      asc = subst (λ (l : Entries RouteRec). Ascends nat_cmp l) first is.ascends

      apart : field 0 16 e.0 ≢ vrf
      apart same = true≢false (sym ((Decides-eqb (field 0 16 e.0) vrf).1 same) ∙ other)

      beyond : vrf < e.0 / 2 ^ 176
      beyond = above_front e.0 vrf (is.among e here).2 (λ same. apart (sym (vrf_front e.0 scan-number) ∙ same))

      none_left : (x : ℕ × NodeView RouteRec) → Contains met x → (rib_of x.0).vrf ≡ vrf → ⊥
      none_left x has of_vrf = elim (contains_cases e left x (subst (λ (l : Entries RouteRec). Contains l x) first has)) [
        | inl same ↦ apart (ap (λ (y : ℕ × NodeView RouteRec). field 0 16 y.0) (sym same) ∙ of_vrf)
        | inr rest ↦
            let above : e.0 < x.0 = later_above e.0 left x asc.0 asc.1 rest in
            let up : e.0 / 2 ^ 176 ≤ x.0 / 2 ^ 176 = div_mono e.0 x.0 (2 ^ 176) (pow_pos 176) (omega (arith, above)) in
            let read : x.0 / 2 ^ 176 ≡ vrf = vrf_front x.0 (is.among x has).1 ∙ of_vrf in
            omega (arith, beyond, up, read)
      ]

pub scan-end : (all left : Entries RouteRec) (keys : List RouteKey) (vrf : ℕ) (old level : Level) → left ≡ [] → IsScanning all left keys vrf old level → IsVrfScanned (listed rib_of all) keys vrf old level
scan-end all left keys vrf old level none is = scanned-of all left keys vrf old level is (λ x has _. contains_none x (subst (λ (l : Entries RouteRec). Contains l x) none has))

pub scan-done : {F : Type 0} (r : Result (Unit {0}) F) (routes : List (RibKey × RouteRec)) (keys : List RouteKey) (last : Option RouteKey) (vrf : ℕ) (old new : Level) → OnOk r (IsVrfScanned routes keys vrf old new) → OnOk r (IsVrfDone routes keys last vrf old new)
scan-done (Ok _) routes keys last vrf old new scanned = inr scanned
scan-done (Err _) routes keys last vrf old new scanned = tt

-- VRF by VRF: the routes of each VRF that has a key up to the last one are scanned
pub record IsLevelling (routes : List (RibKey × RouteRec)) (keys : List RouteKey) (last : Option RouteKey) (level : Level) : Type 0 where
  pub grown : IsGrown routes (record { keys = keys; grew = false }) level
  pub among : (k : RouteKey) → last ≡ Some k → Contains keys k
  pub done : (k : RouteKey) → Contains keys k → is_past last k ≡ false → (e : RibKey × RouteRec) → Contains routes e → e.0.vrf ≡ k.vrf → has_hop_in keys e.0 e.1 ≡ true → Contains level.keys (key_of_rib e.0)

pub levelling-start : (routes : List (RibKey × RouteRec)) (keys : List RouteKey) (level : Level) → level.keys ≡ keys → level.grew ≡ false → IsLevelling routes keys None level
levelling-start routes keys level same still = record {
  grown = record {
    kept = λ k has. subst (λ (l : List RouteKey). Contains l k) (sym same) has;
    same = inl (level_is level keys same still);
  };
  among = λ k is. absurd (none_some is);
  done = λ k has past. absurd (true≢false past);
}
  where
    level_is : (l : Level) (ks : List RouteKey) → l.keys ≡ ks → l.grew ≡ false → l ≡ record { keys = ks; grew = false }
    level_is l ks is is2 = ap (λ (x : List RouteKey). record l { keys = x }) is ∙ ap (λ (b : Bool). record { keys = ks; grew = b }) is2

module _ (routes : List (RibKey × RouteRec)) (keys : List RouteKey) (last : Option RouteKey) (level : Level) (asc : IsStrictlySortedBy route_cmp keys) (is : IsLevelling routes keys last level) where
  pub levelling-end : None ≡ key_after last keys → IsLevel routes keys level
  levelling-end none = record {
    kept = is.grown.kept;
    taken = λ e has steps.
        let at = key_of_vrf keys e.0 e.1 steps in
        elim (cases_Bool (is_past last at.0)) [
          | inl past ↦ absurd ((next-of last keys None asc none) at.0 at.1 past)
          | inr before ↦ is.done at.0 at.1 before e has (sym at.2) steps
        ];
    same = λ still. elim is.grown.same [
      | inl one ↦ ap (λ (l : Level). l.keys) one
      | inr new ↦ absurd (true≢false (sym new.0 ∙ still))
    ];
    came = λ grew. elim is.grown.same [
      | inl one ↦ absurd (true≢false (sym grew ∙ ap (λ (l : Level). l.grew) one))
      | inr new ↦ new.1
    ];
  }

  module _ (key : RouteKey) (next_is : Some key ≡ key_after last keys) where
    next : IsFirstPast last keys key
    next = next-of last keys (Some key) asc next_is

    pub levelling-fewer : length (filter (is_past (Some key)) keys) < length (filter (is_past last) keys)
    levelling-fewer = filter_fewer (is_past (Some key)) (is_past last) keys (λ k past. past_more last key k next.past past) key next.among next.past (not_past key)

    module _ (new : Level) (scan : IsVrfDone routes keys last key.vrf level new) where
      grown_more : IsGrown routes level new
      grown_more = elim scan [
        | inl still ↦ subst (λ (l : Level). IsGrown routes level l) (sym still.1) (grown-none routes level)
        | inr scanned ↦ scanned.grown
      ]

      -- a VRF that was scanned before has the last key
      of_last : (o : Option RouteKey) → last ≡ o → is_key_of key.vrf o ≡ true → (e : RibKey × RouteRec) → Contains routes e → e.0.vrf ≡ key.vrf → has_hop_in keys e.0 e.1 ≡ true → Contains level.keys (key_of_rib e.0)
      of_last None last_is holds e has of_vrf steps = absurd (true≢false (sym holds))
      of_last (Some l) last_is holds e has of_vrf steps = is.done l (is.among l last_is) (ap (λ (o : Option RouteKey). is_past o l) last_is ∙ not_past l) e has (of_vrf ∙ sym ((Decides-eqb l.vrf key.vrf).0 holds)) steps

      at_key : (e : RibKey × RouteRec) → Contains routes e → e.0.vrf ≡ key.vrf → has_hop_in keys e.0 e.1 ≡ true → Contains new.keys (key_of_rib e.0)
      at_key e has of_vrf steps = elim scan [
        | inl still ↦ grown_more.kept (key_of_rib e.0) (of_last last refl still.0 e has of_vrf steps)
        | inr scanned ↦ scanned.taken e has of_vrf steps
      ]

      done_more : (k : RouteKey) → Contains keys k → is_past (Some key) k ≡ false → (e : RibKey × RouteRec) → Contains routes e → e.0.vrf ≡ k.vrf → has_hop_in keys e.0 e.1 ≡ true → Contains new.keys (key_of_rib e.0)
      done_more k has_k past e has of_vrf steps = elim (below_or_same key k past) [
        | inl same ↦ at_key e has (of_vrf ∙ ap (λ (x : RouteKey). x.vrf) same) steps
        | inr below ↦ elim (cases_Bool (is_past last k)) [
          | inl later ↦ absurd (true≢false (sym (next.first k has_k later) ∙ below))
          | inr before ↦ grown_more.kept (key_of_rib e.0) (is.done k has_k before e has of_vrf steps)
        ]
      ]

      pub levelling-more : IsLevelling routes keys (Some key) new
      levelling-more = record {
        grown = grown-on routes (record { keys = keys; grew = false }) level new is.grown grown_more;
        among = λ k same. subst (λ (x : RouteKey). Contains keys x) (some_is same) next.among;
        done = done_more;
      }

-- a list as a set
pub all-start : (keys all : List RouteKey) → all ≡ [] → HasAll (take 0 keys) all
all-start keys all none = record { exact = λ key. ((λ has. absurd (contains_none key (subst (λ (l : List RouteKey). Contains l key) none has))), (λ has. absurd (contains_none key has))) }

pub all-more : (keys all new : List RouteKey) (i : ℕ) (key : RouteKey) → i < length keys → key ≡ get_or keys i key → HasAll (take i keys) all → new ≡ insert route_cmp key all → HasAll (take (i + 1) keys) new
all-more keys all new i key within read so_far is =
    let front : take (i + 1) keys ≡ take i keys ++ key ∷ [] = take_more keys i key within ∙ ap (λ (k : RouteKey). take i keys ++ k ∷ []) (sym read) in
    record {
      exact = λ k. (
        (λ has. subst (λ (l : List RouteKey). Contains l k) (sym front) (elim (contains_insert route_cmp route_order key all k (subst (λ (l : List RouteKey). Contains l k) is has)) [
          | inl same ↦ subst (λ (x : RouteKey). Contains (take i keys ++ key ∷ []) x) (sym same) (Contains-push (take i keys) key)
          | inr old ↦ Contains-append_left (take i keys) (key ∷ []) k ((so_far.exact k).0 old)
        ])),
        (λ has. subst (λ (l : List RouteKey). Contains l k) (sym is) (insert_contains route_cmp route_order key all k (elim (Contains-push_cases (take i keys) key k (subst (λ (l : List RouteKey). Contains l k) front has)) [
          | inl old ↦ inr ((so_far.exact k).1 old)
          | inr same ↦ inl (sym same)
        ]))),
      );
    }
