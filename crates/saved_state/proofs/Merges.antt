-- Neighbours by ARP and by NDP as one list, row by row.
use Rattle.std.proofs.Common.{◌≡◌, [], ◌∷◌, ◌++◌, true, false, refl, sym, ap, ◌∙◌, subst, append_assoc, append-nil, arith}
use Rattle.std.specs.Ordering.{is_lt}
use Rattle.std.specs.declared.cmp.Ordering.{Ordering}
use Rattle.std.specs.declared.cmp.Ordering.TheVariants.{Less, Equal, Greater}
use Rattle.std.proofs.lemmas.Bool.{true≢false}
use Rattle.keyed.specs.Keyed.{Ascends, IsBelow}
use Rattle.node_map.specs.TreeNode.{Entries}
use Rattle.switch_model.specs.declared.key.NeighborKey.{NeighborKey}
use Rattle.switch_model.specs.declared.record.NeighborRec.{NeighborRec}
use Rattle.switch_model.specs.StateKeys.{neighbor_cmp, neighbor_order}
use Rattle.state_keys.specs.PartKeys.{arp_of, family, ndp_of}
use Rattle.state_scan.specs.Listed.{listed}
use Rattle.state_scan.specs.Together.{together}
use Rattle.saved_state.specs.Merging.{AreOfFamily, IsNotBehind, IsPushed, IsPushing, Rows}
use Rattle.saved_state.proofs.Merged.{below_left, first_first, others_first}
use Rattle.saved_state.proofs.Rows.{each_and, each_behind}

-- ---- families

pub arps_of_family : (es : Entries NeighborRec) → AreOfFamily 0 (listed arp_of es)
arps_of_family [] = tt
arps_of_family (e ∷ es) = (refl, arps_of_family es)

pub ndps_of_family : (es : Entries NeighborRec) → AreOfFamily 1 (listed ndp_of es)
ndps_of_family [] = tt
ndps_of_family (e ∷ es) = (refl, ndps_of_family es)

-- ---- those before a key

pub none_pushed : (key : NeighborKey) (all rows : Rows) → IsPushing key all all rows rows
none_pushed key all rows = record { moved = []; lower = tt; whole = refl; put_last = sym (append-nil rows) }

is_less : (o : Ordering) → is_lt o ≡ true → o ≡ Less
is_less Less h = refl
is_less Equal h = absurd (true≢false (sym h))
is_less Greater h = absurd (true≢false (sym h))

not_less : (o : Ordering) → is_lt o ≡ false → o ≡ Less → ⊥
not_less o h less = true≢false (ap is_lt (sym less) ∙ h)

pub one_pushed : (key : NeighborKey) (all met left before rows after : Rows) (row : NeighborKey × NeighborRec) → met ≡ row ∷ left → IsPushing key all met before rows → is_lt (neighbor_cmp row.0 key) ≡ true → after ≡ rows ++ row ∷ [] → IsPushing key all left before after
one_pushed key all met left before rows after row first is lower pushed = record {
  moved = is.moved ++ row ∷ [];
  lower = each_and (λ (e : NeighborKey × NeighborRec). neighbor_cmp e.0 key ≡ Less) is.moved (row ∷ []) is.lower (is_less _ lower, tt);
  whole = is.whole ∙ ap (λ (l : Rows). is.moved ++ l) first ∙ sym (append_assoc is.moved (row ∷ []) left);
  put_last = pushed ∙ ap (λ (l : Rows). l ++ row ∷ []) is.put_last ∙ append_assoc before is.moved (row ∷ []);
}

pub pushed_all : (key : NeighborKey) (all left before after : Rows) → left ≡ [] → IsPushing key all left before after → IsPushed key all left before after
pushed_all key all left before after none is = record { some = is; later = subst (IsNotBehind key) (sym none) tt }

pub pushed_to : (key : NeighborKey) (all left behind before after : Rows) (row : NeighborKey × NeighborRec) → left ≡ row ∷ behind → is_lt (neighbor_cmp row.0 key) ≡ false → IsPushing key all left before after → IsPushed key all left before after
pushed_to key all left behind before after row first later is = record { some = is; later = subst (IsNotBehind key) (sym first) (not_less (neighbor_cmp row.0 key) later) }

-- ---- both lists

-- some rows are made one list, and the rest are left
pub record IsMerging (done arps ndps all : Rows) : Type 0 where
  pub whole : all ≡ done ++ together neighbor_cmp arps ndps
  pub up : Ascends neighbor_cmp arps
  pub fours : AreOfFamily 0 arps
  pub sixes : AreOfFamily 1 ndps

pub merging_begins : (done arps met ndps : Rows) → done ≡ [] → met ≡ arps → Ascends neighbor_cmp arps → AreOfFamily 0 arps → AreOfFamily 1 ndps → IsMerging done met ndps (together neighbor_cmp arps ndps)
merging_begins done arps met ndps none same up fours sixes = record {
  whole = ap (λ (l : Rows). together neighbor_cmp l ndps) (sym same) ∙ ap (λ (l : Rows). l ++ together neighbor_cmp met ndps) (sym none);
  up = subst (Ascends neighbor_cmp) (sym same) up;
  fours = subst (AreOfFamily 0) (sym same) fours;
  sixes = sixes;
}

below_rest : (key : NeighborKey) (ndps : Rows) → family key.ip ≡ 0 → AreOfFamily 1 ndps → IsNotBehind key ndps → IsBelow neighbor_cmp key ndps
below_rest key [] four sixes later = tt
below_rest key (n ∷ ns) four sixes later = below_left neighbor_cmp neighbor_order key n.0 later
    (λ same. let zero_is_one : family n.0.ip ≡ 0 = ap (λ (k : NeighborKey). family k.ip) (sym same) ∙ four in omega (arith, sixes.0, zero_is_one))

pub merges_more : (done between after met arps ndps left all : Rows) (arp : NeighborKey × NeighborRec) → met ≡ arp ∷ arps → IsMerging done met ndps all
    → IsPushed arp.0 ndps left done between → after ≡ between ++ arp ∷ [] → IsMerging after arps left all
merges_more done between after met arps ndps left all arp first was pushed put =
    let is : IsMerging done (arp ∷ arps) ndps all = subst (λ (m : Rows). IsMerging done m ndps all) first was in
    let moved = pushed.some.moved in
    let sixes : AreOfFamily 1 left = each_behind (λ (e : NeighborKey × NeighborRec). family e.0.ip ≡ 1) moved left (subst (AreOfFamily 1) pushed.some.whole is.sixes) in
    let rest : Rows = together neighbor_cmp arps left in
    let both : together neighbor_cmp (arp ∷ arps) ndps ≡ moved ++ (arp ∷ rest) =
    ap (together neighbor_cmp (arp ∷ arps)) pushed.some.whole
    ∙ others_first neighbor_cmp neighbor_order moved arp arps left is.up pushed.some.lower
    ∙ ap (λ (l : Rows). moved ++ l) (first_first neighbor_cmp neighbor_order arp arps left is.up (below_rest arp.0 left is.fours.0 sixes pushed.later)) in
    record {
      whole = is.whole ∙ ap (λ (l : Rows). done ++ l) both
          ∙ sym (ap (λ (l : Rows). l ++ rest) (put ∙ ap (λ (l : Rows). l ++ arp ∷ []) pushed.some.put_last)
          ∙ append_assoc (done ++ moved) (arp ∷ []) rest ∙ append_assoc done moved (arp ∷ rest));
      up = is.up.1;
      fours = is.fours.1;
      sixes = sixes;
    }

pub all_merged : (done after met ndps all : Rows) → met ≡ [] → IsMerging done met ndps all → after ≡ done ++ ndps → after ≡ all
all_merged done after met ndps all none is put = put ∙ sym (is.whole ∙ ap (λ (l : Rows). done ++ together neighbor_cmp l ndps) none)
