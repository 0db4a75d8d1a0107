-- Counts as walks and loops over changes go on.
use Rattle.std.proofs.Common.{◌≡◌, ◌≢◌, ℕ, ◌+◌, ◌-◌, ◌^◌, ◌<◌, ◌≤◌, min, Bool, Option, None, Some, List, [], ◌∷◌, length, suc, if◌then◌else◌, refl, sym, ap, ◌∙◌, subst, arith}
use Rattle.std.specs.Borrow.{Bor}
use Rattle.std.specs.Option.{is_some, option_copied}
use Rattle.std.proofs.lemmas.List.Sums.{sum_by-cons}
use Rattle.keyed.specs.Keyed.{Ascends, at}
use Rattle.std.specs.Ordering.{nat_cmp}
use Rattle.node_core.specs.Node.{NodeView}
use Rattle.node_map.specs.TreeNode.{Entries}
use Rattle.state_delta.specs.Change.{ChangeView}
use Rattle.state_delta.specs.Delta.{IsDelta}
use Rattle.switch_model.specs.Totals.{counted}
use Rattle.switch_model.specs.declared.record.PortRec.{PortRec}
use Rattle.state_counts.specs.Counted.{KeepsUp, is_up, ports_up}
use Rattle.state_counts.proofs.Weights.{delta_explains, gained, kept, lost, weight, weight_of}

-- what is left of all was not counted yet
pub record IsCounting (count left all : ℕ) : Type 0 where
  pub within : left ≤ all
  pub so_far : count ≡ counted (all - left)

pub counting_begins : (count left all : ℕ) → count ≡ 0 → left ≡ all → IsCounting count left all
counting_begins count left all none whole = record { within = omega (arith, whole); so_far = omega (arith, none, whole) }

more_of : (count after left rest all more : ℕ) → left ≡ more + rest → after ≡ min (count + more) (2 ^ 64 - 1) → left ≤ all → count ≡ min (all - left) (2 ^ 64 - 1) → after ≡ min (all - rest) (2 ^ 64 - 1)
more_of count after left rest all more met put within so_far = omega (arith, met, put, within, so_far)

pub counts_more : (count after left rest all more : ℕ) → left ≡ more + rest → after ≡ counted (count + more) → IsCounting count left all → IsCounting after rest all
counts_more count after left rest all more met put is = record { within = let w = is.within in omega (arith, met, w); so_far = more_of count after left rest all more met put is.within is.so_far }

pub first_counts : {A : Type 0} (x : A) (met left : List A) → met ≡ x ∷ left → length met ≡ 1 + length left
first_counts x met left first = let h : length met ≡ suc (length left) = ap length first in omega (arith, h)

pub counting_ends : (count left all : ℕ) → left ≡ 0 → IsCounting count left all → count ≡ counted all
counting_ends count left all none is = let so_far : count ≡ min (all - left) (2 ^ 64 - 1) = is.so_far in omega (arith, none, so_far)

-- one entry, and one port
abbrev pub one : {T : Type 0} → T → ℕ
one v = 1

abbrev pub up_one : PortRec → ℕ
up_one port = if port.up then 1 else 0

pub length-weight : {T : Type 0} (es : Entries T) → weight one es ≡ length es
length-weight [] = refl
length-weight (e ∷ es) = omega (arith, length-weight es)

pub ups_first : (e : ℕ × NodeView PortRec) (es : Entries PortRec) → ports_up (e ∷ es) ≡ up_one e.1.value + ports_up es
ups_first e es = sum_by-cons (λ (x : ℕ × NodeView PortRec). if x.1.value.up then 1 else 0) e es

pub ups-weight : (es : Entries PortRec) → weight up_one es ≡ ports_up es
ups-weight [] = refl
ups-weight (e ∷ es) = ap (λ (n : ℕ). up_one e.1.value + n) (ups-weight es) ∙ sym (ups_first e es)

-- where the count was the whole one, it lacks what the changes that are left bring, and has what they take away
module _ {T : Type 0} (w : T → ℕ) where
  pub record IsFollowing (count now : ℕ) (left : List (ℕ × ChangeView T)) (old new : ℕ) : Type 0 where
    pub fits : now < 2 ^ 64
    pub follows : (others : ℕ) → count ≡ counted (old + others) → now + gained w left ≡ new + others + lost w left

  begun : (count now old new others gain loss : ℕ) → now ≡ count → count ≢ 2 ^ 64 - 1 → count ≡ counted (old + others) → old + gain ≡ new + loss → now + gain ≡ new + others + loss
  begun count now old new others gain loss same small whole sums = omega (arith, same, small, whole, sums)

  pub following_begins : (count : ℕ) (old new : Entries T) (given left : List (ℕ × ChangeView T)) → left ≡ given → count < 2 ^ 64 → count ≢ 2 ^ 64 - 1 → Ascends nat_cmp old → Ascends nat_cmp new → IsDelta old new given → ((key : ℕ) → at nat_cmp key given ≡ None → at nat_cmp key old ≡ at nat_cmp key new) → IsFollowing count count left (weight w old) (weight w new)
  following_begins count old new given left same fits small old_asc new_asc is unlisted = subst (λ (l : List (ℕ × ChangeView T)). IsFollowing count count l (weight w old) (weight w new)) (sym same) (record {
    fits = fits;
    follows = λ others whole. begun count count (weight w old) (weight w new) others (gained w given) (lost w given) refl small whole (kept w old new given old_asc new_asc is.ascends (delta_explains old new given is unlisted));
  })

  moved : (now after was is gain loss new others : ℕ) → after + was ≡ now + is → now + (is + gain) ≡ new + others + (was + loss) → after + gain ≡ new + others + loss
  moved now after was is gain loss new others step before = omega (arith, step, before)

  pub follows_more : (count now after was is old new : ℕ) (c : ℕ × ChangeView T) (met left : List (ℕ × ChangeView T)) → met ≡ c ∷ left → was ≡ weight_of w c.1.old → is ≡ weight_of w c.1.new → after + was ≡ now + is → after < 2 ^ 64 → IsFollowing count now met old new → IsFollowing count after left old new
  follows_more count now after was is old new c met left first was_is is_is step fits before = record {
    fits = fits;
    follows = λ others whole. moved now after (weight_of w c.1.old) (weight_of w c.1.new) (gained w left) (lost w left) new others (ap (λ (n : ℕ). after + n) (sym was_is) ∙ step ∙ ap (λ (n : ℕ). now + n) is_is) (subst (λ (l : List (ℕ × ChangeView T)). now + gained w l ≡ new + others + lost w l) first (before.follows others whole));
  }

  ended : (now whole : ℕ) → now < 2 ^ 64 → now + 0 ≡ whole + 0 → now ≡ counted whole
  ended now whole fits same = omega (arith, fits, same)

  pub following_ends : (count now old new : ℕ) (left : List (ℕ × ChangeView T)) → left ≡ [] → IsFollowing count now left old new → KeepsUp count old now new
  following_ends count now old new left none is = λ others whole. ended now (new + others) is.fits (subst (λ (l : List (ℕ × ChangeView T)). now + gained w l ≡ new + others + lost w l) none (is.follows others whole))

-- a link to a record is there where the record is
pub copied_there : {T : Type 0} (o : Option (Bor T)) → is_some o ≡ is_some (option_copied o)
copied_there None = refl
copied_there (Some v) = refl

-- whether an entry counts, as a number
pub some_one : {T : Type 0} (there : Bool) (o : Option T) → there ≡ is_some o → (if there then 1 else 0) ≡ weight_of one o
some_one there None is = rw is refl
some_one there (Some v) is = rw is refl

pub up_one_is : (up : Bool) (o : Option PortRec) → up ≡ is_up o → (if up then 1 else 0) ≡ weight_of up_one o
up_one_is up None is = rw is refl
up_one_is up (Some v) is = rw is refl

pub all_followed : {T : Type 0} (count now : ℕ) (old new : Entries T) (left : List (ℕ × ChangeView T)) → left ≡ [] → IsFollowing one count now left (weight one old) (weight one new) → KeepsUp count (length old) now (length new)
all_followed count now old new left none is = subst (λ (n : ℕ). KeepsUp count (length old) now n) (length-weight new) (subst (λ (n : ℕ). KeepsUp count n now (weight one new)) (length-weight old) (following_ends one count now (weight one old) (weight one new) left none is))

pub ups_followed : (count now : ℕ) (old new : Entries PortRec) (left : List (ℕ × ChangeView PortRec)) → left ≡ [] → IsFollowing up_one count now left (weight up_one old) (weight up_one new) → KeepsUp count (ports_up old) now (ports_up new)
ups_followed count now old new left none is = subst (λ (n : ℕ). KeepsUp count (ports_up old) now n) (ups-weight new) (subst (λ (n : ℕ). KeepsUp count n now (weight up_one new)) (ups-weight old) (following_ends up_one count now (weight up_one old) (weight up_one new) left none is))

-- one map after another, and a count that is of no others
joined : (a b c : ℕ) → counted (a + b + c) ≡ counted (a + (b + c))
joined a b c = ap counted (omega arith)

crossed : (a b c : ℕ) → counted (a + (b + c)) ≡ counted (b + (a + c))
crossed a b c = ap counted (omega arith)

pub both_keep_up : (before a a2 middle b b2 now : ℕ) → KeepsUp before a middle a2 → KeepsUp middle b now b2 → KeepsUp before (a + b) now (a2 + b2)
both_keep_up before a a2 middle b b2 now first second = λ others whole.
    second (a2 + others) (first (b + others) (whole ∙ joined a b others) ∙ crossed a2 b others) ∙ crossed b2 a2 others ∙ sym (joined a2 b2 others)

no_more : (n : ℕ) → counted (n + 0) ≡ counted n
no_more n = ap counted (omega arith)

pub kept_alone : (before old now new : ℕ) → KeepsUp before old now new → before ≡ counted old → now ≡ counted new
kept_alone before old now new keeps whole = keeps 0 (whole ∙ sym (no_more old)) ∙ no_more new
