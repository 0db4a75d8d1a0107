-- Where observers stand as rounds are published.
use Rattle.std.proofs.Common.{◌≡◌, ◌≢◌, ◌≤◌, ◌⊎◌, ◌+◌, ◌-◌, ◌^◌, min, true, List, [], ◌∷◌, inl, inr, refl, sym, ap, subst, ◌∙◌, arith}
use Rattle.std.specs.List.{AllByRecursion, AllZip}
use Rattle.journal_laws.proofs.EndLaws.{end_grows, end_last, fold_upto_grown, journal_prefix_self, upto_beginning, version_upto_grown}
use Rattle.observers.specs.Turns.{WasTold}
use Rattle.observers.specs.Watch.{Rose, StandsAt, Watch, at_state, counts_of}
use Rattle.switch_model.specs.Journal.{Journal, IsJournalPrefix, fold, len, upto, version_of}
use Rattle.switch_model.specs.Legal.{IsLegal}
use Rattle.switch_model.specs.Totals.{totals}
use Rattle.switch_state.proofs.Following.{follows_third}
use Rattle.switch_state.specs.Follows.{AreMadeBy, Follows, PartsFollow}
use Rattle.switch_state.specs.Plain.{plain}
use Rattle.switch_state.specs.StateView.{StateView}
use Rattle.state_laws.specs.Fib.{HasFib}
use Rattle.core_laws.specs.Audience.{AudienceView, IsHeard, IsLatest, IsStanding, IsUpToDate, WereBegun, WereTold}
use Rattle.core_laws.specs.Published.{IsPublished, PublishedView, journal_of}

-- a state that follows another follows itself

itself_made : (t : StateView) → AreMadeBy t.version t → PartsFollow t.version t t
itself_made t made = record {
  vlans = record { made_by = made.vlans; each = λ n h. inr h };
  ports = record { made_by = made.ports; each = λ n h. inr h };
  intfs = record { made_by = made.intfs; each = λ n h. inr h };
  macs = record { made_by = made.macs; each = λ n h. inr h };
  arps = record { made_by = made.arps; each = λ n h. inr h };
  ndps = record { made_by = made.ndps; each = λ n h. inr h };
  routes = record { made_by = made.routes; each = λ n h. inr h };
  fibs = record { made_by = made.fibs; each = λ n h. inr h };
}

pub second_follows : (s t : StateView) → Follows s t → Follows t t
second_follows s t follows = record { order = omega arith; old_made = follows.new_made; new_made = follows.new_made; parts = itself_made t follows.new_made }

-- the counts of a state with its FIB
pub counts_are : (s : StateView) → HasFib s → counts_of s ≡ totals (plain s)
counts_are s has = rw has.fib refl

-- all of a list, pair by pair

pub all_so : {A : Type 0} (P Q : A → Type 0) (xs : List A) → ((x : A) → P x → Q x) → AllByRecursion P xs → AllByRecursion Q xs
all_so P Q [] f all = tt
all_so P Q (x ∷ xs) f all = (f x all.0, all_so P Q xs f all.1)

pub all_turned : {A : Type 0} (P Q : A → Type 0) (R : A → A → Type 0) (xs ys : List A) → ((x y : A) → P x → R x y → Q y) → AllByRecursion P xs → AllZip R xs ys → AllByRecursion Q ys
all_turned P Q R [] [] f all pairs = tt
all_turned P Q R [] (y ∷ ys) f all pairs = absurd pairs
all_turned P Q R (x ∷ xs) [] f all pairs = absurd pairs
all_turned P Q R (x ∷ xs) (y ∷ ys) f all pairs = (f x y all.0 pairs.0, all_turned P Q R xs ys f all.1 pairs.1)

pub all_seconds : {A : Type 0} (Q : A → Type 0) (R : A → A → Type 0) (xs ys : List A) → ((x y : A) → R x y → Q y) → AllZip R xs ys → AllByRecursion Q ys
all_seconds Q R [] [] f pairs = tt
all_seconds Q R [] (y ∷ ys) f pairs = absurd pairs
all_seconds Q R (x ∷ xs) [] f pairs = absurd pairs
all_seconds Q R (x ∷ xs) (y ∷ ys) f pairs = (f x y pairs.0, all_seconds Q R xs ys f pairs.1)

-- an observer that was published stays so
standing_grows : (j k : Journal) (w : Watch) → IsJournalPrefix j k → IsStanding j w → IsStanding k w
standing_grows j k w begins is = record {
  front = is.front;
  end = end_grows j k is.front begins is.end;
  version = is.version ∙ sym (version_upto_grown j k is.front begins is.end);
  totals = is.totals ∙ sym (ap totals (fold_upto_grown j k is.front begins is.end));
}

-- one that stands at the state of the whole journal is at its end
at_end : (k : Journal) (t : StateView) (w : Watch) → IsLegal k → t.version ≡ version_of k → plain t ≡ fold k → HasFib t → StandsAt t w → IsStanding k w
at_end k t w legal version_is plain_is fib at =
    let whole : upto k (len k) ≡ k = upto_beginning k k legal (journal_prefix_self k) in
    record {
      front = len k;
      end = end_last k;
      version = at.version ∙ version_is ∙ sym (ap version_of whole);
      totals = at.totals ∙ counts_are t fib ∙ ap totals plain_is ∙ sym (ap (λ (x : Journal). totals (fold x)) whole);
    }

pub told_stands : (t : StateView) (w v : Watch) → v ≡ at_state t w → StandsAt t v
told_stands t w v e = rw e (record { version = refl; totals = refl })

-- one that refused is where it was
pub refused_stands : (x : StateView) (w v : Watch) → StandsAt x w → (w.sure ≢ true) × (v ≡ record w { refusals = v.refusals }) × Rose w.refusals v.refusals → StandsAt x v
refused_stands x w v p r = rw r.1 (record { version = p.version; totals = p.totals })

refused_standing : (k : Journal) (w v : Watch) → v ≡ record w { refusals = v.refusals } → IsStanding k w → IsStanding k v
refused_standing k w v e is = record { front = is.front; end = is.end; version = ap (λ (x : Watch). x.version) e ∙ is.version; totals = ap (λ (x : Watch). x.totals) e ∙ is.totals }

refused_late : (t : StateView) (w v : Watch) → (w.sure ≢ true) × (v ≡ record w { refusals = v.refusals }) × Rose w.refusals v.refusals → IsUpToDate t v
refused_late t w v r (inl sure) = absurd (r.0 (sym (ap (λ (x : Watch). x.sure) r.1) ∙ sure))
refused_late t w v r (inr none) = let rose : min (w.refusals + 1) (2 ^ 64 - 1) ≤ v.refusals = r.2 in absurd (omega (arith, rose, none))

-- after a round in which no version came, all is as before
pub heard_stays : (j k : Journal) (s t : StateView) (a : AudienceView) → IsJournalPrefix j k → t ≡ s → IsHeard j s a → IsHeard k t a
heard_stays j k s t a begins same is = record {
  stands = is.stands;
  follows = subst (λ (x : StateView). AllByRecursion (λ y. Follows y x) a.kept) (sym same) is.follows;
  standing = all_so (IsStanding j) (IsStanding k) a.watches (λ w. standing_grows j k w begins) is.standing;
  latest = subst (λ (x : StateView). AllByRecursion (IsUpToDate x) a.watches) (sym same) is.latest;
}

-- after one in which the observers were told, each is at the new state, or where it was
pub heard_told : (j k : Journal) (s t : StateView) (before now : AudienceView) → IsJournalPrefix j k → IsLegal k → Follows s t → t.version ≡ version_of k → plain t ≡ fold k → HasFib t →
    IsHeard j s before → WereTold t before now → IsHeard k t now
heard_told j k s t before now begins legal follows version_is plain_is fib is told = record {
  stands = told.stands;
  follows = all_turned (λ y. Follows y s) (λ y. Follows y t) (λ x y. (y ≡ x) ⊎ (y ≡ t)) before.kept now.kept kept is.follows told.kept;
  standing = all_turned (IsStanding j) (IsStanding k) (WasTold t) before.watches now.watches standing is.standing told.watches;
  latest = all_turned (IsUpToDate s) (IsUpToDate t) (WasTold t) before.watches now.watches latest is.latest told.watches;
}
  where
    kept : (x y : StateView) → Follows x s → (y ≡ x) ⊎ (y ≡ t) → Follows y t
    kept x y before (inl same) = subst (λ (z : StateView). Follows z t) (sym same) (follows_third before follows)
    kept x y before (inr new) = subst (λ (z : StateView). Follows z t) (sym new) (second_follows s t follows)

    standing : (w v : Watch) → IsStanding j w → WasTold t w v → IsStanding k v
    standing w v at (inl new) = at_end k t v legal version_is plain_is fib (told_stands t w v new)
    standing w v at (inr old) = refused_standing k w v old.1 (standing_grows j k w begins at)

    latest : (w v : Watch) → IsUpToDate s w → WasTold t w v → IsUpToDate t v
    latest w v at (inl new) = λ _. told_stands t w v new
    latest w v at (inr old) = refused_late t w v old

-- observers that were begun are at the opening state
pub heard_begun : (k : Journal) (t : StateView) (before now : AudienceView) → IsLegal k → Follows t t → t.version ≡ version_of k → plain t ≡ fold k → HasFib t → WereBegun t before now → IsHeard k t now
heard_begun k t before now legal follows version_is plain_is fib begun = record {
  stands = begun.stands;
  follows = all_so (λ y. y ≡ t) (λ y. Follows y t) now.kept (λ y e. subst (λ (z : StateView). Follows z t) (sym e) follows) begun.kept;
  standing = all_seconds (IsStanding k) (λ w v. v ≡ record (at_state t w) { refusals = 0 }) before.watches now.watches (λ w v e. at_end k t v legal version_is plain_is fib (begun_stands w v e)) begun.watches;
  latest = all_seconds (IsUpToDate t) (λ w v. v ≡ record (at_state t w) { refusals = 0 }) before.watches now.watches (λ w v e _. begun_stands w v e) begun.watches;
}
  where
    begun_stands : (w v : Watch) → v ≡ record (at_state t w) { refusals = 0 } → StandsAt t v
    begun_stands w v e = rw e (record { version = refl; totals = refl })

-- one that is sure, or never refused, is at the end of the journal
pub latest_is : (p : PublishedView) (w : Watch) → IsPublished p → (w.sure ≡ true) ⊎ (w.refusals ≡ 0) → IsUpToDate p.state w → IsLatest (journal_of p) w
latest_is p w is which at = record {
  version = (at which).version ∙ is.version;
  totals = (at which).totals ∙ counts_are p.state is.fib ∙ ap totals is.plain;
}
